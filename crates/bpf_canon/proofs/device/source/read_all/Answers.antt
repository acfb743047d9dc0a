use Rattle.std.proofs.Common.{rules, arith, ◌≡◌, ◌≤◌, ◌+◌, ◌++◌, ℕ, List, Result, Ok, Err, IfErr, IsErrAnd, length, take, length-append}
use Rattle.std.proofs.{lemmas.List.length-take-le, KnownBytes.Consumes-trans}
use Rattle.std.specs.Io.KnownBytes.{Consumes}
use Rattle.bpf_canon.specs.device.Reads.{EndsAmid, read_capacity}
use Rattle.bpf_canon.specs.declared.device.source.ReadError.{ReadError, TheVariants.Memory}
use Rattle.bpf_canon.proofs.device.source.read_all.Goals as goal

-- what `?` makes of a failed growth
refused : {T : Type 0} (P : ReadError → Type 0) (r : Result T ReadError) → IsErrAnd r (λ e. e ≡ Memory) → P Memory → IfErr r P
refused P (Ok x) e p = tt
refused P (Err x) e p = rw e p

pub returns-in_err-extend_from_slice-in-Ok-clause-amid : goal.returns-in_err-extend_from_slice-in-Ok-clause-amid
returns-in_err-extend_from_slice-in-Ok-clause-amid g c =
    let more = Consumes-trans _ _ _ _ _ c.reads.invariant.consumes c.in-Ok.ensures.bytes.0 in
    let room : c.in-Ok.n ≤ length c.read.new.buffer = search rules in
    let size = length-take-le c.in-Ok.n c.read.new.buffer room in
    let within : length (c.reads.bytes.items ++ take c.in-Ok.n c.read.new.buffer) ≤ c.args.limit + read_capacity =
    omega (arith, c.reads.invariant.within, room, size, length-append c.reads.bytes.items (take c.in-Ok.n c.read.new.buffer)) in
    let Amid : ReadError → Type 0 = λ e. (bytes : List ℕ)
    × (Consumes (g.S.ByteSource.remaining c.args.source.now) (g.S.ByteSource.remaining c.read.new.self) bytes × EndsAmid c.args.limit bytes e) in
    refused Amid c.from_residual.result c.from_residual.ensures.1 (c.reads.bytes.items ++ take c.in-Ok.n c.read.new.buffer, (more, within))
