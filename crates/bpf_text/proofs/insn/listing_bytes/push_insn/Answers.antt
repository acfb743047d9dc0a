use Rattle.std.proofs.Common.{◌≡◌, ◌-◌, [], ◌++◌, length, take, replicate, sym, ap, ◌∙◌, append-nil, rules}
use Rattle.std.proofs.Math.Seq.{take-append_seam}
use Rattle.bpf_insn.specs.Encoding.{encoding}
use Rattle.bpf_text.proofs.insn.listing_bytes.push_insn.Goals as goal

pub returns-then-encoded-eq8 : goal.returns-then-encoded-eq8
returns-then-encoded-eq8 g c =
    let made = c.insn_bytes-encoded in
    let s = encoding c.args.to c.args.insn in
    let len : 8 ≡ length s = sym c.if-encoded-eq8.true ∙ made.ensures.len in
    let zeros = replicate (16 - made.result.1) 0 in
    let front : take 8 made.result.0 ≡ s =
    ap (take 8) made.ensures.encoded ∙ ap (λ n. take n (s ++ zeros)) len ∙ take-append_seam s zeros in
    let whole : take 8 made.result.0 ≡ s ++ [] = front ∙ sym (append-nil s) in
    let items = rw whole at c.extend_from_slice.ensures.items in
    search rules
