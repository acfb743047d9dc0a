use Rattle.std.proofs.Common.{◌≡◌, ◌+◌, ◌-◌, List, ℕ, true, subst, arith}
use Rattle.bpf_elf.specs.Names.{is_closed}
use Rattle.bpf_object.proofs.AcceptedLemmas.{strings_there}
use Rattle.bpf_object.proofs.accepted.strings_in.Goals as goal

pub returns-clause-closed : goal.returns-clause-closed
returns-clause-closed c =
    let is = strings_there c.args.order c.args.types.now c.requires.types c.requires.strings c.requires.cut in
    let closed = subst (λ (strings : List ℕ). is_closed strings ≡ true) is c.requires.closed in
    let len : c.get32.result + c.get32-2.result + c.get32-3.result - (c.get32.result + c.get32-2.result) ≡ c.get32-3.result = omega arith in
    rw (len, c.get32.ensures.value, c.get32-2.ensures.value, c.get32-3.ensures.value) closed
