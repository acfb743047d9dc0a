use Rattle.std.proofs.Common.{take}
use Rattle.std.specs.Str.Parse.{AllDigits, digits_value}
use Rattle.bpf_text.specs.insn.Numbers.{IsMagnitude}
use Rattle.bpf_text.proofs.insn.number.digits_magnitude.Given as goal

abbrev pub invariant-loop-b : goal.invariant-loop-b
invariant-loop-b l = record {
  digits : AllDigits l.radix (take l.b-index l.digits);
  value : IsMagnitude l.number (digits_value l.radix (take l.b-index l.digits));
}
