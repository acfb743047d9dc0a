use Rattle.std.proofs.Common.{◌≡◌, ◌≤◌, ◌-◌, length, drop, decimal, ap, arith, rules}
use Rattle.std.proofs.lemmas.{Fmt.length-decimal-le, List.length-append, List.length-drop}
use Rattle.bpf_text.proofs.insn.write.Line.digits.Goals as goal

pub write_digits-self-inside-requires : goal.write_digits-self-inside-requires
write_digits-self-inside-requires c =
    let view : length (drop c.self.inside.start c.self.inside.bytes) ≡ length c.args.self.now = ap length c.self.view_is in
    let left : length (drop c.self.inside.start c.self.inside.bytes) ≡ length c.self.inside.bytes - c.self.inside.start = length-drop c.self.inside.start c.self.inside.bytes in
    search (rules, arith, length-decimal-le 20, view, left)

pub returns-clause-len : goal.returns-clause-len
returns-clause-len c =
    let view : length (drop c.self.inside.start c.self.inside.bytes) ≡ length c.args.self.now = ap length c.self.view_is in
    let few : length (decimal c.args.number) ≤ 20 = search (rules, arith, length-decimal-le 20) in
    rw c.write_digits-self-inside.ensures.written (omega (arith, few, view, length-append (decimal c.args.number) (drop c.self.inside.start c.self.inside.bytes)))
