use Rattle.std.proofs.Common.{◌≡◌, ℕ, List, false, sym, ap, ◌∙◌, arith}
use Rattle.std.specs.Str.{bytes_eq}
use Rattle.bpf_elf.specs.Names.{string_at}
use Rattle.bpf_object.specs.Lines.{name_of}
use Rattle.bpf_object.specs.Sources.{section}
use Rattle.bpf_object.proofs.CursorLemmas.{group_there, groups_after}
use Rattle.bpf_object.proofs.LineLemmas.{name_there, found_after}
use Rattle.bpf_object.proofs.section_groups.group_of.Goals as goal

pub word-requires : goal.word-requires
word-requires c =
    let has = group_there c.args.x c.args.part c.loop-rest.rest c.in-Some.group c.in-Some.is c.loop-rest.invariant.1 in
    omega (arith, has.head, has.inside, has.part.inside)

pub string_at-requires-clause-there : goal.string_at-requires-clause-there
string_at-requires-clause-there c =
    let has = group_there c.args.x c.args.part c.loop-rest.rest c.in-Some.group c.in-Some.is c.loop-rest.invariant.1 in
    rw c.word.ensures.value (name_there c.args.x c.args.part c.in-Some.group has)

pub returns-then-eq-clause-there : goal.returns-then-eq-clause-there
returns-then-eq-clause-there c = group_there c.args.x c.args.part c.loop-rest.rest c.in-Some.group c.in-Some.is c.loop-rest.invariant.1

pub next_in-rest-requires : goal.next_in-rest-requires
next_in-rest-requires c = group_there c.args.x c.args.part c.loop-rest.rest c.in-Some.group c.in-Some.is c.loop-rest.invariant.1

pub loop-rest-preserved : goal.loop-rest-preserved
loop-rest-preserved c =
    let s = section c.args.x in
    let text : c.string_at.result.now ≡ name_of s c.in-Some.group = c.string_at.ensures ∙ ap (string_at c.args.x.strings.now) c.word.ensures.value in
    let other : bytes_eq (name_of s c.in-Some.group) c.args.name.now ≡ false =
    ap (λ (t : List ℕ). bytes_eq t c.args.name.now) (sym text) ∙ sym c.eq.ensures ∙ c.if-eq.false in (
      sym (found_after s c.args.part (λ g. bytes_eq (name_of s g) c.args.name.now) c.loop-rest.rest c.in-Some.group _ c.in-Some.is c.next_in-rest.ensures other)
          ∙ c.loop-rest.invariant.0,
      groups_after c.args.x c.args.part c.loop-rest.rest c.in-Some.group _ c.in-Some.is c.next_in-rest.ensures c.loop-rest.invariant.1,
    )
