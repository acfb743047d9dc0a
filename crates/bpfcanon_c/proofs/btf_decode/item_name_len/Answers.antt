-- The name ends at the first NUL.
use Rattle.std.proofs.Common.{◌≡◌, ◌-◌, ◌∙◌, ℕ, Some, List, length, drop, ap, arith, length-take, length-drop}
use Rattle.std.specs.Prelude.{slice_get}
use Rattle.btf_raw.specs.Names.{IsEnd, NameAt}
use Rattle.btf_types.specs.{Values.TypeItem, Names.item_name, tables.TableWords.record_at}
use Rattle.btf_types.proofs.StringLemmas.LongEnds.{text_to_end}
use Rattle.std.proofs.lemmas.Option.{slice_get_within}
use Rattle.bpfcanon_c.proofs.btf_decode.item_name_len.Goals as goal

len_is : (bytes : List ℕ) (at end : ℕ) (name : List ℕ) → NameAt bytes at name → IsEnd bytes at end → end - at ≡ length name
len_is bytes at end name named is =
    omega (arith, ap length (text_to_end bytes at end name named is), length-take (end - at) (drop at bytes), length-drop at bytes, is.inside, is.from)

pub overflow_cast-result-in-Some : goal.overflow_cast-result-in-Some
overflow_cast-result-in-Some c =
    let named = c.requires.named in
    omega (arith, named.short, len_is c.args.bytes.now c.args.at c.in-Some.end (item_name named.item) named.named c.in-Some.ensures)

pub file_item-requires-clause-inside : goal.file_item-requires-clause-inside
file_item-requires-clause-inside c = slice_get_within (record_at c.args.table.now c.args.id).items c.args.k c.requires.named.item c.requires.named.is_there

pub returns-in-Some : goal.returns-in-Some
returns-in-Some c =
    λ i there.
    let named = c.requires.named in
    let was : slice_get (record_at c.args.table.now c.args.id).items c.args.k ≡ Some named.item = named.is_there in
    let same : named.item ≡ i = cc in
    len_is c.args.bytes.now c.args.at c.in-Some.end (item_name named.item) named.named c.in-Some.ensures ∙ ap (λ (x : TypeItem). length (item_name x)) same
