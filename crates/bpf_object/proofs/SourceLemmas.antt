-- A section that has been checked, with other new numbers of types.
use Rattle.std.proofs.Common.{ℕ, List, inl, inr}
use Rattle.std.specs.Borrow.{Bor}
use Rattle.bpf_object.specs.declared.{extension.Part.Part, source.Source.Source}
use Rattle.bpf_object.specs.declared.extension.Part.TheVariants.{Relocations}
use Rattle.bpf_object.specs.Sources.{IsSource, HasHeader, HasPart, HasGroup, HasGroups, HasParts}
use Rattle.bpf_object.specs.private.{NotedStrings.AreInside, WrittenTypes.IsRead}

module _ (x : Source) (numbers : Bor (List ℕ)) where
  abbrev y : Source
  y = record { order = x.order; start = x.start; bytes = x.bytes; strings = x.strings; numbers = numbers }

  source_again : IsSource x → IsSource y
  source_again s = record { strings = s.strings; start = s.start; short = s.short }

  header_again : HasHeader x → HasHeader y
  header_again h = record { source = source_again h.source; whole = h.whole }

  part_again : (p : Part) → HasPart x p → HasPart y p
  part_again p h = record { header = header_again h.header; inside = h.inside }

  group_again : (p : Part) (g : ℕ) → HasGroup x p g → HasGroup y p g
  group_again p g h = record { part = part_again p h.part; inside = h.inside; head = h.head; named = h.named }

  groups_again : (p : Part) → HasGroups x p → HasGroups y p
  groups_again p h = record { part = part_again p h.part; groups = λ i d lt. group_again p _ (h.groups i d lt) }

  parts_again : HasParts x → HasParts y
  parts_again h = record {
    functions = groups_again _ h.functions;
    lines = groups_again _ h.lines;
    relocations = groups_again _ h.relocations;
  }

  inside_again : (g : ℕ) → AreInside x Relocations g → AreInside y Relocations g
  inside_again g h = record { inside = h.inside }

  pub read_again : IsRead x → IsRead y
  read_again (inl empty) = inl empty
  read_again (inr h) = inr (record { parts = parts_again h.parts; inside = λ i d lt. inside_again _ (h.inside i d lt) })
