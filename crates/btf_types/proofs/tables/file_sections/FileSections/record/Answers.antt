use Rattle.std.proofs.Common.{ℕ, List, subst, sym}
use Rattle.btf_types.specs.tables.OffsetWords.{ReadsRecord}
use Rattle.btf_types.proofs.TableLemmas.TableReads.{record_read}
use Rattle.btf_types.proofs.tables.file_sections.FileSections.record.Goals as goal

pub bounds-self-inside-id : goal.bounds-self-inside-id
bounds-self-inside-id c =
    let s = c.self.inside in
    (record_read s.order s.types.now s.strings.now s.offsets.now c.args.id c.self.invariant c.requires.first (rw (← c.self.view_is) at c.requires.last)).at_offset

pub at-requires : goal.at-requires
at-requires c =
    let s = c.self.inside in
    (record_read s.order s.types.now s.strings.now s.offsets.now c.args.id c.self.invariant c.requires.first (rw (← c.self.view_is) at c.requires.last)).here.inside

pub returns-clause-reads : goal.returns-clause-reads
returns-clause-reads c =
    let s = c.self.inside in
    let read = record_read s.order s.types.now s.strings.now s.offsets.now c.args.id c.self.invariant c.requires.first (rw (← c.self.view_is) at c.requires.last) in
    rw (← c.self.view_is) (subst (λ (f : List ℕ). ReadsRecord s.strings.now f) (sym c.at.ensures) read.here.reads)

pub returns-clause-frame : goal.returns-clause-frame
returns-clause-frame c =
    let s = c.self.inside in
    let read = record_read s.order s.types.now s.strings.now s.offsets.now c.args.id c.self.invariant c.requires.first (rw (← c.self.view_is) at c.requires.last) in
    rw (← c.self.view_is, c.at.ensures) read.frame

pub returns-clause-is : goal.returns-clause-is
returns-clause-is c =
    let s = c.self.inside in
    let read = record_read s.order s.types.now s.strings.now s.offsets.now c.args.id c.self.invariant c.requires.first (rw (← c.self.view_is) at c.requires.last) in
    rw (← c.self.view_is, c.at.ensures) read.is
