use Rattle.btf_types.proofs.tables.file_sections.FileSections.types.Goals as goal

pub returns-clause-section : goal.returns-clause-section
returns-clause-section c = rw (← c.self.view_is) c.self.invariant.framed.frames.whole
