-- The lines that all verbs have in common.
use Rattle.std.specs.Prelude.{◌++◌, ℕ, List, [], ◌∷◌, codes, decimal}
use Rattle.bpf_object.specs.declared.fault.ObjectFault.{ObjectFault}
use Rattle.bpfcanon_object.specs.{CauseNames.object_cause_name, Escape.escaped}

abbrev pub newline : List ℕ
newline = 10 ∷ []

-- FILE: byte OFFSET: CAUSE: TEXT
abbrev pub fault_line : List ℕ → ObjectFault → List ℕ → List ℕ
fault_line name fault text =
    escaped name ++ (codes ": byte " ++ (decimal fault.pos ++ (codes ": " ++ (object_cause_name fault.cause ++ (codes ": " ++ (text ++ newline))))))

-- why nothing can be said of a file
abbrev pub trouble_line : List ℕ → List ℕ → List ℕ
trouble_line name why = codes "bpfcanon-object: " ++ (escaped name ++ (codes ": " ++ (why ++ newline)))
