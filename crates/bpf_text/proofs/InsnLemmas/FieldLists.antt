-- The result of reading several fields of an instruction.
use Rattle.std.proofs.Common.{◌≡◌, ◌≢◌, List, [], ◌∷◌, map, Result, Ok, Err}
use Rattle.std.specs.List.{AllZip}
use Rattle.bpf_text.specs.declared.insn.fault.LineCause.{LineCause, TheVariants.Shape, TheVariants.Range}
use Rattle.bpf_text.specs.declared.insn.read_operand.ReadOperand.{ReadOperand}
use Rattle.bpf_text.specs.insn.{Operands.LineOperand, Operands.operand_kind, Numbers.IsReadAs, OperandFields.plain, OperandFields.Field}

-- the fields of an instruction, in the order of its line
pub record FieldList (X : Type 0) : Type 1 where
  pub valid : X → Type 0
  pub written : X → List LineOperand

abbrev pub last_field : {X : Type 0} → Field X → FieldList X
last_field field = record { valid = field.valid; written = λ x. field.written x ∷ [] }

abbrev pub field_then : {X Y : Type 0} → Field X → FieldList Y → FieldList (X × Y)
field_then field form = record { valid = λ x. field.valid x.0 × form.valid x.1; written = λ x. field.written x.0 ∷ form.written x.1 }

-- the result for all fields
abbrev pub ReadsFields : {X : Type 0} → FieldList X → List LineOperand → Result X LineCause → Type 0
ReadsFields form spelled (Ok x) = form.valid x × (map plain spelled ≡ form.written x)
ReadsFields {X} form spelled (Err Shape) = (x : X) → map operand_kind spelled ≢ map operand_kind (form.written x)
ReadsFields {X} form spelled (Err Range) =
    ((x : X) × (map operand_kind spelled ≡ map operand_kind (form.written x))) × ((x : X) → form.valid x → map plain spelled ≢ form.written x)
ReadsFields form spelled (Err _) = ⊥

abbrev pub FieldsAreRead : {X : Type 0} → FieldList X → List ReadOperand → Result X LineCause → Type 0
FieldsAreRead form operands result = (spelled : List LineOperand) → AllZip IsReadAs operands spelled → ReadsFields form spelled result
