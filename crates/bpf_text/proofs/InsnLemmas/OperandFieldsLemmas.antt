-- The result of reading several fields, and the instruction that they make.
use Rattle.std.proofs.Common.{◌≡◌, ◌≢◌, List, [], ◌∷◌, map, length, get_or, refl, sym, ap, ◌∙◌, subst, Result, Ok, Err, arith}
use Rattle.std.proofs.lemmas.{List.length-map, Slice.Zip.AllZip-long}
use Rattle.std.specs.List.{AllZip}
use Rattle.bpf_insn.specs.declared.insn.WideOf.TheVariants as of
use Rattle.bpf_insn.specs.declared.insn.Insn.{Insn}
use Rattle.bpf_insn.specs.declared.insn.Insn.TheVariants as insn
use Rattle.bpf_text.specs.declared.insn.fault.LineCause.{LineCause, TheVariants.Shape, TheVariants.Range}
use Rattle.bpf_text.specs.declared.insn.{mnemonic.Mnemonic.Mnemonic, read_operand.ReadOperand.ReadOperand}
use Rattle.bpf_text.specs.insn.Operands.{LineOperand, register, operand_kind}
use Rattle.bpf_text.specs.insn.{Table.operands_of, Numbers.IsReadAs, Mnemonics.mnemonic_of}
use Rattle.bpf_text.specs.insn.OperandFields.{operand_count, plain, Field, ReadsField, FieldIsRead, ReadsInsn, both_read}
use Rattle.bpf_text.proofs.InsnLemmas.FieldLists.{FieldList, last_field, field_then, ReadsFields, FieldsAreRead}

pub plain_kind : (a : LineOperand) → operand_kind a ≡ operand_kind (plain a)
plain_kind (register r) = refl
plain_kind _ = refl

pub plain_kinds : (xs : List LineOperand) → map operand_kind xs ≡ map operand_kind (map plain xs)
plain_kinds [] = refl
plain_kinds (x ∷ xs) =
    let first : operand_kind x ≡ operand_kind (plain x) = plain_kind x in
    let more : map operand_kind xs ≡ map operand_kind (map plain xs) = plain_kinds xs in cc

cons_same : {X : Type 0} {x y : X} {xs ys : List X} → x ≡ y → xs ≡ ys → x ∷ xs ≡ y ∷ ys
cons_same e f = cc

head_same : {X : Type 0} {x y : X} {xs ys : List X} → x ∷ xs ≡ y ∷ ys → x ≡ y
head_same e = cc

tail_same : {X : Type 0} {x y : X} {xs ys : List X} → x ∷ xs ≡ y ∷ ys → xs ≡ ys
tail_same e = cc

-- a single field
pub last_reads : {X : Type 0} (field : Field X) (a : LineOperand) (r : Result X LineCause) → ReadsField field a r → ReadsFields (last_field field) (a ∷ []) r
last_reads field a (Ok x) h = (h.0, cons_same h.1 refl)
last_reads field a (Err Shape) h = λ x e. h x (head_same e)
last_reads field a (Err Range) h = ((h.0.0, cons_same h.0.1 refl), (λ x v e. h.1 x v (head_same e)))
last_reads field a (Err _) h = absurd h

-- a field before others
pub before_reads : {X Y : Type 0} (field : Field X) (form : FieldList Y) (a : LineOperand) (more : List LineOperand) (r : Result X LineCause) (s : Result Y LineCause)
    → ReadsField field a r → ReadsFields form more s → ReadsFields (field_then field form) (a ∷ more) (both_read r s)
before_reads field form a more (Ok x) (Ok y) h k = ((h.0, k.0), cons_same h.1 k.1)
before_reads field form a more (Ok x) (Err Shape) h k = λ z e. k z.1 (tail_same e)
before_reads field form a more (Ok x) (Err Range) h k =
    (((x, k.0.0), cons_same (plain_kind a ∙ ap operand_kind h.1) k.0.1), (λ z v e. k.1 z.1 v.1 (tail_same e)))
before_reads field form a more (Ok x) (Err _) h k = absurd k
before_reads field form a more (Err Shape) s h k = λ z e. h z.0 (head_same e)
before_reads field form a more (Err Range) (Ok y) h k =
    (((h.0.0, y), cons_same h.0.1 (plain_kinds more ∙ ap (map operand_kind) k.1)), (λ z v e. h.1 z.0 v.0 (head_same e)))
before_reads field form a more (Err Range) (Err Shape) h k = λ z e. k z.1 (tail_same e)
before_reads field form a more (Err Range) (Err Range) h k = (((h.0.0, k.0.0), cons_same h.0.1 k.0.1), (λ z v e. h.1 z.0 v.0 (head_same e)))
before_reads field form a more (Err Range) (Err _) h k = absurd k
before_reads field form a more (Err _) s h k = absurd h

pub one_read : {X : Type 0} (field : Field X) (s : ReadOperand) (r : Result X LineCause) → FieldIsRead field s r → FieldsAreRead (last_field field) (s ∷ []) r
one_read field s r reads [] h = absurd h
one_read field s r reads (a ∷ []) h = last_reads field a r (reads a h.0)
one_read field s r reads (a ∷ b ∷ more) h = absurd h.1

pub more_read : {X Y : Type 0} (field : Field X) (form : FieldList Y) (s : ReadOperand) (xs : List ReadOperand) (r : Result X LineCause) (t : Result Y LineCause)
    → FieldIsRead field s r → FieldsAreRead form xs t → FieldsAreRead (field_then field form) (s ∷ xs) (both_read r t)
more_read field form s xs r t first rest [] h = absurd h
more_read field form s xs r t first rest (a ∷ more) h = before_reads field form a more r t (first a h.0) (rest more h.1)

-- a list of one, two or three, by its elements
pub one_cell : (x : ReadOperand) (xs : List ReadOperand) → x ≡ get_or xs 0 x → length xs ≡ 1 → xs ≡ x ∷ []
one_cell x (u ∷ []) e l = cc
one_cell x _ e l = absurd (omega arith)

pub two_cells : (x y : ReadOperand) (xs : List ReadOperand) → x ≡ get_or xs 0 x → y ≡ get_or xs 1 y → length xs ≡ 2 → xs ≡ x ∷ y ∷ []
two_cells x y (u ∷ v ∷ []) e f l = cc
two_cells x y _ e f l = absurd (omega arith)

-- two fields, read in sequence
pub two_read : {X Y : Type 0} (f : Field X) (g : Field Y) (a b : ReadOperand) (xs : List ReadOperand) (r : Result X LineCause) (s : Result Y LineCause) (t : Result (X × Y) LineCause)
    → a ≡ get_or xs 0 a → b ≡ get_or xs 1 b → length xs ≡ 2 → FieldIsRead f a r → FieldIsRead g b s → t ≡ both_read r s → FieldsAreRead (field_then f (last_field g)) xs t
two_read f g a b xs r s t e k l p q u =
    subst (λ (v : Result _ LineCause). FieldsAreRead (field_then f (last_field g)) xs v) (sym u)
    (subst (λ (ys : List ReadOperand). FieldsAreRead (field_then f (last_field g)) ys (both_read r s)) (sym (two_cells a b xs e k l))
    (more_read f (last_field g) a (b ∷ []) r s p (one_read g b s q)))

pub three_cells : (x y z : ReadOperand) (xs : List ReadOperand) → x ≡ get_or xs 0 x → y ≡ get_or xs 1 y → z ≡ get_or xs 2 z → length xs ≡ 3 → xs ≡ x ∷ y ∷ z ∷ []
three_cells x y z (u ∷ v ∷ w ∷ []) e f g l = cc
three_cells x y z _ e f g l = absurd (omega arith)

pub only_read : {X : Type 0} (f : Field X) (a : ReadOperand) (xs : List ReadOperand) (r : Result X LineCause)
    → a ≡ get_or xs 0 a → length xs ≡ 1 → FieldIsRead f a r → FieldsAreRead (last_field f) xs r
only_read f a xs r e l p = subst (λ (ys : List ReadOperand). FieldsAreRead (last_field f) ys r) (sym (one_cell a xs e l)) (one_read f a r p)

pub three_read : {X Y Z : Type 0} (f : Field X) (g : Field Y) (h : Field Z) (a b d : ReadOperand) (xs : List ReadOperand)
    (r : Result X LineCause) (s : Result Y LineCause) (t : Result Z LineCause) (v : Result (Y × Z) LineCause) (w : Result (X × (Y × Z)) LineCause)
    → a ≡ get_or xs 0 a → b ≡ get_or xs 1 b → d ≡ get_or xs 2 d → length xs ≡ 3 → FieldIsRead f a r → FieldIsRead g b s → FieldIsRead h d t
    → v ≡ both_read s t → w ≡ both_read r v → FieldsAreRead (field_then f (field_then g (last_field h))) xs w
three_read f g h a b d xs r s t v w e k m l p q o i j =
    subst (λ (u : Result _ LineCause). FieldsAreRead (field_then f (field_then g (last_field h))) xs u) (sym (j ∙ ap (both_read r) i))
    (subst (λ (ys : List ReadOperand). FieldsAreRead (field_then f (field_then g (last_field h))) ys (both_read r (both_read s t))) (sym (three_cells a b d xs e k m l))
    (more_read f (field_then g (last_field h)) a (b ∷ d ∷ []) r (both_read s t) p (more_read g (last_field h) b (d ∷ []) s t q (one_read h d t o))))

counted : (i : Insn) → length (operands_of i) ≡ operand_count (mnemonic_of i)
counted (insn.Wide d (of.Number n)) = refl
counted (insn.Wide d _) = refl
counted _ = refl

-- a number of operands that isn't that of the mnemonic
pub miscounted : (m : Mnemonic) (xs : List ReadOperand) → length xs ≢ operand_count m → (spelled : List LineOperand) → AllZip IsReadAs xs spelled → ReadsInsn m spelled (Err Shape)
miscounted m xs other spelled h = λ i e f.
    let same : length spelled ≡ length (operands_of i) = sym (length-map spelled operand_kind) ∙ ap length f ∙ length-map (operands_of i) operand_kind in
    other (sym (AllZip-long IsReadAs xs spelled h) ∙ same ∙ counted i ∙ ap operand_count e)
