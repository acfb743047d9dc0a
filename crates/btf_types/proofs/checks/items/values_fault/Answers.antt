use Rattle.std.proofs.Common.{◌≡◌, ◌⊎◌, ℕ, ◌+◌, ◌*◌, ◌^◌, ◌<◌, ◌≤◌, [], ◌∷◌, inl, inr, List, length, arith}
use Rattle.std.specs.Prelude.{IsTrue}
use Rattle.btf_raw.specs.{KindNumbers.ENUM, KindNumbers.ENUM64, Kinds.one_of, Kinds.item_words, Frames.IsFrame, Frames.kind, Frames.vlen}
use Rattle.btf_types.proofs.CheckLemmas.{Roles.ItemName, WordSteps.none_through}
use Rattle.btf_types.proofs.CheckLemmas.RecordSteps.{first_at, none_at, free_within, values_end}
use Rattle.btf_types.proofs.CheckLemmas.WordRoles.{enum_fixed, enum_size, value_name_role, value_free_role}
use Rattle.btf_types.proofs.checks.items.values_fault.Goals as goal

-- a value of two or three fields begins and ends within those of all values
record ValueIn (step k v : ℕ) : Type 0 where
  few : step * k < 2 ^ 18
  next : step * (k + 1) ≡ step * k + step
  room : step * k + step ≤ step * v
  some : 0 < step

value_in : (step k v : ℕ) → (step ≡ 2) ⊎ (step ≡ 3) → k < v → v < 65536 → ValueIn step k v
value_in step k v (inl e) low few = rw e (record { few = omega arith; next = omega arith; room = omega arith; some = omega arith })
value_in step k v (inr e) low few = rw e (record { few = omega arith; next = omega arith; room = omega arith; some = omega arith })

-- there are no more values than vlen can count
record ValueOf (step k : ℕ) (f : List ℕ) : Type 0 where
  among : ValueIn step k (vlen f)
  end : length f ≡ 3 + step * vlen f

value_of : (f : List ℕ) (step k : ℕ) → IsFrame f → IsTrue (one_of (ENUM ∷ ENUM64 ∷ []) (kind f)) → step ≡ item_words (kind f) → k < vlen f → ValueOf step k f
value_of f step k is enum step-is low =
    let few : vlen f < 65536 = omega arith in
    record {
      among = value_in step k (vlen f) (rw step-is (enum_size (kind f) enum)) low few;
      end = rw step-is (values_end is (enum_fixed (kind f) enum));
    }

pub overflow_mul-first : goal.overflow_mul-first
overflow_mul-first c =
    let value = value_of _ c.args.step c.loop-k.k c.requires.frame c.requires.kind c.requires.step (omega arith) in
    omega arith

pub overflow_add-first : goal.overflow_add-first
overflow_add-first c =
    let value = value_of _ c.args.step c.loop-k.k c.requires.frame c.requires.kind c.requires.step (omega arith) in
    omega arith

pub word-requires : goal.word-requires
word-requires c =
    let value = value_of c.args.this.now c.args.step c.loop-k.k c.requires.frame c.requires.kind c.requires.step (omega arith) in
    omega arith

pub returns-in-Some : goal.returns-in-Some
returns-in-Some c =
    let is = c.requires.frame in
    let k = c.loop-k.k in
    let value = value_of c.args.this.now c.args.step k is c.requires.kind c.requires.step (omega arith) in
    first_at c.args.section.now is 3 _ (3 + c.args.step * k) ItemName _ (omega arith) (omega arith) (omega arith) c.loop-k.invariant
    (rw c.requires.step (value_name_role _ k c.requires.kind)) (rw c.word.ensures at c.in-Some.ensures)

pub loop-k-preserved : goal.loop-k-preserved
loop-k-preserved c =
    let is = c.requires.frame in
    let step = c.args.step in
    let k = c.loop-k.k in
    let value = value_of c.args.this.now step k is c.requires.kind c.requires.step (omega arith) in
    let named = none_at c.args.section.now is 3 (3 + step * k) (4 + step * k) ItemName (omega arith) (omega arith) c.loop-k.invariant
    (rw c.requires.step (value_name_role _ k c.requires.kind)) (rw c.word.ensures at c.in_default.ensures) in
    none_through c.args.section.now c.args.this.now 3 (4 + step * k) (3 + step * (k + 1)) named
    (free_within c.args.section.now is (4 + step * k) (3 + step * (k + 1)) (omega arith) (rw c.requires.step (value_free_role _ k c.requires.kind)))

pub returns : goal.returns
returns c =
    let last = values_end c.requires.frame (enum_fixed _ c.requires.kind) in
    let all : c.loop-k.k ≡ vlen c.args.this.now = omega arith in
    λ j d past low. c.loop-k.invariant j d past (rw (c.requires.step, all) (omega arith))
