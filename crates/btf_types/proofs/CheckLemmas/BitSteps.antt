-- The widths of a record's members.
use Rattle.std.proofs.Common.{◌≡◌, ◌≢◌, ℕ, ◌+◌, ◌*◌, ◌/◌, ◌^◌, ◌<◌, true, false, List, refl, sym, subst, ◌∙◌, arith}
use Rattle.std.specs.Prelude.{IsTrue, slice_index}
use Rattle.std.proofs.lemmas.Bool.{ne_eqb}
use Rattle.btf_raw.specs.{Kinds.is_struct, Frames.IsFrame, Frames.kind, Frames.vlen, Frames.flag}
use Rattle.btf_types.specs.checks.RecordFaults.{BitFieldsAre}
use Rattle.btf_types.proofs.CheckLemmas.{RoleSteps.struct_size, RecordSteps.members_end}

module _ (frame : List ℕ) (is_frame : IsFrame frame) (struct : IsTrue (is_struct (kind frame))) where
  pub some_width : (k : ℕ) → k < vlen frame → flag frame ≢ 0 → slice_index frame (5 + 3 * k) / 2 ^ 24 ≢ 0 → BitFieldsAre frame true
  some_width k low set wide = record {
    some = λ h. (5 + 3 * k, (struct, k, (low, rw (struct_size (kind frame) struct) (omega arith))), rw (ne_eqb (flag frame) 0 set) wide);
    none = λ h. refl;
  }

  pub no_width : flag frame ≢ 0 → ((k : ℕ) → k < vlen frame → slice_index frame (5 + 3 * k) / 2 ^ 24 ≡ 0) → BitFieldsAre frame false
  no_width set narrow = record {
    some = λ h. absurd cc;
    none = λ h.
        let at : h.0 ≡ 5 + 3 * h.1.1 = h.1.2.1 ∙ rw (struct_size (kind frame) struct) (omega arith) in
        let wide : slice_index frame h.0 / 2 ^ 24 ≢ 0 = rw (ne_eqb (flag frame) 0 set) at h.2 in
        absurd (wide (subst (λ (i : ℕ). slice_index frame i / 2 ^ 24 ≡ 0) (sym at) (narrow h.1.1 h.1.2.0)));
  }

-- what the search cites of the widths of members
pub ruleset widths = (members_end, some_width, no_width)
