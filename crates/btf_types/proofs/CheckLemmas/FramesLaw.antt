-- A type section is a list of frames, or has a fault of framing.
use Rattle.std.proofs.Common.{◌≡◌, ◌≢◌, ◌⊎◌, ℕ, zero, suc, ◌+◌, ◌*◌, ◌<◌, ◌≤◌, Bool, List, [], ◌∷◌, ◌++◌, length, drop, refl, sym, ap, ◌∙◌, inl, inr, append_assoc, arith}
use Rattle.std.specs.{Prelude.IsTrue, Prelude.IsFalse, List.All}
use Rattle.std.proofs.lemmas.{Bool.cases_lt, Bool.cases_eq, List.take-append-drop, List.length-drop, List.Elements.All-nil, List.Elements.All-cons}
use Rattle.bpf_words.specs.{declared.Order.Order, Words.IsBytes, Words.word32_at}
use Rattle.bpf_words.proofs.WordLemmas.{IsBytes-drop}
use Rattle.btf_raw.specs.declared.cause.BtfCause.{BtfCause}
use Rattle.btf_raw.specs.declared.cause.BtfCause.TheVariants.{RecordCut, InfoBits, KindNumber, FlagSet, Vlen, TailCut}
use Rattle.btf_raw.specs.Kinds.{kind_of, vlen_of, flag_of, unused_of, is_kind, has_flag, has_vlen, tail_words}
use Rattle.btf_raw.specs.Frames.{IsFrame, IsAllowed, Frames, InfoFault, RecordFault, FramingFault, bytes_of, section_of}
use Rattle.btf_types.specs.Reading.{frame_at}
use Rattle.btf_types.proofs.CheckLemmas.FramingSteps.{words_at, frame_is_frame, bytes_of-frame_at}
use Rattle.btf_types.proofs.TableLemmas.TextSteps.{decided}

-- info is allowed, or a cause applies to it
record AgainstInfo (info : ℕ) : Type 0 where
  cause : BtfCause
  fault : InfoFault info cause

info_checked : (info : ℕ) → IsAllowed info ⊎ AgainstInfo info
info_checked info = elim (cases_eq (unused_of info) 0) [
  | inr some ↦ inr (record { cause = InfoBits; fault = some })
  | inl unused ↦ elim (decided (is_kind (kind_of info))) [
    | inr unknown ↦ inr (record { cause = KindNumber; fault = unknown })
    | inl known ↦ elim (zero_or (flag_of info) (has_flag (kind_of info))) [
      | inr against ↦ inr (record { cause = FlagSet; fault = (known, against.0, against.1) })
      | inl flag ↦ elim (zero_or (vlen_of info) (has_vlen (kind_of info))) [
        | inr against ↦ inr (record { cause = Vlen; fault = (known, against.0, against.1) })
        | inl vlen ↦ inl (record { unused = unused; kind = known; flag = flag; vlen = vlen })
      ]
    ]
  ]
]
  where
    zero_or : (n : ℕ) (has : Bool) → ((n ≡ 0) ⊎ IsTrue has) ⊎ ((n ≢ 0) × IsFalse has)
    zero_or n has = elim (cases_eq n 0) [
      | inl none ↦ inl (inl none)
      | inr some ↦ elim (decided has) [ inl may ↦ inl (inr may) | inr not ↦ inr (some, not) ]
    ]

info_to_record : (o : Order) (rest : List ℕ) (cause : BtfCause) → 8 ≤ length rest → InfoFault (word32_at o rest 4) cause → RecordFault o rest 4 cause
info_to_record o rest RecordCut long fault = absurd fault
info_to_record o rest TailCut long fault = absurd fault
info_to_record o rest cause long fault = (word32_at o rest 4, (long, refl), fault, refl)

-- a first frame, and what follows it
record FirstFrame (o : Order) (rest : List ℕ) : Type 0 where
  frame : List ℕ
  after : List ℕ
  is_frame : IsFrame frame
  whole : rest ≡ bytes_of o frame ++ after
  less : length after < length rest
  fits : IsBytes after

record FirstFault (o : Order) (rest : List ℕ) : Type 0 where
  at_offset : ℕ
  cause : BtfCause
  fault : RecordFault o rest at_offset cause

first_frame : (o : Order) (rest : List ℕ) → IsBytes rest → 0 < length rest → FirstFrame o rest ⊎ FirstFault o rest
first_frame o rest fits some = elim (cases_lt (length rest) 12) [
  | inl short ↦ inr (record { at_offset = 0; cause = RecordCut; fault = (some, short, refl) })
  | inr long ↦ elim (info_checked (word32_at o rest 4)) [
    | inr against ↦ inr (record { at_offset = 4; cause = against.cause; fault = info_to_record o rest against.cause (omega arith) against.fault })
    | inl allowed ↦ elim (cases_lt (length rest) (12 + 4 * tail_words (kind_of (word32_at o rest 4)) (vlen_of (word32_at o rest 4)))) [
      | inl short ↦ inr (record { at_offset = 12; cause = TailCut; fault = (word32_at o rest 4, (omega arith, refl), allowed.kind, long, short, refl) })
      | inr whole ↦
          let n = 4 * words_at o rest 0 in
          let end : n ≤ length rest = omega arith in
          inl (record {
            frame = frame_at o rest 0;
            after = drop n rest;
            is_frame = frame_is_frame o rest 0 fits allowed;
            whole = sym (take-append-drop n rest) ∙ ap (λ (t : List ℕ). t ++ drop n rest) (sym (bytes_of-frame_at o rest 0 n fits (omega arith) end));
            less = omega (arith, length-drop n rest);
            fits = IsBytes-drop n rest fits;
          })
    ]
  ]
]

record Whole (o : Order) (rest : List ℕ) : Type 0 where
  frames : List (List ℕ)
  each : All IsFrame frames
  whole : rest ≡ section_of o frames

record Broken (o : Order) (types : List ℕ) : Type 0 where
  frames : List (List ℕ)
  rest : List ℕ
  each : All IsFrame frames
  whole : types ≡ section_of o frames ++ rest
  first : FirstFault o rest

walk : (o : Order) (fuel : ℕ) (rest : List ℕ) → IsBytes rest → length rest ≤ fuel → Whole o rest ⊎ Broken o rest
walk o fuel [] fits h = inl (record { frames = []; each = All-nil IsFrame; whole = refl })
walk o zero (c ∷ rest) fits h = absurd (omega arith)
walk o (suc fuel) (c ∷ rest) fits h = elim (first_frame o (c ∷ rest) fits (omega arith)) [
  | inr fault ↦ inr (record { frames = []; rest = c ∷ rest; each = All-nil IsFrame; whole = refl; first = fault })
  | inl one ↦
      let less = one.less in
      elim (walk o fuel one.after one.fits (omega arith)) [
        | inl more ↦ inl (record {
          frames = one.frame ∷ more.frames;
          each = All-cons IsFrame one.frame more.frames one.is_frame more.each;
          whole = one.whole ∙ ap (λ (t : List ℕ). bytes_of o one.frame ++ t) more.whole;
        })
        | inr more ↦ inr (record {
          frames = one.frame ∷ more.frames;
          rest = more.rest;
          each = All-cons IsFrame one.frame more.frames one.is_frame more.each;
          whole = one.whole ∙ ap (λ (t : List ℕ). bytes_of o one.frame ++ t) more.whole ∙ sym (append_assoc (bytes_of o one.frame) (section_of o more.frames) more.rest);
          first = more.first;
        })
      ]
]

-- a section without a fault of framing is a list of frames
pub frames_there : (o : Order) (types : List ℕ) → IsBytes types → ((at_offset : ℕ) (cause : BtfCause) → ¬ FramingFault o types at_offset cause) → (frames : List (List ℕ)) × Frames o types frames
frames_there o types fits none = elim (walk o (length types) types fits (omega arith)) [
  | inl all ↦ (all.frames, record { each = all.each; whole = all.whole })
  | inr broken ↦ absurd (none (length (section_of o broken.frames) + broken.first.at_offset) broken.first.cause (record {
    frames = broken.frames;
    rest = broken.rest;
    offset = broken.first.at_offset;
    each = broken.each;
    whole = broken.whole;
    fault = broken.first.fault;
    at_offset_is = refl;
  }))
]
