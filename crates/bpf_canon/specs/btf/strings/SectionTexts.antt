-- Strings of a section with keys, and their order.
use Rattle.std.specs.Prelude.{◌≡◌, ℕ, ◌-◌, min, List, length, map, take, drop}
use Rattle.std.specs.{Ordering.nat_cmp, Ordering.on, Ordering.then_cmp, declared.cmp.Ordering.Ordering}
use Rattle.btf_types.specs.strings.{SharedNames.suffix_cmp, CommonSuffixes.common_tail}
use Rattle.bpf_canon.specs.{btf.strings.SuffixKeys.suffix_key, declared.btf.strings.ranked_texts.SectionText.SectionText}

-- the bytes from the start to the end of a string, as far as the section reaches
abbrev pub end_in : List ℕ → SectionText → ℕ
end_in section t = min t.end (length section)

abbrev pub start_in : List ℕ → SectionText → ℕ
start_in section t = min t.start (end_in section t)

abbrev pub text_in : List ℕ → SectionText → List ℕ
text_in section t = take (end_in section t - start_in section t) (drop (start_in section t) section)

abbrev pub texts_in : List ℕ → List SectionText → List (List ℕ)
texts_in section ts = map (text_in section) ts

-- the length of the longest common suffix of two strings
abbrev pub common_in : List ℕ → SectionText → SectionText → ℕ
common_in section a b = common_tail (text_in section a) (text_in section b)

-- a string without its last eight bytes
abbrev pub text_before : List ℕ → List ℕ
text_before x = take (length x - 8) x

-- its keys are those of its string
pub record HasKey (section : List ℕ) (t : SectionText) : Type 0 where
  pub last : t.key ≡ suffix_key (text_in section t)
  pub before : t.before ≡ suffix_key (text_before (text_in section t))

abbrev pub compared : List ℕ → SectionText → SectionText → Ordering
compared section = then_cmp (on (λ t. t.key) nat_cmp) (then_cmp (on (λ t. t.before) nat_cmp) (on (text_in section) suffix_cmp))
