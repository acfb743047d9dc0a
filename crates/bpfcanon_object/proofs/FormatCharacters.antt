-- Format characters are above ASCII, and are characters.
use Rattle.std.proofs.Common.{◌≡◌, ◌<◌, ◌≤◌, ◌&&◌, ◌||◌, ℕ, Bool, true, false, List, [], ◌∷◌, refl, arith}
use Rattle.std.specs.Prelude.{nat_le, nat_lt}
use Rattle.std.specs.List.{list_all, list_any}
use Rattle.std.specs.Char.{IsScalar}
use Rattle.bpfcanon_object.specs.Escape.{format_characters, is_control, is_format, is_hidden}

both : (a b : Bool) → (a && b) ≡ true → (a ≡ true) × (b ≡ true)
both true b h = (refl, h)
both false b h = cc

neither : (a b : Bool) → a ≡ false → b ≡ false → (a || b) ≡ false
neither true b h k = cc
neither false b h k = k

-- no run that begins above a character has it
above : (runs : List (ℕ × ℕ)) (c : ℕ) → c < 173 → list_all (λ run. nat_le 173 run.0) runs ≡ true
    → list_any (λ run. nat_le run.0 c && nat_le c run.1) runs ≡ false
above [] c low h = refl
above (run ∷ runs) c low h =
    let parts = both (nat_le 173 run.0) _ h in
    let first : (nat_le run.0 c && nat_le c run.1) ≡ false = grind (arith, parts.0, low) in
    neither _ _ first (above runs c low parts.1)

-- a run without surrogates
abbrev is_of_characters : ℕ × ℕ → Bool
is_of_characters run = nat_lt run.1 55296 || (nat_le 57344 run.0 && nat_lt run.1 1114112)

-- what some run of characters has is one
in_some : (runs : List (ℕ × ℕ)) (c : ℕ) → list_all is_of_characters runs ≡ true
    → list_any (λ run. nat_le run.0 c && nat_le c run.1) runs ≡ true → (c < 1114112) × IsScalar c
in_some [] c h found = cc
in_some (run ∷ runs) c h found =
    let parts = both (is_of_characters run) _ h in
    in_run run runs c parts.0 (λ rest. in_some runs c parts.1 rest) (nat_le run.0 c && nat_le c run.1) refl found
  where
    in_run : (run : ℕ × ℕ) (runs : List (ℕ × ℕ)) (c : ℕ) → is_of_characters run ≡ true
        → (list_any (λ run. nat_le run.0 c && nat_le c run.1) runs ≡ true → (c < 1114112) × IsScalar c)
        → (here : Bool) → (nat_le run.0 c && nat_le c run.1) ≡ here
        → (here || list_any (λ run. nat_le run.0 c && nat_le c run.1) runs) ≡ true → (c < 1114112) × IsScalar c
    in_run run runs c is rest true e found = (grind (arith, is, e), grind (arith, is, e))
    in_run run runs c is rest false e found = rest found

-- those of ASCII are no format characters
pub is_format-below : (c : ℕ) → c < 173 → is_format c ≡ false
is_format-below c low = above format_characters c low refl

pub format_bound : (c : ℕ) → is_format c ≡ true → (c < 1114112) × IsScalar c
format_bound c h = in_some format_characters c refl h

pub shown_ascii : (c : ℕ) → 32 ≤ c → c < 127 → is_hidden c ≡ false
shown_ascii c low high =
    let control : is_control c ≡ false = grind arith in
    neither (is_control c) (is_format c) control (is_format-below c (omega arith))

pub hidden_bound : (c : ℕ) → is_hidden c ≡ true → c < 1114112
hidden_bound c h = by (is_control c) refl h
  where
    by : (b : Bool) → is_control c ≡ b → (b || is_format c) ≡ true → c < 1114112
    by true e h = let small : c < 160 = grind (arith, e) in omega arith
    by false e h = (format_bound c h).0

pub not_hidden : (c : ℕ) → is_control c ≡ false → is_format c ≡ false → is_hidden c ≡ false
not_hidden c p q = neither (is_control c) (is_format c) p q
