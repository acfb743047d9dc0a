-- Consequences of clap's definitions for the program's command line.
use Rattle.std.proofs.Common.{◌≡◌, ◌∙◌, ℕ, Bool, true, false, List, [], ◌∷◌, Option, Some, None, refl, sym, subst, arith, rules}
use Rattle.std.specs.Prelude.{find, IfSome, map, option_map, Result, Ok, Err, unwrap_or}
use Rattle.std.specs.{Option.option_map_or, Str.Parse.ParsesUnsigned}
use Rattle.std.proofs.lemmas.Result.{MatchResult-at_ok}
use Rattle.clap.specs.Words.{App, FailsBy, HasMatchesOf, ReadsOne, Shape, Text, fault_of, is_simple_and_free, subcommand_of, subcommand_rows_of, takes}
use Rattle.clap.specs.Simple.{built, built_leaf, entered, inherited, rows_at}
use Rattle.clap.specs.{ValueTests.is_unsigned_in}
use Rattle.clap.proofs.ValueTestLemmas.{Accepts-accepts, accepts-Accepts}
use Rattle.clap.specs.declared.builder.value_parser.ValueParser.TheVariants as parser
use Rattle.clap.specs.declared.parser.matches.ArgMatches.{ArgMatches}
use Rattle.clap.specs.declared.error.{Error.Error, kind.ErrorKind.ErrorKind, kind.ErrorKind.TheVariants.OutOfMemory}
use Rattle.bpfcanon.specs.{declared.verb.Verb.Verb, Verbs.IsVerbName}
use Rattle.bpfcanon.specs.line.{Options.Names, Options.program, Options.shape_for, Parse.number_named}

abbrev HasVerbNames : List Shape → Type 0
HasVerbNames [] = Unit {0}
HasVerbNames (s ∷ ss) = IsVerbName s.name × HasVerbNames ss

found_is_verb : (q : Shape → Bool) (ss : List Shape) → HasVerbNames ss → IfSome (find q ss) (λ s. IsVerbName s.name)
found_is_verb q [] h = tt
found_is_verb q (s ∷ ss) h = grind (arith, (found_is_verb q ss h.1))

-- building keeps the names of commands
built_has_names : (names : Names) (top : Shape) (vs : List Verb) → HasVerbNames (map built_leaf (map (inherited top) (map (shape_for names) vs)))
built_has_names names top [] = tt
built_has_names names top (v ∷ vs) = ((v, refl), built_has_names names top vs)

named_at : (o : Option Shape) (words : List Text) → IfSome o (λ s. IsVerbName s.name)
    → IfSome (option_map (λ s. rows_at s words) o) (λ p. IsVerbName p.0)
named_at None words h = tt
named_at (Some s) words h = h

entered_is_verb : (names : Names) (stop : Option (Text × List Text))
    → IfSome (entered (built (program names)) stop) (λ p. IsVerbName p.0)
entered_is_verb names None = tt
entered_is_verb names (Some p) = search (rules, named_at, found_is_verb, built_has_names)

-- the subcommand that the arguments name is a command of the program
pub subcommand_is_verb : (names : Names) (words : List Text)
    → IfSome (subcommand_of (program names) words) (λ p. IsVerbName p.0)
subcommand_is_verb names words = search (rules, entered_is_verb)

-- the matches of clap agree with its definitions for the program
pub found_is_stated : (names : Names) (a : App) (words : List Text) (m : ArgMatches) → a ≡ program names
    → HasMatchesOf a words m → subcommand_rows_of m ≡ subcommand_of (program names) words
found_is_stated names a words m e h =
    let P : App → Type 0 = λ b. HasMatchesOf b words m in
    (subst P e h refl).1

false_from_not : (b : Bool) → (b ≡ true → ⊥) → b ≡ false
false_from_not true h = absurd (h refl)
false_from_not false h = refl

abbrev result_ok : {E : Type 0} → Result ℕ E → Option ℕ
result_ok (Ok n) = Some n
result_ok (Err e) = None

number_at : (t : Text) (b : Bool) → is_unsigned_in 0 18446744073709551615 t ≡ b → (E : Type 0) (x : Result ℕ E) → ParsesUnsigned 64 10 t x
    → (r : Option ℕ) → r ≡ result_ok x → unwrap_or r 0 ≡ number_named t
number_at t true e E (Ok n) h r is = rw (is, e) h.1
number_at t true e E (Err x) h r is =
    let a = accepts-Accepts false (parser.Unsigned 0 18446744073709551615) t e in
    absurd (h (a.0, a.1))
number_at t false e E (Ok n) h r is =
    let a = Accepts-accepts false (parser.Unsigned 0 18446744073709551615) t (h.0.0, h.0.1, omega arith, omega arith) in
    let bad : false ≡ true = sym e ∙ a in cc
number_at t false e E (Err x) h r is = rw (is, e) refl

-- what clap reads as a u64
pub reads_number : (E : Type 0) (G : Text → Result ℕ E → Type 0) (o : Option Text) (r : Option ℕ)
    → ((u : Text) (x : Result ℕ E) → G u x → ParsesUnsigned 64 10 u x)
    → (o ≡ None → r ≡ None) → ((t : Text) → o ≡ Some t → ReadsOne G t r)
    → unwrap_or r 0 ≡ option_map_or number_named o 0
reads_number E G None r only none value = rw (none refl) refl
reads_number E G (Some t) None only none value =
    let x = value t refl in
    number_at t _ refl E (Err x.0) (only t (Err x.0) x.1) None refl
reads_number E G (Some t) (Some n) only none value =
    number_at t _ refl E (Ok n) (only t (Ok n) (value t refl)) (Some n) refl

-- clap rejects the arguments, and not because memory ran out
pub words_are_refused : (names : Names) (a : App) (words : List Text) (k j : ErrorKind) → a ≡ program names
    → (takes a words ≡ true → k ≡ OutOfMemory) → (j ≡ OutOfMemory → ⊥) → j ≡ k
    → takes (program names) words ≡ false
words_are_refused names a words k j e passes other same =
    let P : App → Type 0 = λ b. takes b words ≡ false in
    subst P e (false_from_not (takes a words) (λ t. other (same ∙ passes t)))

-- clap returns `Ok` only if it reports no fault
pub words_are_taken : {T : Type 0} (names : Names) (a : App) (words : List Text) (r : Result T Error) (m : T) → a ≡ program names
    → (is_simple_and_free a ≡ true → FailsBy (fault_of a words) r) → r ≡ Ok m
    → fault_of (program names) words ≡ []
words_are_taken names a words r m e kinds is =
    let P : App → Type 0 = λ b. is_simple_and_free b ≡ true → FailsBy (fault_of b words) r in
    MatchResult-at_ok _ _ m is (subst P e kinds refl)
