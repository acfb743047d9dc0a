-- How the program's command line is built, one option and one command at a time.
use Rattle.std.proofs.Common.{◌≡◌, ◌∙◌, ◌+◌, ◌++◌, ◌<◌, append-nil, ℕ, Bool, true, false, List, [], ◌∷◌, refl, ap, take, length, get_or, suc, add-one, rules, arith}
use Rattle.std.proofs.{Common.ap₂}
use Rattle.std.specs.Prelude.{map, filter, if◌then◌else◌}
use Rattle.clap.specs.Words.{App, Rule, app_of, rule_of, shape_of, with_rule, AddsArg, AddsSubcommand}
use Rattle.clap.specs.Simple.{new_shape}
use Rattle.clap.specs.declared.builder.{arg.Arg.Arg, command.Command.Command, command.Command.TheViews.out-Command}
use Rattle.bpfcanon.specs.declared.verb.{Verb.Verb, Setting.Setting}
use Rattle.bpfcanon.specs.Verbs.{all_settings, all_verbs, name_of, takes_setting}
use Rattle.bpfcanon.specs.line.Options.{Names, bare_program, option_of, shape_for}

-- those options that the command accepts
abbrev rules_of : Names → Verb → List Setting → List Rule
rules_of names verb settings = map (option_of names) (filter (takes_setting verb) settings)

-- a command with these options
abbrev app_with : Names → Verb → List Rule → App
app_with names verb rules = record { top = record (new_shape (name_of verb)) { rules = rules }; subs = [] }

-- a command with those of the first i options that it accepts
abbrev pub app_up_to : Names → Verb → ℕ → App
app_up_to names verb i = app_with names verb (rules_of names verb (take i all_settings))

rules_of-suc : (names : Names) (verb : Verb) (i : ℕ) (s : Setting) → i < length all_settings
    → rules_of names verb (take (suc i) all_settings)
    ≡ rules_of names verb (take i all_settings) ++ rules_of names verb (get_or all_settings i s ∷ [])
rules_of-suc names verb i s l = grind arith

rules_of-one : (names : Names) (verb : Verb) (s : Setting) (b : Bool) → takes_setting verb s ≡ b
    → rules_of names verb (s ∷ []) ≡ (if b then option_of names s ∷ [] else [])
rules_of-one names verb s true e = rw e refl
rules_of-one names verb s false e = rw e refl

-- one option was examined, and added if the command accepts it
pub takes_one : (names : Names) (verb : Verb) (i : ℕ) (s : Setting) (old new : Command) (arg : Arg) → i < length all_settings
    → takes_setting verb (get_or all_settings i s) ≡ true → app_of old ≡ app_up_to names verb i → AddsArg old arg new → arg.global ≡ false
    → rule_of arg ≡ option_of names (get_or all_settings i s) → app_of new ≡ app_up_to names verb (i + 1)
takes_one names verb i s old new arg l takes before adds local rule =
    let more = rules_of-suc names verb i s l ∙ ap (λ r. rules_of names verb (take i all_settings) ++ r) (rules_of-one names verb _ true takes) in
    rw (add-one, more) (adds.shape local ∙ ap₂ with_rule before rule)

pub skips_one : (names : Names) (verb : Verb) (i : ℕ) (s : Setting) (old : Command) → i < length all_settings
    → takes_setting verb (get_or all_settings i s) ≡ false → app_of old ≡ app_up_to names verb i → app_of old ≡ app_up_to names verb (i + 1)
skips_one names verb i s old l takes before =
    let same = rules_of-suc names verb i s l ∙ ap (λ r. rules_of names verb (take i all_settings) ++ r) (rules_of-one names verb _ false takes) ∙ append-nil _ in
    rw (add-one, same) before

-- the program with these commands
abbrev pub program_with : Names → List Verb → App
program_with names [] = bare_program
program_with names (v ∷ vs) = record {
  top = record bare_program.top { is_leaf = false };
  subs = map (shape_for names) (v ∷ vs);
}

-- one more command
pub adds_one : (names : Names) (i : ℕ) (v : Verb) (old sub new : Command) → i < length all_verbs
    → app_of old ≡ program_with names (take i all_verbs) → AddsSubcommand old sub new
    → (out-Command sub).has_globals ≡ false → shape_of sub ≡ shape_for names (get_or all_verbs i v)
    → app_of new ≡ program_with names (take (i + 1) all_verbs)
adds_one names i v old sub new l before adds local shape = search rules
