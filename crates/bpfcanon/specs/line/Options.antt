-- The program's command line, in the terms of clap's definitions.
use Rattle.std.specs.Prelude.{◌≡◌, true, false, List, [], ◌∷◌, Some, codes, map}
use Rattle.std.specs.Borrow.{Bor}
use Rattle.clap.specs.{Words.App, Words.Rule, Words.Shape, Words.Text, Words.new_rule, Simple.new_shape, Walk.texts}
use Rattle.clap.specs.declared.builder.value_parser.ValueParser.TheVariants as parser
use Rattle.bpf_words.specs.{OrderName.order_name, declared.Order.TheVariants.Little, declared.Order.TheVariants.Big}
use Rattle.bpfcanon.specs.{declared.verb.Verb.Verb, declared.verb.Verb.TheVariants.InsnSame, commands.Reply.limit_of}
use Rattle.bpfcanon.specs.declared.verb.Setting.{Setting, TheVariants.Order, TheVariants.To, TheVariants.Other, TheVariants.Split}
use Rattle.bpfcanon.specs.Verbs.{all_verbs, name_of, setting_name, settings_of}

-- the values of an option, to which clap keeps a reference
abbrev pub Names : Type 0
Names = Bor (List (Bor Text))

-- these words are the names of the byte orders
abbrev pub AreOrderNames : List (Bor Text) → Type 0
AreOrderNames words = texts words ≡ order_name Little ∷ order_name Big ∷ []

-- the values that an option for a byte order accepts
abbrev pub IsOrderNames : Names → Type 0
IsOrderNames names = AreOrderNames names.now

-- an option for a byte order; the default is `little`
abbrev pub order_option : Names → Text → Rule
order_option names name = record (new_rule name) {
  long = Some name;
  parser = Some (parser.Names names);
  defaults = order_name Little ∷ [];
}

-- the required option for the length of the first file in bytes, at most the length of the longest input
abbrev pub split_option : Rule
split_option = record (new_rule (codes "split")) {
  long = Some (codes "split");
  parser = Some (parser.Unsigned 0 (limit_of InsnSame));
  required = true;
}

abbrev pub option_of : Names → Setting → Rule
option_of names Order = order_option names (setting_name Order)
option_of names To = order_option names (setting_name To)
option_of names Other = order_option names (setting_name Other)
option_of names Split = split_option

-- a command with its options
abbrev pub shape_for : Names → Verb → Shape
shape_for names verb = record (new_shape (name_of verb)) { rules = map (option_of names) (settings_of verb) }

-- the program without its commands; it has no options of its own, and no help
abbrev pub bare_program : App
bare_program = record {
  top = record (new_shape (codes "bpfcanon")) { disable_help_flag = true; disable_help_subcommand = true };
  subs = [];
}

-- the commands and options, in the terms of `clap`
abbrev pub program : Names → App
program names = record {
  top = record bare_program.top { is_leaf = false };
  subs = map (shape_for names) all_verbs;
}
