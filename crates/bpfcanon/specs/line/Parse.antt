-- The job that a command line describes.
use Rattle.std.specs.Prelude.{◌≡◌, ◌-◌, ◌^◌, ℕ, false, List, [], Option, Some, None, codes, if◌then◌else◌}
use Rattle.std.specs.{Option.option_map_or, Str.bytes_eq, Str.Parse.digits_value, Str.Parse.without_leading_plus}
use Rattle.clap.specs.Words.{Row, Text, first_of, one_of, subcommand_of, takes, fault_of}
use Rattle.clap.specs.ValueTests.{is_unsigned_in}
use Rattle.bpf_words.specs.{OrderName.order_name, declared.Order.Order, declared.Order.TheVariants.Little, declared.Order.TheVariants.Big}
use Rattle.bpfcanon.specs.declared.{job.Job.Job, verb.Verb.Verb, verb.Verb.TheVariants.InsnCanon, verb.Setting.Setting}
use Rattle.bpfcanon.specs.declared.verb.Setting.TheVariants as setting
use Rattle.bpfcanon.specs.Verbs.{name_of, setting_name, takes_setting}
use Rattle.bpfcanon.specs.line.Options.{IsOrderNames, Names, program}

-- the byte order with this name
abbrev pub order_named : Text → Order
order_named name = if bytes_eq name (order_name Big) then Big else Little

-- the byte order that clap reports for an option, or Little if the command doesn't accept the option
abbrev pub order_at : Verb → Setting → List Row → Order
order_at verb s rows =
    if takes_setting verb s then option_map_or order_named (first_of (setting_name s) rows) Little else Little

-- the u64 that a string encodes in decimal, or 0 if it encodes none
abbrev pub number_named : Text → ℕ
number_named text = if is_unsigned_in 0 (2 ^ 64 - 1) text then digits_value 10 (without_leading_plus text) else 0

-- the number that clap reports for `--split`, or 0 if the command doesn't accept the option
abbrev pub split_at : Verb → List Row → ℕ
split_at verb rows =
    if takes_setting verb setting.Split then option_map_or number_named (one_of (codes "split") rows) 0 else 0

-- the job of a command with the option values that clap reports
abbrev pub job_at : Verb → List Row → Job
job_at verb rows = record {
  verb = verb;
  order = order_at verb setting.Order rows;
  to = order_at verb setting.To rows;
  other = order_at verb setting.Other rows;
  split = split_at verb rows;
}

abbrev pub default_job : Job
default_job = record { verb = InsnCanon; order = Little; to = Little; other = Little; split = 0 }

-- the job of a subcommand with the option values that clap reports, or the default job without a subcommand
abbrev pub IsJobOf : Option (Text × List Row) → Job → Type 0
IsJobOf None j = j ≡ default_job
IsJobOf (Some p) j = (p.0 ≡ name_of j.verb) × (j ≡ job_at j.verb p.1)

-- the arguments describe this job, and clap reports that it accepts them
pub record Asks (words : List Text) (j : Job) : Type 0 where
  pub names : Names
  pub order_names : IsOrderNames names
  pub taken : fault_of (program names) words ≡ []
  pub job : IsJobOf (subcommand_of (program names) words) j

-- clap doesn't report that it accepts the arguments
pub record IsRefused (words : List Text) : Type 0 where
  pub names : Names
  pub order_names : IsOrderNames names
  pub refused : takes (program names) words ≡ false
