-- The commands of the program, and the options that each accepts.
use Rattle.std.specs.Prelude.{◌≡◌, ℕ, Bool, true, false, List, [], ◌∷◌, codes, filter}
use Rattle.bpfcanon.specs.declared.verb.Verb.{Verb}
use Rattle.bpfcanon.specs.declared.verb.Verb.TheVariants.{InsnCanon, InsnShow, InsnRead, InsnGroups, InsnSame, BtfCanon, BtfShow, BtfCheck, BtfSame}
use Rattle.bpfcanon.specs.declared.verb.Setting.{Setting, TheVariants.Order, TheVariants.To, TheVariants.Other, TheVariants.Split}

abbrev pub all_verbs : List Verb
all_verbs = InsnCanon ∷ InsnShow ∷ InsnRead ∷ InsnGroups ∷ InsnSame ∷ BtfCanon ∷ BtfShow ∷ BtfCheck ∷ BtfSame ∷ []

-- the name of a command
abbrev pub name_of : Verb → List ℕ
name_of InsnCanon = codes "insn-canon"
name_of InsnShow = codes "insn-show"
name_of InsnRead = codes "insn-read"
name_of InsnGroups = codes "insn-groups"
name_of InsnSame = codes "insn-same"
name_of BtfCanon = codes "btf-canon"
name_of BtfShow = codes "btf-show"
name_of BtfCheck = codes "btf-check"
name_of BtfSame = codes "btf-same"

abbrev pub all_settings : List Setting
all_settings = Order ∷ To ∷ Other ∷ Split ∷ []

-- the name of an option, without its two dashes
abbrev pub setting_name : Setting → List ℕ
setting_name Order = codes "order"
setting_name To = codes "to"
setting_name Other = codes "other"
setting_name Split = codes "split"

-- whether a command accepts an option
abbrev pub takes_setting : Verb → Setting → Bool
takes_setting InsnCanon Order = true
takes_setting InsnCanon To = true
takes_setting InsnShow Order = true
takes_setting InsnRead To = true
takes_setting InsnGroups Order = true
takes_setting InsnSame Order = true
takes_setting InsnSame Other = true
takes_setting InsnSame Split = true
takes_setting BtfCanon To = true
takes_setting BtfSame Split = true
takes_setting _ _ = false

-- the options that a command accepts
abbrev pub settings_of : Verb → List Setting
settings_of verb = filter (takes_setting verb) all_settings

abbrev pub IsVerbName : List ℕ → Type 0
IsVerbName name = (verb : Verb) × (name ≡ name_of verb)
