-- What the searches cite of the replies of commands.
use Rattle.std.proofs.Common.{◌≤◌, ℕ, List, inl, inr, length, subst}
use Rattle.std.proofs.lemmas.List.{length-map}
use Rattle.bpf_words.specs.declared.Order.{Order}
use Rattle.bpf_insn.specs.{declared.group.GroupSet.GroupSet, Groups.holds, Groups.AreGroupsOf}
use Rattle.btf_types.specs.{Denotes.HoldsSections, Reading.record_of, Sections.SectionWords, Sections.records_in}
use Rattle.bpfcanon.specs.declared.outcome.Outcome.TheVariants.{Done}
use Rattle.bpfcanon.specs.commands.Reply as insn
use Rattle.bpfcanon.specs.commands.BtfReply as btf
use Rattle.bpfcanon.proofs.CommandsLemmas.InsnSameLemmas as insn_same
use Rattle.bpfcanon.proofs.CommandsLemmas.BtfSameLemmas as btf_same

-- the groups of a file, one per line
pub groups_listed : (limit : ℕ) (order : Order) (input : List ℕ) (set : GroupSet) → length input ≤ limit → AreGroupsOf order input set
    → insn.IsGroupsReply limit order input Done (insn.group_lines (holds set))
groups_listed limit order input set within found = insn.grouped found.0 (holds set) within found.1 found.2

pub ruleset insn_replies = (inl, inr, insn.read_back, insn.unread, groups_listed, insn.ungrouped)

-- the number of types of a file
pub types_counted : (limit : ℕ) (input : List ℕ) (s : SectionWords) → length input ≤ limit → HoldsSections input s
    → btf.IsBtfCheckReply limit input Done (btf.count_line (length s.frames))
types_counted limit input s within held =
    subst (λ (n : ℕ). btf.IsBtfCheckReply limit input Done (btf.count_line n)) (length-map s.frames (record_of s.strings))
    (btf.checked (records_in s) within held.denotes)

pub ruleset btf_replies = (inl, inr, types_counted, btf.unchecked)

pub ruleset insn_same_replies = (inl, inr, insn.split_beyond, insn.first_at_fault, insn_same.compared, insn_same.second_faulty)

pub ruleset btf_same_replies = (inl, inr, btf.split_beyond, btf.first_at_fault, btf_same.compared, btf_same.second_faulty)
