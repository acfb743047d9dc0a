use Rattle.btf_types.proofs.StringLemmas.TableLaws.{sections_are_cut, names_end_strings, hosts_end_apart}
use Rattle.bpf_canon.proofs.BtfLemmas.HostLaws.{hosts_fit}
use Rattle.bpf_canon.proofs.btf.btf_laws.hosts_end_different_strings.Goals as goal

pub returns : goal.returns
returns c = record { cut = sections_are_cut; ends = names_end_strings; apart = hosts_end_apart; fit = hosts_fit }
