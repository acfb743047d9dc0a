use Rattle.std.proofs.Common.{◌≡◌, ◌≤◌, ◌++◌, ℕ, List, take, drop}
use Rattle.std.specs.List.{flat_map}
use Rattle.bpf_text.specs.btf.BtfText.{quoted_byte}
use Rattle.bpf_text.proofs.btf.quoted_name.append_quoted_part.Given as goal

-- with the bytes from start on appended, the vector ends with the bytes up to here as they are written between quotes;
-- it begins with its old contents
abbrev pub invariant-loop-at : goal.invariant-loop-at
invariant-loop-at g l = record {
  within : l.start ≤ l.at;
  written : l.text.items ++ drop l.start (take l.at l.part) ≡ l.fn.text.items ++ flat_map quoted_byte (take l.at l.part);
  kept : (rest : List ℕ) × (l.text.items ≡ l.fn.text.items ++ rest);
}
