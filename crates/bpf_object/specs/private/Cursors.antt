-- The groups that a loop over a part has left.
use Rattle.std.specs.Prelude.{ℕ, suc, List, [], Option, Some, None}
use Rattle.bpf_object.specs.declared.extension.Part.{Part}
use Rattle.bpf_object.specs.Extension.{Section, part_end, groups_from}

-- the groups from one on, if there is one; the end of a part is at least the number of its groups
abbrev pub rest_of : Section → Part → Option ℕ → List ℕ
rest_of s p None = []
rest_of s p (Some g) = groups_from s p (suc (part_end s p)) g
