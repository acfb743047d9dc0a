-- The bytes that may be there.
use Rattle.std.specs.Prelude.{ℕ, List, Option, Some, None, if◌then◌else◌}
use Rattle.std.specs.Borrow.{Bor}
use Rattle.std.specs.declared.vec.Vec.{Vec}
use Rattle.bpf_words.specs.declared.Order.{Order}
use Rattle.bpf_object.specs.Canonical.{btf_bytes, extension_bytes, types_strings, has_extension, offset_of}
use Rattle.bpf_object.specs.Objects.{ObjectTypes}

abbrev pub content_of : Option (Bor (List ℕ)) → Option (List ℕ)
content_of None = None
content_of (Some content) = Some content.now

abbrev pub items_of : {A : Type 0} → Option (Vec ℕ A) → Option (List ℕ)
items_of None = None
items_of (Some content) = Some content.items

-- the bytes of .BTF and .BTF.ext of an object, if it has them
abbrev pub btf_content : Order → Option ObjectTypes → Option (List ℕ)
btf_content o None = None
btf_content o (Some t) = Some (btf_bytes o t)

abbrev pub extension_content : Order → Option ObjectTypes → Option (List ℕ)
extension_content o None = None
extension_content o (Some t) = if has_extension t then Some (extension_bytes o (offset_of (types_strings t)) t) else None
