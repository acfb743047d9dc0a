-- The laws of canonical object files.
use Rattle.std.specs.Prelude.{◌≡◌, ℕ, List}
use Rattle.bpf_words.specs.Words.{IsBytes}
use Rattle.bpf_object.specs.{Canonical.canonical, Denotes.Denotes, Objects.Object}

-- the canonical file of an object that a file denotes is accepted, and denotes this object
abbrev pub CanonicalObjectsAreAccepted : Type 0
CanonicalObjectsAreAccepted = (b : List ℕ) (x : Object) → IsBytes b → Denotes b x → Denotes (canonical x) x

-- and it is its own canonical file
abbrev pub CanonicalObjectsAreOwn : Type 0
CanonicalObjectsAreOwn = (b : List ℕ) (x y : Object) → IsBytes b → Denotes b x → Denotes (canonical x) y → canonical y ≡ canonical x

-- objects that files denote are equal if their canonical files are
abbrev pub CanonicalObjectsTellApart : Type 0
CanonicalObjectsTellApart = (a b : List ℕ) (x y : Object) → IsBytes a → IsBytes b → Denotes a x → Denotes b y → canonical x ≡ canonical y → x ≡ y
