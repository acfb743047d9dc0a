-- The hash by which the reader finds a mnemonic.
use Rattle.std.specs.Prelude.{ℕ, ◌+◌, ◌*◌, ◌/◌, ◌%◌, List, [], ◌∷◌}

-- a hash, continued over more bytes
abbrev pub hash_from : ℕ → List ℕ → ℕ
hash_from hash [] = hash
hash_from hash (b ∷ bytes) = hash_from (((hash + b) * 3727115) % 0x100000000) bytes

-- the hash of a token, below 512
abbrev pub hash_of : List ℕ → ℕ
hash_of token = hash_from 0 token / 0x800000
