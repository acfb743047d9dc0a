-- The numbers of the kinds of records (btf.rst section 2.2). The name of each is that of the standard without BTF_KIND_.
use Rattle.std.specs.Prelude.{ℕ}

-- section 2.2.1
abbrev pub INT : ℕ
INT = 1

-- section 2.2.2
abbrev pub PTR : ℕ
PTR = 2

-- section 2.2.3
abbrev pub ARRAY : ℕ
ARRAY = 3

-- section 2.2.4
abbrev pub STRUCT : ℕ
STRUCT = 4

-- section 2.2.5
abbrev pub UNION : ℕ
UNION = 5

-- section 2.2.6
abbrev pub ENUM : ℕ
ENUM = 6

-- section 2.2.7
abbrev pub FWD : ℕ
FWD = 7

-- section 2.2.8
abbrev pub TYPEDEF : ℕ
TYPEDEF = 8

-- section 2.2.9
abbrev pub VOLATILE : ℕ
VOLATILE = 9

-- section 2.2.10
abbrev pub CONST : ℕ
CONST = 10

-- section 2.2.11
abbrev pub RESTRICT : ℕ
RESTRICT = 11

-- section 2.2.12
abbrev pub FUNC : ℕ
FUNC = 12

-- section 2.2.13
abbrev pub FUNC_PROTO : ℕ
FUNC_PROTO = 13

-- section 2.2.14
abbrev pub VAR : ℕ
VAR = 14

-- section 2.2.15
abbrev pub DATASEC : ℕ
DATASEC = 15

-- section 2.2.16
abbrev pub FLOAT : ℕ
FLOAT = 16

-- section 2.2.17
abbrev pub DECL_TAG : ℕ
DECL_TAG = 17

-- section 2.2.18
abbrev pub TYPE_TAG : ℕ
TYPE_TAG = 18

-- section 2.2.19
abbrev pub ENUM64 : ℕ
ENUM64 = 19
