-- Each mnemonic is a token of at most 14 bytes.
use Rattle.std.proofs.Common.{leb, ◌&&◌, ◌≡◌, ℕ, ◌<◌, ◌≤◌, Bool, true, List, length, refl, ap, ◌∙◌}
use Rattle.std.specs.List.{list_all}
use Rattle.std.proofs.lemmas.Bool.{and_parts, leb-true}
use Rattle.bpf_text.specs.declared.insn.mnemonic.Mnemonic.{Mnemonic}
use Rattle.bpf_insn.specs.declared.insn.Insn.{Insn}
use Rattle.bpf_text.specs.insn.{Mnemonics.text_of_mnemonic, Mnemonics.mnemonic_of, Table.mnemonic_text, Tokens.is_word_byte}
use Rattle.bpf_text.proofs.InsnLemmas.{EachMnemonic.each_passes, OneInsn.mnemonic_text_is}

-- letters, digits and _, at least one and at most 14
abbrev fits_token : List ℕ → Bool
fits_token bytes = leb 1 (length bytes) && (leb (length bytes) 14 && list_all is_word_byte bytes)

mnemonic_fits_token : (m : Mnemonic) → fits_token (text_of_mnemonic m) ≡ true
mnemonic_fits_token m = each_passes (λ x. fits_token (text_of_mnemonic x)) refl refl m

abbrev Parts : List ℕ → Type 0
Parts word = (0 < length word) × (list_all is_word_byte word ≡ true) × (length word ≤ 14)

parts : (word : List ℕ) → fits_token word ≡ true → Parts word
parts word e =
    let some = and_parts (leb 1 (length word)) (leb (length word) 14 && list_all is_word_byte word) e in
    let few = and_parts (leb (length word) 14) (list_all is_word_byte word) some.1 in
    (leb-true 1 (length word) some.0, few.1, leb-true (length word) 14 few.0)

word_parts : (i : Insn) → Parts (mnemonic_text i)
word_parts i = parts (mnemonic_text i) (ap fits_token (mnemonic_text_is i) ∙ mnemonic_fits_token (mnemonic_of i))

pub mnemonic_is_token : (i : Insn) → (0 < length (mnemonic_text i)) × (list_all is_word_byte (mnemonic_text i) ≡ true)
mnemonic_is_token i = let p = word_parts i in (p.0, p.1)

pub mnemonic_is_short : (i : Insn) → length (mnemonic_text i) ≤ 14
mnemonic_is_short i = (word_parts i).2
