use Rattle.std.proofs.Common.{◌≡◌, [], ◌∷◌, pos, inl, refl, rules}
use Rattle.bpf_text.specs.insn.Operands.{number, memory}
use Rattle.bpf_text.proofs.InsnLemmas.ReadOperandLemmas.{token_at, two_cells, three_cells, five_cells, one_byte, none_of_two, none_of_five, passed}
use Rattle.bpf_text.proofs.insn.read_operand.operand_from_tokens.Goals as goal

pub returns-in_err-signed_number-in-len2 : goal.returns-in_err-signed_number-in-len2
returns-in_err-signed_number-in-len2 c =
    let xs = c.args.tokens.now in
    rw (c.from_residual.ensures, two_cells xs c.in-len2.len_at_least c.in-len2.len_below) (none_of_two (token_at xs 0) (token_at xs 1) c.in_err-signed_number-in-len2.ensures.none)

pub returns-in_ok-signed_number-in-len2 : goal.returns-in_ok-signed_number-in-len2
returns-in_ok-signed_number-in-len2 c =
    let z = c.in_ok-signed_number-in-len2.ensures.some in
    rw (two_cells c.args.tokens.now c.in-len2.len_at_least c.in-len2.len_below) (number z.0, z.1, passed _ _ z.2)

pub returns-in_err-register_of-in-91 : goal.returns-in_err-register_of-in-91
returns-in_err-register_of-in-91 c =
    rw (c.from_residual-in_err-register_of-in-91.ensures, three_cells c.args.tokens.now (search rules) (search rules)) (search (rules, c.in_err-register_of-in-91.ensures.none))

pub returns-in_ok-register_of-in-91 : goal.returns-in_ok-register_of-in-91
returns-in_ok-register_of-in-91 c =
    let xs = c.args.tokens.now in
    let opening : token_at xs 0 ≡ 91 ∷ [] = one_byte (token_at xs 0) 91 (search rules) (search rules) (search rules) in
    let closing : token_at xs 2 ≡ 93 ∷ [] = one_byte (token_at xs 2) 93 (search rules) (search rules) (search rules) in
    rw (three_cells xs (search rules) (search rules)) (memory c.in_ok-register_of-in-91.field-0 (pos 0), (opening, c.in_ok-register_of-in-91.ensures.some, closing, refl), (refl, (search rules, inl refl)))

pub returns-in_err-register_of-in-91-2 : goal.returns-in_err-register_of-in-91-2
returns-in_err-register_of-in-91-2 c =
    rw (c.from_residual-in_err-register_of-in-91-2.ensures, five_cells c.args.tokens.now (search rules) (search rules)) (search (rules, c.in_err-register_of-in-91-2.ensures.none))

pub returns-in_err-signed_number-in-91-2 : goal.returns-in_err-signed_number-in-91-2
returns-in_err-signed_number-in-91-2 c =
    let xs = c.args.tokens.now in
    rw (c.from_residual-in_err-signed_number-in-91-2.ensures, five_cells xs (search rules) (search rules))
    (none_of_five (token_at xs 0) (token_at xs 1) (token_at xs 2) (token_at xs 3) (token_at xs 4) c.in_err-signed_number-in-91-2.ensures.none)

pub returns-in_ok-signed_number-in-91-2 : goal.returns-in_ok-signed_number-in-91-2
returns-in_ok-signed_number-in-91-2 c =
    let xs = c.args.tokens.now in
    let opening : token_at xs 0 ≡ 91 ∷ [] = one_byte (token_at xs 0) 91 (search rules) (search rules) (search rules) in
    let closing : token_at xs 4 ≡ 93 ∷ [] = one_byte (token_at xs 4) 93 (search rules) (search rules) (search rules) in
    let z = c.in_ok-signed_number-in-91-2.ensures.some in
    rw (five_cells xs (search rules) (search rules))
    (memory c.in_ok-register_of-in-91-2.field-0 z.0, (opening, c.in_ok-register_of-in-91-2.ensures.some, z.1, closing), (refl, passed _ _ z.2))
