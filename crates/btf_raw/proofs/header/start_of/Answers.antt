use Rattle.std.proofs.Common.{◌≡◌, rules}
use Rattle.bpf_words.specs.Words.{word16_at}
use Rattle.btf_raw.proofs.header.start_of.Goals as goal
use Rattle.btf_raw.proofs.header.start_of.Goals.{then-get16, else-get16+then-get16-2}

pub returns-then-bytes-ne1 : goal.returns-then-bytes-ne1
returns-then-bytes-ne1 c =
    let magic : word16_at c.if-get16.order c.args.bytes.now 0 ≡ 0xeb9f =
    elim c.if-get16.branch [ then-get16 w ↦ rw w.order-is (cc) | else-get16+then-get16-2 w ↦ rw w.order-is (cc) ] in
    search rules

pub returns-then-bytes-ne0 : goal.returns-then-bytes-ne0
returns-then-bytes-ne0 c =
    let magic : word16_at c.if-get16.order c.args.bytes.now 0 ≡ 0xeb9f =
    elim c.if-get16.branch [ then-get16 w ↦ rw w.order-is (cc) | else-get16+then-get16-2 w ↦ rw w.order-is (cc) ] in
    search rules

pub returns-then-len-lt24 : goal.returns-then-len-lt24
returns-then-len-lt24 c =
    let magic : word16_at c.if-get16.order c.args.bytes.now 0 ≡ 0xeb9f =
    elim c.if-get16.branch [ then-get16 w ↦ rw w.order-is (cc) | else-get16+then-get16-2 w ↦ rw w.order-is (cc) ] in
    search rules

pub returns-then-bytes-pos-ne0 : goal.returns-then-bytes-pos-ne0
returns-then-bytes-pos-ne0 c =
    let magic : word16_at c.if-get16.order c.args.bytes.now 0 ≡ 0xeb9f =
    elim c.if-get16.branch [ then-get16 w ↦ rw w.order-is (cc) | else-get16+then-get16-2 w ↦ rw w.order-is (cc) ] in
    search rules
