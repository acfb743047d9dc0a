use Rattle.std.proofs.Common.{rules, arith, ◌≡◌, ◌+◌, ◌-◌, ℕ, List, Option, Ok, take, drop, length, ◌++◌}
use Rattle.std.proofs.{lemmas.Grind.common_steps, Math.Seq.take-add, KnownBytes.Appends-trans}
use Rattle.std.specs.Io.KnownBytes.{Appends}
use Rattle.bpf_canon.proofs.device.sink.put_all.Goals as goal

-- one more write of n bytes
takes_more : (a b c : Option (List ℕ)) (bytes : List ℕ) (t n : ℕ) → Appends a b (take t bytes)
    → Appends b c (take n (take (length bytes - t) (drop t bytes))) → Appends a c (take (t + n) bytes)
takes_more a b c bytes t n p q =
    let e : take t bytes ++ take n (take (length bytes - t) (drop t bytes)) ≡ take (t + n) bytes =
    rw (take-add t n bytes) (grind (arith, common_steps)) in
    rw (← e) (Appends-trans a b c _ _ p q)

pub loop-taken-preserved : goal.loop-taken-preserved
loop-taken-preserved g c =
    let n = c.in_ok-taken.field-0 in
    let wrote : c.write.result ≡ Ok n = search rules in
    let bound = rw wrote at c.write.ensures.bound in
    let bytes = rw wrote at c.write.ensures.bytes in
    record {
      within = omega (arith, bound);
      appends = takes_more _ _ _ c.args.bytes.now c.loop-taken.taken n c.loop-taken.invariant.appends bytes;
      healthy = search rules;
    }
