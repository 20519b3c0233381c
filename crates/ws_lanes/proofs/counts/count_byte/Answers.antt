use Rattle.std.proofs.Common.{◌≡◌, ◌==◌, ℕ, ◌+◌, List, Bool, cond, count_by, drop, ap, ◌∙◌, arith}
use Rattle.std.specs.Simd.Lanes.{chunk}
use Rattle.std.proofs.lemmas.List.Sums.{sum_by-append}
use Rattle.std.proofs.lemmas.Simd.{chunk-drop}
use Rattle.ws_lanes.proofs.counts.count_byte.Goals as goal

counted : (p : ℕ → Bool) (xs : List ℕ) (i n a k : ℕ) → a + count_by p (drop i xs) ≡ count_by p xs → k ≡ count_by p (chunk i n xs) → a + k + count_by p (drop (i + n) xs) ≡ count_by p xs
counted p xs i n a k h e =
    let split : count_by p (drop i xs) ≡ count_by p (chunk i n xs) + count_by p (drop (i + n) xs) = ap (count_by p) (chunk-drop i n xs) ∙ sum_by-append (λ x. cond (p x) 1 0) (chunk i n xs) (drop (i + n) xs) in
    omega (arith, h, e, split)

pub lanes-preserved : goal.lanes-preserved
lanes-preserved c = record {
  done = omega arith;
  count = counted (λ x. x == c.args.b) c.args.block.now c.lanes.done 32 c.lanes.count c.count_lanes.result c.lanes.invariant.count c.count_lanes.ensures;
}
