use Rattle.std.proofs.Common.{arith, ◌≡◌, ◌+◌, ◌-◌, ◌/◌, Some, refl}
use Rattle.std.specs.Prelude.{slice_get}
use Rattle.ws_places.proofs.OrderLemmas.{above, below, pair-read}
use Rattle.ws_places.proofs.places.halve.Goals as goal

pub loop-low-preserved : goal.loop-low-preserved
loop-low-preserved c =
    let m = c.loop-low.low + (c.loop-low.high - c.loop-low.low) / 2 in
    let here : slice_get c.args.pairs.now.items m ≡ Some c.index.result.now = pair-read c.args.pairs.now.items _ m c.index.result.now refl (omega (arith, c.loop-low.invariant.last, c.loop-low-test.true)) c.index.ensures in
    record {
      within = omega arith;
      last = omega (arith, c.loop-low.invariant.last, c.loop-low-test.true);
      before = c.loop-low.invariant.before;
      after = λ j q g l. above 0 c.requires.0 m j c.args.number c.args.pairs.now.items q c.index.result.now c.requires.1 here (omega (arith, c.if-at-number.false, c.if-at-number-2.false)) g l;
    }

pub loop-low-preserved-then-at-number-2 : goal.loop-low-preserved-then-at-number-2
loop-low-preserved-then-at-number-2 c =
    let m = c.loop-low.low + (c.loop-low.high - c.loop-low.low) / 2 in
    let here : slice_get c.args.pairs.now.items m ≡ Some c.index.result.now = pair-read c.args.pairs.now.items _ m c.index.result.now refl (omega (arith, c.loop-low.invariant.last, c.loop-low-test.true)) c.index.ensures in
    record {
      within = omega (arith, c.loop-low-test.true);
      last = c.loop-low.invariant.last;
      before = λ j q g l. below 0 c.requires.0 m j c.args.number c.args.pairs.now.items q c.index.result.now c.requires.1 here c.if-at-number-2.true g (omega (arith, l));
      after = c.loop-low.invariant.after;
    }
