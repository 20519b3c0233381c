use Rattle.std.proofs.Common.{◌∙◌, sym, arith}
use Rattle.ws_slots.proofs.KeptLemmas.{kept-jump, kept-step}
use Rattle.ws_slots.proofs.needed.count_kept.Goals as goal

pub loop-p-preserved : goal.loop-p-preserved
loop-p-preserved c =
    let s = c.in-Some.ensures.some.2 in
    let step = kept-step c.loop-p.at.0 c.in-Some.p.0 c.kept_at-kept.result c.args.slots.now.items s.0 c.in-Some.ensures.some.0 c.in-Some.ensures.some.3 s.1 (c.kept_at-kept.ensures.kept s.0 s.1) in
    record {
      within = omega (arith, c.in-Some.ensures.some.1);
      few = omega (arith, c.kept_at-kept.ensures.few, c.loop-p.invariant.few, c.in-Some.ensures.some.0);
      counted = omega (arith, step, c.loop-p.invariant.counted);
    }

pub returns : goal.returns
returns c = c.loop-p.invariant.counted ∙ sym (kept-jump c.loop-p.at.0 _ c.args.slots.now.items c.loop-p.invariant.within c.in_default.ensures.none)
