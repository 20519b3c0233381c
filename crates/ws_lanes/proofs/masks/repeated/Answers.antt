use Rattle.std.proofs.Common.{◌-◌, length, get_or, rules, sym, ap, ◌∙◌, arith}
use Rattle.std.proofs.Math.Nat.{mod-eq_of_lt, mod-eq-sub-mod}
use Rattle.std.proofs.lemmas.List.{length-set}
use Rattle.ws_lanes.proofs.Repeats.{repeat_more}
use Rattle.ws_lanes.proofs.masks.repeated.Goals as goal

pub first-init : goal.first-init
first-init c = record { repeats = record { each = λ k h. absurd (omega arith) }; long = search rules }

pub first-preserved : goal.first-preserved
first-preserved c =
    let key = c.args.key.now in
    let place = c.first.place in
    let v = get_or key place 0 in
    record {
      repeats = repeat_more key c.first.wide place v c.first.invariant.repeats (omega arith) (ap (λ q. get_or key q 0) (sym (mod-eq_of_lt {n = place} {m = length key} (omega arith))));
      long = length-set c.first.wide place v ∙ c.first.invariant.long;
    }

pub again-init : goal.again-init
again-init c = record { repeats = record { each = λ k h. c.first.invariant.repeats.each k (omega arith) }; long = c.first.invariant.long }

pub again-preserved : goal.again-preserved
again-preserved c =
    let key = c.args.key.now in
    let place = c.again.place in
    let wide = c.again.wide in
    let v = get_or wide (place - length key) 0 in
    record {
      repeats =
          repeat_more key wide place v c.again.invariant.repeats (omega arith)
          (c.again.invariant.repeats.each (place - length key) (omega arith) ∙ ap (λ q. get_or key q 0) (sym (mod-eq-sub-mod {n = place} {m = length key} (omega arith))));
      long = length-set wide place v ∙ c.again.invariant.long;
    }

pub returns : goal.returns
returns c = λ k h. c.again.invariant.repeats.each k (omega arith)
