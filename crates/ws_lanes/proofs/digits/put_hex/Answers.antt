use Rattle.std.proofs.Common.{ℕ, arith, slice_index, refl, ap, ◌∙◌, ◌+◌}
use Rattle.std.proofs.lemmas.Nat.{and_mask}
use Rattle.hex.specs.Hex.{lower_digits}
use Rattle.hex.proofs.Pairs.{encode_step, encode_done}
use Rattle.ws_lanes.proofs.Texts.{lanes_on}
use Rattle.ws_lanes.proofs.digits.put_hex.Goals as goal

pub lanes-preserved : goal.lanes-preserved
lanes-preserved c =
    let bytes = c.args.bytes.now in
    let i = c.lanes.done in
    let one = c.put_lanes.new.text in
    let two = c.put_lanes-in-lanes.new.text in
    let three = c.put_lanes-in-lanes-2.new.text in
    let first = lanes_on lower_digits bytes c.lanes.text one i (i + 16) refl c.put_lanes.ensures.front c.lanes.invariant.text in
    let second = lanes_on lower_digits bytes one two (i + 16) (i + 32) (omega arith) c.put_lanes-in-lanes.ensures.front first in
    let third = lanes_on lower_digits bytes two three (i + 32) (i + 48) (omega arith) c.put_lanes-in-lanes-2.ensures.front second in
    record {
      done = omega arith;
      text = lanes_on lower_digits bytes three c.put_lanes-in-lanes-3.new.text (i + 48) (i + 64) (omega arith) c.put_lanes-in-lanes-3.ensures.front third;
    }

pub more-preserved : goal.more-preserved
more-preserved c = record {
  done = omega arith;
  text = lanes_on lower_digits c.args.bytes.now c.more.text c.put_lanes-in-more.new.text c.more.done (c.more.done + 16) refl c.put_lanes-in-more.ensures.front c.more.invariant.text;
}

pub rest-preserved : goal.rest-preserved
rest-preserved c =
    let byte : ℕ = slice_index c.args.bytes.now c.rest.i in
    let digit : ℕ → ℕ = λ k. slice_index lower_digits k in
    encode_step lower_digits c.args.bytes.now c.rest.text c.rest.i _ _ (omega arith) (omega arith) (ap digit c.from.ensures) (ap digit (c.from-in-rest.ensures ∙ and_mask byte 4)) c.rest.invariant

pub returns : goal.returns
returns c = encode_done _ _ _ c.rest.i (omega arith) (omega arith) c.rest.invariant
