use Rattle.std.proofs.Common.{◌+◌, ◌<◌, length, take, drop, get_or, sym, ap, ◌∙◌, arith}
use Rattle.std.proofs.lemmas.List.{take_more}
use Rattle.ws_flow.specs.Machines.{each_byte}
use Rattle.ws_stages.specs.Cuts.{kept_of, seen, with_chunks}
use Rattle.ws_stages.proofs.Bytes.{goes_on, stops, front_byte_rest}
use Rattle.ws_stages.proofs.cut.cut_bytes.Goals as goal

pub returns-in-Bad-clause-seen : goal.returns-in-Bad-clause-seen
returns-in-Bad-clause-seen g c =
    let f = g.S.ByteStep.step c.args.stage.now in
    let bs = c.args.bytes.now in
    let i = c.loop-byte.byte-index in
    let lt : i < length bs = omega arith in
    let e = stops f (kept_of c.args.cut.now) c.args.cut.now.chunks.items (take i bs) (get_or bs i 0) (drop (i + 1) bs) (seen c.loop-byte.cut) (seen c.step.new.cut) c.loop-byte.invariant.seen c.loop-byte.invariant.fine c.in_ok-step.ensures.seen (λ h. let k = c.in-Bad.is in cc) in
    e ∙ ap (λ q. with_chunks c.args.cut.now.chunks.items (each_byte f (kept_of c.args.cut.now) q)) (front_byte_rest bs i lt)

pub loop-byte-preserved : goal.loop-byte-preserved
loop-byte-preserved g c = record {
  fine = c.in_default.is;
  seen =
      let f = g.S.ByteStep.step c.args.stage.now in
      let bs = c.args.bytes.now in
      let i = c.loop-byte.byte-index in
      let lt : i < length bs = omega arith in
      let e = goes_on f (kept_of c.args.cut.now) c.args.cut.now.chunks.items (take i bs) (get_or bs i 0) (seen c.loop-byte.cut) (seen c.step.new.cut) c.loop-byte.invariant.seen c.loop-byte.invariant.fine c.in_ok-step.ensures.seen in
      e ∙ ap (λ q. with_chunks c.args.cut.now.chunks.items (each_byte f (kept_of c.args.cut.now) q)) (sym (take_more bs i 0 lt));
  count = c.in_ok-step.ensures.count ∙ c.loop-byte.invariant.count;
  bytes = omega (arith, c.in_ok-step.ensures.bytes, c.loop-byte.invariant.bytes);
}
