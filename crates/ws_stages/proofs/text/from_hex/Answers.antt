use Rattle.std.proofs.Common.{[], ◌+◌, ◌<◌, length, take, drop, get_or, sym, ap, ◌∙◌, arith}
use Rattle.std.proofs.lemmas.List.{take_more}
use Rattle.ws_flow.specs.Machines.{each_byte}
use Rattle.ws_flow.specs.Stages.{unhex_byte}
use Rattle.ws_stages.specs.Cuts.{kept_of, seen, seen_text, with_text}
use Rattle.ws_stages.proofs.Bytes.{front_byte_rest}
use Rattle.ws_stages.proofs.Pushes.{some_push}
use Rattle.ws_stages.proofs.Texts.{text_goes_on, text_stops}
use Rattle.ws_stages.proofs.text.from_hex.Goals as goal

pub returns-in-Bad-clause-seen : goal.returns-in-Bad-clause-seen
returns-in-Bad-clause-seen c =
    let k = kept_of c.args.cut.now in
    let bs = c.args.bytes.now in
    let i = c.loop-byte.byte-index in
    let lt : i < length bs = omega arith in
    let e = text_stops unhex_byte k (take i bs) (get_or bs i 0) (drop (i + 1) bs) (seen c.loop-byte.cut) (seen_text c.read_digit.new.cut c.read_digit.new.text.items) c.loop-byte.text.items c.loop-byte.invariant.seen c.loop-byte.invariant.fine c.in_ok-read_digit.ensures.seen (λ h. let b = c.in-Bad.is in cc) in
    some_push unhex_byte k (kept_of c.read_digit.new.cut) bs c.read_digit.new.text.items c.read_digit.new.cut.ending (e ∙ ap (λ q. with_text [] (each_byte unhex_byte k q)) (front_byte_rest bs i lt))

pub loop-byte-preserved : goal.loop-byte-preserved
loop-byte-preserved c = record {
  fine = c.in_default.is;
  seen =
      let k = kept_of c.args.cut.now in
      let bs = c.args.bytes.now in
      let i = c.loop-byte.byte-index in
      let lt : i < length bs = omega arith in
      let e = text_goes_on unhex_byte k (take i bs) (get_or bs i 0) (seen c.loop-byte.cut) (seen_text c.read_digit.new.cut c.read_digit.new.text.items) c.loop-byte.text.items c.loop-byte.invariant.seen c.loop-byte.invariant.fine c.in_ok-read_digit.ensures.seen in
      e ∙ ap (λ q. with_text [] (each_byte unhex_byte k q)) (sym (take_more bs i 0 lt));
  half = c.in_ok-read_digit.ensures.half;
  count = c.in_ok-read_digit.ensures.count ∙ c.loop-byte.invariant.count;
  chunks = c.in_ok-read_digit.ensures.chunks ∙ c.loop-byte.invariant.chunks;
  bytes = omega (arith, c.in_ok-read_digit.ensures.bytes, c.loop-byte.invariant.bytes);
}
