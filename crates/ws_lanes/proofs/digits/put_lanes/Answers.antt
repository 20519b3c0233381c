use Rattle.std.proofs.Common.{◌+◌, ◌*◌, ◌++◌, length, map, get_or, take, w8, ap, ◌∙◌, arith}
use Rattle.std.specs.Simd.Lanes.{chunk, pick_l, put_chunk}
use Rattle.std.proofs.lemmas.Simd.{length-chunk, chunk-fits, get_or-put_chunk_above}
use Rattle.hex.specs.Hex.{lower_digits}
use Rattle.ws_lanes.proofs.Texts.{first_half, second_half, halves, halves_below, woven, two_stores}
use Rattle.ws_lanes.proofs.digits.put_lanes.Goals as goal

pub digits_of-requires-clause-below : goal.digits_of-requires-clause-below
digits_of-requires-clause-below c =
    let bytes = c.args.bytes.now in
    halves_below (chunk c.args.from 16 bytes) first_half (length-chunk c.args.from 16 bytes c.requires.bytes) (chunk-fits w8 c.args.from 16 bytes c.type_inv.bytes)

pub digits_of-requires-2-clause-below : goal.digits_of-requires-2-clause-below
digits_of-requires-2-clause-below c =
    let bytes = c.args.bytes.now in
    halves_below (chunk c.args.from 16 bytes) second_half (length-chunk c.args.from 16 bytes c.requires.bytes) (chunk-fits w8 c.args.from 16 bytes c.type_inv.bytes)

pub returns : goal.returns
returns c =
    let text = c.args.text.now in
    let from = c.args.from in
    let bytes = chunk from 16 c.args.bytes.now in
    let first = c.digits_of.ensures in
    let second = c.digits_of-2.ensures in
    record {
      front = two_stores text c.digits_of.result c.digits_of-2.result (2 * from) (ap length first) (ap length second) (omega arith)
          ∙ ap (λ q. take (2 * from) text ++ (q ++ c.digits_of-2.result)) first
          ∙ ap (λ q. take (2 * from) text ++ (map (λ v. get_or lower_digits v 0) (pick_l 0 (halves bytes) first_half) ++ q)) second
          ∙ ap (λ q. take (2 * from) text ++ q) (woven lower_digits bytes (length-chunk from 16 c.args.bytes.now c.requires.bytes));
      back = λ k h.
          get_or-put_chunk_above (2 * from + 16) (put_chunk (2 * from) text c.digits_of.result) c.digits_of-2.result k 0 (omega (arith, ap length second))
          ∙ get_or-put_chunk_above (2 * from) text c.digits_of.result k 0 (omega (arith, ap length first));
    }
