use Rattle.std.proofs.Common.{◌≡◌, ◌+◌, ◌-◌, [], drop, take, vec_len, refl, arith}
use Rattle.std.proofs.lemmas.Option.{slice_get_read}
use Rattle.ws_slots.specs.View.{waiting_on}
use Rattle.ws_slots.proofs.WaitingLemmas.{alike-moved}
use Rattle.ws_slots.proofs.waiting.take_out.Goals as goal

pub returns-then-waits_none-clause-waiting : goal.returns-then-waits_none-clause-waiting
returns-then-waits_none-clause-waiting c =
    let ws = c.args.waiting.now.items in
    let n = c.len-last.result - 1 in
    let v = c.index-then-waits_none.result.now in
    let there = slice_get_read ws (vec_len c.args.waiting.now) n v (omega arith) (omega arith) c.index-then-waits_none.ensures in
    let seen = slice_get_read ws (vec_len c.args.waiting.now) n c.index.result.now (omega arith) (omega arith) c.index.ensures in
    let same : c.index.result.now ≡ v = cc in
    let none : waiting_on v.on.0 (take (n - (c.args.i + 1)) (drop (c.args.i + 1) ws)) ≡ [] = rw (← same, ← c.deref.ensures.value) (c.if-waits_none.ensures refl) in
    rw c.truncate-then-waits_none.ensures.items (alike-moved ws n c.args.i v (omega arith) (omega arith) there none)
