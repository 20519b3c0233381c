use Rattle.std.proofs.Common.{◌≡◌, ◌-◌, vec_len, arith}
use Rattle.std.proofs.lemmas.Option.{slice_get_read}
use Rattle.std.proofs.lemmas.Bool.Decides.{nat_tests}
use Rattle.ws_slots.proofs.WaitingLemmas.{waiting_on-only, waiting_elsewhere-only}
use Rattle.ws_slots.proofs.waiting.only_at.Goals as goal

pub returns-then-index-p-clause-some : goal.returns-then-index-p-clause-some
returns-then-index-p-clause-some c =
    let ws = c.args.waiting.now.items in
    let i = c.loop-i.i - 1 in
    let there = slice_get_read ws (vec_len c.args.waiting.now) i c.index.result.now (omega arith) (grind arith) c.index.ensures in
    let is : c.index.result.now.on.0 ≡ c.args.p.0 = grind (arith, nat_tests) in
    (grind arith, waiting_elsewhere-only c.args.p.0 i ws c.index.result.now there is c.requires, λ w g. waiting_on-only c.args.p.0 i ws w g (let same : w ≡ c.index.result.now = cc in rw same is) c.requires)
