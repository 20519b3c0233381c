use Rattle.std.proofs.Common.{◌≤◌, ◌+◌, arith, refl}
use Rattle.ws_steps.specs.Promises.{use_gift}
use Rattle.ws_promise.specs.Seen.{jobs_in}
use Rattle.ws_promise.proofs.RoomLemmas.{jobs_in-fresh_settled}
use Rattle.ws_promise.proofs.promises.Promises.use_fresh.Goals as goal

pub use_this-requires : goal.use_this-requires
use_this-requires c =
    let room : 1 + jobs_in c.args.self.now.table ≤ c.args.self.now.room.jobs = c.requires.jobs in
    rw (c.settle_so.ensures, c.fresh-p.ensures.table, c.fresh-p.ensures.id) (omega (arith, jobs_in-fresh_settled c.args.outcome.now c.args.self.now.table))

pub returns : goal.returns
unfolding use_gift
returns c = rw (c.use_this.ensures, c.settle_so.ensures, c.fresh-p.ensures.table, c.fresh-p.ensures.id) refl
