use Rattle.std.proofs.Common.{refl, sym, false}
use Rattle.ws_slots.specs.Words.{slot_of}
use Rattle.ws_slots.specs.View.{all_waiting, table_of}
use Rattle.ws_slots.proofs.CountLemmas.{unnoted_in-follows, unwatched_in-follows}
use Rattle.ws_slots.proofs.TableLemmas.{unfollow-following, unfollow-not_following}
use Rattle.ws_slots.proofs.FirstLemmas.{all-kept}
use Rattle.ws_slots.proofs.AllWaitLemmas.{AllWait-set}
use Rattle.ws_slots.proofs.places.unfollow.Goals as goal

pub returns-clause-table : goal.returns-clause-table
returns-clause-table c = λ ws js n ps b.
    rw (c.put_follows.ensures.items _ c.in-Some.ensures.some.0, all-kept c.args.slots.now.items ws c.args.p.0 (slot_of c.in-Some._open.now) (record (slot_of c.in-Some._open.now) { follows = false }) c.in-Some.ensures.some.0 refl)
    (sym (unfollow-following c.args.p c.args.slots.now.items (all_waiting c.args.slots.now.items ws) js n ps b _ c.in-Some.ensures.some.0 c.in-Some.ensures.some.1 c.in-Some.ensures.some.2))

pub returns-clause-unnoted : goal.returns-clause-unnoted
returns-clause-unnoted c =
    rw (c.put_follows.ensures.items _ c.in-Some.ensures.some.0) (unnoted_in-follows c.args.slots.now.items c.args.p.0 _ false c.in-Some.ensures.some.0)

pub returns-clause-unwatched : goal.returns-clause-unwatched
returns-clause-unwatched c =
    rw (c.put_follows.ensures.items _ c.in-Some.ensures.some.0) (unwatched_in-follows c.args.slots.now.items c.args.p.0 _ false c.in-Some.ensures.some.0)

pub returns-in_default-clause-table : goal.returns-in_default-clause-table
returns-in_default-clause-table c = λ ws js n ps b.
    sym (unfollow-not_following c.args.p (table_of c.args.slots.now.items (all_waiting c.args.slots.now.items ws) js n ps b) (c.in_default.ensures.none (all_waiting c.args.slots.now.items ws)))

pub returns-clause-kept : goal.returns-clause-kept
returns-clause-kept c = λ ws h.
    rw (c.put_follows.ensures.items _ c.in-Some.ensures.some.0, all-kept c.args.slots.now.items ws c.args.p.0 (slot_of c.in-Some._open.now) (record (slot_of c.in-Some._open.now) { follows = false }) c.in-Some.ensures.some.0 refl) (AllWait-set c.args.slots.now.items (all_waiting c.args.slots.now.items ws) c.args.p.0 (slot_of c.in-Some._open.now) (record (slot_of c.in-Some._open.now) { follows = false }) c.in-Some.ensures.some.0 refl refl h)

pub returns-clause-reactions : goal.returns-clause-reactions
returns-clause-reactions c = λ ws.
    rw (c.put_follows.ensures.items _ c.in-Some.ensures.some.0, all-kept c.args.slots.now.items ws c.args.p.0 (slot_of c.in-Some._open.now) (record (slot_of c.in-Some._open.now) { follows = false }) c.in-Some.ensures.some.0 refl) refl
