use Rattle.std.proofs.Common.{refl, ◌∙◌, Some, ap, arith, sym}
use Rattle.std.proofs.lemmas.Option.{slice_get_within}
use Rattle.ws_steps.specs.Promises.{is_pending}
use Rattle.ws_slots.specs.View.{all_waiting, table_of}
use Rattle.ws_slots.specs.Words.{rank_in}
use Rattle.ws_slots.proofs.CountLemmas.{unnoted_in-watch_pending, unnoted_in-watch_settled, unwatched_in-watch}
use Rattle.ws_slots.proofs.WatchLemmas.{watch-none, watch-watched, watch-pending, watch-settled}
use Rattle.ws_slots.proofs.FirstLemmas.{all-kept}
use Rattle.ws_slots.proofs.AllWaitLemmas.{AllWait-set}
use Rattle.ws_slots.proofs.watched.watch.Goals as goal

pub returns-in_default-clause-table : goal.returns-in_default-clause-table
returns-in_default-clause-table c = λ ws js b.
    sym (watch-none c.args.p (table_of c.args.slots.now.items (all_waiting c.args.slots.now.items ws) js c.args.watched.now c.args.events.now.items b) (c.in_default.ensures.none (all_waiting c.args.slots.now.items ws)))

pub returns-in-Some-rank_at-clause-table : goal.returns-in-Some-rank_at-clause-table
returns-in-Some-rank_at-clause-table c = λ ws js b.
    let h = c.in-Some.ensures.some in
    sym (watch-watched c.args.p c.args.slots.now.items (all_waiting c.args.slots.now.items ws) js c.args.watched.now c.args.events.now.items b _ _ h.there (sym (ap rank_in h.there) ∙ (sym c.rank_at.ensures ∙ c.in-Some-rank_at.is)))

pub put_rank-requires : goal.put_rank-requires
put_rank-requires c =
    let there = slice_get_within c.args.slots.now.items c.args.p.0 (Some c.in-Some.ensures.some.slot) c.in-Some.ensures.some.there in
    let count = unwatched_in-watch c.args.slots.now.items c.args.p.0 c.in-Some.ensures.some.slot c.args.watched.now c.in-Some.ensures.some.there (sym (ap rank_in c.in-Some.ensures.some.there) ∙ (sym c.rank_at.ensures ∙ c.in-None.is)) in
    omega (arith, c.requires.watched, count, there)

pub returns-then-pending-clause-table : goal.returns-then-pending-clause-table
returns-then-pending-clause-table c = λ ws js b.
    rw (c.put_rank.ensures.items _ c.in-Some.ensures.some.there, all-kept c.args.slots.now.items ws c.args.p.0 c.in-Some.ensures.some.slot (record c.in-Some.ensures.some.slot { rank = Some c.args.watched.now }) c.in-Some.ensures.some.there refl)
    (sym (watch-pending c.args.p c.args.slots.now.items (all_waiting c.args.slots.now.items ws) js c.args.watched.now c.args.events.now.items b _ c.in-Some.ensures.some.there (sym (ap rank_in c.in-Some.ensures.some.there) ∙ (sym c.rank_at.ensures ∙ c.in-None.is)) (ap is_pending c.in-Some.ensures.some.has ∙ (sym c.is_unsettled-pending.ensures ∙ c.if-pending.true))))

pub returns-then-pending-clause-unnoted : goal.returns-then-pending-clause-unnoted
returns-then-pending-clause-unnoted c =
    rw (c.put_rank.ensures.items _ c.in-Some.ensures.some.there, c.requires.unnoted)
    (sym (unnoted_in-watch_pending c.args.slots.now.items c.args.p.0 _ c.args.watched.now c.in-Some.ensures.some.there (sym (ap rank_in c.in-Some.ensures.some.there) ∙ (sym c.rank_at.ensures ∙ c.in-None.is)) (ap is_pending c.in-Some.ensures.some.has ∙ (sym c.is_unsettled-pending.ensures ∙ c.if-pending.true))))

pub returns-then-pending-clause-watched : goal.returns-then-pending-clause-watched
returns-then-pending-clause-watched c =
    let count = unwatched_in-watch c.args.slots.now.items c.args.p.0 c.in-Some.ensures.some.slot c.args.watched.now c.in-Some.ensures.some.there (sym (ap rank_in c.in-Some.ensures.some.there) ∙ (sym c.rank_at.ensures ∙ c.in-None.is)) in
    let same = rw (c.put_rank.ensures.items _ c.in-Some.ensures.some.there) at c.put_rank.ensures.len in
    rw (c.put_rank.ensures.items _ c.in-Some.ensures.some.there) (omega arith)

pub returns-else-pending-clause-table : goal.returns-else-pending-clause-table
returns-else-pending-clause-table c = λ ws js b.
    rw (c.put_rank.ensures.items _ c.in-Some.ensures.some.there, c.push_back_reserved.ensures.items, all-kept c.args.slots.now.items ws c.args.p.0 c.in-Some.ensures.some.slot (record c.in-Some.ensures.some.slot { rank = Some c.args.watched.now }) c.in-Some.ensures.some.there refl)
    (sym (watch-settled c.args.p c.args.slots.now.items (all_waiting c.args.slots.now.items ws) js c.args.watched.now c.args.events.now.items b _ c.in-Some.ensures.some.there (sym (ap rank_in c.in-Some.ensures.some.there) ∙ (sym c.rank_at.ensures ∙ c.in-None.is)) (ap is_pending c.in-Some.ensures.some.has ∙ (sym c.is_unsettled-pending.ensures ∙ c.if-pending.false))))

pub returns-else-pending-clause-unnoted : goal.returns-else-pending-clause-unnoted
returns-else-pending-clause-unnoted c =
    rw (c.put_rank.ensures.items _ c.in-Some.ensures.some.there, c.requires.unnoted)
    (sym (unnoted_in-watch_settled c.args.slots.now.items c.args.p.0 _ c.args.watched.now c.in-Some.ensures.some.there (ap is_pending c.in-Some.ensures.some.has ∙ (sym c.is_unsettled-pending.ensures ∙ c.if-pending.false))))

pub returns-else-pending-clause-watched : goal.returns-else-pending-clause-watched
returns-else-pending-clause-watched c =
    let count = unwatched_in-watch c.args.slots.now.items c.args.p.0 c.in-Some.ensures.some.slot c.args.watched.now c.in-Some.ensures.some.there (sym (ap rank_in c.in-Some.ensures.some.there) ∙ (sym c.rank_at.ensures ∙ c.in-None.is)) in
    let same = rw (c.put_rank.ensures.items _ c.in-Some.ensures.some.there) at c.put_rank.ensures.len in
    rw (c.put_rank.ensures.items _ c.in-Some.ensures.some.there) (omega arith)

pub returns-then-pending-clause-kept : goal.returns-then-pending-clause-kept
returns-then-pending-clause-kept c = λ ws h.
    rw (c.put_rank.ensures.items _ c.in-Some.ensures.some.there, all-kept c.args.slots.now.items ws c.args.p.0 c.in-Some.ensures.some.slot (record c.in-Some.ensures.some.slot { rank = Some c.args.watched.now }) c.in-Some.ensures.some.there refl) (AllWait-set c.args.slots.now.items (all_waiting c.args.slots.now.items ws) c.args.p.0 c.in-Some.ensures.some.slot (record c.in-Some.ensures.some.slot { rank = Some c.args.watched.now }) c.in-Some.ensures.some.there refl refl h)

pub returns-else-pending-clause-kept : goal.returns-else-pending-clause-kept
returns-else-pending-clause-kept c = λ ws h.
    rw (c.put_rank.ensures.items _ c.in-Some.ensures.some.there, all-kept c.args.slots.now.items ws c.args.p.0 c.in-Some.ensures.some.slot (record c.in-Some.ensures.some.slot { rank = Some c.args.watched.now }) c.in-Some.ensures.some.there refl) (AllWait-set c.args.slots.now.items (all_waiting c.args.slots.now.items ws) c.args.p.0 c.in-Some.ensures.some.slot (record c.in-Some.ensures.some.slot { rank = Some c.args.watched.now }) c.in-Some.ensures.some.there refl refl h)

pub overflow_add-watched : goal.overflow_add-watched
overflow_add-watched c =
    let count = unwatched_in-watch c.args.slots.now.items c.args.p.0 c.in-Some.ensures.some.slot c.args.watched.now c.in-Some.ensures.some.there (sym (ap rank_in c.in-Some.ensures.some.there) ∙ (sym c.rank_at.ensures ∙ c.in-None.is)) in
    omega arith

pub returns-then-pending-clause-reactions : goal.returns-then-pending-clause-reactions
returns-then-pending-clause-reactions c = λ ws. rw (c.put_rank.ensures.items _ c.in-Some.ensures.some.there, all-kept c.args.slots.now.items ws c.args.p.0 c.in-Some.ensures.some.slot (record c.in-Some.ensures.some.slot { rank = Some c.args.watched.now }) c.in-Some.ensures.some.there refl) refl

pub returns-else-pending-clause-reactions : goal.returns-else-pending-clause-reactions
returns-else-pending-clause-reactions c = λ ws. rw (c.put_rank.ensures.items _ c.in-Some.ensures.some.there, all-kept c.args.slots.now.items ws c.args.p.0 c.in-Some.ensures.some.slot (record c.in-Some.ensures.some.slot { rank = Some c.args.watched.now }) c.in-Some.ensures.some.there refl) refl
