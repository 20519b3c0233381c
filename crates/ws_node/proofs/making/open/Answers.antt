use Rattle.std.proofs.Common.{◌≡◌, List, length, ap, ◌∙◌, arith, rules}
use Rattle.std.specs.Prelude.{is_some}
use Rattle.ws_flow.specs.declared.plan.Placed.{Placed}
use Rattle.ws_chain_laws.specs.Chain.{dest_of}
use Rattle.ws_node.specs.Opening.{abort_of, all_begun}
use Rattle.ws_node.specs.Shares.{abort_in, origin_by, shared, target_by}
use Rattle.ws_node.proofs.MakingNodes.{after-none, after-some, are-answered, count-small, few, in-range, is-answered, last-answers, led-is, no-signal, piped-is, pipes-can, shared-count, shared-made, taken-from}
use Rattle.ws_node.proofs.making.open.Goals as goal
use Rattle.ws_node.proofs.making.open.Goals.{then-below, else-below}

pub make_streams-requires-clause-range : goal.make_streams-requires-clause-range
make_streams-requires-clause-range c =
    in-range c.args.plan.now c.args.share c.args.above c.args.below c.requires.accepted c.deref.result.now c.deref.ensures.value

pub make_abort_of-requires : goal.make_abort_of-requires
make_abort_of-requires c =
    no-signal c.args.plan.now c.args.share c.args.above c.args.below c.requires.accepted c.deref.result.now c.make_streams.new.realm.slots c.deref.ensures.value c.in_ok-stages.ensures.slots

pub overflow_cast-count : goal.overflow_cast-count
overflow_cast-count c =
    let count = shared-count c.args.plan.now c.args.share c.args.above c.args.below c.requires.accepted c.len-count.result c.in_ok-stages.stages.items c.deref.result.now
    (c.len-count.ensures ∙ c.in_ok-stages.stages.ok.0) c.in_ok-stages.ensures.stages c.deref.ensures.value in
    let small = count-small c.args.plan.now c.args.share c.args.above c.args.below c.requires.accepted in
    omega arith

pub make_pipes-requires-clause-number : goal.make_pipes-requires-clause-number
make_pipes-requires-clause-number c =
    let count = shared-count c.args.plan.now c.args.share c.args.above c.args.below c.requires.accepted c.len-count.result c.in_ok-stages.stages.items c.deref.result.now
    (c.len-count.ensures ∙ c.in_ok-stages.stages.ok.0) c.in_ok-stages.ensures.stages c.deref.ensures.value in
    let small = count-small c.args.plan.now c.args.share c.args.above c.args.below c.requires.accepted in
    omega arith

pub make_pipes-requires-clause-promises : goal.make_pipes-requires-clause-promises
make_pipes-requires-clause-promises c =
    let plan = c.args.plan.now in
    let o = origin_by c.args.above in
    let t = target_by c.args.below in
    let n = length (shared c.args.share plan.stages.items) in
    let signalled = is_some (abort_in plan c.args.below) in
    let some = few plan c.args.share c.args.above c.args.below c.requires.accepted in
    let count = shared-count c.args.plan.now c.args.share c.args.above c.args.below c.requires.accepted c.len-count.result c.in_ok-stages.stages.items c.deref.result.now
    (c.len-count.ensures ∙ c.in_ok-stages.stages.ok.0) c.in_ok-stages.ensures.stages c.deref.ensures.value in
    let after : c.if-below.after ≡ abort_in plan c.args.below = elim c.if-below.branch [
      | then-below w ↦ after-none plan c.args.below c.if-below.after w.if-below.true w.after-is
      | else-below w ↦ after-some plan c.args.below c.if-below.after w.if-below.false w.after-is
    ] in
    let made = shared-made plan c.args.share c.args.above c.args.below c.requires.accepted c.deref.result.now c.make_streams.new.realm.slots c.make_abort_of.new.realm.slots c.if-below.after
    c.deref.ensures.value c.in_ok-stages.ensures.slots after c.in_ok-abort.ensures.slots in
    pipes-can o t n signalled some c.len-count.result c.make_abort_of.new.realm.slots count made

pub make_pipe-requires-clause-number : goal.make_pipe-requires-clause-number
make_pipe-requires-clause-number c =
    let count = shared-count c.args.plan.now c.args.share c.args.above c.args.below c.requires.accepted c.len-count.result c.in_ok-stages.stages.items c.deref.result.now
    (c.len-count.ensures ∙ c.in_ok-stages.stages.ok.0) c.in_ok-stages.ensures.stages c.deref.ensures.value in
    let small = count-small c.args.plan.now c.args.share c.args.above c.args.below c.requires.accepted in
    omega arith

pub make_pipe-requires-clause-promise : goal.make_pipe-requires-clause-promise
make_pipe-requires-clause-promise c =
    let plan = c.args.plan.now in
    let o = origin_by c.args.above in
    let t = target_by c.args.below in
    let n = length (shared c.args.share plan.stages.items) in
    let signalled = is_some (abort_in plan c.args.below) in
    let some = few plan c.args.share c.args.above c.args.below c.requires.accepted in
    let count = shared-count c.args.plan.now c.args.share c.args.above c.args.below c.requires.accepted c.len-count.result c.in_ok-stages.stages.items c.deref.result.now
    (c.len-count.ensures ∙ c.in_ok-stages.stages.ok.0) c.in_ok-stages.ensures.stages c.deref.ensures.value in
    let after : c.if-below.after ≡ abort_in plan c.args.below = elim c.if-below.branch [
      | then-below w ↦ after-none plan c.args.below c.if-below.after w.if-below.true w.after-is
      | else-below w ↦ after-some plan c.args.below c.if-below.after w.if-below.false w.after-is
    ] in
    let made = shared-made plan c.args.share c.args.above c.args.below c.requires.accepted c.deref.result.now c.make_streams.new.realm.slots c.make_abort_of.new.realm.slots c.if-below.after
    c.deref.ensures.value c.in_ok-stages.ensures.slots after c.in_ok-abort.ensures.slots in
    let signal = taken-from c.in_ok-abort.abort c.map-signal.result _ c.map-signal.ensures.cases (λ x s l. search rules) (abort_in plan c.args.below)
    (c.in_ok-abort.ensures.abort ∙ ap abort_of after) in
    let piped = piped-is o t n signalled some c.len-count.result c.make_abort_of.new.realm.slots c.make_pipes.new.realm.slots count made c.in_ok-pipes_before.ensures.slots in
    last-answers o t n signalled some c.map-signal.result c.len-count.result c.make_pipes.new.realm.slots signal count piped

pub overflow_mul-result : goal.overflow_mul-result
overflow_mul-result c =
    let count = shared-count c.args.plan.now c.args.share c.args.above c.args.below c.requires.accepted c.len-count.result c.in_ok-stages.stages.items c.deref.result.now
    (c.len-count.ensures ∙ c.in_ok-stages.stages.ok.0) c.in_ok-stages.ensures.stages c.deref.ensures.value in
    let small = count-small c.args.plan.now c.args.share c.args.above c.args.below c.requires.accepted in
    omega arith

pub overflow_add-result : goal.overflow_add-result
overflow_add-result c =
    let count = shared-count c.args.plan.now c.args.share c.args.above c.args.below c.requires.accepted c.len-count.result c.in_ok-stages.stages.items c.deref.result.now
    (c.len-count.ensures ∙ c.in_ok-stages.stages.ok.0) c.in_ok-stages.ensures.stages c.deref.ensures.value in
    let small = count-small c.args.plan.now c.args.share c.args.above c.args.below c.requires.accepted in
    omega arith

pub returns-clause-opened : goal.returns-clause-opened
returns-clause-opened c =
    let plan = c.args.plan.now in
    let o = origin_by c.args.above in
    let t = target_by c.args.below in
    let n = length (shared c.args.share plan.stages.items) in
    let signalled = is_some (abort_in plan c.args.below) in
    let some = few plan c.args.share c.args.above c.args.below c.requires.accepted in
    let count = shared-count c.args.plan.now c.args.share c.args.above c.args.below c.requires.accepted c.len-count.result c.in_ok-stages.stages.items c.deref.result.now
    (c.len-count.ensures ∙ c.in_ok-stages.stages.ok.0) c.in_ok-stages.ensures.stages c.deref.ensures.value in
    let after : c.if-below.after ≡ abort_in plan c.args.below = elim c.if-below.branch [
      | then-below w ↦ after-none plan c.args.below c.if-below.after w.if-below.true w.after-is
      | else-below w ↦ after-some plan c.args.below c.if-below.after w.if-below.false w.after-is
    ] in
    let made = shared-made plan c.args.share c.args.above c.args.below c.requires.accepted c.deref.result.now c.make_streams.new.realm.slots c.make_abort_of.new.realm.slots c.if-below.after
    c.deref.ensures.value c.in_ok-stages.ensures.slots after c.in_ok-abort.ensures.slots in
    let signal = taken-from c.in_ok-abort.abort c.map-signal.result _ c.map-signal.ensures.cases (λ x s l. search rules) (abort_in plan c.args.below)
    (c.in_ok-abort.ensures.abort ∙ ap abort_of after) in
    let piped = piped-is o t n signalled some c.len-count.result c.make_abort_of.new.realm.slots c.make_pipes.new.realm.slots count made c.in_ok-pipes_before.ensures.slots in
    record {
      stages = c.in_ok-stages.ensures.stages ∙ ap (λ (ps : List Placed). all_begun (shared c.args.share ps)) c.deref.ensures.value;
      abort = c.in_ok-abort.ensures.abort ∙ ap abort_of after;
      pipes = are-answered o t n signalled some c.len-count.result c.make_abort_of.new.realm.slots c.in_ok-pipes_before.pipes_before.items count made c.in_ok-pipes_before.ensures.answered;
      pipe = is-answered o t n signalled some c.map-signal.result c.len-count.result c.make_pipes.new.realm.slots c.in_ok-pipe.pipe signal count piped c.in_ok-pipe.ensures.answered;
      sink = ap dest_of count;
    }

pub returns-clause-slots : goal.returns-clause-slots
returns-clause-slots c =
    let plan = c.args.plan.now in
    let o = origin_by c.args.above in
    let t = target_by c.args.below in
    let n = length (shared c.args.share plan.stages.items) in
    let signalled = is_some (abort_in plan c.args.below) in
    let some = few plan c.args.share c.args.above c.args.below c.requires.accepted in
    let count = shared-count c.args.plan.now c.args.share c.args.above c.args.below c.requires.accepted c.len-count.result c.in_ok-stages.stages.items c.deref.result.now
    (c.len-count.ensures ∙ c.in_ok-stages.stages.ok.0) c.in_ok-stages.ensures.stages c.deref.ensures.value in
    let after : c.if-below.after ≡ abort_in plan c.args.below = elim c.if-below.branch [
      | then-below w ↦ after-none plan c.args.below c.if-below.after w.if-below.true w.after-is
      | else-below w ↦ after-some plan c.args.below c.if-below.after w.if-below.false w.after-is
    ] in
    let made = shared-made plan c.args.share c.args.above c.args.below c.requires.accepted c.deref.result.now c.make_streams.new.realm.slots c.make_abort_of.new.realm.slots c.if-below.after
    c.deref.ensures.value c.in_ok-stages.ensures.slots after c.in_ok-abort.ensures.slots in
    let signal = taken-from c.in_ok-abort.abort c.map-signal.result _ c.map-signal.ensures.cases (λ x s l. search rules) (abort_in plan c.args.below)
    (c.in_ok-abort.ensures.abort ∙ ap abort_of after) in
    let piped = piped-is o t n signalled some c.len-count.result c.make_abort_of.new.realm.slots c.make_pipes.new.realm.slots count made c.in_ok-pipes_before.ensures.slots in
    led-is o t n signalled some c.map-signal.result c.len-count.result c.make_pipes.new.realm.slots c.make_pipe.new.realm.slots signal count piped c.in_ok-pipe.ensures.slots
