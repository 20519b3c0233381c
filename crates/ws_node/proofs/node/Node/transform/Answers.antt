use Rattle.std.proofs.Common.{refl, sym, subst, arith, ap, ◌∙◌, ◌-◌, length}
use Rattle.std.specs.Vec.{with_item}
use Rattle.ws_value.specs.declared.value.Value.{Value}
use Rattle.ws_steps.specs.declared.calls.HostCall.TheVariants as host_call
use Rattle.ws_node.specs.declared.node.Entrance.{Entrance}
use Rattle.ws_node.specs.Moves.{NothingToPush, NotPushed, transforms_by}
use Rattle.ws_node.proofs.Asking.{settles-unless_bytes}
use Rattle.ws_node.proofs.Placing.{none-numbered, at-item, live-so, live-not, Had, FirstHad, OtherHad, has-pushed, unasked, pushed-by}
use Rattle.ws_node.proofs.node.Node.transform.Goals.{then-place-eq0, else-place-eq0}
use Rattle.ws_node.proofs.node.Node.transform.Goals as goal

pub returns-in_default : goal.returns-in_default
returns-in_default c = settles-unless_bytes c.args.id c.args.stream c.args.value c.args.self.now c.settle.new.self c.in_default.not-Bytes c.settle.ensures

pub returns-in_default-place_of : goal.returns-in_default-place_of
returns-in_default-place_of c =
    subst (λ (value : Value). transforms_by c.args.id c.args.stream value c.args.self.now c.args.self.now) (sym c.in-Bytes.is)
    (NothingToPush (none-numbered c.args.stream c.args.self.now.core.stages.items c.in_default-place_of.ensures) refl)

pub returns-then-not-is_live : goal.returns-then-not-is_live
returns-then-not-is_live c =
    let s = c.in-Some-get_mut in
    subst (λ (value : Value). transforms_by c.args.id c.args.stream value c.args.self.now (record c.args.self.now { core = record c.args.self.now.core { stages = with_item c.args.self.now.core.stages c.in-Some.place s.work.now } })) (sym c.in-Bytes.is)
    (NotPushed _ _ s.work.now (at-item c.args.stream c.args.self.now.core.stages.items c.in-Some.place s.work.now c.in-Some.ensures s.ensures.item.3.0 s.ensures.value)
    (live-not s.work.now.work c.is_live.result c.is_live.ensures c.if-not-is_live.true) (unasked c.args.self.now c.in-Some.place s.work.now s.ensures.value))

pub push-pushed-requires-clause-count : goal.push-pushed-requires-clause-count
push-pushed-requires-clause-count c =
    let s = c.in-Some-get_mut in
    (c.requires c.args.stream c.in-Bytes.chunk (ap (host_call.Transform c.args.stream) c.in-Bytes.is) _ _ s.work.now
    (at-item c.args.stream c.args.self.now.core.stages.items c.in-Some.place s.work.now c.in-Some.ensures s.ensures.item.3.0 s.ensures.value)
    (live-so s.work.now.work c.is_live.result c.is_live.ensures c.if-not-is_live.false)).count

pub push-pushed-requires-clause-length : goal.push-pushed-requires-clause-length
push-pushed-requires-clause-length c =
    let s = c.in-Some-get_mut in
    (c.requires c.args.stream c.in-Bytes.chunk (ap (host_call.Transform c.args.stream) c.in-Bytes.is) _ _ s.work.now
    (at-item c.args.stream c.args.self.now.core.stages.items c.in-Some.place s.work.now c.in-Some.ensures s.ensures.item.3.0 s.ensures.value)
    (live-so s.work.now.work c.is_live.result c.is_live.ensures c.if-not-is_live.false)).length_fits

pub returns : goal.returns
returns c =
    let s = c.in-Some-get_mut in
    let e : Entrance = c.args.self.now.entrance in
    let had : Had c.in-Some.place (length c.in-Bytes.chunk) e c.if-place-eq0.self.1.1.0 = elim c.if-place-eq0.branch [
      | then-place-eq0 w ↦ FirstHad w.if-place-eq0.true (ap (λ q. q.1.1.0) w.self-is ∙ (w.had.ensures ∙ ap (λ k. record e { ahead = e.ahead - k }) w.len.ensures))
      | else-place-eq0 w ↦ OtherHad (λ z. absurd (omega arith)) (ap (λ q. q.1.1.0) w.self-is)
    ] in
    subst (λ (value : Value). transforms_by c.args.id c.args.stream value c.args.self.now c.put_out.new.self) (sym c.in-Bytes.is)
    (pushed-by c.args.id c.args.stream c.in-Bytes.chunk c.args.self.now c.put_out.new.self _ _ _ s.work.now c.push-pushed.new.self c.push-pushed.result
    (at-item c.args.stream c.args.self.now.core.stages.items c.in-Some.place s.work.now c.in-Some.ensures s.ensures.item.3.0 s.ensures.value)
    (live-so s.work.now.work c.is_live.result c.is_live.ensures c.if-not-is_live.false) c.push-pushed.ensures.pushed c.push-pushed.ensures.wanting c.push-pushed.ensures.stage
    c.push-pushed.ensures.count (has-pushed c.args.self.now c.in-Some.place s.work.now c.push-pushed.new.self s.ensures.item.3.0 s.ensures.value _ _ had) c.put_out.ensures)
