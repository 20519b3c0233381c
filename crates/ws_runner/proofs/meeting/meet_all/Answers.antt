use Rattle.std.proofs.Common.{◌≡◌, ◌+◌, List, [], ◌∷◌, ◌++◌, length, Some, refl, sym, ap, ◌∙◌, subst, append_assoc, length-append, arith}
use Rattle.std.specs.Prelude.{All, IfSome, is_some}
use Rattle.std.specs.Vec.Iter.{into_iter_items}
use Rattle.std.proofs.lemmas.List.Elements.{All-head, All-tail}
use Rattle.ws_node.specs.declared.node.Node.{Node}
use Rattle.ws_node.specs.Nodes.{AllHaveMet, AreJoined, HaveMet, HaveMetUpTo}
use Rattle.ws_node.proofs.Joining.{met-all, met-snoc, none-left}
use Rattle.ws_runner.specs.Meeting.{AreTraced, IsTrace, TracesAre, TracesUpTo, is_traced, listed}
use Rattle.ws_runner.proofs.Traced.{both, listed-length, none-yet, one-more, the-last}
use Rattle.ws_runner.proofs.meeting.meet_all.Goals as goal

pub loop-middle-init : goal.loop-middle-init
loop-middle-init c =
    let began = c.into_iter-middle-iterator.ensures.into_iter_gives in
    let same = sym began.0 in
    record {
      gone = [];
      whole = same;
      met = refl;
      joined = subst (λ (ns : List Node). AreJoined (Some c.args.first) ns (Some c.args.last)) same c.requires.joined;
      traced = subst (All (AreTraced c.args.first.traced)) same c.requires.traced.0;
      upper = refl;
      last = c.requires.traced.1;
      traces = none-yet c.args.first.traced (Some c.args.first) c.args.edges.items c.requires.none;
      room = λ t. let a = ap length c.requires.none in let b = c.requires.room t in let n = ap length same in omega (arith, a, b, n);
    }

pub loop-middle-preserved : goal.loop-middle-preserved
loop-middle-preserved c =
    let was = c.loop-middle.invariant in
    let step = c.in-Some.ensures.steps.0 in
    let rest = into_iter_items c.next.new.self in
    let joined = subst (λ (ns : List Node). AreJoined (Some c.loop-middle.upper) ns (Some c.args.last)) step was.joined in
    let traced = subst (All (AreTraced c.args.first.traced)) step was.traced in
    let here = All-head (AreTraced c.args.first.traced) c.in-Some.middle rest traced in
    let met = subst (λ q. HaveMet (Some c.loop-middle.upper) q) (sym c.ends-lower.ensures.above) c.meet_ends-edge.ensures.met in
    let trace = subst (λ q. IfSome c.meet_ends-edge.result (IsTrace (Some c.loop-middle.upper) q)) (sym c.ends-lower.ensures.above) c.meet_ends-edge.ensures.trace in
    let lower : c.ends-lower.result.0.traced ≡ c.args.first.traced = sym (ap is_traced c.ends-lower.ensures.above) ∙ here.above in
    let next : c.ends-lower.result.1.traced ≡ c.args.first.traced = sym (ap is_traced c.ends-lower.ensures.below) ∙ here.below in
    let kept : is_some c.meet_ends-edge.result ≡ c.args.first.traced =
    c.meet_ends-edge.ensures.some ∙ both c.args.first.traced c.loop-middle.upper.traced c.ends-lower.result.0.traced was.upper lower in
    let traces = one-more c.args.first.traced (Some c.args.first) (Some c.loop-middle.upper) was.gone c.in-Some.middle c.loop-middle.edges.items c.meet_ends-edge.result was.traces trace kept in
    record {
      gone = was.gone ++ c.in-Some.middle ∷ [];
      whole = was.whole ∙ ap (λ (ns : List Node). was.gone ++ ns) step ∙ sym (append_assoc was.gone (c.in-Some.middle ∷ []) rest);
      met = subst (λ q. HaveMetUpTo (Some c.args.first) (was.gone ++ c.in-Some.middle ∷ []) q) c.ends-lower.ensures.below
          (met-snoc (Some c.args.first) (Some c.loop-middle.upper) was.gone c.in-Some.middle was.met met c.ends-lower.ensures.driven);
      joined = subst (λ q. AreJoined q rest (Some c.args.last)) c.ends-lower.ensures.below joined.1;
      traced = All-tail (AreTraced c.args.first.traced) c.in-Some.middle rest traced;
      upper = next;
      last = was.last;
      traces =
          subst (λ q. TracesUpTo c.args.first.traced (Some c.args.first) (was.gone ++ c.in-Some.middle ∷ []) q c.keep.new.edges.items) c.ends-lower.ensures.below
          (subst (TracesUpTo c.args.first.traced (Some c.args.first) (was.gone ++ c.in-Some.middle ∷ []) c.in-Some.middle.exit.below) (sym c.keep.ensures.items) traces);
      room = λ t.
          let room = was.room t in
          let long = ap length step in
          let one = listed-length c.meet_ends-edge.result c.args.first.traced kept t in
          let items = ap length c.keep.ensures.items ∙ length-append c.loop-middle.edges.items (listed c.meet_ends-edge.result) in
          let capacity = c.keep.ensures.capacity in
          omega (arith, room, long, one, items, capacity);
    }

pub returns-clause-met : goal.returns-clause-met
returns-clause-met c =
    let was = c.loop-middle.invariant in
    let began = c.into_iter-middle-iterator.ensures.into_iter_gives in
    let none = sym c.loop-middle.middle-iterator.rest.ok.0 ∙ c.in-None.ensures.steps.0 in
    let all : c.args.middles.items ≡ was.gone =
    sym began.0 ∙ none-left (into_iter_items c.into_iter-middle-iterator.result) was.gone (into_iter_items c.loop-middle.middle-iterator) (began.0 ∙ was.whole) none in
    subst (λ (ns : List Node). AllHaveMet (Some c.args.first) ns (Some c.args.last)) (sym all)
    (met-all (Some c.args.first) (Some c.loop-middle.upper) (Some c.args.last) was.gone was.met c.meet_ends-edge-2.ensures.met)

pub returns-clause-traces : goal.returns-clause-traces
returns-clause-traces c =
    let was = c.loop-middle.invariant in
    let began = c.into_iter-middle-iterator.ensures.into_iter_gives in
    let none = sym c.loop-middle.middle-iterator.rest.ok.0 ∙ c.in-None.ensures.steps.0 in
    let all : c.args.middles.items ≡ was.gone =
    sym began.0 ∙ none-left (into_iter_items c.into_iter-middle-iterator.result) was.gone (into_iter_items c.loop-middle.middle-iterator) (began.0 ∙ was.whole) none in
    let kept : is_some c.meet_ends-edge-2.result ≡ c.args.first.traced =
    c.meet_ends-edge-2.ensures.some ∙ both c.args.first.traced c.loop-middle.upper.traced c.args.last.traced was.upper was.last in
    subst (λ (ns : List Node). TracesAre c.args.first.traced (Some c.args.first) ns (Some c.args.last) c.keep-2.new.edges.items) (sym all)
    (subst (TracesAre c.args.first.traced (Some c.args.first) was.gone (Some c.args.last)) (sym c.keep-2.ensures.items)
    (the-last c.args.first.traced (Some c.args.first) (Some c.loop-middle.upper) (Some c.args.last) was.gone c.loop-middle.edges.items c.meet_ends-edge-2.result was.traces c.meet_ends-edge-2.ensures.trace kept))
