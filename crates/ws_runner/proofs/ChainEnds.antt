-- A run with workers ends as a run of its plan may end.
use Rattle.std.proofs.Common.{◌≡◌, ◌≢◌, ◌+◌, ◌<◌, ℕ, suc, ℤ, pos, true, false, List, [], ◌∷◌, ◌++◌, length, nat_abs, Option, Some, None, refl, sym, ap, ◌∙◌, subst, arith}
use Rattle.std.specs.Prelude.{All, int_le}
use Rattle.std.specs.List.{concat}
use Rattle.std.proofs.lemmas.List.Elements.{All-nil, All-cons, Contains-push}
use Rattle.ws_value.specs.declared.fault.Fault.TheVariants as fault
use Rattle.ws_value.specs.declared.value.Message.{Message}
use Rattle.ws_value.specs.declared.value.Plain.{Plain}
use Rattle.ws_value.specs.declared.value.Plain.TheVariants.{Undefined, Number, Fault as FaultReason, Pair, Local}
use Rattle.ws_edge.specs.Edge.{AtEdge}
use Rattle.ws_flow.specs.declared.plan.Placed.{Placed}
use Rattle.ws_flow.specs.declared.plan.Plan.{Plan}
use Rattle.ws_flow.specs.declared.plan.Stage.{Stage}
use Rattle.ws_flow.specs.Chains.{all_stages}
use Rattle.ws_flow.specs.Laws as flow
use Rattle.ws_flow.specs.Parts.{Flows}
use Rattle.ws_flow.specs.Plans.{sees_known_chunks, stages_of}
use Rattle.ws_flow.specs.Rows.{told_by}
use Rattle.ws_flow.specs.Stages.{machines}
use Rattle.ws_flow.specs.Told.{bytes_of, Mark, Open as MayCome, Closed, Broken as BrokenOff, Lost, Told, told, then_told}
use Rattle.ws_flow.proofs.Lengths.{accepted}
use Rattle.ws_flow.proofs.Told.{before_of_short}
use Rattle.ws_io.specs.Gain.{Got}
use Rattle.ws_io.specs.Faults.{Rose}
use Rattle.ws_io.specs.Moment.{Moment}
use Rattle.ws_io.specs.declared.status.Status.{Status}
use Rattle.ws_io.specs.declared.status.Status.TheVariants as status
use Rattle.ws_joined_laws.specs.Condition.{AreInRange}
use Rattle.ws_joined_laws.specs.Ends as joined_ends
use Rattle.ws_joined_laws.specs.Finished.{NodesTell}
use Rattle.ws_joined_laws.specs.Joined as joined
use Rattle.ws_joined_laws.specs.Joined.{members, AreCounted}
use Rattle.ws_joined_laws.specs.Reasons.{reasons_in, HasCause, Own as OwnCause}
use Rattle.ws_joined_laws.specs.RunEnds as run_ends
use Rattle.ws_joined_laws.specs.RunEnds.{Pipeline, EndsSo, FindsSo, HeadTells, RunTells, IsStatus, Complete, Rejected, Wanting}
use Rattle.ws_joined_laws.proofs.RunEnds.{each-run-tells-its-end}
use Rattle.ws_node.specs.declared.making.Share.TheVariants.{Of}
use Rattle.ws_node.specs.declared.node.Abort.{Abort}
use Rattle.ws_node.specs.declared.node.Input.{Input}
use Rattle.ws_node.specs.declared.node.Input.TheVariants as input
use Rattle.ws_node.specs.declared.node.Node.{Node}
use Rattle.ws_node.specs.declared.node.Output.{Output}
use Rattle.ws_node.specs.declared.node.Output.TheVariants as output
use Rattle.ws_runner.specs.Chain.{HasEnded, EachChainEnds}
use Rattle.ws_node.specs.Rules.{EachNodeSendsDown}
use Rattle.ws_node.specs.Ends.{ReadAs, IsBad, IsAborted, IsWithinAbort, Allows, Leaves, Ends, EndsBy, EndedBy, Own, Passed, status_of}
use Rattle.ws_node.specs.Messages.{fairly}
use Rattle.ws_node.specs.Node.{feeds_edge, held, is_edge, is_reached, parts, received_at, sent_at}
use Rattle.ws_node.specs.Nodes.{Each, AllHaveMet, AreNewFrom, HeadGoes, MiddleGoes, TailGoes, Nodes, of_input, of_output, of_neither, any_bytes}
use Rattle.ws_node.specs.Past.{Driven, HasCounts, IsNew}
use Rattle.ws_node.specs.Shares.{head_of, middle_of, shared, stages_ahead_of, tail_of}
use Rattle.ws_node.specs.Went.{edge_after, EdgeGoes, FromGoes, InputGoes, OutputGoes, ToGoes}
use Rattle.ws_node_rules.proofs.Finish.{output-later}
use Rattle.ws_node.proofs.Passing.{Between, first_node, node_between, last_node, nodes_on, SendsFairly, Starts, Passes, Stops, PassOn, tell}
use Rattle.ws_node.proofs.Sharing.{none-shared}
use Rattle.ws_node.proofs.SinceNew.{finds_of, inside_of, failed-is, long-is, write-is, edge-unfailed, edge-short, own-stage, has_failed, is_too_long, is_failed, passed-on, sends-fairly, by-input, by-edge, to-output, to-edge, flows-since, first-since, went-since, came-since}
use Rattle.ws_runner.proofs.Outside.{InputTells, input-tells, OutputTells, output-tells, stops-near, abort-reached}
use Rattle.ws_runner.proofs.Workers.{ArePlaced, accepted-placed, ahead_in, ahead-next, all-ahead, none-ahead, some-stages, stages_from, workers-stages}

abbrev pipeline_of : Plan → Pipeline
pipeline_of plan = record { stages = stages_of plan; most = nat_abs plan.max_input; abort_after = plan.abort_after }

-- The status

same-status : (r : Plain) → status_of r ≡ run_ends.status_of r
same-status (FaultReason fault.Read) = refl
same-status (FaultReason fault.Write) = refl
same-status (FaultReason fault.TooMuch) = refl
same-status (FaultReason (fault.Stage index code place)) = refl
same-status (FaultReason fault.Abort) = refl
same-status (FaultReason fault.NoMemory) = refl
same-status (FaultReason fault.TypeError) = refl
same-status (FaultReason fault.RangeError) = refl
same-status (FaultReason fault.DataClone) = refl
same-status (FaultReason (fault.User k)) = refl
same-status Undefined = refl
same-status (Number k) = refl
same-status (Pair t) = refl
same-status (Local k) = refl

pub not-done : (r : Plain) → run_ends.status_of r ≡ status.Done → ⊥
not-done (FaultReason fault.Read) e = cc
not-done (FaultReason fault.Write) e = cc
not-done (FaultReason fault.TooMuch) e = cc
not-done (FaultReason (fault.Stage index code place)) e = cc
not-done (FaultReason fault.Abort) e = cc
not-done (FaultReason fault.NoMemory) e = cc
not-done (FaultReason fault.TypeError) e = cc
not-done (FaultReason fault.RangeError) e = cc
not-done (FaultReason fault.DataClone) e = cc
not-done (FaultReason (fault.User k)) e = cc
not-done Undefined e = cc
not-done (Number k) e = cc
not-done (Pair t) e = cc
not-done (Local k) e = cc

-- a node that ended as a complete run does has finished the output
done-by : (n : Node) (s : Status) → s ≡ status.Done → EndedBy s n → n.exit.output ≡ output.Finished
done-by n s e (Own by) = subst (λ (t : Status). EndsBy t n) e by
done-by n s e (Passed r c other f) = absurd (not-done r (sym (same-status r) ∙ (sym f ∙ e)))

abbrev came_to : Node → List Plain
came_to n = reasons_in (fairly (received_at n.entrance.above))

-- the reason with which it ended, if there is one, and the status for that
pub record TailEnds (n : Node) (finish : Mark) (s : Status) : Type 0 where
  pub last : List Plain
  pub causes : All (HasCause (finds_of n) (parts n) (came_to n)) last
  pub status_is : IsStatus finish last s

module _ (n : Node) (finish : Mark) (closed : n.exit.output ≡ output.Finished → finish ≡ Closed) (unclosed : n.exit.output ≢ output.Finished → finish ≢ Closed) where
  for-reason : (s : Status) (r : Plain) → n.exit.output ≢ output.Finished → HasCause (finds_of n) (parts n) (came_to n) r → s ≡ run_ends.status_of r → TailEnds n finish s
  for-reason s r other c e = record {
    last = r ∷ [];
    causes = All-cons (HasCause (finds_of n) (parts n) (came_to n)) r [] c (All-nil (HasCause (finds_of n) (parts n) (came_to n)));
    status_is = Rejected r (unclosed other) (Contains-push [] r) e;
  }

  own-ends : (s : Status) → EndsBy s n → TailEnds n finish s
  own-ends status.Done by = record { last = []; causes = All-nil (HasCause (finds_of n) (parts n) (came_to n)); status_is = Complete (closed by) refl }
  own-ends status.NoMemory by = record { last = []; causes = All-nil (HasCause (finds_of n) (parts n) (came_to n)); status_is = Wanting (unclosed by) refl }
  own-ends status.ReadFault by = for-reason status.ReadFault (FaultReason fault.Read) by.0 (OwnCause (ap has_failed by.1)) refl
  own-ends status.WriteFault by = for-reason status.WriteFault (FaultReason fault.Write) (λ e. cc) (OwnCause (ap is_failed by)) refl
  own-ends status.TooMuch by = for-reason status.TooMuch (FaultReason fault.TooMuch) by.0 (OwnCause (ap is_too_long by.1)) refl
  own-ends (status.Stage index code place) by =
      for-reason (status.Stage index code place) (FaultReason (fault.Stage index code place)) by.0 (OwnCause (own-stage n index code place by.1)) refl
  own-ends status.Aborted by = for-reason status.Aborted (FaultReason fault.Abort) by.0 (OwnCause by.1) refl
  own-ends _ by = absurd by

  tail-ends : (s : Status) → EndedBy s n → TailEnds n finish s
  tail-ends s (Own by) = own-ends s by
  tail-ends s (Passed r c other e) = for-reason s r other (passed-on (finds_of n) (parts n) (came_to n) r c) (e ∙ same-status r)

-- One node

abbrev between_of : List Stage → Node → Between
between_of ss n = record { inside = inside_of ss n; received = received_at n.entrance.above; sent = sent_at n.exit.below }

module _ (rules : EachNodeSendsDown) where
  pub starts : (plan : Plan) (old new : Moment) (a b : Node) → IsNew (head_of plan) 0 None a → (w : HeadGoes old new a b) → Driven b
      → Starts w.read (inside_of (head_of plan).stages b) (sent_at b.exit.below)
  starts plan old new a b n w d =
      let edge : feeds_edge a.exit.output ≡ true = ap feeds_edge n.output in
      let out = to-edge a.exit b.exit (of_input old) (of_input new) any_bytes any_bytes w.went w.gain w.out edge w.into in
      let fed = by-input a.entrance b.entrance (of_input old) (of_input new) w.read (ap is_edge n.input) w.from in
      let still : feeds_edge b.exit.output ≡ true = ap feeds_edge out.output ∙ edge in
      let none : received_at b.entrance.above ≡ [] = ap received_at (fed.above ∙ n.is_of.from.1) in
      record {
        flows = subst (λ x. Flows (machines (head_of plan).stages) w.read (parts b) (then_told x (held b)))
            (went-since (head_of plan) 0 None a b (of_input old) (of_input new) any_bytes any_bytes n w edge)
            (flows-since (head_of plan) 0 None a b (of_input old) (of_input new) any_bytes any_bytes n w);
        pieces = fed.short;
        sends = subst (λ ms. SendsFairly (inside_of (head_of plan).stages b) (reasons_in (fairly ms)) (sent_at b.exit.below)) none
            (sends-fairly (head_of plan).stages b still (rules b d still));
      }

  passes : (plan : Plan) (worker : ℤ) (first : ℕ) (a b : Node) → IsNew (middle_of worker plan) first None a → MiddleGoes a b → Driven b
      → Passes (between_of (middle_of worker plan).stages b)
  passes plan worker first a b n w d =
      let edge : feeds_edge a.exit.output ≡ true = ap feeds_edge n.output in
      let out = to-edge a.exit b.exit of_neither of_neither any_bytes any_bytes w.went w.gain w.out edge w.into in
      let still : feeds_edge b.exit.output ≡ true = ap feeds_edge out.output ∙ edge in
      record {
        flows = subst (λ x. Flows (machines (middle_of worker plan).stages) x (parts b) (then_told (told_by (sent_at b.exit.below)) (held b)))
            (came-since (middle_of worker plan) first None a b of_neither of_neither any_bytes any_bytes n w (ap is_edge n.input))
            (subst (λ x. Flows (machines (middle_of worker plan).stages) w.read (parts b) (then_told x (held b)))
            (went-since (middle_of worker plan) first None a b of_neither of_neither any_bytes any_bytes n w edge)
            (flows-since (middle_of worker plan) first None a b of_neither of_neither any_bytes any_bytes n w));
        sends = sends-fairly (middle_of worker plan).stages b still (rules b d still);
      }

pub stops : (plan : Plan) (first : ℕ) (old new : Moment) (got got' : Got) (a b : Node) (n : IsNew (tail_of plan) first plan.abort_after a) (w : TailGoes old new got got' a b)
    (last : List Plain) → All (HasCause (finds_of b) (parts b) (came_to b)) last
    → Stops plan.abort_after (inside_of (tail_of plan).stages b) (received_at b.entrance.above) (told w.gain w.out) last
stops plan first old new got got' a b n w last causes =
    let out = to-output a.exit b.exit (of_output old) (of_output new) got got' w.went w.gain w.out (ap feeds_edge n.output) w.into in
    record {
      went = w.went;
      flows = subst (λ x. Flows (machines (tail_of plan).stages) x (parts b) (then_told w.went (held b)))
          (came-since (tail_of plan) first plan.abort_after a b (of_output old) (of_output new) got got' n w (ap is_edge n.input))
          (flows-since (tail_of plan) first plan.abort_after a b (of_output old) (of_output new) got got' n w);
      written = before_of_short (told w.gain w.out) (bytes_of w.went) out.written;
      near = stops-near plan.abort_after a.exit.abort b.exit.abort w.went.items w.gain b.exit.output n.abort out.abort;
      causes = causes;
    }

-- All between the first and the last

abbrev pub betweens : ℕ → Plan → List Node → List Between
betweens w plan [] = []
betweens w plan (n ∷ ns) = between_of (middle_of (pos w) plan).stages n ∷ betweens (suc w) plan ns

each-length : (xs bs : List Node) → Each MiddleGoes xs bs → length bs ≡ length xs
each-length [] [] e = refl
each-length [] (b ∷ bs) e = absurd e
each-length (a ∷ xs) [] e = absurd e
each-length (a ∷ xs) (b ∷ bs) e = ap suc (each-length xs bs e.1)

pub pass-on : EachNodeSendsDown → (w : ℕ) (plan : Plan) (upper lower : Option AtEdge) (xs bs : List Node) → AreNewFrom w plan xs → Each MiddleGoes xs bs → AllHaveMet upper bs lower
    → PassOn (sent_at upper) (betweens w plan bs) (received_at lower)
pass-on rules w plan upper lower [] [] n e m = (m.left_below, m.down)
pass-on rules w plan upper lower [] (b ∷ bs) n e m = absurd e
pass-on rules w plan upper lower (a ∷ xs) [] n e m = absurd e
pass-on rules w plan upper lower (a ∷ xs) (b ∷ bs) (n, ns) (e, es) (m, d, ms) = (
  (m.left_below, m.down),
  passes rules plan (pos w) (stages_ahead_of (pos w) plan) a b n e d,
  pass-on rules (suc w) plan b.exit.below lower xs bs ns es ms,
)

counted-on : (w high : ℕ) (plan : Plan) (xs bs : List Node) (last : joined.Node) → ArePlaced 0 high plan.stages.items → w + length bs ≡ high + 1 → AreNewFrom w plan xs → Each MiddleGoes xs bs
    → last.finds.before ≡ length plan.stages.items → AreCounted (ahead_in (pos w) plan.stages.items) (nodes_on (betweens w plan bs) last)
counted-on w high plan [] [] last p l n e k = (k ∙ sym (all-ahead w 0 high plan.stages.items (omega arith) p), tt)
counted-on w high plan [] (b ∷ bs) last p l n e k = absurd e
counted-on w high plan (a ∷ xs) [] last p l n e k = absurd e
counted-on w high plan (a ∷ xs) (b ∷ bs) last p l (n, ns) (e, es) k = (
  first-since (middle_of (pos w) plan) (stages_ahead_of (pos w) plan) None a b of_neither of_neither any_bytes any_bytes n e,
  subst (λ q. AreCounted q (nodes_on (betweens (suc w) plan bs) last)) (ahead-next w 0 high plan.stages.items p)
      (counted-on (suc w) high plan xs bs last p (omega arith) ns es k),
)

stages-on : (w : ℕ) (plan : Plan) (bs : List Node) (last : joined.Node) → last.member.stages ≡ [] → all_stages (members (nodes_on (betweens w plan bs) last)) ≡ stages_from w (length bs) plan.stages.items
stages-on w plan [] last e = ap (λ ss. ss ++ []) e
stages-on w plan (b ∷ bs) last e = ap (λ ss. shared (Of (pos w)) plan.stages.items ++ ss) (stages-on (suc w) plan bs last e)

-- What they find is so

no-input : (b : Node) (P Q : Type 0) → is_edge b.entrance.input ≡ true → ((finds_of b).read_failed ≡ true → P) × ((finds_of b).too_much ≡ true → Q)
no-input b P Q e = (
  λ f. absurd (let g = edge-unfailed b.entrance.input e in cc),
  λ f. absurd (let g = edge-short b.entrance.input e in cc),
)

unwritten : (o : Output) → feeds_edge o ≡ true → is_failed o ≡ true → ⊥
unwritten output.Edge e f = cc
unwritten output.Open e f = cc
unwritten output.Finished e f = cc
unwritten output.Failed e f = cc
unwritten output.Aborted e f = cc

unreached : (x : Option Abort) → x ≡ None → is_reached x ≡ true → ⊥
unreached None e f = cc
unreached (Some x) e f = cc

-- a node with an edge above stays so
still-edge : (a b : Input) (taken : List Message) → a ≡ input.Edge → EdgeGoes a b taken → is_edge b ≡ true
still-edge input.Edge b taken e g = ap is_edge g ∙ broken (reasons_in taken)
  where
    broken : (rs : List Plain) → is_edge (edge_after rs) ≡ true
    broken [] = refl
    broken (r ∷ rs) = refl
still-edge input.Open b taken e g = absurd g
still-edge input.Ended b taken e g = absurd g
still-edge input.Failed b taken e g = absurd g
still-edge input.TooLong b taken e g = absurd g
still-edge (input.Broken r) b taken e g = absurd (cc)

middle-finds : (pipeline : Pipeline) (old new : Moment) (taken gain : List ℕ) (plan : Plan) (worker : ℤ) (first : ℕ) (a b : Node) → IsNew (middle_of worker plan) first None a → MiddleGoes a b
    → FindsSo pipeline old new taken gain (node_between (between_of (middle_of worker plan).stages b))
middle-finds pipeline old new taken gain plan worker first a b n w =
    let edge : feeds_edge a.exit.output ≡ true = ap feeds_edge n.output in
    let out = to-edge a.exit b.exit of_neither of_neither any_bytes any_bytes w.went w.gain w.out edge w.into in
    let fed = by-edge a.entrance b.entrance of_neither of_neither w.read (ap is_edge n.input) w.from in
    let stays = still-edge a.entrance.input b.entrance.input (fairly fed.taken) n.input fed.goes in
    record {
      read = (no-input b ((pipeline.stages ≡ [] → gain ≡ taken) × Rose old.read_faults new.read_faults) (pipeline.most < length taken) stays).0;
      many = (no-input b ((pipeline.stages ≡ [] → gain ≡ taken) × Rose old.read_faults new.read_faults) (pipeline.most < length taken) stays).1;
      write = λ f. absurd (unwritten b.exit.output (ap feeds_edge out.output ∙ edge) f);
      abort = λ f. absurd (unreached b.exit.abort (out.abort ∙ n.abort) f);
    }

finds-on : (pipeline : Pipeline) (old new : Moment) (taken gain : List ℕ) (w : ℕ) (plan : Plan) (xs bs : List Node) (last : joined.Node) → AreNewFrom w plan xs → Each MiddleGoes xs bs
    → FindsSo pipeline old new taken gain last → All (FindsSo pipeline old new taken gain) (nodes_on (betweens w plan bs) last)
finds-on pipeline old new taken gain w plan [] [] last n e f = All-cons (FindsSo pipeline old new taken gain) last [] f (All-nil (FindsSo pipeline old new taken gain))
finds-on pipeline old new taken gain w plan [] (b ∷ bs) last n e f = absurd e
finds-on pipeline old new taken gain w plan (a ∷ xs) [] last n e f = absurd e
finds-on pipeline old new taken gain w plan (a ∷ xs) (b ∷ bs) last (n, ns) (e, es) f =
    All-cons (FindsSo pipeline old new taken gain) (node_between (between_of (middle_of (pos w) plan).stages b)) (nodes_on (betweens (suc w) plan bs) last)
    (middle-finds pipeline old new taken gain plan (pos w) (stages_ahead_of (pos w) plan) a b n e)
    (finds-on pipeline old new taken gain (suc w) plan xs bs last ns es f)

-- The end of a run, as the crate's own words have it

is-bad : (plan : Plan) (index code place : ℕ) (m : Mark) (taken : List ℕ) → joined_ends.IsBad (stages_of plan) index code place m taken → IsBad plan index code place m taken
is-bad plan index code place m taken b = record { numbered = b.numbered; bad = b.bad; early = b.early; at_end = b.at_end }

allows : (s : Status) (plan : Plan) (m : Mark) (old new : Moment) (taken gain : List ℕ) → run_ends.Allows s (pipeline_of plan) m old new taken gain → Allows s plan m old new taken gain
allows status.Done plan m old new taken gain h =
    record { ended = h.ended; emptied = h.emptied; no_fault = h.no_fault; within = h.within; fine = h.fine; whole = h.whole; finished = h.finished }
allows (status.Stage index code place) plan m old new taken gain h = is-bad plan index code place m taken h
allows status.Usage plan m old new taken gain h = absurd h
allows (status.Plan n) plan m old new taken gain h = absurd h
allows status.ReadFault plan m old new taken gain h = h
allows status.WriteFault plan m old new taken gain h = h
allows status.Aborted plan m old new taken gain h = aborted plan.abort_after h
  where
    aborted : (after : Option ℤ) → joined_ends.IsAborted after gain → IsAborted after gain
    aborted None k = k
    aborted (Some x) k = k
allows status.NoMemory plan m old new taken gain h = tt
allows (status.Script n) plan m old new taken gain h = absurd h
allows status.LoadFault plan m old new taken gain h = absurd h
allows status.TooMuch plan m old new taken gain h = h

leaves : (s : Status) (old new : Moment) → run_ends.Leaves s old new → Leaves s old new
leaves status.Done old new k = tt
leaves (status.Stage index code place) old new k = k
leaves status.Usage old new k = k
leaves (status.Plan n) old new k = k
leaves status.ReadFault old new k = k
leaves status.WriteFault old new k = k
leaves status.Aborted old new k = k
leaves status.NoMemory old new k = k
leaves (status.Script n) old new k = k
leaves status.LoadFault old new k = k
leaves status.TooMuch old new k = k

reads : (m : Mark) (old new : Moment) → run_ends.ReadAs m old new → ReadAs m old new
reads MayCome old new h = tt
reads Closed old new h = record { ended = h.ended; emptied = h.emptied; calm = h.calm }
reads BrokenOff old new h = h
reads Lost old new h = tt

within : (after : Option ℤ) (gain : List ℕ) → joined_ends.IsWithinAbort after gain → IsWithinAbort after gain
within None gain h = tt
within (Some x) gain h = h

-- The run

module _ (rules : EachNodeSendsDown) (plan : Plan) (s : Status) (a b : Nodes) (old new : Moment) (got got' : Got) (acc : flow.IsAccepted plan)
    (some : int_le plan.workers (pos 0) ≡ false) (h : HasEnded plan s a b old new got got') where
  abbrev ps : List Placed
  ps = plan.stages.items

  abbrev high : ℕ
  high = nat_abs plan.workers

  abbrev pub head-went : HeadGoes old new a.head b.head
  head-went = h.went.head

  abbrev pub tail-went : TailGoes old new got got' a.tail b.tail
  tail-went = h.went.tail

  abbrev read : Told (List ℕ)
  read = head-went.read

  abbrev gain : Told ℕ
  gain = told tail-went.gain tail-went.out

  fed : FromGoes a.head.entrance b.head.entrance (of_input old) (of_input new) read
  fed = by-input a.head.entrance b.head.entrance (of_input old) (of_input new) read (ap is_edge h.begun.head.input) head-went.from

  out : ToGoes a.tail.exit b.tail.exit (of_output old) (of_output new) got got' tail-went.went tail-went.gain tail-went.out
  out = to-output a.tail.exit b.tail.exit (of_output old) (of_output new) got got' tail-went.went tail-went.gain tail-went.out (ap feeds_edge h.begun.tail.output) tail-went.into

  in-tells : InputTells b.head.entrance.input read (of_input old) (of_input new)
  in-tells = input-tells b.head.entrance.input read (of_input old) (of_input new) (subst (λ i. InputGoes i b.head.entrance.input read (of_input old) (of_input new)) h.begun.head.input fed.input)

  out-tells : OutputTells b.tail.exit.output tail-went.out (of_output old) (of_output new)
  out-tells = output-tells b.tail.exit.output tail-went.gain tail-went.out (of_output old) (of_output new)
      (subst (λ o. OutputGoes o b.tail.exit.output tail-went.gain tail-went.out (of_output old) (of_output new)) h.begun.tail.output out.output)

  pub ending : TailEnds b.tail tail-went.out s
  ending = tail-ends b.tail tail-went.out out-tells.closed out-tells.unclosed s h.status_is.by

  abbrev first : joined.Node
  first = first_node (bytes_of read) (inside_of (head_of plan).stages b.head) (sent_at b.head.exit.below)

  abbrev end : joined.Node
  end = last_node (inside_of (tail_of plan).stages b.tail) (received_at b.tail.entrance.above) gain

  abbrev all : List joined.Node
  all = first ∷ nodes_on (betweens 1 plan b.middles) end

  pub many : length b.middles ≡ high
  many = each-length a.middles b.middles h.went.middles ∙ h.begun.many

  pub placed : ArePlaced 0 high ps
  placed = accepted-placed plan acc some

  all-stages : all_stages (members all) ≡ stages_of plan
  all-stages =
      ap (λ ss. ss ++ all_stages (members (nodes_on (betweens 1 plan b.middles) end))) (none-shared ps)
      ∙ stages-on 1 plan b.middles end (none-shared ps)
      ∙ ap (λ k. stages_from 1 k ps) many
      ∙ workers-stages plan acc some

  counted : AreCounted 0 all
  counted = (
    first-since (head_of plan) 0 None a.head b.head (of_input old) (of_input new) any_bytes any_bytes h.begun.head head-went,
    subst (λ k. AreCounted k (nodes_on (betweens 1 plan b.middles) end)) (none-ahead 0 high ps placed ∙ sym none)
        (counted-on 1 high plan a.middles b.middles end placed (omega (arith, many)) h.begun.middles h.went.middles
        (first-since (tail_of plan) (length ps) plan.abort_after a.tail b.tail (of_output old) (of_output new) got got' h.begun.tail tail-went)),
  )
    where
      none : 0 + length (head_of plan).stages ≡ 0
      none = let e = ap length (none-shared ps) in omega (arith, e)

  counts : HasCounts b.head.entrance
  counts = h.head.since.led.counts

  taken-is : b.head.entrance.taken ≡ length (concat read.items)
  taken-is = let c = fed.counted in let z = h.begun.head.taken in omega (arith, c, z)

  most-is : b.head.entrance.most ≡ nat_abs plan.max_input
  most-is = fed.most ∙ h.begun.head.is_of.most

  head-tells : HeadTells (nat_abs plan.max_input) old new (bytes_of read)
  head-tells = record {
    fed = fed.fed;
    read = as-moments read.mark in-tells.read_as;
    bound = let k = counts.bound in let t = taken-is in let m = most-is in omega (arith, k, t, m);
    within = λ c. let k = counts.within (in-tells.ended c) in let t = taken-is in let m = most-is in omega (arith, k, t, m);
  }
    where
      as-moments : (m : Mark) → run_ends.ReadAs m (of_input old) (of_input new) → run_ends.ReadAs m old new
      as-moments MayCome k = tt
      as-moments Closed k = record { ended = k.ended; emptied = k.emptied; calm = k.calm }
      as-moments BrokenOff k = k
      as-moments Lost k = tt

  head-finds : FindsSo (pipeline_of plan) old new (bytes_of read).items gain.items first
  head-finds =
      let edge : feeds_edge a.head.exit.output ≡ true = ap feeds_edge h.begun.head.output in
      let posts = to-edge a.head.exit b.head.exit (of_input old) (of_input new) any_bytes any_bytes head-went.went head-went.gain head-went.out edge head-went.into in
      record {
        read = λ f. ((λ e. absurd (some-stages plan acc some e)), in-tells.failed (failed-is b.head.entrance.input f));
        many = λ f. let k = counts.beyond (long-is b.head.entrance.input f) in let t = taken-is in let m = most-is in omega (arith, k, t, m);
        write = λ f. absurd (unwritten b.head.exit.output (ap feeds_edge posts.output ∙ edge) f);
        abort = λ f. absurd (unreached b.head.exit.abort (posts.abort ∙ h.begun.head.abort) f);
      }

  tail-finds : FindsSo (pipeline_of plan) old new (bytes_of read).items gain.items end
  tail-finds =
      let takes = by-edge a.tail.entrance b.tail.entrance (of_output old) (of_output new) tail-went.read (ap is_edge h.begun.tail.input) tail-went.from in
      let stays = still-edge a.tail.entrance.input b.tail.entrance.input (fairly takes.taken) h.begun.tail.input takes.goes in
      let none = no-input b.tail ((stages_of plan ≡ [] → gain.items ≡ (bytes_of read).items) × Rose old.read_faults new.read_faults) (nat_abs plan.max_input < length (bytes_of read).items) stays in
      record {
        read = none.0;
        many = none.1;
        write = λ f. out-tells.failed (write-is b.tail.exit.output f);
        abort = λ f. abort-reached plan.abort_after a.tail.exit.abort b.tail.exit.abort tail-went.went.items tail-went.gain b.tail.exit.output h.begun.tail.abort out.abort f;
      }

  -- so far as the pipe of the last one was rejected with these reasons
  pub nodes-tell : (last : List Plain) → All (HasCause (finds_of b.tail) (parts b.tail) (came_to b.tail)) last → NodesTell plan.abort_after (bytes_of read) all gain last
  nodes-tell last causes =
      tell plan.abort_after (inside_of (tail_of plan).stages b.tail) (received_at b.tail.entrance.above) gain last
      (stops plan (length ps) old new got got' a.tail b.tail h.begun.tail tail-went last causes)
      read (inside_of (head_of plan).stages b.head) (sent_at b.head.exit.below) (betweens 1 plan b.middles)
      (starts rules plan old new a.head b.head h.begun.head head-went h.head)
      (pass-on rules 1 plan b.head.exit.below b.tail.entrance.above a.middles b.middles h.begun.middles h.went.middles h.met)
      (subst (λ ss. AreInRange ss) (sym all-stages) (record { range = acc.range; hex = acc.hex; few = acc.stages }))
      (subst (λ ss. sees_known_chunks false ss ≡ true) (sym all-stages) acc.known)
      counted

  run-tells : RunTells (pipeline_of plan) old new (bytes_of read) all gain ending.last
  run-tells = record {
    stages = all-stages;
    nodes = nodes-tell ending.last ending.causes;
    head = head-tells;
    tail = record { finished = out-tells.finished; unfinished = out-tells.unfinished };
    ahead_by = λ e. absurd (some-stages plan acc some e);
    found =
        All-cons (FindsSo (pipeline_of plan) old new (bytes_of read).items gain.items) first (nodes_on (betweens 1 plan b.middles) end) head-finds
        (finds-on (pipeline_of plan) old new (bytes_of read).items gain.items 1 plan a.middles b.middles end h.begun.middles h.went.middles tail-finds);
  }

  ends-so : EndsSo s (pipeline_of plan) old new (bytes_of read).items gain.items read.mark
  ends-so = each-run-tells-its-end s (pipeline_of plan) old new (bytes_of read) all gain ending.last run-tells ending.status_is

  -- with what was taken and what was gained
  pub ends-of : (e : Ends s plan old new got got') × (e.taken ≡ concat read.items) × (e.gain ≡ tail-went.gain)
  ends-of = (
    record {
      taken = concat read.items;
      gain = tail-went.gain;
      mark = read.mark;
      fed = ends-so.fed;
      read = reads read.mark old new ends-so.read;
      gained = out.gained;
      first = ends-so.first;
      bound = ends-so.bound;
      ahead_by = ends-so.ahead_by;
      abort = within plan.abort_after tail-went.gain ends-so.abort;
      allowed = allows s plan read.mark old new (concat read.items) tail-went.gain ends-so.allowed;
      finish_kept = leaves s old new ends-so.finish_kept;
      later =
          output-later a.tail.exit.output b.tail.exit.output tail-went.gain tail-went.out (of_output old) (of_output new) h.begun.tail.output out.output;
      emptied = λ e. out.emptied h.begun.tail.output (done-by b.tail s e h.status_is.by);
    },
    refl,
    refl,
  )

pub chain-ends : EachNodeSendsDown → {K : Type 0} (got : K → Got) → EachChainEnds got
chain-ends rules got plan s a b old new k₀ k₁ acc some h = (ends-of rules plan s a b old new (got k₀) (got k₁) (accepted plan acc) some h).0
