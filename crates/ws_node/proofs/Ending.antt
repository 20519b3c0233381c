-- How a node ends, by how its last pipe settled.
use Rattle.std.proofs.Common.{◌≡◌, ◌≢◌, ℕ, Bool, true, false, List, Option, Some, None, slice_get, refl, sym, ap, ◌∙◌, subst, arith}
use Rattle.std.proofs.lemmas.List.Elements.{All-contains}
use Rattle.std.specs.Prelude.{All, is_some}
use Rattle.ws_value.specs.declared.fault.Fault.{Fault}
use Rattle.ws_value.specs.declared.fault.Fault.TheVariants.{Read, Write, Stage, TooMuch, Abort, TypeError, RangeError, DataClone, User, NoMemory as NoMemoryFault}
use Rattle.ws_value.specs.declared.ids.PromiseId.{PromiseId}
use Rattle.ws_value.specs.declared.ids.StreamId.{StreamId}
use Rattle.ws_value.specs.declared.value.Outcome.{Outcome}
use Rattle.ws_value.specs.declared.value.Outcome.TheVariants.{Pending, Fulfilled, Given, Finished as OutcomeFinished, Rejected}
use Rattle.ws_value.specs.declared.value.Plain.{Plain}
use Rattle.ws_value.specs.declared.value.Plain.TheVariants.{Undefined, Number, Fault as FaultReason, Pair, Local}
use Rattle.ws_value.specs.declared.value.Value.{Value}
use Rattle.ws_node.specs.Shape.{Shape, count_in}
use Rattle.ws_io.specs.declared.status.Status.{Status}
use Rattle.ws_io.specs.declared.status.Status.TheVariants.{Done, NoMemory}
use Rattle.ws_steps.specs.declared.calls.HostCall.TheVariants.{Close}
use Rattle.ws_steps.specs.Pipes as pipe
use Rattle.ws_steps.specs.Promises.{outcome_at, rank_at}
use Rattle.ws_steps.specs.Run.{Entry, run}
use Rattle.ws_steps.specs.Slots.{Slots, empty, pipe_at}
use Rattle.ws_end_laws.specs.ends.PromiseEnds.{IsOpenUntilTheEnd, outcome_of_end}
use Rattle.ws_end_laws.proofs.ends.PromiseEnds.{each_promise_is_open_until_the_end}
use Rattle.ws_pipe_laws.specs.pipes.PipeHistory.{is_over, run_course}
use Rattle.ws_end_laws.specs.hosts.HostCalls.{WasSettledWell}
use Rattle.ws_chain_laws.specs.Chain.{Target, ToSink, ToPort, dest_of, link_of}
use Rattle.ws_chain_laws.proofs.Links.{link-at}
use Rattle.ws_realm.specs.Seen.{where_named}
use Rattle.ws_realm.specs.declared.realm.Why.TheVariants as why
use Rattle.ws_reason_laws.specs.Reasons.{failures}
use Rattle.ws_node.specs.declared.node.Exit.{Exit}
use Rattle.ws_node.specs.declared.node.Node.{Node}
use Rattle.ws_node.specs.declared.node.Output.{Output}
use Rattle.ws_node.specs.declared.node.Output.TheVariants as output
use Rattle.ws_node.specs.Ends.{EndsAs, EndsBy, EndedBy, Own as EndsOwn, Passed as EndsPassed, status_of, unless_finished}
use Rattle.ws_node.specs.Node.{outcome_of_pipe, has_settled, feeds_edge}
use Rattle.ws_node.specs.Past.{AreCaused, AllCaused, UntilError, IsCause, Passed, Own, IsOwnFault, IsOwnCause, is_shut, FeedsAs, Led, Driven}
use Rattle.ws_node.specs.Ran.{PipeEnds}
use Rattle.ws_node.proofs.Alike.{outcome-alike}
use Rattle.ws_node.proofs.Fairly.{fair-clones}
use Rattle.ws_node.proofs.Ran.{pipe-ends}

-- what a realm answers of a promise that it named
where_is : (rank : Option ℕ) (o : Option Outcome) → is_some rank ≡ true → where_named rank o ≡ o
where_is None o h = absurd (cc)
where_is (Some n) o h = refl

-- pending, or fulfilled with undefined, or rejected
data Settles (o : Option Outcome) : Type 0 where
  IsPending : o ≡ Some Pending → Settles o
  HasEnded : (e : Option Plain) → o ≡ Some (outcome_of_end e) → Settles o

settles-by : (x : pipe.Slots) (over : Bool) (ended : List (Option Plain)) (o : Option Outcome) → is_over x.phase ≡ over → IsOpenUntilTheEnd x ended o → Settles o
settles-by x false ended o e k = IsPending (k.before e).1
settles-by x true ended o e k = let a = k.after e in HasEnded a.0 a.1.1

-- a node that feeds no edge feeds the output
to-sink : (t : Target) (x : Exit) → FeedsAs t x → feeds_edge x.output ≡ false → t ≡ ToSink
to-sink ToSink x h e = refl
to-sink ToPort x h e = absurd (cc)

not_port : (t : Target) → t ≡ ToSink → t ≡ ToPort → ⊥
not_port ToSink e f = cc
not_port ToPort e f = cc

module _ (shape : Shape) (past : List Entry) (n : Node) (led : Led shape past n) where
  abbrev k : ℕ
  k = count_in shape

  abbrev out : Option Outcome
  out = outcome_at (run past empty).promises n.core.pipe

  ends : PipeEnds shape past n.core.pipe
  ends = subst (PipeEnds shape past) (sym led.piped) (pipe-ends shape past n.core.realm.slots led.ran led.is_of.fit)

  outcome-is : outcome_of_pipe n.core ≡ out
  outcome-is = outcome-alike n.core.pipe n.core.realm.slots (run past empty) led.ran.slots ∙ where_is (rank_at (run past empty).promises n.core.pipe) out ends.watched

  settles : Settles out
  settles =
      let s : Slots = run past empty in
      let x = pipe_at (link_of k) s in
      let there : slice_get s.pipes k ≡ Some x = (link-at shape.origin shape.target k s led.ran.wired k (omega arith)).link.there in
      settles-by x (is_over x.phase) (run_course (link_of k) past empty).ended out refl
      (subst (λ (p : PromiseId). IsOpenUntilTheEnd x (run_course (link_of k) past empty).ended (outcome_at s.promises p)) ends.its
      (each_promise_is_open_until_the_end past (link_of k) x there))

  finished : (v : Plain) → feeds_edge n.exit.output ≡ false → out ≡ Some (Fulfilled v) → n.exit.output ≡ output.Finished
  finished v sunk e =
      let w : WasSettledWell past (Close (dest_of k)) = (ends.fulfilled v (to-sink shape.target n.exit led.is_of.into sunk) e).settled in
      led.closes w.before w.after w.id w.settles (w.called ∙ ap (λ (i : StreamId). Some (Close i)) (sym led.is_of.sink)) sunk

  all-caused : feeds_edge n.exit.output ≡ false → AreCaused shape past n → All (IsCause n) (failures past)
  all-caused sunk (AllCaused h) = h
  all-caused sunk (UntilError port before after up e h) = absurd (not_port shape.target (to-sink shape.target n.exit led.is_of.into sunk) port)

  cause : (r : Plain) → feeds_edge n.exit.output ≡ false → out ≡ Some (Rejected r) → IsCause n r
  cause r sunk e = All-contains (IsCause n) (failures past) r (all-caused sunk led.failed) (ends.rejected r (fair-clones past led.clones) e)

-- the output was finished
pub fulfilled : (n : Node) (v : Plain) → Driven n → feeds_edge n.exit.output ≡ false → outcome_of_pipe n.core ≡ Some (Fulfilled v) → n.exit.output ≡ output.Finished
fulfilled n v d sunk e = let led = d.since.led in finished d.shape d.past n led v sunk (sym (outcome-is d.shape d.past n led) ∙ e)

-- the outcome of the last pipe's promise is there, and is none of a read
settled : (n : Node) → Driven n → Settles (outcome_of_pipe n.core)
settled n d = let led = d.since.led in subst Settles (sym (outcome-is d.shape d.past n led)) (settles d.shape d.past n led)

none_settles : (o : Option Outcome) → Settles o → o ≢ None
none_settles o (IsPending e) f = absurd (cc)
none_settles o (HasEnded a e) f = absurd (cc)

given_settles : (o : Option Outcome) (v : Value) → Settles o → o ≢ Some (Given v)
given_settles o v (IsPending e) f = absurd (cc)
given_settles o v (HasEnded None e) f = absurd (cc)
given_settles o v (HasEnded (Some r) e) f = absurd (cc)

finished_settles : (o : Option Outcome) (v : Value) → Settles o → o ≢ Some (OutcomeFinished v)
finished_settles o v (IsPending e) f = absurd (cc)
finished_settles o v (HasEnded None e) f = absurd (cc)
finished_settles o v (HasEnded (Some r) e) f = absurd (cc)

pub named : (n : Node) → Driven n → outcome_of_pipe n.core ≢ None
named n d = none_settles (outcome_of_pipe n.core) (settled n d)

pub not_given : (n : Node) (v : Value) → Driven n → outcome_of_pipe n.core ≢ Some (Given v)
not_given n v d = given_settles (outcome_of_pipe n.core) v (settled n d)

pub not_finished : (n : Node) (v : Value) → Driven n → outcome_of_pipe n.core ≢ Some (OutcomeFinished v)
not_finished n v d = finished_settles (outcome_of_pipe n.core) v (settled n d)

-- a cause has a status, by which the node ends

failed : (o : Output) → o ≢ output.Finished → is_shut o ≡ true → o ≡ output.Failed
failed output.Finished a b = absurd (a refl)
failed output.Failed a b = refl
failed output.Open a b = absurd (cc)
failed output.Aborted a b = absurd (cc)
failed output.Edge a b = absurd (cc)

by-fault : (n : Node) (f : Fault) → n.exit.output ≢ output.Finished → IsOwnFault n f → EndsBy (status_of (FaultReason f)) n
by-fault n Read other h = (other, h)
by-fault n Write other h = failed n.exit.output other h
by-fault n TooMuch other h = (other, h)
by-fault n (Stage index code place) other h = (other, h)
by-fault n Abort other h = (other, h)
by-fault n TypeError other h = absurd h
by-fault n RangeError other h = absurd h
by-fault n DataClone other h = absurd h
by-fault n (User k) other h = absurd h
by-fault n NoMemoryFault other h = absurd h

by-own : (n : Node) (r : Plain) → n.exit.output ≢ output.Finished → IsOwnCause n r → EndsBy (status_of r) n
by-own n (FaultReason f) other h = by-fault n f other h
by-own n Undefined other h = absurd h
by-own n (Number k) other h = absurd h
by-own n (Pair t) other h = absurd h
by-own n (Local k) other h = absurd h

by-cause : (n : Node) (r : Plain) → n.exit.output ≢ output.Finished → IsCause n r → EndedBy (status_of r) n
by-cause n r other (Passed e) = EndsPassed r e other refl
by-cause n r other (Own h) = EndsOwn (by-own n r other h)

pub by-unless : (n : Node) (o : Output) (status : Status) → n.exit.output ≡ o → (n.exit.output ≢ output.Finished → EndedBy status n) → EndedBy (unless_finished o status) n
by-unless n output.Finished status e h = EndsOwn e
by-unless n output.Open status e h = h (λ f. cc)
by-unless n output.Failed status e h = h (λ f. cc)
by-unless n output.Aborted status e h = h (λ f. cc)
by-unless n output.Edge status e h = h (λ f. cc)

-- it is rejected with a reason that has a cause, which is there
pub rejected : (n : Node) (r : Plain) → Driven n → feeds_edge n.exit.output ≡ false → outcome_of_pipe n.core ≡ Some (Rejected r)
    → IsCause n r × EndedBy (unless_finished n.exit.output (status_of r)) n
rejected n r d sunk e =
    let led = d.since.led in
    let c = cause d.shape d.past n led r sunk (sym (outcome-is d.shape d.past n led) ∙ e) in
    (c, by-unless n n.exit.output (status_of r) refl (λ other. by-cause n r other c))

-- what a node's status is

pub outcome-there : (n : Node) → Driven n → outcome_of_pipe n.core ≡ None → ⊥
outcome-there n d e = named n d e

pub outcome-not_given : (n : Node) (o : Outcome) (v : Value) → Driven n → outcome_of_pipe n.core ≡ Some o → o ≡ Given v → ⊥
outcome-not_given n o v d e f = not_given n v d (e ∙ ap Some f)

pub outcome-not_finished : (n : Node) (o : Outcome) (v : Value) → Driven n → outcome_of_pipe n.core ≡ Some o → o ≡ OutcomeFinished v → ⊥
outcome-not_finished n o v d e f = not_finished n v d (e ∙ ap Some f)

pending-unsettled : (n : Node) (o : Outcome) → outcome_of_pipe n.core ≡ Some o → o ≡ Pending → has_settled (outcome_of_pipe n.core) ≡ false
pending-unsettled n o e f = rw (e, f) refl

pub ends-not : (n : Node) (o : Outcome) → Driven n → outcome_of_pipe n.core ≡ Some o → o ≡ Pending → (n.core.stopped ≡ Some why.NoMemory → ⊥) → EndsAs None n
ends-not n o d e f going =
    record {
      none = ((λ h. (pending-unsettled n o e f, going)), (λ h. refl));
      fulfilled = λ v g. absurd (cc);
      rejected = λ r g. absurd (cc);
      wanting = λ g w. absurd (going w);
      by = tt;
      counts = d.since.led.counts;
    }

by-wanting : (n : Node) → EndedBy (unless_finished n.exit.output NoMemory) n
by-wanting n = by-unless n n.exit.output NoMemory refl (λ other. EndsOwn other)

pub ends-wanting : (n : Node) (o : Outcome) → Driven n → outcome_of_pipe n.core ≡ Some o → o ≡ Pending → n.core.stopped ≡ Some why.NoMemory → EndsAs (Some (unless_finished n.exit.output NoMemory)) n
ends-wanting n o d e f wanting =
    record {
      none = ((λ h. absurd (cc)), (λ h. absurd (h.1 wanting)));
      fulfilled = λ v g. absurd (cc);
      rejected = λ r g. absurd (cc);
      wanting = λ g w. refl;
      by = by-wanting n;
      counts = d.since.led.counts;
    }

settled-so : (n : Node) (o : Outcome) → outcome_of_pipe n.core ≡ Some o → has_settled (Some o) ≡ true → has_settled (outcome_of_pipe n.core) ≡ false → ⊥
settled-so n o e f g = cc

pub ends-well : (n : Node) (o : Outcome) (v : Plain) → Driven n → feeds_edge n.exit.output ≡ false → outcome_of_pipe n.core ≡ Some o → o ≡ Fulfilled v → EndsAs (Some Done) n
ends-well n o v d sunk e f =
    record {
      none = ((λ h. absurd (cc)), (λ h. absurd (settled-so n o e (rw f refl) h.0)));
      fulfilled = λ w g. refl;
      rejected = λ r g. absurd (cc);
      wanting = λ g w. absurd (cc);
      by = EndsOwn (fulfilled n v d sunk (e ∙ ap Some f));
      counts = d.since.led.counts;
    }

pub ends-badly : (n : Node) (o : Outcome) (r : Plain) (status : Status) → Driven n → feeds_edge n.exit.output ≡ false → outcome_of_pipe n.core ≡ Some o → o ≡ Rejected r → status ≡ status_of r
    → EndsAs (Some (unless_finished n.exit.output status)) n
ends-badly n o r status d sunk e f is =
    let h = rejected n r d sunk (e ∙ ap Some f) in
    rw is
    (record {
      none = ((λ g. absurd (cc)), (λ g. absurd (settled-so n o e (rw f refl) g.0)));
      fulfilled = λ v g. absurd (cc);
      rejected = λ q g. let same : r ≡ q = cc in subst (λ (x : Plain). IsCause n x × (Some (unless_finished n.exit.output (status_of r)) ≡ Some (unless_finished n.exit.output (status_of x)))) same (h.0, refl);
      wanting = λ g w. absurd (cc);
      by = h.1;
      counts = d.since.led.counts;
    })
