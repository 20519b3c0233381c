-- What a run of nodes may end with, by what they tell of it.
use Rattle.std.proofs.Common.{◌≡◌, ℕ, Bool, true, List, sym, subst}
use Rattle.std.specs.Prelude.{All}
use Rattle.std.proofs.lemmas.List.Elements.{All-contains}
use Rattle.ws_value.specs.declared.fault.Fault.TheVariants.{TypeError, RangeError, DataClone, User, Read, Write, Stage, TooMuch as TooMuchFault, Abort as AbortFault, NoMemory as NoMemoryFault}
use Rattle.ws_value.specs.declared.value.Plain.{Plain}
use Rattle.ws_value.specs.declared.value.Plain.TheVariants.{Undefined, Number, Fault as FaultReason, Pair, Local}
use Rattle.ws_flow.specs.declared.plan.Ending.TheVariants.{Fine}
use Rattle.ws_flow.specs.Told.{Mark, Open, Closed, Broken, Lost, Told, told, IsBefore}
use Rattle.ws_io.specs.Gain.{KeepsTold}
use Rattle.ws_io.specs.Moment.{Moment}
use Rattle.ws_io.specs.declared.status.Status.{Status}
use Rattle.ws_io.specs.declared.status.Status.TheVariants.{Done, Stage as StageIs, Usage, Plan as PlanIs, ReadFault, WriteFault, Aborted, NoMemory, Script, LoadFault, TooMuch}
use Rattle.ws_joined_laws.specs.Ends.{out_of, ending_of, IsBad}
use Rattle.ws_joined_laws.specs.Finished.{IsFoundFor, NodesEnd}
use Rattle.ws_joined_laws.specs.Joined.{Node, SomeFinds}
use Rattle.ws_joined_laws.specs.Reasons.{Finds}
use Rattle.ws_joined_laws.specs.RunEnds.{IsReadToEnd, ReadAs, Pipeline, IsDone, Allows, Leaves, EndsSo, FindsSo, RunTells, status_of, IsStatus, Complete, Rejected, Wanting, EachRunTellsItsEnd}
use Rattle.ws_joined_laws.proofs.Finished.{each-run-of-nodes-ends}
use Rattle.ws_joined_laws.proofs.Joined.{at-all}

read-to-end : (m : Mark) (old new : Moment) → m ≡ Closed → ReadAs m old new → IsReadToEnd old new
read-to-end Closed old new e h = h
read-to-end Open old new e h = absurd (cc)
read-to-end Broken old new e h = absurd (cc)
read-to-end Lost old new e h = absurd (cc)

leaves : (status : Status) (old new : Moment) → KeepsTold old.finished new.finished → Leaves status old new
leaves Done old new k = tt
leaves (StageIs index code place) old new k = k
leaves Usage old new k = k
leaves (PlanIs n) old new k = k
leaves ReadFault old new k = k
leaves WriteFault old new k = k
leaves Aborted old new k = k
leaves NoMemory old new k = k
leaves (Script n) old new k = k
leaves LoadFault old new k = k
leaves TooMuch old new k = k

module _ (pipeline : Pipeline) (old new : Moment) (taken : Told ℕ) (ns : List Node) (gain : Told ℕ) (last : List Plain)
    (h : RunTells pipeline old new taken ns gain last) where
  nodes-end : NodesEnd pipeline.abort_after taken ns gain last
  nodes-end = each-run-of-nodes-ends pipeline.abort_after taken ns gain last h.nodes

  -- what some node finds is so
  so : (finds : Finds → Bool) (P : Type 0) → ((n : Node) → FindsSo pipeline old new taken.items gain.items n → finds n.finds ≡ true → P) → SomeFinds finds ns → P
  so finds P f s = f s.node (at-all (FindsSo pipeline old new taken.items gain.items) s.before s.node s.after (subst (λ q. All (FindsSo pipeline old new taken.items gain.items) q) s.whole h.found)) s.found

  allows : (r : Plain) → IsFoundFor taken ns r → Allows (status_of r) pipeline taken.mark old new taken.items gain.items
  allows (FaultReason Read) f = so (λ g. g.read_failed) _ (λ n g. g.read) f
  allows (FaultReason TooMuchFault) f = so (λ g. g.too_much) _ (λ n g. g.many) f
  allows (FaultReason Write) f = so (λ g. g.write_failed) _ (λ n g. g.write) f
  allows (FaultReason (Stage index code place)) f = subst (λ ss. IsBad ss index code place taken.mark taken.items) h.stages f
  allows (FaultReason AbortFault) f = so (λ g. g.abort_reached) _ (λ n g. g.abort) f
  allows (FaultReason NoMemoryFault) f = tt
  allows (FaultReason TypeError) f = tt
  allows (FaultReason RangeError) f = tt
  allows (FaultReason DataClone) f = tt
  allows (FaultReason (User k)) f = tt
  allows Undefined f = tt
  allows (Number k) f = tt
  allows (Pair t) f = tt
  allows (Local k) f = tt

  done : gain.mark ≡ Closed → IsDone pipeline old new taken.items gain.items
  done c =
      let a = nodes-end.finished c in
      let w = h.tail.finished c in
      let r = read-to-end taken.mark old new a.closed h.head.read in
      record {
        ended = r.ended;
        emptied = r.emptied;
        no_fault = record { read = r.calm; write = w.0 };
        within = h.head.within a.closed;
        fine = subst (λ ss. (j : ℕ) → ending_of ss j taken.items Closed ≡ Fine) h.stages a.fine;
        whole = subst (λ ss. out_of ss taken.items Closed ≡ told gain.items Closed) h.stages a.whole;
        finished = w.1;
      }

  ends-so : (status : Status) → Allows status pipeline taken.mark old new taken.items gain.items → Leaves status old new → EndsSo status pipeline old new taken.items gain.items taken.mark
  ends-so status a l = record {
    fed = h.head.fed;
    read = h.head.read;
    first = subst (λ ss. IsBefore (told gain.items Open) (out_of ss taken.items taken.mark)) h.stages nodes-end.first;
    bound = h.head.bound;
    ahead_by = h.ahead_by;
    abort = nodes-end.abort;
    allowed = a;
    finish_kept = l;
  }

  by : (status : Status) → IsStatus gain.mark last status → EndsSo status pipeline old new taken.items gain.items taken.mark
  by status (Complete c e) = subst (λ s. EndsSo s pipeline old new taken.items gain.items taken.mark) (sym e) (ends-so Done (done c) tt)
  by status (Rejected r unfinished among e) =
      subst (λ s. EndsSo s pipeline old new taken.items gain.items taken.mark) (sym e)
      (ends-so (status_of r) (allows r (All-contains (IsFoundFor taken ns) last r nodes-end.reasons among)) (leaves (status_of r) old new (h.tail.unfinished unfinished)))
  by status (Wanting unfinished e) =
      subst (λ s. EndsSo s pipeline old new taken.items gain.items taken.mark) (sym e) (ends-so NoMemory tt (leaves NoMemory old new (h.tail.unfinished unfinished)))

pub each-run-tells-its-end : EachRunTellsItsEnd
each-run-tells-its-end status pipeline old new taken ns gain last h s = by pipeline old new taken ns gain last h status s
