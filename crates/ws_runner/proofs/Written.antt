-- How a run ends, once what its output held back was to be written.
use Rattle.std.proofs.Common.{◌≡◌, ◌≢◌, inr, ℕ, Bool, List, [], refl, sym, ap, subst}
use Rattle.ws_flow.specs.declared.plan.Plan.{Plan}
use Rattle.ws_flow.specs.Told.{Mark, Open, Closed, Broken, Lost}
use Rattle.ws_io.specs.Emptied.{LeavesNothing}
use Rattle.ws_io.specs.Faults.{Rose}
use Rattle.ws_io.specs.Gain.{Gains, Got, IsEmptied, KeepsTold}
use Rattle.ws_io.specs.Moment.{Moment, moment}
use Rattle.ws_io.specs.declared.status.Status.{Status}
use Rattle.ws_io.specs.declared.status.Status.TheVariants as status
use Rattle.ws_io.proofs.Emptied.{emptied-leaves}
use Rattle.ws_io.proofs.Flow.{Gains-still, IsEmptied-kept, KeepsTold-then, rose-later, told-same}
use Rattle.ws_node.specs.Ends.{Allows, Ends, Leaves, ReadAs}
use Rattle.ws_node.specs.Moves.{Shown}
use Rattle.ws_runner.specs.declared.trace.EdgeTrace.{EdgeTrace}
use Rattle.ws_runner.specs.declared.trace.Finished.{Finished}
use Rattle.ws_runner.specs.Trace.{Finishes, HasEdges}
use Rattle.ws_runner.specs.Written.{IsWritten, WasFinished, WroteAll, WroteLess, unwritten}

-- the moment at which the output shows this, and the input what it showed
abbrev pub shows_then : Moment → Shown → Moment
shows_then m shown = moment m.read_faults m.feed shown.faults shown.finished

abbrev pub shown_at : Moment → Shown
shown_at m = record { faults = m.write_faults; finished = m.finished }

-- an end with what was taken and gained as before
record SameEnd (s t : Status) (plan : Plan) (old m n : Moment) (p q r : Got) (e : Ends s plan old m p q) : Type 0 where
  ends : Ends t plan old n p r
  taken : ends.taken ≡ e.taken
  gain : ends.gain ≡ e.gain

-- all was written
wrote-all : (s : Status) (plan : Plan) (old m : Moment) (p q r : Got) (e : Ends s plan old m p q) → Gains q r [] → IsEmptied r → SameEnd s s plan old m m p q r e
wrote-all s plan old m p q r e gained emptied =
    record {
      ends = record {
        taken = e.taken;
        gain = e.gain;
        mark = e.mark;
        fed = e.fed;
        read = e.read;
        gained = Gains-still p q r e.gain e.gained gained;
        first = e.first;
        bound = e.bound;
        ahead_by = e.ahead_by;
        abort = e.abort;
        allowed = e.allowed;
        finish_kept = e.finish_kept;
        later = e.later;
        emptied = λ done. emptied;
      };
      taken = refl;
      gain = refl;
    }

-- less was written

unwritten-not_done : (s : Status) → unwritten s ≡ status.Done → ⊥
unwritten-not_done status.NoMemory e = cc
unwritten-not_done _ e = cc

unwritten-allowed : (s : Status) (plan : Plan) (mark : Mark) (old new : Moment) (taken gain : List ℕ) → Rose old.write_faults new.write_faults
    → Allows (unwritten s) plan mark old new taken gain
unwritten-allowed status.NoMemory plan mark old new taken gain rose = tt
unwritten-allowed _ plan mark old new taken gain rose = rose

unwritten-leaves : (s : Status) (old new : Moment) → KeepsTold old.finished new.finished → Leaves (unwritten s) old new
unwritten-leaves status.NoMemory old new kept = kept
unwritten-leaves _ old new kept = kept

unfinished : (s : Status) (old new : Moment) → s ≢ status.Done → Leaves s old new → KeepsTold old.finished new.finished
unfinished status.Done old new other leaves = absurd (other refl)
unfinished _ old new other leaves = leaves

reads-so : (mark : Mark) (old m : Moment) (shown : Shown) → ReadAs mark old m → ReadAs mark old (shows_then m shown)
reads-so Open old m shown read = tt
reads-so Broken old m shown read = read
reads-so Lost old m shown read = tt
reads-so Closed old m shown read = record { ended = read.ended; emptied = read.emptied; calm = read.calm }

wrote-less : (s : Status) (plan : Plan) (old m : Moment) (shown : Shown) (p q r : Got) (e : Ends s plan old m p q) → s ≢ status.Done → Gains q r []
    → Rose m.write_faults shown.faults → KeepsTold m.finished shown.finished → SameEnd s (unwritten s) plan old m (shows_then m shown) p q r e
wrote-less s plan old m shown p q r e other gained rose kept =
    let risen : Rose old.write_faults shown.faults = rose-later old.write_faults m.write_faults shown.faults e.later rose in
    record {
      ends = record {
        taken = e.taken;
        gain = e.gain;
        mark = e.mark;
        fed = e.fed;
        read = reads-so e.mark old m shown e.read;
        gained = Gains-still p q r e.gain e.gained gained;
        first = e.first;
        bound = e.bound;
        ahead_by = e.ahead_by;
        abort = e.abort;
        allowed = unwritten-allowed s plan e.mark old (shows_then m shown) e.taken e.gain risen;
        finish_kept =
            unwritten-leaves s old (shows_then m shown)
            (KeepsTold-then old.finished m.finished shown.finished (unfinished s old m other e.finish_kept) kept);
        later = inr risen;
        emptied = λ done. absurd (unwritten-not_done s done);
      };
      taken = refl;
      gain = refl;
    }

edges-unwritten : (edges : List EdgeTrace) (plan : Plan) (trace : Bool) (s : Status) (taken gain : List ℕ) → HasEdges edges plan trace s taken gain
    → HasEdges edges plan trace (unwritten s) taken gain
edges-unwritten edges plan trace s taken gain h =
    record {
      untraced = h.untraced;
      alone = h.alone;
      many = h.many;
      some = λ traced workers other. h.some traced workers (λ e. other (ap unwritten e));
      legal = h.legal;
      credit = h.credit;
      whole = λ done. absurd (unwritten-not_done s done);
      all = λ done. absurd (unwritten-not_done s done);
      most = h.most;
      near = h.near;
      written = h.written;
    }

finishes-with : (f g : Finished) (plan : Plan) (trace : Bool) (old m n : Moment) (p q r : Got) (e : Ends f.status plan old m p q)
    → SameEnd f.status g.status plan old m n p q r e → HasEdges g.edges.items plan trace g.status e.taken e.gain → Finishes g plan trace old n p r
finishes-with f g plan trace old m n p q r e same has =
    record {
      ends = same.ends;
      edges =
          subst (λ (taken : List ℕ). HasEdges g.edges.items plan trace g.status taken same.ends.gain) (sym same.taken)
          (subst (λ (gain : List ℕ). HasEdges g.edges.items plan trace g.status e.taken gain) (sym same.gain) has);
    }

same-moment : (m : Moment) (shown : Shown) → shown.faults ≡ m.write_faults → KeepsTold m.finished shown.finished → m ≡ shows_then m shown
same-moment m shown calm kept =
    let finished : shown.finished ≡ m.finished = told-same m.finished shown.finished kept in
    rw (calm, finished) refl

pub finishes-written : (f g : Finished) (plan : Plan) (trace : Bool) (old m : Moment) (shown : Shown) (p q r : Got) → Finishes f plan trace old m p q
    → IsWritten f g (shown_at m) shown q r → Finishes g plan trace old (shows_then m shown) p r
finishes-written f g plan trace old m shown p q r h (WasFinished done same still gained) =
    subst (λ (s : Shown). Finishes g plan trace old (shows_then m s) p r) (sym still)
    (subst (λ (x : Finished). Finishes x plan trace old m p r) (sym same)
    (finishes-with f f plan trace old m m p q r h.ends (wrote-all f.status plan old m p q r h.ends gained (IsEmptied-kept q r gained (h.ends.emptied done))) h.edges))
finishes-written f g plan trace old m shown p q r h (WroteAll other same gained emptied calm kept) =
    subst (λ (n : Moment). Finishes g plan trace old n p r) (same-moment m shown calm kept)
    (subst (λ (x : Finished). Finishes x plan trace old m p r) (sym same)
    (finishes-with f f plan trace old m m p q r h.ends (wrote-all f.status plan old m p q r h.ends gained emptied) h.edges))
finishes-written f g plan trace old m shown p q r h (WroteLess other same gained rose kept) =
    subst (λ (x : Finished). Finishes x plan trace old (shows_then m shown) p r) (sym same)
    (finishes-with f (record f { status = unwritten f.status }) plan trace old m (shows_then m shown) p q r h.ends
    (wrote-less f.status plan old m shown p q r h.ends other gained rose kept) (edges-unwritten f.edges.items plan trace f.status h.ends.taken h.ends.gain h.edges))

-- what it leaves

unwritten-left : (s : Status) (got : Got) → LeavesNothing (unwritten s) got
unwritten-left status.NoMemory got = tt
unwritten-left _ got = tt

pub leaves-nothing : (f g : Finished) (plan : Plan) (trace : Bool) (old m : Moment) (shown : Shown) (p q r : Got) → Finishes f plan trace old m p q
    → IsWritten f g (shown_at m) shown q r → LeavesNothing g.status r
leaves-nothing f g plan trace old m shown p q r h (WasFinished done same still gained) =
    subst (λ (x : Finished). LeavesNothing x.status r) (sym same) (emptied-leaves f.status r (IsEmptied-kept q r gained (h.ends.emptied done)))
leaves-nothing f g plan trace old m shown p q r h (WroteAll other same gained emptied calm kept) =
    emptied-leaves g.status r emptied
leaves-nothing f g plan trace old m shown p q r h (WroteLess other same gained rose kept) =
    subst (λ (x : Finished). LeavesNothing x.status r) (sym same) (unwritten-left f.status r)
