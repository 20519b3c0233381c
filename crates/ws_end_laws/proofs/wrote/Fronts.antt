-- What is written to the destination of a pipe while that isn't over (`each_pipe_wrote_a_front`).
use Rattle.std.proofs.Common.{◌≡◌, Bool, true, false, ℕ, zero, suc, map, is_some, List, [], ◌∷◌, ◌++◌, Option, Some, None, slice_get, Result, Ok, Err, refl, sym, ap, subst, ◌∙◌, append_assoc, append-nil, arith}
use Rattle.ws_value.specs.declared.{ids.PipeId.{PipeId}, ids.StreamId.{StreamId}, value.Plain.{Plain}, value.Plain.TheVariants.{Undefined}, value.Value.{Value}}
use Rattle.ws_steps.specs.declared.effects.{Owner.{Owner}, Owner.TheVariants.{Host, HalfOf, BranchOf, EndOf}}
use Rattle.ws_steps.specs.declared.pipes.{Ends.{Ends}, Phase.{Phase}, PipeOperation.{PipeOperation}}
use Rattle.ws_steps.specs.declared.writable.WritableOperation.{WritableOperation}
use Rattle.ws_steps.specs.declared.writable.WritableOperation.TheVariants as names
use Rattle.ws_steps.specs.Histories.{over}
use Rattle.ws_steps.specs.Laws.{IsPrefixOf, IsLawfulWritable, IsWritableStep}
use Rattle.ws_steps.specs.Operations.{writable_operation, pipe_operation}
use Rattle.ws_steps.specs.Pipes as pipe
use Rattle.ws_steps.specs.Promises.{Table}
use Rattle.ws_steps.specs.Run.{Entry, run, step}
use Rattle.ws_steps.specs.Slots.{Slots, Stream, ReadableStream, ByteStream, WritableStream, empty, as_pipe, pipe_at, as_writable, writable_at, owner_at, has_writable, is_writable_stream}
use Rattle.ws_steps.specs.Writable as writable
use Rattle.ws_steps.specs.Writable.{has_ended, set_up_writer, writer_release, writer_write, stream_close, close_with_error_propagation, stream_abort, abort_if_writable, controller_error_if_needed, hand_on, start_settled, write_settled, close_settled, abort_settled, finish_in_flight_close, finish_in_flight_close_with_error, deal_with_rejection, finish_erroring, advance_queue, refresh_backpressure, update_backpressure, reject_close_and_closed, process_write, process_close, start_erroring, controller_write, controller_close}
use Rattle.ws_steps.specs.WritableHistory.{Writes, written_unless, no_writes, writes_then, todo, step_writes, run_writes}
use Rattle.ws_laws.proofs.Lists.{append_cancel, append_none}
use Rattle.ws_laws.proofs.Tables.{no_writable_there}
use Rattle.ws_laws.proofs.PipeDoes.{pipe-causes}
use Rattle.ws_laws.proofs.Truth.{false_true}
use Rattle.ws_laws.proofs.Walker.{IsHistory, Stays, run-stays}
use Rattle.ws_laws.proofs.Begin.{begin-makes}
use Rattle.ws_laws.proofs.Shapes.{StreamShape, ReadableOf, BytesOf, WritableOf, stream_shape, row-stream_shapes}
use Rattle.ws_steps.specs.Turns.{row}
use Rattle.ws_transform_laws.proofs.Lawful.{each_half_is_lawful, run-orderly}
use Rattle.ws_transform_laws.proofs.Sunk.{AreSunk, run-sunk, sink-owned}
use Rattle.ws_transform_laws.proofs.Steps.{each_half_step}
use Rattle.ws_transform_laws.proofs.PortLawful.{each_end_is_lawful}
use Rattle.ws_transform_laws.proofs.PortSteps.{each_end_step}
use Rattle.ws_writable_laws.proofs.EachStep.{each_writable_step}
use Rattle.ws_writable_laws.proofs.Runs as writes
use Rattle.ws_writable_laws.proofs.Runs.{each_writable_is_lawful}
use Rattle.ws_pipe_laws.specs.pipes.PipeHistory.{is_live, is_over, Through, nothing_through, through_then, step_through, run_through}
use Rattle.ws_pipe_laws.specs.pipes.PipeMoves.{starting, Move, MoveRests, MoveWaits, MoveActs, MoveEnds, MoveFinishes}
use Rattle.ws_pipe_laws.specs.pipes.PipeReads.{held_values, appended_by}
use Rattle.ws_pipe_laws.proofs.pipes.Moves.{each_pipe_moves}
use Rattle.ws_pipe_laws.proofs.pipes.PassingRuns.{through_history, each_pipe_passes}
use Rattle.ws_pipe_laws.specs.locks.Locks.{Writing, has_lock}
use Rattle.ws_pipe_laws.proofs.locks.Owning.{each_pipe_owns_its_ends}
use Rattle.ws_end_laws.specs.wrote.WroteLaws.{EachPipeWroteAFront}
use Rattle.ws_end_laws.proofs.wrote.Destinations.{each_destination_is_its_pipes}
use Rattle.ws_end_laws.proofs.wrote.Keeping.{Expected, pipe-kept, pipe-stands, writable-kept}

-- lists

pub run-append : (xs ys : List Entry) (s : Slots) → run (xs ++ ys) s ≡ run ys (run xs s)
run-append [] ys s = refl
run-append (x ∷ xs) ys s = run-append xs ys (step s x)

pub over-append : {H : Type 0} (none : H) (after : H → H → H) (is : IsHistory none after) (told : Slots → Entry → H) (xs ys : List Entry) (s : Slots)
    → over none after told (xs ++ ys) s ≡ after (over none after told xs s) (over none after told ys (run xs s))
over-append none after is told [] ys s = sym (is.left (over none after told ys s))
over-append none after is told (x ∷ xs) ys s =
    ap (after (told s x)) (over-append none after is told xs ys (step s x)) ∙ sym (is.assoc (told s x) (over none after told xs (step s x)) (over none after told ys (run xs (step s x))))

-- a writable stream that is there stays

abbrev sink_shape : Option StreamShape → Bool
sink_shape None = false
sink_shape (Some (ReadableOf o)) = false
sink_shape (Some BytesOf) = false
sink_shape (Some (WritableOf o)) = true

sink-told : (xs : List Stream) (n : ℕ) → is_writable_stream (slice_get xs n) ≡ sink_shape (slice_get (map stream_shape xs) n)
sink-told [] n = refl
sink-told (ReadableStream r ∷ xs) zero = refl
sink-told (ByteStream b ∷ xs) zero = refl
sink-told (WritableStream w ∷ xs) zero = refl
sink-told (x ∷ xs) (suc n) = sink-told xs n

more-sinks : (xs : List Stream) (y : Stream) (n : ℕ) → is_writable_stream (slice_get xs n) ≡ true → is_writable_stream (slice_get (xs ++ y ∷ []) n) ≡ true
more-sinks [] y n e = cc
more-sinks (x ∷ xs) y zero e = e
more-sinks (x ∷ xs) y (suc n) e = more-sinks xs y n e

sinks-stay : (i : StreamId) → Stays (λ s es. has_writable i s ≡ true)
sinks-stay i = record {
  row = λ s e es k.
      sink-told (row e s).slots.streams i.0 ∙ (ap (λ (ys : List StreamShape). sink_shape (slice_get ys i.0)) (row-stream_shapes e s) ∙ (sym (sink-told s.streams i.0) ∙ k));
  call = λ s c k. begin-makes (λ z. has_writable i z ≡ true) (record {
    promise = λ z k. k;
    locks = λ z ls k. k;
    hosts = λ z hs k. k;
    pipe = λ z source dest prevent signal promise k. k;
    signal = λ z k. k;
    transform = λ z kind first second change k. k;
    tee = λ z source first second cancel k. k;
    port = λ z side stream backpressure k. k;
    bytes = λ z mark auto k. more-sinks z.streams _ i.0 k;
    byob_requests = λ z hs k. k;
    readable = λ z owner mark size k. more-sinks z.streams _ i.0 k;
    writable = λ z owner mark size k. more-sinks z.streams _ i.0 k;
  }) c s k;
  job = λ s job e k. k;
  answered = λ s p k. k;
  older = λ s k. k;
}

sink-stays : (i : StreamId) (x : Entry) (s : Slots) → has_writable i s ≡ true → has_writable i (step s x) ≡ true
sink-stays i x s there = run-stays (λ s es. has_writable i s ≡ true) (sinks-stay i) (λ z k. k) (x ∷ []) s there

-- where there is no writable stream of a number nothing is told of it

absent-there : (entries : List Entry) (x : Entry) (i : StreamId) → let s : Slots = run entries empty in has_writable i (step s x) ≡ false → has_writable i s ≡ false
absent-there entries x i n = by (has_writable i (run entries empty)) refl
  where
    by : (b : Bool) → has_writable i (run entries empty) ≡ b → has_writable i (run entries empty) ≡ false
    by false e = e
    by true e = false_true (has_writable i (step (run entries empty) x)) (sink-stays i x (run entries empty) e) n

none-told : (entries : List Entry) (i : StreamId) → let h : Writes = run_writes i entries empty in has_writable i (run entries empty) ≡ false → (h.written ≡ []) × ((h.acted ≡ []) × (h.fulfilled ≡ 0))
none-told entries i n = (run-orderly i (record { 0 = 0 }) entries).untold n

absent-lawful : (entries : List Entry) (i : StreamId) → has_writable i (run entries empty) ≡ false → IsLawfulWritable (run_writes i entries empty) (writable_at i (run entries empty))
absent-lawful entries i n =
    let s : Slots = run entries empty in
    let u = none-told entries i n in
    let once = (writes.resting i (run_writes i entries empty) s (writes.run-kept entries i)).shape.once in
    rw (no_writable_there (slice_get s.streams i.0) n)
    (record {
      front = ([], rw (u.0, u.1.0) refl);
      alive = λ a. cc;
      once = once;
      whole = λ k. rw (u.0, u.1.0) refl;
      fulfilled = λ k. rw (u.0, u.1.1) refl;
      closed = λ e. (rw (u.0, u.1.0) refl, rw (u.0, u.1.1) refl);
    })

absent-step : (entries : List Entry) (x : Entry) (i : StreamId) → let s : Slots = run entries empty in has_writable i (step s x) ≡ false
    → IsWritableStep (step_writes i s x) (writable_at i s) (writable_at i (step s x))
absent-step entries x i n =
    let s : Slots = run entries empty in
    let before = no_writable_there (slice_get s.streams i.0) (absent-there entries x i n) in
    let u = none-told (entries ++ x ∷ []) i (rw (run-append entries (x ∷ []) empty) n) in
    let told : run_writes i (entries ++ x ∷ []) empty ≡ writes_then (run_writes i entries empty) (writes_then (step_writes i s x) no_writes) =
    over-append no_writes writes_then writes.is_history (step_writes i) entries (x ∷ []) empty in
    let written : (run_writes i entries empty).written ++ ((step_writes i s x).written ++ []) ≡ [] = rw told at u.0 in
    let acted : (run_writes i entries empty).acted ++ ((step_writes i s x).acted ++ []) ≡ [] = rw told at u.1.0 in
    let w : (step_writes i s x).written ≡ [] = (append_none (step_writes i s x).written [] (append_none (run_writes i entries empty).written _ written).1).0 in
    let a : (step_writes i s x).acted ≡ [] = (append_none (step_writes i s x).acted [] (append_none (run_writes i entries empty).acted _ acted).1).0 in
    rw before (record { alive = λ f l. cc; front = ([], rw (w, a) refl); ended = λ f. (w, a) })

-- each writable stream is lawful, and each step of it, whoever has it

every_writable : (entries : List Entry) (i : StreamId) → IsLawfulWritable (run_writes i entries empty) (writable_at i (run entries empty))
every_writable entries i = by (owner_at i (run entries empty)) refl
  where
    by : (o : Owner) → owner_at i (run entries empty) ≡ o → IsLawfulWritable (run_writes i entries empty) (writable_at i (run entries empty))
    by Host e = each_writable_is_lawful entries i e
    by (HalfOf t) e = each_half_is_lawful entries i t e
    by (BranchOf t half) e = there (has_writable i (run entries empty)) refl
      where
        there : (b : Bool) → has_writable i (run entries empty) ≡ b → IsLawfulWritable (run_writes i entries empty) (writable_at i (run entries empty))
        there true f = absurd (rw e at (sink-owned i (run entries empty) (run-sunk entries) f))
        there false f = absent-lawful entries i f
    by (EndOf c) e = each_end_is_lawful entries i c e

every_step : (entries : List Entry) (x : Entry) (i : StreamId) → IsWritableStep (step_writes i (run entries empty) x) (writable_at i (run entries empty)) (writable_at i (step (run entries empty) x))
every_step entries x i = by (owner_at i (step (run entries empty) x)) refl
  where
    by : (o : Owner) → owner_at i (step (run entries empty) x) ≡ o → IsWritableStep (step_writes i (run entries empty) x) (writable_at i (run entries empty)) (writable_at i (step (run entries empty) x))
    by Host e = each_writable_step entries x i e
    by (HalfOf t) e = each_half_step entries x i t e
    by (BranchOf t half) e = there (has_writable i (step (run entries empty) x)) refl
      where
        sunk : AreSunk (step (run entries empty) x)
        sunk = subst AreSunk (run-append entries (x ∷ []) empty) (run-sunk (entries ++ x ∷ []))

        there : (b : Bool) → has_writable i (step (run entries empty) x) ≡ b
            → IsWritableStep (step_writes i (run entries empty) x) (writable_at i (run entries empty)) (writable_at i (step (run entries empty) x))
        there true f = absurd (rw e at (sink-owned i (step (run entries empty) x) sunk f))
        there false f = absent-step entries x i f
    by (EndOf c) e = each_end_step entries x i c e

-- a stream that refuses writes goes on to

abbrev refuses : writable.Slots → Bool
refuses w = is_some (writable.write_refusal w)

advance-refuses : (i : StreamId) (a : writable.Acts) → is_some a.slots.close_in_flight ≡ false → refuses a.slots ≡ true → refuses (advance_queue i a).slots ≡ true
unfolding advance_queue process_write process_close finish_erroring reject_close_and_closed
advance-refuses i a x e = grind (arith, x, e)

deal-refuses : (i : StreamId) (r : Plain) (a : writable.Acts) → refuses (deal_with_rejection i r a).slots ≡ true
unfolding deal_with_rejection finish_erroring start_erroring reject_close_and_closed
deal-refuses i r a = grind arith

refresh-refuses : (a : writable.Acts) → refuses a.slots ≡ true → is_some a.slots.close_in_flight ≡ false → (refuses (refresh_backpressure a).slots ≡ true) × (is_some (refresh_backpressure a).slots.close_in_flight ≡ false)
unfolding refresh_backpressure update_backpressure
refresh-refuses a e x = grind (arith, x, e)

write-refuses : (i : StreamId) (o : Result Plain Plain) (a : writable.Acts) → is_some a.slots.close_in_flight ≡ false → refuses a.slots ≡ true → refuses (write_settled i o a).slots ≡ true
unfolding write_settled
write-refuses i (Ok v) a x e =
    let b : writable.Acts = writable.without_first (writable.write_ended (Ok Undefined) a) in
    let r = refresh-refuses b e x in
    advance-refuses i (refresh_backpressure b) r.1 r.0
write-refuses i (Err r) a x e = deal-refuses i r (writable.write_ended (Err r) a)

refuses-operation : (i : StreamId) (operation : WritableOperation) (a : writable.Acts) → Expected operation a.slots → refuses a.slots ≡ true → refuses (writable_operation i operation a).slots ≡ true
unfolding set_up_writer writer_release writer_write stream_close close_with_error_propagation stream_abort abort_if_writable controller_error_if_needed hand_on start_settled close_settled abort_settled finish_in_flight_close finish_in_flight_close_with_error deal_with_rejection finish_erroring advance_queue refresh_backpressure update_backpressure reject_close_and_closed process_write process_close start_erroring controller_write controller_close
refuses-operation i (names.SetUpWriter w) a x e = grind (arith, x, e)
refuses-operation i names.ReleaseWriter a x e = grind (arith, x, e)
refuses-operation i (names.Write v p) a x e = grind (arith, x, e)
refuses-operation i (names.Close p) a x e = grind (arith, x, e)
refuses-operation i (names.ClosePropagating p) a x e = grind (arith, x, e)
refuses-operation i (names.Abort r p) a x e = grind (arith, x, e)
refuses-operation i (names.AbortIfWritable r p) a x e = grind (arith, x, e)
refuses-operation i (names.ErrorIfNeeded r) a x e = grind (arith, x, e)
refuses-operation i (names.HandOn taker) a x e = grind (arith, x, e)
refuses-operation i (names.StartSettled o) a x e = grind (arith, x, e)
refuses-operation i (names.WriteSettled o) a x e = write-refuses i o a x.1 e
refuses-operation i (names.CloseSettled o) a x e = grind (arith, x, e)
refuses-operation i (names.AbortSettled p o) a x e = grind (arith, x, e)

ended-operation : (i : StreamId) (operation : WritableOperation) (a : writable.Acts) → Expected operation a.slots → has_ended a.slots.state ≡ true → has_ended (writable_operation i operation a).slots.state ≡ true
unfolding set_up_writer writer_release writer_write stream_close close_with_error_propagation stream_abort abort_if_writable controller_error_if_needed hand_on start_settled write_settled close_settled abort_settled finish_in_flight_close finish_in_flight_close_with_error deal_with_rejection finish_erroring advance_queue refresh_backpressure update_backpressure reject_close_and_closed process_write process_close start_erroring controller_write controller_close
ended-operation i operation a x e = grind arith

-- a pipe keeps its ends, and one that is over stays over

pub live_over : (phase : Phase) → is_live phase ≡ true → is_over phase ≡ false
live_over phase l = grind (arith, l)

pub dest-operation : (p : PipeId) (d : StreamId) (ends : Ends) (operation : PipeOperation) (x : pipe.Slots) (t : Table) → x.dest ≡ d → (pipe_operation p ends operation (starting x t)).slots.dest ≡ d
dest-operation p d ends operation x t e = (pipe-causes p ends operation (starting x t) tt).1.0 ∙ e

over-move : (p : PipeId) (ends : Ends) (operation : PipeOperation) (x : pipe.Slots) (t : Table) (b : pipe.Acts) → Move p ends operation x t b → is_over x.phase ≡ true → is_over b.slots.phase ≡ true
over-move p ends operation x t b (MoveRests q a e i) o = ap is_over q ∙ o
over-move p ends operation x t b (MoveWaits f q k v e) o = false_true (is_over x.phase) o (ap is_over f)
over-move p ends operation x t b (MoveActs action y q k h e s) o = false_true (is_over x.phase) o (live_over x.phase k.live)
over-move p ends operation x t b (MoveEnds q k h e) o = ap (λ (z : pipe.Slots). is_over z.phase) q
over-move p ends operation x t b (MoveFinishes r e q f) o = ap (λ (z : pipe.Slots). is_over z.phase) q

pub over-operation : (p : PipeId) (ends : Ends) (operation : PipeOperation) (x : pipe.Slots) (t : Table) → is_over x.phase ≡ true → is_over (pipe_operation p ends operation (starting x t)).slots.phase ≡ true
over-operation p ends operation x t o = over-move p ends operation x t (pipe_operation p ends operation (starting x t)) (each_pipe_moves p ends operation x t) o

pub pipe_there : (o : Option pipe.Slots) → is_over (as_pipe o).phase ≡ false → o ≡ Some (as_pipe o)
pipe_there None e = cc
pipe_there (Some x) e = refl

pub stream_there : (o : Option Stream) → has_lock Writing o ≡ true → o ≡ Some (WritableStream (as_writable o))
stream_there None e = cc
stream_there (Some (ReadableStream r)) e = cc
stream_there (Some (ByteStream b)) e = cc
stream_there (Some (WritableStream w)) e = refl

-- what a stream is written

one_whole : (v : Value) (o : Option Plain) → is_some o ≡ false → written_unless v o ≡ v ∷ []
one_whole v None e = refl
one_whole v (Some r) e = cc

one_none : (v : Value) (o : Option Plain) → is_some o ≡ true → written_unless v o ≡ []
one_none v None e = cc
one_none v (Some r) e = refl

appended_whole : (w : writable.Slots) (vs : List Value) → refuses w ≡ false → appended_by w vs ≡ vs
appended_whole w [] e = refl
appended_whole w (v ∷ vs) e = let rest = appended_whole w vs e in rw (one_whole v (writable.write_refusal w) e, rest) refl

appended_none : (w : writable.Slots) (vs : List Value) → refuses w ≡ true → appended_by w vs ≡ []
appended_none w [] e = refl
appended_none w (v ∷ vs) e = let rest = appended_none w vs e in rw (one_none v (writable.write_refusal w) e, rest) refl

-- what is written is a first part of what is passed on, by a stream that was w and is z
record Front (h : Writes) (passed : List Value) (w z : writable.Slots) : Type 0 where
  written : IsPrefixOf h.written passed
  whole : refuses z ≡ false → h.written ≡ passed
  none : refuses w ≡ true → h.written ≡ []
  ended : has_ended w.state ≡ true → h.acted ≡ []

-- a stream that is w is no better later, where it is z
record Goes (w z : writable.Slots) : Type 0 where
  refuses : refuses w ≡ true → refuses z ≡ true
  ended : has_ended w.state ≡ true → has_ended z.state ≡ true

not_before : (w z : writable.Slots) → Goes w z → refuses z ≡ false → refuses w ≡ false
not_before w z g e = by (refuses w) refl
  where
    by : (b : Bool) → refuses w ≡ b → b ≡ false
    by true f = false_true (refuses z) (g.refuses f) e
    by false f = refl

-- one after another
both : (h g : Writes) (a b : List Value) (w u z : writable.Slots) → Front h a w u → Front g b u z → Goes w u → Goes u z → Front (writes_then h g) (a ++ b) w z
both h g a b w u z f k m n = record {
  written = by (refuses u) refl;
  whole = λ e. rw (f.whole (not_before u z n e), k.whole e) refl;
  none = λ e. rw (f.none e, k.none (m.refuses e)) refl;
  ended = λ e. rw (f.ended e, k.ended (m.ended e)) refl;
}
  where
    by : (c : Bool) → refuses u ≡ c → IsPrefixOf (h.written ++ g.written) (a ++ b)
    by true e = (f.written.0 ++ b, rw (k.none e, append-nil h.written) (sym (append_assoc h.written f.written.0 b) ∙ ap (λ (vs : List Value). vs ++ b) f.written.1))
    by false e = (k.written.0, rw (f.whole e) (append_assoc a g.written k.written.0 ∙ ap (λ (vs : List Value). a ++ vs) k.written.1))

-- steps

module _ (p : PipeId) where
  abbrev dest : Slots → StreamId
  dest s = (pipe_at p s).dest

  later : (xs : List Entry) (s : Slots) → is_over (pipe_at p (run xs s)).phase ≡ false → slice_get s.pipes p.0 ≡ Some (pipe_at p s) → is_over (pipe_at p s).phase ≡ false
  later xs s e f = by (is_over (pipe_at p s).phase) refl
    where
      by : (b : Bool) → is_over (pipe_at p s).phase ≡ b → b ≡ false
      by true o = false_true (is_over (pipe_at p (run xs s)).phase) (pipe-kept p (λ y. is_over y.phase ≡ true) (over-operation p) xs s (pipe_at p s) f o) e
      by false o = refl

  same_dest : (xs : List Entry) (s : Slots) → slice_get s.pipes p.0 ≡ Some (pipe_at p s) → dest (run xs s) ≡ dest s
  same_dest xs s e = pipe-kept p (λ y. y.dest ≡ dest s) (dest-operation p (dest s)) xs s (pipe_at p s) e refl

  -- a step of a run that has come so far

  abbrev Written : Entry → Slots → Type 0
  Written x s = is_over (pipe_at p s).phase ≡ false → (step_writes (dest s) s x).written ≡ appended_by (writable_at (dest s) s) (step_through p s x).passed

  abbrev Rests : Entry → StreamId → Slots → Type 0
  Rests x i s = has_ended (writable_at i s).state ≡ true → (step_writes i s x).acted ≡ []

  abbrev Stands : Slots → Type 0
  Stands s = is_over (pipe_at p s).phase ≡ false → slice_get s.streams (dest s).0 ≡ Some (WritableStream (writable_at (dest s) s))

  stands : (before : List Entry) → Stands (run before empty)
  stands before live = let s : Slots = run before empty in stream_there (slice_get s.streams (dest s).0) ((each_pipe_owns_its_ends before p live).locked Writing)

  abbrev Later : List Entry → Slots → Type 0
  Later xs s = is_over (pipe_at p s).phase ≡ false → let i : StreamId = dest s in Goes (writable_at i s) (writable_at i (run xs s))

  goes : (before xs : List Entry) → Later xs (run before empty)
  goes before xs live =
      let i : StreamId = dest (run before empty) in
      let there = stands before live in
      record {
        refuses = λ f. writable-kept i (λ w. refuses w ≡ true) (refuses-operation i) before xs there f;
        ended = λ f. writable-kept i (λ w. has_ended w.state ≡ true) (ended-operation i) before xs there f;
      }

  by_refusal : (h passed : List Value) (w : writable.Slots) → h ≡ appended_by w passed → (b : Bool) → refuses w ≡ b → IsPrefixOf h passed
  by_refusal h passed w is true e = (passed, rw (is, appended_none w passed e) refl)
  by_refusal h passed w is false e = ([], append-nil h ∙ (is ∙ appended_whole w passed e))

  step-front : (before : List Entry) (x : Entry) (s : Slots) → run before empty ≡ s → is_over (pipe_at p s).phase ≡ false
      → let i : StreamId = dest s in Front (step_writes i s x) (step_through p s x).passed (writable_at i s) (writable_at i (step s x))
  step-front before x s e live =
      let i : StreamId = dest s in
      let w : writable.Slots = writable_at i s in
      let z : writable.Slots = writable_at i (step s x) in
      let passed : List Value = (step_through p s x).passed in
      let is : (step_writes i s x).written ≡ appended_by w passed = subst (Written x) e (each_destination_is_its_pipes before x p) live in
      let g : Goes w z = subst (Later (x ∷ [])) e (goes before (x ∷ [])) live in
      record {
        written = by_refusal (step_writes i s x).written passed w is (refuses w) refl;
        whole = λ f. is ∙ appended_whole w passed (not_before w z g f);
        none = λ f. is ∙ appended_none w passed f;
        ended = subst (Rests x i) e (λ f. ((every_step before x i).ended f).1);
      }

  -- and runs

  abbrev Runs : List Entry → StreamId → Slots → Type 0
  Runs xs i s = Front (run_writes i xs s) (run_through p xs s).passed (writable_at i s) (writable_at i (run xs s))

  one-front : (x : Entry) (i : StreamId) (s : Slots) → Front (step_writes i s x) (step_through p s x).passed (writable_at i s) (writable_at i (step s x)) → Runs (x ∷ []) i s
  one-front x i s f =
      let w : writable.Slots = writable_at i s in
      let z : writable.Slots = writable_at i (step s x) in
      let h : run_writes i (x ∷ []) s ≡ step_writes i s x = writes.is_history.right (step_writes i s x) in
      let t : (run_through p (x ∷ []) s).passed ≡ (step_through p s x).passed = append-nil (step_through p s x).passed in
      subst (λ (g : Writes). Front g (run_through p (x ∷ []) s).passed w z) (sym h) (subst (λ (vs : List Value). Front (step_writes i s x) vs w z) (sym t) f)

  run-front : (after : List Entry) (last : Entry) (before : List Entry) (s : Slots) (i : StreamId) → run before empty ≡ s → slice_get s.pipes p.0 ≡ Some (pipe_at p s) → is_over (pipe_at p (run after s)).phase ≡ false → dest s ≡ i
      → Runs (after ++ last ∷ []) i s
  run-front [] last before s i e there live d = subst (λ (j : StreamId). Runs (last ∷ []) j s) d (one-front last (dest s) s (step-front before last s e live))
  run-front (x ∷ after) last before s i e there live d =
      let u : Slots = step s x in
      let own : is_over (pipe_at p s).phase ≡ false = later (x ∷ after) s live there in
      let next : run (before ++ x ∷ []) empty ≡ u = run-append before (x ∷ []) empty ∙ ap (λ (z : Slots). step z x) e in
      let zs : List Entry = after ++ last ∷ [] in
      let rest : Runs zs (dest s) u = run-front after last (before ++ x ∷ []) u (dest s) next (pipe-stands p (x ∷ []) s there) live (same_dest (x ∷ []) s there) in
      let first = step-front before x s e own in
      let one : Goes (writable_at (dest s) s) (writable_at (dest s) u) = subst (Later (x ∷ [])) e (goes before (x ∷ [])) own in
      let alive : is_over (pipe_at p u).phase ≡ false = later after u live (pipe-stands p (x ∷ []) s there) in
      let more : Goes (writable_at (dest s) u) (writable_at (dest s) (run zs u)) = subst (λ (j : StreamId). Goes (writable_at j u) (writable_at j (run zs u))) (same_dest (x ∷ []) s there) (subst (Later zs) next (goes (before ++ x ∷ []) zs) alive) in
      subst (λ (j : StreamId). Runs (x ∷ zs) j s) d (both (step_writes (dest s) s x) (run_writes (dest s) zs u) (step_through p s x).passed (run_through p zs u).passed _ _ _ first rest one more)

-- first parts

trans : (xs ys zs : List Value) → IsPrefixOf xs ys → IsPrefixOf ys zs → IsPrefixOf xs zs
trans xs ys zs f g = (f.0 ++ g.0, sym (append_assoc xs f.0 g.0) ∙ (ap (λ (vs : List Value). vs ++ g.0) f.1 ∙ g.1))

behind : (qs ys zs : List Value) → IsPrefixOf ys zs → IsPrefixOf (qs ++ ys) (qs ++ zs)
behind qs ys zs f = (f.0, append_assoc qs ys f.0 ∙ ap (λ (vs : List Value). qs ++ vs) f.1)

passed_front : (r0 p0 d0 h0 r p rest : List Value) → r0 ≡ p0 ++ (d0 ++ h0) → d0 ≡ [] → r0 ++ r ≡ (p0 ++ p) ++ rest → IsPrefixOf p (h0 ++ r)
passed_front r0 p0 d0 h0 r p rest all e whole =
    let b : r0 ≡ p0 ++ h0 = rw e at all in
    (rest, sym (append_cancel p0 (h0 ++ r) (p ++ rest) (sym (append_assoc p0 h0 r) ∙ (ap (λ (vs : List Value). vs ++ r) (sym b) ∙ (whole ∙ append_assoc p0 p rest)))))

acted_front : (w0 a0 q a g : List Value) → w0 ≡ a0 ++ q → IsPrefixOf (a0 ++ a) (w0 ++ g) → IsPrefixOf a (q ++ g)
acted_front w0 a0 q a g e f = (f.0, append_cancel a0 (a ++ f.0) (q ++ g) (sym (append_assoc a0 a f.0) ∙ (f.1 ∙ (ap (λ (vs : List Value). vs ++ g) e ∙ append_assoc a0 q g))))

none_front : (a zs : List Value) → a ≡ [] → IsPrefixOf a zs
none_front a zs e = (zs, rw e refl)

pub each_pipe_wrote_a_front : EachPipeWroteAFront
each_pipe_wrote_a_front before after last p live alive =
    let s : Slots = run before empty in
    let x : pipe.Slots = pipe_at p s in
    let i : StreamId = x.dest in
    let w : writable.Slots = writable_at i s in
    let entries : List Entry = after ++ last ∷ [] in
    let h : Writes = run_writes i before empty in
    let g : Writes = run_writes i entries s in
    let t : Through = run_through p before empty in
    let u : Through = run_through p entries s in
    let f = run-front p after last before s i refl (pipe_there (slice_get s.pipes p.0) (live_over x.phase live)) alive refl in
    let lawful = every_writable before i in
    let written : IsPrefixOf (h.acted ++ g.acted) (h.written ++ g.written) =
    subst (λ (k : Writes). IsPrefixOf k.acted k.written) (over-append no_writes writes_then writes.is_history (step_writes i) before entries empty) (every_writable (before ++ entries) i).front in
    let passing = each_pipe_passes before p in
    let whole = each_pipe_passes (before ++ entries) p in
    let rest : List Value = (run_through p (before ++ entries) empty).dropped ++ held_values (pipe_at p (run (before ++ entries) empty)).held in
    let all : t.read ++ u.read ≡ (t.passed ++ u.passed) ++ rest =
    subst (λ (k : Through). k.read ≡ k.passed ++ rest) (over-append nothing_through through_then through_history (step_through p) before entries empty) whole.all in
    let passed : IsPrefixOf u.passed (held_values x.held ++ u.read) = passed_front t.read t.passed t.dropped (held_values x.held) u.read u.passed rest passing.all (passing.live live) all in
    let read : IsPrefixOf g.written (held_values x.held ++ u.read) = trans g.written u.passed (held_values x.held ++ u.read) f.written passed in
    record {
      written = f.written;
      whole = λ e. f.whole (ap is_some e);
      acted = by_end (has_ended w.state) g.acted (todo w.queue) g.written (held_values x.held ++ u.read) f.ended (λ e. acted_front h.written h.acted (todo w.queue) g.acted g.written (lawful.alive e) written) read;
    }
  where
    by_end : (b : Bool) (a q g c : List Value) → (b ≡ true → a ≡ []) → (b ≡ false → IsPrefixOf a (q ++ g)) → IsPrefixOf g c → IsPrefixOf a (q ++ c)
    by_end true a q g c e f k = none_front a (q ++ c) (e refl)
    by_end false a q g c e f k = trans a (q ++ g) (q ++ c) (f refl) (behind q g c k)
