-- What is written to a stream, and who writes it: nothing but calls and pipes causes a write (`writes_were_answered`).
use Rattle.std.proofs.Common.{◌≡◌, Bool, true, false, List, [], ◌∷◌, ◌++◌, Option, Some, None, Result, Ok, Err, if◌then◌else◌, refl, sym, ap, ◌∙◌, append_assoc, append-nil, arith}
use Rattle.std.proofs.lemmas.Bool.{false≢true}
use Rattle.std.specs.Prelude.{slice_get}
use Rattle.ws_value.specs.declared.ids.PipeId.{PipeId}
use Rattle.ws_value.specs.declared.ids.PromiseId.{PromiseId}
use Rattle.ws_value.specs.declared.ids.StreamId.{StreamId}
use Rattle.ws_value.specs.declared.value.Plain.{Plain}
use Rattle.ws_value.specs.declared.value.Value.{Value}
use Rattle.ws_steps.specs.declared.{calls.Call.{Call}, calls.Call.TheVariants.{Write as WriteCall}, calls.Reply.TheVariants.{Promise}, effects.Effect.{Effect}}
use Rattle.ws_steps.specs.declared.effects.Effect.TheVariants.{Writable, Pipe, CloseAlgorithm}
use Rattle.ws_steps.specs.declared.{locks.Lock.{Lock}, locks.Lock.TheVariants.{Reader, Writer, ReleasedWriter, Inner}, promises.Job.{Job}, promises.Job.TheVariants.{Reaction as ReactionJob, Follow, Settle as SettleJob, Micro as MicroJob}}
use Rattle.ws_steps.specs.declared.{promises.Micro.TheVariants.{PipeLook, PipeWrite, PipeNoParts, TeeHand}, promises.Step.{Step}}
use Rattle.ws_steps.specs.declared.promises.Step.TheVariants.{ReadableStart, ReadablePull, ReturnUndefined, WritableStart, WritableWrite, WritableClose, WritableAbort, PipeEnds, PipeReady, PipeWrote, PipeActed, PipePart, TransformChanged, PortUnblocked, Transformed, TransformFlushed, TransformAborted, TransformCancelled, TeeEnds}
use Rattle.ws_steps.specs.declared.{pipes.Phase.{Phase}, pipes.Phase.TheVariants.{Flowing, Waiting, Acting, Over}, pipes.PipeOperation.TheVariants.{WriteChunk}, writable.WritableOperation.TheVariants.{Write}}
use Rattle.ws_steps.specs.Promises.{next_id, next_job}
use Rattle.ws_steps.specs.Pipes as pipe
use Rattle.ws_steps.specs.Pipes.{write_chunk, write_held, write_in, with_slots}
use Rattle.ws_steps.specs.Slots.{Slots, Stream, ReadableStream, WritableStream, Done, causes, empty, found, put_pipe, on_pipe_at, has_writable, writable_at, is_writable_stream, as_writable, lock_at}
use Rattle.ws_steps.specs.Turns.{row, moments, Moment, performed}
use Rattle.ws_steps.specs.Jobs.{job_effects, job_begun, begin_job, steps, resolved, returned}
use Rattle.ws_steps.specs.Begun.{Begun, unsupported}
use Rattle.ws_steps.specs.LockCalls.{by_writer}
use Rattle.ws_steps.specs.Calls.{begin}
use Rattle.ws_steps.specs.Begun as replying
use Rattle.ws_steps.specs.LockCalls as lock_calls
use Rattle.ws_steps.specs.Run.{Entry, Called, Worked, Heard, step, moments_in}
use Rattle.ws_steps.specs.Histories.{is_same, along}
use Rattle.ws_steps.specs.WritableHistory.{Writes, no_writes, writes_then, effect_writes, written_by, operation_writes, promised_by, effect_promised, operation_promised, step_writes, step_promised, run_writes, run_promised, written_with, call_written, answered_by, written_in_step, answered_in_step, written_from, piped_to, effect_piped, effect_piped_promised, step_piped, step_piped_promised, written_in_run, answered_in_run}
use Rattle.ws_steps.specs.Laws.{WritesWereAnswered}
use Rattle.ws_laws.proofs.Tables.{either}
use Rattle.ws_laws.proofs.Lists.{Each, each-append, each-map}
use Rattle.ws_laws.proofs.Causes.{row-causes}
use Rattle.ws_laws.proofs.EachCall.{each_call}
use Rattle.ws_laws.proofs.Walker.{IsHistory, performed-goes}
use Rattle.ws_write_laws.proofs.Piped.{Quiet, quiet-causes, row-quiet}
use Rattle.ws_steps.specs.Slots.{ByteStream}
use Rattle.ws_steps.specs.declared.locks.Lock.TheVariants.{ByobReader}

-- what is written to a stream and with which promises, and what pipes write to it and with which promises
record Said : Type 0 where
  written : List Value
  promised : List PromiseId
  piped : List Value
  piped_promised : List PromiseId

abbrev none_said : Said
none_said = record { written = []; promised = []; piped = []; piped_promised = [] }

abbrev said_then : Said → Said → Said
said_then f g = record { written = f.written ++ g.written; promised = f.promised ++ g.promised; piped = f.piped ++ g.piped; piped_promised = f.piped_promised ++ g.piped_promised }

abbrev says : StreamId → Effect → Slots → Said
says i e s = record { written = (effect_writes i e s).written; promised = effect_promised i e s; piped = effect_piped i e s; piped_promised = effect_piped_promised i e s }

is_history : IsHistory none_said said_then
is_history = record {
  left = λ f. refl;
  right = λ f k. record { written = append-nil f.written k; promised = append-nil f.promised k; piped = append-nil f.piped k; piped_promised = append-nil f.piped_promised k };
  assoc = λ f g h k. record {
    written = append_assoc f.written g.written h.written k;
    promised = append_assoc f.promised g.promised h.promised k;
    piped = append_assoc f.piped g.piped h.piped k;
    piped_promised = append_assoc f.piped_promised g.piped_promised h.piped_promised k;
  };
}

along-parts : (i : StreamId) (ms : List Moment) → along none_said said_then (says i) ms ≡ record {
  written = (along no_writes writes_then (effect_writes i) ms).written;
  promised = along [] ◌++◌ (effect_promised i) ms;
  piped = along [] ◌++◌ (effect_piped i) ms;
  piped_promised = along [] ◌++◌ (effect_piped_promised i) ms;
}
along-parts i [] = refl
along-parts i (m ∷ ms) = ap (said_then (says i m.effect m.found)) (along-parts i ms)

-- what the first effect writes to stream i, where it is a write, and the promise of that
abbrev next : StreamId → Slots → List Effect → List Value
next i s [] = []
next i s (Writable j (Write v p) ∷ es) = if is_same i j then written_by v (writable_at j s) else []
next i s (e ∷ es) = []

abbrev next_promised : StreamId → Slots → List Effect → List PromiseId
next_promised i s [] = []
next_promised i s (Writable j (Write v p) ∷ es) = promised_by (if is_same i j then written_by v (writable_at j s) else []) p
next_promised i s (e ∷ es) = []

-- only the first may write or have a pipe write
abbrev Front : List Effect → Type 0
Front [] = Unit {0}
Front (e ∷ es) = Each Quiet es

-- what is written so far, and by the first effect, is what the call wrote, which is vs with the promises ps, and what pipes wrote
record Told (i : StreamId) (vs : List Value) (ps : List PromiseId) (h : Said) (s : Slots) (es : List Effect) : Type 0 where
  front : Front es
  written : h.written ++ next i s es ≡ vs ++ h.piped
  promised : h.promised ++ next_promised i s es ≡ ps ++ h.piped_promised

-- quiet effects

quiet_front : (es : List Effect) → Each Quiet es → Front es
quiet_front [] q = tt
quiet_front (e ∷ es) q = q.1

quiet_next : (i : StreamId) (s : Slots) (es : List Effect) → Each Quiet es → next i s es ≡ []
quiet_next i s [] q = refl
quiet_next i s (Writable j (Write v p) ∷ es) q = absurd (q.0)
quiet_next i s (e ∷ es) q = refl

quiet_promised : (i : StreamId) (s : Slots) (es : List Effect) → Each Quiet es → next_promised i s es ≡ []
quiet_promised i s [] q = refl
quiet_promised i s (Writable j (Write v p) ∷ es) q = absurd (q.0)
quiet_promised i s (e ∷ es) q = refl

-- nothing is said of one
record Nothing (f : Said) : Type 0 where
  written : f.written ≡ []
  promised : f.promised ≡ []
  piped : f.piped ≡ []
  piped_promised : f.piped_promised ≡ []

quiet-says : (i : StreamId) (e : Effect) (s : Slots) → Quiet e → Nothing (says i e s)
quiet-says i (Writable j (Write v p)) s q = absurd q
quiet-says i (Writable j operation) s q = record {
  written = either (λ (w : Writes). w.written ≡ []) (is_same i j) (operation_writes operation (writable_at j s)) no_writes (λ e. refl) (λ e. refl);
  promised = either (λ (ps : List PromiseId). ps ≡ []) (is_same i j) (operation_promised operation (writable_at j s)) [] (λ e. refl) (λ e. refl);
  piped = refl;
  piped_promised = refl;
}
quiet-says i (CloseAlgorithm j) s q = record {
  written = either (λ (w : Writes). w.written ≡ []) (is_same i j) (record no_writes { closes = 1 }) no_writes (λ e. refl) (λ e. refl);
  promised = refl;
  piped = refl;
  piped_promised = refl;
}
quiet-says i (Pipe p WriteChunk) s q = absurd q
quiet-says i _ s q = record { written = refl; promised = refl; piped = refl; piped_promised = refl }

-- what the first effect was to write was written, the next writes nothing, and no pipe wrote
after : {A : Type 0} (w n a m vs d c : List A) → a ≡ n → m ≡ [] → c ≡ [] → w ++ n ≡ vs ++ d → (w ++ a) ++ m ≡ vs ++ (d ++ c)
after w n a m vs d c e f g h = rw (e, f, g, append-nil (w ++ n), append-nil d) h

-- a pipe writes, and the next effect is that write
piping : {A : Type 0} (w vs d m : List A) → w ++ [] ≡ vs ++ d → (w ++ []) ++ m ≡ vs ++ (d ++ m)
piping w vs d m h = ap (λ ys. ys ++ m) h ∙ append_assoc vs d m

module _ (i : StreamId) (vs : List Value) (ps : List PromiseId) where
  quiet-row : (h : Said) (s : Slots) (e : Effect) (es : List Effect) → Quiet e → Told i vs ps h s (e ∷ es) → Told i vs ps (said_then h (says i e s)) (row e s).slots ((row e s).caused ++ es)
  quiet-row h s e es q k =
      let z : Slots = (row e s).slots in
      let all : Each Quiet ((row e s).caused ++ es) = each-append Quiet (row e s).caused es (row-quiet e s q) k.front in
      let n = quiet-says i e s q in
      record {
        front = quiet_front ((row e s).caused ++ es) all;
        written = after h.written (next i s (e ∷ es)) (says i e s).written (next i z ((row e s).caused ++ es)) vs h.piped (says i e s).piped
            (n.written ∙ sym (quiet_next i s (e ∷ es) (q, k.front))) (quiet_next i z ((row e s).caused ++ es) all) n.piped k.written;
        promised = after h.promised (next_promised i s (e ∷ es)) (says i e s).promised (next_promised i z ((row e s).caused ++ es)) ps h.piped_promised (says i e s).piped_promised
            (n.promised ∙ sym (quiet_promised i s (e ∷ es) (q, k.front))) (quiet_promised i z ((row e s).caused ++ es) all) n.piped_promised k.promised;
      }

  -- a write

  written_of : (b : Bool) (ws : List Value) → (if b then record no_writes { written = ws } else no_writes).written ≡ (if b then ws else [])
  written_of true ws = refl
  written_of false ws = refl

  promised_of : (b : Bool) (ws : List Value) (p : PromiseId) → (if b then promised_by ws p else []) ≡ promised_by (if b then ws else []) p
  promised_of true ws p = refl
  promised_of false ws p = refl

  write-row : (h : Said) (s : Slots) (j : StreamId) (v : Value) (p : PromiseId) (es : List Effect) → Told i vs ps h s (Writable j (Write v p) ∷ es)
      → let e : Effect = Writable j (Write v p) in Told i vs ps (said_then h (says i e s)) (row e s).slots ((row e s).caused ++ es)
  write-row h s j v p es k =
      let e : Effect = Writable j (Write v p) in
      let z : Slots = (row e s).slots in
      let ws : List Value = written_by v (writable_at j s) in
      let all : Each Quiet ((row e s).caused ++ es) = each-append Quiet (row e s).caused es (row-causes Quiet e s (quiet-causes e tt)) k.front in
      record {
        front = quiet_front ((row e s).caused ++ es) all;
        written = after h.written (next i s (e ∷ es)) (says i e s).written (next i z ((row e s).caused ++ es)) vs h.piped []
            (written_of (is_same i j) ws) (quiet_next i z ((row e s).caused ++ es) all) refl k.written;
        promised = after h.promised (next_promised i s (e ∷ es)) (says i e s).promised (next_promised i z ((row e s).caused ++ es)) ps h.piped_promised []
            (promised_of (is_same i j) ws p) (quiet_promised i z ((row e s).caused ++ es) all) refl k.promised;
      }

  -- a pipe writes the chunk that it holds

  abbrev Wrote : Said → Slots → List Value → Done → List Effect → Type 0
  Wrote h s ws d es = Told i vs ps (said_then h (record none_said { piped = ws; piped_promised = promised_by ws (next_id s.promises) })) d.slots (d.caused ++ es)

  -- nothing is caused
  still-wrote : (h : Said) (s z : Slots) (p : PipeId) (es : List Effect) → Told i vs ps h s (Pipe p WriteChunk ∷ es) → Wrote h s [] (causes [] z) es
  still-wrote h s z p es k = record {
    front = quiet_front es k.front;
    written = after h.written [] [] (next i z es) vs h.piped [] refl (quiet_next i z es k.front) refl k.written;
    promised = after h.promised [] [] (next_promised i z es) ps h.piped_promised [] refl (quiet_promised i z es k.front) refl k.promised;
  }

  abbrev lets_go : pipe.Slots → Slots → pipe.Acts
  lets_go x s = with_slots (record x { held = None; reading = false }) (record { slots = x; out = found s })

  phase-wrote : (h : Said) (s : Slots) (p : PipeId) (x : pipe.Slots) (v : Value) (phase : Phase) (es : List Effect) → Told i vs ps h s (Pipe p WriteChunk ∷ es)
      → Wrote h s (written_from i x.dest s phase (Some v)) (put_pipe p s (write_in p v (lets_go x s) phase)) es
  phase-wrote h s p x v Flowing es k = record {
    front = (tt, (tt, k.front));
    written = piping h.written vs h.piped _ k.written;
    promised = piping h.promised ps h.piped_promised _ k.promised;
  }
  phase-wrote h s p x v Waiting es k = record {
    front = (tt, (tt, k.front));
    written = piping h.written vs h.piped _ k.written;
    promised = piping h.promised ps h.piped_promised _ k.promised;
  }
  phase-wrote h s p x v Acting es k = still-wrote h s (put_pipe p s (lets_go x s)).slots p es k
  phase-wrote h s p x v Over es k = still-wrote h s (put_pipe p s (lets_go x s)).slots p es k

  held-wrote : (h : Said) (s : Slots) (p : PipeId) (x : pipe.Slots) (held : Option Value) (es : List Effect) → Told i vs ps h s (Pipe p WriteChunk ∷ es)
      → Wrote h s (written_from i x.dest s x.phase held) (put_pipe p s (write_held p (record { slots = x; out = found s }) held)) es
  held-wrote h s p x None es k = still-wrote h s (put_pipe p s (record { slots = x; out = found s })).slots p es k
  held-wrote h s p x (Some v) es k = phase-wrote h s p x v x.phase es k

  place-wrote : (h : Said) (s : Slots) (p : PipeId) (o : Option pipe.Slots) (es : List Effect) → Told i vs ps h s (Pipe p WriteChunk ∷ es)
      → Wrote h s (piped_to i s o) (on_pipe_at (λ ends. write_chunk p) p s o) es
  unfolding write_chunk
  place-wrote h s p None es k = still-wrote h s s p es k
  place-wrote h s p (Some x) es k = held-wrote h s p x x.held es k

  pipe-row : (h : Said) (s : Slots) (p : PipeId) (es : List Effect) → Told i vs ps h s (Pipe p WriteChunk ∷ es)
      → let e : Effect = Pipe p WriteChunk in Told i vs ps (said_then h (says i e s)) (row e s).slots ((row e s).caused ++ es)
  unfolding row
  pipe-row h s p es k = place-wrote h s p (slice_get s.pipes p.0) es k

  row-told : (h : Said) (s : Slots) (e : Effect) (es : List Effect) → Told i vs ps h s (e ∷ es) → Told i vs ps (said_then h (says i e s)) (row e s).slots ((row e s).caused ++ es)
  row-told h s (Writable j (Write v p)) es k = write-row h s j v p es k
  row-told h s (Pipe p WriteChunk) es k = pipe-row h s p es k
  row-told h s e es k = quiet-row h s e es tt k

  -- all that is said of a call or a job that begins so
  all-told : (d : Done) → Told i vs ps none_said d.slots d.caused
      → let h : Said = along none_said said_then (says i) (moments d) in (h.written ≡ vs ++ h.piped) × (h.promised ≡ ps ++ h.piped_promised)
  all-told d k =
      let h : Said = along none_said said_then (says i) (moments d) in
      let end : Told i vs ps h (performed d) [] = performed-goes none_said said_then is_history (says i) (Told i vs ps) row-told none_said d k in
      (sym (append-nil h.written) ∙ end.written, sym (append-nil h.promised) ∙ end.promised)

quiet-begins : (i : StreamId) (d : Done) → Each Quiet d.caused → Told i [] [] none_said d.slots d.caused
quiet-begins i d q = record { front = quiet_front d.caused q; written = quiet_next i d.slots d.caused q; promised = quiet_promised i d.slots d.caused q }

-- a call that writes

promised_is : (vs : List Value) (p : PromiseId) → promised_by vs p ≡ answered_by vs (Promise p)
promised_is [] p = refl
promised_is (v ∷ vs) p = refl

-- there is no such stream to write to
absent : (v : Value) (o : Option Stream) → is_writable_stream o ≡ false → written_by v (as_writable o) ≡ []
absent v None e = refl
absent v (Some (ReadableStream r)) e = refl
absent v (Some (ByteStream b)) e = refl
absent v (Some (WritableStream w)) e = cc

abbrev Begins : StreamId → List Value → Begun → Type 0
Begins i vs b = Told i vs (answered_by vs b.reply) none_said b.done.slots b.done.caused

none-begins : (i : StreamId) (vs : List Value) (b : Begun) → vs ≡ [] → Each Quiet b.done.caused → Begins i vs b
none-begins i vs b none q = rw none (quiet-begins i b.done q)

appended : (i j : StreamId) (v : Value) (s : Slots) → Begins i (if is_same i j then written_by v (writable_at j s) else []) (lock_calls.write v j s)
appended i j v s =
    let vs : List Value = if is_same i j then written_by v (writable_at j s) else [] in
    let p : PromiseId = next_id s.promises in
    record { front = tt; written = sym (append-nil vs); promised = promised_is vs p ∙ sym (append-nil (answered_by vs (Promise p))) }

write-begins : (i : StreamId) (v : Value) (s : Slots) (o : Option Lock) → Begins i (written_with i v s o) (by_writer (lock_calls.write v) replying.rejected s o)
write-begins i v s None = none-begins i [] (unsupported s) refl tt
write-begins i v s (Some (Reader stream closed)) = none-begins i [] (unsupported s) refl tt
write-begins i v s (Some (ByobReader stream closed)) = none-begins i [] (unsupported s) refl tt
write-begins i v s (Some (Writer j)) =
    let vs : List Value = if is_same i j then written_by v (writable_at j s) else [] in
    either (Begins i vs) (has_writable j s) (lock_calls.write v j s) (unsupported s)
    (λ there. appended i j v s)
    (λ none. none-begins i vs (unsupported s) (either (λ (ws : List Value). ws ≡ []) (is_same i j) (written_by v (writable_at j s)) [] (λ same. absent v (slice_get s.streams j.0) none) (λ other. refl)) tt)
write-begins i v s (Some (ReleasedWriter w)) = none-begins i [] (replying.rejected s) refl (tt, tt)
write-begins i v s (Some Inner) = none-begins i [] (unsupported s) refl tt

-- other calls, and jobs

abbrev writes_by : Call → Bool
writes_by (WriteCall l v) = true
writes_by _ = false

-- an effect that a call begins with
abbrev IsFirst : Call → Effect → Type 0
IsFirst c (Writable i (Write v p)) = writes_by c ≡ true
IsFirst c (Pipe p WriteChunk) = ⊥
IsFirst c _ = Unit {0}

begin-writes : (c : Call) (s : Slots) → Each (IsFirst c) (begin c s).done.caused
begin-writes c s = each_call (λ (b : Begun). Each (IsFirst c) b.done.caused) c s (grind arith)

other_quiet : (c : Call) → writes_by c ≡ false → (e : Effect) → IsFirst c e → Quiet e
other_quiet c other (Writable i (Write v p)) writes = false≢true (sym other ∙ writes)
other_quiet c other (Pipe p WriteChunk) none = none
other_quiet c other _ writes = tt

call-begins : (i : StreamId) (c : Call) (s : Slots) → Begins i (call_written i c s) (begin c s)
unfolding begin
call-begins i (WriteCall l v) s = write-begins i v s (lock_at l s)
call-begins i c s = quiet-begins i (begin c s).done (each-map (IsFirst c) Quiet (other_quiet c refl) (begin c s).done.caused (begin-writes c s))

steps_quiet : (step : Step) (o : Result Plain Plain) → Each Quiet (steps step o)
steps_quiet (ReadableStart i) o = (tt, tt)
steps_quiet (ReadablePull i) o = (tt, tt)
steps_quiet ReturnUndefined o = tt
steps_quiet (WritableStart i) o = (tt, tt)
steps_quiet (WritableWrite i) o = (tt, tt)
steps_quiet (WritableClose i) o = (tt, tt)
steps_quiet (WritableAbort i p) o = (tt, tt)
steps_quiet (PipeEnds p) o = (tt, tt)
steps_quiet (TeeEnds t) o = (tt, tt)
steps_quiet (PipeReady p) o = (tt, tt)
steps_quiet (PipeWrote p) o = (tt, tt)
steps_quiet (PipeActed p) o = (tt, tt)
steps_quiet (PipePart p) o = (tt, tt)
steps_quiet (TransformChanged t d) (Ok v) = (tt, tt)
steps_quiet (PortUnblocked c d) (Ok v) = (tt, tt)
steps_quiet (TransformChanged t d) (Err r) = (tt, tt)
steps_quiet (PortUnblocked c d) (Err r) = (tt, tt)
steps_quiet (Transformed t) (Ok v) = tt
steps_quiet (Transformed t) (Err r) = (tt, tt)
steps_quiet (TransformFlushed t p) o = (tt, tt)
steps_quiet (TransformAborted t p r) o = (tt, tt)
steps_quiet (TransformCancelled t p r) o = (tt, tt)

resolved_quiet : (derived : Option PromiseId) (o : Result Plain Plain) → Each Quiet (resolved derived o)
resolved_quiet None o = tt
resolved_quiet (Some p) o = (tt, tt)

-- a microtask may have a pipe write
job-begins : (i : StreamId) (z : Slots) (job : Job) → Told i [] [] none_said z (job_effects job)
job-begins i z (ReactionJob step o derived) =
    quiet-begins i (causes (job_effects (ReactionJob step o derived)) z) (each-append Quiet (steps step o) (resolved derived (returned step o)) (steps_quiet step o) (resolved_quiet derived (returned step o)))
job-begins i z (Follow p q) = record { front = tt; written = refl; promised = refl }
job-begins i z (SettleJob p o) = record { front = tt; written = refl; promised = refl }
job-begins i z (MicroJob (PipeLook p)) = record { front = tt; written = refl; promised = refl }
job-begins i z (MicroJob (PipeWrite p)) = record { front = tt; written = refl; promised = refl }
job-begins i z (MicroJob (PipeNoParts p)) = record { front = tt; written = refl; promised = refl }
job-begins i z (MicroJob (TeeHand t)) = record { front = tt; written = refl; promised = refl }

begun-begins : (i : StreamId) (s : Slots) (job : Option Job) → Told i [] [] none_said (job_begun s job).slots (job_begun s job).caused
begun-begins i s None = record { front = tt; written = refl; promised = refl }
begun-begins i s (Some job) = job-begins i _ job

-- steps and runs

abbrev Says : StreamId → Slots → Entry → Said → Type 0
Says i s x h = (h.written ≡ written_in_step i s x ++ h.piped) × (h.promised ≡ answered_in_step i s x ++ h.piped_promised)

entry-says : (i : StreamId) (x : Entry) (s : Slots) → Says i s x (along none_said said_then (says i) (moments_in s x))
unfolding begin_job
entry-says i (Called c) s = all-told i (call_written i c s) (answered_by (call_written i c s) (begin c s).reply) (begin c s).done (call-begins i c s)
entry-says i Worked s = all-told i [] [] (begin_job s) (begun-begins i s (next_job s.promises))
entry-says i Heard s = all-told i [] [] (causes [] s) (quiet-begins i (causes [] s) tt)

entry-answered : (i : StreamId) (x : Entry) (s : Slots)
    → ((step_writes i s x).written ≡ written_in_step i s x ++ step_piped i s x) × (step_promised i s x ≡ answered_in_step i s x ++ step_piped_promised i s x)
entry-answered i x s = rw (along-parts i (moments_in s x)) at (entry-says i x s)

run-answered : (i : StreamId) (xs : List Entry) (s : Slots) → ((run_writes i xs s).written ≡ written_in_run i xs s) × (run_promised i xs s ≡ answered_in_run i xs s)
run-answered i [] s = (refl, refl)
run-answered i (x ∷ xs) s = let a = entry-answered i x s in let b = run-answered i xs (step s x) in (rw (a.0, b.0) refl, rw (a.1, b.1) refl)

pub writes_were_answered : WritesWereAnswered
writes_were_answered entries i = run-answered i entries empty
