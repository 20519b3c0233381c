-- What is known of locks, promises and writable streams at each moment of a run.
use Rattle.std.proofs.Common.{◌≡◌, ℕ, zero, suc, ◌+◌, ◌≤◌, Bool, true, false, nat_eq, is_some, List, [], ◌∷◌, ◌++◌, length, Option, Some, Result, slice_get, map, refl, sym, ap, subst, ◌∙◌, arith}
use Rattle.ws_value.specs.declared.ids.PromiseId.{PromiseId}
use Rattle.ws_value.specs.declared.ids.StreamId.{StreamId}
use Rattle.ws_value.specs.declared.value.Plain.{Plain}
use Rattle.ws_steps.specs.declared.calls.Call.{Call}
use Rattle.ws_steps.specs.declared.effects.Effect.{Effect}
use Rattle.ws_steps.specs.declared.effects.Effect.TheVariants.{Readable, Byte, Writable, Pipe}
use Rattle.ws_steps.specs.declared.pipes.PipeOperation.TheVariants as pipe_names
use Rattle.ws_steps.specs.declared.promises.Job.{Job}
use Rattle.ws_steps.specs.declared.writable.WritableOperation.{WritableOperation}
use Rattle.ws_steps.specs.declared.writable.WritableOperation.TheVariants as names
use Rattle.ws_steps.specs.MakingCalls.{add_stream}
use Rattle.ws_steps.specs.Calls.{begin}
use Rattle.ws_steps.specs.Histories.{is_same}
use Rattle.ws_steps.specs.Jobs.{job_effects}
use Rattle.ws_steps.specs.Operations.{byte_operation, writable_operation}
use Rattle.ws_steps.specs.Promises.{next_job, after_next_job, watch}
use Rattle.ws_steps.specs.Run.{older, after_event}
use Rattle.ws_steps.specs.Slots.{Slots, Stream, ReadableStream, ByteStream, WritableStream, Done, nothing, empty, is_writable_stream, as_writable, has_writable, writable_at, on_writable, put_writable, with_promises}
use Rattle.ws_steps.specs.Turns.{row}
use Rattle.ws_steps.specs.Writable as writable
use Rattle.ws_steps.specs.Writable.{is_closed, has_ended}
use Rattle.ws_steps.specs.WritableHistory.{Writes as History, no_writes, writes_then, effect_writes}
use Rattle.ws_laws.proofs.Begin.{begin-makes}
use Rattle.ws_laws.proofs.Apart.{row-streams}
use Rattle.ws_laws.proofs.Shapes.{StreamShape, WritableOf, stream_shape, row-stream_shapes}
use Rattle.ws_laws.proofs.Tables.{either, same_id, writable_acts, on_source-writable, on_byte-writable, on_writable-same, on_writable-other, place_last, place_before, eq_numbers, unequal_numbers}
use Rattle.ws_laws.proofs.Truth.{or_right}
use Rattle.ws_pipe_laws.proofs.locks.Runs.{Locked, locked-stays, run-locked}
use Rattle.ws_promise_laws.proofs.Acting.{EachWaits, waits-heard, waits-expects}
use Rattle.ws_promise_laws.proofs.Begins.{begin-sound, job-sound}
use Rattle.ws_promise_laws.proofs.Reacting.{holds-watch, holds-told}
use Rattle.ws_promise_laws.proofs.Realm.{Sound, sound-less, firm_in, loosely_in}
use Rattle.ws_promise_laws.proofs.Rows.{Expected, row-sound, sound-promises}
use Rattle.ws_promise_laws.proofs.Runs.{run-sound}
use Rattle.ws_promise_laws.proofs.Tokens.{of_effect, in_effects, in_effects-append}
use Rattle.ws_writable_laws.proofs.Agenda.{Kept, found}
use Rattle.ws_writable_laws.proofs.Expects.{write-expects, start-expects, write_settled-expects, close_settled-expects, abort_settled-expects}
use Rattle.ws_writable_laws.proofs.Operations.{same_once}
use Rattle.ws_writable_laws.proofs.Runs.{goes, rests, none_made}
use Rattle.ws_writable_laws.proofs.Shape.{one_if}
use Rattle.ws_reason_laws.proofs.Closings.{Rested, Flies, operation-rested}
use Rattle.ws_reason_laws.proofs.Weights.{has_error}
use Rattle.ws_reason_laws.proofs.Writables as sinks

pub record Moment (s : Slots) (es : List Effect) : Type 0 where
  pub locked : Locked s es
  pub written : (i : StreamId) → (h : History) × Kept i h s es
  pub sound : Sound (λ x. in_effects x es) s
  pub rested : (i : StreamId) → has_writable i s ≡ true → Rested i (writable_at i s)

-- what is known tells what an effect expects

expected : (s : Slots) (e : Effect) (es : List Effect) → EachWaits s (e ∷ es) → ((i : StreamId) → (h : History) × Kept i h s (e ∷ es)) → Expected e s
expected s (Writable i (names.Write v p)) es w k = write-expects i (k i).0 es s v p (k i).1
expected s (Writable i (names.StartSettled o)) es w k = start-expects i (k i).0 es s o (k i).1
expected s (Writable i (names.WriteSettled o)) es w k = write_settled-expects i (k i).0 es s o (k i).1
expected s (Writable i (names.CloseSettled o)) es w k = close_settled-expects i (k i).0 es s o (k i).1
expected s (Writable i (names.AbortSettled p o)) es w k = abort_settled-expects i (k i).0 es s p o (k i).1
expected s (Writable i (names.SetUpWriter v)) es w k = tt
expected s (Writable i names.ReleaseWriter) es w k = tt
expected s (Writable i (names.Abort r p)) es w k = tt
expected s (Writable i (names.ErrorIfNeeded r)) es w k = tt
expected s (Writable i (names.HandOn taker)) es w k = tt
expected s (Writable i (names.Close p)) es w k = tt
expected s (Writable i (names.ClosePropagating p)) es w k = tt
expected s (Writable i (names.AbortIfWritable r p)) es w k = tt
expected s (Pipe p (pipe_names.ActionSettled o)) es w k = waits-expects p o s es (w p)
expected s (Pipe p pipe_names.Look) es w k = tt
expected s (Pipe p pipe_names.LookReady) es w k = tt
expected s (Pipe p (pipe_names.KeepChunk v)) es w k = tt
expected s (Pipe p pipe_names.ReadEnded) es w k = tt
expected s (Pipe p pipe_names.WriteChunk) es w k = tt
expected s (Pipe p pipe_names.GoOn) es w k = tt
expected s (Pipe p pipe_names.WriteEnded) es w k = tt
expected s (Pipe p (pipe_names.Abort r)) es w k = tt
expected s (Pipe p (pipe_names.PartSettled o)) es w k = tt
expected s (Pipe p pipe_names.NoParts) es w k = tt
expected s _ es w k = tt

-- a close ends only where it is in flight

flies : (i : StreamId) (operation : WritableOperation) (h : History) (es : List Effect) (s : Slots) → Kept i h s (Writable i operation ∷ es) → Flies i operation (writable_at i s)
flies i (names.CloseSettled o) h es s k =
    let w : writable.Slots = writable_at i s in
    let f = found i (names.CloseSettled o) h es s (λ u. u) k in
    let c = close_settled-expects i h es s o k in
    (f.shape.started (or_right (is_some w.write_in_flight) (is_some w.close_in_flight) c), (alone (is_some w.close_request) (is_some w.close_in_flight) f.owed.once c, c))
  where
    alone : (a b : Bool) → one_if a + one_if b ≤ 1 → b ≡ true → a ≡ false
    alone a b l e = grind (arith, l, e)
flies i (names.SetUpWriter v) h es s k = tt
flies i names.ReleaseWriter h es s k = tt
flies i (names.Write v p) h es s k = tt
flies i (names.Close p) h es s k = tt
flies i (names.ClosePropagating p) h es s k = tt
flies i (names.Abort r p) h es s k = tt
flies i (names.AbortIfWritable r p) h es s k = tt
flies i (names.ErrorIfNeeded r) h es s k = tt
flies i (names.HandOn taker) h es s k = tt
flies i (names.StartSettled o) h es s k = tt
flies i (names.WriteSettled o) h es s k = tt
flies i (names.AbortSettled p o) h es s k = tt

pub moment-flies : (i : StreamId) (operation : WritableOperation) (s : Slots) (es : List Effect) → Moment s (Writable i operation ∷ es) → Flies i operation (writable_at i s)
moment-flies i operation s es m = flies i operation (m.written i).0 es s (m.written i).1

-- no rejection comes to a stream that is closed

not_closed : (x : writable.Slots) → has_ended x.state ≡ false → is_closed x.state ≡ false
not_closed x e = grind (arith, e)

module _ (i : StreamId) (s : Slots) (es : List Effect) where
  abbrev w : writable.Slots
  w = writable_at i s

  start-fits : (o : Result Plain Plain) → Moment s (Writable i (names.StartSettled o) ∷ es) → has_writable i s ≡ true → is_closed w.state ≡ false
  start-fits o m there = by (is_closed w.state) refl
    where
      k : Kept i (m.written i).0 s (Writable i (names.StartSettled o) ∷ es)
      k = (m.written i).1

      fresh : w.started ≡ false
      fresh = let f = found i (names.StartSettled o) (m.written i).0 es s (λ u. u) k in let one = same_once i in let l = f.owed.starts in grind (arith, one, l)

      by : (b : Bool) → is_closed w.state ≡ b → is_closed w.state ≡ false
      by false e = e
      by true e = let a = (m.rested i there).started e in let b = fresh in cc

  write-fits : (o : Result Plain Plain) → Moment s (Writable i (names.WriteSettled o) ∷ es) → is_closed w.state ≡ false
  write-fits o m =
      let f = found i (names.WriteSettled o) (m.written i).0 es s (λ u. u) (m.written i).1 in
      let one = same_once i in
      let l = f.owed.writes in
      let writing : is_some w.write_in_flight ≡ true = grind (arith, one, l) in
      let a = f.shape.still in
      let told = f.told in
      by (is_closed w.state) refl (λ e. let b = told.closed e in grind (arith, a, b, writing))
    where
      by : (b : Bool) → is_closed w.state ≡ b → (is_closed w.state ≡ true → is_closed w.state ≡ false) → is_closed w.state ≡ false
      by false e g = e
      by true e g = g e

  close-fits : (o : Result Plain Plain) → Moment s (Writable i (names.CloseSettled o) ∷ es) → is_closed w.state ≡ false
  close-fits o m = not_closed w (by (has_ended w.state) refl)
    where
      by : (b : Bool) → has_ended w.state ≡ b → has_ended w.state ≡ false
      by false e = e
      by true e = let a = m.sound.calm i e in let c = close_settled-expects i (m.written i).0 es s o (m.written i).1 in cc

  abort-fits : (p : PromiseId) (o : Result Plain Plain) → Moment s (Writable i (names.AbortSettled p o) ∷ es) → has_writable i s ≡ true → is_some w.close_request ≡ true → has_error w.state ≡ true
  abort-fits p o m there e =
      let ended = abort_settled-expects i (m.written i).0 es s p o (m.written i).1 in
      by (is_closed w.state) refl ended
    where
      errored : is_closed w.state ≡ false → has_ended w.state ≡ true → has_error w.state ≡ true
      errored f g = grind (arith, f, g)

      by : (b : Bool) → is_closed w.state ≡ b → has_ended w.state ≡ true → has_error w.state ≡ true
      by false f g = errored f g
      by true f g = let a = (m.rested i there).requested f in cc

pub moment-fits : (i : StreamId) (operation : WritableOperation) (s : Slots) (es : List Effect) → Moment s (Writable i operation ∷ es) → has_writable i s ≡ true → sinks.Expects operation (writable_at i s)
moment-fits i (names.StartSettled o) s es m there = start-fits i s es o m there
moment-fits i (names.WriteSettled o) s es m there = write-fits i s es o m
moment-fits i (names.CloseSettled o) s es m there = close-fits i s es o m
moment-fits i (names.AbortSettled p o) s es m there = abort-fits i s es p o m there
moment-fits i (names.SetUpWriter v) s es m there = tt
moment-fits i names.ReleaseWriter s es m there = tt
moment-fits i (names.Write v p) s es m there = tt
moment-fits i (names.Close p) s es m there = tt
moment-fits i (names.ClosePropagating p) s es m there = tt
moment-fits i (names.Abort r p) s es m there = tt
moment-fits i (names.AbortIfWritable r p) s es m there = tt
moment-fits i (names.ErrorIfNeeded r) s es m there = tt
moment-fits i (names.HandOn taker) s es m there = tt

-- each effect keeps it

abbrev EachRested : Slots → Type 0
EachRested s = (i : StreamId) → has_writable i s ≡ true → Rested i (writable_at i s)

-- a stream that is writable stays so
abbrev writable_shape : Option StreamShape → Bool
writable_shape (Some (WritableOf o)) = true
writable_shape _ = false

writable-told : (xs : List Stream) (n : ℕ) → is_writable_stream (slice_get xs n) ≡ writable_shape (slice_get (map stream_shape xs) n)
writable-told [] n = refl
writable-told (ReadableStream r ∷ xs) zero = refl
writable-told (ByteStream b ∷ xs) zero = refl
writable-told (WritableStream w ∷ xs) zero = refl
writable-told (x ∷ xs) (suc n) = writable-told xs n

row-there : (i : StreamId) (e : Effect) (s : Slots) → has_writable i (row e s).slots ≡ has_writable i s
row-there i e s =
    writable-told (row e s).slots.streams i.0 ∙ (ap (λ (ys : List StreamShape). writable_shape (slice_get ys i.0)) (row-stream_shapes e s) ∙ sym (writable-told s.streams i.0))

-- the place of a stream is the same
same-rested : (i : StreamId) (s z : Slots) → slice_get z.streams i.0 ≡ slice_get s.streams i.0 → (has_writable i s ≡ true → Rested i (writable_at i s)) → has_writable i z ≡ true → Rested i (writable_at i z)
same-rested i s z e r there =
    subst (λ (o : Option Stream). Rested i (as_writable o)) (sym e) (r (subst (λ (o : Option Stream). is_writable_stream o ≡ true) e there))

writable-rested : (i j : StreamId) (operation : WritableOperation) (s : Slots) (same : Bool) → same ≡ is_same i j → Flies j operation (writable_at j s) → EachRested s
    → has_writable i (on_writable (writable_operation j operation) j s).slots ≡ true → Rested i (writable_at i (on_writable (writable_operation j operation) j s).slots)
writable-rested i j operation s false e f r = λ there.
    same-rested i s (on_writable (writable_operation j operation) j s).slots (on_writable-other (writable_operation j operation) j s i (sym e)) (r i) there
writable-rested i j operation s true e f r =
    either (λ (d : Done). has_writable i d.slots ≡ true → Rested i (writable_at i d.slots)) (has_writable j s) (put_writable j s (writable_operation j operation (writable_acts j s))) (nothing s)
    (λ h there.
    let is : i ≡ j = same_id i j (sym e) in
    let z : slice_get (put_writable j s (writable_operation j operation (writable_acts j s))).slots.streams j.0 ≡ Some (WritableStream (writable_operation j operation (writable_acts j s)).slots) =
    rw h at (on_writable-same (writable_operation j operation) j s h) in
    let k : Rested j (writable_operation j operation (writable_acts j s)).slots = operation-rested j operation (writable_acts j s) f (r j h) in
    subst (λ (l : StreamId). Rested l (writable_at l (put_writable j s (writable_operation j operation (writable_acts j s))).slots)) (sym is)
    (subst (λ (o : Option Stream). Rested j (as_writable o)) (sym z) k))
    (λ h. r i)

rested-row : (s : Slots) (e : Effect) (es : List Effect) → Moment s (e ∷ es) → EachRested (row e s).slots
unfolding row
rested-row s (Readable j operation) es m i there = rw (on_source-writable operation j s i) (m.rested i (sym (row-there i (Readable j operation) s) ∙ there))
rested-row s (Byte j operation) es m i there = rw (on_byte-writable (byte_operation j operation) j s i) (m.rested i (sym (row-there i (Byte j operation) s) ∙ there))
rested-row s (Writable j operation) es m i there = writable-rested i j operation s (is_same i j) refl (moment-flies j operation s es m) m.rested there
rested-row s e es m i there = same-rested i s (row e s).slots (ap (λ (xs : List Stream). slice_get xs i.0) (row-streams e s tt)) (m.rested i) there

pub moment-row : (s : Slots) (e : Effect) (es : List Effect) → Moment s (e ∷ es) → Moment (row e s).slots ((row e s).caused ++ es)
moment-row s e es m = record {
  locked = locked-stays.row s e es m.locked;
  written = λ i. (writes_then (m.written i).0 (effect_writes i e s), (goes i).row (m.written i).0 s e es (m.written i).1);
  sound =
      sound-less (λ x. in_effects x es + in_effects x (row e s).caused) (λ x. in_effects x ((row e s).caused ++ es)) (row e s).slots
      (λ x. let n = in_effects-append x (row e s).caused es in omega arith)
      (row-sound (λ x. in_effects x es) e s (expected s e es m.locked.waits m.written)
      (sound-less (λ x. of_effect x e + in_effects x es) (λ x. in_effects x es + of_effect x e) s (λ x. omega arith) m.sound));
  rested = rested-row s e es m;
}

-- and so do calls

added-rested : (s : Slots) (y : Stream) → ((i : StreamId) → is_writable_stream (Some y) ≡ true → Rested i (as_writable (Some y))) → EachRested s → EachRested (add_stream y s)
added-rested s y new r i = by (nat_eq i.0 (length s.streams)) refl
  where
    by : (b : Bool) → nat_eq i.0 (length s.streams) ≡ b → has_writable i (add_stream y s) ≡ true → Rested i (writable_at i (add_stream y s))
    by false e there = same-rested i s (add_stream y s) (place_before s.streams y i.0 (unequal_numbers i.0 (length s.streams) e)) (r i) there
    by true e there =
        let at_end : slice_get (s.streams ++ y ∷ []) i.0 ≡ Some y = rw (eq_numbers i.0 (length s.streams) e) (place_last s.streams y) in
        subst (λ (o : Option Stream). Rested i (as_writable o)) (sym at_end) (new i (subst (λ (o : Option Stream). is_writable_stream o ≡ true) at_end there))

begin-rested : (c : Call) (s : Slots) → EachRested s → EachRested (begin c s).done.slots
begin-rested c s r =
    begin-makes EachRested (record {
      promise = λ z k. k;
      locks = λ z ls k. k;
      hosts = λ z hs k. k;
      pipe = λ z source dest prevent signal promise k. k;
      signal = λ z k. k;
      transform = λ z kind i j change k. k;
      tee = λ z source first second cancel k. k;
      port = λ z side stream backpressure k. k;
      bytes = λ z mark auto k. added-rested z _ (λ i e. cc) k;
      byob_requests = λ z hs k. k;
      readable = λ z owner mark size k. added-rested z _ (λ i e. cc) k;
      writable = λ z owner mark size k. added-rested z _ (λ i e. record { requested = λ f. cc; started = λ f. cc }) k;
    }) c s r

pub moment-call : (s : Slots) (c : Call) → Moment s [] → Moment (begin c s).done.slots (begin c s).done.caused
moment-call s c m = record {
  locked = locked-stays.call s c m.locked;
  written = λ i. ((m.written i).0, (goes i).call (m.written i).0 s c (m.written i).1);
  sound = begin-sound c s m.sound;
  rested = begin-rested c s m.rested;
}

pub moment-job : (s : Slots) (job : Job) → next_job s.promises ≡ Some job → Moment s [] → Moment (with_promises (after_next_job s.promises) s) (job_effects job)
moment-job s job e m = record {
  locked = locked-stays.job s job e m.locked;
  written = λ i. ((m.written i).0, (goes i).job (m.written i).0 s job e (m.written i).1);
  sound = job-sound s job e m.sound;
  rested = m.rested;
}

-- what comes between effects

pub moment-watch : (s : Slots) (p : PromiseId) → Moment s [] → Moment (with_promises (watch p s.promises) s) []
moment-watch s p m = record {
  locked = locked-stays.answered s p m.locked;
  written = λ i. ((m.written i).0, (goes i).answered (m.written i).0 s p (m.written i).1);
  sound = sound-promises (λ x. 0) (λ x. 0) s (watch p s.promises) (λ h l. holds-watch (λ x. 0 + h x) (loosely_in s) p s.promises l) m.sound;
  rested = m.rested;
}

pub moment-older : (s : Slots) → Moment s [] → Moment (older s) []
moment-older s m = record {
  locked = locked-stays.older s m.locked;
  written = λ i. ((m.written i).0, (goes i).older (m.written i).0 s (m.written i).1);
  sound = record { holds = m.sound.holds; calm = m.sound.calm };
  rested = m.rested;
}

pub moment-heard : (s : Slots) → Moment s [] → Moment (after_event s) []
moment-heard s m = record {
  locked = record { first = tt; each = λ d i. let b = m.locked.each d i in record { even = b.even; few = b.few }; waits = waits-heard s m.locked.waits; told = tt };
  written = λ i. ((m.written i).0, (rests i).heard (m.written i).0 s (m.written i).1);
  sound = record { holds = holds-told (λ x. 0 + firm_in x s) (loosely_in s) _ s.promises m.sound.holds; calm = m.sound.calm };
  rested = m.rested;
}

pub moment-empty : Moment empty []
moment-empty = record { locked = run-locked []; written = λ i. (no_writes, none_made i); sound = run-sound []; rested = λ i e. cc }
