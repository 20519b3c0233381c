-- A write that is performed at once, since none is in flight and none waits.
use Rattle.std.proofs.Common.{◌≡◌, Bool, true, false, ◌&&◌, ◌==◌, not, ◌||◌, if◌then◌else◌, List, [], ◌∷◌, ◌++◌, length, Option, Some, None, is_none, refl, ap, sym, ◌∙◌, arith}
use Rattle.ws_value.specs.declared.ids.PromiseId.{PromiseId}
use Rattle.ws_value.specs.declared.ids.StreamId.{StreamId}
use Rattle.ws_value.specs.declared.value.Value.{Value}
use Rattle.ws_steps.specs.declared.effects.Effect.TheVariants.{WriteAlgorithm}
use Rattle.ws_steps.specs.declared.queue.Queued.{Queued}
use Rattle.ws_value.specs.declared.value.Plain.{Plain}
use Rattle.ws_steps.specs.Effects.{type_error}
use Rattle.ws_steps.specs.declared.writable.WritableState.{WritableState}
use Rattle.ws_steps.specs.declared.writable.WritableState.TheVariants.{Writable, Erroring, Errored, Closed}
use Rattle.ws_steps.specs.declared.writable.WriteRecord.{WriteRecord}
use Rattle.ws_steps.specs.declared.writable.WriteRecord.TheVariants.{Chunk}
use Rattle.ws_steps.specs.declared.writable.Writer.{Writer}
use Rattle.ws_steps.specs.Queues.{first_value, is_empty}
use Rattle.ws_steps.specs.Writable.{Acts, Slots, add_write_request, advance_queue, causing, change_ready, controller_write, differs, enqueue_chunk, finish_erroring, has_backpressure, is_closed, is_closing, is_errored, is_erroring, is_writable, process_first, process_write, ready_for, refresh_backpressure, update_backpressure, write_refusal, with_backpressure}
use Rattle.ws_writable.specs.Seen.{is_free}

-- other writes are in flight and wait

abbrev apart : Option PromiseId → List PromiseId → Acts → Acts
apart f r a = record a { slots = record a.slots { write_in_flight = f; write_requests = r } }

test-apart : (f : Option PromiseId) (r : List PromiseId) (b : Bool) (a : Acts) (w : Writer) (t : Bool)
    → with_backpressure b (if t then change_ready w (apart f r a) b else apart f r a) ≡ apart f r (with_backpressure b (if t then change_ready w a b else a))
test-apart f r b a w false = refl
test-apart f r true a w true = refl
test-apart f r false a w true = refl

ready-apart : (f : Option PromiseId) (r : List PromiseId) (b : Bool) (a : Acts) (w : Option Writer)
    → with_backpressure b (ready_for b (apart f r a) w) ≡ apart f r (with_backpressure b (ready_for b a w))
ready-apart f r b a None = refl
ready-apart f r b a (Some w) = test-apart f r b a w (differs b a.slots.backpressure)

where-apart : (f : Option PromiseId) (r : List PromiseId) (b : Bool) (a : Acts) (t : Bool)
    → (if t then with_backpressure b (ready_for b (apart f r a) a.slots.writer) else apart f r a) ≡ apart f r (if t then with_backpressure b (ready_for b a a.slots.writer) else a)
where-apart f r b a false = refl
where-apart f r b a true = ready-apart f r b a a.slots.writer

refresh-apart : (f : Option PromiseId) (r : List PromiseId) (a : Acts) → refresh_backpressure (apart f r a) ≡ apart f r (refresh_backpressure a)
unfolding refresh_backpressure update_backpressure
refresh-apart f r a = where-apart f r (has_backpressure a.slots) a (not (is_closing a.slots) && is_writable a.slots.state)

-- what the backpressure leaves as it is

record Keeps (a b : Acts) : Type 0 where
  started : b.slots.started ≡ a.slots.started
  state : b.slots.state ≡ a.slots.state
  queue : b.slots.queue ≡ a.slots.queue
  requests : b.slots.write_requests ≡ a.slots.write_requests

test-keeps : (b : Bool) (a : Acts) (w : Writer) (t : Bool) → Keeps a (with_backpressure b (if t then change_ready w a b else a))
test-keeps b a w false = record { started = refl; state = refl; queue = refl; requests = refl }
test-keeps true a w true = record { started = refl; state = refl; queue = refl; requests = refl }
test-keeps false a w true = record { started = refl; state = refl; queue = refl; requests = refl }

ready-keeps : (b : Bool) (a : Acts) (w : Option Writer) → Keeps a (with_backpressure b (ready_for b a w))
ready-keeps b a None = record { started = refl; state = refl; queue = refl; requests = refl }
ready-keeps b a (Some w) = test-keeps b a w (differs b a.slots.backpressure)

where-keeps : (b : Bool) (a : Acts) (t : Bool) → Keeps a (if t then with_backpressure b (ready_for b a a.slots.writer) else a)
where-keeps b a false = record { started = refl; state = refl; queue = refl; requests = refl }
where-keeps b a true = ready-keeps b a a.slots.writer

refresh-keeps : (a : Acts) → Keeps a (refresh_backpressure a)
unfolding refresh_backpressure update_backpressure
refresh-keeps a = where-keeps (has_backpressure a.slots) a (not (is_closing a.slots) && is_writable a.slots.state)

-- the one write that waits is performed

chosen : (me : StreamId) (p : PromiseId) (v : Value) (a : Acts) (t e : Bool) (q : Option WriteRecord) → t ≡ true → e ≡ false → q ≡ Some (Chunk v)
    → (if t && true then (if e then finish_erroring me (apart None (p ∷ []) a) else process_first me (apart None (p ∷ []) a) q) else apart None (p ∷ []) a) ≡ causing (WriteAlgorithm me) (apart (Some p) [] a)
unfolding process_write
chosen me p v a t e q going steady there = rw (going, steady, there) refl

advances : (me : StreamId) (p : PromiseId) (v : Value) (a : Acts) → a.slots.started ≡ true → is_erroring a.slots.state ≡ false → first_value a.slots.queue ≡ Some (Chunk v)
    → advance_queue me (apart None (p ∷ []) a) ≡ causing (WriteAlgorithm me) (apart (Some p) [] a)
unfolding advance_queue
advances me p v a going steady there = chosen me p v a a.slots.started (is_erroring a.slots.state) (first_value a.slots.queue) going steady there

alone : (p : PromiseId) (a : Acts) (f : Option PromiseId) (r : List PromiseId) → f ≡ None → r ≡ [] → apart f (r ++ p ∷ []) a ≡ apart None (p ∷ []) a
alone p a f r flight requests = rw (flight, requests) refl

-- a stream that refuses no write isn't erroring

steady-where : (w : WritableState) (closing : Bool) (e : Plain) → (if is_errored w then Some e else if closing || is_closed w then Some type_error else if is_erroring w then Some e else None) ≡ None
    → is_erroring w ≡ false
steady-where Writable closing e h = refl
steady-where Erroring true e h = cc
steady-where Erroring false e h = cc
steady-where Errored closing e h = refl
steady-where Closed closing e h = refl

pub steady : (s : Slots) → write_refusal s ≡ None → is_erroring s.state ≡ false
steady s h = steady-where s.state (is_closing s) s.stored_error h

-- none is in flight and none waits

record Free (s : Slots) : Type 0 where
  started : s.started ≡ true
  flight : s.write_in_flight ≡ None
  requests : s.write_requests ≡ []
  queue : s.queue ≡ []

parts : (t : Bool) (f : Option PromiseId) (r : List PromiseId) (q : List (Queued WriteRecord)) → (t && (is_none f && ((length r == 0) && is_empty q))) ≡ true
    → (t ≡ true) × (f ≡ None) × (r ≡ []) × (q ≡ [])
parts false f r q h = cc
parts true (Some p) r q h = cc
parts true None (p ∷ r) q h = grind arith
parts true None [] (x ∷ q) h = cc
parts true None [] [] h = (refl, refl, refl, refl)

free : (s : Slots) → is_free s ≡ true → Free s
free s h =
    let e = parts s.started s.write_in_flight s.write_requests s.queue h in
    record { started = e.0; flight = e.1; requests = e.2; queue = e.3 }

pub at-once : (me : StreamId) (v : Value) (p : PromiseId) (a : Acts) → is_free a.slots ≡ true → is_erroring a.slots.state ≡ false
    → controller_write me v (add_write_request p a)
    ≡ causing (WriteAlgorithm me)
    (record (refresh_backpressure (enqueue_chunk v a)) { slots = record (refresh_backpressure (enqueue_chunk v a)).slots { write_in_flight = Some p } })
unfolding controller_write
at-once me v p a h steady =
    let is = free a.slots h in
    let e = enqueue_chunk v a in
    let after = refresh_backpressure e in
    let kept = refresh-keeps e in
    let before = alone p e a.slots.write_in_flight a.slots.write_requests is.flight is.requests in
    let there : first_value after.slots.queue ≡ Some (Chunk v) = rw (kept.queue, is.queue) refl in
    ap (λ (x : Acts). advance_queue me (refresh_backpressure x)) before
    ∙ (ap (advance_queue me) (refresh-apart None (p ∷ []) e)
    ∙ (advances me p v after (kept.started ∙ is.started) (ap is_erroring kept.state ∙ steady) there
    ∙ ap (λ (r : List PromiseId). causing (WriteAlgorithm me) (apart (Some p) r after)) (sym (kept.requests ∙ is.requests))))
