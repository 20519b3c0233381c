-- The steps that an operation of a byte stream causes suit what the stream has become: chunk steps have bytes, a request is ended only where the
-- stream has closed, and refused only with the error that it has stored. A stream that isn't readable keeps its state and its error, and no read of
-- a default reader waits at it.
use Rattle.std.proofs.Common.{◌≡◌, ◌≢◌, ℕ, zero, suc, Bool, true, false, not, ◌&&◌, ◌-◌, ◌%◌, if◌then◌else◌, List, [], ◌∷◌, ◌++◌, length, take, drop, Option, Some, None, Ok, Err, nat_lt, is_some, refl, sym, ap, ◌∙◌}
use Rattle.std.specs.Prelude.{is_none}
use Rattle.ws_value.specs.declared.{ids.PromiseId.{PromiseId}, ids.StreamId.{StreamId}, value.Plain.{Plain}}
use Rattle.ws_value.specs.declared.value.Value.TheVariants.{Plain as PlainValue, Bytes}
use Rattle.ws_steps.specs.declared.byte.{ReaderKind.{ReaderKind}, ByteOperation.{ByteOperation}}
use Rattle.ws_steps.specs.declared.byte.ReaderKind.TheVariants.{Default, Byob}
use Rattle.ws_steps.specs.declared.byte.RoomKind.TheVariants.{ForByob}
use Rattle.ws_steps.specs.declared.byte.ByteOperation.TheVariants as own
use Rattle.ws_steps.specs.declared.effects.Effect.{Effect}
use Rattle.ws_steps.specs.declared.effects.Effect.TheVariants.{PullAlgorithm, CancelAlgorithm, ChunkSteps, CloseSteps, CloseStepsWith, ErrorSteps}
use Rattle.ws_steps.specs.declared.readable.{ReadRequest.{ReadRequest}, ReadableOperation.{ReadableOperation}, ReadableState.{ReadableState}, ReadableState.TheVariants.{Readable, Closed, Errored}}
use Rattle.ws_steps.specs.declared.readable.ReadableOperation.TheVariants as names
use Rattle.ws_steps.specs.Bytes.{Acts, Slots, with_slots, with_requests, causing, in_stream, has_default_reader, has_byob_reader, is_byob, can_take, should_call_pull, call_pull_if_needed, close_keeping, close_stream_keeping, stream_close, invalidate_request, clear_all, controller_error, handle_queue_drain, append, wait, add_descriptor, auto_allocate, pull_from, pull_steps, read_by, default_reader_read, close_by, controller_close, commit_steps, commit_to, commit, commit_all, put_processed, processed_of, process_and_commit, detach_first, detached_to_queue, renounce, process_requests, fill_read_request, drop_first, accept_for, accept_default, accept, controller_enqueue, pull_waits, put_queue, pull_filled, pull_from_queue, is_closed, is_errored, pull_first, pull_into, byob_reader_read, commit_first, respond_closed, put_first, respond_full, respond_readable, respond_first, respond_internal, respond, start_settled, pull_ended, pull_settled, close_into, cancel_by, stream_cancel, cancel_if_readable, if_meant, reader_initialize, may_read, may_pull_into, is_least, may_respond, is_of_tee, read, read_into}
use Rattle.ws_steps.specs.Descriptors.{Descriptor, is_for_nobody, Filling, fill_from_queue, Processed, has_part}
use Rattle.ws_steps.specs.Effects.{type_error}
use Rattle.ws_steps.specs.Operations.{byte_readable_operation, byte_operation}
use Rattle.ws_steps.specs.Queues.{is_empty}
use Rattle.ws_steps.specs.Readable as readable
use Rattle.ws_laws.proofs.Lists.{Each, each-append}
use Rattle.ws_laws.proofs.Tables.{either}

-- steps of a request of stream `me` that has this state and this error
abbrev pub IsLawful : StreamId → ReadableState → Plain → Effect → Type 0
IsLawful me state e (ChunkSteps j q (Bytes b)) = me ≡ j
IsLawful me state e (ChunkSteps j q (PlainValue r)) = ⊥
IsLawful me state e (CloseSteps j q) = (me ≡ j) × (state ≡ Closed)
IsLawful me state e (CloseStepsWith j q b) = (me ≡ j) × (state ≡ Closed)
IsLawful me state e (ErrorSteps j q r) = (me ≡ j) × ((state ≡ Errored) × (r ≡ e))
IsLawful me state e _ = Unit {0}

readable_is : (state : ReadableState) → readable.is_readable state ≡ true → state ≡ Readable
readable_is Readable e = refl
readable_is Closed e = cc
readable_is Errored e = cc

readable_isnt : (state : ReadableState) → readable.is_readable state ≡ false → state ≢ Readable
readable_isnt Readable e n = cc
readable_isnt Closed e n = cc
readable_isnt Errored e n = cc

closed_is : (state : ReadableState) → is_closed state ≡ true → state ≡ Closed
closed_is Readable e = cc
closed_is Closed e = refl
closed_is Errored e = cc

errored_is : (state : ReadableState) → is_errored state ≡ true → state ≡ Errored
errored_is Readable e = cc
errored_is Closed e = cc
errored_is Errored e = refl

else_readable : (state : ReadableState) → is_closed state ≡ false → is_errored state ≡ false → state ≡ Readable
else_readable Readable e f = refl
else_readable Closed e f = cc
else_readable Errored e f = cc

not_both : (o : Option PromiseId) (κ : ReaderKind) → is_some o && is_byob κ ≡ true → is_some o && not (is_byob κ) ≡ true → ⊥
not_both None κ b d = cc
not_both (Some p) Default b d = cc
not_both (Some p) Byob b d = cc

-- what suits a readable stream suits it once it has ended
freed : (me : StreamId) (state z : ReadableState) (e f : Plain) (x : Effect) → state ≡ Readable → IsLawful me state e x → IsLawful me z f x
freed me state z e f (ChunkSteps j q (Bytes b)) s l = l
freed me state z e f (ChunkSteps j q (PlainValue r)) s l = absurd l
freed me state z e f (CloseSteps j q) s l = let c = l.1 in absurd (cc)
freed me state z e f (CloseStepsWith j q b) s l = let c = l.1 in absurd (cc)
freed me state z e f (ErrorSteps j q r) s l = let c = l.1.0 in absurd (cc)
freed me state z e f x s l = tt

all_freed : (me : StreamId) (state z : ReadableState) (e f : Plain) (es : List Effect) → state ≡ Readable → Each (IsLawful me state e) es → Each (IsLawful me z f) es
all_freed me state z e f [] s l = tt
all_freed me state z e f (x ∷ es) s l = (freed me state z e f x s l.0, all_freed me state z e f es s l.1)

closes-lawful : (me : StreamId) (e : Plain) (qs : List ReadRequest) → Each (IsLawful me Closed e) (readable.close_all me qs)
closes-lawful me e [] = tt
closes-lawful me e (q ∷ qs) = ((refl, refl), closes-lawful me e qs)

errors-lawful : (me : StreamId) (e : Plain) (qs : List ReadRequest) → Each (IsLawful me Errored e) (readable.error_all me e qs)
errors-lawful me e [] = tt
errors-lawful me e (q ∷ qs) = ((refl, (refl, refl)), errors-lawful me e qs)

module _ (me : StreamId) (was : ReadableState) (err : Plain) where
  pub record Fine (a : Acts) : Type 0 where
    pub steps : Each (IsLawful me a.slots.stream.state a.slots.stream.stored_error) a.out.effects
    pub ended : has_default_reader a.slots ≡ true → a.slots.stream.state ≢ Readable → a.slots.stream.requests ≡ []
    pub stays : was ≢ Readable → (a.slots.stream.state ≡ was) × (a.slots.stream.stored_error ≡ err)

  causing-fine : (x : Effect) (a : Acts) → IsLawful me a.slots.stream.state a.slots.stream.stored_error x → Fine a → Fine (causing x a)
  causing-fine x a l f = record { steps = each-append (IsLawful me a.slots.stream.state a.slots.stream.stored_error) a.out.effects (x ∷ []) f.steps (l, tt); ended = f.ended; stays = f.stays }

  -- while it is readable its requests may be any
  live-fine : (a b : Acts) → a.slots.stream.state ≡ Readable → b.slots.stream.state ≡ a.slots.stream.state → b.slots.stream.stored_error ≡ a.slots.stream.stored_error → b.out.effects ≡ a.out.effects → Fine a → Fine b
  live-fine a b r s e o f = record {
    steps = rw (s, e, o) f.steps;
    ended = λ d n. absurd (n (s ∙ r));
    stays = λ n. let k = f.stays n in (s ∙ k.0, e ∙ k.1);
  }

  pull-fine : (a : Acts) → Fine a → Fine (call_pull_if_needed me a)
  unfolding call_pull_if_needed
  pull-fine a f =
      either Fine (should_call_pull a.slots) (in_stream (readable.call_pull me) a) a
      (λ c. either (λ (b : readable.Acts). Fine (record { slots = record a.slots { stream = b.slots }; out = b.out })) a.slots.stream.pulling _ _
      (λ p. record { steps = f.steps; ended = f.ended; stays = f.stays })
      (λ p. causing-fine (PullAlgorithm me) (with_slots (record a.slots { stream = record a.slots.stream { pulling = true } }) a) tt (record { steps = f.steps; ended = f.ended; stays = f.stays })))
      (λ c. f)

  -- the ends

  was_live : (a : Acts) → a.slots.stream.state ≡ Readable → Fine a → was ≢ Readable → ⊥
  was_live a r f n = n (sym (f.stays n).0 ∙ r)

  keeping : (a : Acts) (o : Option PromiseId) → has_byob_reader a.slots ≡ true → a.slots.stream.state ≡ Readable → Fine a → let b : readable.Acts = close_keeping (record { slots = record a.slots.stream { state = Closed }; out = a.out }) o in
      Fine (record { slots = record a.slots { stream = b.slots }; out = b.out })
  keeping a None c r f = record {
    steps = all_freed me a.slots.stream.state Closed a.slots.stream.stored_error a.slots.stream.stored_error a.out.effects r f.steps;
    ended = λ d n. absurd (not_both a.slots.stream.reader a.slots.reader_kind c d);
    stays = λ n. absurd (was_live a r f n);
  }
  keeping a (Some p) c r f = record {
    steps = all_freed me a.slots.stream.state Closed a.slots.stream.stored_error a.slots.stream.stored_error a.out.effects r f.steps;
    ended = λ d n. absurd (not_both a.slots.stream.reader a.slots.reader_kind c d);
    stays = λ n. absurd (was_live a r f n);
  }

  none_there : (o : Option PromiseId) (κ : ReaderKind) → None ≡ o → is_some o && not (is_byob κ) ≡ true → ⊥
  none_there None κ e d = cc
  none_there (Some p) κ e d = cc

  closing : (a : Acts) (o : Option PromiseId) → o ≡ a.slots.stream.reader → a.slots.stream.state ≡ Readable → Fine a → let b : readable.Acts = readable.close_reader me (record { slots = record a.slots.stream { state = Closed }; out = a.out }) o in
      Fine (record { slots = record a.slots { stream = b.slots }; out = b.out })
  closing a None e r f = record {
    steps = all_freed me a.slots.stream.state Closed a.slots.stream.stored_error a.slots.stream.stored_error a.out.effects r f.steps;
    ended = λ d n. absurd (none_there a.slots.stream.reader a.slots.reader_kind e d);
    stays = λ n. absurd (was_live a r f n);
  }
  closing a (Some p) e r f = record {
    steps =
        each-append (IsLawful me Closed a.slots.stream.stored_error) a.out.effects (readable.close_all me a.slots.stream.requests)
        (all_freed me a.slots.stream.state Closed a.slots.stream.stored_error a.slots.stream.stored_error a.out.effects r f.steps) (closes-lawful me a.slots.stream.stored_error a.slots.stream.requests);
    ended = λ d n. refl;
    stays = λ n. absurd (was_live a r f n);
  }

  close-fine : (a : Acts) → a.slots.stream.state ≡ Readable → Fine a → Fine (stream_close me a)
  unfolding stream_close readable.stream_close
  close-fine a r f =
      either Fine (has_byob_reader a.slots) (in_stream close_stream_keeping a) (in_stream (readable.stream_close me) a) (λ c. keeping a a.slots.stream.reader c r f) (λ c. closing a a.slots.stream.reader refl r f)

  kept-closed : (a : Acts) (o : Option PromiseId) → (close_keeping (record { slots = record a.slots.stream { state = Closed }; out = a.out }) o).slots.state ≡ Closed
  kept-closed a None = refl
  kept-closed a (Some p) = refl

  is-closed : (a : Acts) (o : Option PromiseId) → (readable.close_reader me (record { slots = record a.slots.stream { state = Closed }; out = a.out }) o).slots.state ≡ Closed
  is-closed a None = refl
  is-closed a (Some p) = refl

  pub close-closed : (a : Acts) → (stream_close me a).slots.stream.state ≡ Closed
  unfolding stream_close readable.stream_close
  close-closed a =
      either (λ (b : Acts). b.slots.stream.state ≡ Closed) (has_byob_reader a.slots) (in_stream close_stream_keeping a) (in_stream (readable.stream_close me) a)
      (λ c. kept-closed a a.slots.stream.reader) (λ c. is-closed a a.slots.stream.reader)

  erring : (e : Plain) (a : Acts) (o : Option PromiseId) → o ≡ a.slots.stream.reader → a.slots.stream.state ≡ Readable → Fine a
      → let b : readable.Acts = readable.error_reader me e (record { slots = record a.slots.stream { state = Errored; stored_error = e }; out = a.out }) o in
      Fine (record { slots = record a.slots { stream = b.slots; request = None; descriptors = []; queue = [] }; out = b.out })
  erring e a None is r f = record {
    steps = all_freed me a.slots.stream.state Errored a.slots.stream.stored_error e a.out.effects r f.steps;
    ended = λ d n. absurd (none_there a.slots.stream.reader a.slots.reader_kind is d);
    stays = λ n. absurd (was_live a r f n);
  }
  erring e a (Some p) is r f = record {
    steps =
        each-append (IsLawful me Errored e) a.out.effects (readable.error_all me e a.slots.stream.requests)
        (all_freed me a.slots.stream.state Errored a.slots.stream.stored_error e a.out.effects r f.steps) (errors-lawful me e a.slots.stream.requests);
    ended = λ d n. refl;
    stays = λ n. absurd (was_live a r f n);
  }

  error-fine : (e : Plain) (a : Acts) → Fine a → Fine (controller_error me e a)
  unfolding controller_error readable.stream_error
  error-fine e a f =
      either Fine (readable.is_readable a.slots.stream.state) (in_stream (readable.stream_error me e) (clear_all a)) a
      (λ c. erring e a a.slots.stream.reader refl (readable_is a.slots.stream.state c) f) (λ c. f)

  erred : (e : Plain) (a : Acts) (o : Option PromiseId) → let b : readable.Acts = readable.error_reader me e (record { slots = record a.slots.stream { state = Errored; stored_error = e }; out = a.out }) o in
      (b.slots.state ≡ Errored) × (b.slots.stored_error ≡ e)
  erred e a None = (refl, refl)
  erred e a (Some p) = (refl, refl)

  error-errs : (e : Plain) (a : Acts) → a.slots.stream.state ≡ Readable → ((controller_error me e a).slots.stream.state ≡ Errored) × ((controller_error me e a).slots.stream.stored_error ≡ e)
  unfolding controller_error readable.stream_error
  error-errs e a r =
      either (λ (b : Acts). (b.slots.stream.state ≡ Errored) × (b.slots.stream.stored_error ≡ e)) (readable.is_readable a.slots.stream.state) (in_stream (readable.stream_error me e) (clear_all a)) a
      (λ c. erred e a a.slots.stream.reader) (λ c. absurd (readable_isnt a.slots.stream.state c r))

  drain-fine : (a : Acts) → a.slots.stream.state ≡ Readable → Fine a → Fine (handle_queue_drain me a)
  unfolding handle_queue_drain
  drain-fine a r f = either Fine (is_empty a.slots.queue && a.slots.stream.close_requested) (stream_close me a) (call_pull_if_needed me a) (λ c. close-fine a r f) (λ c. pull-fine a f)

  both_false : (e c : Bool) → c ≡ false → e && c ≡ true → ⊥
  both_false true true c e = cc
  both_false true false c e = cc
  both_false false d c e = cc

  pub drain-pulls : (a : Acts) → a.slots.stream.close_requested ≡ false → handle_queue_drain me a ≡ call_pull_if_needed me a
  unfolding handle_queue_drain
  drain-pulls a n =
      either (λ (b : Acts). b ≡ call_pull_if_needed me a) (is_empty a.slots.queue && a.slots.stream.close_requested) (stream_close me a) (call_pull_if_needed me a)
      (λ c. absurd (both_false (is_empty a.slots.queue) a.slots.stream.close_requested n c)) (λ c. refl)

  pub record Pulled (a b : Acts) : Type 0 where
    pub requests : b.slots.stream.requests ≡ a.slots.stream.requests
    pub close : b.slots.stream.close_requested ≡ a.slots.stream.close_requested

  pub pull-leaves : (a : Acts) → Pulled a (call_pull_if_needed me a)
  unfolding call_pull_if_needed
  pull-leaves a =
      either (Pulled a) (should_call_pull a.slots) (in_stream (readable.call_pull me) a) a
      (λ c. either (λ (b : readable.Acts). Pulled a (record { slots = record a.slots { stream = b.slots }; out = b.out })) a.slots.stream.pulling _ _
      (λ p. record { requests = refl; close = refl }) (λ p. record { requests = refl; close = refl }))
      (λ c. record { requests = refl; close = refl })

  -- commits

  fewer : (q : ReadRequest) (qs : List ReadRequest) (a : Acts) → a.slots.stream.requests ≡ q ∷ qs → Fine a → Fine (with_requests qs a)
  fewer q qs a r f = record { steps = f.steps; ended = λ d n. let none = f.ended d n in cc; stays = f.stays }

  committed : (b : List ℕ) (q : ReadRequest) (state : ReadableState) (e : Plain) → IsLawful me state e (commit_steps me b q state)
  committed b q Readable e = refl
  committed b q Closed e = (refl, refl)
  committed b q Errored e = refl

  commit_to-fine : (b : List ℕ) (a : Acts) (qs : List ReadRequest) → a.slots.stream.requests ≡ qs → Fine a → Fine (commit_to me b a qs)
  commit_to-fine b a [] r f = record { steps = f.steps; ended = f.ended; stays = f.stays }
  commit_to-fine b a (q ∷ qs) r f =
      causing-fine (commit_steps me b q a.slots.stream.state) (with_requests qs a) (committed b q a.slots.stream.state a.slots.stream.stored_error) (fewer q qs a r f)

  commit-fine : (d : Descriptor) (a : Acts) → Fine a → Fine (commit me d a)
  commit-fine d a f = commit_to-fine d.filled a a.slots.stream.requests refl f

  commits-fine : (ds : List Descriptor) (a : Acts) → Fine a → Fine (commit_all me ds a)
  commits-fine [] a f = f
  commits-fine (d ∷ ds) a f = commits-fine ds (commit me d a) (commit-fine d a f)

  process-fine : (a : Acts) → Fine a → Fine (process_and_commit me a)
  process-fine a f = commits-fine (processed_of a).ready (put_processed (processed_of a) a) (record { steps = f.steps; ended = f.ended; stays = f.stays })

  -- requests are served from the queue

  served_by : (q : ReadRequest) (qs : List ReadRequest) (a : Acts) (queue : List (List ℕ)) → a.slots.stream.requests ≡ q ∷ qs → a.slots.stream.close_requested ≡ false → Fine a
      → ((c : Acts) → c.slots.stream.requests ≡ qs → c.slots.stream.close_requested ≡ false → Fine c → Fine (process_requests me qs c))
      → Fine (elim queue [ [] ↦ a | b ∷ bs ↦ process_requests me qs (fill_read_request me q (with_requests qs a) (b ∷ bs)) ])
  served_by q qs a [] r n f next = f
  served_by q qs a (b ∷ bs) r n f next =
      let c : Acts = with_slots (record (with_requests qs a).slots { queue = bs }) (with_requests qs a) in
      let g : Fine (with_requests qs a) = fewer q qs a r f in
      let k : Pulled c (call_pull_if_needed me c) = pull-leaves c in
      let z : Acts = causing (ChunkSteps me q (Bytes b)) (call_pull_if_needed me c) in
      let w : Fine z = causing-fine (ChunkSteps me q (Bytes b)) (call_pull_if_needed me c) refl (pull-fine c (record { steps = g.steps; ended = g.ended; stays = g.stays })) in
      let same : causing (ChunkSteps me q (Bytes b)) (handle_queue_drain me c) ≡ z = ap (λ (y : Acts). causing (ChunkSteps me q (Bytes b)) y) (drain-pulls c n) in
      rw same (next z k.requests (k.close ∙ n) w)

  served : (qs : List ReadRequest) (a : Acts) → a.slots.stream.requests ≡ qs → a.slots.stream.close_requested ≡ false → Fine a → Fine (process_requests me qs a)
  served [] a r n f = f
  served (q ∷ qs) a r n f = served_by q qs a a.slots.queue r n f (served qs)

  accept_for-fine : (b : List ℕ) (a : Acts) (qs : List ReadRequest) → a.slots.stream.requests ≡ qs → Fine a → Fine (accept_for me b a qs)
  accept_for-fine b a [] r f = record { steps = f.steps; ended = f.ended; stays = f.stays }
  accept_for-fine b a (q ∷ qs) r f =
      let g : Fine (with_requests qs a) = fewer q qs a r f in
      causing-fine (ChunkSteps me q (Bytes b)) (drop_first (with_requests qs a)) refl (record { steps = g.steps; ended = g.ended; stays = g.stays })

  accept-fine : (b : List ℕ) (a : Acts) → a.slots.stream.close_requested ≡ false → Fine a → Fine (accept me b a)
  accept-fine b a n f =
      let z : Acts = process_requests me a.slots.stream.requests a in
      let c : Acts = append b a in
      let g : Fine c = record { steps = f.steps; ended = f.ended; stays = f.stays } in
      either Fine (has_default_reader a.slots) (accept_default me b a) (if has_byob_reader a.slots then process_and_commit me c else c)
      (λ d. accept_for-fine b z z.slots.stream.requests refl (served a.slots.stream.requests a refl n f))
      (λ d. either Fine (has_byob_reader a.slots) (process_and_commit me c) c (λ e. process-fine c g) (λ e. g))

  record Left (a b : Acts) : Type 0 where
    fine : Fine a → Fine b
    pub close : b.slots.stream.close_requested ≡ a.slots.stream.close_requested

  detach-left : (a : Acts) (ds : List Descriptor) → Left a (detach_first a ds)
  detach-left a [] = record { fine = λ f. f; close = refl }
  detach-left a (d ∷ ds) = record { fine = λ f. record { steps = f.steps; ended = f.ended; stays = f.stays }; close = refl }

  renounce-left : (a : Acts) (ds : List Descriptor) → Left a (renounce a ds)
  renounce-left a [] = record { fine = λ f. f; close = refl }
  renounce-left a (d ∷ ds) =
      either (Left a) (is_for_nobody d.room_kind) (detached_to_queue (invalidate_request a)) (invalidate_request a)
      (λ c. let k = detach-left (invalidate_request a) a.slots.descriptors in record { fine = λ f. k.fine (record { steps = f.steps; ended = f.ended; stays = f.stays }); close = k.close })
      (λ c. record { fine = λ f. record { steps = f.steps; ended = f.ended; stays = f.stays }; close = refl })

  not_asked : (c d : Bool) → not c && d ≡ true → c ≡ false
  not_asked true d e = cc
  not_asked false d e = refl

  enqueue-fine : (b : List ℕ) (a : Acts) → Fine a → Fine (controller_enqueue me b a)
  unfolding controller_enqueue
  enqueue-fine b a f =
      let z : Acts = renounce a a.slots.descriptors in
      let k : Left a z = renounce-left a a.slots.descriptors in
      either Fine (can_take a.slots) (call_pull_if_needed me (accept me b z)) a
      (λ c. pull-fine (accept me b z) (accept-fine b z (k.close ∙ not_asked a.slots.stream.close_requested (readable.is_readable a.slots.stream.state) c) (k.fine f))) (λ c. f)

  -- closes and responses

  can_live : (c : Bool) (state : ReadableState) → not c && readable.is_readable state ≡ true → state ≡ Readable
  can_live false state e = readable_is state e
  can_live true state e = absurd (cc)

  close_by-fine : (a : Acts) (queue : List (List ℕ)) → a.slots.stream.state ≡ Readable → Fine a → Fine (close_by me a queue)
  close_by-fine a (b ∷ bs) r f = record { steps = f.steps; ended = f.ended; stays = f.stays }
  close_by-fine a [] r f = either Fine (has_part a.slots.descriptors) (controller_error me type_error a) (stream_close me a) (λ c. error-fine type_error a f) (λ c. close-fine a r f)

  finish-fine : (a : Acts) → Fine a → Fine (controller_close me a)
  unfolding controller_close
  finish-fine a f = either Fine (can_take a.slots) (close_by me a a.slots.queue) a (λ c. close_by-fine a a.slots.queue (can_live a.slots.stream.close_requested a.slots.stream.state c) f) (λ c. f)

  closed-fine : (d : Descriptor) (a : Acts) → Fine a → Fine (respond_closed me d a)
  closed-fine d a f =
      either (λ (b : Acts). Fine (if has_byob_reader b.slots then commit_first me (length b.slots.stream.requests) b else b)) (is_for_nobody d.room_kind) (drop_first a) a
      (λ c. all (drop_first a) (record { steps = f.steps; ended = f.ended; stays = f.stays })) (λ c. all a f)
    where
      all : (b : Acts) → Fine b → Fine (if has_byob_reader b.slots then commit_first me (length b.slots.stream.requests) b else b)
      all b g =
          either Fine (has_byob_reader b.slots) (commit_first me (length b.slots.stream.requests) b) b
          (λ c. commits-fine (take (length b.slots.stream.requests) b.slots.descriptors) (with_slots (record b.slots { descriptors = drop (length b.slots.stream.requests) b.slots.descriptors }) b)
          (record { steps = g.steps; ended = g.ended; stays = g.stays })) (λ c. g)

  full-fine : (d : Descriptor) (a : Acts) → Fine a → Fine (respond_full me d a)
  full-fine d a f =
      let kept : ℕ = length d.filled - (length d.filled % d.element) in
      let b : Acts = append (drop kept d.filled) (drop_first a) in
      let x : Processed = processed_of b in
      let e : Descriptor = record d { filled = take kept d.filled } in
      commits-fine x.ready (commit me e (put_processed x b)) (commit-fine e (put_processed x b) (record { steps = f.steps; ended = f.ended; stays = f.stays }))

  readable-fine : (d : Descriptor) (a : Acts) → Fine a → Fine (respond_readable me d a)
  readable-fine d a f =
      let z : Acts = put_first d a in
      let g : Fine z = record { steps = f.steps; ended = f.ended; stays = f.stays } in
      either Fine (is_for_nobody d.room_kind) (process_and_commit me (detached_to_queue z)) (if nat_lt (length d.filled) d.minimum then z else respond_full me d a)
      (λ c. process-fine (detached_to_queue z) ((detach-left z z.slots.descriptors).fine g))
      (λ c. either Fine (nat_lt (length d.filled) d.minimum) z (respond_full me d a) (λ e. g) (λ e. full-fine d a f))

  first-fine : (b : List ℕ) (a : Acts) (ds : List Descriptor) → Fine a → Fine (respond_first me b a ds)
  first-fine b a [] f = f
  first-fine b a (d ∷ ds) f =
      let y : Descriptor = record d { filled = d.filled ++ b } in
      either Fine (is_closed a.slots.stream.state) (respond_closed me d a) (call_pull_if_needed me (respond_readable me y a))
      (λ c. closed-fine d a f) (λ c. pull-fine (respond_readable me y a) (readable-fine y a f))

  meant-fine : (c : Bool) (b a : Acts) → (c ≡ true → Fine b) → Fine a → Fine (if_meant c b a)
  meant-fine true b a g f = g refl
  meant-fine false b a g f = record { steps = f.steps; ended = f.ended; stays = f.stays }

  respond-fine : (b : List ℕ) (a : Acts) → Fine a → Fine (respond me b a)
  unfolding respond
  respond-fine b a f =
      meant-fine (may_respond (length b) a.slots) (respond_internal me b a) a (λ c. first-fine b (invalidate_request a) a.slots.descriptors (record { steps = f.steps; ended = f.ended; stays = f.stays })) f

  -- cancels

  into-fine : (a : Acts) → a.slots.stream.state ≡ Closed → Fine a → Fine (close_into me a)
  into-fine a c f =
      either Fine (has_byob_reader a.slots) _ a
      (λ d. record {
        steps =
            each-append (IsLawful me a.slots.stream.state a.slots.stream.stored_error) a.out.effects (readable.close_all me a.slots.stream.requests) f.steps
            (rw c (closes-lawful me a.slots.stream.stored_error a.slots.stream.requests));
        ended = λ e n. refl;
        stays = f.stays;
      }) (λ d. f)

  cancelling : (r : Plain) (p : PromiseId) (a : Acts) (state : ReadableState) → state ≡ a.slots.stream.state → Fine a → Fine (cancel_by me r p a state)
  cancelling r p a Readable s f =
      let b : Acts = close_into me (stream_close me a) in
      let g : Fine b = into-fine (stream_close me a) (close-closed a) (close-fine a (sym s) f) in
      causing-fine (CancelAlgorithm me r p) (clear_all b) tt (record { steps = g.steps; ended = g.ended; stays = g.stays })
  cancelling r p a Closed s f = record { steps = f.steps; ended = f.ended; stays = f.stays }
  cancelling r p a Errored s f = record { steps = f.steps; ended = f.ended; stays = f.stays }

  cancel-fine : (r : Plain) (p : PromiseId) (a : Acts) → Fine a → Fine (stream_cancel me r p a)
  unfolding stream_cancel readable.disturb
  cancel-fine r p a f = cancelling r p (in_stream readable.disturb a) a.slots.stream.state refl (record { steps = f.steps; ended = f.ended; stays = f.stays })

  -- reads

  allocated : (a : Acts) (n : ℕ) → Fine a → Fine (auto_allocate a n)
  allocated a zero f = f
  allocated a (suc n) f = record { steps = f.steps; ended = f.ended; stays = f.stays }

  allocated-state : (a : Acts) (n : ℕ) → (auto_allocate a n).slots.stream.state ≡ a.slots.stream.state
  allocated-state a zero = refl
  allocated-state a (suc n) = refl

  wait-fine : (q : ReadRequest) (a : Acts) → a.slots.stream.state ≡ Readable → Fine a → Fine (wait q a)
  wait-fine q a r f = record { steps = f.steps; ended = λ d n. absurd (n r); stays = f.stays }

  from-fine : (q : ReadRequest) (a : Acts) (queue : List (List ℕ)) → a.slots.stream.state ≡ Readable → Fine a → Fine (pull_from me q a queue)
  from-fine q a [] r f =
      let c : Acts = auto_allocate a a.slots.auto in pull-fine (wait q c) (wait-fine q c (allocated-state a a.slots.auto ∙ r) (allocated a a.slots.auto f))
  from-fine q a (b ∷ bs) r f =
      let c : Acts = with_slots (record a.slots { queue = bs }) a in
      causing-fine (ChunkSteps me q (Bytes b)) (handle_queue_drain me c) refl (drain-fine c r (record { steps = f.steps; ended = f.ended; stays = f.stays }))

  read_by-fine : (q : ReadRequest) (a : Acts) (state : ReadableState) → state ≡ a.slots.stream.state → Fine a → Fine (read_by me q a state)
  unfolding pull_steps
  read_by-fine q a Readable s f = from-fine q a a.slots.queue (sym s) f
  read_by-fine q a Closed s f = causing-fine (CloseSteps me q) a (refl, sym s) f
  read_by-fine q a Errored s f = causing-fine (ErrorSteps me q a.slots.stream.stored_error) a (refl, (sym s, refl)) f

  read-fine : (q : ReadRequest) (a : Acts) → Fine a → Fine (read me q a)
  unfolding read default_reader_read readable.disturb
  read-fine q a f =
      either Fine (is_of_tee q) a (if_meant (may_read a.slots) (default_reader_read me q a) a) (λ t. f)
      (λ t. meant-fine (may_read a.slots) (default_reader_read me q a) a (λ c. read_by-fine q (in_stream readable.disturb a) a.slots.stream.state refl (record { steps = f.steps; ended = f.ended; stays = f.stays })) f)

  filled-fine : (q : ReadRequest) (a : Acts) (y : Filling) (ready : Bool) → ready ≡ y.ready → a.slots.stream.state ≡ Readable → Fine a → Fine (pull_filled me q a y)
  filled-fine q a y true is r f =
      let z : Acts = put_queue y.queue a in
      rw (← is) (causing-fine (ChunkSteps me q (Bytes y.descriptor.filled)) (handle_queue_drain me z) refl (drain-fine z r (record { steps = f.steps; ended = f.ended; stays = f.stays })))
  filled-fine q a y false is r f =
      let z : Acts = put_queue y.queue a in
      let g : Fine z = record { steps = f.steps; ended = f.ended; stays = f.stays } in
      let c : Acts = pull_waits y.descriptor q z in
      rw (← is)
      (either Fine a.slots.stream.close_requested (causing (ErrorSteps me q type_error) (controller_error me type_error z)) (call_pull_if_needed me c)
      (λ e. let k = error-errs type_error z r in causing-fine (ErrorSteps me q type_error) (controller_error me type_error z) (refl, (k.0, sym k.1)) (error-fine type_error z g))
      (λ e. pull-fine c (wait-fine q (add_descriptor y.descriptor z) r (record { steps = f.steps; ended = f.ended; stays = f.stays }))))

  from_queue-fine : (d : Descriptor) (q : ReadRequest) (a : Acts) (queue : List (List ℕ)) → a.slots.stream.state ≡ Readable → Fine a → Fine (pull_from_queue me d q a queue)
  from_queue-fine d q a [] r f = pull-fine (pull_waits d q a) (wait-fine q (add_descriptor d a) r (record { steps = f.steps; ended = f.ended; stays = f.stays }))
  from_queue-fine d q a (b ∷ bs) r f = let y : Filling = fill_from_queue d (b ∷ bs) in filled-fine q a y y.ready refl r f

  pull_first-fine : (d : Descriptor) (q : ReadRequest) (a : Acts) (ds : List Descriptor) → has_default_reader a.slots ≡ false → is_errored a.slots.stream.state ≡ false → Fine a → Fine (pull_first me d q a ds)
  pull_first-fine d q a (x ∷ xs) n e f = record { steps = f.steps; ended = λ b k. absurd (cc); stays = f.stays }
  pull_first-fine d q a [] n e f =
      either Fine (is_closed a.slots.stream.state) (causing (CloseStepsWith me q []) a) (pull_from_queue me d q a a.slots.queue)
      (λ c. causing-fine (CloseStepsWith me q []) a (refl, closed_is a.slots.stream.state c) f) (λ c. from_queue-fine d q a a.slots.queue (else_readable a.slots.stream.state c e) f)

  byob-fine : (d : Descriptor) (q : ReadRequest) (a : Acts) → has_default_reader a.slots ≡ false → Fine a → Fine (byob_reader_read me d q a)
  unfolding byob_reader_read pull_into readable.disturb
  byob-fine d q a n f =
      let b : Acts = in_stream readable.disturb a in
      let g : Fine b = record { steps = f.steps; ended = f.ended; stays = f.stays } in
      either Fine (is_errored a.slots.stream.state) (causing (ErrorSteps me q a.slots.stream.stored_error) b) (pull_first me d q b a.slots.descriptors)
      (λ c. causing-fine (ErrorSteps me q a.slots.stream.stored_error) b (refl, (errored_is a.slots.stream.state c, refl)) g) (λ c. pull_first-fine d q b a.slots.descriptors n c g)

  -- readers that come

  initializing : (p : PromiseId) (a : Acts) (state : ReadableState) → (readable.settle_closed p a.slots.stream.stored_error a.out state).effects ≡ a.out.effects
  initializing p a Readable = refl
  initializing p a Closed = refl
  initializing p a Errored = refl

  initialize-fine : (kind : ReaderKind) (p : PromiseId) (a : Acts) → Fine a → Fine (reader_initialize kind p a)
  unfolding reader_initialize readable.reader_generic_initialize
  initialize-fine kind p a f =
      meant-fine (is_none a.slots.stream.reader) (in_stream (readable.reader_generic_initialize p) (with_slots (record a.slots { reader_kind = kind }) a)) a
      (λ c. record { steps = rw (initializing p a a.slots.stream.state) f.steps; ended = λ d n. refl; stays = f.stays }) f

  ended-fine : (a : Acts) (again : Bool) → Fine a → Fine (pull_ended me a again)
  ended-fine a false f = f
  ended-fine a true f = pull-fine (with_slots (record a.slots { stream = record a.slots.stream { pull_again = false } }) a) (record { steps = f.steps; ended = f.ended; stays = f.stays })

  -- each operation but the release of a reader

  abbrev pub IsNoRelease : ReadableOperation → Type 0
  IsNoRelease names.ReleaseReader = ⊥
  IsNoRelease _ = Unit {0}

  pub operation-fine : (op : ReadableOperation) (a : Acts) → IsNoRelease op → Fine a → Fine (byte_readable_operation me op a)
  unfolding start_settled pull_settled cancel_if_readable readable.disturb
  operation-fine (names.InitializeReader p) a n f = initialize-fine Default p a f
  operation-fine names.ReleaseReader a n f = absurd n
  operation-fine names.Disturb a n f = record { steps = f.steps; ended = f.ended; stays = f.stays }
  operation-fine (names.Read q) a n f = read-fine q a f
  operation-fine (names.Cancel r p) a n f = cancel-fine r p a f
  operation-fine (names.CancelIfReadable r p) a n f =
      either Fine (readable.is_readable a.slots.stream.state) (stream_cancel me r p a) _ (λ c. cancel-fine r p a f) (λ c. record { steps = f.steps; ended = f.ended; stays = f.stays })
  operation-fine (names.Enqueue v) a n f = f
  operation-fine names.Close a n f = finish-fine a f
  operation-fine (names.Error e) a n f = error-fine e a f
  operation-fine (names.StartSettled (Ok v)) a n f = pull-fine (with_slots (record a.slots { stream = record a.slots.stream { started = true } }) a) (record { steps = f.steps; ended = f.ended; stays = f.stays })
  operation-fine (names.StartSettled (Err e)) a n f = error-fine e a f
  operation-fine (names.PullSettled (Ok v)) a n f =
      ended-fine (with_slots (record a.slots { stream = record a.slots.stream { pulling = false } }) a) a.slots.stream.pull_again (record { steps = f.steps; ended = f.ended; stays = f.stays })
  operation-fine (names.PullSettled (Err e)) a n f = error-fine e a f

  -- a read into a room is a BYOB reader's
  abbrev pub IsByobs : ByteOperation → Slots → Type 0
  IsByobs (own.PullInto room element minimum q) x = has_default_reader x ≡ false
  IsByobs _ x = Unit {0}

  pub own-fine : (op : ByteOperation) (a : Acts) → IsByobs op a.slots → Fine a → Fine (byte_operation me op a)
  unfolding read_into
  own-fine (own.InitializeByobReader p) a n f = initialize-fine Byob p a f
  own-fine (own.Enqueue b) a n f = enqueue-fine b a f
  own-fine (own.PullInto room element minimum q) a n f =
      let d : Descriptor = record { filled = []; room = length room; minimum = minimum; element = element; room_kind = ForByob } in
      meant-fine (may_pull_into a.slots && is_least (length room) element minimum) (byob_reader_read me d q a) a (λ c. byob-fine d q a n f) f
  own-fine (own.MakeRequest q) a n f = record { steps = f.steps; ended = f.ended; stays = f.stays }
  own-fine (own.Respond b) a n f = respond-fine b a f
