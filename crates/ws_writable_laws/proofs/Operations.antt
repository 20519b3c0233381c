-- What each operation of a writable stream keeps, where it ends well or fails.
use Rattle.std.proofs.Common.{◌≡◌, ℕ, zero, suc, ◌+◌, ◌≤◌, Bool, true, false, not, ◌&&◌, ◌||◌, is_some, is_none, if◌then◌else◌, List, [], ◌∷◌, ◌++◌, Option, Some, None, Err, refl, sym, subst, ◌∙◌, arith, append_assoc, append-nil, length-append, Ok, ap}
use Rattle.ws_value.specs.declared.ids.PromiseId.{PromiseId}
use Rattle.ws_value.specs.declared.ids.StreamId.{StreamId}
use Rattle.ws_value.specs.declared.value.Plain.{Plain}
use Rattle.ws_value.specs.declared.value.Value.{Value}
use Rattle.ws_value.specs.declared.value.Plain.TheVariants.{Undefined}
use Rattle.ws_steps.specs.declared.{effects.Effect.{Effect}, queue.Queued.{Queued}, writable.PendingAbort.{PendingAbort}, writable.WritableState.{WritableState}}
use Rattle.ws_steps.specs.declared.{writable.WritableState.TheVariants.{Writable, Erroring, Closed}, writable.WriteRecord.{WriteRecord}}
use Rattle.ws_steps.specs.declared.{writable.WriteRecord.TheVariants.{Chunk, InFlight, CloseMark}, writable.Writer.{Writer}}
use Rattle.ws_steps.specs.Promises.{settle}
use Rattle.ws_steps.specs.Queues.{first_value, with_first_value, rest_of, enqueued, size_of}
use Rattle.ws_steps.specs.Writable.{Slots, Acts, with_promises, is_writable, is_erroring, is_errored, is_closed, is_in_flight, reject_close_and_closed, abort_by, finish_abort, fail_writes, finish_erroring, reject_ready, start_erroring, deal_with_rejection, controller_error_if_needed, first_request, later_requests, process_write, process_close, process_first, advance_queue, has_ended, update_backpressure, refresh_backpressure, write_ended, without_first, write_settled, close_ended, abort_ended, clear_error, fulfil_closed, finish_in_flight_close, finish_in_flight_close_with_error, close_settled, start_settled, abort_settled, is_closing, enqueue_chunk, controller_write, add_write_request, write_refusal, write_by, writer_write, controller_close, add_close_request, fulfil_ready, stream_close, close_with_error_propagation, add_pending_abort, begin_abort, signalled, stream_abort, abort_if_writable, set_up_writer, release_by, writer_release}
use Rattle.ws_steps.specs.WritableHistory.{Writes, todo, first_chunk, fulfilled_by, no_writes, writes_then, written_by, written_unless, operation_writes}
use Rattle.ws_steps.specs.declared.{effects.Effect.TheVariants.{Writable as OnWritable}, effects.Owner.{Owner}, effects.Owner.TheVariants.{Host, HalfOf, BranchOf, EndOf}}
use Rattle.ws_steps.specs.declared.writable.WritableOperation.{WritableOperation}
use Rattle.ws_steps.specs.declared.writable.WritableOperation.TheVariants.{SetUpWriter, ReleaseWriter, Write, Close, ClosePropagating, Abort, AbortIfWritable, ErrorIfNeeded, HandOn, StartSettled, WriteSettled, CloseSettled, AbortSettled}
use Rattle.ws_steps.specs.Effects.{type_error}
use Rattle.ws_steps.specs.Operations.{writable_operation}
use Rattle.ws_steps.specs.Histories.{is_same}
use Rattle.ws_laws.proofs.Tables.{either, is_same-refl}
use Rattle.ws_laws.proofs.Truth.{and_left, and_right, refuted, nor_left, nor_right}
use Rattle.ws_laws.proofs.WritableDoes.{IsHandOn}
use Rattle.ws_writable_laws.proofs.Shape.{one_if, Core, core_of, is_open, Shape, Closing, Told, failed, has_mark, todo-append, leads-append, no_mark-append, last-append, marked-behind, chunk-behind, filled, is_start, is_write, is_close, is_abort, leads_to, hands, closes, all}

-- how much is under way of a stream: of its start, its writes, its close and its abort
pub record Due : Type 0 where
  pub starts : ℕ
  pub writes : ℕ
  pub closes : ℕ
  pub aborts : ℕ

-- a start goes on once, and then the controller has started; a write or a close goes on only where one is in flight, an abort only where
-- the stream has ended; and it closes once
pub record Owed (n : Due) (c : Core) : Type 0 where
  pub starts : n.starts + one_if c.started ≤ 1
  pub writes : n.writes ≤ one_if c.writing
  pub closes : n.closes ≤ one_if c.closing
  pub aborts : has_ended c.state ≡ false → n.aborts ≡ 0
  pub once : one_if c.requested + one_if c.closing ≤ 1

-- what holds of a stream between its operations
pub record Fine (n : Due) (h : Writes) (dropped : List Value) (c : Core) : Type 0 where
  pub shape : Shape h.closes c
  pub closing : Closing h.closes c
  pub told : Told h dropped c
  pub owed : Owed n c

-- what is under way, with these effects
abbrev pub with_effects : StreamId → Due → List Effect → Due
with_effects i n es = record {
  starts = n.starts + all (leads_to (is_start i)) es;
  writes = n.writes + all (leads_to (is_write i)) es;
  closes = n.closes + all (leads_to (is_close i)) es;
  aborts = n.aborts + all (leads_to (is_abort i)) es;
}

-- the queue once its first chunk is handed on

abbrev pub handed_by : List (Queued WriteRecord) → WriteRecord → List (Queued WriteRecord)
handed_by queue (Chunk v) = with_first_value InFlight queue
handed_by queue InFlight = queue
handed_by queue CloseMark = queue

abbrev pub handed_queue : List (Queued WriteRecord) → List (Queued WriteRecord)
handed_queue [] = []
handed_queue (q ∷ qs) = handed_by (q ∷ qs) q.value

-- what the host is to be handed counts as handed on

abbrev handed_by_owner : Slots → Owner → Slots
handed_by_owner s Host = record s { queue = handed_queue s.queue }
handed_by_owner s (HalfOf t) = s
handed_by_owner s (BranchOf t half) = s
handed_by_owner s (EndOf c) = s

abbrev pub handed : ℕ → Slots → Slots
handed zero s = s
handed (suc n) s = handed_by_owner s s.owner

abbrev owner_handed : Slots → Owner → List Value
owner_handed s Host = first_chunk s.queue
owner_handed s (HalfOf t) = []
owner_handed s (BranchOf t half) = []
owner_handed s (EndOf c) = []

abbrev pub chunk_handed : ℕ → Slots → List Value
chunk_handed zero s = []
chunk_handed (suc n) s = owner_handed s s.owner

-- the history with the effects that are still to be performed
abbrev pub so_far : StreamId → Writes → List Effect → Slots → Writes
so_far i h es s = record h { acted = h.acted ++ chunk_handed (all (hands i) es) s; closes = h.closes + all (closes i) es }

abbrev pub later_effects : List Effect → List Effect
later_effects [] = []
later_effects (e ∷ es) = es

-- what holds of stream i at each moment, whatever was dropped; only the first effect hands a chunk on
pub record Held (i : StreamId) (n : Due) (h : Writes) (es : List Effect) (s : Slots) : Type 0 where
  pub behind : all (hands i) (later_effects es) ≡ 0
  pub dropped : List Value
  pub fine : Fine (with_effects i n es) (so_far i h es s) dropped (core_of (handed (all (hands i) es) s))

-- less is under way

pub record Less (m n : Due) : Type 0 where
  pub starts : m.starts ≤ n.starts
  pub writes : m.writes ≤ n.writes
  pub closes : m.closes ≤ n.closes
  pub aborts : m.aborts ≤ n.aborts

pub fine-less : (m n : Due) (h : Writes) (d : List Value) (c : Core) → Less m n → Fine n h d c → Fine m h d c
fine-less m n h d c l f = grind arith

-- where nothing is caused

pub so_far-nothing : (i : StreamId) (h : Writes) (s : Slots) → so_far i h [] s ≡ h
so_far-nothing i h s = grind (arith, append-nil)

pub quiet-held : (i : StreamId) (n : Due) (h : Writes) (d : List Value) (es : List Effect) (s : Slots) → es ≡ [] → Fine n h d (core_of s) → Held i n h es s
quiet-held i n h d es s e f = rw e (record { behind = refl; dropped = d; fine = rw (so_far-nothing i h s) (grind arith) })

-- what doesn't matter changes
pub record Same (a b : Acts) : Type 0 where
  pub core : core_of b.slots ≡ core_of a.slots
  pub effects : b.out.effects ≡ a.out.effects

pub same_fine : (n : Due) (h : Writes) (d : List Value) (a b : Acts) → Same a b → Fine n h d (core_of a.slots) → Fine n h d (core_of b.slots)
same_fine n h d a b s f = rw s.core f

-- all is well once the writes are failed and the stream is errored
abbrev pub Failing : Due → Writes → List Value → Core → Type 0
Failing n h dropped c = Fine n h (todo c.queue ++ dropped) (failed c)

unrequested : (a : Acts) → (core_of (reject_close_and_closed a).slots ≡ record (core_of a.slots) { requested = false }) × ((reject_close_and_closed a).out.effects ≡ a.out.effects)
unfolding reject_close_and_closed
unrequested a = grind arith

pub reject_both-held : (i : StreamId) (n : Due) (h : Writes) (d : List Value) (a : Acts) → has_ended a.slots.state ≡ true → a.out.effects ≡ [] → Fine n h d (core_of a.slots) → Held i n h (reject_close_and_closed a).out.effects (reject_close_and_closed a).slots
reject_both-held i n h d a e q f =
    let u = unrequested a in quiet-held i n h d (reject_close_and_closed a).out.effects (reject_close_and_closed a).slots (u.1 ∙ q) (rw u.0 (grind arith))

abort_by-held : (i : StreamId) (abort : PendingAbort) (n : Due) (h : Writes) (d : List Value) (a : Acts) (was : Bool) → has_ended a.slots.state ≡ true → a.out.effects ≡ [] → Fine n h d (core_of a.slots) → Held i n h (abort_by i abort a was).out.effects (abort_by i abort a was).slots
abort_by-held i abort n h d a true e q f = reject_both-held i n h d (with_promises (settle abort.promise (Err a.slots.stored_error) a.out.promises) a) e q f
abort_by-held i abort n h d a false e q f = rw q (record { behind = refl; dropped = d; fine = rw (so_far-nothing i h a.slots) (grind arith) })

finish_abort-held : (i : StreamId) (n : Due) (h : Writes) (d : List Value) (a : Acts) (abort : Option PendingAbort) → has_ended a.slots.state ≡ true → a.out.effects ≡ [] → Fine n h d (core_of a.slots) → Held i n h (finish_abort i a abort).out.effects (finish_abort i a abort).slots
finish_abort-held i n h d a None e q f = reject_both-held i n h d a e q f
finish_abort-held i n h d a (Some abort) e q f =
    abort_by-held i abort n h d (record a { slots = record a.slots { pending_abort = None } }) abort.was_already_erroring e q f

-- erroring

pub finish_erroring-held : (i : StreamId) (n : Due) (h : Writes) (d : List Value) (a : Acts) → a.out.effects ≡ [] → Failing n h d (core_of a.slots) → Held i n h (finish_erroring i a).out.effects (finish_erroring i a).slots
unfolding finish_erroring
finish_erroring-held i n h d a q f =
    let b : Acts = fail_writes a in
    finish_abort-held i n h (todo a.slots.queue ++ d) b b.slots.pending_abort refl q f

pub reject_ready-same : (r : Plain) (a : Acts) (w : Option Writer) → Same a (reject_ready r a w)
reject_ready-same r a w = grind arith

pub start_erroring-held : (i : StreamId) (n : Due) (h : Writes) (d : List Value) (r : Plain) (a : Acts) → a.slots.state ≡ Writable → a.out.effects ≡ [] → Fine n h d (core_of a.slots)
    → Held i n h (start_erroring i r a).out.effects (start_erroring i r a).slots
unfolding start_erroring
start_erroring-held i n h d r a w q f =
    let c : Acts = record a { slots = record a.slots { state = Erroring; stored_error = r } } in
    let b : Acts = reject_ready r c a.slots.writer in
    let same = reject_ready-same r c a.slots.writer in
    let fine : Fine n h d (core_of b.slots) = same_fine n h d c b same (grind arith) in
    let quiet : b.out.effects ≡ [] = same.effects ∙ q in
    either (λ (z : Acts). Held i n h z.out.effects z.slots) (not (is_in_flight b.slots) && b.slots.started) (finish_erroring i b) b
    (λ e. finish_erroring-held i n h d b quiet (grind arith)) (λ e. quiet-held i n h d b.out.effects b.slots quiet fine)

pub is_writable-true : (s : WritableState) → is_writable s ≡ true → s ≡ Writable
is_writable-true s e = grind arith

pub deal-held : (i : StreamId) (n : Due) (h : Writes) (d : List Value) (e : Plain) (a : Acts) → a.out.effects ≡ [] → Fine n h d (core_of a.slots) → Held i n h (deal_with_rejection i e a).out.effects (deal_with_rejection i e a).slots
unfolding deal_with_rejection
deal-held i n h d e a q f =
    either (λ (z : Acts). Held i n h z.out.effects z.slots) (is_writable a.slots.state) (start_erroring i e a) (finish_erroring i a)
    (λ w. start_erroring-held i n h d e a (is_writable-true a.slots.state w) q f) (λ w. finish_erroring-held i n h d a q (grind arith))

pub error_if_needed-held : (i : StreamId) (n : Due) (h : Writes) (d : List Value) (e : Plain) (a : Acts) → a.out.effects ≡ [] → Fine n h d (core_of a.slots)
    → Held i n h (controller_error_if_needed i e a).out.effects (controller_error_if_needed i e a).slots
unfolding controller_error_if_needed
error_if_needed-held i n h d e a q f =
    either (λ (z : Acts). Held i n h z.out.effects z.slots) (is_writable a.slots.state) (start_erroring i e a) a
    (λ w. start_erroring-held i n h d e a (is_writable-true a.slots.state w) q f) (λ w. quiet-held i n h d a.out.effects a.slots q f)

-- a stream that fails with nothing in flight is errored at once
pub record Alone (c : Core) : Type 0 where
  pub writing : c.writing ≡ false
  pub closing : c.closing ≡ false
  pub started : c.started ≡ true

pub alone-quiet : (a b : Acts) → core_of b.slots ≡ record (core_of a.slots) { state = Erroring } → Alone (core_of a.slots) → not (is_in_flight b.slots) && b.slots.started ≡ true
alone-quiet a b e l = grind arith

pub fails-held : (i : StreamId) (n : Due) (h : Writes) (d : List Value) (e : Plain) (a : Acts) → a.out.effects ≡ [] → Alone (core_of a.slots) → Failing n h d (core_of a.slots)
    → Held i n h (deal_with_rejection i e a).out.effects (deal_with_rejection i e a).slots
unfolding deal_with_rejection start_erroring
fails-held i n h d e a q l f =
    let c : Acts = record a { slots = record a.slots { state = Erroring; stored_error = e } } in
    let b : Acts = reject_ready e c a.slots.writer in
    let same = reject_ready-same e c a.slots.writer in
    let left : Failing n h d (core_of b.slots) = subst (Failing n h d) (sym same.core) f in
    either (λ (z : Acts). Held i n h z.out.effects z.slots) (is_writable a.slots.state) (if not (is_in_flight b.slots) && b.slots.started then finish_erroring i b else b) (finish_erroring i a)
    (λ w. rw (alone-quiet a b same.core l) (finish_erroring-held i n h d b (same.effects ∙ q) left))
    (λ w. finish_erroring-held i n h d a q f)

-- the queue advances

process-fine : (n : Due) (h : Writes) (d : List Value) (c : Core) (v : Value) → first_value c.queue ≡ Some (Chunk v) → c.writing ≡ false → c.started ≡ true → Fine n h d c
    → Fine (record n { starts = n.starts + 0; writes = n.writes + 1; closes = n.closes + 0; aborts = n.aborts + 0 }) (record h { acted = h.acted ++ first_chunk c.queue }) d
    (record c { queue = handed_queue c.queue; requests = later_requests c.requests; flying = first_request c.requests; writing = is_some (first_request c.requests) })
process-fine n h d c v e w b f = grind (arith, append_assoc, length-append)

-- a chunk of a half stays where it is until it is handed on
process-half : (n : Due) (h : Writes) (d : List Value) (c : Core) (v : Value) → c.hosted ≡ false → first_value c.queue ≡ Some (Chunk v) → c.writing ≡ false → c.started ≡ true → Fine n h d c
    → Fine (record n { starts = n.starts + 0; writes = n.writes + 1; closes = n.closes + 0; aborts = n.aborts + 0 }) h d (record c { requests = later_requests c.requests; flying = first_request c.requests; writing = is_some (first_request c.requests) })
process-half n h d c v o e w b f = grind (arith, append_assoc, length-append)

close-fine : (n : Due) (h : Writes) (d : List Value) (c : Core) → first_value c.queue ≡ Some CloseMark → c.writing ≡ false → c.started ≡ true → Fine n h d c
    → Fine (record n { starts = n.starts + 0; writes = n.writes + 0; closes = n.closes + 1; aborts = n.aborts + 0 }) (record h { closes = h.closes + 1 }) d (record c { queue = rest_of c.queue; requested = false; closing = c.requested })
close-fine n h d c e w b f = grind (arith, append-nil)

process_write-held : (i : StreamId) (n : Due) (h : Writes) (d : List Value) (a : Acts) (v : Value) (owner : Owner) → owner ≡ a.slots.owner → first_value a.slots.queue ≡ Some (Chunk v) → is_some a.slots.write_in_flight ≡ false → a.slots.started ≡ true
    → a.out.effects ≡ [] → Fine n h d (core_of a.slots) → Held i n h (process_write i a).out.effects (process_write i a).slots
unfolding process_write
process_write-held i n h d a v Host o e w b q f =
    let k : h.closes + 0 ≡ h.closes = omega arith in rw q (record { behind = refl; dropped = d; fine = rw (is_same-refl i, ← o, k) (rw (← o) at (process-fine n h d (core_of a.slots) v e w b f)) })
process_write-held i n h d a v (HalfOf t) o e w b q f =
    let k : h.closes + 0 ≡ h.closes = omega arith in rw q (record { behind = refl; dropped = d; fine = rw (is_same-refl i, ← o, k, append-nil h.acted) (rw (← o) at (process-half n h d (core_of a.slots) v (rw (← o) refl) e w b f)) })
process_write-held i n h d a v (BranchOf t half) o e w b q f =
    let k : h.closes + 0 ≡ h.closes = omega arith in rw q (record { behind = refl; dropped = d; fine = rw (is_same-refl i, ← o, k, append-nil h.acted) (rw (← o) at (process-half n h d (core_of a.slots) v (rw (← o) refl) e w b f)) })
process_write-held i n h d a v (EndOf c) o e w b q f =
    let k : h.closes + 0 ≡ h.closes = omega arith in rw q (record { behind = refl; dropped = d; fine = rw (is_same-refl i, ← o, k, append-nil h.acted) (rw (← o) at (process-half n h d (core_of a.slots) v (rw (← o) refl) e w b f)) })

process_first-held : (i : StreamId) (n : Due) (h : Writes) (d : List Value) (a : Acts) (first : Option WriteRecord) → first_value a.slots.queue ≡ first → is_some a.slots.write_in_flight ≡ false → a.slots.started ≡ true → a.out.effects ≡ []
    → Fine n h d (core_of a.slots) → Held i n h (process_first i a first).out.effects (process_first i a first).slots
unfolding process_close
process_first-held i n h d a (Some (Chunk v)) e w b q f = process_write-held i n h d a v a.slots.owner refl e w b q f
process_first-held i n h d a (Some CloseMark) e w b q f = rw q (record { behind = refl; dropped = d; fine = rw (is_same-refl i, append-nil h.acted) (close-fine n h d (core_of a.slots) e w b f) })
process_first-held i n h d a (Some InFlight) e w b q f = quiet-held i n h d a.out.effects a.slots q f
process_first-held i n h d a None e w b q f = quiet-held i n h d a.out.effects a.slots q f

pub none_some : (o : Option PromiseId) → is_none o ≡ true → is_some o ≡ false
none_some o e = grind arith

pub advance-held : (i : StreamId) (n : Due) (h : Writes) (d : List Value) (a : Acts) → a.out.effects ≡ [] → Fine n h d (core_of a.slots) → Held i n h (advance_queue i a).out.effects (advance_queue i a).slots
unfolding advance_queue
advance-held i n h d a q f =
    let processed : Acts = process_first i a (first_value a.slots.queue) in
    either (λ (z : Acts). Held i n h z.out.effects z.slots) (a.slots.started && is_none a.slots.write_in_flight) (if is_erroring a.slots.state then finish_erroring i a else processed) a
    (λ ready. either (λ (z : Acts). Held i n h z.out.effects z.slots) (is_erroring a.slots.state) (finish_erroring i a) processed
    (λ e. finish_erroring-held i n h d a q (grind arith))
    (λ e. process_first-held i n h d a (first_value a.slots.queue) refl (none_some a.slots.write_in_flight (and_right a.slots.started (is_none a.slots.write_in_flight) ready)) (and_left a.slots.started (is_none a.slots.write_in_flight) ready) q f))
    (λ e. quiet-held i n h d a.out.effects a.slots q f)

-- the backpressure doesn't matter

pub refresh-same : (a : Acts) → Same a (refresh_backpressure a)
unfolding refresh_backpressure update_backpressure
refresh-same a = grind arith

-- the close in flight ends

pub clear_error-same : (a : Acts) → Same a (clear_error a)
clear_error-same a = grind arith

pub fulfil_closed-same : (a : Acts) (w : Option Writer) → Same a (fulfil_closed a w)
fulfil_closed-same a w = grind arith

closed : (a : Acts) → (core_of (finish_in_flight_close a).slots ≡ record (core_of a.slots) { state = Closed; closing = false }) × ((finish_in_flight_close a).out.effects ≡ a.out.effects)
unfolding finish_in_flight_close
closed a = grind arith

-- a write

pub not_refused : (s : Slots) → None ≡ write_refusal s → (s.state ≡ Writable) × (is_closing s ≡ false)
not_refused s e = grind arith

appended-fine : (n : Due) (h : Writes) (d : List Value) (q : Queued WriteRecord) (v : Value) (p : PromiseId) (c : Core) → q.value ≡ Chunk v → c.state ≡ Writable → c.requested ≡ false → c.closing ≡ false → Fine n h d c
    → Fine n (record h { written = h.written ++ v ∷ [] }) d (record c { queue = c.queue ++ q ∷ []; requests = c.requests ++ p ∷ [] })
appended-fine n h d q v p c x w r e f =
    let z : h.closes ≡ 0 = grind arith in
    let alive : has_ended c.state ≡ false = rw w refl in
    let u = refuted (has_mark c.queue) c.requested (f.shape.marked alive) r in
    let a = todo-append c.queue (q ∷ []) in
    let b = no_mark-append c.queue q u in
    let l = last-append c.queue q u in
    let k = leads-append c.queue (q ∷ []) in
    let r = f.shape.requests in
    let m = chunk-behind c.writing c.queue q (rw x refl) (f.shape.front alive) in
    let t = f.told.waiting alive in
    record {
      shape = record {
        ended = λ g. cc;
        flying = λ o g n. k (f.shape.flying o (rw w refl) n);
        front = λ g n. filled c.queue q;
        requests = omega (arith, r, m, length-append c.requests (p ∷ []));
        last = l;
        started = f.shape.started;
        marked = λ g n. cc;
        flight = f.shape.flight;
        spent = λ n. absurd (omega (arith, n, z));
        still = f.shape.still;
        once = f.shape.once;
      };
      closing = f.closing;
      told = record {
        all = grind (arith, append_assoc, append-nil);
        live = λ o g. f.told.live o (rw w refl);
        counted = λ o g. f.told.counted o (rw w refl);
        whole = λ o n. absurd (omega (arith, n, z));
        waiting = λ g. omega (arith, t, length-append h.written (v ∷ []), length-append c.requests (p ∷ []));
        fulfilled = λ n. absurd (omega (arith, n, z));
        closed = λ g n. cc;
      };
      owed = grind arith;
    }

write_by-held : (i : StreamId) (v : Value) (p : PromiseId) (n : Due) (h : Writes) (d : List Value) (a : Acts) (refusal : Option Plain) → refusal ≡ write_refusal a.slots → a.out.effects ≡ [] → Fine n h d (core_of a.slots)
    → Held i n (record h { written = h.written ++ written_unless v refusal }) (write_by i v p a refusal).out.effects (write_by i v p a refusal).slots
unfolding controller_write
write_by-held i v p n h d a (Some e) r q f = rw (append-nil h.written) (quiet-held i n h d a.out.effects a.slots q f)
write_by-held i v p n h d a None r q f =
    let u = not_refused a.slots r in
    let b : Acts = enqueue_chunk v (add_write_request p a) in
    let h' : Writes = record h { written = h.written ++ v ∷ [] } in
    let same = refresh-same b in
    advance-held i n h' d (refresh_backpressure b) (same.effects ∙ q) (same_fine n h' d b (refresh_backpressure b) same (appended-fine n h d (record { value = Chunk v; size = size_of a.slots.size_by v }) v p (core_of a.slots) refl u.0 (nor_left (is_some a.slots.close_request) (is_some a.slots.close_in_flight) u.1) (nor_right (is_some a.slots.close_request) (is_some a.slots.close_in_flight) u.1) f))

-- a close

-- the close mark behind a queue
abbrev mark_behind : Acts → Acts
mark_behind a = record a { slots = record a.slots { queue = enqueued CloseMark 0 a.slots.queue } }

marked-fine : (n : Due) (h : Writes) (d : List Value) (q : Queued WriteRecord) (c : Core) → q.value ≡ CloseMark → has_ended c.state ≡ false → c.requested ≡ false → c.closing ≡ false → Fine n h d c
    → Fine n h d (record c { queue = c.queue ++ q ∷ []; requested = true })
marked-fine n h d q c x alive r o f =
    let u = refuted (has_mark c.queue) c.requested (f.shape.marked alive) r in
    let a = todo-append c.queue (q ∷ []) in
    let b = no_mark-append c.queue q u in
    let l = last-append c.queue q u in
    let k = leads-append c.queue (q ∷ []) in
    let n = f.shape.requests in
    let m = marked-behind c.writing c.queue q (rw x refl) in
    let z : h.closes ≡ 0 = grind arith in
    let open_ : is_open c ≡ true = rw alive refl in
    record {
      shape = record {
        ended = λ g. cc;
        flying = λ o g n. k (f.shape.flying o open_ n);
        front = λ g n. filled c.queue q;
        requests = omega (arith, n, m);
        last = l;
        started = f.shape.started;
        marked = λ g n. refl;
        flight = f.shape.flight;
        spent = λ n. absurd (omega (arith, n, z));
        still = f.shape.still;
        once = f.shape.once;
      };
      closing = f.closing;
      told = record {
        all = grind (arith, append-nil);
        live = λ o g. f.told.live o open_;
        counted = λ o g. f.told.counted o open_;
        whole = f.told.whole;
        waiting = f.told.waiting;
        fulfilled = f.told.fulfilled;
        closed = f.told.closed;
      };
      owed = grind arith;
    }

pub fulfil_ready-same : (a : Acts) (w : Option Writer) → Same a (fulfil_ready a w)
fulfil_ready-same a w = grind arith

close-held : (i : StreamId) (p : PromiseId) (n : Due) (h : Writes) (d : List Value) (a : Acts) → a.out.effects ≡ [] → Fine n h d (core_of a.slots) → Held i n h (stream_close i p a).out.effects (stream_close i p a).slots
unfolding stream_close controller_close
close-held i p n h d a q f =
    let b : Acts = add_close_request p a in
    let c : Acts = fulfil_ready b b.slots.writer in
    let same = fulfil_ready-same b b.slots.writer in
    let marked : Same (mark_behind b) (mark_behind c) = record { core = ap (λ (x : Core). record x { queue = enqueued CloseMark 0 x.queue }) same.core; effects = same.effects } in
    either (λ (z : Acts). Held i n h z.out.effects z.slots) (has_ended a.slots.state || is_closing a.slots) (with_promises (settle p (Err type_error) a.out.promises) a) (advance_queue i (mark_behind c))
    (λ g. quiet-held i n h d a.out.effects a.slots q f)
    (λ g.
    let alive = nor_left (has_ended a.slots.state) (is_closing a.slots) g in
    let open_ = nor_right (has_ended a.slots.state) (is_closing a.slots) g in
    let r = nor_left (is_some a.slots.close_request) (is_some a.slots.close_in_flight) open_ in
    let o = nor_right (is_some a.slots.close_request) (is_some a.slots.close_in_flight) open_ in
    advance-held i n h d (mark_behind c) (same.effects ∙ q)
    (same_fine n h d (mark_behind b) (mark_behind c) marked (marked-fine n h d (record { value = CloseMark; size = 0 }) (core_of a.slots) refl alive r o f)))

propagating-held : (i : StreamId) (p : PromiseId) (n : Due) (h : Writes) (d : List Value) (a : Acts) → a.out.effects ≡ [] → Fine n h d (core_of a.slots)
    → Held i n h (close_with_error_propagation i p a).out.effects (close_with_error_propagation i p a).slots
unfolding close_with_error_propagation
propagating-held i p n h d a q f =
    either (λ (z : Acts). Held i n h z.out.effects z.slots) (is_closing a.slots || is_closed a.slots.state) _ _ (λ g. quiet-held i n h d a.out.effects a.slots q f)
    (λ g. either (λ (z : Acts). Held i n h z.out.effects z.slots) (is_errored a.slots.state) _ _ (λ e. quiet-held i n h d a.out.effects a.slots q f) (λ e. close-held i p n h d a q f))

-- an abort

begin_abort-held : (i : StreamId) (r : Plain) (p : PromiseId) (n : Due) (h : Writes) (d : List Value) (a : Acts) → has_ended a.slots.state ≡ false → a.out.effects ≡ [] → Fine n h d (core_of a.slots)
    → Held i n h (begin_abort i r p a).out.effects (begin_abort i r p a).slots
begin_abort-held i r p n h d a alive q f =
    let b : Acts = add_pending_abort r p a in
    either (λ (z : Acts). Held i n h z.out.effects z.slots) (is_erroring a.slots.state) b (start_erroring i r b)
    (λ e. quiet-held i n h d b.out.effects b.slots q f)
    (λ e. start_erroring-held i n h d r b (grind arith) q f)

pub signalled-same : (i : StreamId) (r : Plain) (a : Acts) (owner : Owner) → Same a (signalled i r a owner)
signalled-same i r a Host = record { core = refl; effects = refl }
signalled-same i r a (HalfOf t) = record { core = refl; effects = refl }
signalled-same i r a (BranchOf t half) = record { core = refl; effects = refl }
signalled-same i r a (EndOf c) = record { core = refl; effects = refl }

abort-held : (i : StreamId) (r : Plain) (p : PromiseId) (n : Due) (h : Writes) (d : List Value) (a : Acts) → a.out.effects ≡ [] → Fine n h d (core_of a.slots) → Held i n h (stream_abort i r p a).out.effects (stream_abort i r p a).slots
unfolding stream_abort
abort-held i r p n h d a q f =
    let b : Acts = signalled i r a a.slots.owner in
    let same = signalled-same i r a a.slots.owner in
    either (λ (z : Acts). Held i n h z.out.effects z.slots) (has_ended a.slots.state) (with_promises (settle p (Ok Undefined) a.out.promises) a) (begin_abort i r p b)
    (λ e. quiet-held i n h d a.out.effects a.slots q f)
    (λ e. begin_abort-held i r p n h d b (ap (λ (c : Core). has_ended c.state) same.core ∙ e) (same.effects ∙ q) (same_fine n h d a b same f))

abort_writable-held : (i : StreamId) (r : Plain) (p : PromiseId) (n : Due) (h : Writes) (d : List Value) (a : Acts) → a.out.effects ≡ [] → Fine n h d (core_of a.slots)
    → Held i n h (abort_if_writable i r p a).out.effects (abort_if_writable i r p a).slots
unfolding abort_if_writable
abort_writable-held i r p n h d a q f =
    either (λ (z : Acts). Held i n h z.out.effects z.slots) (is_writable a.slots.state) _ _ (λ g. abort-held i r p n h d a q f) (λ g. quiet-held i n h d a.out.effects a.slots q f)

-- writers

pub release-same : (a : Acts) (w : Option Writer) → Same a (release_by a w)
release-same a w = grind arith

-- each operation, but for the handing on of a chunk

-- what is under way where this operation is to be performed
abbrev pub with_operation : StreamId → WritableOperation → Due → Due
with_operation i operation n = with_effects i n (OnWritable i operation ∷ [])

pub writes-nothing : (h : Writes) → writes_then h no_writes ≡ h
writes-nothing h = grind (arith, append-nil)

writes-written : (h : Writes) (vs : List Value) → writes_then h (record no_writes { written = vs }) ≡ record h { written = h.written ++ vs }
writes-written h vs = grind (arith, append-nil)

writes-fulfilled : (h : Writes) (m : ℕ) → writes_then h (record no_writes { fulfilled = m }) ≡ record h { fulfilled = h.fulfilled + m }
writes-fulfilled h m = grind (arith, append-nil)

pub same_once : (i : StreamId) → one_if (is_same i i) ≡ 1
same_once i = rw (is_same-refl i) refl

pub ended_by : (m : ℕ) (s : WritableState) → (has_ended s ≡ false → m ≡ 0) → 1 ≤ m → has_ended s ≡ true
ended_by m s f l = grind arith

pub operation-held : (i : StreamId) (operation : WritableOperation) (n : Due) (h : Writes) (d : List Value) (a : Acts) → (IsHandOn operation → ⊥) → a.out.effects ≡ [] → Fine (with_operation i operation n) h d (core_of a.slots)
    → Held i n (writes_then h (operation_writes operation a.slots)) (writable_operation i operation a).out.effects (writable_operation i operation a).slots
unfolding set_up_writer writer_release writer_write start_settled write_settled close_settled finish_in_flight_close_with_error abort_settled
operation-held i (SetUpWriter w) n h d a u q f = rw (writes-nothing h) (quiet-held i n h d a.out.effects (set_up_writer w a).slots q (grind arith))
operation-held i ReleaseWriter n h d a u q f =
    let same = release-same a a.slots.writer in rw (writes-nothing h) (quiet-held i n h d (writer_release a).out.effects (writer_release a).slots (same.effects ∙ q) (same_fine n h d a (writer_release a) same (grind arith)))
operation-held i (Write v p) n h d a u q f = rw (writes-written h (written_by v a.slots)) (write_by-held i v p n h d a (write_refusal a.slots) refl q (grind arith))
operation-held i (Close p) n h d a u q f = rw (writes-nothing h) (close-held i p n h d a q (grind arith))
operation-held i (ClosePropagating p) n h d a u q f = rw (writes-nothing h) (propagating-held i p n h d a q (grind arith))
operation-held i (Abort r p) n h d a u q f = rw (writes-nothing h) (abort-held i r p n h d a q (grind arith))
operation-held i (AbortIfWritable r p) n h d a u q f = rw (writes-nothing h) (abort_writable-held i r p n h d a q (grind arith))
operation-held i (ErrorIfNeeded e) n h d a u q f = rw (writes-nothing h) (error_if_needed-held i n h d e a q (grind arith))
operation-held i (HandOn taker) n h d a u q f = absurd (u tt)
operation-held i (StartSettled (Ok v)) n h d a u q f = let one = same_once i in rw (writes-nothing h) (advance-held i n h d (record a { slots = record a.slots { started = true } }) q (grind arith))
operation-held i (StartSettled (Err e)) n h d a u q f = let one = same_once i in rw (writes-nothing h) (deal-held i n h d e (record a { slots = record a.slots { started = true } }) q (grind arith))
operation-held i (WriteSettled (Ok v)) n h d a u q f =
    let one = same_once i in
    let w : is_some a.slots.write_in_flight ≡ true = grind arith in
    let b : Acts = without_first (write_ended (Ok Undefined) a) in
    let h' : Writes = record h { fulfilled = h.fulfilled + 1 } in
    let same = refresh-same b in
    rw (writes-fulfilled h (fulfilled_by (Ok v) a.slots), w) (advance-held i n h' d (refresh_backpressure b) (same.effects ∙ q) (same_fine n h' d b (refresh_backpressure b) same (grind arith)))
operation-held i (WriteSettled (Err e)) n h d a u q f = let one = same_once i in rw (writes-nothing h) (fails-held i n h d e (write_ended (Err e) a) q (grind arith) (grind arith))
operation-held i (CloseSettled (Ok v)) n h d a u q f =
    let one = same_once i in
    let c = closed a in rw (writes-nothing h) (quiet-held i n h d (finish_in_flight_close a).out.effects (finish_in_flight_close a).slots (c.1 ∙ q) (rw c.0 (grind arith)))
operation-held i (CloseSettled (Err e)) n h d a u q f = let one = same_once i in rw (writes-nothing h) (fails-held i n h d e (abort_ended (Err e) (close_ended (Err e) a)) q (grind arith) (grind arith))
operation-held i (AbortSettled p (Ok v)) n h d a u q f =
    let one = same_once i in rw (writes-nothing h) (reject_both-held i n h d (with_promises (settle p (Ok Undefined) a.out.promises) a) (ended_by _ a.slots.state f.owed.aborts (omega arith)) q (grind arith))
operation-held i (AbortSettled p (Err e)) n h d a u q f =
    let one = same_once i in rw (writes-nothing h) (reject_both-held i n h d (with_promises (settle p (Err e) a.out.promises) a) (ended_by _ a.slots.state f.owed.aborts (omega arith)) q (grind arith))
