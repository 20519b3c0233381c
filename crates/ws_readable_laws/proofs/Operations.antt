-- What each operation of a readable stream keeps of its order.
use Rattle.std.proofs.Common.{◌≡◌, ◌+◌, ◌≤◌, Bool, true, false, not, ◌||◌, ◌&&◌, is_some, if◌then◌else◌, List, [], ◌∷◌, ◌++◌, length, Option, Some, None, Ok, Err, refl, sym, subst, ap, arith, append_assoc, append-nil, length-append, add-zero}
use Rattle.ws_value.specs.declared.ids.PromiseId.{PromiseId}
use Rattle.ws_value.specs.declared.ids.StreamId.{StreamId}
use Rattle.ws_value.specs.declared.value.Plain.{Plain}
use Rattle.ws_value.specs.declared.value.Value.{Value}
use Rattle.ws_steps.specs.declared.{queue.Queued.{Queued}, readable.ReadRequest.{ReadRequest}, readable.ReadableOperation.{ReadableOperation}}
use Rattle.ws_steps.specs.declared.readable.ReadableOperation.TheVariants.{InitializeReader, ReleaseReader, Disturb, Read, Cancel, CancelIfReadable, Enqueue, Close, Error, StartSettled, PullSettled}
use Rattle.ws_steps.specs.declared.{readable.ReadableState.{ReadableState}, readable.ReadableState.TheVariants.{Readable, Closed, Errored}}
use Rattle.ws_steps.specs.Operations.{readable_operation}
use Rattle.ws_steps.specs.Queues.{is_empty}
use Rattle.ws_steps.specs.Readable.{Slots, Acts, is_readable, waiting, can_close_or_enqueue, should_call_pull, call_pull, call_pull_if_needed, accept_for, accept, controller_enqueue, close_reader, stream_close, error_reader, stream_error, close_if_empty, controller_close, controller_error, after_take, pull_from, read_by, cancel_by, pull_ended, pull_steps, default_reader_read, reader_generic_initialize, start_settled, pull_settled, cancel_steps, stream_cancel, release_by, reader_release, disturb, cancel_readable_by, cancel_if_readable}
use Rattle.ws_steps.specs.ReadableHistory.{Flow, no_flow, flow_then, values, operation_flow}
use Rattle.ws_laws.proofs.Tables.{either}
use Rattle.ws_laws.proofs.Truth.{false_true, and_right, nor_left, nor_right}

-- the requests of a reader, where there is one
abbrev wait : Option PromiseId → List ReadRequest → List ReadRequest
wait reader requests = if is_some reader then requests else []

-- Where what is due counts as given: what entered was given, is queued, or was dropped, in this order; a stream that isn't readable has
-- nothing queued; and no request waits beside a queue
pub record Balanced (h : Flow) (dropped : List Value) (state : ReadableState) (queue : List (Queued Value))
    (reader : Option PromiseId) (requests : List ReadRequest) : Type 0 where
  pub all : h.entered ≡ h.given ++ (values queue ++ dropped)
  pub live : state ≡ Readable → dropped ≡ []
  pub whole : h.cancelled ≡ false → state ≡ Closed → dropped ≡ []
  pub gone : is_readable state ≡ false → values queue ≡ []
  pub fit : is_empty queue ≡ false → wait reader requests ≡ []
  pub asked : length h.given + length requests ≤ h.asked

abbrev pub Is : Flow → List Value → Slots → Type 0
Is h d s = Balanced h d s.state s.queue s.reader s.requests

-- balanced, whatever was dropped
pub record Held (h : Flow) (s : Slots) : Type 0 where
  pub dropped : List Value
  pub balanced : Is h dropped s

values-append : (xs ys : List (Queued Value)) → values (xs ++ ys) ≡ values xs ++ values ys
values-append [] ys = refl
values-append (x ∷ xs) ys = ap (λ vs. x.value ∷ vs) (values-append xs ys)

pub or_false : (b : Bool) → b || false ≡ b
or_false true = refl
or_false false = refl

-- nothing happens
pub same_flow : (h : Flow) → flow_then h no_flow ≡ h
same_flow h = λ i. record { entered = append-nil h.entered i; given = append-nil h.given i; cancelled = or_false h.cancelled i; asked = add-zero h.asked i }

pub readable_by : (c : Bool) (s : ReadableState) → not c && is_readable s ≡ true → s ≡ Readable
readable_by c Readable e = refl
readable_by true Closed e = cc
readable_by false Closed e = cc
readable_by true Errored e = cc
readable_by false Errored e = cc

state_is : (s z : ReadableState) → s ≡ z → is_readable s ≡ is_readable z
state_is s z e = ap is_readable e

emptied : (queue : List (Queued Value)) → is_empty queue ≡ true → values queue ≡ []
emptied [] e = refl
emptied (q ∷ queue) e = cc

filled : (queue : List (Queued Value)) (ws : List ReadRequest) (r : ReadRequest) (rs : List ReadRequest) → (is_empty queue ≡ false → ws ≡ []) → r ∷ rs ≡ ws → values queue ≡ []
filled [] ws r rs f e = refl
filled (q ∷ queue) ws r rs f e = let n = f refl in cc

within : (reader : Option PromiseId) (rs : List ReadRequest) → length (wait reader rs) ≤ length rs
within None rs = omega arith
within (Some p) rs = omega arith

-- what an operation is about to give: the chunk steps that it causes

abbrev pub given_to : Value → List ReadRequest → List Value
given_to v [] = []
given_to v (r ∷ rs) = v ∷ []

abbrev pub first_given : ReadableState → List (Queued Value) → List Value
first_given Readable [] = []
first_given Readable (q ∷ qs) = q.value ∷ []
first_given Closed queue = []
first_given Errored queue = []

abbrev pub due : ReadableOperation → Slots → List Value
due (Enqueue v) s = if can_close_or_enqueue s then given_to v (waiting s) else []
due (Read request) s = first_given s.state s.queue
due _ s = []

-- the flow of an operation with what it is about to give
abbrev pub with_due : ReadableOperation → Slots → Flow
with_due operation s = record (operation_flow operation s) { given = due operation s }

module _ (me : StreamId) where
  -- nothing more was given
  reflowed : (h g : Flow) (d : List Value) (s : Slots) → g.entered ≡ h.entered → g.given ≡ h.given → (g.cancelled ≡ false → h.cancelled ≡ false) → h.asked ≤ g.asked
      → Is h d s → Is g d s
  reflowed h g d s e f c n b = record {
    all = rw (e, f) b.all;
    live = b.live;
    whole = λ k. b.whole (c k);
    gone = b.gone;
    fit = b.fit;
    asked = let m = b.asked in let l = ap length f in omega arith;
  }

  -- the stream ends, and drops what was queued
  over : (h : Flow) (d : List Value) (s z : Slots) → is_readable z.state ≡ false → values z.queue ≡ [] → (h.cancelled ≡ false → z.state ≡ Closed → values s.queue ++ d ≡ [])
      → length z.requests ≤ length s.requests → (is_empty z.queue ≡ false → wait z.reader z.requests ≡ []) → Is h d s → Is h (values s.queue ++ d) z
  over h d s z n e c l f b = record {
    all = rw e b.all;
    live = λ r. false_true (is_readable z.state) (state_is z.state Readable r) n;
    whole = c;
    gone = λ k. e;
    fit = f;
    asked = let m = b.asked in omega arith;
  }

  -- a reader comes or goes, and its requests are gone
  unlocked : (h : Flow) (d : List Value) (s : Slots) (reader : Option PromiseId) → Is h d s → Is h d (record s { reader = reader; requests = [] })
  unlocked h d s reader b = record {
    all = b.all;
    live = b.live;
    whole = b.whole;
    gone = b.gone;
    fit = λ e. either (λ (rs : List ReadRequest). rs ≡ []) (is_some reader) [] [] (λ f. refl) (λ f. refl);
    asked = let n = b.asked in omega arith;
  }

  pull_keeps : (h : Flow) (d : List Value) (a : Acts) → Is h d a.slots → Is h d (call_pull_if_needed me a).slots
  unfolding call_pull_if_needed
  pull_keeps h d a b =
      either (λ (z : Acts). Is h d z.slots) (should_call_pull a.slots) (call_pull me a) a
      (λ e. either (λ (z : Acts). Is h d z.slots) a.slots.pulling _ _ (λ e. b) (λ e. b)) (λ e. b)

  accept_keeps : (v : Value) (h : Flow) (d : List Value) (a : Acts) (rs : List ReadRequest) → rs ≡ waiting a.slots → a.slots.state ≡ Readable → Is h d a.slots
      → Is (flow_then h (record { entered = v ∷ []; given = given_to v rs; cancelled = false; asked = 0 })) d (accept_for me v a rs).slots
  accept_keeps v h d a [] w r b = record {
    all = rw values-append (simp (b.all, b.live r, append-nil, append_assoc));
    live = b.live;
    whole = λ c e. b.live r;
    gone = λ n. false_true (is_readable a.slots.state) (state_is a.slots.state Readable r) n;
    fit = λ e. sym w;
    asked = let n = b.asked in omega (arith, length-append h.given []);
  }
  accept_keeps v h d a (q ∷ rs) w r b = let none : values a.slots.queue ≡ [] = filled a.slots.queue (waiting a.slots) q rs b.fit w in record {
    all = simp (b.all, none, b.live r, append-nil);
    live = b.live;
    whole = λ c e. b.live r;
    gone = λ n. none;
    fit = λ e. let n : waiting a.slots ≡ [] = b.fit e in cc;
    asked =
        let n = b.asked in
        let m = within a.slots.reader a.slots.requests in
        let l : length (q ∷ rs) ≡ length (waiting a.slots) = ap length w in
        omega (arith, length-append h.given (v ∷ []));
  }

  enqueue_by : (v : Value) (h : Flow) (d : List Value) (a : Acts) (t : Bool) → t ≡ can_close_or_enqueue a.slots → Is h d a.slots
      → Is (flow_then h (record (if t then record no_flow { entered = v ∷ [] } else no_flow) { given = if t then given_to v (waiting a.slots) else [] })) d
      (if t then call_pull_if_needed me (accept me v a) else a).slots
  unfolding accept
  enqueue_by v h d a false e b = rw same_flow b
  enqueue_by v h d a true e b = pull_keeps _ d (accept me v a) (accept_keeps v h d a (waiting a.slots) refl (readable_by a.slots.close_requested a.slots.state (sym e)) b)

  -- the closing of a stream; only without a cancel must all be given
  close_keeps : (h : Flow) (d : List Value) (a : Acts) (reader : Option PromiseId) → reader ≡ a.slots.reader → (h.cancelled ≡ false → d ≡ []) → values a.slots.queue ≡ []
      → Is h d a.slots → Is h d (close_reader me (record a { slots = record a.slots { state = Closed } }) reader).slots
  close_keeps h d a None e c n b =
      rw n at (over h d a.slots (record a.slots { state = Closed }) refl n (λ k f. rw n (c k)) (omega arith) b.fit b)
  close_keeps h d a (Some closed) e c n b =
      rw n at (over h d a.slots (record a.slots { state = Closed; requests = [] }) refl n (λ k f. rw n (c k)) (omega arith) (λ f. rw (← e) refl) b)

  controller_close_keeps : (h : Flow) (d : List Value) (a : Acts) → Is h d a.slots → Is h d (controller_close me a).slots
  unfolding controller_close close_if_empty stream_close
  controller_close_keeps h d a b =
      let c : Acts = record a { slots = record a.slots { close_requested = true } } in
      either (λ (z : Acts). Is h d z.slots) (can_close_or_enqueue a.slots) (close_if_empty me c) a
      (λ can. either (λ (z : Acts). Is h d z.slots) (is_empty c.slots.queue) (stream_close me c) c
      (λ e. close_keeps h d c c.slots.reader refl (λ k. b.live (readable_by a.slots.close_requested a.slots.state can)) (emptied a.slots.queue e) b) (λ e. b))
      (λ cannot. b)

  after_take_keeps : (h : Flow) (d : List Value) (a : Acts) → a.slots.state ≡ Readable → Is h d a.slots → Is h d (after_take me a).slots
  unfolding after_take stream_close
  after_take_keeps h d a r b =
      either (λ (z : Acts). Is h d z.slots) (a.slots.close_requested && is_empty a.slots.queue) (stream_close me a) (call_pull_if_needed me a)
      (λ e. close_keeps h d a a.slots.reader refl (λ k. b.live r) (emptied a.slots.queue (and_right a.slots.close_requested (is_empty a.slots.queue) e)) b) (λ e. pull_keeps h d a b)

  error_reader_keeps : (e : Plain) (h : Flow) (d : List Value) (a : Acts) (reader : Option PromiseId) → reader ≡ a.slots.reader → Is h d a.slots
      → Held h (error_reader me e (record a { slots = record a.slots { state = Errored; stored_error = e; queue = [] } }) reader).slots
  error_reader_keeps e h d a None r b =
      record { dropped = _; balanced = over h d a.slots (record a.slots { state = Errored; queue = [] }) refl refl (λ k f. cc) (omega arith) (λ f. cc) b }
  error_reader_keeps e h d a (Some closed) r b =
      record { dropped = _; balanced = over h d a.slots (record a.slots { state = Errored; queue = []; requests = [] }) refl refl (λ k f. cc) (omega arith) (λ f. cc) b }

  error_keeps : (e : Plain) (h : Flow) (a : Acts) → Held h a.slots → Held h (controller_error me e a).slots
  unfolding controller_error stream_error
  error_keeps e h a k =
      either (λ (z : Acts). Held h z.slots) (is_readable a.slots.state) _ a (λ is. error_reader_keeps e h k.dropped a a.slots.reader refl k.balanced) (λ isnt. k)

  taken : (E G Q D : List Value) (v : Value) → E ≡ G ++ ((v ∷ Q) ++ D) → E ++ [] ≡ (G ++ v ∷ []) ++ (Q ++ D)
  taken E G Q D v e = simp (e, append-nil, append_assoc)

  -- a read takes the first chunk of the queue, or waits
  pull_from_keeps : (r : ReadRequest) (h : Flow) (d : List Value) (a : Acts) (queue : List (Queued Value)) → queue ≡ a.slots.queue → a.slots.state ≡ Readable → Is h d a.slots
      → Is (flow_then h (record { entered = []; given = first_given Readable queue; cancelled = false; asked = 1 })) d (pull_from me r a queue).slots
  pull_from_keeps r h d a [] q s b =
      pull_keeps _ d (record a { slots = record a.slots { requests = a.slots.requests ++ r ∷ [] } })
      (record {
        all = rw (append-nil h.entered, append-nil h.given) b.all;
        live = b.live;
        whole = λ c f. b.live s;
        gone = b.gone;
        fit = λ e. let n : is_empty a.slots.queue ≡ true = rw (← q) refl in cc;
        asked = let n = b.asked in omega (arith, length-append h.given [], length-append a.slots.requests (r ∷ []));
      })
  pull_from_keeps r h d a (q ∷ qs) e s b =
      after_take_keeps _ d (record a { slots = record a.slots { queue = qs } }) s
      (record {
        all = taken h.entered h.given (values qs) d q.value (rw (← e) at b.all);
        live = b.live;
        whole = λ c f. b.live s;
        gone = λ n. false_true (is_readable a.slots.state) (state_is a.slots.state Readable s) n;
        fit = λ f. b.fit (rw (← e) refl);
        asked = let n = b.asked in omega (arith, length-append h.given (q.value ∷ []));
      })

  read_by_keeps : (r : ReadRequest) (h : Flow) (d : List Value) (a : Acts) (state : ReadableState) → state ≡ a.slots.state → Is h d a.slots
      → Is (flow_then h (record { entered = []; given = first_given state a.slots.queue; cancelled = false; asked = if is_readable state then 1 else 0 })) d (read_by me r a state).slots
  unfolding pull_steps
  read_by_keeps r h d a Readable s b = pull_from_keeps r h d a a.slots.queue refl (sym s) b
  read_by_keeps r h d a Closed s b = rw same_flow b
  read_by_keeps r h d a Errored s b = rw same_flow b

  cancel_reader_keeps : (g : Flow) (d : List Value) (a : Acts) (reader : Option PromiseId) → reader ≡ a.slots.reader → (g.cancelled ≡ false → values a.slots.queue ++ d ≡ []) → Is g d a.slots
      → Is g (values a.slots.queue ++ d) (record (close_reader me (record a { slots = record a.slots { state = Closed } }) reader).slots { queue = [] })
  cancel_reader_keeps g d a None e c b = over g d a.slots (record a.slots { state = Closed; queue = [] }) refl refl (λ k f. c k) (omega arith) (λ f. cc) b
  cancel_reader_keeps g d a (Some closed) e c b = over g d a.slots (record a.slots { state = Closed; queue = []; requests = [] }) refl refl (λ k f. c k) (omega arith) (λ f. cc) b

  cancel_by_keeps : (e : Plain) (p : PromiseId) (h : Flow) (d : List Value) (a : Acts) (state : ReadableState) → state ≡ a.slots.state → Is h d a.slots
      → Held (flow_then h (record no_flow { cancelled = is_readable state })) (cancel_by me e p a state).slots
  unfolding cancel_steps stream_close
  cancel_by_keeps e p h d a Readable s b =
      let g : Flow = flow_then h (record no_flow { cancelled = true }) in
      record {
        dropped = _;
        balanced =
            cancel_reader_keeps g d a a.slots.reader refl (λ c. let n = nor_right h.cancelled true c in cc)
            (reflowed h g d a.slots (append-nil h.entered) (append-nil h.given) (nor_left h.cancelled true) (omega arith) b);
      }
  cancel_by_keeps e p h d a Closed s b = record { dropped = d; balanced = rw same_flow b }
  cancel_by_keeps e p h d a Errored s b = record { dropped = d; balanced = rw same_flow b }

  cancel_readable_keeps : (e : Plain) (p : PromiseId) (h : Flow) (a : Acts) (state : ReadableState) → state ≡ a.slots.state → Held h a.slots
      → Held (flow_then h (record no_flow { cancelled = is_readable state })) (cancel_readable_by me e p a state).slots
  unfolding stream_cancel
  cancel_readable_keeps e p h a Readable s k =
      let b : Acts = record a { slots = record a.slots { disturbed = true } } in
      subst (λ (z : ReadableState). Held (flow_then h (record no_flow { cancelled = is_readable z })) (cancel_by me e p b b.slots.state).slots) (sym s)
      (cancel_by_keeps e p h k.dropped b b.slots.state refl k.balanced)
  cancel_readable_keeps e p h a Closed s k = rw same_flow k
  cancel_readable_keeps e p h a Errored s k = rw same_flow k

  release_by_keeps : (h : Flow) (d : List Value) (a : Acts) (reader : Option PromiseId) → Is h d a.slots → Is h d (release_by me a reader).slots
  release_by_keeps h d a None b = b
  release_by_keeps h d a (Some closed) b = unlocked h d a.slots None b

  pull_ended_keeps : (h : Flow) (d : List Value) (a : Acts) (again : Bool) → Is h d a.slots → Is h d (pull_ended me a again).slots
  pull_ended_keeps h d a true b = pull_keeps h d (record a { slots = record a.slots { pull_again = false } }) b
  pull_ended_keeps h d a false b = b

  pub operation_keeps : (operation : ReadableOperation) (h : Flow) (a : Acts) → Held h a.slots → Held (flow_then h (with_due operation a.slots)) (readable_operation me operation a).slots
  unfolding controller_enqueue disturb default_reader_read stream_cancel cancel_if_readable reader_generic_initialize reader_release start_settled pull_settled
  operation_keeps (Enqueue v) h a k = record { dropped = k.dropped; balanced = enqueue_by v h k.dropped a (can_close_or_enqueue a.slots) refl k.balanced }
  operation_keeps (Read r) h a k =
      record { dropped = k.dropped; balanced = read_by_keeps r h k.dropped (record a { slots = record a.slots { disturbed = true } }) a.slots.state refl k.balanced }
  operation_keeps (Cancel e p) h a k = cancel_by_keeps e p h k.dropped (record a { slots = record a.slots { disturbed = true } }) a.slots.state refl k.balanced
  operation_keeps (CancelIfReadable e p) h a k = cancel_readable_keeps e p h a a.slots.state refl k
  operation_keeps Disturb h a k = record { dropped = k.dropped; balanced = rw same_flow k.balanced }
  operation_keeps (InitializeReader closed) h a k = record { dropped = k.dropped; balanced = rw same_flow (unlocked h k.dropped a.slots (Some closed) k.balanced) }
  operation_keeps ReleaseReader h a k = record { dropped = k.dropped; balanced = rw same_flow (release_by_keeps h k.dropped a a.slots.reader k.balanced) }
  operation_keeps Close h a k = record { dropped = k.dropped; balanced = rw same_flow (controller_close_keeps h k.dropped a k.balanced) }
  operation_keeps (Error e) h a k = rw same_flow (error_keeps e h a k)
  operation_keeps (StartSettled (Ok v)) h a k =
      record { dropped = k.dropped; balanced = rw same_flow (pull_keeps h k.dropped (record a { slots = record a.slots { started = true } }) k.balanced) }
  operation_keeps (StartSettled (Err e)) h a k = rw same_flow (error_keeps e h a k)
  operation_keeps (PullSettled (Ok v)) h a k =
      record { dropped = k.dropped; balanced = rw same_flow (pull_ended_keeps h k.dropped (record a { slots = record a.slots { pulling = false } }) a.slots.pull_again k.balanced) }
  operation_keeps (PullSettled (Err e)) h a k = rw same_flow (error_keeps e h a k)
