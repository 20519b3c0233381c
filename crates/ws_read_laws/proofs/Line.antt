-- What each operation of a readable stream does to its reads: those that were answered, and then those that wait.
use Rattle.std.proofs.Common.{◌≡◌, Bool, true, false, is_some, ◌&&◌, if◌then◌else◌, List, [], ◌∷◌, ◌++◌, map, All, Option, Some, None, Ok, Err, refl, sym, ap, ◌∙◌, append_assoc, append-nil, arith}
use Rattle.std.proofs.lemmas.List.{map-append}
use Rattle.std.proofs.lemmas.List.Elements.{All-nil, All-cons, All-head, All-tail, All-append}
use Rattle.ws_value.specs.declared.ids.PromiseId.{PromiseId}
use Rattle.ws_value.specs.declared.ids.StreamId.{StreamId}
use Rattle.ws_value.specs.declared.value.{Plain.{Plain}, Value.{Value}}
use Rattle.ws_steps.specs.declared.{effects.Effect.{Effect}, effects.Effect.TheVariants.{PullAlgorithm, CancelAlgorithm, ChunkSteps, CloseSteps, ErrorSteps}, queue.Queued.{Queued}, readable.ReadRequest.{ReadRequest}}
use Rattle.ws_steps.specs.declared.{readable.ReadableOperation.{ReadableOperation}, readable.ReadableOperation.TheVariants.{InitializeReader, ReleaseReader, Disturb, Read, Cancel, CancelIfReadable, Enqueue, Close, Error, StartSettled, PullSettled}}
use Rattle.ws_steps.specs.declared.{readable.ReadableState.{ReadableState}, readable.ReadableState.TheVariants.{Readable, Closed, Errored}}
use Rattle.ws_steps.specs.Effects.{Out, cause, type_error}
use Rattle.ws_steps.specs.Operations.{readable_operation}
use Rattle.ws_steps.specs.Queues.{is_empty}
use Rattle.ws_steps.specs.Readable.{Slots, Acts, causing, is_readable, waiting, can_close_or_enqueue, should_call_pull, call_pull, call_pull_if_needed, accept_for, accept, controller_enqueue, close_reader, stream_close, error_reader, stream_error, close_if_empty, controller_close, controller_error, after_take, pull_from, pull_steps, read_by, default_reader_read, settle_closed, reader_generic_initialize, start_settled, pull_settled, pull_ended, disturb, cancel_steps, cancel_by, stream_cancel, cancel_readable_by, cancel_if_readable, release_closed, release_by, reader_release, close_all, error_all}
use Rattle.ws_steps.specs.ReadableHistory.{Reads, no_reads, reads_then, operation_reads, ReadAnswer, Gets, Ends, Fails, Released, Answered, requests_of, if_released, released_of}
use Rattle.ws_steps.specs.Laws.{read_outcome, Allows}
use Rattle.ws_laws.proofs.Tables.{either}
use Rattle.ws_laws.proofs.Truth.{false_true}
use Rattle.ws_readable_laws.proofs.Operations.{readable_by}
use Rattle.ws_read_laws.proofs.Marks.{Done, done_of, shown, shown-all, shown-cause, shown-chunk, shown-close, shown-error, with_answer, close_all-shown, error_all-shown}

abbrev pub AllAllowed : ReadableState → List Answered → Type 0
AllAllowed state xs = All (λ a. Allows state a.answer) xs

-- no read waits at a stream that has ended, beside a queue, or where there is no reader
pub record MayWait (state : ReadableState) (reader : Option PromiseId) (requests : List ReadRequest) (queue : List (Queued Value)) : Type 0 where
  pub ended : is_readable state ≡ false → requests ≡ []
  pub served : is_empty queue ≡ false → requests ≡ []
  pub locked : is_some reader ≡ false → requests ≡ []

-- The reads of a stream with these slots, of which so many were answered or are about to be
pub record Line (h : Reads) (done : List Done) (state : ReadableState) (e : Plain) (reader : Option PromiseId) (requests : List ReadRequest) (queue : List (Queued Value)) : Type 0 where
  pub answered : List Answered
  pub order : requests_of answered ++ requests ≡ h.asked
  pub told : map (done_of e) answered ≡ done
  pub allowed : AllAllowed state answered
  pub released : released_of answered ≡ h.released
  pub waits : MayWait state reader requests queue

requests_of-append : (xs ys : List Answered) → requests_of (xs ++ ys) ≡ requests_of xs ++ requests_of ys
requests_of-append [] ys = refl
requests_of-append (x ∷ xs) ys = ap (λ (rs : List ReadRequest). x.request ∷ rs) (requests_of-append xs ys)

released_of-append : (xs ys : List Answered) → released_of (xs ++ ys) ≡ released_of xs ++ released_of ys
released_of-append [] ys = refl
released_of-append (x ∷ xs) ys = ap (λ (rs : List ReadRequest). if_released x.request x.answer ++ rs) (released_of-append xs ys) ∙ sym (append_assoc (if_released x.request x.answer) (released_of xs) (released_of ys))

with_answer-requests : (w : ReadAnswer) (rs : List ReadRequest) → requests_of (with_answer w rs) ≡ rs
with_answer-requests w [] = refl
with_answer-requests w (r ∷ rs) = ap (λ (qs : List ReadRequest). r ∷ qs) (with_answer-requests w rs)

with_answer-allowed : (w : ReadAnswer) (state : ReadableState) (rs : List ReadRequest) → Allows state w → AllAllowed state (with_answer w rs)
with_answer-allowed w state [] a = All-nil (λ a. Allows state a.answer)
with_answer-allowed w state (r ∷ rs) a = All-cons (λ a. Allows state a.answer) (record { request = r; answer = w }) (with_answer w rs) a (with_answer-allowed w state rs a)

none_released : (w : ReadAnswer) (rs : List ReadRequest) → ((r : ReadRequest) → if_released r w ≡ []) → released_of (with_answer w rs) ≡ []
none_released w [] n = refl
none_released w (r ∷ rs) n = rw n (none_released w rs n)

all_released : (rs : List ReadRequest) → released_of (with_answer Released rs) ≡ rs
all_released [] = refl
all_released (r ∷ rs) = ap (λ (qs : List ReadRequest). r ∷ qs) (all_released rs)

pub same_reads : (h : Reads) → reads_then h no_reads ≡ h
same_reads h = λ i. record { asked = append-nil h.asked i; released = append-nil h.released i }

-- what was answered before a stream goes on to another state, or gets another stored error
abbrev Stay : ReadableState → ReadableState → Plain → Plain → Type 0
Stay state z e f = (xs : List Answered) → AllAllowed state xs → AllAllowed z xs × (map (done_of f) xs ≡ map (done_of e) xs)

unchanged : (state : ReadableState) (e : Plain) → Stay state state e e
unchanged state e xs a = (a, refl)

-- while it was readable
one_stays : (z : ReadableState) (e f : Plain) (w : ReadAnswer) → Allows Readable w → Allows z w × (read_outcome f w ≡ read_outcome e w)
one_stays z e f (Gets v) a = (tt, refl)
one_stays z e f Ends a = cc
one_stays z e f Fails a = cc
one_stays z e f Released a = (tt, refl)

from_readable : (z : ReadableState) (e f : Plain) → Stay Readable z e f
from_readable z e f [] a = (All-nil (λ a. Allows z a.answer), refl)
from_readable z e f (x ∷ xs) a =
    let first = one_stays z e f x.answer (All-head (λ a. Allows Readable a.answer) x xs a) in
    let rest = from_readable z e f xs (All-tail (λ a. Allows Readable a.answer) x xs a) in
    (All-cons (λ a. Allows z a.answer) x xs first.0 rest.0, λ i. record { request = x.request; outcome = first.1 i } ∷ rest.1 i)

-- none waits
none_waits : (state : ReadableState) (reader : Option PromiseId) (requests : List ReadRequest) (queue : List (Queued Value)) → requests ≡ [] → MayWait state reader requests queue
none_waits state reader requests queue n = record { ended = λ e. n; served = λ e. n; locked = λ e. n }

-- the first of those that wait is answered
one_less : (state : ReadableState) (reader : Option PromiseId) (r : ReadRequest) (rs requests : List ReadRequest) (queue : List (Queued Value)) → r ∷ rs ≡ requests → MayWait state reader requests queue → MayWait state reader rs queue
one_less state reader r rs requests queue e w = record { ended = λ k. let n = w.ended k in cc; served = λ k. let n = w.served k in cc; locked = λ k. let n = w.locked k in cc }

one_allowed : (state : ReadableState) (x : Answered) → Allows state x.answer → AllAllowed state (x ∷ [])
one_allowed state x a = All-cons (λ a. Allows state a.answer) x [] a (All-nil (λ a. Allows state a.answer))

-- what an operation finds: a reader comes where there is none, a reader goes with no effect behind, and a read is asked where there is a
-- reader
abbrev pub Finds : ReadableOperation → Bool → Bool → Type 0
Finds (InitializeReader closed) locked alone = locked ≡ false
Finds ReleaseReader locked alone = alone ≡ true
Finds (Read request) locked alone = locked ≡ true
Finds _ locked alone = Unit {0}

-- whether there is a reader after it
abbrev pub has_after : ReadableOperation → Bool → Bool
has_after (InitializeReader closed) locked = true
has_after ReleaseReader locked = false
has_after _ locked = locked

-- operations

module _ (me : StreamId) where
  abbrev pub Lines : Reads → List Done → Acts → Type 0
  Lines h ds a = Line h (ds ++ shown me a.out) a.slots.state a.slots.stored_error a.slots.reader a.slots.requests a.slots.queue

  -- these are answered, and these asked
  answers : (h : Reads) (ds : List Done) (a b : Acts) (xs : List Answered) (asked gone : List ReadRequest) → requests_of xs ++ b.slots.requests ≡ a.slots.requests ++ asked → AllAllowed b.slots.state xs → released_of xs ≡ gone
      → shown me b.out ≡ shown me a.out ++ map (done_of b.slots.stored_error) xs → Stay a.slots.state b.slots.state a.slots.stored_error b.slots.stored_error
      → MayWait b.slots.state b.slots.reader b.slots.requests b.slots.queue → Lines h ds a → Lines (reads_then h (record { asked = asked; released = gone })) ds b
  answers h ds a b xs asked gone o allowed g e stay w l =
      let kept = stay l.answered l.allowed in
      record {
        answered = l.answered ++ xs;
        order = rw (requests_of-append, append_assoc, o, ← append_assoc, l.order) refl;
        told = rw (map-append, kept.1, l.told, e, append_assoc) refl;
        allowed = All-append (λ a. Allows b.slots.state a.answer) l.answered xs kept.0 allowed;
        released = rw (released_of-append, l.released, g) refl;
        waits = w;
      }

  -- none is answered or asked
  still : (h : Reads) (ds : List Done) (a b : Acts) → shown me b.out ≡ shown me a.out → b.slots.requests ≡ a.slots.requests → Stay a.slots.state b.slots.state a.slots.stored_error b.slots.stored_error
      → MayWait b.slots.state b.slots.reader b.slots.requests b.slots.queue → Lines h ds a → Lines h ds b
  still h ds a b e r stay w l =
      let kept = stay l.answered l.allowed in
      record { answered = l.answered; order = rw r l.order; told = rw e (kept.1 ∙ l.told); allowed = kept.0; released = l.released; waits = w }

  pull-line : (h : Reads) (ds : List Done) (a : Acts) → Lines h ds a → Lines h ds (call_pull_if_needed me a)
  unfolding call_pull_if_needed
  pull-line h ds a l =
      let b : Acts = record { slots = record a.slots { pulling = true }; out = cause (PullAlgorithm me) a.out } in
      either (Lines h ds) (should_call_pull a.slots) (call_pull me a) a
      (λ e. either (Lines h ds) a.slots.pulling (record a { slots = record a.slots { pull_again = true } }) b (λ e. l) (λ e. still h ds a b (shown-cause me (PullAlgorithm me) a.out ∙ append-nil (shown me a.out)) refl (unchanged a.slots.state a.slots.stored_error) l.waits l))
      (λ e. l)

  -- the stream ends, and all that wait are answered

  all-answered : (h : Reads) (ds : List Done) (a b : Acts) (w : ReadAnswer) (gone : List ReadRequest) → Allows b.slots.state w → released_of (with_answer w a.slots.requests) ≡ gone
      → shown me b.out ≡ shown me a.out ++ map (done_of b.slots.stored_error) (with_answer w a.slots.requests) → Stay a.slots.state b.slots.state a.slots.stored_error b.slots.stored_error
      → b.slots.requests ≡ [] → Lines h ds a → Lines (reads_then h (record no_reads { released = gone })) ds b
  all-answered h ds a b w gone allowed g e stay none l =
      answers h ds a b (with_answer w a.slots.requests) [] gone (rw (none, with_answer-requests) refl) (with_answer-allowed w b.slots.state a.slots.requests allowed) g e stay
      (none_waits b.slots.state b.slots.reader b.slots.requests b.slots.queue none) l

  close_reader-line : (h : Reads) (ds : List Done) (a : Acts) (reader : Option PromiseId) → reader ≡ a.slots.reader → a.slots.state ≡ Readable → Lines h ds a → Lines h ds (close_reader me (record a { slots = record a.slots { state = Closed } }) reader)
  close_reader-line h ds a None e s l =
      still h ds a (record a { slots = record a.slots { state = Closed } }) refl refl (rw s (from_readable Closed a.slots.stored_error a.slots.stored_error))
      (none_waits Closed a.slots.reader a.slots.requests a.slots.queue (l.waits.locked (rw (← e) refl))) l
  close_reader-line h ds a (Some closed) e s l =
      rw same_reads at (all-answered h ds a (close_reader me (record a { slots = record a.slots { state = Closed } }) (Some closed)) Ends [] refl (none_released Ends a.slots.requests (λ r. refl))
      (shown-all me (close_all me a.slots.requests) a.out ∙ ap (λ (es : List Done). shown me a.out ++ es) (close_all-shown me a.slots.stored_error a.slots.requests))
      (rw s (from_readable Closed a.slots.stored_error a.slots.stored_error)) refl l)

  stream_close-line : (h : Reads) (ds : List Done) (a : Acts) → a.slots.state ≡ Readable → Lines h ds a → Lines h ds (stream_close me a)
  unfolding stream_close
  stream_close-line h ds a s l = close_reader-line h ds a a.slots.reader refl s l

  error_reader-line : (e : Plain) (h : Reads) (ds : List Done) (a : Acts) (reader : Option PromiseId) → reader ≡ a.slots.reader → a.slots.state ≡ Readable → Lines h ds a
      → Lines h ds (error_reader me e (record a { slots = record a.slots { queue = []; state = Errored; stored_error = e } }) reader)
  error_reader-line e h ds a None r s l =
      still h ds a (record a { slots = record a.slots { queue = []; state = Errored; stored_error = e } }) refl refl (rw s (from_readable Errored a.slots.stored_error e))
      (none_waits Errored a.slots.reader a.slots.requests [] (l.waits.locked (rw (← r) refl))) l
  error_reader-line e h ds a (Some closed) r s l =
      rw same_reads at (all-answered h ds a (error_reader me e (record a { slots = record a.slots { queue = []; state = Errored; stored_error = e } }) (Some closed)) Fails [] refl (none_released Fails a.slots.requests (λ r. refl))
      (shown-all me (error_all me e a.slots.requests) a.out ∙ ap (λ (es : List Done). shown me a.out ++ es) (error_all-shown me e e Fails a.slots.requests refl))
      (rw s (from_readable Errored a.slots.stored_error e)) refl l)

  readable_is : (s : ReadableState) → is_readable s ≡ true → s ≡ Readable
  readable_is s e = readable_by false s e

  error-line : (e : Plain) (h : Reads) (ds : List Done) (a : Acts) → Lines h ds a → Lines h ds (controller_error me e a)
  unfolding controller_error stream_error
  error-line e h ds a l =
      either (Lines h ds) (is_readable a.slots.state) _ a (λ is. error_reader-line e h ds a a.slots.reader refl (readable_is a.slots.state is) l) (λ isnt. l)

  close-line : (h : Reads) (ds : List Done) (a : Acts) → Lines h ds a → Lines h ds (controller_close me a)
  unfolding controller_close close_if_empty
  close-line h ds a l =
      let b : Acts = record a { slots = record a.slots { close_requested = true } } in
      either (Lines h ds) (can_close_or_enqueue a.slots) (if is_empty b.slots.queue then stream_close me b else b) a
      (λ can. either (Lines h ds) (is_empty b.slots.queue) (stream_close me b) b (λ e. stream_close-line h ds b (readable_by a.slots.close_requested a.slots.state can) l) (λ e. l)) (λ cannot. l)

  -- chunks

  waits_all : (s : Slots) → (is_some s.reader ≡ false → s.requests ≡ []) → waiting s ≡ s.requests
  waits_all s none = either (λ (rs : List ReadRequest). rs ≡ s.requests) (is_some s.reader) s.requests [] (λ e. refl) (λ e. sym (none e))

  accept-line : (v : Value) (h : Reads) (ds : List Done) (a : Acts) (rs : List ReadRequest) → rs ≡ a.slots.requests → a.slots.state ≡ Readable → Lines h ds a → Lines h ds (accept_for me v a rs)
  accept-line v h ds a [] e s l = still h ds a (accept_for me v a []) refl refl (unchanged a.slots.state a.slots.stored_error) (none_waits a.slots.state a.slots.reader a.slots.requests _ (sym e)) l
  accept-line v h ds a (r ∷ rs) e s l =
      let x : Answered = record { request = r; answer = Gets v } in
      rw same_reads at (answers h ds a (accept_for me v a (r ∷ rs)) (x ∷ []) [] [] (e ∙ sym (append-nil a.slots.requests)) (one_allowed a.slots.state x tt) refl (shown-chunk me r v a.out)
      (unchanged a.slots.state a.slots.stored_error) (one_less a.slots.state a.slots.reader r rs a.slots.requests a.slots.queue e l.waits) l)

  enqueue-line : (v : Value) (h : Reads) (ds : List Done) (a : Acts) → Lines h ds a → Lines h ds (controller_enqueue me v a)
  unfolding controller_enqueue accept
  enqueue-line v h ds a l =
      either (Lines h ds) (can_close_or_enqueue a.slots) (call_pull_if_needed me (accept me v a)) a
      (λ can. pull-line h ds (accept me v a) (accept-line v h ds a (waiting a.slots) (waits_all a.slots l.waits.locked) (readable_by a.slots.close_requested a.slots.state can) l)) (λ cannot. l)

  -- reads

  after_take-line : (h : Reads) (ds : List Done) (a : Acts) → a.slots.state ≡ Readable → Lines h ds a → Lines h ds (after_take me a)
  unfolding after_take
  after_take-line h ds a s l =
      either (Lines h ds) (a.slots.close_requested && is_empty a.slots.queue) (stream_close me a) (call_pull_if_needed me a) (λ e. stream_close-line h ds a s l) (λ e. pull-line h ds a l)

  after_take-waits : (a : Acts) → a.slots.requests ≡ [] → (after_take me a).slots.requests ≡ []
  unfolding after_take stream_close call_pull_if_needed
  after_take-waits a none = grind arith

  asked-line : (h : Reads) (ds : List Done) (a : Acts) (e : Effect) (r : ReadRequest) (w : ReadAnswer) → a.slots.requests ≡ [] → Allows a.slots.state w → if_released r w ≡ []
      → shown me (cause e a.out) ≡ shown me a.out ++ record { request = r; outcome = read_outcome a.slots.stored_error w } ∷ [] → Lines h ds a → Lines (reads_then h (record no_reads { asked = r ∷ [] })) ds (causing e a)
  asked-line h ds a e r w none allowed n s l =
      let x : Answered = record { request = r; answer = w } in
      answers h ds a (causing e a) (x ∷ []) (r ∷ []) [] (rw none refl) (one_allowed a.slots.state x allowed) (rw n refl) s (unchanged a.slots.state a.slots.stored_error)
      (none_waits a.slots.state a.slots.reader a.slots.requests a.slots.queue none) l

  pull_from-line : (r : ReadRequest) (h : Reads) (ds : List Done) (a : Acts) (queue : List (Queued Value)) → queue ≡ a.slots.queue → a.slots.state ≡ Readable → is_some a.slots.reader ≡ true → Lines h ds a
      → Lines (reads_then h (record no_reads { asked = r ∷ [] })) ds (pull_from me r a queue)
  pull_from-line r h ds a [] q s there l =
      let b : Acts = record a { slots = record a.slots { requests = a.slots.requests ++ r ∷ [] } } in
      let readable : is_readable a.slots.state ≡ true = rw s refl in
      let empty : is_empty a.slots.queue ≡ true = rw (← q) refl in
      pull-line (reads_then h (record no_reads { asked = r ∷ [] })) ds b
      (answers h ds a b [] (r ∷ []) [] refl (All-nil (λ a. Allows b.slots.state a.answer)) refl (sym (append-nil (shown me a.out))) (unchanged a.slots.state a.slots.stored_error)
      (record { ended = λ k. false_true (is_readable a.slots.state) readable k; served = λ k. false_true (is_empty a.slots.queue) empty k; locked = λ k. false_true (is_some a.slots.reader) there k }) l)
  pull_from-line r h ds a (q ∷ qs) e s there l =
      let none : a.slots.requests ≡ [] = l.waits.served (rw (← e) refl) in
      let b : Acts = record a { slots = record a.slots { queue = qs } } in
      let taken : Lines h ds b = still h ds a b refl refl (unchanged a.slots.state a.slots.stored_error) (none_waits a.slots.state a.slots.reader a.slots.requests qs none) l in
      asked-line h ds (after_take me b) (ChunkSteps me r q.value) r (Gets q.value) (after_take-waits b none) tt refl (shown-chunk me r q.value (after_take me b).out) (after_take-line h ds b s taken)

  read_by-line : (r : ReadRequest) (h : Reads) (ds : List Done) (a : Acts) (state : ReadableState) → state ≡ a.slots.state → is_some a.slots.reader ≡ true → Lines h ds a
      → Lines (reads_then h (record no_reads { asked = r ∷ [] })) ds (read_by me r a state)
  unfolding pull_steps
  read_by-line r h ds a Readable s there l = pull_from-line r h ds a a.slots.queue refl (sym s) there l
  read_by-line r h ds a Closed s there l =
      asked-line h ds a (CloseSteps me r) r Ends (l.waits.ended (rw (← s) refl)) (sym s) refl (shown-close me r a.out) l
  read_by-line r h ds a Errored s there l =
      asked-line h ds a (ErrorSteps me r a.slots.stored_error) r Fails (l.waits.ended (rw (← s) refl)) (sym s) refl (shown-error me r a.slots.stored_error a.out) l

  -- readers

  closed-shown : (closed : PromiseId) (e : Plain) (x : Out) (state : ReadableState) → shown me (settle_closed closed e x state) ≡ shown me x
  closed-shown closed e x Readable = refl
  closed-shown closed e x Closed = refl
  closed-shown closed e x Errored = refl

  released-shown : (closed : PromiseId) (x : Out) (state : ReadableState) → shown me (release_closed closed x state) ≡ shown me x
  released-shown closed x Readable = refl
  released-shown closed x Closed = refl
  released-shown closed x Errored = refl

  comes-line : (closed : PromiseId) (h : Reads) (ds : List Done) (a : Acts) → is_some a.slots.reader ≡ false → Lines h ds a → Lines h ds (reader_generic_initialize closed a)
  unfolding reader_generic_initialize
  comes-line closed h ds a free l =
      still h ds a (reader_generic_initialize closed a) (closed-shown closed a.slots.stored_error a.out a.slots.state) (sym (l.waits.locked free)) (unchanged a.slots.state a.slots.stored_error)
      (none_waits a.slots.state (Some closed) [] a.slots.queue refl) l

  goes-line : (h : Reads) (ds : List Done) (a : Acts) (reader : Option PromiseId) → reader ≡ a.slots.reader → Lines h ds a → Lines (reads_then h (record no_reads { released = waiting a.slots })) ds (release_by me a reader)
  goes-line h ds a None r l =
      let none : waiting a.slots ≡ [] = rw (← r) refl in
      rw (none, same_reads) l
  goes-line h ds a (Some closed) r l =
      let all : waiting a.slots ≡ a.slots.requests = rw (← r) refl in
      rw all
      (all-answered h ds a (release_by me a (Some closed)) Released a.slots.requests tt (all_released a.slots.requests)
      (shown-all me (error_all me type_error a.slots.requests) (release_closed closed a.out a.slots.state)
      ∙ (rw (released-shown closed a.out a.slots.state, error_all-shown me type_error a.slots.stored_error Released a.slots.requests refl) refl))
      (unchanged a.slots.state a.slots.stored_error) refl l)

  -- cancelling and reactions

  cancelled-line : (r : Plain) (p : PromiseId) (h : Reads) (ds : List Done) (a : Acts) → Lines h ds a → is_readable a.slots.state ≡ false → Lines h ds (cancel_steps me r p a)
  unfolding cancel_steps
  cancelled-line r p h ds a l over =
      still h ds a (cancel_steps me r p a) (shown-cause me (CancelAlgorithm me r p) a.out ∙ append-nil (shown me a.out)) refl (unchanged a.slots.state a.slots.stored_error)
      (none_waits a.slots.state a.slots.reader a.slots.requests [] (l.waits.ended over)) l

  closes : (a : Acts) → is_readable (stream_close me a).slots.state ≡ false
  unfolding stream_close
  closes a = grind arith

  cancel_by-line : (r : Plain) (p : PromiseId) (h : Reads) (ds : List Done) (a : Acts) (state : ReadableState) → state ≡ a.slots.state → Lines h ds a → Lines h ds (cancel_by me r p a state)
  cancel_by-line r p h ds a Readable s l = cancelled-line r p h ds (stream_close me a) (stream_close-line h ds a (sym s) l) (closes a)
  cancel_by-line r p h ds a Closed s l = l
  cancel_by-line r p h ds a Errored s l = l

  stream_cancel-line : (r : Plain) (p : PromiseId) (h : Reads) (ds : List Done) (a : Acts) → Lines h ds a → Lines h ds (stream_cancel me r p a)
  unfolding stream_cancel
  stream_cancel-line r p h ds a l = cancel_by-line r p h ds (record a { slots = record a.slots { disturbed = true } }) a.slots.state refl l

  cancel_readable-line : (r : Plain) (p : PromiseId) (h : Reads) (ds : List Done) (a : Acts) (state : ReadableState) → Lines h ds a → Lines h ds (cancel_readable_by me r p a state)
  cancel_readable-line r p h ds a Readable l = stream_cancel-line r p h ds a l
  cancel_readable-line r p h ds a Closed l = l
  cancel_readable-line r p h ds a Errored l = l

  pull_ended-line : (h : Reads) (ds : List Done) (a : Acts) (again : Bool) → Lines h ds a → Lines h ds (pull_ended me a again)
  pull_ended-line h ds a false l = l
  pull_ended-line h ds a true l = pull-line h ds (record a { slots = record a.slots { pull_again = false } }) l

  pub operation-line : (operation : ReadableOperation) (alone : Bool) (h : Reads) (ds : List Done) (a : Acts) → Finds operation (is_some a.slots.reader) alone → Lines h ds a
      → Lines (reads_then h (operation_reads operation a.slots)) ds (readable_operation me operation a)
  unfolding default_reader_read disturb cancel_if_readable reader_release start_settled pull_settled
  operation-line (InitializeReader closed) alone h ds a f l = rw same_reads (comes-line closed h ds a f l)
  operation-line ReleaseReader alone h ds a f l = goes-line h ds a a.slots.reader refl l
  operation-line (Read r) alone h ds a f l = read_by-line r h ds (record a { slots = record a.slots { disturbed = true } }) a.slots.state refl f l
  operation-line Disturb alone h ds a f l = rw same_reads l
  operation-line (Cancel r p) alone h ds a f l = rw same_reads (stream_cancel-line r p h ds a l)
  operation-line (CancelIfReadable r p) alone h ds a f l = rw same_reads (cancel_readable-line r p h ds a a.slots.state l)
  operation-line (Enqueue v) alone h ds a f l = rw same_reads (enqueue-line v h ds a l)
  operation-line Close alone h ds a f l = rw same_reads (close-line h ds a l)
  operation-line (Error e) alone h ds a f l = rw same_reads (error-line e h ds a l)
  operation-line (StartSettled (Ok v)) alone h ds a f l = rw same_reads (pull-line h ds (record a { slots = record a.slots { started = true } }) l)
  operation-line (StartSettled (Err e)) alone h ds a f l = rw same_reads (error-line e h ds a l)
  operation-line (PullSettled (Ok v)) alone h ds a f l = rw same_reads (pull_ended-line h ds (record a { slots = record a.slots { pulling = false } }) a.slots.pull_again l)
  operation-line (PullSettled (Err e)) alone h ds a f l = rw same_reads (error-line e h ds a l)

  pub operation-reader : (operation : ReadableOperation) (a : Acts) → is_some (readable_operation me operation a).slots.reader ≡ has_after operation (is_some a.slots.reader)
  unfolding call_pull_if_needed accept controller_enqueue stream_close stream_error close_if_empty controller_close controller_error after_take pull_steps default_reader_read reader_generic_initialize start_settled pull_settled cancel_steps stream_cancel disturb cancel_if_readable reader_release
  operation-reader operation a = grind arith
