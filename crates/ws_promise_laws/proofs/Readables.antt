-- Each operation on a readable stream settles open promises alone.
use Rattle.std.proofs.Common.{◌≡◌, ℕ, ◌+◌, ◌≤◌, Bool, true, false, not, ◌&&◌, if◌then◌else◌, List, [], ◌∷◌, ◌++◌, Option, Some, None, Result, Ok, Err, refl, arith}
use Rattle.ws_value.specs.declared.ids.PromiseId.{PromiseId}
use Rattle.ws_value.specs.declared.ids.StreamId.{StreamId}
use Rattle.ws_value.specs.declared.value.Plain.{Plain}
use Rattle.ws_value.specs.declared.value.Plain.TheVariants.{Undefined}
use Rattle.ws_value.specs.declared.value.Value.{Value}
use Rattle.ws_steps.specs.declared.{effects.Effect.TheVariants.{ChunkSteps, CloseSteps, ErrorSteps, CancelAlgorithm}, queue.Queued.{Queued}, readable.ReadRequest.{ReadRequest}}
use Rattle.ws_steps.specs.declared.readable.ReadableOperation.{ReadableOperation}
use Rattle.ws_steps.specs.declared.readable.ReadableOperation.TheVariants.{InitializeReader, ReleaseReader, Disturb, Read, Cancel, CancelIfReadable, Enqueue, Close, Error, StartSettled, PullSettled}
use Rattle.ws_steps.specs.declared.{readable.ReadableState.{ReadableState}, readable.ReadableState.TheVariants.{Readable, Closed, Errored}}
use Rattle.ws_steps.specs.Effects.{cause, type_error, cause_all}
use Rattle.ws_steps.specs.Operations.{readable_operation}
use Rattle.ws_steps.specs.Promises.{settle}
use Rattle.ws_steps.specs.Queues.{is_empty}
use Rattle.ws_steps.specs.Readable.{Acts, causing, close_all, error_all, is_readable, can_close_or_enqueue, call_pull_if_needed, accept, controller_enqueue, close_reader, stream_close, error_reader, stream_error, close_if_empty, controller_close, controller_error, after_take, pull_from, pull_steps, read_by, default_reader_read, settle_closed, reader_generic_initialize, start_settled, pull_settled, disturb, cancel_steps, cancel_by, stream_cancel, cancel_readable_by, cancel_if_readable, release_closed, release_by, reader_release, pull_ended}
use Rattle.ws_laws.proofs.Tables.{either}
use Rattle.ws_laws.proofs.Truth.{and_right}
use Rattle.ws_promise_laws.proofs.Tokens.{names, of_request, of_readable, in_effects, in_effects-append}
use Rattle.ws_promise_laws.proofs.Holds.{holds-less}
use Rattle.ws_promise_laws.proofs.Settling.{holds-settle}
use Rattle.ws_promise_laws.proofs.Streams.{in_requests, in_readable, Reads}

-- how often a promise stands in the stream and its effects
abbrev pub here : PromiseId → Acts → ℕ
here x a = in_readable x a.slots + in_effects x a.out.effects

-- nothing is settled, and no promise stands more often than it did and was given
pub reads-less : (f l g : PromiseId → ℕ) (a b : Acts) → b.out.promises ≡ a.out.promises → ((x : PromiseId) → here x b ≤ here x a + g x) → Reads (λ x. f x + g x) l a → Reads f l b
reads-less f l g a b e n k =
    rw e (holds-less (λ x. (f x + g x) + here x a) l (λ x. f x + here x b) l a.out.promises k (λ x. let m = n x in omega arith) (λ x. let m = n x in omega arith))

-- a promise is settled, and stands there no more
pub reads-settle : (f l g : PromiseId → ℕ) (q : PromiseId) (o : Result Plain Plain) (a b : Acts) → b.out.promises ≡ settle q o a.out.promises → ((x : PromiseId) → here x b + names x q ≤ here x a + g x)
    → Reads (λ x. f x + g x) l a → Reads f l b
reads-settle f l g q o a b e n k =
    rw e (holds-settle (λ x. (f x + g x) + here x a) l (λ x. f x + here x b) l q o a.out.promises k (λ x. let m = n x in omega arith) (λ x. let m = n x in omega arith))

-- where nothing is given
pub reads-given : (f l : PromiseId → ℕ) (a : Acts) → Reads f l a → Reads (λ x. f x + 0) l a
reads-given f l a k = holds-less (λ x. f x + here x a) l (λ x. (f x + 0) + here x a) l a.out.promises k (λ x. omega arith) (λ x. omega arith)

pub ungiven : (f l : PromiseId → ℕ) (a : Acts) → Reads (λ x. f x + 0) l a → Reads f l a
ungiven f l a k = holds-less (λ x. (f x + 0) + here x a) l (λ x. f x + here x a) l a.out.promises k (λ x. omega arith) (λ x. omega arith)

pub reads-quiet : (f l : PromiseId → ℕ) (a b : Acts) → b.out.promises ≡ a.out.promises → ((x : PromiseId) → here x b ≤ here x a) → Reads f l a → Reads f l b
reads-quiet f l a b e n k = reads-less f l (λ x. 0) a b e (λ x. let m = n x in omega arith) (reads-given f l a k)

pub in_close_all : (x : PromiseId) (me : StreamId) (rs : List ReadRequest) → in_effects x (close_all me rs) ≡ in_requests x rs
in_close_all x me [] = refl
in_close_all x me (r ∷ rs) = let n = in_close_all x me rs in omega arith

in_error_all : (x : PromiseId) (me : StreamId) (e : Plain) (rs : List ReadRequest) → in_effects x (error_all me e rs) ≡ in_requests x rs
in_error_all x me e [] = refl
in_error_all x me e (r ∷ rs) = let n = in_error_all x me e rs in omega arith

pub in_requests-append : (x : PromiseId) (rs : List ReadRequest) (r : ReadRequest) → in_requests x (rs ++ r ∷ []) ≡ in_requests x rs + of_request x r
in_requests-append x [] r = omega arith
in_requests-append x (q ∷ rs) r = let n = in_requests-append x rs r in omega arith

-- the stream ends

close_reader-reads : (f l : PromiseId → ℕ) (me : StreamId) (a : Acts) (reader : Option PromiseId) → reader ≡ a.slots.reader → is_readable a.slots.state ≡ true → Reads f l a
    → Reads f l (close_reader me (record a { slots = record a.slots { state = Closed } }) reader)
close_reader-reads f l me a None r e k = reads-quiet f l a (close_reader me (record a { slots = record a.slots { state = Closed } }) None) refl (λ x. grind arith) k
close_reader-reads f l me a (Some c) r e k =
    reads-settle f l (λ x. 0) c (Ok Undefined) a (close_reader me (record a { slots = record a.slots { state = Closed } }) (Some c)) refl
    (λ x. grind (arith, in_effects-append, in_close_all)) (reads-given f l a k)

pub stream_close-reads : (f l : PromiseId → ℕ) (me : StreamId) (a : Acts) → is_readable a.slots.state ≡ true → Reads f l a → Reads f l (stream_close me a)
unfolding stream_close
stream_close-reads f l me a e k = close_reader-reads f l me a a.slots.reader refl e k

pub error_reader-reads : (f l : PromiseId → ℕ) (me : StreamId) (r : Plain) (a : Acts) (reader : Option PromiseId) → reader ≡ a.slots.reader → is_readable a.slots.state ≡ true → Reads f l a
    → Reads f l (error_reader me r (record a { slots = record a.slots { state = Errored; stored_error = r } }) reader)
error_reader-reads f l me r a None h e k =
    reads-quiet f l a (error_reader me r (record a { slots = record a.slots { state = Errored; stored_error = r } }) None) refl (λ x. grind arith) k
error_reader-reads f l me r a (Some c) h e k =
    reads-settle f l (λ x. 0) c (Err r) a (error_reader me r (record a { slots = record a.slots { state = Errored; stored_error = r } }) (Some c)) refl
    (λ x. grind (arith, in_effects-append, in_error_all)) (reads-given f l a k)

-- the controller errors the stream
error-reads : (f l : PromiseId → ℕ) (me : StreamId) (r : Plain) (a : Acts) → Reads f l a → Reads f l (controller_error me r a)
unfolding controller_error stream_error
error-reads f l me r a k =
    let b : Acts = record a { slots = record a.slots { queue = [] } } in
    either (Reads f l) (is_readable a.slots.state) (stream_error me r b) a (λ e. error_reader-reads f l me r b a.slots.reader refl e k) (λ e. k)

-- pulling and enqueuing settle nothing

pull-same : (me : StreamId) (a : Acts) → (call_pull_if_needed me a).out.promises ≡ a.out.promises
unfolding call_pull_if_needed
pull-same me a = grind arith

pull-here : (x : PromiseId) (me : StreamId) (a : Acts) → here x (call_pull_if_needed me a) ≤ here x a
unfolding call_pull_if_needed
pull-here x me a = grind (arith, in_effects-append)

pull-reads : (f l : PromiseId → ℕ) (me : StreamId) (a : Acts) → Reads f l a → Reads f l (call_pull_if_needed me a)
pull-reads f l me a k = reads-quiet f l a (call_pull_if_needed me a) (pull-same me a) (λ x. pull-here x me a) k

accept-same : (me : StreamId) (v : Value) (a : Acts) → (accept me v a).out.promises ≡ a.out.promises
unfolding accept
accept-same me v a = grind arith

accept-here : (x : PromiseId) (me : StreamId) (v : Value) (a : Acts) → here x (accept me v a) ≤ here x a
unfolding accept
accept-here x me v a = grind (arith, in_effects-append)

enqueue-reads : (f l : PromiseId → ℕ) (me : StreamId) (v : Value) (a : Acts) → Reads f l a → Reads f l (controller_enqueue me v a)
unfolding controller_enqueue
enqueue-reads f l me v a k =
    either (Reads f l) (can_close_or_enqueue a.slots) (call_pull_if_needed me (accept me v a)) a
    (λ e. pull-reads f l me (accept me v a) (reads-quiet f l a (accept me v a) (accept-same me v a) (λ x. accept-here x me v a) k)) (λ e. k)

close-reads : (f l : PromiseId → ℕ) (me : StreamId) (a : Acts) → Reads f l a → Reads f l (controller_close me a)
unfolding controller_close close_if_empty
close-reads f l me a k =
    let b : Acts = record a { slots = record a.slots { close_requested = true } } in
    either (Reads f l) (can_close_or_enqueue a.slots) (if is_empty b.slots.queue then stream_close me b else b) a
    (λ e. either (Reads f l) (is_empty b.slots.queue) (stream_close me b) b (λ n. stream_close-reads f l me b (and_right (not a.slots.close_requested) (is_readable a.slots.state) e) k) (λ n. k))
    (λ e. k)

-- reading

after_take-reads : (f l : PromiseId → ℕ) (me : StreamId) (a : Acts) → is_readable a.slots.state ≡ true → Reads f l a → Reads f l (after_take me a)
unfolding after_take
after_take-reads f l me a e k =
    either (Reads f l) (a.slots.close_requested && is_empty a.slots.queue) (stream_close me a) (call_pull_if_needed me a) (λ n. stream_close-reads f l me a e k) (λ n. pull-reads f l me a k)

pull_from-reads : (f l : PromiseId → ℕ) (me : StreamId) (r : ReadRequest) (a : Acts) (qs : List (Queued Value)) → is_readable a.slots.state ≡ true → Reads (λ x. f x + of_request x r) l a → Reads f l (pull_from me r a qs)
pull_from-reads f l me r a [] e k =
    let b : Acts = record a { slots = record a.slots { requests = a.slots.requests ++ r ∷ [] } } in
    pull-reads f l me b (reads-less f l (λ x. of_request x r) a b refl (λ x. let n = in_requests-append x a.slots.requests r in omega arith) k)
pull_from-reads f l me r a (q ∷ qs) e k =
    let b : Acts = after_take me (record a { slots = record a.slots { queue = qs } }) in
    let taken : Reads (λ x. f x + of_request x r) l b = after_take-reads (λ x. f x + of_request x r) l me (record a { slots = record a.slots { queue = qs } }) e k in
    reads-less f l (λ x. of_request x r) b (causing (ChunkSteps me r q.value) b) refl (λ x. let n = in_effects-append x b.out.effects (ChunkSteps me r q.value ∷ []) in omega arith) taken

read_by-reads : (f l : PromiseId → ℕ) (me : StreamId) (r : ReadRequest) (a : Acts) (state : ReadableState) → state ≡ a.slots.state → Reads (λ x. f x + of_request x r) l a → Reads f l (read_by me r a state)
unfolding pull_steps
read_by-reads f l me r a Readable e k = pull_from-reads f l me r a a.slots.queue (rw (← e) refl) k
read_by-reads f l me r a Closed e k =
    reads-less f l (λ x. of_request x r) a (causing (CloseSteps me r) a) refl (λ x. let n = in_effects-append x a.out.effects (CloseSteps me r ∷ []) in omega arith) k
read_by-reads f l me r a Errored e k =
    reads-less f l (λ x. of_request x r) a (causing (ErrorSteps me r a.slots.stored_error) a) refl
    (λ x. let n = in_effects-append x a.out.effects (ErrorSteps me r a.slots.stored_error ∷ []) in omega arith) k

read-reads : (f l : PromiseId → ℕ) (me : StreamId) (r : ReadRequest) (a : Acts) → Reads (λ x. f x + of_request x r) l a → Reads f l (default_reader_read me r a)
unfolding default_reader_read
read-reads f l me r a k = read_by-reads f l me r (record a { slots = record a.slots { disturbed = true } }) a.slots.state refl k

-- readers

initialize_by : (f l : PromiseId → ℕ) (c : PromiseId) (a : Acts) (state : ReadableState) → state ≡ a.slots.state → Reads (λ x. f x + names x c) l a
    → Reads f l (record { slots = record a.slots { reader = Some c; requests = [] }; out = settle_closed c a.slots.stored_error a.out state })
initialize_by f l c a Readable e k =
    reads-less f l (λ x. names x c) a (record { slots = record a.slots { reader = Some c; requests = [] }; out = a.out }) refl (λ x. grind arith) k
initialize_by f l c a Closed e k =
    reads-settle f l (λ x. names x c) c (Ok Undefined) a (record { slots = record a.slots { reader = Some c; requests = [] }; out = settle_closed c a.slots.stored_error a.out Closed }) refl (λ x. grind arith) k
initialize_by f l c a Errored e k =
    reads-settle f l (λ x. names x c) c (Err a.slots.stored_error) a (record { slots = record a.slots { reader = Some c; requests = [] }; out = settle_closed c a.slots.stored_error a.out Errored }) refl (λ x. grind arith) k

pub initialize-reads : (f l : PromiseId → ℕ) (c : PromiseId) (a : Acts) → Reads (λ x. f x + names x c) l a → Reads f l (reader_generic_initialize c a)
unfolding reader_generic_initialize
initialize-reads f l c a k = initialize_by f l c a a.slots.state refl k

abbrev unlocked : StreamId → PromiseId → Acts → ReadableState → Acts
unlocked me c a state =
    record {
      slots = record a.slots { reader = None; requests = [] };
      out = cause_all (error_all me type_error a.slots.requests) (release_closed c a.out state);
    }

unlocked-reads : (f l : PromiseId → ℕ) (me : StreamId) (c : PromiseId) (a : Acts) (state : ReadableState) → state ≡ a.slots.state → a.slots.reader ≡ Some c → Reads f l a → Reads f l (unlocked me c a state)
unlocked-reads f l me c a Readable e r k =
    reads-settle f l (λ x. 0) c (Err type_error) a (unlocked me c a Readable) refl (λ x. grind (arith, in_effects-append, in_error_all)) (reads-given f l a k)
unlocked-reads f l me c a Closed e r k = reads-quiet f l a (unlocked me c a Closed) refl (λ x. grind (arith, in_effects-append, in_error_all)) k
unlocked-reads f l me c a Errored e r k = reads-quiet f l a (unlocked me c a Errored) refl (λ x. grind (arith, in_effects-append, in_error_all)) k

pub released-reads : (f l : PromiseId → ℕ) (me : StreamId) (a : Acts) (reader : Option PromiseId) → a.slots.reader ≡ reader → Reads f l a → Reads f l (release_by me a reader)
released-reads f l me a None r k = k
released-reads f l me a (Some c) r k = unlocked-reads f l me c a a.slots.state refl r k

-- the reactions of the controller

start-reads : (f l : PromiseId → ℕ) (me : StreamId) (o : Result Plain Plain) (a : Acts) → Reads f l a → Reads f l (start_settled me o a)
unfolding start_settled
start-reads f l me (Ok v) a k = pull-reads f l me (record a { slots = record a.slots { started = true } }) k
start-reads f l me (Err r) a k = error-reads f l me r a k

ended-reads : (f l : PromiseId → ℕ) (me : StreamId) (a : Acts) (again : Bool) → Reads f l a → Reads f l (pull_ended me a again)
ended-reads f l me a false k = k
ended-reads f l me a true k = pull-reads f l me (record a { slots = record a.slots { pull_again = false } }) k

pulled-reads : (f l : PromiseId → ℕ) (me : StreamId) (o : Result Plain Plain) (a : Acts) → Reads f l a → Reads f l (pull_settled me o a)
unfolding pull_settled
pulled-reads f l me (Ok v) a k = ended-reads f l me (record a { slots = record a.slots { pulling = false } }) a.slots.pull_again k
pulled-reads f l me (Err r) a k = error-reads f l me r a k

-- cancelling

cancelled-by : (f l : PromiseId → ℕ) (me : StreamId) (r : Plain) (p : PromiseId) (a : Acts) (state : ReadableState) → state ≡ a.slots.state → Reads (λ x. f x + names x p) l a → Reads f l (cancel_by me r p a state)
unfolding cancel_steps
cancelled-by f l me r p a Readable e k =
    let b : Acts = stream_close me a in
    let closed : Reads (λ x. f x + names x p) l b = stream_close-reads (λ x. f x + names x p) l me a (rw (← e) refl) k in
    reads-less f l (λ x. names x p) b (record { slots = record b.slots { queue = [] }; out = cause (CancelAlgorithm me r p) b.out }) refl
    (λ x. let n = in_effects-append x b.out.effects (CancelAlgorithm me r p ∷ []) in omega arith) closed
cancelled-by f l me r p a Closed e k = reads-settle f l (λ x. names x p) p (Ok Undefined) a (cancel_by me r p a Closed) refl (λ x. omega arith) k
cancelled-by f l me r p a Errored e k = reads-settle f l (λ x. names x p) p (Err a.slots.stored_error) a (cancel_by me r p a Errored) refl (λ x. omega arith) k

stream_cancel-reads : (f l : PromiseId → ℕ) (me : StreamId) (r : Plain) (p : PromiseId) (a : Acts) → Reads (λ x. f x + names x p) l a → Reads f l (stream_cancel me r p a)
unfolding stream_cancel
stream_cancel-reads f l me r p a k = cancelled-by f l me r p (record a { slots = record a.slots { disturbed = true } }) a.slots.state refl k

cancelled_readable-by : (f l : PromiseId → ℕ) (me : StreamId) (r : Plain) (p : PromiseId) (a : Acts) (state : ReadableState) → Reads (λ x. f x + names x p) l a → Reads f l (cancel_readable_by me r p a state)
cancelled_readable-by f l me r p a Readable k = stream_cancel-reads f l me r p a k
cancelled_readable-by f l me r p a Closed k = reads-settle f l (λ x. names x p) p (Ok Undefined) a (cancel_readable_by me r p a Closed) refl (λ x. omega arith) k
cancelled_readable-by f l me r p a Errored k = reads-settle f l (λ x. names x p) p (Ok Undefined) a (cancel_readable_by me r p a Errored) refl (λ x. omega arith) k

-- every operation, which is given the promises that it answers
pub reads : (f l : PromiseId → ℕ) (i : StreamId) (operation : ReadableOperation) (a : Acts) → Reads (λ x. f x + of_readable x operation) l a → Reads f l (readable_operation i operation a)
unfolding disturb cancel_if_readable reader_release
reads f l i (InitializeReader c) a k = initialize-reads f l c a k
reads f l i ReleaseReader a k = released-reads f l i a a.slots.reader refl (ungiven f l a k)
reads f l i Disturb a k = reads-quiet f l a (disturb a) refl (λ x. omega arith) (ungiven f l a k)
reads f l i (Read r) a k = read-reads f l i r a k
reads f l i (Cancel r p) a k = stream_cancel-reads f l i r p a k
reads f l i (CancelIfReadable r p) a k = cancelled_readable-by f l i r p a a.slots.state k
reads f l i (Enqueue v) a k = enqueue-reads f l i v a (ungiven f l a k)
reads f l i Close a k = close-reads f l i a (ungiven f l a k)
reads f l i (Error r) a k = error-reads f l i r a (ungiven f l a k)
reads f l i (StartSettled o) a k = start-reads f l i o a (ungiven f l a k)
reads f l i (PullSettled o) a k = pulled-reads f l i o a (ungiven f l a k)
