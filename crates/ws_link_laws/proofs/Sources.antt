-- What each operation of a source leaves of what lies in it.
use Rattle.std.proofs.Common.{◌≡◌, ℕ, Bool, true, false, is_some, if◌then◌else◌, List, [], ◌∷◌, ◌++◌, Option, Some, None, Result, Ok, Err, refl, ap, append_assoc, append-nil, arith}
use Rattle.ws_value.specs.declared.ids.PipeId.{PipeId}
use Rattle.ws_value.specs.declared.ids.PromiseId.{PromiseId}
use Rattle.ws_value.specs.declared.ids.StreamId.{StreamId}
use Rattle.ws_value.specs.declared.value.Plain.{Plain}
use Rattle.ws_value.specs.declared.value.Value.{Value}
use Rattle.ws_steps.specs.declared.effects.Effect.{Effect}
use Rattle.ws_steps.specs.declared.effects.Effect.TheVariants.{CancelAlgorithm}
use Rattle.ws_steps.specs.declared.queue.Queued.{Queued}
use Rattle.ws_steps.specs.declared.readable.ReadRequest.{ReadRequest}
use Rattle.ws_steps.specs.declared.readable.ReadableOperation.{ReadableOperation}
use Rattle.ws_steps.specs.declared.readable.ReadableOperation.TheVariants.{InitializeReader, ReleaseReader, Disturb, Read, Cancel, CancelIfReadable, Enqueue, Close, Error, StartSettled, PullSettled}
use Rattle.ws_steps.specs.declared.readable.ReadableState.{ReadableState}
use Rattle.ws_steps.specs.declared.readable.ReadableState.TheVariants.{Closed, Errored}
use Rattle.ws_steps.specs.Effects.{Out, type_error}
use Rattle.ws_steps.specs.Operations.{readable_operation}
use Rattle.ws_steps.specs.Promises.{Table}
use Rattle.ws_steps.specs.Readable.{Slots, Acts, waiting, close_all, error_all, close_reader, error_reader, release_closed, call_pull_if_needed, accept, controller_enqueue, stream_close, stream_error, close_if_empty, controller_close, controller_error, after_take, pull_steps, default_reader_read, reader_generic_initialize, disturb, cancel_if_readable, start_settled, pull_settled, cancel_steps, stream_cancel, release_by, reader_release}
use Rattle.ws_flow.specs.Told.{Told, then_told, IsShortOf}
use Rattle.ws_flow.proofs.Told.{short_refl, then_empty}
use Rattle.ws_pipe_laws.specs.pipes.PipeReads.{is_of}
use Rattle.ws_link_laws.specs.Link.{OfSource, silence, values, in_source}
use Rattle.ws_link_laws.specs.Sound.{Owned, NoneWaits, SourceFits}
use Rattle.ws_link_laws.specs.Entering.{entered}
use Rattle.ws_link_laws.proofs.Telling.{tells, tells-append, lost_short, chunks}

-- an operation begins
abbrev pub starting : Slots → Table → Acts
starting x t = record { slots = x; out = record { promises = t; effects = [] } }

abbrev pub is_cancel : ReadableOperation → Bool
is_cancel (Cancel r q) = true
is_cancel (CancelIfReadable r q) = true
is_cancel _ = false

-- what is read is the pipe's
abbrev pub IsOwn : PipeId → ReadableOperation → Type 0
IsOwn p (Read request) = is_of p request ≡ 1
IsOwn p _ = Unit {0}

-- what is told of a source that was x and is y, of effects that were caused meanwhile, where e was let in, or where it was cancelled
pub record SourceKept (p : PipeId) (e : Told Value) (cancels : Bool) (x y : Slots) (effects : List Effect) : Type 0 where
  pub fits : SourceFits p y
  pub short : cancels ≡ false → IsShortOf (then_told (tells (chunks p) effects) (in_source y)) (then_told (in_source x) e)
  pub cancelled : cancels ≡ true → tells (chunks p) effects ≡ silence
  pub stays : x.state ≡ Closed → y.state ≡ Closed

abbrev pub OperationKept : PipeId → ReadableOperation → Slots → Acts → Type 0
OperationKept p op x o = SourceKept p (entered OfSource op) (is_cancel op) x o.slots o.out.effects

abbrev pub SourceKeeps : PipeId → StreamId → ReadableOperation → Slots → Table → Type 0
SourceKeeps p me op x t = SourceFits p x → IsOwn p op → OperationKept p op x (readable_operation me op (starting x t))

-- appending

pub owned-append : (p : PipeId) (xs ys : List ReadRequest) → Owned p xs → Owned p ys → Owned p (xs ++ ys)
owned-append p [] ys a b = b
owned-append p (x ∷ xs) ys a b = (a.0, owned-append p xs ys a.1 b)

pub chunks-append : (p : PipeId) (xs ys : List Effect) → tells (chunks p) (xs ++ ys) ≡ then_told (tells (chunks p) xs) (tells (chunks p) ys)
chunks-append p xs ys = tells-append (chunks p) xs ys

pub closes_chunks : (p : PipeId) (me : StreamId) (qs : List ReadRequest) → tells (chunks p) (close_all me qs) ≡ silence
closes_chunks p me [] = refl
closes_chunks p me (q ∷ qs) = rw (closes_chunks p me qs) refl

pub errors_chunks : (p : PipeId) (me : StreamId) (e : Plain) (qs : List ReadRequest) → tells (chunks p) (error_all me e qs) ≡ silence
errors_chunks p me e [] = refl
errors_chunks p me e (q ∷ qs) = rw (errors_chunks p me e qs) refl

values-append : (qs : List (Queued Value)) (v : Value) (n : ℕ) → values (qs ++ record { value = v; size = n } ∷ []) ≡ values qs ++ v ∷ []
values-append [] v n = refl
values-append (q ∷ qs) v n = ap (λ (vs : List Value). q.value ∷ vs) (values-append qs v n)

-- where the stream ends

pub record EndsIn (p : PipeId) (ended : ReadableState) (x : Slots) (b : Acts) : Type 0 where
  pub quiet : tells (chunks p) b.out.effects ≡ silence
  pub state : b.slots.state ≡ ended
  pub queue : b.slots.queue ≡ x.queue
  pub owned : Owned p x.requests → Owned p b.slots.requests
  pub waits : NoneWaits (waiting x) x.queue → NoneWaits (waiting b.slots) b.slots.queue

pub none_waits : (r : Option PromiseId) (rs : List ReadRequest) (queue : List (Queued Value)) → rs ≡ [] → NoneWaits (if is_some r then rs else []) queue
none_waits r rs queue e = grind (arith, e)

closed-in : (p : PipeId) (me : StreamId) (x : Slots) (t : Table) (o : Option PromiseId) → o ≡ x.reader → EndsIn p Closed x (close_reader me (starting (record x { state = Closed }) t) o)
closed-in p me x t None e = record { quiet = refl; state = refl; queue = refl; owned = λ h. h; waits = λ h. h }
closed-in p me x t (Some c) e = record { quiet = closes_chunks p me x.requests; state = refl; queue = refl; owned = λ h. tt; waits = λ h. none_waits x.reader [] x.queue refl }

pub closes : (p : PipeId) (me : StreamId) (x : Slots) (t : Table) → EndsIn p Closed x (stream_close me (starting x t))
unfolding stream_close
closes p me x t = closed-in p me x t x.reader refl

errored-in : (p : PipeId) (me : StreamId) (r : Plain) (x : Slots) (t : Table) (o : Option PromiseId) → o ≡ x.reader → EndsIn p Errored x (error_reader me r (starting (record x { state = Errored; stored_error = r }) t) o)
errored-in p me r x t None e = record { quiet = refl; state = refl; queue = refl; owned = λ h. h; waits = λ h. h }
errored-in p me r x t (Some c) e = record { quiet = errors_chunks p me r x.requests; state = refl; queue = refl; owned = λ h. tt; waits = λ h. none_waits x.reader [] x.queue refl }

pub errs : (p : PipeId) (me : StreamId) (r : Plain) (x : Slots) (t : Table) → EndsIn p Errored x (stream_error me r (starting x t))
unfolding stream_error
errs p me r x t = errored-in p me r x t x.reader refl

pub released-in : (closed : PromiseId) (out : Out) (state : ReadableState) → (release_closed closed out state).effects ≡ out.effects
released-in closed out state = grind arith

pub no_waits : (rs : List ReadRequest) → NoneWaits rs []
no_waits rs = grind arith

-- operations

disturb_keeps : (p : PipeId) (me : StreamId) (x : Slots) (t : Table) → SourceKeeps p me Disturb x t
unfolding disturb
disturb_keeps p me x t f g = grind (arith, append-nil, short_refl)

enqueue_keeps : (p : PipeId) (me : StreamId) (v : Value) (x : Slots) (t : Table) → SourceKeeps p me (Enqueue v) x t
unfolding controller_enqueue accept call_pull_if_needed
enqueue_keeps p me v x t f g = grind (arith, append-nil, append_assoc, short_refl, values-append, chunks-append)

close_keeps : (p : PipeId) (me : StreamId) (x : Slots) (t : Table) → SourceKeeps p me Close x t
unfolding controller_close close_if_empty
close_keeps p me x t f g = let c = closes p me (record x { close_requested = true }) t in grind (arith, append-nil, short_refl, c)

error_keeps_for : (p : PipeId) (me : StreamId) (e : Plain) (op : ReadableOperation) (x : Slots) (t : Table) → entered OfSource op ≡ silence → is_cancel op ≡ false → SourceFits p x → OperationKept p op x (controller_error me e (starting x t))
unfolding controller_error
error_keeps_for p me e op x t n m f =
    let c = errs p me e (record x { queue = [] }) t in
    let w = no_waits (waiting (record x { queue = [] })) in
    grind (arith, append-nil, short_refl, lost_short, c, n, m, w)

cancel_keeps_for : (p : PipeId) (me : StreamId) (r : Plain) (q : PromiseId) (op : ReadableOperation) (x : Slots) (t : Table) → is_cancel op ≡ true → SourceFits p x → OperationKept p op x (stream_cancel me r q (starting x t))
unfolding stream_cancel cancel_steps
cancel_keeps_for p me r q op x t n f =
    let y : Slots = record x { disturbed = true } in
    let c = closes p me y t in
    let w = no_waits (waiting (record (stream_close me (starting y t)).slots { queue = [] })) in
    let d = chunks-append p (stream_close me (starting y t)).out.effects (CancelAlgorithm me r q ∷ []) in
    grind (arith, append-nil, n, c, w, d)

read_keeps : (p : PipeId) (me : StreamId) (q : ReadRequest) (x : Slots) (t : Table) → SourceKeeps p me (Read q) x t
unfolding default_reader_read pull_steps after_take stream_close call_pull_if_needed
read_keeps p me q x t f g = grind (arith, append-nil, append_assoc, short_refl, chunks-append, owned-append, closes_chunks)

start_keeps : (p : PipeId) (me : StreamId) (o : Result Plain Plain) (x : Slots) (t : Table) → SourceKeeps p me (StartSettled o) x t
unfolding start_settled call_pull_if_needed
start_keeps p me (Ok v) x t f g = grind (arith, append-nil, append_assoc, short_refl, chunks-append)
start_keeps p me (Err r) x t f g = error_keeps_for p me r (StartSettled (Err r)) x t refl refl f

pull_keeps : (p : PipeId) (me : StreamId) (o : Result Plain Plain) (x : Slots) (t : Table) → SourceKeeps p me (PullSettled o) x t
unfolding pull_settled call_pull_if_needed
pull_keeps p me (Ok v) x t f g = grind (arith, append-nil, append_assoc, short_refl, chunks-append)
pull_keeps p me (Err e) x t f g = error_keeps_for p me e (PullSettled (Err e)) x t refl refl f

cancel_readable_keeps : (p : PipeId) (me : StreamId) (r : Plain) (q : PromiseId) (x : Slots) (t : Table) → SourceKeeps p me (CancelIfReadable r q) x t
unfolding cancel_if_readable
cancel_readable_keeps p me r q x t f g = let c = cancel_keeps_for p me r q (CancelIfReadable r q) x t refl f in grind (arith, c)

initialize_keeps : (p : PipeId) (me : StreamId) (q : PromiseId) (x : Slots) (t : Table) → SourceKeeps p me (InitializeReader q) x t
unfolding reader_generic_initialize
initialize_keeps p me q x t f g = grind (arith, append-nil, append_assoc, short_refl, chunks-append)

release_keeps : (p : PipeId) (me : StreamId) (x : Slots) (t : Table) → SourceKeeps p me ReleaseReader x t
unfolding reader_release
release_keeps p me x t f g = by x.reader
  where
    by : (o : Option PromiseId) → OperationKept p ReleaseReader x (release_by me (starting x t) o)
    by None = record { fits = f; short = λ c. rw (then_empty (in_source x)) (short_refl (in_source x)); cancelled = λ c. absurd (cc); stays = λ c. c }
    by (Some c) =
        let e = released-in c (starting x t).out x.state in
        let n = errors_chunks p me type_error x.requests in
        record { fits = record { owned = tt; fit = tt }; short = λ c. rw (e, n, then_empty (in_source x)) (short_refl (in_source x)); cancelled = λ c. absurd (cc); stays = λ c. c }

-- each operation of a source
pub source_keeps : (p : PipeId) (me : StreamId) (op : ReadableOperation) (x : Slots) (t : Table) → SourceKeeps p me op x t
source_keeps p me (InitializeReader q) x t = initialize_keeps p me q x t
source_keeps p me ReleaseReader x t = release_keeps p me x t
source_keeps p me Disturb x t = disturb_keeps p me x t
source_keeps p me (Read q) x t = read_keeps p me q x t
source_keeps p me (Cancel r q) x t = λ f g. cancel_keeps_for p me r q (Cancel r q) x t refl f
source_keeps p me (CancelIfReadable r q) x t = cancel_readable_keeps p me r q x t
source_keeps p me (Enqueue v) x t = enqueue_keeps p me v x t
source_keeps p me Close x t = close_keeps p me x t
source_keeps p me (Error e) x t = λ f g. error_keeps_for p me e (Error e) x t refl refl f
source_keeps p me (StartSettled o) x t = start_keeps p me o x t
source_keeps p me (PullSettled o) x t = pull_keeps p me o x t
