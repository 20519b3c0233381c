-- What holds of a writable stream's queue, requests and flights, and how they go together with what was written; and what of a stream is
-- under way on the agenda: the steps that its effects lead to, and those that tell of the stream later.
use Rattle.std.proofs.Common.{◌≡◌, ℕ, ◌+◌, ◌≤◌, ◌<◌, Bool, true, false, not, ◌||◌, is_some, if◌then◌else◌, Option, List, [], ◌∷◌, ◌++◌, length, refl, sym, ap, ◌∙◌, arith, append_assoc}
use Rattle.ws_value.specs.declared.ids.PromiseId.{PromiseId}
use Rattle.ws_value.specs.declared.value.Value.{Value}
use Rattle.ws_value.specs.declared.ids.StreamId.{StreamId}
use Rattle.ws_steps.specs.declared.{queue.Queued.{Queued}, writable.WritableState.{WritableState}, writable.WritableState.TheVariants.{Errored}, writable.WriteRecord.{WriteRecord}}
use Rattle.ws_steps.specs.declared.writable.WriteRecord.TheVariants.{Chunk, InFlight, CloseMark}
use Rattle.ws_steps.specs.Queues.{is_empty, rest_of}
use Rattle.ws_steps.specs.Writable.{Slots, has_ended, is_closed}
use Rattle.ws_steps.specs.WritableHistory.{Writes, todo, chunk_of}
use Rattle.ws_steps.specs.declared.{effects.Effect.{Effect}, effects.Effect.TheVariants.{Writable, Transform, Tee, Port, StartAlgorithm, WriteAlgorithm, CloseAlgorithm, AbortAlgorithm, Give, CallHost}}
use Rattle.ws_steps.specs.declared.{effects.Use.{Use}, effects.Use.TheVariants.{React, Resolve}, effects.Owner.{Owner}, effects.Owner.TheVariants.{Host, HalfOf, BranchOf, EndOf}, promises.Reaction.{Reaction}, promises.Reaction.TheVariants.{Perform, Adopt}}
use Rattle.ws_steps.specs.declared.{promises.Step.{Step}, promises.Step.TheVariants.{WritableStart, WritableWrite, WritableClose, WritableAbort}}
use Rattle.ws_steps.specs.declared.{transform.Taker.TheVariants.{ToHost}, transform.TransformOperation.{TransformOperation}, transform.TransformOperation.TheVariants.{SinkWrite, SourcePull, SinkClose, SinkAbort, SourceCancel}}
use Rattle.ws_steps.specs.declared.writable.WritableOperation.{WritableOperation}
use Rattle.ws_steps.specs.declared.writable.WritableOperation.TheVariants.{HandOn, StartSettled, WriteSettled, CloseSettled, AbortSettled}
use Rattle.ws_steps.specs.Histories.{is_same}
use Rattle.ws_steps.specs.Promises.{Table}
use Rattle.ws_steps.specs.declared.{tee.TeeOperation.{TeeOperation}, tee.TeeOperation.TheVariants.{CancelBranch}}
use Rattle.ws_steps.specs.declared.{port.PortOperation.{PortOperation}, port.PortOperation.TheVariants.{Leave, Write as WriteByPort, Close as CloseByPort}}
use Rattle.ws_laws.proofs.Weights.{weigh}

abbrev pub one_if : Bool → ℕ
one_if true = 1
one_if false = 0

abbrev pub is_host : Owner → Bool
is_host Host = true
is_host (HalfOf t) = false
is_host (BranchOf t half) = false
is_host (EndOf c) = false

-- the slots that matter here, and whether the algorithms are the host's
pub record Core : Type 0 where
  pub hosted : Bool
  pub state : WritableState
  pub queue : List (Queued WriteRecord)
  pub requests : List PromiseId
  pub flying : Option PromiseId
  pub writing : Bool
  pub requested : Bool
  pub closing : Bool
  pub started : Bool

abbrev pub core_of : Slots → Core
core_of s =
    record {
      hosted = is_host s.owner;
      state = s.state;
      queue = s.queue;
      requests = s.write_requests;
      flying = s.write_in_flight;
      writing = is_some s.write_in_flight;
      requested = is_some s.close_request;
      closing = is_some s.close_in_flight;
      started = s.started;
    }

abbrev pub is_flying : WriteRecord → Bool
is_flying (Chunk v) = false
is_flying InFlight = true
is_flying CloseMark = false

-- the first entry is that of the write in flight
abbrev pub leads : List (Queued WriteRecord) → Bool
leads [] = false
leads (q ∷ qs) = is_flying q.value

abbrev pub is_mark : WriteRecord → Bool
is_mark (Chunk v) = false
is_mark InFlight = false
is_mark CloseMark = true

abbrev pub has_mark : List (Queued WriteRecord) → Bool
has_mark [] = false
has_mark (q ∷ qs) = is_mark q.value || has_mark qs

-- nothing stands behind the close mark
abbrev pub marks_last : List (Queued WriteRecord) → Bool
marks_last [] = true
marks_last (q ∷ qs) = if is_mark q.value then is_empty qs else marks_last qs

-- the entries of writes, of which some may have been handed on
abbrev pub writes_in : List (Queued WriteRecord) → ℕ
writes_in [] = 0
writes_in (q ∷ qs) = one_if (not (is_mark q.value)) + writes_in qs

-- something is still to come
abbrev pub is_open : Core → Bool
is_open c = not (has_ended c.state) || not (is_empty c.queue)

-- the entries of writes that aren't in flight: what is first in the queue is that of the write in flight, where there is one
abbrev pub behind_flight : Core → List (Queued WriteRecord)
behind_flight c = if c.writing then rest_of c.queue else c.queue

-- the queue, the requests and the flights of a stream whose close algorithm was performed k times. A chunk in flight has left the queue of a
-- stream of the host; in the half of a transform stream it may have to wait there
pub record Shape (k : ℕ) (c : Core) : Type 0 where
  pub ended : has_ended c.state ≡ true → c.queue ≡ []
  pub flying : c.hosted ≡ true → is_open c ≡ true → c.writing ≡ true → leads c.queue ≡ true
  pub front : has_ended c.state ≡ false → c.writing ≡ true → is_empty c.queue ≡ false
  pub requests : writes_in (behind_flight c) ≡ length c.requests
  pub last : marks_last c.queue ≡ true
  pub started : c.writing || c.closing ≡ true → c.started ≡ true
  pub marked : has_ended c.state ≡ false → has_mark c.queue ≡ true → c.requested ≡ true
  pub flight : c.closing ≡ true → 0 < k
  pub spent : 0 < k → c.queue ≡ []
  pub still : 0 < k → c.writing ≡ false
  pub once : k ≤ 1

-- a stream that performed its close algorithm is closing until it has ended
abbrev pub Closing : ℕ → Core → Type 0
Closing k c = 0 < k → has_ended c.state ≡ false → c.closing ≡ true

-- what was written to a stream of the host was acted on, is queued, or was dropped, in this order; and of each stream the writes that haven't
-- ended are in flight or wait
pub record Told (h : Writes) (dropped : List Value) (c : Core) : Type 0 where
  pub all : c.hosted ≡ true → h.written ≡ h.acted ++ (todo c.queue ++ dropped)
  pub live : c.hosted ≡ true → is_open c ≡ true → dropped ≡ []
  pub counted : c.hosted ≡ true → is_open c ≡ true → length h.acted ≡ h.fulfilled + one_if c.writing
  pub whole : c.hosted ≡ true → 0 < h.closes → h.acted ≡ h.written
  pub waiting : has_ended c.state ≡ false → length h.written ≡ h.fulfilled + (one_if c.writing + length c.requests)
  pub fulfilled : 0 < h.closes → h.fulfilled ≡ length h.written
  -- only of a stream that isn't there
  pub closed : is_closed c.state ≡ true → h.closes ≡ 0 → (h.written ≡ []) × (h.fulfilled ≡ 0) × (c.writing ≡ false)

-- the queue is reset and the stream errored
abbrev pub failed : Core → Core
failed c = record c { state = Errored; queue = []; requests = [] }

-- one more entry

pub todo-append : (xs ys : List (Queued WriteRecord)) → todo (xs ++ ys) ≡ todo xs ++ todo ys
todo-append [] ys = refl
todo-append (x ∷ xs) ys = ap (λ vs. chunk_of x.value ++ vs) (todo-append xs ys) ∙ sym (append_assoc (chunk_of x.value) (todo xs) (todo ys))

pub writes_in-append : (xs ys : List (Queued WriteRecord)) → writes_in (xs ++ ys) ≡ writes_in xs + writes_in ys
writes_in-append [] ys = omega arith
writes_in-append (x ∷ xs) ys = let n = writes_in-append xs ys in omega (arith, n)

-- behind the first, where there is one, one more entry is one more

pub marked-behind : (w : Bool) (xs : List (Queued WriteRecord)) (q : Queued WriteRecord) → is_mark q.value ≡ true → writes_in (if w then rest_of (xs ++ q ∷ []) else xs ++ q ∷ []) ≡ writes_in (if w then rest_of xs else xs)
marked-behind w [] q m = grind (arith, m)
marked-behind true (x ∷ xs) q m = let n = writes_in-append xs (q ∷ []) in grind (arith, n, m)
marked-behind false (x ∷ xs) q m = let n = writes_in-append xs (q ∷ []) in grind (arith, n, m)

pub chunk-behind : (w : Bool) (xs : List (Queued WriteRecord)) (q : Queued WriteRecord) → is_mark q.value ≡ false → (w ≡ true → is_empty xs ≡ false)
    → writes_in (if w then rest_of (xs ++ q ∷ []) else xs ++ q ∷ []) ≡ writes_in (if w then rest_of xs else xs) + 1
chunk-behind true [] q m e = let wrong : true ≡ false = e refl in cc
chunk-behind false [] q m e = grind (arith, m)
chunk-behind true (x ∷ xs) q m e = let n = writes_in-append xs (q ∷ []) in grind (arith, n, m)
chunk-behind false (x ∷ xs) q m e = let n = writes_in-append xs (q ∷ []) in grind (arith, n, m)

pub filled : (xs : List (Queued WriteRecord)) (q : Queued WriteRecord) → is_empty (xs ++ q ∷ []) ≡ false
filled [] q = refl
filled (x ∷ xs) q = refl

pub leads-append : (xs ys : List (Queued WriteRecord)) → leads xs ≡ true → leads (xs ++ ys) ≡ true
leads-append [] ys e = cc
leads-append (x ∷ xs) ys e = e

pub no_mark-append : (xs : List (Queued WriteRecord)) (q : Queued WriteRecord) → has_mark xs ≡ false → has_mark (xs ++ q ∷ []) ≡ is_mark q.value
no_mark-append [] q e = grind arith
no_mark-append (x ∷ xs) q e = let n = no_mark-append xs q in grind arith

pub last-append : (xs : List (Queued WriteRecord)) (q : Queued WriteRecord) → has_mark xs ≡ false → marks_last (xs ++ q ∷ []) ≡ true
last-append [] q e = grind arith
last-append (x ∷ xs) q e = let n = last-append xs q in grind arith

-- the steps that go on after the start of stream i, after a write of it, after its close, and after its abort
abbrev pub is_start : StreamId → Step → ℕ
is_start i (WritableStart j) = one_if (is_same i j)
is_start i _ = 0

abbrev pub is_write : StreamId → Step → ℕ
is_write i (WritableWrite j) = one_if (is_same i j)
is_write i _ = 0

abbrev pub is_close : StreamId → Step → ℕ
is_close i (WritableClose j) = one_if (is_same i j)
is_close i _ = 0

abbrev pub is_abort : StreamId → Step → ℕ
is_abort i (WritableAbort j p) = one_if (is_same i j)
is_abort i _ = 0

-- the step that an effect leads to, weighed: the step of an algorithm's reaction, and the operation that goes on by it

abbrev pub of_use : (Step → ℕ) → Use → ℕ
of_use f (React step derived) = f step
of_use f (Resolve p) = 0

abbrev pub of_operation : (Step → ℕ) → StreamId → WritableOperation → ℕ
of_operation f i (HandOn ToHost) = f (WritableWrite i)
of_operation f i (StartSettled outcome) = f (WritableStart i)
of_operation f i (WriteSettled outcome) = f (WritableWrite i)
of_operation f i (CloseSettled outcome) = f (WritableClose i)
of_operation f i (AbortSettled p outcome) = f (WritableAbort i p)
of_operation f i _ = 0

-- an operation of a transform stream that is told what is done with its promise
abbrev pub of_transform : (Step → ℕ) → TransformOperation → ℕ
of_transform f (SinkWrite u) = of_use f u
of_transform f (SourcePull u) = of_use f u
of_transform f (SinkClose u) = of_use f u
of_transform f (SinkAbort r u) = of_use f u
of_transform f (SourceCancel r u) = of_use f u
of_transform f _ = 0

-- an operation of a tee that is told it
abbrev pub of_tee : (Step → ℕ) → TeeOperation → ℕ
of_tee f (CancelBranch half r u) = of_use f u
of_tee f _ = 0

-- an operation of a port that is told it
abbrev pub of_port : (Step → ℕ) → PortOperation → ℕ
of_port f (Leave r u) = of_use f u
of_port f (WriteByPort u) = of_use f u
of_port f (CloseByPort u) = of_use f u
of_port f _ = 0

abbrev pub leads_to : (Step → ℕ) → Effect → ℕ
leads_to f (Writable i operation) = of_operation f i operation
leads_to f (Transform t operation) = of_transform f operation
leads_to f (Tee t operation) = of_tee f operation
leads_to f (Port c operation) = of_port f operation
leads_to f (StartAlgorithm i step start) = f step
leads_to f (WriteAlgorithm i) = f (WritableWrite i)
leads_to f (CloseAlgorithm i) = f (WritableClose i)
leads_to f (AbortAlgorithm i r p) = f (WritableAbort i p)
leads_to f (Give gift u) = of_use f u
leads_to f (CallHost call u) = of_use f u
leads_to f _ = 0

-- an effect that hands a chunk of stream i on, and one that performs its close algorithm

abbrev pub hands : StreamId → Effect → ℕ
hands i (Writable j (HandOn taker)) = one_if (is_same i j)
hands i (WriteAlgorithm j) = one_if (is_same i j)
hands i _ = 0

abbrev pub closes : StreamId → Effect → ℕ
closes i (CloseAlgorithm j) = one_if (is_same i j)
closes i _ = 0

-- so much of each effect
abbrev pub all : (Effect → ℕ) → List Effect → ℕ
all f [] = 0
all f (e ∷ es) = f e + all f es

pub all-append : (f : Effect → ℕ) (xs ys : List Effect) → all f (xs ++ ys) ≡ all f xs + all f ys
all-append f [] ys = omega arith
all-append f (x ∷ xs) ys = let n = all-append f xs ys in omega arith

-- all that an effect weighs for stream i
abbrev pub mass : StreamId → Effect → ℕ
mass i e = leads_to (is_start i) e + (leads_to (is_write i) e + (leads_to (is_close i) e + (leads_to (is_abort i) e + (hands i e + closes i e))))

-- the steps of the reactions and jobs among the promises, weighed

abbrev pub of_reaction : (Step → ℕ) → Reaction → ℕ
of_reaction f (Perform step derived) = f step
of_reaction f (Adopt p) = 0

abbrev pub weight : (Step → ℕ) → Table → ℕ
weight f t = weigh (of_reaction f) t
