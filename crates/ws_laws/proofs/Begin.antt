-- What calls and jobs begin with: what a call makes and takes before its effects are performed, and the first effects.
use Rattle.std.proofs.Common.{arith, ◌≡◌, ℕ, Bool, true, false, List, [], ◌∷◌, ◌++◌, Option, None}
use Rattle.ws_value.specs.declared.ids.PromiseId.{PromiseId}
use Rattle.ws_value.specs.declared.ids.SignalId.{SignalId}
use Rattle.ws_value.specs.declared.ids.StreamId.{StreamId}
use Rattle.ws_value.specs.declared.value.Value.{Value}
use Rattle.ws_steps.specs.declared.{calls.Call.{Call}, calls.Call.TheVariants.{Enqueue as EnqueueCall}, readable.ReadableOperation.TheVariants.{Enqueue}, effects.Effect.{Effect}}
use Rattle.ws_steps.specs.declared.{effects.Effect.TheVariants.{Readable, Byte, Writable, Pipe, Signal, Transform, Tee, Port, StartAlgorithm, Give, Settle, Queue, CallHost}, pipes.Prevent.{Prevent}, locks.Lock.{Lock}, promises.Job.{Job}, readable.SizeBy.{SizeBy}}
use Rattle.ws_steps.specs.declared.writable.WritableOperation.TheVariants.{HandOn}
use Rattle.ws_steps.specs.Promises.{Table, fresh, is_pending_at}
use Rattle.ws_steps.specs.Bytes as byte
use Rattle.ws_steps.specs.Pipes as pipes
use Rattle.ws_steps.specs.Readable as readable
use Rattle.ws_steps.specs.Transform as transforms
use Rattle.ws_steps.specs.Tee as tees
use Rattle.ws_steps.specs.Cross as ports
use Rattle.ws_steps.specs.declared.port.PortOperation.TheVariants.{PostChunk}
use Rattle.ws_steps.specs.declared.port.Side.{Side}
use Rattle.ws_steps.specs.declared.port.Side.TheVariants.{Readable as ReadableSide, Writable as WritableSide}
use Rattle.ws_steps.specs.Writable as writable
use Rattle.ws_steps.specs.Slots.{Slots, ReadableStream, ByteStream, WritableStream, with_promises, source_at}
use Rattle.ws_steps.specs.Jobs.{job_effects}
use Rattle.ws_steps.specs.Begun.{Begun}
use Rattle.ws_steps.specs.MakingCalls.{add_stream}
use Rattle.ws_steps.specs.LockCalls.{with_renewed}
use Rattle.ws_steps.specs.PipeCalls.{add_port, pipe_to, no_prevent}
use Rattle.ws_steps.specs.Calls.{begin}
use Rattle.ws_steps.specs.declared.{calls.HostCall.TheVariants.{Start as HostStart}, effects.Owner.{Owner}, transform.Kind.{Kind}, transform.TransformOperation.TheVariants.{Enqueue as EnqueueByTransform, TransformChunk}}
use Rattle.ws_laws.proofs.EachCall.{each_call}
use Rattle.ws_laws.proofs.Lists.{Each, each-map}

-- what goes on with what a call makes and takes
pub record Makes (Q : Slots → Type 0) : Type 0 where
  pub promise : (s : Slots) → Q s → Q (with_promises (fresh s.promises) s)
  pub locks : (s : Slots) (locks : List Lock) → Q s → Q (record s { locks = locks })
  pub hosts : (s : Slots) (hosts : List (Option PromiseId)) → Q s → Q (record s { hosts = hosts })
  pub pipe : (s : Slots) (source dest : StreamId) (prevent : Prevent) (signal : Option SignalId) (promise : PromiseId) → Q s
      → Q (record s { pipes = s.pipes ++ pipes.set_up source dest prevent signal promise ∷ [] })
  pub signal : (s : Slots) → Q s → Q (record s { signals = s.signals ++ pipes.new_signal ∷ [] })
  pub transform : (s : Slots) (kind : Kind) (writable readable : StreamId) (change : PromiseId) → Q s
      → Q (record s { transforms = s.transforms ++ transforms.set_up kind writable readable change ∷ [] })
  pub tee : (s : Slots) (source first second : StreamId) (cancel : PromiseId) → Q s
      → Q (record s { tees = s.tees ++ tees.set_up source first second cancel ∷ [] })
  pub port : (s : Slots) (side : Side) (stream : StreamId) (backpressure : Option PromiseId) → Q s
      → Q (record s { ports = s.ports ++ ports.set_up side stream backpressure ∷ [] })
  pub readable : (s : Slots) (owner : Owner) (mark : ℕ) (size : SizeBy) → Q s → Q (add_stream (ReadableStream (readable.set_up owner mark size)) s)
  pub bytes : (s : Slots) (mark auto : ℕ) → Q s → Q (add_stream (ByteStream (byte.set_up mark auto)) s)
  pub byob_requests : (s : Slots) (requests : List StreamId) → Q s → Q (record s { byob_requests = requests })
  pub writable : (s : Slots) (owner : Owner) (mark : ℕ) (size : SizeBy) → Q s → Q (add_stream (WritableStream (writable.set_up owner mark size)) s)

module _ (Q : Slots → Type 0) (makes : Makes Q) where
  renewed-makes : (s : Slots) (kept : Bool) → Q s → Q (with_promises (with_renewed s.promises kept) s)
  renewed-makes s true q = q
  renewed-makes s false q = makes.promise s q

  port-makes : (s : Slots) (side : Side) (i : StreamId) → Q s → Q (add_port i s side)
  port-makes s ReadableSide i q = makes.port _ ReadableSide i _ (makes.readable s _ 0 _ q)
  port-makes s WritableSide i q = makes.promise _ (makes.port _ WritableSide i _ (makes.writable s _ 1 _ q))

  piped-makes : (s : Slots) (source dest : StreamId) → Q s → Q (pipe_to source dest no_prevent None s).done.slots
  piped-makes s source dest q = makes.locks _ _ (makes.pipe _ source dest _ None _ (makes.promise _ (makes.promise _ (makes.promise _ (makes.promise s q)))))

  pub begin-makes : (c : Call) (s : Slots) → Q s → Q (begin c s).done.slots
  begin-makes c s q = each_call (λ (b : Begun). Q b.done.slots) c s (record {
    unchanged = λ reply. q;
    rejected = λ fault. makes.promise s q;
    make_readable = λ mark size start. makes.readable s _ mark size q;
    make_bytes = λ mark auto start. makes.bytes s mark auto q;
    get_byob = λ i is e. makes.locks _ _ (makes.promise s q);
    release_byob = λ l closed i e. makes.locks _ _ (renewed-makes s (readable.is_readable (source_at i s).state) q);
    read_into = λ l i closed room element least e h. makes.promise s q;
    enqueue_bytes = λ i b e is some can. q;
    finish_bytes = λ i e is can. q;
    make_request = λ i reply is. makes.byob_requests s _ q;
    respond = λ r i b e is can. q;
    make_writable = λ mark size start. makes.writable s _ mark size q;
    make_transform = λ kind m n start.
        makes.promise _ (makes.promise _ (makes.promise _ (makes.promise _ (makes.transform _ kind _ _ _ (makes.readable _ _ n _ (makes.writable s _ m _ q))))));
    make_tee = λ i e is free untied. makes.promise _ (makes.promise _ (makes.locks _ _ (makes.tee _ _ _ _ _ (makes.readable _ _ 1 _ (makes.readable s _ 1 _ q)))));
    get_reader = λ i e. makes.locks _ _ (makes.promise s q);
    get_writer = λ i e. makes.locks _ _ (makes.promise _ (makes.promise s q));
    release_reader = λ l closed i e. makes.locks _ _ (renewed-makes s (readable.is_readable (source_at i s).state) q);
    release_writer = λ l i w e f.
        let t : Table = with_renewed s.promises (is_pending_at w.ready s.promises) in
        makes.locks _ _ (renewed-makes (with_promises t s) (is_pending_at w.closed t) (renewed-makes s (is_pending_at w.ready s.promises) q));
    cancel = λ reason i. makes.promise s q;
    read = λ l i closed e h. makes.promise s q;
    write = λ l v i e. makes.promise s q;
    close = λ i. makes.promise s q;
    abort = λ reason i e. makes.promise s q;
    enqueue = λ i v e o can. q;
    finish = λ i. q;
    enqueue_half = λ i t v e o can. q;
    fail_half = λ t reason. q;
    terminate = λ t. q;
    fail_readable = λ i reason. q;
    fail_writable = λ i reason. q;
    pipe = λ source dest prevent signal e f l m.
        makes.locks _ _ (makes.pipe _ source dest prevent signal _ (makes.promise _ (makes.promise _ (makes.promise _ (makes.promise s q)))));
    make_signal = makes.signal s q;
    open_end = λ side. port-makes s side _ q;
    send_readable = λ i there free. piped-makes _ i _ (port-makes s WritableSide _ q);
    send_writable = λ i there free. piped-makes _ _ i (port-makes s ReadableSide _ q);
    deliver = λ p m e is. q;
    trigger = λ a reason. q;
    settle = λ h answer p e. makes.hosts s _ q;
  })

-- an effect that a call or a job begins with, where this holds of each enqueue
abbrev pub IsFirst : (StreamId → Value → Type 0) → Effect → Type 0
IsFirst E (Readable i (Enqueue v)) = E i v
IsFirst E (Readable i operation) = Unit {0}
IsFirst E (Byte i operation) = Unit {0}
IsFirst E (Writable i (HandOn taker)) = ⊥
IsFirst E (Writable i operation) = Unit {0}
IsFirst E (StartAlgorithm i step start) = Unit {0}
IsFirst E (Pipe p operation) = Unit {0}
IsFirst E (Signal a operation) = Unit {0}
IsFirst E (Transform t (EnqueueByTransform v)) = (i : StreamId) × E i v
IsFirst E (Transform t (TransformChunk v d)) = ⊥
IsFirst E (Transform t operation) = Unit {0}
IsFirst E (Tee t operation) = Unit {0}
IsFirst E (Port p (PostChunk v d)) = ⊥
IsFirst E (Port p operation) = Unit {0}
IsFirst E (Give gift u) = Unit {0}
IsFirst E (Settle p o) = Unit {0}
IsFirst E (Queue m) = Unit {0}
IsFirst E (CallHost (HostStart i) u) = Unit {0}
IsFirst E _ = ⊥

-- only a call that enqueues begins with it
abbrev pub Enqueues : Call → StreamId → Value → Type 0
Enqueues c i v = c ≡ EnqueueCall i v

-- no job does
abbrev pub Never : StreamId → Value → Type 0
Never i v = ⊥

pub begin-first : (c : Call) (s : Slots) → Each (IsFirst (Enqueues c)) (begin c s).done.caused
begin-first c s = each_call (λ (b : Begun). Each (IsFirst (Enqueues c)) b.done.caused) c s (grind arith)

pub job-first : (job : Job) → Each (IsFirst Never) (job_effects job)
job-first job = grind arith

-- whatever is enqueued

abbrev pub Any : StreamId → Value → Type 0
Any i v = Unit {0}

first-any : (E : StreamId → Value → Type 0) (e : Effect) → IsFirst E e → IsFirst Any e
first-any E (Readable i (Enqueue v)) f = tt
first-any E (Transform t (EnqueueByTransform v)) f = (f.0, tt)
first-any E _ f = f

pub each-any : (E : StreamId → Value → Type 0) (es : List Effect) → Each (IsFirst E) es → Each (IsFirst Any) es
each-any E es f = each-map (IsFirst E) (IsFirst Any) (first-any E) es f
