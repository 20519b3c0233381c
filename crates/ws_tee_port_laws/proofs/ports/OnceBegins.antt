-- With what a call or a job begins: it reads, or it cancels, or a pipe is to look, or a pull has settled, or a write that waited goes on.
use Rattle.std.proofs.Common.{◌≡◌, ◌+◌, ◌≤◌, Bool, true, false, ◌&&◌, if◌then◌else◌, List, [], ◌∷◌, ◌++◌, Option, Some, None, Result, Ok, Err, inr, refl, arith}
use Rattle.ws_value.specs.declared.ids.PipeId.{PipeId}
use Rattle.ws_value.specs.declared.ids.PortId.{PortId}
use Rattle.ws_value.specs.declared.ids.PromiseId.{PromiseId}
use Rattle.ws_value.specs.declared.ids.StreamId.{StreamId}
use Rattle.ws_value.specs.declared.value.Plain.{Plain}
use Rattle.ws_steps.specs.declared.effects.Effect.{Effect}
use Rattle.ws_steps.specs.declared.effects.Effect.TheVariants.{Readable as OnReadable, Writable as OnWritable, Pipe as OnPipe, Signal as OnSignal, Transform as OnTransform, Tee as OnTee, Port as OnPort, PullAlgorithm, CancelAlgorithm, AbortAlgorithm, Settle}
use Rattle.ws_steps.specs.declared.pipes.PipeOperation.{PipeOperation}
use Rattle.ws_steps.specs.declared.pipes.SignalOperation.TheVariants.{Trigger}
use Rattle.ws_steps.specs.declared.port.PortOperation.TheVariants as ports
use Rattle.ws_steps.specs.declared.port.Side.{Side}
use Rattle.ws_steps.specs.declared.port.Side.TheVariants.{Readable as ReadableSide, Writable as WritableSide}
use Rattle.ws_steps.specs.declared.readable.ReadableOperation.{ReadableOperation}
use Rattle.ws_steps.specs.declared.readable.ReadableOperation.TheVariants as reads
use Rattle.ws_steps.specs.declared.writable.WritableOperation.TheVariants as writes
use Rattle.ws_steps.specs.Histories.{is_same}
use Rattle.ws_steps.specs.PortHistory.{is_same_port}
use Rattle.ws_steps.specs.Slots.{Slots}
use Rattle.ws_laws.proofs.Ended.{PortShape}
use Rattle.ws_laws.proofs.Lists.{Each, each-append}
use Rattle.ws_laws.proofs.Shapes.{StreamShape}
use Rattle.ws_tee_port_laws.proofs.ports.Modes.{may_read, May, Calm, looks}
use Rattle.ws_tee_port_laws.proofs.ports.Posting.{total}
use Rattle.ws_tee_port_laws.proofs.ports.Pulls.{Still}
use Rattle.ws_tee_port_laws.proofs.ports.Reading.{is_settling}
use Rattle.ws_steps.specs.declared.calls.Call.{Call}
use Rattle.ws_value.specs.declared.ids.SignalId.{SignalId}
use Rattle.ws_steps.specs.declared.writable.Writer.{Writer}
use Rattle.ws_steps.specs.declared.calls.StartBy.{StartBy}
use Rattle.ws_steps.specs.declared.calls.StartBy.TheVariants.{Now, Later}
use Rattle.ws_steps.specs.declared.promises.Job.{Job}
use Rattle.ws_steps.specs.declared.promises.Job.TheVariants.{Reaction, Follow, Settle as SettleJob, Micro as MicroJob}
use Rattle.ws_steps.specs.declared.promises.Micro.TheVariants.{PipeLook, PipeWrite, PipeNoParts, TeeHand}
use Rattle.ws_steps.specs.declared.promises.Step.{Step}
use Rattle.ws_steps.specs.declared.promises.Step.TheVariants as steps
use Rattle.ws_steps.specs.declared.pipes.PipeOperation.TheVariants as piping
use Rattle.ws_steps.specs.declared.tee.TeeOperation.TheVariants as tees
use Rattle.ws_steps.specs.Begun.{Begun}
use Rattle.ws_steps.specs.Calls.{begin}
use Rattle.ws_steps.specs.MakingCalls as making_calls
use Rattle.ws_steps.specs.PipeCalls as pipe_calls
use Rattle.ws_steps.specs.Jobs.{job_effects, resolved}
use Rattle.ws_steps.specs.Jobs as jobs
use Rattle.ws_laws.proofs.EachCall.{each_call}
use Rattle.ws_tee_port_laws.proofs.ports.Once.{IsPosting, posts_of}
use Rattle.ws_tee_port_laws.proofs.ports.Modes.{may_pipe}
use Rattle.ws_tee_port_laws.proofs.ports.Reading.{is_taking}

-- an operation that neither cancels nor is the settling of a pull
abbrev pub reads_only : ReadableOperation → Bool
reads_only (reads.Cancel r p) = false
reads_only (reads.CancelIfReadable r p) = false
reads_only (reads.PullSettled o) = false
reads_only operation = true

abbrev pub BeginsReading : Effect → Type 0
BeginsReading (OnReadable i operation) = reads_only operation ≡ true
BeginsReading (OnWritable i (writes.HandOn taker)) = ⊥
BeginsReading (OnPipe p operation) = ⊥
BeginsReading (OnSignal a (Trigger r)) = ⊥
BeginsReading (OnTee t tees.HandChunk) = Unit {0}
BeginsReading (OnTee t operation) = ⊥
BeginsReading (OnPort d (ports.Deliver m)) = Unit {0}
BeginsReading (OnPort d operation) = ⊥
BeginsReading (PullAlgorithm i) = ⊥
BeginsReading (CancelAlgorithm i r p) = ⊥
BeginsReading (AbortAlgorithm i r p) = ⊥
BeginsReading e = Unit {0}

abbrev pub BeginsCancelling : Effect → Type 0
BeginsCancelling (OnReadable i operation) = is_taking operation ≡ false
BeginsCancelling (OnWritable i (writes.HandOn taker)) = ⊥
BeginsCancelling (OnPipe p (piping.Abort r)) = Unit {0}
BeginsCancelling (OnPipe p operation) = ⊥
BeginsCancelling (OnTee t operation) = ⊥
BeginsCancelling (OnPort d operation) = ⊥
BeginsCancelling (PullAlgorithm i) = ⊥
BeginsCancelling (CancelAlgorithm i r p) = ⊥
BeginsCancelling (AbortAlgorithm i r p) = ⊥
BeginsCancelling e = Unit {0}

abbrev pub BeginsCalm : Effect → Type 0
BeginsCalm (OnWritable i (writes.HandOn taker)) = ⊥
BeginsCalm (OnWritable i operation) = Unit {0}
BeginsCalm (OnPipe p operation) = may_pipe false operation ≡ true
BeginsCalm (OnTransform t operation) = Unit {0}
BeginsCalm (OnTee t (tees.ReaderSettled o)) = Unit {0}
BeginsCalm (Settle p o) = Unit {0}
BeginsCalm e = ⊥

pub data Begins (es : List Effect) : Type 0 where
  reading : Each BeginsReading es → Begins es
  cancelling : Each BeginsCancelling es → Begins es
  calmly : Each BeginsCalm es → Begins es
  looking : (p : PipeId) (operation : PipeOperation) (fs : List Effect) → es ≡ OnPipe p operation ∷ fs → looks operation ≡ true → Each BeginsCalm fs → Begins es
  settling : (i : StreamId) (o : Result Plain Plain) (fs : List Effect) → es ≡ OnReadable i (reads.PullSettled o) ∷ fs → Each BeginsCalm fs → Begins es
  posting : Each IsPosting es → ((c : PortId) → total (posts_of c) es ≤ 1) → Begins es

-- a job

resolved-calm : (p : Option PromiseId) (o : Result Plain Plain) → Each BeginsCalm (resolved p o)
resolved-calm None o = tt
resolved-calm (Some p) o = (tt, tt)

calm-more : (es : List Effect) (p : Option PromiseId) (o : Result Plain Plain) → Each BeginsCalm es → Each BeginsCalm (es ++ resolved p o)
calm-more es p o k = each-append BeginsCalm es (resolved p o) k (resolved-calm p o)

unblocked-posts : (d : PortId) (q : PromiseId) (o : Result Plain Plain) (p : Option PromiseId) (r : Result Plain Plain) → Begins (jobs.unblocked d q o ++ resolved p r)
unblocked-posts d q (Ok v) None r = posting (tt, tt) (λ c. one c)
  where
    one : (c : PortId) → (if is_same_port c d then 1 else 0) + 0 ≤ 1
    one c = grind arith
unblocked-posts d q (Ok v) (Some p) r = posting (tt, (tt, tt)) (λ c. one c)
  where
    one : (c : PortId) → (if is_same_port c d then 1 else 0) + (0 + 0) ≤ 1
    one c = grind arith
unblocked-posts d q (Err e) None r = posting (tt, tt) (λ c. omega arith)
unblocked-posts d q (Err e) (Some p) r = posting (tt, (tt, tt)) (λ c. omega arith)

started-reads : (i : StreamId) (o : Result Plain Plain) (p : Option PromiseId) (r : Result Plain Plain) → Begins (OnReadable i (reads.StartSettled o) ∷ resolved p r)
started-reads i o None r = reading (refl, tt)
started-reads i o (Some p) r = reading (refl, (tt, tt))

step-begins : (step : Step) (o : Result Plain Plain) (p : Option PromiseId) (r : Result Plain Plain) → Begins (jobs.steps step o ++ resolved p r)
step-begins (steps.ReadableStart i) o p r = started-reads i o p r
step-begins (steps.ReadablePull i) o p r = settling i o (resolved p r) refl (resolved-calm p r)
step-begins steps.ReturnUndefined o p r = calmly (resolved-calm p r)
step-begins (steps.WritableStart i) o p r = calmly (tt, resolved-calm p r)
step-begins (steps.WritableWrite i) o p r = calmly (tt, resolved-calm p r)
step-begins (steps.WritableClose i) o p r = calmly (tt, resolved-calm p r)
step-begins (steps.WritableAbort i q) o p r = calmly (tt, resolved-calm p r)
step-begins (steps.PipeEnds q) o p r = looking q piping.Look (resolved p r) refl refl (resolved-calm p r)
step-begins (steps.PipeReady q) o p r = looking q piping.LookReady (resolved p r) refl refl (resolved-calm p r)
step-begins (steps.PipeWrote q) o p r = looking q piping.WriteEnded (resolved p r) refl refl (resolved-calm p r)
step-begins (steps.PipeActed q) o p r = calmly (refl, resolved-calm p r)
step-begins (steps.PipePart q) o p r = calmly (refl, resolved-calm p r)
step-begins (steps.TransformChanged t d) (Ok v) p r = calmly (tt, resolved-calm p r)
step-begins (steps.TransformChanged t d) (Err e) p r = calmly (tt, resolved-calm p r)
step-begins (steps.Transformed t) (Ok v) p r = calmly (resolved-calm p r)
step-begins (steps.Transformed t) (Err e) p r = calmly (tt, resolved-calm p r)
step-begins (steps.TransformFlushed t q) o p r = calmly (tt, resolved-calm p r)
step-begins (steps.TransformAborted t q e) o p r = calmly (tt, resolved-calm p r)
step-begins (steps.TransformCancelled t q e) o p r = calmly (tt, resolved-calm p r)
step-begins (steps.TeeEnds t) o p r = calmly (tt, resolved-calm p r)
step-begins (steps.PortUnblocked d q) o p r = unblocked-posts d q o p r

pub job-begins : (job : Job) → Begins (job_effects job)
job-begins (Reaction step outcome derived) = step-begins step outcome derived (jobs.returned step outcome)
job-begins (Follow p q) = calmly tt
job-begins (SettleJob p outcome) = calmly (tt, tt)
job-begins (MicroJob (PipeLook p)) = looking p piping.Look [] refl refl tt
job-begins (MicroJob (PipeWrite p)) = looking p piping.WriteChunk [] refl refl tt
job-begins (MicroJob (PipeNoParts p)) = calmly (refl, tt)
job-begins (MicroJob (TeeHand t)) = reading (tt, tt)

-- a call

abbrev BegunSo : Begun → Type 0
BegunSo b = Begins b.done.caused

piped-begins : (me : PipeId) (p q : PromiseId) (signal : Option SignalId) (source dest : StreamId) (closed : PromiseId) (w : Writer) (r : Option Plain)
    → Begins (OnReadable source (reads.InitializeReader closed) ∷ OnWritable dest (writes.SetUpWriter w) ∷ OnReadable source reads.Disturb ∷ pipe_calls.pipe_begins me p q signal r)
piped-begins me p q signal source dest closed w (Some r) = cancelling (refl, (tt, (refl, (tt, tt))))
piped-begins me p q None source dest closed w None = reading (refl, (tt, (refl, (tt, (tt, (tt, tt))))))
piped-begins me p q (Some a) source dest closed w None = reading (refl, (tt, (refl, (tt, (tt, (tt, (tt, tt)))))))

sent-begins : (i : StreamId) (side : Side) (me : PipeId) (p q : PromiseId) (source dest : StreamId) (closed : PromiseId) (w : Writer)
    → Begins (pipe_calls.start_end i side ∷ OnReadable source (reads.InitializeReader closed) ∷ OnWritable dest (writes.SetUpWriter w) ∷ OnReadable source reads.Disturb ∷ pipe_calls.pipe_begins me p q None None)
sent-begins i ReadableSide me p q source dest closed w = reading (tt, (refl, (tt, (refl, (tt, (tt, (tt, tt)))))))
sent-begins i WritableSide me p q source dest closed w = reading (tt, (refl, (tt, (refl, (tt, (tt, (tt, tt)))))))

opened-begins : (i : StreamId) (side : Side) → Begins (pipe_calls.start_end i side ∷ [])
opened-begins i ReadableSide = reading (tt, tt)
opened-begins i WritableSide = reading (tt, tt)

transform-begins : (a b d e : Effect) (p : PromiseId) (j : StreamId) (start : StartBy) → BeginsReading a → BeginsReading b → BeginsReading d → BeginsReading e
    → Begins (a ∷ b ∷ d ∷ e ∷ making_calls.start_transform p j start ∷ [])
transform-begins a b d e p j Now k l m n = reading (k, (l, (m, (n, (tt, tt)))))
transform-begins a b d e p j Later k l m n = reading (k, (l, (m, (n, (tt, tt)))))

pub call-begins : (call : Call) (s : Slots) → Begins (begin call s).done.caused
call-begins call s = each_call BegunSo call s (record {
  unchanged = λ reply. reading tt;
  rejected = λ fault. reading (tt, tt);
  make_readable = λ mark size start. reading (tt, tt);
  make_bytes = λ mark auto start. reading (tt, tt);
  make_writable = λ mark size start. reading (tt, tt);
  make_transform = λ kind m n start. transform-begins _ _ _ _ _ _ start tt tt tt tt;
  get_reader = λ i e. reading (refl, tt);
  get_byob = λ i is e. reading (tt, tt);
  make_tee = λ i e is free untied. reading (refl, (tt, (tt, (tt, tt))));
  get_writer = λ i e. reading (tt, tt);
  release_reader = λ l closed i e. reading (grind (arith, each-append));
  release_byob = λ l closed i e. reading (grind (arith, each-append));
  release_writer = λ l i w e f. reading (grind (arith, each-append));
  cancel = λ reason i. cancelling (refl, tt);
  read = λ l i closed e f. reading (refl, tt);
  read_into = λ l i closed room element least e f. reading (tt, tt);
  write = λ l v i e. reading (tt, tt);
  close = λ i. reading (tt, tt);
  abort = λ reason i e. reading (tt, tt);
  enqueue = λ i v e o can. reading (refl, tt);
  enqueue_half = λ i a v e o can. reading (tt, tt);
  enqueue_bytes = λ i b e is some can. reading (tt, tt);
  finish = λ i. reading (refl, tt);
  finish_bytes = λ i e is can. reading (refl, tt);
  make_request = λ i reply is. reading (tt, tt);
  respond = λ q i b e is can. reading (tt, tt);
  fail_readable = λ i reason. reading (refl, tt);
  fail_writable = λ i reason. reading (tt, tt);
  fail_half = λ a reason. reading (tt, tt);
  terminate = λ a. reading (tt, tt);
  pipe = λ source dest prevent signal e f l m. piped-begins _ _ _ signal source dest _ _ _;
  make_signal = reading tt;
  open_end = λ side. opened-begins _ side;
  send_readable = λ i there free. sent-begins _ WritableSide _ _ _ _ _ _ _;
  send_writable = λ i there free. sent-begins _ ReadableSide _ _ _ _ _ _ _;
  deliver = λ p m e is. reading (tt, tt);
  trigger = λ a reason. cancelling (tt, tt);
  settle = λ h answer p e. reading (grind arith);
})

-- what may be read and cancelled from then on

module _ (xs : List StreamShape) (ps : List PortShape) where
  pub reads-first : (e : Effect) → BeginsReading e → May xs ps true false e
  reads-first (OnReadable i operation) k = inr (by operation k)
    where
      by : (operation : ReadableOperation) → reads_only operation ≡ true → may_read true false operation ≡ true
      by (reads.Cancel r p) k = cc
      by (reads.CancelIfReadable r p) k = cc
      by (reads.PullSettled o) k = cc
      by operation k = refl
  reads-first (OnWritable i (writes.HandOn taker)) k = absurd k
  reads-first (OnPipe p operation) k = absurd k
  reads-first (OnSignal a (Trigger r)) k = absurd k
  reads-first (OnTee t tees.HandChunk) k = refl
  reads-first (OnTee t operation) k = absurd k
  reads-first (OnPort d (ports.Deliver m)) k = refl
  reads-first (OnPort d operation) k = absurd k
  reads-first (PullAlgorithm i) k = absurd k
  reads-first (CancelAlgorithm i r p) k = absurd k
  reads-first (AbortAlgorithm i r p) k = absurd k
  reads-first e k = tt

  pub cancels-first : (e : Effect) → BeginsCancelling e → May xs ps false true e
  cancels-first (OnReadable i operation) k = inr (by operation k)
    where
      by : (operation : ReadableOperation) → is_taking operation ≡ false → may_read false true operation ≡ true
      by (reads.Read q) k = cc
      by (reads.Enqueue v) k = cc
      by (reads.StartSettled o) k = cc
      by (reads.PullSettled o) k = cc
      by operation k = refl
  cancels-first (OnWritable i (writes.HandOn taker)) k = absurd k
  cancels-first (OnPipe p (piping.Abort r)) k = refl
  cancels-first (OnPipe p operation) k = absurd k
  cancels-first (OnSignal a (Trigger r)) k = refl
  cancels-first (OnTee t operation) k = absurd k
  cancels-first (OnPort d operation) k = absurd k
  cancels-first (PullAlgorithm i) k = absurd k
  cancels-first (CancelAlgorithm i r p) k = absurd k
  cancels-first (AbortAlgorithm i r p) k = absurd k
  cancels-first e k = tt

  pub calm-first : (e : Effect) → BeginsCalm e → Calm xs ps e
  calm-first (OnWritable i (writes.HandOn taker)) k = absurd k
  calm-first (OnWritable i operation) k = tt
  calm-first (OnPipe p operation) k = k
  calm-first (OnTransform t operation) k = tt
  calm-first (OnTee t (tees.ReaderSettled o)) k = refl
  calm-first (Settle p o) k = tt
  calm-first e k = absurd k

module _ (c : PortId) (i : StreamId) where
  pub reads-still : (e : Effect) → BeginsReading e → Still c i e
  reads-still (OnReadable j operation) k = record { pulls = refl; asked = refl; settles = by operation k }
    where
      by : (operation : ReadableOperation) → reads_only operation ≡ true → is_same i j && is_settling i operation ≡ false
      by (reads.PullSettled o) k = cc
      by operation k = and_false (is_same i j)
        where
          and_false : (b : Bool) → b && false ≡ false
          and_false b = grind arith
  reads-still (PullAlgorithm j) k = absurd k
  reads-still (OnPort d (ports.Deliver m)) k = record { pulls = refl; asked = refl; settles = refl }
  reads-still (OnPort d operation) k = absurd k
  reads-still e k = record { pulls = refl; asked = refl; settles = refl }

  pub calm-stills : (e : Effect) → BeginsCalm e → Still c i e
  calm-stills (OnWritable j (writes.HandOn taker)) k = absurd k
  calm-stills (OnWritable j operation) k = record { pulls = refl; asked = refl; settles = refl }
  calm-stills (OnPipe p operation) k = record { pulls = refl; asked = refl; settles = refl }
  calm-stills (OnTransform t operation) k = record { pulls = refl; asked = refl; settles = refl }
  calm-stills (OnTee t (tees.ReaderSettled o)) k = record { pulls = refl; asked = refl; settles = refl }
  calm-stills (Settle p o) k = record { pulls = refl; asked = refl; settles = refl }
  calm-stills e k = absurd k
