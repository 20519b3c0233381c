-- One step of a byte stream.
use Rattle.std.proofs.Common.{◌≡◌, ◌≢◌, ◌⊎◌, inl, inr, ℕ, zero, suc, Bool, true, false, List, [], ◌∷◌, ◌++◌, Option, Some, None, slice_get, refl, sym, ap, ◌∙◌, append_assoc, append-nil, ◌&&◌, ◌||◌, arith, if◌then◌else◌}
use Rattle.ws_laws.proofs.PortDoes.{PortCauses}
use Rattle.ws_steps.specs.declared.effects.Effect.TheVariants.{Port}
use Rattle.ws_value.specs.declared.ids.PortId.{PortId}
use Rattle.ws_steps.specs.ByteHistory.{kept, ByteFlow, no_bytes, bytes_then, entered_by, cancels, responds, shared_bytes, own_bytes, effect_bytes, step_bytes, run_bytes, value_bytes}
use Rattle.ws_steps.specs.Operations.{byte_readable_operation, byte_operation}
use Rattle.ws_steps.specs.declared.readable.ReadableState.TheVariants.{Readable}
use Rattle.ws_steps.specs.declared.byte.ByteOperation.{ByteOperation}
use Rattle.ws_steps.specs.declared.readable.ReadRequest.{ReadRequest}
use Rattle.ws_steps.specs.declared.effects.Effect.{Effect}
use Rattle.ws_steps.specs.declared.effects.Effect.TheVariants.{ChunkSteps, CloseSteps, CloseStepsWith, ErrorSteps, PullAlgorithm, CancelAlgorithm}
use Rattle.ws_value.specs.declared.ids.StreamId.{StreamId}
use Rattle.ws_byte_laws.proofs.Given.{starting}
use Rattle.ws_byte_laws.proofs.Law.{Law, operation_law, bytes_law}
use Rattle.ws_byte_laws.proofs.Balance.{Balanced, entered_unreadable}
use Rattle.ws_laws.proofs.Order.{Calm, Orderly, call-calm, job-calm, orderly-stays}
use Rattle.ws_byte_laws.proofs.OnByte.{pending, pending-none, IsByteLaw, is_history, row-law, run-orderly}
use Rattle.ws_byte_laws.proofs.Runs.{with_pending, Ordered, between, law, ordered-run}
use Rattle.ws_steps.specs.Bytes as byte
use Rattle.ws_steps.specs.Slots as realm
use Rattle.ws_steps.specs.Slots.{Stream, ByteStream, Done, has_byte, byte_at, is_byte_stream, as_byte, empty, with_promises}
use Rattle.ws_steps.specs.Run.{Entry, Called, Worked, Heard, step, run, begun_by}
use Rattle.ws_steps.specs.Begun.{Begun}
use Rattle.ws_steps.specs.Calls.{begin}
use Rattle.ws_steps.specs.Jobs.{job_effects, begin_job, job_begun}
use Rattle.ws_steps.specs.Promises.{next_job}
use Rattle.ws_steps.specs.Turns.{row}
use Rattle.ws_steps.specs.Histories.{is_same}
use Rattle.ws_steps.specs.ByteLaws.{AreFirstOf, IsByteStep, EachByteStep}
use Rattle.ws_steps.specs.declared.{calls.Call.{Call}, promises.Job.{Job}}
use Rattle.ws_steps.specs.declared.effects.Effect.TheVariants.{Readable as OnReadable, Byte, Writable, Pipe, Signal, Transform, Tee, StartAlgorithm, WriteAlgorithm, CloseAlgorithm, AbortAlgorithm}
use Rattle.ws_steps.specs.declared.readable.ReadRequest.TheVariants.{Promise, Pipe as PipeRequest, Tee as TeeRequest}
use Rattle.ws_laws.proofs.Tables.{byte_there, same_id}
use Rattle.ws_laws.proofs.Lists.{Each, each-append, append_none}
use Rattle.ws_laws.proofs.EachCall.{each_call}
use Rattle.ws_laws.proofs.Begin.{begin-makes}
use Rattle.ws_laws.proofs.PipeDoes.{PipeCauses}
use Rattle.ws_laws.proofs.TransformDoes.{TransformCauses}
use Rattle.ws_laws.proofs.TeeDoes.{TeeCauses}
use Rattle.ws_laws.proofs.Causes.{ChunkCauses, EndCauses, ErrorCauses, SignalCauses, row-causes}
use Rattle.ws_laws.proofs.StaysBytes.{row-byte, begin-byte}
use Rattle.ws_laws.proofs.Walker.{GoesUntold, RestsUntold, step-goes_untold, performed-goes}
use Rattle.ws_steps.specs.declared.pipes.SignalOperation.{SignalOperation}
use Rattle.ws_steps.specs.declared.pipes.SignalOperation.TheVariants.{Add, Forget, Trigger}
use Rattle.ws_value.specs.declared.ids.PipeId.{PipeId}
use Rattle.ws_value.specs.declared.ids.TeeId.{TeeId}
use Rattle.ws_value.specs.declared.value.Value.{Value}
use Rattle.ws_steps.specs.declared.transform.TransformId.{TransformId}
use Rattle.ws_byte_laws.specs.Descriptors.{Held}

-- a stream that is there stands as it was when a call has begun

place_stays : (xs : List Stream) (y x : Stream) (n : ℕ) → slice_get xs n ≡ Some x → slice_get (xs ++ y ∷ []) n ≡ Some x
place_stays [] y x n e = cc
place_stays (z ∷ xs) y x zero e = e
place_stays (z ∷ xs) y x (suc n) e = place_stays xs y x n e

module _ (i : StreamId) where
  begin_place : (c : Call) (s : realm.Slots) (x : Stream) → slice_get s.streams i.0 ≡ Some x → slice_get (begin c s).done.slots.streams i.0 ≡ Some x
  begin_place c s x e = begin-makes (λ z. slice_get z.streams i.0 ≡ Some x) (record {
    promise = λ z k. k;
    locks = λ z ls k. k;
    hosts = λ z hs k. k;
    pipe = λ z source dest prevent signal p k. k;
    signal = λ z k. k;
    transform = λ z kind w r p k. k;
    tee = λ z source first second cancel k. k;
    port = λ z side stream backpressure k. k;
    readable = λ z owner mark size k. place_stays z.streams _ x i.0 k;
    bytes = λ z mark auto k. place_stays z.streams _ x i.0 k;
    byob_requests = λ z r k. k;
    writable = λ z owner mark size k. place_stays z.streams _ x i.0 k;
  }) c s e

  pub begin_at : (c : Call) (s : realm.Slots) → has_byte i s ≡ true → byte_at i (begin c s).done.slots ≡ byte_at i s
  begin_at c s is =
      let there = byte_there (slice_get s.streams i.0) is in
      ap as_byte (begin_place c s (ByteStream (byte_at i s)) there)

-- what a law keeps in a step of a stream that is there

module _ (i : StreamId) (K : ByteFlow → byte.Slots → List ℕ → Type 0) (law : IsByteLaw i K) where
  abbrev All : ByteFlow → realm.Slots → List Effect → Type 0
  All h s es = (has_byte i s ≡ true) × (K h (byte_at i s) (pending i es) × Orderly i s es)

  calm_all : (h : ByteFlow) (x y : byte.Slots) (es : List Effect) → Calm i es → y ≡ x → K h x [] → K h y (pending i es)
  calm_all h x y es c e k = rw (e, pending-none i es c) k

  goes : GoesUntold bytes_then (effect_bytes i) All
  goes = record {
    row = λ h s e es k. (row-byte i e s ∙ k.0, (row-law i K law e h s es k.1.1.ordered k.0 k.1.0, (orderly-stays i).row s e es k.1.1));
    call = λ h s c k. (begin-byte i c s k.0, (calm_all h (byte_at i s) (byte_at i (begin c s).done.slots) (begin c s).done.caused (call-calm i c s) (begin_at i c s k.0) k.1.0, (orderly-stays i).call s c k.1.1));
    job = λ h s job e k. (k.0, (calm_all h (byte_at i s) (byte_at i s) (job_effects job) (job-calm i job) refl k.1.0, (orderly-stays i).job s job e k.1.1));
    answered = λ h s p k. (k.0, (k.1.0, (orderly-stays i).answered s p k.1.1));
    older = λ h s k. (k.0, (k.1.0, (orderly-stays i).older s k.1.1));
  }

  rests : RestsUntold All
  rests = record { heard = λ h s k. (k.0, (k.1.0, record { ordered = tt; below = k.1.1.below })) }

  pub step-law : (h : ByteFlow) (s : realm.Slots) (x : Entry) → Orderly i s [] → has_byte i s ≡ true → K h (byte_at i s) [] → K (bytes_then h (step_bytes i s x)) (byte_at i (step s x)) []
  step-law h s x known is k = (step-goes_untold no_bytes bytes_then is_history (effect_bytes i) All goes rests h s x (is, (k, known))).1.0

-- a stream that isn't readable: nothing enters it

record Over (h : ByteFlow) (x : byte.Slots) : Type 0 where
  held : Held x
  over : x.stream.state ≢ Readable
  entered : h.entered ≡ []

abbrev OverAt : ByteFlow → byte.Slots → List ℕ → Type 0
OverAt h x ps = Over h x

law_over : (c w : Bool) (n : List ℕ) (x : byte.Slots) (a : byte.Acts) (h f : ByteFlow) → f.entered ≡ n → n ≡ [] → Law c w n x a → Over h x → Over (bytes_then h f) a.slots
law_over c w n x a h f e m l k = record { held = l.held; over = λ r. k.over (l.live r).0; entered = rw (k.entered, e, m) refl }

over_is : (i : StreamId) → IsByteLaw i OverAt
over_is i = record {
  operation = λ op t h x ps c k. law_over (cancels op) false [] x (byte_readable_operation i op (starting x t)) h _ refl refl (operation_law i op x t k.held) k;
  controller = λ op t h x k. law_over false (responds op) (entered_by op x) x (byte_operation i op (starting x t)) h _ refl (entered_unreadable op x k.over) (bytes_law i op x t k.held) k;
  gift = λ b h x ps k. record { held = k.held; over = k.over; entered = rw k.entered refl };
}

-- a response comes only first in a step

abbrev pub IsNoByte : Effect → Type 0
IsNoByte (Byte j op) = ⊥
IsNoByte _ = Unit {0}

chunk_other : (v : Value) (request : ReadRequest) → ChunkCauses IsNoByte v request
chunk_other v (Promise p) = tt
chunk_other v (PipeRequest p) = tt
chunk_other v (TeeRequest t) = tt

end_other : (request : ReadRequest) → EndCauses IsNoByte request
end_other (Promise p) = tt
end_other (PipeRequest p) = tt
end_other (TeeRequest t) = tt

error_other : (request : ReadRequest) → ErrorCauses IsNoByte request
error_other (Promise p) = tt
error_other (PipeRequest p) = tt
error_other (TeeRequest t) = tt

pipe_other : (p : PipeId) (source dest : StreamId) (e : Effect) → PipeCauses p source dest e → IsNoByte e
pipe_other p source dest (Byte j op) c = absurd c
pipe_other p source dest _ c = tt

transform_other : (t : TransformId) (writable readable : StreamId) (e : Effect) → TransformCauses t writable readable e → IsNoByte e
transform_other t writable readable (Byte j op) c = absurd c
transform_other t writable readable _ c = tt

tee_other : (t : TeeId) (source first second : StreamId) (e : Effect) → TeeCauses t source first second e → IsNoByte e
tee_other t source first second (Byte j op) c = absurd c
tee_other t source first second _ c = tt

port_other : (c : PortId) (stream : StreamId) (e : Effect) → PortCauses c stream e → IsNoByte e
port_other c stream (Byte j op) k = absurd k
port_other c stream _ k = tt

signal_other : (operation : SignalOperation) → SignalCauses IsNoByte operation
signal_other (Add p) = tt
signal_other (Forget p) = tt
signal_other (Trigger r) = λ p. tt

-- no effect causes an operation of a byte controller
pub row-other : (e : Effect) (s : realm.Slots) → Each IsNoByte (row e s).caused
row-other (OnReadable j op) s = row-causes IsNoByte (OnReadable j op) s (record { pull = tt; cancel = λ r p. tt; chunk = λ r v. tt; close = λ r. tt; error = λ r e. tt })
row-other (Byte j op) s = row-causes IsNoByte (Byte j op) s (record { readable = record { pull = tt; cancel = λ r p. tt; chunk = λ r v. tt; close = λ r. tt; error = λ r e. tt }; close_with = λ r b. tt })
row-other (Writable j op) s = row-causes IsNoByte (Writable j op) s (record { write = tt; close = tt; abort = λ r p. tt; hand_on = λ v. tt; take = λ v t d. tt; post = λ v c d. tt })
row-other (Pipe p op) s = row-causes IsNoByte (Pipe p op) s (pipe_other p)
row-other (Signal a op) s = row-causes IsNoByte (Signal a op) s (signal_other op)
row-other (Transform t op) s = row-causes IsNoByte (Transform t op) s (transform_other t)
row-other (Tee t op) s = row-causes IsNoByte (Tee t op) s (tee_other t)
row-other (Port c op) s = row-causes IsNoByte (Port c op) s (port_other c)
row-other (StartAlgorithm j step start) s = row-causes IsNoByte (StartAlgorithm j step start) s (λ g u. tt, λ c u. tt)
row-other (PullAlgorithm j) s = row-causes IsNoByte (PullAlgorithm j) s (λ c u. tt, (λ t u. tt, (λ t. tt, (λ u. tt, λ c. tt))))
row-other (CancelAlgorithm j r p) s = row-causes IsNoByte (CancelAlgorithm j r p) s (λ c u. tt, (λ t u. tt, (λ t half u. tt, λ q u. tt)))
row-other (WriteAlgorithm j) s = row-causes IsNoByte (WriteAlgorithm j) s (tt, (λ t u. tt, λ q u. tt))
row-other (CloseAlgorithm j) s = row-causes IsNoByte (CloseAlgorithm j) s (λ c u. tt, (λ t u. tt, λ q u. tt))
row-other (AbortAlgorithm j r p) s = row-causes IsNoByte (AbortAlgorithm j r p) s (λ c u. tt, (λ t u. tt, λ q u. tt))
row-other (ChunkSteps j q v) s = row-causes IsNoByte (ChunkSteps j q v) s (chunk_other v q)
row-other (CloseSteps j q) s = row-causes IsNoByte (CloseSteps j q) s (end_other q)
row-other (CloseStepsWith j q b) s = row-causes IsNoByte (CloseStepsWith j q b) s (end_other q)
row-other (ErrorSteps j q e) s = row-causes IsNoByte (ErrorSteps j q e) s (error_other q)
row-other e s = row-causes IsNoByte e s tt

-- of these only the first may be one
abbrev pub AreBehind : List Effect → Type 0
AreBehind [] = Unit {0}
AreBehind (e ∷ es) = Each IsNoByte es

pub begin-behind : (c : Call) (s : realm.Slots) → AreBehind (begin c s).done.caused
begin-behind c s = each_call (λ (b : Begun). AreBehind b.done.caused) c s (grind arith)

pub job-behind : (job : Job) → AreBehind (job_effects job)
job-behind job = grind arith

begun_job : (s : realm.Slots) (o : Option Job) → AreBehind (job_begun s o).caused
begun_job s None = tt
begun_job s (Some job) = job-behind job

pub begun-behind : (s : realm.Slots) (x : Entry) → AreBehind (begun_by s x).caused
unfolding begin_job
begun-behind s (Called c) = begin-behind c s
begun-behind s Worked = begun_job s (next_job s.promises)
begun-behind s Heard = tt

job_at : (i : StreamId) (s : realm.Slots) (o : Option Job) → byte_at i (job_begun s o).slots ≡ byte_at i s
job_at i s None = refl
job_at i s (Some job) = refl

pub begun_at : (i : StreamId) (s : realm.Slots) (x : Entry) → has_byte i s ≡ true → byte_at i (begun_by s x).slots ≡ byte_at i s
unfolding begin_job
begun_at i s (Called c) is = begin_at i c s is
begun_at i s Worked is = job_at i s (next_job s.promises)
begun_at i s Heard is = refl

if_answers : (c : Bool) (f : ByteFlow) → f.answered ≡ false → (if c then f else no_bytes).answered ≡ false
if_answers true f e = e
if_answers false f e = refl

and_none : (c : Bool) → c && false ≡ false
and_none true = refl
and_none false = refl

or_none : (b c : Bool) → b ≡ false → c ≡ false → b || c ≡ false
or_none b c e f = rw (e, f) refl

module _ (i : StreamId) where
  quiet_answers : (e : Effect) (s : realm.Slots) → IsNoByte e → (effect_bytes i e s).answered ≡ false
  quiet_answers (OnReadable j op) s n = if_answers (is_same i j) (shared_bytes op (byte_at j s) (byte_at j (row (OnReadable j op) s).slots)) refl
  quiet_answers (ChunkSteps j q v) s n = if_answers (is_same i j) (record no_bytes { given = value_bytes v }) refl
  quiet_answers (CloseStepsWith j q b) s n = if_answers (is_same i j) (record no_bytes { given = b }) refl
  quiet_answers (Byte j op) s n = absurd n
  quiet_answers _ s n = refl

  own_answers : (j : StreamId) (op : ByteOperation) (s : realm.Slots) (y : byte.Slots) (same : Bool) → same ≡ is_same i j → (byte_at i s).stream.state ≡ Readable
      → (if same then own_bytes op (byte_at j s) y else no_bytes).answered ≡ false
  own_answers j op s y false e r = refl
  own_answers j op s y true e r =
      let k : (byte_at j s).stream.state ≡ Readable = rw (sym (same_id i j (sym e))) r in
      rw k (and_none (responds op))

  first_answers : (e : Effect) (s : realm.Slots) → (byte_at i s).stream.state ≡ Readable → (effect_bytes i e s).answered ≡ false
  first_answers (Byte j op) s r = own_answers j op s (byte_at j (row (Byte j op) s).slots) (is_same i j) refl r
  first_answers (OnReadable j op) s r = quiet_answers (OnReadable j op) s tt
  first_answers (ChunkSteps j q v) s r = quiet_answers (ChunkSteps j q v) s tt
  first_answers (CloseStepsWith j q b) s r = quiet_answers (CloseStepsWith j q b) s tt
  first_answers _ s r = refl

  abbrev Unanswered : ByteFlow → realm.Slots → List Effect → Type 0
  Unanswered h s es = (h.answered ≡ false) × (Each IsNoByte es ⊎ (AreBehind es × ((byte_at i s).stream.state ≡ Readable)))

  unanswered_row : (h : ByteFlow) (s : realm.Slots) (e : Effect) (es : List Effect) → Unanswered h s (e ∷ es) → Unanswered (bytes_then h (effect_bytes i e s)) (row e s).slots ((row e s).caused ++ es)
  unanswered_row h s e es (a, inl n) = (or_none h.answered _ a (quiet_answers e s n.0), inl (each-append IsNoByte (row e s).caused es (row-other e s) n.1))
  unanswered_row h s e es (a, inr b) = (or_none h.answered _ a (first_answers e s b.1), inl (each-append IsNoByte (row e s).caused es (row-other e s) b.0))

  pub step_unanswered : (s : realm.Slots) (x : Entry) → has_byte i s ≡ true → (byte_at i s).stream.state ≡ Readable → (step_bytes i s x).answered ≡ false
  step_unanswered s x is r =
      let d : Done = begun_by s x in
      (performed-goes no_bytes bytes_then is_history (effect_bytes i) Unanswered unanswered_row no_bytes d (refl, inr (begun-behind s x, rw (begun_at i s x is) r))).0

-- a step is told from what is kept

abbrev opening : byte.Slots → ByteFlow
opening b = record { entered = kept b; given = []; cancelled = false; left = true; answered = false }

opening_balanced : (b : byte.Slots) → Held b → Balanced (with_pending [] (opening b)) b
opening_balanced b h =
    record { dropped = []; all = sym (append-nil (kept b)); live = λ e. refl; whole = λ f g e. absurd (cc); closing = λ f g e. refl; ended = λ f. absurd (cc); held = h }

none_given : (f : ByteFlow) (k : List ℕ) → AreFirstOf f.given (k ++ f.entered) → k ≡ [] → f.entered ≡ [] → f.given ≡ []
none_given f k p e n = (append_none f.given p.0 (p.1 ∙ rw (e, n) refl)).0

opened : (f : ByteFlow) (b a : byte.Slots) → Held b → (b.stream.state ≡ Readable → f.answered ≡ false) → Balanced (bytes_then (opening b) f) a → (b.stream.state ≢ Readable → Over f a) → IsByteStep f b a
opened f b a h n k s =
    record {
      readable = λ r e. k.all ∙ rw (k.live e, append-nil) refl;
      closes = λ r c e. k.all ∙ rw (k.closing c (n r) e, append-nil) refl;
      closed = λ e. (k.dropped, append_assoc f.given (kept a) k.dropped ∙ (sym k.all ∙ rw ((s (λ r. cc)).entered, append-nil) refl));
      front = (kept a ++ k.dropped, sym k.all);
      entered = λ m. (s m).entered;
      errored = λ e. none_given f (kept b) (kept a ++ k.dropped, sym k.all) (rw ((h.errored e).0, (h.errored e).1) refl) (s (λ r. cc)).entered;
    }

pub each_byte_step : EachByteStep
each_byte_step entries x i is =
    let s : realm.Slots = run entries empty in
    let b : byte.Slots = byte_at i s in
    let m : Balanced (run_bytes i entries empty) b = between (run_bytes i entries empty) b ((ordered-run i entries).there is) in
    let f : ByteFlow = step_bytes i s x in
    let a : byte.Slots = byte_at i (step s x) in
    let k : Balanced (bytes_then (opening b) f) a = between (bytes_then (opening b) f) a (step-law i Ordered (law i) (opening b) s x (run-orderly i entries) is (opening_balanced b m.held)) in
    let z : IsByteStep f b a = opened f b a m.held (λ r. step_unanswered i s x is r) k
    (λ n. step-law i OverAt (over_is i) no_bytes s x (run-orderly i entries) is (record { held = m.held; over = n; entered = refl })) in
    (z, λ c. none_given f (kept b) z.front (m.ended c).1 (z.entered (λ q. let w = (m.ended c).0 in cc)))
