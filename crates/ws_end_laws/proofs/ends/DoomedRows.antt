-- What each effect, each call and each job does to a pipe that closes a destination that fails.
use Rattle.ws_value.specs.declared.ids.TeeId.{TeeId}
use Rattle.ws_laws.proofs.PortDoes.{PortCauses}
use Rattle.ws_value.specs.declared.ids.PortId.{PortId}
use Rattle.ws_steps.specs.declared.effects.Effect.TheVariants.{Tee as OnTee, Port as OnPort}
use Rattle.std.proofs.Common.{◌≡◌, ◌⊎◌, inl, inr, ⊎_elim, Bool, true, false, List, [], ◌∷◌, ◌++◌, Option, Some, None, Err, slice_get, refl, sym, ap, subst, arith}
use Rattle.ws_value.specs.declared.{ids.PipeId.{PipeId}, ids.PromiseId.{PromiseId}, ids.StreamId.{StreamId}, value.Plain.{Plain}}
use Rattle.ws_steps.specs.declared.calls.Call.{Call}
use Rattle.ws_steps.specs.declared.effects.Effect.{Effect}
use Rattle.ws_steps.specs.declared.effects.Effect.TheVariants.{Readable as OnReadable, Writable as OnWritable, Pipe as OnPipe, Signal as OnSignal, Transform as OnTransform, StartAlgorithm, PullAlgorithm, CancelAlgorithm, WriteAlgorithm, CloseAlgorithm, AbortAlgorithm, ChunkSteps, CloseSteps, ErrorSteps}
use Rattle.ws_steps.specs.declared.pipes.{PipeOperation.TheVariants.{ActionSettled}, SignalOperation.{SignalOperation}, SignalOperation.TheVariants.{Add, Forget, Trigger}}
use Rattle.ws_steps.specs.declared.readable.{ReadRequest.TheVariants.{Promise, Pipe as PipeRequest, Tee as TeeRequest}, ReadableOperation.{ReadableOperation}}
use Rattle.ws_steps.specs.declared.transform.TransformId.{TransformId}
use Rattle.ws_steps.specs.declared.writable.{WritableOperation.{WritableOperation}, WritableOperation.TheVariants.{ClosePropagating}}
use Rattle.ws_steps.specs.Begun.{Begun}
use Rattle.ws_steps.specs.Calls.{begin}
use Rattle.ws_steps.specs.Histories.{is_same}
use Rattle.ws_steps.specs.Operations.{writable_operation}
use Rattle.ws_steps.specs.Pipes as pipe
use Rattle.ws_steps.specs.Promises.{Table, use_gift}
use Rattle.ws_steps.specs.Slots.{Slots, Stream, ReadableStream, WritableStream, is_writable_stream, Done, as_writable, writable_at, has_writable, on_writable, put_writable}
use Rattle.ws_steps.specs.Turns.{Moment, row}
use Rattle.ws_steps.specs.Writable as writable
use Rattle.ws_steps.specs.WritableHistory.{Writes}
use Rattle.ws_laws.proofs.EachCall.{each_call}
use Rattle.ws_laws.proofs.Lists.{Each, each-append}
use Rattle.ws_laws.proofs.Apart.{row-streams}
use Rattle.ws_laws.proofs.Causes.{Causes, SignalCauses, row-causes}
use Rattle.ws_laws.proofs.Tables.{same_id, writable_acts, on_writable-same, on_writable-other}
use Rattle.ws_laws.proofs.TransformDoes.{TransformCauses}
use Rattle.ws_laws.proofs.TeeDoes.{TeeCauses}
use Rattle.ws_writable_laws.proofs.Agenda.{Kept}
use Rattle.ws_pipe_laws.specs.pipes.PipeHistory.{Course}
use Rattle.ws_pipe_laws.specs.pipes.PipeMoves.{hears_action}
use Rattle.ws_pipe_laws.proofs.writes.Orderly.{moment}
use Rattle.ws_end_laws.proofs.ends.Altering.{Alters, row-alters}
use Rattle.ws_end_laws.proofs.ends.Doomed.{NotTold, InEffects, in-behind, course_in, Unfulfilled, Doomed, Asks, Gives, Opens, Queues, Hears, Failed, heard-on, open-heard, pipe-told}
use Rattle.ws_end_laws.proofs.ends.EndedPromises.{IsLast, row-keeps}
use Rattle.ws_end_laws.proofs.ends.Failing.{Unclosed, Failing, failing-operation}
use Rattle.ws_end_laws.proofs.ends.Hearing as hearing
use Rattle.ws_end_laws.proofs.ends.Hearing.{Heard, Registered, Queued, Well, Made, reaction, reacts-heard}
use Rattle.ws_end_laws.proofs.ends.Rejections.{IsRejected, rejected-keeps, Asked, asked-operation, close-asked}
use Rattle.ws_end_laws.proofs.ends.Streaming.{expected}
use Rattle.ws_steps.specs.declared.effects.Effect.TheVariants.{Byte, CloseStepsWith}
use Rattle.ws_steps.specs.Slots.{ByteStream}
use Rattle.ws_steps.specs.declared.byte.ByteOperation.{ByteOperation}
use Rattle.ws_steps.specs.Operations.{byte_operation}
use Rattle.ws_laws.proofs.Tables.{on_source-writable, on_byte-writable}

-- what goes on with each effect of what is known of the promise

heard-alters : (p : PipeId) (d : PromiseId) → Alters (Heard p d)
heard-alters p d = record {
  fresh = λ t k. hearing.heard-fresh p d t k;
  settle = λ t q o k. hearing.heard-settle p d t q o k;
  answer = λ t q o w k. hearing.heard-answer p d t q o w k;
  react = λ t q r k. hearing.heard-react p d t q r k;
  follow = λ t q r k. hearing.heard-follow p d t q r k;
  micro = λ t m k. hearing.heard-micro p d t m k;
  tell = λ t e k. hearing.heard-tell p d t e k;
}

made-alters : (p : PipeId) (d : PromiseId) → Alters (Made p d)
made-alters p d = record {
  fresh = λ t k. hearing.made-fresh p d t k;
  settle = λ t q o k. hearing.made-settle p d t q o k;
  answer = λ t q o w k. hearing.made-answer p d t q o k;
  react = λ t q r k. hearing.made-react p d t q r k;
  follow = λ t q r k. hearing.made-follow p d t q r k;
  micro = λ t m k. hearing.made-micro p d t m k;
  tell = λ t e k. hearing.made-tell p d t e k;
}

queued-alters : (p : PipeId) (d : PromiseId) → Alters (Queued p d)
queued-alters p d = record {
  fresh = λ t k. hearing.queued-fresh p d t k;
  settle = λ t q o k. hearing.queued-settle p d t q o k;
  answer = λ t q o w k. hearing.queued-answer p d t q o k;
  react = λ t q r k. hearing.queued-react p d t q r k;
  follow = λ t q r k. hearing.queued-follow p d t q r k;
  micro = λ t m k. hearing.queued-micro p d t m k;
  tell = λ t e k. hearing.queued-tell p d t e k;
}

-- the destination

-- a stream that fails is there
failing-there : (j : StreamId) (s : Slots) → Failing (writable_at j s) → has_writable j s ≡ true
failing-there j s k = by (slice_get s.streams j.0) k
  where
    by : (o : Option Stream) → Failing (as_writable o) → is_writable_stream o ≡ true
    by None k = let e = k.state in cc
    by (Some (ReadableStream r)) k = let e = k.state in cc
    by (Some (ByteStream b)) k = let e = k.state in cc
    by (Some (WritableStream w)) k = refl

-- the close is asked of stream j still, or its promise is rejected
abbrev AskedAt : PromiseId → StreamId → Slots → Type 0
AskedAt d j z = (((writable_at j z).close_request ≡ Some d) × Failing (writable_at j z)) ⊎ (z.promises.astray ≡ false → IsRejected d z.promises)

-- after an operation of the stream itself
own-asked : (d : PromiseId) (j : StreamId) (operation : WritableOperation) (s : Slots) → has_writable j s ≡ true → Asked d (writable_operation j operation (writable_acts j s)) → Failing (writable_operation j operation (writable_acts j s)).slots
    → AskedAt d j (row (OnWritable j operation) s).slots
unfolding row
own-asked d j operation s there a f =
    let b : writable.Acts = writable_operation j operation (writable_acts j s) in
    let same : on_writable (writable_operation j operation) j s ≡ put_writable j s b = rw there refl in
    let place : writable_at j (on_writable (writable_operation j operation) j s).slots ≡ b.slots = ap as_writable (on_writable-same (writable_operation j operation) j s there) in
    let table : (on_writable (writable_operation j operation) j s).slots.promises ≡ b.out.promises = ap (λ (d : Done). d.slots.promises) same in
    ⊎_elim (λ (e : b.slots.close_request ≡ Some d). inl (subst (λ (w : writable.Slots). (w.close_request ≡ Some d) × Failing w) (sym place) (e, f)))
    (λ (r : b.out.promises.astray ≡ false → IsRejected d b.out.promises). inr (subst (λ (t : Table). t.astray ≡ false → IsRejected d t) (sym table) r)) a

abbrev KeepsAsked : PromiseId → StreamId → Slots → Effect → Type 0
KeepsAsked d j s e = (h : Writes) (es : List Effect) → Kept j h s (e ∷ es) → (writable_at j s).close_request ≡ Some d → Failing (writable_at j s) → AskedAt d j (row e s).slots

same-asked : (d : PromiseId) (j : StreamId) (s z : Slots) → writable_at j z ≡ writable_at j s → (writable_at j s).close_request ≡ Some d → Failing (writable_at j s) → AskedAt d j z
same-asked d j s z same c f = inl (subst (λ (w : writable.Slots). (w.close_request ≡ Some d) × Failing w) (sym same) (c, f))

readable-asked : (d : PromiseId) (j i : StreamId) (operation : ReadableOperation) (s : Slots) → KeepsAsked d j s (OnReadable i operation)
unfolding row
readable-asked d j i operation s h es k c f = same-asked d j s (row (OnReadable i operation) s).slots (on_source-writable operation i s j) c f

byte-asked : (d : PromiseId) (j i : StreamId) (operation : ByteOperation) (s : Slots) → KeepsAsked d j s (Byte i operation)
unfolding row
byte-asked d j i operation s h es k c f = same-asked d j s (row (Byte i operation) s).slots (on_byte-writable (byte_operation i operation) i s j) c f

here-asked : (d : PromiseId) (j : StreamId) (operation : WritableOperation) (s : Slots) → KeepsAsked d j s (OnWritable j operation)
here-asked d j operation s h es k c f =
    let x = expected j h es s operation k in
    own-asked d j operation s (failing-there j s f) (asked-operation d j operation (writable_acts j s) x f c) (failing-operation j operation (writable_acts j s) x f)

other-asked : (d : PromiseId) (j i : StreamId) (operation : WritableOperation) (s : Slots) → is_same j i ≡ false → KeepsAsked d j s (OnWritable i operation)
unfolding row
other-asked d j i operation s n h es k c f = same-asked d j s (row (OnWritable i operation) s).slots (ap as_writable (on_writable-other (writable_operation i operation) i s j n)) c f

writable-asked : (d : PromiseId) (j i : StreamId) (operation : WritableOperation) (s : Slots) (same : Bool) → is_same j i ≡ same → KeepsAsked d j s (OnWritable i operation)
writable-asked d j i operation s false n = other-asked d j i operation s n
writable-asked d j i operation s true n = subst (λ (l : StreamId). KeepsAsked d j s (OnWritable l operation)) (same_id j i n) (here-asked d j operation s)

row-asked : (d : PromiseId) (j : StreamId) (s : Slots) (e : Effect) → KeepsAsked d j s e
row-asked d j s (OnReadable i operation) h es k c f = readable-asked d j i operation s h es k c f
row-asked d j s (Byte i operation) h es k c f = byte-asked d j i operation s h es k c f
row-asked d j s (OnWritable i operation) h es k c f = writable-asked d j i operation s (is_same j i) refl h es k c f
row-asked d j s e h es k c f = same-asked d j s (row e s).slots (ap (λ (xs : List Stream). as_writable (slice_get xs j.0)) (row-streams e s tt)) c f

unfulfilled-of : (d : PromiseId) (j : StreamId) (z : Slots) → z.promises.astray ≡ false → AskedAt d j z → Unfulfilled d (writable_at j z) z.promises
unfulfilled-of d j z a (inl k) = inl k
unfulfilled-of d j z a (inr k) = inr (k a)

row-unfulfilled : (d : PromiseId) (j : StreamId) (s : Slots) (e : Effect) (h : Writes) (es : List Effect) → Kept j h s (e ∷ es) → (row e s).slots.promises.astray ≡ false → Unfulfilled d (writable_at j s) s.promises
    → Unfulfilled d (writable_at j (row e s).slots) (row e s).slots.promises
row-unfulfilled d j s e h es k a (inl c) = unfulfilled-of d j (row e s).slots a (row-asked d j s e h es k c.0 c.1)
row-unfulfilled d j s e h es k a (inr r) = inr (rejected-keeps d s.promises (row e s).slots.promises (row-keeps e s) r)

-- who is told

module _ (p : PipeId) where
  signal-told : (operation : SignalOperation) → SignalCauses (NotTold p) operation
  signal-told (Trigger r) = λ q. tt
  signal-told (Add q) = tt
  signal-told (Forget q) = tt

  transform-told : (t : TransformId) (writable readable : StreamId) (e : Effect) → TransformCauses t writable readable e → NotTold p e
  transform-told t writable readable (OnPipe q operation) c = absurd c
  transform-told t writable readable _ c = tt

  tee-told : (t : TeeId) (source first second : StreamId) (e : Effect) → TeeCauses t source first second e → NotTold p e
  tee-told t source first second (OnPipe q operation) c = absurd c
  tee-told t source first second _ c = tt

  port-told : (c : PortId) (stream : StreamId) (e : Effect) → PortCauses c stream e → NotTold p e
  port-told c stream (OnPipe q operation) k = absurd k
  port-told c stream _ k = tt

  told-causes : (e : Effect) → Causes (NotTold p) e
  told-causes (OnReadable i operation) = record { pull = tt; cancel = λ r q. tt; chunk = λ r v. tt; close = λ r. tt; error = λ r e. tt }
  told-causes (Byte i operation) = record { readable = record { pull = tt; cancel = λ r q. tt; chunk = λ r v. tt; close = λ r. tt; error = λ r e. tt }; close_with = λ r b. tt }
  told-causes (OnWritable i operation) = record { write = tt; close = tt; abort = λ r q. tt; hand_on = λ v. tt; take = λ v t d. tt; post = λ v c d. tt }
  told-causes (OnPipe q operation) = λ source dest e c. pipe-told p q source dest e c
  told-causes (OnSignal a operation) = signal-told operation
  told-causes (OnTransform t operation) = transform-told t
  told-causes (OnTee t operation) = tee-told t
  told-causes (OnPort c operation) = port-told c
  told-causes (StartAlgorithm i step start) = (λ g u. tt, λ c u. tt)
  told-causes (PullAlgorithm i) = (λ c u. tt, (λ t u. tt, (λ t. tt, (λ u. tt, λ c. tt))))
  told-causes (CancelAlgorithm i r q) = (λ c u. tt, (λ t u. tt, (λ t half u. tt, λ q u. tt)))
  told-causes (WriteAlgorithm i) = (tt, (λ t u. tt, λ q u. tt))
  told-causes (CloseAlgorithm i) = (λ c u. tt, (λ t u. tt, λ q u. tt))
  told-causes (AbortAlgorithm i r q) = (λ c u. tt, (λ t u. tt, λ q u. tt))
  told-causes (ChunkSteps i (Promise q) v) = tt
  told-causes (ChunkSteps i (PipeRequest q) v) = tt
  told-causes (ChunkSteps i (TeeRequest t) v) = tt
  told-causes (CloseSteps i (Promise q)) = tt
  told-causes (CloseStepsWith i (Promise q) b) = tt
  told-causes (CloseSteps i (PipeRequest q)) = tt
  told-causes (CloseSteps i (TeeRequest t)) = tt
  told-causes (CloseStepsWith i (PipeRequest q) b) = tt
  told-causes (CloseStepsWith i (TeeRequest t) b) = tt
  told-causes (ErrorSteps i (Promise q) e) = tt
  told-causes (ErrorSteps i (PipeRequest q) e) = tt
  told-causes (ErrorSteps i (TeeRequest t) e) = tt
  told-causes _ = tt

  row-told : (e : Effect) (s : Slots) (es : List Effect) → Each (NotTold p) es → Each (NotTold p) ((row e s).caused ++ es)
  row-told e s es n = each-append (NotTold p) (row e s).caused es (row-causes (NotTold p) e s (told-causes e)) n

  pub call-told : (c : Call) (s : Slots) → Each (NotTold p) (begin c s).done.caused
  call-told c s = each_call (λ (b : Begun). Each (NotTold p) b.done.caused) c s (grind (arith, each-append))

  -- an effect that is no operation of the pipe

  gives : (d : PromiseId) (s : Slots) → Made p d s.promises → Heard p d (row (hears_action p d) s).slots.promises
  unfolding row use_gift
  gives d s k = reacts-heard p d s.promises k.entry k.there

  same_head : (e f : Effect) (es fs : List Effect) → e ∷ es ≡ f ∷ fs → (e ≡ f) × (es ≡ fs)
  same_head e f es fs k = (cc, cc)

  module _ (h : List Moment) (s : Slots) (e : Effect) (es : List Effect) (x : pipe.Slots) (straight : (row e s).slots.promises.astray ≡ false) (g : (i : StreamId) → (g : Writes) × Kept i g s (e ∷ es)) (course : course_in p (h ++ moment e s ∷ []) ≡ course_in p h)
      (other : (r : Plain) → e ≡ OnPipe p (ActionSettled (Err r)) → ⊥) where
    abbrev z : Slots
    z = (row e s).slots

    abbrev After : Type 0
    After = Doomed p (h ++ moment e s ∷ []) x (writable_at x.dest z) z.promises ((row e s).caused ++ es)

    on : (d : PromiseId) → Unfulfilled d (writable_at x.dest s) s.promises → Unfulfilled d (writable_at x.dest z) z.promises
    on d u = row-unfulfilled d x.dest s e (g x.dest).0 es (g x.dest).1 straight u

    -- the close is performed
    closes : (d : PromiseId) (rest : List Effect) → e ≡ OnWritable x.dest (ClosePropagating d) → es ≡ hears_action p d ∷ rest → Unclosed (writable_at x.dest s) → Failing (writable_at x.dest s) → Unfulfilled d (writable_at x.dest z) z.promises
    closes d rest is rest_is u f =
        let k : Kept x.dest (g x.dest).0 s (OnWritable x.dest (ClosePropagating d) ∷ es) = subst (λ (c : Effect). Kept x.dest (g x.dest).0 s (c ∷ es)) is (g x.dest).1 in
        let asked : AskedAt d x.dest (row (OnWritable x.dest (ClosePropagating d)) s).slots =
        own-asked d x.dest (ClosePropagating d) s (failing-there x.dest s f) (close-asked d x.dest (writable_acts x.dest s) u f) (failing-operation x.dest (ClosePropagating d) (writable_acts x.dest s) (expected x.dest (g x.dest).0 es s (ClosePropagating d) k) f) in
        unfulfilled-of d x.dest z straight (subst (λ (c : Effect). AskedAt d x.dest (row c s).slots) (sym is) asked)

    given : (d : PromiseId) → e ≡ hears_action p d → Made p d s.promises → Heard p d z.promises
    given d is k = subst (λ (c : Effect). Heard p d (row c s).slots.promises) (sym is) (gives d s k)

    pub other-doomed : Doomed p h x (writable_at x.dest s) s.promises (e ∷ es) → After
    other-doomed (Asks d rest a is u f k n) =
        let heads = same_head e (OnWritable x.dest (ClosePropagating d)) es (hears_action p d ∷ rest) is in
        Gives d a (closes d rest heads.0 heads.1 u f) (in-behind (hears_action p d) (row e s).caused es (subst (InEffects (hears_action p d)) (sym heads.1) (inl refl))) (row-alters (Made p d) (made-alters p d) e s k) (row-told e s es n.1)
    other-doomed (Gives d a u (inl is) k n) = heard-on p d (h ++ moment e s ∷ []) x (writable_at x.dest z) z.promises ((row e s).caused ++ es) a (on d u) (given d is k) (row-told e s es n.1)
    other-doomed (Gives d a u (inr i) k n) = Gives d a (on d u) (in-behind (hears_action p d) (row e s).caused es i) (row-alters (Made p d) (made-alters p d) e s k) (row-told e s es n.1)
    other-doomed (Opens d a u k n) =
        heard-on p d (h ++ moment e s ∷ []) x (writable_at x.dest z) z.promises ((row e s).caused ++ es) a (on d u) (row-alters (Heard p d) (heard-alters p d) e s (open-heard p d s.promises k)) (row-told e s es n.1)
    other-doomed (Queues d a k n) = Queues d a (row-alters (Queued p d) (queued-alters p d) e s k) (row-told e s es n.1)
    other-doomed (Hears r rest a is) = absurd (other r (same_head e (OnPipe p (ActionSettled (Err r))) es rest is).0)
    other-doomed (Failed c o l) = Failed c o (subst (λ (f : Course). IsLast (Some c) f.ended) (sym course) l)
