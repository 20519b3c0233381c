-- What operations of transform streams do with promises: what they carry is done, and else they make reactions of their own and resolve promises.
use Rattle.std.proofs.Common.{◌≡◌, Bool, List, ◌++◌, Option, Some, None, Ok, Err, slice_get, refl, arith, true, false, not, ◌&&◌, [], ◌∷◌}
use Rattle.std.proofs.Common.{[]}
use Rattle.std.proofs.Common.{◌∷◌}
use Rattle.std.proofs.Common.{not}
use Rattle.ws_steps.specs.declared.transform.TransformOperation.TheVariants.{Error}
use Rattle.ws_steps.specs.declared.transform.TransformOperation.TheVariants.{Enqueue}
use Rattle.std.proofs.Common.{◌&&◌}
use Rattle.ws_value.specs.declared.ids.PromiseId.{PromiseId}
use Rattle.ws_value.specs.declared.ids.StreamId.{StreamId}
use Rattle.ws_value.specs.declared.value.Plain.{Plain}
use Rattle.ws_value.specs.declared.value.Value.{Value}
use Rattle.ws_steps.specs.declared.calls.HostCall.{HostCall}
use Rattle.ws_steps.specs.declared.calls.HostCall.TheVariants.{Transform as HostTransform, Flush as HostFlush, CancelTransform as HostCancelTransform}
use Rattle.ws_steps.specs.declared.effects.Effect.{Effect}
use Rattle.ws_steps.specs.declared.effects.Effect.TheVariants.{Readable, Writable, Transform, Tee, Give, Settle, CallHost}
use Rattle.ws_steps.specs.declared.effects.Use.{Use}
use Rattle.ws_steps.specs.declared.effects.Use.TheVariants.{React, Resolve}
use Rattle.ws_steps.specs.declared.promises.Step.{Step}
use Rattle.ws_steps.specs.declared.promises.Step.TheVariants.{TransformChanged, Transformed, TransformFlushed, TransformAborted, TransformCancelled}
use Rattle.ws_steps.specs.declared.readable.ReadableState.{ReadableState}
use Rattle.ws_steps.specs.declared.transform.Halves.{Halves}
use Rattle.ws_steps.specs.declared.transform.Kind.{Kind}
use Rattle.ws_steps.specs.declared.transform.TransformId.{TransformId}
use Rattle.ws_steps.specs.declared.transform.TransformOperation.{TransformOperation}
use Rattle.ws_steps.specs.declared.transform.TransformOperation.TheVariants as names
use Rattle.ws_steps.specs.declared.writable.WritableOperation.TheVariants.{ErrorIfNeeded, HandOn}
use Rattle.ws_steps.specs.declared.writable.WritableState.{WritableState}
use Rattle.ws_steps.specs.Operations.{transform_operation}
use Rattle.ws_steps.specs.Slots.{Slots, found, halves_at, on_transform_at}
use Rattle.ws_steps.specs.Transform as transform
use Rattle.ws_steps.specs.Tee as tee
use Rattle.ws_steps.specs.declared.readable.ReadableOperation.{ReadableOperation}
use Rattle.ws_steps.specs.declared.readable.ReadableOperation.TheVariants as reads
use Rattle.ws_value.specs.declared.ids.TeeId.{TeeId}
use Rattle.ws_steps.specs.declared.tee.Half.{Half}
use Rattle.ws_steps.specs.declared.tee.TeeOperation.{TeeOperation}
use Rattle.ws_steps.specs.declared.tee.TeeOperation.TheVariants as tees
use Rattle.ws_steps.specs.declared.tee.TeePhase.{TeePhase}
use Rattle.ws_steps.specs.declared.tee.TeePhase.TheVariants.{Resting, Reading, Over}
use Rattle.ws_steps.specs.Operations.{tee_operation}
use Rattle.ws_steps.specs.Promises.{next_id, fresh}
use Rattle.ws_steps.specs.Slots.{on_tee_at}
use Rattle.ws_laws.proofs.Tables.{either}
use Rattle.ws_value.specs.declared.value.Plain.TheVariants.{Pair}
use Rattle.ws_steps.specs.Transform.{Acts, set_backpressure, unblock, transform_error, terminate, enqueue, enqueued, transform_by, transform_chunk, perform_transform, wait_for_change, sink_write, write_in, write_goes_on, source_pull, finish_by, sink_close, sink_abort, source_cancel, flushed_in, flush_settled, aborted_in, abort_settled, cancelled_in, cancel_settled}
use Rattle.ws_steps.specs.Turns.{row}
use Rattle.ws_laws.proofs.Lists.{Each, each-append}

-- what is done with a promise that an algorithm gives, where an operation carries it
abbrev pub Carries : (Use → Type 0) → TransformOperation → Type 0
Carries N (names.SinkWrite u) = N u
Carries N (names.SourcePull u) = N u
Carries N (names.SinkClose u) = N u
Carries N (names.SinkAbort r u) = N u
Carries N (names.SourceCancel r u) = N u
Carries N _ = Unit {0}

-- the calls of algorithms of transform streams
abbrev pub IsTransforms : HostCall → Type 0
IsTransforms (HostTransform i v) = Unit {0}
IsTransforms (HostFlush i) = Unit {0}
IsTransforms (HostCancelTransform i r) = Unit {0}
IsTransforms _ = ⊥

-- an effect that an operation of a transform stream causes, where M holds of its writable half
abbrev pub Uses : (Use → Type 0) → (StreamId → Type 0) → Effect → Type 0
Uses N M (Give gift u) = N u
Uses N M (CallHost call u) = IsTransforms call × N u
Uses N M (Readable i operation) = Unit {0}
Uses N M (Writable i (ErrorIfNeeded e)) = Unit {0}
Uses N M (Writable i (HandOn taker)) = M i
Uses N M (Writable i operation) = ⊥
Uses N M (Transform t names.Enqueued) = Unit {0}
Uses N M (Transform t names.Unblock) = Unit {0}
Uses N M (Transform t operation) = ⊥
Uses N M (Settle p o) = Unit {0}
Uses N M _ = ⊥

-- the same of an operation of a tee, and of an effect that it causes

abbrev pub CarriesTee : (Use → Type 0) → TeeOperation → Type 0
CarriesTee N (tees.CancelBranch half r u) = N u
CarriesTee N _ = Unit {0}

abbrev pub TeeUses : (Use → Type 0) → Effect → Type 0
TeeUses N (Give gift u) = N u
TeeUses N (Readable i operation) = Unit {0}
TeeUses N (Tee t tees.Handed) = Unit {0}
TeeUses N (Tee t operation) = ⊥
TeeUses N (Settle p o) = Unit {0}
TeeUses N _ = ⊥

-- what holds of the uses that transform streams make themselves
pub record Own (N : Use → Type 0) : Type 0 where
  pub resolve : (p : PromiseId) → N (Resolve p)
  pub changed : (t : TransformId) (p : PromiseId) → N (React (TransformChanged t p) None)
  pub transformed : (t : TransformId) (p : PromiseId) → N (React (Transformed t) (Some p))
  pub flushed : (t : TransformId) (p : PromiseId) → N (React (TransformFlushed t p) None)
  pub aborted : (t : TransformId) (p : PromiseId) (r : Plain) → N (React (TransformAborted t p r) None)
  pub cancelled : (t : TransformId) (p : PromiseId) (r : Plain) → N (React (TransformCancelled t p r) None)

module _ (N : Use → Type 0) (M : StreamId → Type 0) (own : Own N) (me : TransformId) where
  abbrev All : List Effect → Type 0
  All es = Each (Uses N M) es

  abbrev Keeps : Acts → Acts → Type 0
  Keeps a b = All a.out.effects → All b.out.effects

  backpressure-uses : (b : Bool) (a : Acts) → Keeps a (set_backpressure b a)
  unfolding set_backpressure
  backpressure-uses b a h = h

  unblock-uses : (a : Acts) → Keeps a (unblock a)
  unfolding unblock
  unblock-uses a h = grind (arith, h, backpressure-uses)

  enqueued-uses : (halves : Halves) (a : Acts) → Keeps a (enqueued halves a)
  unfolding enqueued
  enqueued-uses halves a h = grind (arith, h, backpressure-uses)

  chunk-uses : (halves : Halves) (v : Value) (d : PromiseId) (a : Acts) (kind : Kind) → All (transform_by me halves v d a kind)
  chunk-uses halves v d a kind = let n = own.transformed me d in grind (arith, n)

  perform-uses : (u : Use) (a : Acts) → N u → M a.slots.writable → Keeps a (perform_transform me u a)
  perform-uses u a n m h = each-append (Uses N M) a.out.effects _ h (m, (n, tt))

  wait-uses : (u : Use) (a : Acts) → N u → Keeps a (wait_for_change me u a)
  wait-uses u a n h = each-append (Uses N M) a.out.effects _ h (own.changed me _, (n, tt))

  write-uses : (u : Use) (a : Acts) → N u → M a.slots.writable → Keeps a (sink_write me u a)
  unfolding sink_write
  write-uses u a n m h = let p = perform-uses u a n m h in let w = wait-uses u a n h in grind (arith, p, w)

  goes_on-uses : (halves : Halves) (d : PromiseId) (a : Acts) (state : WritableState) → M a.slots.writable → Keeps a (write_in me halves d a state)
  goes_on-uses halves d a state m h = let p = perform-uses (Resolve d) a (own.resolve d) m h in grind (arith, each-append, h, p)

  pull-uses : (u : Use) (a : Acts) → N u → Keeps a (source_pull u a)
  unfolding source_pull set_backpressure
  pull-uses u a n h = each-append (Uses N M) a.out.effects _ h (n, tt)

  algorithm-uses : (call : HostCall) (step : Step) (kind : Kind) → IsTransforms call → N (React step None) → Uses N M (transform.algorithm kind call step)
  algorithm-uses call step kind c n = grind (arith, c, n)

  finish-uses : (call : HostCall) (step : PromiseId → Step) (u : Use) (a : Acts) (finish : Option PromiseId) → IsTransforms call → ((p : PromiseId) → N (React (step p) None)) → N u → Keeps a (finish_by call step u a finish)
  finish-uses call step u a (Some p) c s n h = each-append (Uses N M) a.out.effects _ h (n, tt)
  finish-uses call step u a None c s n h = each-append (Uses N M) a.out.effects _ h (algorithm-uses call (step _) a.slots.kind c (s _), (n, tt))

  flushed-uses : (p : PromiseId) (halves : Halves) (a : Acts) (state : ReadableState) → Keeps a (flushed_in p halves a state)
  flushed-uses p halves a state h = grind (arith, each-append, h)

  aborted-uses : (p : PromiseId) (halves : Halves) (r : Plain) (a : Acts) (state : ReadableState) → Keeps a (aborted_in p halves r a state)
  aborted-uses p halves r a state h = grind (arith, each-append, h)

  cancelled-uses : (p : PromiseId) (halves : Halves) (r : Plain) (a : Acts) (state : WritableState) → Keeps a (cancelled_in me p halves r a state)
  cancelled-uses p halves r a state h = grind (arith, each-append, h)

  -- effects after the others
  more-uses : (a : Acts) (es : List Effect) → All es → All a.out.effects → All (a.out.effects ++ es)
  more-uses a es m h = each-append (Uses N M) a.out.effects es h m

  transform-uses : (halves : Halves) (operation : TransformOperation) (a : Acts) → Carries N operation → M a.slots.writable → Keeps a (transform_operation me halves operation a)
  unfolding transform_error terminate enqueue transform_chunk write_goes_on sink_close sink_abort source_cancel flush_settled abort_settled cancel_settled
  transform-uses halves (names.SinkWrite u) a n m h = write-uses u a n m h
  transform-uses halves (names.WriteGoesOn d) a n m h = goes_on-uses halves d a halves.writable_state m h
  transform-uses halves (names.TransformChunk v d) a n m h = more-uses a _ (chunk-uses halves v d a a.slots.kind) h
  transform-uses halves (names.Enqueue v) a n m h = more-uses a _ (tt, (tt, tt)) h
  transform-uses halves names.Enqueued a n m h = enqueued-uses halves a h
  transform-uses halves (names.Error e) a n m h = more-uses a _ (tt, (tt, (tt, tt))) h
  transform-uses halves names.Unblock a n m h = unblock-uses a h
  transform-uses halves names.Terminate a n m h = more-uses a _ (tt, (tt, (tt, tt))) h
  transform-uses halves (names.SourcePull u) a n m h = pull-uses u a n h
  transform-uses halves (names.SinkClose u) a n m h = finish-uses (HostFlush a.slots.readable) (TransformFlushed me) u a a.slots.finish tt (own.flushed me) n h
  transform-uses halves (names.SinkAbort r u) a n m h =
      finish-uses (HostCancelTransform a.slots.readable r) (λ p. TransformAborted me p r) u a a.slots.finish tt (λ p. own.aborted me p r) n h
  transform-uses halves (names.SourceCancel r u) a n m h =
      finish-uses (HostCancelTransform a.slots.readable r) (λ p. TransformCancelled me p r) u a a.slots.finish tt (λ p. own.cancelled me p r) n h
  transform-uses halves (names.FlushSettled p (Ok v)) a n m h = flushed-uses p halves a halves.readable_state h
  transform-uses halves (names.FlushSettled p (Err e)) a n m h = more-uses a _ (tt, (tt, tt)) h
  transform-uses halves (names.AbortSettled p r (Ok v)) a n m h = aborted-uses p halves r a halves.readable_state h
  transform-uses halves (names.AbortSettled p r (Err e)) a n m h = more-uses a _ (tt, (tt, tt)) h
  transform-uses halves (names.CancelSettled p r (Ok v)) a n m h = cancelled-uses p halves r a halves.writable_state h
  transform-uses halves (names.CancelSettled p r (Err e)) a n m h = more-uses a _ (tt, (tt, (tt, tt))) h

  by-uses : (operation : TransformOperation) (s : Slots) (o : Option transform.Slots) → slice_get s.transforms me.0 ≡ o → Carries N operation
      → ((x : transform.Slots) → slice_get s.transforms me.0 ≡ Some x → M x.writable) → All (on_transform_at (λ halves. transform_operation me halves operation) me s o).caused
  by-uses operation s None e n m = tt
  by-uses operation s (Some x) e n m = transform-uses (halves_at x s) operation (record { slots = x; out = found s }) n (m x e) tt

  pub row-uses : (operation : TransformOperation) (s : Slots) → Carries N operation → ((x : transform.Slots) → slice_get s.transforms me.0 ≡ Some x → M x.writable) → All (row (Transform me operation) s).caused
  unfolding row
  row-uses operation s n m = by-uses operation s (slice_get s.transforms me.0) refl n m

-- a tee resolves its cancel promise, and does with it what it is told
module _ (N : Use → Type 0) (resolve : (p : PromiseId) → N (Resolve p)) (me : TeeId) where
  abbrev Tees : List Effect → Type 0
  Tees es = Each (TeeUses N) es

  abbrev Goes : tee.Acts → tee.Acts → Type 0
  Goes a b = Tees a.out.effects → Tees b.out.effects

  then-tees : (a : tee.Acts) (es : List Effect) → Tees es → Tees a.out.effects → Tees (a.out.effects ++ es)
  then-tees a es m h = each-append (TeeUses N) a.out.effects es h m

  unless-tees : (reason : Option Plain) (i : StreamId) (operation : ReadableOperation) → Tees (tee.unless_cancelled reason i operation)
  unless-tees None i operation = (tt, tt)
  unless-tees (Some r) i operation = tt

  branches-tees : (operation : ReadableOperation) (x : tee.Slots) → Tees (tee.on_branches operation x)
  branches-tees operation x =
      each-append (TeeUses N) (tee.unless_cancelled x.reason1 x.branch1 operation) (tee.unless_cancelled x.reason2 x.branch2 operation)
      (unless-tees x.reason1 x.branch1 operation) (unless-tees x.reason2 x.branch2 operation)

  fulfil-tees : (a : tee.Acts) → Goes a (tee.fulfil_cancel a)
  fulfil-tees a h =
      either (λ (b : tee.Acts). Tees b.out.effects) (tee.is_wanted a.slots && not a.slots.answered) _ a (λ e. then-tees a _ (tt, tt) h) (λ e. h)

  pull-tees : (a : tee.Acts) (phase : TeePhase) → Goes a (tee.pull_in me a phase)
  pull-tees a Resting h = then-tees a _ (tt, tt) h
  pull-tees a Reading h = h
  pull-tees a Over h = h

  close-tees : (a : tee.Acts) → Goes a (tee.close_branches a)
  close-tees a h =
      fulfil-tees (tee.causing (tee.on_branches reads.Close a.slots) (tee.with_slots (record a.slots { phase = Over }) a)) (then-tees a (tee.on_branches reads.Close a.slots) (branches-tees reads.Close a.slots) h)

  closed-tees : (a : tee.Acts) (phase : TeePhase) → Goes a (tee.close_in a phase)
  closed-tees a Resting h = close-tees a h
  closed-tees a Reading h = close-tees a h
  closed-tees a Over h = h

  hand-tees : (a : tee.Acts) (held : Option Value) → Goes a (tee.hand_held me a held)
  hand-tees a None h = h
  hand-tees a (Some v) h =
      then-tees a (tee.on_branches (reads.Enqueue v) a.slots ++ Tee me tees.Handed ∷ [])
      (each-append (TeeUses N) (tee.on_branches (reads.Enqueue v) a.slots) _ (branches-tees (reads.Enqueue v) a.slots) (tt, tt)) h

  again-tees : (a : tee.Acts) (asked : Bool) → Goes a (tee.again me a asked)
  unfolding tee.pull_branch
  again-tees a true h = pull-tees a a.slots.phase h
  again-tees a false h = h

  source-tees : (a : tee.Acts) → Goes a (tee.cancel_source me a)
  source-tees a h =
      let p : PromiseId = next_id a.out.promises in
      let b : tee.Acts = record a { out = record a.out { promises = fresh a.out.promises } } in
      let c : tee.Acts = tee.causing (Readable b.slots.source (reads.Cancel (Pair me) p) ∷ []) b in
      let g : Tees c.out.effects = then-tees a _ (tt, tt) h in
      either (λ (z : tee.Acts). Tees z.out.effects) c.slots.answered c _ (λ e. g) (λ e. then-tees c _ (resolve c.slots.cancel, tt) g)

  cancel-tees : (half : Half) (r : Plain) (a : tee.Acts) (reason : Option Plain) → Goes a (tee.cancel_by me half r a reason)
  cancel-tees half r a (Some old) h = h
  cancel-tees half r a None h =
      let b : tee.Acts = tee.with_slots (tee.with_reason half r a.slots) a in
      either (λ (z : tee.Acts). Tees z.out.effects) (tee.is_wanted b.slots) b (tee.cancel_source me b) (λ e. h) (λ e. source-tees b h)

  tee-uses : (operation : TeeOperation) (a : tee.Acts) → CarriesTee N operation → Goes a (tee_operation me operation a)
  unfolding tee.pull_branch tee.keep_chunk tee.source_closed tee.source_errored tee.hand_chunk tee.handed tee.cancel_branch tee.reader_settled
  tee-uses tees.PullBranch a n h = pull-tees a a.slots.phase h
  tee-uses (tees.KeepChunk v) a n h = h
  tee-uses tees.SourceClosed a n h = closed-tees a a.slots.phase h
  tee-uses tees.SourceErrored a n h = h
  tee-uses tees.HandChunk a n h = hand-tees a a.slots.held h
  tee-uses tees.Handed a n h = again-tees (tee.with_slots (record a.slots { phase = tee.rested a.slots.phase }) a) a.slots.read_again h
  tee-uses (tees.CancelBranch half r u) a n h =
      then-tees (tee.cancel_by me half r a (tee.reason_of half a.slots)) _ (n, tt) (cancel-tees half r a (tee.reason_of half a.slots) h)
  tee-uses (tees.ReaderSettled (Ok v)) a n h = h
  tee-uses (tees.ReaderSettled (Err r)) a n h =
      fulfil-tees (tee.causing (Readable a.slots.branch1 (reads.Error r) ∷ Readable a.slots.branch2 (reads.Error r) ∷ []) a) (then-tees a _ (tt, (tt, tt)) h)

  place-tees : (operation : TeeOperation) (s : Slots) (o : Option tee.Slots) → CarriesTee N operation → Tees (on_tee_at (tee_operation me operation) me s o).caused
  place-tees operation s None n = tt
  place-tees operation s (Some x) n = tee-uses operation (record { slots = x; out = found s }) n tt

  pub row-tees_use : (operation : TeeOperation) (s : Slots) → CarriesTee N operation → Tees (row (Tee me operation) s).caused
  unfolding row
  row-tees_use operation s n = place-tees operation s (slice_get s.tees me.0) n
