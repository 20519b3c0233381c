-- What an operation of a transform stream leaves of a link.
use Rattle.std.proofs.Common.{◌≡◌, ◌⊎◌, inl, inr, ℕ, Bool, true, false, nat_eq, List, [], ◌∷◌, Option, Some, None, Ok, Err, slice_get, refl, sym, ◌∙◌, arith}
use Rattle.ws_value.specs.declared.ids.PipeId.{PipeId}
use Rattle.ws_value.specs.declared.ids.PromiseId.{PromiseId}
use Rattle.ws_value.specs.declared.ids.StreamId.{StreamId}
use Rattle.ws_value.specs.declared.value.Plain.{Plain}
use Rattle.ws_value.specs.declared.value.Value.{Value}
use Rattle.ws_steps.specs.declared.calls.HostCall.{HostCall}
use Rattle.ws_steps.specs.declared.calls.HostCall.TheVariants.{Transform as HostTransform, Flush as HostFlush, CancelTransform as HostCancelTransform}
use Rattle.ws_steps.specs.declared.effects.Effect.{Effect}
use Rattle.ws_steps.specs.declared.effects.Effect.TheVariants.{Transform as OnTransform}
use Rattle.ws_steps.specs.declared.effects.Owner.{Owner}
use Rattle.ws_steps.specs.declared.effects.Use.{Use}
use Rattle.ws_steps.specs.declared.promises.Step.{Step}
use Rattle.ws_steps.specs.declared.promises.Step.TheVariants as names_of
use Rattle.ws_steps.specs.declared.readable.ReadableState.{ReadableState}
use Rattle.ws_steps.specs.declared.readable.ReadableState.TheVariants.{Readable, Closed as ReadableClosed, Errored as ReadableErrored}
use Rattle.ws_steps.specs.declared.transform.Halves.{Halves}
use Rattle.ws_steps.specs.declared.transform.Kind.{Kind}
use Rattle.ws_steps.specs.declared.transform.Kind.TheVariants.{Identity, Host as HostKind}
use Rattle.ws_steps.specs.declared.transform.TransformId.{TransformId}
use Rattle.ws_steps.specs.declared.transform.TransformOperation.{TransformOperation}
use Rattle.ws_steps.specs.declared.transform.TransformOperation.TheVariants as names
use Rattle.ws_steps.specs.declared.writable.WritableState.{WritableState}
use Rattle.ws_steps.specs.Histories.{is_same}
use Rattle.ws_steps.specs.Operations.{transform_operation}
use Rattle.ws_steps.specs.Promises.{Table}
use Rattle.ws_steps.specs.Readable as readable
use Rattle.ws_steps.specs.Slots.{Slots, Stream, found, halves_at, has_byte, on_transform_at, owner_at, source_at, readable_at, is_byte_stream, as_readable, as_source}
use Rattle.ws_steps.specs.Transform as transform
use Rattle.ws_steps.specs.Transform.{Acts, set_backpressure, unblock, transform_error, terminate, enqueue, enqueued, transform_by, transform_chunk, sink_write, write_in, write_goes_on, source_pull, algorithm, finish_by, sink_close, sink_abort, source_cancel, flushed_in, flush_settled, aborted_in, abort_settled, cancelled_in, cancel_settled}
use Rattle.ws_steps.specs.Turns.{row}
use Rattle.ws_flow.specs.Told.{Open, Closed, Lost, Told, told, then_told, IsShortOf}
use Rattle.ws_flow.proofs.Told.{short_refl}
use Rattle.ws_laws.proofs.Lists.{Each, each-map}
use Rattle.ws_laws.proofs.Tables.{is_same-refl}
use Rattle.ws_laws.proofs.TransformDoes.{IsCallOf, TransformCauses, transform-causes}
use Rattle.ws_link_laws.specs.Entering.{chunk_in}
use Rattle.ws_link_laws.specs.Link.{Ear, OfSink, OfTransform, OfPort, silence, in_source, ear_at, heard_call}
use Rattle.ws_link_laws.proofs.Late.{flushes}
use Rattle.ws_link_laws.proofs.Ahead.{taken-silent}
use Rattle.ws_link_laws.proofs.Hosts.{Hosts, Source, hosts-source}
use Rattle.ws_link_laws.proofs.AtEnds.{AtSource, OwnSource, OtherSource, at-source, no-source, AtSink, OwnSink, OtherSink, at-sink, no-sink}
use Rattle.ws_link_laws.proofs.Telling.{is_of, is_in, if_same, tells, IsSilent, silent-all, taken, hands, writes, chunks, coming}
use Rattle.ws_link_laws.proofs.Standing.{IsInner, IsNotLast}
use Rattle.ws_link_laws.specs.Link.{giver_at, Giver, OfSource, OfByteSource, OfHalf, OfEnd, giver_by}

-- it writes nothing, and brings no chunk to a pipe

pub caused-writes : (j : StreamId) (t : TransformId) (w r : StreamId) (e : Effect) → TransformCauses t w r e → IsSilent (writes j) e
caused-writes j t w r e c = grind (arith, c, if_same)

pub caused-chunks : (p : PipeId) (t : TransformId) (w r : StreamId) (e : Effect) → TransformCauses t w r e → IsSilent (chunks p) e
caused-chunks p t w r e c = grind (arith, c)

caused-coming : (o : Giver) (i : StreamId) (t : TransformId) (w r : StreamId) (e : Effect) → is_same i r ≡ false → TransformCauses t w r e → IsSilent (coming o i) e
caused-coming o i t w r e n c = grind (arith, n, c, if_same)

pub caused-inner : (i j : StreamId) (p : PipeId) (n : ℕ) (t : TransformId) (w r : StreamId) (e : Effect) → TransformCauses t w r e → IsInner i j p n e
caused-inner i j p n t w r e c = grind (arith, c)

pub caused-last : (p : PipeId) (t : TransformId) (w r : StreamId) (e : Effect) → TransformCauses t w r e → IsNotLast p e
caused-last p t w r e c = grind (arith, c)

-- what is told to the host in the place of an effect: the same; or its flush, where nothing stood, at the end of a destination that closes
pub data Says (w : Ear) (e : Effect) (cs : List Effect) : Type 0 where
  AsBefore : tells (hands w) cs ≡ hands w e → Says w e cs
  Flushes : flushes w e ≡ true → hands w e ≡ silence → tells (hands w) cs ≡ told [] Closed → Says w e cs

-- what enters a source in its place: the same, or nothing does, since the source is errored
pub data Lets (o : Giver) (i : StreamId) (r : readable.Slots) (e : Effect) (cs : List Effect) : Type 0 where
  AsAsked : tells (coming o i) cs ≡ coming o i e → Lets o i r e cs
  IsLost : r.state ≡ ReadableErrored → tells (coming o i) cs ≡ silence → coming o i e ≡ told [] Closed → Lets o i r e cs

pub lets-short : (o : Giver) (i : StreamId) (r : readable.Slots) (e : Effect) (cs : List Effect) (M : Told Value) → Lets o i r e cs → IsShortOf (then_told (in_source r) (then_told (tells (coming o i) cs) M)) (then_told (in_source r) (then_told (coming o i e) M))
lets-short o i r e cs M (AsAsked is) = rw is (short_refl _)
lets-short o i r e cs M (IsLost lost none end) = rw lost (short_refl (told [] Lost))

cancel-unheard : (w : Ear) (i : StreamId) (r : Plain) → heard_call w (HostCancelTransform i r) ≡ silence
cancel-unheard (OfSink j) i r = refl
cancel-unheard (OfTransform t m) i r = refl
cancel-unheard (OfPort c) i r = refl

same_number : (t : TransformId) → nat_eq t.0 t.0 ≡ true
same_number t = grind arith

module _ (j : StreamId) (w : Ear) (me : TransformId) (halves : Halves) (x : transform.Slots) (t : Table) (at : AtSink j w me x) where
  abbrev a : Acts
  a = record { slots = x; out = record { promises = t; effects = [] } }

  -- a chunk is told

  chunk-own : (v : Value) (d : PromiseId) → w ≡ OfTransform me x.readable → x.kind ≡ HostKind → tells (hands w) (transform_by me halves v d a x.kind) ≡ taken w me v
  chunk-own v d is kind = let s = is_same-refl x.readable in let n = same_number me in rw (is, kind, s, n) refl

  chunk-other : (v : Value) (d : PromiseId) (kind : Kind) → ((call : HostCall) → IsCallOf x.readable call → heard_call w call ≡ silence) → tells (hands w) (transform_by me halves v d a kind) ≡ silence
  chunk-other v d Identity silent = grind arith
  chunk-other v d HostKind silent = rw (silent (HostTransform x.readable v) refl) refl

  chunk-says : (v : Value) (d : PromiseId) → tells (hands w) (transform_by me halves v d a x.kind) ≡ taken w me v
  chunk-says v d = by at
    where
      by : AtSink j w me x → tells (hands w) (transform_by me halves v d a x.kind) ≡ taken w me v
      by (OwnSink is half kind) = chunk-own v d is kind
      by (OtherSink n far silent) = chunk-other v d x.kind silent ∙ sym (taken-silent w me v n)

  -- and the flush

  flush-own : (step : PromiseId → Step) (u : Use) (o : Option PromiseId) → w ≡ OfTransform me x.readable → x.kind ≡ HostKind
      → (tells (hands w) (finish_by (HostFlush x.readable) step u a o).out.effects ≡ silence) ⊎ ((tells (hands w) (finish_by (HostFlush x.readable) step u a o).out.effects ≡ told [] Closed) × (is_in w me ≡ true))
  flush-own step u None is kind = let s = is_same-refl x.readable in let n = same_number me in inr (rw (is, kind, s) refl, rw (is, n) refl)
  flush-own step u (Some p) is kind = inl refl

  flush-other : (step : PromiseId → Step) (u : Use) (o : Option PromiseId) (kind : Kind) → kind ≡ x.kind → heard_call w (HostFlush x.readable) ≡ silence → tells (hands w) (finish_by (HostFlush x.readable) step u a o).out.effects ≡ silence
  flush-other step u None Identity k silent = rw (← k) refl
  flush-other step u None HostKind k silent = rw (← k, silent) refl
  flush-other step u (Some p) kind k silent = refl

  -- nothing else is

  cancel-silent : (step : PromiseId → Step) (r : Plain) (u : Use) (o : Option PromiseId) (kind : Kind) → kind ≡ x.kind → tells (hands w) (finish_by (HostCancelTransform x.readable r) step u a o).out.effects ≡ silence
  cancel-silent step r u None Identity k = rw (← k) refl
  cancel-silent step r u None HostKind k = rw (← k, cancel-unheard w x.readable r) refl
  cancel-silent step r u (Some p) kind k = refl

  goes_on-silent : (d : PromiseId) (state : WritableState) → tells (hands w) (write_in me halves d a state).out.effects ≡ silence
  goes_on-silent d state = grind arith

  flushed-silent : (p : PromiseId) (state : ReadableState) → tells (hands w) (flushed_in p halves a state).out.effects ≡ silence
  flushed-silent p state = grind arith

  aborted-silent : (p : PromiseId) (r : Plain) (state : ReadableState) → tells (hands w) (aborted_in p halves r a state).out.effects ≡ silence
  aborted-silent p r state = grind arith

  cancelled-silent : (p : PromiseId) (r : Plain) (state : WritableState) → tells (hands w) (cancelled_in me p halves r a state).out.effects ≡ silence
  cancelled-silent p r state = grind arith

  pub operation-says : (operation : TransformOperation) → Says w (OnTransform me operation) (transform_operation me halves operation a).out.effects
  unfolding set_backpressure unblock transform_error terminate enqueue enqueued transform_chunk sink_write write_goes_on source_pull sink_close sink_abort source_cancel flush_settled abort_settled cancel_settled
  operation-says (names.SinkWrite u) = AsBefore (grind arith)
  operation-says (names.WriteGoesOn d) = AsBefore (goes_on-silent d halves.writable_state)
  operation-says (names.TransformChunk v d) = AsBefore (chunk-says v d)
  operation-says (names.Enqueue v) = AsBefore refl
  operation-says names.Enqueued = AsBefore (grind arith)
  operation-says (names.Error e) = AsBefore refl
  operation-says names.Unblock = AsBefore (grind arith)
  operation-says names.Terminate = AsBefore refl
  operation-says (names.SourcePull u) = AsBefore refl
  operation-says (names.SinkClose u) = by at
    where
      by_flush : (tells (hands w) (finish_by (HostFlush x.readable) (names_of.TransformFlushed me) u a x.finish).out.effects ≡ silence) ⊎ ((tells (hands w) (finish_by (HostFlush x.readable) (names_of.TransformFlushed me) u a x.finish).out.effects ≡ told [] Closed) × (is_in w me ≡ true))
          → Says w (OnTransform me (names.SinkClose u)) (finish_by (HostFlush x.readable) (names_of.TransformFlushed me) u a x.finish).out.effects
      by_flush (inl e) = AsBefore e
      by_flush (inr e) = Flushes e.1 refl e.0

      by : AtSink j w me x → Says w (OnTransform me (names.SinkClose u)) (finish_by (HostFlush x.readable) (names_of.TransformFlushed me) u a x.finish).out.effects
      by (OwnSink is half kind) = by_flush (flush-own (names_of.TransformFlushed me) u x.finish is kind)
      by (OtherSink n far silent) = AsBefore (flush-other (names_of.TransformFlushed me) u x.finish x.kind refl (silent (HostFlush x.readable) refl))
  operation-says (names.SinkAbort r u) = AsBefore (cancel-silent (λ p. names_of.TransformAborted me p r) r u x.finish x.kind refl)
  operation-says (names.SourceCancel r u) = AsBefore (cancel-silent (λ p. names_of.TransformCancelled me p r) r u x.finish x.kind refl)
  operation-says (names.FlushSettled p (Ok v)) = AsBefore (flushed-silent p halves.readable_state)
  operation-says (names.FlushSettled p (Err e)) = AsBefore refl
  operation-says (names.AbortSettled p r (Ok v)) = AsBefore (aborted-silent p r halves.readable_state)
  operation-says (names.AbortSettled p r (Err e)) = AsBefore refl
  operation-says (names.CancelSettled p r (Ok v)) = AsBefore (cancelled-silent p r halves.writable_state)
  operation-says (names.CancelSettled p r (Err e)) = AsBefore refl

-- a half lets chunks in
half-chunk : (g : Giver) (t : TransformId) (v : Value) → is_of g t ≡ true → chunk_in g v ≡ told (v ∷ []) Open
half-chunk OfSource t v e = cc
half-chunk OfByteSource t v e = cc
half-chunk (OfHalf k) t v e = refl
half-chunk (OfEnd c) t v e = cc

module _ (i : StreamId) (o : Giver) (me : TransformId) (halves : Halves) (x : transform.Slots) (t : Table) (r : readable.Slots) (n : is_of o me ≡ true) (is : x.readable ≡ i) (kind : x.kind ≡ HostKind) (state : halves.readable_state ≡ r.state) where
  abbrev b : Acts
  b = record { slots = x; out = record { promises = t; effects = [] } }

  abbrev As : TransformOperation → Acts → Type 0
  As operation z = tells (coming o i) z.out.effects ≡ coming o i (OnTransform me operation)

  -- the chunk that is enqueued, the end that is made, and no chunk but these

  enqueue-enters : (v : Value) → As (names.Enqueue v) (enqueue me v b)
  unfolding enqueue
  enqueue-enters v = let s = is_same-refl i in let c = half-chunk o me v n in rw (is, n, s, c) refl

  terminate-enters : As names.Terminate (terminate me b)
  unfolding terminate
  terminate-enters = let s = is_same-refl i in rw (is, n, s) refl

  chunk-enters : (v : Value) (d : PromiseId) → As (names.TransformChunk v d) (transform_chunk me halves v d b)
  unfolding transform_chunk
  chunk-enters v d = rw (kind, n) refl

  flushed-enters : (p : PromiseId) (v : Plain) (w : ReadableState) → w ≡ r.state → Lets o i r (OnTransform me (names.FlushSettled p (Ok v))) (flushed_in p halves b w).out.effects
  flushed-enters p v ReadableErrored e = IsLost (sym e) refl (rw n refl)
  flushed-enters p v Readable e = let s = is_same-refl i in AsAsked (rw (is, n, s) refl)
  flushed-enters p v ReadableClosed e = let s = is_same-refl i in AsAsked (rw (is, n, s) refl)

  goes_on-enters : (d : PromiseId) (w : WritableState) → tells (coming o i) (write_in me halves d b w).out.effects ≡ silence
  goes_on-enters d w = grind arith

  aborted-enters : (p : PromiseId) (e : Plain) (w : ReadableState) → tells (coming o i) (aborted_in p halves e b w).out.effects ≡ silence
  aborted-enters p e w = grind (arith, if_same)

  cancelled-enters : (p : PromiseId) (e : Plain) (w : WritableState) → tells (coming o i) (cancelled_in me p halves e b w).out.effects ≡ silence
  cancelled-enters p e w = grind (arith, if_same)

  operation-lets : (operation : TransformOperation) → Lets o i r (OnTransform me operation) (transform_operation me halves operation b).out.effects
  unfolding set_backpressure unblock transform_error terminate enqueue enqueued transform_chunk sink_write write_goes_on source_pull sink_close sink_abort source_cancel flush_settled abort_settled cancel_settled
  operation-lets (names.SinkWrite u) = AsAsked (rw n (grind arith))
  operation-lets (names.WriteGoesOn d) = AsAsked (rw n (goes_on-enters d halves.writable_state))
  operation-lets (names.TransformChunk v d) = AsAsked (chunk-enters v d)
  operation-lets (names.Enqueue v) = AsAsked (enqueue-enters v)
  operation-lets names.Enqueued = AsAsked (rw n (grind arith))
  operation-lets (names.Error e) = let s = is_same-refl i in AsAsked (rw (is, n, s) refl)
  operation-lets names.Unblock = AsAsked (rw n (grind arith))
  operation-lets names.Terminate = AsAsked terminate-enters
  operation-lets (names.SourcePull u) = AsAsked (rw n refl)
  operation-lets (names.SinkClose u) = AsAsked (rw n (grind arith))
  operation-lets (names.SinkAbort e u) = AsAsked (rw n (grind arith))
  operation-lets (names.SourceCancel e u) = AsAsked (rw n (grind arith))
  operation-lets (names.FlushSettled p (Ok v)) = flushed-enters p v halves.readable_state state
  operation-lets (names.FlushSettled p (Err e)) = let s = is_same-refl i in AsAsked (rw (is, n, s) refl)
  operation-lets (names.AbortSettled p e (Ok v)) = AsAsked (rw n (aborted-enters p e halves.readable_state))
  operation-lets (names.AbortSettled p e (Err f)) = let s = is_same-refl i in AsAsked (rw (is, n, s) refl)
  operation-lets (names.CancelSettled p e (Ok v)) = AsAsked (rw n (cancelled-enters p e halves.writable_state))
  operation-lets (names.CancelSettled p e (Err f)) = AsAsked (rw n refl)

asked-of : (o : Giver) (i : StreamId) (k : TransformId) (operation : TransformOperation) → is_of o k ≡ false → coming o i (OnTransform k operation) ≡ silence
asked-of o i k operation n = rw n refl

-- and has a default controller

half-default : (b : Bool) (o : Owner) (t : TransformId) → is_of (giver_by b o) t ≡ true → b ≡ false
half-default true o t e = cc
half-default false o t e = refl

pub default-source : (o : Option Stream) → is_byte_stream o ≡ false → as_source o ≡ as_readable o
default-source o e = grind (arith, e)

-- whichever transform stream there is
pub lets-at : (i : StreamId) (s : Slots) (t : TransformId) (operation : TransformOperation) → Source i s → (o : Option transform.Slots) → slice_get s.transforms t.0 ≡ o
    → Lets (giver_at i s) i (source_at i s) (OnTransform t operation) (on_transform_at (λ halves. transform_operation t halves operation) t s o).caused
lets-at i s t operation h None e = AsAsked (sym (asked-of (giver_at i s) i t operation (no-source i s t h e)))
lets-at i s t operation h (Some x) e = by (at-source i s t x h e)
  where
    causes : List Effect
    causes = (transform_operation t (halves_at x s) operation (record { slots = x; out = found s })).out.effects

    each : Each (TransformCauses t x.writable x.readable) causes
    each = (transform-causes t (halves_at x s) operation (record { slots = x; out = found s }) tt).1.1.1

    by : AtSource i (giver_at i s) t x → Lets (giver_at i s) i (source_at i s) (OnTransform t operation) causes
    by (OwnSource own is kind) =
        let r : source_at i s ≡ readable_at i s = default-source (slice_get s.streams i.0) (half-default (has_byte i s) (owner_at i s) t own) in
        operation-lets i (giver_at i s) t (halves_at x s) x s.promises (source_at i s) own is kind (rw (is, r) refl) operation
    by (OtherSource other far) =
        AsAsked (silent-all (coming (giver_at i s) i) causes (each-map _ (IsSilent (coming (giver_at i s) i)) (λ u k. caused-coming (giver_at i s) i t x.writable x.readable u far k) causes each) ∙ sym (asked-of (giver_at i s) i t operation other))

-- what it leaves of a link
pub record Outside (i j : StreamId) (p : PipeId) (n : ℕ) (s : Slots) (e : Effect) (cs : List Effect) : Type 0 where
  pub says : Says (ear_at j s) e cs
  pub lets : Lets (giver_at i s) i (source_at i s) e cs
  pub writes : tells (writes j) cs ≡ silence
  pub chunks : tells (chunks p) cs ≡ silence
  pub inner : Each (IsInner i j p n) cs
  pub last : Each (IsNotLast p) cs

told-of : (w : Ear) (k : TransformId) (operation : TransformOperation) → is_in w k ≡ false → hands w (OnTransform k operation) ≡ silence
told-of w k operation n = grind (arith, taken-silent, n)

pub transform-outside : (i j : StreamId) (p : PipeId) (n : ℕ) (t : TransformId) (operation : TransformOperation) (s : Slots) → Hosts i j s → Outside i j p n s (OnTransform t operation) (row (OnTransform t operation) s).caused
unfolding row
transform-outside i j p n t operation s h = by (slice_get s.transforms t.0) refl
  where
    by : (o : Option transform.Slots) → slice_get s.transforms t.0 ≡ o → Outside i j p n s (OnTransform t operation) (on_transform_at (λ halves. transform_operation t halves operation) t s o).caused
    by None e = record {
      says = AsBefore (sym (told-of (ear_at j s) t operation (no-sink i j s t h e)));
      lets = lets-at i s t operation (hosts-source i j s h) None e;
      writes = refl;
      chunks = refl;
      inner = tt;
      last = tt;
    }
    by (Some x) e =
        let a : transform.Acts = record { slots = x; out = found s } in
        let cs : List Effect = (transform_operation t (halves_at x s) operation a).out.effects in
        let c : Each (TransformCauses t x.writable x.readable) cs = (transform-causes t (halves_at x s) operation a tt).1.1.1 in
        record {
          says = operation-says j (ear_at j s) t (halves_at x s) x s.promises (at-sink i j s t x h e) operation;
          lets = lets-at i s t operation (hosts-source i j s h) (Some x) e;
          writes = silent-all (writes j) cs (each-map _ (IsSilent (writes j)) (caused-writes j t x.writable x.readable) cs c);
          chunks = silent-all (chunks p) cs (each-map _ (IsSilent (chunks p)) (caused-chunks p t x.writable x.readable) cs c);
          inner = each-map _ (IsInner i j p n) (caused-inner i j p n t x.writable x.readable) cs c;
          last = each-map _ (IsNotLast p) (caused-last p t x.writable x.readable) cs c;
        }
