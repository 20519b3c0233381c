-- A readable stream at the end of a port takes nothing once its port isn't entangled; or its end stands first, and will be performed.
use Rattle.std.proofs.Common.{◌≡◌, ◌⊎◌, inl, inr, ℕ, Bool, true, false, not, ◌||◌, List, [], ◌∷◌, ◌++◌, Option, Some, None, slice_get, refl, sym, ap, subst, ◌∙◌, ⊎_elim, arith}
use Rattle.ws_value.specs.declared.ids.PipeId.{PipeId}
use Rattle.ws_value.specs.declared.ids.PortId.{PortId}
use Rattle.ws_value.specs.declared.ids.PromiseId.{PromiseId}
use Rattle.ws_value.specs.declared.ids.StreamId.{StreamId}
use Rattle.ws_value.specs.declared.ids.TeeId.{TeeId}
use Rattle.ws_value.specs.declared.value.Plain.{Plain}
use Rattle.ws_value.specs.declared.value.Message.{Message}
use Rattle.ws_value.specs.declared.value.Message.TheVariants.{Pull as PullMessage, Chunk as ChunkMessage, Close as CloseMessage, Error as ErrorMessage}
use Rattle.ws_steps.specs.declared.calls.Call.{Call}
use Rattle.ws_steps.specs.declared.effects.Effect.{Effect}
use Rattle.ws_steps.specs.declared.effects.Effect.TheVariants.{Readable as OnReadable, Byte as OnByte, Writable as OnWritable, Pipe as OnPipe, Signal as OnSignal, Transform as OnTransform, Tee as OnTee, Port as OnPort, StartAlgorithm, PullAlgorithm, CancelAlgorithm, WriteAlgorithm, CloseAlgorithm, AbortAlgorithm, ChunkSteps, CloseSteps, CloseStepsWith, ErrorSteps}
use Rattle.ws_steps.specs.declared.effects.Owner.{Owner}
use Rattle.ws_steps.specs.declared.effects.Owner.TheVariants.{Host, HalfOf, BranchOf, EndOf}
use Rattle.ws_steps.specs.declared.effects.Use.{Use}
use Rattle.ws_steps.specs.declared.port.PortOperation.{PortOperation}
use Rattle.ws_steps.specs.declared.port.PortOperation.TheVariants as ports
use Rattle.ws_steps.specs.declared.port.Side.{Side}
use Rattle.ws_steps.specs.declared.port.Side.TheVariants.{Readable as ReadableSide, Writable as WritableSide}
use Rattle.ws_steps.specs.declared.promises.Job.{Job}
use Rattle.ws_steps.specs.declared.readable.ReadRequest.TheVariants.{Promise, Pipe as PipeRequest, Tee as TeeRequest}
use Rattle.ws_steps.specs.declared.readable.ReadableOperation.{ReadableOperation}
use Rattle.ws_steps.specs.declared.transform.TransformId.{TransformId}
use Rattle.ws_steps.specs.Begun.{Begun}
use Rattle.ws_steps.specs.MakingCalls.{add_stream}
use Rattle.ws_steps.specs.Calls.{begin}
use Rattle.ws_steps.specs.Cross as cross
use Rattle.ws_steps.specs.Histories.{is_same}
use Rattle.ws_steps.specs.Jobs.{job_effects}
use Rattle.ws_steps.specs.Operations.{readable_operation, port_operation}
use Rattle.ws_steps.specs.PortHistory.{is_same_port}
use Rattle.ws_steps.specs.Readable as readable
use Rattle.ws_steps.specs.Readable.{can_close_or_enqueue}
use Rattle.ws_steps.specs.Run.{Entry, run}
use Rattle.ws_steps.specs.Slots.{Slots, Stream, ReadableStream, ByteStream, WritableStream, Done, empty, found, owner_of, owner_at, has_readable, has_byte, has_writable, readable_at, writable_at, as_readable, is_readable_stream, clones_at, on_port_at, put_port}
use Rattle.ws_steps.specs.Turns.{row, on_source, cancel_algorithm, close_algorithm, abort_algorithm}
use Rattle.ws_room_laws.proofs.Rows.{get-same, get-other}
use Rattle.ws_laws.proofs.Begin.{begin-makes}
use Rattle.ws_laws.proofs.EachCall.{each_call}
use Rattle.ws_laws.proofs.Ended.{PortShape, port_shape, port_shapes, end_shape, HasEnd, Ended, ended-stays, ended-empty, row-port_shapes}
use Rattle.ws_laws.proofs.Halves.{get-stays, get-either}
use Rattle.ws_laws.proofs.Lists.{Each, each-append, each-map}
use Rattle.ws_laws.proofs.PipeDoes.{PipeCauses}
use Rattle.ws_laws.proofs.PortDoes.{PortCauses, port-causes}
use Rattle.ws_laws.proofs.Apart.{row-ports, row-streams}
use Rattle.ws_laws.proofs.Causes.{row-causes}
use Rattle.ws_laws.proofs.Shapes.{ReadableOf, BytesOf, WritableOf, stream_shape, stream_shapes, map-there}
use Rattle.ws_laws.proofs.Tables.{either, eq_numbers, is_same-refl, same_id, byte_there, writable_there, on_source-readable, on_readable-same, readable_acts}
use Rattle.ws_laws.proofs.TeeDoes.{TeeCauses}
use Rattle.ws_laws.proofs.TransformDoes.{TransformCauses}
use Rattle.ws_laws.proofs.Walker.{Stays, run-stays}
use Rattle.ws_transform_laws.proofs.Halving.{map-from}
use Rattle.ws_transform_laws.proofs.Shutting.{can, row-shut, ends, shut-by}
use Rattle.ws_transform_laws.proofs.Wanting.{IsNoPull, Rests, Cancels, Pulls, PullsFirst, PullsLast, operation-causes}
use Rattle.ws_transform_laws.proofs.Wanting as wanting
use Rattle.ws_link_laws.proofs.Hosts.{unlike}
use Rattle.ws_laws.proofs.Tables.{unequal_numbers}
use Rattle.ws_steps.specs.Slots.{is_byte_stream, byte_at, as_writable, no_writable, on_readable}
use Rattle.ws_steps.specs.declared.pipes.SignalOperation.TheVariants.{Add, Forget, Trigger}

or_true : (b : Bool) → b || true ≡ true
or_true true = refl
or_true false = refl

or-left : (a b : Bool) → a ≡ true → a || b ≡ true
or-left a b e = grind arith

opened : {A : Type 0} (b : Bool) → b ≡ false → b ≡ true → A
opened b e f = cc

-- stream i is at the readable end of port c
module _ (i : StreamId) (c : PortId) where
  abbrev shape : PortShape
  shape = record { side = ReadableSide; stream = i }

  abbrev IsHere : Slots → Type 0
  IsHere s = HasEnd (port_shapes s) c ReadableSide i

  -- its end is made by an effect, whatever this transform stream is
  abbrev made_by : Effect → Bool
  made_by e = ends (record { 0 = 0 }) i e

  abbrev first_ends : List Effect → Bool
  first_ends [] = false
  first_ends (e ∷ es) = made_by e

  abbrev Over : Slots → List Effect → Type 0
  Over s es = not (can i s) || first_ends es ≡ true

  -- an effect by which the port may part stands only where the stream takes nothing
  abbrev Calm : Slots → Effect → Type 0
  Calm s (CancelAlgorithm k r q) = is_same i k ≡ true → can i s ≡ false
  Calm s (CloseAlgorithm k) = is_same i k ≡ false
  Calm s (AbortAlgorithm k r q) = is_same i k ≡ false
  Calm s (OnPort d (ports.Leave r u)) = is_same_port c d ≡ true → can i s ≡ false
  Calm s (OnPort d (ports.Close u)) = is_same_port c d ≡ false
  Calm s _ = Unit {0}

  pub record Shuts (s : Slots) (es : List Effect) : Type 0 where
    pub ended : Ended s
    pub shut : (x : cross.Slots) → slice_get s.ports c.0 ≡ Some x → port_shape x ≡ shape → x.live ≡ false → Over s es
    pub calm : IsHere s → Each (Calm s) es

  -- what the stream is, where it is at this end

  shaped : (s : Slots) → Ended s → IsHere s → slice_get (stream_shapes s) i.0 ≡ Some (ReadableOf (EndOf c))
  shaped s h here = h.ends c shape here

  readable-here : (s : Slots) → Ended s → IsHere s → has_readable i s ≡ true
  readable-here s h here = by (map-from stream_shape s.streams i.0 (ReadableOf (EndOf c)) (shaped s h here))
    where
      by : (y : Stream) × ((slice_get s.streams i.0 ≡ Some y) × (stream_shape y ≡ ReadableOf (EndOf c))) → has_readable i s ≡ true
      by (ReadableStream r, (at, is)) = rw at refl
      by (ByteStream b, (at, is)) = cc
      by (WritableStream w, (at, is)) = cc

  -- another is writable, or a byte stream

  writable-apart : (k : StreamId) (s : Slots) → Ended s → IsHere s → has_writable k s ≡ true → is_same i k ≡ false
  writable-apart k s h here there =
      unlike i k (ReadableOf (EndOf c)) (WritableOf (writable_at k s).owner) (stream_shapes s) (shaped s h here) (map-there stream_shape s.streams k.0 (WritableStream (writable_at k s)) (writable_there (slice_get s.streams k.0) there)) (λ e. cc)

  bytes-apart : (k : StreamId) (s : Slots) → Ended s → IsHere s → has_byte k s ≡ true → is_same i k ≡ false
  bytes-apart k s h here there =
      unlike i k (ReadableOf (EndOf c)) BytesOf (stream_shapes s) (shaped s h here) (map-there stream_shape s.streams k.0 (ByteStream (byte_at k s)) (byte_there (slice_get s.streams k.0) there)) (λ e. cc)

  -- the stream of this owner is no other

  owned_shape : (o : Option Stream) (d : PortId) → owner_of o ≡ EndOf d → (y : Stream) × ((o ≡ Some y) × ((side : Side) × (stream_shape y ≡ end_shape d side)))
  owned_shape None d e = cc
  owned_shape (Some (ReadableStream r)) d e = (ReadableStream r, (refl, (ReadableSide, ap ReadableOf e)))
  owned_shape (Some (ByteStream b)) d e = cc
  owned_shape (Some (WritableStream w)) d e = (WritableStream w, (refl, (WritableSide, ap WritableOf e)))

  owner-here : (k : StreamId) (d : PortId) (s : Slots) → Ended s → IsHere s → owner_at k s ≡ EndOf d → is_same_port c d ≡ true → is_same i k ≡ true
  owner-here k d s h here own same =
      let is : c ≡ d = ap (λ (n : ℕ). record { 0 = n }) (eq_numbers c.0 d.0 same) in
      let y = owned_shape (slice_get s.streams k.0) d own in
      let at : slice_get (stream_shapes s) k.0 ≡ Some (end_shape d y.1.1.0) = map-there stream_shape s.streams k.0 y.0 y.1.0 ∙ ap Some y.1.1.1 in
      let other : HasEnd (port_shapes s) d y.1.1.0 k = h.end k d y.1.1.0 at in
      let both : ◌≡◌ {A = Option PortShape} (Some shape) (Some (record { side = y.1.1.0; stream = k })) = sym here ∙ (ap (λ (x : PortId). slice_get (port_shapes s) x.0) is ∙ other) in
      let one : shape ≡ record { side = y.1.1.0; stream = k } = cc in
      let ik : i ≡ k = ap (λ (x : PortShape). x.stream) one in
      rw (← ik) (is_same-refl i)

  -- what an effect causes

  no-pull : (z : Slots) (e : Effect) → IsNoPull e → Calm z e
  no-pull z (ChunkSteps j q v) n = tt
  no-pull z (CloseSteps j q) n = tt
  no-pull z (CloseStepsWith j q b) n = tt
  no-pull z (ErrorSteps j q e) n = tt
  no-pull z _ n = absurd n

  open-calm : (z : Slots) (k : StreamId) (x : readable.Slots) (cs : List Effect) → can_close_or_enqueue x ≡ true → wanting.Causes k x cs → Each (Calm z) cs
  open-calm z k x cs open_ (Rests n) = each-map IsNoPull (Calm z) (no-pull z) cs n
  open-calm z k x cs open_ (Cancels r n) = opened (can_close_or_enqueue x) r open_
  open-calm z k x cs open_ (Pulls w e) = rw e (tt, tt)
  open-calm z k x cs open_ (PullsFirst q v w e) = rw e (tt, (tt, tt))
  open-calm z k x cs open_ (PullsLast q v w e) = rw e (tt, (tt, tt))

  pipe-calm : (z : Slots) (p : PipeId) (source dest : StreamId) (e : Effect) → PipeCauses p source dest e → Calm z e
  pipe-calm z p source dest e m = grind (arith, m)

  tee-calm : (z : Slots) (u : TeeId) (source first second : StreamId) (e : Effect) → TeeCauses u source first second e → Calm z e
  tee-calm z u source first second e m = grind (arith, m)

  transform-calm : (z : Slots) (t : TransformId) (w r : StreamId) (e : Effect) → TransformCauses t w r e → Calm z e
  transform-calm z t w r e m = grind (arith, m)

  port-calm : (z : Slots) (d : PortId) (stream : StreamId) (e : Effect) → PortCauses d stream e → Calm z e
  port-calm z d stream e m = grind (arith, m)

  not_bytes : (o : Option Stream) → is_readable_stream o ≡ true → is_byte_stream o ≡ false
  not_bytes o e = grind (arith, e)

  module _ (operation : ReadableOperation) (s : Slots) (h : Ended s) (here : IsHere s) where
    abbrev own : readable.Acts
    own = readable_operation i operation (readable_acts i s)

    abbrev zo : Slots
    zo = (on_source operation i s).slots

    own-is : on_source operation i s ≡ on_readable (readable_operation i operation) i s
    own-is = on_source-readable operation i s (not_bytes (slice_get s.streams i.0) (readable-here s h here))

    own-at : readable_at i zo ≡ own.slots
    own-at = ap (λ (d : Done). readable_at i d.slots) own-is ∙ ap as_readable (on_readable-same (readable_operation i operation) i s (readable-here s h here))

    own-effects : (on_source operation i s).caused ≡ own.out.effects
    own-effects = let there = readable-here s h here in ap (λ (d : Done). d.caused) own-is ∙ rw there refl

    own-caused : Each (Calm (row (OnReadable i operation) s).slots) (row (OnReadable i operation) s).caused
    unfolding row
    own-caused = by (can i zo) refl
      where
        by : (b : Bool) → b ≡ can i zo → Each (Calm zo) (on_source operation i s).caused
        by false e = row-causes (Calm zo) (OnReadable i operation) s (record { pull = tt; cancel = λ r q same. sym e; chunk = λ request v. tt; close = λ request. tt; error = λ request r. tt })
        by true e = rw own-effects (open-calm zo i own.slots own.out.effects (ap can_close_or_enqueue (sym own-at) ∙ sym e) (operation-causes i operation (readable_acts i s) refl))

  apart_calm : (z : Slots) (k : StreamId) (r : Plain) (q : PromiseId) → is_same i k ≡ false → Calm z (CancelAlgorithm k r q)
  apart_calm z k r q n = λ same. opened (is_same i k) n same

  cancel-calm : (z : Slots) (k : StreamId) (r : Plain) (u : Use) (s : Slots) → Ended s → IsHere s → (is_same i k ≡ true → can i z ≡ false) → (o : Owner) → owner_at k s ≡ o → Each (Calm z) (cancel_algorithm k r u o)
  cancel-calm z k r u s h here f Host e = (tt, tt)
  cancel-calm z k r u s h here f (HalfOf t) e = (tt, tt)
  cancel-calm z k r u s h here f (BranchOf t half) e = (tt, tt)
  cancel-calm z k r u s h here f (EndOf d) e = ((λ same. f (owner-here k d s h here e same)), tt)

  abort-calm : (z : Slots) (k : StreamId) (r : Plain) (u : Use) (s : Slots) → Ended s → IsHere s → is_same i k ≡ false → (o : Owner) → owner_at k s ≡ o → Each (Calm z) (abort_algorithm k r u o)
  abort-calm z k r u s h here n Host e = (tt, tt)
  abort-calm z k r u s h here n (HalfOf t) e = (tt, tt)
  abort-calm z k r u s h here n (BranchOf t half) e = (tt, tt)
  abort-calm z k r u s h here n (EndOf d) e = ((λ same. opened (is_same i k) n (owner-here k d s h here e same)), tt)

  close-calm : (z : Slots) (k : StreamId) (u : Use) (s : Slots) → Ended s → IsHere s → is_same i k ≡ false → (o : Owner) → owner_at k s ≡ o → Each (Calm z) (close_algorithm k u o)
  close-calm z k u s h here n Host e = (tt, tt)
  close-calm z k u s h here n (HalfOf t) e = (tt, tt)
  close-calm z k u s h here n (BranchOf t half) e = (tt, tt)
  close-calm z k u s h here n (EndOf d) e = (by (is_same_port c d) refl, tt)
    where
      by : (b : Bool) → b ≡ is_same_port c d → is_same_port c d ≡ false
      by false f = sym f
      by true f = opened (is_same i k) n (owner-here k d s h here e (sym f))

  row-caused : (e : Effect) (s : Slots) → Ended s → IsHere s → Calm s e → Each (Calm (row e s).slots) (row e s).caused
  unfolding row
  row-caused (OnReadable k operation) s h here m = by (is_same i k) refl
    where
      by : (same : Bool) → same ≡ is_same i k → Each (Calm (row (OnReadable k operation) s).slots) (row (OnReadable k operation) s).caused
      by false n = row-causes (Calm (row (OnReadable k operation) s).slots) (OnReadable k operation) s (record {
        pull = tt;
        cancel = λ r q. apart_calm (row (OnReadable k operation) s).slots k r q (sym n);
        chunk = λ request v. tt;
        close = λ request. tt;
        error = λ request r. tt;
      })
      by true n = subst (λ (x : StreamId). Each (Calm (row (OnReadable x operation) s).slots) (row (OnReadable x operation) s).caused) (same_id i k (sym n)) (own-caused operation s h here)
  row-caused (OnByte k operation) s h here m = by (has_byte k s) refl
    where
      by : (there : Bool) → there ≡ has_byte k s → Each (Calm (row (OnByte k operation) s).slots) (row (OnByte k operation) s).caused
      by true e = row-causes (Calm (row (OnByte k operation) s).slots) (OnByte k operation) s (record {
        readable = record {
          pull = tt;
          cancel = λ r q. apart_calm (row (OnByte k operation) s).slots k r q (bytes-apart k s h here (sym e));
          chunk = λ request v. tt;
          close = λ request. tt;
          error = λ request r. tt;
        };
        close_with = λ r b. tt;
      })
      by false e = rw (← e) tt
  row-caused (OnWritable k operation) s h here m = by (has_writable k s) refl
    where
      by : (there : Bool) → there ≡ has_writable k s → Each (Calm (row (OnWritable k operation) s).slots) (row (OnWritable k operation) s).caused
      by true e =
          let n : is_same i k ≡ false = writable-apart k s h here (sym e) in
          row-causes (Calm (row (OnWritable k operation) s).slots) (OnWritable k operation) s (record { write = tt; close = n; abort = λ r q. n; hand_on = λ v. tt; take = λ v t d. tt; post = λ v t d. tt })
      by false e = rw (← e) tt
  row-caused (OnPipe q operation) s h here m = row-causes (Calm (row (OnPipe q operation) s).slots) (OnPipe q operation) s (λ source dest e n. pipe-calm (row (OnPipe q operation) s).slots q source dest e n)
  row-caused (OnSignal a (Trigger r)) s h here m = row-causes (Calm (row (OnSignal a (Trigger r)) s).slots) (OnSignal a (Trigger r)) s (λ q. tt)
  row-caused (OnSignal a (Add q)) s h here m = row-causes (Calm (row (OnSignal a (Add q)) s).slots) (OnSignal a (Add q)) s tt
  row-caused (OnSignal a (Forget q)) s h here m = row-causes (Calm (row (OnSignal a (Forget q)) s).slots) (OnSignal a (Forget q)) s tt
  row-caused (OnTransform t operation) s h here m = row-causes (Calm (row (OnTransform t operation) s).slots) (OnTransform t operation) s (λ w r e n. transform-calm (row (OnTransform t operation) s).slots t w r e n)
  row-caused (OnTee t operation) s h here m = row-causes (Calm (row (OnTee t operation) s).slots) (OnTee t operation) s (λ source first second e n. tee-calm (row (OnTee t operation) s).slots t source first second e n)
  row-caused (OnPort d operation) s h here m = row-causes (Calm (row (OnPort d operation) s).slots) (OnPort d operation) s (λ stream e n. port-calm (row (OnPort d operation) s).slots d stream e n)
  row-caused (StartAlgorithm k step start) s h here m = row-causes (Calm (row (StartAlgorithm k step start) s).slots) (StartAlgorithm k step start) s (λ g u. tt, λ d u. tt)
  row-caused (PullAlgorithm k) s h here m = row-causes (Calm (row (PullAlgorithm k) s).slots) (PullAlgorithm k) s (λ d u. tt, (λ t u. tt, (λ t. tt, (λ u. tt, λ q. tt))))
  row-caused (CancelAlgorithm k r q) s h here m = cancel-calm (row (CancelAlgorithm k r q) s).slots k r _ s h here (λ same. row-shut i (CancelAlgorithm k r q) s (m same)) (owner_at k s) refl
  row-caused (WriteAlgorithm k) s h here m = row-causes (Calm (row (WriteAlgorithm k) s).slots) (WriteAlgorithm k) s (tt, (λ t u. tt, λ z u. tt))
  row-caused (CloseAlgorithm k) s h here m = close-calm (row (CloseAlgorithm k) s).slots k _ s h here m (owner_at k s) refl
  row-caused (AbortAlgorithm k r q) s h here m = abort-calm (row (AbortAlgorithm k r q) s).slots k r _ s h here m (owner_at k s) refl
  row-caused (ChunkSteps k (Promise q) v) s h here m = tt
  row-caused (ChunkSteps k (PipeRequest q) v) s h here m = (tt, tt)
  row-caused (ChunkSteps k (TeeRequest b) v) s h here m = (tt, tt)
  row-caused (CloseSteps k (Promise q)) s h here m = tt
  row-caused (CloseSteps k (PipeRequest q)) s h here m = (tt, tt)
  row-caused (CloseSteps k (TeeRequest b)) s h here m = (tt, tt)
  row-caused (CloseStepsWith k (Promise q) b) s h here m = tt
  row-caused (CloseStepsWith k (PipeRequest q) b) s h here m = (tt, tt)
  row-caused (CloseStepsWith k (TeeRequest t) b) s h here m = (tt, tt)
  row-caused (ErrorSteps k (Promise q) r) s h here m = tt
  row-caused (ErrorSteps k (PipeRequest q) r) s h here m = (tt, tt)
  row-caused (ErrorSteps k (TeeRequest b) r) s h here m = (tt, tt)
  row-caused _ s h here m = tt

  -- what stood behind stays

  calm-on : (s z : Slots) → (can i s ≡ false → can i z ≡ false) → (e : Effect) → Calm s e → Calm z e
  calm-on s z f (CancelAlgorithm k r q) m = λ same. f (m same)
  calm-on s z f (CloseAlgorithm k) m = m
  calm-on s z f (AbortAlgorithm k r q) m = m
  calm-on s z f (OnPort d (ports.Leave r u)) m = λ same. f (m same)
  calm-on s z f (OnPort d (ports.Close u)) m = m
  calm-on s z f _ m = tt

  row-calm : (s : Slots) (e : Effect) (es : List Effect) → Ended s → IsHere s → Each (Calm s) (e ∷ es) → Each (Calm (row e s).slots) ((row e s).caused ++ es)
  row-calm s e es h here m =
      each-append (Calm (row e s).slots) (row e s).caused es (row-caused e s h here m.0) (each-map (Calm s) (Calm (row e s).slots) (calm-on s (row e s).slots (row-shut i e s)) es m.1)

  -- the port parts only where the stream takes nothing, or its end is caused

  no_writable-at : (o : Option Stream) → is_readable_stream o ≡ true → as_writable o ≡ no_writable
  no_writable-at o e = grind (arith, e)

  clones-here : (x : cross.Slots) (s : Slots) → Ended s → IsHere s → x.stream ≡ i → clones_at x s ≡ true
  clones-here x s h here is = let none = no_writable-at (slice_get s.streams i.0) (readable-here s h here) in rw (is, none) refl

  port_self : is_same_port c c ≡ true
  port_self = grind arith

  module _ (x : cross.Slots) (s : Slots) (side : x.side ≡ ReadableSide) (is : x.stream ≡ i) (live : x.live ≡ true) where
    abbrev a : cross.Acts
    a = record { slots = x; out = found s }

    abbrev Parts : cross.Acts → Type 0
    Parts b = b.slots.live ≡ false → (can i s ≡ false) ⊎ (first_ends b.out.effects ≡ true)

    stays : (b : cross.Acts) → b.slots.live ≡ x.live → Parts b
    stays b e = λ dead. opened b.slots.live dead (e ∙ live)

    delivered-parts : (m : Message) → Parts (cross.deliver_to c m a ReadableSide)
    delivered-parts PullMessage = stays a refl
    delivered-parts (ChunkMessage v) = stays (cross.deliver_to c (ChunkMessage v) a ReadableSide) refl
    delivered-parts CloseMessage = λ dead. inr (rw is (is_same-refl i))
    delivered-parts (ErrorMessage r) = λ dead. inr (rw is (is_same-refl i))

    delivers-parts : (m : Message) (t : Side) → t ≡ ReadableSide → Parts (cross.deliver_to c m a t)
    delivers-parts m ReadableSide e = delivered-parts m
    delivers-parts m WritableSide e = cc

    post-live : (m : Message) → (cross.post c m a).slots.live ≡ x.live
    post-live m = rw live refl

    on-live : (d : PromiseId) (b : cross.Acts) → (cross.hand_on c d b true).slots.live ≡ b.slots.live
    on-live d b = refl

    go-live : (d : PromiseId) (o : Option PromiseId) → (cross.go_on c true d a o).slots.live ≡ x.live
    go-live d None = refl
    go-live d (Some p) = refl

    unblock-live : (o : Option PromiseId) → (cross.unblock_by a o).slots.live ≡ x.live
    unblock-live None = refl
    unblock-live (Some p) = refl

    parts : (operation : PortOperation) → Calm s (OnPort c operation) → Parts (port_operation c true operation a)
    unfolding cross.pull cross.leave cross.close cross.write cross.write_goes_on cross.post_chunk cross.unblock cross.deliver
    parts ports.Pull m = stays (port_operation c true ports.Pull a) (post-live PullMessage)
    parts (ports.Leave r u) m = λ dead. inl (m port_self)
    parts (ports.Close u) m = opened (is_same_port c c) m port_self
    parts (ports.Write u) m = stays (port_operation c true (ports.Write u) a) refl
    parts (ports.WriteGoesOn d) m = stays (port_operation c true (ports.WriteGoesOn d) a) (go-live d x.backpressure)
    parts (ports.PostChunk v d) m = stays (port_operation c true (ports.PostChunk v d) a) (post-live (ChunkMessage v))
    parts (ports.Deliver m') m = either (λ (b : cross.Acts). Parts b) x.live (cross.deliver_to c m' a x.side) a (λ e. delivers-parts m' x.side side) (λ e. opened x.live e live)
    parts ports.Unblock m = stays (port_operation c true ports.Unblock a) (unblock-live x.backpressure)

  over-caused : (s : Slots) (cs es : List Effect) → (can i s ≡ false) ⊎ (first_ends cs ≡ true) → Over s (cs ++ es)
  over-caused s [] es (inl e) = or-left (not (can i s)) (first_ends es) (rw e refl)
  over-caused s [] es (inr e) = cc
  over-caused s (e ∷ cs) es (inl f) = or-left (not (can i s)) (made_by e) (rw f refl)
  over-caused s (e ∷ cs) es (inr f) = rw f (or_true (not (can i s)))

  k_first_of : (b : Bool) → b || false ≡ true → b ≡ true
  k_first_of b e = grind (arith, e)

  -- where the port was parted before
  over-on : (s : Slots) (e : Effect) (es : List Effect) → Over s (e ∷ es) → Over (row e s).slots ((row e s).caused ++ es)
  over-on s e es k = or-left (not (can i (row e s).slots)) (first_ends ((row e s).caused ++ es)) (shut-by (record { 0 = 0 }) i e s k)

  abbrev OverAt : Slots → List Effect → Type 0
  OverAt z es = (y : cross.Slots) → slice_get z.ports c.0 ≡ Some y → port_shape y ≡ shape → y.live ≡ false → Over z es

  here-of : (s : Slots) (x : cross.Slots) → slice_get s.ports c.0 ≡ Some x → port_shape x ≡ shape → IsHere s
  here-of s x there is = map-there port_shape s.ports c.0 x there ∙ ap Some is

  -- another port, or another effect
  over-same : (s : Slots) (e : Effect) (es : List Effect) → slice_get (row e s).slots.ports c.0 ≡ slice_get s.ports c.0 → Shuts s (e ∷ es) → OverAt (row e s).slots ((row e s).caused ++ es)
  over-same s e es same k = λ y there is dead. over-on s e es (k.shut y (sym same ∙ there) is dead)

  other-ports : (s : Slots) (d : PortId) (operation : PortOperation) → is_same_port c d ≡ false → (o : Option cross.Slots) → slice_get s.ports d.0 ≡ o → slice_get (on_port_at (λ clones. port_operation d clones operation) d s o).slots.ports c.0 ≡ slice_get s.ports c.0
  other-ports s d operation n None e = refl
  other-ports s d operation n (Some x) e = get-other s.ports d.0 c.0 _ (unequal_numbers c.0 d.0 n)

  -- this port
  module _ (s : Slots) (operation : PortOperation) (es : List Effect) (k : Shuts s (OnPort c operation ∷ es)) where
    abbrev e : Effect
    e = OnPort c operation

    same-can : can i (row e s).slots ≡ can i s
    same-can = ap (λ (xs : List Stream). can_close_or_enqueue (as_readable (slice_get xs i.0))) (row-streams e s tt)

    own-over : (o : Option cross.Slots) → slice_get s.ports c.0 ≡ o → OverAt (row e s).slots ((row e s).caused ++ es)
    unfolding row
    own-over None none = λ y there. absurd (none-there y (let at = there in rw none at at))
      where
        none-there : (y : cross.Slots) → slice_get s.ports c.0 ≡ Some y → ⊥
        none-there y at = let no : ◌≡◌ {A = Option cross.Slots} None (Some y) = sym none ∙ at in cc
    own-over (Some x) there = λ y at shaped dead. by y at shaped dead x.live refl
      where
        a : cross.Acts
        a = record { slots = x; out = found s }

        b : cross.Acts
        b = port_operation c (clones_at x s) operation a

        is_row : row e s ≡ put_port c s b
        is_row = rw there refl

        now-at : slice_get (row e s).slots.ports c.0 ≡ Some b.slots
        now-at = ap (λ (r : Done). slice_get r.slots.ports c.0) is_row ∙ get-same s.ports c.0 x b.slots there

        kept : port_shape b.slots ≡ port_shape x
        kept = let m = port-causes c (clones_at x s) operation a tt in λ j. record { side = m.0 j; stream = m.1.0 j }

        by : (y : cross.Slots) → slice_get (row e s).slots.ports c.0 ≡ Some y → port_shape y ≡ shape → y.live ≡ false → (live : Bool) → live ≡ x.live → Over (row e s).slots ((row e s).caused ++ es)
        by y at shaped dead live l =
            let both : ◌≡◌ {A = Option cross.Slots} (Some b.slots) (Some y) = sym now-at ∙ at in
            let same : b.slots ≡ y = cc in
            let is : port_shape x ≡ shape = sym kept ∙ (ap port_shape same ∙ shaped) in
            two live l is (ap (λ (z : cross.Slots). z.live) same ∙ dead)
          where
            two : (live : Bool) → live ≡ x.live → port_shape x ≡ shape → b.slots.live ≡ false → Over (row e s).slots ((row e s).caused ++ es)
            two false l is gone = over-on s e es (k.shut x there is (sym l))
            two true l is gone =
                let side : x.side ≡ ReadableSide = ap (λ (z : PortShape). z.side) is in
                let stream : x.stream ≡ i = ap (λ (z : PortShape). z.stream) is in
                let here : IsHere s = here-of s x there is in
                let clones : clones_at x s ≡ true = clones-here x s k.ended here stream in
                let p = parts x s side stream (sym l) operation (k.calm here).0 (ap (λ (q : Bool). (port_operation c q operation a).slots.live) (sym clones) ∙ gone) in
                let caused : (row e s).caused ≡ (port_operation c true operation a).out.effects = ap (λ (r : Done). r.caused) is_row ∙ ap (λ (q : Bool). (port_operation c q operation a).out.effects) clones in
                over-caused (row e s).slots (row e s).caused es (⊎_elim (λ shut. inl (same-can ∙ shut)) (λ first. inr (ap first_ends caused ∙ first)) p)

  row-over : (s : Slots) (e : Effect) (es : List Effect) → Shuts s (e ∷ es) → OverAt (row e s).slots ((row e s).caused ++ es)
  unfolding row
  row-over s (OnPort d operation) es k = by (is_same_port c d) refl
    where
      by : (same : Bool) → same ≡ is_same_port c d → OverAt (row (OnPort d operation) s).slots ((row (OnPort d operation) s).caused ++ es)
      by false n = over-same s (OnPort d operation) es (other-ports s d operation (sym n) (slice_get s.ports d.0) refl) k
      by true n =
          let is : c ≡ d = ap (λ (m : ℕ). record { 0 = m }) (eq_numbers c.0 d.0 (sym n)) in
          subst (λ (q : PortId). Shuts s (OnPort q operation ∷ es) → OverAt (row (OnPort q operation) s).slots ((row (OnPort q operation) s).caused ++ es)) is (λ own. own-over s operation es own (slice_get s.ports c.0) refl) k
  row-over s e es k = over-same s e es (ap (λ (xs : List cross.Slots). slice_get xs c.0) (row-ports e s tt)) k

  -- calls and jobs

  abbrev IsBegun : Effect → Type 0
  IsBegun (CancelAlgorithm k r q) = ⊥
  IsBegun (CloseAlgorithm k) = ⊥
  IsBegun (AbortAlgorithm k r q) = ⊥
  IsBegun (OnPort d (ports.Leave r u)) = ⊥
  IsBegun (OnPort d (ports.Close u)) = ⊥
  IsBegun _ = Unit {0}

  begun-calm : (s : Slots) (e : Effect) → IsBegun e → Calm s e
  begun-calm s (CancelAlgorithm k r q) n = absurd n
  begun-calm s (CloseAlgorithm k) n = absurd n
  begun-calm s (AbortAlgorithm k r q) n = absurd n
  begun-calm s (OnPort d (ports.Leave r u)) n = absurd n
  begun-calm s (OnPort d (ports.Close u)) n = absurd n
  begun-calm s _ n = tt

  call-begun : (call : Call) (s : Slots) → Each IsBegun (begin call s).done.caused
  call-begun call s = each_call (λ (b : Begun). Each IsBegun b.done.caused) call s (grind arith)

  job-begun : (job : Job) → Each IsBegun (job_effects job)
  job-begun job = grind arith

  -- what a call makes: a new port is entangled

  abbrev Kept : Slots → Type 0
  Kept z = (y : cross.Slots) → slice_get z.ports c.0 ≡ Some y → port_shape y ≡ shape → y.live ≡ false → (can i z ≡ false) × (has_readable i z ≡ true)

  there_of : (o : Option Stream) → is_readable_stream o ≡ true → (x : Stream) × (o ≡ Some x)
  there_of None e = cc
  there_of (Some x) e = (x, refl)

  stream-kept : (z : Slots) (x : Stream) → Kept z → Kept (add_stream x z)
  stream-kept z x k = λ y there is dead.
      let h = k y there is dead in
      let old = there_of (slice_get z.streams i.0) h.1 in
      let same : slice_get (z.streams ++ x ∷ []) i.0 ≡ slice_get z.streams i.0 = get-stays z.streams (x ∷ []) i.0 old.0 old.1 ∙ sym old.1 in
      (ap (λ (o : Option Stream). can_close_or_enqueue (as_readable o)) same ∙ h.0, ap is_readable_stream same ∙ h.1)

  port-kept : (z : Slots) (side : Side) (stream : StreamId) (backpressure : Option PromiseId) → Kept z → Kept (record z { ports = z.ports ++ cross.set_up side stream backpressure ∷ [] })
  port-kept z side stream backpressure k = λ y there is dead.
      ⊎_elim (λ old. k y old is dead) (λ new. let one : cross.set_up side stream backpressure ≡ y = new.1 in opened y.live dead (sym (ap (λ (x : cross.Slots). x.live) one))) (get-either z.ports (cross.set_up side stream backpressure) c.0 y there)

  call-kept : (call : Call) (s : Slots) → Kept s → Kept (begin call s).done.slots
  call-kept call s k = begin-makes Kept (record {
    promise = λ z h. h;
    locks = λ z ls h. h;
    hosts = λ z hs h. h;
    pipe = λ z source dest prevent signal promise h. h;
    signal = λ z h. h;
    transform = λ z kind w r change h. h;
    tee = λ z source first second cancel h. h;
    port = λ z side stream backpressure h. port-kept z side stream backpressure h;
    bytes = λ z mark auto h. stream-kept z _ h;
    byob_requests = λ z hs h. h;
    readable = λ z owner mark size h. stream-kept z _ h;
    writable = λ z owner mark size h. stream-kept z _ h;
  }) call s k

  shut_of : (b : Bool) → not b || false ≡ true → b ≡ false
  shut_of b e = grind (arith, e)

  rest-kept : (s : Slots) → Shuts s [] → Kept s
  rest-kept s k = λ y there is dead. (shut_of (can i s) (k.shut y there is dead), readable-here s k.ended (here-of s y there is))

  over-any : (s : Slots) (es : List Effect) → can i s ≡ false → Over s es
  over-any s es e = or-left (not (can i s)) (first_ends es) (rw e refl)

  pub shuts-stays : Stays Shuts
  shuts-stays = record {
    row = λ s e es k. record {
      ended = ended-stays.row s e es k.ended;
      shut = row-over s e es k;
      calm = λ here. let was : IsHere s = rw (row-port_shapes e s) at here in row-calm s e es k.ended was (k.calm was);
    };
    call = λ s call k. record {
      ended = ended-stays.call s call k.ended;
      shut = λ y there is dead. over-any (begin call s).done.slots (begin call s).done.caused (call-kept call s (rest-kept s k) y there is dead).0;
      calm = λ here. each-map IsBegun (Calm (begin call s).done.slots) (begun-calm (begin call s).done.slots) (begin call s).done.caused (call-begun call s);
    };
    job = λ s job next k. record {
      ended = k.ended;
      shut = λ y there is dead. over-any s (job_effects job) (rest-kept s k y there is dead).0;
      calm = λ here. each-map IsBegun (Calm s) (begun-calm s) (job_effects job) (job-begun job);
    };
    answered = λ s p k. record { ended = k.ended; shut = k.shut; calm = λ here. tt };
    older = λ s k. record { ended = k.ended; shut = k.shut; calm = λ here. tt };
  }

  pub run-shuts : (entries : List Entry) → Shuts (run entries empty) []
  run-shuts entries = run-stays Shuts shuts-stays (λ s k. record { ended = k.ended; shut = k.shut; calm = λ here. tt }) entries empty (record { ended = ended-empty; shut = λ y there is dead. cc; calm = λ here. tt })

  -- before an operation of the port
  pub shut-at : (s : Slots) (d : PortId) (operation : PortOperation) (es : List Effect) → Shuts s (OnPort d operation ∷ es) → (x : cross.Slots) → slice_get s.ports c.0 ≡ Some x → x.side ≡ ReadableSide → x.stream ≡ i → x.live ≡ false → can i s ≡ false
  shut-at s d operation es k x there side stream dead = shut_of (can i s) (k.shut x there (λ j. record { side = side j; stream = stream j }) dead)
