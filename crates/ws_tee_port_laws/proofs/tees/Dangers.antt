-- What may lead to an error of a stream within a step: effects with which calls and jobs begin, and no others lead to them.
use Rattle.std.proofs.Common.{◌≡◌, Bool, true, false, not, ◌&&◌, [], ◌∷◌, ◌++◌, Option, Some, None, slice_get, refl, arith}
use Rattle.ws_steps.specs.declared.effects.Effect.TheVariants.{Port as OnPort}
use Rattle.ws_value.specs.declared.ids.{PipeId.{PipeId}, PromiseId.{PromiseId}, StreamId.{StreamId}, TeeId.{TeeId}}
use Rattle.ws_value.specs.declared.value.{Plain.{Plain}, Plain.TheVariants.{Pair}, Value.{Value}}
use Rattle.ws_steps.specs.declared.effects.{Effect.{Effect}, Effect.TheVariants.{Readable as OnReadable, Transform as OnTransform, Tee as OnTee}}
use Rattle.ws_steps.specs.declared.readable.{ReadableOperation.{ReadableOperation}, ReadableOperation.TheVariants.{Cancel, Enqueue, Close, Error, StartSettled, PullSettled}}
use Rattle.ws_steps.specs.declared.tee.{Half.{Half}, TeeOperation.{TeeOperation}, TeePhase.{TeePhase}, TeePhase.TheVariants.{Resting, Reading, Over}}
use Rattle.ws_steps.specs.declared.tee.TeeOperation.TheVariants as names
use Rattle.ws_steps.specs.declared.transform.{Halves.{Halves}, TransformId.{TransformId}, TransformOperation.{TransformOperation}}
use Rattle.ws_steps.specs.declared.transform.TransformOperation.TheVariants as transforms
use Rattle.ws_steps.specs.Operations.{tee_operation, transform_operation, port_operation}
use Rattle.ws_steps.specs.Promises.{next_id, fresh}
use Rattle.ws_steps.specs.Slots.{Slots, found, halves_at, on_tee_at, on_transform_at, on_port_at, clones_at}
use Rattle.ws_steps.specs.Tee as tee
use Rattle.ws_steps.specs.Tee.{Acts, causing, with_slots, reason_of, with_reason, is_wanted, on_branches, unless_cancelled, fulfil_cancel, pull_in, pull_branch, keep_chunk, close_in, source_closed, source_errored, hand_held, hand_chunk, rested, again, handed, resolve_cancel, cancel_source, cancel_by, cancel_branch, reader_settled}
use Rattle.ws_steps.specs.Transform as transform
use Rattle.ws_steps.specs.Transform.{set_backpressure, unblock, transform_error, terminate, enqueue, enqueued, transform_chunk, sink_write, write_goes_on, source_pull, sink_close, sink_abort, source_cancel}
use Rattle.ws_steps.specs.Turns.{row}
use Rattle.ws_laws.proofs.Lists.{Each, each-append}
use Rattle.ws_laws.proofs.PipeDoes.{PipeCauses}
use Rattle.ws_laws.proofs.Causes.{Causes, row-causes}
use Rattle.ws_laws.proofs.Tables.{either}
use Rattle.ws_value.specs.declared.ids.PortId.{PortId}
use Rattle.ws_value.specs.declared.ids.PromiseId.{PromiseId}
use Rattle.ws_value.specs.declared.value.Message.{Message}
use Rattle.ws_value.specs.declared.value.Message.TheVariants.{Pull as PullMessage, Chunk as ChunkMessage, Close as CloseMessage, Error as ErrorMessage}
use Rattle.ws_value.specs.Values.{is_cloneable}
use Rattle.ws_steps.specs.declared.port.PortOperation.{PortOperation}
use Rattle.ws_steps.specs.declared.port.PortOperation.TheVariants as ports
use Rattle.ws_steps.specs.Cross as cross

abbrev pub danger : Effect → Bool
danger (OnReadable j (Error e)) = true
danger (OnReadable j (StartSettled o)) = true
danger (OnReadable j (PullSettled o)) = true
danger (OnTransform z (transforms.Error e)) = true
danger (OnTransform z (transforms.FlushSettled p o)) = true
danger (OnTransform z (transforms.AbortSettled p r o)) = true
danger (OnTransform z (transforms.CancelSettled p r o)) = true
danger (OnTee u (names.ReaderSettled o)) = true
danger (OnPort c (ports.Deliver m)) = true
danger _ = false

abbrev pub Safe : Effect → Type 0
Safe e = danger e ≡ false

-- operations of transform streams

module _ (me : TransformId) where
  backpressure-safe : (b : Bool) (a : transform.Acts) → Each Safe a.out.effects → Each Safe (set_backpressure b a).out.effects
  unfolding set_backpressure
  backpressure-safe b a h = h

  transform-safe : (halves : Halves) (operation : TransformOperation) (a : transform.Acts) → Safe (OnTransform me operation) → a.out.effects ≡ [] → Each Safe (transform_operation me halves operation a).out.effects
  unfolding set_backpressure unblock terminate enqueue enqueued transform_chunk sink_write write_goes_on source_pull sink_close sink_abort source_cancel
  transform-safe halves (transforms.Error e) a s none = cc
  transform-safe halves (transforms.FlushSettled p o) a s none = cc
  transform-safe halves (transforms.AbortSettled p r o) a s none = cc
  transform-safe halves (transforms.CancelSettled p r o) a s none = cc
  transform-safe halves operation a s none = grind (arith, each-append, none)

-- operations of tees

module _ (t : TeeId) where
  abbrev Goes : Acts → Acts → Type 0
  Goes a b = Each Safe a.out.effects → Each Safe b.out.effects

  unless-safe : (r : Option Plain) (j : StreamId) (operation : ReadableOperation) → Safe (OnReadable j operation) → Each Safe (unless_cancelled r j operation)
  unless-safe None j operation n = (n, tt)
  unless-safe (Some r) j operation n = tt

  branches-safe : (x : tee.Slots) (operation : ReadableOperation) → ((j : StreamId) → Safe (OnReadable j operation)) → Each Safe (on_branches operation x)
  branches-safe x operation n =
      each-append Safe (unless_cancelled x.reason1 x.branch1 operation) (unless_cancelled x.reason2 x.branch2 operation) (unless-safe x.reason1 x.branch1 operation (n x.branch1)) (unless-safe x.reason2 x.branch2 operation (n x.branch2))

  fulfil-safe : (a : Acts) → Goes a (fulfil_cancel a)
  fulfil-safe a h = either (λ (z : Acts). Each Safe z.out.effects) (is_wanted a.slots && not a.slots.answered) _ a (λ e. each-append Safe a.out.effects _ h (refl, tt)) (λ e. h)

  pull-safe : (a : Acts) (phase : TeePhase) → Goes a (pull_in t a phase)
  pull-safe a Resting h = each-append Safe a.out.effects _ h (refl, tt)
  pull-safe a Reading h = h
  pull-safe a Over h = h

  closes-safe : (a : Acts) → Goes a (fulfil_cancel (causing (on_branches Close a.slots) (with_slots (record a.slots { phase = Over }) a)))
  closes-safe a h =
      fulfil-safe (causing (on_branches Close a.slots) (with_slots (record a.slots { phase = Over }) a)) (each-append Safe a.out.effects (on_branches Close a.slots) h (branches-safe a.slots Close (λ j. refl)))

  close-safe : (a : Acts) (phase : TeePhase) → Goes a (close_in a phase)
  close-safe a Resting h = closes-safe a h
  close-safe a Reading h = closes-safe a h
  close-safe a Over h = h

  hand-safe : (a : Acts) (held : Option Value) → Goes a (hand_held t a held)
  hand-safe a None h = h
  hand-safe a (Some v) h =
      each-append Safe a.out.effects (on_branches (Enqueue v) a.slots ++ OnTee t names.Handed ∷ []) h
      (each-append Safe (on_branches (Enqueue v) a.slots) (OnTee t names.Handed ∷ []) (branches-safe a.slots (Enqueue v) (λ j. refl)) (refl, tt))

  again-safe : (a : Acts) (asked : Bool) → Goes a (again t a asked)
  unfolding pull_branch
  again-safe a true h = pull-safe a a.slots.phase h
  again-safe a false h = h

  resolve-safe : (a : Acts) (p : PromiseId) → Goes a (resolve_cancel p a)
  resolve-safe a p h = either (λ (z : Acts). Each Safe z.out.effects) a.slots.answered a _ (λ e. h) (λ e. each-append Safe a.out.effects _ h (refl, tt))

  cancel-safe : (half : Half) (r : Plain) (a : Acts) (o : Option Plain) → Goes a (cancel_by t half r a o)
  cancel-safe half r a (Some old) h = h
  cancel-safe half r a None h =
      let b : Acts = with_slots (with_reason half r a.slots) a in
      let p : PromiseId = next_id b.out.promises in
      let c : Acts = record b { out = record b.out { promises = fresh b.out.promises } } in
      either (λ (z : Acts). Each Safe z.out.effects) (is_wanted b.slots) b (cancel_source t b) (λ e. h)
      (λ e. resolve-safe (causing (OnReadable b.slots.source (Cancel (Pair t) p) ∷ []) c) p (each-append Safe c.out.effects _ h (refl, tt)))

  tee-safe : (operation : TeeOperation) (a : Acts) → Safe (OnTee t operation) → Goes a (tee_operation t operation a)
  unfolding pull_branch keep_chunk source_closed source_errored hand_chunk handed cancel_branch reader_settled
  tee-safe names.PullBranch a s h = pull-safe a a.slots.phase h
  tee-safe (names.KeepChunk v) a s h = h
  tee-safe names.SourceClosed a s h = close-safe a a.slots.phase h
  tee-safe names.SourceErrored a s h = h
  tee-safe names.HandChunk a s h = hand-safe a a.slots.held h
  tee-safe names.Handed a s h = again-safe (with_slots (record a.slots { phase = rested a.slots.phase }) a) a.slots.read_again h
  tee-safe (names.CancelBranch half r u) a s h = each-append Safe (cancel_by t half r a (reason_of half a.slots)).out.effects _ (cancel-safe half r a (reason_of half a.slots) h) (refl, tt)
  tee-safe (names.ReaderSettled o) a s h = cc

-- operations of ports

module _ (me : PortId) where
  abbrev Holds : cross.Acts → cross.Acts → Type 0
  Holds a b = Each Safe a.out.effects → Each Safe b.out.effects

  post-safe : (m : Message) (a : cross.Acts) → Holds a (cross.post me m a)
  post-safe m a h = either (λ (z : cross.Acts). Each Safe z.out.effects) a.slots.live (cross.posting me m a) a (λ e. h) (λ e. h)

  fail-safe : (m : Message) (a : cross.Acts) (clones : Bool) → Holds a (cross.post_or_fail me m a clones)
  fail-safe m a true h = post-safe m a h
  fail-safe m a false h = post-safe (ErrorMessage cross.data_clone) a h

  wait-safe : (p : Option PromiseId) (d : PromiseId) → Safe (cross.wait_for p me d)
  wait-safe None d = refl
  wait-safe (Some p) d = refl

  hand_on-safe : (d : PromiseId) (a : cross.Acts) (clones : Bool) → Holds a (cross.hand_on me d a clones)
  hand_on-safe d a true h = each-append Safe a.out.effects _ h (refl, tt)
  hand_on-safe d a false h = each-append Safe (cross.post me (ErrorMessage cross.data_clone) a).out.effects _ (post-safe (ErrorMessage cross.data_clone) a h) (refl, tt)

  go_on-safe : (clones : Bool) (d : PromiseId) (a : cross.Acts) (p : Option PromiseId) → Holds a (cross.go_on me clones d a p)
  go_on-safe clones d a None h = hand_on-safe d (cross.hold_back a) clones h
  go_on-safe clones d a (Some p) h = each-append Safe a.out.effects _ h (refl, tt)

  unblock-safe : (a : cross.Acts) (p : Option PromiseId) → Holds a (cross.unblock_by a p)
  unblock-safe a None h = h
  unblock-safe a (Some p) h = h

  port-safe : (clones : Bool) (operation : PortOperation) (a : cross.Acts) → Safe (OnPort me operation) → Holds a (port_operation me clones operation a)
  unfolding cross.pull cross.leave cross.close cross.write cross.write_goes_on cross.post_chunk cross.unblock
  port-safe clones ports.Pull a s h = post-safe PullMessage a h
  port-safe clones (ports.Leave r u) a s h = each-append Safe (cross.post_or_fail me (ErrorMessage r) a (is_cloneable r)).out.effects _ (fail-safe (ErrorMessage r) a (is_cloneable r) h) (refl, tt)
  port-safe clones (ports.Write u) a s h = each-append Safe a.out.effects _ h (wait-safe a.slots.backpressure _, (refl, tt))
  port-safe clones (ports.WriteGoesOn d) a s h = go_on-safe clones d a a.slots.backpressure h
  port-safe clones (ports.PostChunk v d) a s h = each-append Safe (cross.post me (ChunkMessage v) a).out.effects _ (post-safe (ChunkMessage v) a h) (refl, tt)
  port-safe clones (ports.Close u) a s h = each-append Safe (cross.post me CloseMessage a).out.effects _ (post-safe CloseMessage a h) (refl, tt)
  port-safe clones (ports.Deliver m) a s h = cc
  port-safe clones ports.Unblock a s h = unblock-safe a a.slots.backpressure h

-- each effect

pipe_safe : (p : PipeId) (source dest : StreamId) (e : Effect) → PipeCauses p source dest e → Safe e
pipe_safe p source dest e c = grind (arith, c)

abbrev IsOther : Effect → Type 0
IsOther (OnTransform z operation) = ⊥
IsOther (OnTee u operation) = ⊥
IsOther (OnPort c operation) = ⊥
IsOther _ = Unit {0}

other-safe : (e : Effect) → IsOther e → Causes Safe e
other-safe e n = grind (arith, n, pipe_safe)

transformed-safe : (z : TransformId) (operation : TransformOperation) (s : Slots) → Safe (OnTransform z operation) → (o : Option transform.Slots) → Each Safe (on_transform_at (λ halves. transform_operation z halves operation) z s o).caused
transformed-safe z operation s safe None = tt
transformed-safe z operation s safe (Some x) = transform-safe z (halves_at x s) operation (record { slots = x; out = found s }) safe refl

teed-safe : (u : TeeId) (operation : TeeOperation) (s : Slots) → Safe (OnTee u operation) → (o : Option tee.Slots) → Each Safe (on_tee_at (tee_operation u operation) u s o).caused
teed-safe u operation s safe None = tt
teed-safe u operation s safe (Some x) = tee-safe u operation (record { slots = x; out = found s }) safe tt

ported-safe : (c : PortId) (operation : PortOperation) (s : Slots) → Safe (OnPort c operation) → (o : Option cross.Slots) → Each Safe (on_port_at (λ clones. port_operation c clones operation) c s o).caused
ported-safe c operation s safe None = tt
ported-safe c operation s safe (Some x) = port-safe c (clones_at x s) operation (record { slots = x; out = found s }) safe tt

-- what is safe leads to nothing else
pub row-safe : (e : Effect) (s : Slots) → Safe e → Each Safe (row e s).caused
unfolding row
row-safe (OnTransform z operation) s safe = transformed-safe z operation s safe (slice_get s.transforms z.0)
row-safe (OnTee u operation) s safe = teed-safe u operation s safe (slice_get s.tees u.0)
row-safe (OnPort c operation) s safe = ported-safe c operation s safe (slice_get s.ports c.0)
row-safe e s safe = row-causes Safe e s (other-safe e tt)
