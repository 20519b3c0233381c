-- What operations of ports do with promises: what they carry is done, and else they make reactions of their own and resolve promises.
use Rattle.std.proofs.Common.{◌≡◌, Bool, true, false, List, ◌++◌, Option, Some, None, slice_get, refl}
use Rattle.ws_value.specs.declared.ids.PortId.{PortId}
use Rattle.ws_value.specs.declared.ids.PromiseId.{PromiseId}
use Rattle.ws_value.specs.declared.ids.StreamId.{StreamId}
use Rattle.ws_value.specs.declared.value.Message.{Message}
use Rattle.ws_value.specs.declared.value.Message.TheVariants.{Pull as PullMessage, Chunk as ChunkMessage, Close as CloseMessage, Error as ErrorMessage}
use Rattle.ws_value.specs.Values.{is_cloneable}
use Rattle.ws_steps.specs.declared.effects.Effect.{Effect}
use Rattle.ws_steps.specs.declared.effects.Effect.TheVariants.{Readable, Writable, Port, Give}
use Rattle.ws_steps.specs.declared.effects.Use.{Use}
use Rattle.ws_steps.specs.declared.effects.Use.TheVariants.{React, Resolve}
use Rattle.ws_steps.specs.declared.port.PortOperation.{PortOperation}
use Rattle.ws_steps.specs.declared.port.PortOperation.TheVariants as ports
use Rattle.ws_steps.specs.declared.port.Side.{Side}
use Rattle.ws_steps.specs.declared.port.Side.TheVariants.{Readable as ReadableSide, Writable as WritableSide}
use Rattle.ws_steps.specs.declared.promises.Step.TheVariants.{PortUnblocked}
use Rattle.ws_steps.specs.declared.writable.WritableOperation.TheVariants.{ErrorIfNeeded, HandOn}
use Rattle.ws_steps.specs.Cross as cross
use Rattle.ws_steps.specs.Operations.{port_operation}
use Rattle.ws_steps.specs.Slots.{Slots, found, clones_at, on_port_at}
use Rattle.ws_steps.specs.Turns.{row}
use Rattle.ws_laws.proofs.Lists.{Each, each-append}
use Rattle.ws_laws.proofs.Tables.{either}

-- what is done with a promise that an algorithm gives, where an operation carries it
abbrev pub CarriesPort : (Use → Type 0) → PortOperation → Type 0
CarriesPort N (ports.Leave r u) = N u
CarriesPort N (ports.Write u) = N u
CarriesPort N (ports.Close u) = N u
CarriesPort N _ = Unit {0}

-- an effect that an operation of a port causes, where M holds of its stream
abbrev pub PortUses : (Use → Type 0) → (StreamId → Type 0) → Effect → Type 0
PortUses N M (Give gift u) = N u
PortUses N M (Readable i operation) = Unit {0}
PortUses N M (Writable i (ErrorIfNeeded e)) = Unit {0}
PortUses N M (Writable i (HandOn taker)) = M i
PortUses N M (Writable i operation) = ⊥
PortUses N M (Port c ports.Unblock) = Unit {0}
PortUses N M (Port c operation) = ⊥
PortUses N M _ = ⊥

module _ (N : Use → Type 0) (M : StreamId → Type 0) (resolve : (p : PromiseId) → N (Resolve p)) (unblocked : (c : PortId) (p : PromiseId) → N (React (PortUnblocked c p) None)) (me : PortId) where
  abbrev All : List Effect → Type 0
  All es = Each (PortUses N M) es

  abbrev Goes : cross.Acts → cross.Acts → Type 0
  Goes a b = All a.out.effects → All b.out.effects

  -- effects after the others
  then-uses : (a : cross.Acts) (es : List Effect) → All es → All a.out.effects → All (a.out.effects ++ es)
  then-uses a es m h = each-append (PortUses N M) a.out.effects es h m

  post-uses : (m : Message) (a : cross.Acts) → Goes a (cross.post me m a)
  post-uses m a h = either (λ (b : cross.Acts). All b.out.effects) a.slots.live (cross.posting me m a) a (λ e. h) (λ e. h)

  fail-uses : (m : Message) (a : cross.Acts) (clones : Bool) → Goes a (cross.post_or_fail me m a clones)
  fail-uses m a true h = post-uses m a h
  fail-uses m a false h = post-uses (ErrorMessage cross.data_clone) a h

  wait-uses : (p : Option PromiseId) (d : PromiseId) → PortUses N M (cross.wait_for p me d)
  wait-uses None d = unblocked me d
  wait-uses (Some p) d = unblocked me d

  hand-uses : (d : PromiseId) (a : cross.Acts) (clones : Bool) → M a.slots.stream → Goes a (cross.hand_on me d a clones)
  hand-uses d a true m h = then-uses a _ (m, tt) h
  hand-uses d a false m h = then-uses (cross.post me (ErrorMessage cross.data_clone) a) _ (resolve d, tt) (post-uses (ErrorMessage cross.data_clone) a h)

  go-uses : (clones : Bool) (d : PromiseId) (a : cross.Acts) (p : Option PromiseId) → M a.slots.stream → Goes a (cross.go_on me clones d a p)
  go-uses clones d a None m h = hand-uses d (cross.hold_back a) clones m h
  go-uses clones d a (Some p) m h = then-uses a _ (wait-uses (Some p) d, tt) h

  unblock-uses : (a : cross.Acts) (p : Option PromiseId) → Goes a (cross.unblock_by a p)
  unblock-uses a None h = h
  unblock-uses a (Some p) h = h

  deliver-uses : (m : Message) (a : cross.Acts) (side : Side) → Goes a (cross.deliver_to me m a side)
  unfolding cross.unblock
  deliver-uses PullMessage a ReadableSide h = h
  deliver-uses (ChunkMessage v) a ReadableSide h = then-uses a _ (tt, tt) h
  deliver-uses CloseMessage a ReadableSide h = then-uses a _ (tt, tt) h
  deliver-uses (ErrorMessage r) a ReadableSide h = then-uses a _ (tt, tt) h
  deliver-uses PullMessage a WritableSide h = unblock-uses a a.slots.backpressure h
  deliver-uses (ChunkMessage v) a WritableSide h = h
  deliver-uses CloseMessage a WritableSide h = h
  deliver-uses (ErrorMessage r) a WritableSide h = then-uses a _ (tt, (tt, tt)) h

  port-uses : (clones : Bool) (operation : PortOperation) (a : cross.Acts) → CarriesPort N operation → M a.slots.stream → Goes a (port_operation me clones operation a)
  unfolding cross.pull cross.leave cross.close cross.write cross.write_goes_on cross.post_chunk cross.unblock cross.deliver
  port-uses clones ports.Pull a n m h = post-uses PullMessage a h
  port-uses clones (ports.Leave r u) a n m h =
      then-uses (cross.post_or_fail me (ErrorMessage r) a (is_cloneable r)) _ (n, tt) (fail-uses (ErrorMessage r) a (is_cloneable r) h)
  port-uses clones (ports.Write u) a n m h = then-uses a _ (wait-uses a.slots.backpressure _, (n, tt)) h
  port-uses clones (ports.WriteGoesOn d) a n m h = go-uses clones d a a.slots.backpressure m h
  port-uses clones (ports.PostChunk v d) a n m h = then-uses (cross.post me (ChunkMessage v) a) _ (resolve d, tt) (post-uses (ChunkMessage v) a h)
  port-uses clones (ports.Close u) a n m h = then-uses (cross.post me CloseMessage a) _ (n, tt) (post-uses CloseMessage a h)
  port-uses clones (ports.Deliver x) a n m h =
      either (λ (b : cross.Acts). All b.out.effects) a.slots.live (cross.deliver_to me x a a.slots.side) a (λ e. deliver-uses x a a.slots.side h) (λ e. h)
  port-uses clones ports.Unblock a n m h = unblock-uses a a.slots.backpressure h

  place-uses : (operation : PortOperation) (s : Slots) (o : Option cross.Slots) → slice_get s.ports me.0 ≡ o → CarriesPort N operation
      → ((x : cross.Slots) → slice_get s.ports me.0 ≡ Some x → M x.stream) → All (on_port_at (λ clones. port_operation me clones operation) me s o).caused
  place-uses operation s None e n m = tt
  place-uses operation s (Some x) e n m = port-uses (clones_at x s) operation (record { slots = x; out = found s }) n (m x e) tt

  pub row-port_uses : (operation : PortOperation) (s : Slots) → CarriesPort N operation → ((x : cross.Slots) → slice_get s.ports me.0 ≡ Some x → M x.stream) → All (row (Port me operation) s).caused
  unfolding row
  row-port_uses operation s n m = place-uses operation s (slice_get s.ports me.0) refl n m
