-- The ports of a realm stay, each with its side and its stream.
use Rattle.std.proofs.Common.{◌≡◌, List, [], ◌∷◌, ◌++◌, map, Some, slice_get, refl, ap, ◌∙◌}
use Rattle.ws_value.specs.declared.ids.PortId.{PortId}
use Rattle.ws_steps.specs.declared.calls.Call.{Call}
use Rattle.ws_steps.specs.declared.calls.Reply.{Reply}
use Rattle.ws_steps.specs.declared.calls.Reply.TheVariants.{Promise}
use Rattle.ws_steps.specs.declared.effects.Effect.{Effect}
use Rattle.ws_steps.specs.Cross as cross
use Rattle.ws_steps.specs.Slots.{Slots, Done}
use Rattle.ws_steps.specs.Turns.{performed}
use Rattle.ws_steps.specs.Calls.{begin, named}
use Rattle.ws_steps.specs.Run.{Entry, Called, step, run}
use Rattle.ws_laws.proofs.Begin.{begin-makes}
use Rattle.ws_laws.proofs.Ended.{PortShape, port_shape, port_shapes, row-port_shapes}
use Rattle.ws_laws.proofs.Halves.{get-stays}
use Rattle.ws_laws.proofs.Walker.{Stays, run-stays, performed-goes, untold}

map-append : {X Y : Type 0} (f : X → Y) (xs ys : List X) → map f (xs ++ ys) ≡ map f xs ++ map f ys
map-append f [] ys = refl
map-append f (x ∷ xs) ys = ap (λ zs. f x ∷ zs) (map-append f xs ys)

abbrev IsPort : PortId → PortShape → Slots → List Effect → Type 0
IsPort c x s es = slice_get (port_shapes s) c.0 ≡ Some x

call-port : (c : PortId) (x : PortShape) (call : Call) (s : Slots) → slice_get (port_shapes s) c.0 ≡ Some x → slice_get (port_shapes (begin call s).done.slots) c.0 ≡ Some x
call-port c x call s is = begin-makes (λ z. slice_get (port_shapes z) c.0 ≡ Some x) (record {
  promise = λ z k. k;
  locks = λ z ls k. k;
  hosts = λ z hs k. k;
  pipe = λ z source dest prevent signal p k. k;
  signal = λ z k. k;
  transform = λ z kind w r p k. k;
  tee = λ z source first second p k. k;
  port = λ z side stream p k. rw (map-append port_shape z.ports (cross.set_up side stream p ∷ [])) (get-stays (port_shapes z) _ c.0 x k);
  readable = λ z owner mark size k. k;
  bytes = λ z mark auto k. k;
  byob_requests = λ z r k. k;
  writable = λ z owner mark size k. k;
}) call s is

port-stays : (c : PortId) (x : PortShape) → Stays (IsPort c x)
port-stays c x = record {
  row = λ s e es k. rw (row-port_shapes e s) k;
  call = λ s call k. call-port c x call s k;
  job = λ s job e k. k;
  answered = λ s p k. k;
  older = λ s k. k;
}

abbrev pub AmongPorts : List PortShape → List PortShape → Type 0
AmongPorts ps qs = (c : PortId) (x : PortShape) → slice_get ps c.0 ≡ Some x → slice_get qs c.0 ≡ Some x

pub run-among_ports : (xs : List Entry) (s : Slots) → AmongPorts (port_shapes s) (port_shapes (run xs s))
run-among_ports xs s = λ c x h. run-stays (IsPort c x) (port-stays c x) (λ z k. k) xs s h

-- after a call they are as it began

performed-ports : (d : Done) → port_shapes (performed d) ≡ port_shapes d.slots
performed-ports d =
    performed-goes tt (λ f g. tt) untold (λ e s. tt) (λ h s es. port_shapes s ≡ port_shapes d.slots) (λ h s e es k. row-port_shapes e s ∙ k) tt d refl

named-ports : (reply : Reply) (s : Slots) → port_shapes (named reply s) ≡ port_shapes s
named-ports (Promise p) s = refl
named-ports _ s = refl

pub called-port_shapes : (c : Call) (s : Slots) → port_shapes (step s (Called c)) ≡ port_shapes (begin c s).done.slots
called-port_shapes c s = let d : Done = (begin c s).done in named-ports (begin c s).reply (performed d) ∙ performed-ports d
