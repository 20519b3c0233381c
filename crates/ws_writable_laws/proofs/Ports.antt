-- What an operation of a port leads to, of a writable stream: only what is done with the promise that it was told of. It closes none, and hands
-- on a chunk of its own stream at most, and then nothing else.
use Rattle.std.proofs.Common.{◌≡◌, ◌≤◌, ℕ, Bool, false, [], arith}
use Rattle.ws_value.specs.declared.ids.PortId.{PortId}
use Rattle.ws_value.specs.declared.ids.PromiseId.{PromiseId}
use Rattle.ws_value.specs.declared.ids.StreamId.{StreamId}
use Rattle.ws_steps.specs.declared.port.PortOperation.{PortOperation}
use Rattle.ws_steps.specs.declared.promises.Step.{Step}
use Rattle.ws_steps.specs.declared.promises.Step.TheVariants.{PortUnblocked}
use Rattle.ws_steps.specs.Cross as cross
use Rattle.ws_steps.specs.Histories.{is_same}
use Rattle.ws_steps.specs.Operations.{port_operation}
use Rattle.ws_steps.specs.Promises.{Table}
use Rattle.ws_laws.proofs.PortDoes.{OfPort}
use Rattle.ws_laws.proofs.Weights.{weigh, weigh-fresh, weigh-settle}
use Rattle.ws_writable_laws.proofs.Operations.{later_effects}
use Rattle.ws_writable_laws.proofs.Shape.{of_port, leads_to, hands, closes, all, weight, of_reaction}

pub port-leads : (f : Step → ℕ) (c : PortId) (clones : Bool) (operation : PortOperation) (a : cross.Acts) → ((me : PortId) (d : PromiseId) → f (PortUnblocked me d) ≡ 0) → a.out.effects ≡ []
    → all (leads_to f) (port_operation c clones operation a).out.effects ≤ of_port f operation
unfolding cross.pull cross.leave cross.close cross.write cross.write_goes_on cross.post_chunk cross.unblock cross.deliver
port-leads f c clones operation a p none = grind (arith, none, p)

pub port-hands : (i : StreamId) (c : PortId) (clones : Bool) (operation : PortOperation) (a : cross.Acts) → is_same i a.slots.stream ≡ false → a.out.effects ≡ []
    → all (hands i) (port_operation c clones operation a).out.effects ≡ 0
unfolding cross.pull cross.leave cross.close cross.write cross.write_goes_on cross.post_chunk cross.unblock cross.deliver
port-hands i c clones operation a n none = grind (arith, n, none)

pub port-alone : (i : StreamId) (c : PortId) (clones : Bool) (operation : PortOperation) (a : cross.Acts) → a.out.effects ≡ []
    → (all (hands i) (later_effects (port_operation c clones operation a).out.effects) ≡ 0) × (all (closes i) (port_operation c clones operation a).out.effects ≡ 0)
unfolding cross.pull cross.leave cross.close cross.write cross.write_goes_on cross.post_chunk cross.unblock cross.deliver
port-alone i c clones operation a none = grind (arith, none)

pub weight-port : (f : Step → ℕ) (t : Table) → OfPort (λ z. weight f z ≤ weight f t)
unfolding weigh
weight-port f t = record {
  fresh = λ z h. let k = weigh-fresh (of_reaction f) z in omega (arith, h, k);
  settle = λ z p o h. let k = weigh-settle (of_reaction f) p o z in omega (arith, h, k);
  post = λ z c m h. h;
}
