use Rattle.std.proofs.Common.{rules, arith, ◌≡◌, ◌+◌, ◌≤◌, ◌-◌, ◌%◌, length, false}
use Rattle.std.specs.Prelude.{leb}
use Rattle.ws_steps.specs.Queues.{front_bytes}
use Rattle.ws_queue.proofs.Bytes.{front_length}
use Rattle.ws_descriptors.proofs.Elements.{still_fine}
use Rattle.ws_descriptors.proofs.descriptor.Descriptor.fill.Goals.{then-ready, else-ready}
use Rattle.ws_descriptors.proofs.descriptor.Descriptor.fill.Goals as goal

pub returns-clause-fine : goal.returns-clause-fine
returns-clause-fine c =
    λ h. elim c.if-ready.branch [
      | then-ready w ↦ let yes = w.if-ready in absurd (cc)
      | else-ready w ↦
          let element : c.from.result ≡ c.args.self.now.element = search rules in
          let minimum : c.self.inside.minimum ≡ c.args.self.now.minimum = search rules in
          let least : leb c.args.self.now.minimum (c.reach-reach.result - (c.reach-reach.result % c.from.result)) ≡ false = rw minimum at h in
          let bytes = front_bytes c.if-ready.n c.args.queue.now.entries in
          let few : length bytes ≤ c.if-ready.n = omega (arith, front_length c.if-ready.n c.args.queue.now.entries) in
          let reached : c.reach-reach.result ≡ length c.args.self.now.filled + c.if-ready.n = omega (arith, c.reach-reach.ensures, w.n-is) in
          rw c.fill_with.ensures.filled (still_fine c.args.self.now bytes c.if-ready.n c.reach-reach.result c.from.result c.requires few reached element least)
    ]
