use Rattle.std.proofs.Common.{arith, ◌≡◌, length, refl}
use Rattle.ws_steps.specs.Queues.{front_bytes}
use Rattle.ws_queue.proofs.Bytes.{front_length}
use Rattle.ws_descriptors.proofs.Elements.{put_filled, seen_length}
use Rattle.ws_descriptors.proofs.descriptor.Descriptor.fill_with.Goals as goal

pub returns-clause-filled : goal.returns-clause-filled
returns-clause-filled c =
    let i = c.self.inside in
    let bytes = front_bytes c.args.n c.args.queue.now.entries in
    let size : length bytes ≡ c.args.n = omega (arith, front_length c.args.n c.args.queue.now.entries, c.requires.enough) in
    let seen : length c.args.self.now.filled ≡ i.filled = rw (← c.self.view_is) (seen_length i.filled i.room c.self.invariant) in
    let fits : c.args.self.now.room ≡ length i.room = rw (← c.self.view_is) refl in
    let filled = put_filled i.filled c.args.n c.reach-reach.result bytes i.room c.take_into.new.room c.take_into.ensures.room size (omega (arith, c.reach-reach.ensures, seen)) (omega (arith, c.reach-reach.ensures, c.requires.takes, fits)) in
    rw (filled.0, filled.1, ← c.self.view_is) refl
