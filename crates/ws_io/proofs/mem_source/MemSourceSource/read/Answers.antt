use Rattle.std.proofs.Common.{rules, arith, ◌∙◌, ap, ◌≡◌, ℕ, min, length, drop, take}
use Rattle.std.proofs.lemmas.List.{length-drop, length-take, take_rest}
use Rattle.ws_io.specs.Memory.{held_at}
use Rattle.ws_io.proofs.MemoryCalls.{after_fields, read_fields, held_some}
use Rattle.ws_io.proofs.mem_source.MemSourceSource.read.Goals as goal

pub returns-clause-after : goal.returns-clause-after
returns-clause-after c =
    let i = c.self.inside in
    let held : c.number_at.result ≡ held_at c.self.inside.most.items c.self.inside.calls = search rules in
    let moves : c.min-count.result ≡ min (min (held_at c.self.inside.most.items c.self.inside.calls) (length c.args.room.now)) (length (drop c.self.inside.given c.self.inside.bytes.items)) =
    omega (arith, held, c.min-count.ensures, c.min-most.ensures, length-drop c.self.inside.given c.self.inside.bytes.items, length-take {A = ℕ}) in
    rw (← c.self.view_is)
    (after_fields i.bytes.items i.most.items i.fails.items i.given i.calls i.count i.ended _ c.min-count.result c.end_after-self-inside.result c.saturating_add-self-inside.result (search rules) moves (search rules) (search rules))

pub returns-clause-bytes : goal.returns-clause-bytes
returns-clause-bytes c =
    let i = c.self.inside in
    let held : c.number_at.result ≡ held_at c.self.inside.most.items c.self.inside.calls = search rules in
    let moves : c.min-count.result ≡ min (min (held_at c.self.inside.most.items c.self.inside.calls) (length c.args.room.now)) (length (drop c.self.inside.given c.self.inside.bytes.items)) =
    omega (arith, held, c.min-count.ensures, c.min-most.ensures, length-drop c.self.inside.given c.self.inside.bytes.items, length-take {A = ℕ}) in
    rw (← c.self.view_is)
    (read_fields i.bytes.items i.most.items i.given i.calls i.ended c.args.room.now c.copy_from_slice.new.self c.min-count.result c.end_after-self-inside.result moves (c.copy_from_slice.ensures.after ∙ (rw c.deref.ensures.value (ap (take c.min-count.result) (take_rest i.bytes.items i.given)))) (held_some i.most.items i.calls (omega arith) c.self.invariant.2) (search rules))
