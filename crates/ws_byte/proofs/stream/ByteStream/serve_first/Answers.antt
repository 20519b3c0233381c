use Rattle.std.proofs.Common.{◌≡◌, [], ap, sym, ◌∙◌, refl}
use Rattle.ws_value.specs.declared.value.Value.TheVariants.{Bytes}
use Rattle.ws_steps.specs.declared.effects.Effect.TheVariants.{ChunkSteps}
use Rattle.ws_promise.specs.Seen.{out_of}
use Rattle.ws_steps.specs.Bytes.{Slots, Acts, causing, call_pull_if_needed}
use Rattle.ws_queue.specs.Seen.{after_entry}
use Rattle.ws_queue.proofs.Bytes.{entry_split}
use Rattle.ws_byte.specs.Seen.{acts_of}
use Rattle.ws_byte.proofs.Serving.{none_served, empty_queue, taken_split, served_on}
use Rattle.ws_byte.proofs.stream.ByteStream.serve_first.Goals as goal

pub returns-then-is_empty-clause-row : goal.returns-then-is_empty-clause-row
returns-then-is_empty-clause-row c =
    λ p.
    let none : c.args.self.now.slots.queue ≡ [] = rw (← c.self.view_is) (empty_queue c.self.inside.queue.entries (sym c.is_empty.ensures ∙ c.if-is_empty.true)) in
    sym (none_served c.args.me c.args.self.now.slots.stream.requests (acts_of c.args.self.now p c.args.fx.now) none)

pub returns-in-Some-pop-clause-row : goal.returns-in-Some-pop-clause-row
returns-in-Some-pop-clause-row c =
    λ p.
    let i = c.self.inside in
    let taken = taken_split i.stream.slots i.stream.slots.requests c.in-Some.request (sym c.in-Some.is ∙ c.pop_request.ensures.request) in
    let queue = entry_split i.queue.entries c.in-Some-pop.first (sym c.in-Some-pop.is ∙ c.pop.ensures.entry) in
    let requests_now = c.call_pull_if_needed.ensures.requests ∙ (rw (c.pop_request.ensures.slots, taken.2) refl) in
    let s : Slots = record { stream = i.stream.slots; reader_kind = i.reader_kind; queue = i.queue.entries; auto = i.auto; descriptors = i.descriptors.items; request = i.request; astray = i.astray } in
    let a : Acts = record { slots = s; out = out_of p c.args.fx.now } in
    rw (← c.self.view_is)
    (served_on c.args.me c.in-Some.request taken.0 c.in-Some-pop.first (after_entry i.queue.entries) a _
    taken.1 queue (rw (← c.self.view_is) at c.requires.open)
    (rw c.push.ensures (ap (causing (ChunkSteps c.args.me c.in-Some.request (Bytes c.in-Some-pop.first)))
    (c.call_pull_if_needed.ensures.row p ∙ ap (call_pull_if_needed c.args.me) (rw (c.pop_request.ensures.slots, c.pop.ensures.rest, taken.2) refl))))
    requests_now)
