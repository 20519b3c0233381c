use Rattle.std.proofs.Common.{◌≡◌, ◌∙◌, length, take, drop, ap, refl}
use Rattle.ws_promise.specs.Seen.{out_of}
use Rattle.ws_steps.specs.Bytes.{Slots, commit_all}
use Rattle.ws_byte.specs.Seen.{acts_with}
use Rattle.ws_byte.proofs.stream.ByteStream.commit_waiting.Goals as goal

pub returns-clause-row : goal.returns-clause-row
returns-clause-row c =
    λ p.
    let i = c.self.inside in
    let n = length i.stream.slots.requests in
    let s : Slots = record { stream = i.stream.slots; reader_kind = i.reader_kind; queue = i.queue.entries; auto = i.auto; descriptors = c.move_first.new.descriptors.items; request = i.request; astray = i.astray } in
    let others : c.move_first.new.descriptors.items ≡ drop n i.descriptors.items = rw (c.move_first.ensures.others, c.waiting_requests-waiting.ensures) refl in
    let ready : c.move_first.new.ready.items ≡ take n i.descriptors.items = rw (c.move_first.ensures.ready, c.waiting_requests-waiting.ensures, c.self.invariant.1) refl in
    rw (← c.self.view_is)
    (c.commit_all.ensures.row s p
    ∙ (ap (λ rs. commit_all c.args.me rs (acts_with s i.stream i.queue p c.args.fx.now)) ready
    ∙ ap (λ ds. commit_all c.args.me (take n i.descriptors.items) (record { slots = record s { descriptors = ds }; out = out_of p c.args.fx.now })) others))
