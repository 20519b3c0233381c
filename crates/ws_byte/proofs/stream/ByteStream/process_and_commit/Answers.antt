use Rattle.std.proofs.Common.{◌∙◌, ap}
use Rattle.ws_descriptors.specs.Seen.{before}
use Rattle.ws_steps.specs.Descriptors.{process_descriptors}
use Rattle.ws_promise.specs.Seen.{out_of}
use Rattle.ws_steps.specs.Bytes.{Slots, Acts}
use Rattle.ws_byte.proofs.Serving.{committed}
use Rattle.ws_byte.proofs.stream.ByteStream.process_and_commit.Goals as goal

pub returns-clause-row : goal.returns-clause-row
returns-clause-row c =
    λ p.
    let i = c.self.inside in
    let x = process_descriptors i.descriptors.items i.queue.entries in
    let s : Slots = record { stream = i.stream.slots; reader_kind = i.reader_kind; queue = i.queue.entries; auto = i.auto; descriptors = c.process.new.descriptors.items; request = i.request; astray = i.astray } in
    let a : Acts = record { slots = record s { descriptors = i.descriptors.items }; out = out_of p c.args.fx.now } in
    rw (← c.self.view_is)
    (committed c.args.me a _ c.process.new.ready.items c.process.new.descriptors.items c.process.new.queue.entries
    (c.process.ensures.processed ∙ ap (λ rs. before rs x) c.self.invariant.1)
    (c.commit_all.ensures.row s p))
