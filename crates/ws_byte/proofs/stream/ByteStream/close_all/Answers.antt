use Rattle.std.proofs.Common.{◌≡◌, ◌∙◌, false, ap, sym}
use Rattle.ws_promise.specs.Seen.{out_of}
use Rattle.ws_steps.specs.Bytes.{Slots, Acts, has_byob_reader}
use Rattle.ws_byte.proofs.Closing.{closed_into_plain}
use Rattle.ws_byte.proofs.stream.ByteStream.close_all.Goals as goal

pub returns-else-has_byob_reader-clause-row : goal.returns-else-has_byob_reader-clause-row
returns-else-has_byob_reader-clause-row c =
    let i = c.self.inside in
    let s : Slots = record { stream = i.stream.slots; reader_kind = i.reader_kind; queue = i.queue.entries; auto = i.auto; descriptors = i.descriptors.items; request = i.request; astray = i.astray } in
    let a : Acts = record { slots = s; out = out_of c.args.p.now c.args.fx.now } in
    let plain : has_byob_reader s ≡ false = rw (← c.self.view_is) at (sym c.has_byob_reader.ensures ∙ c.if-has_byob_reader.false) in
    rw (← c.self.view_is)
    (ap (λ b. record { slots = record s { stream = b.slots }; out = b.out }) c.stream_close.ensures.row ∙ sym (closed_into_plain c.args.me a plain))
