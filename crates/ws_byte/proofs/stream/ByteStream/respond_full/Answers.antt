use Rattle.std.proofs.Common.{rules, ◌≡◌, ◌+◌, ◌-◌, ◌%◌, ◌++◌, ◌∙◌, ℕ, length, take, drop, ap, refl}
use Rattle.ws_promise.specs.Seen.{out_of}
use Rattle.ws_steps.specs.Bytes.{Slots, Acts, commit_all, respond_full}
use Rattle.ws_steps.specs.Descriptors.{process_descriptors}
use Rattle.ws_descriptors.specs.Seen.{before}
use Rattle.ws_byte.specs.Seen.{acts_of, with_first}
use Rattle.ws_byte.proofs.Responding.{part_came, full_committed}
use Rattle.ws_byte.proofs.stream.ByteStream.respond_full.Goals as goal

pub overflow_sub-whole : goal.overflow_sub-whole
overflow_sub-whole c =
    let came = part_came c.args.first (length c.args.bytes) c.requires.fine c.requires.full in
    rw (c.part_with.ensures, c.len-2.ensures, c.len.ensures) came

pub returns-clause-row : goal.returns-clause-row
returns-clause-row c =
    λ p.
    let i = c.self.inside in
    let first = c.args.first in
    let s : Slots = record { stream = i.stream.slots; reader_kind = i.reader_kind; queue = i.queue.entries; auto = i.auto; descriptors = c.process.new.descriptors.items; request = i.request; astray = i.astray } in
    let a : Acts = record { slots = record s { descriptors = i.descriptors.items }; out = out_of p c.args.fx.now } in
    let came = part_came first (length c.args.bytes) c.requires.fine c.requires.full in
    let whole : ℕ = c.len.result - c.part_with.result in
    let is : whole ≡ length c.args.bytes - ((length first.filled + length c.args.bytes) % first.element) = rw (c.part_with.ensures, c.len-2.ensures, c.len.ensures) refl in
    let part : c.advance.new.self ≡ drop whole c.args.bytes = search rules in
    let full : c.into_chunk.result ≡ first.filled ++ take whole c.args.bytes = search rules in
    let processed = c.process.ensures.processed
    ∙ (ap (λ rs. before rs (process_descriptors i.descriptors.items c.push.new.self.entries)) c.self.invariant.1
    ∙ ap (λ q. process_descriptors i.descriptors.items q.entries) c.push.ensures) in
    let d = record first { filled = first.filled ++ c.args.bytes } in
    full_committed c.args.me a _ first c.args.bytes c.advance.new.self c.into_chunk.result whole c.process.new.ready.items c.process.new.descriptors.items c.process.new.queue.entries
    came is part full processed
    (c.commit_all.ensures.row s p ∙ ap (commit_all c.args.me c.process.new.ready.items) (c.commit.ensures.row s p))
    ∙ ap (λ v. respond_full c.args.me d (with_first first (acts_of v p c.args.fx.now))) c.self.view_is
