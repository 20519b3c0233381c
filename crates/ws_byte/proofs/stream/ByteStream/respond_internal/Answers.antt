use Rattle.std.proofs.Common.{◌≡◌, ◌∙◌, ◌++◌, true, false, None, Some, ap, sym, refl}
use Rattle.ws_steps.specs.Bytes.{call_pull_if_needed, is_closed, respond_readable}
use Rattle.ws_steps.specs.Descriptors.{rest_of}
use Rattle.ws_byte.specs.Seen.{acts_of, first_of, with_first}
use Rattle.ws_byte.proofs.Responding.{responded_closed, responded_readable}
use Rattle.ws_byte.proofs.stream.ByteStream.respond_internal.Goals as goal

pub returns-then-is_closed-clause-row : goal.returns-then-is_closed-clause-row
returns-then-is_closed-clause-row c =
    λ p.
    let now = c.args.self.now in
    let taken : c.take_first.new.self ≡ record now { slots = record now.slots { request = None; descriptors = rest_of now.slots.descriptors } } = rw (c.take_first.ensures.rest, c.invalidate_request.ensures) refl in
    let first : Some c.in-Some.first ≡ first_of now.slots.descriptors = sym c.in-Some.is ∙ (c.take_first.ensures.first ∙ (rw c.invalidate_request.ensures refl)) in
    let closed : is_closed now.slots.stream.state ≡ true = (rw taken at (sym c.is_closed.ensures)) ∙ c.if-is_closed.true in
    responded_closed c.args.me c.args.bytes (acts_of now p c.args.fx.now) _ c.in-Some.first first closed (rw taken at (c.respond_closed.ensures.row p))

pub returns-else-is_closed-clause-row : goal.returns-else-is_closed-clause-row
returns-else-is_closed-clause-row c =
    λ p.
    let now = c.args.self.now in
    let taken : c.take_first.new.self ≡ record now { slots = record now.slots { request = None; descriptors = rest_of now.slots.descriptors } } = rw (c.take_first.ensures.rest, c.invalidate_request.ensures) refl in
    let first : Some c.in-Some.first ≡ first_of now.slots.descriptors = sym c.in-Some.is ∙ (c.take_first.ensures.first ∙ (rw c.invalidate_request.ensures refl)) in
    let closed : is_closed now.slots.stream.state ≡ false = (rw taken at (sym c.is_closed.ensures)) ∙ c.if-is_closed.false in
    let full = record c.in-Some.first { filled = c.in-Some.first.filled ++ c.args.bytes } in
    let row = c.respond_readable.ensures.row p ∙ ap (λ v. respond_readable c.args.me full (with_first c.in-Some.first (acts_of v p c.args.fx.now))) taken in
    responded_readable c.args.me c.args.bytes (acts_of now p c.args.fx.now) _ c.in-Some.first first closed
    (c.call_pull_if_needed.ensures.row p ∙ ap (call_pull_if_needed c.args.me) row)
