-- A host's answer that what it was asked is done.
use Rattle.std.proofs.Common.{◌≡◌, ◌∙◌, [], Some, None, Ok, refl, ap}
use Rattle.std.specs.Prelude.{slice_set}
use Rattle.ws_value.specs.declared.ids.HostId.{HostId}
use Rattle.ws_value.specs.declared.ids.PromiseId.{PromiseId}
use Rattle.ws_value.specs.declared.value.Plain.TheVariants.{Undefined}
use Rattle.ws_steps.specs.declared.calls.Answer.TheVariants as answer
use Rattle.ws_steps.specs.declared.calls.Call.TheVariants as call
use Rattle.ws_steps.specs.declared.calls.Reply.TheVariants as reply
use Rattle.ws_steps.specs.declared.calls.Thrown.TheVariants as thrown
use Rattle.ws_steps.specs.declared.effects.Effect.TheVariants.{Settle}
use Rattle.ws_steps.specs.Calls.{begin}
use Rattle.ws_steps.specs.Promises.{settle}
use Rattle.ws_steps.specs.Run.{after_call, older, reply_to}
use Rattle.ws_steps.specs.Slots.{Slots, host_at, with_promises}
use Rattle.ws_steps.specs.Turns.{row}
use Rattle.ws_room_laws.proofs.Turns.{performed_next, performed_none}

-- its promise is fulfilled with undefined
pub done-reply : (h : HostId) (p : PromiseId) (s : Slots) → host_at h s ≡ Some p → reply_to (call.Settle h answer.Ok) s ≡ reply.Done
unfolding begin
done-reply h p s there = rw (there, reply_to) refl

pub done-slots : (h : HostId) (p : PromiseId) (s : Slots) → host_at h s ≡ Some p
    → after_call (call.Settle h answer.Ok) s ≡ older (with_promises (settle p (Ok Undefined) s.promises) (record s { hosts = slice_set s.hosts h.0 None }))
unfolding begin row
done-slots h p s there =
    let found : Slots = record s { hosts = slice_set s.hosts h.0 None } in
    rw there (ap older (performed_next found (Settle p (Ok Undefined)) [] ∙ performed_none (with_promises (settle p (Ok Undefined) s.promises) found)))

-- where it is settled already, or there is no such call of the host, nothing changes
pub none-reply : (h : HostId) (s : Slots) → host_at h s ≡ None → reply_to (call.Settle h answer.Ok) s ≡ reply.Throws thrown.Unsupported
unfolding begin
none-reply h s there = rw (there, reply_to) refl

pub none-slots : (h : HostId) (s : Slots) → host_at h s ≡ None → after_call (call.Settle h answer.Ok) s ≡ older s
unfolding begin
none-slots h s there = rw there (ap older (performed_none s))
