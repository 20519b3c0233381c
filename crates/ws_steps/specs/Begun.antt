-- What a call answers, leaves and causes, and the checks with which most of them begin.
use Rattle.std.specs.Prelude.{if◌then◌else◌, List, [], ◌∷◌, Err}
use Rattle.ws_value.specs.declared.fault.Fault.{Fault}
use Rattle.ws_value.specs.declared.fault.Fault.TheVariants.{TypeError as TypeErrorFault}
use Rattle.ws_value.specs.declared.ids.PromiseId.{PromiseId}
use Rattle.ws_value.specs.declared.ids.StreamId.{StreamId}
use Rattle.ws_value.specs.declared.value.Plain.TheVariants.{Fault as FaultReason}
use Rattle.ws_steps.specs.declared.calls.Reply.{Reply}
use Rattle.ws_steps.specs.declared.calls.Reply.TheVariants.{Done as ReplyDone, Promise, Throws}
use Rattle.ws_steps.specs.declared.calls.Thrown.TheVariants.{TypeError, DataClone, Unsupported}
use Rattle.ws_steps.specs.declared.effects.Effect.{Effect}
use Rattle.ws_steps.specs.declared.effects.Effect.TheVariants.{Settle as SettlePromise}
use Rattle.ws_steps.specs.Promises.{next_id, fresh}
use Rattle.ws_steps.specs.ReadableLooks as readable_looks
use Rattle.ws_steps.specs.WritableLooks as writable_looks
use Rattle.ws_steps.specs.Slots.{Slots, Done, nothing, causes, with_promises, has_readable, has_byte, has_source, has_writable, source_at, writable_at}

-- a call's reply, and what it leaves and causes
pub record Begun : Type 0 where
  pub reply : Reply
  pub done : Done

-- a call that changes nothing
abbrev pub replies : Reply → Slots → Begun
replies reply s = record { reply = reply; done = nothing s }

abbrev pub unsupported : Slots → Begun
unsupported s = replies (Throws Unsupported) s

abbrev pub throws_type_error : Slots → Begun
throws_type_error s = replies (Throws TypeError) s

abbrev pub throws_data_clone : Slots → Begun
throws_data_clone s = replies (Throws DataClone) s

-- what answers so
abbrev pub begun : Reply → Done → Begun
begun reply d = record { reply = reply; done = d }

-- a call that answers a new promise, and causes this
abbrev pub promising : (PromiseId → List Effect) → Slots → Begun
promising effects s =
    let p = next_id s.promises in
    begun (Promise p) (causes (effects p) (with_promises (fresh s.promises) s))

-- a promise that is rejected with this fault, and one that is rejected with a TypeError
abbrev pub rejected_with : Fault → Slots → Begun
rejected_with fault s = promising (λ p. SettlePromise p (Err (FaultReason fault)) ∷ []) s

abbrev pub rejected : Slots → Begun
rejected s = rejected_with TypeErrorFault s

-- a call on a readable stream with a default controller, on one with a byte controller, on one with any controller, or on a writable
-- stream, where there is such a stream of this number
abbrev pub for_readable : StreamId → (Slots → Begun) → Slots → Begun
for_readable i operation s = if has_readable i s then operation s else unsupported s

abbrev pub for_byte : StreamId → (Slots → Begun) → Slots → Begun
for_byte i operation s = if has_byte i s then operation s else unsupported s

abbrev pub for_source : StreamId → (Slots → Begun) → Slots → Begun
for_source i operation s = if has_source i s then operation s else unsupported s

abbrev pub for_writable : StreamId → (Slots → Begun) → Slots → Begun
for_writable i operation s = if has_writable i s then operation s else unsupported s

-- a call that changes nothing but by its effects, and is done
abbrev pub does : List Effect → Slots → Begun
does effects s = begun ReplyDone (causes effects s)

-- what is done with a stream that isn't locked, and what is answered of one that is
abbrev pub unlocked_readable : StreamId → (Slots → Begun) → (StreamId → Slots → Begun) → Slots → Begun
unlocked_readable i locked free s =
    for_source i (λ s. if readable_looks.is_locked (source_at i s) then locked s else free i s) s

abbrev pub unlocked_writable : StreamId → (Slots → Begun) → (StreamId → Slots → Begun) → Slots → Begun
unlocked_writable i locked free s =
    for_writable i (λ s. if writable_looks.is_locked (writable_at i s) then locked s else free i s) s
