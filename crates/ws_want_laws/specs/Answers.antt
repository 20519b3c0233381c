-- When an algorithm of a host's transformer is at work: from the call of it until the host settles that call, and from the flush on. And what the host
-- enqueues else.
use Rattle.std.specs.Prelude.{Bool, false, ◌&&◌, ◌||◌, is_some, if◌then◌else◌, List, [], ◌∷◌, ◌++◌, Option}
use Rattle.ws_value.specs.declared.ids.PromiseId.{PromiseId}
use Rattle.ws_value.specs.declared.ids.StreamId.{StreamId}
use Rattle.ws_value.specs.declared.value.Value.{Value}
use Rattle.ws_steps.specs.declared.calls.HostCall.{HostCall}
use Rattle.ws_steps.specs.declared.calls.HostCall.TheVariants.{Start, Transform, Flush, CancelTransform}
use Rattle.ws_steps.specs.Histories.{is_same}
use Rattle.ws_steps.specs.ReadableHistory.{accepted_in_step}
use Rattle.ws_steps.specs.Run.{Entry, step}
use Rattle.ws_steps.specs.Slots.{Slots, empty}
use Rattle.ws_end_laws.specs.hosts.HostCalls.{step_called}

-- whether a host call is to start the transform stream with readable half r
abbrev pub is_start_of : StreamId → HostCall → Bool
is_start_of r (Start j) = is_same r j
is_start_of r _ = false

-- whether it is to transform a chunk for that transform stream
abbrev pub is_transform_of : StreamId → HostCall → Bool
is_transform_of r (Transform j v) = is_same r j
is_transform_of r _ = false

-- whether it is to flush it
abbrev pub is_flush_of : StreamId → HostCall → Bool
is_flush_of r (Flush j) = is_same r j
is_flush_of r _ = false

-- whether it is to cancel it
abbrev pub is_cancel_of : StreamId → HostCall → Bool
is_cancel_of r (CancelTransform j reason) = is_same r j
is_cancel_of r _ = false

-- whether one of the host calls so far is so, and its promise isn't settled
abbrev pub has_open : (HostCall → Bool) → List HostCall → List (Option PromiseId) → Bool
has_open is_so [] hosts = false
has_open is_so (call ∷ calls) [] = false
has_open is_so (call ∷ calls) (host ∷ hosts) = (is_so call && is_some host) || has_open is_so calls hosts

-- whether one is to flush it
abbrev pub has_flushed : StreamId → List HostCall → Bool
has_flushed r [] = false
has_flushed r (call ∷ calls) = is_flush_of r call || has_flushed r calls

-- the host was called to start it or to transform a chunk and hasn't settled that call, or it was called to flush it
abbrev pub is_answering : StreamId → List HostCall → Slots → Bool
is_answering r calls s = has_open (is_start_of r) calls s.hosts || (has_open (is_transform_of r) calls s.hosts || has_flushed r calls)

-- or it was called to cancel it, and hasn't settled that call
abbrev pub is_at_work : StreamId → List HostCall → Slots → Bool
is_at_work r calls s = is_answering r calls s || has_open (is_cancel_of r) calls s.hosts

-- after these host calls, the value of a step's call that enqueues into readable half r, where it is answered Done and no algorithm of the
-- transformer is at work
abbrev pub step_unasked : StreamId → List HostCall → Slots → Entry → List Value
step_unasked r calls s x = if is_at_work r calls s then [] else accepted_in_step r s x

-- in a run that goes on after these host calls
abbrev pub unasked_since : StreamId → List HostCall → List Entry → Slots → List Value
unasked_since r calls [] s = []
unasked_since r calls (x ∷ xs) s = step_unasked r calls s x ++ unasked_since r (calls ++ step_called s x) xs (step s x)

-- in a run from the empty realm
abbrev pub unasked : StreamId → List Entry → List Value
unasked r entries = unasked_since r [] entries empty
