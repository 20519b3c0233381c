-- Calls that bring nothing, neither through a transform stream nor into a byte stream, and runs of them: there each origin is a failure.
use Rattle.std.proofs.Common.{◌≡◌, Bool, true, false, ◌||◌, List, [], ◌∷◌, ◌++◌, Option, Contains, refl, arith}
use Rattle.ws_value.specs.declared.ids.SignalId.{SignalId}
use Rattle.ws_value.specs.declared.ids.StreamId.{StreamId}
use Rattle.ws_value.specs.declared.value.Plain.{Plain}
use Rattle.ws_steps.specs.declared.calls.Call.{Call}
use Rattle.ws_steps.specs.declared.calls.Call.TheVariants.{MakeTransform, Cancel, CancelBy, ReadInto, Finish, Terminate, Pipe}
use Rattle.ws_steps.specs.declared.pipes.Prevent.{Prevent}
use Rattle.ws_steps.specs.declared.transform.Kind.{Kind}
use Rattle.ws_steps.specs.declared.transform.Kind.TheVariants.{Identity}
use Rattle.ws_steps.specs.Run.{Entry, Called, Worked, Heard, run}
use Rattle.ws_steps.specs.Slots.{Slots, empty, byte_at, writable_at}
use Rattle.ws_steps.specs.Descriptors.{has_part}
use Rattle.ws_steps.specs.Writable.{is_closed, is_closing}
use Rattle.ws_reason_laws.specs.Origins.{through_of, through, origins}
use Rattle.ws_reason_laws.specs.Reasons.{failures, IsFree, NeedsPort}
use Rattle.ws_reason_laws.proofs.Among.{is_among, among_contained}
use Rattle.ws_reason_laws.proofs.Brought.{through-append}
use Rattle.ws_reason_laws.proofs.Failed.{origin-either}

-- a call that brings nothing whatever it finds: no cancel, no read into a room, no close, no pipe, and none that terminates a transform stream or
-- makes an identity

abbrev is_identity : Kind → Bool
is_identity Identity = true
is_identity _ = false

abbrev pub may_bring : Call → Bool
may_bring (Cancel i reason) = true
may_bring (CancelBy l reason) = true
may_bring (ReadInto l room element least) = true
may_bring (Finish i) = true
may_bring (Terminate i) = true
may_bring (Pipe i j prevent signal) = true
may_bring (MakeTransform kind writable_mark readable_mark start) = is_identity kind
may_bring _ = false

pub brings-none : (c : Call) (s : Slots) → may_bring c ≡ false → through_of c s ≡ []
brings-none c s n = grind (arith, n)

-- a close brings nothing where the first descriptor, if the stream is a byte stream, has no part of an element
pub finish-none : (i : StreamId) (s : Slots) → has_part (byte_at i s).descriptors ≡ false → through_of (Finish i) s ≡ []
finish-none i s n = grind (arith, n)

-- a pipe onto a destination that is neither closing nor closed brings nothing
pub open-none : (i j : StreamId) (prevent : Prevent) (signal : Option SignalId) (s : Slots) → is_closing (writable_at j s) ≡ false → is_closed (writable_at j s).state ≡ false
    → through_of (Pipe i j prevent signal) s ≡ []
open-none i j prevent signal s e f = grind (arith, e, f)

pub free-none : (i j : StreamId) (prevent : Prevent) (signal : Option SignalId) (s : Slots) → IsFree i j s → through_of (Pipe i j prevent signal) s ≡ []
free-none i j prevent signal s f = open-none i j prevent signal s f.not_closing f.not_closed

-- an entry that brings nothing
abbrev pub BringsNone : Slots → Entry → Type 0
BringsNone s (Called c) = through_of c s ≡ []
BringsNone s _ = Unit {0}

entry-none : (s : Slots) (x : Entry) → BringsNone s x → through (x ∷ []) s ≡ []
entry-none s (Called c) n = rw n refl
entry-none s Worked n = refl
entry-none s Heard n = refl

-- one more of them
pub through-snoc : (xs : List Entry) (x : Entry) (s : Slots) → through xs s ≡ [] → BringsNone (run xs s) x → through (xs ++ x ∷ []) s ≡ []
through-snoc xs x s h n = let e = entry-none (run xs s) x n in rw (through-append xs (x ∷ []) s, h) e

-- where nothing came through, nor from a port, each origin is a failure
pub origin-failed : (entries : List Entry) (r : Plain) → through entries empty ≡ [] → NeedsPort r entries → Contains (origins entries) r → Contains (failures entries) r
origin-failed entries r n need c =
    let o = origin-either entries r need c in among_contained r (failures entries) (first (is_among r (failures entries)) (rw n at o))
  where
    first : (b : Bool) → (b || false) ≡ true → b ≡ true
    first true e = refl
    first false e = e
