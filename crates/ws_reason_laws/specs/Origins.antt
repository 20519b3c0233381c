-- Where a reason comes from in any realm: from a failure, through a transform stream, from a call that stored a TypeError in a byte stream, or, a
-- DataCloneError, from a port.
use Rattle.std.specs.Prelude.{◌+◌, ◌≡◌, Bool, true, false, ◌||◌, nat_lt, if◌then◌else◌, List, [], ◌∷◌, ◌++◌, length, Option, Some, Contains}
use Rattle.ws_value.specs.declared.ids.PromiseId.{PromiseId}
use Rattle.ws_value.specs.declared.ids.SignalId.{SignalId}
use Rattle.ws_value.specs.declared.ids.StreamId.{StreamId}
use Rattle.ws_value.specs.declared.value.Outcome.TheVariants.{Rejected}
use Rattle.ws_value.specs.declared.value.Plain.{Plain}
use Rattle.ws_steps.specs.declared.calls.Call.{Call}
use Rattle.ws_steps.specs.declared.calls.Call.TheVariants.{MakeTransform, Cancel, CancelBy, ReadInto, Finish, Terminate, Pipe}
use Rattle.ws_steps.specs.declared.calls.Reply.TheVariants.{Promise}
use Rattle.ws_steps.specs.declared.effects.Owner.{Owner}
use Rattle.ws_steps.specs.declared.effects.Owner.TheVariants.{Host, HalfOf, BranchOf, EndOf}
use Rattle.ws_steps.specs.declared.locks.Lock.{Lock}
use Rattle.ws_steps.specs.declared.locks.Lock.TheVariants.{Reader, ByobReader}
use Rattle.ws_steps.specs.declared.pipes.Prevent.{Prevent}
use Rattle.ws_steps.specs.declared.readable.ReadableState.TheVariants.{Errored}
use Rattle.ws_steps.specs.declared.transform.Kind.{Kind}
use Rattle.ws_steps.specs.declared.transform.Kind.TheVariants.{Identity}
use Rattle.ws_steps.specs.Cross as cross
use Rattle.ws_steps.specs.Effects.{type_error}
use Rattle.ws_steps.specs.Promises.{outcome_at}
use Rattle.ws_steps.specs.ReadableLooks as readable_looks
use Rattle.ws_steps.specs.Run.{Entry, Called, Worked, Heard, step, run, reply_to}
use Rattle.ws_steps.specs.Slots.{Slots, most_streams, empty, has_source, has_writable, readable_at, source_at, writable_at, lock_at}
use Rattle.ws_steps.specs.Writable.{is_closed, is_closing, is_erroring, is_errored}
use Rattle.ws_steps.specs.WritableLooks as writable_looks
use Rattle.ws_reason_laws.specs.Reasons.{NeedsTee, failures, erred_by}
use Rattle.ws_reason_laws.specs.Uncloned.{run_uncloned}

-- whether a stream performs the algorithms of a transform stream
abbrev pub is_half : Owner → Bool
is_half Host = false
is_half (HalfOf t) = true
is_half (BranchOf t half) = false
is_half (EndOf c) = false

-- a reason that comes to stream i, where that is the readable half of a transform stream: it becomes the error of the writable half
abbrev pub to_half : StreamId → Plain → Slots → List Plain
to_half i reason s = if is_half (readable_at i s).owner then reason ∷ [] else []

-- of a cancel by a reader
abbrev pub to_half_of : Plain → Slots → Option Lock → List Plain
to_half_of reason s (Some (Reader (Some i) closed)) = to_half i reason s
to_half_of reason s (Some (ByobReader (Some i) closed)) = to_half i reason s
to_half_of reason s _ = []

-- of a pipe onto a destination that is closing or closed, which cancels its source with a TypeError
abbrev pub by_pipe : StreamId → StreamId → Prevent → Slots → List Plain
by_pipe i j prevent s =
    if readable_looks.is_locked (source_at i s) then []
    else if writable_looks.is_locked (writable_at j s) then []
    else if prevent.cancel then []
    else if is_closing (writable_at j s) || is_closed (writable_at j s).state then to_half i type_error s
    else []

-- an identity may find that its readable half takes no chunk
abbrev pub by_kind : Kind → Slots → List Plain
by_kind Identity s = if nat_lt (length s.streams + 1) most_streams then type_error ∷ [] else []
by_kind _ s = []

-- the reason that a call brings through a transform stream to its writable half, that of a cancel of the readable half or a TypeError; and the
-- TypeError that it stores in a byte stream
abbrev pub through_of : Call → Slots → List Plain
through_of (Cancel i reason) s = if readable_looks.is_locked (source_at i s) then [] else to_half i reason s
through_of (CancelBy l reason) s = to_half_of reason s (lock_at l s)
through_of (Terminate i) s = to_half i type_error s
through_of (Pipe i j prevent signal) s = by_pipe i j prevent s
through_of (MakeTransform kind writable_mark readable_mark start) s = by_kind kind s
through_of (Finish i) s = erred_by (Finish i) s
through_of (ReadInto l room element least) s = erred_by (ReadInto l room element least) s
through_of _ s = []

-- those of a run, in their order
abbrev pub through : List Entry → Slots → List Plain
through [] s = []
through (Called c ∷ xs) s = through_of c s ++ through xs (step s (Called c))
through (Worked ∷ xs) s = through xs (step s Worked)
through (Heard ∷ xs) s = through xs (step s Heard)

-- a DataCloneError comes of the end of a port, where a value or a reason that can't be cloned was given to its stream
abbrev pub by_ports : Bool → List Plain
by_ports given = if given then cross.data_clone ∷ [] else []

-- the failures of a run, what its calls brought besides, and what its ports bring
abbrev pub origins : List Entry → List Plain
origins entries = failures entries ++ (through entries empty ++ by_ports (run_uncloned entries empty))

-- two streams that are there and unlocked
pub record AreUnlocked (i j : StreamId) (s : Slots) : Type 0 where
  pub source : has_source i s ≡ true
  pub dest : has_writable j s ≡ true
  pub source_unlocked : readable_looks.is_locked (source_at i s) ≡ false
  pub dest_unlocked : writable_looks.is_locked (writable_at j s) ≡ false

-- a writable stream that is neither closing nor closed
pub record IsOpen (j : StreamId) (s : Slots) : Type 0 where
  pub closing : is_closing (writable_at j s) ≡ false
  pub closed : is_closed (writable_at j s).state ≡ false

abbrev pub EachReasonHasAnOrigin : Type 0
EachReasonHasAnOrigin =
    (opening xs : List Entry) (i j : StreamId) (prevent : Prevent) (signal : Option SignalId) (q : PromiseId) (r : Plain)
    → let s : Slots = run opening empty in let entries : List Entry = opening ++ Called (Pipe i j prevent signal) ∷ xs in
    AreUnlocked i j s → reply_to (Pipe i j prevent signal) s ≡ Promise q → (r ≡ type_error → IsOpen j s) → NeedsTee r entries
    → outcome_at (run entries empty).promises q ≡ Some (Rejected r) → Contains (origins entries) r

pub record EachStoredErrorHasAnOrigin : Type 0 where
  pub readable : (entries : List Entry) (i : StreamId) → let s : Slots = run entries empty in
      NeedsTee (source_at i s).stored_error entries → (source_at i s).state ≡ Errored → Contains (origins entries) (source_at i s).stored_error
  pub writable : (entries : List Entry) (i : StreamId) → let s : Slots = run entries empty in
      NeedsTee (writable_at i s).stored_error entries → (is_erroring (writable_at i s).state || is_errored (writable_at i s).state) ≡ true
      → Contains (origins entries) (writable_at i s).stored_error
