-- Which writes ended well.
use Rattle.std.specs.Prelude.{true, ◌≡◌, ◌⊎◌, ◌&&◌, false, not, None, All, ◌++◌, List, length, Some, slice_get}
use Rattle.ws_value.specs.declared.ids.PipeId.{PipeId}
use Rattle.ws_value.specs.declared.ids.PromiseId.{PromiseId}
use Rattle.ws_value.specs.declared.ids.StreamId.{StreamId}
use Rattle.ws_value.specs.declared.value.Outcome.TheVariants.{Fulfilled, Pending}
use Rattle.ws_value.specs.declared.value.Plain.{Plain}
use Rattle.ws_value.specs.declared.value.Plain.TheVariants.{Undefined}
use Rattle.ws_steps.specs.Laws.{AllFulfilled}
use Rattle.ws_steps.specs.Pipes as pipe
use Rattle.ws_steps.specs.Promises.{Table, outcome_at}
use Rattle.ws_steps.specs.Run.{Entry, run}
use Rattle.ws_steps.specs.Slots.{Slots, empty, pipe_at, writable_at}
use Rattle.ws_steps.specs.Turns.{Moment}
use Rattle.ws_steps.specs.Writable.{is_closing, is_writable}
use Rattle.ws_pipe_laws.specs.pipes.PipeWrites.{AllMoments, leaves}
use Rattle.ws_steps.specs.WritableHistory.{run_promised}
use Rattle.ws_pipe_laws.specs.pipes.PipeHistory.{is_live, run_moments, run_through, promises_made}
use Rattle.ws_end_laws.specs.wrote.WroteLaws.{IsPassedOn}
use Rattle.ws_end_laws.specs.ends.PassedAll.{is_failing}

-- the promise is pending, or fulfilled with undefined
abbrev pub IsUnrejected : Table → PromiseId → Type 0
IsUnrejected t d = (outcome_at t d ≡ Some Pending) ⊎ (outcome_at t d ≡ Some (Fulfilled Undefined))

abbrev pub NoneIsRejectedBeforeAFailure : Type 0
NoneIsRejectedBeforeAFailure =
    (entries : List Entry) (i : StreamId) → let s : Slots = run entries empty in
    is_failing (writable_at i s).state ≡ false → All (IsUnrejected s.promises) (run_promised i entries empty)

abbrev pub EachWriteBeforeAFailureSucceeded : Type 0
EachWriteBeforeAFailureSucceeded =
    (entries : List Entry) (p : PipeId) (x : pipe.Slots) → let s : Slots = run entries empty in
    slice_get s.pipes p.0 ≡ Some x → is_live x.phase ≡ false → is_failing (writable_at x.dest s).state ≡ false
    → AllFulfilled s.promises (promises_made p (run_moments entries empty))

-- the promise is fulfilled after the first entries
abbrev pub EachWriteOfAnUnfailingPipeSucceeded : Type 0
EachWriteOfAnUnfailingPipeSucceeded =
    (entries more : List Entry) (p : PipeId) (x : pipe.Slots) (v : Plain) → let s : Slots = run entries empty in
    slice_get s.pipes p.0 ≡ Some x → outcome_at s.promises x.promise ≡ Some (Fulfilled v) → is_failing (writable_at x.dest s).state ≡ false
    → AllFulfilled (run (entries ++ more) empty).promises (promises_made p (run_moments (entries ++ more) empty))

abbrev pub EachPassHasAPromise : Type 0
EachPassHasAPromise = (entries : List Entry) (p : PipeId) → length (promises_made p (run_moments entries empty)) ≡ length (run_through p entries empty).passed

-- where pipe p begins its action at this moment, or ends without one, its destination is neither erroring nor errored
abbrev pub FindsItUnfailing : PipeId → Moment → Type 0
FindsItUnfailing p m =
    is_live (pipe_at p m.found).phase ≡ true → is_live (pipe_at p (leaves m)).phase ≡ false → is_failing (writable_at (pipe_at p m.found).dest m.found).state ≡ false

abbrev pub EachWriteOfAPipeThatFoundNoFailureSucceeded : Type 0
EachWriteOfAPipeThatFoundNoFailureSucceeded =
    (entries : List Entry) (p : PipeId) (x : pipe.Slots) → let s : Slots = run entries empty in
    slice_get s.pipes p.0 ≡ Some x → is_live x.phase ≡ false → AllMoments (FindsItUnfailing p) (run_moments entries empty)
    → AllFulfilled s.promises (promises_made p (run_moments entries empty))

abbrev pub EachFulfilledPipeWroteAllItRead : Type 0
EachFulfilledPipeWroteAllItRead =
    (entries : List Entry) (p : PipeId) (x : pipe.Slots) (v : Plain) → let s : Slots = run entries empty in
    slice_get s.pipes p.0 ≡ Some x → outcome_at s.promises x.promise ≡ Some (Fulfilled v)
    → (x.prevent.close ≡ false) ⊎ (AllMoments (FindsItUnfailing p) (run_moments entries empty) ⊎ (is_failing (writable_at x.dest s).state ≡ false))
    → IsPassedOn (run_through p entries empty) × AllFulfilled s.promises (promises_made p (run_moments entries empty))

abbrev pub EachUnfailingPipeCloses : Type 0
EachUnfailingPipeCloses =
    (entries : List Entry) (p : PipeId) (x : pipe.Slots) → let s : Slots = run entries empty in
    slice_get s.pipes p.0 ≡ Some x → is_live x.phase ≡ false → x.prevent.close ≡ false → x.error ≡ None
    → is_writable (writable_at x.dest s).state && not (is_closing (writable_at x.dest s)) ≡ false
