-- Laws of what pipes wrote to their destinations.
use Rattle.std.specs.Prelude.{◌≡◌, ◌⊎◌, true, false, List, [], ◌∷◌, ◌++◌, None}
use Rattle.ws_value.specs.declared.ids.PipeId.{PipeId}
use Rattle.ws_value.specs.declared.ids.StreamId.{StreamId}
use Rattle.ws_steps.specs.declared.pipes.Phase.TheVariants.{Waiting}
use Rattle.ws_steps.specs.Histories.{along}
use Rattle.ws_steps.specs.Laws.{IsPrefixOf}
use Rattle.ws_steps.specs.Pipes as pipe
use Rattle.ws_steps.specs.Readable.{is_readable}
use Rattle.ws_steps.specs.Run.{Entry, run}
use Rattle.ws_steps.specs.Slots.{Slots, empty, ends_at, pipe_at, source_at, writable_at}
use Rattle.ws_steps.specs.Turns.{Moment}
use Rattle.ws_steps.specs.Writable as writable
use Rattle.ws_steps.specs.WritableHistory.{Writes, todo, step_writes, run_writes}
use Rattle.ws_pipe_laws.specs.pipes.PipeHistory.{has_closed, is_live, is_over, Through, nothing_through, through_then, effect_through, run_course, step_through, run_through, step_moments, run_moments}
use Rattle.ws_pipe_laws.specs.pipes.PipeMoves.{writes_first}
use Rattle.ws_pipe_laws.specs.pipes.PipeReads.{held_values, appended_by}
use Rattle.ws_pipe_laws.specs.pipes.PipeWrites.{AllMoments, AllSince, leaves, BeginsToAct}

abbrev pub EachDestinationIsItsPipes : Type 0
EachDestinationIsItsPipes =
    (entries : List Entry) (x : Entry) (p : PipeId)
    → let s : Slots = run entries empty in
    let i : StreamId = (pipe_at p s).dest in
    is_over (pipe_at p s).phase ≡ false → (step_writes i s x).written ≡ appended_by (writable_at i s) (step_through p s x).passed

-- what was written since to the destination, which was w and is z, by a pipe that was x, and what it acted on
pub record IsAFront (h : Writes) (through : Through) (x : pipe.Slots) (w z : writable.Slots) : Type 0 where
  pub written : IsPrefixOf h.written through.passed
  pub whole : writable.write_refusal z ≡ None → h.written ≡ through.passed
  pub acted : IsPrefixOf h.acted (todo w.queue ++ (held_values x.held ++ through.read))

abbrev pub EachPipeWroteAFront : Type 0
EachPipeWroteAFront =
    (before after : List Entry) (last : Entry) (p : PipeId)
    → let s : Slots = run before empty in
    let x : pipe.Slots = pipe_at p s in
    let entries : List Entry = after ++ last ∷ [] in
    is_live x.phase ≡ true → is_over (pipe_at p (run after s)).phase ≡ false
    → IsAFront (run_writes x.dest entries s) (run_through p entries s) x (writable_at x.dest s) (writable_at x.dest (run entries s))

-- what went through pipe p in these moments
abbrev pub through_in : PipeId → List Moment → Through
through_in p ms = along nothing_through through_then (effect_through p) ms

-- all that was read was passed on, and nothing was dropped
pub record IsPassedOn (h : Through) : Type 0 where
  pub passed : h.passed ≡ h.read
  pub dropped : h.dropped ≡ []

abbrev pub NoneActsWhileAChunkIsLeft : Type 0
NoneActsWhileAChunkIsLeft =
    (entries : List Entry) (p : PipeId) → AllSince (λ past m. BeginsToAct p m → IsPassedOn (through_in p (past ++ m ∷ []))) [] (run_moments entries empty)

abbrev pub EachEndedSourceIsPassedOn : Type 0
EachEndedSourceIsPassedOn =
    (before after : List Entry) (x : Entry) (p : PipeId) (ms ns : List Moment) (m : Moment)
    → let s : Slots = run before empty in
    let y : pipe.Slots = pipe_at p s in
    is_over y.phase ≡ false → is_readable (source_at y.source s).state ≡ false → step_moments s x ≡ ms ++ m ∷ ns → BeginsToAct p m
    → IsPassedOn (run_through p (before ++ x ∷ after) empty)

abbrev pub EachPipeWithoutAnErrorPassedAll : Type 0
EachPipeWithoutAnErrorPassedAll =
    (before after : List Entry) (x : Entry) (p : PipeId) (ms ns : List Moment) (m : Moment)
    → let s : Slots = run before empty in
    is_over (pipe_at p s).phase ≡ false → step_moments s x ≡ ms ++ m ∷ ns → BeginsToAct p m → (pipe_at p (leaves m)).error ≡ None
    → (has_closed (source_at (pipe_at p s).source s).state ≡ true) × IsPassedOn (run_through p (before ++ x ∷ after) empty)

-- where pipe p begins its action at this moment, or ends without one, it waited, or its destination was writable and not closing
abbrev pub WritesFirst : PipeId → Moment → Type 0
WritesFirst p m =
    is_live (pipe_at p m.found).phase ≡ true → is_live (pipe_at p (leaves m)).phase ≡ false
    → ((pipe_at p m.found).phase ≡ Waiting) ⊎ (writes_first (ends_at (pipe_at p m.found) m.found) ≡ true)

abbrev pub EachFulfilledPipePassedAll : Type 0
EachFulfilledPipePassedAll =
    (entries : List Entry) (p : PipeId)
    → AllMoments (WritesFirst p) (run_moments entries empty) → (run_course p entries empty).ended ≡ None ∷ [] → IsPassedOn (run_through p entries empty)
