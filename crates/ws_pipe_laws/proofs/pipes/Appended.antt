-- What a pipe passes on, and what its destination is written by it (`each_pass_is_appended`).
use Rattle.std.proofs.Common.{◌≡◌, Bool, true, false, ◌&&◌, nat_eq, if◌then◌else◌, List, [], ◌++◌, Option, Some, None, slice_get, refl, sym, append-nil, arith}
use Rattle.ws_value.specs.declared.{ids.StreamId.{StreamId}, value.Value.{Value}}
use Rattle.ws_steps.specs.declared.pipes.{Phase.{Phase}, Phase.TheVariants.{Flowing, Waiting, Acting, Over}}
use Rattle.ws_steps.specs.Histories.{is_same}
use Rattle.ws_steps.specs.Pipes as pipe
use Rattle.ws_steps.specs.Slots.{Slots, as_pipe, writable_at}
use Rattle.ws_steps.specs.Writable as writable
use Rattle.ws_steps.specs.WritableHistory.{may_write, written_by, written_from, piped_to}
use Rattle.ws_pipe_laws.specs.pipes.PipeHistory.{held_goes}
use Rattle.ws_pipe_laws.specs.pipes.PipeReads.{appended_by, EachPassIsAppended}

append-back : (xs : List Value) → xs ≡ xs ++ []
append-back xs = sym (append-nil xs)

goes_to : (phase : Phase) (b : Bool) (v : Value) (w : writable.Slots)
    → (if may_write phase && b then written_by v w else []) ≡ (if b then appended_by w (held_goes phase (Some v)).passed else [])
goes_to Flowing true v w = append-back (written_by v w)
goes_to Waiting true v w = append-back (written_by v w)
goes_to Acting true v w = refl
goes_to Over true v w = refl
goes_to Flowing false v w = refl
goes_to Waiting false v w = refl
goes_to Acting false v w = refl
goes_to Over false v w = refl

nothing : (b : Bool) → ◌≡◌ {A = List Value} [] (if b then [] else [])
nothing true = refl
nothing false = refl

held_to : (i : StreamId) (s : Slots) (x : pipe.Slots) (held : Option Value)
    → written_from i x.dest s x.phase held ≡ (if is_same i x.dest then appended_by (writable_at x.dest s) (held_goes x.phase held).passed else [])
held_to i s x None = nothing (is_same i x.dest)
held_to i s x (Some v) = goes_to x.phase (is_same i x.dest) v (writable_at x.dest s)

place_to : (i : StreamId) (s : Slots) (o : Option pipe.Slots) → let x : pipe.Slots = as_pipe o in
    piped_to i s o ≡ (if is_same i x.dest then appended_by (writable_at x.dest s) (held_goes x.phase x.held).passed else [])
place_to i s None = nothing (is_same i (as_pipe None).dest)
place_to i s (Some x) = held_to i s x x.held

pub each_pass_is_appended : EachPassIsAppended
each_pass_is_appended s p i = let self : nat_eq p.0 p.0 ≡ true = grind arith in rw self (place_to i s (slice_get s.pipes p.0))
