-- Laws of the writable halves of transform streams.
use Rattle.std.specs.Prelude.{◌≡◌, List}
use Rattle.ws_value.specs.declared.ids.StreamId.{StreamId}
use Rattle.ws_steps.specs.declared.effects.Owner.TheVariants.{HalfOf}
use Rattle.ws_steps.specs.declared.transform.TransformId.{TransformId}
use Rattle.ws_steps.specs.Run.{Entry, run, step}
use Rattle.ws_steps.specs.Slots.{empty, owner_at, writable_at}
use Rattle.ws_steps.specs.WritableHistory.{run_writes, step_writes}
use Rattle.ws_steps.specs.Laws.{IsLawfulWritable, IsWritableStep}

abbrev pub EachHalfIsLawful : Type 0
EachHalfIsLawful =
    (entries : List Entry) (i : StreamId) (t : TransformId)
    → owner_at i (run entries empty) ≡ HalfOf t → IsLawfulWritable (run_writes i entries empty) (writable_at i (run entries empty))

abbrev pub EachHalfStep : Type 0
EachHalfStep =
    (entries : List Entry) (x : Entry) (i : StreamId) (t : TransformId)
    → owner_at i (step (run entries empty) x) ≡ HalfOf t
    → IsWritableStep (step_writes i (run entries empty) x) (writable_at i (run entries empty)) (writable_at i (step (run entries empty) x))
