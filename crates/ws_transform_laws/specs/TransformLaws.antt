-- Laws of what is transformed.
use Rattle.std.specs.Prelude.{◌≡◌, ◌<◌, true, false, List, [], ◌++◌, Some, slice_get}
use Rattle.ws_steps.specs.declared.transform.Kind.TheVariants.{Host}
use Rattle.ws_steps.specs.declared.transform.TransformId.{TransformId}
use Rattle.ws_steps.specs.Histories.{run_events}
use Rattle.ws_steps.specs.Promises.{next_job}
use Rattle.ws_steps.specs.Readable.{can_close_or_enqueue}
use Rattle.ws_steps.specs.ReadableHistory.{step_flow, accepted_in_step, run_reads, step_reads}
use Rattle.ws_steps.specs.Run.{Entry, Worked, run, step}
use Rattle.ws_steps.specs.Slots.{Slots, empty, readable_at}
use Rattle.ws_steps.specs.Transform as transform
use Rattle.ws_steps.specs.WritableHistory.{run_writes}
use Rattle.ws_transform_laws.specs.TransformHistory.{run_transformed, step_enqueued, step_closings, is_flushed, wants, goes_on_pressed, step_unwanted, step_unread, heard_transforms}

abbrev pub EachActedIsTransformed : Type 0
EachActedIsTransformed =
    (entries : List Entry) (t : TransformId) (x : transform.Slots) → slice_get (run entries empty).transforms t.0 ≡ Some x
    → (run_writes x.writable entries empty).acted ≡ run_transformed t entries empty

abbrev pub TransformsWereHeard : Type 0
TransformsWereHeard =
    (entries : List Entry) (t : TransformId) (x : transform.Slots) → slice_get (run entries empty).transforms t.0 ≡ Some x → x.kind ≡ Host
    → (run_writes x.writable entries empty).acted ≡ heard_transforms x.readable (run_events entries empty)

abbrev pub EachStepEnters : Type 0
EachStepEnters =
    (entries : List Entry) (x : Entry) (t : TransformId) (y : transform.Slots) → let s : Slots = run entries empty in slice_get (step s x).transforms t.0 ≡ Some y
    → (step_flow y.readable s x).entered ≡ accepted_in_step y.readable s x ++ step_enqueued t s x

abbrev pub JobsEnterNothing : Type 0
JobsEnterNothing =
    (entries : List Entry) (t : TransformId) (y : transform.Slots) → let s : Slots = run entries empty in slice_get s.transforms t.0 ≡ Some y → y.kind ≡ Host
    → (step_flow y.readable s Worked).entered ≡ []

abbrev pub FlushesClose : Type 0
FlushesClose =
    (entries : List Entry) (t : TransformId) (y : transform.Slots) → let s : Slots = run entries empty in slice_get s.transforms t.0 ≡ Some y
    → 0 < step_closings y.readable s Worked → is_flushed t (next_job s.promises) ≡ true

abbrev pub NoBackpressureIsWanted : Type 0
NoBackpressureIsWanted =
    (entries : List Entry) (t : TransformId) (y : transform.Slots) → let s : Slots = run entries empty in slice_get s.transforms t.0 ≡ Some y
    → y.backpressure ≡ false → can_close_or_enqueue (readable_at y.readable s) ≡ true → (run_reads y.readable entries empty).released ≡ [] → wants (readable_at y.readable s) ≡ true

abbrev pub EachChunkIsWanted : Type 0
EachChunkIsWanted =
    (entries : List Entry) (x : Entry) (t : TransformId) (y : transform.Slots) → let s : Slots = run entries empty in slice_get (step s x).transforms t.0 ≡ Some y
    → (run_reads y.readable entries empty).released ≡ [] → (step_reads y.readable s x).released ≡ [] → goes_on_pressed t s x ≡ false → step_unwanted t s x ≡ []

abbrev pub EachChunkIsRead : Type 0
EachChunkIsRead =
    (entries : List Entry) (x : Entry) (t : TransformId) (y : transform.Slots) → let s : Slots = run entries empty in slice_get (step s x).transforms t.0 ≡ Some y
    → (run_reads y.readable entries empty).released ≡ [] → (step_reads y.readable s x).released ≡ [] → goes_on_pressed t s x ≡ false → step_unread t s x ≡ []
