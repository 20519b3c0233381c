-- Laws of what is wanted as a chunk is transformed.
use Rattle.std.specs.Prelude.{◌≡◌, ◌⊎◌, false, true, List, [], Some, slice_get}
use Rattle.ws_steps.specs.declared.transform.TransformId.{TransformId}
use Rattle.ws_steps.specs.Run.{Entry, run, step}
use Rattle.ws_steps.specs.Readable.{can_close_or_enqueue}
use Rattle.ws_steps.specs.Slots.{Slots, empty, readable_at}
use Rattle.ws_steps.specs.ReadableHistory.{run_reads, step_reads}
use Rattle.ws_steps.specs.Transform as transform
use Rattle.ws_transform_laws.specs.TransformHistory.{goes_on_pressed, step_unwanted, step_unread}
use Rattle.ws_end_laws.specs.hosts.HostCalls.{called}
use Rattle.ws_want_laws.specs.Answers.{is_answering, is_at_work, unasked}
use Rattle.ws_want_laws.specs.Waits.{write_waits, run_meanwhile}

abbrev pub NoneGoesOnPressed : Type 0
NoneGoesOnPressed =
    (entries : List Entry) (x : Entry) (t : TransformId) (y : transform.Slots) → let s : Slots = run entries empty in slice_get (step s x).transforms t.0 ≡ Some y
    → run_meanwhile t y.readable entries empty ≡ [] → goes_on_pressed t s x ≡ false

abbrev pub EachTransformIsWanted : Type 0
EachTransformIsWanted =
    (entries : List Entry) (x : Entry) (t : TransformId) (y : transform.Slots) → let s : Slots = run entries empty in slice_get (step s x).transforms t.0 ≡ Some y
    → run_meanwhile t y.readable entries empty ≡ [] → (run_reads y.readable entries empty).released ≡ [] → (step_reads y.readable s x).released ≡ []
    → step_unwanted t s x ≡ []

abbrev pub EachTransformIsRead : Type 0
EachTransformIsRead =
    (entries : List Entry) (x : Entry) (t : TransformId) (y : transform.Slots) → let s : Slots = run entries empty in slice_get (step s x).transforms t.0 ≡ Some y
    → run_meanwhile t y.readable entries empty ≡ [] → (run_reads y.readable entries empty).released ≡ [] → (step_reads y.readable s x).released ≡ []
    → step_unread t s x ≡ []

abbrev pub NoneWaitsForAnAnswer : Type 0
NoneWaitsForAnAnswer =
    (entries : List Entry) (t : TransformId) (y : transform.Slots) → let s : Slots = run entries empty in slice_get s.transforms t.0 ≡ Some y
    → is_answering y.readable (called entries) s ≡ true → write_waits t s ≡ false

abbrev pub NoneWaitsAtWork : Type 0
NoneWaitsAtWork =
    (entries : List Entry) (t : TransformId) (y : transform.Slots) → let s : Slots = run entries empty in slice_get s.transforms t.0 ≡ Some y
    → is_at_work y.readable (called entries) s ≡ true → (write_waits t s ≡ false) ⊎ (can_close_or_enqueue (readable_at y.readable s) ≡ false)

abbrev pub EachAnswerIsWanted : Type 0
EachAnswerIsWanted =
    (entries : List Entry) (x : Entry) (t : TransformId) (y : transform.Slots) → let s : Slots = run entries empty in slice_get (step s x).transforms t.0 ≡ Some y
    → unasked y.readable entries ≡ [] → (run_reads y.readable entries empty).released ≡ [] → (step_reads y.readable s x).released ≡ []
    → step_unwanted t s x ≡ []

abbrev pub EachAnswerIsRead : Type 0
EachAnswerIsRead =
    (entries : List Entry) (x : Entry) (t : TransformId) (y : transform.Slots) → let s : Slots = run entries empty in slice_get (step s x).transforms t.0 ≡ Some y
    → unasked y.readable entries ≡ [] → (run_reads y.readable entries empty).released ≡ [] → (step_reads y.readable s x).released ≡ []
    → step_unread t s x ≡ []
