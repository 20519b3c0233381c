-- Over every run: the error that a stream has stored has an origin.
use Rattle.std.proofs.Common.{◌≡◌, ℕ, ◌+◌, Bool, true, ◌||◌, if◌then◌else◌, List, [], Contains, None, slice_get, length, refl, arith}
use Rattle.ws_value.specs.declared.ids.PipeId.{PipeId}
use Rattle.ws_value.specs.declared.ids.StreamId.{StreamId}
use Rattle.ws_value.specs.declared.value.Plain.{Plain}
use Rattle.ws_steps.specs.declared.readable.ReadableState.{ReadableState}
use Rattle.ws_steps.specs.declared.readable.ReadableState.TheVariants.{Errored}
use Rattle.ws_steps.specs.declared.writable.WritableState.{WritableState}
use Rattle.ws_steps.specs.Run.{Entry, run}
use Rattle.ws_steps.specs.Slots.{Slots, empty, source_at, writable_at}
use Rattle.ws_steps.specs.Writable.{is_erroring, is_errored}
use Rattle.ws_reason_laws.specs.Origins.{origins, EachStoredErrorHasAnOrigin}
use Rattle.ws_reason_laws.specs.Reasons.{NeedsTee}
use Rattle.ws_reason_laws.proofs.Among.{among_contained}
use Rattle.ws_reason_laws.proofs.Given.{Before, before-new, pipe_past, whole-empty, but_origins, origins-good, fair-end, of-origins}
use Rattle.ws_reason_laws.proofs.Halved.{halved-end}
use Rattle.ws_reason_laws.proofs.Known.{Badness, class, teed_at, teed-at}
use Rattle.ws_reason_laws.proofs.Rows.{stream-there, source-good, dest-good}
use Rattle.ws_reason_laws.proofs.Runs.{Whole, run-whole}
use Rattle.ws_reason_laws.proofs.Weights.{Class, in_streams, has_error, is_errored as is_source_errored, minds}

pub errored-bad : (state : ReadableState) (n : ℕ) → state ≡ Errored → (if is_source_errored state then n else 0) ≡ 0 → n ≡ 0
errored-bad state n e h = grind (arith, e, h)

pub erroring-bad : (state : WritableState) (n m : ℕ) → (is_erroring state || is_errored state) ≡ true → (if has_error state then n else 0) + m ≡ 0 → n ≡ 0
erroring-bad state n m e h = grind (arith, e, h)

module _ (entries : List Entry) (i : StreamId) where
  abbrev s : Slots
  s = run entries empty

  abbrev bad : Badness
  bad = but_origins [] entries

  abbrev me : PipeId
  me = record { 0 = length s.pipes }

  -- nothing bad stands in any stream
  streams-good : (f : ℕ → Bool) × (in_streams (class bad me f (teed_at s)) 0 s.streams ≡ 0)
  streams-good =
      let w : Whole bad me None s [] =
      run-whole bad me None (Before me) (λ s x xs f. f) (before-new (minds bad.of bad.half me me) me) [] entries (pipe_past s.pipes) (origins-good [] entries) (halved-end s) (fair-end [] entries) (whole-empty bad me) in
      let g = w.known.good w.known.hands (teed_at s) (λ i h. refl) (teed-at s) in
      (w.known.hands, omega (arith, g))

  has_origin : (r : Plain) → NeedsTee r entries → bad.of r ≡ 0 → Contains (origins entries) r
  has_origin r n h = among_contained r (origins entries) (of-origins [] entries r n h)

  readable-stored : NeedsTee (source_at i s).stored_error entries → (source_at i s).state ≡ Errored → Contains (origins entries) (source_at i s).stored_error
  readable-stored n e =
      let g = streams-good in
      let k : Class = class bad me g.0 (teed_at s) in
      let h = source-good k i.0 (slice_get s.streams i.0) (stream-there k s.streams i.0 g.1) in
      has_origin (source_at i s).stored_error n (errored-bad (source_at i s).state (bad.of (source_at i s).stored_error) e h)

  writable-stored : NeedsTee (writable_at i s).stored_error entries → (is_erroring (writable_at i s).state || is_errored (writable_at i s).state) ≡ true → Contains (origins entries) (writable_at i s).stored_error
  writable-stored n e =
      let g = streams-good in
      let k : Class = class bad me g.0 (teed_at s) in
      let h = dest-good k i.0 (slice_get s.streams i.0) (stream-there k s.streams i.0 g.1) in
      has_origin (writable_at i s).stored_error n (erroring-bad (writable_at i s).state (bad.of (writable_at i s).stored_error) _ e h)

pub stored-error-has-an-origin : EachStoredErrorHasAnOrigin
stored-error-has-an-origin = record { readable = λ entries i n e. readable-stored entries i n e; writable = λ entries i n e. writable-stored entries i n e }
