-- What a writable end of a port posted before an error was delivered to it, and what it posts from then on.
use Rattle.std.proofs.Common.{◌≡◌, ℕ, ◌+◌, ◌≤◌, Bool, true, false, if◌then◌else◌, List, [], ◌∷◌, ◌++◌, length, Option, Some, None, slice_get, refl, ap, subst, arith}
use Rattle.ws_value.specs.declared.ids.PipeId.{PipeId}
use Rattle.ws_value.specs.declared.ids.PortId.{PortId}
use Rattle.ws_value.specs.declared.ids.StreamId.{StreamId}
use Rattle.ws_value.specs.declared.value.Message.TheVariants.{Error as ErrorMessage}
use Rattle.ws_value.specs.declared.value.Plain.{Plain}
use Rattle.ws_value.specs.Values.{is_cloneable}
use Rattle.ws_steps.specs.declared.port.Side.TheVariants.{Writable as WritableSide}
use Rattle.ws_steps.specs.Histories as histories
use Rattle.ws_steps.specs.Histories.{run_events}
use Rattle.ws_steps.specs.PortHistory.{posted_in}
use Rattle.ws_steps.specs.Run.{Entry, Called, step, run}
use Rattle.ws_steps.specs.Slots.{Slots, Stream, ReadableStream, ByteStream, WritableStream, empty, has_port, port_at}
use Rattle.ws_laws.proofs.Ended.{run-ended}
use Rattle.ws_reason_laws.specs.Origins.{origins}
use Rattle.ws_reason_laws.specs.Uncloned.{run_uncloned}
use Rattle.ws_reason_laws.proofs.Among.{among_contained}
use Rattle.ws_reason_laws.proofs.Cloned.{Kept, port-end, run-cloned}
use Rattle.ws_reason_laws.proofs.Given.{Before, before-new, pipe_past, whole-empty, but_origins, origins-good, fair-end, of-origins}
use Rattle.ws_reason_laws.proofs.Halved.{halved-end}
use Rattle.ws_reason_laws.proofs.Known.{Badness, class, teed_at, teed-at}
use Rattle.ws_reason_laws.proofs.Runs.{Whole}
use Rattle.ws_reason_laws.proofs.Sends.{abort_cloned}
use Rattle.ws_reason_laws.proofs.Weights.{Class, minds}
use Rattle.ws_tee_port_laws.proofs.ports.Told.{posted-append}
use Rattle.ws_posted_laws.specs.Posted.{EachPostedErrorIsOlder}
use Rattle.ws_posted_laws.proofs.Posted.{bad_in, bad_in-append, among-bad, none-bad, at-port, here}
use Rattle.ws_posted_laws.proofs.Stopped.{pend}
use Rattle.ws_steps.specs.declared.calls.Call.TheVariants.{Deliver}
use Rattle.ws_steps.specs.declared.writable.PendingAbort.{PendingAbort}
use Rattle.ws_steps.specs.Slots.{as_writable, writable_at}
use Rattle.ws_reason_laws.proofs.Rows.{in_place, stream-there}
use Rattle.ws_reason_laws.proofs.Runs.{run-whole}
use Rattle.ws_reason_laws.proofs.Weights.{in_abort}
use Rattle.ws_posted_laws.proofs.Late.{run-late, first-late}

-- what stood before

module _ (bad : Badness) (me : PipeId) (c : PortId) (i : StreamId) where
  events-less : (past : List Entry) (s : Slots) → bad_in bad.of (posted_in c (run past s).promises.events) ≤ bad_in bad.of (posted_in c (run_events past s))
  events-less [] s = omega arith
  events-less (x ∷ past) s =
      let h = events-less past (step s x) in
      let a = ap (bad_in bad.of) (posted-append c (histories.taken_in_step s x) (run_events past (step s x))) in
      let b = bad_in-append bad.of (posted_in c (histories.taken_in_step s x)) (posted_in c (run_events past (step s x))) in
      omega (arith, h, a, b)

  events-split : (past xs : List Entry) (s : Slots) → bad_in bad.of (posted_in c (run_events (past ++ xs) s)) ≤ bad_in bad.of (posted_in c (run_events past s)) + bad_in bad.of (posted_in c (run_events xs (run past s)))
  events-split [] xs s = omega arith
  events-split (x ∷ past) xs s =
      let h = events-split past xs (step s x) in
      let a = ap (bad_in bad.of) (posted-append c (histories.taken_in_step s x) (run_events (past ++ xs) (step s x))) in
      let b = bad_in-append bad.of (posted_in c (histories.taken_in_step s x)) (posted_in c (run_events (past ++ xs) (step s x))) in
      let d = ap (bad_in bad.of) (posted-append c (histories.taken_in_step s x) (run_events past (step s x))) in
      let e = bad_in-append bad.of (posted_in c (histories.taken_in_step s x)) (posted_in c (run_events past (step s x))) in
      omega (arith, h, a, b, d, e)

pend-less : (k : Class) (o : Option PendingAbort) → in_abort k o ≡ 0 → pend k.bad o ≡ 0
pend-less k None h = refl
pend-less k (Some p) h = omega (arith, h)

place-good : (k : Class) (n : ℕ) (o : Option Stream) → in_place k n o ≡ 0 → pend k.bad (as_writable o).pending_abort ≡ 0
place-good k n None h = refl
place-good k n (Some (ReadableStream x)) h = refl
place-good k n (Some (ByteStream x)) h = refl
place-good k n (Some (WritableStream x)) h = pend-less k x.pending_abort (omega (arith, h))

-- where the reason of a pending abort isn't bad and can be cloned, or something was given that can't be
pend-held : (bad : Badness) (gave : Bool) (o : Option PendingAbort) → pend bad.of o ≡ 0 → (gave ≡ false → abort_cloned o ≡ true) → pend (λ r. bad.of r + (if gave then 0 else if is_cloneable r then 0 else 1)) o ≡ 0
pend-held bad gave None h k = refl
pend-held bad gave (Some p) h k = by p.was_already_erroring gave h k
  where
    by : (was given : Bool) → (if was then 0 else bad.of p.reason) ≡ 0 → (given ≡ false → is_cloneable p.reason ≡ true) → (if was then 0 else bad.of p.reason + (if given then 0 else if is_cloneable p.reason then 0 else 1)) ≡ 0
    by true given h k = refl
    by false true h k = omega (arith, h)
    by false false h k = let c = k refl in rw c (omega (arith, h))

module _ (past xs : List Entry) (c : PortId) (up : Plain) (there : has_port c (run past empty) ≡ true) (side : (port_at c (run past empty)).side ≡ WritableSide) where
  abbrev s : Slots
  s = run past empty

  abbrev b : Badness
  b = but_origins [] past

  abbrev me : PipeId
  me = record { 0 = length s.pipes }

  abbrev i : StreamId
  i = (port_at c s).stream

  whole : Whole b me None s []
  whole = run-whole b me None (Before me) (λ s x xs f. f) (before-new (minds b.of b.half me me) me) [] past (pipe_past s.pipes) (origins-good [] past) (halved-end s) (fair-end [] past) (whole-empty b me)

  all-bad : bad_in b.of (posted_in c (run_events (past ++ Called (Deliver c (ErrorMessage up)) ∷ xs) empty)) ≡ 0
  all-bad =
      let w = whole in
      let k : Class = class b me w.known.hands (teed_at s) in
      let g = w.known.good w.known.hands (teed_at s) (λ i h. refl) (teed-at s) in
      let gave : Bool = run_uncloned past empty in
      let free = (fair-end [] past).1 in
      let kept : gave ≡ false → Kept (writable_at i s) = λ n. (run-cloned past n).streams i (port-end s c (port_at c s) (run-ended past) (at-port past c there side)) in
      let o = place-good k i.0 (slice_get s.streams i.0) (stream-there k s.streams i.0 (omega (arith, g))) in
      let before = none-bad past c there side [] in
      let l = events-less b me c i past empty in
      let start = first-late b me c i up gave free s there (here past c there side) (run-ended past) (omega (arith, before, l)) (pend-held b gave (writable_at i s).pending_abort o (λ n. (kept n).1)) kept in
      let rest = run-late b me c i up gave free xs (step s (Called (Deliver c (ErrorMessage up)))) start in
      let taken : bad_in b.of (posted_in c (run_events (Called (Deliver c (ErrorMessage up)) ∷ xs) s)) ≡ 0 = rest in
      let m = events-split b me c i past (Called (Deliver c (ErrorMessage up)) ∷ xs) empty in
      omega (arith, m, before, taken)

pub each_posted_error_is_older : EachPostedErrorIsOlder
each_posted_error_is_older past xs c up r before after need there side e =
    let h = all-bad past xs c up there side in
    let bad : Plain → ℕ = (but_origins [] past).of in
    let g : bad_in bad (before ++ ErrorMessage r ∷ after) ≡ 0 = subst (λ ms. bad_in bad ms ≡ 0) e h in
    among_contained r (origins past) (of-origins [] past r need (among-bad bad before r after g))
