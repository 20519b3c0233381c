-- What holds of reasons at each moment goes on through calls, jobs and runs, where the reasons that calls give aren't bad.
use Rattle.std.proofs.Common.{◌≡◌, ℕ, ◌+◌, Bool, true, false, ◌||◌, List, [], ◌∷◌, ◌++◌, Option, Some, None, slice_get, refl, sym, ap, subst, ◌∙◌, arith}
use Rattle.ws_value.specs.declared.ids.PipeId.{PipeId}
use Rattle.ws_value.specs.declared.ids.PromiseId.{PromiseId}
use Rattle.ws_value.specs.declared.ids.StreamId.{StreamId}
use Rattle.ws_steps.specs.declared.calls.Call.{Call}
use Rattle.ws_steps.specs.declared.calls.Call.TheVariants.{ReadInto, Finish}
use Rattle.ws_steps.specs.declared.calls.Reply.{Reply}
use Rattle.ws_steps.specs.declared.calls.Reply.TheVariants.{Promise}
use Rattle.ws_steps.specs.declared.effects.Effect.{Effect}
use Rattle.ws_steps.specs.declared.effects.Effect.TheVariants.{Readable as OnReadable, Byte, Writable as OnWritable, Pipe as OnPipe, Tee as OnTee, Port as OnPort, CancelAlgorithm}
use Rattle.ws_steps.specs.declared.pipes.PipeOperation.{PipeOperation}
use Rattle.ws_steps.specs.declared.pipes.Prevent.{Prevent}
use Rattle.ws_steps.specs.declared.promises.Job.{Job}
use Rattle.ws_steps.specs.Calls.{begin, named}
use Rattle.ws_steps.specs.Jobs.{begin_job, job_begun}
use Rattle.ws_steps.specs.Pipes as pipe
use Rattle.ws_steps.specs.Promises.{next_job, after_next_job, watch}
use Rattle.ws_steps.specs.Run.{Entry, Called, Worked, Heard, step, run, older, after_event}
use Rattle.ws_steps.specs.Slots.{Slots, Done, empty, writable_at, as_pipe, with_promises, ends_at, clones_at}
use Rattle.ws_steps.specs.Histories.{along}
use Rattle.ws_steps.specs.Turns.{row, moments, performed}
use Rattle.ws_steps.specs.Writable.{is_closed, is_closing}
use Rattle.ws_laws.proofs.Halves as halves
use Rattle.ws_value.specs.declared.value.Plain.{Plain}
use Rattle.ws_steps.specs.Cross as cross
use Rattle.ws_steps.specs.Cross.{data_clone}
use Rattle.ws_steps.specs.declared.port.PortOperation.{PortOperation}
use Rattle.ws_steps.specs.declared.port.PortOperation.TheVariants as names
use Rattle.ws_laws.proofs.Ended.{Ended, ended-stays}
use Rattle.ws_reason_laws.proofs.Ports.{Clones}
use Rattle.ws_laws.proofs.Truth.{or_left}
use Rattle.ws_laws.proofs.Walker.{performed-goes}
use Rattle.ws_pipe_laws.specs.locks.LockLaws.{all_spare}
use Rattle.ws_pipe_laws.proofs.locks.Owning.{each_pipe_owns_its_ends}
use Rattle.ws_pipe_laws.specs.pipes.PipeHistory.{is_over}
use Rattle.ws_reason_laws.specs.Origins.{through_of, through}
use Rattle.ws_reason_laws.specs.Reasons.{failure_of, failures, erred_by}
use Rattle.ws_reason_laws.specs.Uncloned.{effect_uncloned, step_uncloned, run_uncloned}
use Rattle.ws_reason_laws.proofs.Answers.{bad_call, bad-append, begun-kinds, begun-good}
use Rattle.ws_reason_laws.proofs.Asking.{goes}
use Rattle.ws_reason_laws.proofs.Begins.{kinds-known, call-known}
use Rattle.ws_reason_laws.proofs.Cloned.{Fine, goes as cloned, begun-fine, run-cloned, cloned-fits, or, or-history}
use Rattle.ws_reason_laws.proofs.Fair.{run_then, Free, Fair, fair-paired, fair-free, fair-next}
use Rattle.ws_reason_laws.proofs.Erring.{Erring, erring-row, erring-call, erring-job}
use Rattle.ws_reason_laws.proofs.Halved.{Halved, halved-owner, halved-row, halved-begun}
use Rattle.ws_reason_laws.proofs.Known.{Badness, Known, row-known, job-known, watch-known, older-known, event-known}
use Rattle.ws_reason_laws.proofs.Moments.{Moment, moment-row, moment-call, moment-job, moment-watch, moment-older, moment-heard, moment-fits}
use Rattle.ws_reason_laws.proofs.Newly.{each-opens}
use Rattle.ws_reason_laws.proofs.Opening.{Opens, NewOpens, row-opens, call-opens, job-opens}
use Rattle.ws_reason_laws.proofs.Pipes.{Finds}
use Rattle.ws_reason_laws.proofs.Rows.{Fits}
use Rattle.ws_reason_laws.proofs.Teed.{unteed, Paired, paired-row, paired-named, tee-fits}
use Rattle.ws_reason_laws.proofs.Weights.{bad_of, minds}

-- what holds at each moment of a run, where reasons are weighed, `me` is the pipe that is looked at, and `own` its promise once it is made
pub record Whole (bad : Badness) (me : PipeId) (own : Option ℕ) (s : Slots) (es : List Effect) : Type 0 where
  pub moment : Moment s es
  pub halved : Halved bad.half s
  pub opens : (p : PipeId) → Opens (minds bad.of bad.half me p) p s es
  pub known : Known bad me own s es
  pub halves : halves.Halved s
  pub ended : Ended s
  pub erring : Erring bad.of s es

flows_goes : (x : pipe.Slots) → pipe.is_flowing x.phase ≡ true → goes x.phase ≡ true
flows_goes x f = grind (arith, f)

neither : (a b : Bool) → a ≡ false → b ≡ false → (a || b) ≡ false
neither a b e f = grind (arith, e, f)

-- what an operation of a port finds
abbrev pub Clonable : (Plain → ℕ) → Slots → Effect → Type 0
Clonable bad s (OnPort c operation) = (x : cross.Slots) → slice_get s.ports c.0 ≡ Some x → Clones bad (clones_at x s) operation
Clonable bad s _ = Unit {0}

-- where a DataCloneError isn't bad
pub clones-good : (bad : Plain → ℕ) (clones : Bool) (operation : PortOperation) → bad data_clone ≡ 0 → Clones bad clones operation
clones-good bad clones (names.Leave r u) g = λ n. g
clones-good bad clones (names.WriteGoesOn d) g = λ n. g
clones-good bad clones _ g = tt

free-clonable : (bad : Plain → ℕ) (s : Slots) (e : Effect) → bad data_clone ≡ 0 → Clonable bad s e
free-clonable bad s (OnPort c operation) g = λ x there. clones-good bad (clones_at x s) operation g
free-clonable bad s _ g = tt

-- that is so where what can't be cloned was given to a stream at the end of a port, and where it wasn't
pub clonable : (bad : Plain → ℕ) (given : Bool) (s : Slots) (e : Effect) (es : List Effect) → Free bad given → Fine given s (e ∷ es) → Ended s → Clonable bad s e
clonable bad true s e es f k ended = free-clonable bad s e (f refl)
clonable bad false s (OnPort c operation) es f k ended = λ x there. cloned-fits bad s c operation es ended (k refl) x there
clonable bad false s e es f k ended = tt

module _ (bad : Badness) (me : PipeId) (own : Option ℕ) where
  abbrev W : Slots → List Effect → Type 0
  W s es = Whole bad me own s es

  abbrev Mind : PipeId → StreamId → Prevent → Bool
  Mind p = minds bad.of bad.half me p

  finds : (p : PipeId) (operation : PipeOperation) (s : Slots) (es : List Effect) → Opens (Mind p) p s (OnPipe p operation ∷ es) → (x : pipe.Slots) → slice_get s.pipes p.0 ≡ Some x → Finds (Mind p x.source x.prevent) (ends_at x s) x
  finds p operation s es k x there wants flows readable =
      let o = (k x there wants (flows_goes x flows)).0 in
      neither (is_closing (writable_at x.dest s)) (is_closed (writable_at x.dest s).state) o.closing o.closed

  fits : (s : Slots) (e : Effect) (es : List Effect) → Clonable bad.of s e → Paired bad.of (row e s).slots → W s (e ∷ es) → Fits bad.of bad.half me e s
  fits s (OnPort c operation) es n p w = n
  fits s (OnTee t operation) es n p w = tee-fits bad.of t operation s p
  fits s (OnWritable i operation) es n p w = λ there. moment-fits i operation s es w.moment there
  fits s (OnPipe q operation) es n p w = λ x there. finds q operation s es (w.opens q) x there
  fits s (OnReadable i operation) es n p w = (w.erring.0, unteed i operation s es w.moment.locked)
  fits s (Byte i operation) es n p w = w.erring.0
  fits s (CancelAlgorithm i r q) es n p w = halved-owner bad.half s w.halved i
  fits s e es n p w = tt

  pub row-whole : (s : Slots) (e : Effect) (es : List Effect) → Clonable bad.of s e → Paired bad.of (row e s).slots → W s (e ∷ es) → W (row e s).slots ((row e s).caused ++ es)
  row-whole s e es n q w = record {
    moment = moment-row s e es w.moment;
    halved = halved-row bad.half e s w.halved;
    opens = λ p. row-opens (Mind p) p s es e w.moment (w.opens p);
    known = row-known bad me own s e es (fits s e es n q w) w.known;
    halves = halves.halved-stays.row s e es w.halves;
    ended = ended-stays.row s e es w.ended;
    erring = erring-row bad.of s e es w.halves w.ended w.erring;
  }

  -- what is known of the slots afterwards, and of what was given until then, is known of those before
  abbrev Fairly : Bool → Slots → List Effect → Type 0
  Fairly given s es = Fine given s es × (Free bad.of given → Paired bad.of s → W s es)

  row-fairly : (given : Bool) (s : Slots) (e : Effect) (es : List Effect) → Fairly given s (e ∷ es) → Fairly (given || effect_uncloned e s) (row e s).slots ((row e s).caused ++ es)
  row-fairly given s e es k = (
    cloned.row given s e es k.0,
    λ f p.
        let before : Free bad.of given = λ t. f (or_left given (effect_uncloned e s) t) in
        let w = k.1 before (paired-row bad.of e s p) in
        row-whole s e es (clonable bad.of given s e es before k.0 w.ended) p w,
  )

  pub performed-whole : (given : Bool) (d : Done) → Free bad.of (given || along false or effect_uncloned (moments d)) → Fine given d.slots d.caused → W d.slots d.caused → Paired bad.of (performed d) → W (performed d) []
  performed-whole given d f k w p = (performed-goes false or or-history effect_uncloned Fairly row-fairly given d (k, λ g q. w)).1 f p

  -- between effects

  older-whole : (s : Slots) → W s [] → W (older s) []
  older-whole s w = record { moment = moment-older s w.moment; halved = w.halved; opens = w.opens; known = older-known bad me own s w.known; halves = w.halves; ended = w.ended; erring = tt }

  watch-whole : (s : Slots) (p : PromiseId) → W s [] → W (with_promises (watch p s.promises) s) []
  watch-whole s p w = record { moment = moment-watch s p w.moment; halved = w.halved; opens = w.opens; known = watch-known bad me own s p w.known; halves = w.halves; ended = w.ended; erring = tt }

  named-whole : (reply : Reply) (s : Slots) → W s [] → W (named reply s) []
  named-whole (Promise p) s w = watch-whole s p w
  named-whole _ s w = w

  -- the rest of a call once it has begun
  pub begun-whole : (given : Bool) (c : Call) (s : Slots) → Free bad.of (given || step_uncloned s (Called c)) → Fine given s [] → W (begin c s).done.slots (begin c s).done.caused → Paired bad.of (step s (Called c)) → W (step s (Called c)) []
  begun-whole given c s f k w p =
      let d : Done = (begin c s).done in
      older-whole _ (named-whole (begin c s).reply (performed d) (performed-whole given d f (cloned.call given s c k) w (paired-named bad.of (begin c s).reply (performed d) p)))

  pub worked-starts : (s : Slots) → W s [] → W (job_begun s (next_job s.promises)).slots (job_begun s (next_job s.promises)).caused
  worked-starts s w = by (next_job s.promises) refl
    where
      by : (job : Option Job) → next_job s.promises ≡ job → W (job_begun s job).slots (job_begun s job).caused
      by None e = w
      by (Some job) e = record {
        moment = moment-job s job e w.moment;
        halved = w.halved;
        opens = λ p. job-opens (Mind p) p job s (with_promises (after_next_job s.promises) s) refl refl (w.opens p);
        known = job-known bad me own s job e w.known;
        halves = w.halves;
        ended = w.ended;
        erring = erring-job bad.of job (with_promises (after_next_job s.promises) s);
      }

  worked-whole : (given : Bool) (s : Slots) → Free bad.of (given || step_uncloned s Worked) → Fine given s [] → W s [] → Paired bad.of (step s Worked) → W (step s Worked) []
  unfolding begin_job
  worked-whole given s f k w p = older-whole _ (performed-whole given (begin_job s) f (begun-fine given s k) (worked-starts s w) p)

  heard-whole : (s : Slots) → W s [] → W (after_event s) []
  heard-whole s w = record { moment = moment-heard s w.moment; halved = w.halved; opens = w.opens; known = event-known bad me own s w.known; halves = w.halves; ended = w.ended; erring = tt }

-- the ends of the pipe are its own, so no call asks its destination to close

pub spared : (pre : List Entry) (me : PipeId) (c : Call) (x : pipe.Slots) → slice_get (run pre empty).pipes me.0 ≡ Some x → goes x.phase ≡ true → all_spare x.source x.dest (begin c (run pre empty)).done.caused ≡ true
spared pre me c x e g =
    let is : as_pipe (slice_get (run pre empty).pipes me.0) ≡ x = ap as_pipe e in
    let o = each_pipe_owns_its_ends pre me (rw is (not_over x g)) in
    let h = o.calls c in
    rw is at h
  where
    not_over : (x : pipe.Slots) → goes x.phase ≡ true → is_over x.phase ≡ false
    not_over x g = grind (arith, g)

-- runs

-- what the calls of a run give by which something fails, and what they bring through transform streams

abbrev pub bad_run : Badness → List Entry → Slots → ℕ
bad_run bad xs s = bad_of bad.of (failures xs) + bad_of bad.of (through xs s)

abbrev bad_entry : Badness → Entry → Slots → ℕ
bad_entry bad (Called c) s = bad_call bad c s
bad_entry bad _ s = 0

pub first-good : (bad : Badness) (x : Entry) (xs : List Entry) (s : Slots) → bad_run bad (x ∷ xs) s ≡ bad_entry bad x s + bad_run bad xs (step s x)
first-good bad (Called c) xs s =
    let a = bad-append bad.of (failure_of c) (failures xs) in
    let b = bad-append bad.of (through_of c s) (through xs (step s (Called c))) in
    omega (arith, a, b)
first-good bad Worked xs s = omega arith
first-good bad Heard xs s = omega arith

erred-part : (bad : Badness) (c : Call) (s : Slots) → bad_of bad.of (through_of c s) ≡ 0 → bad_of bad.of (erred_by c s) ≡ 0
erred-part bad (Finish i) s h = h
erred-part bad (ReadInto l room element least) s h = h
erred-part bad c s h = refl

module _ (bad : Badness) (me : PipeId) (own : Option ℕ) where
  pub call-starts : (pre : List Entry) (c : Call) → bad_call bad c (run pre empty) ≡ 0 → Halved bad.half (begin c (run pre empty)).done.slots → NewOpens (Mind bad me own me) me c (run pre empty) → (new : Option ℕ)
      → Known bad me new (begin c (run pre empty)).done.slots (begin c (run pre empty)).done.caused → Whole bad me own (run pre empty) [] → Whole bad me new (begin c (run pre empty)).done.slots (begin c (run pre empty)).done.caused
  call-starts pre c h there opens new known w =
      let s : Slots = run pre empty in
      record {
        moment = moment-call s c w.moment;
        halved = there;
        opens = λ p. call-opens (Mind bad me own p) p c s (w.opens p) (λ x e g. spared pre p c x e g) (each-opens bad me s w.halved c there (omega (arith, h)) opens p);
        known = known;
        halves = halves.halved-stays.call s c w.halves;
        ended = ended-stays.call s c w.ended;
        erring = erring-call bad.of s c (erred-part bad c s (omega (arith, h)));
      }

  pub call-whole : (pre : List Entry) (c : Call) → bad_call bad c (run pre empty) ≡ 0 → Free bad.of (run_uncloned pre empty || step_uncloned (run pre empty) (Called c)) → Halved bad.half (begin c (run pre empty)).done.slots → NewOpens (Mind bad me own me) me c (run pre empty) → (new : Option ℕ)
      → Known bad me new (begin c (run pre empty)).done.slots (begin c (run pre empty)).done.caused → Whole bad me own (run pre empty) [] → Paired bad.of (step (run pre empty) (Called c)) → Whole bad me new (step (run pre empty) (Called c)) []
  call-whole pre c h free there opens new known w p = begun-whole bad me new (run_uncloned pre empty) c (run pre empty) free (run-cloned pre) (call-starts pre c h there opens new known w) p

  called-known : (c : Call) (s : Slots) → bad_call bad c s ≡ 0 → Whole bad me own s [] → Known bad me own (begin c s).done.slots (begin c s).done.caused
  called-known c s h w = call-known bad me own s w.known c (begun-good bad c s w.halved h) (begun-kinds bad c s h (kinds-known bad me own s w.known))

  -- what is known of the pipe as a run goes on
  module _ (Phase : Slots → List Entry → Type 0) (next : (s : Slots) (x : Entry) (xs : List Entry) → Phase s (x ∷ xs) → Phase (step s x) xs)
      (new : (s : Slots) (c : Call) (xs : List Entry) → Phase s (Called c ∷ xs) → NewOpens (Mind bad me own me) me c s) where
    pub called-starts : (pre : List Entry) (c : Call) (xs : List Entry) → Phase (run pre empty) (Called c ∷ xs) → bad_entry bad (Called c) (run pre empty) ≡ 0 → Halved bad.half (run (Called c ∷ xs) (run pre empty)) → Whole bad me own (run pre empty) [] → Whole bad me own (begin c (run pre empty)).done.slots (begin c (run pre empty)).done.caused
    called-starts pre c xs f h there w =
        call-starts pre c h (halved-begun bad.half c xs (run pre empty) there) (new (run pre empty) c xs f) own (called-known c (run pre empty) h w) w

    pub step-whole : (pre : List Entry) (x : Entry) (xs : List Entry) → Phase (run pre empty) (x ∷ xs) → bad_entry bad x (run pre empty) ≡ 0 → Halved bad.half (run (x ∷ xs) (run pre empty)) → Fair bad.of pre (x ∷ xs) → Whole bad me own (run pre empty) [] → Whole bad me own (step (run pre empty) x) []
    step-whole pre (Called c) xs f h there p w =
        call-whole pre c h (fair-free bad.of pre (Called c) xs p) (halved-begun bad.half c xs (run pre empty) there) (new (run pre empty) c xs f) own (called-known c (run pre empty) h w) w (fair-paired bad.of pre (Called c) xs p)
    step-whole pre Worked xs f h there p w = worked-whole bad me own (run_uncloned pre empty) (run pre empty) (fair-free bad.of pre Worked xs p) (run-cloned pre) w (fair-paired bad.of pre Worked xs p)
    step-whole pre Heard xs f h there p w = heard-whole bad me own (run pre empty) w

    pub run-whole : (pre xs : List Entry) → Phase (run pre empty) xs → bad_run bad xs (run pre empty) ≡ 0 → Halved bad.half (run xs (run pre empty)) → Fair bad.of pre xs → Whole bad me own (run pre empty) []
        → Whole bad me own (run xs (run pre empty)) []
    run-whole pre [] f h there p w = w
    run-whole pre (x ∷ xs) f h there p w =
        let s : Slots = run pre empty in
        let g = first-good bad x xs s in
        let same : run (pre ++ x ∷ []) empty ≡ step s x = run_then pre (x ∷ []) empty in
        let after : Whole bad me own (step s x) [] = step-whole pre x xs f (omega (arith, g, h)) there p w in
        let phase : Phase (step s x) xs = next s x xs f in
        let rest : bad_run bad xs (step s x) ≡ 0 = omega (arith, g, h) in
        subst (λ (z : Slots). Whole bad me own (run xs z) []) same
        (run-whole (pre ++ x ∷ []) xs (subst (λ (z : Slots). Phase z xs) (sym same) phase) (subst (λ (z : Slots). bad_run bad xs z ≡ 0) (sym same) rest) (subst (λ (z : Slots). Halved bad.half (run xs z)) (sym same) there) (fair-next bad.of pre x xs p) (subst (λ (z : Slots). Whole bad me own z []) (sym same) after))
