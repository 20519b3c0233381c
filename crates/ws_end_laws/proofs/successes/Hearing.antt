-- What a pipe hears of its action, and of a part of it (`each_outcome_heard_is_the_promises`, `each_outcome_of_a_part_is_its_promises`).
use Rattle.std.proofs.Common.{◌≡◌, List, [], ◌∷◌, ◌++◌, length, Some, Result, refl, sym, ap, subst, ◌∙◌, append_assoc, append-nil}
use Rattle.ws_value.specs.declared.{ids.PipeId.{PipeId}, ids.PromiseId.{PromiseId}}
use Rattle.ws_value.specs.declared.value.{Plain.{Plain}}
use Rattle.ws_steps.specs.declared.calls.{Call.{Call}, Event.{Event}, HostCall.{HostCall}, Event.TheVariants.{Host as HostCalled}}
use Rattle.ws_steps.specs.declared.effects.Effect.{Effect}
use Rattle.ws_steps.specs.declared.effects.Effect.TheVariants.{Pipe, Give, CallHost}
use Rattle.ws_steps.specs.declared.{effects.Gift.{Gift}, effects.Gift.TheVariants.{This, Fresh}, effects.Use.{Use}, effects.Use.TheVariants.{React, Resolve}}
use Rattle.ws_steps.specs.declared.pipes.{PipeOperation.{PipeOperation}, PipeOperation.TheVariants.{ActionSettled, PartSettled}}
use Rattle.ws_steps.specs.declared.promises.{Job.{Job}}
use Rattle.ws_steps.specs.Calls.{begin}
use Rattle.ws_steps.specs.Jobs.{job_effects}
use Rattle.ws_steps.specs.Pipes as pipe
use Rattle.ws_steps.specs.Promises.{Table, fresh, fresh_settled, tell, use_this, use_gift, next_id, first_job, after_next_job, watch}
use Rattle.ws_steps.specs.Run.{Entry, run, step, after_event}
use Rattle.ws_steps.specs.Slots.{Slots, empty, with_promises}
use Rattle.ws_steps.specs.Turns.{Moment, row, call_host}
use Rattle.ws_laws.proofs.Begin.{begin-makes}
use Rattle.ws_laws.proofs.Lists.{Each, each-append}
use Rattle.ws_laws.proofs.Outcomes.{Keeps, keeps-same, keeps-then, keeps-fresh, keeps-next, keeps-entries}
use Rattle.ws_laws.proofs.Rows.{row-changes}
use Rattle.ws_laws.proofs.Stays.{keeps-changes}
use Rattle.ws_laws.proofs.Walker.{GoesUntold, run-holds}
use Rattle.ws_pipe_laws.specs.pipes.PipeHistory.{effect_moment, run_moments}
use Rattle.ws_pipe_laws.specs.pipes.PipeWrites.{AllSince}
use Rattle.ws_pipe_laws.proofs.writes.Orderly.{moment, moments_history}
use Rattle.ws_end_laws.proofs.hosts.Places.{self}
use Rattle.ws_end_laws.proofs.hosts.Plain.{row-plainly}
use Rattle.ws_end_laws.specs.successes.Heard.{Awaited, ItsAction, APart, is_reaction, effect_heard, promises_heard, Among, IsOutcome, EachOutcomeHeardIsThePromises, EachOutcomeOfAPartIsItsPromises}
use Rattle.ws_end_laws.proofs.successes.Reacts.{JobFits, JobsFit, Heeds, heeds-more, outcome-keeps, react-heeds, either-heeds, follow-heeds, fresh-heeds, settle-heeds, tell-heeds, watch-heeds, next-heeds, same-heeds, heeds-plainly}
use Rattle.ws_end_laws.proofs.successes.Hears.{NoUse, Fits, OwnOf, caused-fit, call-fits, job-effects-fit, each-weaker, among-left, all-in}

-- the operation by which a pipe is told so
abbrev pub tells : Awaited → Result Plain Plain → PipeOperation
tells ItsAction o = ActionSettled o
tells APart o = PartSettled o

told_now : (what : Awaited) (p : PipeId) (P : PromiseId → Type 0) (V : Result Plain Plain → Type 0) (o : Result Plain Plain) → Fits what p P V (Pipe p (tells what o)) → V o
told_now ItsAction p P V o f = f (self p)
told_now APart p P V o f = f (self p)

pub keeps-row : (e : Effect) (s : Slots) → Keeps s.promises (row e s).slots.promises
keeps-row e s = row-changes (Keeps s.promises) (keeps-changes s.promises) e s (keeps-same s.promises)

pub call-keeps : (c : Call) (s : Slots) → Keeps s.promises (begin c s).done.slots.promises
call-keeps c s = begin-makes (λ z. Keeps s.promises z.promises) (record {
  promise = λ z m. keeps-then s.promises z.promises (fresh z.promises) m (keeps-fresh z.promises);
  locks = λ z ls m. m;
  hosts = λ z hs m. m;
  pipe = λ z source dest prevent signal promise m. m;
  signal = λ z m. m;
  transform = λ z kind half other change m. m;
  tee = λ z source first second cancel m. m;
  port = λ z side stream backpressure m. m;
  bytes = λ z mark auto m. m;
  byob_requests = λ z hs m. m;
  readable = λ z owner mark size m. m;
  writable = λ z owner mark size m. m;
}) c s (keeps-same s.promises)

since-append : (Q : List Moment → Moment → Type 0) (past ms : List Moment) (m : Moment) → AllSince Q past ms → Q (past ++ ms) m → AllSince Q past (ms ++ m ∷ [])
since-append Q past [] m a q = (subst (λ (h : List Moment). Q h m) (append-nil past) q, tt)
since-append Q past (x ∷ ms) m a q = (a.0, since-append Q (past ++ x ∷ []) ms m a.1 (subst (λ (h : List Moment). Q h m) (sym (append_assoc past (x ∷ []) ms)) q))

module _ (what : Awaited) (p : PipeId) where
  pub heard-append : (ms ns : List Moment) → promises_heard what p (ms ++ ns) ≡ promises_heard what p ms ++ promises_heard what p ns
  heard-append [] ns = refl
  heard-append (m ∷ ms) ns = ap (λ (ds : List PromiseId). effect_heard what p m.effect m.found ++ ds) (heard-append ms ns) ∙ sym (append_assoc (effect_heard what p m.effect m.found) (promises_heard what p ms) (promises_heard what p ns))

  pub one_heard : (ms : List Moment) (e : Effect) (s : Slots) → promises_heard what p (ms ++ moment e s ∷ []) ≡ promises_heard what p ms ++ effect_heard what p e s
  one_heard ms e s = heard-append ms (moment e s ∷ []) ∙ ap (λ (ds : List PromiseId). promises_heard what p ms ++ ds) (append-nil (effect_heard what p e s))

  abbrev pub V : List PromiseId → Slots → Result Plain Plain → Type 0
  V ds s o = IsOutcome s.promises ds o

  abbrev pub P : List PromiseId → PromiseId → Type 0
  P ds q = Among q ds

  abbrev pub Truly : List Moment → Moment → Type 0
  Truly past m = (o : Result Plain Plain) → m.effect ≡ Pipe p (tells what o) → IsOutcome m.found.promises (promises_heard what p past) o

  -- what was told so far is the outcome of one of these promises, and so is what will be
  pub record Hearing (h : List Moment) (s : Slots) (es : List Effect) : Type 0 where
    pub truly : AllSince Truly [] h
    pub heeds : Heeds (is_reaction what p) (promises_heard what p h) s.promises
    pub fits : Each (Fits what p (P (promises_heard what p h)) (V (promises_heard what p h) s)) es

  -- promises, by an effect

  use-heeds : (ds : List PromiseId) (q : PromiseId) (t : Table) (u : Use) → NoUse what p u → Heeds (is_reaction what p) ds t → Heeds (is_reaction what p) ds (use_this q t u)
  use-heeds ds q t (React step d) n g = react-heeds (is_reaction what p) ds q _ t n g
  use-heeds ds q t (Resolve r) n g = follow-heeds (is_reaction what p) ds r q t g

  gift-heeds : (ds : List PromiseId) (W : Result Plain Plain → Type 0) (gift : Gift) (u : Use) (t : Table) → Fits what p (P ds) W (Give gift u) → Heeds (is_reaction what p) ds t → Heeds (is_reaction what p) ds (use_gift gift u t)
  unfolding use_gift
  gift-heeds ds W (This q) (React step d) t f g = either-heeds (is_reaction what p) ds q step d t (is_reaction what p step) refl f g
  gift-heeds ds W (This q) (Resolve r) t f g = follow-heeds (is_reaction what p) ds r q t g
  gift-heeds ds W (Fresh o) u t f g = use-heeds ds (next_id t) (fresh_settled o t) u f (settle-heeds (is_reaction what p) ds (fresh t) (next_id t) o (fresh-heeds (is_reaction what p) ds t g))

  host-heeds : (ds : List PromiseId) (s : Slots) (call : HostCall) (u : Use) → NoUse what p u → Heeds (is_reaction what p) ds s.promises → Heeds (is_reaction what p) ds (call_host call u s).promises
  unfolding call_host
  host-heeds ds s call u n g =
      let told : Event = HostCalled (record { 0 = length s.hosts }) call in
      use-heeds ds (next_id s.promises) (tell told (fresh s.promises)) u n (tell-heeds (is_reaction what p) ds told (fresh s.promises) (fresh-heeds (is_reaction what p) ds s.promises g))

  row-heeds : (ds : List PromiseId) (W : Result Plain Plain → Type 0) (s : Slots) (e : Effect) → Fits what p (P ds) W e → Heeds (is_reaction what p) ds s.promises → Heeds (is_reaction what p) ds (row e s).slots.promises
  unfolding row
  row-heeds ds W s (Give gift u) f g = gift-heeds ds W gift u s.promises f g
  row-heeds ds W s (CallHost call u) f g = host-heeds ds s call u f g
  row-heeds ds W s e f g = row-plainly (Heeds (is_reaction what p) ds) (heeds-plainly (is_reaction what p) ds) e s tt g

  -- what the first effect tells
  pub told_so : (ds : List PromiseId) (s : Slots) (e : Effect) → Fits what p (P ds) (V ds s) e → (o : Result Plain Plain) → e ≡ Pipe p (tells what o) → IsOutcome s.promises ds o
  told_so ds s e f o is = told_now what p (P ds) (V ds s) o (subst (Fits what p (P ds) (V ds s)) is f)

  any-own : (e : Effect) → OwnOf what p (λ q. Unit {0}) (λ o. ⊥) e
  any-own (Pipe q operation) = λ m d. tt
  any-own e = tt

  row-hearing : (h : List Moment) (s : Slots) (e : Effect) (es : List Effect) → Hearing h s (e ∷ es) → Hearing (h ++ moment e s ∷ []) (row e s).slots ((row e s).caused ++ es)
  row-hearing h s e es k =
      let z : Slots = (row e s).slots in
      let ds : List PromiseId = promises_heard what p h in
      let fs : List PromiseId = ds ++ effect_heard what p e s in
      let keeps : Keeps s.promises z.promises = keeps-row e s in
      let grown : (o : Result Plain Plain) → V ds s o → V fs z o = λ o a. let b = outcome-keeps s.promises z.promises ds o keeps a in record { promise = b.promise; among = among-left b.promise ds (effect_heard what p e s) b.among; outcome = b.outcome } in
      let caused : Each (Fits what p (λ q. Unit {0}) (λ o. ⊥)) (row e s).caused = caused-fit what p (λ q. Unit {0}) (λ o. ⊥) (P ds) (V ds s) e s (any-own e) k.fits.0 in
      let fits : Each (Fits what p (P fs) (V fs z)) ((row e s).caused ++ es) =
      each-append (Fits what p (P fs) (V fs z)) (row e s).caused es
      (each-weaker what p (P fs) (P fs) (λ o. ⊥) (V fs z) (λ q a. a) (λ o a. absurd a) (row e s).caused (all-in what p (λ o. ⊥) ds (row e s).caused caused))
      (each-weaker what p (P ds) (P fs) (V ds s) (V fs z) (λ q a. among-left q ds (effect_heard what p e s) a) grown es k.fits.1) in
      let heeds : Heeds (is_reaction what p) fs z.promises =
      heeds-more (is_reaction what p) ds fs z.promises (λ q a. among-left q ds (effect_heard what p e s) a) (row-heeds ds (V ds s) s e k.fits.0 k.heeds) in
      let names : promises_heard what p (h ++ moment e s ∷ []) ≡ fs = one_heard h e s in
      record {
        truly = since-append Truly [] h (moment e s) k.truly (told_so ds s e k.fits.0);
        heeds = subst (λ (cs : List PromiseId). Heeds (is_reaction what p) cs z.promises) (sym names) heeds;
        fits = subst (λ (cs : List PromiseId). Each (Fits what p (P cs) (V cs z)) ((row e s).caused ++ es)) (sym names) fits;
      }

  call-heeds : (ds : List PromiseId) (c : Call) (s : Slots) → Heeds (is_reaction what p) ds s.promises → Heeds (is_reaction what p) ds (begin c s).done.slots.promises
  call-heeds ds c s k = begin-makes (λ z. Heeds (is_reaction what p) ds z.promises) (record {
    promise = λ z m. fresh-heeds (is_reaction what p) ds z.promises m;
    locks = λ z ls m. m;
    hosts = λ z hs m. m;
    pipe = λ z source dest prevent signal promise m. m;
    signal = λ z m. m;
    transform = λ z kind half other change m. m;
    tee = λ z source first second cancel m. m;
    port = λ z side stream backpressure m. m;
    bytes = λ z mark auto m. m;
    byob_requests = λ z hs m. m;
    readable = λ z owner mark size m. m;
    writable = λ z owner mark size m. m;
  }) c s k

  first_fits : (W : Result Plain Plain → Type 0) (js : List Job) (job : Job) → first_job js ≡ Some job → JobsFit (is_reaction what p) W js → JobFits (is_reaction what p) W job
  first_fits W [] job e f = cc
  first_fits W (j ∷ js) job e f = let is : j ≡ job = cc in subst (JobFits (is_reaction what p) W) is f.0

  -- only promises change
  promises-hearing : (h : List Moment) (s : Slots) (t : Table) (cs : List Effect) → Hearing h s [] → let z : Slots = with_promises t s in Heeds (is_reaction what p) (promises_heard what p h) t
      → Each (Fits what p (P (promises_heard what p h)) (V (promises_heard what p h) z)) cs → Hearing h z cs
  promises-hearing h s t cs k heeds fits = record { truly = k.truly; heeds = heeds; fits = fits }

  pub hearing-goes : GoesUntold ◌++◌ effect_moment Hearing
  hearing-goes = record {
    row = row-hearing;
    call = λ h s c k. record {
      truly = k.truly;
      heeds = call-heeds (promises_heard what p h) c s k.heeds;
      fits = call-fits what p (P (promises_heard what p h)) (V (promises_heard what p h) (begin c s).done.slots) c s;
    };
    job = λ h s job e k.
        let ds : List PromiseId = promises_heard what p h in
        let z : Slots = with_promises (after_next_job s.promises) s in
        promises-hearing h s (after_next_job s.promises) (job_effects job) k (next-heeds (is_reaction what p) ds s.promises k.heeds)
        (each-weaker what p (P ds) (P ds) (V ds s) (V ds z) (λ q a. a) (λ o a. outcome-keeps s.promises z.promises ds o (keeps-next s.promises) a) (job_effects job)
        (job-effects-fit what p (P ds) (V ds s) job (first_fits (V ds s) s.promises.jobs job e k.heeds.queued)));
    answered = λ h s q k. promises-hearing h s (watch q s.promises) [] k (watch-heeds (is_reaction what p) (promises_heard what p h) q s.promises k.heeds) tt;
    older = λ h s k. record { truly = k.truly; heeds = k.heeds; fits = tt };
  }

  pub heard-hearing : (h : List Moment) (s : Slots) → Hearing h s [] → Hearing h (after_event s) []
  heard-hearing h s k =
      let z : Slots = after_event s in
      let keeps : Keeps s.promises z.promises = keeps-entries s.promises z.promises refl (λ m. m) in
      record { truly = k.truly; heeds = same-heeds (is_reaction what p) (promises_heard what p h) s.promises z.promises refl refl keeps k.heeds; fits = tt }

  unmarked : Heeds (is_reaction what p) [] empty.promises
  unmarked = record { registered = λ q m. absurd (cc); queued = tt }

  pub empty-hearing : Hearing [] empty []
  empty-hearing = record { truly = tt; heeds = unmarked; fits = tt }

  run-hearing : (entries : List Entry) → Hearing (run_moments entries empty) (run entries empty) []
  run-hearing entries = run-holds [] ◌++◌ moments_history effect_moment Hearing hearing-goes (record { heard = heard-hearing }) entries empty empty-hearing

pub each_outcome_heard_is_the_promises : EachOutcomeHeardIsThePromises
each_outcome_heard_is_the_promises entries p = (run-hearing ItsAction p entries).truly

pub each_outcome_of_a_part_is_its_promises : EachOutcomeOfAPartIsItsPromises
each_outcome_of_a_part_is_its_promises entries p = (run-hearing APart p entries).truly
