-- Which promises hand on: at each moment of a run some are known to and the others not, whatever the kinds of those that aren't made yet.
use Rattle.std.proofs.Common.{◌≡◌, ℕ, ◌≤◌, ◌<◌, Bool, true, false, nat_lt, if◌then◌else◌, List, [], ◌∷◌, ◌++◌, Option, Some, None, Result, slice_get, refl, sym, ap, ◌∙◌, arith}
use Rattle.ws_value.specs.declared.ids.PipeId.{PipeId}
use Rattle.ws_value.specs.declared.ids.PromiseId.{PromiseId}
use Rattle.ws_value.specs.declared.ids.StreamId.{StreamId}
use Rattle.ws_value.specs.declared.value.Plain.{Plain}
use Rattle.ws_steps.specs.declared.effects.Effect.{Effect}
use Rattle.ws_steps.specs.declared.effects.Effect.TheVariants.{Readable}
use Rattle.ws_steps.specs.declared.promises.Job.{Job}
use Rattle.ws_steps.specs.declared.promises.Job.TheVariants.{Reaction as ReactionJob, Follow, Settle, Micro as MicroJob}
use Rattle.ws_steps.specs.declared.promises.Micro.{Micro}
use Rattle.ws_steps.specs.declared.promises.Micro.TheVariants.{PipeLook, PipeWrite, PipeNoParts, TeeHand}
use Rattle.ws_steps.specs.declared.promises.Step.{Step}
use Rattle.ws_steps.specs.Jobs.{steps, returned, resolved, micro_steps, job_effects}
use Rattle.ws_steps.specs.Promises.{next_job, after_next_job, watch}
use Rattle.ws_steps.specs.Run.{later_events, after_event, older}
use Rattle.ws_steps.specs.Slots.{Slots, reads_any, is_teed, with_promises}
use Rattle.ws_steps.specs.Turns.{row}
use Rattle.ws_reason_laws.proofs.InTable.{next-keeps, next-count, watch-keeps, watch-count, told-keeps}
use Rattle.ws_reason_laws.proofs.Readables.{effects-append}
use Rattle.ws_reason_laws.proofs.Rows.{Fits, Soft, kind, row-more, stream-there, reader-soft, turn-good}
use Rattle.ws_reason_laws.proofs.Teed.{row-teed}
use Rattle.ws_reason_laws.proofs.Weights.{Class, of_result, settles, in_job, in_effects, AllGood, count}

below : (i n : ℕ) → i < n → nat_lt i n ≡ true
below i n h = grind arith

above : (i n : ℕ) → n ≤ i → nat_lt i n ≡ false
above i n h = grind arith

-- a promise that is there and hands on, where one is looked at
abbrev pub Mine : Option ℕ → (ℕ → Bool) → ℕ → Type 0
Mine None hands n = Unit {0}
Mine (Some q) hands n = (q < n) × (hands q ≡ true)

-- how bad each reason is, and whether the stream of each number is a half of a transform stream
pub record Badness : Type 0 where
  pub of : Plain → ℕ
  pub half : ℕ → Bool

abbrev pub class : Badness → PipeId → (ℕ → Bool) → (ℕ → Bool) → Class
class bad me f g = record { bad = bad.of; hands = f; me = me; half = bad.half; teed = g }

-- the streams that tees read are among these
abbrev pub Teed : (ℕ → Bool) → Slots → Type 0
Teed g s = (i : StreamId) → g i.0 ≡ false → is_teed i s ≡ false

-- these are they
abbrev pub teed_at : Slots → ℕ → Bool
teed_at s n = is_teed (record { 0 = n }) s

pub teed-at : (s : Slots) → Teed (teed_at s) s
teed-at s i e = e

-- nothing bad stands anywhere, whichever of the promises that are to come will hand on
pub record Known (bad : Badness) (me : PipeId) (own : Option ℕ) (s : Slots) (es : List Effect) : Type 0 where
  pub hands : ℕ → Bool
  pub mine : Mine own hands (count s.promises)
  pub good : (f g : ℕ → Bool) → ((i : ℕ) → i < count s.promises → f i ≡ hands i) → Teed g s → AllGood (class bad me f g) s es

-- where promises are made
abbrev pub with_new : Slots → (ℕ → Bool) → (ℕ → Bool) → ℕ → Bool
with_new s hands news i = if nat_lt i (count s.promises) then hands i else news i

-- another promise may be looked at from then on
pub known-new : (bad : Badness) (me : PipeId) (own new : Option ℕ) (s z : Slots) (es cs : List Effect) (news : ℕ → Bool) (k : Known bad me own s es) → Mine new (with_new s k.hands news) (count z.promises)
    → ((i : StreamId) → is_teed i z ≡ false → is_teed i s ≡ false) → count s.promises ≤ count z.promises
    → ((f g : ℕ → Bool) → Teed g z → ((i : ℕ) → count s.promises ≤ i → i < count z.promises → f i ≡ news i) → AllGood (class bad me f g) s es → AllGood (class bad me f (teed_at s)) s es → AllGood (class bad me f g) z cs) → Known bad me new z cs
known-new bad me own new s z es cs news k mine teed grows next = record {
  hands = with_new s k.hands news;
  mine = mine;
  good = λ f g same reads.
      let old : (i : ℕ) → i < count s.promises → f i ≡ k.hands i = λ i h. same i (omega (arith, h, grows)) ∙ (let n = below i (count s.promises) h in rw n refl) in
      next f g reads (λ i l h. same i h ∙ (let n = above i (count s.promises) l in rw n refl)) (k.good f g old (λ i e. teed i (reads i e))) (k.good f (teed_at s) old (teed-at s));
}

still_mine : (own : Option ℕ) (s : Slots) (m : ℕ) (hands news : ℕ → Bool) → count s.promises ≤ m → Mine own hands (count s.promises) → Mine own (with_new s hands news) m
still_mine None s m hands news l k = tt
still_mine (Some q) s m hands news l k =
    let h = k.0 in let n = below q (count s.promises) h in (omega (arith, h, l), rw n k.1)

same_mine : (own : Option ℕ) (n m : ℕ) (hands : ℕ → Bool) → m ≡ n → Mine own hands n → Mine own hands m
same_mine own n m hands e k = rw e k

module _ (bad : Badness) (me : PipeId) (own : Option ℕ) where
  abbrev K : Slots → List Effect → Type 0
  K s es = Known bad me own s es

  -- where tees are made, or the reader is let go of
  pub known-turn : (s z : Slots) (es cs : List Effect) (news : ℕ → Bool) → K s es → ((i : StreamId) → is_teed i z ≡ false → is_teed i s ≡ false) → count s.promises ≤ count z.promises
      → ((f g : ℕ → Bool) → Teed g z → ((i : ℕ) → count s.promises ≤ i → i < count z.promises → f i ≡ news i) → AllGood (class bad me f g) s es → AllGood (class bad me f (teed_at s)) s es → AllGood (class bad me f g) z cs) → K z cs
  known-turn s z es cs news k teed grows next =
      known-new bad me own own s z es cs news k (still_mine own s (count z.promises) k.hands news grows k.mine) teed grows next

  pub known-next : (s z : Slots) (es cs : List Effect) (news : ℕ → Bool) → K s es → z.tees ≡ s.tees → count s.promises ≤ count z.promises
      → ((f g : ℕ → Bool) → ((i : ℕ) → count s.promises ≤ i → i < count z.promises → f i ≡ news i) → AllGood (class bad me f g) s es → AllGood (class bad me f g) z cs) → K z cs
  known-next s z es cs news k tees grows next =
      known-turn s z es cs news k (λ i e. sym (ap (reads_any i) tees) ∙ e) grows (λ f g reads new good exact. next f g new good)

  -- where none is made
  pub known-same : (s z : Slots) (es cs : List Effect) → K s es → z.tees ≡ s.tees → count z.promises ≡ count s.promises → ((f g : ℕ → Bool) → AllGood (class bad me f g) s es → AllGood (class bad me f g) z cs) → K z cs
  known-same s z es cs k tees e next = record {
    hands = k.hands;
    mine = same_mine own (count s.promises) (count z.promises) k.hands e k.mine;
    good = λ f g same reads. next f g (k.good f g (λ i h. same i (omega (arith, h, e))) (λ i n. sym (ap (reads_any i) tees) ∙ reads i n));
  }

  pub row-known : (s : Slots) (e : Effect) (es : List Effect) → Fits bad.of bad.half me e s → K s (e ∷ es) → K (row e s).slots ((row e s).caused ++ es)
  row-known s e es x k =
      known-turn s (row e s).slots (e ∷ es) ((row e s).caused ++ es) (λ i. kind e) k (λ i n. sym (row-teed i e s) ∙ n) (row-more e s)
      (λ f g reads news good exact. turn-good (class bad me f g) (count (row e s).slots.promises) e es s good x (soft f g e es x exact) news (omega arith))
    where
      soft : (f g : ℕ → Bool) (e : Effect) (es : List Effect) → Fits bad.of bad.half me e s → AllGood (class bad me f (teed_at s)) s (e ∷ es) → Soft (class bad me f g) e s
      soft f g (Readable i operation) es x h = λ is r.
          let there = stream-there (class bad me f (teed_at s)) s.streams i.0 (omega (arith, h)) in reader-soft (class bad me f (teed_at s)) i.0 (slice_get s.streams i.0) is (x.1 r) there
      soft f g e es x h = tt

  -- jobs

  good_settles : (k : Class) (n : ℕ) (o : Result Plain Plain) → of_result k o ≡ 0 → settles k n o ≡ 0
  good_settles k n o h = grind (arith, h)

  resolved-good : (k : Class) (d : Option PromiseId) (o : Result Plain Plain) → of_result k o ≡ 0 → in_effects k (resolved d o) ≡ 0
  resolved-good k None o h = refl
  resolved-good k (Some p) o h = let a = good_settles k p.0 o h in omega (arith, a)

  steps-good : (k : Class) (step : Step) (o : Result Plain Plain) (d : Option PromiseId) → in_job k (ReactionJob step o d) ≡ 0 → in_effects k (steps step o) ≡ 0
  steps-good k step o d h = grind (arith, h)

  returned-good : (k : Class) (step : Step) (o : Result Plain Plain) (d : Option PromiseId) → in_job k (ReactionJob step o d) ≡ 0 → of_result k (returned step o) ≡ 0
  returned-good k step o d h = grind (arith, h)

  micro-good : (k : Class) (m : Micro) → in_effects k (micro_steps m) ≡ 0
  micro-good k (PipeLook p) = refl
  micro-good k (PipeWrite p) = refl
  micro-good k (PipeNoParts p) = refl
  micro-good k (TeeHand t) = refl

  job-good : (k : Class) (job : Job) → in_job k job ≡ 0 → in_effects k (job_effects job) ≡ 0
  job-good k (ReactionJob step o d) h =
      let a = steps-good k step o d h in
      let b = resolved-good k d (returned step o) (returned-good k step o d h) in
      let c = effects-append k (steps step o) (resolved d (returned step o)) in
      omega (arith, a, b, c)
  job-good k (Follow p q) h = refl
  job-good k (Settle p o) h = let a = good_settles k p.0 o h in omega (arith, a)
  job-good k (MicroJob m) h = micro-good k m

  pub job-known : (s : Slots) (job : Job) → next_job s.promises ≡ Some job → K s [] → K (with_promises (after_next_job s.promises) s) (job_effects job)
  job-known s job e k =
      known-same s (with_promises (after_next_job s.promises) s) [] (job_effects job) k refl (next-count s.promises)
      (λ f g h.
      let a = next-keeps (class bad me f g) job s.promises e (omega (arith, h)) in
      let b = a.0 in
      let c = job-good (class bad me f g) job a.1 in
      omega (arith, h, b, c))

  -- what comes between effects

  pub watch-known : (s : Slots) (p : PromiseId) → K s [] → K (with_promises (watch p s.promises) s) []
  watch-known s p k =
      known-same s (with_promises (watch p s.promises) s) [] [] k refl (watch-count p s.promises)
      (λ f g h. let a = watch-keeps (class bad me f g) p s.promises (omega (arith, h)) in omega (arith, h, a))

  pub older-known : (s : Slots) → K s [] → K (older s) []
  older-known s k = record { hands = k.hands; mine = k.mine; good = k.good }

  pub event-known : (s : Slots) → K s [] → K (after_event s) []
  event-known s k = known-same s (after_event s) [] [] k refl refl (λ f g h. let a = told-keeps (class bad me f g) (later_events s.promises.events) s.promises (omega (arith, h)) in omega (arith, h, a))
