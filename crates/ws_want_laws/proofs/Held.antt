-- Over every run a transform stream holds the result of one write at most, and its writable half hears of that.
use Rattle.std.proofs.Common.{◌≡◌, ℕ, ◌+◌, ◌≤◌, List, [], ◌∷◌, ◌++◌, Some, refl, arith}
use Rattle.ws_value.specs.declared.{ids.PromiseId.{PromiseId}, ids.StreamId.{StreamId}}
use Rattle.ws_steps.specs.declared.calls.{Call.{Call}}
use Rattle.ws_steps.specs.declared.effects.{Effect.{Effect}}
use Rattle.ws_steps.specs.declared.promises.Job.{Job}
use Rattle.ws_steps.specs.declared.promises.Reaction.{Reaction}
use Rattle.ws_steps.specs.declared.transform.TransformId.{TransformId}
use Rattle.ws_steps.specs.Calls.{begin}
use Rattle.ws_steps.specs.Jobs.{job_effects}
use Rattle.ws_steps.specs.Promises.{next_job, after_next_job, watch}
use Rattle.ws_steps.specs.Run.{older, after_event}
use Rattle.ws_steps.specs.Slots.{Slots, empty, with_promises}
use Rattle.ws_steps.specs.Turns.{row}
use Rattle.ws_laws.proofs.Begin.{begin-makes}
use Rattle.ws_laws.proofs.Weights.{weigh, taken_off, weigh-fresh, weigh-next, weigh-watch}
use Rattle.ws_writable_laws.proofs.Shape.{of_reaction, is_write}
use Rattle.ws_promise_laws.proofs.Runs.{Straight, straight-stays, straight-heard, straight-empty}
use Rattle.ws_promise_laws.proofs.Tokens.{names}
use Rattle.ws_transform_laws.proofs.Waited.{changing, all_waiting}
use Rattle.ws_transform_laws.proofs.Waiting.{Waits, Queued, waits_from, waits-changes, queued-changes, waits-watch, queued-watch}
use Rattle.ws_want_laws.proofs.Bound.{one, tokens, token-pending, weigh-more}
use Rattle.ws_want_laws.proofs.Ears.{Carries, ear-next, ear-on}
use Rattle.ws_want_laws.proofs.Holding.{IsHalf, Faithful, Heeds, Few, row-faithful, call-faithful, job-faithful, row-heeds, row-few}
use Rattle.ws_want_laws.proofs.Results.{promised, all_in_hand, among, call-bare, job-same}

module _ (t : TransformId) (i : StreamId) where
  -- what holds at each moment
  pub record Held (s : Slots) (es : List Effect) : Type 0 where
    pub straight : Straight s es
    pub faithful : Faithful t i s es
    pub heeds : Heeds t i s es
    pub few : Few t i s es

  -- of the writes that wait too

  waiting-held : (x : Reaction) → of_reaction (changing t) x ≤ promised t one x
  waiting-held x = grind arith

  pub all-held : (s : Slots) → all_waiting t s ≤ among t one s
  all-held s = weigh-more (of_reaction (changing t)) (promised t one) waiting-held s.promises

  pub row-held : (s : Slots) (e : Effect) (es : List Effect) → IsHalf t i s → Held s (e ∷ es) → Held (row e s).slots ((row e s).caused ++ es)
  row-held s e es h k = record {
    straight = straight-stays.row s e es k.straight;
    faithful = row-faithful t i s e es (k.straight.known i).1.halved h k.faithful;
    heeds = row-heeds t i s e es k.faithful.0 k.straight k.heeds;
    few = row-few t i s e es k.faithful.0 k.straight k.heeds k.few;
  }

  -- from rest

  -- so much is held as before at most, and is heard
  rests-held : (s z : Slots) (es : List Effect) → Carries s z → ((P : PromiseId → ℕ) → among t P z ≤ among t P s)
      → ((P : PromiseId → ℕ) → all_in_hand t P es ≡ 0) → Heeds t i s [] × Few t i s [] → Heeds t i z es × Few t i z es
  rests-held s z es c l none k =
      (λ d n. let a = l (names d) in let b = none (names d) in ear-on (is_write i) s z es d c (k.0 d (omega arith)), let a = l one in let b = none one in let n = k.1 in omega arith)

  next-weighs : (P : PromiseId → ℕ) (s : Slots) (job : Job) → next_job s.promises ≡ Some job
      → among t P (with_promises (after_next_job s.promises) s) + all_in_hand t P (job_effects job) ≤ among t P s
  next-weighs P s job e =
      let a = job-same t P job in
      let b : weigh (promised t P) (after_next_job s.promises) + taken_off (promised t P) job ≤ weigh (promised t P) s.promises = rw e at (weigh-next (promised t P) s.promises) in omega arith

  next-held : (s : Slots) (job : Job) → next_job s.promises ≡ Some job → Straight s [] → Heeds t i s [] × Few t i s []
      → Heeds t i (with_promises (after_next_job s.promises) s) (job_effects job) × Few t i (with_promises (after_next_job s.promises) s) (job_effects job)
  next-held s job e straight k = (
    λ d n.
        let a = next-weighs (names d) s job e in
        let held : 1 ≤ tokens t (names d) s [] = omega arith in
        ear-next (is_write i) s job (job_effects job) d straight.sound e (token-pending t d s [] straight.sound held) (k.0 d held),
    let a = next-weighs one s job e in let n = k.1 in omega arith,
  )

  -- calls

  pub call-carries : (c : Call) (s : Slots) → Carries s (begin c s).done.slots
  call-carries c s = record {
    waits = λ f p w. begin-makes (λ z. Waits f 1 p z.promises) (record {
      promise = λ z k. (waits-changes f 1 p).fresh z.promises k;
      locks = λ z ls k. k;
      hosts = λ z hs k. k;
      pipe = λ z source dest prevent signal promise k. k;
      signal = λ z k. k;
      transform = λ z kind w q change k. k;
      tee = λ z source first second cancel k. k;
      port = λ z side stream backpressure k. k;
      bytes = λ z mark auto k. k;
      byob_requests = λ z hs k. k;
      readable = λ z o mark size k. k;
      writable = λ z o mark size k. k;
    }) c s w;
    queued = λ f q. begin-makes (λ z. Queued f 1 z.promises) (record {
      promise = λ z k. (queued-changes f 1).fresh z.promises k;
      locks = λ z ls k. k;
      hosts = λ z hs k. k;
      pipe = λ z source dest prevent signal promise k. k;
      signal = λ z k. k;
      transform = λ z kind w q change k. k;
      tee = λ z source first second cancel k. k;
      port = λ z side stream backpressure k. k;
      bytes = λ z mark auto k. k;
      byob_requests = λ z hs k. k;
      readable = λ z o mark size k. k;
      writable = λ z o mark size k. k;
    }) c s q;
  }

  within : (m n k : ℕ) → m ≤ n → n ≤ k → m ≤ k
  within m n k a b = omega arith

  call-weighs : (P : PromiseId → ℕ) (c : Call) (s : Slots) → among t P (begin c s).done.slots ≤ among t P s
  call-weighs P c s = begin-makes (λ z. among t P z ≤ among t P s) (record {
    promise = λ z k. within _ _ _ (weigh-fresh (promised t P) z.promises) k;
    locks = λ z ls k. k;
    hosts = λ z hs k. k;
    pipe = λ z source dest prevent signal promise k. k;
    signal = λ z k. k;
    transform = λ z kind w q change k. k;
    tee = λ z source first second cancel k. k;
    port = λ z side stream backpressure k. k;
    bytes = λ z mark auto k. k;
    byob_requests = λ z hs k. k;
    readable = λ z o mark size k. k;
    writable = λ z o mark size k. k;
  }) c s (omega arith)

  pub call-held : (s : Slots) (c : Call) → Held s [] → Held (begin c s).done.slots (begin c s).done.caused
  call-held s c k =
      let z : Slots = (begin c s).done.slots in
      let held = rests-held s z (begin c s).done.caused (call-carries c s) (λ P. call-weighs P c s) (λ P. call-bare t P c s) (k.heeds, k.few) in
      record { straight = straight-stays.call s c k.straight; faithful = call-faithful t i c s z; heeds = held.0; few = held.1 }

  pub job-held : (s : Slots) (job : Job) → next_job s.promises ≡ Some job → Held s [] → Held (with_promises (after_next_job s.promises) s) (job_effects job)
  job-held s job e k =
      let held = next-held s job e k.straight (k.heeds, k.few) in
      record { straight = straight-stays.job s job e k.straight; faithful = job-faithful t i job (with_promises (after_next_job s.promises) s); heeds = held.0; few = held.1 }

  pub answered-held : (s : Slots) (p : PromiseId) → Held s [] → Held (with_promises (watch p s.promises) s) []
  answered-held s p k =
      let held = rests-held s (with_promises (watch p s.promises) s) [] (record { waits = λ f q w. waits-watch f 1 q s.promises p w; queued = λ f q. queued-watch f 1 s.promises p q })
      (λ P. weigh-watch (promised t P) p s.promises) (λ P. refl) (k.heeds, k.few) in
      record { straight = straight-stays.answered s p k.straight; faithful = tt; heeds = held.0; few = held.1 }

  pub same-carries : (s z : Slots) → z.promises.entries ≡ s.promises.entries → z.promises.jobs ≡ s.promises.jobs → Carries s z
  same-carries s z e f = record { waits = λ g p w. waits_from g 1 p s.promises z.promises e w; queued = λ g q. rw f q }

  pub older-held : (s : Slots) → Held s [] → Held (older s) []
  older-held s k =
      let held = rests-held s (older s) [] (same-carries s (older s) refl refl) (λ P. omega arith) (λ P. refl) (k.heeds, k.few) in
      record { straight = straight-stays.older s k.straight; faithful = tt; heeds = held.0; few = held.1 }

  heard-weighs : (P : PromiseId → ℕ) (s : Slots) → among t P (after_event s) ≤ among t P s
  unfolding weigh
  heard-weighs P s = omega arith

  pub heard-held : (s : Slots) → Held s [] → Held (after_event s) []
  heard-held s k =
      let held = rests-held s (after_event s) [] (same-carries s (after_event s) refl refl) (λ P. heard-weighs P s) (λ P. refl) (k.heeds, k.few) in
      record { straight = straight-heard s k.straight; faithful = tt; heeds = held.0; few = held.1 }

  none-weighs : (P : PromiseId → ℕ) → among t P empty ≡ 0
  unfolding weigh
  none-weighs P = refl

  pub none-held : Held empty []
  none-held = record {
    straight = straight-empty;
    faithful = tt;
    heeds = λ d n. let a = none-weighs (names d) in absurd (omega arith);
    few = let a = none-weighs one in omega arith;
  }
