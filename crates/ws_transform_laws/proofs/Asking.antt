-- Over every run, the writes of a transform stream that wait do so at its change promise, under backpressure, or are among the jobs.
use Rattle.std.proofs.Common.{◌≡◌, ◌≤◌, ◌-◌, ℕ, ◌+◌, Bool, true, false, List, ◌∷◌, ◌++◌, Option, Some, None, slice_get, refl, sym, subst, ap, arith}
use Rattle.ws_value.specs.declared.{ids.PromiseId.{PromiseId}}
use Rattle.ws_steps.specs.declared.calls.{Call.{Call}}
use Rattle.ws_steps.specs.declared.effects.{Effect.{Effect}, Gift.TheVariants.{This}, Use.{Use}}
use Rattle.ws_steps.specs.declared.effects.Effect.TheVariants.{Transform as OnTransform, Give}
use Rattle.ws_steps.specs.declared.promises.{Job.{Job}}
use Rattle.ws_steps.specs.declared.transform.{TransformId.{TransformId}}
use Rattle.ws_steps.specs.declared.transform.TransformOperation.TheVariants as names
use Rattle.ws_steps.specs.Begun.{Begun}
use Rattle.ws_steps.specs.Calls.{begin}
use Rattle.ws_steps.specs.Jobs.{job_effects}
use Rattle.ws_steps.specs.Operations.{transform_operation}
use Rattle.ws_steps.specs.Promises.{next_id, next_job, after_next_job, watch}
use Rattle.ws_steps.specs.Run.{older}
use Rattle.ws_steps.specs.Slots.{Slots, found, put_transform, on_transform_at, with_promises}
use Rattle.ws_steps.specs.Transform as transform
use Rattle.ws_steps.specs.Turns.{row}
use Rattle.ws_laws.proofs.Begin.{begin-makes}
use Rattle.ws_laws.proofs.Halves.{get-stays}
use Rattle.ws_laws.proofs.Walker.{Stays}
use Rattle.ws_laws.proofs.Weights.{of_job, taken_off, weigh-fresh, weigh-next, weigh-watch}
use Rattle.ws_laws.proofs.EachCall.{each_call}
use Rattle.ws_laws.proofs.Tables.{either, eq_numbers}
use Rattle.ws_writable_laws.proofs.Shape.{all, all-append, leads_to, of_use, of_reaction, weight}
use Rattle.ws_promise_laws.proofs.Runs.{Straight, straight-stays}
use Rattle.ws_promise_laws.proofs.Tokens.{in_effects}
use Rattle.ws_transform_laws.specs.TransformHistory.{is_same_transform}
use Rattle.ws_transform_laws.proofs.Asked.{asks_sink, row-none}
use Rattle.ws_transform_laws.proofs.Changing.{place-same}
use Rattle.ws_transform_laws.proofs.Waited.{changing, asks, all_waiting, queued, Where, InJobs, AtChange, row-where, row-asks}
use Rattle.ws_transform_laws.proofs.Waiting.{Waits, waits-changes, queued-changes, queued-first, queued-next, waits-next, waits-watch, queued-watch}

module _ (t : TransformId) where
  abbrev asking_of : List Effect → ℕ
  asking_of es = all (leads_to (changing t)) es

  -- a write asks to wait only by the effect at the front of the agenda, under backpressure
  pub data Asking (s : Slots) (es : List Effect) : Type 0 where
    Quiet : asking_of es ≡ 0 → Asking s es
    Asks : (x : transform.Slots) (d : PromiseId) (rest : List Effect) → slice_get s.transforms t.0 ≡ Some x → x.backpressure ≡ true → es ≡ asks t x d ∷ rest → asking_of rest ≡ 0 → Asking s es

  pub call-quiet : (c : Call) (s : Slots) → asking_of (begin c s).done.caused ≡ 0
  call-quiet c s = each_call (λ (b : Begun). asking_of b.done.caused ≡ 0) c s (grind arith)

  pub job-quiet : (job : Job) → asking_of (job_effects job) ≡ 0
  job-quiet job = grind arith

  sink-by : (s : Slots) (w : Use) (es : List Effect) (x : transform.Slots) → slice_get s.transforms t.0 ≡ Some x → of_use (changing t) w ≡ 0 → asking_of es ≡ 0
      → let b = transform.sink_write t w (record { slots = x; out = found s }) in Asking (put_transform t s b).slots (b.out.effects ++ es)
  unfolding transform.sink_write
  sink-by s w es x at none rest =
      let a : transform.Acts = record { slots = x; out = found s } in
      either (λ (b : transform.Acts). Asking (put_transform t s b).slots (b.out.effects ++ es)) x.backpressure (transform.wait_for_change t w a) (transform.perform_transform t w a)
      (λ e. Asks x (next_id s.promises) (Give (This (next_id s.promises)) w ∷ es) (place-same s.transforms t.0 x x at) e refl (omega (arith, none, rest)))
      (λ e. Quiet (omega (arith, none, rest)))

  sink-asking : (s : Slots) (w : Use) (es : List Effect) (o : Option transform.Slots) → slice_get s.transforms t.0 ≡ o → of_use (changing t) w ≡ 0 → asking_of es ≡ 0
      → let d = on_transform_at (λ halves. transform_operation t halves (names.SinkWrite w)) t s o in Asking d.slots (d.caused ++ es)
  sink-asking s w es None at none rest = Quiet rest
  sink-asking s w es (Some x) at none rest = sink-by s w es x at none rest

  calm-asking : (s : Slots) (e : Effect) (es : List Effect) → asks_sink t e ≡ false → leads_to (changing t) e ≡ 0 → asking_of es ≡ 0 → Asking (row e s).slots ((row e s).caused ++ es)
  calm-asking s e es sink none rest =
      let a = row-none t e s sink none in
      let b = all-append (leads_to (changing t)) (row e s).caused es in Quiet (omega arith)

  quiet-row : (s : Slots) (e : Effect) (es : List Effect) → leads_to (changing t) e ≡ 0 → asking_of es ≡ 0 → Asking (row e s).slots ((row e s).caused ++ es)
  unfolding row
  quiet-row s (OnTransform u (names.SinkWrite w)) es none rest = by (is_same_transform t u) refl
    where
      by : (same : Bool) → same ≡ is_same_transform t u → Asking (row (OnTransform u (names.SinkWrite w)) s).slots ((row (OnTransform u (names.SinkWrite w)) s).caused ++ es)
      by false e = calm-asking s (OnTransform u (names.SinkWrite w)) es (sym e) none rest
      by true e =
          let is : t ≡ u = ap (λ (n : ℕ). record { 0 = n }) (eq_numbers t.0 u.0 (sym e)) in
          subst (λ (v : TransformId). Asking (row (OnTransform v (names.SinkWrite w)) s).slots ((row (OnTransform v (names.SinkWrite w)) s).caused ++ es)) is (sink-asking s w es (slice_get s.transforms t.0) refl none rest)
  quiet-row s e es none rest = calm-asking s e es refl none rest

  pub record Waiting (s : Slots) (es : List Effect) : Type 0 where
    pub straight : Straight s es
    pub place : Where t s
    pub asking : Asking s es

  asks-row : (s : Slots) (x : transform.Slots) (d : PromiseId) (rest : List Effect) → asking_of rest ≡ 0 → Asking (row (asks t x d) s).slots ((row (asks t x d) s).caused ++ rest)
  unfolding row
  asks-row s x d rest none = Quiet none

  pub row-waits : (s : Slots) (e : Effect) (es : List Effect) → Waiting s (e ∷ es) → Waiting (row e s).slots ((row e s).caused ++ es)
  row-waits s e es k = by k.asking
    where
      next : Straight (row e s).slots ((row e s).caused ++ es)
      next = straight-stays.row s e es k.straight

      by : Asking s (e ∷ es) → Waiting (row e s).slots ((row e s).caused ++ es)
      by (Quiet none) =
          let one : leads_to (changing t) e ≡ 0 = omega arith in
          let rest : asking_of es ≡ 0 = omega arith in
          record { straight = next; place = row-where t (λ p. in_effects p (e ∷ es)) e s k.straight.sound one k.place; asking = quiet-row s e es one rest }
      by (Asks x d rest at press eq none) =
          let is : e ≡ asks t x d = cc in
          let more : es ≡ rest = cc in
          let sound = subst (λ (f : Effect). Straight (row f s).slots ((row f s).caused ++ es)) is next in
          record {
            straight = next;
            place = subst (λ (f : Effect). Where t (row f s).slots) (sym is) (row-asks t (λ p. in_effects p (e ∷ es)) (λ p. in_effects p ((row (asks t x d) s).caused ++ es)) x d s k.straight.sound sound.sound at press k.place).0;
            asking = subst (λ (f : Effect). Asking (row f s).slots ((row f s).caused ++ es)) (sym is) (asks-row s x d es (rw more none));
          }

  -- what goes on with the promises, where the transform streams stay
  carried : (s z : Slots) → ((x : transform.Slots) → slice_get s.transforms t.0 ≡ Some x → slice_get z.transforms t.0 ≡ Some x) → ((n : ℕ) (p : PromiseId) → Waits (of_reaction (changing t)) n p s.promises → Waits (of_reaction (changing t)) n p z.promises)
      → (m : ℕ) → all_waiting t z + m ≤ all_waiting t s → queued t s ≤ queued t z + m → Where t s → Where t z
  carried s z keeps waits m less more (InJobs l) = InJobs (omega arith)
  carried s z keeps waits m less more (AtChange n x at press w l) = AtChange n x (keeps x at) press (waits n x.change w) (omega arith)

  call-where : (s : Slots) (c : Call) → Where t s → Where t (begin c s).done.slots
  call-where s c k = begin-makes (Where t) (record {
    promise = λ z k. carried z _ (λ x e. e) (λ n p w. (waits-changes (of_reaction (changing t)) n p).fresh z.promises w) 0 (let a = weigh-fresh (of_reaction (changing t)) z.promises in omega arith)
        (let b = (queued-changes (of_job (of_reaction (changing t))) (queued t z)).fresh z.promises (omega arith) in omega arith) k;
    locks = λ z ls k. carried z _ (λ x e. e) (λ n p w. w) 0 (omega arith) (omega arith) k;
    hosts = λ z hs k. carried z _ (λ x e. e) (λ n p w. w) 0 (omega arith) (omega arith) k;
    pipe = λ z source dest prevent signal promise k. carried z _ (λ x e. e) (λ n p w. w) 0 (omega arith) (omega arith) k;
    signal = λ z k. carried z _ (λ x e. e) (λ n p w. w) 0 (omega arith) (omega arith) k;
    transform = λ z kind w r change k. carried z _ (λ x e. get-stays z.transforms _ t.0 x e) (λ n p w. w) 0 (omega arith) (omega arith) k;
    tee = λ z source first second cancel k. carried z _ (λ x e. e) (λ n p w. w) 0 (omega arith) (omega arith) k;
    port = λ z side stream backpressure k. carried z _ (λ x e. e) (λ n p w. w) 0 (omega arith) (omega arith) k;
    bytes = λ z mark auto k. carried z _ (λ x e. e) (λ n p w. w) 0 (omega arith) (omega arith) k;
    byob_requests = λ z hs k. carried z _ (λ x e. e) (λ n p w. w) 0 (omega arith) (omega arith) k;
    readable = λ z o mark size k. carried z _ (λ x e. e) (λ n p w. w) 0 (omega arith) (omega arith) k;
    writable = λ z o mark size k. carried z _ (λ x e. e) (λ n p w. w) 0 (omega arith) (omega arith) k;
  }) c s k

  off-job : (job : Job) → taken_off (of_reaction (changing t)) job ≡ of_job (of_reaction (changing t)) job
  off-job job = grind arith

  job-where : (s : Slots) (job : Job) → next_job s.promises ≡ Some job → Where t s → Where t (with_promises (after_next_job s.promises) s)
  job-where s job e k =
      let off : ℕ = of_job (of_reaction (changing t)) job in
      let same = off-job job in
      let less : weight (changing t) (after_next_job s.promises) + taken_off (of_reaction (changing t)) job ≤ weight (changing t) s.promises = rw e at (weigh-next (of_reaction (changing t)) s.promises) in
      let first = queued-first (of_job (of_reaction (changing t))) s.promises job e in
      let left = queued-next (of_job (of_reaction (changing t))) (queued t s - off) s.promises job e (omega arith) in
      carried s (with_promises (after_next_job s.promises) s) (λ x e. e) (λ n p w. waits-next (of_reaction (changing t)) n p s.promises w) off (omega arith) (omega arith) k

  pub waiting-stays : Stays Waiting
  waiting-stays = record {
    row = row-waits;
    call = λ s c k. record { straight = straight-stays.call s c k.straight; place = call-where s c k.place; asking = Quiet (call-quiet c s) };
    job = λ s job e k. record { straight = straight-stays.job s job e k.straight; place = job-where s job e k.place; asking = Quiet (job-quiet job) };
    answered = λ s p k. record {
      straight = straight-stays.answered s p k.straight;
      place = carried s (with_promises (watch p s.promises) s) (λ x e. e) (λ n q w. waits-watch (of_reaction (changing t)) n q s.promises p w) 0 (let a = weigh-watch (of_reaction (changing t)) p s.promises in omega arith)
          (let b = queued-watch (of_job (of_reaction (changing t))) (queued t s) s.promises p (omega arith) in omega arith) k.place;
      asking = Quiet refl;
    };
    older = λ s k. record { straight = straight-stays.older s k.straight; place = carried s (older s) (λ x e. e) (λ n p w. w) 0 (omega arith) (omega arith) k.place; asking = Quiet refl };
  }
