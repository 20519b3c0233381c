-- Over every run: while the host is to settle the transform of a chunk, and once it was called to flush, no write waits.
use Rattle.std.proofs.Common.{◌≡◌, ◌⊎◌, inl, inr, ⊎_elim, ℕ, zero, suc, ◌+◌, ◌≤◌, ◌<◌, Bool, true, false, ◌&&◌, ◌||◌, length, List, [], ◌∷◌, ◌++◌, Option, Some, None, slice_get, slice_set, refl, sym, ap, ◌∙◌, arith, append_assoc, append-nil}
use Rattle.ws_value.specs.declared.{ids.PromiseId.{PromiseId}, ids.StreamId.{StreamId}}
use Rattle.ws_steps.specs.declared.calls.{Call.{Call}, HostCall.{HostCall}}
use Rattle.ws_steps.specs.declared.calls.HostCall.TheVariants.{Start as HostStart, Transform as HostTransform, Flush as HostFlush}
use Rattle.ws_steps.specs.declared.effects.{Effect.{Effect}, Effect.TheVariants.{CloseAlgorithm, CallHost}, Use.{Use}}
use Rattle.ws_steps.specs.declared.promises.{Job.{Job}, Reaction.{Reaction}}
use Rattle.ws_steps.specs.declared.transform.TransformId.{TransformId}
use Rattle.ws_steps.specs.Begun.{Begun}
use Rattle.ws_steps.specs.Calls.{begin}
use Rattle.ws_steps.specs.Histories.{is_same}
use Rattle.ws_steps.specs.Jobs.{job_effects}
use Rattle.ws_steps.specs.Promises.{Entry as PromiseEntry, Table, next_id, next_job, after_next_job, watch}
use Rattle.ws_steps.specs.Run.{after_event, older}
use Rattle.ws_steps.specs.Slots.{Slots, empty, pending_host, with_promises}
use Rattle.ws_steps.specs.Turns.{row}
use Rattle.ws_steps.specs.WritableHistory.{Writes, no_writes, writes_then, effect_writes}
use Rattle.ws_laws.proofs.Begin.{begin-makes}
use Rattle.ws_laws.proofs.EachCall.{each_call}
use Rattle.ws_laws.proofs.Halves.{get-either, call-among}
use Rattle.ws_laws.proofs.Shapes.{TransformShape, row-transform_shapes, StreamShape, row-stream_shapes}
use Rattle.ws_laws.proofs.Lists.{each-append}
use Rattle.ws_laws.proofs.Rows.{row-changes}
use Rattle.ws_laws.proofs.Tables.{is_same-refl, same_id}
use Rattle.ws_laws.proofs.Walker.{IsHistory, GoesUntold, RestsUntold}
use Rattle.ws_laws.proofs.Weights.{of_reactions, of_entries, of_job, of_jobs, weigh}
use Rattle.ws_writable_laws.proofs.Agenda.{Kept}
use Rattle.ws_writable_laws.proofs.Runs as writable_runs
use Rattle.ws_writable_laws.proofs.Shape.{of_reaction, is_start, is_write, one_if}
use Rattle.ws_end_laws.specs.hosts.HostCalls.{effect_called}
use Rattle.ws_end_laws.proofs.hosts.Called.{Numbered, numbered-goes, numbered-rests, place-last}
use Rattle.ws_end_laws.proofs.hosts.Hosted.{hosted-alone}
use Rattle.ws_end_laws.proofs.hosts.Plain.{host_added, row-hosts}
use Rattle.ws_transform_laws.proofs.Waited.{changing, all_waiting}
use Rattle.ws_transform_laws.proofs.Waiting.{Waits, queued-watch, waits-changes, waits-next, waits-watch, waits_from}
use Rattle.ws_want_laws.specs.Answers.{is_start_of, is_transform_of, is_flush_of, has_open, has_flushed, is_answering}
use Rattle.ws_want_laws.proofs.Answering.{answered, uses, IsSole, IsAsked, Asked, IsClosing, Closing, row-asked, call-asked, job-asked, row-closing, call-closing, job-closing, called-waits}
use Rattle.ws_want_laws.proofs.Bound.{one, tokens, some-token, token-pending}
use Rattle.ws_want_laws.proofs.Ears.{hears, Ear, open-pending, pending-weighs, ear-weighs, ear-row, ear-next, ear-on}
use Rattle.ws_want_laws.proofs.Starting.{IsOwn, IsStarting, Starting, Started, others-starting, others-resolve, row-starting, row-started, call-begins, call-shape, job-other, called-ear}
use Rattle.ws_want_laws.proofs.Held.{call-carries, same-carries, Held, all-held, row-held, call-held, job-held, answered-held, older-held, heard-held, none-held}
use Rattle.ws_want_laws.proofs.Holding.{IsHalf}
use Rattle.ws_want_laws.proofs.Results.{promised}
use Rattle.ws_promise_laws.proofs.Runs.{Straight}

-- what was written to the writable half, and the host calls, so far

pub record Past : Type 0 where
  pub writes : Writes
  pub calls : List HostCall

abbrev pub no_past : Past
no_past = record { writes = no_writes; calls = [] }

abbrev pub past_then : Past → Past → Past
past_then f g = record { writes = writes_then f.writes g.writes; calls = f.calls ++ g.calls }

pub are_past : IsHistory no_past past_then
are_past = record {
  left = λ h k. record { writes = writable_runs.is_history.left h.writes k; calls = h.calls };
  right = λ h k. record { writes = writable_runs.is_history.right h.writes k; calls = append-nil h.calls k };
  assoc = λ f g h k. record { writes = writable_runs.is_history.assoc f.writes g.writes h.writes k; calls = append_assoc f.calls g.calls h.calls k };
}

abbrev pub past_of : StreamId → Effect → Slots → Past
past_of i e s = record { writes = effect_writes i e s; calls = effect_called e s }

-- lists

-- a place that is there stays as it is
pub place-kept : {A B : Type 0} (xs ys : List A) (zs : List B) (n : ℕ) (z : B) → slice_get zs n ≡ Some z → length xs ≡ length zs
    → slice_get (xs ++ ys) n ≡ slice_get xs n
place-kept [] ys [] n z e l = cc
place-kept [] ys (w ∷ zs) n z e l = absurd (omega arith)
place-kept (x ∷ xs) ys [] n z e l = cc
place-kept (x ∷ xs) ys (w ∷ zs) zero z e l = refl
place-kept (x ∷ xs) ys (w ∷ zs) (suc n) z e l = place-kept xs ys zs n z e (omega arith)

-- the promises that the host hasn't settled were there
pub record Fewer (xs ys : List (Option PromiseId)) : Type 0 where
  pub was : (n : ℕ) (p : PromiseId) → pending_host (slice_get ys n) ≡ Some p → pending_host (slice_get xs n) ≡ Some p

fewer-same : (xs : List (Option PromiseId)) → Fewer xs xs
fewer-same xs = record { was = λ n p e. e }

set-was : (xs : List (Option PromiseId)) (k n : ℕ) (p : PromiseId) → pending_host (slice_get (slice_set xs k None) n) ≡ Some p
    → pending_host (slice_get xs n) ≡ Some p
set-was [] k n p e = e
set-was (x ∷ xs) zero zero p e = cc
set-was (x ∷ xs) zero (suc n) p e = e
set-was (x ∷ xs) (suc k) zero p e = e
set-was (x ∷ xs) (suc k) (suc n) p e = set-was xs k n p e

fewer-set : (xs : List (Option PromiseId)) (k : ℕ) → Fewer xs (slice_set xs k None)
fewer-set xs k = record { was = set-was xs k }

pub call-fewer : (c : Call) (s : Slots) → Fewer s.hosts (begin c s).done.slots.hosts
call-fewer c s = each_call (λ (b : Begun). Fewer s.hosts b.done.slots.hosts) c s (grind (arith, fewer-same, fewer-set))

-- what two weigh together

weigh-sum : (f g h : Reaction → ℕ) → ((x : Reaction) → f x + g x ≤ h x) → (t : Table) → weigh f t + weigh g t ≤ weigh h t
unfolding weigh
weigh-sum f g h l t = let a = entries t.entries in let b = jobs t.jobs in omega arith
  where
    reactions : (rs : List Reaction) → of_reactions f rs + of_reactions g rs ≤ of_reactions h rs
    reactions [] = omega arith
    reactions (r ∷ rs) = let a = l r in let b = reactions rs in omega arith

    entries : (es : List (Option PromiseEntry)) → of_entries f es + of_entries g es ≤ of_entries h es
    entries [] = omega arith
    entries (None ∷ es) = let b = entries es in omega arith
    entries (Some e ∷ es) = let a = reactions e.reactions in let b = entries es in omega arith

    jobs : (js : List Job) → of_jobs f js + of_jobs g js ≤ of_jobs h js
    jobs [] = omega arith
    jobs (j ∷ js) = let a : of_job f j + of_job g j ≤ of_job h j = grind (arith, l) in let b = jobs js in omega arith

module _ (t : TransformId) (i r : StreamId) where
  -- the halves of the transform stream are these, where it is made, and no other has that readable half
  abbrev pub IsOf : Slots → Type 0
  IsOf s = IsHalf t i s × (IsSole t i r s × IsOwn t i r s)

  pub record Answers (h : Past) (s : Slots) (es : List Effect) : Type 0 where
    pub held : Held t i s es
    pub kept : Kept i h.writes s es
    pub numbered : Numbered h.calls s es
    pub waits : (n : ℕ) (call : HostCall) (p : PromiseId) → slice_get h.calls n ≡ Some call → is_transform_of r call ≡ true
        → pending_host (slice_get s.hosts n) ≡ Some p → Waits (answered t i r) 1 p s.promises
    pub begun : (n : ℕ) (call : HostCall) (p : PromiseId) → slice_get h.calls n ≡ Some call → is_start_of r call ≡ true
        → pending_host (slice_get s.hosts n) ≡ Some p → Ear (is_start i) s es p
    pub starting : Starting r es
    pub started : Started r i s es
    pub asked : Asked t i r es
    pub closing : Closing t i r s (0 < h.writes.closes) es
    pub flushed : has_flushed r h.calls ≡ true → 0 < h.writes.closes

  -- each effect

  stays : (e : Effect) (s : Slots) (p : PromiseId) → Waits (answered t i r) 1 p s.promises → Waits (answered t i r) 1 p (row e s).slots.promises
  stays e s p w = row-changes (Waits (answered t i r) 1 p) (waits-changes (answered t i r) 1 p) e s w

  abbrev Told : Past → Slots → Type 0
  Told h s = (n : ℕ) (call : HostCall) (p : PromiseId) → slice_get h.calls n ≡ Some call → is_transform_of r call ≡ true → pending_host (slice_get s.hosts n) ≡ Some p → Waits (answered t i r) 1 p s.promises

  transform-asks : (call : HostCall) (u : Use) → IsAsked t i r (CallHost call u) → is_transform_of r call ≡ true → 1 ≤ uses t i r u
  transform-asks (HostTransform j v) u k e = k (sym (same_id r j e))
  transform-asks call u k e = absurd (cc)

  host-told : (h : Past) (s : Slots) (call : HostCall) (u : Use) → length s.hosts ≡ length h.calls → IsAsked t i r (CallHost call u) → Told h s
      → Told (past_then h (past_of i (CallHost call u) s)) (row (CallHost call u) s).slots
  host-told h s call u count a k n c p at is host =
      let hosts = row-hosts (CallHost call u) s in
      let there : pending_host (slice_get (s.hosts ++ Some (next_id s.promises) ∷ []) n) ≡ Some p = rw hosts at host in
      ⊎_elim
      (λ old.
      let same = place-kept s.hosts (Some (next_id s.promises) ∷ []) h.calls n c old count in
      stays (CallHost call u) s p (k n c p old is (ap pending_host (sym same) ∙ there)))
      (λ new.
      let at : slice_get (s.hosts ++ Some (next_id s.promises) ∷ []) n ≡ Some (Some (next_id s.promises)) = rw (new.0, ← count) (place-last s.hosts (Some (next_id s.promises))) in
      let both : ◌≡◌ {A = Option PromiseId} (Some (next_id s.promises)) (Some p) = ap pending_host (sym at) ∙ there in
      let one : next_id s.promises ≡ p = cc in
      rw (← one) (called-waits t i r call u s (transform-asks call u a (ap (is_transform_of r) new.1 ∙ is))))
      (get-either h.calls call n c at)

  other-told : (h : Past) (s : Slots) (e : Effect) → effect_called e s ≡ [] → host_added e s ≡ [] → Told h s
      → Told (past_then h (past_of i e s)) (row e s).slots
  other-told h s e none added k n c p at is host =
      let before : slice_get h.calls n ≡ Some c = rw (none, append-nil) at at in
      let hosts : (row e s).slots.hosts ≡ s.hosts = rw (added, append-nil) at (row-hosts e s) in
      stays e s p (k n c p before is (rw hosts at host))

  row-told : (h : Past) (s : Slots) (e : Effect) → length s.hosts ≡ length h.calls → IsAsked t i r e → Told h s
      → Told (past_then h (past_of i e s)) (row e s).slots
  row-told h s (CallHost call u) count a k = host-told h s call u count a k
  row-told h s e count a k = other-told h s e refl refl k

  -- calls that start

  abbrev Starts : Past → Slots → List Effect → Type 0
  Starts h s es = (n : ℕ) (call : HostCall) (p : PromiseId) → slice_get h.calls n ≡ Some call → is_start_of r call ≡ true → pending_host (slice_get s.hosts n) ≡ Some p → Ear (is_start i) s es p

  kept-begun : (s : Slots) (e : Effect) (es : List Effect) (n : ℕ) (p : PromiseId) → Straight s (e ∷ es) → pending_host (slice_get s.hosts n) ≡ Some p
      → Ear (is_start i) s (e ∷ es) p → Ear (is_start i) (row e s).slots ((row e s).caused ++ es) p
  kept-begun s e es n p k host ear =
      let alone = hosted-alone (record { 0 = n }) p s (e ∷ es) k host in ear-row (is_start i) s e es p k.sound (open-pending p s.promises alone.open_) ear

  new-begun : (call : HostCall) (u : Use) (s : Slots) (es : List Effect) → Straight s (CallHost call u ∷ es) → is_start_of r call ≡ true
      → IsStarting r (CallHost call u) → Started r i s (CallHost call u ∷ es)
      → Ear (is_start i) (row (CallHost call u) s).slots ((row (CallHost call u) s).caused ++ es) (next_id s.promises)
  new-begun (HostStart j) u s es k e a h = called-ear r i j u s es k.sound e a h
  new-begun call u s es k e a h = absurd (cc)

  host-begun : (h : Past) (s : Slots) (call : HostCall) (u : Use) (es : List Effect) → length s.hosts ≡ length h.calls
      → Straight s (CallHost call u ∷ es) → IsStarting r (CallHost call u) → Started r i s (CallHost call u ∷ es)
      → Starts h s (CallHost call u ∷ es)
      → Starts (past_then h (past_of i (CallHost call u) s)) (row (CallHost call u) s).slots ((row (CallHost call u) s).caused ++ es)
  host-begun h s call u es count straight a st k = λ n c p at is host.
      let hosts = row-hosts (CallHost call u) s in
      let there : pending_host (slice_get (s.hosts ++ Some (next_id s.promises) ∷ []) n) ≡ Some p = rw hosts at host in
      ⊎_elim
      (λ old.
      let same = place-kept s.hosts (Some (next_id s.promises) ∷ []) h.calls n c old count in
      let was = ap pending_host (sym same) ∙ there in
      kept-begun s (CallHost call u) es n p straight was (k n c p old is was))
      (λ new.
      let at : slice_get (s.hosts ++ Some (next_id s.promises) ∷ []) n ≡ Some (Some (next_id s.promises)) = rw (new.0, ← count) (place-last s.hosts (Some (next_id s.promises))) in
      let both : ◌≡◌ {A = Option PromiseId} (Some (next_id s.promises)) (Some p) = ap pending_host (sym at) ∙ there in
      let one : next_id s.promises ≡ p = cc in
      rw (← one) (new-begun call u s es straight (ap (is_start_of r) new.1 ∙ is) a st))
      (get-either h.calls call n c at)

  other-begun : (h : Past) (s : Slots) (e : Effect) (es : List Effect) → effect_called e s ≡ [] → host_added e s ≡ [] → Straight s (e ∷ es)
      → Starts h s (e ∷ es) → Starts (past_then h (past_of i e s)) (row e s).slots ((row e s).caused ++ es)
  other-begun h s e es none added straight k = λ n c p at is host.
      let before : slice_get h.calls n ≡ Some c = rw (none, append-nil) at at in
      let hosts : (row e s).slots.hosts ≡ s.hosts = rw (added, append-nil) at (row-hosts e s) in
      let was : pending_host (slice_get s.hosts n) ≡ Some p = rw hosts at host in
      kept-begun s e es n p straight was (k n c p before is was)

  row-begun : (h : Past) (s : Slots) (e : Effect) (es : List Effect) → length s.hosts ≡ length h.calls → Straight s (e ∷ es) → IsStarting r e
      → Started r i s (e ∷ es) → Starts h s (e ∷ es)
      → Starts (past_then h (past_of i e s)) (row e s).slots ((row e s).caused ++ es)
  row-begun h s (CallHost call u) es count straight a st k = host-begun h s call u es count straight a st k
  row-begun h s e es count straight a st k = other-begun h s e es refl refl straight k

  -- once it is called to flush

  more-closes : (h : Past) (s : Slots) (e : Effect) → 0 < h.writes.closes → 0 < (past_then h (past_of i e s)).writes.closes
  more-closes h s e n = omega arith

  close-closes : (h : Past) (s : Slots) (e : Effect) → e ≡ CloseAlgorithm i → 0 < (past_then h (past_of i e s)).writes.closes
  close-closes h s e is =
      let one : (effect_writes i (CloseAlgorithm i) s).closes ≡ 1 = rw (is_same-refl i) refl in
      let same : (effect_writes i e s).closes ≡ 1 = ap (λ (f : Effect). (effect_writes i f s).closes) is ∙ one in omega arith

  flush-append : (cs ds : List HostCall) → has_flushed r (cs ++ ds) ≡ true → (has_flushed r cs ≡ true) ⊎ (has_flushed r ds ≡ true)
  flush-append [] ds e = inr e
  flush-append (c ∷ cs) ds e = by (is_flush_of r c) refl (λ f. flush-append cs ds f)
    where
      by : (b : Bool) → b ≡ is_flush_of r c → (has_flushed r (cs ++ ds) ≡ true → (has_flushed r cs ≡ true) ⊎ (has_flushed r ds ≡ true))
          → (has_flushed r (c ∷ cs) ≡ true) ⊎ (has_flushed r ds ≡ true)
      by true f k = inl (rw (← f) refl)
      by false f k = rw (← f) (k (rw (← f) at e))

  flush-calls : (s : Slots) (V : Type 0) (e : Effect) → IsClosing t i r s V e → has_flushed r (effect_called e s) ≡ true → V
  flush-calls s V (CallHost (HostFlush j) u) k e = k (sym (same_id r j (either-false (is_same r j) e)))
    where
      either-false : (b : Bool) → b || false ≡ true → b ≡ true
      either-false true e = refl
      either-false false e = e
  flush-calls s V (CallHost call u) k e = absurd (cc)
  flush-calls s V e k f = absurd (cc)

  row-flushed : (h : Past) (s : Slots) (e : Effect) → IsClosing t i r s (0 < h.writes.closes) e → (has_flushed r h.calls ≡ true → 0 < h.writes.closes)
      → has_flushed r (past_then h (past_of i e s)).calls ≡ true → 0 < (past_then h (past_of i e s)).writes.closes
  row-flushed h s e k f n =
      more-closes h s e (⊎_elim f (λ now. flush-calls s (0 < h.writes.closes) e k now) (flush-append h.calls (effect_called e s) n))

  pub of-before : (e : Effect) (s : Slots) → IsOf (row e s).slots → IsOf s
  of-before e s h =
      let same = row-transform_shapes e s in (
        λ x at. h.0 x (ap (λ (ts : List TransformShape). slice_get ts t.0) same ∙ at),
        (λ u x at. h.1.0 u x (ap (λ (ts : List TransformShape). slice_get ts u.0) same ∙ at), λ x at. h.1.1 x (ap (λ (xs : List StreamShape). slice_get xs r.0) (row-stream_shapes e s) ∙ at)),
      )

  pub row-answers : (h : Past) (s : Slots) (e : Effect) (es : List Effect) → IsOf s → Answers h s (e ∷ es)
      → Answers (past_then h (past_of i e s)) (row e s).slots ((row e s).caused ++ es)
  row-answers h s e es g k = record {
    held = row-held t i s e es g.0 k.held;
    kept = (writable_runs.goes i).row h.writes s e es k.kept;
    numbered = numbered-goes.row h.calls s e es k.numbered;
    waits = row-told h s e k.numbered.count k.asked.0 k.waits;
    begun = row-begun h s e es k.numbered.count k.held.straight k.starting.0 k.started k.begun;
    starting = row-starting r e s es k.starting;
    started = row-started r i s e es k.held.straight.sound k.starting.0 k.started;
    asked = each-append (IsAsked t i r) (row e s).caused es (row-asked t i r e s g.1.0) k.asked.1;
    closing = row-closing t i r s (0 < h.writes.closes) (0 < (past_then h (past_of i e s)).writes.closes) e es k.kept.halved g.0 g.1.0 (more-closes h s e) (close-closes h s e) k.closing;
    flushed = row-flushed h s e k.closing.0 k.flushed;
  }

  -- from rest

  pub call-of : (c : Call) (s : Slots) → IsOf (begin c s).done.slots → IsOf s
  call-of c s h = (λ x at. h.0 x (call-among c s t x at), (λ u x at. h.1.0 u x (call-among c s u x at), λ x at. h.1.1 x (call-shape r.0 x c s at)))

  fresh-waits : (p : PromiseId) (c : Call) (s : Slots) → Waits (answered t i r) 1 p s.promises → Waits (answered t i r) 1 p (begin c s).done.slots.promises
  fresh-waits p c s w = begin-makes (λ z. Waits (answered t i r) 1 p z.promises) (record {
    promise = λ z k. (waits-changes (answered t i r) 1 p).fresh z.promises k;
    locks = λ z ls k. k;
    hosts = λ z hs k. k;
    pipe = λ z source dest prevent signal promise k. k;
    signal = λ z k. k;
    transform = λ z kind w q change k. k;
    tee = λ z source first second cancel k. k;
    port = λ z side stream backpressure k. k;
    bytes = λ z mark auto k. k;
    byob_requests = λ z hs k. k;
    readable = λ z o mark size k. k;
    writable = λ z o mark size k. k;
  }) c s w

  pub call-answers : (h : Past) (s : Slots) (c : Call) → IsOf (begin c s).done.slots → Answers h s [] → Answers h (begin c s).done.slots (begin c s).done.caused
  call-answers h s c g k =
      let z : Slots = (begin c s).done.slots in
      let fewer = call-fewer c s in
      let first = (call-begins t i r c s).fits g.0 g.1.0 g.1.1 in
      record {
        held = call-held t i s c k.held;
        kept = (writable_runs.goes i).call h.writes s c k.kept;
        numbered = numbered-goes.call h.calls s c k.numbered;
        waits = λ n call p at is host. fresh-waits p c s (k.waits n call p at is (fewer.was n p host));
        begun = λ n call p at is host. ear-on (is_start i) s z (begin c s).done.caused p (call-carries t i c s) (k.begun n call p at is (fewer.was n p host));
        starting = first.0;
        started = first.1;
        asked = call-asked t i r c s;
        closing = call-closing t i r c s z (0 < h.writes.closes);
        flushed = k.flushed;
      }

  pub job-answers : (h : Past) (s : Slots) (job : Job) → next_job s.promises ≡ Some job → Answers h s []
      → Answers h (with_promises (after_next_job s.promises) s) (job_effects job)
  job-answers h s job e k = record {
    held = job-held t i s job e k.held;
    kept = (writable_runs.goes i).job h.writes s job e k.kept;
    numbered = numbered-goes.job h.calls s job e k.numbered;
    waits = λ n call p at is host. waits-next (answered t i r) 1 p s.promises (k.waits n call p at is host);
    begun = λ n call p at is host.
        let alone = hosted-alone (record { 0 = n }) p s [] k.held.straight host in
        ear-next (is_start i) s job (job_effects job) p k.held.straight.sound e (open-pending p s.promises alone.open_) (k.begun n call p at is host);
    starting = others-starting r (job_effects job) (job-other r job);
    started = λ p n. let a = others-resolve r p (job_effects job) (job-other r job) in absurd (omega arith);
    asked = job-asked t i r job;
    closing = job-closing t i r job (with_promises (after_next_job s.promises) s) (0 < h.writes.closes);
    flushed = k.flushed;
  }

  abbrev pub IsAnswers : Past → Slots → List Effect → Type 0
  IsAnswers h s es = IsOf s → Answers h s es

  pub goes : GoesUntold past_then (past_of i) IsAnswers
  goes = record {
    row = λ h s e es k g. let b = of-before e s g in row-answers h s e es b (k b);
    call = λ h s c k g. call-answers h s c g (k (call-of c s g));
    job = λ h s job e k g. job-answers h s job e (k g);
    answered = λ h s p k g.
        let a = k g in
        record {
          held = answered-held t i s p a.held;
          kept = (writable_runs.goes i).answered h.writes s p a.kept;
          numbered = numbered-goes.answered h.calls s p a.numbered;
          waits = λ n call q at is host. waits-watch (answered t i r) 1 q s.promises p (a.waits n call q at is host);
          begun = λ n call q at is host.
              ear-on (is_start i) s (with_promises (watch p s.promises) s) [] q (record { waits = λ f q w. waits-watch f 1 q s.promises p w; queued = λ f q. queued-watch f 1 s.promises p q }) (a.begun n call q at is host);
          starting = tt;
          started = λ p n. absurd (omega arith);
          asked = tt;
          closing = tt;
          flushed = a.flushed;
        };
    older = λ h s k g.
        let a = k g in
        record {
          held = older-held t i s a.held;
          kept = (writable_runs.goes i).older h.writes s a.kept;
          numbered = numbered-goes.older h.calls s a.numbered;
          waits = a.waits;
          begun = λ n call q at is host. ear-on (is_start i) s (older s) [] q (same-carries t i s (older s) refl refl) (a.begun n call q at is host);
          starting = tt;
          started = λ p n. absurd (omega arith);
          asked = tt;
          closing = tt;
          flushed = a.flushed;
        };
  }

  pub rests : RestsUntold IsAnswers
  rests = record {
    heard = λ h s k g.
        let a = k g in
        record {
          held = heard-held t i s a.held;
          kept = (writable_runs.rests i).heard h.writes s a.kept;
          numbered = numbered-rests.heard h.calls s a.numbered;
          waits = λ n call q at is host. waits_from (answered t i r) 1 q s.promises (after_event s).promises refl (a.waits n call q at is host);
          begun = λ n call q at is host. ear-on (is_start i) s (after_event s) [] q (same-carries t i s (after_event s) refl refl) (a.begun n call q at is host);
          starting = tt;
          started = λ p n. absurd (omega arith);
          asked = tt;
          closing = tt;
          flushed = a.flushed;
        };
  }

  pub none-answers : Answers no_past empty []
  none-answers = record {
    held = none-held t i;
    kept = writable_runs.none_made i;
    numbered = record { count = refl; told = tt };
    waits = λ n call p at is host. absurd (cc);
    begun = λ n call p at is host. absurd (cc);
    starting = tt;
    started = λ p n. absurd (omega arith);
    asked = tt;
    closing = tt;
    flushed = λ e. absurd (cc);
  }

  -- while the host answers

  asked-one : (x : Reaction) → of_reaction (changing t) x + answered t i r x ≤ promised t one x
  asked-one x = grind arith

  waits-one : (h : Past) (s : Slots) → Answers h s [] → (n : ℕ) (call : HostCall) (p : PromiseId) → slice_get h.calls n ≡ Some call
      → is_transform_of r call ≡ true → pending_host (slice_get s.hosts n) ≡ Some p → all_waiting t s ≡ 0
  waits-one h s k n call p at is host =
      let alone = hosted-alone (record { 0 = n }) p s [] k.held.straight host in
      let w = pending-weighs (answered t i r) 1 p s.promises (open-pending p s.promises alone.open_) (k.waits n call p at is host) in
      let sum = weigh-sum (of_reaction (changing t)) (answered t i r) (promised t one) asked-one s.promises in
      let few = k.held.few in omega arith

  -- none waits where none is in flight

  pub unwritten-none : (h : Past) (s : Slots) → Answers h s [] → weigh (hears (is_write i)) s.promises ≡ 0 → all_waiting t s ≡ 0
  unwritten-none h s k none = by (tokens t one s []) refl
    where
      by : (m : ℕ) → m ≡ tokens t one s [] → all_waiting t s ≡ 0
      by zero e = let a = all-held t i s in omega arith
      by (suc m) e =
          let d = some-token t s [] (omega arith) in
          let a = ear-weighs (is_write i) s [] d.0 k.held.straight.sound (token-pending t d.0 s [] k.held.straight.sound d.1) (k.held.heeds d.0 d.1) in absurd (omega arith)

  still-none : (h : Past) (s : Slots) → Answers h s [] → 0 < h.writes.closes → all_waiting t s ≡ 0
  still-none h s k n =
      let f = k.kept.held.fine in
      let w = f.owed.writes in
      let still = f.shape.still (omega arith) in
      let z = rw still at w in unwritten-none h s k (omega arith)

  unstarted-none : (h : Past) (s : Slots) → Answers h s [] → 1 ≤ weigh (hears (is_start i)) s.promises → all_waiting t s ≡ 0
  unstarted-none h s k n =
      let f = k.kept.held.fine in by _ _ _ f.owed.starts f.owed.writes f.shape.started
    where
      by : (starts : Bool) (writing closing : Bool) → (weigh (hears (is_start i)) s.promises + 0) + one_if starts ≤ 1
          → weigh (hears (is_write i)) s.promises + 0 ≤ one_if writing → (writing || closing ≡ true → starts ≡ true) → all_waiting t s ≡ 0
      by true writing closing a w e = absurd (omega arith)
      by false true closing a w e = let no = e refl in absurd (cc)
      by false false closing a w e = unwritten-none h s k (omega arith)

  begun-one : (h : Past) (s : Slots) → Answers h s [] → (n : ℕ) (call : HostCall) (p : PromiseId) → slice_get h.calls n ≡ Some call
      → is_start_of r call ≡ true → pending_host (slice_get s.hosts n) ≡ Some p → all_waiting t s ≡ 0
  begun-one h s k n call p at is host =
      let alone = hosted-alone (record { 0 = n }) p s [] k.held.straight host in
      let w = ear-weighs (is_start i) s [] p k.held.straight.sound (open-pending p s.promises alone.open_) (k.begun n call p at is host) in unstarted-none h s k (omega arith)

  -- of a call that isn't settled

  abbrev pub One : List HostCall → List (Option PromiseId) → (HostCall → Bool) → Type 0 → Type 0
  One cs hs is A = (n : ℕ) (call : HostCall) (p : PromiseId) → slice_get cs n ≡ Some call → is call ≡ true → pending_host (slice_get hs n) ≡ Some p → A

  pub open-one : (A : Type 0) (is : HostCall → Bool) (cs : List HostCall) (hs : List (Option PromiseId)) → has_open is cs hs ≡ true → One cs hs is A → A
  open-one A is [] hs e f = absurd (cc)
  open-one A is (c ∷ cs) [] e f = absurd (cc)
  open-one A is (c ∷ cs) (None ∷ hs) e f = open-one A is cs hs (none-left (is c) (has_open is cs hs) e) (λ n. f (suc n))
    where
      none-left : (a b : Bool) → (a && false) || b ≡ true → b ≡ true
      none-left true b e = e
      none-left false b e = e
  open-one A is (c ∷ cs) (Some p ∷ hs) e f = by (is c) refl e (λ k. open-one A is cs hs k (λ n. f (suc n)))
    where
      by : (a : Bool) → a ≡ is c → (a && true) || has_open is cs hs ≡ true → (has_open is cs hs ≡ true → A) → A
      by true x k later = f 0 c p refl (sym x) refl
      by false x k later = later k

  pub answering-none : (h : Past) (s : Slots) → Answers h s [] → is_answering r h.calls s ≡ true → all_waiting t s ≡ 0
  answering-none h s k e = by (has_open (is_start_of r) h.calls s.hosts) (has_open (is_transform_of r) h.calls s.hosts) (has_flushed r h.calls) refl refl refl e
    where
      by : (a b c : Bool) → a ≡ has_open (is_start_of r) h.calls s.hosts → b ≡ has_open (is_transform_of r) h.calls s.hosts
          → c ≡ has_flushed r h.calls → a || (b || c) ≡ true → all_waiting t s ≡ 0
      by true b c x y z e = open-one (all_waiting t s ≡ 0) (is_start_of r) h.calls s.hosts (sym x) (begun-one h s k)
      by false true c x y z e = open-one (all_waiting t s ≡ 0) (is_transform_of r) h.calls s.hosts (sym y) (waits-one h s k)
      by false false true x y z e = still-none h s k (k.flushed (sym z))
      by false false false x y z e = absurd (cc)
