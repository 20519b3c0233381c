-- A reaction that is registered with the promises of host calls of one kind alone, which only the host settles: where one of these is fulfilled,
-- the host settled such a call well.
use Rattle.std.proofs.Common.{◌≡◌, ℕ, Bool, true, false, ◌⊎◌, inl, inr, ⊎_elim, nat_eq, List, [], ◌∷◌, ◌++◌, length, Option, Some, None, Result, Ok, slice_get, slice_set, refl, sym, ap, subst, ◌∙◌, arith, append-nil}
use Rattle.ws_value.specs.declared.{ids.HostId.{HostId}, ids.PromiseId.{PromiseId}}
use Rattle.ws_value.specs.declared.value.Outcome.TheVariants.{Fulfilled}
use Rattle.ws_value.specs.declared.value.Plain.{Plain}
use Rattle.ws_steps.specs.declared.{calls.Answer.{Answer}, calls.Answer.TheVariants.{Ok as AnswerOk, Fail as AnswerFail}, calls.Call.{Call}, calls.Call.TheVariants.{Settle as SettleCall, ReadInto}, calls.Event.{Event}, calls.Event.TheVariants.{Host as HostCalled}}
use Rattle.ws_steps.specs.declared.{calls.HostCall.{HostCall}}
use Rattle.ws_steps.specs.declared.effects.Effect.{Effect}
use Rattle.ws_steps.specs.declared.effects.Effect.TheVariants.{Give, Settle, CallHost}
use Rattle.ws_steps.specs.declared.{effects.Gift.{Gift}, effects.Use.{Use}, effects.Use.TheVariants.{React, Resolve}}
use Rattle.ws_steps.specs.declared.{promises.Job.{Job}, promises.Step.{Step}}
use Rattle.ws_steps.specs.Promises.{Table, next_id, fresh, tell, settle, use_gift, first_job, next_job, after_next_job, watch}
use Rattle.ws_steps.specs.Slots.{Slots, empty, Done, pending_host, host_at, lock_at, with_promises}
use Rattle.ws_steps.specs.Turns.{row, call_host}
use Rattle.ws_steps.specs.Jobs.{job_effects}
use Rattle.ws_steps.specs.Begun.{Begun}
use Rattle.ws_steps.specs.ControllerCalls.{settle_host, outcome_of}
use Rattle.ws_steps.specs.Calls.{begin}
use Rattle.ws_steps.specs.Run.{Entry, Called, step, older, after_event}
use Rattle.ws_laws.proofs.Into.{into-either}
use Rattle.ws_laws.proofs.Begin.{begin-makes}
use Rattle.ws_laws.proofs.Tables.{eq_numbers, unequal_numbers}
use Rattle.ws_promise_laws.proofs.Holds.{named}
use Rattle.ws_promise_laws.proofs.Runs.{Straight, straight-stays, straight-heard, straight-empty}
use Rattle.ws_steps.proofs.PromiseLaws.{slice_get-set_other}
use Rattle.ws_end_laws.proofs.hosts.Plain.{IsPlain, row-plainly, host_added, row-hosts}
use Rattle.ws_end_laws.proofs.hosts.Called.{place-grows, place-last, length-set, Numbered, numbered-goes, numbered-rests}
use Rattle.ws_end_laws.proofs.hosts.Reactions.{JobFits, JobsFit, Good, good-weaker, fresh-good, next-good, watch-good, settle-good, Overtaken, GoodOr, good-plainly, use-good, follow-good, gift-good, told-good, new-good, UseFits}
use Rattle.ws_end_laws.proofs.hosts.Hosted.{hosted-alone, open-pending, Sofar, nothing_yet, sofar_then, sofar-history, effect_sofar, settled_now, well_said, said_sofar, Well, well-stays}

-- which promises are used by such a reaction: those of such calls alone

abbrev pub UseIs : (Step → Bool) → HostCall → HostCall → Use → Type 0
UseIs is mine call (React step derived) = is step ≡ true → call ≡ mine
UseIs is mine call (Resolve p) = Unit {0}

abbrev pub NoUse : (Step → Bool) → Use → Type 0
NoUse is (React step derived) = is step ≡ false
NoUse is (Resolve p) = Unit {0}

abbrev pub UsesIt : (Step → Bool) → HostCall → Effect → Type 0
UsesIt is mine (Give gift u) = NoUse is u
UsesIt is mine (CallHost call u) = UseIs is mine call u
UsesIt is mine _ = Unit {0}

module _ (is : Step → Bool) (mine : HostCall) where
  -- which promises have the reaction

  abbrev pub W : Sofar → Type 0
  W h = Well h mine

  -- that of such a host call, which the host hasn't settled
  pub record Hosted (h : Sofar) (s : Slots) (q : PromiseId) : Type 0 where
    pub id : HostId
    pub waits : host_at id s ≡ Some q
    pub call : slice_get h.calls id.0 ≡ Some mine

  -- or that the host settles now
  pub record Settling (h : Sofar) (es : List Effect) (q : PromiseId) : Type 0 where
    pub outcome : Result Plain Plain
    pub first : es ≡ Settle q outcome ∷ []
    pub well : (v : Plain) → outcome ≡ Ok v → W h

  abbrev pub Source : Sofar → Slots → List Effect → PromiseId → Type 0
  Source h s es q = Hosted h s q ⊎ Settling h es q

  -- what holds at each moment
  pub record Tracked (h : Sofar) (s : Slots) (es : List Effect) : Type 0 where
    pub straight : Straight s es
    pub numbered : Numbered h.calls s es
    pub table : Good is (Source h s es) (W h) s.promises

  -- hosts

  there_pending : (o : Option (Option PromiseId)) (q : PromiseId) → pending_host o ≡ Some q → o ≡ Some (Some q)
  there_pending None q e = cc
  there_pending (Some x) q e = ap (λ (x : Option PromiseId). Some x) e

  host-grows : (hosts more : List (Option PromiseId)) (id : HostId) (q : PromiseId) → pending_host (slice_get hosts id.0) ≡ Some q → pending_host (slice_get (hosts ++ more) id.0) ≡ Some q
  host-grows hosts more id q e = ap pending_host (place-grows hosts more id.0 (Some q) (there_pending (slice_get hosts id.0) q e))

  hosted-next : (h g : Sofar) (s z : Slots) (more : List (Option PromiseId)) (q : PromiseId) → z.hosts ≡ s.hosts ++ more → Hosted h s q → Hosted (sofar_then h g) z q
  hosted-next h g s z more q e k = record {
    id = k.id;
    waits = ap (λ (hosts : List (Option PromiseId)). pending_host (slice_get hosts k.id.0)) e ∙ host-grows s.hosts more k.id q k.waits;
    call = place-grows h.calls g.calls k.id.0 mine k.call;
  }

  -- no such promise has settled
  not-overtaken : (h : Sofar) (s z : Slots) (more : List (Option PromiseId)) (fs : List Effect) {A : Type 0} → z.hosts ≡ s.hosts ++ more → Straight z fs → Overtaken is (Hosted h s) (W h) z.promises → A
  not-overtaken h s z more fs e k b =
      let f : Hosted (sofar_then h nothing_yet) z b.promise = hosted-next h nothing_yet s z more b.promise e b.holds in
      open-pending b.promise z.promises (Fulfilled b.value) (hosted-alone f.id b.promise z fs k f.waits).open_ b.settled refl

  -- rows

  abbrev pub next : Sofar → Effect → Slots → Sofar
  next h e s = sofar_then h (effect_sofar e s)

  abbrev Sourced : Sofar → Slots → List Effect → Type 0
  Sourced h s es = Good is (Source h s es) (W h) s.promises

  -- no settling comes first
  abbrev IsOther : Effect → Type 0
  IsOther (Settle p o) = ⊥
  IsOther _ = Unit {0}

  other-first : (e d : Effect) (es ds : List Effect) → IsOther e → e ∷ es ≡ d ∷ ds → IsOther d
  other-first e d es ds n f = let same : e ≡ d = cc in subst IsOther same n

  only-hosted : (h : Sofar) (s : Slots) (e : Effect) (es : List Effect) (q : PromiseId) → IsOther e → Source h s (e ∷ es) q → Hosted h s q
  only-hosted h s e es q n (inl k) = k
  only-hosted h s e es q n (inr k) = absurd (other-first e (Settle q k.outcome) es [] n k.first)

  hosted-good : (h : Sofar) (s : Slots) (e : Effect) (es : List Effect) → IsOther e → Sourced h s (e ∷ es) → Good is (Hosted h s) (W h) s.promises
  hosted-good h s e es n g = good-weaker is (Source h s (e ∷ es)) (Hosted h s) (W h) (W h) s.promises (λ q k. only-hosted h s e es q n k) (λ w. w) g

  good-table : (h g : Sofar) (s z : Slots) (more : List (Option PromiseId)) (fs : List Effect) → z.hosts ≡ s.hosts ++ more → Straight z fs → GoodOr is (Hosted h s) (W h) z.promises → Sourced (sofar_then h g) z fs
  good-table h g s z more fs e k (inl b) = good-weaker is (Hosted h s) (Source (sofar_then h g) z fs) (W h) (W (sofar_then h g)) z.promises (λ q f. inl (hosted-next h g s z more q e f)) (well-stays h g mine) b
  good-table h g s z more fs e k (inr b) = not-overtaken h s z more fs e k b

  plain-table : (h : Sofar) (s : Slots) (e : Effect) (es : List Effect) → IsPlain e → IsOther e → Straight (row e s).slots ((row e s).caused ++ es) → Sourced h s (e ∷ es) → Sourced (next h e s) (row e s).slots ((row e s).caused ++ es)
  plain-table h s e es n o k g =
      good-table h (effect_sofar e s) s (row e s).slots (host_added e s) ((row e s).caused ++ es) (row-hosts e s) k
      (row-plainly (GoodOr is (Hosted h s) (W h)) (good-plainly is (Hosted h s) (W h)) e s n (inl (hosted-good h s e es o g)))

  give-table : (h : Sofar) (s : Slots) (gift : Gift) (u : Use) (es : List Effect) → NoUse is u → Straight (row (Give gift u) s).slots es → Sourced h s (Give gift u ∷ es) → Sourced (next h (Give gift u) s) (row (Give gift u) s).slots es
  unfolding row
  give-table h s gift u es n k g =
      good-table h nothing_yet s (with_promises (use_gift gift u s.promises) s) [] es (sym (append-nil s.hosts)) k
      (gift-good is (Hosted h s) (W h) gift u s.promises (no_use u n) (hosted-good h s (Give gift u) es tt g))
    where
      no_use : (u : Use) → NoUse is u → UseFits is (Hosted h s) (W h) u
      no_use (React step d) n = n
      no_use (Resolve q) n = tt

  -- a host call: its promise is new, and has the reaction only where it is such a call

  abbrev GoodFor : Sofar → Slots → List Effect → Table → Type 0
  GoodFor g z es t = Good is (Source g z es) (W g) t

  react-host : (g : Sofar) (z : Slots) (es : List Effect) (call : HostCall) (step : Step) (d : Option PromiseId) (s : Slots) (b : Bool) → b ≡ is step
      → (call ≡ mine → Source g z es (next_id s.promises)) → UseIs is mine call (React step d) → GoodFor g z es s.promises → GoodFor g z es (call_host call (React step d) s).promises
  unfolding call_host
  react-host g z es call step d s true e new n k = new-good is (Source g z es) (W g) step d (HostCalled (record { 0 = length s.hosts }) call) s.promises (new (n (sym e))) k
  react-host g z es call step d s false e new n k =
      let told : Event = HostCalled (record { 0 = length s.hosts }) call in
      use-good is (Source g z es) (W g) (next_id s.promises) (tell told (fresh s.promises)) (React step d) (sym e) (told-good is (Source g z es) (W g) told s.promises k)

  use-host : (g : Sofar) (z : Slots) (es : List Effect) (call : HostCall) (u : Use) (s : Slots)
      → (call ≡ mine → Source g z es (next_id s.promises)) → UseIs is mine call u → GoodFor g z es s.promises → GoodFor g z es (call_host call u s).promises
  unfolding call_host
  use-host g z es call (React step d) s new n k = react-host g z es call step d s (is step) refl new n k
  use-host g z es call (Resolve q) s new n k =
      let told : Event = HostCalled (record { 0 = length s.hosts }) call in
      follow-good is (Source g z es) (W g) q (next_id s.promises) (tell told (fresh s.promises)) (told-good is (Source g z es) (W g) told s.promises k)

  host-table : (h : Sofar) (s : Slots) (call : HostCall) (u : Use) (es : List Effect) → length s.hosts ≡ length h.calls → UseIs is mine call u → Sourced h s (CallHost call u ∷ es) → Sourced (next h (CallHost call u) s) (row (CallHost call u) s).slots es
  unfolding row call_host
  host-table h s call u es count n g =
      let f : Sofar = next h (CallHost call u) s in
      let z : Slots = call_host call u s in
      let p : PromiseId = next_id s.promises in
      let before : GoodFor f z es s.promises =
      good-weaker is (Hosted h s) (Source f z es) (W h) (W f) s.promises (λ q k. inl (hosted-next h (effect_sofar (CallHost call u) s) s z (Some p ∷ []) q refl k)) (well-stays h (effect_sofar (CallHost call u) s) mine)
      (hosted-good h s (CallHost call u) es tt g) in
      use-host f z es call u s
      (λ e. inl (record {
        id = record { 0 = length s.hosts };
        waits = ap pending_host (place-last s.hosts (Some p));
        call = rw (count, e) (place-last h.calls mine);
      })) n before

  -- a promise is settled

  same_settle : (p q : PromiseId) (o r : Result Plain Plain) (es : List Effect) → Settle p o ∷ es ≡ Settle q r ∷ [] → (p ≡ q) × (o ≡ r)
  same_settle p q o r es e = (cc, cc)

  same_promise : (p : PromiseId) → nat_eq p.0 p.0 ≡ true
  same_promise p = grind arith

  settle-table : (h : Sofar) (s : Slots) (p : PromiseId) (o : Result Plain Plain) (es : List Effect) → Straight s (Settle p o ∷ es) → Straight (row (Settle p o) s).slots es → Sourced h s (Settle p o ∷ es)
      → Sourced (next h (Settle p o) s) (row (Settle p o) s).slots es
  unfolding row
  settle-table h s p o es was k g =
      let z : Slots = with_promises (settle p o s.promises) s in
      good-table h nothing_yet s z [] es (sym (append-nil s.hosts)) k
      (inl (settle-good is (Source h s (Settle p o ∷ es)) (W h) (Hosted h s) p o s.promises (λ m v e. source v e (g.registered p m)) others g k.sound.holds.straight))
    where
      source : (v : Plain) → o ≡ Ok v → Source h s (Settle p o ∷ es) p → W h
      source v e (inl k) = let a = hosted-alone k.id p s (Settle p o ∷ es) was k.waits in let n = named p in let m = a.effects in absurd (omega arith)
      source v e (inr k) = k.well v (sym (same_settle p p o k.outcome es k.first).1 ∙ e)

      others : (q : PromiseId) → nat_eq q.0 p.0 ≡ false → Source h s (Settle p o ∷ es) q → Hosted h s q
      others q n (inl k) = k
      others q n (inr k) =
          let same : p ≡ q = (same_settle p q o k.outcome es k.first).0 in
          let m : nat_eq q.0 p.0 ≡ true = subst (λ (r : PromiseId). nat_eq q.0 r.0 ≡ true) (sym same) (same_promise q) in absurd (cc)

  row-table : (h : Sofar) (s : Slots) (e : Effect) (es : List Effect) → Straight s (e ∷ es) → Straight (row e s).slots ((row e s).caused ++ es) → length s.hosts ≡ length h.calls → UsesIt is mine e → Sourced h s (e ∷ es)
      → Sourced (next h e s) (row e s).slots ((row e s).caused ++ es)
  unfolding row
  row-table h s (Settle p o) es was k n f g = settle-table h s p o es was k g
  row-table h s (Give gift u) es was k n f g = give-table h s gift u es f k g
  row-table h s (CallHost call u) es was k n f g = host-table h s call u es n f g
  row-table h s e es was k n f g = plain-table h s e es tt tt k g

  pub row-tracked : (h : Sofar) (s : Slots) (e : Effect) (es : List Effect) → UsesIt is mine e → Tracked h s (e ∷ es) → Tracked (next h e s) (row e s).slots ((row e s).caused ++ es)
  row-tracked h s e es f k =
      let straight = straight-stays.row s e es k.straight in
      record { straight = straight; numbered = numbered-goes.row h.calls s e es k.numbered; table = row-table h s e es k.straight straight k.numbered.count f k.table }

  -- calls

  abbrev pub after_said : Sofar → Slots → Entry → Sofar
  after_said h s x = sofar_then h (said_sofar s x)

  call-good : (P : PromiseId → Type 0) (V : Type 0) (c : Call) (s : Slots) → Good is P V s.promises → Good is P V (begin c s).done.slots.promises
  call-good P V c s k = begin-makes (λ z. Good is P V z.promises) (record {
    promise = λ z m. fresh-good is P V z.promises m;
    locks = λ z ls m. m;
    hosts = λ z hs m. m;
    pipe = λ z source dest prevent signal promise m. m;
    signal = λ z m. m;
    transform = λ z kind half other change m. m;
    tee = λ z source first second cancel m. m;
    port = λ z side stream backpressure m. m;
    bytes = λ z mark auto m. m;
    byob_requests = λ z hs m. m;
    readable = λ z owner mark size m. m;
    writable = λ z owner mark size m. m;
  }) c s k

  abbrev IsSettle : Call → Type 0
  IsSettle (SettleCall id a) = Unit {0}
  IsSettle c = ⊥

  -- no other call changes the host's
  call-hosts : (c : Call) (s : Slots) → (IsSettle c → ⊥) → (begin c s).done.slots.hosts ≡ s.hosts
  unfolding begin
  call-hosts (SettleCall id a) s n = absurd (n tt)
  call-hosts (ReadInto l room element least) s n = into-either (λ b. b.done.slots.hosts ≡ s.hosts) room element least s refl (λ f. refl) (λ i. refl) (lock_at l s)
  call-hosts c s n = grind arith

  none_settling : (h : Sofar) (q : PromiseId) {A : Type 0} → Settling h [] q → A
  none_settling h q k = let e = k.first in absurd (cc)

  -- a call that leaves the host's
  other-call : (h : Sofar) (s : Slots) (c : Call) → well_said s (Called c) ≡ [] → (begin c s).done.slots.hosts ≡ s.hosts → Tracked h s [] → Tracked (after_said h s (Called c)) (begin c s).done.slots (begin c s).done.caused
  other-call h s c w e k =
      let z : Slots = (begin c s).done.slots in
      let cs : List Effect = (begin c s).done.caused in
      let g : Sofar = after_said h s (Called c) in
      let same : h ≡ g = (λ i. record { calls = sym (append-nil h.calls) i; well = (sym (append-nil h.well) ∙ ap (λ (ids : List HostId). h.well ++ ids) (sym w)) i }) in
      subst (λ (f : Sofar). Tracked f z cs) same (record {
        straight = straight-stays.call s c k.straight;
        numbered = numbered-goes.call h.calls s c k.numbered;
        table =
            good-weaker is (Source h s []) (Source h z cs) (W h) (W h) z.promises
            (λ q f. ⊎_elim (λ (a : Hosted h s q). inl (record { id = a.id; waits = ap (λ (hosts : List (Option PromiseId)). pending_host (slice_get hosts a.id.0)) e ∙ a.waits; call = a.call })) (λ (a : Settling h [] q). none_settling h q a) f)
            (λ w. w) (call-good (Source h s []) (W h) c s k.table);
      })

  -- the call by which the host settles the promise of a call: from then on that is about to be settled

  now_well : (h : Sofar) (s : Slots) (id : HostId) (a : Answer) (p : PromiseId) (v : Plain) → host_at id s ≡ Some p → slice_get h.calls id.0 ≡ Some mine → outcome_of a ≡ Ok v → W (after_said h s (Called (SettleCall id a)))
  now_well h s id AnswerOk p v e c o = record {
    place = length h.well;
    id = id;
    settled = rw e (place-last h.well id);
    called = rw (append-nil h.calls) c;
  }
  now_well h s id (AnswerFail r) p v e c o = absurd (cc)

  same_place : (hosts : List (Option PromiseId)) (n m : ℕ) (q : PromiseId) (same : Bool) → same ≡ nat_eq m n → pending_host (slice_get hosts m) ≡ Some q
      → (m ≡ n) ⊎ (pending_host (slice_get (slice_set hosts n None) m) ≡ Some q)
  same_place hosts n m q true e w = inl (eq_numbers m n (sym e))
  same_place hosts n m q false e w = inr (ap pending_host (slice_get-set_other hosts n m None (λ f. unequal_numbers m n (sym e) (sym f))) ∙ w)

  module _ (h : Sofar) (s : Slots) (id : HostId) (a : Answer) (p : PromiseId) (e : host_at id s ≡ Some p) (k : Tracked h s []) where
    abbrev g : Sofar
    g = after_said h s (Called (SettleCall id a))

    abbrev z : Slots
    z = record s { hosts = slice_set s.hosts id.0 None }

    abbrev cs : List Effect
    cs = Settle p (outcome_of a) ∷ []

    some_same : (p q : PromiseId) → ◌≡◌ {A = Option PromiseId} (Some p) (Some q) → p ≡ q
    some_same p q e = cc

    hosted-now : (q : PromiseId) (f : Hosted h s q) → (f.id.0 ≡ id.0) ⊎ (pending_host (slice_get (slice_set s.hosts id.0 None) f.id.0) ≡ Some q) → Source g z cs q
    hosted-now q f (inr w) = inl (record { id = f.id; waits = w; call = rw (append-nil h.calls) f.call })
    hosted-now q f (inl n) =
        let same_id : f.id ≡ id = ap (λ (m : ℕ). record { 0 = m }) n in
        let same : p ≡ q = some_same p q (sym e ∙ (ap (λ (i : HostId). host_at i s) (sym same_id) ∙ f.waits)) in
        let called : slice_get h.calls id.0 ≡ Some mine = subst (λ (i : HostId). slice_get h.calls i.0 ≡ Some mine) same_id f.call in
        inr (record {
          outcome = outcome_of a;
          first = ap (λ (r : PromiseId). Settle r (outcome_of a) ∷ []) same;
          well = λ v o. now_well h s id a p v e called o;
        })

    source-now : (q : PromiseId) → Source h s [] q → Source g z cs q
    source-now q (inl f) = hosted-now q f (same_place s.hosts id.0 f.id.0 q (nat_eq f.id.0 id.0) refl f.waits)
    source-now q (inr f) = none_settling h q f

    settled-begun : Straight z cs → Tracked g z cs
    settled-begun straight =
        let weaker : W h → W g = well-stays h (said_sofar s (Called (SettleCall id a))) mine in
        record {
          straight = straight;
          numbered = rw (append-nil h.calls) (record { count = length-set s.hosts id.0 None ∙ k.numbered.count; told = k.numbered.told });
          table = good-weaker is (Source h s []) (Source g z cs) (W h) (W g) s.promises source-now weaker k.table;
        }

  settle-begins : (id : HostId) (a : Answer) (s : Slots) (o : Option PromiseId) → host_at id s ≡ o → begin (SettleCall id a) s ≡ settle_host id a s o
  unfolding begin
  settle-begins id a s o e = ap (settle_host id a s) e

  unsettled_said : (id : HostId) (a : Answer) (s : Slots) → host_at id s ≡ None → well_said s (Called (SettleCall id a)) ≡ []
  unsettled_said id AnswerOk s e = ap (settled_now id) e
  unsettled_said id (AnswerFail r) s e = refl

  settle-call : (h : Sofar) (s : Slots) (id : HostId) (a : Answer) (o : Option PromiseId) → host_at id s ≡ o → Tracked h s []
      → let d : Done = (begin (SettleCall id a) s).done in Tracked (after_said h s (Called (SettleCall id a))) d.slots d.caused
  settle-call h s id a None e k =
      other-call h s (SettleCall id a) (unsettled_said id a s e) (ap (λ (b : Begun). b.done.slots.hosts) (settle-begins id a s None e)) k
  settle-call h s id a (Some p) e k =
      let begins = settle-begins id a s (Some p) e in
      let straight = straight-stays.call s (SettleCall id a) k.straight in
      subst (λ (b : Begun). Tracked (after_said h s (Called (SettleCall id a))) b.done.slots b.done.caused) (sym begins)
      (settled-begun h s id a p e k (subst (λ (b : Begun). Straight b.done.slots b.done.caused) begins straight))

  pub call-tracked : (h : Sofar) (s : Slots) (c : Call) → Tracked h s [] → Tracked (after_said h s (Called c)) (begin c s).done.slots (begin c s).done.caused
  call-tracked h s (SettleCall id a) k = settle-call h s id a (host_at id s) refl k
  call-tracked h s c k = other-call h s c refl (call-hosts c s (λ u. u)) k

  -- jobs, and between steps

  -- nothing is said, and only promises change
  pub unsaid : (h : Sofar) → sofar_then h nothing_yet ≡ h
  unsaid h = sofar-history.right h

  without-settling : (h : Sofar) (s z : Slots) (fs : List Effect) → z.hosts ≡ s.hosts → (q : PromiseId) → Source h s [] q → Source h z fs q
  without-settling h s z fs e q (inl a) = inl (record { id = a.id; waits = ap (λ (hosts : List (Option PromiseId)). pending_host (slice_get hosts a.id.0)) e ∙ a.waits; call = a.call })
  without-settling h s z fs e q (inr a) = none_settling h q a

  still-tracked : (h : Sofar) (s z : Slots) (cs : List Effect) → z.hosts ≡ s.hosts → Straight z cs → Numbered h.calls z cs → (Good is (Source h s []) (W h) s.promises → Good is (Source h s []) (W h) z.promises) → Tracked h s [] → Tracked (sofar_then h nothing_yet) z cs
  still-tracked h s z cs f straight numbered table k = rw (unsaid h) (record {
    straight = straight;
    numbered = numbered;
    table = good-weaker is (Source h s []) (Source h z cs) (W h) (W h) z.promises (without-settling h s z cs f) (λ w. w) (table k.table);
  })

  first_fits : (V : Type 0) (js : List Job) (job : Job) → first_job js ≡ Some job → JobsFit is V js → JobFits is V job
  first_fits V [] job e f = cc
  first_fits V (i ∷ js) job e f = let same : i ≡ job = cc in subst (JobFits is V) same f.0

  -- what is known of the next job
  pub next-fits : (h : Sofar) (s : Slots) (job : Job) → next_job s.promises ≡ Some job → Tracked h s [] → JobFits is (W h) job
  next-fits h s job e k = first_fits (W h) s.promises.jobs job e k.table.queued

  pub job-tracked : (h : Sofar) (s : Slots) (job : Job) → next_job s.promises ≡ Some job → Tracked h s [] → Tracked (sofar_then h nothing_yet) (with_promises (after_next_job s.promises) s) (job_effects job)
  job-tracked h s job e k =
      still-tracked h s (with_promises (after_next_job s.promises) s) (job_effects job) refl (straight-stays.job s job e k.straight) (numbered-goes.job h.calls s job e k.numbered) (λ g. next-good is (Source h s []) (W h) s.promises g) k

  pub answered-tracked : (h : Sofar) (s : Slots) (p : PromiseId) → Tracked h s [] → Tracked h (with_promises (watch p s.promises) s) []
  answered-tracked h s p k =
      rw (unsaid h) at (still-tracked h s (with_promises (watch p s.promises) s) [] refl (straight-stays.answered s p k.straight) (numbered-goes.answered h.calls s p k.numbered) (λ g. watch-good is (Source h s []) (W h) p s.promises g) k)

  pub older-tracked : (h : Sofar) (s : Slots) → Tracked h s [] → Tracked h (older s) []
  older-tracked h s k = rw (unsaid h) at (still-tracked h s (older s) [] refl (straight-stays.older s k.straight) (numbered-goes.older h.calls s k.numbered) (λ g. g) k)

  same-good : (h : Sofar) (s : Slots) → Good is (Source h s []) (W h) s.promises → Good is (Source h s []) (W h) (after_event s).promises
  same-good h s g = record { registered = g.registered; queued = g.queued }

  pub heard-tracked : (h : Sofar) (s : Slots) → Tracked h s [] → Tracked (sofar_then h nothing_yet) (after_event s) []
  heard-tracked h s k = still-tracked h s (after_event s) [] refl (straight-heard s k.straight) (numbered-rests.heard h.calls s k.numbered) (same-good h s) k

  pub tracked_empty : Tracked nothing_yet empty []
  tracked_empty = record { straight = straight-empty; numbered = record { count = refl; told = tt }; table = record { registered = λ q m. absurd (cc); queued = tt } }
