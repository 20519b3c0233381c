-- How the host settled the writes that ended well, over every run (`each_write_was_settled`).
use Rattle.std.proofs.Common.{◌≡◌, ℕ, ◌+◌, ◌<◌, Bool, true, false, is_some, ◌⊎◌, inl, inr, ⊎_elim, nat_eq, List, [], ◌∷◌, ◌++◌, length, Option, Some, None, Ok, Err, slice_get, slice_set, refl, sym, ap, subst, ◌∙◌, arith, append-nil, if◌then◌else◌}
use Rattle.ws_value.specs.declared.{ids.HostId.{HostId}, ids.PromiseId.{PromiseId}, ids.StreamId.{StreamId}}
use Rattle.ws_value.specs.declared.value.Plain.{Plain}
use Rattle.ws_steps.specs.declared.{calls.Answer.{Answer}, calls.Answer.TheVariants.{Ok as AnswerOk, Fail as AnswerFail}, calls.Call.{Call}, calls.Call.TheVariants.{Settle as SettleCall, ReadInto}}
use Rattle.ws_steps.specs.declared.{calls.HostCall.{HostCall}, calls.HostCall.TheVariants.{Write as HostWrite}}
use Rattle.ws_steps.specs.declared.effects.Owner.TheVariants.{Host}
use Rattle.ws_steps.specs.declared.effects.Effect.{Effect}
use Rattle.ws_steps.specs.declared.effects.Effect.TheVariants.{Writable, CloseAlgorithm, Settle}
use Rattle.ws_steps.specs.declared.{promises.Job.{Job}}
use Rattle.ws_steps.specs.declared.writable.WritableOperation.TheVariants.{WriteSettled}
use Rattle.ws_steps.specs.declared.writable.WritableOperation.{WritableOperation}
use Rattle.ws_steps.specs.Promises.{first_job, next_job, after_next_job, watch}
use Rattle.ws_steps.specs.Slots.{Slots, empty, Done, pending_host, host_at, lock_at, with_promises, writable_at, owner_at}
use Rattle.ws_steps.specs.Turns.{row}
use Rattle.ws_steps.specs.Jobs.{job_effects}
use Rattle.ws_steps.specs.Begun.{Begun}
use Rattle.ws_steps.specs.ControllerCalls.{settle_host, outcome_of}
use Rattle.ws_steps.specs.Calls.{begin}
use Rattle.ws_steps.specs.Run.{Entry, Called, run, step, older, after_event}
use Rattle.ws_steps.specs.Histories.{is_same, over}
use Rattle.ws_laws.proofs.Into.{into-either}
use Rattle.ws_laws.proofs.Begin.{begin-makes}
use Rattle.ws_laws.proofs.Lists.{Each}
use Rattle.ws_laws.proofs.Tables.{is_same-refl, same_id, eq_numbers, unequal_numbers}
use Rattle.ws_laws.proofs.Walker as walker
use Rattle.ws_laws.proofs.Walker.{Goes, Rests}
use Rattle.ws_promise_laws.proofs.Runs.{Straight, straight-stays, straight-heard, straight-empty}
use Rattle.ws_steps.proofs.PromiseLaws.{slice_get-set_other}
use Rattle.ws_end_laws.specs.hosts.HostCalls.{called, writes_of}
use Rattle.ws_end_laws.specs.hosts.HostLaws.{EachWriteWasSettled}
use Rattle.ws_end_laws.proofs.hosts.Called.{place-last, length-set, Numbered, numbered-goes, numbered-rests}
use Rattle.ws_end_laws.proofs.hosts.Reactions.{JobFits, JobsFit, Good, good-weaker, fresh-good, next-good, watch-good}
use Rattle.ws_end_laws.proofs.hosts.Hosted.{Sofar, nothing_yet, sofar_then, effect_sofar, settled_now, well_said, said_sofar, happens_sofar, over_sofar, run_well}
use Rattle.ws_end_laws.proofs.hosts.WriteUses.{writes_it, Fits, call-fits, job-effects-fit, pends, call-pends, job-pends}
use Rattle.ws_steps.specs.WritableHistory.{no_writes, effect_writes, fulfilled_by, operation_writes, run_writes}
use Rattle.ws_steps.specs.Turns.{Moment}
use Rattle.ws_steps.specs.Run.{moments_in}
use Rattle.ws_steps.specs.Histories.{along, in_step}
use Rattle.ws_laws.proofs.Walker.{IsHistory}
use Rattle.ws_laws.proofs.Shapes.{row-owner}
use Rattle.ws_writable_laws.proofs.Runs.{call-was}
use Rattle.ws_writable_laws.proofs.Shape.{all}
use Rattle.ws_write_laws.proofs.Runs.{Both, no_both, both_then, both_told, is_history, along_both, Holds, holds-goes, holds_empty, holds-rests}
use Rattle.ws_end_laws.proofs.hosts.Wrote.{at-grows, At, NthWell, nth-stays, LastWell, last-stays, Hosted, Settling, Source, Sourced, next}
use Rattle.ws_end_laws.proofs.hosts.WroteRuns.{Past, nothing_past, past_then, past-history, effect_past, said_past, next_past, Held, row-table, row-effects, row-counted, ended-well, below}
use Rattle.ws_end_laws.proofs.hosts.Hosted.{run_well, well_settles, settle-answered, host_within}
use Rattle.ws_end_laws.specs.hosts.HostCalls.{run_called, settles_well, WriteWasSettledWell}
use Rattle.ws_end_laws.proofs.hosts.Called.{run-numbered, called-grows}
use Rattle.ws_steps.specs.WritableHistory.{step_writes, step_promised, run_promised}

-- no other call changes what the host has to settle

abbrev IsSettle : Call → Type 0
IsSettle (SettleCall id a) = Unit {0}
IsSettle c = ⊥

call-hosts : (c : Call) (s : Slots) → (IsSettle c → ⊥) → (begin c s).done.slots.hosts ≡ s.hosts
unfolding begin
call-hosts (SettleCall id a) s n = absurd (n tt)
call-hosts (ReadInto l room element least) s n = into-either (λ b. b.done.slots.hosts ≡ s.hosts) room element least s refl (λ f. refl) (λ i. refl) (lock_at l s)
call-hosts c s n = grind arith

module _ (j : StreamId) where
  -- effects

  own-wells : (h : Past) (s : Slots) (v : Plain) (es : List Effect) → owner_at j s ≡ Host → let e : Effect = Writable j (WriteSettled (Ok v)) in Held j h s (e ∷ es) → (n : ℕ) → n < h.both.writes.fulfilled + (effect_writes j e s).fulfilled → NthWell j (next j h.sofar e s) n
  own-wells h s v es host k n l =
      let e : Effect = Writable j (WriteSettled (Ok v)) in
      let told : (effect_writes j e s).fulfilled ≡ fulfilled_by (Ok v) (writable_at j s) = ap (λ (b : Bool). (if b then operation_writes (WriteSettled (Ok v)) (writable_at j s) else no_writes).fulfilled) (is_same-refl j) in
      by (is_some (writable_at j s).write_in_flight) refl told
    where
      old : (m : ℕ) → m < h.both.writes.fulfilled → NthWell j (next j h.sofar (Writable j (WriteSettled (Ok v))) s) m
      old m l = nth-stays j h.sofar (effect_sofar (Writable j (WriteSettled (Ok v))) s) m (k.wells m l)

      by : (b : Bool) → is_some (writable_at j s).write_in_flight ≡ b → (effect_writes j (Writable j (WriteSettled (Ok v))) s).fulfilled ≡ fulfilled_by (Ok v) (writable_at j s) → NthWell j (next j h.sofar (Writable j (WriteSettled (Ok v))) s) n
      by false f told = let z : fulfilled_by (Ok v) (writable_at j s) ≡ 0 = ap (λ (b : Bool). if b then 1 else 0) f in old n (omega (arith, l, told, z))
      by true f told =
          let z : fulfilled_by (Ok v) (writable_at j s) ≡ 1 = ap (λ (b : Bool). if b then 1 else 0) f in
          ⊎_elim (λ (m : n < h.both.writes.fulfilled). old n m)
          (λ (m : n ≡ h.both.writes.fulfilled). nth-stays j h.sofar (effect_sofar (Writable j (WriteSettled (Ok v))) s) n (subst (NthWell j h.sofar) (sym m) (ended-well j h s v es host k (k.effects.0 (is_same-refl j)))))
          (below j n h.both.writes.fulfilled (omega (arith, l, told, z)))

  -- nothing ends well
  still-wells : (h : Past) (s : Slots) (e : Effect) (es : List Effect) → (effect_writes j e s).fulfilled ≡ 0 → Held j h s (e ∷ es) → (n : ℕ) → n < h.both.writes.fulfilled + (effect_writes j e s).fulfilled → NthWell j (next j h.sofar e s) n
  still-wells h s e es z k n l = nth-stays j h.sofar (effect_sofar e s) n (k.wells n (omega (arith, z, l)))

  settled-wells : (h : Past) (s : Slots) (i : StreamId) (v : Plain) (es : List Effect) (same : Bool) → is_same j i ≡ same → owner_at j s ≡ Host → let e : Effect = Writable i (WriteSettled (Ok v)) in
      Held j h s (e ∷ es) → (n : ℕ) → n < h.both.writes.fulfilled + (effect_writes j e s).fulfilled → NthWell j (next j h.sofar e s) n
  settled-wells h s i v es false f host k =
      still-wells h s (Writable i (WriteSettled (Ok v))) es (ap (λ (b : Bool). (if b then operation_writes (WriteSettled (Ok v)) (writable_at i s) else no_writes).fulfilled) f) k
  settled-wells h s i v es true f host k =
      subst (λ (l : StreamId). Held j h s (Writable l (WriteSettled (Ok v)) ∷ es) → (n : ℕ) → n < h.both.writes.fulfilled + (effect_writes j (Writable l (WriteSettled (Ok v))) s).fulfilled → NthWell j (next j h.sofar (Writable l (WriteSettled (Ok v))) s) n)
      (same_id j i f) (own-wells h s v es host) k

  none_fulfilled : (i : StreamId) (operation : WritableOperation) (s : Slots) → (operation_writes operation (writable_at i s)).fulfilled ≡ 0 → (effect_writes j (Writable i operation) s).fulfilled ≡ 0
  none_fulfilled i operation s z = by (is_same j i)
    where
      by : (b : Bool) → (if b then operation_writes operation (writable_at i s) else no_writes).fulfilled ≡ 0
      by true = z
      by false = refl

  row-wells : (h : Past) (s : Slots) (e : Effect) (es : List Effect) → owner_at j s ≡ Host → Held j h s (e ∷ es) → (n : ℕ) → n < h.both.writes.fulfilled + (effect_writes j e s).fulfilled → NthWell j (next j h.sofar e s) n
  row-wells h s (Writable i (WriteSettled (Ok v))) es host k = settled-wells h s i v es (is_same j i) refl host k
  row-wells h s (Writable i (WriteSettled (Err r))) es host k = still-wells h s (Writable i (WriteSettled (Err r))) es (none_fulfilled i (WriteSettled (Err r)) s refl) k
  row-wells h s (Writable i operation) es host k = still-wells h s (Writable i operation) es (none_fulfilled i operation s refl) k
  row-wells h s (CloseAlgorithm i) es host k = still-wells h s (CloseAlgorithm i) es (by (is_same j i)) k
    where
      by : (b : Bool) → (if b then record no_writes { closes = 1 } else no_writes).fulfilled ≡ 0
      by true = refl
      by false = refl
  row-wells h s e es host k = still-wells h s e es refl k

  row-held : (h : Past) (s : Slots) (e : Effect) (es : List Effect) → owner_at j s ≡ Host → Held j h s (e ∷ es) → Held j (next_past j h e s) (row e s).slots ((row e s).caused ++ es)
  row-held h s e es host k =
      let straight = straight-stays.row s e es k.straight in
      record {
        straight = straight;
        numbered = numbered-goes.row h.sofar.calls s e es k.numbered;
        holds = (holds-goes j).row h.both s e es k.holds;
        counted = row-counted j h s e es k;
        table = row-table j h s e es k straight;
        effects = row-effects j h s e es host k;
        wells = row-wells h s e es host k;
      }

  -- calls

  abbrev after_said : Past → Slots → Entry → Past
  after_said h s x = past_then h (said_past s x)

  -- the writes are told of effects alone
  with-both : (h : Past) (f : Sofar) (s z : Slots) (cs : List Effect) → Held j (record { sofar = f; both = h.both }) z cs → Held j (record { sofar = f; both = both_then h.both no_both }) z cs
  with-both h f s z cs k = subst (λ (b : Both). Held j (record { sofar = f; both = b }) z cs) (sym (is_history.right h.both)) k

  call-good : (P : PromiseId → Type 0) (V : Type 0) (c : Call) (s : Slots) → Good (writes_it j) P V s.promises → Good (writes_it j) P V (begin c s).done.slots.promises
  call-good P V c s k = begin-makes (λ z. Good (writes_it j) P V z.promises) (record {
    promise = λ z m. fresh-good (writes_it j) P V z.promises m;
    locks = λ z ls m. m;
    hosts = λ z hs m. m;
    pipe = λ z source dest prevent signal promise m. m;
    signal = λ z m. m;
    transform = λ z kind half other change m. m;
    tee = λ z source first second cancel m. m;
    port = λ z side stream backpressure m. m;
    bytes = λ z mark auto m. m;
    byob_requests = λ z hs m. m;
    readable = λ z owner mark size m. m;
    writable = λ z owner mark size m. m;
  }) c s k

  none_settling : (h : Sofar) (q : PromiseId) {A : Type 0} → Settling j h [] q → A
  none_settling h q k = let e = k.first in absurd (cc)

  still-source : (h : Sofar) (s z : Slots) (fs : List Effect) → z.hosts ≡ s.hosts → (q : PromiseId) → Source j h s [] q → Source j h z fs q
  still-source h s z fs e q (inl a) = inl (record { id = a.id; waits = ap (λ (hosts : List (Option PromiseId)). pending_host (slice_get hosts a.id.0)) e ∙ a.waits; at = a.at; last = a.last })
  still-source h s z fs e q (inr a) = none_settling h q a

  -- nothing is said, and the host's are left
  still-held : (h : Past) (s z : Slots) (cs : List Effect) → z.hosts ≡ s.hosts → Straight z cs → Numbered h.sofar.calls z cs → Holds j h.both z cs → all (pends j) cs ≡ 0
      → (Sourced j h.sofar s [] → Good (writes_it j) (Source j h.sofar s []) (LastWell j h.sofar) z.promises) → Each (Fits j (LastWell j h.sofar)) cs → Held j h s [] → Held j h z cs
  still-held h s z cs e straight numbered holds pend table effects k = record {
    straight = straight;
    numbered = numbered;
    holds = holds;
    counted = let c = k.counted in omega (arith, c, pend);
    table = good-weaker (writes_it j) (Source j h.sofar s []) (Source j h.sofar z cs) (LastWell j h.sofar) (LastWell j h.sofar) z.promises (still-source h.sofar s z cs e) (λ w. w) (table k.table);
    effects = effects;
    wells = k.wells;
  }

  unsaid : (h : Past) → past_then h nothing_past ≡ h
  unsaid h = past-history.right h

  other-call : (h : Past) (s : Slots) (c : Call) → well_said s (Called c) ≡ [] → (begin c s).done.slots.hosts ≡ s.hosts → Held j h s [] → Held j (after_said h s (Called c)) (begin c s).done.slots (begin c s).done.caused
  other-call h s c w e k =
      let z : Slots = (begin c s).done.slots in
      let cs : List Effect = (begin c s).done.caused in
      subst (λ (ids : List HostId). Held j (record { sofar = sofar_then h.sofar (record { calls = []; well = ids }); both = both_then h.both no_both }) z cs) (sym w)
      (subst (λ (f : Past). Held j f z cs) (sym (unsaid h))
      (still-held h s z cs e (straight-stays.call s c k.straight) (numbered-goes.call h.sofar.calls s c k.numbered) ((holds-goes j).call h.both s c k.holds) (call-pends j c s)
      (λ g. call-good (Source j h.sofar s []) (LastWell j h.sofar) c s g) (call-fits j (LastWell j h.sofar) c s) k))

  same_place : (hosts : List (Option PromiseId)) (n m : ℕ) (q : PromiseId) (same : Bool) → same ≡ nat_eq m n → pending_host (slice_get hosts m) ≡ Some q
      → (m ≡ n) ⊎ (pending_host (slice_get (slice_set hosts n None) m) ≡ Some q)
  same_place hosts n m q true e w = inl (eq_numbers m n (sym e))
  same_place hosts n m q false e w = inr (ap pending_host (slice_get-set_other hosts n m None (λ f. unequal_numbers m n (sym e) (sym f))) ∙ w)

  module _ (h : Past) (s : Slots) (id : HostId) (a : Answer) (p : PromiseId) (e : host_at id s ≡ Some p) (k : Held j h s []) where
    abbrev g : Sofar
    g = sofar_then h.sofar (said_sofar s (Called (SettleCall id a)))

    abbrev z : Slots
    z = record s { hosts = slice_set s.hosts id.0 None }

    abbrev cs : List Effect
    cs = Settle p (outcome_of a) ∷ []

    some_same : (p q : PromiseId) → ◌≡◌ {A = Option PromiseId} (Some p) (Some q) → p ≡ q
    some_same p q e = cc

    now_well : (b : Answer) → b ≡ a → (v : Plain) → (at : At j h.sofar.calls id) → writes_of j at.rest ≡ [] → outcome_of b ≡ Ok v → LastWell j g
    now_well AnswerOk is v at last o =
        let said : well_said s (Called (SettleCall id a)) ≡ id ∷ [] = ap (λ (b : Answer). well_said s (Called (SettleCall id b))) (sym is) ∙ ap (settled_now id) e in
        record {
          id = id;
          at = at-grows j h.sofar.calls [] id at;
          last = ap (writes_of j) (append-nil at.rest) ∙ last;
          place = length h.sofar.well;
          settled = ap (λ (ids : List HostId). slice_get (h.sofar.well ++ ids) (length h.sofar.well)) said ∙ place-last h.sofar.well id;
        }
    now_well (AnswerFail r) is v at last o = absurd (cc)

    hosted-now : (q : PromiseId) (f : Hosted j h.sofar s q) → (f.id.0 ≡ id.0) ⊎ (pending_host (slice_get (slice_set s.hosts id.0 None) f.id.0) ≡ Some q) → Source j g z cs q
    hosted-now q f (inr w) = inl (record { id = f.id; waits = w; at = at-grows j h.sofar.calls [] f.id f.at; last = ap (writes_of j) (append-nil f.at.rest) ∙ f.last })
    hosted-now q f (inl n) =
        let is : f.id ≡ id = ap (λ (m : ℕ). record { 0 = m }) n in
        let same : p ≡ q = some_same p q (sym e ∙ (ap (λ (i : HostId). host_at i s) (sym is) ∙ f.waits)) in
        inr (record {
          outcome = outcome_of a;
          first = ap (λ (r : PromiseId). Settle r (outcome_of a) ∷ []) same;
          well = λ v o. now_well a refl v (record { first = f.at.first; value = f.at.value; rest = f.at.rest; split = f.at.split; number = sym n ∙ f.at.number }) f.last o;
        })

    source-now : (q : PromiseId) → Source j h.sofar s [] q → Source j g z cs q
    source-now q (inl f) = hosted-now q f (same_place s.hosts id.0 f.id.0 q (nat_eq f.id.0 id.0) refl f.waits)
    source-now q (inr f) = none_settling h.sofar q f

    settled-begun : Straight z cs → Holds j h.both z cs → Held j (record { sofar = g; both = h.both }) z cs
    settled-begun straight holds = record {
      straight = straight;
      numbered = rw (append-nil h.sofar.calls) (record { count = length-set s.hosts id.0 None ∙ k.numbered.count; told = k.numbered.told });
      holds = holds;
      counted = rw (append-nil h.sofar.calls) k.counted;
      table = good-weaker (writes_it j) (Source j h.sofar s []) (Source j g z cs) (LastWell j h.sofar) (LastWell j g) s.promises source-now (last-stays j h.sofar (said_sofar s (Called (SettleCall id a))) refl) k.table;
      effects = (tt, tt);
      wells = λ n l. nth-stays j h.sofar (said_sofar s (Called (SettleCall id a))) n (k.wells n l);
    }

  settle-begins : (id : HostId) (a : Answer) (s : Slots) (o : Option PromiseId) → host_at id s ≡ o → begin (SettleCall id a) s ≡ settle_host id a s o
  unfolding begin
  settle-begins id a s o e = ap (settle_host id a s) e

  unsettled_said : (id : HostId) (a : Answer) (s : Slots) → host_at id s ≡ None → well_said s (Called (SettleCall id a)) ≡ []
  unsettled_said id AnswerOk s e = ap (settled_now id) e
  unsettled_said id (AnswerFail r) s e = refl

  settle-call : (h : Past) (s : Slots) (id : HostId) (a : Answer) (o : Option PromiseId) → host_at id s ≡ o → Held j h s []
      → let d : Done = (begin (SettleCall id a) s).done in Held j (after_said h s (Called (SettleCall id a))) d.slots d.caused
  settle-call h s id a None e k =
      other-call h s (SettleCall id a) (unsettled_said id a s e) (ap (λ (b : Begun). b.done.slots.hosts) (settle-begins id a s None e)) k
  settle-call h s id a (Some p) e k =
      let is = settle-begins id a s (Some p) e in
      let straight = straight-stays.call s (SettleCall id a) k.straight in
      let holds = (holds-goes j).call h.both s (SettleCall id a) k.holds in
      let z : Slots = record s { hosts = slice_set s.hosts id.0 None } in
      let cs : List Effect = Settle p (outcome_of a) ∷ [] in
      subst (λ (b : Begun). Held j (after_said h s (Called (SettleCall id a))) b.done.slots b.done.caused) (sym is)
      (with-both h (sofar_then h.sofar (said_sofar s (Called (SettleCall id a)))) s z cs
      (settled-begun h s id a p e k (subst (λ (b : Begun). Straight b.done.slots b.done.caused) is straight) (subst (λ (b : Begun). Holds j h.both b.done.slots b.done.caused) is holds)))

  call-held : (h : Past) (s : Slots) (c : Call) → Held j h s [] → Held j (after_said h s (Called c)) (begin c s).done.slots (begin c s).done.caused
  call-held h s (SettleCall id a) k = settle-call h s id a (host_at id s) refl k
  call-held h s c k = other-call h s c refl (call-hosts c s (λ u. u)) k

  -- jobs, and between steps

  first_fits : (V : Type 0) (js : List Job) (job : Job) → first_job js ≡ Some job → JobsFit (writes_it j) V js → JobFits (writes_it j) V job
  first_fits V [] job e f = cc
  first_fits V (i ∷ js) job e f = let is : i ≡ job = cc in subst (JobFits (writes_it j) V) is f.0

  job-held : (h : Past) (s : Slots) (job : Job) → next_job s.promises ≡ Some job → Held j h s [] → Held j (past_then h nothing_past) (with_promises (after_next_job s.promises) s) (job_effects job)
  job-held h s job e k =
      rw (unsaid h)
      (still-held h s (with_promises (after_next_job s.promises) s) (job_effects job) refl (straight-stays.job s job e k.straight) (numbered-goes.job h.sofar.calls s job e k.numbered) ((holds-goes j).job h.both s job e k.holds) (job-pends j job)
      (λ g. next-good (writes_it j) (Source j h.sofar s []) (LastWell j h.sofar) s.promises g) (job-effects-fit j (LastWell j h.sofar) job (first_fits (LastWell j h.sofar) s.promises.jobs job e k.table.queued)) k)

  -- of a stream of the host
  abbrev IfHosts : Past → Slots → List Effect → Type 0
  IfHosts h s es = owner_at j s ≡ Host → Held j h s es

  answered-held : (h : Past) (s : Slots) (p : PromiseId) → Held j h s [] → Held j h (with_promises (watch p s.promises) s) []
  answered-held h s p k =
      still-held h s (with_promises (watch p s.promises) s) [] refl (straight-stays.answered s p k.straight) (numbered-goes.answered h.sofar.calls s p k.numbered) ((holds-goes j).answered h.both s p k.holds) refl
      (λ g. watch-good (writes_it j) (Source j h.sofar s []) (LastWell j h.sofar) p s.promises g) tt k

  older-held : (h : Past) (s : Slots) → Held j h s [] → Held j h (older s) []
  older-held h s k =
      still-held h s (older s) [] refl (straight-stays.older s k.straight) (numbered-goes.older h.sofar.calls s k.numbered) ((holds-goes j).older h.both s k.holds) refl (λ g. record { registered = g.registered; queued = g.queued }) tt k

  held-goes : Goes past_then (effect_past j) said_past IfHosts
  held-goes = record {
    row = λ h s e es k o. let was : owner_at j s ≡ Host = sym (row-owner j e s) ∙ o in row-held h s e es was (k was);
    call = λ h s c k o. call-held h s c (k (call-was j s s c (λ x. x) o));
    job = λ h s job e k o. job-held h s job e (k o);
    idle = λ h s e k o. rw (unsaid h) (k o);
    answered = λ h s p k o. answered-held h s p (k o);
    older = λ h s k o. older-held h s (k o);
  }

  heard-held : (h : Past) (s : Slots) → Held j h s [] → Held j (past_then h nothing_past) (after_event s) []
  heard-held h s k =
      rw (unsaid h)
      (still-held h s (after_event s) [] refl (straight-heard s k.straight) (numbered-rests.heard h.sofar.calls s k.numbered) ((holds-rests j).heard h.both s k.holds) refl (λ g. record { registered = g.registered; queued = g.queued }) tt k)

  held-rests : Rests past_then said_past IfHosts
  held-rests = record { heard = λ h s k o. heard-held h s (k o) }

  held_empty : Held j nothing_past empty []
  held_empty = record {
    straight = straight-empty;
    numbered = record { count = refl; told = tt };
    holds = holds_empty j;
    counted = refl;
    table = record { registered = λ q m. absurd (cc); queued = tt };
    effects = tt;
    wells = λ n l. absurd (omega arith);
  }

  -- runs

  abbrev happens_past : Slots → Entry → Past
  happens_past s x = past_then (said_past s x) (in_step nothing_past past_then (effect_past j) s x)

  along_past : (ms : List Moment) → along nothing_past past_then (effect_past j) ms
      ≡ record { sofar = along nothing_yet sofar_then effect_sofar ms; both = along no_both both_then (both_told j) ms }
  along_past [] = refl
  along_past (m ∷ ms) = ap (past_then (effect_past j m.effect m.found)) (along_past ms)

  told_both : (x : Entry) (s : Slots) → both_then no_both (along no_both both_then (both_told j) (moments_in s x)) ≡ record { writes = step_writes j s x; promised = step_promised j s x }
  told_both x s = is_history.left _ ∙ along_both j (moments_in s x)

  over_past : (xs : List Entry) (s : Slots) → over nothing_past past_then happens_past xs s
      ≡ record { sofar = over nothing_yet sofar_then happens_sofar xs s; both = record { writes = run_writes j xs s; promised = run_promised j xs s } }
  over_past [] s = refl
  over_past (x ∷ xs) s =
      ap (λ (f : Past). past_then (happens_past s x) f) (over_past xs (step s x))
      ∙ (ap (λ (f : Past). past_then (past_then (said_past s x) f) (record { sofar = over nothing_yet sofar_then happens_sofar xs (step s x); both = record { writes = run_writes j xs (step s x); promised = run_promised j xs (step s x) } })) (along_past (moments_in s x))
      ∙ ap (λ (f : Both). record { sofar = sofar_then (happens_sofar s x) (over nothing_yet sofar_then happens_sofar xs (step s x)); both = both_then f (record { writes = run_writes j xs (step s x); promised = run_promised j xs (step s x) }) }) (told_both x s))

  run-held : (entries : List Entry) → IfHosts (record { sofar = record { calls = called entries; well = run_well entries empty }; both = record { writes = run_writes j entries empty; promised = run_promised j entries empty } }) (run entries empty) []
  run-held entries =
      subst (λ (h : Past). IfHosts h (run entries empty) [])
      (over_past entries empty ∙ ap (λ (f : Sofar). record { sofar = f; both = record { writes = run_writes j entries empty; promised = run_promised j entries empty } }) (over_sofar entries empty))
      (rw (past-history.left (over nothing_past past_then happens_past entries empty)) at (walker.run-goes nothing_past past_then past-history (effect_past j) said_past IfHosts held-goes held-rests entries nothing_past empty (λ o. held_empty)))

-- a call of a front of the calls

record Front (xs first : List HostCall) (c : HostCall) : Type 0 where
  rest : List HostCall
  split : xs ≡ first ++ c ∷ rest

same_call : (x c : HostCall) (xs cs : List HostCall) → x ∷ xs ≡ c ∷ cs → (x ≡ c) × (xs ≡ cs)
same_call x c xs cs e = (cc, cc)

front-of : (xs more first rest : List HostCall) (c : HostCall) → xs ++ more ≡ first ++ c ∷ rest → length first < length xs → Front xs first c
front-of [] more first rest c e l = absurd (omega arith)
front-of (x ∷ xs) more [] rest c e l = let k = same_call x c (xs ++ more) rest e in record { rest = xs; split = ap (λ (y : HostCall). y ∷ xs) k.0 }
front-of (x ∷ xs) more (f ∷ first) rest c e l =
    let k = same_call x f (xs ++ more) (first ++ c ∷ rest) e in
    let n = front-of xs more first rest c k.1 (omega arith) in
    record { rest = n.rest; split = ap (λ (y : HostCall). y ∷ xs) k.0 ∙ ap (λ (ys : List HostCall). f ∷ ys) n.split }

-- the host settled the call of number n well, of those of the write algorithm of stream j
pub write-was-settled : (entries : List Entry) (j : StreamId) (n : ℕ) → owner_at j (run entries empty) ≡ Host → n < (run_writes j entries empty).fulfilled → WriteWasSettledWell entries j n
write-was-settled entries j n host l =
    let w = (run-held j entries host).wells n l in
    let k = well_settles entries empty w.place w.id w.settled in
    let before : Slots = run k.before empty in
    let more : List Entry = Called (settles_well w.id) ∷ k.after in
    let within : w.id.0 < length (called k.before) = subst (λ (n : ℕ). w.id.0 < n) (run-numbered k.before).count (host_within before.hosts w.id.0 k.promise k.waits) in
    let whole : called k.before ++ run_called more before ≡ w.at.first ++ HostWrite j w.at.value ∷ w.at.rest = sym (called-grows k.before more) ∙ (ap called (sym k.whole) ∙ w.at.split) in
    let number = w.at.number in
    let front = front-of (called k.before) (run_called more before) w.at.first w.at.rest (HostWrite j w.at.value) whole (omega (arith, within, number)) in
    record {
      before = k.before;
      after = k.after;
      id = w.id;
      settles = k.whole;
      answered = settle-answered w.id before k.promise k.waits;
      first = w.at.first;
      value = w.at.value;
      rest = front.rest;
      calls = front.split;
      number = number;
      rank = w.rank;
    }

pub each_write_was_settled : EachWriteWasSettled
each_write_was_settled entries j n host l = write-was-settled entries j n host l
