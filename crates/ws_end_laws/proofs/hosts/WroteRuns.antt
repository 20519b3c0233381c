-- The host settled each write of a stream well that ended well.
use Rattle.std.proofs.Common.{◌≡◌, ℕ, zero, suc, ◌+◌, ◌≤◌, ◌<◌, Bool, true, false, not, ◌||◌, is_some, ◌⊎◌, inl, inr, ⊎_elim, List, [], ◌∷◌, ◌++◌, length, length-append, Option, Some, None, Result, Ok, Err, slice_get, refl, sym, ap, ◌∙◌, arith}
use Rattle.ws_value.specs.declared.{ids.PromiseId.{PromiseId}, ids.StreamId.{StreamId}}
use Rattle.ws_value.specs.declared.value.Plain.{Plain}
use Rattle.ws_value.specs.declared.value.Value.{Value}
use Rattle.ws_steps.specs.declared.{calls.HostCall.{HostCall}, calls.HostCall.TheVariants.{Start, Pull, Cancel, Write as HostWrite, Close, Abort, Transform as HostTransform, Flush as HostFlush, CancelTransform as HostCancelTransform}}
use Rattle.ws_steps.specs.declared.effects.Effect.{Effect}
use Rattle.ws_steps.specs.declared.effects.Effect.TheVariants.{Writable, Give, Settle, CallHost}
use Rattle.ws_steps.specs.declared.{effects.Use.{Use}, effects.Use.TheVariants.{React, Resolve}}
use Rattle.ws_steps.specs.declared.{promises.Job.{Job}, promises.Step.{Step}}
use Rattle.ws_steps.specs.declared.writable.WritableOperation.TheVariants.{WriteSettled}
use Rattle.ws_steps.specs.Promises.{Table}
use Rattle.ws_steps.specs.Writable as writable
use Rattle.ws_steps.specs.declared.effects.Owner.TheVariants.{Host}
use Rattle.ws_steps.specs.Slots.{Slots, owner_at, writable_at}
use Rattle.ws_steps.specs.Turns.{row}
use Rattle.ws_steps.specs.Run.{Entry, step}
use Rattle.ws_steps.specs.Histories.{is_same}
use Rattle.ws_laws.proofs.Lists.{Each, each-append, each-map}
use Rattle.ws_laws.proofs.Tables.{is_same-refl}
use Rattle.ws_promise_laws.proofs.Runs.{Straight}
use Rattle.ws_end_laws.specs.hosts.HostCalls.{effect_called, write_of, writes_of}
use Rattle.ws_end_laws.proofs.hosts.Called.{Numbered}
use Rattle.ws_end_laws.proofs.hosts.Reactions.{JobFits, JobsFit, Good}
use Rattle.ws_end_laws.proofs.hosts.Hosted.{Sofar, nothing_yet, sofar_then, sofar-history, effect_sofar, said_sofar}
use Rattle.ws_end_laws.proofs.hosts.WriteUses.{writes_it, is_write_call, marks, Fits, caused-fit, fits-weaker, pends, row-called}
use Rattle.ws_steps.specs.WritableHistory.{Writes, effect_writes}
use Rattle.ws_steps.specs.declared.writable.WritableState.{WritableState}
use Rattle.ws_steps.specs.Queues.{is_empty}
use Rattle.ws_steps.specs.Writable.{has_ended}
use Rattle.ws_steps.specs.declared.effects.Gift.TheVariants.{This}
use Rattle.ws_laws.proofs.Weights.{weigh, of_reactions, of_entries, of_jobs}
use Rattle.ws_laws.proofs.Walker.{IsHistory}
use Rattle.ws_writable_laws.proofs.Agenda.{Kept, found}
use Rattle.ws_writable_laws.proofs.Handed.{NoHalf, no-half, NoEnd, no-end}
use Rattle.ws_writable_laws.proofs.Runs.{hosted_at}
use Rattle.ws_writable_laws.proofs.Operations.{same_once, handed}
use Rattle.ws_writable_laws.proofs.Shape.{core_of, hands, all, all-append, leads_to, is_write, of_reaction, one_if, weight}
use Rattle.ws_write_laws.proofs.Runs.{Both, no_both, both_then, both_told, is_history, Holds}
use Rattle.ws_steps.specs.declared.promises.Job.TheVariants.{Reaction as ReactionJob, Follow, Settle as SettleJob, Micro as MicroJob}
use Rattle.ws_steps.specs.declared.promises.Reaction.{Reaction}
use Rattle.ws_steps.specs.declared.promises.Reaction.TheVariants.{Perform, Adopt}
use Rattle.ws_steps.specs.Promises.{Entry as PromiseEntry, live}
use Rattle.ws_end_laws.proofs.hosts.Reactions.{any_marked, entry_marked}
use Rattle.ws_end_laws.proofs.hosts.Wrote.{writes-append, NthWell, LastWell, last-stays, last-nth, Sourced, next, plain-table, give-table, other-host, own-host, settle-table}

-- nothing weighs, so no such reaction is registered or queued

one_marked : (j : StreamId) (step : Step) → is_write j step ≡ one_if (writes_it j step)
one_marked j step = grind arith

-- the history of the host's calls, and that of the writes

pub record Past : Type 0 where
  pub sofar : Sofar
  pub both : Both

abbrev pub nothing_past : Past
nothing_past = record { sofar = nothing_yet; both = no_both }

abbrev pub past_then : Past → Past → Past
past_then f g = record { sofar = sofar_then f.sofar g.sofar; both = both_then f.both g.both }

pub past-history : IsHistory nothing_past past_then
past-history = record {
  left = λ f k. record { sofar = sofar-history.left f.sofar k; both = is_history.left f.both k };
  right = λ f k. record { sofar = sofar-history.right f.sofar k; both = is_history.right f.both k };
  assoc = λ f g h k. record { sofar = sofar-history.assoc f.sofar g.sofar h.sofar k; both = is_history.assoc f.both g.both h.both k };
}

abbrev pub said_past : Slots → Entry → Past
said_past s x = record { sofar = said_sofar s x; both = no_both }

module _ (j : StreamId) where
  none_in : (rs : List Reaction) → of_reactions (of_reaction (is_write j)) rs ≤ 0 → any_marked (writes_it j) rs ≡ false
  none_in [] n = refl
  none_in (Perform step derived ∷ rs) n = let e = one_marked j step in let rest = none_in rs (omega arith) in by (writes_it j step) refl rest
    where
      by : (b : Bool) → writes_it j step ≡ b → any_marked (writes_it j) rs ≡ false → writes_it j step || any_marked (writes_it j) rs ≡ false
      by true f r = let e = one_marked j step in let g : one_if (writes_it j step) ≡ 1 = ap one_if f in absurd (omega arith)
      by false f r = rw f r
  none_in (Adopt q ∷ rs) n = none_in rs (omega arith)

  none_at : (es : List (Option PromiseEntry)) (k : ℕ) → of_entries (of_reaction (is_write j)) es ≤ 0 → entry_marked (writes_it j) (live (slice_get es k)) ≡ false
  none_at [] k n = refl
  none_at (None ∷ es) zero n = refl
  none_at (Some e ∷ es) zero n = none_in e.reactions (omega arith)
  none_at (e ∷ es) (suc k) n = none_at es k (omega arith)

  jobs_fit : (W : Type 0) (js : List Job) → of_jobs (of_reaction (is_write j)) js ≤ 0 → JobsFit (writes_it j) W js
  jobs_fit W [] n = tt
  jobs_fit W (ReactionJob step o derived ∷ js) n = let e = one_marked j step in (one o, jobs_fit W js (omega arith))
    where
      one : (o : Result Plain Plain) → JobFits (writes_it j) W (ReactionJob step o derived)
      one (Ok v) = λ m. let e = one_marked j step in let g : one_if (writes_it j step) ≡ 1 = ap one_if m in absurd (omega arith)
      one (Err r) = tt
  jobs_fit W (Follow q r ∷ js) n = (tt, jobs_fit W js (omega arith))
  jobs_fit W (SettleJob q o ∷ js) n = (tt, jobs_fit W js (omega arith))
  jobs_fit W (MicroJob m ∷ js) n = (tt, jobs_fit W js (omega arith))

  none-good : (P : PromiseId → Type 0) (W : Type 0) (t : Table) → weight (is_write j) t ≤ 0 → Good (writes_it j) P W t
  unfolding weigh
  none-good P W t n = record { registered = λ q m. let f = none_at t.entries q.0 (omega arith) in absurd (cc); queued = jobs_fit W t.jobs (omega arith) }

  abbrev pub effect_past : Effect → Slots → Past
  effect_past e s = record { sofar = effect_sofar e s; both = both_told j e s }

  -- what holds at each moment
  pub record Held (h : Past) (s : Slots) (es : List Effect) : Type 0 where
    pub straight : Straight s es
    pub numbered : Numbered h.sofar.calls s es
    pub holds : Holds j h.both s es
    pub counted : length (writes_of j h.sofar.calls) + all (pends j) es ≡ length h.both.writes.acted
    pub table : Sourced j h.sofar s es
    pub effects : Each (Fits j (LastWell j h.sofar)) es
    pub wells : (n : ℕ) → n < h.both.writes.fulfilled → NthWell j h.sofar n

  -- an effect by which a write goes on is alone

  record Alone (s : Slots) (es : List Effect) : Type 0 where
    weighs : weight (is_write j) s.promises ≤ 0
    others : all (leads_to (is_write j)) es ≤ 0
    flying : is_some (writable_at j s).write_in_flight ≡ true

  handed_writing : (n : ℕ) (w : writable.Slots) → (core_of (handed n w)).writing ≡ is_some w.write_in_flight
  handed_writing n w = grind arith

  flies : (b : Bool) → 1 ≤ one_if b → b ≡ true
  flies true n = refl
  flies false n = absurd (omega arith)

  alone : (h : Writes) (s : Slots) (e : Effect) (es : List Effect) → Kept j h s (e ∷ es) → leads_to (is_write j) e ≡ 1 → Alone s es
  alone h s e es k one =
      let o = k.held.fine.owed.writes in
      let b = handed_writing (all (hands j) (e ∷ es)) (writable_at j s) in
      let most = one_most (core_of (handed (all (hands j) (e ∷ es)) (writable_at j s))).writing in
      record { weighs = omega (arith, o, one, most); others = omega (arith, o, one, most); flying = sym b ∙ flies _ (omega (arith, o, one)) }
    where
      one_most : (b : Bool) → one_if b ≤ 1
      one_most true = omega arith
      one_most false = omega arith

  -- where no write goes on, nothing is told of one
  zero-fits : (V U : Type 0) (es : List Effect) → all (leads_to (is_write j)) es ≤ 0 → Each (Fits j V) es → Each (Fits j U) es
  zero-fits V U [] n f = tt
  zero-fits V U (e ∷ es) n f = (one e f.0 (omega arith), zero-fits V U es (omega arith) f.1)
    where
      one : (e : Effect) → Fits j V e → leads_to (is_write j) e ≤ 0 → Fits j U e
      one (Writable i (WriteSettled (Ok v))) f n = λ g. let m : one_if (is_same j i) ≡ 1 = ap one_if g in absurd (omega arith)
      one (Writable i (WriteSettled (Err r))) f n = tt
      one e f n = f

  pend_leads : (V : Type 0) (e : Effect) → Fits j V e → pends j e ≤ leads_to (is_write j) e
  pend_leads V (CallHost call u) f = by call u f
    where
      by : (call : HostCall) (u : Use) → is_write_call j call ≡ marks j u → length (write_of j call) ≤ leads_to (is_write j) (CallHost call u)
      by (HostWrite i v) (React step d) f = let e = one_marked j step in grind arith
      by (HostWrite i v) (Resolve q) f = grind arith
      by (Start i) u f = omega arith
      by (Pull i) u f = omega arith
      by (Cancel i r) u f = omega arith
      by (Close i) u f = omega arith
      by (Abort i r) u f = omega arith
      by (HostTransform i v) u f = omega arith
      by (HostFlush i) u f = omega arith
      by (HostCancelTransform i r) u f = omega arith
  pend_leads V e f = grind arith

  all_pend : (V : Type 0) (es : List Effect) → Each (Fits j V) es → all (leads_to (is_write j)) es ≤ 0 → all (pends j) es ≡ 0
  all_pend V [] f n = refl
  all_pend V (e ∷ es) f n = let a = pend_leads V e f.0 in let b = all_pend V es f.1 (omega arith) in omega arith

  -- rows

  abbrev pub next_past : Past → Effect → Slots → Past
  next_past h e s = past_then h (effect_past e s)

  marked_react : (u : Use) → marks j u ≡ true → leads_to (is_write j) (Give (This (record { 0 = 0 })) u) ≡ 1
  marked_react (React step d) m = one_marked j step ∙ ap one_if m
  marked_react (Resolve q) m = absurd (cc)

  -- a host call
  host-table : (h : Past) (s : Slots) (call : HostCall) (u : Use) (es : List Effect) (b : Bool) → is_write_call j call ≡ b → Held h s (CallHost call u ∷ es) → Straight (row (CallHost call u) s).slots es
      → Sourced j (next j h.sofar (CallHost call u) s) (row (CallHost call u) s).slots es
  host-table h s call u es false n k straight = other-host j h.sofar s call u es n (sym k.effects.0 ∙ n) straight k.table
  host-table h s call (Resolve q) es true n k straight = let m : true ≡ false = sym n ∙ k.effects.0 in absurd (cc)
  host-table h s call (React step d) es true n k straight =
      let m : marks j (React step d) ≡ true = sym k.effects.0 ∙ n in
      let a = alone h.both.writes s (CallHost call (React step d)) es k.holds.kept (marked_react (React step d) m) in
      own-host j h.sofar s call step d es k.numbered.count n (λ P V. none-good P V s.promises a.weighs)

  pub row-table : (h : Past) (s : Slots) (e : Effect) (es : List Effect) → Held h s (e ∷ es) → Straight (row e s).slots ((row e s).caused ++ es) → Sourced j (next j h.sofar e s) (row e s).slots ((row e s).caused ++ es)
  unfolding row
  row-table h s (Settle p o) es k l = settle-table j h.sofar s p o es k.straight l k.table
  row-table h s (Give gift u) es k l = give-table j h.sofar s gift u es k.effects.0 l k.table
  row-table h s (CallHost call u) es k l = host-table h s call u es (is_write_call j call) refl k l
  row-table h s e es k l = plain-table j h.sofar s e es tt tt l k.table

  -- what is told of the last call stays told, unless such a call is made, and then none is told of

  no_calls : (e : Effect) (s : Slots) → pends j e ≡ 0 → writes_of j (effect_called e s) ≡ []
  no_calls (CallHost call u) s n = ap (λ vs. vs ++ []) (none_of (write_of j call) n)
    where
      none_of : (vs : List Value) → length vs ≡ 0 → vs ≡ []
      none_of [] n = refl
      none_of (v ∷ vs) n = absurd (omega arith)
  no_calls _ s n = refl

  pends_one : (e : Effect) → (pends j e ≡ 0) ⊎ (pends j e ≡ 1)
  pends_one (CallHost (HostWrite i v) u) = by (is_same j i) refl
    where
      by : (b : Bool) → is_same j i ≡ b → (length (write_of j (HostWrite i v)) ≡ 0) ⊎ (length (write_of j (HostWrite i v)) ≡ 1)
      by true e = inr (rw e refl)
      by false e = inl (rw e refl)
  pends_one (CallHost (Start i) u) = inl refl
  pends_one (CallHost (Pull i) u) = inl refl
  pends_one (CallHost (Cancel i r) u) = inl refl
  pends_one (CallHost (Close i) u) = inl refl
  pends_one (CallHost (Abort i r) u) = inl refl
  pends_one (CallHost (HostTransform i v) u) = inl refl
  pends_one (CallHost (HostFlush i) u) = inl refl
  pends_one (CallHost (HostCancelTransform i r) u) = inl refl
  pends_one _ = inl refl

  pend_one_leads : (V : Type 0) (e : Effect) → Fits j V e → pends j e ≡ 1 → leads_to (is_write j) e ≡ 1
  pend_one_leads V e f n = let a = pend_leads V e f in let b = few_leads e in omega (arith, a, b, n)
    where
      few_step : (step : Step) → is_write j step ≤ 1
      few_step step = let e = one_marked j step in by (writes_it j step) e
        where
          by : (b : Bool) → is_write j step ≡ one_if b → is_write j step ≤ 1
          by true e = omega arith
          by false e = omega arith

      few_leads : (e : Effect) → leads_to (is_write j) e ≤ 1
      few_leads e = grind (arith, few_step)

  pub row-effects : (h : Past) (s : Slots) (e : Effect) (es : List Effect) → owner_at j s ≡ Host → Held h s (e ∷ es) → Each (Fits j (LastWell j (next j h.sofar e s))) ((row e s).caused ++ es)
  row-effects h s e es host k =
      let free : NoHalf j s = no-half s j k.holds.kept.halved host in
      let apart : NoEnd j s = no-end s j k.holds.kept.ended host in
      let W : Type 0 = LastWell j h.sofar in
      let U : Type 0 = LastWell j (next j h.sofar e s) in
      ⊎_elim
      (λ (n : pends j e ≡ 0).
      let weaker : W → U = last-stays j h.sofar (effect_sofar e s) (no_calls e s n) in
      each-append (Fits j U) (row e s).caused es (caused-fit j U e s host free apart (fits-weaker j W U weaker e k.effects.0)) (each-map (Fits j W) (Fits j U) (fits-weaker j W U weaker) es k.effects.1))
      (λ (n : pends j e ≡ 1).
      let a = alone h.both.writes s e es k.holds.kept (pend_one_leads W e k.effects.0 n) in
      each-append (Fits j U) (row e s).caused es (caused-fit j U e s host free apart (any_fit W U e k.effects.0 n)) (zero-fits W U es a.others k.effects.1))
      (pends_one e)
    where
      any_fit : (V U : Type 0) (e : Effect) → Fits j V e → pends j e ≡ 1 → Fits j U e
      any_fit V U (Writable i (WriteSettled (Ok v))) f n = absurd (omega arith)
      any_fit V U (Writable i (WriteSettled (Err r))) f n = tt
      any_fit V U e f n = f

  pub row-counted : (h : Past) (s : Slots) (e : Effect) (es : List Effect) → Held h s (e ∷ es)
      → length (writes_of j (h.sofar.calls ++ effect_called e s)) + all (pends j) ((row e s).caused ++ es) ≡ length (h.both.writes.acted ++ (effect_writes j e s).acted)
  row-counted h s e es k =
      let a = row-called j (LastWell j h.sofar) e s k.effects.0 in
      let b = k.counted in
      let c = all-append (pends j) (row e s).caused es in
      let d : length (writes_of j (h.sofar.calls ++ effect_called e s)) ≡ length (writes_of j h.sofar.calls) + length (writes_of j (effect_called e s)) =
      ap length (writes-append j h.sofar.calls (effect_called e s)) ∙ length-append (writes_of j h.sofar.calls) (writes_of j (effect_called e s)) in
      let f = length-append h.both.writes.acted (effect_writes j e s).acted in
      omega (arith, a, b, c, d, f)

  -- a write that ended well is the last that was called for

  pub below : (n m : ℕ) → n < m + 1 → (n < m) ⊎ (n ≡ m)
  below n m l = grind arith

  spent_open : (state : WritableState) (q : Bool) (b : Bool) → (has_ended state ≡ true → b ≡ false) → b ≡ true → not (has_ended state) || q ≡ true
  spent_open state q b f e = grind arith

  pub ended-well : (h : Past) (s : Slots) (v : Plain) (es : List Effect) → owner_at j s ≡ Host → let e : Effect = Writable j (WriteSettled (Ok v)) in Held h s (e ∷ es) → LastWell j h.sofar → NthWell j h.sofar h.both.writes.fulfilled
  ended-well h s v es host k w =
      let e : Effect = Writable j (WriteSettled (Ok v)) in
      let self = same_once j in
      let one : leads_to (is_write j) e ≡ 1 = ap one_if (is_same-refl j) in
      let a = alone h.both.writes s e es k.holds.kept one in
      let f = found j (WriteSettled (Ok v)) h.both.writes es s (λ u. u) k.holds.kept in
      let lined = k.holds.lined k.straight.sound.holds.straight in
      let open_ = spent_open (writable_at j s).state (not (is_empty (writable_at j s).queue)) (is_some (writable_at j s).write_in_flight) lined.spent a.flying in
      let counted = f.told.counted (hosted_at j s host) open_ in
      let pend = all_pend (LastWell j h.sofar) es k.effects.1 a.others in
      let flight : one_if (is_some (writable_at j s).write_in_flight) ≡ 1 = ap one_if a.flying in
      let all = k.counted in
      last-nth j h.sofar h.both.writes.fulfilled (omega (arith, counted, pend, flight, all)) w
