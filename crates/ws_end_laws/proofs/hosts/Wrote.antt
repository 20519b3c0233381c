-- The reaction to a stream's write algorithm is registered with the promise of the last host call of it alone, which only the host settles.
use Rattle.std.proofs.Common.{◌≡◌, ℕ, ◌+◌, true, false, ◌⊎◌, inl, inr, nat_eq, List, [], ◌∷◌, ◌++◌, length, length-append, Option, Some, None, Result, Ok, slice_get, refl, sym, ap, subst, ◌∙◌, arith, append_assoc, append-nil}
use Rattle.ws_value.specs.declared.{ids.HostId.{HostId}, ids.PromiseId.{PromiseId}, ids.StreamId.{StreamId}}
use Rattle.ws_value.specs.declared.value.Outcome.TheVariants.{Fulfilled}
use Rattle.ws_value.specs.declared.value.Plain.{Plain}
use Rattle.ws_value.specs.declared.value.Value.{Value}
use Rattle.ws_steps.specs.declared.{calls.Event.{Event}, calls.Event.TheVariants.{Host as HostCalled}}
use Rattle.ws_steps.specs.declared.{calls.HostCall.{HostCall}, calls.HostCall.TheVariants.{Start, Pull, Cancel, Write as HostWrite, Close, Abort, Transform as HostTransform, Flush as HostFlush, CancelTransform as HostCancelTransform}}
use Rattle.ws_steps.specs.declared.effects.Effect.{Effect}
use Rattle.ws_steps.specs.declared.effects.Effect.TheVariants.{Give, Settle, CallHost}
use Rattle.ws_steps.specs.declared.{effects.Gift.{Gift}, effects.Use.{Use}, effects.Use.TheVariants.{React, Resolve}}
use Rattle.ws_steps.specs.declared.{promises.Step.{Step}}
use Rattle.ws_steps.specs.Promises.{next_id, fresh, tell, settle, use_gift}
use Rattle.ws_steps.specs.Slots.{Slots, pending_host, host_at, with_promises}
use Rattle.ws_steps.specs.Turns.{row, call_host}
use Rattle.ws_steps.specs.Run.{step}
use Rattle.ws_laws.proofs.Tables.{is_same-refl, same_id}
use Rattle.ws_promise_laws.proofs.Holds.{named}
use Rattle.ws_promise_laws.proofs.Runs.{Straight}
use Rattle.ws_end_laws.specs.hosts.HostCalls.{effect_called, write_of, writes_of}
use Rattle.ws_end_laws.proofs.hosts.Plain.{IsPlain, row-plainly, host_added, row-hosts}
use Rattle.ws_end_laws.proofs.hosts.Called.{place-grows, place-last}
use Rattle.ws_end_laws.proofs.hosts.Reactions.{Good, good-weaker, settle-good, Overtaken, GoodOr, good-plainly, use-good, gift-good, told-good, new-good, UseFits}
use Rattle.ws_end_laws.proofs.hosts.Hosted.{hosted-alone, open-pending, Sofar, nothing_yet, sofar_then, effect_sofar}
use Rattle.ws_end_laws.proofs.hosts.WriteUses.{writes_it, is_write_call, marks}

-- the calls of the write algorithm

pub writes-append : (j : StreamId) (xs ys : List HostCall) → writes_of j (xs ++ ys) ≡ writes_of j xs ++ writes_of j ys
writes-append j [] ys = refl
writes-append j (x ∷ xs) ys = ap (λ vs. write_of j x ++ vs) (writes-append j xs ys) ∙ sym (append_assoc (write_of j x) (writes_of j xs) (writes_of j ys))

module _ (j : StreamId) where
  -- the call of this place is one of stream j, behind which n others stand before it
  pub record At (calls : List HostCall) (id : HostId) : Type 0 where
    pub first : List HostCall
    pub value : Value
    pub rest : List HostCall
    pub split : calls ≡ first ++ HostWrite j value ∷ rest
    pub number : id.0 ≡ length first

  abbrev pub at-grows : (calls more : List HostCall) (id : HostId) → At calls id → At (calls ++ more) id
  at-grows calls more id a = record {
    first = a.first;
    value = a.value;
    rest = a.rest ++ more;
    split = ap (λ (cs : List HostCall). cs ++ more) a.split ∙ append_assoc a.first (HostWrite j a.value ∷ a.rest) more;
    number = a.number;
  }

  -- the host settled the call well that is the one of number n, from 0 on
  pub record NthWell (h : Sofar) (n : ℕ) : Type 0 where
    pub id : HostId
    pub at : At h.calls id
    pub rank : length (writes_of j at.first) ≡ n
    pub place : ℕ
    pub settled : slice_get h.well place ≡ Some id

  pub nth-stays : (h g : Sofar) (n : ℕ) → NthWell h n → NthWell (sofar_then h g) n
  nth-stays h g n w = record { id = w.id; at = at-grows h.calls g.calls w.id w.at; rank = w.rank; place = w.place; settled = place-grows h.well g.well w.place w.id w.settled }

  -- that is the last
  pub record LastWell (h : Sofar) : Type 0 where
    pub id : HostId
    pub at : At h.calls id
    pub last : writes_of j at.rest ≡ []
    pub place : ℕ
    pub settled : slice_get h.well place ≡ Some id

  none-more : (xs ys : List HostCall) → writes_of j xs ≡ [] → writes_of j ys ≡ [] → writes_of j (xs ++ ys) ≡ []
  none-more xs ys a b = writes-append j xs ys ∙ rw (a, b) refl

  pub last-stays : (h g : Sofar) → writes_of j g.calls ≡ [] → LastWell h → LastWell (sofar_then h g)
  last-stays h g n w = record { id = w.id; at = at-grows h.calls g.calls w.id w.at; last = none-more w.at.rest g.calls w.last n; place = w.place; settled = place-grows h.well g.well w.place w.id w.settled }

  one_write : (v : Value) (vs : List Value) → write_of j (HostWrite j v) ++ vs ≡ v ∷ vs
  one_write v vs = let self = is_same-refl j in grind arith

  -- the last has the number of those before it
  pub last-nth : (h : Sofar) (n : ℕ) → length (writes_of j h.calls) ≡ n + 1 → LastWell h → NthWell h n
  last-nth h n e w =
      let all : writes_of j h.calls ≡ writes_of j w.at.first ++ w.at.value ∷ [] =
      ap (writes_of j) w.at.split ∙ (writes-append j w.at.first (HostWrite j w.at.value ∷ w.at.rest)
      ∙ ap (λ (vs : List Value). writes_of j w.at.first ++ vs) (one_write w.at.value (writes_of j w.at.rest) ∙ ap (λ (vs : List Value). w.at.value ∷ vs) w.last)) in
      let count : length (writes_of j h.calls) ≡ length (writes_of j w.at.first) + 1 = ap length all ∙ length-append (writes_of j w.at.first) (w.at.value ∷ []) in
      record { id = w.id; at = w.at; rank = omega (arith, e, count); place = w.place; settled = w.settled }

  -- the promise of the last call, which the host hasn't settled
  pub record Hosted (h : Sofar) (s : Slots) (q : PromiseId) : Type 0 where
    pub id : HostId
    pub waits : host_at id s ≡ Some q
    pub at : At h.calls id
    pub last : writes_of j at.rest ≡ []

  -- or that the host settles now
  pub record Settling (h : Sofar) (es : List Effect) (q : PromiseId) : Type 0 where
    pub outcome : Result Plain Plain
    pub first : es ≡ Settle q outcome ∷ []
    pub well : (v : Plain) → outcome ≡ Ok v → LastWell h

  abbrev pub Source : Sofar → Slots → List Effect → PromiseId → Type 0
  Source h s es q = Hosted h s q ⊎ Settling h es q

  abbrev pub Sourced : Sofar → Slots → List Effect → Type 0
  Sourced h s es = Good (writes_it j) (Source h s es) (LastWell h) s.promises

  -- hosts

  there_pending : (o : Option (Option PromiseId)) (q : PromiseId) → pending_host o ≡ Some q → o ≡ Some (Some q)
  there_pending None q e = cc
  there_pending (Some x) q e = ap (λ (x : Option PromiseId). Some x) e

  host-grows : (hosts more : List (Option PromiseId)) (id : HostId) (q : PromiseId) → pending_host (slice_get hosts id.0) ≡ Some q → pending_host (slice_get (hosts ++ more) id.0) ≡ Some q
  host-grows hosts more id q e = ap pending_host (place-grows hosts more id.0 (Some q) (there_pending (slice_get hosts id.0) q e))

  hosted-next : (h g : Sofar) (s z : Slots) (more : List (Option PromiseId)) (q : PromiseId) → z.hosts ≡ s.hosts ++ more → writes_of j g.calls ≡ [] → Hosted h s q → Hosted (sofar_then h g) z q
  hosted-next h g s z more q e n k = record {
    id = k.id;
    waits = ap (λ (hosts : List (Option PromiseId)). pending_host (slice_get hosts k.id.0)) e ∙ host-grows s.hosts more k.id q k.waits;
    at = at-grows h.calls g.calls k.id k.at;
    last = none-more k.at.rest g.calls k.last n;
  }

  not-overtaken : (h : Sofar) (s z : Slots) (more : List (Option PromiseId)) (fs : List Effect) {A : Type 0} → z.hosts ≡ s.hosts ++ more → Straight z fs → Overtaken (writes_it j) (Hosted h s) (LastWell h) z.promises → A
  not-overtaken h s z more fs e k b =
      let f : Hosted (sofar_then h nothing_yet) z b.promise = hosted-next h nothing_yet s z more b.promise e refl b.holds in
      open-pending b.promise z.promises (Fulfilled b.value) (hosted-alone f.id b.promise z fs k f.waits).open_ b.settled refl

  -- rows

  abbrev pub next : Sofar → Effect → Slots → Sofar
  next h e s = sofar_then h (effect_sofar e s)

  abbrev IsOther : Effect → Type 0
  IsOther (Settle p o) = ⊥
  IsOther _ = Unit {0}

  other-first : (e d : Effect) (es ds : List Effect) → IsOther e → e ∷ es ≡ d ∷ ds → IsOther d
  other-first e d es ds n f = let is : e ≡ d = cc in subst IsOther is n

  only-hosted : (h : Sofar) (s : Slots) (e : Effect) (es : List Effect) (q : PromiseId) → IsOther e → Source h s (e ∷ es) q → Hosted h s q
  only-hosted h s e es q n (inl k) = k
  only-hosted h s e es q n (inr k) = absurd (other-first e (Settle q k.outcome) es [] n k.first)

  hosted-good : (h : Sofar) (s : Slots) (e : Effect) (es : List Effect) → IsOther e → Sourced h s (e ∷ es) → Good (writes_it j) (Hosted h s) (LastWell h) s.promises
  hosted-good h s e es n g = good-weaker (writes_it j) (Source h s (e ∷ es)) (Hosted h s) (LastWell h) (LastWell h) s.promises (λ q k. only-hosted h s e es q n k) (λ w. w) g

  good-table : (h g : Sofar) (s z : Slots) (more : List (Option PromiseId)) (fs : List Effect) → z.hosts ≡ s.hosts ++ more → writes_of j g.calls ≡ [] → Straight z fs → GoodOr (writes_it j) (Hosted h s) (LastWell h) z.promises
      → Sourced (sofar_then h g) z fs
  good-table h g s z more fs e n k (inl b) = good-weaker (writes_it j) (Hosted h s) (Source (sofar_then h g) z fs) (LastWell h) (LastWell (sofar_then h g)) z.promises (λ q f. inl (hosted-next h g s z more q e n f)) (last-stays h g n) b
  good-table h g s z more fs e n k (inr b) = not-overtaken h s z more fs e k b

  not_called : (e : Effect) (s : Slots) → IsPlain e → writes_of j (effect_called e s) ≡ []
  not_called (Give gift u) s n = absurd n
  not_called (CallHost call u) s n = absurd n
  not_called _ s n = refl

  pub plain-table : (h : Sofar) (s : Slots) (e : Effect) (es : List Effect) → IsPlain e → IsOther e → Straight (row e s).slots ((row e s).caused ++ es) → Sourced h s (e ∷ es) → Sourced (next h e s) (row e s).slots ((row e s).caused ++ es)
  plain-table h s e es n o k g =
      good-table h (effect_sofar e s) s (row e s).slots (host_added e s) ((row e s).caused ++ es) (row-hosts e s) (not_called e s n) k
      (row-plainly (GoodOr (writes_it j) (Hosted h s) (LastWell h)) (good-plainly (writes_it j) (Hosted h s) (LastWell h)) e s n (inl (hosted-good h s e es o g)))

  no_use : (P : PromiseId → Type 0) (V : Type 0) (u : Use) → marks j u ≡ false → UseFits (writes_it j) P V u
  no_use P V (React step d) n = n
  no_use P V (Resolve q) n = tt

  pub give-table : (h : Sofar) (s : Slots) (gift : Gift) (u : Use) (es : List Effect) → marks j u ≡ false → Straight (row (Give gift u) s).slots es → Sourced h s (Give gift u ∷ es) → Sourced (next h (Give gift u) s) (row (Give gift u) s).slots es
  unfolding row
  give-table h s gift u es n k g =
      good-table h nothing_yet s (with_promises (use_gift gift u s.promises) s) [] es (sym (append-nil s.hosts)) refl k
      (gift-good (writes_it j) (Hosted h s) (LastWell h) gift u s.promises (no_use (Hosted h s) (LastWell h) u n) (hosted-good h s (Give gift u) es tt g))

  -- a host call of another algorithm

  no_write : (call : HostCall) → is_write_call j call ≡ false → write_of j call ++ [] ≡ []
  no_write (HostWrite i v) n = rw n refl
  no_write _ n = refl

  pub other-host : (h : Sofar) (s : Slots) (call : HostCall) (u : Use) (es : List Effect) → is_write_call j call ≡ false → marks j u ≡ false → Straight (row (CallHost call u) s).slots es → Sourced h s (CallHost call u ∷ es)
      → Sourced (next h (CallHost call u) s) (row (CallHost call u) s).slots es
  unfolding row call_host
  other-host h s call u es n m k g =
      let told : Event = HostCalled (record { 0 = length s.hosts }) call in
      let p : PromiseId = next_id s.promises in
      good-table h (effect_sofar (CallHost call u) s) s (call_host call u s) (Some p ∷ []) es refl (no_write call n) k
      (inl (use-good (writes_it j) (Hosted h s) (LastWell h) p (tell told (fresh s.promises)) u (no_use (Hosted h s) (LastWell h) u m) (told-good (writes_it j) (Hosted h s) (LastWell h) told s.promises (hosted-good h s (CallHost call u) es tt g))))

  -- and one of this one, where no other such reaction is registered or queued

  pub write_call : (call : HostCall) → is_write_call j call ≡ true → (v : Value) × (call ≡ HostWrite j v)
  write_call (HostWrite i v) e = (v, ap (λ (k : StreamId). HostWrite k v) (sym (same_id j i e)))
  write_call (Start i) e = absurd (cc)
  write_call (Pull i) e = absurd (cc)
  write_call (Cancel i r) e = absurd (cc)
  write_call (Close i) e = absurd (cc)
  write_call (Abort i r) e = absurd (cc)
  write_call (HostTransform i v) e = absurd (cc)
  write_call (HostFlush i) e = absurd (cc)
  write_call (HostCancelTransform i r) e = absurd (cc)

  pub own-host : (h : Sofar) (s : Slots) (call : HostCall) (step : Step) (d : Option PromiseId) (es : List Effect) → length s.hosts ≡ length h.calls → is_write_call j call ≡ true
      → ((P : PromiseId → Type 0) (V : Type 0) → Good (writes_it j) P V s.promises) → Sourced (next h (CallHost call (React step d)) s) (row (CallHost call (React step d)) s).slots es
  unfolding row call_host
  own-host h s call step d es count e none =
      let f : Sofar = next h (CallHost call (React step d)) s in
      let z : Slots = call_host call (React step d) s in
      let p : PromiseId = next_id s.promises in
      let w = write_call call e in
      new-good (writes_it j) (Source f z es) (LastWell f) step d (HostCalled (record { 0 = length s.hosts }) call) s.promises
      (inl (record {
        id = record { 0 = length s.hosts };
        waits = ap pending_host (place-last s.hosts (Some p));
        at = record { first = h.calls; value = w.0; rest = []; split = ap (λ (c : HostCall). h.calls ++ c ∷ []) w.1; number = count };
        last = refl;
      })) (none (Source f z es) (LastWell f))

  -- a promise is settled

  same_settle : (p q : PromiseId) (o r : Result Plain Plain) (es : List Effect) → Settle p o ∷ es ≡ Settle q r ∷ [] → (p ≡ q) × (o ≡ r)
  same_settle p q o r es e = (cc, cc)

  same_promise : (p : PromiseId) → nat_eq p.0 p.0 ≡ true
  same_promise p = grind arith

  pub settle-table : (h : Sofar) (s : Slots) (p : PromiseId) (o : Result Plain Plain) (es : List Effect) → Straight s (Settle p o ∷ es) → Straight (row (Settle p o) s).slots es → Sourced h s (Settle p o ∷ es)
      → Sourced (next h (Settle p o) s) (row (Settle p o) s).slots es
  unfolding row
  settle-table h s p o es was k g =
      let z : Slots = with_promises (settle p o s.promises) s in
      good-table h nothing_yet s z [] es (sym (append-nil s.hosts)) refl k
      (inl (settle-good (writes_it j) (Source h s (Settle p o ∷ es)) (LastWell h) (Hosted h s) p o s.promises (λ m v e. source v e (g.registered p m)) others g k.sound.holds.straight))
    where
      source : (v : Plain) → o ≡ Ok v → Source h s (Settle p o ∷ es) p → LastWell h
      source v e (inl k) = let a = hosted-alone k.id p s (Settle p o ∷ es) was k.waits in let n = named p in let m = a.effects in absurd (omega arith)
      source v e (inr k) = k.well v (sym (same_settle p p o k.outcome es k.first).1 ∙ e)

      others : (q : PromiseId) → nat_eq q.0 p.0 ≡ false → Source h s (Settle p o ∷ es) q → Hosted h s q
      others q n (inl k) = k
      others q n (inr k) =
          let is : p ≡ q = (same_settle p q o k.outcome es k.first).0 in
          let m : nat_eq q.0 p.0 ≡ true = subst (λ (r : PromiseId). nat_eq q.0 r.0 ≡ true) (sym is) (same_promise q) in absurd (cc)
