-- A pipe that closes its destination hears of a fulfilment only where the destination is closed.
use Rattle.std.proofs.Common.{◌≡◌, Bool, true, false, ◌⊎◌, inl, inr, List, ◌∷◌, ◌++◌, length, Option, Some, None, refl, sym, ◌∙◌}
use Rattle.ws_value.specs.declared.{ids.PipeId.{PipeId}, ids.PromiseId.{PromiseId}, ids.StreamId.{StreamId}}
use Rattle.ws_value.specs.declared.value.{Outcome.{Outcome}, Outcome.TheVariants.{Fulfilled}, Plain.{Plain}}
use Rattle.ws_steps.specs.declared.{calls.Event.{Event}, calls.Event.TheVariants.{Host as HostCalled}, calls.HostCall.{HostCall}}
use Rattle.ws_steps.specs.declared.effects.Effect.{Effect}
use Rattle.ws_steps.specs.declared.effects.Effect.TheVariants.{Writable, Give, CallHost}
use Rattle.ws_steps.specs.declared.{effects.Gift.TheVariants.{This}, effects.Use.{Use}, effects.Use.TheVariants.{React, Resolve}, promises.Step.TheVariants.{PipeActed}}
use Rattle.ws_steps.specs.declared.writable.WritableOperation.TheVariants.{ClosePropagating}
use Rattle.ws_steps.specs.Pipes as pipe
use Rattle.ws_steps.specs.Promises.{Table, outcome_at, next_id, fresh, tell, use_gift}
use Rattle.ws_steps.specs.Slots.{Slots, writable_at}
use Rattle.ws_steps.specs.Turns.{row, call_host}
use Rattle.ws_steps.specs.Laws.{is_rejected}
use Rattle.ws_laws.proofs.Lists.{Each}
use Rattle.ws_laws.proofs.Outcomes.{Keeps}
use Rattle.ws_promise_laws.proofs.Runs.{Straight}
use Rattle.ws_write_laws.proofs.Rejecting.{rejected-keeps}
use Rattle.ws_pipe_laws.specs.pipes.PipeHistory.{is_live}
use Rattle.ws_end_laws.proofs.hosts.Plain.{IsPlain, row-plainly}
use Rattle.ws_end_laws.proofs.hosts.Reactions.{Good, good-weaker, GoodOr, good-plainly, UseFits, use-good, gift-good, told-good, marked-good, all-good}
use Rattle.ws_end_laws.proofs.hosts.Hosted.{open-pending}
use Rattle.ws_end_laws.proofs.hosts.Closing.{closed_in}
use Rattle.ws_end_laws.proofs.hosts.Fates.{asks}
use Rattle.ws_end_laws.proofs.hosts.Staying.{Open}
use Rattle.ws_end_laws.proofs.hosts.Dests.{FateOr, asks-open}
use Rattle.ws_end_laws.proofs.hosts.Acts.{acts_on, NoUse, Fits}
use Rattle.ws_laws.proofs.Truth.{false_true}

module _ (p : PipeId) (i : StreamId) where
  -- a promise to which pipe x reacts as to that of its action: where its shutdown has no error, it is that of the close of the destination, or it is
  -- rejected, or the destination is closed
  abbrev pub Source : pipe.Slots → Slots → PromiseId → Type 0
  Source x s q = (is_live x.phase ≡ false) × (x.error ≡ None → FateOr i q s)

  -- what the pipe may rely on where it hears of a fulfilment
  abbrev pub Told : pipe.Slots → Slots → Type 0
  Told x s = (is_live x.phase ≡ false) × (x.error ≡ None → closed_in i s ≡ true)

  -- the pipe reacts to this promise as to that of its action
  abbrev pub gives : PromiseId → Effect
  gives d = Give (This d) (React (PipeActed p) None)

  -- What stands on the agenda: no such reaction; or first a close of the destination, which is open, and then the reaction to its promise; or the
  -- reaction to a promise of which this holds, among effects without one
  pub data Shape (x : pipe.Slots) (s : Slots) (es : List Effect) : Type 0 where
    Calm : Each (Fits p (Told x s)) es → Shape x s es
    Asking : (d : PromiseId) (rest : List Effect) → es ≡ Writable i (ClosePropagating d) ∷ gives d ∷ rest → is_live x.phase ≡ false → (x.error ≡ None → Open (writable_at i s))
        → Each (Fits p (Told x s)) rest → Shape x s es
    Giving : (d : PromiseId) (cs rest : List Effect) → es ≡ cs ++ gives d ∷ rest → is_live x.phase ≡ false → (x.error ≡ None → FateOr i d s)
        → Each (Fits p (Told x s)) cs → Each (Fits p (Told x s)) rest → Shape x s es

  abbrev pub Sources : pipe.Slots → Slots → Table → Type 0
  Sources x s t = Good (acts_on p) (Source x s) (Told x s) t

  abbrev pub SourcesOr : pipe.Slots → Slots → Table → Type 0
  SourcesOr x s t = GoodOr (acts_on p) (Source x s) (Told x s) t

  -- what becomes of the pipe, by an effect: it was live, or it stays as late, with the same error
  abbrev pub Later : pipe.Slots → pipe.Slots → Type 0
  Later x y = (is_live x.phase ≡ true) ⊎ ((is_live y.phase ≡ false) × (y.error ≡ x.error))

  -- what an effect leaves of the stream and of promises
  pub record Leaves (s z : Slots) (fs : List Effect) : Type 0 where
    pub straight : Straight z fs
    pub keeps : Keeps s.promises z.promises
    pub closed : closed_in i s ≡ true → closed_in i z ≡ true
    pub asked : (q : PromiseId) → asks q (writable_at i s) ≡ true → FateOr i q z

  module _ (s z : Slots) (fs : List Effect) (l : Leaves s z fs) where
    pub fate-next : (q : PromiseId) → FateOr i q s → FateOr i q z
    fate-next q (inl (inl a)) = l.asked q a
    fate-next q (inl (inr c)) = inl (inr (l.closed c))
    fate-next q (inr r) = inr (rejected-keeps s.promises z.promises q l.keeps r)

    fulfilled_rejected : (o : Option Outcome) (v : Plain) {A : Type 0} → o ≡ Some (Fulfilled v) → is_rejected o ≡ true → A
    fulfilled_rejected o v e r = let n : false ≡ true = rw e at r in absurd (cc)

    -- where the stream isn't closed, no such promise is fulfilled
    unfulfilled : (q : PromiseId) (v : Plain) {A : Type 0} → closed_in i z ≡ false → FateOr i q z → outcome_at z.promises q ≡ Some (Fulfilled v) → A
    unfulfilled q v n (inl (inl a)) e = open-pending q z.promises (Fulfilled v) (asks-open i q z fs l.straight a) e refl
    unfulfilled q v n (inl (inr c)) e = false_true (closed_in i z) c n
    unfulfilled q v n (inr r) e = fulfilled_rejected (outcome_at z.promises q) v e r

    some_none : {A : Type 0} {B : Type 0} {x : A} → ◌≡◌ {A = Option A} (Some x) None → B
    some_none e = absurd (cc)

    by_closed : (x y : pipe.Slots) (b : Bool) → closed_in i z ≡ b → is_live y.phase ≡ false → x.error ≡ None → SourcesOr x s z.promises → Sources y z z.promises
    by_closed x y true c late plain g = all-good (acts_on p) (Source y z) (Told y z) z.promises (λ q. (late, λ n. inl (inr c))) (late, λ n. c)
    by_closed x y false c late plain (inl g) =
        good-weaker (acts_on p) (Source x s) (Source y z) (Told x s) (Told y z) z.promises (λ q k. (late, λ n. fate-next q (k.1 plain))) (λ v. (late, λ n. l.closed (v.1 plain))) g
    by_closed x y false c late plain (inr b) = unfulfilled b.promise b.value c (fate-next b.promise (b.holds.1 plain)) b.settled

    by_error : (x y : pipe.Slots) (e : Option Plain) → x.error ≡ e → is_live y.phase ≡ false → y.error ≡ x.error → SourcesOr x s z.promises → Sources y z z.promises
    by_error x y (Some r) is late same g =
        all-good (acts_on p) (Source y z) (Told y z) z.promises (λ q. (late, λ n. some_none (sym is ∙ (sym same ∙ n)))) (late, λ n. some_none (sym is ∙ (sym same ∙ n)))
    by_error x y None is late same g = by_closed x y (closed_in i z) refl late is g

    -- so the promises stand afterwards
    pub sources-next : (x y : pipe.Slots) → Later x y → SourcesOr x s z.promises → Sources y z z.promises
    sources-next x y (inl live) (inl g) =
        good-weaker (acts_on p) (Source x s) (Source y z) (Told x s) (Told y z) z.promises (λ q k. false_true (is_live x.phase) live k.0) (λ v. false_true (is_live x.phase) live v.0) g
    sources-next x y (inl live) (inr b) = false_true (is_live x.phase) live b.holds.0
    sources-next x y (inr k) g = by_error x y x.error refl k.0 k.1 g

    pub told-next : (x y : pipe.Slots) → Later x y → Told x s → Told y z
    told-next x y (inl live) v = false_true (is_live x.phase) live v.0
    told-next x y (inr k) v = (k.0, λ n. l.closed (v.1 (sym k.1 ∙ n)))

  -- effects on promises

  no_use : (x : pipe.Slots) (s : Slots) (u : Use) → NoUse p u → UseFits (acts_on p) (Source x s) (Told x s) u
  no_use x s (React step d) n = n
  no_use x s (Resolve q) n = tt

  host-or : (x : pipe.Slots) (s : Slots) (call : HostCall) (u : Use) → NoUse p u → Sources x s s.promises → SourcesOr x s (call_host call u s).promises
  unfolding call_host
  host-or x s call u n g =
      let told : Event = HostCalled (record { 0 = length s.hosts }) call in
      inl (use-good (acts_on p) (Source x s) (Told x s) (next_id s.promises) (tell told (fresh s.promises)) u (no_use x s u n) (told-good (acts_on p) (Source x s) (Told x s) told s.promises g))

  plain-or : (x : pipe.Slots) (s : Slots) (e : Effect) → IsPlain e → Sources x s s.promises → SourcesOr x s (row e s).slots.promises
  plain-or x s e n g = row-plainly (SourcesOr x s) (good-plainly (acts_on p) (Source x s) (Told x s)) e s n (inl g)

  -- an effect that makes no such reaction
  pub row-or : (x : pipe.Slots) (s : Slots) (e : Effect) → Fits p (Told x s) e → Sources x s s.promises → SourcesOr x s (row e s).slots.promises
  unfolding row
  row-or x s (Give gift u) f g = gift-good (acts_on p) (Source x s) (Told x s) gift u s.promises (no_use x s u f) g
  row-or x s (CallHost call u) f g = host-or x s call u f g
  row-or x s e f g = plain-or x s e tt g

  closed_told : (x : pipe.Slots) (s : Slots) (es : List Effect) (d : PromiseId) (v : Plain) → Straight s es → FateOr i d s → outcome_at s.promises d ≡ Some (Fulfilled v) → closed_in i s ≡ true
  closed_told x s es d v k (inl (inl a)) e = open-pending d s.promises (Fulfilled v) (asks-open i d s es k a) e refl
  closed_told x s es d v k (inl (inr c)) e = c
  closed_told x s es d v k (inr r) e = let n : false ≡ true = rw e at r in absurd (cc)

  -- and the one that does
  pub give-or : (x : pipe.Slots) (s : Slots) (d : PromiseId) (es : List Effect) → Straight s es → is_live x.phase ≡ false → (x.error ≡ None → FateOr i d s) → Sources x s s.promises → SourcesOr x s (row (gives d) s).slots.promises
  unfolding row use_gift
  give-or x s d es k late fate g =
      inl (marked-good (acts_on p) (Source x s) (Told x s) d (PipeActed p) None s.promises (late, fate) (λ v e. (late, λ n. closed_told x s es d v k (fate n) e)) g)
