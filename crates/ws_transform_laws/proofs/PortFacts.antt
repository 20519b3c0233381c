-- What holds of a writable stream at the end of a port while a write of it waits, or its chunk is to be handed on: its port is entangled, and the
-- stream needs it; and one whose port isn't entangled any more has ended, is closing, or its write is to fail.
use Rattle.std.proofs.Common.{◌≡◌, ℕ, ◌+◌, ◌≤◌, Bool, true, false, ◌&&◌, nat_eq, List, [], ◌∷◌, ◌++◌, Option, Some, None, ◌⊎◌, inl, inr, ⊎_elim, slice_get, refl, sym, ap, ◌∙◌, subst, arith}
use Rattle.ws_laws.proofs.Lists.{Each, each-append, each-map}
use Rattle.ws_laws.proofs.Shapes.{WritableOf, stream_shapes}
use Rattle.ws_steps.specs.Cross as cross
use Rattle.ws_steps.specs.Cross.{post, data_clone}
use Rattle.ws_steps.specs.Histories.{is_same}
use Rattle.ws_steps.specs.Operations.{port_operation}
use Rattle.ws_steps.specs.Slots.{Slots, found, has_writable, owner_at, on_port_at, clones_at}
use Rattle.ws_steps.specs.Turns.{row}
use Rattle.ws_steps.specs.Writable as writable
use Rattle.ws_steps.specs.declared.effects.Effect.TheVariants.{Port as OnPort, CancelAlgorithm, Give, CallHost}
use Rattle.ws_steps.specs.declared.effects.Effect.{Effect}
use Rattle.ws_steps.specs.declared.effects.{Gift.{Gift}, Owner.TheVariants.{EndOf}, Use.{Use}}
use Rattle.ws_steps.specs.declared.port.PortOperation.TheVariants as ports
use Rattle.ws_steps.specs.declared.port.{PortOperation.{PortOperation}, Side.TheVariants.{Writable as WritableSide}}
use Rattle.ws_transform_laws.proofs.PortAsked.{unblocking}
use Rattle.ws_transform_laws.proofs.PortTurns.{post-effects}
use Rattle.ws_value.specs.declared.ids.{PortId.{PortId}, StreamId.{StreamId}}
use Rattle.ws_writable_laws.proofs.Shape.{one_if, all, all-append, leads_to}
use Rattle.std.proofs.Common.{◌<◌}
use Rattle.ws_steps.specs.declared.calls.Event.TheVariants.{Post, Signal as SignalEvent}
use Rattle.ws_steps.specs.Promises.{Table}
use Rattle.ws_steps.specs.Slots.{writable_at, found}
use Rattle.ws_steps.specs.Writable.{has_ended}
use Rattle.ws_steps.specs.WritableHistory.{Writes, writes_then, effect_writes}
use Rattle.ws_laws.proofs.Weights.{weigh-fresh, weigh-settle, weigh-answer, weigh-micro}
use Rattle.ws_writable_laws.proofs.Agenda.{Elsewhere, row-leaves, weight-gift, weight-host, weight-tell}
use Rattle.ws_writable_laws.proofs.Shape.{weight, of_reaction}
use Rattle.ws_transform_laws.proofs.Halving.{writable-shape}
use Rattle.ws_transform_laws.proofs.Lawful.{Known}
use Rattle.ws_transform_laws.proofs.Need.{needs}
use Rattle.ws_transform_laws.proofs.PortAsked.{asks, row-none}
use Rattle.ws_transform_laws.proofs.PortCounts.{extra, NotLate, Suits, Free, free-extra, NotOwn, row-free}
use Rattle.ws_transform_laws.proofs.PortHalving.{PortGoing, end-there}
use Rattle.ws_transform_laws.proofs.PortLawful.{known-end, end-owner}
use Rattle.ws_transform_laws.proofs.Sparing.{row-spares}

module _ (i : StreamId) (c : PortId) where
  abbrev pub unb : List Effect → ℕ
  unb es = all (leads_to (unblocking c)) es

  -- what stands for a write, among the promises and on the agenda
  abbrev pub count : Slots → List Effect → ℕ
  count s es = weight (unblocking c) s.promises + (unb es + all (extra i c) es)

  -- only what is done with a promise leads to the going on of a write
  abbrev pub OnlyGives : Effect → Type 0
  OnlyGives (Give gift u) = Unit {0}
  OnlyGives e = leads_to (unblocking c) e ≡ 0

  abbrev pub w : Slots → writable.Slots
  w s = writable_at i s

  -- it has ended, or its close algorithm was performed
  abbrev pub Done_so : Writes → Slots → Type 0
  Done_so h s = (has_ended (w s).state ≡ true) ⊎ (0 < h.closes)

  -- what may stand first
  abbrev pub HeadFits : Writes → Slots → cross.Slots → Effect → Type 0
  HeadFits h s x (OnPort d (ports.PostChunk v p)) = nat_eq c.0 d.0 ≡ true → x.live ≡ true
  HeadFits h s x (OnPort d (ports.Leave r u)) = nat_eq c.0 d.0 ≡ true → Done_so h s
  HeadFits h s x (OnPort d (ports.Close u)) = nat_eq c.0 d.0 ≡ true → Done_so h s
  HeadFits h s x (CancelAlgorithm j r p) = is_same i j ≡ false
  HeadFits h s x e = Unit {0}

  abbrev pub Heads : Writes → Slots → cross.Slots → List Effect → Type 0
  Heads h s x [] = Unit {0}
  Heads h s x (e ∷ es) = HeadFits h s x e × Each (NotLate i c) es

  pub record Facts (h : Writes) (s : Slots) (es : List Effect) (x : cross.Slots) : Type 0 where
    pub few : Done_so h s ⊎ (count s es ≤ one_if (needs (w s) && x.live))
    pub dead : x.live ≡ false → Done_so h s ⊎ (needs (w s) ≡ true)
    pub heads : Heads h s x es
    pub suits : Each (Suits i c) es

  -- what may stand anywhere may stand first
  late-head : (h : Writes) (s : Slots) (x : cross.Slots) (e : Effect) → NotLate i c e → HeadFits h s x e
  late-head h s x (OnPort d (ports.PostChunk v p)) n = λ e. let no : true ≡ false = sym e ∙ n in cc
  late-head h s x (OnPort d (ports.Leave r u)) n = λ e. let no : true ≡ false = sym e ∙ n in cc
  late-head h s x (OnPort d (ports.Close u)) n = λ e. let no : true ≡ false = sym e ∙ n in cc
  late-head h s x (CancelAlgorithm j r p) n = n
  late-head h s x e n = tt

  pub late-heads : (h : Writes) (s : Slots) (x : cross.Slots) (es : List Effect) → Each (NotLate i c) es → Heads h s x es
  late-heads h s x [] k = tt
  late-heads h s x (e ∷ es) k = (late-head h s x e k.0, k.1)

  -- promises

  pub weight-row : (e : Effect) (s : Slots) → weight (unblocking c) (row e s).slots.promises ≤ weight (unblocking c) s.promises + leads_to (unblocking c) e
  unfolding row
  weight-row (Give gift u) s = weight-gift (unblocking c) gift u s.promises
  weight-row (CallHost call u) s = weight-host (unblocking c) call u s
  weight-row e s =
      let n : ℕ = weight (unblocking c) s.promises in
      let h = row-spares (λ (z : Table). weight (unblocking c) z ≤ n) (record {
        fresh = λ z h. let k = weigh-fresh (of_reaction (unblocking c)) z in omega (arith, h, k);
        settle = λ z p o h. let k = weigh-settle (of_reaction (unblocking c)) p o z in omega (arith, h, k);
        answer = λ z p o h. let k = weigh-answer (of_reaction (unblocking c)) p o z in omega (arith, h, k);
        micro = λ z m h. let k = weigh-micro (of_reaction (unblocking c)) m z in omega (arith, h, k);
        post = λ z d m h. let k = weight-tell (unblocking c) (Post d m) z in omega (arith, h, k);
        signal = λ z j r h. let k = weight-tell (unblocking c) (SignalEvent j r) z in omega (arith, h, k);
      }) e s (λ u. u) (omega arith) in
      omega (arith, h)

  -- what is caused leads to the going on of a write only by what is done with a promise

  pub zero-only : (es : List Effect) → unb es ≡ 0 → Each OnlyGives es
  zero-only [] n = tt
  zero-only (Give gift u ∷ es) n = (tt, zero-only es (omega arith))
  zero-only (e ∷ es) n = (omega arith, zero-only es (omega arith))

  given-none : (gift : Gift) (u : Use) (s : Slots) → (row (Give gift u) s).caused ≡ []
  unfolding row
  given-none gift u s = refl

  -- an effect that asks for none to wait
  pub calm-none : (e : Effect) (s : Slots) → asks c e ≡ false → OnlyGives e → unb (row e s).caused ≡ 0
  calm-none (Give gift u) s a k = rw (given-none gift u s) refl
  calm-none e s a k = row-none c e s a k

  -- the coming of a write to wait, and its going on

  acted-only : (clones : Bool) (d : PortId) (operation : PortOperation) (a : cross.Acts) → OnlyGives (OnPort d operation) → a.out.effects ≡ [] → Each OnlyGives (port_operation d clones operation a).out.effects
  unfolding cross.pull cross.leave cross.close cross.write cross.write_goes_on cross.post_chunk cross.unblock cross.deliver
  acted-only clones d operation a k e = grind (arith, k, e, post-effects)

  port-only : (d : PortId) (operation : PortOperation) (s : Slots) (o : Option cross.Slots) → OnlyGives (OnPort d operation) → Each OnlyGives (on_port_at (λ clones. port_operation d clones operation) d s o).caused
  port-only d operation s None k = tt
  port-only d operation s (Some x) k = acted-only (clones_at x s) d operation (record { slots = x; out = found s }) k refl

  pub only-row : (e : Effect) (s : Slots) → OnlyGives e → Each OnlyGives (row e s).caused
  unfolding row
  only-row (OnPort d operation) s k = port-only d operation s (slice_get s.ports d.0) k
  only-row e s k = zero-only (row e s).caused (calm-none e s refl k)

  -- no more stands after an effect that is none of it
  free-count : (e : Effect) (s : Slots) (es : List Effect) → OnlyGives e → asks c e ≡ false → Each (Free i c) (row e s).caused → count (row e s).slots ((row e s).caused ++ es) ≤ count s (e ∷ es)
  free-count e s es k a f =
      let p = weight-row e s in
      let u = calm-none e s a k in
      let x = free-extra i c (row e s).caused f in
      let au = all-append (leads_to (unblocking c)) (row e s).caused es in
      let ax = all-append (extra i c) (row e s).caused es in
      omega (arith, p, u, x, au, ax)

  pub free-late : (es : List Effect) → Each (Free i c) es → Each (NotLate i c) es
  free-late es f = each-map (Free i c) (NotLate i c) (λ e k. k.late) es f

  pub free-suits : (es : List Effect) → Each (Free i c) es → Each (Suits i c) es
  free-suits es f = each-map (Free i c) (Suits i c) (λ e k. k.suits) es f

  abbrev pub Cancels_elsewhere : Effect → Type 0
  Cancels_elsewhere (CancelAlgorithm j r p) = is_same i j ≡ false
  Cancels_elsewhere e = Unit {0}

  -- where the stream stays as it is, it is done as before
  pub still-done : (h g : Writes) (s z : Slots) → w z ≡ w s → Done_so h s → Done_so (writes_then h g) z
  still-done h g s z e (inl k) = inl (ap (λ (v : writable.Slots). has_ended v.state) e ∙ k)
  still-done h g s z e (inr k) = inr (omega (arith, k))

  -- an effect after which the port and the stream are as before
  pub calm-facts : (h g : Writes) (s z : Slots) (e : Effect) (cs es : List Effect) (x y : cross.Slots) → w z ≡ w s → y.live ≡ x.live → count z (cs ++ es) ≤ count s (e ∷ es)
      → Each (NotLate i c) cs → Each (Suits i c) cs → Facts h s (e ∷ es) x → Facts (writes_then h g) z (cs ++ es) y
  calm-facts h g s z e cs es x y same live less late suits k = record {
    few = ⊎_elim (λ d. inl (still-done h g s z same d)) (λ f. inr (rw (same, live) (omega (arith, less, f)))) k.few;
    dead = λ n. ⊎_elim (λ d. inl (still-done h g s z same d)) (λ f. inr (rw same f)) (k.dead (sym live ∙ n));
    heads = late-heads (writes_then h g) z y (cs ++ es) (each-append (NotLate i c) cs es late k.heads.1);
    suits = each-append (Suits i c) cs es suits k.suits.1;
  }

  -- and after which the stream is done
  pub done-facts : (h : Writes) (z : Slots) (cs : List Effect) (y : cross.Slots) → Done_so h z → Heads h z y cs → Each (Suits i c) cs → Facts h z cs y
  done-facts h z cs y d hs ss = record { few = inl d; dead = λ n. inl d; heads = hs; suits = ss }

  -- what is known before an effect
  pub record Here (h : Writes) (s : Slots) (e : Effect) (es : List Effect) (x : cross.Slots) : Type 0 where
    pub going : PortGoing i c h s (e ∷ es)
    pub only : Each OnlyGives (e ∷ es)
    pub owner : owner_at i s ≡ EndOf c
    pub there : has_writable i s ≡ true
    pub at : slice_get s.ports c.0 ≡ Some x
    pub facts : Facts h s (e ∷ es) x

  abbrev pub After : Writes → Slots → Effect → List Effect → cross.Slots → Type 0
  After h s e es y = Facts (writes_then h (effect_writes i e s)) (row e s).slots ((row e s).caused ++ es) y

  pub shaped : (h : Writes) (s : Slots) (e : Effect) (es : List Effect) (x : cross.Slots) → Here h s e es x → slice_get (stream_shapes s) i.0 ≡ Some (WritableOf (EndOf c))
  shaped h s e es x k = writable-shape i s (EndOf c) k.there k.owner

  pub known-of : (h : Writes) (s : Slots) (e : Effect) (es : List Effect) (x : cross.Slots) → Here h s e es x → Known i h s (e ∷ es)
  known-of h s e es x k = known-end i c h s (e ∷ es) (end-owner i c s k.there k.owner) k.going.kept

  -- the side and the stream of the port
  pub place-of : (h : Writes) (s : Slots) (e : Effect) (es : List Effect) (x : cross.Slots) → Here h s e es x → (x.stream ≡ i) × (x.side ≡ WritableSide)
  place-of h s e es x k =
      let y = end-there i c s k.going.kept.ended k.there k.owner in
      let same : y.0 ≡ x = one y.0 x (sym y.1.0 ∙ k.at) in
      subst (λ (z : cross.Slots). (z.stream ≡ i) × (z.side ≡ WritableSide)) same y.1.1
    where
      one : (y x : cross.Slots) → Some y ≡ Some x → y ≡ x
      one y x e = cc

  -- an effect that is none of the stream's or of the port's
  pub free-facts : (h : Writes) (s : Slots) (e : Effect) (es : List Effect) (x y : cross.Slots) → Here h s e es x → Elsewhere i e → NotOwn i c e → asks c e ≡ false → Cancels_elsewhere e → y.live ≡ x.live → After h s e es y
  free-facts h s e es x y k away n a l live =
      let f = row-free i c s k.going.kept.halved k.going.kept.ended (shaped h s e es x k) e n l k.facts.suits.0 in
      calm-facts h (effect_writes i e s) s (row e s).slots e (row e s).caused es x y (row-leaves i e s away).place live (free-count e s es k.only.0 a f)
      (free-late (row e s).caused f) (free-suits (row e s).caused f) k.facts
