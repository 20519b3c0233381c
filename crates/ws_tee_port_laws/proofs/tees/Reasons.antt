-- Why a branch of a tee may take no chunk that is handed on: it was cancelled or is about to be, or the tee is over, or has failed: its source has
-- errored, and it holds nothing and hands nothing on. Once there is such a reason, there is one from then on.
use Rattle.std.proofs.Common.{◌≡◌, ◌⊎◌, inl, inr, ℕ, zero, suc, Bool, true, false, ◌&&◌, ◌||◌, nat_eq, is_some, List, [], ◌∷◌, ◌++◌, map, Option, Some, None, Err, slice_get, refl, sym, ap, subst, ◌∙◌, arith}
use Rattle.ws_value.specs.declared.ids.PortId.{PortId}
use Rattle.ws_value.specs.declared.ids.{PipeId.{PipeId}, PromiseId.{PromiseId}, StreamId.{StreamId}, TeeId.{TeeId}}
use Rattle.ws_value.specs.declared.value.{Plain.{Plain}, Value.{Value}}
use Rattle.ws_steps.specs.declared.effects.{Effect.{Effect}, Effect.TheVariants.{Tee as OnTee, CancelAlgorithm}, Owner.{Owner}, Owner.TheVariants.{BranchOf}, Use.{Use}}
use Rattle.ws_steps.specs.declared.readable.ReadableState.TheVariants.{Errored}
use Rattle.ws_steps.specs.declared.tee.{Half.{Half}, Half.TheVariants.{First, Second}, TeeOperation.{TeeOperation}, TeePhase.TheVariants.{Over}}
use Rattle.ws_steps.specs.declared.tee.TeeOperation.TheVariants as ops
use Rattle.ws_steps.specs.declared.transform.TransformId.{TransformId}
use Rattle.ws_steps.specs.Histories.{is_same}
use Rattle.ws_steps.specs.Operations.{tee_operation}
use Rattle.ws_steps.specs.Slots.{Slots, Stream, ReadableStream, ByteStream, WritableStream, found, owner_of, owner_at, readable_at, on_tee_at}
use Rattle.ws_steps.specs.Tee as tee
use Rattle.ws_steps.specs.Tee.{Acts, reason_of}
use Rattle.ws_steps.specs.Turns.{row}
use Rattle.ws_laws.proofs.Lists.{Each, each-append}
use Rattle.ws_laws.proofs.PipeDoes.{PipeCauses}
use Rattle.ws_laws.proofs.Apart.{IsNoTee, row-tees}
use Rattle.ws_laws.proofs.Causes.{Causes, row-causes}
use Rattle.ws_laws.proofs.Shapes.{ReadableOf, branch_of, stream_shape, tee_shape, map-there}
use Rattle.ws_laws.proofs.Tables.{same_id, eq_numbers, unequal_numbers}
use Rattle.ws_laws.proofs.TeeDoes.{TeeCauses, tee-causes}
use Rattle.ws_laws.proofs.TransformDoes.{TransformCauses}
use Rattle.ws_tee_port_laws.proofs.tees.Fronts.{hands_on, shape}
use Rattle.ws_tee_port_laws.proofs.tees.Gifts.{NoGift, Gifts}
use Rattle.ws_tee_port_laws.proofs.tees.Hands.{some_tee, tees_same, tees_other, reason-stays}
use Rattle.ws_tee_port_laws.proofs.tees.Owns.{IsBasic, IsNoKeep, own-each, over-stays, none-held, cancelled-reason}
use Rattle.ws_tee_port_laws.proofs.tees.Shutting.{row-erred, same_half, cancels, any_cancels, cancels-later, cancels-first}
use Rattle.ws_laws.proofs.PortDoes.{PortCauses}
use Rattle.ws_tee_port_laws.proofs.tees.Tied.{Tied}

-- what an effect is to a tee

pub data View (t : TeeId) (s : Slots) (e : Effect) (x y : tee.Slots) : Type 0 where
  Aside : x ≡ y → IsNoTee e → View t s e x y
  Other : (u : TeeId) (operation : TeeOperation) → e ≡ OnTee u operation → nat_eq t.0 u.0 ≡ false → x ≡ y → View t s e x y
  Own : (operation : TeeOperation) → e ≡ OnTee t operation → (tee_operation t operation (record { slots = x; out = found s })).slots ≡ y
      → (row e s).caused ≡ (tee_operation t operation (record { slots = x; out = found s })).out.effects → View t s e x y

module _ (t : TeeId) where
  one_self : nat_eq t.0 t.0 ≡ true
  one_self = grind arith

  own-view : (s : Slots) (operation : TeeOperation) (x y : tee.Slots) → slice_get s.tees t.0 ≡ Some x → slice_get (row (OnTee t operation) s).slots.tees t.0 ≡ Some y → View t s (OnTee t operation) x y
  unfolding row
  own-view s operation x y at now =
      let a : Acts = record { slots = x; out = found s } in
      let place : slice_get (on_tee_at (tee_operation t operation) t s (Some x)).slots.tees t.0 ≡ Some (tee_operation t operation a).slots = tees_same s.tees t.0 x (tee_operation t operation a).slots at in
      let moved : (tee_operation t operation a).slots ≡ y =
      some_tee (tee_operation t operation a).slots y (sym place ∙ (sym (ap (λ (o : Option tee.Slots). slice_get (on_tee_at (tee_operation t operation) t s o).slots.tees t.0) at) ∙ now)) in
      Own operation refl moved (ap (λ (o : Option tee.Slots). (on_tee_at (tee_operation t operation) t s o).caused) at)

  other-view : (s : Slots) (u : TeeId) (operation : TeeOperation) (x y : tee.Slots) (o : Option tee.Slots) → slice_get s.tees u.0 ≡ o → nat_eq t.0 u.0 ≡ false → slice_get s.tees t.0 ≡ Some x
      → slice_get (row (OnTee u operation) s).slots.tees t.0 ≡ Some y → View t s (OnTee u operation) x y
  unfolding row
  other-view s u operation x y None e apart at now =
      Other u operation refl apart (some_tee x y (sym at ∙ (sym (ap (λ (o : Option tee.Slots). slice_get (on_tee_at (tee_operation u operation) u s o).slots.tees t.0) e) ∙ now)))
  other-view s u operation x y (Some z) e apart at now =
      let place : slice_get (on_tee_at (tee_operation u operation) u s (Some z)).slots.tees t.0 ≡ slice_get s.tees t.0 = tees_other s.tees t.0 u.0 _ (unequal_numbers t.0 u.0 apart) in
      Other u operation refl apart (some_tee x y (sym at ∙ (sym place ∙ (sym (ap (λ (o : Option tee.Slots). slice_get (on_tee_at (tee_operation u operation) u s o).slots.tees t.0) e) ∙ now))))

  tee-view : (s : Slots) (u : TeeId) (operation : TeeOperation) (x y : tee.Slots) (same : Bool) → nat_eq t.0 u.0 ≡ same → slice_get s.tees t.0 ≡ Some x → slice_get (row (OnTee u operation) s).slots.tees t.0 ≡ Some y
      → View t s (OnTee u operation) x y
  tee-view s u operation x y false e at now = other-view s u operation x y (slice_get s.tees u.0) refl e at now
  tee-view s u operation x y true e at now =
      let it : t ≡ u = ap (λ (n : ℕ). record { 0 = n }) (eq_numbers t.0 u.0 e) in
      subst (λ (v : TeeId). slice_get (row (OnTee v operation) s).slots.tees t.0 ≡ Some y → View t s (OnTee v operation) x y) it (λ k. own-view s operation x y at k) now

  aside-view : (s : Slots) (e : Effect) (x y : tee.Slots) → IsNoTee e → slice_get s.tees t.0 ≡ Some x → slice_get (row e s).slots.tees t.0 ≡ Some y → View t s e x y
  aside-view s e x y n at now = Aside (some_tee x y (sym at ∙ (sym (ap (λ (xs : List tee.Slots). slice_get xs t.0) (row-tees e s n)) ∙ now))) n

  pub view : (s : Slots) (e : Effect) (x y : tee.Slots) → slice_get s.tees t.0 ≡ Some x → slice_get (row e s).slots.tees t.0 ≡ Some y → View t s e x y
  view s (OnTee u operation) x y at now = tee-view s u operation x y (nat_eq t.0 u.0) refl at now
  view s e x y at now = aside-view s e x y tt at now

  -- the tee goes on with nothing

  abbrev pub NoHands : Effect → Type 0
  NoHands e = hands_on t e ≡ false

  basic-hands : (e : Effect) → IsBasic e → NoHands e
  basic-hands e n = grind (arith, n)

  own-hands : (operation : TeeOperation) (a : Acts) → a.slots.held ≡ None → Each NoHands a.out.effects → Each NoHands (tee_operation t operation a).out.effects
  own-hands ops.SourceClosed a n h = own-each t NoHands basic-hands ops.SourceClosed a (refl, refl) h
  own-hands ops.HandChunk a n h = own-each t NoHands basic-hands ops.HandChunk a (λ v e. none_held v (sym n ∙ e)) h
    where
      none_held : {A : Type 0} (v : Value) → ◌≡◌ {A = Option Value} None (Some v) → A
      none_held v e = cc
  own-hands (ops.ReaderSettled (Err r)) a n h = own-each t NoHands basic-hands (ops.ReaderSettled (Err r)) a (refl, refl) h
  own-hands operation a n h = own-each t NoHands basic-hands operation a tt h

  transform_hands : (me : TransformId) (writable readable : StreamId) (e : Effect) → TransformCauses me writable readable e → NoHands e
  transform_hands me writable readable e c = grind (arith, c)

  pipe_hands : (p : PipeId) (source dest : StreamId) (e : Effect) → PipeCauses p source dest e → NoHands e
  pipe_hands p source dest e c = grind (arith, c)

  tee_hands : (u : TeeId) (source first second : StreamId) → nat_eq t.0 u.0 ≡ false → (e : Effect) → TeeCauses u source first second e → NoHands e
  tee_hands u source first second n (OnTee v ops.Handed) c = ap (λ (w : TeeId). nat_eq t.0 w.0) c ∙ n
  tee_hands u source first second n e c = grind (arith, c)

  port_hands : (c : PortId) (stream : StreamId) (e : Effect) → PortCauses c stream e → NoHands e
  port_hands c stream e k = grind (arith, k)

  other-causes : (e : Effect) → IsNoTee e → Causes NoHands e
  other-causes e n = grind (arith, n, transform_hands, pipe_hands, port_hands)

  tees-cause : (u : TeeId) (operation : TeeOperation) → nat_eq t.0 u.0 ≡ false → Causes NoHands (OnTee u operation)
  tees-cause u operation n = λ source first second e c. tee_hands u source first second n e c

module _ (t : TeeId) (half : Half) (b : StreamId) where
  abbrev pub lost : tee.Slots → List Effect → Bool
  lost x es = is_some (reason_of half x) || any_cancels t half b es

  pub record Failed (s : Slots) (es : List Effect) (x : tee.Slots) : Type 0 where
    pub errored : (readable_at x.source s).state ≡ Errored
    pub held : x.held ≡ None
    pub hands : Each (NoHands t) es

  pub data Reason (s : Slots) (es : List Effect) (x : tee.Slots) : Type 0 where
    IsLostBy : lost x es ≡ true → Reason s es x
    IsOver : x.phase ≡ Over → Reason s es x
    HasFailed : Failed s es x → Reason s es x

  or-left : (x y : Bool) → x ≡ true → (x || y) ≡ true
  or-left true y e = refl
  or-left false y e = cc

  or-right : (x y : Bool) → y ≡ true → (x || y) ≡ true
  or-right true y e = refl
  or-right false y e = e

  or-either : (x y : Bool) → (x || y) ≡ true → (x ≡ true) ⊎ (y ≡ true)
  or-either true y e = inl refl
  or-either false y e = inr e

  and-both : (x y : Bool) → (x && y) ≡ true → (x ≡ true) × (y ≡ true)
  and-both true y e = (refl, e)
  and-both false y e = cc

  half-same : (g h : Half) → same_half g h ≡ true → g ≡ h
  half-same First First e = refl
  half-same First Second e = cc
  half-same Second First e = cc
  half-same Second Second e = refl

  half-self : (g : Half) → same_half g g ≡ true
  half-self First = refl
  half-self Second = refl

  shape-owner : (xs : List Stream) (n : ℕ) (w : Owner) → slice_get (map stream_shape xs) n ≡ Some (ReadableOf w) → owner_of (slice_get xs n) ≡ w
  shape-owner [] n w e = cc
  shape-owner (ReadableStream r ∷ xs) zero w e = cc
  shape-owner (ByteStream r ∷ xs) zero w e = cc
  shape-owner (WritableStream r ∷ xs) zero w e = cc
  shape-owner (x ∷ xs) (suc n) w e = shape-owner xs n w e

  module _ (s : Slots) (tied : Tied s) (x : tee.Slots) (there : slice_get s.tees t.0 ≡ Some x) (is : branch_of half (tee_shape x) ≡ b) where
    owner : owner_at b s ≡ BranchOf t half
    owner = shape-owner s.streams b.0 (BranchOf t half) (shape t half b s tied x there is)

    -- a reason stays
    reason-on : (e : Effect) (y : tee.Slots) → View t s e x y → is_some (reason_of half x) ≡ true → is_some (reason_of half y) ≡ true
    reason-on e y (Aside same n) r = subst (λ (z : tee.Slots). is_some (reason_of half z) ≡ true) same r
    reason-on e y (Other u operation i n same) r = subst (λ (z : tee.Slots). is_some (reason_of half z) ≡ true) same r
    reason-on e y (Own operation i moved caused) r =
        subst (λ (z : tee.Slots). is_some (reason_of half z) ≡ true) moved (reason-stays t half operation (record { slots = x; out = found s }) r)

    -- the cancel algorithm of the branch
    algorithm-on : (i : StreamId) (r : Plain) (p : PromiseId) → is_same b i ≡ true → any_cancels t half b (row (CancelAlgorithm i r p) s).caused ≡ true
    unfolding row
    algorithm-on i r p e =
        let here : owner_at i s ≡ BranchOf t half = subst (λ (j : StreamId). owner_at j s ≡ BranchOf t half) (same_id b i e) owner in
        rw here (or-left (nat_eq t.0 t.0 && same_half half half) false (rw (one_self t, half-self half) refl))

    -- the cancel of the branch by the tee
    branch-on : (u : TeeId) (h : Half) (r : Plain) (q : Use) (y : tee.Slots) → View t s (OnTee u (ops.CancelBranch h r q)) x y → (nat_eq t.0 u.0 && same_half half h) ≡ true → is_some (reason_of half y) ≡ true
    branch-on u h r q y (Aside same n) c = absurd n
    branch-on u h r q y (Other v operation i n same) c =
        let k = and-both (nat_eq t.0 u.0) (same_half half h) c in
        let it : u ≡ v = cc in
        let wrong : true ≡ false = sym k.0 ∙ (ap (λ (w : TeeId). nat_eq t.0 w.0) it ∙ n) in
        cc
    branch-on u h r q y (Own operation i moved caused) c =
        let k = and-both (nat_eq t.0 u.0) (same_half half h) c in
        let it : ops.CancelBranch h r q ≡ operation = cc in
        let named : ops.CancelBranch half r q ≡ operation = ap (λ (g : Half). ops.CancelBranch g r q) (half-same half h k.1) ∙ it in
        let given : is_some (reason_of half (tee_operation t operation (record { slots = x; out = found s })).slots) ≡ true =
        subst (λ (o : TeeOperation). is_some (reason_of half (tee_operation t o (record { slots = x; out = found s })).slots) ≡ true) named (cancelled-reason t half r q (record { slots = x; out = found s })) in
        subst (λ (z : tee.Slots). is_some (reason_of half z) ≡ true) moved given

    cancel-on : (e : Effect) (es : List Effect) (y : tee.Slots) → View t s e x y → cancels t half b e ≡ true → lost y ((row e s).caused ++ es) ≡ true
    cancel-on (CancelAlgorithm i r p) es y v c = or-right (is_some (reason_of half y)) _ (cancels-first t half b (row (CancelAlgorithm i r p) s).caused es (algorithm-on i r p c))
    cancel-on (OnTee u (ops.CancelBranch h r q)) es y v c = or-left (is_some (reason_of half y)) _ (branch-on u h r q y v c)
    cancel-on e es y v c = absurd (grind (arith, c))

    pub lost-on : (e : Effect) (es : List Effect) (y : tee.Slots) → View t s e x y → lost x (e ∷ es) ≡ true → lost y ((row e s).caused ++ es) ≡ true
    lost-on e es y v l = by (or-either (is_some (reason_of half x)) (any_cancels t half b (e ∷ es)) l)
      where
        later : (cancels t half b e ≡ true) ⊎ (any_cancels t half b es ≡ true) → lost y ((row e s).caused ++ es) ≡ true
        later (inl c) = cancel-on e es y v c
        later (inr c) = or-right (is_some (reason_of half y)) _ (cancels-later t half b (row e s).caused es c)

        by : (is_some (reason_of half x) ≡ true) ⊎ (any_cancels t half b (e ∷ es) ≡ true) → lost y ((row e s).caused ++ es) ≡ true
        by (inl r) = or-left (is_some (reason_of half y)) _ (reason-on e y v r)
        by (inr c) = later (or-either (cancels t half b e) (any_cancels t half b es) c)

    over-on : (e : Effect) (y : tee.Slots) → View t s e x y → x.phase ≡ Over → y.phase ≡ Over
    over-on e y (Aside same n) o = subst (λ (z : tee.Slots). z.phase ≡ Over) same o
    over-on e y (Other u operation i n same) o = subst (λ (z : tee.Slots). z.phase ≡ Over) same o
    over-on e y (Own operation i moved caused) o = subst (λ (z : tee.Slots). z.phase ≡ Over) moved (over-stays t operation (record { slots = x; out = found s }) o)

    failed-on : (e : Effect) (es : List Effect) (y : tee.Slots) → View t s e x y → Gifts t s (e ∷ es) → Failed s (e ∷ es) x → Failed (row e s).slots ((row e s).caused ++ es) y
    failed-on e es y (Aside same n) g f =
        subst (λ (z : tee.Slots). Failed (row e s).slots ((row e s).caused ++ es) z) same
        (record { errored = row-erred x.source e s f.errored; held = f.held; hands = each-append (NoHands t) (row e s).caused es (row-causes (NoHands t) e s (other-causes t e n)) f.hands.1 })
    failed-on e es y (Other u operation i n same) g f =
        subst (λ (z : tee.Slots). Failed (row e s).slots ((row e s).caused ++ es) z) same
        (record {
          errored = row-erred x.source e s f.errored;
          held = f.held;
          hands = each-append (NoHands t) (row e s).caused es (subst (λ (k : Effect). Each (NoHands t) (row k s).caused) (sym i) (row-causes (NoHands t) (OnTee u operation) s (tees-cause t u operation n))) f.hands.1;
        })
    failed-on e es y (Own operation i moved caused) g f =
        let a : Acts = record { slots = x; out = found s } in
        let none : Each (NoGift t) (e ∷ es) = (g.gifted (tee_shape x) (map-there tee_shape s.tees t.0 x there)).errored f.errored in
        let gift : NoGift t (OnTee t operation) = subst (NoGift t) i none.0 in
        subst (λ (z : tee.Slots). Failed (row e s).slots ((row e s).caused ++ es) z) moved
        (record {
          errored = rw ((tee-causes t operation a).same.source) (row-erred x.source e s f.errored);
          held = none-held t operation a (no-keep operation gift) f.held;
          hands = each-append (NoHands t) (row e s).caused es (subst (λ (cs : List Effect). Each (NoHands t) cs) (sym caused) (own-hands t operation a f.held tt)) f.hands.1;
        })
      where
        no-keep : (operation : TeeOperation) → NoGift t (OnTee t operation) → IsNoKeep t operation
        no-keep (ops.KeepChunk v) n = let self = one_self t in absurd (grind (arith, n, self))
        no-keep operation n = tt

    pub reason-goes : (e : Effect) (es : List Effect) (y : tee.Slots) → View t s e x y → Gifts t s (e ∷ es) → Reason s (e ∷ es) x → Reason (row e s).slots ((row e s).caused ++ es) y
    reason-goes e es y v g (IsLostBy l) = IsLostBy (lost-on e es y v l)
    reason-goes e es y v g (IsOver o) = IsOver (over-on e y v o)
    reason-goes e es y v g (HasFailed f) = HasFailed (failed-on e es y v g f)
