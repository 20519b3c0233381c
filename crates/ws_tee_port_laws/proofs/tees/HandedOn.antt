-- What one effect tells of a branch, and where a chunk that is handed on stands on the agenda.
use Rattle.std.proofs.Common.{◌≡◌, ℕ, Bool, true, false, ◌||◌, nat_eq, if◌then◌else◌, is_some, List, [], ◌∷◌, ◌++◌, Option, Some, None, slice_get, refl, sym, ap, ◌∙◌, append_assoc, append-nil, arith}
use Rattle.ws_value.specs.declared.ids.{StreamId.{StreamId}, TeeId.{TeeId}}
use Rattle.ws_value.specs.declared.value.{Plain.{Plain}, Value.{Value}}
use Rattle.ws_steps.specs.declared.effects.{Effect.{Effect}, Effect.TheVariants.{Readable as OnReadable, Tee as OnTee, ChunkSteps}}
use Rattle.ws_steps.specs.declared.readable.ReadableOperation.TheVariants.{Enqueue}
use Rattle.ws_steps.specs.declared.tee.{Half.{Half}, Half.TheVariants.{First, Second}}
use Rattle.ws_steps.specs.declared.tee.TeeOperation.TheVariants as ops
use Rattle.ws_steps.specs.Histories.{is_same}
use Rattle.ws_steps.specs.ReadableHistory.{effect_flow, operation_flow, no_flow}
use Rattle.ws_steps.specs.Slots.{Slots, readable_at, as_tee, tee_at}
use Rattle.ws_steps.specs.Tee as tee
use Rattle.ws_steps.specs.Tee.{reason_of, on_branches, unless_cancelled}
use Rattle.ws_steps.specs.TeeLaws.{held_values}
use Rattle.ws_laws.proofs.Shapes.{StreamShape, ReadableOf, branch_of, stream_shapes, tee_shape, map-there}
use Rattle.ws_laws.proofs.Tables.{either, is_same-refl, same_id, eq_numbers}
use Rattle.ws_steps.specs.declared.effects.Owner.TheVariants.{BranchOf}
use Rattle.ws_tee_port_laws.proofs.tees.Fronts.{enq, pend, pend-append, hands_on, any_hands, Followed, shape}
use Rattle.ws_tee_port_laws.proofs.tees.Handed.{handed_by}
use Rattle.ws_tee_port_laws.proofs.tees.Tied.{Tied}

module _ (t : TeeId) (half : Half) (b : StreamId) where
  -- what is told

  pub told-handed : (e : Effect) (s : Slots) → (e ≡ OnTee t ops.HandChunk → ⊥) → handed_by t e s ≡ []
  told-handed (OnTee u ops.HandChunk) s n = either (λ (vs : List Value). vs ≡ []) (nat_eq t.0 u.0) (held_values (tee_at t s).held) [] (λ e. absurd (n (sym (ap (λ (k : ℕ). OnTee (record { 0 = k }) ops.HandChunk) (eq_numbers t.0 u.0 e))))) (λ e. refl)
  told-handed e s n = grind (arith, n)

  pub told-none : (e : Effect) (s : Slots) → slice_get s.tees t.0 ≡ None → handed_by t e s ≡ []
  told-none (OnTee u ops.HandChunk) s none = either (λ (vs : List Value). vs ≡ []) (nat_eq t.0 u.0) (held_values (tee_at t s).held) [] (λ e. ap (λ (o : Option tee.Slots). held_values (as_tee o).held) none) (λ e. refl)
  told-none e s none = grind (arith, none)

  -- an effect by which nothing enters
  pub told-entered : (e : Effect) (s : Slots) → enq b e ≡ [] → (effect_flow b e s).entered ≡ []
  told-entered (OnReadable j (Enqueue v)) s n = by (is_same b j) refl
    where
      by : (same : Bool) → is_same b j ≡ same → (if is_same b j then operation_flow (Enqueue v) (readable_at j s) else no_flow).entered ≡ []
      by true e = let wrong : v ∷ [] ≡ [] = rw e at n in cc
      by false e = rw e refl
  told-entered (OnReadable j operation) s n = either (λ f. f.entered ≡ []) (is_same b j) (operation_flow operation (readable_at j s)) no_flow (λ e. grind (arith, n)) (λ e. refl)
  told-entered (ChunkSteps j r v) s n = either (λ f. f.entered ≡ []) (is_same b j) _ no_flow (λ e. refl) (λ e. refl)
  told-entered e s n = grind (arith, n)

  -- of a branch that is there

  -- the chunk that is handed on stands among what is caused where the branch isn't cancelled
  unless-pend : (r : Option Plain) (j : StreamId) (v : Value) (same : Bool) → is_same b j ≡ same → pend b (unless_cancelled r j (Enqueue v)) ≡ (if same then (if is_some r then [] else v ∷ []) else [])
  unless-pend None j v true e = rw e refl
  unless-pend None j v false e = rw e refl
  unless-pend (Some r) j v true e = refl
  unless-pend (Some r) j v false e = refl

  same-branch : (j : StreamId) → j ≡ b → is_same b j ≡ true
  same-branch j e = rw e (is_same-refl b)

  other-branch : (s : Slots) (j : StreamId) (h : Half) → slice_get (stream_shapes s) b.0 ≡ Some (ReadableOf (BranchOf t half)) → slice_get (stream_shapes s) j.0 ≡ Some (ReadableOf (BranchOf t h)) → (h ≡ half → ⊥) → is_same b j ≡ false
  other-branch s j h mine at n = by (is_same b j) refl
    where
      by : (same : Bool) → is_same b j ≡ same → is_same b j ≡ false
      by false e = e
      by true e =
          let both : ◌≡◌ {A = Option StreamShape} (Some (ReadableOf (BranchOf t half))) (Some (ReadableOf (BranchOf t h))) = sym mine ∙ (ap (λ (k : StreamId). slice_get (stream_shapes s) k.0) (same_id b j e) ∙ at) in
          let it : h ≡ half = cc in absurd (n it)

  pub branches-pend : (s : Slots) (x : tee.Slots) (v : Value) (tied : Tied s) (there : slice_get s.tees t.0 ≡ Some x) → branch_of half (tee_shape x) ≡ b
      → pend b (on_branches (Enqueue v) x ++ OnTee t ops.Handed ∷ []) ≡ (if is_some (reason_of half x) then [] else v ∷ [])
  branches-pend s x v tied there is =
      pend-append b (on_branches (Enqueue v) x) (OnTee t ops.Handed ∷ []) ∙ (append-nil (pend b (on_branches (Enqueue v) x)) ∙ (pend-append b (unless_cancelled x.reason1 x.branch1 (Enqueue v)) (unless_cancelled x.reason2 x.branch2 (Enqueue v)) ∙ by half refl is))
    where
      mine : slice_get (stream_shapes s) b.0 ≡ Some (ReadableOf (BranchOf t half))
      mine = shape t half b s tied x there is

      both : (slice_get (stream_shapes s) x.branch1.0 ≡ Some (ReadableOf (BranchOf t First))) × (slice_get (stream_shapes s) x.branch2.0 ≡ Some (ReadableOf (BranchOf t Second)))
      both = tied.0.branches t (tee_shape x) (map-there tee_shape s.tees t.0 x there)

      first_second : {A : Type 0} → First ≡ Second → A
      first_second e = cc

      by : (h : Half) → half ≡ h → branch_of h (tee_shape x) ≡ b
          → pend b (unless_cancelled x.reason1 x.branch1 (Enqueue v)) ++ pend b (unless_cancelled x.reason2 x.branch2 (Enqueue v)) ≡ (if is_some (reason_of h x) then [] else v ∷ [])
      by First e is =
          let p = unless-pend x.reason1 x.branch1 v true (same-branch x.branch1 is) in
          let q = unless-pend x.reason2 x.branch2 v false (other-branch s x.branch2 Second mine both.1 (λ f. first_second (sym (f ∙ e)))) in
          rw (p, q) (append-nil (if is_some x.reason1 then [] else v ∷ []))
      by Second e is =
          let p = unless-pend x.reason1 x.branch1 v false (other-branch s x.branch1 First mine both.0 (λ f. first_second (f ∙ e))) in
          let q = unless-pend x.reason2 x.branch2 v true (same-branch x.branch2 is) in
          rw (p, q) refl

  -- and the tee's own operation stands behind it
  pub one_self : nat_eq t.0 t.0 ≡ true
  one_self = grind arith

  hands-later : (es fs : List Effect) → any_hands t fs ≡ true → any_hands t (es ++ fs) ≡ true
  hands-later [] fs h = h
  hands-later (e ∷ es) fs h = by (hands_on t e) (any_hands t (es ++ fs)) (hands-later es fs h)
    where
      by : (x y : Bool) → y ≡ true → (x || y) ≡ true
      by x y e = grind (arith, e)

  followed-hands : (es fs : List Effect) → any_hands t fs ≡ true → Followed t b fs → Followed t b (es ++ fs)
  followed-hands [] fs h f = f
  followed-hands (e ∷ es) fs h f = (λ n. let k = hands-later es fs h in let wrong : true ≡ false = sym k ∙ n in cc, followed-hands es fs h f)

  pub branches-followed : (x : tee.Slots) (v : Value) (es : List Effect) → Followed t b es → Followed t b ((on_branches (Enqueue v) x ++ OnTee t ops.Handed ∷ []) ++ es)
  branches-followed x v es f =
      rw (append_assoc (on_branches (Enqueue v) x) (OnTee t ops.Handed ∷ []) es)
      (followed-hands (on_branches (Enqueue v) x) (OnTee t ops.Handed ∷ es) (rw one_self refl) (λ n. refl, f))
