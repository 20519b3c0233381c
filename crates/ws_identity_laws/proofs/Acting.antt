-- What the writable half of a transform stream acts on in a step: the chunks with which its transform algorithm is performed, and nothing once its
-- close algorithm was.
use Rattle.std.proofs.Common.{◌≡◌, ℕ, zero, suc, ◌+◌, ◌<◌, Bool, true, false, List, [], ◌∷◌, ◌++◌, Some, slice_get, refl, sym, ap, subst, ◌∙◌, arith, append_assoc, append-nil}
use Rattle.ws_value.specs.declared.{ids.StreamId.{StreamId}, value.Value.{Value}}
use Rattle.ws_steps.specs.declared.effects.{Effect.{Effect}}
use Rattle.ws_steps.specs.declared.effects.Effect.TheVariants.{Writable as OnWritable, CloseAlgorithm}
use Rattle.ws_steps.specs.declared.transform.TransformId.{TransformId}
use Rattle.ws_steps.specs.declared.writable.{WritableOperation.{WritableOperation}, WritableOperation.TheVariants.{HandOn}}
use Rattle.ws_steps.specs.Histories.{is_same, in_step, over}
use Rattle.ws_steps.specs.Run.{Entry, moments_in, run, step}
use Rattle.ws_steps.specs.Slots.{Slots, empty, writable_at}
use Rattle.ws_steps.specs.Turns.{row}
use Rattle.ws_steps.specs.WritableHistory.{Writes, no_writes, writes_then, operation_writes, effect_writes, step_writes, run_writes, first_chunk}
use Rattle.ws_flow.specs.Told.{Told, told, then_told}
use Rattle.ws_flow.proofs.Told.{then_assoc, then_empty}
use Rattle.ws_laws.proofs.Halves.{step-among}
use Rattle.ws_laws.proofs.Shapes.{TransformShape, transform_shape, transform_shapes}
use Rattle.ws_laws.proofs.Tables.{same_id}
use Rattle.ws_laws.proofs.Walker.{IsHistory, GoesUntold, RestsUntold, step-goes_untold}
use Rattle.ws_writable_laws.proofs.Runs.{is_history}
use Rattle.ws_transform_laws.specs.TransformHistory.{step_transformed, run_transformed}
use Rattle.ws_transform_laws.proofs.Halving.{map-from}
use Rattle.ws_transform_laws.proofs.Told.{along-map}
use Rattle.ws_transform_laws.proofs.Transformed.{each_acted_is_transformed}
use Rattle.ws_link_laws.specs.Link.{silence}
use Rattle.ws_steps.specs.Writable as writable
use Rattle.ws_laws.proofs.Walker.{run-goes_untold}
use Rattle.ws_writable_laws.proofs.Agenda.{Kept}
use Rattle.ws_writable_laws.proofs.Operations.{handed}
use Rattle.ws_writable_laws.proofs.Runs as runs
use Rattle.ws_writable_laws.proofs.Shape.{all, hands, core_of}
use Rattle.ws_transform_laws.proofs.Told.{over-map}
use Rattle.ws_identity_laws.specs.Passing.{run_acts}
use Rattle.ws_identity_laws.specs.Told.{EachActIsTold}
use Rattle.ws_identity_laws.specs.Passing.{ending, acts_of, effect_acts, step_acts}

-- lists

pub cancel-left : {A : Type 0} (xs a b : List A) → xs ++ a ≡ xs ++ b → a ≡ b
cancel-left [] a b e = e
cancel-left (x ∷ xs) a b e = cancel-left xs a b (let f : xs ++ a ≡ xs ++ b = cc in f)

pub run-last : (xs : List Entry) (x : Entry) (s : Slots) → run (xs ++ x ∷ []) s ≡ step (run xs s) x
run-last [] x s = refl
run-last (y ∷ xs) x s = run-last xs x (step s y)

-- what happens in one more step
pub over-last : {H : Type 0} (none : H) (after : H → H → H) (is : IsHistory none after) (told : Slots → Entry → H) (xs : List Entry) (x : Entry) (s : Slots) → over none after told (xs ++ x ∷ []) s ≡ after (over none after told xs s) (told (run xs s) x)
over-last none after is told [] x s = is.right (told s x) ∙ sym (is.left (told s x))
over-last none after is told (y ∷ ys) x s = ap (after (told s y)) (over-last none after is told ys x (step s y)) ∙ sym (is.assoc (told s y) (over none after told ys (step s y)) (told (run ys (step s y)) x))

module _ (w : StreamId) where
  queue-handed : (n : ℕ) (x : writable.Slots) → (core_of (handed n x)).queue ≡ [] → first_chunk x.queue ≡ []
  queue-handed n x e = grind (arith, e)

  -- once its close algorithm was performed, no chunk is left in it
  first-closed : (h : Writes) (s : Slots) (es : List Effect) → Kept w h s es → 0 < h.closes → first_chunk (writable_at w s).queue ≡ []
  first-closed h s es k some = queue-handed (all (hands w) es) (writable_at w s) (k.held.fine.shape.spent (omega (arith, some)))

  operation-none : (operation : WritableOperation) (s : Slots) → first_chunk (writable_at w s).queue ≡ [] → (operation_writes operation (writable_at w s)).acted ≡ []
  operation-none (HandOn taker) s e = e
  operation-none operation s e = refl

  acted-none : (e : Effect) (s : Slots) → first_chunk (writable_at w s).queue ≡ [] → (effect_writes w e s).acted ≡ []
  acted-none (OnWritable j operation) s e = by (is_same w j) refl
    where
      by : (same : Bool) → same ≡ is_same w j → (effect_writes w (OnWritable j operation) s).acted ≡ []
      by false n = rw (← n) refl
      by true n = let is : w ≡ j = same_id w j (sym n) in let k = operation-none operation s e in rw (← n) (rw is at k)
  acted-none (CloseAlgorithm j) s e = by (is_same w j) refl
    where
      by : (same : Bool) → same ≡ is_same w j → (effect_writes w (CloseAlgorithm j) s).acted ≡ []
      by false n = rw (← n) refl
      by true n = rw (← n) refl
  acted-none _ s e = refl

  -- what it acts on, told beside its history

  record Acted : Type 0 where
    writes : Writes
    acts : Told Value

  abbrev nothing : Acted
  nothing = record { writes = no_writes; acts = silence }

  abbrev then_acted : Acted → Acted → Acted
  then_acted f g = record { writes = writes_then f.writes g.writes; acts = then_told f.acts g.acts }

  are_acted : IsHistory nothing then_acted
  are_acted = record {
    left = λ h k. record { writes = is_history.left h.writes k; acts = h.acts };
    right = λ h k. record { writes = is_history.right h.writes k; acts = then_empty h.acts k };
    assoc = λ f g h k. record { writes = is_history.assoc f.writes g.writes h.writes k; acts = then_assoc f.acts g.acts h.acts k };
  }

  abbrev acted_told : Effect → Slots → Acted
  acted_told e s = record { writes = effect_writes w e s; acts = effect_acts w e s }

  record Agrees (base : List Value) (h : Acted) (s : Slots) (es : List Effect) : Type 0 where
    kept : Kept w h.writes s es
    same : h.writes.acted ≡ base ++ h.acts.items
    mark : h.acts.mark ≡ ending h.writes.closes

  next-agrees : (a : Told Value) (f : Writes) (c n : ℕ) → n ≡ c → a.mark ≡ ending n → (0 < c → f.acted ≡ []) → ((then_told a (acts_of f)).items ≡ a.items ++ f.acted) × ((then_told a (acts_of f)).mark ≡ ending (c + f.closes))
  next-agrees a f c zero e m none = let k : c + f.closes ≡ f.closes = omega (arith, e) in rw (m, k) (refl, refl)
  next-agrees a f c (suc n) e m none =
      let k : c + f.closes ≡ suc (n + f.closes) = omega (arith, e) in
      let z = none (omega (arith, e)) in
      rw (m, k, z) (sym (append-nil a.items), refl)

  row-agrees : (base : List Value) (h : Acted) (s : Slots) (e : Effect) (es : List Effect) → Agrees base h s (e ∷ es) → Agrees base (then_acted h (acted_told e s)) (row e s).slots ((row e s).caused ++ es)
  row-agrees base h s e es g =
      let f : Writes = effect_writes w e s in
      let n = next-agrees h.acts f h.writes.closes h.writes.closes refl g.mark (λ some. acted-none e s (first-closed h.writes s (e ∷ es) g.kept some)) in
      record { kept = (runs.goes w).row h.writes s e es g.kept; same = rw (g.same, n.0) (append_assoc base h.acts.items f.acted); mark = n.1 }

  goes : (base : List Value) → GoesUntold then_acted acted_told (Agrees base)
  goes base = record {
    row = row-agrees base;
    call = λ h s c g. record { kept = (runs.goes w).call h.writes s c g.kept; same = g.same; mark = g.mark };
    job = λ h s job e g. record { kept = (runs.goes w).job h.writes s job e g.kept; same = g.same; mark = g.mark };
    answered = λ h s p g. record { kept = (runs.goes w).answered h.writes s p g.kept; same = g.same; mark = g.mark };
    older = λ h s g. record { kept = (runs.goes w).older h.writes s g.kept; same = g.same; mark = g.mark };
  }

  rests : (base : List Value) → RestsUntold (Agrees base)
  rests base = record { heard = λ h s g. record { kept = (runs.rests w).heard h.writes s g.kept; same = g.same; mark = g.mark } }

  abbrev before : List Entry → Writes
  before xs = run_writes w xs empty

  told-is : (a : Told Value) (vs : List Value) (n : ℕ) → a.items ≡ vs → a.mark ≡ ending n → a ≡ told vs (ending n)
  told-is a vs n e f = rw (← e, ← f) refl

  start : (xs : List Entry) → Agrees (before xs).acted (record { writes = before xs; acts = told [] (ending (before xs).closes) }) (run xs empty) []
  start xs = record { kept = runs.run-kept xs w; same = sym (append-nil (before xs).acted); mark = refl }

  -- what was acted on, from where the stream is closed or not
  told-by : (xs : List Entry) (more : Acted) (z : Slots) → Agrees (before xs).acted (then_acted (record { writes = before xs; acts = told [] (ending (before xs).closes) }) more) z []
      → then_told (told [] (ending (before xs).closes)) more.acts ≡ told more.writes.acted (ending ((before xs).closes + more.writes.closes))
  told-by xs more z g = told-is _ _ _ (sym (cancel-left (before xs).acted _ _ g.same)) g.mark

  pub acts-told : (xs : List Entry) (x : Entry) → let s : Slots = run xs empty in
      then_told (told [] (ending (before xs).closes)) (step_acts w s x) ≡ told (step_writes w s x).acted (ending ((before xs).closes + (step_writes w s x).closes))
  acts-told xs x =
      let s : Slots = run xs empty in
      let more : Acted = in_step nothing then_acted acted_told s x in
      let one : more.writes ≡ step_writes w s x = along-map nothing then_acted no_writes writes_then (λ (a : Acted). a.writes) refl (λ a b. refl) acted_told (moments_in s x) in
      let two : more.acts ≡ step_acts w s x = along-map nothing then_acted silence then_told (λ (a : Acted). a.acts) refl (λ a b. refl) acted_told (moments_in s x) in
      rw (one, two) at (told-by xs more (step s x) (step-goes_untold nothing then_acted are_acted acted_told (Agrees (before xs).acted) (goes (before xs).acted) (rests (before xs).acted) _ s x (start xs)))

  acts-run : (xs entries : List Entry) → let s : Slots = run xs empty in
      then_told (told [] (ending (before xs).closes)) (run_acts w entries s) ≡ told (run_writes w entries s).acted (ending ((before xs).closes + (run_writes w entries s).closes))
  acts-run xs entries =
      let s : Slots = run xs empty in
      let more : Acted = over nothing then_acted (in_step nothing then_acted acted_told) entries s in
      let one : more.writes ≡ run_writes w entries s = over-map nothing then_acted no_writes writes_then (λ (a : Acted). a.writes) refl (λ a b. refl) acted_told entries s in
      let two : more.acts ≡ run_acts w entries s = over-map nothing then_acted silence then_told (λ (a : Acted). a.acts) refl (λ a b. refl) acted_told entries s in
      rw (one, two) at (told-by xs more (run entries s) (run-goes_untold nothing then_acted are_acted acted_told (Agrees (before xs).acted) (goes (before xs).acted) (rests (before xs).acted) entries _ s (start xs)))

pub each_act_is_told : EachActIsTold
each_act_is_told xs entries j = acts-run j xs entries

-- in a step it acts on what is transformed
are_lists : IsHistory {H = List Value} [] ◌++◌
are_lists = record { left = λ vs. refl; right = append-nil; assoc = append_assoc }

module _ (t : TransformId) (w : StreamId) where
  -- the transform stream is there, and stream w is its writable half
  abbrev pub Half : Slots → Type 0
  Half s = (x : TransformShape) × ((slice_get (transform_shapes s) t.0 ≡ Some x) × (x.writable ≡ w))

  acted-is : (ys : List Entry) → Half (run ys empty) → (run_writes w ys empty).acted ≡ run_transformed t ys empty
  acted-is ys h =
      let y = map-from transform_shape (run ys empty).transforms t.0 h.0 h.1.0 in
      subst (λ (k : StreamId). (run_writes k ys empty).acted ≡ run_transformed t ys empty) (ap (λ (z : TransformShape). z.writable) y.1.1 ∙ h.1.1) (each_acted_is_transformed ys t y.0 y.1.0)

  pub acted-transformed : (xs : List Entry) (entry : Entry) → Half (run xs empty) → (step_writes w (run xs empty) entry).acted ≡ step_transformed t (run xs empty) entry
  acted-transformed xs entry h =
      let s : Slots = run xs empty in
      let last = run-last xs entry empty in
      let after : Half (run (xs ++ entry ∷ []) empty) = rw last (h.0, (step-among entry s t h.0 h.1.0, h.1.1)) in
      let a = over-last no_writes writes_then is_history (step_writes w) xs entry empty in
      let b = over-last [] ◌++◌ are_lists (step_transformed t) xs entry empty in
      let c : (run_writes w xs empty).acted ++ (step_writes w s entry).acted ≡ run_transformed t (xs ++ entry ∷ []) empty = ap (λ (k : Writes). k.acted) (sym a) ∙ acted-is (xs ++ entry ∷ []) after in
      cancel-left (run_writes w xs empty).acted _ _ (c ∙ (b ∙ ap (λ vs. vs ++ step_transformed t s entry) (sym (acted-is xs h))))
