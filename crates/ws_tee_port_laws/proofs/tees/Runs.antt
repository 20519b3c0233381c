-- Over every run: what entered a branch of a tee is what was handed to the branches, or a first part of it.
use Rattle.std.proofs.Common.{◌≡◌, ⊎_elim, ℕ, zero, suc, ◌+◌, ◌≤◌, Bool, true, false, nat_eq, if◌then◌else◌, is_some, List, [], ◌∷◌, ◌++◌, length, map, Option, Some, None, slice_get, refl, sym, ap, subst, ◌∙◌, append_assoc, append-nil, arith}
use Rattle.ws_value.specs.declared.ids.{StreamId.{StreamId}, TeeId.{TeeId}}
use Rattle.ws_value.specs.declared.value.{Value.{Value}}
use Rattle.ws_steps.specs.declared.calls.Call.{Call}
use Rattle.ws_steps.specs.declared.effects.{Effect.{Effect}, Effect.TheVariants.{Readable as OnReadable, Tee as OnTee}}
use Rattle.ws_steps.specs.declared.readable.ReadableOperation.TheVariants.{Enqueue}
use Rattle.ws_steps.specs.declared.tee.{Half.{Half}, Half.TheVariants.{First, Second}, TeeOperation.{TeeOperation}}
use Rattle.ws_steps.specs.declared.tee.TeeOperation.TheVariants as ops
use Rattle.ws_steps.specs.Begun.{Begun}
use Rattle.ws_steps.specs.MakingCalls.{make_tee}
use Rattle.ws_steps.specs.PipeCalls.{add_port}
use Rattle.ws_steps.specs.Calls.{begin}
use Rattle.ws_steps.specs.Histories.{is_same, in_step, over}
use Rattle.ws_steps.specs.Promises.{next_id, fresh, after_next_job}
use Rattle.ws_steps.specs.Jobs.{job_effects}
use Rattle.ws_steps.specs.Operations.{tee_operation}
use Rattle.ws_steps.specs.Readable.{can_close_or_enqueue}
use Rattle.ws_steps.specs.ReadableHistory.{effect_flow}
use Rattle.ws_steps.specs.Run.{Entry, run, after_event}
use Rattle.ws_steps.specs.Slots.{Slots, Stream, with_promises, Done, found, empty, on_tee_at, readable_at, as_readable}
use Rattle.ws_steps.specs.Tee as tee
use Rattle.ws_steps.specs.Tee.{Acts, reason_of, hand_chunk, hand_held}
use Rattle.ws_steps.specs.Turns.{row}
use Rattle.ws_laws.proofs.ByteHands.{sum_of}
use Rattle.ws_laws.proofs.Begin.{begin-makes}
use Rattle.ws_laws.proofs.EachCall.{each_call}
use Rattle.ws_laws.proofs.Halves.{get-stays, get-either}
use Rattle.ws_laws.proofs.Lists.{Each}
use Rattle.ws_laws.proofs.Apart.{IsNoTee, row-tees}
use Rattle.ws_laws.proofs.Shapes.{StreamShape, ReadableOf, branch_of, stream_shape, stream_shapes, tee_shape, row-stream_shapes, row-tee_shapes}
use Rattle.ws_laws.proofs.Tables.{is_same-refl, same_id, eq_numbers, unequal_numbers}
use Rattle.ws_laws.proofs.TeeDoes.{tee-causes}
use Rattle.ws_laws.proofs.Walker.{Stays, IsHistory, GoesUntold, RestsUntold, run-holds}
use Rattle.ws_steps.specs.declared.effects.Owner.TheVariants.{BranchOf}
use Rattle.ws_tee_port_laws.proofs.tees.Fronts.{enq, pend, NoEnq, none-pend, Followed, followed-calm, unhanded, none-hands, shape, teed-none, row-none, call-none, IsHandless, own-calm, job-none}
use Rattle.ws_tee_port_laws.proofs.tees.Hands.{Went, none_went, went_then, told, Front, Live, Shut, Left, aside-front, enqueue-front, hand-front, row-shut, some_tee, none_some, tees_same, tees_other, reason-stays}
use Rattle.ws_tee_port_laws.proofs.tees.OneRead.{One, of_effect, held_in, may_have, one-stays, one-empty}
use Rattle.ws_steps.specs.declared.port.Side.{Side}
use Rattle.ws_steps.specs.declared.port.Side.TheVariants.{Readable as ReadableSide, Writable as WritableSide}
use Rattle.ws_tee_port_laws.proofs.tees.Tied.{Tied, tied-stays, tied-empty}
use Rattle.ws_tee_port_laws.proofs.tees.HandedOn.{told-handed, told-none, told-entered, branches-pend, one_self, branches-followed}

-- why a branch may take no chunk that is handed on, and what is known beside

pub record IsLost (t : TeeId) (half : Half) (b : StreamId) (lost : tee.Slots → List Effect → Bool) (X : Slots → List Effect → Type 0) : Type 0 where
  pub goes : Stays X
  pub rests : (s : Slots) → X s [] → X (after_event s) []
  pub begins : X empty []
  pub more : (x : tee.Slots) (es : List Effect) → lost x [] ≡ true → lost x es ≡ true
  pub stays : (s : Slots) (e : Effect) (es : List Effect) (x y : tee.Slots) → X s (e ∷ es) → Tied s → One t s (e ∷ es) → slice_get s.tees t.0 ≡ Some x → branch_of half (tee_shape x) ≡ b
      → slice_get (row e s).slots.tees t.0 ≡ Some y → lost x (e ∷ es) ≡ true → lost y ((row e s).caused ++ es) ≡ true
  pub refused : (s : Slots) (v : Value) (es : List Effect) (x : tee.Slots) → X s (OnReadable b (Enqueue v) ∷ es) → Tied s → One t s (OnReadable b (Enqueue v) ∷ es) → Followed t b (OnReadable b (Enqueue v) ∷ es)
      → slice_get s.tees t.0 ≡ Some x → branch_of half (tee_shape x) ≡ b → can_close_or_enqueue (readable_at b s) ≡ false → lost x ((row (OnReadable b (Enqueue v)) s).caused ++ es) ≡ true

module _ (t : TeeId) (half : Half) (b : StreamId) (lost : tee.Slots → List Effect → Bool) (X : Slots → List Effect → Type 0) (law : IsLost t half b lost X) where
  record Fore (h : Went) (s : Slots) (es : List Effect) (x : tee.Slots) : Type 0 where
    followed : Followed t b es
    front : Front lost t half b h s es x

  pub record Kept (h : Went) (s : Slots) (es : List Effect) : Type 0 where
    beside : X s es
    tied : Tied s
    one : One t s es
    absent : slice_get s.tees t.0 ≡ None → h.handed ≡ []
    missing : slice_get s.streams b.0 ≡ None → h.entered ≡ []
    fore : (x : tee.Slots) → slice_get s.tees t.0 ≡ Some x → branch_of half (tee_shape x) ≡ b → Fore h s es x

  abbrev Here : Slots → tee.Slots → Type 0
  Here s x = (slice_get s.tees t.0 ≡ Some x) × (branch_of half (tee_shape x) ≡ b)

  with_told : (h g k : Went) (s : Slots) (es : List Effect) (x : tee.Slots) → g ≡ k → Front lost t half b (went_then h k) s es x → Front lost t half b (went_then h g) s es x
  with_told h g k s es x e f = subst (λ (w : Went). Front lost t half b (went_then h w) s es x) (sym e) f

  may_most : (x : tee.Slots) → may_have x.phase ≤ 1
  may_most x = grind arith

  -- other effects than those of the tee
  aside : (h : Went) (s : Slots) (e : Effect) (es : List Effect) (x y : tee.Slots) → IsNoTee e → Here s x → slice_get (row e s).slots.tees t.0 ≡ Some y → x ≡ y → enq b e ≡ [] → Kept h s (e ∷ es) → Fore (went_then h (told t b e s)) (row e s).slots ((row e s).caused ++ es) y
  aside h s e es x y n here now same none k =
      let calm = row-none t half b s k.tied x here.0 here.1 e n in
      let f = k.fore x here.0 here.1 in
      record {
        followed = followed-calm t b (row e s).caused es calm f.followed.1;
        front = aside-front lost t half b h (told t b e s) s (row e s).slots e es (row e s).caused x y (told-handed t half b e s (not-own e n)) (told-entered t half b e s none) none calm (row-shut b e s)
            (λ r. subst (λ (z : tee.Slots). is_some (reason_of half z) ≡ true) same r) (λ l. law.stays s e es x y k.beside k.tied k.one here.0 here.1 now l) f.front;
      }
    where
      not-own : (e : Effect) → IsNoTee e → e ≡ OnTee t ops.HandChunk → ⊥
      not-own e n is = let wrong : IsNoTee (OnTee t ops.HandChunk) = subst IsNoTee is n in absurd wrong

  enqueued : (h : Went) (s : Slots) (v : Value) (es : List Effect) (x y : tee.Slots) → Here s x → x ≡ y → Kept h s (OnReadable b (Enqueue v) ∷ es)
      → Fore (went_then h (told t b (OnReadable b (Enqueue v)) s)) (row (OnReadable b (Enqueue v)) s).slots ((row (OnReadable b (Enqueue v)) s).caused ++ es) y
  enqueued h s v es x y here same k =
      let e : Effect = OnReadable b (Enqueue v) in
      let calm = row-none t half b s k.tied x here.0 here.1 e tt in
      let f = k.fore x here.0 here.1 in
      let can : Bool = can_close_or_enqueue (readable_at b s) in
      subst (λ (z : tee.Slots). Fore (went_then h (told t b e s)) (row e s).slots ((row e s).caused ++ es) z) same
      (record {
        followed = followed-calm t b (row e s).caused es calm f.followed.1;
        front = with_told h (told t b e s) (record { handed = []; entered = if can then v ∷ [] else [] }) (row e s).slots ((row e s).caused ++ es) x (told-is can refl)
            (enqueue-front lost t half b h s (row e s).slots v es (row e s).caused x can refl calm (row-shut b e s) (λ no. law.refused s v es x k.beside k.tied k.one f.followed here.0 here.1 no) f.front);
      })
    where
      told-is : (can : Bool) → can_close_or_enqueue (readable_at b s) ≡ can → told t b (OnReadable b (Enqueue v)) s ≡ record { handed = []; entered = if can_close_or_enqueue (readable_at b s) then v ∷ [] else [] }
      told-is true e = rw (is_same-refl b, e) refl
      told-is false e = rw (is_same-refl b, e) refl

  -- the tee's own

  own-row : (h : Went) (s : Slots) (operation : TeeOperation) (es : List Effect) (x y : tee.Slots) → Here s x → (tee_operation t operation (record { slots = x; out = found s })).slots ≡ y
      → slice_get (row (OnTee t operation) s).slots.tees t.0 ≡ Some y → (handless : IsHandless t b operation) → Kept h s (OnTee t operation ∷ es)
      → let d : Done = on_tee_at (tee_operation t operation) t s (Some x) in d ≡ row (OnTee t operation) s
      → Fore (went_then h (told t b (OnTee t operation) s)) (row (OnTee t operation) s).slots ((row (OnTee t operation) s).caused ++ es) y
  own-row h s operation es x y here now place handless k same =
      let e : Effect = OnTee t operation in
      let a : Acts = record { slots = x; out = found s } in
      let calm : Each (NoEnq b) (row e s).caused = subst (λ (d : Done). Each (NoEnq b) d.caused) same (own-calm t b operation a handless tt) in
      let f = k.fore x here.0 here.1 in
      record {
        followed = followed-calm t b (row e s).caused es calm f.followed.1;
        front = aside-front lost t half b h (told t b e s) s (row e s).slots e es (row e s).caused x y (told-handed t half b e s (not-hand operation handless)) refl refl calm (row-shut b e s)
            (λ r. subst (λ (z : tee.Slots). is_some (reason_of half z) ≡ true) now (reason-stays t half operation a r)) (λ l. law.stays s e es x y k.beside k.tied k.one here.0 here.1 place l) f.front;
      }
    where
      not-hand : (operation : TeeOperation) → IsHandless t b operation → OnTee t operation ≡ OnTee t ops.HandChunk → ⊥
      not-hand ops.HandChunk n is = absurd n
      not-hand ops.PullBranch n is = cc
      not-hand (ops.KeepChunk v) n is = cc
      not-hand ops.SourceClosed n is = cc
      not-hand ops.SourceErrored n is = cc
      not-hand ops.Handed n is = cc
      not-hand (ops.CancelBranch g r u) n is = cc
      not-hand (ops.ReaderSettled o) n is = cc

  one_here : (s : Slots) (es : List Effect) (x : tee.Slots) (v : Value) → slice_get s.tees t.0 ≡ Some x → x.held ≡ Some v → One t s (OnTee t ops.HandChunk ∷ es) → sum_of (of_effect t) es ≡ 0
  one_here s es x v there held one =
      let o = rw there at one in
      let m = may_most x in
      let n : held_in x ≡ 1 = rw held refl in
      omega (arith, o, m, n)

  hand-row : (h : Went) (s : Slots) (es : List Effect) (x y : tee.Slots) (held : Option Value) → x.held ≡ held → Here s x → (hand_held t (record { slots = x; out = found s }) held).slots ≡ y
      → slice_get (row (OnTee t ops.HandChunk) s).slots.tees t.0 ≡ Some y → (row (OnTee t ops.HandChunk) s).caused ≡ (hand_held t (record { slots = x; out = found s }) held).out.effects → Kept h s (OnTee t ops.HandChunk ∷ es)
      → Fore (went_then h (told t b (OnTee t ops.HandChunk) s)) (row (OnTee t ops.HandChunk) s).slots ((row (OnTee t ops.HandChunk) s).caused ++ es) y
  hand-row h s es x y None is here now place caused k =
      let e : Effect = OnTee t ops.HandChunk in
      let f = k.fore x here.0 here.1 in
      let calm : Each (NoEnq b) (row e s).caused = rw caused tt in
      record {
        followed = followed-calm t b (row e s).caused es calm f.followed.1;
        front = aside-front lost t half b h (told t b e s) s (row e s).slots e es (row e s).caused x y (rw (one_self t half b, here.0, is) refl) refl refl calm (row-shut b e s)
            (λ r. subst (λ (z : tee.Slots). is_some (reason_of half z) ≡ true) now r) (λ l. law.stays s e es x y k.beside k.tied k.one here.0 here.1 place l) f.front;
      }
  hand-row h s es x y (Some v) is here now place caused k =
      let e : Effect = OnTee t ops.HandChunk in
      let f = k.fore x here.0 here.1 in
      let none : pend b es ≡ [] = unhanded t b es f.followed.1 (none-hands t es (one_here s es x v here.0 is k.one)) in
      let p = branches-pend t half b s x v k.tied here.0 here.1 in
      record {
        followed = rw caused (branches-followed t half b x v es f.followed.1);
        front = with_told h (told t b e s) (record { handed = v ∷ []; entered = [] }) (row e s).slots ((row e s).caused ++ es) y (rw (one_self t half b, here.0, is) refl)
            (hand-front lost t half b h s (row e s).slots v es (row e s).caused x y (reason_of half x) refl (sym (ap (reason_of half) now) ∙ same half) none (ap (pend b) caused ∙ p) (row-shut b e s)
            (λ l. law.stays s e es x y k.beside k.tied k.one here.0 here.1 place l) f.front);
      }
    where
      same : (g : Half) → reason_of g (record x { held = None; read_again = false }) ≡ reason_of g x
      same First = refl
      same Second = refl

  -- those of another tee, and of none
  other-row : (h : Went) (s : Slots) (u : TeeId) (operation : TeeOperation) (es : List Effect) (x y : tee.Slots) → nat_eq t.0 u.0 ≡ false → Here s x → slice_get (row (OnTee u operation) s).slots.tees t.0 ≡ Some y → x ≡ y
      → Kept h s (OnTee u operation ∷ es) → Fore (went_then h (told t b (OnTee u operation) s)) (row (OnTee u operation) s).slots ((row (OnTee u operation) s).caused ++ es) y
  unfolding row
  other-row h s u operation es x y apart here now same k =
      let e : Effect = OnTee u operation in
      let calm : Each (NoEnq b) (row e s).caused = teed-none t half b s k.tied x here.0 here.1 u operation (slice_get s.tees u.0) apart refl in
      let f = k.fore x here.0 here.1 in
      record {
        followed = followed-calm t b (row e s).caused es calm f.followed.1;
        front = aside-front lost t half b h (told t b e s) s (row e s).slots e es (row e s).caused x y (told-handed t half b e s not-own) refl refl calm (row-shut b e s)
            (λ r. subst (λ (z : tee.Slots). is_some (reason_of half z) ≡ true) same r) (λ l. law.stays s e es x y k.beside k.tied k.one here.0 here.1 now l) f.front;
      }
    where
      not-own : OnTee u operation ≡ OnTee t ops.HandChunk → ⊥
      not-own is = let it : u ≡ t = cc in unequal_numbers t.0 u.0 apart (ap (λ (v : TeeId). v.0) (sym it))

  own-by : (h : Went) (s : Slots) (operation : TeeOperation) (es : List Effect) (x y : tee.Slots) → slice_get s.tees t.0 ≡ Some x → branch_of half (tee_shape x) ≡ b → (tee_operation t operation (record { slots = x; out = found s })).slots ≡ y
      → slice_get (row (OnTee t operation) s).slots.tees t.0 ≡ Some y → on_tee_at (tee_operation t operation) t s (Some x) ≡ row (OnTee t operation) s → Kept h s (OnTee t operation ∷ es)
      → Fore (went_then h (told t b (OnTee t operation) s)) (row (OnTee t operation) s).slots ((row (OnTee t operation) s).caused ++ es) y
  unfolding hand_chunk
  own-by h s ops.HandChunk es x y there is now place same k =
      hand-row h s es x y x.held refl (there, is) now place (sym (ap (λ (d : Done). d.caused) same)) k
  own-by h s ops.PullBranch es x y there is now place same k = own-row h s ops.PullBranch es x y (there, is) now place tt k same
  own-by h s (ops.KeepChunk v) es x y there is now place same k = own-row h s (ops.KeepChunk v) es x y (there, is) now place tt k same
  own-by h s ops.SourceClosed es x y there is now place same k = own-row h s ops.SourceClosed es x y (there, is) now place tt k same
  own-by h s ops.SourceErrored es x y there is now place same k = own-row h s ops.SourceErrored es x y (there, is) now place tt k same
  own-by h s ops.Handed es x y there is now place same k = own-row h s ops.Handed es x y (there, is) now place tt k same
  own-by h s (ops.CancelBranch g r w) es x y there is now place same k = own-row h s (ops.CancelBranch g r w) es x y (there, is) now place tt k same
  own-by h s (ops.ReaderSettled o) es x y there is now place same k = own-row h s (ops.ReaderSettled o) es x y (there, is) now place tt k same

  abbrev Next : Went → Slots → Effect → List Effect → Type 0
  Next h s e es = (y : tee.Slots) → slice_get (row e s).slots.tees t.0 ≡ Some y → branch_of half (tee_shape y) ≡ b → Fore (went_then h (told t b e s)) (row e s).slots ((row e s).caused ++ es) y

  -- which tee it is
  tee-next : (h : Went) (s : Slots) (u : TeeId) (operation : TeeOperation) (es : List Effect) (same : Bool) → same ≡ nat_eq t.0 u.0 → (o : Option tee.Slots) → slice_get s.tees u.0 ≡ o → Kept h s (OnTee u operation ∷ es)
      → Next h s (OnTee u operation) es
  unfolding row
  tee-next h s u operation es false apart None e k y now is =
      let before : slice_get s.tees t.0 ≡ Some y = sym (ap (λ (o : Option tee.Slots). slice_get (on_tee_at (tee_operation u operation) u s o).slots.tees t.0) e) ∙ now in
      other-row h s u operation es y y (sym apart) (before, is) now refl k
  tee-next h s u operation es false apart (Some z) e k y now is =
      let place : slice_get (on_tee_at (tee_operation u operation) u s (Some z)).slots.tees t.0 ≡ slice_get s.tees t.0 = tees_other s.tees t.0 u.0 _ (unequal_numbers t.0 u.0 (sym apart)) in
      let before : slice_get s.tees t.0 ≡ Some y = sym place ∙ (sym (ap (λ (o : Option tee.Slots). slice_get (on_tee_at (tee_operation u operation) u s o).slots.tees t.0) e) ∙ now) in
      other-row h s u operation es y y (sym apart) (before, is) now refl k
  tee-next h s u operation es true same None e k y now is =
      let it : u ≡ t = ap (λ (n : ℕ). record { 0 = n }) (sym (eq_numbers t.0 u.0 (sym same))) in
      let gone : slice_get s.tees t.0 ≡ None = subst (λ (v : TeeId). slice_get s.tees v.0 ≡ None) it e in
      let before : slice_get s.tees t.0 ≡ Some y = sym (ap (λ (o : Option tee.Slots). slice_get (on_tee_at (tee_operation u operation) u s o).slots.tees t.0) e) ∙ now in
      none_some y (sym gone ∙ before)
  tee-next h s u operation es true same (Some z) e k y now is =
      let it : u ≡ t = ap (λ (n : ℕ). record { 0 = n }) (sym (eq_numbers t.0 u.0 (sym same))) in
      subst (λ (v : TeeId). slice_get s.tees v.0 ≡ Some z → slice_get (on_tee_at (tee_operation v operation) v s (slice_get s.tees v.0)).slots.tees t.0 ≡ Some y → Kept h s (OnTee v operation ∷ es)
      → Fore (went_then h (told t b (OnTee v operation) s)) (on_tee_at (tee_operation v operation) v s (slice_get s.tees v.0)).slots ((on_tee_at (tee_operation v operation) v s (slice_get s.tees v.0)).caused ++ es) y) (sym it)
      (λ at now k. mine at now k) e now k
    where
      a : Acts
      a = record { slots = z; out = found s }

      mine : slice_get s.tees t.0 ≡ Some z → slice_get (on_tee_at (tee_operation t operation) t s (slice_get s.tees t.0)).slots.tees t.0 ≡ Some y → Kept h s (OnTee t operation ∷ es)
          → Fore (went_then h (told t b (OnTee t operation) s)) (on_tee_at (tee_operation t operation) t s (slice_get s.tees t.0)).slots ((on_tee_at (tee_operation t operation) t s (slice_get s.tees t.0)).caused ++ es) y
      mine at now k =
          let place : slice_get (on_tee_at (tee_operation t operation) t s (Some z)).slots.tees t.0 ≡ Some (tee_operation t operation a).slots = tees_same s.tees t.0 z (tee_operation t operation a).slots at in
          let moved : (tee_operation t operation a).slots ≡ y = some_tee (tee_operation t operation a).slots y (sym place ∙ (sym (ap (λ (o : Option tee.Slots). slice_get (on_tee_at (tee_operation t operation) t s o).slots.tees t.0) at) ∙ now)) in
          let kept = (tee-causes t operation a).same in
          let before : branch_of half (tee_shape z) ≡ b = branch half (subst (λ (w : tee.Slots). branch_of half (tee_shape w) ≡ b) (sym moved) is) kept.first kept.second in
          own-by h s operation es z y at before moved now (sym (ap (λ (o : Option tee.Slots). on_tee_at (tee_operation t operation) t s o) at)) k
        where
          branch : (g : Half) → branch_of g (tee_shape (tee_operation t operation a).slots) ≡ b → (tee_operation t operation a).slots.branch1 ≡ z.branch1 → (tee_operation t operation a).slots.branch2 ≡ z.branch2 → branch_of g (tee_shape z) ≡ b
          branch First i f g = sym f ∙ i
          branch Second i f g = sym g ∙ i

  other-next : (h : Went) (s : Slots) (e : Effect) (es : List Effect) → IsNoTee e → enq b e ≡ [] → Kept h s (e ∷ es) → Next h s e es
  other-next h s e es n none k y now is =
      let before : slice_get s.tees t.0 ≡ Some y = sym (ap (λ (xs : List tee.Slots). slice_get xs t.0) (row-tees e s n)) ∙ now in
      aside h s e es y y n (before, is) now refl none k

  enqueue-next : (h : Went) (s : Slots) (j : StreamId) (v : Value) (es : List Effect) (same : Bool) → is_same b j ≡ same → Kept h s (OnReadable j (Enqueue v) ∷ es) → Next h s (OnReadable j (Enqueue v)) es
  enqueue-next h s j v es false apart k = other-next h s (OnReadable j (Enqueue v)) es tt (rw apart refl) k
  enqueue-next h s j v es true same k =
      subst (λ (i : StreamId). Kept h s (OnReadable i (Enqueue v) ∷ es) → Next h s (OnReadable i (Enqueue v)) es) (same_id b j same)
      (λ k y now is.
      let before : slice_get s.tees t.0 ≡ Some y = sym (ap (λ (xs : List tee.Slots). slice_get xs t.0) (row-tees (OnReadable b (Enqueue v)) s tt)) ∙ now in
      enqueued h s v es y y (before, is) refl k) k

  row-next : (h : Went) (s : Slots) (e : Effect) (es : List Effect) → Kept h s (e ∷ es) → Next h s e es
  row-next h s (OnTee u operation) es k = tee-next h s u operation es (nat_eq t.0 u.0) refl (slice_get s.tees u.0) refl k
  row-next h s (OnReadable j (Enqueue v)) es k = enqueue-next h s j v es (is_same b j) refl k
  row-next h s (OnReadable j operation) es k = other-next h s (OnReadable j operation) es tt refl k
  row-next h s e es k = other-next h s e es tt refl k

  -- the tee isn't there, or the branch

  tees-shapes : (xs ys : List tee.Slots) (n : ℕ) → map tee_shape xs ≡ map tee_shape ys → slice_get xs n ≡ None → slice_get ys n ≡ None
  tees-shapes [] [] n e h = refl
  tees-shapes [] (y ∷ ys) n e h = cc
  tees-shapes (x ∷ xs) [] n e h = refl
  tees-shapes (x ∷ xs) (y ∷ ys) zero e h = cc
  tees-shapes (x ∷ xs) (y ∷ ys) (suc n) e h = tees-shapes xs ys n (let t : map tee_shape xs ≡ map tee_shape ys = cc in t) h

  streams-shapes : (xs ys : List Stream) (n : ℕ) → map stream_shape xs ≡ map stream_shape ys → slice_get xs n ≡ None → slice_get ys n ≡ None
  streams-shapes [] [] n e h = refl
  streams-shapes [] (y ∷ ys) n e h = cc
  streams-shapes (x ∷ xs) [] n e h = refl
  streams-shapes (x ∷ xs) (y ∷ ys) zero e h = cc
  streams-shapes (x ∷ xs) (y ∷ ys) (suc n) e h = streams-shapes xs ys n (let t : map stream_shape xs ≡ map stream_shape ys = cc in t) h

  missing-told : (e : Effect) (s : Slots) → slice_get s.streams b.0 ≡ None → (effect_flow b e s).entered ≡ []
  missing-told (OnReadable j (Enqueue v)) s none = by (is_same b j) refl
    where
      by : (same : Bool) → is_same b j ≡ same → (effect_flow b (OnReadable j (Enqueue v)) s).entered ≡ []
      by false e = rw e refl
      by true e =
          let at : slice_get s.streams j.0 ≡ None = subst (λ (i : StreamId). slice_get s.streams i.0 ≡ None) (same_id b j e) none in
          rw (e, ap as_readable at) refl
  missing-told (OnReadable j operation) s none = told-entered t half b (OnReadable j operation) s refl
  missing-told e s none = told-entered t half b e s (grind (arith, none))

  row-kept : (h : Went) (s : Slots) (e : Effect) (es : List Effect) → Kept h s (e ∷ es) → Kept (went_then h (told t b e s)) (row e s).slots ((row e s).caused ++ es)
  row-kept h s e es k = record {
    beside = law.goes.row s e es k.beside;
    tied = tied-stays.row s e es k.tied;
    one = (one-stays t).row s e es k.one;
    absent = λ none. let before = tees-shapes (row e s).slots.tees s.tees t.0 (row-tee_shapes e s) none in rw (k.absent before, told-none t half b e s before) refl;
    missing = λ none. let before = streams-shapes (row e s).slots.streams s.streams b.0 (row-stream_shapes e s) none in rw (k.missing before, missing-told e s before) refl;
    fore = row-next h s e es k;
  }

  -- calls

  tee-stays : (c : Call) (s : Slots) (x : tee.Slots) → slice_get s.tees t.0 ≡ Some x → slice_get (begin c s).done.slots.tees t.0 ≡ Some x
  tee-stays c s x at = begin-makes (λ z. slice_get z.tees t.0 ≡ Some x) (record {
    promise = λ z k. k;
    locks = λ z ls k. k;
    hosts = λ z hs k. k;
    pipe = λ z source dest prevent signal promise k. k;
    signal = λ z k. k;
    transform = λ z kind i j change k. k;
    tee = λ z source first second cancel k. get-stays z.tees _ t.0 x k;
    port = λ z side stream backpressure k. k;
    readable = λ z owner mark size k. k;
    bytes = λ z mark auto k. k;
    byob_requests = λ z requests k. k;
    writable = λ z owner mark size k. k;
  }) c s at

  stream-stays : (c : Call) (s : Slots) (w : Stream) → slice_get s.streams b.0 ≡ Some w → slice_get (begin c s).done.slots.streams b.0 ≡ Some w
  stream-stays c s w at = begin-makes (λ z. slice_get z.streams b.0 ≡ Some w) (record {
    promise = λ z k. k;
    locks = λ z ls k. k;
    hosts = λ z hs k. k;
    pipe = λ z source dest prevent signal promise k. k;
    signal = λ z k. k;
    transform = λ z kind i j change k. k;
    tee = λ z source first second cancel k. k;
    port = λ z side stream backpressure k. k;
    readable = λ z owner mark size k. get-stays z.streams _ b.0 w k;
    bytes = λ z mark auto k. get-stays z.streams _ b.0 w k;
    byob_requests = λ z requests k. k;
    writable = λ z owner mark size k. get-stays z.streams _ b.0 w k;
  }) c s at

  none_stream : {A : Type 0} (w : Stream) → ◌≡◌ {A = Option Stream} None (Some w) → A
  none_stream w e = cc

  past : (xs : List Stream) (n : ℕ) → length xs ≤ n → slice_get xs n ≡ None
  past [] n l = refl
  past (x ∷ xs) zero l = absurd (omega (arith, l))
  past (x ∷ xs) (suc n) l = past xs n (omega (arith, l))

  abbrev IsNew : Slots → Begun → Type 0
  IsNew s z = (x : tee.Slots) → slice_get z.done.slots.tees t.0 ≡ Some x → branch_of half (tee_shape x) ≡ b → (slice_get s.streams b.0 ≡ None) × Each (NoEnq b) z.done.caused

  module _ (s : Slots) (none : slice_get s.tees t.0 ≡ None) where
    gone : {A : Type 0} (x : tee.Slots) → slice_get s.tees t.0 ≡ Some x → A
    gone x e = none_some x (sym none ∙ e)

    tee-new : (i : StreamId) → IsNew s (make_tee i (record { 0 = length s.streams }) (record { 0 = length s.streams + 1 }) s)
    tee-new i x now is =
        let y : tee.Slots = tee.set_up i (record { 0 = length s.streams }) (record { 0 = length s.streams + 1 }) (next_id (fresh s.promises)) in
        let same : y ≡ x = ⊎_elim (λ old. gone x old) (λ new. new.1) (get-either s.tees y t.0 x now) in
        (fresh-branch half (subst (λ (z : tee.Slots). branch_of half (tee_shape z) ≡ b) (sym same) is), (refl, (refl, (refl, (refl, tt)))))
      where
        fresh-branch : (g : Half) → branch_of g (tee_shape (tee.set_up i (record { 0 = length s.streams }) (record { 0 = length s.streams + 1 }) (next_id (fresh s.promises)))) ≡ b → slice_get s.streams b.0 ≡ None
        fresh-branch First e = rw (← e) (past s.streams (length s.streams) (omega arith))
        fresh-branch Second e = rw (← e) (past s.streams (length s.streams + 1) (omega arith))

    port-tees : (s : Slots) (side : Side) → (add_port (record { 0 = length s.streams }) s side).tees ≡ s.tees
    port-tees s ReadableSide = refl
    port-tees s WritableSide = refl

    call-new : (c : Call) → IsNew s (begin c s)
    call-new c = each_call (IsNew s) c s (record {
      unchanged = λ reply x e. gone x e;
      rejected = λ fault x e. gone x e;
      make_readable = λ mark size start x e. gone x e;
      make_bytes = λ mark auto start x e. gone x e;
      make_writable = λ mark size start x e. gone x e;
      make_transform = λ kind m n start x e. gone x e;
      make_tee = λ i c is free untied. tee-new i;
      get_reader = λ i f x e. gone x e;
      get_byob = λ i is f x e. gone x e;
      get_writer = λ i f x e. gone x e;
      release_reader = λ l closed i f x e. gone x e;
      release_byob = λ l closed i f x e. gone x e;
      release_writer = λ l i w f g x e. gone x e;
      cancel = λ reason i x e. gone x e;
      read = λ l i closed f g x e. gone x e;
      read_into = λ l i closed room element least f g x e. gone x e;
      write = λ l v i f x e. gone x e;
      close = λ i x e. gone x e;
      abort = λ reason i f x e. gone x e;
      enqueue = λ i v f o can x e. gone x e;
      enqueue_half = λ i u v f o can x e. gone x e;
      enqueue_bytes = λ i bs f is some can x e. gone x e;
      finish = λ i x e. gone x e;
      finish_bytes = λ i f is can x e. gone x e;
      make_request = λ i reply is x e. gone x e;
      respond = λ q i bs f is can x e. gone x e;
      fail_readable = λ i reason x e. gone x e;
      fail_writable = λ i reason x e. gone x e;
      fail_half = λ u reason x e. gone x e;
      terminate = λ u x e. gone x e;
      pipe = λ source dest prevent signal f g l m x e. gone x e;
      make_signal = λ x e. gone x e;
      open_end = λ side x e. gone x (subst (λ (xs : List tee.Slots). slice_get xs t.0 ≡ Some x) (port-tees s side) e);
      send_readable = λ i there free x e. gone x e;
      send_writable = λ i there free x e. gone x e;
      deliver = λ p m f is x e. gone x e;
      trigger = λ a reason x e. gone x e;
      settle = λ h answer p f x e. gone x e;
    })

  -- where nothing has happened between, and no enqueue is caused
  still-front : (h : Went) (s z : Slots) (cs : List Effect) (x : tee.Slots) → readable_at b z ≡ readable_at b s → Each (NoEnq b) cs → Front lost t half b h s [] x → Front lost t half b h z cs x
  still-front h s z cs x same calm (Live k) = Live (rw (none-pend b cs calm) k)
  still-front h s z cs x same calm (Shut p c m) = Shut p (rw same c) (law.more x cs m)
  still-front h s z cs x same calm (Left p r n) = Left p r (none-pend b cs calm)

  still-fore : (h : Went) (s z : Slots) (cs : List Effect) (x : tee.Slots) → readable_at b z ≡ readable_at b s → Each (NoEnq b) cs → Fore h s [] x → Fore h z cs x
  still-fore h s z cs x same calm f = record { followed = subst (λ (es : List Effect). Followed t b es) (append-nil cs) (followed-calm t b cs [] calm tt); front = still-front h s z cs x same calm f.front }

  call-fore : (h : Went) (s : Slots) (c : Call) → Kept h s [] → (o : Option tee.Slots) → slice_get s.tees t.0 ≡ o → (x : tee.Slots) → slice_get (begin c s).done.slots.tees t.0 ≡ Some x → branch_of half (tee_shape x) ≡ b
      → Fore h (begin c s).done.slots (begin c s).done.caused x
  call-fore h s c k None at x now is =
      let n = call-new s at c x now is in
      let z = none-pend b (begin c s).done.caused n.1 in
      let l : h.entered ++ pend b (begin c s).done.caused ≡ h.handed = rw (k.absent at, k.missing n.0, z) refl in
      record { followed = subst (λ (es : List Effect). Followed t b es) (append-nil (begin c s).done.caused) (followed-calm t b (begin c s).done.caused [] n.1 tt); front = Live l }
  call-fore h s c k (Some y) at x now is =
      let same : y ≡ x = some_tee y x (sym (tee-stays c s y at) ∙ now) in
      let mine : branch_of half (tee_shape y) ≡ b = subst (λ (z : tee.Slots). branch_of half (tee_shape z) ≡ b) (sym same) is in
      let calm = call-none t half b s k.tied y at mine c in
      subst (λ (z : tee.Slots). Fore h (begin c s).done.slots (begin c s).done.caused z) same
      (still-fore h s (begin c s).done.slots (begin c s).done.caused y (stays (slice_get s.streams b.0) refl) calm (k.fore y at mine))
    where
      shaped : slice_get (stream_shapes s) b.0 ≡ Some (ReadableOf (BranchOf t half))
      shaped = shape t half b s k.tied y at (subst (λ (z : tee.Slots). branch_of half (tee_shape z) ≡ b) (sym (some_tee y x (sym (tee-stays c s y at) ∙ now))) is)

      shape_past : (xs : List Stream) (n : ℕ) (w : StreamShape) → slice_get (map stream_shape xs) n ≡ Some w → slice_get xs n ≡ None → ⊥
      shape_past [] n w e f = cc
      shape_past (z ∷ xs) zero w e f = cc
      shape_past (z ∷ xs) (suc n) w e f = shape_past xs n w e f

      stays : (o : Option Stream) → slice_get s.streams b.0 ≡ o → readable_at b (begin c s).done.slots ≡ readable_at b s
      stays None e = absurd (shape_past s.streams b.0 (ReadableOf (BranchOf t half)) shaped e)
      stays (Some w) e = ap as_readable (stream-stays c s w e ∙ sym e)

  call-kept : (h : Went) (s : Slots) (c : Call) → Kept h s [] → Kept h (begin c s).done.slots (begin c s).done.caused
  call-kept h s c k = record {
    beside = law.goes.call s c k.beside;
    tied = tied-stays.call s c k.tied;
    one = (one-stays t).call s c k.one;
    absent = λ none. k.absent (no-tee none (slice_get s.tees t.0) refl);
    missing = λ none. k.missing (no-stream none (slice_get s.streams b.0) refl);
    fore = λ x now is. call-fore h s c k (slice_get s.tees t.0) refl x now is;
  }
    where
      no-tee : slice_get (begin c s).done.slots.tees t.0 ≡ None → (o : Option tee.Slots) → slice_get s.tees t.0 ≡ o → slice_get s.tees t.0 ≡ None
      no-tee none None e = e
      no-tee none (Some y) e = none_some y (sym none ∙ tee-stays c s y e)

      no-stream : slice_get (begin c s).done.slots.streams b.0 ≡ None → (o : Option Stream) → slice_get s.streams b.0 ≡ o → slice_get s.streams b.0 ≡ None
      no-stream none None e = e
      no-stream none (Some w) e = none_stream w (sym none ∙ stream-stays c s w e)

  -- jobs, and what comes between effects

  kept-goes : GoesUntold went_then (told t b) Kept
  kept-goes = record {
    row = λ h s e es k. row-kept h s e es k;
    call = λ h s c k. call-kept h s c k;
    job = λ h s job e k. record {
      beside = law.goes.job s job e k.beside;
      tied = tied-stays.job s job e k.tied;
      one = (one-stays t).job s job e k.one;
      absent = k.absent;
      missing = k.missing;
      fore = λ x now is. still-fore h s (with_promises (after_next_job s.promises) s) (job_effects job) x refl (job-none b job) (k.fore x now is);
    };
    answered = λ h s p k. record { beside = law.goes.answered s p k.beside; tied = k.tied; one = k.one; absent = k.absent; missing = k.missing; fore = λ x now is. still-fore h s _ [] x refl tt (k.fore x now is) };
    older = λ h s k. record { beside = law.goes.older s k.beside; tied = k.tied; one = k.one; absent = k.absent; missing = k.missing; fore = λ x now is. still-fore h s _ [] x refl tt (k.fore x now is) };
  }

  kept-rests : RestsUntold Kept
  kept-rests = record { heard = λ h s k. record { beside = law.rests s k.beside; tied = k.tied; one = k.one; absent = k.absent; missing = k.missing; fore = λ x now is. still-fore h s _ [] x refl tt (k.fore x now is) } }

  kept-empty : Kept none_went empty []
  kept-empty = record { beside = law.begins; tied = tied-empty; one = one-empty t; absent = λ e. refl; missing = λ e. refl; fore = λ x e. cc }

  went-history : IsHistory none_went went_then
  went-history = record {
    left = λ h. refl;
    right = λ h k. record { handed = append-nil h.handed k; entered = append-nil h.entered k };
    assoc = λ f g h k. record { handed = append_assoc f.handed g.handed h.handed k; entered = append_assoc f.entered g.entered h.entered k };
  }

  abbrev pub run_went : List Entry → Slots → Went
  run_went entries s = over none_went went_then (λ z x. in_step none_went went_then (told t b) z x) entries s

  run-kept : (entries : List Entry) → Kept (run_went entries empty) (run entries empty) []
  run-kept entries = run-holds none_went went_then went-history (told t b) Kept kept-goes kept-rests entries empty kept-empty

  pub run-front : (entries : List Entry) (x : tee.Slots) → slice_get (run entries empty).tees t.0 ≡ Some x → branch_of half (tee_shape x) ≡ b → Front lost t half b (run_went entries empty) (run entries empty) [] x
  run-front entries x at is = ((run-kept entries).fore x at is).front
