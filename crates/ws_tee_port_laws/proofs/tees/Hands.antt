-- What entered a branch of a tee, and what was handed to the branches, at each moment of a run.
use Rattle.std.proofs.Common.{◌≡◌, ◌≢◌, ℕ, zero, suc, Bool, true, false, not, ◌&&◌, if◌then◌else◌, is_some, List, [], ◌∷◌, ◌++◌, Option, Some, None, Ok, Err, slice_get, slice_set, refl, sym, ap, ◌∙◌, append_assoc, append-nil}
use Rattle.ws_value.specs.declared.ids.{PromiseId.{PromiseId}, StreamId.{StreamId}, TeeId.{TeeId}}
use Rattle.ws_value.specs.declared.value.{Plain.{Plain}, Plain.TheVariants.{Pair}, Value.{Value}}
use Rattle.ws_steps.specs.declared.effects.{Effect.{Effect}, Effect.TheVariants.{Readable as OnReadable, Byte, Writable as OnWritable, Tee as OnTee}}
use Rattle.ws_steps.specs.declared.readable.ReadableOperation.{ReadableOperation}
use Rattle.ws_steps.specs.declared.readable.ReadableOperation.TheVariants.{Enqueue, Cancel, Close}
use Rattle.ws_steps.specs.declared.tee.{Half.{Half}, Half.TheVariants.{First, Second}, TeeOperation.{TeeOperation}, TeePhase.{TeePhase}, TeePhase.TheVariants.{Resting, Reading, Over}}
use Rattle.ws_steps.specs.declared.tee.TeeOperation.TheVariants as ops
use Rattle.ws_steps.specs.Histories.{is_same}
use Rattle.ws_steps.specs.Operations.{readable_operation, byte_readable_operation, byte_operation, writable_operation, tee_operation}
use Rattle.ws_steps.specs.Readable.{can_close_or_enqueue}
use Rattle.ws_steps.specs.ReadableHistory.{effect_flow}
use Rattle.ws_steps.specs.Slots.{Slots, Stream, ReadableStream, Done, nothing, readable_at, has_readable, has_byte, as_readable, put_readable, on_readable, on_byte}
use Rattle.ws_steps.specs.Tee as tee
use Rattle.ws_steps.specs.Tee.{Acts, causing, with_slots, reason_of, with_reason, is_wanted, on_branches, unless_cancelled, fulfil_cancel, pull_in, pull_branch, keep_chunk, close_in, close_branches, source_closed, source_errored, hand_held, hand_chunk, rested, again, handed, resolve_cancel, cancel_source, if_both, cancel_by, cancel_branch, reader_settled}
use Rattle.ws_steps.specs.Promises.{next_id, fresh}
use Rattle.ws_steps.specs.Turns.{row, on_source}
use Rattle.ws_laws.proofs.Lists.{Each}
use Rattle.ws_laws.proofs.Apart.{row-streams}
use Rattle.ws_laws.proofs.Tables.{either, is_same-refl, same_id, readable_acts, on_readable-same, on_readable-other, on_byte-look, on_writable-look}
use Rattle.ws_tee_port_laws.proofs.tees.Entering.{shut-stays}
use Rattle.ws_tee_port_laws.proofs.tees.Fronts.{enq, pend, NoEnq, pend-append, calm-pend}
use Rattle.ws_tee_port_laws.proofs.tees.Handed.{handed_by}

-- what was handed to the branches of a tee, and what entered one of them
pub record Went : Type 0 where
  pub handed : List Value
  pub entered : List Value

abbrev pub none_went : Went
none_went = record { handed = []; entered = [] }

abbrev pub went_then : Went → Went → Went
went_then f g = record { handed = f.handed ++ g.handed; entered = f.entered ++ g.entered }

abbrev pub told : TeeId → StreamId → Effect → Slots → Went
told t b e s = record { handed = handed_by t e s; entered = (effect_flow b e s).entered }

abbrev pub IsPrefix : List Value → List Value → Type 0
IsPrefix xs ys = (rest : List Value) × (xs ++ rest ≡ ys)

-- All that was handed has entered the branch, or is about to; or a first part has, and the branch takes no more, which it is `lost` for, or was
-- cancelled and nothing is about to enter
pub data Front (lost : tee.Slots → List Effect → Bool) (t : TeeId) (half : Half) (b : StreamId) (h : Went) (s : Slots) (es : List Effect) (x : tee.Slots) : Type 0 where
  Live : h.entered ++ pend b es ≡ h.handed → Front lost t half b h s es x
  Shut : IsPrefix h.entered h.handed → can_close_or_enqueue (readable_at b s) ≡ false → lost x es ≡ true → Front lost t half b h s es x
  Left : IsPrefix h.entered h.handed → is_some (reason_of half x) ≡ true → pend b es ≡ [] → Front lost t half b h s es x

prefix-right : (xs ys vs : List Value) → IsPrefix xs ys → IsPrefix (xs ++ []) (ys ++ vs)
prefix-right xs ys vs p = (p.0 ++ vs, ap (λ zs. zs ++ (p.0 ++ vs)) (append-nil xs) ∙ (sym (append_assoc xs p.0 vs) ∙ ap (λ zs. zs ++ vs) p.1))

module _ (lost : tee.Slots → List Effect → Bool) (t : TeeId) (half : Half) (b : StreamId) where
  -- an effect that hands nothing on and enqueues nothing into the branch, nor causes that
  pub aside-front : (h g : Went) (s z : Slots) (e : Effect) (es cs : List Effect) (x y : tee.Slots) → g.handed ≡ [] → g.entered ≡ [] → enq b e ≡ [] → Each (NoEnq b) cs
      → (can_close_or_enqueue (readable_at b s) ≡ false → can_close_or_enqueue (readable_at b z) ≡ false) → (is_some (reason_of half x) ≡ true → is_some (reason_of half y) ≡ true)
      → (lost x (e ∷ es) ≡ true → lost y (cs ++ es) ≡ true) → Front lost t half b h s (e ∷ es) x → Front lost t half b (went_then h g) z (cs ++ es) y
  aside-front h g s z e es cs x y hn en none calm shut reason l (Live k) =
      Live (rw (hn, en, calm-pend b cs es calm, append-nil h.entered, append-nil h.handed) (sym (ap (λ vs. h.entered ++ (vs ++ pend b es)) none) ∙ k))
  aside-front h g s z e es cs x y hn en none calm shut reason l (Shut p c m) = Shut (rw (hn, en) (prefix-right h.entered h.handed [] p)) (shut c) (l m)
  aside-front h g s z e es cs x y hn en none calm shut reason l (Left p r n) =
      Left (rw (hn, en) (prefix-right h.entered h.handed [] p)) (reason r) (calm-pend b cs es calm ∙ (sym (ap (λ vs. vs ++ pend b es) none) ∙ n))

  -- an enqueue into the branch
  pub enqueue-front : (h : Went) (s z : Slots) (v : Value) (es cs : List Effect) (x : tee.Slots) (can : Bool) → can_close_or_enqueue (readable_at b s) ≡ can → Each (NoEnq b) cs
      → (can_close_or_enqueue (readable_at b s) ≡ false → can_close_or_enqueue (readable_at b z) ≡ false) → (can_close_or_enqueue (readable_at b s) ≡ false → lost x (cs ++ es) ≡ true)
      → Front lost t half b h s (OnReadable b (Enqueue v) ∷ es) x → Front lost t half b (went_then h (record { handed = []; entered = if can then v ∷ [] else [] })) z (cs ++ es) x
  enqueue-front h s z v es cs x true e calm shut l (Live k) =
      Live (rw (calm-pend b cs es calm, append-nil h.handed) (append_assoc h.entered (v ∷ []) (pend b es) ∙ (ap (λ vs. h.entered ++ (vs ++ pend b es)) (sym own) ∙ k)))
    where
      own : enq b (OnReadable b (Enqueue v)) ≡ v ∷ []
      own = rw (is_same-refl b) refl
  enqueue-front h s z v es cs x false e calm shut l (Live k) = Shut (enq b (OnReadable b (Enqueue v)) ++ pend b es, rw (append-nil h.entered, append-nil h.handed) k) (shut e) (l e)
  enqueue-front h s z v es cs x true e calm shut l (Shut p c m) = let wrong : true ≡ false = sym e ∙ c in cc
  enqueue-front h s z v es cs x false e calm shut l (Shut p c m) = Shut (prefix-right h.entered h.handed [] p) (shut c) (l c)
  enqueue-front h s z v es cs x can e calm shut l (Left p r n) =
      let own : enq b (OnReadable b (Enqueue v)) ≡ v ∷ [] = rw (is_same-refl b) refl in let wrong : v ∷ pend b es ≡ [] = sym (ap (λ vs. vs ++ pend b es) own) ∙ n in cc

  -- a chunk is handed to the branches, which are another than each other
  pub hand-front : (h : Went) (s z : Slots) (v : Value) (es cs : List Effect) (x y : tee.Slots) (reason : Option Plain) → reason_of half x ≡ reason → reason_of half y ≡ reason → pend b es ≡ []
      → pend b cs ≡ (if is_some reason then [] else v ∷ []) → (can_close_or_enqueue (readable_at b s) ≡ false → can_close_or_enqueue (readable_at b z) ≡ false)
      → (lost x (OnTee t ops.HandChunk ∷ es) ≡ true → lost y (cs ++ es) ≡ true) → Front lost t half b h s (OnTee t ops.HandChunk ∷ es) x → Front lost t half b (went_then h (record { handed = v ∷ []; entered = [] })) z (cs ++ es) y
  hand-front h s z v es cs x y (Some r) e f none caused shut l (Live k) =
      Left (prefix-right h.entered h.handed (v ∷ []) ([], ap (λ vs. h.entered ++ vs) (sym none) ∙ k)) (ap (λ (o : Option Plain). is_some o) f) (pend-append b cs es ∙ rw (caused, none) refl)
  hand-front h s z v es cs x y None e f none caused shut l (Live k) =
      Live (ap (λ vs. (h.entered ++ []) ++ vs) (pend-append b cs es ∙ rw (caused, none) refl) ∙ (ap (λ vs. vs ++ v ∷ []) (append-nil h.entered ∙ (sym (append-nil h.entered) ∙ (ap (λ vs. h.entered ++ vs) (sym none) ∙ k)))))
  hand-front h s z v es cs x y reason e f none caused shut l (Shut p c m) = Shut (prefix-right h.entered h.handed (v ∷ []) p) (shut c) (l m)
  hand-front h s z v es cs x y None e f none caused shut l (Left p r n) = let wrong : false ≡ true = sym (ap (λ (o : Option Plain). is_some o) e) ∙ r in cc
  hand-front h s z v es cs x y (Some q) e f none caused shut l (Left p r n) = Left (prefix-right h.entered h.handed (v ∷ []) p) (ap (λ (o : Option Plain). is_some o) f) (pend-append b cs es ∙ rw (caused, none) refl)

-- a branch that takes no more chunks takes none after an effect

module _ (b : StreamId) where
  abbrev IsShut : Slots → Type 0
  IsShut s = can_close_or_enqueue (readable_at b s) ≡ false

  default-shut : (j : StreamId) (operation : ReadableOperation) (s : Slots) (same : Bool) → same ≡ is_same b j → IsShut s → IsShut (on_readable (readable_operation j operation) j s).slots
  default-shut j operation s false e n = rw (ap as_readable (on_readable-other (readable_operation j operation) j s b (sym e))) n
  default-shut j operation s true e n =
      either (λ (d : Done). IsShut d.slots) (has_readable j s) (put_readable j s (readable_operation j operation (readable_acts j s))) (nothing s)
      (λ h.
      let is : b ≡ j = same_id b j (sym e) in
      let before : can_close_or_enqueue (readable_at j s) ≡ false = rw is at n in
      let place : slice_get (put_readable j s (readable_operation j operation (readable_acts j s))).slots.streams j.0 ≡ Some (ReadableStream (readable_operation j operation (readable_acts j s)).slots) = rw h at (on_readable-same (readable_operation j operation) j s h) in
      rw (is, ap as_readable place) (shut-stays j operation (readable_acts j s) before))
      (λ h. n)

  source-shut : (j : StreamId) (operation : ReadableOperation) (s : Slots) → IsShut s → IsShut (on_source operation j s).slots
  source-shut j operation s n =
      either (λ (d : Done). IsShut d.slots) (has_byte j s) (on_byte (byte_readable_operation j operation) j s) (on_readable (readable_operation j operation) j s)
      (λ h. rw (on_byte-look as_readable (λ x y. refl) (byte_readable_operation j operation) j s b (is_same b j) refl) n)
      (λ h. default-shut j operation s (is_same b j) refl n)

  pub row-shut : (e : Effect) (s : Slots) → IsShut s → IsShut (row e s).slots
  unfolding row
  row-shut (OnReadable j operation) s n = source-shut j operation s n
  row-shut (Byte j operation) s n = rw (on_byte-look as_readable (λ x y. refl) (byte_operation j operation) j s b (is_same b j) refl) n
  row-shut (OnWritable j operation) s n = rw (on_writable-look as_readable (λ x y. refl) (writable_operation j operation) j s b (is_same b j) refl) n
  row-shut e s n = rw (ap (λ (xs : List Stream). as_readable (slice_get xs b.0)) (row-streams e s tt)) n

-- the tee's own operations

pub some_tee : (x y : tee.Slots) → ◌≡◌ {A = Option tee.Slots} (Some x) (Some y) → x ≡ y
some_tee x y e = cc

pub none_some : {A : Type 0} (x : tee.Slots) → ◌≡◌ {A = Option tee.Slots} None (Some x) → A
none_some x e = cc

pub tees_same : (xs : List tee.Slots) (i : ℕ) (x y : tee.Slots) → slice_get xs i ≡ Some x → slice_get (slice_set xs i y) i ≡ Some y
tees_same [] i x y e = cc
tees_same (z ∷ xs) zero x y e = refl
tees_same (z ∷ xs) (suc i) x y e = tees_same xs i x y e

pub tees_other : (xs : List tee.Slots) (i j : ℕ) (y : tee.Slots) → i ≢ j → slice_get (slice_set xs j y) i ≡ slice_get xs i
tees_other [] i j y n = refl
tees_other (z ∷ xs) zero zero y n = absurd (n refl)
tees_other (z ∷ xs) zero (suc j) y n = refl
tees_other (z ∷ xs) (suc i) zero y n = refl
tees_other (z ∷ xs) (suc i) (suc j) y n = tees_other xs i j y (λ e. n (ap suc e))

-- a reason stays
module _ (t : TeeId) (half : Half) where
  abbrev Kept : Acts → Acts → Type 0
  Kept a z = is_some (reason_of half a.slots) ≡ true → is_some (reason_of half z.slots) ≡ true

  fulfil-reason : (a : Acts) → Kept a (fulfil_cancel a)
  fulfil-reason a r = either (λ (z : Acts). is_some (reason_of half z.slots) ≡ true) (is_wanted a.slots && not a.slots.answered) _ a (λ e. same half r) (λ e. r)
    where
      same : (g : Half) → is_some (reason_of g a.slots) ≡ true → is_some (reason_of g (record a.slots { answered = true })) ≡ true
      same First r = r
      same Second r = r

  phased : (g : Half) (x : tee.Slots) (p : TeePhase) → reason_of g (record x { phase = p }) ≡ reason_of g x
  phased First x p = refl
  phased Second x p = refl

  pull-reason : (a : Acts) (phase : TeePhase) → Kept a (pull_in t a phase)
  pull-reason a Resting r = rw (phased half a.slots Reading) r
  pull-reason a Reading r = by half r
    where
      by : (g : Half) → is_some (reason_of g a.slots) ≡ true → is_some (reason_of g (record a.slots { read_again = true })) ≡ true
      by First r = r
      by Second r = r
  pull-reason a Over r = r

  closes-reason : (a : Acts) → Kept a (close_branches a)
  closes-reason a r = fulfil-reason (causing (on_branches Close a.slots) (with_slots (record a.slots { phase = Over }) a)) (rw (phased half a.slots Over) r)

  close-reason : (a : Acts) (phase : TeePhase) → Kept a (close_in a phase)
  close-reason a Resting = closes-reason a
  close-reason a Reading = closes-reason a
  close-reason a Over = λ r. r

  again-reason : (a : Acts) (asked : Bool) → Kept a (again t a asked)
  unfolding pull_branch
  again-reason a true = pull-reason a a.slots.phase
  again-reason a false = λ r. r

  resolve-reason : (p : PromiseId) (a : Acts) → Kept a (resolve_cancel p a)
  resolve-reason p a r = either (λ (z : Acts). is_some (reason_of half z.slots) ≡ true) a.slots.answered a _ (λ e. r) (λ e. by half r)
    where
      by : (g : Half) → is_some (reason_of g a.slots) ≡ true → is_some (reason_of g (record a.slots { answered = true })) ≡ true
      by First r = r
      by Second r = r

  both-reason : (a : Acts) → Kept a (if_both t a)
  both-reason a r =
      either (λ (z : Acts). is_some (reason_of half z.slots) ≡ true) (is_wanted a.slots) a (cancel_source t a) (λ e. r)
      (λ e.
      resolve-reason (next_id a.out.promises)
      (causing (OnReadable a.slots.source (Cancel (Pair t) (next_id a.out.promises)) ∷ []) (record a { out = record a.out { promises = fresh a.out.promises } })) r)

  with-reason : (g k : Half) (v : Plain) (x : tee.Slots) → is_some (reason_of g x) ≡ true → is_some (reason_of g (with_reason k v x)) ≡ true
  with-reason First First v x r = refl
  with-reason First Second v x r = r
  with-reason Second First v x r = r
  with-reason Second Second v x r = refl

  cancel-reason : (k : Half) (v : Plain) (a : Acts) (old : Option Plain) → Kept a (cancel_by t k v a old)
  cancel-reason k v a (Some old) r = r
  cancel-reason k v a None r = both-reason (with_slots (with_reason k v a.slots) a) (with-reason half k v a.slots r)

  hand-reason : (a : Acts) (held : Option Value) → reason_of half (hand_held t a held).slots ≡ reason_of half a.slots
  hand-reason a None = refl
  hand-reason a (Some v) = by half
    where
      by : (g : Half) → reason_of g (record a.slots { held = None; read_again = false }) ≡ reason_of g a.slots
      by First = refl
      by Second = refl

  pub reason-stays : (operation : TeeOperation) (a : Acts) → Kept a (tee_operation t operation a)
  unfolding pull_branch keep_chunk source_closed source_errored hand_chunk handed cancel_branch reader_settled
  reason-stays ops.PullBranch a r = pull-reason a a.slots.phase r
  reason-stays (ops.KeepChunk v) a r = by half r
    where
      by : (g : Half) → is_some (reason_of g a.slots) ≡ true → is_some (reason_of g (record a.slots { held = Some v })) ≡ true
      by First r = r
      by Second r = r
  reason-stays ops.SourceClosed a r = close-reason a a.slots.phase r
  reason-stays ops.SourceErrored a r = rw (phased half a.slots Over) r
  reason-stays ops.HandChunk a r = rw (hand-reason a a.slots.held) r
  reason-stays ops.Handed a r = again-reason (with_slots (record a.slots { phase = rested a.slots.phase }) a) a.slots.read_again (rw (phased half a.slots (rested a.slots.phase)) r)
  reason-stays (ops.CancelBranch k v u) a r = cancel-reason k v a (reason_of k a.slots) r
  reason-stays (ops.ReaderSettled (Ok v)) a r = r
  reason-stays (ops.ReaderSettled (Err v)) a r = fulfil-reason _ r
