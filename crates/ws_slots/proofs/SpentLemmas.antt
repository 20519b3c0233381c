-- Which promises have settled, take a place and aren't watched.
use Rattle.std.proofs.Common.{◌≡◌, ◌∙◌, ℕ, ◌+◌, ◌<◌, ◌≤◌, Bool, true, false, List, Option, Some, None, inl, inr, refl, sym, ap, arith}
use Rattle.std.proofs.lemmas.Bool.{cases_eq, cases_lt}
use Rattle.std.proofs.lemmas.Option.{slice_get_within}
use Rattle.std.specs.Prelude.{IsSome, slice_get, slice_set}
use Rattle.ws_value.specs.declared.value.Outcome.{Outcome}
use Rattle.ws_value.specs.declared.value.Outcome.TheVariants.{Pending, Fulfilled, Given, Finished, Rejected}
use Rattle.ws_steps.specs.Promises.{is_pending}
use Rattle.ws_alike.specs.Alike.{is_undefined}
use Rattle.ws_slots.specs.Slot.{Slot}
use Rattle.ws_slots.specs.declared.slots.Open.{Open}
use Rattle.ws_slots.specs.declared.slots.Settled.{Settled}
use Rattle.ws_slots.specs.Counts.{one_where_kept}
use Rattle.ws_slots.specs.Words.{Apart, IsLooseAt, IsSlotAt, NonePlaced, NoneSpent, ended_slot, is_loose_slot, is_pending_slot, items_from, settled_slot, slot_in, slot_of}
use Rattle.ws_places.specs.Seen.{value_in, without}
use Rattle.ws_places.proofs.ValueLemmas.{value-without, value-without_other}
use Rattle.ws_slots.proofs.ItemLemmas.{get-shown, items-set, length-shown, past-shown, same-ended, same-settled, same-slot}

-- one that has settled gives up its place
pub let-go : (n p : ℕ) (os : List (ℕ × Open)) (ss : List (ℕ × Settled)) (xs : List (Option Slot)) → items_from 0 n os ss ≡ xs → p < n → value_in p os ≡ None → items_from 0 n os (without p ss) ≡ slice_set xs p (Some (ended_slot None))
let-go n p os ss xs e l none =
    let set = items-set 0 n p p os ss os (without p ss) l (omega arith) (λ m d. ap (λ s. slot_in (value_in m os) s) (value-without_other m p ss d)) in
    let gone = value-without p ss in
    rw (← e, set, none, gone) refl

pub apart-less : (n p : ℕ) (os : List (ℕ × Open)) (ss : List (ℕ × Settled)) → Apart n os ss → Apart n os (without p ss)
apart-less n p os ss a = λ k s i. elim (cases_eq k p) [
  | inl same ↦ absurd (no (value_in p (without p ss)) s (rw same at i) (value-without p ss))
  | inr differs ↦ a k s (sym (value-without_other k p ss differs) ∙ i)
]
  where
    no : (o : Option Settled) (s : Settled) → o ≡ Some s → o ≡ None → ⊥
    no o s a b = cc

pub some-there : {T : Type 0} (o : Option T) → IsSome o → (v : T) × (o ≡ Some v)
some-there None h = cc
some-there (Some v) h = (v, refl)

pub settled-below : (k n : ℕ) (os : List (ℕ × Open)) (ss : List (ℕ × Settled)) → Apart n os ss → IsSome (value_in k ss) → k < n
settled-below k n os ss a h = let v = some-there (value_in k ss) h in (a k v.0 v.1).0

-- where there is a slot, the number was given
pub below : (n p : ℕ) (os : List (ℕ × Open)) (ss : List (ℕ × Settled)) (xs : List (Option Slot)) (s : Slot) → items_from 0 n os ss ≡ xs → slice_get xs p ≡ Some (Some s) → p < n
below n p os ss xs s e g = omega (arith, slice_get_within xs p (Some s) g, length-shown n os ss xs e)

open-tight : (o : Open) (s : Slot) → s ≡ slot_of o → is_loose_slot s ≡ true → ⊥
open-tight o s is l = let f : is_loose_slot s ≡ false = ap is_loose_slot is in cc

-- one that is loose isn't pending
pub loose-settled : (n p : ℕ) (os : List (ℕ × Open)) (ss : List (ℕ × Settled)) (xs : List (Option Slot)) → items_from 0 n os ss ≡ xs → IsLooseAt xs p → (p < n) × (value_in p os ≡ None)
loose-settled n p os ss xs e h = (l, after (value_in p os) refl)
  where
    l : p < n
    l = below n p os ss xs h.slot e h.there

    after : (o : Option Open) → value_in p os ≡ o → o ≡ None
    after None i = refl
    after (Some o) i = absurd (open-tight o h.slot (same-slot n p os ss xs o h.slot e l i h.there) h.loose)

-- where none between takes a place among those that have settled, none is spent
pub none-spent : (lo hi n : ℕ) (os : List (ℕ × Open)) (ss : List (ℕ × Settled)) (xs : List (Option Slot)) → items_from 0 n os ss ≡ xs → ((m : ℕ) → lo ≤ m → m < hi → value_in m ss ≡ None) → NoneSpent lo hi xs
none-spent lo hi n os ss xs e h = λ i s a b g loose. by i s a b g loose (value_in i os) refl
  where
    by : (i : ℕ) (s : Slot) → lo ≤ i → i < hi → slice_get xs i ≡ Some (Some s) → is_loose_slot s ≡ true → (o : Option Open) → value_in i os ≡ o → s ≡ ended_slot None
    by i s a b g loose None none = same-ended n i os ss xs s e (below n i os ss xs s e g) none (h i a b) g
    by i s a b g loose (Some o) there = absurd (open-tight o s (same-slot n i os ss xs o s e (below n i os ss xs s e g) there g) loose)

pub none-placed : (lo hi n : ℕ) (os : List (ℕ × Open)) (ss : List (ℕ × Settled)) (xs : List (Option Slot)) → items_from 0 n os ss ≡ xs
    → ((m : ℕ) → lo ≤ m → m < hi → value_in m os ≡ None) → ((m : ℕ) → lo ≤ m → m < hi → value_in m ss ≡ None) → NonePlaced lo hi xs
none-placed lo hi n os ss xs e h k = λ i s a b g. same-ended n i os ss xs s e (below n i os ss xs s e g) (h i a b) (k i a b) g

pub slot-there : (n p : ℕ) (os : List (ℕ × Open)) (ss : List (ℕ × Settled)) (xs : List (Option Slot)) → items_from 0 n os ss ≡ xs → p < n → IsSlotAt xs p
slot-there n p os ss xs e l = (slot_in (value_in p os) (value_in p ss), get-shown n p os ss xs (value_in p os) (value_in p ss) e l refl refl)

-- whether it is spent

pub record Spent (b : Bool) (xs : List (Option Slot)) (p : ℕ) : Type 0 where
  pub there : b ≡ true → IsLooseAt xs p
  pub loose : (s : Slot) → slice_get xs p ≡ Some (Some s) → (b ≡ true → is_loose_slot s ≡ true) × (b ≡ false → is_loose_slot s ≡ true → s ≡ ended_slot None)

contrary : {A : Type 0} (b : Bool) → b ≡ true → b ≡ false → A
contrary b t f = cc

-- no such promise
pub spent-past : (n p : ℕ) (os : List (ℕ × Open)) (ss : List (ℕ × Settled)) (xs : List (Option Slot)) → items_from 0 n os ss ≡ xs → n ≤ p → Spent false xs p
spent-past n p os ss xs e l = record {
  there = λ t. contrary false t refl;
  loose = λ s g. absurd (no (slice_get xs p) s g (past-shown n p os ss xs e l));
}
  where
    no : (o : Option (Option Slot)) (s : Slot) → o ≡ Some (Some s) → o ≡ None → ⊥
    no o s a b = cc

-- one that takes no place among those that have settled
pub spent-none : (n p : ℕ) (os : List (ℕ × Open)) (ss : List (ℕ × Settled)) (xs : List (Option Slot)) → items_from 0 n os ss ≡ xs → value_in p ss ≡ None → Spent false xs p
spent-none n p os ss xs e gone = record {
  there = λ t. contrary false t refl;
  loose = λ s g. (λ t. contrary false t refl, λ f loose. by s g loose (value_in p os) refl);
}
  where
    by : (s : Slot) → slice_get xs p ≡ Some (Some s) → is_loose_slot s ≡ true → (o : Option Open) → value_in p os ≡ o → s ≡ ended_slot None
    by s g loose None none = same-ended n p os ss xs s e (below n p os ss xs s e g) none gone g
    by s g loose (Some o) there = absurd (open-tight o s (same-slot n p os ss xs o s e (below n p os ss xs s e g) there g) loose)

settled-watched : (v : Settled) (r : ℕ) → is_pending v.outcome ≡ false → v.rank ≡ Some r → is_loose_slot (settled_slot v) ≡ false
settled-watched v r f w = rw (f, w) refl

settled-loose : (v : Settled) → is_pending v.outcome ≡ false → v.rank ≡ None → is_loose_slot (settled_slot v) ≡ true
settled-loose v f w = rw (f, w) refl

-- one that has settled and is watched
pub spent-watched : (n p r : ℕ) (v : Settled) (os : List (ℕ × Open)) (ss : List (ℕ × Settled)) (xs : List (Option Slot)) → items_from 0 n os ss ≡ xs → Apart n os ss → value_in p ss ≡ Some v → v.rank ≡ Some r → Spent false xs p
spent-watched n p r v os ss xs e a there w = record {
  there = λ t. contrary false t refl;
  loose = λ s g. (
    λ t. contrary false t refl,
    λ f loose. contrary (is_loose_slot s) loose (
        let at = a p v there in
        let is = same-settled n p os ss xs v s e at.0 at.1 there g in
        ap is_loose_slot is ∙ settled-watched v r at.2 w),
  );
}

-- one that has settled and isn't watched
pub spent-loose : (n p : ℕ) (v : Settled) (os : List (ℕ × Open)) (ss : List (ℕ × Settled)) (xs : List (Option Slot)) → items_from 0 n os ss ≡ xs → Apart n os ss → value_in p ss ≡ Some v → v.rank ≡ None → Spent true xs p
spent-loose n p v os ss xs e a there w = record {
  there = λ t. record { slot = settled_slot v; there = shown; loose = settled-loose v at.2 w };
  loose = λ s g. (λ t. ap is_loose_slot (same-settled n p os ss xs v s e at.0 at.1 there g) ∙ settled-loose v at.2 w, λ f. contrary true refl f);
}
  where
    at : (p < n) × (value_in p os ≡ None) × (is_pending v.outcome ≡ false)
    at = a p v there

    shown : slice_get xs p ≡ Some (Some (settled_slot v))
    shown = get-shown n p os ss xs None (Some v) e at.0 at.1 there

-- looking on

pub spent-join : (lo mid hi : ℕ) (xs : List (Option Slot)) → NoneSpent lo mid xs → NoneSpent mid hi xs → NoneSpent lo hi xs
spent-join lo mid hi xs a b = λ i s l h g loose. elim (cases_lt i mid) [
  | inl k ↦ a i s l k g loose
  | inr k ↦ b i s (omega (arith, k)) h g loose
]

pub spent-next : (lo mid : ℕ) (xs : List (Option Slot)) → NoneSpent lo mid xs → ((s : Slot) → slice_get xs mid ≡ Some (Some s) → is_loose_slot s ≡ true → s ≡ ended_slot None) → NoneSpent lo (mid + 1) xs
spent-next lo mid xs a b = λ i s l h g loose. elim (cases_lt i mid) [
  | inl k ↦ a i s l k g loose
  | inr k ↦
      let is : i ≡ mid = omega (arith, k, h) in
      let at : slice_get xs mid ≡ Some (Some s) = rw (← is) g in
      b s at loose
]

-- one that isn't pending has no reaction at its place
pub no-first : (n p : ℕ) (os : List (ℕ × Open)) (ss : List (ℕ × Settled)) (xs : List (Option Slot)) (s : Slot) → items_from 0 n os ss ≡ xs → slice_get xs p ≡ Some (Some s) → is_pending_slot (slice_get xs p) ≡ false → s.first ≡ None
no-first n p os ss xs s e g f = by (value_in p os) refl (value_in p ss) refl
  where
    l : p < n
    l = below n p os ss xs s e g

    by : (o : Option Open) → value_in p os ≡ o → (v : Option Settled) → value_in p ss ≡ v → s.first ≡ None
    by (Some o) i v j =
        let is : s ≡ slot_of o = same-slot n p os ss xs o s e l i g in
        contrary (is_pending_slot (slice_get xs p)) (ap is_pending_slot (g ∙ ap (λ (t : Slot). Some (Some t)) is)) f
    by None i (Some v) j = ap (λ (t : Slot). t.first) (same-settled n p os ss xs v s e l i j g)
    by None i None j = ap (λ (t : Slot). t.first) (same-ended n p os ss xs s e l i j g)

-- whether it is kept

pub kept-watched : (s : Slot) (r : ℕ) → s.rank ≡ Some r → one_where_kept (Some s) ≡ 1
kept-watched s r w = by (is_pending s.outcome) refl
  where
    by : (b : Bool) → is_pending s.outcome ≡ b → one_where_kept (Some s) ≡ 1
    by true e = rw e refl
    by false e = rw (e, w) refl

pending-defined : (o : Outcome) → is_pending o ≡ true → is_undefined o ≡ false
pending-defined Pending e = refl
pending-defined (Fulfilled v) e = cc
pending-defined (Given v) e = cc
pending-defined (Finished v) e = cc
pending-defined (Rejected r) e = cc

pub kept-undefined : (s : Slot) → is_undefined s.outcome ≡ true → s.rank ≡ None → one_where_kept (Some s) ≡ 0
kept-undefined s o w = by (is_pending s.outcome) refl
  where
    by : (b : Bool) → is_pending s.outcome ≡ b → one_where_kept (Some s) ≡ 0
    by true e = contrary (is_undefined s.outcome) o (pending-defined s.outcome e)
    by false e = rw (e, o, w) refl

pub kept-other : (s : Slot) → is_undefined s.outcome ≡ false → s.rank ≡ None → one_where_kept (Some s) ≡ 1
kept-other s o w = by (is_pending s.outcome) refl
  where
    by : (b : Bool) → is_pending s.outcome ≡ b → one_where_kept (Some s) ≡ 1
    by true e = rw e refl
    by false e = rw (e, o, w) refl
