-- What an operation of a tee takes of the places of a realm, and of which chunks tees have copies.
use Rattle.std.proofs.Common.{◌≡◌, ◌≤◌, ℕ, zero, suc, ◌+◌, ⊎_elim, Bool, true, false, not, List, [], ◌∷◌, length, map, Some, refl, sym, ap, ◌∙◌, subst, arith}
use Rattle.std.specs.Prelude.{slice_get, slice_set, ◌||◌, vec_len}
use Rattle.ws_value.specs.declared.ids.TeeId.{TeeId}
use Rattle.ws_steps.specs.declared.effects.Effect.{Effect}
use Rattle.ws_steps.specs.declared.effects.Effect.TheVariants.{Tee}
use Rattle.ws_steps.specs.declared.tee.TeeOperation.{TeeOperation}
use Rattle.ws_steps.specs.declared.tee.TeeOperation.TheVariants as names
use Rattle.ws_steps.specs.Operations.{tee_operation}
use Rattle.ws_steps.specs.Places.{prices_of, tee_keeps, tees_keep, table_size, own_tee, copies_alone, queued_alone, requests_alone, members_alone, tee_price}
use Rattle.ws_steps.specs.Slots.{Slots, Done, found, put_tee}
use Rattle.ws_steps.specs.Tee as tee
use Rattle.ws_steps.specs.Turns.{row}
use Rattle.ws_room_laws.proofs.Rows.{get-other, same-or}
use Rattle.ws_room_laws.proofs.Tees.{tee-takes}
use Rattle.ws_steps.proofs.StreamLaws.{map-set}
use Rattle.ws_promise.specs.Seen.{Seen, SeenAgenda}
use Rattle.ws_tee.specs.Seen.{SeenTee, CanHand, CanPerform, acts_of, goes_to_both}
use Rattle.ws_tables.specs.View.{slots_of, tee_of}
use Rattle.ws_tables.specs.Room.{HasCopies, EachHasCopies, HasFew, AreSourced, IsKept, places_of}
use Rattle.ws_performing.specs.Performing.{Performs}
use Rattle.ws_tables.specs.declared.tables.Tables.{Tables}
use Rattle.ws_tables.proofs.Counts.{counted-on, row-more, row-few, row-sourced}
use Rattle.ws_performing.proofs.Keeps.{tees-queued, tees-members}
use Rattle.ws_performing.proofs.Records.{within-none}
use Rattle.ws_performing.proofs.Streams.{absent}
use Rattle.ws_tables.proofs.Elements.{get-map, put-is}

pub tee-absent : (t : TeeId) (operation : TeeOperation) (x : Tables) → length (slots_of x).tees ≤ t.0 → x.caused.effects ≡ [] → Performs (Tee t operation) x x
unfolding row
tee-absent t operation x past quiet = let none = within-none (slots_of x).tees t.0 past in absent (Tee t operation) x (rw none refl) quiet

pub tee-row : (t : TeeId) (operation : TeeOperation) (s : Slots) (x : tee.Slots) (a : tee.Acts) → slice_get s.tees t.0 ≡ Some x
    → a ≡ tee_operation t operation (record { slots = x; out = found s }) → row (Tee t operation) s ≡ put_tee t s a
unfolding row
tee-row t operation s x a is did = rw (is, did) refl

-- what it takes of the lists that streams and signals have, with what the tee keeps of read requests
pub record TeeTook (operation : TeeOperation) (x y : tee.Slots) (es : List Effect) : Type 0 where
  pub queued : prices_of queued_alone es ≤ tee_price queued_alone operation
  pub requested : prices_of requests_alone es + tee_keeps requests_alone y ≤ tee_keeps requests_alone x + tee_price requests_alone operation
  pub members : prices_of members_alone es ≤ tee_price members_alone operation

nothing-queued : (x : tee.Slots) → tee_keeps queued_alone x ≡ 0
nothing-queued x = let h = tees-queued (x ∷ []) in omega (arith, h)

no-members : (x : tee.Slots) → tee_keeps members_alone x ≡ 0
no-members x = let h = tees-members (x ∷ []) in omega (arith, h)

pub tee-took : (t : TeeId) (operation : TeeOperation) (a : tee.Acts) → a.out.effects ≡ []
    → TeeTook operation a.slots (tee_operation t operation a).slots (tee_operation t operation a).out.effects
unfolding table_size
tee-took t operation a quiet =
    let b : tee.Acts = tee_operation t operation a in
    let none : (prices_of queued_alone a.out.effects ≡ 0) × (prices_of requests_alone a.out.effects ≡ 0) × (prices_of members_alone a.out.effects ≡ 0) = rw quiet (refl, refl, refl) in
    let q = tee-takes queued_alone t (λ j. omega arith) operation a in
    let r = tee-takes requests_alone t (λ j. omega arith) operation a in
    let m = tee-takes members_alone t (λ j. omega arith) operation a in
    let qa = nothing-queued a.slots in let ma = no-members a.slots in
    record { queued = omega (arith, none.0, q, qa); requested = omega (arith, none.1, r); members = omega (arith, none.2, m, ma) }

-- one tee is put in the place of another

tees-set : (xs : List tee.Slots) (j : ℕ) (x y : tee.Slots) → slice_get xs j ≡ Some x
    → tees_keep requests_alone (slice_set xs j y) + tee_keeps requests_alone x ≡ tees_keep requests_alone xs + tee_keeps requests_alone y
tees-set [] j x y is = cc
tees-set (z ∷ zs) zero x y is = let h : z ≡ x = cc in let k = ap (tee_keeps requests_alone) h in omega (arith, k)
tees-set (z ∷ zs) (suc j) x y is = let h = tees-set zs j x y is in omega (arith, h)

pub keeps-after : (xs : List SeenTee) (i : ℕ) (x y : SeenTee) → slice_get xs i ≡ Some x
    → tees_keep requests_alone (map tee_of (slice_set xs i y)) + tee_keeps requests_alone x.slots ≡ tees_keep requests_alone (map tee_of xs) + tee_keeps requests_alone y.slots
keeps-after xs i x y is =
    ap (λ ys. tees_keep requests_alone ys + tee_keeps requests_alone x.slots) (map-set tee_of xs i y)
    ∙ tees-set (map tee_of xs) i x.slots y.slots (get-map tee_of xs i x is)

-- each has its copy still
pub copies-put : (xs : List SeenTee) (i : ℕ) (y : SeenTee) → CanHand y → EachHasCopies 1 xs → EachHasCopies 1 (slice_set xs i y)
copies-put xs i y can copies j z there =
    ⊎_elim
    (λ (same : j ≡ i). subst CanHand (put-is xs i y z (ap (slice_get (slice_set xs i y)) (sym same) ∙ there)) can)
    (λ other. copies j z (sym (get-other xs i j y other) ∙ there))
    (same-or j i)

-- a second copy is there, or none is needed
pub can-hand : (x : SeenTee) → (not (goes_to_both x.slots) || x.copied) ≡ true → CanHand x
can-hand x is both = grind (arith, is, both)

-- what an operation needs of it
pub copy-for : (operation : TeeOperation) (x : SeenTee) → HasCopies (own_tee copies_alone operation) x → CanPerform operation x
copy-for names.HandChunk x h = h
copy-for names.PullBranch x h = tt
copy-for (names.KeepChunk v) x h = tt
copy-for names.SourceClosed x h = tt
copy-for names.SourceErrored x h = tt
copy-for names.Handed x h = tt
copy-for (names.CancelBranch half r u) x h = tt
copy-for (names.ReaderSettled outcome) x h = tt

-- a tee performed an operation, and was put in its place: x and y are the record before and after it, p and fx the promises and the agenda
pub record Put (t : TeeId) (old z : Tables) (y : SeenTee) (p : Seen) (fx : SeenAgenda) : Type 0 where
  pub tees : z.tees.items ≡ slice_set old.tees.items t.0 y
  pub slots : slots_of z ≡ record (slots_of old) { tees = map tee_of (slice_set old.tees.items t.0 y); promises = p.table }
  pub caused : z.caused.effects ≡ fx.effects
  pub others : z.others ≡ old.others
  pub places : places_of z ≡ record (places_of old) { promises = p.room; caused = fx.capacity }
  pub streams : z.streams ≡ old.streams
  pub grown : z.grown ≡ old.grown
  pub waiting : z.waiting ≡ old.waiting
  pub signals : z.signals ≡ old.signals
  pub full : z.full ≡ old.full
  pub aborts : z.aborts ≡ old.aborts
  pub pipes : z.pipes ≡ old.pipes
  pub uncopied : z.uncopied ≡ (old.uncopied || not (not (goes_to_both y.slots) || y.copied))

or-not-false : (a b : Bool) → (a || not b) ≡ false → (a ≡ false) × (b ≡ true)
or-not-false true b is = cc
or-not-false false true is = (refl, refl)
or-not-false false false is = cc

module _ (t : TeeId) (operation : TeeOperation) (old z : Tables) (x y : SeenTee) (p : Seen) (fx : SeenAgenda) (at : slice_get old.tees.items t.0 ≡ Some x)
    (did : acts_of y.slots p fx ≡ tee_operation t operation (acts_of x.slots old.promises old.caused)) (quiet : old.caused.effects ≡ []) (put : Put t old z y p fx) where
  left : row (Tee t operation) (slots_of old) ≡ put_tee t (slots_of old) (acts_of y.slots p fx)
  left =
      tee-row t operation (slots_of old) x.slots (acts_of y.slots p fx) (get-map tee_of old.tees.items t.0 x at)
      (did ∙ ap (λ (es : List Effect). tee_operation t operation (record { slots = x.slots; out = record { promises = old.promises.table; effects = es } })) quiet)

  took : TeeTook operation x.slots y.slots fx.effects
  took =
      subst (λ (a : tee.Acts). TeeTook operation x.slots a.slots a.out.effects) (sym did)
      (tee-took t operation (acts_of x.slots old.promises old.caused) quiet)

  row-is : slots_of z ≡ (row (Tee t operation) (slots_of old)).slots
  row-is =
      put.slots
      ∙ (ap (λ (xs : List tee.Slots). record (slots_of old) { tees = xs; promises = p.table }) (map-set tee_of old.tees.items t.0 y)
      ∙ ap (λ (d : Done). d.slots) (sym left))

  pub performs : p.room ≡ old.promises.room → fx.capacity ≡ old.caused.capacity → Performs (Tee t operation) old z
  performs promise_room effect_room =
      let q = ap (prices_of queued_alone) put.caused in
      let r = ap (prices_of requests_alone) put.caused in
      let m = ap (prices_of members_alone) put.caused in
      let tq = took.queued in let tr = took.requested in let tm = took.members in
      record {
        slots = row-is;
        caused = put.caused ∙ ap (λ (d : Done). d.caused) (sym left);
        others = put.others;
        places = put.places ∙ rw (promise_room, effect_room) refl;
        lists = rw (put.streams) refl;
        rooms = λ none. rw (put.streams) (λ n h. h);
        grown =
            let k = keeps-after old.tees.items t.0 x y at in
            let o = ap (λ xs. tees_keep requests_alone (map tee_of xs)) put.tees in
            let g = ap vec_len put.grown in
            omega (arith, q, r, tq, tr, k, o, g);
        members = rw (put.signals) refl;
        full = let l = ap vec_len put.full in omega (arith, m, tm, l);
      }

  pub kept : IsKept old → IsKept z
  kept was = record {
    waiting = rw (put.waiting, put.streams) was.waiting;
    covered = rw (put.grown, put.streams) was.covered;
    aborts = rw (put.aborts, put.signals) was.aborts;
    members = rw (put.full, put.signals) was.members;
    copied = λ none.
        let both = or-not-false old.uncopied (not (goes_to_both y.slots) || y.copied) (sym put.uncopied ∙ none) in
        rw (put.tees) (copies-put old.tees.items t.0 y (can-hand y both.1) (was.copied both.0));
    sourced = subst AreSourced (sym row-is) (row-sourced (Tee t operation) (slots_of old) was.sourced);
    counted = rw (put.pipes, ap (λ (s : Slots). s.promises) put.slots) (counted-on (length old.promises.table.entries) (length p.table.entries) old.pipes.items (row-more (Tee t operation) (slots_of old) _ left) was.counted);
    few = subst HasFew (sym row-is) (row-few (Tee t operation) (slots_of old) was.few);
  }
