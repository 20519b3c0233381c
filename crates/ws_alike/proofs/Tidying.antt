-- One promise after another is released, and what is left in the end is what is needed.
use Rattle.std.proofs.Common.{◌≡◌, ◌∙◌, ℕ, ◌+◌, ◌<◌, suc, zero, Bool, true, false, not, ◌||◌, nat_lt, if◌then◌else◌, List, [], ◌∷◌, length, Option, Some, None, refl, sym, ap, arith, inl, inr}
use Rattle.std.proofs.lemmas.Bool.{cases_lt}
use Rattle.std.specs.Prelude.{slice_get, is_some}
use Rattle.ws_value.specs.declared.ids.PromiseId.{PromiseId}
use Rattle.ws_steps.specs.Promises.{Entry, live, entry_at, is_pending, with_entry}
use Rattle.ws_steps.specs.Slots.{Slots, with_promises}
use Rattle.ws_alike.specs.Alike.{IsUnneeded, NoneLoose, TrimKeepsTheNeeded, forget, forgotten, is_kept, is_loose, is_needed, release, release_entry, trim, trimmed_entry, trimmed_from}
use Rattle.ws_alike.specs.Named.{in_slots}
use Rattle.ws_alike.proofs.Forgetting.{forgetting-alike, named}
use Rattle.ws_alike.proofs.Tables.{other}
use Rattle.ws_alike.proofs.Trimming.{get-less, get-set, live-some, names-trimmed}

-- the entry of a promise in what is left
trimmed-get : (k i j : ℕ) (s : Slots) (es : List (Option Entry)) → j ≡ k + i → live (slice_get (trimmed_from k s es) i) ≡ trimmed_entry (record { 0 = j }) s (live (slice_get es i))
trimmed-get k i j s [] h = refl
trimmed-get k zero j s (e ∷ es) h = let is : j ≡ k = omega (arith, h) in rw is refl
trimmed-get k (suc i) j s (e ∷ es) h = trimmed-get (suc k) i j s es (omega (arith, h))

-- each that is kept there is needed
pub trim-keeps_needed : TrimKeepsTheNeeded
trim-keeps_needed s p e there kept = by (live (slice_get s.promises.entries p.0)) (sym (trimmed-get 0 p.0 p.0 s s.promises.entries (omega arith)) ∙ there)
  where
    here : (f : Entry) (c : Bool) → is_needed p s f ≡ c → (if c then Some f else Some forgotten) ≡ Some e → is_needed p (trim s) e ≡ true
    here f true need is =
        let same : f ≡ e = cc in
        ap (λ n. is_pending e.outcome || (is_some e.rank || nat_lt 0 n)) (names-trimmed p s) ∙ (ap (λ x. is_needed p s x) (sym same) ∙ need)
    here f false need is =
        let same : forgotten ≡ e = cc in
        let none : is_kept (Some forgotten) ≡ true = ap (λ x. is_kept (Some x)) same ∙ kept in
        cc

    by : (o : Option Entry) → trimmed_entry p s o ≡ Some e → is_needed p (trim s) e ≡ true
    by None is = cc
    by (Some f) is = here f (is_needed p s f) refl is

-- how far the releasing has come: those below hi that aren't needed are forgotten
pub record Tidied (hi : ℕ) (s z : Slots) : Type 0 where
  pub alike : trim z ≡ trim s
  pub done : (p : PromiseId) (e : Entry) → p.0 < hi → entry_at z.promises p ≡ Some e → is_needed p z e ≡ false → e ≡ forgotten

pub tidied-begins : (s : Slots) → Tidied 0 s s
tidied-begins s = record { alike = refl; done = λ p e l. absurd (omega (arith, l)) }

loose : (a b c : Bool) → (a || (b || c)) ≡ false → not (a || b) ≡ true
loose false false c h = refl
loose false true c h = cc
loose true b c h = cc

-- one that isn't needed is loose
unneeded-loose : (p : PromiseId) (z : Slots) (e : Entry) → is_needed p z e ≡ false → is_loose e ≡ true
unneeded-loose p z e h = loose (is_pending e.outcome) (is_some e.rank) (nat_lt 0 (in_slots p z)) h

needed-named : (a b c : Bool) → c ≡ true → (a || (b || c)) ≡ true
needed-named true b c h = refl
needed-named false true c h = refl
needed-named false false c h = h

-- a promise that is named is passed by
pub tidied-kept : (lo : ℕ) (p : PromiseId) (s z : Slots) → Tidied lo s z → NoneLoose lo p.0 z.promises → nat_lt 0 (in_slots p z) ≡ true → Tidied (suc p.0) s z
tidied-kept lo p s z k none is = record {
  alike = k.alike;
  done = λ q e l there un. elim (cases_lt q.0 lo) [
    | inl a ↦ k.done q e a there un
    | inr a ↦ elim (cases_lt q.0 p.0) [
      | inl b ↦ none q e (omega (arith, a)) b there (unneeded-loose q z e un)
      | inr b ↦
          let same : q.0 ≡ p.0 = omega (arith, l, b) in
          let need = needed-named (is_pending e.outcome) (is_some e.rank) (nat_lt 0 (in_slots p z)) is in
          let un_p : is_needed p z e ≡ false = ap (λ n. is_needed (record { 0 = n }) z e) (sym same) ∙ un in
          cc
    ]
  ];
}

-- the last ones
pub tidied-ends : (lo : ℕ) (s z : Slots) → Tidied lo s z → NoneLoose lo (length z.promises.entries) z.promises → z ≡ trim s
tidied-ends lo s z k none = sym (ap (λ es. with_promises (record z.promises { entries = es }) z) (all 0 z.promises.entries (λ i j e m g un. let is : j ≡ i = omega (arith, m) in forgotten-if (record { 0 = j }) e (rw is g) un))) ∙ k.alike
  where
    forgotten-if : (p : PromiseId) (e : Entry) → slice_get z.promises.entries p.0 ≡ Some (Some e) → is_needed p z e ≡ false → e ≡ forgotten
    forgotten-if p e g un =
        let there : entry_at z.promises p ≡ Some e = ap live g in
        let less = get-less z.promises.entries p.0 (Some e) g in
        elim (cases_lt p.0 lo) [
          | inl a ↦ k.done p e a there un
          | inr a ↦ none p e (omega (arith, a)) less there (unneeded-loose p z e un)
        ]

    entry-same : (p : PromiseId) (e : Entry) (c : Bool) → is_needed p z e ≡ c → (is_needed p z e ≡ false → e ≡ forgotten) → (if c then Some e else Some forgotten) ≡ Some e
    entry-same p e true is h = refl
    entry-same p e false is h = ap (λ x. Some x) (sym (h is))

    one-same : (p : PromiseId) (o : Option Entry) → ((e : Entry) → o ≡ Some e → is_needed p z e ≡ false → e ≡ forgotten) → trimmed_entry p z o ≡ o
    one-same p None h = refl
    one-same p (Some e) h = entry-same p e (is_needed p z e) refl (h e refl)

    all : (k : ℕ) (es : List (Option Entry)) → ((i j : ℕ) (e : Entry) → j ≡ k + i → slice_get es i ≡ Some (Some e) → is_needed (record { 0 = j }) z e ≡ false → e ≡ forgotten) → trimmed_from k z es ≡ es
    all k [] h = refl
    all k (o ∷ es) h =
        let here = one-same (record { 0 = k }) o (λ e is un. h 0 k e (omega arith) (ap (λ x. Some x) is) un) in
        let rest = all (suc k) es (λ i j e m g un. h (suc i) j e (omega (arith, m)) g un) in
        rw (here, rest) refl

-- a promise that isn't named is released
pub tidied-released : (lo : ℕ) (p : PromiseId) (s z : Slots) → Tidied lo s z → NoneLoose lo p.0 z.promises → nat_lt 0 (in_slots p z) ≡ false → Tidied (suc p.0) s (with_promises (release p z.promises) z)
tidied-released lo p s z k none is = by (entry_at z.promises p) refl
  where
    below : (q : PromiseId) (e : Entry) → q.0 < p.0 → entry_at z.promises q ≡ Some e → is_needed q z e ≡ false → e ≡ forgotten
    below q e l there un = elim (cases_lt q.0 lo) [
      | inl a ↦ k.done q e a there un
      | inr a ↦ none q e (omega (arith, a)) l there (unneeded-loose q z e un)
    ]

    -- where nothing is released
    stays : ((e : Entry) → entry_at z.promises p ≡ Some e → is_needed p z e ≡ false → e ≡ forgotten) → Tidied (suc p.0) s z
    stays here = record {
      alike = k.alike;
      done = λ q e l there un. elim (cases_lt q.0 p.0) [
        | inl b ↦ below q e b there un
        | inr b ↦
            let same : q.0 ≡ p.0 = omega (arith, l, b) in
            here e (ap (λ n. entry_at z.promises (record { 0 = n })) (sym same) ∙ there) (ap (λ n. is_needed (record { 0 = n }) z e) (sym same) ∙ un)
      ];
    }

    goes : (e : Entry) → entry_at z.promises p ≡ Some e → is_loose e ≡ true → Tidied (suc p.0) s (forget p z)
    goes e there l =
        let u : IsUnneeded p z = record { entry = e; there = there; unneeded = unneeded-by (is_pending e.outcome) (is_some e.rank) (nat_lt 0 (in_slots p z)) l is } in
        record {
          alike = forgetting-alike p z u ∙ k.alike;
          done = λ q f m at un. elim (cases_lt q.0 p.0) [
            | inl b ↦ below q f b (sym (other p q (Some forgotten) z.promises (λ x. absurd (omega (arith, x, b)))) ∙ at) (ap (λ n. is_pending f.outcome || (is_some f.rank || nat_lt 0 n)) (sym (named p q z u)) ∙ un)
            | inr b ↦
                let same : q.0 ≡ p.0 = omega (arith, m, b) in
                let made = get-less z.promises.entries p.0 (Some e) (live-some (slice_get z.promises.entries p.0) e there) in
                let here : Some forgotten ≡ Some f = sym (ap live (get-set z.promises.entries p.0 (Some forgotten) made)) ∙ (ap (λ n. entry_at (forget p z).promises (record { 0 = n })) (sym same) ∙ at) in
                cc
          ];
        }
      where
        unneeded-by : (a b c : Bool) → not (a || b) ≡ true → c ≡ false → (a || (b || c)) ≡ false
        unneeded-by false false c l h = h
        unneeded-by false true c l h = cc
        unneeded-by true b c l h = cc

    loosely : (e : Entry) (c : Bool) → entry_at z.promises p ≡ Some e → is_loose e ≡ c → Tidied (suc p.0) s (with_promises (if c then with_entry p (Some forgotten) z.promises else z.promises) z)
    loosely e true there l = goes e there l
    loosely e false there l = stays (λ f at un.
        let same : e ≡ f = cc in
        let is : is_loose e ≡ true = ap is_loose same ∙ unneeded-loose p z f un in
        cc)

    by : (o : Option Entry) → entry_at z.promises p ≡ o → Tidied (suc p.0) s (with_promises (release_entry p z.promises o) z)
    by None there = stays (λ e at un. cc)
    by (Some e) there = loosely e (is_loose e) there refl
