-- Each promise stands at most once where it is to be settled, and then it is open.
use Rattle.std.proofs.Common.{◌≡◌, ℕ, ◌+◌, ◌≤◌, Bool, true, false, not, nat_eq, if◌then◌else◌, List, Option, Some, None, slice_get, slice_set, refl, sym, ap, ◌∙◌, arith}
use Rattle.ws_value.specs.declared.ids.PromiseId.{PromiseId}
use Rattle.ws_steps.specs.Promises.{is_following_entry, Entry, Table, live, entry_at, is_pending, is_open_entry}
use Rattle.ws_steps.proofs.PromiseLaws.{slice_get-set_same, slice_get-set_other, entry_within}
use Rattle.ws_laws.proofs.Tables.{eq_numbers, unequal_numbers}
use Rattle.ws_laws.proofs.Weights.{weigh}
use Rattle.ws_promise_laws.proofs.Tokens.{one_if, names, in_reaction, adopts}

-- the place of a promise: one that isn't made yet, one that was released, and one that is there
abbrev pub place_at : Table → PromiseId → Option (Option Entry)
place_at t p = slice_get t.entries p.0

-- it has settled, and may have been released since
abbrev pub is_over : Option (Option Entry) → Bool
is_over None = false
is_over (Some None) = true
is_over (Some (Some e)) = not (is_pending e.outcome)

-- 1 where the promise isn't open
abbrev pub shut : PromiseId → Table → ℕ
shut p t = one_if (not (is_open_entry (live (place_at t p))))

-- whether it may be settled yet, now or once it is made
abbrev pub is_unsettled : PromiseId → Table → Bool
is_unsettled p t = not (is_over (place_at t p))

-- a number that counts where this holds
abbrev pub when : Bool → ℕ → ℕ
when true n = n
when false n = 0

pub whole : (b : Bool) (n : ℕ) → when b n + when (not b) n ≡ n
whole true n = omega arith
whole false n = omega arith

-- A promise stands f times outside the promises where it is to be settled, and l times where it is to be settled if it hasn't
-- been. In all it stands at most once, and then it is open. A promise that others are to have settled follows
pub record Holds (f l : PromiseId → ℕ) (t : Table) : Type 0 where
  pub straight : t.astray ≡ false
  pub once : (x : PromiseId) → f x + (when (is_unsettled x t) (l x) + (weigh (in_reaction x) t + shut x t)) ≤ 1
  pub led : (p : PromiseId) → weigh (adopts p) t ≤ one_if (is_following_entry (live (place_at t p)))

pub named : (q : PromiseId) → names q q ≡ 1
named q = grind arith

-- what counts loosely counts less where what counts firmly does
less_when : (b : Bool) (f l g m v w : ℕ) → g + v ≤ f + w → (g + m) + v ≤ (f + l) + w → g + (when b m + v) ≤ f + (when b l + w)
less_when true f l g m v w h k = omega arith
less_when false f l g m v w h k = omega arith

-- it stands less often, or where it is to be settled only if it hasn't been
pub holds-less : (f l g m : PromiseId → ℕ) (t : Table) → Holds f l t → ((x : PromiseId) → g x ≤ f x) → ((x : PromiseId) → g x + m x ≤ f x + l x) → Holds g m t
holds-less f l g m t k a b = record {
  straight = k.straight;
  once = λ x.
      let h = k.once x in let c = a x in let d = b x in
      let n = less_when (is_unsettled x t) (f x) (l x) (g x) (m x) 0 0 (omega arith) (omega arith) in omega arith;
  led = k.led;
}

-- promise q is put in this place

place_of : (x : Option (Option Entry)) (e : Entry) → live x ≡ Some e → x ≡ Some (Some e)
place_of None e h = cc
place_of (Some None) e h = cc
place_of (Some (Some d)) e h = ap (λ (x : Option Entry). Some x) h

pub place-there : (t : Table) (p : PromiseId) (e : Entry) → entry_at t p ≡ Some e → place_at t p ≡ Some (Some e)
place-there t p e h = place_of (place_at t p) e h

pub eq_promises : (p q : PromiseId) → nat_eq p.0 q.0 ≡ true → p ≡ q
eq_promises p q e = ap (λ (n : ℕ). record { 0 = n }) (eq_numbers p.0 q.0 e)

-- each other promise is where it was
abbrev pub Placed : PromiseId → Option (Option Entry) → Table → Table → Type 0
Placed q y t z = (p : PromiseId) → place_at z p ≡ (if nat_eq p.0 q.0 then y else place_at t p)

placed_by : (q : PromiseId) (e : Entry) (y : Option Entry) (t z : Table) → entry_at t q ≡ Some e → z.entries ≡ slice_set t.entries q.0 y → (p : PromiseId) (same : Bool) → same ≡ nat_eq p.0 q.0
    → place_at z p ≡ (if same then Some y else place_at t p)
placed_by q e y t z h w p true n =
    rw (eq_promises p q (sym n)) (ap (λ (es : List (Option Entry)). slice_get es q.0) w ∙ slice_get-set_same t.entries q.0 y (entry_within t q e h))
placed_by q e y t z h w p false n =
    ap (λ (es : List (Option Entry)). slice_get es p.0) w ∙ slice_get-set_other t.entries q.0 p.0 y (λ i. unequal_numbers p.0 q.0 (sym n) (sym i))

pub put-placed : (q : PromiseId) (e : Entry) (y : Option Entry) (t z : Table) → entry_at t q ≡ Some e → z.entries ≡ slice_set t.entries q.0 y → Placed q (Some y) t z
put-placed q e y t z h w p = placed_by q e y t z h w p (nat_eq p.0 q.0) refl

-- what is to be shown where promise q is put in place y
pub record Puts (f l g m : PromiseId → ℕ) (q : PromiseId) (y : Option (Option Entry)) (t z : Table) : Type 0 where
  pub placed : Placed q y t z
  pub straight : z.astray ≡ false
  pub firm : (x : PromiseId) → nat_eq x.0 q.0 ≡ false → g x + weigh (in_reaction x) z ≤ f x + weigh (in_reaction x) t
  pub all : (x : PromiseId) → nat_eq x.0 q.0 ≡ false → (g x + m x) + weigh (in_reaction x) z ≤ (f x + l x) + weigh (in_reaction x) t
  pub here : g q + (when (not (is_over y)) (m q) + (weigh (in_reaction q) z + one_if (not (is_open_entry (live y))))) ≤ 1
  pub others : (p : PromiseId) → nat_eq p.0 q.0 ≡ false → weigh (adopts p) z ≤ weigh (adopts p) t
  pub led : weigh (adopts q) z ≤ one_if (is_following_entry (live y))

module _ (f l g m : PromiseId → ℕ) (q : PromiseId) (y : Option (Option Entry)) (t z : Table) (k : Holds f l t) (u : Puts f l g m q y t z) where
  once_put : (x : PromiseId) (same : Bool) → same ≡ nat_eq x.0 q.0 → g x + (when (is_unsettled x z) (m x) + (weigh (in_reaction x) z + shut x z)) ≤ 1
  once_put x true e =
      let is : x ≡ q = eq_promises x q (sym e) in
      let at : place_at z q ≡ y = rw (← is) (u.placed x ∙ rw (← e) refl) in
      rw (is, at) u.here
  once_put x false e =
      let at : place_at z x ≡ place_at t x = u.placed x ∙ rw (← e) refl in
      let h = k.once x in
      let n = less_when (is_unsettled x t) (f x) (l x) (g x) (m x) (weigh (in_reaction x) z) (weigh (in_reaction x) t) (u.firm x (sym e)) (u.all x (sym e)) in
      rw at (omega arith)

  led_put : (p : PromiseId) (same : Bool) → same ≡ nat_eq p.0 q.0 → weigh (adopts p) z ≤ one_if (is_following_entry (live (place_at z p)))
  led_put p true e =
      let is : p ≡ q = eq_promises p q (sym e) in
      let at : place_at z q ≡ y = rw (← is) (u.placed p ∙ rw (← e) refl) in
      rw (is, at) u.led
  led_put p false e =
      let at : place_at z p ≡ place_at t p = u.placed p ∙ rw (← e) refl in
      let h = k.led p in let n = u.others p (sym e) in
      rw at (omega arith)

  pub puts-holds : Holds g m z
  puts-holds = record { straight = u.straight; once = λ x. once_put x (nat_eq x.0 q.0) refl; led = λ p. led_put p (nat_eq p.0 q.0) refl }

-- the places of promises keep what matters here
pub record Alike (t z : Table) : Type 0 where
  pub over : (p : PromiseId) → is_over (place_at z p) ≡ is_over (place_at t p)
  pub open_ : (p : PromiseId) → is_open_entry (live (place_at z p)) ≡ is_open_entry (live (place_at t p))
  pub following : (p : PromiseId) → is_following_entry (live (place_at z p)) ≡ is_following_entry (live (place_at t p))
  pub straight : z.astray ≡ t.astray

-- reactions are registered and queued, which stand for no more
pub holds-alike : (f l g : PromiseId → ℕ) (t z : Table) → Holds f l t → Alike t z → ((x : PromiseId) → g x + weigh (in_reaction x) z ≤ f x + weigh (in_reaction x) t)
    → ((p : PromiseId) → weigh (adopts p) z ≤ weigh (adopts p) t) → Holds g l z
holds-alike f l g t z k a w v = record {
  straight = a.straight ∙ k.straight;
  once = λ x. let h = k.once x in let n = w x in rw (a.over x, a.open_ x) (omega arith);
  led = λ p. let h = k.led p in let n = v p in rw (a.following p) (omega arith);
}

pub alike-same : (t z : Table) → z.entries ≡ t.entries → z.astray ≡ t.astray → Alike t z
alike-same t z e s = record { over = λ p. rw e refl; open_ = λ p. rw e refl; following = λ p. rw e refl; straight = s }

alike_by : (P : Option (Option Entry) → Bool) (p q : PromiseId) (y : Option (Option Entry)) (t z : Table) (same : Bool) → same ≡ nat_eq p.0 q.0 → place_at z p ≡ (if same then y else place_at t p)
    → P y ≡ P (place_at t q) → P (place_at z p) ≡ P (place_at t p)
alike_by P p q y t z true e w h = rw (w, eq_promises p q (sym e)) h
alike_by P p q y t z false e w h = rw w refl

-- an entry is put in the place of another that is alike
pub alike-put : (q : PromiseId) (e : Entry) (y : Option Entry) (t z : Table) → entry_at t q ≡ Some e → z.entries ≡ slice_set t.entries q.0 y → z.astray ≡ t.astray
    → is_over (Some y) ≡ not (is_pending e.outcome) → is_open_entry y ≡ is_open_entry (Some e) → is_following_entry y ≡ is_following_entry (Some e) → Alike t z
alike-put q e y t z h w s a b c =
    let at = place-there t q e h in
    let w = put-placed q e y t z h w in
    record {
      over = λ p. alike_by is_over p q (Some y) t z (nat_eq p.0 q.0) refl (w p) (rw at a);
      open_ = λ p. alike_by (λ x. is_open_entry (live x)) p q (Some y) t z (nat_eq p.0 q.0) refl (w p) (rw at b);
      following = λ p. alike_by (λ x. is_following_entry (live x)) p q (Some y) t z (nat_eq p.0 q.0) refl (w p) (rw at c);
      straight = s;
    }
