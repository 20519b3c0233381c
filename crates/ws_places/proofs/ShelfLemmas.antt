-- What lies at each place, when a place is let go of or taken again.
use Rattle.std.proofs.Common.{◌≡◌, ◌≢◌, ◌∙◌, ℕ, ◌+◌, ◌<◌, ◌≤◌, suc, zero, Bool, true, false, if◌then◌else◌, List, [], ◌∷◌, ◌++◌, length, Option, Some, None, refl, sym, ap, arith}
use Rattle.std.specs.Prelude.{◌==◌, is_some, slice_get, slice_set, slice_index_or}
use Rattle.ws_places.specs.Shelves.{is_among, Distinct, Within, slot_of, slots_from, one_where_some, count_some, IsShelf}

unequal : (m n : ℕ) → m ≢ n → (m == n) ≡ false
unequal m n h = grind (arith, h)

equal : (n : ℕ) → (n == n) ≡ true
equal n = grind arith

-- one place more is among them

among-other : (k p : ℕ) (fs : List ℕ) → p ≢ k → is_among k (fs ++ p ∷ []) ≡ is_among k fs
among-other k p [] d = rw (unequal p k d) refl
among-other k p (f ∷ fs) d = after (f == k) (among-other k p fs d)
  where
    after : (b : Bool) → is_among k (fs ++ p ∷ []) ≡ is_among k fs → (if b then true else is_among k (fs ++ p ∷ [])) ≡ (if b then true else is_among k fs)
    after true e = refl
    after false e = e

among-same : (p : ℕ) (fs : List ℕ) → is_among p (fs ++ p ∷ []) ≡ true
among-same p [] = rw (equal p) refl
among-same p (f ∷ fs) = after (f == p) (among-same p fs)
  where
    after : (b : Bool) → is_among p (fs ++ p ∷ []) ≡ true → (if b then true else is_among p (fs ++ p ∷ [])) ≡ true
    after true e = refl
    after false e = e

not-head : (f p : ℕ) (b : Bool) → (if f == p then true else b) ≡ false → f ≢ p
not-head f p b h = λ e. let t : (f == p) ≡ true = grind (arith, e) in absurd (differ (rw t at h))
  where
    differ : true ≡ false → ⊥
    differ e = cc

not-rest : (f p : ℕ) (b : Bool) → (if f == p then true else b) ≡ false → b ≡ false
not-rest f p b h = let d = unequal f p (not-head f p b h) in rw d at h

pub distinct-push : (p : ℕ) (fs : List ℕ) → Distinct fs → is_among p fs ≡ false → Distinct (fs ++ p ∷ [])
distinct-push p [] d n = (refl, tt)
distinct-push p (f ∷ fs) d n = (among-other f p fs (λ e. not-head f p (is_among p fs) n (sym e)) ∙ d.0, distinct-push p fs d.1 (not-rest f p (is_among p fs) n))

first-not : (f p : ℕ) (fs : List ℕ) → is_among f (fs ++ p ∷ []) ≡ false → (f ≢ p) × (is_among f fs ≡ false)
first-not f p [] h = ((λ e. not-head p f false h (sym e)), refl)
first-not f p (x ∷ fs) h =
    let rest = first-not f p fs (not-rest x f (is_among f (fs ++ p ∷ [])) h) in
    let d = unequal x f (not-head x f (is_among f (fs ++ p ∷ [])) h) in
    (rest.0, rw d rest.1)

pub distinct-end : (p : ℕ) (fs : List ℕ) → Distinct (fs ++ p ∷ []) → Distinct fs × (is_among p fs ≡ false)
distinct-end p [] d = (tt, refl)
distinct-end p (f ∷ fs) d =
    let rest = distinct-end p fs d.1 in
    let here = first-not f p fs d.0 in
    let e = unequal f p here.0 in
    ((here.1, rest.0), rw e rest.1)

pub within-push : (n p : ℕ) (fs : List ℕ) → Within n fs → p < n → Within n (fs ++ p ∷ [])
within-push n p [] w l = (l, tt)
within-push n p (f ∷ fs) w l = (w.0, within-push n p fs w.1 l)

pub within-end : (n p : ℕ) (fs : List ℕ) → Within n (fs ++ p ∷ []) → Within n fs × (p < n)
within-end n p [] w = (tt, w.0)
within-end n p (f ∷ fs) w = let rest = within-end n p fs w.1 in ((w.0, rest.0), rest.1)

nothing : (fs : List ℕ) → length fs ≡ 0 → fs ≡ []
nothing [] e = refl
nothing (f ∷ fs) e = absurd (omega (arith, e))

pub length-end : (p : ℕ) (fs : List ℕ) → length (fs ++ p ∷ []) ≡ length fs + 1
length-end p [] = refl
length-end p (f ∷ fs) = let rest = length-end p fs in omega (arith, rest)

module _ {T : Type 0} where
  -- places before these don't count
  later : (k p : ℕ) (vs : List T) (fs : List ℕ) → p < k → slots_from k vs (fs ++ p ∷ []) ≡ slots_from k vs fs
  later k p [] fs l = refl
  later k p (v ∷ vs) fs l =
      let here = among-other k p fs (λ e. absurd (omega (arith, e, l))) in
      let rest = later (suc k) p vs fs (omega (arith, l)) in
      rw (here, rest) refl

  pub slots-freed : (k i p : ℕ) (vs : List T) (fs : List ℕ) → p ≡ k + i → slots_from k vs (fs ++ p ∷ []) ≡ slice_set (slots_from k vs fs) i None
  slots-freed k i p [] fs e = refl
  slots-freed k zero p (v ∷ vs) fs e =
      let is : p ≡ k = omega (arith, e) in
      let here = among-same k fs in
      let rest = later (suc k) k vs fs (omega arith) in
      rw (is, here, rest) refl
  slots-freed k (suc i) p (v ∷ vs) fs e =
      let here = among-other k p fs (λ f. absurd (omega (arith, e, f))) in
      let rest = slots-freed (suc k) i p vs fs (omega (arith, e)) in
      rw (here, rest) refl

  pub slots-put : (k i p : ℕ) (w : T) (vs : List T) (fs : List ℕ) → p ≡ k + i → is_among p fs ≡ false → slots_from k (slice_set vs i w) fs ≡ slice_set (slots_from k vs fs) i (Some w)
  slots-put k i p w [] fs e n = refl
  slots-put k zero p w (v ∷ vs) fs e n =
      let is : p ≡ k = omega (arith, e) in
      let here : is_among k fs ≡ false = rw is at n in
      rw here refl
  slots-put k (suc i) p w (v ∷ vs) fs e n =
      let rest = slots-put (suc k) i p w vs fs (omega (arith, e)) n in
      rw rest refl

  pub slots-push : (k : ℕ) (w : T) (vs : List T) → slots_from k (vs ++ w ∷ []) [] ≡ slots_from k vs [] ++ Some w ∷ []
  slots-push k w [] = refl
  slots-push k w (v ∷ vs) = ap (λ ss. Some v ∷ ss) (slots-push (suc k) w vs)

  pub slots-length : (k : ℕ) (vs : List T) (fs : List ℕ) → length (slots_from k vs fs) ≡ length vs
  slots-length k [] fs = refl
  slots-length k (v ∷ vs) fs = ap suc (slots-length (suc k) vs fs)

  -- what lies at one place

  read-slot : (b : Bool) (v : T) → is_some (slot_of b v) ≡ true → (slot_of b v ≡ Some v) × (b ≡ false)
  read-slot true v h = cc
  read-slot false v h = (refl, refl)

  pub slot-there : (k i p : ℕ) (vs : List T) (fs : List ℕ) → p ≡ k + i → is_some (slice_index_or (slots_from k vs fs) i None) ≡ true → (slice_index_or (slots_from k vs fs) i None ≡ slice_get vs i) × (is_among p fs ≡ false)
  slot-there k i p [] fs e h = cc
  slot-there k zero p (v ∷ vs) fs e h =
      let is : p ≡ k = omega (arith, e) in
      let r = read-slot (is_among k fs) v h in
      (r.0, rw is r.1)
  slot-there k (suc i) p (v ∷ vs) fs e h = slot-there (suc k) i p vs fs (omega (arith, e)) h

  pub set-here : (i : ℕ) (o : Option T) (ss : List (Option T)) → i < length ss → slice_index_or (slice_set ss i o) i None ≡ o
  set-here i o [] h = absurd (omega (arith, h))
  set-here zero o (s ∷ ss) h = refl
  set-here (suc i) o (s ∷ ss) h = set-here i o ss (omega (arith, h))

  pub set-there : (i m : ℕ) (o : Option T) (ss : List (Option T)) → m ≢ i → slice_index_or (slice_set ss i o) m None ≡ slice_index_or ss m None
  set-there i m o [] d = refl
  set-there zero zero o (s ∷ ss) d = absurd (d refl)
  set-there zero (suc m) o (s ∷ ss) d = refl
  set-there (suc i) zero o (s ∷ ss) d = refl
  set-there (suc i) (suc m) o (s ∷ ss) d = set-there i m o ss (λ e. d (ap suc e))

  pub end-here : (o : Option T) (ss : List (Option T)) → slice_index_or (ss ++ o ∷ []) (length ss) None ≡ o
  end-here o [] = refl
  end-here o (s ∷ ss) = end-here o ss

  pub end-there : (m : ℕ) (o : Option T) (ss : List (Option T)) → m ≢ length ss → slice_index_or (ss ++ o ∷ []) m None ≡ slice_index_or ss m None
  end-there zero o [] d = absurd (d refl)
  end-there (suc m) o [] d = refl
  end-there zero o (s ∷ ss) d = refl
  end-there (suc m) o (s ∷ ss) d = end-there m o ss (λ e. d (ap suc e))

  pub past-end : (ss : List (Option T)) → slice_index_or ss (length ss) None ≡ None
  past-end [] = refl
  past-end (s ∷ ss) = past-end ss

  -- how many there are

  pub count-set : (i : ℕ) (o : Option T) (ss : List (Option T)) → i < length ss → count_some (slice_set ss i o) + one_where_some (slice_index_or ss i None) ≡ count_some ss + one_where_some o
  count-set i o [] h = absurd (omega (arith, h))
  count-set zero o (s ∷ ss) h = omega arith
  count-set (suc i) o (s ∷ ss) h = let rest = count-set i o ss (omega (arith, h)) in omega (arith, rest)

  pub count-end : (o : Option T) (ss : List (Option T)) → count_some (ss ++ o ∷ []) ≡ count_some ss + one_where_some o
  count-end o [] = omega arith
  count-end o (s ∷ ss) = let rest = count-end o ss in omega (arith, rest)

  one-some : (o : Option T) → is_some o ≡ true → one_where_some o ≡ 1
  one-some None h = cc
  one-some (Some v) h = refl

  some-in : (i : ℕ) (ss : List (Option T)) → is_some (slice_index_or ss i None) ≡ true → i < length ss
  some-in i [] h = cc
  some-in zero (s ∷ ss) h = omega arith
  some-in (suc i) (s ∷ ss) h = let rest = some-in i ss h in omega (arith, rest)

  set-length : (i : ℕ) (w : T) (vs : List T) → length (slice_set vs i w) ≡ length vs
  set-length i w [] = refl
  set-length zero w (v ∷ vs) = refl
  set-length (suc i) w (v ∷ vs) = ap suc (set-length i w vs)

  pub place-in : (i : ℕ) (vs : List T) (fs : List ℕ) → is_some (slice_index_or (slots_from 0 vs fs) i None) ≡ true → i < length vs
  place-in i vs fs h = omega (arith, some-in i (slots_from 0 vs fs) h, slots-length 0 vs fs)

  -- a value is written
  pub shelf-written : (i : ℕ) (w : T) (vs : List T) (fs : List ℕ) (room : ℕ) → IsShelf vs fs room → is_some (slice_index_or (slots_from 0 vs fs) i None) ≡ true → IsShelf (slice_set vs i w) fs room
  shelf-written i w vs fs room s h =
      let there = slot-there 0 i i vs fs (omega arith) h in
      let long = set-length i w vs in
      let put = slots-put 0 i i w vs fs (omega arith) there.1 in
      let n = count-set i (Some w) (slots_from 0 vs fs) (some-in i (slots_from 0 vs fs) h) in
      let one = one-some (slice_index_or (slots_from 0 vs fs) i None) h in
      record { distinct = s.distinct; within = rw long s.within; count = rw (put, long) (omega (arith, n, one, s.count)); enough = rw long s.enough }

  -- a value is let go of
  pub shelf-freed : (i : ℕ) (vs : List T) (fs : List ℕ) (room : ℕ) → IsShelf vs fs room → is_some (slice_index_or (slots_from 0 vs fs) i None) ≡ true → IsShelf vs (fs ++ i ∷ []) room
  shelf-freed i vs fs room s h =
      let there = slot-there 0 i i vs fs (omega arith) h in
      let freed = slots-freed 0 i i vs fs (omega arith) in
      let n = count-set i None (slots_from 0 vs fs) (some-in i (slots_from 0 vs fs) h) in
      let one = one-some (slice_index_or (slots_from 0 vs fs) i None) h in
      record {
        distinct = distinct-push i fs s.distinct there.1;
        within = within-push (length vs) i fs s.within (place-in i vs fs h);
        count = rw freed (omega (arith, n, one, s.count, length-end i fs));
        enough = s.enough;
      }

  pub room-to_free : (i : ℕ) (vs : List T) (fs : List ℕ) (room : ℕ) → IsShelf vs fs room → is_some (slice_index_or (slots_from 0 vs fs) i None) ≡ true → length fs < room
  room-to_free i vs fs room s h =
      let n = count-set i None (slots_from 0 vs fs) (some-in i (slots_from 0 vs fs) h) in
      let one = one-some (slice_index_or (slots_from 0 vs fs) i None) h in
      omega (arith, n, one, s.count, s.enough)

  set-twice : (i : ℕ) (a b : Option T) (ss : List (Option T)) → slice_set (slice_set ss i a) i b ≡ slice_set ss i b
  set-twice i a b [] = refl
  set-twice zero a b (s ∷ ss) = refl
  set-twice (suc i) a b (s ∷ ss) = ap (λ ts. s ∷ ts) (set-twice i a b ss)

  -- a place is taken again

  pub again-slots : (i : ℕ) (w : T) (vs : List T) (fs : List ℕ) (room : ℕ) → IsShelf vs (fs ++ i ∷ []) room → slots_from 0 (slice_set vs i w) fs ≡ slice_set (slots_from 0 vs (fs ++ i ∷ [])) i (Some w)
  again-slots i w vs fs room s =
      let d = distinct-end i fs s.distinct in
      rw (slots-freed 0 i i vs fs (omega arith), set-twice i None (Some w) (slots_from 0 vs fs)) (slots-put 0 i i w vs fs (omega arith) d.1)

  pub again-vacant : (i : ℕ) (vs : List T) (fs : List ℕ) (room : ℕ) → IsShelf vs (fs ++ i ∷ []) room → slice_index_or (slots_from 0 vs (fs ++ i ∷ [])) i None ≡ None
  again-vacant i vs fs room s =
      let w = within-end (length vs) i fs s.within in
      rw (slots-freed 0 i i vs fs (omega arith)) (set-here i None (slots_from 0 vs fs) (omega (arith, w.1, slots-length 0 vs fs)))

  pub again-changed : (i : ℕ) (w : T) (vs : List T) (fs : List ℕ) (room : ℕ) → IsShelf vs (fs ++ i ∷ []) room → slice_index_or (slots_from 0 (slice_set vs i w) fs) i None ≡ Some w
  again-changed i w vs fs room s =
      let l = within-end (length vs) i fs s.within in
      rw (again-slots i w vs fs room s) (set-here i (Some w) (slots_from 0 vs (fs ++ i ∷ [])) (omega (arith, l.1, slots-length 0 vs (fs ++ i ∷ []))))

  pub again-others : (i m : ℕ) (w : T) (vs : List T) (fs : List ℕ) (room : ℕ) → IsShelf vs (fs ++ i ∷ []) room → m ≢ i → slice_index_or (slots_from 0 (slice_set vs i w) fs) m None ≡ slice_index_or (slots_from 0 vs (fs ++ i ∷ [])) m None
  again-others i m w vs fs room s d = rw (again-slots i w vs fs room s) (set-there i m (Some w) (slots_from 0 vs (fs ++ i ∷ [])) d)

  pub shelf-again : (i : ℕ) (w : T) (vs : List T) (fs : List ℕ) (room : ℕ) → IsShelf vs (fs ++ i ∷ []) room → IsShelf (slice_set vs i w) fs room
  shelf-again i w vs fs room s =
      let d = distinct-end i fs s.distinct in
      let l = within-end (length vs) i fs s.within in
      let long = set-length i w vs in
      let gone = again-vacant i vs fs room s in
      let none : one_where_some (slice_index_or (slots_from 0 vs (fs ++ i ∷ [])) i None) ≡ 0 = rw gone refl in
      let n = count-set i (Some w) (slots_from 0 vs (fs ++ i ∷ [])) (omega (arith, l.1, slots-length 0 vs (fs ++ i ∷ []))) in
      record {
        distinct = d.0;
        within = rw long l.0;
        count = rw (again-slots i w vs fs room s, long) (omega (arith, n, none, s.count, length-end i fs));
        enough = rw long s.enough;
      }

  -- a new place is taken

  pub shelf-new : (w : T) (vs : List T) (room : ℕ) → IsShelf vs [] room → length vs < room → IsShelf (vs ++ w ∷ []) [] room
  shelf-new w vs room s l =
      let long : length (vs ++ w ∷ []) ≡ length vs + 1 = length-more w vs in
      record {
        distinct = tt;
        within = tt;
        count = rw (slots-push 0 w vs, long) (omega (arith, count-end (Some w) (slots_from 0 vs []), s.count));
        enough = omega (arith, long, l);
      }
    where
      length-more : (w : T) (vs : List T) → length (vs ++ w ∷ []) ≡ length vs + 1
      length-more w [] = refl
      length-more w (v ∷ vs) = let rest = length-more w vs in omega (arith, rest)

  pub new-vacant : (n : ℕ) (vs : List T) → n ≡ length vs → slice_index_or (slots_from 0 vs []) n None ≡ None
  new-vacant n vs e = let is : n ≡ length (slots_from 0 vs []) = e ∙ sym (slots-length 0 vs []) in rw is (past-end (slots_from 0 vs []))

  pub new-changed : (n : ℕ) (w : T) (vs : List T) → n ≡ length vs → slice_index_or (slots_from 0 (vs ++ w ∷ []) []) n None ≡ Some w
  new-changed n w vs e = let is : n ≡ length (slots_from 0 vs []) = e ∙ sym (slots-length 0 vs []) in rw (is, slots-push 0 w vs) (end-here (Some w) (slots_from 0 vs []))

  pub new-others : (n m : ℕ) (w : T) (vs : List T) → n ≡ length vs → m ≢ n → slice_index_or (slots_from 0 (vs ++ w ∷ []) []) m None ≡ slice_index_or (slots_from 0 vs []) m None
  new-others n m w vs e d = let is : n ≡ length (slots_from 0 vs []) = e ∙ sym (slots-length 0 vs []) in rw (slots-push 0 w vs) (end-there m (Some w) (slots_from 0 vs []) (λ f. d (f ∙ sym is)))

  -- what a call finds, where these are the places that were let go of

  pub sound-left : (vs : List T) (fs gs : List ℕ) (room : ℕ) → fs ≡ gs → IsShelf vs fs room → IsShelf vs gs room
  sound-left vs fs gs room e s = rw (← e) s

  pub left-vacant : (i : ℕ) (vs : List T) (fs gs : List ℕ) (room : ℕ) (ss : List (Option T)) → fs ≡ gs ++ i ∷ [] → slots_from 0 vs fs ≡ ss → IsShelf vs fs room → slice_index_or ss i None ≡ None
  left-vacant i vs fs gs room ss e shown s =
      let sound = sound-left vs fs (gs ++ i ∷ []) room e s in
      rw (← shown, e) (again-vacant i vs gs room sound)

  pub left-others : (i m : ℕ) (w : T) (vs : List T) (fs gs : List ℕ) (room : ℕ) (ss : List (Option T)) → fs ≡ gs ++ i ∷ [] → slots_from 0 vs fs ≡ ss → IsShelf vs fs room → m ≢ i
      → slice_index_or (slots_from 0 (slice_set vs i w) gs) m None ≡ slice_index_or ss m None
  left-others i m w vs fs gs room ss e shown s d =
      let sound = sound-left vs fs (gs ++ i ∷ []) room e s in
      rw (← shown, e) (again-others i m w vs gs room sound d)

  pub full-vacant : (n : ℕ) (vs : List T) (fs : List ℕ) (ss : List (Option T)) → length fs ≡ 0 → slots_from 0 vs fs ≡ ss → n ≡ length vs → slice_index_or ss n None ≡ None
  full-vacant n vs fs ss z shown e = rw (← shown, nothing fs z) (new-vacant n vs e)

  pub full-changed : (n : ℕ) (w : T) (vs us : List T) (gs : List ℕ) → length gs ≡ 0 → us ≡ vs ++ w ∷ [] → n ≡ length vs → slice_index_or (slots_from 0 us gs) n None ≡ Some w
  full-changed n w vs us gs z is e = rw (is, nothing gs z) (new-changed n w vs e)

  pub full-others : (n m : ℕ) (w : T) (vs us : List T) (fs gs : List ℕ) (ss : List (Option T)) → length fs ≡ 0 → length gs ≡ 0 → slots_from 0 vs fs ≡ ss → us ≡ vs ++ w ∷ [] → n ≡ length vs → m ≢ n
      → slice_index_or (slots_from 0 us gs) m None ≡ slice_index_or ss m None
  full-others n m w vs us fs gs ss y z shown is e d = rw (← shown, is, nothing fs y, nothing gs z) (new-others n m w vs e d)

  pub shelf-full : (w : T) (vs us : List T) (fs gs : List ℕ) (room : ℕ) → length fs ≡ 0 → length gs ≡ 0 → us ≡ vs ++ w ∷ [] → IsShelf vs fs room → length vs < room → IsShelf us gs room
  shelf-full w vs us fs gs room y z is s l =
      let empty = sound-left vs fs [] room (nothing fs y) s in
      rw (is, nothing gs z) (shelf-new w vs room empty l)
