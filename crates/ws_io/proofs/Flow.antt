-- What two calls after each other did to a source or a sink.
use Rattle.std.proofs.Common.{◌≡◌, inl, inr, arith, ℕ, Bool, List, [], ◌∷◌, ◌++◌, refl, sym, ◌∙◌, subst, ap, append_assoc, append-nil}
use Rattle.std.specs.Prelude.{Option, Some, None}
use Rattle.ws_io.specs.Faults.{IsLater, Rose}
use Rattle.ws_io.specs.Feed.{Feed, Fed, IsEmpty}
use Rattle.ws_io.specs.Gain.{Gains, Got, IsEmptied, KeepsTold, Becomes, straight}

pub Gains-nothing : (p : Got) → Gains p p []
Gains-nothing p =
    record { went = []; grows = λ xs h. subst p.out (sym (append-nil xs)) h; behind = append-nil p.held }

pub Gains-then : (p q r : Got) (xs ys : List ℕ) → Gains p q xs → Gains q r ys → Gains p r (xs ++ ys)
Gains-then p q r xs ys a b =
    record {
      went = a.went ++ b.went;
      grows = λ zs h. subst r.out (append_assoc zs a.went b.went) (b.grows (zs ++ a.went) (a.grows zs h));
      behind =
          sym (append_assoc p.held xs ys) ∙ ap (λ (zs : List ℕ). zs ++ ys) a.behind ∙ append_assoc a.went q.held ys
          ∙ ap (λ (zs : List ℕ). a.went ++ zs) b.behind ∙ sym (append_assoc a.went b.went r.held);
    }

-- nothing more was taken then
pub Gains-still : (p q r : Got) (xs : List ℕ) → Gains p q xs → Gains q r [] → Gains p r xs
Gains-still p q r xs a b = subst (λ (ys : List ℕ). Gains p r ys) (append-nil xs) (Gains-then p q r xs [] a b)

-- of a sink that holds nothing back
pub Gains-straight : (p q : List ℕ → Type 0) (gain : List ℕ) → ((xs : List ℕ) → p xs → q (xs ++ gain)) → Gains (straight p) (straight q) gain
Gains-straight p q gain h = record { went = gain; grows = h; behind = sym (append-nil gain) }

pub Fed-nothing : (f : Option Feed) → Fed f f []
Fed-nothing None = tt
Fed-nothing (Some f) = record { taken = sym (append-nil f.taken); left = refl }

pub Fed-then : (f g h : Option Feed) (xs ys : List ℕ) → Fed f g xs → Fed g h ys → Fed f h (xs ++ ys)
Fed-then None None None xs ys a b = tt
Fed-then None None (Some h) xs ys a b = absurd b
Fed-then None (Some g) h xs ys a b = absurd a
Fed-then (Some f) None h xs ys a b = absurd a
Fed-then (Some f) (Some g) None xs ys a b = absurd b
Fed-then (Some f) (Some g) (Some h) xs ys a b =
    record {
      taken = rw (b.taken, a.taken) (append_assoc f.taken xs ys);
      left = rw (a.left, b.left) (sym (append_assoc xs ys h.left));
    }

pub KeepsTold-same : (a : Option Bool) → KeepsTold a a
KeepsTold-same None = tt
KeepsTold-same (Some a) = refl

pub KeepsTold-then : (a b c : Option Bool) → KeepsTold a b → KeepsTold b c → KeepsTold a c
KeepsTold-then None None None p q = tt
KeepsTold-then None None (Some c) p q = absurd q
KeepsTold-then None (Some b) c p q = absurd p
KeepsTold-then (Some a) None c p q = absurd p
KeepsTold-then (Some a) (Some b) None p q = absurd q
KeepsTold-then (Some a) (Some b) (Some c) p q = q ∙ p

nil_end : (xs ys : List ℕ) → [] ≡ xs ++ ys → ys ≡ []
nil_end [] ys e = sym e
nil_end (x ∷ xs) ys e = cc

-- where nothing was held back, and nothing more was taken, nothing is
pub IsEmptied-kept : (p q : Got) → Gains p q [] → IsEmptied p → IsEmptied q
IsEmptied-kept p q g e = nil_end g.went q.held (sym e ∙ (sym (append-nil p.held) ∙ g.behind))

-- a count that rose since a later moment rose since an earlier one
pub rose-later : (a b c : ℕ) → IsLater a b → Rose b c → Rose a c
rose-later a b c (inl same) rose = omega arith
rose-later a b c (inr first) rose = omega arith

-- what is told stays, so it is the same
pub told-same : (a b : Option Bool) → KeepsTold a b → b ≡ a
told-same None None k = refl
told-same None (Some b) k = absurd k
told-same (Some a) None k = absurd k
told-same (Some a) (Some b) k = ap Some k

-- a source that has nothing left has nothing left afterwards
pub IsEmpty-kept : (f g : Option Feed) (xs : List ℕ) → IsEmpty f → Fed f g xs → IsEmpty g
IsEmpty-kept None None xs e fed = tt
IsEmpty-kept None (Some g) xs e fed = absurd fed
IsEmpty-kept (Some f) None xs e fed = absurd fed
IsEmpty-kept (Some f) (Some g) xs e fed = nil_end xs g.left (sym e ∙ fed.left)

pub Becomes-then : (a b c : Option Bool) → KeepsTold a b → Becomes b c → Becomes a c
Becomes-then None None c p q = q
Becomes-then None (Some b) c p q = absurd p
Becomes-then (Some a) None c p q = absurd p
Becomes-then (Some a) (Some b) None p q = absurd q
Becomes-then (Some a) (Some b) (Some c) p q = q
