-- Elements of a list by their numbers, and one that is put in the place of another.
use Rattle.std.proofs.Common.{◌≡◌, ◌<◌, ℕ, zero, suc, List, [], ◌∷◌, length, map, Some, refl, sym, ap, ◌∙◌, arith}
use Rattle.std.specs.Prelude.{slice_get, slice_set, slice_index_or}

pub stands-at : {X : Type 0} (xs : List X) (i : ℕ) (x d : X) → i < length xs → x ≡ slice_index_or xs i d → slice_get xs i ≡ Some x
stands-at [] i x d there is = absurd (omega arith)
stands-at (y ∷ ys) zero x d there is = ap (λ z. Some z) (sym is)
stands-at (y ∷ ys) (suc i) x d there is = stands-at ys i x d (omega arith) is

pub get-map : {X Y : Type 0} (f : X → Y) (xs : List X) (i : ℕ) (x : X) → slice_get xs i ≡ Some x → slice_get (map f xs) i ≡ Some (f x)
get-map f [] i x is = cc
get-map f (y ∷ ys) zero x is = let same : y ≡ x = cc in ap (λ z. Some (f z)) same
get-map f (y ∷ ys) (suc i) x is = get-map f ys i x is

pub put-is : {X : Type 0} (xs : List X) (i : ℕ) (y x : X) → slice_get (slice_set xs i y) i ≡ Some x → y ≡ x
put-is [] i y x is = cc
put-is (z ∷ zs) zero y x is = cc
put-is (z ∷ zs) (suc i) y x is = put-is zs i y x is

pub map-put : {X Y : Type 0} (f : X → Y) (xs : List X) (i : ℕ) (x y : X) → slice_get xs i ≡ Some x → f y ≡ f x → map f (slice_set xs i y) ≡ map f xs
map-put f [] i x y is same = refl
map-put f (z ∷ zs) zero x y is same = let first : z ≡ x = cc in ap (λ w. w ∷ map f zs) (same ∙ ap f (sym first))
map-put f (z ∷ zs) (suc i) x y is same = ap (λ ws. f z ∷ ws) (map-put f zs i x y is same)
