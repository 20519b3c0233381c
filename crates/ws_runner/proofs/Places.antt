-- The nodes of workers at their places.
use Rattle.std.proofs.Common.{◌≡◌, ℕ, zero, suc, Bool, List, [], ◌∷◌, ◌++◌, length, get_or, set, take, drop, refl, sym, ap, ◌∙◌}
use Rattle.std.proofs.Math.Seq.{take-append_seam}
use Rattle.ws_node.specs.declared.node.Node.{Node}
use Rattle.ws_node.specs.Nodes.{Each, MiddleGoes, of_neither, any_bytes}
use Rattle.ws_node.proofs.Going.{went-then}
use Rattle.ws_runner.specs.Place.{ArePlacesOf, IsPlaceOf, Moves, Yields}
use Rattle.ws_runner.specs.declared.place.Place.{Place}
use Rattle.ws_runner.specs.declared.place.Place.TheVariants.{Here}

-- one node goes on, and then again
pub middle-then : (a b c : Node) → MiddleGoes a b → MiddleGoes b c → MiddleGoes a c
middle-then a b c e f = went-then a b c of_neither of_neither of_neither any_bytes any_bytes any_bytes e f

-- lists of which each element of the one has to do with that of the other

pub each-snoc : {A B : Type 0} (R : A → B → Type 0) (xs : List A) (ys : List B) (x : A) (y : B) → Each R xs ys → R x y → Each R (xs ++ x ∷ []) (ys ++ y ∷ [])
each-snoc R [] [] x y e r = (r, tt)
each-snoc R [] (b ∷ ys) x y e r = absurd e
each-snoc R (a ∷ xs) [] x y e r = absurd e
each-snoc R (a ∷ xs) (b ∷ ys) x y (e, es) r = (e, each-snoc R xs ys x y es r)

pub each-length : {A B : Type 0} (R : A → B → Type 0) (xs : List A) (ys : List B) → Each R xs ys → length ys ≡ length xs
each-length R [] [] e = refl
each-length R [] (b ∷ ys) e = absurd e
each-length R (a ∷ xs) [] e = absurd e
each-length R (a ∷ xs) (b ∷ ys) (e, es) = ap suc (each-length R xs ys es)

pub each-through : {A B C : Type 0} (R : A → B → Type 0) (Q : B → C → Type 0) (S : A → C → Type 0) → ((a : A) (b : B) (c : C) → R a b → Q b c → S a c)
    → (xs : List A) (ys : List B) (zs : List C) → Each R xs ys → Each Q ys zs → Each S xs zs
each-through R Q S t [] [] [] e f = tt
each-through R Q S t [] [] (c ∷ zs) e f = absurd f
each-through R Q S t [] (b ∷ ys) zs e f = absurd e
each-through R Q S t (a ∷ xs) [] zs e f = absurd e
each-through R Q S t (a ∷ xs) (b ∷ ys) [] e f = absurd f
each-through R Q S t (a ∷ xs) (b ∷ ys) (c ∷ zs) (e, es) (f, fs) = (t a b c e f, each-through R Q S t xs ys zs es fs)

-- what is at places

pub stays : (p : Place) → Moves p p
stays p a e = e

pub moves-same : (ps : List Place) → Each Moves ps ps
moves-same [] = tt
moves-same (p ∷ ps) = (stays p, moves-same ps)

pub moves-then : (ps qs rs : List Place) → Each Moves ps qs → Each Moves qs rs → Each Moves ps rs
moves-then = each-through Moves Moves Moves (λ p q r f g a e. g a (f a e))

pub moves-set : (ps qs : List Place) (i : ℕ) (d q : Place) → Each Moves ps qs → Moves (get_or qs i d) q → Each Moves ps (set qs i q)
moves-set ps [] i d q e to = e
moves-set [] (b ∷ qs) i d q e to = absurd e
moves-set (a ∷ ps) (b ∷ qs) zero d q (e, es) to = ((λ x at. to x (e x at)), es)
moves-set (a ∷ ps) (b ∷ qs) (suc i) d q (e, es) to = (e, moves-set ps qs i d q es to)

-- the caller drives the node at one place
pub moves-on : (worker worker' : ℕ) (n m : Node) (over over' : Bool) → MiddleGoes n m → Moves (Here worker n over) (Here worker' m over')
moves-on worker worker' n m over over' e a at = middle-then a n m at e

-- places that went on are still places of the same nodes
pub still-places : (xs : List Node) (ps qs : List Place) → ArePlacesOf xs ps → Each Moves ps qs → ArePlacesOf xs qs
still-places = each-through IsPlaceOf Moves IsPlaceOf (λ a p q at to. to a at)

-- and the nodes come back from there
pub come-back : (xs : List Node) (ps : List Place) (ns : List Node) → ArePlacesOf xs ps → Each Yields ps ns → Each MiddleGoes xs ns
come-back = each-through IsPlaceOf Yields MiddleGoes (λ a p n at to. to a at)

-- what a slice that was lent left in its Vec
pub left-in : {A : Type 0} (new old : List A) (n : ℕ) → length new ≡ length old → n ≡ length old → take n (new ++ drop (length new) old) ≡ new
left-in new old n same is = rw (is ∙ sym same) (take-append_seam new (drop (length new) old))
