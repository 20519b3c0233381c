use Rattle.std.proofs.Common.{◌≡◌, ℕ, List, [], ◌∷◌, ◌++◌, refl, sym, ap, ◌∙◌, subst}
use Rattle.ws_flow.specs.Machines.{Kept, Machine, end_mark, piece, more, through, keeps, or_else, verdict, all_through}
use Rattle.ws_flow.specs.Told.{Mark, Open, Closed, Broken, Lost, Told, told, goes_on, then_told, IsFront, CutShort, IsShortOf, Begins, IsBefore}
use Rattle.ws_flow.proofs.Told.{then_assoc, short_refl, short_left, before_of_short, before_refl, before_trans, before_then}
use Rattle.ws_flow.specs.declared.plan.Ending.TheVariants.{Fine, Bad}
use Rattle.ws_flow.specs.declared.plan.Ending.{Ending}

-- what comes of more is what came, and then what comes of the rest
more_append : (m : Machine) (k : Kept) (cs ds : List (List ℕ)) (e : Mark) → more m k (cs ++ ds) e ≡ then_told (more m k cs Open) (more m (keeps m k cs) ds e)
more_append m k [] ds e = refl
more_append m k (c ∷ cs) ds e =
    ap (λ q. then_told (piece (m.push k c)) q) (more_append m (m.push k c).kept cs ds e)
    ∙ sym (then_assoc (piece (m.push k c)) (more m (m.push k c).kept cs Open) (more m (keeps m (m.push k c).kept cs) ds e))

pub keeps_append : (m : Machine) (k : Kept) (cs ds : List (List ℕ)) → keeps m k (cs ++ ds) ≡ keeps m (keeps m k cs) ds
keeps_append m k [] ds = refl
keeps_append m k (c ∷ cs) ds = keeps_append m (m.push k c).kept cs ds

or_else_assoc : (a b c : Ending) → or_else (or_else a b) c ≡ or_else a (or_else b c)
or_else_assoc Fine b c = refl
or_else_assoc (Bad n p) b c = refl

-- the verdict over more
pub verdict_then : (m : Machine) (k : Kept) (cs ds : List (List ℕ)) (e : Mark) → verdict m k (cs ++ ds) e ≡ or_else (verdict m k cs Open) (verdict m (keeps m k cs) ds e)
verdict_then m k [] ds e = refl
verdict_then m k (c ∷ cs) ds e = ap (λ q. or_else (m.push k c).ending q) (verdict_then m (m.push k c).kept cs ds e) ∙ sym (or_else_assoc (m.push k c).ending (verdict m (m.push k c).kept cs Open) (verdict m (keeps m (m.push k c).kept cs) ds e))

pub verdict_append : (m : Machine) (k : Kept) (cs ds : List (List ℕ)) (e : Mark) → verdict m k cs Open ≡ Fine → verdict m k (cs ++ ds) e ≡ verdict m (keeps m k cs) ds e
verdict_append m k cs ds e f = verdict_then m k cs ds e ∙ ap (λ q. or_else q (verdict m (keeps m k cs) ds e)) f

pub after_end : (m : Machine) (k : Kept) (cs : List (List ℕ)) (y : Told (List ℕ)) → then_told (more m k cs Lost) y ≡ more m k cs Lost
after_end m k [] y = refl
after_end m k (c ∷ cs) y = then_assoc (piece (m.push k c)) (more m (m.push k c).kept cs Lost) y ∙ ap (λ q. then_told (piece (m.push k c)) q) (after_end m (m.push k c).kept cs y)

pub after_break : (m : Machine) (k : Kept) (cs : List (List ℕ)) (y : Told (List ℕ)) → then_told (more m k cs Broken) y ≡ more m k cs Broken
after_break m k [] y = refl
after_break m k (c ∷ cs) y = then_assoc (piece (m.push k c)) (more m (m.push k c).kept cs Broken) y ∙ ap (λ q. then_told (piece (m.push k c)) q) (after_break m (m.push k c).kept cs y)

flushed_end : (xs : List (List ℕ)) (e : Ending) (y : Told (List ℕ)) → goes_on xs (end_mark e) y ≡ told xs (end_mark e)
flushed_end xs Fine y = refl
flushed_end xs (Bad c p) y = refl

pub after_close : (m : Machine) (k : Kept) (cs : List (List ℕ)) (y : Told (List ℕ)) → then_told (more m k cs Closed) y ≡ more m k cs Closed
after_close m k [] y = flushed_end (m.flush k).chunks (m.flush k).ending y
after_close m k (c ∷ cs) y = then_assoc (piece (m.push k c)) (more m (m.push k c).kept cs Closed) y ∙ ap (λ q. then_told (piece (m.push k c)) q) (after_close m (m.push k c).kept cs y)

through_by : (m : Machine) (k : Kept) (xs : List (List ℕ)) (n : Mark) (y : Told (List ℕ)) → through m k (goes_on xs n y) ≡ then_told (more m k xs n) (through m (keeps m k xs) y)
through_by m k xs Open y = more_append m k xs y.items y.mark
through_by m k xs Closed y = sym (after_close m k xs (through m (keeps m k xs) y))
through_by m k xs Broken y = sym (after_break m k xs (through m (keeps m k xs) y))
through_by m k xs Lost y = sym (after_end m k xs (through m (keeps m k xs) y))

pub through_then : (m : Machine) (k : Kept) (x y : Told (List ℕ)) → through m k (then_told x y) ≡ then_told (through m k x) (through m (keeps m k x.items) y)
through_then m k x y = through_by m k x.items x.mark y

-- what comes of a part is before what comes of the whole
open_before : (m : Machine) (k : Kept) (xs ys : List (List ℕ)) (e : Mark) → IsFront xs ys → IsBefore (more m k xs Open) (more m k ys e)
open_before m k xs ys e (r, f) = subst (λ q. IsBefore (more m k xs Open) (more m k q e)) (sym f) (subst (λ q. IsBefore (more m k xs Open) q) (sym (more_append m k xs r e)) (before_then (more m k xs Open) (more m (keeps m k xs) r e)))

lost_as_open : (m : Machine) (k : Kept) (xs : List (List ℕ)) → IsShortOf (more m k xs Lost) (more m k xs Open)
lost_as_open m k [] = ([], refl)
lost_as_open m k (c ∷ cs) = short_left (piece (m.push k c)) (more m (m.push k c).kept cs Lost) (more m (m.push k c).kept cs Open) (lost_as_open m (m.push k c).kept cs)

through_before_by : (m : Machine) (k : Kept) (xs : List (List ℕ)) (n : Mark) (y : Told (List ℕ)) → Begins xs n y → IsBefore (more m k xs n) (through m k y)
through_before_by m k xs Open y f = open_before m k xs y.items y.mark f
through_before_by m k xs Closed y (a, b) = subst (λ q. IsBefore (more m k xs Closed) (more m k q y.mark)) (sym a) (subst (λ q. IsBefore (more m k xs Closed) (more m k xs q)) (sym b) (before_refl (more m k xs Closed)))
through_before_by m k xs Broken y (a, b) = subst (λ q. IsBefore (more m k xs Broken) (more m k q y.mark)) (sym a) (subst (λ q. IsBefore (more m k xs Broken) (more m k xs q)) (sym b) (before_refl (more m k xs Broken)))
through_before_by m k xs Lost y f = before_trans (more m k xs Lost) (more m k xs Open) (through m k y) (before_of_short (more m k xs Lost) (more m k xs Open) (lost_as_open m k xs)) (open_before m k xs y.items y.mark f)

pub through_before : (m : Machine) (k : Kept) (x y : Told (List ℕ)) → IsBefore x y → IsBefore (through m k x) (through m k y)
through_before m k x y = through_before_by m k x.items x.mark y

-- the same for what is cut short
lost_short : (m : Machine) (k : Kept) (xs r : List (List ℕ)) (e : Mark) → IsShortOf (more m k xs Lost) (more m k (xs ++ r) e)
lost_short m k [] r e = (_, refl)
lost_short m k (c ∷ cs) r e = short_left (piece (m.push k c)) (more m (m.push k c).kept cs Lost) (more m (m.push k c).kept (cs ++ r) e) (lost_short m (m.push k c).kept cs r e)

through_short_by : (m : Machine) (k : Kept) (xs : List (List ℕ)) (n : Mark) (y : Told (List ℕ)) → CutShort xs n y → IsShortOf (more m k xs n) (through m k y)
through_short_by m k xs Open y (a, b) = subst (λ q. IsShortOf (more m k xs Open) (more m k q y.mark)) (sym a) (subst (λ q. IsShortOf (more m k xs Open) (more m k xs q)) (sym b) (short_refl (more m k xs Open)))
through_short_by m k xs Closed y (a, b) = subst (λ q. IsShortOf (more m k xs Closed) (more m k q y.mark)) (sym a) (subst (λ q. IsShortOf (more m k xs Closed) (more m k xs q)) (sym b) (short_refl (more m k xs Closed)))
through_short_by m k xs Broken y (a, b) = subst (λ q. IsShortOf (more m k xs Broken) (more m k q y.mark)) (sym a) (subst (λ q. IsShortOf (more m k xs Broken) (more m k xs q)) (sym b) (short_refl (more m k xs Broken)))
through_short_by m k xs Lost y (r, f) = subst (λ q. IsShortOf (more m k xs Lost) (more m k q y.mark)) (sym f) (lost_short m k xs r y.mark)

pub through_short : (m : Machine) (k : Kept) (x y : Told (List ℕ)) → IsShortOf x y → IsShortOf (through m k x) (through m k y)
through_short m k x y = through_short_by m k x.items x.mark y

-- for a part of a plan
pub all_before : (ms : List Machine) (x y : Told (List ℕ)) → IsBefore x y → IsBefore (all_through ms x) (all_through ms y)
all_before [] x y h = h
all_before (m ∷ ms) x y h = all_before ms (through m m.start x) (through m m.start y) (through_before m m.start x y h)

pub all_short : (ms : List Machine) (x y : Told (List ℕ)) → IsShortOf x y → IsShortOf (all_through ms x) (all_through ms y)
all_short [] x y h = h
all_short (m ∷ ms) x y h = all_short ms (through m m.start x) (through m m.start y) (through_short m m.start x y h)

pub all_append : (ms ns : List Machine) (x : Told (List ℕ)) → all_through (ms ++ ns) x ≡ all_through ns (all_through ms x)
all_append [] ns x = refl
all_append (m ∷ ms) ns x = all_append ms ns (through m m.start x)
