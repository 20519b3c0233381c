use Rattle.std.proofs.Common.{◌≡◌, ◌≢◌, List, [], ◌++◌, refl, sym, ap, ◌∙◌, subst, append_assoc, append-nil, arith}
use Rattle.ws_flow.specs.Told.{Mark, Open, Closed, Broken, Lost, Told, told, goes_on, then_told, IsFront, CutShort, IsShortOf, Begins, IsBefore}

pub then_assoc : {A : Type 0} (x y z : Told A) → then_told (then_told x y) z ≡ then_told x (then_told y z)
then_assoc x y z = grind (arith, append_assoc)

pub then_empty : {A : Type 0} (x : Told A) → then_told x (told [] Open) ≡ x
then_empty x = grind (arith, append-nil)

by_parts : {A : Type 0} (x : Told A) (xs : List A) (m : Mark) → x.items ≡ xs → x.mark ≡ m → x ≡ told xs m
by_parts x xs m e f = grind arith

-- what is short of y
pub short_refl_by : {A : Type 0} (xs : List A) (m : Mark) → CutShort xs m (told xs m)
short_refl_by xs Open = (refl, refl)
short_refl_by xs Closed = (refl, refl)
short_refl_by xs Broken = (refl, refl)
short_refl_by xs Lost = ([], sym (append-nil xs))

pub short_refl : {A : Type 0} (x : Told A) → IsShortOf x x
short_refl x = short_refl_by x.items x.mark

pub short_trans_by : {A : Type 0} (xs : List A) (m : Mark) (ys : List A) (n : Mark) (z : Told A) → CutShort xs m (told ys n) → CutShort ys n z → CutShort xs m z
short_trans_by xs Open ys Open z (a, b) (c, d) = (c ∙ a, d)
short_trans_by xs Open ys Closed z h g = grind arith
short_trans_by xs Open ys Broken z h g = grind arith
short_trans_by xs Open ys Lost z h g = grind arith
short_trans_by xs Closed ys Closed z (a, b) (c, d) = (c ∙ a, d)
short_trans_by xs Closed ys Open z h g = grind arith
short_trans_by xs Closed ys Broken z h g = grind arith
short_trans_by xs Closed ys Lost z h g = grind arith
short_trans_by xs Broken ys Broken z (a, b) (c, d) = (c ∙ a, d)
short_trans_by xs Broken ys Open z h g = grind arith
short_trans_by xs Broken ys Closed z h g = grind arith
short_trans_by xs Broken ys Lost z h g = grind arith
short_trans_by xs Lost ys Open z (r, e) (c, d) = (r, c ∙ e)
short_trans_by xs Lost ys Closed z (r, e) (c, d) = (r, c ∙ e)
short_trans_by xs Lost ys Broken z (r, e) (c, d) = (r, c ∙ e)
short_trans_by xs Lost ys Lost z (r, e) (s, f) = (r ++ s, f ∙ ap (λ q. q ++ s) e ∙ append_assoc xs r s)

pub short_trans : {A : Type 0} (x y z : Told A) → IsShortOf x y → IsShortOf y z → IsShortOf x z
short_trans x y z = short_trans_by x.items x.mark y.items y.mark z

pub short_same : {A : Type 0} (x y z : Told A) → x ≡ y → IsShortOf y z → IsShortOf x z
short_same x y z e = subst (λ q. IsShortOf q z) (sym e)

pub short_as : {A : Type 0} (x y z : Told A) → y ≡ z → IsShortOf x y → IsShortOf x z
short_as x y z e = subst (λ q. IsShortOf x q) e

pub short_left_by : {A : Type 0} (ys : List A) (m : Mark) (xs : List A) (z : Told A) → CutShort ys m z → CutShort (xs ++ ys) m (told (xs ++ z.items) z.mark)
short_left_by ys Open xs z (a, b) = (ap (λ q. xs ++ q) a, b)
short_left_by ys Closed xs z (a, b) = (ap (λ q. xs ++ q) a, b)
short_left_by ys Broken xs z (a, b) = (ap (λ q. xs ++ q) a, b)
short_left_by ys Lost xs z (r, e) = (r, ap (λ q. xs ++ q) e ∙ sym (append_assoc xs ys r))

short_left_mark : {A : Type 0} (xs : List A) (m : Mark) (y z : Told A) → IsShortOf y z → IsShortOf (goes_on xs m y) (goes_on xs m z)
short_left_mark xs Open y z h = short_left_by y.items y.mark xs z h
short_left_mark xs Closed y z h = (refl, refl)
short_left_mark xs Broken y z h = (refl, refl)
short_left_mark xs Lost y z h = ([], sym (append-nil xs))

pub short_left : {A : Type 0} (x y z : Told A) → IsShortOf y z → IsShortOf (then_told x y) (then_told x z)
short_left x y z = short_left_mark x.items x.mark y z

short_front : {A : Type 0} (xs r ys : List A) (n : Mark) (z : Told A) → ys ≡ xs ++ r → IsFront xs (goes_on ys n z).items
short_front xs r ys Open z e = (r ++ z.items, ap (λ q. q ++ z.items) e ∙ append_assoc xs r z.items)
short_front xs r ys Closed z e = (r, e)
short_front xs r ys Broken z e = (r, e)
short_front xs r ys Lost z e = (r, e)

short_right_by : {A : Type 0} (xs : List A) (m : Mark) (ys : List A) (n : Mark) (z : Told A) → CutShort xs m (told ys n) → IsShortOf (goes_on xs m z) (goes_on ys n z)
short_right_by xs Open ys Open z (a, b) = short_as (told (xs ++ z.items) z.mark) _ (told (ys ++ z.items) z.mark) (ap (λ q. told (q ++ z.items) z.mark) (sym a)) (short_refl (told (xs ++ z.items) z.mark))
short_right_by xs Closed ys Closed z (a, b) = (a, refl)
short_right_by xs Broken ys Broken z (a, b) = (a, refl)
short_right_by xs Open ys Closed z (a, b) = grind arith
short_right_by xs Open ys Broken z (a, b) = grind arith
short_right_by xs Open ys Lost z (a, b) = grind arith
short_right_by xs Closed ys Open z (a, b) = grind arith
short_right_by xs Closed ys Broken z (a, b) = grind arith
short_right_by xs Closed ys Lost z (a, b) = grind arith
short_right_by xs Broken ys Open z (a, b) = grind arith
short_right_by xs Broken ys Closed z (a, b) = grind arith
short_right_by xs Broken ys Lost z (a, b) = grind arith
short_right_by xs Lost ys n z (r, e) = short_front xs r ys n z e

pub short_right : {A : Type 0} (x y z : Told A) → IsShortOf x y → IsShortOf (then_told x z) (then_told y z)
short_right x y z = short_right_by x.items x.mark y.items y.mark z

-- where nothing was lost, it is all
short_all_by : {A : Type 0} (xs : List A) (m : Mark) (y : Told A) → CutShort xs m y → m ≢ Lost → told xs m ≡ y
short_all_by xs Open y (a, b) h = sym (by_parts y xs Open a b)
short_all_by xs Closed y (a, b) h = sym (by_parts y xs Closed a b)
short_all_by xs Broken y (a, b) h = sym (by_parts y xs Broken a b)
short_all_by xs Lost y f h = grind arith

pub short_all : {A : Type 0} (x y : Told A) → IsShortOf x y → x.mark ≢ Lost → x ≡ y
short_all x y = short_all_by x.items x.mark y

-- what is before y
pub before_of_short_by : {A : Type 0} (xs : List A) (m : Mark) (y : Told A) → CutShort xs m y → Begins xs m y
before_of_short_by xs Open y (a, b) = ([], a ∙ sym (append-nil xs))
before_of_short_by xs Closed y h = h
before_of_short_by xs Broken y h = h
before_of_short_by xs Lost y h = h

pub before_of_short : {A : Type 0} (x y : Told A) → IsShortOf x y → IsBefore x y
before_of_short x y = before_of_short_by x.items x.mark y

pub before_refl : {A : Type 0} (x : Told A) → IsBefore x x
before_refl x = before_of_short x x (short_refl x)

front_of : {A : Type 0} (xs : List A) (m : Mark) (y : Told A) → Begins xs m y → IsFront xs y.items
front_of xs Open y h = h
front_of xs Lost y h = h
front_of xs Closed y (a, b) = ([], a ∙ sym (append-nil xs))
front_of xs Broken y (a, b) = ([], a ∙ sym (append-nil xs))

pub before_front : {A : Type 0} (x y : Told A) → IsBefore x y → IsFront x.items y.items
before_front x y = front_of x.items x.mark y

pub front_trans : {A : Type 0} (xs ys zs : List A) → IsFront xs ys → IsFront ys zs → IsFront xs zs
front_trans xs ys zs (r, e) (s, f) = (r ++ s, f ∙ ap (λ q. q ++ s) e ∙ append_assoc xs r s)

before_trans_by : {A : Type 0} (xs : List A) (m : Mark) (ys : List A) (n : Mark) (z : Told A) → Begins xs m (told ys n) → Begins ys n z → Begins xs m z
before_trans_by xs Open ys n z h g = front_trans xs ys z.items h (front_of ys n z g)
before_trans_by xs Lost ys n z h g = front_trans xs ys z.items h (front_of ys n z g)
before_trans_by xs Closed ys Closed z (a, b) (c, d) = (c ∙ a, d)
before_trans_by xs Closed ys Open z (a, b) g = grind arith
before_trans_by xs Closed ys Broken z (a, b) g = grind arith
before_trans_by xs Closed ys Lost z (a, b) g = grind arith
before_trans_by xs Broken ys Broken z (a, b) (c, d) = (c ∙ a, d)
before_trans_by xs Broken ys Open z (a, b) g = grind arith
before_trans_by xs Broken ys Closed z (a, b) g = grind arith
before_trans_by xs Broken ys Lost z (a, b) g = grind arith

pub before_trans : {A : Type 0} (x y z : Told A) → IsBefore x y → IsBefore y z → IsBefore x z
before_trans x y z = before_trans_by x.items x.mark y.items y.mark z

-- what was told is before what is told in the end
before_then_by : {A : Type 0} (xs : List A) (m : Mark) (y : Told A) → Begins xs m (goes_on xs m y)
before_then_by xs Open y = (y.items, refl)
before_then_by xs Closed y = (refl, refl)
before_then_by xs Broken y = (refl, refl)
before_then_by xs Lost y = ([], sym (append-nil xs))

pub before_then : {A : Type 0} (x y : Told A) → IsBefore x (then_told x y)
before_then x y = before_then_by x.items x.mark y

before_left_by : {A : Type 0} (ys : List A) (m : Mark) (xs : List A) (z : Told A) → Begins ys m z → Begins (xs ++ ys) m (told (xs ++ z.items) z.mark)
before_left_by ys Open xs z (r, e) = (r, ap (λ q. xs ++ q) e ∙ sym (append_assoc xs ys r))
before_left_by ys Lost xs z (r, e) = (r, ap (λ q. xs ++ q) e ∙ sym (append_assoc xs ys r))
before_left_by ys Closed xs z (a, b) = (ap (λ q. xs ++ q) a, b)
before_left_by ys Broken xs z (a, b) = (ap (λ q. xs ++ q) a, b)

before_left_mark : {A : Type 0} (xs : List A) (m : Mark) (y z : Told A) → IsBefore y z → IsBefore (goes_on xs m y) (goes_on xs m z)
before_left_mark xs Open y z h = before_left_by y.items y.mark xs z h
before_left_mark xs Closed y z h = (refl, refl)
before_left_mark xs Broken y z h = (refl, refl)
before_left_mark xs Lost y z h = ([], sym (append-nil xs))

pub before_left : {A : Type 0} (x y z : Told A) → IsBefore y z → IsBefore (then_told x y) (then_told x z)
before_left x y z = before_left_mark x.items x.mark y z
