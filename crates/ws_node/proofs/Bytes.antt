-- Values that were told, as chunks of bytes, with what comes behind them.
use Rattle.std.proofs.Common.{◌≡◌, ◌≢◌, ℕ, List, [], ◌∷◌, ◌++◌, Option, Some, None, refl, sym, ap, ◌∙◌, subst}
use Rattle.ws_value.specs.declared.value.Value.{Value}
use Rattle.ws_value.specs.declared.value.Value.TheVariants.{Plain, Bytes}
use Rattle.ws_flow.proofs.Told.{then_assoc, short_refl, short_as, short_right, before_front, before_of_short, before_then}
use Rattle.ws_flow.specs.Told.{Mark, Open as MayCome, Closed, Broken, Lost, Told, told, goes_on, then_told, CutShort, IsShortOf}
use Rattle.ws_realm.specs.declared.realm.Why.{Why}
use Rattle.ws_node.specs.Node.{chunks_in, in_bytes, lying_by}
use Rattle.ws_node.specs.Past.{IsOne, OneAtMost}

chunks-append : (xs ys : List Value) → chunks_in (xs ++ ys) ≡ chunks_in xs ++ chunks_in ys
chunks-append [] ys = refl
chunks-append (Bytes b ∷ xs) ys = ap (λ q. b ∷ q) (chunks-append xs ys)
chunks-append (Plain v ∷ xs) ys = chunks-append xs ys

then_by : (xs : List Value) (m : Mark) (y : Told Value) → in_bytes (goes_on xs m y) ≡ goes_on (chunks_in xs) m (in_bytes y)
then_by xs MayCome y = ap (λ q. told q y.mark) (chunks-append xs y.items)
then_by xs Closed y = refl
then_by xs Broken y = refl
then_by xs Lost y = refl

pub in_bytes-then : (x y : Told Value) → in_bytes (then_told x y) ≡ then_told (in_bytes x) (in_bytes y)
in_bytes-then x y = then_by x.items x.mark y

short_by : (xs : List Value) (m : Mark) (y : Told Value) → CutShort xs m y → CutShort (chunks_in xs) m (in_bytes y)
short_by xs MayCome y (a, b) = (ap chunks_in a, b)
short_by xs Closed y (a, b) = (ap chunks_in a, b)
short_by xs Broken y (a, b) = (ap chunks_in a, b)
short_by xs Lost y (r, e) = (chunks_in r, ap chunks_in e ∙ chunks-append xs r)

pub in_bytes-short : (x y : Told Value) → IsShortOf x y → IsShortOf (in_bytes x) (in_bytes y)
in_bytes-short x y = short_by x.items x.mark y

-- what lies there, and then what came, with this behind it
pub short-behind : (x y e : Told Value) (d : Told (List ℕ)) → IsShortOf x (then_told y e) → IsShortOf (then_told (in_bytes x) d) (then_told (in_bytes y) (then_told (in_bytes e) d))
short-behind x y e d h =
    short_as (then_told (in_bytes x) d) (then_told (then_told (in_bytes y) (in_bytes e)) d) _ (then_assoc (in_bytes y) (in_bytes e) d)
    (short_right (in_bytes x) (then_told (in_bytes y) (in_bytes e)) d (short_as (in_bytes x) (in_bytes (then_told y e)) _ (in_bytes-then y e) (in_bytes-short x (then_told y e) h)))

-- nothing follows what has come to an end

ended_by : {A : Type 0} (xs : List A) (m : Mark) (y : Told A) → m ≢ MayCome → goes_on xs m y ≡ told xs m
ended_by xs MayCome y h = absurd (h refl)
ended_by xs Closed y h = refl
ended_by xs Broken y h = refl
ended_by xs Lost y h = refl

pub nothing-follows : {A : Type 0} (x y : Told A) → x.mark ≢ MayCome → then_told x y ≡ x
nothing-follows x y h = ended_by x.items x.mark y h

mark_by : {A : Type 0} (xs : List A) (m : Mark) (y : Told A) → y.mark ≢ MayCome → (goes_on xs m y).mark ≢ MayCome
mark_by xs MayCome y h = h
mark_by xs Closed y h = λ e. cc
mark_by xs Broken y h = λ e. cc
mark_by xs Lost y h = λ e. cc

pub mark-behind : {A : Type 0} (x y : Told A) → y.mark ≢ MayCome → (then_told x y).mark ≢ MayCome
mark-behind x y h = mark_by x.items x.mark y h

pub short-ended : (x y : Told Value) (d e : Told (List ℕ)) → y.mark ≢ MayCome → IsShortOf x y → IsShortOf (then_told (in_bytes x) d) (then_told (in_bytes y) e)
short-ended x y d e h s =
    short_as (then_told (in_bytes x) d) (then_told (in_bytes y) d) _ (nothing-follows (in_bytes y) d h ∙ sym (nothing-follows (in_bytes y) e h))
    (short_right (in_bytes x) (in_bytes y) d (in_bytes-short x y s))

-- in a node that may have stopped

pub lost-short : {A : Type 0} (y : Told A) → IsShortOf (told [] Lost) y
lost-short y = (y.items, refl)

pub lying-both : (why : Option Why) (x y : Told (List ℕ)) → IsShortOf x y → IsShortOf (lying_by why x) (lying_by why y)
lying-both None x y h = h
lying-both (Some why) x y h = short_refl (told [] Lost)

lying-now : (now : Option Why) (x y : Told (List ℕ)) → IsShortOf x y → IsShortOf (lying_by now x) y
lying-now None x y h = h
lying-now (Some why) x y h = lost-short y

-- in one that may have stopped since
pub lying-since : (before now : Option Why) (x y : Told (List ℕ)) → before ≡ None → IsShortOf x y → IsShortOf (lying_by now x) (lying_by before y)
lying-since before now x y e h = subst (λ q. IsShortOf (lying_by now x) (lying_by q y)) (sym e) (lying-now now x y h)

-- one chunk at most is one chunk at most where less is left

one-first : (n : ℕ) (v : Value) (vs rest : List Value) → IsOne n v (vs ++ rest) → IsOne n v vs
one-first n (Bytes piece) [] rest (e, h, k) = (refl, h, k)
one-first n (Bytes piece) (w ∷ vs) rest (e, h, k) = absurd (cc)
one-first n (Plain v) vs rest o = absurd o

one-front : (n : ℕ) (xs ys rest : List Value) → ys ≡ xs ++ rest → OneAtMost n ys → OneAtMost n xs
one-front n [] ys rest e o = tt
one-front n (v ∷ vs) ys rest e o = one-first n v vs rest (subst (OneAtMost n) e o)

pub one-short : (n : ℕ) (x y : Told Value) → IsShortOf x y → OneAtMost n y.items → OneAtMost n x.items
one-short n x y h o = let f = before_front x y (before_of_short x y h) in one-front n x.items y.items f.0 f.1 o

-- what was there before something came
pub one-before : (n : ℕ) (x y : Told Value) → OneAtMost n (then_told x y).items → OneAtMost n x.items
one-before n x y o = let f = before_front x (then_told x y) (before_then x y) in one-front n x.items (then_told x y).items f.0 f.1 o
