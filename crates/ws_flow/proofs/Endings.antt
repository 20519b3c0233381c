use Rattle.std.proofs.Common.{◌≡◌, ◌≢◌, ℕ, zero, suc, List, [], ◌∷◌, refl, sym, ap, ◌∙◌, arith}
use Rattle.ws_flow.specs.Machines.{Kept, Machine, mark_of, end_mark, more, through, keeps, or_else, verdict, all_through, ending, EndsWell}
use Rattle.ws_flow.specs.Parts.{AtWork, Part, nothing_told, fresh, LiveAsked, Goes, Flows, said, found}
use Rattle.ws_flow.specs.Told.{Mark, Open, Closed, Broken, Lost, Told, told, goes_on, then_told, IsFront, Begins, IsBefore}
use Rattle.ws_flow.proofs.Through.{verdict_then, through_before}
use Rattle.ws_flow.proofs.Told.{before_of_short, before_refl, before_trans, before_then}
use Rattle.ws_flow.specs.declared.plan.Ending.TheVariants.{Fine, Bad}
use Rattle.ws_flow.specs.declared.plan.Ending.{Ending}

-- a verdict that was found stays
found_first : (a b e : Ending) → a ≡ e → e ≢ Fine → or_else a b ≡ e
found_first Fine b e h n = grind arith
found_first (Bad c p) b e h n = h

lost_verdict : (m : Machine) (k : Kept) (xs : List (List ℕ)) → verdict m k xs Lost ≡ verdict m k xs Open
lost_verdict m k [] = refl
lost_verdict m k (c ∷ cs) = ap (λ q. or_else (m.push k c).ending q) (lost_verdict m (m.push k c).kept cs)

front_verdict : (m : Machine) (k : Kept) (xs ys : List (List ℕ)) (n : Mark) (e : Ending) → IsFront xs ys → verdict m k xs Open ≡ e → e ≢ Fine → verdict m k ys n ≡ e
front_verdict m k xs ys n e (r, f) h l = ap (λ q. verdict m k q n) f ∙ verdict_then m k xs r n ∙ found_first (verdict m k xs Open) (verdict m (keeps m k xs) r n) e h l

verdict_stays_by : (m : Machine) (k : Kept) (xs : List (List ℕ)) (n : Mark) (y : Told (List ℕ)) (e : Ending) → Begins xs n y → verdict m k xs n ≡ e → e ≢ Fine → verdict m k y.items y.mark ≡ e
verdict_stays_by m k xs Open y e f h l = front_verdict m k xs y.items y.mark e f h l
verdict_stays_by m k xs Lost y e f h l = front_verdict m k xs y.items y.mark e f (sym (lost_verdict m k xs) ∙ h) l
verdict_stays_by m k xs Closed y e (a, b) h l = ap (λ q. verdict m k q y.mark) a ∙ ap (λ q. verdict m k xs q) b ∙ h
verdict_stays_by m k xs Broken y e (a, b) h l = ap (λ q. verdict m k q y.mark) a ∙ ap (λ q. verdict m k xs q) b ∙ h

pub verdict_stays : (m : Machine) (k : Kept) (x y : Told (List ℕ)) (e : Ending) → IsBefore x y → verdict m k x.items x.mark ≡ e → e ≢ Fine → verdict m k y.items y.mark ≡ e
verdict_stays m k x y e = verdict_stays_by m k x.items x.mark y e

pub ending_stays : (ms : List Machine) (j : ℕ) (x y : Told (List ℕ)) (e : Ending) → IsBefore x y → ending ms j x ≡ e → e ≢ Fine → ending ms j y ≡ e
ending_stays [] j x y e h f n = f
ending_stays (m ∷ ms) zero x y e h f n = verdict_stays m m.start x y e h f n
ending_stays (m ∷ ms) (suc j) x y e h f n = ending_stays ms j (through m m.start x) (through m m.start y) e (through_before m m.start x y h) f n

-- what a AtWork found is what its stage finds in what it was asked for
work_said : (m : Machine) (xs : List (List ℕ)) (n : Mark) (w : AtWork) (e : Ending) → LiveAsked m m.start xs n w → said w ≡ e → e ≢ Fine → verdict m m.start xs n ≡ e
work_said m xs Open w e (a, b) f l = grind arith
work_said m xs Closed w e a f l = sym (ap said a) ∙ f
work_said m xs Broken w e a f l = elim a [ ]
work_said m xs Lost w e a f l = sym (ap said a) ∙ f

found_by : (ms : List Machine) (y x : Told (List ℕ)) (ps : List Part) (out : Told (List ℕ)) (j : ℕ) (e : Ending) → Goes ms y (fresh ms) nothing_told ps out → IsBefore y x → found ps j ≡ e → e ≢ Fine → ending ms j x ≡ e
found_by [] y x [] out j e h b f n = f
found_by [] y x (q ∷ qs) out j e h b f n = elim h [ ]
found_by (m ∷ ms) y x [] out j e h b f n = elim h [ ]
found_by (m ∷ ms) y x (q ∷ qs) out zero e (t, a, h, g) b f n =
    verdict_stays m m.start t x e (before_trans t y x (before_trans t (then_told t q.before) y (before_then t q.before) (before_of_short (then_told t q.before) y h)) b) (work_said m t.items t.mark q.work e a f n) n
found_by (m ∷ ms) y x (q ∷ qs) out (suc j) e (t, a, h, g) b f n =
    found_by ms (through m m.start t) (through m m.start x) qs out j e g
    (through_before m m.start t x (before_trans t y x (before_trans t (then_told t q.before) y (before_then t q.before) (before_of_short (then_told t q.before) y h)) b)) f n

-- what a AtWork of a node found is the ending of its stage over what the node received
pub flows_found : (ms : List Machine) (x : Told (List ℕ)) (ps : List Part) (out : Told (List ℕ)) (j : ℕ) (e : Ending) → Flows ms x ps out → found ps j ≡ e → e ≢ Fine → ending ms j x ≡ e
flows_found ms x ps out j e h = found_by ms x x ps out j e h (before_refl x)

-- where the output closed, the stage ended well over an input that closed
closed_piece : (a : Ending) (r : Ending) (n : Mark) (cs ds : List (List ℕ)) (o : Mark) → (goes_on cs (mark_of a) (told ds o)).mark ≡ Closed → (o ≡ Closed → (r ≡ Fine) × (n ≡ Closed)) → (or_else a r ≡ Fine) × (n ≡ Closed)
closed_piece Fine r n cs ds o h f = f h
closed_piece (Bad c p) r n cs ds o h f = grind arith

closed_flush : (e : Ending) → end_mark e ≡ Closed → (e ≡ Fine) × (Closed ≡ Closed)
closed_flush Fine h = (refl, refl)
closed_flush (Bad c p) h = grind arith

closed_through : (m : Machine) (k : Kept) (xs : List (List ℕ)) (n : Mark) → (more m k xs n).mark ≡ Closed → (verdict m k xs n ≡ Fine) × (n ≡ Closed)
closed_through m k [] Open h = grind arith
closed_through m k [] Broken h = grind arith
closed_through m k [] Lost h = grind arith
closed_through m k [] Closed h = closed_flush (m.flush k).ending h
closed_through m k (c ∷ cs) n h =
    let r = more m (m.push k c).kept cs n in
    closed_piece (m.push k c).ending (verdict m (m.push k c).kept cs n) n (m.push k c).chunks r.items r.mark h (closed_through m (m.push k c).kept cs n)

-- where the last output closed, the input closed and each stage ended fine
pub closed_all : (ms : List Machine) (x : Told (List ℕ)) → (all_through ms x).mark ≡ Closed → EndsWell ms x
closed_all [] x h = record { closed = h; fine = λ j. refl }
closed_all (m ∷ ms) x h =
    let r = closed_all ms (through m m.start x) h in
    let s = closed_through m m.start x.items x.mark r.closed in
    record { closed = s.1; fine = λ j. each j s.0 r.fine } where
      each : (j : ℕ) → verdict m m.start x.items x.mark ≡ Fine → ((i : ℕ) → ending ms i (through m m.start x) ≡ Fine) → ending (m ∷ ms) j x ≡ Fine
      each zero a b = a
      each (suc i) a b = b i
