use Rattle.std.proofs.Common.{◌≡◌, ◌≢◌, ℕ, List, [], ◌∷◌, ◌++◌, refl, sym, ap, ◌∙◌, subst}
use Rattle.ws_flow.specs.Machines.{Kept, Machine, more, through, keeps, verdict, all_through}
use Rattle.ws_flow.specs.Parts.{AtWork, Live, Over, Part, nothing_told, fresh, LiveAsked, Asked, made, Goes, Flows, still, residual}
use Rattle.ws_flow.specs.Told.{Mark, Open, Closed, Broken, Lost, Told, told, goes_on, then_told, IsShortOf, IsBefore}
use Rattle.ws_flow.proofs.Through.{keeps_append, verdict_append, after_end, after_close, through_then, through_short}
use Rattle.ws_flow.proofs.Told.{then_assoc, then_empty, short_trans, short_same, short_as, short_left, short_right, short_all, before_of_short, before_trans, before_then}
use Rattle.ws_flow.specs.declared.plan.Ending.TheVariants.{Fine}

-- what a AtWork makes of more
live_made : (m : Machine) (k : Kept) (xs : List (List ℕ)) (n : Mark) (w : AtWork) (u : Told (List ℕ)) → LiveAsked m k xs n w → through m k (goes_on xs n u) ≡ then_told (more m k xs n) (made m w u)
live_made m k xs Open w u (a, b) = through_then m k (told xs Open) u ∙ ap (λ q. then_told (more m k xs Open) (made m q u)) (sym a)
live_made m k xs Closed w u a = sym (after_close m k xs (made m w u))
live_made m k xs Broken w u a = elim a [ ]
live_made m k xs Lost w u a = sym (after_end m k xs (made m w u))

pub made_then : (m : Machine) (w : AtWork) (t : Told (List ℕ)) (v : AtWork) (u : Told (List ℕ)) → Asked m w t v → made m w (then_told t u) ≡ then_told (made m w t) (made m v u)
made_then m (Live k) t v u a = live_made m k t.items t.mark v u a
made_then m (Over e) t v u (a, b) = ap (λ q. made m q u) (sym b)

live_asked : (m : Machine) (k : Kept) (xs : List (List ℕ)) (n : Mark) (v : AtWork) (u : Told (List ℕ)) (w : AtWork) → LiveAsked m k xs n v → Asked m v u w → Asked m (Live k) (goes_on xs n u) w
live_asked m k xs Open v u w (a, b) h = live_on m k xs u.items u.mark w b (subst (λ q. Asked m q u w) a h) where
  live_on : (m : Machine) (k : Kept) (xs ys : List (List ℕ)) (n : Mark) (w : AtWork) → verdict m k xs Open ≡ Fine → LiveAsked m (keeps m k xs) ys n w → LiveAsked m k (xs ++ ys) n w
  live_on m k xs ys Open w e (a, b) = (a ∙ ap Live (sym (keeps_append m k xs ys)), verdict_append m k xs ys Open e ∙ b)
  live_on m k xs ys Closed w e a = a ∙ ap Over (sym (verdict_append m k xs ys Closed e))
  live_on m k xs ys Broken w e a = elim a [ ]
  live_on m k xs ys Lost w e a = a ∙ ap Over (sym (verdict_append m k xs ys Lost e))
live_asked m k xs Closed v u w a h = (subst (λ q. Asked m q u w) a h).1 ∙ refl
live_asked m k xs Broken v u w a h = elim a [ ]
live_asked m k xs Lost v u w a h = (subst (λ q. Asked m q u w) a h).1 ∙ refl

pub asked_then : (m : Machine) (w : AtWork) (t : Told (List ℕ)) (v : AtWork) (u : Told (List ℕ)) (x : AtWork) → Asked m w t v → Asked m v u x → Asked m w (then_told t u) x
asked_then m (Live k) t v u x a h = live_asked m k t.items t.mark v u x a h
asked_then m (Over e) t v u x (a, b) h =
    let g = subst (λ q. Asked m q u x) b h in
    (ap (λ q. then_told q u) a ∙ g.0, g.1)

-- one after the other
pub goes_then : (ms : List Machine) (y z : Told (List ℕ)) (ps : List Part) (o : Told (List ℕ)) (qs : List Part) (o1 : Told (List ℕ)) (rs : List Part) (o2 : Told (List ℕ)) → Goes ms y ps o qs o1 → Goes ms z qs o1 rs o2 → Goes ms (then_told y z) ps o rs o2
goes_then [] y z [] o [] o1 [] o2 h g = short_trans o2 (then_told o1 z) (then_told o (then_told y z)) g (short_as (then_told o1 z) (then_told (then_told o y) z) (then_told o (then_told y z)) (then_assoc o y z) (short_right o1 (then_told o y) z h))
goes_then (m ∷ ms) y z (p ∷ ps) o (q ∷ qs) o1 (r ∷ rs) o2 (t, a, h, g) (u, b, i, j) = (
  then_told t u,
  asked_then m p.work t q.work u r.work a b,
  short_same (then_told (then_told t u) r.before) (then_told t (then_told u r.before)) (then_told p.before (then_told y z)) (then_assoc t u r.before)
      (short_trans (then_told t (then_told u r.before)) (then_told t (then_told q.before z)) (then_told p.before (then_told y z))
      (short_left t (then_told u r.before) (then_told q.before z) i)
      (short_same (then_told t (then_told q.before z)) (then_told (then_told t q.before) z) (then_told p.before (then_told y z)) (sym (then_assoc t q.before z))
      (short_as (then_told (then_told t q.before) z) (then_told (then_told p.before y) z) (then_told p.before (then_told y z)) (then_assoc p.before y z)
      (short_right (then_told t q.before) (then_told p.before y) z h)))),
  subst (λ x. Goes ms x ps o rs o2) (sym (made_then m p.work t q.work u a))
      (goes_then ms (made m p.work t) (made m q.work u) ps o qs o1 rs o2 g j),
)
goes_then [] y z [] o [] o1 (r ∷ rs) o2 h g = elim g [ ]
goes_then [] y z [] o (q ∷ qs) o1 rs o2 h g = elim h [ ]
goes_then [] y z (p ∷ ps) o qs o1 rs o2 h g = elim h [ ]
goes_then (m ∷ ms) y z [] o qs o1 rs o2 h g = elim h [ ]
goes_then (m ∷ ms) y z (p ∷ ps) o [] o1 rs o2 h g = elim h [ ]
goes_then (m ∷ ms) y z (p ∷ ps) o (q ∷ qs) o1 [] o2 h g = elim g [ ]

made_short : (m : Machine) (w : AtWork) (x y : Told (List ℕ)) → IsShortOf x y → IsShortOf (made m w x) (made m w y)
made_short m (Live k) x y h = through_short m k x y h
made_short m (Over e) x y h = (refl, refl)

still_short : (ms : List Machine) (ps : List Part) (x y : Told (List ℕ)) → IsShortOf x y → IsShortOf (still ms ps x) (still ms ps y)
still_short [] ps x y h = h
still_short (m ∷ ms) [] x y h = h
still_short (m ∷ ms) (p ∷ ps) x y h = still_short ms ps (made m p.work (then_told p.before x)) (made m p.work (then_told p.before y)) (made_short m p.work (then_told p.before x) (then_told p.before y) (short_left p.before x y h))

-- whatever still comes: what came out, with what comes of it, is what would have come, or is cut short of it
pub goes_still : (ms : List Machine) (y : Told (List ℕ)) (ps : List Part) (o : Told (List ℕ)) (qs : List Part) (new : Told (List ℕ)) → Goes ms y ps o qs new → (z : Told (List ℕ)) → IsShortOf (then_told new (still ms qs z)) (then_told o (still ms ps (then_told y z)))
goes_still [] y [] o [] new h z = short_as (then_told new z) (then_told (then_told o y) z) (then_told o (then_told y z)) (then_assoc o y z) (short_right new (then_told o y) z h)
goes_still (m ∷ ms) y (p ∷ ps) o (q ∷ qs) new (t, a, h, g) z =
    let u = then_told q.before z in
    let v = then_told p.before (then_told y z) in
    let e = made_then m p.work t q.work u a in
    let s : IsShortOf (then_told t u) v = short_same (then_told t u) (then_told (then_told t q.before) z) v (sym (then_assoc t q.before z))
    (short_as (then_told (then_told t q.before) z) (then_told (then_told p.before y) z) v (then_assoc p.before y z)
    (short_right (then_told t q.before) (then_told p.before y) z h)) in
    short_trans (then_told new (still ms qs (made m q.work u))) (then_told o (still ms ps (then_told (made m p.work t) (made m q.work u)))) (then_told o (still ms ps (made m p.work v)))
    (goes_still ms (made m p.work t) ps o qs new g (made m q.work u))
    (short_left o (still ms ps (then_told (made m p.work t) (made m q.work u))) (still ms ps (made m p.work v))
    (still_short ms ps (then_told (made m p.work t) (made m q.work u)) (made m p.work v)
    (short_same (then_told (made m p.work t) (made m q.work u)) (made m p.work (then_told t u)) (made m p.work v) (sym e)
    (made_short m p.work (then_told t u) v s))))
goes_still [] y [] o (q ∷ qs) new h z = elim h [ ]
goes_still [] y (p ∷ ps) o qs new h z = elim h [ ]
goes_still (m ∷ ms) y [] o qs new h z = elim h [ ]
goes_still (m ∷ ms) y (p ∷ ps) o [] new h z = elim h [ ]

still_fresh : (ms : List Machine) (y : Told (List ℕ)) → still ms (fresh ms) y ≡ all_through ms y
still_fresh [] y = refl
still_fresh (m ∷ ms) y = still_fresh ms (through m m.start y)

-- for all that may still come in
pub flows_still : (ms : List Machine) (x : Told (List ℕ)) (ps : List Part) (out : Told (List ℕ)) → Flows ms x ps out → (z : Told (List ℕ)) → IsShortOf (then_told out (still ms ps z)) (all_through ms (then_told x z))
flows_still ms x ps out h z = short_as (then_told out (still ms ps z)) (then_told nothing_told (still ms (fresh ms) (then_told x z))) (all_through ms (then_told x z)) (still_fresh ms (then_told x z)) (goes_still ms x (fresh ms) nothing_told ps out h z)

pub flows_whole : (ms : List Machine) (x : Told (List ℕ)) (ps : List Part) (out : Told (List ℕ)) → Flows ms x ps out → (then_told out (residual ms ps)).mark ≢ Lost → then_told out (residual ms ps) ≡ all_through ms x
flows_whole ms x ps out h w = short_all (then_told out (residual ms ps)) (all_through ms x) (short_as (then_told out (residual ms ps)) (all_through ms (then_told x nothing_told)) (all_through ms x) (ap (λ q. all_through ms q) (then_empty x)) (flows_still ms x ps out h nothing_told)) w

pub flows_before : (ms : List Machine) (x : Told (List ℕ)) (ps : List Part) (out : Told (List ℕ)) → Flows ms x ps out → IsBefore out (all_through ms x)
flows_before ms x ps out h = before_trans out (then_told out (residual ms ps)) (all_through ms x) (before_then out (residual ms ps))
    (before_of_short (then_told out (residual ms ps)) (all_through ms x) (short_as (then_told out (residual ms ps)) (all_through ms (then_told x nothing_told)) (all_through ms x) (ap (λ q. all_through ms q) (then_empty x)) (flows_still ms x ps out h nothing_told)))
