-- Each event of a node lets the parts go on.
use Rattle.std.proofs.Common.{◌≡◌, ◌≢◌, ℕ, List, [], ◌∷◌, refl, sym, ap, subst, arith}
use Rattle.ws_flow.specs.Machines.{Kept, Machine, mark_of, end_mark, piece, or_else}
use Rattle.ws_flow.specs.Parts.{AtWork, Live, Over, Part, nothing_told, Asked, made, Goes}
use Rattle.ws_flow.specs.Told.{Open, Closed, Lost, Told, told, goes_on, then_told, IsShortOf}
use Rattle.ws_flow.proofs.Told.{then_empty, short_as}
use Rattle.ws_flow.specs.declared.plan.Ending.TheVariants.{Fine, Bad}
use Rattle.ws_flow.specs.declared.plan.Ending.{Ending}

pub not_asked : (m : Machine) (w : AtWork) → Asked m w nothing_told w
not_asked m (Live k) = (refl, refl)
not_asked m (Over e) = (refl, refl)

pub nothing_made : (m : Machine) (w : AtWork) → made m w nothing_told ≡ nothing_told
nothing_made m (Live k) = refl
nothing_made m (Over e) = refl

-- the same stages, each with its AtWork, and what lies before each is no more than what lay there
abbrev pub Rests : List Machine → List Part → List Part → Type 0
Rests [] [] [] = Unit {0}
Rests (m ∷ ms) (p ∷ ps) (q ∷ qs) = (q.work ≡ p.work) × (IsShortOf q.before p.before) × (Rests ms ps qs)
Rests _ _ _ = ⊥

pub rests : (ms : List Machine) (ps qs : List Part) (out new : Told (List ℕ)) → Rests ms ps qs → IsShortOf new out → Goes ms nothing_told ps out qs new
rests [] [] [] out new r s = short_as new out (then_told out nothing_told) (sym (then_empty out)) s
rests (m ∷ ms) (p ∷ ps) (q ∷ qs) out new (w, b, r) s = (
  nothing_told,
  subst (λ v. Asked m p.work nothing_told v) (sym w) (not_asked m p.work),
  short_as q.before p.before (then_told p.before nothing_told) (sym (then_empty p.before)) b,
  subst (λ v. Goes ms v ps out qs new) (sym (nothing_made m p.work)) (rests ms ps qs out new r s),
)
rests [] [] (q ∷ qs) out new r s = elim r [ ]
rests [] (p ∷ ps) qs out new r s = elim r [ ]
rests (m ∷ ms) [] qs out new r s = elim r [ ]
rests (m ∷ ms) (p ∷ ps) [] out new r s = elim r [ ]

-- a push that ended fine, of what lay first
pub pushed_fine : (m : Machine) (k : Kept) (c : List ℕ) → (m.push k c).ending ≡ Fine → Asked m (Live k) (told (c ∷ []) Open) (Live (m.push k c).kept)
pushed_fine m k c e = (refl, ap (λ q. or_else q Fine) e)

pub pushed_makes : (m : Machine) (k : Kept) (c : List ℕ) → made m (Live k) (told (c ∷ []) Open) ≡ piece (m.push k c)
pushed_makes m k c = then_empty (piece (m.push k c))

-- one that didn't: nothing is asked of that AtWork again
pub pushed_over : (m : Machine) (k : Kept) (c : List ℕ) → (m.push k c).ending ≢ Fine → Asked m (Live k) (told (c ∷ []) Lost) (Over (m.push k c).ending)
pushed_over m k c n = ap Over (not_fine (m.push k c).ending n) where
  not_fine : (e : Ending) → e ≢ Fine → e ≡ or_else e Fine
  not_fine Fine n = refl
  not_fine (Bad c p) n = refl

pub over_makes : (m : Machine) (k : Kept) (c : List ℕ) → (m.push k c).ending ≢ Fine → made m (Live k) (told (c ∷ []) Lost) ≡ piece (m.push k c)
over_makes m k c n = by_ending (m.push k c).chunks (m.push k c).ending n where
  by_ending : (cs : List (List ℕ)) (e : Ending) → e ≢ Fine → goes_on cs (mark_of e) (told [] Lost) ≡ told cs (mark_of e)
  by_ending cs Fine n = grind arith
  by_ending cs (Bad c p) n = refl

-- a flush
pub flushed : (m : Machine) (k : Kept) → Asked m (Live k) (told [] Closed) (Over (m.flush k).ending)
flushed m k = refl

pub flush_makes : (m : Machine) (k : Kept) → made m (Live k) (told [] Closed) ≡ told (m.flush k).chunks (end_mark (m.flush k).ending)
flush_makes m k = refl
