-- Parts that are told by their numbers, as they are in the code: the Works in a vector, what lies on a link in the realm.
use Rattle.std.proofs.Common.{ℕ, zero, suc, List, [], ◌∷◌, length}
use Rattle.ws_flow.specs.Machines.{Machine}
use Rattle.ws_flow.specs.Parts.{Part, Asked, made, Goes}
use Rattle.ws_flow.specs.Told.{Told, then_told, IsShortOf}

abbrev pub parts_by : List Machine → (ℕ → Part) → List Part
parts_by [] f = []
parts_by (m ∷ ms) f = f zero ∷ parts_by ms (λ l. f (suc l))

-- what comes to each part, and behind the last
abbrev pub arrives : List Machine → (ℕ → Part) → (ℕ → Told (List ℕ)) → Told (List ℕ) → ℕ → Told (List ℕ)
arrives ms f t y zero = y
arrives [] f t y (suc l) = y
arrives (m ∷ ms) f t y (suc l) = arrives ms (λ k. f (suc k)) (λ k. t (suc k)) (made m (f zero).work (t zero)) l

abbrev pub EachAsked : List Machine → (ℕ → Part) → (ℕ → Part) → (ℕ → Told (List ℕ)) → Type 0
EachAsked [] f g t = Unit {0}
EachAsked (m ∷ ms) f g t = Asked m (f zero).work (t zero) (g zero).work × EachAsked ms (λ l. f (suc l)) (λ l. g (suc l)) (λ l. t (suc l))

pub goes_table : (ms : List Machine) (y : Told (List ℕ)) (f g : ℕ → Part) (t : ℕ → Told (List ℕ)) (out new : Told (List ℕ)) →
    EachAsked ms f g t →
    ((l : ℕ) → IsShortOf (then_told (t l) (g l).before) (then_told (f l).before (arrives ms f t y l))) →
    IsShortOf new (then_told out (arrives ms f t y (length ms))) →
    Goes ms y (parts_by ms f) out (parts_by ms g) new
goes_table [] y f g t out new a h e = e
goes_table (m ∷ ms) y f g t out new (a, b) h e =
    (t zero, a, h zero, goes_table ms (made m (f zero).work (t zero)) (λ l. f (suc l)) (λ l. g (suc l)) (λ l. t (suc l)) out new b (λ l. h (suc l)) e)
