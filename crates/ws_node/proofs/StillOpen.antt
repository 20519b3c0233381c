-- While an output may be written, what went out may go on.
use Rattle.std.proofs.Common.{◌≡◌, ℕ, List, refl, subst, arith}
use Rattle.ws_flow.specs.Told.{bytes_of, Mark, Open as MayCome, Told, told, then_told, IsShortOf}
use Rattle.ws_io.specs.Moment.{Moment}
use Rattle.ws_node.specs.declared.node.Output.{Output}
use Rattle.ws_node.specs.declared.node.Output.TheVariants as output
use Rattle.ws_node.specs.Went.{OutputGoes}

pub was-open : (a b : Output) (gain : List ℕ) (out : Mark) (m₀ m₁ : Moment) → OutputGoes a b gain out m₀ m₁ → b ≡ output.Open → (a ≡ output.Open) × (out ≡ MayCome)
was-open output.Open output.Open gain out m₀ m₁ (e, f, g) h = (refl, e)
was-open output.Open output.Finished gain out m₀ m₁ goes h = absurd (cc)
was-open output.Open output.Failed gain out m₀ m₁ goes h = absurd (cc)
was-open output.Open output.Aborted gain out m₀ m₁ goes h = absurd (cc)
was-open output.Open output.Edge gain out m₀ m₁ goes h = absurd goes
was-open output.Edge b gain out m₀ m₁ goes h = absurd goes
was-open output.Finished b gain out m₀ m₁ (e, f) h = absurd (cc)
was-open output.Failed b gain out m₀ m₁ (e, f) h = absurd (cc)
was-open output.Aborted b gain out m₀ m₁ (e, f) h = absurd (cc)

open-then : (x y : Told (List ℕ)) → x.mark ≡ MayCome → y.mark ≡ MayCome → (then_told x y).mark ≡ MayCome
open-then x y e f = grind arith

pub still-open : (a b : Output) (gain : List ℕ) (out : Mark) (x y : Told (List ℕ)) (m₀ m₁ : Moment) → OutputGoes a b gain out m₀ m₁ → IsShortOf (told gain out) (bytes_of y)
    → (a ≡ output.Open → x.mark ≡ MayCome) → b ≡ output.Open → (then_told x y).mark ≡ MayCome
still-open a b gain out x y m₀ m₁ goes written before e =
    let was = was-open a b gain out m₀ m₁ goes e in
    let now : IsShortOf (told gain MayCome) (bytes_of y) = subst (λ m. IsShortOf (told gain m) (bytes_of y)) was.1 written in
    open-then x y (before was.0) now.1
