-- With what a stage starts, and which endings it finds at the end of its input only.
use Rattle.std.proofs.Common.{◌≡◌, ℕ, true, false, List, [], ◌∷◌, refl, arith}
use Rattle.ws_flow.specs.declared.plan.Ending.{Ending}
use Rattle.ws_flow.specs.declared.plan.Ending.TheVariants.{Fine, Bad}
use Rattle.ws_flow.specs.declared.plan.Stage.{Stage}
use Rattle.ws_flow.specs.Told.{Mark, Open, Closed, Broken, Lost}
use Rattle.ws_flow.specs.Machines.{Kept, or_else, verdict, nothing_kept, Form, OfBytes, OfChunks, machine_of}
use Rattle.ws_flow.specs.Stages.{form, machine, is_of_end}
use Rattle.ws_flow.proofs.EachKind.{kind}

pub start_is : (s : Stage) → (machine s).start ≡ nothing_kept
start_is s = by (form s) where
  by : (f : Form) → (machine_of f).start ≡ nothing_kept
  by (OfBytes w f g) = refl
  by (OfChunks f) = refl

-- where it ended with a code of the end, what came to it is all
pub end_closed : (s : Stage) (k : Kept) (xs : List (List ℕ)) (a : Mark) (code place : ℕ) → verdict (machine s) k xs a ≡ Bad code place → is_of_end code ≡ true → a ≡ Closed
end_closed s k [] Open code place e f = grind arith
end_closed s k [] Broken code place e f = grind arith
end_closed s k [] Lost code place e f = grind arith
end_closed s k [] Closed code place e f = refl
end_closed s k (c ∷ cs) a code place e f =
    by ((machine s).push k c).ending (verdict (machine s) ((machine s).push k c).kept cs a) ((kind s).late k c code place) (end_closed s ((machine s).push k c).kept cs a code place) e where
      by : (x y : Ending) → (x ≡ Bad code place → is_of_end code ≡ false) → (y ≡ Bad code place → is_of_end code ≡ true → a ≡ Closed) → or_else x y ≡ Bad code place → a ≡ Closed
      by Fine y g h e = h e f
      by (Bad c p) y g h e = let l = g e in absurd (cc)
