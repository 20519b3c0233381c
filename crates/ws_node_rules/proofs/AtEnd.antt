-- An ending that is found before the end of the input, and one that is found at the end of what a stage takes.
use Rattle.std.proofs.Common.{◌≡◌, ◌≢◌, ◌<◌, ℕ, zero, suc, true, List, [], ◌∷◌, ◌++◌, refl, sym, ap, ◌∙◌, arith}
use Rattle.ws_flow.specs.declared.plan.Ending.{Ending}
use Rattle.ws_flow.specs.declared.plan.Ending.TheVariants.{Fine, Bad}
use Rattle.ws_flow.specs.declared.plan.Stage.{Stage}
use Rattle.ws_flow.specs.Machines.{Kept, Machine, mark_of, more, through, or_else, verdict, ending}
use Rattle.ws_flow.specs.Stages.{machine, machines, is_of_end}
use Rattle.ws_flow.specs.Told.{Mark, Open, Closed, Broken, Lost, Told, told, goes_on}
use Rattle.ws_flow.proofs.Endings.{closed_all}
use Rattle.ws_flow.proofs.Starts.{end_closed}

-- where more may come and where something was lost, a stage ends alike

open_verdict : (m : Machine) (k : Kept) (xs : List (List ℕ)) (a : Mark) → a ≢ Closed → verdict m k xs a ≡ verdict m k xs Open
open_verdict m k [] Open h = refl
open_verdict m k [] Broken h = refl
open_verdict m k [] Lost h = refl
open_verdict m k [] Closed h = absurd (h refl)
open_verdict m k (c ∷ cs) a h = ap (λ q. or_else (m.push k c).ending q) (open_verdict m (m.push k c).kept cs a h)

goes_items : (xs : List (List ℕ)) (m : Mark) (y z : Told (List ℕ)) → y.items ≡ z.items → (goes_on xs m y).items ≡ (goes_on xs m z).items
goes_items xs Open y z e = ap (λ q. xs ++ q) e
goes_items xs Closed y z e = refl
goes_items xs Broken y z e = refl
goes_items xs Lost y z e = refl

open_items : (m : Machine) (k : Kept) (xs : List (List ℕ)) (a : Mark) → a ≢ Closed → (more m k xs a).items ≡ (more m k xs Open).items
open_items m k [] Open h = refl
open_items m k [] Broken h = refl
open_items m k [] Lost h = refl
open_items m k [] Closed h = absurd (h refl)
open_items m k (c ∷ cs) a h =
    let p = m.push k c in
    goes_items p.chunks (mark_of p.ending) (more m p.kept cs a) (more m p.kept cs Open) (open_items m p.kept cs a h)

not_closed : (m : Machine) (x : Told (List ℕ)) → x.mark ≢ Closed → (through m m.start x).mark ≢ Closed
not_closed m x h e = h (closed_all (m ∷ []) x e).closed

ending_alike : (ms : List Machine) (j : ℕ) (x y : Told (List ℕ)) → x.items ≡ y.items → x.mark ≢ Closed → y.mark ≢ Closed → ending ms j x ≡ ending ms j y
ending_alike [] j x y e f g = refl
ending_alike (m ∷ ms) zero x y e f g =
    open_verdict m m.start x.items x.mark f ∙ ap (λ q. verdict m m.start q Open) e ∙ sym (open_verdict m m.start y.items y.mark g)
ending_alike (m ∷ ms) (suc j) x y e f g =
    ending_alike ms j (through m m.start x) (through m m.start y)
    (open_items m m.start x.items x.mark f ∙ ap (λ q. (more m m.start q Open).items) e ∙ sym (open_items m m.start y.items y.mark g))
    (not_closed m x f) (not_closed m y g)

-- what isn't found while more may come is found at the end
pub found_late : (ms : List Machine) (j : ℕ) (xs : List (List ℕ)) (a : Mark) (e : Ending) → ending ms j (told xs a) ≡ e → ending ms j (told xs Open) ≢ e → a ≡ Closed
found_late ms j xs Open e h f = absurd (f h)
found_late ms j xs Closed e h f = refl
found_late ms j xs Broken e h f = absurd (f (ending_alike ms j (told xs Open) (told xs Broken) refl (λ g. grind arith) (λ g. grind arith) ∙ h))
found_late ms j xs Lost e h f = absurd (f (ending_alike ms j (told xs Open) (told xs Lost) refl (λ g. grind arith) (λ g. grind arith) ∙ h))

-- what came to a stage that ended so is all, and each stage before ended fine
pub fine_before : (ss : List Stage) (j : ℕ) (x : Told (List ℕ)) (code place : ℕ) → ending (machines ss) j x ≡ Bad code place → is_of_end code ≡ true →
    (x.mark ≡ Closed) × ((i : ℕ) → i < j → ending (machines ss) i x ≡ Fine)
fine_before [] j x code place e f = grind arith
fine_before (s ∷ ss) zero x code place e f = (end_closed s (machine s).start x.items x.mark code place e f, λ i h. absurd (omega arith))
fine_before (s ∷ ss) (suc j) x code place e f =
    let m = machine s in
    let r = fine_before ss j (through m m.start x) code place e f in
    let c = closed_all (m ∷ []) x r.0 in
    (c.closed, λ i h. each i h (c.fine 0) r.1) where
      each : (i : ℕ) → i < suc j → verdict (machine s) (machine s).start x.items x.mark ≡ Fine →
          ((i : ℕ) → i < j → ending (machines ss) i (through (machine s) (machine s).start x) ≡ Fine) → ending (machines (s ∷ ss)) i x ≡ Fine
      each zero h a b = a
      each (suc i) h a b = b i (omega arith)
