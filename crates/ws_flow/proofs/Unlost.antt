-- Stages lose nothing: where nothing is lost of what lies before those that may be asked, nothing is lost of what is still to come out.
use Rattle.std.proofs.Common.{◌≡◌, ◌≢◌, ℕ, List, [], ◌∷◌, arith}
use Rattle.ws_flow.specs.declared.plan.Ending.{Ending}
use Rattle.ws_flow.specs.declared.plan.Ending.TheVariants.{Fine, Bad}
use Rattle.ws_flow.specs.Machines.{Kept, Machine, mark_of, end_mark, more, through}
use Rattle.ws_flow.specs.Parts.{AtWork, Live, Over, Part, made, still}
use Rattle.ws_flow.specs.Told.{Mark, Open, Closed, Broken, Lost, Told, told, goes_on, then_told}

then-by : {A : Type 0} (xs : List A) (m : Mark) (y : Told A) → m ≢ Lost → y.mark ≢ Lost → (goes_on xs m y).mark ≢ Lost
then-by xs Open y n h = h
then-by xs Closed y n h = n
then-by xs Broken y n h = n
then-by xs Lost y n h = n

pub then-unlost : {A : Type 0} (x y : Told A) → x.mark ≢ Lost → y.mark ≢ Lost → (then_told x y).mark ≢ Lost
then-unlost x y n h = then-by x.items x.mark y n h

piece-unlost : (e : Ending) → mark_of e ≢ Lost
piece-unlost Fine h = grind arith
piece-unlost (Bad c p) h = grind arith

end-unlost : (e : Ending) → end_mark e ≢ Lost
end-unlost Fine h = grind arith
end-unlost (Bad c p) h = grind arith

more-unlost : (m : Machine) (k : Kept) (cs : List (List ℕ)) (e : Mark) → e ≢ Lost → (more m k cs e).mark ≢ Lost
more-unlost m k [] Open n = n
more-unlost m k [] Closed n = end-unlost (m.flush k).ending
more-unlost m k [] Broken n = n
more-unlost m k [] Lost n = n
more-unlost m k (c ∷ cs) e n =
    let p = m.push k c in
    then-by p.chunks (mark_of p.ending) (more m p.kept cs e) (piece-unlost p.ending) (more-unlost m p.kept cs e n)

-- what lies before a stage that may be asked
abbrev pub LiesWhole : AtWork → Mark → Type 0
LiesWhole (Live k) m = m ≢ Lost
LiesWhole (Over e) m = Unit {0}

abbrev pub AreWhole : List Part → Type 0
AreWhole [] = Unit {0}
AreWhole (p ∷ ps) = LiesWhole p.work p.before.mark × AreWhole ps

made-unlost : (m : Machine) (w : AtWork) (before y : Told (List ℕ)) → LiesWhole w before.mark → y.mark ≢ Lost → (made m w (then_told before y)).mark ≢ Lost
made-unlost m (Live k) before y n h = let x = then_told before y in more-unlost m k x.items x.mark (then-unlost before y n h)
made-unlost m (Over e) before y n h = λ f. grind arith

pub still-unlost : (ms : List Machine) (ps : List Part) (y : Told (List ℕ)) → AreWhole ps → y.mark ≢ Lost → (still ms ps y).mark ≢ Lost
still-unlost [] ps y w h = h
still-unlost (m ∷ ms) [] y w h = h
still-unlost (m ∷ ms) (p ∷ ps) y w h = still-unlost ms ps (made m p.work (then_told p.before y)) w.1 (made-unlost m p.work p.before y w.0 h)
