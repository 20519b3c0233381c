use Rattle.std.proofs.Common.{◌≡◌, ℕ, true, false, List, sym, ap, ◌∙◌, subst, arith}
use Rattle.ws_flow.specs.Machines.{all_through, ending, EndsWell}
use Rattle.ws_flow.specs.Parts.{found}
use Rattle.ws_flow.specs.Plans.{as_one, reach, sees_known_chunks}
use Rattle.ws_flow.specs.Stages.{machines}
use Rattle.ws_flow.specs.Told.{bytes_of, Mark, Open, Closed, Broken, Lost, Told, told, Begins, IsBefore}
use Rattle.ws_flow.proofs.Cutting.{joined_append, some_joined, Same, same_cut}
use Rattle.ws_flow.proofs.Endings.{closed_all}
use Rattle.ws_flow.proofs.Nodes.{Node, plan_of, parts_of, Linked, got_before, status_stage}
use Rattle.ws_flow.proofs.Told.{before_trans}
use Rattle.ws_flow.specs.declared.plan.Ending.TheVariants.{Fine, Bad}
use Rattle.ws_flow.specs.declared.plan.Stage.{Stage}
use Rattle.std.specs.List.{concat}

-- what a run leaves: `cuts` is how the reads cut what was taken, `sunk` is what was handed to the output
pub record Run (ss : List Stage) (taken : Told ℕ) (ns : List Node) (got : Told ℕ) : Type 0 where
  pub cuts : Told (List ℕ)
  pub sunk : Told (List ℕ)
  pub read : bytes_of cuts ≡ taken
  pub stages : plan_of ns ≡ machines ss
  pub linked : Linked cuts ns sunk
  pub written : IsBefore got (bytes_of sunk)

bytes_before_by : (xs : List (List ℕ)) (m : Mark) (y : Told (List ℕ)) → Begins xs m y → IsBefore (bytes_of (told xs m)) (bytes_of y)
bytes_before_by xs Open y (r, e) = (concat r, ap concat e ∙ joined_append xs r)
bytes_before_by xs Lost y (r, e) = (concat r, ap concat e ∙ joined_append xs r)
bytes_before_by xs Closed y (a, b) = (ap concat a, b)
bytes_before_by xs Broken y (a, b) = (ap concat a, b)

pub bytes_before : (x y : Told (List ℕ)) → IsBefore x y → IsBefore (bytes_of x) (bytes_of y)
bytes_before x y = bytes_before_by x.items x.mark y

cuts_same : (ss : List Stage) (taken : Told ℕ) (ns : List Node) (got : Told ℕ) → sees_known_chunks false ss ≡ true → (r : Run ss taken ns got) → Same (machines ss) r.cuts (as_one taken.items taken.mark)
cuts_same ss taken ns got a r = same_cut ss r.cuts (as_one taken.items taken.mark) a (r.read ∙ ap (λ q. told q taken.mark) (sym (some_joined taken.items)))

-- the sink got a prefix, and all where it was closed
pub run_got : (ss : List Stage) (taken : Told ℕ) (ns : List Node) (got : Told ℕ) → sees_known_chunks false ss ≡ true → Run ss taken ns got → IsBefore got (bytes_of (reach ss taken.items taken.mark))
run_got ss taken ns got a r =
    before_trans got (bytes_of r.sunk) (bytes_of (reach ss taken.items taken.mark)) r.written
    (subst (λ q. IsBefore (bytes_of r.sunk) q) (ap (λ q. bytes_of (all_through q r.cuts)) r.stages ∙ (cuts_same ss taken ns got a r).bytes)
    (bytes_before r.sunk (all_through (plan_of ns) r.cuts) (got_before r.cuts ns r.sunk r.linked)))

pub run_stage : (ss : List Stage) (taken : Told ℕ) (ns : List Node) (got : Told ℕ) (j c p : ℕ) → sees_known_chunks false ss ≡ true → Run ss taken ns got → found (parts_of ns) j ≡ Bad c p → ending (machines ss) j (as_one taken.items taken.mark) ≡ Bad c p
run_stage ss taken ns got j c p a r f =
    sym ((cuts_same ss taken ns got a r).endings j) ∙ ap (λ q. ending q j r.cuts) (sym r.stages) ∙ status_stage r.cuts ns r.sunk j c p r.linked f

pub run_done : (ss : List Stage) (taken : Told ℕ) (ns : List Node) (got : Told ℕ) → sees_known_chunks false ss ≡ true → Run ss taken ns got → got.mark ≡ Closed → (bytes_of (reach ss taken.items taken.mark) ≡ got) × EndsWell (machines ss) (as_one taken.items taken.mark)
run_done ss taken ns got a r c =
    let e = closed_same got (bytes_of (reach ss taken.items taken.mark)) (run_got ss taken ns got a r) c in
    let d = closed_all (machines ss) (as_one taken.items taken.mark) (ap (λ q. q.mark) e ∙ c) in
    (e, d) where
      same_by : (xs : List ℕ) (m : Mark) (y : Told ℕ) → Begins xs m y → m ≡ Closed → y ≡ told xs m
      same_by xs Open y h c = grind arith
      same_by xs Broken y h c = grind arith
      same_by xs Lost y h c = grind arith
      same_by xs Closed y (a, b) c = grind arith

      closed_same : (x y : Told ℕ) → IsBefore x y → x.mark ≡ Closed → y ≡ x
      closed_same x y = same_by x.items x.mark y
