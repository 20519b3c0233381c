-- What holds of every stage, every node and every run.
use Rattle.std.specs.Prelude.{◌≡◌, ◌≢◌, ℕ, ◌<◌, ◌≤◌, true, false, List, [], ◌∷◌, ◌++◌, length, None, pos, nat_abs, int_le}
use Rattle.std.specs.List.{concat, All, count_by, list_all}
use Rattle.ws_value.specs.declared.value.Message.{Message}
use Rattle.ws_flow.specs.declared.plan.Ending.TheVariants.{Fine, Bad}
use Rattle.ws_flow.specs.declared.plan.Plan.{Plan}
use Rattle.ws_flow.specs.declared.plan.Stage.{Stage}
use Rattle.ws_flow.specs.Told.{Mark, Open, Closed, Lost, Told, then_told, IsShortOf, IsBefore, bytes_of}
use Rattle.ws_flow.specs.Machines.{Machine, Kept, Pushed, piece, at_end, through, keeps, or_else, end_verdict, verdict, all_through, ending, EndsWell, nothing_kept, each_byte, Packing, AsCut, byte_machine}
use Rattle.ws_flow.specs.Stages.{machines, IsTold, is_in_range}
use Rattle.ws_flow.specs.Plans.{as_one, reach, sees_known_chunks, stages_of, is_hex, are_numbers_within, are_in_order, each_has_stage, refusal}
use Rattle.ws_flow.specs.Parts.{AtWork, Live, Over, Part, Goes, Flows, residual, found}
use Rattle.ws_flow.specs.Rows.{Place, in_place, LinkKeeps, Turned, Relates}
use Rattle.ws_flow.specs.Chains.{Member, Chained, all_stages, all_parts}

abbrev pub EachFlowGoesOn : Type 0
EachFlowGoesOn =
    (m : Machine) (k : Kept) (x y : Told (List ℕ)) →
    through m k (then_told x y) ≡ then_told (through m k x) (through m (keeps m k x.items) y)

abbrev pub EachFirstPartStays : Type 0
EachFirstPartStays =
    (ms : List Machine) (x y : Told (List ℕ)) →
    (IsBefore x y → IsBefore (all_through ms x) (all_through ms y)) × (IsShortOf x y → IsShortOf (all_through ms x) (all_through ms y))

abbrev pub EachEndingStays : Type 0
EachEndingStays =
    (ms : List Machine) (j : ℕ) (x y : Told (List ℕ)) → IsBefore x y → ending ms j x ≢ Fine → ending ms j y ≡ ending ms j x

abbrev pub EachCloseIsWhole : Type 0
EachCloseIsWhole =
    (ms : List Machine) (x : Told (List ℕ)) → (all_through ms x).mark ≡ Closed → EndsWell ms x

abbrev pub EachCuttingIsAlike : Type 0
EachCuttingIsAlike =
    (ss : List Stage) (x y : Told (List ℕ)) → sees_known_chunks false ss ≡ true → bytes_of x ≡ bytes_of y →
    (bytes_of (all_through (machines ss) x) ≡ bytes_of (all_through (machines ss) y)) × ((j : ℕ) → ending (machines ss) j x ≡ ending (machines ss) j y)

abbrev pub EachFirstBytesStay : Type 0
EachFirstBytesStay =
    (ss : List Stage) (a b : List ℕ) (e : Mark) → sees_known_chunks false ss ≡ true →
    IsBefore (bytes_of (reach ss a Open)) (bytes_of (reach ss (a ++ b) e))

abbrev pub EachNodeFlows : Type 0
EachNodeFlows =
    (ms : List Machine) (x : Told (List ℕ)) (ps : List Part) (out : Told (List ℕ)) → Flows ms x ps out →
    (IsBefore out (all_through ms x)) ×
    ((then_told out (residual ms ps)).mark ≢ Lost → then_told out (residual ms ps) ≡ all_through ms x) ×
    ((y : Told (List ℕ)) (qs : List Part) (new : Told (List ℕ)) → Goes ms y ps out qs new → Flows ms (then_told x y) qs new)

abbrev pub EachTurnKeeps : Type 0
EachTurnKeeps =
    (ms : List Machine) (r0 r1 s0 s1 : List Message) (ps : List Part) (b0 : Told (List ℕ)) (qs : List Part) (b1 : Told (List ℕ)) →
    Relates ms r0 s0 ps b0 → Turned ms r0 r1 s0 s1 ps b0 qs b1 → Relates ms r1 s1 qs b1

abbrev pub EachPlaceKeeps : Type 0
EachPlaceKeeps =
    (p : Place) (handed new entered later : Told (List ℕ)) → LinkKeeps handed new p.link entered → p.coming ≡ then_told entered later →
    IsShortOf (in_place (record { waiting = then_told p.waiting handed; link = new; coming = later })) (in_place p)

abbrev pub EachRunFlows : Type 0
EachRunFlows =
    (taken : Told ℕ) (ms : List Member) (got : Told ℕ) → sees_known_chunks false (all_stages ms) ≡ true → Chained taken ms got →
    IsBefore got (bytes_of (reach (all_stages ms) taken.items taken.mark))

abbrev pub EachFaultIsFound : Type 0
EachFaultIsFound =
    (taken : Told ℕ) (ms : List Member) (got : Told ℕ) (j c p : ℕ) → sees_known_chunks false (all_stages ms) ≡ true → Chained taken ms got →
    found (all_parts ms) j ≡ Bad c p → ending (machines (all_stages ms)) j (as_one taken.items taken.mark) ≡ Bad c p

abbrev pub EachFinishIsWhole : Type 0
EachFinishIsWhole =
    (taken : Told ℕ) (ms : List Member) (got : Told ℕ) → sees_known_chunks false (all_stages ms) ≡ true → Chained taken ms got →
    got.mark ≡ Closed →
    (bytes_of (reach (all_stages ms) taken.items taken.mark) ≡ got) × EndsWell (machines (all_stages ms)) (as_one taken.items taken.mark)

abbrev pub EachInputIsOne : Type 0
EachInputIsOne =
    (w : Packing) (f : Kept → ℕ → Pushed) (g : Kept → Pushed) (x : Told (List ℕ)) →
    let m = byte_machine w f g in
    let p = each_byte f nothing_kept (concat x.items) in
    (bytes_of (through m m.start x) ≡ bytes_of (then_told (piece p) (at_end m p.kept x.mark))) ×
    (w ≡ AsCut → through m m.start x ≡ then_told (piece p) (at_end m p.kept x.mark)) ×
    (verdict m m.start x.items x.mark ≡ or_else p.ending (end_verdict m p.kept x.mark))

abbrev pub EachOutputIsTold : Type 0
EachOutputIsTold = (s : Stage) → IsTold s

abbrev pub EachChunkIsShort : Type 0
EachChunkIsShort =
    (ss : List Stage) (x : Told (List ℕ)) → list_all is_in_range ss ≡ true → count_by is_hex ss ≤ 4 → length ss ≤ 16 →
    All (λ c. length c ≤ 4096) x.items → All (λ c. length c < 33554432) (all_through (machines ss) x).items

-- each chunk that lies before a stage which may be asked is below 2^25 bytes
abbrev pub LiesShort : AtWork → List (List ℕ) → Type 0
LiesShort (Live k) cs = All (λ c. length c < 33554432) cs
LiesShort (Over e) cs = Unit {0}

abbrev pub AreShort : List Part → Type 0
AreShort [] = Unit {0}
AreShort (p ∷ ps) = LiesShort p.work p.before.items × AreShort ps

abbrev pub EachLyingChunkIsShort : Type 0
EachLyingChunkIsShort =
    (ss : List Stage) (x : Told (List ℕ)) (ps : List Part) (out : Told (List ℕ)) →
    list_all is_in_range ss ≡ true → count_by is_hex ss ≤ 4 → length ss ≤ 16 → All (λ c. length c ≤ 4096) x.items →
    Flows (machines ss) x ps out → AreShort ps × All (λ c. length c < 33554432) out.items

-- what a plan has that isn't refused
pub record IsAccepted (plan : Plan) : Type 0 where
  pub stages : length (stages_of plan) ≤ 16
  pub numbers : are_numbers_within plan ≡ true
  pub range : list_all is_in_range (stages_of plan) ≡ true
  pub hex : count_by is_hex (stages_of plan) ≤ 4
  pub known : sees_known_chunks false (stages_of plan) ≡ true
  pub workers : int_le plan.workers (pos 8) ≡ true
  pub order : are_in_order (pos 0) plan.stages.items ≡ true
  pub each : each_has_stage (nat_abs plan.workers) plan.stages.items ≡ true

abbrev pub EachAcceptedPlan : Type 0
EachAcceptedPlan = (plan : Plan) → refusal plan ≡ None → IsAccepted plan
