-- What a run of the plan without stages comes to: it copies its input.
use Rattle.std.proofs.Common.{◌≡◌, ◌+◌, ◌-◌, ◌<◌, ◌≤◌, ◌^◌, ℕ, ℤ, pos, nat_abs, List, [], ◌++◌, length, length-append, sym, ◌∙◌, ap, subst, map, arith}
use Rattle.std.specs.Prelude.{Option, None}
use Rattle.ws_io.specs.Gain.{Got}
use Rattle.ws_io.specs.Faults.{Calm, Rose}
use Rattle.ws_io.specs.Moment.{Moment}
use Rattle.ws_io.specs.declared.status.Status.{Status}
use Rattle.ws_io.specs.declared.status.Status.TheVariants.{Done, Stage, ReadFault, WriteFault, Aborted, NoMemory, TooMuch}
use Rattle.ws_flow.specs.declared.plan.Ending.{Ending}
use Rattle.ws_flow.specs.declared.plan.Ending.TheVariants.{Fine, Bad}
use Rattle.ws_flow.specs.declared.plan.Plan.{Plan}
use Rattle.ws_flow.specs.Machines.{ending}
use Rattle.ws_flow.specs.Plans.{as_one, reach, stages_of}
use Rattle.ws_flow.specs.Stages.{machines}
use Rattle.ws_flow.specs.Told.{bytes_of, Mark, Open, Closed, Told, told, IsBefore}
use Rattle.ws_flow.proofs.Cutting.{some_joined}
use Rattle.ws_node_rules.specs.Copies.{AllowsCopy, Copies}
use Rattle.ws_node.specs.Ends.{Allows, Ends, IsAborted, ending_of, out_of}

-- the plan without stages and workers
pub record IsCopying (plan : Plan) : Type 0 where
  pub workers : plan.workers ≡ pos 0
  pub abort : plan.abort_after ≡ None
  pub most : plan.max_input ≡ pos (2 ^ 40)
  pub stages : plan.stages.items ≡ []

-- without stages what comes out is what came in, and none ends badly
no_stages : (plan : Plan) → IsCopying plan → stages_of plan ≡ []
no_stages plan c = ap (map (λ p. p.stage)) c.stages

out_of_none : (plan : Plan) (b : List ℕ) (m : Mark) → stages_of plan ≡ [] → out_of plan b m ≡ told b m
out_of_none plan b m none = ap (λ ss. bytes_of (reach ss b m)) none ∙ ap (λ xs. told xs m) (some_joined b)

ending_of_none : (plan : Plan) (j : ℕ) (b : List ℕ) (m : Mark) → stages_of plan ≡ [] → ending_of plan j b m ≡ Fine
ending_of_none plan j b m none = ap (λ ss. ending (machines ss) j (as_one b m)) none

pub fine_not_bad : (e : Ending) (code place : ℕ) → e ≡ Fine → e ≡ Bad code place → ⊥
fine_not_bad e code place fine bad = cc

Allows-copy : (status : Status) (plan : Plan) (m : Mark) (old new : Moment) (taken gain : List ℕ) → IsCopying plan
    → Allows status plan m old new taken gain → AllowsCopy status (2 ^ 40) old new taken gain
Allows-copy Done plan m old new taken gain c a =
    record {
      ended = a.ended;
      emptied = a.emptied;
      no_fault = a.no_fault;
      within = subst (λ (z : ℤ). length taken ≤ nat_abs z) c.most a.within;
      whole = ap (λ (t : Told ℕ). t.items) (sym a.whole ∙ out_of_none plan taken Closed (no_stages plan c));
      finished = a.finished;
    }
Allows-copy (Stage index code place) plan m old new taken gain c a =
    fine_not_bad (ending_of plan (index - 1) taken m) code place (ending_of_none plan (index - 1) taken m (no_stages plan c)) a.bad
Allows-copy ReadFault plan m old new taken gain c a = (a.0 (no_stages plan c), a.1)
Allows-copy WriteFault plan m old new taken gain c a = a
Allows-copy Aborted plan m old new taken gain c a = subst (λ (o : Option ℤ). IsAborted o gain) c.abort a
Allows-copy NoMemory plan m old new taken gain c a = tt
Allows-copy TooMuch plan m old new taken gain c a = subst (λ (z : ℤ). nat_abs z < length taken) c.most a
Allows-copy _ plan m old new taken gain c a = a

-- what was gained is a first part of what was taken
rest_within : (taken gain rest : List ℕ) → taken ≡ gain ++ rest → length taken ≤ length gain + 4096 → length rest ≤ 4096
rest_within taken gain rest e h = let l : length taken ≡ length gain + length rest = ap length e ∙ length-append gain rest in omega arith

pub Copies-of : (status : Status) (plan : Plan) (old new : Moment) (p q : Got) → IsCopying plan
    → Ends status plan old new p q → Copies status (2 ^ 40) 4096 old new p q
Copies-of status plan old new p q c e =
    let none = no_stages plan c in
    let (rest, first) : IsBefore (told e.gain Open) (told e.taken e.mark) =
    subst (λ (t : Told ℕ). IsBefore (told e.gain Open) t) (out_of_none plan e.taken e.mark none) e.first in
    record {
      taken = e.taken;
      gain = e.gain;
      rest = rest;
      fed = e.fed;
      gained = e.gained;
      first = first;
      bound = subst (λ (z : ℤ). length e.taken ≤ nat_abs z + 1) c.most e.bound;
      ahead_by = rest_within e.taken e.gain rest first (e.ahead_by none);
      allowed = Allows-copy status plan e.mark old new e.taken e.gain c e.allowed;
      finish_kept = e.finish_kept;
    }

-- the counts of faults
pub not_both : (before now : ℕ) → Calm before now → Rose before now → ⊥
not_both before now calm rose = omega arith
