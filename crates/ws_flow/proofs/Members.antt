use Rattle.std.proofs.Common.{◌≡◌, ℕ, true, false, List, [], ◌∷◌, ◌++◌, refl, sym, ap, ◌∙◌, subst}
use Rattle.ws_flow.specs.Chains.{Way, Host, Row, Came, Went, Member, Keeps, all_stages, all_parts, Onward, Chained}
use Rattle.ws_flow.specs.Machines.{ending, EndsWell}
use Rattle.ws_flow.specs.Parts.{found}
use Rattle.ws_flow.specs.Plans.{as_one, reach, sees_known_chunks}
use Rattle.ws_flow.specs.Rows.{told_by}
use Rattle.ws_flow.specs.Stages.{machine, machines}
use Rattle.ws_flow.specs.Told.{bytes_of, Closed, Told, IsBefore}
use Rattle.ws_flow.proofs.Ends.{edge_before}
use Rattle.ws_flow.proofs.Headline.{Run, run_got, run_stage, run_done}
use Rattle.ws_flow.proofs.Nodes.{Node, plan_of, parts_of, Linked}
use Rattle.ws_flow.proofs.Told.{before_refl}
use Rattle.ws_flow.specs.declared.plan.Ending.TheVariants.{Fine, Bad}
use Rattle.ws_flow.specs.declared.plan.Stage.{Stage}

pub machines-append : (a b : List Stage) → machines (a ++ b) ≡ machines a ++ machines b
machines-append [] b = refl
machines-append (s ∷ a) b = ap (λ q. machine s ∷ q) (machines-append a b)

record Links (x : Told (List ℕ)) (ms : List Member) (got : Told ℕ) : Type 0 where
  pub nodes : List Node
  pub sunk : Told (List ℕ)
  pub plan : plan_of nodes ≡ machines (all_stages ms)
  pub parts : parts_of nodes ≡ all_parts ms
  pub linked : Linked x nodes sunk
  pub written : IsBefore got (bytes_of sunk)

with_node : (x : Told (List ℕ)) (m : Member) (k : Keeps m) (ms : List Member) (got : Told ℕ) → IsBefore k.came x → Links k.went ms got → Links x (m ∷ ms) got
with_node x m k ms got b l = record {
  nodes = record { machines = machines m.stages; received = k.came; parts = m.parts; sent = k.went; behind = m.behind } ∷ l.nodes;
  sunk = l.sunk;
  plan = ap (λ q. machines m.stages ++ q) l.plan ∙ sym (machines-append m.stages (all_stages ms));
  parts = ap (λ q. m.parts ++ q) l.parts;
  linked = (b, k.flows, l.linked);
  written = l.written;
}

onward : (w : Way) (x : Told (List ℕ)) (ms : List Member) (got : Told ℕ) → Went w x → Onward w ms got → Links x ms got
onward (Host b) x [] got h e = record { nodes = []; sunk = x; plan = refl; parts = refl; linked = before_refl x; written = subst (λ q. IsBefore q (bytes_of x)) e h }
onward (Row s) x (m ∷ ms) got h (received, rest, e, f, k, o) =
    with_node x m k ms got
    (subst (λ q. IsBefore k.came q) (ap told_by (sym e) ∙ sym h) (subst (λ q. IsBefore q (told_by (received ++ rest))) (sym (subst (λ q. Came q k.came) f k.is_came)) (edge_before received rest)))
    (onward m.to k.went ms got k.is_went o)
onward (Host b) x (m ∷ ms) got h o = elim o [ ]
onward (Row s) x [] got h o = elim o [ ]

-- A chain of nodes of any number leaves a run.
record Ran (taken : Told ℕ) (ms : List Member) (got : Told ℕ) : Type 0 where
  pub nodes : List Node
  pub run : Run (all_stages ms) taken nodes got
  pub parts : parts_of nodes ≡ all_parts ms

ran_by : (taken : Told ℕ) (x : Told (List ℕ)) (ms : List Member) (got : Told ℕ) → bytes_of x ≡ taken → Links x ms got → Ran taken ms got
ran_by taken x ms got e l = record { nodes = l.nodes; run = record { cuts = x; sunk = l.sunk; read = e; stages = l.plan; linked = l.linked; written = l.written }; parts = l.parts }

ran : (taken : Told ℕ) (ms : List Member) (got : Told ℕ) → Chained taken ms got → Ran taken ms got
ran taken [] got o = elim o [ ]
ran taken (m ∷ ms) got (f, k, o) = ran_by taken k.came (m ∷ ms) got (subst (λ q. Came q k.came) f k.is_came) (with_node k.came m k ms got (before_refl k.came) (onward m.to k.went ms got k.is_went o))

pub chain_got : (taken : Told ℕ) (ms : List Member) (got : Told ℕ) → sees_known_chunks false (all_stages ms) ≡ true → Chained taken ms got → IsBefore got (bytes_of (reach (all_stages ms) taken.items taken.mark))
chain_got taken ms got a c = let r = ran taken ms got c in run_got (all_stages ms) taken r.nodes got a r.run

pub chain_stage : (taken : Told ℕ) (ms : List Member) (got : Told ℕ) (j c p : ℕ) → sees_known_chunks false (all_stages ms) ≡ true → Chained taken ms got → found (all_parts ms) j ≡ Bad c p → ending (machines (all_stages ms)) j (as_one taken.items taken.mark) ≡ Bad c p
chain_stage taken ms got j c p a h f = let r = ran taken ms got h in run_stage (all_stages ms) taken r.nodes got j c p a r.run (ap (λ q. found q j) r.parts ∙ f)

pub chain_done : (taken : Told ℕ) (ms : List Member) (got : Told ℕ) → sees_known_chunks false (all_stages ms) ≡ true → Chained taken ms got → got.mark ≡ Closed → (bytes_of (reach (all_stages ms) taken.items taken.mark) ≡ got) × EndsWell (machines (all_stages ms)) (as_one taken.items taken.mark)
chain_done taken ms got a h c = let r = ran taken ms got h in run_done (all_stages ms) taken r.nodes got a r.run c
