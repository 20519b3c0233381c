-- The host settles a call.
use Rattle.std.proofs.Common.{◌≡◌, false, List, Some, sym, ap, ◌∙◌, arith}
use Rattle.std.specs.Prelude.{slice_get, All}
use Rattle.ws_value.specs.declared.ids.HostId.{HostId}
use Rattle.ws_value.specs.declared.ids.StreamId.{StreamId}
use Rattle.ws_flow.specs.declared.plan.Ending.TheVariants.{Fine}
use Rattle.ws_node.specs.Shape.{Shape}
use Rattle.ws_flow.specs.Parts.{Over}
use Rattle.ws_stages.specs.State.{State}
use Rattle.ws_steps.specs.declared.calls.Answer.{Answer}
use Rattle.ws_steps.specs.declared.calls.Answer.TheVariants.{Ok as AnswerOk}
use Rattle.ws_steps.specs.declared.calls.Call.TheVariants.{Settle}
use Rattle.ws_steps.specs.declared.calls.HostCall.{HostCall}
use Rattle.ws_steps.specs.declared.calls.HostCall.TheVariants.{Close, Flush}
use Rattle.ws_steps.specs.Run.{Entry}
use Rattle.ws_end_laws.specs.hosts.HostCalls.{called, settles_well}
use Rattle.ws_reason_laws.specs.Reasons.{failure_of}
use Rattle.ws_node.specs.Fair.{IsFairAnswer}
use Rattle.ws_node.specs.declared.node.Node.{Node}
use Rattle.ws_node.specs.declared.node.Output.TheVariants as output
use Rattle.ws_node.specs.Moves.{IsAt}
use Rattle.ws_node.specs.Node.{feeds_edge}
use Rattle.ws_node.specs.Past.{IsCause}
use Rattle.ws_node.proofs.Since.{MayAsk, AllHaveCauses}

some_same : {A : Type 0} (x y : A) → Some x ≡ Some y → x ≡ y
some_same x y e = grind arith

id_of : (id i : HostId) (x : Answer) → Settle id x ≡ settles_well i → id ≡ i
id_of id i x e = grind arith

answer_of : (id i : HostId) (x : Answer) → Settle id x ≡ settles_well i → x ≡ AnswerOk
answer_of id i x e = grind arith

-- the host may settle a call: with a failure that has its cause, and well as that call's kind says
module _ (shape : Shape) (past : List Entry) (n : Node) (id : HostId) (call : HostCall) (is : slice_get (called past) id.0 ≡ Some call) (x : Answer) where
  same-call : (i : HostId) (other : HostCall) → Settle id x ≡ settles_well i → slice_get (called past) i.0 ≡ Some other → call ≡ other
  same-call i other e c =
      some_same call other (sym is ∙ (ap (λ (h : HostId). slice_get (called past) h.0) (id_of id i x e) ∙ c))

  pub may-settle : All (IsCause n) (failure_of (Settle id x)) → IsFairAnswer x → (call ≡ Close n.exit.sink → x ≡ AnswerOk → feeds_edge n.exit.output ≡ false → n.exit.output ≡ output.Finished)
      → ((i : StreamId) → call ≡ Flush i → x ≡ AnswerOk → (first last : List State) (w : State) → IsAt i n.core.stages.items first w last → w.work ≡ Over Fine)
      → MayAsk shape past n (Settle id x)
  may-settle failed clones close flush =
      record {
        is_own = tt;
        clones = clones;
        failed = AllHaveCauses failed;
        closes = λ i e c no. close (same-call i (Close n.exit.sink) e c) (answer_of id i x e) no;
        flushes = λ i s e c first last w at. flush s (same-call i (Flush s) e c) (answer_of id i x e) first last w at;
      }
