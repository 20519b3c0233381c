-- With which reasons the pipe of the last node of a run may be rejected.
use Rattle.std.proofs.Common.{◌≡◌, ◌⊎◌, inl, inr, ℕ, ℤ, pos, false, List, [], ◌∷◌, Option, refl}
use Rattle.std.specs.Prelude.{int_le}
use Rattle.std.proofs.lemmas.List.Elements.{All-nil, All-cons, All-head}
use Rattle.ws_value.specs.declared.fault.Fault.TheVariants as fault
use Rattle.ws_value.specs.declared.value.Plain.{Plain}
use Rattle.ws_value.specs.declared.value.Plain.TheVariants.{Undefined, Number, Fault as FaultReason, Pair, Local}
use Rattle.ws_flow.specs.declared.plan.Plan.{Plan}
use Rattle.ws_flow.specs.Laws as flow
use Rattle.ws_flow.specs.Told.{Told}
use Rattle.ws_flow.proofs.Lengths.{accepted}
use Rattle.ws_io.specs.Gain.{Got}
use Rattle.ws_io.specs.Moment.{Moment}
use Rattle.ws_io.specs.declared.status.Status.{Status}
use Rattle.ws_joined_laws.specs.Finished.{IsFoundFor, NodesTell}
use Rattle.ws_joined_laws.specs.Joined as joined
use Rattle.ws_joined_laws.specs.Reasons.{HasCause, reasons_in}
use Rattle.ws_joined_laws.proofs.Finished.{each-run-of-nodes-ends}
use Rattle.ws_node.specs.Ends.{IsNamed}
use Rattle.ws_node.specs.Messages.{fairly}
use Rattle.ws_node.specs.Node.{parts, received_at}
use Rattle.ws_node.specs.Nodes.{Nodes}
use Rattle.ws_node.specs.Past.{IsCause, Passed, Own}
use Rattle.ws_node.specs.Rules.{EachNodeSendsDown}
use Rattle.ws_node_rules.proofs.Naming.{own-named}
use Rattle.ws_node.proofs.SinceNew.{finds_of, passed-on}
use Rattle.ws_runner.specs.Chain.{HasEnded, EachChainNamesItsReason}
use Rattle.ws_runner.proofs.ChainEnds.{nodes-tell}

abbrev IsKnown : Plain → Type 0
IsKnown r = IsNamed r ⊎ (r ≡ FaultReason fault.NoMemory)

-- what some node found is known
found-known : (taken : Told ℕ) (ns : List joined.Node) (r : Plain) → IsFoundFor taken ns r → IsKnown r
found-known taken ns (FaultReason fault.Read) f = inl tt
found-known taken ns (FaultReason fault.Write) f = inl tt
found-known taken ns (FaultReason fault.TooMuch) f = inl tt
found-known taken ns (FaultReason (fault.Stage index code place)) f = inl tt
found-known taken ns (FaultReason fault.Abort) f = inl tt
found-known taken ns (FaultReason fault.NoMemory) f = inr refl
found-known taken ns (FaultReason fault.TypeError) f = absurd f
found-known taken ns (FaultReason fault.RangeError) f = absurd f
found-known taken ns (FaultReason fault.DataClone) f = absurd f
found-known taken ns (FaultReason (fault.User k)) f = absurd f
found-known taken ns Undefined f = absurd f
found-known taken ns (Number k) f = absurd f
found-known taken ns (Pair t) f = absurd f
found-known taken ns (Local k) f = absurd f

rejected-known : (after : Option ℤ) (taken : Told ℕ) (ns : List joined.Node) (got : Told ℕ) (r : Plain) → NodesTell after taken ns got (r ∷ []) → IsKnown r
rejected-known after taken ns got r t = found-known taken ns r (All-head (IsFoundFor taken ns) r [] (each-run-of-nodes-ends after taken ns got (r ∷ []) t).reasons)

-- a reason has its cause in the last node, or came to it from those before
module _ (rules : EachNodeSendsDown) (plan : Plan) (s : Status) (a b : Nodes) (old new : Moment) (got got' : Got) (acc : flow.IsAccepted plan)
    (some : int_le plan.workers (pos 0) ≡ false) (h : HasEnded plan s a b old new got got') where
  abbrev Caused : Plain → Type 0
  Caused r = HasCause (finds_of b.tail) (parts b.tail) (reasons_in (fairly (received_at b.tail.entrance.above))) r

  cause-known : (r : Plain) → IsCause b.tail r → IsKnown r
  cause-known r (Own o) = inl (own-named b.tail r o)
  cause-known r (Passed c) =
      rejected-known _ _ _ _ r
      (nodes-tell rules plan s a b old new got got' acc some h (r ∷ [])
      (All-cons Caused r [] (passed-on (finds_of b.tail) (parts b.tail) (reasons_in (fairly (received_at b.tail.entrance.above))) r c) (All-nil Caused)))

pub chain-names : EachNodeSendsDown → {K : Type 0} (got : K → Got) → EachChainNamesItsReason got
chain-names rules got plan s a b old new k₀ k₁ r acc some h e = cause-known rules plan s a b old new (got k₀) (got k₁) (accepted plan acc) some h r (h.status_is.rejected r e).0
