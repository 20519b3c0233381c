-- A reason that has its cause in a node is a named one.
use Rattle.std.proofs.Common.{◌≡◌, false, [], Option, None, subst}
use Rattle.std.specs.Prelude.{Contains}
use Rattle.std.proofs.lemmas.List.Elements.{All-contains, All-nil}
use Rattle.ws_value.specs.declared.fault.Fault.TheVariants as fault
use Rattle.ws_value.specs.declared.value.Plain.{Plain}
use Rattle.ws_value.specs.declared.value.Plain.TheVariants.{Undefined, Number, Fault as FaultReason, Pair, Local}
use Rattle.ws_edge.specs.Edge.{AtEdge}
use Rattle.ws_chain_laws.specs.Chain.{Origin, FromChunks, FromBytes, FromPort}
use Rattle.ws_joined_laws.specs.Reasons.{reasons_in}
use Rattle.ws_node.specs.declared.node.Entrance.{Entrance}
use Rattle.ws_node.specs.declared.node.Node.{Node}
use Rattle.ws_node.specs.Ends.{EachWholeNamesItsReason, IsNamed}
use Rattle.ws_node.specs.Messages.{fairly}
use Rattle.ws_node.specs.Node.{is_edge, received_at}
use Rattle.ws_node.specs.Past.{IsCause, IsFedAs, IsOwnCause, Passed, Own}
use Rattle.ws_node.proofs.Ending.{rejected}

pub own-named : (n : Node) (r : Plain) → IsOwnCause n r → IsNamed r
own-named n (FaultReason fault.Read) o = tt
own-named n (FaultReason fault.Write) o = tt
own-named n (FaultReason fault.TooMuch) o = tt
own-named n (FaultReason (fault.Stage index code place)) o = tt
own-named n (FaultReason fault.Abort) o = tt
own-named n (FaultReason fault.TypeError) o = absurd o
own-named n (FaultReason fault.RangeError) o = absurd o
own-named n (FaultReason fault.DataClone) o = absurd o
own-named n (FaultReason (fault.User k)) o = absurd o
own-named n (FaultReason fault.NoMemory) o = absurd o
own-named n Undefined o = absurd o
own-named n (Number k) o = absurd o
own-named n (Pair t) o = absurd o
own-named n (Local k) o = absurd o

-- where no edge is above, nothing came over it

no-end : (o : Origin) (e : Entrance) → IsFedAs o e → is_edge e.input ≡ false → e.above ≡ None
no-end FromBytes e h by = h.1
no-end FromPort e h by = absurd (let f = h.0 in cc)
no-end FromChunks e h by = absurd h

none-in : (r : Plain) → Contains [] r → ⊥
none-in r c = All-contains (λ x. ⊥) [] r (All-nil (λ x. ⊥)) c

cause-named : (n : Node) (r : Plain) → n.entrance.above ≡ None → IsCause n r → IsNamed r
cause-named n r none (Own o) = own-named n r o
cause-named n r none (Passed c) = absurd (none-in r (subst (λ (o : Option AtEdge). Contains (reasons_in (fairly (received_at o))) r) none c))

pub each_whole_names_its_reason : EachWholeNamesItsReason
each_whole_names_its_reason n r d by sunk e = cause-named n r (no-end d.shape.origin n.entrance d.since.led.is_of.from by) (rejected n r d sunk e).0
