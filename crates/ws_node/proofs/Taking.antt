-- A node looks for a message at the ends of its edges.
use Rattle.std.proofs.Common.{◌≡◌, Bool, List, Some, None, sym, subst}
use Rattle.ws_edge.specs.Edge.{AtEdge}
use Rattle.ws_io.specs.Gain.{Got}
use Rattle.ws_io.specs.Moment.{Moment}
use Rattle.ws_steps.specs.Run.{Entry}
use Rattle.ws_node.specs.declared.node.Node.{Node}
use Rattle.ws_node.specs.Edges.{TakesNone, TakesAbove, NotAbove, NoMore, NoneAbove, TookAbove, TakesBelow, NotBelow, NoneBelow, TookBelow, with_above, with_below}
use Rattle.ws_node.specs.Node.{held}
use Rattle.ws_node.specs.Past.{Since}
use Rattle.ws_node.specs.Shape.{Shape}
use Rattle.ws_node.proofs.Going.{went-same}
use Rattle.ws_node.proofs.Handled.{Handled}
use Rattle.ws_node.proofs.Posting.{Grows, grows-same, looked-grow, ends-handled}
use Rattle.ws_node.proofs.TakingAbove.{took-above}
use Rattle.ws_node.proofs.TakingBelow.{took-below}

-- where nothing was done
still : (shape : Shape) (past : List Entry) (a b : Node) (t : Moment) (p : Got) → Since shape past a → b ≡ a → Handled shape a b t t p p
still shape past a b t p s same =
    subst (λ (n : Node). Handled shape a n t t p p) (sym same) (record { past = past; led = s.led; pushes = s.pushes; one = s.one; ends = s.ends; went = went-same a t p })

looked-above : (shape : Shape) (past : List Entry) (a : Node) (t : Moment) (p : Got) (e f : AtEdge) → a.core.stopped ≡ None → Since shape past a → a.entrance.above ≡ Some e → TakesNone e f
    → Handled shape a (with_above f a) t t p p
looked-above shape past a t p e f goes s is none =
    ends-handled shape past a (Some f) a.exit.below t p goes s (subst (λ o. Grows o (Some f)) (sym is) (looked-grow e f none)) (grows-same a.exit.below)

looked-below : (shape : Shape) (past : List Entry) (a : Node) (t : Moment) (p : Got) (e f : AtEdge) → a.core.stopped ≡ None → Since shape past a → a.exit.below ≡ Some e → TakesNone e f
    → Handled shape a (with_below f a) t t p p
looked-below shape past a t p e f goes s is none =
    ends-handled shape past a a.entrance.above (Some f) t p goes s (grows-same a.entrance.above) (subst (λ o. Grows o (Some f)) (sym is) (looked-grow e f none))

pub takes-above : (shape : Shape) (past : List Entry) (a b : Node) (took : Bool) (t : Moment) (p : Got) → Since shape past a → TakesAbove took a b → Handled shape a b t t p p
takes-above shape past a b took t p s (NotAbove e held same) = still shape past a b t p s same
takes-above shape past a b took t p s (NoMore e more same) = still shape past a b t p s same
takes-above shape past a b took t p s (NoneAbove e goes x f is none same) =
    subst (λ (n : Node). Handled shape a n t t p p) (sym same) (looked-above shape past a t p x f goes s is none)
takes-above shape past a b took t p s (TookAbove e goes more m x f is took_it brings) = took-above shape past a b t p s goes m x f took_it more is brings

pub takes-below : (shape : Shape) (past : List Entry) (a b : Node) (took : Bool) (t : Moment) (p : Got) → Since shape past a → TakesBelow took a b → Handled shape a b t t p p
takes-below shape past a b took t p s (NotBelow e held same) = still shape past a b t p s same
takes-below shape past a b took t p s (NoneBelow e goes x f is none same) =
    subst (λ (n : Node). Handled shape a n t t p p) (sym same) (looked-below shape past a t p x f goes s is none)
takes-below shape past a b took t p s (TookBelow e goes m x f is took_it asks) = took-below shape past a b t p s goes m x f took_it is asks
