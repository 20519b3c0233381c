-- The nodes of workers, while each is with its worker's thread or with the caller.
use Rattle.std.specs.Prelude.{◌≡◌, List, Some}
use Rattle.ws_io.specs.Gain.{Got}
use Rattle.ws_io.specs.Moment.{Moment}
use Rattle.ws_io.specs.declared.status.Status.{Status}
use Rattle.ws_node.specs.declared.node.Node.{Node}
use Rattle.ws_node.specs.Ends.{EndsAs}
use Rattle.ws_node.specs.Nodes.{AllGo, Each, MiddleGoes, Nodes}
use Rattle.ws_runner.specs.declared.place.Place.{Place}
use Rattle.ws_runner.specs.declared.place.Place.TheVariants.{Away, Here}

-- a node that was handed out is at this place, after some turns
abbrev pub IsPlaceOf : Node → Place → Type 0
IsPlaceOf a (Away h) = h.promise.was.value ≡ a
IsPlaceOf a (Here worker n over) = MiddleGoes a n

abbrev pub ArePlacesOf : List Node → List Place → Type 0
ArePlacesOf = Each IsPlaceOf

-- what is at the one place may be at the other, later
abbrev pub Moves : Place → Place → Type 0
Moves p q = (a : Node) → IsPlaceOf a p → IsPlaceOf a q

-- what is at the place may have become this node
abbrev pub Yields : Place → Node → Type 0
Yields p n = (a : Node) → IsPlaceOf a p → MiddleGoes a n

-- the nodes of a run went on until all were over, and the last one has this status
pub record HaveGone (a b : Nodes) (status : Status) (old new : Moment) (got got' : Got) : Type 0 where
  pub went : AllGo a b old new got got'
  pub status_is : EndsAs (Some status) b.tail
