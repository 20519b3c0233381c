-- What the methods of a node do at the ends of its edges, each told as it is.
use Rattle.std.specs.Prelude.{◌≡◌, ◌≢◌, ◌-◌, ◌<◌, ◌≤◌, Bool, true, false, ◌||◌, List, [], ◌∷◌, ◌++◌, length, Option, Some, None}
use Rattle.ws_value.specs.declared.fault.Fault.TheVariants.{NoMemory as NoMemoryFault}
use Rattle.ws_value.specs.declared.ids.PortId.{PortId}
use Rattle.ws_value.specs.declared.value.Message.{Message}
use Rattle.ws_value.specs.declared.value.Message.TheVariants.{Chunk, Error}
use Rattle.ws_value.specs.declared.value.Plain.TheVariants.{Fault as FaultReason}
use Rattle.ws_value.specs.declared.value.Value.TheVariants.{Bytes}
use Rattle.ws_edge.specs.Edge.{AtEdge, PostsFirst, FindsFull, FindsNone, given, last_error}
use Rattle.ws_stages.specs.State.{State}
use Rattle.ws_steps.specs.declared.calls.Call.TheVariants.{Deliver}
use Rattle.ws_steps.specs.PortHistory.{is_same_port}
use Rattle.ws_steps.specs.Queues.{is_empty}
use Rattle.ws_steps.specs.Slots.{is_live}
use Rattle.ws_chain_laws.specs.Chain.{source_port}
use Rattle.ws_realm.specs.declared.realm.Why.TheVariants.{NoMemory}
use Rattle.ws_node.specs.declared.node.Entrance.{Entrance}
use Rattle.ws_node.specs.declared.node.Input.{Input}
use Rattle.ws_node.specs.declared.node.Input.TheVariants as input
use Rattle.ws_node.specs.declared.node.Node.{Node}
use Rattle.ws_node.specs.Messages.{as_fair}
use Rattle.ws_node.specs.Moves.{Asks, stopped_by}
use Rattle.ws_node.specs.Node.{port_below}

-- Posting

-- a first part of what waits at an end is posted: all, or until the row is full
pub record PostsEnd (posted : Bool) (a b : AtEdge) : Type 0 where
  pub first : PostsFirst a b
  pub given_is : given b ≡ given a
  pub row : b.to.row ≡ a.to.row
  pub from : b.from ≡ a.from
  pub traced : b.traced ≡ a.traced
  pub looked : a.to.looks ≤ b.to.looks
  pub some : posted ≡ true → length a.to.sent < length b.to.sent
  pub none : posted ≡ false → b.to.sent ≡ a.to.sent
  pub full : is_empty b.waiting ≡ false → FindsFull a.to b.to

abbrev pub posts_at : Bool → Option AtEdge → Option AtEdge → Type 0
posts_at posted None b = (b ≡ None) × (posted ≡ false)
posts_at posted (Some a) (Some b) = PostsEnd posted a b
posts_at posted (Some a) None = ⊥

pub record PostsBoth (posted : Bool) (a b : Node) : Type 0 where
  pub above : Bool
  pub below : Bool
  pub posted_is : posted ≡ (above || below)
  pub is : b ≡ record a { entrance = record a.entrance { above = b.entrance.above }; exit = record a.exit { below = b.exit.below } }
  pub posts_above : posts_at above a.entrance.above b.entrance.above
  pub posts_below : posts_at below a.exit.below b.exit.below

-- an error waits behind all that was given, unless that has an end
abbrev pub tells_at : Option AtEdge → Option AtEdge → Type 0
tells_at None b = b ≡ None
tells_at (Some a) b = b ≡ Some (record a { waiting = a.waiting ++ last_error (FaultReason NoMemoryFault) a })

pub record TellsBoth (a b : Node) : Type 0 where
  pub mid : Node
  pub is : mid ≡ record a { entrance = record a.entrance { above = mid.entrance.above }; exit = record a.exit { below = mid.exit.below } }
  pub tells_above : tells_at a.entrance.above mid.entrance.above
  pub tells_below : tells_at a.exit.below mid.exit.below
  pub posted : Bool
  pub posts : PostsBoth posted mid b

-- Taking

-- a message was taken
pub record TakesEnd (m : Message) (a b : AtEdge) : Type 0 where
  pub to : b.to ≡ a.to
  pub waiting : b.waiting ≡ a.waiting
  pub traced : b.traced ≡ a.traced
  pub row : b.from.row ≡ a.from.row
  pub received : b.from.received ≡ a.from.received ++ m ∷ []

-- a look found none
pub record TakesNone (a b : AtEdge) : Type 0 where
  pub to : b.to ≡ a.to
  pub waiting : b.waiting ≡ a.waiting
  pub traced : b.traced ≡ a.traced
  pub row : b.from.row ≡ a.from.row
  pub received : b.from.received ≡ a.from.received
  pub looked : FindsNone a.from b.from

-- why an end isn't looked at: there is none, or the realm has stopped, or the port isn't held any more
pub data NoneHeld (port : PortId) (a : Node) (end : Option AtEdge) : Type 0 where
  NoEnd : end ≡ None → NoneHeld port a end
  HasStopped : a.core.stopped ≢ None → NoneHeld port a end
  NotLive : is_live port a.core.realm.slots ≡ false → NoneHeld port a end

-- behind an error that came over the edge nothing more is taken
abbrev pub takes_more : Input → Bool
takes_more input.Edge = true
takes_more _ = false

-- the reason of the first error is remembered
abbrev pub broken_by : Message → Input → Input
broken_by (Error r) input.Edge = input.Broken r
broken_by m i = i

abbrev pub with_above : AtEdge → Node → Node
with_above e n = record n { entrance = record n.entrance { above = Some e } }

abbrev pub with_below : AtEdge → Node → Node
with_below e n = record n { exit = record n.exit { below = Some e } }

abbrev pub Brings : Message → Node → Node → Type 0
Brings m a b = Asks (Deliver source_port m) (record a { entrance = record a.entrance { input = broken_by m a.entrance.input } }) b

-- that an error came up is remembered

abbrev pub broken_after : Message → Bool → Bool
broken_after (Error r) broken = true
broken_after m broken = broken

abbrev pub breaks_by : Message → Node → Node
breaks_by m n = record n { exit = record n.exit { broken = broken_after m n.exit.broken } }

abbrev pub BringsUp : PortId → Message → Node → Node → Type 0
BringsUp port m a b = Asks (Deliver port m) (breaks_by m a) b

pub data TakesAbove (took : Bool) (a b : Node) : Type 0 where
  NotAbove : took ≡ false → NoneHeld source_port a a.entrance.above → b ≡ a → TakesAbove took a b
  NoMore : took ≡ false → takes_more a.entrance.input ≡ false → b ≡ a → TakesAbove took a b
  NoneAbove : took ≡ false → a.core.stopped ≡ None → (e f : AtEdge) → a.entrance.above ≡ Some e → TakesNone e f → b ≡ with_above f a → TakesAbove took a b
  TookAbove : took ≡ true → a.core.stopped ≡ None → takes_more a.entrance.input ≡ true → (m : Message) (e f : AtEdge) → a.entrance.above ≡ Some e → TakesEnd m e f
      → Brings (as_fair m) (with_above f a) b → TakesAbove took a b

pub data TakesBelow (took : Bool) (a b : Node) : Type 0 where
  NotBelow : took ≡ false → NoneHeld (port_below a.entrance) a a.exit.below → b ≡ a → TakesBelow took a b
  NoneBelow : took ≡ false → a.core.stopped ≡ None → (e f : AtEdge) → a.exit.below ≡ Some e → TakesNone e f → b ≡ with_below f a → TakesBelow took a b
  TookBelow : took ≡ true → a.core.stopped ≡ None → (m : Message) (e f : AtEdge) → a.exit.below ≡ Some e → TakesEnd m e f
      → BringsUp (port_below a.entrance) (as_fair m) (with_below f a) b → TakesBelow took a b

-- What a port posted waits at its end, which is put into this node, or there was no memory for that, or no end is there

pub data WaitsAt (m : Message) (put : AtEdge → Node) (a n b : Node) (end : Option AtEdge) : Type 0 where
  Waiting : (e : AtEdge) → end ≡ Some e → b ≡ put (record e { waiting = e.waiting ++ m ∷ [] }) → WaitsAt m put a n b end
  NoRoom : (e : AtEdge) → end ≡ Some e → b ≡ stopped_by NoMemory n → WaitsAt m put a n b end
  NoEdge : end ≡ None → b ≡ a → WaitsAt m put a n b end

-- the bytes of a chunk were had
abbrev pub had_entrance : Message → Entrance → Entrance
had_entrance (Chunk (Bytes piece)) e = record e { ahead = e.ahead - length piece }
had_entrance m e = e

-- where no stage has a chunk of what was read first, it was had as it waits
abbrev pub had_as : List State → Message → Node → Node
had_as [] m n = record n { entrance = had_entrance m n.entrance }
had_as (w ∷ ws) m n = n

abbrev pub WaitsBelow : Message → Node → Node → Type 0
WaitsBelow m a b = let n : Node = had_as a.core.stages.items m a in WaitsAt m (λ e. with_below e n) a n b a.exit.below

abbrev pub WaitsAbove : Message → Node → Node → Type 0
WaitsAbove m a b = WaitsAt m (λ e. with_above e a) a a b a.entrance.above

-- by whether the port is that of the edge below, and whether it is that of the edge above
abbrev pub waits_by : Bool → Bool → Message → Node → Node → Type 0
waits_by true up m a b = WaitsBelow m a b
waits_by false true m a b = WaitsAbove m a b
waits_by false false m a b = b ≡ a

abbrev pub Waits : PortId → Message → Node → Node → Type 0
Waits port m a b = waits_by (is_same_port (port_below a.entrance) port) (is_same_port source_port port) m a b
