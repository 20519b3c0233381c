-- What a turn of a node does first, and what it answers.
use Rattle.std.specs.Prelude.{◌≡◌, ◌<◌, ◌≤◌, ◌&&◌, Bool, true, false, List, ◌∷◌, ◌++◌, length, Option, Some, None}
use Rattle.ws_value.specs.declared.value.Message.{Message}
use Rattle.ws_steps.specs.PortHistory.{has_end, posted_in}
use Rattle.ws_steps.specs.Queues.{is_empty}
use Rattle.ws_steps.specs.Run.{Entry, Worked as JobWorked, Heard, run, is_idle}
use Rattle.ws_steps.specs.Slots.{is_live}
use Rattle.ws_alike.specs.Alike.{Alike, EachKeptIsNeeded}
use Rattle.ws_realm.specs.Seen.{oldest}
use Rattle.ws_realm.specs.declared.realm.Why.{Why}
use Rattle.ws_realm.specs.declared.realm.Why.TheVariants as why
use Rattle.ws_node_laws.specs.Messages.{taken_events}
use Rattle.ws_node.specs.declared.node.Node.{Node}
use Rattle.ws_node.specs.declared.turn.Turn.{Turn}
use Rattle.ws_node.specs.declared.turn.Turn.TheVariants.{Worked, Idle, Ended, NoMemory, Spent}
use Rattle.ws_chain_laws.specs.Chain.{source_port}
use Rattle.ws_edge.specs.Edge.{AtEdge, FindsFull, FindsNone, given}
use Rattle.ws_node.specs.Edges.{takes_more}
use Rattle.ws_node.specs.Node.{feeds_edge, is_busy, is_edge, is_over, port_below, received_at, sent_at}
use Rattle.ws_node.specs.Past.{IsGiven}

-- a run from the realm of a to what that of b is alike to, and that begins so
pub record GoesBy (x : Entry) (a b : Node) : Type 0 where
  pub rest : List Entry
  pub slots : Alike b.core.realm.slots (run (x ∷ rest) a.core.realm.slots)

-- what waited was begun with: the first job was performed, or the host heard of the first event
pub data IsBegun (a b : Node) : Type 0 where
  JobFirst : is_idle a.core.realm.slots ≡ false → GoesBy JobWorked a b → IsBegun a b
  EventFirst : is_empty a.core.realm.slots.promises.events ≡ false → GoesBy Heard a b → IsBegun a b

-- a realm performed jobs until no job was left, or as many were performed as may be
pub data HasWorked (a b : Node) : Type 0 where
  AnyJob : is_idle a.core.realm.slots ≡ false → GoesBy JobWorked a b → HasWorked a b
  NoneQueued : is_idle b.core.realm.slots ≡ true → b.core.realm.slots ≡ a.core.realm.slots → HasWorked a b

-- the host heard of an event
pub record HasHeard (a b : Node) : Type 0 where
  pub going : a.core.stopped ≡ None
  pub some : is_empty a.core.realm.slots.promises.events ≡ false
  pub goes : GoesBy Heard a b

-- there was none
pub record NoneHeard (a : Node) : Type 0 where
  pub going : a.core.stopped ≡ None
  pub none : is_empty a.core.realm.slots.promises.events ≡ true

-- a node without edges
pub record IsAlone (n : Node) : Type 0 where
  pub input : is_edge n.entrance.input ≡ false
  pub output : feeds_edge n.exit.output ≡ false
  pub above : n.entrance.above ≡ None
  pub below : n.exit.below ≡ None

-- both ends are as they were
pub record SameEnds (a b : Node) : Type 0 where
  pub above : b.entrance.above ≡ a.entrance.above
  pub below : b.exit.below ≡ a.exit.below

-- An end was given to post what it was given before, and then the messages of which the host heard meanwhile; where no memory was to be had, a first part of
-- these, and at most one error behind it. It looks no less often than before
abbrev pub EndGrowsBy : List Message → Option Why → Option AtEdge → Option AtEdge → Type 0
EndGrowsBy heard stopped None b = b ≡ None
EndGrowsBy heard stopped (Some a) None = ⊥
EndGrowsBy heard stopped (Some a) (Some b) = IsGiven (given a ++ heard) (given b) stopped × (a.to.looks ≤ b.to.looks)

-- some run leads from the realm of a to that of b, and its ends are given what the host heard of in it that their ports posted
pub record GivesHeard (a b : Node) : Type 0 where
  pub entries : List Entry
  pub slots : b.core.realm.slots ≡ run entries a.core.realm.slots
  pub above : EndGrowsBy (posted_in source_port (taken_events entries a.core.realm.slots)) b.core.stopped a.entrance.above b.entrance.above
  pub below : EndGrowsBy (posted_in (port_below a.entrance) (taken_events entries a.core.realm.slots)) b.core.stopped a.exit.below b.exit.below

-- What was posted at an end, and then what waits there, is what waited before, and then the messages of which the host heard meanwhile; where no memory was to
-- be had, a first part of these, and at most one error behind it
pub record EndPosts (heard : List Message) (stopped : Option Why) (a b : AtEdge) : Type 0 where
  pub posted : List Message
  pub sent : b.to.sent ≡ a.to.sent ++ posted
  pub given : IsGiven (a.waiting ++ heard) (posted ++ b.waiting) stopped

abbrev pub EndPostsAt : List Message → Option Why → Option AtEdge → Option AtEdge → Type 0
EndPostsAt heard stopped None b = b ≡ None
EndPostsAt heard stopped (Some a) None = ⊥
EndPostsAt heard stopped (Some a) (Some b) = EndPosts heard stopped a b

-- some run leads from the realm of a to what that of b is alike to, and at the ends is posted and waits what the host heard of in it that their ports
-- posted
pub record PostsHeard (a b : Node) : Type 0 where
  pub entries : List Entry
  pub slots : Alike b.core.realm.slots (run entries a.core.realm.slots)
  pub above : EndPostsAt (posted_in source_port (taken_events entries a.core.realm.slots)) b.core.stopped a.entrance.above b.entrance.above
  pub below : EndPostsAt (posted_in (port_below a.entrance) (taken_events entries a.core.realm.slots)) b.core.stopped a.exit.below b.exit.below

-- a message was taken or posted at an end
pub data HasSent (a b : Option AtEdge) : Type 0 where
  TookOne : length (received_at a) < length (received_at b) → HasSent a b
  PostedOne : length (sent_at a) < length (sent_at b) → HasSent a b

-- At an end nothing was to be had: where its port is held and no error came over the edge, a look found no message; and nothing waits to be posted, or a look
-- found the row full
abbrev pub IsQuietEnd : Bool → Option AtEdge → Option AtEdge → Type 0
IsQuietEnd held (Some a) (Some b) = (held ≡ true → FindsNone a.from b.from) × (is_empty b.waiting ≡ false → FindsFull a.to b.to)
IsQuietEnd held None None = Unit {0}
IsQuietEnd held _ _ = ⊥

pub record AreQuiet (a b : Node) : Type 0 where
  pub above : IsQuietEnd (is_live source_port a.core.realm.slots && takes_more a.entrance.input) a.entrance.above b.entrance.above
  pub below : IsQuietEnd (is_live (port_below a.entrance) a.core.realm.slots) a.exit.below b.exit.below

-- At an end the neighbour was told that no memory was to be had: of what the end was given one message is a close or an error, and all of it was posted, or a
-- look found the row full
pub record IsToldEnd (a b : AtEdge) : Type 0 where
  pub ended : has_end (given b) ≡ true
  pub full : is_empty b.waiting ≡ false → FindsFull a.to b.to

abbrev pub IsToldAt : Option AtEdge → Option AtEdge → Type 0
IsToldAt None b = b ≡ None
IsToldAt (Some a) None = ⊥
IsToldAt (Some a) (Some b) = IsToldEnd a b

pub record AreTold (a b : Node) : Type 0 where
  pub above : IsToldAt a.entrance.above b.entrance.above
  pub below : IsToldAt a.exit.below b.exit.below

-- what was done in a turn: a message was taken or posted, or what waited was begun with
pub data HasDone (a b : Node) : Type 0 where
  SentAbove : HasSent a.entrance.above b.entrance.above → HasDone a b
  SentBelow : HasSent a.exit.below b.exit.below → HasDone a b
  Begun : IsBegun a b → HasDone a b

-- what a turn did that began at a and came to b: it worked only where a message was taken or posted, a job performed or an event heard of, and was idle
-- only where no job was queued and no event waited, and there was nothing to be had at its ends. One that found no memory has told its neighbours so
abbrev pub Turned : Turn → Node → Node → Type 0
Turned Worked a b = (b.core.stopped ≡ None) × (is_over b ≡ false) × (HasDone a b)
Turned Idle a b = (b.core.stopped ≡ None) × (is_over b ≡ false) × (is_busy a.core ≡ false) × (AreQuiet a b)
Turned Ended a b = (b.core.stopped ≡ None) × (is_over b ≡ true)
Turned NoMemory a b = (b.core.stopped ≡ Some why.NoMemory) × (a.core.stopped ≡ None → AreTold a b)
Turned Spent a b = (b.core.stopped ≡ Some why.Spent) × (b.core.realm.slots.age ≡ oldest)

-- unless its realm has stopped, a node keeps no promise that nobody needs
abbrev pub KeepsNeeded : Turn → Node → Type 0
KeepsNeeded Worked b = EachKeptIsNeeded b.core.realm.slots
KeepsNeeded Idle b = EachKeptIsNeeded b.core.realm.slots
KeepsNeeded Ended b = EachKeptIsNeeded b.core.realm.slots
KeepsNeeded NoMemory b = Unit {0}
KeepsNeeded Spent b = Unit {0}

-- the turn that began at a and ended at b
abbrev pub TurnIs : Turn → Node → Node → Type 0
TurnIs turn a b = Turned turn a b × KeepsNeeded turn b
