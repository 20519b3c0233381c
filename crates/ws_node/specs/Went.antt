-- How a node goes on, and what it read and wrote meanwhile.
use Rattle.std.specs.Prelude.{◌≡◌, ◌≢◌, ◌+◌, ◌<◌, ◌≤◌, ◌^◌, ℕ, true, false, List, [], ◌∷◌, ◌++◌, All, length, Option, Some, None}
use Rattle.std.specs.List.{concat}
use Rattle.ws_flow.specs.Told.{bytes_of, Mark, Open as MayCome, Closed, Lost, Told, told, IsShortOf}
use Rattle.ws_segment_laws.specs.Segments.{AllMove, Move, Stretch}
use Rattle.ws_value.specs.declared.value.Message.{Message}
use Rattle.ws_value.specs.declared.value.Plain.{Plain}
use Rattle.ws_edge.specs.Edge.{AtEdge}
use Rattle.ws_flow.specs.Rows.{told_by}
use Rattle.ws_joined_laws.specs.Ends.{StopsIn}
use Rattle.ws_joined_laws.specs.Reasons.{reasons_in}
use Rattle.ws_io.specs.Faults.{Rose}
use Rattle.ws_io.specs.Feed.{Fed, IsEmpty, IsEnded, KeepsEnd}
use Rattle.ws_io.specs.Gain.{Gains, Becomes, KeepsTold, Got, IsEmptied}
use Rattle.ws_io.specs.Moment.{Moment}
use Rattle.ws_realm.specs.declared.realm.Why.{Why}
use Rattle.ws_node.specs.declared.node.Abort.{Abort}
use Rattle.ws_node.specs.declared.node.Entrance.{Entrance}
use Rattle.ws_node.specs.declared.node.Exit.{Exit}
use Rattle.ws_node.specs.declared.node.Input.{Input}
use Rattle.ws_node.specs.declared.node.Input.TheVariants as input
use Rattle.ws_node.specs.declared.node.Node.{Node}
use Rattle.ws_node.specs.declared.node.Output.{Output}
use Rattle.ws_node.specs.declared.node.Output.TheVariants as output
use Rattle.ws_node.specs.Messages.{fairly}
use Rattle.ws_node.specs.Near.{IsHead, IsNear}
use Rattle.ws_node.specs.Node.{held, nothing_yet, parts, stages_in, is_edge, feeds_edge, received_at, sent_at, rows_at}

-- no read failed
abbrev pub CalmRead : Moment → Moment → Type 0
CalmRead old new = new.read_faults ≡ old.read_faults

-- What was read of an input: while it may be read, pieces; then its end, or one failed read, or more than the run may take; and after
-- that it is left alone. Where its end was met, no read failed
abbrev pub InputGoes : Input → Input → Told (List ℕ) → Moment → Moment → Type 0
InputGoes input.Open input.Open read old new = (read.mark ≡ MayCome) × (CalmRead old new) × (KeepsEnd old.feed new.feed)
InputGoes input.Open input.Ended read old new = (read.mark ≡ Closed) × (CalmRead old new) × (IsEnded new.feed) × (IsEmpty new.feed)
InputGoes input.Open input.Failed read old new = (read.mark ≡ Lost) × (Rose old.read_faults new.read_faults) × (KeepsEnd old.feed new.feed)
InputGoes input.Open input.TooLong read old new = (read.mark ≡ Lost) × (CalmRead old new) × (KeepsEnd old.feed new.feed)
InputGoes input.Ended b read old new = (b ≡ input.Ended) × (read ≡ nothing_yet) × (new.feed ≡ old.feed) × (CalmRead old new)
InputGoes input.Failed b read old new = (b ≡ input.Failed) × (read ≡ nothing_yet) × (new.feed ≡ old.feed) × (CalmRead old new)
InputGoes input.TooLong b read old new = (b ≡ input.TooLong) × (read ≡ nothing_yet) × (new.feed ≡ old.feed) × (CalmRead old new)
InputGoes input.Open input.Edge read old new = ⊥
InputGoes input.Open (input.Broken reason) read old new = ⊥
InputGoes input.Edge b read old new = ⊥
InputGoes (input.Broken reason) b read old new = ⊥

-- an output that is left alone: no write was made, none failed, and its end is as it was
pub record LeftAlone (gain : List ℕ) (old new : Moment) : Type 0 where
  pub none : gain ≡ []
  pub calm : new.write_faults ≡ old.write_faults
  pub finished : new.finished ≡ old.finished

-- What was done to an output: while it is open, it is written; then it is finished, or one call of it fails, or more comes behind the
-- abort; and after that it is left alone. The mark says how what was written ends
abbrev pub OutputGoes : Output → Output → List ℕ → Mark → Moment → Moment → Type 0
OutputGoes output.Open output.Open gain out old new = (out ≡ MayCome) × (new.write_faults ≡ old.write_faults) × (KeepsTold old.finished new.finished)
OutputGoes output.Open output.Finished gain out old new = (out ≡ Closed) × (new.write_faults ≡ old.write_faults) × (Becomes old.finished new.finished)
OutputGoes output.Open output.Failed gain out old new = (out ≡ Lost) × (Rose old.write_faults new.write_faults) × (KeepsTold old.finished new.finished)
OutputGoes output.Open output.Aborted gain out old new = (out ≡ Lost) × (new.write_faults ≡ old.write_faults) × (KeepsTold old.finished new.finished)
OutputGoes output.Aborted b gain out old new = (b ≡ output.Aborted) × (LeftAlone gain old new)
OutputGoes output.Finished b gain out old new = (b ≡ output.Finished) × (LeftAlone gain old new)
OutputGoes output.Failed b gain out old new = (b ≡ output.Failed) × (LeftAlone gain old new)
OutputGoes output.Open output.Edge gain out old new = ⊥
OutputGoes output.Edge b gain out old new = ⊥

-- How near the abort came as these bytes of the chunks that went out were written: each byte by which it came nearer was written, and all that were but for a
-- write that failed. Before the chunk of the last byte fewer were written than were left, and none once it was reached
pub record ComesNear (left left' : ℕ) (chunks : List (List ℕ)) (gain : List ℕ) (o : Output) : Type 0 where
  pub counted : left ≤ length gain + left'
  pub exact : o ≢ output.Failed → 0 < left' → length gain + left' ≡ left
  pub last : 0 < length gain → StopsIn left chunks gain

-- of the chunks that went out, one holds the last byte that the output got, and it is short
pub record EndsShort (chunks : List (List ℕ)) (gain : List ℕ) : Type 0 where
  pub before : List (List ℕ)
  pub chunk : List ℕ
  pub after : List (List ℕ)
  pub split : chunks ≡ before ++ (chunk ∷ after)
  pub from : length (concat before) < length gain
  pub to : length gain ≤ length (concat before) + length chunk
  pub short : length chunk < 2 ^ 25

abbrev pub AbortGoes : Option Abort → Option Abort → List (List ℕ) → List ℕ → Output → Type 0
AbortGoes None None chunks gain o = Unit {0}
AbortGoes (Some x) (Some y) chunks gain o = (y.signal ≡ x.signal) × ComesNear x.left y.left chunks gain o
AbortGoes _ _ chunks gain o = ⊥

-- it did nothing
pub record DoesNothing (a b : Node) (old new : Moment) (read : Told (List ℕ)) (gain : List ℕ) : Type 0 where
  pub same : b ≡ a
  pub still : new ≡ old
  pub unread : read ≡ nothing_yet
  pub none : gain ≡ []

-- the segments of a node as they stand: the one that it has
abbrev pub stretches : Node → List Stretch
stretches n = record { stages = stages_in n.core; parts = parts n; behind = held n } ∷ []

-- How a node goes on by itself, at whatever moments of the outside: so much came into each of its segments, and so much went out of it. What lay before each
-- stage, and then what came, was taken by it or lies there now, and what the last one made went out or lies behind it, or is cut short of that
pub record CoreGoes (a b : Node) (ms : List Move) : Type 0 where
  pub moves : AllMove (stretches a) ms (stretches b)
  pub pipe : b.core.pipe ≡ a.core.pipe
  pub pipes : b.core.pipes_before ≡ a.core.pipes_before
  pub first : b.core.first ≡ a.core.first

-- What its input adds: what came in was read of it, in some cutting into pieces, none longer than one read, and is counted
pub record FromGoes (a b : Entrance) (old new : Moment) (came : Told (List ℕ)) : Type 0 where
  pub fed : Fed old.feed new.feed (concat came.items)
  pub short : All (λ c. length c ≤ 4096) came.items
  pub counted : b.taken ≡ a.taken + length (concat came.items)
  pub input : InputGoes a.input b.input came old new
  pub source : b.source ≡ a.source
  pub most : b.most ≡ a.most
  pub above : b.above ≡ a.above

-- the same end of an edge, at which so much more was taken and posted
pub record EndGrows (a b : Option AtEdge) (taken posted : List Message) : Type 0 where
  pub rows : rows_at b ≡ rows_at a
  pub received : received_at b ≡ received_at a ++ taken
  pub sent : sent_at b ≡ sent_at a ++ posted

-- by the reasons of the errors among what was taken
abbrev pub edge_after : List Plain → Input
edge_after [] = input.Edge
edge_after (r ∷ rs) = input.Broken r

-- a node that is fed by an edge stays so: it is told the reason of the first error that comes over it
abbrev pub EdgeGoes : Input → Input → List Message → Type 0
EdgeGoes input.Edge b taken = b ≡ edge_after (reasons_in taken)
EdgeGoes (input.Broken reason) b taken = b ≡ input.Broken reason
EdgeGoes _ b taken = ⊥

-- What an edge adds: what came in is what was taken of it, each message as a node takes it
pub record TakesOn (a b : Entrance) (old new : Moment) (came : Told (List ℕ)) : Type 0 where
  pub taken : List Message
  pub posted : List Message
  pub end : EndGrows a.above b.above taken posted
  pub came_is : came ≡ told_by (fairly taken)
  pub short : All (λ c. length c < 2 ^ 25) came.items
  pub goes : EdgeGoes a.input b.input (fairly taken)
  pub unread : (new.feed ≡ old.feed) × CalmRead old new
  pub counted : b.taken ≡ a.taken
  pub source : b.source ≡ a.source
  pub most : b.most ≡ a.most

-- what came in
pub data ComesIn (a b : Entrance) (old new : Moment) (came : Told (List ℕ)) : Type 0 where
  ByInput : is_edge a.input ≡ false → FromGoes a b old new came → ComesIn a b old new came
  ByEdge : is_edge a.input ≡ true → TakesOn a b old new came → ComesIn a b old new came

-- What its output adds: what that gained is what went out, or is cut short of it
pub record ToGoes (a b : Exit) (old new : Moment) (got got' : Got) (went : Told (List ℕ)) (gain : List ℕ) (out : Mark) : Type 0 where
  pub gained : Gains got got' gain
  pub written : IsShortOf (told gain out) (bytes_of went)
  -- as it is finished nothing is held back any more
  pub emptied : a.output ≡ output.Open → b.output ≡ output.Finished → IsEmptied got'
  pub output : OutputGoes a.output b.output gain out old new
  pub abort : AbortGoes a.abort b.abort went.items gain b.output
  pub sink : b.sink ≡ a.sink
  pub below : b.below ≡ a.below

-- What an edge adds: what went out is what was posted
pub record PostsOn (a b : Exit) (old new : Moment) (got got' : Got) (went : Told (List ℕ)) (gain : List ℕ) (out : Mark) : Type 0 where
  pub taken : List Message
  pub posted : List Message
  pub end : EndGrows a.below b.below taken posted
  pub went_is : went ≡ told_by posted
  pub gained : Gains got got' gain
  pub output : b.output ≡ a.output
  pub may_come : out ≡ MayCome
  pub alone : LeftAlone gain old new
  pub abort : b.abort ≡ a.abort
  pub sink : b.sink ≡ a.sink

-- what went out
pub data GoesOut (a b : Exit) (old new : Moment) (got got' : Got) (went : Told (List ℕ)) (gain : List ℕ) (out : Mark) : Type 0 where
  ToOutput : feeds_edge a.output ≡ false → ToGoes a b old new got got' went gain out → GoesOut a b old new got got' went gain out
  ToEdge : feeds_edge a.output ≡ true → PostsOn a b old new got got' went gain out → GoesOut a b old new got got' went gain out

-- The node goes from a to b: so much came in, and went through its stages to what went out and what lies in it, whole, or was lost from some place on
pub record Went (a b : Node) (old new : Moment) (got got' : Got) : Type 0 where
  pub read : Told (List ℕ)
  pub went : Told (List ℕ)
  pub gain : List ℕ
  pub out : Mark
  pub core : CoreGoes a b (record { came = read; went = went } ∷ [])
  pub from : ComesIn a.entrance b.entrance old new read
  pub into : GoesOut a.exit b.exit old new got got' went gain out
  -- without stages what the output hasn't had is at least what was read and not gained
  pub ahead : a.core.stages.items ≡ [] → is_edge a.entrance.input ≡ false → feeds_edge a.exit.output ≡ false
      → a.entrance.ahead + length (concat read.items) ≤ length gain + b.entrance.ahead
  -- however many pieces a node read before that only reads the input and sends it on
  pub near : IsHead a → (pieces : ℕ) → IsNear pieces a → IsNear (pieces + length read.items) b
  -- of a node that the input feeds, the chunk with the last byte that its output got is short
  pub short : is_edge a.entrance.input ≡ false → 0 < length gain → EndsShort went.items gain
  -- one that had stopped does nothing more
  pub stays : (why : Why) → a.core.stopped ≡ Some why → DoesNothing a b old new read gain
