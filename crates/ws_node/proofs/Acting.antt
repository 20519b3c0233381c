-- What a node does as its host hears of an event: its realm performs calls, of which the host hears nothing, and both ends stay as they are.
use Rattle.std.proofs.Common.{◌≡◌, ◌-◌, ℕ, zero, suc, Bool, true, false, List, [], ◌∷◌, ◌++◌, length, Option, Some, None, Result, Ok, Err, refl, sym, ap, ◌∙◌, append_assoc}
use Rattle.ws_value.specs.declared.ids.HostId.{HostId}
use Rattle.ws_value.specs.declared.ids.StreamId.{StreamId}
use Rattle.ws_value.specs.declared.value.Value.{Value}
use Rattle.ws_value.specs.declared.value.Value.TheVariants.{Bytes, Plain}
use Rattle.ws_io.specs.Gain.{Got}
use Rattle.ws_io.specs.Feed.{Feed}
use Rattle.ws_io.specs.declared.outside.Failed.{Failed}
use Rattle.ws_steps.specs.declared.calls.Call.{Call}
use Rattle.ws_steps.specs.declared.calls.Event.{Event}
use Rattle.ws_steps.specs.declared.calls.HostCall.{HostCall}
use Rattle.ws_steps.specs.declared.calls.HostCall.TheVariants.{Pull, Write, Close, Start, Cancel, Abort, Transform, Flush, CancelTransform}
use Rattle.ws_steps.specs.Run.{Entry, Called, run, step}
use Rattle.ws_steps.specs.Slots.{Slots}
use Rattle.ws_stages.specs.State.{State}
use Rattle.ws_stages.specs.declared.work.Pushed.{Pushed}
use Rattle.ws_node.specs.declared.node.Node.{Node}
use Rattle.ws_node.specs.declared.node.Abort.{Abort as AbortOf}
use Rattle.ws_node.specs.Moves.{Asks, Performed, Refused, Shown, Writes, WroteAll, WroteLess, WroteNone, Reached, DrawsNear, draws_near, draws_by, nearer, written, Finishes, FinishedWell, FinishedBadly, FinishedNot, writes_by, finishes_by, HasStages, had_behind, Enqueues, NoPiece, NotTaken, OneTaken, PutsAll, Transforms, PushedOne, NoRoomToPush, NotPushed, NothingToPush, transforms_by, Flushes, FlushedOne, NoRoomToFlush, NotFlushed, NothingToFlush, Answers, is_sink, Reads, ReadNot, Wanted, ReadOnce, takes_bytes, Takes}
use Rattle.ws_steps.specs.Histories.{taken_in_step}
use Rattle.ws_node_laws.specs.Messages.{taken_events}

pub run-both : (xs ys : List Entry) (s : Slots) → run (xs ++ ys) s ≡ run ys (run xs s)
run-both [] ys s = refl
run-both (x ∷ xs) ys s = run-both xs ys (step s x)

pub taken-both : (xs ys : List Entry) (s : Slots) → taken_events (xs ++ ys) s ≡ taken_events xs s ++ taken_events ys (run xs s)
taken-both [] ys s = refl
taken-both (x ∷ xs) ys s =
    ap (λ (es : List Event). taken_in_step s x ++ es) (taken-both xs ys (step s x)) ∙ sym (append_assoc (taken_in_step s x) (taken_events xs (step s x)) (taken_events ys (run xs (step s x))))

pub record Acts (a b : Node) : Type 0 where
  pub entries : List Entry
  pub deaf : (s : Slots) → taken_events entries s ≡ []
  pub slots : b.core.realm.slots ≡ run entries a.core.realm.slots
  pub above : b.entrance.above ≡ a.entrance.above
  pub below : b.exit.below ≡ a.exit.below

-- nothing is done to its realm or its ends
pub acts-is : (a b c : Node) → b ≡ c → c.core.realm.slots ≡ a.core.realm.slots → c.entrance.above ≡ a.entrance.above → c.exit.below ≡ a.exit.below → Acts a b
acts-is a b c e slots above below = record {
  entries = [];
  deaf = λ s. refl;
  slots = ap (λ (n : Node). n.core.realm.slots) e ∙ slots;
  above = ap (λ (n : Node). n.entrance.above) e ∙ above;
  below = ap (λ (n : Node). n.exit.below) e ∙ below;
}

acts-then : (a b c : Node) → Acts a b → Acts b c → Acts a c
acts-then a b c f g = record {
  entries = f.entries ++ g.entries;
  deaf = λ s. taken-both f.entries g.entries s ∙ (ap (λ (es : List Event). es ++ taken_events g.entries (run f.entries s)) (f.deaf s) ∙ g.deaf (run f.entries s));
  slots = g.slots ∙ (ap (run g.entries) f.slots ∙ sym (run-both f.entries g.entries a.core.realm.slots));
  above = g.above ∙ f.above;
  below = g.below ∙ f.below;
}

-- from a node with the same realm and the same ends
acts-from : (a b c : Node) → Acts b c → b.core.realm.slots ≡ a.core.realm.slots → b.entrance.above ≡ a.entrance.above → b.exit.below ≡ a.exit.below → Acts a c
acts-from a b c f slots above below = record { entries = f.entries; deaf = f.deaf; slots = f.slots ∙ ap (run f.entries) slots; above = f.above ∙ above; below = f.below ∙ below }

pub asks-acts : (c : Call) (a b : Node) → Asks c a b → Acts a b
asks-acts c a b (Performed realm slots young goes is) = record {
  entries = Called c ∷ [];
  deaf = λ s. refl;
  slots = ap (λ (n : Node). n.core.realm.slots) is ∙ slots;
  above = ap (λ (n : Node). n.entrance.above) is;
  below = ap (λ (n : Node). n.exit.below) is;
}
asks-acts c a b (Refused why stops is) = acts-is a b _ is refl refl refl

draws_near-acts : (abort : AbortOf) (left : ℕ) (a b : Node) → draws_near abort left a b → Acts a b
draws_near-acts abort zero a b h = acts-from a (record a { exit = record a.exit { abort = Some abort } }) b (asks-acts _ _ b h) refl refl refl
draws_near-acts abort (suc left) a b h = acts-is a b _ h refl refl refl

draws_by-acts : (count : ℕ) (o : Option AbortOf) (a b : Node) → draws_by count o a b → Acts a b
draws_by-acts count None a b h = acts-is a b _ h refl refl refl
draws_by-acts count (Some abort) a b h = draws_near-acts (nearer count abort) (abort.left - count) a b h

draws-acts : (count : ℕ) (a b : Node) → DrawsNear count a b → Acts a b
draws-acts count a b h = draws_by-acts count a.exit.abort a b h

enqueues-acts : (i : StreamId) (pieces : List (List ℕ)) (a b : Node) → Enqueues i pieces a b → Acts a b
enqueues-acts i [] a b (NoPiece n) = acts-is a b a refl refl refl refl
enqueues-acts i (p ∷ ps) a b (NotTaken piece rest x y asks not_done) = asks-acts _ a b asks
enqueues-acts i (p ∷ ps) a b (OneTaken piece rest x y c asks done more) = acts-then a c b (asks-acts _ a c asks) (enqueues-acts i ps c b more)

puts-acts : (id : HostId) (i : StreamId) (p : Pushed) (a b : Node) → PutsAll id i p a b → Acts a b
puts-acts id i p a b h = acts-then a h.between b (enqueues-acts i p.chunks.items a h.between h.enqueued) (asks-acts _ h.between b h.ended)

had-acts : (before : List State) (count : ℕ) (a : Node) → Acts a (had_behind before count a)
had-acts [] count a = acts-is a _ _ refl refl refl refl
had-acts (w ∷ ws) count a = acts-is a _ _ refl refl refl refl

stages-act : (stages : List State) (a b : Node) → HasStages stages a b → Acts a b
stages-act stages a b h = acts-is a b _ h.is refl refl refl

module _ (id : HostId) (i : StreamId) (a b : Node) where
  transforms-acts : (piece : List ℕ) → Transforms id i piece a b → Acts a b
  transforms-acts piece (PushedOne before after w v p at live answers stage pushes c has puts) =
      acts-then a (had_behind before (length piece) a) b (had-acts before (length piece) a) (acts-then (had_behind before (length piece) a) c b (stages-act _ _ c has) (puts-acts id i p c b puts))
  transforms-acts piece (NoRoomToPush before after w v at live stage over c has same) =
      acts-then a (had_behind before (length piece) a) b (had-acts before (length piece) a)
      (acts-then (had_behind before (length piece) a) c b (stages-act _ _ c has) (acts-is c b _ same refl refl refl))
  transforms-acts piece (NotPushed before after w at dead same) = acts-is a b _ same refl refl refl
  transforms-acts piece (NothingToPush none same) = acts-is a b _ same refl refl refl

  transforms_by-acts : (v : Value) → transforms_by id i v a b → Acts a b
  transforms_by-acts (Bytes piece) h = transforms-acts piece h
  transforms_by-acts (Plain v) h = asks-acts _ a b h

  flushes-acts : Flushes id i a b → Acts a b
  flushes-acts (FlushedOne before after w v p at live answers stage pushes c has puts) = acts-then a c b (stages-act _ _ c has) (puts-acts id i p c b puts)
  flushes-acts (NoRoomToFlush before after w v at live stage over c has same) = acts-then a c b (stages-act _ _ c has) (acts-is c b _ same refl refl refl)
  flushes-acts (NotFlushed before after w at dead same) = acts-is a b _ same refl refl refl
  flushes-acts (NothingToFlush none same) = acts-is a b _ same refl refl refl

module _ (id : HostId) (a b : Node) (old new : Shown) (p q : Got) where
  writes-acts : (piece : List ℕ) → Writes id piece a b old new p q → Acts a b
  writes-acts piece (WroteAll was_open far gained calm kept c draws asks) =
      acts-then a c b (acts-from a (written (length piece) a) c (draws-acts (length piece) _ c draws) refl refl refl) (asks-acts _ c b asks)
  writes-acts piece (WroteLess was_open far gain rest split gained rose kept fails) = acts-from a _ b (asks-acts _ _ b fails) refl refl refl
  writes-acts piece (WroteNone was_shut untouched fails) = acts-from a _ b (asks-acts _ _ b fails) refl refl refl
  writes-acts piece (Reached was_open reached untouched fails) = acts-from a _ b (asks-acts _ _ b fails) refl refl refl

  finishes-acts : Finishes id a b old new p q → Acts a b
  finishes-acts (FinishedWell was_open gained emptied calm done asks) = acts-from a _ b (asks-acts _ _ b asks) refl refl refl
  finishes-acts (FinishedBadly was_open gained rose kept fails) = acts-from a _ b (asks-acts _ _ b fails) refl refl refl
  finishes-acts (FinishedNot was_shut untouched fails) = acts-from a _ b (asks-acts _ _ b fails) refl refl refl

  writes_by-acts : (v : Value) (t : Bool) → writes_by id v a b old new p q t → Acts a b
  writes_by-acts (Bytes piece) true h = writes-acts piece h
  writes_by-acts (Bytes piece) false h = asks-acts _ a b h.0
  writes_by-acts (Plain v) true h = asks-acts _ a b h.0
  writes_by-acts (Plain v) false h = asks-acts _ a b h.0

  finishes_by-acts : (t : Bool) → finishes_by id a b old new p q t → Acts a b
  finishes_by-acts true h = finishes-acts h
  finishes_by-acts false h = asks-acts _ a b h.0

  pub answers-acts : (call : HostCall) → Answers id call a b old new p q → Acts a b
  answers-acts (Pull i) h = acts-is a b _ h.0 refl refl refl
  answers-acts (Write i v) h = writes_by-acts v (is_sink a.exit i) h
  answers-acts (Close i) h = finishes_by-acts (is_sink a.exit i) h
  answers-acts (Start i) h = asks-acts _ a b h.0
  answers-acts (Cancel i r) h = asks-acts _ a b h.0
  answers-acts (Abort i r) h = asks-acts _ a b h.0
  answers-acts (Transform i v) h = transforms_by-acts id i a b v h.0
  answers-acts (Flush i) h = flushes-acts id i a b h.0
  answers-acts (CancelTransform i r) h = asks-acts _ a b h.0

takes_bytes-acts : (piece : List ℕ) (a b : Node) (t : Bool) → takes_bytes piece a b t → Acts a b
takes_bytes-acts piece a b true h = acts-from a _ b (asks-acts _ _ b h) refl refl refl
takes_bytes-acts piece a b false h = acts-from a _ b (asks-acts _ _ b h) refl refl refl

takes-acts : (piece : Result (List ℕ) Failed) (a b : Node) → Takes piece a b → Acts a b
takes-acts (Ok []) a b h = acts-from a _ b (asks-acts _ _ b h) refl refl refl
takes-acts (Ok (x ∷ xs)) a b h = takes_bytes-acts (x ∷ xs) a b _ h
takes-acts (Err failed) a b h = acts-from a _ b (asks-acts _ _ b h) refl refl refl

pub reads-acts : (a b : Node) (old new : Option Feed) (before now : ℕ) → Reads a b old new before now → Acts a b
reads-acts a b old new before now (ReadNot none same unread) = acts-is a b _ same refl refl refl
reads-acts a b old new before now (Wanted goes unread id asked same) = acts-is a b _ same refl refl refl
reads-acts a b old new before now (ReadOnce goes written whole was_open id asked want most limit piece gives c takes settles_it) =
    acts-then a c b (acts-from a (record a { entrance = record a.entrance { asked = None } }) c (takes-acts piece _ c takes) refl refl refl) (asks-acts _ c b settles_it)
