-- The marks of what was posted, and room for those of what waits.
use Rattle.std.proofs.Common.{◌≡◌, ℕ, ◌+◌, ◌≤◌, Bool, true, false, List, [], ◌∷◌, ◌++◌, length, map, Option, Some, None, refl, sym, ap, ◌∙◌, subst, arith}
use Rattle.std.specs.Global.{Vec}
use Rattle.ws_value.specs.declared.value.Message.{Message}
use Rattle.ws_edge.specs.declared.mark.Mark.{Mark}
use Rattle.ws_edge.specs.Marks.{AreMarked, HasRoom, MarksAre, kept, mark_by, marks_of, mark_of, remembered}

pub room-less : (marks : Option (Vec Mark)) (n k : ℕ) → n ≤ k → HasRoom marks k → HasRoom marks n
room-less None n k l h = tt
room-less (Some v) n k l h = omega arith

-- a last error waits besides, for which there was room
pub marked-more : (marks : Option (Vec Mark)) (sent : List Message) (waiting more : ℕ) (ended now : Bool) → AreMarked marks sent waiting ended → more ≡ waiting + 1 → ended ≡ false
    → (now ≡ false → HasRoom marks (more + 1)) → AreMarked marks sent more now
marked-more marks sent waiting more ended now a e going last = record { are = a.are; room = subst (HasRoom marks) (sym e) (a.last going); last = last }

-- the same marks, with no less room
pub marked-same : (old new : Option (Vec Mark)) (sent : List Message) (waiting : ℕ) (ended : Bool) → kept new ≡ kept old → ((n : ℕ) → HasRoom old n → HasRoom new n)
    → AreMarked old sent waiting ended → AreMarked new sent waiting ended
marked-same old new sent waiting ended e grows a = record {
  are = subst (λ k. MarksAre k sent) (sym e) a.are;
  room = grows waiting a.room;
  last = λ no. grows (waiting + 1) (a.last no);
}

-- and room for one that waits besides and one more
pub marked-room : (old new : Option (Vec Mark)) (sent : List Message) (waiting more : ℕ) (ended now : Bool) → kept new ≡ kept old → HasRoom new (more + 1)
    → AreMarked old sent waiting ended → AreMarked new sent more now
marked-room old new sent waiting more ended now e room a = record {
  are = subst (λ k. MarksAre k sent) (sym e) a.are;
  room = room-less new more (more + 1) (omega arith) room;
  last = λ no. room;
}
