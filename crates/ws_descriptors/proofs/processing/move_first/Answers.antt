use Rattle.std.proofs.Common.{rules, arith, ◌≡◌, ◌∷◌, ◌∙◌}
use Rattle.std.proofs.lemmas.List.Elements.{All-drop}
use Rattle.ws_descriptors.specs.Seen.{IsFine}
use Rattle.ws_descriptors.proofs.Elements.{moved_first}
use Rattle.ws_descriptors.proofs.processing.move_first.Goals as goal

pub loop-left-preserved : goal.loop-left-preserved
loop-left-preserved c =
    let i = c.loop-left.invariant in
    let split : c.loop-left.descriptors.items ≡ c.in-Some.first ∷ c.pop_front.new.self.items = rw c.in-Some.is at c.pop_front.ensures.items in
    let moved = moved_first c.loop-left.left c.in-Some.first c.loop-left.ready.items c.loop-left.descriptors.items c.pop_front.new.self.items (omega arith) split in
    record {
      ready = rw c.push_back_reserved.ensures.items (moved.0 ∙ i.ready);
      others = moved.1 ∙ i.others;
      fine = rw c.pop_front.ensures.rest (All-drop IsFine 1 c.loop-left.descriptors.items i.fine);
      places = search rules;
      capacity = search rules;
      ready_capacity = search rules;
    }
