use Rattle.std.proofs.Common.{◌≡◌, true, ap, sym, ◌∙◌}
use Rattle.std.proofs.lemmas.List.Elements.{All-drop, All-cons}
use Rattle.ws_steps.specs.Queues.{is_empty}
use Rattle.ws_descriptors.specs.Seen.{IsFine, before}
use Rattle.ws_descriptors.proofs.Elements.{nothing_queued}
use Rattle.ws_descriptors.proofs.processing.process_first.Goals as goal

pub returns-then-is_empty-clause-processed : goal.returns-then-is_empty-clause-processed
returns-then-is_empty-clause-processed c =
    let none : is_empty c.args.queue.now.entries ≡ true = sym c.is_empty.ensures ∙ c.if-is_empty.true in
    ap (before c.args.ready.now.items) (sym (nothing_queued c.args.descriptors.now.items c.args.queue.now.entries none))

pub returns-then-is_ready-clause-fine : goal.returns-then-is_ready-clause-fine
returns-then-is_ready-clause-fine c = rw c.pop_front.ensures.rest (All-drop IsFine 1 c.args.descriptors.now.items c.requires.fine)

pub returns-else-is_ready-clause-fine : goal.returns-else-is_ready-clause-fine
returns-else-is_ready-clause-fine c =
    let rest = All-drop IsFine 1 c.args.descriptors.now.items c.requires.fine in
    rw (c.push_front_reserved.ensures.items, c.pop_front.ensures.rest) (All-cons IsFine _ _ (c.fill-is_ready.ensures.fine c.if-is_ready.false) rest)
