use Rattle.std.proofs.Common.{◌+◌, arith}
use Rattle.ws_prepare.proofs.Preparing.{made-ready}
use Rattle.ws_prepare.proofs.memory.has_places.Goals as goal

pub returns : goal.returns
returns c = λ has.
    let room = c.has_room.ensures.0 c.if-not-has_room.false in
    let t = c.args.tables.now in
    made-ready t c.args.base (c.args.base + t.waiting) (c.args.base + t.waiting + t.waiting) (omega (arith, c.requires.base)) (omega arith) (omega arith)
    (c.is_made.ensures c.if-not-is_made.false) (c.has_turns.ensures c.if-not-has_turns.false) room.0 room.1 (c.has_notes.ensures has)
