use Rattle.std.proofs.Common.{◌*◌, ◌-◌, arith}
use Rattle.ws_calls.proofs.Credit.{found, have-members, have-places}
use Rattle.ws_calls.proofs.at_hand.has_places.Goals as goal

pub returns : goal.returns
returns c = λ yes-all.
    let t = c.args.tables.now in
    let kept = c.requires.resting.kept in
    let plain = c.is_plain.ensures in
    let yes = c.if-not-is_plain.false in
    let hand = plain.at_hand yes in
    let none = plain.full yes in
    let turns = c.has_turns.ensures in
    let room = c.has_room.ensures.0 c.if-not-has_room.false in
    let few = c.len.ensures.is in
    let within = c.len.ensures.within in
    let all = c.capacity.ensures in
    found c.args.n t (have-places t kept hand.grown) (have-members t kept none) hand (plain.aborts yes) none
    (turns.caused c.if-not-has_turns.false) (turns.others c.if-not-has_turns.false) (turns.under_way c.if-not-has_turns.false)
    room.0 room.1 (omega (arith, few, within, all))
