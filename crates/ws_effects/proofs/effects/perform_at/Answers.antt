use Rattle.ws_performing.proofs.Going.{goes}
use Rattle.ws_performing.proofs.Turns.{room-for}
use Rattle.ws_effects.proofs.effects.perform_at.Goals as goal

pub perform_alone-requires : goal.perform_alone-requires
perform_alone-requires c = record { quiet = c.requires.quiet; room = room-for c.args.effect.now _ c.args.tables.now c.requires.room; kept = c.requires.kept }

pub returns : goal.returns
returns c =
    let did = c.perform_alone.ensures in
    goes c.args.effect.now c.args.tables.now c.perform_alone.new.tables c.requires.room c.requires.kept did.performs did.kept
