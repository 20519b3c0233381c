use Rattle.std.proofs.Common.{subst}
use Rattle.ws_runner.specs.Place.{IsPlaceOf}
use Rattle.ws_runner.specs.declared.place.Place.{Place}
use Rattle.ws_runner.proofs.Places.{middle-then}
use Rattle.ws_runner.proofs.caller.turn_place.Goals as goal

pub returns : goal.returns
returns g c = λ a at. middle-then a c.in-Here.node c.turn-turn.new.self (subst (λ (p : Place). IsPlaceOf a p) c.in-Here.is at) c.turn-turn.ensures.went
