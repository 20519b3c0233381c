use Rattle.ws_runner.proofs.Places.{moves-same, moves-set}
use Rattle.ws_runner.proofs.caller.turn_places.Goals as goal

pub loop-i-init : goal.loop-i-init
loop-i-init g c = moves-same c.args.places.now

pub loop-i-preserved : goal.loop-i-preserved
loop-i-preserved g c = moves-set _ _ _ c.index-places-i.result _ c.loop-i.invariant c.turn_place.ensures
