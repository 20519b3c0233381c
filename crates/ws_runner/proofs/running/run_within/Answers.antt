use Rattle.std.proofs.Common.{arith}
use Rattle.ws_runner.specs.Place.{IsPlaceOf}
use Rattle.ws_runner.proofs.Places.{each-length}
use Rattle.ws_runner.proofs.running.run_within.Goals as goal

pub drive-requires-clause-room : goal.drive-requires-clause-room
drive-requires-clause-room g c =
    let many = each-length IsPlaceOf _ _ c.start_all-places.ensures in
    let room = c.requires.room in
    (c.requires.none_back, omega (arith, many, room, c.start_all-places.result.ok.0, c.args.middles.ok.0))
