use Rattle.std.proofs.Common.{ap, arith}
use Rattle.ws_places.specs.Seen.{SeenPlaces}
use Rattle.ws_places.proofs.KeptLemmas.{kept-most}
use Rattle.ws_places.proofs.places.Places.most.Goals as goal

pub returns : goal.returns
returns g c =
    let a = c.self.inside in
    let kept = ap (λ (v : SeenPlaces g.row.T.Denot). v.kept) c.self.view_is in
    kept-most a.pairs.items a.values.slots c.args.self.now.kept c.len.result kept (omega (arith, c.len.ensures))
