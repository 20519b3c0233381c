use Rattle.std.proofs.Common.{◌-◌, arith}
use Rattle.ws_gen.proofs.Making.{length-generated}
use Rattle.ws_gen.proofs.generated.GeneratedSource.ready.Goals as goal

pub returns : goal.returns
returns c =
    let s = c.self.inside in
    rw (← c.self.view_is) (let long = length-generated (s.count - s.given) s.number in omega (arith, long))
