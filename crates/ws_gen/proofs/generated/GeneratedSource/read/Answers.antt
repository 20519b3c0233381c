use Rattle.std.proofs.Common.{◌≡◌, length, take, arith}
use Rattle.std.proofs.lemmas.List.{length-take-le}
use Rattle.ws_gen.proofs.Making.{number_on, some_read}
use Rattle.ws_gen.proofs.generated.GeneratedSource.read.Goals as goal

pub invariant_of-self : goal.invariant_of-self
invariant_of-self c =
    let s = c.self.inside in
    let count = c.min-count.result in
    let long : length (take count c.args.room.now) ≡ count = length-take-le count c.args.room.now (omega (arith, c.min-count.ensures)) in (
      omega (arith, c.min-count.ensures, c.self.invariant.0),
      c.fill-self-inside.ensures.below,
      number_on s.given count (length (take count c.args.room.now)) s.number s.seed c.fill-self-inside.result long c.self.invariant.2 c.fill-self-inside.ensures.last,
    )

pub returns-clause-bytes : goal.returns-clause-bytes
returns-clause-bytes c =
    let s = c.self.inside in
    rw (← c.self.view_is)
    (some_read s.count s.seed s.given s.number c.fill-self-inside.result c.min-count.result s.ended c.end_after-self-inside.result c.args.room.now c.fill-self-inside.new.room c.self.invariant.0 c.self.invariant.2
    c.min-count.ensures c.fill-self-inside.ensures.bytes c.fill-self-inside.ensures.last c.end_after-self-inside.ensures.met c.end_after-self-inside.ensures.some c.end_after-self-inside.ensures.no_room)
