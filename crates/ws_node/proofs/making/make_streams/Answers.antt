use Rattle.std.proofs.Common.{length, refl}
use Rattle.ws_node.specs.Shares.{origin_by, shared, target_by}
use Rattle.ws_node.proofs.MakingNodes.{streams-made}
use Rattle.ws_node.proofs.making.make_streams.Goals as goal

pub returns-clause-slots : goal.returns-clause-slots
returns-clause-slots c =
    let n = length (shared c.args.share c.args.placed.now) in
    streams-made (origin_by c.args.above) (target_by c.args.below) n n c.args.realm.now.slots c.make_source.new.realm.slots c.make_stages.new.realm.slots c.make_sink.new.realm.slots refl c.requires.new
    c.in_ok-make_source.ensures.slots c.in_ok-stages.ensures.slots c.in_ok-make_sink.ensures.slots
