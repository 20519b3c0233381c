use Rattle.std.proofs.Common.{ap, ◌∙◌, arith, eqb, w8}
use lib.Count.{ones}
use lib.Lanes.{chunk}
use Rattle.std.proofs.lemmas.Simd.{length-chunk, bitmask_splat, ones-mask_l}
use Rattle.ws_lanes.proofs.counts.count_lanes.Goals as goal

pub returns : goal.returns
returns c =
    let v = chunk c.args.from 32 c.args.block.now in
    ap ones (bitmask_splat w8 eqb v 32 c.args.b (length-chunk c.args.from 32 c.args.block.now c.requires) (omega arith)) ∙ ones-mask_l (λ x. eqb x c.args.b) v
