use Rattle.std.proofs.Common.{arith, w8}
use Rattle.std.proofs.lemmas.Simd.{SwzOk-from_below}
use Rattle.hex.specs.Hex.{lower_digits}
use Rattle.ws_lanes.proofs.Texts.{digits_looked_up}
use Rattle.ws_lanes.proofs.digits.digits_of.Goals as goal

pub swizzle : goal.swizzle
swizzle c = SwzOk-from_below w8 16 1 16 0 c.args.values (omega arith) (omega (arith, c.requires.long)) c.requires.below

pub returns : goal.returns
returns c = digits_looked_up lower_digits 0 c.args.values (omega (arith, c.requires.long)) c.requires.below
