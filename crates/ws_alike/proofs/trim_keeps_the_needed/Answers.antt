use Rattle.ws_alike.proofs.trim_keeps_the_needed.Goals as goal
use Rattle.ws_alike.proofs.Tidying.{trim-keeps_needed}

pub returns : goal.returns
returns c = trim-keeps_needed
