use Rattle.ws_chain_laws.proofs.Flushed.{each_end_was_flushed}
use Rattle.ws_chain_laws.proofs.each_end_was_flushed.Goals as goal

pub returns : goal.returns
returns c = each_end_was_flushed
