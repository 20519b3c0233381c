use Rattle.ws_link_laws.proofs.Entering.{each_job_lets_in}
use Rattle.ws_link_laws.proofs.each_job_lets_in.Goals as goal

pub returns : goal.returns
returns c = each_job_lets_in
