use Rattle.ws_tee_port_laws.proofs.ports.StepPosts as laws
use Rattle.ws_tee_port_laws.proofs.ports.each_step_posts_once.Goals as goal

pub returns : goal.returns
returns c = laws.each_step_posts_once
