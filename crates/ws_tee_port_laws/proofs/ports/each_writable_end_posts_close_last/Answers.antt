use Rattle.ws_tee_port_laws.proofs.ports.Closing as laws
use Rattle.ws_tee_port_laws.proofs.ports.each_writable_end_posts_close_last.Goals as goal

pub returns : goal.returns
returns c = laws.each_writable_end_posts_close_last
