use Rattle.ws_tee_port_laws.proofs.ports.Parted as laws
use Rattle.ws_tee_port_laws.proofs.ports.none_posts_an_error_while_readable.Goals as goal

pub returns : goal.returns
returns c = laws.none_posts_an_error_while_readable
