use Rattle.ws_cli.proofs.Loading.{accepted_read}
use Rattle.example_run.proofs.run_text.Goals as goal

-- a plan that was read is one that isn't refused
pub run_nodes-requires-after_bounds : goal.run_nodes-requires-after_bounds
run_nodes-requires-after_bounds g c κs within = accepted_read c.args.text.now c.in-Ok.plan c.in-Ok.ensures
