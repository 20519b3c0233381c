use Rattle.std.proofs.Common.{◌≡◌, ◌-◌, ◌++◌, List}
use Rattle.ws_value.specs.declared.ids.PromiseId.{PromiseId}
use Rattle.ws_steps.specs.Run.{run}
use Rattle.ws_chain_laws.specs.Opening.{pipes_from}
use Rattle.ws_node.specs.Opening.{AreAnswered, CanPipe}
use Rattle.ws_node.proofs.making.make_pipes.Given as goal

abbrev pub invariant-loop-number : goal.invariant-loop-number
invariant-loop-number l = record {
  can : CanPipe l.number (l.stages - l.number) l.realm.slots;
  slots : run (pipes_from l.number (l.stages - l.number)) l.realm.slots ≡ run (pipes_from 0 l.stages) l.fn.realm.slots;
  answered : (ps : List PromiseId) → AreAnswered l.number (l.stages - l.number) l.realm.slots ps → AreAnswered 0 l.stages l.fn.realm.slots (l.pipes.items ++ ps);
}
