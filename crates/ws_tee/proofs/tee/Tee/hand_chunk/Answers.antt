use Rattle.std.proofs.Common.{◌≡◌, refl, ap, sym, ◌∙◌}
use Rattle.ws_tee.proofs.tee.Tee.hand_chunk.Goals as goal
use Rattle.ws_tee.proofs.tee.Tee.hand_chunk.Goals.{in-None-2, in-None-None, in-None-Some, in-Some-1, in-Some-None, in-Some-Some}

pub returns-clause-effect_room : goal.returns-clause-effect_room
returns-clause-effect_room c = elim c.match-self.branch [
  | in-None-2 w ↦ elim w.match-self-2.branch [
    | in-None-None w' ↦ rw (c.push.ensures, w.fx-is, w'.fx-is, w'.enqueue-in-None-None.ensures, w'.enqueue.ensures) refl
    | in-None-Some w' ↦ rw (c.push.ensures, w.fx-is, w'.fx-is, w'.enqueue-in-None-Some.ensures) refl
  ]
  | in-Some-1 w ↦ elim w.match-this.branch [
    | in-Some-None w' ↦ rw (c.push.ensures, w.fx-is, w'.fx-is, w'.enqueue-in-Some-None.ensures) refl
    | in-Some-Some w' ↦ rw (c.push.ensures, w.fx-is, w'.fx-is) refl
  ]
]
