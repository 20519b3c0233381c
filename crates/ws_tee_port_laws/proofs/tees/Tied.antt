-- Halves of transform streams, branches of tees and streams at the ends of ports name what has them, and it names them.
use Rattle.std.proofs.Common.{List}
use Rattle.ws_steps.specs.declared.effects.Effect.{Effect}
use Rattle.ws_steps.specs.Slots.{Slots, empty}
use Rattle.ws_laws.proofs.Ended.{Ended, ended-stays, ended-empty}
use Rattle.ws_laws.proofs.Halves.{Halved, halved-stays, halved-empty}
use Rattle.ws_laws.proofs.Walker.{Stays}

abbrev pub Tied : Slots → Type 0
Tied s = Halved s × Ended s

abbrev pub AlwaysTied : Slots → List Effect → Type 0
AlwaysTied s es = Tied s

pub tied-stays : Stays AlwaysTied
tied-stays = record {
  row = λ s e es k. (halved-stays.row s e es k.0, ended-stays.row s e es k.1);
  call = λ s c k. (halved-stays.call s c k.0, ended-stays.call s c k.1);
  job = λ s job e k. (halved-stays.job s job e k.0, ended-stays.job s job e k.1);
  answered = λ s p k. k;
  older = λ s k. k;
}

pub tied-empty : Tied empty
tied-empty = (halved-empty, ended-empty)
