-- What the calls of a node bring: chunks of bytes, fair messages, and reasons that a node may send on.
use Rattle.std.specs.Prelude.{◌≡◌, true, List, [], ◌∷◌}
use Rattle.ws_steps.specs.declared.calls.Answer.{Answer}
use Rattle.ws_steps.specs.declared.calls.Answer.TheVariants.{Ok as AnswerOk, Fail as AnswerFail}
use Rattle.ws_steps.specs.declared.calls.Call.{Call}
use Rattle.ws_steps.specs.declared.calls.Call.TheVariants.{Enqueue, Fail, Trigger, Deliver, Settle}
use Rattle.ws_steps.specs.Run.{Entry, Called, Worked, Heard}
use Rattle.ws_node_laws.specs.Edges.{is_bytes}
use Rattle.ws_node.specs.Messages.{is_fair, is_fair_reason}

-- a failure is answered with a reason that a node may send on
abbrev pub IsFairAnswer : Answer → Type 0
IsFairAnswer AnswerOk = Unit {0}
IsFairAnswer (AnswerFail reason) = is_fair_reason reason ≡ true

-- the chunk that a call enqueues is bytes, the message that it delivers is fair, and so is the reason by which something fails
abbrev pub BringsFair : Call → Type 0
BringsFair (Enqueue i v) = is_bytes v ≡ true
BringsFair (Fail i reason) = is_fair_reason reason ≡ true
BringsFair (Trigger a reason) = is_fair_reason reason ≡ true
BringsFair (Deliver c m) = is_fair m ≡ true
BringsFair (Settle h answer) = IsFairAnswer answer
BringsFair _ = Unit {0}

abbrev pub AllBringFair : List Entry → Type 0
AllBringFair [] = Unit {0}
AllBringFair (Called c ∷ xs) = BringsFair c × AllBringFair xs
AllBringFair (Worked ∷ xs) = AllBringFair xs
AllBringFair (Heard ∷ xs) = AllBringFair xs
