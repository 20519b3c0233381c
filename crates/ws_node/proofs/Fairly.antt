-- What a node brings to its realm can be cloned, and no failure of it is a DataCloneError.
use Rattle.std.proofs.Common.{◌≡◌, Bool, true, false, if◌then◌else◌, List, [], ◌∷◌, refl}
use Rattle.ws_value.specs.declared.fault.Fault.TheVariants as fault
use Rattle.ws_value.specs.declared.value.Message.{Message}
use Rattle.ws_value.specs.declared.value.Message.TheVariants.{Pull, Chunk, Close, Error}
use Rattle.ws_value.specs.declared.value.Plain.{Plain}
use Rattle.ws_value.specs.declared.value.Plain.TheVariants.{Undefined, Number, Fault as FaultReason, Pair, Local}
use Rattle.ws_value.specs.declared.value.Value.{Value}
use Rattle.ws_value.specs.declared.value.Value.TheVariants.{Plain as PlainValue, Bytes}
use Rattle.ws_value.specs.Values.{is_cloneable, is_value_cloneable}
use Rattle.ws_steps.specs.declared.calls.Answer.{Answer}
use Rattle.ws_steps.specs.declared.calls.Answer.TheVariants.{Ok as AnswerOk, Fail as AnswerFail}
use Rattle.ws_steps.specs.declared.calls.Call.{Call}
use Rattle.ws_steps.specs.declared.calls.Call.TheVariants.{Enqueue, Fail, Trigger, Deliver, Settle}
use Rattle.ws_steps.specs.Run.{Entry, Called, Worked, Heard}
use Rattle.ws_tee_port_laws.specs.ports.Sending.{can_be_sent}
use Rattle.ws_clone_laws.specs.Cloning.{AnswerClones, BringsClones, AllBringClones}
use Rattle.ws_node_laws.specs.Edges.{is_bytes}
use Rattle.ws_node.specs.Fair.{IsFairAnswer, BringsFair, AllBringFair}
use Rattle.ws_node.specs.Messages.{is_fair, is_fair_chunk, is_fair_reason, as_fair}

-- an if by its cases
by_bool : (P : Message → Type 0) (b : Bool) (x y : Message) → (b ≡ true → P x) → P y → P (if b then x else y)
by_bool P true x y f g = f refl
by_bool P false x y f g = g

-- what a node takes is fair
pub as-fair-is : (m : Message) → is_fair (as_fair m) ≡ true
as-fair-is m = by_bool (λ (x : Message). is_fair x ≡ true) (is_fair m) m (Error (FaultReason fault.TypeError)) (λ h. h) refl

-- a fair message is taken as it stands
pub as-fair-same : (m : Message) → is_fair m ≡ true → as_fair m ≡ m
as-fair-same m h = rw h refl

pub fair-reason : (r : Plain) → is_fair_reason r ≡ true → is_cloneable r ≡ true
fair-reason (FaultReason f) h = refl
fair-reason Undefined h = cc
fair-reason (Number k) h = cc
fair-reason (Pair t) h = cc
fair-reason (Local k) h = cc

fair-value : (v : Value) → is_fair_chunk v ≡ true → is_value_cloneable v ≡ true
fair-value (Bytes b) h = refl
fair-value (PlainValue v) h = cc

fair-message : (m : Message) → is_fair m ≡ true → can_be_sent m ≡ true
fair-message Pull h = refl
fair-message (Chunk v) h = fair-value v h
fair-message Close h = refl
fair-message (Error r) h = fair-reason r h

bytes-clone : (v : Value) → is_bytes v ≡ true → is_value_cloneable v ≡ true
bytes-clone (Bytes b) h = refl
bytes-clone (PlainValue v) h = cc

fair-answer : (x : Answer) → IsFairAnswer x → AnswerClones x
fair-answer AnswerOk h = tt
fair-answer (AnswerFail r) h = fair-reason r h

pub call-clones : (c : Call) → BringsFair c → BringsClones c
call-clones (Enqueue i v) h = bytes-clone v h
call-clones (Fail i reason) h = fair-reason reason h
call-clones (Trigger a reason) h = fair-reason reason h
call-clones (Deliver c m) h = fair-message m h
call-clones (Settle k answer) h = fair-answer answer h
call-clones _ h = tt

pub fair-clones : (xs : List Entry) → AllBringFair xs → AllBringClones xs
fair-clones [] h = tt
fair-clones (Called c ∷ xs) h = (call-clones c h.0, fair-clones xs h.1)
fair-clones (Worked ∷ xs) h = fair-clones xs h
fair-clones (Heard ∷ xs) h = fair-clones xs h
