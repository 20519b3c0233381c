-- The reasons in a node of a pipeline, and what can be cloned of what is given to it.
use Rattle.std.specs.Prelude.{ℕ, ◌+◌, ◌*◌, ◌≤◌, ◌≡◌, Bool, true, ◌||◌, List, [], ◌∷◌, ◌++◌, Some, Contains}
use Rattle.ws_value.specs.declared.ids.PortId.{PortId}
use Rattle.ws_value.specs.declared.ids.StreamId.{StreamId}
use Rattle.ws_value.specs.declared.value.Message.{Message}
use Rattle.ws_value.specs.declared.value.Message.TheVariants.{Error}
use Rattle.ws_value.specs.declared.value.Outcome.TheVariants.{Rejected}
use Rattle.ws_value.specs.declared.value.Plain.{Plain}
use Rattle.ws_value.specs.Values.{is_cloneable, is_value_cloneable}
use Rattle.ws_steps.specs.declared.calls.Answer.{Answer}
use Rattle.ws_steps.specs.declared.calls.Answer.TheVariants.{Ok as AnswerOk, Fail as AnswerFail}
use Rattle.ws_steps.specs.declared.calls.Call.{Call}
use Rattle.ws_steps.specs.declared.calls.Call.TheVariants.{Enqueue, Fail, Trigger, Deliver, Settle}
use Rattle.ws_steps.specs.declared.port.Side.TheVariants.{Writable as WritableSide}
use Rattle.ws_steps.specs.declared.readable.ReadableState.TheVariants.{Errored}
use Rattle.ws_steps.specs.Cross.{data_clone}
use Rattle.ws_steps.specs.Histories.{run_events}
use Rattle.ws_steps.specs.PortHistory.{posted_in}
use Rattle.ws_steps.specs.Promises.{outcome_at}
use Rattle.ws_steps.specs.Run.{Entry, Called, Worked, Heard, run}
use Rattle.ws_steps.specs.Slots.{Slots, empty, most_streams, has_port, port_at, source_at, writable_at}
use Rattle.ws_steps.specs.Writable.{is_erroring, is_errored}
use Rattle.ws_tee_port_laws.specs.ports.Sending.{can_be_sent}
use Rattle.ws_reason_laws.specs.Reasons.{failures}
use Rattle.ws_chain_laws.specs.Chain.{Origin, Target}
use Rattle.ws_chain_laws.specs.Outcomes.{past_of, last_promise}
use Rattle.ws_chain_laws.specs.Runs.{AreNodes}

-- what a call brings can be cloned: the chunk that it enqueues, which in a node is bytes, the chunk or the reason of the message that it delivers, and
-- the reason by which something fails, which in a node is a fault

abbrev pub AnswerClones : Answer → Type 0
AnswerClones AnswerOk = Unit {0}
AnswerClones (AnswerFail reason) = is_cloneable reason ≡ true

abbrev pub BringsClones : Call → Type 0
BringsClones (Enqueue i v) = is_value_cloneable v ≡ true
BringsClones (Fail i reason) = is_cloneable reason ≡ true
BringsClones (Trigger a reason) = is_cloneable reason ≡ true
BringsClones (Deliver c m) = can_be_sent m ≡ true
BringsClones (Settle h answer) = AnswerClones answer
BringsClones _ = Unit {0}

abbrev pub AllBringClones : List Entry → Type 0
AllBringClones [] = Unit {0}
AllBringClones (Called c ∷ xs) = BringsClones c × AllBringClones xs
AllBringClones (Worked ∷ xs) = AllBringClones xs
AllBringClones (Heard ∷ xs) = AllBringClones xs

-- the reasons in a node, after the opening of a chain and these calls, jobs and events
pub record ReasonsAreFailures (origin : Origin) (target : Target) (n : ℕ) (signalled : Bool) (xs : List Entry) : Type 0 where
  pub rejected : (r : Plain) → outcome_at (run (past_of origin target n signalled xs) empty).promises (last_promise origin target n signalled) ≡ Some (Rejected r) → Contains (failures xs) r
  pub readable : (i : StreamId) → let s : Slots = run (past_of origin target n signalled xs) empty in
      (source_at i s).state ≡ Errored → Contains (failures xs) (source_at i s).stored_error
  pub writable : (i : StreamId) → let s : Slots = run (past_of origin target n signalled xs) empty in
      (is_erroring (writable_at i s).state || is_errored (writable_at i s).state) ≡ true → Contains (failures xs) (writable_at i s).stored_error
  pub posted : (c : PortId) (r : Plain) (before after : List Message)
      → posted_in c (run_events (past_of origin target n signalled xs) empty) ≡ before ++ Error r ∷ after → Contains (failures xs) r

abbrev pub EachNodeClones : Type 0
EachNodeClones =
    (origin : Origin) (target : Target) (n : ℕ) (signalled : Bool) (xs : List Entry) → 2 * n + 2 ≤ most_streams → AreNodes xs → AllBringClones xs
    → ReasonsAreFailures origin target n signalled xs

abbrev pub EachNodeErrorIsOlder : Type 0
EachNodeErrorIsOlder =
    (origin : Origin) (target : Target) (n : ℕ) (signalled : Bool) (pre rest : List Entry) (c : PortId) (up r : Plain) (before after : List Message)
    → let xs : List Entry = pre ++ Called (Deliver c (Error up)) ∷ rest in let s : Slots = run (past_of origin target n signalled pre) empty in
    2 * n + 2 ≤ most_streams → AreNodes xs → AllBringClones xs → (Contains (failures xs) data_clone → ⊥)
    → has_port c s ≡ true → (port_at c s).side ≡ WritableSide
    → posted_in c (run_events (past_of origin target n signalled xs) empty) ≡ before ++ Error r ∷ after → Contains (failures pre) r
