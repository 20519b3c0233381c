-- Where the reason of an error comes from that a writable end of a port posts.
use Rattle.std.specs.Prelude.{◌≡◌, true, List, ◌∷◌, ◌++◌, Contains}
use Rattle.ws_value.specs.declared.ids.PortId.{PortId}
use Rattle.ws_value.specs.declared.value.Message.{Message}
use Rattle.ws_value.specs.declared.value.Message.TheVariants.{Error}
use Rattle.ws_value.specs.declared.value.Plain.{Plain}
use Rattle.ws_steps.specs.declared.calls.Call.TheVariants.{Deliver}
use Rattle.ws_steps.specs.declared.port.Side.TheVariants.{Writable as WritableSide}
use Rattle.ws_steps.specs.Histories.{run_events}
use Rattle.ws_steps.specs.PortHistory.{posted_in}
use Rattle.ws_steps.specs.Run.{Entry, Called, run}
use Rattle.ws_steps.specs.Slots.{empty, has_port, port_at}
use Rattle.ws_reason_laws.specs.Origins.{origins}
use Rattle.ws_reason_laws.specs.Reasons.{NeedsTee}

abbrev pub EachPostedErrorHasAnOrigin : Type 0
EachPostedErrorHasAnOrigin =
    (entries : List Entry) (c : PortId) (r : Plain) (before after : List Message) → NeedsTee r entries
    → has_port c (run entries empty) ≡ true → (port_at c (run entries empty)).side ≡ WritableSide
    → posted_in c (run_events entries empty) ≡ before ++ Error r ∷ after → Contains (origins entries) r

abbrev pub EachPostedErrorIsOlder : Type 0
EachPostedErrorIsOlder =
    (past xs : List Entry) (c : PortId) (up r : Plain) (before after : List Message) → NeedsTee r past
    → has_port c (run past empty) ≡ true → (port_at c (run past empty)).side ≡ WritableSide
    → posted_in c (run_events (past ++ Called (Deliver c (Error up)) ∷ xs) empty) ≡ before ++ Error r ∷ after → Contains (origins past) r
