-- The laws of a link of any ends.
use Rattle.std.specs.Prelude.{◌≡◌, true, List, length, Option}
use Rattle.ws_value.specs.declared.ids.PipeId.{PipeId}
use Rattle.ws_value.specs.declared.ids.SignalId.{SignalId}
use Rattle.ws_value.specs.declared.ids.StreamId.{StreamId}
use Rattle.ws_steps.specs.declared.calls.Call.{Call}
use Rattle.ws_steps.specs.declared.calls.Call.TheVariants.{Pipe}
use Rattle.ws_steps.specs.declared.pipes.Prevent.{Prevent}
use Rattle.ws_steps.specs.Run.{Entry, Called, run, after_call}
use Rattle.ws_steps.specs.Slots.{Slots, source_at, writable_at}
use Rattle.ws_flow.specs.Told.{then_told, IsShortOf}
use Rattle.ws_link_laws.specs.Laws.{all_leave}
use Rattle.ws_link_laws.specs.Link.{in_sink, in_source, lies}
use Rattle.ws_link_laws.specs.Sound.{IsLink, IsThere}
use Rattle.ws_identity_laws.specs.Ends.{IsAnyLink, IsAnyFree}
use Rattle.ws_identity_laws.specs.Passing.{step_acts, run_acts, step_takes, run_takes}

pub record PassesLink (i j : StreamId) (p : PipeId) (s : Slots) (entries : List Entry) : Type 0 where
  pub link : IsAnyLink i j p (run entries s)
  pub short : IsShortOf (then_told (run_acts j entries s) (lies i j p (run entries s))) (then_told (lies i j p s) (run_takes i entries s))

abbrev pub EachLinkPasses : Type 0
EachLinkPasses =
    (i j : StreamId) (p : PipeId) (s : Slots) (entries : List Entry) → IsAnyLink i j p s → all_leave i j entries ≡ true → PassesLink i j p s entries

abbrev pub EachLinkIsAny : Type 0
EachLinkIsAny = (i j : StreamId) (p : PipeId) (s : Slots) → IsLink i j p s → IsAnyLink i j p s

pub record BeginsAnyLink (i j : StreamId) (p : PipeId) (s : Slots) (call : Call) : Type 0 where
  pub link : IsAnyLink i j p (after_call call s)
  pub short : IsShortOf (then_told (step_acts j s (Called call)) (lies i j p (after_call call s)))
      (then_told (then_told (in_sink (writable_at j s)) (in_source (source_at i s))) (step_takes i s (Called call)))

abbrev pub EachAnyLinkBegins : Type 0
EachAnyLinkBegins =
    (i j : StreamId) (prevent : Prevent) (signal : Option SignalId) (s : Slots) → IsAnyFree i j s → IsThere signal s
    → BeginsAnyLink i j (record { 0 = length s.pipes }) s (Pipe i j prevent signal)

abbrev pub EachAnyFreePairStays : Type 0
EachAnyFreePairStays = (i j : StreamId) (s : Slots) (entries : List Entry) → IsAnyFree i j s → all_leave i j entries ≡ true → IsAnyFree i j (run entries s)
