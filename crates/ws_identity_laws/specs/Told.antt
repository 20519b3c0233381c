-- What passes, as the histories of streams tell it.
use Rattle.std.specs.Prelude.{◌≡◌, ◌+◌, true, false, List, []}
use Rattle.ws_value.specs.declared.ids.StreamId.{StreamId}
use Rattle.ws_steps.specs.ReadableHistory.{run_flow, accepted}
use Rattle.ws_steps.specs.Run.{Entry, run}
use Rattle.ws_steps.specs.Slots.{Slots, empty, has_byte}
use Rattle.ws_steps.specs.WritableHistory.{run_writes}
use Rattle.ws_flow.specs.Told.{told, then_told}
use Rattle.ws_identity_laws.specs.Passing.{ending, run_acts, run_takes}

abbrev pub EachActIsTold : Type 0
EachActIsTold =
    (xs entries : List Entry) (j : StreamId) → let s : Slots = run xs empty in
    then_told (told [] (ending (run_writes j xs empty).closes)) (run_acts j entries s)
    ≡ told (run_writes j entries s).acted (ending ((run_writes j xs empty).closes + (run_writes j entries s).closes))

abbrev pub EachTakeIsTold : Type 0
EachTakeIsTold =
    (s : Slots) (entries : List Entry) (i : StreamId) → has_byte i (run entries s) ≡ false → (run_takes i entries s).items ≡ (run_flow i entries s).entered

abbrev pub EachTakeOfBytesIsTold : Type 0
EachTakeOfBytesIsTold = (s : Slots) (entries : List Entry) (i : StreamId) → has_byte i s ≡ true → (run_takes i entries s).items ≡ accepted i entries s
