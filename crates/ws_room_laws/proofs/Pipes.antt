-- What an operation of a pipe takes, and what one of a signal takes.
use Rattle.std.proofs.Common.{◌≡◌, ◌≤◌, ℕ, ◌+◌, false, List, [], ◌∷◌, Option, Some, None, refl, arith}
use Rattle.ws_value.specs.declared.ids.PipeId.{PipeId}
use Rattle.ws_value.specs.declared.ids.SignalId.{SignalId}
use Rattle.ws_value.specs.declared.value.Plain.{Plain}
use Rattle.ws_value.specs.declared.value.Value.{Value}
use Rattle.ws_steps.specs.declared.pipes.Action.{Action}
use Rattle.ws_steps.specs.declared.pipes.Action.TheVariants.{BySignal}
use Rattle.ws_steps.specs.declared.pipes.Ends.{Ends}
use Rattle.ws_steps.specs.declared.pipes.Phase.{Phase}
use Rattle.ws_steps.specs.declared.pipes.Phase.TheVariants.{Waiting, Acting}
use Rattle.ws_steps.specs.declared.pipes.PipeOperation.{PipeOperation}
use Rattle.ws_steps.specs.declared.pipes.PipeOperation.TheVariants as names
use Rattle.ws_steps.specs.declared.pipes.SignalOperation.{SignalOperation}
use Rattle.ws_steps.specs.declared.pipes.SignalOperation.TheVariants.{Add, Forget, Trigger}
use Rattle.ws_steps.specs.declared.readable.ReadableState.{ReadableState}
use Rattle.ws_steps.specs.declared.writable.WritableState.{WritableState}
use Rattle.ws_steps.specs.Operations.{pipe_operation, signal_operation}
use Rattle.ws_steps.specs.Pipes.{Acts, Signal, finalize, forgetting, act_by_signal, act_by, act, proceed, shutdown, look_by, look, look_ready, go_on_in, go_on, keep_chunk, read_ended, write_held, write_chunk, write_ended, action_settled, part_settled, no_parts, abort, without, abort_all}
use Rattle.ws_steps.specs.Places.{Prices, price, each, prices_of, pipe_price, look_price, abort_price, signal_price, signal_keeps, table_size}
use Rattle.ws_room_laws.proofs.Tables.{settle-size, fresh-size, micro-size}
use Rattle.ws_room_laws.proofs.Readables.{prices-append, each-append}

abbrev pub pipe_holds : Prices → Acts → ℕ
pipe_holds π a = prices_of π a.out.effects + table_size π a.out.promises

module _ (π : Prices) (me : PipeId) where
  -- b holds at most n more than a
  abbrev Takes : ℕ → Acts → Acts → Type 0
  Takes n a b = pipe_holds π b ≤ pipe_holds π a + n

  forget-price : (signal : Option SignalId) → prices_of π (forgetting me signal) ≤ price π 1 0 0 0 0 0 0
  forget-price None = omega arith
  forget-price (Some a) = omega arith

  finalize-takes : (error : Option Plain) (a : Acts) → Takes (price π 4 0 0 0 0 0 0) a (finalize me error a)
  unfolding finalize
  finalize-takes error a = let h = forget-price a.slots.signal in grind (arith, prices-append, h)

  by_signal-takes : (r : Plain) (a : Acts) → Takes (price π 13 8 7 3 2 0 0) a (act_by_signal me r a)
  unfolding act_by_signal
  by_signal-takes r a = grind (arith, prices-append, fresh-size)

  act_by-takes : (ends : Ends) (a : Acts) (action : Option Action) → Takes (price π 13 8 7 3 2 2 0) a (act_by me ends a action)
  act_by-takes ends a action = grind (arith, prices-append, fresh-size, finalize-takes, by_signal-takes)

  act-takes : (ends : Ends) (a : Acts) → Takes (price π 13 8 7 3 2 2 0) a (act me ends a)
  unfolding act
  act-takes ends a = grind (arith, act_by-takes)

  proceed-takes : (ends : Ends) (a : Acts) → Takes (price π 13 8 7 3 2 2 0) a (proceed me ends a)
  unfolding proceed
  proceed-takes ends a = let h = act-takes ends a in grind (arith, h)

  shutdown-takes : (ends : Ends) (action : Option Action) (error : Option Plain) (a : Acts) → Takes (price π 13 8 7 3 2 2 0) a (shutdown me ends action error a)
  unfolding shutdown
  shutdown-takes ends action error a = grind (arith, proceed-takes, act-takes)

  -- an abort by a signal neither reads nor closes

  signal_act_by-takes : (ends : Ends) (a : Acts) (r : Plain) (action : Option Action) → action ≡ Some (BySignal r) → Takes (price π 13 8 7 3 2 0 0) a (act_by me ends a action)
  signal_act_by-takes ends a r None is = cc
  signal_act_by-takes ends a r (Some action) is = grind (arith, by_signal-takes, is)

  signal_act-takes : (ends : Ends) (a : Acts) (r : Plain) → a.slots.action ≡ Some (BySignal r) → Takes (price π 13 8 7 3 2 0 0) a (act me ends a)
  unfolding act
  signal_act-takes ends a r is = signal_act_by-takes ends (record a { slots = record a.slots { phase = Acting } }) r a.slots.action is

  signal_proceed-takes : (ends : Ends) (a : Acts) (r : Plain) → a.slots.action ≡ Some (BySignal r) → Takes (price π 13 8 7 3 2 0 0) a (proceed me ends a)
  unfolding proceed
  signal_proceed-takes ends a r is = let h = signal_act-takes ends a r is in grind (arith, h)

  abort-takes : (ends : Ends) (r : Plain) (a : Acts) → Takes (price π 13 8 7 3 2 0 0) a (abort me ends r a)
  unfolding abort shutdown
  abort-takes ends r a =
      let b : Acts = record a { slots = record a.slots { action = Some (BySignal r); error = Some r } } in
      let h = signal_proceed-takes ends (record b { slots = record b.slots { phase = Waiting } }) r refl in
      let g = signal_act-takes ends b r refl in
      grind (arith, h, g)

  look_by-takes : (ends : Ends) (a : Acts) (s : ReadableState) (d : WritableState) → Takes (price π 13 8 7 3 2 2 1 + π.descriptor) a (look_by me ends a s d)
  look_by-takes ends a s d = grind (arith, prices-append, shutdown-takes)

  look-takes : (ends : Ends) (a : Acts) → Takes (price π 13 8 7 3 2 2 1 + π.descriptor) a (look me ends a)
  unfolding look
  look-takes ends a = let h = look_by-takes ends a ends.source_state ends.dest_state in grind (arith, h)

  go_on-takes : (ends : Ends) (a : Acts) (phase : Phase) → Takes (price π 13 8 7 3 2 2 1 + π.descriptor) a (go_on_in me ends a phase)
  go_on-takes ends a phase = let h = look-takes ends a in let g = proceed-takes ends a in grind (arith, h, g)

  write-takes : (a : Acts) (held : Option Value) → Takes (look_price π + price π 13 6 4 1 1 2 1) a (write_held me a held)
  write-takes a held = grind (arith, prices-append, fresh-size)

pub pipe-takes : (π : Prices) (me : PipeId) (ends : Ends) (operation : PipeOperation) (a : Acts)
    → pipe_holds π (pipe_operation me ends operation a) + π.turn ≤ pipe_holds π a + pipe_price π operation
unfolding look_ready go_on keep_chunk read_ended write_chunk write_ended action_settled part_settled no_parts
pipe-takes π me ends names.Look a = let h = look-takes π me ends a in omega (arith, h)
pipe-takes π me ends names.LookReady a = let h = look-takes π me ends (record a { slots = record a.slots { waits = false } }) in omega (arith, h)
pipe-takes π me ends (names.KeepChunk v) a = grind (arith, micro-size)
pipe-takes π me ends names.ReadEnded a = grind (arith, micro-size)
pipe-takes π me ends names.WriteChunk a = let h = write-takes π me a a.slots.held in omega (arith, h)
pipe-takes π me ends names.GoOn a = let h = go_on-takes π me ends a a.slots.phase in omega (arith, h)
pipe-takes π me ends names.WriteEnded a = grind (arith, go_on-takes)
pipe-takes π me ends (names.Abort r) a = let h = abort-takes π me ends r a in omega (arith, h)
pipe-takes π me ends (names.ActionSettled outcome) a = grind (arith, finalize-takes)
pipe-takes π me ends (names.PartSettled outcome) a = grind (arith, settle-size)
pipe-takes π me ends names.NoParts a = grind (arith, settle-size)

-- signals

without-each : (c : ℕ) (p : PipeId) (ps : List PipeId) → each c (without p ps) ≤ each c ps
without-each c p [] = omega arith
without-each c p (q ∷ qs) = let h = without-each c p qs in grind (arith, h)

abort-prices : (π : Prices) (r : Plain) (ps : List PipeId) → prices_of π (abort_all r ps) ≡ each (abort_price π) ps
abort-prices π r [] = refl
abort-prices π r (p ∷ ps) = let h = abort-prices π r ps in omega (arith, h)

-- what a signal takes, whether its own list is counted or not
pub signal-takes : (π : Prices) (m : ℕ) (operation : SignalOperation) (x : Signal) → m ≤ π.member
    → let y = signal_operation operation x in
    prices_of π y.effects + signal_keeps π y.signal + each m y.signal.pipes + π.turn ≤ signal_keeps π x + each m x.pipes + signal_price π operation
signal-takes π m (Add p) x l = grind (arith, each-append, l)
signal-takes π m (Forget p) x l = grind (arith, without-each)
signal-takes π m (Trigger r) x l = grind (arith, abort-prices)
