-- What an operation of a transform stream takes.
use Rattle.std.proofs.Common.{◌≤◌, ℕ, ◌+◌, Bool, true, false, Option, Ok, Err, arith}
use Rattle.ws_value.specs.declared.ids.PromiseId.{PromiseId}
use Rattle.ws_value.specs.declared.value.Plain.{Plain}
use Rattle.ws_value.specs.declared.value.Value.{Value}
use Rattle.ws_steps.specs.declared.{calls.HostCall.{HostCall}, effects.Use.{Use}, promises.Step.{Step}, readable.ReadableState.{ReadableState}, writable.WritableState.{WritableState}}
use Rattle.ws_steps.specs.declared.transform.Halves.{Halves}
use Rattle.ws_steps.specs.declared.transform.Kind.{Kind}
use Rattle.ws_steps.specs.declared.transform.TransformId.{TransformId}
use Rattle.ws_steps.specs.declared.transform.TransformOperation.{TransformOperation}
use Rattle.ws_steps.specs.declared.transform.TransformOperation.TheVariants as names
use Rattle.ws_steps.specs.Operations.{transform_operation}
use Rattle.ws_steps.specs.Transform.{Acts, set_backpressure, unblock, transform_error, terminate, enqueue, enqueued, transform_by, transform_chunk, perform_transform, wait_for_change, sink_write, write_in, write_goes_on, source_pull, finish_by, sink_close, sink_abort, source_cancel, flushed_in, flush_settled, aborted_in, abort_settled, cancelled_in, cancel_settled}
use Rattle.ws_steps.specs.Places.{Prices, price, prices_of, transform_price, table_size}
use Rattle.ws_room_laws.proofs.Tables.{settle-size, fresh-size}
use Rattle.ws_room_laws.proofs.Readables.{prices-append}

abbrev pub transform_holds : Prices → Acts → ℕ
transform_holds π a = prices_of π a.out.effects + table_size π a.out.promises

module _ (π : Prices) (me : TransformId) where
  -- b holds at most n more than a
  abbrev Takes : ℕ → Acts → Acts → Type 0
  Takes n a b = transform_holds π b ≤ transform_holds π a + n

  backpressure-takes : (b : Bool) (a : Acts) → Takes π.promise a (set_backpressure b a)
  unfolding set_backpressure
  backpressure-takes b a = grind (arith, settle-size, fresh-size)

  unblock-takes : (a : Acts) → Takes π.promise a (unblock a)
  unfolding unblock
  unblock-takes a = let h = backpressure-takes false a in grind (arith, h)

  enqueued-takes : (halves : Halves) (a : Acts) → Takes π.promise a (enqueued halves a)
  unfolding enqueued
  enqueued-takes halves a = let h = backpressure-takes true a in grind (arith, h)

  chunk-takes : (halves : Halves) (v : Value) (d : PromiseId) (a : Acts) (kind : Kind) → prices_of π (transform_by me halves v d a kind) ≤ price π 6 3 2 1 1 1 0
  chunk-takes halves v d a kind = grind arith

  perform-takes : (u : Use) (a : Acts) → Takes (price π 9 4 3 1 1 1 0) a (perform_transform me u a)
  perform-takes u a = grind (arith, prices-append, fresh-size)

  wait-takes : (u : Use) (a : Acts) → Takes (price π 2 1 2 0 0 0 0) a (wait_for_change me u a)
  wait-takes u a = grind (arith, prices-append, fresh-size)

  write-takes : (u : Use) (a : Acts) → Takes (price π 9 4 3 1 1 1 0) a (sink_write me u a)
  unfolding sink_write
  write-takes u a = let h = perform-takes u a in let g = wait-takes u a in grind (arith, h, g)

  goes_on-takes : (halves : Halves) (d : PromiseId) (a : Acts) (state : WritableState) → Takes (price π 9 4 3 1 1 1 0) a (write_in me halves d a state)
  goes_on-takes halves d a state = grind (arith, prices-append, perform-takes)

  pull-takes : (u : Use) (a : Acts) → Takes (price π 1 1 1 0 0 0 0) a (source_pull u a)
  unfolding source_pull
  pull-takes u a = let h = backpressure-takes false a in grind (arith, h, prices-append)

  finish-takes : (call : HostCall) (step : PromiseId → Step) (u : Use) (a : Acts) (finish : Option PromiseId) → Takes (price π 2 2 2 1 1 0 0) a (finish_by call step u a finish)
  finish-takes call step u a finish = grind (arith, prices-append, fresh-size)

  flushed-takes : (p : PromiseId) (halves : Halves) (a : Acts) (state : ReadableState) → Takes (price π 2 0 0 0 0 0 0) a (flushed_in p halves a state)
  flushed-takes p halves a state = grind (arith, prices-append)

  aborted-takes : (p : PromiseId) (halves : Halves) (r : Plain) (a : Acts) (state : ReadableState) → Takes (price π 2 0 0 0 0 0 0) a (aborted_in p halves r a state)
  aborted-takes p halves r a state = grind (arith, prices-append)

  cancelled-takes : (p : PromiseId) (halves : Halves) (r : Plain) (a : Acts) (state : WritableState) → Takes (price π 7 4 2 1 1 0 0) a (cancelled_in me p halves r a state)
  cancelled-takes p halves r a state = grind (arith, prices-append)

pub transform-takes : (π : Prices) (me : TransformId) (halves : Halves) (operation : TransformOperation) (a : Acts)
    → transform_holds π (transform_operation me halves operation a) + π.turn ≤ transform_holds π a + transform_price π operation
unfolding transform_error terminate enqueue transform_chunk write_goes_on sink_close sink_abort source_cancel flush_settled abort_settled cancel_settled
transform-takes π me halves (names.SinkWrite u) a = let h = write-takes π me u a in omega (arith, h)
transform-takes π me halves (names.WriteGoesOn d) a = let h = goes_on-takes π me halves d a halves.writable_state in omega (arith, h)
transform-takes π me halves (names.TransformChunk v d) a =
    let h = chunk-takes π me halves v d a a.slots.kind in
    let f = prices-append π a.out.effects (transform_by me halves v d a a.slots.kind) in omega (arith, h, f)
transform-takes π me halves (names.Enqueue v) a = grind (arith, prices-append)
transform-takes π me halves names.Enqueued a = let h = enqueued-takes π me halves a in omega (arith, h)
transform-takes π me halves (names.Error e) a = grind (arith, prices-append)
transform-takes π me halves names.Unblock a = let h = unblock-takes π me a in omega (arith, h)
transform-takes π me halves names.Terminate a = grind (arith, prices-append)
transform-takes π me halves (names.SourcePull u) a = let h = pull-takes π me u a in omega (arith, h)
transform-takes π me halves (names.SinkClose u) a = grind (arith, finish-takes)
transform-takes π me halves (names.SinkAbort r u) a = grind (arith, finish-takes)
transform-takes π me halves (names.SourceCancel r u) a = grind (arith, finish-takes)
transform-takes π me halves (names.FlushSettled p (Ok v)) a = let h = flushed-takes π me p halves a halves.readable_state in omega (arith, h)
transform-takes π me halves (names.FlushSettled p (Err e)) a = grind (arith, prices-append)
transform-takes π me halves (names.AbortSettled p r (Ok v)) a = let h = aborted-takes π me p halves r a halves.readable_state in omega (arith, h)
transform-takes π me halves (names.AbortSettled p r (Err e)) a = grind (arith, prices-append)
transform-takes π me halves (names.CancelSettled p r (Ok v)) a = let h = cancelled-takes π me p halves r a halves.writable_state in omega (arith, h)
transform-takes π me halves (names.CancelSettled p r (Err e)) a = grind (arith, prices-append)
