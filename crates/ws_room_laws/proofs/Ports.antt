-- What an operation of a port takes.
use Rattle.std.proofs.Common.{◌≤◌, ℕ, ◌+◌, Bool, true, false, List, [], ◌∷◌, Option, Some, None, Err, arith}
use Rattle.std.specs.Prelude.{if◌then◌else◌}
use Rattle.ws_value.specs.declared.ids.PortId.{PortId}
use Rattle.ws_value.specs.declared.ids.PromiseId.{PromiseId}
use Rattle.ws_value.specs.declared.value.Message.{Message}
use Rattle.ws_value.specs.declared.value.Message.TheVariants.{Pull as PullMessage, Chunk as ChunkMessage, Close as CloseMessage, Error as ErrorMessage}
use Rattle.ws_value.specs.declared.value.Plain.{Plain}
use Rattle.ws_value.specs.Values.{is_cloneable}
use Rattle.ws_steps.specs.declared.calls.Event.TheVariants.{Post}
use Rattle.ws_steps.specs.declared.effects.Effect.{Effect}
use Rattle.ws_steps.specs.declared.effects.Effect.TheVariants.{Readable as OnReadable, Writable as OnWritable, Port as OnPort, Give}
use Rattle.ws_steps.specs.declared.effects.Gift.TheVariants.{This, Fresh}
use Rattle.ws_steps.specs.declared.effects.Use.{Use}
use Rattle.ws_steps.specs.declared.effects.Use.TheVariants.{Resolve}
use Rattle.ws_steps.specs.declared.port.PortOperation.{PortOperation}
use Rattle.ws_steps.specs.declared.port.PortOperation.TheVariants as names
use Rattle.ws_steps.specs.declared.port.Side.{Side}
use Rattle.ws_steps.specs.declared.port.Side.TheVariants.{Readable as ReadableSide, Writable as WritableSide}
use Rattle.ws_steps.specs.declared.readable.ReadableOperation.TheVariants.{Enqueue as EnqueueChunk, Close as CloseReadable, Error as ErrorReadable}
use Rattle.ws_steps.specs.declared.transform.Taker.TheVariants.{ToPort}
use Rattle.ws_steps.specs.declared.writable.WritableOperation.TheVariants.{ErrorIfNeeded, HandOn}
use Rattle.ws_steps.specs.Operations.{port_operation}
use Rattle.ws_steps.specs.Promises.{next_id}
use Rattle.ws_steps.specs.Cross.{Acts, causing, done, data_clone, posting, post, post_or_fail, posted, disentangle, pull, leave, close, wait_for, write, hold_back, hand_on, go_on, write_goes_on, post_chunk, unblock_by, unblock, deliver_to, deliver}
use Rattle.ws_steps.specs.Places.{Prices, price, prices_of, port_price, table_size}
use Rattle.ws_room_laws.proofs.Tables.{settle-size, fresh-size, tell-size}
use Rattle.ws_room_laws.proofs.Readables.{prices-append}

abbrev pub port_holds : Prices → Acts → ℕ
port_holds π a = prices_of π a.out.effects + table_size π a.out.promises

module _ (π : Prices) (me : PortId) where
  -- b holds at most n more than a
  abbrev Takes : ℕ → Acts → Acts → Type 0
  Takes n a b = port_holds π b ≤ port_holds π a + n

  either-takes : (n : ℕ) (test : Bool) (a b c : Acts) → Takes n a b → Takes n a c → Takes n a (if test then b else c)
  either-takes n true a b c h g = h
  either-takes n false a b c h g = g

  post-takes : (m : Message) (a : Acts) → Takes π.event a (post me m a)
  post-takes m a = let h = tell-size π (Post me m) a.out.promises in either-takes π.event a.slots.live a (posting me m a) a (omega (arith, h)) (omega arith)

  fail-takes : (m : Message) (a : Acts) (clones : Bool) → Takes π.event a (post_or_fail me m a clones)
  fail-takes m a true = post-takes m a
  fail-takes m a false = post-takes (ErrorMessage data_clone) a

  leave-takes : (r : Plain) (u : Use) (a : Acts) → Takes (price π 1 1 1 1 0 0 0) a (leave me r u a)
  unfolding leave
  leave-takes r u a =
      let b : Acts = disentangle (post_or_fail me (ErrorMessage r) a (is_cloneable r)) in
      let h = fail-takes (ErrorMessage r) a (is_cloneable r) in
      let f = prices-append π b.out.effects (Give (Fresh (posted (is_cloneable r))) u ∷ []) in omega (arith, h, f)

  close-takes : (u : Use) (a : Acts) → Takes (price π 1 1 1 1 0 0 0) a (close me u a)
  unfolding close
  close-takes u a =
      let b : Acts = disentangle (post me CloseMessage a) in
      let h = post-takes CloseMessage a in
      let f = prices-append π b.out.effects (Give (Fresh done) u ∷ []) in omega (arith, h, f)

  wait-price : (p : Option PromiseId) (d : PromiseId) → prices_of π (wait_for p me d ∷ []) ≤ price π 1 1 1 0 0 0 0
  wait-price None d = omega arith
  wait-price (Some p) d = omega arith

  write-takes : (u : Use) (a : Acts) → Takes (price π 2 2 2 0 0 0 0) a (write me u a)
  unfolding write
  write-takes u a =
      let d : PromiseId = next_id a.out.promises in
      let es : List Effect = wait_for a.slots.backpressure me d ∷ Give (This d) u ∷ [] in
      let h = fresh-size π a.out.promises in
      let f = prices-append π a.out.effects es in
      let g = wait-price a.slots.backpressure d in omega (arith, h, f, g)

  hand-takes : (d : PromiseId) (a : Acts) (clones : Bool) → Takes (price π 3 1 1 1 0 0 0) a (hand_on me d a clones)
  hand-takes d a true = let f = prices-append π a.out.effects (OnWritable a.slots.stream (HandOn (ToPort me d)) ∷ []) in omega (arith, f)
  hand-takes d a false =
      let b : Acts = disentangle (post me (ErrorMessage data_clone) a) in
      let h = post-takes (ErrorMessage data_clone) a in
      let f = prices-append π b.out.effects (Give (Fresh (Err data_clone)) (Resolve d) ∷ []) in omega (arith, h, f)

  go-takes : (clones : Bool) (d : PromiseId) (a : Acts) (p : Option PromiseId) → Takes (price π 3 2 1 1 0 0 0) a (go_on me clones d a p)
  go-takes clones d a None = let h = hand-takes d (hold_back a) clones in let f = fresh-size π a.out.promises in omega (arith, h, f)
  go-takes clones d a (Some p) =
      let f = prices-append π a.out.effects (wait_for (Some p) me d ∷ []) in omega (arith, f)

  chunk-takes : (m : Message) (d : PromiseId) (a : Acts) → Takes (price π 1 1 1 1 0 0 0) a (causing (Give (Fresh done) (Resolve d) ∷ []) (post me m a))
  chunk-takes m d a =
      let h = post-takes m a in
      let f = prices-append π (post me m a).out.effects (Give (Fresh done) (Resolve d) ∷ []) in omega (arith, h, f)

  unblock_by-takes : (a : Acts) (p : Option PromiseId) → Takes 0 a (unblock_by a p)
  unblock_by-takes a None = omega arith
  unblock_by-takes a (Some p) = let h = settle-size π p done a.out.promises in omega (arith, h)

  unblock-takes : (a : Acts) → Takes 0 a (unblock a)
  unfolding unblock
  unblock-takes a = unblock_by-takes a a.slots.backpressure

  deliver_to-takes : (m : Message) (a : Acts) (side : Side) → Takes (price π 6 3 2 1 1 1 0) a (deliver_to me m a side)
  deliver_to-takes PullMessage a ReadableSide = omega arith
  deliver_to-takes (ChunkMessage v) a ReadableSide = let f = prices-append π a.out.effects (OnReadable a.slots.stream (EnqueueChunk v) ∷ []) in omega (arith, f)
  deliver_to-takes CloseMessage a ReadableSide = let f = prices-append π a.out.effects (OnReadable a.slots.stream CloseReadable ∷ []) in omega (arith, f)
  deliver_to-takes (ErrorMessage r) a ReadableSide = let f = prices-append π a.out.effects (OnReadable a.slots.stream (ErrorReadable r) ∷ []) in omega (arith, f)
  deliver_to-takes PullMessage a WritableSide = let h = unblock-takes a in omega (arith, h)
  deliver_to-takes (ChunkMessage v) a WritableSide = omega arith
  deliver_to-takes CloseMessage a WritableSide = omega arith
  deliver_to-takes (ErrorMessage r) a WritableSide =
      let f = prices-append π a.out.effects (OnWritable a.slots.stream (ErrorIfNeeded r) ∷ OnPort me names.Unblock ∷ []) in omega (arith, f)

  deliver-takes : (m : Message) (a : Acts) → Takes (price π 6 3 2 1 1 1 0) a (deliver me m a)
  unfolding deliver
  deliver-takes m a = either-takes (price π 6 3 2 1 1 1 0) a.slots.live a (deliver_to me m a a.slots.side) a (deliver_to-takes m a a.slots.side) (omega arith)

pub port-takes : (π : Prices) (me : PortId) (clones : Bool) (operation : PortOperation) (a : Acts)
    → port_holds π (port_operation me clones operation a) + π.turn ≤ port_holds π a + port_price π operation
unfolding pull write_goes_on post_chunk
port-takes π me clones names.Pull a = let h = post-takes π me PullMessage a in omega (arith, h)
port-takes π me clones (names.Leave r u) a = let h = leave-takes π me r u a in omega (arith, h)
port-takes π me clones (names.Write u) a = let h = write-takes π me u a in omega (arith, h)
port-takes π me clones (names.WriteGoesOn d) a = let h = go-takes π me clones d a a.slots.backpressure in omega (arith, h)
port-takes π me clones (names.PostChunk v d) a = let h = chunk-takes π me (ChunkMessage v) d a in omega (arith, h)
port-takes π me clones (names.Close u) a = let h = close-takes π me u a in omega (arith, h)
port-takes π me clones (names.Deliver m) a = let h = deliver-takes π me m a in omega (arith, h)
port-takes π me clones names.Unblock a = let h = unblock-takes π me a in omega (arith, h)
