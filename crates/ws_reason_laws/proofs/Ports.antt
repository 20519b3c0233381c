-- Operations of a port keep that nothing bad stands in it, in the promises and in what they cause, where its new promises hand on, and a
-- DataCloneError isn't bad where one comes of them.
use Rattle.std.proofs.Common.{◌≡◌, ℕ, ◌+◌, ◌≤◌, ◌<◌, Bool, true, false, List, [], ◌∷◌, Option, Some, None, Err, refl, arith}
use Rattle.ws_value.specs.declared.ids.PortId.{PortId}
use Rattle.ws_value.specs.declared.ids.PromiseId.{PromiseId}
use Rattle.ws_value.specs.declared.value.Message.{Message}
use Rattle.ws_value.specs.declared.value.Message.TheVariants.{Pull as PullMessage, Chunk as ChunkMessage, Close as CloseMessage, Error as ErrorMessage}
use Rattle.ws_value.specs.declared.value.Plain.{Plain}
use Rattle.ws_value.specs.declared.value.Value.{Value}
use Rattle.ws_value.specs.Values.{is_cloneable}
use Rattle.ws_steps.specs.declared.calls.Event.TheVariants.{Post}
use Rattle.ws_steps.specs.declared.effects.Effect.{Effect}
use Rattle.ws_steps.specs.declared.effects.Effect.TheVariants.{Readable as OnReadable, Writable as OnWritable, Port as OnPort, Give}
use Rattle.ws_steps.specs.declared.effects.Gift.TheVariants.{This, Fresh}
use Rattle.ws_steps.specs.declared.effects.Use.{Use}
use Rattle.ws_steps.specs.declared.effects.Use.TheVariants.{Resolve}
use Rattle.ws_steps.specs.declared.port.PortOperation.{PortOperation}
use Rattle.ws_steps.specs.declared.port.PortOperation.TheVariants as names
use Rattle.ws_steps.specs.declared.port.Side.{Side}
use Rattle.ws_steps.specs.declared.port.Side.TheVariants.{Readable as ReadableSide, Writable as WritableSide}
use Rattle.ws_steps.specs.declared.readable.ReadableOperation.TheVariants.{Enqueue, Close, Error}
use Rattle.ws_steps.specs.declared.transform.Taker.TheVariants.{ToPort}
use Rattle.ws_steps.specs.declared.writable.WritableOperation.TheVariants.{ErrorIfNeeded, HandOn}
use Rattle.ws_steps.specs.Operations.{port_operation}
use Rattle.ws_steps.specs.Promises.{next_id, fresh}
use Rattle.ws_steps.specs.Cross.{Acts, causing, done, data_clone, posting, post, post_or_fail, posted, disentangle, pull, leave, close, wait_for, write, hold_back, hand_on, go_on, write_goes_on, post_chunk, unblock_by, unblock, deliver_to, deliver}
use Rattle.ws_laws.proofs.Tables.{either}
use Rattle.ws_reason_laws.proofs.InTable.{settle-good, fresh-keeps, fresh-count, tell-keeps}
use Rattle.ws_reason_laws.proofs.Readables.{effects-append}
use Rattle.ws_reason_laws.proofs.Weights.{Class, loud, loud_one, of_use, of_result, uses, of_message, of_port, in_table, in_effects, in_port, count}

abbrev size : Acts → ℕ
size a = count a.out.promises

-- a DataCloneError isn't bad where a reason is posted that can't be cloned, or a chunk, where `clones` tells that of the first one
abbrev pub Clones : (Plain → ℕ) → Bool → PortOperation → Type 0
Clones bad clones (names.Leave r u) = is_cloneable r ≡ false → bad data_clone ≡ 0
Clones bad clones (names.WriteGoesOn d) = clones ≡ false → bad data_clone ≡ 0
Clones bad clones _ = Unit {0}

module _ (k : Class) (me : PortId) (m : ℕ) where
  -- nothing bad stands in it
  abbrev Good : Acts → Type 0
  Good a = in_port k a.slots + (in_table k a.out.promises + in_effects k a.out.effects) ≡ 0

  -- with `m` promises after it
  abbrev Ending : Acts → Type 0
  Ending z = size z ≤ m → Good z

  -- the promises from this number on hand on
  abbrev Louds : ℕ → Type 0
  Louds n = (i : ℕ) → n ≤ i → i < m → loud k i ≡ 0

  used : (n : ℕ) (u : Use) → loud k n ≡ 0 → of_use k u ≡ 0 → uses k n u ≡ 0
  used n u h g = grind (arith, h, g)

  -- effects after the others
  causing-good : (a : Acts) (es : List Effect) → in_effects k es ≡ 0 → Good a → Good (causing es a)
  causing-good a es z h = let c = effects-append k a.out.effects es in omega (arith, z, h, c)

  post-good : (message : Message) (a : Acts) → Good a → Good (post me message a)
  post-good message a h = either Good a.slots.live (posting me message a) a (λ e. let t = tell-keeps k (Post me message) a.out.promises (omega (arith, h)) in omega (arith, h, t)) (λ e. h)

  fail-good : (message : Message) (a : Acts) (clones : Bool) → Good a → Good (post_or_fail me message a clones)
  fail-good message a true h = post-good message a h
  fail-good message a false h = post-good (ErrorMessage data_clone) a h

  posted-good : (clones : Bool) → (clones ≡ false → k.bad data_clone ≡ 0) → of_result k (posted clones) ≡ 0
  posted-good true n = refl
  posted-good false n = n refl

  leave-good : (r : Plain) (u : Use) (a : Acts) → (is_cloneable r ≡ false → k.bad data_clone ≡ 0) → of_use k u ≡ 0 → Good a → Good (leave me r u a)
  unfolding leave
  leave-good r u a n z h =
      let b : Acts = disentangle (post_or_fail me (ErrorMessage r) a (is_cloneable r)) in
      let g : Good b = fail-good (ErrorMessage r) a (is_cloneable r) h in
      let p = posted-good (is_cloneable r) n in
      causing-good b (Give (Fresh (posted (is_cloneable r))) u ∷ []) (omega (arith, z, p)) g

  close-good : (u : Use) (a : Acts) → of_use k u ≡ 0 → Good a → Good (close me u a)
  unfolding close
  close-good u a z h =
      let b : Acts = disentangle (post me CloseMessage a) in
      let g : Good b = post-good CloseMessage a h in
      causing-good b (Give (Fresh done) u ∷ []) (omega (arith, z)) g

  wait-good : (p : Option PromiseId) (d : PromiseId) → loud_one k p ≡ 0 → in_effects k (wait_for p me d ∷ []) ≡ 0
  wait-good None d h = refl
  wait-good (Some p) d h = omega (arith, h)

  write-good : (u : Use) (a : Acts) → of_use k u ≡ 0 → Louds (size a) → Good a → Ending (write me u a)
  unfolding write
  write-good u a z l h q =
      let d : PromiseId = next_id a.out.promises in
      let b : Acts = record a { out = record a.out { promises = fresh a.out.promises } } in
      let c = fresh-count a.out.promises in
      let one : loud k (size a) ≡ 0 = l (size a) (omega arith) (omega (arith, c, q)) in
      let f = fresh-keeps k a.out.promises (omega (arith, h)) in
      let e : Good b = omega (arith, h, f) in
      let w = wait-good a.slots.backpressure d (omega (arith, h)) in
      let y = used (size a) u one z in
      causing-good b (wait_for a.slots.backpressure me d ∷ Give (This d) u ∷ []) (omega (arith, w, y)) e

  hand-good : (d : PromiseId) (a : Acts) (clones : Bool) → (clones ≡ false → k.bad data_clone ≡ 0) → Good a → Good (hand_on me d a clones)
  hand-good d a true n h = causing-good a (OnWritable a.slots.stream (HandOn (ToPort me d)) ∷ []) refl h
  hand-good d a false n h =
      let b : Acts = disentangle (post me (ErrorMessage data_clone) a) in
      let g : Good b = post-good (ErrorMessage data_clone) a h in
      let c = n refl in
      causing-good b (Give (Fresh (Err data_clone)) (Resolve d) ∷ []) (omega (arith, c)) g

  hand-size : (d : PromiseId) (a : Acts) (clones : Bool) → size (hand_on me d a clones) ≡ size a
  hand-size d a true = refl
  hand-size d a false = either (λ (z : Acts). size z ≡ size a) a.slots.live (posting me (ErrorMessage data_clone) a) a (λ e. refl) (λ e. refl)

  goes-good : (clones : Bool) (d : PromiseId) (a : Acts) (p : Option PromiseId) → (clones ≡ false → k.bad data_clone ≡ 0) → loud_one k p ≡ 0 → Louds (size a) → Good a → Ending (go_on me clones d a p)
  goes-good clones d a None can z l h q =
      let c = fresh-count a.out.promises in
      let n = hand-size d (hold_back a) clones in
      let one : loud k (size a) ≡ 0 = l (size a) (omega arith) (omega (arith, c, n, q)) in
      let f = fresh-keeps k a.out.promises (omega (arith, h)) in
      let e : Good (hold_back a) = omega (arith, h, f, one) in
      hand-good d (hold_back a) clones can e
  goes-good clones d a (Some p) can z l h q = causing-good a (wait_for (Some p) me d ∷ []) (wait-good (Some p) d z) h

  chunk-good : (v : Value) (d : PromiseId) (a : Acts) → Good a → Good (post_chunk me v d a)
  unfolding post_chunk
  chunk-good v d a h =
      let g = post-good (ChunkMessage v) a h in causing-good (post me (ChunkMessage v) a) (Give (Fresh done) (Resolve d) ∷ []) refl g

  unblock-good : (a : Acts) (p : Option PromiseId) → Good a → Good (unblock_by a p)
  unblock-good a None h = h
  unblock-good a (Some p) h = let s = settle-good k p done a.out.promises (omega (arith, h)) refl in omega (arith, h, s)

  delivered-good : (message : Message) (a : Acts) (side : Side) → of_message k message ≡ 0 → Good a → Good (deliver_to me message a side)
  unfolding unblock
  delivered-good PullMessage a ReadableSide z h = h
  delivered-good (ChunkMessage v) a ReadableSide z h = causing-good a (OnReadable a.slots.stream (Enqueue v) ∷ []) refl h
  delivered-good CloseMessage a ReadableSide z h = causing-good a (OnReadable a.slots.stream Close ∷ []) refl h
  delivered-good (ErrorMessage r) a ReadableSide z h = causing-good a (OnReadable a.slots.stream (Error r) ∷ []) (omega (arith, z)) h
  delivered-good PullMessage a WritableSide z h = unblock-good a a.slots.backpressure h
  delivered-good (ChunkMessage v) a WritableSide z h = h
  delivered-good CloseMessage a WritableSide z h = h
  delivered-good (ErrorMessage r) a WritableSide z h =
      causing-good a (OnWritable a.slots.stream (ErrorIfNeeded r) ∷ OnPort me names.Unblock ∷ []) (omega (arith, z)) h

  pub port-good : (clones : Bool) (operation : PortOperation) (a : Acts) → Clones k.bad clones operation → of_port k operation ≡ 0 → Louds (size a) → Good a → Ending (port_operation me clones operation a)
  unfolding pull write_goes_on deliver unblock
  port-good clones names.Pull a n f l h = λ q. post-good PullMessage a h
  port-good clones (names.Leave r u) a n f l h = λ q. leave-good r u a n f h
  port-good clones (names.Write u) a n f l h = write-good u a f l h
  port-good clones (names.WriteGoesOn d) a n f l h = goes-good clones d a a.slots.backpressure n (omega (arith, h)) l h
  port-good clones (names.PostChunk v d) a n f l h = λ q. chunk-good v d a h
  port-good clones (names.Close u) a n f l h = λ q. close-good u a f h
  port-good clones (names.Deliver message) a n f l h = λ q.
      either Good a.slots.live (deliver_to me message a a.slots.side) a (λ e. delivered-good message a a.slots.side f h) (λ e. h)
  port-good clones names.Unblock a n f l h = λ q. unblock-good a a.slots.backpressure h
