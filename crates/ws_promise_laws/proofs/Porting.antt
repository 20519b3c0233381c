-- Operations on a port settle and resolve open promises alone.
use Rattle.std.proofs.Common.{◌≡◌, ◌≤◌, ℕ, ◌+◌, Bool, true, false, List, [], ◌∷◌, Option, Some, None, Err, refl, arith}
use Rattle.ws_value.specs.declared.ids.PortId.{PortId}
use Rattle.ws_value.specs.declared.ids.PromiseId.{PromiseId}
use Rattle.ws_value.specs.declared.value.Message.{Message}
use Rattle.ws_value.specs.declared.value.Message.TheVariants.{Pull as PullMessage, Chunk as ChunkMessage, Close as CloseMessage, Error as ErrorMessage}
use Rattle.ws_value.specs.declared.value.Plain.{Plain}
use Rattle.ws_value.specs.Values.{is_cloneable}
use Rattle.ws_steps.specs.declared.effects.Effect.{Effect}
use Rattle.ws_steps.specs.declared.effects.Effect.TheVariants.{Readable, Writable, Port, Give}
use Rattle.ws_steps.specs.declared.effects.Gift.TheVariants.{This, Fresh}
use Rattle.ws_steps.specs.declared.effects.Use.{Use}
use Rattle.ws_steps.specs.declared.effects.Use.TheVariants.{Resolve}
use Rattle.ws_steps.specs.declared.port.PortOperation.{PortOperation}
use Rattle.ws_steps.specs.declared.port.PortOperation.TheVariants as names_of
use Rattle.ws_steps.specs.declared.port.Side.{Side}
use Rattle.ws_steps.specs.declared.port.Side.TheVariants.{Readable as ReadableSide, Writable as WritableSide}
use Rattle.ws_steps.specs.declared.readable.ReadableOperation.TheVariants.{Enqueue, Close, Error}
use Rattle.ws_steps.specs.declared.transform.Taker.TheVariants.{ToPort}
use Rattle.ws_steps.specs.declared.writable.WritableOperation.TheVariants.{ErrorIfNeeded, HandOn}
use Rattle.ws_steps.specs.Operations.{port_operation}
use Rattle.ws_steps.specs.Promises.{next_id, fresh}
use Rattle.ws_steps.specs.Cross.{Acts, causing, done, data_clone, posting, post, post_or_fail, posted, disentangle, pull, leave, close, wait_for, write, hold_back, hand_on, go_on, write_goes_on, post_chunk, unblock_by, unblock, deliver_to, deliver}
use Rattle.ws_laws.proofs.Tables.{either}
use Rattle.ws_promise_laws.proofs.Holds.{holds-less}
use Rattle.ws_promise_laws.proofs.Reacting.{holds-told}
use Rattle.ws_promise_laws.proofs.Settling.{holds-settle, holds-fresh}
use Rattle.ws_promise_laws.proofs.Streams.{in_port, Ports}
use Rattle.ws_promise_laws.proofs.Tokens.{names, of_use, of_port, in_effects, in_effects-append}

abbrev here : PromiseId → Acts → ℕ
here x a = in_port x a.slots + in_effects x a.out.effects

-- effects after the others
caused : (x : PromiseId) (es : List Effect) (a : Acts) → here x (causing es a) ≡ here x a + in_effects x es
caused x es a = let n = in_effects-append x a.out.effects es in omega (arith, n)

module _ (f l : PromiseId → ℕ) where
  -- what was told stands in what is caused, and the promises are the same
  quiet : (n : PromiseId → ℕ) (a b : Acts) → b.out.promises ≡ a.out.promises → ((x : PromiseId) → here x b ≤ n x + here x a) → Ports (λ x. f x + n x) l a → Ports f l b
  quiet n a b e m k =
      rw e (holds-less (λ x. (f x + n x) + here x a) l (λ x. f x + here x b) l a.out.promises k (λ x. let h = m x in omega (arith, h)) (λ x. let h = m x in omega (arith, h)))

  -- and one is new
  making : (n : PromiseId → ℕ) (a b : Acts) → b.out.promises ≡ fresh a.out.promises → ((x : PromiseId) → here x b ≤ (n x + here x a) + names x (next_id a.out.promises)) → Ports (λ x. f x + n x) l a → Ports f l b
  making n a b e m k =
      rw e (holds-fresh (λ x. (f x + n x) + here x a) l (λ x. f x + here x b) l a.out.promises k (λ x. let h = m x in omega (arith, h)) (λ x. let h = m x in omega (arith, h)))

  -- a post
  posts : (me : PortId) (m : Message) (a : Acts) → Ports f l a → Ports f l (post me m a)
  posts me m a k = either (Ports f l) a.slots.live (posting me m a) a (λ e. holds-told (λ x. f x + here x a) l _ a.out.promises k) (λ e. k)

  fails : (me : PortId) (m : Message) (a : Acts) (clones : Bool) → Ports f l a → Ports f l (post_or_fail me m a clones)
  fails me m a true k = posts me m a k
  fails me m a false k = posts me (ErrorMessage data_clone) a k

  -- of no port but by its promise
  dead : (a : Acts) → Ports f l a → Ports f l (disentangle a)
  dead a k = k

-- what was told is given
given : (f l n : PromiseId → ℕ) (e : Effect) (a : Acts) → ((x : PromiseId) → in_effects x (e ∷ []) ≤ n x) → Ports (λ x. f x + n x) l a → Ports f l (causing (e ∷ []) a)
given f l n e a m k = quiet f l n a (causing (e ∷ []) a) refl (λ x. let c = caused x (e ∷ []) a in let h = m x in omega (arith, c, h)) k

module _ (f l : PromiseId → ℕ) (me : PortId) where
  leaves : (r : Plain) (u : Use) (a : Acts) → Ports (λ x. f x + of_use x u) l a → Ports f l (leave me r u a)
  unfolding leave
  leaves r u a k =
      given f l (λ x. of_use x u) (Give (Fresh (posted (is_cloneable r))) u) (disentangle (post_or_fail me (ErrorMessage r) a (is_cloneable r))) (λ x. omega arith)
      (fails (λ x. f x + of_use x u) l me (ErrorMessage r) a (is_cloneable r) k)

  closes : (u : Use) (a : Acts) → Ports (λ x. f x + of_use x u) l a → Ports f l (close me u a)
  unfolding close
  closes u a k =
      given f l (λ x. of_use x u) (Give (Fresh done) u) (disentangle (post me CloseMessage a)) (λ x. omega arith) (posts (λ x. f x + of_use x u) l me CloseMessage a k)

  chunks : (m : Message) (d : PromiseId) (a : Acts) → Ports (λ x. f x + names x d) l a → Ports f l (causing (Give (Fresh done) (Resolve d) ∷ []) (post me m a))
  chunks m d a k = given f l (λ x. names x d) (Give (Fresh done) (Resolve d)) (post me m a) (λ x. omega arith) (posts (λ x. f x + names x d) l me m a k)

  waits : (x : PromiseId) (p : Option PromiseId) (d : PromiseId) → in_effects x (wait_for p me d ∷ []) ≡ names x d
  waits x None d = omega arith
  waits x (Some p) d = omega arith

  writes : (u : Use) (a : Acts) → Ports (λ x. f x + of_use x u) l a → Ports f l (write me u a)
  unfolding write
  writes u a k =
      let d : PromiseId = next_id a.out.promises in
      making f l (λ x. of_use x u) a (write me u a) refl
      (λ x.
      let c = in_effects-append x a.out.effects (wait_for a.slots.backpressure me d ∷ Give (This d) u ∷ []) in
      let w = waits x a.slots.backpressure d in omega (arith, c, w)) k

  holds_back : (n : PromiseId → ℕ) (a : Acts) → None ≡ a.slots.backpressure → Ports (λ x. f x + n x) l a → Ports (λ x. f x + n x) l (hold_back a)
  holds_back n a e k =
      holds-fresh (λ x. (f x + n x) + here x a) l (λ x. (f x + n x) + here x (hold_back a)) l a.out.promises k (λ x. omega arith) (λ x. omega arith)

  hands : (d : PromiseId) (a : Acts) (clones : Bool) → Ports (λ x. f x + names x d) l a → Ports f l (hand_on me d a clones)
  hands d a true k = given f l (λ x. names x d) (Writable a.slots.stream (HandOn (ToPort me d))) a (λ x. omega arith) k
  hands d a false k =
      given f l (λ x. names x d) (Give (Fresh (Err data_clone)) (Resolve d)) (disentangle (post me (ErrorMessage data_clone) a)) (λ x. omega arith)
      (posts (λ x. f x + names x d) l me (ErrorMessage data_clone) a k)

  goes : (clones : Bool) (d : PromiseId) (a : Acts) (p : Option PromiseId) → p ≡ a.slots.backpressure → Ports (λ x. f x + names x d) l a → Ports f l (go_on me clones d a p)
  goes clones d a None e k = hands d (hold_back a) clones (holds_back (λ x. names x d) a e k)
  goes clones d a (Some p) e k = given f l (λ x. names x d) (wait_for (Some p) me d) a (λ x. let w = waits x (Some p) d in omega (arith, w)) k

  unblocks : (a : Acts) (p : Option PromiseId) → p ≡ a.slots.backpressure → Ports (λ x. f x + 0) l a → Ports f l (unblock_by a p)
  unblocks a None e k = quiet f l (λ x. 0) a a refl (λ x. omega arith) k
  unblocks a (Some p) e k =
      holds-settle (λ x. (f x + 0) + here x a) l (λ x. f x + here x (unblock_by a (Some p))) l p done a.out.promises k
      (λ x. let s : in_port x a.slots ≡ names x p = rw (← e) refl in omega (arith, s)) (λ x. let s : in_port x a.slots ≡ names x p = rw (← e) refl in omega (arith, s))

  delivers : (m : Message) (a : Acts) (side : Side) → Ports (λ x. f x + 0) l a → Ports f l (deliver_to me m a side)
  unfolding unblock
  delivers PullMessage a ReadableSide k = quiet f l (λ x. 0) a a refl (λ x. omega arith) k
  delivers (ChunkMessage v) a ReadableSide k = given f l (λ x. 0) (Readable a.slots.stream (Enqueue v)) a (λ x. omega arith) k
  delivers CloseMessage a ReadableSide k = given f l (λ x. 0) (Readable a.slots.stream Close) a (λ x. omega arith) k
  delivers (ErrorMessage r) a ReadableSide k = given f l (λ x. 0) (Readable a.slots.stream (Error r)) a (λ x. omega arith) k
  delivers PullMessage a WritableSide k = unblocks a a.slots.backpressure refl k
  delivers (ChunkMessage v) a WritableSide k = quiet f l (λ x. 0) a a refl (λ x. omega arith) k
  delivers CloseMessage a WritableSide k = quiet f l (λ x. 0) a a refl (λ x. omega arith) k
  delivers (ErrorMessage r) a WritableSide k =
      let es : List Effect = Writable a.slots.stream (ErrorIfNeeded r) ∷ Port me names_of.Unblock ∷ [] in
      quiet f l (λ x. 0) a (causing es a) refl (λ x. let c = caused x es a in omega (arith, c)) k

-- an operation takes the promises that it was told of
pub ports : (f l : PromiseId → ℕ) (me : PortId) (clones : Bool) (operation : PortOperation) (a : Acts) → Ports (λ x. f x + of_port x operation) l a
    → Ports f l (port_operation me clones operation a)
unfolding pull write_goes_on post_chunk unblock deliver
ports f l me clones names_of.Pull a k = posts f l me PullMessage a (quiet f l (λ x. 0) a a refl (λ x. omega arith) k)
ports f l me clones (names_of.Leave r u) a k = leaves f l me r u a k
ports f l me clones (names_of.Write u) a k = writes f l me u a k
ports f l me clones (names_of.WriteGoesOn d) a k = goes f l me clones d a a.slots.backpressure refl k
ports f l me clones (names_of.PostChunk v d) a k = chunks f l me (ChunkMessage v) d a k
ports f l me clones (names_of.Close u) a k = closes f l me u a k
ports f l me clones (names_of.Deliver m) a k =
    either (Ports f l) a.slots.live (deliver_to me m a a.slots.side) a (λ e. delivers f l me m a a.slots.side k) (λ e. quiet f l (λ x. 0) a a refl (λ x. omega arith) k)
ports f l me clones names_of.Unblock a k = unblocks f l me a a.slots.backpressure refl k
