-- The backpressure promise of a port, while there is one: each effect leaves it, or settles it. And what leaves a port entangled.
use Rattle.std.proofs.Common.{◌≡◌, ◌⊎◌, inl, inr, ℕ, zero, suc, Bool, true, false, nat_eq, List, [], ◌∷◌, Option, Some, None, slice_get, slice_set, refl, sym, ap, ◌∙◌}
use Rattle.ws_value.specs.declared.ids.{PortId.{PortId}, PromiseId.{PromiseId}}
use Rattle.ws_value.specs.declared.value.Message.{Message}
use Rattle.ws_value.specs.declared.value.Message.TheVariants.{Pull as PullMessage, Chunk as ChunkMessage, Close as CloseMessage, Error as ErrorMessage}
use Rattle.ws_value.specs.Values.{is_cloneable}
use Rattle.ws_steps.specs.declared.effects.{Effect.{Effect}, Effect.TheVariants.{Port as OnPort}}
use Rattle.ws_steps.specs.declared.port.PortOperation.{PortOperation}
use Rattle.ws_steps.specs.declared.port.PortOperation.TheVariants as names
use Rattle.ws_steps.specs.declared.port.Side.{Side}
use Rattle.ws_steps.specs.declared.port.Side.TheVariants.{Readable as ReadableSide, Writable as WritableSide}
use Rattle.ws_steps.specs.Operations.{port_operation}
use Rattle.ws_steps.specs.Promises.{settle}
use Rattle.ws_steps.specs.Cross.{Slots, Acts, done, data_clone, posting, post, post_or_fail, pull, leave, close, write, go_on, write_goes_on, post_chunk, unblock_by, unblock, deliver_to, deliver}
use Rattle.ws_steps.specs.Slots as realm
use Rattle.ws_steps.specs.Slots.{found, on_port_at, clones_at}
use Rattle.ws_steps.specs.Turns.{row}
use Rattle.ws_steps.proofs.PromiseLaws.{slice_get-set_other}
use Rattle.ws_laws.proofs.Apart.{row-ports}
use Rattle.ws_laws.proofs.Tables.{either, eq_numbers, unequal_numbers}

pub post-slots : (me : PortId) (m : Message) (a : Acts) → (post me m a).slots ≡ a.slots
post-slots me m a = either (λ (b : Acts). b.slots ≡ a.slots) a.slots.live (posting me m a) a (λ e. refl) (λ e. refl)

pub fail-slots : (me : PortId) (m : Message) (a : Acts) (clones : Bool) → (post_or_fail me m a clones).slots ≡ a.slots
fail-slots me m a true = post-slots me m a
fail-slots me m a false = post-slots me (ErrorMessage data_clone) a

pub post-effects : (me : PortId) (m : Message) (a : Acts) → (post me m a).out.effects ≡ a.out.effects
post-effects me m a = either (λ (b : Acts). b.out.effects ≡ a.out.effects) a.slots.live (posting me m a) a (λ e. refl) (λ e. refl)

module _ (p : PromiseId) where
  abbrev pub Turned : Acts → Acts → Type 0
  Turned a b = a.slots.backpressure ≡ Some p → (b.slots.backpressure ≡ Some p) ⊎ (b.out.promises ≡ settle p done a.out.promises)

  go-turned : (me : PortId) (clones : Bool) (d : PromiseId) (a : Acts) (o : Option PromiseId) → o ≡ a.slots.backpressure → Turned a (go_on me clones d a o)
  go-turned me clones d a None e is = let no : ◌≡◌ {A = Option PromiseId} None (Some p) = e ∙ is in cc
  go-turned me clones d a (Some q) e is = inl is

  unblock-turned : (a : Acts) (o : Option PromiseId) → o ≡ a.slots.backpressure → Turned a (unblock_by a o)
  unblock-turned a None e is = inl is
  unblock-turned a (Some q) e is = let same : ◌≡◌ {A = Option PromiseId} (Some q) (Some p) = e ∙ is in let at : q ≡ p = cc in inr (rw at refl)

  deliver-turned : (me : PortId) (m : Message) (a : Acts) (side : Side) → Turned a (deliver_to me m a side)
  unfolding unblock
  deliver-turned me PullMessage a ReadableSide is = inl is
  deliver-turned me (ChunkMessage v) a ReadableSide is = inl is
  deliver-turned me CloseMessage a ReadableSide is = inl is
  deliver-turned me (ErrorMessage r) a ReadableSide is = inl is
  deliver-turned me PullMessage a WritableSide is = unblock-turned a a.slots.backpressure refl is
  deliver-turned me (ChunkMessage v) a WritableSide is = inl is
  deliver-turned me CloseMessage a WritableSide is = inl is
  deliver-turned me (ErrorMessage r) a WritableSide is = inl is

  operation-turned : (me : PortId) (clones : Bool) (operation : PortOperation) (a : Acts) → Turned a (port_operation me clones operation a)
  unfolding pull leave close write write_goes_on post_chunk unblock deliver
  operation-turned me clones names.Pull a is = inl (rw (post-slots me PullMessage a) is)
  operation-turned me clones (names.Leave r u) a is = inl (rw (fail-slots me (ErrorMessage r) a (is_cloneable r)) is)
  operation-turned me clones (names.Write u) a is = inl is
  operation-turned me clones (names.WriteGoesOn d) a is = go-turned me clones d a a.slots.backpressure refl is
  operation-turned me clones (names.PostChunk v d) a is = inl (rw (post-slots me (ChunkMessage v) a) is)
  operation-turned me clones (names.Close u) a is = inl (rw (post-slots me CloseMessage a) is)
  operation-turned me clones (names.Deliver m) a is =
      either (λ (b : Acts). (b.slots.backpressure ≡ Some p) ⊎ (b.out.promises ≡ settle p done a.out.promises)) a.slots.live (deliver_to me m a a.slots.side) a (λ e. deliver-turned me m a a.slots.side is) (λ e. inl is)
  operation-turned me clones names.Unblock a is = unblock-turned a a.slots.backpressure refl is

-- the places of ports

pub place-set : {X : Type 0} (ts : List X) (k : ℕ) (x y : X) → slice_get ts k ≡ Some x → slice_get (slice_set ts k y) k ≡ Some y
place-set [] k x y e = cc
place-set (t ∷ ts) zero x y e = refl
place-set (t ∷ ts) (suc k) x y e = place-set ts k x y e

-- after an effect
pub record Turns (c : PortId) (p : PromiseId) (s z : realm.Slots) : Type 0 where
  pub after : Slots
  pub there : slice_get z.ports c.0 ≡ Some after
  pub turned : (after.backpressure ≡ Some p) ⊎ (z.promises ≡ settle p done s.promises)

kept : (c : PortId) (x : Slots) (p : PromiseId) (s z : realm.Slots) → z.ports ≡ s.ports → slice_get s.ports c.0 ≡ Some x → x.backpressure ≡ Some p → Turns c p s z
kept c x p s z e there is = record { after = x; there = ap (λ (ps : List Slots). slice_get ps c.0) e ∙ there; turned = inl is }

port-turns : (c u : PortId) (operation : PortOperation) (x : Slots) (p : PromiseId) (s : realm.Slots) (o : Option Slots) (same : Bool) → same ≡ nat_eq c.0 u.0 → slice_get s.ports u.0 ≡ o → slice_get s.ports c.0 ≡ Some x
    → x.backpressure ≡ Some p → Turns c p s (on_port_at (λ clones. port_operation u clones operation) u s o).slots
port-turns c u operation x p s None same e at there is = kept c x p s s refl there is
port-turns c u operation x p s (Some y) true e at there is =
    let k : c.0 ≡ u.0 = eq_numbers c.0 u.0 (sym e) in
    let a : Acts = record { slots = y; out = found s } in
    let b : Acts = port_operation u (clones_at y s) operation a in
    let was : ◌≡◌ {A = Option Slots} (Some y) (Some x) = sym at ∙ (ap (slice_get s.ports) (sym k) ∙ there) in
    let same : y ≡ x = cc in
    record { after = b.slots; there = rw k (place-set s.ports u.0 y b.slots at); turned = operation-turned p u (clones_at y s) operation a (rw same is) }
port-turns c u operation x p s (Some y) false e at there is =
    let a : Acts = record { slots = y; out = found s } in
    let b : Acts = port_operation u (clones_at y s) operation a in
    record { after = x; there = slice_get-set_other s.ports u.0 c.0 b.slots (λ i. unequal_numbers c.0 u.0 (sym e) (sym i)) ∙ there; turned = inl is }

pub row-port-turns : (c : PortId) (e : Effect) (x : Slots) (p : PromiseId) (s : realm.Slots) → slice_get s.ports c.0 ≡ Some x → x.backpressure ≡ Some p → Turns c p s (row e s).slots
unfolding row
row-port-turns c (OnPort u operation) x p s there is = port-turns c u operation x p s (slice_get s.ports u.0) (nat_eq c.0 u.0) refl refl there is
row-port-turns c e x p s there is = kept c x p s (row e s).slots (row-ports e s tt) there is
