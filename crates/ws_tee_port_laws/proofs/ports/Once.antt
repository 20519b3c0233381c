-- No step posts more than one message by one port.
use Rattle.std.proofs.Common.{◌≡◌, ℕ, ◌+◌, ◌≤◌, Bool, true, false, if◌then◌else◌, List, [], ◌∷◌, ◌++◌, length, Option, Some, None, slice_get, refl, sym, ap, subst, arith}
use Rattle.std.proofs.lemmas.List.{length-append}
use Rattle.ws_value.specs.declared.ids.PortId.{PortId}
use Rattle.ws_value.specs.declared.ids.PromiseId.{PromiseId}
use Rattle.ws_value.specs.declared.ids.StreamId.{StreamId}
use Rattle.ws_value.specs.declared.value.Message.{Message}
use Rattle.ws_value.specs.declared.value.Message.TheVariants.{Pull as PullMessage, Chunk as ChunkMessage, Close as CloseMessage, Error as ErrorMessage}
use Rattle.ws_value.specs.Values.{is_cloneable}
use Rattle.ws_steps.specs.declared.effects.Effect.{Effect}
use Rattle.ws_steps.specs.declared.effects.Effect.TheVariants.{Writable as OnWritable, Port as OnPort, Give, Settle}
use Rattle.ws_steps.specs.declared.port.PortOperation.{PortOperation}
use Rattle.ws_steps.specs.declared.port.PortOperation.TheVariants as ports
use Rattle.ws_steps.specs.declared.port.Side.{Side}
use Rattle.ws_steps.specs.declared.port.Side.TheVariants.{Readable as ReadableSide, Writable as WritableSide}
use Rattle.ws_steps.specs.declared.transform.Taker.TheVariants.{ToPort}
use Rattle.ws_steps.specs.declared.writable.WritableOperation.TheVariants as writes
use Rattle.ws_steps.specs.Cross as cross
use Rattle.ws_steps.specs.Operations.{port_operation}
use Rattle.ws_steps.specs.PortHistory.{is_same_port}
use Rattle.ws_steps.specs.Promises.{Table}
use Rattle.ws_steps.specs.Queues.{first_value}
use Rattle.ws_steps.specs.declared.effects.Gift.TheVariants.{Fresh}
use Rattle.ws_steps.specs.declared.effects.Use.TheVariants.{Resolve}
use Rattle.ws_steps.specs.Operations.{writable_operation}
use Rattle.ws_steps.specs.Writable as writable
use Rattle.ws_steps.specs.declared.writable.WriteRecord.{WriteRecord}
use Rattle.ws_steps.specs.declared.writable.WriteRecord.TheVariants.{Chunk, InFlight, CloseMark}
use Rattle.ws_laws.proofs.Tables.{writable_acts}
use Rattle.ws_steps.specs.Slots.{has_writable, put_writable, Slots, Done, nothing, found, on_port_at, clones_at}
use Rattle.ws_steps.specs.Turns.{row}
use Rattle.ws_laws.proofs.Lists.{Each, each-append}
use Rattle.ws_laws.proofs.Apart.{row-ports}
use Rattle.ws_laws.proofs.Tables.{either, eq_numbers}
use Rattle.ws_tee_port_laws.proofs.ports.Posting.{total, total-append, given, given_first, given-more, is_same_port-refl, port_acts, Does, leave-does, close-does, chunk-does}
use Rattle.ws_tee_port_laws.proofs.ports.Apart.{place-same, place-other, port-elsewhere}
use Rattle.ws_tee_port_laws.proofs.ports.Told.{posted, row-posted}

-- what an effect does to a port
module _ (c : PortId) where
  abbrev pub NotMine : Effect → Type 0
  NotMine (OnPort d operation) = is_same_port c d ≡ false
  NotMine e = Unit {0}

  abbrev Leaves : Slots → Slots → Type 0
  Leaves s z = (posted c z.promises ≡ posted c s.promises) × (slice_get z.ports c.0 ≡ slice_get s.ports c.0)

  other-port : (d : PortId) (operation : PortOperation) (s : Slots) → is_same_port c d ≡ false → (o : Option cross.Slots)
      → Leaves s (on_port_at (λ clones. port_operation d clones operation) d s o).slots
  other-port d operation s n None = (refl, refl)
  other-port d operation s n (Some x) =
      let a : cross.Acts = record { slots = x; out = found s } in
      (port-elsewhere c d n (clones_at x s) operation a, place-other s.ports c.0 d.0 (port_operation d (clones_at x s) operation a).slots n)

  pub row-leaves : (e : Effect) (s : Slots) → NotMine e → Leaves s (row e s).slots
  unfolding row
  row-leaves (OnPort d operation) s n = other-port d operation s n (slice_get s.ports d.0)
  row-leaves e s n = (row-posted c e s tt, ap (λ (xs : List cross.Slots). slice_get xs c.0) (row-ports e s tt))

  -- what its own operation does, where it is there
  pub record Mine (operation : PortOperation) (s : Slots) (x : cross.Slots) (d : Done) : Type 0 where
    pub slot : slice_get d.slots.ports c.0 ≡ Some (port_operation c (clones_at x s) operation (port_acts c x s.promises)).slots
    pub told : posted c d.slots.promises ≡ posted c s.promises ++ given (clones_at x s) operation x
    pub caused : d.caused ≡ (port_operation c (clones_at x s) operation (port_acts c x s.promises)).out.effects

  mine-at : (operation : PortOperation) (s : Slots) (x : cross.Slots) (o : Option cross.Slots) → slice_get s.ports c.0 ≡ Some x → o ≡ Some x
      → Mine operation s x (on_port_at (λ clones. port_operation c clones operation) c s o)
  mine-at operation s x o is e =
      rw e (record {
        slot = place-same s.ports c.0 x (port_operation c (clones_at x s) operation (port_acts c x s.promises)).slots is;
        told = given-more c (clones_at x s) operation (port_acts c x s.promises);
        caused = refl;
      })

  pub row-mine : (operation : PortOperation) (s : Slots) (x : cross.Slots) → slice_get s.ports c.0 ≡ Some x → Mine operation s x (row (OnPort c operation) s)
  unfolding row
  row-mine operation s x is = mine-at operation s x (slice_get s.ports c.0) is is

  pub no-mine : (operation : PortOperation) (s : Slots) → slice_get s.ports c.0 ≡ None → row (OnPort c operation) s ≡ nothing s
  unfolding row
  no-mine operation s is = rw is refl

  -- an operation of a port is its own, or another's
  pub by-port : (P : PortId → Type 0) (d : PortId) → (is_same_port c d ≡ false → P d) → P c → P d
  by-port P d other mine = by (is_same_port c d) refl
    where
      by : (same : Bool) → same ≡ is_same_port c d → P d
      by false n = other (sym n)
      by true e = let is : c ≡ d = λ k. record { 0 = eq_numbers c.0 d.0 (sym e) k } in subst P is mine

-- whether a port is entangled, as a number
abbrev pub alive : cross.Slots → ℕ
alive x = if x.live then 1 else 0

-- operations that post once, and only where the port is entangled, which it isn't from then on
abbrev pub IsLast : PortOperation → Type 0
IsLast ports.Pull = ⊥
IsLast (ports.WriteGoesOn d) = ⊥
IsLast (ports.PostChunk v d) = ⊥
IsLast operation = Unit {0}

module _ (c : PortId) (x : cross.Slots) (t : Table) where
  abbrev After : Bool → PortOperation → cross.Acts
  After clones operation = port_operation c clones operation (port_acts c x t)

  one-if : (m : Message) → length (if x.live then m ∷ [] else []) ≡ alive x
  one-if m = by x.live
    where
      by : (l : Bool) → length {A = Message} (if l then m ∷ [] else []) ≡ (if l then 1 else 0)
      by true = refl
      by false = refl

  abbrev Lasts : Bool → PortOperation → cross.Slots → Type 0
  Lasts clones operation y = length (given clones operation x) + alive y ≤ alive x

  lasts : (clones : Bool) (operation : PortOperation) (b : cross.Acts) (y : cross.Slots) (fs : List Effect) → Does c x t b y fs → Lasts clones operation y → Lasts clones operation b.slots
  lasts clones operation b y fs d k = rw (d.slots) k

  unblock-lives : (o : Option PromiseId) → alive (cross.unblock_by (port_acts c x t) o).slots ≤ alive x
  unblock-lives None = omega arith
  unblock-lives (Some p) = omega arith

  deliver-lives : (m : Message) (side : Side) → alive (cross.deliver_to c m (port_acts c x t) side).slots ≤ alive x
  unfolding cross.unblock
  deliver-lives PullMessage ReadableSide = omega arith
  deliver-lives (ChunkMessage v) ReadableSide = omega arith
  deliver-lives CloseMessage ReadableSide = omega arith
  deliver-lives (ErrorMessage r) ReadableSide = omega arith
  deliver-lives PullMessage WritableSide = unblock-lives x.backpressure
  deliver-lives (ChunkMessage v) WritableSide = omega arith
  deliver-lives CloseMessage WritableSide = omega arith
  deliver-lives (ErrorMessage r) WritableSide = omega arith

  pub last-lives : (clones : Bool) (operation : PortOperation) → IsLast operation → Lasts clones operation (After clones operation).slots
  unfolding cross.write cross.unblock cross.deliver
  last-lives clones ports.Pull n = absurd n
  last-lives clones (ports.WriteGoesOn d) n = absurd n
  last-lives clones (ports.PostChunk v d) n = absurd n
  last-lives clones (ports.Leave r u) n =
      lasts clones (ports.Leave r u) _ _ _ (leave-does c x t r u) (let h = one-if (ErrorMessage (if is_cloneable r then r else cross.data_clone)) in omega (arith, h))
  last-lives clones (ports.Write u) n = omega arith
  last-lives clones (ports.Close u) n = lasts clones (ports.Close u) _ _ _ (close-does c x t u) (let h = one-if CloseMessage in omega (arith, h))
  last-lives clones (ports.Deliver m) n =
      either (λ (b : cross.Acts). 0 + alive b.slots ≤ alive x) x.live (cross.deliver_to c m (port_acts c x t) x.side) (port_acts c x t)
      (λ l. let h = deliver-lives m x.side in omega (arith, h)) (λ l. omega arith)
  last-lives clones ports.Unblock n = let h = unblock-lives x.backpressure in omega (arith, h)

-- the job in which a waiting write goes on: it posts once, and does nothing else

abbrev pub IsPosting : Effect → Type 0
IsPosting (OnPort d (ports.WriteGoesOn p)) = Unit {0}
IsPosting (OnPort d (ports.PostChunk v p)) = Unit {0}
IsPosting (OnWritable i (writes.HandOn (ToPort d p))) = Unit {0}
IsPosting (Give gift u) = Unit {0}
IsPosting (Settle p o) = Unit {0}
IsPosting _ = ⊥

-- a post that may yet come of it
abbrev pub posts_of : PortId → Effect → ℕ
posts_of c (OnPort d (ports.WriteGoesOn p)) = if is_same_port c d then 1 else 0
posts_of c (OnPort d (ports.PostChunk v p)) = if is_same_port c d then 1 else 0
posts_of c (OnWritable i (writes.HandOn (ToPort d p))) = if is_same_port c d then 1 else 0
posts_of c _ = 0

module _ (c : PortId) where
  -- effects caused are such, and weigh no more
  abbrev Fewer : ℕ → List Effect → Type 0
  Fewer n es = Each IsPosting es × (total (posts_of c) es ≤ n)

  wait-fewer : (d : PortId) (p : PromiseId) (o : Option PromiseId) → Fewer 0 (cross.wait_for o d p ∷ [])
  wait-fewer d p None = ((tt, tt), omega arith)
  wait-fewer d p (Some q) = ((tt, tt), omega arith)

  abbrev Weight : PortId → ℕ
  Weight d = if is_same_port c d then 1 else 0

  post-nothing : (d : PortId) (m : Message) (a : cross.Acts) → a.out.effects ≡ [] → (cross.post d m a).out.effects ≡ []
  post-nothing d m a e = either (λ (b : cross.Acts). b.out.effects ≡ []) a.slots.live (cross.posting d m a) a (λ l. e) (λ l. e)

  fail-fewer : (d : PortId) (p : PromiseId) (x : cross.Slots) (t : Table) → Fewer 0 (cross.hand_on d p (cross.hold_back (port_acts d x t)) false).out.effects
  fail-fewer d p x t = rw (post-nothing d (ErrorMessage cross.data_clone) (cross.hold_back (port_acts d x t)) refl) ((tt, tt), omega arith)

  -- where it posts, it weighs nothing any more
  pub go-fewer : (d : PortId) (clones : Bool) (p : PromiseId) (x : cross.Slots) (t : Table) (o : Option PromiseId)
      → Each IsPosting (cross.go_on d clones p (port_acts d x t) o).out.effects
      × (length (given_first clones x o) + total (posts_of c) (cross.go_on d clones p (port_acts d x t) o).out.effects ≤ 1)
  go-fewer d true p x t None = ((tt, tt), one (is_same_port c d))
    where
      one : (b : Bool) → 0 + ((if b then 1 else 0) + 0) ≤ 1
      one true = omega arith
      one false = omega arith
  go-fewer d false p x t None = let f = fail-fewer d p x t in (f.0, few x.live)
    where
      few : (l : Bool) → length {A = Message} (if l then ErrorMessage cross.data_clone ∷ [] else []) + total (posts_of c) (cross.hand_on d p (cross.hold_back (port_acts d x t)) false).out.effects ≤ 1
      few true = let n = (fail-fewer d p x t).1 in omega (arith, n)
      few false = let n = (fail-fewer d p x t).1 in omega (arith, n)
  go-fewer d clones p x t (Some q) = let f = wait-fewer d p (Some q) in (f.0, let n = f.1 in omega (arith, n))

  -- and of another port, it weighs as little before
  go-other : (d : PortId) (clones : Bool) (p : PromiseId) (x : cross.Slots) (t : Table) (o : Option PromiseId) → is_same_port c d ≡ false
      → total (posts_of c) (cross.go_on d clones p (port_acts d x t) o).out.effects ≤ 0
  go-other d true p x t None n = rw n (omega arith)
  go-other d false p x t None n = (fail-fewer d p x t).1
  go-other d clones p x t (Some q) n = omega arith

  other-fewer : (d : PortId) (operation : PortOperation) (s : Slots) → is_same_port c d ≡ false → IsPosting (OnPort d operation) → (o : Option cross.Slots)
      → Fewer 0 (on_port_at (λ clones. port_operation d clones operation) d s o).caused
  unfolding cross.write_goes_on
  other-fewer d operation s n k None = (tt, omega arith)
  other-fewer d (ports.WriteGoesOn p) s n k (Some x) = ((go-fewer d (clones_at x s) p x s.promises x.backpressure).0, go-other d (clones_at x s) p x s.promises x.backpressure n)
  other-fewer d (ports.PostChunk v p) s n k (Some x) = let h = chunk-does d x s.promises v p in rw (h.effects) ((tt, tt), omega arith)
  other-fewer d operation s n k (Some x) = absurd k

  handed-fewer : (i : StreamId) (d : PortId) (p : PromiseId) (a : writable.Acts) (o : Option WriteRecord) → a.out.effects ≡ [] → Fewer (Weight d) (writable.hand_on_first i (ToPort d p) a o).out.effects
  handed-fewer i d p a None e = rw e (tt, omega arith)
  handed-fewer i d p a (Some (Chunk v)) e = rw e ((tt, tt), omega arith)
  handed-fewer i d p a (Some InFlight) e = rw e (tt, omega arith)
  handed-fewer i d p a (Some CloseMark) e = rw e (tt, omega arith)

  hand-fewer : (i : StreamId) (d : PortId) (p : PromiseId) (s : Slots) → Fewer (Weight d) (row (OnWritable i (writes.HandOn (ToPort d p))) s).caused
  unfolding row writable.hand_on
  hand-fewer i d p s =
      either (λ (z : Done). Fewer (Weight d) z.caused) (has_writable i s) (put_writable i s (writable_operation i (writes.HandOn (ToPort d p)) (writable_acts i s))) (nothing s)
      (λ there. handed-fewer i d p (writable_acts i s) (first_value (writable_acts i s).slots.queue) refl) (λ absent. (tt, omega arith))

  -- at a moment of such a job, where no more than so many were posted before
  abbrev pub Post_mode : ℕ → List Message → List Effect → Type 0
  Post_mode n ms es = Each IsPosting es × (length ms + total (posts_of c) es ≤ n + 1)

  post-mode : (n k : ℕ) (ms ns : List Message) (e : Effect) (es fs : List Effect) → Each IsPosting fs → length ns + total (posts_of c) fs ≤ k → k ≤ posts_of c e
      → Post_mode n ms (e ∷ es) → Post_mode n (ms ++ ns) (fs ++ es)
  post-mode n k ms ns e es fs f few less m =
      let a = length-append ms ns in let b = total-append (posts_of c) fs es in let h = m.1 in
      (each-append IsPosting fs es f m.0.1, omega (arith, a, b, few, less, h))

  -- the same where nothing is posted
  quiet-mode : (n : ℕ) (ms : List Message) (e : Effect) (es fs : List Effect) → Fewer (posts_of c e) fs → Post_mode n ms (e ∷ es) → Post_mode n ms (fs ++ es)
  quiet-mode n ms e es fs f m =
      let b = total-append (posts_of c) fs es in let h = m.1 in let few = f.1 in
      (each-append IsPosting fs es f.0 m.0.1, omega (arith, b, few, h))

  mine-mode : (n : ℕ) (operation : PortOperation) (s : Slots) (x : cross.Slots) (es : List Effect) → slice_get s.ports c.0 ≡ Some x → Post_mode n (posted c s.promises) (OnPort c operation ∷ es)
      → let z : Done = row (OnPort c operation) s in Post_mode n (posted c z.slots.promises) (z.caused ++ es)
  unfolding cross.write_goes_on
  mine-mode n (ports.WriteGoesOn p) s x es is m =
      let r = row-mine c (ports.WriteGoesOn p) s x is in
      let f = go-fewer c (clones_at x s) p x s.promises x.backpressure in
      let one : posts_of c (OnPort c (ports.WriteGoesOn p)) ≡ 1 = rw (is_same_port-refl c) refl in
      rw (r.told, r.caused) (post-mode n 1 (posted c s.promises) _ (OnPort c (ports.WriteGoesOn p)) es _ f.0 f.1 (omega (arith, one)) m)
  mine-mode n (ports.PostChunk v p) s x es is m =
      let r = row-mine c (ports.PostChunk v p) s x is in
      let d = chunk-does c x s.promises v p in
      let one : posts_of c (OnPort c (ports.PostChunk v p)) ≡ 1 = rw (is_same_port-refl c) refl in
      rw (r.told, r.caused, d.effects) (post-mode n 1 (posted c s.promises) (given (clones_at x s) (ports.PostChunk v p) x) (OnPort c (ports.PostChunk v p)) es (Give (Fresh cross.done) (Resolve p) ∷ []) (tt, tt) (few x.live) (omega (arith, one)) m)
    where
      few : (l : Bool) → length {A = Message} (if l then ChunkMessage v ∷ [] else []) + 0 ≤ 1
      few true = omega arith
      few false = omega arith
  mine-mode n operation s x es is m = absurd m.0.0

  other-mode : (n : ℕ) (d : PortId) (operation : PortOperation) (s : Slots) (es : List Effect) → is_same_port c d ≡ false → Post_mode n (posted c s.promises) (OnPort d operation ∷ es)
      → let z : Done = row (OnPort d operation) s in Post_mode n (posted c z.slots.promises) (z.caused ++ es)
  unfolding row
  other-mode n d operation s es e m =
      let f = other-fewer d operation s e m.0.0 (slice_get s.ports d.0) in
      let same = (row-leaves c (OnPort d operation) s e).0 in
      let few = f.1 in
      rw same (quiet-mode n (posted c s.promises) (OnPort d operation) es _ (f.0, omega (arith, few)) m)

  abbrev IsDone : Effect → Type 0
  IsDone (Give gift u) = Unit {0}
  IsDone (Settle p o) = Unit {0}
  IsDone _ = ⊥

  done-caused : (e : Effect) (s : Slots) → IsDone e → (row e s).caused ≡ []
  unfolding row
  done-caused (Give gift u) s k = refl
  done-caused (Settle p o) s k = refl
  done-caused e s k = absurd k

  done-leaves : (e : Effect) (s : Slots) → IsDone e → posted c (row e s).slots.promises ≡ posted c s.promises
  done-leaves (Give gift u) s k = (row-leaves c (Give gift u) s tt).0
  done-leaves (Settle p o) s k = (row-leaves c (Settle p o) s tt).0
  done-leaves e s k = absurd k

  give-row : (n : ℕ) (s : Slots) (e : Effect) (es : List Effect) → IsDone e → Post_mode n (posted c s.promises) (e ∷ es)
      → Post_mode n (posted c (row e s).slots.promises) ((row e s).caused ++ es)
  give-row n s e es k m = rw (done-leaves e s k, done-caused e s k) (quiet-mode n (posted c s.promises) e es [] (tt, omega arith) m)

  -- each effect of such a job
  pub posting-row : (n : ℕ) (s : Slots) (x : cross.Slots) (e : Effect) (es : List Effect) → slice_get s.ports c.0 ≡ Some x → Post_mode n (posted c s.promises) (e ∷ es)
      → Post_mode n (posted c (row e s).slots.promises) ((row e s).caused ++ es)
  posting-row n s x (OnPort d operation) es is m =
      by-port c (λ d. Post_mode n (posted c s.promises) (OnPort d operation ∷ es) → let z : Done = row (OnPort d operation) s in Post_mode n (posted c z.slots.promises) (z.caused ++ es)) d
      (λ e m. other-mode n d operation s es e m) (λ m. mine-mode n operation s x es is m) m
  posting-row n s x (OnWritable i (writes.HandOn (ToPort d p))) es is m =
      let e : Effect = OnWritable i (writes.HandOn (ToPort d p)) in
      rw ((row-leaves c e s tt).0) (quiet-mode n (posted c s.promises) e es (row e s).caused (hand-fewer i d p s) m)
  posting-row n s x (Give gift u) es is m = give-row n s (Give gift u) es tt m
  posting-row n s x (Settle p o) es is m = give-row n s (Settle p o) es tt m
  posting-row n s x e es is m = absurd m.0.0
