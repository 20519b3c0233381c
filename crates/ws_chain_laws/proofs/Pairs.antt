-- The streams of segments are made one after another: pairs of one that gives chunks and the next that takes them, which may be linked. Link k goes from
-- stream 2k to stream 2k + 1; by what chunks come to the one, and by what the host hears of the other, is told by k.
use Rattle.std.proofs.Common.{◌≡◌, ℕ, zero, suc, ◌+◌, ◌*◌, ◌≤◌, List, [], ◌∷◌, ◌++◌, length, map, Some, slice_get, refl, sym, ap, ◌∙◌}
use Rattle.ws_value.specs.declared.ids.StreamId.{StreamId}
use Rattle.ws_steps.specs.Run.{Entry, run, step}
use Rattle.ws_steps.specs.Slots.{Slots, Done, owner_at, as_transform}
use Rattle.ws_steps.specs.Turns.{performed}
use Rattle.ws_steps.specs.Transform as transform
use Rattle.ws_laws.proofs.Apart.{row-locks}
use Rattle.ws_laws.proofs.Ended.{port_shapes, row-port_shapes}
use Rattle.ws_laws.proofs.Shapes.{TransformShape, transform_shape, stream_shapes, transform_shapes, row-owner, row-stream_shapes, row-transform_shapes}
use Rattle.ws_room_laws.proofs.Turns.{performed-kept}
use Rattle.ws_link_laws.specs.Link.{Ear, Giver, ear_at, giver_at}
use Rattle.ws_link_laws.specs.Sound.{IsFree}
use Rattle.ws_link_laws.proofs.Hosts.{row-giver}
use Rattle.ws_link_laws.proofs.Pipelines.{Opened}
use Rattle.ws_wire_laws.specs.Segments.{Next}
use Rattle.ws_chain_laws.specs.Chain.{source_of, dest_of}
use Rattle.ws_chain_laws.proofs.Young.{Young}

-- what the performing of effects keeps

pub performed-owner : (i : StreamId) (d : Done) → owner_at i (performed d) ≡ owner_at i d.slots
performed-owner i d = performed-kept (λ ms s es. owner_at i s ≡ owner_at i d.slots) (λ ms s e es h. row-owner i e s ∙ h) d refl

pub performed-giver : (i : StreamId) (d : Done) → giver_at i (performed d) ≡ giver_at i d.slots
performed-giver i d = performed-kept (λ ms s es. giver_at i s ≡ giver_at i d.slots) (λ ms s e es h. row-giver i e s ∙ h) d refl

pub performed-streams : (d : Done) → stream_shapes (performed d) ≡ stream_shapes d.slots
performed-streams d = performed-kept (λ ms s es. stream_shapes s ≡ stream_shapes d.slots) (λ ms s e es h. row-stream_shapes e s ∙ h) d refl

pub performed-transforms : (d : Done) → transform_shapes (performed d) ≡ transform_shapes d.slots
performed-transforms d = performed-kept (λ ms s es. transform_shapes s ≡ transform_shapes d.slots) (λ ms s e es h. row-transform_shapes e s ∙ h) d refl

pub performed-ports : (d : Done) → port_shapes (performed d) ≡ port_shapes d.slots
performed-ports d = performed-kept (λ ms s es. port_shapes s ≡ port_shapes d.slots) (λ ms s e es h. row-port_shapes e s ∙ h) d refl

length-map : {X Y : Type 0} (f : X → Y) (xs : List X) → length (map f xs) ≡ length xs
length-map f [] = refl
length-map f (x ∷ xs) = ap suc (length-map f xs)

pub length-same : {X Y : Type 0} (f : X → Y) (xs ys : List X) → map f xs ≡ map f ys → length xs ≡ length ys
length-same f xs ys e = sym (length-map f xs) ∙ (ap length e ∙ length-map f ys)

pub readable-told : (xs : List transform.Slots) (n : ℕ) (x : TransformShape) → slice_get (map transform_shape xs) n ≡ Some x → (as_transform (slice_get xs n)).readable ≡ x.readable
readable-told [] n x e = cc
readable-told (y ∷ ys) zero x e = let h : transform_shape y ≡ x = cc in ap (λ (z : TransformShape). z.readable) h
readable-told (y ∷ ys) (suc n) x e = readable-told ys n x e

pub performed-locks : (d : Done) → (performed d).locks ≡ d.slots.locks
performed-locks d = performed-kept (λ ms s es. s.locks ≡ d.slots.locks) (λ ms s e es h. row-locks e s ∙ h) d refl

pub none-of : {A : Type 0} (xs : List A) → length xs ≡ 0 → xs ≡ []
none-of [] e = refl
none-of (x ∷ xs) e = cc

pub run-append : (xs ys : List Entry) (s : Slots) → run (xs ++ ys) s ≡ run ys (run xs s)
run-append [] ys s = refl
run-append (x ∷ xs) ys s = run-append xs ys (step s x)

-- nobody has any stream
pub record Untaken (s : Slots) : Type 0 where
  pub locks : s.locks ≡ []
  pub pipes : s.pipes ≡ []
  pub tees : s.tees ≡ []

-- all pairs are whole
pub record Pairs (g : ℕ → Giver) (h : ℕ → Ear) (n : Next) (s : Slots) : Type 0 where
  pub streams : length s.streams ≡ 2 * n.link
  pub transforms : length s.transforms ≡ n.transform
  pub ports : length s.ports ≡ n.port
  pub free : (k : ℕ) → suc k ≤ n.link → IsFree (source_of k) (dest_of k) s
  pub gives : (k : ℕ) → suc k ≤ n.link → giver_at (source_of k) s ≡ g k
  pub hears : (k : ℕ) → suc k ≤ n.link → ear_at (dest_of k) s ≡ h k
  pub untaken : Untaken s
  pub young : Young 0 0 s

-- of the last only that is made which gives chunks
pub record Half (g : ℕ → Giver) (h : ℕ → Ear) (n : Next) (s : Slots) : Type 0 where
  pub opened : Opened (source_of n.link) s
  pub streams : length s.streams ≡ 2 * n.link + 1
  pub transforms : length s.transforms ≡ n.transform
  pub ports : length s.ports ≡ n.port
  pub free : (k : ℕ) → suc k ≤ n.link → IsFree (source_of k) (dest_of k) s
  pub gives : (k : ℕ) → k ≤ n.link → giver_at (source_of k) s ≡ g k
  pub hears : (k : ℕ) → suc k ≤ n.link → ear_at (dest_of k) s ≡ h k
  pub young : Young 0 0 s
