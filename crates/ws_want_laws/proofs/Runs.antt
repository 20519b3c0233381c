-- Over every run in which the host enqueued only while no write waited.
use Rattle.std.proofs.Common.{◌≡◌, ℕ, Bool, true, false, if◌then◌else◌, nat_eq, List, [], ◌∷◌, ◌++◌, Some, slice_get, refl, sym, ap, ◌∙◌, arith}
use Rattle.ws_steps.specs.declared.effects.Owner.TheVariants.{EndOf}
use Rattle.ws_value.specs.declared.{ids.PromiseId.{PromiseId}, ids.StreamId.{StreamId}, value.Value.{Value}}
use Rattle.ws_steps.specs.declared.calls.{Call.{Call}, Call.TheVariants.{Enqueue as EnqueueCall}}
use Rattle.ws_steps.specs.declared.effects.{Effect.{Effect}, Owner.{Owner}, Owner.TheVariants.{Host, HalfOf, BranchOf}}
use Rattle.ws_steps.specs.declared.effects.Effect.TheVariants.{Readable as OnReadable, Transform as OnTransform}
use Rattle.ws_steps.specs.declared.promises.Job.{Job}
use Rattle.ws_steps.specs.declared.readable.ReadableOperation.TheVariants.{Enqueue}
use Rattle.ws_steps.specs.declared.transform.TransformId.{TransformId}
use Rattle.ws_steps.specs.declared.transform.TransformOperation.TheVariants as names_of
use Rattle.ws_steps.specs.Begun as replying
use Rattle.ws_steps.specs.ControllerCalls as controller_calls
use Rattle.ws_steps.specs.Begun.{Begun, unsupported}
use Rattle.ws_steps.specs.Calls.{begin}
use Rattle.ws_steps.specs.Histories.{is_same}
use Rattle.ws_steps.specs.Jobs.{job_effects}
use Rattle.ws_steps.specs.Promises.{next_job, after_next_job, watch}
use Rattle.ws_steps.specs.Readable.{can_close_or_enqueue}
use Rattle.ws_steps.specs.ReadableHistory.{accepted_by}
use Rattle.ws_steps.specs.Run.{Called, older, after_event}
use Rattle.ws_steps.specs.Slots.{Slots, ReadableStream, empty, has_readable, readable_at, with_promises}
use Rattle.ws_steps.specs.Transform as transform
use Rattle.ws_steps.specs.Turns.{row}
use Rattle.ws_laws.proofs.Begin.{begin-makes, IsFirst, Enqueues, begin-first}
use Rattle.ws_laws.proofs.EachCall.{each_call}
use Rattle.ws_laws.proofs.Halves.{Halved, get-stays}
use Rattle.ws_laws.proofs.Lists.{Each}
use Rattle.ws_laws.proofs.Shapes.{ReadableOf, TransformShape, stream_shape, stream_shapes, transform_shapes, transform_shape, map-there}
use Rattle.ws_laws.proofs.Tables.{either, is_same-refl, eq_numbers, readable_there}
use Rattle.ws_transform_laws.specs.TransformHistory.{is_same_transform}
use Rattle.ws_transform_laws.proofs.Halving.{map-from}
use Rattle.ws_transform_laws.proofs.Waited.{all_waiting}
use Rattle.ws_want_laws.specs.Waits.{write_waits, step_meanwhile}
use Rattle.ws_want_laws.proofs.Bound.{one}
use Rattle.ws_want_laws.proofs.Freed.{Freed, row-freed, call-freed, job-freed, answered-freed, older-freed, heard-freed, none-freed}
use Rattle.ws_want_laws.proofs.Held.{Held, all-held, row-held, call-held, job-held, answered-held, older-held, heard-held, none-held}
use Rattle.ws_want_laws.proofs.Holding.{IsHalf, Few}
use Rattle.ws_want_laws.proofs.Results.{in_hand}
use Rattle.ws_want_laws.proofs.Waitings.{waits-none}
use Rattle.ws_want_laws.proofs.Zone.{Zone, Outside, Inside, IsChunk, marks, marks_in}
use Rattle.ws_steps.specs.declared.effects.Effect.TheVariants.{Byte}
use Rattle.ws_steps.specs.declared.byte.ByteOperation.TheVariants.{Enqueue as EnqueueBytes}
use Rattle.ws_steps.specs.Slots.{has_byte, byte_at}
use Rattle.ws_steps.specs.Queues.{is_empty}
use Rattle.ws_steps.specs.Bytes as byte
use Rattle.ws_value.specs.declared.value.Value.TheVariants.{Plain as PlainValue, Bytes}
use Rattle.std.specs.Prelude.{not, ◌&&◌}

self : (k : ℕ) → nat_eq k k ≡ true
self k = grind arith

module _ (t : TransformId) (i r : StreamId) where
  -- the two halves, where the transform stream is made
  abbrev pub IsRight : Slots → Type 0
  IsRight s = (x : TransformShape) → slice_get (transform_shapes s) t.0 ≡ Some x → (x.writable ≡ i) × (x.readable ≡ r)

  half : (s : Slots) → IsRight s → IsHalf t i s
  half s h x at = (h x at).0

  -- what holds at each moment
  pub record Holds (s : Slots) (es : List Effect) : Type 0 where
    pub freed : Freed t s es
    pub held : Held t i s es

  -- where a chunk is transformed no write waits
  chunk-none : (s : Slots) (e : Effect) (es : List Effect) → Few t i s (e ∷ es) → IsChunk t e ≡ true → all_waiting t s ≡ 0
  chunk-none s (OnTransform u (names_of.TransformChunk v d)) es k e =
      let a = all-held t i s in let b : in_hand t one (OnTransform u (names_of.TransformChunk v d)) ≡ 1 = rw e refl in omega arith
  chunk-none s e es k f = absurd (cc)

  pub row-holds : (s : Slots) (e : Effect) (es : List Effect) → IsRight s → Holds s (e ∷ es) → Holds (row e s).slots ((row e s).caused ++ es)
  row-holds s e es h k = record { freed = row-freed t s e es (k.held.straight.known i).1.halved (chunk-none s e es k.held.few) k.freed; held = row-held t i s e es (half s h) k.held }

  -- the beginning of a call

  -- none tells of an enqueue at once
  abbrev IsUntold : Effect → Type 0
  IsUntold (OnTransform u names_of.Enqueued) = ⊥
  IsUntold _ = Unit {0}

  call-untold : (c : Call) (s : Slots) → Each IsUntold (begin c s).done.caused
  call-untold c s = each_call (λ (b : Begun). Each IsUntold b.done.caused) c s (grind arith)

  first-unmarked : (E : StreamId → Value → Type 0) → ((j : StreamId) (v : Value) → E j v → ⊥) → (es : List Effect) → Each (IsFirst E) es
      → Each IsUntold es → marks_in t es ≡ 0
  first-unmarked E none [] f u = refl
  first-unmarked E none (e ∷ es) f u = let a = first-unmarked E none es f.1 u.1 in let b = by e f.0 u.0 in omega arith
    where
      by : (e : Effect) → IsFirst E e → IsUntold e → marks t e ≡ 0
      by (OnTransform u (names_of.Enqueue v)) f n = absurd (none f.0 v f.1)
      by (OnTransform u names_of.Enqueued) f n = absurd n
      by _ f n = refl

  half-read : (s : Slots) (j : StreamId) → Halved s → IsRight s → has_readable j s ≡ true → (readable_at j s).owner ≡ HalfOf t → j ≡ r
  half-read s j halved h there is =
      let at : slice_get (stream_shapes s) j.0 ≡ Some (ReadableOf (HalfOf t)) =
      map-there stream_shape s.streams j.0 (ReadableStream (readable_at j s)) (readable_there (slice_get s.streams j.0) there) ∙ ap (λ (o : Owner). Some (ReadableOf o)) is in
      let k = halved.readable j t at in sym k.1.1 ∙ (h k.0 k.1.0).1

  -- what the host enqueues meanwhile
  abbrev Meanwhile : Call → Slots → Begun → List Value
  Meanwhile c s b = if write_waits t s then accepted_by r c b.reply else []

  none-meanwhile : (b : Bool) (v : Value) → (if b then v ∷ [] else []) ≡ [] → b ≡ false
  none-meanwhile false v e = refl
  none-meanwhile true v e = cc

  enters-zone : (s : Slots) (j : StreamId) (v : Value) (u : TransformId) → Halved s → IsRight s → has_readable j s ≡ true
      → (readable_at j s).owner ≡ HalfOf u → (if write_waits t s then (if is_same r j then v ∷ [] else []) else []) ≡ []
      → Zone t s (OnTransform u (names_of.Enqueue v) ∷ [])
  enters-zone s j v u halved h there is none = by (is_same_transform t u) refl
    where
      by : (same : Bool) → same ≡ is_same_transform t u → Zone t s (OnTransform u (names_of.Enqueue v) ∷ [])
      by false e = Outside (rw (← e) refl)
      by true e =
          let one : t ≡ u = ap (λ (n : ℕ). record { 0 = n }) (eq_numbers t.0 u.0 (sym e)) in
          let at : j ≡ r = half-read s j halved h there (is ∙ ap HalfOf (sym one)) in
          let same : is_same r j ≡ true = rw at (is_same-refl r) in
          let none : (if write_waits t s then v ∷ [] else []) ≡ [] = rw same at none in
          Inside (OnTransform u (names_of.Enqueue v) ∷ []) [] refl (tt, tt) (waits-none t s (none-meanwhile (write_waits t s) v none)) refl

  by-owner : (s : Slots) (j : StreamId) (v : Value) (owner : Owner) → Halved s → IsRight s → has_readable j s ≡ true → (readable_at j s).owner ≡ owner
      → let b : Begun = controller_calls.enqueue_by v j s owner in Meanwhile (EnqueueCall j v) s b ≡ [] → Zone t b.done.slots b.done.caused
  by-owner s j v Host halved h there is none =
      either (λ (b : Begun). Meanwhile (EnqueueCall j v) s b ≡ [] → Zone t b.done.slots b.done.caused) (can_close_or_enqueue (readable_at j s)) (replying.does (OnReadable j (Enqueue v) ∷ []) s) (replying.throws_type_error s)
      (λ can n. Outside refl) (λ cannot n. Outside refl) none
  by-owner s j v (HalfOf u) halved h there is none =
      either (λ (b : Begun). Meanwhile (EnqueueCall j v) s b ≡ [] → Zone t b.done.slots b.done.caused) (can_close_or_enqueue (readable_at j s)) (replying.does (OnTransform u (names_of.Enqueue v) ∷ []) s) (replying.throws_type_error s)
      (λ can n. enters-zone s j v u halved h there is n) (λ cannot n. Outside refl) none
  by-owner s j v (BranchOf u half) halved h there is none = Outside refl
  by-owner s j v (EndOf c) halved h there is none = Outside refl

  -- an enqueue of bytes tells no transform stream
  bytes-zone : (s : Slots) (j : StreamId) (v : Value) → let b : Begun = controller_calls.enqueue_bytes j s v in Zone t b.done.slots b.done.caused
  bytes-zone s j (PlainValue v) = Outside refl
  bytes-zone s j (Bytes b) =
      either (λ (x : Begun). Zone t x.done.slots x.done.caused) (not (is_empty b) && byte.can_take (byte_at j s)) (replying.does (Byte j (EnqueueBytes b) ∷ []) s) (replying.throws_type_error s)
      (λ can. Outside refl) (λ cannot. Outside refl)

  call-zone : (s : Slots) (c : Call) → Halved s → IsRight s → step_meanwhile t r s (Called c) ≡ [] → Zone t (begin c s).done.slots (begin c s).done.caused
  unfolding begin
  call-zone s (EnqueueCall j v) halved h none =
      either (λ (b : Begun). Meanwhile (EnqueueCall j v) s b ≡ [] → Zone t b.done.slots b.done.caused) (has_byte j s) (controller_calls.enqueue_bytes j s v) (replying.for_readable j (controller_calls.enqueue v j) s)
      (λ is n. bytes-zone s j v)
      (λ isnt. either (λ (b : Begun). Meanwhile (EnqueueCall j v) s b ≡ [] → Zone t b.done.slots b.done.caused) (has_readable j s) (controller_calls.enqueue v j s) (unsupported s)
      (λ there n. by-owner s j v (readable_at j s).owner halved h there refl n) (λ absent n. Outside refl)) none
  call-zone s c halved h none = Outside (first-unmarked (Enqueues c) (λ j v e. cc) (begin c s).done.caused (begin-first c s) (call-untold c s))

  -- a transform stream that is there stays
  call-stays : (c : Call) (s : Slots) (x : transform.Slots) → slice_get s.transforms t.0 ≡ Some x → slice_get (begin c s).done.slots.transforms t.0 ≡ Some x
  call-stays c s x at = begin-makes (λ z. slice_get z.transforms t.0 ≡ Some x) (record {
    promise = λ z k. k;
    locks = λ z ls k. k;
    hosts = λ z hs k. k;
    pipe = λ z source dest prevent signal promise k. k;
    signal = λ z k. k;
    transform = λ z kind w q change k. get-stays z.transforms _ t.0 x k;
    tee = λ z source first second cancel k. k;
    port = λ z side stream backpressure k. k;
    bytes = λ z mark auto k. k;
    byob_requests = λ z hs k. k;
    readable = λ z o mark size k. k;
    writable = λ z o mark size k. k;
  }) c s at

  pub call-right : (c : Call) (s : Slots) → IsRight (begin c s).done.slots → IsRight s
  call-right c s h x at =
      let y = map-from transform_shape s.transforms t.0 x at in
      let there = map-there transform_shape (begin c s).done.slots.transforms t.0 y.0 (call-stays c s y.0 y.1.0) in
      h x (there ∙ ap (λ (z : TransformShape). Some z) y.1.1)

  pub call-holds : (s : Slots) (c : Call) → IsRight s → step_meanwhile t r s (Called c) ≡ [] → Holds s [] → Holds (begin c s).done.slots (begin c s).done.caused
  call-holds s c h none k =
      record { freed = call-freed t s c (call-zone s c (k.held.straight.known i).1.halved h none) k.freed; held = call-held t i s c k.held }

  pub job-holds : (s : Slots) (job : Job) → next_job s.promises ≡ Some job → Holds s [] → Holds (with_promises (after_next_job s.promises) s) (job_effects job)
  job-holds s job e k = record { freed = job-freed t s job e k.freed; held = job-held t i s job e k.held }

  pub answered-holds : (s : Slots) (p : PromiseId) → Holds s [] → Holds (with_promises (watch p s.promises) s) []
  answered-holds s p k = record { freed = answered-freed t s p k.freed; held = answered-held t i s p k.held }

  pub older-holds : (s : Slots) → Holds s [] → Holds (older s) []
  older-holds s k = record { freed = older-freed t s k.freed; held = older-held t i s k.held }

  pub heard-holds : (s : Slots) → Holds s [] → Holds (after_event s) []
  heard-holds s k = record { freed = heard-freed t s k.freed; held = heard-held t i s k.held }

  pub none-holds : Holds empty []
  none-holds = record { freed = none-freed t; held = none-held t i }
