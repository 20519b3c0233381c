-- Each chunk with which a transform algorithm of the host's is performed is on its way to the host.
use Rattle.ws_laws.proofs.Causes.{row-causes}
use Rattle.std.proofs.Common.{◌≡◌, ℕ, Bool, true, false, nat_eq, if◌then◌else◌, List, [], ◌∷◌, ◌++◌, Option, Some, None, slice_get, refl, sym, ap, ◌∙◌, arith, append_assoc}
use Rattle.ws_value.specs.declared.ids.{PromiseId.{PromiseId}, StreamId.{StreamId}}
use Rattle.ws_value.specs.declared.value.Value.{Value}
use Rattle.ws_steps.specs.declared.calls.{HostCall.TheVariants.{Transform as HostTransform}}
use Rattle.ws_steps.specs.declared.effects.{Effect.{Effect}, Owner.{Owner}, Owner.TheVariants.{Host, HalfOf, BranchOf, EndOf}, Use.{Use}, Use.TheVariants.{Resolve}}
use Rattle.ws_steps.specs.declared.effects.Effect.TheVariants.{Writable as OnWritable, Transform as OnTransform, WriteAlgorithm, CallHost}
use Rattle.ws_steps.specs.declared.transform.{Halves.{Halves}, Kind.{Kind}, Kind.TheVariants.{Identity, Host as HostKind}, Taker.{Taker}, Taker.TheVariants.{ToHost, ToTransform, ToPort}, TransformId.{TransformId}}
use Rattle.ws_steps.specs.declared.transform.TransformOperation.TheVariants as names
use Rattle.ws_steps.specs.declared.writable.{WritableState.{WritableState}, WritableState.TheVariants.{Writable, Erroring, Errored, Closed}, WriteRecord.{WriteRecord}, WriteRecord.TheVariants.{Chunk, InFlight, CloseMark}, WritableOperation.TheVariants.{HandOn}}
use Rattle.ws_steps.specs.Histories.{is_same}
use Rattle.ws_steps.specs.Operations.{writable_operation, transform_operation}
use Rattle.ws_steps.specs.Queues.{first_value}
use Rattle.ws_steps.specs.Slots.{Slots, Done, found, halves_at, owner_at, has_writable, nothing, put_writable, on_transform_at}
use Rattle.ws_steps.specs.Transform as transform
use Rattle.ws_steps.specs.Turns.{row, write_algorithm}
use Rattle.ws_steps.specs.Writable as writable
use Rattle.ws_laws.proofs.Halves.{Halved}
use Rattle.ws_laws.proofs.Lists.{Each}
use Rattle.ws_laws.proofs.Shapes.{StreamShape, ReadableOf, TransformShape, stream_shapes, transform_shapes, transform_shape, map-there}
use Rattle.ws_laws.proofs.Tables.{either, same_id, is_same-refl, eq_numbers, writable_acts}
use Rattle.ws_transform_laws.specs.TransformHistory.{is_same_transform, effect_transformed}
use Rattle.ws_transform_laws.proofs.Halving.{map-from}
use Rattle.ws_transform_laws.proofs.Hearing.{hear}
use Rattle.ws_transform_laws.proofs.Prompt.{IsPlain, Placed, plain-caused}
use Rattle.ws_value.specs.declared.ids.PortId.{PortId}
use Rattle.ws_steps.specs.declared.effects.Effect.TheVariants.{Port as OnPort}
use Rattle.ws_laws.proofs.PortDoes.{PortCauses}

module _ (r : StreamId) where
  -- the chunks that stand on the agenda, of which the host is about to hear
  abbrev pub calling_of : Effect → List Value
  calling_of (CallHost call u) = hear r call
  calling_of _ = []

  abbrev pub calling : List Effect → List Value
  calling [] = []
  calling (e ∷ es) = calling_of e ++ calling es

  pub calling-append : (es fs : List Effect) → calling (es ++ fs) ≡ calling es ++ calling fs
  calling-append [] fs = refl
  calling-append (e ∷ es) fs = ap (λ vs. calling_of e ++ vs) (calling-append es fs) ∙ sym (append_assoc (calling_of e) (calling es) (calling fs))

  plain-calls : (e : Effect) → IsPlain e → calling_of e ≡ []
  plain-calls (CallHost (HostTransform j v) u) p = absurd p
  plain-calls (CallHost _ u) p = refl
  plain-calls _ p = refl

  pub plain-calling : (es : List Effect) → Each IsPlain es → calling es ≡ []
  plain-calling [] p = refl
  plain-calling (e ∷ es) p = rw (plain-calls e p.0, plain-calling es p.1) refl

  -- an effect that carries a chunk no further than to the transform stream

  taken-calls : (j : StreamId) (taker : Taker) (v : Value) → calling (writable.taken_by j v taker ∷ []) ≡ []
  taken-calls j ToHost v = refl
  taken-calls j (ToTransform u d) v = refl
  taken-calls j (ToPort c d) v = refl

  first-calls : (j : StreamId) (taker : Taker) (a : writable.Acts) (first : Option WriteRecord) → a.out.effects ≡ [] → calling (writable.hand_on_first j taker a first).out.effects ≡ []
  first-calls j taker a None none = rw none refl
  first-calls j taker a (Some CloseMark) none = rw none refl
  first-calls j taker a (Some InFlight) none = rw none refl
  first-calls j taker a (Some (Chunk v)) none = rw none (taken-calls j taker v)

  hand_on-calls : (s : Slots) (j : StreamId) (taker : Taker) → calling (row (OnWritable j (HandOn taker)) s).caused ≡ []
  unfolding row writable.hand_on
  hand_on-calls s j taker =
      either (λ (d : Done). calling d.caused ≡ []) (has_writable j s) (put_writable j s (writable_operation j (HandOn taker) (writable_acts j s))) (nothing s)
      (λ there. first-calls j taker (writable_acts j s) (first_value (writable_acts j s).slots.queue) refl) (λ none. refl)

  write-calls : (j : StreamId) (owner : Owner) → calling (write_algorithm j owner) ≡ []
  write-calls j Host = refl
  write-calls j (HalfOf t) = refl
  write-calls j (BranchOf t half) = refl
  write-calls j (EndOf c) = refl

  performs-none : (u : TransformId) (use_ : Use) (a : transform.Acts) → a.out.effects ≡ [] → calling (transform.perform_transform u use_ a).out.effects ≡ []
  performs-none u use_ a none = rw none refl

  sink-calls : (u : TransformId) (use_ : Use) (a : transform.Acts) → a.out.effects ≡ [] → calling (transform.sink_write u use_ a).out.effects ≡ []
  unfolding transform.sink_write
  sink-calls u use_ a none =
      either (λ (b : transform.Acts). calling b.out.effects ≡ []) a.slots.backpressure (transform.wait_for_change u use_ a) (transform.perform_transform u use_ a) (λ e. rw none refl) (λ e. performs-none u use_ a none)

  goes-calls : (u : TransformId) (halves : Halves) (d : PromiseId) (a : transform.Acts) (state : WritableState) → a.out.effects ≡ [] → calling (transform.write_in u halves d a state).out.effects ≡ []
  goes-calls u halves d a Writable none = performs-none u (Resolve d) a none
  goes-calls u halves d a Erroring none = rw none refl
  goes-calls u halves d a Errored none = performs-none u (Resolve d) a none
  goes-calls u halves d a Closed none = performs-none u (Resolve d) a none

  sink-row : (s : Slots) (u : TransformId) (use_ : Use) (o : Option transform.Slots) → calling (on_transform_at (λ halves. transform_operation u halves (names.SinkWrite use_)) u s o).caused ≡ []
  sink-row s u use_ None = refl
  sink-row s u use_ (Some x) = sink-calls u use_ (record { slots = x; out = found s }) refl

  goes-row : (s : Slots) (u : TransformId) (d : PromiseId) (o : Option transform.Slots) → calling (on_transform_at (λ halves. transform_operation u halves (names.WriteGoesOn d)) u s o).caused ≡ []
  unfolding transform.write_goes_on
  goes-row s u d None = refl
  goes-row s u d (Some x) = goes-calls u (halves_at x s) d (record { slots = x; out = found s }) (halves_at x s).writable_state refl

-- whether an effect performs a transform algorithm
abbrev pub IsTransforming : Effect → Type 0
IsTransforming (OnTransform u (names.TransformChunk v d)) = Unit {0}
IsTransforming _ = ⊥

untransformed : (t : TransformId) (e : Effect) (s : Slots) → (IsTransforming e → ⊥) → effect_transformed t e s ≡ []
untransformed t (OnTransform u (names.TransformChunk v d)) s n = absurd (n tt)
untransformed t _ s n = refl

abbrev IsNoCall : StreamId → Effect → Type 0
IsNoCall r e = calling_of r e ≡ []

none-calling : (r : StreamId) (es : List Effect) → Each (IsNoCall r) es → calling r es ≡ []
none-calling r [] p = refl
none-calling r (e ∷ es) p = rw (p.0, none-calling r es p.1) refl

port-calls : (r : StreamId) (c : PortId) (stream : StreamId) (e : Effect) → PortCauses c stream e → IsNoCall r e
port-calls r c stream (CallHost call u) k = absurd k
port-calls r c stream _ k = refl

other-calls : (r : StreamId) (e : Effect) (s : Slots) → (IsTransforming e → ⊥) → calling r (row e s).caused ≡ []
unfolding row
other-calls r (OnWritable j (HandOn taker)) s n = hand_on-calls r s j taker
other-calls r (WriteAlgorithm j) s n = write-calls r j (owner_at j s)
other-calls r (OnTransform u (names.TransformChunk v d)) s n = absurd (n tt)
other-calls r (OnTransform u (names.SinkWrite use_)) s n = sink-row r s u use_ (slice_get s.transforms u.0)
other-calls r (OnTransform u (names.WriteGoesOn d)) s n = goes-row r s u d (slice_get s.transforms u.0)
other-calls r (OnPort c operation) s n = none-calling r (row (OnPort c operation) s).caused (row-causes (IsNoCall r) (OnPort c operation) s (port-calls r c))
other-calls r e s n = plain-calling r (row e s).caused (plain-caused e s refl)

module _ (t : TransformId) (r : StreamId) where
  -- the stream is the readable half of the transform stream, whose algorithms are the host's
  abbrev pub Hosted : Slots → Type 0
  Hosted s = (x : TransformShape) × ((slice_get (transform_shapes s) t.0 ≡ Some x) × ((x.readable ≡ r) × (x.kind ≡ HostKind)))

  -- no other transform stream calls so
  no-other : (s : Slots) (u : TransformId) (y : transform.Slots) → Halved s → Hosted s → slice_get s.transforms u.0 ≡ Some y → is_same_transform t u ≡ false → is_same r y.readable ≡ true → {A : Type 0} → A
  no-other s u y halved h is n same =
      let mine : slice_get (stream_shapes s) r.0 ≡ Some (ReadableOf (HalfOf t)) = rw (← h.1.1.0) (halved.halves t h.0 h.1.0).0 in
      let other = (halved.halves u (transform_shape y) (map-there transform_shape s.transforms u.0 y is)).0 in
      let at : r ≡ y.readable = same_id r y.readable same in
      let both : ◌≡◌ {A = Option StreamShape} (Some (ReadableOf (HalfOf t))) (Some (ReadableOf (HalfOf u))) = sym mine ∙ (ap (λ (k : StreamId). slice_get (stream_shapes s) k.0) at ∙ other) in
      let one : t ≡ u = cc in
      let yes : is_same_transform t u ≡ true = rw (← one) (self t.0) in absurd (cc)
    where
      self : (k : ℕ) → nat_eq k k ≡ true
      self k = grind arith

  identity-calls : (u : TransformId) (v : Value) (d : PromiseId) (a : transform.Acts) (can : Bool) → calling r (transform.transform_identity u v d a can) ≡ []
  identity-calls u v d a true = refl
  identity-calls u v d a false = refl

  chunk-there : (s : Slots) (u : TransformId) (v : Value) (d : PromiseId) (y : transform.Slots) (same : Bool) → same ≡ is_same_transform t u → Halved s → Hosted s → slice_get s.transforms u.0 ≡ Some y
      → (if same then v ∷ [] else []) ≡ calling r (transform.transform_by u (halves_at y s) v d (record { slots = y; out = found s }) y.kind)
  chunk-there s u v d y true e halved h is =
      let at : t.0 ≡ u.0 = eq_numbers t.0 u.0 (sym e) in
      let mine : slice_get (transform_shapes s) t.0 ≡ Some (transform_shape y) = rw at (map-there transform_shape s.transforms u.0 y is) in
      let both : ◌≡◌ {A = Option TransformShape} (Some h.0) (Some (transform_shape y)) = sym h.1.0 ∙ mine in
      let one : h.0 ≡ transform_shape y = cc in
      let kind : y.kind ≡ HostKind = sym (ap (λ (x : TransformShape). x.kind) one) ∙ h.1.1.1 in
      let half : y.readable ≡ r = sym (ap (λ (x : TransformShape). x.readable) one) ∙ h.1.1.0 in
      rw (kind, half, is_same-refl r) refl
  chunk-there s u v d y false e halved h is = by y.kind (is_same r y.readable) refl
    where
      by : (kind : Kind) (here : Bool) → here ≡ is_same r y.readable → [] ≡ calling r (transform.transform_by u (halves_at y s) v d (record { slots = y; out = found s }) kind)
      by HostKind true f = no-other s u y halved h is (sym e) (sym f)
      by HostKind false f = rw (← f) refl
      by Identity here f = sym (identity-calls u v d (record { slots = y; out = found s }) (halves_at y s).can_enqueue)

  chunk-calls : (s : Slots) (u : TransformId) (v : Value) (d : PromiseId) (o : Option transform.Slots) → slice_get s.transforms u.0 ≡ o → Halved s → Hosted s → Placed s (OnTransform u (names.TransformChunk v d))
      → effect_transformed t (OnTransform u (names.TransformChunk v d)) s ≡ calling r (on_transform_at (λ halves. transform_operation u halves (names.TransformChunk v d)) u s o).caused
  unfolding transform.transform_chunk
  chunk-calls s u v d None is halved h p =
      let y = map-from transform_shape s.transforms u.0 p.0 p.1 in
      let no : ◌≡◌ {A = Option transform.Slots} None (Some y.0) = sym is ∙ y.1.0 in cc
  chunk-calls s u v d (Some y) is halved h p = chunk-there s u v d y (is_same_transform t u) refl halved h is

  pub row-calls : (e : Effect) (s : Slots) → Halved s → Hosted s → Placed s e → effect_transformed t e s ≡ calling r (row e s).caused
  unfolding row
  row-calls (OnTransform u (names.TransformChunk v d)) s halved h p = chunk-calls s u v d (slice_get s.transforms u.0) refl halved h p
  row-calls e s halved h p = untransformed t e s (λ u. u) ∙ sym (other-calls r e s (λ u. u))
