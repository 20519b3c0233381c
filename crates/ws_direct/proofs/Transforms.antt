-- An operation of a transform stream is performed, and what it causes is told.
use Rattle.std.proofs.Common.{◌≡◌, ◌∙◌, ℕ, zero, suc, true, false, List, [], ◌∷◌, None, Some, refl, sym, ap, subst, arith}
use Rattle.std.specs.Prelude.{map, slice_get, slice_set, vec_len}
use Rattle.ws_steps.specs.declared.effects.Effect.{Effect}
use Rattle.ws_value.specs.declared.ids.PromiseId.{PromiseId}
use Rattle.ws_value.specs.declared.ids.StreamId.{StreamId}
use Rattle.ws_value.specs.declared.value.Value.{Value}
use Rattle.ws_steps.specs.declared.calls.HostCall.TheVariants.{Transform as HostTransform}
use Rattle.ws_steps.specs.declared.effects.Effect.TheVariants.{CallHost, Readable, Transform, Give, Writable}
use Rattle.ws_steps.specs.declared.effects.Gift.TheVariants.{This}
use Rattle.ws_steps.specs.declared.effects.Use.{Use}
use Rattle.ws_steps.specs.declared.effects.Use.TheVariants.{React, Resolve}
use Rattle.ws_steps.specs.declared.promises.Step.TheVariants.{TransformChanged, Transformed}
use Rattle.ws_steps.specs.declared.transform.Halves.{Halves}
use Rattle.ws_steps.specs.declared.transform.Kind.TheVariants.{Host}
use Rattle.ws_steps.specs.declared.transform.Taker.TheVariants.{ToTransform}
use Rattle.ws_steps.specs.declared.transform.TransformId.{TransformId}
use Rattle.ws_steps.specs.declared.transform.TransformOperation.{TransformOperation}
use Rattle.ws_steps.specs.declared.transform.TransformOperation.TheVariants.{Enqueue, Enqueued, SourcePull, TransformChunk}
use Rattle.ws_steps.specs.declared.readable.ReadableOperation.TheVariants.{Enqueue as EnqueueChunk}
use Rattle.ws_steps.specs.declared.writable.WritableOperation.TheVariants.{HandOn}
use Rattle.ws_steps.specs.declared.writable.WritableState.{WritableState}
use Rattle.ws_steps.specs.Operations.{transform_operation}
use Rattle.ws_steps.specs.Promises.{Table, fresh, next_id}
use Rattle.ws_steps.specs.Places.{tees_keep, requests_alone}
use Rattle.ws_steps.specs.Slots.{Slots, Done, found, halves_at, put_transform}
use Rattle.ws_steps.specs.Transform as transform
use Rattle.ws_steps.specs.Transform.{enqueue, sink_write, source_pull, transform_chunk, write_goes_on}
use Rattle.ws_steps.specs.Writable.{is_erroring}
use Rattle.ws_steps.specs.Turns.{row}
use Rattle.ws_promise.specs.Seen.{Seen}
use Rattle.ws_tables.specs.View.{slots_of, tee_of}
use Rattle.ws_tables.specs.Room.{places_of, IsKept, KeepsRecords}
use Rattle.ws_tables.specs.declared.tables.Tables.{Tables}
use Rattle.ws_performing.specs.Performing.{Performs}
use Rattle.ws_performing.proofs.Records.{TransformTook, transform-row, transform-took}
use Rattle.ws_direct.specs.Directly.{Reaches}
use Rattle.ws_direct.proofs.Reaching.{causing, by-records}

-- a transform stream was put in its place: y is the record afterwards, and p are the promises
pub record PutTransform (t : TransformId) (old z : Tables) (y : transform.Slots) (p : Seen) : Type 0 where
  pub slots : slots_of z ≡ record (slots_of old) { transforms = slice_set old.transforms.items t.0 y; promises = p.table }
  pub others : z.others ≡ old.others
  pub places : places_of z ≡ record (places_of old) { promises = p.room }
  pub records : KeepsRecords old z

module _ (t : TransformId) (operation : TransformOperation) (old z : Tables) (x y : transform.Slots) (p : Seen) (es : List Effect)
    (at : slice_get old.transforms.items t.0 ≡ Some x)
    (did : record { slots = y; out = record { promises = p.table; effects = es } } ≡ transform_operation t (halves_at x (slots_of old)) operation (record { slots = x; out = found (slots_of old) }))
    (room : p.room ≡ old.promises.room) (put : PutTransform t old z y p) where
  left : row (Transform t operation) (slots_of old) ≡ put_transform t (slots_of old) (record { slots = y; out = record { promises = p.table; effects = es } })
  left = transform-row t operation (slots_of old) x (record { slots = y; out = record { promises = p.table; effects = es } }) at did

  performs : Performs (Transform t operation) old (causing es z)
  performs =
      let took = subst (λ (a : transform.Acts). TransformTook operation a.out.effects) (sym did)
      (transform-took t (halves_at x (slots_of old)) operation (record { slots = x; out = found (slots_of old) }) refl) in
      let same = put.records in
      record {
        slots = put.slots ∙ ap (λ (d : Done). d.slots) (sym left);
        caused = ap (λ (d : Done). d.caused) (sym left);
        others = put.others;
        places = put.places ∙ rw room refl;
        lists = rw (same.streams) refl;
        rooms = λ none. rw (same.streams) (λ n h. h);
        grown =
            let q = took.queued in let r = took.requested in
            let g = ap vec_len same.grown in
            let o = ap (λ v. tees_keep requests_alone (map tee_of v.items)) same.tees in
            omega (arith, q, r, g, o);
        members = rw (same.signals) refl;
        full = let m = took.members in let l = ap vec_len same.full in omega (arith, m, l);
      }

  pub transforms-on : IsKept old → Reaches (Transform t operation ∷ []) old es z
  transforms-on kept = by-records (Transform t operation) es old z kept performs put.records

-- SourcePull sets the backpressure, and causes the use of the change promise
pub pull-did : (u : Use) (x y : transform.Slots) (q p : Table) (d : PromiseId) → d ≡ y.change
    → record { slots = y; out = record { promises = p; effects = [] } } ≡ transform.set_backpressure false (record { slots = x; out = record { promises = q; effects = [] } })
    → record { slots = y; out = record { promises = p; effects = Give (This d) u ∷ [] } } ≡ transform.source_pull u (record { slots = x; out = record { promises = q; effects = [] } })
unfolding source_pull
pull-did u x y q p d is did = rw is (ap (λ (b : transform.Acts). transform.causing (Give (This b.slots.change) u ∷ []) b) did)

pub pulls-half : (t : TransformId) (u : Use) (old z : Tables) (x y : transform.Slots) (p : Seen) (d : PromiseId) → slice_get old.transforms.items t.0 ≡ Some x → d ≡ y.change
    → record { slots = y; out = record { promises = p.table; effects = [] } } ≡ transform.set_backpressure false (record { slots = x; out = record { promises = old.promises.table; effects = [] } })
    → p.room ≡ old.promises.room → PutTransform t old z y p → IsKept old → Reaches (Transform t (SourcePull u) ∷ []) old (Give (This d) u ∷ []) z
pulls-half t u old z x y p d at is did room put kept =
    transforms-on t (SourcePull u) old z x y p (Give (This d) u ∷ []) at (pull-did u x y old.promises.table p.table d is did) room put kept

-- operations that leave the transform stream as it was

pub set-same : {X : Type 0} (xs : List X) (i : ℕ) (x : X) → slice_get xs i ≡ Some x → slice_set xs i x ≡ xs
set-same [] i x is = refl
set-same (y ∷ ys) zero x is = let same : y ≡ x = cc in rw same refl
set-same (y ∷ ys) (suc i) x is = ap (λ zs. y ∷ zs) (set-same ys i x is)

pub unchanged-put : (t : TransformId) (old z : Tables) (x : transform.Slots) (p : Seen) → slice_get old.transforms.items t.0 ≡ Some x
    → slots_of z ≡ record (slots_of old) { promises = p.table } → z.others ≡ old.others → places_of z ≡ record (places_of old) { promises = p.room } → KeepsRecords old z
    → PutTransform t old z x p
unchanged-put t old z x p at slots others places records =
    record {
      slots = slots ∙ ap (λ xs. record (slots_of old) { transforms = xs; promises = p.table }) (sym (set-same old.transforms.items t.0 x at));
      others = others;
      places = places;
      records = records;
    }

-- SinkWrite waits for the change of the backpressure, or hands the chunk on

pub waits-did : (t : TransformId) (u : Use) (x : transform.Slots) (q p : Table) (d change : PromiseId) → x.backpressure ≡ true → change ≡ x.change → d ≡ next_id q → p ≡ fresh q
    → record { slots = x; out = record { promises = p; effects = Give (This change) (React (TransformChanged t d) None) ∷ Give (This d) u ∷ [] } }
    ≡ transform.sink_write t u (record { slots = x; out = record { promises = q; effects = [] } })
unfolding sink_write
waits-did t u x q p d change holds is number made = rw (holds, is, number, made) refl

pub hands-did : (t : TransformId) (u : Use) (x : transform.Slots) (q p : Table) (d : PromiseId) (i : StreamId) → x.backpressure ≡ false → i ≡ x.writable → d ≡ next_id q → p ≡ fresh q
    → record { slots = x; out = record { promises = p; effects = Writable i (HandOn (ToTransform t d)) ∷ Give (This d) u ∷ [] } }
    ≡ transform.sink_write t u (record { slots = x; out = record { promises = q; effects = [] } })
unfolding sink_write
hands-did t u x q p d i fails half number made = rw (fails, half, number, made) refl

goes-in : (t : TransformId) (halves : Halves) (d : PromiseId) (a : transform.Acts) (state : WritableState) → is_erroring state ≡ false
    → transform.write_in t halves d a state ≡ transform.perform_transform t (Resolve d) a
goes-in t halves d a state fails = grind (arith, fails)

-- WriteGoesOn hands it on, where the writable half isn't erroring
pub goes-did : (t : TransformId) (halves : Halves) (d : PromiseId) (x : transform.Slots) (q p : Table) (own : PromiseId) (i : StreamId) → is_erroring halves.writable_state ≡ false → i ≡ x.writable → own ≡ next_id q → p ≡ fresh q
    → record { slots = x; out = record { promises = p; effects = Writable i (HandOn (ToTransform t own)) ∷ Give (This own) (Resolve d) ∷ [] } }
    ≡ transform.write_goes_on t halves d (record { slots = x; out = record { promises = q; effects = [] } })
unfolding write_goes_on
goes-did t halves d x q p own i fails half number made = rw (half, number, made) (sym (goes-in t halves d (record { slots = x; out = record { promises = q; effects = [] } }) halves.writable_state fails))

-- TransformChunk calls the host's transform algorithm
pub calls-did : (t : TransformId) (halves : Halves) (v : Value) (d : PromiseId) (x : transform.Slots) (q : Table) → x.kind ≡ Host
    → record { slots = x; out = record { promises = q; effects = CallHost (HostTransform x.readable v) (React (Transformed t) (Some d)) ∷ [] } }
    ≡ transform.transform_chunk t halves v d (record { slots = x; out = record { promises = q; effects = [] } })
unfolding transform_chunk
calls-did t halves v d x q is = rw is refl

pub calls-on : (t : TransformId) (v : Value) (d : PromiseId) (old : Tables) (x : transform.Slots) (readable : StreamId) → slice_get old.transforms.items t.0 ≡ Some x → x.kind ≡ Host → readable ≡ x.readable → IsKept old
    → Reaches (Transform t (TransformChunk v d) ∷ []) old (CallHost (HostTransform readable v) (React (Transformed t) (Some d)) ∷ []) old
calls-on t v d old x readable at is number kept =
    rw number
    (transforms-on t (TransformChunk v d) old old x x old.promises (CallHost (HostTransform x.readable v) (React (Transformed t) (Some d)) ∷ []) at
    (calls-did t (halves_at x (slots_of old)) v d x old.promises.table is) refl
    (unchanged-put t old old x old.promises at refl refl refl (record { streams = refl; grown = refl; waiting = refl; pipes = refl; signals = refl; full = refl; aborts = refl; tees = refl; uncopied = refl }))
    kept)

-- only a promise is made
pub fresh-on : (t : TransformId) (operation : TransformOperation) (old z : Tables) (x : transform.Slots) (p : Seen) (es : List Effect) → slice_get old.transforms.items t.0 ≡ Some x
    → record { slots = x; out = record { promises = p.table; effects = es } }
    ≡ transform_operation t (halves_at x (slots_of old)) operation (record { slots = x; out = record { promises = old.promises.table; effects = [] } })
    → p ≡ record old.promises { table = fresh old.promises.table } → z ≡ record old { promises = p } → IsKept old → Reaches (Transform t operation ∷ []) old es z
fresh-on t operation old z x p es at did made is kept =
    subst (λ (b : Tables). Reaches (Transform t operation ∷ []) old es b) (sym is)
    (transforms-on t operation old (record old { promises = p }) x x p es at did (ap (λ (q : Seen). q.room) made)
    (unchanged-put t old (record old { promises = p }) x p at refl refl refl
    (record { streams = refl; grown = refl; waiting = refl; pipes = refl; signals = refl; full = refl; aborts = refl; tees = refl; uncopied = refl }))
    kept)

-- the readable half takes the chunk, and then the backpressure is looked at

enqueue-did : (t : TransformId) (v : Value) (x : transform.Slots) (q : Table) (i : StreamId) → i ≡ x.readable
    → record { slots = x; out = record { promises = q; effects = Readable i (EnqueueChunk v) ∷ Transform t Enqueued ∷ [] } }
    ≡ transform.enqueue t v (record { slots = x; out = record { promises = q; effects = [] } })
unfolding enqueue
enqueue-did t v x q i half = rw half refl

pub enqueue-on : (t : TransformId) (v : Value) (old : Tables) (x : transform.Slots) (i : StreamId) → slice_get old.transforms.items t.0 ≡ Some x → i ≡ x.readable → IsKept old
    → Reaches (Transform t (Enqueue v) ∷ []) old (Readable i (EnqueueChunk v) ∷ Transform t Enqueued ∷ []) old
enqueue-on t v old x i at half kept =
    transforms-on t (Enqueue v) old old x x old.promises (Readable i (EnqueueChunk v) ∷ Transform t Enqueued ∷ []) at (enqueue-did t v x old.promises.table i half) refl
    (unchanged-put t old old x old.promises at refl refl refl (record { streams = refl; grown = refl; waiting = refl; pipes = refl; signals = refl; full = refl; aborts = refl; tees = refl; uncopied = refl }))
    kept
