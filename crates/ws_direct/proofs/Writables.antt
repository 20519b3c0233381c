-- An operation of a writable stream is performed, and what it causes is told.
use Rattle.std.proofs.Common.{◌≡◌, ◌<◌, ◌∙◌, ◌+◌, ◌-◌, Bool, true, false, not, ◌&&◌, List, [], ◌∷◌, length, map, Option, None, Some, refl, sym, ap, subst, arith}
use Rattle.std.specs.Prelude.{slice_get, slice_set, nat_le}
use Rattle.ws_value.specs.declared.ids.StreamId.{StreamId}
use Rattle.ws_value.specs.declared.value.Value.{Value}
use Rattle.ws_steps.specs.declared.effects.Effect.{Effect}
use Rattle.ws_steps.specs.declared.effects.Effect.TheVariants.{Writable as WritableEffect, WriteAlgorithm}
use Rattle.ws_steps.specs.declared.queue.Queued.{Queued}
use Rattle.ws_steps.specs.declared.transform.Taker.{Taker}
use Rattle.ws_steps.specs.declared.writable.WriteRecord.{WriteRecord}
use Rattle.ws_steps.specs.declared.writable.WriteRecord.TheVariants.{Chunk, InFlight, CloseMark}
use Rattle.ws_steps.specs.declared.writable.WritableOperation.{WritableOperation}
use Rattle.ws_steps.specs.declared.writable.WritableOperation.TheVariants.{HandOn}
use Rattle.ws_steps.specs.Operations.{writable_operation}
use Rattle.ws_steps.specs.Places.{prices_of, writable_price, queued_alone, requests_alone}
use Rattle.ws_steps.specs.Promises.{Table}
use Rattle.ws_steps.specs.Slots.{Slots, found, on_writable}
use Rattle.ws_steps.specs.Turns.{row}
use Rattle.ws_steps.specs.Queues.{first_value, with_first_value}
use Rattle.ws_steps.specs.Writable as writable
use Rattle.ws_steps.specs.Writable.{hand_on}
use Rattle.ws_steps.proofs.StreamLaws.{on_writable-at}
use Rattle.ws_promise.specs.Seen.{Seen, SeenAgenda}
use Rattle.ws_queue.specs.Seen.{Lists}
use Rattle.ws_writable.specs.Seen.{SeenWritable, handing, has_room, writing_where}
use Rattle.ws_tables.specs.View.{slots_of, stream_of}
use Rattle.ws_tables.specs.Room.{two_lists, IsKept}
use Rattle.ws_tables.specs.declared.tables.Stream.TheVariants.{Writable}
use Rattle.ws_tables.specs.declared.tables.Tables.{Tables}
use Rattle.ws_performing.proofs.Streams.{WritableTook, writable-took, has-both, both-have, paid, cover}
use Rattle.ws_direct.specs.Directly.{Reaches, handed}
use Rattle.ws_direct.proofs.Streams.{PutStream, stream-on, within-some, index-some, grows-by, unnoted}

writable-row : (i : StreamId) (operation : WritableOperation) (s : Slots) → row (WritableEffect i operation) s ≡ on_writable (writable_operation i operation) i s
unfolding row
writable-row i operation s = refl

module _ (i : StreamId) (operation : WritableOperation) (old z : Tables) (x y : SeenWritable) (p : Seen) (es : List Effect)
    (at : slice_get old.streams.items i.0 ≡ Some (Writable x))
    (did : record { slots = y.slots; out = record { promises = p.table; effects = es } }
    ≡ writable_operation i operation (record { slots = x.slots; out = found (slots_of old) }))
    (room : y.room ≡ x.room) (places : p.room ≡ old.promises.room) (waits : z.waiting ≡ old.waiting) where
  took : WritableTook operation (record { slots = x.slots; out = found (slots_of old) }) (record { slots = y.slots; out = record { promises = p.table; effects = es } })
  took =
      subst (WritableTook operation (record { slots = x.slots; out = found (slots_of old) })) (sym did)
      (writable-took i operation (record { slots = x.slots; out = found (slots_of old) }) refl)

  row-is : row (WritableEffect i operation) (slots_of old)
      ≡ record { slots = record (slots_of old) { streams = map stream_of (slice_set old.streams.items i.0 (Writable y)); promises = p.table }; caused = es }
  row-is =
      writable-row i operation (slots_of old)
      ∙ on_writable-at stream_of (writable_operation i operation) i (slots_of old) old.streams.items (Writable x) (Writable y) x.slots
      (record { slots = y.slots; out = record { promises = p.table; effects = es } }) refl (within-some old.streams.items i.0 (Writable x) at)
      (index-some old.streams.items i.0 (Writable x) at) refl did refl

  paid-for : has_room 4 x ≡ true → has_room 4 y ≡ false
      → prices_of queued_alone es + prices_of requests_alone es < writable_price queued_alone operation + writable_price requests_alone operation
  paid-for had has =
      paid (length x.slots.queue) (length y.slots.queue) (length x.slots.write_requests) (length y.slots.write_requests) (writable_price queued_alone operation) (writable_price requests_alone operation)
      (prices_of queued_alone es) (prices_of requests_alone es) x.room.queue x.room.requests took.queued took.requested had
      (ap (λ (l : Lists). nat_le 4 (l.queue - length y.slots.queue) && nat_le 4 (l.requests - length y.slots.write_requests)) (sym room) ∙ has)

  pub writable-on : (had has : Bool) → had ≡ has_room 4 x → has ≡ has_room 4 y → PutStream i old z (Writable y) p (had && not has) → IsKept old
      → Reaches (WritableEffect i operation ∷ []) old es z
  writable-on had has had-is has-is put was =
      let t = took in
      stream-on (WritableEffect i operation) i old z (Writable x) (Writable y) p es (had && not has) at row-is (ap two_lists room) (λ n h. tt) places
      (grows-by (prices_of queued_alone es) (prices_of requests_alone es) (writable_price queued_alone operation) (writable_price requests_alone operation) had has t.queued.caused t.requested.caused
      (λ a b. paid-for (sym had-is ∙ a) (sym has-is ∙ b)))
      (let m = t.members in omega (arith, m))
      (λ covered.
      cover old.grown.items i (Writable y) had has (Writable x) old.streams.items covered at
      (λ h. had-is ∙ both-have (length x.slots.queue) x.room.queue (length x.slots.write_requests) x.room.requests h.0.queue h.0.requests)
      (λ h.
      let both = has-both (length y.slots.queue) y.room.queue (length y.slots.write_requests) y.room.requests (sym has-is ∙ h) in
      (record { queue = both.0; requests = both.1; descriptors = tt }, tt)))
      (ap (λ n. n + 0) waits) put was

  -- a place that is to be noted is paid for
  pub may-note : (had has : Bool) → had ≡ has_room 4 x → has ≡ has_room 4 y → had ≡ true → has ≡ false
      → prices_of queued_alone es + prices_of requests_alone es < writable_price queued_alone operation + writable_price requests_alone operation
  may-note had has had-is has-is a b = paid-for (sym had-is ∙ a) (sym has-is ∙ b)

-- what is told of the write algorithm

told-true : (me : StreamId) (s : writable.Slots) (t : Table) (a : writable.Acts) (es : List Effect) → a ≡ writing_where true me (record { slots = s; out = record { promises = t; effects = es } }) → es ≡ []
    → record { slots = s; out = record { promises = t; effects = WriteAlgorithm me ∷ [] } } ≡ a
told-true me s t a es is none = rw none at (sym is)

-- where the write algorithm is to be performed, it is all that is caused
pub writes-did : (me : StreamId) (operation : WritableOperation) (old : Tables) (x y : SeenWritable) (p : Seen) (fx : SeenAgenda) (writes : Bool) → old.caused.effects ≡ []
    → writable_operation me operation (record { slots = x.slots; out = record { promises = old.promises.table; effects = old.caused.effects } })
    ≡ writing_where writes me (record { slots = y.slots; out = record { promises = p.table; effects = fx.effects } })
    → writes ≡ true → fx ≡ old.caused
    → record { slots = y.slots; out = record { promises = p.table; effects = WriteAlgorithm me ∷ [] } } ≡ writable_operation me operation (record { slots = x.slots; out = found (slots_of old) })
writes-did me operation old x y p fx writes quiet acted holds same =
    let none : fx.effects ≡ [] = ap (λ (a : SeenAgenda). a.effects) same ∙ quiet in
    told-true me y.slots p.table _ fx.effects
    (ap (λ (es : List Effect). writable_operation me operation (record { slots = x.slots; out = record { promises = old.promises.table; effects = es } })) (sym quiet)
    ∙ (acted ∙ ap (λ b. writing_where b me (record { slots = y.slots; out = record { promises = p.table; effects = fx.effects } })) holds)) none

-- and where it isn't, that is caused which was pushed
pub rests-did : (me : StreamId) (operation : WritableOperation) (old : Tables) (x y : SeenWritable) (p : Seen) (fx : SeenAgenda) (writes : Bool) → old.caused.effects ≡ []
    → writable_operation me operation (record { slots = x.slots; out = record { promises = old.promises.table; effects = old.caused.effects } })
    ≡ writing_where writes me (record { slots = y.slots; out = record { promises = p.table; effects = fx.effects } })
    → writes ≡ false
    → record { slots = y.slots; out = record { promises = p.table; effects = fx.effects } } ≡ writable_operation me operation (record { slots = x.slots; out = found (slots_of old) })
rests-did me operation old x y p fx writes quiet acted fails =
    sym
    (ap (λ (es : List Effect). writable_operation me operation (record { slots = x.slots; out = record { promises = old.promises.table; effects = es } })) (sym quiet)
    ∙ (acted ∙ ap (λ b. writing_where b me (record { slots = y.slots; out = record { promises = p.table; effects = fx.effects } })) fails))

-- the chunk that is first in the queue is handed on

with-first-length : (v : WriteRecord) (qs : List (Queued WriteRecord)) → length (with_first_value v qs) ≡ length qs
with-first-length v [] = refl
with-first-length v (q ∷ qs) = refl

hand-length : (me : StreamId) (taker : Taker) (a : writable.Acts) (first : Option WriteRecord)
    → (length (writable.hand_on_first me taker a first).slots.queue ≡ length a.slots.queue)
    × ((writable.hand_on_first me taker a first).slots.write_requests ≡ a.slots.write_requests)
hand-length me taker a None = (refl, refl)
hand-length me taker a (Some CloseMark) = (refl, refl)
hand-length me taker a (Some InFlight) = (refl, refl)
hand-length me taker a (Some (Chunk v)) = (with-first-length InFlight a.slots.queue, refl)

handing-slots : (me : StreamId) (taker : Taker) (chunk : Option Value) (a : writable.Acts) → (handing me taker chunk a).slots ≡ a.slots
handing-slots me taker None a = refl
handing-slots me taker (Some v) a = refl

handed-told : (me : StreamId) (taker : Taker) (chunk : Option Value) (s : writable.Slots) (t : Table)
    → record { slots = s; out = record { promises = t; effects = handed me taker chunk } } ≡ handing me taker chunk (record { slots = s; out = record { promises = t; effects = [] } })
handed-told me taker None s t = refl
handed-told me taker (Some v) s t = refl

same-places : (x y : SeenWritable) → length y.slots.queue ≡ length x.slots.queue → length y.slots.write_requests ≡ length x.slots.write_requests → y.room ≡ x.room → has_room 4 y ≡ has_room 4 x
same-places x y queue requests room = rw (queue, requests, room) refl

apart : (a b : Bool) → b ≡ a → a ≡ true → b ≡ false → ⊥
apart a b same holds fails = cc

pub chunk-on : (i : StreamId) (taker : Taker) (old z : Tables) (x y : SeenWritable) (chunk : Option Value) → slice_get old.streams.items i.0 ≡ Some (Writable x)
    → writable.hand_on i taker (record { slots = x.slots; out = record { promises = old.promises.table; effects = [] } })
    ≡ handing i taker chunk (record { slots = y.slots; out = record { promises = old.promises.table; effects = [] } })
    → y.room ≡ x.room → z.waiting ≡ old.waiting → PutStream i old z (Writable y) old.promises false → IsKept old
    → Reaches (WritableEffect i (HandOn taker) ∷ []) old (handed i taker chunk) z
unfolding hand_on
chunk-on i taker old z x y chunk at acted room waits put kept =
    let a : writable.Acts = record { slots = x.slots; out = record { promises = old.promises.table; effects = [] } } in
    let b : writable.Acts = record { slots = y.slots; out = record { promises = old.promises.table; effects = [] } } in
    let lengths = hand-length i taker a (first_value x.slots.queue) in
    let slots : y.slots ≡ (writable.hand_on_first i taker a (first_value x.slots.queue)).slots = sym (handing-slots i taker chunk b) ∙ ap (λ (c : writable.Acts). c.slots) (sym acted) in
    let same : has_room 4 y ≡ has_room 4 x =
    same-places x y (ap (λ (s : writable.Slots). length s.queue) slots ∙ lengths.0) (ap (λ (s : writable.Slots). length s.write_requests) slots ∙ ap length lengths.1) room in
    let quiet = unnoted (has_room 4 x) (has_room 4 y) (apart (has_room 4 x) (has_room 4 y) same) in
    writable-on i (HandOn taker) old z x y old.promises (handed i taker chunk) at (handed-told i taker chunk y.slots old.promises.table ∙ sym acted) room refl waits
    (has_room 4 x) (has_room 4 y) refl refl (subst (PutStream i old z (Writable y) old.promises) (sym quiet) put) kept
