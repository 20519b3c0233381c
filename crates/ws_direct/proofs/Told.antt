-- What a readable stream tells of a read, and of a chunk that is enqueued.
use Rattle.std.proofs.Common.{◌≡◌, ◌<◌, ◌∙◌, Bool, true, false, ◌&&◌, [], ◌∷◌, ◌++◌, length, Some, refl, sym, ap, subst, arith}
use Rattle.std.specs.Prelude.{slice_get, slice_index_or}
use Rattle.ws_value.specs.declared.ids.StreamId.{StreamId}
use Rattle.ws_value.specs.declared.value.Value.{Value}
use Rattle.ws_promise.specs.Seen.{Seen, SeenAgenda}
use Rattle.ws_steps.specs.declared.effects.Effect.TheVariants.{ChunkSteps}
use Rattle.ws_steps.specs.declared.readable.ReadRequest.{ReadRequest}
use Rattle.ws_steps.specs.Places.{own_read, requests_alone}
use Rattle.ws_steps.specs.Readable as readable
use Rattle.ws_steps.specs.Readable.{causing, call_pull_if_needed, controller_enqueue, default_reader_read}
use Rattle.ws_steps.specs.Slots.{as_readable, has_readable, readable_at}
use Rattle.ws_readable.specs.Seen.{SeenReadable, acts_of, pulling_where}
use Rattle.ws_tables.specs.View.{slots_of, stream_of}
use Rattle.ws_tables.specs.declared.tables.Stream.{Stream as StreamRecord}
use Rattle.ws_tables.specs.declared.tables.Stream.TheVariants.{Readable}
use Rattle.ws_tables.specs.declared.tables.Tables.{Tables}
use Rattle.ws_tables.proofs.Elements.{get-map, stands-at}
use Rattle.ws_performing.proofs.Streams.{readable-within}
use Rattle.ws_direct.specs.Directly.{pulls_told}
use Rattle.ws_direct.proofs.Reaching.{no-effects}

pub and-first : (a b : Bool) → (a && b) ≡ true → a ≡ true
and-first true b is = refl
and-first false b is = cc

pub and-second : (a b : Bool) → (a && b) ≡ true → b ≡ true
and-second true b is = is
and-second false b is = cc

-- the stream can close or enqueue
pub going-here : (i : StreamId) (old : Tables) (x : SeenReadable) → slice_get old.streams.items i.0 ≡ Some (Readable x)
    → (has_readable i (slots_of old) && readable.can_close_or_enqueue (readable_at i (slots_of old))) ≡ true → readable.can_close_or_enqueue x.slots ≡ true
going-here i old x at is =
    subst (λ o. readable.can_close_or_enqueue (as_readable o) ≡ true) (get-map stream_of old.streams.items i.0 (Readable x) at) (and-second (has_readable i (slots_of old)) _ is)

pub going-within : (i : StreamId) (old : Tables) → (has_readable i (slots_of old) && readable.can_close_or_enqueue (readable_at i (slots_of old))) ≡ true → i.0 < length old.streams.items
going-within i old is = readable-within stream_of old.streams.items i.0 (and-first (has_readable i (slots_of old)) _ is)

-- this is the stream
pub stands-going : (i : StreamId) (old : Tables) (s : StreamRecord) (x : SeenReadable) → (has_readable i (slots_of old) && readable.can_close_or_enqueue (readable_at i (slots_of old))) ≡ true
    → s ≡ slice_index_or old.streams.items i.0 s → s ≡ Readable x → slice_get old.streams.items i.0 ≡ Some (Readable x)
stands-going i old s x going value is = stands-at old.streams.items i.0 s s (going-within i old going) value ∙ ap (λ y. Some y) is

pub one-request : (i : StreamId) (request : ReadRequest) → own_read requests_alone i request ≡ 1
one-request i request = grind arith

module _ (i : StreamId) (x y z : SeenReadable) (pulls : Bool) (p : Seen)
    (pulled : (me : StreamId) (q : Seen) (fx : SeenAgenda) → call_pull_if_needed me (acts_of y q fx) ≡ pulling_where pulls me (acts_of z q fx)) where
  handed : (request : ReadRequest) (v : Value) (told : Bool)
      → record { slots = z.slots; out = record { promises = p.table; effects = ChunkSteps i request v ∷ pulls_told told i } }
      ≡ pulling_where told i (acts_of z p (record { effects = ChunkSteps i request v ∷ []; capacity = 0 }))
  handed request v true = refl
  handed request v false = refl

  kept : (told : Bool) → record { slots = z.slots; out = record { promises = p.table; effects = pulls_told told i } } ≡ pulling_where told i (acts_of z p no-effects)
  kept true = refl
  kept false = refl

  taken : (request : ReadRequest) (v : Value) (told : Bool)
      → record { slots = z.slots; out = record { promises = p.table; effects = pulls_told told i ++ ChunkSteps i request v ∷ [] } }
      ≡ causing (ChunkSteps i request v) (pulling_where told i (acts_of z p no-effects))
  taken request v true = refl
  taken request v false = refl

  -- a request waited for the chunk
  pub hand-told : (request : ReadRequest) (v : Value)
      → controller_enqueue i v (acts_of x p no-effects) ≡ call_pull_if_needed i (causing (ChunkSteps i request v) (acts_of y p no-effects))
      → record { slots = z.slots; out = record { promises = p.table; effects = ChunkSteps i request v ∷ pulls_told pulls i } } ≡ controller_enqueue i v (acts_of x p no-effects)
  hand-told request v is = handed request v pulls ∙ (sym (pulled i p (record { effects = ChunkSteps i request v ∷ []; capacity = 0 })) ∙ sym is)

  -- the chunk went into the queue
  pub keep-told : (v : Value) → controller_enqueue i v (acts_of x p no-effects) ≡ call_pull_if_needed i (acts_of y p no-effects)
      → record { slots = z.slots; out = record { promises = p.table; effects = pulls_told pulls i } } ≡ controller_enqueue i v (acts_of x p no-effects)
  keep-told v is = kept pulls ∙ (sym (pulled i p no-effects) ∙ sym is)

  -- a chunk was there for the request
  pub take-told : (request : ReadRequest) (v : Value)
      → default_reader_read i request (acts_of x p no-effects) ≡ causing (ChunkSteps i request v) (call_pull_if_needed i (acts_of y p no-effects))
      → record { slots = z.slots; out = record { promises = p.table; effects = pulls_told pulls i ++ ChunkSteps i request v ∷ [] } } ≡ default_reader_read i request (acts_of x p no-effects)
  take-told request v is = taken request v pulls ∙ (ap (causing (ChunkSteps i request v)) (sym (pulled i p no-effects)) ∙ sym is)

  -- the request waits
  pub wait-told : (request : ReadRequest) → default_reader_read i request (acts_of x p no-effects) ≡ call_pull_if_needed i (acts_of y p no-effects)
      → record { slots = z.slots; out = record { promises = p.table; effects = pulls_told pulls i } } ≡ default_reader_read i request (acts_of x p no-effects)
  wait-told request is = kept pulls ∙ (sym (pulled i p no-effects) ∙ sym is)
