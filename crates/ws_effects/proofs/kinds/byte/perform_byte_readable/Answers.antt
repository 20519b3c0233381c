use Rattle.std.proofs.Common.{◌≡◌, ◌∙◌, Some, List, length, map, refl, sym, ap, subst, arith}
use Rattle.std.specs.Prelude.{slice_get, slice_set}
use Rattle.ws_byte.specs.Seen.{acts_of}
use Rattle.ws_steps.specs.declared.effects.Effect.{Effect}
use Rattle.ws_steps.specs.declared.effects.Effect.TheVariants.{Readable as ReadableEffect}
use Rattle.ws_steps.specs.Bytes as byte
use Rattle.ws_steps.specs.Operations.{byte_readable_operation}
use Rattle.ws_steps.specs.Places.{readable_price}
use Rattle.ws_steps.specs.Turns.{row}
use Rattle.ws_steps.proofs.StreamLaws.{on_byte-at}
use Rattle.ws_tables.specs.declared.tables.Stream.TheVariants.{Bytes}
use Rattle.ws_tables.specs.declared.tables.Tables.{Tables}
use Rattle.ws_tables.specs.View.{slots_of, stream_of}
use Rattle.ws_tables.specs.Room.{places_of}
use Rattle.ws_effects.proofs.ByteAuto.{byte_readable-auto}
use Rattle.ws_effects.proofs.ByteDid.{Acted, Put, paid-for, performs, kept, byte_readable-priced, rooms-for, spares-own}
use Rattle.ws_performing.proofs.Bytes.{ByteTook, byte_readable-took}
use Rattle.ws_performing.proofs.Fits.{readable-here}
use Rattle.ws_performing.proofs.Streams.{byte-within, waits-among, byte_readable-absent, byte_readable-row}
use Rattle.ws_tables.proofs.Elements.{stands-at}
use Rattle.ws_effects.proofs.kinds.byte.perform_byte_readable.Goals as goal

pub returns-then-not-has_byte-clause-performs : goal.returns-then-not-has_byte-clause-performs
returns-then-not-has_byte-clause-performs c = byte_readable-absent c.args.i c.args.operation c.args.tables.now c.requires.bytes (sym c.has_byte.ensures ∙ c.if-not-has_byte.true) c.requires.quiet

pub index_mut-requires : goal.index_mut-requires
index_mut-requires c =
    let there = byte-within stream_of c.args.tables.now.streams.items c.args.i.0 (sym c.has_byte.ensures ∙ c.if-not-has_byte.false) in
    omega arith

at : (c : goal.After-perform-arg-in-Bytes-2-1) → slice_get c.args.tables.now.streams.items c.args.i.0 ≡ Some (Bytes c.in-Bytes.stream)
at c =
    let there = byte-within stream_of c.args.tables.now.streams.items c.args.i.0 (sym c.has_byte.ensures ∙ c.if-not-has_byte.false) in
    stands-at c.args.tables.now.streams.items c.args.i.0 c.index_mut.result.now c.index_mut.result.now there c.index_mut.ensures.value
    ∙ ap (λ x. Some x) c.in-Bytes.is

pub perform-requires-clause-room : goal.perform-requires-clause-room
perform-requires-clause-room c =
    let lists = c.requires.room.lists c.args.i.0 (Bytes c.in-Bytes.stream) (at c) in
    let rooms = c.requires.room.rooms c.args.i.0 (Bytes c.in-Bytes.stream) (at c) in
    let queue = lists.queue in
    let here = readable-here c.args.i c.args.operation in let r = lists.requests in
    record {
      queue = omega (arith, queue);
      requests = omega (arith, here, r);
      descriptors = lists.descriptors;
      spares = rooms-for c.in-Bytes.stream c.args.operation c.args.i rooms;
    }

pub perform-requires-clause-effect_room : goal.perform-requires-clause-effect_room
perform-requires-clause-effect_room c =
    let among = waits-among c.args.tables.now.streams.items c.args.i.0 (Bytes c.in-Bytes.stream) (at c) in
    let quiet = ap length c.requires.quiet in
    omega (arith, among, c.requires.kept.waiting, quiet, c.requires.room.caused)

pub overflow_sub-tables : goal.overflow_sub-tables
overflow_sub-tables c =
    let among = waits-among c.args.tables.now.streams.items c.args.i.0 (Bytes c.in-Bytes.stream) (at c.before) in
    omega (arith, among, c.requires.kept.waiting)

took : (c : goal.After-perform) → ByteTook (λ π. readable_price π c.args.i c.args.operation) (acts_of c.in-Bytes.stream c.args.tables.now.promises c.args.tables.now.caused) (acts_of c.perform.new.self c.perform.new.p c.perform.new.fx)
took c =
    subst (ByteTook (λ π. readable_price π c.args.i c.args.operation) (acts_of c.in-Bytes.stream c.args.tables.now.promises c.args.tables.now.caused)) (sym c.perform.ensures.row)
    (byte_readable-took c.args.i c.args.operation (acts_of c.in-Bytes.stream c.args.tables.now.promises c.args.tables.now.caused) c.requires.quiet)

pub overflow_add-tables : goal.overflow_add-tables
overflow_add-tables c =
    let among = waits-among c.args.tables.now.streams.items c.args.i.0 (Bytes c.in-Bytes.stream) (at c.before.before) in
    let turns = (took c.before).turns in
    let small = c.args.tables.now.others.small in
    omega (arith, among, turns, small, c.requires.kept.waiting, c.requires.room.others)

acted : (c : goal.After-perform) → Acted (ReadableEffect c.args.i c.args.operation) c.args.i c.args.tables.now c.in-Bytes.stream c.perform.new.self c.perform.new.p c.perform.new.fx
acted c = record {
  at = at c.before;
  took = took c;
  room = c.perform.ensures.room;
  auto =
      ap (λ (a : byte.Acts). a.slots.auto) c.perform.ensures.row
      ∙ byte_readable-auto c.args.i c.args.operation (acts_of c.in-Bytes.stream c.args.tables.now.promises c.args.tables.now.caused);
  spares = spares-own c.in-Bytes.stream c.perform.new.self c.args.operation c.args.i c.perform.ensures.spares;
  own_price = (byte_readable-priced c.args.i c.args.operation).0;
  price = (byte_readable-priced c.args.i c.args.operation).1;
}

pub note_growth-requires : goal.note_growth-requires
note_growth-requires c = record {
  room = λ had has.
      let less = paid-for (ReadableEffect c.args.i c.args.operation) c.args.i c.args.tables.now c.in-Bytes.stream c.perform.new.self c.perform.new.p c.perform.new.fx (acted c.before.before.before.before)
      c.has_room-had_room.result c.has_room-has_room.result c.has_room-had_room.ensures c.has_room-has_room.ensures had has in
      let room = c.requires.room.grown in
      omega (arith, less, room);
}

-- what the operation leaves and causes
left : (c : goal.After-note_growth) → row (ReadableEffect c.args.i c.args.operation) (slots_of c.args.tables.now)
    ≡ record {
      slots = record (slots_of c.args.tables.now) { streams = map stream_of (slice_set c.args.tables.now.streams.items c.args.i.0 (Bytes c.perform.new.self)); promises = c.perform.new.p.table };
      caused = c.perform.new.fx.effects;
    }
left c =
    let old = c.args.tables.now in
    let there = byte-within stream_of old.streams.items c.args.i.0 (sym c.has_byte.ensures ∙ c.if-not-has_byte.false) in
    byte_readable-row c.args.i c.args.operation (slots_of old) (sym c.has_byte.ensures ∙ c.if-not-has_byte.false)
    ∙ on_byte-at stream_of (byte_readable_operation c.args.i c.args.operation) c.args.i (slots_of old) old.streams.items c.index_mut.result.now (Bytes c.perform.new.self) c.in-Bytes.stream.slots
    (acts_of c.perform.new.self c.perform.new.p c.perform.new.fx) refl there c.index_mut.ensures.value (ap stream_of c.in-Bytes.is)
    (c.perform.ensures.row ∙ ap (λ (es : List Effect). byte_readable_operation c.args.i c.args.operation (record { slots = c.in-Bytes.stream.slots; out = record { promises = old.promises.table; effects = es } })) c.requires.quiet)
    refl

put : (c : goal.After-note_growth) → Put c.args.i c.args.tables.now c.note_growth.new.tables c.in-Bytes.stream c.perform.new.self c.perform.new.p c.perform.new.fx c.has_room-had_room.result c.has_room-has_room.result
put c =
    let same = c.note_growth.ensures.tables in
    record {
      streams = ap (λ (t : Tables). t.streams.items) same;
      slots = ap slots_of same;
      caused = ap (λ (t : Tables). t.caused.effects) same;
      others = ap (λ (t : Tables). t.others) same;
      places = ap places_of same ∙ rw (c.note_growth.ensures.capacity) refl;
      grown = c.note_growth.ensures.grown;
      waiting =
          let now = ap (λ (t : Tables). t.waiting) same in
          omega (arith, now, c.waiting_requests-waited.ensures, c.waiting_requests.ensures);
      signals = ap (λ (t : Tables). t.signals) same;
      full = ap (λ (t : Tables). t.full) same;
      aborts = ap (λ (t : Tables). t.aborts) same;
      pipes = ap (λ (t : Tables). t.pipes) same;
      tees = ap (λ (t : Tables). t.tees) same;
      uncopied = ap (λ (t : Tables). t.uncopied) same;
    }

pub returns-clause-performs : goal.returns-clause-performs
returns-clause-performs c =
    performs (ReadableEffect c.args.i c.args.operation) c.args.i c.args.tables.now c.in-Bytes.stream c.perform.new.self c.perform.new.p c.perform.new.fx (acted c.before.before.before.before.before)
    c.note_growth.new.tables c.has_room-had_room.result c.has_room-has_room.result c.has_room-had_room.ensures c.has_room-has_room.ensures (put c) (left c) c.perform.ensures.promise_room c.perform.ensures.effect_room

pub returns-clause-kept : goal.returns-clause-kept
returns-clause-kept c =
    kept (ReadableEffect c.args.i c.args.operation) c.args.i c.args.tables.now c.in-Bytes.stream c.perform.new.self c.perform.new.p c.perform.new.fx (acted c.before.before.before.before.before)
    c.note_growth.new.tables c.has_room-had_room.result c.has_room-has_room.result c.has_room-had_room.ensures c.has_room-has_room.ensures (put c) (left c) c.perform.ensures.promise_room c.perform.ensures.effect_room c.requires.kept
