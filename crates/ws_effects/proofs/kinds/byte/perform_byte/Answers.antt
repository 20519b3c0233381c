use Rattle.std.proofs.Common.{◌≡◌, ◌∙◌, Some, List, length, map, refl, sym, ap, subst, arith}
use Rattle.std.specs.Prelude.{slice_get, slice_set}
use Rattle.ws_byte.specs.Seen.{acts_of}
use Rattle.ws_steps.specs.declared.effects.Effect.{Effect}
use Rattle.ws_steps.specs.declared.effects.Effect.TheVariants.{Byte as ByteEffect}
use Rattle.ws_steps.specs.Bytes as byte
use Rattle.ws_steps.specs.Operations.{byte_operation}
use Rattle.ws_steps.specs.Places.{byte_price}
use Rattle.ws_steps.specs.Turns.{row}
use Rattle.ws_steps.proofs.StreamLaws.{on_byte-at}
use Rattle.ws_tables.specs.declared.tables.Stream.TheVariants.{Bytes}
use Rattle.ws_tables.specs.declared.tables.Tables.{Tables}
use Rattle.ws_tables.specs.View.{slots_of, stream_of}
use Rattle.ws_tables.specs.Room.{places_of}
use Rattle.ws_effects.proofs.ByteAuto.{byte-auto}
use Rattle.ws_effects.proofs.ByteDid.{Acted, Put, paid-for, performs, kept, byte-priced}
use Rattle.ws_performing.proofs.Bytes.{ByteTook, byte-took}
use Rattle.ws_performing.proofs.Fits.{byte-here}
use Rattle.ws_performing.proofs.Streams.{byte-within, waits-among, byte-absent, byte-row}
use Rattle.ws_tables.proofs.Elements.{stands-at}
use Rattle.ws_effects.proofs.kinds.byte.perform_byte.Goals as goal

pub returns-then-not-has_byte-clause-performs : goal.returns-then-not-has_byte-clause-performs
returns-then-not-has_byte-clause-performs c = byte-absent c.args.i c.args.operation c.args.tables.now (sym c.has_byte.ensures ∙ c.if-not-has_byte.true) c.requires.quiet

pub index_mut-requires : goal.index_mut-requires
index_mut-requires c =
    let there = byte-within stream_of c.args.tables.now.streams.items c.args.i.0 (sym c.has_byte.ensures ∙ c.if-not-has_byte.false) in
    omega arith

at : (c : goal.After-perform_byte-arg-in-Bytes-2-1) → slice_get c.args.tables.now.streams.items c.args.i.0 ≡ Some (Bytes c.in-Bytes.stream)
at c =
    let there = byte-within stream_of c.args.tables.now.streams.items c.args.i.0 (sym c.has_byte.ensures ∙ c.if-not-has_byte.false) in
    stands-at c.args.tables.now.streams.items c.args.i.0 c.index_mut.result.now c.index_mut.result.now there c.index_mut.ensures.value
    ∙ ap (λ x. Some x) c.in-Bytes.is

pub perform_byte-requires-clause-room : goal.perform_byte-requires-clause-room
perform_byte-requires-clause-room c =
    let lists = c.requires.room.lists c.args.i.0 (Bytes c.in-Bytes.stream) (at c) in
    let here = byte-here c.args.i c.args.operation in let r = lists.requests in
    record { queue = lists.queue; requests = omega (arith, here, r); descriptors = lists.descriptors }

pub perform_byte-requires-clause-effect_room : goal.perform_byte-requires-clause-effect_room
perform_byte-requires-clause-effect_room c =
    let among = waits-among c.args.tables.now.streams.items c.args.i.0 (Bytes c.in-Bytes.stream) (at c) in
    let quiet = ap length c.requires.quiet in
    omega (arith, among, c.requires.kept.waiting, quiet, c.requires.room.caused)

pub overflow_sub-tables : goal.overflow_sub-tables
overflow_sub-tables c =
    let among = waits-among c.args.tables.now.streams.items c.args.i.0 (Bytes c.in-Bytes.stream) (at c.before) in
    omega (arith, among, c.requires.kept.waiting)

took : (c : goal.After-perform_byte) → ByteTook (λ π. byte_price π c.args.operation) (acts_of c.in-Bytes.stream c.args.tables.now.promises c.args.tables.now.caused) (acts_of c.perform_byte.new.self c.perform_byte.new.p c.perform_byte.new.fx)
took c =
    subst (ByteTook (λ π. byte_price π c.args.operation) (acts_of c.in-Bytes.stream c.args.tables.now.promises c.args.tables.now.caused)) (sym c.perform_byte.ensures.row)
    (byte-took c.args.i c.args.operation (acts_of c.in-Bytes.stream c.args.tables.now.promises c.args.tables.now.caused) c.requires.quiet)

pub overflow_add-tables : goal.overflow_add-tables
overflow_add-tables c =
    let among = waits-among c.args.tables.now.streams.items c.args.i.0 (Bytes c.in-Bytes.stream) (at c.before.before) in
    let turns = (took c.before).turns in
    let small = c.args.tables.now.others.small in
    omega (arith, among, turns, small, c.requires.kept.waiting, c.requires.room.others)

acted : (c : goal.After-perform_byte) → Acted (ByteEffect c.args.i c.args.operation) c.args.i c.args.tables.now c.in-Bytes.stream c.perform_byte.new.self c.perform_byte.new.p c.perform_byte.new.fx
acted c = record {
  at = at c.before;
  took = took c;
  room = c.perform_byte.ensures.room;
  auto =
      ap (λ (a : byte.Acts). a.slots.auto) c.perform_byte.ensures.row
      ∙ byte-auto c.args.i c.args.operation (acts_of c.in-Bytes.stream c.args.tables.now.promises c.args.tables.now.caused);
  spares = let same = c.perform_byte.ensures.spares in omega (arith, same);
  own_price = (byte-priced c.args.i c.args.operation).0;
  price = (byte-priced c.args.i c.args.operation).1;
}

pub note_growth-requires : goal.note_growth-requires
note_growth-requires c = record {
  room = λ had has.
      let less = paid-for (ByteEffect c.args.i c.args.operation) c.args.i c.args.tables.now c.in-Bytes.stream c.perform_byte.new.self c.perform_byte.new.p c.perform_byte.new.fx (acted c.before.before.before.before)
      c.has_room-had_room.result c.has_room-has_room.result c.has_room-had_room.ensures c.has_room-has_room.ensures had has in
      let room = c.requires.room.grown in
      omega (arith, less, room);
}

-- what the operation leaves and causes
left : (c : goal.After-note_growth) → row (ByteEffect c.args.i c.args.operation) (slots_of c.args.tables.now)
    ≡ record {
      slots = record (slots_of c.args.tables.now) { streams = map stream_of (slice_set c.args.tables.now.streams.items c.args.i.0 (Bytes c.perform_byte.new.self)); promises = c.perform_byte.new.p.table };
      caused = c.perform_byte.new.fx.effects;
    }
left c =
    let old = c.args.tables.now in
    let there = byte-within stream_of old.streams.items c.args.i.0 (sym c.has_byte.ensures ∙ c.if-not-has_byte.false) in
    byte-row c.args.i c.args.operation (slots_of old)
    ∙ on_byte-at stream_of (byte_operation c.args.i c.args.operation) c.args.i (slots_of old) old.streams.items c.index_mut.result.now (Bytes c.perform_byte.new.self) c.in-Bytes.stream.slots
    (acts_of c.perform_byte.new.self c.perform_byte.new.p c.perform_byte.new.fx) refl there c.index_mut.ensures.value (ap stream_of c.in-Bytes.is)
    (c.perform_byte.ensures.row ∙ ap (λ (es : List Effect). byte_operation c.args.i c.args.operation (record { slots = c.in-Bytes.stream.slots; out = record { promises = old.promises.table; effects = es } })) c.requires.quiet)
    refl

put : (c : goal.After-note_growth) → Put c.args.i c.args.tables.now c.note_growth.new.tables c.in-Bytes.stream c.perform_byte.new.self c.perform_byte.new.p c.perform_byte.new.fx c.has_room-had_room.result c.has_room-has_room.result
put c =
    let same = c.note_growth.ensures.tables in
    record {
      streams = ap (λ (t : Tables). t.streams.items) same;
      slots = ap slots_of same;
      caused = ap (λ (t : Tables). t.caused.effects) same;
      others = ap (λ (t : Tables). t.others) same;
      places = ap places_of same ∙ rw (c.note_growth.ensures.capacity) refl;
      grown = c.note_growth.ensures.grown;
      waiting =
          let now = ap (λ (t : Tables). t.waiting) same in
          omega (arith, now, c.waiting_requests-waited.ensures, c.waiting_requests.ensures);
      signals = ap (λ (t : Tables). t.signals) same;
      full = ap (λ (t : Tables). t.full) same;
      aborts = ap (λ (t : Tables). t.aborts) same;
      pipes = ap (λ (t : Tables). t.pipes) same;
      tees = ap (λ (t : Tables). t.tees) same;
      uncopied = ap (λ (t : Tables). t.uncopied) same;
    }

pub returns-clause-performs : goal.returns-clause-performs
returns-clause-performs c =
    performs (ByteEffect c.args.i c.args.operation) c.args.i c.args.tables.now c.in-Bytes.stream c.perform_byte.new.self c.perform_byte.new.p c.perform_byte.new.fx (acted c.before.before.before.before.before)
    c.note_growth.new.tables c.has_room-had_room.result c.has_room-has_room.result c.has_room-had_room.ensures c.has_room-has_room.ensures (put c) (left c) c.perform_byte.ensures.promise_room c.perform_byte.ensures.effect_room

pub returns-clause-kept : goal.returns-clause-kept
returns-clause-kept c =
    kept (ByteEffect c.args.i c.args.operation) c.args.i c.args.tables.now c.in-Bytes.stream c.perform_byte.new.self c.perform_byte.new.p c.perform_byte.new.fx (acted c.before.before.before.before.before)
    c.note_growth.new.tables c.has_room-had_room.result c.has_room-has_room.result c.has_room-had_room.ensures c.has_room-has_room.ensures (put c) (left c) c.perform_byte.ensures.promise_room c.perform_byte.ensures.effect_room c.requires.kept
