use Rattle.std.proofs.Common.{◌≡◌, ◌∙◌, ◌&&◌, not, true, false, Some, List, length, map, refl, sym, ap, subst, ◌<◌, ◌+◌, ◌-◌, arith}
use Rattle.std.specs.Prelude.{slice_get, slice_set, vec_len, nat_le}
use Rattle.ws_steps.specs.declared.effects.Effect.{Effect}
use Rattle.ws_steps.specs.declared.effects.Effect.TheVariants.{Readable as ReadableEffect}
use Rattle.ws_steps.specs.Turns.{row}
use Rattle.ws_queue.specs.Seen.{Lists}
use Rattle.ws_steps.specs.Places.{prices_of, tees_keep, readable_price, queued_alone, requests_alone, members_alone}
use Rattle.ws_readable.specs.Seen.{acts_of}
use Rattle.ws_steps.specs.Operations.{readable_operation}
use Rattle.ws_steps.specs.Slots.{Done}
use Rattle.ws_steps.proofs.StreamLaws.{on_readable-at}
use Rattle.ws_tables.specs.declared.tables.Stream.TheVariants.{Readable}
use Rattle.ws_tables.specs.declared.tables.Tables.{Tables}
use Rattle.ws_tables.specs.View.{slots_of, stream_of}
use Rattle.ws_tables.specs.Room.{places_of, two_lists, room_of, members_room, waiting_in, HasFew, AreSourced, IsCounted}
use Rattle.ws_performing.proofs.Streams.{readable-within, waits-among, waits-after, rooms-put, ReadableTook, readable-took, has-both, both-have, paid, cover, readable-row, noted-grown, noted-length}
use Rattle.ws_tables.proofs.Elements.{stands-at, map-put}
use Rattle.ws_tables.proofs.Counts.{counted-on, row-more, row-few, row-sourced}
use Rattle.ws_performing.proofs.Fits.{readable-here}
use Rattle.ws_effects.proofs.kinds.readable.perform_readable.Goals as goal

pub index_mut-requires : goal.index_mut-requires
index_mut-requires c =
    let there = readable-within stream_of c.args.tables.now.streams.items c.args.i.0 (sym c.has_readable.ensures ∙ c.if-not-has_readable.false) in
    omega arith

at : (c : goal.After-perform-arg-in-Readable-3-1) → slice_get c.args.tables.now.streams.items c.args.i.0 ≡ Some (Readable c.in-Readable.stream)
at c =
    let there = readable-within stream_of c.args.tables.now.streams.items c.args.i.0 (sym c.has_readable.ensures ∙ c.if-not-has_readable.false) in
    stands-at c.args.tables.now.streams.items c.args.i.0 c.index_mut.result.now c.index_mut.result.now there c.index_mut.ensures.value
    ∙ ap (λ x. Some x) c.in-Readable.is

pub perform-requires-clause-room : goal.perform-requires-clause-room
perform-requires-clause-room c =
    let lists = c.requires.room.lists c.args.i.0 (Readable c.in-Readable.stream) (at c) in
    let here = readable-here c.args.i c.args.operation.now in let r = lists.requests in
    record { queue = lists.queue; requests = omega (arith, here, r) }

pub perform-requires-clause-effect_room : goal.perform-requires-clause-effect_room
perform-requires-clause-effect_room c =
    let kept = waits-among c.args.tables.now.streams.items c.args.i.0 (Readable c.in-Readable.stream) (at c) in
    let quiet = ap length c.requires.quiet in
    omega (arith, kept, c.requires.kept.waiting, quiet, c.requires.room.caused)

pub overflow_sub-tables : goal.overflow_sub-tables
overflow_sub-tables c =
    let kept = waits-among c.args.tables.now.streams.items c.args.i.0 (Readable c.in-Readable.stream) (at c.before) in
    omega (arith, kept, c.requires.kept.waiting)

took : (c : goal.After-perform) → ReadableTook c.args.i c.args.operation.now (acts_of c.in-Readable.stream c.args.tables.now.promises c.args.tables.now.caused) (acts_of c.perform.new.self c.perform.new.p c.perform.new.fx)
took c =
    subst (ReadableTook c.args.i c.args.operation.now (acts_of c.in-Readable.stream c.args.tables.now.promises c.args.tables.now.caused)) (sym c.perform.ensures.row)
    (readable-took c.args.i c.args.operation.now (acts_of c.in-Readable.stream c.args.tables.now.promises c.args.tables.now.caused) c.requires.quiet)

pub overflow_add-tables : goal.overflow_add-tables
overflow_add-tables c =
    let kept = waits-among c.args.tables.now.streams.items c.args.i.0 (Readable c.in-Readable.stream) (at c.before.before) in
    let turns = (took c.before).turns in
    let small = c.args.tables.now.others.small in
    omega (arith, kept, turns, small, c.requires.kept.waiting, c.requires.room.others)

paid_for : (c : goal.After-note_growth-arg-1) → c.has_room-had_room.result ≡ true → c.has_room-has_room.result ≡ false
    → prices_of queued_alone c.perform.new.fx.effects + prices_of requests_alone c.perform.new.fx.effects < readable_price queued_alone c.args.i c.args.operation.now + readable_price requests_alone c.args.i c.args.operation.now
paid_for c had has =
    let t = took c.before.before.before.before in
    let room = c.perform.ensures.room in
    paid (length c.in-Readable.stream.slots.queue) (length c.perform.new.self.slots.queue) (length c.in-Readable.stream.slots.requests) (length c.perform.new.self.slots.requests)
    (readable_price queued_alone c.args.i c.args.operation.now) (readable_price requests_alone c.args.i c.args.operation.now) (prices_of queued_alone c.perform.new.fx.effects) (prices_of requests_alone c.perform.new.fx.effects)
    c.in-Readable.stream.room.queue c.in-Readable.stream.room.requests t.queued t.requested (sym c.has_room-had_room.ensures ∙ had)
    (ap (λ (l : Lists). nat_le 4 (l.queue - length c.perform.new.self.slots.queue) && nat_le 4 (l.requests - length c.perform.new.self.slots.requests)) (sym room) ∙ (sym c.has_room-has_room.ensures ∙ has))

pub note_growth-requires : goal.note_growth-requires
note_growth-requires c = record {
  room = λ had has. let less = paid_for c had has in let room = c.requires.room.grown in omega (arith, less, room);
}

-- what the operation leaves and causes
left : (c : goal.After-note_growth) → row (ReadableEffect c.args.i c.args.operation.now) (slots_of c.args.tables.now)
    ≡ record {
      slots = record (slots_of c.args.tables.now) { streams = map stream_of (slice_set c.args.tables.now.streams.items c.args.i.0 (Readable c.perform.new.self)); promises = c.perform.new.p.table };
      caused = c.perform.new.fx.effects;
    }
left c =
    let old = c.args.tables.now in
    let there = readable-within stream_of old.streams.items c.args.i.0 (sym c.has_readable.ensures ∙ c.if-not-has_readable.false) in
    readable-row c.args.i c.args.operation.now (slots_of old) (sym c.has_readable.ensures ∙ c.if-not-has_readable.false)
    ∙ on_readable-at stream_of (readable_operation c.args.i c.args.operation.now) c.args.i (slots_of old) old.streams.items c.index_mut.result.now (Readable c.perform.new.self) c.in-Readable.stream.slots
    (acts_of c.perform.new.self c.perform.new.p c.perform.new.fx) refl there c.index_mut.ensures.value (ap stream_of c.in-Readable.is)
    (c.perform.ensures.row ∙ ap (λ (es : List Effect). readable_operation c.args.i c.args.operation.now (record { slots = c.in-Readable.stream.slots; out = record { promises = old.promises.table; effects = es } })) c.requires.quiet)
    refl

pub returns-clause-performs : goal.returns-clause-performs
returns-clause-performs c =
    let old = c.args.tables.now in
    let same = c.note_growth.ensures.tables in
    let t = took c.before.before.before.before.before in
    let caused : c.note_growth.new.tables.caused.effects ≡ c.perform.new.fx.effects = ap (λ (t : Tables). t.caused.effects) same in
    record {
      slots = ap slots_of same ∙ ap (λ (d : Done). d.slots) (sym (left c));
      caused = caused ∙ ap (λ (d : Done). d.caused) (sym (left c));
      others = ap (λ (t : Tables). t.others) same;
      places = ap places_of same ∙ rw (c.perform.ensures.promise_room, c.perform.ensures.effect_room, c.note_growth.ensures.capacity) refl;
      lists = ap (λ (t : Tables). map room_of t.streams.items) same ∙ map-put room_of old.streams.items c.args.i.0 (Readable c.in-Readable.stream) (Readable c.perform.new.self) (at c.before.before.before.before.before.before) (ap two_lists c.perform.ensures.room);
      rooms = λ none. rw (ap (λ (t : Tables). t.streams.items) same) (rooms-put old.streams.items c.args.i.0 (Readable c.in-Readable.stream) (Readable c.perform.new.self) (at c.before.before.before.before.before.before) (λ n h. tt));
      grown =
          let g = noted-grown (vec_len old.grown) (vec_len c.note_growth.new.tables.grown) (readable_price queued_alone c.args.i c.args.operation.now) (readable_price requests_alone c.args.i c.args.operation.now)
          (prices_of queued_alone c.perform.new.fx.effects) (prices_of requests_alone c.perform.new.fx.effects) c.has_room-had_room.result c.has_room-has_room.result
          t.queued.caused t.requested.caused (paid_for c.before) (rw (c.note_growth.new.tables.grown.ok.0, old.grown.ok.0, c.note_growth.ensures.grown) (noted-length old.grown.items c.args.i (c.has_room-had_room.result && not c.has_room-has_room.result))) in
          let q = ap (prices_of queued_alone) caused in
          let r = ap (prices_of requests_alone) caused in
          let o = ap (λ (t : Tables). tees_keep requests_alone (slots_of t).tees) same in
          omega (arith, g, q, r, o);
      members = ap (λ (t : Tables). map members_room t.signals.items) same;
      full =
          let none = t.members in
          let m = ap (prices_of members_alone) caused in
          let l = ap (λ (t : Tables). vec_len t.full) same in
          omega (arith, none, m, l);
    }

pub returns-clause-kept : goal.returns-clause-kept
returns-clause-kept c =
    let old = c.args.tables.now in
    let same = c.note_growth.ensures.tables in
    let is = at c.before.before.before.before.before.before in
    record {
      waiting =
          let put = waits-after old.streams.items c.args.i.0 (Readable c.in-Readable.stream) (Readable c.perform.new.self) is in
          let kept = waits-among old.streams.items c.args.i.0 (Readable c.in-Readable.stream) is in
          let waits = ap (λ (t : Tables). t.waiting) same in
          let streams = ap (λ (t : Tables). waiting_in (map stream_of t.streams.items)) same in
          omega (arith, put, kept, waits, streams, c.requires.kept.waiting);
      covered =
          rw (same, c.note_growth.ensures.grown)
          (cover old.grown.items c.args.i (Readable c.perform.new.self) c.has_room-had_room.result c.has_room-has_room.result (Readable c.in-Readable.stream) old.streams.items c.requires.kept.covered is
          (λ h. c.has_room-had_room.ensures ∙ both-have (length c.in-Readable.stream.slots.queue) c.in-Readable.stream.room.queue (length c.in-Readable.stream.slots.requests) c.in-Readable.stream.room.requests h.0.queue h.0.requests)
          (λ has.
          let both = has-both (length c.perform.new.self.slots.queue) c.perform.new.self.room.queue (length c.perform.new.self.slots.requests) c.perform.new.self.room.requests (sym c.has_room-has_room.ensures ∙ has) in
          (record { queue = both.0; requests = both.1; descriptors = tt }, tt)));
      aborts = rw same c.requires.kept.aborts;
      members = rw same c.requires.kept.members;
      copied = rw same c.requires.kept.copied;
      sourced = subst AreSourced (sym (returns-clause-performs c).slots) (row-sourced (ReadableEffect c.args.i c.args.operation.now) (slots_of old) c.requires.kept.sourced);
      counted =
          subst (λ (t : Tables). IsCounted (slots_of t)) (sym same)
          (counted-on (length old.promises.table.entries) (length c.perform.new.p.table.entries) old.pipes.items (row-more (ReadableEffect c.args.i c.args.operation.now) (slots_of old) _ (left c)) c.requires.kept.counted);
      few = subst HasFew (sym (returns-clause-performs c).slots) (row-few (ReadableEffect c.args.i c.args.operation.now) (slots_of old) c.requires.kept.few);
    }
