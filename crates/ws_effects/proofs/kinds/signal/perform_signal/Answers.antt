use Rattle.std.proofs.Common.{◌≡◌, ◌∙◌, ◌&&◌, not, true, false, Some, List, ◌++◌, length, map, refl, sym, ap, subst, ◌<◌, arith}
use Rattle.std.specs.Prelude.{slice_get, slice_set, vec_len, nat_lt}
use Rattle.std.proofs.lemmas.List.{length-map}
use Rattle.ws_steps.specs.declared.effects.Effect.{Effect}
use Rattle.ws_steps.specs.declared.effects.Effect.TheVariants.{Signal}
use Rattle.ws_steps.specs.Operations.{signal_operation}
use Rattle.ws_steps.specs.Pipes as pipe
use Rattle.ws_steps.specs.Places.{prices_of, tees_keep, own_signal, queued_alone, requests_alone, members_alone}
use Rattle.ws_steps.specs.Slots.{Done, put_signal}
use Rattle.ws_steps.specs.Turns.{row}
use Rattle.ws_steps.proofs.StreamLaws.{map-set}
use Rattle.ws_tables.specs.declared.tables.Tables.{Tables}
use Rattle.ws_tables.specs.View.{slots_of, signal_of}
use Rattle.ws_tables.specs.Room.{places_of, room_of, members_room, aborts_in, HasFew, AreSourced, IsCounted}
use Rattle.ws_performing.proofs.Records.{signal-absent, signal-row, signal-own, SignalTook, signal-did, aborts-among, aborts-after, paid-member, has-place, place-has, noted-full, cover-signal}
use Rattle.ws_tables.proofs.Elements.{stands-at, get-map, map-put}
use Rattle.ws_performing.proofs.Streams.{noted-length}
use Rattle.ws_effects.proofs.kinds.signal.perform_signal.Goals as goal

pub returns-then-len-a-clause-performs : goal.returns-then-len-a-clause-performs
returns-then-len-a-clause-performs c =
    signal-absent c.args.a c.args.operation.now c.args.tables.now (rw (length-map c.args.tables.now.signals.items signal_of) (omega (arith, c.args.tables.now.signals.ok.0))) c.requires.quiet

pub perform-requires-clause-room : goal.perform-requires-clause-room
perform-requires-clause-room c =
    c.requires.room.members c.args.a.0 c.index_mut-signal.result.now
    (stands-at c.args.tables.now.signals.items c.args.a.0 c.index_mut-signal.result.now c.index_mut-signal.result.now (omega arith) c.index_mut-signal.ensures.value)

pub perform-requires-clause-effect_room : goal.perform-requires-clause-effect_room
perform-requires-clause-effect_room c =
    let is = stands-at c.args.tables.now.signals.items c.args.a.0 c.index_mut-signal.result.now c.index_mut-signal.result.now (omega arith) c.index_mut-signal.ensures.value in
    let among = aborts-among c.args.tables.now.signals.items c.args.a.0 c.index_mut-signal.result.now is in
    let quiet = ap length c.requires.quiet in
    omega (arith, among, c.requires.kept.aborts, quiet, c.requires.room.caused)

at : (c : goal.After-perform) → slice_get c.args.tables.now.signals.items c.args.a.0 ≡ Some c.index_mut-signal.result.now
at c = stands-at c.args.tables.now.signals.items c.args.a.0 c.index_mut-signal.result.now c.index_mut-signal.result.now (omega arith) c.index_mut-signal.ensures.value

took : (c : goal.After-perform) → SignalTook c.args.operation.now c.index_mut-signal.result.now.signal c.perform.new.self.signal c.perform.new.fx.effects
took c =
    signal-did c.args.operation.now c.index_mut-signal.result.now c.perform.new.self c.args.tables.now.caused.effects c.perform.new.fx.effects
    c.requires.quiet c.perform.ensures.signal c.perform.ensures.effects

pub overflow_sub-tables : goal.overflow_sub-tables
overflow_sub-tables c =
    let among = aborts-among c.args.tables.now.signals.items c.args.a.0 c.index_mut-signal.result.now (at c) in
    omega (arith, among, c.requires.kept.aborts, c.aborts-aborted.ensures)

pub overflow_add-tables : goal.overflow_add-tables
overflow_add-tables c =
    let among = aborts-among c.args.tables.now.signals.items c.args.a.0 c.index_mut-signal.result.now (at c.before) in
    let turns = (took c.before).turns in
    let small = c.args.tables.now.others.small in
    omega (arith, among, turns, small, c.requires.kept.aborts, c.requires.room.others, c.aborts-aborted.ensures, c.aborts.ensures)

paid_for : (c : goal.After-note_full-arg-1) → c.has_room-had_room.result ≡ true → c.has_room-has_room.result ≡ false → prices_of members_alone c.perform.new.fx.effects < own_signal members_alone c.args.operation.now
paid_for c had has =
    paid-member (length c.index_mut-signal.result.now.signal.pipes) (length c.perform.new.self.signal.pipes) (own_signal members_alone c.args.operation.now) (prices_of members_alone c.perform.new.fx.effects)
    c.index_mut-signal.result.now.room (took c.before.before.before.before).members (sym c.has_room-had_room.ensures ∙ had)
    (ap (λ n. nat_lt (length c.perform.new.self.signal.pipes) n) (sym c.perform.ensures.room) ∙ (sym c.has_room-has_room.ensures ∙ has))

pub note_full-requires : goal.note_full-requires
note_full-requires c = record {
  room = λ had has. let less = paid_for c had has in let room = c.requires.room.full in omega (arith, less, room);
}

-- what the operation leaves and causes
left : (c : goal.After-note_full) → row (Signal c.args.a c.args.operation.now) (slots_of c.args.tables.now) ≡ put_signal c.args.a (slots_of c.args.tables.now) (signal_operation c.args.operation.now c.index_mut-signal.result.now.signal)
left c =
    signal-row c.args.a c.args.operation.now (slots_of c.args.tables.now) c.index_mut-signal.result.now.signal
    (get-map signal_of c.args.tables.now.signals.items c.args.a.0 c.index_mut-signal.result.now (at c.before.before.before.before.before))

pub returns-clause-performs : goal.returns-clause-performs
returns-clause-performs c =
    let old = c.args.tables.now in
    let y = c.perform.new.self in
    let same = c.note_full.ensures.tables in
    let t = took c.before.before.before.before.before in
    let own = signal-own c.args.operation.now in
    let caused : c.note_full.new.tables.caused.effects ≡ c.perform.new.fx.effects = ap (λ (t : Tables). t.caused.effects) same in
    let effects = c.perform.ensures.effects ∙ ap (λ (es : List Effect). es ++ (signal_operation c.args.operation.now c.index_mut-signal.result.now.signal).effects) c.requires.quiet in
    record {
      slots =
          ap slots_of same
          ∙ (ap (λ (xs : List pipe.Signal). record (slots_of old) { signals = xs })
          (map-set signal_of old.signals.items c.args.a.0 y ∙ ap (λ (z : pipe.Signal). slice_set (map signal_of old.signals.items) c.args.a.0 z) c.perform.ensures.signal)
          ∙ ap (λ (d : Done). d.slots) (sym (left c)));
      caused = caused ∙ (effects ∙ ap (λ (d : Done). d.caused) (sym (left c)));
      others = ap (λ (t : Tables). t.others) same;
      places = ap places_of same ∙ rw (c.perform.ensures.capacity, c.note_full.ensures.capacity) refl;
      lists = ap (λ (t : Tables). map room_of t.streams.items) same;
      rooms = λ none n h. rw (ap (λ (t : Tables). t.streams.items) same) h;
      grown =
          let q = ap (prices_of queued_alone) caused in
          let r = ap (prices_of requests_alone) caused in
          let g = ap (λ (t : Tables). vec_len t.grown) same in
          let tq = t.queued in let tr = t.requested in
          let o = ap (λ (t : Tables). tees_keep requests_alone (slots_of t).tees) same in
          omega (arith, q, r, g, tq, tr, o);
      members = ap (λ (t : Tables). map members_room t.signals.items) same ∙ map-put members_room old.signals.items c.args.a.0 c.index_mut-signal.result.now y (at c.before.before.before.before.before) c.perform.ensures.room;
      full =
          let g = noted-full (vec_len old.full) (vec_len c.note_full.new.tables.full) (own_signal members_alone c.args.operation.now) (prices_of members_alone c.perform.new.fx.effects)
          c.has_room-had_room.result c.has_room-has_room.result t.members.caused (paid_for c.before)
          (rw (c.note_full.new.tables.full.ok.0, old.full.ok.0, c.note_full.ensures.full) (noted-length old.full.items c.args.a (c.has_room-had_room.result && not c.has_room-has_room.result))) in
          let m = ap (prices_of members_alone) caused in
          omega (arith, g, m, own);
    }

pub returns-clause-kept : goal.returns-clause-kept
returns-clause-kept c =
    let old = c.args.tables.now in
    let x = c.index_mut-signal.result.now in
    let y = c.perform.new.self in
    let same = c.note_full.ensures.tables in
    let is = at c.before.before.before.before.before in
    record {
      waiting = rw same c.requires.kept.waiting;
      covered = rw same c.requires.kept.covered;
      aborts =
          let put = aborts-after old.signals.items c.args.a.0 x y is in
          let among = aborts-among old.signals.items c.args.a.0 x is in
          let aborts = ap (λ (t : Tables). t.aborts) same in
          let signals = ap (λ (t : Tables). aborts_in (map signal_of t.signals.items)) same in
          omega (arith, put, among, aborts, signals, c.requires.kept.aborts, c.aborts-aborted.ensures, c.aborts.ensures);
      members =
          rw (same, c.note_full.ensures.full)
          (cover-signal old.full.items c.args.a y c.has_room-had_room.result c.has_room-has_room.result x old.signals.items c.requires.kept.members is
          (λ h. c.has_room-had_room.ensures ∙ place-has (length x.signal.pipes) x.room h)
          (λ has. has-place (length y.signal.pipes) y.room (sym c.has_room-has_room.ensures ∙ has)));
      copied = rw same c.requires.kept.copied;
      sourced = subst (λ (t : Tables). AreSourced (slots_of t)) (sym same) c.requires.kept.sourced;
      counted = subst (λ (t : Tables). IsCounted (slots_of t)) (sym same) c.requires.kept.counted;
      few = subst (λ (t : Tables). HasFew (slots_of t)) (sym same) c.requires.kept.few;
    }
