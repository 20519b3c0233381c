use Rattle.std.proofs.Common.{◌∙◌, ◌+◌, ◌++◌, [], ◌∷◌, length, sym, ap, arith}
use Rattle.ws_steps.specs.declared.effects.Effect.TheVariants.{ChunkSteps, Readable as ReadableEffect}
use Rattle.ws_steps.specs.declared.readable.ReadRequest.TheVariants.{Pipe as PipeRequest}
use Rattle.ws_steps.specs.declared.readable.ReadableOperation.TheVariants.{Read}
use Rattle.ws_tables.specs.declared.tables.Stream.TheVariants.{Readable}
use Rattle.ws_tables.specs.declared.tables.Tables.{Tables}
use Rattle.ws_performing.proofs.Fits.{readable-here}
use Rattle.ws_performing.proofs.Streams.{waits-among}
use Rattle.ws_performing.proofs.Turns.{room-for}
use Rattle.ws_direct.specs.Directly.{pulls_told}
use Rattle.ws_direct.proofs.Reaching.{effect-room, no-effects, one-left, then}
use Rattle.ws_direct.proofs.Behind.{next-all, ready-after, ready-front, then-after}
use Rattle.ws_direct.proofs.Told.{going-here, going-within, stands-going, one-request, take-told, wait-told}
use Rattle.ws_direct.proofs.Losing.{lost-by-request, stays-by-chunk, place-lost, readable-loses, readable-stays, standing}
use Rattle.ws_direct.proofs.Streams.{read-took}
use Rattle.ws_direct.proofs.reads.read.Goals as goal

pub leave_read-requires : goal.leave_read-requires
leave_read-requires c = effect-room 1 _ c.args.tables.now (omega arith) c.requires

pub returns-then-not-is_going : goal.returns-then-not-is_going
returns-then-not-is_going c = one-left (ReadableEffect c.args.i (Read (PipeRequest c.args.p))) c.args.tables.now c.leave_read.new.tables c.requires c.leave_read.ensures

pub index_mut-requires : goal.index_mut-requires
index_mut-requires c = let there = going-within c.args.i c.args.tables.now (sym c.is_going.ensures ∙ c.if-not-is_going.false) in omega (arith, there)

pub take_directly-chunk-requires-clause-gives : goal.take_directly-chunk-requires-clause-gives
take_directly-chunk-requires-clause-gives c =
    let old = c.args.tables.now in
    going-here c.args.i old c.in-Readable.stream (stands-going c.args.i old c.index_mut.result.now c.in-Readable.stream (sym c.is_going.ensures ∙ c.if-not-is_going.false) c.index_mut.ensures.value c.in-Readable.is) (sym c.is_going.ensures ∙ c.if-not-is_going.false)

pub pull_where-requires : goal.pull_where-requires
pull_where-requires c =
    let old = c.args.tables.now in
    let at = stands-going c.args.i old c.index_mut.result.now c.in-Readable.stream (sym c.is_going.ensures ∙ c.if-not-is_going.false) c.index_mut.ensures.value c.in-Readable.is in
    ready-front (pulls_told c.pulls_directly-pulls.result c.args.i) (ChunkSteps c.args.i (PipeRequest c.args.p) c.take_directly-chunk.result ∷ []) (standing c.args.i c.pulls_directly-pulls.new.self old.waiting old)
    (next-all (ReadableEffect c.args.i (Read (PipeRequest c.args.p)) ∷ []) (pulls_told c.pulls_directly-pulls.result c.args.i ++ ChunkSteps c.args.i (PipeRequest c.args.p) c.take_directly-chunk.result ∷ []) old (standing c.args.i c.pulls_directly-pulls.new.self old.waiting old) c.requires.room
    (readable-stays c.args.i (Read (PipeRequest c.args.p)) old c.in-Readable.stream c.pulls_directly-pulls.new.self (pulls_told c.pulls_directly-pulls.result c.args.i ++ ChunkSteps c.args.i (PipeRequest c.args.p) c.take_directly-chunk.result ∷ []) at
    (take-told c.args.i c.in-Readable.stream c.take_directly-chunk.new.self c.pulls_directly-pulls.new.self c.pulls_directly-pulls.result old.promises c.pulls_directly-pulls.ensures.row (PipeRequest c.args.p) c.take_directly-chunk.result
    (c.take_directly-chunk.ensures.row c.args.i (PipeRequest c.args.p) old.promises no-effects))
    (c.pulls_directly-pulls.ensures.room ∙ c.take_directly-chunk.ensures.room)
    (stays-by-chunk c.in-Readable.stream c.pulls_directly-pulls.new.self (c.pulls_directly-pulls.ensures.room ∙ c.take_directly-chunk.ensures.room)
    (ap (λ xs. 1 + length xs) c.pulls_directly-pulls.ensures.queue ∙ c.take_directly-chunk.ensures.queue) (c.pulls_directly-pulls.ensures.requests ∙ c.take_directly-chunk.ensures.requests))
    old.waiting
    (let same = ap length (c.pulls_directly-pulls.ensures.requests ∙ c.take_directly-chunk.ensures.requests) in omega (arith, same))
    c.requires.kept)
    c.requires.quiet)

pub keep_after-requires : goal.keep_after-requires
keep_after-requires c =
    let old = c.args.tables.now in
    let at = stands-going c.args.i old c.index_mut.result.now c.in-Readable.stream (sym c.is_going.ensures ∙ c.if-not-is_going.false) c.index_mut.ensures.value c.in-Readable.is in
    ready-after (ReadableEffect c.args.i (Read (PipeRequest c.args.p))) (pulls_told c.pulls_directly-pulls.result c.args.i) (ChunkSteps c.args.i (PipeRequest c.args.p) c.take_directly-chunk.result ∷ []) old (standing c.args.i c.pulls_directly-pulls.new.self old.waiting old) c.pull_where.new.tables c.pull_where.ensures c.requires.room
    (readable-stays c.args.i (Read (PipeRequest c.args.p)) old c.in-Readable.stream c.pulls_directly-pulls.new.self (pulls_told c.pulls_directly-pulls.result c.args.i ++ ChunkSteps c.args.i (PipeRequest c.args.p) c.take_directly-chunk.result ∷ []) at
    (take-told c.args.i c.in-Readable.stream c.take_directly-chunk.new.self c.pulls_directly-pulls.new.self c.pulls_directly-pulls.result old.promises c.pulls_directly-pulls.ensures.row (PipeRequest c.args.p) c.take_directly-chunk.result
    (c.take_directly-chunk.ensures.row c.args.i (PipeRequest c.args.p) old.promises no-effects))
    (c.pulls_directly-pulls.ensures.room ∙ c.take_directly-chunk.ensures.room)
    (stays-by-chunk c.in-Readable.stream c.pulls_directly-pulls.new.self (c.pulls_directly-pulls.ensures.room ∙ c.take_directly-chunk.ensures.room)
    (ap (λ xs. 1 + length xs) c.pulls_directly-pulls.ensures.queue ∙ c.take_directly-chunk.ensures.queue) (c.pulls_directly-pulls.ensures.requests ∙ c.take_directly-chunk.ensures.requests))
    old.waiting
    (let same = ap length (c.pulls_directly-pulls.ensures.requests ∙ c.take_directly-chunk.ensures.requests) in omega (arith, same))
    c.requires.kept)

pub returns-then-has_chunk : goal.returns-then-has_chunk
returns-then-has_chunk c =
    let old = c.args.tables.now in
    let at = stands-going c.args.i old c.index_mut.result.now c.in-Readable.stream (sym c.is_going.ensures ∙ c.if-not-is_going.false) c.index_mut.ensures.value c.in-Readable.is in
    then-after (ReadableEffect c.args.i (Read (PipeRequest c.args.p))) (pulls_told c.pulls_directly-pulls.result c.args.i) (ChunkSteps c.args.i (PipeRequest c.args.p) c.take_directly-chunk.result ∷ []) old (standing c.args.i c.pulls_directly-pulls.new.self old.waiting old) c.pull_where.new.tables c.keep_after.new.tables c.pull_where.ensures c.keep_after.ensures
    (readable-stays c.args.i (Read (PipeRequest c.args.p)) old c.in-Readable.stream c.pulls_directly-pulls.new.self (pulls_told c.pulls_directly-pulls.result c.args.i ++ ChunkSteps c.args.i (PipeRequest c.args.p) c.take_directly-chunk.result ∷ []) at
    (take-told c.args.i c.in-Readable.stream c.take_directly-chunk.new.self c.pulls_directly-pulls.new.self c.pulls_directly-pulls.result old.promises c.pulls_directly-pulls.ensures.row (PipeRequest c.args.p) c.take_directly-chunk.result
    (c.take_directly-chunk.ensures.row c.args.i (PipeRequest c.args.p) old.promises no-effects))
    (c.pulls_directly-pulls.ensures.room ∙ c.take_directly-chunk.ensures.room)
    (stays-by-chunk c.in-Readable.stream c.pulls_directly-pulls.new.self (c.pulls_directly-pulls.ensures.room ∙ c.take_directly-chunk.ensures.room)
    (ap (λ xs. 1 + length xs) c.pulls_directly-pulls.ensures.queue ∙ c.take_directly-chunk.ensures.queue) (c.pulls_directly-pulls.ensures.requests ∙ c.take_directly-chunk.ensures.requests))
    old.waiting
    (let same = ap length (c.pulls_directly-pulls.ensures.requests ∙ c.take_directly-chunk.ensures.requests) in omega (arith, same))
    c.requires.kept)

pub wait_directly-requires-clause-gives : goal.wait_directly-requires-clause-gives
wait_directly-requires-clause-gives c =
    let old = c.args.tables.now in
    going-here c.args.i old c.in-Readable.stream (stands-going c.args.i old c.index_mut.result.now c.in-Readable.stream (sym c.is_going.ensures ∙ c.if-not-is_going.false) c.index_mut.ensures.value c.in-Readable.is) (sym c.is_going.ensures ∙ c.if-not-is_going.false)

pub wait_directly-requires-clause-requests : goal.wait_directly-requires-clause-requests
wait_directly-requires-clause-requests c =
    let old = c.args.tables.now in
    let at = stands-going c.args.i old c.index_mut.result.now c.in-Readable.stream (sym c.is_going.ensures ∙ c.if-not-is_going.false) c.index_mut.ensures.value c.in-Readable.is in
    (let here = readable-here c.args.i (Read (PipeRequest c.args.p)) in
    let one = one-request c.args.i (PipeRequest c.args.p) in
    let r = ((room-for (ReadableEffect c.args.i (Read (PipeRequest c.args.p))) [] old c.requires.room).lists c.args.i.0 (Readable c.in-Readable.stream) at).requests in
    omega (arith, here, one, r))

pub overflow_add-tables : goal.overflow_add-tables
overflow_add-tables c =
    let old = c.args.tables.now in
    let at = stands-going c.args.i old c.index_mut.result.now c.in-Readable.stream (sym c.is_going.ensures ∙ c.if-not-is_going.false) c.index_mut.ensures.value c.in-Readable.is in
    let kept = waits-among old.streams.items c.args.i.0 (Readable c.in-Readable.stream) at in
    let turns = (read-took c.args.i (Read (PipeRequest c.args.p)) old c.in-Readable.stream c.pulls_directly-pulls-else-has_chunk.new.self old.promises.table (pulls_told c.pulls_directly-pulls-else-has_chunk.result c.args.i) at
    (wait-told c.args.i c.in-Readable.stream c.wait_directly.new.self c.pulls_directly-pulls-else-has_chunk.new.self c.pulls_directly-pulls-else-has_chunk.result old.promises c.pulls_directly-pulls-else-has_chunk.ensures.row (PipeRequest c.args.p) (c.wait_directly.ensures.row c.args.i old.promises no-effects))).turns in
    let small = old.others.small in
    let same = ap length c.pulls_directly-pulls-else-has_chunk.ensures.requests in
    omega (arith, kept, turns, small, same, c.wait_directly.ensures.requests, c.requires.kept.waiting, c.requires.room.others)

pub note_growth-requires : goal.note_growth-requires
note_growth-requires c = record {
  room = λ had has.
      let old = c.args.tables.now in
      let at = stands-going c.args.i old c.index_mut.result.now c.in-Readable.stream (sym c.is_going.ensures ∙ c.if-not-is_going.false) c.index_mut.ensures.value c.in-Readable.is in
      place-lost c.args.i (Read (PipeRequest c.args.p)) old c.in-Readable.stream c.pulls_directly-pulls-else-has_chunk.new.self (pulls_told c.pulls_directly-pulls-else-has_chunk.result c.args.i) at
      (wait-told c.args.i c.in-Readable.stream c.wait_directly.new.self c.pulls_directly-pulls-else-has_chunk.new.self c.pulls_directly-pulls-else-has_chunk.result old.promises c.pulls_directly-pulls-else-has_chunk.ensures.row (PipeRequest c.args.p) (c.wait_directly.ensures.row c.args.i old.promises no-effects))
      (c.pulls_directly-pulls-else-has_chunk.ensures.room ∙ c.wait_directly.ensures.room)
      c.loses_room_by_request-loses_room.result
      (c.loses_room_by_request-loses_room.ensures ∙ lost-by-request c.in-Readable.stream c.pulls_directly-pulls-else-has_chunk.new.self (c.pulls_directly-pulls-else-has_chunk.ensures.room ∙ c.wait_directly.ensures.room)
      (let here = readable-here c.args.i (Read (PipeRequest c.args.p)) in
      let one = one-request c.args.i (PipeRequest c.args.p) in
      let r = ((room-for (ReadableEffect c.args.i (Read (PipeRequest c.args.p))) [] old c.requires.room).lists c.args.i.0 (Readable c.in-Readable.stream) at).requests in
      omega (arith, here, one, r))
      (ap length c.pulls_directly-pulls-else-has_chunk.ensures.requests ∙ c.wait_directly.ensures.requests) (c.pulls_directly-pulls-else-has_chunk.ensures.queue ∙ c.wait_directly.ensures.queue))
      c.requires.room had;
}

pub pull_where-requires-else-has_chunk : goal.pull_where-requires-else-has_chunk
pull_where-requires-else-has_chunk c =
    let old = c.args.tables.now in
    let at = stands-going c.args.i old c.index_mut.result.now c.in-Readable.stream (sym c.is_going.ensures ∙ c.if-not-is_going.false) c.index_mut.ensures.value c.in-Readable.is in
    next-all (ReadableEffect c.args.i (Read (PipeRequest c.args.p)) ∷ []) (pulls_told c.pulls_directly-pulls-else-has_chunk.result c.args.i) old c.note_growth.new.tables c.requires.room
    (readable-loses c.args.i (Read (PipeRequest c.args.p)) old c.in-Readable.stream c.pulls_directly-pulls-else-has_chunk.new.self (pulls_told c.pulls_directly-pulls-else-has_chunk.result c.args.i) at
    (wait-told c.args.i c.in-Readable.stream c.wait_directly.new.self c.pulls_directly-pulls-else-has_chunk.new.self c.pulls_directly-pulls-else-has_chunk.result old.promises c.pulls_directly-pulls-else-has_chunk.ensures.row (PipeRequest c.args.p) (c.wait_directly.ensures.row c.args.i old.promises no-effects))
    (c.pulls_directly-pulls-else-has_chunk.ensures.room ∙ c.wait_directly.ensures.room)
    c.loses_room_by_request-loses_room.result
    (c.loses_room_by_request-loses_room.ensures ∙ lost-by-request c.in-Readable.stream c.pulls_directly-pulls-else-has_chunk.new.self (c.pulls_directly-pulls-else-has_chunk.ensures.room ∙ c.wait_directly.ensures.room)
    (let here = readable-here c.args.i (Read (PipeRequest c.args.p)) in
    let one = one-request c.args.i (PipeRequest c.args.p) in
    let r = ((room-for (ReadableEffect c.args.i (Read (PipeRequest c.args.p))) [] old c.requires.room).lists c.args.i.0 (Readable c.in-Readable.stream) at).requests in
    omega (arith, here, one, r))
    (ap length c.pulls_directly-pulls-else-has_chunk.ensures.requests ∙ c.wait_directly.ensures.requests) (c.pulls_directly-pulls-else-has_chunk.ensures.queue ∙ c.wait_directly.ensures.queue))
    (old.waiting + 1) c.note_growth.new.tables c.note_growth.ensures
    (let same = ap length c.pulls_directly-pulls-else-has_chunk.ensures.requests in
    omega (arith, same, c.wait_directly.ensures.requests))
    c.requires.kept)
    (ap (λ (t : Tables). t.caused.effects) c.note_growth.ensures.tables ∙ c.requires.quiet)

pub returns-else-has_chunk : goal.returns-else-has_chunk
returns-else-has_chunk c =
    let old = c.args.tables.now in
    let at = stands-going c.args.i old c.index_mut.result.now c.in-Readable.stream (sym c.is_going.ensures ∙ c.if-not-is_going.false) c.index_mut.ensures.value c.in-Readable.is in
    then _ (pulls_told c.pulls_directly-pulls-else-has_chunk.result c.args.i) _ old c.note_growth.new.tables _
    (readable-loses c.args.i (Read (PipeRequest c.args.p)) old c.in-Readable.stream c.pulls_directly-pulls-else-has_chunk.new.self (pulls_told c.pulls_directly-pulls-else-has_chunk.result c.args.i) at
    (wait-told c.args.i c.in-Readable.stream c.wait_directly.new.self c.pulls_directly-pulls-else-has_chunk.new.self c.pulls_directly-pulls-else-has_chunk.result old.promises c.pulls_directly-pulls-else-has_chunk.ensures.row (PipeRequest c.args.p) (c.wait_directly.ensures.row c.args.i old.promises no-effects))
    (c.pulls_directly-pulls-else-has_chunk.ensures.room ∙ c.wait_directly.ensures.room)
    c.loses_room_by_request-loses_room.result
    (c.loses_room_by_request-loses_room.ensures ∙ lost-by-request c.in-Readable.stream c.pulls_directly-pulls-else-has_chunk.new.self (c.pulls_directly-pulls-else-has_chunk.ensures.room ∙ c.wait_directly.ensures.room)
    (let here = readable-here c.args.i (Read (PipeRequest c.args.p)) in
    let one = one-request c.args.i (PipeRequest c.args.p) in
    let r = ((room-for (ReadableEffect c.args.i (Read (PipeRequest c.args.p))) [] old c.requires.room).lists c.args.i.0 (Readable c.in-Readable.stream) at).requests in
    omega (arith, here, one, r))
    (ap length c.pulls_directly-pulls-else-has_chunk.ensures.requests ∙ c.wait_directly.ensures.requests) (c.pulls_directly-pulls-else-has_chunk.ensures.queue ∙ c.wait_directly.ensures.queue))
    (old.waiting + 1) c.note_growth.new.tables c.note_growth.ensures
    (let same = ap length c.pulls_directly-pulls-else-has_chunk.ensures.requests in
    omega (arith, same, c.wait_directly.ensures.requests))
    c.requires.kept)
    c.pull_where-else-has_chunk.ensures
