use Rattle.std.proofs.Common.{◌∙◌, ◌+◌, ◌-◌, [], ◌∷◌, length, sym, ap, arith}
use Rattle.ws_steps.specs.declared.effects.Effect.TheVariants.{ChunkSteps, Readable as ReadableEffect}
use Rattle.ws_steps.specs.declared.readable.ReadableOperation.TheVariants.{Enqueue}
use Rattle.ws_tables.specs.declared.tables.Stream.TheVariants.{Readable}
use Rattle.ws_tables.specs.declared.tables.Tables.{Tables}
use Rattle.ws_performing.proofs.Streams.{waits-among}
use Rattle.ws_performing.proofs.Turns.{room-for}
use Rattle.ws_direct.specs.Directly.{pulls_told}
use Rattle.ws_direct.proofs.Reaching.{effect-room, no-effects, one-left, then}
use Rattle.ws_direct.proofs.Behind.{next-all, ready-after, ready-first, then-after}
use Rattle.ws_direct.proofs.Told.{going-here, going-within, stands-going, hand-told, keep-told}
use Rattle.ws_direct.proofs.Losing.{lost-by-chunk, stays-by-request, readable-loses, readable-stays, standing}
use Rattle.ws_direct.proofs.enqueues.accept.Goals as goal

pub leave_enqueue-requires : goal.leave_enqueue-requires
leave_enqueue-requires c = effect-room 1 _ c.args.tables.now (omega arith) c.requires

pub returns-then-not-is_going : goal.returns-then-not-is_going
returns-then-not-is_going c = one-left (ReadableEffect c.args.i (Enqueue c.args.chunk)) c.args.tables.now c.leave_enqueue.new.tables c.requires c.leave_enqueue.ensures

pub index_mut-requires : goal.index_mut-requires
index_mut-requires c = let there = going-within c.args.i c.args.tables.now (sym c.is_going.ensures ∙ c.if-not-is_going.false) in omega (arith, there)

pub hand_directly-request-requires-clause-takes : goal.hand_directly-request-requires-clause-takes
hand_directly-request-requires-clause-takes c =
    let old = c.args.tables.now in
    going-here c.args.i old c.in-Readable.stream (stands-going c.args.i old c.index_mut.result.now c.in-Readable.stream (sym c.is_going.ensures ∙ c.if-not-is_going.false) c.index_mut.ensures.value c.in-Readable.is) (sym c.is_going.ensures ∙ c.if-not-is_going.false)

pub overflow_sub-tables : goal.overflow_sub-tables
overflow_sub-tables c =
    let old = c.args.tables.now in
    let at = stands-going c.args.i old c.index_mut.result.now c.in-Readable.stream (sym c.is_going.ensures ∙ c.if-not-is_going.false) c.index_mut.ensures.value c.in-Readable.is in
    let kept = waits-among old.streams.items c.args.i.0 (Readable c.in-Readable.stream) at in
    omega (arith, kept, c.hand_directly-request.ensures.requests, c.requires.kept.waiting)

pub hand-requires : goal.hand-requires
hand-requires c =
    let old = c.args.tables.now in
    let at = stands-going c.args.i old c.index_mut.result.now c.in-Readable.stream (sym c.is_going.ensures ∙ c.if-not-is_going.false) c.index_mut.ensures.value c.in-Readable.is in
    let kept = waits-among old.streams.items c.args.i.0 (Readable c.in-Readable.stream) at in
    ready-first (ChunkSteps c.args.i c.hand_directly-request.result c.args.chunk) (pulls_told c.pulls_directly-pulls.result c.args.i) (standing c.args.i c.pulls_directly-pulls.new.self (old.waiting - 1) old)
    (next-all (ReadableEffect c.args.i (Enqueue c.args.chunk) ∷ []) (ChunkSteps c.args.i c.hand_directly-request.result c.args.chunk ∷ pulls_told c.pulls_directly-pulls.result c.args.i) old (standing c.args.i c.pulls_directly-pulls.new.self (old.waiting - 1) old) c.requires.room
    (readable-stays c.args.i (Enqueue c.args.chunk) old c.in-Readable.stream c.pulls_directly-pulls.new.self (ChunkSteps c.args.i c.hand_directly-request.result c.args.chunk ∷ pulls_told c.pulls_directly-pulls.result c.args.i) at
    (hand-told c.args.i c.in-Readable.stream c.hand_directly-request.new.self c.pulls_directly-pulls.new.self c.pulls_directly-pulls.result old.promises c.pulls_directly-pulls.ensures.row c.hand_directly-request.result c.args.chunk
    (c.hand_directly-request.ensures.row c.args.i c.args.chunk old.promises no-effects))
    (c.pulls_directly-pulls.ensures.room ∙ c.hand_directly-request.ensures.room)
    (stays-by-request c.in-Readable.stream c.pulls_directly-pulls.new.self (c.pulls_directly-pulls.ensures.room ∙ c.hand_directly-request.ensures.room)
    (ap (λ xs. 1 + length xs) c.pulls_directly-pulls.ensures.requests ∙ c.hand_directly-request.ensures.requests) (c.pulls_directly-pulls.ensures.queue ∙ c.hand_directly-request.ensures.queue))
    (old.waiting - 1)
    (let same = ap length c.pulls_directly-pulls.ensures.requests in
    omega (arith, kept, same, c.hand_directly-request.ensures.requests, c.requires.kept.waiting))
    c.requires.kept)
    c.requires.quiet)

pub pull_after-requires : goal.pull_after-requires
pull_after-requires c =
    let old = c.args.tables.now in
    let at = stands-going c.args.i old c.index_mut.result.now c.in-Readable.stream (sym c.is_going.ensures ∙ c.if-not-is_going.false) c.index_mut.ensures.value c.in-Readable.is in
    let kept = waits-among old.streams.items c.args.i.0 (Readable c.in-Readable.stream) at in
    ready-after (ReadableEffect c.args.i (Enqueue c.args.chunk)) (ChunkSteps c.args.i c.hand_directly-request.result c.args.chunk ∷ []) (pulls_told c.pulls_directly-pulls.result c.args.i) old (standing c.args.i c.pulls_directly-pulls.new.self (old.waiting - 1) old) c.hand.new.tables c.hand.ensures c.requires.room
    (readable-stays c.args.i (Enqueue c.args.chunk) old c.in-Readable.stream c.pulls_directly-pulls.new.self (ChunkSteps c.args.i c.hand_directly-request.result c.args.chunk ∷ pulls_told c.pulls_directly-pulls.result c.args.i) at
    (hand-told c.args.i c.in-Readable.stream c.hand_directly-request.new.self c.pulls_directly-pulls.new.self c.pulls_directly-pulls.result old.promises c.pulls_directly-pulls.ensures.row c.hand_directly-request.result c.args.chunk
    (c.hand_directly-request.ensures.row c.args.i c.args.chunk old.promises no-effects))
    (c.pulls_directly-pulls.ensures.room ∙ c.hand_directly-request.ensures.room)
    (stays-by-request c.in-Readable.stream c.pulls_directly-pulls.new.self (c.pulls_directly-pulls.ensures.room ∙ c.hand_directly-request.ensures.room)
    (ap (λ xs. 1 + length xs) c.pulls_directly-pulls.ensures.requests ∙ c.hand_directly-request.ensures.requests) (c.pulls_directly-pulls.ensures.queue ∙ c.hand_directly-request.ensures.queue))
    (old.waiting - 1)
    (let same = ap length c.pulls_directly-pulls.ensures.requests in
    omega (arith, kept, same, c.hand_directly-request.ensures.requests, c.requires.kept.waiting))
    c.requires.kept)

pub returns-then-has_waiting_request : goal.returns-then-has_waiting_request
returns-then-has_waiting_request c =
    let old = c.args.tables.now in
    let at = stands-going c.args.i old c.index_mut.result.now c.in-Readable.stream (sym c.is_going.ensures ∙ c.if-not-is_going.false) c.index_mut.ensures.value c.in-Readable.is in
    let kept = waits-among old.streams.items c.args.i.0 (Readable c.in-Readable.stream) at in
    then-after (ReadableEffect c.args.i (Enqueue c.args.chunk)) (ChunkSteps c.args.i c.hand_directly-request.result c.args.chunk ∷ []) (pulls_told c.pulls_directly-pulls.result c.args.i) old (standing c.args.i c.pulls_directly-pulls.new.self (old.waiting - 1) old) c.hand.new.tables c.pull_after.new.tables c.hand.ensures c.pull_after.ensures
    (readable-stays c.args.i (Enqueue c.args.chunk) old c.in-Readable.stream c.pulls_directly-pulls.new.self (ChunkSteps c.args.i c.hand_directly-request.result c.args.chunk ∷ pulls_told c.pulls_directly-pulls.result c.args.i) at
    (hand-told c.args.i c.in-Readable.stream c.hand_directly-request.new.self c.pulls_directly-pulls.new.self c.pulls_directly-pulls.result old.promises c.pulls_directly-pulls.ensures.row c.hand_directly-request.result c.args.chunk
    (c.hand_directly-request.ensures.row c.args.i c.args.chunk old.promises no-effects))
    (c.pulls_directly-pulls.ensures.room ∙ c.hand_directly-request.ensures.room)
    (stays-by-request c.in-Readable.stream c.pulls_directly-pulls.new.self (c.pulls_directly-pulls.ensures.room ∙ c.hand_directly-request.ensures.room)
    (ap (λ xs. 1 + length xs) c.pulls_directly-pulls.ensures.requests ∙ c.hand_directly-request.ensures.requests) (c.pulls_directly-pulls.ensures.queue ∙ c.hand_directly-request.ensures.queue))
    (old.waiting - 1)
    (let same = ap length c.pulls_directly-pulls.ensures.requests in
    omega (arith, kept, same, c.hand_directly-request.ensures.requests, c.requires.kept.waiting))
    c.requires.kept)

pub keep_directly-requires-clause-takes : goal.keep_directly-requires-clause-takes
keep_directly-requires-clause-takes c =
    let old = c.args.tables.now in
    going-here c.args.i old c.in-Readable.stream (stands-going c.args.i old c.index_mut.result.now c.in-Readable.stream (sym c.is_going.ensures ∙ c.if-not-is_going.false) c.index_mut.ensures.value c.in-Readable.is) (sym c.is_going.ensures ∙ c.if-not-is_going.false)

pub keep_directly-requires-clause-queue : goal.keep_directly-requires-clause-queue
keep_directly-requires-clause-queue c =
    let old = c.args.tables.now in
    let at = stands-going c.args.i old c.index_mut.result.now c.in-Readable.stream (sym c.is_going.ensures ∙ c.if-not-is_going.false) c.index_mut.ensures.value c.in-Readable.is in
    ((room-for (ReadableEffect c.args.i (Enqueue c.args.chunk)) [] old c.requires.room).lists c.args.i.0 (Readable c.in-Readable.stream) at).queue

pub pull_where-requires : goal.pull_where-requires
pull_where-requires c =
    let old = c.args.tables.now in
    let at = stands-going c.args.i old c.index_mut.result.now c.in-Readable.stream (sym c.is_going.ensures ∙ c.if-not-is_going.false) c.index_mut.ensures.value c.in-Readable.is in
    next-all (ReadableEffect c.args.i (Enqueue c.args.chunk) ∷ []) (pulls_told c.pulls_directly-pulls-else-has_waiting_request.result c.args.i) old c.note_growth.new.tables c.requires.room
    (readable-loses c.args.i (Enqueue c.args.chunk) old c.in-Readable.stream c.pulls_directly-pulls-else-has_waiting_request.new.self (pulls_told c.pulls_directly-pulls-else-has_waiting_request.result c.args.i) at
    (keep-told c.args.i c.in-Readable.stream c.keep_directly.new.self c.pulls_directly-pulls-else-has_waiting_request.new.self c.pulls_directly-pulls-else-has_waiting_request.result old.promises c.pulls_directly-pulls-else-has_waiting_request.ensures.row c.args.chunk (c.keep_directly.ensures.row c.args.i old.promises no-effects))
    (c.pulls_directly-pulls-else-has_waiting_request.ensures.room ∙ c.keep_directly.ensures.room)
    c.loses_room_by_chunk-loses_room.result
    (c.loses_room_by_chunk-loses_room.ensures ∙ lost-by-chunk c.in-Readable.stream c.pulls_directly-pulls-else-has_waiting_request.new.self (c.pulls_directly-pulls-else-has_waiting_request.ensures.room ∙ c.keep_directly.ensures.room)
    ((room-for (ReadableEffect c.args.i (Enqueue c.args.chunk)) [] old c.requires.room).lists c.args.i.0 (Readable c.in-Readable.stream) at).queue (ap length c.pulls_directly-pulls-else-has_waiting_request.ensures.queue ∙ c.keep_directly.ensures.queue) (c.pulls_directly-pulls-else-has_waiting_request.ensures.requests ∙ c.keep_directly.ensures.requests))
    old.waiting c.note_growth.new.tables c.note_growth.ensures
    (let same = ap length (c.pulls_directly-pulls-else-has_waiting_request.ensures.requests ∙ c.keep_directly.ensures.requests) in
    omega (arith, same))
    c.requires.kept)
    (ap (λ (t : Tables). t.caused.effects) c.note_growth.ensures.tables ∙ c.requires.quiet)

pub returns-else-has_waiting_request : goal.returns-else-has_waiting_request
returns-else-has_waiting_request c =
    let old = c.args.tables.now in
    let at = stands-going c.args.i old c.index_mut.result.now c.in-Readable.stream (sym c.is_going.ensures ∙ c.if-not-is_going.false) c.index_mut.ensures.value c.in-Readable.is in
    then _ (pulls_told c.pulls_directly-pulls-else-has_waiting_request.result c.args.i) _ old c.note_growth.new.tables _
    (readable-loses c.args.i (Enqueue c.args.chunk) old c.in-Readable.stream c.pulls_directly-pulls-else-has_waiting_request.new.self (pulls_told c.pulls_directly-pulls-else-has_waiting_request.result c.args.i) at
    (keep-told c.args.i c.in-Readable.stream c.keep_directly.new.self c.pulls_directly-pulls-else-has_waiting_request.new.self c.pulls_directly-pulls-else-has_waiting_request.result old.promises c.pulls_directly-pulls-else-has_waiting_request.ensures.row c.args.chunk (c.keep_directly.ensures.row c.args.i old.promises no-effects))
    (c.pulls_directly-pulls-else-has_waiting_request.ensures.room ∙ c.keep_directly.ensures.room)
    c.loses_room_by_chunk-loses_room.result
    (c.loses_room_by_chunk-loses_room.ensures ∙ lost-by-chunk c.in-Readable.stream c.pulls_directly-pulls-else-has_waiting_request.new.self (c.pulls_directly-pulls-else-has_waiting_request.ensures.room ∙ c.keep_directly.ensures.room)
    ((room-for (ReadableEffect c.args.i (Enqueue c.args.chunk)) [] old c.requires.room).lists c.args.i.0 (Readable c.in-Readable.stream) at).queue (ap length c.pulls_directly-pulls-else-has_waiting_request.ensures.queue ∙ c.keep_directly.ensures.queue) (c.pulls_directly-pulls-else-has_waiting_request.ensures.requests ∙ c.keep_directly.ensures.requests))
    old.waiting c.note_growth.new.tables c.note_growth.ensures
    (let same = ap length (c.pulls_directly-pulls-else-has_waiting_request.ensures.requests ∙ c.keep_directly.ensures.requests) in
    omega (arith, same))
    c.requires.kept)
    c.pull_where.ensures
