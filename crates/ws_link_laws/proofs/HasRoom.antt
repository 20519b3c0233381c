-- Room for one chunk on a link, over any run that leaves it alone (`each_link_has_room`).
use Rattle.std.proofs.Common.{◌≡◌, ℕ, zero, suc, ◌+◌, ◌≤◌, ◌||◌, true, List, [], ◌∷◌, length, Option, Some, None, slice_get, refl, ap, arith}
use Rattle.ws_value.specs.declared.ids.PipeId.{PipeId}
use Rattle.ws_value.specs.declared.ids.PromiseId.{PromiseId}
use Rattle.ws_value.specs.declared.ids.SignalId.{SignalId}
use Rattle.ws_value.specs.declared.ids.StreamId.{StreamId}
use Rattle.ws_value.specs.declared.value.Plain.{Plain}
use Rattle.ws_steps.specs.declared.calls.Call.{Call}
use Rattle.ws_steps.specs.declared.calls.Call.TheVariants.{Pipe}
use Rattle.ws_steps.specs.declared.calls.Reply.{Reply}
use Rattle.ws_steps.specs.declared.calls.Reply.TheVariants.{Promise}
use Rattle.ws_steps.specs.declared.effects.Effect.{Effect}
use Rattle.ws_steps.specs.declared.pipes.Prevent.{Prevent}
use Rattle.ws_steps.specs.declared.promises.Job.{Job}
use Rattle.ws_steps.specs.declared.queue.Queued.{Queued}
use Rattle.ws_steps.specs.declared.readable.SizeBy.TheVariants.{Count}
use Rattle.ws_steps.specs.declared.writable.WriteRecord.{WriteRecord}
use Rattle.ws_steps.specs.declared.writable.WriteRecord.TheVariants.{Chunk, InFlight, CloseMark}
use Rattle.ws_steps.specs.PipeCalls as pipe_calls
use Rattle.ws_steps.specs.Calls.{begin, named}
use Rattle.ws_steps.specs.Jobs.{job_effects, job_begun, begin_job}
use Rattle.ws_steps.specs.Pipes as pipe
use Rattle.ws_steps.specs.Promises.{next_id, fresh, next_job}
use Rattle.ws_steps.specs.Queues.{total_of}
use Rattle.ws_steps.specs.Run.{Entry, Called, Worked, Heard, step, run, older, after_call, after_job}
use Rattle.ws_steps.specs.Slots.{Slots, Stream, ReadableStream, ByteStream, WritableStream, Done, is_readable_stream, is_byte_stream, as_source, writable_at, pipe_at, as_writable, as_pipe}
use Rattle.ws_steps.specs.Turns.{performed}
use Rattle.ws_laws.proofs.Lists.{Each, each-map}
use Rattle.ws_laws.proofs.Truth.{and_left, and_right}
use Rattle.ws_room_laws.proofs.Turns.{performed-kept}
use Rattle.ws_pipe_laws.specs.pipes.PipeReads.{held_values, in_requests, in_stream, in_streams, one_if}
use Rattle.ws_pipe_laws.proofs.pipes.PassingRuns.{Few}
use Rattle.ws_writable_laws.proofs.Shape.{all}
use Rattle.ws_link_laws.specs.Laws.{entry_leaves, all_leave}
use Rattle.ws_link_laws.specs.Room.{Full, Sized, HasRoom, place_of, places_of, taken_places, EachLinkHasRoom, EachLinkBeginsWithRoom}
use Rattle.ws_link_laws.specs.Sound.{IsLink, IsFree, IsThere}
use Rattle.ws_link_laws.specs.Link.{leaves}
use Rattle.ws_link_laws.proofs.Rooms.{total-cons}
use Rattle.ws_link_laws.proofs.RoomTurns.{Room, more_on, no_more-all, row-room}
use Rattle.ws_link_laws.proofs.Standing.{Sound}
use Rattle.ws_link_laws.proofs.Turns.{row-turned}
use Rattle.ws_link_laws.proofs.Outer.{IsOuter}
use Rattle.ws_link_laws.proofs.Steps as steps
use Rattle.ws_link_laws.proofs.Steps.{the_stream, stream_at, source_there, link-called, link-worked, link-sound}
use Rattle.ws_link_laws.proofs.Keeps.{entry-keeps}
use Rattle.ws_link_laws.proofs.Begins as begins

-- at each moment the link is sound and has room

pub record Both (i j : StreamId) (p : PipeId) (s : Slots) (es : List Effect) : Type 0 where
  pub sound : Sound i j p s es
  pub room : Room j p s es

performed-both : (i j : StreamId) (p : PipeId) (d : Done) → Both i j p d.slots d.caused → Both i j p (performed d) []
performed-both i j p d h =
    performed-kept (λ ms s es. Both i j p s es) (λ ms s e es k. record { sound = (row-turned i j p s e es k.sound).sound; room = row-room i j p e s es k.sound k.room }) d h

rest-room : (j : StreamId) (p : PipeId) (s : Slots) → HasRoom j p s → Room j p s []
rest-room j p s h = record { mark = h.mark; size = h.size; sized = h.sized; room = let r = h.room in omega (arith, r) }

room-rest : (j : StreamId) (p : PipeId) (s : Slots) → Room j p s [] → HasRoom j p s
room-rest j p s h = record { mark = h.mark; size = h.size; sized = h.sized; room = let r = h.room in omega (arith, r) }

-- effects with which a call or a job begins, and that write nothing to the destination

begun-room : (j : StreamId) (p : PipeId) (s z : Slots) (cs : List Effect) → writable_at j z ≡ writable_at j s → pipe_at p z ≡ pipe_at p s → all (more_on j) cs ≡ 0 → HasRoom j p s → Room j p z cs
begun-room j p s z cs a b n h = record { mark = rw a h.mark; size = rw a h.size; sized = rw a h.sized; room = let r = h.room in rw (a, b) (omega (arith, r, n)) }

abbrev IsNoMore : StreamId → Effect → Type 0
IsNoMore j e = more_on j e ≡ 0

outer-more : (i j : StreamId) (e : Effect) → IsOuter i j e → IsNoMore j e
outer-more i j e o = grind (arith, o)

job-more : (j : StreamId) (job : Job) → Each (IsNoMore j) (job_effects job)
job-more j job = grind arith

begun-more : (j : StreamId) (p : PipeId) (s : Slots) (o : Option Job) → HasRoom j p s → Room j p (job_begun s o).slots (job_begun s o).caused
begun-more j p s None h = rest-room j p s h
begun-more j p s (Some job) h = begun-room j p s _ (job_effects job) refl refl (no_more-all j (job_effects job) (job-more j job)) h

named-room : (j : StreamId) (p : PipeId) (reply : Reply) (s : Slots) → Room j p s [] → HasRoom j p (older (named reply s))
named-room j p (Promise q) s h = record { mark = h.mark; size = h.size; sized = h.sized; room = let r = h.room in omega (arith, r) }
named-room j p _ s h = record { mark = h.mark; size = h.size; sized = h.sized; room = let r = h.room in omega (arith, r) }

worked-room : (i j : StreamId) (p : PipeId) (s : Slots) → IsLink i j p s → HasRoom j p s → HasRoom j p (after_job s)
unfolding begin_job
worked-room i j p s l h =
    let d : Done = job_begun s (next_job s.promises) in
    let b = steps.begun-from i j p s (next_job s.promises) refl (link-sound i j p s l) in
    let z = performed-both i j p d (record { sound = b.sound; room = begun-more j p s (next_job s.promises) h }) in
    let r = room-rest j p (performed d) z.room in
    record { mark = r.mark; size = r.size; sized = r.sized; room = r.room }

called-room : (i j : StreamId) (p : PipeId) (s : Slots) (c : Call) → IsLink i j p s → leaves i j c ≡ true → HasRoom j p s → HasRoom j p (after_call c s)
called-room i j p s c l e h =
    let d : Done = (begin c s).done in
    let g = steps.grown i j p s c l e in
    let o = no_more-all j d.caused (each-map (IsOuter i j) (IsNoMore j) (outer-more i j) d.caused (steps.begins i j p s c l e).outer) in
    let z = performed-both i j p d (record { sound = (steps.begun i j p s c l e).sound; room = begun-room j p s d.slots d.caused (ap as_writable g.sink) (ap as_pipe g.there) o h }) in
    named-room j p (begin c s).reply (performed d) z.room

entry-room : (i j : StreamId) (p : PipeId) (s : Slots) (x : Entry) → IsLink i j p s → entry_leaves i j x ≡ true → HasRoom j p s → HasRoom j p (step s x)
entry-room i j p s (Called c) l e h = called-room i j p s c l e h
entry-room i j p s Worked l e h = worked-room i j p s l h
entry-room i j p s Heard l e h = record { mark = h.mark; size = h.size; sized = h.sized; room = h.room }

run-room : (i j : StreamId) (p : PipeId) (entries : List Entry) (s : Slots) → IsLink i j p s → all_leave i j entries ≡ true → HasRoom j p s → IsLink i j p (run entries s) × HasRoom j p (run entries s)
run-room i j p [] s l e h = (l, h)
run-room i j p (x ∷ xs) s l e h =
    let a = and_left (entry_leaves i j x) (all_leave i j xs) e in
    run-room i j p xs (step s x) (entry-keeps i j p s x l a).0 (and_right (entry_leaves i j x) (all_leave i j xs) e) (entry-room i j p s x l a h)

-- at rest, at most one place is taken

place_full : (r : WriteRecord) (n : ℕ) → Full r n → place_of r ≤ n
place_full (Chunk v) n f = f
place_full InFlight n f = f
place_full CloseMark n f = omega arith

places_total : (qs : List (Queued WriteRecord)) → Sized qs → places_of qs ≤ total_of qs
places_total [] s = omega arith
places_total (q ∷ qs) s = let h = places_total qs s.1 in let g = place_full q.value q.size s.0 in let a = total-cons q qs in omega (arith, h, g, a)

requests_there : (p : PipeId) (xs : List Stream) (n : ℕ) (x : Stream) → slice_get xs n ≡ Some x → in_stream p x ≤ in_streams p xs
requests_there p [] n x e = cc
requests_there p (z ∷ xs) zero x e = let is : z ≡ x = cc in let k = ap (in_stream p) is in omega (arith, k)
requests_there p (z ∷ xs) (suc n) x e = let h = requests_there p xs n x e in omega (arith, h)

few_there : (p : PipeId) (s : Slots) (x : pipe.Slots) → slice_get s.pipes p.0 ≡ Some x → Few p s [] → in_streams p s.streams + length (held_values x.held) ≤ one_if x.reading
few_there p s x e w = let f : in_streams p s.streams + 0 + length (held_values x.held) ≤ one_if x.reading = rw e at w in omega (arith, f)

-- how the requests of a stream are seen
requests-of : (p : PipeId) (o : Option Stream) → is_readable_stream o || is_byte_stream o ≡ true → in_stream p (the_stream o) ≡ in_requests p (as_source o).requests
requests-of p None e = cc
requests-of p (Some (ReadableStream r)) e = refl
requests-of p (Some (ByteStream b)) e = refl
requests-of p (Some (WritableStream w)) e = cc

one-place : (i j : StreamId) (p : PipeId) (s : Slots) → IsLink i j p s → HasRoom j p s → taken_places i j p s ≤ 1
one-place i j p s l h =
    let so = link-sound i j p s l in
    let a = places_total (writable_at j s).queue h.sized in
    let b = few_there p s (pipe_at p s) l.there so.few in
    let c = requests_there p s.streams i.0 (stream_at i s) (source_there (slice_get s.streams i.0) l.source) in
    let d = requests-of p (slice_get s.streams i.0) l.source in
    let r = h.room in
    omega (arith, a, b, c, d, r)

pub each_link_has_room : EachLinkHasRoom
each_link_has_room i j p s entries l h e = let k = run-room i j p entries s l e h in record { room = k.1; one = one-place i j p (run entries s) k.0 k.1 }

-- a new pipe

begins-more : (j : StreamId) (me : PipeId) (a b : PromiseId) (signal : Option SignalId) (reason : Option Plain) → all (more_on j) (pipe_calls.pipe_begins me a b signal reason) ≡ 0
begins-more j me a b signal (Some r) = refl
begins-more j me a b None None = refl
begins-more j me a b (Some g) None = refl

new-room : (i j : StreamId) (prevent : Prevent) (signal : Option SignalId) (s : Slots) → IsFree i j s → IsThere signal s → (writable_at j s).hwm ≡ 1 → (writable_at j s).size_by ≡ Count → HasRoom j (record { 0 = length s.pipes }) (after_call (Pipe i j prevent signal) s)
new-room i j prevent signal s free there mark size =
    let p : PipeId = record { 0 = length s.pipes } in
    let d : Done = begins.d i j prevent signal s free there in
    let at : pipe_at p d.slots ≡ begins.y i j prevent signal s free there = begins.at i j prevent signal s free there in
    let n = begins-more j p (next_id s.promises) (next_id (fresh (fresh s.promises))) signal (pipe_calls.reason_of signal s) in
    let sized : Sized (writable_at j s).queue = rw free.queue tt in
    let total : total_of (writable_at j s).queue ≡ 0 = ap total_of free.queue in
    let none : all (more_on j) d.caused ≡ 0 = omega (arith, n) in
    let r : Room j p d.slots d.caused = record { mark = mark; size = size; sized = sized; room = rw at (omega (arith, none, total)) } in
    let z = performed-both i j p d (record { sound = (begins.begun i j prevent signal s free there).sound; room = r }) in
    rw (begins.is_begun i j prevent signal s free there) (named-room j p (begins.b i j prevent signal s free there).reply (performed d) z.room)

pub each_link_begins_with_room : EachLinkBeginsWithRoom
each_link_begins_with_room i j prevent signal s free there mark size =
    let r = new-room i j prevent signal s free there mark size in
    record { room = r; one = one-place i j (record { 0 = length s.pipes }) (after_call (Pipe i j prevent signal) s) (begins.link-begins i j prevent signal s free there) r }
