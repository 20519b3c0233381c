-- What the readable end of a port asks for, over calls, jobs and runs (`each_end_asks_in_turn`).
use Rattle.std.proofs.Common.{◌≡◌, ℕ, zero, suc, ◌+◌, ◌≤◌, Bool, true, false, not, if◌then◌else◌, List, [], ◌∷◌, ◌++◌, length, map, Option, Some, None, slice_get, refl, sym, ap, subst, ◌∙◌, arith}
use Rattle.ws_value.specs.declared.ids.{PipeId.{PipeId}, PortId.{PortId}, PromiseId.{PromiseId}, StreamId.{StreamId}}
use Rattle.ws_value.specs.declared.value.Message.{Message}
use Rattle.ws_value.specs.declared.value.Message.TheVariants.{Pull as PullMessage, Chunk as ChunkMessage, Close as CloseMessage, Error as ErrorMessage}
use Rattle.ws_steps.specs.declared.byte.ByteOperation.{ByteOperation}
use Rattle.ws_steps.specs.declared.calls.Call.{Call}
use Rattle.ws_steps.specs.declared.calls.Call.TheVariants.{Deliver}
use Rattle.ws_steps.specs.declared.calls.Event.{Event}
use Rattle.ws_steps.specs.declared.calls.Reply.{Reply}
use Rattle.ws_steps.specs.declared.calls.Reply.TheVariants.{Promise}
use Rattle.ws_steps.specs.declared.effects.Effect.{Effect}
use Rattle.ws_steps.specs.declared.effects.Effect.TheVariants.{Readable as OnReadable, Byte, Port as OnPort, PullAlgorithm}
use Rattle.ws_steps.specs.declared.effects.Owner.TheVariants.{EndOf}
use Rattle.ws_steps.specs.declared.port.PortOperation.{PortOperation}
use Rattle.ws_steps.specs.declared.port.PortOperation.TheVariants as ports
use Rattle.ws_steps.specs.declared.port.Side.{Side}
use Rattle.ws_steps.specs.declared.port.Side.TheVariants.{Readable as ReadableSide, Writable as WritableSide}
use Rattle.ws_steps.specs.declared.promises.Job.{Job}
use Rattle.ws_steps.specs.declared.readable.ReadRequest.{ReadRequest}
use Rattle.ws_steps.specs.declared.readable.ReadableOperation.{ReadableOperation}
use Rattle.ws_steps.specs.declared.readable.ReadableOperation.TheVariants as reads
use Rattle.ws_steps.specs.Begun.{Begun}
use Rattle.ws_steps.specs.Begun as replying
use Rattle.ws_steps.specs.Calls.{begin, named}
use Rattle.ws_steps.specs.Cross as cross
use Rattle.ws_steps.specs.Histories.{is_same, taken_event, run_events}
use Rattle.ws_steps.specs.Histories as histories
use Rattle.ws_steps.specs.Jobs.{job_effects, job_begun, begin_job}
use Rattle.ws_steps.specs.Operations.{readable_operation, port_operation}
use Rattle.ws_steps.specs.PortHistory.{is_same_port, posted_in, chunk_in}
use Rattle.ws_steps.specs.Promises.{Table, watch, next_job, after_next_job}
use Rattle.ws_steps.specs.Run.{Entry, Called, Worked, Heard, step, run, older, after_call, after_job, later_events}
use Rattle.ws_steps.specs.Slots.{Slots, Stream, ReadableStream, ByteStream, WritableStream, Done, with_promises, has_byte, has_port, readable_at, source_at, as_readable, as_source, clones_at, is_byte_stream, owner_of}
use Rattle.ws_steps.specs.Turns.{row, performed}
use Rattle.ws_laws.proofs.Apart.{row-streams}
use Rattle.ws_laws.proofs.Begin.{begin-makes}
use Rattle.ws_laws.proofs.Causes.{row-causes}
use Rattle.ws_laws.proofs.EachCall.{each_call}
use Rattle.ws_laws.proofs.Ended.{Ended}
use Rattle.ws_laws.proofs.Halves.{Halved}
use Rattle.ws_laws.proofs.Lists.{Each, each-append, each-map}
use Rattle.ws_laws.proofs.Shapes.{ReadableOf, stream_shape, stream_shapes, map-there, row-stream_shapes}
use Rattle.ws_laws.proofs.Tables.{either, is_same-refl, same_id, readable_acts}
use Rattle.ws_laws.proofs.Truth.{and_left, and_right, false_true}
use Rattle.ws_laws.proofs.Weights.{weigh-fresh, weigh-watch}
use Rattle.ws_room_laws.proofs.Turns.{performed-kept}
use Rattle.ws_writable_laws.proofs.Shape.{of_reaction, weight}
use Rattle.ws_pipe_laws.specs.pipes.PipeReads.{is_of, in_requests, in_stream, in_streams, one_if}
use Rattle.ws_pipe_laws.proofs.pipes.PassingRuns.{reads_now}
use Rattle.ws_pipe_laws.proofs.pipes.Reading.{of_effect}
use Rattle.ws_pipe_laws.proofs.writes.Counts.{same_weight}
use Rattle.ws_link_laws.specs.Laws.{entry_leaves, all_leave}
use Rattle.ws_link_laws.specs.Link.{OfEnd, giver_by, giver_at, leaves}
use Rattle.ws_link_laws.specs.Sound.{Owned, IsLink}
use Rattle.ws_link_laws.proofs.Outer.{IsOuter}
use Rattle.ws_link_laws.proofs.Standing.{Sound}
use Rattle.ws_link_laws.proofs.Steps as steps
use Rattle.ws_link_laws.proofs.Steps.{stream_at, source_there, grown-source, link-sound}
use Rattle.ws_link_laws.proofs.Turns.{row-turned}
use Rattle.ws_link_laws.proofs.Keeps.{entry-keeps}
use Rattle.ws_tee_port_laws.proofs.ports.Once.{NotMine, row-leaves, row-mine, no-mine, by-port}
use Rattle.ws_tee_port_laws.proofs.ports.Posting.{total, total-append, is_same_port-refl, given, given_first, port_acts}
use Rattle.ws_tee_port_laws.proofs.ports.Pulls.{asked_of, settles_of, pulled, pulled-append, row-same, own-slots, own-caused, row-pulled, bytes-idle}
use Rattle.ws_tee_port_laws.proofs.ports.Reading.{is_idle, pulls_of, pulls}
use Rattle.ws_tee_port_laws.proofs.ports.Told.{posted, posted-append, next-events, call-events, watch-posted}
use Rattle.ws_tee_port_laws.proofs.ports.Touching.{NoTouch, NoDelivery, NotHosts, row-untouched, call-untouched, job-untouched}
use Rattle.ws_node_laws.specs.Asks.{is_pull, pulls_in, may_ask}
use Rattle.ws_node_laws.specs.Covered.{starting, brought, entry_brought, run_brought, EachEndAsksInTurn}
use Rattle.ws_node_laws.proofs.Asks.{Good, IsCovered, lets, starts, operation-asks, one_most}
use Rattle.ws_node_laws.proofs.Started.{start_of, Fits, quiet-total, quiet-fits, row-counted, row-fits, row-free, job-fits, job-free, job-counted, NoReader, call-quiet, heard-weight}
use Rattle.ws_node_laws.proofs.Covered as covered
use Rattle.ws_node_laws.proofs.Covered.{pulls-append, shaped}

module _ (c : PortId) (i : StreamId) where
  abbrev enters_of : Effect → ℕ
  enters_of e = covered.enters_of c i e

  abbrev Covers : ℕ → Slots → List Effect → Type 0
  Covers n s es = covered.Covers c i n s es

  -- until none is left

  record Both (j : StreamId) (p : PipeId) (n : ℕ) (s : Slots) (es : List Effect) : Type 0 where
    sound : Sound i j p s es
    covers : Covers n s es

  performed-covers : (j : StreamId) (p : PipeId) (n : ℕ) (d : Done) → Both j p n d.slots d.caused → Covers n (performed d) []
  performed-covers j p n d h =
      (performed-kept (λ ms s es. Both j p n s es) (λ ms s e es k. record { sound = (row-turned i j p s e es k.sound).sound; covers = covered.row-covers c i j p n e s es k.sound k.covers }) d h).covers

  -- a promise is named, and the realm is older

  watched-covers : (n : ℕ) (s : Slots) (q : PromiseId) → Covers n s [] → Covers n (with_promises (watch q s.promises) s) []
  watched-covers n s q k =
      let w = weigh-watch (of_reaction (starting i)) q s.promises in
      let g = k.count in
      let h = k.cover in
      let e : pulls_in (posted c (watch q s.promises)) ≡ pulls_in (posted c s.promises) = ap pulls_in (watch-posted c q s.promises) in
      record { here = k.here; good = k.good; count = omega (arith, w, g); fits = tt; free = tt; cover = omega (arith, h, e) }

  named-covers : (n : ℕ) (reply : Reply) (s : Slots) → Covers n s [] → Covers n (older (named reply s)) []
  named-covers n (Promise q) s k = let w = watched-covers n s q k in record { here = w.here; good = w.good; count = w.count; fits = tt; free = tt; cover = w.cover }
  named-covers n _ s k = record { here = k.here; good = k.good; count = k.count; fits = tt; free = tt; cover = k.cover }

  -- jobs

  abbrev NoPull : Effect → Type 0
  NoPull (PullAlgorithm k) = ⊥
  NoPull (OnPort d ports.Pull) = ⊥
  NoPull _ = Unit {0}

  none-pulled : (es : List Effect) → Each NoPull es → pulled c i es ≡ 0
  none-pulled [] k = refl
  none-pulled (PullAlgorithm j ∷ es) k = absurd k.0
  none-pulled (OnPort d ports.Pull ∷ es) k = absurd k.0
  none-pulled (e ∷ es) k = let h = none-pulled es k.1 in omega (arith, h)

  job-none : (job : Job) → Each NoPull (job_effects job)
  job-none job = grind (arith, each-append)

  begun-covers : (n : ℕ) (s : Slots) (o : Option Job) → o ≡ next_job s.promises → Covers n s [] → Covers n (job_begun s o).slots (job_begun s o).caused
  begun-covers n s None e k = k
  begun-covers n s (Some job) e k =
      let w = job-counted i s.promises job (sym e) in
      let g = k.count in
      let h = k.cover in
      let t : pulls_in (posted c (after_next_job s.promises)) ≡ pulls_in (posted c s.promises) = ap (λ es. pulls_in (posted_in c es)) (next-events s.promises) in
      let a = none-pulled (job_effects job) (job-none job) in
      let b = covered.untouched-enters c i (job_effects job) (job-untouched c i job) in
      record { here = k.here; good = k.good; count = omega (arith, w, g); fits = job-fits i job; free = job-free i job; cover = omega (arith, h, t, a, b) }

  worked-covers : (j : StreamId) (p : PipeId) (n : ℕ) (s : Slots) → IsLink i j p s → Covers n s [] → Covers n (after_job s) []
  unfolding begin_job
  worked-covers j p n s l k =
      let d : Done = job_begun s (next_job s.promises) in
      let b = steps.begun-from i j p s (next_job s.promises) refl (link-sound i j p s l) in
      let z = performed-covers j p n d (record { sound = b.sound; covers = begun-covers n s (next_job s.promises) refl k }) in
      record { here = z.here; good = z.good; count = z.count; fits = tt; free = tt; cover = z.cover }

  -- calls

  call-none : (call : Call) (s : Slots) → Each NoPull (begin call s).done.caused
  call-none call s = each_call (λ (b : Begun). Each NoPull b.done.caused) call s (grind (arith, each-append))

  pub call-weighs : (call : Call) (s : Slots) → weight (starting i) (begin call s).done.slots.promises ≤ weight (starting i) s.promises
  call-weighs call s = begin-makes (λ z. weight (starting i) z.promises ≤ weight (starting i) s.promises) (record {
    promise = λ z k. let w = weigh-fresh (of_reaction (starting i)) z.promises in omega (arith, w, k);
    locks = λ z ls k. k;
    hosts = λ z hs k. k;
    pipe = λ z source dest prevent signal promise k. k;
    signal = λ z k. k;
    transform = λ z kind a b change k. k;
    tee = λ z source first second cancel k. k;
    port = λ z side stream backpressure k. k;
    readable = λ z owner mark size k. k;
    bytes = λ z mark auto k. k;
    byob_requests = λ z requests k. k;
    writable = λ z owner mark size k. k;
  }) call s (omega arith)

  outer-reader : (j : StreamId) (e : Effect) → IsOuter i j e → NoReader i e
  outer-reader j (OnReadable k (reads.InitializeReader closed)) o = o
  outer-reader j (OnReadable k operation) o = tt
  outer-reader j e o = tt

  pub there-below : (xs : List Stream) (n : ℕ) (x : Stream) → slice_get xs n ≡ Some x → n + 1 ≤ length xs
  there-below [] n x e = cc
  there-below (y ∷ ys) zero x e = omega arith
  there-below (y ∷ ys) (suc n) x e = let h = there-below ys n x e in omega (arith, h)

  nobodys : (s : Slots) → slice_get (stream_shapes s) i.0 ≡ Some (ReadableOf (EndOf c)) → NotHosts c i s
  nobodys s here = let at = shaped c s.streams i.0 here in let o = owned s here in record { readable = λ there host. let w = sym host ∙ o in cc; bytes = λ there. let w : has_byte i s ≡ false = rw at refl in cc }
    where
      owned_of : (xs : List Stream) (n : ℕ) → slice_get (map stream_shape xs) n ≡ Some (ReadableOf (EndOf c)) → (as_readable (slice_get xs n)).owner ≡ EndOf c
      owned_of [] n e = cc
      owned_of (ReadableStream r ∷ xs) zero e = cc
      owned_of (ByteStream b ∷ xs) zero e = cc
      owned_of (WritableStream w ∷ xs) zero e = cc
      owned_of (x ∷ xs) (suc n) e = owned_of xs n e

      owned : (s : Slots) → slice_get (stream_shapes s) i.0 ≡ Some (ReadableOf (EndOf c)) → (readable_at i s).owner ≡ EndOf c
      owned s h = owned_of s.streams i.0 h

  deliver-brought : (d : PortId) (m : Message) (s : Slots) → total enters_of (begin (Deliver d m) s).done.caused ≤ brought c (Deliver d m)
  unfolding begin
  deliver-brought d m s =
      either (λ (b : Begun). total enters_of b.done.caused ≤ brought c (Deliver d m)) (has_port d s) (replying.does (OnPort d (ports.Deliver m) ∷ []) s) (replying.unsupported s) (λ e. omega arith) (λ e. omega arith)

  call-brought : (call : Call) (s : Slots) → slice_get (stream_shapes s) i.0 ≡ Some (ReadableOf (EndOf c)) → total enters_of (begin call s).done.caused ≤ brought c call
  call-brought (Deliver d m) s here = deliver-brought d m s
  call-brought call s here = let h = covered.untouched-enters c i (begin call s).done.caused (call-untouched c i s (nobodys s here) call tt) in omega (arith, h)

  called-covers : (j : StreamId) (p : PipeId) (n : ℕ) (s : Slots) (call : Call) → IsLink i j p s → leaves i j call ≡ true → Covers n s [] → Covers (n + brought c call) (after_call call s) []
  called-covers j p n s call l leave k =
      let d : Done = (begin call s).done in
      let g = steps.grown i j p s call l leave in
      let at : slice_get d.slots.streams i.0 ≡ slice_get s.streams i.0 = grown-source i j p s d.slots g l.source in
      let there = shaped c s.streams i.0 k.here in
      let same : readable_at i d.slots ≡ readable_at i s = ap as_readable at in
      let now : slice_get (stream_shapes d.slots) i.0 ≡ slice_get (stream_shapes s) i.0 = map-there stream_shape d.slots.streams i.0 (ReadableStream (readable_at i s)) (at ∙ there) ∙ sym (map-there stream_shape s.streams i.0 (ReadableStream (readable_at i s)) there) in
      let quiet = call-quiet i call s (there-below s.streams i.0 (ReadableStream (readable_at i s)) there) in
      let w = call-weighs call s in
      let t = quiet-total i d.caused quiet in
      let a = none-pulled d.caused (call-none call s) in
      let b = call-brought call s k.here in
      let told : pulls_in (posted c d.slots.promises) ≡ pulls_in (posted c s.promises) = ap (λ es. pulls_in (posted_in c es)) (call-events call s) in
      let cw = k.count in
      let ch = k.cover in
      let begun : Covers (n + brought c call) d.slots d.caused = record {
        here = now ∙ k.here;
        good = rw same k.good;
        count = rw same (omega (arith, w, t, cw));
        fits = quiet-fits i d.caused quiet;
        free = each-map (IsOuter i j) (NoReader i) (outer-reader j) d.caused (steps.begins i j p s call l leave).outer;
        cover = rw same (omega (arith, told, a, b, ch));
      } in
      named-covers (n + brought c call) (begin call s).reply (performed d) (performed-covers j p (n + brought c call) d (record { sound = (steps.begun i j p s call l leave).sound; covers = begun }))

  -- a run

  abbrev cov : Slots → ℕ
  cov s = pulls_in (posted c s.promises) + may_ask (readable_at i s)

  -- as it is between steps
  tight : (n : ℕ) (s : Slots) → Covers n s [] → Covers (cov s) s []
  tight n s k = record { here = k.here; good = k.good; count = k.count; fits = tt; free = tt; cover = omega arith }

  bound : (n : ℕ) (s : Slots) → Covers n s [] → cov s ≤ n
  bound n s k = let h = k.cover in omega (arith, h)

  taken-first : (es : List Event) → pulls_in (posted_in c (taken_event es)) + pulls_in (posted_in c (later_events es)) ≡ pulls_in (posted_in c es)
  taken-first [] = omega arith
  taken-first (e ∷ es) = let h = ap pulls_in (posted-append c (e ∷ []) es) in let g = pulls-append (posted_in c (e ∷ [])) (posted_in c es) in omega (arith, h, g)

  entry-covers : (j : StreamId) (p : PipeId) (s : Slots) (x : Entry) → IsLink i j p s → entry_leaves i j x ≡ true → Covers (cov s) s []
      → (pulls_in (posted_in c (histories.taken_in_step s x)) + cov (step s x) ≤ cov s + entry_brought c x) × Covers (cov (step s x)) (step s x) []
  entry-covers j p s (Called call) l e k = let z = called-covers j p (cov s) s call l e k in let b = bound (cov s + brought c call) (after_call call s) z in (omega (arith, b), tight _ (after_call call s) z)
  entry-covers j p s Worked l e k = let z = worked-covers j p (cov s) s l k in let b = bound (cov s) (after_job s) z in (omega (arith, b), tight _ (after_job s) z)
  entry-covers j p s Heard l e k =
      let h = taken-first s.promises.events in
      let w = heard-weight i s in
      let g = k.count in
      (omega (arith, h), record { here = k.here; good = k.good; count = omega (arith, w, g); fits = tt; free = tt; cover = omega arith })

  record Ran (j : StreamId) (p : PipeId) (s : Slots) (xs : List Entry) : Type 0 where
    pulls : pulls_in (posted_in c (run_events xs s)) + may_ask (readable_at i (run xs s)) ≤ cov s + run_brought c xs
    link : IsLink i j p (run xs s)
    covers : Covers (cov (run xs s)) (run xs s) []

  run-covers : (j : StreamId) (p : PipeId) (xs : List Entry) (s : Slots) → IsLink i j p s → all_leave i j xs ≡ true → Covers (cov s) s [] → Ran j p s xs
  run-covers j p [] s l e k = record { pulls = omega arith; link = l; covers = k }
  run-covers j p (x ∷ xs) s l e k =
      let a = and_left (entry_leaves i j x) (all_leave i j xs) e in
      let one = entry-covers j p s x l a k in
      let rest = run-covers j p xs (step s x) (entry-keeps i j p s x l a).0 (and_right (entry_leaves i j x) (all_leave i j xs) e) one.1 in
      let f = one.0 in
      let g = rest.pulls in
      let t : pulls_in (posted_in c (histories.taken_in_step s x ++ run_events xs (step s x))) ≡ pulls_in (posted_in c (histories.taken_in_step s x)) + pulls_in (posted_in c (run_events xs (step s x))) =
      ap pulls_in (posted-append c (histories.taken_in_step s x) (run_events xs (step s x))) ∙ pulls-append (posted_in c (histories.taken_in_step s x)) (posted_in c (run_events xs (step s x))) in
      record { pulls = omega (arith, f, g, t); link = rest.link; covers = rest.covers }

-- whose end it is

end-here : (i j : StreamId) (p : PipeId) (c : PortId) (s : Slots) → IsLink i j p s → giver_at i s ≡ OfEnd c → slice_get (stream_shapes s) i.0 ≡ Some (ReadableOf (EndOf c))
end-here i j p c s l e = let h = (link-sound i j p s l).ahead.hosts.source in rw e at h

pub here-end : (i : StreamId) (c : PortId) (s : Slots) → slice_get (stream_shapes s) i.0 ≡ Some (ReadableOf (EndOf c)) → giver_at i s ≡ OfEnd c
here-end i c s h = by s.streams i.0 h
  where
    by : (xs : List Stream) (n : ℕ) → slice_get (map stream_shape xs) n ≡ Some (ReadableOf (EndOf c)) → giver_by (is_byte_stream (slice_get xs n)) (owner_of (slice_get xs n)) ≡ OfEnd c
    by [] n e = cc
    by (ReadableStream r ∷ xs) zero e = let own : r.owner ≡ EndOf c = cc in rw own refl
    by (ByteStream b ∷ xs) zero e = cc
    by (WritableStream w ∷ xs) zero e = cc
    by (x ∷ xs) (suc n) e = by xs n e

pub each_end_asks_in_turn : EachEndAsksInTurn
each_end_asks_in_turn i j p c s entries l k e =
    let w = same_weight (starting i) s.promises in
    let st = k.starts in
    let start : covered.Covers c i (cov c i s) s [] = record { here = end-here i j p c s l k.end; good = record { mark = k.mark; again = k.again }; count = omega (arith, w, st); fits = tt; free = tt; cover = omega arith } in
    let r = run-covers c i j p entries s l e start in
    let z : Slots = run entries s in
    let wz = same_weight (starting i) z.promises in
    let cz = r.covers.count in
    let pz = r.pulls in
    record {
      asking = record { end = here-end i c z r.covers.here; mark = r.covers.good.mark; again = r.covers.good.again; starts = omega (arith, wz, cz) };
      pulls = omega (arith, pz);
    }
