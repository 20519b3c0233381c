-- A call, a job and the taking of an event keep a link.
use Rattle.std.proofs.Common.{◌≡◌, ℕ, zero, suc, ◌≤◌, true, false, ◌||◌, is_some, List, [], ◌∷◌, ◌++◌, map, Option, Some, None, slice_get, refl, sym, ap, ◌∙◌, arith}
use Rattle.ws_value.specs.declared.ids.PipeId.{PipeId}
use Rattle.ws_value.specs.declared.ids.PromiseId.{PromiseId}
use Rattle.ws_value.specs.declared.ids.StreamId.{StreamId}
use Rattle.ws_value.specs.declared.value.Value.{Value}
use Rattle.ws_steps.specs.declared.calls.Call.{Call}
use Rattle.ws_steps.specs.declared.calls.Event.{Event}
use Rattle.ws_steps.specs.declared.calls.Reply.{Reply}
use Rattle.ws_steps.specs.declared.calls.Reply.TheVariants.{Promise}
use Rattle.ws_steps.specs.declared.effects.Effect.{Effect}
use Rattle.ws_steps.specs.declared.transform.TransformId.{TransformId}
use Rattle.ws_steps.specs.declared.locks.Lock.{Lock}
use Rattle.ws_steps.specs.declared.pipes.Phase.{Phase}
use Rattle.ws_steps.specs.declared.pipes.Phase.TheVariants.{Flowing, Waiting, Acting, Over}
use Rattle.ws_steps.specs.declared.promises.Job.{Job}
use Rattle.ws_steps.specs.MakingCalls.{add_stream}
use Rattle.ws_steps.specs.Calls.{begin, named}
use Rattle.ws_steps.specs.Jobs.{job_effects, job_begun, begin_job}
use Rattle.ws_steps.specs.Pipes as pipe
use Rattle.ws_steps.specs.Promises.{next_job, after_next_job, watch}
use Rattle.ws_steps.specs.Readable as readable
use Rattle.ws_steps.specs.Run.{Entry, Called, Worked, Heard, step, run, older, after_call, after_job, after_event, first_event, later_events}
use Rattle.ws_steps.specs.Slots.{Slots, Stream, ReadableStream, WritableStream, Done, empty, with_promises, owner_of, owner_at, writable_at, pipe_at, is_readable_stream, is_writable_stream, as_writable, as_pipe}
use Rattle.ws_steps.specs.Turns.{row, performed}
use Rattle.ws_steps.specs.Writable as writable
use Rattle.ws_steps.specs.WritableHistory.{Writes, no_writes, writes_then, effect_writes, run_writes}
use Rattle.ws_flow.specs.Told.{Open, Lost, Told, told, then_told, IsShortOf}
use Rattle.ws_flow.proofs.Told.{then_assoc, then_empty, short_refl, short_trans, short_same}
use Rattle.ws_laws.proofs.Begin.{begin-makes}
use Rattle.ws_laws.proofs.Ended.{ended-stays, port_shape}
use Rattle.ws_laws.proofs.Halves.{call-among, halved-stays}
use Rattle.ws_laws.proofs.Lists.{Each, each-map}
use Rattle.ws_laws.proofs.Apart.{row-locks}
use Rattle.ws_laws.proofs.Shapes.{stream_shape, transform_shape, tee_shape}
use Rattle.ws_laws.proofs.Walker as walker
use Rattle.ws_laws.proofs.Tables.{writable_there}
use Rattle.ws_room_laws.proofs.Turns.{performed-kept}
use Rattle.ws_pipe_laws.specs.pipes.PipeHistory.{Through, run_through}
use Rattle.ws_pipe_laws.specs.pipes.PipeReads.{in_stream}
use Rattle.ws_pipe_laws.proofs.pipes.AtSource.{except, except-append, all_off}
use Rattle.ws_pipe_laws.proofs.pipes.PassingRuns.{Few, Is, call-none, job-none, call-is, each_is}
use Rattle.ws_writable_laws.proofs.Runs.{is_history}
use Rattle.ws_transform_laws.proofs.Halving.{Going, going, going-rests, none-going}
use Rattle.ws_link_laws.proofs.PortShut.{Shuts, shuts-stays, run-shuts}
use Rattle.ws_transform_laws.proofs.PortLive.{PortLiving, port-living, port-living-rests, none-port-living}
use Rattle.ws_transform_laws.proofs.PortHalving.{PortGoing, port-going, port-going-rests, none-port-going}
use Rattle.ws_value.specs.declared.ids.PortId.{PortId}
use Rattle.ws_link_laws.specs.Link.{silence, in_sink, in_source, held_items, piped_by, in_pipe, lies, Ear, ear_at, heard_of, unheard, behind, enters, job_enters, next_enters, leaves}
use Rattle.ws_link_laws.specs.Sound.{IsReached, all_spare, elsewhere, AreApart, IsLink}
use Rattle.ws_link_laws.proofs.Ahead.{Ahead}
use Rattle.ws_link_laws.proofs.Late.{IsLate, Placed, flushes, late-silent, late-front, late-first}
use Rattle.ws_link_laws.proofs.Hosts.{Hosts, sink-owner, reached-hosts, hosts-same, hosts-grown, ear-same, grown-shape}
use Rattle.ws_link_laws.proofs.Telling.{if_same, tells, IsSilent, silent-all, writes, chunks, coming, behind_on, behind_on-nothing}
use Rattle.ws_link_laws.proofs.Unheard.{next-unheard, watch-unheard}
use Rattle.ws_link_laws.proofs.Pipes.{rank}
use Rattle.ws_link_laws.proofs.Standing.{IsInner, IsNotLast, IsStill, AtEnd, State, state-same, Sound}
use Rattle.ws_link_laws.proofs.Turns.{row-turned}
use Rattle.ws_link_laws.proofs.Outer.{IsOuter, outer-inner, outer-last, outer-late, outer-placed, outer-writes, outer-chunks, Begins}
use Rattle.ws_link_laws.proofs.Calls.{call-begins, call-untied}
use Rattle.ws_steps.specs.Slots.{ByteStream}
use Rattle.ws_steps.specs.Bytes as byte
use Rattle.ws_link_laws.specs.Link.{Giver, giver_at}
use Rattle.ws_steps.specs.Slots.{no_readable, has_source, source_at, is_byte_stream}
use Rattle.std.proofs.Common.{subst}

-- where the realm came from

run-last : (xs : List Entry) (x : Entry) (s : Slots) → run (xs ++ x ∷ []) s ≡ step (run xs s) x
run-last [] x s = refl
run-last (y ∷ xs) x s = run-last xs x (step s y)

pub reached-step : (s : Slots) (x : Entry) → IsReached s → IsReached (step s x)
reached-step s x (xs, e) = (xs ++ x ∷ [], ap (λ (z : Slots). step z x) e ∙ sym (run-last xs x empty))

pub elsewhere-is : (p : PipeId) (n : ℕ) (xs : List Stream) → elsewhere p n xs ≡ except p n xs
elsewhere-is p n [] = refl
elsewhere-is p zero (x ∷ xs) = refl
elsewhere-is p (suc n) (x ∷ xs) = let h = elsewhere-is p n xs in omega (arith, h)

-- between steps, a link is what holds at each moment, with nothing on the agenda

pub reached-going : (s : Slots) (j : StreamId) → IsReached s → (h : Writes) × (((t : TransformId) → Going j t h s []) × ((c : PortId) → PortGoing j c h s []))
reached-going s j (xs, e) = (
  run_writes j xs empty,
  (
    λ t. rw e (walker.run-holds no_writes writes_then is_history (effect_writes j) (Going j t) (going j t) (going-rests j t) xs empty (none-going j t)),
    λ c. rw e (walker.run-holds no_writes writes_then is_history (effect_writes j) (PortGoing j c) (port-going j c) (port-going-rests j c) xs empty (none-port-going j c)),
  ),
)

pub reached-living : (s : Slots) (j : StreamId) (c : PortId) → (r : IsReached s) → PortLiving j c (reached-going s j r).0 s []
unfolding reached-going
reached-living s j c (xs, e) =
    subst (λ (z : Slots). PortLiving j c (run_writes j xs empty) z []) (sym e) (walker.run-holds no_writes writes_then is_history (effect_writes j) (PortLiving j c) (port-living j c) (port-living-rests j c) xs empty (none-port-living j c))

pub reached-shuts : (i : StreamId) (c : PortId) (s : Slots) → IsReached s → Shuts i c s []
reached-shuts i c s (xs, e) = rw e (run-shuts i c xs)

-- no effect stands there
pub rested : (i j : StreamId) (s : Slots) → IsReached s → Hosts i j s → Ahead i j s []
rested i j s r h = let g = reached-going s j r in record { hosts = h; history = g.0; going = g.1.0; porting = g.1.1; living = λ c. reached-living s j c r; shutting = λ c. reached-shuts i c s r; placed = tt; front = tt; first = tt }

pub reached-few : (s : Slots) (p : PipeId) → IsReached s → Few p s []
reached-few s p (xs, e) = rw e ((each_is xs p).0)

pub link-sound : (i j : StreamId) (p : PipeId) (s : Slots) → IsLink i j p s → Sound i j p s []
link-sound i j p s l =
    let n = l.elsewhere in
    let m = elsewhere-is p i.0 s.streams in
    record {
      state = record {
        source = l.source;
        bare = l.bare;
        sink = l.sink;
        there = l.there;
        from = l.from;
        into = l.into;
        apart = l.apart;
        source_fits = l.source_fits;
        sink_fits = l.sink_fits;
        closes = l.closes;
      };
      ahead = rested i j s l.reached (reached-hosts i j s l.reached l.source l.sink l.source_owner l.sink_owner l.untied);
      few = reached-few s p l.reached;
      only = omega (arith, n, m);
      inner = tt;
      ends = tt;
    }

pub sound-link : (i j : StreamId) (p : PipeId) (s : Slots) → IsReached s → all_spare i j s.locks ≡ true → Sound i j p s [] → IsLink i j p s
sound-link i j p s r a h =
    let n = h.only in
    let m = elsewhere-is p i.0 s.streams in
    record {
      reached = r;
      source = h.state.source;
      bare = h.state.bare;
      sink = h.state.sink;
      source_owner = h.ahead.hosts.source_kind;
      sink_owner = h.ahead.hosts.sink_kind;
      there = h.state.there;
      from = h.state.from;
      into = h.state.into;
      apart = h.state.apart;
      untied = h.ahead.hosts.untied;
      locks = a;
      elsewhere = omega (arith, n, m);
      source_fits = h.state.source_fits;
      sink_fits = h.state.sink_fits;
      closes = h.state.closes;
    }

-- effects that are performed, from what is behind the host

pub record From (i j : StreamId) (p : PipeId) (t : Told Value) (locks : List Lock) (s : Slots) (es : List Effect) : Type 0 where
  pub sound : Sound i j p s es
  pub short : IsShortOf (behind_on i j p s es) t
  pub same : s.locks ≡ locks

pub performed-from : (i j : StreamId) (p : PipeId) (t : Told Value) (locks : List Lock) (d : Done) → From i j p t locks d.slots d.caused → From i j p t locks (performed d) []
performed-from i j p t locks d h =
    performed-kept (λ ms s es. From i j p t locks s es)
    (λ ms s e es k.
    let n = row-turned i j p s e es k.sound in
    record { sound = n.sound; short = short_trans (behind_on i j p (row e s).slots ((row e s).caused ++ es)) (behind_on i j p s (e ∷ es)) t n.short k.short; same = row-locks e s ∙ k.same }) d h

-- it grows older, and a promise is watched

older-ahead : (i j : StreamId) (s : Slots) → Ahead i j s [] → Ahead i j (older s) []
older-ahead i j s a = record { hosts = hosts-same i j s (older s) refl refl refl refl a.hosts; history = a.history; going = λ t. (going j t).older a.history s (a.going t); porting = λ c. (port-going j c).older a.history s (a.porting c); living = λ c. (port-living j c).older a.history s (a.living c); shutting = λ c. (shuts-stays i c).older s (a.shutting c); placed = tt; front = tt; first = tt }

watched-ahead : (i j : StreamId) (s : Slots) (q : PromiseId) → Ahead i j s [] → Ahead i j (with_promises (watch q s.promises) s) []
watched-ahead i j s q a = record { hosts = hosts-same i j s (with_promises (watch q s.promises) s) refl refl refl refl a.hosts; history = a.history; going = λ t. (going j t).answered a.history s q (a.going t); porting = λ c. (port-going j c).answered a.history s q (a.porting c); living = λ c. (port-living j c).answered a.history s q (a.living c); shutting = λ c. (shuts-stays i c).answered s q (a.shutting c); placed = tt; front = tt; first = tt }

pub older-from : (i j : StreamId) (p : PipeId) (t : Told Value) (locks : List Lock) (s : Slots) → From i j p t locks s [] → From i j p t locks (older s) []
older-from i j p t locks s h = record {
  sound = record {
    state = state-same i j p s (older s) refl refl h.sound.state;
    ahead = older-ahead i j s h.sound.ahead;
    few = h.sound.few;
    only = h.sound.only;
    inner = tt;
    ends = tt;
  };
  short = h.short;
  same = h.same;
}

watched-from : (i j : StreamId) (p : PipeId) (t : Told Value) (locks : List Lock) (s : Slots) (q : PromiseId) → From i j p t locks s [] → From i j p t locks (with_promises (watch q s.promises) s) []
watched-from i j p t locks s q h = record {
  sound = record {
    state = state-same i j p s (with_promises (watch q s.promises) s) refl refl h.sound.state;
    ahead = watched-ahead i j s q h.sound.ahead;
    few = h.sound.few;
    only = h.sound.only;
    inner = tt;
    ends = tt;
  };
  short = rw (watch-unheard (ear_at j s) q s.promises) h.short;
  same = h.same;
}

pub named-from : (i j : StreamId) (p : PipeId) (t : Told Value) (locks : List Lock) (reply : Reply) (s : Slots) → From i j p t locks s [] → From i j p t locks (named reply s) []
named-from i j p t locks (Promise q) s h = watched-from i j p t locks s q h
named-from i j p t locks _ s h = h

pub from-link : (i j : StreamId) (p : PipeId) (t : Told Value) (locks : List Lock) (z : Slots) → IsReached z → all_spare i j locks ≡ true → From i j p t locks z [] → IsLink i j p z × IsShortOf (behind i j p z) t
from-link i j p t locks z r a h = (sound-link i j p z r (rw h.same a) h.sound, rw (behind_on-nothing i j p z) at h.short)

-- what is about to enter is behind all else, unless the pipe lost it
pub comes-last : (U K : Told Value) (x : pipe.Slots) (S M : Told Value) → then_told U (then_told K (in_pipe x (then_told S M))) ≡ then_told (then_told U (then_told K (in_pipe x S))) M
comes-last U K x S M = by x.phase
  where
    by : (w : Phase) → then_told U (then_told K (piped_by w x.held (then_told S M))) ≡ then_told (then_told U (then_told K (piped_by w x.held S))) M
    by Flowing = rw (then_assoc U (then_told K (then_told (told (held_items x.held) Open) S)) M, then_assoc K (then_told (told (held_items x.held) Open) S) M, then_assoc (told (held_items x.held) Open) S M) refl
    by Waiting = rw (then_assoc U (then_told K (then_told (told (held_items x.held) Open) S)) M, then_assoc K (then_told (told (held_items x.held) Open) S) M, then_assoc (told (held_items x.held) Open) S M) refl
    by Acting = rw (then_assoc U (then_told K (told [] Lost)) M, then_assoc K (told [] Lost) M) refl
    by Over = rw (then_assoc U (then_told K (told [] Lost)) M, then_assoc K (told [] Lost) M) refl

-- jobs

pub job-inner : (i j : StreamId) (p : PipeId) (n : ℕ) (job : Job) → Each (IsInner i j p n) (job_effects job)
job-inner i j p n job = grind arith

job-late : (w : Ear) (job : Job) → Each (IsLate w) (job_effects job)
job-late w job = grind arith

job-placed : (j : StreamId) (w : Ear) (s : Slots) (job : Job) → Each (Placed j w s) (job_effects job)
job-placed j w s job = grind arith

pub job-writes : (j : StreamId) (job : Job) → Each (IsSilent (writes j)) (job_effects job)
job-writes j job = grind (arith, if_same)

pub job-chunks : (p : PipeId) (job : Job) → Each (IsSilent (chunks p)) (job_effects job)
job-chunks p job = grind arith

-- nothing comes but the end, after a flush that went well
pub job-coming : (o : Giver) (i : StreamId) (job : Job) → tells (coming o i) (job_effects job) ≡ job_enters o job
job-coming o i job = grind (arith, if_same, then_empty)

still-none : (j : StreamId) (p : PipeId) → IsStill j p []
still-none j p = record { writes = refl; chunks = refl }

pub job-ends : (j : StreamId) (p : PipeId) (job : Job) → AtEnd j p (job_effects job)
job-ends j p job = let n = still-none j p in grind (arith, n)

begun-ahead : (i j : StreamId) (s : Slots) (job : Job) → next_job s.promises ≡ Some job → Ahead i j s [] → Ahead i j (with_promises (after_next_job s.promises) s) (job_effects job)
begun-ahead i j s job e a =
    let z : Slots = with_promises (after_next_job s.promises) s in
    let late = job-late (ear_at j s) job in
    record {
      hosts = hosts-same i j s z refl refl refl refl a.hosts;
      history = a.history;
      going = λ t. (going j t).job a.history s job e (a.going t);
      porting = λ c. (port-going j c).job a.history s job e (a.porting c);
      living = λ c. (port-living j c).job a.history s job e (a.living c);
      shutting = λ c. (shuts-stays i c).job s job e (a.shutting c);
      placed = job-placed j (ear_at j s) z job;
      front = late-front (ear_at j s) (job_effects job) late;
      first = late-first (ear_at j s) (is_some (writable_at j z).close_in_flight) (job_effects job) (each-map (IsLate (ear_at j s)) (λ e. flushes (ear_at j s) e ≡ false) (λ e l. l.1) (job_effects job) late);
    }

pub begun-from : (i j : StreamId) (p : PipeId) (s : Slots) (o : Option Job) → o ≡ next_job s.promises → Sound i j p s [] → From i j p (then_told (behind i j p s) (next_enters (giver_at i s) o)) s.locks (job_begun s o).slots (job_begun s o).caused
begun-from i j p s None e h = record { sound = h; short = rw (behind_on-nothing i j p s, then_empty (behind i j p s)) (short_refl (behind i j p s)); same = refl }
begun-from i j p s (Some job) e h =
    let z : Slots = with_promises (after_next_job s.promises) s in
    let few = h.few in
    let none = job-none p job in
    let only = h.only in
    let o = all_off p i (job_effects job) in
    record {
      sound = record {
        state = state-same i j p s z refl refl h.state;
        ahead = begun-ahead i j s job (sym e) h.ahead;
        few = omega (arith, few, none);
        only = omega (arith, only, none, o);
        inner = job-inner i j p (rank (pipe_at p s).phase) job;
        ends = job-ends j p job;
      };
      short = rw (
        late-silent (ear_at j s) (job_effects job) (job-late (ear_at j s) job),
        silent-all (writes j) (job_effects job) (job-writes j job),
        silent-all (chunks p) (job_effects job) (job-chunks p job),
        job-coming (giver_at i s) i job,
        next-unheard (ear_at j s) s.promises,
        comes-last (unheard (ear_at j s) s.promises.events) (in_sink (writable_at j s)) (pipe_at p s) (in_source (source_at i s)) (job_enters (giver_at i s) job),
      ) (short_refl (then_told (behind i j p s) (job_enters (giver_at i s) job)));
      same = refl;
    }

-- a job, or none, keeps a link, and lets nothing in but the end that it brings
pub link-worked : (i j : StreamId) (p : PipeId) (s : Slots) → IsLink i j p s → IsLink i j p (after_job s) × IsShortOf (behind i j p (after_job s)) (then_told (behind i j p s) (next_enters (giver_at i s) (next_job s.promises)))
unfolding begin_job
link-worked i j p s l =
    let t : Told Value = then_told (behind i j p s) (next_enters (giver_at i s) (next_job s.promises)) in
    let b = begun-from i j p s (next_job s.promises) refl (link-sound i j p s l) in
    from-link i j p t s.locks (after_job s) (reached-step s Worked l.reached) l.locks
    (older-from i j p t s.locks (performed (job_begun s (next_job s.promises))) (performed-from i j p t s.locks (job_begun s (next_job s.promises)) b))

-- calls

pub place-append : {A : Type 0} (xs : List A) (y x : A) (n : ℕ) → slice_get xs n ≡ Some x → slice_get (xs ++ y ∷ []) n ≡ Some x
place-append [] y x n e = cc
place-append (z ∷ xs) y x zero e = e
place-append (z ∷ xs) y x (suc n) e = place-append xs y x n e

-- the stream of this number, where there is one

abbrev pub the_stream : Option Stream → Stream
the_stream None = ReadableStream no_readable
the_stream (Some x) = x

abbrev pub stream_at : StreamId → Slots → Stream
stream_at i s = the_stream (slice_get s.streams i.0)

pub source_there : (o : Option Stream) → is_readable_stream o || is_byte_stream o ≡ true → o ≡ Some (the_stream o)
source_there None e = cc
source_there (Some x) e = refl

-- what a call makes leaves what there was
pub record Grown (i j : StreamId) (p : PipeId) (s z : Slots) : Type 0 where
  pub source : slice_get z.streams i.0 ≡ Some (stream_at i s)
  pub sink : slice_get z.streams j.0 ≡ Some (WritableStream (writable_at j s))
  pub there : slice_get z.pipes p.0 ≡ Some (pipe_at p s)
  pub only : except p i.0 z.streams ≤ 0

stream-grown : (i j : StreamId) (p : PipeId) (s z : Slots) (y : Stream) → in_stream p y ≡ 0 → Grown i j p s z → Grown i j p s (add_stream y z)
stream-grown i j p s z y n g = record {
  source = place-append z.streams y (stream_at i s) i.0 g.source;
  sink = place-append z.streams y (WritableStream (writable_at j s)) j.0 g.sink;
  there = g.there;
  only = let a = except-append p i.0 z.streams y n in let w = g.only in omega (arith, a, w);
}

pub call-grown : (i j : StreamId) (p : PipeId) (c : Call) (s z : Slots) → Grown i j p s z → Grown i j p s (begin c z).done.slots
call-grown i j p c s z g = begin-makes (Grown i j p s) (record {
  promise = λ z g. record { source = g.source; sink = g.sink; there = g.there; only = g.only };
  locks = λ z ls g. record { source = g.source; sink = g.sink; there = g.there; only = g.only };
  hosts = λ z hs g. record { source = g.source; sink = g.sink; there = g.there; only = g.only };
  pipe = λ z source dest prevent signal promise g. record { source = g.source; sink = g.sink; there = place-append z.pipes _ (pipe_at p s) p.0 g.there; only = g.only };
  signal = λ z g. record { source = g.source; sink = g.sink; there = g.there; only = g.only };
  transform = λ z kind w r change g. record { source = g.source; sink = g.sink; there = g.there; only = g.only };
  tee = λ z source first second cancel g. record { source = g.source; sink = g.sink; there = g.there; only = g.only };
  port = λ z side stream backpressure g. record { source = g.source; sink = g.sink; there = g.there; only = g.only };
  bytes = λ z mark auto g. stream-grown i j p s z (ByteStream (byte.set_up mark auto)) refl g;
  byob_requests = λ z hs g. record { source = g.source; sink = g.sink; there = g.there; only = g.only };
  readable = λ z owner mark size g. stream-grown i j p s z (ReadableStream (readable.set_up owner mark size)) refl g;
  writable = λ z owner mark size g. stream-grown i j p s z (WritableStream (writable.set_up owner mark size)) refl g;
}) c z g

link-grown : (i j : StreamId) (p : PipeId) (s : Slots) → Sound i j p s [] → Grown i j p s s
link-grown i j p s h = record {
  source = source_there (slice_get s.streams i.0) h.state.source;
  sink = writable_there (slice_get s.streams j.0) h.state.sink;
  there = h.state.there;
  only = let w = h.only in omega (arith, w);
}

pub grown-source : (i j : StreamId) (p : PipeId) (s z : Slots) → Grown i j p s z → has_source i s ≡ true → slice_get z.streams i.0 ≡ slice_get s.streams i.0
grown-source i j p s z g there = g.source ∙ sym (source_there (slice_get s.streams i.0) there)

pub grown-state : (i j : StreamId) (p : PipeId) (s z : Slots) → Grown i j p s z → AreApart i j p z.pipes → State i j p s → State i j p z
grown-state i j p s z g a st = record {
  source = rw (grown-source i j p s z g st.source) st.source;
  bare = rw (grown-source i j p s z g st.source) st.bare;
  sink = ap is_writable_stream g.sink;
  there = rw (ap as_pipe g.there) g.there;
  from = rw (ap as_pipe g.there) st.from;
  into = rw (ap as_pipe g.there) st.into;
  apart = a;
  source_fits = rw (grown-source i j p s z g st.source) st.source_fits;
  sink_fits = rw (ap as_writable g.sink) st.sink_fits;
  closes = rw (ap as_pipe g.there, grown-source i j p s z g st.source) st.closes;
}

pub reached-is : (s : Slots) (p : PipeId) → IsReached s → (h : Through) × Is p h s []
reached-is s p (xs, e) = (run_through p xs empty, rw e (each_is xs p))

pub append_ends : (j : StreamId) (p : PipeId) (cs : List Effect) → Each (IsNotLast p) cs → AtEnd j p cs
append_ends j p [] n = tt
append_ends j p (c ∷ cs) n = (λ e. let f = n.0 in absurd (cc), append_ends j p cs n.1)

module _ (i j : StreamId) (p : PipeId) (s : Slots) (c : Call) (l : IsLink i j p s) (leave : leaves i j c ≡ true) where
  abbrev pub d : Done
  d = (begin c s).done

  abbrev pub t : Told Value
  t = then_told (behind i j p s) (enters (giver_at i s) i c)

  before : Sound i j p s []
  before = link-sound i j p s l

  pub begins : Begins i j p s (enters (giver_at i s) i c) (begin c s)
  begins = call-begins i j p s l.source l.sink before.ahead.hosts.halved before.ahead.hosts.ended l.locks l.apart c leave

  pub grown : Grown i j p s d.slots
  grown = call-grown i j p c s s (link-grown i j p s before)

  -- the effects with which it begins

  begun-inner : Each (IsInner i j p (rank (pipe_at p d.slots).phase)) d.caused
  begun-inner = each-map (IsOuter i j) (IsInner i j p (rank (pipe_at p d.slots).phase)) (outer-inner i j p (rank (pipe_at p d.slots).phase)) d.caused begins.outer

  begun-last : Each (IsNotLast p) d.caused
  begun-last = each-map (IsOuter i j) (IsNotLast p) (outer-last p i j) d.caused begins.outer

  -- whose the ends are

  at-source : slice_get d.slots.streams i.0 ≡ slice_get s.streams i.0
  at-source = grown-source i j p s d.slots grown l.source

  same-source : owner_at i d.slots ≡ owner_at i s
  same-source = ap owner_of at-source

  same-giver : giver_at i d.slots ≡ giver_at i s
  same-giver = rw at-source refl

  same-sink : owner_at j d.slots ≡ owner_at j s
  same-sink = ap owner_of grown.sink ∙ sym (sink-owner j s l.sink)

  pub same-ear : ear_at j d.slots ≡ ear_at j s
  same-ear = ear-same j s d.slots (grown-shape s d.slots (owner_at j s) (call-among c s) l.sink_owner) same-sink

  begun-late : Each (IsLate (ear_at j s)) d.caused
  begun-late = each-map (IsOuter i j) (IsLate (ear_at j s)) (outer-late (ear_at j s) i j) d.caused begins.outer

  pub begun-ahead_of : Ahead i j d.slots d.caused
  begun-ahead_of = record {
    hosts = hosts-grown i j s d.slots (rw at-source l.source) grown.sink same-source same-sink (call-among c s) (call-untied i j c s leave l.untied) (halved-stays.call s c before.ahead.hosts.halved) (ended-stays.call s c before.ahead.hosts.ended) before.ahead.hosts;
    history = before.ahead.history;
    going = λ t. (going j t).call before.ahead.history s c (before.ahead.going t);
    porting = λ q. (port-going j q).call before.ahead.history s c (before.ahead.porting q);
    living = λ q. (port-living j q).call before.ahead.history s c (before.ahead.living q);
    shutting = λ q. (shuts-stays i q).call s c (before.ahead.shutting q);
    placed = rw same-ear (each-map (IsOuter i j) (Placed j (ear_at j s) d.slots) (outer-placed (ear_at j s) d.slots i j) d.caused begins.outer);
    front = rw same-ear (late-front (ear_at j s) d.caused begun-late);
    first = rw same-ear (late-first (ear_at j s) (is_some (writable_at j d.slots).close_in_flight) d.caused (each-map (IsLate (ear_at j s)) (λ e. flushes (ear_at j s) e ≡ false) (λ e l. l.1) d.caused begun-late));
  }

  begun-writes : tells (writes j) d.caused ≡ silence
  begun-writes = silent-all (writes j) d.caused (each-map (IsOuter i j) (IsSilent (writes j)) (outer-writes i j) d.caused begins.outer)

  begun-chunks : tells (chunks p) d.caused ≡ silence
  begun-chunks = silent-all (chunks p) d.caused (each-map (IsOuter i j) (IsSilent (chunks p)) (outer-chunks p i j) d.caused begins.outer)

  begun-sound : Sound i j p d.slots d.caused
  begun-sound =
      let few = (call-is p (reached-is s p l.reached).0 s c (reached-is s p l.reached).1).0 in
      let w = grown.only in
      let none = call-none p c s in
      let o = all_off p i d.caused in
      record {
        state = grown-state i j p s d.slots grown begins.apart before.state;
        ahead = begun-ahead_of;
        few = few;
        only = omega (arith, w, none, o);
        inner = begun-inner;
        ends = append_ends j p d.caused begun-last;
      }

  begun-told : behind_on i j p d.slots d.caused ≡ then_told (behind i j p s) (tells (coming (giver_at i s) i) d.caused)
  begun-told =
      rw (same-ear, same-giver, late-silent (ear_at j s) d.caused begun-late, begun-writes, begun-chunks, begins.heard (ear_at j s), ap as_pipe grown.there, at-source, ap as_writable grown.sink)
      (comes-last (unheard (ear_at j s) s.promises.events) (in_sink (writable_at j s)) (pipe_at p s) (in_source (source_at i s)) (tells (coming (giver_at i s) i) d.caused))

  pub begun : From i j p t d.slots.locks d.slots d.caused
  begun = record { sound = begun-sound; short = rw begun-told (begins.comes l.source_owner); same = refl }

  called : IsLink i j p (after_call c s) × IsShortOf (behind i j p (after_call c s)) t
  called =
      let z : Slots = named (begin c s).reply (performed d) in
      from-link i j p t d.slots.locks (after_call c s) (reached-step s (Called c) l.reached) begins.locks
      (older-from i j p t d.slots.locks z (named-from i j p t d.slots.locks (begin c s).reply (performed d) (performed-from i j p t d.slots.locks d begun)))

-- a call that leaves the link alone keeps it, and brings what it enters
pub link-called : (i j : StreamId) (p : PipeId) (s : Slots) (c : Call) → IsLink i j p s → leaves i j c ≡ true → IsLink i j p (after_call c s) × IsShortOf (behind i j p (after_call c s)) (then_told (behind i j p s) (enters (giver_at i s) i c))
link-called i j p s c l leave = called i j p s c l leave

-- what the host does between steps

quiet-link : (i j : StreamId) (p : PipeId) (s z : Slots) → IsReached z → z.streams ≡ s.streams → z.transforms ≡ s.transforms → z.tees ≡ s.tees → z.ports ≡ s.ports → z.pipes ≡ s.pipes → z.locks ≡ s.locks → IsLink i j p s → IsLink i j p z
quiet-link i j p s z r e d t o f g l = let h = hosts-same i j s z (ap (map stream_shape) e) (ap (map transform_shape) d) (ap (map tee_shape) t) (ap (map port_shape) o) (reached-hosts i j s l.reached l.source l.sink l.source_owner l.sink_owner l.untied) in record {
  reached = r;
  source = rw e l.source;
  bare = rw e l.bare;
  sink = rw e l.sink;
  source_owner = h.source_kind;
  sink_owner = h.sink_kind;
  there = rw f l.there;
  from = rw f l.from;
  into = rw f l.into;
  apart = rw f l.apart;
  untied = h.untied;
  locks = rw g l.locks;
  elsewhere = rw e l.elsewhere;
  source_fits = rw e l.source_fits;
  sink_fits = rw e l.sink_fits;
  closes = rw (e, f) l.closes;
}

heard_first : (w : Ear) (events : List Event) (e : Event) → first_event events ≡ Some e → unheard w events ≡ then_told (heard_of w e) (unheard w (later_events events))
heard_first w [] e f = cc
heard_first w (x ∷ xs) e f = let is : x ≡ e = cc in rw is refl

-- the taking of an event keeps it, and hands on what the event says
pub link-heard : (i j : StreamId) (p : PipeId) (s : Slots) (e : Event) → first_event s.promises.events ≡ Some e → IsLink i j p s → IsLink i j p (after_event s) × IsShortOf (then_told (heard_of (ear_at j s) e) (behind i j p (after_event s))) (behind i j p s)
link-heard i j p s e f l = (
  quiet-link i j p s (after_event s) (reached-step s Heard l.reached) refl refl refl refl refl refl l,
  rw (heard_first (ear_at j s) s.promises.events e f) (short_same _ _ _ (sym (then_assoc (heard_of (ear_at j s) e) (unheard (ear_at j s) (later_events s.promises.events)) (lies i j p s))) (short_refl _)),
)

-- where no event is left, the taking changes nothing
pub link-unheard : (i j : StreamId) (p : PipeId) (s : Slots) → first_event s.promises.events ≡ None → IsLink i j p s → IsLink i j p (after_event s) × (behind i j p (after_event s) ≡ behind i j p s)
link-unheard i j p s f l = (quiet-link i j p s (after_event s) (reached-step s Heard l.reached) refl refl refl refl refl refl l, by s.promises.events f)
  where
    by : (events : List Event) → first_event events ≡ None → then_told (unheard (ear_at j s) (later_events events)) (lies i j p s) ≡ then_told (unheard (ear_at j s) events) (lies i j p s)
    by [] e = refl
    by (x ∷ xs) e = cc
