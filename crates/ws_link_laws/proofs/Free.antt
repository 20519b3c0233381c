-- Two streams that may be linked, over runs that leave them alone (`each_free_pair_stays`).
use Rattle.std.proofs.Common.{◌≡◌, ℕ, zero, suc, ◌≤◌, true, List, [], ◌∷◌, ◌++◌, length, map, Option, Some, None, slice_get, refl, sym, ap, ◌∙◌, arith}
use Rattle.ws_value.specs.declared.ids.PipeId.{PipeId}
use Rattle.ws_value.specs.declared.ids.StreamId.{StreamId}
use Rattle.ws_steps.specs.declared.calls.Call.{Call}
use Rattle.ws_steps.specs.declared.calls.Reply.{Reply}
use Rattle.ws_steps.specs.declared.calls.Reply.TheVariants.{Promise as ReplyPromise}
use Rattle.ws_steps.specs.declared.locks.Lock.{Lock}
use Rattle.ws_steps.specs.declared.promises.Job.{Job}
use Rattle.ws_steps.specs.Begun.{Begun}
use Rattle.ws_steps.specs.MakingCalls.{add_stream}
use Rattle.ws_steps.specs.PipeCalls.{open_end}
use Rattle.ws_steps.specs.Calls.{begin}
use Rattle.ws_steps.specs.declared.port.Side.{Side}
use Rattle.ws_steps.specs.declared.port.Side.TheVariants.{Readable as ReadableSide, Writable as WritableSide}
use Rattle.ws_laws.proofs.Ended.{port_shape, ended-stays}
use Rattle.ws_steps.specs.Jobs.{job_begun, begin_job}
use Rattle.ws_steps.specs.Pipes as pipe
use Rattle.ws_steps.specs.Promises.{next_job}
use Rattle.ws_steps.specs.Readable as readable
use Rattle.ws_steps.specs.Run.{Entry, Called, Worked, Heard, step, run, after_call, after_job}
use Rattle.ws_steps.specs.Slots.{Slots, Stream, ReadableStream, WritableStream, Done, owner_of, writable_at, is_writable_stream, as_writable}
use Rattle.ws_steps.specs.Turns.{performed}
use Rattle.ws_steps.specs.Writable as writable
use Rattle.ws_laws.proofs.Begin.{begin-makes}
use Rattle.ws_laws.proofs.EachCall.{each_call}
use Rattle.ws_laws.proofs.Halves.{call-among, halved-stays}
use Rattle.ws_laws.proofs.Lists.{each-map}
use Rattle.ws_laws.proofs.Shapes.{stream_shape, transform_shape, tee_shape}
use Rattle.ws_laws.proofs.Tables.{writable_there}
use Rattle.ws_laws.proofs.Truth.{and_left, and_right}
use Rattle.ws_link_laws.specs.Laws.{entry_leaves, all_leave, EachFreePairStays}
use Rattle.ws_link_laws.specs.Link.{enters, leaves}
use Rattle.ws_link_laws.specs.Sound.{all_apart, all_spare, IsFree}
use Rattle.ws_link_laws.specs.Sound as sound
use Rattle.ws_link_laws.proofs.Begins.{apart_at}
use Rattle.ws_link_laws.proofs.Outer.{IsOuter, Begins}
use Rattle.ws_link_laws.proofs.Calls.{call-begins, call-untied}
use Rattle.ws_link_laws.proofs.Hosts.{Hosts, sink-owner, reached-hosts, hosts-same, hosts-grown}
use Rattle.ws_link_laws.proofs.Steps.{place-append, stream_at, source_there, reached-step}
use Rattle.ws_steps.specs.Slots.{ByteStream}
use Rattle.ws_steps.specs.Bytes as byte
use Rattle.ws_link_laws.specs.Link.{giver_at}
use Rattle.ws_link_laws.proofs.Far.{IsFar, outer-far, job-far}
use Rattle.ws_link_laws.proofs.Unused.{Unused, performed-unused}

-- between steps

free-unused : (i j : StreamId) (s : Slots) → IsFree i j s → Unused i j s.locks s []
free-unused i j s f = record {
  source = f.source;
  bare = f.bare;
  sink = f.sink;
  from = record { unread = f.unread; requests = f.requests };
  into = record { unwritten = f.unwritten; queue = f.queue; request = f.close_request; flight = f.close_in_flight };
  hosts = reached-hosts i j s f.reached f.source f.sink f.source_owner f.sink_owner f.untied;
  apart = f.apart;
  same = refl;
  far = tt;
}

unused-free : (i j : StreamId) (locks : List Lock) (s z : Slots) → sound.IsReached z → z.streams ≡ s.streams → z.transforms ≡ s.transforms → z.tees ≡ s.tees → z.ports ≡ s.ports → z.pipes ≡ s.pipes → z.locks ≡ s.locks → all_spare i j locks ≡ true → Unused i j locks s [] → IsFree i j z
unused-free i j locks s z r e d t y f g a u = let h = hosts-same i j s z (ap (map stream_shape) e) (ap (map transform_shape) d) (ap (map tee_shape) t) (ap (map port_shape) y) u.hosts in record {
  reached = r;
  source = rw e u.source;
  bare = rw e u.bare;
  sink = rw e u.sink;
  source_owner = h.source_kind;
  sink_owner = h.sink_kind;
  unread = rw e u.from.unread;
  unwritten = rw e u.into.unwritten;
  locks = rw (g, u.same) a;
  apart = rw f u.apart;
  untied = h.untied;
  requests = rw e u.from.requests;
  queue = rw e u.into.queue;
  close_request = rw e u.into.request;
  close_in_flight = rw e u.into.flight;
}

begun-unused : (i j : StreamId) (s : Slots) (o : Option Job) → IsFree i j s → Unused i j s.locks (job_begun s o).slots (job_begun s o).caused
begun-unused i j s None f = free-unused i j s f
begun-unused i j s (Some job) f = let u = free-unused i j s f in record { source = u.source; bare = u.bare; sink = u.sink; from = u.from; into = u.into; hosts = hosts-same i j s _ refl refl refl refl u.hosts; apart = u.apart; same = refl; far = job-far i j job }

pub free-worked : (i j : StreamId) (s : Slots) → IsFree i j s → IsFree i j (after_job s)
unfolding begin_job
free-worked i j s f =
    let z : Slots = performed (job_begun s (next_job s.promises)) in
    unused-free i j s.locks z (after_job s) (reached-step s Worked f.reached) refl refl refl refl refl refl f.locks (performed-unused i j s.locks (job_begun s (next_job s.promises)) (begun-unused i j s (next_job s.promises) f))

-- calls

-- a call makes one pipe at most
pub few-pipes : (c : Call) (s : Slots) → length (begin c s).done.slots.pipes ≤ suc (length s.pipes)
few-pipes c s =
    let l : length s.pipes ≤ suc (length s.pipes) = omega arith in
    each_call (λ (b : Begun). length b.done.slots.pipes ≤ suc (length s.pipes)) c s (record {
      unchanged = λ reply. l;
      rejected = λ fault. l;
      make_readable = λ mark size start. l;
      make_writable = λ mark size start. l;
      make_transform = λ kind m n start. l;
      make_tee = λ i e there free untied. l;
      get_byob = λ i is e. l;
      release_byob = λ n closed i e. l;
      read_into = λ n i closed room element least e f. l;
      enqueue_bytes = λ i b e is some can. l;
      finish_bytes = λ i e is can. l;
      make_request = λ i reply is. l;
      respond = λ r i b e is can. l;
      make_bytes = λ mark auto start. l;
      get_reader = λ i e. l;
      get_writer = λ i e. l;
      release_reader = λ n closed i e. l;
      release_writer = λ n i w e f. l;
      cancel = λ reason i. l;
      read = λ n i closed e f. l;
      write = λ n v i e. l;
      close = λ i. l;
      abort = λ reason i e. l;
      enqueue = λ i v e o can. l;
      enqueue_half = λ i t v e o can. l;
      fail_half = λ t reason. l;
      terminate = λ t. l;
      finish = λ i. l;
      fail_readable = λ i reason. l;
      fail_writable = λ i reason. l;
      pipe = λ source dest prevent signal e f l m. more s.pipes (pipe.set_up source dest prevent signal _);
      make_signal = l;
      open_end = λ side. opens side;
      send_readable = λ i there free. more s.pipes _;
      send_writable = λ i there free. more s.pipes _;
      deliver = λ p m e is. l;
      trigger = λ a reason. l;
      settle = λ h answer q e. l;
    })
  where
    opens : (side : Side) → length (open_end side (record { 0 = length s.streams }) s).done.slots.pipes ≤ suc (length s.pipes)
    opens ReadableSide = omega arith
    opens WritableSide = omega arith

    more : (xs : List pipe.Slots) (y : pipe.Slots) → length (xs ++ y ∷ []) ≤ suc (length xs)
    more [] y = omega arith
    more (x ∷ xs) y = let h = more xs y in omega (arith, h)

-- where each pipe of a table is apart, all are

pub place_below : (xs : List pipe.Slots) (n : ℕ) (x : pipe.Slots) → slice_get xs n ≡ Some x → suc n ≤ length xs
place_below [] n x e = cc
place_below (y ∷ xs) zero x e = omega arith
place_below (y ∷ xs) (suc n) x e = let h = place_below xs n x e in omega (arith, h)

pub all_of : (i j : StreamId) (xs : List pipe.Slots) → ((n : ℕ) (x : pipe.Slots) → slice_get xs n ≡ Some x → sound.IsApart i j x) → all_apart i j xs ≡ true
all_of i j [] f = refl
all_of i j (x ∷ xs) f = let a = f 0 x refl in let b = all_of i j xs (λ n y e. f (suc n) y e) in rw (a.0, a.1, b) refl

-- what a call makes leaves what there was
record Kept (i j : StreamId) (s z : Slots) : Type 0 where
  source : slice_get z.streams i.0 ≡ Some (stream_at i s)
  sink : slice_get z.streams j.0 ≡ Some (WritableStream (writable_at j s))

stream-kept : (i j : StreamId) (s z : Slots) (y : Stream) → Kept i j s z → Kept i j s (add_stream y z)
stream-kept i j s z y k = record { source = place-append z.streams y (stream_at i s) i.0 k.source; sink = place-append z.streams y (WritableStream (writable_at j s)) j.0 k.sink }

call-kept : (i j : StreamId) (c : Call) (s : Slots) → IsFree i j s → Kept i j s (begin c s).done.slots
call-kept i j c s f = begin-makes (Kept i j s) (record {
  promise = λ z k. record { source = k.source; sink = k.sink };
  locks = λ z ls k. record { source = k.source; sink = k.sink };
  hosts = λ z hs k. record { source = k.source; sink = k.sink };
  pipe = λ z source dest prevent signal promise k. record { source = k.source; sink = k.sink };
  signal = λ z k. record { source = k.source; sink = k.sink };
  transform = λ z kind w r change k. record { source = k.source; sink = k.sink };
  tee = λ z source first second cancel k. record { source = k.source; sink = k.sink };
  port = λ z side stream backpressure k. record { source = k.source; sink = k.sink };
  bytes = λ z mark auto k. stream-kept i j s z (ByteStream (byte.set_up mark auto)) k;
  byob_requests = λ z hs k. record { source = k.source; sink = k.sink };
  readable = λ z owner mark size k. stream-kept i j s z (ReadableStream (readable.set_up owner mark size)) k;
  writable = λ z owner mark size k. stream-kept i j s z (WritableStream (writable.set_up owner mark size)) k;
}) c s (record { source = source_there (slice_get s.streams i.0) f.source; sink = writable_there (slice_get s.streams j.0) f.sink })

-- a call after whose effects nobody has them
pub unused-called : (i j : StreamId) (locks : List Lock) (s : Slots) (c : Call) → sound.IsReached s → all_spare i j locks ≡ true → Unused i j locks (begin c s).done.slots (begin c s).done.caused → IsFree i j (after_call c s)
unused-called i j locks s c r a u = by (begin c s).reply refl
  where
    z : Slots
    z = performed (begin c s).done

    by : (reply : Reply) → reply ≡ (begin c s).reply → IsFree i j (after_call c s)
    by (ReplyPromise q) e = unused-free i j locks z (after_call c s) (reached-step s (Called c) r) (rw (← e) refl) (rw (← e) refl) (rw (← e) refl) (rw (← e) refl) (rw (← e) refl) (rw (← e) refl) a (performed-unused i j locks (begin c s).done u)
    by _ e = unused-free i j locks z (after_call c s) (reached-step s (Called c) r) (rw (← e) refl) (rw (← e) refl) (rw (← e) refl) (rw (← e) refl) (rw (← e) refl) (rw (← e) refl) a (performed-unused i j locks (begin c s).done u)

module _ (i j : StreamId) (s : Slots) (c : Call) (f : IsFree i j s) (leave : leaves i j c ≡ true) where
  abbrev d : Done
  d = (begin c s).done

  -- a number that no pipe has
  abbrev none : PipeId
  none = record { 0 = suc (length s.pipes) }

  hosts : Hosts i j s
  hosts = reached-hosts i j s f.reached f.source f.sink f.source_owner f.sink_owner f.untied

  begins : Begins i j none s (enters (giver_at i s) i c) (begin c s)
  begins = call-begins i j none s f.source f.sink hosts.halved hosts.ended f.locks (λ n x e m. apart_at i j s.pipes n x f.apart e) c leave

  kept : Kept i j s d.slots
  kept = call-kept i j c s f

  apart : all_apart i j d.slots.pipes ≡ true
  apart = all_of i j d.slots.pipes (λ n x e. begins.apart n x e (λ m. let l = place_below d.slots.pipes n x e in let k = few-pipes c s in absurd (omega (arith, l, k, m))))

  at : slice_get d.slots.streams i.0 ≡ slice_get s.streams i.0
  at = kept.source ∙ sym (source_there (slice_get s.streams i.0) f.source)

  begun : Unused i j d.slots.locks d.slots d.caused
  begun = record {
    source = rw at f.source;
    bare = rw at f.bare;
    sink = ap is_writable_stream kept.sink;
    from = rw at (record { unread = f.unread; requests = f.requests });
    into = rw (ap as_writable kept.sink) (record { unwritten = f.unwritten; queue = f.queue; request = f.close_request; flight = f.close_in_flight });
    hosts = hosts-grown i j s d.slots (rw at f.source) kept.sink (ap owner_of at) (ap owner_of kept.sink ∙ sym (sink-owner j s f.sink)) (call-among c s) (call-untied i j c s leave f.untied) (halved-stays.call s c hosts.halved) (ended-stays.call s c hosts.ended) hosts;
    apart = apart;
    same = refl;
    far = each-map (IsOuter i j) (IsFar i j) (outer-far i j) d.caused begins.outer;
  }

  called : IsFree i j (after_call c s)
  called = unused-called i j d.slots.locks s c f.reached begins.locks begun

-- a call that leaves free streams alone leaves them free
pub free-called : (i j : StreamId) (s : Slots) (c : Call) → IsFree i j s → leaves i j c ≡ true → IsFree i j (after_call c s)
free-called i j s c f leave = called i j s c f leave

quiet-free : (i j : StreamId) (s z : Slots) → sound.IsReached z → z.streams ≡ s.streams → z.transforms ≡ s.transforms → z.tees ≡ s.tees → z.ports ≡ s.ports → z.pipes ≡ s.pipes → z.locks ≡ s.locks → IsFree i j s → IsFree i j z
quiet-free i j s z r e d t y f g k = unused-free i j s.locks s z r e d t y f g k.locks (free-unused i j s k)

-- and so does a run
pub free-run : (i j : StreamId) (entries : List Entry) (s : Slots) → IsFree i j s → all_leave i j entries ≡ true → IsFree i j (run entries s)
free-run i j [] s f e = f
free-run i j (x ∷ xs) s f e = free-run i j xs (step s x) (one x (and_left (entry_leaves i j x) (all_leave i j xs) e)) (and_right (entry_leaves i j x) (all_leave i j xs) e)
  where
    one : (x : Entry) → entry_leaves i j x ≡ true → IsFree i j (step s x)
    one (Called c) l = free-called i j s c f l
    one Worked l = free-worked i j s f
    one Heard l = quiet-free i j s (step s Heard) (reached-step s Heard f.reached) refl refl refl refl refl refl f

pub each_free_pair_stays : EachFreePairStays
each_free_pair_stays i j s entries f e = free-run i j entries s f e
