-- A source is made beside other streams that nobody has: of the host's own, with a controller of either kind, or the readable end of a port.
use Rattle.std.proofs.Common.{◌≡◌, ◌||◌, ℕ, suc, ◌+◌, ◌*◌, ◌≤◌, ◌<◌, true, nat_lt, List, [], ◌∷◌, ◌++◌, length, Some, None, slice_get, refl, sym, ap, subst, ◌∙◌, arith, lt-ltb}
use Rattle.ws_value.specs.declared.ids.StreamId.{StreamId}
use Rattle.ws_steps.specs.declared.calls.Call.{Call}
use Rattle.ws_steps.specs.declared.effects.Owner.TheVariants.{Host, EndOf}
use Rattle.ws_steps.specs.declared.calls.StartBy.TheVariants.{Now}
use Rattle.ws_steps.specs.declared.port.Side.TheVariants.{Readable as ReadableSide}
use Rattle.ws_steps.specs.declared.readable.SizeBy.TheVariants.{Count}
use Rattle.ws_steps.specs.Begun.{Begun}
use Rattle.ws_steps.specs.Bytes as byte
use Rattle.ws_steps.specs.Calls.{begin, named}
use Rattle.ws_steps.specs.MakingCalls as making_calls
use Rattle.ws_steps.specs.PipeCalls as pipe_calls
use Rattle.ws_steps.specs.Readable as readable
use Rattle.ws_steps.specs.Run.{Called, older, after_call}
use Rattle.ws_steps.specs.Slots.{Slots, Stream, ReadableStream, ByteStream, WritableStream, most_streams, owner_of, owner_at, writable_at, is_byte_stream, is_readable_stream, is_writable_stream, as_byte, as_source, as_writable}
use Rattle.ws_steps.specs.Turns.{performed}
use Rattle.ws_laws.proofs.Ended.{Ended, ended-stays, port_shape}
use Rattle.ws_laws.proofs.Halves.{Among, Halved, call-among, halved-stays}
use Rattle.ws_laws.proofs.Lists.{Each}
use Rattle.ws_laws.proofs.Shapes.{stream_shape, transform_shape, transform_shapes}
use Rattle.ws_laws.proofs.Tables.{writable_there, place_last}
use Rattle.ws_link_laws.specs.Link.{Ear, Giver, OfEnd, giver_at, giver_by, leaves}
use Rattle.ws_link_laws.specs.Sound.{IsHosts, IsBare, IsFree}
use Rattle.ws_link_laws.proofs.Far.{IsFar}
use Rattle.ws_link_laws.proofs.Free.{unused-called, free-called}
use Rattle.ws_link_laws.proofs.Hosts.{source-shape, sink-shape, hosts-shaped, grown-shape, reached-halved, reached-ended}
use Rattle.ws_link_laws.proofs.Owners.{giver-stays, ear-stays}
use Rattle.ws_link_laws.proofs.Pipelines.{Opened, performed-teeless}
use Rattle.ws_link_laws.proofs.Steps.{place-append}
use Rattle.ws_link_laws.proofs.Unused.{Unused}
use Rattle.ws_wire_laws.specs.Segments.{Next, given_by, after_origin}
use Rattle.ws_chain_laws.specs.Chain.{Origin, FromChunks, FromBytes, FromPort, source_of, dest_of}
use Rattle.ws_chain_laws.specs.Opening.{source_call}
use Rattle.ws_chain_laws.proofs.Lists.{all-last, length-last, split}
use Rattle.ws_chain_laws.proofs.Pairs.{performed-owner, performed-giver, performed-streams, performed-transforms, performed-ports, performed-locks, length-same, none-of, Untaken, Pairs, Half}
use Rattle.ws_chain_laws.proofs.Young.{YoungStream, Young, Mild, called-young}

-- what a call makes of a realm of which nobody has any stream, where it makes one stream that nobody has
pub record Makes (c : Call) (b : Begun) (x : Stream) (s : Slots) : Type 0 where
  pub is : begin c s ≡ b
  pub streams : b.done.slots.streams ≡ s.streams ++ x ∷ []
  pub locks : b.done.slots.locks ≡ s.locks
  pub pipes : b.done.slots.pipes ≡ s.pipes
  pub tees : b.done.slots.tees ≡ s.tees
  pub transforms : b.done.slots.transforms ≡ s.transforms
  pub reply : (z : Slots) → named b.reply z ≡ z

pub made-is : (c : Call) (b : Begun) (x : Stream) (s : Slots) → Makes c b x s → after_call c s ≡ older (performed b.done)
made-is c b x s m = ap (λ (y : Begun). older (named y.reply (performed y.done))) m.is ∙ ap older (m.reply (performed b.done))

pub made-locks : (c : Call) (b : Begun) (x : Stream) (s : Slots) → Makes c b x s → s.locks ≡ [] → (after_call c s).locks ≡ []
made-locks c b x s m e = ap (λ (z : Slots). z.locks) (made-is c b x s m) ∙ (performed-locks b.done ∙ (m.locks ∙ e))

pub made-tees : (c : Call) (b : Begun) (x : Stream) (s : Slots) → Makes c b x s → s.tees ≡ [] → (after_call c s).tees ≡ []
made-tees c b x s m e = ap (λ (z : Slots). z.tees) (made-is c b x s m) ∙ performed-teeless b.done (m.tees ∙ e)

pub made-streams : (c : Call) (b : Begun) (x : Stream) (s : Slots) → Makes c b x s → length (after_call c s).streams ≡ length s.streams + 1
made-streams c b x s m =
    ap (λ (z : Slots). length z.streams) (made-is c b x s m)
    ∙ (length-same stream_shape (performed b.done).streams b.done.slots.streams (performed-streams b.done) ∙ (ap (λ (xs : List Stream). length xs) m.streams ∙ length-last s.streams x))

pub made-transforms : (c : Call) (b : Begun) (x : Stream) (s : Slots) → Makes c b x s → length (after_call c s).transforms ≡ length s.transforms
made-transforms c b x s m =
    ap (λ (z : Slots). length z.transforms) (made-is c b x s m)
    ∙ (length-same transform_shape (performed b.done).transforms b.done.slots.transforms (performed-transforms b.done) ∙ ap (λ xs. length xs) m.transforms)

pub made-ports : (c : Call) (b : Begun) (x : Stream) (s : Slots) → Makes c b x s → length (after_call c s).ports ≡ length b.done.slots.ports
made-ports c b x s m = ap (λ (z : Slots). length z.ports) (made-is c b x s m) ∙ length-same port_shape (performed b.done).ports b.done.slots.ports (performed-ports b.done)

pub made-new : (c : Call) (b : Begun) (x : Stream) (s : Slots) → Makes c b x s → slice_get b.done.slots.streams (length s.streams) ≡ Some x
made-new c b x s m = let e = m.streams in rw e (place_last s.streams x)

pub made-gives : (c : Call) (b : Begun) (x : Stream) (s : Slots) → Makes c b x s → giver_at (record { 0 = length s.streams }) (after_call c s) ≡ giver_by (is_byte_stream (Some x)) (owner_of (Some x))
made-gives c b x s m =
    let i : StreamId = record { 0 = length s.streams } in
    let new = made-new c b x s m in
    ap (λ (z : Slots). giver_at i z) (made-is c b x s m) ∙ (performed-giver i b.done ∙ rw new refl)

pub made-owner : (c : Call) (b : Begun) (x : Stream) (s : Slots) → Makes c b x s → owner_at (record { 0 = length s.streams }) (after_call c s) ≡ owner_of (Some x)
made-owner c b x s m =
    let i : StreamId = record { 0 = length s.streams } in
    ap (λ (z : Slots). owner_at i z) (made-is c b x s m) ∙ (performed-owner i b.done ∙ ap owner_of (made-new c b x s m))

pub made-young : (c : Call) (b : Begun) (x : Stream) (s : Slots) → Makes c b x s → Young 0 0 b.done.slots → Each Mild b.done.caused → Young 0 0 (after_call c s)
made-young c b x s m y e = let is = m.is in called-young 0 0 c s (rw is y) (rw is e)

-- a source that nobody has
pub record NewSource (x : Stream) (i j : StreamId) (b : Begun) : Type 0 where
  pub there : is_readable_stream (Some x) || is_byte_stream (Some x) ≡ true
  pub bare : IsBare (as_byte (Some x))
  pub kind : IsHosts b.done.slots (owner_of (Some x))
  pub unread : (as_source (Some x)).reader ≡ None
  pub requests : (as_source (Some x)).requests ≡ []
  pub far : Each (IsFar i j) b.done.caused

-- beside it stand streams k and j, which may be linked
module _ (k j : StreamId) (s : Slots) (f : IsFree k j s) (u : Untaken s) (c : Call) (b : Begun) (x : Stream) (m : Makes c b x s) where
  abbrev i : StreamId
  i = record { 0 = length s.streams }

  abbrev z : Slots
  z = b.done.slots

  new : slice_get z.streams i.0 ≡ Some x
  new = made-new c b x s m

  old : slice_get z.streams j.0 ≡ Some (WritableStream (writable_at j s))
  old = rw (m.streams) (place-append s.streams x (WritableStream (writable_at j s)) j.0 (writable_there (slice_get s.streams j.0) f.sink))

  same-owner : owner_at j z ≡ owner_at j s
  same-owner = ap owner_of old ∙ sym (ap owner_of (writable_there (slice_get s.streams j.0) f.sink))

  among : Among (transform_shapes s) (transform_shapes z)
  among = let is = m.is in rw is at (call-among c s)

  halved : Halved z
  halved = let is = m.is in rw is at (halved-stays.call s c (reached-halved s f.reached))

  ended : Ended z
  ended = let is = m.is in rw is at (ended-stays.call s c (reached-ended s f.reached))

  pub new-unused : NewSource x i j b → Unused i j [] z b.done.caused
  new-unused n = record {
    source = rw new n.there;
    bare = rw new n.bare;
    sink = ap is_writable_stream old;
    from = rw new (record { unread = n.unread; requests = n.requests });
    into = rw (ap as_writable old) (record { unwritten = f.unwritten; queue = f.queue; request = f.close_request; flight = f.close_in_flight });
    hosts = record {
      source = source-shape i z (rw new n.there) (rw new n.kind);
      sink = sink-shape j z z (writable_there (slice_get z.streams j.0) (ap is_writable_stream old));
      source_kind = rw new n.kind;
      sink_kind = rw same-owner (hosts-shaped s z (owner_at j s) (grown-shape s z (owner_at j s) among f.sink_owner) f.sink_owner);
      halved = halved;
      ended = ended;
      untied = let e = m.tees in let t = u.tees in rw (e, t) refl;
    };
    apart = let e = m.pipes in let t = u.pipes in rw (e, t) refl;
    same = m.locks ∙ u.locks;
    far = n.far;
  }

  opened_new : NewSource x i j b → (after_call c s).pipes ≡ [] → Opened i (after_call c s)
  opened_new n pipes =
      let pair : IsFree i j (after_call c s) = unused-called i j [] s c f.reached refl (subst (λ (y : Begun). Unused i j [] y.done.slots y.done.caused) (sym m.is) (new-unused n)) in
      record {
        reached = pair.reached;
        there = pair.source;
        bare = pair.bare;
        kind = pair.source_owner;
        unread = pair.unread;
        requests = pair.requests;
        locks = made-locks c b x s m u.locks;
        pipes = pipes;
        tees = made-tees c b x s m u.tees;
      }

-- each kind

abbrev pub source_stream : Origin → Slots → Stream
source_stream FromChunks s = ReadableStream (readable.set_up Host 0 Count)
source_stream FromBytes s = ByteStream (byte.set_up 0 0)
source_stream FromPort s = ReadableStream (readable.set_up (EndOf (record { 0 = length s.ports })) 0 Count)

abbrev pub source_begun : Origin → Slots → Begun
source_begun FromChunks s = making_calls.make_readable 0 Count Now (record { 0 = length s.streams }) s
source_begun FromBytes s = making_calls.make_bytes 0 0 Now (record { 0 = length s.streams }) s
source_begun FromPort s = pipe_calls.open_end ReadableSide (record { 0 = length s.streams }) s

pub source-makes : (origin : Origin) (s : Slots) → nat_lt (length s.streams) most_streams ≡ true → Makes (source_call origin) (source_begun origin s) (source_stream origin s) s
unfolding begin
source-makes FromChunks s room = record { is = rw room refl; streams = refl; locks = refl; pipes = refl; tees = refl; transforms = refl; reply = λ z. refl }
source-makes FromBytes s room = record { is = rw room refl; streams = refl; locks = refl; pipes = refl; tees = refl; transforms = refl; reply = λ z. refl }
source-makes FromPort s room = record { is = rw room refl; streams = refl; locks = refl; pipes = refl; tees = refl; transforms = refl; reply = λ z. refl }

source-new : (origin : Origin) (i j : StreamId) (s : Slots) → NewSource (source_stream origin s) i j (source_begun origin s)
source-new FromChunks i j s = record { there = refl; bare = record { auto = refl; descriptors = refl; reader = refl }; kind = tt; unread = refl; requests = refl; far = (tt, tt) }
source-new FromBytes i j s = record { there = refl; bare = record { auto = refl; descriptors = refl; reader = refl }; kind = tt; unread = refl; requests = refl; far = (tt, tt) }
source-new FromPort i j s = record { there = refl; bare = record { auto = refl; descriptors = refl; reader = refl }; kind = tt; unread = refl; requests = refl; far = (tt, tt) }

-- a young realm stays one

source-young : (origin : Origin) (s : Slots) → Young 0 0 s → Young 0 0 (source_begun origin s).done.slots
source-young FromChunks s y = record {
  streams = all-last YoungStream s.streams (source_stream FromChunks s) y.streams (record { state = refl; queue = refl; request = refl });
  pipes = y.pipes;
  signals = y.signals;
  count = y.count;
  piped = y.piped;
  quiet = y.quiet;
  unposted = y.unposted;
}
source-young FromBytes s y = record {
  streams = all-last YoungStream s.streams (source_stream FromBytes s) y.streams (record { state = refl; queue = refl; request = refl });
  pipes = y.pipes;
  signals = y.signals;
  count = y.count;
  piped = y.piped;
  quiet = y.quiet;
  unposted = y.unposted;
}
source-young FromPort s y = record {
  streams = all-last YoungStream s.streams (source_stream FromPort s) y.streams (record { state = refl; queue = refl; request = refl });
  pipes = y.pipes;
  signals = y.signals;
  count = y.count;
  piped = y.piped;
  quiet = y.quiet;
  unposted = y.unposted;
}

source-mild : (origin : Origin) (s : Slots) → Each Mild (source_begun origin s).done.caused
source-mild FromChunks s = (tt, tt)
source-mild FromBytes s = (tt, tt)
source-mild FromPort s = (tt, tt)

source-leaves : (origin : Origin) (i j : StreamId) → leaves i j (source_call origin) ≡ true
source-leaves FromChunks i j = refl
source-leaves FromBytes i j = refl
source-leaves FromPort i j = refl

source-gives : (origin : Origin) (n : Next) (s : Slots) → length s.ports ≡ n.port → giver_by (is_byte_stream (Some (source_stream origin s))) (owner_of (Some (source_stream origin s))) ≡ given_by origin n.port
source-gives FromChunks n s e = refl
source-gives FromBytes n s e = refl
source-gives FromPort n s e = ap (λ (q : ℕ). OfEnd (record { 0 = q })) e

pub source-link : (origin : Origin) (n : Next) → (after_origin origin n).link ≡ n.link
source-link FromChunks n = refl
source-link FromBytes n = refl
source-link FromPort n = refl

source-transform : (origin : Origin) (n : Next) → (after_origin origin n).transform ≡ n.transform
source-transform FromChunks n = refl
source-transform FromBytes n = refl
source-transform FromPort n = refl

source-ports : (origin : Origin) (n : Next) (s : Slots) → length s.ports ≡ n.port → length (source_begun origin s).done.slots.ports ≡ (after_origin origin n).port
source-ports FromChunks n s e = e
source-ports FromBytes n s e = e
source-ports FromPort n s e = length-last s.ports _ ∙ (let f = e in omega (arith, f))

-- the source of one more segment
module _ (g : ℕ → Giver) (h : ℕ → Ear) (origin : Origin) (n : Next) (s : Slots) (p : Pairs g h n s) (some : 1 ≤ n.link) (few : 2 * n.link < most_streams) (gives : g n.link ≡ given_by origin n.port) where
  abbrev call : Call
  call = source_call origin

  abbrev to : Slots
  to = after_call call s

  room : nat_lt (length s.streams) most_streams ≡ true
  room = let l = p.streams in lt-ltb (length s.streams) most_streams (omega (arith, l, few))

  makes : Makes call (source_begun origin s) (source_stream origin s) s
  makes = source-makes origin s room

  young : Young 0 0 to
  young = made-young call (source_begun origin s) (source_stream origin s) s makes (source-young origin s p.young) (source-mild origin s)

  at : record { 0 = length s.streams } ≡ source_of n.link
  at = ap (λ (m : ℕ). record { 0 = m }) p.streams

  opened : Opened (source_of n.link) to
  opened = subst (λ (i : StreamId). Opened i to) at (opened_new (source_of 0) (dest_of 0) s (p.free 0 some) p.untaken call (source_begun origin s) (source_stream origin s) makes (source-new origin _ (dest_of 0) s) (none-of to.pipes young.piped))

  own : giver_at (source_of n.link) to ≡ g n.link
  own =
      subst (λ (i : StreamId). giver_at i to ≡ g n.link) at
      (made-gives call (source_begun origin s) (source_stream origin s) s makes ∙ (source-gives origin n s p.ports ∙ sym gives))

  pub half-source : Half g h (after_origin origin n) to
  half-source =
      let l = source-link origin n in
      let t = source-transform origin n in
      let q = source-ports origin n s p.ports in
      let a = made-streams call (source_begun origin s) (source_stream origin s) s makes in
      let b = made-transforms call (source_begun origin s) (source_stream origin s) s makes in
      let c = made-ports call (source_begun origin s) (source_stream origin s) s makes in
      let d = p.streams in
      let e = p.transforms in
      record {
        opened = subst (λ (m : ℕ). Opened (source_of m) to) (sym l) opened;
        streams = omega (arith, a, d, l);
        transforms = omega (arith, b, e, t);
        ports = c ∙ q;
        free = λ k below. free-called (source_of k) (dest_of k) s call (p.free k (omega (arith, below, l))) (source-leaves origin (source_of k) (dest_of k));
        gives = λ k below. split (λ (m : ℕ). giver_at (source_of m) to ≡ g m) n.link k (omega (arith, below, l)) own (λ less. giver-stays (source_of k) (Called call ∷ []) s (p.free k less).source ∙ p.gives k less);
        hears = λ k below.
            let less : suc k ≤ n.link = omega (arith, below, l) in
            ear-stays (dest_of k) (Called call ∷ []) s (p.free k less).sink (p.free k less).sink_owner ∙ p.hears k less;
        young = young;
      }
