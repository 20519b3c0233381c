-- Streams that are made one after another, a source, transform streams and a sink: each that gives chunks and the next that takes them may be
-- linked.
use Rattle.std.proofs.Common.{◌≡◌, ℕ, ◌+◌, true, nat_lt, List, [], ◌∷◌, ◌++◌, length, Option, Some, None, slice_get, refl, sym, ap, subst, ◌∙◌, arith}
use Rattle.ws_value.specs.declared.ids.PipeId.{PipeId}
use Rattle.ws_value.specs.declared.ids.PromiseId.{PromiseId}
use Rattle.ws_value.specs.declared.ids.StreamId.{StreamId}
use Rattle.ws_steps.specs.declared.calls.Call.{Call}
use Rattle.ws_steps.specs.declared.calls.Call.TheVariants.{MakeReadable, MakeBytes, MakeWritable, MakeTransform}
use Rattle.ws_steps.specs.declared.calls.StartBy.{StartBy}
use Rattle.ws_steps.specs.declared.calls.StartBy.TheVariants.{Now, Later}
use Rattle.ws_steps.specs.declared.effects.Effect.{Effect}
use Rattle.ws_steps.specs.declared.effects.Effect.TheVariants.{Pipe as OnPipe, Tee as OnTee}
use Rattle.ws_steps.specs.declared.effects.Owner.TheVariants.{Host, HalfOf}
use Rattle.ws_steps.specs.declared.pipes.PipeOperation.{PipeOperation}
use Rattle.ws_steps.specs.declared.readable.SizeBy.{SizeBy}
use Rattle.ws_steps.specs.declared.readable.SizeBy.TheVariants.{Count}
use Rattle.ws_steps.specs.declared.transform.Kind.TheVariants.{Host as HostKind}
use Rattle.ws_steps.specs.declared.transform.TransformId.{TransformId}
use Rattle.ws_steps.specs.MakingCalls as making_calls
use Rattle.ws_steps.specs.Begun.{Begun}
use Rattle.ws_steps.specs.Calls.{begin, named}
use Rattle.ws_steps.specs.Jobs.{begin_job}
use Rattle.ws_steps.specs.Operations.{pipe_operation, tee_operation}
use Rattle.ws_steps.specs.Pipes as pipe
use Rattle.ws_steps.specs.Promises.{next_id, fresh, settle, answer, react, follow, unfollow, use_gift, queue_micro, after_next_job, watch}
use Rattle.ws_steps.specs.Readable as readable
use Rattle.ws_steps.specs.Run.{Called, run, older, after_call}
use Rattle.ws_steps.specs.Slots.{Slots, ReadableStream, WritableStream, Done, empty, most_streams, owner_of, owner_at, is_byte_stream, is_writable_stream, as_source, as_writable, on_pipe_at, on_tee_at}
use Rattle.ws_steps.specs.Transform as transform
use Rattle.ws_steps.specs.Turns.{row, turns, call_host, performed}
use Rattle.ws_steps.specs.Writable as writable
use Rattle.ws_laws.proofs.Halves.{Among, Halved, call-among, get-last, halved-stays}
use Rattle.ws_laws.proofs.Lists.{Each}
use Rattle.ws_laws.proofs.Apart.{row-pipes, row-tees}
use Rattle.ws_laws.proofs.Shapes.{transform_shapes}
use Rattle.ws_laws.proofs.Tables.{writable_there, place_last}
use Rattle.ws_room_laws.proofs.Turns.{performed-kept}
use Rattle.ws_link_laws.specs.Sound.{IsReached, IsHosts, IsBare, IsFree}
use Rattle.ws_link_laws.proofs.Far.{IsFar}
use Rattle.ws_link_laws.proofs.Unused.{FreeSink, Unused, performed-unused}
use Rattle.ws_link_laws.proofs.Free.{unused-called}
use Rattle.ws_link_laws.proofs.Hosts.{Hosts, source-shape, sink-shape, hosts-shaped, grown-shape, reached-halved, reached-ended}
use Rattle.ws_laws.proofs.Ended.{Ended, ended-stays}
use Rattle.ws_link_laws.proofs.Steps.{place-append, stream_at, source_there}
use Rattle.ws_link_laws.proofs.SourceTurns.{default-bare}
use Rattle.ws_link_laws.proofs.Worked.{s0}
use Rattle.ws_steps.specs.Slots.{byte_at, has_source, source_at}
use Rattle.ws_value.specs.declared.ids.TeeId.{TeeId}
use Rattle.ws_steps.specs.declared.tee.TeeOperation.{TeeOperation}
use Rattle.ws_steps.specs.Tee as tee

-- streams are made, and nobody has any of them: the last that gives chunks is i
pub record Opened (i : StreamId) (s : Slots) : Type 0 where
  pub reached : IsReached s
  pub there : has_source i s ≡ true
  pub bare : IsBare (byte_at i s)
  pub kind : IsHosts s (owner_at i s)
  pub unread : (source_at i s).reader ≡ None
  pub requests : (source_at i s).requests ≡ []
  pub locks : s.locks ≡ []
  pub pipes : s.pipes ≡ []
  pub tees : s.tees ≡ []

-- a source is made first
pub opened-source : (m : ℕ) (x : SizeBy) (a : StartBy) → Opened s0 (run (Called (MakeReadable m x a) ∷ []) empty)
unfolding fresh settle answer react follow unfollow use_gift queue_micro after_next_job watch call_host row turns performed begin_job begin
opened-source m x Now = record { reached = (Called (MakeReadable m x Now) ∷ [], refl); there = refl; bare = record { auto = refl; descriptors = refl; reader = refl }; kind = tt; unread = refl; requests = refl; locks = refl; pipes = refl; tees = refl }
opened-source m x Later = record { reached = (Called (MakeReadable m x Later) ∷ [], refl); there = refl; bare = record { auto = refl; descriptors = refl; reader = refl }; kind = tt; unread = refl; requests = refl; locks = refl; pipes = refl; tees = refl }

-- or a byte source that allocates no rooms
pub opened-bytes : (m : ℕ) (a : StartBy) → Opened s0 (run (Called (MakeBytes m 0 a) ∷ []) empty)
unfolding fresh settle answer react follow unfollow use_gift queue_micro after_next_job watch call_host row turns performed begin_job begin
opened-bytes m Now = record { reached = (Called (MakeBytes m 0 Now) ∷ [], refl); there = refl; bare = record { auto = refl; descriptors = refl; reader = refl }; kind = tt; unread = refl; requests = refl; locks = refl; pipes = refl; tees = refl }
opened-bytes m Later = record { reached = (Called (MakeBytes m 0 Later) ∷ [], refl); there = refl; bare = record { auto = refl; descriptors = refl; reader = refl }; kind = tt; unread = refl; requests = refl; locks = refl; pipes = refl; tees = refl }

-- no pipe is made but by a call

none-there : (xs : List pipe.Slots) (n : ℕ) (x : pipe.Slots) → xs ≡ [] → slice_get xs n ≡ Some x → ⊥
none-there [] n x e f = cc
none-there (y ∷ xs) n x e f = cc

piped-none : (q : PipeId) (operation : PipeOperation) (s : Slots) → s.pipes ≡ [] → (o : Option pipe.Slots) → slice_get s.pipes q.0 ≡ o → (on_pipe_at (λ ends. pipe_operation q ends operation) q s o).slots.pipes ≡ []
piped-none q operation s e None f = e
piped-none q operation s e (Some x) f = absurd (none-there s.pipes q.0 x e f)

row-none : (e : Effect) (s : Slots) → s.pipes ≡ [] → (row e s).slots.pipes ≡ []
unfolding row
row-none (OnPipe q operation) s k = piped-none q operation s k (slice_get s.pipes q.0) refl
row-none e s k = row-pipes e s tt ∙ k

performed-none : (d : Done) → d.slots.pipes ≡ [] → (performed d).pipes ≡ []
performed-none d k = performed-kept (λ ms s es. s.pipes ≡ []) (λ ms s e es h. row-none e s h) d k

-- and no tee

none-teed : (xs : List tee.Slots) (n : ℕ) (x : tee.Slots) → xs ≡ [] → slice_get xs n ≡ Some x → ⊥
none-teed [] n x e f = cc
none-teed (y ∷ xs) n x e f = cc

teed-none : (t : TeeId) (operation : TeeOperation) (s : Slots) → s.tees ≡ [] → (o : Option tee.Slots) → slice_get s.tees t.0 ≡ o → (on_tee_at (tee_operation t operation) t s o).slots.tees ≡ []
teed-none t operation s e None f = e
teed-none t operation s e (Some x) f = absurd (none-teed s.tees t.0 x e f)

row-teeless : (e : Effect) (s : Slots) → s.tees ≡ [] → (row e s).slots.tees ≡ []
unfolding row
row-teeless (OnTee t operation) s k = teed-none t operation s k (slice_get s.tees t.0) refl
row-teeless e s k = row-tees e s tt ∙ k

pub performed-teeless : (d : Done) → d.slots.tees ≡ [] → (performed d).tees ≡ []
performed-teeless d k = performed-kept (λ ms s es. s.tees ≡ []) (λ ms s e es h. row-teeless e s h) d k

-- what a call makes

module _ (i j : StreamId) (s : Slots) (c : Call) (b : Begun) (is : begin c s ≡ b) (r : IsReached s) (u : Unused i j [] b.done.slots b.done.caused) where
  made-free : IsFree i j (after_call c s)
  made-free = unused-called i j [] s c r refl (subst (λ (x : Begun). Unused i j [] x.done.slots x.done.caused) (sym is) u)

  made-locks : (named b.reply (performed b.done)).locks ≡ (performed b.done).locks → (after_call c s).locks ≡ []
  made-locks e = ap (λ (x : Begun). (older (named x.reply (performed x.done))).locks) is ∙ (e ∙ (performed-unused i j [] b.done u).same)

  made-pipes : (named b.reply (performed b.done)).pipes ≡ (performed b.done).pipes → b.done.slots.pipes ≡ [] → (after_call c s).pipes ≡ []
  made-pipes e k = ap (λ (x : Begun). (older (named x.reply (performed x.done))).pipes) is ∙ (e ∙ performed-none b.done k)

  made-tees : (named b.reply (performed b.done)).tees ≡ (performed b.done).tees → b.done.slots.tees ≡ [] → (after_call c s).tees ≡ []
  made-tees e k = ap (λ (x : Begun). (older (named x.reply (performed x.done))).tees) is ∙ (e ∙ performed-teeless b.done k)

length-last : {A : Type 0} (xs : List A) (y : A) → length (xs ++ y ∷ []) ≡ length xs + 1
length-last [] y = refl
length-last (x ∷ xs) y = let h = length-last xs y in omega (arith, h)

-- where stream i, of which the end is as it was, and stream j, which is new, stand in z
module _ (i j : StreamId) (s z : Slots) (o : Opened i s) (w : writable.Slots) (at : slice_get z.streams i.0 ≡ Some (stream_at i s)) (new : slice_get z.streams j.0 ≡ Some (WritableStream w))
    (among : Among (transform_shapes s) (transform_shapes z)) (halved : Halved z) (ended : Ended z) where
  same : slice_get z.streams i.0 ≡ slice_get s.streams i.0
  same = at ∙ sym (source_there (slice_get s.streams i.0) o.there)

  same-owner : owner_at i z ≡ owner_at i s
  same-owner = ap owner_of same

  old-kind : IsHosts z (owner_at i z)
  old-kind = rw same-owner (hosts-shaped s z (owner_at i s) (grown-shape s z (owner_at i s) among o.kind) o.kind)

  old-hosts : z.tees ≡ [] → IsHosts z (owner_at j z) → Hosts i j z
  old-hosts tees kind = record {
    source = source-shape i z (rw same o.there) old-kind;
    sink = sink-shape j z z (writable_there (slice_get z.streams j.0) (ap is_writable_stream new));
    source_kind = old-kind;
    sink_kind = kind;
    halved = halved;
    ended = ended;
    untied = rw tees refl;
  }

  old-unused : (es : List Effect) → IsHosts z (owner_at j z) → FreeSink w → z.locks ≡ [] → z.pipes ≡ [] → z.tees ≡ [] → Each (IsFar i j) es → Unused i j [] z es
  old-unused es kind free locks pipes tees far = record {
    source = rw same o.there;
    bare = rw same o.bare;
    sink = ap is_writable_stream new;
    from = rw same (record { unread = o.unread; requests = o.requests });
    into = rw (ap as_writable new) free;
    hosts = old-hosts tees kind;
    apart = rw pipes refl;
    same = locks;
    far = far;
  }

-- a sink is made last
module _ (i : StreamId) (s : Slots) (o : Opened i s) (n : ℕ) (y : SizeBy) (a : StartBy) (room : nat_lt (length s.streams) most_streams ≡ true) where
  abbrev j : StreamId
  j = record { 0 = length s.streams }

  abbrev c : Call
  c = MakeWritable n y a

  abbrev b : Begun
  b = making_calls.make_writable n y a j s

  is : begin c s ≡ b
  unfolding begin
  is = rw room refl

  opened_sink : IsFree i j (after_call c s)
  opened_sink =
      let w : writable.Slots = writable.set_up Host n y in
      let among : Among (transform_shapes s) (transform_shapes b.done.slots) = rw is at (call-among c s) in
      let halved : Halved b.done.slots = rw is at (halved-stays.call s c (reached-halved s o.reached)) in
      let ended : Ended b.done.slots = rw is at (ended-stays.call s c (reached-ended s o.reached)) in
      let at : slice_get b.done.slots.streams i.0 ≡ Some (stream_at i s) = place-append s.streams (WritableStream w) (stream_at i s) i.0 (source_there (slice_get s.streams i.0) o.there) in
      let new : slice_get b.done.slots.streams j.0 ≡ Some (WritableStream w) = place_last s.streams (WritableStream w) in
      made-free i j s c b is o.reached
      (old-unused i j s b.done.slots o w at new among halved ended b.done.caused (rw (ap owner_of new) tt) (record { unwritten = refl; queue = refl; request = refl; flight = refl }) o.locks o.pipes o.tees (tt, tt))

pub opened-sink : (i : StreamId) (s : Slots) (n : ℕ) (y : SizeBy) (a : StartBy) → Opened i s → nat_lt (length s.streams) most_streams ≡ true → IsFree i (record { 0 = length s.streams }) (after_call (MakeWritable n y a) s)
opened-sink i s n y a o room = opened_sink i s o n y a room

-- a transform stream is made between
module _ (i : StreamId) (s : Slots) (o : Opened i s) (m n : ℕ) (a : StartBy) (room : nat_lt (length s.streams + 1) most_streams ≡ true) where
  abbrev jw : StreamId
  jw = record { 0 = length s.streams }

  abbrev jr : StreamId
  jr = record { 0 = length s.streams + 1 }

  abbrev ct : Call
  ct = MakeTransform HostKind m n a

  abbrev bt : Begun
  bt = making_calls.make_transform HostKind m n a jw jr s

  abbrev z : Slots
  z = bt.done.slots

  abbrev me : TransformId
  me = record { 0 = length s.transforms }

  abbrev wt : writable.Slots
  wt = writable.set_up (HalfOf me) m Count

  abbrev rt : readable.Slots
  rt = readable.set_up (HalfOf me) n Count

  is_two : begin ct s ≡ bt
  unfolding begin
  is_two = rw room refl

  at-old : slice_get z.streams i.0 ≡ Some (stream_at i s)
  at-old =
      place-append (s.streams ++ WritableStream wt ∷ []) (ReadableStream rt) (stream_at i s) i.0
      (place-append s.streams (WritableStream wt) (stream_at i s) i.0 (source_there (slice_get s.streams i.0) o.there))

  at-taking : slice_get z.streams jw.0 ≡ Some (WritableStream wt)
  at-taking = place-append (s.streams ++ WritableStream wt ∷ []) (ReadableStream rt) (WritableStream wt) jw.0 (place_last s.streams (WritableStream wt))

  at-giving : slice_get z.streams jr.0 ≡ Some (ReadableStream rt)
  at-giving = let l = length-last s.streams (WritableStream wt) in rw l at (place_last (s.streams ++ WritableStream wt ∷ []) (ReadableStream rt))

  among : Among (transform_shapes s) (transform_shapes z)
  among = rw is_two at (call-among ct s)

  halved : Halved z
  halved = rw is_two at (halved-stays.call s ct (reached-halved s o.reached))

  ended : Ended z
  ended = rw is_two at (ended-stays.call s ct (reached-ended s o.reached))

  own-kind : IsHosts z (HalfOf me)
  own-kind = let there = get-last s.transforms [] (transform.set_up HostKind jw jr (next_id s.promises)) in rw there refl

  far : (k : StreamId) → Each (IsFar k jw) bt.done.caused
  far k = (tt, (tt, (tt, (tt, (starts a (next_id (fresh s.promises)), tt)))))
    where
      starts : (x : StartBy) (q : PromiseId) → IsFar k jw (making_calls.start_transform q jr x)
      starts Now q = tt
      starts Later q = tt

  taking-unused : Unused i jw [] z bt.done.caused
  taking-unused = old-unused i jw s z o wt at-old at-taking among halved ended bt.done.caused (rw (ap owner_of at-taking) own-kind) (record { unwritten = refl; queue = refl; request = refl; flight = refl }) o.locks o.pipes o.tees (far i)

  giving-unused : Unused jr jw [] z bt.done.caused
  giving-unused = record {
    source = rw at-giving refl;
    bare = default-bare jr z (ap is_byte_stream at-giving);
    sink = ap is_writable_stream at-taking;
    from = rw (ap as_source at-giving) (record { unread = refl; requests = refl });
    into = rw (ap as_writable at-taking) (record { unwritten = refl; queue = refl; request = refl; flight = refl });
    hosts = record {
      source = source-shape jr z (rw at-giving refl) (rw (ap owner_of at-giving) own-kind);
      sink = sink-shape jw z z (writable_there (slice_get z.streams jw.0) (ap is_writable_stream at-taking));
      source_kind = rw (ap owner_of at-giving) own-kind;
      sink_kind = rw (ap owner_of at-taking) own-kind;
      halved = halved;
      ended = ended;
      untied = rw o.tees refl;
    };
    apart = rw o.pipes refl;
    same = o.locks;
    far = far jr;
  }

  opened_transform : IsFree i jw (after_call ct s) × Opened jr (after_call ct s)
  opened_transform =
      let pair = made-free jr jw s ct bt is_two o.reached giving-unused in (
        made-free i jw s ct bt is_two o.reached taking-unused,
        record {
          reached = pair.reached;
          there = pair.source;
          bare = pair.bare;
          kind = pair.source_owner;
          unread = pair.unread;
          requests = pair.requests;
          locks = made-locks jr jw s ct bt is_two o.reached giving-unused refl;
          pipes = made-pipes jr jw s ct bt is_two o.reached giving-unused refl o.pipes;
          tees = made-tees jr jw s ct bt is_two o.reached giving-unused refl o.tees;
        },
      )

pub opened-transform : (i : StreamId) (s : Slots) (m n : ℕ) (a : StartBy) → Opened i s → nat_lt (length s.streams + 1) most_streams ≡ true
    → IsFree i (record { 0 = length s.streams }) (after_call (MakeTransform HostKind m n a) s) × Opened (record { 0 = length s.streams + 1 }) (after_call (MakeTransform HostKind m n a) s)
opened-transform i s m n a o room = opened_transform i s o m n a room
