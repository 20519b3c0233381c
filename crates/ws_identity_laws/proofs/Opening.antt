-- How a way opens (`each_way_opens`), and streams that were only made (`each_new_pair_is_free`).
use Rattle.std.proofs.Common.{◌≡◌, ℕ, zero, suc, ◌+◌, Bool, true, false, not, ◌&&◌, nat_lt, List, [], ◌∷◌, ◌++◌, length, Option, Some, None, slice_get, slice_set, refl, sym, ap, subst, ◌∙◌, arith}
use Rattle.ws_value.specs.declared.ids.{PipeId.{PipeId}, StreamId.{StreamId}}
use Rattle.ws_steps.specs.declared.calls.{Call.{Call}, Reply.{Reply}, Reply.TheVariants.{Promise}, StartBy.{StartBy}, StartBy.TheVariants.{Now, Later}}
use Rattle.ws_steps.specs.declared.calls.Call.TheVariants.{MakeReadable, MakeBytes, MakeWritable, MakeTransform, Pipe}
use Rattle.ws_steps.specs.declared.effects.{Effect.{Effect}, Owner.TheVariants.{Host, HalfOf}}
use Rattle.ws_steps.specs.declared.effects.Effect.TheVariants.{Pipe as OnPipe, StartAlgorithm, Give, Settle, CallHost}
use Rattle.ws_steps.specs.declared.pipes.Prevent.{Prevent}
use Rattle.ws_steps.specs.Bytes as byte
use Rattle.ws_steps.specs.Bytes.{shown}
use Rattle.ws_steps.specs.MakingCalls as making_calls
use Rattle.ws_steps.specs.PipeCalls as pipe_calls
use Rattle.ws_steps.specs.Begun.{Begun}
use Rattle.ws_steps.specs.Calls.{begin, named}
use Rattle.ws_steps.specs.Histories.{is_same}
use Rattle.ws_steps.specs.Pipes as pipe
use Rattle.ws_steps.specs.Promises.{next_id, fresh}
use Rattle.ws_steps.specs.Readable as readable
use Rattle.ws_steps.specs.Readable.{can_close_or_enqueue}
use Rattle.ws_steps.specs.Run.{Entry, Called, Worked, Heard, run, step, older, after_call}
use Rattle.ws_steps.specs.Slots.{Slots, Stream, ReadableStream, ByteStream, WritableStream, Done, empty, most_streams, owner_at, has_readable, has_byte, has_source, has_writable, byte_at, source_at, readable_at, writable_at, is_readable_stream, is_byte_stream, pipe_at, on_pipe_at}
use Rattle.ws_steps.specs.Turns.{row, call_host, performed}
use Rattle.ws_steps.specs.Writable as writable
use Rattle.ws_steps.specs.WritableHistory.{Writes}
use Rattle.ws_laws.proofs.Halves.{Halved, run-halved, halved-empty}
use Rattle.ws_laws.proofs.Lists.{Each, each-append}
use Rattle.ws_laws.proofs.Apart.{row-pipes}
use Rattle.ws_steps.specs.Operations.{pipe_operation}
use Rattle.ws_steps.specs.declared.transform.TransformId.{TransformId}
use Rattle.ws_transform_laws.proofs.Lawful.{shape_writable, writable-told}
use Rattle.ws_identity_laws.proofs.Entered.{shape_readable, readable-told}
use Rattle.ws_laws.proofs.Shapes.{ReadableOf, WritableOf, stream_shapes, transform_shape, map-there}
use Rattle.ws_laws.proofs.Tables.{either, readable_there, byte_there, writable_there}
use Rattle.ws_laws.proofs.Truth.{and_left, and_right}
use Rattle.ws_room_laws.proofs.Turns.{performed-kept}
use Rattle.ws_writable_laws.proofs.Heard.{acted_was_heard}
use Rattle.ws_writable_laws.proofs.HeardCloses.{closes_were_heard}
use Rattle.ws_link_laws.specs.Laws.{all_leave}
use Rattle.ws_link_laws.specs.Link.{silence, lies}
use Rattle.ws_link_laws.specs.Sound.{IsBare}
use Rattle.ws_link_laws.proofs.SourceTurns.{default-bare}
use Rattle.ws_link_laws.proofs.Owners.{source-stays, sink-stays}
use Rattle.ws_identity_laws.specs.Ends.{IsAnyLink, IsAnyFree}
use Rattle.ws_identity_laws.specs.Opening.{makes, all_make, EachNewPairIsFree, pipes_of, IsNumbered, AllIdentity, apart_from, all_apart, EachWayOpens}
use Rattle.ws_identity_laws.specs.Through.{IsIdentity, Middle, IsWay, lies_along}
use Rattle.ws_identity_laws.proofs.Begins.{each_any_link_begins, is_begun}
use Rattle.ws_identity_laws.proofs.Free.{each_any_free_pair_stays}
use Rattle.ws_identity_laws.proofs.Keeps.{each_link_passes}
use Rattle.ws_identity_laws.proofs.Through.{identity-stays}
use Rattle.ws_identity_laws.proofs.Ways.{run-more}
use Rattle.ws_identity_laws.proofs.Young.{AllOf, all-get, all-last, YoungSource, YoungSink, YoungStream, YoungPipe, Young, source-of, source-young, opens, all_open, opened-run}

-- streams that were only made

record FreshSource (r : readable.Slots) : Type 0 where
  unread : r.reader ≡ None
  requests : r.requests ≡ []

-- no reader with a room has it, unless its controller allocates rooms
record FreshBytes (b : byte.Slots) : Type 0 where
  source : FreshSource (shown b)
  descriptors : b.descriptors ≡ []
  reader : byte.has_byob_reader b ≡ false

record FreshSink (w : writable.Slots) : Type 0 where
  unwritten : w.writer ≡ None
  queue : w.queue ≡ []
  request : w.close_request ≡ None
  flight : w.close_in_flight ≡ None

abbrev FreshStream : Stream → Type 0
FreshStream (ReadableStream r) = FreshSource r
FreshStream (ByteStream b) = FreshBytes b
FreshStream (WritableStream w) = FreshSink w

record Fresh (s : Slots) : Type 0 where
  streams : AllOf FreshStream s.streams
  pipes : s.pipes ≡ []
  locks : s.locks ≡ []
  tees : s.tees ≡ []

-- effects that leave them

abbrev Plain : Effect → Type 0
Plain (StartAlgorithm i x start) = Unit {0}
Plain (Give gift u) = Unit {0}
Plain (Settle p o) = Unit {0}
Plain (CallHost call u) = Unit {0}
Plain _ = ⊥

record Leaves (s : Slots) (z : Slots) (es : List Effect) : Type 0 where
  streams : z.streams ≡ s.streams
  pipes : z.pipes ≡ s.pipes
  locks : z.locks ≡ s.locks
  tees : z.tees ≡ s.tees
  plain : Each Plain es

row-leaves : (e : Effect) (s : Slots) → Plain e → Leaves s (row e s).slots (row e s).caused
unfolding row call_host
row-leaves (StartAlgorithm i x Now) s m = record { streams = refl; pipes = refl; locks = refl; tees = refl; plain = (tt, tt) }
row-leaves (StartAlgorithm i x Later) s m = record { streams = refl; pipes = refl; locks = refl; tees = refl; plain = (tt, (tt, tt)) }
row-leaves (Give gift u) s m = record { streams = refl; pipes = refl; locks = refl; tees = refl; plain = tt }
row-leaves (Settle p o) s m = record { streams = refl; pipes = refl; locks = refl; tees = refl; plain = tt }
row-leaves (CallHost call u) s m = record { streams = refl; pipes = refl; locks = refl; tees = refl; plain = tt }
row-leaves _ s m = absurd m

performed-leaves : (d : Done) → Each Plain d.caused → Leaves d.slots (performed d) []
performed-leaves d m =
    performed-kept (λ ms s es. Leaves d.slots s es)
    (λ ms s e es k.
    let a = row-leaves e s k.plain.0 in
    record { streams = a.streams ∙ k.streams; pipes = a.pipes ∙ k.pipes; locks = a.locks ∙ k.locks; tees = a.tees ∙ k.tees; plain = each-append Plain (row e s).caused es a.plain k.plain.1 }) d
    (record { streams = refl; pipes = refl; locks = refl; tees = refl; plain = m })

module _ (s : Slots) (f : Fresh s) where
  abbrev P : Begun → Type 0
  P b = Fresh b.done.slots × Each Plain b.done.caused

  starts : (x : StartBy) → Each Plain (making_calls.start_transform (next_id (fresh s.promises)) (record { 0 = length s.streams + 1 }) x ∷ [])
  starts Now = (tt, tt)
  starts Later = (tt, tt)

  call-fresh : (c : Call) → makes c ≡ true → P (begin c s)
  unfolding begin
  call-fresh (MakeReadable mark size start) l =
      either P (nat_lt (length s.streams) most_streams) _ _ (λ e. (record { streams = all-last FreshStream s.streams _ f.streams (record { unread = refl; requests = refl }); pipes = f.pipes; locks = f.locks; tees = f.tees }, (tt, tt))) (λ e. (f, tt))
  call-fresh (MakeBytes mark auto start) l =
      either P (nat_lt (length s.streams) most_streams) _ _
      (λ e. (record { streams = all-last FreshStream s.streams _ f.streams (record { source = record { unread = refl; requests = refl }; descriptors = refl; reader = refl }); pipes = f.pipes; locks = f.locks; tees = f.tees }, (tt, tt))) (λ e. (f, tt))
  call-fresh (MakeWritable mark size start) l =
      either P (nat_lt (length s.streams) most_streams) _ _ (λ e. (record { streams = all-last FreshStream s.streams _ f.streams (record { unwritten = refl; queue = refl; request = refl; flight = refl }); pipes = f.pipes; locks = f.locks; tees = f.tees }, (tt, tt))) (λ e. (f, tt))
  call-fresh (MakeTransform kind m n start) l =
      either P (nat_lt (length s.streams + 1) most_streams) _ _
      (λ e. (
        record {
          streams = all-last FreshStream (s.streams ++ _ ∷ []) _ (all-last FreshStream s.streams _ f.streams (record { unwritten = refl; queue = refl; request = refl; flight = refl })) (record { unread = refl; requests = refl });
          pipes = f.pipes;
          locks = f.locks;
          tees = f.tees;
        },
        (tt, (tt, (tt, (tt, starts start)))),
      )) (λ e. (f, tt))
  call-fresh c l = absurd (cc)

named-fresh : (reply : Reply) (s : Slots) → Fresh s → Fresh (named reply s)
named-fresh (Promise q) s f = record { streams = f.streams; pipes = f.pipes; locks = f.locks; tees = f.tees }
named-fresh _ s f = f

made-fresh : (xs : List Entry) (s : Slots) → all_make xs ≡ true → Fresh s → Fresh (run xs s)
made-fresh [] s l f = f
made-fresh (Called c ∷ xs) s l f =
    let b = call-fresh s f c (and_left (makes c) (all_make xs) l) in
    let p = performed-leaves (begin c s).done b.1 in
    let streams = p.streams in
    let z : Fresh (performed (begin c s).done) = record { streams = rw streams b.0.streams; pipes = p.pipes ∙ b.0.pipes; locks = p.locks ∙ b.0.locks; tees = p.tees ∙ b.0.tees } in
    let n = named-fresh (begin c s).reply (performed (begin c s).done) z in
    made-fresh xs (step s (Called c)) (and_right (makes c) (all_make xs) l) (record { streams = n.streams; pipes = n.pipes; locks = n.locks; tees = n.tees })
made-fresh (Worked ∷ xs) s l f = absurd (cc)
made-fresh (Heard ∷ xs) s l f = absurd (cc)

bare-fresh : (i : StreamId) (s : Slots) → AllOf FreshStream s.streams → (byte_at i s).auto ≡ 0 → IsBare (byte_at i s)
bare-fresh i s f rooms = by (has_byte i s) refl
  where
    by : (b : Bool) → b ≡ has_byte i s → IsBare (byte_at i s)
    by false e = default-bare i s (sym e)
    by true e =
        let k : FreshBytes (byte_at i s) = all-get FreshStream s.streams i.0 (ByteStream (byte_at i s)) f (byte_there (slice_get s.streams i.0) (sym e)) in
        record { auto = rooms; descriptors = k.descriptors; reader = k.reader }

pub each_new_pair_is_free : EachNewPairIsFree
each_new_pair_is_free xs i j l there rooms there_too =
    let s : Slots = run xs empty in
    let f = made-fresh xs empty l (record { streams = tt; pipes = refl; locks = refl; tees = refl }) in
    let from : FreshSource (source_at i s) = source-of FreshStream FreshSource (λ r k. k) (λ b k. k.source) s.streams i.0 f.streams there in
    let into : FreshSink (writable_at j s) = all-get FreshStream s.streams j.0 (WritableStream (writable_at j s)) f.streams (writable_there (slice_get s.streams j.0) there_too) in
    let locks = f.locks in
    let pipes = f.pipes in
    let tees = f.tees in
    record {
      reached = (xs, refl);
      source = there;
      bare = bare-fresh i s f.streams rooms;
      sink = there_too;
      unread = from.unread;
      unwritten = into.unwritten;
      locks = rw locks refl;
      apart = rw pipes refl;
      untied = rw tees refl;
      requests = from.requests;
      queue = into.queue;
      close_request = into.request;
      close_in_flight = into.flight;
    }

-- nothing lies on a link in which nothing went on

link-silent : (i j : StreamId) (p : PipeId) (s : Slots) → IsAnyLink i j p s → Young s → lies i j p s ≡ silence
link-silent i j p s l y =
    let from : YoungSource (source_at i s) = source-young i s y.streams l.source in
    let into : YoungSink (writable_at j s) = all-get YoungStream s.streams j.0 (WritableStream (writable_at j s)) y.streams (writable_there (slice_get s.streams j.0) l.sink) in
    let by : YoungPipe (pipe_at p s) = all-get YoungPipe s.pipes p.0 (pipe_at p s) y.pipes l.there in
    rw (from.state, from.queue, from.request, into.state, into.queue, into.flight, by.phase, by.held) refl

can-young : (r : StreamId) (s : Slots) → has_readable r s ≡ true → Young s → can_close_or_enqueue (readable_at r s) ≡ true
can-young r s there y =
    let from : YoungSource (readable_at r s) = all-get YoungStream s.streams r.0 (ReadableStream (readable_at r s)) y.streams (readable_there (slice_get s.streams r.0) there) in
    rw (from.state, from.request) refl

-- the halves of an identity are there

halves-there : (t : TransformId) (w r : StreamId) (s : Slots) → Halved s → IsIdentity t w r s → (has_writable w s ≡ true) × (has_readable r s ≡ true)
halves-there t w r s halved is =
    let h = halved.halves t (transform_shape is.stream) (map-there transform_shape s.transforms t.0 is.stream is.there) in
    let a : slice_get (stream_shapes s) w.0 ≡ Some (WritableOf (HalfOf t)) = subst (λ (j : StreamId). slice_get (stream_shapes s) j.0 ≡ Some (WritableOf (HalfOf t))) is.writable h.1 in
    let b : slice_get (stream_shapes s) r.0 ≡ Some (ReadableOf (HalfOf t)) = subst (λ (j : StreamId). slice_get (stream_shapes s) j.0 ≡ Some (ReadableOf (HalfOf t))) is.readable h.0 in
    (writable-told s.streams w.0 ∙ ap shape_writable a, readable-told s.streams r.0 ∙ ap shape_readable b)

-- and the readable one is a source without a byte controller

source-there : (r : StreamId) (s : Slots) → has_readable r s ≡ true → has_source r s ≡ true
source-there r s there = grind (arith, there)

no-byte : (o : Option Stream) → is_readable_stream o ≡ true → is_byte_stream o ≡ false
no-byte o there = grind (arith, there)

way-silent : (xs : List Entry) (i : StreamId) (p : PipeId) (ms : List Middle) (k : StreamId) → all_open xs ≡ true → IsWay i p ms k (run xs empty) → lies_along i p ms k xs ≡ silence
way-silent xs i p [] k l w = link-silent i k p (run xs empty) w (opened-run xs empty i k l (record { streams = tt; pipes = tt })).young
way-silent xs i p (m ∷ ms) k l w =
    let o = opened-run xs empty i m.writable l (record { streams = tt; pipes = tt }) in
    let one = link-silent i m.writable p (run xs empty) w.0 o.young in
    let h = halves-there m.number m.writable m.readable (run xs empty) (run-halved xs empty halved-empty) w.1.0 in
    let can = can-young m.readable (run xs empty) h.1 o.young in
    let none = o.none in
    let rest = way-silent xs m.readable m.out ms k l w.1.1 in
    rw (rest, can, none, one) refl

-- the pipes

-- streams that may be linked, all along
abbrev AllFree : StreamId → List Middle → StreamId → Slots → Type 0
AllFree i [] k s = IsAnyFree i k s
AllFree i (m ∷ ms) k s = IsAnyFree i m.writable s × AllFree m.readable ms k s

same-sym : (i j : StreamId) → is_same i j ≡ is_same j i
same-sym i j = grind arith

leaves-pipes : (i j r : StreamId) (ms : List Middle) (k : StreamId) (prevent : Prevent) → all_leave i j (pipes_of r ms k prevent) ≡ apart_from i j r ms k
leaves-pipes i j r [] k prevent = and_true _
  where
    and_true : (b : Bool) → b && true ≡ b
    and_true true = refl
    and_true false = refl
leaves-pipes i j r (m ∷ ms) k prevent = rw (leaves-pipes i j m.readable ms k prevent) refl

-- a pipe leaves the pairs apart from it free
frees-stay : (i j r : StreamId) (ms : List Middle) (k : StreamId) (prevent : Prevent) (s : Slots) → apart_from i j r ms k ≡ true → AllFree r ms k s → AllFree r ms k (after_call (Pipe i j prevent None) s)
frees-stay i j r [] k prevent s a f = each_any_free_pair_stays r k s (Called (Pipe i j prevent None) ∷ []) f (rw (same-sym r i, same-sym k j, a) refl)
frees-stay i j r (m ∷ ms) k prevent s a (f, g) =
    let b = and_left (not (is_same i r) && not (is_same j m.writable)) (apart_from i j m.readable ms k) a in (
      each_any_free_pair_stays r m.writable s (Called (Pipe i j prevent None) ∷ []) f (rw (same-sym r i, same-sym m.writable j, b) refl),
      frees-stay i j m.readable ms k prevent s (and_right (not (is_same i r) && not (is_same j m.writable)) (apart_from i j m.readable ms k) a) g,
    )

identities-stay : (ms : List Middle) (entries : List Entry) (s : Slots) → AllIdentity ms s → AllIdentity ms (run entries s)
identities-stay [] entries s a = tt
identities-stay (m ∷ ms) entries s a = (identity-stays m.number m.writable m.readable entries s a.0, identities-stay ms entries s a.1)

-- each makes one more

length-set : (xs : List pipe.Slots) (n : ℕ) (y : pipe.Slots) → length (slice_set xs n y) ≡ length xs
length-set [] n y = refl
length-set (x ∷ xs) zero y = refl
length-set (x ∷ xs) (suc n) y = ap suc (length-set xs n y)

length-last : (xs : List pipe.Slots) (y : pipe.Slots) → length (xs ++ y ∷ []) ≡ suc (length xs)
length-last [] y = refl
length-last (x ∷ xs) y = ap suc (length-last xs y)

row-count : (e : Effect) (s : Slots) → length (row e s).slots.pipes ≡ length s.pipes
unfolding row
row-count (OnPipe q operation) s = by (slice_get s.pipes q.0)
  where
    by : (o : Option pipe.Slots) → length (on_pipe_at (λ ends. pipe_operation q ends operation) q s o).slots.pipes ≡ length s.pipes
    by None = refl
    by (Some x) = length-set s.pipes q.0 _
row-count e s = ap length (row-pipes e s tt)

performed-count : (d : Done) → length (performed d).pipes ≡ length d.slots.pipes
performed-count d = performed-kept (λ ms s es. length s.pipes ≡ length d.slots.pipes) (λ ms s e es h. row-count e s ∙ h) d refl

pipe-count : (i j : StreamId) (prevent : Prevent) (s : Slots) → IsAnyFree i j s → length (after_call (Pipe i j prevent None) s).pipes ≡ suc (length s.pipes)
pipe-count i j prevent s f =
    let b : Begun = pipe_calls.pipe_to i j prevent None s in
    subst (λ (x : Begun). length (older (named x.reply (performed x.done))).pipes ≡ suc (length s.pipes)) (sym (is_begun i j prevent None s f tt))
    (performed-count b.done ∙ length-last s.pipes _)

-- one after another they make a way

way-opens : (ms : List Middle) (i k : StreamId) (n : ℕ) (prevent : Prevent) (s : Slots) → length s.pipes ≡ n → AllFree i ms k s → AllIdentity ms s → IsNumbered n ms → all_apart i ms k ≡ true
    → IsWay i (record { 0 = n }) ms k (run (pipes_of i ms k prevent) s)
way-opens [] i k n prevent s e f ids num a =
    subst (λ (q : ℕ). IsAnyLink i k (record { 0 = q }) (after_call (Pipe i k prevent None) s)) e (each_any_link_begins i k prevent None s f tt).link
way-opens (m ∷ ms) i k n prevent s e (f, g) ids num a =
    let w : StreamId = m.writable in
    let r : StreamId = m.readable in
    let c : Entry = Called (Pipe i w prevent None) in
    let z : Slots = after_call (Pipe i w prevent None) s in
    let far = and_left (apart_from i w r ms k) (all_apart r ms k) a in
    let link : IsAnyLink i w (record { 0 = n }) z = subst (λ (q : ℕ). IsAnyLink i w (record { 0 = q }) z) e (each_any_link_begins i w prevent None s f tt).link in
    let rest = way-opens ms r k (suc n) prevent z (pipe-count i w prevent s f ∙ ap suc e) (frees-stay i w r ms k prevent s far g) (identities-stay ms (c ∷ []) s ids.1) num.1 (and_right (apart_from i w r ms k) (all_apart r ms k) a) in
    let out : m.out ≡ record { 0 = suc n } = ap (λ (q : ℕ). record { 0 = q }) num.0 in
    let kept = (each_link_passes i w (record { 0 = n }) z (pipes_of r ms k prevent) link (leaves-pipes i w r ms k prevent ∙ far)).link in
    let identity = identity-stays m.number w r (c ∷ pipes_of r ms k prevent) s ids.0 in
    (kept, (identity, subst (λ (q : PipeId). IsWay r q ms k (run (pipes_of r ms k prevent) z)) (sym out) rest))

all-free : (xs : List Entry) (i : StreamId) (ms : List Middle) (k : StreamId) → all_make xs ≡ true → has_source i (run xs empty) ≡ true → (byte_at i (run xs empty)).auto ≡ 0 → has_writable k (run xs empty) ≡ true → AllIdentity ms (run xs empty) → AllFree i ms k (run xs empty)
all-free xs i [] k l there rooms there_too ids = each_new_pair_is_free xs i k l there rooms there_too
all-free xs i (m ∷ ms) k l there rooms there_too ids =
    let h = halves-there m.number m.writable m.readable (run xs empty) (run-halved xs empty halved-empty) ids.0 in
    let source : has_source m.readable (run xs empty) ≡ true = source-there m.readable (run xs empty) h.1 in
    let none : (byte_at m.readable (run xs empty)).auto ≡ 0 = (default-bare m.readable (run xs empty) (no-byte (slice_get (run xs empty).streams m.readable.0) h.1)).auto in
    (each_new_pair_is_free xs i m.writable l there rooms h.0, all-free xs m.readable ms k l source none there_too ids.1)

-- these calls are such as only open

make-opens : (c : Call) → makes c ≡ true → opens c ≡ true
make-opens (MakeReadable mark size start) l = refl
make-opens (MakeBytes mark auto start) l = refl
make-opens (MakeWritable mark size start) l = refl
make-opens (MakeTransform kind m n start) l = refl
make-opens c l = absurd (cc)

makes-open : (xs ys : List Entry) → all_make xs ≡ true → all_open ys ≡ true → all_open (xs ++ ys) ≡ true
makes-open [] ys l m = m
makes-open (Called c ∷ xs) ys l m =
    let a = make-opens c (and_left (makes c) (all_make xs) l) in
    let b = makes-open xs ys (and_right (makes c) (all_make xs) l) m in
    rw (a, b) refl
makes-open (Worked ∷ xs) ys l m = absurd (cc)
makes-open (Heard ∷ xs) ys l m = absurd (cc)

pipes-open : (i : StreamId) (ms : List Middle) (k : StreamId) (prevent : Prevent) → all_open (pipes_of i ms k prevent) ≡ true
pipes-open i [] k prevent = refl
pipes-open i (m ∷ ms) k prevent = pipes-open m.readable ms k prevent

pub each_way_opens : EachWayOpens
each_way_opens xs i k ms prevent d =
    let s : Slots = run xs empty in
    let pipes : List Entry = pipes_of i ms k prevent in
    let zs : List Entry = xs ++ pipes in
    let last : run zs empty ≡ run pipes s = run-more xs pipes empty in
    let fresh_pipes = (made-fresh xs empty d.made (record { streams = tt; pipes = refl; locks = refl; tees = refl })).pipes in
    let way = way-opens ms i k 0 prevent s (ap length fresh_pipes) (all-free xs i ms k d.made d.source d.no_rooms d.sink d.between) d.between d.numbered d.apart in
    let now : IsWay i (record { 0 = 0 }) ms k (run zs empty) = subst (λ (z : Slots). IsWay i (record { 0 = 0 }) ms k z) (sym last) way in
    let all = makes-open xs pipes d.made (pipes-open i ms k prevent) in
    let o = opened-run zs empty i k all (record { streams = tt; pipes = tt }) in
    let sink : owner_at k (run zs empty) ≡ Host = ap (owner_at k) last ∙ (sink-stays k pipes s d.sink ∙ d.own_sink) in
    record {
      way = now;
      source = ap (owner_at i) last ∙ (source-stays i pipes s d.source ∙ d.own);
      sink = sink;
      lies = way-silent zs i (record { 0 = 0 }) ms k all now;
      accepted = o.accepted;
      written = sym (acted_was_heard zs k sink) ∙ ap (λ (h : Writes). h.acted) o.none;
      closed = sym (closes_were_heard zs k sink) ∙ ap (λ (h : Writes). h.closes) o.none;
    }
