-- What is taken of each kind of place, when so much is taken whatever the prices.
use Rattle.std.proofs.Common.{◌≡◌, ◌≤◌, ℕ, zero, suc, ◌+◌, List, [], ◌∷◌, length, map, Option, Some, None, refl, ap, ◌∙◌, arith}
use Rattle.std.specs.Prelude.{slice_get}
use Rattle.ws_value.specs.declared.ids.SignalId.{SignalId}
use Rattle.ws_value.specs.declared.ids.StreamId.{StreamId}
use Rattle.ws_pipe.specs.Seen.{SeenSignal}
use Rattle.ws_promise.specs.Seen.{jobs_in, events_in}
use Rattle.ws_steps.specs.declared.byte.ByteOperation.{ByteOperation}
use Rattle.ws_steps.specs.declared.effects.Effect.{Effect}
use Rattle.ws_steps.specs.declared.readable.ReadRequest.TheVariants.{Promise, Pipe as PipeRequest, Tee as TeeRequest}
use Rattle.ws_steps.specs.declared.readable.ReadableOperation.{ReadableOperation}
use Rattle.ws_steps.specs.declared.readable.ReadableOperation.TheVariants.{InitializeReader, ReleaseReader, Disturb, Read, Cancel, CancelIfReadable, Enqueue, Close, Error, StartSettled, PullSettled}
use Rattle.ws_steps.specs.declared.writable.WritableOperation.{WritableOperation}
use Rattle.ws_steps.specs.Pipes as pipe
use Rattle.ws_steps.specs.Places.{Prices, Counts, effect_price, prices_of, all_keep, all_kept, tees_keep, need, size, table_size, entries_of, members_of, own, own_readable, own_byte, own_writable, turns_alone, promises_alone, jobs_alone, events_alone, hosts_alone, queued_alone, requests_alone, requests_at, members_alone, descriptors_alone, copies_alone}
use Rattle.ws_steps.specs.Slots.{Slots, Stream, ReadableStream, ByteStream, WritableStream}
use Rattle.ws_room_laws.proofs.Rows.{each-none}
use Rattle.ws_tables.specs.View.{stream_of, signal_of}
use Rattle.ws_tables.specs.Room.{requested_in, described_in, IsWithin}
use Rattle.ws_tables.specs.declared.tables.Stream.{Stream as StreamRecord}
use Rattle.ws_tables.specs.declared.tables.Stream.TheVariants.{Readable, Bytes, Writable}
use Rattle.ws_performing.proofs.Keeps.{streams-keep-is, signals-keep-is, counts-at, one-most, same-number, tees-queued, tees-members, tees-descriptors, tees-copies}
use Rattle.ws_performing.proofs.Streams.{each-one}
use Rattle.ws_tables.proofs.Elements.{get-map}

-- the slots s' and the effects es take of each kind, with what the records keep for later, no more than s takes and keeps, and k
pub record Takes (k : Prices → ℕ) (s s' : Slots) (es : List Effect) : Type 0 where
  pub promises : prices_of promises_alone es + all_kept promises_alone s' + length s'.promises.entries ≤ length s.promises.entries + (all_kept promises_alone s + k promises_alone)
  pub jobs : prices_of jobs_alone es + all_kept jobs_alone s' + jobs_in s'.promises ≤ jobs_in s.promises + (all_kept jobs_alone s + k jobs_alone)
  pub events : prices_of events_alone es + all_kept events_alone s' + events_in s'.promises ≤ events_in s.promises + (all_kept events_alone s + k events_alone)
  pub hosts : prices_of hosts_alone es + all_kept hosts_alone s' + length s'.hosts ≤ length s.hosts + (all_kept hosts_alone s + k hosts_alone)
  pub turns : prices_of turns_alone es + all_kept turns_alone s' ≤ all_kept turns_alone s + k turns_alone
  -- of read requests, in all and at one stream
  pub asked : (i : StreamId) → prices_of requests_alone es + tees_keep requests_alone s'.tees + entries_of requests_alone (slice_get s'.streams i.0)
      ≤ entries_of requests_alone (slice_get s.streams i.0) + (tees_keep requests_alone s.tees + k requests_alone)
  pub requested : (i : StreamId) → prices_of (requests_at i) es + tees_keep (requests_at i) s'.tees + entries_of (requests_at i) (slice_get s'.streams i.0)
      ≤ entries_of (requests_at i) (slice_get s.streams i.0) + (tees_keep (requests_at i) s.tees + k (requests_at i))
  pub described : (i : StreamId) → prices_of descriptors_alone es + entries_of descriptors_alone (slice_get s'.streams i.0) ≤ entries_of descriptors_alone (slice_get s.streams i.0) + k descriptors_alone
  pub members : (a : SignalId) → prices_of members_alone es + members_of members_alone (slice_get s'.signals a.0) ≤ members_of members_alone (slice_get s.signals a.0) + k members_alone

module _ (π : Prices) where
  entries-free : π.queued ≡ 0 → π.request ≡ 0 → π.descriptor ≡ 0 → (o : Option Stream) → entries_of π o ≡ 0
  entries-free q r d None = refl
  entries-free q r d (Some (ReadableStream x)) = rw (q, r) (let a = each-none x.queue in let b = each-none x.requests in omega (arith, a, b))
  entries-free q r d (Some (ByteStream x)) = rw (q, r, d) (let a = each-none x.queue in let b = each-none x.stream.requests in let c = each-none x.descriptors in omega (arith, a, b, c))
  entries-free q r d (Some (WritableStream x)) = rw (q, r) (let a = each-none x.queue in let b = each-none x.write_requests in omega (arith, a, b))

  pub members-free : π.member ≡ 0 → (o : Option pipe.Signal) → members_of π o ≡ 0
  members-free m None = refl
  members-free m (Some x) = rw m (each-none x.pipes)

  -- in the lists of stream 0 and signal 0 there is nothing that counts
  lists-free : π.queued ≡ 0 → π.request ≡ 0 → π.descriptor ≡ 0 → π.member ≡ 0 → (s : Slots) → entries_of π (slice_get s.streams 0) + members_of π (slice_get s.signals 0) ≡ 0
  lists-free q r d m s = let a = entries-free q r d (slice_get s.streams 0) in let b = members-free m (slice_get s.signals 0) in omega (arith, a, b)

-- nothing is kept of requests, but by tees, nor of descriptors and pipes

requests-kept : (s : Slots) → all_kept requests_alone s ≡ tees_keep requests_alone s.tees
requests-kept s = let a = streams-keep-is requests_alone s.streams refl in let b = signals-keep-is requests_alone s.signals in omega (arith, a, b)

requests_at-kept : (i : StreamId) (s : Slots) → all_kept (requests_at i) s ≡ tees_keep (requests_at i) s.tees
requests_at-kept i s = let a = streams-keep-is (requests_at i) s.streams refl in let b = signals-keep-is (requests_at i) s.signals in omega (arith, a, b)

descriptors-kept : (s : Slots) → all_kept descriptors_alone s ≡ 0
descriptors-kept s =
    let a = streams-keep-is descriptors_alone s.streams refl in let b = signals-keep-is descriptors_alone s.signals in let c = tees-descriptors s.tees in omega (arith, a, b, c)

members-kept : (s : Slots) → all_kept members_alone s ≡ 0
members-kept s = let a = streams-keep-is members_alone s.streams refl in let b = signals-keep-is members_alone s.signals in let c = tees-members s.tees in omega (arith, a, b, c)

copies-kept : (s : Slots) → all_kept copies_alone s ≡ 0
copies-kept s = let a = streams-keep-is copies_alone s.streams refl in let b = signals-keep-is copies_alone s.signals in let c = tees-copies s.tees in omega (arith, a, b, c)

pub takes : (k : Prices → ℕ) (s s' : Slots) (es : List Effect)
    → ((π : Prices) (i : StreamId) (a : SignalId) → Counts π i → size π i a s' + need π s' es ≤ size π i a s + (all_kept π s + k π)) → Takes k s s' es
unfolding table_size
takes k s s' es h = record {
  promises =
      let a = h promises_alone (record { 0 = 0 }) (record { 0 = 0 }) (record { here = refl; others = λ j. omega arith }) in
      let b = lists-free promises_alone refl refl refl refl s in let c = lists-free promises_alone refl refl refl refl s' in
      omega (arith, a, b, c);
  jobs =
      let a = h jobs_alone (record { 0 = 0 }) (record { 0 = 0 }) (record { here = refl; others = λ j. omega arith }) in
      let b = lists-free jobs_alone refl refl refl refl s in let c = lists-free jobs_alone refl refl refl refl s' in
      omega (arith, a, b, c);
  events =
      let a = h events_alone (record { 0 = 0 }) (record { 0 = 0 }) (record { here = refl; others = λ j. omega arith }) in
      let b = lists-free events_alone refl refl refl refl s in let c = lists-free events_alone refl refl refl refl s' in
      omega (arith, a, b, c);
  hosts =
      let a = h hosts_alone (record { 0 = 0 }) (record { 0 = 0 }) (record { here = refl; others = λ j. omega arith }) in
      let b = lists-free hosts_alone refl refl refl refl s in let c = lists-free hosts_alone refl refl refl refl s' in
      omega (arith, a, b, c);
  turns =
      let a = h turns_alone (record { 0 = 0 }) (record { 0 = 0 }) (record { here = refl; others = λ j. omega arith }) in
      let b = lists-free turns_alone refl refl refl refl s in let c = lists-free turns_alone refl refl refl refl s' in
      omega (arith, a, b, c);
  asked = λ i.
      let a = h requests_alone i (record { 0 = 0 }) (record { here = refl; others = λ j. omega arith }) in
      let b = members-free requests_alone refl (slice_get s.signals 0) in let c = members-free requests_alone refl (slice_get s'.signals 0) in
      let d = requests-kept s in let e = requests-kept s' in
      omega (arith, a, b, c, d, e);
  requested = λ i.
      let a = h (requests_at i) i (record { 0 = 0 }) (counts-at i) in
      let b = members-free (requests_at i) refl (slice_get s.signals 0) in let c = members-free (requests_at i) refl (slice_get s'.signals 0) in
      let d = requests_at-kept i s in let e = requests_at-kept i s' in
      omega (arith, a, b, c, d, e);
  described = λ i.
      let a = h descriptors_alone i (record { 0 = 0 }) (record { here = refl; others = λ j. omega arith }) in
      let b = members-free descriptors_alone refl (slice_get s.signals 0) in let c = members-free descriptors_alone refl (slice_get s'.signals 0) in
      let d = descriptors-kept s in
      omega (arith, a, b, c, d);
  members = λ g.
      let a = h members_alone (record { 0 = 0 }) g (record { here = refl; others = λ j. omega arith }) in
      let b = entries-free members_alone refl refl refl (slice_get s.streams 0) in let c = entries-free members_alone refl refl refl (slice_get s'.streams 0) in
      let d = members-kept s in
      omega (arith, a, b, c, d);
}

-- the chunks that are handed on were paid for
pub copies-within : (n : ℕ) (s s' : Slots) (es : List Effect)
    → ((i : StreamId) (a : SignalId) → size copies_alone i a s' + need copies_alone s' es ≤ size copies_alone i a s + (all_kept copies_alone s + n))
    → prices_of copies_alone es ≤ n
unfolding table_size
copies-within n s s' es h =
    let a = h (record { 0 = 0 }) (record { 0 = 0 }) in
    let b = lists-free copies_alone refl refl refl refl s in
    let c = copies-kept s in
    omega (arith, a, b, c)

-- where the streams are the same, the entries that may come were paid for
pub queued-within : (n : ℕ) (s s' : Slots) (es : List Effect) → s'.streams ≡ s.streams
    → ((i : StreamId) (a : SignalId) → size queued_alone i a s' + need queued_alone s' es ≤ size queued_alone i a s + (all_kept queued_alone s + n))
    → prices_of queued_alone es ≤ n
unfolding table_size
queued-within n s s' es same h =
    let a = h (record { 0 = 0 }) (record { 0 = 0 }) in
    let b = members-free queued_alone refl (slice_get s.signals 0) in let c = members-free queued_alone refl (slice_get s'.signals 0) in
    let d = signals-keep-is queued_alone s.signals in
    let g = tees-queued s.tees in
    let e = ap (λ (xs : List Stream). entries_of queued_alone (slice_get xs 0)) same in
    let f = ap (all_keep queued_alone) same in
    omega (arith, a, b, c, d, e, f, g)

-- the entries of a stream, where its lists are counted

requested-is : (j : StreamId) (x : StreamRecord) → entries_of (requests_at j) (Some (stream_of x)) ≡ requested_in x
requested-is j (Readable r) = let a = each-none r.slots.queue in let b = each-one r.slots.requests in omega (arith, a, b)
requested-is j (Bytes x) = let a = each-none x.slots.queue in let b = each-one x.slots.stream.requests in let c = each-none x.slots.descriptors in omega (arith, a, b, c)
requested-is j (Writable w) = let a = each-none w.slots.queue in let b = each-one w.slots.write_requests in omega (arith, a, b)

pub requested-at : (j : StreamId) (xs : List StreamRecord) (i : ℕ) (x : StreamRecord) → slice_get xs i ≡ Some x → entries_of (requests_at j) (slice_get (map stream_of xs) i) ≡ requested_in x
requested-at j xs i x is = ap (entries_of (requests_at j)) (get-map stream_of xs i x is) ∙ requested-is j x

described-is : (x : StreamRecord) → entries_of descriptors_alone (Some (stream_of x)) ≡ described_in x
described-is (Readable r) = let a = each-none r.slots.queue in let b = each-none r.slots.requests in omega (arith, a, b)
described-is (Bytes x) = let a = each-none x.slots.queue in let b = each-none x.slots.stream.requests in let c = each-one x.slots.descriptors in omega (arith, a, b, c)
described-is (Writable w) = let a = each-none w.slots.queue in let b = each-none w.slots.write_requests in omega (arith, a, b)

pub described-at : (xs : List StreamRecord) (i : ℕ) (x : StreamRecord) → slice_get xs i ≡ Some x → entries_of descriptors_alone (slice_get (map stream_of xs) i) ≡ described_in x
described-at xs i x is = ap (entries_of descriptors_alone) (get-map stream_of xs i x is) ∙ described-is x

-- where there are places, there are for fewer
pub within-less : (n m : ℕ) (places : Option ℕ) → n ≤ m → IsWithin m places → IsWithin n places
within-less n m None less h = tt
within-less n m (Some p) less h = omega (arith, less, h)

pub members-at : (xs : List SeenSignal) (i : ℕ) (x : SeenSignal) → slice_get xs i ≡ Some x → members_of members_alone (slice_get (map signal_of xs) i) ≡ length x.signal.pipes
members-at xs i x is = ap (members_of members_alone) (get-map signal_of xs i x is) ∙ each-one x.signal.pipes

-- where the lists of records have the same places, so have those of the record of a number
pub same-room : {X R : Type 0} (room : X → R) (xs ys : List X) (i : ℕ) (y : X) → map room ys ≡ map room xs → slice_get ys i ≡ Some y → (x : X) × ((slice_get xs i ≡ Some x) × (room y ≡ room x))
same-room room [] [] i y same is = cc
same-room room [] (z ∷ ys) i y same is = cc
same-room room (x ∷ xs) [] i y same is = cc
same-room room (x ∷ xs) (z ∷ ys) zero y same is = (x, (refl, cc))
same-room room (x ∷ xs) (z ∷ ys) (suc i) y same is = let tails : map room ys ≡ map room xs = cc in same-room room xs ys i y tails is

-- what a row takes by itself is part of its price
pub own-within : (e : Effect)
    → (own promises_alone e ≤ effect_price promises_alone e) × (own jobs_alone e ≤ effect_price jobs_alone e) × (own events_alone e ≤ effect_price events_alone e) × (own hosts_alone e ≤ effect_price hosts_alone e)
    × (own queued_alone e ≤ effect_price queued_alone e) × (own requests_alone e ≤ effect_price requests_alone e) × (own members_alone e ≤ effect_price members_alone e)
    × (own descriptors_alone e ≤ effect_price descriptors_alone e)
own-within e = grind arith

pub own-within-at : (i : StreamId) (e : Effect) → own (requests_at i) e ≤ effect_price (requests_at i) e
own-within-at i e = grind arith

pub own-copies : (e : Effect) → own copies_alone e ≤ effect_price copies_alone e
own-copies e = grind arith

-- at one stream no more requests come than in all
at-one : (i : StreamId) (e : Effect) → effect_price (requests_at i) e ≤ effect_price requests_alone e
at-one i e = grind (arith, one-most)

pub all-at-one : (i : StreamId) (es : List Effect) → prices_of (requests_at i) es ≤ prices_of requests_alone es
all-at-one i [] = omega arith
all-at-one i (e ∷ es) = let a = at-one i e in let h = all-at-one i es in omega (arith, a, h)

-- the place of a request at its own stream

pub readable-here : (i : StreamId) (operation : ReadableOperation) → own_readable requests_alone i operation ≡ own_readable (requests_at i) i operation
readable-here i (Read (Promise p)) = refl
readable-here i (Read (PipeRequest p)) = refl
readable-here i (Read (TeeRequest t)) = rw (same-number i.0) refl
readable-here i (InitializeReader closed) = refl
readable-here i ReleaseReader = refl
readable-here i Disturb = refl
readable-here i (Cancel r p) = refl
readable-here i (CancelIfReadable r p) = refl
readable-here i (Enqueue v) = refl
readable-here i Close = refl
readable-here i (Error e) = refl
readable-here i (StartSettled outcome) = refl
readable-here i (PullSettled outcome) = refl

pub byte-here : (i : StreamId) (operation : ByteOperation) → own_byte requests_alone operation ≡ own_byte (requests_at i) operation
byte-here i operation = grind arith

pub writable-here : (i : StreamId) (operation : WritableOperation) → own_writable requests_alone operation ≡ own_writable (requests_at i) operation
writable-here i operation = grind arith
