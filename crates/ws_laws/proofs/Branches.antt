-- Each branch of a tee was made after its source.
use Rattle.std.proofs.Common.{◌≡◌, ℕ, ◌<◌, ◌≤◌, Bool, true, false, List, [], ◌∷◌, ◌++◌, length, map, zero, suc, ◌+◌, Some, slice_get, nat_eq, refl, sym, subst, ◌∙◌, arith}
use Rattle.ws_value.specs.declared.ids.StreamId.{StreamId}
use Rattle.ws_value.specs.declared.ids.TeeId.{TeeId}
use Rattle.ws_steps.specs.declared.calls.Call.{Call}
use Rattle.ws_steps.specs.declared.effects.Effect.{Effect}
use Rattle.ws_steps.specs.declared.effects.Owner.TheVariants.{Host, HalfOf, BranchOf}
use Rattle.ws_steps.specs.declared.readable.SizeBy.TheVariants.{Count}
use Rattle.ws_steps.specs.declared.tee.Half.{Half}
use Rattle.ws_steps.specs.declared.tee.Half.TheVariants.{First, Second}
use Rattle.ws_steps.specs.declared.transform.TransformId.{TransformId}
use Rattle.ws_steps.specs.Bytes as byte
use Rattle.ws_steps.specs.Readable as readable
use Rattle.ws_steps.specs.Tee as tee
use Rattle.ws_steps.specs.Writable as writable
use Rattle.ws_steps.specs.Promises.{next_id, fresh}
use Rattle.ws_steps.specs.Slots.{Slots, Stream, ReadableStream, ByteStream, WritableStream, empty, has_readable, is_readable_stream, owner_at, owner_of}
use Rattle.ws_steps.specs.Turns.{row}
use Rattle.ws_steps.specs.Begun.{Begun}
use Rattle.ws_steps.specs.MakingCalls.{add_stream}
use Rattle.ws_steps.specs.Calls.{begin}
use Rattle.ws_steps.specs.MakingCalls as making_calls
use Rattle.ws_steps.specs.PipeCalls as pipe_calls
use Rattle.ws_laws.proofs.EachCall.{each_call}
use Rattle.ws_laws.proofs.Halves.{get-last}
use Rattle.ws_laws.proofs.Shapes.{TeeShape, tee_shape, tee_shapes, map-there, row-owner, row-tee_shapes}
use Rattle.ws_laws.proofs.Tables.{eq_numbers, unequal_numbers, place_last, place_before}
use Rattle.ws_steps.specs.declared.port.Side.{Side}
use Rattle.ws_steps.specs.declared.port.Side.TheVariants.{Readable as ReadableSide, Writable as WritableSide}

-- each branch of a tee was made after its source
abbrev pub Below : Slots → Type 0
Below s = (j : StreamId) (t : TeeId) (half : Half) → owner_at j s ≡ BranchOf t half → (x : TeeShape) × ((slice_get (tee_shapes s) t.0 ≡ Some x) × (x.source.0 < j.0))

pub row-below : (e : Effect) (s : Slots) → Below s → Below (row e s).slots
row-below e s below = λ j t half is. rw (row-tee_shapes e s) (below j t half (sym (row-owner j e s) ∙ is))

-- calls keep that each branch was made after its source

-- a stream that is no branch is made
module _ (s : Slots) (y : Stream) (other : (t : TeeId) (half : Half) → owner_of (Some y) ≡ BranchOf t half → ⊥) (below : Below s) where
  added-by : (j : StreamId) (t : TeeId) (half : Half) (here : Bool) → here ≡ nat_eq j.0 (length s.streams) → owner_at j (add_stream y s) ≡ BranchOf t half
      → (x : TeeShape) × ((slice_get (tee_shapes s) t.0 ≡ Some x) × (x.source.0 < j.0))
  added-by j t half false e is = below j t half (rw (place_before s.streams y j.0 (unequal_numbers j.0 (length s.streams) (sym e))) at is)
  added-by j t half true e is =
      let now : slice_get (s.streams ++ y ∷ []) j.0 ≡ Some y = rw (eq_numbers j.0 (length s.streams) (sym e)) (place_last s.streams y) in
      absurd (other t half (rw now at is))

  added-below : Below (add_stream y s)
  added-below = λ j t half is. added-by j t half (nat_eq j.0 (length s.streams)) refl is

-- a tee is made

there-before : (xs : List Stream) (n : ℕ) → is_readable_stream (slice_get xs n) ≡ true → n < length xs
there-before [] n e = cc
there-before (x ∷ xs) zero e = omega arith
there-before (x ∷ xs) (suc n) e = let h = there-before xs n e in omega (arith, h)

one-more : {X : Type 0} (xs : List X) (x : X) → length (xs ++ x ∷ []) ≡ length xs + 1
one-more [] x = refl
one-more (y ∷ ys) x = let h = one-more ys x in omega (arith, h)

map-stays : {X Y : Type 0} (f : X → Y) (xs ys : List X) (n : ℕ) (y : Y) → slice_get (map f xs) n ≡ Some y → slice_get (map f (xs ++ ys)) n ≡ Some y
map-stays f [] ys n y is = cc
map-stays f (x ∷ xs) ys zero y is = is
map-stays f (x ∷ xs) ys (suc n) y is = map-stays f xs ys n y is

module _ (s : Slots) (source : StreamId) (there : has_readable source s ≡ true) (below : Below s) where
  abbrev Me : TeeId
  Me = record { 0 = length s.tees }

  abbrev Branch : Half → Stream
  Branch half = ReadableStream (readable.set_up (BranchOf Me half) 1 Count)

  abbrev One : List Stream
  One = s.streams ++ Branch First ∷ []

  abbrev Made : Slots
  Made = (making_calls.make_tee source (record { 0 = length s.streams }) (record { 0 = length s.streams + 1 }) s).done.slots

  abbrev New : tee.Slots
  New = tee.set_up source (record { 0 = length s.streams }) (record { 0 = length s.streams + 1 }) (next_id (fresh s.promises))

  abbrev Has : StreamId → TeeId → Type 0
  Has j t = (x : TeeShape) × ((slice_get (tee_shapes Made) t.0 ≡ Some x) × (x.source.0 < j.0))

  mine : (j : StreamId) → length s.streams ≤ j.0 → Has j Me
  mine j n = (tee_shape New, (map-there tee_shape (s.tees ++ New ∷ []) (length s.tees) New (get-last s.tees [] New), (let h = there-before s.streams source.0 there in omega (arith, h, n))))

  by-mine : (j : StreamId) (t : TeeId) (half mine_half : Half) → length s.streams ≤ j.0 → BranchOf Me mine_half ≡ BranchOf t half → Has j t
  by-mine j t half mine_half n e = let is : Me ≡ t = cc in subst (Has j) is (mine j n)

  made-by : (j : StreamId) (t : TeeId) (half : Half) (one two : Bool) → one ≡ nat_eq j.0 (length s.streams) → two ≡ nat_eq j.0 (length One) → owner_at j Made ≡ BranchOf t half → Has j t
  made-by j t half one true e f is =
      let at : j.0 ≡ length One = eq_numbers j.0 (length One) (sym f) in
      let now : slice_get (One ++ Branch Second ∷ []) j.0 ≡ Some (Branch Second) = rw at (place_last One (Branch Second)) in
      by-mine j t half Second (let h = one-more s.streams (Branch First) in omega (arith, at, h)) (rw now at is)
  made-by j t half true false e f is =
      let at : j.0 ≡ length s.streams = eq_numbers j.0 (length s.streams) (sym e) in
      let now : slice_get (One ++ Branch Second ∷ []) j.0 ≡ Some (Branch First) =
      place_before One (Branch Second) j.0 (unequal_numbers j.0 (length One) (sym f)) ∙ (rw at (place_last s.streams (Branch First))) in
      by-mine j t half First (omega (arith, at)) (rw now at is)
  made-by j t half false false e f is =
      let same : slice_get (One ++ Branch Second ∷ []) j.0 ≡ slice_get s.streams j.0 =
      place_before One (Branch Second) j.0 (unequal_numbers j.0 (length One) (sym f)) ∙ place_before s.streams (Branch First) j.0 (unequal_numbers j.0 (length s.streams) (sym e)) in
      let b = below j t half (rw same at is) in (b.0, (map-stays tee_shape s.tees (New ∷ []) t.0 b.0 b.1.0, b.1.1))

  tee-below : Below Made
  tee-below = λ j t half is. made-by j t half (nat_eq j.0 (length s.streams)) (nat_eq j.0 (length One)) refl refl is

port-below : (s : Slots) (side : Side) (i : StreamId) → Below s → Below (pipe_calls.add_port i s side)
port-below s ReadableSide i k = added-below s (pipe_calls.end_of (record { 0 = length s.ports }) ReadableSide) (λ t half e. cc) k
port-below s WritableSide i k = added-below s (pipe_calls.end_of (record { 0 = length s.ports }) WritableSide) (λ t half e. cc) k

pub call-below : (c : Call) (s : Slots) → Below s → Below (begin c s).done.slots
call-below c s k = each_call (λ (b : Begun). Below b.done.slots) c s (record {
  unchanged = λ reply. k;
  rejected = λ fault. k;
  make_readable = λ mark size start. added-below s (ReadableStream (readable.set_up Host mark size)) (λ t half e. cc) k;
  make_bytes = λ mark auto start. added-below s (ByteStream (byte.set_up mark auto)) (λ t half e. cc) k;
  get_byob = λ i is e. k;
  release_byob = λ l closed i e. k;
  read_into = λ l i closed room element least e f. k;
  enqueue_bytes = λ i b e is some can. k;
  finish_bytes = λ i e is can. k;
  make_request = λ i reply is. k;
  respond = λ q i b e is can. k;
  make_writable = λ mark size start. added-below s (WritableStream (writable.set_up Host mark size)) (λ t half e. cc) k;
  make_transform = λ kind m n start.
      let me : TransformId = record { 0 = length s.transforms } in
      let w : Stream = WritableStream (writable.set_up (HalfOf me) m Count) in
      added-below (add_stream w s) (ReadableStream (readable.set_up (HalfOf me) n Count)) (λ t half e. cc) (added-below s w (λ t half e. cc) k);
  make_tee = λ i e is free untied. tee-below s i is k;
  get_reader = λ i e. k;
  get_writer = λ i e. k;
  release_reader = λ l closed i e. k;
  release_writer = λ l i w e f. k;
  cancel = λ reason i. k;
  read = λ l i closed e f. k;
  write = λ l v i e. k;
  close = λ i. k;
  abort = λ reason i e. k;
  enqueue = λ i v e o can. k;
  enqueue_half = λ i t v e o can. k;
  finish = λ i. k;
  fail_readable = λ i reason. k;
  fail_writable = λ i reason. k;
  fail_half = λ t reason. k;
  terminate = λ t. k;
  pipe = λ source dest prevent signal e f l m. k;
  make_signal = k;
  open_end = λ side. port-below s side (record { 0 = length s.streams }) k;
  send_readable = λ i there free. port-below s WritableSide (record { 0 = length s.streams }) k;
  send_writable = λ i there free. port-below s ReadableSide (record { 0 = length s.streams }) k;
  deliver = λ p m e is. k;
  trigger = λ a reason. k;
  settle = λ a answer p e. k;
})

pub below-empty : Below empty
below-empty = λ j t half is. cc
