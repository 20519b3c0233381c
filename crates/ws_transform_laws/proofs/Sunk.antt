-- No writable stream is a branch of a tee, over every run.
use Rattle.std.proofs.Common.{◌≡◌, ℕ, zero, suc, true, List, [], ◌∷◌, ◌++◌, map, slice_get}
use Rattle.ws_value.specs.declared.ids.StreamId.{StreamId}
use Rattle.ws_steps.specs.declared.calls.Call.{Call}
use Rattle.ws_steps.specs.declared.effects.Owner.{Owner}
use Rattle.ws_steps.specs.declared.effects.Owner.TheVariants.{Host, HalfOf, BranchOf, EndOf}
use Rattle.ws_steps.specs.Begun.{Begun}
use Rattle.ws_steps.specs.Calls.{begin}
use Rattle.ws_steps.specs.Run.{Entry, run}
use Rattle.ws_steps.specs.Slots.{Slots, Stream, ReadableStream, ByteStream, WritableStream, empty, has_writable, owner_at, owner_of, is_writable_stream}
use Rattle.ws_laws.proofs.EachCall.{each_call}
use Rattle.ws_laws.proofs.Shapes.{StreamShape, ReadableOf, BytesOf, WritableOf, stream_shape, stream_shapes, row-stream_shapes}
use Rattle.ws_laws.proofs.Walker.{Stays, run-stays}
use Rattle.ws_steps.specs.declared.port.Side.{Side}
use Rattle.std.proofs.Common.{length}
use Rattle.ws_steps.specs.PipeCalls.{add_port}
use Rattle.ws_steps.specs.declared.port.Side.TheVariants.{Writable as WritableSide}
use Rattle.ws_steps.specs.declared.port.Side.TheVariants.{Readable as ReadableSide}

abbrev pub IsNoBranch : Owner → Type 0
IsNoBranch Host = Unit {0}
IsNoBranch (HalfOf t) = Unit {0}
IsNoBranch (BranchOf t half) = ⊥
IsNoBranch (EndOf c) = Unit {0}

abbrev IsSunk : StreamShape → Type 0
IsSunk (ReadableOf o) = Unit {0}
IsSunk BytesOf = Unit {0}
IsSunk (WritableOf o) = IsNoBranch o

abbrev AllSunk : List StreamShape → Type 0
AllSunk [] = Unit {0}
AllSunk (x ∷ xs) = IsSunk x × AllSunk xs

abbrev pub AreSunk : Slots → Type 0
AreSunk s = AllSunk (stream_shapes s)

more : (xs ys : List Stream) → AllSunk (map stream_shape xs) → AllSunk (map stream_shape ys) → AllSunk (map stream_shape (xs ++ ys))
more [] ys a b = b
more (x ∷ xs) ys a b = (a.0, more xs ys a.1 b)

port-sunk : (s : Slots) (side : Side) (i : StreamId) → AreSunk s → AreSunk (add_port i s side)
port-sunk s ReadableSide i h = more s.streams _ h (tt, tt)
port-sunk s WritableSide i h = more s.streams _ h (tt, tt)

call-sunk : (c : Call) (s : Slots) → AreSunk s → AreSunk (begin c s).done.slots
call-sunk c s h = each_call (λ (b : Begun). AreSunk b.done.slots) c s (record {
  unchanged = λ reply. h;
  rejected = λ fault. h;
  make_readable = λ mark size start. more s.streams _ h (tt, tt);
  make_bytes = λ mark auto start. more s.streams _ h (tt, tt);
  make_writable = λ mark size start. more s.streams _ h (tt, tt);
  make_transform = λ kind m n start. more (s.streams ++ _ ∷ []) _ (more s.streams _ h (tt, tt)) (tt, tt);
  make_tee = λ i e there free untied. more (s.streams ++ _ ∷ []) _ (more s.streams _ h (tt, tt)) (tt, tt);
  get_reader = λ i e. h;
  get_byob = λ i is e. h;
  get_writer = λ i e. h;
  release_reader = λ l closed i e. h;
  release_byob = λ l closed i e. h;
  release_writer = λ l i w e f. h;
  cancel = λ reason i. h;
  read = λ l i closed e f. h;
  read_into = λ l i closed room element least e f. h;
  write = λ l v i e. h;
  close = λ i. h;
  abort = λ reason i e. h;
  enqueue = λ i v e o can. h;
  enqueue_half = λ i t v e o can. h;
  enqueue_bytes = λ i b e is some can. h;
  finish = λ i. h;
  finish_bytes = λ i e is can. h;
  make_request = λ i reply is. h;
  respond = λ q i b e is can. h;
  fail_readable = λ i reason. h;
  fail_writable = λ i reason. h;
  fail_half = λ t reason. h;
  terminate = λ t. h;
  pipe = λ source dest prevent signal e f l m. h;
  make_signal = h;
  open_end = λ side. port-sunk s side (record { 0 = length s.streams }) h;
  send_readable = λ i there free. port-sunk s WritableSide (record { 0 = length s.streams }) h;
  send_writable = λ i there free. port-sunk s ReadableSide (record { 0 = length s.streams }) h;
  deliver = λ p m e is. h;
  trigger = λ a reason. h;
  settle = λ a answer p e. h;
})

pub sunk-stays : Stays (λ s es. AreSunk s)
sunk-stays = record {
  row = λ s e es h. rw (row-stream_shapes e s) h;
  call = λ s c h. call-sunk c s h;
  job = λ s job e h. h;
  answered = λ s p h. h;
  older = λ s h. h;
}

pub run-sunk : (xs : List Entry) → AreSunk (run xs empty)
run-sunk xs = run-stays (λ s es. AreSunk s) sunk-stays (λ z k. k) xs empty tt

-- the owner of a writable stream
pub sink-owned : (j : StreamId) (s : Slots) → AreSunk s → has_writable j s ≡ true → IsNoBranch (owner_at j s)
sink-owned j s h there = by s.streams j.0 h there
  where
    by : (xs : List Stream) (n : ℕ) → AllSunk (map stream_shape xs) → is_writable_stream (slice_get xs n) ≡ true → IsNoBranch (owner_of (slice_get xs n))
    by [] n a e = cc
    by (ReadableStream r ∷ xs) zero a e = cc
    by (ByteStream b ∷ xs) zero a e = cc
    by (WritableStream w ∷ xs) zero a e = a.0
    by (x ∷ xs) (suc n) a e = by xs n a.1 e
