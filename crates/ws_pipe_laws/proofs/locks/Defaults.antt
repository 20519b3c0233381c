-- The source of each tee has a default controller, over every run.
use Rattle.ws_steps.specs.declared.port.Side.{Side as PortSide}
use Rattle.std.proofs.Common.{length}
use Rattle.ws_steps.specs.declared.port.Side.TheVariants.{Readable as ReadableSide, Writable as WritableSide}
use Rattle.ws_steps.specs.PipeCalls as pipe_calls
use Rattle.std.proofs.Common.{◌≡◌, ℕ, zero, suc, ◌⊎◌, inl, inr, ⊎_elim, true, List, [], ◌∷◌, ◌++◌, map, Option, Some, None, slice_get, refl, ap, subst}
use Rattle.ws_steps.specs.declared.calls.Call.{Call}
use Rattle.ws_steps.specs.declared.effects.Effect.{Effect}
use Rattle.ws_steps.specs.Tee as tee
use Rattle.ws_steps.specs.Begun.{Begun}
use Rattle.ws_steps.specs.Calls.{begin}
use Rattle.ws_steps.specs.Run.{Entry, run}
use Rattle.ws_steps.specs.Slots.{Slots, Stream, ReadableStream, ByteStream, WritableStream, is_readable_stream, empty}
use Rattle.ws_steps.specs.Turns.{row}
use Rattle.ws_laws.proofs.EachCall.{each_call}
use Rattle.ws_laws.proofs.Shapes.{StreamShape, ReadableOf, BytesOf, WritableOf, TeeShape, stream_shape, tee_shape, row-stream_shapes, row-tee_shapes}
use Rattle.ws_laws.proofs.Walker.{Stays, run-stays}

-- a readable stream with a default controller
abbrev IsDefault : Option StreamShape → Type 0
IsDefault None = ⊥
IsDefault (Some (ReadableOf o)) = Unit {0}
IsDefault (Some BytesOf) = ⊥
IsDefault (Some (WritableOf o)) = ⊥

shape-default : (xs : List Stream) (i : ℕ) → is_readable_stream (slice_get xs i) ≡ true → IsDefault (slice_get (map stream_shape xs) i)
shape-default [] i there = cc
shape-default (ReadableStream r ∷ xs) zero there = tt
shape-default (ByteStream b ∷ xs) zero there = cc
shape-default (WritableStream w ∷ xs) zero there = cc
shape-default (x ∷ xs) (suc i) there = shape-default xs i there

default-shape : (xs : List Stream) (i : ℕ) → IsDefault (slice_get (map stream_shape xs) i) → is_readable_stream (slice_get xs i) ≡ true
default-shape [] i h = absurd h
default-shape (ReadableStream r ∷ xs) zero h = refl
default-shape (ByteStream b ∷ xs) zero h = absurd h
default-shape (WritableStream w ∷ xs) zero h = absurd h
default-shape (x ∷ xs) (suc i) h = default-shape xs i h

-- each of these tees reads such a stream
abbrev ReadDefaults : List Stream → List tee.Slots → Type 0
ReadDefaults xs ts = (t : ℕ) (x : tee.Slots) → slice_get ts t ≡ Some x → is_readable_stream (slice_get xs x.source.0) ≡ true

abbrev Defaulted : Slots → List Effect → Type 0
Defaulted s es = ReadDefaults s.streams s.tees

more-streams : (xs : List Stream) (y : Stream) (i : ℕ) → is_readable_stream (slice_get xs i) ≡ true → is_readable_stream (slice_get (xs ++ y ∷ []) i) ≡ true
more-streams [] y i h = cc
more-streams (x ∷ xs) y zero h = h
more-streams (x ∷ xs) y (suc i) h = more-streams xs y i h

one-more : (xs : List Stream) (ts : List tee.Slots) (y : Stream) → ReadDefaults xs ts → ReadDefaults (xs ++ y ∷ []) ts
one-more xs ts y h t x is = more-streams xs y x.source.0 (h t x is)

last-or : (ts : List tee.Slots) (y x : tee.Slots) (t : ℕ) → slice_get (ts ++ y ∷ []) t ≡ Some x → (slice_get ts t ≡ Some x) ⊎ (y ≡ x)
last-or [] y x zero is = inr cc
last-or [] y x (suc t) is = cc
last-or (z ∷ ts) y x zero is = inl is
last-or (z ∷ ts) y x (suc t) is = last-or ts y x t is

tee-more : (xs : List Stream) (ts : List tee.Slots) (y : tee.Slots) → is_readable_stream (slice_get xs y.source.0) ≡ true → ReadDefaults xs ts → ReadDefaults xs (ts ++ y ∷ [])
tee-more xs ts y there h t x is =
    ⊎_elim (h t x) (λ same. subst (λ (z : tee.Slots). is_readable_stream (slice_get xs z.source.0) ≡ true) same there) (last-or ts y x t is)

port-defaults : (s : Slots) (side : PortSide) → Defaulted s [] → Defaulted (pipe_calls.open_end side (record { 0 = length s.streams }) s).done.slots []
port-defaults s ReadableSide h = one-more s.streams s.tees _ h
port-defaults s WritableSide h = one-more s.streams s.tees _ h

call-defaults : (c : Call) (s : Slots) → Defaulted s [] → Defaulted (begin c s).done.slots []
call-defaults c s h = each_call (λ (b : Begun). ReadDefaults b.done.slots.streams b.done.slots.tees) c s (record {
  unchanged = λ reply. h;
  rejected = λ fault. h;
  make_readable = λ mark size start. one-more s.streams s.tees _ h;
  make_bytes = λ mark auto start. one-more s.streams s.tees _ h;
  get_byob = λ i is e. h;
  release_byob = λ l closed i e. h;
  read_into = λ l i closed room element least e f. h;
  enqueue_bytes = λ i b e is some can. h;
  finish_bytes = λ i e is can. h;
  make_request = λ i reply is. h;
  respond = λ q i b e is can. h;
  make_writable = λ mark size start. one-more s.streams s.tees _ h;
  make_transform = λ kind m n start. one-more _ s.tees _ (one-more s.streams s.tees _ h);
  make_tee = λ i e is free untied. one-more _ _ _ (one-more s.streams _ _ (tee-more s.streams s.tees _ is h));
  get_reader = λ i e. h;
  get_writer = λ i e. h;
  release_reader = λ l closed i e. h;
  release_writer = λ l i w e f. h;
  cancel = λ reason i. h;
  read = λ l i closed e f. h;
  write = λ l v i e. h;
  close = λ i. h;
  abort = λ reason i e. h;
  enqueue = λ i v e o can. h;
  enqueue_half = λ i t v e o can. h;
  finish = λ i. h;
  fail_readable = λ i reason. h;
  fail_writable = λ i reason. h;
  fail_half = λ t reason. h;
  terminate = λ t. h;
  pipe = λ source dest prevent signal e f l m. h;
  make_signal = h;
  open_end = λ side. port-defaults s side h;
  send_readable = λ source there free. one-more s.streams s.tees _ h;
  send_writable = λ dest there free. one-more s.streams s.tees _ h;
  deliver = λ c m asked has. h;
  trigger = λ a reason. h;
  settle = λ a answer p e. h;
})

-- no effect changes of which kind a stream is, or what a tee reads

same-source : (ts us : List tee.Slots) (t : ℕ) (x : tee.Slots) → map tee_shape us ≡ map tee_shape ts → slice_get us t ≡ Some x
    → (y : tee.Slots) × ((slice_get ts t ≡ Some y) × (x.source ≡ y.source))
same-source [] [] t x same is = cc
same-source [] (u ∷ us) t x same is = cc
same-source (y ∷ ts) [] t x same is = cc
same-source (y ∷ ts) (u ∷ us) zero x same is =
    let shape : tee_shape u ≡ tee_shape y = cc in
    let this : u ≡ x = cc in
    (y, (refl, subst (λ (z : tee.Slots). z.source ≡ y.source) this (ap (λ (z : TeeShape). z.source) shape)))
same-source (y ∷ ts) (u ∷ us) (suc t) x same is = let others : map tee_shape us ≡ map tee_shape ts = cc in same-source ts us t x others is

row-defaults : (e : Effect) (s : Slots) → ReadDefaults s.streams s.tees → ReadDefaults (row e s).slots.streams (row e s).slots.tees
row-defaults e s h t x is =
    let was = same-source s.tees (row e s).slots.tees t x (row-tee_shapes e s) is in
    let before = shape-default s.streams was.0.source.0 (h t was.0 was.1.0) in
    default-shape (row e s).slots.streams x.source.0
    (rw (row-stream_shapes e s, was.1.1) before)

defaults-stay : Stays Defaulted
defaults-stay = record {
  row = λ s e es h. row-defaults e s h;
  call = λ s c h. call-defaults c s h;
  job = λ s job e h. h;
  answered = λ s p h. h;
  older = λ s h. h;
}

-- of each tee in a run
pub source-default : (entries : List Entry) (t : ℕ) (x : tee.Slots) → slice_get (run entries empty).tees t ≡ Some x → is_readable_stream (slice_get (run entries empty).streams x.source.0) ≡ true
source-default entries t x is = run-stays Defaulted defaults-stay (λ s h. h) entries empty (λ t x is. cc) t x is
