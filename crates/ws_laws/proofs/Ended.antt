-- Ports and the streams at their ends name each other: a stream whose algorithms are those of a port is its stream, of its side, and the stream
-- of each port is there and performs its algorithms.
use Rattle.std.proofs.Common.{◌≡◌, ℕ, List, [], ◌∷◌, ◌++◌, length, map, zero, suc, Option, Some, None, slice_get, slice_set, ◌⊎◌, inl, inr, ⊎_elim, refl, sym, ap, ◌∙◌, subst}
use Rattle.ws_value.specs.declared.ids.PortId.{PortId}
use Rattle.ws_value.specs.declared.ids.StreamId.{StreamId}
use Rattle.ws_steps.specs.declared.calls.Call.{Call}
use Rattle.ws_steps.specs.declared.effects.Effect.{Effect}
use Rattle.ws_steps.specs.declared.effects.Effect.TheVariants.{Port}
use Rattle.ws_steps.specs.declared.effects.Owner.TheVariants.{Host, HalfOf, BranchOf, EndOf}
use Rattle.ws_steps.specs.declared.port.PortOperation.{PortOperation}
use Rattle.ws_steps.specs.declared.port.Side.{Side}
use Rattle.ws_steps.specs.declared.port.Side.TheVariants.{Readable as ReadableSide, Writable as WritableSide}
use Rattle.ws_steps.specs.declared.readable.SizeBy.TheVariants.{Count}
use Rattle.ws_steps.specs.declared.tee.Half.TheVariants.{First, Second}
use Rattle.ws_steps.specs.Bytes as byte
use Rattle.ws_steps.specs.Cross as cross
use Rattle.ws_steps.specs.Operations.{port_operation}
use Rattle.ws_steps.specs.Promises.{next_id}
use Rattle.ws_steps.specs.Readable as readable
use Rattle.ws_steps.specs.Writable as writable
use Rattle.ws_steps.specs.Slots.{Slots, Stream, ReadableStream, ByteStream, WritableStream, empty, found, on_port_at, clones_at}
use Rattle.ws_steps.specs.Turns.{row}
use Rattle.ws_steps.specs.Run.{Entry, run}
use Rattle.ws_steps.specs.Begun.{Begun}
use Rattle.ws_steps.specs.Calls.{begin}
use Rattle.ws_steps.specs.MakingCalls as making_calls
use Rattle.ws_steps.specs.PipeCalls as pipe_calls
use Rattle.ws_laws.proofs.EachCall.{each_call}
use Rattle.ws_laws.proofs.Halves.{get-stays, get-last, get-either}
use Rattle.ws_laws.proofs.PortDoes.{port-causes}
use Rattle.ws_laws.proofs.Apart.{row-ports}
use Rattle.ws_laws.proofs.Shapes.{StreamShape, ReadableOf, BytesOf, WritableOf, stream_shape, stream_shapes, row-stream_shapes}
use Rattle.ws_laws.proofs.Walker.{Stays, run-stays}

pub record PortShape : Type 0 where
  pub side : Side
  pub stream : StreamId

abbrev pub port_shape : cross.Slots → PortShape
port_shape x = record { side = x.side; stream = x.stream }

abbrev pub port_shapes : Slots → List PortShape
port_shapes s = map port_shape s.ports

-- of the stream at this end of port c
abbrev pub end_shape : PortId → Side → StreamShape
end_shape c ReadableSide = ReadableOf (EndOf c)
end_shape c WritableSide = WritableOf (EndOf c)

-- each effect leaves the sides and the streams of the ports

map-set_same : {X Y : Type 0} (f : X → Y) (xs : List X) (i : ℕ) (x y : X) → slice_get xs i ≡ Some x → f y ≡ f x → map f (slice_set xs i y) ≡ map f xs
map-set_same f [] i x y is same = cc
map-set_same f (z ∷ zs) zero x y is same = let h : z ≡ x = cc in ap (λ w. w ∷ map f zs) (same ∙ sym (ap f h))
map-set_same f (z ∷ zs) (suc i) x y is same = ap (λ ws. f z ∷ ws) (map-set_same f zs i x y is same)

port-shape : (c : PortId) (operation : PortOperation) (s : Slots) (o : Option cross.Slots) → slice_get s.ports c.0 ≡ o
    → port_shapes (on_port_at (λ clones. port_operation c clones operation) c s o).slots ≡ port_shapes s
port-shape c operation s None is = refl
port-shape c operation s (Some x) is =
    let a : cross.Acts = record { slots = x; out = found s } in
    let b : cross.Acts = port_operation c (clones_at x s) operation a in
    let k = port-causes c (clones_at x s) operation a tt in
    map-set_same port_shape s.ports c.0 x b.slots is (λ i. record { side = k.0 i; stream = k.1.0 i })

pub row-port_shapes : (e : Effect) (s : Slots) → port_shapes (row e s).slots ≡ port_shapes s
unfolding row
row-port_shapes (Port c operation) s = port-shape c operation s (slice_get s.ports c.0) refl
row-port_shapes e s = ap (map port_shape) (row-ports e s tt)

-- the port of this number is of this side, and has this stream
abbrev pub HasEnd : List PortShape → PortId → Side → StreamId → Type 0
HasEnd ps c side i = slice_get ps c.0 ≡ Some (record { side = side; stream = i })

pub record AreEnds (xs : List StreamShape) (ps : List PortShape) : Type 0 where
  pub end : (i : StreamId) (c : PortId) (side : Side) → slice_get xs i.0 ≡ Some (end_shape c side) → HasEnd ps c side i
  pub ends : (c : PortId) (x : PortShape) → slice_get ps c.0 ≡ Some x → slice_get xs x.stream.0 ≡ Some (end_shape c x.side)

abbrev pub Ended : Slots → Type 0
Ended s = AreEnds (stream_shapes s) (port_shapes s)

map-append : {X Y : Type 0} (f : X → Y) (xs ys : List X) → map f (xs ++ ys) ≡ map f xs ++ map f ys
map-append f [] ys = refl
map-append f (x ∷ xs) ys = ap (λ zs. f x ∷ zs) (map-append f xs ys)

length-map : {X Y : Type 0} (f : X → Y) (xs : List X) → length (map f xs) ≡ length xs
length-map f [] = refl
length-map f (x ∷ xs) = ap suc (length-map f xs)

-- another stream is made
abbrev IsNoEnd : StreamShape → Type 0
IsNoEnd y = (c : PortId) (side : Side) → y ≡ end_shape c side → ⊥

other-made : (y : StreamShape) → IsNoEnd y → (xs : List StreamShape) (ps : List PortShape) → AreEnds xs ps → AreEnds (xs ++ y ∷ []) ps
other-made y n xs ps a = record {
  end = λ i c side is. ⊎_elim (λ old. a.end i c side old) (λ new. absurd (n c side new.1)) (get-either xs y i.0 (end_shape c side) is);
  ends = λ c x is. get-stays xs (y ∷ []) x.stream.0 _ (a.ends c x is);
}

stream-made : (y : Stream) (s : Slots) → IsNoEnd (stream_shape y) → Ended s → Ended (making_calls.add_stream y s)
stream-made y s n h = rw (map-append stream_shape s.streams (y ∷ [])) (other-made (stream_shape y) n (stream_shapes s) (port_shapes s) h)

-- and a port with its stream

same_number : (i j : StreamId) → i.0 ≡ j.0 → i ≡ j
same_number i j e = λ k. record { 0 = e k }

same_port : (c d : PortId) → c.0 ≡ d.0 → c ≡ d
same_port c d e = λ k. record { 0 = e k }

same-end : (me c : PortId) (side other : Side) → end_shape me side ≡ end_shape c other → (me ≡ c) × (side ≡ other)
same-end me c ReadableSide ReadableSide e = (cc, refl)
same-end me c ReadableSide WritableSide e = cc
same-end me c WritableSide ReadableSide e = cc
same-end me c WritableSide WritableSide e = (cc, refl)

module _ (xs : List StreamShape) (ps : List PortShape) (a : AreEnds xs ps) (me : PortId) (i : StreamId) (side : Side) (number : me.0 ≡ length ps) (place : i.0 ≡ length xs) where
  abbrev New : PortShape
  New = record { side = side; stream = i }

  mine : slice_get (ps ++ New ∷ []) me.0 ≡ Some New
  mine = rw number (get-last ps [] New)

  new-end : (j : StreamId) (c : PortId) (other : Side) → j.0 ≡ length xs → end_shape me side ≡ end_shape c other → HasEnd (ps ++ New ∷ []) c other j
  new-end j c other e same =
      let k = same-end me c side other same in
      let here : i ≡ j = same_number i j (place ∙ sym e) in
      subst (λ d. HasEnd (ps ++ New ∷ []) d other j) k.0 (subst (λ z. HasEnd (ps ++ New ∷ []) me z j) k.1 (subst (λ n. HasEnd (ps ++ New ∷ []) me side n) here mine))

  new-port : (c : PortId) (x : PortShape) → c.0 ≡ length ps → New ≡ x → slice_get (xs ++ end_shape me side ∷ []) x.stream.0 ≡ Some (end_shape c x.side)
  new-port c x e same =
      let is : me ≡ c = same_port me c (number ∙ sym e) in
      rw (← same, ← is, place) (get-last xs [] (end_shape me side))

  pub made-end : AreEnds (xs ++ end_shape me side ∷ []) (ps ++ New ∷ [])
  made-end = record {
    end = λ j c other is. ⊎_elim (λ old. get-stays ps (New ∷ []) c.0 _ (a.end j c other old)) (λ new. new-end j c other new.0 new.1) (get-either xs (end_shape me side) j.0 (end_shape c other) is);
    ends = λ c x is. ⊎_elim (λ old. get-stays xs (end_shape me side ∷ []) x.stream.0 _ (a.ends c x old)) (λ new. new-port c x new.0 new.1) (get-either ps New c.0 x is);
  }

port-made : (side : Side) (s : Slots) → Ended s → Ended (pipe_calls.add_port (record { 0 = length s.streams }) s side)
port-made ReadableSide s h =
    let me : PortId = record { 0 = length s.ports } in
    let i : StreamId = record { 0 = length s.streams } in
    rw (map-append stream_shape s.streams (pipe_calls.end_of me ReadableSide ∷ []), map-append port_shape s.ports (cross.set_up ReadableSide i None ∷ []))
    (made-end (stream_shapes s) (port_shapes s) h me i ReadableSide (sym (length-map port_shape s.ports)) (sym (length-map stream_shape s.streams)))
port-made WritableSide s h =
    let me : PortId = record { 0 = length s.ports } in
    let i : StreamId = record { 0 = length s.streams } in
    rw (map-append stream_shape s.streams (pipe_calls.end_of me WritableSide ∷ []), map-append port_shape s.ports (cross.set_up WritableSide i (Some (next_id s.promises)) ∷ []))
    (made-end (stream_shapes s) (port_shapes s) h me i WritableSide (sym (length-map port_shape s.ports)) (sym (length-map stream_shape s.streams)))

no-end : (y : StreamShape) → (y ≡ ReadableOf Host) ⊎ ((y ≡ WritableOf Host) ⊎ (y ≡ BytesOf)) → IsNoEnd y
no-end y e c ReadableSide same = ⊎_elim (λ a. let w : ReadableOf Host ≡ ReadableOf (EndOf c) = sym a ∙ same in cc) (λ b. ⊎_elim (λ a. let w : WritableOf Host ≡ ReadableOf (EndOf c) = sym a ∙ same in cc) (λ a. let w : BytesOf ≡ ReadableOf (EndOf c) = sym a ∙ same in cc) b) e
no-end y e c WritableSide same = ⊎_elim (λ a. let w : ReadableOf Host ≡ WritableOf (EndOf c) = sym a ∙ same in cc) (λ b. ⊎_elim (λ a. let w : WritableOf Host ≡ WritableOf (EndOf c) = sym a ∙ same in cc) (λ a. let w : BytesOf ≡ WritableOf (EndOf c) = sym a ∙ same in cc) b) e

other-owner : (y : Stream) → ((c : PortId) → stream_shape y ≡ ReadableOf (EndOf c) → ⊥) → ((c : PortId) → stream_shape y ≡ WritableOf (EndOf c) → ⊥) → IsNoEnd (stream_shape y)
other-owner y f g c ReadableSide e = f c e
other-owner y f g c WritableSide e = g c e

call-ended : (c : Call) (s : Slots) → Ended s → Ended (begin c s).done.slots
call-ended c s h = each_call (λ (b : Begun). Ended b.done.slots) c s (record {
  unchanged = λ reply. h;
  rejected = λ fault. h;
  make_readable = λ mark size start. stream-made (ReadableStream (readable.set_up Host mark size)) s (no-end _ (inl refl)) h;
  make_bytes = λ mark auto start. stream-made (ByteStream (byte.set_up mark auto)) s (no-end _ (inr (inr refl))) h;
  get_byob = λ i is e. h;
  release_byob = λ l closed i e. h;
  read_into = λ l i closed room element least e f. h;
  enqueue_bytes = λ i b e is some can. h;
  finish_bytes = λ i e is can. h;
  make_request = λ i reply is. h;
  respond = λ q i b e is can. h;
  make_writable = λ mark size start. stream-made (WritableStream (writable.set_up Host mark size)) s (no-end _ (inr (inl refl))) h;
  make_transform = λ kind m n start.
      let w : Stream = WritableStream (writable.set_up (HalfOf (record { 0 = length s.transforms })) m Count) in
      let r : Stream = ReadableStream (readable.set_up (HalfOf (record { 0 = length s.transforms })) n Count) in
      stream-made r (making_calls.add_stream w s) (other-owner r (λ c e. cc) (λ c e. cc)) (stream-made w s (other-owner w (λ c e. cc) (λ c e. cc)) h);
  make_tee = λ i e is free untied.
      let x : Stream = ReadableStream (readable.set_up (BranchOf (record { 0 = length s.tees }) First) 1 Count) in
      let y : Stream = ReadableStream (readable.set_up (BranchOf (record { 0 = length s.tees }) Second) 1 Count) in
      stream-made y (making_calls.add_stream x s) (other-owner y (λ c e. cc) (λ c e. cc)) (stream-made x s (other-owner x (λ c e. cc) (λ c e. cc)) h);
  get_reader = λ i e. h;
  get_writer = λ i e. h;
  release_reader = λ l closed i e. h;
  release_writer = λ l i w e f. h;
  cancel = λ reason i. h;
  read = λ l i closed e f. h;
  write = λ l v i e. h;
  close = λ i. h;
  abort = λ reason i e. h;
  enqueue = λ i v e o can. h;
  enqueue_half = λ i a v e o can. h;
  finish = λ i. h;
  fail_readable = λ i reason. h;
  fail_writable = λ i reason. h;
  fail_half = λ a reason. h;
  terminate = λ a. h;
  pipe = λ source dest prevent signal e f l m. h;
  make_signal = h;
  open_end = λ side. port-made side s h;
  send_readable = λ i there free. port-made WritableSide s h;
  send_writable = λ i there free. port-made ReadableSide s h;
  deliver = λ p m e is. h;
  trigger = λ a reason. h;
  settle = λ a answer p e. h;
})

ended-from : (s z : Slots) → stream_shapes z ≡ stream_shapes s → port_shapes z ≡ port_shapes s → Ended s → Ended z
ended-from s z e f h = rw (e, f) h

-- over every run
abbrev pub AlwaysEnded : Slots → List Effect → Type 0
AlwaysEnded s es = Ended s

pub ended-stays : Stays AlwaysEnded
ended-stays = record {
  row = λ s e es h. ended-from s (row e s).slots (row-stream_shapes e s) (row-port_shapes e s) h;
  call = λ s c h. call-ended c s h;
  job = λ s job e h. h;
  answered = λ s p h. h;
  older = λ s h. h;
}

pub ended-empty : Ended empty
ended-empty = record { end = λ i c side is. cc; ends = λ c x is. cc }

pub run-ended : (entries : List Entry) → Ended (run entries empty)
run-ended entries = run-stays AlwaysEnded ended-stays (λ z k. k) entries empty ended-empty
