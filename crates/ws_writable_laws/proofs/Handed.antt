-- What is handed on: a stream of the host is the writable half of no transform stream, nor at the end of a port, and what these hand on doesn't
-- count.
use Rattle.std.proofs.Common.{◌≡◌, Option, List, [], ◌++◌, None, slice_get, refl, arith, ℕ, false, append-nil, Bool, true, Some, sym, ◌∙◌}
use Rattle.ws_value.specs.declared.ids.StreamId.{StreamId}
use Rattle.ws_value.specs.declared.ids.TeeId.{TeeId}
use Rattle.ws_steps.specs.declared.tee.Half.{Half}
use Rattle.ws_value.specs.declared.value.Value.{Value}
use Rattle.ws_steps.specs.Writable as writable
use Rattle.ws_steps.specs.Slots.{Slots, owner_at, as_writable, Stream, ReadableStream, ByteStream, WritableStream, owner_of, no_writable}
use Rattle.ws_steps.specs.WritableHistory.{Writes, no_writes, writes_then, first_chunk}
use Rattle.ws_steps.specs.declared.{effects.Owner.{Owner}, effects.Owner.TheVariants.{Host, HalfOf, BranchOf, EndOf}}
use Rattle.ws_steps.specs.declared.{transform.Taker.{Taker}, transform.Taker.TheVariants.{ToHost, ToTransform, ToPort}, transform.TransformId.{TransformId}}
use Rattle.ws_steps.specs.Writable.{write_to_host, Acts, hand_on_first, hand_on}
use Rattle.ws_steps.specs.Transform as transform
use Rattle.ws_steps.specs.Histories.{is_same}
use Rattle.ws_steps.specs.declared.{writable.WritableOperation.TheVariants.{HandOn}, writable.WriteRecord.{WriteRecord}, writable.WriteRecord.TheVariants.{Chunk, InFlight, CloseMark}}
use Rattle.ws_steps.specs.Queues.{first_value}
use Rattle.ws_laws.proofs.Tables.{same_id}
use Rattle.ws_laws.proofs.Halves.{Halved, halved-stays}
use Rattle.ws_laws.proofs.Ended.{Ended, ended-stays, end_shape, port_shape}
use Rattle.ws_value.specs.declared.ids.PortId.{PortId}
use Rattle.ws_steps.specs.Cross as cross
use Rattle.ws_steps.specs.declared.{calls.Call.{Call}, effects.Effect.{Effect}, port.Side.{Side}, port.Side.TheVariants.{Readable as ReadableSide, Writable as WritableSide}}
use Rattle.ws_steps.specs.Calls.{begin}
use Rattle.ws_steps.specs.Turns.{row}
use Rattle.ws_laws.proofs.Shapes.{WritableOf, stream_shapes, transform_shape, map-there, owner-told}
use Rattle.ws_writable_laws.proofs.Shape.{Core, core_of}
use Rattle.ws_writable_laws.proofs.Operations.{handed_queue, Due, Held, Fine, handed, chunk_handed, so_far-nothing, quiet-held, with_operation}

-- the halves of transform streams

-- no transform stream has it as its writable half
abbrev pub NoHalf : StreamId → Slots → Type 0
NoHalf i s = (t : TransformId) (x : transform.Slots) → slice_get s.transforms t.0 ≡ Some x → is_same i x.writable ≡ false

half-of : (s : Slots) (i : StreamId) (t : TransformId) (x : transform.Slots) → Halved s → owner_at i s ≡ Host → slice_get s.transforms t.0 ≡ Some x → (same : Bool) → same ≡ is_same i x.writable → same ≡ false
half-of s i t x halved host is false e = refl
half-of s i t x halved host is true e =
    let at : i ≡ x.writable = same_id i x.writable (sym e) in
    let shape : slice_get (stream_shapes s) i.0 ≡ Some (WritableOf (HalfOf t)) = rw at (halved.halves t (transform_shape x) (map-there transform_shape s.transforms t.0 x is)).1 in
    let owner : owner_at i s ≡ HalfOf t = owner-told s.streams i.0 ∙ rw shape refl in
    let wrong : HalfOf t ≡ Host = sym owner ∙ host in cc

pub no-half : (s : Slots) (i : StreamId) → Halved s → owner_at i s ≡ Host → NoHalf i s
no-half s i halved host = λ t x is. half-of s i t x halved host is (is_same i x.writable) refl

-- the streams at the ends of ports

-- no port has it as its stream
abbrev pub NoEnd : StreamId → Slots → Type 0
NoEnd i s = (c : PortId) (x : cross.Slots) → slice_get s.ports c.0 ≡ Some x → is_same i x.stream ≡ false

end-owner : (s : Slots) (i : StreamId) (c : PortId) (side : Side) → slice_get (stream_shapes s) i.0 ≡ Some (end_shape c side) → owner_at i s ≡ EndOf c
end-owner s i c ReadableSide shape = owner-told s.streams i.0 ∙ (rw shape refl)
end-owner s i c WritableSide shape = owner-told s.streams i.0 ∙ (rw shape refl)

end-of : (s : Slots) (i : StreamId) (c : PortId) (x : cross.Slots) → Ended s → owner_at i s ≡ Host → slice_get s.ports c.0 ≡ Some x → (same : Bool) → same ≡ is_same i x.stream → same ≡ false
end-of s i c x ended host is false e = refl
end-of s i c x ended host is true e =
    let at : i ≡ x.stream = same_id i x.stream (sym e) in
    let shape : slice_get (stream_shapes s) i.0 ≡ Some (end_shape c x.side) = rw at (ended.ends c (port_shape x) (map-there port_shape s.ports c.0 x is)) in
    let owner : owner_at i s ≡ EndOf c = end-owner s i c x.side shape in
    let wrong : EndOf c ≡ Host = sym owner ∙ host in cc

pub no-end : (s : Slots) (i : StreamId) → Ended s → owner_at i s ≡ Host → NoEnd i s
no-end s i ended host = λ c x is. end-of s i c x ended host is (is_same i x.stream) refl

-- halves and ends name what has them, and it names them
abbrev pub Tied : Slots → Type 0
Tied s = Halved s × Ended s

pub tied-row : (s : Slots) (e : Effect) (es : List Effect) → Halved s → Ended s → Tied (row e s).slots
tied-row s e es h k = (halved-stays.row s e es h, ended-stays.row s e es k)

pub tied-call : (s : Slots) (c : Call) → Halved s → Ended s → Tied (begin c s).done.slots
tied-call s c h k = (halved-stays.call s c h, ended-stays.call s c k)

-- of a stream that isn't there nothing is told

pub nothing_chunk : (x : ℕ) → chunk_handed x no_writable ≡ []
nothing_chunk x = grind arith

pub nothing_handed : (x : ℕ) → core_of (handed x no_writable) ≡ core_of no_writable
nothing_handed x = grind arith

-- what a half hands on doesn't count

abbrev SameHanded : ℕ → ℕ → writable.Slots → Type 0
SameHanded x y w = (core_of (handed x w) ≡ core_of (handed y w)) × (chunk_handed x w ≡ chunk_handed y w)

half-handed : (x y : ℕ) (w : writable.Slots) (t : TransformId) → w.owner ≡ HalfOf t → SameHanded x y w
half-handed x y w t o = grind (arith, o)

branch-handed : (x y : ℕ) (w : writable.Slots) (t : TeeId) (half : Half) → w.owner ≡ BranchOf t half → SameHanded x y w
branch-handed x y w t half o = grind (arith, o)

end-handed : (x y : ℕ) (w : writable.Slots) (c : PortId) → w.owner ≡ EndOf c → SameHanded x y w
end-handed x y w c o = grind (arith, o)

none-handed : (x y : ℕ) → SameHanded x y no_writable
none-handed x y = (nothing_handed x ∙ sym (nothing_handed y), nothing_chunk x ∙ sym (nothing_chunk y))

owner-handed : (x y : ℕ) (w : writable.Slots) (owner : Owner) → w.owner ≡ owner → (w.owner ≡ Host → x ≡ y) → SameHanded x y w
owner-handed x y w Host o same = rw (same o) (refl, refl)
owner-handed x y w (HalfOf t) o same = half-handed x y w t o
owner-handed x y w (BranchOf t half) o same = branch-handed x y w t half o
owner-handed x y w (EndOf c) o same = end-handed x y w c o

pub same-handed : (x y : ℕ) (o : Option Stream) → (owner_of o ≡ Host → x ≡ y) → SameHanded x y (as_writable o)
same-handed x y None same = none-handed x y
same-handed x y (Some (ReadableStream r)) same = none-handed x y
same-handed x y (Some (ByteStream b)) same = none-handed x y
same-handed x y (Some (WritableStream w)) same = owner-handed x y w w.owner refl same

-- the chunk of the write in flight is handed on: it counted as handed on before

abbrev pub acting : Writes → List Value → Writes
acting h vs = record h { acted = h.acted ++ vs }

pub writes-acted : (h : Writes) (vs : List Value) → writes_then h (record no_writes { acted = vs }) ≡ acting h vs
writes-acted h vs = grind (arith, append-nil)

hand_on-held : (i : StreamId) (taker : Taker) (n : Due) (h : Writes) (d : List Value) (a : Acts) (first : Option WriteRecord) → first_value a.slots.queue ≡ first → a.out.effects ≡ []
    → Fine (with_operation i (HandOn taker) n) h d (record (core_of a.slots) { queue = handed_queue a.slots.queue }) → Held i n h (hand_on_first i taker a first).out.effects (hand_on_first i taker a first).slots
hand_on-held i ToHost n h d a (Some (Chunk v)) e q f = rw q (record { behind = refl; dropped = d; fine = rw (so_far-nothing i h a.slots) (grind arith) })
hand_on-held i (ToTransform t p) n h d a (Some (Chunk v)) e q f = rw q (record { behind = refl; dropped = d; fine = rw (so_far-nothing i h a.slots) (grind arith) })
hand_on-held i (ToPort c p) n h d a (Some (Chunk v)) e q f = rw q (record { behind = refl; dropped = d; fine = rw (so_far-nothing i h a.slots) (grind arith) })
hand_on-held i taker n h d a (Some InFlight) e q f = quiet-held i n h d a.out.effects a.slots q (grind arith)
hand_on-held i taker n h d a (Some CloseMark) e q f = quiet-held i n h d a.out.effects a.slots q (grind arith)
hand_on-held i taker n h d a None e q f = quiet-held i n h d a.out.effects a.slots q (grind arith)

-- nothing is told of a half
half-fine : (n : Due) (h : Writes) (vs : List Value) (d : List Value) (c : Core) → c.hosted ≡ false → Fine n h d c → Fine n (acting h vs) d (record c { queue = handed_queue c.queue })
half-fine n h vs d c o f = grind arith

-- by whose stream it is
pub owned-held : (i : StreamId) (taker : Taker) (n : Due) (h : Writes) (d : List Value) (a : Acts) (owner : Owner) → a.slots.owner ≡ owner → a.out.effects ≡ []
    → Fine (with_operation i (HandOn taker) n) (acting h (chunk_handed 1 a.slots)) d (core_of (handed 1 a.slots))
    → Held i n (acting h (first_chunk a.slots.queue)) (hand_on i taker a).out.effects (hand_on i taker a).slots
unfolding hand_on
owned-held i taker n h d a Host o q f =
    let g : Fine (with_operation i (HandOn taker) n) (acting h (first_chunk a.slots.queue)) d (record (core_of a.slots) { queue = handed_queue a.slots.queue }) = rw o (rw o at f) in
    hand_on-held i taker n (acting h (first_chunk a.slots.queue)) d a (first_value a.slots.queue) refl q g
owned-held i taker n h d a (HalfOf t) o q f =
    hand_on-held i taker n (acting h (first_chunk a.slots.queue)) d a (first_value a.slots.queue) refl q
    (half-fine (with_operation i (HandOn taker) n) h (first_chunk a.slots.queue) d (core_of a.slots) (rw o refl) (rw o (rw (o, append-nil h.acted) at f)))
owned-held i taker n h d a (BranchOf t half) o q f =
    hand_on-held i taker n (acting h (first_chunk a.slots.queue)) d a (first_value a.slots.queue) refl q
    (half-fine (with_operation i (HandOn taker) n) h (first_chunk a.slots.queue) d (core_of a.slots) (rw o refl) (rw o (rw (o, append-nil h.acted) at f)))
owned-held i taker n h d a (EndOf c) o q f =
    hand_on-held i taker n (acting h (first_chunk a.slots.queue)) d a (first_value a.slots.queue) refl q
    (half-fine (with_operation i (HandOn taker) n) h (first_chunk a.slots.queue) d (core_of a.slots) (rw o refl) (rw o (rw (o, append-nil h.acted) at f)))
