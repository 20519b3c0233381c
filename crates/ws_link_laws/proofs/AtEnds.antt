-- What a transform stream, or a port, is to a source and to a destination: it is at that end of the link, or elsewhere.
use Rattle.std.proofs.Common.{◌≡◌, ℕ, zero, suc, Bool, true, false, nat_eq, List, [], ◌∷◌, map, Option, Some, None, slice_get, refl, sym, ap, subst, ◌∙◌, arith}
use Rattle.ws_value.specs.declared.ids.StreamId.{StreamId}
use Rattle.ws_steps.specs.declared.calls.HostCall.{HostCall}
use Rattle.ws_steps.specs.declared.effects.Owner.{Owner}
use Rattle.ws_steps.specs.declared.effects.Owner.TheVariants.{Host, HalfOf, BranchOf, EndOf}
use Rattle.ws_steps.specs.declared.transform.Kind.TheVariants.{Host as HostKind}
use Rattle.ws_steps.specs.declared.transform.TransformId.{TransformId}
use Rattle.ws_steps.specs.Histories.{is_same}
use Rattle.ws_steps.specs.Slots.{Slots, no_transform, has_byte, owner_at, transform_at}
use Rattle.ws_steps.specs.Transform as transform
use Rattle.ws_laws.proofs.Ended.{Ended, PortShape, end_shape, port_shape}
use Rattle.ws_laws.proofs.Shapes.{StreamShape, ReadableOf, BytesOf, WritableOf, TransformShape, transform_shape, stream_shapes, transform_shapes, map-there}
use Rattle.ws_laws.proofs.Tables.{eq_numbers, unequal_numbers}
use Rattle.ws_laws.proofs.TransformDoes.{IsCallOf}
use Rattle.ws_link_laws.specs.Link.{Ear, OfSink, OfTransform, OfPort, is_port, is_end, Giver, OfSource, OfByteSource, OfHalf, OfEnd, silence, ear_by, ear_at, heard_call, giver_by, giver_at}
use Rattle.ws_link_laws.specs.Sound.{IsHosts}
use Rattle.ws_link_laws.proofs.Telling.{is_of, is_in}
use Rattle.ws_steps.specs.Cross as cross
use Rattle.ws_value.specs.declared.ids.PortId.{PortId}
use Rattle.ws_steps.specs.declared.port.Side.TheVariants.{Readable as ReadableSide}
use Rattle.ws_steps.specs.declared.port.Side.TheVariants.{Writable as WritableSide}
use Rattle.ws_steps.specs.declared.port.Side.{Side}
use Rattle.ws_link_laws.proofs.Hosts.{transform-told, half-giver, giver_shape, Hosts, Source, unlike}

same_transform : (t k : TransformId) → nat_eq t.0 k.0 ≡ true → t ≡ k
same_transform t k e = ap (λ (n : ℕ). record { 0 = n }) (eq_numbers t.0 k.0 e)

unequal_transforms : (t k : TransformId) → nat_eq t.0 k.0 ≡ false → t ≡ k → ⊥
unequal_transforms t k e is = unequal_numbers t.0 k.0 e (ap (λ (x : TransformId). x.0) is)

-- what transform stream k is to a source: it is the source's own, or another
pub data AtSource (i : StreamId) (g : Giver) (k : TransformId) (x : transform.Slots) : Type 0 where
  OwnSource : is_of g k ≡ true → x.readable ≡ i → x.kind ≡ HostKind → AtSource i g k x
  OtherSource : is_of g k ≡ false → is_same i x.readable ≡ false → AtSource i g k x

pub at-source : (i : StreamId) (s : Slots) (k : TransformId) (x : transform.Slots) → Source i s → slice_get s.transforms k.0 ≡ Some x → AtSource i (giver_at i s) k x
at-source i s k x h e = by (giver_at i s) refl h.shape
  where
    there : slice_get (transform_shapes s) k.0 ≡ Some (transform_shape x)
    there = map-there transform_shape s.transforms k.0 x e

    half : slice_get (stream_shapes s) x.readable.0 ≡ Some (ReadableOf (HalfOf k))
    half = (h.halved.halves k (transform_shape x) there).0

    own : slice_get (stream_shapes s) i.0 ≡ Some (ReadableOf (HalfOf k)) → x.readable ≡ i
    own shape = let y = h.halved.readable i k shape in let same : y.0 ≡ transform_shape x = (let a = there in let f = y.1.0 in cc) in let g = y.1.1 in ap (λ (z : TransformShape). z.readable) (sym same) ∙ g

    by_number : (t : TransformId) → slice_get (stream_shapes s) i.0 ≡ Some (ReadableOf (HalfOf t)) → IsHosts s (HalfOf t) → (b : Bool) → b ≡ nat_eq t.0 k.0 → AtSource i (OfHalf t) k x
    by_number t shape kind true n =
        let is : t ≡ k = same_transform t k (sym n) in
        let at : transform_at t s ≡ x = rw (is, e) refl in
        OwnSource (sym n) (own (rw is at shape)) (rw at at kind)
    by_number t shape kind false n = OtherSource (sym n) (unlike i x.readable (ReadableOf (HalfOf t)) (ReadableOf (HalfOf k)) (stream_shapes s) shape half (λ f. let is : t ≡ k = cc in unequal_transforms t k (sym n) is))

    by : (g : Giver) → g ≡ giver_at i s → slice_get (stream_shapes s) i.0 ≡ Some (giver_shape g) → AtSource i g k x
    by OfSource f shape = OtherSource refl (unlike i x.readable (ReadableOf Host) (ReadableOf (HalfOf k)) (stream_shapes s) shape half (λ f. cc))
    by OfByteSource f shape = OtherSource refl (unlike i x.readable BytesOf (ReadableOf (HalfOf k)) (stream_shapes s) shape half (λ f. cc))
    by (OfEnd c) f shape = OtherSource refl (unlike i x.readable (ReadableOf (EndOf c)) (ReadableOf (HalfOf k)) (stream_shapes s) shape half (λ f. cc))
    by (OfHalf t) f shape =
        let own : owner_at i s ≡ HalfOf t = (half-giver (has_byte i s) (owner_at i s) t (sym f)).1 in
        by_number t shape (rw own at h.kind) (nat_eq t.0 k.0) refl

-- what it is to a destination
pub data AtSink (j : StreamId) (w : Ear) (k : TransformId) (x : transform.Slots) : Type 0 where
  OwnSink : w ≡ OfTransform k x.readable → x.writable ≡ j → x.kind ≡ HostKind → AtSink j w k x
  OtherSink : is_in w k ≡ false → is_same j x.writable ≡ false → ((call : HostCall) → IsCallOf x.readable call → heard_call w call ≡ silence) → AtSink j w k x

unheard-by-sink : (j r : StreamId) (call : HostCall) → IsCallOf r call → heard_call (OfSink j) call ≡ silence
unheard-by-sink j r call c = grind (arith, c)

unheard-by-other : (t : TransformId) (m r : StreamId) (call : HostCall) → is_same m r ≡ false → IsCallOf r call → heard_call (OfTransform t m) call ≡ silence
unheard-by-other t m r call n c = grind (arith, n, c)

unheard-by-port : (c : PortId) (r : StreamId) (call : HostCall) → IsCallOf r call → heard_call (OfPort c) call ≡ silence
unheard-by-port c r call d = grind (arith, d)

pub at-sink : (i j : StreamId) (s : Slots) (k : TransformId) (x : transform.Slots) → Hosts i j s → slice_get s.transforms k.0 ≡ Some x → AtSink j (ear_at j s) k x
at-sink i j s k x h e = by (owner_at j s) refl h.sink h.sink_kind
  where
    there : slice_get (transform_shapes s) k.0 ≡ Some (transform_shape x)
    there = map-there transform_shape s.transforms k.0 x e

    halves : (slice_get (stream_shapes s) x.readable.0 ≡ Some (ReadableOf (HalfOf k))) × (slice_get (stream_shapes s) x.writable.0 ≡ Some (WritableOf (HalfOf k)))
    halves = h.halved.halves k (transform_shape x) there

    own : slice_get (stream_shapes s) j.0 ≡ Some (WritableOf (HalfOf k)) → x.writable ≡ j
    own shape = let y = h.halved.writable j k shape in let same : y.0 ≡ transform_shape x = (let a = there in let f = y.1.0 in cc) in let g = y.1.1 in ap (λ (z : TransformShape). z.writable) (sym same) ∙ g

    -- the readable half of another transform stream
    far : (t : TransformId) → slice_get (stream_shapes s) j.0 ≡ Some (WritableOf (HalfOf t)) → nat_eq t.0 k.0 ≡ false → is_same (transform_at t s).readable x.readable ≡ false
    far t shape n =
        let y = h.halved.writable j t shape in
        let at : transform_shape (transform_at t s) ≡ y.0 = transform-told s.transforms t.0 ∙ (let f = y.1.0 in rw f refl) in
        let r : slice_get (stream_shapes s) (transform_at t s).readable.0 ≡ Some (ReadableOf (HalfOf t)) = subst (λ (z : TransformShape). slice_get (stream_shapes s) z.readable.0 ≡ Some (ReadableOf (HalfOf t))) (sym at) (h.halved.halves t y.0 y.1.0).0 in
        unlike (transform_at t s).readable x.readable (ReadableOf (HalfOf t)) (ReadableOf (HalfOf k)) (stream_shapes s) r halves.0 (λ f. let is : t ≡ k = cc in unequal_transforms t k n is)

    by_number : (t : TransformId) → slice_get (stream_shapes s) j.0 ≡ Some (WritableOf (HalfOf t)) → IsHosts s (HalfOf t) → (b : Bool) → b ≡ nat_eq t.0 k.0 → AtSink j (ear_by j s (HalfOf t)) k x
    by_number t shape kind true n =
        let is : t ≡ k = same_transform t k (sym n) in
        let at : transform_at t s ≡ x = rw (is, e) refl in
        OwnSink (rw (at, is) refl) (own (rw is at shape)) (rw at at kind)
    by_number t shape kind false n =
        OtherSink (sym n) (unlike j x.writable (WritableOf (HalfOf t)) (WritableOf (HalfOf k)) (stream_shapes s) shape halves.1 (λ f. let is : t ≡ k = cc in unequal_transforms t k (sym n) is))
        (λ call c. unheard-by-other t (transform_at t s).readable x.readable call (far t shape (sym n)) c)

    by : (o : Owner) → o ≡ owner_at j s → slice_get (stream_shapes s) j.0 ≡ Some (WritableOf o) → IsHosts s o → AtSink j (ear_by j s o) k x
    by Host f shape kind = OtherSink refl (unlike j x.writable (WritableOf Host) (WritableOf (HalfOf k)) (stream_shapes s) shape halves.1 (λ f. cc)) (λ call c. unheard-by-sink j x.readable call c)
    by (HalfOf t) f shape kind = by_number t shape kind (nat_eq t.0 k.0) refl
    by (BranchOf t half) f shape kind = absurd kind
    by (EndOf c) f shape kind = OtherSink refl (unlike j x.writable (WritableOf (EndOf c)) (WritableOf (HalfOf k)) (stream_shapes s) shape halves.1 (λ f. cc)) (λ call d. unheard-by-port c x.readable call d)

-- a transform stream that isn't there is neither's

none-of : (s : Slots) (k : TransformId) (b : Bool) (o : Owner) → slice_get s.transforms k.0 ≡ None → IsHosts s o → is_of (giver_by b o) k ≡ false
none-of s k true o e h = refl
none-of s k false Host e h = refl
none-of s k false (HalfOf t) e h = by (nat_eq t.0 k.0) refl
  where
    by : (b : Bool) → b ≡ nat_eq t.0 k.0 → nat_eq t.0 k.0 ≡ false
    by false n = sym n
    by true n =
        let is : t ≡ k = same_transform t k (sym n) in
        let none : transform_at t s ≡ no_transform = rw (is, e) refl in
        let kind : no_transform.kind ≡ HostKind = rw none at h in
        cc
none-of s k false (BranchOf t half) e h = refl
none-of s k false (EndOf c) e h = refl

in-of : (j : StreamId) (s : Slots) (k : TransformId) (o : Owner) → is_in (ear_by j s o) k ≡ is_of (giver_by false o) k
in-of j s k Host = refl
in-of j s k (HalfOf t) = refl
in-of j s k (BranchOf t half) = refl
in-of j s k (EndOf c) = refl

pub no-source : (i : StreamId) (s : Slots) (k : TransformId) → Source i s → slice_get s.transforms k.0 ≡ None → is_of (giver_at i s) k ≡ false
no-source i s k h e = none-of s k (has_byte i s) (owner_at i s) e h.kind

pub no-sink : (i j : StreamId) (s : Slots) (k : TransformId) → Hosts i j s → slice_get s.transforms k.0 ≡ None → is_in (ear_at j s) k ≡ false
no-sink i j s k h e = in-of j s k (owner_at j s) ∙ none-of s k false (owner_at j s) e h.sink_kind

-- what port c is to a source, and to a destination: it is at its end, or not

pub data AtGiver (i : StreamId) (g : Giver) (c : PortId) (x : cross.Slots) : Type 0 where
  OwnGiver : g ≡ OfEnd c → x.stream ≡ i → x.side ≡ ReadableSide → AtGiver i g c x
  OtherGiver : is_end g c ≡ false → is_same i x.stream ≡ false → AtGiver i g c x

pub data AtPort (j : StreamId) (w : Ear) (c : PortId) (x : cross.Slots) : Type 0 where
  OwnPort : w ≡ OfPort c → x.stream ≡ j → x.side ≡ WritableSide → AtPort j w c x
  OtherPort : is_port w c ≡ false → is_same j x.stream ≡ false → AtPort j w c x

port_number : (c d : PortId) → nat_eq c.0 d.0 ≡ true → c ≡ d
port_number c d e = ap (λ (n : ℕ). record { 0 = n }) (eq_numbers c.0 d.0 e)

unequal_ports : (c d : PortId) → nat_eq c.0 d.0 ≡ false → c ≡ d → ⊥
unequal_ports c d e is = unequal_numbers c.0 d.0 e (ap (λ (x : PortId). x.0) is)

end-at : (s : Slots) (c : PortId) (x : cross.Slots) → Ended s → slice_get s.ports c.0 ≡ Some x → slice_get (stream_shapes s) x.stream.0 ≡ Some (end_shape c x.side)
end-at s c x ended e = ended.ends c (port_shape x) (map-there port_shape s.ports c.0 x e)

-- the port of a stream at an end is this
end-port : (s : Slots) (k : StreamId) (c : PortId) (side : Side) (x : cross.Slots) → Ended s → slice_get (stream_shapes s) k.0 ≡ Some (end_shape c side) → slice_get s.ports c.0 ≡ Some x → (x.stream ≡ k) × (x.side ≡ side)
end-port s k c side x ended shape e =
    let h = ended.end k c side shape in
    let both : ◌≡◌ {A = Option PortShape} (Some (port_shape x)) (Some (record { side = side; stream = k })) = sym (map-there port_shape s.ports c.0 x e) ∙ h in
    let same : port_shape x ≡ record { side = side; stream = k } = cc in
    (ap (λ (y : PortShape). y.stream) same, ap (λ (y : PortShape). y.side) same)

unlike-end : (c : PortId) (side : Side) (y : StreamShape) → (y ≡ ReadableOf (EndOf c) → ⊥) → (y ≡ WritableOf (EndOf c) → ⊥) → y ≡ end_shape c side → ⊥
unlike-end c ReadableSide y n m e = n e
unlike-end c WritableSide y n m e = m e

pub at-giver : (i : StreamId) (s : Slots) (c : PortId) (x : cross.Slots) → Source i s → slice_get s.ports c.0 ≡ Some x → AtGiver i (giver_at i s) c x
at-giver i s c x h e = by (giver_at i s) h.shape
  where
    at : slice_get (stream_shapes s) x.stream.0 ≡ Some (end_shape c x.side)
    at = end-at s c x h.ended e

    other : (y : StreamShape) → slice_get (stream_shapes s) i.0 ≡ Some y → (y ≡ ReadableOf (EndOf c) → ⊥) → (y ≡ WritableOf (EndOf c) → ⊥) → is_same i x.stream ≡ false
    other y shape n m = unlike i x.stream y (end_shape c x.side) (stream_shapes s) shape at (unlike-end c x.side y n m)

    by_number : (d : PortId) → slice_get (stream_shapes s) i.0 ≡ Some (ReadableOf (EndOf d)) → (b : Bool) → b ≡ nat_eq d.0 c.0 → AtGiver i (OfEnd d) c x
    by_number d shape true n =
        let is : d ≡ c = port_number d c (sym n) in
        let k = end-port s i c ReadableSide x h.ended (rw is at shape) e in
        OwnGiver (ap OfEnd is) k.0 k.1
    by_number d shape false n = OtherGiver (sym n) (other (ReadableOf (EndOf d)) shape (λ f. let is : d ≡ c = cc in unequal_ports d c (sym n) is) (λ f. cc))

    by : (g : Giver) → slice_get (stream_shapes s) i.0 ≡ Some (giver_shape g) → AtGiver i g c x
    by OfSource shape = OtherGiver refl (other (ReadableOf Host) shape (λ f. cc) (λ f. cc))
    by OfByteSource shape = OtherGiver refl (other BytesOf shape (λ f. cc) (λ f. cc))
    by (OfHalf t) shape = OtherGiver refl (other (ReadableOf (HalfOf t)) shape (λ f. cc) (λ f. cc))
    by (OfEnd d) shape = by_number d shape (nat_eq d.0 c.0) refl

pub at-port : (i j : StreamId) (s : Slots) (c : PortId) (x : cross.Slots) → Hosts i j s → slice_get s.ports c.0 ≡ Some x → AtPort j (ear_at j s) c x
at-port i j s c x h e = by (owner_at j s) h.sink
  where
    at : slice_get (stream_shapes s) x.stream.0 ≡ Some (end_shape c x.side)
    at = end-at s c x h.ended e

    other : (y : StreamShape) → slice_get (stream_shapes s) j.0 ≡ Some y → (y ≡ ReadableOf (EndOf c) → ⊥) → (y ≡ WritableOf (EndOf c) → ⊥) → is_same j x.stream ≡ false
    other y shape n m = unlike j x.stream y (end_shape c x.side) (stream_shapes s) shape at (unlike-end c x.side y n m)

    by_number : (d : PortId) → slice_get (stream_shapes s) j.0 ≡ Some (WritableOf (EndOf d)) → (b : Bool) → b ≡ nat_eq d.0 c.0 → AtPort j (OfPort d) c x
    by_number d shape true n =
        let is : d ≡ c = port_number d c (sym n) in
        let k = end-port s j c WritableSide x h.ended (rw is at shape) e in
        OwnPort (ap OfPort is) k.0 k.1
    by_number d shape false n = OtherPort (sym n) (other (WritableOf (EndOf d)) shape (λ f. cc) (λ f. let is : d ≡ c = cc in unequal_ports d c (sym n) is))

    by : (o : Owner) → slice_get (stream_shapes s) j.0 ≡ Some (WritableOf o) → AtPort j (ear_by j s o) c x
    by Host shape = OtherPort refl (other (WritableOf Host) shape (λ f. cc) (λ f. cc))
    by (HalfOf t) shape = OtherPort refl (other (WritableOf (HalfOf t)) shape (λ f. cc) (λ f. cc))
    by (BranchOf t half) shape = OtherPort refl (other (WritableOf (BranchOf t half)) shape (λ f. cc) (λ f. cc))
    by (EndOf d) shape = by_number d shape (nat_eq d.0 c.0) refl

-- a port that isn't there is at neither

none-shape : (ps : List cross.Slots) (n : ℕ) (x : PortShape) → slice_get ps n ≡ None → slice_get (map port_shape ps) n ≡ Some x → ⊥
none-shape [] n x e h = cc
none-shape (y ∷ ys) zero x e h = cc
none-shape (y ∷ ys) (suc n) x e h = none-shape ys n x e h

pub port-nowhere : (i j : StreamId) (s : Slots) (c : PortId) → Hosts i j s → slice_get s.ports c.0 ≡ None → is_port (ear_at j s) c ≡ false
port-nowhere i j s c h none = by (owner_at j s) h.sink
  where
    by_number : (d : PortId) → slice_get (stream_shapes s) j.0 ≡ Some (WritableOf (EndOf d)) → (b : Bool) → b ≡ nat_eq d.0 c.0 → nat_eq d.0 c.0 ≡ false
    by_number d shape false n = sym n
    by_number d shape true n = let is : d ≡ c = port_number d c (sym n) in absurd (none-shape s.ports c.0 _ none (h.ended.end j c WritableSide (rw is at shape)))

    by : (o : Owner) → slice_get (stream_shapes s) j.0 ≡ Some (WritableOf o) → is_port (ear_by j s o) c ≡ false
    by Host shape = refl
    by (HalfOf t) shape = refl
    by (BranchOf t half) shape = refl
    by (EndOf d) shape = by_number d shape (nat_eq d.0 c.0) refl

pub end-nowhere : (i : StreamId) (s : Slots) (c : PortId) → Source i s → slice_get s.ports c.0 ≡ None → is_end (giver_at i s) c ≡ false
end-nowhere i s c h none = by (giver_at i s) h.shape
  where
    by_number : (d : PortId) → slice_get (stream_shapes s) i.0 ≡ Some (ReadableOf (EndOf d)) → (b : Bool) → b ≡ nat_eq d.0 c.0 → nat_eq d.0 c.0 ≡ false
    by_number d shape false n = sym n
    by_number d shape true n = let is : d ≡ c = port_number d c (sym n) in absurd (none-shape s.ports c.0 _ none (h.ended.end i c ReadableSide (rw is at shape)))

    by : (g : Giver) → slice_get (stream_shapes s) i.0 ≡ Some (giver_shape g) → is_end g c ≡ false
    by OfSource shape = refl
    by OfByteSource shape = refl
    by (OfHalf t) shape = refl
    by (OfEnd d) shape = by_number d shape (nat_eq d.0 c.0) refl
