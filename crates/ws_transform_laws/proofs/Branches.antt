-- What an operation of a tee or of a port causes, where that is there: branches and ends are no halves of transform streams.
use Rattle.std.proofs.Common.{◌≡◌, Bool, true, false, Option, Some, None, slice_get, inl, inr, refl, sym, ap, ◌∙◌}
use Rattle.ws_value.specs.declared.ids.StreamId.{StreamId}
use Rattle.ws_value.specs.declared.ids.TeeId.{TeeId}
use Rattle.ws_value.specs.declared.ids.PortId.{PortId}
use Rattle.ws_steps.specs.declared.effects.Effect.{Effect}
use Rattle.ws_steps.specs.declared.effects.Owner.TheVariants.{HalfOf, BranchOf}
use Rattle.ws_steps.specs.declared.tee.Half.{Half}
use Rattle.ws_steps.specs.declared.tee.Half.TheVariants.{First, Second}
use Rattle.ws_steps.specs.declared.tee.TeeOperation.{TeeOperation}
use Rattle.ws_steps.specs.declared.port.PortOperation.{PortOperation}
use Rattle.ws_steps.specs.declared.transform.TransformId.{TransformId}
use Rattle.ws_steps.specs.Histories.{is_same}
use Rattle.ws_steps.specs.Operations.{tee_operation, port_operation}
use Rattle.ws_steps.specs.Tee as tee
use Rattle.ws_steps.specs.Cross as cross
use Rattle.ws_steps.specs.Slots.{Slots, found, on_tee_at, on_port_at, clones_at}
use Rattle.ws_steps.specs.Turns.{row}
use Rattle.ws_steps.specs.declared.effects.Effect.TheVariants.{Tee as OnTee, Port as OnPort}
use Rattle.ws_laws.proofs.Halves.{Halved}
use Rattle.ws_laws.proofs.Lists.{Each, each-map}
use Rattle.ws_laws.proofs.Shapes.{StreamShape, ReadableOf, stream_shapes, tee_shape, map-there}
use Rattle.ws_laws.proofs.Tables.{same_id}
use Rattle.ws_laws.proofs.TeeDoes.{IsBranch, TeeCauses, tee-causes}
use Rattle.ws_laws.proofs.PortDoes.{PortCauses, port-causes}
use Rattle.ws_laws.proofs.Ended.{Ended, end_shape, port_shape}
use Rattle.ws_steps.specs.declared.port.Side.{Side}
use Rattle.ws_steps.specs.declared.port.Side.TheVariants.{Readable, Writable}

caused-by : (P : Effect → Type 0) (u : TeeId) (operation : TeeOperation) (s : Slots) (o : Option tee.Slots) → slice_get s.tees u.0 ≡ o
    → ((x : tee.Slots) → slice_get s.tees u.0 ≡ Some x → (e : Effect) → TeeCauses u x.source x.branch1 x.branch2 e → P e)
    → Each P (on_tee_at (tee_operation u operation) u s o).caused
caused-by P u operation s None is k = tt
caused-by P u operation s (Some x) is k =
    each-map (TeeCauses u x.source x.branch1 x.branch2) P (k x is) _ ((tee-causes u operation (record { slots = x; out = found s })).effects tt)

-- what each such effect has, each effect has that an operation of the tee causes
pub tee-caused : (P : Effect → Type 0) (u : TeeId) (operation : TeeOperation) (s : Slots)
    → ((x : tee.Slots) → slice_get s.tees u.0 ≡ Some x → (e : Effect) → TeeCauses u x.source x.branch1 x.branch2 e → P e)
    → Each P (row (OnTee u operation) s).caused
unfolding row
tee-caused P u operation s k = caused-by P u operation s (slice_get s.tees u.0) refl k

ported-by : (P : Effect → Type 0) (u : PortId) (operation : PortOperation) (s : Slots) (o : Option cross.Slots) → slice_get s.ports u.0 ≡ o
    → ((x : cross.Slots) → slice_get s.ports u.0 ≡ Some x → (e : Effect) → PortCauses u x.stream e → P e)
    → Each P (on_port_at (λ clones. port_operation u clones operation) u s o).caused
ported-by P u operation s None is k = tt
ported-by P u operation s (Some x) is k =
    each-map (PortCauses u x.stream) P (k x is) _ (port-causes u (clones_at x s) operation (record { slots = x; out = found s }) tt).1.1

-- and each that an operation of a port causes
pub port-caused : (P : Effect → Type 0) (u : PortId) (operation : PortOperation) (s : Slots)
    → ((x : cross.Slots) → slice_get s.ports u.0 ≡ Some x → (e : Effect) → PortCauses u x.stream e → P e)
    → Each P (row (OnPort u operation) s).caused
unfolding row
port-caused P u operation s k = ported-by P u operation s (slice_get s.ports u.0) refl k

pub branch-shape : (s : Slots) (u : TeeId) (x : tee.Slots) (i : StreamId) → Halved s → slice_get s.tees u.0 ≡ Some x → IsBranch x.branch1 x.branch2 i
    → (half : Half) × (slice_get (stream_shapes s) i.0 ≡ Some (ReadableOf (BranchOf u half)))
branch-shape s u x i halved at (inl is) = (First, rw is (halved.branches u (tee_shape x) (map-there tee_shape s.tees u.0 x at)).0)
branch-shape s u x i halved at (inr is) = (Second, rw is (halved.branches u (tee_shape x) (map-there tee_shape s.tees u.0 x at)).1)

-- a branch is no half of a transform stream
pub not-branch : (s : Slots) (r : StreamId) (t : TransformId) (u : TeeId) (x : tee.Slots) (i : StreamId) → Halved s
    → slice_get (stream_shapes s) r.0 ≡ Some (ReadableOf (HalfOf t)) → slice_get s.tees u.0 ≡ Some x → IsBranch x.branch1 x.branch2 i → is_same r i ≡ false
not-branch s r t u x i halved half at is = by (is_same r i) refl
  where
    by : (b : Bool) → b ≡ is_same r i → is_same r i ≡ false
    by false e = sym e
    by true e =
        let k = branch-shape s u x i halved at is in
        let both : ◌≡◌ {A = Option StreamShape} (Some (ReadableOf (HalfOf t))) (Some (ReadableOf (BranchOf u k.0))) =
        sym half ∙ (ap (λ (j : StreamId). slice_get (stream_shapes s) j.0) (same_id r i (sym e)) ∙ k.1) in
        cc

-- the stream at the end of a port has the shape of an end
pub at-end : (s : Slots) (u : PortId) (x : cross.Slots) → Ended s → slice_get s.ports u.0 ≡ Some x → slice_get (stream_shapes s) x.stream.0 ≡ Some (end_shape u x.side)
at-end s u x ended at = ended.ends u (port_shape x) (map-there port_shape s.ports u.0 x at)

no-end_half : (u : PortId) (side : Side) (t : TransformId) → ◌≡◌ {A = Option StreamShape} (Some (ReadableOf (HalfOf t))) (Some (end_shape u side)) → ⊥
no-end_half u Readable t e = cc
no-end_half u Writable t e = cc

-- which is no half of a transform stream
pub not-end : (s : Slots) (r : StreamId) (t : TransformId) (u : PortId) (x : cross.Slots) (i : StreamId) → Ended s
    → slice_get (stream_shapes s) r.0 ≡ Some (ReadableOf (HalfOf t)) → slice_get s.ports u.0 ≡ Some x → i ≡ x.stream → is_same r i ≡ false
not-end s r t u x i ended half at is = by (is_same r i) refl
  where
    by : (b : Bool) → b ≡ is_same r i → is_same r i ≡ false
    by false e = sym e
    by true e =
        let k : slice_get (stream_shapes s) i.0 ≡ Some (end_shape u x.side) = rw is (at-end s u x ended at) in
        absurd (no-end_half u x.side t (sym half ∙ (ap (λ (j : StreamId). slice_get (stream_shapes s) j.0) (same_id r i (sym e)) ∙ k)))
