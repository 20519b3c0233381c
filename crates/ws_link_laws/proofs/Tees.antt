-- What the operations of tees are to a link: its source is no branch of a tee, and no tee has it for its source.
use Rattle.std.proofs.Common.{◌≡◌, ℕ, zero, suc, true, false, not, List, [], ◌∷◌, Some, slice_get, refl}
use Rattle.ws_value.specs.declared.ids.StreamId.{StreamId}
use Rattle.ws_value.specs.declared.ids.TeeId.{TeeId}
use Rattle.ws_steps.specs.declared.effects.Effect.{Effect}
use Rattle.ws_steps.specs.declared.effects.Effect.TheVariants.{Readable as OnReadable, Byte as OnByte, Transform as OnTransform}
use Rattle.ws_steps.specs.declared.effects.Owner.TheVariants.{BranchOf}
use Rattle.ws_steps.specs.declared.readable.ReadableOperation.TheVariants.{Read, Cancel, Enqueue, Close, Error}
use Rattle.ws_steps.specs.declared.tee.Half.{Half}
use Rattle.ws_steps.specs.Histories.{is_same}
use Rattle.ws_steps.specs.Slots.{Slots}
use Rattle.ws_steps.specs.Tee as tee
use Rattle.ws_laws.proofs.Shapes.{ReadableOf, stream_shapes}
use Rattle.ws_laws.proofs.TeeDoes.{IsBranch, TeeCauses}
use Rattle.ws_laws.proofs.Truth.{not_false, and_left, and_right}
use Rattle.ws_transform_laws.proofs.Branches.{branch-shape}
use Rattle.ws_link_laws.specs.Link.{Giver, OfSource, OfByteSource, OfHalf, OfEnd, giver_at}
use Rattle.ws_link_laws.specs.Sound.{all_untied}
use Rattle.ws_link_laws.proofs.Hosts.{Source, giver_shape, unlike}
use Rattle.ws_link_laws.proofs.Telling.{if_same, IsSilent, coming}
use Rattle.ws_steps.specs.declared.effects.Effect.TheVariants.{Port as OnPort}

no_branch : (g : Giver) (u : TeeId) (half : Half) → giver_shape g ≡ ReadableOf (BranchOf u half) → ⊥
no_branch OfSource u half e = cc
no_branch OfByteSource u half e = cc
no_branch (OfHalf t) u half e = cc
no_branch (OfEnd c) u half e = cc

pub at-branch : (i : StreamId) (s : Slots) (u : TeeId) (x : tee.Slots) (k : StreamId) → Source i s → slice_get s.tees u.0 ≡ Some x → IsBranch x.branch1 x.branch2 k → is_same i k ≡ false
at-branch i s u x k h at is =
    let b = branch-shape s u x k h.halved at is in
    unlike i k (giver_shape (giver_at i s)) (ReadableOf (BranchOf u b.0)) (stream_shapes s) h.shape b.1 (no_branch (giver_at i s) u b.0)

pub untied-at : (i : StreamId) (xs : List tee.Slots) (n : ℕ) (x : tee.Slots) → all_untied i xs ≡ true → slice_get xs n ≡ Some x → is_same i x.source ≡ false
untied-at i [] n x u at = cc
untied-at i (y ∷ ys) zero x u at =
    let is : y ≡ x = cc in rw (← is) (not_false (is_same i y.source) (and_left (not (is_same i y.source)) (all_untied i ys) u))
untied-at i (y ∷ ys) (suc n) x u at = untied-at i ys n x (and_right (not (is_same i y.source)) (all_untied i ys) u) at

-- nothing comes to the source by a tee
pub tee-coming : (i : StreamId) (s : Slots) (u : TeeId) (x : tee.Slots) → Source i s → slice_get s.tees u.0 ≡ Some x → (e : Effect) → TeeCauses u x.source x.branch1 x.branch2 e
    → IsSilent (coming (giver_at i s) i) e
tee-coming i s u x h at (OnReadable k (Enqueue v)) c = rw (at-branch i s u x k h at c) refl
tee-coming i s u x h at (OnReadable k Close) c = rw (at-branch i s u x k h at c) refl
tee-coming i s u x h at (OnReadable k (Read q)) c = if_same (is_same i k)
tee-coming i s u x h at (OnReadable k (Cancel r p)) c = if_same (is_same i k)
tee-coming i s u x h at (OnReadable k (Error r)) c = if_same (is_same i k)
tee-coming i s u x h at (OnReadable k operation) c = absurd c
tee-coming i s u x h at (OnByte k operation) c = absurd c
tee-coming i s u x h at (OnTransform t operation) c = absurd c
tee-coming i s u x h at (OnPort d operation) c = absurd c
tee-coming i s u x h at _ c = refl
