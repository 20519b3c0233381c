-- Each half of a transform stream is its own, over every run: a stream that performs the algorithms of a transform stream is that half of it,
-- and the two halves of each transform stream perform its algorithms. And so each branch of a tee.
use Rattle.std.proofs.Common.{◌≡◌, ℕ, zero, suc, ◌+◌, List, [], ◌∷◌, ◌++◌, length, map, Some, slice_get, ◌⊎◌, inl, inr, ⊎_elim, refl, sym, ap, ◌∙◌, subst, arith, Option, None}
use Rattle.ws_value.specs.declared.ids.StreamId.{StreamId}
use Rattle.ws_value.specs.declared.ids.TeeId.{TeeId}
use Rattle.ws_steps.specs.declared.calls.Call.{Call}
use Rattle.ws_steps.specs.declared.calls.Reply.{Reply}
use Rattle.ws_steps.specs.declared.calls.Reply.TheVariants.{Promise}
use Rattle.ws_steps.specs.declared.calls.StartBy.{StartBy}
use Rattle.ws_steps.specs.declared.promises.Job.{Job}
use Rattle.ws_steps.specs.declared.effects.Effect.{Effect}
use Rattle.ws_steps.specs.declared.effects.Owner.TheVariants.{Host, HalfOf, BranchOf, EndOf}
use Rattle.ws_steps.specs.declared.readable.SizeBy.TheVariants.{Count}
use Rattle.ws_steps.specs.declared.tee.Half.{Half}
use Rattle.ws_steps.specs.declared.tee.Half.TheVariants.{First, Second}
use Rattle.ws_steps.specs.declared.transform.Kind.{Kind}
use Rattle.ws_steps.specs.declared.transform.TransformId.{TransformId}
use Rattle.ws_steps.specs.Promises.{next_id, fresh, next_job}
use Rattle.ws_steps.specs.Bytes as byte
use Rattle.ws_steps.specs.Readable as readable
use Rattle.ws_steps.specs.Tee as tee
use Rattle.ws_steps.specs.Transform as transform
use Rattle.ws_steps.specs.Writable as writable
use Rattle.ws_steps.specs.Slots.{Slots, Stream, ReadableStream, ByteStream, WritableStream, Done, empty}
use Rattle.ws_steps.specs.Turns.{row, performed}
use Rattle.ws_steps.specs.Jobs.{job_begun, begin_job}
use Rattle.ws_steps.specs.Run.{Entry, Called, Worked, Heard, begun_by, step, run}
use Rattle.ws_steps.specs.Begun.{Begun}
use Rattle.ws_steps.specs.Calls.{begin, named}
use Rattle.ws_steps.specs.MakingCalls as making_calls
use Rattle.ws_steps.specs.PipeCalls as pipe_calls
use Rattle.ws_laws.proofs.EachCall.{each_call}
use Rattle.ws_laws.proofs.Shapes.{StreamShape, ReadableOf, BytesOf, WritableOf, TransformShape, TeeShape, branch_of, stream_shape, transform_shape, tee_shape, stream_shapes, transform_shapes, tee_shapes, row-stream_shapes, row-transform_shapes, row-tee_shapes}
use Rattle.ws_laws.proofs.Walker.{Stays, untold, performed-goes, run-stays}
use Rattle.ws_value.specs.declared.ids.PortId.{PortId}
use Rattle.ws_steps.specs.declared.port.Side.{Side}
use Rattle.ws_steps.specs.declared.port.Side.TheVariants.{Readable as ReadableSide, Writable as WritableSide}

-- lists that grow

map-append : {X Y : Type 0} (f : X → Y) (xs ys : List X) → map f (xs ++ ys) ≡ map f xs ++ map f ys
map-append f [] ys = refl
map-append f (x ∷ xs) ys = ap (λ zs. f x ∷ zs) (map-append f xs ys)

length-map : {X Y : Type 0} (f : X → Y) (xs : List X) → length (map f xs) ≡ length xs
length-map f [] = refl
length-map f (x ∷ xs) = ap suc (length-map f xs)

-- an element that is there stays
pub get-stays : {X : Type 0} (xs ys : List X) (i : ℕ) (x : X) → slice_get xs i ≡ Some x → slice_get (xs ++ ys) i ≡ Some x
get-stays [] ys i x is = cc
get-stays (z ∷ zs) ys zero x is = is
get-stays (z ∷ zs) ys (suc i) x is = get-stays zs ys i x is

-- the one after the last
pub get-last : {X : Type 0} (xs ys : List X) (y : X) → slice_get (xs ++ y ∷ ys) (length xs) ≡ Some y
get-last [] ys y = refl
get-last (x ∷ xs) ys y = get-last xs ys y

-- one that is there was there, or is the last
pub get-either : {X : Type 0} (xs : List X) (y : X) (i : ℕ) (x : X) → slice_get (xs ++ y ∷ []) i ≡ Some x → (slice_get xs i ≡ Some x) ⊎ ((i ≡ length xs) × (y ≡ x))
get-either [] y zero x is = inr (refl, cc)
get-either [] y (suc i) x is = cc
get-either (z ∷ zs) y zero x is = inl is
get-either (z ∷ zs) y (suc i) x is = ⊎_elim (λ a. inl a) (λ b. inr (ap suc b.0, b.1)) (get-either zs y i x is)

-- the transform stream of this number has this readable half, or this writable half
abbrev HasReadable : List TransformShape → TransformId → StreamId → Type 0
HasReadable ts t i = (x : TransformShape) × ((slice_get ts t.0 ≡ Some x) × (x.readable ≡ i))

abbrev HasWritable : List TransformShape → TransformId → StreamId → Type 0
HasWritable ts t i = (x : TransformShape) × ((slice_get ts t.0 ≡ Some x) × (x.writable ≡ i))

-- the tee of this number has this branch
abbrev HasBranch : List TeeShape → TeeId → Half → StreamId → Type 0
HasBranch bs t half i = (x : TeeShape) × ((slice_get bs t.0 ≡ Some x) × (branch_of half x ≡ i))

pub record AreHalves (xs : List StreamShape) (ts : List TransformShape) (bs : List TeeShape) : Type 0 where
  pub readable : (i : StreamId) (t : TransformId) → slice_get xs i.0 ≡ Some (ReadableOf (HalfOf t)) → HasReadable ts t i
  pub writable : (i : StreamId) (t : TransformId) → slice_get xs i.0 ≡ Some (WritableOf (HalfOf t)) → HasWritable ts t i
  pub halves : (t : TransformId) (x : TransformShape) → slice_get ts t.0 ≡ Some x
      → (slice_get xs x.readable.0 ≡ Some (ReadableOf (HalfOf t))) × (slice_get xs x.writable.0 ≡ Some (WritableOf (HalfOf t)))
  pub branch : (i : StreamId) (t : TeeId) (half : Half) → slice_get xs i.0 ≡ Some (ReadableOf (BranchOf t half)) → HasBranch bs t half i
  pub branches : (t : TeeId) (x : TeeShape) → slice_get bs t.0 ≡ Some x
      → (slice_get xs x.branch1.0 ≡ Some (ReadableOf (BranchOf t First))) × (slice_get xs x.branch2.0 ≡ Some (ReadableOf (BranchOf t Second)))

-- a stream of the host is made

host-readable : (xs : List StreamShape) (ts : List TransformShape) (bs : List TeeShape) → AreHalves xs ts bs → AreHalves (xs ++ ReadableOf Host ∷ []) ts bs
host-readable xs ts bs a = record {
  readable = λ i t is. ⊎_elim (λ old. a.readable i t old) (λ new. cc) (get-either xs (ReadableOf Host) i.0 (ReadableOf (HalfOf t)) is);
  writable = λ i t is. ⊎_elim (λ old. a.writable i t old) (λ new. cc) (get-either xs (ReadableOf Host) i.0 (WritableOf (HalfOf t)) is);
  halves = λ t x is. (get-stays xs (ReadableOf Host ∷ []) x.readable.0 _ (a.halves t x is).0, get-stays xs (ReadableOf Host ∷ []) x.writable.0 _ (a.halves t x is).1);
  branch = λ i t half is. ⊎_elim (λ old. a.branch i t half old) (λ new. cc) (get-either xs (ReadableOf Host) i.0 (ReadableOf (BranchOf t half)) is);
  branches = λ t x is. (get-stays xs (ReadableOf Host ∷ []) x.branch1.0 _ (a.branches t x is).0, get-stays xs (ReadableOf Host ∷ []) x.branch2.0 _ (a.branches t x is).1);
}

host-writable : (xs : List StreamShape) (ts : List TransformShape) (bs : List TeeShape) → AreHalves xs ts bs → AreHalves (xs ++ WritableOf Host ∷ []) ts bs
host-writable xs ts bs a = record {
  readable = λ i t is. ⊎_elim (λ old. a.readable i t old) (λ new. cc) (get-either xs (WritableOf Host) i.0 (ReadableOf (HalfOf t)) is);
  writable = λ i t is. ⊎_elim (λ old. a.writable i t old) (λ new. cc) (get-either xs (WritableOf Host) i.0 (WritableOf (HalfOf t)) is);
  halves = λ t x is. (get-stays xs (WritableOf Host ∷ []) x.readable.0 _ (a.halves t x is).0, get-stays xs (WritableOf Host ∷ []) x.writable.0 _ (a.halves t x is).1);
  branch = λ i t half is. ⊎_elim (λ old. a.branch i t half old) (λ new. cc) (get-either xs (WritableOf Host) i.0 (ReadableOf (BranchOf t half)) is);
  branches = λ t x is. (get-stays xs (WritableOf Host ∷ []) x.branch1.0 _ (a.branches t x is).0, get-stays xs (WritableOf Host ∷ []) x.branch2.0 _ (a.branches t x is).1);
}

host-bytes : (xs : List StreamShape) (ts : List TransformShape) (bs : List TeeShape) → AreHalves xs ts bs → AreHalves (xs ++ BytesOf ∷ []) ts bs
host-bytes xs ts bs a = record {
  readable = λ i t is. ⊎_elim (λ old. a.readable i t old) (λ new. cc) (get-either xs BytesOf i.0 (ReadableOf (HalfOf t)) is);
  writable = λ i t is. ⊎_elim (λ old. a.writable i t old) (λ new. cc) (get-either xs BytesOf i.0 (WritableOf (HalfOf t)) is);
  halves = λ t x is. (get-stays xs (BytesOf ∷ []) x.readable.0 _ (a.halves t x is).0, get-stays xs (BytesOf ∷ []) x.writable.0 _ (a.halves t x is).1);
  branch = λ i t half is. ⊎_elim (λ old. a.branch i t half old) (λ new. cc) (get-either xs BytesOf i.0 (ReadableOf (BranchOf t half)) is);
  branches = λ t x is. (get-stays xs (BytesOf ∷ []) x.branch1.0 _ (a.branches t x is).0, get-stays xs (BytesOf ∷ []) x.branch2.0 _ (a.branches t x is).1);
}

-- and one at the end of a port

end-readable : (c : PortId) (xs : List StreamShape) (ts : List TransformShape) (bs : List TeeShape) → AreHalves xs ts bs → AreHalves (xs ++ ReadableOf (EndOf c) ∷ []) ts bs
end-readable c xs ts bs a = record {
  readable = λ i t is. ⊎_elim (λ old. a.readable i t old) (λ new. cc) (get-either xs (ReadableOf (EndOf c)) i.0 (ReadableOf (HalfOf t)) is);
  writable = λ i t is. ⊎_elim (λ old. a.writable i t old) (λ new. cc) (get-either xs (ReadableOf (EndOf c)) i.0 (WritableOf (HalfOf t)) is);
  halves = λ t x is. (get-stays xs (ReadableOf (EndOf c) ∷ []) x.readable.0 _ (a.halves t x is).0, get-stays xs (ReadableOf (EndOf c) ∷ []) x.writable.0 _ (a.halves t x is).1);
  branch = λ i t half is. ⊎_elim (λ old. a.branch i t half old) (λ new. cc) (get-either xs (ReadableOf (EndOf c)) i.0 (ReadableOf (BranchOf t half)) is);
  branches = λ t x is. (get-stays xs (ReadableOf (EndOf c) ∷ []) x.branch1.0 _ (a.branches t x is).0, get-stays xs (ReadableOf (EndOf c) ∷ []) x.branch2.0 _ (a.branches t x is).1);
}

end-writable : (c : PortId) (xs : List StreamShape) (ts : List TransformShape) (bs : List TeeShape) → AreHalves xs ts bs → AreHalves (xs ++ WritableOf (EndOf c) ∷ []) ts bs
end-writable c xs ts bs a = record {
  readable = λ i t is. ⊎_elim (λ old. a.readable i t old) (λ new. cc) (get-either xs (WritableOf (EndOf c)) i.0 (ReadableOf (HalfOf t)) is);
  writable = λ i t is. ⊎_elim (λ old. a.writable i t old) (λ new. cc) (get-either xs (WritableOf (EndOf c)) i.0 (WritableOf (HalfOf t)) is);
  halves = λ t x is. (get-stays xs (WritableOf (EndOf c) ∷ []) x.readable.0 _ (a.halves t x is).0, get-stays xs (WritableOf (EndOf c) ∷ []) x.writable.0 _ (a.halves t x is).1);
  branch = λ i t half is. ⊎_elim (λ old. a.branch i t half old) (λ new. cc) (get-either xs (WritableOf (EndOf c)) i.0 (ReadableOf (BranchOf t half)) is);
  branches = λ t x is. (get-stays xs (WritableOf (EndOf c) ∷ []) x.branch1.0 _ (a.branches t x is).0, get-stays xs (WritableOf (EndOf c) ∷ []) x.branch2.0 _ (a.branches t x is).1);
}

-- and a transform stream

same_number : (i j : StreamId) → i.0 ≡ j.0 → i ≡ j
same_number i j e = λ k. record { 0 = e k }

module _ (xs : List StreamShape) (ts : List TransformShape) (bs : List TeeShape) (a : AreHalves xs ts bs) (y : TransformShape) (me : TransformId) (number : me.0 ≡ length ts)
    (writable_number : y.writable.0 ≡ length xs) (readable_number : y.readable.0 ≡ length (xs ++ WritableOf (HalfOf me) ∷ [])) where
  abbrev One : List StreamShape
  One = xs ++ WritableOf (HalfOf me) ∷ []

  abbrev Two : List StreamShape
  Two = One ++ ReadableOf (HalfOf me) ∷ []

  abbrev More : List TransformShape
  More = ts ++ y ∷ []

  mine : slice_get More me.0 ≡ Some y
  mine = rw number (get-last ts [] y)

  more-readable : (i : StreamId) (t : TransformId) → HasReadable ts t i → HasReadable More t i
  more-readable i t h = (h.0, (get-stays ts (y ∷ []) t.0 h.0 h.1.0, h.1.1))

  more-writable : (i : StreamId) (t : TransformId) → HasWritable ts t i → HasWritable More t i
  more-writable i t h = (h.0, (get-stays ts (y ∷ []) t.0 h.0 h.1.0, h.1.1))

  new-readable : (i : StreamId) (t : TransformId) → i.0 ≡ length One → ReadableOf (HalfOf me) ≡ ReadableOf (HalfOf t) → HasReadable More t i
  new-readable i t e same =
      let is : me ≡ t = cc in
      subst (λ u. HasReadable More u i) is (y, (mine, same_number y.readable i (readable_number ∙ sym e)))

  new-writable : (i : StreamId) (t : TransformId) → i.0 ≡ length xs → WritableOf (HalfOf me) ≡ WritableOf (HalfOf t) → HasWritable More t i
  new-writable i t e same =
      let is : me ≡ t = cc in
      subst (λ u. HasWritable More u i) is (y, (mine, same_number y.writable i (writable_number ∙ sym e)))

  two-halves : (t : TransformId) (x : TransformShape) → (t.0 ≡ length ts) × (y ≡ x)
      → (slice_get Two x.readable.0 ≡ Some (ReadableOf (HalfOf t))) × (slice_get Two x.writable.0 ≡ Some (WritableOf (HalfOf t)))
  two-halves t x new =
      let is : t ≡ me = λ k. record { 0 = (new.0 ∙ sym number) k } in
      rw (is, ← new.1) (
        rw readable_number (get-last One [] (ReadableOf (HalfOf me))),
        get-stays One (ReadableOf (HalfOf me) ∷ []) y.writable.0 _ (rw writable_number (get-last xs [] (WritableOf (HalfOf me)))),
      )

  pub made-transform : AreHalves Two More bs
  made-transform = record {
    readable = λ i t is. ⊎_elim
        (λ one. ⊎_elim (λ old. more-readable i t (a.readable i t old)) (λ new. cc) (get-either xs (WritableOf (HalfOf me)) i.0 (ReadableOf (HalfOf t)) one))
        (λ new. new-readable i t new.0 new.1) (get-either One (ReadableOf (HalfOf me)) i.0 (ReadableOf (HalfOf t)) is);
    writable = λ i t is. ⊎_elim
        (λ one. ⊎_elim (λ old. more-writable i t (a.writable i t old)) (λ new. new-writable i t new.0 new.1) (get-either xs (WritableOf (HalfOf me)) i.0 (WritableOf (HalfOf t)) one))
        (λ new. cc) (get-either One (ReadableOf (HalfOf me)) i.0 (WritableOf (HalfOf t)) is);
    halves = λ t x is. ⊎_elim
        (λ old. (
          get-stays One (ReadableOf (HalfOf me) ∷ []) x.readable.0 _ (get-stays xs (WritableOf (HalfOf me) ∷ []) x.readable.0 _ (a.halves t x old).0),
          get-stays One (ReadableOf (HalfOf me) ∷ []) x.writable.0 _ (get-stays xs (WritableOf (HalfOf me) ∷ []) x.writable.0 _ (a.halves t x old).1),
        ))
        (λ new. two-halves t x new) (get-either ts y t.0 x is);
    branch = λ i t half is. ⊎_elim
        (λ one. ⊎_elim (λ old. a.branch i t half old) (λ new. cc) (get-either xs (WritableOf (HalfOf me)) i.0 (ReadableOf (BranchOf t half)) one))
        (λ new. cc) (get-either One (ReadableOf (HalfOf me)) i.0 (ReadableOf (BranchOf t half)) is);
    branches = λ t x is. (
      get-stays One (ReadableOf (HalfOf me) ∷ []) x.branch1.0 _ (get-stays xs (WritableOf (HalfOf me) ∷ []) x.branch1.0 _ (a.branches t x is).0),
      get-stays One (ReadableOf (HalfOf me) ∷ []) x.branch2.0 _ (get-stays xs (WritableOf (HalfOf me) ∷ []) x.branch2.0 _ (a.branches t x is).1),
    );
  }

-- and a tee, whose branches are two streams

module _ (xs : List StreamShape) (ts : List TransformShape) (bs : List TeeShape) (a : AreHalves xs ts bs) (y : TeeShape) (me : TeeId) (number : me.0 ≡ length bs)
    (first_number : y.branch1.0 ≡ length xs) (second_number : y.branch2.0 ≡ length (xs ++ ReadableOf (BranchOf me First) ∷ [])) where
  abbrev WithFirst : List StreamShape
  WithFirst = xs ++ ReadableOf (BranchOf me First) ∷ []

  abbrev WithBoth : List StreamShape
  WithBoth = WithFirst ++ ReadableOf (BranchOf me Second) ∷ []

  abbrev MoreTees : List TeeShape
  MoreTees = bs ++ y ∷ []

  my-tee : slice_get MoreTees me.0 ≡ Some y
  my-tee = rw number (get-last bs [] y)

  more-branch : (i : StreamId) (t : TeeId) (half : Half) → HasBranch bs t half i → HasBranch MoreTees t half i
  more-branch i t half h = (h.0, (get-stays bs (y ∷ []) t.0 h.0 h.1.0, h.1.1))

  new-first : (i : StreamId) (t : TeeId) (half : Half) → i.0 ≡ length xs → ReadableOf (BranchOf me First) ≡ ReadableOf (BranchOf t half) → HasBranch MoreTees t half i
  new-first i t half e same =
      let is : me ≡ t = cc in
      let first : First ≡ half = cc in
      subst (λ u. HasBranch MoreTees u half i) is (subst (λ k. HasBranch MoreTees me k i) first (y, (my-tee, same_number y.branch1 i (first_number ∙ sym e))))

  new-second : (i : StreamId) (t : TeeId) (half : Half) → i.0 ≡ length WithFirst → ReadableOf (BranchOf me Second) ≡ ReadableOf (BranchOf t half)
      → HasBranch MoreTees t half i
  new-second i t half e same =
      let is : me ≡ t = cc in
      let second : Second ≡ half = cc in
      subst (λ u. HasBranch MoreTees u half i) is (subst (λ k. HasBranch MoreTees me k i) second (y, (my-tee, same_number y.branch2 i (second_number ∙ sym e))))

  two-branches : (t : TeeId) (x : TeeShape) → (t.0 ≡ length bs) × (y ≡ x)
      → (slice_get WithBoth x.branch1.0 ≡ Some (ReadableOf (BranchOf t First))) × (slice_get WithBoth x.branch2.0 ≡ Some (ReadableOf (BranchOf t Second)))
  two-branches t x new =
      let is : t ≡ me = λ k. record { 0 = (new.0 ∙ sym number) k } in
      rw (is, ← new.1) (
        get-stays WithFirst (ReadableOf (BranchOf me Second) ∷ []) y.branch1.0 _ (rw first_number (get-last xs [] (ReadableOf (BranchOf me First)))),
        rw second_number (get-last WithFirst [] (ReadableOf (BranchOf me Second))),
      )

  old-branches : (t : TeeId) (x : TeeShape) → slice_get bs t.0 ≡ Some x
      → (slice_get WithBoth x.branch1.0 ≡ Some (ReadableOf (BranchOf t First))) × (slice_get WithBoth x.branch2.0 ≡ Some (ReadableOf (BranchOf t Second)))
  old-branches t x old = (
    get-stays WithFirst (ReadableOf (BranchOf me Second) ∷ []) x.branch1.0 _ (get-stays xs (ReadableOf (BranchOf me First) ∷ []) x.branch1.0 _ (a.branches t x old).0),
    get-stays WithFirst (ReadableOf (BranchOf me Second) ∷ []) x.branch2.0 _ (get-stays xs (ReadableOf (BranchOf me First) ∷ []) x.branch2.0 _ (a.branches t x old).1),
  )

  pub made-tee : AreHalves WithBoth ts MoreTees
  made-tee = record {
    readable = λ i t is. ⊎_elim
        (λ one. ⊎_elim (λ old. a.readable i t old) (λ new. cc) (get-either xs (ReadableOf (BranchOf me First)) i.0 (ReadableOf (HalfOf t)) one))
        (λ new. cc) (get-either WithFirst (ReadableOf (BranchOf me Second)) i.0 (ReadableOf (HalfOf t)) is);
    writable = λ i t is. ⊎_elim
        (λ one. ⊎_elim (λ old. a.writable i t old) (λ new. cc) (get-either xs (ReadableOf (BranchOf me First)) i.0 (WritableOf (HalfOf t)) one))
        (λ new. cc) (get-either WithFirst (ReadableOf (BranchOf me Second)) i.0 (WritableOf (HalfOf t)) is);
    halves = λ t x is. (
      get-stays WithFirst (ReadableOf (BranchOf me Second) ∷ []) x.readable.0 _ (get-stays xs (ReadableOf (BranchOf me First) ∷ []) x.readable.0 _ (a.halves t x is).0),
      get-stays WithFirst (ReadableOf (BranchOf me Second) ∷ []) x.writable.0 _ (get-stays xs (ReadableOf (BranchOf me First) ∷ []) x.writable.0 _ (a.halves t x is).1),
    );
    branch = λ i t half is. ⊎_elim
        (λ one. ⊎_elim (λ old. more-branch i t half (a.branch i t half old)) (λ new. new-first i t half new.0 new.1)
        (get-either xs (ReadableOf (BranchOf me First)) i.0 (ReadableOf (BranchOf t half)) one))
        (λ new. new-second i t half new.0 new.1) (get-either WithFirst (ReadableOf (BranchOf me Second)) i.0 (ReadableOf (BranchOf t half)) is);
    branches = λ t x is. ⊎_elim (λ old. old-branches t x old) (λ new. two-branches t x new) (get-either bs y t.0 x is);
  }

-- of the slots
abbrev pub Halved : Slots → Type 0
Halved s = AreHalves (stream_shapes s) (transform_shapes s) (tee_shapes s)

one-more : {X : Type 0} (xs : List X) (x : X) → length (xs ++ x ∷ []) ≡ length xs + 1
one-more [] x = refl
one-more (y ∷ ys) x = let h = one-more ys x in omega (arith, h)

halved-from : (s z : Slots) → stream_shapes z ≡ stream_shapes s → transform_shapes z ≡ transform_shapes s → tee_shapes z ≡ tee_shapes s → Halved s → Halved z
halved-from s z e f g h = rw (e, f, g) h

transform-made : (kind : Kind) (m n : ℕ) (start : StartBy) (s : Slots) → Halved s
    → Halved (making_calls.make_transform kind m n start (record { 0 = length s.streams }) (record { 0 = length s.streams + 1 }) s).done.slots
transform-made kind m n start s h =
    let me : TransformId = record { 0 = length s.transforms } in
    let w : Stream = WritableStream (writable.set_up (HalfOf me) m Count) in
    let r : Stream = ReadableStream (readable.set_up (HalfOf me) n Count) in
    let x : transform.Slots = transform.set_up kind (record { 0 = length s.streams }) (record { 0 = length s.streams + 1 }) (next_id s.promises) in
    let xs : List StreamShape = stream_shapes s in
    let same = length-map stream_shape s.streams in
    rw (map-append stream_shape (s.streams ++ w ∷ []) (r ∷ []), map-append stream_shape s.streams (w ∷ []), map-append transform_shape s.transforms (x ∷ []))
    (made-transform xs (transform_shapes s) (tee_shapes s) h (transform_shape x) me (sym (length-map transform_shape s.transforms)) (sym same)
    (ap (λ k. k + 1) (sym same) ∙ sym (one-more xs (WritableOf (HalfOf me)))))

tee-made : (i : StreamId) (s : Slots) → Halved s → Halved (making_calls.make_tee i (record { 0 = length s.streams }) (record { 0 = length s.streams + 1 }) s).done.slots
tee-made i s h =
    let me : TeeId = record { 0 = length s.tees } in
    let first : Stream = ReadableStream (readable.set_up (BranchOf me First) 1 Count) in
    let second : Stream = ReadableStream (readable.set_up (BranchOf me Second) 1 Count) in
    let x : tee.Slots = tee.set_up i (record { 0 = length s.streams }) (record { 0 = length s.streams + 1 }) (next_id (fresh s.promises)) in
    let xs : List StreamShape = stream_shapes s in
    let same = length-map stream_shape s.streams in
    rw (map-append stream_shape (s.streams ++ first ∷ []) (second ∷ []), map-append stream_shape s.streams (first ∷ []), map-append tee_shape s.tees (x ∷ []))
    (made-tee xs (transform_shapes s) (tee_shapes s) h (tee_shape x) me (sym (length-map tee_shape s.tees)) (sym same)
    (ap (λ k. k + 1) (sym same) ∙ sym (one-more xs (ReadableOf (BranchOf me First)))))

port-halved : (side : Side) (i : StreamId) (s : Slots) → Halved s → Halved (pipe_calls.add_port i s side)
port-halved ReadableSide i s h =
    let me : PortId = record { 0 = length s.ports } in
    rw (map-append stream_shape s.streams (pipe_calls.end_of me ReadableSide ∷ [])) (end-readable me (stream_shapes s) (transform_shapes s) (tee_shapes s) h)
port-halved WritableSide i s h =
    let me : PortId = record { 0 = length s.ports } in
    rw (map-append stream_shape s.streams (pipe_calls.end_of me WritableSide ∷ [])) (end-writable me (stream_shapes s) (transform_shapes s) (tee_shapes s) h)

call-halved : (c : Call) (s : Slots) → Halved s → Halved (begin c s).done.slots
call-halved c s h = each_call (λ (b : Begun). Halved b.done.slots) c s (record {
  unchanged = λ reply. h;
  rejected = λ fault. h;
  make_readable = λ mark size start. rw (map-append stream_shape s.streams (ReadableStream (readable.set_up Host mark size) ∷ [])) (host-readable (stream_shapes s) (transform_shapes s) (tee_shapes s) h);
  make_bytes = λ mark auto start. rw (map-append stream_shape s.streams (ByteStream (byte.set_up mark auto) ∷ [])) (host-bytes (stream_shapes s) (transform_shapes s) (tee_shapes s) h);
  get_byob = λ i is e. h;
  release_byob = λ l closed i e. h;
  read_into = λ l i closed room element least e f. h;
  enqueue_bytes = λ i b e is some can. h;
  finish_bytes = λ i e is can. h;
  make_request = λ i reply is. h;
  respond = λ q i b e is can. h;
  make_writable = λ mark size start. rw (map-append stream_shape s.streams (WritableStream (writable.set_up Host mark size) ∷ [])) (host-writable (stream_shapes s) (transform_shapes s) (tee_shapes s) h);
  make_transform = λ kind m n start. transform-made kind m n start s h;
  make_tee = λ i e is free untied. tee-made i s h;
  get_reader = λ i e. h;
  get_writer = λ i e. h;
  release_reader = λ l closed i e. h;
  release_writer = λ l i w e f. h;
  cancel = λ reason i. h;
  read = λ l i closed e f. h;
  write = λ l v i e. h;
  close = λ i. h;
  abort = λ reason i e. h;
  enqueue = λ i v e o can. h;
  enqueue_half = λ i t v e o can. h;
  finish = λ i. h;
  fail_readable = λ i reason. h;
  fail_writable = λ i reason. h;
  fail_half = λ t reason. h;
  terminate = λ t. h;
  pipe = λ source dest prevent signal e f l m. h;
  make_signal = h;
  open_end = λ side. port-halved side (record { 0 = length s.streams }) s h;
  send_readable = λ i there free. port-halved WritableSide (record { 0 = length s.streams }) s h;
  send_writable = λ i there free. port-halved ReadableSide (record { 0 = length s.streams }) s h;
  deliver = λ p m e is. h;
  trigger = λ a reason. h;
  settle = λ a answer p e. h;
})

-- over every run
abbrev pub AlwaysHalved : Slots → List Effect → Type 0
AlwaysHalved s es = Halved s

pub halved-stays : Stays AlwaysHalved
halved-stays = record {
  row = λ s e es h. halved-from s (row e s).slots (row-stream_shapes e s) (row-transform_shapes e s) (row-tee_shapes e s) h;
  call = λ s c h. call-halved c s h;
  job = λ s job e h. h;
  answered = λ s p h. h;
  older = λ s h. h;
}

pub halved-empty : Halved empty
halved-empty = record { readable = λ i t is. cc; writable = λ i t is. cc; halves = λ t x is. cc; branch = λ i t half is. cc; branches = λ t x is. cc }

-- transform streams are made, and each stays as it is

-- each of these shapes is among those
abbrev pub Among : List TransformShape → List TransformShape → Type 0
Among ts us = (t : TransformId) (x : TransformShape) → slice_get ts t.0 ≡ Some x → slice_get us t.0 ≡ Some x

among-port : (s : Slots) (side : Side) (i : StreamId) → Among (transform_shapes s) (transform_shapes (pipe_calls.add_port i s side))
among-port s ReadableSide i t x h = h
among-port s WritableSide i t x h = h

pub call-among : (c : Call) (s : Slots) → Among (transform_shapes s) (transform_shapes (begin c s).done.slots)
call-among c s = each_call (λ (b : Begun). Among (transform_shapes s) (transform_shapes b.done.slots)) c s (record {
  unchanged = λ reply t x h. h;
  rejected = λ fault t x h. h;
  make_readable = λ mark size start t x h. h;
  make_bytes = λ mark auto start t x h. h;
  get_byob = λ i is e t x h. h;
  release_byob = λ l closed i e t x h. h;
  read_into = λ l i closed room element least e f t x h. h;
  enqueue_bytes = λ i b e is some can t x h. h;
  finish_bytes = λ i e is can t x h. h;
  make_request = λ i reply is t x h. h;
  respond = λ q i b e is can t x h. h;
  make_writable = λ mark size start t x h. h;
  make_transform = λ kind m n start t x h. rw (map-append transform_shape s.transforms) (get-stays (transform_shapes s) _ t.0 x h);
  get_reader = λ i e t x h. h;
  make_tee = λ i e is free untied t x h. h;
  get_writer = λ i e t x h. h;
  release_reader = λ l closed i e t x h. h;
  release_writer = λ l i w e f t x h. h;
  cancel = λ reason i t x h. h;
  read = λ l i closed e f t x h. h;
  write = λ l v i e t x h. h;
  close = λ i t x h. h;
  abort = λ reason i e t x h. h;
  enqueue = λ i v e o can t x h. h;
  enqueue_half = λ i a v e o can t x h. h;
  finish = λ i t x h. h;
  fail_readable = λ i reason t x h. h;
  fail_writable = λ i reason t x h. h;
  fail_half = λ a reason t x h. h;
  terminate = λ a t x h. h;
  pipe = λ source dest prevent signal e f l m t x h. h;
  make_signal = λ t x h. h;
  open_end = λ side t x h. among-port s side (record { 0 = length s.streams }) t x h;
  send_readable = λ i there free t x h. among-port s WritableSide (record { 0 = length s.streams }) t x h;
  send_writable = λ i there free t x h. among-port s ReadableSide (record { 0 = length s.streams }) t x h;
  deliver = λ p m e is t x h. h;
  trigger = λ a reason t x h. h;
  settle = λ a answer p e t x h. h;
})

performed-shapes : (d : Done) → transform_shapes (performed d) ≡ transform_shapes d.slots
performed-shapes d =
    performed-goes tt (λ f g. tt) untold (λ e s. tt) (λ h s es. transform_shapes s ≡ transform_shapes d.slots) (λ h s e es k. row-transform_shapes e s ∙ k) tt d refl

named-shapes : (reply : Reply) (s : Slots) → transform_shapes (named reply s) ≡ transform_shapes s
named-shapes (Promise p) s = refl
named-shapes _ s = refl

-- after a step they are as it began
pub step-shapes : (x : Entry) (s : Slots) → transform_shapes (step s x) ≡ transform_shapes (begun_by s x).slots
step-shapes (Called c) s = let d : Done = (begin c s).done in named-shapes (begin c s).reply (performed d) ∙ performed-shapes d
step-shapes Worked s = performed-shapes (begin_job s)
step-shapes Heard s = refl

begun-among : (job : Option Job) (s : Slots) → transform_shapes (job_begun s job).slots ≡ transform_shapes s
begun-among None s = refl
begun-among (Some job) s = refl

entry-among : (x : Entry) (s : Slots) → Among (transform_shapes s) (transform_shapes (begun_by s x).slots)
unfolding begin_job
entry-among (Called c) s = call-among c s
entry-among Worked s = λ t x h. rw (begun-among (next_job s.promises) s) h
entry-among Heard s = λ t x h. h

-- over a step, and over a run
pub step-among : (x : Entry) (s : Slots) → Among (transform_shapes s) (transform_shapes (step s x))
step-among x s = λ t y h. rw (step-shapes x s) (entry-among x s t y h)

pub run-among : (xs : List Entry) (s : Slots) → Among (transform_shapes s) (transform_shapes (run xs s))
run-among [] s = λ t y h. h
run-among (x ∷ xs) s = λ t y h. run-among xs (step s x) t y (step-among x s t y h)

-- and so are tees
abbrev pub AmongTees : List TeeShape → List TeeShape → Type 0
AmongTees ts us = (t : TeeId) (x : TeeShape) → slice_get ts t.0 ≡ Some x → slice_get us t.0 ≡ Some x

among-port_tees : (s : Slots) (side : Side) (i : StreamId) → AmongTees (tee_shapes s) (tee_shapes (pipe_calls.add_port i s side))
among-port_tees s ReadableSide i t x h = h
among-port_tees s WritableSide i t x h = h

pub call-among_tees : (c : Call) (s : Slots) → AmongTees (tee_shapes s) (tee_shapes (begin c s).done.slots)
call-among_tees c s = each_call (λ (b : Begun). AmongTees (tee_shapes s) (tee_shapes b.done.slots)) c s (record {
  unchanged = λ reply t x h. h;
  rejected = λ fault t x h. h;
  make_readable = λ mark size start t x h. h;
  make_bytes = λ mark auto start t x h. h;
  get_byob = λ i is e t x h. h;
  release_byob = λ l closed i e t x h. h;
  read_into = λ l i closed room element least e f t x h. h;
  enqueue_bytes = λ i b e is some can t x h. h;
  finish_bytes = λ i e is can t x h. h;
  make_request = λ i reply is t x h. h;
  respond = λ q i b e is can t x h. h;
  make_writable = λ mark size start t x h. h;
  make_transform = λ kind m n start t x h. h;
  get_reader = λ i e t x h. h;
  make_tee = λ i e is free untied t x h. rw (map-append tee_shape s.tees) (get-stays (tee_shapes s) _ t.0 x h);
  get_writer = λ i e t x h. h;
  release_reader = λ l closed i e t x h. h;
  release_writer = λ l i w e f t x h. h;
  cancel = λ reason i t x h. h;
  read = λ l i closed e f t x h. h;
  write = λ l v i e t x h. h;
  close = λ i t x h. h;
  abort = λ reason i e t x h. h;
  enqueue = λ i v e o can t x h. h;
  enqueue_half = λ i a v e o can t x h. h;
  finish = λ i t x h. h;
  fail_readable = λ i reason t x h. h;
  fail_writable = λ i reason t x h. h;
  fail_half = λ a reason t x h. h;
  terminate = λ a t x h. h;
  pipe = λ source dest prevent signal e f l m t x h. h;
  make_signal = λ t x h. h;
  open_end = λ side t x h. among-port_tees s side (record { 0 = length s.streams }) t x h;
  send_readable = λ i there free t x h. among-port_tees s WritableSide (record { 0 = length s.streams }) t x h;
  send_writable = λ i there free t x h. among-port_tees s ReadableSide (record { 0 = length s.streams }) t x h;
  deliver = λ p m e is t x h. h;
  trigger = λ a reason t x h. h;
  settle = λ a answer p e t x h. h;
})

performed-tee_shapes : (d : Done) → tee_shapes (performed d) ≡ tee_shapes d.slots
performed-tee_shapes d =
    performed-goes tt (λ f g. tt) untold (λ e s. tt) (λ h s es. tee_shapes s ≡ tee_shapes d.slots) (λ h s e es k. row-tee_shapes e s ∙ k) tt d refl

named-tee_shapes : (reply : Reply) (s : Slots) → tee_shapes (named reply s) ≡ tee_shapes s
named-tee_shapes (Promise p) s = refl
named-tee_shapes _ s = refl

pub step-tee_shapes : (x : Entry) (s : Slots) → tee_shapes (step s x) ≡ tee_shapes (begun_by s x).slots
step-tee_shapes (Called c) s = let d : Done = (begin c s).done in named-tee_shapes (begin c s).reply (performed d) ∙ performed-tee_shapes d
step-tee_shapes Worked s = performed-tee_shapes (begin_job s)
step-tee_shapes Heard s = refl

begun-among_tees : (job : Option Job) (s : Slots) → tee_shapes (job_begun s job).slots ≡ tee_shapes s
begun-among_tees None s = refl
begun-among_tees (Some job) s = refl

entry-among_tees : (x : Entry) (s : Slots) → AmongTees (tee_shapes s) (tee_shapes (begun_by s x).slots)
unfolding begin_job
entry-among_tees (Called c) s = call-among_tees c s
entry-among_tees Worked s = λ t x h. rw (begun-among_tees (next_job s.promises) s) h
entry-among_tees Heard s = λ t x h. h

pub step-among_tees : (x : Entry) (s : Slots) → AmongTees (tee_shapes s) (tee_shapes (step s x))
step-among_tees x s = λ t y h. rw (step-tee_shapes x s) (entry-among_tees x s t y h)

pub run-among_tees : (xs : List Entry) (s : Slots) → AmongTees (tee_shapes s) (tee_shapes (run xs s))
run-among_tees [] s = λ t y h. h
run-among_tees (x ∷ xs) s = λ t y h. run-among_tees xs (step s x) t y (step-among_tees x s t y h)

pub run-halved : (xs : List Entry) (s : Slots) → Halved s → Halved (run xs s)
run-halved xs s h = run-stays AlwaysHalved halved-stays (λ z k. k) xs s h

pub step-halved : (x : Entry) (s : Slots) → Halved s → Halved (step s x)
step-halved x s h = run-halved (x ∷ []) s h
