-- The branches of each tee (`each_branch_is_lawful`).
use Rattle.std.proofs.Common.{◌≡◌, ℕ, zero, suc, true, false, is_some, List, [], ◌∷◌, Option, Some, None, map, slice_get, refl}
use Rattle.ws_value.specs.declared.ids.StreamId.{StreamId}
use Rattle.ws_value.specs.declared.ids.TeeId.{TeeId}
use Rattle.ws_steps.specs.declared.effects.Owner.{Owner}
use Rattle.ws_steps.specs.declared.effects.Owner.TheVariants.{BranchOf}
use Rattle.ws_steps.specs.declared.tee.Half.{Half}
use Rattle.ws_steps.specs.declared.tee.Half.TheVariants.{First, Second}
use Rattle.ws_steps.specs.Run.{Entry, run}
use Rattle.ws_steps.specs.Slots.{Slots, Stream, ReadableStream, ByteStream, WritableStream, empty, is_readable_stream, is_byte_stream, owner_of, owner_at, as_tee}
use Rattle.ws_steps.specs.Tee as tee
use Rattle.ws_steps.specs.TeeLaws.{IsBranch, AreBranches, EachBranchIsLawful}
use Rattle.ws_laws.proofs.Halves.{halved-empty, run-halved}
use Rattle.ws_laws.proofs.Shapes.{ReadableOf, stream_shape, tee_shape, stream_shapes, map-there}
use Rattle.ws_readable_laws.proofs.Runs.{each_readable_is_lawful}

-- a stream of the shape of a readable stream
record IsReadable (o : Owner) (x : Option Stream) : Type 0 where
  there : is_readable_stream x ≡ true
  unlike : is_byte_stream x ≡ false
  owner : owner_of x ≡ o

is_readable : (o : Owner) (xs : List Stream) (n : ℕ) → slice_get (map stream_shape xs) n ≡ Some (ReadableOf o) → IsReadable o (slice_get xs n)
is_readable o [] n is = cc
is_readable o (ReadableStream r ∷ xs) zero is = record { there = refl; unlike = refl; owner = cc }
is_readable o (ByteStream b ∷ xs) zero is = cc
is_readable o (WritableStream w ∷ xs) zero is = cc
is_readable o (x ∷ xs) (suc n) is = is_readable o xs n is

module _ (entries : List Entry) (t : TeeId) where
  abbrev Now : Slots
  Now = run entries empty

  branch : (i : StreamId) (half : Half) → slice_get (stream_shapes Now) i.0 ≡ Some (ReadableOf (BranchOf t half)) → IsBranch entries i × (owner_at i Now ≡ BranchOf t half)
  branch i half is =
      let k = is_readable (BranchOf t half) Now.streams i.0 is in
      (record { there = k.there; lawful = each_readable_is_lawful entries i k.unlike }, k.owner)

  branches : (o : Option tee.Slots) → slice_get Now.tees t.0 ≡ o → is_some o ≡ true → AreBranches entries t Now (as_tee o)
  branches None is some = cc
  branches (Some x) is some =
      let b = (run-halved entries empty halved-empty).branches t (tee_shape x) (map-there tee_shape Now.tees t.0 x is) in
      let f = branch x.branch1 First b.0 in
      let g = branch x.branch2 Second b.1 in
      record { first = f.0; second = g.0; first_owner = f.1; second_owner = g.1 }

pub each_branch_is_lawful : EachBranchIsLawful
each_branch_is_lawful entries t there = branches entries t (slice_get (run entries empty).tees t.0) refl there
