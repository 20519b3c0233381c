-- No row causes that a tee hands a chunk on: this is what a job begins with.
use Rattle.std.proofs.Common.{◌≡◌, [], ◌∷◌, ◌++◌, Option, Some, None, refl, arith}
use Rattle.std.specs.Prelude.{slice_get}
use Rattle.ws_value.specs.declared.ids.StreamId.{StreamId}
use Rattle.ws_value.specs.declared.ids.TeeId.{TeeId}
use Rattle.ws_value.specs.declared.value.Plain.{Plain}
use Rattle.ws_value.specs.declared.value.Value.{Value}
use Rattle.ws_steps.specs.declared.effects.Effect.{Effect}
use Rattle.ws_steps.specs.declared.effects.Effect.TheVariants.{Tee}
use Rattle.ws_steps.specs.declared.readable.ReadableOperation.TheVariants.{Enqueue as EnqueueChunk}
use Rattle.ws_steps.specs.declared.tee.TeeOperation.TheVariants as names
use Rattle.ws_steps.specs.Operations.{tee_operation}
use Rattle.ws_steps.specs.Places.{effect_price, prices_of, copies_alone}
use Rattle.ws_steps.specs.Slots.{Slots, found, on_tee}
use Rattle.ws_steps.specs.Tee as tee
use Rattle.ws_steps.specs.Turns.{row}
use Rattle.ws_room_laws.proofs.Readables.{prices-append}
use Rattle.ws_room_laws.proofs.Rows.{row-takes}
use Rattle.ws_performing.proofs.Fits.{copies-within}

branch-hands : (r : Option Plain) (i : StreamId) (v : Value) → prices_of copies_alone (tee.unless_cancelled r i (EnqueueChunk v)) ≡ 0
branch-hands None i v = refl
branch-hands (Some r) i v = refl

-- the microtask of a chunk enqueues it, and goes on
hand-hands : (me : TeeId) (a : tee.Acts) (held : Option Value) → prices_of copies_alone a.out.effects ≡ 0 → prices_of copies_alone (tee.hand_held me a held).out.effects ≡ 0
hand-hands me a None none = none
hand-hands me a (Some v) none =
    let f = prices-append copies_alone a.out.effects (tee.on_branches (EnqueueChunk v) a.slots ++ Tee me names.Handed ∷ []) in
    let g = prices-append copies_alone (tee.on_branches (EnqueueChunk v) a.slots) (Tee me names.Handed ∷ []) in
    let h = prices-append copies_alone (tee.unless_cancelled a.slots.reason1 a.slots.branch1 (EnqueueChunk v)) (tee.unless_cancelled a.slots.reason2 a.slots.branch2 (EnqueueChunk v)) in
    let x = branch-hands a.slots.reason1 a.slots.branch1 v in
    let y = branch-hands a.slots.reason2 a.slots.branch2 v in
    omega (arith, none, f, g, h, x, y)

handing-hands : (t : TeeId) (s : Slots) (o : Option tee.Slots) → slice_get s.tees t.0 ≡ o → prices_of copies_alone (on_tee (tee_operation t names.HandChunk) t s).caused ≡ 0
unfolding tee.hand_chunk
handing-hands t s None is = rw is refl
handing-hands t s (Some x) is = rw is (hand-hands t (record { slots = x; out = found s }) x.held refl)

-- an effect that has no price here causes none that has
free-hands : (e : Effect) (s : Slots) → effect_price copies_alone e ≡ 0 → prices_of copies_alone (row e s).caused ≡ 0
free-hands e s free =
    let h = copies-within 0 s (row e s).slots (row e s).caused (λ i a.
    let r = row-takes copies_alone i a (record { here = refl; others = λ j. omega arith }) e s in omega (arith, r, free)) in
    omega (arith, h)

abbrev IsFree : Effect → Type 0
IsFree e = effect_price copies_alone e ≡ 0

abbrev IsNoOther : Effect → Type 0
IsNoOther (Tee t names.HandChunk) = Unit {0}
IsNoOther e = IsFree e

is-free : (e : Effect) → IsNoOther e
is-free e = grind arith

pub row-hands : (e : Effect) (s : Slots) → prices_of copies_alone (row e s).caused ≡ 0
unfolding row
row-hands (Tee t names.HandChunk) s = handing-hands t s (slice_get s.tees t.0) refl
row-hands e s = free-hands e s (is-free e)
