-- What goes from one place of a link to the next, as lists that are told.
use Rattle.std.proofs.Common.{◌≡◌, ◌⊎◌, inl, inr, ◌≤◌, [], sym, arith}
use Rattle.ws_value.specs.declared.value.Value.{Value}
use Rattle.ws_steps.specs.declared.pipes.Phase.{Phase}
use Rattle.ws_steps.specs.declared.pipes.Phase.TheVariants.{Flowing, Waiting, Acting, Over}
use Rattle.ws_steps.specs.Pipes as pipe
use Rattle.ws_flow.specs.Told.{Open, Closed, Lost, Told, told, then_told, IsShortOf}
use Rattle.ws_flow.proofs.Told.{then_assoc, then_empty, short_refl, short_as, short_same, short_left, short_right}
use Rattle.ws_link_laws.specs.Link.{silence, held_items, piped_by, in_pipe}
use Rattle.ws_link_laws.proofs.Pipes.{rank}

-- what is told from the host on: unheard, about to be heard, in the destination, on its way there, and before that
abbrev pub line : Told Value → Told Value → Told Value → Told Value → Told Value → Told Value
line U H K W P = then_told U (then_told H (then_told K (then_told W P)))

pub line-short : (U H K W P Q : Told Value) → IsShortOf P Q → IsShortOf (line U H K W P) (line U H K W Q)
line-short U H K W P Q h = short_left U _ _ (short_left H _ _ (short_left K _ _ (short_left W P Q h)))

-- a record passes something on, to where nothing is, or nothing
pub passes : (H K W g L w : Told Value) → IsShortOf (then_told g L) (then_told K w) → (g ≡ silence) ⊎ (H ≡ silence)
    → IsShortOf (then_told (then_told g H) (then_told L W)) (then_told H (then_told K (then_told w W)))
passes H K W g L w h (inl e) =
    let k : IsShortOf L (then_told K w) = rw e at h in
    rw e (short_left H (then_told L W) (then_told K (then_told w W)) (short_as (then_told L W) (then_told (then_told K w) W) _ (then_assoc K w W) (short_right L (then_told K w) W k)))
passes H K W g L w h (inr e) =
    rw (e, then_empty g)
    (short_same (then_told g (then_told L W)) (then_told (then_told g L) W) _ (sym (then_assoc g L W))
    (short_as (then_told (then_told g L) W) (then_told (then_told K w) W) _ (then_assoc K w W) (short_right (then_told g L) (then_told K w) W h)))

-- so the destination
pub sink-passes : (U H K W P g L w : Told Value) → IsShortOf (then_told g L) (then_told K w) → (g ≡ silence) ⊎ (H ≡ silence) → IsShortOf (line U (then_told g H) L W P) (line U H K (then_told w W) P)
sink-passes U H K W P g L w h e = short_left U _ _ (rw (then_assoc w W P) (passes H K (then_told W P) g L w h e))

piped-short : (phase : Phase) (x : pipe.Slots) (A B : Told Value) → IsShortOf A B → IsShortOf (piped_by phase x.held A) (piped_by phase x.held B)
piped-short Flowing x A B h = short_left (told (held_items x.held) Open) A B h
piped-short Waiting x A B h = short_left (told (held_items x.held) Open) A B h
piped-short Acting x A B h = short_refl (told [] Lost)
piped-short Over x A B h = short_refl (told [] Lost)

pub in_pipe-short : (x : pipe.Slots) (A B : Told Value) → IsShortOf A B → IsShortOf (in_pipe x A) (in_pipe x B)
in_pipe-short x A B h = piped-short x.phase x A B h

pub late_pipe : (x : pipe.Slots) (A : Told Value) → 2 ≤ rank x.phase → in_pipe x A ≡ told [] Lost
late_pipe x A l = grind (arith, l)

-- a pipe writes where nothing is on its way, or writes nothing
pub pipe-passes : (U H K W w P Q : Told Value) → (w ≡ silence) ⊎ (W ≡ silence) → IsShortOf (then_told (then_told K W) (then_told w P)) (then_told (then_told K W) Q) → IsShortOf (line U H K (then_told w W) P) (line U H K W Q)
pipe-passes U H K W w P Q (inl e) h =
    short_left U _ _ (short_left H _ _
    (rw e (short_same (then_told K (then_told W P)) (then_told (then_told K W) P) _ (sym (then_assoc K W P)) (short_as (then_told (then_told K W) P) (then_told (then_told K W) Q) _ (then_assoc K W Q) (rw e at h)))))
pipe-passes U H K W w P Q (inr e) h =
    short_left U _ _ (short_left H _ _
    (rw (e, then_empty w) (let k : IsShortOf (then_told (then_told K silence) (then_told w P)) (then_told (then_told K silence) Q) = rw e at h in rw (then_empty K) at k)))

-- the close of a destination that closes is about to be heard
pub close-passes : (U H K W P : Told Value) → H ≡ silence → K ≡ told [] Closed → IsShortOf (line U (then_told (told [] Closed) H) K W P) (line U H K W P)
close-passes U H K W P e f = short_left U _ _ (rw (e, f) (short_refl (told [] Closed)))

-- what is about to be heard is heard
pub heard-passes : (U g H R : Told Value) → IsShortOf (then_told (then_told U g) (then_told H R)) (then_told U (then_told (then_told g H) R))
heard-passes U g H R = rw (then_assoc U g (then_told H R), then_assoc g H R) (short_refl (then_told U (then_told g (then_told H R))))
