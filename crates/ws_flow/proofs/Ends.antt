use Rattle.std.proofs.Common.{◌≡◌, ℕ, List, [], ◌∷◌, ◌++◌, refl, sym, ap, ◌∙◌, subst}
use Rattle.ws_flow.specs.Machines.{Machine}
use Rattle.ws_flow.specs.Parts.{Part, nothing_told, fresh, made, Goes, Flows}
use Rattle.ws_flow.specs.Rows.{value_bytes, told_by, Place, in_place, LinkKeeps, Turned, Relates}
use Rattle.ws_flow.specs.Told.{Open, Told, told, then_told, IsShortOf, IsBefore}
use Rattle.ws_flow.proofs.Chain.{goes_then}
use Rattle.ws_flow.proofs.Told.{then_assoc, short_same, short_as, short_left, short_right, before_then}
use Rattle.ws_value.specs.declared.value.Message.{Message}
use Rattle.ws_value.specs.declared.value.Message.TheVariants.{Pull, Chunk, Close, Error}

-- what a row told, and then more
pub told_append : (a b : List Message) → told_by (a ++ b) ≡ then_told (told_by a) (told_by b)
told_append [] b = refl
told_append (Pull ∷ a) b = told_append a b
told_append (Chunk v ∷ a) b = ap (λ q. then_told (told (value_bytes v ∷ []) Open) q) (told_append a b) ∙ sym (then_assoc (told (value_bytes v ∷ []) Open) (told_by a) (told_by b))
told_append (Close ∷ a) b = refl
told_append (Error r ∷ a) b = refl

-- an edge: what was received is before what was sent
pub edge_before : (received rest : List Message) → IsBefore (told_by received) (told_by (received ++ rest))
edge_before received rest = subst (λ q. IsBefore (told_by received) q) (sym (told_append received rest)) (before_then (told_by received) (told_by rest))

-- what was sent before stays in front
pub goes_behind : (ms : List Machine) (y : Told (List ℕ)) (ps : List Part) (o : Told (List ℕ)) (qs : List Part) (new s : Told (List ℕ)) → Goes ms y ps o qs new → Goes ms y ps (then_told s o) qs (then_told s new)
goes_behind [] y [] o [] new s g = short_as (then_told s new) (then_told s (then_told o y)) (then_told (then_told s o) y) (sym (then_assoc s o y)) (short_left s new (then_told o y) g)
goes_behind (m ∷ ms) y (p ∷ ps) o (q ∷ qs) new s (t, a, h, g) = (t, a, h, goes_behind ms (made m p.work t) ps o qs new s g)
goes_behind [] y [] o (q ∷ qs) new s g = elim g [ ]
goes_behind [] y (p ∷ ps) o [] new s g = elim g [ ]
goes_behind [] y (p ∷ ps) o (q ∷ qs) new s g = elim g [ ]
goes_behind (m ∷ ms) y [] o [] new s g = elim g [ ]
goes_behind (m ∷ ms) y [] o (q ∷ qs) new s g = elim g [ ]
goes_behind (m ∷ ms) y (p ∷ ps) o [] new s g = elim g [ ]

-- A turn keeps the relation.
pub turn_keeps : (ms : List Machine) (r0 r1 s0 s1 : List Message) (ps : List Part) (b0 : Told (List ℕ)) (qs : List Part) (b1 : Told (List ℕ)) → Relates ms r0 s0 ps b0 → Turned ms r0 r1 s0 s1 ps b0 qs b1 → Relates ms r1 s1 qs b1
turn_keeps ms r0 r1 s0 s1 ps b0 qs b1 f t =
    let g = goes_behind ms (told_by t.taken) ps b0 qs (then_told (told_by t.posted) b1) (told_by s0) t.goes in
    let h = goes_then ms (told_by r0) (told_by t.taken) (fresh ms) nothing_told ps (then_told (told_by s0) b0) qs (then_told (told_by s0) (then_told (told_by t.posted) b1)) f g in
    subst (λ x. Flows ms x qs (then_told (told_by s1) b1)) (sym (ap told_by t.received ∙ told_append r0 t.taken))
    (subst (λ o. Flows ms (then_told (told_by r0) (told_by t.taken)) qs o) (sym (ap (λ q. then_told (told_by q) b1) t.sent ∙ ap (λ q. then_told q b1) (told_append s0 t.posted) ∙ then_assoc (told_by s0) (told_by t.posted) b1)) h)

-- A step of the realm leaves no more before a stage than lay there, if the realm keeps its law for that link.
pub place_keeps : (p : Place) (handed new entered later : Told (List ℕ)) → LinkKeeps handed new p.link entered → p.coming ≡ then_told entered later → IsShortOf (in_place (record { waiting = then_told p.waiting handed; link = new; coming = later })) (in_place p)
place_keeps p handed new entered later h e =
    short_same (then_told (then_told p.waiting handed) (then_told new later)) (then_told p.waiting (then_told handed (then_told new later))) (in_place p) (then_assoc p.waiting handed (then_told new later))
    (short_left p.waiting (then_told handed (then_told new later)) (then_told p.link p.coming)
    (short_same (then_told handed (then_told new later)) (then_told (then_told handed new) later) (then_told p.link p.coming) (sym (then_assoc handed new later))
    (short_as (then_told (then_told handed new) later) (then_told (then_told p.link entered) later) (then_told p.link p.coming)
    (then_assoc p.link entered later ∙ ap (λ q. then_told p.link q) (sym e))
    (short_right (then_told handed new) (then_told p.link entered) later h))))
