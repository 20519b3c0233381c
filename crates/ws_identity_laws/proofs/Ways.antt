-- The way through an identity transform stream: from link to link.
use Rattle.std.proofs.Common.{◌≡◌, true, ◌&&◌, List, [], ◌∷◌, ◌++◌, refl, sym, ap}
use Rattle.ws_value.specs.declared.value.Value.{Value}
use Rattle.ws_value.specs.declared.{ids.PipeId.{PipeId}, ids.StreamId.{StreamId}}
use Rattle.ws_laws.proofs.Truth.{and_left, and_right}
use Rattle.ws_link_laws.specs.Laws.{all_leave}
use Rattle.ws_steps.specs.Run.{Entry, run, step}
use Rattle.ws_steps.specs.Slots.{Slots, empty}
use Rattle.ws_flow.specs.Told.{Told, then_told, IsShortOf}
use Rattle.ws_flow.proofs.Told.{then_assoc, short_trans, short_same, short_as, short_left, short_right}
use Rattle.ws_link_laws.specs.Link.{lies}
use Rattle.ws_identity_laws.specs.Passing.{run_acts, run_takes}
use Rattle.ws_identity_laws.specs.Through.{lies_in, all_spare, Middle, IsWay, lies_along, all_leave_way, PassesWay, EachWayPasses}
use Rattle.ws_identity_laws.proofs.Keeps.{each_link_passes}
use Rattle.ws_identity_laws.proofs.Through.{each_identity_passes}

pub run-more : (xs ys : List Entry) (s : Slots) → run (xs ++ ys) s ≡ run ys (run xs s)
run-more [] ys s = refl
run-more (x ∷ xs) ys s = run-more xs ys (step s x)

-- one way after another: a goes out of it, m goes over from one to the other, and e comes in
pub chained : (a x y m z w e : Told Value) → IsShortOf (then_told a x) (then_told y m) → IsShortOf (then_told m z) (then_told w e) → IsShortOf (then_told a (then_told x z)) (then_told (then_told y w) e)
chained a x y m z w e f g =
    short_same (then_told a (then_told x z)) (then_told (then_told a x) z) _ (sym (then_assoc a x z))
    (short_trans (then_told (then_told a x) z) (then_told (then_told y m) z) _ (short_right (then_told a x) (then_told y m) z f)
    (short_same (then_told (then_told y m) z) (then_told y (then_told m z)) _ (then_assoc y m z)
    (short_as (then_told y (then_told m z)) (then_told y (then_told w e)) _ (sym (then_assoc y w e)) (short_left y (then_told m z) (then_told w e) g))))

-- a way, by its first link
way-passes : (xs entries : List Entry) (i : StreamId) (p : PipeId) (ms : List Middle) (k : StreamId) → IsWay i p ms k (run xs empty) → all_leave_way i ms k entries ≡ true → PassesWay i p ms k xs entries
way-passes xs entries i p [] k link l =
    let s : Slots = run xs empty in
    let h = each_link_passes i k p s entries link l in
    let more : lies i k p (run (xs ++ entries) empty) ≡ lies i k p (run entries s) = ap (λ (y : Slots). lies i k p y) (run-more xs entries empty) in
    record { way = h.link; short = short_same _ _ _ (ap (λ (y : Told Value). then_told (run_acts k entries s) y) more) h.short }
way-passes xs entries i p (m ∷ ms) k (link, (identity, rest)) l =
    let s : Slots = run xs empty in
    let z : Slots = run entries s in
    let w : StreamId = m.writable in
    let r : StreamId = m.readable in
    let l2 = and_right (all_leave i w entries) (all_spare r entries && all_leave_way r ms k entries) l in
    let one = way-passes xs entries r m.out ms k rest (and_right (all_spare r entries) (all_leave_way r ms k entries) l2) in
    let two = each_identity_passes xs entries m.number w r identity (and_left (all_spare r entries) (all_leave_way r ms k entries) l2) in
    let three = each_link_passes i w p s entries link (and_left (all_leave i w entries) (all_spare r entries && all_leave_way r ms k entries) l) in
    let after : Told Value = lies_in w r (xs ++ entries) in
    let inner = chained (run_takes r entries s) after (lies_in w r xs) (run_acts w entries s) (lies i w p z) (lies i w p s) (run_takes i entries s) two.short three.short in
    let all = chained (run_acts k entries s) (lies_along r m.out ms k (xs ++ entries)) (lies_along r m.out ms k xs) (run_takes r entries s) (then_told after (lies i w p z)) (then_told (lies_in w r xs) (lies i w p s)) (run_takes i entries s) one.short inner in
    let more : lies_along i p (m ∷ ms) k (xs ++ entries) ≡ then_told (lies_along r m.out ms k (xs ++ entries)) (then_told after (lies i w p z)) =
    ap (λ (y : Slots). then_told (lies_along r m.out ms k (xs ++ entries)) (then_told after (lies i w p y))) (run-more xs entries empty) in
    record { way = (three.link, (two.identity, one.way)); short = short_same _ _ _ (ap (λ (y : Told Value). then_told (run_acts k entries s) y) more) all }

pub each_way_passes : EachWayPasses
each_way_passes xs entries i p ms k way l = way-passes xs entries i p ms k way l
