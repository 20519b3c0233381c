-- In a chain the condition is met from node to node.
use Rattle.std.proofs.Common.{◌≡◌, ℕ, ◌<◌, ◌≤◌, true, List, [], ◌∷◌, ◌++◌, length, refl, sym, ap, ◌∙◌, subst, length-append, arith}
use Rattle.std.specs.List.{All, list_all, filter}
use Rattle.std.proofs.lemmas.Bool.{and_parts}
use Rattle.std.proofs.lemmas.List.Elements.{All-nil, All-cons, All-head, All-tail, filter-append}
use Rattle.std.proofs.lemmas.List.Folds.{list_all-append}
use Rattle.std.proofs.lemmas.List.Sums.{length-filter}
use Rattle.ws_value.specs.declared.value.Message.{Message}
use Rattle.ws_flow.specs.declared.plan.Stage.{Stage}
use Rattle.ws_flow.specs.Chains.{Way, Host, Row, Came, Went, Member, Keeps, Onward, all_stages}
use Rattle.ws_flow.specs.Machines.{all_through}
use Rattle.ws_flow.specs.Plans.{is_hex}
use Rattle.ws_flow.specs.Rows.{told_by}
use Rattle.ws_flow.specs.Stages.{is_in_range, machines}
use Rattle.ws_flow.specs.Told.{Told, then_told, IsFront, IsBefore}
use Rattle.ws_flow.proofs.Chain.{flows_before}
use Rattle.ws_flow.proofs.Ends.{edge_before}
use Rattle.ws_flow.proofs.Lengths.{chunks_short}
use Rattle.ws_flow.proofs.Members.{machines-append}
use Rattle.ws_flow.proofs.Through.{all_before, all_append}
use Rattle.ws_flow.proofs.Told.{before_refl, before_trans, before_front, before_then}
use Rattle.ws_joined_laws.specs.Condition.{has_only_bytes, AreBytes, AreShort, OnwardIf, AreInRange, EachConditionIsMet}

pub first-all : {A : Type 0} (P : A → Type 0) (xs ys : List A) → All P (xs ++ ys) → All P xs
first-all P [] ys h = All-nil P
first-all P (x ∷ xs) ys h = All-cons P x xs (All-head P x (xs ++ ys) h) (first-all P xs ys (All-tail P x (xs ++ ys) h))

pub front-all : {A : Type 0} (P : A → Type 0) (xs ys : List A) → IsFront xs ys → All P ys → All P xs
front-all P xs ys (r, e) h = first-all P xs r (subst (λ q. All P q) e h)

pub stages-assoc : (a b c : List Stage) → (a ++ b) ++ c ≡ a ++ (b ++ c)
stages-assoc [] b c = refl
stages-assoc (x ∷ a) b c = ap (λ q. x ∷ q) (stages-assoc a b c)

pub front-range : (a b : List Stage) → AreInRange (a ++ b) → AreInRange a
front-range a b h = record {
  range = (and_parts (list_all is_in_range a) (list_all is_in_range b) (sym (list_all-append is_in_range a b) ∙ h.range)).0;
  hex =
      let e = length-filter is_hex a in
      let f = length-filter is_hex (a ++ b) in
      let g = ap length (filter-append is_hex a b) ∙ length-append (filter is_hex a) (filter is_hex b) in
      let l = h.hex in
      omega arith;
  few = let e = length-append a b in let l = h.few in omega arith;
}

-- what went out of the nodes so far is before what their stages make of the pieces
abbrev pub IsReached : Told (List ℕ) → List Stage → Way → Type 0
IsReached x prior (Host b) = Unit {0}
IsReached x prior (Row s) = IsBefore (told_by s) (all_through (machines prior) x)

went-reached : (y : Told (List ℕ)) (w : Way) (went : Told (List ℕ)) (x : Told (List ℕ)) (prior : List Stage) → Went w went → IsBefore went y → y ≡ all_through (machines prior) x → IsReached x prior w
went-reached y (Host b) went x prior e h same = tt
went-reached y (Row s) went x prior e h same = subst (λ z. IsBefore (told_by s) z) same (subst (λ z. IsBefore z y) e h)

module _ (x : Told (List ℕ)) (short : All (λ c. length c ≤ 4096) x.items) (got : Told ℕ) where
  pub keeps-reached : (m : Member) (k : Keeps m) (prior : List Stage) → IsBefore k.came (all_through (machines prior) x) → IsReached x (prior ++ m.stages) m.to
  keeps-reached m k prior b =
      let y = all_through (machines m.stages) (all_through (machines prior) x) in
      went-reached y m.to k.went x (prior ++ m.stages) k.is_went
      (before_trans k.went (then_told k.went m.behind) y (before_then k.went m.behind)
      (before_trans (then_told k.went m.behind) (all_through (machines m.stages) k.came) y (flows_before (machines m.stages) k.came m.parts (then_told k.went m.behind) k.flows)
      (all_before (machines m.stages) k.came (all_through (machines prior) x) b)))
      (sym (all_append (machines prior) (machines m.stages) x) ∙ ap (λ q. all_through q x) (sym (machines-append prior m.stages)))

  pub came-is : (w : Way) (received : List Message) (came : Told (List ℕ)) → w ≡ Row received → Came w came → came ≡ told_by received
  came-is w received came e c = subst (λ q. Came q came) e c

  walk : (prior : List Stage) (w : Way) (ms : List Member) → AreInRange (prior ++ all_stages ms) → AreBytes w → IsReached x prior w → OnwardIf w ms got → Onward w ms got
  walk prior (Host b) [] r a h o = o
  walk prior (Row s) [] r a h o = absurd o
  walk prior (Host b) (m ∷ ms) r a h o = absurd o
  walk prior (Row s) (m ∷ ms) r a h (received, rest, whole, from, keeps, o) =
      let front : IsBefore (told_by received) (told_by s) = subst (λ q. IsBefore (told_by received) (told_by q)) (sym whole) (edge_before received rest) in
      let reached : IsBefore (told_by received) (all_through (machines prior) x) = before_trans (told_by received) (told_by s) (all_through (machines prior) x) front h in
      let all = chunks_short prior x (front-range prior (all_stages (m ∷ ms)) r).range (front-range prior (all_stages (m ∷ ms)) r).hex (front-range prior (all_stages (m ∷ ms)) r).few short in
      let few : All (λ c. length c < 33554432) (told_by received).items = front-all (λ c. length c < 33554432) (told_by received).items (all_through (machines prior) x).items (before_front (told_by received) (all_through (machines prior) x) reached) all in
      let bytes : AreBytes (Row received) = first-all (λ q. has_only_bytes q ≡ true) received rest (subst (λ q. All (λ z. has_only_bytes z ≡ true) q) whole a) in
      let k = keeps (subst (λ q. AreBytes q) (sym from) bytes) (subst (λ q. AreShort q) (sym from) few) in
      let b : IsBefore k.0.came (all_through (machines prior) x) = subst (λ q. IsBefore q (all_through (machines prior) x)) (sym (came-is m.from received k.0.came from k.0.is_came)) reached in
      (received, rest, whole, from, k.0, walk (prior ++ m.stages) m.to ms (subst (λ q. AreInRange q) (sym (stages-assoc prior m.stages (all_stages ms))) r) k.1 (keeps-reached m k.0 prior b) o)

pub each_condition_is_met : EachConditionIsMet
each_condition_is_met taken [] got r o = absurd o
each_condition_is_met taken (m ∷ ms) got r (h, o) =
    let k = h.keeps in
    (h.from, k, walk k.came h.pieces got m.stages m.to ms r h.bytes (keeps-reached k.came h.pieces got m k [] (before_refl k.came)) o)
