-- In a chain of nodes the condition is met of each, and what goes out of each comes in short chunks.
use Rattle.std.proofs.Common.{◌≡◌, ℕ, ◌<◌, ◌≤◌, true, List, [], ◌∷◌, ◌++◌, length, sym, ap, ◌∙◌, subst}
use Rattle.std.specs.List.{All}
use Rattle.std.proofs.lemmas.List.Elements.{All-nil, All-cons}
use Rattle.ws_flow.specs.declared.plan.Stage.{Stage}
use Rattle.ws_flow.specs.Chains.{Way, Host, Row, Member, Keeps, all_stages}
use Rattle.ws_flow.specs.Machines.{all_through}
use Rattle.ws_flow.specs.Rows.{told_by}
use Rattle.ws_flow.specs.Stages.{machines}
use Rattle.ws_flow.specs.Told.{Told, then_told, IsBefore}
use Rattle.ws_flow.proofs.Chain.{flows_before}
use Rattle.ws_flow.proofs.Ends.{edge_before}
use Rattle.ws_flow.proofs.Lengths.{chunks_short}
use Rattle.ws_flow.proofs.Members.{machines-append}
use Rattle.ws_flow.proofs.Through.{all_before, all_append}
use Rattle.ws_flow.proofs.Told.{before_refl, before_trans, before_front, before_then}
use Rattle.ws_joined_laws.specs.Condition.{has_only_bytes, AreBytes, AreShort, OnwardIf, AreInRange}
use Rattle.ws_joined_laws.specs.Sends.{ArePieces, MeetsIt, EachNodeMeetsIt}
use Rattle.ws_joined_laws.proofs.Condition.{first-all, front-all, stages-assoc, front-range, IsReached, keeps-reached, came-is}

abbrev IsShort : List ℕ → Type 0
IsShort c = length c < 33554432

-- what went out of a node is before what its stages make of all
went-before : (x : Told (List ℕ)) (m : Member) (k : Keeps m) (prior : List Stage) → IsBefore k.came (all_through (machines prior) x)
    → IsBefore k.went (all_through (machines (prior ++ m.stages)) x)
went-before x m k prior b =
    let y = all_through (machines m.stages) (all_through (machines prior) x) in
    let out = then_told k.went m.behind in
    subst (λ z. IsBefore k.went z) (sym (all_append (machines prior) (machines m.stages) x) ∙ ap (λ q. all_through q x) (sym (machines-append prior m.stages)))
    (before_trans k.went out y (before_then k.went m.behind)
    (before_trans out (all_through (machines m.stages) k.came) y (flows_before (machines m.stages) k.came m.parts out k.flows) (all_before (machines m.stages) k.came (all_through (machines prior) x) b)))

module _ (x : Told (List ℕ)) (short : All (λ c. length c ≤ 4096) x.items) (got : Told ℕ) where
  -- a first part of what some stages make of the pieces
  part-short : (ss rest : List Stage) (y : Told (List ℕ)) → AreInRange (ss ++ rest) → IsBefore y (all_through (machines ss) x) → All IsShort y.items
  part-short ss rest y r b =
      let f = front-range ss rest r in
      front-all IsShort y.items (all_through (machines ss) x).items (before_front y (all_through (machines ss) x) b) (chunks_short ss x f.range f.hex f.few short)

  walk : (prior : List Stage) (w : Way) (ms : List Member) → AreInRange (prior ++ all_stages ms) → AreBytes w → IsReached x prior w → OnwardIf w ms got → All MeetsIt ms
  walk prior (Host b) [] r a h o = All-nil MeetsIt
  walk prior (Row s) [] r a h o = absurd o
  walk prior (Host b) (m ∷ ms) r a h o = absurd o
  walk prior (Row s) (m ∷ ms) r a h (received, rest, whole, from, keeps, o) =
      let front : IsBefore (told_by received) (told_by s) = subst (λ q. IsBefore (told_by received) (told_by q)) (sym whole) (edge_before received rest) in
      let reached : IsBefore (told_by received) (all_through (machines prior) x) = before_trans (told_by received) (told_by s) (all_through (machines prior) x) front h in
      let bytes : AreBytes m.from = subst (λ q. AreBytes q) (sym from) (first-all (λ q. has_only_bytes q ≡ true) received rest (subst (λ q. All (λ z. has_only_bytes z ≡ true) q) whole a)) in
      let few : AreShort m.from = subst (λ q. AreShort q) (sym from) (part-short prior (all_stages (m ∷ ms)) (told_by received) r reached) in
      let range : AreInRange ((prior ++ m.stages) ++ all_stages ms) = subst (λ q. AreInRange q) (sym (stages-assoc prior m.stages (all_stages ms))) r in
      let came : (k : Keeps m) → IsBefore k.came (all_through (machines prior) x) =
      λ k. subst (λ q. IsBefore q (all_through (machines prior) x)) (sym (came-is x short got m.from received k.came from k.is_came)) reached in
      let k = keeps bytes few in
      All-cons MeetsIt m ms
      (record { bytes = bytes; short = few; sends = λ k p. part-short (prior ++ m.stages) (all_stages ms) k.went range (went-before x m k prior (came k)) })
      (walk (prior ++ m.stages) m.to ms range k.1 (keeps-reached x short got m k.0 prior (came k.0)) o)

pub each-meets-it : EachNodeMeetsIt
each-meets-it taken [] got r o = absurd o
each-meets-it taken (m ∷ ms) got r (h, o) =
    let k = h.keeps in
    All-cons MeetsIt m ms
    (record {
      bytes = subst (λ q. AreBytes q) (sym h.from) tt;
      short = subst (λ q. AreShort q) (sym h.from) tt;
      sends = λ k p. part-short k.came (subst (λ (q : Way). ArePieces q k.came.items) h.from p) got m.stages (all_stages ms) k.went r (went-before k.came m k [] (before_refl k.came));
    })
    (walk k.came h.pieces got m.stages m.to ms r h.bytes (keeps-reached k.came h.pieces got m k [] (before_refl k.came)) o)
