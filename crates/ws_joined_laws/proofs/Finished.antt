-- How a run ends, by what its nodes tell.
use Rattle.std.proofs.Common.{◌≡◌, ◌≢◌, ◌+◌, ◌-◌, ◌<◌, ◌^◌, ℕ, suc, ℤ, nat_abs, List, [], ◌∷◌, ◌++◌, length, Option, Some, None, sym, ap, ◌∙◌, subst, arith}
use Rattle.std.specs.Prelude.{All}
use Rattle.std.proofs.lemmas.List.Elements.{All-nil, All-cons, All-head, All-tail}
use Rattle.ws_value.specs.declared.fault.Fault.TheVariants.{TypeError, RangeError, DataClone, User, Read, Write, Stage, TooMuch, Abort, NoMemory}
use Rattle.ws_value.specs.declared.value.Plain.{Plain}
use Rattle.ws_value.specs.declared.value.Plain.TheVariants.{Undefined, Number, Fault as FaultReason, Pair, Local}
use Rattle.ws_flow.specs.declared.plan.Ending.TheVariants.{Fine, Bad}
use Rattle.ws_flow.specs.declared.plan.Stage.{Stage as PlanStage}
use Rattle.ws_flow.specs.Chains.{all_stages}
use Rattle.ws_flow.specs.Machines.{some_chunk}
use Rattle.ws_flow.specs.Stages.{machines}
use Rattle.ws_flow.specs.Told.{Mark, Open, Closed, Told, told}
use Rattle.ws_flow.proofs.Told.{before_front}
use Rattle.ws_joined_laws.specs.Ends.{out_of, ending_of, HasAll, IsBad, IsWithinAbort, StopsIn, StopsNear}
use Rattle.ws_joined_laws.specs.Finished.{CausesIf, NodesTell, IsFoundFor, NodesEnd, EachRunOfNodesEnds}
use Rattle.ws_joined_laws.specs.Joined.{Node, members, EachHasCauses, IsJoined, EndsBadly, RejectsFor, JoinedEnds}
use Rattle.ws_joined_laws.specs.Sends.{MeetsIt}
use Rattle.ws_joined_laws.proofs.AtEnd.{found_late, fine_before}
use Rattle.ws_joined_laws.proofs.Condition.{each_condition_is_met}
use Rattle.ws_joined_laws.proofs.Joined.{each_joined_run_ends}
use Rattle.ws_joined_laws.proofs.Sends.{each-meets-it}

-- what each node tells under the condition it tells
all-caused : (last : List Plain) (ns : List Node) → All MeetsIt (members ns) → All (CausesIf last) ns → EachHasCauses last ns
all-caused last [] h c = tt
all-caused last (n ∷ ns) h c =
    let met = All-head MeetsIt n.member (members ns) h in (
      All-head (CausesIf last) n ns c met.bytes met.short,
      all-caused last ns (All-tail MeetsIt n.member (members ns) h) (All-tail (CausesIf last) n ns c),
    )

meets-last : (before : List Node) (n : Node) → All MeetsIt (members (before ++ n ∷ [])) → MeetsIt n.member
meets-last [] n h = All-head MeetsIt n.member [] h
meets-last (m ∷ before) n h = meets-last before n (All-tail MeetsIt m.member (members (before ++ n ∷ [])) h)

-- a stage that is bad is found before the end of the input or at it
bad-by : (ss : List PlanStage) (index code place j : ℕ) (m : Mark) (taken : List ℕ) → index ≡ suc j → ending_of ss j taken m ≡ Bad code place → IsBad ss index code place m taken
bad-by ss index code place j m taken e bad =
    let same : index - 1 ≡ j = omega arith in
    record {
      numbered = omega arith;
      bad = subst (λ k. ending_of ss k taken m ≡ Bad code place) (sym same) bad;
      early = λ f. found_late (machines ss) j (some_chunk taken) m (Bad code place) bad (subst (λ k. ending_of ss k taken Open ≢ Bad code place) same f);
      at_end = λ f.
          let r = fine_before ss j (told (some_chunk taken) m) code place bad f in
          (r.0, λ i less. subst (λ (m : Mark). ending_of ss i taken m ≡ Fine) r.0 (r.1 i (omega arith)));
    }

-- what the output got with an abort

at-short : (before : List (List ℕ)) (chunk : List ℕ) (after : List (List ℕ)) → All (λ c. length c < 33554432) (before ++ chunk ∷ after) → length chunk < 33554432
at-short [] chunk after h = All-head (λ c. length c < 33554432) chunk after h
at-short (c ∷ before) chunk after h = at-short before chunk after (All-tail (λ c. length c < 33554432) c (before ++ chunk ∷ after) h)

few : (left : ℕ) (chunks : List (List ℕ)) (gain : List ℕ) → All (λ c. length c < 33554432) chunks → (0 < length gain → StopsIn left chunks gain) → length gain < left + 2 ^ 25
few left chunks [] short last = omega arith
few left chunks (x ∷ gain) short last =
    let at = last (omega arith) in
    let to = at.to in
    let fewer = at.fewer in
    let here = at-short at.before at.chunk at.after (subst (All (λ c. length c < 33554432)) at.split short) in
    omega arith

within : (after : Option ℤ) (chunks : List (List ℕ)) (gain : List ℕ) → All (λ c. length c < 33554432) chunks → StopsNear after chunks gain → IsWithinAbort after gain
within None chunks gain short h = tt
within (Some after) chunks gain short h = few (nat_abs after) chunks gain short h

module _ (after : Option ℤ) (taken : Told ℕ) (ns : List Node) (got : Told ℕ) (last : List Plain) (h : NodesTell after taken ns got last) where
  abbrev stages : List PlanStage
  stages = all_stages (members ns)

  met : All MeetsIt (members ns)
  met = each-meets-it taken (members ns) got h.range h.chained

  is-joined : IsJoined taken ns got last
  is-joined = record {
    chained = each_condition_is_met taken (members ns) got h.range h.chained;
    known = h.known;
    counted = h.counted;
    caused = all-caused last ns met h.caused;
  }

  joined-ends : JoinedEnds taken ns got last
  joined-ends = each_joined_run_ends taken ns got last is-joined

  is-bad : (index code place : ℕ) → EndsBadly taken ns index code place → IsBad stages index code place taken.mark taken.items
  is-bad index code place e = let n = e.numbered in bad-by stages index code place (index - 1) taken.mark taken.items (omega arith) e.bad

  found-for : (r : Plain) → RejectsFor taken ns r → IsFoundFor taken ns r
  found-for (FaultReason Read) f = f
  found-for (FaultReason TooMuch) f = f
  found-for (FaultReason Write) f = f
  found-for (FaultReason (Stage index code place)) f = is-bad index code place f
  found-for (FaultReason Abort) f = f
  found-for (FaultReason NoMemory) f = f
  found-for (FaultReason TypeError) f = f
  found-for (FaultReason RangeError) f = f
  found-for (FaultReason DataClone) f = f
  found-for (FaultReason (User k)) f = f
  found-for Undefined f = f
  found-for (Number k) f = f
  found-for (Pair t) f = f
  found-for (Local k) f = f

  all-found : (rs : List Plain) → All (RejectsFor taken ns) rs → All (IsFoundFor taken ns) rs
  all-found [] a = All-nil (IsFoundFor taken ns)
  all-found (r ∷ rs) a = All-cons (IsFoundFor taken ns) r rs (found-for r (All-head (RejectsFor taken ns) r rs a)) (all-found rs (All-tail (RejectsFor taken ns) r rs a))

  has-all : got.mark ≡ Closed → HasAll stages taken.mark taken.items got.items
  has-all c =
      let w = joined-ends.finished c in
      let ended : taken.mark ≡ Closed = w.ends_well.closed in
      record {
        closed = ended;
        fine = subst (λ (m : Mark). (j : ℕ) → ending_of stages j taken.items m ≡ Fine) ended w.ends_well.fine;
        whole = subst (λ (m : Mark). out_of stages taken.items m ≡ told got.items m) ended (w.all ∙ ap (λ m. told got.items m) (c ∙ sym ended));
      }

  stops : IsWithinAbort after got.items
  stops =
      let m = meets-last h.ends.before h.ends.tail (subst (λ q. All MeetsIt (members q)) h.ends.whole met) in
      let k = h.ends.near m.bytes m.short in
      within after k.keeps.went.items got.items (m.sends k.keeps k.pieces) k.stops

  pub nodes-end : NodesEnd after taken ns got last
  nodes-end = record {
    joined = is-joined;
    first = before_front got (out_of stages taken.items taken.mark) joined-ends.first;
    finished = has-all;
    reasons = all-found last joined-ends.causes;
    abort = stops;
  }

pub each-run-of-nodes-ends : EachRunOfNodesEnds
each-run-of-nodes-ends = nodes-end
