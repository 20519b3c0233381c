-- What a run over a chain of nodes ends with.
use Rattle.std.proofs.Common.{◌≡◌, ℕ, zero, suc, ◌+◌, ◌-◌, Bool, true, List, [], ◌∷◌, ◌++◌, length, refl, sym, ap, ◌∙◌, subst, arith, length-append}
use Rattle.std.specs.Prelude.{All}
use Rattle.std.proofs.lemmas.List.Elements.{All-nil, All-cons, All-head, All-tail}
use Rattle.ws_value.specs.declared.fault.Fault.TheVariants.{TypeError, RangeError, DataClone, User, Read, Write, Stage, TooMuch, Abort, NoMemory}
use Rattle.ws_value.specs.declared.value.Message.{Message}
use Rattle.ws_value.specs.declared.value.Message.TheVariants.{Pull, Chunk, Close, Error}
use Rattle.ws_value.specs.declared.value.Plain.{Plain}
use Rattle.ws_value.specs.declared.value.Plain.TheVariants.{Undefined, Number, Fault as FaultReason, Pair, Local}
use Rattle.ws_flow.specs.declared.plan.Ending.TheVariants.{Bad}
use Rattle.ws_flow.specs.declared.plan.Stage.{Stage as PlanStage}
use Rattle.ws_flow.specs.Chains.{Way, Host, Row, Member, Keeps, all_parts, Onward, Chained}
use Rattle.ws_flow.specs.Machines.{Machine}
use Rattle.ws_flow.specs.Parts.{Part, Goes, fresh, nothing_told, found}
use Rattle.ws_flow.specs.Stages.{machines}
use Rattle.ws_flow.specs.Told.{Told}
use Rattle.ws_flow.proofs.Members.{chain_got, chain_stage, chain_done}
use Rattle.ws_joined_laws.specs.Reasons.{reasons_in, Finds, IsOwnStage, IsOwn, HasCause, Passed, Own, came_by, went_by}
use Rattle.ws_joined_laws.specs.Joined.{Node, members, AreCounted, EachHasCauses, IsJoined, SomeFinds, EndsBadly, RejectsFor, JoinedEnds, EachJoinedRunEnds}

-- lists

assoc : {A : Type 0} (xs : List A) (y : A) (zs : List A) → xs ++ y ∷ zs ≡ (xs ++ y ∷ []) ++ zs
assoc [] y zs = refl
assoc (x ∷ xs) y zs = ap (λ q. x ∷ q) (assoc xs y zs)

front-all : {A : Type 0} (P : A → Type 0) (xs ys : List A) → All P (xs ++ ys) → All P xs
front-all P [] ys a = All-nil P
front-all P (x ∷ xs) ys a = All-cons P x xs (All-head P x (xs ++ ys) a) (front-all P xs ys (All-tail P x (xs ++ ys) a))

pub at-all : {A : Type 0} (P : A → Type 0) (xs : List A) (y : A) (zs : List A) → All P (xs ++ y ∷ zs) → P y
at-all P [] y zs a = All-head P y zs a
at-all P (x ∷ xs) y zs a = at-all P xs y zs (All-tail P x (xs ++ y ∷ zs) a)

reasons-append : (xs ys : List Message) → reasons_in (xs ++ ys) ≡ reasons_in xs ++ reasons_in ys
reasons-append [] ys = refl
reasons-append (Pull ∷ xs) ys = reasons-append xs ys
reasons-append (Chunk v ∷ xs) ys = reasons-append xs ys
reasons-append (Close ∷ xs) ys = reasons-append xs ys
reasons-append (Error r ∷ xs) ys = ap (λ q. r ∷ q) (reasons-append xs ys)

-- parts

goes-length : (ms : List Machine) (y : Told (List ℕ)) (ps : List Part) (o : Told (List ℕ)) (qs : List Part) (out : Told (List ℕ)) → Goes ms y ps o qs out → length qs ≡ length ms
goes-length [] y [] o [] out g = refl
goes-length [] y [] o (q ∷ qs) out g = absurd g
goes-length [] y (p ∷ ps) o [] out g = absurd g
goes-length [] y (p ∷ ps) o (q ∷ qs) out g = absurd g
goes-length (m ∷ ms) y [] o [] out g = absurd g
goes-length (m ∷ ms) y [] o (q ∷ qs) out g = absurd g
goes-length (m ∷ ms) y (p ∷ ps) o [] out g = absurd g
goes-length (m ∷ ms) y (p ∷ ps) o (q ∷ qs) out (t, _, _, g) = ap suc (goes-length ms _ ps o qs out g)

machines-length : (ss : List PlanStage) → length (machines ss) ≡ length ss
machines-length [] = refl
machines-length (s ∷ ss) = ap suc (machines-length ss)

kept-length : (m : Member) → Keeps m → length m.parts ≡ length m.stages
kept-length m k = goes-length (machines m.stages) k.came (fresh (machines m.stages)) nothing_told m.parts _ k.flows ∙ machines-length m.stages

parts-append : (xs ys : List Node) → all_parts (members (xs ++ ys)) ≡ all_parts (members xs) ++ all_parts (members ys)
parts-append [] ys = refl
parts-append (x ∷ xs) ys = ap (λ q. x.member.parts ++ q) (parts-append xs ys) ∙ joins x.member.parts (all_parts (members xs)) (all_parts (members ys))
  where
    joins : (xs bs cs : List Part) → xs ++ (bs ++ cs) ≡ (xs ++ bs) ++ cs
    joins [] bs cs = refl
    joins (a ∷ xs) bs cs = ap (λ q. a ∷ q) (joins xs bs cs)

parts-longer : (xs : List Node) (x : Node) → length (all_parts (members (xs ++ x ∷ []))) ≡ length (all_parts (members xs)) + length x.member.parts
parts-longer xs x =
    let a = ap length (parts-append xs (x ∷ [])) in
    let b = length-append (all_parts (members xs)) (all_parts (members (x ∷ []))) in
    let c = length-append x.member.parts [] in
    omega (arith, a, b, c)

found-behind : (xs ys : List Part) (i j : ℕ) → i ≡ length xs + j → found (xs ++ ys) i ≡ found ys j
found-behind [] ys i j e = let same : i ≡ j = omega arith in ap (λ k. found ys k) same
found-behind (x ∷ xs) ys zero j e = absurd (omega arith)
found-behind (x ∷ xs) ys (suc i) j e = found-behind xs ys i j (omega arith)

found-front : (xs ys : List Part) (j c p : ℕ) → found xs j ≡ Bad c p → found (xs ++ ys) j ≡ Bad c p
found-front [] ys j c p e = cc
found-front (x ∷ xs) ys zero c p e = e
found-front (x ∷ xs) ys (suc j) c p e = found-front xs ys j c p e

-- a reason has its cause in one of the nodes
record IsCaused (ns : List Node) (r : Plain) : Type 0 where
  pub before : List Node
  pub node : Node
  pub after : List Node
  pub whole : ns ≡ before ++ node ∷ after
  pub counted : length (all_parts (members before)) ≡ node.finds.before
  pub own : IsOwn node.finds node.member.parts r

module _ (all : List Node) (got : Told ℕ) (last : List Plain) where
  each : (f : Finds) (ps : List Part) (came rs : List Plain) → All (IsCaused all) came → ((r : Plain) → IsOwn f ps r → IsCaused all r) → All (HasCause f ps came) rs → All (IsCaused all) rs
  each f ps came [] a own h = All-nil (IsCaused all)
  each f ps came (r ∷ rs) a own h = All-cons (IsCaused all) r rs (one (All-head (HasCause f ps came) r rs h)) (each f ps came rs a own (All-tail (HasCause f ps came) r rs h))
    where
      one : HasCause f ps came r → IsCaused all r
      one (Passed before after e) = at-all (IsCaused all) before r after (subst (λ q. All (IsCaused all) q) e a)
      one (Own o) = own r o

  walk : (before ns : List Node) (k : ℕ) (w : Way) → all ≡ before ++ ns → length (all_parts (members before)) ≡ k → AreCounted k ns → Onward w (members ns) got
      → All (IsCaused all) (went_by last w) → EachHasCauses last ns → All (IsCaused all) last
  walk before [] k (Host b) e l c o a f = a
  walk before [] k (Row s) e l c o a f = absurd o
  walk before (x ∷ ns) k (Host b) e l c o a f = absurd o
  walk before (x ∷ ns) k (Row s) e l (c, cs) (received, rest, whole, from, keeps, o) a (fj, fs) =
      let sent : All (IsCaused all) (reasons_in received ++ reasons_in rest) = subst (λ q. All (IsCaused all) q) (ap reasons_in whole ∙ reasons-append received rest) a in
      let came : All (IsCaused all) (came_by x.member.from) = subst (λ (q : Way). All (IsCaused all) (came_by q)) (sym from) (front-all (IsCaused all) (reasons_in received) (reasons_in rest) sent) in
      let longer : length (all_parts (members (before ++ x ∷ []))) ≡ k + length x.member.stages =
      let h = parts-longer before x in
      let n = kept-length x.member keeps in
      omega (arith, h, n, l) in
      walk (before ++ x ∷ []) ns (k + length x.member.stages) x.member.to (e ∙ assoc before x ns) longer cs o
      (each x.finds x.member.parts (came_by x.member.from) (went_by last x.member.to) came (λ r own. record { before = before; node = x; after = ns; whole = e; counted = l ∙ sym c; own = own }) fj)
      fs

caused : (taken : Told ℕ) (ns : List Node) (got : Told ℕ) (last : List Plain) → Chained taken (members ns) got → AreCounted 0 ns → EachHasCauses last ns → All (IsCaused ns) last
caused taken [] got last o c f = absurd o
caused taken (x ∷ ns) got last (from, keeps, o) (c, cs) (fj, fs) =
    walk (x ∷ ns) got last (x ∷ []) ns (0 + length x.member.stages) x.member.to refl longer cs o
    (each (x ∷ ns) got last x.finds x.member.parts (came_by x.member.from) (went_by last x.member.to) none
    (λ r own. record { before = []; node = x; after = ns; whole = refl; counted = sym c; own = own }) fj)
    fs
  where
    longer : length (all_parts (members (x ∷ []))) ≡ 0 + length x.member.stages
    longer =
        let h = parts-longer [] x in
        let n = kept-length x.member keeps in
        omega (arith, h, n)

    none : All (IsCaused (x ∷ ns)) (came_by x.member.from)
    none = subst (λ (q : Way). All (IsCaused (x ∷ ns)) (came_by q)) (sym from) (All-nil (IsCaused (x ∷ ns)))

-- and so it is one for which the run may be rejected

module _ (taken : Told ℕ) (ns : List Node) (got : Told ℕ) (last : List Plain) (h : IsJoined taken ns got last) where
  some-finds : (finds : Finds → Bool) (r : Plain) (c : IsCaused ns r) → finds c.node.finds ≡ true → SomeFinds finds ns
  some-finds finds r c e = record { before = c.before; node = c.node; after = c.after; whole = c.whole; found = e }

  ends-badly : (index code place : ℕ) (r : Plain) (c : IsCaused ns r) → IsOwnStage c.node.finds.before c.node.member.parts index code place → EndsBadly taken ns index code place
  ends-badly index code place r c s = record {
    numbered = let n = s.from in omega (arith, n);
    bad =
        let front = all_parts (members c.before) in
        let own = c.node.member.parts in
        let rest = all_parts (members c.after) in
        let here : found (own ++ rest) (index - (c.node.finds.before + 1)) ≡ Bad code place = found-front own rest (index - (c.node.finds.before + 1)) code place s.bad in
        let place-is : length front + (index - (c.node.finds.before + 1)) ≡ index - 1 = let n = s.from in let m = c.counted in omega (arith, n, m) in
        let parts : all_parts (members ns) ≡ front ++ (own ++ rest) = ap (λ q. all_parts (members q)) c.whole ∙ parts-append c.before (c.node ∷ c.after) in
        chain_stage taken (members ns) got (index - 1) code place h.known h.chained
        (ap (λ q. found q (index - 1)) parts ∙ found-behind front (own ++ rest) (index - 1) (index - (c.node.finds.before + 1)) (sym place-is) ∙ here);
  }

  rejects : (r : Plain) → IsCaused ns r → RejectsFor taken ns r
  rejects (FaultReason Read) c = some-finds (λ f. f.read_failed) (FaultReason Read) c c.own
  rejects (FaultReason TooMuch) c = some-finds (λ f. f.too_much) (FaultReason TooMuch) c c.own
  rejects (FaultReason Write) c = some-finds (λ f. f.write_failed) (FaultReason Write) c c.own
  rejects (FaultReason (Stage index code place)) c = ends-badly index code place (FaultReason (Stage index code place)) c c.own
  rejects (FaultReason Abort) c = some-finds (λ f. f.abort_reached) (FaultReason Abort) c c.own
  rejects (FaultReason NoMemory) c = some-finds (λ f. f.memory_wanting) (FaultReason NoMemory) c c.own
  rejects (FaultReason TypeError) c = absurd c.own
  rejects (FaultReason RangeError) c = absurd c.own
  rejects (FaultReason DataClone) c = absurd c.own
  rejects (FaultReason (User k)) c = absurd c.own
  rejects Undefined c = absurd c.own
  rejects (Number k) c = absurd c.own
  rejects (Pair t) c = absurd c.own
  rejects (Local k) c = absurd c.own

  all-reject : (rs : List Plain) → All (IsCaused ns) rs → All (RejectsFor taken ns) rs
  all-reject [] a = All-nil (RejectsFor taken ns)
  all-reject (r ∷ rs) a = All-cons (RejectsFor taken ns) r rs (rejects r (All-head (IsCaused ns) r rs a)) (all-reject rs (All-tail (IsCaused ns) r rs a))

  pub ends : JoinedEnds taken ns got last
  ends = record {
    first = chain_got taken (members ns) got h.known h.chained;
    finished = λ c. let d = chain_done taken (members ns) got h.known h.chained c in record { all = d.0; ends_well = d.1 };
    causes = all-reject last (caused taken ns got last h.chained h.counted h.caused);
  }

pub each_joined_run_ends : EachJoinedRunEnds
each_joined_run_ends taken ns got last h = ends taken ns got last h
