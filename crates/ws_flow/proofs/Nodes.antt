use Rattle.std.proofs.Common.{◌≡◌, ◌≢◌, ℕ, zero, suc, List, [], ◌∷◌, ◌++◌, sym, ap, ◌∙◌, subst, arith}
use Rattle.ws_flow.specs.Machines.{Machine, through, all_through, ending, EndsWell}
use Rattle.ws_flow.specs.Parts.{Part, nothing_told, fresh, Goes, Flows, found}
use Rattle.ws_flow.specs.Told.{Mark, Open, Closed, Broken, Lost, Told, told, then_told, Begins, IsBefore}
use Rattle.ws_flow.proofs.Chain.{flows_before}
use Rattle.ws_flow.proofs.Endings.{ending_stays, flows_found, closed_all}
use Rattle.ws_flow.proofs.Through.{all_before, all_append}
use Rattle.ws_flow.proofs.Told.{before_refl, before_trans, before_then}
use Rattle.ws_flow.specs.declared.plan.Ending.TheVariants.{Fine, Bad}
use Rattle.ws_flow.specs.declared.plan.Ending.{Ending}

-- a node as it ended
pub record Node : Type 0 where
  pub machines : List Machine
  pub received : Told (List ℕ)
  pub parts : List Part
  pub sent : Told (List ℕ)
  pub behind : Told (List ℕ)

abbrev pub plan_of : List Node → List Machine
plan_of [] = []
plan_of (n ∷ ns) = n.machines ++ plan_of ns

abbrev pub parts_of : List Node → List Part
parts_of [] = []
parts_of (n ∷ ns) = n.parts ++ parts_of ns

-- from node to node: what a node received is before what the one before it sent
abbrev pub Linked : Told (List ℕ) → List Node → Told (List ℕ) → Type 0
Linked x [] got = IsBefore got x
Linked x (n ∷ ns) got = (IsBefore n.received x) × (Flows n.machines n.received n.parts (then_told n.sent n.behind)) × (Linked n.sent ns got)

sent_before : (n : Node) (x : Told (List ℕ)) → IsBefore n.received x → Flows n.machines n.received n.parts (then_told n.sent n.behind) → IsBefore n.sent (all_through n.machines x)
sent_before n x b f = before_trans n.sent (then_told n.sent n.behind) (all_through n.machines x) (before_then n.sent n.behind)
    (before_trans (then_told n.sent n.behind) (all_through n.machines n.received) (all_through n.machines x) (flows_before n.machines n.received n.parts (then_told n.sent n.behind) f) (all_before n.machines n.received x b))

-- along the chain
linked_before : (x y : Told (List ℕ)) (ns : List Node) (got : Told (List ℕ)) → IsBefore x y → Linked x ns got → IsBefore got (all_through (plan_of ns) y)
linked_before x y [] got b l = before_trans got x y l b
linked_before x y (n ∷ ns) got b (h, f, l) =
    subst (λ q. IsBefore got q) (sym (all_append n.machines (plan_of ns) y))
    (linked_before n.sent (all_through n.machines y) ns got (sent_before n y (before_trans n.received x y h b) f) l)

pub got_before : (x : Told (List ℕ)) (ns : List Node) (got : Told (List ℕ)) → Linked x ns got → IsBefore got (all_through (plan_of ns) x)
got_before x ns got = linked_before x x ns got (before_refl x)

-- the ending of a stage behind a node's stages, and of a stage of the node
ending_joined : (ms : List Machine) (y x : Told (List ℕ)) (ps : List Part) (p0 : List Part) (o out : Told (List ℕ)) (ns : List Machine) (rest : List Part) (e : Ending) → Goes ms y p0 o ps out → ((j : ℕ) → found ps j ≡ e → ending ms j x ≡ e) → ((j : ℕ) → found rest j ≡ e → ending ns j (all_through ms x) ≡ e) → (j : ℕ) → found (ps ++ rest) j ≡ e → ending (ms ++ ns) j x ≡ e
ending_joined [] y x [] p0 o out ns rest e g a b j f = b j f
ending_joined [] y x (p ∷ ps) [] o out ns rest e g a b j f = elim g [ ]
ending_joined [] y x (p ∷ ps) (p0 ∷ p1) o out ns rest e g a b j f = elim g [ ]
ending_joined (m ∷ ms) y x [] [] o out ns rest e g a b j f = elim g [ ]
ending_joined (m ∷ ms) y x [] (p0 ∷ p1) o out ns rest e g a b j f = elim g [ ]
ending_joined (m ∷ ms) y x (p ∷ ps) [] o out ns rest e g a b j f = elim g [ ]
ending_joined (m ∷ ms) y x (p ∷ ps) (p0 ∷ p1) o out ns rest e (t, _, _, g) a b zero f = a zero f
ending_joined (m ∷ ms) y x (p ∷ ps) (p0 ∷ p1) o out ns rest e (t, _, _, g) a b (suc j) f = ending_joined ms _ (through m m.start x) ps p1 o out ns rest e g (λ i. a (suc i)) b j f

linked_found : (x y : Told (List ℕ)) (ns : List Node) (got : Told (List ℕ)) (e : Ending) → IsBefore x y → Linked x ns got → e ≢ Fine → (j : ℕ) → found (parts_of ns) j ≡ e → ending (plan_of ns) j y ≡ e
linked_found x y [] got e b l w j f = f
linked_found x y (n ∷ ns) got e b (h, f, l) w j g =
    ending_joined n.machines n.received y n.parts (fresh n.machines) nothing_told (then_told n.sent n.behind) (plan_of ns) (parts_of ns) e f
    (λ i k. ending_stays n.machines i n.received y e (before_trans n.received x y h b) (flows_found n.machines n.received n.parts (then_told n.sent n.behind) i e f k w) w)
    (linked_found n.sent (all_through n.machines y) ns got e (sent_before n y (before_trans n.received x y h b) f) l w)
    j g

-- the status: a Bad that a AtWork of any node found is the ending of its stage over what was taken
pub status_stage : (x : Told (List ℕ)) (ns : List Node) (got : Told (List ℕ)) (j c p : ℕ) → Linked x ns got → found (parts_of ns) j ≡ Bad c p → ending (plan_of ns) j x ≡ Bad c p
status_stage x ns got j c p l f = linked_found x x ns got (Bad c p) (before_refl x) l (λ e. grind arith) j f

-- where the sink was finished, it got all, the input closed and each stage ended fine
pub status_done : (x : Told (List ℕ)) (ns : List Node) (got : Told (List ℕ)) → Linked x ns got → got.mark ≡ Closed → (all_through (plan_of ns) x ≡ got) × EndsWell (plan_of ns) x
status_done x ns got l c =
    let e = closed_same got (all_through (plan_of ns) x) (got_before x ns got l) c in
    let r = closed_all (plan_of ns) x (ap (λ q. q.mark) e ∙ c) in
    (e, r) where
      same_by : (xs : List (List ℕ)) (m : Mark) (y : Told (List ℕ)) → Begins xs m y → m ≡ Closed → y ≡ told xs m
      same_by xs Open y h c = grind arith
      same_by xs Broken y h c = grind arith
      same_by xs Lost y h c = grind arith
      same_by xs Closed y (a, b) c = grind arith

      closed_same : (x y : Told (List ℕ)) → IsBefore x y → x.mark ≡ Closed → y ≡ x
      closed_same x y = same_by x.items x.mark y
