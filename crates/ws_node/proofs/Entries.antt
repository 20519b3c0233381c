-- Runs that are longer by one entry.
use Rattle.std.proofs.Common.{◌≡◌, false, List, [], ◌∷◌, ◌++◌, Option, Some, None, refl, sym, ap, ◌∙◌, subst, append_assoc, arith}
use Rattle.std.specs.Prelude.{slice_get}
use Rattle.ws_value.specs.declared.ids.HostId.{HostId}
use Rattle.ws_value.specs.declared.ids.StreamId.{StreamId}
use Rattle.ws_flow.specs.declared.plan.Ending.TheVariants.{Fine}
use Rattle.ws_flow.specs.Parts.{Over}
use Rattle.ws_stages.specs.State.{State}
use Rattle.ws_steps.specs.declared.calls.HostCall.{HostCall}
use Rattle.ws_steps.specs.declared.calls.HostCall.TheVariants.{Close, Flush}
use Rattle.ws_steps.specs.Run.{Entry, Called, Worked, Heard, run, step}
use Rattle.ws_steps.specs.Slots.{Slots}
use Rattle.ws_end_laws.proofs.hosts.Called.{place-grows, each_event_is_its_call}
use Rattle.ws_end_laws.specs.hosts.HostCalls.{called, settles_well}
use Rattle.ws_reason_laws.specs.Reasons.{failures, failure_of}
use Rattle.ws_clone_laws.specs.Cloning.{AllBringClones}
use Rattle.ws_node.specs.declared.node.Output.{Output}
use Rattle.ws_node.specs.declared.node.Output.TheVariants as output
use Rattle.ws_node.specs.Fair.{AllBringFair}
use Rattle.ws_node.specs.Moves.{IsAt}
use Rattle.ws_node.specs.Node.{feeds_edge}
use Rattle.ws_node.specs.Past.{ClosesFinished, FlushesFine, IsPull}

pub run-snoc : (xs : List Entry) (x : Entry) (s : Slots) → run (xs ++ x ∷ []) s ≡ step (run xs s) x
run-snoc [] x s = refl
run-snoc (y ∷ ys) x s = run-snoc ys x (step s y)

pub failures-snoc : (xs : List Entry) (x : Entry) → failures (xs ++ x ∷ []) ≡ failures xs ++ failures (x ∷ [])
failures-snoc [] x = refl
failures-snoc (Called c ∷ ys) x = ap (λ q. failure_of c ++ q) (failures-snoc ys x) ∙ sym (append_assoc (failure_of c) (failures ys) (failures (x ∷ [])))
failures-snoc (Worked ∷ ys) x = failures-snoc ys x
failures-snoc (Heard ∷ ys) x = failures-snoc ys x

pub fair-append : (xs ys : List Entry) → AllBringFair xs → AllBringFair ys → AllBringFair (xs ++ ys)
fair-append [] ys a b = b
fair-append (Called c ∷ xs) ys a b = (a.0, fair-append xs ys a.1 b)
fair-append (Worked ∷ xs) ys a b = fair-append xs ys a b
fair-append (Heard ∷ xs) ys a b = fair-append xs ys a b

pub fair-last : (xs ys : List Entry) → AllBringFair (xs ++ ys) → AllBringFair ys
fair-last [] ys a = a
fair-last (Called c ∷ xs) ys a = fair-last xs ys a.1
fair-last (Worked ∷ xs) ys a = fair-last xs ys a
fair-last (Heard ∷ xs) ys a = fair-last xs ys a

pub clones-last : (xs ys : List Entry) → AllBringClones (xs ++ ys) → AllBringClones ys
clones-last [] ys a = a
clones-last (Called c ∷ xs) ys a = clones-last xs ys a.1
clones-last (Worked ∷ xs) ys a = clones-last xs ys a
clones-last (Heard ∷ xs) ys a = clones-last xs ys a

-- a call of the host has the same number in a longer past
pub called-longer : (entries more : List Entry) (id : HostId) (call : HostCall) → slice_get (called entries) id.0 ≡ Some call
    → slice_get (called (entries ++ more)) id.0 ≡ Some call
called-longer entries more id call h =
    let g = (each_event_is_its_call entries).grows more in
    subst (λ q. slice_get q id.0 ≡ Some call) (sym g.1) (place-grows (called entries) g.0 id.0 call h)

pub pull-longer : (entries more : List Entry) (asked : Option HostId) → IsPull entries asked → IsPull (entries ++ more) asked
pull-longer entries more None h = tt
pull-longer entries more (Some id) (i, h) = (i, called-longer entries more id _ h)

-- a list that ends with x and has y at some place: that is the last, or an earlier one
pub data Splits {A : Type 0} (xs ys zs : List A) (x y : A) : Type 0 where
  AtEnd : xs ≡ ys → x ≡ y → Splits xs ys zs x y
  Before : (ws : List A) → xs ≡ ys ++ y ∷ ws → Splits xs ys zs x y

heads : {A : Type 0} (x y : A) (xs ys : List A) → x ∷ xs ≡ y ∷ ys → (x ≡ y) × (xs ≡ ys)
heads x y xs ys h = grind arith

none_longer : {A : Type 0} (ys zs : List A) (y : A) → [] ≡ ys ++ y ∷ zs → ⊥
none_longer [] zs y h = absurd (cc)
none_longer (w ∷ ys) zs y h = absurd (cc)

splits-under : {A : Type 0} (w : A) (xs ys zs : List A) (x y : A) → Splits xs ys zs x y → Splits (w ∷ xs) (w ∷ ys) zs x y
splits-under w xs ys zs x y (AtEnd e f) = AtEnd (ap (λ q. w ∷ q) e) f
splits-under w xs ys zs x y (Before ws e) = Before ws (ap (λ q. w ∷ q) e)

pub splits : {A : Type 0} (xs ys zs : List A) (x y : A) → xs ++ x ∷ [] ≡ ys ++ y ∷ zs → Splits xs ys zs x y
splits [] [] zs x y h = AtEnd refl (heads x y [] zs h).0
splits [] (w ∷ ys) zs x y h = absurd (none_longer ys zs y (heads x w [] (ys ++ y ∷ zs) h).1)
splits (v ∷ xs) [] zs x y h = let e = heads v y (xs ++ x ∷ []) zs h in Before xs (ap (λ q. q ∷ xs) e.0)
splits (v ∷ xs) (w ∷ ys) zs x y h =
    let e = heads v w (xs ++ x ∷ []) (ys ++ y ∷ zs) h in
    subst (λ q. Splits (v ∷ xs) (q ∷ ys) zs x y) e.0 (splits-under v xs ys zs x y (splits xs ys zs x y e.1))

-- an entry by which no host call of this kind is settled well unless something holds
abbrev MaySettle : List Entry → Entry → HostCall → Type 0 → Type 0
MaySettle entries x call P = (id : HostId) → x ≡ Called (settles_well id) → slice_get (called entries) id.0 ≡ Some call → P

settled-by : (entries before after : List Entry) (x : Entry) (id : HostId) (call : HostCall) (P : Type 0)
    → ((ws : List Entry) → entries ≡ before ++ Called (settles_well id) ∷ ws → slice_get (called before) id.0 ≡ Some call → P) → MaySettle entries x call P
    → Splits entries before after x (Called (settles_well id)) → slice_get (called before) id.0 ≡ Some call → P
settled-by entries before after x id call P k may (AtEnd e f) c = may id f (subst (λ q. slice_get (called q) id.0 ≡ Some call) (sym e) c)
settled-by entries before after x id call P k may (Before ws e) c = k ws e c

-- by which no close is settled well but one of a finished output
abbrev pub MayClose : StreamId → List Entry → Entry → Output → Type 0
MayClose sink entries x o = (id : HostId) → x ≡ Called (settles_well id) → slice_get (called entries) id.0 ≡ Some (Close sink) → feeds_edge o ≡ false → o ≡ output.Finished

pub closes-snoc : (sink : StreamId) (entries : List Entry) (x : Entry) (o : Output) → ClosesFinished sink entries o → MayClose sink entries x o
    → ClosesFinished sink (entries ++ x ∷ []) o
closes-snoc sink entries x o k may before after id e c sunk =
    settled-by entries before after x id (Close sink) (o ≡ output.Finished) (λ ws f g. k before ws id f g sunk) (λ i f g. may i f g sunk)
    (splits entries before after x (Called (settles_well id)) e) c

-- and no flush but one of a stage that ended fine
abbrev pub MayFlush : List Entry → Entry → List State → Type 0
MayFlush entries x stages =
    (id : HostId) (i : StreamId) → x ≡ Called (settles_well id) → slice_get (called entries) id.0 ≡ Some (Flush i)
    → (first last : List State) (w : State) → IsAt i stages first w last → w.work ≡ Over Fine

pub flushes-snoc : (entries : List Entry) (x : Entry) (stages : List State) → FlushesFine entries stages → MayFlush entries x stages → FlushesFine (entries ++ x ∷ []) stages
flushes-snoc entries x stages k may before after id i e c first last w at =
    settled-by entries before after x id (Flush i) (w.work ≡ Over Fine) (λ ws f g. k before ws id i f g first last w at) (λ id f g. may id i f g first last w at)
    (splits entries before after x (Called (settles_well id)) e) c
