-- One stage of a node is asked: by what lies at each place the parts go on.
use Rattle.std.proofs.Common.{◌≡◌, ◌≢◌, ◌+◌, ◌≤◌, ◌<◌, ℕ, zero, suc, List, [], ◌∷◌, ◌++◌, length, map, Option, Some, None, refl, sym, ap, ◌∙◌, subst, length-append, arith}
use Rattle.std.proofs.lemmas.List.{length-map, map-append}
use Rattle.ws_flow.specs.declared.plan.Ending.{Ending}
use Rattle.ws_flow.specs.declared.plan.Ending.TheVariants.{Fine, Bad}
use Rattle.ws_node.specs.Shape.{Shape, count_in}
use Rattle.ws_flow.specs.declared.plan.Stage.{Stage}
use Rattle.ws_flow.specs.Machines.{Kept, Machine}
use Rattle.ws_flow.specs.Parts.{AtWork, Live, Over, nothing_told, Goes}
use Rattle.ws_flow.specs.Stages.{machine, machines}
use Rattle.ws_flow.specs.Steps.{before_work, parts_at, behind_of, work_after, coming_from}
use Rattle.ws_flow.specs.Told.{Open, Closed, Lost, Told, told, then_told, IsShortOf}
use Rattle.ws_flow.proofs.Events.{Rests, rests}
use Rattle.ws_flow.proofs.Members.{machines-append}
use Rattle.ws_flow.proofs.Steps.{behind_at, goes_pushes, goes_flushes, goes_stops}
use Rattle.ws_flow.proofs.Told.{then_empty, short_refl, short_as}
use Rattle.ws_stages.specs.State.{State, IsLive, kept_in, after_push}
use Rattle.ws_realm.specs.declared.realm.Why.{Why}
use Rattle.ws_node.specs.declared.node.Input.{Input}
use Rattle.ws_node.specs.declared.node.Node.{Node}
use Rattle.ws_node.specs.Node.{coming, coming_behind, coming_by, in_bytes, lies_in, lying, lying_by, nothing_yet, parts, stages_in, works_in}
use Rattle.ws_chain_laws.specs.Chain.{behind_at as lies_on}
use Rattle.ws_node.proofs.Handing.{lies_to}

-- works and stages of a list of states

abbrev pub works : List State → List AtWork
works ws = map (λ w. w.work) ws

abbrev pub stages : List State → List Stage
stages ws = map (λ w. w.stage) ws

pub works-at : (before after : List State) (w : State) → works (before ++ w ∷ after) ≡ works before ++ w.work ∷ works after
works-at before after w = map-append (λ w. w.work) before (w ∷ after)

pub stages-at : (before after : List State) (w : State) → stages (before ++ w ∷ after) ≡ stages before ++ w.stage ∷ stages after
stages-at before after w = map-append (λ w. w.stage) before (w ∷ after)

machines-at : (ss ts : List Stage) (s : Stage) → machines (ss ++ s ∷ ts) ≡ machines ss ++ machine s ∷ machines ts
machines-at ss ts s = machines-append ss (s ∷ ts)

length-machines : (ss : List Stage) → length (machines ss) ≡ length ss
length-machines [] = refl
length-machines (s ∷ ss) = ap suc (length-machines ss)

pub same-length : (ws : List State) → length (machines (stages ws)) ≡ length (works ws)
same-length ws = length-machines (stages ws) ∙ (length-map ws (λ w. w.stage) ∙ sym (length-map ws (λ w. w.work)))

pub live-is : (w : AtWork) → IsLive w → w ≡ Live (kept_in w)
live-is (Live k) l = refl
live-is (Over e) l = absurd l

live-coming : (w : AtWork) → IsLive w → coming_from w ≡ nothing_yet
live-coming (Live k) l = refl
live-coming (Over e) l = absurd l

after-is : (e : Ending) (k : Kept) → after_push e k ≡ work_after e k
after-is Fine k = refl
after-is (Bad c p) k = refl

-- what comes behind a stage

coming-there : (before after : List State) (w : State) → coming_behind (length before) (before ++ w ∷ after) ≡ coming_from w.work
coming-there [] after w = refl
coming-there (u ∷ before) after w = coming-there before after w

coming-elsewhere : (before after : List State) (w v : State) (k : ℕ) → k ≢ length before → coming_behind k (before ++ v ∷ after) ≡ coming_behind k (before ++ w ∷ after)
coming-elsewhere [] after w v zero other = absurd (other refl)
coming-elsewhere [] after w v (suc k) other = refl
coming-elsewhere (u ∷ before) after w v zero other = refl
coming-elsewhere (u ∷ before) after w v (suc k) other = coming-elsewhere before after w v k (λ e. other (ap suc e))

coming-by : (i : Input) (before after : List State) (w v : State) (k : ℕ) → k ≢ suc (length before) → coming_by i (before ++ v ∷ after) k ≡ coming_by i (before ++ w ∷ after) k
coming-by i before after w v zero other = refl
coming-by i before after w v (suc k) other = coming-elsewhere before after w v k (λ e. other (ap suc e))

-- where the realm goes on, what comes behind is behind what lies there
lies-then : (a : Node) (k : ℕ) (t : Told (List ℕ)) → a.core.stopped ≡ None → lies_to t a k ≡ then_told (lies_to nothing_yet a k) t
lies-then a k t goes =
    let x : Told (List ℕ) = in_bytes (lies_on k a.core.realm.slots) in
    subst (λ (w : Option Why). lying_by w (then_told x t) ≡ then_told (lying_by w (then_told x nothing_yet)) t) (sym goes) (ap (λ (q : Told (List ℕ)). then_told q t) (sym (then_empty x)))

-- no work is asked, and what lies before one that is over doesn't matter

over-is : (w : AtWork) → (IsLive w → ⊥) → (e : Ending) × (w ≡ Over e)
over-is (Live k) h = absurd (h tt)
over-is (Over e) h = (e, refl)

before-short : (w : AtWork) (x y : Told (List ℕ)) → IsShortOf y x → IsShortOf (before_work w y) (before_work w x)
before-short (Live k) x y h = h
before-short (Over e) x y h = short_refl (told [] Lost)

rests-all : (ms : List Machine) (k : ℕ) (ws : List AtWork) (x y : ℕ → Told (List ℕ)) → length ms ≡ length ws → ((i : ℕ) → k ≤ i → i < k + length ws → IsShortOf (y i) (x i))
    → Rests ms (parts_at k ws x) (parts_at k ws y)
rests-all [] k [] x y l h = tt
rests-all (m ∷ ms) k (w ∷ ws) x y l h =
    (refl, before-short w (x k) (y k) (h k (omega arith) (omega arith)), rests-all ms (suc k) ws x y (omega arith) (λ i p q. h i (omega arith) (omega arith)))
rests-all [] k (w ∷ ws) x y l h = grind arith
rests-all (m ∷ ms) k [] x y l h = grind arith

rests-over : (ms : List Machine) (k : ℕ) (before after : List AtWork) (e : Ending) (x y : ℕ → Told (List ℕ)) (j : ℕ) → j ≡ k + length before → length ms ≡ length before + suc (length after)
    → ((i : ℕ) → k ≤ i → i ≤ k + (length before + suc (length after)) → i ≢ j → IsShortOf (y i) (x i)) → Rests ms (parts_at k (before ++ Over e ∷ after) x) (parts_at k (before ++ Over e ∷ after) y)
rests-over (m ∷ ms) k [] after e x y j is l h =
    (refl, short_refl (told [] Lost), rests-all ms (suc k) after x y (omega arith) (λ i p q. h i (omega arith) (omega arith) (λ f. omega arith)))
rests-over (m ∷ ms) k (w ∷ before) after e x y j is l h =
    (refl, before-short w (x k) (y k) (h k (omega arith) (omega arith) (λ f. omega arith)), rests-over ms (suc k) before after e x y j (omega arith) (omega arith) (λ i p q. h i (omega arith) (omega arith)))
rests-over [] k [] after e x y j is l h = grind arith
rests-over [] k (w ∷ before) after e x y j is l h = grind arith

goes-over : (ms : List Machine) (before after : List AtWork) (e : Ending) (x y : ℕ → Told (List ℕ)) → length ms ≡ length before + suc (length after)
    → ((i : ℕ) → i ≤ length before + suc (length after) → i ≢ length before → IsShortOf (y i) (x i))
    → Goes ms nothing_told (parts_at 0 (before ++ Over e ∷ after) x) (behind_of 0 (before ++ Over e ∷ after) x) (parts_at 0 (before ++ Over e ∷ after) y) (behind_of 0 (before ++ Over e ∷ after) y)
goes-over ms before after e x y l h =
    let ws = before ++ Over e ∷ after in
    let n = length-append before (Over e ∷ after) in
    rests ms (parts_at 0 ws x) (parts_at 0 ws y) (behind_of 0 ws x) (behind_of 0 ws y)
    (rests-over ms 0 before after e x y (length before) (omega arith) l (λ i p q f. h i (omega arith) f))
    (subst (λ (q : Told (List ℕ)). IsShortOf q (behind_of 0 ws x)) (sym (behind_at 0 ws y))
    (subst (λ (q : Told (List ℕ)). IsShortOf (y (0 + length ws)) q) (sym (behind_at 0 ws x)) (h (0 + length ws) (omega arith) (λ f. omega arith))))

-- a node of this shape, one of whose stages is at this place
module _ (shape : Shape) (a : Node) (before after : List State) (w : State) (goes : a.core.stopped ≡ None) (of : stages_in a.core ≡ shape.stages) (whole : a.core.stages.items ≡ before ++ w ∷ after) where
  pub count-is : count_in shape ≡ length before + suc (length after)
  count-is = ap length (sym of) ∙ (length-map a.core.stages.items (λ w. w.stage) ∙ (ap length whole ∙ length-append before (w ∷ after)))

  -- the machines, the works before and those behind
  machines-are : machines (stages_in a.core) ≡ machines (stages before) ++ machine w.stage ∷ machines (stages after)
  machines-are = ap (λ q. machines (stages q)) whole ∙ (ap machines (stages-at before after w) ∙ machines-at (stages before) (stages after) w.stage)

  pub works-are : works_in a.core ≡ works before ++ w.work ∷ works after
  works-are = ap works whole ∙ works-at before after w

  length-works : length (works before) ≡ length before
  length-works = length-map before (λ w. w.work)

  length-after : length (works after) ≡ length after
  length-after = length-map after (λ w. w.work)

  module _ (b : Node) (v : State) (same : b.entrance.input ≡ a.entrance.input) (has : b.core.stages.items ≡ before ++ v ∷ after) where
    pub coming-same : (k : ℕ) → k ≢ suc (length before) → coming b k ≡ coming a k
    coming-same k other =
        ap (λ (i : Input). coming_by i b.core.stages.items k) same ∙ (ap (λ (q : List State). coming_by a.entrance.input q k) has
        ∙ (coming-by a.entrance.input before after w v k other ∙ ap (λ (q : List State). coming_by a.entrance.input q k) (sym whole)))

    pub coming-next : coming b (suc (length before)) ≡ coming_from v.work
    coming-next = ap (λ (q : List State). coming_behind (length before) q) has ∙ coming-there before after v

    was-coming : IsLive w.work → coming a (suc (length before)) ≡ nothing_yet
    was-coming live = ap (λ (q : List State). coming_behind (length before) q) whole ∙ (coming-there before after w ∙ live-coming w.work live)

    lies-same : ((t : Told (List ℕ)) (k : ℕ) → k ≤ count_in shape → k ≢ length before → k ≢ suc (length before) → IsShortOf (lies_to t b k) (lies_to t a k))
        → (k : ℕ) → k ≤ 0 + suc (length (works before) + length (works after)) → k ≢ length before → k ≢ suc (length before) → IsShortOf (lies_in b k) (lies_in a k)
    lies-same h k less p q =
        let n = count-is in
        let f = length-works in
        let g = length-after in
        subst (λ (t : Told (List ℕ)). IsShortOf (lies_to (coming b k) b k) (lies_to t a k)) (coming-same k q) (h (coming b k) k (omega arith) p q)

    lies-heard : (heard : Told (List ℕ)) → ((t : Told (List ℕ)) → IsShortOf (then_told heard (lies_to t b (length before))) (lies_to t a (length before)))
        → IsShortOf (then_told heard (lies_in b (length before))) (lies_in a (length before))
    lies-heard heard h =
        subst (λ (t : Told (List ℕ)). IsShortOf (then_told heard (lies_to (coming b (length before)) b (length before))) (lies_to t a (length before)))
        (coming-same (length before) (λ e. omega arith)) (h (coming b (length before)))

    lies-next : (chunks : List (List ℕ)) → IsLive w.work
        → ((t : Told (List ℕ)) → IsShortOf (lies_to t b (suc (length before))) (lies_to (then_told (told chunks Open) t) a (suc (length before))))
        → IsShortOf (lies_in b (suc (length before))) (then_told (lies_in a (suc (length before))) (then_told (told chunks Open) (coming_from v.work)))
    lies-next chunks live h =
        let j = suc (length before) in
        let now : IsShortOf (lies_in b j) (lies_to (then_told (told chunks Open) (coming_from v.work)) a j) =
        subst (λ (t : Told (List ℕ)). IsShortOf (lies_to (coming b j) b j) (lies_to (then_told (told chunks Open) t) a j)) coming-next (h (coming b j)) in
        subst (λ (t : Told (List ℕ)). IsShortOf (lies_in b j) (then_told (lies_to t a j) (then_told (told chunks Open) (coming_from v.work)))) (sym (was-coming live))
        (short_as _ _ _ (lies-then a j (then_told (told chunks Open) (coming_from v.work)) goes) now)

    -- the parts go on as they do over these lists
    as-parts : (ws vs : List AtWork) → works_in a.core ≡ ws → works_in b.core ≡ vs
        → Goes (machines (stages before) ++ machine w.stage ∷ machines (stages after)) nothing_yet (parts_at 0 ws (lies_in a)) (behind_of 0 ws (lies_in a)) (parts_at 0 vs (lies_in b)) (behind_of 0 vs (lies_in b))
        → Goes (machines (stages_in a.core)) nothing_yet (parts a) (lying a) (parts b) (lying b)
    as-parts ws vs e f g = rw (machines-are, e, f) g

    live-works : IsLive w.work → works_in a.core ≡ works before ++ Live (kept_in w.work) ∷ works after
    live-works live = works-are ∙ ap (λ (q : AtWork). works before ++ q ∷ works after) (live-is w.work live)

    works-now : (x : AtWork) → v.work ≡ x → works_in b.core ≡ works before ++ x ∷ works after
    works-now x e = ap works has ∙ (works-at before after v ∙ ap (λ (q : AtWork). works before ++ q ∷ works after) e)

    -- what was told at the stage's place, behind it, and elsewhere
    pub record Stepped (heard : Told (List ℕ)) (chunks : List (List ℕ)) : Type 0 where
      pub there : (t : Told (List ℕ)) → IsShortOf (then_told heard (lies_to t b (length before))) (lies_to t a (length before))
      pub next : (t : Told (List ℕ)) → IsShortOf (lies_to t b (suc (length before))) (lies_to (then_told (told chunks Open) t) a (suc (length before)))
      pub elsewhere : (t : Told (List ℕ)) (k : ℕ) → k ≤ count_in shape → k ≢ length before → k ≢ suc (length before) → IsShortOf (lies_to t b k) (lies_to t a k)

    -- it was pushed
    pub pushed-goes : (piece : List ℕ) (live : IsLive w.work) → let by = (machine w.stage).push (kept_in w.work) piece in
        v.work ≡ after_push by.ending by.kept → Stepped (told (piece ∷ []) Open) by.chunks → Goes (machines (stages_in a.core)) nothing_yet (parts a) (lying a) (parts b) (lying b)
    pushed-goes piece live is s =
        let kept = kept_in w.work in
        let by = (machine w.stage).push kept piece in
        let now : v.work ≡ work_after by.ending by.kept = is ∙ after-is by.ending by.kept in
        as-parts (works before ++ Live kept ∷ works after) (works before ++ work_after by.ending by.kept ∷ works after) (live-works live) (works-now (work_after by.ending by.kept) now)
        (goes_pushes (machines (stages before)) (machine w.stage) (machines (stages after)) 0 (works before) kept piece (works after) (lies_in a) (lies_in b) (length before)
        (let f = length-works in omega arith) (same-length before) (same-length after) (lies-heard (told (piece ∷ []) Open) s.there)
        (subst (λ (q : AtWork). IsShortOf (lies_in b (suc (length before))) (then_told (lies_in a (suc (length before))) (then_told (told by.chunks Open) (coming_from q)))) now (lies-next by.chunks live s.next))
        (λ k z less p q. lies-same s.elsewhere k less p q))

    -- it was flushed
    pub flushed-goes : (live : IsLive w.work) → let by = (machine w.stage).flush (kept_in w.work) in
        v.work ≡ Over by.ending → Stepped (told [] Closed) by.chunks → Goes (machines (stages_in a.core)) nothing_yet (parts a) (lying a) (parts b) (lying b)
    flushed-goes live is s =
        let kept = kept_in w.work in
        let by = (machine w.stage).flush kept in
        as-parts (works before ++ Live kept ∷ works after) (works before ++ Over by.ending ∷ works after) (live-works live) (works-now (Over by.ending) is)
        (goes_flushes (machines (stages before)) (machine w.stage) (machines (stages after)) 0 (works before) kept (works after) (lies_in a) (lies_in b) (lies_in b (length before)) (length before)
        (let f = length-works in omega arith) (same-length before) (same-length after) (lies-heard (told [] Closed) s.there)
        (subst (λ (q : AtWork). IsShortOf (lies_in b (suc (length before))) (then_told (lies_in a (suc (length before))) (then_told (told by.chunks Open) (coming_from q)))) is (lies-next by.chunks live s.next))
        (λ k z less p q. lies-same s.elsewhere k less p q))

    -- it ended as the realm stopped
    pub stopped-goes : (why : Why) → IsLive w.work → v.work ≡ Over Fine → b.core.stopped ≡ Some why → Goes (machines (stages_in a.core)) nothing_yet (parts a) (lying a) (parts b) (lying b)
    stopped-goes why live is stopped =
        let lost : (k : ℕ) → lies_in b k ≡ told [] Lost = λ k. ap (λ (q : Option Why). lying_by q (lies_in (record b { core = record b.core { stopped = None } }) k)) stopped in
        let none : (k : ℕ) (x : Told (List ℕ)) → IsShortOf (lies_in b k) x = λ k x. subst (λ (q : Told (List ℕ)). IsShortOf q x) (sym (lost k)) (x.items, refl) in
        as-parts (works before ++ Live (kept_in w.work) ∷ works after) (works before ++ Over Fine ∷ works after) (live-works live) (works-now (Over Fine) is)
        (goes_stops (machines (stages before)) (machine w.stage) (machines (stages after)) 0 (works before) (kept_in w.work) (works after) (lies_in a) (lies_in b) (length before)
        (let f = length-works in omega arith) (same-length before) (same-length after) (none (suc (length before)) _) (λ k z less p q. none k (lies_in a k)))

    -- nor is any asked where that at this place is over
    pub over-goes : (IsLive w.work → ⊥) → v.work ≡ w.work → ((k : ℕ) → k ≤ count_in shape → k ≢ length before → IsShortOf (lies_in b k) (lies_in a k))
        → Goes (machines (stages_in a.core)) nothing_yet (parts a) (lying a) (parts b) (lying b)
    over-goes not_live is h =
        let over = over-is w.work not_live in
        let n = count-is in
        let f = length-works in
        let g = length-after in
        let l = length-machines (stages before) in
        as-parts (works before ++ Over over.0 ∷ works after) (works before ++ Over over.0 ∷ works after)
        (works-are ∙ ap (λ (q : AtWork). works before ++ q ∷ works after) over.1) (works-now (Over over.0) (is ∙ over.1))
        (goes-over (machines (stages before) ++ machine w.stage ∷ machines (stages after)) (works before) (works after) over.0 (lies_in a) (lies_in b)
        (length-append (machines (stages before)) (machine w.stage ∷ machines (stages after)) ∙ (let p = same-length before in let q = same-length after in omega arith))
        (λ k less other. h k (omega arith) (λ e. other (e ∙ sym f))))
