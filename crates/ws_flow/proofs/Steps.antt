-- Each step of works and of what lies between them lets the parts go on.
use Rattle.std.proofs.Common.{◌≡◌, ◌≢◌, ℕ, suc, ◌+◌, ◌<◌, ◌≤◌, List, [], ◌∷◌, ◌++◌, length, refl, sym, ap, ◌∙◌, subst, append-nil, arith}
use Rattle.ws_flow.specs.Machines.{Kept, Machine, asked_mark, mark_of, end_mark, at_end, or_else}
use Rattle.ws_flow.specs.Parts.{AtWork, Live, Over, Part, nothing_told, LiveAsked, made, Goes, found}
use Rattle.ws_flow.specs.Steps.{before_work, parts_at, behind_of, work_after, coming_end, coming_from}
use Rattle.ws_flow.specs.Told.{Open, Closed, Broken, Lost, Told, told, goes_on, then_told, IsFront, IsShortOf}
use Rattle.ws_flow.proofs.Events.{not_asked, nothing_made}
use Rattle.ws_flow.proofs.Told.{then_empty, short_refl, short_as, before_of_short, before_front, front_trans}
use Rattle.ws_flow.specs.declared.plan.Ending.TheVariants.{Fine, Bad}
use Rattle.ws_flow.specs.declared.plan.Ending.{Ending}

pub behind_at : (k : ℕ) (ws : List AtWork) (x : ℕ → Told (List ℕ)) → behind_of k ws x ≡ x (k + length ws)
behind_at k [] x = ap x (let e : k ≡ k + 0 = omega arith in e)
behind_at k (w ∷ ws) x = behind_at (suc k) ws x ∙ ap x (next k (length ws)) where
  next : (k l : ℕ) → suc k + l ≡ k + suc l
  next k l = omega arith

work_short : (w : AtWork) (x y : Told (List ℕ)) → IsShortOf y x → IsShortOf (before_work w y) (before_work w x)
work_short (Live k) x y h = h
work_short (Over e) x y h = short_refl (told [] Lost)

-- a work that isn't asked: what lies before it is short of what lay there and came
kept_place : (m : Machine) (ms : List Machine) (w : AtWork) (x y into : Told (List ℕ)) (ps qs : List Part) (out new : Told (List ℕ)) →
    IsShortOf y (then_told x into) → Goes ms nothing_told ps out qs new →
    Goes (m ∷ ms) into (record { work = w; before = before_work w x } ∷ ps) out (record { work = w; before = before_work w y } ∷ qs) new
kept_place m ms w x y into ps qs out new h g =
    (nothing_told, not_asked m w, lies w h, subst (λ v. Goes ms v ps out qs new) (sym (nothing_made m w)) g) where
      lies : (w : AtWork) → IsShortOf y (then_told x into) → IsShortOf (then_told nothing_told (before_work w y)) (then_told (before_work w x) into)
      lies (Live k) h = h
      lies (Over e) h = short_refl (told [] Lost)

as_nothing : (x y : Told (List ℕ)) → IsShortOf y x → IsShortOf y (then_told x nothing_told)
as_nothing x y h = short_as y x (then_told x nothing_told) (sym (then_empty x)) h

-- no work is asked: what lies at each place is short of what lay there
pub goes_rests_to : (ms : List Machine) (k : ℕ) (ws : List AtWork) (x y : ℕ → Told (List ℕ)) (new : Told (List ℕ)) → length ms ≡ length ws →
    ((j : ℕ) → k ≤ j → j < k + length ws → IsShortOf (y j) (x j)) → IsShortOf new (behind_of k ws x) →
    Goes ms nothing_told (parts_at k ws x) (behind_of k ws x) (parts_at k ws y) new
goes_rests_to [] k [] x y new l h s = as_nothing (x k) new s
goes_rests_to (m ∷ ms) k (w ∷ ws) x y new l h s =
    kept_place m ms w (x k) (y k) nothing_told (parts_at (suc k) ws x) (parts_at (suc k) ws y) (behind_of (suc k) ws x) new
    (as_nothing (x k) (y k) (h k (omega arith) (omega arith)))
    (goes_rests_to ms (suc k) ws x y new (omega arith) (λ j a b. h j (omega arith) (omega arith)) s)
goes_rests_to [] k (w ∷ ws) x y new l h s = grind arith
goes_rests_to (m ∷ ms) k [] x y new l h s = grind arith

-- and some of what lay behind them went out
pub goes_out : (ms : List Machine) (k : ℕ) (ws : List AtWork) (x y : ℕ → Told (List ℕ)) (went : Told (List ℕ)) → length ms ≡ length ws →
    ((j : ℕ) → k ≤ j → j < k + length ws → IsShortOf (y j) (x j)) → IsShortOf (then_told went (y (k + length ws))) (x (k + length ws)) →
    Goes ms nothing_told (parts_at k ws x) (behind_of k ws x) (parts_at k ws y) (then_told went (behind_of k ws y))
goes_out ms k ws x y went l h s = goes_rests_to ms k ws x y (then_told went (behind_of k ws y)) l h
    (subst (λ q. IsShortOf (then_told went q) (behind_of k ws x)) (sym (behind_at k ws y))
    (subst (λ q. IsShortOf (then_told went (y (k + length ws))) q) (sym (behind_at k ws x)) s))

pub goes_rests : (ms : List Machine) (k : ℕ) (ws : List AtWork) (x y : ℕ → Told (List ℕ)) → length ms ≡ length ws →
    ((j : ℕ) → k ≤ j → j ≤ k + length ws → IsShortOf (y j) (x j)) →
    Goes ms nothing_told (parts_at k ws x) (behind_of k ws x) (parts_at k ws y) (behind_of k ws y)
goes_rests ms k ws x y l h = goes_rests_to ms k ws x y (behind_of k ws y) l (λ j a b. h j a (omega arith))
    (subst (λ q. IsShortOf q (behind_of k ws x)) (sym (behind_at k ws y))
    (subst (λ q. IsShortOf (y (k + length ws)) q) (sym (behind_at k ws x)) (h (k + length ws) (omega arith) (omega arith))))

-- more came to the first place
pub goes_enters : (ms : List Machine) (k : ℕ) (ws : List AtWork) (x y : ℕ → Told (List ℕ)) (into : Told (List ℕ)) → length ms ≡ length ws →
    IsShortOf (y k) (then_told (x k) into) → ((j : ℕ) → k < j → j ≤ k + length ws → IsShortOf (y j) (x j)) →
    Goes ms into (parts_at k ws x) (behind_of k ws x) (parts_at k ws y) (behind_of k ws y)
goes_enters [] k [] x y into l s h = s
goes_enters (m ∷ ms) k (w ∷ ws) x y into l s h =
    kept_place m ms w (x k) (y k) into (parts_at (suc k) ws x) (parts_at (suc k) ws y) (behind_of (suc k) ws x) (behind_of (suc k) ws y) s
    (goes_rests ms (suc k) ws x y (omega arith) (λ j a b. h j (omega arith) (omega arith)))
goes_enters [] k (w ∷ ws) x y into l s h = grind arith
goes_enters (m ∷ ms) k [] x y into l s h = grind arith

-- a work was asked, and what it made came to the next place
pub goes_asks : (ms : List Machine) (m : Machine) (ns : List Machine) (k : ℕ) (before : List AtWork) (kept : Kept) (v : AtWork) (after : List AtWork)
    (x y : ℕ → Told (List ℕ)) (t : Told (List ℕ)) (j : ℕ) → j ≡ k + length before → length ms ≡ length before → length ns ≡ length after →
    LiveAsked m kept t.items t.mark v → IsShortOf (then_told t (before_work v (y j))) (x j) →
    IsShortOf (y (suc j)) (then_told (x (suc j)) (made m (Live kept) t)) →
    ((i : ℕ) → k ≤ i → i ≤ k + suc (length before + length after) → i ≢ j → i ≢ suc j → IsShortOf (y i) (x i)) →
    Goes (ms ++ m ∷ ns) nothing_told (parts_at k (before ++ Live kept ∷ after) x) (behind_of k (before ++ Live kept ∷ after) x)
    (parts_at k (before ++ v ∷ after) y) (behind_of k (before ++ v ∷ after) y)
goes_asks [] m ns k [] kept v after x y t j e l r a s n h =
    let same : j ≡ k = omega arith in
    let asked = subst (λ q. IsShortOf (then_told t (before_work v (y q))) (x q)) same s in
    let made_next = subst (λ q. IsShortOf (y (suc q)) (then_told (x (suc q)) (made m (Live kept) t))) same n in (
      t,
      a,
      as_nothing (x k) (then_told t (before_work v (y k))) asked,
      goes_enters ns (suc k) after x y (made m (Live kept) t) r made_next (λ i b c. h i (omega arith) (omega arith) (λ f. omega arith) (λ f. omega arith)),
    )
goes_asks (m0 ∷ ms) m ns k (w ∷ before) kept v after x y t j e l r a s n h =
    kept_place m0 (ms ++ m ∷ ns) w (x k) (y k) nothing_told (parts_at (suc k) (before ++ Live kept ∷ after) x) (parts_at (suc k) (before ++ v ∷ after) y)
    (behind_of (suc k) (before ++ Live kept ∷ after) x) (behind_of (suc k) (before ++ v ∷ after) y)
    (as_nothing (x k) (y k) (h k (omega arith) (omega arith) (λ f. omega arith) (λ f. omega arith)))
    (goes_asks ms m ns (suc k) before kept v after x y t j (omega arith) (omega arith) r a s n (λ i b c. h i (omega arith) (omega arith)))
goes_asks [] m ns k (w ∷ before) kept v after x y t j e l r a s n h = grind arith
goes_asks (m0 ∷ ms) m ns k [] kept v after x y t j e l r a s n h = grind arith

-- nothing happened
pub goes_same : (ms : List Machine) (ps : List Part) (out : Told (List ℕ)) → length ms ≡ length ps → Goes ms nothing_told ps out ps out
goes_same [] [] out l = as_nothing out out (short_refl out)
goes_same (m ∷ ms) (p ∷ ps) out l = (
  nothing_told,
  not_asked m p.work,
  as_nothing p.before p.before (short_refl p.before),
  subst (λ v. Goes ms v ps out ps out) (sym (nothing_made m p.work)) (goes_same ms ps out (omega arith)),
)
goes_same [] (p ∷ ps) out l = grind arith
goes_same (m ∷ ms) [] out l = grind arith

-- a push
pub push_asked : (m : Machine) (k : Kept) (c : List ℕ) → LiveAsked m k (c ∷ []) (asked_mark (m.push k c).ending) (work_after (m.push k c).ending (m.push k c).kept)
push_asked m k c = by (m.push k c).ending refl where
  by : (e : Ending) → e ≡ (m.push k c).ending → LiveAsked m k (c ∷ []) (asked_mark e) (work_after e (m.push k c).kept)
  by Fine h = (refl, ap (λ q. or_else q Fine) (sym h))
  by (Bad n p) h = ap (λ q. Over (or_else q Fine)) h

pub push_made : (m : Machine) (k : Kept) (c : List ℕ) →
    made m (Live k) (told (c ∷ []) (asked_mark (m.push k c).ending)) ≡ then_told (told (m.push k c).chunks Open) (coming_from (work_after (m.push k c).ending (m.push k c).kept))
push_made m k c = by (m.push k c).chunks (m.push k c).ending (m.push k c).kept where
  by : (cs : List (List ℕ)) (e : Ending) (r : Kept) → goes_on cs (mark_of e) (at_end m r (asked_mark e)) ≡ then_told (told cs Open) (coming_from (work_after e r))
  by cs Fine r = refl
  by cs (Bad n p) r = ap (λ q. told q Broken) (sym (append-nil cs))

front_lies : (xs : List (List ℕ)) (z x : Told (List ℕ)) → IsShortOf (then_told (told xs Open) z) x → IsFront xs x.items
front_lies xs z x h =
    let y : Told (List ℕ) = then_told (told xs Open) z in
    front_trans xs (xs ++ z.items) x.items (z.items, refl) (before_front y x (before_of_short y x h))

-- what lay there was the chunk, and then z
pub push_lies : (e : Ending) (k : Kept) (c : List ℕ) (z x : Told (List ℕ)) → IsShortOf (then_told (told (c ∷ []) Open) z) x →
    IsShortOf (then_told (told (c ∷ []) (asked_mark e)) (before_work (work_after e k) z)) x
push_lies Fine k c z x h = h
push_lies (Bad n p) k c z x h = front_lies (c ∷ []) z x h

-- a flush
pub flush_asked : (m : Machine) (k : Kept) → LiveAsked m k [] Closed (Over (m.flush k).ending)
flush_asked m k = refl

pub flush_made : (m : Machine) (k : Kept) → made m (Live k) (told [] Closed) ≡ then_told (told (m.flush k).chunks Open) (coming_from (Over (m.flush k).ending))
flush_made m k = by (m.flush k).chunks (m.flush k).ending where
  by : (cs : List (List ℕ)) (e : Ending) → told cs (end_mark e) ≡ then_told (told cs Open) (coming_end e)
  by cs Fine = ap (λ q. told q Closed) (sym (append-nil cs))
  by cs (Bad n p) = ap (λ q. told q Broken) (sym (append-nil cs))

pub flush_lies : (v : AtWork) (z w x : Told (List ℕ)) → IsShortOf (then_told (told [] Closed) z) x → IsShortOf (then_told (told [] Closed) (before_work v w)) x
flush_lies v z w x h = h

-- it ends as no memory is left: nothing more is taken
pub stop_asked : (m : Machine) (k : Kept) → LiveAsked m k [] Lost (Over Fine)
stop_asked m k = refl

pub stop_made : (m : Machine) (k : Kept) → made m (Live k) (told [] Lost) ≡ told [] Lost
stop_made m k = refl

pub stop_lies : (z x : Told (List ℕ)) → IsShortOf (then_told (told [] Lost) z) x
stop_lies z x = (x.items, refl)

-- a work was asked in one of these ways
pub goes_pushes : (ms : List Machine) (m : Machine) (ns : List Machine) (k : ℕ) (before : List AtWork) (kept : Kept) (c : List ℕ) (after : List AtWork)
    (x y : ℕ → Told (List ℕ)) (j : ℕ) → j ≡ k + length before → length ms ≡ length before → length ns ≡ length after →
    IsShortOf (then_told (told (c ∷ []) Open) (y j)) (x j) →
    IsShortOf (y (suc j)) (then_told (x (suc j)) (then_told (told (m.push kept c).chunks Open) (coming_from (work_after (m.push kept c).ending (m.push kept c).kept)))) →
    ((i : ℕ) → k ≤ i → i ≤ k + suc (length before + length after) → i ≢ j → i ≢ suc j → IsShortOf (y i) (x i)) →
    Goes (ms ++ m ∷ ns) nothing_told (parts_at k (before ++ Live kept ∷ after) x) (behind_of k (before ++ Live kept ∷ after) x)
    (parts_at k (before ++ work_after (m.push kept c).ending (m.push kept c).kept ∷ after) y)
    (behind_of k (before ++ work_after (m.push kept c).ending (m.push kept c).kept ∷ after) y)
goes_pushes ms m ns k before kept c after x y j e l r s n h =
    let p = m.push kept c in
    goes_asks ms m ns k before kept (work_after p.ending p.kept) after x y (told (c ∷ []) (asked_mark p.ending)) j e l r
    (push_asked m kept c) (push_lies p.ending p.kept c (y j) (x j) s)
    (subst (λ q. IsShortOf (y (suc j)) (then_told (x (suc j)) q)) (sym (push_made m kept c)) n) h

pub goes_flushes : (ms : List Machine) (m : Machine) (ns : List Machine) (k : ℕ) (before : List AtWork) (kept : Kept) (after : List AtWork)
    (x y : ℕ → Told (List ℕ)) (z : Told (List ℕ)) (j : ℕ) → j ≡ k + length before → length ms ≡ length before → length ns ≡ length after →
    IsShortOf (then_told (told [] Closed) z) (x j) →
    IsShortOf (y (suc j)) (then_told (x (suc j)) (then_told (told (m.flush kept).chunks Open) (coming_from (Over (m.flush kept).ending)))) →
    ((i : ℕ) → k ≤ i → i ≤ k + suc (length before + length after) → i ≢ j → i ≢ suc j → IsShortOf (y i) (x i)) →
    Goes (ms ++ m ∷ ns) nothing_told (parts_at k (before ++ Live kept ∷ after) x) (behind_of k (before ++ Live kept ∷ after) x)
    (parts_at k (before ++ Over (m.flush kept).ending ∷ after) y) (behind_of k (before ++ Over (m.flush kept).ending ∷ after) y)
goes_flushes ms m ns k before kept after x y z j e l r s n h =
    goes_asks ms m ns k before kept (Over (m.flush kept).ending) after x y (told [] Closed) j e l r
    (flush_asked m kept) (flush_lies (Over (m.flush kept).ending) z (y j) (x j) s)
    (subst (λ q. IsShortOf (y (suc j)) (then_told (x (suc j)) q)) (sym (flush_made m kept)) n) h

pub goes_stops : (ms : List Machine) (m : Machine) (ns : List Machine) (k : ℕ) (before : List AtWork) (kept : Kept) (after : List AtWork)
    (x y : ℕ → Told (List ℕ)) (j : ℕ) → j ≡ k + length before → length ms ≡ length before → length ns ≡ length after →
    IsShortOf (y (suc j)) (then_told (x (suc j)) (told [] Lost)) →
    ((i : ℕ) → k ≤ i → i ≤ k + suc (length before + length after) → i ≢ j → i ≢ suc j → IsShortOf (y i) (x i)) →
    Goes (ms ++ m ∷ ns) nothing_told (parts_at k (before ++ Live kept ∷ after) x) (behind_of k (before ++ Live kept ∷ after) x)
    (parts_at k (before ++ Over Fine ∷ after) y) (behind_of k (before ++ Over Fine ∷ after) y)
goes_stops ms m ns k before kept after x y j e l r n h =
    goes_asks ms m ns k before kept (Over Fine) after x y (told [] Lost) j e l r (stop_asked m kept) (stop_lies (told [] Lost) (x j)) n h

-- how a work ended that is over
pub found_part : (k : ℕ) (before : List AtWork) (e : Ending) (after : List AtWork) (x : ℕ → Told (List ℕ)) → found (parts_at k (before ++ Over e ∷ after) x) (length before) ≡ e
found_part k [] e after x = refl
found_part k (w ∷ before) e after x = found_part (suc k) before e after x
