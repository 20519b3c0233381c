-- How long a chunk can be.
use Rattle.std.proofs.Common.{◌≡◌, inl, inr, ℕ, zero, suc, ◌+◌, ◌*◌, ◌<◌, ◌≤◌, ℤ, pos, nat_abs, Bool, true, false, ◌&&◌, nat_lt, not, cond, Option, Some, None, List, [], ◌∷◌, length, map, refl, sym, ap, ◌∙◌, subst, arith}
use Rattle.std.specs.Prelude.{if◌then◌else◌, int_le}
use Rattle.std.specs.List.{All, list_all, filter, count_by}
use Rattle.std.proofs.lemmas.Bool.{and_parts}
use Rattle.std.proofs.lemmas.List.Elements.{All-nil, All-cons, All-head, All-tail}
use Rattle.std.proofs.lemmas.List.Sums.{length-filter}
use Rattle.ws_flow.specs.declared.plan.Placed.{Placed}
use Rattle.ws_flow.specs.declared.plan.Stage.{Stage}
use Rattle.ws_flow.specs.declared.refusal.Refusal.{Refusal}
use Rattle.ws_flow.specs.declared.refusal.Refusal.TheVariants.{TooManyStages, OutOfRange, TooManyHex, SeesCutting, TooManyWorkers, WorkersOutOfOrder, IdleWorker}
use Rattle.ws_flow.specs.Told.{Told}
use Rattle.ws_flow.specs.Machines.{through, all_through}
use Rattle.ws_flow.specs.Stages.{machine, machines, is_within, is_in_range}
use Rattle.ws_flow.specs.Plans.{stages_of, sees_known_chunks, is_hex, is_placed_within, is_abort_within, are_numbers_within, are_in_order, each_has_stage}
use Rattle.ws_flow.specs.Laws.{EachChunkIsShort, EachAcceptedPlan}
use Rattle.ws_flow.proofs.Short.{EachShort}
use Rattle.ws_flow.proofs.Kind.{Grows}
use Rattle.ws_flow.proofs.EachKind.{kind}

-- the most bytes of a chunk behind these stages, where those before them have at most n
longest : ℕ → List Stage → ℕ
longest n [] = n
longest n (s ∷ ss) = longest ((kind s).longest n) ss

-- through one stage after another
all_short_by : (n : ℕ) (ss : List Stage) (x : Told (List ℕ)) → list_all is_in_range ss ≡ true → EachShort n x.items → EachShort (longest n ss) (all_through (machines ss) x).items
unfolding longest
all_short_by n [] x r h = h
all_short_by n (s ∷ ss) x r h =
    let w = and_parts (is_in_range s) (list_all is_in_range ss) r in
    all_short_by ((kind s).longest n) ss (through (machine s) (machine s).start x) w.1 ((kind s).short n x w.0 h)

-- how long that can be: `hex` doubles, at most four times
twice_if : Bool → ℕ → ℕ
twice_if true n = 2 * n
twice_if false n = n

doubled : List Stage → ℕ
doubled [] = 1
doubled (s ∷ ss) = twice_if (is_hex s) (doubled ss)

two : ℕ → ℕ
two zero = 1
two (suc k) = 2 * two k

two_some : (k : ℕ) → 1 ≤ two k
unfolding two
two_some zero = omega arith
two_some (suc k) = let h = two_some k in omega arith

doubled_by : (k : ℕ) (ss : List Stage) → length (filter is_hex ss) ≤ k → doubled ss ≤ two k
unfolding doubled two twice_if
doubled_by k [] h = two_some k
doubled_by k (s ∷ ss) h = by (is_hex s) k h (λ j. doubled_by j ss) where
  by : (b : Bool) (k : ℕ) → length (cond b (s ∷ filter is_hex ss) (filter is_hex ss)) ≤ k → ((j : ℕ) → length (filter is_hex ss) ≤ j → doubled ss ≤ two j) → twice_if b (doubled ss) ≤ two k
  by true zero h f = absurd (omega arith)
  by true (suc j) h f = let g = f j (omega arith) in omega arith
  by false k h f = f k h

longest_by : (n q : ℕ) (ss : List Stage) → list_all is_in_range ss ≡ true → n + 65 * length ss ≤ q → 1048577 + 65 * length ss ≤ q → longest n ss ≤ doubled ss * q
unfolding longest doubled twice_if
longest_by n q [] r h g = omega arith
longest_by n q (s ∷ ss) r h g =
    let w = and_parts (is_in_range s) (list_all is_in_range ss) r in
    by (is_hex s) ((kind s).longest n) ((kind s).grows n w.0) (λ m p. longest_by m p ss w.1) where
      twice : (l w q : ℕ) → l ≤ w * (2 * q) → l ≤ 2 * w * q
      twice l w q h = omega arith

      by : (b : Bool) (m : ℕ) → Grows b n m → ((m p : ℕ) → m + 65 * length ss ≤ p → 1048577 + 65 * length ss ≤ p → longest m ss ≤ doubled ss * p) → longest m ss ≤ twice_if b (doubled ss) * q
      by true m l f = twice (longest m ss) (doubled ss) q (f m (2 * q) (omega arith) (omega arith))
      by false m (inl l) f = f m q (omega arith) (omega arith)
      by false m (inr l) f = f m q (omega arith) (omega arith)

short_all : (b m : ℕ) (cs : List (List ℕ)) → b < m → EachShort b cs → All (λ c. length c < m) cs
short_all b m [] h g = All-nil (λ c. length c < m)
short_all b m (c ∷ cs) h (l, g) = All-cons (λ c. length c < m) c cs (omega arith) (short_all b m cs h g)

short_of : (b : ℕ) (cs : List (List ℕ)) → All (λ c. length c ≤ b) cs → EachShort b cs
short_of b [] h = tt
short_of b (c ∷ cs) h = (All-head (λ c. length c ≤ b) c cs h, short_of b cs (All-tail (λ c. length c ≤ b) c cs h))

pub chunks_short : EachChunkIsShort
unfolding two
chunks_short ss x r hexes many h =
    let d = doubled_by 4 ss (subst (λ q. q ≤ 4) (sym (length-filter is_hex ss)) hexes) in
    let l = longest_by 4096 1049617 ss r (omega arith) (omega arith) in
    short_all (longest 4096 ss) 33554432 (all_through (machines ss) x).items (least (longest 4096 ss) (doubled ss) l d) (all_short_by 4096 ss x r (short_of 4096 x.items h)) where
      least : (l d : ℕ) → l ≤ d * 1049617 → d ≤ 16 → l < 33554432
      least l d h g = omega arith

-- an accepted plan
placed_range : (w : ℤ) (ps : List Placed) → list_all (is_placed_within w) ps ≡ true → list_all is_in_range (map (λ p. p.stage) ps) ≡ true
placed_range w [] h = refl
placed_range w (p ∷ ps) h =
    let a = and_parts (is_placed_within w p) (list_all (is_placed_within w) ps) h in
    let b = and_parts (is_in_range p.stage) (if int_le w (pos 0) then is_within 0 0 p.worker else int_le (pos 1) p.worker && int_le p.worker w) a.0 in
    both (is_in_range p.stage) (list_all is_in_range (map (λ p. p.stage) ps)) b.0 (placed_range w ps a.1) where
      both : (a b : Bool) → a ≡ true → b ≡ true → (a && b) ≡ true
      both true b h g = g
      both false b h g = h

placed_hex : (ps : List Placed) → length (filter is_hex (map (λ p. p.stage) ps)) ≡ length (filter (λ p. is_hex p.stage) ps)
placed_hex [] = refl
placed_hex (p ∷ ps) = by (is_hex p.stage) (placed_hex ps) where
  by : (v : Bool) → length (filter is_hex (map (λ p. p.stage) ps)) ≡ length (filter (λ p. is_hex p.stage) ps) → length (cond v (p.stage ∷ filter is_hex (map (λ p. p.stage) ps)) (filter is_hex (map (λ p. p.stage) ps))) ≡ length (cond v (p ∷ filter (λ p. is_hex p.stage) ps) (filter (λ p. is_hex p.stage) ps))
  by true h = ap suc h
  by false h = h

-- the tests that all went well where nothing is refused
record Passed (a b c d e f g : Bool) : Type 0 where
  pub few : a ≡ false
  pub numbers : b ≡ true
  pub hex : c ≡ false
  pub known : d ≡ true
  pub workers : e ≡ true
  pub order : f ≡ true
  pub each : g ≡ true

abbrev first_of_these : Bool → Bool → Bool → Bool → Bool → Bool → Bool → Option Refusal
first_of_these a b c d e f g =
    if a then Some TooManyStages else if not b then Some OutOfRange else if c then Some TooManyHex else if not d then Some SeesCutting
    else if not e then Some TooManyWorkers else if not f then Some WorkersOutOfOrder else if not g then Some IdleWorker else None

passed : (a b c d e f g : Bool) → first_of_these a b c d e f g ≡ None → Passed a b c d e f g
passed true b c d e f g h = cc
passed false false c d e f g h = cc
passed false true true d e f g h = cc
passed false true false false e f g h = cc
passed false true false true false f g h = cc
passed false true false true true false g h = cc
passed false true false true true true false h = cc
passed false true false true true true true h = record { few = refl; numbers = refl; hex = refl; known = refl; workers = refl; order = refl; each = refl }

not_more : (m n : ℕ) → nat_lt m n ≡ false → n ≤ m
not_more m n h = grind arith

as_many : (ps : List Placed) → length (map (λ p. p.stage) ps) ≡ length ps
as_many [] = refl
as_many (p ∷ ps) = ap suc (as_many ps)

pub accepted : EachAcceptedPlan
accepted plan h =
    let ps = plan.stages.items in
    let p = passed (nat_lt 16 (length ps)) (are_numbers_within plan) (nat_lt 4 (count_by (λ p. is_hex p.stage) ps)) (sees_known_chunks false (stages_of plan)) (int_le plan.workers (pos 8)) (are_in_order (pos 0) ps) (each_has_stage (nat_abs plan.workers) ps) h in
    let numbers = and_parts (is_within 0 1099511627776 plan.max_input) (list_all (is_placed_within plan.workers) ps)
    (and_parts (is_abort_within plan.abort_after) _ (and_parts (int_le (pos 0) plan.workers) _ p.numbers).1).1 in
    record {
      stages = subst (λ q. q ≤ 16) (sym (as_many ps)) (not_more 16 (length ps) p.few);
      numbers = p.numbers;
      range = placed_range plan.workers ps numbers.1;
      hex = subst (λ q. q ≤ 4) (sym (length-filter (λ (p : Placed). is_hex p.stage) ps) ∙ sym (placed_hex ps) ∙ length-filter is_hex (stages_of plan)) (not_more 4 (count_by (λ p. is_hex p.stage) ps) p.hex);
      known = p.known;
      workers = p.workers;
      order = p.order;
      each = p.each;
    }
