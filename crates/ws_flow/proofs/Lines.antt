-- `lines`: each line is cut.
use Rattle.std.proofs.Common.{◌≡◌, ◌≢◌, inr, ℕ, ◌+◌, ◌≤◌, ℤ, pos, nat_abs, Bool, true, false, nat_eq, nat_lt, List, [], ◌∷◌, ◌++◌, length, append-nil, length-append, refl, sym, ap, subst, arith}
use Rattle.std.specs.Prelude.{if◌then◌else◌, codes}
use Rattle.std.specs.List.{All}
use Rattle.std.proofs.lemmas.List.Elements.{All-nil, All-push}
use Rattle.ws_flow.specs.declared.plan.Ending.TheVariants.{Fine, Bad}
use Rattle.ws_flow.specs.declared.plan.Stage.TheVariants.{Lines, Number}
use Rattle.ws_flow.specs.Told.{Closed, Broken, told}
use Rattle.ws_flow.specs.Machines.{Kept, ending, pushed, nothing_kept, with_rest}
use Rattle.ws_flow.specs.Stages.{IsLine, LinesDone, LineWrong, line_byte, machine, machines}
use Rattle.ws_flow.specs.Plans.{as_one, reach}
use Rattle.ws_flow.proofs.Whole.{StepSays, Stepwise, whole_cut_here, whole_kept_here, all_units, says_all}
use Rattle.ws_flow.proofs.Short.{EachShort, more_short, bytes_short, one_longer, rest_short, range_high}
use Rattle.ws_flow.proofs.Kind.{NeverLate, each_never_late, IsKind}

line_step : (most : ℕ) (before : List ℕ) (cs : List (List ℕ)) (k : Kept) (b : ℕ) (x y : Bool) → nat_eq b 10 ≡ x → nat_lt (length k.rest) most ≡ y → LinesDone most before cs k.rest →
    let p = (if x then pushed (with_rest k []) ((k.rest ++ b ∷ []) ∷ []) Fine else if y then pushed (with_rest k (k.rest ++ b ∷ [])) [] Fine else pushed k [] (Bad 1 k.bytes)) in
    StepSays (LinesDone most) (LineWrong most) before cs k b p.kept p.chunks p.ending
line_step most before cs k b true y e f d = (
  record {
    whole = whole_cut_here cs k.rest before b d.whole;
    lines = All-push (IsLine most) cs (k.rest ++ b ∷ []) d.lines (k.rest, ap (λ q. k.rest ++ q ∷ []) (is_feed b e), d.begun, d.short);
    begun = All-nil (λ c. c ≢ 10);
    short = omega arith;
  },
  refl,
) where
  is_feed : (b : ℕ) → nat_eq b 10 ≡ true → b ≡ 10
  is_feed b e = grind arith
line_step most before cs k b false true e f d = (
  record {
    whole = whole_kept_here cs k.rest before b d.whole;
    lines = subst (λ q. All (IsLine most) q) (sym (append-nil cs)) d.lines;
    begun = All-push (λ c. c ≢ 10) k.rest b d.begun (no_feed b e);
    short = room (length k.rest) most (length (k.rest ++ b ∷ [])) f (length-append k.rest (b ∷ []));
  },
  refl,
) where
  no_feed : (b : ℕ) → nat_eq b 10 ≡ false → b ≢ 10
  no_feed b e = grind arith

  room : (n most m : ℕ) → nat_lt n most ≡ true → m ≡ n + 1 → m ≤ most
  room n most m f e = grind arith
line_step most before cs k b false false e f d = (refl, record { full = filled (length k.rest) most f d.short; no_feed = no_feed b e; code = refl; at = refl }) where
  no_feed : (b : ℕ) → nat_eq b 10 ≡ false → b ≢ 10
  no_feed b e = grind arith

  filled : (n most : ℕ) → nat_lt n most ≡ false → n ≤ most → n ≡ most
  filled n most f s = grind arith

pub lines_stepwise : (most : ℕ) → Stepwise (λ b. Unit {0}) (LinesDone most) (LineWrong most) (line_byte most)
lines_stepwise most = record { step = λ before cs k b x d n. line_step most before cs k b (nat_eq b 10) (nat_lt (length k.rest) most) refl refl d }

pub lines_begin : (most : ℕ) → LinesDone most [] [] []
lines_begin most = record { whole = refl; lines = All-nil (IsLine most); begun = All-nil (λ c. c ≢ 10); short = omega arith }

line_late : (most : ℕ) → NeverLate (line_byte most)
line_late most k b code place e = grind arith

line_short : (most : ℕ) (k : Kept) (x : ℕ) → length k.rest ≤ most → (EachShort (most + 1) (line_byte most k x).chunks) × (length (line_byte most k x).kept.rest ≤ most)
line_short most k x h = by (nat_eq x 10) (nat_lt (length k.rest) most) refl refl where
  room : (n l : ℕ) → nat_lt n most ≡ true → l ≡ n + 1 → l ≤ most
  room n l f e = grind arith

  by : (u v : Bool) → nat_eq x 10 ≡ u → nat_lt (length k.rest) most ≡ v →
      let p = (if u then pushed (with_rest k []) ((k.rest ++ x ∷ []) ∷ []) Fine else if v then pushed (with_rest k (k.rest ++ x ∷ [])) [] Fine else pushed k [] (Bad 1 k.bytes)) in
      (EachShort (most + 1) p.chunks) × (length p.kept.rest ≤ most)
  by true v e f = ((one_longer k.rest x most h, tt), omega arith)
  by false true e f = (tt, room (length k.rest) (length (k.rest ++ x ∷ [])) f (length-append k.rest (x ∷ [])))
  by false false e f = (tt, h)

pub lines : (most : ℤ) → IsKind (Lines most)
lines most =
    let m = nat_abs most in
    record {
      told = λ input. says_all (LinesDone m) (LinesDone m) (LineWrong m) (λ b. Unit {0}) (line_byte m) (lines_stepwise m) (λ b cs r h. h) (lines_begin m) input (all_units input);
      late = each_never_late (line_byte m) (line_late m);
      fits = λ n l. tt;
      longest = λ n. m + 1;
      short = λ n x r h. more_short (machine (Lines most)) n (m + 1) (λ k. length k.rest ≤ m) (λ k c i l. bytes_short (line_byte m) (m + 1) (λ k. length k.rest ≤ m) (line_short m) k c i)
          (λ k i. rest_short (m + 1) k.rest (omega arith)) nothing_kept x.items x.mark (omega arith) h;
      grows = λ n r. inr (let g = range_high most 1 1048576 r in omega arith);
    }

-- a line of exactly the most, and one byte more
line_at_the_limit : reach (Lines (pos 2) ∷ []) (codes "aa\nend") Closed ≡ told (codes "aa\n" ∷ []) Broken
line_at_the_limit = refl

line_past_the_limit : ending (machines (Lines (pos 2) ∷ Number ∷ [])) 0 (as_one (codes "b\naaa\n") Closed) ≡ Bad 1 4
line_past_the_limit = refl
