-- `fixed`: each block is cut.
use Rattle.std.proofs.Common.{◌≡◌, inr, ℕ, ◌+◌, ◌<◌, ◌≤◌, ℤ, pos, nat_abs, Bool, true, false, nat_eq, List, [], ◌∷◌, ◌++◌, length, append-nil, length-append, refl, sym, subst, arith}
use Rattle.std.specs.Prelude.{if◌then◌else◌, codes}
use Rattle.std.specs.List.{All}
use Rattle.std.proofs.lemmas.List.Elements.{All-nil, All-push}
use Rattle.ws_flow.specs.declared.plan.Ending.TheVariants.{Fine}
use Rattle.ws_flow.specs.declared.plan.Stage.TheVariants.{Fixed, Frame}
use Rattle.ws_flow.specs.Told.{Closed, told, bytes_of}
use Rattle.ws_flow.specs.Machines.{Kept, pushed, nothing_kept, with_rest}
use Rattle.ws_flow.specs.Outputs.{NeverWrong}
use Rattle.ws_flow.specs.Stages.{BlocksDone, block_byte, machine}
use Rattle.ws_flow.specs.Plans.{reach}
use Rattle.ws_flow.proofs.Whole.{StepSays, Stepwise, whole_cut_here, whole_kept_here, all_units, says_all}
use Rattle.ws_flow.proofs.Short.{EachShort, more_short, bytes_short, rest_short, range_some, range_high}
use Rattle.ws_flow.proofs.Kind.{NeverLate, each_never_late, IsKind}

block_step : (n : ℕ) (before : List ℕ) (cs : List (List ℕ)) (k : Kept) (b : ℕ) (x : Bool) → nat_eq (length k.rest + 1) n ≡ x → BlocksDone n before cs k.rest →
    let p = (if x then pushed (with_rest k []) ((k.rest ++ b ∷ []) ∷ []) Fine else pushed (with_rest k (k.rest ++ b ∷ [])) [] Fine) in
    StepSays (BlocksDone n) NeverWrong before cs k b p.kept p.chunks p.ending
block_step n before cs k b true e d = (
  record {
    whole = whole_cut_here cs k.rest before b d.whole;
    blocks = All-push (λ c. length c ≡ n) cs (k.rest ++ b ∷ []) d.blocks (full (length k.rest) n (length (k.rest ++ b ∷ [])) e (length-append k.rest (b ∷ [])));
    short = some (length k.rest) n d.short;
  },
  refl,
) where
  full : (m n l : ℕ) → nat_eq (m + 1) n ≡ true → l ≡ m + 1 → l ≡ n
  full m n l e f = grind arith

  some : (m n : ℕ) → m < n → 0 < n
  some m n h = omega arith
block_step n before cs k b false e d = (
  record {
    whole = whole_kept_here cs k.rest before b d.whole;
    blocks = subst (λ q. All (λ c. length c ≡ n) q) (sym (append-nil cs)) d.blocks;
    short = room (length k.rest) n (length (k.rest ++ b ∷ [])) e d.short (length-append k.rest (b ∷ []));
  },
  refl,
) where
  room : (m n l : ℕ) → nat_eq (m + 1) n ≡ false → m < n → l ≡ m + 1 → l < n
  room m n l e h f = grind arith

pub blocks_stepwise : (n : ℕ) → Stepwise (λ b. Unit {0}) (BlocksDone n) NeverWrong (block_byte n)
blocks_stepwise n = record { step = λ before cs k b x d m. block_step n before cs k b (nat_eq (length k.rest + 1) n) refl d }

pub blocks_begin : (n : ℕ) → 0 < n → BlocksDone n [] [] []
blocks_begin n h = record { whole = refl; blocks = All-nil (λ c. length c ≡ n); short = h }

block_late : (n : ℕ) → NeverLate (block_byte n)
block_late n k b code place e = grind arith

block_short : (n : ℕ) (k : Kept) (x : ℕ) → length k.rest < n → (EachShort n (block_byte n k x).chunks) × (length (block_byte n k x).kept.rest < n)
block_short n k x h = by (nat_eq (length k.rest + 1) n) refl where
  room : (m l : ℕ) → nat_eq (m + 1) n ≡ false → m < n → l ≡ m + 1 → l < n
  room m l e h f = grind arith

  full : (m l : ℕ) → m < n → l ≡ m + 1 → l ≤ n
  full m l h f = omega arith

  some : (m : ℕ) → m < n → 0 < n
  some m h = omega arith

  by : (u : Bool) → nat_eq (length k.rest + 1) n ≡ u →
      let p = (if u then pushed (with_rest k []) ((k.rest ++ x ∷ []) ∷ []) Fine else pushed (with_rest k (k.rest ++ x ∷ [])) [] Fine) in
      (EachShort n p.chunks) × (length p.kept.rest < n)
  by true e = ((full (length k.rest) (length (k.rest ++ x ∷ [])) h (length-append k.rest (x ∷ [])), tt), some (length k.rest) h)
  by false e = (tt, room (length k.rest) (length (k.rest ++ x ∷ [])) e h (length-append k.rest (x ∷ [])))

pub fixed : (size : ℤ) → IsKind (Fixed size)
fixed size =
    let m = nat_abs size in
    record {
      told = λ input some. says_all (BlocksDone m) (BlocksDone m) NeverWrong (λ b. Unit {0}) (block_byte m) (blocks_stepwise m) (λ b cs r h. h) (blocks_begin m some) input (all_units input);
      late = each_never_late (block_byte m) (block_late m);
      fits = λ n l. tt;
      longest = λ n. m;
      short = λ n x r h.
          let some : 0 < m = range_some size 65536 r in
          more_short (machine (Fixed size)) n m (λ k. length k.rest < m) (λ k c i l. bytes_short (block_byte m) m (λ k. length k.rest < m) (block_short m) k c i)
          (λ k i. rest_short m k.rest (omega arith)) nothing_kept x.items x.mark some h;
      grows = λ n r. inr (let g = range_high size 1 65536 r in omega arith);
    }

-- in frames
blocks_framed : bytes_of (reach (Fixed (pos 2) ∷ Frame ∷ []) (codes "abc") Closed) ≡ told (0 ∷ 0 ∷ 0 ∷ 2 ∷ 97 ∷ 98 ∷ 0 ∷ 0 ∷ 0 ∷ 1 ∷ 99 ∷ []) Closed
blocks_framed = refl
