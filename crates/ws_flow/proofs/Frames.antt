-- `unframe`: each frame is read.
use Rattle.std.proofs.Common.{◌≡◌, inr, ℕ, suc, ◌+◌, ◌-◌, ◌/◌, ◌%◌, ◌<◌, ◌≤◌, ℤ, pos, nat_abs, Bool, true, false, nat_eq, nat_lt, List, [], ◌∷◌, ◌++◌, length, map, append_assoc, append-nil, length-append, refl, sym, ap, ◌∙◌, subst, arith, add-zero}
use Rattle.std.specs.Prelude.{if◌then◌else◌, codes}
use Rattle.std.specs.List.{concat, All}
use Rattle.std.proofs.lemmas.List.Elements.{All-nil, All-push}
use Rattle.hex.specs.Hex.{encode_with}
use Rattle.ws_flow.specs.declared.plan.Ending.TheVariants.{Fine, Bad}
use Rattle.ws_flow.specs.declared.plan.Stage.TheVariants.{Hex, Unframe}
use Rattle.ws_flow.specs.Told.{Mark, Open, Closed, Broken, Lost, told, then_told}
use Rattle.ws_flow.specs.Machines.{Kept, ending, pushed, nothing_kept, with_rest, Pushed, mark_of, end_mark, at_end, more, or_else, end_verdict, verdict, added, each_byte, AsCut, byte_machine}
use Rattle.ws_flow.specs.Stages.{four_bytes, framed, frame_has, frame_met, unframe_byte, inside_end, IsPartOfFrame, FramesDone, TellsMore, FrameWrong, machine, machines, is_of_end}
use Rattle.ws_flow.specs.Plans.{as_one, reach}
use Rattle.ws_flow.proofs.Whole.{EachIs, StepSays, Stepwise, each_is_all, says_all, each_cons, kept_of}
use Rattle.ws_flow.proofs.Short.{EachShort, more_short, bytes_short, range_high}
use Rattle.ws_flow.proofs.Kind.{NeverLate, each_never_late, IsKind}
use Rattle.ws_flow.proofs.Cutting.{more_cut, verdict_bytes}

four_lit : (a b c d n : ℕ) → a < 256 → b < 256 → c < 256 → d < 256 → n ≡ four_bytes a b c d →
    (n / 16777216 % 256 ≡ a) × (n / 65536 % 256 ≡ b) × (n / 256 % 256 ≡ c) × (n % 256 ≡ d)
four_lit a b c d n h i j k e = (omega arith, omega arith, omega arith, omega arith)

-- a frame whose bytes are all there is that of its chunk
framed_is : (a b c d : ℕ) (r : List ℕ) → a < 256 → b < 256 → c < 256 → d < 256 → length r ≡ four_bytes a b c d → framed r ≡ a ∷ b ∷ c ∷ d ∷ r
framed_is a b c d r h i j k e =
    let l = four_lit a b c d (length r) h i j k e in
    ap (λ q. q ∷ (length r / 65536 % 256) ∷ (length r / 256 % 256) ∷ (length r % 256) ∷ r) l.0
    ∙ ap (λ q. a ∷ q ∷ (length r / 256 % 256) ∷ (length r % 256) ∷ r) l.1
    ∙ ap (λ q. a ∷ b ∷ q ∷ (length r % 256) ∷ r) l.2
    ∙ ap (λ q. a ∷ b ∷ c ∷ q ∷ r) l.3

-- what was said, and that the rest are bytes
pub record FramesHeld (most : ℕ) (input : List ℕ) (cs : List (List ℕ)) (rest : List ℕ) : Type 0 where
  pub done : FramesDone most input cs rest
  pub bytes : EachIs (λ b. b < 256) rest

each_push : (P : ℕ → Type 0) (xs : List ℕ) (b : ℕ) → EachIs P xs → P b → EachIs P (xs ++ b ∷ [])
each_push P [] b h p = (p, tt)
each_push P (x ∷ xs) b (h, i) p = (h, each_push P xs b i p)

framed_append : (a b : List (List ℕ)) → concat (map framed (a ++ b)) ≡ concat (map framed a) ++ concat (map framed b)
framed_append [] b = refl
framed_append (c ∷ a) b = ap (λ q. framed c ++ q) (framed_append a b) ∙ sym (append_assoc (framed c) (concat (map framed a)) (concat (map framed b)))

kept_whole : (cs : List (List ℕ)) (rest before : List ℕ) (b : ℕ) → concat (map framed cs) ++ rest ≡ before → concat (map framed (cs ++ [])) ++ (rest ++ b ∷ []) ≡ before ++ b ∷ []
kept_whole cs rest before b h =
    ap (λ q. concat (map framed q) ++ (rest ++ b ∷ [])) (append-nil cs) ∙ sym (append_assoc (concat (map framed cs)) rest (b ∷ [])) ∙ ap (λ q. q ++ b ∷ []) h

full_whole : (cs : List (List ℕ)) (rest before : List ℕ) (b : ℕ) (c : List ℕ) → framed c ≡ rest ++ b ∷ [] → concat (map framed cs) ++ rest ≡ before → concat (map framed (cs ++ c ∷ [])) ++ [] ≡ before ++ b ∷ []
full_whole cs rest before b c f h =
    append-nil (concat (map framed (cs ++ c ∷ []))) ∙ framed_append cs (c ∷ []) ∙ ap (λ q. concat (map framed cs) ++ q) (append-nil (framed c) ∙ f)
    ∙ sym (append_assoc (concat (map framed cs)) rest (b ∷ [])) ∙ ap (λ q. q ++ b ∷ []) h

-- the rest with its new byte, `all`, and what is found of it; `old` is the rest before
has_step : (most : ℕ) (before : List ℕ) (cs : List (List ℕ)) (k : Kept) (x : ℕ) (a b c d : ℕ) (r : List ℕ) (m f : Bool) →
    k.rest ++ x ∷ [] ≡ a ∷ b ∷ c ∷ d ∷ r → nat_lt most (four_bytes a b c d) ≡ m → nat_eq (length r) (four_bytes a b c d) ≡ f →
    EachIs (λ q. q < 256) (a ∷ b ∷ c ∷ d ∷ r) → FramesHeld most before cs k.rest →
    (most < four_bytes a b c d → r ≡ []) → (four_bytes a b c d ≤ most → length r ≤ four_bytes a b c d) → length k.rest ≤ k.bytes →
    let j = with_rest k (k.rest ++ x ∷ []) in
    let p = (if m then pushed j [] (Bad 4 (j.bytes - 4)) else if f then pushed (record j { rest = [] }) (r ∷ []) Fine else pushed j [] Fine) in
    StepSays (FramesHeld most) (FrameWrong most) before cs k x p.kept p.chunks p.ending
has_step most before cs k x a b c d r true f e m q h d0 u v z0 = (
  refl,
  record {
    more = subst (λ z. TellsMore most z) (sym e) (subst (λ z. TellsMore most (a ∷ b ∷ c ∷ d ∷ z)) (sym (u (lt_of most (four_bytes a b c d) m))) (lt_of most (four_bytes a b c d) m));
    code = refl;
    at = place (length k.rest) k.bytes (length (k.rest ++ x ∷ [])) (length r) (length-append k.rest (x ∷ [])) (ap length e) (ap length (u (lt_of most (four_bytes a b c d) m))) z0;
  },
) where
  lt_of : (m n : ℕ) → nat_lt m n ≡ true → m < n
  lt_of m n h = grind arith

  place : (l y t s : ℕ) → t ≡ l + 1 → t ≡ suc (suc (suc (suc s))) → s ≡ 0 → l ≤ y → (y + 1 - 4) + l ≡ y
  place l y t s e f g i = omega arith
has_step most before cs k x a b c d r false true e m q h d0 u v z0 = (
  record {
    done = record {
      whole = full_whole cs k.rest before x r (framed_is a b c d r h.0 h.1.0 h.1.1.0 h.1.1.1.0 (eq_of (length r) (four_bytes a b c d) q) ∙ sym e) d0.done.whole;
      short = All-push (λ c. length c ≤ most) cs r d0.done.short (le_of (length r) (four_bytes a b c d) most m q);
      part = tt;
    };
    bytes = tt;
  },
  refl,
) where
  eq_of : (m n : ℕ) → nat_eq m n ≡ true → m ≡ n
  eq_of m n h = grind arith

  le_of : (l n most : ℕ) → nat_lt most n ≡ false → nat_eq l n ≡ true → l ≤ most
  le_of l n most h i = grind arith
has_step most before cs k x a b c d r false false e m q h d0 u v z0 = (
  record {
    done = record {
      whole = kept_whole cs k.rest before x d0.done.whole;
      short = subst (λ z. All (λ c. length c ≤ most) z) (sym (append-nil cs)) d0.done.short;
      part = subst (λ z. IsPartOfFrame most z) (sym e) (ge_of most (four_bytes a b c d) m, lt_of (length r) (four_bytes a b c d) q (v (ge_of most (four_bytes a b c d) m)));
    };
    bytes = subst (λ z. EachIs (λ q. q < 256) z) (sym e) h;
  },
  refl,
) where
  ge_of : (m n : ℕ) → nat_lt m n ≡ false → n ≤ m
  ge_of m n h = grind arith

  lt_of : (l n : ℕ) → nat_eq l n ≡ false → l ≤ n → l < n
  lt_of l n h i = grind arith

-- no more is left over than came
rest_within : (cs : List (List ℕ)) (rest before : List ℕ) (y : ℕ) → concat (map framed cs) ++ rest ≡ before → y ≡ length before → length rest ≤ y
rest_within cs rest before y h e =
    let l = length-append (concat (map framed cs)) rest in
    let g = ap length h in
    omega arith

-- fewer than four bytes of a length
few : (most : ℕ) (before : List ℕ) (cs : List (List ℕ)) (k : Kept) (x : ℕ) → x < 256 → FramesHeld most before cs k.rest → IsPartOfFrame most (k.rest ++ x ∷ []) →
    StepSays (FramesHeld most) (FrameWrong most) before cs k x (with_rest k (k.rest ++ x ∷ [])) [] Fine
few most before cs k x w h p = (
  record {
    done = record {
      whole = kept_whole cs k.rest before x h.done.whole;
      short = subst (λ z. All (λ c. length c ≤ most) z) (sym (append-nil cs)) h.done.short;
      part = p;
    };
    bytes = each_push (λ q. q < 256) k.rest x h.bytes w;
  },
  refl,
)

frame_step : (most : ℕ) (before : List ℕ) (cs : List (List ℕ)) (rest : List ℕ) (y n x : ℕ) → x < 256 → FramesHeld most before cs rest → y ≡ length before →
    let p = unframe_byte most (record { rest = rest; bytes = y; chunks = n }) x in
    StepSays (FramesHeld most) (FrameWrong most) before cs (record { rest = rest; bytes = y; chunks = n }) x p.kept p.chunks p.ending
frame_step most before cs [] y n x w h e = few most before cs (record { rest = []; bytes = y; chunks = n }) x w h tt
frame_step most before cs (a ∷ []) y n x w h e = few most before cs (record { rest = a ∷ []; bytes = y; chunks = n }) x w h tt
frame_step most before cs (a ∷ b ∷ []) y n x w h e = few most before cs (record { rest = a ∷ b ∷ []; bytes = y; chunks = n }) x w h tt
frame_step most before cs (a ∷ b ∷ c ∷ []) y n x w h e =
    has_step most before cs (record { rest = a ∷ b ∷ c ∷ []; bytes = y; chunks = n }) x a b c x [] (nat_lt most (four_bytes a b c x)) (nat_eq 0 (four_bytes a b c x)) refl refl refl
    (each_push (λ q. q < 256) (a ∷ b ∷ c ∷ []) x h.bytes w) h (λ i. refl) (λ i. omega arith) (rest_within cs (a ∷ b ∷ c ∷ []) before y h.done.whole e)
frame_step most before cs (a ∷ b ∷ c ∷ d ∷ r) y n x w h e =
    has_step most before cs (record { rest = a ∷ b ∷ c ∷ d ∷ r; bytes = y; chunks = n }) x a b c d (r ++ x ∷ []) (nat_lt most (four_bytes a b c d)) (nat_eq (length (r ++ x ∷ [])) (four_bytes a b c d)) refl refl refl
    (each_push (λ q. q < 256) (a ∷ b ∷ c ∷ d ∷ r) x h.bytes w) h
    (λ i. absurd (not_both most (four_bytes a b c d) i h.done.part.0))
    (λ i. let l = length-append r (x ∷ []) in let g = h.done.part.1 in omega arith)
    (rest_within cs (a ∷ b ∷ c ∷ d ∷ r) before y h.done.whole e) where
      not_both : (m n : ℕ) → m < n → n ≤ m → ⊥
      not_both m n i j = omega arith

pub frames_stepwise : (most : ℕ) → Stepwise (λ b. b < 256) (FramesHeld most) (FrameWrong most) (unframe_byte most)
frames_stepwise most = record { step = λ before cs k b x d n. frame_step most before cs k.rest k.bytes k.chunks b x d n }

pub frames_begin : (most : ℕ) → FramesHeld most [] [] []
frames_begin most = record { done = record { whole = refl; short = All-nil (λ c. length c ≤ most); part = tt }; bytes = tt }

has_late : (most : ℕ) (k : Kept) (n : ℕ) (r : List ℕ) (code place : ℕ) → (frame_has most k n r).ending ≡ Bad code place → is_of_end code ≡ false
has_late most k n r code place e = grind arith

met_late : (most : ℕ) (k : Kept) (r : List ℕ) (code place : ℕ) → (frame_met most k r).ending ≡ Bad code place → is_of_end code ≡ false
met_late most k [] code place e = grind arith
met_late most k (a ∷ []) code place e = grind arith
met_late most k (a ∷ b ∷ []) code place e = grind arith
met_late most k (a ∷ b ∷ c ∷ []) code place e = grind arith
met_late most k (a ∷ b ∷ c ∷ d ∷ r) code place e = has_late most k (four_bytes a b c d) r code place e

frame_late : (most : ℕ) → NeverLate (unframe_byte most)
frame_late most k b code place e = met_late most (with_rest k (k.rest ++ b ∷ [])) (k.rest ++ b ∷ []) code place e

frame_short : (most : ℕ) (k : Kept) (n : ℕ) (r : List ℕ) → EachShort most (frame_has most k n r).chunks
frame_short most k n r = by (nat_lt most n) (nat_eq (length r) n) refl refl where
  within : (l : ℕ) → nat_lt most n ≡ false → nat_eq l n ≡ true → l ≤ most
  within l e f = grind arith

  by : (u v : Bool) → nat_lt most n ≡ u → nat_eq (length r) n ≡ v → EachShort most (if u then pushed k [] (Bad 4 (k.bytes - 4)) else if v then pushed (record k { rest = [] }) (r ∷ []) Fine else pushed k [] Fine).chunks
  by true v e f = tt
  by false true e f = (within (length r) e f, tt)
  by false false e f = tt

met_short : (most : ℕ) (k : Kept) (r : List ℕ) → EachShort most (frame_met most k r).chunks
met_short most k [] = tt
met_short most k (a ∷ []) = tt
met_short most k (a ∷ b ∷ []) = tt
met_short most k (a ∷ b ∷ c ∷ []) = tt
met_short most k (a ∷ b ∷ c ∷ d ∷ r) = frame_short most k (four_bytes a b c d) r

inside_short : (b : ℕ) (k : Kept) (r : List ℕ) → EachShort b (inside_end k r).chunks
inside_short b k [] = tt
inside_short b k (x ∷ r) = tt

pub unframe : (most : ℤ) → IsKind (Unframe most)
unframe most =
    let m = nat_abs most in
    record {
      told = λ input h. says_all (FramesDone m) (FramesHeld m) (FrameWrong m) (λ b. b < 256) (unframe_byte m) (frames_stepwise m) (λ b cs r h. h.done) (frames_begin m) input (each_is_all (λ b. b < 256) input h);
      late = each_never_late (unframe_byte m) (frame_late m);
      fits = λ n l. tt;
      longest = λ n. m;
      short = λ n x r h. more_short (machine (Unframe most)) n m (λ k. Unit {0}) (λ k c i l. bytes_short (unframe_byte m) m (λ k. Unit {0}) (λ k b i. (met_short m (with_rest k (k.rest ++ b ∷ [])) (k.rest ++ b ∷ []), tt)) k c i)
          (λ k i. inside_short m k k.rest) nothing_kept x.items x.mark tt h;
      grows = λ n r. inr (let g = range_high most 0 1048576 r in omega arith);
    }

-- a length that is too large, and an end inside a frame
length_too_large : ending (machines (Unframe (pos 4) ∷ [])) 0 (as_one (0 ∷ 0 ∷ 0 ∷ 0 ∷ 0 ∷ 0 ∷ 0 ∷ 5 ∷ 97 ∷ []) Closed) ≡ Bad 4 4
length_too_large = refl

end_inside : ending (machines (Unframe (pos 5) ∷ [])) 0 (as_one (0 ∷ 0 ∷ 0 ∷ 5 ∷ 97 ∷ []) Closed) ≡ Bad 5 5
end_inside = refl

end_inside_a_length : ending (machines (Unframe (pos 4) ∷ [])) 0 (as_one (255 ∷ []) Closed) ≡ Bad 5 1
end_inside_a_length = refl

empty_frame : reach (Unframe (pos 4) ∷ Hex ∷ []) (0 ∷ 0 ∷ 0 ∷ 0 ∷ 0 ∷ 0 ∷ 0 ∷ 1 ∷ 171 ∷ []) Closed ≡ told ([] ∷ codes "ab" ∷ []) Closed
unfolding encode_with
empty_frame = refl

-- of `frame` it is the chunks

abbrev gives : List (List ℕ) → Pushed → Pushed
gives cs r = added cs Fine nothing_kept r

has_full : (most : ℕ) (k : Kept) (n : ℕ) (r : List ℕ) → n ≤ most → length r ≡ n → frame_has most k n r ≡ pushed (record k { rest = [] }) (r ∷ []) Fine
has_full most k n r h e = by (nat_lt most n) (nat_eq (length r) n) refl refl where
  by : (x y : Bool) → nat_lt most n ≡ x → nat_eq (length r) n ≡ y → (if x then pushed k [] (Bad 4 (k.bytes - 4)) else if y then pushed (record k { rest = [] }) (r ∷ []) Fine else pushed k [] Fine) ≡ pushed (record k { rest = [] }) (r ∷ []) Fine
  by true y f g = absurd (no most n h f) where
    no : (most n : ℕ) → n ≤ most → nat_lt most n ≡ true → ⊥
    no most n h f = grind arith
  by false true f g = refl
  by false false f g = absurd (no (length r) n e g) where
    no : (l n : ℕ) → l ≡ n → nat_eq l n ≡ false → ⊥
    no l n e g = grind arith

has_part : (most : ℕ) (k : Kept) (n : ℕ) (r : List ℕ) → n ≤ most → length r < n → frame_has most k n r ≡ pushed k [] Fine
has_part most k n r h e = by (nat_lt most n) (nat_eq (length r) n) refl refl where
  by : (x y : Bool) → nat_lt most n ≡ x → nat_eq (length r) n ≡ y → (if x then pushed k [] (Bad 4 (k.bytes - 4)) else if y then pushed (record k { rest = [] }) (r ∷ []) Fine else pushed k [] Fine) ≡ pushed k [] Fine
  by true y f g = absurd (no most n h f) where
    no : (most n : ℕ) → n ≤ most → nat_lt most n ≡ true → ⊥
    no most n h f = grind arith
  by false true f g = absurd (no (length r) n e g) where
    no : (l n : ℕ) → l < n → nat_eq l n ≡ true → ⊥
    no l n e g = grind arith
  by false false f g = refl

in_frame : (most a b c d : ℕ) (r : List ℕ) (x : ℕ) (s : List ℕ) (bs : List ℕ) (y n : ℕ) → four_bytes a b c d ≤ most → length r + suc (length s) ≡ four_bytes a b c d →
    each_byte (unframe_byte most) (kept_of (a ∷ b ∷ c ∷ d ∷ r) y n) (x ∷ (s ++ bs)) ≡ gives ((r ++ x ∷ s) ∷ []) (each_byte (unframe_byte most) (kept_of [] (y + suc (length s)) n) bs)
in_frame most a b c d r x [] bs y n h e =
    each_cons (unframe_byte most) (kept_of (a ∷ b ∷ c ∷ d ∷ r) y n) x bs (pushed (kept_of [] (y + 1) n) ((r ++ x ∷ []) ∷ []) Fine)
    (has_full most (kept_of (a ∷ b ∷ c ∷ d ∷ (r ++ x ∷ [])) (y + 1) n) (four_bytes a b c d) (r ++ x ∷ []) h (length-append r (x ∷ []) ∙ e))
in_frame most a b c d r x (z ∷ s) bs y n h e =
    each_cons (unframe_byte most) (kept_of (a ∷ b ∷ c ∷ d ∷ r) y n) x (z ∷ (s ++ bs)) (pushed (kept_of (a ∷ b ∷ c ∷ d ∷ (r ++ x ∷ [])) (y + 1) n) [] Fine)
    (has_part most (kept_of (a ∷ b ∷ c ∷ d ∷ (r ++ x ∷ [])) (y + 1) n) (four_bytes a b c d) (r ++ x ∷ []) h (fewer (length (r ++ x ∷ [])) (length r) (length s) (four_bytes a b c d) (length-append r (x ∷ [])) e))
    ∙ in_frame most a b c d (r ++ x ∷ []) z s bs (y + 1) n h (as_many (length (r ++ x ∷ [])) (length r) (length s) (four_bytes a b c d) (length-append r (x ∷ [])) e)
    ∙ ap (λ q. gives (q ∷ []) (each_byte (unframe_byte most) (kept_of [] (y + 1 + suc (length s)) n) bs)) (append_assoc r (x ∷ []) (z ∷ s))
    ∙ ap (λ q. gives ((r ++ x ∷ z ∷ s) ∷ []) (each_byte (unframe_byte most) (kept_of [] q n) bs)) (one_more_byte y (length s)) where
      fewer : (l m s n : ℕ) → l ≡ m + 1 → m + suc (suc s) ≡ n → l < n
      fewer l m s n e f = omega arith

      as_many : (l m s n : ℕ) → l ≡ m + 1 → m + suc (suc s) ≡ n → l + suc s ≡ n
      as_many l m s n e f = omega arith

      one_more_byte : (y s : ℕ) → y + 1 + suc s ≡ y + suc (suc s)
      one_more_byte y s = omega arith

four_of : (l : ℕ) → l < 4294967296 → four_bytes (l / 16777216 % 256) (l / 65536 % 256) (l / 256 % 256) (l % 256) ≡ l
four_of l h = omega arith

-- the bytes of one frame, by its four bytes of length
frame_by : (most : ℕ) (a b c d : ℕ) (s : List ℕ) (bs : List ℕ) (y n : ℕ) → four_bytes a b c d ≤ most → length s ≡ four_bytes a b c d →
    each_byte (unframe_byte most) (kept_of [] y n) (a ∷ b ∷ c ∷ d ∷ (s ++ bs)) ≡ gives (s ∷ []) (each_byte (unframe_byte most) (kept_of [] (y + 1 + 1 + 1 + 1 + length s) n) bs)
frame_by most a b c d [] bs y n h e =
    each_cons (unframe_byte most) (kept_of (a ∷ b ∷ c ∷ []) (y + 1 + 1 + 1) n) d bs (pushed (kept_of [] (y + 1 + 1 + 1 + 1) n) ([] ∷ []) Fine)
    (has_full most (kept_of (a ∷ b ∷ c ∷ d ∷ []) (y + 1 + 1 + 1 + 1) n) (four_bytes a b c d) [] h e)
    ∙ ap (λ q. gives ([] ∷ []) (each_byte (unframe_byte most) (kept_of [] q n) bs)) (sym (add-zero (y + 1 + 1 + 1 + 1)))
frame_by most a b c d (x ∷ s) bs y n h e =
    each_cons (unframe_byte most) (kept_of (a ∷ b ∷ c ∷ []) (y + 1 + 1 + 1) n) d (x ∷ (s ++ bs)) (pushed (kept_of (a ∷ b ∷ c ∷ d ∷ []) (y + 1 + 1 + 1 + 1) n) [] Fine)
    (has_part most (kept_of (a ∷ b ∷ c ∷ d ∷ []) (y + 1 + 1 + 1 + 1) n) (four_bytes a b c d) [] h (some (length s) (four_bytes a b c d) e))
    ∙ in_frame most a b c d [] x s bs (y + 1 + 1 + 1 + 1) n h (all (length s) (four_bytes a b c d) e) where
      some : (l n : ℕ) → suc l ≡ n → 0 < n
      some l n e = omega arith

      all : (l n : ℕ) → suc l ≡ n → 0 + suc l ≡ n
      all l n e = omega arith

frames_read : (most : ℕ) (y n : ℕ) (cs : List (List ℕ)) → most < 4294967296 → EachShort most cs →
    ((each_byte (unframe_byte most) (kept_of [] y n) (concat (map framed cs))).chunks ≡ cs) × ((each_byte (unframe_byte most) (kept_of [] y n) (concat (map framed cs))).ending ≡ Fine) × ((each_byte (unframe_byte most) (kept_of [] y n) (concat (map framed cs))).kept.rest ≡ [])
frames_read most y n [] w h = (refl, refl, refl)
frames_read most y n (c ∷ cs) w (h, g) =
    let l = length c in
    let f = four_of l (below l most w h) in
    let e = frame_by most (l / 16777216 % 256) (l / 65536 % 256) (l / 256 % 256) (l % 256) c (concat (map framed cs)) y n (within l most (four_bytes (l / 16777216 % 256) (l / 65536 % 256) (l / 256 % 256) (l % 256)) f h) (sym f) in
    let r = frames_read most (y + 1 + 1 + 1 + 1 + l) n cs w g in
    (ap (λ q. q.chunks) e ∙ ap (λ q. c ∷ q) r.0, ap (λ q. q.ending) e ∙ r.1, ap (λ q. q.kept.rest) e ∙ r.2) where
      below : (l most : ℕ) → most < 4294967296 → l ≤ most → l < 4294967296
      below l most w h = omega arith

      within : (l most n : ℕ) → n ≡ l → l ≤ most → n ≤ most
      within l most n e h = omega arith

frames_end : (most : ℕ) (e : Mark) (k : Kept) → k.rest ≡ [] → (at_end (byte_machine AsCut (unframe_byte most) (λ k. inside_end k k.rest)) k e ≡ told [] e) × (end_verdict (byte_machine AsCut (unframe_byte most) (λ k. inside_end k k.rest)) k e ≡ Fine)
frames_end most Open k h = (refl, refl)
frames_end most Broken k h = (refl, refl)
frames_end most Lost k h = (refl, refl)
frames_end most Closed k h = (ap (λ q. told (inside_end k q).chunks (end_mark (inside_end k q).ending)) h, ap (λ q. (inside_end k q).ending) h)

pub unframe_of_frame : (most : ℕ) (xs : List (List ℕ)) (e : Mark) → most < 4294967296 → EachShort most xs →
    let m = byte_machine AsCut (unframe_byte most) (λ k. inside_end k k.rest) in
    (more m nothing_kept (map framed xs) e ≡ told xs e) × (verdict m nothing_kept (map framed xs) e ≡ Fine)
unframe_of_frame most xs e w h =
    let m = byte_machine AsCut (unframe_byte most) (λ k. inside_end k k.rest) in
    let p = each_byte (unframe_byte most) nothing_kept (concat (map framed xs)) in
    let r = frames_read most 0 0 xs w h in
    let f = frames_end most e p.kept r.2 in (
      more_cut (unframe_byte most) (λ k. inside_end k k.rest) nothing_kept (map framed xs) e
          ∙ ap (λ q. then_told (told p.chunks (mark_of q)) (at_end m p.kept e)) r.1
          ∙ ap (λ q. then_told (told q Open) (at_end m p.kept e)) r.0
          ∙ ap (λ q. then_told (told xs Open) q) f.0
          ∙ ap (λ q. told q e) (append-nil xs),
      verdict_bytes AsCut (unframe_byte most) (λ k. inside_end k k.rest) nothing_kept (map framed xs) e
          ∙ ap (λ q. or_else q (end_verdict m p.kept e)) r.1
          ∙ f.1,
    )
