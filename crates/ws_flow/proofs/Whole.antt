-- What holds of each byte's step holds of all the bytes.
use Rattle.std.proofs.Common.{◌≡◌, ℕ, ◌+◌, List, [], ◌∷◌, ◌++◌, length, append_assoc, append-nil, length-append, refl, sym, ap, ◌∙◌, subst}
use Rattle.std.specs.List.{concat, All}
use Rattle.std.proofs.lemmas.List.Elements.{All-head, All-tail}
use Rattle.ws_flow.specs.declared.plan.Ending.{Ending}
use Rattle.ws_flow.specs.declared.plan.Ending.TheVariants.{Fine, Bad}
use Rattle.ws_flow.specs.Told.{then_told}
use Rattle.ws_flow.specs.Machines.{Kept, Pushed, piece, at_end, through, pushed, nothing_kept, added, each_byte, Packing, AsCut, byte_machine}
use Rattle.ws_flow.specs.Outputs.{SaysBy, Says, SaysAll}
use Rattle.ws_flow.specs.Laws.{EachInputIsOne}
use Rattle.ws_flow.proofs.Cutting.{joined_append, bytes_then, more_cut, more_bytes, verdict_bytes}

-- each of the bytes is so
abbrev pub EachIs : (ℕ → Type 0) → List ℕ → Type 0
EachIs P [] = Unit {0}
EachIs P (b ∷ bs) = P b × EachIs P bs

-- a step of one byte: it goes on, or it is wrong there
abbrev pub StepSays : (List ℕ → List (List ℕ) → List ℕ → Type 0) → (List (List ℕ) → List ℕ → ℕ → ℕ → ℕ → ℕ → Type 0) → List ℕ → List (List ℕ) → Kept → ℕ → Kept → List (List ℕ) → Ending → Type 0
StepSays Done Wrong before cs k b j ds Fine = (Done (before ++ b ∷ []) (cs ++ ds) j.rest) × (j.bytes ≡ k.bytes + 1)
StepSays Done Wrong before cs k b j ds (Bad c p) = (ds ≡ []) × (Wrong cs k.rest b k.bytes c p)

pub record Stepwise (P : ℕ → Type 0) (Done : List ℕ → List (List ℕ) → List ℕ → Type 0) (Wrong : List (List ℕ) → List ℕ → ℕ → ℕ → ℕ → ℕ → Type 0) (f : Kept → ℕ → Pushed) : Type 0 where
  pub step : (before : List ℕ) (cs : List (List ℕ)) (k : Kept) (b : ℕ) → P b → Done before cs k.rest → k.bytes ≡ length before → StepSays Done Wrong before cs k b (f k b).kept (f k b).chunks (f k b).ending

-- what is said of the bytes, and where it is fine that they were counted
abbrev pub Counted : Ending → Kept → ℕ → Type 0
Counted Fine k n = k.bytes ≡ n
Counted (Bad c p) k n = Unit {0}

abbrev pub SaysOn : (List ℕ → List (List ℕ) → List ℕ → Type 0) → (List (List ℕ) → List ℕ → ℕ → ℕ → ℕ → ℕ → Type 0) → List ℕ → List (List ℕ) → Pushed → Type 0
SaysOn Done Wrong input cs p = (SaysBy Done Wrong input (cs ++ p.chunks) p.kept.rest p.ending) × (Counted p.ending p.kept (length input))

says_added : (Done : List ℕ → List (List ℕ) → List ℕ → Type 0) (Wrong : List (List ℕ) → List ℕ → ℕ → ℕ → ℕ → ℕ → Type 0) (before : List ℕ) (cs : List (List ℕ)) (k : Kept) (b : ℕ) (bs : List ℕ) (j : Kept) (ds : List (List ℕ)) (e : Ending) (r : Pushed) →
    Done before cs k.rest → k.bytes ≡ length before → StepSays Done Wrong before cs k b j ds e →
    (Done (before ++ b ∷ []) (cs ++ ds) j.rest → j.bytes ≡ length (before ++ b ∷ []) → SaysOn Done Wrong ((before ++ b ∷ []) ++ bs) (cs ++ ds) r) →
    SaysOn Done Wrong (before ++ b ∷ bs) cs (added ds e j r)
says_added Done Wrong before cs k b bs j ds Fine r d n s h =
    let g = h s.0 (s.1 ∙ ap (λ q. q + 1) n ∙ sym (length-append before (b ∷ []))) in
    subst (λ q. SaysOn Done Wrong q cs (added ds Fine j r)) (append_assoc before (b ∷ []) bs)
    (subst (λ q. SaysBy Done Wrong ((before ++ b ∷ []) ++ bs) q r.kept.rest r.ending) (append_assoc cs ds r.chunks) g.0, g.1)
says_added Done Wrong before cs k b bs j ds (Bad c p) r d n s h = (
  (
    before,
    b,
    bs,
    k.rest,
    refl,
    subst (λ q. Done before q k.rest) (sym (append-nil cs) ∙ ap (λ q. cs ++ q) (sym s.0)) d,
    subst (λ q. Wrong q k.rest b (length before) c p) (sym (append-nil cs) ∙ ap (λ q. cs ++ q) (sym s.0)) (subst (λ q. Wrong cs k.rest b q c p) n s.1),
  ),
  tt,
)

each_says_on : (P : ℕ → Type 0) (Done : List ℕ → List (List ℕ) → List ℕ → Type 0) (Wrong : List (List ℕ) → List ℕ → ℕ → ℕ → ℕ → ℕ → Type 0) (f : Kept → ℕ → Pushed) → Stepwise P Done Wrong f →
    (before : List ℕ) (cs : List (List ℕ)) (k : Kept) (bs : List ℕ) → EachIs P bs → Done before cs k.rest → k.bytes ≡ length before → SaysOn Done Wrong (before ++ bs) cs (each_byte f k bs)
each_says_on P Done Wrong f w before cs k [] h d n =
    subst (λ q. SaysOn Done Wrong q cs (pushed k [] Fine)) (sym (append-nil before)) (subst (λ q. Done before q k.rest) (sym (append-nil cs)) d, n)
each_says_on P Done Wrong f w before cs k (b ∷ bs) (x, h) d n =
    let p = f k b in
    says_added Done Wrong before cs k b bs p.kept p.chunks p.ending (each_byte f p.kept bs) d n (w.step before cs k b x d n)
    (λ e m. each_says_on P Done Wrong f w (before ++ b ∷ []) (cs ++ p.chunks) p.kept bs h e m)

-- of all the bytes of a stage's input
pub each_says : (P : ℕ → Type 0) (Done : List ℕ → List (List ℕ) → List ℕ → Type 0) (Wrong : List (List ℕ) → List ℕ → ℕ → ℕ → ℕ → ℕ → Type 0) (f : Kept → ℕ → Pushed) → Stepwise P Done Wrong f →
    (bs : List ℕ) → EachIs P bs → Done [] [] [] → (Says Done Wrong bs (each_byte f nothing_kept bs)) × (Counted (each_byte f nothing_kept bs).ending (each_byte f nothing_kept bs).kept (length bs))
each_says P Done Wrong f w bs h d = each_says_on P Done Wrong f w [] [] nothing_kept bs h d refl

-- what is whole stays whole where a byte comes: cut there, or kept
pub whole_cut_here : (cs : List (List ℕ)) (rest : List ℕ) (before : List ℕ) (b : ℕ) → concat cs ++ rest ≡ before → concat (cs ++ (rest ++ b ∷ []) ∷ []) ++ [] ≡ before ++ b ∷ []
whole_cut_here cs rest before b h =
    append-nil (concat (cs ++ (rest ++ b ∷ []) ∷ [])) ∙ joined_append cs ((rest ++ b ∷ []) ∷ []) ∙ ap (λ q. concat cs ++ q) (append-nil (rest ++ b ∷ []))
    ∙ sym (append_assoc (concat cs) rest (b ∷ [])) ∙ ap (λ q. q ++ b ∷ []) h

pub whole_kept_here : (cs : List (List ℕ)) (rest : List ℕ) (before : List ℕ) (b : ℕ) → concat cs ++ rest ≡ before → concat (cs ++ []) ++ (rest ++ b ∷ []) ≡ before ++ b ∷ []
whole_kept_here cs rest before b h =
    ap (λ q. concat q ++ (rest ++ b ∷ [])) (append-nil cs) ∙ sym (append_assoc (concat cs) rest (b ∷ [])) ∙ ap (λ q. q ++ b ∷ []) h

pub all_units : (bs : List ℕ) → EachIs (λ b. Unit {0}) bs
all_units [] = tt
all_units (b ∷ bs) = (tt, all_units bs)

-- what says more says less
pub says_less : (Done Less : List ℕ → List (List ℕ) → List ℕ → Type 0) (Wrong : List (List ℕ) → List ℕ → ℕ → ℕ → ℕ → ℕ → Type 0) → ((b : List ℕ) (cs : List (List ℕ)) (r : List ℕ) → Done b cs r → Less b cs r) →
    (b : List ℕ) (cs : List (List ℕ)) (r : List ℕ) (e : Ending) → SaysBy Done Wrong b cs r e → SaysBy Less Wrong b cs r e
says_less Done Less Wrong f b cs r Fine h = f b cs r h
says_less Done Less Wrong f b cs r (Bad c p) (before, byte, after, left, e, d, w) = (before, byte, after, left, e, f before cs left d, w)

pub counted_fine : (e : Ending) (k : Kept) (n : ℕ) → Counted e k n → e ≡ Fine → k.bytes ≡ n
counted_fine Fine k n h e = h
counted_fine (Bad c p) k n h e = cc

pub each_is_all : (P : ℕ → Type 0) (bs : List ℕ) → All P bs → EachIs P bs
each_is_all P [] h = tt
each_is_all P (b ∷ bs) h = (All-head P b bs h, each_is_all P bs (All-tail P b bs h))

-- a stage that sees bytes sees all its input's bytes at once
pub input_is_one : EachInputIsOne
input_is_one w f g x =
    let m = byte_machine w f g in
    let p = each_byte f nothing_kept (concat x.items) in (
      more_bytes w f g nothing_kept x.items x.mark ∙ sym (bytes_then (piece p) (at_end m p.kept x.mark)),
      λ e. as_cut w e,
      verdict_bytes w f g nothing_kept x.items x.mark,
    ) where
      as_cut : (w : Packing) → w ≡ AsCut → through (byte_machine w f g) nothing_kept x ≡ then_told (piece (each_byte f nothing_kept (concat x.items))) (at_end (byte_machine w f g) (each_byte f nothing_kept (concat x.items)).kept x.mark)
      as_cut w e = subst (λ w. through (byte_machine w f g) nothing_kept x ≡ then_told (piece (each_byte f nothing_kept (concat x.items))) (at_end (byte_machine w f g) (each_byte f nothing_kept (concat x.items)).kept x.mark)) (sym e) (more_cut f g nothing_kept x.items x.mark)

-- what is said of its steps is said of all of them
pub says_all : (Done Held : List ℕ → List (List ℕ) → List ℕ → Type 0) (Wrong : List (List ℕ) → List ℕ → ℕ → ℕ → ℕ → ℕ → Type 0) (P : ℕ → Type 0) (f : Kept → ℕ → Pushed) → Stepwise P Held Wrong f → ((b : List ℕ) (cs : List (List ℕ)) (r : List ℕ) → Held b cs r → Done b cs r) → Held [] [] [] → (input : List ℕ) → EachIs P input → SaysAll Done Wrong f input
says_all Done Held Wrong P f w less begin input h =
    let p = each_byte f nothing_kept input in
    let r = each_says P Held Wrong f w input h begin in
    (says_less Held Done Wrong less input p.chunks p.kept.rest p.ending r.0, counted_fine p.ending p.kept (length input) r.1)

-- a byte, and then the rest
pub each_cons : (f : Kept → ℕ → Pushed) (k : Kept) (b : ℕ) (bs : List ℕ) (p : Pushed) → f k b ≡ p → each_byte f k (b ∷ bs) ≡ added p.chunks p.ending p.kept (each_byte f p.kept bs)
each_cons f k b bs p h = ap (λ q. added q.chunks q.ending q.kept (each_byte f q.kept bs)) h

abbrev pub kept_of : List ℕ → ℕ → ℕ → Kept
kept_of rest y n = record { rest = rest; bytes = y; chunks = n }
