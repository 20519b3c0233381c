-- One byte after another, as the loop over a chunk goes.
use Rattle.std.proofs.Common.{◌≡◌, ◌≢◌, ℕ, ◌+◌, ◌<◌, List, [], ◌∷◌, ◌++◌, refl, sym, ap, ◌∙◌, append_assoc, append-nil, length, take, drop, get_or}
use Rattle.std.proofs.lemmas.List.{take_more, take-append-drop}
use Rattle.ws_flow.specs.declared.plan.Ending.{Ending}
use Rattle.ws_flow.specs.declared.plan.Ending.TheVariants.{Fine, Bad}
use Rattle.ws_flow.specs.Machines.{Kept, Pushed, pushed, added, each_byte}
use Rattle.ws_flow.proofs.Cutting.{each_append}
use Rattle.ws_stages.specs.Cuts.{with_chunks}

pub each_one : (f : Kept → ℕ → Pushed) (k : Kept) (b : ℕ) → each_byte f k (b ∷ []) ≡ f k b
each_one f k b = by (f k b).chunks (f k b).ending (f k b).kept where
  by : (cs : List (List ℕ)) (e : Ending) (j : Kept) → added cs e j (pushed j [] Fine) ≡ pushed j cs e
  by cs Fine j = ap (λ q. pushed j q Fine) (append-nil cs)
  by cs (Bad c p) j = refl

pub each_bad : (f : Kept → ℕ → Pushed) (k : Kept) (b : ℕ) (bs : List ℕ) → (f k b).ending ≢ Fine → each_byte f k (b ∷ bs) ≡ f k b
each_bad f k b bs n = by (f k b).chunks (f k b).ending (f k b).kept (each_byte f (f k b).kept bs) n where
  by : (cs : List (List ℕ)) (e : Ending) (j : Kept) (r : Pushed) → e ≢ Fine → added cs e j r ≡ pushed j cs e
  by cs Fine j r n = absurd (n refl)
  by cs (Bad c p) j r n = refl

pub after_fine : (cs : List (List ℕ)) (p q : Pushed) → p.ending ≡ Fine → with_chunks cs (added p.chunks p.ending p.kept q) ≡ with_chunks (cs ++ p.chunks) q
after_fine cs p q e =
    ap (λ z. with_chunks cs (added p.chunks z p.kept q)) e ∙ ap (λ z. pushed q.kept z q.ending) (sym (append_assoc cs p.chunks q.chunks))

-- what was seen is what came of the first bytes, and then of one more byte, with these after it
step_more : (f : Kept → ℕ → Pushed) (k : Kept) (cs : List (List ℕ)) (front : List ℕ) (b : ℕ) (rest : List ℕ) (old new : Pushed) →
    old ≡ with_chunks cs (each_byte f k front) → old.ending ≡ Fine → new ≡ with_chunks old.chunks (f old.kept b) →
    each_byte f old.kept (b ∷ rest) ≡ f old.kept b → new ≡ with_chunks cs (each_byte f k (front ++ b ∷ rest))
step_more f k cs front b rest old new o e n one =
    let p = each_byte f k front in
    n
    ∙ ap (λ z. with_chunks old.chunks z) (sym one)
    ∙ ap (λ z. with_chunks z.chunks (each_byte f z.kept (b ∷ rest))) o
    ∙ sym (after_fine cs p (each_byte f p.kept (b ∷ rest)) (sym (ap (λ z. z.ending) o) ∙ e))
    ∙ ap (λ z. with_chunks cs z) (sym (each_append f k front (b ∷ rest)))

pub goes_on : (f : Kept → ℕ → Pushed) (k : Kept) (cs : List (List ℕ)) (front : List ℕ) (b : ℕ) (old new : Pushed) →
    old ≡ with_chunks cs (each_byte f k front) → old.ending ≡ Fine → new ≡ with_chunks old.chunks (f old.kept b) → new ≡ with_chunks cs (each_byte f k (front ++ b ∷ []))
goes_on f k cs front b old new o e n = step_more f k cs front b [] old new o e n (each_one f old.kept b)

pub stops : (f : Kept → ℕ → Pushed) (k : Kept) (cs : List (List ℕ)) (front : List ℕ) (b : ℕ) (rest : List ℕ) (old new : Pushed) →
    old ≡ with_chunks cs (each_byte f k front) → old.ending ≡ Fine → new ≡ with_chunks old.chunks (f old.kept b) → new.ending ≢ Fine → new ≡ with_chunks cs (each_byte f k (front ++ b ∷ rest))
stops f k cs front b rest old new o e n bad = step_more f k cs front b rest old new o e n (each_bad f old.kept b rest (λ h. bad (ap (λ z. z.ending) n ∙ h)))

pub front_byte_rest : (bs : List ℕ) (i : ℕ) → i < length bs → take i bs ++ get_or bs i 0 ∷ drop (i + 1) bs ≡ bs
front_byte_rest bs i h = sym (append_assoc (take i bs) (get_or bs i 0 ∷ []) (drop (i + 1) bs)) ∙ ap (λ q. q ++ drop (i + 1) bs) (sym (take_more bs i 0 h)) ∙ take-append-drop (i + 1) bs
