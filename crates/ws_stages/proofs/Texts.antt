-- The bytes of a text, one after another.
use Rattle.std.proofs.Common.{◌≡◌, ◌≢◌, ℕ, List, [], ◌∷◌, ◌++◌, sym, ap, ◌∙◌}
use Rattle.std.specs.List.{concat}
use Rattle.ws_flow.specs.declared.plan.Ending.TheVariants.{Fine}
use Rattle.ws_flow.specs.Machines.{Kept, Pushed, pushed, added, each_byte}
use Rattle.ws_flow.proofs.Cutting.{each_append, joined_append}
use Rattle.ws_stages.specs.Cuts.{with_text}
use Rattle.ws_stages.proofs.Bytes.{each_one, each_bad}

-- what was seen is what came of the first bytes, and then of one more byte, with these after it
text_more : (f : Kept → ℕ → Pushed) (k : Kept) (front : List ℕ) (b : ℕ) (rest : List ℕ) (old new : Pushed) (text : List ℕ) →
    pushed old.kept (text ∷ []) old.ending ≡ with_text [] (each_byte f k front) → old.ending ≡ Fine → new ≡ with_text text (f old.kept b) →
    each_byte f old.kept (b ∷ rest) ≡ f old.kept b → new ≡ with_text [] (each_byte f k (front ++ b ∷ rest))
text_more f k front b rest old new text o e n one =
    let p = each_byte f k front in
    n
    ∙ ap (λ z. with_text text z) (sym one)
    ∙ ap (λ z. with_text text (each_byte f z.kept (b ∷ rest))) o
    ∙ ap (λ z. with_text z (each_byte f p.kept (b ∷ rest))) (text_is (ap (λ z. z.chunks) o))
    ∙ join p (each_byte f p.kept (b ∷ rest)) (sym (ap (λ z. z.ending) o) ∙ e)
    ∙ ap (λ z. with_text [] z) (sym (each_append f k front (b ∷ rest))) where
      text_is : text ∷ [] ≡ concat (each_byte f k front).chunks ∷ [] → text ≡ concat (each_byte f k front).chunks
      text_is h = cc

      join : (p q : Pushed) → p.ending ≡ Fine → with_text (concat p.chunks) q ≡ with_text [] (added p.chunks p.ending p.kept q)
      join p q e = ap (λ z. pushed q.kept (z ∷ []) q.ending) (sym (joined_append p.chunks q.chunks)) ∙ ap (λ z. with_text [] (added p.chunks z p.kept q)) (sym e)

pub text_goes_on : (f : Kept → ℕ → Pushed) (k : Kept) (front : List ℕ) (b : ℕ) (old new : Pushed) (text : List ℕ) →
    pushed old.kept (text ∷ []) old.ending ≡ with_text [] (each_byte f k front) → old.ending ≡ Fine → new ≡ with_text text (f old.kept b) → new ≡ with_text [] (each_byte f k (front ++ b ∷ []))
text_goes_on f k front b old new text o e n = text_more f k front b [] old new text o e n (each_one f old.kept b)

pub text_stops : (f : Kept → ℕ → Pushed) (k : Kept) (front : List ℕ) (b : ℕ) (rest : List ℕ) (old new : Pushed) (text : List ℕ) →
    pushed old.kept (text ∷ []) old.ending ≡ with_text [] (each_byte f k front) → old.ending ≡ Fine → new ≡ with_text text (f old.kept b) → new.ending ≢ Fine → new ≡ with_text [] (each_byte f k (front ++ b ∷ rest))
text_stops f k front b rest old new text o e n bad = text_more f k front b rest old new text o e n (each_bad f old.kept b rest (λ h. bad (ap (λ z. z.ending) n ∙ h)))
