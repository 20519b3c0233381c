-- Lines with many words.
use Rattle.std.proofs.Common.{◌≡◌, ◌-◌, ℕ, ◌≤◌, List, [], ◌∷◌, length, get_or, take, drop, map, Bor, ap, arith}
use Rattle.std.proofs.lemmas.List.{take_rest}
use Rattle.ws_grammar.specs.Calls.{call_of, call_on_more}

-- six words or more
pub call_of_many : (words : List (Bor (List ℕ))) (none : Bor (List ℕ)) → 6 ≤ length words
    → call_on_more (get_or words 0 none).now (get_or words 1 none).now (get_or words 2 none).now (map (λ word. word.now) (take (length words - 3) (drop 3 words))) ≡ call_of (map (λ word. word.now) words)
call_of_many [] none h = absurd (omega arith)
call_of_many (a ∷ []) none h = absurd (omega arith)
call_of_many (a ∷ b ∷ []) none h = absurd (omega arith)
call_of_many (a ∷ b ∷ c ∷ []) none h = absurd (omega arith)
call_of_many (a ∷ b ∷ c ∷ d ∷ []) none h = absurd (omega arith)
call_of_many (a ∷ b ∷ c ∷ d ∷ e ∷ []) none h = absurd (omega arith)
call_of_many (a ∷ b ∷ c ∷ d ∷ e ∷ f ∷ words) none h =
    ap (λ (more : List (Bor (List ℕ))). call_on_more a.now b.now c.now (map (λ word. word.now) more)) (take_rest (a ∷ b ∷ c ∷ d ∷ e ∷ f ∷ words) 3)
