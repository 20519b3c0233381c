-- What is reached by a part of the bytes is a prefix of what is reached by all.
use Rattle.std.proofs.Common.{◌≡◌, ℕ, true, false, List, ◌++◌, refl, sym, ap, ◌∙◌, subst}
use Rattle.ws_flow.specs.Machines.{all_through, some_chunk}
use Rattle.ws_flow.specs.Plans.{as_one, reach, sees_known_chunks}
use Rattle.ws_flow.specs.Stages.{machines}
use Rattle.ws_flow.specs.Told.{bytes_of, Mark, Open, Told, told, IsBefore}
use Rattle.ws_flow.proofs.Cutting.{joined_append, some_joined, same_cut}
use Rattle.ws_flow.proofs.Headline.{bytes_before}
use Rattle.ws_flow.proofs.Through.{all_before}
use Rattle.ws_flow.specs.declared.plan.Stage.{Stage}
use Rattle.std.specs.List.{concat}

pub reach_before : (ss : List Stage) (a b : List ℕ) (e : Mark) → sees_known_chunks false ss ≡ true → IsBefore (bytes_of (reach ss a Open)) (bytes_of (reach ss (a ++ b) e))
reach_before ss a b e w =
    let two : Told (List ℕ) = told (some_chunk a ++ some_chunk b) e in
    let same = same_cut ss two (as_one (a ++ b) e) w (ap (λ q. told q e) (joined_append (some_chunk a) (some_chunk b) ∙ ap (λ q. q ++ concat (some_chunk b)) (some_joined a) ∙ ap (λ q. a ++ q) (some_joined b) ∙ sym (some_joined (a ++ b)))) in
    subst (λ q. IsBefore (bytes_of (reach ss a Open)) q) same.bytes
    (bytes_before (reach ss a Open) (all_through (machines ss) two) (all_before (machines ss) (as_one a Open) two (some_chunk b, refl)))
