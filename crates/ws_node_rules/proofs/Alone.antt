-- A run of one node: what its output got, and what its stages found, of all that was read.
use Rattle.std.proofs.Common.{◌≡◌, ℕ, true, false, List, [], ◌∷◌, ◌++◌, refl, sym, subst, append-nil}
use Rattle.std.specs.List.{concat}
use Rattle.ws_flow.specs.declared.plan.Ending.TheVariants.{Bad}
use Rattle.ws_flow.specs.declared.plan.Stage.{Stage}
use Rattle.ws_flow.specs.Chains.{Host, Member, Chained}
use Rattle.ws_flow.specs.Machines.{ending, EndsWell}
use Rattle.ws_flow.specs.Parts.{Part, Flows, found}
use Rattle.ws_flow.specs.Plans.{as_one, reach, sees_known_chunks}
use Rattle.ws_flow.specs.Stages.{machines}
use Rattle.ws_flow.specs.Told.{bytes_of, Closed, Told, then_told, IsBefore}
use Rattle.ws_flow.proofs.Members.{chain_got, chain_stage, chain_done}

module _ (ss : List Stage) (read went behind : Told (List ℕ)) (ps : List Part) (got : Told ℕ) (known : sees_known_chunks false ss ≡ true)
    (flows : Flows (machines ss) read ps (then_told went behind)) (written : IsBefore got (bytes_of went)) where
  abbrev one : Member
  one = record { stages = ss; from = Host (bytes_of read); parts = ps; behind = behind; to = Host got }

  chained : Chained (bytes_of read) (one ∷ []) got
  chained = (refl, record { came = read; went = went; is_came = refl; is_went = written; flows = flows }, refl)

  all_known : sees_known_chunks false (ss ++ []) ≡ true
  all_known = subst (λ q. sees_known_chunks false q ≡ true) (sym (append-nil ss)) known

  pub got-before : IsBefore got (bytes_of (reach ss (concat read.items) read.mark))
  got-before = subst (λ q. IsBefore got (bytes_of (reach q (concat read.items) read.mark))) (append-nil ss) (chain_got (bytes_of read) (one ∷ []) got all_known chained)

  pub found-bad : (j code place : ℕ) → found ps j ≡ Bad code place → ending (machines ss) j (as_one (concat read.items) read.mark) ≡ Bad code place
  found-bad j code place f =
      subst (λ q. ending (machines q) j (as_one (concat read.items) read.mark) ≡ Bad code place) (append-nil ss)
      (chain_stage (bytes_of read) (one ∷ []) got j code place all_known chained
      (subst (λ q. found q j ≡ Bad code place) (sym (append-nil ps)) f))

  pub closed-whole : got.mark ≡ Closed →
      (bytes_of (reach ss (concat read.items) read.mark) ≡ got) × EndsWell (machines ss) (as_one (concat read.items) read.mark)
  closed-whole c =
      subst (λ q. (bytes_of (reach q (concat read.items) read.mark) ≡ got) × EndsWell (machines q) (as_one (concat read.items) read.mark)) (append-nil ss)
      (chain_done (bytes_of read) (one ∷ []) got all_known chained c)
