-- What is told of a realm's slots holds of all that are alike to them, where it looks at no promise, or at those alone that are watched.
use Rattle.std.proofs.Common.{◌≡◌, ◌≤◌, ℕ, List, [], ◌∷◌, Option, Some, None, refl, sym, ap, ◌∙◌, subst, option_map}
use Rattle.std.specs.Prelude.{is_some, if◌then◌else◌, option_and_then}
use Rattle.std.specs.List.{list_all}
use Rattle.ws_value.specs.declared.ids.PromiseId.{PromiseId}
use Rattle.ws_flow.specs.Told.{then_told, IsShortOf}
use Rattle.ws_steps.specs.declared.calls.Call.{Call}
use Rattle.ws_steps.specs.Promises.{Entry as PromiseEntry, entry_at, next_job}
use Rattle.ws_steps.specs.Run.{Called, Worked, Heard, after_call, after_job, after_event, first_event}
use Rattle.ws_steps.specs.Slots.{Slots}
use Rattle.ws_alike.specs.Alike.{Alike, trim, watched_entry}
use Rattle.ws_alike.proofs.Running.{run-alike}
use Rattle.ws_alike.proofs.Watched.{watched-alike}
use Rattle.ws_chain_laws.specs.Chain.{Origin, Target, IsChain, LeavesChain, behind_at, call_enters}
use Rattle.ws_chain_laws.specs.Laws.{next_enters, next_heard}
use Rattle.ws_chain_laws.proofs.Keeps.{each_call_keeps_chain, each_job_keeps_chain, each_event_keeps_chain}
use Rattle.ws_realm.specs.Seen.{outcome_named, where_named}
use Rattle.ws_node.specs.Node.{has_settled, has_settled_in}

-- what holds of slots as they are trimmed
carried : (Q : Slots → Slots → Type 0) (s t u v : Slots) → Alike s t → Alike u v → Q (trim t) (trim v) → Q (trim s) (trim u)
carried Q s t u v h k q = subst (λ (z : Slots). Q (trim s) z) (sym k) (subst (λ (z : Slots). Q z (trim v)) (sym h) q)

-- So the laws of a chain are laws of slots that are alike to one: of what lies on its links after a call, a job or an event
module _ (o : Origin) (t : Target) (n : ℕ) (s z : Slots) (alike : Alike s z) (chain : IsChain o t n z) where
  pub call-keeps : (c : Call) → LeavesChain n c → (k : ℕ) → k ≤ n → IsShortOf (behind_at k (after_call c s)) (then_told (behind_at k s) (call_enters o k c))
  call-keeps c leaves k l =
      carried (λ a b. IsShortOf (behind_at k b) (then_told (behind_at k a) (call_enters o k c))) s z (after_call c s) (after_call c z) alike (run-alike (Called c ∷ []) s z alike)
      ((each_call_keeps_chain o t n z c chain leaves).short k l)

  pub job-keeps : (k : ℕ) → k ≤ n → IsShortOf (behind_at k (after_job s)) (then_told (behind_at k s) (next_enters k (next_job s.promises)))
  job-keeps k l =
      carried (λ a b. IsShortOf (behind_at k b) (then_told (behind_at k a) (next_enters k (next_job a.promises)))) s z (after_job s) (after_job z) alike (run-alike (Worked ∷ []) s z alike)
      ((each_job_keeps_chain o t n z chain).short k l)

  pub event-keeps : (k : ℕ) → k ≤ n → IsShortOf (then_told (next_heard o t n k (first_event s.promises.events)) (behind_at k (after_event s))) (behind_at k s)
  event-keeps k l =
      carried (λ a b. IsShortOf (then_told (next_heard o t n k (first_event a.promises.events)) (behind_at k b)) (behind_at k a)) s z (after_event s) (after_event z) alike
      (run-alike (Heard ∷ []) s z alike) ((each_event_keeps_chain o t n z chain).short k l)

-- a promise that is watched

named-by : (r : Option ℕ) (e : PromiseEntry) → where_named r (Some e.outcome) ≡ option_map (λ (x : PromiseEntry). x.outcome) (if is_some r then Some e else None)
named-by None e = refl
named-by (Some rank) e = refl

named-watched : (o : Option PromiseEntry)
    → where_named (option_and_then (λ (x : PromiseEntry). x.rank) o) (option_map (λ (x : PromiseEntry). x.outcome) o) ≡ option_map (λ (x : PromiseEntry). x.outcome) (watched_entry o)
named-watched None = refl
named-watched (Some e) = named-by e.rank e

pub outcome-alike : (p : PromiseId) (s z : Slots) → Alike s z → outcome_named p s ≡ outcome_named p z
outcome-alike p s z h =
    named-watched (entry_at s.promises p)
    ∙ (ap (λ (o : Option PromiseEntry). option_map (λ (x : PromiseEntry). x.outcome) o) (watched-alike p s z h) ∙ sym (named-watched (entry_at z.promises p)))

-- and each of several
pub settled-alike : (s z : Slots) → Alike s z → (ps : List PromiseId) → list_all (has_settled_in s) ps ≡ list_all (has_settled_in z) ps
settled-alike s z h [] = refl
settled-alike s z h (p ∷ ps) =
    let first : has_settled_in s p ≡ has_settled_in z p = ap has_settled (outcome-alike p s z h) in
    let rest : list_all (has_settled_in s) ps ≡ list_all (has_settled_in z) ps = settled-alike s z h ps in
    cc
