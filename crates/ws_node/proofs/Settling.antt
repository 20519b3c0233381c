-- What comes out of a stage is put out, and what was asked of it is settled by its ending.
use Rattle.std.proofs.Common.{◌≡◌, ◌≢◌, ◌+◌, ◌*◌, ◌/◌, ◌≤◌, ◌<◌, ℕ, suc, List, [], ◌∷◌, ◌++◌, length, Some, None, refl, sym, ap, ◌∙◌, subst, append_assoc, arith}
use Rattle.std.specs.Prelude.{slice_get, All}
use Rattle.std.proofs.lemmas.List.Elements.{All-nil, All-cons}
use Rattle.ws_value.specs.declared.fault.Fault.TheVariants.{Stage as StageFault}
use Rattle.ws_value.specs.declared.ids.HostId.{HostId}
use Rattle.ws_value.specs.declared.ids.StreamId.{StreamId}
use Rattle.ws_value.specs.declared.value.Plain.TheVariants.{Fault as FaultReason}
use Rattle.ws_flow.specs.declared.plan.Ending.{Ending}
use Rattle.ws_flow.specs.declared.plan.Ending.TheVariants.{Fine, Bad}
use Rattle.ws_node.specs.Shape.{Shape, count_in}
use Rattle.ws_flow.specs.Parts.{Over}
use Rattle.ws_flow.specs.Told.{Open, Told, told, then_told, IsShortOf}
use Rattle.ws_flow.proofs.Told.{short_trans}
use Rattle.ws_stages.specs.State.{State}
use Rattle.ws_stages.specs.declared.work.Pushed.{Pushed}
use Rattle.ws_steps.specs.declared.calls.Answer.{Answer}
use Rattle.ws_steps.specs.declared.calls.Answer.TheVariants.{Ok as AnswerOk, Fail as AnswerFail}
use Rattle.ws_steps.specs.declared.calls.Call.{Call}
use Rattle.ws_steps.specs.declared.calls.Call.TheVariants.{Settle}
use Rattle.ws_steps.specs.declared.calls.HostCall.{HostCall}
use Rattle.ws_steps.specs.declared.calls.HostCall.TheVariants.{Close, Flush}
use Rattle.ws_steps.specs.Run.{Entry}
use Rattle.ws_chain_laws.specs.Chain.{source_of, behind_at}
use Rattle.ws_end_laws.specs.hosts.HostCalls.{called}
use Rattle.ws_reason_laws.specs.Reasons.{failure_of}
use Rattle.ws_node.specs.Fair.{IsFairAnswer}
use Rattle.ws_node.specs.declared.node.Node.{Node}
use Rattle.ws_node.specs.Moves.{Asks, Enqueues, IsAt, PutsAll, settles_by}
use Rattle.ws_node.specs.Node.{stage_of}
use Rattle.ws_node.specs.Past.{EndedAs, EndsHave, IsCause, IsOwnStage, OneAtMost, Led, Own}
use Rattle.ws_node.proofs.Called.{may-settle}
use Rattle.ws_node.proofs.Entries.{called-longer}
use Rattle.ws_node.proofs.Handing.{lies_to}
use Rattle.ws_node.proofs.Putting.{puts, asks-quietly, settle-quiet}
use Rattle.ws_node.proofs.Since.{MayAsk, OnlyRealm, only-then}

-- the stage's number in the plan, where so many stand on the nodes before
abbrev pub answer_by : ℕ → StreamId → Ending → Answer
answer_by first i Fine = AnswerOk
answer_by first i (Bad code place) = AnswerFail (FaultReason (StageFault (first + stage_of i) code place))

settles-as : (first : ℕ) (id : HostId) (i : StreamId) (e : Ending) → settles_by first id i e ≡ Settle id (answer_by first i e)
settles-as first id i Fine = refl
settles-as first id i (Bad code place) = refl

ends-fine : (first : ℕ) (i : StreamId) (e : Ending) → answer_by first i e ≡ AnswerOk → e ≡ Fine
ends-fine first i Fine h = refl
ends-fine first i (Bad code place) h = absurd (cc)

fair-answer : (first : ℕ) (i : StreamId) (e : Ending) → IsFairAnswer (answer_by first i e)
fair-answer first i Fine = tt
fair-answer first i (Bad code place) = refl

causes : (id : HostId) (i : StreamId) (e : Ending) (n : Node) → ((code place : ℕ) → e ≡ Bad code place → EndedAs (stage_of i) code place n.core.stages.items)
    → All (IsCause n) (failure_of (Settle id (answer_by n.core.first i e)))
causes id i Fine n bad = All-nil (IsCause n)
causes id i (Bad code place) n bad =
    let own : IsOwnStage n (n.core.first + stage_of i) code place = record { number = stage_of i; counted = refl; ended = bad code place refl } in
    All-cons (IsCause n) (FaultReason (StageFault (n.core.first + stage_of i) code place)) [] (Own own) (All-nil (IsCause n))

-- the number of a stage, and which one it is

halved : (k : ℕ) → k + 1 ≡ 2 * suc k / 2
halved k = omega arith

pub ended-as : (i : StreamId) (code place : ℕ) (items before after : List State) (v : State) → i ≡ source_of (suc (length before)) → items ≡ before ++ v ∷ after → v.work ≡ Over (Bad code place)
    → EndedAs (stage_of i) code place items
ended-as i code place items before after v at whole over =
    record { before = before; after = after; state = v; numbered = subst (λ s. length before + 1 ≡ stage_of s) (sym at) (halved (length before)); whole = whole; over = over }

same-stage : (first before last after : List State) (w v : State) → length first ≡ length before → first ++ w ∷ last ≡ before ++ v ∷ after → w ≡ v
same-stage [] [] last after w v l e = grind arith
same-stage (x ∷ first) (y ∷ before) last after w v l e = same-stage first before last after w v (omega arith) (let f : first ++ w ∷ last ≡ before ++ v ∷ after = grind arith in f)
same-stage [] (y ∷ before) last after w v l e = grind arith
same-stage (x ∷ first) [] last after w v l e = grind arith

same-place : (j k : ℕ) → source_of (suc j) ≡ source_of (suc k) → j ≡ k
same-place j k e = let f : 2 * suc j ≡ 2 * suc k = ap (λ (s : StreamId). s.0) e in omega arith

pub the-stage : (i : StreamId) (items before after : List State) (v : State) → i ≡ source_of (suc (length before)) → items ≡ before ++ v ∷ after
    → (first last : List State) (w : State) → IsAt i items first w last → w ≡ v
the-stage i items before after v at whole first last w there =
    same-stage first before last after w v (same-place (length first) (length before) (sym there.place ∙ at)) (sym there.whole ∙ whole)

-- the settling of a call that isn't a close: a failure with the stage that ended badly, or of a flush, well where the stage ended fine
pub may-answer : (shape : Shape) (past more : List Entry) (id : HostId) (i : StreamId) (e : Ending) (call : HostCall) (n : Node) → slice_get (called past) id.0 ≡ Some call
    → ((s : StreamId) → call ≡ Close s → ⊥) → ((code place : ℕ) → e ≡ Bad code place → EndedAs (stage_of i) code place n.core.stages.items)
    → ((s : StreamId) → call ≡ Flush s → e ≡ Fine → (first last : List State) (w : State) → IsAt s n.core.stages.items first w last → w.work ≡ Over Fine)
    → MayAsk shape (past ++ more) n (Settle id (answer_by n.core.first i e))
may-answer shape past more id i e call n is no_close bad fine =
    may-settle shape (past ++ more) n id call (called-longer past more id call is) (answer_by n.core.first i e) (causes id i e n bad) (fair-answer n.core.first i e)
    (λ c x feeds. absurd (no_close n.exit.sink c)) (λ s f x. fine s f (ends-fine n.core.first i e x))

pub record AfterAll (shape : Shape) (past : List Entry) (m : ℕ) (chunks : List (List ℕ)) (a b : Node) : Type 0 where
  pub more : List Entry
  pub led : Led shape (past ++ more) b
  pub only : OnlyRealm a b
  pub there : (t : Told (List ℕ)) → IsShortOf (lies_to t b (suc m)) (lies_to (then_told (told chunks Open) t) a (suc m))
  pub elsewhere : (t : Told (List ℕ)) (k : ℕ) → k ≤ count_in shape → k ≢ suc m → IsShortOf (lies_to t b k) (lies_to t a k)
  pub one : (q : ℕ) → OneAtMost q (behind_at 0 a.core.realm.slots).items → OneAtMost q (behind_at 0 b.core.realm.slots).items
  pub younger : b.core.stopped ≡ None → a.core.realm.slots.age < b.core.realm.slots.age
  pub ends : EndsHave shape past a → EndsHave shape (past ++ more) b

pub puts-all : (shape : Shape) (past : List Entry) (m : ℕ) (id : HostId) (i : StreamId) (p : Pushed) (a b : Node) → suc m ≤ count_in shape → i ≡ source_of (suc m) → Led shape past a
    → ((more : List Entry) (n : Node) → OnlyRealm a n → MayAsk shape (past ++ more) n (Settle id (answer_by n.core.first i p.ending))) → PutsAll id i p a b → AfterAll shape past m p.chunks.items a b
puts-all shape past m id i p a b less at led may all =
    let x : Answer = answer_by a.core.first i p.ending in
    let first = puts shape m less past p.chunks.items a all.between led (subst (λ s. Enqueues s p.chunks.items a all.between) at all.enqueued) in
    let last = asks-quietly shape (past ++ first.more) all.between b (Settle id x) tt (settle-quiet shape id x) first.led
    (subst (λ (k : ℕ). MayAsk shape (past ++ first.more) all.between (Settle id (answer_by k i p.ending))) (ap (λ (n : Node). n.core.first) first.only.is) (may first.more all.between first.only))
    (subst (λ (c : Call). Asks c all.between b) (settles-as a.core.first id i p.ending) all.ended) in
    record {
      more = first.more ++ last.more;
      led = subst (λ q. Led shape q b) (append_assoc past first.more last.more) last.led;
      only = only-then a all.between b first.only last.only;
      there = λ t. short_trans _ _ _ (last.lies t (suc m) less) (first.there t);
      elsewhere = λ t k l other. short_trans _ _ _ (last.lies t k l) (first.elsewhere t k l other);
      one = λ q o. last.one q (first.one q o);
      younger = λ e. let f = first.older (last.before e) in let g = last.older e in omega arith;
      ends = λ h. subst (λ q. EndsHave shape q b) (append_assoc past first.more last.more) (last.ends (first.ends h));
    }
