-- What a pipe writes, and what it waits for.
use Rattle.std.specs.Prelude.{ℕ, ◌+◌, ◌≡◌, ◌≤◌, ◌⊎◌, Bool, true, false, ◌||◌, nat_eq, List, ◌∷◌, ◌++◌, Option, Some, None, Result, Ok, []}
use Rattle.ws_value.specs.declared.ids.PipeId.{PipeId}
use Rattle.ws_value.specs.declared.ids.PromiseId.{PromiseId}
use Rattle.ws_value.specs.declared.value.Plain.{Plain}
use Rattle.ws_value.specs.declared.value.Plain.TheVariants.{Undefined}
use Rattle.ws_value.specs.declared.value.Value.{Value}
use Rattle.ws_steps.specs.declared.effects.Effect.{Effect}
use Rattle.ws_steps.specs.declared.effects.Effect.TheVariants.{Pipe as OnPipe, Settle}
use Rattle.ws_steps.specs.declared.pipes.Phase.TheVariants.{Waiting, Acting}
use Rattle.ws_steps.specs.declared.pipes.PipeOperation.TheVariants.{ActionSettled, PartSettled}
use Rattle.ws_steps.specs.declared.promises.Job.{Job}
use Rattle.ws_steps.specs.declared.promises.Job.TheVariants.{Reaction as ReactionJob, Micro as MicroJob}
use Rattle.ws_steps.specs.declared.promises.Micro.TheVariants.{PipeWrite}
use Rattle.ws_steps.specs.declared.promises.Reaction.{Reaction}
use Rattle.ws_steps.specs.declared.promises.Reaction.TheVariants.{Perform, Adopt}
use Rattle.ws_steps.specs.declared.promises.Step.{Step}
use Rattle.ws_steps.specs.declared.promises.Step.TheVariants.{PipeWrote, PipeActed, PipePart}
use Rattle.ws_pipe_laws.specs.pipes.PipeHistory.{is_live, is_acting, run_moments, promises_made}
use Rattle.ws_steps.specs.Promises as promises
use Rattle.ws_steps.specs.Promises.{Table, is_pending_at}
use Rattle.ws_steps.specs.Jobs.{begin_job}
use Rattle.ws_steps.specs.Run.{Entry, run, step}
use Rattle.ws_steps.specs.Slots as realm
use Rattle.ws_steps.specs.Turns.{Moment, row}
use Rattle.ws_pipe_laws.specs.pipes.PipeMoves.{writes_first}
use Rattle.ws_pipe_laws.specs.pipes.PipeReads.{one_if}

-- what a pipe writes

-- whether a microtask is queued that writes the chunk which pipe p holds
abbrev pub has_write : PipeId → List Job → Bool
has_write p [] = false
has_write p (MicroJob (PipeWrite q) ∷ js) = nat_eq p.0 q.0 || has_write p js
has_write p (j ∷ js) = has_write p js

abbrev pub EachHeldChunkIsQueued : Type 0
EachHeldChunkIsQueued =
    (entries : List Entry) (p : PipeId) (v : Value) → let s : realm.Slots = run entries realm.empty in
    (realm.pipe_at p s).held ≡ Some v → has_write p s.promises.jobs ≡ true

-- what the steps weigh of the reactions that are registered with promises, and of the jobs of those that are queued

abbrev pub in_reactions : (Step → ℕ) → List Reaction → ℕ
in_reactions f [] = 0
in_reactions f (Perform step derived ∷ rs) = f step + in_reactions f rs
in_reactions f (Adopt p ∷ rs) = in_reactions f rs

abbrev pub in_entry : (Step → ℕ) → Option promises.Entry → ℕ
in_entry f None = 0
in_entry f (Some e) = in_reactions f e.reactions

abbrev pub in_entries : (Step → ℕ) → List (Option promises.Entry) → ℕ
in_entries f [] = 0
in_entries f (e ∷ es) = in_entry f e + in_entries f es

abbrev pub in_jobs : (Step → ℕ) → List Job → ℕ
in_jobs f [] = 0
in_jobs f (ReactionJob step outcome derived ∷ js) = f step + in_jobs f js
in_jobs f (j ∷ js) = in_jobs f js

abbrev pub outstanding : (Step → ℕ) → Table → ℕ
outstanding f t = in_entries f t.entries + in_jobs f t.jobs

-- 1 for the step of a write of pipe p, and for that of its action

abbrev pub of_write : PipeId → Step → ℕ
of_write p (PipeWrote q) = one_if (nat_eq p.0 q.0)
of_write p _ = 0

abbrev pub of_action : PipeId → Step → ℕ
of_action p (PipeActed q) = one_if (nat_eq p.0 q.0)
of_action p _ = 0

pub record IsOwed (p : PipeId) (s : realm.Slots) : Type 0 where
  pub writes : outstanding (of_write p) s.promises ≤ (realm.pipe_at p s).unsettled
  pub action : outstanding (of_action p) s.promises ≤ one_if (is_acting (realm.pipe_at p s).phase)

abbrev pub EachPipeIsOwed : Type 0
EachPipeIsOwed = (entries : List Entry) (p : PipeId) → IsOwed p (run entries realm.empty)

-- what holds of each moment
abbrev pub AllMoments : (Moment → Type 0) → List Moment → Type 0
AllMoments P [] = Unit {0}
AllMoments P (m ∷ ms) = P m × AllMoments P ms

-- and of each with the moments before it
abbrev pub AllSince : (List Moment → Moment → Type 0) → List Moment → List Moment → Type 0
AllSince P past [] = Unit {0}
AllSince P past (m ∷ ms) = P past m × AllSince P (past ++ m ∷ []) ms

abbrev pub EachActionSettlesWhileActing : Type 0
EachActionSettlesWhileActing =
    (entries : List Entry) (p : PipeId)
    → AllMoments (λ m. (o : Result Plain Plain) → m.effect ≡ OnPipe p (ActionSettled o) → (realm.pipe_at p m.found).phase ≡ Acting)
    (run_moments entries realm.empty)

-- the slots that the effect of a moment leaves
abbrev pub leaves : Moment → realm.Slots
leaves m = (row m.effect m.found).slots

-- At this moment pipe p begins its action, or ends without one; and it had waited, or its destination was writable and not closing
pub record BeginsToAct (p : PipeId) (m : Moment) : Type 0 where
  pub live : is_live (realm.pipe_at p m.found).phase ≡ true
  pub acts : is_live (realm.pipe_at p (leaves m)).phase ≡ false
  pub first : ((realm.pipe_at p m.found).phase ≡ Waiting) ⊎ (writes_first (realm.ends_at (realm.pipe_at p m.found) m.found) ≡ true)

-- no chunk is held, each write has settled, and no reaction to a write is outstanding
pub record HasNothingLeft (p : PipeId) (s : realm.Slots) : Type 0 where
  pub held : (realm.pipe_at p s).held ≡ None
  pub unsettled : (realm.pipe_at p s).unsettled ≡ 0
  pub reactions : outstanding (of_write p) s.promises ≡ 0

abbrev pub EachPipeActsInOrder : Type 0
EachPipeActsInOrder =
    (entries : List Entry) (p : PipeId) → AllMoments (λ m. BeginsToAct p m → HasNothingLeft p (leaves m)) (run_moments entries realm.empty)

abbrev pub AllSettled : Table → List PromiseId → Type 0
AllSettled t [] = Unit {0}
AllSettled t (d ∷ ds) = (is_pending_at d t ≡ false) × AllSettled t ds

abbrev pub NoneActsWhileAWriteIsOpen : Type 0
NoneActsWhileAWriteIsOpen =
    (entries : List Entry) (p : PipeId)
    → AllSince (λ past m. BeginsToAct p m → AllSettled (leaves m).promises (promises_made p past)) [] (run_moments entries realm.empty)

-- whoever waits for a reaction, where one does, hears that it is done
abbrev pub tells_done : Option PromiseId → List Effect
tells_done None = []
tells_done (Some d) = Settle d (Ok Undefined) ∷ []

pub record IsHeard (p : PipeId) (outcome : Result Plain Plain) (derived : Option PromiseId) (js : List Job) (s : realm.Slots) : Type 0 where
  pub action : s.promises.jobs ≡ ReactionJob (PipeActed p) outcome derived ∷ js
      → (begin_job s).caused ≡ OnPipe p (ActionSettled outcome) ∷ tells_done derived
  pub part : s.promises.jobs ≡ ReactionJob (PipePart p) outcome derived ∷ js
      → (begin_job s).caused ≡ OnPipe p (PartSettled outcome) ∷ tells_done derived

abbrev pub EachActionIsHeard : Type 0
EachActionIsHeard =
    (p : PipeId) (outcome : Result Plain Plain) (derived : Option PromiseId) (js : List Job) (s : realm.Slots) → IsHeard p outcome derived js s
