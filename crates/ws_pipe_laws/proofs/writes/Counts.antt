-- What the specification counts in the promises, and when a pipe acts, is the same as in the proofs.
use Rattle.std.proofs.Common.{◌≡◌, ℕ, ◌≤◌, Bool, true, false, nat_eq, List, [], ◌∷◌, Option, Some, None, refl, sym, arith}
use Rattle.ws_value.specs.declared.ids.{PipeId.{PipeId}}
use Rattle.ws_steps.specs.declared.pipes.{Phase.{Phase}, Phase.TheVariants.{Flowing, Waiting, Acting, Over}}
use Rattle.ws_steps.specs.declared.promises.{Job.{Job}, Job.TheVariants.{Reaction as ReactionJob, Follow, Settle as SettleJob, Micro as MicroJob}}
use Rattle.ws_steps.specs.declared.promises.{Step.{Step}, Step.TheVariants.{ReadableStart, ReadablePull, ReturnUndefined, WritableStart, WritableWrite, WritableClose, WritableAbort, PipeEnds, PipeReady, PipeWrote, PipeActed, PipePart, TransformChanged, PortUnblocked, Transformed, TransformFlushed, TransformAborted, TransformCancelled, TeeEnds}}
use Rattle.ws_steps.specs.Pipes as pipe
use Rattle.ws_steps.specs.Promises.{Table}
use Rattle.ws_laws.proofs.Weights.{weigh}
use Rattle.ws_writable_laws.proofs.Shape.{of_reaction, weight}
use Rattle.ws_pipe_laws.specs.pipes.PipeHistory.{is_acting}
use Rattle.ws_pipe_laws.specs.pipes.PipeReads.{one_if}
use Rattle.ws_pipe_laws.specs.pipes.PipeWrites.{in_reactions, in_entry, in_entries, in_jobs, outstanding, of_action}
use Rattle.ws_steps.specs.Promises as promises
use Rattle.ws_steps.specs.Slots.{as_pipe}
use Rattle.ws_steps.specs.declared.promises.{Reaction.{Reaction}, Reaction.TheVariants.{Perform, Adopt}}
use Rattle.ws_laws.proofs.Weights.{of_reactions, of_entry, of_entries, of_jobs}
use Rattle.ws_promise_laws.proofs.PipeActs as acts
use Rattle.ws_promise_laws.proofs.Tokens as tokens

same_reactions : (f : Step → ℕ) (rs : List Reaction) → in_reactions f rs ≡ of_reactions (of_reaction f) rs
same_reactions f [] = refl
same_reactions f (Perform step derived ∷ rs) = let n = same_reactions f rs in omega (arith, n)
same_reactions f (Adopt q ∷ rs) = let n = same_reactions f rs in omega (arith, n)

same_entry : (f : Step → ℕ) (e : Option promises.Entry) → in_entry f e ≡ of_entry (of_reaction f) e
same_entry f None = refl
same_entry f (Some e) = same_reactions f e.reactions

same_entries : (f : Step → ℕ) (es : List (Option promises.Entry)) → in_entries f es ≡ of_entries (of_reaction f) es
same_entries f [] = refl
same_entries f (e ∷ es) = let n = same_entries f es in let m = same_entry f e in omega (arith, n, m)

same_jobs : (f : Step → ℕ) (js : List Job) → in_jobs f js ≡ of_jobs (of_reaction f) js
same_jobs f [] = refl
same_jobs f (ReactionJob step o derived ∷ js) = let n = same_jobs f js in omega (arith, n)
same_jobs f (Follow q r ∷ js) = let n = same_jobs f js in omega (arith, n)
same_jobs f (SettleJob q o ∷ js) = let n = same_jobs f js in omega (arith, n)
same_jobs f (MicroJob m ∷ js) = let n = same_jobs f js in omega (arith, n)

pub same_weight : (f : Step → ℕ) (t : Table) → outstanding f t ≡ weight f t
unfolding weigh
same_weight f t = let n = same_entries f t.entries in let m = same_jobs f t.jobs in omega (arith, n, m)

same_if : (b : Bool) → tokens.one_if b ≡ one_if b
same_if true = refl
same_if false = refl

pub same_action : (p : PipeId) (step : Step) → of_action p step ≡ acts.ends_action p step
same_action p (PipeActed q) = sym (same_if (nat_eq p.0 q.0))
same_action p (ReadableStart i) = refl
same_action p (ReadablePull i) = refl
same_action p ReturnUndefined = refl
same_action p (WritableStart i) = refl
same_action p (WritableWrite i) = refl
same_action p (WritableClose i) = refl
same_action p (WritableAbort i q) = refl
same_action p (PipeEnds q) = refl
same_action p (PipeReady q) = refl
same_action p (PipeWrote q) = refl
same_action p (PipePart q) = refl
same_action p (TransformChanged t d) = refl
same_action p (PortUnblocked c d) = refl
same_action p (Transformed t) = refl
same_action p (TransformFlushed t q) = refl
same_action p (TransformAborted t q r) = refl
same_action p (TransformCancelled t q r) = refl
same_action p (TeeEnds t) = refl

acting_as : (phase : Phase) → tokens.one_if (acts.is_acting phase) ≡ one_if (is_acting phase)
acting_as Flowing = refl
acting_as Waiting = refl
acting_as Acting = refl
acting_as Over = refl

pub acting_place : (n : ℕ) (o : Option pipe.Slots) → n ≤ tokens.one_if (acts.acts_now o) → n ≤ one_if (is_acting (as_pipe o).phase)
acting_place n None w = w
acting_place n (Some x) w = let e = acting_as x.phase in omega (arith, e, w)
