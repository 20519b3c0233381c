-- With what calls and jobs begin of what pipes do.
use Rattle.std.proofs.Common.{◌≡◌, List, [], ◌∷◌, Option, Some, None, Result, Ok, refl, ap, ◌∙◌, zero-add, arith}
use Rattle.ws_value.specs.declared.{ids.PipeId.{PipeId}, ids.PromiseId.{PromiseId}, value.Plain.{Plain}, value.Plain.TheVariants.{Undefined}}
use Rattle.ws_steps.specs.declared.calls.Call.{Call}
use Rattle.ws_steps.specs.declared.effects.Effect.{Effect}
use Rattle.ws_steps.specs.declared.effects.Effect.TheVariants.{Readable as OnReadable, Pipe as OnPipe}
use Rattle.ws_steps.specs.declared.pipes.PipeOperation.TheVariants.{ActionSettled, PartSettled}
use Rattle.ws_steps.specs.declared.promises.{Job.{Job}, Job.TheVariants.{Reaction as ReactionJob, Follow, Settle, Micro as MicroJob}, Micro.TheVariants.{PipeLook, PipeWrite, PipeNoParts, TeeHand}, Step.{Step}, Step.TheVariants.{PipeActed, PipePart}}
use Rattle.ws_steps.specs.declared.readable.{ReadRequest.TheVariants.{Promise, Pipe as PipeRequest, Tee as TeeRequest}, ReadableOperation.TheVariants.{Read}}
use Rattle.ws_steps.specs.Begun.{Begun}
use Rattle.ws_steps.specs.Calls.{begin}
use Rattle.ws_steps.specs.Jobs.{job_effects, job_begun, begin_job, resolved}
use Rattle.ws_pipe_laws.specs.pipes.PipeReads.{reads_started, NoneBeginsWithARead}
use Rattle.ws_pipe_laws.specs.pipes.PipeWrites.{tells_done, EachActionIsHeard}
use Rattle.ws_steps.specs.Promises.{next_job}
use Rattle.ws_steps.specs.Slots.{Slots}
use Rattle.ws_laws.proofs.EachCall.{each_call}
use Rattle.ws_laws.proofs.Lists.{Each, each-append}

-- no read of a pipe

abbrev IsNoRead : Effect → Type 0
IsNoRead (OnReadable i (Read (PipeRequest p))) = ⊥
IsNoRead _ = Unit {0}

none_started : (p : PipeId) (es : List Effect) → Each IsNoRead es → reads_started p es ≡ 0
none_started p [] n = refl
none_started p (OnReadable i (Read (PipeRequest q)) ∷ es) n = absurd (n.0)
none_started p (OnReadable i (Read (Promise q)) ∷ es) n = zero-add (reads_started p es) ∙ none_started p es n.1
none_started p (OnReadable i (Read (TeeRequest t)) ∷ es) n = zero-add (reads_started p es) ∙ none_started p es n.1
none_started p (e ∷ es) n = none_started p es n.1

call-none : (c : Call) (s : Slots) → Each IsNoRead (begin c s).done.caused
call-none c s = each_call (λ (b : Begun). Each IsNoRead b.done.caused) c s (grind arith)

reaction-none : (step : Step) (o : Result Plain Plain) (derived : Option PromiseId) → Each IsNoRead (job_effects (ReactionJob step o derived))
reaction-none step o derived = grind (arith, each-append)

job-none : (job : Job) → Each IsNoRead (job_effects job)
job-none (ReactionJob step o derived) = reaction-none step o derived
job-none (Follow q r) = tt
job-none (Settle q o) = (tt, tt)
job-none (MicroJob (PipeLook q)) = (tt, tt)
job-none (MicroJob (PipeWrite q)) = (tt, tt)
job-none (MicroJob (PipeNoParts q)) = (tt, tt)
job-none (MicroJob (TeeHand t)) = (tt, tt)

begun-none : (s : Slots) (job : Option Job) → Each IsNoRead (job_begun s job).caused
begun-none s None = tt
begun-none s (Some job) = job-none job

pub none_begins_with_a_read : NoneBeginsWithARead
unfolding begin_job
none_begins_with_a_read p s = record {
  call = λ c. none_started p (begin c s).done.caused (call-none c s);
  job = none_started p (job_begun s (next_job s.promises)).caused (begun-none s (next_job s.promises));
}

-- a reaction tells the pipe its outcome

resolved_done : (derived : Option PromiseId) → resolved derived (Ok Undefined) ≡ tells_done derived
resolved_done None = refl
resolved_done (Some d) = refl

begun_by : (s : Slots) (job : Job) (js : List Job) → s.promises.jobs ≡ job ∷ js → (begin_job s).caused ≡ job_effects job
unfolding begin_job
begun_by s job js e = rw e refl

pub each_action_is_heard : EachActionIsHeard
each_action_is_heard p outcome derived js s = record {
  action = λ e. begun_by s (ReactionJob (PipeActed p) outcome derived) js e ∙ ap (λ (es : List Effect). OnPipe p (ActionSettled outcome) ∷ es) (resolved_done derived);
  part = λ e. begun_by s (ReactionJob (PipePart p) outcome derived) js e ∙ ap (λ (es : List Effect). OnPipe p (PartSettled outcome) ∷ es) (resolved_done derived);
}
