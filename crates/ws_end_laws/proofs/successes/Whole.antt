-- A pipe that fulfils, and all that it read (`each_fulfilled_pipe_wrote_all_it_read`).
use Rattle.std.proofs.Common.{◌≡◌, inl, inr, false, List, [], ◌∷◌, sym, ap, subst}
use Rattle.ws_value.specs.declared.ids.PipeId.{PipeId}
use Rattle.ws_steps.specs.Pipes as pipe
use Rattle.ws_steps.specs.Run.{run}
use Rattle.ws_steps.specs.Slots.{Slots, empty, as_pipe, pipe_at, writable_at}
use Rattle.ws_steps.specs.Turns.{Moment}
use Rattle.ws_steps.specs.Writable as writable
use Rattle.ws_laws.proofs.Truth.{false_true}
use Rattle.ws_pipe_laws.specs.pipes.PipeHistory.{run_moments}
use Rattle.ws_pipe_laws.specs.pipes.PipeWrites.{AllMoments}
use Rattle.ws_end_laws.specs.ends.PassedAll.{is_failing, FindsNoFailure}
use Rattle.ws_end_laws.proofs.ends.Finding.{ActsAt, Fails, Writes}
use Rattle.ws_end_laws.proofs.ends.MayClose.{each_fulfilled_pipe_passed_all_it_read}
use Rattle.ws_end_laws.proofs.ends.PassedAll.{each_moment, passed-unless, each_unfailing_pipe_passed_all}
use Rattle.ws_end_laws.proofs.ends.PromiseEnds.{ended-fulfilled}
use Rattle.ws_end_laws.proofs.hosts.Fulfilled.{each_write_of_a_fulfilled_pipe_succeeded}
use Rattle.ws_end_laws.specs.successes.Successes.{FindsItUnfailing, EachFulfilledPipeWroteAllItRead}
use Rattle.ws_end_laws.proofs.successes.Found.{each_write_of_a_pipe_that_found_no_failure_succeeded}
use Rattle.ws_end_laws.proofs.successes.Successes.{each_write_before_a_failure_succeeded}
use Rattle.ws_end_laws.proofs.successes.Wrote.{fulfilled-late}

finds-none : (p : PipeId) (ms : List Moment) → AllMoments (FindsItUnfailing p) ms → AllMoments (FindsNoFailure p) ms
finds-none p [] a = tt
finds-none p (m ∷ ms) a = ((λ l n. inr (a.0 l n)), finds-none p ms a.1)

pub each_fulfilled_pipe_wrote_all_it_read : EachFulfilledPipeWroteAllItRead
each_fulfilled_pipe_wrote_all_it_read entries p x v e f (inl may) = (each_fulfilled_pipe_passed_all_it_read entries p x v e f may, each_write_of_a_fulfilled_pipe_succeeded entries p x v e f may)
each_fulfilled_pipe_wrote_all_it_read entries p x v e f (inr (inl a)) = (
  each_unfailing_pipe_passed_all entries p (finds-none p (run_moments entries empty) a) (ended-fulfilled entries p x v e f),
  each_write_of_a_pipe_that_found_no_failure_succeeded entries p x e (fulfilled-late entries p x v e f) a,
)
each_fulfilled_pipe_wrote_all_it_read entries p x v e f (inr (inr n)) =
    let s : Slots = run entries empty in
    let w : writable.Slots = writable_at (pipe_at p s).dest s in
    let at : is_failing w.state ≡ false = subst (λ (y : pipe.Slots). is_failing (writable_at y.dest s).state ≡ false) (sym (ap as_pipe e)) n in (
      passed-unless entries p (each_moment (λ m. ActsAt p m → Fails p m w → Writes p m) (λ m a g. false_true (is_failing w.state) g.now.state at) (run_moments entries empty)) (ended-fulfilled entries p x v e f),
      each_write_before_a_failure_succeeded entries p x e (fulfilled-late entries p x v e f) n,
    )
