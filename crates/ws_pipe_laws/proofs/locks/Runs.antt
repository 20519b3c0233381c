-- Who has the lock of each stream over every run.
use Rattle.std.proofs.Common.{List, [], refl, arith}
use Rattle.ws_value.specs.declared.ids.StreamId.{StreamId}
use Rattle.ws_steps.specs.declared.effects.Effect.{Effect}
use Rattle.ws_steps.specs.Promises.{after_next_job}
use Rattle.ws_steps.specs.Jobs.{job_effects}
use Rattle.ws_steps.specs.Run.{Entry, run}
use Rattle.ws_steps.specs.Slots.{Slots, empty, with_promises}
use Rattle.ws_laws.proofs.Lists.{Each, each-map}
use Rattle.ws_laws.proofs.Walker.{Stays, run-stays}
use Rattle.ws_promise_laws.proofs.Acting.{EachWaits, waits-stays, waits-heard, none-waits}
use Rattle.ws_pipe_laws.specs.locks.Locks.{Side}
use Rattle.ws_pipe_laws.specs.locks.LockLaws.{EachLockHasOneHolder}
use Rattle.ws_pipe_laws.proofs.locks.Agenda.{IsNoTake, IsCalm, calm_takes, TakesFirst, takes_first}
use Rattle.ws_pipe_laws.proofs.locks.CallEffects.{job-calm, call-first, told_all, row-told, call-told}
use Rattle.ws_pipe_laws.proofs.locks.Begins.{call-balanced, job-balanced}
use Rattle.ws_pipe_laws.proofs.locks.Rows.{Balanced, IsToldBytes, first-row, row-balanced}

-- at each moment of a run
pub record Locked (s : Slots) (es : List Effect) : Type 0 where
  pub first : TakesFirst es
  pub each : (d : Side) (i : StreamId) → Balanced d i s es
  pub waits : EachWaits s es
  pub told : Each (IsToldBytes s) es

pub locked-stays : Stays Locked
locked-stays = record {
  row = λ s e es k. record { first = first-row s e es k.first; each = λ d i. row-balanced d i s e es k.first k.told.0 k.waits (k.each d i); waits = waits-stays.row s e es k.waits; told = row-told s e es k.told };
  call = λ s c k. record { first = call-first c s; each = λ d i. call-balanced i d c s (k.each d i); waits = waits-stays.call s c k.waits; told = call-told c s };
  job = λ s job e k. record {
    first = takes_first (job_effects job) (each-map IsCalm IsNoTake calm_takes (job_effects job) (job-calm job));
    each = λ d i. job-balanced i d job s (after_next_job s.promises) (k.each d i);
    waits = waits-stays.job s job e k.waits;
    told = told_all (with_promises (after_next_job s.promises) s) (job_effects job) (each-map IsCalm IsNoTake calm_takes (job_effects job) (job-calm job));
  };
  answered = λ s p k. record { first = tt; each = λ d i. let b = k.each d i in record { even = b.even; few = b.few }; waits = waits-stays.answered s p k.waits; told = tt };
  older = λ s k. record { first = tt; each = λ d i. let b = k.each d i in record { even = b.even; few = b.few }; waits = waits-stays.older s k.waits; told = tt };
}

pub run-locked : (entries : List Entry) → Locked (run entries empty) []
run-locked entries =
    run-stays Locked locked-stays
    (λ s k. record { first = tt; each = λ d i. let b = k.each d i in record { even = b.even; few = b.few }; waits = waits-heard s k.waits; told = tt })
    entries empty (record { first = tt; each = λ d i. record { even = refl; few = omega arith }; waits = λ p. none-waits p; told = tt })

pub each_lock_has_one_holder : EachLockHasOneHolder
each_lock_has_one_holder entries d i = let even = ((run-locked entries).each d i).even in omega (arith, even)
