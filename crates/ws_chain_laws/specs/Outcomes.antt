-- How the last pipe of a chain may end, and when the end comes out of a transform stream.
use Rattle.std.specs.Prelude.{ℕ, suc, ◌+◌, ◌*◌, ◌≤◌, ◌≡◌, true, Bool, is_some, List, [], ◌∷◌, ◌++◌, Some, Contains}
use Rattle.ws_value.specs.declared.ids.PromiseId.{PromiseId}
use Rattle.ws_value.specs.declared.value.Outcome.TheVariants.{Fulfilled, Rejected}
use Rattle.ws_value.specs.declared.value.Plain.{Plain}
use Rattle.ws_steps.specs.declared.calls.HostCall.TheVariants.{Close, Flush}
use Rattle.ws_steps.specs.declared.writable.WritableState.TheVariants.{Closed as WritableClosed}
use Rattle.ws_steps.specs.Promises.{next_job, outcome_at, rank_at}
use Rattle.ws_steps.specs.Run.{Entry, Called, run}
use Rattle.ws_steps.specs.Slots.{empty, most_streams, writable_at}
use Rattle.ws_flow.specs.Told.{Closed, told}
use Rattle.ws_end_laws.specs.hosts.HostCalls.{WasSettledWell}
use Rattle.ws_link_laws.specs.Link.{silence}
use Rattle.ws_reason_laws.specs.Origins.{through}
use Rattle.ws_reason_laws.specs.Reasons.{NeedsTee, NeedsPort, failures}
use Rattle.ws_chain_laws.specs.Chain.{Origin, Target, ToSink, source_of, dest_of, IsChain}
use Rattle.ws_chain_laws.specs.Laws.{next_enters}
use Rattle.ws_chain_laws.specs.Opening.{piping, signal_of, opening, chained, promise_of}

-- the calls that open a realm with a chain, and then these
abbrev pub past_of : Origin → Target → ℕ → Bool → List Entry → List Entry
past_of origin target n signalled xs = opening origin target n signalled ++ Called (piping (signal_of signalled) n) ∷ xs

-- the promise of the last pipe
abbrev pub last_promise : Origin → Target → ℕ → Bool → PromiseId
last_promise origin target n signalled = promise_of n (chained origin target n signalled)

-- the sink is closed, and the host settled its close algorithm well
pub record IsClosedWell (n : ℕ) (entries : List Entry) : Type 0 where
  pub closed : (writable_at (dest_of n) (run entries empty)).state ≡ WritableClosed
  pub settled : WasSettledWell entries (Close (dest_of n))

-- after the opening of a chain and these calls, jobs and events, the promises of its pipes, and that of the last one
pub record ChainEnds (origin : Origin) (target : Target) (n : ℕ) (signalled : Bool) (xs : List Entry) : Type 0 where
  pub slots : run (past_of origin target n signalled xs) empty ≡ run xs (chained origin target n signalled)
  pub pipes : (k : ℕ) → k ≤ n → promise_of k (run (past_of origin target n signalled xs) empty) ≡ promise_of k (chained origin target n signalled)
  pub watched : (k : ℕ) → k ≤ n → is_some (rank_at (run (past_of origin target n signalled xs) empty).promises (promise_of k (chained origin target n signalled))) ≡ true
  pub rejected : (r : Plain) → through xs (chained origin target n signalled) ≡ [] → NeedsTee r (past_of origin target n signalled xs) → NeedsPort r (past_of origin target n signalled xs)
      → outcome_at (run (past_of origin target n signalled xs) empty).promises (last_promise origin target n signalled) ≡ Some (Rejected r) → Contains (failures xs) r
  pub fulfilled : (v : Plain) → target ≡ ToSink → outcome_at (run (past_of origin target n signalled xs) empty).promises (last_promise origin target n signalled) ≡ Some (Fulfilled v)
      → IsClosedWell n (past_of origin target n signalled xs)

abbrev pub EachChainEnds : Type 0
EachChainEnds = (origin : Origin) (target : Target) (n : ℕ) (signalled : Bool) (xs : List Entry) → 2 * n + 2 ≤ most_streams → ChainEnds origin target n signalled xs

-- what the next job brings out of transform stream k: nothing; or the end, and then the host settled its flush well
pub data Flushes (k : ℕ) (entries : List Entry) : Type 0 where
  BringsNothing : next_enters (suc k) (next_job (run entries empty).promises) ≡ silence → Flushes k entries
  BringsTheEnd : next_enters (suc k) (next_job (run entries empty).promises) ≡ told [] Closed → WasSettledWell entries (Flush (source_of (suc k)))
      → Flushes k entries

pub record JobBrings (n : ℕ) (entries : List Entry) : Type 0 where
  pub source : next_enters 0 (next_job (run entries empty).promises) ≡ silence
  pub half : (k : ℕ) → suc k ≤ n → Flushes k entries

abbrev pub EachEndWasFlushed : Type 0
EachEndWasFlushed = (origin : Origin) (target : Target) (n : ℕ) (entries : List Entry) → IsChain origin target n (run entries empty) → JobBrings n entries
