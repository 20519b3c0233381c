-- A chain from its opening on, over the calls of a node of a pipeline, jobs, and events that the node takes.
use Rattle.std.specs.Prelude.{ℕ, suc, ◌+◌, ◌*◌, ◌≤◌, ◌≡◌, Bool, false, List, [], ◌∷◌, Some, Contains}
use Rattle.ws_value.specs.declared.value.Outcome.TheVariants.{Fulfilled, Rejected}
use Rattle.ws_value.specs.declared.value.Plain.{Plain}
use Rattle.ws_value.specs.declared.value.Value.{Value}
use Rattle.ws_steps.specs.declared.calls.Call.{Call}
use Rattle.ws_steps.specs.declared.calls.Call.TheVariants.{Enqueue, Finish, Fail, Trigger, Deliver, Settle}
use Rattle.ws_steps.specs.Cross.{data_clone}
use Rattle.ws_steps.specs.Promises.{next_job, outcome_at}
use Rattle.ws_steps.specs.Run.{Entry, Called, Worked, Heard, step, run, first_event}
use Rattle.ws_steps.specs.Slots.{Slots, empty, most_streams}
use Rattle.ws_flow.specs.Told.{Told, then_told, IsShortOf}
use Rattle.ws_link_laws.specs.Link.{silence}
use Rattle.ws_reason_laws.specs.Origins.{through}
use Rattle.ws_reason_laws.specs.Reasons.{failures}
use Rattle.ws_link_laws.specs.Laws.{run_heard, run_enters}
use Rattle.ws_wire_laws.specs.Wire.{Each, IsWired, behind_on}
use Rattle.ws_wire_laws.specs.Segments.{Segment, wiring, nothing_made, behind_segments}
use Rattle.ws_chain_laws.specs.Chain.{Origin, Target, ToSink, source_of, behind_at, is_ported, IsChain, call_enters}
use Rattle.ws_chain_laws.specs.Laws.{next_enters, next_heard}
use Rattle.ws_chain_laws.specs.Opening.{wired_of, chained}
use Rattle.ws_chain_laws.specs.Outcomes.{past_of, last_promise, IsClosedWell}

-- a call of a node: it settles a call of its algorithms, enqueues, finishes, fails a stream that gives chunks, triggers a signal, or delivers a
-- message to a port
abbrev pub IsNodes : Call → Type 0
IsNodes (Settle h answer) = Unit {0}
IsNodes (Enqueue i v) = Unit {0}
IsNodes (Finish i) = Unit {0}
IsNodes (Fail i reason) = (m : ℕ) × (i ≡ source_of m)
IsNodes (Trigger a reason) = Unit {0}
IsNodes (Deliver c m) = Unit {0}
IsNodes _ = ⊥

-- all calls of a run are
abbrev pub AreNodes : List Entry → Type 0
AreNodes [] = Unit {0}
AreNodes (Called c ∷ xs) = IsNodes c × AreNodes xs
AreNodes (Worked ∷ xs) = AreNodes xs
AreNodes (Heard ∷ xs) = AreNodes xs

-- what a run brings to the stream from which link k comes
abbrev pub brought_to : Origin → ℕ → List Entry → Slots → Told Value
brought_to origin k [] s = silence
brought_to origin k (Called c ∷ xs) s = then_told (call_enters origin k c) (brought_to origin k xs (step s (Called c)))
brought_to origin k (Worked ∷ xs) s = then_told (next_enters k (next_job s.promises)) (brought_to origin k xs (step s Worked))
brought_to origin k (Heard ∷ xs) s = brought_to origin k xs (step s Heard)

-- and what the host hears in it of the stream into which link k goes
abbrev pub heard_from : Origin → Target → ℕ → ℕ → List Entry → Slots → Told Value
heard_from origin target n k [] s = silence
heard_from origin target n k (Called c ∷ xs) s = heard_from origin target n k xs (step s (Called c))
heard_from origin target n k (Worked ∷ xs) s = heard_from origin target n k xs (step s Worked)
heard_from origin target n k (Heard ∷ xs) s = then_told (next_heard origin target n k (first_event s.promises.events)) (heard_from origin target n k xs (step s Heard))

pub record NodeGoes (origin : Origin) (target : Target) (n : ℕ) (signalled : Bool) (xs : List Entry) : Type 0 where
  pub chain : IsChain origin target n (run xs (chained origin target n signalled))
  pub quiet : through xs (chained origin target n signalled) ≡ []
  pub short : (k : ℕ) → k ≤ n
      → IsShortOf (then_told (heard_from origin target n k xs (chained origin target n signalled)) (behind_at k (run xs (chained origin target n signalled)))) (brought_to origin k xs (chained origin target n signalled))
  pub rejected : (r : Plain) → (r ≡ data_clone → is_ported origin target ≡ false)
      → outcome_at (run (past_of origin target n signalled xs) empty).promises (last_promise origin target n signalled) ≡ Some (Rejected r) → Contains (failures xs) r
  pub fulfilled : (v : Plain) → target ≡ ToSink → outcome_at (run (past_of origin target n signalled xs) empty).promises (last_promise origin target n signalled) ≡ Some (Fulfilled v)
      → IsClosedWell n (past_of origin target n signalled xs)

abbrev pub EachNodeGoes : Type 0
EachNodeGoes = (origin : Origin) (target : Target) (n : ℕ) (signalled : Bool) (xs : List Entry) → 2 * n + 2 ≤ most_streams → AreNodes xs → NodeGoes origin target n signalled xs

-- the same of the links of any segments
pub record WiringGoes (xs : List Segment) (n : ℕ) (signalled : Bool) (entries : List Entry) : Type 0 where
  pub wired : IsWired (wiring xs nothing_made) (run entries (wired_of xs n signalled))
  pub short : Each
      (λ x. IsShortOf (then_told (run_heard x.into entries (wired_of xs n signalled)) (behind_on x (run entries (wired_of xs n signalled)))) (run_enters x.from entries (wired_of xs n signalled)))
      (wiring xs nothing_made)

abbrev pub EachWiringGoes : Type 0
EachWiringGoes =
    (xs : List Segment) (n : ℕ) (signalled : Bool) (entries : List Entry) → (behind_segments xs nothing_made).link ≡ suc n → 2 * n + 2 ≤ most_streams → AreNodes entries
    → WiringGoes xs n signalled entries
