-- The laws of a chain, for all its links at once.
use Rattle.std.specs.Prelude.{ℕ, ◌≤◌, ◌≡◌, true, List, Option, Some, None}
use Rattle.ws_value.specs.declared.value.Value.{Value}
use Rattle.ws_steps.specs.declared.calls.Call.{Call}
use Rattle.ws_steps.specs.declared.calls.Event.{Event}
use Rattle.ws_steps.specs.declared.promises.Job.{Job}
use Rattle.ws_steps.specs.Promises.{next_job}
use Rattle.ws_steps.specs.Run.{Entry, run, after_call, after_job, after_event, first_event}
use Rattle.ws_steps.specs.Slots.{Slots}
use Rattle.ws_flow.specs.Told.{Told, then_told, IsShortOf}
use Rattle.ws_link_laws.specs.Link.{silence}
use Rattle.ws_link_laws.specs.Laws.{all_leave, run_heard, run_enters}
use Rattle.ws_link_laws.specs.Room.{taken_places}
use Rattle.ws_wire_laws.specs.Wire.{IsJoint}
use Rattle.ws_chain_laws.specs.Chain.{Origin, Target, joint_of, source_of, dest_of, link_of, behind_at, IsChain, call_enters, job_enters, heard_at, LeavesChain}

pub record IsByNumber (origin : Origin) (target : Target) (n : ℕ) (s : Slots) : Type 0 where
  pub each : IsChain origin target n s → (k : ℕ) → k ≤ n → IsJoint (joint_of origin target n k) s
  pub all : ((k : ℕ) → k ≤ n → IsJoint (joint_of origin target n k) s) → IsChain origin target n s

abbrev pub EachChainIsByNumber : Type 0
EachChainIsByNumber = (origin : Origin) (target : Target) (n : ℕ) (s : Slots) → IsByNumber origin target n s

pub record KeepsChain (origin : Origin) (target : Target) (n : ℕ) (s z : Slots) (heard entered : ℕ → Told Value) : Type 0 where
  pub chain : IsChain origin target n z
  pub short : (k : ℕ) → k ≤ n → IsShortOf (then_told (heard k) (behind_at k z)) (then_told (behind_at k s) (entered k))

abbrev pub EachChainKeeps : Type 0
EachChainKeeps =
    (origin : Origin) (target : Target) (n : ℕ) (s : Slots) (entries : List Entry) → IsChain origin target n s → ((k : ℕ) → k ≤ n → all_leave (source_of k) (dest_of k) entries ≡ true)
    → KeepsChain origin target n s (run entries s) (λ k. run_heard (dest_of k) entries s) (λ k. run_enters (source_of k) entries s)

-- by a call the host hears of nothing
pub record KeepsBehind (origin : Origin) (target : Target) (n : ℕ) (s z : Slots) (entered : ℕ → Told Value) : Type 0 where
  pub chain : IsChain origin target n z
  pub short : (k : ℕ) → k ≤ n → IsShortOf (behind_at k z) (then_told (behind_at k s) (entered k))

abbrev pub EachCallKeepsChain : Type 0
EachCallKeepsChain = (origin : Origin) (target : Target) (n : ℕ) (s : Slots) (c : Call) → IsChain origin target n s → LeavesChain n c → KeepsBehind origin target n s (after_call c s) (λ k. call_enters origin k c)

-- what the next job brings to link k
abbrev pub next_enters : ℕ → Option Job → Told Value
next_enters k None = silence
next_enters k (Some job) = job_enters k job

abbrev pub EachJobKeepsChain : Type 0
EachJobKeepsChain = (origin : Origin) (target : Target) (n : ℕ) (s : Slots) → IsChain origin target n s → KeepsBehind origin target n s (after_job s) (λ k. next_enters k (next_job s.promises))

-- the taking of an event brings nothing
pub record KeepsHeard (origin : Origin) (target : Target) (n : ℕ) (s z : Slots) (heard : ℕ → Told Value) : Type 0 where
  pub chain : IsChain origin target n z
  pub short : (k : ℕ) → k ≤ n → IsShortOf (then_told (heard k) (behind_at k z)) (behind_at k s)

abbrev pub next_heard : Origin → Target → ℕ → ℕ → Option Event → Told Value
next_heard origin target n k None = silence
next_heard origin target n k (Some e) = heard_at origin target n k e

abbrev pub EachEventKeepsChain : Type 0
EachEventKeepsChain = (origin : Origin) (target : Target) (n : ℕ) (s : Slots) → IsChain origin target n s → KeepsHeard origin target n s (after_event s) (λ k. next_heard origin target n k (first_event s.promises.events))

abbrev pub EachChainHasRoom : Type 0
EachChainHasRoom = (origin : Origin) (target : Target) (n : ℕ) (s : Slots) → IsChain origin target n s → (k : ℕ) → k ≤ n → taken_places (source_of k) (dest_of k) (link_of k) s ≤ 1
