-- A chain over calls, jobs and events that leave its links alone.
use Rattle.std.proofs.Common.{◌≡◌, ℕ, zero, suc, ◌≤◌, true, Option, Some, None, refl, subst}
use Rattle.ws_value.specs.declared.value.Value.{Value}
use Rattle.ws_steps.specs.declared.calls.Event.{Event}
use Rattle.ws_steps.specs.declared.promises.Job.{Job}
use Rattle.ws_steps.specs.Promises.{next_job}
use Rattle.ws_steps.specs.Run.{run, after_call, after_job, after_event, first_event}
use Rattle.ws_flow.specs.Told.{Told, then_told, IsShortOf}
use Rattle.ws_link_laws.specs.Link as link
use Rattle.ws_link_laws.specs.Link.{leaves}
use Rattle.ws_link_laws.specs.Laws.{all_leave}
use Rattle.ws_link_laws.specs.Room.{taken_places}
use Rattle.ws_wire_laws.specs.Wire.{IsJoint, Each, call_on}
use Rattle.ws_wire_laws.specs.Laws as wire
use Rattle.ws_wire_laws.proofs.Keeps.{each-map, each_wiring_keeps, each_call_keeps_wiring, each_job_keeps_wiring, each_event_keeps_wiring, each_wiring_has_room}
use Rattle.ws_chain_laws.specs.Chain.{Origin, FromChunks, FromBytes, FromPort, Target, giver, joint_of, links_of, behind_at}
use Rattle.ws_chain_laws.specs.Laws.{EachChainKeeps, EachCallKeepsChain, next_enters, EachJobKeepsChain, next_heard, EachEventKeepsChain, EachChainHasRoom}
use Rattle.ws_chain_laws.proofs.Links.{each-at, each-of}

pub each_chain_keeps : EachChainKeeps
each_chain_keeps origin target n s entries c e =
    let w : Each (wire.KeepsJoint s entries) (links_of origin target n) = each_wiring_keeps (links_of origin target n) s entries c (each-of origin target (λ x. all_leave x.from x.into entries ≡ true) n e) in
    record {
      chain = each-map (wire.KeepsJoint s entries) (λ x. IsJoint x (run entries s)) (λ x k. k.joint) (links_of origin target n) w;
      short = λ k l. (each-at origin target (wire.KeepsJoint s entries) n w k l).short;
    }

-- one call
pub each_call_keeps_chain : EachCallKeepsChain
each_call_keeps_chain origin target n s c h e =
    let w : Each (wire.KeepsBehind s (after_call c s) (λ x. call_on x c)) (links_of origin target n) = each_call_keeps_wiring (links_of origin target n) s c h (each-of origin target (λ x. leaves x.from x.into c ≡ true) n e) in
    record {
      chain = each-map (wire.KeepsBehind s (after_call c s) (λ x. call_on x c)) (λ x. IsJoint x (after_call c s)) (λ x k. k.joint) (links_of origin target n) w;
      short = λ k l. (each-at origin target (wire.KeepsBehind s (after_call c s) (λ x. call_on x c)) n w k l).short;
    }

-- one job

next-same : (origin : Origin) (k : ℕ) (o : Option Job) → link.next_enters (giver origin k) o ≡ next_enters k o
next-same origin k None = refl
next-same FromChunks zero (Some job) = refl
next-same FromBytes zero (Some job) = refl
next-same FromPort zero (Some job) = refl
next-same origin (suc k) (Some job) = refl

pub each_job_keeps_chain : EachJobKeepsChain
each_job_keeps_chain origin target n s h =
    let o : Option Job = next_job s.promises in
    let w : Each (wire.KeepsBehind s (after_job s) (λ x. link.next_enters x.gives o)) (links_of origin target n) = each_job_keeps_wiring (links_of origin target n) s h in
    record {
      chain = each-map (wire.KeepsBehind s (after_job s) (λ x. link.next_enters x.gives o)) (λ x. IsJoint x (after_job s)) (λ x k. k.joint) (links_of origin target n) w;
      short = λ k l.
          subst (λ (t : Told Value). IsShortOf (behind_at k (after_job s)) (then_told (behind_at k s) t)) (next-same origin k o)
          (each-at origin target (wire.KeepsBehind s (after_job s) (λ x. link.next_enters x.gives o)) n w k l).short;
    }

-- one event

next-on : (origin : Origin) (target : Target) (n k : ℕ) (o : Option Event) → wire.next_on (joint_of origin target n k) o ≡ next_heard origin target n k o
next-on origin target n k None = refl
next-on origin target n k (Some e) = refl

pub each_event_keeps_chain : EachEventKeepsChain
each_event_keeps_chain origin target n s h =
    let w : Each (wire.KeepsHeard s) (links_of origin target n) = each_event_keeps_wiring (links_of origin target n) s h in
    record {
      chain = each-map (wire.KeepsHeard s) (λ x. IsJoint x (after_event s)) (λ x k. k.joint) (links_of origin target n) w;
      short = λ k l.
          subst (λ (t : Told Value). IsShortOf (then_told t (behind_at k (after_event s))) (behind_at k s)) (next-on origin target n k (first_event s.promises.events))
          (each-at origin target (wire.KeepsHeard s) n w k l).short;
    }

pub each_chain_has_room : EachChainHasRoom
each_chain_has_room origin target n s c k l = each-at origin target (λ x. taken_places x.from x.into x.pipe s ≤ 1) n (each_wiring_has_room (links_of origin target n) s c) k l
