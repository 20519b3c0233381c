-- A chain over the runs of a node.
use Rattle.std.proofs.Common.{◌≡◌, ℕ, zero, suc, ◌≤◌, true, false, List, [], ◌∷◌, slice_get, refl, sym, subst, arith}
use Rattle.ws_value.specs.declared.ids.StreamId.{StreamId}
use Rattle.ws_value.specs.declared.value.Value.{Value}
use Rattle.ws_steps.specs.declared.calls.Call.{Call}
use Rattle.ws_steps.specs.declared.calls.Call.TheVariants.{Enqueue, Finish, Fail, Trigger, Deliver, Settle}
use Rattle.ws_steps.specs.Promises.{next_job}
use Rattle.ws_steps.specs.Run.{Entry, Called, Worked, Heard, step, run, first_event}
use Rattle.ws_steps.specs.Descriptors.{has_part}
use Rattle.ws_steps.specs.Slots.{Slots, byte_at, as_byte}
use Rattle.ws_flow.specs.Told.{Told, then_told, IsShortOf}
use Rattle.ws_flow.proofs.Told.{then_assoc, then_empty, short_refl, short_trans, short_same, short_as, short_left, short_right}
use Rattle.ws_link_laws.specs.Link.{silence}
use Rattle.ws_reason_laws.specs.Origins.{through_of, through}
use Rattle.ws_reason_laws.proofs.Portless.{portless-cloned}
use Rattle.ws_reason_laws.proofs.Quiet.{finish-none}
use Rattle.ws_laws.proofs.Tables.{no_byte_there}
use Rattle.ws_link_laws.specs.Laws.{all_leave, run_heard, run_enters}
use Rattle.ws_wire_laws.specs.Laws.{KeepsJoint}
use Rattle.ws_wire_laws.specs.Wire.{Joint, IsJoint, Each, behind_on}
use Rattle.ws_wire_laws.specs.Segments.{wiring, nothing_made}
use Rattle.ws_wire_laws.proofs.Keeps.{each-map, each-both, each_wiring_keeps}
use Rattle.ws_chain_laws.specs.Chain.{Origin, Target, behind_at, IsChain, LeavesChain, call_enters, source_of, dest_of}
use Rattle.ws_chain_laws.specs.Laws.{next_enters, next_heard}
use Rattle.ws_chain_laws.specs.Opening.{wired_of, chained}
use Rattle.ws_chain_laws.specs.Outcomes.{past_of}
use Rattle.ws_chain_laws.specs.Runs.{IsNodes, AreNodes, brought_to, heard_from, EachNodeGoes, EachWiringGoes}
use Rattle.ws_chain_laws.proofs.Begins.{each_chain_begins, each_wiring_begins}
use Rattle.ws_chain_laws.proofs.Firsts.{OnlyFirst, chained-first, called-first, worked-first, nodes-streams}
use Rattle.ws_chain_laws.proofs.Links.{link-at}
use Rattle.ws_chain_laws.proofs.Keeps.{each_call_keeps_chain, each_job_keeps_chain, each_event_keeps_chain}
use Rattle.ws_chain_laws.proofs.Nodes.{each_nodes_call_leaves}
use Rattle.ws_chain_laws.proofs.Outcomes.{each_chain_ends}
use Rattle.ws_chain_laws.proofs.Teeless.{past-pairless}
use Rattle.ws_chain_laws.proofs.Portless.{past-portless}
use Rattle.ws_chain_laws.proofs.Wirings.{gives_at, hears_at, each-numbered, wiring-follows}

-- a node's call leaves each link alone, and brings nothing through a transform stream

pub nodes-leave : (n : ℕ) (c : Call) → IsNodes c → LeavesChain n c
nodes-leave n (Settle h answer) is = (each_nodes_call_leaves n).settle h answer
nodes-leave n (Enqueue i v) is = (each_nodes_call_leaves n).enqueue i v
nodes-leave n (Finish i) is = (each_nodes_call_leaves n).finish i
nodes-leave n (Fail i reason) is = subst (λ (j : StreamId). LeavesChain n (Fail j reason)) (sym is.1) ((each_nodes_call_leaves n).fail is.0 reason)
nodes-leave n (Trigger a reason) is = (each_nodes_call_leaves n).trigger a reason
nodes-leave n (Deliver c m) is = (each_nodes_call_leaves n).deliver c m
nodes-leave n _ is = absurd is

-- the source of a chain is bare where it is a byte stream, and no other stream is one: so a close fails nothing

no-part : (origin : Origin) (target : Target) (n : ℕ) (s : Slots) → IsChain origin target n s → OnlyFirst s.streams → (i : StreamId) → has_part (byte_at i s).descriptors ≡ false
no-part origin target n s c f i = by i.0
  where
    by : (m : ℕ) → has_part (as_byte (slice_get s.streams m)).descriptors ≡ false
    by zero = let bare = (link-at origin target n s c 0 (omega arith)).link.bare in rw bare.descriptors refl
    by (suc m) = rw (no_byte_there (slice_get s.streams (suc m)) (f m)) refl

nodes-none : (origin : Origin) (target : Target) (n : ℕ) (c : Call) (s : Slots) → IsChain origin target n s → OnlyFirst s.streams → IsNodes c → through_of c s ≡ []
nodes-none origin target n (Settle h answer) s l f is = refl
nodes-none origin target n (Enqueue i v) s l f is = refl
nodes-none origin target n (Finish i) s l f is = finish-none i s (no-part origin target n s l f i)
nodes-none origin target n (Fail i reason) s l f is = refl
nodes-none origin target n (Trigger a reason) s l f is = refl
nodes-none origin target n (Deliver c m) s l f is = refl
nodes-none origin target n _ s l f is = absurd is

nodes-first : (c : Call) (s : Slots) → OnlyFirst s.streams → IsNodes c → OnlyFirst (step s (Called c)).streams
nodes-first c s f is = called-first c s (rw (nodes-streams c s is) f)

run-none : (origin : Origin) (target : Target) (n : ℕ) (xs : List Entry) (s : Slots) → IsChain origin target n s → OnlyFirst s.streams → AreNodes xs → through xs s ≡ []
run-none origin target n [] s l f a = refl
run-none origin target n (Called c ∷ xs) s l f a =
    let e = nodes-none origin target n c s l f a.0 in
    let h = run-none origin target n xs (step s (Called c)) (each_call_keeps_chain origin target n s c l (nodes-leave n c a.0)).chain (nodes-first c s f a.0) a.1 in
    rw (e, h) refl
run-none origin target n (Worked ∷ xs) s l f a = run-none origin target n xs (step s Worked) (each_job_keeps_chain origin target n s l).chain (worked-first s f) a
run-none origin target n (Heard ∷ xs) s l f a = run-none origin target n xs (step s Heard) (each_event_keeps_chain origin target n s l).chain f a

-- one after another: first h, before b and after B0, where e enters, then H, where E enters

joined : (h H b B B0 e E : Told Value) → IsShortOf (then_told h B0) (then_told B e) → IsShortOf (then_told H b) (then_told B0 E) → IsShortOf (then_told (then_told h H) b) (then_told B (then_told e E))
joined h H b B B0 e E f g =
    short_same (then_told (then_told h H) b) (then_told h (then_told H b)) _ (then_assoc h H b)
    (short_trans (then_told h (then_told H b)) (then_told h (then_told B0 E)) _ (short_left h (then_told H b) (then_told B0 E) g)
    (short_same (then_told h (then_told B0 E)) (then_told (then_told h B0) E) _ (sym (then_assoc h B0 E))
    (short_as (then_told (then_told h B0) E) (then_told (then_told B e) E) _ (then_assoc B e E) (short_right (then_told h B0) (then_told B e) E f))))

module _ (origin : Origin) (target : Target) (n : ℕ) where
  record Goes (xs : List Entry) (s : Slots) : Type 0 where
    chain : IsChain origin target n (run xs s)
    short : (k : ℕ) → k ≤ n → IsShortOf (then_told (heard_from origin target n k xs s) (behind_at k (run xs s))) (then_told (behind_at k s) (brought_to origin k xs s))

  goes : (xs : List Entry) (s : Slots) → IsChain origin target n s → AreNodes xs → Goes xs s
  goes [] s c a = record { chain = c; short = λ k l. short_as (behind_at k s) (behind_at k s) _ (sym (then_empty (behind_at k s))) (short_refl (behind_at k s)) }
  goes (Called call ∷ xs) s c a =
      let one = each_call_keeps_chain origin target n s call c (nodes-leave n call a.0) in
      let z : Slots = step s (Called call) in
      let rest = goes xs z one.chain a.1 in
      record {
        chain = rest.chain;
        short = λ k l. joined silence (heard_from origin target n k xs z) (behind_at k (run xs z)) (behind_at k s) (behind_at k z) (call_enters origin k call) (brought_to origin k xs z) (one.short k l) (rest.short k l);
      }
  goes (Worked ∷ xs) s c a =
      let one = each_job_keeps_chain origin target n s c in
      let z : Slots = step s Worked in
      let rest = goes xs z one.chain a in
      record {
        chain = rest.chain;
        short = λ k l. joined silence (heard_from origin target n k xs z) (behind_at k (run xs z)) (behind_at k s) (behind_at k z) (next_enters k (next_job s.promises)) (brought_to origin k xs z) (one.short k l) (rest.short k l);
      }
  goes (Heard ∷ xs) s c a =
      let one = each_event_keeps_chain origin target n s c in
      let z : Slots = step s Heard in
      let rest = goes xs z one.chain a in
      record {
        chain = rest.chain;
        short = λ k l.
            let h = next_heard origin target n k (first_event s.promises.events) in
            joined h (heard_from origin target n k xs z) (behind_at k (run xs z)) (behind_at k s) (behind_at k z) silence (brought_to origin k xs z)
            (short_as (then_told h (behind_at k z)) (behind_at k s) _ (sym (then_empty (behind_at k s))) (one.short k l)) (rest.short k l);
      }

pub each_node_goes : EachNodeGoes
each_node_goes origin target n signalled xs few a =
    let b = each_chain_begins origin target n signalled few in
    let z : Slots = chained origin target n signalled in
    let g = goes origin target n xs z b.chain a in
    let e = each_chain_ends origin target n signalled xs few in
    let quiet = run-none origin target n xs z b.chain (chained-first origin target n signalled) a in
    record {
      chain = g.chain;
      quiet = quiet;
      short = λ k l. subst (λ (t : Told Value). IsShortOf (then_told (heard_from origin target n k xs z) (behind_at k (run xs z))) (then_told t (brought_to origin k xs z))) (b.none k l) (g.short k l);
      rejected = λ r portless o. e.rejected r quiet (λ t pair. past-pairless origin target n signalled xs a t) (λ clone. portless-cloned (past_of origin target n signalled xs) (past-portless origin target n signalled xs (portless clone) a)) o;
      fulfilled = e.fulfilled;
    }

-- and of the links of any segments

all-leave : (k : ℕ) (xs : List Entry) → AreNodes xs → all_leave (source_of k) (dest_of k) xs ≡ true
all-leave k [] a = refl
all-leave k (Called c ∷ xs) a =
    let e = nodes-leave k c a.0 k (omega arith) in
    let h = all-leave k xs a.1 in
    rw (e, h) refl
all-leave k (Worked ∷ xs) a = all-leave k xs a
all-leave k (Heard ∷ xs) a = all-leave k xs a

pub each_wiring_goes : EachWiringGoes
each_wiring_goes xs n signalled entries links few a =
    let ws : List Joint = wiring xs nothing_made in
    let z : Slots = wired_of xs n signalled in
    let b = each_wiring_begins xs n signalled links few in
    let leave : Each (λ x. all_leave x.from x.into entries ≡ true) ws = each-numbered (gives_at ws) (hears_at ws) (λ x. all_leave x.from x.into entries ≡ true) ws 0 (wiring-follows xs) (λ k p q. all-leave k entries a) in
    let w : Each (KeepsJoint z entries) ws = each_wiring_keeps ws z entries b.wired leave in
    record {
      wired = each-map (KeepsJoint z entries) (λ x. IsJoint x (run entries z)) (λ x k. k.joint) ws w;
      short = each-both (KeepsJoint z entries) (λ x. behind_on x z ≡ silence)
          (λ x. IsShortOf (then_told (run_heard x.into entries z) (behind_on x (run entries z))) (run_enters x.from entries z))
          (λ x k e. subst (λ (t : Told Value). IsShortOf (then_told (run_heard x.into entries z) (behind_on x (run entries z))) (then_told t (run_enters x.from entries z))) e k.short) ws w b.none;
    }
