-- A run without a call that tees a stream has no tee, and so has none that opens a chain, nor one of a node.
use Rattle.std.proofs.Common.{◌≡◌, ℕ, zero, suc, Bool, true, false, List, [], ◌∷◌, ◌++◌, length, Option, Some, None, slice_get, subst, ap, ◌∙◌, refl}
use Rattle.ws_value.specs.declared.ids.TeeId.{TeeId}
use Rattle.ws_steps.specs.declared.calls.Call.{Call}
use Rattle.ws_steps.specs.declared.calls.Call.TheVariants.{Tee, Settle, Enqueue, Finish, Fail, Trigger, Deliver}
use Rattle.ws_steps.specs.declared.calls.Reply.{Reply}
use Rattle.ws_steps.specs.declared.calls.Reply.TheVariants.{Promise}
use Rattle.ws_steps.specs.declared.promises.Job.{Job}
use Rattle.ws_steps.specs.Begun.{Begun}
use Rattle.ws_steps.specs.PipeCalls.{open_end}
use Rattle.ws_steps.specs.Calls.{begin, named}
use Rattle.ws_steps.specs.declared.port.Side.{Side}
use Rattle.ws_steps.specs.declared.port.Side.TheVariants.{Readable as ReadableSide, Writable as WritableSide}
use Rattle.ws_steps.specs.Jobs.{job_begun, begin_job}
use Rattle.ws_steps.specs.Promises.{next_job}
use Rattle.ws_steps.specs.Run.{Entry, Called, Worked, Heard, run, step}
use Rattle.ws_steps.specs.Slots.{Slots, empty, as_tee, pair_at}
use Rattle.ws_steps.specs.Tee as tee
use Rattle.ws_steps.specs.Turns.{performed}
use Rattle.ws_laws.proofs.EachCall.{each_call}
use Rattle.ws_link_laws.proofs.Pipelines.{performed-teeless}
use Rattle.ws_chain_laws.specs.Chain.{Origin, FromChunks, FromBytes, FromPort, Target, ToSink, ToPort}
use Rattle.ws_chain_laws.specs.Opening.{sink_call, transforms, streams, signals, signal_of, piping, pipes_from, opening}
use Rattle.ws_chain_laws.specs.Outcomes.{past_of}
use Rattle.ws_chain_laws.specs.Runs.{IsNodes, AreNodes}

abbrev pub IsTeeless : Call → Type 0
IsTeeless (Tee i) = ⊥
IsTeeless _ = Unit {0}

abbrev pub AreTeeless : List Entry → Type 0
AreTeeless [] = Unit {0}
AreTeeless (Called c ∷ xs) = IsTeeless c × AreTeeless xs
AreTeeless (Worked ∷ xs) = AreTeeless xs
AreTeeless (Heard ∷ xs) = AreTeeless xs

call-teeless : (c : Call) (s : Slots) → IsTeeless c → s.tees ≡ [] → (begin c s).done.slots.tees ≡ []
call-teeless c s n h = each_call (λ (b : Begun). b.done.slots.tees ≡ []) c s (record {
  unchanged = λ reply. h;
  rejected = λ fault. h;
  make_readable = λ mark size start. h;
  make_bytes = λ mark auto start. h;
  make_writable = λ mark size start. h;
  make_transform = λ kind m k start. h;
  make_tee = λ i e there free untied. absurd (subst IsTeeless e n);
  get_reader = λ i e. h;
  get_byob = λ i is e. h;
  get_writer = λ i e. h;
  release_reader = λ l closed i e. h;
  release_byob = λ l closed i e. h;
  release_writer = λ l i w e f. h;
  cancel = λ reason i. h;
  read = λ l i closed e f. h;
  read_into = λ l i closed room element least e f. h;
  write = λ l v i e. h;
  close = λ i. h;
  abort = λ reason i e. h;
  enqueue = λ i v e o can. h;
  enqueue_half = λ i t v e o can. h;
  enqueue_bytes = λ i b e is some can. h;
  finish = λ i. h;
  finish_bytes = λ i e is can. h;
  make_request = λ i reply is. h;
  respond = λ q i b e is can. h;
  fail_readable = λ i reason. h;
  fail_writable = λ i reason. h;
  fail_half = λ t reason. h;
  terminate = λ t. h;
  pipe = λ source dest prevent signal e f l m. h;
  make_signal = h;
  trigger = λ a reason. h;
  settle = λ a answer p e. h;
  open_end = λ side. opened side h;
  send_readable = λ i there free. h;
  send_writable = λ i there free. h;
  deliver = λ p m e is. h;
})
  where
    opened : (side : Side) → s.tees ≡ [] → (open_end side (record { 0 = length s.streams }) s).done.slots.tees ≡ []
    opened ReadableSide k = k
    opened WritableSide k = k

named-tees : (reply : Reply) (s : Slots) → (named reply s).tees ≡ s.tees
named-tees (Promise p) s = refl
named-tees _ s = refl

begun-tees : (s : Slots) (o : Option Job) → s.tees ≡ [] → (job_begun s o).slots.tees ≡ []
begun-tees s None h = h
begun-tees s (Some job) h = h

worked-teeless : (s : Slots) → s.tees ≡ [] → (step s Worked).tees ≡ []
unfolding begin_job
worked-teeless s h = performed-teeless (job_begun s (next_job s.promises)) (begun-tees s (next_job s.promises) h)

pub run-teeless : (xs : List Entry) (s : Slots) → AreTeeless xs → s.tees ≡ [] → (run xs s).tees ≡ []
run-teeless [] s a h = h
run-teeless (Called c ∷ xs) s a h =
    run-teeless xs (step s (Called c)) a.1 (named-tees (begin c s).reply (performed (begin c s).done) ∙ performed-teeless (begin c s).done (call-teeless c s a.0 h))
run-teeless (Worked ∷ xs) s a h = run-teeless xs (step s Worked) a (worked-teeless s h)
run-teeless (Heard ∷ xs) s a h = run-teeless xs (step s Heard) a h

teeless-append : (xs ys : List Entry) → AreTeeless xs → AreTeeless ys → AreTeeless (xs ++ ys)
teeless-append [] ys a b = b
teeless-append (Called c ∷ xs) ys a b = (a.0, teeless-append xs ys a.1 b)
teeless-append (Worked ∷ xs) ys a b = teeless-append xs ys a b
teeless-append (Heard ∷ xs) ys a b = teeless-append xs ys a b

-- the opening of a chain

transforms-teeless : (n : ℕ) → AreTeeless (transforms n)
transforms-teeless zero = tt
transforms-teeless (suc n) = (tt, transforms-teeless n)

signals-teeless : (b : Bool) → AreTeeless (signals b)
signals-teeless false = tt
signals-teeless true = (tt, tt)

pipes-teeless : (k n : ℕ) → AreTeeless (pipes_from k n)
pipes-teeless k zero = tt
pipes-teeless k (suc n) = (tt, pipes-teeless (suc k) n)

sink-teeless : (target : Target) → AreTeeless (Called (sink_call target) ∷ [])
sink-teeless ToSink = (tt, tt)
sink-teeless ToPort = (tt, tt)

streams-teeless : (origin : Origin) (target : Target) (n : ℕ) → AreTeeless (streams origin target n)
streams-teeless FromChunks target n = (tt, teeless-append (transforms n) _ (transforms-teeless n) (sink-teeless target))
streams-teeless FromBytes target n = (tt, teeless-append (transforms n) _ (transforms-teeless n) (sink-teeless target))
streams-teeless FromPort target n = (tt, teeless-append (transforms n) _ (transforms-teeless n) (sink-teeless target))

opening-teeless : (origin : Origin) (target : Target) (n : ℕ) (signalled : Bool) → AreTeeless (opening origin target n signalled)
opening-teeless origin target n signalled =
    teeless-append (streams origin target n) (signals signalled ++ pipes_from 0 n) (streams-teeless origin target n)
    (teeless-append (signals signalled) (pipes_from 0 n) (signals-teeless signalled) (pipes-teeless 0 n))

-- and calls of a node

nodes-teeless : (c : Call) → IsNodes c → IsTeeless c
nodes-teeless (Settle h answer) is = tt
nodes-teeless (Enqueue i v) is = tt
nodes-teeless (Finish i) is = tt
nodes-teeless (Fail i reason) is = tt
nodes-teeless (Trigger a reason) is = tt
nodes-teeless (Deliver c m) is = tt
nodes-teeless _ is = absurd is

are-teeless : (xs : List Entry) → AreNodes xs → AreTeeless xs
are-teeless [] a = tt
are-teeless (Called c ∷ xs) a = (nodes-teeless c a.0, are-teeless xs a.1)
are-teeless (Worked ∷ xs) a = are-teeless xs a
are-teeless (Heard ∷ xs) a = are-teeless xs a

pub past-teeless : (origin : Origin) (target : Target) (n : ℕ) (signalled : Bool) (xs : List Entry) → AreNodes xs → (run (past_of origin target n signalled xs) empty).tees ≡ []
past-teeless origin target n signalled xs a =
    run-teeless (past_of origin target n signalled xs) empty
    (teeless-append (opening origin target n signalled) (Called (piping (signal_of signalled) n) ∷ xs) (opening-teeless origin target n signalled) (tt, are-teeless xs a)) refl

-- so none keeps the reasons of both its branches
pub past-pairless : (origin : Origin) (target : Target) (n : ℕ) (signalled : Bool) (xs : List Entry) → AreNodes xs → (t : TeeId) → pair_at t (run (past_of origin target n signalled xs) empty) ≡ None
past-pairless origin target n signalled xs a t = ap (λ (ts : List tee.Slots). tee.pair (as_tee (slice_get ts t.0))) (past-teeless origin target n signalled xs a)
