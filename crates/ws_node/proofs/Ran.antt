-- A realm to which one more call, job or event of its node led.
use Rattle.std.proofs.Common.{◌≡◌, ◌+◌, ◌*◌, ◌≤◌, ℕ, false, List, [], ◌∷◌, ◌++◌, refl, sym, ap, ◌∙◌, subst, append-nil, append_assoc, arith}
use Rattle.std.proofs.lemmas.List.Elements.{All-head, All-push, All-tail}
use Rattle.std.specs.Prelude.{All, Contains}
use Rattle.ws_value.specs.declared.ids.PromiseId.{PromiseId}
use Rattle.ws_value.specs.declared.ids.StreamId.{StreamId}
use Rattle.ws_value.specs.declared.value.Plain.{Plain}
use Rattle.ws_steps.specs.declared.calls.Call.{Call}
use Rattle.ws_steps.specs.declared.calls.Call.TheVariants.{Enqueue, Finish, Fail, Trigger, Deliver, Settle}
use Rattle.ws_steps.specs.Descriptors.{has_part}
use Rattle.ws_steps.specs.Run.{Entry, Called, Worked, Heard, run, step}
use Rattle.ws_steps.specs.Slots.{Slots, empty, byte_at, most_streams}
use Rattle.ws_alike.specs.Alike.{Alike, trim}
use Rattle.ws_alike.proofs.Running.{run-alike}
use Rattle.ws_reason_laws.specs.Origins.{through_of, through}
use Rattle.ws_reason_laws.specs.Reasons.{failures}
use Rattle.ws_reason_laws.proofs.Brought.{through-append}
use Rattle.ws_reason_laws.proofs.Quiet.{finish-none}
use Rattle.ws_chain_laws.specs.Chain.{Origin, Target, IsChain, source_of}
use Rattle.ws_chain_laws.specs.Opening.{signal_of, piping, opening, chained}
use Rattle.ws_chain_laws.specs.Outcomes.{last_promise}
use Rattle.ws_chain_laws.specs.Runs.{IsNodes, AreNodes}
use Rattle.ws_chain_laws.proofs.Begins.{run-append}
use Rattle.ws_chain_laws.proofs.Keeps.{each_call_keeps_chain, each_job_keeps_chain, each_event_keeps_chain}
use Rattle.ws_chain_laws.proofs.Links.{link-at}
use Rattle.ws_chain_laws.proofs.Outcomes.{each_chain_ends, past-fails}
use Rattle.ws_chain_laws.proofs.Runs.{nodes-leave}
use Rattle.ws_chain_laws.proofs.Teeless.{AreTeeless, run-teeless}
use Rattle.ws_clone_laws.proofs.Nodes.{each_node_clones}
use Rattle.ws_node.specs.Fair.{AllBringFair}
use Rattle.ws_node.specs.Ran.{IsOwn, IsOwnEntry, IsOpenedBy, HasRun, PipeEnds}
use Rattle.ws_node.specs.Shape.{AreFit, Shape, count_in}
use Rattle.ws_node.proofs.Entries.{clones-last, fair-last, run-snoc}

-- a call of its own leaves each link alone, makes no tee, and brings nothing through a transform stream

pub own-nodes : (n : ℕ) (c : Call) → IsOwn n c → IsNodes c
own-nodes n (Settle h answer) is = tt
own-nodes n (Enqueue i v) is = tt
own-nodes n (Finish i) is = tt
own-nodes n (Fail i reason) is = (is.0, is.2)
own-nodes n (Trigger a reason) is = tt
own-nodes n (Deliver c m) is = tt
own-nodes n _ is = absurd is

own-teeless : (n : ℕ) (x : Entry) → IsOwnEntry n x → AreTeeless (x ∷ [])
own-teeless n (Called (Settle h answer)) is = (tt, tt)
own-teeless n (Called (Enqueue i v)) is = (tt, tt)
own-teeless n (Called (Finish i)) is = (tt, tt)
own-teeless n (Called (Fail i reason)) is = (tt, tt)
own-teeless n (Called (Trigger a reason)) is = (tt, tt)
own-teeless n (Called (Deliver c m)) is = (tt, tt)
own-teeless n (Called _) is = absurd is
own-teeless n Worked is = tt
own-teeless n Heard is = tt

-- the source of a link is bare where it is a byte stream
no-part : (o : Origin) (t : Target) (n : ℕ) (s : Slots) → IsChain o t n s → (k : ℕ) → k ≤ n → has_part (byte_at (source_of k) s).descriptors ≡ false
no-part o t n s c k l = let bare = (link-at o t n s c k l).link.bare in rw bare.descriptors refl

own-quiet : (o : Origin) (t : Target) (n : ℕ) (c : Call) (s : Slots) → IsChain o t n s → IsOwn n c → through_of c s ≡ []
own-quiet o t n (Settle h answer) s w is = refl
own-quiet o t n (Enqueue i v) s w is = refl
own-quiet o t n (Finish i) s w is = subst (λ (j : StreamId). through_of (Finish j) s ≡ []) (sym is.2) (finish-none (source_of is.0) s (no-part o t n s w is.0 is.1))
own-quiet o t n (Fail i reason) s w is = refl
own-quiet o t n (Trigger a reason) s w is = refl
own-quiet o t n (Deliver c m) s w is = refl
own-quiet o t n _ s w is = absurd is

step-quiet : (o : Origin) (t : Target) (n : ℕ) (x : Entry) (s : Slots) → IsChain o t n s → IsOwnEntry n x → through (x ∷ []) s ≡ []
step-quiet o t n (Called c) s w is = append-nil (through_of c s) ∙ own-quiet o t n c s w is
step-quiet o t n Worked s w is = refl
step-quiet o t n Heard s w is = refl

step-wired : (o : Origin) (t : Target) (n : ℕ) (x : Entry) (s : Slots) → IsChain o t n s → IsOwnEntry n x → IsChain o t n (step s x)
step-wired o t n (Called c) s w is = (each_call_keeps_chain o t n s c w (nodes-leave n c (own-nodes n c is))).chain
step-wired o t n Worked s w is = (each_job_keeps_chain o t n s w).chain
step-wired o t n Heard s w is = (each_event_keeps_chain o t n s w).chain

-- what led to it is longer by one entry
opened-longer : (shape : Shape) (past : List Entry) (x : Entry) → IsOpenedBy shape past → IsOwnEntry (count_in shape) x → IsOpenedBy shape (past ++ x ∷ [])
opened-longer shape past x o own =
    let n = count_in shape in
    record {
      since = o.since ++ x ∷ [];
      is =
          ap (λ (es : List Entry). es ++ x ∷ []) o.is
          ∙ append_assoc (opening shape.origin shape.target n shape.aborted) (Called (piping (signal_of shape.aborted) n) ∷ o.since) (x ∷ []);
      own = All-push (IsOwnEntry n) o.since x o.own own;
    }

pub ran-longer : (shape : Shape) (past : List Entry) (x : Entry) (s z : Slots) → HasRun shape past s → z ≡ step s x → IsOwnEntry (count_in shape) x → HasRun shape (past ++ x ∷ []) z
ran-longer shape past x s z r e own =
    let n = count_in shape in
    let o = shape.origin in
    let t = shape.target in
    let before : Slots = run past empty in
    record {
      opened = opened-longer shape past x r.opened own;
      slots = ap trim e ∙ (run-alike (x ∷ []) s before r.slots ∙ ap trim (sym (run-snoc past x empty)));
      wired = subst (IsChain o t n) (sym (run-snoc past x empty)) (step-wired o t n x before r.wired own);
      quiet = through-append past (x ∷ []) empty ∙ (ap (λ q. q ++ through (x ∷ []) before) r.quiet ∙ step-quiet o t n x before r.wired own);
      teeless = subst (λ (q : Slots). q.tees ≡ []) (sym e) (run-teeless (x ∷ []) s (own-teeless n x own) r.teeless);
    }

-- So the laws of a chain from its opening on are laws of a node: its calls since then are a node's, and its realm is alike to that of the opening after
-- them

own-nodes-all : (n : ℕ) (xs : List Entry) → All (IsOwnEntry n) xs → AreNodes xs
own-nodes-all n [] a = tt
own-nodes-all n (Called c ∷ xs) a = (own-nodes n c (All-head (IsOwnEntry n) (Called c) xs a), own-nodes-all n xs (All-tail (IsOwnEntry n) (Called c) xs a))
own-nodes-all n (Worked ∷ xs) a = own-nodes-all n xs (All-tail (IsOwnEntry n) Worked xs a)
own-nodes-all n (Heard ∷ xs) a = own-nodes-all n xs (All-tail (IsOwnEntry n) Heard xs a)

pub opened-nodes : (shape : Shape) (past : List Entry) (o : IsOpenedBy shape past) → AreNodes o.since
opened-nodes shape past o = own-nodes-all (count_in shape) o.since o.own

pub opened-slots : (shape : Shape) (past : List Entry) (s : Slots) (r : HasRun shape past s)
    → Alike s (run r.opened.since (chained shape.origin shape.target (count_in shape) shape.aborted))
opened-slots shape past s r =
    let n = count_in shape in
    r.slots
    ∙ ap trim (ap (λ (es : List Entry). run es empty) r.opened.is
    ∙ run-append (opening shape.origin shape.target n shape.aborted) (Called (piping (signal_of shape.aborted) n) ∷ r.opened.since) empty)

-- what is given since then is fair where all is
pub opened-fair : (shape : Shape) (past : List Entry) (o : IsOpenedBy shape past) → AllBringFair past → AllBringFair o.since
opened-fair shape past o fair =
    let n = count_in shape in
    (fair-last (opening shape.origin shape.target n shape.aborted) (Called (piping (signal_of shape.aborted) n) ∷ o.since) (subst AllBringFair o.is fair)).1

-- and its failures are all since then
pub opened-fails : (shape : Shape) (past : List Entry) (o : IsOpenedBy shape past) → failures past ≡ failures o.since
opened-fails shape past o = ap failures o.is ∙ past-fails shape.origin shape.target (count_in shape) shape.aborted o.since

pub few-streams : (stages : ℕ) → stages ≤ 16 → 2 * stages + 2 ≤ most_streams
few-streams stages few = omega arith

-- with the same past
pub ran-same : (shape : Shape) (past : List Entry) (s z : Slots) → HasRun shape past s → z ≡ s → HasRun shape past z
ran-same shape past s z r e = subst (HasRun shape past) (sym e) r

-- and with slots that are alike
pub ran-alike : (shape : Shape) (past : List Entry) (s z : Slots) → HasRun shape past s → Alike z s → HasRun shape past z
ran-alike shape past s z r h =
    record { opened = r.opened; slots = h ∙ r.slots; wired = r.wired; quiet = r.quiet; teeless = ap (λ (q : Slots). q.tees) h ∙ r.teeless }

-- how the pipe of the last link ends
pub pipe-ends : (shape : Shape) (past : List Entry) (s : Slots) → HasRun shape past s → AreFit shape.stages
    → PipeEnds shape past (last_promise shape.origin shape.target (count_in shape) shape.aborted)
pipe-ends shape past s r fit =
    let n = count_in shape in
    let o = shape.origin in
    let t = shape.target in
    let few : 2 * n + 2 ≤ most_streams = few-streams n fit.few in
    let q : PromiseId = last_promise o t n shape.aborted in
    let since : List Entry = r.opened.since in
    let e = each_chain_ends o t n shape.aborted since few in
    subst (λ (es : List Entry). PipeEnds shape es q) (sym r.opened.is)
    (record {
      its = e.pipes n (omega arith);
      watched = e.watched n (omega arith);
      rejected = λ v clones out.
          subst (λ (rs : List Plain). Contains rs v) (sym (past-fails o t n shape.aborted since))
          ((each_node_clones o t n shape.aborted since few (opened-nodes shape past r.opened)
          (clones-last (opening o t n shape.aborted) (Called (piping (signal_of shape.aborted) n) ∷ since) clones).1).rejected v out);
      fulfilled = λ v sink out. e.fulfilled v sink out;
    })
