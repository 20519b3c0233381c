-- A node stays one that its past led to, as its realm performs calls and jobs and its host hears of events.
use Rattle.std.proofs.Common.{◌≡◌, ◌≢◌, ◌+◌, ◌≤◌, ℕ, zero, suc, false, List, [], ◌∷◌, ◌++◌, length, Option, Some, None, refl, sym, ap, ◌∙◌, subst, append-nil, append_assoc, arith}
use Rattle.std.specs.Prelude.{slice_get, All}
use Rattle.std.proofs.lemmas.List.{length-map}
use Rattle.ws_value.specs.declared.ids.HostId.{HostId}
use Rattle.ws_value.specs.declared.ids.PortId.{PortId}
use Rattle.ws_value.specs.declared.ids.StreamId.{StreamId}
use Rattle.ws_value.specs.declared.value.Message.{Message}
use Rattle.ws_value.specs.declared.value.Value.{Value}
use Rattle.ws_value.specs.declared.value.Value.TheVariants.{Bytes}
use Rattle.ws_flow.specs.declared.plan.Ending.TheVariants.{Fine}
use Rattle.ws_node.specs.Shape.{Shape, count_in, enters_in, hears_in}
use Rattle.ws_flow.specs.Parts.{Over}
use Rattle.ws_flow.specs.Steps.{coming_from}
use Rattle.ws_flow.specs.Told.{Open as MayCome, Closed as ToldClosed, Told, told, then_told, IsShortOf}
use Rattle.ws_flow.proofs.Told.{then_empty, short_refl, short_trans, short_as}
use Rattle.ws_stages.specs.State.{State}
use Rattle.ws_steps.specs.declared.calls.Call.{Call}
use Rattle.ws_steps.specs.declared.calls.Call.TheVariants.{Enqueue}
use Rattle.ws_steps.specs.declared.calls.Event.{Event}
use Rattle.ws_steps.specs.declared.calls.Event.TheVariants.{Host, Settled, Signal, Post}
use Rattle.ws_steps.specs.declared.calls.HostCall.{HostCall}
use Rattle.ws_steps.specs.declared.calls.HostCall.TheVariants.{Close, Flush}
use Rattle.ws_steps.specs.Histories.{taken_event}
use Rattle.ws_steps.specs.PortHistory.{posted_by, posted_in}
use Rattle.ws_steps.specs.Promises.{next_job}
use Rattle.ws_steps.specs.Run.{Entry, Called, Worked, Heard, run, step, after_call, after_job, after_event, first_event, jobs_in_a_row, performed_in}
use Rattle.ws_steps.specs.Slots.{Slots, empty}
use Rattle.ws_laws.proofs.Ages.{called-age, each_age_counts}
use Rattle.ws_end_laws.specs.hosts.HostCalls.{called, settles_well, AllEvents, IsItsCall}
use Rattle.ws_end_laws.proofs.hosts.Called.{each_event_is_its_call}
use Rattle.ws_link_laws.specs.Link.{silence}
use Rattle.ws_chain_laws.specs.Chain.{transform_of, source_of, behind_at}
use Rattle.ws_chain_laws.specs.Laws.{next_enters, next_heard}
use Rattle.ws_chain_laws.specs.Outcomes.{JobBrings, Flushes, BringsNothing, BringsTheEnd}
use Rattle.ws_chain_laws.proofs.Flushed.{each_end_was_flushed}
use Rattle.ws_chain_laws.proofs.Links.{link-at}
use Rattle.ws_chain_laws.proofs.Runs.{nodes-leave}
use Rattle.ws_realm.specs.Seen.{SeenRealm, oldest}
use Rattle.ws_realm.specs.declared.realm.Why.{Why}
use Rattle.ws_realm.specs.declared.realm.Why.TheVariants.{Spent}
use Rattle.ws_reason_laws.specs.Reasons.{failure_of}
use Rattle.ws_node_laws.specs.Messages.{taken_events, message_by, delivered_to}
use Rattle.ws_node.specs.declared.node.Node.{Node}
use Rattle.ws_node.specs.declared.node.Output.TheVariants as output
use Rattle.ws_node.specs.Fair.{BringsFair, AllBringFair}
use Rattle.ws_node.specs.Moves.{Asks, Performed, Refused, Stops, Before, Wanting, IsSpent, IsAt, IsDoneBy, Works, with_realm, stopped_by}
use Rattle.ws_node.specs.Node.{feeds_edge, in_bytes, coming_behind, coming, lies, lies_in}
use Rattle.ws_node.specs.Past.{AreCaused, IsCause, OneAtMost, ClosesFinished, FlushesFine, IsPull, Led, EndsHave}
use Rattle.ws_node.specs.Ran.{IsOwn, IsOwnEntry, HasRun}
use Rattle.ws_node.proofs.Alike.{call-keeps, job-keeps, event-keeps}
use Rattle.ws_node.proofs.Bytes.{short-behind, nothing-follows, short-ended, lost-short, lying-both, lying-since, one-short, one-before}
use Rattle.ws_node.proofs.Shut.{enqueue-shut, behind-mark}
use Rattle.ws_node.proofs.Entries.{fair-append, called-longer, pull-longer, MayClose, closes-snoc, MayFlush, flushes-snoc}
use Rattle.ws_node.proofs.Quiet.{IsNoMessage, no-message, IsNoPost, no-post, taken-snoc, taken-none, delivered-snoc, delivered-none, posted-append, StaysSo, stays-as, stays-going, ends-same, ends-as}
use Rattle.ws_node.proofs.Ran.{own-nodes, ran-longer, ran-same}
use Rattle.ws_node.proofs.Reasons.{KeepsCauses, same-causes, causes-stay, causes-longer, MayFailBy}
pub use Rattle.ws_node.proofs.Reasons.{MayFail, AllHaveCauses, FromBelow}

-- A node of which only the realm changed, and that may have stopped

core-causes : (n : Node) (realm : SeenRealm) (stopped : Option Why) → KeepsCauses n (record n { core = record n.core { realm = realm; stopped = stopped } })
core-causes n realm stopped = same-causes n (record n { core = record n.core { realm = realm; stopped = stopped } }) refl refl refl refl

-- where its past may be longer too
pub led-as : (shape : Shape) (past ys : List Entry) (n : Node) (realm : SeenRealm) (stopped : Option Why) → Led shape past n → HasRun shape ys realm.slots → AllBringFair ys
    → AreCaused shape ys n → ClosesFinished n.exit.sink ys n.exit.output → FlushesFine ys n.core.stages.items → IsPull ys n.entrance.asked
    → realm.slots.age ≤ oldest → (stopped ≡ Some Spent → realm.slots.age ≡ oldest) → Led shape ys (record n { core = record n.core { realm = realm; stopped = stopped } })
led-as shape past ys n realm stopped s ran clones failed closes flushes asked young spent =
    record {
      is_of = record { fit = s.is_of.fit; from = s.is_of.from; into = s.is_of.into; stages = s.is_of.stages; source = s.is_of.source; sink = s.is_of.sink; most = s.is_of.most; signal = s.is_of.signal };
      ran = ran;
      piped = s.piped;
      clones = clones;
      failed = causes-stay shape ys n (record n { core = record n.core { realm = realm; stopped = stopped } }) (core-causes n realm stopped) failed;
      closes = closes;
      flushes = flushes;
      asked = asked;
      aborts = s.aborts;
      age = young;
      counts = s.counts;
      spent = spent;
    }

-- with the same past
led-stays : (shape : Shape) (past : List Entry) (n : Node) (realm : SeenRealm) (stopped : Option Why) → Led shape past n → realm.slots ≡ n.core.realm.slots
    → (stopped ≡ Some Spent → n.core.realm.slots.age ≡ oldest) → Led shape past (record n { core = record n.core { realm = realm; stopped = stopped } })
led-stays shape past n realm stopped s e spent =
    led-as shape past past n realm stopped s (ran-same shape past n.core.realm.slots realm.slots s.ran e) s.clones s.failed s.closes s.flushes s.asked
    (subst (λ (q : Slots). q.age ≤ oldest) (sym e) s.age) (λ f. ap (λ (q : Slots). q.age) e ∙ spent f)

-- and as the past is longer by one entry
pub longer : (shape : Shape) (past : List Entry) (x : Entry) (n : Node) (realm : SeenRealm) → Led shape past n → realm.slots ≡ step n.core.realm.slots x → realm.slots.age ≤ oldest
    → (n.core.stopped ≡ Some Spent → realm.slots.age ≡ oldest) → IsOwnEntry (count_in shape) x → AllBringFair (x ∷ []) → MayFailBy shape n x → MayClose n.exit.sink past x n.exit.output
    → MayFlush past x n.core.stages.items → Led shape (past ++ x ∷ []) (with_realm realm n)
longer shape past x n realm s is young spent own clones reasons closes flushes =
    led-as shape past (past ++ x ∷ []) n realm n.core.stopped s
    (ran-longer shape past x n.core.realm.slots realm.slots s.ran is own)
    (fair-append past (x ∷ []) s.clones clones)
    (causes-longer shape past x n s.failed reasons)
    (closes-snoc n.exit.sink past x n.exit.output s.closes closes)
    (flushes-snoc past x n.core.stages.items s.flushes flushes)
    (pull-longer past (x ∷ []) n.entrance.asked s.asked)
    young spent

-- only the realm changed, and that may have stopped
pub record OnlyRealm (a b : Node) : Type 0 where
  pub realm : SeenRealm
  pub stopped : Option Why
  pub is : b ≡ record a { core = record a.core { realm = realm; stopped = stopped } }

pub only-then : (a b c : Node) → OnlyRealm a b → OnlyRealm b c → OnlyRealm a c
only-then a b c f g = record { realm = g.realm; stopped = g.stopped; is = g.is ∙ ap (λ (n : Node). record n { core = record n.core { realm = g.realm; stopped = g.stopped } }) f.is }

-- What a node may ask of its realm: calls of its own, which bring bytes and faults, with reasons that have their cause. It settles the close of the sink well only where the output was
-- finished, and the flush of a stage only where that ended fine
pub record MayAsk (shape : Shape) (past : List Entry) (n : Node) (c : Call) : Type 0 where
  pub is_own : IsOwn (count_in shape) c
  pub clones : BringsFair c
  pub failed : MayFail shape n c
  pub closes : (id : HostId) → c ≡ settles_well id → slice_get (called past) id.0 ≡ Some (Close n.exit.sink) → feeds_edge n.exit.output ≡ false → n.exit.output ≡ output.Finished
  pub flushes : (id : HostId) (i : StreamId) → c ≡ settles_well id → slice_get (called past) id.0 ≡ Some (Flush i)
      → (first last : List State) (w : State) → IsAt i n.core.stages.items first w last → w.work ≡ Over Fine

pub own-failed : (shape : Shape) (n : Node) (c : Call) → All (IsCause n) (failure_of c) → MayFail shape n c
own-failed shape n c h = AllHaveCauses h

-- What a call delivers is delivered, unless the realm has stopped
pub data Delivers (c : Call) (past more : List Entry) (stopped : Option Why) : Type 0 where
  Delivered : ((port : PortId) → delivered_to port (past ++ more) ≡ delivered_to port past ++ message_by port c) → Delivers c past more stopped
  Undelivered : stopped ≢ None → ((port : PortId) → delivered_to port (past ++ more) ≡ delivered_to port past) → Delivers c past more stopped

-- After a call: what lies on each link is, or is short of, what lay there and then what the call brings, whatever comes behind
pub record AfterCall (shape : Shape) (past : List Entry) (c : Call) (a b : Node) : Type 0 where
  pub more : List Entry
  pub led : Led shape (past ++ more) b
  pub only : OnlyRealm a b
  pub short : (d : ℕ → Told (List ℕ)) (k : ℕ) → k ≤ count_in shape → IsShortOf (lies d b k) (lies (λ j. then_told (in_bytes (enters_in shape j c)) (d j)) a k)
  pub one : (m : ℕ) → OneAtMost m (then_told (behind_at 0 a.core.realm.slots) (enters_in shape 0 c)).items → OneAtMost m (behind_at 0 b.core.realm.slots).items
  pub older : b.core.stopped ≡ None → b.core.realm.slots.age ≡ suc a.core.realm.slots.age
  -- the host heard of nothing meanwhile
  pub taken : taken_events (past ++ more) empty ≡ taken_events past empty
  pub delivered : Delivers c past more b.core.stopped
  pub ends : IsNoMessage c → EndsHave shape past a → EndsHave shape (past ++ more) b

-- a call

same_call : (c d : Call) → Called c ≡ Called d → c ≡ d
same_call c d e = grind arith

-- what lies there after a call that was performed
pub call-short : (shape : Shape) (past : List Entry) (a : Node) (realm : SeenRealm) (c : Call) → Led shape past a → IsOwn (count_in shape) c → realm.slots ≡ after_call c a.core.realm.slots
    → (k : ℕ) → k ≤ count_in shape → IsShortOf (behind_at k realm.slots) (then_told (behind_at k a.core.realm.slots) (enters_in shape k c))
call-short shape past a realm c led own slots k l =
    subst (λ q. IsShortOf (behind_at k q) (then_told (behind_at k a.core.realm.slots) (enters_in shape k c))) (sym slots)
    (call-keeps shape.origin shape.target (count_in shape) a.core.realm.slots (run past empty) led.ran.slots led.ran.wired c (nodes-leave (count_in shape) c (own-nodes (count_in shape) c own)) k l)

stops-spent : (n : Node) (why : Why) → Stops why n → (n.core.stopped ≡ Some Spent → n.core.realm.slots.age ≡ oldest) → Some why ≡ Some Spent → n.core.realm.slots.age ≡ oldest
stops-spent n why (Before f) g e = g (f ∙ e)
stops-spent n why (Wanting going f) g e = absurd (cc)
stops-spent n why (IsSpent going is f) g e = f

goes-spent : (n : Node) (P : Type 0) → n.core.stopped ≡ None → n.core.stopped ≡ Some Spent → P
goes-spent n P goes e = absurd (cc)

one_more : (n m : ℕ) → n ≡ m + 1 → n ≡ suc m
one_more n m e = omega (arith, e)

-- the ends where a call that delivers nothing was performed, and where it wasn't

ends-called : (shape : Shape) (past : List Entry) (a : Node) (realm : SeenRealm) (c : Call) → IsNoMessage c → EndsHave shape past a → EndsHave shape (past ++ Called c ∷ []) (with_realm realm a)
ends-called shape past a realm c none h =
    ends-same shape past (past ++ Called c ∷ []) a (with_realm realm a) (λ port. ap (posted_in port) (taken-none past (Called c) empty refl))
    (λ port. delivered-none port past (Called c) (append-nil (message_by port c) ∙ no-message port c none)) refl refl (stays-as a.core.stopped) h

stops-so : (a : Node) (why : Why) → Stops why a → StaysSo a.core.stopped (Some why)
stops-so a why (Before e) = (λ f. absurd (cc), λ f. sym e ∙ f)
stops-so a why (Wanting going is) = stays-going a.core.stopped (Some why) going
stops-so a why (IsSpent going is old) = stays-going a.core.stopped (Some why) going

ends-refused : (shape : Shape) (past : List Entry) (a : Node) (why : Why) → Stops why a → EndsHave shape past a → EndsHave shape (past ++ []) (stopped_by why a)
ends-refused shape past a why stops h =
    subst (λ (es : List Entry). EndsHave shape es (stopped_by why a)) (sym (append-nil past)) (ends-as shape past a (stopped_by why a) refl refl (stops-so a why stops) h)

pub since-asks : (shape : Shape) (past : List Entry) (a b : Node) (c : Call) → Led shape past a → MayAsk shape past a c → Asks c a b → AfterCall shape past c a b
since-asks shape past a b c led may (Performed realm slots young goes is) =
    subst (AfterCall shape past c a) (sym is)
    (record {
      more = Called c ∷ [];
      led = longer shape past (Called c) a realm led slots (young led.age) (goes-spent a (realm.slots.age ≡ oldest) goes) may.is_own (may.clones, tt) may.failed
          (λ id e. may.closes id (same_call c (settles_well id) e)) (λ id i e. may.flushes id i (same_call c (settles_well id) e));
      only = record { realm = realm; stopped = a.core.stopped; is = refl };
      short = λ d k l. lying-both a.core.stopped _ _
          (short-behind (behind_at k realm.slots) (behind_at k a.core.realm.slots) (enters_in shape k c) (d k) (call-short shape past a realm c led may.is_own slots k l));
      one = λ m o. one-short m _ _ (call-short shape past a realm c led may.is_own slots 0 (omega arith)) o;
      older = λ e. one_more realm.slots.age a.core.realm.slots.age (ap (λ (q : Slots). q.age) slots ∙ called-age c a.core.realm.slots);
      taken = taken-none past (Called c) empty refl;
      delivered = Delivered (λ port. delivered-snoc port past (Called c) ∙ ap (λ (ms : List Message). delivered_to port past ++ ms) (append-nil (message_by port c)));
      ends = λ none h. ends-called shape past a realm c none h;
    })
since-asks shape past a b c led may (Refused why stops is) =
    subst (AfterCall shape past c a) (sym is)
    (record {
      more = [];
      led = subst (λ q. Led shape q (stopped_by why a)) (sym (append-nil past)) (led-stays shape past a a.core.realm (Some why) led refl (stops-spent a why stops led.spent));
      only = record { realm = a.core.realm; stopped = Some why; is = refl };
      short = λ d k l. lost-short (lies (λ j. then_told (in_bytes (enters_in shape j c)) (d j)) a k);
      one = λ m o. one-before m (behind_at 0 a.core.realm.slots) (enters_in shape 0 c) o;
      older = λ e. absurd (cc);
      taken = ap (λ (es : List Entry). taken_events es empty) (append-nil past);
      delivered = Undelivered (λ e. cc) (λ port. ap (delivered_to port) (append-nil past));
      ends = λ none h. ends-refused shape past a why stops h;
    })

-- where a chunk isn't taken, whatever was to come behind it on that link is lost
pub dropped : (shape : Shape) (past : List Entry) (a b : Node) (m : ℕ) (piece : List ℕ) → suc m ≤ count_in shape → Led shape past a → Asks (Enqueue (source_of (suc m)) (Bytes piece)) a b
    → (IsDoneBy (Enqueue (source_of (suc m)) (Bytes piece)) a b → ⊥) → (d e : ℕ → Told (List ℕ)) → IsShortOf (lies d b (suc m)) (lies e a (suc m))
dropped shape past a b m piece less led (Performed realm slots young goes is) not_done d e =
    let k : ℕ = suc m in
    let c : Call = Enqueue (source_of k) (Bytes piece) in
    let at = link-at shape.origin shape.target (count_in shape) (run past empty) led.ran.wired k less in
    let shut : (behind_at k a.core.realm.slots).mark ≢ MayCome =
    behind-mark k a.core.realm.slots
    (enqueue-shut (source_of k) (transform_of m) (Bytes piece) past a.core.realm.slots led.ran.slots at.link.source at.link.source_owner at.gives
    (λ f. not_done (record { going = goes; done = f; goes_on = ap (λ (n : Node). n.core.stopped) is ∙ goes }))) in
    let short : IsShortOf (behind_at k realm.slots) (behind_at k a.core.realm.slots) =
    short_as (behind_at k realm.slots) (then_told (behind_at k a.core.realm.slots) (enters_in shape k c)) _ (nothing-follows (behind_at k a.core.realm.slots) (enters_in shape k c) shut)
    (call-short shape past a realm c led tt slots k less) in
    subst (λ (n : Node). IsShortOf (lies d n k) (lies e a k)) (sym is)
    (lying-both a.core.stopped _ _ (short-ended (behind_at k realm.slots) (behind_at k a.core.realm.slots) (d k) (e k) shut short))
dropped shape past a b m piece less led (Refused why stops is) not_done d e =
    subst (λ (n : Node). IsShortOf (lies d n (suc m)) (lies e a (suc m))) (sym is) (lost-short (lies e a (suc m)))

-- after some jobs
pub record AfterJobs (shape : Shape) (past : List Entry) (a b : Node) : Type 0 where
  pub more : List Entry
  pub led : Led shape (past ++ more) b
  pub only : OnlyRealm a b
  pub short : (k : ℕ) → k ≤ count_in shape → IsShortOf (lies_in b k) (lies_in a k)
  pub one : (m : ℕ) → OneAtMost m (behind_at 0 a.core.realm.slots).items → OneAtMost m (behind_at 0 b.core.realm.slots).items
  pub older : a.core.realm.slots.age ≤ b.core.realm.slots.age
  pub taken : taken_events (past ++ more) empty ≡ taken_events past empty
  pub delivered : (port : PortId) → delivered_to port (past ++ more) ≡ delivered_to port past
  pub ends : EndsHave shape past a → EndsHave shape (past ++ more) b

-- what comes behind a stage that ended fine is the end
coming-fine : (k : ℕ) (ws : List State) → suc k ≤ length ws
    → ((first last : List State) (w : State) → ws ≡ first ++ w ∷ last → length first ≡ k → w.work ≡ Over Fine) → coming_behind k ws ≡ told [] ToldClosed
coming-fine k [] l h = grind (arith, l)
coming-fine zero (w ∷ ws) l h = ap coming_from (h [] ws w refl refl)
coming-fine (suc k) (w ∷ ws) l h = coming-fine k ws (omega (arith, l)) (λ first last v e g. h (w ∷ first) last v (ap (λ q. w ∷ q) e) (ap suc g))

pub stages-count : (shape : Shape) (past : List Entry) (a : Node) → Led shape past a → length a.core.stages.items ≡ count_in shape
stages-count shape past a led = sym (length-map a.core.stages.items (λ w. w.stage)) ∙ ap length led.is_of.stages

job-brings : (shape : Shape) (past : List Entry) (a : Node) → Led shape past a → JobBrings (count_in shape) past
job-brings shape past a led = each_end_was_flushed shape.origin shape.target (count_in shape) past led.ran.wired

-- a job brings nothing but an end that comes anyway
brought : (shape : Shape) (past : List Entry) (a : Node) → Led shape past a → (k : ℕ) → k ≤ count_in shape
    → then_told (in_bytes (next_enters k (next_job a.core.realm.slots.promises))) (coming a k) ≡ coming a k
brought shape past a led k l = by-link k l
  where
    brings : JobBrings (count_in shape) past
    brings = job-brings shape past a led

    as-past : (k : ℕ) → next_enters k (next_job a.core.realm.slots.promises) ≡ next_enters k (next_job (run past empty).promises)
    as-past k = ap (λ (q : Slots). next_enters k (next_job q.promises)) led.ran.slots

    by-half : (k : ℕ) → suc k ≤ count_in shape → Flushes k past
        → then_told (in_bytes (next_enters (suc k) (next_job a.core.realm.slots.promises))) (coming a (suc k)) ≡ coming a (suc k)
    by-half k l (BringsNothing e) = ap (λ q. then_told (in_bytes q) (coming a (suc k))) (as-past (suc k) ∙ e)
    by-half k l (BringsTheEnd e w) =
        ap (λ q. then_told (in_bytes q) (coming a (suc k))) (as-past (suc k) ∙ e)
        ∙ sym (coming-fine k a.core.stages.items (subst (λ q. suc k ≤ q) (sym (stages-count shape past a led)) l)
        (λ first last v f g. led.flushes w.before w.after w.id (source_of (suc k)) w.settles w.called first last v
        (record { whole = f; place = ap (λ q. source_of (suc q)) (sym g) })))

    by-link : (k : ℕ) → k ≤ count_in shape → then_told (in_bytes (next_enters k (next_job a.core.realm.slots.promises))) (coming a k) ≡ coming a k
    by-link zero l = ap (λ q. then_told (in_bytes q) (coming a 0)) (as-past 0 ∙ brings.source)
    by-link (suc k) l = by-half k l (brings.half k l)

-- what lies behind each link after one job, and what it brings
abbrev JobKeeps : Shape → Node → Type 0
JobKeeps shape a =
    (k : ℕ) → k ≤ count_in shape
    → IsShortOf (behind_at k (after_job a.core.realm.slots)) (then_told (behind_at k a.core.realm.slots) (next_enters k (next_job a.core.realm.slots.promises)))

-- nothing is brought to the source
job-source : (shape : Shape) (past : List Entry) (a : Node) → Led shape past a → JobKeeps shape a
    → IsShortOf (behind_at 0 (after_job a.core.realm.slots)) (behind_at 0 a.core.realm.slots)
job-source shape past a led keeps =
    let brings = job-brings shape past a led in
    let none : next_enters 0 (next_job a.core.realm.slots.promises) ≡ silence = ap (λ (q : Slots). next_enters 0 (next_job q.promises)) led.ran.slots ∙ brings.source in
    short_as (behind_at 0 (after_job a.core.realm.slots)) (then_told (behind_at 0 a.core.realm.slots) (next_enters 0 (next_job a.core.realm.slots.promises))) _
    (ap (then_told (behind_at 0 a.core.realm.slots)) none ∙ then_empty (behind_at 0 a.core.realm.slots)) (keeps 0 (omega arith))

-- what lies on each link after one job
job-short : (shape : Shape) (past : List Entry) (a : Node) → Led shape past a → JobKeeps shape a → (k : ℕ) → k ≤ count_in shape
    → IsShortOf (then_told (in_bytes (behind_at k (after_job a.core.realm.slots))) (coming a k)) (then_told (in_bytes (behind_at k a.core.realm.slots)) (coming a k))
job-short shape past a led keeps k l =
    let now : Told Value = behind_at k (after_job a.core.realm.slots) in
    let before : Told Value = behind_at k a.core.realm.slots in
    let enters : Told Value = next_enters k (next_job a.core.realm.slots.promises) in
    short_as (then_told (in_bytes now) (coming a k)) (then_told (in_bytes before) (then_told (in_bytes enters) (coming a k))) (then_told (in_bytes before) (coming a k))
    (ap (then_told (in_bytes before)) (brought shape past a led k l)) (short-behind now before enters (coming a k) (keeps k l))

-- jobs that were performed, before the realm stops
record JobsGo (shape : Shape) (past : List Entry) (a : Node) (realm : SeenRealm) : Type 0 where
  more : List Entry
  led : Led shape (past ++ more) (with_realm realm a)
  short : (k : ℕ) → k ≤ count_in shape
      → IsShortOf (then_told (in_bytes (behind_at k realm.slots)) (coming a k)) (then_told (in_bytes (behind_at k a.core.realm.slots)) (coming a k))
  one : (m : ℕ) → OneAtMost m (behind_at 0 a.core.realm.slots).items → OneAtMost m (behind_at 0 realm.slots).items
  taken : taken_events (past ++ more) empty ≡ taken_events past empty
  delivered : (port : PortId) → delivered_to port (past ++ more) ≡ delivered_to port past

led-after : (shape : Shape) (past more : List Entry) (x : Entry) (n : Node) → Led shape ((past ++ x ∷ []) ++ more) n → Led shape (past ++ x ∷ more) n
led-after shape past more x n = subst (λ q. Led shape q n) (append_assoc past (x ∷ []) more)

run-older : (xs : List Entry) (s z : Slots) → z ≡ run xs s → s.age ≤ z.age
run-older xs s z e = let a : z.age ≡ s.age + performed_in xs = ap (λ (q : Slots). q.age) e ∙ each_age_counts s xs in omega (arith, a)

jobs-go : (n : ℕ) (shape : Shape) (past : List Entry) (a : Node) (realm : SeenRealm) → a.core.stopped ≡ None → Led shape past a → realm.slots ≡ run (jobs_in_a_row n) a.core.realm.slots
    → realm.slots.age ≤ oldest → JobsGo shape past a realm
jobs-go zero shape past a realm goes led e young = record {
  more = [];
  led = subst (λ q. Led shape q (with_realm realm a)) (sym (append-nil past)) (led-stays shape past a realm a.core.stopped led e (goes-spent a (a.core.realm.slots.age ≡ oldest) goes));
  short = λ k l. subst (λ q. IsShortOf (then_told (in_bytes (behind_at k q)) (coming a k)) (then_told (in_bytes (behind_at k a.core.realm.slots)) (coming a k))) (sym e)
      (short_refl _);
  one = λ m o. subst (λ q. OneAtMost m (behind_at 0 q).items) (sym e) o;
  taken = ap (λ (es : List Entry). taken_events es empty) (append-nil past);
  delivered = λ port. ap (delivered_to port) (append-nil past);
}
jobs-go (suc n) shape past a realm goes led e young =
    let mid : SeenRealm = record { slots = after_job a.core.realm.slots; prepared = a.core.realm.prepared } in
    let keeps : JobKeeps shape a = job-keeps shape.origin shape.target (count_in shape) a.core.realm.slots (run past empty) led.ran.slots led.ran.wired in
    let older : mid.slots.age ≤ realm.slots.age = run-older (jobs_in_a_row n) mid.slots realm.slots e in
    let first : Led shape (past ++ Worked ∷ []) (with_realm mid a) =
    longer shape past Worked a mid led refl (omega (arith, older, young)) (goes-spent a (mid.slots.age ≡ oldest) goes) tt tt tt (λ id f. cc) (λ id i f. cc) in
    let rest = jobs-go n shape (past ++ Worked ∷ []) (with_realm mid a) realm goes first e young in
    record {
      more = Worked ∷ rest.more;
      led = led-after shape past rest.more Worked (with_realm realm a) rest.led;
      short = λ k l. short_trans _ _ _ (rest.short k l) (job-short shape past a led keeps k l);
      one = λ m o. rest.one m (one-short m (behind_at 0 mid.slots) (behind_at 0 a.core.realm.slots) (job-source shape past a led keeps) o);
      taken = ap (λ (es : List Entry). taken_events es empty) (sym (append_assoc past (Worked ∷ []) rest.more)) ∙ (rest.taken ∙ taken-none past Worked empty refl);
      delivered = λ port. ap (delivered_to port) (sym (append_assoc past (Worked ∷ []) rest.more)) ∙ (rest.delivered port ∙ delivered-none port past Worked refl);
    }

works-by : (shape : Shape) (past : List Entry) (a b : Node) → Led shape past a → Works a b → (why : Option Why) → a.core.stopped ≡ why → AfterJobs shape past a b
works-by shape past a b led w (Some why) e =
    subst (AfterJobs shape past a) (sym (w.stays why e))
    (record {
      more = [];
      led = subst (λ q. Led shape q a) (sym (append-nil past)) led;
      only = record { realm = a.core.realm; stopped = a.core.stopped; is = refl };
      short = λ k l. short_refl (lies_in a k);
      one = λ m o. o;
      older = omega arith;
      taken = ap (λ (es : List Entry). taken_events es empty) (append-nil past);
      delivered = λ port. ap (delivered_to port) (append-nil past);
      ends = λ h. subst (λ (es : List Entry). EndsHave shape es a) (sym (append-nil past)) h;
    })
works-by shape past a b led w None e =
    let went = jobs-go w.jobs shape past a w.realm e led w.slots (w.young led.age) in
    subst (AfterJobs shape past a) (sym w.is)
    (record {
      more = went.more;
      led = led-stays shape (past ++ went.more) (with_realm w.realm a) w.realm w.stopped went.led refl (w.spent e);
      only = record { realm = w.realm; stopped = w.stopped; is = refl };
      short = λ k l. lying-since a.core.stopped w.stopped _ _ e (went.short k l);
      one = went.one;
      older = run-older (jobs_in_a_row w.jobs) a.core.realm.slots w.realm.slots w.slots;
      taken = went.taken;
      delivered = went.delivered;
      ends = λ h. ends-same shape past (past ++ went.more) a (record a { core = record a.core { realm = w.realm; stopped = w.stopped } }) (λ port. ap (posted_in port) went.taken) went.delivered
          refl refl (stays-going a.core.stopped w.stopped e) h;
    })

pub since-works : (shape : Shape) (past : List Entry) (a b : Node) → Led shape past a → Works a b → AfterJobs shape past a b
since-works shape past a b led works = works-by shape past a b led works a.core.stopped refl

-- after an event, which is a call of the number that it tells
pub record AfterEvent (shape : Shape) (past : List Entry) (a : Node) (realm : SeenRealm) (e : Event) : Type 0 where
  pub led : Led shape (past ++ Heard ∷ []) (with_realm realm a)
  pub short : (k : ℕ) → k ≤ count_in shape → IsShortOf (then_told (hears_in shape k e) (behind_at k realm.slots)) (behind_at k a.core.realm.slots)
  pub its : IsItsCall (called (past ++ Heard ∷ [])) e
  pub age : realm.slots.age ≡ a.core.realm.slots.age
  pub told : taken_events (past ++ Heard ∷ []) empty ≡ taken_events past empty ++ e ∷ []
  pub delivered : (port : PortId) → delivered_to port (past ++ Heard ∷ []) ≡ delivered_to port past
  pub ends : IsNoPost e → EndsHave shape past a → EndsHave shape (past ++ Heard ∷ []) (with_realm realm a)

-- the past is longer by an event
heard-led : (shape : Shape) (past : List Entry) (a : Node) (realm : SeenRealm) → Led shape past a → realm.slots ≡ after_event a.core.realm.slots → Led shape (past ++ Heard ∷ []) (with_realm realm a)
heard-led shape past a realm led slots =
    let age : realm.slots.age ≡ a.core.realm.slots.age = ap (λ (q : Slots). q.age) slots in
    longer shape past Heard a realm led slots (subst (λ q. q ≤ oldest) (sym age) led.age) (λ e. age ∙ led.spent e) tt tt tt (λ id f. cc) (λ id i f. cc)

heard-short : (shape : Shape) (past : List Entry) (a : Node) (realm : SeenRealm) (o : Option Event) → Led shape past a → first_event a.core.realm.slots.promises.events ≡ o
    → realm.slots ≡ after_event a.core.realm.slots → (k : ℕ) → k ≤ count_in shape
    → IsShortOf (then_told (next_heard shape.origin shape.target (count_in shape) k o) (behind_at k realm.slots)) (behind_at k a.core.realm.slots)
heard-short shape past a realm o led first slots k l =
    subst (λ q. IsShortOf (then_told (next_heard shape.origin shape.target (count_in shape) k o) (behind_at k q)) (behind_at k a.core.realm.slots)) (sym slots)
    (subst (λ q. IsShortOf (then_told (next_heard shape.origin shape.target (count_in shape) k q) (behind_at k (after_event a.core.realm.slots))) (behind_at k a.core.realm.slots)) first
    (event-keeps shape.origin shape.target (count_in shape) a.core.realm.slots (run past empty) led.ran.slots led.ran.wired k l))

same_some : {A : Type 0} (x y : A) → Some x ≡ Some y → x ≡ y
same_some x y e = grind arith

call-longer : (entries more : List Entry) (e : Event) → IsItsCall (called entries) e → IsItsCall (called (entries ++ more)) e
call-longer entries more (Host id call) h = called-longer entries more id call h
call-longer entries more (Settled p) h = tt
call-longer entries more (Signal i r) h = tt
call-longer entries more (Post c m) h = tt

first-event : (calls : List HostCall) (es : List Event) (e : Event) → first_event es ≡ Some e → AllEvents (IsItsCall calls) es → IsItsCall calls e
first-event calls [] e f a = absurd (cc)
first-event calls (x ∷ es) e f a = subst (IsItsCall calls) (same_some x e f) a.0

-- what the host hears of is the first event that waits

pub first-taken : (es : List Event) (e : Event) → first_event es ≡ Some e → taken_event es ≡ e ∷ []
first-taken [] e f = absurd (cc)
first-taken (x ∷ es) e f = ap (λ (y : Event). y ∷ []) (same_some x e f)

pub none-taken : (es : List Event) → first_event es ≡ None → taken_event es ≡ []
none-taken [] f = refl
none-taken (x ∷ es) f = absurd (cc)

heard-told : (shape : Shape) (past : List Entry) (a : Node) (e : Event) → Led shape past a → first_event a.core.realm.slots.promises.events ≡ Some e
    → taken_events (past ++ Heard ∷ []) empty ≡ taken_events past empty ++ e ∷ []
heard-told shape past a e led first =
    taken-snoc past Heard empty
    ∙ ap (λ (es : List Event). taken_events past empty ++ es)
    (ap (λ (q : Slots). taken_event q.promises.events) (sym led.ran.slots) ∙ first-taken a.core.realm.slots.promises.events e first)

heard-none : (shape : Shape) (past : List Entry) (a : Node) → Led shape past a → first_event a.core.realm.slots.promises.events ≡ None
    → taken_events (past ++ Heard ∷ []) empty ≡ taken_events past empty
heard-none shape past a led first =
    taken-none past Heard empty (ap (λ (q : Slots). taken_event q.promises.events) (sym led.ran.slots) ∙ none-taken a.core.realm.slots.promises.events first)

told-none : (port : PortId) (past : List Entry) (e : Event) → IsNoPost e → taken_events (past ++ Heard ∷ []) empty ≡ taken_events past empty ++ e ∷ []
    → posted_in port (taken_events (past ++ Heard ∷ []) empty) ≡ posted_in port (taken_events past empty)
told-none port past e none told =
    ap (posted_in port) told
    ∙ (posted-append port (taken_events past empty) (e ∷ [])
    ∙ (ap (λ (ms : List Message). posted_in port (taken_events past empty) ++ ms) (append-nil (posted_by port e) ∙ no-post port e none) ∙ append-nil (posted_in port (taken_events past empty))))

ends-heard : (shape : Shape) (past : List Entry) (a : Node) (realm : SeenRealm)
    → ((port : PortId) → posted_in port (taken_events (past ++ Heard ∷ []) empty) ≡ posted_in port (taken_events past empty))
    → EndsHave shape past a → EndsHave shape (past ++ Heard ∷ []) (with_realm realm a)
ends-heard shape past a realm same h =
    ends-same shape past (past ++ Heard ∷ []) a (with_realm realm a) same (λ port. delivered-none port past Heard refl) refl refl (stays-as a.core.stopped) h

pub since-hears : (shape : Shape) (past : List Entry) (a : Node) (realm : SeenRealm) (e : Event) → Led shape past a → a.core.stopped ≡ None → first_event a.core.realm.slots.promises.events ≡ Some e
    → realm.slots ≡ after_event a.core.realm.slots → AfterEvent shape past a realm e
since-hears shape past a realm e led goes first slots =
    record {
      led = heard-led shape past a realm led slots;
      short = heard-short shape past a realm (Some e) led first slots;
      its = call-longer past (Heard ∷ []) e (first-event (called past) a.core.realm.slots.promises.events e first
          (subst (λ (q : Slots). AllEvents (IsItsCall (called past)) q.promises.events) (sym led.ran.slots) (each_event_is_its_call past).untaken));
      age = ap (λ (q : Slots). q.age) slots;
      told = heard-told shape past a e led first;
      delivered = λ port. delivered-none port past Heard refl;
      ends = λ none h. ends-heard shape past a realm (λ port. told-none port past e none (heard-told shape past a e led first)) h;
    }

-- where there is no event
pub record AfterNone (shape : Shape) (past : List Entry) (a : Node) (realm : SeenRealm) : Type 0 where
  pub led : Led shape (past ++ Heard ∷ []) (with_realm realm a)
  pub short : (k : ℕ) → k ≤ count_in shape → IsShortOf (behind_at k realm.slots) (behind_at k a.core.realm.slots)
  pub age : realm.slots.age ≡ a.core.realm.slots.age
  pub ends : EndsHave shape past a → EndsHave shape (past ++ Heard ∷ []) (with_realm realm a)

pub since-hears-none : (shape : Shape) (past : List Entry) (a : Node) (realm : SeenRealm) → Led shape past a → first_event a.core.realm.slots.promises.events ≡ None
    → realm.slots ≡ after_event a.core.realm.slots → AfterNone shape past a realm
since-hears-none shape past a realm led first slots =
    record {
      led = heard-led shape past a realm led slots;
      short = heard-short shape past a realm None led first slots;
      age = ap (λ (q : Slots). q.age) slots;
      ends = λ h. ends-heard shape past a realm (λ port. ap (posted_in port) (heard-none shape past a led first)) h;
    }
