-- A new node: its realm has the streams and pipes of a chain, and nothing lies in it.
use Rattle.std.proofs.Common.{◌≡◌, ◌+◌, ◌*◌, ◌<◌, ◌≤◌, ℕ, zero, suc, ℤ, pos, negsuc, nat_abs, Bool, true, false, ◌&&◌, if◌then◌else◌, List, [], ◌∷◌, ◌++◌, length, map, Option, Some, None, refl, sym, ap, ◌∙◌, subst, append-nil, arith}
use Rattle.std.specs.Prelude.{is_some, option_map, int_le, All}
use Rattle.std.specs.List.{list_all}
use Rattle.std.proofs.lemmas.Bool.{and_parts}
use Rattle.std.proofs.lemmas.List.Elements.{All-nil, All-cons}
use Rattle.ws_value.specs.declared.ids.HostId.{HostId}
use Rattle.ws_value.specs.declared.ids.PortId.{PortId}
use Rattle.ws_value.specs.declared.value.Message.{Message}
use Rattle.ws_value.specs.declared.value.Value.{Value}
use Rattle.ws_edge.specs.Edge.{AtEdge, given}
use Rattle.ws_flow.specs.declared.plan.Plan.{Plan}
use Rattle.ws_flow.specs.declared.plan.Stage.{Stage}
use Rattle.ws_flow.specs.Machines.{Kept, Machine, nothing_kept}
use Rattle.ws_flow.specs.Parts.{Live, Part, Flows, fresh, nothing_told}
use Rattle.ws_flow.specs.Plans.{is_abort_within, is_placed_within}
use Rattle.ws_flow.specs.Rows.{told_by}
use Rattle.ws_flow.specs.Stages.{is_within, machine, machines}
use Rattle.ws_flow.specs.Steps.{parts_at}
use Rattle.ws_flow.specs.Told.{Told, then_told}
use Rattle.ws_flow.proofs.Lengths.{accepted}
use Rattle.ws_flow.proofs.Starts.{start_is}
use Rattle.ws_flow.proofs.Steps.{behind_at as behind_last, goes_same}
use Rattle.ws_stages.specs.State.{State, begun}
use Rattle.ws_steps.specs.declared.calls.Call.{Call}
use Rattle.ws_steps.specs.declared.calls.Call.TheVariants.{Enqueue, Fail, Trigger, Deliver, Settle}
use Rattle.ws_steps.specs.PortHistory.{posted_in}
use Rattle.ws_steps.specs.Run.{Entry, Called, Worked, Heard, run, step, performed_in}
use Rattle.ws_steps.specs.Slots.{Slots, empty, most_streams}
use Rattle.ws_alike.specs.Alike.{trim}
use Rattle.ws_laws.proofs.Ages.{each_age_counts}
use Rattle.ws_end_laws.specs.hosts.HostCalls.{settles_well}
use Rattle.ws_link_laws.specs.Link.{silence}
use Rattle.ws_chain_laws.specs.Chain.{Origin, FromChunks, FromBytes, FromPort, Target, ToSink, ToPort, IsChain, behind_at, source_port, sink_port}
use Rattle.ws_chain_laws.specs.Opening.{BeginsChain, transforms, streams, signals, signal_of, pipes_from, piping, opening, opened, chained, sink_call}
use Rattle.ws_chain_laws.specs.Outcomes.{past_of}
use Rattle.ws_chain_laws.proofs.Begins.{each_chain_begins}
use Rattle.ws_chain_laws.proofs.Outcomes.{each_chain_ends, past-fails, past-none}
use Rattle.ws_node_laws.specs.Messages.{taken_events, message_by, delivered_to}
use Rattle.ws_realm.specs.Seen.{oldest}
use Rattle.ws_realm.specs.declared.realm.Why.{Why}
use Rattle.ws_node.specs.declared.making.Share.{Share}
use Rattle.ws_node.specs.declared.node.Abort.{Abort}
use Rattle.ws_node.specs.declared.node.Input.{Input}
use Rattle.ws_node.specs.declared.node.Input.TheVariants as input
use Rattle.ws_node.specs.declared.node.Node.{Node}
use Rattle.ws_node.specs.declared.node.Output.TheVariants as output
use Rattle.ws_node.specs.Fair.{BringsFair, AllBringFair}
use Rattle.ws_node.specs.Messages.{fairly}
use Rattle.ws_node.specs.Node.{coming, coming_by, coming_behind, held, in_bytes, lies_in, lost_by, lying, lying_by, nothing_yet, parts, received_at, sent_at, waiting_at, works_in}
use Rattle.ws_node.specs.Opening.{IsAccepted, abort_of, all_begun, opening_by}
use Rattle.ws_node.specs.Past.{AllCaused, ArePushed, Counts, Driven, EndHas, EndsHave, IsCause, IsFed, IsFresh, IsNew, IsShaped, IsUnused, Led, OneAtMost, Whole as WholeGiven, most_of_piece}
use Rattle.ws_node.specs.Ran.{HasRun, IsOwnEntry}
use Rattle.ws_node.specs.Shape.{AreFit, Shape, count_in, is_from_edge, is_to_edge}
use Rattle.ws_node.specs.Shares.{abort_in, shape_with}
use Rattle.ws_node.proofs.Nearing.{near-unused}
use Rattle.ws_node.proofs.Ran.{few-streams}
use Rattle.ws_node.proofs.Sharing.{shared-fit}
use Rattle.ws_chain_laws.proofs.Teeless.{past-teeless}

-- the stages at their beginning

stages-begun : (ss : List Stage) → map (λ (w : State). w.stage) (all_begun ss) ≡ ss
stages-begun [] = refl
stages-begun (s ∷ ss) = ap (λ q. s ∷ q) (stages-begun ss)

works_begun : (ss : List Stage) → length (map (λ (w : State). w.work) (all_begun ss)) ≡ length ss
works_begun [] = refl
works_begun (s ∷ ss) = ap suc (works_begun ss)

coming-begun : (j : ℕ) (ss : List Stage) → coming_behind j (all_begun ss) ≡ nothing_yet
coming-begun j [] = refl
coming-begun zero (s ∷ ss) = refl
coming-begun (suc j) (s ∷ ss) = coming-begun j ss

coming-none : (i : Input) → lost_by i ≡ nothing_yet → (ss : List Stage) (j : ℕ) → coming_by i (all_begun ss) j ≡ nothing_yet
coming-none i e ss zero = e
coming-none i e ss (suc j) = coming-begun j ss

-- where nothing lies before any of them, they are fresh
fresh-at : (k : ℕ) (ss : List Stage) (x : ℕ → Told (List ℕ)) → ((j : ℕ) → k ≤ j → j < k + length ss → x j ≡ nothing_told)
    → parts_at k (map (λ (w : State). w.work) (all_begun ss)) x ≡ fresh (machines ss)
fresh-at k [] x h = refl
fresh-at k (s ∷ ss) x h =
    let rest = fresh-at (suc k) ss x (λ j a b. h j (omega arith) (omega arith)) in
    let none : x k ≡ nothing_told = h k (omega arith) (omega arith) in
    let first : record { work = Live nothing_kept; before = x k } ≡ record { work = Live (machine s).start; before = nothing_told } =
    ap (λ (t : Told (List ℕ)). record { work = Live nothing_kept; before = t }) none
    ∙ ap (λ (r : Kept). record { work = Live r; before = nothing_told }) (sym (start_is s)) in
    ap (λ (p : Part). p ∷ parts_at (suc k) (map (λ (w : State). w.work) (all_begun ss)) x) first
    ∙ ap (λ (ps : List Part). record { work = Live (machine s).start; before = nothing_told } ∷ ps) rest

fresh-length : (ms : List Machine) → length ms ≡ length (fresh ms)
fresh-length [] = refl
fresh-length (m ∷ ms) = ap suc (fresh-length ms)

never-pushed : (age : ℕ) (ss : List Stage) → 0 < age → ArePushed age (all_begun ss)
never-pushed age [] h = All-nil (λ (w : State). w.pushes < age)
never-pushed age (s ∷ ss) h = All-cons (λ (w : State). w.pushes < age) (begun s) (all_begun ss) h (never-pushed age ss h)

signal-is : (x : Option ℤ) → option_map (λ (a : Abort). a.signal) (abort_of x) ≡ signal_of (is_some x)
signal-is None = refl
signal-is (Some after) = refl

-- none of the calls that open a realm gives anything to it, or settles a call of the host

abbrev is_open : Call → Bool
is_open (Settle id answer) = false
is_open (Enqueue i v) = false
is_open (Fail i r) = false
is_open (Trigger a r) = false
is_open (Deliver c m) = false
is_open c = true

abbrev are_open : List Entry → Bool
are_open [] = true
are_open (Called c ∷ xs) = is_open c && are_open xs
are_open (Worked ∷ xs) = false
are_open (Heard ∷ xs) = false

both_open : (a b c : Bool) → ((b ≡ true) → c ≡ true) → (a && b) ≡ true → (a && c) ≡ true
both_open true b c f h = f h
both_open false b c f h = h

open-append : (xs ys : List Entry) → are_open xs ≡ true → are_open ys ≡ true → are_open (xs ++ ys) ≡ true
open-append [] ys a b = b
open-append (Called c ∷ xs) ys a b = both_open (is_open c) (are_open xs) (are_open (xs ++ ys)) (λ h. open-append xs ys h b) a
open-append (Worked ∷ xs) ys a b = absurd (cc)
open-append (Heard ∷ xs) ys a b = absurd (cc)

transforms-open : (n : ℕ) → are_open (transforms n) ≡ true
transforms-open zero = refl
transforms-open (suc n) = transforms-open n

signals-open : (b : Bool) → are_open (signals b) ≡ true
signals-open false = refl
signals-open true = refl

pipes-open : (k n : ℕ) → are_open (pipes_from k n) ≡ true
pipes-open k zero = refl
pipes-open k (suc n) = pipes-open (suc k) n

sink-open : (t : Target) → are_open (Called (sink_call t) ∷ []) ≡ true
sink-open ToSink = refl
sink-open ToPort = refl

streams-open : (o : Origin) (t : Target) (n : ℕ) → are_open (streams o t n) ≡ true
streams-open FromChunks t n = open-append (transforms n) (Called (sink_call t) ∷ []) (transforms-open n) (sink-open t)
streams-open FromBytes t n = open-append (transforms n) (Called (sink_call t) ∷ []) (transforms-open n) (sink-open t)
streams-open FromPort t n = open-append (transforms n) (Called (sink_call t) ∷ []) (transforms-open n) (sink-open t)

past-open : (o : Origin) (t : Target) (n : ℕ) (signalled : Bool) → are_open (past_of o t n signalled []) ≡ true
past-open o t n signalled =
    open-append (opening o t n signalled) (Called (piping (signal_of signalled) n) ∷ [])
    (open-append (streams o t n) (signals signalled ++ pipes_from 0 n) (streams-open o t n)
    (open-append (signals signalled) (pipes_from 0 n) (signals-open signalled) (pipes-open 0 n)))
    refl

-- so no call of the host was settled

none-settled : (before after : List Entry) (id : HostId) → are_open (before ++ Called (settles_well id) ∷ after) ≡ true → ⊥
none-settled [] after id e = cc
none-settled (Called c ∷ before) after id e = none-settled before after id (and_parts (is_open c) (are_open (before ++ Called (settles_well id) ∷ after)) e).1
none-settled (Worked ∷ before) after id e = cc
none-settled (Heard ∷ before) after id e = cc

-- all that is given to it is fair

open-fair : (c : Call) → is_open c ≡ true → BringsFair c
open-fair (Settle id answer) e = absurd (cc)
open-fair (Enqueue i v) e = absurd (cc)
open-fair (Fail i r) e = absurd (cc)
open-fair (Trigger a r) e = absurd (cc)
open-fair (Deliver c m) e = absurd (cc)
open-fair _ e = tt

all-open-fair : (xs : List Entry) → are_open xs ≡ true → AllBringFair xs
all-open-fair [] e = tt
all-open-fair (Called c ∷ xs) e = let h = and_parts (is_open c) (are_open xs) e in (open-fair c h.0, all-open-fair xs h.1)
all-open-fair (Worked ∷ xs) e = absurd (cc)
all-open-fair (Heard ∷ xs) e = absurd (cc)

-- the host heard of nothing, and nothing was delivered

open-taken : (xs : List Entry) (s : Slots) → are_open xs ≡ true → taken_events xs s ≡ []
open-taken [] s e = refl
open-taken (Called c ∷ xs) s e = open-taken xs (step s (Called c)) (and_parts (is_open c) (are_open xs) e).1
open-taken (Worked ∷ xs) s e = absurd (cc)
open-taken (Heard ∷ xs) s e = absurd (cc)

open-message : (port : PortId) (c : Call) → is_open c ≡ true → message_by port c ≡ []
open-message port (Deliver d m) e = absurd (cc)
open-message port _ e = refl

open-delivered : (port : PortId) (xs : List Entry) → are_open xs ≡ true → delivered_to port xs ≡ []
open-delivered port [] e = refl
open-delivered port (Called c ∷ xs) e =
    let h = and_parts (is_open c) (are_open xs) e in
    ap (λ (ms : List Message). ms ++ delivered_to port xs) (open-message port c h.0) ∙ open-delivered port xs h.1
open-delivered port (Worked ∷ xs) e = absurd (cc)
open-delivered port (Heard ∷ xs) e = absurd (cc)

-- how many they are

performed-append : (xs ys : List Entry) → performed_in (xs ++ ys) ≡ performed_in xs + performed_in ys
performed-append [] ys = omega arith
performed-append (Called c ∷ xs) ys = let h = performed-append xs ys in omega arith
performed-append (Worked ∷ xs) ys = let h = performed-append xs ys in omega arith
performed-append (Heard ∷ xs) ys = performed-append xs ys

transforms-performed : (n : ℕ) → performed_in (transforms n) ≡ n
transforms-performed zero = refl
transforms-performed (suc n) = let h = transforms-performed n in omega arith

signals-performed : (b : Bool) → performed_in (signals b) ≤ 1
signals-performed false = omega arith
signals-performed true = omega arith

pipes-performed : (k n : ℕ) → performed_in (pipes_from k n) ≡ n
pipes-performed k zero = refl
pipes-performed k (suc n) = let h = pipes-performed (suc k) n in omega arith

pub record IsYoung (n age : ℕ) : Type 0 where
  pub some : 0 < age
  pub few : age ≤ 2 * n + 4

young-by : (n age all opened made rest some t s p : ℕ) → age ≡ 0 + all → all ≡ opened + 1 → opened ≡ made + rest → made ≡ 1 + some → some ≡ t + 1 → rest ≡ s + p
    → t ≡ n → s ≤ 1 → p ≡ n → IsYoung n age
young-by n age all opened made rest some t s p a b c d e f g h i = record { some = omega arith; few = omega arith }

young : (o : Origin) (t : Target) (n : ℕ) (signalled : Bool) → IsYoung n (run (past_of o t n signalled []) empty).age
young o t n signalled =
    let sink = Called (sink_call t) ∷ [] in
    let last = Called (piping (signal_of signalled) n) ∷ [] in
    let rest = signals signalled ++ pipes_from 0 n in
    young-by n (run (past_of o t n signalled []) empty).age (performed_in (past_of o t n signalled [])) (performed_in (opening o t n signalled)) (performed_in (streams o t n)) (performed_in rest)
    (performed_in (transforms n ++ sink)) (performed_in (transforms n)) (performed_in (signals signalled)) (performed_in (pipes_from 0 n))
    (each_age_counts empty (past_of o t n signalled [])) (performed-append (opening o t n signalled) last) (performed-append (streams o t n) rest) refl (performed-append (transforms n) sink)
    (performed-append (signals signalled) (pipes_from 0 n)) (transforms-performed n) (signals-performed signalled) (pipes-performed 0 n)

-- what a new node's input and output are

input-none : (b : Bool) → lost_by (if b then input.Edge else input.Open) ≡ nothing_yet
input-none true = refl
input-none false = refl

input-counts : (limit taken ahead : ℕ) (b : Bool) → limit ≤ 1099511627776 → taken ≡ 0 → ahead ≡ 0 → Counts limit taken ahead (if b then input.Edge else input.Open)
input-counts limit taken ahead true small t a =
    record { limited = omega arith; bound = omega arith; within = λ e. omega arith; beyond = λ e. absurd (cc); piece = omega arith; failed = λ e. a }
input-counts limit taken ahead false small t a =
    record { limited = omega arith; bound = omega arith; within = λ e. omega arith; beyond = λ e. absurd (cc); piece = omega arith; failed = λ e. a }

not_aborted : (b : Bool) (P : Type 0) → (if b then output.Edge else output.Open) ≡ output.Aborted → P
not_aborted true P e = absurd (cc)
not_aborted false P e = absurd (cc)

-- and its ends

pub unused-received : (x : Option AtEdge) → IsUnused x → received_at x ≡ []
unused-received None u = refl
unused-received (Some e) u = u.0

pub unused-sent : (x : Option AtEdge) → IsUnused x → sent_at x ≡ []
unused-sent None u = refl
unused-sent (Some e) u = u.1

pub unused-waiting : (x : Option AtEdge) → IsUnused x → waiting_at x ≡ []
unused-waiting None u = refl
unused-waiting (Some e) u = u.2

unused-given : (e : AtEdge) → IsUnused (Some e) → given e ≡ []
unused-given e u = ap (λ (ms : List Message). ms ++ e.waiting) u.1 ∙ u.2

end-unused : (port : PortId) (past : List Entry) (stopped : Option Why) (x : Option AtEdge) → taken_events past empty ≡ [] → delivered_to port past ≡ [] → IsUnused x → EndHas port past stopped x
end-unused port past stopped None taken delivered u = tt
end-unused port past stopped (Some e) taken delivered u = record {
  given = WholeGiven (unused-given e u ∙ sym (ap (posted_in port) taken));
  taken = record { rest = []; first = ap fairly u.0 ∙ sym (append-nil (delivered_to port past) ∙ delivered); all = λ s. refl };
}

module _ (shape : Shape) (first : ℕ) (abort : Option ℤ) (n : Node) (fit : AreFit shape.stages) (small : shape.most ≤ 1099511627776) (aborts : shape.aborted ≡ is_some abort)
    (f : IsFresh shape first abort n) where
  abbrev o : Origin
  o = shape.origin

  abbrev t : Target
  t = shape.target

  abbrev k : ℕ
  k = count_in shape

  abbrev signalled : Bool
  signalled = shape.aborted

  abbrev ss : List Stage
  ss = shape.stages

  abbrev past : List Entry
  past = opening_by shape

  few : 2 * k + 2 ≤ most_streams
  few = few-streams k fit.few

  begins : BeginsChain o t k signalled
  begins = each_chain_begins o t k signalled few

  slots-are : n.core.realm.slots ≡ chained o t k signalled
  slots-are = f.slots ∙ (each_chain_ends o t k signalled [] few).slots

  its-open : are_open past ≡ true
  its-open = past-open o t k signalled

  ran : HasRun shape past n.core.realm.slots
  ran = record {
    opened = record { since = []; is = refl; own = All-nil (IsOwnEntry k) };
    slots = ap trim f.slots;
    wired = subst (IsChain o t k) (sym slots-are ∙ f.slots) begins.chain;
    quiet = past-none o t k signalled [] few refl;
    teeless = subst (λ (s : Slots). s.tees ≡ []) (sym f.slots) (past-teeless o t k signalled [] tt);
  }

  nothing-behind : (j : ℕ) → j ≤ k → behind_at j n.core.realm.slots ≡ silence
  nothing-behind j l = ap (behind_at j) slots-are ∙ begins.none j l

  nothing-comes : (j : ℕ) → coming n j ≡ nothing_yet
  nothing-comes j =
      ap (λ (ws : List State). coming_by n.entrance.input ws j) f.stages ∙ coming-none n.entrance.input (ap lost_by f.input ∙ input-none (is_from_edge o)) ss j

  nothing-lies : (j : ℕ) → j ≤ k → lies_in n j ≡ nothing_yet
  nothing-lies j l =
      ap (λ (w : Option Why). lying_by w (then_told (in_bytes (behind_at j n.core.realm.slots)) (coming n j))) f.stopped
      ∙ (ap (λ (x : Told Value). then_told (in_bytes x) (coming n j)) (nothing-behind j l)
      ∙ ap (λ (x : Told (List ℕ)). then_told nothing_yet x) (nothing-comes j))

  parts-fresh : parts n ≡ fresh (machines ss)
  parts-fresh =
      ap (λ (ws : List State). parts_at 0 (map (λ (w : State). w.work) ws) (lies_in n)) f.stages
      ∙ fresh-at 0 ss (lies_in n) (λ j a b. nothing-lies j (omega arith))

  lying-none : lying n ≡ nothing_yet
  lying-none =
      behind_last 0 (works_in n.core) (lies_in n)
      ∙ nothing-lies (0 + length (works_in n.core))
      (let e = ap (λ (ws : List State). length (map (λ (w : State). w.work) ws)) f.stages ∙ works_begun ss in omega arith)

  held-none : held n ≡ nothing_yet
  held-none =
      ap (λ (ms : List Message). then_told (told_by ms) (lying n)) (unused-waiting n.exit.below f.below)
      ∙ ap (λ (x : Told (List ℕ)). then_told nothing_yet x) lying-none

  its-age : IsYoung k n.core.realm.slots.age
  its-age = subst (λ (s : Slots). IsYoung k s.age) (sym f.slots) (young o t k signalled)

  young-enough : n.core.realm.slots.age ≤ oldest
  young-enough = let few₁ = its-age.few in let fewer = fit.few in omega arith

  counts : Counts n.entrance.most n.entrance.taken n.entrance.ahead n.entrance.input
  counts =
      subst (Counts n.entrance.most n.entrance.taken n.entrance.ahead) (sym f.input)
      (input-counts n.entrance.most n.entrance.taken n.entrance.ahead (is_from_edge o) (let most = f.most in omega arith) f.taken f.ahead)

  is-shaped : IsShaped shape n
  is-shaped = record {
    fit = fit;
    from = f.from;
    into = f.into;
    stages = ap (λ (ws : List State). map (λ (w : State). w.stage) ws) f.stages ∙ stages-begun ss;
    source = f.source;
    sink = f.sink;
    most = f.most;
    signal = ap (λ (x : Option Abort). option_map (λ (a : Abort). a.signal) x) f.abort ∙ (signal-is abort ∙ ap signal_of (sym aborts));
  }

  led : Led shape past n
  led = record {
    is_of = is-shaped;
    ran = ran;
    piped = f.answered;
    clones = all-open-fair past its-open;
    failed = AllCaused (subst (All (IsCause n)) (sym (past-fails o t k signalled [])) (All-nil (IsCause n)));
    closes = λ before after id e c no. absurd (none-settled before after id (subst (λ (xs : List Entry). are_open xs ≡ true) e its-open));
    flushes = λ before after id i e c. absurd (none-settled before after id (subst (λ (xs : List Entry). are_open xs ≡ true) e its-open));
    asked = rw f.asked tt;
    aborts = λ e. not_aborted (is_to_edge t) _ (sym f.output ∙ e);
    age = young-enough;
    counts = counts;
    spent = λ e. let going = f.stopped in absurd (cc);
  }

  fed : IsFed ss n
  fed = record {
    came = nothing_told;
    went = nothing_told;
    came_by = λ e. ap (λ (ms : List Message). told_by (fairly ms)) (sym (unused-received n.entrance.above f.above));
    went_by = λ e. ap told_by (sym (unused-sent n.exit.below f.below));
    short = All-nil (λ (c : List ℕ). length c ≤ most_of_piece n.entrance.input);
    goes_on = λ e. refl;
    reads_on = λ e. refl;
    counted = λ e. f.taken;
    near = λ head. near-unused n f.below;
    flows = subst (λ (ps : List Part). Flows (machines ss) nothing_told ps (then_told nothing_told (held n))) (sym parts-fresh)
        (subst (λ (x : Told (List ℕ)). Flows (machines ss) nothing_told (fresh (machines ss)) (then_told nothing_told x)) (sym held-none)
        (goes_same (machines ss) (fresh (machines ss)) nothing_told (fresh-length (machines ss))));
  }

  ends : EndsHave shape past n
  ends = record {
    above = end-unused source_port past n.core.stopped n.entrance.above (open-taken past empty its-open) (open-delivered source_port past its-open) f.above;
    below = end-unused (sink_port o) past n.core.stopped n.exit.below (open-taken past empty its-open) (open-delivered (sink_port o) past its-open) f.below;
  }

  driven : Driven n
  driven = record {
    shape = shape;
    past = past;
    since = record {
      led = led;
      pushes = λ e. subst (ArePushed n.core.realm.slots.age) (sym f.stages) (never-pushed n.core.realm.slots.age ss its-age.some);
      one = λ edge having. subst (λ (x : Told Value). OneAtMost n.entrance.ahead x.items) (sym (nothing-behind 0 (omega arith))) tt;
      fed = fed;
      ends = ends;
    };
  }

  new : IsNew shape first abort n
  new = record {
    is_of = is-shaped;
    first_is = f.first_is;
    pipes = f.before_answered;
    parts = parts-fresh;
    held = held-none;
    abort = f.abort;
    taken = f.taken;
    ahead = f.ahead;
    input = f.input;
    output = f.output;
    above = f.above;
    below = f.below;
  }

-- a plan's limit
limit-of : (x : ℤ) → is_within 0 1099511627776 x ≡ true → nat_abs x ≤ 1099511627776
limit-of (pos n) h = grind arith
limit-of (negsuc n) h = grind arith

limited : (plan : Plan) → IsAccepted plan → nat_abs plan.max_input ≤ 1099511627776
limited plan is_accepted =
    let numbers = (accepted plan is_accepted).numbers in
    let a = and_parts (int_le (pos 0) plan.workers) (is_abort_within plan.abort_after && (is_within 0 1099511627776 plan.max_input && list_all (is_placed_within plan.workers) plan.stages.items)) numbers in
    let b = and_parts (is_abort_within plan.abort_after) (is_within 0 1099511627776 plan.max_input && list_all (is_placed_within plan.workers) plan.stages.items) a.1 in
    let c = and_parts (is_within 0 1099511627776 plan.max_input) (list_all (is_placed_within plan.workers) plan.stages.items) b.1 in
    limit-of plan.max_input c.0

-- of a share of a plan that isn't refused

pub fresh-driven : (plan : Plan) (share : Share) (above below : Bool) (first : ℕ) (n : Node) → IsAccepted plan → IsFresh (shape_with plan share above below) first (abort_in plan below) n → Driven n
fresh-driven plan share above below first n h f = driven (shape_with plan share above below) first (abort_in plan below) n (shared-fit plan share h) (limited plan h) refl f

pub fresh-new : (plan : Plan) (share : Share) (above below : Bool) (first : ℕ) (n : Node) → IsAccepted plan → IsFresh (shape_with plan share above below) first (abort_in plan below) n
    → IsNew (shape_with plan share above below) first (abort_in plan below) n
fresh-new plan share above below first n h f = new (shape_with plan share above below) first (abort_in plan below) n (shared-fit plan share h) (limited plan h) refl f
