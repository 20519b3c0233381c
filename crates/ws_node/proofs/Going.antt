-- A node that goes on, and goes on again, goes on.
use Rattle.std.proofs.Common.{◌≡◌, ◌≤◌, ◌+◌, ℕ, suc, List, [], ◌∷◌, ◌++◌, Option, Some, None, length, map, refl, sym, ap, ◌∙◌, subst, length-append, arith}
use Rattle.std.specs.List.{concat}
use Rattle.ws_edge.specs.Edge.{AtEdge}
use Rattle.ws_node.specs.Shape.{Shape, count_in}
use Rattle.ws_flow.specs.declared.plan.Stage.{Stage}
use Rattle.ws_flow.specs.Machines.{Machine}
use Rattle.ws_flow.specs.Parts.{AtWork, fresh, Flows, Goes}
use Rattle.ws_flow.specs.Stages.{machines}
use Rattle.ws_flow.specs.Steps.{parts_at, behind_of}
use Rattle.ws_flow.specs.Told.{Mark, Open as MayCome, Told, then_told, IsShortOf}
use Rattle.ws_flow.proofs.Chain.{goes_then}
use Rattle.ws_flow.proofs.Ends.{goes_behind}
use Rattle.ws_flow.specs.Rows.{told_by}
use Rattle.ws_flow.proofs.Steps.{goes_rests}
use Rattle.ws_flow.proofs.Told.{then_assoc, short_refl}
use Rattle.ws_segment_laws.specs.Segments.{Move, all_then}
use Rattle.ws_segment_laws.proofs.Segments.{each_goes_on}
use Rattle.ws_io.proofs.Flow.{Gains-nothing}
use Rattle.ws_io.specs.Gain.{Gains, Got}
use Rattle.ws_io.specs.Moment.{Moment}
use Rattle.ws_realm.specs.declared.realm.Why.{Why}
use Rattle.ws_stages.specs.State.{State}
use Rattle.ws_node.specs.declared.node.Node.{Node}
use Rattle.ws_node.specs.Near.{IsHead}
use Rattle.ws_node.specs.Node.{given_at, held, lies_in, lying, nothing_yet, parts, received_at, stages_in, waiting_at, works_in}
use Rattle.ws_node.specs.Past.{IsFed}
use Rattle.ws_node.specs.Went.{ComesIn, CoreGoes, DoesNothing, GoesOut, Went, stretches}
use Rattle.ws_node.proofs.Nearing.{near-joined, near-same, near-then}
use Rattle.ws_node.proofs.Since.{OnlyRealm}
pub use Rattle.ws_node.proofs.Incoming.{comes-still, KeepsEnd-same, input-same, input-kind, nothing_then, from-then, ends-same, ends-then, told-fairly, told-then, came-kind, comes-then, read-then, comes-quietly, fed-came, fed-short, fed-counted, fed-reads}
pub use Rattle.ws_node.proofs.Outgoing.{goes-still, output-same, output-kind, mark_then, nothing_more, abort-same, went-kind, into-then, outs-then, goes-quietly, fed-went-by, fed-open, outs-whole, short-then}

no-stages : (xs ys : List State) → map (λ w. w.stage) ys ≡ map (λ w. w.stage) xs → xs ≡ [] → ys ≡ []
no-stages xs [] e f = refl
no-stages [] (y ∷ ys) e f = absurd (cc)
no-stages (x ∷ xs) (y ∷ ys) e f = absurd (cc)

-- a node that reads the input and sends it on, without stages, does so on
pub head-stays : (a b : Node) (m₀ m₁ : Moment) (p q : Got) (read went : Told (List ℕ)) (gain : List ℕ) (out : Mark) → stages_in b.core ≡ stages_in a.core
    → ComesIn a.entrance b.entrance m₀ m₁ read → GoesOut a.exit b.exit m₀ m₁ p q went gain out → IsHead a → IsHead b
head-stays a b m₀ m₁ p q read went gain out stages from into head =
    record {
      from = came-kind a.entrance b.entrance read m₀ m₁ from ∙ head.from;
      into = went-kind a.exit b.exit went gain out m₀ m₁ p q into ∙ head.into;
      bare = no-stages a.core.stages.items b.core.stages.items stages head.bare;
    }

head-was : (a b : Node) (m₀ m₁ : Moment) (p q : Got) (read went : Told (List ℕ)) (gain : List ℕ) (out : Mark) → stages_in b.core ≡ stages_in a.core
    → ComesIn a.entrance b.entrance m₀ m₁ read → GoesOut a.exit b.exit m₀ m₁ p q went gain out → IsHead b → IsHead a
head-was a b m₀ m₁ p q read went gain out stages from into head =
    record {
      from = sym (came-kind a.entrance b.entrance read m₀ m₁ from) ∙ head.from;
      into = sym (went-kind a.exit b.exit went gain out m₀ m₁ p q into) ∙ head.into;
      bare = no-stages b.core.stages.items a.core.stages.items (sym stages) head.bare;
    }

-- the node by itself, what its input adds and what its output adds, one after another

pub core-then : (a b c : Node) (ms ns : List Move) → CoreGoes a b ms → CoreGoes b c ns → CoreGoes a c (all_then ms ns)
core-then a b c ms ns first second =
    record {
      moves = each_goes_on (stretches a) (stretches b) (stretches c) ms ns first.moves second.moves;
      pipe = second.pipe ∙ first.pipe;
      pipes = second.pipes ∙ first.pipes;
      first = second.first ∙ first.first;
    }

-- one after another
pub went-then : (a b c : Node) (m₀ m₁ m₂ : Moment) (p q r : Got) → Went a b m₀ m₁ p q → Went b c m₁ m₂ q r → Went a c m₀ m₂ p r
went-then a b c m₀ m₁ m₂ p q r first second =
    record {
      read = then_told first.read second.read;
      went = then_told first.went second.went;
      gain = first.gain ++ second.gain;
      out = mark_then first.out second.out;
      core = core-then a b c (record { came = first.read; went = first.went } ∷ []) (record { came = second.read; went = second.went } ∷ []) first.core second.core;
      from = comes-then a.entrance b.entrance c.entrance first.read second.read m₀ m₁ m₂ first.from second.from;
      into = outs-then a.exit b.exit c.exit first.went second.went first.gain second.gain first.out second.out m₀ m₁ m₂ p q r first.into second.into;
      ahead = λ none by to.
          let joined = read-then a.entrance b.entrance c.entrance first.read second.read m₀ m₁ m₂ first.from second.from by in
          let some : length (concat (then_told first.read second.read).items) ≡ length (concat first.read.items) + length (concat second.read.items) =
          ap length joined ∙ length-append (concat first.read.items) (concat second.read.items) in
          let ahead = first.ahead none by to in
          let ahead₂ = second.ahead (no-stages a.core.stages.items b.core.stages.items first.core.moves.0.stages none)
          (came-kind a.entrance b.entrance first.read m₀ m₁ first.from ∙ by) (went-kind a.exit b.exit first.went first.gain first.out m₀ m₁ p q first.into ∙ to) in
          omega (arith, length-append first.gain second.gain);
      near = λ head pieces is.
          near-then pieces first.read second.read c
          (second.near (head-stays a b m₀ m₁ p q first.read first.went first.gain first.out first.core.moves.0.stages first.from first.into head) (pieces + length first.read.items) (first.near head pieces is));
      short = λ fed some.
          short-then first.went second.went first.gain second.gain (outs-whole a.exit b.exit c.exit first.went second.went first.gain second.gain first.out second.out m₀ m₁ m₂ p q r first.into second.into)
          (first.short fed) (second.short (came-kind a.entrance b.entrance first.read m₀ m₁ first.from ∙ fed)) some;
      stays = λ why e.
          let x = first.stays why e in
          let y = second.stays why (ap (λ (n : Node). n.core.stopped) x.same ∙ e) in
          record {
            same = y.same ∙ x.same;
            still = y.still ∙ x.still;
            unread = (nothing_then first.read second.read x.unread y.unread).0;
            none = nothing_more first.gain second.gain x.none y.none;
          };
    }

-- one that had stopped is as it was
abbrev pub Stays : Node → Node → Type 0
Stays a b = (why : Why) → a.core.stopped ≡ Some why → b ≡ a

pub going-stays : (a b : Node) → a.core.stopped ≡ None → Stays a b
going-stays a b goes why e = absurd (let f : None ≡ Some why = sym goes ∙ e in cc)

-- one that goes on now did so before
still-going : (a b : Node) → Stays a b → b.core.stopped ≡ None → a.core.stopped ≡ None
still-going a b stays now = by a.core.stopped refl
  where
    by : (w : Option Why) → a.core.stopped ≡ w → a.core.stopped ≡ None
    by None e = e
    by (Some why) e = absurd (let f : Some why ≡ None = sym e ∙ (sym (ap (λ (n : Node). n.core.stopped) (stays why e)) ∙ now) in cc)

pub going-acts : (a b : Node) (m₀ m₁ : Moment) (read : Told (List ℕ)) (gain : List ℕ) → a.core.stopped ≡ None → (why : Why) → a.core.stopped ≡ Some why → DoesNothing a b m₀ m₁ read gain
going-acts a b m₀ m₁ read gain goes why e = absurd (let f : None ≡ Some why = sym goes ∙ e in cc)

-- what a step that neither reads nor writes leaves of a node's own counts
pub record SameCounts (a b : Node) : Type 0 where
  pub taken : b.entrance.taken ≡ a.entrance.taken
  pub ahead : a.core.stages.items ≡ [] → b.entrance.ahead ≡ a.entrance.ahead
  pub input : b.entrance.input ≡ a.entrance.input
  pub output : b.exit.output ≡ a.exit.output
  pub abort : b.exit.abort ≡ a.exit.abort
  pub stages : stages_in b.core ≡ stages_in a.core
  pub source : b.entrance.source ≡ a.entrance.source
  pub sink : b.exit.sink ≡ a.exit.sink
  pub most : b.entrance.most ≡ a.entrance.most
  pub pipe : b.core.pipe ≡ a.core.pipe
  pub pipes : b.core.pipes_before ≡ a.core.pipes_before
  pub first : b.core.first ≡ a.core.first
  pub above : b.entrance.above ≡ a.entrance.above
  pub below : b.exit.below ≡ a.exit.below
  pub broken : b.exit.broken ≡ a.exit.broken

pub only-same : (a b : Node) → OnlyRealm a b → SameCounts a b
only-same a b only =
    rw only.is (record { taken = refl; ahead = λ e. refl; input = refl; output = refl; abort = refl; stages = refl; source = refl; sink = refl; most = refl; pipe = refl; pipes = refl; first = refl; above = refl; below = refl; broken = refl })

-- what goes on in the realm goes on behind what waits to be posted
pub held-goes : (a b : Node) (y : Told (List ℕ)) → b.exit.below ≡ a.exit.below → Goes (machines (stages_in a.core)) y (parts a) (lying a) (parts b) (lying b)
    → Goes (machines (stages_in a.core)) y (parts a) (held a) (parts b) (held b)
held-goes a b y e g =
    subst (λ (o : Option AtEdge). Goes (machines (stages_in a.core)) y (parts a) (held a) (parts b) (then_told (told_by (waiting_at o)) (lying b))) (sym e)
    (goes_behind (machines (stages_in a.core)) y (parts a) (lying a) (parts b) (lying b) (told_by (waiting_at a.exit.below)) g)

-- nothing waits where there is no end
pub held-is : (n : Node) → n.exit.below ≡ None → held n ≡ lying n
held-is n e = ap (λ (o : Option AtEdge). then_told (told_by (waiting_at o)) (lying n)) e

-- so what goes out of the realm goes out of the node
pub out-goes : (a b : Node) (went : Told (List ℕ)) → a.exit.below ≡ None → b.exit.below ≡ None
    → Goes (machines (stages_in a.core)) nothing_yet (parts a) (lying a) (parts b) (then_told went (lying b))
    → Goes (machines (stages_in a.core)) nothing_yet (parts a) (held a) (parts b) (then_told went (held b))
out-goes a b went e f g =
    subst (λ (o : Told (List ℕ)). Goes (machines (stages_in a.core)) nothing_yet (parts a) o (parts b) (then_told went (held b))) (sym (held-is a e))
    (subst (λ (o : Told (List ℕ)). Goes (machines (stages_in a.core)) nothing_yet (parts a) (lying a) (parts b) (then_told went o)) (sym (held-is b f)) g)

-- nothing was read or written, and what lies in the node went on
pub went-quietly : (a b : Node) (m : Moment) (p q : Got) → Gains p q [] → Stays a b → SameCounts a b
    → Goes (machines (stages_in a.core)) nothing_yet (parts a) (lying a) (parts b) (lying b) → Went a b m m p q
went-quietly a b m p q gained stays same goes =
    let taken = same.taken in
    record {
      read = nothing_yet;
      went = nothing_yet;
      gain = [];
      out = MayCome;
      core = record { moves = (record { stages = same.stages; goes = held-goes a b nothing_yet same.below goes }, tt); pipe = same.pipe; pipes = same.pipes; first = same.first };
      from = comes-quietly a.entrance b.entrance m same.taken same.input same.source same.most same.above;
      into = goes-quietly a.exit b.exit m p q gained same.output same.abort same.sink same.below;
      ahead = λ none by to. let ahead = same.ahead none in omega arith;
      near = λ head pieces is.
          near-same a b pieces (still-going a b stays) (ap given_at same.below) (ap received_at same.below) same.broken (same.ahead head.bare) is;
      short = λ fed some. absurd (omega arith);
      stays = λ why e. record { same = stays why e; still = refl; unread = refl; none = refl };
    }

pub length-machines : (ss : List Stage) → length (machines ss) ≡ length ss
length-machines [] = refl
length-machines (s ∷ ss) = ap suc (length-machines ss)

length-works : (ws : List State) → length (map (λ w. w.work) ws) ≡ length (map (λ w. w.stage) ws)
length-works [] = refl
length-works (w ∷ ws) = ap suc (length-works ws)

-- as many machines as works
pub as-many : (a : Node) → length (machines (stages_in a.core)) ≡ length (works_in a.core)
as-many a = length-machines (stages_in a.core) ∙ sym (length-works a.core.stages.items)

pub works-count : (shape : Shape) (a : Node) → stages_in a.core ≡ shape.stages → length (works_in a.core) ≡ count_in shape
works-count shape a stages = length-works a.core.stages.items ∙ ap length stages

-- nothing was done, but that an output may have written what it held
pub went-untouched : (a : Node) (m : Moment) (p q : Got) → Gains p q [] → Went a a m m p q
went-untouched a m p q gained =
    went-quietly a a m p q gained (λ why e. refl)
    (record { taken = refl; ahead = λ e. refl; input = refl; output = refl; abort = refl; stages = refl; source = refl; sink = refl; most = refl; pipe = refl; pipes = refl; first = refl; above = refl; below = refl; broken = refl })
    (goes_rests (machines (stages_in a.core)) 0 (works_in a.core) (lies_in a) (lies_in a) (as-many a) (λ j h k. short_refl (lies_in a j)))

pub went-same : (a : Node) (m : Moment) (p : Got) → Went a a m m p p
went-same a m p = went-untouched a m p p (Gains-nothing p)

-- only the realm changed, and of what lay at each place nothing is lost unseen
pub went-rests : (shape : Shape) (a b : Node) (m : Moment) (p q : Got) → Gains p q [] → Stays a b → stages_in a.core ≡ shape.stages → OnlyRealm a b
    → ((k : ℕ) → k ≤ count_in shape → IsShortOf (lies_in b k) (lies_in a k)) → Went a b m m p q
went-rests shape a b m p q gained stays stages only short =
    went-quietly a b m p q gained stays (only-same a b only)
    (subst (λ (ws : List AtWork). Goes (machines (stages_in a.core)) nothing_yet (parts a) (lying a) (parts_at 0 ws (lies_in b)) (behind_of 0 ws (lies_in b))) (sym works)
    (goes_rests (machines (stages_in a.core)) 0 (works_in a.core) (lies_in a) (lies_in b) (as-many a) (λ j h k. short j (let l = works-count shape a stages in omega arith)))) where
      works : works_in b.core ≡ works_in a.core
      works = ap (λ (q : Node). works_in q.core) only.is

-- what flowed before, and what flows since
pub flows-on : (ss : List Stage) (a b : Node) (came out read went : Told (List ℕ)) → Flows (machines ss) came (parts a) (then_told out (held a))
    → Goes (machines ss) read (parts a) (held a) (parts b) (then_told went (held b)) → Flows (machines ss) (then_told came read) (parts b) (then_told (then_told out went) (held b))
flows-on ss a b came out read went flows goes =
    let ms : List Machine = machines ss in
    subst (λ q. Goes ms (then_told came read) (fresh ms) nothing_yet (parts b) q) (sym (then_assoc out went (held b)))
    (goes_then ms came read (fresh ms) nothing_yet (parts a) (then_told out (held a)) (parts b) (then_told out (then_told went (held b))) flows
    (goes_behind ms read (parts a) (held a) (parts b) (then_told went (held b)) out goes))

pub fed-went : (ss : List Stage) (a b : Node) (m₀ m₁ : Moment) (p q : Got) → IsFed ss a → stages_in a.core ≡ ss → Went a b m₀ m₁ p q → IsFed ss b
fed-went ss a b m₀ m₁ p q fed stages went =
    let goes : Goes (machines ss) went.read (parts a) (held a) (parts b) (then_told went.went (held b)) =
    subst (λ q. Goes (machines q) went.read (parts a) (held a) (parts b) (then_told went.went (held b))) stages went.core.moves.0.goes in
    record {
      came = then_told fed.came went.read;
      went = then_told fed.went went.went;
      came_by = fed-came a.entrance b.entrance m₀ m₁ fed.came went.read went.from fed.came_by;
      went_by = fed-went-by a.exit b.exit m₀ m₁ p q fed.went went.went went.gain went.out went.into fed.went_by;
      short = fed-short a.entrance b.entrance m₀ m₁ fed.came went.read went.from fed.short;
      goes_on = fed-open a.exit b.exit m₀ m₁ p q fed.went went.went went.gain went.out went.into fed.goes_on;
      reads_on = fed-reads a.entrance b.entrance m₀ m₁ fed.came went.read went.from fed.reads_on;
      counted = fed-counted a.entrance b.entrance m₀ m₁ fed.came went.read went.from fed.reads_on fed.counted;
      near = λ head.
          let was = head-was a b m₀ m₁ p q went.read went.went went.gain went.out went.core.moves.0.stages went.from went.into head in
          near-joined fed.came went.read b (went.near was (length fed.came.items) (fed.near was));
      flows = flows-on ss a b fed.came fed.went went.read went.went fed.flows goes;
    }
