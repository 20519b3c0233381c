-- A node that its past led to, with one thing more that its host knows.
use Rattle.std.proofs.Common.{◌≡◌, ◌≢◌, ◌≤◌, ◌+◌, ℕ, suc, Bool, true, false, List, [], ◌∷◌, ◌++◌, length, map, Option, Some, None, refl, sym, ap, ◌∙◌, subst, append-nil, arith}
use Rattle.std.specs.Prelude.{Contains, is_some, option_map}
use Rattle.ws_value.specs.declared.ids.HostId.{HostId}
use Rattle.ws_value.specs.declared.value.Message.{Message}
use Rattle.ws_value.specs.declared.value.Message.TheVariants.{Pull, Chunk, Close, Error}
use Rattle.ws_value.specs.declared.value.Plain.{Plain}
use Rattle.ws_edge.specs.Edge.{AtEdge}
use Rattle.ws_flow.specs.declared.plan.Ending.{Ending}
use Rattle.ws_flow.specs.declared.plan.Ending.TheVariants.{Fine}
use Rattle.ws_node.specs.Shape.{Shape}
use Rattle.ws_flow.specs.Parts.{AtWork, Live, Over}
use Rattle.ws_stages.specs.State.{State, IsLive}
use Rattle.ws_steps.specs.declared.calls.HostCall.TheVariants.{Close as HostClose}
use Rattle.ws_steps.specs.Run.{Entry}
use Rattle.ws_chain_laws.specs.Chain.{Origin, FromChunks, FromBytes, FromPort, Target, ToSink, ToPort, source_of}
use Rattle.ws_joined_laws.specs.Reasons.{reasons_in}
use Rattle.ws_realm.specs.Seen.{SeenRealm, oldest}
use Rattle.ws_realm.specs.declared.realm.Why.{Why}
use Rattle.ws_realm.specs.declared.realm.Why.TheVariants.{Spent}
use Rattle.ws_node.specs.declared.node.Abort.{Abort}
use Rattle.ws_node.specs.declared.node.Core.{Core}
use Rattle.ws_node.specs.declared.node.Entrance.{Entrance}
use Rattle.ws_node.specs.declared.node.Exit.{Exit}
use Rattle.ws_node.specs.declared.node.Input.{Input}
use Rattle.ws_node.specs.declared.node.Input.TheVariants as input
use Rattle.ws_node.specs.declared.node.Node.{Node}
use Rattle.ws_node.specs.declared.node.Output.{Output}
use Rattle.ws_node.specs.declared.node.Output.TheVariants as output
use Rattle.ws_node.specs.Edges.{broken_by, with_above, with_below}
use Rattle.ws_node.specs.Messages.{fairly}
use Rattle.ws_node.specs.Moves.{HasStages, stopped_by}
use Rattle.ws_node.specs.Node.{is_edge, feeds_edge, is_reached, received_at, stages_in}
use Rattle.ws_node.specs.Past.{EndedAs, FlushesFine, IsPull, Counts, IsFedAs, FeedsAs, Led, is_shut}
use Rattle.ws_node.specs.Ran.{HasRun}
use Rattle.ws_node.proofs.Reasons.{KeepsCauses, same-causes, causes-stay, passed-more}

-- what feeds a node, and what it feeds, are as before where the end of an edge is there as before

fed-as : (o : Origin) (a b : Entrance) → is_edge b.input ≡ is_edge a.input → (a.above ≡ None → b.above ≡ None) → (is_some a.above ≡ true → is_some b.above ≡ true) → IsFedAs o a → IsFedAs o b
fed-as FromBytes a b same none some h = (same ∙ h.0, none h.1)
fed-as FromPort a b same none some h = (same ∙ h.0, some h.1)
fed-as FromChunks a b same none some h = h

feeds-as : (t : Target) (a b : Exit) → feeds_edge b.output ≡ feeds_edge a.output → (a.below ≡ None → b.below ≡ None) → (is_some a.below ≡ true → is_some b.below ≡ true) → FeedsAs t a → FeedsAs t b
feeds-as ToSink a b same none some h = (same ∙ h.0, none h.1)
feeds-as ToPort a b same none some h = (same ∙ h.0, some h.1)

not_none : (o : Option AtEdge) (e : AtEdge) (P : Type 0) → o ≡ Some e → o ≡ None → P
not_none o e P a b = absurd (cc)

-- the same realm, stages and ends of links, while what the host knows of its input and its output changed

pub record Known (shape : Shape) (past : List Entry) (n : Node) (e : Entrance) (x : Exit) : Type 0 where
  from : IsFedAs shape.origin e
  into : FeedsAs shape.target x
  source : e.source ≡ n.entrance.source
  most : e.most ≡ n.entrance.most
  asked : IsPull past e.asked
  counts : Counts e.most e.taken e.ahead e.input
  sink : x.sink ≡ n.exit.sink
  signal : option_map (λ (a : Abort). a.signal) x.abort ≡ option_map (λ (a : Abort). a.signal) n.exit.abort
  feeds : feeds_edge x.output ≡ feeds_edge n.exit.output
  finished : n.exit.output ≡ output.Finished → x.output ≡ output.Finished
  aborts : x.output ≡ output.Aborted → is_reached x.abort ≡ true
  causes : KeepsCauses n (record n { entrance = e; exit = x })

led-known : (shape : Shape) (past : List Entry) (n : Node) (e : Entrance) (x : Exit) → Led shape past n → Known shape past n e x → Led shape past (record n { entrance = e; exit = x })
led-known shape past n e x s k =
    record {
      is_of =
          record {
            fit = s.is_of.fit;
            from = k.from;
            into = k.into;
            stages = s.is_of.stages;
            source = k.source ∙ s.is_of.source;
            sink = k.sink ∙ s.is_of.sink;
            most = k.most ∙ s.is_of.most;
            signal = k.signal ∙ s.is_of.signal;
          };
      ran = s.ran;
      piped = s.piped;
      clones = s.clones;
      failed = causes-stay shape past n (record n { entrance = e; exit = x }) k.causes s.failed;
      closes = λ before after id f c no. k.finished (s.closes before after id f (c ∙ ap (λ q. Some (HostClose q)) k.sink) (sym k.feeds ∙ no));
      flushes = s.flushes;
      asked = k.asked;
      aborts = k.aborts;
      age = s.age;
      counts = k.counts;
      spent = s.spent;
    }

-- the entrance alone, or the exit alone

led-entrance : (shape : Shape) (past : List Entry) (n : Node) (e : Entrance) → Led shape past n → IsFedAs shape.origin e → e.source ≡ n.entrance.source → e.most ≡ n.entrance.most → IsPull past e.asked
    → Counts e.most e.taken e.ahead e.input → KeepsCauses n (record n { entrance = e }) → Led shape past (record n { entrance = e })
led-entrance shape past n e s from source most asked counts causes =
    led-known shape past n e n.exit s
    (record {
      from = from;
      into = s.is_of.into;
      source = source;
      most = most;
      asked = asked;
      counts = counts;
      sink = refl;
      signal = refl;
      feeds = refl;
      finished = λ f. f;
      aborts = s.aborts;
      causes = causes;
    })

led-exit : (shape : Shape) (past : List Entry) (n : Node) (x : Exit) → Led shape past n → FeedsAs shape.target x → feeds_edge x.output ≡ feeds_edge n.exit.output → x.sink ≡ n.exit.sink
    → option_map (λ (a : Abort). a.signal) x.abort ≡ option_map (λ (a : Abort). a.signal) n.exit.abort → (n.exit.output ≡ output.Finished → x.output ≡ output.Finished)
    → (x.output ≡ output.Aborted → is_reached x.abort ≡ true) → KeepsCauses n (record n { exit = x }) → Led shape past (record n { exit = x })
led-exit shape past n x s into feeds sink signal finished aborts causes =
    led-known shape past n n.entrance x s
    (record {
      from = s.is_of.from;
      into = into;
      source = refl;
      most = refl;
      asked = s.asked;
      counts = s.counts;
      sink = sink;
      signal = signal;
      feeds = feeds;
      finished = finished;
      aborts = aborts;
      causes = causes;
    })

-- the causes where the input, or the output and the abort, are as before
input-same : (n : Node) (e : Entrance) → e.input ≡ n.entrance.input
    → ((r : Plain) → Contains (reasons_in (fairly (received_at n.entrance.above))) r → Contains (reasons_in (fairly (received_at e.above))) r) → KeepsCauses n (record n { entrance = e })
input-same n e same passed = record {
  passed = passed;
  failed = λ h. same ∙ h;
  long = λ h. same ∙ h;
  shut = λ h. h;
  first = refl;
  stages = λ number code place h. h;
  reached = λ h. h;
}

exit-causes : (n : Node) (x : Exit) → (is_shut n.exit.output ≡ true → is_shut x.output ≡ true) → (is_reached n.exit.abort ≡ true → is_reached x.abort ≡ true) → KeepsCauses n (record n { exit = x })
exit-causes n x shut reached = record {
  passed = λ r h. h;
  failed = λ h. h;
  long = λ h. h;
  shut = shut;
  first = refl;
  stages = λ number code place h. h;
  reached = reached;
}

pub led-ahead : (shape : Shape) (past : List Entry) (n : Node) (k : ℕ) → k ≤ n.entrance.ahead → Led shape past n → Led shape past (record n { entrance = record n.entrance { ahead = k } })
led-ahead shape past n k less s =
    let e : Entrance = record n.entrance { ahead = k } in
    let counts = s.counts in
    led-entrance shape past n e s (fed-as shape.origin n.entrance e refl (λ f. f) (λ f. f) s.is_of.from) refl refl s.asked
    (record {
      limited = counts.limited;
      bound = counts.bound;
      within = counts.within;
      beyond = counts.beyond;
      piece = let most = counts.piece in omega arith;
      failed = λ f. let none = counts.failed f in omega arith;
    })
    (input-same n e refl (λ r h. h))

shut-open : (o : Output) → is_shut o ≡ true → o ≢ output.Open
shut-open output.Open h e = absurd (cc)
shut-open output.Finished h e = absurd (cc)
shut-open output.Failed h e = absurd (cc)
shut-open output.Aborted h e = absurd (cc)
shut-open output.Edge h e = absurd (cc)

pub led-output : (shape : Shape) (past : List Entry) (n : Node) (o : Output) → feeds_edge o ≡ feeds_edge n.exit.output → (n.exit.output ≢ output.Open → o ≡ n.exit.output)
    → (o ≡ output.Aborted → is_reached n.exit.abort ≡ true) → Led shape past n → Led shape past (record n { exit = record n.exit { output = o } })
led-output shape past n o feeds stays reached s =
    let x : Exit = record n.exit { output = o } in
    led-exit shape past n x s (feeds-as shape.target n.exit x feeds (λ f. f) (λ f. f) s.is_of.into) feeds refl refl
    (λ f. stays (λ g. absurd (cc)) ∙ f) reached
    (exit-causes n x (λ h. ap is_shut (stays (shut-open n.exit.output h)) ∙ h) (λ h. h))

pub led-abort : (shape : Shape) (past : List Entry) (n : Node) (x : Option Abort) → option_map (λ a. a.signal) x ≡ option_map (λ a. a.signal) n.exit.abort
    → (is_reached n.exit.abort ≡ true → is_reached x ≡ true) → Led shape past n → Led shape past (record n { exit = record n.exit { abort = x } })
led-abort shape past n x same_signal reached s =
    let y : Exit = record n.exit { abort = x } in
    led-exit shape past n y s (feeds-as shape.target n.exit y refl (λ f. f) (λ f. f) s.is_of.into) refl refl same_signal (λ f. f) (λ e. reached (s.aborts e)) (exit-causes n y (λ h. h) reached)

pub led-asked : (shape : Shape) (past : List Entry) (n : Node) (id : HostId) → IsPull past (Some id) → Led shape past n → Led shape past (record n { entrance = record n.entrance { asked = Some id } })
led-asked shape past n id pull s =
    let e : Entrance = record n.entrance { asked = Some id } in
    led-entrance shape past n e s (fed-as shape.origin n.entrance e refl (λ f. f) (λ f. f) s.is_of.from) refl refl pull s.counts (input-same n e refl (λ r h. h))

-- no pull waits
pub led-unasked : (shape : Shape) (past : List Entry) (n : Node) → Led shape past n → Led shape past (record n { entrance = record n.entrance { asked = None } })
led-unasked shape past n s =
    let e : Entrance = record n.entrance { asked = None } in
    led-entrance shape past n e s (fed-as shape.origin n.entrance e refl (λ f. f) (λ f. f) s.is_of.from) refl refl tt s.counts (input-same n e refl (λ r h. h))

-- a node that answers the pull that waited
abbrev pub answering : ℕ → ℕ → Input → Node → Node
answering taken ahead i n = record n { entrance = record n.entrance { taken = taken; ahead = ahead; input = i; asked = None } }

pub led-input : (shape : Shape) (past : List Entry) (n : Node) (taken ahead : ℕ) (i : Input) → n.entrance.input ≡ input.Open → is_edge i ≡ false → Counts n.entrance.most taken ahead i → Led shape past n
    → Led shape past (answering taken ahead i n)
led-input shape past n taken ahead i was_open not_edge counts s =
    let e : Entrance = record n.entrance { taken = taken; ahead = ahead; input = i; asked = None } in
    led-entrance shape past n e s (fed-as shape.origin n.entrance e (not_edge ∙ sym (ap is_edge was_open)) (λ f. f) (λ f. f) s.is_of.from) refl refl tt counts
    (record {
      passed = λ r h. h;
      failed = λ h. absurd (cc);
      long = λ h. absurd (cc);
      shut = λ h. h;
      first = refl;
      stages = λ number code place h. h;
      reached = λ h. h;
    })

-- Something was taken or posted at an end, or waits there

pub led-at-above : (shape : Shape) (past : List Entry) (n : Node) (e f : AtEdge) → n.entrance.above ≡ Some e → f.from.received ≡ e.from.received → Led shape past n
    → Led shape past (with_above f n)
led-at-above shape past n e f is same s =
    let x : Entrance = record n.entrance { above = Some f } in
    led-entrance shape past n x s (fed-as shape.origin n.entrance x refl (not_none n.entrance.above e _ is) (λ h. refl) s.is_of.from) refl refl s.asked s.counts
    (input-same n x refl (λ r h. passed-more n.entrance.above e f [] r is (same ∙ sym (append-nil e.from.received)) h))

pub led-below : (shape : Shape) (past : List Entry) (n : Node) (e f : AtEdge) → n.exit.below ≡ Some e → Led shape past n → Led shape past (with_below f n)
led-below shape past n e f is s =
    let x : Exit = record n.exit { below = Some f } in
    led-exit shape past n x s (feeds-as shape.target n.exit x refl (not_none n.exit.below e _ is) (λ h. refl) s.is_of.into) refl refl refl (λ h. h) s.aborts (exit-causes n x (λ h. h) (λ h. h))

-- that an error came up is remembered
pub led-broken : (shape : Shape) (past : List Entry) (n : Node) (broken : Bool) → Led shape past n → Led shape past (record n { exit = record n.exit { broken = broken } })
led-broken shape past n broken s =
    let x : Exit = record n.exit { broken = broken } in
    led-exit shape past n x s (feeds-as shape.target n.exit x refl (λ h. h) (λ h. h) s.is_of.into) refl refl refl (λ h. h) s.aborts (exit-causes n x (λ h. h) (λ h. h))

-- the first error that came over the edge above is remembered

broken-edge : (m : Message) (i : Input) → is_edge (broken_by m i) ≡ is_edge i
broken-edge (Error r) input.Edge = refl
broken-edge (Error r) input.Open = refl
broken-edge (Error r) input.Ended = refl
broken-edge (Error r) input.Failed = refl
broken-edge (Error r) input.TooLong = refl
broken-edge (Error r) (input.Broken q) = refl
broken-edge Pull i = refl
broken-edge (Chunk v) i = refl
broken-edge Close i = refl

failed-stays : (m : Message) (i : Input) → i ≡ input.Failed → broken_by m i ≡ input.Failed
failed-stays m i e = ap (broken_by m) e ∙ by m where
  by : (m : Message) → broken_by m input.Failed ≡ input.Failed
  by (Error r) = refl
  by Pull = refl
  by (Chunk v) = refl
  by Close = refl

long-stays : (m : Message) (i : Input) → i ≡ input.TooLong → broken_by m i ≡ input.TooLong
long-stays m i e = ap (broken_by m) e ∙ by m where
  by : (m : Message) → broken_by m input.TooLong ≡ input.TooLong
  by (Error r) = refl
  by Pull = refl
  by (Chunk v) = refl
  by Close = refl

-- and what is counted of an input isn't changed by that
broken-counts : (limit taken ahead : ℕ) (m : Message) (i : Input) → Counts limit taken ahead i → Counts limit taken ahead (broken_by m i)
broken-counts limit taken ahead (Error r) input.Edge c = record {
  limited = c.limited;
  bound = c.bound;
  within = λ h. c.within (λ e. absurd (cc));
  beyond = λ h. absurd (cc);
  piece = c.piece;
  failed = λ h. absurd (cc);
}
broken-counts limit taken ahead (Error r) input.Open c = c
broken-counts limit taken ahead (Error r) input.Ended c = c
broken-counts limit taken ahead (Error r) input.Failed c = c
broken-counts limit taken ahead (Error r) input.TooLong c = c
broken-counts limit taken ahead (Error r) (input.Broken q) c = c
broken-counts limit taken ahead Pull i c = c
broken-counts limit taken ahead (Chunk v) i c = c
broken-counts limit taken ahead Close i c = c

pub led-above : (shape : Shape) (past : List Entry) (n : Node) (e f : AtEdge) (m : Message) (more : List Message) → n.entrance.above ≡ Some e
    → f.from.received ≡ e.from.received ++ more → Led shape past n → Led shape past (record n { entrance = record n.entrance { above = Some f; input = broken_by m n.entrance.input } })
led-above shape past n e f m more is longer s =
    let x : Entrance = record n.entrance { above = Some f; input = broken_by m n.entrance.input } in
    led-entrance shape past n x s (fed-as shape.origin n.entrance x (broken-edge m n.entrance.input) (not_none n.entrance.above e _ is) (λ h. refl) s.is_of.from) refl refl s.asked
    (broken-counts n.entrance.most n.entrance.taken n.entrance.ahead m n.entrance.input s.counts)
    (record {
      passed = λ r h. passed-more n.entrance.above e f more r is longer h;
      failed = λ h. failed-stays m n.entrance.input h;
      long = λ h. long-stays m n.entrance.input h;
      shut = λ h. h;
      first = refl;
      stages = λ number code place h. h;
      reached = λ h. h;
    })

-- a list in which one element was exchanged: what stands somewhere is the new one, or stood there before
data Exchanged (before after first : List State) (w v u : State) : Type 0 where
  Here : u ≡ v → length first ≡ length before → Exchanged before after first w v u
  There : (front last : List State) → before ++ w ∷ after ≡ front ++ u ∷ last → length front ≡ length first → Exchanged before after first w v u

exchanged : (before after first last : List State) (w v u : State) → before ++ v ∷ after ≡ first ++ u ∷ last → Exchanged before after first w v u
exchanged [] after [] last w v u e = Here (grind arith) refl
exchanged [] after (f ∷ first) last w v u e = There (w ∷ first) last (grind arith) refl
exchanged (b ∷ before) after [] last w v u e = There [] (before ++ w ∷ after) (grind arith) refl
exchanged (b ∷ before) after (f ∷ first) last w v u e = longer (exchanged before after first last w v u (grind arith)) where
  longer : Exchanged before after first w v u → Exchanged (b ∷ before) after (f ∷ first) w v u
  longer (Here same long) = Here same (ap suc long)
  longer (There front rest whole long) = There (b ∷ front) rest (ap (λ q. b ∷ q) whole) (ap suc long)

live-over : (w : AtWork) (e : Ending) → IsLive w → w ≡ Over e → ⊥
live-over (Live k) e live over = cc
live-over (Over x) e live over = live

ended-stays : (before after : List State) (w v : State) (index code place : ℕ) (stages items : List State) → stages ≡ before ++ w ∷ after → items ≡ before ++ v ∷ after → IsLive w.work
    → EndedAs index code place stages → EndedAs index code place items
ended-stays before after w v index code place stages items e f live h =
    by (exchanged before after h.before h.after v w h.state (sym e ∙ h.whole)) where
      by : Exchanged before after h.before v w h.state → EndedAs index code place items
      by (Here same long) = absurd (live-over w.work _ live (ap (λ q. q.work) (sym same) ∙ h.over))
      by (There front last whole long) = record { before = front; after = last; state = h.state; numbered = ap (λ q. q + 1) long ∙ h.numbered; whole = f ∙ whole; over = h.over }

fine-stays : (entries : List Entry) (before after : List State) (w v : State) (stages items : List State) → stages ≡ before ++ w ∷ after → items ≡ before ++ v ∷ after → IsLive w.work
    → FlushesFine entries stages → FlushesFine entries items
fine-stays entries before after w v stages items e f live h past rest id i split flush first last u at =
    by (exchanged before after first last w v u (sym f ∙ at.whole)) where
      by : Exchanged before after first w v u → u.work ≡ Over Fine
      by (Here same long) =
          absurd (live-over w.work Fine live (h past rest id i split flush before after w (record { whole = e; place = at.place ∙ ap (λ q. source_of (suc q)) long })))
      by (There front end whole long) = h past rest id i split flush front end u (record { whole = e ∙ whole; place = at.place ∙ ap (λ q. source_of (suc q)) (sym long) })

stages-stay : (before after : List State) (w v : State) → v.stage ≡ w.stage → map (λ q. q.stage) (before ++ v ∷ after) ≡ map (λ q. q.stage) (before ++ w ∷ after)
stages-stay [] after w v e = ap (λ q. q ∷ map (λ q. q.stage) after) e
stages-stay (b ∷ before) after w v e = ap (λ q. b.stage ∷ q) (stages-stay before after w v e)

-- a node of which the core changed, but neither its realm, its pipe nor the kinds of its stages
led-core : (shape : Shape) (past : List Entry) (n : Node) (c : Core) → Led shape past n → c.realm ≡ n.core.realm → c.pipe ≡ n.core.pipe → stages_in c ≡ stages_in n.core → FlushesFine past c.stages.items
    → (c.stopped ≡ Some Spent → n.core.realm.slots.age ≡ oldest) → KeepsCauses n (record n { core = c }) → Led shape past (record n { core = c })
led-core shape past n c s realm pipe kept flushes spent causes =
    record {
      is_of =
          record {
            fit = s.is_of.fit;
            from = s.is_of.from;
            into = s.is_of.into;
            stages = kept ∙ s.is_of.stages;
            source = s.is_of.source;
            sink = s.is_of.sink;
            most = s.is_of.most;
            signal = s.is_of.signal;
          };
      ran = subst (λ (q : SeenRealm). HasRun shape past q.slots) (sym realm) s.ran;
      piped = pipe ∙ s.piped;
      clones = s.clones;
      failed = causes-stay shape past n (record n { core = c }) causes s.failed;
      closes = s.closes;
      flushes = flushes;
      asked = s.asked;
      aborts = s.aborts;
      age = subst (λ (q : SeenRealm). q.slots.age ≤ oldest) (sym realm) s.age;
      counts = s.counts;
      spent = λ e. ap (λ (q : SeenRealm). q.slots.age) realm ∙ spent e;
    }

-- a stage that could be asked was
pub led-stages : (shape : Shape) (past : List Entry) (n c : Node) (before after : List State) (w v : State) → n.core.stages.items ≡ before ++ w ∷ after → IsLive w.work → v.stage ≡ w.stage
    → HasStages (before ++ v ∷ after) n c → Led shape past n → Led shape past c
led-stages shape past n c before after w v whole live same_stage has s =
    subst (λ q. Led shape past q) (sym has.is)
    (led-core shape past n (record n.core { stages = c.core.stages }) s refl refl
    (ap (λ q. map (λ (u : State). u.stage) q) has.items ∙ stages-stay before after w v same_stage ∙ sym (ap (λ q. map (λ (u : State). u.stage) q) whole))
    (fine-stays past before after w v n.core.stages.items c.core.stages.items whole has.items live s.flushes) s.spent
    (record {
      passed = λ r h. h;
      failed = λ h. h;
      long = λ h. h;
      shut = λ h. h;
      first = refl;
      stages = λ number code place h. ended-stays before after w v number code place n.core.stages.items c.core.stages.items whole has.items live h;
      reached = λ h. h;
    }))

some_same : {A : Type 0} (x y : A) → Some x ≡ Some y → x ≡ y
some_same x y e = grind arith

pub led-stopped : (shape : Shape) (past : List Entry) (n : Node) (why : Why) → (why ≡ Spent → n.core.realm.slots.age ≡ oldest) → Led shape past n → Led shape past (stopped_by why n)
led-stopped shape past n why spent s =
    led-core shape past n (record n.core { stopped = Some why }) s refl refl refl s.flushes (λ e. spent (some_same why Spent e)) (same-causes n (stopped_by why n) refl refl refl refl)
