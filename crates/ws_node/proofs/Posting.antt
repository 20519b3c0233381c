-- A node posts what waits at the ends of its edges: nothing of its realm changes, and what lay behind its stages went out or lies there now.
use Rattle.std.proofs.Common.{◌≡◌, ◌+◌, ◌≤◌, ◌<◌, ℕ, Bool, true, false, List, [], ◌∷◌, ◌++◌, length, Option, Some, None, refl, sym, ap, ◌∙◌, subst, append-nil, arith}
use Rattle.std.specs.List.{concat}
use Rattle.std.proofs.lemmas.List.Elements.{All-nil}
use Rattle.ws_value.specs.declared.ids.PortId.{PortId}
use Rattle.ws_value.specs.declared.value.Message.{Message}
use Rattle.ws_edge.specs.Edge.{AtEdge}
use Rattle.ws_flow.proofs.Ends.{told_append, goes_behind}
use Rattle.ws_flow.proofs.Steps.{goes_rests}
use Rattle.ws_flow.proofs.Told.{then_assoc, short_refl}
use Rattle.ws_flow.specs.Machines.{Machine}
use Rattle.ws_flow.specs.Parts.{Goes}
use Rattle.ws_flow.specs.Rows.{told_by}
use Rattle.ws_flow.specs.Stages.{machines}
use Rattle.ws_flow.specs.Told.{Mark, Open as MayCome, Told, then_told}
use Rattle.ws_io.specs.Gain.{Got}
use Rattle.ws_io.proofs.Flow.{Gains-nothing, Fed-nothing}
use Rattle.ws_io.specs.Moment.{Moment}
use Rattle.ws_port.specs.Ends.{Posted, Taken}
use Rattle.ws_steps.specs.PortHistory.{posted_in}
use Rattle.ws_steps.specs.Run.{Entry}
use Rattle.ws_steps.specs.Slots.{empty}
use Rattle.ws_node_laws.specs.Messages.{delivered_to, taken_events}
use Rattle.ws_chain_laws.specs.Chain.{Origin, FromChunks, FromBytes, FromPort, Target, ToSink, ToPort, source_port, sink_port}
use Rattle.ws_realm.specs.declared.realm.Why.{Why}
use Rattle.ws_node.specs.declared.node.Entrance.{Entrance}
use Rattle.ws_node.specs.declared.node.Exit.{Exit}
use Rattle.ws_node.specs.declared.node.Input.{Input}
use Rattle.ws_node.specs.declared.node.Input.TheVariants as input
use Rattle.ws_node.specs.declared.node.Node.{Node}
use Rattle.ws_node.specs.declared.node.Output.TheVariants as output
use Rattle.ws_node.specs.Edges.{PostsEnd, posts_at, PostsBoth, TakesNone}
use Rattle.ws_node.specs.Near.{IsHead, IsNear}
use Rattle.ws_node.specs.Node.{is_edge, feeds_edge, received_at, sent_at, waiting_at, given_at, rows_at, held, lies_in, lying, nothing_yet, parts, stages_in, works_in}
use Rattle.ws_node.specs.Past.{IsFedAs, FeedsAs, IsGiven, IsDelivered, EndHas, EndsHave, Led, Since}
use Rattle.ws_node.specs.Shape.{Shape}
use Rattle.ws_node.specs.Went.{EdgeGoes, EndGrows, EndsShort, CoreGoes, ComesIn, ByInput, ByEdge, GoesOut, ToOutput, ToEdge, Went}
use Rattle.ws_node.proofs.Changes.{led-at-above, led-below}
use Rattle.ws_node.proofs.Going.{input-same, output-same, abort-same, as-many, going-acts}
use Rattle.ws_node.proofs.Handled.{Handled}
use Rattle.ws_node.proofs.Nearing.{near-same}

-- An end, once a first part of what waited there was posted
pub record Grows (o q : Option AtEdge) : Type 0 where
  pub posted : List Message
  pub end : EndGrows o q [] posted
  pub rest : waiting_at o ≡ posted ++ waiting_at q
  pub given : given_at q ≡ given_at o

pub grows-same : (o : Option AtEdge) → Grows o o
grows-same o = record {
  posted = [];
  end = record { rows = refl; received = sym (append-nil (received_at o)); sent = sym (append-nil (sent_at o)) };
  rest = refl;
  given = refl;
}

rows-same : (e f : AtEdge) → f.from.row ≡ e.from.row → f.to.row ≡ e.to.row → f.traced ≡ e.traced → rows_at (Some f) ≡ rows_at (Some e)
rows-same e f from to traced = rw (from, to, traced) refl

posts-end : (t : Bool) (e f : AtEdge) → PostsEnd t e f → Grows (Some e) (Some f)
posts-end t e f h = record {
  posted = h.first.posted;
  end = record {
    rows = rows-same e f (ap (λ (x : Taken). x.row) h.from) h.row h.traced;
    received = ap (λ (x : Taken). x.received) h.from ∙ sym (append-nil e.from.received);
    sent = h.first.sent;
  };
  rest = h.first.rest;
  given = h.given_is;
}

pub posts-grow : (t : Bool) (o q : Option AtEdge) → posts_at t o q → Grows o q
posts-grow t None q h = subst (Grows None) (sym h.0) (grows-same None)
posts-grow t (Some e) (Some f) h = posts-end t e f h
posts-grow t (Some e) None h = absurd h

-- one at which a look found no message
pub looked-grow : (e f : AtEdge) → TakesNone e f → Grows (Some e) (Some f)
looked-grow e f h = record {
  posted = [];
  end = record {
    rows = rows-same e f h.row (ap (λ (x : Posted). x.row) h.to) h.traced;
    received = h.received ∙ sym (append-nil e.from.received);
    sent = ap (λ (x : Posted). x.sent) h.to ∙ sym (append-nil e.to.sent);
  };
  rest = sym h.waiting;
  given = ap (λ (x : Posted). x.sent ++ f.waiting) h.to ∙ ap (λ ms. e.to.sent ++ ms) h.waiting;
}

pub grows-received : (o q : Option AtEdge) → Grows o q → received_at q ≡ received_at o
grows-received o q g = g.end.received ∙ append-nil (received_at o)

-- where there was none, there is none, and nothing was posted

none-stays : (o q : Option AtEdge) → o ≡ None → rows_at q ≡ rows_at o → q ≡ o
none-stays None None e g = refl
none-stays None (Some f) e g = absurd (cc)
none-stays (Some x) q e g = absurd (cc)

none-posted : (o q : Option AtEdge) (posted : List Message) → o ≡ None → EndGrows o q [] posted → posted ≡ []
none-posted None None posted e g = sym g.sent
none-posted None (Some f) posted e g = absurd (let h : rows_at (Some f) ≡ None = g.rows in cc)
none-posted (Some x) q posted e g = absurd (cc)

-- The node that has these ends

abbrev pub with_ends : Option AtEdge → Option AtEdge → Node → Node
with_ends q r n = record n { entrance = record n.entrance { above = q }; exit = record n.exit { below = r } }

abbrev up_as : Option AtEdge → Node → Node
up_as q n = record n { entrance = record n.entrance { above = q } }

abbrev down_as : Option AtEdge → Node → Node
down_as r n = record n { exit = record n.exit { below = r } }

led-up : (shape : Shape) (past : List Entry) (n : Node) (o q : Option AtEdge) → n.entrance.above ≡ o → rows_at q ≡ rows_at o → received_at q ≡ received_at o → Led shape past n
    → Led shape past (up_as q n)
led-up shape past n None None e g r s = subst (λ z. Led shape past (up_as z n)) e s
led-up shape past n None (Some y) e g r s = absurd (cc)
led-up shape past n (Some x) (Some y) e g r s = led-at-above shape past n x y e r s
led-up shape past n (Some x) None e g r s = absurd (cc)

led-down : (shape : Shape) (past : List Entry) (n : Node) (o r : Option AtEdge) → n.exit.below ≡ o → rows_at r ≡ rows_at o → Led shape past n → Led shape past (down_as r n)
led-down shape past n None None e g s = subst (λ z. Led shape past (down_as z n)) e s
led-down shape past n None (Some y) e g s = absurd (cc)
led-down shape past n (Some x) (Some y) e g s = led-below shape past n x y e s
led-down shape past n (Some x) None e g s = absurd (cc)

pub led-ends : (shape : Shape) (past : List Entry) (n : Node) (q r : Option AtEdge) → rows_at q ≡ rows_at n.entrance.above → received_at q ≡ received_at n.entrance.above
    → rows_at r ≡ rows_at n.exit.below → Led shape past n → Led shape past (with_ends q r n)
led-ends shape past n q r rows received below s = led-down shape past (up_as q n) n.exit.below r refl below (led-up shape past n n.entrance.above q refl rows received s)

-- what was given to it and taken of it is the same
pub end-same : (port : PortId) (past : List Entry) (stopped : Option Why) (o q : Option AtEdge) → Grows o q → EndHas port past stopped o → EndHas port past stopped q
end-same port past stopped o None g h = tt
end-same port past stopped None (Some y) g h = absurd (let f : rows_at (Some y) ≡ None = g.end.rows in cc)
end-same port past stopped (Some x) (Some y) g h = record {
  given = subst (λ ms. IsGiven (posted_in port (taken_events past empty)) ms stopped) (sym g.given) h.given;
  taken = subst (λ ms. IsDelivered (delivered_to port past) ms stopped) (sym (grows-received (Some x) (Some y) g)) h.taken;
}

pub ends-same-given : (shape : Shape) (past : List Entry) (n : Node) (q r : Option AtEdge) → Grows n.entrance.above q → Grows n.exit.below r → EndsHave shape past n
    → EndsHave shape past (with_ends q r n)
ends-same-given shape past n q r g h s = record {
  above = end-same source_port past n.core.stopped n.entrance.above q g s.above;
  below = end-same (sink_port shape.origin) past n.core.stopped n.exit.below r h s.below;
}

-- How a node goes on, whether its realm has stopped or not
pub record GoesBy (a b : Node) (old new : Moment) (p q : Got) : Type 0 where
  pub read : Told (List ℕ)
  pub went : Told (List ℕ)
  pub gain : List ℕ
  pub out : Mark
  pub core : CoreGoes a b (record { came = read; went = went } ∷ [])
  pub from : ComesIn a.entrance b.entrance old new read
  pub into : GoesOut a.exit b.exit old new p q went gain out
  pub ahead : a.core.stages.items ≡ [] → is_edge a.entrance.input ≡ false → feeds_edge a.exit.output ≡ false
      → a.entrance.ahead + length (concat read.items) ≤ length gain + b.entrance.ahead
  pub near : IsHead a → (pieces : ℕ) → IsNear pieces a → IsNear (pieces + length read.items) b
  pub short : is_edge a.entrance.input ≡ false → 0 < length gain → EndsShort went.items gain

pub goes-of : (a b : Node) (old new : Moment) (p q : Got) → Went a b old new p q → GoesBy a b old new p q
goes-of a b old new p q w = record { read = w.read; went = w.went; gain = w.gain; out = w.out; core = w.core; from = w.from; into = w.into; ahead = w.ahead; near = w.near; short = w.short }

pub went-of : (a b : Node) (old new : Moment) (p q : Got) → a.core.stopped ≡ None → GoesBy a b old new p q → Went a b old new p q
went-of a b old new p q goes w = record {
  read = w.read;
  went = w.went;
  gain = w.gain;
  out = w.out;
  core = w.core;
  from = w.from;
  into = w.into;
  ahead = w.ahead;
  near = w.near;
  short = w.short;
  stays = going-acts a b old new w.read w.gain goes;
}

-- nothing comes in as messages are posted

pub edge-rests : (i : Input) → is_edge i ≡ true → EdgeGoes i i []
edge-rests input.Edge e = refl
edge-rests (input.Broken r) e = refl
edge-rests input.Open e = absurd (cc)
edge-rests input.Ended e = absurd (cc)
edge-rests input.Failed e = absurd (cc)
edge-rests input.TooLong e = absurd (cc)

pub from-posts : (o : Origin) (a : Entrance) (q : Option AtEdge) (posted : List Message) (m : Moment) → IsFedAs o a → EndGrows a.above q [] posted → ComesIn a (record a { above = q }) m m nothing_yet
from-posts FromBytes a q posted m (off, none) g =
    ByInput off (record {
      fed = Fed-nothing m.feed;
      short = All-nil (λ c. length c ≤ 4096);
      counted = omega arith;
      input = input-same a.input m off;
      source = refl;
      most = refl;
      above = none-stays a.above q none g.rows;
    })
from-posts FromPort a q posted m (on, some) g =
    ByEdge on (record {
      taken = [];
      posted = posted;
      end = g;
      came_is = refl;
      short = All-nil (λ c. length c < 33554432);
      goes = edge-rests a.input on;
      unread = (refl, refl);
      counted = refl;
      source = refl;
      most = refl;
    })
from-posts FromChunks a q posted m f g = absurd f

-- what is posted goes out

into-sink : (a : Exit) (r : Option AtEdge) (m : Moment) (p : Got) → feeds_edge a.output ≡ false → r ≡ a.below → GoesOut a (record a { below = r }) m m p p nothing_yet [] MayCome
into-sink a r m p off same =
    ToOutput off (record {
      gained = Gains-nothing p;
      written = (refl, refl);
      output = output-same a.output m off;
      abort = abort-same a.abort [] a.output;
      emptied = λ e f. absurd (let g : output.Open ≡ output.Finished = sym e ∙ f in cc);
      sink = refl;
      below = same;
    })

pub into-posts : (t : Target) (a : Exit) (r : Option AtEdge) (posted : List Message) (m : Moment) (p : Got) → FeedsAs t a → EndGrows a.below r [] posted
    → GoesOut a (record a { below = r }) m m p p (told_by posted) [] MayCome
into-posts ToSink a r posted m p (off, none) g =
    subst (λ ms. GoesOut a (record a { below = r }) m m p p (told_by ms) [] MayCome) (sym (none-posted a.below r posted none g)) (into-sink a r m p off (none-stays a.below r none g.rows))
into-posts ToPort a r posted m p (on, some) g =
    ToEdge on (record {
      taken = [];
      posted = posted;
      end = g;
      went_is = refl;
      gained = Gains-nothing p;
      output = refl;
      may_come = refl;
      alone = record { none = refl; calm = refl; finished = refl };
      abort = refl;
      sink = refl;
    })

-- what lay behind the stages was posted, or lies there
pub core-posts : (a : Node) (q r : Option AtEdge) (posted : List Message) → held a ≡ then_told (told_by posted) (then_told (told_by (waiting_at r)) (lying a))
    → CoreGoes a (with_ends q r a) (record { came = nothing_yet; went = told_by posted } ∷ [])
core-posts a q r posted is =
    record {
      moves = (record { stages = refl; goes = subst (Goes ms nothing_yet (parts a) (held a) (parts a)) is (goes_behind ms nothing_yet (parts a) (lying a) (parts a) (lying a) (told_by (waiting_at a.exit.below)) rests) }, tt);
      pipe = refl;
      pipes = refl;
      first = refl;
    } where
      ms : List Machine
      ms = machines (stages_in a.core)

      rests : Goes ms nothing_yet (parts a) (lying a) (parts a) (lying a)
      rests = goes_rests ms 0 (works_in a.core) (lies_in a) (lies_in a) (as-many a) (λ j h k. short_refl (lies_in a j))

pub waits-is : (ws posted rest : List Message) (t : Told (List ℕ)) → ws ≡ posted ++ rest → then_told (told_by ws) t ≡ then_told (told_by posted) (then_told (told_by rest) t)
waits-is ws posted rest t e =
    ap (λ ms. then_told (told_by ms) t) e ∙ (ap (λ x. then_told x t) (told_append posted rest) ∙ then_assoc (told_by posted) (told_by rest) t)

pub goes-posts : (shape : Shape) (past : List Entry) (a : Node) (q r : Option AtEdge) (m : Moment) (p : Got) → Led shape past a → Grows a.entrance.above q → Grows a.exit.below r
    → GoesBy a (with_ends q r a) m m p p
goes-posts shape past a q r m p s g h =
    record {
      read = nothing_yet;
      went = told_by h.posted;
      gain = [];
      out = MayCome;
      core = core-posts a q r h.posted (waits-is (waiting_at a.exit.below) h.posted (waiting_at r) (lying a) h.rest);
      from = from-posts shape.origin a.entrance q g.posted m s.is_of.from g.end;
      into = into-posts shape.target a.exit r h.posted m p s.is_of.into h.end;
      ahead = λ none input output. omega arith;
      near = λ head pieces is. near-same a (with_ends q r a) pieces (λ e. e) h.given (grows-received a.exit.below r h) refl refl is;
      short = λ fed some. absurd (omega arith);
    }

-- the node is handled so
pub ends-handled : (shape : Shape) (past : List Entry) (a : Node) (q r : Option AtEdge) (m : Moment) (p : Got) → a.core.stopped ≡ None → Since shape past a
    → Grows a.entrance.above q → Grows a.exit.below r → Handled shape a (with_ends q r a) m m p p
ends-handled shape past a q r m p goes s g h =
    record {
      past = past;
      led = led-ends shape past a q r g.end.rows (grows-received a.entrance.above q g) h.end.rows s.led;
      pushes = s.pushes;
      one = s.one;
      went = went-of a (with_ends q r a) m m p p goes (goes-posts shape past a q r m p s.led g h);
      ends = ends-same-given shape past a q r g h s.ends;
    }

pub posts : (shape : Shape) (past : List Entry) (a b : Node) (t : Bool) (m : Moment) (p : Got) → a.core.stopped ≡ None → Since shape past a → PostsBoth t a b
    → Handled shape a b m m p p
posts shape past a b t m p goes s h =
    subst (λ (n : Node). Handled shape a n m m p p) (sym h.is)
    (ends-handled shape past a b.entrance.above b.exit.below m p goes s (posts-grow h.above a.entrance.above b.entrance.above h.posts_above)
    (posts-grow h.below a.exit.below b.exit.below h.posts_below))
