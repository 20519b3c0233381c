-- What the ends of a node are given to post in a turn: what the host hears of that their ports posted.
use Rattle.std.proofs.Common.{◌≡◌, ◌≤◌, ℕ, zero, suc, Bool, true, false, ◌||◌, is_some, if◌then◌else◌, List, [], ◌∷◌, ◌++◌, Option, Some, None, refl, sym, ap, ◌∙◌, subst, append-nil, append_assoc, arith}
use Rattle.ws_value.specs.declared.ids.PortId.{PortId}
use Rattle.ws_value.specs.declared.value.Message.{Message}
use Rattle.ws_value.specs.declared.value.Message.TheVariants.{Pull, Chunk, Close, Error}
use Rattle.ws_value.specs.declared.value.Value.TheVariants.{Plain as PlainValue, Bytes}
use Rattle.ws_edge.specs.Edge.{AtEdge, given, last_error}
use Rattle.ws_io.specs.Gain.{Got, straight}
use Rattle.ws_io.specs.Feed.{Feed}
use Rattle.ws_io.specs.Moment.{Moment, moment}
use Rattle.ws_port.specs.Ends.{Posted}
use Rattle.ws_steps.specs.declared.calls.Event.{Event}
use Rattle.ws_steps.specs.declared.calls.Event.TheVariants.{Host, Settled, Signal, Post}
use Rattle.ws_steps.specs.Histories.{taken_event}
use Rattle.ws_steps.specs.PortHistory.{has_end, is_end, is_same_port, posted_by, posted_in}
use Rattle.ws_steps.specs.Run.{Entry, Worked, Heard, run, step, after_event, first_event, jobs_in_a_row}
use Rattle.ws_steps.specs.Slots.{Slots}
use Rattle.ws_alike.specs.Alike.{trim}
use Rattle.ws_chain_laws.specs.Chain.{source_port}
use Rattle.ws_node_laws.specs.Messages.{taken_events}
use Rattle.ws_stages.specs.State.{State}
use Rattle.ws_realm.specs.Seen.{SeenRealm}
use Rattle.ws_realm.specs.declared.realm.Why.{Why}
use Rattle.ws_realm.specs.declared.realm.Why.TheVariants.{NoMemory}
use Rattle.ws_node.specs.declared.node.Entrance.{Entrance}
use Rattle.ws_node.specs.declared.node.Node.{Node}
use Rattle.ws_node.specs.Edges.{posts_at, PostsBoth, tells_at, TellsBoth, TakesAbove, NotAbove, NoMore, NoneAbove, TookAbove, TakesBelow, NotBelow, NoneBelow, TookBelow, WaitsAt, Waiting, NoRoom, NoEdge, had_as, had_entrance, waits_by, with_above, with_below}
use Rattle.ws_node.specs.Hears.{Hears}
use Rattle.ws_node.specs.Moves.{Empties, Reads, ReadNot, ReadOnce, Shown, Wanted, Works, stopped_by, with_realm}
use Rattle.ws_node.specs.Node.{port_below, sent_at}
use Rattle.ws_node.specs.Past.{IsGiven, Whole, FirstPart, WithLast}
use Rattle.ws_node.specs.Turns.{EndGrowsBy, EndPostsAt, GivesHeard, PostsHeard}
use Rattle.ws_node.specs.Went.{ComesIn, ByInput, ByEdge, GoesOut, ToOutput, ToEdge, Went}
use Rattle.ws_node.proofs.Acting.{Acts, acts-is, answers-acts, asks-acts, reads-acts, run-both, taken-both}
use Rattle.ws_node.proofs.Emptying.{empties-acts, empties-stay}
use Rattle.ws_node.proofs.Going.{Stays, going-stays, went-same}
use Rattle.ws_node.proofs.Quiet.{posted-append}
use Rattle.ws_node.proofs.Since.{first-taken, none-taken}
use Rattle.ws_node.proofs.Telling.{last-given, wanting}
use Rattle.ws_node.proofs.Waiting.{the-port}

-- ends that were given nothing more, and look no less often

abbrev pub SameGiven : Option AtEdge → Option AtEdge → Type 0
SameGiven None q = q ≡ None
SameGiven (Some e) None = ⊥
SameGiven (Some e) (Some f) = (given f ≡ given e) × (e.to.looks ≤ f.to.looks)

looks-same : (x : AtEdge) → x.to.looks ≤ x.to.looks
looks-same x = omega arith

given-same : (o q : Option AtEdge) → q ≡ o → SameGiven o q
given-same None q e = e
given-same (Some x) q e = subst (SameGiven (Some x)) (sym e) (refl, looks-same x)

given-of : (o q : Option AtEdge) (e f : AtEdge) → o ≡ Some e → q ≡ Some f → SameGiven (Some e) (Some f) → SameGiven o q
given-of o q e f is now same = subst (λ z. SameGiven z q) (sym is) (subst (λ z. SameGiven (Some e) z) (sym now) same)

grows-none : (heard : List Message) (stopped : Option Why) (o q : Option AtEdge) → heard ≡ [] → SameGiven o q → EndGrowsBy heard stopped o q
grows-none heard stopped None q e g = g
grows-none heard stopped (Some x) None e g = absurd g
grows-none heard stopped (Some x) (Some y) e g = (Whole (g.0 ∙ sym (ap (λ ms. given x ++ ms) e ∙ append-nil (given x))), g.1)

-- so where the host hears of nothing
gives-none : (a b : Node) (entries : List Entry) → taken_events entries a.core.realm.slots ≡ [] → b.core.realm.slots ≡ run entries a.core.realm.slots
    → SameGiven a.entrance.above b.entrance.above → SameGiven a.exit.below b.exit.below → GivesHeard a b
gives-none a b entries deaf slots above below = record {
  entries = entries;
  slots = slots;
  above = grows-none _ b.core.stopped a.entrance.above b.entrance.above (ap (posted_in source_port) deaf) above;
  below = grows-none _ b.core.stopped a.exit.below b.exit.below (ap (posted_in (port_below a.entrance)) deaf) below;
}

pub acts-give : (a b : Node) → Acts a b → GivesHeard a b
acts-give a b f =
    gives-none a b f.entries (f.deaf a.core.realm.slots) f.slots (given-same a.entrance.above b.entrance.above f.above) (given-same a.exit.below b.exit.below f.below)

pub gives-same : (a : Node) → GivesHeard a a
gives-same a = acts-give a a (acts-is a a a refl refl refl refl)

jobs-deaf : (n : ℕ) (s : Slots) → taken_events (jobs_in_a_row n) s ≡ []
jobs-deaf zero s = refl
jobs-deaf (suc n) s = jobs-deaf n (step s Worked)

pub works-give : (a b : Node) → Works a b → GivesHeard a b
works-give a b w =
    gives-none a b (jobs_in_a_row w.jobs) (jobs-deaf w.jobs a.core.realm.slots) (ap (λ (n : Node). n.core.realm.slots) w.is ∙ w.slots)
    (given-same a.entrance.above b.entrance.above (ap (λ (n : Node). n.entrance.above) w.is)) (given-same a.exit.below b.exit.below (ap (λ (n : Node). n.exit.below) w.is))

posts-same : (posted : Bool) (o q : Option AtEdge) → posts_at posted o q → SameGiven o q
posts-same posted None q h = h.0
posts-same posted (Some e) None h = absurd h
posts-same posted (Some e) (Some f) h = (h.given_is, h.looked)

pub posts-give : (posted : Bool) (a b : Node) → PostsBoth posted a b → GivesHeard a b
posts-give posted a b h =
    gives-none a b [] refl (ap (λ (n : Node). n.core.realm.slots) h.is)
    (posts-same h.above a.entrance.above b.entrance.above h.posts_above) (posts-same h.below a.exit.below b.exit.below h.posts_below)

given-is : (e f : AtEdge) → f.to ≡ e.to → f.waiting ≡ e.waiting → SameGiven (Some e) (Some f)
given-is e f to waiting = (
  ap (λ (x : Posted). x.sent ++ f.waiting) to ∙ ap (λ ms. e.to.sent ++ ms) waiting,
  subst (λ (x : Posted). e.to.looks ≤ x.looks) (sym to) (looks-same e),
)

pub takes-above-give : (took : Bool) (a b : Node) → TakesAbove took a b → GivesHeard a b
takes-above-give took a b (NotAbove none held same) = acts-give a b (acts-is a b a same refl refl refl)
takes-above-give took a b (NoMore none broken same) = acts-give a b (acts-is a b a same refl refl refl)
takes-above-give took a b (NoneAbove none going e f there takes same) =
    gives-none a b [] refl (ap (λ (n : Node). n.core.realm.slots) same)
    (given-of a.entrance.above b.entrance.above e f there (ap (λ (n : Node). n.entrance.above) same) (given-is e f takes.to takes.waiting))
    (given-same a.exit.below b.exit.below (ap (λ (n : Node). n.exit.below) same))
takes-above-give took a b (TookAbove some going more m e f there takes brings) =
    let g = asks-acts _ _ b brings in
    gives-none a b g.entries (g.deaf a.core.realm.slots) g.slots
    (given-of a.entrance.above b.entrance.above e f there g.above (given-is e f takes.to takes.waiting))
    (given-same a.exit.below b.exit.below g.below)

pub takes-below-give : (took : Bool) (a b : Node) → TakesBelow took a b → GivesHeard a b
takes-below-give took a b (NotBelow none held same) = acts-give a b (acts-is a b a same refl refl refl)
takes-below-give took a b (NoneBelow none going e f there takes same) =
    gives-none a b [] refl (ap (λ (n : Node). n.core.realm.slots) same)
    (given-same a.entrance.above b.entrance.above (ap (λ (n : Node). n.entrance.above) same))
    (given-of a.exit.below b.exit.below e f there (ap (λ (n : Node). n.exit.below) same) (given-is e f takes.to takes.waiting))
takes-below-give took a b (TookBelow some going m e f there takes asks) =
    let g = asks-acts _ _ b asks in
    gives-none a b g.entries (g.deaf a.core.realm.slots) g.slots
    (given-same a.entrance.above b.entrance.above g.above)
    (given-of a.exit.below b.exit.below e f there g.below (given-is e f takes.to takes.waiting))

-- one after another

given-then : (x y z : AtEdge) (h k : List Message) (s t : Option Why) → s ≡ None → IsGiven (given x ++ h) (given y) s → IsGiven (given y ++ k) (given z) t → IsGiven (given x ++ (h ++ k)) (given z) t
given-then x y z h k s t goes (Whole is) second = subst (λ ms. IsGiven ms (given z) t) (ap (λ ms. ms ++ k) is ∙ append_assoc (given x) h k) second
given-then x y z h k s t goes (FirstPart stopped rest is) second = absurd (cc)
given-then x y z h k s t goes (WithLast stopped first rest is none all) second = absurd (cc)

looks-then : (x y z : ℕ) → x ≤ y → y ≤ z → x ≤ z
looks-then x y z f g = omega (arith, f, g)

grows-then : (h k : List Message) (s t : Option Why) (o q r : Option AtEdge) → s ≡ None → EndGrowsBy h s o q → EndGrowsBy k t q r → EndGrowsBy (h ++ k) t o r
grows-then h k s t None q r goes f g = subst (λ z. EndGrowsBy k t z r) f g
grows-then h k s t (Some x) None r goes f g = absurd f
grows-then h k s t (Some x) (Some y) None goes f g = absurd g
grows-then h k s t (Some x) (Some y) (Some z) goes f g = (given-then x y z h k s t goes f.0 g.0, looks-then x.to.looks y.to.looks z.to.looks f.1 g.1)

heard-both : (port : PortId) (xs ys : List Entry) (s t : Slots) → t ≡ run xs s → posted_in port (taken_events (xs ++ ys) s) ≡ posted_in port (taken_events xs s) ++ posted_in port (taken_events ys t)
heard-both port xs ys s t e =
    ap (posted_in port) (taken-both xs ys s)
    ∙ (posted-append port (taken_events xs s) (taken_events ys (run xs s)) ∙ ap (λ z. posted_in port (taken_events xs s) ++ posted_in port (taken_events ys z)) (sym e))

some-same : (h : List Message) (s : Option Why) (o q : Option AtEdge) → EndGrowsBy h s o q → is_some q ≡ is_some o
some-same h s None q g = ap is_some g
some-same h s (Some x) None g = absurd g
some-same h s (Some x) (Some y) g = refl

-- the port of the edge below, by whether there is one above
abbrev port_by : Bool → PortId
port_by above = if above then record { 0 = 1 } else record { 0 = 0 }

port-stays : (x y : Entrance) (h : List Message) (s : Option Why) → EndGrowsBy h s x.above y.above → port_below y ≡ port_below x
port-stays x y h s g = ap port_by (some-same h s x.above y.above g)

pub gives-then : (a b c : Node) → Stays b c → GivesHeard a b → GivesHeard b c → GivesHeard a c
gives-then a b c stays f g = by b.core.stopped refl where
  go-on : b.core.stopped ≡ None → GivesHeard a c
  go-on goes =
      let up : List Message = posted_in source_port (taken_events f.entries a.core.realm.slots) in
      let down : List Message = posted_in (port_below a.entrance) (taken_events f.entries a.core.realm.slots) in
      let up_then : List Message = posted_in source_port (taken_events g.entries b.core.realm.slots) in
      let down_then : List Message = posted_in (port_below a.entrance) (taken_events g.entries b.core.realm.slots) in
      let port = port-stays a.entrance b.entrance up b.core.stopped f.above in
      let below : EndGrowsBy (posted_in (port_below a.entrance) (taken_events g.entries b.core.realm.slots)) c.core.stopped b.exit.below c.exit.below =
      subst (λ (z : PortId). EndGrowsBy (posted_in z (taken_events g.entries b.core.realm.slots)) c.core.stopped b.exit.below c.exit.below) port g.below in
      record {
        entries = f.entries ++ g.entries;
        slots = g.slots ∙ (ap (run g.entries) f.slots ∙ sym (run-both f.entries g.entries a.core.realm.slots));
        above = subst (λ ms. EndGrowsBy ms c.core.stopped a.entrance.above c.entrance.above) (sym (heard-both source_port f.entries g.entries a.core.realm.slots b.core.realm.slots f.slots))
            (grows-then up up_then b.core.stopped c.core.stopped a.entrance.above b.entrance.above c.entrance.above goes f.above g.above);
        below = subst (λ ms. EndGrowsBy ms c.core.stopped a.exit.below c.exit.below) (sym (heard-both (port_below a.entrance) f.entries g.entries a.core.realm.slots b.core.realm.slots f.slots))
            (grows-then down down_then b.core.stopped c.core.stopped a.exit.below b.exit.below c.exit.below goes f.below below);
      }

  by : (o : Option Why) → b.core.stopped ≡ o → GivesHeard a c
  by None e = go-on e
  by (Some why) e = subst (GivesHeard a) (sym (stays why e)) f

-- The host hears of an event

pub record HearsOf (e : Event) (a b : Node) : Type 0 where
  pub rest : List Entry
  pub slots : b.core.realm.slots ≡ run (Heard ∷ rest) a.core.realm.slots
  pub taken : taken_events (Heard ∷ rest) a.core.realm.slots ≡ e ∷ []
  pub above : EndGrowsBy (posted_in source_port (e ∷ [])) b.core.stopped a.entrance.above b.entrance.above
  pub below : EndGrowsBy (posted_in (port_below a.entrance) (e ∷ [])) b.core.stopped a.exit.below b.exit.below

pub hears-give : (e : Event) (a b : Node) → HearsOf e a b → GivesHeard a b
hears-give e a b h = record {
  entries = Heard ∷ h.rest;
  slots = h.slots;
  above = subst (λ es. EndGrowsBy (posted_in source_port es) b.core.stopped a.entrance.above b.entrance.above) (sym h.taken) h.above;
  below = subst (λ es. EndGrowsBy (posted_in (port_below a.entrance) es) b.core.stopped a.exit.below b.exit.below) (sym h.taken) h.below;
}

-- one that tells of no message
acts-hear : (e : Event) (a : Node) (realm : SeenRealm) (b : Node) → ((port : PortId) → posted_by port e ≡ []) → first_event a.core.realm.slots.promises.events ≡ Some e
    → realm.slots ≡ after_event a.core.realm.slots → Acts (with_realm realm a) b → HearsOf e a b
acts-hear e a realm b none first slots f = record {
  rest = f.entries;
  slots = f.slots ∙ ap (run f.entries) slots;
  taken = ap (λ es. taken_event a.core.realm.slots.promises.events ++ es) (f.deaf (step a.core.realm.slots Heard))
      ∙ (append-nil (taken_event a.core.realm.slots.promises.events) ∙ first-taken a.core.realm.slots.promises.events e first);
  above = grows-none _ b.core.stopped a.entrance.above b.entrance.above (ap (λ ms. ms ++ []) (none source_port)) (given-same a.entrance.above b.entrance.above f.above);
  below = grows-none _ b.core.stopped a.exit.below b.exit.below (ap (λ ms. ms ++ []) (none (port_below a.entrance))) (given-same a.exit.below b.exit.below f.below);
}

-- one that tells of a message

waits-keep : {X : Type 0} (get : Node → X) (m : Message) (put : AtEdge → Node) (a n b : Node) (o : Option AtEdge) → ((e : AtEdge) → get (put e) ≡ get a) → get (stopped_by NoMemory n) ≡ get a
    → WaitsAt m put a n b o → get b ≡ get a
waits-keep get m put a n b o same full (Waiting e there is) = ap get is ∙ same (record e { waiting = e.waiting ++ m ∷ [] })
waits-keep get m put a n b o same full (NoRoom e there is) = ap get is ∙ full
waits-keep get m put a n b o same full (NoEdge none is) = ap get is

grows-one : (m : Message) (stopped : Option Why) (o q : Option AtEdge) (e : AtEdge) → o ≡ Some e → q ≡ Some (record e { waiting = e.waiting ++ m ∷ [] }) → EndGrowsBy (m ∷ []) stopped o q
grows-one m stopped o q e is now =
    subst (λ z. EndGrowsBy (m ∷ []) stopped z q) (sym is)
    (subst (λ z. EndGrowsBy (m ∷ []) stopped (Some e) z) (sym now) (Whole (sym (append_assoc e.to.sent e.waiting (m ∷ []))), looks-same e))

grows-full : (m : Message) (stopped : Option Why) (o q : Option AtEdge) → stopped ≡ Some NoMemory → q ≡ o → EndGrowsBy (m ∷ []) stopped o q
grows-full m stopped None q full same = same
grows-full m stopped (Some e) q full same = subst (λ z. EndGrowsBy (m ∷ []) stopped (Some e) z) (sym same) (FirstPart full (m ∷ []) refl, looks-same e)

waits-grow : (get : Node → Option AtEdge) (m : Message) (put : AtEdge → Node) (a n b : Node) → ((e : AtEdge) → get (put e) ≡ Some e) → get (stopped_by NoMemory n) ≡ get a
    → WaitsAt m put a n b (get a) → EndGrowsBy (m ∷ []) b.core.stopped (get a) (get b)
waits-grow get m put a n b here full (Waiting e there is) = grows-one m b.core.stopped (get a) (get b) e there (ap get is ∙ here (record e { waiting = e.waiting ++ m ∷ [] }))
waits-grow get m put a n b here full (NoRoom e there is) = grows-full m b.core.stopped (get a) (get b) (ap (λ (x : Node). x.core.stopped) is) (ap get is ∙ full)
waits-grow get m put a n b here full (NoEdge none is) =
    subst (λ z. EndGrowsBy (m ∷ []) b.core.stopped z (get b)) (sym none) (ap get is ∙ none)

had-above : (ws : List State) (m : Message) (n : Node) → (had_as ws m n).entrance.above ≡ n.entrance.above
had-above [] m n = same m n.entrance where
  same : (m : Message) (e : Entrance) → (had_entrance m e).above ≡ e.above
  same (Chunk (Bytes piece)) e = refl
  same (Chunk (PlainValue v)) e = refl
  same Pull e = refl
  same Close e = refl
  same (Error r) e = refl
had-above (w ∷ ws) m n = refl

had-below : (ws : List State) (m : Message) (n : Node) → (had_as ws m n).exit.below ≡ n.exit.below
had-below [] m n = refl
had-below (w ∷ ws) m n = refl

had-slots : (ws : List State) (m : Message) (n : Node) → (had_as ws m n).core.realm.slots ≡ n.core.realm.slots
had-slots [] m n = refl
had-slots (w ∷ ws) m n = refl

-- the port of the edge below is another than that of the edge above, where there is one
only-below : (up : Bool) (c : PortId) → is_same_port (port_by up) c ≡ true → up ≡ true → is_same_port source_port c ≡ false
only-below true c e f = ap (is_same_port source_port) (the-port (port_by true) c e)
only-below false c e f = absurd (cc)

grows-elsewhere : (heard : List Message) (stopped : Option Why) (o q : Option AtEdge) → q ≡ o → (is_some o ≡ true → heard ≡ []) → EndGrowsBy heard stopped o q
grows-elsewhere heard stopped None q same none = same
grows-elsewhere heard stopped (Some x) q same none = grows-none heard stopped (Some x) q (none refl) (given-same (Some x) q same)

module _ (c : PortId) (m : Message) (a : Node) (realm : SeenRealm) (b : Node) (first : first_event a.core.realm.slots.promises.events ≡ Some (Post c m)) (slots : realm.slots ≡ after_event a.core.realm.slots) where
  abbrev was : Node
  was = with_realm realm a

  abbrev had : Node
  had = had_as a.core.stages.items m was

  abbrev told : Bool → List Message
  told t = (if t then m ∷ [] else []) ++ []

  heard : b.core.realm.slots ≡ was.core.realm.slots → EndGrowsBy (posted_in source_port (Post c m ∷ [])) b.core.stopped a.entrance.above b.entrance.above
      → EndGrowsBy (posted_in (port_below a.entrance) (Post c m ∷ [])) b.core.stopped a.exit.below b.exit.below → HearsOf (Post c m) a b
  heard same above below = record {
    rest = [];
    slots = same ∙ slots;
    taken = append-nil (taken_event a.core.realm.slots.promises.events) ∙ first-taken a.core.realm.slots.promises.events (Post c m) first;
    above = above;
    below = below;
  }

  waits-at : (t u : Bool) → is_same_port (port_below a.entrance) c ≡ t → is_same_port source_port c ≡ u → waits_by t u m was b → HearsOf (Post c m) a b
  waits-at true u e f h =
      heard (waits-keep (λ (n : Node). n.core.realm.slots) m (λ x. with_below x had) was had b was.exit.below (λ x. had-slots a.core.stages.items m was) (had-slots a.core.stages.items m was) h)
      (grows-elsewhere (posted_in source_port (Post c m ∷ [])) b.core.stopped a.entrance.above b.entrance.above
      (waits-keep (λ (n : Node). n.entrance.above) m (λ x. with_below x had) was had b was.exit.below (λ x. had-above a.core.stages.items m was) (had-above a.core.stages.items m was) h)
      (λ some. ap told (only-below (is_some a.entrance.above) c e some)))
      (subst (λ z. EndGrowsBy (told z) b.core.stopped a.exit.below b.exit.below) (sym e)
      (waits-grow (λ (n : Node). n.exit.below) m (λ x. with_below x had) was had b (λ x. refl) (had-below a.core.stages.items m was) h))
  waits-at false true e f h =
      heard (waits-keep (λ (n : Node). n.core.realm.slots) m (λ x. with_above x was) was was b was.entrance.above (λ x. refl) refl h)
      (subst (λ z. EndGrowsBy (told z) b.core.stopped a.entrance.above b.entrance.above) (sym f)
      (waits-grow (λ (n : Node). n.entrance.above) m (λ x. with_above x was) was was b (λ x. refl) refl h))
      (grows-none _ b.core.stopped a.exit.below b.exit.below (ap told e)
      (given-same a.exit.below b.exit.below (waits-keep (λ (n : Node). n.exit.below) m (λ x. with_above x was) was was b was.entrance.above (λ x. refl) refl h)))
  waits-at false false e f h =
      heard (ap (λ (n : Node). n.core.realm.slots) h)
      (grows-none _ b.core.stopped a.entrance.above b.entrance.above (ap told f) (given-same a.entrance.above b.entrance.above (ap (λ (n : Node). n.entrance.above) h)))
      (grows-none _ b.core.stopped a.exit.below b.exit.below (ap told e) (given-same a.exit.below b.exit.below (ap (λ (n : Node). n.exit.below) h)))

hears-of : (e : Event) (a : Node) (realm : SeenRealm) (b : Node) (old new : Shown) (p q : Got) → first_event a.core.realm.slots.promises.events ≡ Some e
    → realm.slots ≡ after_event a.core.realm.slots → Hears e (with_realm realm a) b old new p q → HearsOf e a b
hears-of (Host id call) a realm b old new p q first slots h = acts-hear (Host id call) a realm b (λ port. refl) first slots (answers-acts id (with_realm realm a) b old new p q call h)
hears-of (Settled r) a realm b old new p q first slots h = acts-hear (Settled r) a realm b (λ port. refl) first slots (acts-is (with_realm realm a) b (with_realm realm a) h.0 refl refl refl)
hears-of (Signal i r) a realm b old new p q first slots h = acts-hear (Signal i r) a realm b (λ port. refl) first slots (acts-is (with_realm realm a) b (with_realm realm a) h.0 refl refl refl)
hears-of (Post c m) a realm b old new p q first slots h =
    waits-at c m a realm b first slots (is_same_port (port_below a.entrance) c) (is_same_port source_port c) refl refl h.0

-- and then reads
reads-stay : (a b : Node) (old new : Option Feed) (before now : ℕ) → Reads a b old new before now → Stays a b
reads-stay a b old new before now (ReadNot none same unread) = λ why e. same
reads-stay a b old new before now (Wanted goes unread id asked same) = going-stays a b goes
reads-stay a b old new before now (ReadOnce goes written whole was_open id asked want most limit piece gives c takes settles_it) = going-stays a b goes

grows-on : (h : List Message) (s t : Option Why) (o q r : Option AtEdge) → s ≡ None → EndGrowsBy h s o q → r ≡ q → EndGrowsBy h t o r
grows-on h s t o q r goes g same =
    subst (λ ms. EndGrowsBy ms t o r) (append-nil h) (grows-then h [] s t o q r goes g (grows-none [] t q r refl (given-same q r same)))

hears-act : (e : Event) (a b c : Node) → Stays b c → HearsOf e a b → Acts b c → HearsOf e a c
hears-act e a b c stays h g = by b.core.stopped refl where
  by : (o : Option Why) → b.core.stopped ≡ o → HearsOf e a c
  by (Some why) f = subst (HearsOf e a) (sym (stays why f)) h
  by None goes = record {
    rest = h.rest ++ g.entries;
    slots = g.slots ∙ (ap (run g.entries) h.slots ∙ sym (run-both (Heard ∷ h.rest) g.entries a.core.realm.slots));
    taken = taken-both (Heard ∷ h.rest) g.entries a.core.realm.slots
        ∙ (ap (λ es. es ++ taken_events g.entries (run (Heard ∷ h.rest) a.core.realm.slots)) h.taken ∙ ap (λ es. e ∷ es) (g.deaf (run (Heard ∷ h.rest) a.core.realm.slots)));
    above = grows-on (posted_in source_port (e ∷ [])) b.core.stopped c.core.stopped a.entrance.above b.entrance.above c.entrance.above goes h.above g.above;
    below = grows-on (posted_in (port_below a.entrance) (e ∷ [])) b.core.stopped c.core.stopped a.exit.below b.exit.below c.exit.below goes h.below g.below;
  }

pub heard-of : (a : Node) (realm : SeenRealm) (b d c : Node) (e : Event) (old new newer : Shown) (p q r : Got) (feed feed' : Option Feed) (before now : ℕ)
    → first_event a.core.realm.slots.promises.events ≡ Some e → realm.slots ≡ after_event a.core.realm.slots → Hears e (with_realm realm a) b old new p q
    → Empties b d new newer q r → Reads d c feed feed' before now → HearsOf e a c
heard-of a realm b d c e old new newer p q r feed feed' before now first slots hears empties reads =
    hears-act e a d c (reads-stay d c feed feed' before now reads)
    (hears-act e a b d (empties-stay b d new newer q r empties) (hears-of e a realm b old new p q first slots hears) (empties-acts b d new newer q r empties))
    (reads-acts d c feed feed' before now reads)

-- there was none
pub none-gives : (a : Node) (realm : SeenRealm) → first_event a.core.realm.slots.promises.events ≡ None → realm.slots ≡ after_event a.core.realm.slots → GivesHeard a (with_realm realm a)
none-gives a realm first slots =
    gives-none a (with_realm realm a) (Heard ∷ []) (append-nil (taken_event a.core.realm.slots.promises.events) ∙ none-taken a.core.realm.slots.promises.events first) slots
    (given-same a.entrance.above a.entrance.above refl) (given-same a.exit.below a.exit.below refl)

-- The node tells its neighbours

tell-grow : (heard : List Message) (stopped : Option Why) (o q m r : Option AtEdge) → stopped ≡ Some NoMemory → EndGrowsBy heard stopped o q → tells_at q m → SameGiven m r → EndGrowsBy heard stopped o r
tell-grow heard stopped None q m r full g t k = subst (λ z. SameGiven z r) (subst (λ z. tells_at z m) g t) k
tell-grow heard stopped (Some x) None m r full g t k = absurd g
tell-grow heard stopped (Some x) (Some y) m r full g t k = by r (subst (λ z. SameGiven z r) t k) where
  by : (z : Option AtEdge) → SameGiven (Some (record y { waiting = y.waiting ++ last_error wanting y })) z → EndGrowsBy heard stopped (Some x) z
  by None h = absurd h
  by (Some z) h = (
    subst (λ s. IsGiven (given x ++ heard) (given z) s) (sym full)
        (subst (λ ms. IsGiven (given x ++ heard) ms (Some NoMemory)) (append_assoc y.to.sent y.waiting (last_error wanting y) ∙ sym h.0)
        (last-given (given x ++ heard) (given y) (has_end (given y)) refl (subst (λ s. IsGiven (given x ++ heard) (given y) s) full g.0))),
    looks-then x.to.looks y.to.looks z.to.looks g.1 h.1,
  )

pub tells-give : (a d c : Node) → d.core.stopped ≡ Some NoMemory → GivesHeard a d → TellsBoth d c → GivesHeard a c
tells-give a d c full g h =
    let stopped : c.core.stopped ≡ d.core.stopped = ap (λ (n : Node). n.core.stopped) h.posts.is ∙ ap (λ (n : Node). n.core.stopped) h.is in
    record {
      entries = g.entries;
      slots = ap (λ (n : Node). n.core.realm.slots) h.posts.is ∙ (ap (λ (n : Node). n.core.realm.slots) h.is ∙ g.slots);
      above = subst (λ s. EndGrowsBy (posted_in source_port (taken_events g.entries a.core.realm.slots)) s a.entrance.above c.entrance.above) (sym stopped)
          (tell-grow (posted_in source_port (taken_events g.entries a.core.realm.slots)) d.core.stopped a.entrance.above d.entrance.above h.mid.entrance.above c.entrance.above full g.above h.tells_above
          (posts-same h.posts.above h.mid.entrance.above c.entrance.above h.posts.posts_above));
      below = subst (λ s. EndGrowsBy (posted_in (port_below a.entrance) (taken_events g.entries a.core.realm.slots)) s a.exit.below c.exit.below) (sym stopped)
          (tell-grow (posted_in (port_below a.entrance) (taken_events g.entries a.core.realm.slots)) d.core.stopped a.exit.below d.exit.below h.mid.exit.below c.exit.below full g.below h.tells_below
          (posts-same h.posts.below h.mid.exit.below c.exit.below h.posts.posts_below));
    }

-- What was posted, and what waits then

none-left : (xs ys : List Message) → xs ++ ys ≡ [] → ys ≡ []
none-left [] ys e = e
none-left (x ∷ xs) ys e = absurd (cc)

neither : (x y : Bool) → (x || y) ≡ false → y ≡ false
neither false y e = e
neither true y e = absurd (cc)

same-rest : (x y : Message) (xs ys : List Message) → x ∷ xs ≡ y ∷ ys → xs ≡ ys
same-rest x y xs ys e = cc

-- what was given before is left out on both sides
given-behind : (before posted given : List Message) (stopped : Option Why) → IsGiven (before ++ posted) (before ++ given) stopped → IsGiven posted given stopped
given-behind [] posted given stopped h = h
given-behind (m ∷ ms) posted given stopped (Whole is) = given-behind ms posted given stopped (Whole (same-rest m m (ms ++ given) (ms ++ posted) is))
given-behind (m ∷ ms) posted given stopped (FirstPart full rest is) =
    given-behind ms posted given stopped (FirstPart full rest (same-rest m m (ms ++ posted) ((ms ++ given) ++ rest) is))
given-behind (m ∷ ms) posted given stopped (WithLast full [] rest is none all) =
    FirstPart full posted (sym (ap (λ xs. xs ++ posted) (none-left ms given (same-rest m (Error wanting) (ms ++ given) [] all))))
given-behind (m ∷ ms) posted given stopped (WithLast full (x ∷ first) rest is none all) =
    given-behind ms posted given stopped
    (WithLast full first rest (same-rest m x (ms ++ posted) (first ++ rest) is) (neither (is_end x) (has_end first) none) (same-rest m x (ms ++ given) (first ++ Error wanting ∷ []) all))

-- so much more was posted at an end
record PostsMore (o q : Option AtEdge) : Type 0 where
  posted : List Message
  sent : sent_at q ≡ sent_at o ++ posted

same-end : (o q : Option AtEdge) → q ≡ o → PostsMore o q
same-end o q e = record { posted = []; sent = ap sent_at e ∙ sym (append-nil (sent_at o)) }

posts-up : (a b : Node) (m n : Moment) (p q : Got) → Went a b m n p q → PostsMore a.entrance.above b.entrance.above
posts-up a b m n p q w = by w.from where
  by : ComesIn a.entrance b.entrance m n w.read → PostsMore a.entrance.above b.entrance.above
  by (ByInput e on) = same-end a.entrance.above b.entrance.above on.above
  by (ByEdge e on) = record { posted = on.posted; sent = on.end.sent }

posts-down : (a b : Node) (m n : Moment) (p q : Got) → Went a b m n p q → PostsMore a.exit.below b.exit.below
posts-down a b m n p q w = by w.into where
  by : GoesOut a.exit b.exit m n p q w.went w.gain w.out → PostsMore a.exit.below b.exit.below
  by (ToOutput e on) = same-end a.exit.below b.exit.below on.below
  by (ToEdge e on) = record { posted = on.posted; sent = on.end.sent }

ends-post : (heard : List Message) (stopped : Option Why) (o q : Option AtEdge) → PostsMore o q → EndGrowsBy heard stopped o q → EndPostsAt heard stopped o q
ends-post heard stopped None q more g = g
ends-post heard stopped (Some x) None more g = absurd g
ends-post heard stopped (Some x) (Some y) more g = record {
  posted = more.posted;
  sent = more.sent;
  given = given-behind x.to.sent (x.waiting ++ heard) (more.posted ++ y.waiting) stopped
      (subst (λ ms. IsGiven ms (x.to.sent ++ (more.posted ++ y.waiting)) stopped) (append_assoc x.to.sent x.waiting heard)
      (subst (λ ms. IsGiven (given x ++ heard) ms stopped) (ap (λ ms. ms ++ y.waiting) more.sent ∙ append_assoc x.to.sent more.posted y.waiting) g.0));
}

pub gives-post : (a b : Node) (m n : Moment) (p q : Got) → Went a b m n p q → GivesHeard a b → PostsHeard a b
gives-post a b m n p q w g = record {
  entries = g.entries;
  slots = ap trim g.slots;
  above = ends-post (posted_in source_port (taken_events g.entries a.core.realm.slots)) b.core.stopped a.entrance.above b.entrance.above (posts-up a b m n p q w) g.above;
  below = ends-post (posted_in (port_below a.entrance) (taken_events g.entries a.core.realm.slots)) b.core.stopped a.exit.below b.exit.below (posts-down a b m n p q w) g.below;
}

pub posts-nothing : (a : Node) → PostsHeard a a
posts-nothing a = let p : Got = straight (λ xs. Unit {0}) in gives-post a a (moment 0 None 0 None) (moment 0 None 0 None) p p (went-same a (moment 0 None 0 None) p) (gives-same a)
