-- A node hears of an event.
use Rattle.std.proofs.Common.{◌≡◌, ◌<◌, ◌≤◌, ℕ, suc, nat_eq, Bool, true, false, List, [], ◌∷◌, ◌++◌, length, Option, Some, None, refl, sym, ap, ◌∙◌, subst, arith}
use Rattle.std.specs.Prelude.{All, if◌then◌else◌}
use Rattle.ws_joined_laws.specs.Condition.{AreInRange}
use Rattle.ws_joined_laws.specs.Lengths.{AreBelow, AreBounds}
use Rattle.ws_joined_laws.proofs.Lengths.{below-at, fed-bounds, held-below, may-be-pushed}
use Rattle.ws_node.specs.Hears.{Hears, MayHear}
use Rattle.ws_node.specs.declared.node.Exit.{Exit}
use Rattle.ws_node.specs.declared.node.Output.{Output}
use Rattle.ws_node.specs.declared.node.Output.TheVariants as output
use Rattle.ws_node.proofs.Quiet.{IsNoPost}
use Rattle.std.proofs.lemmas.List.{length-map}
use Rattle.std.proofs.lemmas.List.Elements.{All-head, All-tail}
use Rattle.ws_value.specs.declared.ids.HostId.{HostId}
use Rattle.ws_value.specs.declared.ids.StreamId.{StreamId}
use Rattle.ws_value.specs.declared.value.Plain.{Plain}
use Rattle.ws_value.specs.declared.value.Value.{Value}
use Rattle.ws_value.specs.declared.value.Value.TheVariants.{Bytes, Plain as PlainValue}
use Rattle.ws_node.specs.Shape.{Shape, count_in, hears_in}
use Rattle.ws_flow.specs.Steps.{parts_at}
use Rattle.ws_flow.specs.Told.{Open, Told, told, then_told, IsShortOf}
use Rattle.ws_flow.proofs.Told.{before_front, before_of_short, short_right}
use Rattle.ws_io.specs.Gain.{Got}
use Rattle.ws_io.specs.Feed.{Feed}
use Rattle.ws_io.specs.Moment.{Moment}
use Rattle.ws_io.proofs.Flow.{Gains-nothing}
use Rattle.ws_laws.proofs.Tables.{eq_numbers, is_same-refl}
use Rattle.ws_stages.specs.State.{State, IsLive, kept_in}
use Rattle.ws_steps.specs.declared.calls.Event.{Event}
use Rattle.ws_steps.specs.declared.calls.Event.TheVariants.{Host, Settled, Signal, Post}
use Rattle.ws_steps.specs.declared.calls.HostCall.{HostCall}
use Rattle.ws_steps.specs.declared.calls.HostCall.TheVariants.{Start, Pull, Cancel, Write, Close, Abort, Transform, Flush, CancelTransform}
use Rattle.ws_steps.specs.Histories.{is_same}
use Rattle.ws_steps.specs.Run.{Entry, Heard, first_event, after_event}
use Rattle.ws_chain_laws.specs.Chain.{Target, ToSink, ToPort, source_of, dest_of, transform_of, behind_at, last_ear, ear_of}
use Rattle.ws_chain_laws.proofs.Nodes.{each_event_is_heard_at_one_link}
use Rattle.ws_link_laws.specs.Link.{OfTransform, silence, is_sink as hears_sink, is_half}
use Rattle.ws_realm.specs.Seen.{SeenRealm}
use Rattle.ws_realm.specs.declared.realm.Why.{Why}
use Rattle.ws_node.specs.declared.node.Node.{Node}
use Rattle.ws_node.specs.Moves.{Answers, IsAt, MayAnswer, Settles, Shown, Untouched, finishes_by, is_sink, sink_by, with_realm, writes_by}
use Rattle.ws_node.specs.Node.{coming, feeds_edge, held, in_bytes, is_edge, lies_in, lying_by, nothing_yet, parts}
use Rattle.ws_node.specs.Past.{ArePushed, FeedsAs, HasOne, OneAtMost, Since, most_of_piece}
use Rattle.ws_node.proofs.Answering.{closed, noted, pulled, settled, wrote}
use Rattle.ws_node.proofs.Bytes.{in_bytes-short, one-short}
use Rattle.ws_node.proofs.Going.{going-stays, went-rests}
use Rattle.ws_node.proofs.Handled.{Handled, shows}
use Rattle.ws_node.proofs.Handing.{heard-lies, lies_to, one-heard, one-quiet}
use Rattle.ws_node.proofs.Pushing.{flushes, transforms}
use Rattle.ws_node.proofs.Since.{AfterEvent, since-hears, since-hears-none}
use Rattle.ws_node.proofs.Sinking.{to-sink}
use Rattle.ws_node.proofs.Waiting.{waits}
use Rattle.ws_node.proofs.Staged.{count-is, live-is, works, works-are}
use Rattle.ws_node.proofs.Unheard.{at-there}

-- What is asked can be done

among : (P : State → Type 0) (before after : List State) (w : State) → All P (before ++ w ∷ after) → P w
among P [] after w h = All-head P w after h
among P (u ∷ before) after w h = among P before after w (All-tail P u (before ++ w ∷ after) h)

module _ (shape : Shape) (past : List Entry) (a : Node) (realm : SeenRealm) (since : Since shape past a) (goes : a.core.stopped ≡ None) (id : HostId) where
  heard-stage : (i : StreamId) (before after : List State) (w : State) (v : Value) → IsAt i a.core.stages.items before w after
      → hears_in shape (length before) (Host id (Transform i v)) ≡ told (v ∷ []) Open
  heard-stage i before after w v at =
      let e = count-is shape a before after w goes since.led.is_of.stages at.whole in
      let j = length before in
      subst (λ (s : StreamId). hears_in shape j (Host id (Transform s v)) ≡ told (v ∷ []) Open) (sym at.place)
      ((each_event_is_heard_at_one_link shape.origin shape.target (count_in shape) j (omega arith)).transform id j v (omega arith) ∙ at-there j (told (v ∷ []) Open))

  -- how long a chunk may be that came in, and one that lies in the node then
  in-bounds : AreBounds (most_of_piece a.entrance.input) 4294967296
  in-bounds = by (is_edge a.entrance.input) where
    by : (t : Bool) → AreBounds (if t then 33554431 else 4096) 4294967296
    by true = fed-bounds
    by false = record { came = omega arith; cut = omega arith }

  in-range : AreInRange shape.stages
  in-range = let fit = since.led.is_of.fit in record { few = fit.few; range = fit.range; hex = fit.hex }

  -- a chunk that comes to a stage which may be asked is below 2^32 bytes
  stage-short : (i : StreamId) (piece : List ℕ) (before after : List State) (w : State) → IsAt i a.core.stages.items before w after → IsLive w.work
      → AfterEvent shape past a realm (Host id (Transform i (Bytes piece))) → length piece < 4294967296
  stage-short i piece before after w at live event =
      let j = length before in
      let n = count_in shape in
      let e = count-is shape a before after w goes since.led.is_of.stages at.whole in
      let fed = since.fed in
      let short : AreBelow 4294967296 (parts a) =
      (held-below (most_of_piece a.entrance.input) 4294967296 shape.stages fed.came (parts a) fed.went (held a) in-bounds in-range fed.short fed.flows).before_stages in
      let here = works-are shape a before after w goes since.led.is_of.stages at.whole ∙ ap (λ q. works before ++ q ∷ works after) (live-is w.work live) in
      let P : List ℕ → Type 0 = λ c. length c < 4294967296 in
      let all : All P (lies_in a j).items = below-at 4294967296 0 (works before) (kept_in w.work) (works after) (lies_in a) j
      (subst (λ ws. AreBelow 4294967296 (parts_at 0 ws (lies_in a))) here short)
      (let f = length-map before (λ (u : State). u.work) in omega arith) in
      let lay : IsShortOf (then_told (told (piece ∷ []) Open) (lies_to (coming a j) (with_realm realm a) j)) (lies_in a j) =
      subst (λ (t : Told Value). IsShortOf (then_told (in_bytes t) (lies_to (coming a j) (with_realm realm a) j)) (lies_in a j)) (heard-stage i before after w (Bytes piece) at)
      (heard-lies shape past a realm (Host id (Transform i (Bytes piece))) event goes (coming a j) j (omega arith)) in
      let first = before_front (then_told (told (piece ∷ []) Open) (lies_to (coming a j) (with_realm realm a) j)) (lies_in a j) (before_of_short _ _ lay) in
      All-head P piece ((lies_to (coming a j) (with_realm realm a) j).items ++ first.0) (subst (All P) first.1 all)

  may-answer-it : (call : HostCall) → AfterEvent shape past a realm (Host id call) → MayAnswer (with_realm realm a) call
  may-answer-it call event i piece is before after w at live =
      let some = among (λ u. u.pushes < a.core.realm.slots.age) before after w (subst (All (λ u. u.pushes < a.core.realm.slots.age)) at.whole (since.pushes goes)) in
      let old = since.led.age in
      record {
        count = omega arith;
        length_fits = may-be-pushed w.stage (length piece) (stage-short i piece before after w at live (subst (λ (c : HostCall). AfterEvent shape past a realm (Host id c)) is event));
      }

-- what it asks can be done
pub may-hear : (shape : Shape) (past : List Entry) (a : Node) (realm : SeenRealm) (e : Event) → Since shape past a → a.core.stopped ≡ None → first_event a.core.realm.slots.promises.events ≡ Some e
    → realm.slots ≡ after_event a.core.realm.slots → MayHear (with_realm realm a) e
may-hear shape past a realm e since goes first slots id call is =
    may-answer-it shape past a realm since goes id call (subst (λ (x : Event). AfterEvent shape past a realm x) is (since-hears shape past a realm e since.led goes first slots))

-- What is asked is done

-- a value that isn't bytes
plain-bytes : (v : Plain) (b : Bool) → in_bytes (if b then told (PlainValue v ∷ []) Open else silence) ≡ nothing_yet
plain-bytes v true = refl
plain-bytes v false = refl

plain-one : (n : ℕ) (v : Plain) (b : Bool) (x y : Told Value) → IsShortOf (then_told (if b then told (PlainValue v ∷ []) Open else silence) x) y → OneAtMost n y.items → OneAtMost n x.items
plain-one n v true x y h o = absurd ((one-heard n (PlainValue v) x y h o).1)
plain-one n v false x y h o = one-short n x y h o

-- which stream is the sink

-- a node that feeds an edge has none
data IsNoSink (target : Target) (exit : Exit) (i : StreamId) : Type 0 where
  ToAnEdge : target ≡ ToPort → IsNoSink target exit i
  OtherStream : is_same exit.sink i ≡ false → IsNoSink target exit i

is-sink : (x : Exit) (i : StreamId) → is_sink x i ≡ true → (feeds_edge x.output ≡ false) × (is_same x.sink i ≡ true)
is-sink x i e = by x.output e where
  by : (o : Output) → sink_by o (is_same x.sink i) ≡ true → (feeds_edge o ≡ false) × (is_same x.sink i ≡ true)
  by output.Open e = (refl, e)
  by output.Finished e = (refl, e)
  by output.Failed e = (refl, e)
  by output.Aborted e = (refl, e)
  by output.Edge e = absurd (cc)

no-sink : (target : Target) (x : Exit) (i : StreamId) → FeedsAs target x → is_sink x i ≡ false → IsNoSink target x i
no-sink ToPort x i h e = ToAnEdge refl
no-sink ToSink x i h e = OtherStream (by x.output h.0 e) where
  by : (o : Output) → feeds_edge o ≡ false → sink_by o (is_same x.sink i) ≡ false → is_same x.sink i ≡ false
  by output.Open writes e = e
  by output.Finished writes e = e
  by output.Failed writes e = e
  by output.Aborted writes e = e
  by output.Edge writes e = absurd (cc)

the-sink : (s i : StreamId) → is_same s i ≡ true → i ≡ s
the-sink s i e = ap (λ (x : ℕ). let j : StreamId = record { 0 = x } in j) (sym (eq_numbers s.0 i.0 e))

not-the-sink : (s i : StreamId) → is_same s i ≡ false → Close i ≡ Close s → ⊥
not-the-sink s i e f = let g : i ≡ s = grind arith in absurd (let h : is_same i i ≡ false = subst (λ z. is_same z i ≡ false) (sym g) e in let k = is_same-refl i in cc)

module _ (shape : Shape) (k : ℕ) (id : HostId) (i : StreamId) (x : Exit) (sink : x.sink ≡ dest_of (count_in shape)) (other : IsNoSink shape.target x i) where
  abbrev n : ℕ
  n = count_in shape

  ear-other : hears_sink (ear_of shape.origin shape.target n k) i ≡ false
  ear-other = by shape.target (nat_eq k n) refl other where
    by : (t : Target) (b : Bool) → nat_eq k n ≡ b → IsNoSink t x i
        → hears_sink (if b then last_ear shape.origin t (dest_of k) else OfTransform (transform_of k) (source_of (suc k))) i ≡ false
    by ToSink true e (OtherStream not_edge) = subst (λ (j : ℕ). is_same (dest_of j) i ≡ false) (sym (eq_numbers k n e)) (subst (λ (s : StreamId). is_same s i ≡ false) sink not_edge)
    by ToSink true e (ToAnEdge f) = absurd (cc)
    by ToPort true e not_edge = refl
    by t false e not_edge = refl

  no-write : (v : Value) → hears_in shape k (Host id (Write i v)) ≡ silence
  no-write v = rw ear-other refl

  no-close : hears_in shape k (Host id (Close i)) ≡ silence
  no-close = rw ear-other refl

module _ (rf : ℕ) (feed : Option Feed) (p q : Got) (shape : Shape) (past : List Entry) (a : Node) (realm : SeenRealm) (b : Node) (old new : Shown) (since : Since shape past a)
    (goes : a.core.stopped ≡ None) where
  abbrev was : Node
  was = with_realm realm a

  abbrev Done : Type 0
  Done = Handled shape a b (shows rf feed old) (shows rf feed new) p q

  one-was : (e : Event) → AfterEvent shape past a realm e → hears_in shape 0 e ≡ silence → HasOne was
  one-was e event quiet fed h = one-quiet a.entrance.ahead (hears_in shape 0 e) (behind_at 0 realm.slots) (behind_at 0 a.core.realm.slots) quiet (event.short 0 (omega arith)) (since.one fed h)

  -- of the node it tells nothing
  told-only : (id : HostId) (e : Event) → IsNoPost e → AfterEvent shape past a realm e → ((k : ℕ) → k ≤ count_in shape → hears_in shape k e ≡ silence) → b ≡ was → Untouched old new p q → Done
  told-only id e not_edge event quiet same untouched =
      noted rf feed p q shape past a realm id b old new since goes e event not_edge (λ k less. ap in_bytes (quiet k less)) (one-was e event (quiet 0 (omega arith))) same untouched

  module _ (id : HostId) (call : HostCall) (event : AfterEvent shape past a realm (Host id call)) where
    at-once : ((k : ℕ) → k ≤ count_in shape → hears_in shape k (Host id call) ≡ silence) → (call ≡ Close a.exit.sink → feeds_edge a.exit.output ≡ false → ⊥) → ((s : StreamId) → call ≡ Flush s → ⊥) → Settles id was b old new p q → Done
    at-once quiet other flush h =
        settled rf feed p q shape past a realm id b old new since goes (Host id call) event tt (λ k less. ap in_bytes (quiet k less)) (one-was (Host id call) event (quiet 0 (omega arith))) call refl other flush h

    pull-waits : (i : StreamId) → call ≡ Pull i → ((k : ℕ) → k ≤ count_in shape → hears_in shape k (Host id call) ≡ silence) → b ≡ record was { entrance = record was.entrance { asked = Some id } } → Untouched old new p q → Done
    pull-waits i is quiet same untouched =
        pulled rf feed p q shape past a realm id b old new since goes (Host id call) event tt (λ k less. ap in_bytes (quiet k less)) (one-was (Host id call) event (quiet 0 (omega arith))) i
        (ap (λ (c : HostCall). let e : Event = Host id c in e) is) same untouched

  -- of a value that isn't bytes
  module _ (id : HostId) (i : StreamId) (v : Plain) where
    plain-written : AfterEvent shape past a realm (Host id (Write i (PlainValue v))) → Settles id was b old new p q → Done
    plain-written event h =
        settled rf feed p q shape past a realm id b old new since goes (Host id (Write i (PlainValue v))) event tt (λ k less. plain-bytes v (hears_sink (ear_of shape.origin shape.target (count_in shape) k) i))
        (λ fed o. plain-one a.entrance.ahead v (hears_sink (ear_of shape.origin shape.target (count_in shape) 0) i) (behind_at 0 realm.slots) (behind_at 0 a.core.realm.slots) (event.short 0 (omega arith)) (since.one fed o))
        (Write i (PlainValue v)) refl (λ f feeds. cc) (λ s f. cc) h

    plain-transformed : AfterEvent shape past a realm (Host id (Transform i (PlainValue v))) → Settles id was b old new p q → Done
    plain-transformed event h =
        settled rf feed p q shape past a realm id b old new since goes (Host id (Transform i (PlainValue v))) event tt (λ k less. plain-bytes v (is_half (ear_of shape.origin shape.target (count_in shape) k) i))
        (λ fed o. plain-one a.entrance.ahead v (is_half (ear_of shape.origin shape.target (count_in shape) 0) i) (behind_at 0 realm.slots) (behind_at 0 a.core.realm.slots) (event.short 0 (omega arith)) (since.one fed o))
        (Transform i (PlainValue v)) refl (λ f feeds. cc) (λ s f. cc) h

  other-sink : (i : StreamId) → is_sink a.exit i ≡ false → IsNoSink shape.target a.exit i
  other-sink i e = no-sink shape.target a.exit i since.led.is_of.into e

  written-by : (id : HostId) (i : StreamId) (v : Value) (t : Bool) → is_sink a.exit i ≡ t → AfterEvent shape past a realm (Host id (Write i v)) → writes_by id v was b old new p q t → Done
  written-by id i (Bytes piece) true e event w =
      let sink = is-sink a.exit i e in
      wrote rf feed p q shape past a realm id b old new since goes sink.0 (count_in shape) refl piece
      (subst (λ (s : StreamId). AfterEvent shape past a realm (Host id (Write s (Bytes piece)))) (the-sink a.exit.sink i sink.1) event) w
  written-by id i (Bytes piece) false e event w =
      at-once id (Write i (Bytes piece)) event (λ k less. no-write shape k id i a.exit since.led.is_of.sink (other-sink i e) (Bytes piece)) (λ f feeds. cc) (λ s f. cc) w
  written-by id i (PlainValue v) true e event w = plain-written id i v event w
  written-by id i (PlainValue v) false e event w = plain-written id i v event w

  -- a close that nothing is told of is settled well
  other-close : (i : StreamId) → IsNoSink shape.target a.exit i → Close i ≡ Close a.exit.sink → feeds_edge a.exit.output ≡ false → ⊥
  other-close i (OtherStream other) e feeds = not-the-sink a.exit.sink i other e
  other-close i (ToAnEdge port) e feeds = let f : ToPort ≡ ToSink = sym port ∙ (to-sink shape.target a.exit since.led.is_of.into feeds).0 in absurd (cc)

  closed-by : (id : HostId) (i : StreamId) (t : Bool) → is_sink a.exit i ≡ t → AfterEvent shape past a realm (Host id (Close i)) → finishes_by id was b old new p q t → Done
  closed-by id i true e event f =
      let sink = is-sink a.exit i e in
      closed rf feed p q shape past a realm id b old new since goes sink.0 (count_in shape) refl
      (subst (λ (s : StreamId). AfterEvent shape past a realm (Host id (Close s))) (the-sink a.exit.sink i sink.1) event) f
  closed-by id i false e event f =
      let other = other-sink i e in
      at-once id (Close i) event (λ k less. no-close shape k id i a.exit since.led.is_of.sink other) (λ g feeds. other-close i other g feeds) (λ s g. cc) f

  answered : (id : HostId) (call : HostCall) → AfterEvent shape past a realm (Host id call) → Answers id call was b old new p q → Done
  answered id (Start i) event h = at-once id (Start i) event (λ k less. refl) (λ f feeds. cc) (λ s f. cc) h
  answered id (Pull i) event h = pull-waits id (Pull i) event i refl (λ k less. refl) h.0 h.1
  answered id (Cancel i r) event h = at-once id (Cancel i r) event (λ k less. refl) (λ f feeds. cc) (λ s f. cc) h
  answered id (Write i v) event h = written-by id i v (is_sink a.exit i) refl event h
  answered id (Close i) event h = closed-by id i (is_sink a.exit i) refl event h
  answered id (Abort i r) event h = at-once id (Abort i r) event (λ k less. refl) (λ f feeds. cc) (λ s f. cc) h
  answered id (Transform i (Bytes piece)) event h = rw h.1.shown (transforms shape past a realm id i b (shows rf feed old) p q h.1.gained since goes piece event h.0)
  answered id (Transform i (PlainValue v)) event h = plain-transformed id i v event h
  answered id (Flush i) event h = rw h.1.shown (flushes shape past a realm id i b (shows rf feed old) p q h.1.gained since goes event h.0)
  answered id (CancelTransform i r) event h = at-once id (CancelTransform i r) event (λ k less. refl) (λ f feeds. cc) (λ s f. cc) h

  heard-of : (e : Event) → AfterEvent shape past a realm e → Hears e was b old new p q → Done
  heard-of (Host id call) event h = answered id call event h
  heard-of (Settled d) event h = told-only (record { 0 = 0 }) (Settled d) tt event (λ k less. refl) h.0 h.1
  heard-of (Signal i r) event h = told-only (record { 0 = 0 }) (Signal i r) tt event (λ k less. refl) h.0 h.1
  heard-of (Post c m) event h = rw h.1.shown (waits shape past a realm b c m (shows rf feed old) p q h.1.gained since goes event h.0)

pub hears : (rf : ℕ) (feed : Option Feed) (p q : Got) (shape : Shape) (past : List Entry) (a : Node) (realm : SeenRealm) (e : Event) (b : Node) (old new : Shown)
    → Since shape past a → a.core.stopped ≡ None → first_event a.core.realm.slots.promises.events ≡ Some e → realm.slots ≡ after_event a.core.realm.slots
    → Hears e (with_realm realm a) b old new p q → Handled shape a b (shows rf feed old) (shows rf feed new) p q
hears rf feed p q shape past a realm e b old new since goes first slots h =
    heard-of rf feed p q shape past a realm b old new since goes e (since-hears shape past a realm e since.led goes first slots) h

-- a node whose host has heard of everything

stopped-same : (stopped : Option Why) (x y t : Told (List ℕ)) → IsShortOf x y → IsShortOf (lying_by stopped (then_told x t)) (lying_by stopped (then_told y t))
stopped-same None x y t h = short_right x y t h
stopped-same (Some why) x y t h = ([], refl)

pub hears-none : (shape : Shape) (past : List Entry) (a : Node) (realm : SeenRealm) (m : Moment) (p : Got) → Since shape past a → a.core.stopped ≡ None
    → first_event a.core.realm.slots.promises.events ≡ None → realm.slots ≡ after_event a.core.realm.slots → Handled shape a (with_realm realm a) m m p p
hears-none shape past a realm m p since goes first slots =
    let after = since-hears-none shape past a realm since.led first slots in
    record {
      past = past ++ Heard ∷ [];
      led = after.led;
      pushes = λ h. subst (λ (n : ℕ). ArePushed n a.core.stages.items) (sym after.age) (since.pushes h);
      one = λ fed h. one-short a.entrance.ahead (behind_at 0 realm.slots) (behind_at 0 a.core.realm.slots) (after.short 0 (omega arith)) (since.one fed h);
      ends = after.ends since.ends;
      went = went-rests shape a (with_realm realm a) m p p (Gains-nothing p) (going-stays a (with_realm realm a) goes) since.led.is_of.stages (record { realm = realm; stopped = a.core.stopped; is = refl })
          (λ k less. stopped-same a.core.stopped (in_bytes (behind_at k realm.slots)) (in_bytes (behind_at k a.core.realm.slots)) (coming a k) (in_bytes-short _ _ (after.short k less)));
    }
