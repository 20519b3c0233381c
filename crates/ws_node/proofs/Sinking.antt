-- What lies before the sink goes out, and the node goes on so.
use Rattle.std.proofs.Common.{◌≡◌, ◌≢◌, ◌+◌, ◌<◌, ◌≤◌, ◌==◌, ℕ, zero, suc, true, false, List, [], ◌∷◌, ◌++◌, length, Option, Some, None, refl, sym, ap, ◌∙◌, subst, arith}
use Rattle.std.specs.Prelude.{option_map, All}
use Rattle.std.proofs.lemmas.List.{length-map}
use Rattle.std.proofs.lemmas.List.Elements.{All-head, All-tail}
use Rattle.ws_value.specs.declared.ids.HostId.{HostId}
use Rattle.ws_value.specs.declared.value.Value.{Value}
use Rattle.ws_node.specs.Shape.{Shape, count_in, hears_in}
use Rattle.ws_flow.specs.Parts.{AtWork, Goes}
use Rattle.ws_flow.specs.Steps.{parts_at, behind_of}
use Rattle.ws_flow.specs.Stages.{machines}
use Rattle.ws_flow.specs.Told.{bytes_of, Mark, Open as MayCome, Told, told, then_told, IsShortOf}
use Rattle.ws_flow.proofs.Steps.{goes_out}
use Rattle.ws_flow.proofs.Told.{short_trans, short_left, then_empty}
use Rattle.ws_io.specs.Feed.{Feed}
use Rattle.ws_io.specs.Gain.{Gains, Got, IsEmptied}
use Rattle.ws_io.specs.Moment.{Moment}
use Rattle.ws_stages.specs.State.{State}
use Rattle.ws_steps.specs.declared.calls.Event.TheVariants.{Host}
use Rattle.ws_steps.specs.declared.calls.HostCall.{HostCall}
use Rattle.ws_steps.specs.Run.{Entry, Heard}
use Rattle.ws_chain_laws.specs.Chain.{Target, ToSink, ToPort, behind_at}
use Rattle.ws_chain_laws.specs.Nodes.{only_at}
use Rattle.ws_realm.specs.Seen.{SeenRealm}
use Rattle.ws_node.specs.declared.node.Abort.{Abort}
use Rattle.ws_node.specs.declared.node.Exit.{Exit}
use Rattle.ws_node.specs.declared.node.Node.{Node}
use Rattle.ws_node.specs.declared.node.Output.{Output}
use Rattle.ws_node.specs.declared.node.Output.TheVariants as output
use Rattle.ws_node.specs.Moves.{with_realm, Shown, shut, nearer, written}
use Rattle.ws_node.specs.Node.{coming, feeds_edge, held, in_bytes, is_edge, is_reached, lies_in, lying, nothing_yet, parts, stages_in, works_in}
use Rattle.ws_node.specs.Past.{FeedsAs, OneAtMost, ArePushed, HasOne, Since, most_of_piece}
use Rattle.ws_node.specs.Went.{AbortGoes, EndsShort, OutputGoes, ToOutput}
use Rattle.ws_joined_laws.specs.Condition.{AreInRange}
use Rattle.ws_joined_laws.specs.Ends.{StopsIn}
use Rattle.ws_joined_laws.proofs.Lengths.{held-below, read-bounds}
use Rattle.ws_node.proofs.Going.{comes-still, flows-on, going-acts, out-goes}
use Rattle.ws_node.proofs.Handled.{Handled, shows}
use Rattle.ws_node.proofs.Staged.{same-length}
use Rattle.ws_node.proofs.Handing.{lies_to, heard-lies, unheard-lies, one-quiet}
use Rattle.ws_node.proofs.Ones.{all-more, one-behind}
use Rattle.ws_node.proofs.Outgoing.{open_items, opened}
use Rattle.ws_node.proofs.Putting.{AfterQuiet}
use Rattle.ws_node.proofs.Quiet.{stays-as, ends-as}
use Rattle.ws_node.proofs.Since.{AfterEvent}
use Rattle.ws_node.proofs.Unheard.{at-there, at-elsewhere}

-- what feeds the output has no edge below
pub to-sink : (t : Target) (x : Exit) → FeedsAs t x → feeds_edge x.output ≡ false → (t ≡ ToSink) × (x.below ≡ None)
to-sink ToSink x h not_edge = (refl, h.1)
to-sink ToPort x h not_edge = absurd (let f = h.0 in cc)

-- an output that is left alone

pub output-alone : (o : Output) (gain : List ℕ) (m : Mark) (old : Moment) → feeds_edge o ≡ false → o ≢ output.Open → gain ≡ [] → OutputGoes o o gain m old old
output-alone output.Open gain m old not_edge h e = absurd (h refl)
output-alone output.Finished gain m old not_edge h e = (refl, record { none = e; calm = refl; finished = refl })
output-alone output.Failed gain m old not_edge h e = (refl, record { none = e; calm = refl; finished = refl })
output-alone output.Aborted gain m old not_edge h e = (refl, record { none = e; calm = refl; finished = refl })
output-alone output.Edge gain m old not_edge h e = absurd (cc)

pub shut-stays : (o : Output) → o ≢ output.Open → shut o ≡ o
shut-stays output.Open h = absurd (h refl)
shut-stays output.Finished h = refl
shut-stays output.Failed h = refl
shut-stays output.Aborted h = refl
shut-stays output.Edge h = refl

pub shut-shut : (o : Output) → shut o ≢ output.Open
shut-shut output.Open h = cc
shut-shut output.Finished h = cc
shut-shut output.Failed h = cc
shut-shut output.Aborted h = cc
shut-shut output.Edge h = cc

pub open-fails : (o : Output) → o ≡ output.Open → shut o ≡ output.Failed
open-fails output.Open e = refl
open-fails output.Finished e = absurd (cc)
open-fails output.Failed e = absurd (cc)
open-fails output.Aborted e = absurd (cc)
open-fails output.Edge e = absurd (cc)

pub shut-kind : (o : Output) → feeds_edge o ≡ false → feeds_edge (shut o) ≡ false
shut-kind output.Open e = refl
shut-kind output.Finished e = refl
shut-kind output.Failed e = refl
shut-kind output.Aborted e = refl
shut-kind output.Edge e = absurd (cc)

-- of an abort

not_reached : (x : Abort) → (x.left == 0) ≡ false → 0 < x.left
not_reached x e = by x.left e where
  by : (n : ℕ) → (n == 0) ≡ false → 0 < n
  by zero e = absurd (cc)
  by (suc n) e = omega arith

-- it holds the last byte of what was gained
pub stops-here : (left : ℕ) (piece gain : List ℕ) → 0 < left → length gain ≤ length piece → 0 < length gain → StopsIn left (piece ∷ []) gain
stops-here left piece gain near less some =
    record { before = []; chunk = piece; after = []; split = refl; from = some; to = omega arith; fewer = near }

-- some was, and then a write failed
pub abort-less : (x : Option Abort) (piece gain : List ℕ) (o : Output) → o ≡ output.Failed → is_reached x ≡ false → length gain ≤ length piece
    → AbortGoes x x (piece ∷ []) gain o
abort-less None piece gain o f e less = tt
abort-less (Some x) piece gain o f e less =
    (refl, record { counted = omega arith; exact = λ h k. absurd (h f); last = stops-here x.left piece gain (not_reached x e) less })

abbrev pub nearer_by : ℕ → Option Abort → Option Abort
nearer_by count None = None
nearer_by count (Some x) = Some (nearer count x)

pub abort-nearer : (x : Option Abort) (piece : List ℕ) (o : Output) → is_reached x ≡ false → AbortGoes x (nearer_by (length piece) x) (piece ∷ []) piece o
abort-nearer None piece o e = tt
abort-nearer (Some x) piece o e =
    let near = not_reached x e in
    (refl, record { counted = omega arith; exact = λ h k. omega arith; last = stops-here x.left piece piece near (omega arith) })

pub signal-same : (count : ℕ) (x : Option Abort) → option_map (λ (a : Abort). a.signal) (nearer_by count x) ≡ option_map (λ (a : Abort). a.signal) x
signal-same count None = refl
signal-same count (Some x) = refl

-- the chunk that holds the last byte is one of those that went out

ends-short : (chunks : List (List ℕ)) (gain : List ℕ) → StopsIn (length gain) chunks gain → All (λ c. length c < 33554432) chunks → EndsShort chunks gain
ends-short chunks gain at all = record {
  before = at.before;
  chunk = at.chunk;
  after = at.after;
  split = at.split;
  from = at.from;
  to = at.to;
  short = among at.before at.after at.chunk (subst (All (λ c. length c < 33554432)) at.split all);
}
  where
    among : (before after : List (List ℕ)) (c : List ℕ) → All (λ c. length c < 33554432) (before ++ c ∷ after) → length c < 33554432
    among [] after c h = All-head (λ c. length c < 33554432) c after h
    among (b ∷ before) after c h = among before after c (All-tail (λ c. length c < 33554432) b (before ++ c ∷ after) h)

behind-all : (xs ys : List (List ℕ)) → All (λ c. length c < 33554432) (xs ++ ys) → All (λ c. length c < 33554432) ys
behind-all [] ys h = h
behind-all (x ∷ xs) ys h = behind-all xs ys (All-tail (λ c. length c < 33554432) x (xs ++ ys) h)

open-behind : (x y : Told (List ℕ)) → x.mark ≡ MayCome → All (λ c. length c < 33554432) (then_told x y).items → All (λ c. length c < 33554432) y.items
open-behind x y e h = behind-all x.items y.items (subst (All (λ c. length c < 33554432)) (open_items x y e) h)

-- all chunks are short that go out of a node that the input feeds
sent-short : (shape : Shape) (past : List Entry) (a b : Node) (went : Told (List ℕ)) → Since shape past a → is_edge a.entrance.input ≡ false → a.exit.output ≡ output.Open
    → Goes (machines shape.stages) nothing_yet (parts a) (held a) (parts b) (then_told went (held b)) → All (λ c. length c < 33554432) went.items
sent-short shape past a b went since by_input is_open goes =
    let fed = since.fed in
    let fit = since.led.is_of.fit in
    let range : AreInRange shape.stages = record { few = fit.few; range = fit.range; hex = fit.hex } in
    let most : most_of_piece a.entrance.input ≡ 4096 = rw by_input refl in
    let came : All (λ c. length c ≤ 4096) (then_told fed.came nothing_yet).items =
    subst (λ (t : Told (List ℕ)). All (λ c. length c ≤ 4096) t.items) (sym (then_empty fed.came)) (subst (λ k. All (λ c. length c ≤ k) fed.came.items) most fed.short) in
    open-behind fed.went went (fed.goes_on is_open)
    (held-below 4096 33554432 shape.stages (then_told fed.came nothing_yet) (parts b) (then_told fed.went went) (held b) read-bounds range came
    (flows-on shape.stages a b fed.came fed.went nothing_yet went fed.flows goes)).sent

-- what is written of what lies in a node

module _ (shape : Shape) (past : List Entry) (a : Node) (realm : SeenRealm) (since : Since shape past a) (goes : a.core.stopped ≡ None) where
  abbrev was : Node
  was = with_realm realm a

  pub count-works : 0 + length (works_in a.core) ≡ count_in shape
  count-works =
      let e = length-map a.core.stages.items (λ (w : State). w.work) in
      let f = length-map a.core.stages.items (λ (w : State). w.stage) in
      let g : length (stages_in a.core) ≡ count_in shape = ap length since.led.is_of.stages in
      omega arith

  -- the link that goes to the sink is the last
  module _ (sink_link : ℕ) (is_last : sink_link ≡ count_in shape) where
    module _ (id : HostId) (call : HostCall) (t : Told Value) (event : AfterEvent shape past a realm (Host id call))
        (heard : (k : ℕ) → k ≤ count_in shape → hears_in shape k (Host id call) ≡ only_at sink_link t k) where
      pub heard-out : (x : Told (List ℕ)) → IsShortOf (then_told (in_bytes t) (lies_to x was sink_link)) (lies_to x a sink_link)
      heard-out x =
          let n = sink_link in
          subst (λ (v : Told Value). IsShortOf (then_told (in_bytes v) (lies_to x was n)) (lies_to x a n))
          (heard n (omega arith) ∙ at-there n t) (heard-lies shape past a realm (Host id call) event goes x n (omega arith))

      unheard-in : (x : Told (List ℕ)) (k : ℕ) → k < sink_link → IsShortOf (lies_to x was k) (lies_to x a k)
      unheard-in x k less =
          unheard-lies shape past a realm (Host id call) event goes x k (omega arith) (ap in_bytes (heard k (omega arith) ∙ at-elsewhere sink_link k t (λ e. omega arith)))

      -- where there are stages, the first link isn't the last
      pub one-stages : (b : Node) (u : State) (us : List State) → a.core.stages.items ≡ u ∷ us → b.core.stages.items ≡ u ∷ us → b.entrance.ahead ≡ a.entrance.ahead → b.entrance.input ≡ a.entrance.input
          → ((n : ℕ) → OneAtMost n (behind_at 0 realm.slots).items → OneAtMost n (behind_at 0 b.core.realm.slots).items) → HasOne b
      one-stages b u us whole is ahead input less =
          let some : 0 ≢ sink_link = λ e. let f = count-works in let g = length-map a.core.stages.items (λ (w : State). w.work) in let h : length a.core.stages.items ≡ suc (length us) = ap length whole in omega arith in
          one-behind u us us a b since.one whole is ahead input
          (λ n o. less n (one-quiet n (hears_in shape 0 (Host id call)) (behind_at 0 realm.slots) (behind_at 0 a.core.realm.slots)
          (heard 0 (omega arith) ∙ at-elsewhere sink_link 0 t some) (event.short 0 (omega arith)) o))

      -- a node whose host has done its part, and its realm after that
      module _ (b : Node) (k : ℕ) (x : Option Abort) (o : Output) (after : AfterQuiet shape (past ++ Heard ∷ []) (record was { entrance = record was.entrance { ahead = k }; exit = record was.exit { abort = x; output = o } }) b)
          (went : Told (List ℕ)) (there : (z : Told (List ℕ)) → IsShortOf (then_told went (lies_to z was sink_link)) (lies_to z a sink_link)) where
        b-is : b ≡ record a { core = record a.core { realm = after.only.realm; stopped = after.only.stopped }; entrance = record a.entrance { ahead = k }; exit = record a.exit { abort = x; output = o } }
        b-is = after.only.is

        lies-before : (j : ℕ) → j < sink_link → IsShortOf (lies_in b j) (lies_in a j)
        lies-before j less =
            subst (λ (z : Told (List ℕ)). IsShortOf (lies_to z b j) (lies_in a j)) (sym (ap (λ (n : Node). coming n j) b-is))
            (short_trans _ _ _ (after.lies (coming a j) j (omega arith)) (unheard-in (coming a j) j less))

        lies-last : IsShortOf (then_told went (lies_in b sink_link)) (lies_in a sink_link)
        lies-last =
            let n = sink_link in
            subst (λ (z : Told (List ℕ)). IsShortOf (then_told went (lies_to z b n)) (lies_in a n)) (sym (ap (λ (m : Node). coming m n) b-is))
            (short_trans _ _ _ (short_left went (lies_to (coming a n) b n) (lies_to (coming a n) was n) (after.lies (coming a n) n (omega arith))) (there (coming a n)))

        goes-out : Goes (machines (stages_in a.core)) nothing_yet (parts a) (lying a) (parts b) (then_told went (lying b))
        goes-out =
            let same : works_in b.core ≡ works_in a.core = ap (λ (q : Node). works_in q.core) b-is in
            let last : IsShortOf (then_told went (lies_in b (0 + length (works_in a.core)))) (lies_in a (0 + length (works_in a.core))) =
            subst (λ (n : ℕ). IsShortOf (then_told went (lies_in b n)) (lies_in a n)) (is_last ∙ sym count-works) lies-last in
            subst (λ (ws : List AtWork). Goes (machines (stages_in a.core)) nothing_yet (parts a) (lying a) (parts_at 0 ws (lies_in b)) (then_told went (behind_of 0 ws (lies_in b)))) (sym same)
            (goes_out (machines (stages_in a.core)) 0 (works_in a.core) (lies_in a) (lies_in b) went (same-length a.core.stages.items)
            (λ j p less. lies-before j (let e = count-works in omega arith)) last)

        pub sunk : feeds_edge a.exit.output ≡ false → (rf : ℕ) (feed : Option Feed) (old new : Shown) (p q : Got) (gain : List ℕ) (out : Mark) → Gains p q gain → IsShortOf (told gain out) (bytes_of went)
            → (a.core.stages.items ≡ [] → a.entrance.ahead ≤ length gain + k) → OutputGoes a.exit.output o gain out (shows rf feed old) (shows rf feed new) → AbortGoes a.exit.abort x went.items gain o
            → (0 < length gain → StopsIn (length gain) went.items gain) → HasOne b → (a.exit.output ≡ output.Open → o ≡ output.Finished → IsEmptied q)
            → Handled shape a b (shows rf feed old) (shows rf feed new) p q
        sunk not_edge rf feed old new p q gain out gained written ahead out_goes abort last one emptied =
            let none : a.exit.below ≡ None = (to-sink shape.target a.exit since.led.is_of.into not_edge).1 in
            let below : b.exit.below ≡ a.exit.below = ap (λ (n : Node). n.exit.below) b-is in
            let taken : b.entrance.taken ≡ a.entrance.taken = ap (λ (n : Node). n.entrance.taken) b-is in
            let k_is : b.entrance.ahead ≡ k = ap (λ (n : Node). n.entrance.ahead) b-is in
            let x_is : b.exit.abort ≡ x = ap (λ (n : Node). n.exit.abort) b-is in
            let o_is : b.exit.output ≡ o = ap (λ (n : Node). n.exit.output) b-is in
            let i_is : b.entrance.input ≡ a.entrance.input = ap (λ (n : Node). n.entrance.input) b-is in
            record {
              past = (past ++ Heard ∷ []) ++ after.more;
              led = after.led;
              pushes = λ e.
                  let f = after.older e in
                  let g = event.age in
                  subst (ArePushed b.core.realm.slots.age) (sym (ap (λ (n : Node). n.core.stages.items) b-is)) (all-more a.core.realm.slots.age b.core.realm.slots.age a.core.stages.items (omega arith) (since.pushes goes));
              one = one;
              ends = after.ends (ends-as shape (past ++ Heard ∷ []) was (record was { entrance = record was.entrance { ahead = k }; exit = record was.exit { abort = x; output = o } }) refl refl (stays-as was.core.stopped) (event.ends tt since.ends));
              went = record {
                read = nothing_yet;
                went = went;
                gain = gain;
                out = out;
                core = record {
                  moves = (
                    record {
                      stages = ap (λ (q : Node). stages_in q.core) b-is;
                      goes = out-goes a b went none (below ∙ none) goes-out;
                    },
                    tt,
                  );
                  pipe = ap (λ (n : Node). n.core.pipe) b-is;
                  pipes = ap (λ (n : Node). n.core.pipes_before) b-is;
                  first = ap (λ (n : Node). n.core.first) b-is;
                };
                from = comes-still a.entrance b.entrance (shows rf feed old) (shows rf feed new) refl refl taken i_is (ap (λ (n : Node). n.entrance.source) b-is) (ap (λ (n : Node). n.entrance.most) b-is) (ap (λ (n : Node). n.entrance.above) b-is);
                into = ToOutput not_edge
                    (record {
                      gained = gained;
                      written = written;
                      output = subst (λ (z : Output). OutputGoes a.exit.output z gain out (shows rf feed old) (shows rf feed new)) (sym o_is) out_goes;
                      abort = subst (λ (z : Option Abort). AbortGoes a.exit.abort z went.items gain b.exit.output) (sym x_is) (subst (λ (z : Output). AbortGoes a.exit.abort x went.items gain z) (sym o_is) abort);
                      emptied = λ e f. emptied e (sym o_is ∙ f);
                      sink = ap (λ (n : Node). n.exit.sink) b-is;
                      below = below;
                    });
                ahead = λ none by to. let f = ahead none in omega arith;
                near = λ head pieces is. absurd (let f : true ≡ false = sym head.into ∙ not_edge in cc);
                short = λ fed some. ends-short went.items gain (last some)
                    (sent-short shape past a b went since fed (opened a.exit.output o gain out (shows rf feed old) (shows rf feed new) out_goes some)
                    (subst (λ ss. Goes (machines ss) nothing_yet (parts a) (held a) (parts b) (then_told went (held b))) since.led.is_of.stages (out-goes a b went none (below ∙ none) goes-out)));
                stays = going-acts a b (shows rf feed old) (shows rf feed new) nothing_yet gain goes;
              };
            }
