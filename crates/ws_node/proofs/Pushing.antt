-- A chunk, or the end of its input, comes to a stage.
use Rattle.std.proofs.Common.{◌≡◌, ◌≢◌, ◌+◌, ◌-◌, ◌≤◌, ℕ, suc, true, List, [], ◌∷◌, ◌++◌, length, Some, None, refl, sym, ap, ◌∙◌, subst, arith}
use Rattle.std.proofs.lemmas.List.{length-map}
use Rattle.ws_value.specs.declared.ids.HostId.{HostId}
use Rattle.ws_value.specs.declared.ids.StreamId.{StreamId}
use Rattle.ws_value.specs.declared.value.Value.{Value}
use Rattle.ws_value.specs.declared.value.Value.TheVariants.{Bytes}
use Rattle.ws_flow.specs.declared.plan.Ending.{Ending}
use Rattle.ws_flow.specs.declared.plan.Ending.TheVariants.{Fine, Bad}
use Rattle.ws_node.specs.Shape.{Shape, count_in, hears_in}
use Rattle.ws_flow.specs.Machines.{Kept}
use Rattle.ws_flow.specs.Parts.{AtWork, Over, Goes}
use Rattle.ws_flow.specs.Stages.{machine, machines}
use Rattle.ws_flow.specs.Told.{Open, Closed, Told, told, then_told, IsShortOf}
use Rattle.ws_flow.proofs.Told.{short_trans, short_left}
use Rattle.ws_io.specs.Gain.{Gains, Got}
use Rattle.ws_io.specs.Moment.{Moment}
use Rattle.ws_stages.specs.State.{State, IsLive, kept_in, after_push}
use Rattle.ws_steps.specs.declared.calls.Call.TheVariants.{Settle}
use Rattle.ws_steps.specs.declared.calls.Event.{Event}
use Rattle.ws_steps.specs.declared.calls.Event.TheVariants.{Host}
use Rattle.ws_steps.specs.declared.calls.HostCall.{HostCall}
use Rattle.ws_steps.specs.declared.calls.HostCall.TheVariants.{Transform, Flush}
use Rattle.ws_steps.specs.Run.{Entry, Heard}
use Rattle.ws_chain_laws.specs.Chain.{behind_at}
use Rattle.ws_chain_laws.specs.Nodes.{only_at}
use Rattle.ws_chain_laws.proofs.Nodes.{each_event_is_heard_at_one_link}
use Rattle.ws_link_laws.specs.Link.{silence}
use Rattle.ws_realm.specs.Seen.{SeenRealm}
use Rattle.ws_realm.specs.declared.realm.Why.TheVariants as why
use Rattle.ws_node.specs.declared.node.Input.{Input}
use Rattle.ws_node.specs.declared.node.Node.{Node}
use Rattle.ws_node.specs.Moves.{Flushes, FlushedOne, NoRoomToFlush, NotFlushed, NothingToFlush, IsAt, NoneThere, Transforms, PushedOne, NoRoomToPush, NotPushed, NothingToPush, had_behind, stopped_by, with_realm}
use Rattle.ws_node.specs.Node.{coming, in_bytes, is_edge, lying, nothing_yet, parts, stages_in}
use Rattle.ws_node.specs.Went.{Went}
use Rattle.ws_node.specs.Past.{OneAtMost, ArePushed, HasOne, Led, Since, may_have}
use Rattle.ws_node.proofs.Changes.{led-ahead, led-stages, led-stopped}
use Rattle.ws_node.proofs.Going.{SameCounts, going-stays, went-quietly, went-rests}
use Rattle.ws_node.proofs.Handled.{Handled}
use Rattle.ws_node.proofs.Handing.{lies_to, heard-lies, unheard-lies, one-quiet, one-heard}
use Rattle.ws_node.proofs.Ones.{one-more, live-true, one-behind, one-over}
use Rattle.ws_node.proofs.Settling.{AfterAll, answer_by, ended-as, may-answer, puts-all, the-stage}
use Rattle.ws_node.proofs.Quiet.{IsNoPost, stays-going, ends-as}
use Rattle.ws_node.proofs.Since.{AfterEvent, MayAsk, OnlyRealm}
use Rattle.ws_node.proofs.Staged.{count-is, Stepped, pushed-goes, flushed-goes, stopped-goes, over-goes, stages-at, stages}
use Rattle.ws_node.proofs.Unheard.{IsNoHalf, at-there, at-elsewhere, no-transform, no-flush, none-half}

not-none : (before after : List State) (w : State) → before ++ w ∷ after ≡ [] → ⊥
not-none [] after w e = cc
not-none (u ∷ before) after w e = cc

had-is : (before : List State) (count : ℕ) (n : Node) → (k : ℕ) × (had_behind before count n ≡ record n { entrance = record n.entrance { ahead = k } }) × (k ≤ n.entrance.ahead)
had-is [] count n = (n.entrance.ahead - count, refl, omega arith)
had-is (u ∷ before) count n = (n.entrance.ahead, refl, omega arith)

items-now : (c z : Node) (ws : List State) → OnlyRealm c z → c.core.stages.items ≡ ws → z.core.stages.items ≡ ws
items-now c z ws only items = ap (λ (n : Node). n.core.stages.items) only.is ∙ items

ahead-now : (c z n : Node) → OnlyRealm c z → c ≡ record n { core = record n.core { stages = c.core.stages } } → z.entrance.ahead ≡ n.entrance.ahead
ahead-now c z n only is = ap (λ (x : Node). x.entrance.ahead) only.is ∙ ap (λ (x : Node). x.entrance.ahead) is

-- a work that is over, by how what was asked of it ended

pushed-over : (w : AtWork) (by e : Ending) (k : Kept) (code place : ℕ) → w ≡ after_push by k → e ≡ by → e ≡ Bad code place → w ≡ Over (Bad code place)
pushed-over w by e k code place f g h = f ∙ ap (λ (x : Ending). after_push x k) (sym g ∙ h)

flushed-over : (w : AtWork) (by e f : Ending) → w ≡ Over by → e ≡ by → e ≡ f → w ≡ Over f
flushed-over w by e f g h i = g ∙ ap Over (sym h ∙ i)

had-stages : (before : List State) (count : ℕ) (n : Node) → (had_behind before count n).core.stages.items ≡ n.core.stages.items
had-stages [] count n = refl
had-stages (u ∷ before) count n = refl

had-kept : (before : List State) (count : ℕ) (n : Node) (u : State) (us : List State) → before ≡ u ∷ us → (had_behind before count n).entrance.ahead ≡ n.entrance.ahead
had-kept [] count n u us e = absurd (cc)
had-kept (x ∷ before) count n u us e = refl

flush-same : (i s : StreamId) → Flush i ≡ Flush s → i ≡ s
flush-same i s e = grind arith

module _ (shape : Shape) (past : List Entry) (a : Node) (realm : SeenRealm) (id : HostId) (i : StreamId) (b : Node) (m : Moment) (p q : Got) (gained : Gains p q [])
    (since : Since shape past a) (goes : a.core.stopped ≡ None) where
  abbrev was : Node
  was = with_realm realm a

  -- what is behind the host on the first link then: nothing where its one chunk came to the first stage
  one-pushed : (before after : List State) (w v : State) (piece : List ℕ) (h : Told Value) → a.core.stages.items ≡ before ++ w ∷ after → b.core.stages.items ≡ before ++ v ∷ after → IsLive w.work
      → b.entrance.ahead ≡ (had_behind before (length piece) was).entrance.ahead → b.entrance.input ≡ a.entrance.input → h ≡ only_at (length before) (told (Bytes piece ∷ []) Open) 0
      → IsShortOf (then_told h (behind_at 0 realm.slots)) (behind_at 0 a.core.realm.slots)
      → ((n : ℕ) → OneAtMost n (behind_at 0 realm.slots).items → OneAtMost n (behind_at 0 b.core.realm.slots).items) → HasOne b
  one-pushed [] after w v piece h whole is live ahead input heard short less fed some =
      let o = since.one (ap (λ (x : Input). is_edge x) (sym input) ∙ fed) (subst (λ (s : List State). may_have s a.exit.output a.exit.abort ≡ true) (sym whole) (live-true w live)) in
      let e = one-heard a.entrance.ahead (Bytes piece) (behind_at 0 realm.slots) (behind_at 0 a.core.realm.slots)
      (subst (λ (x : Told Value). IsShortOf (then_told x (behind_at 0 realm.slots)) (behind_at 0 a.core.realm.slots)) (heard ∙ at-there 0 (told (Bytes piece ∷ []) Open)) short) o in
      less b.entrance.ahead (subst (OneAtMost b.entrance.ahead) (sym e.0) tt)
  one-pushed (u ∷ us) after w v piece h whole is live ahead input heard short less fed some =
      one-behind u (us ++ w ∷ after) (us ++ v ∷ after) a b since.one whole is ahead input
      (λ n o. less n (one-quiet n h (behind_at 0 realm.slots) (behind_at 0 a.core.realm.slots) (heard ∙ at-elsewhere (suc (length us)) 0 (told (Bytes piece ∷ []) Open) (λ e. omega arith)) short o)) fed some

  one-ended : (before after : List State) (w v : State) (t h : Told Value) (n : Node) → a.core.stages.items ≡ before ++ w ∷ after → n.core.stages.items ≡ before ++ v ∷ after → (IsLive v.work → ⊥)
      → ((u : State) (us : List State) → before ≡ u ∷ us → n.entrance.ahead ≡ a.entrance.ahead) → n.entrance.input ≡ a.entrance.input → h ≡ only_at (length before) t 0
      → IsShortOf (then_told h (behind_at 0 realm.slots)) (behind_at 0 a.core.realm.slots)
      → ((k : ℕ) → OneAtMost k (behind_at 0 realm.slots).items → OneAtMost k (behind_at 0 n.core.realm.slots).items) → HasOne n
  one-ended [] after w v t h n whole is over ahead input heard short less = one-over v after n is over
  one-ended (u ∷ us) after w v t h n whole is over ahead input heard short less =
      one-behind u (us ++ w ∷ after) (us ++ v ∷ after) a n since.one whole is (ahead u us refl) input
      (λ k o. less k (one-quiet k h (behind_at 0 realm.slots) (behind_at 0 a.core.realm.slots) (heard ∙ at-elsewhere (suc (length us)) 0 t (λ e. omega arith)) short o))

  -- nothing is answered
  rested : (e : Event) → IsNoPost e → AfterEvent shape past a realm e → HasOne was → Goes (machines (stages_in a.core)) nothing_yet (parts a) (lying a) (parts was) (lying was) → Handled shape a was m m p q
  rested e unposted event one on =
      record {
        past = past ++ Heard ∷ [];
        led = event.led;
        pushes = λ h. subst (λ (n : ℕ). ArePushed n a.core.stages.items) (sym event.age) (since.pushes goes);
        one = one;
        ends = event.ends unposted since.ends;
        went = went-quietly a was m p q gained (going-stays a was goes) (record { taken = refl; ahead = λ h. refl; input = refl; output = refl; abort = refl; stages = refl; source = refl; sink = refl; most = refl; pipe = refl; pipes = refl; first = refl; above = refl; below = refl; broken = refl }) on;
      }

  -- an event at a stage
  module _ (before after : List State) (w : State) (at : IsAt i a.core.stages.items before w after) (call : HostCall) (t : Told Value) (event : AfterEvent shape past a realm (Host id call))
      (heard : (k : ℕ) → k ≤ count_in shape → hears_in shape k (Host id call) ≡ only_at (length before) t k) where
    count : count_in shape ≡ length before + suc (length after)
    count = count-is shape a before after w goes since.led.is_of.stages at.whole

    next_is : suc (length before) ≤ count_in shape
    next_is = let e = count in omega arith

    here_is : length before ≤ count_in shape
    here_is = let e = count in omega arith

    heard-here : (x : Told (List ℕ)) → IsShortOf (then_told (in_bytes t) (lies_to x was (length before))) (lies_to x a (length before))
    heard-here x =
        subst (λ (v : Told Value). IsShortOf (then_told (in_bytes v) (lies_to x was (length before))) (lies_to x a (length before)))
        (heard (length before) here_is ∙ at-there (length before) t) (heard-lies shape past a realm (Host id call) event goes x (length before) here_is)

    unheard-there : (x : Told (List ℕ)) (k : ℕ) → k ≤ count_in shape → k ≢ length before → IsShortOf (lies_to x was k) (lies_to x a k)
    unheard-there x k less other =
        unheard-lies shape past a realm (Host id call) event goes x k less (ap in_bytes (heard k less ∙ at-elsewhere (length before) k t other))

    first_is : 0 ≤ count_in shape
    first_is = omega arith

    -- with the first link, where the stage isn't the first
    one-elsewhere : 0 ≢ length before → (n : ℕ) → OneAtMost n (behind_at 0 a.core.realm.slots).items → OneAtMost n (behind_at 0 realm.slots).items
    one-elsewhere other n o =
        one-quiet n (hears_in shape 0 (Host id call)) (behind_at 0 realm.slots) (behind_at 0 a.core.realm.slots) (heard 0 first_is ∙ at-elsewhere (length before) 0 t other)
        (event.short 0 first_is) o

    -- the stage is over
    over-on : (IsLive w.work → ⊥) → Handled shape a was m m p q
    over-on not_live =
        rested (Host id call) tt event
        (one-ended before after w w t (hears_in shape 0 (Host id call)) was at.whole at.whole not_live (λ u us e. refl) refl (heard 0 first_is) (event.short 0 first_is) (λ n o. o))
        (over-goes shape a before after w goes since.led.is_of.stages at.whole was w refl at.whole not_live refl (λ k less other. unheard-there (coming was k) k less other))

    -- the stage was asked
    module _ (v : State) (c : Node) (k : ℕ) (is : c ≡ record was { core = record was.core { stages = c.core.stages }; entrance = record was.entrance { ahead = k } }) (items : c.core.stages.items ≡ before ++ v ∷ after) (stage : v.stage ≡ w.stage) where
      at-c : (x : Told (List ℕ)) (j : ℕ) → lies_to x c j ≡ lies_to x was j
      at-c x j = ap (λ (n : Node). lies_to x n j) is

      module _ (only : OnlyRealm c b) where
        b-is : b ≡ record a { core = record a.core { realm = only.realm; stopped = only.stopped; stages = c.core.stages }; entrance = record a.entrance { ahead = k } }
        b-is = only.is ∙ ap (λ (n : Node). record n { core = record n.core { realm = only.realm; stopped = only.stopped } }) is

        b-items : b.core.stages.items ≡ before ++ v ∷ after
        b-items = ap (λ (n : Node). n.core.stages.items) b-is ∙ items

        b-input : b.entrance.input ≡ a.entrance.input
        b-input = ap (λ (n : Node). n.entrance.input) b-is

        b-ahead : b.entrance.ahead ≡ c.entrance.ahead
        b-ahead = ap (λ (n : Node). n.entrance.ahead) only.is

        same-counts : SameCounts a b
        same-counts =
            record {
              taken = ap (λ (n : Node). n.entrance.taken) b-is;
              ahead = λ none. absurd (not-none before after w (sym at.whole ∙ none));
              input = b-input;
              output = ap (λ (n : Node). n.exit.output) b-is;
              abort = ap (λ (n : Node). n.exit.abort) b-is;
              stages = ap stages b-items ∙ (stages-at before after v ∙ (ap (λ s. stages before ++ s ∷ stages after) stage ∙ (sym (stages-at before after w) ∙ ap stages (sym at.whole))));
              source = ap (λ (n : Node). n.entrance.source) b-is;
              sink = ap (λ (n : Node). n.exit.sink) b-is;
              most = ap (λ (n : Node). n.entrance.most) b-is;
              pipe = ap (λ (n : Node). n.core.pipe) b-is;
              pipes = ap (λ (n : Node). n.core.pipes_before) b-is;
              first = ap (λ (n : Node). n.core.first) b-is;
              above = ap (λ (n : Node). n.entrance.above) b-is;
              below = ap (λ (n : Node). n.exit.below) b-is;
              broken = ap (λ (n : Node). n.exit.broken) b-is;
            }

        went-on : Goes (machines (stages_in a.core)) nothing_yet (parts a) (lying a) (parts b) (lying b) → Went a b m m p q
        went-on on = went-quietly a b m p q gained (going-stays a b goes) same-counts on

      -- the realm stopped
      stopped-on : Led shape (past ++ Heard ∷ []) c → b ≡ stopped_by why.NoMemory c → v.work ≡ Over Fine → IsLive w.work → ((u : State) (us : List State) → before ≡ u ∷ us → c.entrance.ahead ≡ a.entrance.ahead)
          → Handled shape a b m m p q
      stopped-on led ends over live ahead =
          let only : OnlyRealm c b = record { realm = c.core.realm; stopped = Some why.NoMemory; is = ends } in
          let stopped : b.core.stopped ≡ Some why.NoMemory = ap (λ (n : Node). n.core.stopped) ends in
          record {
            past = past ++ Heard ∷ [];
            led = subst (Led shape (past ++ Heard ∷ [])) (sym ends) (led-stopped shape (past ++ Heard ∷ []) c why.NoMemory (λ e. absurd (cc)) led);
            pushes = λ e. absurd (let f : Some why.NoMemory ≡ None = sym stopped ∙ e in cc);
            one = one-ended before after w v t (hears_in shape 0 (Host id call)) b at.whole (b-items only) (λ l. subst IsLive over l)
                (λ u us e. b-ahead only ∙ ahead u us e) (b-input only) (heard 0 first_is) (event.short 0 first_is)
                (λ n o. subst (λ (z : Node). OneAtMost n (behind_at 0 z.core.realm.slots).items) (sym ends) (subst (λ (z : Node). OneAtMost n (behind_at 0 z.core.realm.slots).items) (sym is) o));
            ends = ends-as shape (past ++ Heard ∷ []) was b (ap (λ (n : Node). n.entrance.above) (b-is only)) (ap (λ (n : Node). n.exit.below) (b-is only)) (stays-going was.core.stopped b.core.stopped goes) (event.ends tt since.ends);
            went = went-on only (stopped-goes shape a before after w goes since.led.is_of.stages at.whole b v (b-input only) (b-items only) why.NoMemory live over stopped);
          }

      -- and what came out was put out
      module _ (chunks : List (List ℕ)) (all : AfterAll shape (past ++ Heard ∷ []) (length before) chunks c b) where
        stepped : Stepped shape a before after w goes since.led.is_of.stages at.whole b v (b-input all.only) (b-items all.only) (in_bytes t) chunks
        stepped = record {
          there = λ x.
              short_trans _ _ _
              (short_left (in_bytes t) _ _ (subst (λ (z : Told (List ℕ)). IsShortOf (lies_to x b (length before)) z) (at-c x (length before)) (all.elsewhere x (length before) here_is (λ e. omega arith))))
              (heard-here x);
          next = λ x.
              let y = then_told (told chunks Open) x in
              short_trans _ _ _ (subst (λ (z : Told (List ℕ)). IsShortOf (lies_to x b (suc (length before))) z) (at-c y (suc (length before))) (all.there x))
              (unheard-there y (suc (length before)) next_is (λ e. omega arith));
          elsewhere = λ x j less here next.
              short_trans _ _ _ (subst (λ (z : Told (List ℕ)). IsShortOf (lies_to x b j) z) (at-c x j) (all.elsewhere x j less next)) (unheard-there x j less here);
        }

        pushes-on : v.pushes ≤ w.pushes + 1 → b.core.stopped ≡ None → ArePushed b.core.realm.slots.age b.core.stages.items
        pushes-on some on =
            let young = all.younger on in
            let same : c.core.realm.slots.age ≡ a.core.realm.slots.age = ap (λ (n : Node). n.core.realm.slots.age) is ∙ event.age in
            subst (ArePushed b.core.realm.slots.age) (sym (b-items all.only))
            (one-more a.core.realm.slots.age b.core.realm.slots.age before after w v (omega arith) some (subst (ArePushed a.core.realm.slots.age) at.whole (since.pushes goes)))

        one-from : (n : ℕ) → OneAtMost n (behind_at 0 realm.slots).items → OneAtMost n (behind_at 0 b.core.realm.slots).items
        one-from n o = all.one n (subst (λ (z : Node). OneAtMost n (behind_at 0 z.core.realm.slots).items) (sym is) o)

        pub on : v.pushes ≤ w.pushes + 1 → HasOne b → Goes (machines (stages_in a.core)) nothing_yet (parts a) (lying a) (parts b) (lying b) → Handled shape a b m m p q
        on some one goes_on = record { past = (past ++ Heard ∷ []) ++ all.more; led = all.led; pushes = pushes-on some; one = one; ends = all.ends (ends-as shape (past ++ Heard ∷ []) was c (ap (λ (n : Node). n.entrance.above) is) (ap (λ (n : Node). n.exit.below) is) (stays-going was.core.stopped c.core.stopped goes) (event.ends tt since.ends)); went = went-on all.only goes_on }

  heard-transform : (before after : List State) (w : State) → IsAt i a.core.stages.items before w after → (v : Value) (k : ℕ) → k ≤ count_in shape
      → hears_in shape k (Host id (Transform i v)) ≡ only_at (length before) (told (v ∷ []) Open) k
  heard-transform before after w at v k less =
      let e = count-is shape a before after w goes since.led.is_of.stages at.whole in
      subst (λ (s : StreamId). hears_in shape k (Host id (Transform s v)) ≡ only_at (length before) (told (v ∷ []) Open) k) (sym at.place)
      ((each_event_is_heard_at_one_link shape.origin shape.target (count_in shape) k less).transform id (length before) v (omega arith))

  heard-flush : (before after : List State) (w : State) → IsAt i a.core.stages.items before w after → (k : ℕ) → k ≤ count_in shape
      → hears_in shape k (Host id (Flush i)) ≡ only_at (length before) (told [] Closed) k
  heard-flush before after w at k less =
      let e = count-is shape a before after w goes since.led.is_of.stages at.whole in
      subst (λ (s : StreamId). hears_in shape k (Host id (Flush s)) ≡ only_at (length before) (told [] Closed) k) (sym at.place)
      ((each_event_is_heard_at_one_link shape.origin shape.target (count_in shape) k less).flush id (length before) (omega arith))

  no-stage : (e : Event) → IsNoPost e → AfterEvent shape past a realm e → ((k : ℕ) → k ≤ count_in shape → hears_in shape k e ≡ silence) → Handled shape a was m m p q
  no-stage e unposted event quiet =
      record {
        past = past ++ Heard ∷ [];
        led = event.led;
        pushes = λ h. subst (λ (n : ℕ). ArePushed n a.core.stages.items) (sym event.age) (since.pushes goes);
        one = λ fed h. one-quiet a.entrance.ahead (hears_in shape 0 e) (behind_at 0 realm.slots) (behind_at 0 a.core.realm.slots) (quiet 0 (omega arith)) (event.short 0 (omega arith)) (since.one fed h);
        ends = event.ends unposted since.ends;
        went = went-rests shape a was m p q gained (going-stays a was goes) since.led.is_of.stages (record { realm = realm; stopped = a.core.stopped; is = refl })
            (λ k less. unheard-lies shape past a realm e event goes (coming a k) k less (ap in_bytes (quiet k less)));
      }

  no-half : NoneThere i a.core.stages.items → IsNoHalf (count_in shape) i
  no-half none =
      subst (λ (n : ℕ). IsNoHalf n i) (sym (length-map a.core.stages.items (λ w. w.stage)) ∙ ap length since.led.is_of.stages) (none-half i a.core.stages.items none)

  pub transforms : (piece : List ℕ) → AfterEvent shape past a realm (Host id (Transform i (Bytes piece))) → Transforms id i piece was b → Handled shape a b m m p q
  transforms piece event (PushedOne before after w v pushed at live answers stage pushes c has puts) =
      let call = Transform i (Bytes piece) in
      let past' = past ++ Heard ∷ [] in
      let by = (machine w.stage).push (kept_in w.work) piece in
      let n = had_behind before (length piece) was in
      let h = had-is before (length piece) was in
      let heard = heard-transform before after w at (Bytes piece) in
      let led = led-stages shape past' n c before after w v (had-stages before (length piece) was ∙ at.whole) live stage has
      (subst (Led shape past') (sym h.1) (led-ahead shape past' was h.0 h.2 event.led)) in
      let is : c ≡ record was { core = record was.core { stages = c.core.stages }; entrance = record was.entrance { ahead = h.0 } } = has.is ∙ ap (λ (z : Node). record z { core = record z.core { stages = c.core.stages } }) h.1 in
      let less = next_is before after w at call (told (Bytes piece ∷ []) Open) event heard in
      let may : (more : List Entry) (z : Node) → OnlyRealm c z → MayAsk shape (past' ++ more) z (Settle id (answer_by z.core.first i pushed.ending)) =
      λ more z only. may-answer shape past' more id i pushed.ending call z event.its (λ s e. cc)
      (λ code place e. ended-as i code place z.core.stages.items before after v at.place (items-now c z (before ++ v ∷ after) only has.items)
      (pushed-over v.work by.ending pushed.ending by.kept code place answers.goes_on answers.ending e))
      (λ s e. absurd (cc)) in
      let all = subst (λ (cs : List (List ℕ)). AfterAll shape past' (length before) cs c b) answers.chunks (puts-all shape past' (length before) id i pushed c b less at.place led may puts) in
      let t = told (Bytes piece ∷ []) Open in
      on before after w at call t event heard v c h.0 is has.items stage by.chunks all (omega (arith, pushes))
      (one-pushed before after w v piece (hears_in shape 0 (Host id call)) at.whole (b-items before after w at call t event heard v c h.0 is has.items stage all.only) live
      (ahead-now c b n all.only has.is) (b-input before after w at call t event heard v c h.0 is has.items stage all.only) (heard 0 (omega arith)) (event.short 0 (omega arith))
      (one-from before after w at call t event heard v c h.0 is has.items stage by.chunks all))
      (pushed-goes shape a before after w goes since.led.is_of.stages at.whole b v (b-input before after w at call t event heard v c h.0 is has.items stage all.only)
      (b-items before after w at call t event heard v c h.0 is has.items stage all.only) piece live answers.goes_on (stepped before after w at call t event heard v c h.0 is has.items stage by.chunks all))
  transforms piece event (NoRoomToPush before after w v at live stage over c has ends) =
      let call = Transform i (Bytes piece) in
      let past' = past ++ Heard ∷ [] in
      let n = had_behind before (length piece) was in
      let h = had-is before (length piece) was in
      let led = led-stages shape past' n c before after w v (had-stages before (length piece) was ∙ at.whole) live stage has
      (subst (Led shape past') (sym h.1) (led-ahead shape past' was h.0 h.2 event.led)) in
      let is : c ≡ record was { core = record was.core { stages = c.core.stages }; entrance = record was.entrance { ahead = h.0 } } = has.is ∙ ap (λ (z : Node). record z { core = record z.core { stages = c.core.stages } }) h.1 in
      stopped-on before after w at call (told (Bytes piece ∷ []) Open) event (heard-transform before after w at (Bytes piece)) v c h.0 is has.items stage led ends over live
      (λ u us e. ap (λ (z : Node). z.entrance.ahead) has.is ∙ had-kept before (length piece) was u us e)
  transforms piece event (NotPushed before after w at not_live is) =
      subst (λ (n : Node). Handled shape a n m m p q) (sym is)
      (over-on before after w at (Transform i (Bytes piece)) (told (Bytes piece ∷ []) Open) event (heard-transform before after w at (Bytes piece)) not_live)
  transforms piece event (NothingToPush none is) =
      subst (λ (n : Node). Handled shape a n m m p q) (sym is)
      (no-stage (Host id (Transform i (Bytes piece))) tt event (λ k less. no-transform shape k id i less (no-half none) (Bytes piece)))

  pub flushes : AfterEvent shape past a realm (Host id (Flush i)) → Flushes id i was b → Handled shape a b m m p q
  flushes event (FlushedOne before after w v flushed at live answers stage pushes c has puts) =
      let call = Flush i in
      let past' = past ++ Heard ∷ [] in
      let by = (machine w.stage).flush (kept_in w.work) in
      let heard = heard-flush before after w at in
      let t : Told Value = told [] Closed in
      let led = led-stages shape past' was c before after w v at.whole live stage has event.led in
      let less = next_is before after w at call t event heard in
      let may : (more : List Entry) (z : Node) → OnlyRealm c z → MayAsk shape (past' ++ more) z (Settle id (answer_by z.core.first i flushed.ending)) =
      λ more z only.
      let items : z.core.stages.items ≡ before ++ v ∷ after = items-now c z (before ++ v ∷ after) only has.items in
      may-answer shape past' more id i flushed.ending call z event.its (λ s e. cc)
      (λ code place e. ended-as i code place z.core.stages.items before after v at.place items (flushed-over v.work by.ending flushed.ending (Bad code place) answers.over answers.ending e))
      (λ s e fine first last u there.
      ap (λ (x : State). x.work) (the-stage s z.core.stages.items before after v (sym (flush-same i s e) ∙ at.place) items first last u there) ∙ flushed-over v.work by.ending flushed.ending Fine answers.over answers.ending fine) in
      let all = subst (λ (cs : List (List ℕ)). AfterAll shape past' (length before) cs c b) answers.chunks (puts-all shape past' (length before) id i flushed c b less at.place led may puts) in
      on before after w at call t event heard v c a.entrance.ahead has.is has.items stage by.chunks all (omega (arith, pushes))
      (one-ended before after w v t (hears_in shape 0 (Host id call)) b at.whole (b-items before after w at call t event heard v c a.entrance.ahead has.is has.items stage all.only)
      (λ l. subst IsLive answers.over l) (λ u us e. ahead-now c b was all.only has.is) (b-input before after w at call t event heard v c a.entrance.ahead has.is has.items stage all.only) (heard 0 (omega arith)) (event.short 0 (omega arith))
      (one-from before after w at call t event heard v c a.entrance.ahead has.is has.items stage by.chunks all))
      (flushed-goes shape a before after w goes since.led.is_of.stages at.whole b v (b-input before after w at call t event heard v c a.entrance.ahead has.is has.items stage all.only)
      (b-items before after w at call t event heard v c a.entrance.ahead has.is has.items stage all.only) live answers.over (stepped before after w at call t event heard v c a.entrance.ahead has.is has.items stage by.chunks all))
  flushes event (NoRoomToFlush before after w v at live stage over c has ends) =
      let past' = past ++ Heard ∷ [] in
      let led = led-stages shape past' was c before after w v at.whole live stage has event.led in
      stopped-on before after w at (Flush i) (told [] Closed) event (heard-flush before after w at) v c a.entrance.ahead has.is has.items stage led ends over live (λ u us e. ap (λ (z : Node). z.entrance.ahead) has.is)
  flushes event (NotFlushed before after w at not_live is) =
      subst (λ (n : Node). Handled shape a n m m p q) (sym is) (over-on before after w at (Flush i) (told [] Closed) event (heard-flush before after w at) not_live)
  flushes event (NothingToFlush none is) =
      subst (λ (n : Node). Handled shape a n m m p q) (sym is) (no-stage (Host id (Flush i)) tt event (λ k less. no-flush shape k id i less (no-half none)))
