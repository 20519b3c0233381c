-- What a port posts waits at its end.
use Rattle.std.proofs.Common.{◌≡◌, ◌⊎◌, inl, inr, ◌+◌, ◌≤◌, ◌<◌, ℕ, Bool, true, false, List, [], ◌∷◌, ◌++◌, length, Option, Some, None, refl, sym, ap, ◌∙◌, subst, append-nil, append_assoc, arith}
use Rattle.std.specs.Prelude.{All, is_some, min}
use Rattle.std.proofs.lemmas.List.Elements.{All-head, All-nil, All-tail}
use Rattle.ws_value.specs.declared.ids.PortId.{PortId}
use Rattle.ws_value.specs.declared.value.Message.{Message}
use Rattle.ws_value.specs.declared.value.Message.TheVariants.{Pull, Chunk, Close, Error}
use Rattle.ws_value.specs.declared.value.Value.{Value}
use Rattle.ws_value.specs.declared.value.Value.TheVariants.{Plain as PlainValue, Bytes}
use Rattle.ws_edge.specs.Edge.{AtEdge, given}
use Rattle.ws_flow.proofs.Ends.{goes_behind, told_append}
use Rattle.ws_flow.proofs.Steps.{goes_out, goes_rests}
use Rattle.ws_flow.proofs.Told.{then_assoc, short_refl, short_trans}
use Rattle.ws_flow.specs.Machines.{Machine}
use Rattle.ws_flow.specs.Parts.{AtWork, Goes}
use Rattle.ws_flow.specs.Rows.{told_by}
use Rattle.ws_flow.specs.Stages.{machines}
use Rattle.ws_flow.specs.Steps.{parts_at, behind_of}
use Rattle.ws_flow.specs.Told.{Open as MayCome, Told, told, then_told, IsShortOf}
use Rattle.ws_io.specs.Gain.{Gains, Got}
use Rattle.ws_io.specs.Moment.{Moment}
use Rattle.ws_laws.proofs.Tables.{eq_numbers}
use Rattle.ws_link_laws.specs.Link.{silence, heard_post, is_port}
use Rattle.ws_stages.specs.State.{State}
use Rattle.ws_steps.specs.declared.calls.Event.{Event}
use Rattle.ws_steps.specs.declared.calls.Event.TheVariants.{Post}
use Rattle.ws_steps.specs.PortHistory.{chunk_in, is_same_port, posted_by, posted_in}
use Rattle.ws_steps.specs.Run.{Entry, Heard}
use Rattle.ws_steps.specs.Slots.{empty}
use Rattle.ws_chain_laws.proofs.Nodes.{each_event_is_heard_at_one_link}
use Rattle.ws_chain_laws.specs.Chain.{Origin, FromChunks, FromBytes, FromPort, Target, ToSink, ToPort, behind_at, dest_of, last_ear, source_port, sink_port}
use Rattle.ws_chain_laws.specs.Nodes.{only_at}
use Rattle.ws_node_laws.specs.Edges.{goes_down_edge}
use Rattle.ws_node_laws.specs.Messages.{delivered_to, taken_events}
use Rattle.ws_realm.specs.Seen.{SeenRealm}
use Rattle.ws_realm.specs.declared.realm.Why.{Why}
use Rattle.ws_realm.specs.declared.realm.Why.TheVariants.{NoMemory}
use Rattle.ws_node.specs.declared.node.Abort.{Abort}
use Rattle.ws_node.specs.declared.node.Entrance.{Entrance}
use Rattle.ws_node.specs.declared.node.Node.{Node}
use Rattle.ws_node.specs.declared.node.Output.{Output}
use Rattle.ws_node.specs.declared.node.Output.TheVariants as output
use Rattle.ws_node.specs.Edges.{Waiting, NoRoom, NoEdge, WaitsAbove, WaitsBelow, Waits, waits_by, had_as, had_entrance, with_above, with_below}
use Rattle.ws_node.specs.Moves.{stopped_by, with_realm}
use Rattle.ws_node.specs.Near.{IsNear}
use Rattle.ws_node.specs.Node.{feeds_edge, is_edge, held, in_bytes, lies_in, lying, nothing_yet, parts, stages_in, waiting_at, works_in, port_below, coming, given_at, received_at}
use Rattle.ws_node.specs.Past.{IsFedAs, FeedsAs, IsGiven, Whole, FirstPart, WithLast, IsDelivered, HasMessages, EndHas, EndsHave, ArePushed, HasOne, may_have, Led, Since}
use Rattle.ws_node.specs.Shape.{Shape, count_in, hears_in}
use Rattle.ws_node.specs.Went.{EndGrows, ComesIn, ByEdge, GoesOut, ToEdge}
use Rattle.ws_node.proofs.Bytes.{lost-short}
use Rattle.ws_node.proofs.Changes.{led-ahead, led-at-above, led-below, led-stopped}
use Rattle.ws_node.proofs.Delivering.{port-is, feeds-edge, other-above, same-sink}
use Rattle.ws_node.proofs.Going.{as-many, works-count, going-acts, comes-quietly, goes-quietly, held-goes}
use Rattle.ws_node.proofs.Handing.{heard-lies, unheard-lies, one-quiet}
use Rattle.ws_node.proofs.Handled.{Handled}
use Rattle.ws_node.proofs.Legal.{Rests, rests-legal}
use Rattle.ws_node.proofs.Nearing.{near-given, near-same, near-stopped}
use Rattle.ws_node.proofs.Posting.{edge-rests}
use Rattle.ws_node.proofs.Quiet.{posted-append, stays-as, stays-going, end-since}
use Rattle.ws_node.proofs.Since.{AfterEvent, stages-count}
use Rattle.ws_node.proofs.Unheard.{at-there, at-elsewhere}

-- What is posted

-- a message that goes down tells in bytes what is heard of it; behind an error all is lost
pub tells : (m : Message) → goes_down_edge m ≡ true → (x : Told (List ℕ)) → IsShortOf (then_told (told_by (m ∷ [])) x) (then_told (in_bytes (heard_post m)) x)
tells Pull e x = absurd (cc)
tells (Chunk (Bytes b)) e x = short_refl (then_told (told (b ∷ []) MayCome) x)
tells (Chunk (PlainValue v)) e x = absurd (cc)
tells Close e x = (refl, refl)
tells (Error r) e x = lost-short (then_told nothing_yet x)

last-of : (P : Message → Type 0) (xs : List Message) (m : Message) → All P (xs ++ m ∷ []) → P m
last-of P [] m a = All-head P m [] a
last-of P (x ∷ xs) m a = last-of P xs m (All-tail P x (xs ++ m ∷ []) a)

pub the-port : (c d : PortId) → is_same_port c d ≡ true → d ≡ c
the-port c d e = ap (λ (x : ℕ). let z : PortId = record { 0 = x } in z) (sym (eq_numbers c.0 d.0 e))

-- the port of a sink of the node's own is none
no-ear : (o : Origin) (z : Target) (n : ℕ) (c : PortId) → is_same_port (sink_port o) c ≡ false → is_port (last_ear o z (dest_of n)) c ≡ false
no-ear o ToSink n c e = refl
no-ear o ToPort n c e = e

no-have : (o : Output) (x : Option Abort) → feeds_edge o ≡ true → may_have [] o x ≡ true → ⊥
no-have output.Edge x e h = absurd (cc)
no-have output.Open x e h = absurd (cc)
no-have output.Finished x e h = absurd (cc)
no-have output.Failed x e h = absurd (cc)
no-have output.Aborted x e h = absurd (cc)

-- what was had is counted off
record HadBy (m : Message) (x y : Entrance) : Type 0 where
  left : ℕ
  few : left ≤ x.ahead
  enough : min x.ahead 1 ≤ length (chunk_in m) + min left 1
  is : y ≡ record x { ahead = left }

had-is : (m : Message) (x : Entrance) → HadBy m x (had_entrance m x)
had-is (Chunk (Bytes b)) x = record { left = _; few = omega arith; enough = omega arith; is = refl }
had-is (Chunk (PlainValue v)) x = record { left = x.ahead; few = omega arith; enough = omega arith; is = refl }
had-is Pull x = record { left = x.ahead; few = omega arith; enough = omega arith; is = refl }
had-is Close x = record { left = x.ahead; few = omega arith; enough = omega arith; is = refl }
had-is (Error r) x = record { left = x.ahead; few = omega arith; enough = omega arith; is = refl }

-- An end of which more was told

end-told : (port : PortId) (past ys : List Entry) (e : Event) (stopped : Option Why) (o : Option AtEdge) → taken_events ys empty ≡ taken_events past empty ++ e ∷ [] → posted_by port e ≡ []
    → delivered_to port ys ≡ delivered_to port past → EndHas port past stopped o → EndHas port ys stopped o
end-told port past ys e stopped o told none same h =
    end-since port past ys stopped stopped o
    (ap (posted_in port) told ∙ (posted-append port (taken_events past empty) (e ∷ []) ∙ (ap (λ ms. posted_in port (taken_events past empty) ++ (ms ++ [])) none ∙ append-nil (posted_in port (taken_events past empty)))))
    same (stays-as stopped) h

-- where the realm stopped besides
end-stopped : (port : PortId) (ys : List Entry) (why : Why) (o : Option AtEdge) → EndHas port ys None o → EndHas port ys (Some why) o
end-stopped port ys why o h = end-since port ys ys None (Some why) o refl refl (stays-going None (Some why) refl) h

posted-more : (port : PortId) (past ys : List Entry) (m : Message) → taken_events ys empty ≡ taken_events past empty ++ Post port m ∷ [] → is_same_port port port ≡ true
    → posted_in port (taken_events ys empty) ≡ posted_in port (taken_events past empty) ++ m ∷ []
posted-more port past ys m told same =
    ap (posted_in port) told ∙ (posted-append port (taken_events past empty) (Post port m ∷ []) ∙ ap (λ ms. posted_in port (taken_events past empty) ++ ms) (rw same refl))

given-whole : (posted ms : List Message) → IsGiven posted ms None → ms ≡ posted
given-whole posted ms (Whole e) = e
given-whole posted ms (FirstPart s rest e) = absurd (cc)
given-whole posted ms (WithLast s first rest e none is) = absurd (cc)

-- it waits there
end-waits : (port : PortId) (past ys : List Entry) (m : Message) (e : AtEdge) → taken_events ys empty ≡ taken_events past empty ++ Post port m ∷ [] → is_same_port port port ≡ true
    → delivered_to port ys ≡ delivered_to port past → HasMessages port past None e → HasMessages port ys None (record e { waiting = e.waiting ++ m ∷ [] })
end-waits port past ys m e told same delivered h =
    record {
      given = Whole (sym (append_assoc e.to.sent e.waiting (m ∷ []))
          ∙ (ap (λ ms. ms ++ m ∷ []) (given-whole (posted_in port (taken_events past empty)) (given e) h.given) ∙ sym (posted-more port past ys m told same)));
      taken = subst (λ d. IsDelivered d e.from.received None) (sym delivered) h.taken;
    }

-- or there was no room
end-full : (port : PortId) (past ys : List Entry) (m : Message) (e : AtEdge) → taken_events ys empty ≡ taken_events past empty ++ Post port m ∷ [] → is_same_port port port ≡ true
    → delivered_to port ys ≡ delivered_to port past → HasMessages port past None e → HasMessages port ys (Some NoMemory) e
end-full port past ys m e told same delivered h =
    record {
      given = FirstPart refl (m ∷ [])
          (posted-more port past ys m told same ∙ ap (λ ms. ms ++ m ∷ []) (sym (given-whole (posted_in port (taken_events past empty)) (given e) h.given)));
      taken = let k : IsDelivered (delivered_to port past) e.from.received None = h.taken in
          record { rest = k.rest; first = k.first ∙ ap (λ d. d ++ k.rest) (sym delivered); all = λ f. absurd (cc) };
    }

-- What lies in the node

rest-goes : (shape : Shape) (a b : Node) → stages_in a.core ≡ shape.stages → works_in b.core ≡ works_in a.core → ((k : ℕ) → k ≤ count_in shape → IsShortOf (lies_in b k) (lies_in a k))
    → Goes (machines (stages_in a.core)) nothing_yet (parts a) (lying a) (parts b) (lying b)
rest-goes shape a b stages works short =
    subst (λ (ws : List AtWork). Goes (machines (stages_in a.core)) nothing_yet (parts a) (lying a) (parts_at 0 ws (lies_in b)) (behind_of 0 ws (lies_in b))) (sym works)
    (goes_rests (machines (stages_in a.core)) 0 (works_in a.core) (lies_in a) (lies_in b) (as-many a) (λ j some less. short j (let l = works-count shape a stages in omega arith)))

rows-grow : (o : Option AtEdge) (e f : AtEdge) → o ≡ Some e → f ≡ record e { waiting = f.waiting } → EndGrows o (Some f) [] []
rows-grow o e f is same =
    subst (λ z. EndGrows z (Some f) [] []) (sym is)
    (subst (λ (z : AtEdge). EndGrows (Some e) (Some z) [] []) (sym same) (record { rows = refl; received = sym (append-nil e.from.received); sent = sym (append-nil e.to.sent) }))

module _ (shape : Shape) (past : List Entry) (a : Node) (realm : SeenRealm) (t : Moment) (p q : Got) (gained : Gains p q []) (s : Since shape past a) (goes : a.core.stopped ≡ None) where
  abbrev was : Node
  was = with_realm realm a

  abbrev ys : List Entry
  ys = past ++ Heard ∷ []

  going-ends : (port : PortId) (o : Option AtEdge) → EndHas port past a.core.stopped o → EndHas port past None o
  going-ends port o h = subst (λ z. EndHas port past z o) goes h

  ends-going : (port : PortId) (o : Option AtEdge) → EndHas port ys None o → EndHas port ys a.core.stopped o
  ends-going port o h = subst (λ z. EndHas port ys z o) (sym goes) h

  -- nothing came in, and nothing went out
  waited : (b : Node) → Led shape ys b → (b.core.stopped ≡ None → ArePushed b.core.realm.slots.age b.core.stages.items) → HasOne b → EndsHave shape ys b → stages_in b.core ≡ stages_in a.core
      → Goes (machines (stages_in a.core)) nothing_yet (parts a) (held a) (parts b) (held b) → b.core.pipe ≡ a.core.pipe → b.core.pipes_before ≡ a.core.pipes_before → b.core.first ≡ a.core.first
      → ComesIn a.entrance b.entrance t t nothing_yet → GoesOut a.exit b.exit t t p q nothing_yet [] MayCome
      → (a.core.stages.items ≡ [] → is_edge a.entrance.input ≡ false → feeds_edge a.exit.output ≡ false → a.entrance.ahead ≤ b.entrance.ahead)
      → ((pieces : ℕ) → IsNear pieces a → IsNear (pieces + 0) b) → Handled shape a b t t p q
  waited b led pushes one ends stages on pipe pipes first from into ahead near =
      record {
        past = ys;
        led = led;
        pushes = pushes;
        one = one;
        ends = ends;
        went = record {
          read = nothing_yet;
          went = nothing_yet;
          gain = [];
          out = MayCome;
          core = record { moves = (record { stages = stages; goes = on }, tt); pipe = pipe; pipes = pipes; first = first };
          from = from;
          into = into;
          ahead = λ none by to. let h = ahead none by to in omega arith;
          near = λ head. near;
          short = λ fed some. absurd (omega arith);
          stays = going-acts a b t t nothing_yet [] goes;
        };
      }

  module _ (c : PortId) (m : Message) (event : AfterEvent shape past a realm (Post c m)) where
    abbrev e : Event
    e = Post c m

    pushed : a.core.stopped ≡ None → ArePushed realm.slots.age a.core.stages.items
    pushed f = subst (λ (n : ℕ). ArePushed n a.core.stages.items) (sym event.age) (s.pushes f)

    -- where no link hears of it
    module _ (quiet : (k : ℕ) → k ≤ count_in shape → hears_in shape k e ≡ silence) where
      lies-quiet : (k : ℕ) → k ≤ count_in shape → IsShortOf (lies_in was k) (lies_in a k)
      lies-quiet k less = unheard-lies shape past a realm e event goes (coming a k) k less (ap in_bytes (quiet k less))

      one-was : HasOne was
      one-was fed may = one-quiet a.entrance.ahead (hears_in shape 0 e) (behind_at 0 realm.slots) (behind_at 0 a.core.realm.slots) (quiet 0 (omega arith)) (event.short 0 (omega arith)) (s.one fed may)

      -- of the node it tells nothing
      told-nothing : EndsHave shape ys was → Handled shape a was t t p q
      told-nothing ends =
          waited was event.led pushed one-was ends refl (held-goes a was nothing_yet refl (rest-goes shape a was s.led.is_of.stages refl lies-quiet)) refl refl refl
          (comes-quietly a.entrance a.entrance t refl refl refl refl refl) (goes-quietly a.exit a.exit t p q gained refl refl refl refl) (λ none by to. omega arith)
          (λ pieces is. near-same a was pieces (λ z. z) refl refl refl refl is)

      -- it waits above
      waits-up : (x y : AtEdge) → a.entrance.above ≡ Some x → y ≡ record x { waiting = y.waiting } → EndsHave shape ys (with_above y was) → Handled shape a (with_above y was) t t p q
      waits-up x y is same ends =
          waited (with_above y was) (led-at-above shape ys was x y is (ap (λ (z : AtEdge). z.from.received) same) event.led) pushed one-was ends refl
          (held-goes a (with_above y was) nothing_yet refl (rest-goes shape a (with_above y was) s.led.is_of.stages refl lies-quiet)) refl refl refl (up shape.origin s.led.is_of.from)
          (goes-quietly a.exit a.exit t p q gained refl refl refl refl) (λ none by to. omega arith) (λ pieces is_near. near-same a (with_above y was) pieces (λ z. z) refl refl refl refl is_near) where
            up : (o : Origin) → IsFedAs o a.entrance → ComesIn a.entrance (record a.entrance { above = Some y }) t t nothing_yet
            up FromBytes (off, none) = absurd (let f : None ≡ Some x = sym none ∙ is in cc)
            up FromPort (on, some) =
                ByEdge on (record {
                  taken = [];
                  posted = [];
                  end = rows-grow a.entrance.above x y is same;
                  came_is = refl;
                  short = All-nil (λ c. length c < 33554432);
                  goes = edge-rests a.entrance.input on;
                  unread = (refl, refl);
                  counted = refl;
                  source = refl;
                  most = refl;
                })
            up FromChunks f = absurd f

    -- it finds no room, above or below
    stops : (k : ℕ) → k ≤ a.entrance.ahead → (a.core.stages.items ≡ [] → is_edge a.entrance.input ≡ false → feeds_edge a.exit.output ≡ false → a.entrance.ahead ≤ k)
        → let n : Node = record was { entrance = record a.entrance { ahead = k } } in HasOne n → EndsHave shape ys (stopped_by NoMemory n) → Handled shape a (stopped_by NoMemory n) t t p q
    stops k few ahead one ends =
        let n : Node = record was { entrance = record a.entrance { ahead = k } } in
        let b : Node = stopped_by NoMemory n in
        waited b (led-stopped shape ys n NoMemory (λ f. absurd (cc)) (led-ahead shape ys was k few event.led)) (λ f. absurd (cc)) one ends refl
        (held-goes a b nothing_yet refl (rest-goes shape a b s.led.is_of.stages refl (λ j less. lost-short (lies_in a j)))) refl refl refl
        (comes-quietly a.entrance (record a.entrance { ahead = k }) t refl refl refl refl refl) (goes-quietly a.exit a.exit t p q gained refl refl refl refl) ahead
        (λ pieces is. near-stopped a b NoMemory pieces refl refl refl is)

    -- it waits below
    module _ (x y : AtEdge) (is : a.exit.below ≡ Some x) (same : y ≡ record x { waiting = x.waiting ++ m ∷ [] }) (feeds : shape.target ≡ ToPort) (own : is_same_port (sink_port shape.origin) c ≡ true) where
      heard-last : (k : ℕ) → k ≤ count_in shape → hears_in shape k e ≡ only_at (count_in shape) (heard_post m) k
      heard-last k less =
          (each_event_is_heard_at_one_link shape.origin shape.target (count_in shape) k less).post c m
          (subst (λ (z : Target). is_port (last_ear shape.origin z (dest_of (count_in shape))) c ≡ true) (sym feeds) own)

      on : (k : ℕ) → let b : Node = with_below y (record was { entrance = record a.entrance { ahead = k } }) in goes_down_edge m ≡ true
          → Goes (machines (stages_in a.core)) nothing_yet (parts a) (held a) (parts b) (held b)
      on k down =
          subst (Goes ms nothing_yet (parts a) (held a) (parts b)) (sym is_held)
          (goes_behind ms nothing_yet (parts a) (lying a) (parts b) (then_told (told_by (m ∷ [])) (lying b)) (told_by (waiting_at a.exit.below))
          (goes_out ms 0 (works_in a.core) (lies_in a) (lies_in b) (told_by (m ∷ [])) (as-many a) before last)) where
            b : Node
            b = with_below y (record was { entrance = record a.entrance { ahead = k } })

            ms : List Machine
            ms = machines (stages_in a.core)

            count : 0 + length (works_in a.core) ≡ count_in shape
            count = let l = works-count shape a s.led.is_of.stages in omega arith

            before : (j : ℕ) → 0 ≤ j → j < 0 + length (works_in a.core) → IsShortOf (lies_in b j) (lies_in a j)
            before j some less =
                let l = works-count shape a s.led.is_of.stages in
                unheard-lies shape past a realm e event goes (coming a j) j (omega arith)
                (ap in_bytes (heard-last j (omega arith) ∙ at-elsewhere (count_in shape) j (heard_post m) (omega arith)))

            last : IsShortOf (then_told (told_by (m ∷ [])) (lies_in b (0 + length (works_in a.core)))) (lies_in a (0 + length (works_in a.core)))
            last =
                subst (λ (j : ℕ). IsShortOf (then_told (told_by (m ∷ [])) (lies_in b j)) (lies_in a j)) (sym count)
                (short_trans _ _ _ (tells m down (lies_in b (count_in shape)))
                (subst (λ (z : Told Value). IsShortOf (then_told (in_bytes z) (lies_in b (count_in shape))) (lies_in a (count_in shape)))
                (heard-last (count_in shape) (omega arith) ∙ at-there (count_in shape) (heard_post m))
                (heard-lies shape past a realm e event goes (coming a (count_in shape)) (count_in shape) (omega arith))))

            is_held : held b ≡ then_told (told_by (waiting_at a.exit.below)) (then_told (told_by (m ∷ [])) (lying b))
            is_held =
                ap (λ (z : AtEdge). then_told (told_by z.waiting) (lying b)) same
                ∙ (ap (λ z. then_told z (lying b)) (told_append x.waiting (m ∷ []))
                ∙ (then_assoc (told_by x.waiting) (told_by (m ∷ [])) (lying b) ∙ ap (λ (o : Option AtEdge). then_told (told_by (waiting_at o)) (then_told (told_by (m ∷ [])) (lying b))) (sym is)))

      waits-down : (k : ℕ) → k ≤ a.entrance.ahead → min a.entrance.ahead 1 ≤ length (chunk_in m) + min k 1 → let b : Node = with_below y (record was { entrance = record a.entrance { ahead = k } }) in HasOne b → EndsHave shape ys b → Handled shape a b t t p q
      waits-down k few enough one ends =
          waited b led pushed one ends refl (on k down) refl refl refl (comes-quietly a.entrance (record a.entrance { ahead = k }) t refl refl refl refl refl)
          (ToEdge outs (record {
            taken = [];
            posted = [];
            end = rows-grow a.exit.below x y is (same ∙ ap (λ ms. record x { waiting = ms }) (sym (ap (λ (z : AtEdge). z.waiting) same)));
            went_is = refl;
            gained = gained;
            output = refl;
            may_come = refl;
            alone = record { none = refl; calm = refl; finished = refl };
            abort = refl;
            sink = refl;
          })) (λ none by to. absurd (let f : false ≡ true = sym to ∙ outs in cc))
          (λ pieces is_near. near-given a b m pieces goes more (ap (λ (z : AtEdge). z.from.received) same ∙ ap received_at (sym is)) refl enough is_near) where
            b : Node
            b = with_below y (record was { entrance = record a.entrance { ahead = k } })

            more : given_at b.exit.below ≡ given_at a.exit.below ++ m ∷ []
            more = ap (λ (z : AtEdge). given z) same ∙ (sym (append_assoc x.to.sent x.waiting (m ∷ [])) ∙ ap (λ (o : Option AtEdge). given_at o ++ m ∷ []) (sym is))

            outs : feeds_edge a.exit.output ≡ true
            outs = feeds-edge shape.target a.exit feeds s.led.is_of.into

            led : Led shape ys b
            led = led-below shape ys (record was { entrance = record a.entrance { ahead = k } }) x y is (led-ahead shape ys was k few event.led)

            rests : Rests shape ys b
            rests =
                let l = led in
                let fit = l.is_of.fit in
                record { few = fit.few; opened = l.ran.opened; fair = l.clones; from = l.is_of.from; into = l.is_of.into; ends = ends }

            down : goes_down_edge m ≡ true
            down =
                last-of (λ z. goes_down_edge z ≡ true) (x.to.sent ++ x.waiting) m
                (subst (All (λ z. goes_down_edge z ≡ true)) (ap (λ (z : AtEdge). given z) same ∙ sym (append_assoc x.to.sent x.waiting (m ∷ []))) (rests-legal shape ys b rests).down.kinds)

  -- what the end of the edge above has where this is told of another port
  up-told : (c : PortId) (m : Message) → AfterEvent shape past a realm (Post c m) → (a.entrance.above ≡ None) ⊎ (is_same_port source_port c ≡ false) → EndHas source_port ys a.core.stopped a.entrance.above
  up-told c m event (inl none) = subst (EndHas source_port ys a.core.stopped) (sym none) tt
  up-told c m event (inr apart) =
      end-told source_port past ys (Post c m) a.core.stopped a.entrance.above event.told (rw apart refl) (event.delivered source_port) s.ends.above

  down-told : (c : PortId) (m : Message) → AfterEvent shape past a realm (Post c m) → is_same_port (sink_port shape.origin) c ≡ false → EndHas (sink_port shape.origin) ys a.core.stopped a.exit.below
  down-told c m event apart =
      end-told (sink_port shape.origin) past ys (Post c m) a.core.stopped a.exit.below event.told (rw apart refl) (event.delivered (sink_port shape.origin)) s.ends.below

  -- below

  module _ (m : Message) (event : AfterEvent shape past a realm (Post (sink_port shape.origin) m)) where
    abbrev port : PortId
    port = sink_port shape.origin

    above-stays : EndHas source_port ys a.core.stopped a.entrance.above
    above-stays = up-told port m event (other-above shape.origin a.entrance s.led.is_of.from)

    stops-above : EndHas source_port ys (Some NoMemory) a.entrance.above
    stops-above = end-stopped source_port ys NoMemory a.entrance.above (subst (λ z. EndHas source_port ys z a.entrance.above) goes above-stays)

    module _ (x : AtEdge) (is : a.exit.below ≡ Some x) where
      feeds : shape.target ≡ ToPort
      feeds = by shape.target s.led.is_of.into where
        by : (z : Target) → FeedsAs z a.exit → z ≡ ToPort
        by ToSink g = absurd (let h : None ≡ Some x = sym g.1 ∙ is in cc)
        by ToPort g = refl

      outs : feeds_edge a.exit.output ≡ true
      outs = feeds-edge shape.target a.exit feeds s.led.is_of.into

      had : HasMessages port past None x
      had = subst (EndHas port past None) is (going-ends port a.exit.below s.ends.below)

      abbrev y : AtEdge
      y = record x { waiting = x.waiting ++ m ∷ [] }

      ends-down : (k : ℕ) → EndsHave shape ys (with_below y (record was { entrance = record a.entrance { ahead = k } }))
      ends-down k = record {
        above = above-stays;
        below = ends-going port (Some y) (end-waits port past ys m x event.told (same-sink shape.origin) (event.delivered port) had);
      }

      ends-full : (k : ℕ) → EndsHave shape ys (stopped_by NoMemory (record was { entrance = record a.entrance { ahead = k } }))
      ends-full k = record {
        above = stops-above;
        below = subst (EndHas port ys (Some NoMemory)) (sym is) (end-full port past ys m x event.told (same-sink shape.origin) (event.delivered port) had);
      }

      -- what is behind the first link, where a stage has it first, and without stages
      one-stages : (w : State) (ws : List State) → a.core.stages.items ≡ w ∷ ws → HasOne was
      one-stages w ws e fed may =
          one-quiet a.entrance.ahead (hears_in shape 0 (Post port m)) (behind_at 0 realm.slots) (behind_at 0 a.core.realm.slots)
          (heard-last port m event x y is refl feeds (same-sink shape.origin) 0 (omega arith)
          ∙ at-elsewhere (count_in shape) 0 (heard_post m) (λ f. let l = stages-count shape past a s.led in let g = ap length e in omega arith))
          (event.short 0 (omega arith)) (s.one fed may)

      one-none : (k : ℕ) → a.core.stages.items ≡ [] → HasOne (record was { entrance = record a.entrance { ahead = k } })
      one-none k e fed may = absurd (no-have a.exit.output a.exit.abort outs (subst (λ ws. may_have ws a.exit.output a.exit.abort ≡ true) e may))

      no-ahead : (k : ℕ) → a.core.stages.items ≡ [] → is_edge a.entrance.input ≡ false → feeds_edge a.exit.output ≡ false → a.entrance.ahead ≤ k
      no-ahead k none by to = absurd (let f : false ≡ true = sym to ∙ outs in cc)

      waits-by : (ws : List State) → a.core.stages.items ≡ ws → Handled shape a (with_below y (had_as ws m was)) t t p q
      waits-by [] e =
          let d = had-is m a.entrance in
          subst (λ (z : Entrance). Handled shape a (with_below y (record was { entrance = z })) t t p q) (sym d.is)
          (waits-down port m event x y is refl feeds (same-sink shape.origin) d.left d.few d.enough (one-none d.left e) (ends-down d.left))
      waits-by (w ∷ ws) e = waits-down port m event x y is refl feeds (same-sink shape.origin) a.entrance.ahead (omega arith) (omega arith) (one-stages w ws e) (ends-down a.entrance.ahead)

      full-by : (ws : List State) → a.core.stages.items ≡ ws → Handled shape a (stopped_by NoMemory (had_as ws m was)) t t p q
      full-by [] e =
          let d = had-is m a.entrance in
          subst (λ (z : Entrance). Handled shape a (stopped_by NoMemory (record was { entrance = z })) t t p q) (sym d.is)
          (stops port m event d.left d.few (no-ahead d.left) (one-none d.left e) (ends-full d.left))
      full-by (w ∷ ws) e = stops port m event a.entrance.ahead (omega arith) (no-ahead a.entrance.ahead) (one-stages w ws e) (ends-full a.entrance.ahead)

    no-edge : a.exit.below ≡ None → Handled shape a was t t p q
    no-edge none =
        told-nothing port m event quiet (record { above = above-stays; below = subst (EndHas port ys a.core.stopped) (sym none) tt }) where
          to_sink : shape.target ≡ ToSink
          to_sink = by shape.target s.led.is_of.into where
            by : (z : Target) → FeedsAs z a.exit → z ≡ ToSink
            by ToSink g = refl
            by ToPort g = absurd (let h : false ≡ true = sym (ap is_some none) ∙ g.1 in cc)

          quiet : (k : ℕ) → k ≤ count_in shape → hears_in shape k (Post port m) ≡ silence
          quiet k less =
              (each_event_is_heard_at_one_link shape.origin shape.target (count_in shape) k less).post_elsewhere port m
              (ap (λ (z : Target). is_port (last_ear shape.origin z (dest_of (count_in shape))) port) to_sink)

    waits-below : (b : Node) → WaitsBelow m was b → Handled shape a b t t p q
    waits-below b (Waiting x is same) = subst (λ (n : Node). Handled shape a n t t p q) (sym same) (waits-by x is a.core.stages.items refl)
    waits-below b (NoRoom x is same) = subst (λ (n : Node). Handled shape a n t t p q) (sym same) (full-by x is a.core.stages.items refl)
    waits-below b (NoEdge none same) = subst (λ (n : Node). Handled shape a n t t p q) (sym same) (no-edge none)

  -- above, or nowhere

  unheard : (c : PortId) (m : Message) → is_same_port (sink_port shape.origin) c ≡ false → (k : ℕ) → k ≤ count_in shape → hears_in shape k (Post c m) ≡ silence
  unheard c m apart k less =
      (each_event_is_heard_at_one_link shape.origin shape.target (count_in shape) k less).post_elsewhere c m (no-ear shape.origin shape.target (count_in shape) c apart)

  module _ (m : Message) (event : AfterEvent shape past a realm (Post source_port m)) (apart : is_same_port (sink_port shape.origin) source_port ≡ false) where
    below-stays : EndHas (sink_port shape.origin) ys a.core.stopped a.exit.below
    below-stays = down-told source_port m event apart

    waits-above : (b : Node) → WaitsAbove m was b → Handled shape a b t t p q
    waits-above b (Waiting x is same) =
        subst (λ (n : Node). Handled shape a n t t p q) (sym same)
        (waits-up source_port m event (unheard source_port m apart) x (record x { waiting = x.waiting ++ m ∷ [] }) is refl
        (record {
          above = ends-going source_port (Some (record x { waiting = x.waiting ++ m ∷ [] }))
              (end-waits source_port past ys m x event.told refl (event.delivered source_port) (subst (EndHas source_port past None) is (going-ends source_port a.entrance.above s.ends.above)));
          below = below-stays;
        }))
    waits-above b (NoRoom x is same) =
        subst (λ (n : Node). Handled shape a n t t p q) (sym same)
        (stops source_port m event a.entrance.ahead (omega arith) (λ none by to. omega arith) (one-was source_port m event (unheard source_port m apart))
        (record {
          above = subst (EndHas source_port ys (Some NoMemory)) (sym is)
              (end-full source_port past ys m x event.told refl (event.delivered source_port) (subst (EndHas source_port past None) is (going-ends source_port a.entrance.above s.ends.above)));
          below = end-stopped (sink_port shape.origin) ys NoMemory a.exit.below (subst (λ z. EndHas (sink_port shape.origin) ys z a.exit.below) goes below-stays);
        }))
    waits-above b (NoEdge none same) =
        subst (λ (n : Node). Handled shape a n t t p q) (sym same)
        (told-nothing source_port m event (unheard source_port m apart)
        (record { above = subst (EndHas source_port ys a.core.stopped) (sym none) tt; below = below-stays }))

  waits-nowhere : (c : PortId) (m : Message) → AfterEvent shape past a realm (Post c m) → is_same_port (sink_port shape.origin) c ≡ false → is_same_port source_port c ≡ false → Handled shape a was t t p q
  waits-nowhere c m event below above =
      told-nothing c m event (unheard c m below) (record { above = up-told c m event (inr above); below = down-told c m event below })

  waits-at : (c : PortId) (m : Message) (b : Node) (down up : Bool) → is_same_port (sink_port shape.origin) c ≡ down → is_same_port source_port c ≡ up → AfterEvent shape past a realm (Post c m)
      → waits_by down up m was b → Handled shape a b t t p q
  waits-at c m b true up e f event h = waits-below m (subst (λ (z : PortId). AfterEvent shape past a realm (Post z m)) (the-port (sink_port shape.origin) c e) event) b h
  waits-at c m b false true e f event h =
      let is : c ≡ source_port = the-port source_port c f in
      waits-above m (subst (λ (z : PortId). AfterEvent shape past a realm (Post z m)) is event) (subst (λ (z : PortId). is_same_port (sink_port shape.origin) z ≡ false) is e) b h
  waits-at c m b false false e f event h = subst (λ (n : Node). Handled shape a n t t p q) (sym h) (waits-nowhere c m event e f)

pub waits : (shape : Shape) (past : List Entry) (a : Node) (realm : SeenRealm) (b : Node) (c : PortId) (m : Message) (t : Moment) (p q : Got) → Gains p q [] → Since shape past a
    → a.core.stopped ≡ None → AfterEvent shape past a realm (Post c m) → Waits c m (with_realm realm a) b → Handled shape a b t t p q
waits shape past a realm b c m t p q gained s goes event h =
    waits-at shape past a realm t p q gained s goes c m b (is_same_port (port_below a.entrance) c) (is_same_port source_port c)
    (ap (λ (z : PortId). is_same_port z c) (sym (port-is shape.origin a.entrance s.led.is_of.from))) refl event h
