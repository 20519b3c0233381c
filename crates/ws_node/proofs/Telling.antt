-- A node that finds no memory tells its neighbours so: an error waits behind all that was given to the ends of its edges, and what waits is posted.
use Rattle.std.proofs.Common.{◌≡◌, ◌+◌, ◌≤◌, ◌<◌, ℕ, Bool, true, false, if◌then◌else◌, List, [], ◌∷◌, ◌++◌, length, Option, Some, None, refl, sym, ap, ◌∙◌, subst, append-nil, append_assoc, arith}
use Rattle.std.specs.List.{concat}
use Rattle.ws_value.specs.declared.fault.Fault.TheVariants.{NoMemory as NoMemoryFault}
use Rattle.ws_value.specs.declared.ids.PortId.{PortId}
use Rattle.ws_value.specs.declared.value.Message.{Message}
use Rattle.ws_value.specs.declared.value.Message.TheVariants.{Error}
use Rattle.ws_value.specs.declared.value.Plain.{Plain}
use Rattle.ws_value.specs.declared.value.Plain.TheVariants.{Fault as FaultReason}
use Rattle.ws_edge.specs.Edge.{AtEdge, given, last_error}
use Rattle.ws_flow.proofs.Ends.{told_append}
use Rattle.ws_flow.proofs.Steps as steps
use Rattle.ws_flow.proofs.Told.{then_assoc, then_empty}
use Rattle.ws_flow.specs.Rows.{told_by}
use Rattle.ws_flow.specs.Told.{Mark, Open as MayCome, Closed, Broken, Lost, Told, told, then_told}
use Rattle.ws_io.specs.Gain.{Got}
use Rattle.ws_io.specs.Moment.{Moment}
use Rattle.ws_steps.specs.PortHistory.{has_end, posted_in}
use Rattle.ws_steps.specs.Run.{Entry}
use Rattle.ws_steps.specs.Slots.{empty}
use Rattle.ws_chain_laws.specs.Chain.{behind_at, source_port, sink_port}
use Rattle.ws_node_laws.specs.Messages.{taken_events}
use Rattle.ws_realm.specs.declared.realm.Why.{Why}
use Rattle.ws_realm.specs.declared.realm.Why.TheVariants as why
use Rattle.ws_node.specs.declared.node.Exit.{Exit}
use Rattle.ws_node.specs.declared.node.Node.{Node}
use Rattle.ws_node.specs.Edges.{TellsBoth, posts_at, tells_at}
use Rattle.ws_node.specs.Node.{in_bytes, coming, held, lies_in, lying, lying_by, nothing_yet, received_at, rows_at, sent_at, waiting_at, works_in}
use Rattle.ws_node.specs.Past.{IsGiven, Whole, FirstPart, WithLast, EndHas, EndsHave, IsFed, Led, Since, Driven}
use Rattle.ws_node.specs.Shape.{Shape}
use Rattle.ws_node.specs.Turns.{EndGrowsBy, IsToldAt}
use Rattle.ws_node.specs.Went.{EndGrows, GoesOut, Went}
use Rattle.ws_node.proofs.Going.{comes-then, core-then, fed-went, outs-then, head-stays, short-then}
use Rattle.ws_node.proofs.Nearing.{near-stopped, near-then}
use Rattle.ws_node.proofs.Posting.{Grows, GoesBy, core-posts, end-same, from-posts, grows-received, into-posts, led-ends, posts-grow, waits-is, went-of, with_ends}

abbrev pub wanting : Plain
wanting = FaultReason NoMemoryFault

-- the end as it is told
abbrev tell_of : Option AtEdge → Option AtEdge
tell_of None = None
tell_of (Some e) = Some (record e { waiting = e.waiting ++ last_error wanting e })

tells-is : (o q : Option AtEdge) → tells_at o q → q ≡ tell_of o
tells-is None q h = h
tells-is (Some e) q h = h

tell-rows : (o : Option AtEdge) → rows_at (tell_of o) ≡ rows_at o
tell-rows None = refl
tell-rows (Some e) = refl

tell-received : (o : Option AtEdge) → received_at (tell_of o) ≡ received_at o
tell-received None = refl
tell-received (Some e) = refl

tell-sent : (o : Option AtEdge) → sent_at (tell_of o) ≡ sent_at o
tell-sent None = refl
tell-sent (Some e) = refl

-- and then it posts
tell-grows : (o q : Option AtEdge) → (g : Grows (tell_of o) q) → EndGrows o q [] g.posted
tell-grows o q g = record {
  rows = g.end.rows ∙ tell-rows o;
  received = g.end.received ∙ ap (λ ms. ms ++ []) (tell-received o);
  sent = g.end.sent ∙ ap (λ ms. ms ++ g.posted) (tell-sent o);
}

-- what was given to it

ends-so : (ms : List Message) (r : Plain) → has_end (ms ++ Error r ∷ []) ≡ true
ends-so [] r = refl
ends-so (m ∷ ms) r = grind (arith, ends-so ms r)

pub last-given : (posted ms : List Message) (b : Bool) → has_end ms ≡ b → IsGiven posted ms (Some why.NoMemory) → IsGiven posted (ms ++ (if b then [] else Error wanting ∷ [])) (Some why.NoMemory)
last-given posted ms true e h = subst (λ xs. IsGiven posted xs (Some why.NoMemory)) (sym (append-nil ms)) h
last-given posted ms false e (Whole is) = WithLast refl ms [] (sym is ∙ sym (append-nil ms)) e refl
last-given posted ms false e (FirstPart s rest is) = WithLast s ms rest is e refl
last-given posted ms false e (WithLast s first rest is none all) = absurd (let f : has_end ms ≡ true = ap has_end all ∙ ends-so first wanting in cc)

tell-has : (port : PortId) (past : List Entry) (o : Option AtEdge) → EndHas port past (Some why.NoMemory) o → EndHas port past (Some why.NoMemory) (tell_of o)
tell-has port past None h = tt
tell-has port past (Some e) h = record {
  given = subst (λ xs. IsGiven (posted_in port (taken_events past empty)) xs (Some why.NoMemory)) (append_assoc e.to.sent e.waiting (last_error wanting e))
      (last-given (posted_in port (taken_events past empty)) (given e) (has_end (given e)) refl h.given);
  taken = h.taken;
}

-- so all that was given has an end, and the end posts that as far as there is room

looks-on : (x y z : ℕ) → x ≤ y → y < z → x < z
looks-on x y z f g = omega (arith, f, g)

last-ends : (ms : List Message) (b : Bool) → has_end ms ≡ b → has_end (ms ++ (if b then [] else Error wanting ∷ [])) ≡ true
last-ends ms true e = ap has_end (append-nil ms) ∙ e
last-ends ms false e = ends-so ms wanting

told-ends-so : (y : AtEdge) → has_end (given (record y { waiting = y.waiting ++ last_error wanting y })) ≡ true
told-ends-so y = ap has_end (sym (append_assoc y.to.sent y.waiting (last_error wanting y))) ∙ last-ends (given y) (has_end (given y)) refl

pub told-end : (heard : List Message) (stopped : Option Why) (posted : Bool) (o q m r : Option AtEdge) → EndGrowsBy heard stopped o q → tells_at q m → posts_at posted m r → IsToldAt o r
told-end heard stopped posted None q m r g t h = (subst (λ z. posts_at posted z r) (subst (λ z. tells_at z m) g t) h).0
told-end heard stopped posted (Some x) None m r g t h = absurd g
told-end heard stopped posted (Some x) (Some y) m r g t h = by r (subst (λ z. posts_at posted z r) t h) where
  by : (z : Option AtEdge) → posts_at posted (Some (record y { waiting = y.waiting ++ last_error wanting y })) z → IsToldAt (Some x) z
  by None h = absurd h
  by (Some z) h = record {
    ended = ap has_end h.given_is ∙ told-ends-so y;
    full = λ some. let f = h.full some in (looks-on x.to.looks y.to.looks z.to.looks g.1 f.0, f.1);
  }

-- nothing lies in a node that has stopped, so an error behind all is no less

tell-lost : (ms : List Message) (b : Bool) → then_told (told_by ms) (told [] Lost) ≡ then_told (told_by (ms ++ (if b then [] else Error wanting ∷ []))) (told [] Lost)
tell-lost ms true = ap (λ xs. then_told (told_by xs) (told [] Lost)) (sym (append-nil ms))
tell-lost ms false =
    sym (ap (λ x. then_told x (told [] Lost)) (told_append ms (Error wanting ∷ [])) ∙ then_assoc (told_by ms) (told [] Lost) (told [] Lost))

tell-waits : (o : Option AtEdge) → then_told (told_by (waiting_at o)) (told [] Lost) ≡ then_told (told_by (waiting_at (tell_of o))) (told [] Lost)
tell-waits None = refl
tell-waits (Some e) = tell-lost e.waiting (has_end (given e))

lying-lost : (n : Node) (w : Why) → n.core.stopped ≡ Some w → lying n ≡ told [] Lost
lying-lost n w e =
    let k : ℕ = 0 + length (works_in n.core) in
    steps.behind_at 0 (works_in n.core) (lies_in n) ∙ ap (λ (o : Option Why). lying_by o (then_told (in_bytes (behind_at k n.core.realm.slots)) (coming n k))) e

tell-held : (n : Node) (w : Why) → n.core.stopped ≡ Some w → held n ≡ then_told (told_by (waiting_at (tell_of n.exit.below))) (lying n)
tell-held n w e =
    let lost = lying-lost n w e in
    ap (then_told (told_by (waiting_at n.exit.below))) lost ∙ (tell-waits n.exit.below ∙ ap (then_told (told_by (waiting_at (tell_of n.exit.below)))) (sym lost))

module _ (shape : Shape) (past : List Entry) (n : Node) (stopped : n.core.stopped ≡ Some why.NoMemory) (q r : Option AtEdge) (up : Grows (tell_of n.entrance.above) q) (down : Grows (tell_of n.exit.below) r) where
  told-goes : (m : Moment) (p : Got) → Led shape past n → GoesBy n (with_ends q r n) m m p p
  told-goes m p s =
      record {
        read = nothing_yet;
        went = told_by down.posted;
        gain = [];
        out = MayCome;
        core = core-posts n q r down.posted (tell-held n why.NoMemory stopped ∙ waits-is (waiting_at (tell_of n.exit.below)) down.posted (waiting_at r) (lying n) down.rest);
        from = from-posts shape.origin n.entrance q up.posted m s.is_of.from (tell-grows n.entrance.above q up);
        into = into-posts shape.target n.exit r down.posted m p s.is_of.into (tell-grows n.exit.below r down);
        ahead = λ none by to. omega arith;
        near = λ head pieces is.
            near-stopped n (with_ends q r n) why.NoMemory pieces stopped (grows-received (tell_of n.exit.below) r down ∙ tell-received n.exit.below) refl is;
        short = λ fed some. absurd (omega arith);
      }

  told-led : Led shape past n → Led shape past (with_ends q r n)
  told-led s =
      led-ends shape past n q r (up.end.rows ∙ tell-rows n.entrance.above) (grows-received (tell_of n.entrance.above) q up ∙ tell-received n.entrance.above)
      (down.end.rows ∙ tell-rows n.exit.below) s

  told-has : (port : PortId) (o z : Option AtEdge) → Grows (tell_of o) z → EndHas port past n.core.stopped o → EndHas port past n.core.stopped z
  told-has port o z g h =
      subst (λ x. EndHas port past x z) (sym stopped)
      (end-same port past (Some why.NoMemory) (tell_of o) z g (tell-has port past o (subst (λ x. EndHas port past x o) stopped h)))

  told-ends : EndsHave shape past n → EndsHave shape past (with_ends q r n)
  told-ends h = record { above = told-has source_port n.entrance.above q up h.above; below = told-has (sink_port shape.origin) n.exit.below r down h.below }

-- behind all that a node did in a turn

rests-out : (a b c : Exit) (x y : Told (List ℕ)) (g : List ℕ) (o : Mark) (m₀ m₁ m₂ : Moment) (p q r : Got) → GoesOut a b m₀ m₁ p q x g o → GoesOut b c m₁ m₂ q r y [] MayCome
    → GoesOut a c m₀ m₂ p r (then_told x y) (g ++ []) o
rests-out a b c x y g MayCome m₀ m₁ m₂ p q r first second = outs-then a b c x y g [] MayCome MayCome m₀ m₁ m₂ p q r first second
rests-out a b c x y g Closed m₀ m₁ m₂ p q r first second = outs-then a b c x y g [] Closed MayCome m₀ m₁ m₂ p q r first second
rests-out a b c x y g Broken m₀ m₁ m₂ p q r first second = outs-then a b c x y g [] Broken MayCome m₀ m₁ m₂ p q r first second
rests-out a b c x y g Lost m₀ m₁ m₂ p q r first second = outs-then a b c x y g [] Lost MayCome m₀ m₁ m₂ p q r first second

-- The node told its neighbours: it is as it was but for its ends
pub record ToldAll (a c : Node) (m₀ m₁ : Moment) (p q : Got) : Type 0 where
  pub driven : Driven c
  pub went : Went a c m₀ m₁ p q

pub tells : (a d c : Node) (m₀ m₁ : Moment) (p q : Got) → Driven a → a.core.stopped ≡ None → Went a d m₀ m₁ p q → Driven d → d.core.stopped ≡ Some why.NoMemory → TellsBoth d c
    → ToldAll a c m₀ m₁ p q
unfolding told-goes
tells a d c m₀ m₁ p q start goes on now stopped h =
    subst (λ (n : Node). ToldAll a n m₀ m₁ p q) (sym (h.posts.is ∙ ap (λ (n : Node). with_ends above below n) h.is))
    (record {
      driven = record {
        shape = now.shape;
        past = now.past;
        since = record {
          led = told-led now.shape now.past d stopped above below up down s.led;
          pushes = s.pushes;
          one = s.one;
          fed = subst (λ ss. IsFed ss told) (sym same) (fed-went start.shape.stages a told m₀ m₁ p q start.since.fed start.since.led.is_of.stages whole);
          ends = told-ends now.shape now.past d stopped above below up down s.ends;
        };
      };
      went = whole;
    }) where
      above : Option AtEdge
      above = c.entrance.above

      below : Option AtEdge
      below = c.exit.below

      told : Node
      told = with_ends above below d

      s : Since now.shape now.past d
      s = now.since

      up : Grows (tell_of d.entrance.above) above
      up = subst (λ o. Grows o above) (tells-is d.entrance.above h.mid.entrance.above h.tells_above) (posts-grow h.posts.above h.mid.entrance.above above h.posts.posts_above)

      down : Grows (tell_of d.exit.below) below
      down = subst (λ o. Grows o below) (tells-is d.exit.below h.mid.exit.below h.tells_below) (posts-grow h.posts.below h.mid.exit.below below h.posts.posts_below)

      more : GoesBy d told m₁ m₁ q q
      more = told-goes now.shape now.past d stopped above below up down m₁ q s.led

      whole : Went a told m₀ m₁ p q
      whole =
          let kept = then_empty on.read in
          went-of a told m₀ m₁ p q goes (record {
            read = then_told on.read nothing_yet;
            went = then_told on.went more.went;
            gain = on.gain ++ [];
            out = on.out;
            core = core-then a d told (record { came = on.read; went = on.went } ∷ []) (record { came = nothing_yet; went = more.went } ∷ []) on.core more.core;
            from = comes-then a.entrance d.entrance told.entrance on.read nothing_yet m₀ m₁ m₁ on.from more.from;
            into = rests-out a.exit d.exit told.exit on.went more.went on.gain on.out m₀ m₁ m₁ p q q on.into more.into;
            ahead = λ none by to.
                let ahead = on.ahead none by to in
                let read : length (concat (then_told on.read nothing_yet).items) ≡ length (concat on.read.items) = ap (λ (t : Told (List ℕ)). length (concat t.items)) kept in
                let gain : length (on.gain ++ []) ≡ length on.gain = ap length (append-nil on.gain) in
                omega arith;
            near = λ head pieces is.
                near-then pieces on.read nothing_yet told
                (more.near (head-stays a d m₀ m₁ p q on.read on.went on.gain on.out on.core.moves.0.stages on.from on.into head) (pieces + length on.read.items) (on.near head pieces is));
            short = λ fed some. short-then on.went more.went on.gain [] (λ h. absurd (omega arith)) (on.short fed) (λ h. absurd (omega arith)) some;
          })

      same : now.shape.stages ≡ start.shape.stages
      same = sym s.led.is_of.stages ∙ (on.core.moves.0.stages ∙ start.since.led.is_of.stages)
