-- At the end of a turn the promises are forgotten that nobody needs: only the realm changed, and its slots are alike to what they were.
use Rattle.std.proofs.Common.{◌≡◌, ◌≤◌, ℕ, Bool, true, false, ◌&&◌, is_some, List, None, refl, sym, ap, ◌∙◌, subst}
use Rattle.std.specs.List.{list_all}
use Rattle.ws_flow.specs.Told.{then_told, IsShortOf}
use Rattle.ws_flow.proofs.Told.{short_refl}
use Rattle.ws_io.specs.Gain.{Got, straight}
use Rattle.ws_io.specs.Moment.{Moment, moment}
use Rattle.ws_io.proofs.Flow.{Gains-nothing}
use Rattle.ws_steps.specs.Queues.{is_empty}
use Rattle.ws_steps.specs.Run.{Entry}
use Rattle.ws_steps.specs.Slots.{Slots}
use Rattle.ws_alike.specs.Alike.{Alike, EachKeptIsNeeded}
use Rattle.ws_chain_laws.specs.Chain.{behind_at}
use Rattle.ws_realm.specs.Seen.{SeenRealm, oldest}
use Rattle.ws_node.specs.declared.node.Node.{Node}
use Rattle.ws_node.specs.declared.turn.Turn.{Turn}
use Rattle.ws_node.specs.declared.turn.Turn.TheVariants.{Worked, Idle, Ended, NoMemory, Spent}
use Rattle.ws_node.specs.Moves.{with_realm}
use Rattle.ws_node.specs.Node.{coming, has_settled, has_settled_in, in_bytes, is_over, lies_in, lying_by, outcome_of_pipe}
use Rattle.ws_node.specs.Past.{ArePushed, Driven, EndsHave, HasOne, Led, OneAtMost, Since}
use Rattle.ws_node.specs.Shape.{Shape, count_in}
use Rattle.ws_node.specs.Turns.{GoesBy, HasDone, SentAbove, SentBelow, Begun, IsBegun, JobFirst, EventFirst, PostsHeard, Turned, TurnIs}
use Rattle.ws_node.specs.Went.{Went}
use Rattle.ws_node.proofs.Alike.{outcome-alike, settled-alike}
use Rattle.ws_node.proofs.Going.{going-stays, went-rests, went-then}
use Rattle.ws_node.proofs.Handled.{Handled, driven-handled}
use Rattle.ws_node.proofs.Ran.{ran-alike}
use Rattle.ws_node.proofs.Since.{OnlyRealm, led-as}

module _ (a : Node) (realm : SeenRealm) (goes : a.core.stopped ≡ None) (alike : Alike a.core.realm.slots realm.slots) where
  abbrev b : Node
  b = with_realm realm a

  age : realm.slots.age ≡ a.core.realm.slots.age
  age = ap (λ (q : Slots). q.age) (sym alike)

  tidied-led : (shape : Shape) (past : List Entry) → Led shape past a → Led shape past b
  tidied-led shape past s =
      led-as shape past past a realm a.core.stopped s (ran-alike shape past a.core.realm.slots realm.slots s.ran (sym alike)) s.clones s.failed s.closes s.flushes s.asked
      (subst (λ (q : Slots). q.age ≤ oldest) alike s.age) (λ f. age ∙ s.spent f)

  tidied-short : (k : ℕ) → IsShortOf (lies_in b k) (lies_in a k)
  tidied-short k =
      subst (λ (q : Slots). IsShortOf (lying_by a.core.stopped (then_told (in_bytes (behind_at k q)) (coming a k))) (lies_in a k)) alike (short_refl (lies_in a k))

  tidied : (shape : Shape) (past : List Entry) (m : Moment) (p : Got) → Since shape past a → Handled shape a b m m p p
  tidied shape past m p s = record {
    past = past;
    led = tidied-led shape past s.led;
    pushes = λ e. subst (λ (q : Slots). ArePushed q.age a.core.stages.items) alike (s.pushes e);
    one = λ fed may. subst (λ (q : Slots). OneAtMost a.entrance.ahead (behind_at 0 q).items) alike (s.one fed may);
    ends = record { above = s.ends.above; below = s.ends.below };
    went = went-rests shape a b m p p (Gains-nothing p) (going-stays a b goes) s.led.is_of.stages (record { realm = realm; stopped = a.core.stopped; is = refl }) (λ k l. tidied-short k);
  }

  pub tidied-driven : Driven a → Driven b
  tidied-driven d =
      let m : Moment = moment 0 None 0 None in
      let p : Got = straight (λ xs. Unit {0}) in
      driven-handled d.shape d.past a b m m p p d.since (tidied d.shape d.past m p d.since)

  pub tidied-went : (x : Node) (m n : Moment) (p q : Got) → Driven a → Went x a m n p q → Went x b m n p q
  tidied-went x m n p q d went = went-then x a b m n n p q q went (tidied d.shape d.past n q d.since).went

  pub tidied-posts : (x : Node) → PostsHeard x a → PostsHeard x b
  tidied-posts x h = record { entries = h.entries; slots = sym alike ∙ h.slots; above = h.above; below = h.below }

  -- what the turn did

  tidied-goes : (e : Entry) (x : Node) → GoesBy e x a → GoesBy e x b
  tidied-goes e x g = record { rest = g.rest; slots = sym alike ∙ g.slots }

  tidied-begun : (x : Node) → IsBegun x a → IsBegun x b
  tidied-begun x (JobFirst some g) = JobFirst some (tidied-goes _ x g)
  tidied-begun x (EventFirst some g) = EventFirst some (tidied-goes _ x g)

  tidied-done : (x : Node) → HasDone x a → HasDone x b
  tidied-done x (SentAbove h) = SentAbove h
  tidied-done x (SentBelow h) = SentBelow h
  tidied-done x (Begun h) = Begun (tidied-begun x h)

  tidied-over : is_over b ≡ is_over a
  tidied-over =
      let events : is_empty realm.slots.promises.events ≡ is_empty a.core.realm.slots.promises.events = ap (λ (q : Slots). is_empty q.promises.events) (sym alike) in
      let pipe : has_settled (outcome_of_pipe b.core) ≡ has_settled (outcome_of_pipe a.core) =
      ap has_settled (outcome-alike a.core.pipe realm.slots a.core.realm.slots (sym alike)) in
      let before : list_all (has_settled_in realm.slots) a.core.pipes_before.items ≡ list_all (has_settled_in a.core.realm.slots) a.core.pipes_before.items =
      settled-alike realm.slots a.core.realm.slots (sym alike) a.core.pipes_before.items in
      cc

  pub tidied-turn : (turn : Turn) (x : Node) → EachKeptIsNeeded realm.slots → Turned turn x a → TurnIs turn x b
  tidied-turn Worked x needed h = ((h.0, tidied-over ∙ h.1, tidied-done x h.2), needed)
  tidied-turn Idle x needed h = ((h.0, tidied-over ∙ h.1, h.2, record { above = h.3.above; below = h.3.below }), needed)
  tidied-turn Ended x needed h = ((h.0, tidied-over ∙ h.1), needed)
  tidied-turn NoMemory x needed h = absurd (let e = h.0 in cc)
  tidied-turn Spent x needed h = absurd (let e = h.0 in cc)

-- where the realm has stopped, nothing is forgotten
pub stopped-turn : (turn : Turn) (x a : Node) → is_some a.core.stopped ≡ true → Turned turn x a → TurnIs turn x a
stopped-turn Worked x a stopped h = absurd (let e : is_some a.core.stopped ≡ false = ap is_some h.0 in cc)
stopped-turn Idle x a stopped h = absurd (let e : is_some a.core.stopped ≡ false = ap is_some h.0 in cc)
stopped-turn Ended x a stopped h = absurd (let e : is_some a.core.stopped ≡ false = ap is_some h.0 in cc)
stopped-turn NoMemory x a stopped h = (h, tt)
stopped-turn Spent x a stopped h = (h, tt)
