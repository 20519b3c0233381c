-- What a turn does first: a job, or an event of which the host hears.
use Rattle.std.proofs.Common.{◌≡◌, ◌<◌, ℕ, Bool, true, false, List, [], ◌∷◌, ◌++◌, Some, None, refl, sym, ap, ◌∙◌, arith}
use Rattle.std.specs.Prelude.{not, ◌||◌}
use Rattle.ws_steps.specs.declared.calls.Event.{Event}
use Rattle.ws_steps.specs.Queues.{is_empty}
use Rattle.ws_steps.specs.Run.{Entry, Worked, Heard, run, after_job, first_event, is_idle}
use Rattle.ws_steps.specs.Slots.{Slots}
use Rattle.ws_alike.specs.Alike.{Alike, trim}
use Rattle.ws_alike.proofs.Running.{run-alike}
use Rattle.ws_realm.specs.Seen.{SeenRealm}
use Rattle.ws_node.specs.declared.node.Node.{Node}
use Rattle.ws_node.specs.Moves.{with_realm}
use Rattle.ws_node.specs.Node.{is_busy}
use Rattle.ws_node.specs.Turns.{GivesHeard, GoesBy, IsBegun, JobFirst, EventFirst, HasWorked, AnyJob, NoneQueued, HasHeard, NoneHeard}
use Rattle.ws_node.proofs.Acting.{run-both}
use Rattle.ws_node.proofs.Giving.{HearsOf}

-- some run leads from the realm of a to what that of b is alike to
pub record Follows (a b : Node) : Type 0 where
  pub entries : List Entry
  pub slots : Alike b.core.realm.slots (run entries a.core.realm.slots)

pub gives-follow : (a b : Node) → GivesHeard a b → Follows a b
gives-follow a b g = record { entries = g.entries; slots = ap trim g.slots }

-- one run after another
both-alike : (xs ys : List Entry) (s t u : Slots) → Alike t (run xs s) → Alike u (run ys t) → Alike u (run (xs ++ ys) s)
both-alike xs ys s t u f g = g ∙ (run-alike ys t (run xs s) f ∙ ap trim (sym (run-both xs ys s)))

pub follows-then : (a b c : Node) → Follows a b → Follows b c → Follows a c
follows-then a b c f g = record {
  entries = f.entries ++ g.entries;
  slots = both-alike f.entries g.entries a.core.realm.slots b.core.realm.slots c.core.realm.slots f.slots g.slots;
}

goes-then : (x : Entry) (a b c : Node) → GoesBy x a b → Follows b c → GoesBy x a c
goes-then x a b c f g = record {
  rest = f.rest ++ g.entries;
  slots = both-alike (x ∷ f.rest) g.entries a.core.realm.slots b.core.realm.slots c.core.realm.slots f.slots g.slots;
}

pub goes-follows : (x : Entry) (a b : Node) → GoesBy x a b → Follows a b
goes-follows x a b g = record { entries = x ∷ g.rest; slots = g.slots }

pub begun-then : (a b c : Node) → IsBegun a b → Follows b c → IsBegun a c
begun-then a b c (JobFirst idle g) f = JobFirst idle (goes-then Worked a b c g f)
begun-then a b c (EventFirst some g) f = EventFirst some (goes-then Heard a b c g f)

-- the host hears of an event

some-event : (es : List Event) (e : Event) → first_event es ≡ Some e → is_empty es ≡ false
some-event [] e h = absurd (cc)
some-event (x ∷ es) e h = refl

no-event : (es : List Event) → first_event es ≡ None → is_empty es ≡ true
no-event [] h = refl
no-event (x ∷ es) h = absurd (cc)

pub heard : (a c : Node) (e : Event) → a.core.stopped ≡ None → first_event a.core.realm.slots.promises.events ≡ Some e → HearsOf e a c → HasHeard a c
heard a c e going first h = record { going = going; some = some-event a.core.realm.slots.promises.events e first; goes = record { rest = h.rest; slots = ap trim h.slots } }

pub none-heard : (a : Node) → a.core.stopped ≡ None → first_event a.core.realm.slots.promises.events ≡ None → NoneHeard a
none-heard a going first = record { going = going; none = no-event a.core.realm.slots.promises.events first }

-- jobs

-- as a realm performs jobs: one was performed, or none yet
pub data IsWorking (left most : ℕ) (a b : Node) : Type 0 where
  SomeJob : is_idle a.core.realm.slots ≡ false → GoesBy Worked a b → IsWorking left most a b
  NoJob : left ≡ most → b.core.realm.slots ≡ a.core.realm.slots → IsWorking left most a b

job-more : (idle : Bool) (a b : Node) (realm : SeenRealm) (left most : ℕ) → is_idle b.core.realm.slots ≡ idle → idle ≡ false → IsWorking left most a b
    → realm.slots ≡ after_job b.core.realm.slots → (is_idle a.core.realm.slots ≡ false) × (GoesBy Worked a (with_realm realm b))
job-more idle a b realm left most e f (SomeJob some g) slots =
    (some, goes-then Worked a b (with_realm realm b) g (record { entries = Worked ∷ []; slots = ap trim slots }))
job-more idle a b realm left most e f (NoJob same slots_same) slots =
    (ap (λ (s : Slots). is_idle s) (sym slots_same) ∙ (e ∙ f), record { rest = []; slots = ap trim (slots ∙ ap after_job slots_same) })

pub working-more : (a b : Node) (realm : SeenRealm) (left fewer most : ℕ) → is_idle b.core.realm.slots ≡ false → IsWorking left most a b → realm.slots ≡ after_job b.core.realm.slots
    → IsWorking fewer most a (with_realm realm b)
working-more a b realm left fewer most idle w slots = let m = job-more false a b realm left most idle refl w slots in SomeJob m.0 m.1

pub not_idle : (idle : Bool) → true ≡ not idle → idle ≡ false
not_idle true e = absurd (cc)
not_idle false e = refl

-- no job is queued any more
pub worked-idle : (a b : Node) (realm : SeenRealm) (left most : ℕ) → is_idle b.core.realm.slots ≡ true → realm.slots ≡ b.core.realm.slots → IsWorking left most a b
    → HasWorked a (with_realm realm b)
worked-idle a b realm left most idle same (SomeJob some g) = AnyJob some (goes-then Worked a b (with_realm realm b) g (record { entries = []; slots = ap trim same }))
worked-idle a b realm left most idle same (NoJob e slots) = NoneQueued (ap (λ (s : Slots). is_idle s) same ∙ idle) (same ∙ slots)

-- as many were performed as may be
pub worked-all : (a b : Node) (left most : ℕ) → left ≡ 0 → 0 < most → IsWorking left most a b → HasWorked a b
worked-all a b left most none some (SomeJob job g) = AnyJob job g
worked-all a b left most none some (NoJob e slots) = absurd (omega arith)

-- a turn

begun-by : (a b c : Node) → HasWorked a b → HasHeard b c → IsBegun a c
begun-by a b c (AnyJob some g) h = JobFirst some (goes-then Worked a b c g (goes-follows Heard b c h.goes))
begun-by a b c (NoneQueued idle same) h =
    EventFirst (ap (λ (s : Slots). is_empty s.promises.events) (sym same) ∙ h.some)
    (record { rest = h.goes.rest; slots = h.goes.slots ∙ ap (λ (s : Slots). trim (run (Heard ∷ h.goes.rest) s)) same })

pub begun : (a b c : Node) → (b.core.stopped ≡ None → HasWorked a b) → HasHeard b c → IsBegun a c
begun a b c w h = begun-by a b c (w h.going) h

busy-not : (s : Slots) → is_idle s ≡ true → is_empty s.promises.events ≡ true → (not (is_idle s) || not (is_empty s.promises.events)) ≡ true → ⊥
busy-not s e f g = absurd (cc)

first-by : (a b c : Node) → HasWorked a b → Follows b c → NoneHeard b → is_busy a.core ≡ true → IsBegun a c
first-by a b c (AnyJob some g) f n busy = JobFirst some (goes-then Worked a b c g f)
first-by a b c (NoneQueued idle same) f n busy =
    absurd (busy-not a.core.realm.slots (ap (λ (s : Slots). is_idle s) (sym same) ∙ idle) (ap (λ (s : Slots). is_empty s.promises.events) (sym same) ∙ n.none) busy)

-- the host heard of nothing
pub first : (a b c : Node) → (b.core.stopped ≡ None → HasWorked a b) → Follows b c → NoneHeard b → is_busy a.core ≡ true → IsBegun a c
first a b c w f n busy = first-by a b c (w n.going) f n busy
