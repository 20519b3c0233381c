-- A node goes on as its realm performs jobs.
use Rattle.std.proofs.Common.{◌≡◌, ◌≤◌, ◌<◌, ℕ, List, ◌++◌, Option, Some, None, refl, sym, ap, ◌∙◌, subst, arith}
use Rattle.std.proofs.lemmas.List.Elements.{All-weaker}
use Rattle.ws_node.specs.Shape.{Shape}
use Rattle.ws_io.specs.Gain.{Got}
use Rattle.ws_io.specs.Moment.{Moment}
use Rattle.ws_io.proofs.Flow.{Gains-nothing}
use Rattle.ws_realm.specs.declared.realm.Why.{Why}
use Rattle.ws_stages.specs.State.{State}
use Rattle.ws_steps.specs.Run.{Entry}
use Rattle.ws_chain_laws.specs.Chain.{behind_at}
use Rattle.ws_node.specs.declared.node.Node.{Node}
use Rattle.ws_node.specs.Moves.{Works}
use Rattle.ws_node.specs.Past.{ArePushed, OneAtMost, HasOne, Since}
use Rattle.ws_node.proofs.Going.{went-rests}
use Rattle.ws_node.proofs.Handled.{Handled}
use Rattle.ws_node.proofs.Since.{OnlyRealm, since-works}

-- a realm that goes on went on before
goes-before : (a b : Node) → Works a b → b.core.stopped ≡ None → (why : Option Why) → a.core.stopped ≡ why → a.core.stopped ≡ None
goes-before a b w goes None e = e
goes-before a b w goes (Some why) e = let is = ap (λ (n : Node). n.core.stopped) (w.stays why e) in sym is ∙ goes

pushed-longer : (before now : ℕ) (ws : List State) → before ≤ now → ArePushed before ws → ArePushed now ws
pushed-longer before now ws l h = All-weaker (λ (w : State). w.pushes < before) (λ (w : State). w.pushes < now) (λ w k. omega (arith, k, l)) ws h

one-stays : (a b : Node) → OnlyRealm a b
    → ((m : ℕ) → OneAtMost m (behind_at 0 a.core.realm.slots).items → OneAtMost m (behind_at 0 b.core.realm.slots).items) → HasOne a → HasOne b
one-stays a b only =
    subst (λ (n : Node). ((m : ℕ) → OneAtMost m (behind_at 0 a.core.realm.slots).items → OneAtMost m (behind_at 0 n.core.realm.slots).items) → HasOne a → HasOne n) (sym only.is)
    (λ keeps one fed may. keeps a.entrance.ahead (one fed may))

pub works : (shape : Shape) (past : List Entry) (a b : Node) (m : Moment) (p : Got) → Since shape past a → Works a b → Handled shape a b m m p p
works shape past a b m p since w =
    let after = since-works shape past a b since.led w in
    record {
      past = past ++ after.more;
      led = after.led;
      pushes = λ goes. subst (λ (n : Node). ArePushed b.core.realm.slots.age n.core.stages.items) (sym after.only.is)
          (pushed-longer a.core.realm.slots.age b.core.realm.slots.age a.core.stages.items after.older (since.pushes (goes-before a b w goes a.core.stopped refl)));
      one = one-stays a b after.only after.one since.one;
      ends = after.ends since.ends;
      went = went-rests shape a b m p p (Gains-nothing p) w.stays since.led.is_of.stages after.only after.short;
    }
