-- What the methods of a node do at the ends of its edges.
use Rattle.std.proofs.Common.{◌≡◌, ◌+◌, ℕ, suc, Bool, true, false, if◌then◌else◌, List, [], ◌∷◌, ◌++◌, length, Option, Some, None, refl, sym, ap, ◌∙◌, subst, arith}
use Rattle.std.specs.Prelude.{nat_eq, ◌==◌}
use Rattle.std.proofs.lemmas.Bool.Decides.{nat_tests}
use Rattle.ws_value.specs.declared.ids.PortId.{PortId}
use Rattle.ws_value.specs.declared.value.Message.{Message}
use Rattle.ws_edge.specs.Edge.{AtEdge}
use Rattle.ws_laws.proofs.Tables.{eq_numbers, unequal_numbers}
use Rattle.ws_stages.specs.State.{State}
use Rattle.ws_steps.specs.declared.calls.Call.TheVariants.{Deliver}
use Rattle.ws_steps.specs.PortHistory.{is_same_port}
use Rattle.ws_chain_laws.specs.Chain.{source_port}
use Rattle.ws_realm.specs.declared.realm.Why.TheVariants.{NoMemory}
use Rattle.ws_node.specs.declared.node.Entrance.{Entrance}
use Rattle.ws_node.specs.declared.node.Input.{Input}
use Rattle.ws_node.specs.declared.node.Node.{Node}
use Rattle.ws_node.specs.Edges.{TakesEnd, TakesNone, TakesAbove, TookAbove, TakesBelow, TookBelow, Brings, Waiting, NoRoom, WaitsAbove, WaitsBelow, Waits, waits_by, broken_by, had_as, had_entrance, takes_more, with_above, with_below, BringsUp, broken_after}
use Rattle.ws_node.specs.Messages.{as_fair}
use Rattle.ws_node.specs.Moves.{Asks, stopped_by}
use Rattle.ws_node.specs.Node.{port_below}

-- a look found none
pub looked : (e f : AtEdge) → f.to ≡ e.to → f.waiting ≡ e.waiting → f.traced ≡ e.traced → f.from.row ≡ e.from.row → f.from.looks ≡ e.from.looks + 1 → length e.from.received ≡ f.from.seen
    → f.from.received ≡ e.from.received → TakesNone e f
looked e f to waiting traced row looks none same =
    record { to = to; waiting = waiting; traced = traced; row = row; received = same; looked = (omega (arith, looks), ap length same ∙ none) }

pub brings-as : (m : Message) (i : Input) (a b : Node) → i ≡ broken_by m a.entrance.input → Asks (Deliver source_port m) (record a { entrance = record a.entrance { input = i } }) b → Brings m a b
brings-as m i a b e h = subst (λ (x : Input). Asks (Deliver source_port m) (record a { entrance = record a.entrance { input = x } }) b) e h

pub brings-up-as : (port : PortId) (m : Message) (t : Bool) (a b : Node) → t ≡ broken_after m a.exit.broken → Asks (Deliver port m) (record a { exit = record a.exit { broken = t } }) b → BringsUp port m a b
brings-up-as port m t a b e h = subst (λ (x : Bool). Asks (Deliver port m) (record a { exit = record a.exit { broken = x } }) b) e h

pub took-above : (a b : Node) (m x : Message) (e f : AtEdge) → a.core.stopped ≡ None → takes_more a.entrance.input ≡ true → a.entrance.above ≡ Some e → TakesEnd m e f → x ≡ as_fair m
    → Brings x (with_above f a) b → TakesAbove true a b
took-above a b m x e f goes more is took fair h = TookAbove refl goes more m e f is took (subst (λ (z : Message). Brings z (with_above f a) b) fair h)

pub took-below : (a b : Node) (port : PortId) (m x : Message) (e f : AtEdge) → a.core.stopped ≡ None → a.exit.below ≡ Some e → TakesEnd m e f → port ≡ port_below a.entrance → x ≡ as_fair m
    → BringsUp port x (with_below f a) b → TakesBelow true a b
took-below a b port m x e f goes is took at fair h =
    TookBelow refl goes m e f is took
    (subst (λ (z : Message). BringsUp (port_below a.entrance) z (with_below f a) b) fair (subst (λ (c : PortId). BringsUp c x (with_below f a) b) at h))

-- what was posted waits, or finds no room

pub waits-up : (m : Message) (a : Node) (e f : AtEdge) → a.entrance.above ≡ Some e → f ≡ record e { waiting = e.waiting ++ m ∷ [] } → WaitsAbove m a (with_above f a)
waits-up m a e f is same = Waiting e is (ap (λ (x : AtEdge). with_above x a) same)

pub no-room-up : (m : Message) (a : Node) (e f : AtEdge) → a.entrance.above ≡ Some e → f ≡ e → WaitsAbove m a (stopped_by NoMemory (with_above f a))
no-room-up m a e f is same =
    NoRoom e is (ap (λ (o : Option AtEdge). stopped_by NoMemory (record a { entrance = record a.entrance { above = o } })) (ap Some same ∙ sym is))

no-zero : (n : ℕ) → (suc n == 0) ≡ false
no-zero n = grind (arith, nat_tests)

had-bare : (m : Message) (a : Node) (ws : List State) (n : Entrance) → n ≡ (if (length ws == 0) then had_entrance m a.entrance else a.entrance) → record a { entrance = n } ≡ had_as ws m a
had-bare m a [] n e = ap (λ (x : Entrance). record a { entrance = x }) e
had-bare m a (w ∷ ws) n e =
    ap (λ (x : Entrance). record a { entrance = x }) (e ∙ ap (λ (t : Bool). if t then had_entrance m a.entrance else a.entrance) (no-zero (length ws)))

pub waits-down : (m : Message) (a : Node) (e f : AtEdge) (b : Bool) (n : Entrance) → b ≡ (length a.core.stages.items == 0) → n ≡ (if b then had_entrance m a.entrance else a.entrance) → a.exit.below ≡ Some e
    → f ≡ record e { waiting = e.waiting ++ m ∷ [] } → WaitsBelow m a (with_below f (record a { entrance = n }))
waits-down m a e f b n is_bare h is same =
    let had : record a { entrance = n } ≡ had_as a.core.stages.items m a = had-bare m a a.core.stages.items n (h ∙ ap (λ (t : Bool). if t then had_entrance m a.entrance else a.entrance) is_bare) in
    Waiting e is (ap (with_below f) had ∙ ap (λ (x : AtEdge). with_below x (had_as a.core.stages.items m a)) same)

pub no-room-down : (m : Message) (a : Node) (e f : AtEdge) (b : Bool) (n : Entrance) → b ≡ (length a.core.stages.items == 0) → n ≡ (if b then had_entrance m a.entrance else a.entrance) → a.exit.below ≡ Some e → f ≡ e
    → WaitsBelow m a (stopped_by NoMemory (with_below f (record a { entrance = n })))
no-room-down m a e f b n is_bare h is same =
    let had : record a { entrance = n } ≡ had_as a.core.stages.items m a = had-bare m a a.core.stages.items n (h ∙ ap (λ (t : Bool). if t then had_entrance m a.entrance else a.entrance) is_bare) in
    NoRoom e is
    (ap (λ (o : Option AtEdge). stopped_by NoMemory (record a { entrance = n; exit = record a.exit { below = o } })) (ap Some same ∙ sym is) ∙ ap (stopped_by NoMemory) had)

-- by its port

same_number : (m n : ℕ) → m ≡ n → nat_eq m n ≡ true
same_number m n e = by (nat_eq m n) refl where
  by : (b : Bool) → nat_eq m n ≡ b → nat_eq m n ≡ true
  by true h = h
  by false h = absurd (unequal_numbers m n h e)

other_number : (m n : ℕ) → (n ≡ m → ⊥) → nat_eq m n ≡ false
other_number m n e = by (nat_eq m n) refl where
  by : (b : Bool) → nat_eq m n ≡ b → nat_eq m n ≡ false
  by true h = absurd (e (sym (eq_numbers m n h)))
  by false h = h

pub waits-below : (a b : Node) (c r : PortId) (m : Message) → r ≡ port_below a.entrance → c.0 ≡ r.0 → WaitsBelow m a b → Waits c m a b
waits-below a b c r m at same h =
    let t : is_same_port (port_below a.entrance) c ≡ true = same_number (port_below a.entrance).0 c.0 (sym (same ∙ ap (λ (x : PortId). x.0) at)) in
    subst (λ (x : Bool). waits_by x (is_same_port source_port c) m a b) (sym t) h

pub waits-above : (a b : Node) (c r : PortId) (m : Message) → r ≡ port_below a.entrance → (c.0 ≡ r.0 → ⊥) → c.0 ≡ 0 → WaitsAbove m a b → Waits c m a b
waits-above a b c r m at other same h =
    let f : is_same_port (port_below a.entrance) c ≡ false = other_number (port_below a.entrance).0 c.0 (λ e. other (e ∙ ap (λ (x : PortId). x.0) (sym at))) in
    let t : is_same_port source_port c ≡ true = same_number 0 c.0 (sym same) in
    subst (λ (x : Bool). waits_by x (is_same_port source_port c) m a b) (sym f) (subst (λ (x : Bool). waits_by false x m a b) (sym t) h)
