-- What is known of a node's input, output and stages is why each reason with which it fails something keeps its cause.
use Rattle.std.proofs.Common.{◌≡◌, ◌+◌, ℕ, true, List, [], ◌∷◌, ◌++◌, Option, Some, sym, ap, ◌∙◌, subst, append-nil, append_assoc}
use Rattle.std.specs.Prelude.{All, Contains}
use Rattle.std.proofs.lemmas.List.{map-append}
use Rattle.std.proofs.lemmas.List.Elements.{All-append, All-nil, All-weaker, Contains-append_left}
use Rattle.ws_value.specs.declared.fault.Fault.{Fault}
use Rattle.ws_value.specs.declared.fault.Fault.TheVariants as fault
use Rattle.ws_value.specs.declared.value.Message.{Message}
use Rattle.ws_value.specs.declared.value.Message.TheVariants.{Error}
use Rattle.ws_value.specs.declared.value.Plain.{Plain}
use Rattle.ws_value.specs.declared.value.Plain.TheVariants as plain
use Rattle.ws_edge.specs.Edge.{AtEdge}
use Rattle.ws_steps.specs.declared.calls.Call.{Call}
use Rattle.ws_steps.specs.declared.calls.Call.TheVariants.{Deliver}
use Rattle.ws_steps.specs.Run.{Entry, Called, Worked, Heard}
use Rattle.ws_chain_laws.specs.Chain.{ToPort, sink_port}
use Rattle.ws_joined_laws.specs.Reasons.{reasons_in}
use Rattle.ws_reason_laws.specs.Reasons.{failures, failure_of}
use Rattle.ws_node.specs.declared.node.Input.TheVariants as input
use Rattle.ws_node.specs.declared.node.Node.{Node}
use Rattle.ws_node.specs.Messages.{as_fair, fairly}
use Rattle.ws_node.specs.Node.{is_reached, received_at}
use Rattle.ws_node.specs.Past.{EndedAs, IsOwnFault, IsOwnCause, IsCause, Passed, Own, AreCaused, AllCaused, UntilError, is_shut}
use Rattle.ws_node.specs.Shape.{Shape}
use Rattle.ws_node.proofs.Entries.{failures-snoc}
use Rattle.ws_node.proofs.Firsts.{reasons-append}

-- a node that knows as much
pub record KeepsCauses (a b : Node) : Type 0 where
  pub passed : (r : Plain) → Contains (reasons_in (fairly (received_at a.entrance.above))) r → Contains (reasons_in (fairly (received_at b.entrance.above))) r
  pub failed : a.entrance.input ≡ input.Failed → b.entrance.input ≡ input.Failed
  pub long : a.entrance.input ≡ input.TooLong → b.entrance.input ≡ input.TooLong
  pub shut : is_shut a.exit.output ≡ true → is_shut b.exit.output ≡ true
  pub first : b.core.first ≡ a.core.first
  pub stages : (number code place : ℕ) → EndedAs number code place a.core.stages.items → EndedAs number code place b.core.stages.items
  pub reached : is_reached a.exit.abort ≡ true → is_reached b.exit.abort ≡ true

fault-stays : (a b : Node) (f : Fault) → KeepsCauses a b → IsOwnFault a f → IsOwnFault b f
fault-stays a b fault.Read k h = k.failed h
fault-stays a b fault.TooMuch k h = k.long h
fault-stays a b fault.Write k h = k.shut h
fault-stays a b (fault.Stage index code place) k h =
    record { number = h.number; counted = h.counted ∙ ap (λ q. q + h.number) (sym k.first); ended = k.stages h.number code place h.ended }
fault-stays a b fault.Abort k h = k.reached h
fault-stays a b fault.TypeError k h = h
fault-stays a b fault.RangeError k h = h
fault-stays a b fault.DataClone k h = h
fault-stays a b (fault.User n) k h = h
fault-stays a b fault.NoMemory k h = h

own-stays : (a b : Node) (r : Plain) → KeepsCauses a b → IsOwnCause a r → IsOwnCause b r
own-stays a b (plain.Fault f) k h = fault-stays a b f k h
own-stays a b plain.Undefined k h = h
own-stays a b (plain.Number n) k h = h
own-stays a b (plain.Pair t) k h = h
own-stays a b (plain.Local n) k h = h

pub cause-stays : (a b : Node) (r : Plain) → KeepsCauses a b → IsCause a r → IsCause b r
cause-stays a b r k (Passed e) = Passed (k.passed r e)
cause-stays a b r k (Own h) = Own (own-stays a b r k h)

pub all-causes : (a b : Node) (rs : List Plain) → KeepsCauses a b → All (IsCause a) rs → All (IsCause b) rs
all-causes a b rs k h = All-weaker (IsCause a) (IsCause b) (λ r. cause-stays a b r k) rs h

pub causes-stay : (shape : Shape) (past : List Entry) (a b : Node) → KeepsCauses a b → AreCaused shape past a → AreCaused shape past b
causes-stay shape past a b k (AllCaused h) = AllCaused (all-causes a b (failures past) k h)
causes-stay shape past a b k (UntilError port before after up e h) = UntilError port before after up e (all-causes a b (failures before) k h)

-- what a call may fail: by reasons that have their cause, or by an error that it delivers from below
pub data MayFail (shape : Shape) (n : Node) (c : Call) : Type 0 where
  AllHaveCauses : All (IsCause n) (failure_of c) → MayFail shape n c
  FromBelow : shape.target ≡ ToPort → (up : Plain) → c ≡ Deliver (sink_port shape.origin) (Error up) → MayFail shape n c

-- so may an entry
abbrev pub MayFailBy : Shape → Node → Entry → Type 0
MayFailBy shape n (Called c) = MayFail shape n c
MayFailBy shape n Worked = Unit {0}
MayFailBy shape n Heard = Unit {0}

-- of a past that is longer by one entry

until-longer : (shape : Shape) (past : List Entry) (x : Entry) (n : Node) → shape.target ≡ ToPort → (before after : List Entry) (up : Plain)
    → past ≡ before ++ Called (Deliver (sink_port shape.origin) (Error up)) ∷ after → All (IsCause n) (failures before) → AreCaused shape (past ++ x ∷ []) n
until-longer shape past x n port before after up e h =
    UntilError port before (after ++ x ∷ []) up
    (ap (λ (es : List Entry). es ++ x ∷ []) e ∙ append_assoc before (Called (Deliver (sink_port shape.origin) (Error up)) ∷ after) (x ∷ [])) h

all-longer : (shape : Shape) (past : List Entry) (x : Entry) (n : Node) → All (IsCause n) (failures past) → All (IsCause n) (failures (x ∷ [])) → AreCaused shape (past ++ x ∷ []) n
all-longer shape past x n h more =
    AllCaused (subst (All (IsCause n)) (sym (failures-snoc past x)) (All-append (IsCause n) (failures past) (failures (x ∷ [])) h more))

pub causes-longer : (shape : Shape) (past : List Entry) (x : Entry) (n : Node) → AreCaused shape past n → MayFailBy shape n x → AreCaused shape (past ++ x ∷ []) n
causes-longer shape past x n (UntilError port before after up e h) may = until-longer shape past x n port before after up e h
causes-longer shape past Worked n (AllCaused h) may = all-longer shape past Worked n h (All-nil (IsCause n))
causes-longer shape past Heard n (AllCaused h) may = all-longer shape past Heard n h (All-nil (IsCause n))
causes-longer shape past (Called c) n (AllCaused h) (AllHaveCauses more) = all-longer shape past (Called c) n h (subst (All (IsCause n)) (sym (append-nil (failure_of c))) more)
causes-longer shape past (Called c) n (AllCaused h) (FromBelow port up is) =
    UntilError port past [] up (ap (λ (d : Call). past ++ Called d ∷ []) is) h

-- an error that came over the edge above has come there once more was taken

reasons-more : (xs ys : List Message) (r : Plain) → Contains (reasons_in (fairly xs)) r → Contains (reasons_in (fairly (xs ++ ys))) r
reasons-more xs ys r h =
    subst (λ (ms : List Message). Contains (reasons_in ms) r) (sym (map-append as_fair xs ys)) (subst (λ (rs : List Plain). Contains rs r) (sym (reasons-append (fairly xs) (fairly ys)))
    (Contains-append_left (reasons_in (fairly xs)) (reasons_in (fairly ys)) r h))

pub passed-more : (o : Option AtEdge) (e f : AtEdge) (more : List Message) (r : Plain) → o ≡ Some e → f.from.received ≡ e.from.received ++ more → Contains (reasons_in (fairly (received_at o))) r
    → Contains (reasons_in (fairly f.from.received)) r
passed-more o e f more r is longer h =
    subst (λ (ms : List Message). Contains (reasons_in (fairly ms)) r) (sym longer)
    (reasons-more e.from.received more r (subst (λ (q : Option AtEdge). Contains (reasons_in (fairly (received_at q))) r) is h))

-- where only the core changed, but not its stages
pub same-causes : (a b : Node) → b.entrance ≡ a.entrance → b.exit ≡ a.exit → b.core.first ≡ a.core.first → b.core.stages ≡ a.core.stages → KeepsCauses a b
same-causes a b e x f s = record {
  passed = λ r h. subst (λ q. Contains (reasons_in (fairly (received_at q.above))) r) (sym e) h;
  failed = λ h. ap (λ q. q.input) e ∙ h;
  long = λ h. ap (λ q. q.input) e ∙ h;
  shut = λ h. ap (λ q. is_shut q.output) x ∙ h;
  first = f;
  stages = λ number code place h. subst (λ q. EndedAs number code place q.items) (sym s) h;
  reached = λ h. ap (λ q. is_reached q.abort) x ∙ h;
}
