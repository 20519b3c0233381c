-- What a node that was new went through, as the nodes of a chain need it: what came in and went out, by its kind of input and output.
use Rattle.std.proofs.Common.{◌≡◌, ◌+◌, ◌-◌, ℕ, suc, ℤ, Bool, true, false, List, [], ◌∷◌, ◌++◌, length, map, Option, Some, None, refl, sym, ap, ◌∙◌, subst, append_assoc, arith}
use Rattle.std.specs.Prelude.{All, Contains}
use Rattle.std.proofs.lemmas.List.Elements.{All-nil, All-cons, All-contains, All-head, All-tail}
use Rattle.ws_value.specs.declared.fault.Fault.TheVariants as fault
use Rattle.ws_value.specs.declared.value.Message.{Message}
use Rattle.ws_value.specs.declared.value.Plain.{Plain}
use Rattle.ws_value.specs.declared.value.Plain.TheVariants.{Undefined, Number, Fault as FaultReason, Pair, Local}
use Rattle.ws_edge.specs.Edge.{AtEdge}
use Rattle.ws_flow.specs.declared.plan.Ending.{Ending}
use Rattle.ws_flow.specs.declared.plan.Ending.TheVariants.{Bad}
use Rattle.ws_flow.specs.declared.plan.Stage.{Stage}
use Rattle.ws_flow.specs.Parts.{Over, Part, Goes, Flows, found, fresh, said}
use Rattle.ws_flow.specs.Rows.{told_by}
use Rattle.ws_flow.specs.Stages.{machines}
use Rattle.ws_flow.specs.Steps.{parts_at}
use Rattle.ws_flow.specs.Told.{Mark, Told, then_told}
use Rattle.ws_io.specs.Gain.{Got}
use Rattle.ws_io.specs.Moment.{Moment}
use Rattle.ws_joined_laws.specs.Reasons.{reasons_in, Finds, HasCause, Passed as PassedOn, Own as OwnCause, IsOwn}
use Rattle.ws_realm.specs.declared.realm.Why.{Why}
use Rattle.ws_realm.specs.declared.realm.Why.TheVariants as why
use Rattle.ws_stages.specs.State.{State}
use Rattle.ws_node.specs.declared.node.Abort.{Abort}
use Rattle.ws_node.specs.declared.node.Entrance.{Entrance}
use Rattle.ws_node.specs.declared.node.Exit.{Exit}
use Rattle.ws_node.specs.declared.node.Input.{Input}
use Rattle.ws_node.specs.declared.node.Input.TheVariants as input
use Rattle.ws_node.specs.declared.node.Node.{Node}
use Rattle.ws_node.specs.declared.node.Output.{Output}
use Rattle.ws_node.specs.declared.node.Output.TheVariants as output
use Rattle.ws_node.specs.Rules.{IsSentFor, Caused, Wanting, SendsDown}
use Rattle.ws_node.specs.Messages.{fairly}
use Rattle.ws_node.specs.Node.{feeds_edge, held, is_edge, is_reached, lies_in, parts, received_at, sent_at}
use Rattle.ws_node.specs.Past.{is_shut, IsNew, IsOwnCause, IsOwnStage, IsUnused, Passed, Own}
use Rattle.ws_node.specs.Shape.{Shape}
use Rattle.ws_node.specs.Went.{ComesIn, ByInput, ByEdge, EndGrows, FromGoes, GoesOut, ToOutput, ToEdge, PostsOn, TakesOn, ToGoes, Went}
use Rattle.ws_node.proofs.Passing.{Inside, SendsFairly}

-- What a node finds

abbrev pub has_failed : Input → Bool
has_failed input.Open = false
has_failed input.Ended = false
has_failed input.Failed = true
has_failed input.TooLong = false
has_failed input.Edge = false
has_failed (input.Broken reason) = false

abbrev pub is_too_long : Input → Bool
is_too_long input.Open = false
is_too_long input.Ended = false
is_too_long input.Failed = false
is_too_long input.TooLong = true
is_too_long input.Edge = false
is_too_long (input.Broken reason) = false

abbrev pub is_failed : Output → Bool
is_failed output.Open = false
is_failed output.Finished = false
is_failed output.Failed = true
is_failed output.Aborted = false
is_failed output.Edge = false

abbrev pub is_wanting : Option Why → Bool
is_wanting None = false
is_wanting (Some why.NoMemory) = true
is_wanting (Some why.Spent) = false

abbrev pub finds_of : Node → Finds
finds_of n = record {
  before = n.core.first;
  read_failed = has_failed n.entrance.input;
  too_much = is_too_long n.entrance.input;
  write_failed = is_failed n.exit.output;
  abort_reached = is_reached n.exit.abort;
  memory_wanting = is_wanting n.core.stopped;
}

-- such a node with these stages
abbrev pub inside_of : List Stage → Node → Inside
inside_of ss n = record { stages = ss; parts = parts n; behind = held n; finds = finds_of n }

pub failed-is : (i : Input) → has_failed i ≡ true → i ≡ input.Failed
failed-is input.Failed e = refl
failed-is input.Open e = absurd (cc)
failed-is input.Ended e = absurd (cc)
failed-is input.TooLong e = absurd (cc)
failed-is input.Edge e = absurd (cc)
failed-is (input.Broken reason) e = absurd (cc)

pub long-is : (i : Input) → is_too_long i ≡ true → i ≡ input.TooLong
long-is input.TooLong e = refl
long-is input.Open e = absurd (cc)
long-is input.Ended e = absurd (cc)
long-is input.Failed e = absurd (cc)
long-is input.Edge e = absurd (cc)
long-is (input.Broken reason) e = absurd (cc)

pub write-is : (o : Output) → is_failed o ≡ true → o ≡ output.Failed
write-is output.Failed e = refl
write-is output.Open e = absurd (cc)
write-is output.Finished e = absurd (cc)
write-is output.Aborted e = absurd (cc)
write-is output.Edge e = absurd (cc)

-- a node that is fed by an edge finds nothing of an input

pub edge-unfailed : (i : Input) → is_edge i ≡ true → has_failed i ≡ false
edge-unfailed input.Edge e = refl
edge-unfailed (input.Broken reason) e = refl
edge-unfailed input.Open e = absurd (cc)
edge-unfailed input.Ended e = absurd (cc)
edge-unfailed input.Failed e = absurd (cc)
edge-unfailed input.TooLong e = absurd (cc)

pub edge-short : (i : Input) → is_edge i ≡ true → is_too_long i ≡ false
edge-short input.Edge e = refl
edge-short (input.Broken reason) e = refl
edge-short input.Open e = absurd (cc)
edge-short input.Ended e = absurd (cc)
edge-short input.Failed e = absurd (cc)
edge-short input.TooLong e = absurd (cc)

-- The causes of its reasons

found-ended : (k : ℕ) (before : List State) (w : State) (after : List State) (x : ℕ → Told (List ℕ)) (e : Ending) → w.work ≡ Over e
    → found (parts_at k (map (λ (s : State). s.work) (before ++ w ∷ after)) x) (length before) ≡ e
found-ended k [] w after x e over = ap said over
found-ended k (b ∷ before) w after x e over = found-ended (suc k) before w after x e over

pub own-stage : (n : Node) (index code place : ℕ) → IsOwnStage n index code place → IsOwn (finds_of n) (parts n) (FaultReason (fault.Stage index code place))
own-stage n index code place s =
    let e = s.ended in
    let counted = s.counted in
    let numbered = e.numbered in
    let same : index - (n.core.first + 1) ≡ length e.before = omega arith in
    record {
      from = omega arith;
      bad =
          ap (λ k. found (parts n) k) same
          ∙ ap (λ (ws : List State). found (parts_at 0 (map (λ (w : State). w.work) ws) (lies_in n)) (length e.before)) e.whole
          ∙ found-ended 0 e.before e.state e.after (lies_in n) (Bad code place) e.over;
    }

-- an output that isn't open once is never shut
edge-open : (o : Output) → feeds_edge o ≡ true → is_shut o ≡ true → ⊥
edge-open output.Edge e h = cc
edge-open output.Open e h = cc
edge-open output.Finished e h = cc
edge-open output.Failed e h = cc
edge-open output.Aborted e h = cc

own-cause : (n : Node) (r : Plain) → feeds_edge n.exit.output ≡ true → IsOwnCause n r → IsOwn (finds_of n) (parts n) r
own-cause n (FaultReason fault.Read) e o = ap has_failed o
own-cause n (FaultReason fault.TooMuch) e o = ap is_too_long o
own-cause n (FaultReason fault.Write) e o = absurd (edge-open n.exit.output e o)
own-cause n (FaultReason (fault.Stage index code place)) e o = own-stage n index code place o
own-cause n (FaultReason fault.Abort) e o = o
own-cause n (FaultReason fault.TypeError) e o = absurd o
own-cause n (FaultReason fault.RangeError) e o = absurd o
own-cause n (FaultReason fault.DataClone) e o = absurd o
own-cause n (FaultReason (fault.User k)) e o = absurd o
own-cause n (FaultReason fault.NoMemory) e o = absurd o
own-cause n Undefined e o = absurd o
own-cause n (Number k) e o = absurd o
own-cause n (Pair t) e o = absurd o
own-cause n (Local k) e o = absurd o

-- an element stands at some place
record StandsIn {A : Type 0} (xs : List A) (x : A) : Type 0 where
  pub before : List A
  pub after : List A
  pub whole : xs ≡ before ++ x ∷ after

stands-all : {A : Type 0} (all before xs : List A) → all ≡ before ++ xs → All (StandsIn all) xs
stands-all all before [] e = All-nil (StandsIn all)
stands-all all before (x ∷ xs) e =
    All-cons (StandsIn all) x xs (record { before = before; after = xs; whole = e })
    (stands-all all (before ++ x ∷ []) xs (e ∙ sym (append_assoc before (x ∷ []) xs)))

stands : {A : Type 0} (xs : List A) (x : A) → Contains xs x → StandsIn xs x
stands xs x c = All-contains (StandsIn xs) xs x (stands-all xs [] xs refl) c

pub passed-on : (f : Finds) (ps : List Part) (came : List Plain) (r : Plain) → Contains came r → HasCause f ps came r
passed-on f ps came r c = let s = stands came r c in PassedOn s.before s.after s.whole

has-cause : (n : Node) (r : Plain) → feeds_edge n.exit.output ≡ true → IsSentFor n r
    → HasCause (finds_of n) (parts n) (reasons_in (fairly (received_at n.entrance.above))) r
has-cause n r e (Caused (Passed c)) = passed-on (finds_of n) (parts n) (reasons_in (fairly (received_at n.entrance.above))) r c
has-cause n r e (Caused (Own o)) = OwnCause (own-cause n r e o)
has-cause n r e (Wanting is stopped) = OwnCause (subst (λ q. IsOwn (finds_of n) (parts n) q) (sym is) (ap is_wanting stopped))

have-causes : (n : Node) (rs : List Plain) → feeds_edge n.exit.output ≡ true → All (IsSentFor n) rs
    → All (HasCause (finds_of n) (parts n) (reasons_in (fairly (received_at n.entrance.above)))) rs
have-causes n [] e a = All-nil (HasCause (finds_of n) (parts n) (reasons_in (fairly (received_at n.entrance.above))))
have-causes n (r ∷ rs) e a =
    All-cons (HasCause (finds_of n) (parts n) (reasons_in (fairly (received_at n.entrance.above)))) r rs
    (has-cause n r e (All-head (IsSentFor n) r rs a)) (have-causes n rs e (All-tail (IsSentFor n) r rs a))

pub sends-fairly : (ss : List Stage) (n : Node) → feeds_edge n.exit.output ≡ true → SendsDown n
    → SendsFairly (inside_of ss n) (reasons_in (fairly (received_at n.entrance.above))) (sent_at n.exit.below)
sends-fairly ss n e s = record { kinds = s.kinds; last = s.last; causes = have-causes n (reasons_in (sent_at n.exit.below)) e s.causes }

-- What came in and what went out

pub by-input : (a b : Entrance) (m₀ m₁ : Moment) (came : Told (List ℕ)) → is_edge a.input ≡ false → ComesIn a b m₀ m₁ came → FromGoes a b m₀ m₁ came
by-input a b m₀ m₁ came e (ByInput f g) = g
by-input a b m₀ m₁ came e (ByEdge f g) = absurd (cc)

pub by-edge : (a b : Entrance) (m₀ m₁ : Moment) (came : Told (List ℕ)) → is_edge a.input ≡ true → ComesIn a b m₀ m₁ came → TakesOn a b m₀ m₁ came
by-edge a b m₀ m₁ came e (ByEdge f g) = g
by-edge a b m₀ m₁ came e (ByInput f g) = absurd (cc)

pub to-output : (a b : Exit) (m₀ m₁ : Moment) (p q : Got) (went : Told (List ℕ)) (gain : List ℕ) (out : Mark) → feeds_edge a.output ≡ false
    → GoesOut a b m₀ m₁ p q went gain out → ToGoes a b m₀ m₁ p q went gain out
to-output a b m₀ m₁ p q went gain out e (ToOutput f g) = g
to-output a b m₀ m₁ p q went gain out e (ToEdge f g) = absurd (cc)

pub to-edge : (a b : Exit) (m₀ m₁ : Moment) (p q : Got) (went : Told (List ℕ)) (gain : List ℕ) (out : Mark) → feeds_edge a.output ≡ true
    → GoesOut a b m₀ m₁ p q went gain out → PostsOn a b m₀ m₁ p q went gain out
to-edge a b m₀ m₁ p q went gain out e (ToEdge f g) = g
to-edge a b m₀ m₁ p q went gain out e (ToOutput f g) = absurd (cc)

none-received : (e : Option AtEdge) → IsUnused e → received_at e ≡ []
none-received None u = refl
none-received (Some e) u = u.0

none-sent : (e : Option AtEdge) → IsUnused e → sent_at e ≡ []
none-sent None u = refl
none-sent (Some e) u = u.1

-- from a new end on, all is what came since
pub received-all : (a b : Option AtEdge) (taken posted : List Message) → IsUnused a → EndGrows a b taken posted → received_at b ≡ taken
received-all a b taken posted u g = g.received ∙ ap (λ q. q ++ taken) (none-received a u)

pub sent-all : (a b : Option AtEdge) (taken posted : List Message) → IsUnused a → EndGrows a b taken posted → sent_at b ≡ posted
sent-all a b taken posted u g = g.sent ∙ ap (λ q. q ++ posted) (none-sent a u)

module _ (shape : Shape) (first : ℕ) (abort : Option ℤ) (a b : Node) (m₀ m₁ : Moment) (p q : Got) (new : IsNew shape first abort a) (w : Went a b m₀ m₁ p q) where
  pub flows-since : Flows (machines shape.stages) w.read (parts b) (then_told w.went (held b))
  flows-since =
      subst (λ (o : Told (List ℕ)). Goes (machines shape.stages) w.read (fresh (machines shape.stages)) o (parts b) (then_told w.went (held b))) new.held
      (subst (λ (ps : List Part). Goes (machines shape.stages) w.read ps (held a) (parts b) (then_told w.went (held b))) new.parts
      (subst (λ (ss : List Stage). Goes (machines ss) w.read (parts a) (held a) (parts b) (then_told w.went (held b))) new.is_of.stages w.core.moves.0.goes))

  pub first-since : b.core.first ≡ first
  first-since = w.core.first ∙ new.first_is

  -- what went out over the edge below is what was sent there
  pub went-since : feeds_edge a.exit.output ≡ true → w.went ≡ told_by (sent_at b.exit.below)
  went-since e =
      let g = to-edge a.exit b.exit m₀ m₁ p q w.went w.gain w.out e w.into in
      g.went_is ∙ ap told_by (sym (sent-all a.exit.below b.exit.below g.taken g.posted new.below g.end))

  -- what came over the edge above is what was received there, as it was taken
  pub came-since : is_edge a.entrance.input ≡ true → w.read ≡ told_by (fairly (received_at b.entrance.above))
  came-since e =
      let g = by-edge a.entrance b.entrance m₀ m₁ w.read e w.from in
      g.came_is ∙ ap (λ ms. told_by (fairly ms)) (sym (received-all a.entrance.above b.entrance.above g.taken g.posted new.above g.end))
