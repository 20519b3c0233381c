-- What a run may end with, by how its node went.
use Rattle.std.proofs.Common.{◌≡◌, inl, inr, ◌≢◌, ◌+◌, ◌<◌, ◌^◌, ℕ, ℤ, true, List, [], ◌∷◌, ◌++◌, length, map, nat_abs, Option, Some, None, false, refl, sym, ap, ◌∙◌, subst, append-nil, length-append, arith}
use Rattle.std.specs.List.{concat}
use Rattle.ws_flow.specs.declared.plan.Ending.TheVariants.{Fine}
use Rattle.ws_flow.specs.declared.plan.Plan.{Plan}
use Rattle.ws_flow.specs.Parts.{Goes}
use Rattle.ws_flow.specs.Stages.{machines}
use Rattle.std.specs.Prelude.{Contains}
use Rattle.ws_edge.specs.Edge.{AtEdge}
use Rattle.ws_joined_laws.specs.Reasons.{reasons_in}
use Rattle.ws_flow.specs.Plans.{reach, stages_of}
use Rattle.ws_flow.specs.Told.{bytes_of, Mark, Open as MayCome, Closed, Broken, Lost, Told, told, then_told, IsFront, IsBefore}
use Rattle.ws_flow.proofs.Cutting.{some_joined}
use Rattle.ws_flow.proofs.Told.{before_front}
use Rattle.ws_io.specs.Faults.{IsLater, Rose}
use Rattle.ws_io.specs.Feed.{IsEmpty, IsEnded}
use Rattle.ws_io.specs.Gain.{Becomes, KeepsTold, Got}
use Rattle.ws_io.specs.Moment.{Moment}
use Rattle.ws_io.specs.declared.status.Status.{Status}
use Rattle.ws_io.specs.declared.status.Status.TheVariants.{Done, Stage as StageIs, ReadFault, WriteFault, Aborted as AbortedIs, NoMemory, TooMuch}
use Rattle.ws_stages.specs.State.{State}
use Rattle.ws_node.specs.declared.node.Abort.{Abort}
use Rattle.ws_node.specs.declared.node.Entrance.{Entrance}
use Rattle.ws_node.specs.declared.node.Exit.{Exit}
use Rattle.ws_node.specs.declared.node.Input.{Input}
use Rattle.ws_node.specs.declared.node.Input.TheVariants as input
use Rattle.ws_node.specs.declared.node.Node.{Node}
use Rattle.ws_node.specs.declared.node.Output.{Output}
use Rattle.ws_node.specs.declared.node.Output.TheVariants as output
use Rattle.ws_node.specs.Ends.{ReadAs, out_of, ending_of, IsDone, IsAborted, IsWithinAbort, Allows, Leaves, Ends, EndsBy, EndedBy, Own, Passed, EndsAs}
use Rattle.ws_node.specs.Messages.{fairly}
use Rattle.ws_node.specs.Node.{feeds_edge, held, is_edge, is_reached, lying, parts, received_at, stages_in}
use Rattle.ws_node.specs.Opening.{IsAccepted, abort_of}
use Rattle.ws_node.specs.Past.{EndedAs, IsNew, HasCounts}
use Rattle.ws_node.specs.Shares.{whole_of}
use Rattle.ws_node.specs.Went.{AbortGoes, ByEdge, ByInput, ComesIn, FromGoes, GoesOut, InputGoes, OutputGoes, ToEdge, ToGoes, ToOutput, Went}
use Rattle.ws_node_rules.specs.Flow.{HasGone, StopsAt}
use Rattle.ws_node.proofs.Going.{held-is}
use Rattle.ws_node_rules.proofs.Flow as flow

none_mapped : (ws : List State) → map (λ (w : State). w.stage) ws ≡ [] → ws ≡ []
none_mapped [] e = refl
none_mapped (w ∷ ws) e = absurd (cc)

-- an input that was read to its end
input-ended : (i o : Input) (read : Told (List ℕ)) (m₀ m₁ : Moment) → i ≡ input.Open → read.mark ≡ Closed → InputGoes i o read m₀ m₁
    → (m₁.read_faults ≡ m₀.read_faults) × (IsEnded m₁.feed) × (IsEmpty m₁.feed) × (o ≡ input.Ended)
input-ended input.Open input.Ended read m₀ m₁ e f (g, h, k, l) = (h, k, l, refl)
input-ended input.Open input.Open read m₀ m₁ e f (g, h, k) = absurd (cc)
input-ended input.Open input.Failed read m₀ m₁ e f (g, h, k) = absurd (cc)
input-ended input.Open input.TooLong read m₀ m₁ e f (g, h, k) = absurd (cc)
input-ended input.Ended o read m₀ m₁ e f h = absurd (cc)
input-ended input.Failed o read m₀ m₁ e f h = absurd (cc)
input-ended input.TooLong o read m₀ m₁ e f h = absurd (cc)
input-ended input.Edge o read m₀ m₁ e f h = absurd (cc)
input-ended (input.Broken r) o read m₀ m₁ e f h = absurd (cc)
input-ended input.Open input.Edge read m₀ m₁ e f h = absurd h
input-ended input.Open (input.Broken r) read m₀ m₁ e f h = absurd h

-- it never breaks off
input-unbroken : (i o : Input) (read : Told (List ℕ)) (m₀ m₁ : Moment) → read.mark ≡ Broken → InputGoes i o read m₀ m₁ → ⊥
input-unbroken input.Open input.Open read m₀ m₁ e h = let f = h.0 in absurd (cc)
input-unbroken input.Open input.Ended read m₀ m₁ e h = let f = h.0 in absurd (cc)
input-unbroken input.Open input.Failed read m₀ m₁ e h = let f = h.0 in absurd (cc)
input-unbroken input.Open input.TooLong read m₀ m₁ e h = let f = h.0 in absurd (cc)
input-unbroken input.Ended o read m₀ m₁ e h = let f : read.mark ≡ MayCome = ap (λ t. t.mark) h.1 in absurd (cc)
input-unbroken input.Failed o read m₀ m₁ e h = let f : read.mark ≡ MayCome = ap (λ t. t.mark) h.1 in absurd (cc)
input-unbroken input.TooLong o read m₀ m₁ e h = let f : read.mark ≡ MayCome = ap (λ t. t.mark) h.1 in absurd (cc)
input-unbroken input.Edge o read m₀ m₁ e h = absurd h
input-unbroken (input.Broken r) o read m₀ m₁ e h = absurd h
input-unbroken input.Open input.Edge read m₀ m₁ e h = absurd h
input-unbroken input.Open (input.Broken r) read m₀ m₁ e h = absurd h

input-failed : (i o : Input) (read : Told (List ℕ)) (m₀ m₁ : Moment) → i ≡ input.Open → o ≡ input.Failed → InputGoes i o read m₀ m₁ → Rose m₀.read_faults m₁.read_faults
input-failed input.Open input.Failed read m₀ m₁ e f (g, h, k) = h
input-failed input.Open input.Open read m₀ m₁ e f h = absurd (cc)
input-failed input.Open input.Ended read m₀ m₁ e f h = absurd (cc)
input-failed input.Open input.TooLong read m₀ m₁ e f h = absurd (cc)
input-failed input.Ended o read m₀ m₁ e f h = absurd (cc)
input-failed input.Failed o read m₀ m₁ e f h = absurd (cc)
input-failed input.TooLong o read m₀ m₁ e f h = absurd (cc)
input-failed input.Edge o read m₀ m₁ e f h = absurd (cc)
input-failed (input.Broken r) o read m₀ m₁ e f h = absurd (cc)
input-failed input.Open input.Edge read m₀ m₁ e f h = absurd h
input-failed input.Open (input.Broken r) read m₀ m₁ e f h = absurd h

-- an output that was finished, or not
output-finished : (a b : Output) (gain : List ℕ) (m : Mark) (m₀ m₁ : Moment) → a ≡ output.Open → b ≡ output.Finished → OutputGoes a b gain m m₀ m₁
    → (m ≡ Closed) × (m₁.write_faults ≡ m₀.write_faults) × (Becomes m₀.finished m₁.finished)
output-finished output.Open output.Finished gain m m₀ m₁ e f h = h
output-finished output.Open output.Open gain m m₀ m₁ e f h = absurd (cc)
output-finished output.Open output.Failed gain m m₀ m₁ e f h = absurd (cc)
output-finished output.Open output.Aborted gain m m₀ m₁ e f h = absurd (cc)
output-finished output.Finished b gain m m₀ m₁ e f h = absurd (cc)
output-finished output.Failed b gain m m₀ m₁ e f h = absurd (cc)
output-finished output.Aborted b gain m m₀ m₁ e f h = absurd (cc)
output-finished output.Edge b gain m m₀ m₁ e f h = absurd (cc)
output-finished output.Open output.Edge gain m m₀ m₁ e f h = absurd h

output-unfinished : (a b : Output) (gain : List ℕ) (m : Mark) (m₀ m₁ : Moment) → a ≡ output.Open → b ≢ output.Finished → OutputGoes a b gain m m₀ m₁
    → KeepsTold m₀.finished m₁.finished
output-unfinished output.Open output.Open gain m m₀ m₁ e f (g, h, k) = k
output-unfinished output.Open output.Failed gain m m₀ m₁ e f (g, h, k) = k
output-unfinished output.Open output.Aborted gain m m₀ m₁ e f (g, h, k) = k
output-unfinished output.Open output.Finished gain m m₀ m₁ e f h = absurd (f refl)
output-unfinished output.Finished b gain m m₀ m₁ e f h = absurd (cc)
output-unfinished output.Failed b gain m m₀ m₁ e f h = absurd (cc)
output-unfinished output.Aborted b gain m m₀ m₁ e f h = absurd (cc)
output-unfinished output.Edge b gain m m₀ m₁ e f h = absurd (cc)
output-unfinished output.Open output.Edge gain m m₀ m₁ e f h = absurd h

output-failed : (a b : Output) (gain : List ℕ) (m : Mark) (m₀ m₁ : Moment) → a ≡ output.Open → b ≡ output.Failed → OutputGoes a b gain m m₀ m₁
    → Rose m₀.write_faults m₁.write_faults
output-failed output.Open output.Failed gain m m₀ m₁ e f (g, h, k) = h
output-failed output.Open output.Open gain m m₀ m₁ e f h = absurd (cc)
output-failed output.Open output.Finished gain m m₀ m₁ e f h = absurd (cc)
output-failed output.Open output.Aborted gain m m₀ m₁ e f h = absurd (cc)
output-failed output.Finished b gain m m₀ m₁ e f h = absurd (cc)
output-failed output.Failed b gain m m₀ m₁ e f h = absurd (cc)
output-failed output.Aborted b gain m m₀ m₁ e f h = absurd (cc)
output-failed output.Edge b gain m m₀ m₁ e f h = absurd (cc)
output-failed output.Open output.Edge gain m m₀ m₁ e f h = absurd h

-- the count of its faults
pub output-later : (a b : Output) (gain : List ℕ) (m : Mark) (m₀ m₁ : Moment) → a ≡ output.Open → OutputGoes a b gain m m₀ m₁ → IsLater m₀.write_faults m₁.write_faults
output-later output.Open output.Open gain m m₀ m₁ e h = inl h.1
output-later output.Open output.Finished gain m m₀ m₁ e h = inl h.1
output-later output.Open output.Failed gain m m₀ m₁ e h = inr h.1
output-later output.Open output.Aborted gain m m₀ m₁ e h = inl h.1
output-later output.Open output.Edge gain m m₀ m₁ e h = absurd h
output-later output.Finished b gain m m₀ m₁ e h = absurd (cc)
output-later output.Failed b gain m m₀ m₁ e h = absurd (cc)
output-later output.Aborted b gain m m₀ m₁ e h = absurd (cc)
output-later output.Edge b gain m m₀ m₁ e h = absurd (cc)

-- what the output got with an abort
few : (left : ℕ) (chunks : List (List ℕ)) (gain : List ℕ) → (0 < length gain → StopsAt left chunks gain) → length gain < left + 2 ^ 25
few left chunks [] last = omega arith
few left chunks (x ∷ gain) last =
    let at = last (omega arith) in
    let to = at.to in
    let fewer = at.fewer in
    let short = at.short in
    omega arith

abort-within : (after : Option ℤ) (chunks : List (List ℕ)) (gain : List ℕ) → ((most : ℤ) → after ≡ Some most → 0 < length gain → StopsAt (nat_abs most) chunks gain) → IsWithinAbort after gain
abort-within None chunks gain near = tt
abort-within (Some after) chunks gain near = few (nat_abs after) chunks gain (near after refl)

abort-reached : (after : Option ℤ) (x y : Option Abort) (chunks : List (List ℕ)) (gain : List ℕ) (o : Output) → x ≡ abort_of after → AbortGoes x y chunks gain o
    → is_reached y ≡ true → IsAborted after gain
abort-reached (Some after) (Some x) (Some y) chunks gain o e (same, near) r =
    let left : x.left ≡ nat_abs after = cc in
    let none : y.left ≡ 0 = grind arith in
    let counted = near.counted in
    omega arith
abort-reached (Some after) (Some x) None chunks gain o e g r = absurd g
abort-reached (Some after) None y chunks gain o e g r = absurd (cc)
abort-reached None None (Some y) chunks gain o e g r = absurd g
abort-reached None None None chunks gain o e g r = absurd (cc)
abort-reached None (Some x) y chunks gain o e g r = absurd (cc)

-- a part of a list that is as long as all
all_there : (gain rest : List ℕ) → length rest ≡ 0 → gain ++ rest ≡ gain
all_there gain [] e = append-nil gain
all_there gain (x ∷ rest) e = absurd (omega arith)

-- the input's part and the output's of how a node went that is fed by the one and feeds the other

from-input : (a b : Entrance) (m₀ m₁ : Moment) (x : Told (List ℕ)) → a.input ≡ input.Open → ComesIn a b m₀ m₁ x → FromGoes a b m₀ m₁ x
from-input a b m₀ m₁ x e (ByInput f from) = from
from-input a b m₀ m₁ x e (ByEdge f on) = absurd (let g : is_edge a.input ≡ false = ap (λ (i : Input). is_edge i) e in cc)

to-output : (a b : Exit) (m₀ m₁ : Moment) (p q : Got) (x : Told (List ℕ)) (gain : List ℕ) (out : Mark) → a.output ≡ output.Open → GoesOut a b m₀ m₁ p q x gain out → ToGoes a b m₀ m₁ p q x gain out
to-output a b m₀ m₁ p q x gain out e (ToOutput f to) = to
to-output a b m₀ m₁ p q x gain out e (ToEdge f on) = absurd (let g : feeds_edge a.output ≡ false = ap (λ (o : Output). feeds_edge o) e in cc)

module _ (plan : Plan) (a n : Node) (m₀ m₁ : Moment) (p q : Got) (accepted : IsAccepted plan) (new : IsNew (whole_of plan) 0 plan.abort_after a) (w : Went a n m₀ m₁ p q)
    (counts : HasCounts n.entrance) where
  abbrev taken : List ℕ
  taken = concat w.read.items

  abbrev got : Told ℕ
  got = told w.gain w.out

  from : FromGoes a.entrance n.entrance m₀ m₁ w.read
  from = from-input a.entrance n.entrance m₀ m₁ w.read new.input w.from

  into : ToGoes a.exit n.exit m₀ m₁ p q w.went w.gain w.out
  into = to-output a.exit n.exit m₀ m₁ p q w.went w.gain w.out new.output w.into

  none-below : a.exit.below ≡ None
  none-below = new.is_of.into.1

  lying-goes : Goes (machines (stages_in a.core)) w.read (parts a) (lying a) (parts n) (then_told w.went (lying n))
  lying-goes =
      subst (λ (o : Told (List ℕ)). Goes (machines (stages_in a.core)) w.read (parts a) o (parts n) (then_told w.went (lying n))) (held-is a none-below)
      (subst (λ (o : Told (List ℕ)). Goes (machines (stages_in a.core)) w.read (parts a) (held a) (parts n) (then_told w.went o)) (held-is n (into.below ∙ none-below)) w.core.moves.0.goes)

  gone : HasGone plan n m₀ m₁ w.read w.went w.gain w.out
  gone = record { accepted = accepted; from = a; is_new = new; short = from.short; goes = lying-goes; written = into.written; output = into.output; abort = into.abort }

  before : IsBefore got (out_of plan taken w.read.mark)
  before = flow.before plan n m₀ m₁ w.read w.went w.gain w.out gone

  within_most : n.entrance.taken ≡ length taken
  within_most = let counted = from.counted in let taken_is = new.taken in omega arith

  most : n.entrance.most ≡ nat_abs plan.max_input
  most = from.most ∙ new.is_of.most

  whole : n.exit.output ≡ output.Finished → IsDone plan m₀ m₁ taken w.gain
  whole done =
      let o = output-finished a.exit.output n.exit.output w.gain w.out m₀ m₁ new.output done into.output in
      let c = flow.closed plan n m₀ m₁ w.read w.went w.gain w.out gone o.0 in
      let i = input-ended a.entrance.input n.entrance.input w.read m₀ m₁ new.input c.1.closed from.input in
      let within = counts.within (λ e. let f = i.3 in cc) in
      let same = within_most in
      let limit = most in
      record {
        ended = i.1;
        emptied = i.2;
        no_fault = record { read = i.0; write = o.1 };
        within = omega arith;
        fine = subst (λ (m : Mark). (j : ℕ) → ending_of plan j taken m ≡ Fine) c.1.closed c.1.fine;
        whole = subst (λ (m : Mark). out_of plan taken m ≡ told w.gain m) c.1.closed (c.0 ∙ ap (λ m. told w.gain m) (o.0 ∙ sym c.1.closed));
        finished = o.2;
      }

  no_stages : stages_of plan ≡ [] → a.core.stages.items ≡ []
  no_stages e = none_mapped a.core.stages.items (new.is_of.stages ∙ (flow.whole-stages plan ∙ e))

  by_input : is_edge a.entrance.input ≡ false
  by_input = ap (λ (i : Input). is_edge i) new.input

  to_output : feeds_edge a.exit.output ≡ false
  to_output = ap (λ (o : Output). feeds_edge o) new.output

  nothing_left : stages_of plan ≡ [] → n.entrance.input ≡ input.Failed → w.gain ≡ taken
  nothing_left e failed =
      let none = counts.failed failed in
      let ahead = w.ahead (no_stages e) by_input to_output in
      let none_ahead = new.ahead in
      let front = subst (IsFront w.gain) (ap (λ ss. (bytes_of (reach ss taken w.read.mark)).items) e ∙ some_joined taken) (before_front got (out_of plan taken w.read.mark) before) in
      let parts = ap length front.1 ∙ length-append w.gain front.0 in
      sym (front.1 ∙ all_there w.gain front.0 (omega arith))

  allows : (status : Status) → EndsBy status n → Allows status plan w.read.mark m₀ m₁ taken w.gain
  allows Done by = whole by
  allows (StageIs index code place) by =
      let own = by.1 in
      let first : n.core.first ≡ 0 = w.core.first ∙ new.first_is in
      let same : own.number ≡ index = let counted = own.counted in omega arith in
      flow.bad plan n m₀ m₁ w.read w.went w.gain w.out gone index code place (subst (λ (k : ℕ). EndedAs k code place n.core.stages.items) same own.ended)
  allows ReadFault by = ((λ e. nothing_left e by.1), input-failed a.entrance.input n.entrance.input w.read m₀ m₁ new.input by.1 from.input)
  allows WriteFault by = output-failed a.exit.output n.exit.output w.gain w.out m₀ m₁ new.output by into.output
  allows AbortedIs by = abort-reached plan.abort_after a.exit.abort n.exit.abort w.went.items w.gain n.exit.output new.abort into.abort by.1
  allows NoMemory by = tt
  allows TooMuch by =
      let beyond = counts.beyond by.1 in
      let same = within_most in
      let limit = most in
      omega arith
  allows _ by = absurd by

  kept : n.exit.output ≢ output.Finished → KeepsTold m₀.finished m₁.finished
  kept other = output-unfinished a.exit.output n.exit.output w.gain w.out m₀ m₁ new.output other into.output

  leaves : (status : Status) → EndsBy status n → Leaves status m₀ m₁
  leaves Done by = tt
  leaves (StageIs index code place) by = kept by.0
  leaves ReadFault by = kept by.0
  leaves WriteFault by = kept (λ e. let f = by in cc)
  leaves AbortedIs by = kept by.0
  leaves NoMemory by = kept by
  leaves TooMuch by = kept by.0
  leaves _ by = absurd by

  reads : (m : Mark) → w.read.mark ≡ m → ReadAs m m₀ m₁
  reads MayCome e = tt
  reads Broken e = input-unbroken a.entrance.input n.entrance.input w.read m₀ m₁ e from.input
  reads Lost e = tt
  reads Closed e =
      let i = input-ended a.entrance.input n.entrance.input w.read m₀ m₁ new.input e from.input in
      record { ended = i.1; emptied = i.2; calm = i.0 }

  ends-with : (status : Status) → EndsBy status n → Ends status plan m₀ m₁ p q
  ends-with status by =
      let bound = counts.bound in
      let piece = counts.piece in
      let same = within_most in
      let limit = most in
      let none_ahead = new.ahead in
      record {
        taken = taken;
        gain = w.gain;
        mark = w.read.mark;
        fed = from.fed;
        read = reads w.read.mark refl;
        gained = into.gained;
        first = before_front got (out_of plan taken w.read.mark) before;
        bound = omega arith;
        ahead_by = λ e. let ahead = w.ahead (no_stages e) by_input to_output in omega arith;
        abort = abort-within plan.abort_after w.went.items w.gain (flow.keeps-flow plan n m₀ m₁ w.read w.went w.gain w.out gone).near;
        allowed = allows status by;
        finish_kept = leaves status by;
        later = output-later a.exit.output n.exit.output w.gain w.out m₀ m₁ new.output into.output;
        emptied = λ e. into.emptied new.output (subst (λ (s : Status). EndsBy s n) e by);
      }

-- no error came over an edge
own-end : (plan : Plan) (a n : Node) (status : Status) (m₀ m₁ : Moment) (p q : Got) → IsNew (whole_of plan) 0 plan.abort_after a → Went a n m₀ m₁ p q → EndedBy status n → EndsBy status n
own-end plan a n status m₀ m₁ p q new w (Own by) = by
own-end plan a n status m₀ m₁ p q new w (Passed r came other is) =
    let from = from-input a.entrance n.entrance m₀ m₁ w.read new.input w.from in
    let none : n.entrance.above ≡ None = from.above ∙ new.is_of.from.1 in
    let c : Contains (reasons_in (fairly (received_at None))) r = subst (λ (o : Option AtEdge). Contains (reasons_in (fairly (received_at o))) r) none came in
    absurd (let less = c.1 in omega arith)

-- a run whose node ends with a status
pub ends-from : (plan : Plan) (a n : Node) (status : Status) (m₀ m₁ : Moment) (p q : Got) → IsAccepted plan → IsNew (whole_of plan) 0 plan.abort_after a → Went a n m₀ m₁ p q
    → EndsAs (Some status) n → Ends status plan m₀ m₁ p q
ends-from plan a n status m₀ m₁ p q accepted new went ends =
    ends-with plan a n m₀ m₁ p q accepted new went ends.counts status (own-end plan a n status m₀ m₁ p q new went ends.by)
