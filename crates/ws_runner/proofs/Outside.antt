-- What a run's input and output tell at its end, and its abort.
use Rattle.std.proofs.Common.{◌≡◌, ◌≢◌, ◌<◌, ℕ, ℤ, true, List, length, nat_abs, Option, Some, None, refl, sym, subst, arith}
use Rattle.std.specs.List.{concat}
use Rattle.ws_flow.specs.Told.{Mark, Open as MayCome, Closed, Lost, Told}
use Rattle.ws_io.specs.Faults.{Rose}
use Rattle.ws_io.specs.Gain.{Becomes, KeepsTold}
use Rattle.ws_io.specs.Moment.{Moment}
use Rattle.ws_joined_laws.specs.Ends as joined_ends
use Rattle.ws_joined_laws.specs.Ends.{StopsNear}
use Rattle.ws_joined_laws.specs.RunEnds as run_ends
use Rattle.ws_node.specs.declared.node.Abort.{Abort}
use Rattle.ws_node.specs.declared.node.Input.{Input}
use Rattle.ws_node.specs.declared.node.Input.TheVariants as input
use Rattle.ws_node.specs.declared.node.Output.{Output}
use Rattle.ws_node.specs.declared.node.Output.TheVariants as output
use Rattle.ws_node.specs.Ends.{ReadAs, IsAborted}
use Rattle.ws_node.specs.Node.{is_reached}
use Rattle.ws_node.specs.Opening.{abort_of}
use Rattle.ws_node.specs.Went.{AbortGoes, InputGoes, OutputGoes}

-- The input

pub record InputTells (b : Input) (read : Told (List ℕ)) (m₀ m₁ : Moment) : Type 0 where
  pub read_as : run_ends.ReadAs read.mark m₀ m₁
  pub ended : read.mark ≡ Closed → b ≢ input.TooLong
  pub failed : b ≡ input.Failed → Rose m₀.read_faults m₁.read_faults

pub as-unread : (m n : Mark) (m₀ m₁ : Moment) → m ≡ n → run_ends.ReadAs n m₀ m₁ → run_ends.ReadAs m m₀ m₁
as-unread m n m₀ m₁ e r = subst (λ q. run_ends.ReadAs q m₀ m₁) (sym e) r

pub input-tells : (b : Input) (read : Told (List ℕ)) (m₀ m₁ : Moment) → InputGoes input.Open b read m₀ m₁ → InputTells b read m₀ m₁
input-tells input.Open read m₀ m₁ (e, f, k) = record { read_as = as-unread read.mark MayCome m₀ m₁ e tt; ended = λ c d. cc; failed = λ c. absurd (cc) }
input-tells input.Ended read m₀ m₁ (e, f, g, h) =
    record { read_as = as-unread read.mark Closed m₀ m₁ e (record { ended = g; emptied = h; calm = f }); ended = λ c d. cc; failed = λ c. absurd (cc) }
input-tells input.Failed read m₀ m₁ (e, f, k) = record { read_as = as-unread read.mark Lost m₀ m₁ e tt; ended = λ c d. cc; failed = λ c. f }
input-tells input.TooLong read m₀ m₁ (e, f, k) = record { read_as = as-unread read.mark Lost m₀ m₁ e tt; ended = λ c d. cc; failed = λ c. absurd (cc) }
input-tells input.Edge read m₀ m₁ h = absurd h
input-tells (input.Broken reason) read m₀ m₁ h = absurd h

-- The output

pub record OutputTells (b : Output) (out : Mark) (m₀ m₁ : Moment) : Type 0 where
  pub closed : b ≡ output.Finished → out ≡ Closed
  pub unclosed : b ≢ output.Finished → out ≢ Closed
  pub finished : out ≡ Closed → (m₁.write_faults ≡ m₀.write_faults) × Becomes m₀.finished m₁.finished
  pub unfinished : out ≢ Closed → KeepsTold m₀.finished m₁.finished
  pub failed : b ≡ output.Failed → Rose m₀.write_faults m₁.write_faults

pub output-tells : (b : Output) (gain : List ℕ) (out : Mark) (m₀ m₁ : Moment) → OutputGoes output.Open b gain out m₀ m₁ → OutputTells b out m₀ m₁
output-tells output.Open gain out m₀ m₁ (e, f, k) =
    record { closed = λ c. absurd (cc); unclosed = λ c d. cc; finished = λ c. absurd (cc); unfinished = λ c. k; failed = λ c. absurd (cc) }
output-tells output.Finished gain out m₀ m₁ (e, f, k) =
    record { closed = λ c. e; unclosed = λ c. absurd (c refl); finished = λ c. (f, k); unfinished = λ c. absurd (c e); failed = λ c. absurd (cc) }
output-tells output.Failed gain out m₀ m₁ (e, f, k) =
    record { closed = λ c. absurd (cc); unclosed = λ c d. cc; finished = λ c. absurd (cc); unfinished = λ c. k; failed = λ c. f }
output-tells output.Aborted gain out m₀ m₁ (e, f, k) =
    record { closed = λ c. absurd (cc); unclosed = λ c d. cc; finished = λ c. absurd (cc); unfinished = λ c. k; failed = λ c. absurd (cc) }
output-tells output.Edge gain out m₀ m₁ h = absurd h

pub stops-near : (after : Option ℤ) (x y : Option Abort) (chunks : List (List ℕ)) (gain : List ℕ) (o : Output) → x ≡ abort_of after → AbortGoes x y chunks gain o
    → StopsNear after chunks gain
stops-near None x y chunks gain o e g = tt
stops-near (Some after) (Some x) (Some y) chunks gain o e (same, near) = λ some.
    let left : x.left ≡ nat_abs after = cc in
    let s = near.last some in
    record { before = s.before; chunk = s.chunk; after = s.after; split = s.split; from = s.from; to = s.to; fewer = subst (λ k. length (concat s.before) < k) left s.fewer }
stops-near (Some after) None y chunks gain o e g = absurd (cc)
stops-near (Some after) (Some x) None chunks gain o e g = absurd g

pub abort-reached : (after : Option ℤ) (x y : Option Abort) (chunks : List (List ℕ)) (gain : List ℕ) (o : Output) → x ≡ abort_of after → AbortGoes x y chunks gain o
    → is_reached y ≡ true → joined_ends.IsAborted after gain
abort-reached (Some after) (Some x) (Some y) chunks gain o e (same, near) r =
    let left : x.left ≡ nat_abs after = cc in
    let none : y.left ≡ 0 = grind arith in
    let counted = near.counted in
    omega arith
abort-reached (Some after) (Some x) None chunks gain o e g r = absurd g
abort-reached (Some after) None y chunks gain o e g r = absurd (cc)
abort-reached None None (Some y) chunks gain o e g r = absurd g
abort-reached None None None chunks gain o e g r = absurd (cc)
abort-reached None (Some x) y chunks gain o e g r = absurd (cc)
