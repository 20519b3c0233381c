-- How what went out of a node stands to what came into it, once it has gone on for any number of turns.
use Rattle.std.specs.Prelude.{◌≡◌, ◌≢◌, ◌+◌, ◌<◌, ◌≤◌, ◌^◌, ℕ, ℤ, nat_abs, List, ◌∷◌, ◌++◌, All, length, Some}
use Rattle.std.specs.List.{concat}
use Rattle.ws_flow.specs.declared.plan.Plan.{Plan}
use Rattle.ws_flow.specs.Machines.{all_through, EndsWell}
use Rattle.ws_flow.specs.Parts.{Goes, residual}
use Rattle.ws_flow.specs.Plans.{as_one, stages_of}
use Rattle.ws_flow.specs.Stages.{machines}
use Rattle.ws_flow.specs.Told.{bytes_of, Mark, Closed, Lost, Told, told, then_told, IsBefore, IsShortOf}
use Rattle.ws_io.specs.Gain.{Got}
use Rattle.ws_io.specs.Moment.{Moment}
use Rattle.ws_node.specs.declared.node.Node.{Node}
use Rattle.ws_node.specs.declared.node.Output.TheVariants as output
use Rattle.ws_node.specs.Ends.{IsBad, out_of}
use Rattle.ws_node.specs.Node.{lying, parts, stages_in}
use Rattle.ws_node.specs.Opening.{IsAccepted}
use Rattle.ws_node.specs.Past.{EndedAs, IsNew}
use Rattle.ws_node.specs.Shares.{whole_of}
use Rattle.ws_node.specs.Went.{AbortGoes, OutputGoes, Went}

-- an output that was finished has all: the input was read to its end, and each stage ended fine
pub record IsWhole (plan : Plan) (read gain : List ℕ) : Type 0 where
  pub ends_well : EndsWell (machines (stages_of plan)) (as_one read Closed)
  pub all : out_of plan read Closed ≡ told gain Closed

-- of the chunks that went out, one holds the last byte that the output got, those before it have fewer bytes than are left to the abort, and it is short
pub record StopsAt (left : ℕ) (chunks : List (List ℕ)) (gain : List ℕ) : Type 0 where
  pub before : List (List ℕ)
  pub chunk : List ℕ
  pub after : List (List ℕ)
  pub split : chunks ≡ before ++ (chunk ∷ after)
  pub from : length (concat before) < length gain
  pub to : length gain ≤ length (concat before) + length chunk
  pub fewer : length (concat before) < left
  pub short : length chunk < 2 ^ 25

-- the node of a plan that was new has read this, and this went out of it, of which the output gained so much: the parts of `Went` that say so
pub record HasGone (plan : Plan) (n : Node) (old new : Moment) (read went : Told (List ℕ)) (gain : List ℕ) (out : Mark) : Type 0 where
  pub accepted : IsAccepted plan
  pub from : Node
  pub is_new : IsNew (whole_of plan) 0 plan.abort_after from
  pub short : All (λ c. length c ≤ 4096) read.items
  pub goes : Goes (machines (stages_in from.core)) read (parts from) (lying from) (parts n) (then_told went (lying n))
  pub written : IsShortOf (told gain out) (bytes_of went)
  pub output : OutputGoes from.exit.output n.exit.output gain out old new
  pub abort : AbortGoes from.exit.abort n.exit.abort went.items gain n.exit.output

-- how what went out stands to what was read
pub record KeepsFlow (plan : Plan) (n : Node) (read went : Told (List ℕ)) (gain : List ℕ) (out : Mark) : Type 0 where
  pub first : IsBefore went (all_through (machines (stages_of plan)) read)
  pub gained : IsBefore (told gain out) (out_of plan (concat read.items) read.mark)
  pub whole : (then_told (then_told went (lying n)) (residual (machines (stages_of plan)) (parts n))).mark ≢ Lost
      → then_told (then_told went (lying n)) (residual (machines (stages_of plan)) (parts n)) ≡ all_through (machines (stages_of plan)) read
  pub finished : n.exit.output ≡ output.Finished → (read.mark ≡ Closed) × IsWhole plan (concat read.items) gain
  pub near : (after : ℤ) → plan.abort_after ≡ Some after → 0 < length gain → StopsAt (nat_abs after) went.items gain
  pub bad : (index code place : ℕ) → EndedAs index code place n.core.stages.items → IsBad plan index code place read.mark (concat read.items)

-- `got` tells for what lists each output stands
abbrev pub EachGoesOn : {K : Type 0} → (K → Got) → Type 0
EachGoesOn {K} got =
    ((a : Node) (m : Moment) (k : K) → Went a a m m (got k) (got k))
    × ((a b c : Node) (m₀ m₁ m₂ : Moment) (k₀ k₁ k₂ : K) → Went a b m₀ m₁ (got k₀) (got k₁) → Went b c m₁ m₂ (got k₁) (got k₂)
    → Went a c m₀ m₂ (got k₀) (got k₂))

abbrev pub EachNodeKeepsFlow : Type 0
EachNodeKeepsFlow =
    (plan : Plan) (n : Node) (old new : Moment) (read went : Told (List ℕ)) (gain : List ℕ) (out : Mark) → HasGone plan n old new read went gain out
    → KeepsFlow plan n read went gain out
