-- Laws of tees over every run. What they say of streams and tees they say between steps.
use Rattle.std.specs.Prelude.{◌≡◌, true, if◌then◌else◌, List, [], ◌∷◌, ◌++◌, Option, Some, None}
use Rattle.ws_value.specs.declared.ids.StreamId.{StreamId}
use Rattle.ws_value.specs.declared.ids.TeeId.{TeeId}
use Rattle.ws_value.specs.declared.value.Plain.{Plain}
use Rattle.ws_value.specs.declared.value.Plain.TheVariants.{Pair}
use Rattle.ws_value.specs.declared.value.Value.{Value}
use Rattle.ws_steps.specs.declared.effects.Owner.TheVariants.{BranchOf}
use Rattle.ws_steps.specs.declared.tee.Half.TheVariants.{First, Second}
use Rattle.ws_steps.specs.Slots.{Slots, empty, has_readable, owner_at, pair_at, readable_at, tee_at}
use Rattle.ws_steps.specs.Tee as tee
use Rattle.ws_steps.specs.Run.{Entry, run}
use Rattle.ws_steps.specs.ReadableHistory.{Flow, run_flow}
use Rattle.ws_steps.specs.TeeHistory.{Teed, has_tee, run_teed}
use Rattle.ws_steps.specs.Laws.{IsPrefixOf, IsLawfulReadable}

-- the chunk that a tee holds
abbrev pub held_values : Option Value → List Value
held_values None = []
held_values (Some v) = v ∷ []

-- what entered a branch that isn't cancelled is what was handed to the branches, and what entered one that is was the first part of it
abbrev pub IsHanded : Option Plain → List Value → List Value → Type 0
IsHanded None handed entered = entered ≡ handed
IsHanded (Some r) handed entered = IsPrefixOf entered handed

pub record IsTeed (h : Teed) (f g : Flow) (x : tee.Slots) : Type 0 where
  pub handed : List Value
  pub given : handed ++ held_values x.held ≡ h.given
  pub first : IsHanded x.reason1 handed f.entered
  pub second : IsHanded x.reason2 handed g.entered

abbrev pub EachTeeHandsToBoth : Type 0
EachTeeHandsToBoth =
    (entries : List Entry) (t : TeeId) → let s : Slots = run entries empty in let x : tee.Slots = tee_at t s in has_tee t s ≡ true
    → IsTeed (run_teed t entries empty) (run_flow x.branch1 entries empty) (run_flow x.branch2 entries empty) x

-- the reasons of the cancels of a tee's source, by those that the tee keeps of its branches
abbrev pub cancels_of : TeeId → tee.Slots → List Plain
cancels_of t x = if tee.is_wanted x then [] else Pair t ∷ []

abbrev pub EachSourceIsCancelledByBoth : Type 0
EachSourceIsCancelledByBoth =
    (entries : List Entry) (t : TeeId) → let s : Slots = run entries empty in has_tee t s ≡ true
    → (run_teed t entries empty).cancels ≡ cancels_of t (tee_at t s)

abbrev pub EachPairStays : Type 0
EachPairStays =
    (s : Slots) (entries : List Entry) (t : TeeId) (q : Plain × Plain) → pair_at t s ≡ Some q → pair_at t (run entries s) ≡ Some q

-- a branch is a stream of its own, whose algorithms are the tee's, and lawful
pub record IsBranch (entries : List Entry) (i : StreamId) : Type 0 where
  pub there : has_readable i (run entries empty) ≡ true
  pub lawful : IsLawfulReadable (run_flow i entries empty) (readable_at i (run entries empty))

-- in every run, of each tee
pub record AreBranches (entries : List Entry) (t : TeeId) (s : Slots) (x : tee.Slots) : Type 0 where
  pub first : IsBranch entries x.branch1
  pub second : IsBranch entries x.branch2
  pub first_owner : owner_at x.branch1 s ≡ BranchOf t First
  pub second_owner : owner_at x.branch2 s ≡ BranchOf t Second

abbrev pub EachBranchIsLawful : Type 0
EachBranchIsLawful =
    (entries : List Entry) (t : TeeId) → let s : Slots = run entries empty in has_tee t s ≡ true → AreBranches entries t s (tee_at t s)
