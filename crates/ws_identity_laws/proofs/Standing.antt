-- What holds of a link of any ends at each moment of a step, with the effects that stand on the agenda, and what lies on it then.
use Rattle.ws_transform_laws.proofs.PortHalving.{PortGoing}
use Rattle.ws_value.specs.declared.ids.PortId.{PortId}
use Rattle.std.proofs.Common.{◌≡◌, ◌≢◌, true, List, [], ◌∷◌, ◌++◌, refl, arith}
use Rattle.ws_value.specs.declared.ids.PipeId.{PipeId}
use Rattle.ws_value.specs.declared.ids.StreamId.{StreamId}
use Rattle.ws_value.specs.declared.value.Value.{Value}
use Rattle.ws_steps.specs.declared.effects.Effect.{Effect}
use Rattle.ws_steps.specs.declared.transform.TransformId.{TransformId}
use Rattle.ws_steps.specs.Slots.{Slots, source_at, writable_at, pipe_at, owner_at}
use Rattle.ws_steps.specs.Turns.{row}
use Rattle.ws_steps.specs.WritableHistory.{Writes}
use Rattle.ws_flow.specs.Told.{Open, Told, then_told, IsShortOf}
use Rattle.ws_flow.proofs.Told.{short_left}
use Rattle.ws_laws.proofs.Lists.{Each}
use Rattle.ws_pipe_laws.proofs.pipes.AtSource.{Only}
use Rattle.ws_pipe_laws.proofs.pipes.PassingRuns.{Few}
use Rattle.ws_transform_laws.proofs.Halving.{Going}
use Rattle.ws_link_laws.specs.Link.{in_sink, in_source, in_pipe, lies}
use Rattle.ws_link_laws.proofs.Pipes.{rank}
use Rattle.ws_link_laws.proofs.Standing.{IsInner, AtEnd, State}
use Rattle.ws_link_laws.proofs.Telling.{tells, tells-append, writes, chunks}
use Rattle.ws_identity_laws.specs.Passing.{effect_acts, effect_takes}
use Rattle.ws_link_laws.specs.Sound.{all_untied}
use Rattle.ws_transform_laws.proofs.Sunk.{IsNoBranch}

pub record Stands (i j : StreamId) (p : PipeId) (s : Slots) (es : List Effect) : Type 0 where
  pub state : State i j p s
  pub history : Writes
  pub going : (t : TransformId) → Going j t history s es
  pub porting : (c : PortId) → PortGoing j c history s es
  pub few : Few p s es
  pub only : Only p i s.streams es
  pub inner : Each (IsInner i j p (rank (pipe_at p s).phase)) es
  pub ends : AtEnd j p es
  pub untied : all_untied i s.tees ≡ true
  pub sunk : IsNoBranch (owner_at j s)

-- in the destination, on its way there, and before that
abbrev pub way : Told Value → Told Value → Told Value → Told Value
way K W P = then_told K (then_told W P)

-- what lies on the link, with these effects on the agenda
abbrev pub lies_on : StreamId → StreamId → PipeId → Slots → List Effect → Told Value
lies_on i j p s es = way (in_sink (writable_at j s)) (tells (writes j) es) (in_pipe (pipe_at p s) (then_told (tells (chunks p) es) (in_source (source_at i s))))

pub lies_on-nothing : (i j : StreamId) (p : PipeId) (s : Slots) → lies_on i j p s [] ≡ lies i j p s
lies_on-nothing i j p s = refl

-- after a turn, what was caused stands first
abbrev pub now : StreamId → StreamId → PipeId → Slots → List Effect → List Effect → Told Value
now i j p z cs es =
    way (in_sink (writable_at j z)) (then_told (tells (writes j) cs) (tells (writes j) es))
    (in_pipe (pipe_at p z) (then_told (then_told (tells (chunks p) cs) (tells (chunks p) es)) (in_source (source_at i z))))

pub split : (i j : StreamId) (p : PipeId) (z : Slots) (cs es : List Effect) → lies_on i j p z (cs ++ es) ≡ now i j p z cs es
split i j p z cs es = rw (tells-append (writes j) cs es, tells-append (chunks p) cs es) refl

-- what a turn leaves of a link
pub record Turned (i j : StreamId) (p : PipeId) (s : Slots) (e : Effect) (es : List Effect) : Type 0 where
  pub stands : Stands i j p (row e s).slots ((row e s).caused ++ es)
  pub short : IsShortOf (then_told (effect_acts j e s) (lies_on i j p (row e s).slots ((row e s).caused ++ es))) (then_told (lies_on i j p s (e ∷ es)) (effect_takes i e s))

-- what is taken in comes behind all that lies, unless the pipe lost it
pub way-short : (K W P Q : Told Value) → IsShortOf P Q → IsShortOf (way K W P) (way K W Q)
way-short K W P Q h = short_left K _ _ (short_left W P Q h)

-- where nothing more can come, nothing does
pub shut-same : (x y : Told Value) → x.mark ≢ Open → then_told x y ≡ x
shut-same x y n = grind arith
