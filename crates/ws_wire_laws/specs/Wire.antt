-- Links of one realm, by whatever streams and pipes: of one chain or of several.
use Rattle.std.specs.Prelude.{◌≡◌, Bool, false, List, [], ◌∷◌}
use Rattle.ws_value.specs.declared.ids.PipeId.{PipeId}
use Rattle.ws_value.specs.declared.ids.StreamId.{StreamId}
use Rattle.ws_value.specs.declared.value.Value.{Value}
use Rattle.ws_steps.specs.declared.calls.Call.{Call}
use Rattle.ws_steps.specs.declared.calls.Event.{Event}
use Rattle.ws_steps.specs.Histories.{is_same}
use Rattle.ws_steps.specs.Slots.{Slots}
use Rattle.ws_flow.specs.Told.{Told}
use Rattle.ws_link_laws.specs.Link as link
use Rattle.ws_link_laws.specs.Link.{Ear, OfSink, OfTransform, OfPort, Giver, OfSource, OfByteSource, OfHalf, OfEnd, ear_at, giver_at, behind, is_end, is_sink, is_half, is_port}
use Rattle.ws_link_laws.specs.Room.{HasRoom}
use Rattle.ws_link_laws.specs.Sound.{IsLink}

-- a link, by what chunks come to its source, and by what the host hears of its destination
pub record Joint : Type 0 where
  pub from : StreamId
  pub into : StreamId
  pub pipe : PipeId
  pub gives : Giver
  pub hears : Ear

-- it is one, with room for one chunk
pub record IsJoint (x : Joint) (s : Slots) : Type 0 where
  pub link : IsLink x.from x.into x.pipe s
  pub room : HasRoom x.into x.pipe s
  pub gives : giver_at x.from s ≡ x.gives
  pub hears : ear_at x.into s ≡ x.hears

-- for each of them
abbrev pub Each : (Joint → Type 0) → List Joint → Type 0
Each P [] = Unit {0}
Each P (x ∷ xs) = P x × Each P xs

-- so is each of a list
abbrev pub IsWired : List Joint → Slots → Type 0
IsWired xs s = Each (λ x. IsJoint x s) xs

-- what is behind the host on it, what a call brings to it, and what an event tells of it

abbrev pub behind_on : Joint → Slots → Told Value
behind_on x s = behind x.from x.into x.pipe s

abbrev pub call_on : Joint → Call → Told Value
call_on x c = link.enters x.gives x.from c

abbrev pub heard_on : Joint → Event → Told Value
heard_on x e = link.heard_of x.hears e

-- two of them: they have no source and no port in common, and nothing by which the host hears

abbrev pub same_end : Giver → Giver → Bool
same_end g OfSource = false
same_end g OfByteSource = false
same_end g (OfHalf t) = false
same_end g (OfEnd c) = is_end g c

abbrev pub same_ear : Ear → Ear → Bool
same_ear w (OfSink j) = is_sink w j
same_ear w (OfTransform t r) = is_half w r
same_ear w (OfPort c) = is_port w c

pub record AreTwo (x y : Joint) : Type 0 where
  pub from : is_same x.from y.from ≡ false
  pub ends : same_end x.gives y.gives ≡ false
  pub hears : same_ear x.hears y.hears ≡ false
