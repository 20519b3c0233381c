-- What lies in a row once its ends have met.
use Rattle.std.specs.Prelude.{ℕ, zero, suc, List, [], ◌∷◌, Option, Some, None}
use Rattle.ws_value.specs.declared.value.Message.{Message}

-- the messages that lie in the places, in order
abbrev pub messages_in : List (Option Message) → List Message
messages_in [] = []
messages_in (None ∷ places) = messages_in places
messages_in (Some m ∷ places) = m ∷ messages_in places

abbrev pub empty : ℕ → List (Option Message)
empty zero = []
empty (suc n) = None ∷ empty n

-- the messages from the first place on, and then n empty places
abbrev pub filled_from : List Message → ℕ → List (Option Message)
filled_from [] n = empty n
filled_from (m ∷ ms) n = Some m ∷ filled_from ms n
