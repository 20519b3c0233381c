-- What an operation of a byte stream gives, and who reads it.
use Rattle.std.proofs.Common.{◌≡◌, ℕ, List, [], ◌∷◌, ◌++◌, refl, sym, ap, ◌∙◌, append_assoc, append-nil}
use Rattle.ws_value.specs.declared.ids.StreamId.{StreamId}
use Rattle.ws_value.specs.declared.value.Plain.{Plain}
use Rattle.ws_steps.specs.declared.effects.Effect.{Effect}
use Rattle.ws_steps.specs.declared.effects.Effect.TheVariants.{ChunkSteps, CloseStepsWith}
use Rattle.ws_steps.specs.declared.readable.ReadRequest.{ReadRequest}
use Rattle.ws_steps.specs.Bytes.{Slots, Acts}
use Rattle.ws_steps.specs.ByteHistory.{value_bytes}
use Rattle.ws_steps.specs.Promises.{Table}
use Rattle.ws_steps.specs.Readable as readable

-- the bytes of chunk steps, and of close steps of a read-into request
abbrev pub given_by : Effect → List ℕ
given_by (ChunkSteps j request v) = value_bytes v
given_by (CloseStepsWith j request b) = b
given_by _ = []

abbrev pub given : List Effect → List ℕ
given [] = []
given (e ∷ es) = given_by e ++ given es

-- before an operation
abbrev pub starting : Slots → Table → Acts
starting s promises = record { slots = s; out = record { promises = promises; effects = [] } }

pub given_append : (xs ys : List Effect) → given (xs ++ ys) ≡ given xs ++ given ys
given_append [] ys = refl
given_append (x ∷ xs) ys = rw (given_append xs ys) (sym (append_assoc (given_by x) (given xs) (given ys)))

pub given_last : (xs : List Effect) (e : Effect) → given (xs ++ e ∷ []) ≡ given xs ++ given_by e
given_last xs e = given_append xs (e ∷ []) ∙ ap (λ b. given xs ++ b) (append-nil (given_by e))

pub given_closes : (me : StreamId) (qs : List ReadRequest) → given (readable.close_all me qs) ≡ []
given_closes me [] = refl
given_closes me (q ∷ qs) = given_closes me qs

pub given_errors : (me : StreamId) (e : Plain) (qs : List ReadRequest) → given (readable.error_all me e qs) ≡ []
given_errors me e [] = refl
given_errors me e (q ∷ qs) = given_errors me e qs
