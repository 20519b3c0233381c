-- The causes for which a pipeline file is refused.
use Rattle.std.specs.Prelude.{ℕ}
use Rattle.ws_flow.specs.declared.refusal.Refusal.{Refusal}
use Rattle.ws_flow.specs.declared.refusal.Refusal.TheVariants.{FileTooLong, NotToml, WrongKey, OtherVersion, UnknownKind, TooManyStages, OutOfRange, TooManyHex, SeesCutting, TooManyWorkers, WorkersOutOfOrder, IdleWorker}

-- the number of a cause, as it is printed
abbrev pub refusal_number : Refusal → ℕ
refusal_number FileTooLong = 8
refusal_number NotToml = 9
refusal_number WrongKey = 10
refusal_number OtherVersion = 12
refusal_number UnknownKind = 11
refusal_number TooManyStages = 1
refusal_number OutOfRange = 2
refusal_number TooManyHex = 7
refusal_number SeesCutting = 3
refusal_number TooManyWorkers = 4
refusal_number WorkersOutOfOrder = 6
refusal_number IdleWorker = 5
