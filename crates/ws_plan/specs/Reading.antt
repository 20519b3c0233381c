-- What a pipeline file says: a plan, or its first refusal.
use Rattle.std.specs.Prelude.{ℕ, ℤ, pos, ◌&&◌, nat_lt, List, [], ◌∷◌, length, codes, Option, Some, None, Result, Ok, Err, int_le, if◌then◌else◌}
use Rattle.std.specs.Str.{is_utf8}
use Rattle.toml.specs.Data.{Data, table, Items, no_items, item, Members, get_member}
use Rattle.toml.specs.Parse.{parse_document}
use Rattle.ws_flow.specs.Plans.{refusal_of}
use Rattle.ws_flow.specs.declared.plan.Placed.{Placed}
use Rattle.ws_flow.specs.declared.refusal.Refusal.{Refusal}
use Rattle.ws_flow.specs.declared.refusal.Refusal.TheVariants.{FileTooLong, NotToml, WrongKey, OtherVersion}
use Rattle.ws_plan.specs.Keys.{◌>>=◌, as_tables, integer_at, integer_or, some_integer, some_text, only}
use Rattle.ws_plan.specs.Stages.{of_kind}

-- a plan, with its stages as a list
pub record Planned : Type 0 where
  pub workers : ℤ
  pub abort_after : Option ℤ
  pub max_input : ℤ
  pub stages : List Placed

-- a stage, on this worker where it names none
abbrev pub placed_in : ℤ → Members → Result Placed Refusal
placed_in before ms =
    some_text (codes "kind") ms >>= λ kind. (of_kind kind ms >>= λ stage. (integer_or before (codes "worker") ms >>= λ worker.
    Ok (record { stage = stage; worker = worker })))

abbrev pub placed_of : ℤ → Data → Result Placed Refusal
placed_of before (table ms) = placed_in before ms
placed_of before _ = Err WrongKey

-- the stages in file order, each on the worker of the one before where it names none
abbrev pub all_placed : ℤ → Items → Result (List Placed) Refusal
all_placed before no_items = Ok []
all_placed before (item d ds) = placed_of before d >>= λ p. (all_placed p.worker ds >>= λ ps. Ok (p ∷ ps))

abbrev pub version_of : ℤ → Result (Unit {0}) Refusal
version_of z = if int_le (pos 1) z && int_le z (pos 1) then Ok tt else Err OtherVersion

abbrev pub top_keys : List (List ℕ)
top_keys = codes "version" ∷ codes "workers" ∷ codes "abort_after" ∷ codes "max_input" ∷ codes "stage" ∷ []

-- the worker of a first stage that names none
abbrev pub first_worker : ℤ → ℤ
first_worker workers = if int_le (pos 1) workers then pos 1 else pos 0

-- the version is looked at before the other keys of the file, and these before any stage
abbrev pub planned : Members → Result Planned Refusal
planned ms =
    some_integer (codes "version") ms >>= λ version. (version_of version >>= λ u. (only top_keys ms >>= λ v.
    (integer_or (pos 0) (codes "workers") ms >>= λ workers. (integer_at (codes "abort_after") ms >>= λ after.
    (integer_or (pos 1099511627776) (codes "max_input") ms >>= λ most. (as_tables (get_member (codes "stage") ms) >>= λ tables.
    (all_placed (first_worker workers) tables >>= λ stages.
    Ok (record { workers = workers; abort_after = after; max_input = most; stages = stages }))))))))

-- the table of a file, if it is TOML, whose text is UTF-8
abbrev pub table_of : Option Members → Result Members Refusal
table_of None = Err NotToml
table_of (Some ms) = Ok ms

abbrev pub table_in : List ℕ → Result Members Refusal
table_in text = if is_utf8 text then table_of (parse_document text) else Err NotToml

-- a plan that isn't refused
abbrev pub unless_refused : Planned → Option Refusal → Result Planned Refusal
unless_refused p None = Ok p
unless_refused p (Some cause) = Err cause

abbrev pub accepted : Planned → Result Planned Refusal
accepted p = unless_refused p (refusal_of p.workers p.abort_after p.max_input p.stages)

-- the most bytes of a pipeline file
abbrev pub most_of_a_file : ℕ
most_of_a_file = 1048576

-- what a file of this text says
abbrev pub reading : List ℕ → Result Planned Refusal
reading text =
    if nat_lt most_of_a_file (length text) then Err FileTooLong else (table_in text >>= λ ms. (planned ms >>= accepted))
