-- What stands at the keys of a table.
use Rattle.std.specs.Prelude.{ℕ, ℤ, Bool, true, false, ◌&&◌, List, Option, Some, None, unwrap_or, ok_or, Result, Ok, Err, if◌then◌else◌}
use Rattle.std.specs.List.{list_any}
use Rattle.std.specs.Str.{bytes_eq}
use Rattle.toml.specs.Data.{Data, string, integer, array, table, Items, no_items, item, Members, no_members, member, get_member}
use Rattle.ws_flow.specs.declared.refusal.Refusal.{Refusal}
use Rattle.ws_flow.specs.declared.refusal.Refusal.TheVariants.{WrongKey}

-- the first refusal of two steps
infixl 10 ◌>>=◌
abbrev pub ◌>>=◌ : {A B : Type 0} → Result A Refusal → (A → Result B Refusal) → Result B Refusal
Ok x >>= f = f x
Err cause >>= f = Err cause

-- what stands at a key, if anything does, and of the right type
abbrev pub as_integer : Option Data → Result (Option ℤ) Refusal
as_integer None = Ok None
as_integer (Some (integer z)) = Ok (Some z)
as_integer (Some _) = Err WrongKey

abbrev pub as_text : Option Data → Result (Option (List ℕ)) Refusal
as_text None = Ok None
as_text (Some (string s)) = Ok (Some s)
as_text (Some _) = Err WrongKey

abbrev pub are_tables : Items → Bool
are_tables no_items = true
are_tables (item (table ms) ds) = are_tables ds
are_tables (item _ ds) = false

-- the tables of an array, none where nothing stands there
abbrev pub as_tables : Option Data → Result Items Refusal
as_tables None = Ok no_items
as_tables (Some (array ds)) = if are_tables ds then Ok ds else Err WrongKey
as_tables (Some _) = Err WrongKey

abbrev pub integer_at : List ℕ → Members → Result (Option ℤ) Refusal
integer_at key ms = as_integer (get_member key ms)

abbrev pub integer_or : ℤ → List ℕ → Members → Result ℤ Refusal
integer_or d key ms = integer_at key ms >>= λ o. Ok (unwrap_or o d)

abbrev pub some_integer : List ℕ → Members → Result ℤ Refusal
some_integer key ms = integer_at key ms >>= λ o. ok_or o WrongKey

abbrev pub some_text : List ℕ → Members → Result (List ℕ) Refusal
some_text key ms = as_text (get_member key ms) >>= λ o. ok_or o WrongKey

-- whether each key is one of these
abbrev pub has_only : List (List ℕ) → Members → Bool
has_only keys no_members = true
has_only keys (member k d ms) = list_any (λ l. bytes_eq k l) keys && has_only keys ms

abbrev pub only : List (List ℕ) → Members → Result (Unit {0}) Refusal
only keys ms = if has_only keys ms then Ok tt else Err WrongKey
