-- The opening of a way: streams are made, and then the pipes between them.
use Rattle.std.specs.Prelude.{◌≡◌, ℕ, suc, Bool, true, false, not, ◌&&◌, List, [], ◌∷◌, ◌++◌, None}
use Rattle.ws_value.specs.declared.ids.StreamId.{StreamId}
use Rattle.ws_steps.specs.declared.calls.Call.{Call}
use Rattle.ws_steps.specs.declared.calls.Call.TheVariants.{MakeReadable, MakeBytes, MakeWritable, MakeTransform, Pipe}
use Rattle.ws_steps.specs.declared.effects.Owner.TheVariants.{Host}
use Rattle.ws_steps.specs.declared.pipes.Prevent.{Prevent}
use Rattle.ws_steps.specs.Histories.{is_same}
use Rattle.ws_steps.specs.Run.{Entry, Called, Worked, Heard, run}
use Rattle.ws_steps.specs.Slots.{Slots, empty, owner_at, has_source, has_writable, byte_at}
use Rattle.ws_identity_laws.specs.Ends.{IsAnyFree}
use Rattle.ws_identity_laws.specs.Heard.{IsUnused}
use Rattle.ws_identity_laws.specs.Through.{IsIdentity, Middle}

-- calls that make streams, of any kind, with any marks, sizes and start algorithms

abbrev pub makes : Call → Bool
makes (MakeReadable mark size start) = true
makes (MakeBytes mark auto start) = true
makes (MakeWritable mark size start) = true
makes (MakeTransform kind m n start) = true
makes _ = false

abbrev pub all_make : List Entry → Bool
all_make [] = true
all_make (Called c ∷ xs) = makes c && all_make xs
all_make (Worked ∷ xs) = false
all_make (Heard ∷ xs) = false

abbrev pub EachNewPairIsFree : Type 0
EachNewPairIsFree =
    (xs : List Entry) (i j : StreamId) → let s : Slots = run xs empty in all_make xs ≡ true → has_source i s ≡ true → (byte_at i s).auto ≡ 0 → has_writable j s ≡ true → IsAnyFree i j s

-- the pipes of a way from i on, one after another, and their numbers

abbrev pub pipes_of : StreamId → List Middle → StreamId → Prevent → List Entry
pipes_of i [] k prevent = Called (Pipe i k prevent None) ∷ []
pipes_of i (m ∷ ms) k prevent = Called (Pipe i m.writable prevent None) ∷ pipes_of m.readable ms k prevent

abbrev pub IsNumbered : ℕ → List Middle → Type 0
IsNumbered n [] = Unit {0}
IsNumbered n (m ∷ ms) = (m.out.0 ≡ suc n) × IsNumbered (suc n) ms

-- its transform streams are identities
abbrev pub AllIdentity : List Middle → Slots → Type 0
AllIdentity [] s = Unit {0}
AllIdentity (m ∷ ms) s = IsIdentity m.number m.writable m.readable s × AllIdentity ms s

-- no stream stands in it twice

abbrev pub apart_from : StreamId → StreamId → StreamId → List Middle → StreamId → Bool
apart_from i j r [] k = not (is_same i r) && not (is_same j k)
apart_from i j r (m ∷ ms) k = (not (is_same i r) && not (is_same j m.writable)) && apart_from i j m.readable ms k

abbrev pub all_apart : StreamId → List Middle → StreamId → Bool
all_apart i [] k = true
all_apart i (m ∷ ms) k = apart_from i m.writable m.readable ms k && all_apart m.readable ms k

-- streams that were made, which a way may lead through
pub record MayLead (i : StreamId) (ms : List Middle) (k : StreamId) (xs : List Entry) : Type 0 where
  pub made : all_make xs ≡ true
  pub source : has_source i (run xs empty) ≡ true
  pub no_rooms : (byte_at i (run xs empty)).auto ≡ 0
  pub sink : has_writable k (run xs empty) ≡ true
  pub own : owner_at i (run xs empty) ≡ Host
  pub own_sink : owner_at k (run xs empty) ≡ Host
  pub between : AllIdentity ms (run xs empty)
  pub numbered : IsNumbered 0 ms
  pub apart : all_apart i ms k ≡ true

abbrev pub EachWayOpens : Type 0
EachWayOpens =
    (xs : List Entry) (i k : StreamId) (ms : List Middle) (prevent : Prevent) → MayLead i ms k xs → IsUnused i (record { 0 = 0 }) ms k (xs ++ pipes_of i ms k prevent)
