-- What a cut shows of a stage's machine.
use Rattle.std.specs.Prelude.{◌≡◌, ◌≢◌, List, [], ◌∷◌, ℕ, ◌+◌, ◌^◌, ◌++◌, ◌<◌, length, slice_index}
use Rattle.std.specs.List.{concat}
use Rattle.ws_flow.specs.declared.plan.Ending.TheVariants.{Fine, Bad}
use Rattle.ws_flow.specs.Machines.{Kept, Pushed, some_chunk}
use Rattle.ws_stages.specs.declared.cut.Cut.{Cut}

-- what the stage keeps
abbrev pub kept_of : Cut → Kept
kept_of cut = record { rest = cut.rest.items; bytes = cut.bytes; chunks = cut.count }

-- that, with the chunks so far and how it ended
abbrev pub seen : Cut → Pushed
seen cut = record { kept = kept_of cut; chunks = cut.chunks.items; ending = cut.ending }

-- the same once so many bytes more came, and this chunk of them
abbrev pub handing : Cut → ℕ → List ℕ → Pushed
handing cut n chunk = record { kept = record (kept_of cut) { bytes = cut.bytes + n }; chunks = cut.chunks.items ++ chunk ∷ []; ending = cut.ending }

-- what it shows once this text came out, as one chunk where it has a byte
abbrev pub handing_some : Cut → List ℕ → Pushed
handing_some cut text = record { kept = kept_of cut; chunks = some_chunk text; ending = cut.ending }

-- these bytes are left over too
abbrev pub with_bytes : Kept → List ℕ → Kept
with_bytes k bs = record k { rest = k.rest ++ bs; bytes = k.bytes + length bs }

-- what it shows once these bytes are left over too, and the next is one too many for a line
abbrev pub too_long_at : Cut → List ℕ → Pushed
too_long_at cut bs = let k = with_bytes (kept_of cut) bs in record { kept = k; chunks = cut.chunks.items; ending = Bad 1 k.bytes }

-- none of the first n bytes is a feed
abbrev pub HasNoFeed : ℕ → List ℕ → Type 0
HasNoFeed n bs = (i : ℕ) → i < n → slice_index bs i ≢ 10

-- these chunks, and then what came
abbrev pub with_chunks : List (List ℕ) → Pushed → Pushed
with_chunks cs p = record p { chunks = cs ++ p.chunks }

-- the same where what came is one text
abbrev pub seen_text : Cut → List ℕ → Pushed
seen_text cut text = record { kept = kept_of cut; chunks = text ∷ []; ending = cut.ending }

-- this text, and then what came, joined
abbrev pub with_text : List ℕ → Pushed → Pushed
with_text text p = record p { chunks = (text ++ concat p.chunks) ∷ [] }

-- before a chunk of n bytes
pub record CanTake (cut : Cut) (n : ℕ) : Type 0 where
  pub bytes : cut.bytes + n < 2 ^ 128
  pub count : cut.count + 1 < 2 ^ 64
  pub chunks : cut.chunks.items ≡ []
  pub fine : cut.ending ≡ Fine
