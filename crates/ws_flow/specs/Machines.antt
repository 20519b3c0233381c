-- A stage as a machine: what it keeps, what comes out of a chunk, and what the end adds. Most are told byte by byte.
use Rattle.std.specs.Prelude.{◌≡◌, ℕ, zero, suc, ◌+◌, List, [], ◌∷◌, ◌++◌}
use Rattle.std.specs.List.{concat}
use Rattle.ws_flow.specs.declared.plan.Ending.{Ending}
use Rattle.ws_flow.specs.declared.plan.Ending.TheVariants.{Fine, Bad}
use Rattle.ws_flow.specs.Told.{Mark, Open, Closed, Broken, Lost, Told, told, then_told}

-- what a stage remembers: the bytes of its input that aren't done with, the number of its input's bytes, and that of its chunks.
-- A stage that sees bytes counts bytes, and one that sees chunks counts chunks
pub record Kept : Type 0 where
  pub rest : List ℕ
  pub bytes : ℕ
  pub chunks : ℕ

pub record Pushed : Type 0 where
  pub kept : Kept
  pub chunks : List (List ℕ)
  pub ending : Ending

pub record Machine : Type 0 where
  pub start : Kept
  pub push : Kept → List ℕ → Pushed
  pub flush : Kept → Pushed

-- what comes out goes on after a chunk that was fine, and breaks off behind one that was bad
abbrev pub mark_of : Ending → Mark
mark_of Fine = Open
mark_of (Bad c p) = Broken

-- and is all after an end that was fine
abbrev pub end_mark : Ending → Mark
end_mark Fine = Closed
end_mark (Bad c p) = Broken

-- of what a stage was asked for one chunk: behind one that was bad it is asked for nothing, and what lies there is lost
abbrev pub asked_mark : Ending → Mark
asked_mark Fine = Open
asked_mark (Bad c p) = Lost

abbrev pub piece : Pushed → Told (List ℕ)
piece p = told p.chunks (mark_of p.ending)

abbrev pub at_end : Machine → Kept → Mark → Told (List ℕ)
at_end m k Open = told [] Open
at_end m k Broken = told [] Broken
at_end m k Lost = told [] Lost
at_end m k Closed = told (m.flush k).chunks (end_mark (m.flush k).ending)

-- what comes out of further chunks
abbrev pub more : Machine → Kept → List (List ℕ) → Mark → Told (List ℕ)
more m k [] e = at_end m k e
more m k (c ∷ cs) e = then_told (piece (m.push k c)) (more m (m.push k c).kept cs e)

abbrev pub through : Machine → Kept → Told (List ℕ) → Told (List ℕ)
through m k x = more m k x.items x.mark

-- what is remembered after these chunks
abbrev pub keeps : Machine → Kept → List (List ℕ) → Kept
keeps m k [] = k
keeps m k (c ∷ cs) = keeps m (m.push k c).kept cs

abbrev pub or_else : Ending → Ending → Ending
or_else Fine e = e
or_else (Bad c p) e = Bad c p

abbrev pub end_verdict : Machine → Kept → Mark → Ending
end_verdict m k Open = Fine
end_verdict m k Broken = Fine
end_verdict m k Lost = Fine
end_verdict m k Closed = (m.flush k).ending

-- how the stage ended over further chunks: the first that was found, and what the end finds only where the input closed
abbrev pub verdict : Machine → Kept → List (List ℕ) → Mark → Ending
verdict m k [] e = end_verdict m k e
verdict m k (c ∷ cs) e = or_else (m.push k c).ending (verdict m (m.push k c).kept cs e)

-- through one stage after another
abbrev pub all_through : List Machine → Told (List ℕ) → Told (List ℕ)
all_through [] x = x
all_through (m ∷ ms) x = all_through ms (through m m.start x)

-- how the stage of this number, from 0, ends over what comes into the first
abbrev pub ending : List Machine → ℕ → Told (List ℕ) → Ending
ending [] j x = Fine
ending (m ∷ ms) zero x = verdict m m.start x.items x.mark
ending (m ∷ ms) (suc j) x = ending ms j (through m m.start x)

-- what came into the first closed, and each stage ended fine
pub record EndsWell (ms : List Machine) (x : Told (List ℕ)) : Type 0 where
  pub closed : x.mark ≡ Closed
  pub fine : (j : ℕ) → ending ms j x ≡ Fine

-- Machines that are told byte by byte, or chunk by chunk

abbrev pub pushed : Kept → List (List ℕ) → Ending → Pushed
pushed k cs e = record { kept = k; chunks = cs; ending = e }

abbrev pub nothing_kept : Kept
nothing_kept = record { rest = []; bytes = 0; chunks = 0 }

-- one byte more, and this is what isn't done with
abbrev pub with_rest : Kept → List ℕ → Kept
with_rest k r = record k { rest = r; bytes = k.bytes + 1 }

-- one byte more, and one chunk more
abbrev pub one_byte : Kept → Kept
one_byte k = record k { bytes = k.bytes + 1 }

abbrev pub one_more : Kept → Kept
one_more k = record k { chunks = k.chunks + 1 }

-- first these, and what comes of the rest where they ended fine
abbrev pub added : List (List ℕ) → Ending → Kept → Pushed → Pushed
added cs Fine k r = record { kept = r.kept; chunks = cs ++ r.chunks; ending = r.ending }
added cs (Bad c p) k r = record { kept = k; chunks = cs; ending = Bad c p }

abbrev pub each_byte : (Kept → ℕ → Pushed) → Kept → List ℕ → Pushed
each_byte f k [] = pushed k [] Fine
each_byte f k (b ∷ bs) = let p = f k b in added p.chunks p.ending p.kept (each_byte f p.kept bs)

-- how what came of one chunk's bytes is handed on
pub data Packing : Type 0 where
  -- each as it came
  AsCut : Packing
  -- as one chunk
  One : Packing
  -- as one chunk, where there is a byte
  SomeBytes : Packing

abbrev pub some_chunk : List ℕ → List (List ℕ)
some_chunk [] = []
some_chunk (b ∷ bs) = (b ∷ bs) ∷ []

abbrev pub packed : Packing → List (List ℕ) → List (List ℕ)
packed AsCut cs = cs
packed One cs = concat cs ∷ []
packed SomeBytes cs = some_chunk (concat cs)

abbrev pub byte_push : Packing → (Kept → ℕ → Pushed) → Kept → List ℕ → Pushed
byte_push w f k c = let p = each_byte f k c in record p { chunks = packed w p.chunks }

abbrev pub byte_machine : Packing → (Kept → ℕ → Pushed) → (Kept → Pushed) → Machine
byte_machine w f g = record { start = nothing_kept; push = byte_push w f; flush = g }

abbrev pub no_more : Kept → Pushed
no_more k = pushed k [] Fine

abbrev pub chunk_machine : (Kept → List ℕ → Pushed) → Machine
chunk_machine f = record { start = nothing_kept; push = f; flush = no_more }

-- what a stage sees of its input
pub data Form : Type 0 where
  -- its bytes: how what comes of a chunk is handed on, what comes of a byte, and what the end adds
  OfBytes : Packing → (Kept → ℕ → Pushed) → (Kept → Pushed) → Form
  -- its chunks too: what comes of one
  OfChunks : (Kept → List ℕ → Pushed) → Form

abbrev pub machine_of : Form → Machine
machine_of (OfBytes w f g) = byte_machine w f g
machine_of (OfChunks f) = chunk_machine f
