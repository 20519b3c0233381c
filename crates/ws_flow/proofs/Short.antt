-- Chunks that are no longer than so many bytes.
use Rattle.std.proofs.Common.{◌≡◌, ℕ, ◌+◌, ◌<◌, ◌≤◌, ℤ, pos, negsuc, nat_abs, true, List, [], ◌∷◌, ◌++◌, length, map, length-append, sym, subst, arith}
use Rattle.std.specs.Prelude.{int_le}
use Rattle.std.proofs.lemmas.Bool.{and_parts}
use Rattle.ws_flow.specs.declared.plan.Ending.{Ending}
use Rattle.ws_flow.specs.declared.plan.Ending.TheVariants.{Fine, Bad}
use Rattle.ws_flow.specs.declared.plan.Stage.{Stage}
use Rattle.ws_flow.specs.Told.{Mark, Open, Closed, Broken, Lost, Told, goes_on}
use Rattle.ws_flow.specs.Machines.{Kept, Machine, Pushed, mark_of, more, through, added, each_byte, some_chunk}
use Rattle.ws_flow.specs.Stages.{machine, is_within, Gives}

-- each chunk is no longer than this
abbrev pub EachShort : ℕ → List (List ℕ) → Type 0
EachShort most [] = Unit {0}
EachShort most (c ∷ cs) = (length c ≤ most) × EachShort most cs

pub short_append : (b : ℕ) (xs ys : List (List ℕ)) → EachShort b xs → EachShort b ys → EachShort b (xs ++ ys)
short_append b [] ys h g = g
short_append b (x ∷ xs) ys (l, h) g = (l, short_append b xs ys h g)

pub short_piece : (b : ℕ) (cs : List (List ℕ)) (e : Ending) (y : Told (List ℕ)) → EachShort b cs → EachShort b y.items → EachShort b (goes_on cs (mark_of e) y).items
short_piece b cs Fine y h g = short_append b cs y.items h g
short_piece b cs (Bad c p) y h g = h

-- a machine whose pushes and flush give short chunks, while this holds of what it keeps
pub more_short : (m : Machine) (n b : ℕ) (I : Kept → Type 0) →
    ((k : Kept) (c : List ℕ) → I k → length c ≤ n → (EachShort b (m.push k c).chunks) × (I (m.push k c).kept)) →
    ((k : Kept) → I k → EachShort b (m.flush k).chunks) →
    (k : Kept) (cs : List (List ℕ)) (e : Mark) → I k → EachShort n cs → EachShort b (more m k cs e).items
more_short m n b I p f k [] Open i h = tt
more_short m n b I p f k [] Broken i h = tt
more_short m n b I p f k [] Lost i h = tt
more_short m n b I p f k [] Closed i h = f k i
more_short m n b I p f k (c ∷ cs) e i (l, h) =
    let r = p k c i l in
    short_piece b (m.push k c).chunks (m.push k c).ending (more m (m.push k c).kept cs e) r.0 (more_short m n b I p f (m.push k c).kept cs e r.1 h)

-- byte by byte
added_short : (b : ℕ) (I : Kept → Type 0) (cs : List (List ℕ)) (e : Ending) (k : Kept) (r : Pushed) → EachShort b cs → I k → (EachShort b r.chunks) × (I r.kept) → (EachShort b (added cs e k r).chunks) × (I (added cs e k r).kept)
added_short b I cs Fine k r h i g = (short_append b cs r.chunks h g.0, g.1)
added_short b I cs (Bad c p) k r h i g = (h, i)

pub bytes_short : (f : Kept → ℕ → Pushed) (b : ℕ) (I : Kept → Type 0) → ((k : Kept) (x : ℕ) → I k → (EachShort b (f k x).chunks) × (I (f k x).kept)) →
    (k : Kept) (c : List ℕ) → I k → (EachShort b (each_byte f k c).chunks) × (I (each_byte f k c).kept)
bytes_short f b I s k [] i = (tt, i)
bytes_short f b I s k (x ∷ c) i =
    let p = f k x in let r = s k x i in
    added_short b I p.chunks p.ending p.kept (each_byte f p.kept c) r.0 r.1 (bytes_short f b I s p.kept c r.1)

pub one_longer : (rest : List ℕ) (x n : ℕ) → length rest ≤ n → length (rest ++ x ∷ []) ≤ n + 1
one_longer rest x n h = let l = length-append rest (x ∷ []) in omega arith

pub rest_short : (b : ℕ) (rest : List ℕ) → length rest ≤ b → EachShort b (some_chunk rest)
rest_short b [] h = tt
rest_short b (x ∷ xs) h = (h, tt)

-- chunk by chunk
pub map_short : (f : List ℕ → List ℕ) (n b : ℕ) → ((c : List ℕ) → length c ≤ n → length (f c) ≤ b) → (cs : List (List ℕ)) → EachShort n cs → EachShort b (map f cs)
map_short f n b h [] g = tt
map_short f n b h (c ∷ cs) (l, g) = (h c l, map_short f n b h cs g)

pub through_by : (s : Stage) (f : List (List ℕ) → List (List ℕ)) (b : ℕ) (x : Told (List ℕ)) → Gives s f → EachShort b (f x.items) → EachShort b (through (machine s) (machine s).start x).items
through_by s f b x g h = subst (λ q. EachShort b q.items) (sym (g x).0) h

-- numbers in their range
pub range_some : (x : ℤ) (high : ℕ) → is_within 1 high x ≡ true → 0 < nat_abs x
range_some (pos n) high h = some n (and_parts (int_le (pos 1) (pos n)) (int_le (pos n) (pos high)) h).0 where
  some : (n : ℕ) → int_le (pos 1) (pos n) ≡ true → 0 < n
  some n h = grind arith
range_some (negsuc n) high h = cc

pub range_high : (x : ℤ) (low high : ℕ) → is_within low high x ≡ true → nat_abs x ≤ high
range_high (pos n) low high h = most n high (and_parts (int_le (pos low) (pos n)) (int_le (pos n) (pos high)) h).1 where
  most : (n high : ℕ) → int_le (pos n) (pos high) ≡ true → n ≤ high
  most n high h = grind arith
range_high (negsuc n) low high h = cc
