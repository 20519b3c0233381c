-- The stages by their kinds: what each does, as a machine; what it puts out, told once more of whole lists and without its machine; and
-- what else is said of each kind.
use Rattle.std.specs.Prelude.{◌≡◌, ◌≢◌, ℕ, ◌+◌, ◌-◌, ◌*◌, ◌/◌, ◌%◌, ◌^◌, ◌<◌, ◌≤◌, ◌==◌, ◌||◌, ◌&&◌, ◌⊎◌, ℤ, pos, nat_abs, int_le, Bool, true, List, [], ◌∷◌, ◌++◌, length, map, get_or, bit_xor, decimal, Option, Some, None, if◌then◌else◌, nat_lt, nat_le}
use Rattle.std.specs.List.{concat, All}
use Rattle.hex.specs.Hex.{encode_lower, hex_digit_value}
use Rattle.ws_flow.specs.declared.plan.Ending.TheVariants.{Fine, Bad}
use Rattle.ws_flow.specs.declared.plan.Stage.{Stage}
use Rattle.ws_flow.specs.declared.plan.Stage.TheVariants.{Lines, Fixed, Hex, Unhex, Mask, Number, Frame, Unframe}
use Rattle.ws_flow.specs.Told.{Told, told, bytes_of}
use Rattle.ws_flow.specs.Machines.{Machine, Kept, Pushed, through, verdict, all_through, ending, pushed, with_rest, one_byte, one_more, AsCut, One, SomeBytes, some_chunk, no_more, Form, OfBytes, OfChunks, machine_of}
use Rattle.ws_flow.specs.Outputs.{SaysAll, NeverWrong}

-- What each does, and what it puts out

-- `lines`: cut after each line feed; 1 at the first byte past `most` in a line
abbrev pub line_byte : ℕ → Kept → ℕ → Pushed
line_byte most k b =
    if b == 10 then pushed (with_rest k []) ((k.rest ++ b ∷ []) ∷ []) Fine
    else if nat_lt (length k.rest) most then pushed (with_rest k (k.rest ++ b ∷ [])) [] Fine
    else pushed k [] (Bad 1 k.bytes)

-- what is left at the end, of `lines` and of `fixed`
abbrev pub last_part : Kept → Pushed
last_part k = pushed (record k { rest = [] }) (some_chunk k.rest) Fine

-- a line: at most so many bytes without a line feed, and then one
abbrev pub IsLine : ℕ → List ℕ → Type 0
IsLine most c = (body : List ℕ) × (c ≡ body ++ 10 ∷ []) × (All (λ b. b ≢ 10) body) × (length body ≤ most)

-- `lines`: the input is these lines and the beginning of one
pub record LinesDone (most : ℕ) (input : List ℕ) (cs : List (List ℕ)) (rest : List ℕ) : Type 0 where
  pub whole : concat cs ++ rest ≡ input
  pub lines : All (IsLine most) cs
  pub begun : All (λ b. b ≢ 10) rest
  pub short : length rest ≤ most

-- 1 at the first byte past `most` in a line, the line feed not counted
pub record LineWrong (most : ℕ) (cs : List (List ℕ)) (rest : List ℕ) (byte place c p : ℕ) : Type 0 where
  pub full : length rest ≡ most
  pub no_feed : byte ≢ 10
  pub code : c ≡ 1
  pub at : p ≡ place

-- `fixed`: blocks of n
abbrev pub block_byte : ℕ → Kept → ℕ → Pushed
block_byte n k b =
    if length k.rest + 1 == n then pushed (with_rest k []) ((k.rest ++ b ∷ []) ∷ []) Fine
    else pushed (with_rest k (k.rest ++ b ∷ [])) [] Fine

-- `fixed`: the input is these blocks and the beginning of one
pub record BlocksDone (n : ℕ) (input : List ℕ) (cs : List (List ℕ)) (rest : List ℕ) : Type 0 where
  pub whole : concat cs ++ rest ≡ input
  pub blocks : All (λ c. length c ≡ n) cs
  pub short : length rest < n

-- `hex`: its text, in lower case
abbrev pub hex_byte : Kept → ℕ → Pushed
hex_byte k b = pushed (one_byte k) (encode_lower (b ∷ []) ∷ []) Fine

-- a digit of `unhex`: the first of two is kept, the second gives a byte
abbrev pub digit_met : Kept → List ℕ → Option ℕ → Pushed
digit_met k [] (Some d) = pushed (with_rest k (d ∷ [])) [] Fine
digit_met k (h ∷ r) (Some d) = pushed (with_rest k []) (((16 * h + d) ∷ []) ∷ []) Fine
digit_met k r None = pushed k [] (Bad 2 k.bytes)

-- `unhex`: line feeds and carriage returns are passed over; 2 at the first byte that is no digit
abbrev pub unhex_byte : Kept → ℕ → Pushed
unhex_byte k b =
    if b == 10 || b == 13 then pushed (with_rest k k.rest) [] Fine
    else digit_met k k.rest (hex_digit_value b)

-- 3 at the end where a digit is left
abbrev pub odd_end : Kept → List ℕ → Pushed
odd_end k [] = pushed k [] Fine
odd_end k (d ∷ r) = pushed k [] (Bad 3 k.bytes)

-- no digit is left, or the value of one
abbrev pub IsHalf : List ℕ → Type 0
IsHalf [] = Unit {0}
IsHalf (d ∷ []) = d < 16
IsHalf (d ∷ e ∷ r) = ⊥

-- the values of the digits of a text, whatever else is in it
abbrev pub digit_or_none : Option ℕ → List ℕ
digit_or_none (Some d) = d ∷ []
digit_or_none None = []

abbrev pub digits_in : List ℕ → List ℕ
digits_in [] = []
digits_in (b ∷ bs) = digit_or_none (hex_digit_value b) ++ digits_in bs

-- the two digits of each byte
abbrev pub digits_of : List ℕ → List ℕ
digits_of [] = []
digits_of (b ∷ bs) = (b / 16) ∷ (b % 16) ∷ digits_of bs

-- a line feed or a carriage return
abbrev pub IsPassedOver : ℕ → Type 0
IsPassedOver b = (b ≡ 10) ⊎ (b ≡ 13)

-- `unhex`: the digits of the input are those of these bytes, two to a byte, and at most one more
pub record DigitsDone (input : List ℕ) (cs : List (List ℕ)) (rest : List ℕ) : Type 0 where
  pub whole : digits_of (concat cs) ++ rest ≡ digits_in input
  pub digits : All (λ b. IsPassedOver b ⊎ (hex_digit_value b ≢ None)) input
  pub one : length rest ≤ 1

-- 2 at the first byte that is neither a digit nor passed over
pub record DigitWrong (cs : List (List ℕ)) (rest : List ℕ) (byte place c p : ℕ) : Type 0 where
  pub no_feed : byte ≢ 10
  pub no_return : byte ≢ 13
  pub no_digit : hex_digit_value byte ≡ None
  pub code : c ≡ 2
  pub at : p ≡ place

-- `mask`: xor the key's byte, the key repeated along the stage's input
abbrev pub mask_byte : List ℕ → Kept → ℕ → Pushed
mask_byte key k b = pushed (one_byte k) ((bit_xor b (get_or key (k.bytes % length key) 0) ∷ []) ∷ []) Fine

-- so each byte at its place
abbrev pub masked : List ℕ → ℕ → List ℕ → List ℕ
masked key place [] = []
masked key place (b ∷ bs) = bit_xor b (get_or key (place % length key) 0) ∷ masked key (place + 1) bs

abbrev pub each_masked : List ℕ → ℕ → List (List ℕ) → List (List ℕ)
each_masked key place [] = []
each_masked key place (c ∷ cs) = masked key place c ∷ each_masked key (place + length c) cs

-- `number`: each chunk with its number from 1, and a blank
abbrev pub number_push : Kept → List ℕ → Pushed
number_push k c = pushed (one_more k) ((decimal (k.chunks + 1) ++ 32 ∷ c) ∷ []) Fine

abbrev pub each_numbered : ℕ → List (List ℕ) → List (List ℕ)
each_numbered n [] = []
each_numbered n (c ∷ cs) = (decimal n ++ 32 ∷ c) ∷ each_numbered (n + 1) cs

-- the four bytes of a length, big-endian, and then the chunk
abbrev pub framed : List ℕ → List ℕ
framed c =
    (length c / 16777216 % 256) ∷ (length c / 65536 % 256) ∷ (length c / 256 % 256) ∷ (length c % 256) ∷ c

-- `frame`
abbrev pub frame_push : Kept → List ℕ → Pushed
frame_push k c = pushed (one_more k) (framed c ∷ []) Fine

-- the number of four bytes, big-endian
abbrev pub four_bytes : ℕ → ℕ → ℕ → ℕ → ℕ
four_bytes a b c d = 16777216 * a + 65536 * b + 256 * c + d

-- what a frame's bytes so far give, where its four bytes of length tell n and these came after them: 4 at the first byte of a length
-- of more than `most`
abbrev pub frame_has : ℕ → Kept → ℕ → List ℕ → Pushed
frame_has most k n r =
    if nat_lt most n then pushed k [] (Bad 4 (k.bytes - 4))
    else if length r == n then pushed (record k { rest = [] }) (r ∷ []) Fine
    else pushed k [] Fine

abbrev pub frame_met : ℕ → Kept → List ℕ → Pushed
frame_met most k (a ∷ b ∷ c ∷ d ∷ r) = frame_has most k (four_bytes a b c d) r
frame_met most k _ = pushed k [] Fine

-- `unframe`: the bytes of a frame are kept until they are all there
abbrev pub unframe_byte : ℕ → Kept → ℕ → Pushed
unframe_byte most k b = let j = with_rest k (k.rest ++ b ∷ []) in frame_met most j j.rest

-- 5 at the end inside a frame
abbrev pub inside_end : Kept → List ℕ → Pushed
inside_end k [] = pushed k [] Fine
inside_end k (d ∷ r) = pushed k [] (Bad 5 k.bytes)

-- the beginning of a frame: fewer than the four bytes of its length, or a length that isn't too large and fewer bytes than it tells
abbrev pub IsPartOfFrame : ℕ → List ℕ → Type 0
IsPartOfFrame most (a ∷ b ∷ c ∷ d ∷ r) = (four_bytes a b c d ≤ most) × (length r < four_bytes a b c d)
IsPartOfFrame most _ = Unit {0}

-- `unframe`: the input is the frames of these chunks and the beginning of one
pub record FramesDone (most : ℕ) (input : List ℕ) (cs : List (List ℕ)) (rest : List ℕ) : Type 0 where
  pub whole : concat (map framed cs) ++ rest ≡ input
  pub short : All (λ c. length c ≤ most) cs
  pub part : IsPartOfFrame most rest

-- four bytes that tell more than this
abbrev pub TellsMore : ℕ → List ℕ → Type 0
TellsMore most (a ∷ b ∷ c ∷ d ∷ []) = most < four_bytes a b c d
TellsMore most _ = ⊥

-- 4 at the first byte of a length of more than `most`
pub record FrameWrong (most : ℕ) (cs : List (List ℕ)) (rest : List ℕ) (byte place c p : ℕ) : Type 0 where
  pub more : TellsMore most (rest ++ byte ∷ [])
  pub code : c ≡ 4
  pub at : p + length rest ≡ place

-- What is said of each kind

-- what it sees of its input, and what comes of that
abbrev pub form : Stage → Form
form (Lines most) = OfBytes AsCut (line_byte (nat_abs most)) last_part
form (Fixed n) = OfBytes AsCut (block_byte (nat_abs n)) last_part
form Hex = OfBytes One hex_byte no_more
form Unhex = OfBytes SomeBytes unhex_byte (λ k. odd_end k k.rest)
form (Mask key) = OfBytes One (mask_byte key) no_more
form Number = OfChunks number_push
form Frame = OfChunks frame_push
form (Unframe most) = OfBytes AsCut (unframe_byte (nat_abs most)) (λ k. inside_end k k.rest)

abbrev pub machine : Stage → Machine
machine s = machine_of (form s)

abbrev pub machines : List Stage → List Machine
machines [] = []
machines (s ∷ ss) = machine s ∷ machines ss

abbrev pub is_within : ℕ → ℕ → ℤ → Bool
is_within low high x = int_le (pos low) x && int_le x (pos high)

-- whether a stage's number, or the length of its key, is in its range
abbrev pub is_in_range : Stage → Bool
is_in_range (Lines most) = is_within 1 1048576 most
is_in_range (Fixed n) = is_within 1 65536 n
is_in_range (Mask key) = nat_le 1 (length key) && nat_le (length key) 64
is_in_range (Unframe most) = is_within 0 1048576 most
is_in_range _ = true

-- a chunk of `frame` has a length that four bytes can tell
abbrev pub HasLength : Stage → ℕ → Type 0
HasLength Frame n = n < 2 ^ 32
HasLength _ n = Unit {0}

-- what a stage can have left over of its input
abbrev pub RestFits : Stage → List ℕ → Type 0
RestFits Unhex rest = IsHalf rest
RestFits _ rest = Unit {0}

-- the codes of what a stage finds only at the end of its input: a digit that is left, and a frame that isn't whole
abbrev pub is_of_end : ℕ → Bool
is_of_end code = code == 3 || code == 5

-- a stage that gives these chunks for the chunks that come, and is always fine
abbrev pub Gives : Stage → (List (List ℕ) → List (List ℕ)) → Type 0
Gives s f =
    (x : Told (List ℕ)) →
    (through (machine s) (machine s).start x ≡ told (f x.items) x.mark) × (verdict (machine s) (machine s).start x.items x.mark ≡ Fine)

-- what a stage puts out, told of whole lists: of those that see bytes what comes of all of them
abbrev pub IsTold : Stage → Type 0
IsTold (Lines most) = (input : List ℕ) → SaysAll (LinesDone (nat_abs most)) (LineWrong (nat_abs most)) (line_byte (nat_abs most)) input
IsTold (Fixed n) = (input : List ℕ) → 0 < nat_abs n → SaysAll (BlocksDone (nat_abs n)) NeverWrong (block_byte (nat_abs n)) input
IsTold (Unframe most) =
    (input : List ℕ) → All (λ b. b < 256) input → SaysAll (FramesDone (nat_abs most)) (FrameWrong (nat_abs most)) (unframe_byte (nat_abs most)) input
IsTold Unhex = (input : List ℕ) → SaysAll DigitsDone DigitWrong unhex_byte input
IsTold Hex = Gives Hex (map encode_lower)
IsTold (Mask key) = Gives (Mask key) (each_masked key 0)
IsTold Number = Gives Number (each_numbered 1)
IsTold Frame = Gives Frame (map framed)

-- What undoes what

abbrev pub EachTextReadsBack : Type 0
EachTextReadsBack =
    (x : Told (List ℕ)) → All (λ b. b < 256) (concat x.items) →
    (bytes_of (all_through (machines (Hex ∷ Unhex ∷ [])) x) ≡ bytes_of x) × (ending (machines (Hex ∷ Unhex ∷ [])) 1 x ≡ Fine)

abbrev pub EachFrameReadsBack : Type 0
EachFrameReadsBack =
    (most : ℤ) (x : Told (List ℕ)) → nat_abs most < 4294967296 → All (λ c. length c ≤ nat_abs most) x.items →
    (all_through (machines (Frame ∷ Unframe most ∷ [])) x ≡ x) × (ending (machines (Frame ∷ Unframe most ∷ [])) 1 x ≡ Fine)

abbrev pub EachMaskTwiceIsNone : Type 0
EachMaskTwiceIsNone = (key : List ℕ) (x : Told (List ℕ)) → all_through (machines (Mask key ∷ Mask key ∷ [])) x ≡ x

pub record EachPairUndoes : Type 0 where
  pub unhex : EachTextReadsBack
  pub unframe : EachFrameReadsBack
  pub mask : EachMaskTwiceIsNone
