-- What a node takes for the messages of an edge: its chunks are short, and messages that nodes send stay as they are.
use Rattle.std.proofs.Common.{◌≡◌, ◌<◌, ℕ, true, List, [], ◌∷◌, ◌++◌, length, refl, ap, ◌∙◌, arith}
use Rattle.std.specs.Prelude.{All}
use Rattle.std.proofs.lemmas.Bool.Decides.{nat_tests}
use Rattle.std.proofs.lemmas.List.{map-append}
use Rattle.std.proofs.lemmas.List.Elements.{All-nil, All-cons, All-head, All-tail}
use Rattle.ws_value.specs.declared.value.Message.{Message}
use Rattle.ws_value.specs.declared.value.Message.TheVariants.{Pull, Chunk, Close, Error}
use Rattle.ws_value.specs.declared.value.Value.TheVariants.{Plain as PlainValue, Bytes}
use Rattle.ws_flow.specs.Rows.{told_by}
use Rattle.ws_node.specs.Messages.{as_fair, fairly, is_fair}
use Rattle.ws_node.proofs.Fairly.{as-fair-is}

pub fair-stays : (m : Message) → is_fair m ≡ true → as_fair m ≡ m
fair-stays m e = rw e refl

pub fairly-append : (xs ys : List Message) → fairly (xs ++ ys) ≡ fairly xs ++ fairly ys
fairly-append xs ys = map-append as_fair xs ys

pub fairly-stays : (ms : List Message) → All (λ m. is_fair m ≡ true) ms → fairly ms ≡ ms
fairly-stays [] a = refl
fairly-stays (m ∷ ms) a =
    let first = fair-stays m (All-head (λ m. is_fair m ≡ true) m ms a) in
    let rest = fairly-stays ms (All-tail (λ m. is_fair m ≡ true) m ms a) in
    ap (λ (x : Message). x ∷ fairly ms) first ∙ ap (λ (xs : List Message). m ∷ xs) rest

-- what one more message tells

abbrev pub IsShort : List ℕ → Type 0
IsShort c = length c < 33554432

chunk-short : (b : List ℕ) → is_fair (Chunk (Bytes b)) ≡ true → IsShort b
chunk-short b e = grind (arith, nat_tests)

one-short : (m : Message) (ms : List Message) → is_fair m ≡ true → All IsShort (told_by ms).items → All IsShort (told_by (m ∷ ms)).items
one-short Pull ms e a = a
one-short (Chunk (Bytes b)) ms e a = All-cons IsShort b (told_by ms).items (chunk-short b e) a
one-short (Chunk (PlainValue v)) ms e a = absurd (cc)
one-short Close ms e a = All-nil IsShort
one-short (Error r) ms e a = All-nil IsShort

pub told-short : (ms : List Message) → All IsShort (told_by (fairly ms)).items
told-short [] = All-nil IsShort
told-short (m ∷ ms) = one-short (as_fair m) (fairly ms) (as-fair-is m) (told-short ms)
