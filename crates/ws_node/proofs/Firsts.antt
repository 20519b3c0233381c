-- Rows of messages and first parts of them: nothing stands behind the end of a first part of a legal row, and it has no more of anything.
use Rattle.std.proofs.Common.{◌≡◌, ◌+◌, ◌≤◌, Bool, true, false, ◌||◌, if◌then◌else◌, List, [], ◌∷◌, ◌++◌, length, All, refl, sym, ap, ◌∙◌, append-nil, append_assoc, length-append, arith}
use Rattle.std.proofs.lemmas.List.Elements.{All-nil, All-cons, All-head, All-tail}
use Rattle.ws_value.specs.declared.value.Message.{Message}
use Rattle.ws_value.specs.declared.value.Message.TheVariants.{Pull, Chunk, Close, Error}
use Rattle.ws_value.specs.declared.value.Plain.{Plain}
use Rattle.ws_steps.specs.PortHistory.{asks_in, chunk_in, chunks_in, ends_last, has_end, is_end}
use Rattle.ws_steps.specs.Queues.{is_empty}
use Rattle.ws_joined_laws.specs.Reasons.{reasons_in}
use Rattle.ws_node_laws.specs.Asks.{pulls_in}

-- a first part of a list of which each element is so
pub all-left : {A : Type 0} (P : A → Type 0) (xs ys : List A) → All P (xs ++ ys) → All P xs
all-left P [] ys h = All-nil P
all-left P (x ∷ xs) ys h = All-cons P x xs (All-head P x (xs ++ ys) h) (all-left P xs ys (All-tail P x (xs ++ ys) h))

-- ends

empty-left : (xs ys : List Message) → is_empty (xs ++ ys) ≡ true → is_empty xs ≡ true
empty-left [] ys h = refl
empty-left (x ∷ xs) ys h = cc

by-end : (b : Bool) (xs ys : List Message) → ((if b then is_empty (xs ++ ys) else ends_last (xs ++ ys)) ≡ true) → (ends_last (xs ++ ys) ≡ true → ends_last xs ≡ true) → (if b then is_empty xs else ends_last xs) ≡ true
by-end true xs ys h f = empty-left xs ys h
by-end false xs ys h f = f h

pub last-left : (xs ys : List Message) → ends_last (xs ++ ys) ≡ true → ends_last xs ≡ true
last-left [] ys h = refl
last-left (x ∷ xs) ys h = by-end (is_end x) xs ys h (last-left xs ys)

-- one more behind what has no end

added-by : (b : Bool) (xs : List Message) (m : Message) → (b || has_end xs) ≡ false → (has_end xs ≡ false → ends_last (xs ++ m ∷ []) ≡ true) → (if b then is_empty (xs ++ m ∷ []) else ends_last (xs ++ m ∷ [])) ≡ true
added-by true xs m h f = cc
added-by false xs m h f = f h

one-last : (b : Bool) → (if b then true else true) ≡ true
one-last true = refl
one-last false = refl

pub last-added : (xs : List Message) (m : Message) → has_end xs ≡ false → ends_last (xs ++ m ∷ []) ≡ true
last-added [] m h = one-last (is_end m)
last-added (x ∷ xs) m h = added-by (is_end x) xs m h (last-added xs m)

-- counts

pub chunks-append : (xs ys : List Message) → chunks_in (xs ++ ys) ≡ chunks_in xs ++ chunks_in ys
chunks-append [] ys = refl
chunks-append (x ∷ xs) ys = ap (λ vs. chunk_in x ++ vs) (chunks-append xs ys) ∙ sym (append_assoc (chunk_in x) (chunks_in xs) (chunks_in ys))

pub chunks-left : (xs ys : List Message) → length (chunks_in xs) ≤ length (chunks_in (xs ++ ys))
chunks-left xs ys =
    let e = ap length (chunks-append xs ys) in
    let l = length-append (chunks_in xs) (chunks_in ys) in
    omega (arith, e, l)

pub asks-left : (xs ys : List Message) → asks_in xs ≤ asks_in (xs ++ ys)
asks-left [] ys = omega arith
asks-left (x ∷ xs) ys = let h = asks-left xs ys in omega (arith, h)

pub pulls-append : (xs ys : List Message) → pulls_in (xs ++ ys) ≡ pulls_in xs + pulls_in ys
pulls-append [] ys = omega arith
pulls-append (x ∷ xs) ys = let h = pulls-append xs ys in omega (arith, h)

pub pulls-left : (xs ys : List Message) → pulls_in xs ≤ pulls_in (xs ++ ys)
pulls-left xs ys = let h = pulls-append xs ys in omega (arith, h)

-- an error is neither

pub chunks-error : (xs : List Message) (r : Plain) → length (chunks_in (xs ++ Error r ∷ [])) ≡ length (chunks_in xs)
chunks-error xs r = ap length (chunks-append xs (Error r ∷ []) ∙ append-nil (chunks_in xs))

pub pulls-error : (xs : List Message) (r : Plain) → pulls_in (xs ++ Error r ∷ []) ≡ pulls_in xs
pulls-error xs r = let h = pulls-append xs (Error r ∷ []) in omega (arith, h)

-- reasons

pub reasons-append : (xs ys : List Message) → reasons_in (xs ++ ys) ≡ reasons_in xs ++ reasons_in ys
reasons-append [] ys = refl
reasons-append (Pull ∷ xs) ys = reasons-append xs ys
reasons-append (Chunk v ∷ xs) ys = reasons-append xs ys
reasons-append (Close ∷ xs) ys = reasons-append xs ys
reasons-append (Error r ∷ xs) ys = ap (λ rs. r ∷ rs) (reasons-append xs ys)

-- what is so of the reason of each error that stands in a list is so of all its reasons
reasons-from : (P : Plain → Type 0) (first ms all : List Message) → all ≡ first ++ ms → ((r : Plain) (before after : List Message) → all ≡ before ++ Error r ∷ after → P r) → All P (reasons_in ms)
reasons-from P first [] all e f = All-nil P
reasons-from P first (Error r ∷ ms) all e f =
    All-cons P r (reasons_in ms) (f r first ms e) (reasons-from P (first ++ Error r ∷ []) ms all (e ∙ sym (append_assoc first (Error r ∷ []) ms)) f)
reasons-from P first (Pull ∷ ms) all e f = reasons-from P (first ++ Pull ∷ []) ms all (e ∙ sym (append_assoc first (Pull ∷ []) ms)) f
reasons-from P first (Chunk v ∷ ms) all e f = reasons-from P (first ++ Chunk v ∷ []) ms all (e ∙ sym (append_assoc first (Chunk v ∷ []) ms)) f
reasons-from P first (Close ∷ ms) all e f = reasons-from P (first ++ Close ∷ []) ms all (e ∙ sym (append_assoc first (Close ∷ []) ms)) f

pub all-reasons : (P : Plain → Type 0) (ms : List Message) → ((r : Plain) (before after : List Message) → ms ≡ before ++ Error r ∷ after → P r) → All P (reasons_in ms)
all-reasons P ms f = reasons-from P [] ms ms refl f
