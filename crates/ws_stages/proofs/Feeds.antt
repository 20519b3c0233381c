-- Lines and blocks: the bytes before a feed, and those before the last byte of a block, at once.
use Rattle.std.proofs.Common.{◌≡◌, ◌≢◌, ℕ, zero, suc, ◌+◌, ◌-◌, ◌<◌, ◌≤◌, List, [], ◌∷◌, ◌++◌, sym, ap, ◌∙◌, append_assoc, append-nil, length, length-append, take, drop, get_or, slice_index, refl, arith}
use Rattle.std.proofs.lemmas.Bool.Decides.{nat_tests}
use Rattle.std.proofs.lemmas.List.{drop_more, length-take-le, take_more, take-append-drop}
use Rattle.ws_flow.specs.declared.plan.Ending.{Ending}
use Rattle.ws_flow.specs.declared.plan.Ending.TheVariants.{Fine, Bad}
use Rattle.ws_flow.specs.Machines.{Kept, Pushed, pushed, added, each_byte}
use Rattle.ws_flow.specs.Stages.{line_byte, block_byte}
use Rattle.ws_flow.proofs.Cutting.{each_append}
use Rattle.ws_stages.proofs.Bytes.{after_fine, each_bad}
use Rattle.ws_stages.specs.Cuts.{HasNoFeed, with_bytes, with_chunks}

plain_byte : (most : ℕ) (k : Kept) (b : ℕ) → b ≢ 10 → length k.rest < most → line_byte most k b ≡ pushed (with_bytes k (b ∷ [])) [] Fine
plain_byte most k b n h = grind (arith, nat_tests)

more_bytes : (k : Kept) (b : ℕ) (bs : List ℕ) → with_bytes (with_bytes k (b ∷ [])) bs ≡ with_bytes k (b ∷ bs)
more_bytes k b bs = grind (arith, append_assoc k.rest (b ∷ []) bs)

-- the bytes before a feed are left over, as long as the line isn't too long
pub plain_bytes : (most : ℕ) (n : ℕ) (bs : List ℕ) (k : Kept) → HasNoFeed n bs → n ≤ length bs → n ≤ most - length k.rest →
    each_byte (line_byte most) k (take n bs) ≡ pushed (with_bytes k (take n bs)) [] Fine
plain_bytes most zero bs k plain within fits = ap (λ r. pushed r [] Fine) (grind (arith, append-nil k.rest))
plain_bytes most (suc n) [] k plain within fits = absurd (omega arith)
plain_bytes most (suc n) (b ∷ bs) k plain within fits =
    let one = plain_byte most k b (plain 0 (omega arith)) (omega arith) in
    let then = plain_bytes most n bs (with_bytes k (b ∷ [])) (λ i lt. plain (suc i) (omega arith)) (omega arith) (let len = length-append k.rest (b ∷ []) in omega (arith, len)) in
    ap (λ p. added p.chunks p.ending p.kept (each_byte (line_byte most) p.kept (take n bs))) one
    ∙ ap (λ q. added [] Fine (with_bytes k (b ∷ [])) q) then
    ∙ ap (λ r. pushed r [] Fine) (more_bytes k b (take n bs))

some_byte : (size : ℕ) (k : Kept) (b : ℕ) → length k.rest + 1 < size → block_byte size k b ≡ pushed (with_bytes k (b ∷ [])) [] Fine
some_byte size k b h = grind (arith, nat_tests)

-- the bytes before the last of a block are left over
some_bytes : (size : ℕ) (n : ℕ) (bs : List ℕ) (k : Kept) → n ≤ size - 1 - length k.rest → each_byte (block_byte size) k (take n bs) ≡ pushed (with_bytes k (take n bs)) [] Fine
some_bytes size zero bs k fits = ap (λ r. pushed r [] Fine) (grind (arith, append-nil k.rest))
some_bytes size (suc n) [] k fits = ap (λ r. pushed r [] Fine) (grind (arith, append-nil k.rest))
some_bytes size (suc n) (b ∷ bs) k fits =
    let one = some_byte size k b (omega arith) in
    let then = some_bytes size n bs (with_bytes k (b ∷ [])) (let len = length-append k.rest (b ∷ []) in omega (arith, len)) in
    ap (λ p. added p.chunks p.ending p.kept (each_byte (block_byte size) p.kept (take n bs))) one
    ∙ ap (λ q. added [] Fine (with_bytes k (b ∷ [])) q) then
    ∙ ap (λ r. pushed r [] Fine) (more_bytes k b (take n bs))

-- no byte is bad
pub block_fine : (size : ℕ) (k : Kept) (b : ℕ) → (block_byte size k b).ending ≡ Fine
block_fine size k b = grind (arith, nat_tests)

-- what is left once the first bytes are left over
pub after_plain : (f : Kept → ℕ → Pushed) (k j : Kept) (cs : List (List ℕ)) (front back : List ℕ) → each_byte f k front ≡ pushed j [] Fine →
    with_chunks cs (each_byte f k (front ++ back)) ≡ with_chunks cs (each_byte f j back)
after_plain f k j cs front back e = ap (λ q. with_chunks cs q) (each_append f k front back ∙ ap (λ p. added p.chunks p.ending p.kept (each_byte f p.kept back)) e)

-- what is left after a byte that was fine
pub after_byte : (f : Kept → ℕ → Pushed) (k : Kept) (cs : List (List ℕ)) (b : ℕ) (back : List ℕ) (new : Pushed) → new ≡ with_chunks cs (f k b) → new.ending ≡ Fine →
    with_chunks new.chunks (each_byte f new.kept back) ≡ with_chunks cs (each_byte f k (b ∷ back))
after_byte f k cs b back new n fine =
    ap (λ q. with_chunks q.chunks (each_byte f q.kept back)) n
    ∙ sym (after_fine cs (f k b) (each_byte f (f k b).kept back) (sym (ap (λ q. q.ending) n) ∙ fine))

-- nothing is left after one that is bad
pub at_bad : (f : Kept → ℕ → Pushed) (k : Kept) (cs : List (List ℕ)) (b : ℕ) (back : List ℕ) (new : Pushed) → new ≡ with_chunks cs (f k b) → new.ending ≢ Fine →
    new ≡ with_chunks cs (each_byte f k (b ∷ back))
at_bad f k cs b back new n bad = n ∙ ap (λ q. with_chunks cs q) (sym (each_bad f k b back (λ h. bad (ap (λ q. q.ending) n ∙ h))))

-- what is left once these bytes are left over
after_kept : (f : Kept → ℕ → Pushed) (k j : Kept) (cs ds : List (List ℕ)) (left line back : List ℕ) (n : ℕ) →
    each_byte f k (take n left) ≡ pushed (with_bytes k (take n left)) [] Fine → line ≡ take n left → back ≡ drop n left → j ≡ with_bytes k line → ds ≡ cs →
    with_chunks ds (each_byte f j back) ≡ with_chunks cs (each_byte f k left)
after_kept f k j cs ds left line back n kept line-is back-is is same =
    let j-is : j ≡ with_bytes k (take n left) = is ∙ ap (λ q. with_bytes k q) line-is in
    ap (λ q. with_chunks q (each_byte f j back)) same
    ∙ ap (λ q. with_chunks cs (each_byte f q back)) j-is
    ∙ ap (λ q. with_chunks cs (each_byte f (with_bytes k (take n left)) q)) back-is
    ∙ sym (after_plain f k (with_bytes k (take n left)) cs (take n left) (drop n left) kept)
    ∙ ap (λ q. with_chunks cs (each_byte f k q)) (take-append-drop n left)

-- those before a feed
pub after_keep : (most : ℕ) (k j : Kept) (cs ds : List (List ℕ)) (left line back : List ℕ) (n : ℕ) →
    HasNoFeed n left → n ≤ length left → n ≤ most - length k.rest → line ≡ take n left → back ≡ drop n left → j ≡ with_bytes k line → ds ≡ cs →
    with_chunks ds (each_byte (line_byte most) j back) ≡ with_chunks cs (each_byte (line_byte most) k left)
after_keep most k j cs ds left line back n plain within fits = after_kept (line_byte most) k j cs ds left line back n (plain_bytes most n left k plain within fits)

-- what is left once a line is closed: what was left over and these bytes, the last of which is its feed
pub after_line : (most : ℕ) (k j : Kept) (cs ds : List (List ℕ)) (left line back : List ℕ) (n : ℕ) →
    HasNoFeed n left → n < length left → n ≤ most - length k.rest → slice_index left n ≡ 10 → line ≡ take (n + 1) left → back ≡ drop (n + 1) left →
    j ≡ record k { rest = []; bytes = k.bytes + length line } → ds ≡ cs ++ (k.rest ++ line) ∷ [] →
    with_chunks ds (each_byte (line_byte most) j back) ≡ with_chunks cs (each_byte (line_byte most) k left)
after_line most k j cs ds left line back n plain lt fits feed line-is back-is is out =
    let front = take n left in
    let i = with_bytes k front in
    let line-is-front : line ≡ front ++ 10 ∷ [] = line-is ∙ take_more left n 0 lt ∙ ap (λ q. front ++ q ∷ []) feed in
    let left-is : drop n left ≡ 10 ∷ drop (n + 1) left = drop_more left n 0 lt ∙ ap (λ q. q ∷ drop (n + 1) left) feed in
    let closed : pushed j ds Fine ≡ with_chunks cs (line_byte most i 10) = shut k j cs ds front line line-is-front is out in
    ap (λ q. with_chunks ds (each_byte (line_byte most) j q)) back-is
    ∙ after_byte (line_byte most) i cs 10 (drop (n + 1) left) (pushed j ds Fine) closed refl
    ∙ ap (λ q. with_chunks cs (each_byte (line_byte most) i q)) (sym left-is)
    ∙ after_keep most k i cs cs left front (drop n left) n plain (omega arith) fits refl refl refl refl where
      shut : (k j : Kept) (cs ds : List (List ℕ)) (front line : List ℕ) → line ≡ front ++ 10 ∷ [] → j ≡ record k { rest = []; bytes = k.bytes + length line } → ds ≡ cs ++ (k.rest ++ line) ∷ [] →
          pushed j ds Fine ≡ pushed (record k { rest = []; bytes = k.bytes + length front + 1 }) (cs ++ ((k.rest ++ front) ++ 10 ∷ []) ∷ []) Fine
      shut k j cs ds front line line-is is out =
          let bytes : k.bytes + length line ≡ k.bytes + length front + 1 = let len = ap length line-is ∙ length-append front (10 ∷ []) in omega (arith, len) in
          let j-is : j ≡ record k { rest = []; bytes = k.bytes + length front + 1 } = is ∙ ap (λ q. record k { rest = []; bytes = q }) bytes in
          let ds-is : ds ≡ cs ++ ((k.rest ++ front) ++ 10 ∷ []) ∷ [] =
          out ∙ ap (λ q. cs ++ (k.rest ++ q) ∷ []) line-is ∙ ap (λ q. cs ++ q ∷ []) (sym (append_assoc k.rest front (10 ∷ []))) in
          ap (λ q. pushed q ds Fine) j-is ∙ ap (λ q. pushed (record k { rest = []; bytes = k.bytes + length front + 1 }) q Fine) ds-is

-- the byte behind a line that is as long as it may be is bad
pub at_too_long : (most : ℕ) (k j : Kept) (cs ds : List (List ℕ)) (left line : List ℕ) (n : ℕ) (e : Ending) →
    HasNoFeed n left → n < length left → n ≤ most - length k.rest → (n < length left → n < most - length k.rest → slice_index left n ≡ 10) → slice_index left n ≢ 10 → line ≡ take n left → j ≡ with_bytes k line → ds ≡ cs → e ≡ Bad 1 j.bytes →
    pushed j ds e ≡ with_chunks cs (each_byte (line_byte most) k left)
at_too_long most k j cs ds left line n e plain lt fits stops no-feed line-is is same bad =
    let full : n ≡ most - length k.rest = grind (arith, stops, no-feed, lt, fits) in
    let b = get_or left n 0 in
    let len : length j.rest ≡ length k.rest + length line = ap (λ q. length q.rest) is ∙ length-append k.rest line in
    let line-len : length line ≡ n = ap length line-is ∙ length-take-le n left (omega arith) in
    let refused : line_byte most j b ≡ pushed j [] (Bad 1 j.bytes) = too_long most j b no-feed (omega (arith, len, line-len, full)) in
    let new-is : pushed j ds e ≡ with_chunks ds (line_byte most j b) =
    ap (λ q. pushed j ds q) bad ∙ ap (λ q. pushed j q (Bad 1 j.bytes)) (sym (append-nil ds)) ∙ ap (λ q. with_chunks ds q) (sym refused) in
    at_bad (line_byte most) j ds b (drop (n + 1) left) (pushed j ds e) new-is (λ h. is_bad (sym bad ∙ h))
    ∙ ap (λ q. with_chunks ds (each_byte (line_byte most) j q)) (sym (drop_more left n 0 lt))
    ∙ after_keep most k j cs ds left line (drop n left) n plain (omega arith) fits line-is refl is same where
      too_long : (most : ℕ) (k : Kept) (b : ℕ) → b ≢ 10 → most ≤ length k.rest → line_byte most k b ≡ pushed k [] (Bad 1 k.bytes)
      too_long most k b n h = grind (arith, nat_tests)

      is_bad : {p : ℕ} → Bad 1 p ≡ Fine → ⊥
      is_bad h = cc

-- those before the last byte of a block
pub after_some : (size : ℕ) (k j : Kept) (cs ds : List (List ℕ)) (left some back : List ℕ) (n : ℕ) →
    n ≤ size - 1 - length k.rest → some ≡ take n left → back ≡ drop n left → j ≡ with_bytes k some → ds ≡ cs →
    with_chunks ds (each_byte (block_byte size) j back) ≡ with_chunks cs (each_byte (block_byte size) k left)
after_some size k j cs ds left some back n fits = after_kept (block_byte size) k j cs ds left some back n (some_bytes size n left k fits)

-- nothing is left
pub at_end : (f : Kept → ℕ → Pushed) (k : Kept) (cs : List (List ℕ)) (back : List ℕ) (e : Ending) → e ≡ Fine → length back ≡ 0 → pushed k cs e ≡ with_chunks cs (each_byte f k back)
at_end f k cs [] e fine none = ap (λ q. pushed k cs q) fine ∙ ap (λ q. pushed k q Fine) (sym (append-nil cs))
at_end f k cs (b ∷ back) e fine none = absurd (omega arith)
