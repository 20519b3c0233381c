-- Whether a close or an error is among messages, and whether nothing follows one; and what an end counts of all that it was given.
use Rattle.std.proofs.Common.{◌≡◌, ℕ, ◌+◌, ◌^◌, ◌<◌, Bool, true, false, ◌||◌, if◌then◌else◌, List, [], ◌∷◌, ◌++◌, length, refl, sym, ap, ◌∙◌, append-nil, append_assoc, length-append, arith}
use Rattle.ws_value.specs.declared.value.Message.{Message}
use Rattle.ws_value.specs.declared.value.Message.TheVariants.{Pull, Chunk, Close, Error}
use Rattle.ws_value.specs.declared.value.Plain.{Plain}
use Rattle.ws_steps.specs.Queues.{is_empty}
use Rattle.ws_steps.specs.PortHistory.{is_end, has_end, ends_last}
use Rattle.ws_edge.specs.Edge.{AtEdge, given, last_error, IsCounted}

pub has_end-more : (ms : List Message) (m : Message) → has_end (ms ++ m ∷ []) ≡ has_end ms || is_end m
has_end-more [] m = grind arith
has_end-more (n ∷ ms) m = let h = has_end-more ms m in grind (arith, h)

-- behind messages of which none is a close or an error, any message may come
pub ends_last-more : (ms : List Message) (m : Message) → has_end ms ≡ false → ends_last ms ≡ true → ends_last (ms ++ m ∷ []) ≡ true
ends_last-more [] m n l = grind arith
ends_last-more (Pull ∷ ms) m n l = ends_last-more ms m n l
ends_last-more (Chunk v ∷ ms) m n l = ends_last-more ms m n l
ends_last-more (Close ∷ ms) m n l = cc
ends_last-more (Error r ∷ ms) m n l = cc

is_empty-first : (ms ns : List Message) → is_empty (ms ++ ns) ≡ true → is_empty ms ≡ true
is_empty-first [] ns e = refl
is_empty-first (m ∷ ms) ns e = absurd (cc)

-- what holds of all that was given holds of what was posted
pub ends_last-first : (ms ns : List Message) → ends_last (ms ++ ns) ≡ true → ends_last ms ≡ true
ends_last-first [] ns l = refl
ends_last-first (Pull ∷ ms) ns l = ends_last-first ms ns l
ends_last-first (Chunk v ∷ ms) ns l = ends_last-first ms ns l
ends_last-first (Close ∷ ms) ns l = is_empty-first ms ns l
ends_last-first (Error r ∷ ms) ns l = is_empty-first ms ns l

-- nothing follows a close or an error once the last error is told, if nothing did before
pub ends_last-told : (reason : Plain) (e : AtEdge) → ends_last (given e) ≡ true → ends_last (given e ++ last_error reason e) ≡ true
ends_last-told reason e h = by (has_end (given e)) refl
  where
    by : (b : Bool) → has_end (given e) ≡ b → ends_last (given e ++ (if b then [] else Error reason ∷ [])) ≡ true
    by true f = ap ends_last (append-nil (given e)) ∙ h
    by false f = ends_last-more (given e) (Error reason) f h

pub has_end-told : (reason : Plain) (e : AtEdge) → has_end (given e ++ last_error reason e) ≡ true
has_end-told reason e = by (has_end (given e)) refl
  where
    by : (b : Bool) → has_end (given e) ≡ b → has_end (given e ++ (if b then [] else Error reason ∷ [])) ≡ true
    by true f = ap has_end (append-nil (given e)) ∙ f
    by false f = has_end-more (given e) (Error reason) ∙ grind arith

or-right : (b d : Bool) → b || d ≡ false → d ≡ false
or-right true d e = absurd (cc)
or-right false d e = e

-- one message more, for which there was a place
pub counted-more : (sent waiting items : List Message) (m : Message) (count n k l : ℕ) (ended now : Bool) → IsCounted (sent ++ waiting) count ended n k
    → items ≡ waiting ++ m ∷ [] → now ≡ ended || is_end m → count < 2 ^ 62 → (is_end m ≡ false → (count + 1 < 2 ^ 62) × (length items < l))
    → IsCounted (sent ++ items) (count + 1) now (length items) l
counted-more sent waiting items m count n k l ended now c e d few more =
    let all : sent ++ items ≡ (sent ++ waiting) ++ m ∷ [] = ap (λ ms. sent ++ ms) e ∙ sym (append_assoc sent waiting (m ∷ [])) in
    let long : length (sent ++ items) ≡ length (sent ++ waiting) + 1 = ap length all ∙ length-append (sent ++ waiting) (m ∷ []) in
    let has : has_end (sent ++ items) ≡ has_end (sent ++ waiting) || is_end m = ap has_end all ∙ has_end-more (sent ++ waiting) m in
    record {
      counted = let f = c.counted in omega (arith, long, f);
      few = omega arith;
      ended_is = d ∙ ap (λ b. b || is_end m) c.ended_is ∙ sym has;
      place = λ no. (more (or-right ended (is_end m) (sym d ∙ no))).1;
      fewer = λ no. (more (or-right ended (is_end m) (sym d ∙ no))).0;
    }
