-- Whole elements, and the bytes that are a part of one.
use Rattle.std.proofs.Common.{◌≡◌, ◌∙◌, ℕ, zero, suc, ◌+◌, ◌-◌, ◌*◌, ◌/◌, ◌%◌, ◌<◌, ◌≤◌, List, [], ◌∷◌, ◌++◌, length, take, drop, ⊎_elim, refl, sym, ap, arith}
use Rattle.std.proofs.lemmas.Bool.{cases_lt, le-leb}
use Rattle.std.specs.Prelude.{leb, true, false}
use Rattle.ws_descriptors.specs.Seen.{IsFine}
use Rattle.std.proofs.lemmas.List.{length-append, length-take, append_assoc, take-append-drop, take_at, drop_at}
use Rattle.ws_steps.specs.Descriptors.{Descriptor, process_descriptors}
use Rattle.ws_steps.specs.Queues.{is_empty}
use Rattle.ws_queue.specs.Seen.{written}
use Rattle.ws_queue.proofs.Writing.{written_front, written_length}
use Rattle.std.proofs.lemmas.Nat.{div-add-mod', le-div, mul-le}

pub mod_le : (x e : ℕ) → x % e ≤ x
mod_le x e = omega (arith, div-add-mod' x e)

-- whole elements that are reached stay reached where the part of one is cut off
pub whole_stays : (x e k : ℕ) → 0 < e → k % e ≡ 0 → k ≤ x → k ≤ x - (x % e)
whole_stays x e k positive whole reached =
    let split = div-add-mod' k e in
    let parts = div-add-mod' x e in
    let quotient : k / e ≤ x / e = le-div (k / e) x e positive (omega (arith, split, whole, reached)) in
    let product : k / e * e ≤ x / e * e = mul-le (k / e) e (x / e) e quotient (omega arith) in
    omega (arith, split, parts, product, whole)

pub not_reached : (x e k : ℕ) → 0 < e → k % e ≡ 0 → x - (x % e) < k → x < k
not_reached x e k positive whole less =
    ⊎_elim (λ fewer. fewer) (λ reached. let stays = whole_stays x e k positive whole reached in omega (arith, stays, less)) (cases_lt x k)

-- the last bytes of a response are the part of an element
pub kept_front : (filled bytes : List ℕ) (n : ℕ) → n ≤ length bytes → take (length filled + n) (filled ++ bytes) ≡ filled ++ take n bytes
kept_front filled bytes n few =
    let split : filled ++ bytes ≡ (filled ++ take n bytes) ++ drop n bytes =
    ap (λ (b : List ℕ). filled ++ b) (sym (take-append-drop n bytes)) ∙ sym (append_assoc filled (take n bytes) (drop n bytes)) in
    ap (take (length filled + n)) split
    ∙ take_at (filled ++ take n bytes) (drop n bytes) (length filled + n) (omega (arith, length-append filled (take n bytes), length-take n bytes))

pub kept_rest : (filled bytes : List ℕ) (n : ℕ) → n ≤ length bytes → drop (length filled + n) (filled ++ bytes) ≡ drop n bytes
kept_rest filled bytes n few =
    let split : filled ++ bytes ≡ (filled ++ take n bytes) ++ drop n bytes =
    ap (λ (b : List ℕ). filled ++ b) (sym (take-append-drop n bytes)) ∙ sym (append_assoc filled (take n bytes) (drop n bytes)) in
    ap (drop (length filled + n)) split
    ∙ drop_at (filled ++ take n bytes) (drop n bytes) (length filled + n) (omega (arith, length-append filled (take n bytes), length-take n bytes))

pub put_filled : (place n reach : ℕ) (bytes room after : List ℕ) → after ≡ written place bytes room → length bytes ≡ n → reach ≡ place + n → reach ≤ length room
    → (take reach after ≡ take place room ++ bytes) × (length after ≡ length room)
put_filled place n reach bytes room after is size reached fits =
    let e : reach ≡ place + length bytes = omega (arith, size, reached) in
    let inside : place + length bytes ≤ length room = omega (arith, e, fits) in
    (rw (e, is) (written_front place bytes room inside), ap length is ∙ written_length place bytes room inside)

pub seen_length : (place : ℕ) (room : List ℕ) → place ≤ length room → length (take place room) ≡ place
seen_length place room fits = omega (arith, length-take place room)

-- descriptors

pub moved_first : (n : ℕ) (d : Descriptor) (ready ds rest : List Descriptor) → 0 < n → ds ≡ d ∷ rest
    → ((ready ++ d ∷ []) ++ take (n - 1) rest ≡ ready ++ take n ds) × (drop (n - 1) rest ≡ drop n ds)
moved_first zero d ready ds rest some is = absurd (omega (arith, some))
moved_first (suc n) d ready ds rest some is =
    let e : suc n - 1 ≡ n = omega arith in
    rw (e, is) (append_assoc ready (d ∷ []) (take n rest), refl)

short : (a b : ℕ) → leb a b ≡ false → b < a
short a b h = ⊎_elim (λ less. less) (λ more. let e = le-leb a b more in absurd (cc)) (cases_lt b a)

-- a descriptor that isn't ready lacks some of what it wants
pub still_fine : (d : Descriptor) (bytes : List ℕ) (n reach element : ℕ) → IsFine d → length bytes ≤ n → reach ≡ length d.filled + n → element ≡ d.element
    → leb d.minimum (reach - (reach % element)) ≡ false → IsFine (record d { filled = d.filled ++ bytes })
still_fine d bytes n reach element fine few reached same h =
    let less : reach - (reach % d.element) < d.minimum = short d.minimum (reach - (reach % d.element)) (rw same at h) in
    let below = not_reached reach d.element d.minimum fine.element fine.whole less in
    record { element = fine.element; whole = fine.whole; wanted = omega (arith, below, reached, few, length-append d.filled bytes); fits = fine.fits }

pub nothing_queued : (ds : List Descriptor) (queue : List (List ℕ)) → is_empty queue ≡ true → process_descriptors ds queue ≡ record { ready = []; waiting = ds; queue = queue }
nothing_queued [] queue h = refl
nothing_queued (d ∷ ds) [] h = refl
nothing_queued (d ∷ ds) (b ∷ bs) h = absurd (cc)
