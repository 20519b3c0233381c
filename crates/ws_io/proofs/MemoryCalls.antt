-- What a call of a source in memory leaves, from its fields.
use Rattle.std.proofs.Common.{◌≡◌, ℕ, ◌+◌, ◌-◌, ◌<◌, ◌≤◌, min, Bool, true, false, List, [], ◌∷◌, ◌++◌, length, take, drop, refl, sym, ◌∙◌, ap, length-append, arith}
use Rattle.std.specs.Prelude.{if◌then◌else◌, nat_lt, ◌==◌, ◌&&◌, All, Some, IsTrue}
use Rattle.std.proofs.Math.Seq.{take-add}
use Rattle.std.proofs.lemmas.List.{drop-drop, take-append-drop, take-take, take-append-le, length-take-le, length-drop}
use Rattle.std.proofs.lemmas.List.Elements.{All-get_or}
use Rattle.std.proofs.lemmas.Bool.Decides.{nat_tests}
use Rattle.ws_io.specs.Feed.{ReadSome}
use Rattle.ws_io.specs.Memory.{MemFeed, one_more, fails_next, after_read, held_at}

pub after_fields : (bytes most fails : List ℕ) (given calls count : ℕ) (ended : Bool) (room n : ℕ) (ended' : Bool) (calls' : ℕ)
    → fails_next (record { feed = record { taken = take given bytes; left = drop given bytes; ended = ended }; most = most; fails = fails; calls = calls; count = count }) ≡ false
    → n ≡ min (min (held_at most calls) room) (length (drop given bytes))
    → ended' ≡ (if (n == 0) && nat_lt 0 room then true else ended)
    → calls' ≡ one_more calls
    → ◌≡◌ {A = MemFeed} (record { feed = record { taken = take (given + n) bytes; left = drop (given + n) bytes; ended = ended' }; most = most; fails = fails; calls = calls'; count = count })
    (after_read (record { feed = record { taken = take given bytes; left = drop given bytes; ended = ended }; most = most; fails = fails; calls = calls; count = count }) room)
after_fields bytes most fails given calls count ended room n ended' calls' calm moves ends next =
    rw (calm, take-add given n bytes, ← drop-drop n given bytes, ends, next, moves) refl

pub held_some : (most : List ℕ) (index : ℕ) → 0 < length most → All (λ n. 0 < n) most → 0 < held_at most index
held_some most index some each = All-get_or (λ n. 0 < n) most (min index (length most - 1)) 0 (omega arith) each

-- n bytes went from what is left to what was taken, and stand at the front of the room
nil_at : (xs : List ℕ) → length xs ≡ 0 → xs ≡ []
nil_at [] e = refl
nil_at (x ∷ xs) e = absurd (omega arith)

end_true : (n room : ℕ) (ended : Bool) → n ≡ 0 → 0 < room → IsTrue (if (n == 0) && nat_lt 0 room then true else ended)
end_true n room ended none some = grind (arith, nat_tests)

end_same : (n room : ℕ) (ended : Bool) → 0 < n → (if (n == 0) && nat_lt 0 room then true else ended) ≡ ended
end_same n room ended some = grind (arith, nat_tests)

end_closed : (n room : ℕ) (ended : Bool) → room ≡ 0 → (if (n == 0) && nat_lt 0 room then true else ended) ≡ ended
end_closed n room ended none = grind (arith, nat_tests)

pub read_fields : (bytes most : List ℕ) (given calls : ℕ) (ended : Bool) (room : List ℕ) (front : List ℕ) (n : ℕ) (ended' : Bool)
    → n ≡ min (min (held_at most calls) (length room)) (length (drop given bytes))
    → front ≡ take n (drop given bytes) → 0 < held_at most calls
    → ended' ≡ (if (n == 0) && nat_lt 0 (length room) then true else ended)
    → ReadSome (Some (record { taken = take given bytes; left = drop given bytes; ended = ended }))
    (Some (record { taken = take (given + n) bytes; left = drop (given + n) bytes; ended = ended' })) n (front ++ drop n room)
read_fields bytes most given calls ended room front n ended' moves in_room some ends =
    let whole : n ≤ length (drop given bytes) = omega arith in
    let len : length front ≡ n = ap length in_room ∙ length-take-le n (drop given bytes) whole in
    let first : take n (front ++ drop n room) ≡ take n (drop given bytes) = take-append-le n front (drop n room) (omega (arith, len)) ∙ (ap (take n) in_room ∙ take-take n n (drop given bytes) (omega arith)) in
    record {
      within = omega (arith, len, length-append front (drop n room));
      moved = record {
        taken = rw first (take-add given n bytes);
        left = rw (first, ← drop-drop n given bytes) (sym (take-append-drop n (drop given bytes)));
      };
      end = λ none roomy.
          let long : 0 < length room = omega (arith, none, len, roomy, length-append front (drop n room), length-drop n room) in
          (nil_at (drop given bytes) (omega (arith, moves, none, long, some)), rw ends (end_true n (length room) ended none long));
      before_end = λ more. ends ∙ end_same n (length room) ended more;
      no_room = λ none. ends ∙ end_closed n (length room) ended (omega (arith, none, len, length-append front (drop n room), length-drop n room, whole, moves));
    }
