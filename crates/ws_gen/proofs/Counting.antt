-- Counts of bytes that come behind others.
use Rattle.std.proofs.Common.{◌≡◌, ◌==◌, ℕ, ◌+◌, ◌-◌, ◌^◌, List, cond, count_by, length, min, sum, sym, ap, ◌∙◌, arith}
use Rattle.std.proofs.lemmas.List.{length-append}
use Rattle.std.proofs.lemmas.List.Sums.{sum_by-append}
use Rattle.ws_gen.specs.Counted.{Counted, capped}
use Rattle.ws_io.specs.Gain.{Gains, straight}
use Rattle.ws_io.proofs.Flow.{Gains-straight}

capped_more : (n a b : ℕ) → n ≡ capped a → min (n + b) (2 ^ 128 - 1) ≡ capped (a + b)
capped_more n a b e = omega arith

pub counted_more : (bytes newlines total bytes' newlines' total' : ℕ) (piece : List ℕ) → bytes' ≡ min (bytes + length piece) (2 ^ 128 - 1) → newlines' ≡ min (newlines + count_by (λ x. x == 10) piece) (2 ^ 128 - 1) → total' ≡ min (total + sum piece) (2 ^ 128 - 1) →
    Gains (straight (Counted bytes newlines total)) (straight (Counted bytes' newlines' total')) piece
counted_more bytes newlines total bytes' newlines' total' piece b n t =
    Gains-straight (Counted bytes newlines total) (Counted bytes' newlines' total') piece
    (λ xs h. record {
      bytes_are = b ∙ capped_more bytes (length xs) (length piece) h.bytes_are ∙ ap capped (sym (length-append xs piece));
      newlines_are = n ∙ capped_more newlines (count_by (λ x. x == 10) xs) (count_by (λ x. x == 10) piece) h.newlines_are ∙ ap capped (sym (sum_by-append (λ x. cond (x == 10) 1 0) xs piece));
      total_is = t ∙ capped_more total (sum xs) (sum piece) h.total_is ∙ ap capped (sym (sum_by-append (λ x. x) xs piece));
    })
