-- A queue of bytes, looked at as one of values with their sizes.
use Rattle.std.proofs.Common.{◌≡◌, ◌∙◌, ℕ, ◌+◌, List, [], ◌∷◌, length, ap, suc, refl}
use Rattle.ws_value.specs.declared.value.Value.{Value}
use Rattle.ws_value.specs.declared.value.Value.TheVariants.{Bytes}
use Rattle.std.proofs.lemmas.List.Sums.{sum_by-cons}
use Rattle.ws_steps.specs.declared.queue.Queued.{Queued}
use Rattle.ws_steps.specs.Bytes.{entries}
use Rattle.ws_steps.specs.Queues.{total_of, total_bytes}

pub entries_total : (bs : List (List ℕ)) → total_of (entries bs) ≡ total_bytes bs
entries_total [] = refl
entries_total (b ∷ bs) =
    sum_by-cons (λ (v : Queued Value). v.size) (record { value = Bytes b; size = length b }) (entries bs) ∙ ap (λ (n : ℕ). length b + n) (entries_total bs)

pub entries_length : (bs : List (List ℕ)) → length (entries bs) ≡ length bs
entries_length [] = refl
entries_length (b ∷ bs) = ap suc (entries_length bs)
