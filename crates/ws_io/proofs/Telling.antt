-- A sink that tells nothing of its bytes.
use Rattle.std.proofs.Common.{◌≡◌, ◌<◌, ◌≤◌, ℕ, List, length, take, sym, subst}
use Rattle.std.specs.Prelude.{Result, Ok, Err, IfOk}
use Rattle.ws_io.specs.Gain.{Writes, straight}
use Rattle.ws_io.proofs.Flow.{Gains-nothing, Gains-straight}

wrote-untold : {E : Type 0} (answer : Result ℕ E) (piece : List ℕ) → IfOk answer (λ n. n ≤ length piece) → IfOk answer (λ n. 0 < length piece → 0 < n)
    → Writes (straight (λ xs. ⊥)) (straight (λ xs. ⊥)) answer piece
wrote-untold (Ok n) piece within some =
    record { within = within; some = some; gained = Gains-straight (λ (xs : List ℕ). ⊥) (λ (xs : List ℕ). ⊥) (take n piece) (λ xs h. h) }
wrote-untold (Err e) piece within some = Gains-nothing (straight (λ xs. ⊥))

pub tells-nothing : {E : Type 0} (result answer : Result ℕ E) (piece : List ℕ) → result ≡ answer → IfOk answer (λ n. n ≤ length piece)
    → IfOk answer (λ n. 0 < length piece → 0 < n) → Writes (straight (λ xs. ⊥)) (straight (λ xs. ⊥)) result piece
tells-nothing {E} result answer piece same within some =
    subst (λ (r : Result ℕ E). Writes (straight (λ xs. ⊥)) (straight (λ xs. ⊥)) r piece) (sym same) (wrote-untold answer piece within some)
