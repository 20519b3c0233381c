-- Settling makes no promise.
use Rattle.std.proofs.Common.{◌≡◌, ℕ, suc, zero, Bool, true, false, if◌then◌else◌, List, [], ◌∷◌, length, Option, Some, None, Result, refl, ap, ◌∙◌}
use Rattle.std.specs.Prelude.{slice_set}
use Rattle.ws_value.specs.declared.ids.PromiseId.{PromiseId}
use Rattle.ws_value.specs.declared.value.Plain.{Plain}
use Rattle.ws_steps.specs.Promises.{Entry, Table, entry_at, is_open, noted, settle_entry, settle}

set-length : {X : Type 0} (xs : List X) (i : ℕ) (y : X) → length (slice_set xs i y) ≡ length xs
set-length [] i y = refl
set-length (x ∷ xs) zero y = refl
set-length (x ∷ xs) (suc i) y = ap suc (set-length xs i y)

noted-entries : (p : PromiseId) (t : Table) (rank : Option ℕ) → (noted p t rank).entries ≡ t.entries
noted-entries p t None = refl
noted-entries p t (Some rank) = refl

entry-length : (p : PromiseId) (outcome : Result Plain Plain) (t : Table) (e : Option Entry) → length (settle_entry p outcome t e).entries ≡ length t.entries
entry-length p outcome t None = refl
entry-length p outcome t (Some e) = ap length (noted-entries p _ e.rank) ∙ set-length t.entries p.0 _

test-length : (test : Bool) (t u v : Table) → length u.entries ≡ length t.entries → length v.entries ≡ length t.entries → length (if test then u else v).entries ≡ length t.entries
test-length true t u v a b = a
test-length false t u v a b = b

pub settle_length : (p : PromiseId) (outcome : Result Plain Plain) (t : Table) → length (settle p outcome t).entries ≡ length t.entries
unfolding settle
settle_length p outcome t = test-length (is_open p t) t _ _ (entry-length p outcome t (entry_at t p)) refl
