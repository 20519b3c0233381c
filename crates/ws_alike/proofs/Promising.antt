-- An operation on promises, of others than one that isn't named, leaves that one alone.
use Rattle.std.proofs.Common.{◌≡◌, ◌∙◌, ◌<◌, Bool, true, false, if◌then◌else◌, List, [], ◌∷◌, length, Option, Some, None, Result, Err, refl, ap, arith}
use Rattle.std.specs.Option.{option_map}
use Rattle.ws_value.specs.declared.ids.PromiseId.{PromiseId}
use Rattle.ws_value.specs.declared.value.Plain.{Plain}
use Rattle.ws_steps.specs.declared.calls.Event.{Event}
use Rattle.ws_steps.specs.Promises.{Entry, Table, with_entry, next_id, fresh, fresh_settled, settle, tell, is_pending_outcome, is_pending_at}
use Rattle.ws_steps.specs.Writable.{ensure_rejected, rejected_promise, settle_pending, settle_request, reject_all}
use Rattle.ws_alike.specs.Named.{one, in_option, in_list, in_table}
use Rattle.ws_alike.specs.Blind.{LeavesAlone, View}
use Rattle.ws_alike.proofs.Tables.{apart, other, settle-blind, length-settle, length-fresh, fresh-blind, next-blind, fresh_settled-blind}
use Rattle.ws_alike.proofs.Names.{in_table-settle, in_table-fresh}
use Rattle.ws_alike.proofs.Steps.{Fits, then-blind, stays, by-test, next-apart}

abbrev pub tables : View Table
tables = record { change = with_entry; names = in_table; promises = λ t. length t.entries }

abbrev pub Alone : PromiseId → (Table → Table) → Table → Type 0
Alone p f t = LeavesAlone Table tables p f t

abbrev pub Fit : PromiseId → Table → Type 0
Fit p t = Fits Table tables p t

pub settles : (p q : PromiseId) (o : Result Plain Plain) (t : Table) → one p q ≡ 0 → Fit p t → Alone p (settle q o) t
settles p q o t n fits = record {
  blind = λ x. settle-blind p q o (apart p q n) x t fits.made;
  unnamed = let m = in_table-settle p q o t in omega (arith, m, fits.none);
  more = rw (length-settle q o t) (omega arith);
}

pub freshes : (p : PromiseId) (t : Table) → Fit p t → Alone p fresh t
freshes p t fits = record {
  blind = λ x. fresh-blind p x t fits.made;
  unnamed = in_table-fresh p t ∙ fits.none;
  more = let l = length-fresh t in omega (arith, l);
}

pub fresh-settles : (p : PromiseId) (o : Result Plain Plain) (t : Table) → Fit p t → Alone p (fresh_settled o) t
fresh-settles p o t fits =
    let m = freshes p t fits in
    let k = settles p (next_id t) o (fresh t) (next-apart p t fits.made) (record { made = omega (arith, fits.made, m.more); none = m.unnamed }) in
    record { blind = λ x. fresh_settled-blind p o x t fits.made; unnamed = k.unnamed; more = omega (arith, m.more, k.more) }

pub tells : (p : PromiseId) (e : Event) (t : Table) → Fit p t → Alone p (tell e) t
tells p e t fits = record { blind = λ x. refl; unnamed = fits.none; more = omega arith }

-- whether another promise is pending
pub pending-same : (p q : PromiseId) (x : Option Entry) (t : Table) → one p q ≡ 0 → is_pending_at q (with_entry p x t) ≡ is_pending_at q t
pending-same p q x t n = ap (λ (e : Option Entry). is_pending_outcome (option_map (λ (e : Entry). e.outcome) e)) (other p q x t (apart p q n))

pub settles-pending : (p q : PromiseId) (o : Result Plain Plain) (t : Table) → one p q ≡ 0 → Fit p t → Alone p (settle_pending q o) t
unfolding settle_pending
settles-pending p q o t n fits =
    let k = by-test p (settle q o) (λ u. u) (is_pending_at q t) t (settles p q o t n fits) (stays p t fits) in
    record { blind = λ x. rw (pending-same p q x t n) (k.blind x); unnamed = k.unnamed; more = k.more }

pub ensures : (p q : PromiseId) (r : Plain) (t : Table) → one p q ≡ 0 → Fit p t → Alone p (ensure_rejected q r) t
unfolding ensure_rejected
ensures p q r t n fits =
    let k = by-test p (settle q (Err r)) (fresh_settled (Err r)) (is_pending_at q t) t (settles p q (Err r) t n fits) (fresh-settles p (Err r) t fits) in
    record { blind = λ x. rw (pending-same p q x t n) (k.blind x); unnamed = k.unnamed; more = k.more }

pub rejected-same : (p q : PromiseId) (x : Option Entry) (t : Table) → one p q ≡ 0 → rejected_promise q (with_entry p x t) ≡ rejected_promise q t
rejected-same p q x t n = rw (pending-same p q x t n, next-blind p x t) refl

either-apart : (p q r : PromiseId) (c : Bool) → one p q ≡ 0 → one p r ≡ 0 → one p (if c then q else r) ≡ 0
either-apart p q r true n m = n
either-apart p q r false n m = m

pub rejected-apart : (p q : PromiseId) (t : Table) → one p q ≡ 0 → p.0 < length t.entries → one p (rejected_promise q t) ≡ 0
rejected-apart p q t n h = either-apart p q (next_id t) (is_pending_at q t) n (next-apart p t h)

pub settles-request : (p : PromiseId) (o : Result Plain Plain) (t : Table) (q : Option PromiseId) → in_option p q ≡ 0 → Fit p t → Alone p (λ u. settle_request o u q) t
settles-request p o t None n fits = stays p t fits
settles-request p o t (Some q) n fits = settles p q o t n fits

pub rejects-all : (p : PromiseId) (e : Plain) (qs : List PromiseId) (t : Table) → in_list p qs ≡ 0 → Fit p t → Alone p (reject_all e qs) t
rejects-all p e [] t n fits = stays p t fits
rejects-all p e (q ∷ qs) t n fits =
    let first : one p q ≡ 0 = omega (arith, n) in
    let later : in_list p qs ≡ 0 = omega (arith, n) in
    then-blind p (settle q (Err e)) (reject_all e qs) t (settles p q (Err e) t first fits) (rejects-all p e qs _ later) fits
