-- A promise that is settled where nothing goes astray has the outcome with which it is settled.
use Rattle.std.proofs.Common.{◌≡◌, Bool, true, false, List, ◌++◌, map, Option, Some, None, Result, slice_get, slice_set, if◌then◌else◌, refl, sym, ap, ◌∙◌}
use Rattle.std.specs.Option.{option_map}
use Rattle.ws_value.specs.declared.ids.PromiseId.{PromiseId}
use Rattle.ws_value.specs.declared.value.Outcome.{Outcome}
use Rattle.ws_value.specs.declared.value.Plain.{Plain}
use Rattle.ws_steps.specs.Promises.{Entry, Table, live, entry_at, outcome_at, with_entry, is_open, is_open_entry, settled, settle, settle_entry, answer, answer_entry, ended_as, noted, job_of, went_astray}
use Rattle.ws_steps.proofs.PromiseLaws.{entry_within, entry_at-with_entry_same}
use Rattle.ws_laws.proofs.Outcomes.{Keeps, entries_noted}

-- what didn't go astray at the end did nowhere
pub straight_before : (t z : Table) → Keeps t z → z.astray ≡ false → t.astray ≡ false
straight_before t z k e = by t.astray refl
  where
    by : (b : Bool) → b ≡ t.astray → t.astray ≡ false
    by false f = sym f
    by true f = let n = k.mark (sym f) in cc

-- the promise's entry is ended so, and this may be told
ended_there : (q : PromiseId) (o : Outcome) (t z : Table) (e : Entry) → entry_at t q ≡ Some e → z.entries ≡ slice_set t.entries q.0 (Some (ended_as o e)) → outcome_at (noted q z e.rank) q ≡ Some o
ended_there q o t z e h w =
    let d : Entry = ended_as o e in
    let at : entry_at (noted q z e.rank) q ≡ Some d = ap (λ (es : List (Option Entry)). live (slice_get es q.0)) (entries_noted q z e.rank ∙ w) ∙ entry_at-with_entry_same t q (Some d) (entry_within t q e h) in
    ap (λ (x : Option Entry). option_map (λ (e : Entry). e.outcome) x) at

settled_entry : (q : PromiseId) (o : Result Plain Plain) (t : Table) (x : Option Entry) → x ≡ entry_at t q → is_open_entry x ≡ true → outcome_at (settle_entry q o t x) q ≡ Some (settled o)
settled_entry q o t None e h = cc
settled_entry q o t (Some e) h k = ended_there q (settled o) t (record t { entries = slice_set t.entries q.0 (Some (ended_as (settled o) e)); jobs = t.jobs ++ map (job_of o) e.reactions }) e (sym h) refl

answered_entry : (q : PromiseId) (o : Outcome) (t : Table) (x : Option Entry) → x ≡ entry_at t q → is_open_entry x ≡ true → outcome_at (answer_entry q o t x) q ≡ Some o
answered_entry q o t None e h = cc
answered_entry q o t (Some e) h k = ended_there q o t (with_entry q (Some (ended_as o e)) t) e (sym h) refl

settled_by : (q : PromiseId) (o : Result Plain Plain) (t : Table) (open_ : Bool) → open_ ≡ is_open q t → (settle q o t).astray ≡ false → outcome_at (settle q o t) q ≡ Some (settled o)
unfolding settle
settled_by q o t true e a = rw (← e) (settled_entry q o t (entry_at t q) refl (sym e))
settled_by q o t false e a = let n : (if is_open q t then settle_entry q o t (entry_at t q) else went_astray t).astray ≡ true = rw (← e) refl in cc

answered_by : (q : PromiseId) (o : Outcome) (t : Table) (open_ : Bool) → open_ ≡ is_open q t → (answer q o t).astray ≡ false → outcome_at (answer q o t) q ≡ Some o
unfolding answer
answered_by q o t true e a = rw (← e) (answered_entry q o t (entry_at t q) refl (sym e))
answered_by q o t false e a = let n : (if is_open q t then answer_entry q o t (entry_at t q) else went_astray t).astray ≡ true = rw (← e) refl in cc

pub settled_straight : (q : PromiseId) (o : Result Plain Plain) (t : Table) → (settle q o t).astray ≡ false → outcome_at (settle q o t) q ≡ Some (settled o)
settled_straight q o t a = settled_by q o t (is_open q t) refl a

pub answered_straight : (q : PromiseId) (o : Outcome) (t : Table) → (answer q o t).astray ≡ false → outcome_at (answer q o t) q ≡ Some o
answered_straight q o t a = answered_by q o t (is_open q t) refl a
