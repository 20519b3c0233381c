-- Releasing one promise after another, over the tables.
use Rattle.std.proofs.Common.{◌≡◌, ◌∙◌, ℕ, ◌+◌, suc, Bool, true, false, nat_lt, length, refl, ap, arith}
use Rattle.ws_value.specs.declared.ids.PromiseId.{PromiseId}
use Rattle.ws_steps.specs.Promises.{Table}
use Rattle.ws_steps.specs.Slots.{Slots}
use Rattle.ws_alike.specs.Alike.{NoneLoose, release, trim}
use Rattle.ws_alike.specs.Named.{in_slots}
use Rattle.ws_alike.proofs.Tidying.{Tidied, tidied-ends, tidied-kept, tidied-released}
use Rattle.ws_tables.specs.View.{slots_of}
use Rattle.ws_tables.specs.declared.tables.Tables.{Tables}

-- the same but for the table of promises
abbrev pub with_table : Table → Tables → Tables
with_table u t = record t { promises = record t.promises { table = u } }

-- how far the releasing has come
pub record Goes (hi : ℕ) (old t : Tables) : Type 0 where
  pub tidied : Tidied hi (slots_of old) (slots_of t)
  pub rest : t ≡ with_table t.promises.table old

pub goes-on : (lo hi : ℕ) (p : PromiseId) (old t u : Tables) → hi ≡ p.0 + 1 → Goes lo old t → NoneLoose lo p.0 t.promises.table
    → (nat_lt 0 (in_slots p (slots_of t)) ≡ true → u ≡ t) → (nat_lt 0 (in_slots p (slots_of t)) ≡ false → u ≡ with_table (release p t.promises.table) t) → Goes hi old u
goes-on lo hi p old t u next k none kept gone = by (nat_lt 0 (in_slots p (slots_of t))) refl
  where
    up : suc p.0 ≡ hi
    up = omega (arith, next)

    by : (c : Bool) → nat_lt 0 (in_slots p (slots_of t)) ≡ c → Goes hi old u
    by true e =
        let is = kept e in
        let m = tidied-kept lo p (slots_of old) (slots_of t) k.tidied none e in
        rw (is, ← up) (record { tidied = m; rest = k.rest })
    by false e =
        let is = gone e in
        let m = tidied-released lo p (slots_of old) (slots_of t) k.tidied none e in
        rw (is, ← up) (record { tidied = m; rest = ap (λ x. with_table (release p t.promises.table) x) k.rest })

pub goes-to-end : (lo : ℕ) (old t : Tables) → Goes lo old t → NoneLoose lo (length t.promises.table.entries) t.promises.table → t ≡ with_table (trim (slots_of old)).promises old
goes-to-end lo old t k none = k.rest ∙ ap (λ (s : Slots). with_table s.promises old) (tidied-ends lo (slots_of old) (slots_of t) k.tidied none)
