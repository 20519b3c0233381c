-- What the taking of events, and the release of promises, leaves of the places.
use Rattle.std.proofs.Common.{◌≡◌, ◌≤◌, ℕ, suc, Bool, true, false, if◌then◌else◌, List, [], ◌∷◌, length, Option, Some, None, refl, ap, arith}
use Rattle.ws_value.specs.declared.ids.PromiseId.{PromiseId}
use Rattle.ws_steps.specs.Places.{reactions_in, reactions_of, unnoted_in, unnoted_of}
use Rattle.ws_steps.specs.Promises.{Entry, Table}
use Rattle.ws_steps.specs.Run.{later_events}
use Rattle.ws_steps.specs.Slots.{Slots}
use Rattle.ws_steps.specs.declared.calls.Event.{Event}
use Rattle.ws_alike.specs.Alike.{forgotten, is_needed, trim, trimmed_entry, trimmed_from}
use Rattle.ws_promise.specs.Seen.{Seen, HasRoom, jobs_in, events_in}
use Rattle.ws_tables.specs.Room.{IsPrepared, IsResting, places_for}
use Rattle.ws_tables.specs.declared.tables.Tables.{Tables}
use Rattle.ws_tables.proofs.Places.{kept_promises}
use Rattle.ws_calls.specs.Credit.{HasPlacesFor}
use Rattle.ws_calls.proofs.Credit.{with-fewer}

-- nothing takes more places
pub record Less (t u : Table) : Type 0 where
  pub entries : length u.entries ≤ length t.entries
  pub jobs : jobs_in u ≤ jobs_in t
  pub events : events_in u ≤ events_in t

less-room : (n : ℕ) (s : Seen) (u : Table) → Less s.table u → HasRoom n s → HasRoom n (record s { table = u })
less-room n s u less room =
    let a = less.entries in let b = less.jobs in let c = less.events in
    let d = room.promises in let e = room.jobs in let f = room.events in
    record { promises = omega (arith, a, d); jobs = omega (arith, b, e); events = omega (arith, c, f) }

later-less : (es : List Event) → length (later_events es) ≤ length es
later-less [] = omega arith
later-less (e ∷ es) = omega arith

-- the taking of an event leaves one, or none
pub later-events-less : (t : Table) → Less t (record t { events = later_events t.events })
later-events-less t = let h = later-less t.events in record { entries = omega arith; jobs = omega arith; events = omega (arith, h) }

-- what is left without the promises that aren't needed

trimmed-length : (k : ℕ) (s : Slots) (es : List (Option Entry)) → length (trimmed_from k s es) ≡ length es
trimmed-length k s [] = refl
trimmed-length k s (e ∷ es) = ap suc (trimmed-length (suc k) s es)

one-reactions : (p : PromiseId) (s : Slots) (e : Option Entry) → reactions_of (trimmed_entry p s e) ≤ reactions_of e
one-reactions p s None = omega arith
one-reactions p s (Some e) = by (is_needed p s e)
  where
    by : (c : Bool) → reactions_of (if c then Some e else Some forgotten) ≤ reactions_of (Some e)
    by true = omega arith
    by false = omega arith

one-unnoted : (p : PromiseId) (s : Slots) (e : Option Entry) → unnoted_of (trimmed_entry p s e) ≤ unnoted_of e
one-unnoted p s None = omega arith
one-unnoted p s (Some e) = by (is_needed p s e)
  where
    by : (c : Bool) → unnoted_of (if c then Some e else Some forgotten) ≤ unnoted_of (Some e)
    by true = omega arith
    by false = omega arith

trimmed-reactions : (k : ℕ) (s : Slots) (es : List (Option Entry)) → reactions_in (trimmed_from k s es) ≤ reactions_in es
trimmed-reactions k s [] = omega arith
trimmed-reactions k s (e ∷ es) = let a = one-reactions (record { 0 = k }) s e in let b = trimmed-reactions (suc k) s es in omega (arith, a, b)

trimmed-unnoted : (k : ℕ) (s : Slots) (es : List (Option Entry)) → unnoted_in (trimmed_from k s es) ≤ unnoted_in es
trimmed-unnoted k s [] = omega arith
trimmed-unnoted k s (e ∷ es) = let a = one-unnoted (record { 0 = k }) s e in let b = trimmed-unnoted (suc k) s es in omega (arith, a, b)

pub trim-long : (s : Slots) → length s.promises.entries ≤ length (trim s).promises.entries
trim-long s = let a = trimmed-length 0 s s.promises.entries in omega (arith, a)

pub trim-less : (s : Slots) → Less s.promises (trim s).promises
trim-less s =
    let a = trimmed-length 0 s s.promises.entries in
    let b = trimmed-reactions 0 s s.promises.entries in
    let c = trimmed-unnoted 0 s s.promises.entries in
    record { entries = omega (arith, a); jobs = omega (arith, b); events = omega (arith, c) }

-- a realm is between calls still, where promises get no fewer
pub rests-still : (t : Tables) (u : Table) → length t.promises.table.entries ≤ length u.entries → IsResting t → IsResting (record t { promises = record t.promises { table = u } })
rests-still t u more rest = record {
  caused = rest.caused;
  others = rest.others;
  under_way = rest.under_way;
  kept = kept_promises t (record t.promises { table = u }) more rest.kept;
}

-- and prepared still, where places are left
pub ready-still : (t : Tables) (u : Table) → Less t.promises.table u → IsPrepared t → IsPrepared (record t { promises = record t.promises { table = u } })
ready-still t u less prepared =
    let ready = prepared.ready in
    record {
      ready = record {
        promises = less-room (places_for 0 8 3 15 t) t.promises u less ready.promises;
        jobs = let a = less.jobs in let h = ready.jobs in omega (arith, a, h);
        hosts = ready.hosts;
        caused = ready.caused;
        others = ready.others;
        under_way = ready.under_way;
        grown = ready.grown;
        places = ready.places;
        full = ready.full;
        members = ready.members;
        copies = ready.copies;
      };
      locks = prepared.locks;
      byob_requests = prepared.byob_requests;
      streams = prepared.streams;
      transforms = prepared.transforms;
      tees = prepared.tees;
      ports = prepared.ports;
      pipes = prepared.pipes;
      signals = prepared.signals;
    }

-- and so it is with those for several jobs
pub places-still : (n : ℕ) (t : Tables) (u : Table) → Less t.promises.table u → HasPlacesFor n t → HasPlacesFor n (record t { promises = record t.promises { table = u } })
places-still n t u less has = with-fewer n (record t.promises { table = u }) t _ refl refl less.entries less.jobs less.events (omega arith) refl has
