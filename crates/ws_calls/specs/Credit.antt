-- Places for several of the jobs that each chunk meets, one after another.
use Rattle.std.specs.Prelude.{ℕ, ◌≡◌, ◌+◌, ◌*◌, ◌≤◌, ◌<◌, [], length, vec_len, vec_capacity}
use Rattle.ws_promise.specs.Seen.{HasPromiseRoom, HasJobRoom, HasEventRoom}
use Rattle.ws_steps.specs.Places.{turns_alone, promises_alone, jobs_alone, events_alone, hosts_alone}
use Rattle.ws_tables.specs.Room.{HasRoomForAll, later}
use Rattle.ws_tables.specs.declared.tables.Tables.{Tables}

-- there are places for n jobs, of which each takes 28 turns, 14 promises, 14 jobs, 7 events and 7 answers of hosts at most; those in the lists of streams aside
pub record HasPlacesFor (n : ℕ) (t : Tables) : Type 0 where
  pub any : HasRoomForAll [] t
  pub promises : HasPromiseRoom (n * 14 + later promises_alone t + 1) t.promises
  pub jobs : HasJobRoom (n * 14 + later jobs_alone t) t.promises
  pub events : HasEventRoom (n * 7 + later events_alone t + 1) t.promises
  pub hosts : n * 7 + later hosts_alone t + length t.hosts.items ≤ t.hosts.capacity
  pub caused : n * 28 + later turns_alone t + 6 ≤ t.caused.capacity
  pub others : n * 28 + later turns_alone t + 6 ≤ vec_capacity t.others
  pub under_way : n * 28 + later turns_alone t + 6 ≤ vec_capacity t.under_way

-- places were found for n jobs; 0 says nothing of them
abbrev pub AreFound : ℕ → Tables → Type 0
AreFound n t = 0 < n → HasPlacesFor n t

-- each stream has the places in its lists that one job takes, and there is no tee
pub record IsAtHand (t : Tables) : Type 0 where
  pub grown : vec_len t.grown ≡ 0
  pub notes : 6 ≤ vec_capacity t.grown
  pub tees : vec_len t.tees ≡ 0
