-- A way from a source of the host's own to a sink of its own, in the host's calls and events.
use Rattle.std.specs.Prelude.{◌≡◌, ◌<◌, true, List, [], ◌++◌}
use Rattle.ws_value.specs.declared.ids.PipeId.{PipeId}
use Rattle.ws_value.specs.declared.ids.StreamId.{StreamId}
use Rattle.ws_steps.specs.declared.effects.Owner.TheVariants.{Host}
use Rattle.ws_steps.specs.Histories.{run_events}
use Rattle.ws_steps.specs.Laws.{IsPrefixOf}
use Rattle.ws_steps.specs.ReadableHistory.{accepted}
use Rattle.ws_steps.specs.Run.{Entry, run}
use Rattle.ws_steps.specs.Slots.{empty, owner_at}
use Rattle.ws_steps.specs.WritableHistory.{heard_writes, heard_closes}
use Rattle.ws_link_laws.specs.Link.{silence}
use Rattle.ws_identity_laws.specs.Through.{Middle, IsWay, lies_along, all_leave_way}

-- the values of the events of a run that write to sink k are a first part of those that were enqueued at source i; and all of these, where its close
-- was heard
pub record IsHeard (i k : StreamId) (zs : List Entry) : Type 0 where
  pub front : IsPrefixOf (heard_writes k (run_events zs empty)) (accepted i zs empty)
  pub whole : 0 < heard_closes k (run_events zs empty) → heard_writes k (run_events zs empty) ≡ accepted i zs empty

-- a way on which nothing lies, and over which nothing went
pub record IsUnused (i : StreamId) (p : PipeId) (ms : List Middle) (k : StreamId) (xs : List Entry) : Type 0 where
  pub way : IsWay i p ms k (run xs empty)
  pub source : owner_at i (run xs empty) ≡ Host
  pub sink : owner_at k (run xs empty) ≡ Host
  pub lies : lies_along i p ms k xs ≡ silence
  pub accepted : accepted i xs empty ≡ []
  pub written : heard_writes k (run_events xs empty) ≡ []
  pub closed : heard_closes k (run_events xs empty) ≡ 0

abbrev pub EachWayIsHeard : Type 0
EachWayIsHeard =
    (xs entries : List Entry) (i : StreamId) (p : PipeId) (ms : List Middle) (k : StreamId) → IsUnused i p ms k xs → all_leave_way i ms k entries ≡ true → IsHeard i k (xs ++ entries)
