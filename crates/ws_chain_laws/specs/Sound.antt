-- Links of which nothing failed.
use Rattle.std.specs.Prelude.{◌≡◌, ◌≢◌, false, None}
use Rattle.ws_value.specs.declared.ids.PipeId.{PipeId}
use Rattle.ws_value.specs.declared.ids.StreamId.{StreamId}
use Rattle.ws_steps.specs.declared.readable.ReadableState.TheVariants.{Errored}
use Rattle.ws_steps.specs.Slots.{Slots, pipe_at, source_at, writable_at}
use Rattle.ws_flow.specs.Told.{Lost}
use Rattle.ws_end_laws.specs.ends.PassedAll.{is_failing}
use Rattle.ws_link_laws.specs.Link.{behind}
use Rattle.ws_link_laws.specs.Sound.{IsLink}

-- neither end has failed, and the pipe has no error and isn't to leave its destination open
pub record IsSound (i j : StreamId) (p : PipeId) (s : Slots) : Type 0 where
  pub source : (source_at i s).state ≢ Errored
  pub sink : is_failing (writable_at j s).state ≡ false
  pub closes : (pipe_at p s).prevent.close ≡ false
  pub error : (pipe_at p s).error ≡ None

abbrev pub EachSoundLinkIsWhole : Type 0
EachSoundLinkIsWhole = (i j : StreamId) (p : PipeId) (s : Slots) → IsLink i j p s → IsSound i j p s → (behind i j p s).mark ≢ Lost
