-- Links whose ends may be any streams, also halves of identity transform streams, and branches of tees.
use Rattle.std.specs.Prelude.{◌≡◌, true, Some, None, [], slice_get}
use Rattle.ws_value.specs.declared.ids.PipeId.{PipeId}
use Rattle.ws_value.specs.declared.ids.StreamId.{StreamId}
use Rattle.ws_steps.specs.declared.readable.ReadableState.TheVariants.{Closed as ReadableClosed}
use Rattle.ws_steps.specs.Slots.{Slots, has_source, has_writable, byte_at, source_at, writable_at, pipe_at}
use Rattle.ws_link_laws.specs.Sound.{IsReached, all_spare, elsewhere, SourceFits, IsBare, SinkFits, Closes, AreApart, all_apart, all_untied}

-- The link of pipe p from stream i to stream j, between steps: the source is bare where it is a byte stream, the pipe goes from the one to the
-- other, nobody else has them, and what is in them is as a pipe, its source and its destination keep it
pub record IsAnyLink (i j : StreamId) (p : PipeId) (s : Slots) : Type 0 where
  pub reached : IsReached s
  pub source : has_source i s ≡ true
  pub bare : IsBare (byte_at i s)
  pub sink : has_writable j s ≡ true
  pub there : slice_get s.pipes p.0 ≡ Some (pipe_at p s)
  pub from : (pipe_at p s).source ≡ i
  pub into : (pipe_at p s).dest ≡ j
  pub apart : AreApart i j p s.pipes
  pub untied : all_untied i s.tees ≡ true
  pub locks : all_spare i j s.locks ≡ true
  pub elsewhere : elsewhere p i.0 s.streams ≡ 0
  pub source_fits : SourceFits p (source_at i s)
  pub sink_fits : SinkFits (writable_at j s)
  -- a pipe that waits to close its destination has a source that closed
  pub closes : Closes (pipe_at p s).phase (pipe_at p s).action ((source_at i s).state ≡ ReadableClosed)

-- Streams i and j may be linked: i is bare where it is a byte stream, nobody has them, no pipe ever had, and nothing was written to j. What was
-- enqueued at i stays
pub record IsAnyFree (i j : StreamId) (s : Slots) : Type 0 where
  pub reached : IsReached s
  pub source : has_source i s ≡ true
  pub bare : IsBare (byte_at i s)
  pub sink : has_writable j s ≡ true
  pub unread : (source_at i s).reader ≡ None
  pub unwritten : (writable_at j s).writer ≡ None
  pub locks : all_spare i j s.locks ≡ true
  pub apart : all_apart i j s.pipes ≡ true
  pub untied : all_untied i s.tees ≡ true
  pub requests : (source_at i s).requests ≡ []
  pub queue : (writable_at j s).queue ≡ []
  pub close_request : (writable_at j s).close_request ≡ None
  pub close_in_flight : (writable_at j s).close_in_flight ≡ None
