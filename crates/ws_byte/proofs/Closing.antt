-- A stream that is closed keeps its reader.
use Rattle.std.proofs.Common.{◌≡◌, false, Option, Some, None, refl, ap, ◌∙◌}
use Rattle.ws_value.specs.declared.ids.PromiseId.{PromiseId}
use Rattle.ws_value.specs.declared.ids.StreamId.{StreamId}
use Rattle.ws_steps.specs.Effects.{Out}
use Rattle.ws_steps.specs.Bytes.{Slots, Acts, has_byob_reader, in_stream, stream_close, close_into}
use Rattle.ws_byte.proofs.Responding.{if_false}
use Rattle.ws_steps.specs.Readable as readable

closed_with : (me : StreamId) (s : Slots) (out : Out) (reader : Option PromiseId) → has_byob_reader (record s { stream = record s.stream { reader = reader } }) ≡ false
    → close_into me (in_stream (readable.stream_close me) (record { slots = record s { stream = record s.stream { reader = reader } }; out = out }))
    ≡ in_stream (readable.stream_close me) (record { slots = record s { stream = record s.stream { reader = reader } }; out = out })
unfolding readable.stream_close
closed_with me s out None h = refl
closed_with me s out (Some closed) h = rw h refl

-- without a BYOB reader no more is done
pub closed_into : (me : StreamId) (a : Acts) → has_byob_reader a.slots ≡ false → close_into me (in_stream (readable.stream_close me) a) ≡ in_stream (readable.stream_close me) a
closed_into me a h = closed_with me a.slots a.out a.slots.stream.reader h

pub closed_into_plain : (me : StreamId) (a : Acts) → has_byob_reader a.slots ≡ false → close_into me (stream_close me a) ≡ in_stream (readable.stream_close me) a
unfolding stream_close
closed_into_plain me a h = ap (close_into me) (if_false (has_byob_reader a.slots) _ _ h) ∙ closed_into me a h
