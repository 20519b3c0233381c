-- What the tables of a realm stand for.
use Rattle.std.specs.Prelude.{map}
use Rattle.ws_steps.specs.Slots.{Slots, Stream, ReadableStream, ByteStream, WritableStream}
use Rattle.ws_tables.specs.declared.tables.Stream.{Stream as StreamRecord}
use Rattle.ws_tables.specs.declared.tables.Stream.TheVariants.{Readable, Bytes, Writable}
use Rattle.ws_pipe.specs.Seen.{SeenSignal}
use Rattle.ws_tee.specs.Seen.{SeenTee}
use Rattle.ws_steps.specs.Pipes as pipe
use Rattle.ws_steps.specs.Tee as tee
use Rattle.ws_tables.specs.declared.tables.Tables.{Tables}

abbrev pub stream_of : StreamRecord → Stream
stream_of (Readable r) = ReadableStream r.slots
stream_of (Bytes b) = ByteStream b.slots
stream_of (Writable w) = WritableStream w.slots

abbrev pub signal_of : SeenSignal → pipe.Signal
signal_of x = x.signal

abbrev pub tee_of : SeenTee → tee.Slots
tee_of x = x.slots

abbrev pub slots_of : Tables → Slots
slots_of t =
    record {
      streams = map stream_of t.streams.items;
      transforms = t.transforms.items;
      tees = map tee_of t.tees.items;
      ports = t.ports.items;
      pipes = t.pipes.items;
      signals = map signal_of t.signals.items;
      locks = t.locks.items;
      promises = t.promises.table;
      hosts = t.hosts.items;
      byob_requests = t.byob_requests.items;
      age = t.age;
    }
