use Rattle.std.proofs.Common.{rules, ◌≡◌, length, [], ◌∷◌, refl, arith}
use Rattle.std.proofs.lemmas.List.{map-append}
use Rattle.ws_tables.specs.View.{stream_of}
use Rattle.ws_tables.specs.declared.tables.Stream.TheVariants.{Writable}
use Rattle.ws_tables.proofs.Places.{fresh_length}
use Rattle.ws_begin.proofs.ports.add_writable_end.Goals as goal

pub returns : goal.returns
returns c =
    let t = c.args.tables.now in
    let more = fresh_length t.promises.table in
    let ports : c.len.result ≡ length t.ports.items = omega (arith, c.len.ensures, t.ports.ok.0) in
    let streams : c.len-2.result ≡ length t.streams.items = omega (arith, c.len-2.ensures, t.streams.ok.0) in
    record {
      slots =
          rw (c.push_reserved.ensures.items, map-append stream_of t.streams.items (Writable c.make-stream.result ∷ []), c.push_reserved-3.ensures.items, c.set_up.ensures, c.make-stream.ensures, c.fresh-backpressure.ensures.table, c.fresh-backpressure.ensures.id, ports, streams)
          refl;
      caused = search rules;
      others = refl;
      places = search rules;
      waiting = refl;
      aborts = refl;
      promises = search rules;
      locks = refl;
      pipes = refl;
      records = search rules;
    }
