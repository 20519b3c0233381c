-- The readable end of each port, in every run.
use Rattle.std.proofs.Common.{◌≡◌, ℕ, zero, suc, Bool, true, false, not, ◌&&◌, List, [], ◌∷◌, map, Option, Some, None, slice_get, refl, sym, ap, ◌∙◌, append-nil, arith}
use Rattle.std.specs.Prelude.{is_some}
use Rattle.ws_value.specs.declared.ids.PortId.{PortId}
use Rattle.ws_steps.specs.declared.effects.Owner.TheVariants.{EndOf}
use Rattle.ws_steps.specs.declared.port.Side.{Side}
use Rattle.ws_steps.specs.declared.readable.ReadableState.{ReadableState}
use Rattle.ws_steps.specs.declared.readable.ReadableState.TheVariants.{Readable, Closed, Errored}
use Rattle.ws_steps.specs.Cross as cross
use Rattle.ws_steps.specs.PortLaws.{EachReadableEndIsLawful}
use Rattle.ws_steps.specs.Readable as readable
use Rattle.ws_steps.specs.Readable.{can_close_or_enqueue, is_readable}
use Rattle.ws_steps.specs.Run.{run}
use Rattle.ws_steps.specs.Slots.{Slots, Stream, ReadableStream, ByteStream, WritableStream, empty, owner_of, port_at, as_port, readable_at, is_readable_stream, is_byte_stream}
use Rattle.ws_laws.proofs.Ended.{port_shape, end_shape, run-ended}
use Rattle.ws_laws.proofs.Shapes.{ReadableOf, stream_shape, stream_shapes, map-there}
use Rattle.ws_readable_laws.proofs.Runs.{each_readable_is_lawful}
use Rattle.ws_tee_port_laws.proofs.ports.Ends.{each_readable_end_posts}
use Rattle.ws_tee_port_laws.proofs.ports.EnteringRuns.{run-enters, settled}

-- of a stream that performs the algorithms of port c
shaped : (c : PortId) (xs : List Stream) (n : ℕ) → slice_get (map stream_shape xs) n ≡ Some (ReadableOf (EndOf c))
    → (is_readable_stream (slice_get xs n) ≡ true) × ((is_byte_stream (slice_get xs n) ≡ false) × (owner_of (slice_get xs n) ≡ EndOf c))
shaped c [] n e = cc
shaped c (ReadableStream r ∷ xs) zero e = (refl, (refl, cc))
shaped c (ByteStream b ∷ xs) zero e = cc
shaped c (WritableStream w ∷ xs) zero e = cc
shaped c (x ∷ xs) (suc n) e = shaped c xs n e

there : (o : Option cross.Slots) → is_some o ≡ true → o ≡ Some (as_port o)
there None e = cc
there (Some x) e = refl

-- one that takes chunks is readable
is-readable : (r : readable.Slots) → can_close_or_enqueue r ≡ true → r.state ≡ Readable
is-readable r e = by r.state r.close_requested e
  where
    by : (state : ReadableState) (b : Bool) → not b && is_readable state ≡ true → state ≡ Readable
    by Readable b e = refl
    by Closed b e = grind (arith, e)
    by Errored b e = grind (arith, e)

pub each_readable_end_is_lawful : EachReadableEndIsLawful
each_readable_end_is_lawful entries c h side =
    let s : Slots = run entries empty in
    let x : cross.Slots = port_at c s in
    let at : slice_get s.ports c.0 ≡ Some x = there (slice_get s.ports c.0) h in
    let shape : slice_get (stream_shapes s) x.stream.0 ≡ Some (ReadableOf (EndOf c)) =
    (run-ended entries).ends c (port_shape x) (map-there port_shape s.ports c.0 x at) ∙ ap (λ (k : Side). Some (end_shape c k)) side in
    let t = shaped c s.streams x.stream.0 shape in
    let p = each_readable_end_posts entries c h side in
    let g = run-enters c x.stream entries x at side refl in (
      t.0,
      (
        t.1.1,
        record {
          lawful = each_readable_is_lawful entries x.stream t.1.0;
          entered = sym (append-nil _) ∙ g.enters;
          posts = p.posts;
          last = p.last;
          live = p.live;
          readable = λ l. is-readable (readable_at x.stream s) (settled c x.stream _ _ x (readable_at x.stream s) g l);
        },
      ),
    )
