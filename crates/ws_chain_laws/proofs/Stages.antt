-- A transform stream is made behind one that gives chunks: its writable half is the next that takes them, and its readable half the next that gives.
use Rattle.std.proofs.Common.{◌≡◌, ℕ, suc, ◌+◌, ◌*◌, ◌≤◌, ◌<◌, true, nat_lt, [], ◌∷◌, ◌++◌, length, Some, slice_get, refl, sym, ap, subst, ◌∙◌, arith, lt-ltb}
use Rattle.ws_value.specs.declared.ids.StreamId.{StreamId}
use Rattle.ws_steps.specs.declared.calls.Call.{Call}
use Rattle.ws_steps.specs.declared.calls.Call.TheVariants.{MakeTransform}
use Rattle.ws_steps.specs.declared.calls.StartBy.TheVariants.{Now}
use Rattle.ws_steps.specs.declared.effects.Owner.{Owner}
use Rattle.ws_steps.specs.declared.effects.Owner.TheVariants.{HalfOf}
use Rattle.ws_steps.specs.declared.readable.SizeBy.TheVariants.{Count}
use Rattle.ws_steps.specs.declared.transform.Kind.TheVariants.{Host as HostKind}
use Rattle.ws_steps.specs.declared.transform.TransformId.{TransformId}
use Rattle.ws_steps.specs.MakingCalls as making_calls
use Rattle.ws_steps.specs.Begun.{Begun}
use Rattle.ws_steps.specs.Calls.{begin}
use Rattle.ws_steps.specs.Promises.{next_id, fresh}
use Rattle.ws_steps.specs.Readable as readable
use Rattle.ws_steps.specs.Run.{Called, after_call}
use Rattle.ws_steps.specs.Slots.{Slots, ReadableStream, WritableStream, most_streams, owner_of, owner_at, has_source, transform_at}
use Rattle.ws_steps.specs.Transform as transform
use Rattle.ws_steps.specs.Turns.{performed}
use Rattle.ws_steps.specs.Writable as writable
use Rattle.ws_laws.proofs.Shapes.{stream_shape, transform_shape, transform_shapes, map-there}
use Rattle.ws_laws.proofs.Ended.{port_shape}
use Rattle.ws_laws.proofs.Tables.{place_last}
use Rattle.ws_link_laws.specs.Link.{Ear, Giver, OfTransform, OfHalf, ear_by, ear_at, giver_at}
use Rattle.ws_link_laws.specs.Sound.{IsFree}
use Rattle.ws_link_laws.proofs.Free.{free-called}
use Rattle.ws_link_laws.proofs.Owners.{giver-stays, ear-stays}
use Rattle.ws_link_laws.proofs.Pipelines.{Opened, opened-transform}
use Rattle.ws_link_laws.proofs.Steps.{place-append}
use Rattle.ws_link_laws.proofs.Unheard.{fresh-unheard}
use Rattle.ws_wire_laws.specs.Segments.{Next, after_stage}
use Rattle.ws_chain_laws.specs.Chain.{source_of, dest_of, transform_of}
use Rattle.ws_chain_laws.proofs.Lists.{all-last, length-last, get-last, split}
use Rattle.ws_chain_laws.proofs.Pairs.{performed-owner, performed-giver, performed-streams, performed-transforms, performed-ports, length-same, readable-told, Half}
use Rattle.ws_chain_laws.proofs.Young.{YoungStream, Young, fresh-unposted, called-young}

module _ (g : ℕ → Giver) (h : ℕ → Ear) (n : Next) (s : Slots) (d : Half g h n s) (few : 2 * n.link + 2 < most_streams)
    (gives : g (suc n.link) ≡ OfHalf (record { 0 = n.transform })) (hears : h n.link ≡ OfTransform (record { 0 = n.transform }) (source_of (suc n.link))) where
  abbrev m : ℕ
  m = n.link

  abbrev jw : StreamId
  jw = record { 0 = length s.streams }

  abbrev jr : StreamId
  jr = record { 0 = length s.streams + 1 }

  abbrev me : TransformId
  me = record { 0 = length s.transforms }

  abbrev c : Call
  c = MakeTransform HostKind 1 0 Now

  abbrev b : Begun
  b = making_calls.make_transform HostKind 1 0 Now jw jr s

  abbrev z : Slots
  z = after_call c s

  abbrev wt : writable.Slots
  wt = writable.set_up (HalfOf me) 1 Count

  abbrev rt : readable.Slots
  rt = readable.set_up (HalfOf me) 0 Count

  room : nat_lt (length s.streams + 1) most_streams ≡ true
  room = let l = d.streams in lt-ltb (length s.streams + 1) most_streams (omega (arith, l, few))

  is : begin c s ≡ b
  unfolding begin
  is = rw room refl

  jw-is : jw ≡ dest_of m
  jw-is = ap (λ (q : ℕ). record { 0 = q }) d.streams

  jr-is : jr ≡ source_of (suc m)
  jr-is = let l = d.streams in let e : length s.streams + 1 ≡ 2 * suc m = omega (arith, l) in ap (λ (q : ℕ). record { 0 = q }) e

  me-is : me ≡ transform_of n.transform
  me-is = ap (λ (q : ℕ). record { 0 = q }) d.transforms

  -- the new ones

  at-taking : slice_get b.done.slots.streams jw.0 ≡ Some (WritableStream wt)
  at-taking = place-append (s.streams ++ WritableStream wt ∷ []) (ReadableStream rt) (WritableStream wt) jw.0 (place_last s.streams (WritableStream wt))

  at-giving : slice_get b.done.slots.streams jr.0 ≡ Some (ReadableStream rt)
  at-giving = let l = length-last s.streams (WritableStream wt) in rw l at (place_last (s.streams ++ WritableStream wt ∷ []) (ReadableStream rt))

  new-takes : owner_at jw z ≡ HalfOf me
  new-takes = rw is (performed-owner jw b.done ∙ ap owner_of at-taking)

  new-gives : giver_at jr z ≡ OfHalf me
  new-gives = rw is (performed-giver jr b.done ∙ rw at-giving refl)

  new-half : (transform_at me z).readable ≡ jr
  new-half =
      let x : transform.Slots = transform.set_up HostKind jw jr (next_id s.promises) in
      let there : slice_get (transform_shapes b.done.slots) me.0 ≡ Some (transform_shape x) = map-there transform_shape b.done.slots.transforms me.0 x (get-last s.transforms x) in
      rw is (readable-told (performed b.done).transforms me.0 (transform_shape x) (rw (performed-transforms b.done) there))

  new-hears : ear_at jw z ≡ OfTransform me jr
  new-hears = ap (λ (o : Owner). ear_by jw z o) new-takes ∙ ap (λ (r : StreamId). OfTransform me r) new-half

  new-young : Young 0 0 z
  new-young = called-young 0 0 c s (rw is young) (rw is (tt, (tt, (tt, (tt, (tt, tt))))))
    where
      young : Young 0 0 b.done.slots
      young = record {
        streams = all-last YoungStream (s.streams ++ WritableStream wt ∷ []) (ReadableStream rt)
            (all-last YoungStream s.streams (WritableStream wt) d.young.streams (record { state = refl; queue = refl; flight = refl; mark = refl; size = refl }))
            (record { state = refl; queue = refl; request = refl });
        pipes = d.young.pipes;
        signals = d.young.signals;
        count = d.young.count;
        piped = d.young.piped;
        quiet = λ w. fresh-unheard w (fresh (fresh (fresh s.promises))) ∙ (fresh-unheard w (fresh (fresh s.promises)) ∙ (fresh-unheard w (fresh s.promises) ∙ (fresh-unheard w s.promises ∙ d.young.quiet w)));
        unposted = λ q. fresh-unposted q (fresh (fresh (fresh s.promises))) ∙ (fresh-unposted q (fresh (fresh s.promises)) ∙ (fresh-unposted q (fresh s.promises) ∙ (fresh-unposted q s.promises ∙ d.young.unposted q)));
      }

  streams-are : length z.streams ≡ 2 * suc m + 1
  streams-are =
      let l = d.streams in
      let a = length-last (s.streams ++ WritableStream wt ∷ []) (ReadableStream rt) in
      let e = length-last s.streams (WritableStream wt) in
      let r : length (performed b.done).streams ≡ length b.done.slots.streams = length-same stream_shape (performed b.done).streams b.done.slots.streams (performed-streams b.done) in
      rw is (omega (arith, r, a, e, l))

  transforms-are : length z.transforms ≡ suc n.transform
  transforms-are =
      let l = d.transforms in
      let a = length-last s.transforms (transform.set_up HostKind jw jr (next_id s.promises)) in
      let r : length (performed b.done).transforms ≡ length b.done.slots.transforms = length-same transform_shape (performed b.done).transforms b.done.slots.transforms (performed-transforms b.done) in
      rw is (omega (arith, r, a, l))

  ports-are : length z.ports ≡ n.port
  ports-are =
      let l = d.ports in
      let r : length (performed b.done).ports ≡ length b.done.slots.ports = length-same port_shape (performed b.done).ports b.done.slots.ports (performed-ports b.done) in
      rw is (omega (arith, r, l))

  made-new : IsFree (source_of m) jw z × Opened jr z
  made-new = opened-transform (source_of m) s 1 0 Now d.opened room

  gives-new : giver_at (source_of (suc m)) z ≡ OfHalf (transform_of n.transform)
  gives-new = subst (λ (i : StreamId). giver_at i z ≡ OfHalf (transform_of n.transform)) jr-is (new-gives ∙ ap OfHalf me-is)

  hears-new : ear_at (dest_of m) z ≡ OfTransform (transform_of n.transform) (source_of (suc m))
  hears-new =
      subst (λ (j : StreamId). ear_at j z ≡ OfTransform (transform_of n.transform) (source_of (suc m))) jw-is
      (new-hears ∙ (ap (λ (t : TransformId). OfTransform t jr) me-is ∙ ap (λ (r : StreamId). OfTransform (transform_of n.transform) r) jr-is))

  there : (k : ℕ) → k ≤ m → has_source (source_of k) s ≡ true
  there k l = split (λ (q : ℕ). has_source (source_of q) s ≡ true) m k l d.opened.there (λ less. (d.free k less).source)

  pub half-stage : Half g h (after_stage n) z
  half-stage = record {
    opened = subst (λ (i : StreamId). Opened i z) jr-is made-new.1;
    streams = streams-are;
    transforms = transforms-are;
    ports = ports-are;
    free = λ k l. split (λ (q : ℕ). IsFree (source_of q) (dest_of q) z) m k (omega (arith, l)) (subst (λ (j : StreamId). IsFree (source_of m) j z) jw-is made-new.0) (λ less. free-called (source_of k) (dest_of k) s c (d.free k less) refl);
    gives = λ k l. split (λ (q : ℕ). giver_at (source_of q) z ≡ g q) (suc m) k l (gives-new ∙ sym gives) (λ less. let f : k ≤ m = omega (arith, less) in giver-stays (source_of k) (Called c ∷ []) s (there k f) ∙ d.gives k f);
    hears = λ k l. split (λ (q : ℕ). ear_at (dest_of q) z ≡ h q) m k (omega (arith, l)) (hears-new ∙ sym hears)
        (λ less. ear-stays (dest_of k) (Called c ∷ []) s (d.free k less).sink (d.free k less).sink_owner ∙ d.hears k less);
    young = new-young;
  }
