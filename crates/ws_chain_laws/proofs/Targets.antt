-- The last stream of a segment is made: a sink of the host's own, or the writable end of a port.
use Rattle.std.proofs.Common.{◌≡◌, ℕ, suc, ◌+◌, ◌*◌, ◌≤◌, ◌<◌, true, nat_lt, [], ◌∷◌, length, refl, sym, ap, subst, ◌∙◌, arith, lt-ltb}
use Rattle.ws_value.specs.declared.ids.StreamId.{StreamId}
use Rattle.ws_steps.specs.declared.calls.Call.{Call}
use Rattle.ws_steps.specs.declared.calls.StartBy.TheVariants.{Now}
use Rattle.ws_steps.specs.declared.effects.Owner.{Owner}
use Rattle.ws_steps.specs.declared.effects.Owner.TheVariants.{Host, EndOf}
use Rattle.ws_steps.specs.declared.port.Side.TheVariants.{Writable as WritableSide}
use Rattle.ws_steps.specs.declared.readable.SizeBy.TheVariants.{Count}
use Rattle.ws_steps.specs.Begun.{Begun}
use Rattle.ws_steps.specs.Calls.{begin}
use Rattle.ws_steps.specs.MakingCalls as making_calls
use Rattle.ws_steps.specs.PipeCalls as pipe_calls
use Rattle.ws_steps.specs.Run.{Called, after_call}
use Rattle.ws_steps.specs.Slots.{Slots, WritableStream, most_streams, owner_at, has_source}
use Rattle.ws_steps.specs.Writable as writable
use Rattle.ws_laws.proofs.Lists.{Each}
use Rattle.ws_link_laws.specs.Link.{Ear, Giver, OfPort, ear_by, ear_at, leaves}
use Rattle.ws_link_laws.specs.Sound.{IsFree}
use Rattle.ws_link_laws.proofs.Free.{free-called}
use Rattle.ws_link_laws.proofs.Owners.{giver-stays, ear-stays}
use Rattle.ws_link_laws.proofs.Pipelines.{Opened, opened-sink}
use Rattle.ws_link_laws.proofs.Unheard.{fresh-unheard}
use Rattle.ws_wire_laws.specs.Segments.{Next, Target, ToSink, ToPort, heard_by, after_target}
use Rattle.ws_chain_laws.specs.Chain.{source_of, dest_of}
use Rattle.ws_chain_laws.specs.Opening.{sink_call}
use Rattle.ws_chain_laws.proofs.Lists.{all-last, length-last, split}
use Rattle.ws_chain_laws.proofs.Outlets.{opened-outlet}
use Rattle.ws_chain_laws.proofs.Pairs.{none-of, Pairs, Half}
use Rattle.ws_chain_laws.proofs.Sources.{Makes, made-streams, made-transforms, made-ports, made-owner, made-locks, made-tees, made-young}
use Rattle.ws_chain_laws.proofs.Young.{YoungStream, Young, Mild, fresh-unposted}

abbrev owner_of_target : Target → Slots → Owner
owner_of_target ToSink s = Host
owner_of_target ToPort s = EndOf (record { 0 = length s.ports })

abbrev target_stream : Target → Slots → writable.Slots
target_stream target s = writable.set_up (owner_of_target target s) 1 Count

abbrev target_begun : Target → Slots → Begun
target_begun ToSink s = making_calls.make_writable 1 Count Now (record { 0 = length s.streams }) s
target_begun ToPort s = pipe_calls.open_end WritableSide (record { 0 = length s.streams }) s

target-makes : (target : Target) (s : Slots) → nat_lt (length s.streams) most_streams ≡ true → Makes (sink_call target) (target_begun target s) (WritableStream (target_stream target s)) s
unfolding begin
target-makes ToSink s room = record { is = rw room refl; streams = refl; locks = refl; pipes = refl; tees = refl; transforms = refl; reply = λ z. refl }
target-makes ToPort s room = record { is = rw room refl; streams = refl; locks = refl; pipes = refl; tees = refl; transforms = refl; reply = λ z. refl }

target-young : (target : Target) (s : Slots) → Young 0 0 s → Young 0 0 (target_begun target s).done.slots
target-young ToSink s y = record {
  streams = all-last YoungStream s.streams (WritableStream (target_stream ToSink s)) y.streams (record { state = refl; queue = refl; flight = refl; mark = refl; size = refl });
  pipes = y.pipes;
  signals = y.signals;
  count = y.count;
  piped = y.piped;
  quiet = y.quiet;
  unposted = y.unposted;
}
target-young ToPort s y = record {
  streams = all-last YoungStream s.streams (WritableStream (target_stream ToPort s)) y.streams (record { state = refl; queue = refl; flight = refl; mark = refl; size = refl });
  pipes = y.pipes;
  signals = y.signals;
  count = y.count;
  piped = y.piped;
  quiet = λ w. fresh-unheard w s.promises ∙ y.quiet w;
  unposted = λ q. fresh-unposted q s.promises ∙ y.unposted q;
}

target-mild : (target : Target) (s : Slots) → Each Mild (target_begun target s).done.caused
target-mild ToSink s = (tt, tt)
target-mild ToPort s = (tt, tt)

target-leaves : (target : Target) (i j : StreamId) → leaves i j (sink_call target) ≡ true
target-leaves ToSink i j = refl
target-leaves ToPort i j = refl

target-free : (target : Target) (i : StreamId) (s : Slots) → Opened i s → nat_lt (length s.streams) most_streams ≡ true → IsFree i (record { 0 = length s.streams }) (after_call (sink_call target) s)
target-free ToSink i s o room = opened-sink i s 1 Count Now o room
target-free ToPort i s o room = opened-outlet i s o room

target-hears : (target : Target) (n : Next) (s z : Slots) → length s.ports ≡ n.port → ear_by (dest_of n.link) z (owner_of_target target s) ≡ heard_by target n
target-hears ToSink n s z e = refl
target-hears ToPort n s z e = ap (λ (q : ℕ). OfPort (record { 0 = q })) e

pub target-link : (target : Target) (n : Next) → (after_target target n).link ≡ suc n.link
target-link ToSink n = refl
target-link ToPort n = refl

target-transform : (target : Target) (n : Next) → (after_target target n).transform ≡ n.transform
target-transform ToSink n = refl
target-transform ToPort n = refl

target-ports : (target : Target) (n : Next) (s : Slots) → length s.ports ≡ n.port → length (target_begun target s).done.slots.ports ≡ (after_target target n).port
target-ports ToSink n s e = e
target-ports ToPort n s e = length-last s.ports _ ∙ (let f = e in omega (arith, f))

module _ (g : ℕ → Giver) (h : ℕ → Ear) (target : Target) (n : Next) (s : Slots) (d : Half g h n s) (few : 2 * n.link + 1 < most_streams) (hears : h n.link ≡ heard_by target n) where
  abbrev call : Call
  call = sink_call target

  abbrev z : Slots
  z = after_call call s

  abbrev j : StreamId
  j = record { 0 = length s.streams }

  room : nat_lt (length s.streams) most_streams ≡ true
  room = let l = d.streams in lt-ltb (length s.streams) most_streams (omega (arith, l, few))

  makes : Makes call (target_begun target s) (WritableStream (target_stream target s)) s
  makes = target-makes target s room

  young : Young 0 0 z
  young = made-young call (target_begun target s) (WritableStream (target_stream target s)) s makes (target-young target s d.young) (target-mild target s)

  at : j ≡ dest_of n.link
  at = ap (λ (q : ℕ). record { 0 = q }) d.streams

  own : owner_at (dest_of n.link) z ≡ owner_of_target target s
  own = subst (λ (i : StreamId). owner_at i z ≡ owner_of_target target s) at (made-owner call (target_begun target s) (WritableStream (target_stream target s)) s makes)

  ear : ear_at (dest_of n.link) z ≡ h n.link
  ear = ap (λ (o : Owner). ear_by (dest_of n.link) z o) own ∙ (target-hears target n s z d.ports ∙ sym hears)

  there : (k : ℕ) → k ≤ n.link → has_source (source_of k) s ≡ true
  there k l = split (λ (q : ℕ). has_source (source_of q) s ≡ true) n.link k l d.opened.there (λ less. (d.free k less).source)

  pub pairs-target : Pairs g h (after_target target n) z
  pairs-target =
      let l = target-link target n in
      let t = target-transform target n in
      let q = target-ports target n s d.ports in
      let a = made-streams call (target_begun target s) (WritableStream (target_stream target s)) s makes in
      let b = made-transforms call (target_begun target s) (WritableStream (target_stream target s)) s makes in
      let c = made-ports call (target_begun target s) (WritableStream (target_stream target s)) s makes in
      let e = d.streams in
      let f = d.transforms in
      record {
        streams = omega (arith, a, e, l);
        transforms = omega (arith, b, f, t);
        ports = c ∙ q;
        free = λ k below. split (λ (m : ℕ). IsFree (source_of m) (dest_of m) z) n.link k (omega (arith, below, l)) (subst (λ (i : StreamId). IsFree (source_of n.link) i z) at (target-free target (source_of n.link) s d.opened room))
            (λ less. free-called (source_of k) (dest_of k) s call (d.free k less) (target-leaves target (source_of k) (dest_of k)));
        gives = λ k below. let less : k ≤ n.link = omega (arith, below, l) in giver-stays (source_of k) (Called call ∷ []) s (there k less) ∙ d.gives k less;
        hears = λ k below. split (λ (m : ℕ). ear_at (dest_of m) z ≡ h m) n.link k (omega (arith, below, l)) ear (λ less. ear-stays (dest_of k) (Called call ∷ []) s (d.free k less).sink (d.free k less).sink_owner ∙ d.hears k less);
        untaken = record {
          locks = made-locks call (target_begun target s) (WritableStream (target_stream target s)) s makes d.opened.locks;
          pipes = none-of z.pipes young.piped;
          tees = made-tees call (target_begun target s) (WritableStream (target_stream target s)) s makes d.opened.tees;
        };
        young = young;
      }
