-- The reads of a readable stream as transform streams and tees go on: what is done to the readable half, or to a branch or a source, stands
-- before no steps that give a chunk where it may take.
use Rattle.std.proofs.Common.{◌≡◌, ℕ, Bool, true, false, is_some, List, [], ◌∷◌, ◌++◌, Some, slice_get, refl, sym, ap, arith, subst}
use Rattle.ws_value.specs.declared.ids.StreamId.{StreamId}
use Rattle.ws_value.specs.declared.ids.TeeId.{TeeId}
use Rattle.ws_steps.specs.declared.effects.Effect.{Effect}
use Rattle.ws_steps.specs.declared.effects.Effect.TheVariants.{Readable as OnReadable, Pipe as OnPipe, Signal as OnSignal, Transform as OnTransform, Tee as OnTee, Port as OnPort, ChunkSteps, CloseSteps, ErrorSteps}
use Rattle.ws_steps.specs.declared.readable.ReadableOperation.TheVariants.{Read, Cancel, Enqueue, Close, Error}
use Rattle.ws_steps.specs.declared.tee.TeeOperation.{TeeOperation}
use Rattle.ws_steps.specs.declared.transform.TransformId.{TransformId}
use Rattle.ws_steps.specs.declared.transform.TransformOperation.{TransformOperation}
use Rattle.ws_steps.specs.Histories.{is_same}
use Rattle.ws_steps.specs.Readable as readable
use Rattle.ws_steps.specs.Tee as tee
use Rattle.ws_steps.specs.Transform as transform
use Rattle.ws_steps.specs.Slots.{Slots, found, halves_at, readable_at, clones_at}
use Rattle.ws_laws.proofs.Lists.{Each, each-map}
use Rattle.ws_laws.proofs.OnReadable.{Holders, holders, with_tee, transformed, teed, all_seen, ported}
use Rattle.ws_laws.proofs.Order.{IsQuiet, Orderly, is_from, is_resting, tee_takes, behind-active, behind-tee, tee-quiet, Behind, is_going, port-quiet}
use Rattle.ws_laws.proofs.ReadableDoes.{is_taking}
use Rattle.ws_laws.proofs.Tables.{same_id}
use Rattle.ws_laws.proofs.TeeDoes.{TeeCauses, tee-causes}
use Rattle.ws_laws.proofs.TransformDoes.{TransformCauses, transform-causes}
use Rattle.ws_promise_laws.proofs.Tokens.{one_if}
use Rattle.ws_read_laws.proofs.First.{InitFirst}
use Rattle.ws_read_laws.proofs.Goods.{calm_given, no_inits, reader_there, Good, good_pending, good_clear}
use Rattle.ws_read_laws.proofs.Holding.{teeing-set, teeing-there, owners}
use Rattle.ws_read_laws.proofs.Marks.{Mark, marks, pending, given_of}
use Rattle.ws_read_laws.proofs.Told.{Told, Held, Unmade}
use Rattle.ws_value.specs.declared.ids.PortId.{PortId}
use Rattle.ws_steps.specs.declared.port.PortOperation.{PortOperation}
use Rattle.ws_steps.specs.Cross as cross
use Rattle.ws_laws.proofs.PortDoes.{PortCauses, port-causes}

each-both : (P Q R : Effect → Type 0) → ((e : Effect) → P e → Q e → R e) → (es : List Effect) → Each P es → Each Q es → Each R es
each-both P Q R f [] a b = tt
each-both P Q R f (e ∷ es) a b = (f e a.0 b.0, each-both P Q R f es a.1 b.1)

module _ (i : StreamId) where
  -- good effects are caused, and whoever has the stream still has it
  caused-held : (h : Told) (o z : Holders) (r : readable.Slots) (es : List Effect) (ms : List Mark) → owners i z ≡ owners i o → Each (Good i (owners i o) (is_some r.reader) ms) es
      → Held i h o r ms → Held i h z r (all_seen (marks i) es ++ ms)
  caused-held h o z r es ms same g k =
      let p = good_pending i (owners i o) (is_some r.reader) ms es g in
      record {
        line = k.line;
        given = k.given;
        covers = λ d is. rw p (k.covers d is);
        chunks = rw p k.chunks;
        clear = rw same (good_clear i (owners i o) (is_some r.reader) ms es g k.clear);
      }

  -- what is done to the readable half
  transform-good : (n : ℕ) (locked : Bool) (ms : List Mark) → given_of (pending ms) ≡ [] → (t : TransformId) (w r : StreamId) (e : Effect) → TransformCauses t w r e → Good i n locked ms e
  transform-good n locked ms none t w r (OnReadable j (Enqueue v)) c = λ same. record { finds = λ alone. tt; stays = refl; gives = λ e. none }
  transform-good n locked ms none t w r (OnReadable j Close) c = λ same. record { finds = λ alone. tt; stays = refl; gives = λ e. none }
  transform-good n locked ms none t w r (OnReadable j (Error e)) c = λ same. record { finds = λ alone. tt; stays = refl; gives = λ e. none }
  transform-good n locked ms none t w r (OnReadable j operation) c = absurd c
  transform-good n locked ms none t w r (OnPipe q operation) c = absurd c
  transform-good n locked ms none t w r (OnSignal a operation) c = absurd c
  transform-good n locked ms none t w r (ChunkSteps j request v) c = absurd c
  transform-good n locked ms none t w r (CloseSteps j request) c = absurd c
  transform-good n locked ms none t w r (ErrorSteps j request e) c = absurd c
  transform-good n locked ms none t w r _ c = tt

  -- one that rests does nothing to it
  resting : (t : TransformId) (operation : TransformOperation) (s : Slots) (x : transform.Slots) → is_resting operation ≡ true → all_seen (marks i) (transformed t operation s x).out.effects ≡ []
  unfolding transform.enqueued transform.unblock transform.source_pull transform.sink_close transform.sink_abort transform.source_cancel transform.set_backpressure
  resting t operation s x n = grind arith

  pub transform-held : (t : TransformId) (operation : TransformOperation) (s : Slots) (x : transform.Slots) (es : List Effect) (rests : Bool) → rests ≡ is_resting operation
      → Orderly i s (OnTransform t operation ∷ es) → (h : Told) (o : Holders) (r : readable.Slots) → Held i h o r (all_seen (marks i) es)
      → Held i h o r (all_seen (marks i) (transformed t operation s x).out.effects ++ all_seen (marks i) es)
  transform-held t operation s x es true e order h o r k = rw (resting t operation s x (sym e)) k
  transform-held t operation s x es false e order h o r k =
      let a : transform.Acts = record { slots = x; out = found s } in
      let none = calm_given i es (behind-active i s t operation es (sym e) order.ordered) in
      let causes = (transform-causes t (halves_at x s) operation a tt).1.1.1 in
      let ms : List Mark = all_seen (marks i) es in
      caused-held h o o r (transformed t operation s x).out.effects ms refl
      (each-map (TransformCauses t x.writable x.readable) (Good i (owners i o) (is_some r.reader) ms) (transform-good (owners i o) (is_some r.reader) ms none t x.writable x.readable)
      (transformed t operation s x).out.effects causes) k

  -- what is done to a branch of a tee, or to its source, which has a reader

  -- it may take only where no steps stand behind that give a chunk
  abbrev Takes : List Mark → Effect → Type 0
  Takes ms (OnReadable j operation) = is_same i j ≡ true → is_taking operation ≡ true → given_of (pending ms) ≡ []
  Takes ms _ = Unit {0}

  tee-good : (n : ℕ) (locked : Bool) (ms : List Mark) (t : TeeId) (source first second : StreamId) → (is_same i source ≡ true → locked ≡ true) → (e : Effect) → TeeCauses t source first second e → Takes ms e
      → Good i n locked ms e
  tee-good n locked ms t source first second there (OnReadable j (Read request)) c g =
      λ same. record { finds = λ alone. there (rw c.0 at same); stays = refl; gives = g same }
  tee-good n locked ms t source first second there (OnReadable j (Cancel r p)) c g = λ same. record { finds = λ alone. tt; stays = refl; gives = g same }
  tee-good n locked ms t source first second there (OnReadable j (Enqueue v)) c g = λ same. record { finds = λ alone. tt; stays = refl; gives = g same }
  tee-good n locked ms t source first second there (OnReadable j Close) c g = λ same. record { finds = λ alone. tt; stays = refl; gives = g same }
  tee-good n locked ms t source first second there (OnReadable j (Error e)) c g = λ same. record { finds = λ alone. tt; stays = refl; gives = g same }
  tee-good n locked ms t source first second there (OnReadable j operation) c g = absurd c
  tee-good n locked ms t source first second there (OnPipe q operation) c g = absurd c
  tee-good n locked ms t source first second there (OnSignal a operation) c g = absurd c
  tee-good n locked ms t source first second there (ChunkSteps j request v) c g = absurd c
  tee-good n locked ms t source first second there (CloseSteps j request) c g = absurd c
  tee-good n locked ms t source first second there (ErrorSteps j request e) c g = absurd c
  tee-good n locked ms t source first second there _ c g = tt

  from-self : (j : StreamId) → is_same i j ≡ true → is_from i j ≡ true
  from-self j same = rw (← same_id i j same) (grind arith)

  quiet-takes : (s : Slots) (ms : List Mark) (e : Effect) → IsQuiet i s e → Takes ms e
  quiet-takes s ms (OnReadable j operation) q = λ same takes. let from = from-self j same in grind (arith, q, takes, from)
  quiet-takes s ms _ q = tt

  calm-takes : (ms : List Mark) → given_of (pending ms) ≡ [] → (e : Effect) → Takes ms e
  calm-takes ms none (OnReadable j operation) = λ same takes. none
  calm-takes ms none _ = tt

  all-take : (ms : List Mark) → given_of (pending ms) ≡ [] → (es : List Effect) → Each (Takes ms) es
  all-take ms none [] = tt
  all-take ms none (e ∷ es) = (calm-takes ms none e, all-take ms none es)

  tee-takes : (t : TeeId) (operation : TeeOperation) (s : Slots) (x : tee.Slots) (es : List Effect) (takes : Bool) → takes ≡ tee_takes i s t operation → Orderly i s (OnTee t operation ∷ es) → slice_get s.tees t.0 ≡ Some x
      → Each (Takes (all_seen (marks i) es)) (teed t operation s x).out.effects
  tee-takes t operation s x es true e order is =
      all-take (all_seen (marks i) es) (calm_given i es (behind-tee i s t operation es (sym e) order.ordered)) (teed t operation s x).out.effects
  tee-takes t operation s x es false e order is =
      let quiet : Each (IsQuiet i s) (teed t operation s x).out.effects = rw is at (tee-quiet i t operation s (sym e)) in
      each-map (IsQuiet i s) (Takes (all_seen (marks i) es)) (quiet-takes s (all_seen (marks i) es)) (teed t operation s x).out.effects quiet

  pub tee-held : (t : TeeId) (operation : TeeOperation) (s : Slots) (x : tee.Slots) (es : List Effect) → Orderly i s (OnTee t operation ∷ es) → InitFirst (OnTee t operation ∷ es) → slice_get s.tees t.0 ≡ Some x
      → (h : Told) → Held i h (holders s) (readable_at i s) (all_seen (marks i) es)
      → let b : tee.Acts = teed t operation s x in Held i h (with_tee t b.slots s) (readable_at i s) (all_seen (marks i) b.out.effects ++ all_seen (marks i) es)
  tee-held t operation s x es order inits is h k =
      let a : tee.Acts = record { slots = x; out = found s } in
      let b : tee.Acts = teed t operation s x in
      let c = tee-causes t operation a in
      let ms : List Mark = all_seen (marks i) es in
      let n : ℕ = owners i (holders s) in
      let locked : Bool = is_some (readable_at i s).reader in
      let same = teeing-set i t.0 s.tees x b.slots is c.same.source in
      let most = teeing-there i t.0 s.tees x is in
      let there : is_same i x.source ≡ true → locked ≡ true =
      λ e. reader_there i n locked ms (no_inits i es inits) (let one : one_if (is_same i x.source) ≡ 1 = ap one_if e in omega (arith, most, one)) k.clear in
      caused-held h (holders s) (with_tee t b.slots s) (readable_at i s) b.out.effects ms (omega (arith, same))
      (each-both (TeeCauses t x.source x.branch1 x.branch2) (Takes ms) (Good i n locked ms) (tee-good n locked ms t x.source x.branch1 x.branch2 there) b.out.effects (c.effects tt)
      (tee-takes t operation s x es (tee_takes i s t operation) refl order is)) k

  -- and so to the stream at the end of a port

  port-good : (n : ℕ) (locked : Bool) (ms : List Mark) (c : PortId) (stream : StreamId) (e : Effect) → PortCauses c stream e → Takes ms e → Good i n locked ms e
  port-good n locked ms c stream (OnReadable j (Enqueue v)) k g = λ same. record { finds = λ alone. tt; stays = refl; gives = g same }
  port-good n locked ms c stream (OnReadable j Close) k g = λ same. record { finds = λ alone. tt; stays = refl; gives = g same }
  port-good n locked ms c stream (OnReadable j (Error e)) k g = λ same. record { finds = λ alone. tt; stays = refl; gives = g same }
  port-good n locked ms c stream (OnReadable j operation) k g = absurd k
  port-good n locked ms c stream (OnPipe q operation) k g = absurd k
  port-good n locked ms c stream (OnSignal a operation) k g = absurd k
  port-good n locked ms c stream (ChunkSteps j request v) k g = absurd k
  port-good n locked ms c stream (CloseSteps j request) k g = absurd k
  port-good n locked ms c stream (ErrorSteps j request e) k g = absurd k
  port-good n locked ms c stream _ k g = tt

  port-takes : (c : PortId) (operation : PortOperation) (s : Slots) (x : cross.Slots) (es : List Effect) (goes : Bool) → goes ≡ is_going operation → Orderly i s (OnPort c operation ∷ es)
      → Each (Takes (all_seen (marks i) es)) (ported c operation s x).out.effects
  port-takes c operation s x es true e order = all-take (all_seen (marks i) es) (calm_given i es (subst (λ b. Behind i b es) (sym e) order.ordered.0)) (ported c operation s x).out.effects
  port-takes c operation s x es false e order =
      each-map (IsQuiet i s) (Takes (all_seen (marks i) es)) (quiet-takes s (all_seen (marks i) es)) (ported c operation s x).out.effects (port-quiet i s c operation s (Some x) (sym e))

  pub port-held : (c : PortId) (operation : PortOperation) (s : Slots) (x : cross.Slots) (es : List Effect) → Orderly i s (OnPort c operation ∷ es)
      → (h : Told) (o : Holders) (r : readable.Slots) → Held i h o r (all_seen (marks i) es) → Held i h o r (all_seen (marks i) (ported c operation s x).out.effects ++ all_seen (marks i) es)
  port-held c operation s x es order h o r k =
      let ms : List Mark = all_seen (marks i) es in
      caused-held h o o r (ported c operation s x).out.effects ms refl
      (each-both (PortCauses c x.stream) (Takes ms) (Good i (owners i o) (is_some r.reader) ms) (port-good (owners i o) (is_some r.reader) ms c x.stream) (ported c operation s x).out.effects
      (port-causes c (clones_at x s) operation (record { slots = x; out = found s }) tt).1.1 (port-takes c operation s x es (is_going operation) refl order)) k

  pub tee-unmade : (t : TeeId) (operation : TeeOperation) (s : Slots) (x : tee.Slots) → slice_get s.tees t.0 ≡ Some x → (h : Told) → Unmade i h (holders s) → Unmade i h (with_tee t (teed t operation s x).slots s)
  tee-unmade t operation s x is h u =
      let c = tee-causes t operation (record { slots = x; out = found s }) in
      let same = teeing-set i t.0 s.tees x (teed t operation s x).slots is c.same.source in
      record { free = let n = u.free in omega (arith, n, same); unasked = u.unasked }
