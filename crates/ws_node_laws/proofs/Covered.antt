-- What the readable end of a port asks for over any run that leaves its link alone.
use Rattle.std.proofs.Common.{◌≡◌, ℕ, zero, suc, ◌+◌, ◌≤◌, Bool, true, false, not, if◌then◌else◌, List, [], ◌∷◌, ◌++◌, length, map, Option, Some, None, slice_get, refl, sym, ap, subst, ◌∙◌, arith}
use Rattle.ws_value.specs.declared.ids.{PipeId.{PipeId}, PortId.{PortId}, PromiseId.{PromiseId}, StreamId.{StreamId}}
use Rattle.ws_value.specs.declared.value.Message.{Message}
use Rattle.ws_value.specs.declared.value.Message.TheVariants.{Pull as PullMessage, Chunk as ChunkMessage, Close as CloseMessage, Error as ErrorMessage}
use Rattle.ws_steps.specs.declared.byte.ByteOperation.{ByteOperation}
use Rattle.ws_steps.specs.declared.calls.Call.{Call}
use Rattle.ws_steps.specs.declared.calls.Call.TheVariants.{Deliver}
use Rattle.ws_steps.specs.declared.calls.Event.{Event}
use Rattle.ws_steps.specs.declared.calls.Reply.{Reply}
use Rattle.ws_steps.specs.declared.calls.Reply.TheVariants.{Promise}
use Rattle.ws_steps.specs.declared.effects.Effect.{Effect}
use Rattle.ws_steps.specs.declared.effects.Effect.TheVariants.{Readable as OnReadable, Byte, Port as OnPort, PullAlgorithm}
use Rattle.ws_steps.specs.declared.effects.Owner.TheVariants.{EndOf}
use Rattle.ws_steps.specs.declared.port.PortOperation.{PortOperation}
use Rattle.ws_steps.specs.declared.port.PortOperation.TheVariants as ports
use Rattle.ws_steps.specs.declared.port.Side.{Side}
use Rattle.ws_steps.specs.declared.port.Side.TheVariants.{Readable as ReadableSide, Writable as WritableSide}
use Rattle.ws_steps.specs.declared.promises.Job.{Job}
use Rattle.ws_steps.specs.declared.readable.ReadRequest.{ReadRequest}
use Rattle.ws_steps.specs.declared.readable.ReadableOperation.{ReadableOperation}
use Rattle.ws_steps.specs.declared.readable.ReadableOperation.TheVariants as reads
use Rattle.ws_steps.specs.Begun.{Begun}
use Rattle.ws_steps.specs.Begun as replying
use Rattle.ws_steps.specs.Calls.{begin, named}
use Rattle.ws_steps.specs.Cross as cross
use Rattle.ws_steps.specs.Histories.{is_same, taken_event, run_events}
use Rattle.ws_steps.specs.Histories as histories
use Rattle.ws_steps.specs.Jobs.{job_effects, job_begun, begin_job}
use Rattle.ws_steps.specs.Operations.{readable_operation, port_operation}
use Rattle.ws_steps.specs.PortHistory.{is_same_port, posted_in, chunk_in}
use Rattle.ws_steps.specs.Promises.{Table, watch, next_job, after_next_job}
use Rattle.ws_steps.specs.Run.{Entry, Called, Worked, Heard, step, run, older, after_call, after_job, later_events}
use Rattle.ws_steps.specs.Slots.{Slots, Stream, ReadableStream, ByteStream, WritableStream, Done, with_promises, has_byte, has_port, readable_at, source_at, as_readable, as_source, clones_at, is_byte_stream, owner_of}
use Rattle.ws_steps.specs.Turns.{row, performed}
use Rattle.ws_laws.proofs.Apart.{row-streams}
use Rattle.ws_laws.proofs.Begin.{begin-makes}
use Rattle.ws_laws.proofs.Causes.{row-causes}
use Rattle.ws_laws.proofs.EachCall.{each_call}
use Rattle.ws_laws.proofs.Ended.{Ended}
use Rattle.ws_laws.proofs.Halves.{Halved}
use Rattle.ws_laws.proofs.Lists.{Each, each-append, each-map}
use Rattle.ws_laws.proofs.Shapes.{ReadableOf, stream_shape, stream_shapes, map-there, row-stream_shapes}
use Rattle.ws_laws.proofs.Tables.{either, is_same-refl, same_id, readable_acts}
use Rattle.ws_laws.proofs.Truth.{and_left, and_right, false_true}
use Rattle.ws_laws.proofs.Weights.{weigh-fresh, weigh-watch}
use Rattle.ws_room_laws.proofs.Turns.{performed-kept}
use Rattle.ws_writable_laws.proofs.Shape.{of_reaction, weight}
use Rattle.ws_pipe_laws.specs.pipes.PipeReads.{is_of, in_requests, in_stream, in_streams, one_if}
use Rattle.ws_pipe_laws.proofs.pipes.PassingRuns.{reads_now}
use Rattle.ws_pipe_laws.proofs.pipes.Reading.{of_effect}
use Rattle.ws_pipe_laws.proofs.writes.Counts.{same_weight}
use Rattle.ws_link_laws.specs.Laws.{entry_leaves, all_leave}
use Rattle.ws_link_laws.specs.Link.{OfEnd, giver_by, giver_at, leaves}
use Rattle.ws_link_laws.specs.Sound.{Owned, IsLink}
use Rattle.ws_link_laws.proofs.Outer.{IsOuter}
use Rattle.ws_link_laws.proofs.Standing.{Sound}
use Rattle.ws_link_laws.proofs.Steps as steps
use Rattle.ws_link_laws.proofs.Steps.{stream_at, source_there, grown-source, link-sound}
use Rattle.ws_link_laws.proofs.Turns.{row-turned}
use Rattle.ws_link_laws.proofs.Keeps.{entry-keeps}
use Rattle.ws_tee_port_laws.proofs.ports.Once.{NotMine, row-leaves, row-mine, no-mine, by-port}
use Rattle.ws_tee_port_laws.proofs.ports.Posting.{total, total-append, is_same_port-refl, given, given_first, port_acts}
use Rattle.ws_tee_port_laws.proofs.ports.Pulls.{asked_of, settles_of, pulled, pulled-append, row-same, own-slots, own-caused, row-pulled, bytes-idle}
use Rattle.ws_tee_port_laws.proofs.ports.Reading.{is_idle, pulls_of, pulls}
use Rattle.ws_tee_port_laws.proofs.ports.Told.{posted, posted-append, next-events, call-events, watch-posted}
use Rattle.ws_tee_port_laws.proofs.ports.Touching.{NoTouch, NoDelivery, NotHosts, row-untouched, call-untouched, job-untouched}
use Rattle.ws_node_laws.specs.Asks.{is_pull, pulls_in, may_ask}
use Rattle.ws_node_laws.specs.Covered.{starting, brought, entry_brought, run_brought, EachEndAsksInTurn}
use Rattle.ws_node_laws.proofs.Asks.{Good, IsCovered, lets, starts, operation-asks, one_most}
use Rattle.ws_node_laws.proofs.Started.{start_of, Fits, quiet-total, quiet-fits, row-counted, row-fits, row-free, job-fits, job-free, job-counted, NoReader, call-quiet, heard-weight}

-- lists of messages

pub pulls-append : (xs ys : List Message) → pulls_in (xs ++ ys) ≡ pulls_in xs + pulls_in ys
pulls-append [] ys = omega arith
pulls-append (x ∷ xs) ys = let h = pulls-append xs ys in omega (arith, h)

-- requests of one pipe

owned-length : (p : PipeId) (rs : List ReadRequest) → Owned p rs → length rs ≡ in_requests p rs
owned-length p [] o = refl
owned-length p (r ∷ rs) o = let h = owned-length p rs o.1 in let k = o.0 in omega (arith, h, k)

requests_there : (p : PipeId) (xs : List Stream) (n : ℕ) (x : Stream) → slice_get xs n ≡ Some x → in_stream p x ≤ in_streams p xs
requests_there p [] n x e = cc
requests_there p (z ∷ xs) zero x e = let is : z ≡ x = cc in let k = ap (in_stream p) is in omega (arith, k)
requests_there p (z ∷ xs) (suc n) x e = let h = requests_there p xs n x e in omega (arith, h)

none_left : (rs : List ReadRequest) → length rs ≤ 0 → rs ≡ []
none_left [] l = refl
none_left (r ∷ rs) l = absurd (omega (arith, l))

pub not_started : (b : Bool) (n m : ℕ) → n + (1 + m) ≤ one_if (not b) → b ≡ false
not_started true n m l = absurd (omega (arith, l))
not_started false n m l = refl

-- a readable stream of this shape

pub shaped : (c : PortId) (xs : List Stream) (n : ℕ) → slice_get (map stream_shape xs) n ≡ Some (ReadableOf (EndOf c)) → slice_get xs n ≡ Some (ReadableStream (as_readable (slice_get xs n)))
shaped c [] n e = cc
shaped c (ReadableStream r ∷ xs) zero e = refl
shaped c (ByteStream b ∷ xs) zero e = cc
shaped c (WritableStream w ∷ xs) zero e = cc
shaped c (x ∷ xs) (suc n) e = shaped c xs n e

module _ (c : PortId) (i : StreamId) where
  -- a chunk that is about to enter
  abbrev pub enters_of : Effect → ℕ
  enters_of (OnReadable j (reads.Enqueue v)) = one_if (is_same i j)
  enters_of (OnPort d (ports.Deliver m)) = if is_same_port c d then length (chunk_in m) else 0
  enters_of e = 0

  pub untouched-enters : (es : List Effect) → Each (NoTouch c i) es → total enters_of es ≡ 0
  untouched-enters [] k = refl
  untouched-enters (OnReadable j (reads.Enqueue v) ∷ es) k = let n = k.0 in let h = untouched-enters es k.1 in rw n (omega (arith, h))
  untouched-enters (OnPort d (ports.Deliver m) ∷ es) k = let n = k.0 in let h = untouched-enters es k.1 in rw n (omega (arith, h))
  untouched-enters (e ∷ es) k = let h = untouched-enters es k.1 in omega (arith, h)

  -- what was asked and isn't heard, what is about to be, what may be, and what comes
  abbrev pub cover : Slots → List Effect → ℕ
  cover s es = pulls_in (posted c s.promises) + (pulled c i es + (may_ask (readable_at i s) + total enters_of es))

  pub record Covers (n : ℕ) (s : Slots) (es : List Effect) : Type 0 where
    pub here : slice_get (stream_shapes s) i.0 ≡ Some (ReadableOf (EndOf c))
    pub good : Good (readable_at i s)
    pub count : weight (starting i) s.promises + total (start_of i) es ≤ one_if (not (readable_at i s).started)
    pub fits : Each (Fits i) es
    pub free : Each (NoReader i) es
    pub cover : cover s es ≤ n

  -- no effect counts more for the start than it stands for
  pub carried : (e : Effect) (s : Slots) → Fits i e → weight (starting i) (row e s).slots.promises + total (start_of i) (row e s).caused ≤ weight (starting i) s.promises + start_of i e
  carried (OnReadable j operation) s f = let h = row-counted i (OnReadable j operation) s f in omega (arith, h)
  carried e s f = row-counted i e s f

  module _ (j : StreamId) (p : PipeId) (n : ℕ) (s : Slots) (e : Effect) (es : List Effect) (so : Sound i j p s (e ∷ es)) (k : Covers n s (e ∷ es)) where
    abbrev z : Slots
    z = (row e s).slots

    abbrev cs : List Effect
    cs = (row e s).caused

    halved : Halved s
    halved = so.ahead.hosts.halved

    ended : Ended s
    ended = so.ahead.hosts.ended

    here-after : slice_get (stream_shapes z) i.0 ≡ Some (ReadableOf (EndOf c))
    here-after = rw (row-stream_shapes e s) k.here

    -- where the stream stays as it is
    moves : readable_at i z ≡ readable_at i s → pulls_in (posted c z.promises) + pulled c i cs ≤ pulls_in (posted c s.promises) + (pulls_of i e + asked_of c e) → total enters_of cs ≤ enters_of e → Covers n z (cs ++ es)
    moves same asks enters =
        let a = carried e s k.fits.0 in
        let b = total-append (start_of i) cs es in
        let d = pulled-append c i cs es in
        let f = total-append enters_of cs es in
        let g = k.count in
        let h = k.cover in
        record {
          here = here-after;
          good = rw same k.good;
          count = rw same (omega (arith, a, b, g));
          fits = each-append (Fits i) cs es (row-fits i e s k.fits.0) k.fits.1;
          free = each-append (NoReader i) cs es (row-free i e s) k.free.1;
          cover = rw same (omega (arith, asks, enters, d, f, h));
        }

    calm-pulled : settles_of i e ≡ false → readable_at i z ≡ readable_at i s → pulled c i cs ≤ pulls_of i e
    calm-pulled still same = let h = (row-pulled c i s ended k.here e still).bounded in let m = ap is_idle same in omega (arith, h, m)

    -- an effect that is no operation of the port, and none of the stream
    others : NotMine c e → NoDelivery c i s halved ended k.here e → settles_of i e ≡ false → readable_at i z ≡ readable_at i s → Covers n z (cs ++ es)
    others mine quiet still same =
        let a = calm-pulled still same in
        let b : pulls_in (posted c z.promises) ≡ pulls_in (posted c s.promises) = ap pulls_in (row-leaves c e s mine).0 in
        let d = untouched-enters cs (row-untouched c i s halved ended k.here e quiet) in
        moves same (omega (arith, a, b)) (omega (arith, d))

  -- requests

  few-requests : (j : StreamId) (p : PipeId) (s : Slots) (e : Effect) (es : List Effect) → slice_get (stream_shapes s) i.0 ≡ Some (ReadableOf (EndOf c)) → Sound i j p s (e ∷ es) → length (readable_at i s).requests + of_effect p e ≤ 1
  few-requests j p s e es here so =
      let at = shaped c s.streams i.0 here in
      let same : source_at i s ≡ readable_at i s = ap as_source at in
      let owned : Owned p (readable_at i s).requests = rw (← same) so.state.source_fits.owned in
      let a = owned-length p (readable_at i s).requests owned in
      let b = requests_there p s.streams i.0 (ReadableStream (readable_at i s)) at in
      let f = so.few in
      let m = one_most (reads_now (slice_get s.pipes p.0)) in
      omega (arith, a, b, f, m)

  -- an operation of the stream

  none_asked : (es : List Effect) → Each (λ e. asked_of c e ≡ 0) es → total (asked_of c) es ≡ 0
  none_asked [] k = refl
  none_asked (e ∷ es) k = let a = k.0 in let b = none_asked es k.1 in omega (arith, a, b)

  enters-own : (operation : ReadableOperation) → enters_of (OnReadable i operation) ≡ lets i operation
  enters-own operation = let h = is_same-refl i in grind (arith, h)

  pub starts-own : (o : _) → start_of i (OnReadable i (reads.StartSettled o)) ≡ 1
  starts-own o = let h = is_same-refl i in rw h refl

  covered-own : (j : StreamId) (p : PipeId) (n : ℕ) (operation : ReadableOperation) (s : Slots) (es : List Effect) → Sound i j p s (OnReadable i operation ∷ es) → Covers n s (OnReadable i operation ∷ es) → IsCovered i (readable_at i s) operation
  covered-own j p n (reads.InitializeReader closed) s es so k = let f = k.free.0 in let h = is_same-refl i in false_true (is_same i i) h f
  covered-own j p n (reads.Read r) s es so k =
      let f = few-requests j p s (OnReadable i (reads.Read r)) es k.here so in
      let one : is_of p r ≡ 1 = so.inner.0 (is_same-refl i) in
      none_left (readable_at i s).requests (omega (arith, f, one))
  covered-own j p n (reads.StartSettled o) s es so k = let w = k.count in let h = starts-own o in not_started (readable_at i s).started (weight (starting i) s.promises) (total (start_of i) es) (omega (arith, w, h))
  covered-own j p n operation s es so k = tt

  own-covers : (j : StreamId) (p : PipeId) (n : ℕ) (operation : ReadableOperation) (s : Slots) (es : List Effect) → Sound i j p s (OnReadable i operation ∷ es) → Covers n s (OnReadable i operation ∷ es)
      → Covers n (row (OnReadable i operation) s).slots ((row (OnReadable i operation) s).caused ++ es)
  own-covers j p n operation s es so k =
      let e : Effect = OnReadable i operation in
      let cs : List Effect = (row e s).caused in
      let halved : Halved s = so.ahead.hosts.halved in
      let ended : Ended s = so.ahead.hosts.ended in
      let f = few-requests j p s e es k.here so in
      let q = operation-asks i operation (readable_acts i s) k.good (omega (arith, f)) (covered-own j p n operation s es so k) in
      let slots = own-slots c i s ended k.here operation in
      let caused : total (pulls_of i) cs ≡ pulls i (readable_operation i operation (readable_acts i s)).out.effects = ap (total (pulls_of i)) (own-caused c i s ended k.here operation) in
      let asked = none_asked cs (row-causes (λ u. asked_of c u ≡ 0) e s (record { pull = refl; cancel = λ r d. refl; chunk = λ request v. refl; close = λ request. refl; error = λ request r. refl })) in
      let enters = untouched-enters cs (row-untouched c i s halved ended k.here e tt) in
      let told : pulls_in (posted c (row e s).slots.promises) ≡ pulls_in (posted c s.promises) = ap pulls_in (row-leaves c e s tt).0 in
      let due = q.due in
      let own = enters-own operation in
      let pa = pulled-append c i cs es in
      let ea = total-append enters_of cs es in
      let cover = k.cover in
      record {
        here = rw (row-stream_shapes e s) k.here;
        good = rw slots q.good;
        count = rw slots (counted q.started);
        fits = each-append (Fits i) cs es (row-fits i e s k.fits.0) k.fits.1;
        free = each-append (NoReader i) cs es (row-free i e s) k.free.1;
        cover = rw slots (omega (arith, caused, asked, enters, told, due, own, pa, ea, cover));
      }
    where
      ins : Effect
      ins = OnReadable i operation

      a : ℕ
      a = weight (starting i) (row ins s).slots.promises

      b : weight (starting i) (row ins s).slots.promises + total (start_of i) (row ins s).caused ≤ weight (starting i) s.promises
      b = let h = row-counted i ins s k.fits.0 in omega (arith, h)

      one_start : (o : ReadableOperation) → starts i o ≡ true → start_of i (OnReadable i o) ≡ 1
      one_start o e = let h = is_same-refl i in grind (arith, h, e)

      counted : {y : Bool} → y ≡ (if starts i operation then true else (readable_at i s).started) → weight (starting i) (row ins s).slots.promises + total (start_of i) ((row ins s).caused ++ es) ≤ one_if (not y)
      counted {y} f = by (starts i operation) refl f
        where
          by : (t : Bool) → t ≡ starts i operation → y ≡ (if t then true else (readable_at i s).started) → weight (starting i) (row ins s).slots.promises + total (start_of i) ((row ins s).caused ++ es) ≤ one_if (not y)
          by true g f =
              let w = k.count in
              let one = one_start operation (sym g) in
              let m = one_most (not (readable_at i s).started) in
              let t = total-append (start_of i) (row ins s).caused es in
              let h = b in
              rw f (omega (arith, w, one, m, t, h))
          by false g f = let w = k.count in let t = total-append (start_of i) (row ins s).caused es in let h = b in rw f (omega (arith, w, t, h))

  -- each effect

  abbrev After : (n : ℕ) (s : Slots) → Effect → List Effect → Type 0
  After n s e es = Covers n (row e s).slots ((row e s).caused ++ es)

  readable-covers : (j : StreamId) (p : PipeId) (n : ℕ) (k : StreamId) (operation : ReadableOperation) (s : Slots) (es : List Effect) → Sound i j p s (OnReadable k operation ∷ es) → Covers n s (OnReadable k operation ∷ es) → After n s (OnReadable k operation) es
  readable-covers j p n k operation s es so h = by (is_same i k) refl
    where
      by : (same : Bool) → same ≡ is_same i k → After n s (OnReadable k operation) es
      by false f = others j p n s (OnReadable k operation) es so h tt tt (rw (← f) refl) (row-same c i s so.ahead.hosts.ended h.here (OnReadable k operation) (sym f))
      by true f = subst (λ (x : StreamId). Sound i j p s (OnReadable x operation ∷ es) → Covers n s (OnReadable x operation ∷ es) → After n s (OnReadable x operation) es) (same_id i k (sym f)) (own-covers j p n operation s es) so h

  pub byte-same : (k : StreamId) (operation : ByteOperation) (s : Slots) → Ended s → slice_get (stream_shapes s) i.0 ≡ Some (ReadableOf (EndOf c)) → readable_at i (row (Byte k operation) s).slots ≡ readable_at i s
  byte-same k operation s ended here = by (is_same i k) refl
    where
      by : (same : Bool) → same ≡ is_same i k → readable_at i (row (Byte k operation) s).slots ≡ readable_at i s
      by false e = row-same c i s ended here (Byte k operation) (sym e)
      by true e =
          let is : i ≡ k = same_id i k (sym e) in
          subst (λ (x : StreamId). readable_at i (row (Byte x operation) s).slots ≡ readable_at i s) is (ap (λ (d : Done). readable_at i d.slots) (bytes-idle c i s ended here operation))

  -- what an operation of the port posts

  given-if : (b : Bool) (m : Message) → pulls_in (if b then m ∷ [] else []) ≤ is_pull m
  given-if true m = omega arith
  given-if false m = omega arith

  given-first : (clones : Bool) (x : cross.Slots) (o : Option PromiseId) → pulls_in (given_first clones x o) ≤ 0
  given-first true x None = omega arith
  given-first false x None = given-if x.live (ErrorMessage cross.data_clone)
  given-first clones x (Some q) = omega arith

  given-pulls : (clones : Bool) (operation : PortOperation) (x : cross.Slots) → pulls_in (given clones operation x) ≤ asked_of c (OnPort c operation)
  given-pulls clones ports.Pull x = let h = given-if x.live PullMessage in let n = is_same_port-refl c in rw n h
  given-pulls clones (ports.Leave r u) x = given-if x.live (ErrorMessage _)
  given-pulls clones (ports.Write u) x = omega arith
  given-pulls clones (ports.WriteGoesOn d) x = given-first clones x x.backpressure
  given-pulls clones (ports.PostChunk v d) x = given-if x.live (ChunkMessage v)
  given-pulls clones (ports.Close u) x = given-if x.live CloseMessage
  given-pulls clones (ports.Deliver m) x = omega arith
  given-pulls clones ports.Unblock x = omega arith

  -- what comes by it

  unblock-enters : (a : cross.Acts) (o : Option PromiseId) → total enters_of (cross.unblock_by a o).out.effects ≡ total enters_of a.out.effects
  unblock-enters a None = refl
  unblock-enters a (Some q) = refl

  to-enters : (m : Message) (x : cross.Slots) (t : Table) (side : Side) → total enters_of (cross.deliver_to c m (port_acts c x t) side).out.effects ≤ length (chunk_in m)
  unfolding cross.unblock
  to-enters PullMessage x t ReadableSide = omega arith
  to-enters (ChunkMessage v) x t ReadableSide = let h = one_most (is_same i x.stream) in omega (arith, h)
  to-enters CloseMessage x t ReadableSide = omega arith
  to-enters (ErrorMessage r) x t ReadableSide = omega arith
  to-enters PullMessage x t WritableSide = let h = unblock-enters (port_acts c x t) x.backpressure in omega (arith, h)
  to-enters (ChunkMessage v) x t WritableSide = omega arith
  to-enters CloseMessage x t WritableSide = omega arith
  to-enters (ErrorMessage r) x t WritableSide = omega arith

  deliver-enters : (m : Message) (x : cross.Slots) (t : Table) (clones : Bool) → total enters_of (port_operation c clones (ports.Deliver m) (port_acts c x t)).out.effects ≤ length (chunk_in m)
  unfolding cross.deliver
  deliver-enters m x t clones =
      either (λ (b : cross.Acts). total enters_of b.out.effects ≤ length (chunk_in m)) x.live (cross.deliver_to c m (port_acts c x t) x.side) (port_acts c x t) (λ e. to-enters m x t x.side) (λ e. omega arith)

  abbrev IsDeliver : PortOperation → Type 0
  IsDeliver (ports.Deliver m) = Unit {0}
  IsDeliver operation = ⊥

  own-enters : (s : Slots) (halved : Halved s) (ended : Ended s) (here : slice_get (stream_shapes s) i.0 ≡ Some (ReadableOf (EndOf c))) (x : cross.Slots) → slice_get s.ports c.0 ≡ Some x → (operation : PortOperation)
      → total enters_of (row (OnPort c operation) s).caused ≤ enters_of (OnPort c operation)
  own-enters s halved ended here x is (ports.Deliver m) =
      let k = row-mine c (ports.Deliver m) s x is in
      let h = deliver-enters m x s.promises (clones_at x s) in
      let n = is_same_port-refl c in
      rw (k.caused, n) h
  own-enters s halved ended here x is operation = let d = untouched-enters (row (OnPort c operation) s).caused (row-untouched c i s halved ended here (OnPort c operation) tt) in omega (arith, d)

  mine-covers : (j : StreamId) (p : PipeId) (n : ℕ) (operation : PortOperation) (s : Slots) (es : List Effect) → (o : Option cross.Slots) → slice_get s.ports c.0 ≡ o → Sound i j p s (OnPort c operation ∷ es) → Covers n s (OnPort c operation ∷ es) → After n s (OnPort c operation) es
  mine-covers j p n operation s es None is so k =
      let none = no-mine c operation s is in
      let told : pulls_in (posted c (row (OnPort c operation) s).slots.promises) ≡ pulls_in (posted c s.promises) = ap (λ (d : Done). pulls_in (posted c d.slots.promises)) none in
      let asked : pulled c i (row (OnPort c operation) s).caused ≡ 0 = ap (λ (d : Done). pulled c i d.caused) none in
      let enters : total enters_of (row (OnPort c operation) s).caused ≡ 0 = ap (λ (d : Done). total enters_of d.caused) none in
      moves j p n s (OnPort c operation) es so k (ap (λ (d : Done). readable_at i d.slots) none) (omega (arith, told, asked)) (omega (arith, enters))
  mine-covers j p n operation s es (Some x) is so k =
      let e : Effect = OnPort c operation in
      let ended : Ended s = so.ahead.hosts.ended in
      let same = row-same c i s ended k.here e tt in
      let m = row-mine c operation s x is in
      let told : pulls_in (posted c (row e s).slots.promises) ≡ pulls_in (posted c s.promises) + pulls_in (given (clones_at x s) operation x) = ap pulls_in m.told ∙ pulls-append (posted c s.promises) (given (clones_at x s) operation x) in
      let g = given-pulls (clones_at x s) operation x in
      let q = calm-pulled j p n s e es so k refl same in
      moves j p n s e es so k same (omega (arith, told, g, q)) (own-enters s so.ahead.hosts.halved ended k.here x is operation)

  port-covers : (j : StreamId) (p : PipeId) (n : ℕ) (d : PortId) (operation : PortOperation) (s : Slots) (es : List Effect) → Sound i j p s (OnPort d operation ∷ es) → Covers n s (OnPort d operation ∷ es) → After n s (OnPort d operation) es
  port-covers j p n d operation s es so k =
      by-port c (λ d. Sound i j p s (OnPort d operation ∷ es) → Covers n s (OnPort d operation ∷ es) → After n s (OnPort d operation) es) d
      (λ away so k. others j p n s (OnPort d operation) es so k away (quiet d operation away s so k) refl (row-same c i s so.ahead.hosts.ended k.here (OnPort d operation) tt))
      (λ so k. mine-covers j p n operation s es (slice_get s.ports c.0) refl so k) so k
    where
      quiet : (d : PortId) (operation : PortOperation) → is_same_port c d ≡ false → (s : Slots) → (so : Sound i j p s (OnPort d operation ∷ es)) → (k : Covers n s (OnPort d operation ∷ es)) → NoDelivery c i s so.ahead.hosts.halved so.ahead.hosts.ended k.here (OnPort d operation)
      quiet d (ports.Deliver m) away s so k = away
      quiet d operation away s so k = tt

  pub row-covers : (j : StreamId) (p : PipeId) (n : ℕ) (e : Effect) (s : Slots) (es : List Effect) → Sound i j p s (e ∷ es) → Covers n s (e ∷ es) → After n s e es
  row-covers j p n (OnReadable k operation) s es so h = readable-covers j p n k operation s es so h
  row-covers j p n (Byte k operation) s es so h = others j p n s (Byte k operation) es so h tt tt refl (byte-same k operation s so.ahead.hosts.ended h.here)
  row-covers j p n (PullAlgorithm k) s es so h = others j p n s (PullAlgorithm k) es so h tt tt refl (ap (λ (xs : List Stream). as_readable (slice_get xs i.0)) (row-streams (PullAlgorithm k) s tt))
  row-covers j p n (OnPort d operation) s es so h = port-covers j p n d operation s es so h
  row-covers j p n e s es so h = others j p n s e es so h tt tt refl (row-same c i s so.ahead.hosts.ended h.here e tt)
