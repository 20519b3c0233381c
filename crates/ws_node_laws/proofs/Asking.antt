-- A readable end of a port, in every run and from the opening of a chain on (`each_end_stays_asking`, `each_node_asks_in_turn`).
use Rattle.std.proofs.Common.{◌≡◌, ℕ, zero, suc, ◌+◌, ◌≤◌, Bool, true, false, not, ◌||◌, if◌then◌else◌, List, [], ◌∷◌, ◌++◌, map, Option, Some, None, slice_get, refl, sym, ap, subst, ◌∙◌, arith}
use Rattle.ws_value.specs.declared.ids.PortId.{PortId}
use Rattle.ws_value.specs.declared.ids.StreamId.{StreamId}
use Rattle.ws_steps.specs.declared.calls.Call.{Call}
use Rattle.ws_steps.specs.declared.calls.Call.TheVariants.{Open}
use Rattle.ws_steps.specs.declared.effects.Effect.{Effect}
use Rattle.ws_steps.specs.declared.effects.Effect.TheVariants.{Readable as OnReadable, Byte, PullAlgorithm}
use Rattle.ws_steps.specs.declared.effects.Owner.TheVariants.{EndOf}
use Rattle.ws_steps.specs.declared.port.Side.TheVariants.{Readable as ReadableSide}
use Rattle.ws_steps.specs.declared.readable.ReadableOperation.{ReadableOperation}
use Rattle.ws_steps.specs.Calls.{begin}
use Rattle.ws_steps.specs.Histories.{is_same}
use Rattle.ws_steps.specs.Jobs.{begin_job}
use Rattle.ws_steps.specs.PortHistory.{posted_in}
use Rattle.ws_steps.specs.Promises.{fresh, settle, answer, react, follow, unfollow, use_gift, queue_micro, after_next_job, watch}
use Rattle.ws_steps.specs.Run.{Entry, Called, Worked, Heard, step, run}
use Rattle.ws_steps.specs.Slots.{Slots, Stream, ReadableStream, ByteStream, WritableStream, empty, readable_at, as_readable, is_byte_stream, is_readable_stream, owner_of, has_source}
use Rattle.ws_steps.specs.Turns.{row, turns, call_host, performed}
use Rattle.ws_laws.proofs.Begin.{begin-makes}
use Rattle.ws_laws.proofs.Ended.{Ended, ended-stays, run-ended}
use Rattle.ws_laws.proofs.Lists.{Each, each-append}
use Rattle.ws_laws.proofs.Shapes.{ReadableOf, stream_shape, stream_shapes, map-there, row-stream_shapes}
use Rattle.ws_laws.proofs.Tables.{is_same-refl, same_id, readable_acts}
use Rattle.ws_laws.proofs.Walker.{Stays, run-stays}
use Rattle.ws_laws.proofs.Weights.{weigh-watch}
use Rattle.ws_writable_laws.proofs.Shape.{of_reaction, weight}
use Rattle.ws_pipe_laws.specs.pipes.PipeReads.{one_if}
use Rattle.ws_pipe_laws.proofs.writes.Counts.{same_weight}
use Rattle.ws_link_laws.specs.Laws.{all_leave}
use Rattle.ws_link_laws.specs.Link.{OfEnd, giver_by, giver_at}
use Rattle.ws_link_laws.proofs.Steps.{place-append}
use Rattle.ws_tee_port_laws.proofs.ports.Posting.{total, total-append}
use Rattle.ws_tee_port_laws.proofs.ports.Pulls.{row-same, own-slots}
use Rattle.ws_laws.proofs.Apart.{row-streams}
use Rattle.ws_chain_laws.specs.Chain.{Target, FromPort, source_of, dest_of, source_port}
use Rattle.ws_chain_laws.specs.Opening.{chained, opening, piping, signal_of}
use Rattle.ws_chain_laws.specs.Runs.{AreNodes}
use Rattle.ws_chain_laws.proofs.Begins.{each_chain_begins}
use Rattle.ws_chain_laws.proofs.Links.{link-at}
use Rattle.ws_chain_laws.proofs.Runs.{nodes-leave}
use Rattle.ws_node_laws.specs.Asks.{pulls_in}
use Rattle.ws_node_laws.specs.Covered.{starting, IsAsking, EachEndStaysAsking, EachNodeAsksInTurn}
use Rattle.ws_node_laws.proofs.Asks.{Good, starts, operation-kept, one_most, few_asks}
use Rattle.ws_node_laws.proofs.Covered.{carried, byte-same, shaped}
use Rattle.ws_node_laws.proofs.InTurn.{call-weighs, here-end, there-below, each_end_asks_in_turn}
use Rattle.ws_node_laws.proofs.Started.{start_of, Fits, quiet-total, quiet-fits, row-counted, row-fits, job-fits, job-counted, call-quiet, heard-weight}

module _ (c : PortId) (i : StreamId) where
  pub record Asking (s : Slots) (es : List Effect) : Type 0 where
    pub here : slice_get (stream_shapes s) i.0 ≡ Some (ReadableOf (EndOf c))
    pub ended : Ended s
    pub good : Good (readable_at i s)
    pub count : weight (starting i) s.promises + total (start_of i) es ≤ one_if (not (readable_at i s).started)
    pub fits : Each (Fits i) es

  abbrev After : Slots → Effect → List Effect → Type 0
  After s e es = Asking (row e s).slots ((row e s).caused ++ es)

  -- where the stream stays as it is
  moves : (s : Slots) (e : Effect) (es : List Effect) → Asking s (e ∷ es) → readable_at i (row e s).slots ≡ readable_at i s → After s e es
  moves s e es k same =
      let cs : List Effect = (row e s).caused in
      let a = carried c i e s k.fits.0 in
      let b = total-append (start_of i) cs es in
      let g = k.count in
      record {
        here = rw (row-stream_shapes e s) k.here;
        ended = ended-stays.row s e es k.ended;
        good = rw same k.good;
        count = rw same (omega (arith, a, b, g));
        fits = each-append (Fits i) cs es (row-fits i e s k.fits.0) k.fits.1;
      }

  -- an operation of the stream
  own-moves : (operation : ReadableOperation) (s : Slots) (es : List Effect) → Asking s (OnReadable i operation ∷ es) → After s (OnReadable i operation) es
  own-moves operation s es k =
      let e : Effect = OnReadable i operation in
      let cs : List Effect = (row e s).caused in
      let q = operation-kept i operation (readable_acts i s) k.good in
      let slots = own-slots c i s k.ended k.here operation in
      record {
        here = rw (row-stream_shapes e s) k.here;
        ended = ended-stays.row s e es k.ended;
        good = rw slots q.good;
        count = rw slots (counted _ q.started);
        fits = each-append (Fits i) cs es (row-fits i e s k.fits.0) k.fits.1;
      }
    where
      ins : Effect
      ins = OnReadable i operation

      b : weight (starting i) (row ins s).slots.promises + total (start_of i) (row ins s).caused ≤ weight (starting i) s.promises
      b = let h = row-counted i ins s k.fits.0 in omega (arith, h)

      one_start : (o : ReadableOperation) → starts i o ≡ true → start_of i (OnReadable i o) ≡ 1
      one_start o e = let h = is_same-refl i in grind (arith, h, e)

      counted : (y : Bool) → y ≡ (if starts i operation then true else (readable_at i s).started) → weight (starting i) (row ins s).slots.promises + total (start_of i) ((row ins s).caused ++ es) ≤ one_if (not y)
      counted y f = by (starts i operation) refl f
        where
          by : (t : Bool) → t ≡ starts i operation → y ≡ (if t then true else (readable_at i s).started) → weight (starting i) (row ins s).slots.promises + total (start_of i) ((row ins s).caused ++ es) ≤ one_if (not y)
          by true g f =
              let w = k.count in
              let one = one_start operation (sym g) in
              let m = one_most (not (readable_at i s).started) in
              let t = total-append (start_of i) (row ins s).caused es in
              let h = b in
              rw f (omega (arith, w, one, m, t, h))
          by false g f = let w = k.count in let t = total-append (start_of i) (row ins s).caused es in let h = b in rw f (omega (arith, w, t, h))

  readable-moves : (k : StreamId) (operation : ReadableOperation) (s : Slots) (es : List Effect) → Asking s (OnReadable k operation ∷ es) → After s (OnReadable k operation) es
  readable-moves k operation s es h = by (is_same i k) refl
    where
      by : (same : Bool) → same ≡ is_same i k → After s (OnReadable k operation) es
      by false f = moves s (OnReadable k operation) es h (row-same c i s h.ended h.here (OnReadable k operation) (sym f))
      by true f = subst (λ (x : StreamId). Asking s (OnReadable x operation ∷ es) → After s (OnReadable x operation) es) (same_id i k (sym f)) (own-moves operation s es) h

  row-moves : (s : Slots) (e : Effect) (es : List Effect) → Asking s (e ∷ es) → After s e es
  row-moves s (OnReadable k operation) es h = readable-moves k operation s es h
  row-moves s (Byte k operation) es h = moves s (Byte k operation) es h (byte-same c i k operation s h.ended h.here)
  row-moves s (PullAlgorithm k) es h = moves s (PullAlgorithm k) es h (ap (λ (xs : List Stream). as_readable (slice_get xs i.0)) (row-streams (PullAlgorithm k) s tt))
  row-moves s e es h = moves s e es h (row-same c i s h.ended h.here e tt)

  -- a call leaves the streams that are there
  begun-there : (call : Call) (s : Slots) (x : Stream) → slice_get s.streams i.0 ≡ Some x → slice_get (begin call s).done.slots.streams i.0 ≡ Some x
  begun-there call s x h = begin-makes (λ z. slice_get z.streams i.0 ≡ Some x) (record {
    promise = λ z h. h;
    locks = λ z ls h. h;
    hosts = λ z hs h. h;
    pipe = λ z source dest prevent signal promise h. h;
    signal = λ z h. h;
    transform = λ z kind w r change h. h;
    tee = λ z source first second cancel h. h;
    port = λ z side stream backpressure h. h;
    bytes = λ z mark auto h. place-append z.streams _ x i.0 h;
    byob_requests = λ z hs h. h;
    readable = λ z o mark size h. place-append z.streams _ x i.0 h;
    writable = λ z o mark size h. place-append z.streams _ x i.0 h;
  }) call s h

  call-moves : (s : Slots) (call : Call) → Asking s [] → Asking (begin call s).done.slots (begin call s).done.caused
  call-moves s call k =
      let there = shaped c s.streams i.0 k.here in
      let now = begun-there call s (ReadableStream (readable_at i s)) there in
      let same : readable_at i (begin call s).done.slots ≡ readable_at i s = ap as_readable (now ∙ sym there) in
      let shape : slice_get (stream_shapes (begin call s).done.slots) i.0 ≡ slice_get (stream_shapes s) i.0 = map-there stream_shape (begin call s).done.slots.streams i.0 (ReadableStream (readable_at i s)) now ∙ sym (map-there stream_shape s.streams i.0 (ReadableStream (readable_at i s)) there) in
      let quiet = call-quiet i call s (there-below c i s.streams i.0 (ReadableStream (readable_at i s)) there) in
      let w = call-weighs c i call s in
      let t = quiet-total i (begin call s).done.caused quiet in
      let g = k.count in
      record {
        here = shape ∙ k.here;
        ended = ended-stays.call s call k.ended;
        good = rw same k.good;
        count = rw same (omega (arith, w, t, g));
        fits = quiet-fits i (begin call s).done.caused quiet;
      }

  asking-stays : Stays Asking
  asking-stays = record {
    row = row-moves;
    call = call-moves;
    job = λ s job e k. let w = job-counted i s.promises job e in let g = k.count in record { here = k.here; ended = ended-stays.job s job e k.ended; good = k.good; count = omega (arith, w, g); fits = job-fits i job };
    answered = λ s p k. let w = weigh-watch (of_reaction (starting i)) p s.promises in let g = k.count in record { here = k.here; ended = ended-stays.answered s p k.ended; good = k.good; count = omega (arith, w, g); fits = tt };
    older = λ s k. record { here = k.here; ended = ended-stays.older s k.ended; good = k.good; count = k.count; fits = tt };
  }

  pub run-asking : (xs : List Entry) (s : Slots) → Asking s [] → Asking (run xs s) []
  run-asking xs s k = run-stays Asking asking-stays (λ z k. let w = heard-weight i z in let g = k.count in record { here = k.here; ended = k.ended; good = k.good; count = omega (arith, w, g); fits = tt }) xs s k

source-end : (c : PortId) (o : Option Stream) → is_readable_stream o || is_byte_stream o ≡ true → giver_by (is_byte_stream o) (owner_of o) ≡ OfEnd c → (as_readable o).owner ≡ EndOf c
source-end c None h e = cc
source-end c (Some (ReadableStream r)) h e = by r.owner refl e
  where
    by : (o : _) → o ≡ r.owner → giver_by false o ≡ OfEnd c → r.owner ≡ EndOf c
    by (EndOf d) f e = let same : d ≡ c = cc in sym f ∙ ap EndOf same
    by o f e = cc
source-end c (Some (ByteStream b)) h e = cc
source-end c (Some (WritableStream w)) h e = cc

pub shape-here : (c : PortId) (i : StreamId) (s : Slots) → has_source i s ≡ true → giver_at i s ≡ OfEnd c → slice_get (stream_shapes s) i.0 ≡ Some (ReadableOf (EndOf c))
shape-here c i s h e = by s.streams i.0 h e
  where
    by : (xs : List Stream) (n : ℕ) → is_readable_stream (slice_get xs n) || is_byte_stream (slice_get xs n) ≡ true → giver_by (is_byte_stream (slice_get xs n)) (owner_of (slice_get xs n)) ≡ OfEnd c → slice_get (map stream_shape xs) n ≡ Some (ReadableOf (EndOf c))
    by [] n h e = cc
    by (ReadableStream r ∷ xs) zero h e = ap (λ o. Some (ReadableOf o)) (source-end c (Some (ReadableStream r)) h e)
    by (ByteStream b ∷ xs) zero h e = cc
    by (WritableStream w ∷ xs) zero h e = cc
    by (x ∷ xs) (suc n) h e = by xs n h e

pub each_end_stays_asking : EachEndStaysAsking
each_end_stays_asking i c before entries there k =
    let s : Slots = run before empty in
    let w = same_weight (starting i) s.promises in
    let st = k.starts in
    let a : Asking c i s [] = record { here = shape-here c i s there k.end; ended = run-ended before; good = record { mark = k.mark; again = k.again }; count = omega (arith, w, st); fits = tt } in
    let r = run-asking c i entries s a in
    let z : Slots = run entries s in
    let wz = same_weight (starting i) z.promises in
    let cz = r.count in
    record { end = here-end i c z r.here; mark = r.good.mark; again = r.good.again; starts = omega (arith, wz, cz) }

-- from the opening on

pub run-append : (xs ys : List Entry) (s : Slots) → run (xs ++ ys) s ≡ run ys (run xs s)
run-append [] ys s = refl
run-append (x ∷ xs) ys s = run-append xs ys (step s x)

abbrev first : Slots
first = run (Called (Open ReadableSide) ∷ []) empty

first-asks : IsAsking (source_of 0) source_port first
unfolding fresh settle answer react follow unfollow use_gift queue_micro after_next_job watch call_host row turns performed begin_job begin
first-asks = record { end = refl; mark = refl; again = λ e. cc; starts = omega arith }

first-there : has_source (source_of 0) first ≡ true
unfolding fresh settle answer react follow unfollow use_gift queue_micro after_next_job watch call_host row turns performed begin_job begin
first-there = refl

abbrev rest : Target → ℕ → Bool → List Entry → List Entry
rest target n signalled [] = []
rest target n signalled (x ∷ xs) = xs ++ Called (piping (signal_of signalled) n) ∷ []

all-leave : (target : Target) (n : ℕ) (xs : List Entry) → AreNodes xs → all_leave (source_of 0) (dest_of 0) xs ≡ true
all-leave target n [] a = refl
all-leave target n (Called c ∷ xs) a = let h = nodes-leave n c a.0 0 (omega arith) in let k = all-leave target n xs a.1 in rw (h, k) refl
all-leave target n (Worked ∷ xs) a = all-leave target n xs a
all-leave target n (Heard ∷ xs) a = all-leave target n xs a

chain-asks : (target : Target) (n : ℕ) (signalled : Bool) → IsAsking (source_of 0) source_port (chained FromPort target n signalled)
chain-asks target n signalled =
    let xs = rest target n signalled (opening FromPort target n signalled) in
    let last = Called (piping (signal_of signalled) n) ∷ [] in
    let is : run (opening FromPort target n signalled ++ last) empty ≡ chained FromPort target n signalled = run-append (opening FromPort target n signalled) last empty in
    subst (λ z. IsAsking (source_of 0) source_port z) is (each_end_stays_asking (source_of 0) source_port (Called (Open ReadableSide) ∷ []) xs first-there first-asks)

pub each_node_asks_in_turn : EachNodeAsksInTurn
each_node_asks_in_turn target n signalled entries few a =
    let z : Slots = chained FromPort target n signalled in
    let b = each_chain_begins FromPort target n signalled few in
    let h = (each_end_asks_in_turn (source_of 0) (dest_of 0) _ source_port z entries (link-at FromPort target n z b.chain 0 (omega arith)).link (chain-asks target n signalled) (all-leave target n entries a)).pulls in
    let m = few_asks (readable_at (source_of 0) z) in
    let u : pulls_in (posted_in source_port z.promises.events) ≡ 0 = ap pulls_in (b.unposted source_port) in
    omega (arith, h, m, u)
