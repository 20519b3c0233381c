-- By what the stream at a readable end of a port closes (`each_readable_end_closes_by_message`).
use Rattle.std.specs.Prelude.{is_some}
use Rattle.std.proofs.Common.{◌≡◌, ◌⊎◌, inl, inr, ⊎_elim, Bool, true, false, ◌||◌, List, [], ◌∷◌, ◌++◌, Option, Some, None, slice_get, refl, sym, ap, subst, ◌∙◌, append-nil, append_assoc, arith, length}
use Rattle.ws_value.specs.declared.ids.{PortId.{PortId}, StreamId.{StreamId}}
use Rattle.ws_value.specs.declared.value.Message.{Message}
use Rattle.ws_value.specs.declared.value.Message.TheVariants.{Pull as PullMessage, Chunk as ChunkMessage, Close as CloseMessage, Error as ErrorMessage}
use Rattle.ws_steps.specs.declared.byte.ByteOperation.{ByteOperation}
use Rattle.ws_steps.specs.declared.calls.Call.{Call}
use Rattle.ws_steps.specs.declared.calls.Call.TheVariants.{Deliver}
use Rattle.ws_steps.specs.declared.effects.Effect.{Effect}
use Rattle.ws_steps.specs.declared.effects.Effect.TheVariants.{Readable as OnReadable, Byte, Port as OnPort, PullAlgorithm}
use Rattle.ws_steps.specs.declared.effects.Owner.TheVariants.{EndOf}
use Rattle.ws_steps.specs.declared.port.PortOperation.{PortOperation}
use Rattle.ws_steps.specs.declared.port.PortOperation.TheVariants as ports
use Rattle.ws_steps.specs.declared.port.Side.{Side}
use Rattle.ws_steps.specs.declared.port.Side.TheVariants.{Readable as ReadableSide}
use Rattle.ws_steps.specs.declared.readable.ReadableOperation.{ReadableOperation}
use Rattle.ws_steps.specs.declared.readable.ReadableOperation.TheVariants as reads
use Rattle.ws_steps.specs.declared.readable.ReadableState.{ReadableState}
use Rattle.ws_steps.specs.declared.readable.ReadableState.TheVariants.{Readable, Closed, Errored}
use Rattle.ws_steps.specs.Begun.{Begun}
use Rattle.ws_steps.specs.PipeCalls.{end_of}
use Rattle.ws_steps.specs.Calls.{begin}
use Rattle.ws_steps.specs.Begun as replying
use Rattle.ws_steps.specs.Cross as cross
use Rattle.ws_steps.specs.Histories.{is_same, along, over}
use Rattle.ws_steps.specs.Jobs.{job_effects}
use Rattle.ws_steps.specs.Operations.{port_operation, readable_operation}
use Rattle.ws_steps.specs.PortHistory.{is_same_port, taken_by, taken_in_step, run_taken}
use Rattle.ws_steps.specs.Promises.{after_next_job, watch}
use Rattle.ws_steps.specs.Readable as readable
use Rattle.ws_steps.specs.Readable.{call_pull_if_needed, controller_enqueue, accept, controller_close, close_if_empty, controller_error, stream_close, stream_error, after_take, pull_steps, default_reader_read, disturb, reader_generic_initialize, start_settled, pull_settled, cancel_steps, stream_cancel, cancel_if_readable, reader_release}
use Rattle.ws_steps.specs.ReadableHistory.{no_flow, flow_then, operation_flow, effect_flow, run_flow}
use Rattle.ws_steps.specs.Run.{Entry, Called, Worked, Heard, run, step, older, after_event}
use Rattle.ws_steps.specs.Slots.{Slots, Stream, ReadableStream, Done, empty, as_port, as_readable, clones_at, has_port, is_live, readable_at, with_promises}
use Rattle.ws_steps.specs.Turns.{Moment, row}
use Rattle.ws_laws.proofs.Ended.{PortShape, port_shape, port_shapes, Ended, ended-stays, ended-empty, row-port_shapes}
use Rattle.ws_laws.proofs.Halves.{Halved, halved-stays, halved-empty}
use Rattle.ws_laws.proofs.Lists.{Each, each-append}
use Rattle.ws_laws.proofs.Apart.{row-streams}
use Rattle.ws_laws.proofs.Shapes.{ReadableOf, stream_shapes, map-there}
use Rattle.ws_laws.proofs.Tables.{either, same_id, is_same-refl, readable_acts}
use Rattle.ws_laws.proofs.Truth.{false_true, or_right}
use Rattle.ws_laws.proofs.Walker as walker
use Rattle.ws_laws.proofs.Walker.{IsHistory, Goes, Rests}
use Rattle.ws_tee_port_laws.specs.ports.Ended.{is_close, has_close, ClosesByMessage, EachReadableEndClosesByMessage}
use Rattle.ws_tee_port_laws.proofs.ports.EnteringRuns.{NewPort, call-ports, past-end, stream-stays, same-shape, same-port, none-shape, here-of, there-by, end-not_hosts, absent-not_hosts}
use Rattle.ws_tee_port_laws.proofs.ports.Once.{row-mine, by-port}
use Rattle.ws_tee_port_laws.proofs.ports.Posting.{is_same_port-refl, port_acts}
use Rattle.ws_tee_port_laws.proofs.ports.PostingRuns.{last-place}
use Rattle.ws_tee_port_laws.proofs.ports.Pulls.{row-same, bytes-idle, own-slots}
use Rattle.ws_tee_port_laws.proofs.ports.Touching.{NoTouch, NoDelivery, row-untouched, call-untouched, job-untouched, IsNoDelivery}

-- what happened before: what the port took, and what went through the stream
pub record Past : Type 0 where
  pub taken : List Message
  pub cancelled : Bool

abbrev nothing_past : Past
nothing_past = record { taken = []; cancelled = false }

abbrev then_past : Past → Past → Past
then_past f g = record { taken = f.taken ++ g.taken; cancelled = f.cancelled || g.cancelled }

or-false : (a : Bool) → a || false ≡ a
or-false true = refl
or-false false = refl

or-assoc : (a b d : Bool) → (a || b) || d ≡ a || (b || d)
or-assoc true b d = refl
or-assoc false b d = refl

past-history : IsHistory nothing_past then_past
past-history = record {
  left = λ h. refl;
  right = λ h k. record { taken = append-nil h.taken k; cancelled = or-false h.cancelled k };
  assoc = λ f g h k. record { taken = append_assoc f.taken g.taken h.taken k; cancelled = or-assoc f.cancelled g.cancelled h.cancelled k };
}

abbrev pub is_closed : ReadableState → Bool
is_closed Readable = false
is_closed Closed = true
is_closed Errored = false

-- closed, or asked to close
abbrev pub is_over : readable.Slots → Bool
is_over r = is_closed r.state || r.close_requested

-- the operations of a stream but its close

abbrev IsNoClose : ReadableOperation → Type 0
IsNoClose reads.Close = ⊥
IsNoClose _ = Unit {0}

close_or : (operation : ReadableOperation) → (operation ≡ reads.Close) ⊎ IsNoClose operation
close_or reads.Close = inl refl
close_or operation = inr (grind arith)

module _ (i : StreamId) where
  unasked : (operation : ReadableOperation) (a : readable.Acts) → IsNoClose operation → a.slots.close_requested ≡ false → (readable_operation i operation a).slots.close_requested ≡ false
  unfolding reader_generic_initialize reader_release disturb default_reader_read pull_steps after_take stream_cancel cancel_if_readable cancel_steps start_settled pull_settled controller_enqueue accept controller_close close_if_empty controller_error stream_close stream_error call_pull_if_needed
  unasked operation a n e = grind (arith, n, e)

  unclosed : (operation : ReadableOperation) (a : readable.Acts) → IsNoClose operation → (operation_flow operation a.slots).cancelled ≡ false → is_over a.slots ≡ false → is_over (readable_operation i operation a).slots ≡ false
  unfolding reader_generic_initialize reader_release disturb default_reader_read pull_steps after_take stream_cancel cancel_if_readable cancel_steps start_settled pull_settled controller_enqueue accept controller_close close_if_empty controller_error stream_close stream_error call_pull_if_needed
  unclosed operation a n g e = grind (arith, n, g, e)

-- what is known of the stream
pub record States (t : List Message) (cancelled : Bool) (r : readable.Slots) : Type 0 where
  pub requested : r.close_requested ≡ true → has_close t ≡ true
  pub closed : cancelled ≡ false → is_over r ≡ true → has_close t ≡ true

left-false : (a b : Bool) → a || b ≡ false → a ≡ false
left-false true b e = cc
left-false false b e = refl

right-false : (a b : Bool) → a || b ≡ false → b ≡ false
right-false true b e = cc
right-false false b e = e

more-states : (t : List Message) (a b : Bool) (r : readable.Slots) → States t a r → States t (a || b) r
more-states t a b r k = record { requested = k.requested; closed = λ e. k.closed (left-false a b e) }

has-states : (t : List Message) (a : Bool) (r : readable.Slots) → has_close t ≡ true → States t a r
has-states t a r h = record { requested = λ e. h; closed = λ e o. h }

or-then : (a b d : Bool) → (b ≡ true → d ≡ true) → a || b ≡ true → a || d ≡ true
or-then true b d f e = refl
or-then false b d f e = f e

close-more : (ms ns : List Message) → has_close ms ≡ true → has_close (ms ++ ns) ≡ true
close-more [] ns e = cc
close-more (m ∷ ms) ns e = or-then (is_close m) _ _ (λ k. close-more ms ns k) e

close-last : (ms : List Message) (m : Message) → is_close m ≡ true → has_close (ms ++ m ∷ []) ≡ true
close-last [] m e = rw e refl
close-last (n ∷ ms) m e = or_right (is_close n) _ (close-last ms m e)

taken-states : (t ns : List Message) (a : Bool) (r : readable.Slots) → States t a r → States (t ++ ns) a r
taken-states t ns a r k = record { requested = λ e. close-more t ns (k.requested e); closed = λ e o. close-more t ns (k.closed e o) }

module _ (c : PortId) (i : StreamId) where
  -- a close that is about to come
  abbrev pub Due : List Message → Bool → Effect → Type 0
  Due t live (OnReadable j reads.Close) = is_same i j ≡ true → has_close t ≡ true
  Due t live (OnPort d (ports.Deliver m)) = is_same_port c d ≡ true → live ≡ true → is_close m ≡ true → has_close t ≡ true
  Due t live _ = Unit {0}

  -- behind it nothing touches the stream
  abbrev pub Heads : List Message → Bool → List Effect → Type 0
  Heads t live [] = Unit {0}
  Heads t live (e ∷ es) = Due t live e × Each (NoTouch c i) es

  no-due : (t : List Message) (live : Bool) (e : Effect) → NoTouch c i e → Due t live e
  no-due t live (OnReadable j reads.Close) k = λ e. false_true (is_same i j) e k
  no-due t live (OnPort d (ports.Deliver m)) k = λ e. false_true (is_same_port c d) e k
  no-due t live e k = grind (arith, k)

  no-heads : (t : List Message) (live : Bool) (es : List Effect) → Each (NoTouch c i) es → Heads t live es
  no-heads t live [] k = tt
  no-heads t live (e ∷ es) k = (no-due t live e k.0, k.1)

  pub record Kept (t : List Message) (cancelled live : Bool) (r : readable.Slots) (es : List Effect) : Type 0 where
    pub heads : Heads t live es
    pub states : States t cancelled r

  -- each effect

  module _ (s : Slots) (halved : Halved s) (ended : Ended s) (x : cross.Slots) (is : slice_get s.ports c.0 ≡ Some x) (side : x.side ≡ ReadableSide)
      (here : slice_get (stream_shapes s) i.0 ≡ Some (ReadableOf (EndOf c))) (t : List Message) (cancelled : Bool) where
    abbrev r : readable.Slots
    r = readable_at i s

    abbrev Now : Effect → Type 0
    Now e = States t (cancelled || (effect_flow i e s).cancelled) (readable_at i (row e s).slots)

    own-states : (operation : ReadableOperation) → Due t x.live (OnReadable i operation) → States t cancelled r
        → States t (cancelled || (operation_flow operation r).cancelled) (readable_operation i operation (readable_acts i s)).slots
    own-states operation due k = ⊎_elim (λ e. closing e) (λ n. other n) (close_or operation)
      where
        closing : operation ≡ reads.Close → States t (cancelled || (operation_flow operation r).cancelled) (readable_operation i operation (readable_acts i s)).slots
        closing e = has-states t _ _ ((subst (λ (o : ReadableOperation). Due t x.live (OnReadable i o)) e due) (is_same-refl i))

        other : IsNoClose operation → States t (cancelled || (operation_flow operation r).cancelled) (readable_operation i operation (readable_acts i s)).slots
        other n = record {
          requested = λ e. by_request r.close_requested refl e;
          closed = λ g o. by_over (is_over r) refl g o;
        }
          where
            by_request : (b : Bool) → b ≡ r.close_requested → (readable_operation i operation (readable_acts i s)).slots.close_requested ≡ true → has_close t ≡ true
            by_request true b e = k.requested (sym b)
            by_request false b e = false_true _ e (unasked i operation (readable_acts i s) n (sym b))

            by_over : (b : Bool) → b ≡ is_over r → cancelled || (operation_flow operation r).cancelled ≡ false → is_over (readable_operation i operation (readable_acts i s)).slots ≡ true → has_close t ≡ true
            by_over true b g o = k.closed (left-false cancelled _ g) (sym b)
            by_over false b g o = false_true _ o (unclosed i operation (readable_acts i s) n (right-false cancelled _ g) (sym b))

    readable-states : (j : StreamId) (operation : ReadableOperation) → Due t x.live (OnReadable j operation) → States t cancelled r → Now (OnReadable j operation)
    readable-states j operation due k = by (is_same i j) refl
      where
        by : (same : Bool) → same ≡ is_same i j → Now (OnReadable j operation)
        by false e = rw (row-same c i s ended here (OnReadable j operation) (sym e)) (more-states t cancelled _ r k)
        by true e =
            let is_so : i ≡ j = same_id i j (sym e) in
            subst (λ (q : StreamId). Due t x.live (OnReadable q operation) → Now (OnReadable q operation)) is_so
            (λ d. rw (is_same-refl i, own-slots c i s ended here operation) (own-states operation d k)) due

    byte-same : (j : StreamId) (operation : ByteOperation) → readable_at i (row (Byte j operation) s).slots ≡ r
    byte-same j operation = by (is_same i j) refl
      where
        by : (same : Bool) → same ≡ is_same i j → readable_at i (row (Byte j operation) s).slots ≡ r
        by false e = row-same c i s ended here (Byte j operation) (sym e)
        by true e =
            let is_so : i ≡ j = same_id i j (sym e) in
            subst (λ (q : StreamId). readable_at i (row (Byte q operation) s).slots ≡ r) is_so (ap (λ (d : Done). readable_at i d.slots) (bytes-idle c i s ended here operation))

    same-states : (e : Effect) → readable_at i (row e s).slots ≡ r → States t cancelled r → Now e
    same-states e same k = rw same (more-states t cancelled _ r k)

    row-states : (e : Effect) → Due t x.live e → States t cancelled r → Now e
    row-states (OnReadable j operation) due k = readable-states j operation due k
    row-states (Byte j operation) due k = same-states (Byte j operation) (byte-same j operation) k
    row-states (PullAlgorithm j) due k = same-states (PullAlgorithm j) (ap (λ (xs : List Stream). as_readable (slice_get xs i.0)) (row-streams (PullAlgorithm j) s tt)) k
    row-states e due k = same-states e (row-same c i s ended here e tt) k

    -- what stands then

    abbrev After : Effect → Bool → List Effect → Type 0
    After e live es = Heads t live ((row e s).caused ++ es)

    quiet-heads : (e : Effect) (live : Bool) (es : List Effect) → NoDelivery c i s halved ended here e → Each (NoTouch c i) es → After e live es
    quiet-heads e live es n k = no-heads t live ((row e s).caused ++ es) (each-append (NoTouch c i) (row e s).caused es (row-untouched c i s halved ended here e n) k)

    delivered : (m : Message) (live : Bool) (es : List Effect) → (x.live ≡ true → is_close m ≡ true → has_close t ≡ true) → Each (NoTouch c i) es
        → Heads t live ((port_operation c (clones_at x s) (ports.Deliver m) (port_acts c x s.promises)).out.effects ++ es)
    unfolding cross.deliver
    delivered m live es due k =
        either (λ (b : cross.Acts). Heads t live (b.out.effects ++ es)) x.live (cross.deliver_to c m (port_acts c x s.promises) x.side) (port_acts c x s.promises)
        (λ l. subst (λ (q : Side). Heads t live ((cross.deliver_to c m (port_acts c x s.promises) q).out.effects ++ es)) (sym side) (came m (due l)))
        (λ n. no-heads t live es k)
      where
        came : (m : Message) → (is_close m ≡ true → has_close t ≡ true) → Heads t live ((cross.deliver_to c m (port_acts c x s.promises) ReadableSide).out.effects ++ es)
        came PullMessage d = no-heads t live es k
        came (ChunkMessage v) d = (tt, k)
        came CloseMessage d = (λ e. d refl, k)
        came (ErrorMessage q) d = (tt, k)

    own-heads : (operation : PortOperation) (live : Bool) (es : List Effect) → Due t x.live (OnPort c operation) → Each (NoTouch c i) es → After (OnPort c operation) live es
    own-heads (ports.Deliver m) live es due k = rw ((row-mine c (ports.Deliver m) s x is).caused) (delivered m live es (due (is_same_port-refl c)) k)
    own-heads operation live es due k = quiet-heads (OnPort c operation) live es tt k

    port-heads : (d : PortId) (operation : PortOperation) (live : Bool) (es : List Effect) → Due t x.live (OnPort d operation) → Each (NoTouch c i) es → After (OnPort d operation) live es
    port-heads d operation live es due k =
        by-port c (λ q. Due t x.live (OnPort q operation) → After (OnPort q operation) live es) d
        (λ n f. quiet-heads (OnPort d operation) live es (away operation n) k) (λ f. own-heads operation live es f k) due
      where
        away : (operation : PortOperation) → is_same_port c d ≡ false → NoDelivery c i s halved ended here (OnPort d operation)
        away (ports.Deliver m) n = n
        away operation n = tt

    row-heads : (e : Effect) (live : Bool) (es : List Effect) → Due t x.live e → Each (NoTouch c i) es → After e live es
    row-heads (OnPort d operation) live es due k = port-heads d operation live es due k
    row-heads e live es due k = quiet-heads e live es tt k

  -- over a run

  abbrev told : Effect → Slots → Past
  told e s = record { taken = []; cancelled = (effect_flow i e s).cancelled }

  abbrev said : Slots → Entry → Past
  said s (Called call) = record { taken = taken_by c call s; cancelled = false }
  said s Worked = nothing_past
  said s Heard = nothing_past

  abbrev pub Holds : Past → Slots → List Effect → Type 0
  Holds h s es = (x : cross.Slots) → slice_get s.ports c.0 ≡ Some x → x.side ≡ ReadableSide → x.stream ≡ i → Kept h.taken h.cancelled x.live (readable_at i s) es

  pub record Whole (h : Past) (s : Slots) (es : List Effect) : Type 0 where
    pub ended : Ended s
    pub halved : Halved s
    pub holds : Holds h s es

  row-holds : (h : Past) (s : Slots) (e : Effect) (es : List Effect) → Whole h s (e ∷ es) → Holds (then_past h (told e s)) (row e s).slots ((row e s).caused ++ es)
  row-holds h s e es w y at side stream = by (slice_get s.ports c.0) refl
    where
      after : slice_get (port_shapes s) c.0 ≡ Some (port_shape y)
      after = ap (λ (ps : List PortShape). slice_get ps c.0) (sym (row-port_shapes e s)) ∙ map-there port_shape (row e s).slots.ports c.0 y at

      by : (o : Option cross.Slots) → slice_get s.ports c.0 ≡ o → Kept (h.taken ++ []) (h.cancelled || (effect_flow i e s).cancelled) y.live (readable_at i (row e s).slots) ((row e s).caused ++ es)
      by None n = let no : None ≡ Some (port_shape y) = sym (none-shape port_shape s.ports c.0 n) ∙ after in cc
      by (Some x) is =
          let same = same-shape (port_shape x) (port_shape y) (sym (map-there port_shape s.ports c.0 x is) ∙ after) in
          let here = here-of c i s w.ended x is (same.0 ∙ side) (same.1 ∙ stream) in
          let k = w.holds x is (same.0 ∙ side) (same.1 ∙ stream) in
          rw (append-nil h.taken)
          (record {
            heads = row-heads s w.halved w.ended x is (same.0 ∙ side) here h.taken h.cancelled e y.live es k.heads.0 k.heads.1;
            states = row-states s w.halved w.ended x is (same.0 ∙ side) here h.taken h.cancelled e k.heads.0 k.states;
          })

  -- a call

  module _ (call : Call) (h : Past) (s : Slots) (w : Whole h s []) where
    abbrev z : Slots
    z = (begin call s).done.slots

    old-call : (x : cross.Slots) → IsNoDelivery call → slice_get s.ports c.0 ≡ Some x → x.side ≡ ReadableSide → x.stream ≡ i → Kept h.taken h.cancelled x.live (readable_at i z) (begin call s).done.caused
    old-call x n is side stream =
        let here = here-of c i s w.ended x is side stream in
        let u = there-by c i s.streams i.0 here in
        let same : readable_at i z ≡ readable_at i s = ap as_readable (stream-stays call s i (ReadableStream u.0) u.1.0 ∙ sym u.1.0) in
        rw same (record { heads = no-heads h.taken x.live (begin call s).done.caused (call-untouched c i s (end-not_hosts c i s here) call n); states = (w.holds x is side stream).states })

    new-call : (x : cross.Slots) → IsNoDelivery call → NewPort s x z → x.side ≡ ReadableSide → x.stream ≡ i → Kept h.taken h.cancelled x.live (readable_at i z) (begin call s).done.caused
    new-call x n new side stream =
        let at = new.1 side in
        let absent : slice_get s.streams i.0 ≡ None = rw (ap (λ (j : StreamId). j.0) (sym stream) ∙ at.0) (past-end s.streams) in
        let now : slice_get z.streams i.0 ≡ Some (end_of (record { 0 = length s.ports }) ReadableSide) = subst (λ (j : StreamId). slice_get z.streams j.0 ≡ Some (end_of (record { 0 = length s.ports }) ReadableSide)) stream at.1 in
        record {
          heads = no-heads h.taken x.live (begin call s).done.caused (call-untouched c i s (absent-not_hosts c i s absent) call n);
          states = rw now (record { requested = λ e. cc; closed = λ e o. cc });
        }

    plain-call : (x : cross.Slots) → IsNoDelivery call → slice_get z.ports c.0 ≡ Some x → x.side ≡ ReadableSide → x.stream ≡ i → Kept h.taken h.cancelled x.live (readable_at i z) (begin call s).done.caused
    plain-call x n at side stream =
        ⊎_elim (λ e. old-call x n (ap (λ (xs : List cross.Slots). slice_get xs c.0) (sym e) ∙ at) side stream)
        (λ p. let now : slice_get (s.ports ++ p.0 ∷ []) c.0 ≡ Some x = ap (λ (xs : List cross.Slots). slice_get xs c.0) (sym p.1.0) ∙ at in
        ⊎_elim (λ e. old-call x n (sym e ∙ now) side stream)
        (λ e. let it : p.0 ≡ x = same-port p.0 x (sym e.1 ∙ now) in new-call x n (subst (λ (y : cross.Slots). NewPort s y z) it p.1.1) side stream) (last-place s.ports p.0 c.0)) (call-ports call s)

  -- a message is delivered
  module _ (h : Past) (s : Slots) (w : Whole h s []) (d : PortId) (m : Message) where
    abbrev DeliverHolds : Begun → Type 0
    DeliverHolds b = (x : cross.Slots) → slice_get b.done.slots.ports c.0 ≡ Some x → x.side ≡ ReadableSide → x.stream ≡ i
        → Kept (h.taken ++ taken_by c (Deliver d m) s) h.cancelled x.live (readable_at i b.done.slots) b.done.caused

    due-now : (x : cross.Slots) → slice_get s.ports c.0 ≡ Some x → Due (h.taken ++ taken_by c (Deliver d m) s) x.live (OnPort d (ports.Deliver m))
    due-now x at same l closing =
        let live : is_live c s ≡ true = ap (λ (o : Option cross.Slots). (as_port o).live) at ∙ l in
        let taken : taken_by c (Deliver d m) s ≡ m ∷ [] = rw (same, live) refl in
        rw taken (close-last h.taken m closing)

    deliver-holds : DeliverHolds (begin (Deliver d m) s)
    unfolding begin
    deliver-holds =
        either DeliverHolds (has_port d s) (replying.does (OnPort d (ports.Deliver m) ∷ []) s) (replying.unsupported s)
        (λ e x at side stream. record { heads = (due-now x at, tt); states = taken-states h.taken _ h.cancelled (readable_at i s) (w.holds x at side stream).states })
        (λ n x at side stream. record { heads = tt; states = taken-states h.taken _ h.cancelled (readable_at i s) (w.holds x at side stream).states })

  call-holds : (call : Call) (h : Past) (s : Slots) → Whole h s [] → Holds (then_past h (said s (Called call))) (begin call s).done.slots (begin call s).done.caused
  call-holds (Deliver d m) h s w = λ x at side stream. rw (or-false h.cancelled) (deliver-holds h s w d m x at side stream)
  call-holds call h s w = λ x at side stream. rw (append-nil h.taken, or-false h.cancelled) (plain-call call h s w x tt at side stream)

  same-holds : (h : Past) (s z : Slots) (es : List Effect) → z.ports ≡ s.ports → z.streams ≡ s.streams → Each (NoTouch c i) es → Holds h s [] → Holds h z es
  same-holds h s z es p q n k x at side stream =
      record { heads = no-heads h.taken x.live es n; states = rw q ((k x (ap (λ (xs : List cross.Slots). slice_get xs c.0) (sym p) ∙ at) side stream).states) }

  shutting-goes : Goes then_past told said Whole
  shutting-goes = record {
    row = λ h s e es w. record { ended = ended-stays.row s e es w.ended; halved = halved-stays.row s e es w.halved; holds = row-holds h s e es w };
    call = λ h s call w. record { ended = ended-stays.call s call w.ended; halved = halved-stays.call s call w.halved; holds = call-holds call h s w };
    job = λ h s job e w. rw (past-history.right h) (record { ended = w.ended; halved = w.halved; holds = same-holds h s (with_promises (after_next_job s.promises) s) (job_effects job) refl refl (job-untouched c i job) w.holds });
    idle = λ h s e w. rw (past-history.right h) w;
    answered = λ h s p w. record { ended = w.ended; halved = w.halved; holds = same-holds h s (with_promises (watch p s.promises) s) [] refl refl tt w.holds };
    older = λ h s w. record { ended = w.ended; halved = w.halved; holds = same-holds h s (older s) [] refl refl tt w.holds };
  }

  shutting-rests : Rests then_past said Whole
  shutting-rests = record { heard = λ h s w. rw (past-history.right h) (record { ended = w.ended; halved = w.halved; holds = same-holds h s (after_event s) [] refl refl tt w.holds }) }

  abbrev happened : Slots → Entry → Past
  happened = walker.happens nothing_past then_past past-history told said Whole shutting-goes

  along-taken : (ms : List Moment) → (along nothing_past then_past told ms).taken ≡ []
  along-taken [] = refl
  along-taken (m ∷ ms) = along-taken ms

  along-cancelled : (ms : List Moment) → (along nothing_past then_past told ms).cancelled ≡ (along no_flow flow_then (effect_flow i) ms).cancelled
  along-cancelled [] = refl
  along-cancelled (m ∷ ms) = ap (λ b. (effect_flow i m.effect m.found).cancelled || b) (along-cancelled ms)

  taken-said : (s : Slots) (x : Entry) → (said s x).taken ≡ taken_in_step c s x
  taken-said s (Called call) = refl
  taken-said s Worked = refl
  taken-said s Heard = refl

  none-said : (s : Slots) (x : Entry) → (said s x).cancelled ≡ false
  none-said s (Called call) = refl
  none-said s Worked = refl
  none-said s Heard = refl

  run-is_taken : (xs : List Entry) (s : Slots) → (over nothing_past then_past happened xs s).taken ≡ run_taken c xs s
  run-is_taken [] s = refl
  run-is_taken (x ∷ xs) s = rw (along-taken _, append-nil (said s x).taken, taken-said s x, run-is_taken xs (step s x)) refl

  run-cancelled : (xs : List Entry) (s : Slots) → (over nothing_past then_past happened xs s).cancelled ≡ (run_flow i xs s).cancelled
  run-cancelled [] s = refl
  run-cancelled (x ∷ xs) s = rw (none-said s x, along-cancelled _, run-cancelled xs (step s x)) refl

  pub run-shuts : (entries : List Entry) (x : cross.Slots) → slice_get (run entries empty).ports c.0 ≡ Some x → x.side ≡ ReadableSide → x.stream ≡ i
      → States (run_taken c entries empty) (run_flow i entries empty).cancelled (readable_at i (run entries empty))
  run-shuts entries x at side stream =
      let w = walker.run-goes nothing_past then_past past-history told said Whole shutting-goes shutting-rests entries nothing_past empty
      (record { ended = ended-empty; halved = halved-empty; holds = λ x at side stream. cc }) in
      rw (← run-is_taken entries empty, ← run-cancelled entries empty) ((w.holds x at side stream).states)

pub each_readable_end_closes_by_message : EachReadableEndClosesByMessage
each_readable_end_closes_by_message entries c h side = by (slice_get (run entries empty).ports c.0) refl h side
  where
    by : (o : Option cross.Slots) → slice_get (run entries empty).ports c.0 ≡ o → is_some o ≡ true → (as_port o).side ≡ ReadableSide
        → let i : StreamId = (as_port o).stream in ClosesByMessage (run_taken c entries empty) (run_flow i entries empty) (readable_at i (run entries empty))
    by None at there side = cc
    by (Some x) at there side =
        let k = run-shuts c x.stream entries x at side refl in
        record { requested = k.requested; closed = λ n e. k.closed n (rw e refl) }
