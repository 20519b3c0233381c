-- Over every run: what the stream at a writable end of a port acted on, and what the port posted.
use Rattle.std.proofs.Common.{◌≡◌, ℕ, zero, suc, ◌⊎◌, inl, inr, ⊎_elim, Bool, true, false, if◌then◌else◌, List, [], ◌∷◌, ◌++◌, map, Option, Some, None, slice_get, refl, sym, ap, subst, ◌∙◌, append-nil, append_assoc, arith}
use Rattle.ws_value.specs.declared.ids.PortId.{PortId}
use Rattle.ws_value.specs.declared.ids.PromiseId.{PromiseId}
use Rattle.ws_value.specs.declared.ids.StreamId.{StreamId}
use Rattle.ws_value.specs.declared.value.Message.{Message}
use Rattle.ws_value.specs.declared.value.Message.TheVariants.{Chunk as ChunkMessage}
use Rattle.ws_value.specs.declared.value.Value.{Value}
use Rattle.ws_steps.specs.declared.calls.Call.{Call}
use Rattle.ws_steps.specs.declared.effects.Effect.{Effect}
use Rattle.ws_steps.specs.declared.effects.Effect.TheVariants.{Writable, Port}
use Rattle.ws_steps.specs.declared.effects.Owner.TheVariants.{EndOf}
use Rattle.ws_steps.specs.declared.port.PortOperation.{PortOperation}
use Rattle.ws_steps.specs.declared.port.PortOperation.TheVariants as ports
use Rattle.ws_steps.specs.declared.port.Side.TheVariants.{Writable as WritableSide}
use Rattle.ws_steps.specs.declared.transform.Taker.{Taker}
use Rattle.ws_steps.specs.declared.transform.Taker.TheVariants.{ToHost, ToTransform, ToPort}
use Rattle.ws_steps.specs.declared.writable.WritableOperation.{WritableOperation}
use Rattle.ws_steps.specs.declared.writable.WritableOperation.TheVariants as writes
use Rattle.ws_steps.specs.Calls.{begin}
use Rattle.ws_steps.specs.Cross as cross
use Rattle.ws_steps.specs.Histories as histories
use Rattle.ws_steps.specs.Histories.{is_same, along, over, taken_event, run_events}
use Rattle.ws_steps.specs.Jobs.{job_effects}
use Rattle.ws_steps.specs.Operations.{port_operation}
use Rattle.ws_steps.specs.PortHistory.{is_same_port, posted_in, chunks_in}
use Rattle.ws_steps.specs.Promises.{after_next_job}
use Rattle.ws_steps.specs.Run.{Entry, Called, Worked, Heard, run, step, later_events, after_event, moments_in}
use Rattle.ws_steps.specs.Slots.{Slots, Stream, Done, empty, owner_at, has_writable, writable_at, with_promises, clones_at}
use Rattle.ws_steps.specs.Turns.{Moment, row}
use Rattle.ws_steps.specs.WritableHistory.{Writes, no_writes, writes_then, first_chunk, effect_writes, run_writes}
use Rattle.ws_laws.proofs.Begin.{begin-makes}
use Rattle.ws_laws.proofs.Ended.{PortShape, port_shape, port_shapes, row-port_shapes, Ended}
use Rattle.ws_laws.proofs.Halves.{Halved, halved-stays, halved-empty}
use Rattle.ws_laws.proofs.Lists.{Each, each-append, each-map}
use Rattle.ws_laws.proofs.PortDoes.{port-causes}
use Rattle.ws_laws.proofs.Shapes.{StreamShape, WritableOf, stream_shape, stream_shapes, map-there, row-stream_shapes}
use Rattle.ws_laws.proofs.Tables.{same_id, is_same-refl, eq_numbers}
use Rattle.ws_laws.proofs.Walker as walker
use Rattle.ws_laws.proofs.Walker.{IsHistory, Goes, Rests, GoesUntold, RestsUntold}
use Rattle.ws_writable_laws.proofs.Runs.{is_history}
use Rattle.ws_tee_port_laws.proofs.ports.Acted.{pend, pends, pends-append, IsNone, none-pends, Behind, behind-next, none-behind, IsElsewhere, row-none, begun-none, chunks-append, IsPost, given-none, hand-row}
use Rattle.ws_tee_port_laws.proofs.ports.ActedPlaces.{Mine, IsTo, Placed, mine-shape, mine-owner, mine-writable, row-placed, begun-placed}
use Rattle.ws_tee_port_laws.proofs.ports.Ends.{heard-said}
use Rattle.ws_tee_port_laws.proofs.ports.Fitting.{Fits, IsBegun, call-begun, job-begun, fitting-empty}
use Rattle.ws_tee_port_laws.proofs.ports.Once.{NotMine, row-leaves, row-mine, no-mine, by-port}
use Rattle.ws_tee_port_laws.proofs.ports.Posting.{given, is_same_port-refl, port_acts}
use Rattle.ws_tee_port_laws.proofs.ports.PostingRuns.{Past, nothing_past, then_past, past-history, untold_past, said, all_posted, Whole, posting-goes, posting-rests, PortsNow, call-ports, last-place, split-events}
use Rattle.ws_tee_port_laws.proofs.ports.Told.{posted, posted-append, call-events, next-events, watch-posted}

-- what happened before: to the port, and what went through a stream
pub record Deeds : Type 0 where
  pub past : Past
  pub writes : Writes

abbrev pub nothing_done : Deeds
nothing_done = record { past = nothing_past; writes = no_writes }

abbrev pub then_done : Deeds → Deeds → Deeds
then_done f g = record { past = then_past f.past g.past; writes = writes_then f.writes g.writes }

pub done-history : IsHistory nothing_done then_done
done-history = record {
  left = λ h k. record { past = past-history.left h.past k; writes = is_history.left h.writes k };
  right = λ h k. record { past = past-history.right h.past k; writes = is_history.right h.writes k };
  assoc = λ f g h k. record { past = past-history.assoc f.past g.past h.past k; writes = is_history.assoc f.writes g.writes h.writes k };
}

-- shapes of streams stay as calls make others
shape-call : (i : StreamId) (y : StreamShape) (call : Call) (s : Slots) → slice_get (stream_shapes s) i.0 ≡ Some y → slice_get (stream_shapes (begin call s).done.slots) i.0 ≡ Some y
shape-call i y call s h = begin-makes (λ z. slice_get (stream_shapes z) i.0 ≡ Some y) (record {
  promise = λ z h. h;
  locks = λ z ls h. h;
  hosts = λ z hs h. h;
  pipe = λ z source dest prevent signal promise h. h;
  signal = λ z h. h;
  transform = λ z kind w r change h. h;
  tee = λ z source first second cancel h. h;
  port = λ z side stream backpressure h. h;
  bytes = λ z mark auto h. more z.streams i.0 _ y h;
  byob_requests = λ z hs h. h;
  readable = λ z o mark size h. more z.streams i.0 _ y h;
  writable = λ z o mark size h. more z.streams i.0 _ y h;
}) call s h
  where
    more : (xs : List Stream) (n : ℕ) (x : Stream) (y : StreamShape) → slice_get (map stream_shape xs) n ≡ Some y → slice_get (map stream_shape (xs ++ x ∷ [])) n ≡ Some y
    more [] n x y e = cc
    more (z ∷ zs) zero x y e = e
    more (z ∷ zs) (suc n) x y e = more zs n x y e

module _ (c : PortId) where
  -- what was acted on: what was posted, and what is to be posted
  abbrev pub Acts : List Value → List Value → List Effect → Type 0
  Acts acted chunks es = acted ≡ chunks ++ pends c es

  -- an effect posts nothing, and what it hands on is to be posted
  hands-on : (a ms new : List Value) (e : Effect) (es cs : List Effect) → pend c e ≡ [] → pends c es ≡ [] → new ≡ pends c cs → Acts a ms (e ∷ es) → Acts (a ++ new) ms (cs ++ es)
  hands-on a ms new e es cs none behind is k =
      let was : a ≡ ms = k ∙ rw (none, behind) (append-nil ms) in
      let now : pends c (cs ++ es) ≡ new = pends-append c cs es ∙ (rw behind (append-nil (pends c cs)) ∙ sym is) in
      rw (was, now) refl

  -- nothing is to be posted
  stands : (a ms : List Value) (es : List Effect) → pends c es ≡ [] → Acts a ms [] → Acts a ms es
  stands a ms es none k = rw none k

  module _ (i : StreamId) where
    abbrev pub told : Effect → Slots → Deeds
    told e s = record { past = untold_past e s; writes = effect_writes i e s }

    abbrev pub happened : Slots → Entry → Deeds
    happened s x = record { past = said c s x; writes = no_writes }

    -- stream i is at the writable end of the port
    pub record IsEnd (s : Slots) (x : cross.Slots) : Type 0 where
      pub there : slice_get s.ports c.0 ≡ Some x
      pub side : x.side ≡ WritableSide
      pub stream : x.stream ≡ i

    pub end-mine : (s : Slots) (x : cross.Slots) → IsEnd s x → Mine c i s
    end-mine s x k = map-there port_shape s.ports c.0 x k.there ∙ ap (λ (y : PortShape). Some y) (λ n. record { side = k.side n; stream = k.stream n })

    abbrev pub Acted : Deeds → Slots → List Effect → Type 0
    Acted h s es = (x : cross.Slots) → IsEnd s x → Acts h.writes.acted (chunks_in (all_posted c h.past s)) es

    -- each effect

    -- only an operation of the stream by which a chunk is handed on
    abbrev IsHandOn : Effect → Type 0
    IsHandOn (Writable j (writes.HandOn taker)) = is_same i j ≡ true
    IsHandOn _ = ⊥

    none-acted : (e : Effect) (s : Slots) → (IsHandOn e → ⊥) → (effect_writes i e s).acted ≡ []
    none-acted (Writable j (writes.HandOn taker)) s n = by (is_same i j) refl
      where
        by : (b : Bool) → b ≡ is_same i j → (effect_writes i (Writable j (writes.HandOn taker)) s).acted ≡ []
        by true e = absurd (n (sym e))
        by false e = rw (← e) refl
    none-acted e s n = grind arith

    -- where the stream isn't there, nothing is acted on
    absent-acted : (e : Effect) (s : Slots) → slice_get (stream_shapes s) i.0 ≡ None → (effect_writes i e s).acted ≡ []
    absent-acted (Writable j (writes.HandOn taker)) s none = by (is_same i j) refl
      where
        no_stream : (xs : List Stream) (n : ℕ) → slice_get (map stream_shape xs) n ≡ None → slice_get xs n ≡ None
        no_stream [] n e = refl
        no_stream (x ∷ xs) zero e = cc
        no_stream (x ∷ xs) (suc n) e = no_stream xs n e

        by : (b : Bool) → b ≡ is_same i j → (effect_writes i (Writable j (writes.HandOn taker)) s).acted ≡ []
        by true e =
            let is : i ≡ j = same_id i j (sym e) in
            let absent : slice_get s.streams j.0 ≡ None = subst (λ (k : StreamId). slice_get s.streams k.0 ≡ None) is (no_stream s.streams i.0 none) in
            rw (← e, absent) refl
        by false e = rw (← e) refl
    absent-acted e s none = grind arith

    -- the end is the same after an effect of another port, or of none
    other-end : (e : Effect) (s : Slots) (x : cross.Slots) → NotMine c e → IsEnd (row e s).slots x → IsEnd s x
    other-end e s x n k = record { there = sym (row-leaves c e s n).1 ∙ k.there; side = k.side; stream = k.stream }

    pend-none : (e : Effect) → NotMine c e → pend c e ≡ []
    pend-none (Port d (ports.PostChunk v p)) n = rw n refl
    pend-none e n = grind (arith, n)

    abbrev Now : Deeds → Slots → Effect → List Effect → Type 0
    Now h s e es = Acted (then_done h (told e s)) (row e s).slots ((row e s).caused ++ es)

    -- what was posted is the same
    same-posted : (h : Deeds) (s z : Slots) → posted c z.promises ≡ posted c s.promises → chunks_in (all_posted c (then_past h.past nothing_past) z) ≡ chunks_in (all_posted c h.past s)
    same-posted h s z e = ap (λ (ms : List Message). chunks_in (ms ++ posted c z.promises)) (append-nil h.past.heard) ∙ ap (λ (ms : List Message). chunks_in (h.past.heard ++ ms)) e

    other-acted : (h : Deeds) (s : Slots) (e : Effect) (es : List Effect) → NotMine c e → (effect_writes i e s).acted ≡ pends c (row e s).caused → pends c es ≡ [] → Acted h s (e ∷ es) → Now h s e es
    other-acted h s e es n is behind k x end =
        rw (same-posted h s (row e s).slots (row-leaves c e s n).0)
        (hands-on h.writes.acted _ (effect_writes i e s).acted e es (row e s).caused (pend-none e n) behind is (k x (other-end e s x n end)))

    -- an effect that hands on no chunk of the stream
    quiet-acted : (h : Deeds) (s : Slots) (e : Effect) (es : List Effect) → NotMine c e → (IsHandOn e → ⊥) → IsElsewhere c e → pends c es ≡ [] → Acted h s (e ∷ es) → Now h s e es
    quiet-acted h s e es n u o behind k = other-acted h s e es n (none-acted e s u ∙ sym (none-pends c (row e s).caused (row-none c e s o))) behind k

    -- an operation of a writable stream

    hand-acted : (h : Deeds) (s : Slots) (j : StreamId) (taker : Taker) (es : List Effect) → is_same i j ≡ true → IsTo c i taker → pends c es ≡ [] → Acted h s (Writable j (writes.HandOn taker) ∷ es) → Now h s (Writable j (writes.HandOn taker)) es
    hand-acted h s j ToHost es same to behind k = absurd to
    hand-acted h s j (ToTransform t d) es same to behind k = absurd to
    hand-acted h s j (ToPort d p) es same to behind k =
        let is : (effect_writes i (Writable j (writes.HandOn (ToPort d p))) s).acted ≡ first_chunk (writable_at j s).queue = rw same refl in
        other-acted h s (Writable j (writes.HandOn (ToPort d p))) es tt (is ∙ (hand-row c j d p s to).0) behind k

    far-elsewhere : (s : Slots) (j : StreamId) (operation : WritableOperation) (x : cross.Slots) → IsEnd s x → is_same i j ≡ false → Fits (stream_shapes s) (port_shapes s) (Writable j operation) → IsElsewhere c (Writable j operation)
    far-elsewhere s j (writes.HandOn (ToPort d p)) x k n f = by (is_same_port c d) refl
      where
        by : (b : Bool) → b ≡ is_same_port c d → is_same_port c d ≡ false
        by false e = sym e
        by true e =
            let is : c ≡ d = ap (λ (m : ℕ). record { 0 = m }) (eq_numbers c.0 d.0 (sym e)) in
            let at : slice_get (port_shapes s) d.0 ≡ Some (port_shape x) = subst (λ (q : PortId). slice_get (port_shapes s) q.0 ≡ Some (port_shape x)) is (map-there port_shape s.ports c.0 x k.there) in
            let one : x.stream ≡ j = f (port_shape x) at in
            let two : i ≡ j = sym k.stream ∙ one in
            let yes : is_same i j ≡ true = rw (← two) (is_same-refl i) in cc
    far-elsewhere s j operation x k n f = grind arith

    hand-here : (operation : WritableOperation) → ((taker : Taker) × (operation ≡ writes.HandOn taker)) ⊎ ((j : StreamId) → IsElsewhere c (Writable j operation) × (IsHandOn (Writable j operation) → ⊥))
    hand-here (writes.HandOn taker) = inl (taker, refl)
    hand-here operation = inr (λ j. (grind arith, λ u. grind (arith, u)))

    writable-acted : (h : Deeds) (s : Slots) (j : StreamId) (operation : WritableOperation) (es : List Effect) → Fits (stream_shapes s) (port_shapes s) (Writable j operation) → pends c es ≡ []
        → (Mine c i s → Placed c i (Writable j operation)) → Acted h s (Writable j operation ∷ es) → Now h s (Writable j operation) es
    writable-acted h s j operation es f behind placed k x end = by (is_same i j) refl
      where
        was : IsEnd s x
        was = other-end (Writable j operation) s x tt end

        by : (same : Bool) → same ≡ is_same i j → let e = Writable j operation in Acts (then_done h (told e s)).writes.acted (chunks_in (all_posted c (then_done h (told e s)).past (row e s).slots)) ((row e s).caused ++ es)
        by true e =
            ⊎_elim (λ is. handed is.0 is.1)
            (λ other. quiet-acted h s (Writable j operation) es tt (other j).1 (other j).0 behind k x end) (hand-here operation)
          where
            handed : (taker : Taker) → operation ≡ writes.HandOn taker → let e = Writable j operation in Acts (then_done h (told e s)).writes.acted (chunks_in (all_posted c (then_done h (told e s)).past (row e s).slots)) ((row e s).caused ++ es)
            handed taker is =
                let to : IsTo c i taker = (subst (λ (o : WritableOperation). Placed c i (Writable j o)) is (placed (end-mine s x was))) (sym e) in
                subst (λ (o : WritableOperation). Now h s (Writable j o) es) (sym is) (hand-acted h s j taker es (sym e) to behind (subst (λ (o : WritableOperation). Acted h s (Writable j o ∷ es)) is k)) x end
        by false e = quiet-acted h s (Writable j operation) es tt (λ u. not_own operation u) (far-elsewhere s j operation x was (sym e) f) behind k x end
          where
            not_own : (o : WritableOperation) → IsHandOn (Writable j o) → ⊥
            not_own (writes.HandOn taker) u = cc
            not_own o u = grind (arith, u)

    -- an operation of its own port

    -- the port before, and what it leaves
    own-end : (operation : PortOperation) (s : Slots) (x y : cross.Slots) → slice_get s.ports c.0 ≡ Some x → IsEnd (row (Port c operation) s).slots y
        → (y ≡ (port_operation c (clones_at x s) operation (port_acts c x s.promises)).slots) × IsEnd s x
    own-end operation s x y is k =
        let r = row-mine c operation s x is in
        let b : cross.Acts = port_operation c (clones_at x s) operation (port_acts c x s.promises) in
        let both : Some b.slots ≡ Some y = sym r.slot ∙ k.there in
        let same : y ≡ b.slots = cc in
        let d = port-causes c (clones_at x s) operation (port_acts c x s.promises) tt in
        (same, record { there = is; side = sym d.0 ∙ (ap (λ (z : cross.Slots). z.side) (sym same) ∙ k.side); stream = sym d.1.0 ∙ (ap (λ (z : cross.Slots). z.stream) (sym same) ∙ k.stream) })

    -- the chunks that were posted then
    own-posted : (h : Deeds) (s : Slots) (operation : PortOperation) (x : cross.Slots) → slice_get s.ports c.0 ≡ Some x
        → chunks_in (all_posted c (then_past h.past nothing_past) (row (Port c operation) s).slots) ≡ chunks_in (all_posted c h.past s) ++ chunks_in (given (clones_at x s) operation x)
    own-posted h s operation x is =
        let r = row-mine c operation s x is in
        rw (append-nil h.past.heard, r.told)
        (ap chunks_in (sym (append_assoc h.past.heard (posted c s.promises) (given (clones_at x s) operation x))) ∙ chunks-append c (all_posted c h.past s) (given (clones_at x s) operation x))

    -- one that posts no chunk
    rest-posted : (a ms : List Value) (e : Effect) (es cs : List Effect) (new : List Value) → new ≡ [] → pend c e ≡ [] → pends c es ≡ [] → pends c cs ≡ [] → Acts a ms (e ∷ es) → Acts (a ++ []) (ms ++ new) (cs ++ es)
    rest-posted a ms e es cs new none pend_e behind quiet k = rw (none, append-nil ms) (hands-on a ms [] e es cs pend_e behind (sym quiet) k)

    resting-acted : (h : Deeds) (s : Slots) (operation : PortOperation) (es : List Effect) (x : cross.Slots) → slice_get s.ports c.0 ≡ Some x → (IsPost c operation → ⊥) → pend c (Port c operation) ≡ [] → pends c es ≡ []
        → Acted h s (Port c operation ∷ es) → Now h s (Port c operation) es
    resting-acted h s operation es x is n none behind k y end =
        let o = own-end operation s x y is end in
        let quiet = none-pends c (row (Port c operation) s).caused (row-none c (Port c operation) s tt) in
        rw (own-posted h s operation x is)
        (rest-posted h.writes.acted _ (Port c operation) es (row (Port c operation) s).caused (chunks_in (given (clones_at x s) operation x)) (given-none c (clones_at x s) operation x n) none behind quiet (k x o.1))

    -- a chunk is posted
    post-by : (a ms : List Value) (v : Value) (p : PromiseId) (es cs : List Effect) (live : Bool) → live ≡ true → pends c es ≡ [] → pends c cs ≡ [] → Acts a ms (Port c (ports.PostChunk v p) ∷ es)
        → Acts (a ++ []) (ms ++ chunks_in (if live then ChunkMessage v ∷ [] else [])) (cs ++ es)
    post-by a ms v p es cs live is behind quiet k = rw is (append-nil a ∙ (k ∙ rw (pending, nothing_left) (sym (append-nil (ms ++ v ∷ [])))))
      where
        pending : pends c (Port c (ports.PostChunk v p) ∷ es) ≡ v ∷ []
        pending = rw (is_same_port-refl c, behind) refl

        nothing_left : pends c (cs ++ es) ≡ []
        nothing_left = pends-append c cs es ∙ rw (quiet, behind) refl

    -- a chunk that is to be posted finds the port entangled
    abbrev Lives : Slots → Effect → Type 0
    Lives s e = (v : Value) (p : PromiseId) (x : cross.Slots) → e ≡ Port c (ports.PostChunk v p) → IsEnd s x → x.live ≡ true

    posting-acted : (h : Deeds) (s : Slots) (v : Value) (p : PromiseId) (es : List Effect) (x : cross.Slots) → slice_get s.ports c.0 ≡ Some x → Lives s (Port c (ports.PostChunk v p)) → pends c es ≡ []
        → Acted h s (Port c (ports.PostChunk v p) ∷ es) → Now h s (Port c (ports.PostChunk v p)) es
    posting-acted h s v p es x is lives behind k y end =
        let operation : PortOperation = ports.PostChunk v p in
        let o = own-end operation s x y is end in
        let quiet = none-pends c (row (Port c operation) s).caused (row-none c (Port c operation) s tt) in
        rw (own-posted h s operation x is) (post-by h.writes.acted _ v p es (row (Port c operation) s).caused x.live (lives v p x refl o.1) behind quiet (k x o.1))

    mine-acted : (h : Deeds) (s : Slots) (operation : PortOperation) (es : List Effect) (x : cross.Slots) → slice_get s.ports c.0 ≡ Some x → Lives s (Port c operation) → pends c es ≡ []
        → Acted h s (Port c operation ∷ es) → Now h s (Port c operation) es
    mine-acted h s (ports.PostChunk v p) es x is lives behind k = posting-acted h s v p es x is lives behind k
    mine-acted h s operation es x is lives behind k = resting-acted h s operation es x is (λ u. u) refl behind k

    port-acted : (h : Deeds) (s : Slots) (d : PortId) (operation : PortOperation) (es : List Effect) → Lives s (Port d operation) → pends c es ≡ [] → Acted h s (Port d operation ∷ es) → Now h s (Port d operation) es
    port-acted h s d operation es lives behind k =
        by-port c (λ q. Lives s (Port q operation) → Acted h s (Port q operation ∷ es) → Now h s (Port q operation) es) d
        (λ n f l. quiet-acted h s (Port d operation) es n (λ u. u) tt behind l) (λ f l. own (slice_get s.ports c.0) refl f l) lives k
      where
        own : (o : Option cross.Slots) → slice_get s.ports c.0 ≡ o → Lives s (Port c operation) → Acted h s (Port c operation ∷ es) → Now h s (Port c operation) es
        own (Some x) is f l = mine-acted h s operation es x is f behind l
        own None is f l = λ y end.
            let absent : slice_get (row (Port c operation) s).slots.ports c.0 ≡ None = ap (λ (z : Done). slice_get z.slots.ports c.0) (no-mine c operation s is) ∙ is in
            let no : None ≡ Some y = sym absent ∙ end.there in cc

    row-acted : (h : Deeds) (s : Slots) (e : Effect) (es : List Effect) → Fits (stream_shapes s) (port_shapes s) e → Lives s e → pends c es ≡ [] → (Mine c i s → Placed c i e) → Acted h s (e ∷ es) → Now h s e es
    row-acted h s (Port d operation) es f lives behind placed k = port-acted h s d operation es lives behind k
    row-acted h s (Writable j operation) es f lives behind placed k = writable-acted h s j operation es f behind placed k
    row-acted h s e es f lives behind placed k = quiet-acted h s e es tt (λ u. u) tt behind k

    -- calls and jobs

    none-of : (es : List Effect) → Each IsBegun es → pends c es ≡ []
    none-of es b = none-pends c es (each-map IsBegun (IsNone c) (begun-none c) es b)

    placed-of : (es : List Effect) → Each IsBegun es → Each (Placed c i) es
    placed-of es b = each-map IsBegun (Placed c i) (begun-placed c i) es b

    -- the stream of a new port wasn't there
    new-absent : (call : Call) (s : Slots) (y : cross.Slots) → Ended s → Ended (begin call s).done.slots → slice_get s.ports c.0 ≡ None → IsEnd (begin call s).done.slots y → slice_get (stream_shapes s) i.0 ≡ None
    new-absent call s y before after none k = by (slice_get (stream_shapes s) i.0) refl
      where
        no_port : (xs : List cross.Slots) (n : ℕ) (x : PortShape) → slice_get xs n ≡ None → slice_get (map port_shape xs) n ≡ Some x → ⊥
        no_port [] n x e f = cc
        no_port (z ∷ zs) zero x e f = cc
        no_port (z ∷ zs) (suc n) x e f = no_port zs n x e f

        by : (o : Option StreamShape) → o ≡ slice_get (stream_shapes s) i.0 → slice_get (stream_shapes s) i.0 ≡ None
        by None e = sym e
        by (Some w) e =
            let later = shape-call i w call s (sym e) in
            let is : slice_get (stream_shapes (begin call s).done.slots) i.0 ≡ Some (WritableOf (EndOf c)) = mine-shape c i (begin call s).done.slots after (end-mine (begin call s).done.slots y k) in
            let same : Some w ≡ Some (WritableOf (EndOf c)) = sym later ∙ is in
            let at : slice_get (stream_shapes s) i.0 ≡ Some (WritableOf (EndOf c)) = sym e ∙ same in
            absurd (no_port s.ports c.0 _ none (before.end i c WritableSide at))

    -- the port was there
    call-there : (h : Deeds) (call : Call) (s : Slots) (y : cross.Slots) → slice_get (begin call s).done.slots.ports c.0 ≡ slice_get s.ports c.0 → IsEnd (begin call s).done.slots y → Acted h s []
        → Acts h.writes.acted (chunks_in (all_posted c h.past s)) (begin call s).done.caused
    call-there h call s y same k acts =
        stands h.writes.acted _ (begin call s).done.caused (none-of (begin call s).done.caused (call-begun call s)) (acts y (record { there = sym same ∙ k.there; side = k.side; stream = k.stream }))

    -- where it is known that a chunk which is handed on finds the port entangled
    module _ (Living : Writes → Slots → List Effect → Type 0) (goes : GoesUntold writes_then (effect_writes i) Living) (rests : RestsUntold Living) (none_living : Living no_writes empty [])
        (lives : (h : Writes) (s : Slots) (v : Value) (p : PromiseId) (es : List Effect) (x : cross.Slots) → Living h s (Port c (ports.PostChunk v p) ∷ es) → owner_at i s ≡ EndOf c → has_writable i s ≡ true → slice_get s.ports c.0 ≡ Some x → x.live ≡ true) where
      pub record Acting (h : Deeds) (s : Slots) (es : List Effect) : Type 0 where
        pub living : Living h.writes s es
        pub posting : Whole c h.past s es
        pub halved : Halved s
        pub behind : Behind c es
        pub unmade : slice_get (stream_shapes s) i.0 ≡ None → h.writes.acted ≡ []
        pub placed : Mine c i s → Each (Placed c i) es
        pub acted : Acted h s es

      -- or it is new
      call-new : (h : Deeds) (call : Call) (s : Slots) (y : cross.Slots) → Ended (begin call s).done.slots → slice_get s.ports c.0 ≡ None → IsEnd (begin call s).done.slots y → Acting h s []
          → Acts h.writes.acted (chunks_in (all_posted c h.past s)) (begin call s).done.caused
      call-new h call s y after none k a =
          let acted : h.writes.acted ≡ [] = a.unmade (new-absent call s y a.posting.0.0 after none k) in
          let held : (h.past.taken ≡ []) × (all_posted c h.past s ≡ []) = rw none at a.posting.1 in
          rw (acted, held.1, none-of (begin call s).done.caused (call-begun call s)) refl

      call-posted : (h : Deeds) (call : Call) (s : Slots) → all_posted c (then_past h.past (said c s (Called call))) (begin call s).done.slots ≡ all_posted c h.past s
      call-posted h call s = rw (append-nil h.past.heard) (ap (λ (ms : List Message). h.past.heard ++ ms) (ap (posted_in c) (call-events call s)))

      call-acted : (h : Deeds) (call : Call) (s : Slots) → Ended (begin call s).done.slots → Acting h s [] → Acted (then_done h (happened s (Called call))) (begin call s).done.slots (begin call s).done.caused
      call-acted h call s after a y k = rw (append-nil h.writes.acted, call-posted h call s) (by (call-ports call s))
        where
          by : PortsNow s (begin call s).done.slots → Acts h.writes.acted (chunks_in (all_posted c h.past s)) (begin call s).done.caused
          by (inl e) = call-there h call s y (ap (λ (xs : List cross.Slots). slice_get xs c.0) e) k a.acted
          by (inr (x, (e, new))) =
              ⊎_elim (λ same. call-there h call s y (ap (λ (xs : List cross.Slots). slice_get xs c.0) e ∙ same) k a.acted)
              (λ made. call-new h call s y after made.0 k a) (last-place s.ports x c.0)

      -- the same streams, ports and posts
      still-acted : (h g : Deeds) (s z : Slots) (es : List Effect) → z.ports ≡ s.ports → g.writes.acted ≡ h.writes.acted → all_posted c g.past z ≡ all_posted c h.past s → pends c es ≡ [] → Acted h s [] → Acted g z es
      still-acted h g s z es p a m none k y end =
          rw (a, m) (stands h.writes.acted _ es none (k y (record { there = ap (λ (xs : List cross.Slots). slice_get xs c.0) (sym p) ∙ end.there; side = end.side; stream = end.stream })))

      pub acting-goes : Goes then_done told happened Acting
      acting-goes = record {
        row = λ h s e es a. record {
          living = goes.row h.writes s e es a.living;
          posting = (posting-goes c).row h.past s e es a.posting;
          halved = halved-stays.row s e es a.halved;
          behind = row-behind h s e es a;
          unmade = λ none. let before : slice_get (stream_shapes s) i.0 ≡ None = ap (λ (ys : List StreamShape). slice_get ys i.0) (sym (row-stream_shapes e s)) ∙ none in rw (a.unmade before, absent-acted e s before) refl;
          placed = λ m. let k = row-mine-placed s e m in each-append (Placed c i) (row e s).caused es (row-placed c i s a.halved a.posting.0.0 k e) (a.placed k).1;
          acted = row-acted h s e es a.posting.0.1.0 (λ v p x is end. lives h.writes s v p es x (subst (λ (f : Effect). Living h.writes s (f ∷ es)) is a.living) (mine-owner c i s a.posting.0.0 (end-mine s x end)) (mine-writable c i s a.posting.0.0 (end-mine s x end)) end.there) a.behind (λ m. (a.placed m).0) a.acted;
        };
        call = λ h s call a. let p = (posting-goes c).call h.past s call a.posting in record {
          living = rw (is_history.right h.writes) (goes.call h.writes s call a.living);
          posting = p;
          halved = halved-stays.call s call a.halved;
          behind = none-behind c (begin call s).done.caused (each-map IsBegun (IsNone c) (begun-none c) (begin call s).done.caused (call-begun call s));
          unmade = λ none. rw (append-nil h.writes.acted) (a.unmade (call-absent call s none));
          placed = λ m. placed-of (begin call s).done.caused (call-begun call s);
          acted = call-acted h call s p.0.0 a;
        };
        job = λ h s job e a. record {
          living = rw (is_history.right h.writes) (goes.job h.writes s job e a.living);
          posting = (posting-goes c).job h.past s job e a.posting;
          halved = a.halved;
          behind = none-behind c (job_effects job) (each-map IsBegun (IsNone c) (begun-none c) (job_effects job) (job-begun job));
          unmade = λ none. rw (append-nil h.writes.acted) (a.unmade none);
          placed = λ m. placed-of (job_effects job) (job-begun job);
          acted = still-acted h (then_done h (happened s Worked)) s (with_promises (after_next_job s.promises) s) (job_effects job) refl (append-nil h.writes.acted)
              (rw (append-nil h.past.heard) (ap (λ (ms : List Message). h.past.heard ++ ms) (ap (posted_in c) (next-events s.promises)))) (none-of (job_effects job) (job-begun job)) a.acted;
        };
        idle = λ h s e a. rw (done-history.right h) a;
        answered = λ h s p a. record {
          living = goes.answered h.writes s p a.living;
          posting = (posting-goes c).answered h.past s p a.posting;
          halved = a.halved;
          behind = tt;
          unmade = a.unmade;
          placed = λ m. tt;
          acted = still-acted h h s _ [] refl refl (ap (λ (ms : List Message). h.past.heard ++ ms) (watch-posted c p s.promises)) refl a.acted;
        };
        older = λ h s a. record { living = goes.older h.writes s a.living; posting = (posting-goes c).older h.past s a.posting; halved = a.halved; behind = tt; unmade = a.unmade; placed = λ m. tt; acted = λ y end. a.acted y (record { there = end.there; side = end.side; stream = end.stream }) };
      }
        where
          row-mine-placed : (s : Slots) (e : Effect) → Mine c i (row e s).slots → Mine c i s
          row-mine-placed s e m = ap (λ (ps : List PortShape). slice_get ps c.0) (sym (row-port_shapes e s)) ∙ m

          row-behind : (h : Deeds) (s : Slots) (e : Effect) (es : List Effect) → Acting h s (e ∷ es) → Behind c ((row e s).caused ++ es)
          row-behind h s e es a = behind-next c (row e s).caused es (caused-behind s e) a.behind
            where
              caused-behind : (s : Slots) (e : Effect) → Behind c (row e s).caused
              caused-behind s (Writable j (writes.HandOn (ToPort d p))) = by (is_same_port c d) refl
                where
                  by : (b : Bool) → b ≡ is_same_port c d → Behind c (row (Writable j (writes.HandOn (ToPort d p))) s).caused
                  by true e = (hand-row c j d p s (sym e)).1
                  by false e = none-behind c _ (row-none c (Writable j (writes.HandOn (ToPort d p))) s (sym e))
              caused-behind s e = none-behind c (row e s).caused (row-none c e s tt)

          call-absent : (call : Call) (s : Slots) → slice_get (stream_shapes (begin call s).done.slots) i.0 ≡ None → slice_get (stream_shapes s) i.0 ≡ None
          call-absent call s none = by (slice_get (stream_shapes s) i.0) refl
            where
              by : (o : Option StreamShape) → o ≡ slice_get (stream_shapes s) i.0 → slice_get (stream_shapes s) i.0 ≡ None
              by None e = sym e
              by (Some w) e = let later = shape-call i w call s (sym e) in let no : None ≡ Some w = sym none ∙ later in cc

      pub acting-rests : Rests then_done happened Acting
      acting-rests = record {
        heard = λ h s a. record {
          living = rw (is_history.right h.writes) (rests.heard h.writes s a.living);
          posting = (posting-rests c).heard h.past s a.posting;
          halved = a.halved;
          behind = tt;
          unmade = λ none. rw (append-nil h.writes.acted) (a.unmade none);
          placed = λ m. tt;
          acted = still-acted h (then_done h (happened s Heard)) s (after_event s) [] refl (append-nil h.writes.acted)
              (append_assoc h.past.heard (posted_in c (taken_event s.promises.events)) (posted_in c (later_events s.promises.events)) ∙ ap (λ (ms : List Message). h.past.heard ++ ms) (split-events c s.promises.events)) refl a.acted;
        };
      }

      acting-empty : Acting nothing_done empty []
      acting-empty = record { living = none_living; posting = (fitting-empty, (refl, refl)); halved = halved-empty; behind = tt; unmade = λ n. refl; placed = λ m. tt; acted = λ y end. let no : None ≡ Some y = end.there in cc }

      -- over a run

      abbrev told_in : Slots → Entry → Deeds
      told_in = walker.happens nothing_done then_done done-history told happened Acting acting-goes

      along-writes : (ms : List Moment) → (along nothing_done then_done told ms).writes ≡ along no_writes writes_then (effect_writes i) ms
      along-writes [] = refl
      along-writes (m ∷ ms) = ap (λ (w : Writes). writes_then (effect_writes i m.effect m.found) w) (along-writes ms)

      along-past : (ms : List Moment) → (along nothing_done then_done told ms).past ≡ nothing_past
      along-past [] = refl
      along-past (m ∷ ms) = rw (along-past ms) refl

      run-acts : (xs : List Entry) (s : Slots) → (over nothing_done then_done told_in xs s).writes ≡ run_writes i xs s
      run-acts [] s = refl
      run-acts (x ∷ xs) s =
          let one : (told_in s x).writes ≡ along no_writes writes_then (effect_writes i) (moments_in s x) = is_history.left _ ∙ along-writes (moments_in s x) in
          ap (λ (w : Writes). writes_then w (over nothing_done then_done told_in xs (step s x)).writes) one ∙ ap (λ (w : Writes). writes_then (along no_writes writes_then (effect_writes i) (moments_in s x)) w) (run-acts xs (step s x))

      run-heards : (xs : List Entry) (s : Slots) → (over nothing_done then_done told_in xs s).past.heard ++ posted c (run xs s).promises ≡ posted_in c (run_events xs s)
      run-heards [] s = refl
      run-heards (x ∷ xs) s =
          let rest = over nothing_done then_done told_in xs (step s x) in
          let one : (told_in s x).past ≡ said c s x = ap (λ (p : Past). then_past (said c s x) p) (along-past (moments_in s x)) ∙ past-history.right (said c s x) in
          let heard : (told_in s x).past.heard ≡ posted_in c (histories.taken_in_step s x) = ap (λ (p : Past). p.heard) one ∙ heard-said c s x in
          ap (λ (ms : List Message). (ms ++ rest.past.heard) ++ posted c (run xs (step s x)).promises) heard
          ∙ (append_assoc (posted_in c (histories.taken_in_step s x)) rest.past.heard (posted c (run xs (step s x)).promises)
          ∙ (ap (λ (ms : List Message). posted_in c (histories.taken_in_step s x) ++ ms) (run-heards xs (step s x)) ∙ sym (posted-append c (histories.taken_in_step s x) (run_events xs (step s x)))))

      -- what the stream acted on in a run is what the port posted
      pub run-acted : (entries : List Entry) (x : cross.Slots) → IsEnd (run entries empty) x → (run_writes i entries empty).acted ≡ chunks_in (posted_in c (run_events entries empty))
      run-acted entries x k =
          let a : Acting (then_done nothing_done (over nothing_done then_done told_in entries empty)) (run entries empty) [] = walker.run-goes nothing_done then_done done-history told happened Acting acting-goes acting-rests entries nothing_done empty acting-empty in
          let acts = a.acted x k in
          ap (λ (w : Writes). w.acted) (sym (run-acts entries empty)) ∙ (acts ∙ (append-nil _ ∙ ap chunks_in (run-heards entries empty)))
