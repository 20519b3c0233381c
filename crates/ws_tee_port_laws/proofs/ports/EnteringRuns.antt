-- What entered the readable end of a port, over every run.
use Rattle.std.proofs.Common.{◌≡◌, ℕ, zero, suc, Bool, true, false, ◌&&◌, if◌then◌else◌, List, [], ◌∷◌, ◌++◌, length, map, Option, Some, None, ◌⊎◌, inl, inr, ⊎_elim, slice_get, refl, sym, ap, ◌∙◌, subst}
use Rattle.ws_steps.specs.Slots.{WritableStream}
use Rattle.ws_steps.specs.Slots.{is_readable_stream}
use Rattle.ws_steps.specs.Slots.{is_byte_stream}
use Rattle.ws_steps.specs.Slots.{ByteStream}
use Rattle.ws_tee_port_laws.proofs.ports.Posting.{is_same_port-refl}
use Rattle.ws_value.specs.declared.ids.PortId.{PortId}
use Rattle.ws_value.specs.declared.ids.StreamId.{StreamId}
use Rattle.ws_value.specs.declared.value.Message.{Message}
use Rattle.ws_value.specs.declared.value.Value.{Value}
use Rattle.ws_steps.specs.declared.calls.Call.{Call}
use Rattle.ws_steps.specs.declared.calls.Call.TheVariants.{Deliver}
use Rattle.ws_steps.specs.declared.effects.Effect.{Effect}
use Rattle.ws_steps.specs.declared.effects.Effect.TheVariants.{Readable as OnReadable, Port as OnPort, ChunkSteps}
use Rattle.ws_steps.specs.declared.effects.Owner.TheVariants.{Host, EndOf}
use Rattle.ws_steps.specs.declared.port.PortOperation.TheVariants as ports
use Rattle.ws_steps.specs.declared.port.Side.{Side}
use Rattle.ws_steps.specs.declared.port.Side.TheVariants.{Readable as ReadableSide, Writable as WritableSide}
use Rattle.ws_steps.specs.declared.promises.Job.{Job}
use Rattle.ws_steps.specs.declared.readable.ReadableOperation.TheVariants as reads
use Rattle.ws_steps.specs.Begun.{Begun}
use Rattle.ws_steps.specs.Calls.{begin}
use Rattle.ws_steps.specs.Begun as replying
use Rattle.ws_steps.specs.Cross as cross
use Rattle.ws_steps.specs.Histories.{is_same}
use Rattle.ws_steps.specs.Jobs.{job_effects}
use Rattle.ws_steps.specs.PortHistory.{is_same_port}
use Rattle.ws_steps.specs.Readable.{can_close_or_enqueue}
use Rattle.ws_steps.specs.Slots.{Slots, Stream, has_readable, has_byte, has_port, readable_at}
use Rattle.ws_steps.specs.Turns.{row}
use Rattle.ws_laws.proofs.Ended.{PortShape, port_shape, port_shapes, end_shape, Ended}
use Rattle.ws_laws.proofs.Halves.{Halved}
use Rattle.ws_laws.proofs.Lists.{Each}
use Rattle.ws_laws.proofs.Shapes.{StreamShape, ReadableOf, stream_shape, stream_shapes, map-there}
use Rattle.ws_laws.proofs.Tables.{either, same_id, eq_numbers}
use Rattle.std.proofs.Common.{append-nil, append_assoc}
use Rattle.ws_steps.specs.PortHistory.{chunk_in, chunks_in}
use Rattle.ws_steps.specs.Readable as readable
use Rattle.ws_steps.specs.ReadableHistory.{effect_flow}
use Rattle.ws_steps.specs.Slots.{as_readable}
use Rattle.ws_steps.specs.ReadableHistory.{Flow, no_flow}
use Rattle.ws_laws.proofs.Truth.{false_true}
use Rattle.ws_tee_port_laws.proofs.ports.Posting.{is_same_port-refl}
use Rattle.ws_tee_port_laws.proofs.ports.Touching.{NoTouch}
use Rattle.ws_steps.specs.PipeCalls.{add_port, end_of}
use Rattle.ws_steps.specs.Histories.{along, over}
use Rattle.ws_steps.specs.PortHistory.{taken_by, run_taken, taken_in_step}
use Rattle.ws_steps.specs.Promises.{after_next_job, watch}
use Rattle.ws_steps.specs.ReadableHistory.{flow_then, run_flow}
use Rattle.ws_steps.specs.Run.{Entry, Called, Worked, Heard, run, step, after_event, older}
use Rattle.ws_steps.specs.Slots.{empty, with_promises, as_port, is_live, ReadableStream}
use Rattle.ws_steps.specs.Turns.{Moment}
use Rattle.ws_laws.proofs.Begin.{begin-makes}
use Rattle.ws_laws.proofs.EachCall.{each_call}
use Rattle.ws_laws.proofs.Ended.{row-port_shapes, ended-stays, ended-empty}
use Rattle.ws_laws.proofs.Halves.{get-stays, get-last, halved-stays, halved-empty}
use Rattle.ws_laws.proofs.Shapes.{row-stream_shapes}
use Rattle.ws_laws.proofs.Walker.{IsHistory, Goes, Rests, Stays}
use Rattle.ws_laws.proofs.Walker as walker
use Rattle.ws_tee_port_laws.proofs.ports.Entering.{Enters, enters-row, untouched}
use Rattle.std.specs.Prelude.{is_some}
use Rattle.ws_tee_port_laws.proofs.ports.Posting.{chunks-more as more-chunks}
use Rattle.ws_tee_port_laws.proofs.ports.Starts.{IsMine, Starts, starts-stays, starts-heard, starts-empty}
use Rattle.ws_tee_port_laws.proofs.ports.Touching.{NotHosts, call-untouched, job-untouched, IsNoDelivery}

-- what happened before: what the port took, and what entered the stream
pub record Past : Type 0 where
  pub taken : List Message
  pub entered : List Value

abbrev pub nothing_past : Past
nothing_past = record { taken = []; entered = [] }

abbrev pub then_past : Past → Past → Past
then_past f g = record { taken = f.taken ++ g.taken; entered = f.entered ++ g.entered }

pub past-history : IsHistory nothing_past then_past
past-history = record {
  left = λ h. refl;
  right = λ h k. record { taken = append-nil h.taken k; entered = append-nil h.entered k };
  assoc = λ f g h k. record { taken = append_assoc f.taken g.taken h.taken k; entered = append_assoc f.entered g.entered h.entered k };
}

-- a new port, where a call makes one

abbrev pub NewPort : Slots → cross.Slots → Slots → Type 0
NewPort s x z = (x.live ≡ true) × (x.side ≡ ReadableSide → (x.stream.0 ≡ length s.streams)
    × (slice_get z.streams x.stream.0 ≡ Some (end_of (record { 0 = length s.ports }) ReadableSide)))

abbrev pub PortsNow : Slots → Slots → Type 0
PortsNow s z = (z.ports ≡ s.ports) ⊎ ((x : cross.Slots) × ((z.ports ≡ s.ports ++ x ∷ []) × NewPort s x z))

port-added : (side : Side) (s : Slots) → PortsNow s (add_port (record { 0 = length s.streams }) s side)
port-added ReadableSide s = inr (_, (refl, (refl, λ e. (refl, get-last s.streams [] (end_of (record { 0 = length s.ports }) ReadableSide)))))
port-added WritableSide s = inr (_, (refl, (refl, λ e. cc)))

pub call-ports : (call : Call) (s : Slots) → PortsNow s (begin call s).done.slots
call-ports call s = each_call (λ (b : Begun). PortsNow s b.done.slots) call s (record {
  unchanged = λ reply. inl refl;
  rejected = λ fault. inl refl;
  make_readable = λ mark size start. inl refl;
  make_bytes = λ mark auto start. inl refl;
  get_byob = λ i is e. inl refl;
  release_byob = λ l closed i e. inl refl;
  read_into = λ l i closed room element least e f. inl refl;
  enqueue_bytes = λ i b e is some can. inl refl;
  finish_bytes = λ i e is can. inl refl;
  make_request = λ i reply is. inl refl;
  respond = λ q i b e is can. inl refl;
  make_writable = λ mark size start. inl refl;
  make_transform = λ kind m n start. inl refl;
  make_tee = λ i e is free untied. inl refl;
  get_reader = λ i e. inl refl;
  get_writer = λ i e. inl refl;
  release_reader = λ l closed i e. inl refl;
  release_writer = λ l i w e f. inl refl;
  cancel = λ reason i. inl refl;
  read = λ l i closed e f. inl refl;
  write = λ l v i e. inl refl;
  close = λ i. inl refl;
  abort = λ reason i e. inl refl;
  enqueue = λ i v e o can. inl refl;
  enqueue_half = λ i a v e o can. inl refl;
  finish = λ i. inl refl;
  fail_readable = λ i reason. inl refl;
  fail_writable = λ i reason. inl refl;
  fail_half = λ a reason. inl refl;
  terminate = λ a. inl refl;
  pipe = λ source dest prevent signal e f l m. inl refl;
  make_signal = inl refl;
  open_end = λ side. port-added side s;
  send_readable = λ i there free. port-added WritableSide s;
  send_writable = λ i there free. port-added ReadableSide s;
  deliver = λ p m e is. inl refl;
  trigger = λ a reason. inl refl;
  settle = λ a answer p e. inl refl;
})

last-place : (xs : List cross.Slots) (y : cross.Slots) (n : ℕ) → (slice_get (xs ++ y ∷ []) n ≡ slice_get xs n) ⊎ ((slice_get xs n ≡ None) × (slice_get (xs ++ y ∷ []) n ≡ Some y))
last-place [] y zero = inr (refl, refl)
last-place [] y (suc n) = inl refl
last-place (x ∷ xs) y zero = inl refl
last-place (x ∷ xs) y (suc n) = last-place xs y n

pub past-end : (xs : List Stream) → slice_get xs (length xs) ≡ None
past-end [] = refl
past-end (x ∷ xs) = past-end xs

-- a stream that is there stays as it is where a call begins
pub stream-stays : (call : Call) (s : Slots) (i : StreamId) (st : Stream) → slice_get s.streams i.0 ≡ Some st → slice_get (begin call s).done.slots.streams i.0 ≡ Some st
stream-stays call s i st at = begin-makes (λ z. slice_get z.streams i.0 ≡ Some st) (record {
  promise = λ z k. k;
  locks = λ z ls k. k;
  hosts = λ z hs k. k;
  pipe = λ z source dest prevent signal promise k. k;
  signal = λ z k. k;
  transform = λ z kind w r change k. k;
  tee = λ z source first second cancel k. k;
  port = λ z side stream p k. k;
  readable = λ z owner mark size k. get-stays z.streams _ i.0 st k;
  bytes = λ z mark auto k. get-stays z.streams _ i.0 st k;
  byob_requests = λ z requests k. k;
  writable = λ z owner mark size k. get-stays z.streams _ i.0 st k;
}) call s at

-- places and their shapes

shape-none : {X Y : Type 0} (f : X → Y) (xs : List X) (n : ℕ) → slice_get (map f xs) n ≡ None → slice_get xs n ≡ None
shape-none f [] n e = refl
shape-none f (x ∷ xs) zero e = cc
shape-none f (x ∷ xs) (suc n) e = shape-none f xs n e

pub none-shape : {X Y : Type 0} (f : X → Y) (xs : List X) (n : ℕ) → slice_get xs n ≡ None → slice_get (map f xs) n ≡ None
none-shape f [] n e = refl
none-shape f (x ∷ xs) zero e = cc
none-shape f (x ∷ xs) (suc n) e = none-shape f xs n e

pub same-shape : (x y : PortShape) → Some x ≡ Some y → (x.side ≡ y.side) × (x.stream ≡ y.stream)
same-shape x y e = (cc, cc)

pub same-port : (x y : cross.Slots) → Some x ≡ Some y → x ≡ y
same-port x y e = cc

none-entered : (b : Bool) (f : Flow) → f.entered ≡ [] → (if b then f else no_flow).entered ≡ []
none-entered true f e = e
none-entered false f e = refl

module _ (c : PortId) (i : StreamId) where
  abbrev pub told : Effect → Slots → Past
  told e s = record { taken = []; entered = (effect_flow i e s).entered }

  abbrev pub said : Slots → Entry → Past
  said s (Called call) = record { taken = taken_by c call s; entered = [] }
  said s Worked = nothing_past
  said s Heard = nothing_past

  pub record Held (h : Past) (s : Slots) (es : List Effect) : Type 0 where
    pub none : slice_get s.ports c.0 ≡ None → h.taken ≡ []
    pub unmade : slice_get s.streams i.0 ≡ None → h.entered ≡ []
    pub held : (x : cross.Slots) → slice_get s.ports c.0 ≡ Some x → x.side ≡ ReadableSide → x.stream ≡ i → Enters c i h.taken h.entered x (readable_at i s) es

  -- the stream of the port
  pub here-of : (s : Slots) → Ended s → (x : cross.Slots) → slice_get s.ports c.0 ≡ Some x → x.side ≡ ReadableSide → x.stream ≡ i → slice_get (stream_shapes s) i.0 ≡ Some (ReadableOf (EndOf c))
  here-of s ended x is side stream =
      subst (λ (k : StreamId). slice_get (stream_shapes s) k.0 ≡ Some (ReadableOf (EndOf c))) stream
      (ended.ends c (port_shape x) (map-there port_shape s.ports c.0 x is) ∙ ap (λ (k : Side). Some (end_shape c k)) side)

  mine-of : (s : Slots) → slice_get (stream_shapes s) i.0 ≡ Some (ReadableOf (EndOf c)) → IsMine c i s
  mine-of s here w at = clash w (sym at ∙ here)
    where
      clash : (w : StreamShape) → Some w ≡ Some (ReadableOf (EndOf c)) → w ≡ ReadableOf (EndOf c)
      clash w e = cc

  -- nothing enters a stream that isn't there
  absent-told : (s : Slots) → slice_get s.streams i.0 ≡ None → (e : Effect) → (effect_flow i e s).entered ≡ []
  absent-told s n (OnReadable j (reads.Enqueue v)) = by (is_same i j) refl
    where
      by : (same : Bool) → same ≡ is_same i j → (effect_flow i (OnReadable j (reads.Enqueue v)) s).entered ≡ []
      by false e = rw (← e) refl
      by true e =
          let is_so : i ≡ j = same_id i j (sym e) in
          let none : slice_get s.streams j.0 ≡ None = subst (λ (k : StreamId). slice_get s.streams k.0 ≡ None) is_so n in
          rw (← e, none) refl
  absent-told s n (OnReadable j (reads.Read q)) = none-entered (is_same i j) _ refl
  absent-told s n (OnReadable j (reads.Cancel q p)) = none-entered (is_same i j) _ refl
  absent-told s n (OnReadable j (reads.CancelIfReadable q p)) = none-entered (is_same i j) _ refl
  absent-told s n (OnReadable j operation) = none-entered (is_same i j) no_flow refl
  absent-told s n (ChunkSteps j q v) = none-entered (is_same i j) _ refl
  absent-told s n e = refl

  -- an effect

  module _ (h : Past) (s : Slots) (e : Effect) (es : List Effect) (halved : Halved s) (ended : Ended s) (starts : Starts c i s (e ∷ es)) (k : Held h s (e ∷ es)) where
    port-before : slice_get (row e s).slots.ports c.0 ≡ None → slice_get s.ports c.0 ≡ None
    port-before n = shape-none port_shape s.ports c.0 (ap (λ (ps : List PortShape). slice_get ps c.0) (sym (row-port_shapes e s)) ∙ none-shape port_shape (row e s).slots.ports c.0 n)

    stream-before : slice_get (row e s).slots.streams i.0 ≡ None → slice_get s.streams i.0 ≡ None
    stream-before n = shape-none stream_shape s.streams i.0 (ap (λ (xs : List StreamShape). slice_get xs i.0) (sym (row-stream_shapes e s)) ∙ none-shape stream_shape (row e s).slots.streams i.0 n)

    unmade-row : slice_get (row e s).slots.streams i.0 ≡ None → h.entered ++ (effect_flow i e s).entered ≡ []
    unmade-row n = let before = stream-before n in rw (k.unmade before) (absent-told s before e)

    held-at : (y x : cross.Slots) → slice_get (row e s).slots.ports c.0 ≡ Some y → slice_get s.ports c.0 ≡ Some x → y.side ≡ ReadableSide → y.stream ≡ i
        → Enters c i h.taken (h.entered ++ (effect_flow i e s).entered) y (readable_at i (row e s).slots) ((row e s).caused ++ es)
    held-at y x at is side stream =
        let after : slice_get (port_shapes s) c.0 ≡ Some (port_shape y) =
        ap (λ (ps : List PortShape). slice_get ps c.0) (sym (row-port_shapes e s)) ∙ map-there port_shape (row e s).slots.ports c.0 y at in
        let same = same-shape (port_shape x) (port_shape y) (sym (map-there port_shape s.ports c.0 x is) ∙ after) in
        let here = here-of s ended x is (same.0 ∙ side) (same.1 ∙ stream) in
        let calm = (starts (mine-of s here)).calm.0 in
        let g = enters-row c i s halved ended x is (same.0 ∙ side) (same.1 ∙ stream) here e es h.taken h.entered calm (k.held x is (same.0 ∙ side) (same.1 ∙ stream)) in
        let it : g.0 ≡ y = same-port g.0 y (sym g.1.0.slot ∙ at) in
        subst (λ (z : cross.Slots). Enters c i h.taken (h.entered ++ (effect_flow i e s).entered) z (readable_at i (row e s).slots) ((row e s).caused ++ es)) it g.1.1

    held-row : (y : cross.Slots) → slice_get (row e s).slots.ports c.0 ≡ Some y → y.side ≡ ReadableSide → y.stream ≡ i → (o : Option cross.Slots) → slice_get s.ports c.0 ≡ o
        → Enters c i h.taken (h.entered ++ (effect_flow i e s).entered) y (readable_at i (row e s).slots) ((row e s).caused ++ es)
    held-row y at side stream None is =
        let after : slice_get (port_shapes s) c.0 ≡ Some (port_shape y) =
        ap (λ (ps : List PortShape). slice_get ps c.0) (sym (row-port_shapes e s)) ∙ map-there port_shape (row e s).slots.ports c.0 y at in
        let before = none-shape port_shape s.ports c.0 is in
        cc
    held-row y at side stream (Some x) is = held-at y x at is side stream

    pub row-held : Held (then_past h (told e s)) (row e s).slots ((row e s).caused ++ es)
    row-held = record {
      none = λ n. rw (append-nil h.taken) (k.none (port-before n));
      unmade = unmade-row;
      held = λ y at side stream. rw (append-nil h.taken) (held-row y at side stream (slice_get s.ports c.0) refl);
    }

  -- a call and a job begin where nothing stands

  pub settled : (taken : List Message) (entered : List Value) (x : cross.Slots) (r : readable.Slots) → Enters c i taken entered x r [] → x.live ≡ true → can_close_or_enqueue r ≡ true
  settled taken entered x r k l = ⊎_elim (λ o. o) (λ n. cc) (k.live l)

  standing : (taken : List Message) (entered : List Value) (x : cross.Slots) (r : readable.Slots) (es : List Effect) → Each (NoTouch c i) es → Enters c i taken entered x r [] → Enters c i taken entered x r es
  standing taken entered x r es n k =
      untouched c i taken entered x r es (sym (append-nil entered) ∙ k.enters) n (λ l. inl (settled taken entered x r k l))

  pub there-by : (xs : List Stream) (n : ℕ) → slice_get (map stream_shape xs) n ≡ Some (ReadableOf (EndOf c)) → (r : readable.Slots) × ((slice_get xs n ≡ Some (ReadableStream r)) × (r.owner ≡ EndOf c))
  there-by [] n e = cc
  there-by (ReadableStream r ∷ xs) zero e = (r, (refl, cc))
  there-by (ByteStream b ∷ xs) zero e = cc
  there-by (WritableStream w ∷ xs) zero e = cc
  there-by (x ∷ xs) (suc n) e = there-by xs n e

  -- the stream of the port isn't the host's
  pub end-not_hosts : (s : Slots) → slice_get (stream_shapes s) i.0 ≡ Some (ReadableOf (EndOf c)) → NotHosts c i s
  end-not_hosts s here =
      let t = there-by s.streams i.0 here in
      record {
        readable = λ there e.
            let owner : (readable_at i s).owner ≡ EndOf c = ap (λ (o : Option Stream). (as_readable o).owner) t.1.0 ∙ t.1.1 in
            let wrong : Host ≡ EndOf c = sym e ∙ owner in cc;
        bytes = λ e. let kind : has_byte i s ≡ false = ap is_byte_stream t.1.0 in false_true (has_byte i s) e kind;
      }

  -- nor is one that isn't there
  pub absent-not_hosts : (s : Slots) → slice_get s.streams i.0 ≡ None → NotHosts c i s
  absent-not_hosts s n = record {
    readable = λ there e. let kind : has_readable i s ≡ false = ap is_readable_stream n in false_true (has_readable i s) there kind;
    bytes = λ e. let kind : has_byte i s ≡ false = ap is_byte_stream n in false_true (has_byte i s) e kind;
  }

  module _ (call : Call) (h : Past) (s : Slots) (ended : Ended s) (k : Held h s []) where
    abbrev Z : Slots
    Z = (begin call s).done.slots

    none-taken : slice_get s.ports c.0 ≡ None → taken_by c call s ≡ []
    none-taken n = by call
      where
        by : (call : Call) → taken_by c call s ≡ []
        by (Deliver d m) = let dead : is_live c s ≡ false = ap (λ (o : Option cross.Slots). (as_port o).live) n in rw dead (both (is_same_port c d))
          where
            both : (b : Bool) → (if b && false then m ∷ [] else []) ≡ []
            both true = refl
            both false = refl
        by call = refl

    port-before_call : slice_get Z.ports c.0 ≡ None → slice_get s.ports c.0 ≡ None
    port-before_call n =
        ⊎_elim (λ e. ap (λ (xs : List cross.Slots). slice_get xs c.0) (sym e) ∙ n)
        (λ p. ⊎_elim (λ e. sym e ∙ (ap (λ (xs : List cross.Slots). slice_get xs c.0) (sym p.1.0) ∙ n)) (λ e. e.0) (last-place s.ports p.0 c.0)) (call-ports call s)

    stream-before_call : (o : Option Stream) → slice_get s.streams i.0 ≡ o → slice_get Z.streams i.0 ≡ None → slice_get s.streams i.0 ≡ None
    stream-before_call None e n = e
    stream-before_call (Some st) e n = let now = stream-stays call s i st e in cc

    -- the port was there before
    old-call : (x : cross.Slots) → IsNoDelivery call → slice_get s.ports c.0 ≡ Some x → x.side ≡ ReadableSide → x.stream ≡ i → Enters c i h.taken h.entered x (readable_at i Z) (begin call s).done.caused
    old-call x n is side stream =
        let here = here-of s ended x is side stream in
        let t = there-by s.streams i.0 here in
        let same : readable_at i Z ≡ readable_at i s = ap as_readable (stream-stays call s i (ReadableStream t.0) t.1.0 ∙ sym t.1.0) in
        rw same (standing h.taken h.entered x (readable_at i s) (begin call s).done.caused (call-untouched c i s (end-not_hosts s here) call n) (k.held x is side stream))

    -- the port is new
    new-call : (x : cross.Slots) → IsNoDelivery call → slice_get s.ports c.0 ≡ None → NewPort s x Z → x.side ≡ ReadableSide → x.stream ≡ i → Enters c i h.taken h.entered x (readable_at i Z) (begin call s).done.caused
    new-call x n none new side stream =
        let at = new.1 side in
        let number : i.0 ≡ length s.streams = ap (λ (j : StreamId). j.0) (sym stream) ∙ at.0 in
        let absent : slice_get s.streams i.0 ≡ None = rw number (past-end s.streams) in
        let now : slice_get Z.streams i.0 ≡ Some (end_of (record { 0 = length s.ports }) ReadableSide) = subst (λ (j : StreamId). slice_get Z.streams j.0 ≡ Some (end_of (record { 0 = length s.ports }) ReadableSide)) stream at.1 in
        let opened : can_close_or_enqueue (readable_at i Z) ≡ true = rw now refl in
        untouched c i h.taken h.entered x (readable_at i Z) (begin call s).done.caused (rw (k.unmade absent, k.none none) refl) (call-untouched c i s (absent-not_hosts s absent) call n) (λ l. inl opened)

    plain-call : (x : cross.Slots) → IsNoDelivery call → slice_get Z.ports c.0 ≡ Some x → x.side ≡ ReadableSide → x.stream ≡ i → Enters c i h.taken h.entered x (readable_at i Z) (begin call s).done.caused
    plain-call x n at side stream =
        ⊎_elim (λ e. old-call x n (ap (λ (xs : List cross.Slots). slice_get xs c.0) (sym e) ∙ at) side stream)
        (λ p. let now : slice_get (s.ports ++ p.0 ∷ []) c.0 ≡ Some x = ap (λ (xs : List cross.Slots). slice_get xs c.0) (sym p.1.0) ∙ at in
        ⊎_elim (λ e. old-call x n (sym e ∙ now) side stream)
        (λ e. let it : p.0 ≡ x = same-port p.0 x (sym e.1 ∙ now) in new-call x n e.0 (subst (λ (y : cross.Slots). NewPort s y Z) it p.1.1) side stream) (last-place s.ports p.0 c.0)) (call-ports call s)

    abbrev CallHeld : Begun → Type 0
    CallHeld b = (x : cross.Slots) → slice_get b.done.slots.ports c.0 ≡ Some x → x.side ≡ ReadableSide → x.stream ≡ i
        → Enters c i (h.taken ++ taken_by c call s) h.entered x (readable_at i b.done.slots) b.done.caused

  -- a message is delivered
  module _ (h : Past) (s : Slots) (ended : Ended s) (k : Held h s []) (d : PortId) (m : Message) where
    abbrev DeliverHeld : Begun → Type 0
    DeliverHeld b = (x : cross.Slots) → slice_get b.done.slots.ports c.0 ≡ Some x → x.side ≡ ReadableSide → x.stream ≡ i
        → Enters c i (h.taken ++ taken_by c (Deliver d m) s) h.entered x (readable_at i b.done.slots) b.done.caused

    chunks-more : (ms : List Message) (l : Bool) → chunks_in ms ++ (if l then chunk_in m else []) ≡ chunks_in (ms ++ (if l then m ∷ [] else []))
    chunks-more ms true = sym (more-chunks ms m)
    chunks-more ms false = append-nil (chunks_in ms) ∙ ap chunks_in (sym (append-nil ms))

    mine-comes : (x : cross.Slots) → slice_get s.ports c.0 ≡ Some x → Enters c i h.taken h.entered x (readable_at i s) []
        → Enters c i (h.taken ++ (if x.live then m ∷ [] else [])) h.entered x (readable_at i s) (OnPort c (ports.Deliver m) ∷ [])
    mine-comes x is g =
        let before : h.entered ≡ chunks_in h.taken = sym (append-nil h.entered) ∙ g.enters in
        record {
          enters = rw (is_same_port-refl c, before) (chunks-more h.taken x.live);
          heads = (λ e l. settled h.taken h.entered x (readable_at i s) g l, tt);
          live = λ l. inl (settled h.taken h.entered x (readable_at i s) g l);
        }

    comes-held : DeliverHeld (replying.does (OnPort d (ports.Deliver m) ∷ []) s)
    comes-held x at side stream = by (is_same_port c d) refl
      where
        by : (same : Bool) → same ≡ is_same_port c d → Enters c i (h.taken ++ taken_by c (Deliver d m) s) h.entered x (readable_at i s) (OnPort d (ports.Deliver m) ∷ [])
        by false n =
            let none : taken_by c (Deliver d m) s ≡ [] = rw (← n) refl in
            rw (none, append-nil h.taken) (standing h.taken h.entered x (readable_at i s) (OnPort d (ports.Deliver m) ∷ []) (sym n, tt) (k.held x at side stream))
        by true e =
            let is_so : c ≡ d = λ q. record { 0 = eq_numbers c.0 d.0 (sym e) q } in
            let live : is_live c s ≡ x.live = ap (λ (o : Option cross.Slots). (as_port o).live) at in
            let taken : taken_by c (Deliver d m) s ≡ (if x.live then m ∷ [] else []) = rw (← e, live) refl in
            rw (taken) (subst (λ (p : PortId). Enters c i (h.taken ++ (if x.live then m ∷ [] else [])) h.entered x (readable_at i s) (OnPort p (ports.Deliver m) ∷ [])) is_so (mine-comes x at (k.held x at side stream)))

    refused-held : has_port d s ≡ false → DeliverHeld (replying.unsupported s)
    refused-held none x at side stream = by (is_same_port c d) refl
      where
        by : (same : Bool) → same ≡ is_same_port c d → Enters c i (h.taken ++ taken_by c (Deliver d m) s) h.entered x (readable_at i s) []
        by false n = let none_so : taken_by c (Deliver d m) s ≡ [] = rw (← n) refl in rw (none_so, append-nil h.taken) (k.held x at side stream)
        by true e =
            let is_so : c ≡ d = λ q. record { 0 = eq_numbers c.0 d.0 (sym e) q } in
            let there : has_port c s ≡ true = ap (λ (o : Option cross.Slots). is_some o) at in
            false_true (has_port d s) (subst (λ (p : PortId). has_port p s ≡ true) is_so there) none

    deliver-held : DeliverHeld (begin (Deliver d m) s)
    unfolding begin
    deliver-held = either DeliverHeld (has_port d s) (replying.does (OnPort d (ports.Deliver m) ∷ []) s) (replying.unsupported s) (λ e. comes-held) (λ n. refused-held n)

  called-held : (call : Call) (h : Past) (s : Slots) (ended : Ended s) (k : Held h s []) → CallHeld call h s ended k (begin call s)
  called-held (Deliver d m) h s ended k = deliver-held h s ended k d m
  called-held call h s ended k = λ x at side stream. rw (append-nil h.taken) (plain-call call h s ended k x tt at side stream)

  call-held : (call : Call) (h : Past) (s : Slots) → Ended s → Held h s [] → Held (then_past h (said s (Called call))) (begin call s).done.slots (begin call s).done.caused
  call-held call h s ended k = record {
    none = λ n. let before = port-before_call call h s ended k n in rw (k.none before, none-taken call h s ended k before) refl;
    unmade = λ n. rw (append-nil h.entered) (k.unmade (stream-before_call call h s ended k (slice_get s.streams i.0) refl n));
    held = λ x at side stream. rw (append-nil h.entered) (called-held call h s ended k x at side stream);
  }

  -- the walk

  abbrev Whole : Past → Slots → List Effect → Type 0
  Whole h s es = ((Ended s × Halved s) × Starts c i s es) × Held h s es

  job-held : (h : Past) (s : Slots) (job : Job) → Held h s [] → Held (then_past h nothing_past) (with_promises (after_next_job s.promises) s) (job_effects job)
  job-held h s job k = record {
    none = λ n. rw (append-nil h.taken) (k.none n);
    unmade = λ n. rw (append-nil h.entered) (k.unmade n);
    held = λ x at side stream. rw (append-nil h.taken, append-nil h.entered) (standing h.taken h.entered x (readable_at i s) (job_effects job) (job-untouched c i job) (k.held x at side stream));
  }

  same-held : (h : Past) (s z : Slots) → z.ports ≡ s.ports → z.streams ≡ s.streams → Held h s [] → Held h z []
  same-held h s z p q k = record {
    none = λ n. k.none (ap (λ (xs : List cross.Slots). slice_get xs c.0) (sym p) ∙ n);
    unmade = λ n. k.unmade (ap (λ (xs : List Stream). slice_get xs i.0) (sym q) ∙ n);
    held = λ x at side stream. rw q (k.held x (ap (λ (xs : List cross.Slots). slice_get xs c.0) (sym p) ∙ at) side stream);
  }

  past-held : (h : Past) (s : Slots) → Held h s [] → Held (then_past h nothing_past) s []
  past-held h s k = record {
    none = λ n. rw (append-nil h.taken) (k.none n);
    unmade = λ n. rw (append-nil h.entered) (k.unmade n);
    held = λ x at side stream. rw (append-nil h.taken, append-nil h.entered) (k.held x at side stream);
  }

  entering-goes : Goes then_past told said Whole
  entering-goes = record {
    row = λ h s e es k. (((ended-stays.row s e es k.0.0.0, halved-stays.row s e es k.0.0.1), (starts-stays c i).row s e es k.0.1), row-held h s e es k.0.0.1 k.0.0.0 k.0.1 k.1);
    call = λ h s call k. (((ended-stays.call s call k.0.0.0, halved-stays.call s call k.0.0.1), (starts-stays c i).call s call k.0.1), call-held call h s k.0.0.0 k.1);
    job = λ h s job e k. ((k.0.0, (starts-stays c i).job s job e k.0.1), job-held h s job k.1);
    idle = λ h s e k. (k.0, past-held h s k.1);
    answered = λ h s p k. ((k.0.0, (starts-stays c i).answered s p k.0.1), same-held h s (with_promises (watch p s.promises) s) refl refl k.1);
    older = λ h s k. ((k.0.0, (starts-stays c i).older s k.0.1), same-held h s (older s) refl refl k.1);
  }

  entering-rests : Rests then_past said Whole
  entering-rests = record { heard = λ h s k. ((k.0.0, starts-heard c i s k.0.1), past-held h (after_event s) (same-held h s (after_event s) refl refl k.1)) }

  empty-held : Held nothing_past empty []
  empty-held = record { none = λ n. refl; unmade = λ n. refl; held = λ x at side stream. cc }

  abbrev happened : Slots → Entry → Past
  happened = walker.happens nothing_past then_past past-history told said Whole entering-goes

  along-taken : (ms : List Moment) → (along nothing_past then_past told ms).taken ≡ []
  along-taken [] = refl
  along-taken (m ∷ ms) = along-taken ms

  along-entered : (ms : List Moment) → (along nothing_past then_past told ms).entered ≡ (along no_flow flow_then (effect_flow i) ms).entered
  along-entered [] = refl
  along-entered (m ∷ ms) = ap (λ vs. (effect_flow i m.effect m.found).entered ++ vs) (along-entered ms)

  taken-said : (s : Slots) (x : Entry) → (said s x).taken ≡ taken_in_step c s x
  taken-said s (Called call) = refl
  taken-said s Worked = refl
  taken-said s Heard = refl

  none-said : (s : Slots) (x : Entry) → (said s x).entered ≡ []
  none-said s (Called call) = refl
  none-said s Worked = refl
  none-said s Heard = refl

  run-taken : (xs : List Entry) (s : Slots) → (over nothing_past then_past happened xs s).taken ≡ run_taken c xs s
  run-taken [] s = refl
  run-taken (x ∷ xs) s = rw (along-taken _, append-nil (said s x).taken, taken-said s x, run-taken xs (step s x)) refl

  run-entered : (xs : List Entry) (s : Slots) → (over nothing_past then_past happened xs s).entered ≡ (run_flow i xs s).entered
  run-entered [] s = refl
  run-entered (x ∷ xs) s = rw (none-said s x, along-entered _, run-entered xs (step s x)) refl

  pub run-enters : (entries : List Entry) (x : cross.Slots) → slice_get (run entries empty).ports c.0 ≡ Some x → x.side ≡ ReadableSide → x.stream ≡ i
      → Enters c i (run_taken c entries empty) (run_flow i entries empty).entered x (readable_at i (run entries empty)) []
  run-enters entries x at side stream =
      let k = (walker.run-goes nothing_past then_past past-history told said Whole entering-goes entering-rests entries nothing_past empty
      (((ended-empty, halved-empty), starts-empty c i), empty-held)).1 in
      rw (← run-taken entries empty, ← run-entered entries empty) (k.held x at side stream)
