-- Bytes are enqueued.
use Rattle.std.proofs.Common.{◌≡◌, ◌≢◌, ◌<◌, ◌≤◌, ℕ, zero, suc, ◌+◌, Bool, true, false, List, [], ◌∷◌, ◌++◌, Option, Some, None, length, refl, sym, ap, ◌∙◌, append_assoc, append-nil, arith, if◌then◌else◌, not, ◌&&◌}
use Rattle.std.specs.Prelude.{is_some}
use Rattle.ws_steps.specs.Bytes.{Acts, with_slots, causing, in_stream, has_default_reader, has_byob_reader, can_take, should_call_pull, call_pull_if_needed, stream_close, invalidate_request, handle_queue_drain, fill_read_request, append, process_and_commit, detach_first, renounce, process_requests, accept_for, accept_default, accept, controller_enqueue, is_byob}
use Rattle.ws_steps.specs.Descriptors.{Descriptor, is_for_nobody, rest_of}
use Rattle.ws_steps.specs.Queues.{is_empty, append_bytes}
use Rattle.ws_steps.specs.ByteHistory.{joined, first_filled, kept}
use Rattle.ws_steps.specs.declared.readable.ReadableState.TheVariants.{Readable}
use Rattle.ws_steps.specs.declared.byte.RoomKind.{RoomKind}
use Rattle.ws_steps.specs.declared.byte.RoomKind.TheVariants.{ForDefault, ForByob, ForNobody}
use Rattle.ws_steps.specs.declared.byte.ReaderKind.{ReaderKind}
use Rattle.ws_steps.specs.declared.byte.ReaderKind.TheVariants.{Default, Byob}
use Rattle.ws_steps.specs.declared.readable.ReadRequest.{ReadRequest}
use Rattle.ws_steps.specs.declared.effects.Effect.TheVariants.{ChunkSteps}
use Rattle.ws_value.specs.declared.ids.StreamId.{StreamId}
use Rattle.ws_value.specs.declared.ids.PromiseId.{PromiseId}
use Rattle.ws_value.specs.declared.value.Value.TheVariants.{Bytes}
use Rattle.ws_laws.proofs.Tables.{either}
use Rattle.ws_byte_laws.proofs.Filling.{Line, line_of, later_filled, filled}
use Rattle.ws_byte_laws.proofs.Given.{given, given_last}
use Rattle.ws_byte_laws.proofs.Fine.{Fine, pulled}
use Rattle.ws_byte_laws.proofs.Ranged.{processed_fine, at_end, appended_ranged, swapped}
use Rattle.ws_steps.specs.Readable as readable
use Rattle.ws_byte_laws.specs.Descriptors.{Fit, AllLater, First, Good, requests_of, reads}

-- the first descriptor's bytes go to the queue, where it is for nobody
pub detached_all : (E g : List ℕ) (r : RoomKind) (filled : List ℕ) (ds : List Descriptor) (q : List (List ℕ)) → AllLater r ds → (filled ≢ [] → q ≡ []) → E ≡ g ++ (filled ++ joined q)
    → E ≡ g ++ (first_filled ds ++ joined (append_bytes filled q))
detached_all E g r filled ds q l h e = rw (later_filled r ds l, ← swapped filled q h) e

-- what the renouncing of a first descriptor that is for nobody leaves
pub record Renounced (E : List ℕ) (o : Option PromiseId) (κ : ReaderKind) (z : Acts) : Type 0 where
  pub readable : z.slots.stream.state ≡ Readable
  pub reader : z.slots.stream.reader ≡ o
  pub kind : z.slots.reader_kind ≡ κ
  pub asked : z.slots.stream.close_requested ≡ false
  pub all : E ≡ given z.out.effects ++ kept z.slots
  pub line : Line (reads o κ) z.slots.descriptors
  pub nobody : reads o κ ≡ ForNobody → z.slots.descriptors ≡ []
  pub none : reads o κ ≡ ForNobody → requests_of z.slots ≡ 0
  pub byob : reads o κ ≡ ForByob → length z.slots.descriptors ≤ requests_of z.slots
  pub more : reads o κ ≡ ForDefault → z.slots.descriptors ≢ [] → requests_of z.slots ≢ 0 → length z.slots.descriptors + length z.slots.queue ≤ suc (requests_of z.slots)
  pub one : reads o κ ≡ ForDefault → requests_of z.slots ≡ 0 → length z.slots.descriptors ≤ 1
  pub empty : reads o κ ≡ ForDefault → first_filled z.slots.descriptors ≡ []

one_entry : (b : List ℕ) (q : List (List ℕ)) → q ≡ [] → length (append_bytes b q) ≤ 1
one_entry [] q e = rw e (omega arith)
one_entry (x ∷ b) q e = rw e (omega arith)

empty_of : (b : List ℕ) → length b < 1 → b ≡ []
empty_of [] h = refl
empty_of (x ∷ b) h = absurd (omega arith)

pub none_left : (ds : List Descriptor) (n : ℕ) → length ds ≤ n → n ≡ 0 → ds ≡ []
none_left [] n h e = refl
none_left (d ∷ ds) n h e = absurd (omega arith)

pub fit_empty : (d : Descriptor) → Fit d → d.room_kind ≡ ForDefault → d.filled ≡ []
fit_empty d f e = let m = f.minimum e in let s = f.short in empty_of d.filled (omega arith)

renounced_by : (E : List ℕ) (a : Acts) (d : Descriptor) (ds : List Descriptor) (t : RoomKind) → d ∷ ds ≡ a.slots.descriptors → t ≡ d.room_kind → Fine E a → a.slots.stream.close_requested ≡ false
    → First t (reads a.slots.stream.reader a.slots.reader_kind) d.filled (length ds) a.slots.queue (requests_of a.slots) → Fit d → AllLater (reads a.slots.stream.reader a.slots.reader_kind) ds
    → Renounced E a.slots.stream.reader a.slots.reader_kind (if is_for_nobody t then detach_first (invalidate_request a) (d ∷ ds) else invalidate_request a)
renounced_by E a d ds ForNobody e t f c g fit l =
    record {
      readable = f.readable;
      reader = refl;
      kind = refl;
      asked = c;
      all = detached_all E (given a.out.effects) (reads a.slots.stream.reader a.slots.reader_kind) d.filled ds a.slots.queue l g.0 (rw (← e) at f.all);
      line = line_of (reads a.slots.stream.reader a.slots.reader_kind) ds l;
      nobody = λ r. none_left ds (requests_of a.slots) g.1 (g.3 r);
      none = λ r. g.3 r;
      byob = λ r. g.1;
      more = λ r n m. let o = one_entry d.filled a.slots.queue (g.2 r m) in let k = g.1 in omega arith;
      one = λ r m. let k = g.1 in omega arith;
      empty = λ r. later_filled (reads a.slots.stream.reader a.slots.reader_kind) ds l;
    }
renounced_by E a d ds ForByob e t f c g fit l =
    record {
      readable = f.readable;
      reader = refl;
      kind = refl;
      asked = c;
      all = f.all;
      line = rw (← e) (fit, sym t ∙ sym g.0, l);
      nobody = λ r. let k = g.0 in absurd (cc);
      none = λ r. let k = g.0 in absurd (cc);
      byob = λ r. let k = g.2 in rw (← e) (omega arith);
      more = λ r. let k = g.0 in absurd (cc);
      one = λ r. let k = g.0 in absurd (cc);
      empty = λ r. let k = g.0 in absurd (cc);
    }
renounced_by E a d ds ForDefault e t f c g fit l =
    record {
      readable = f.readable;
      reader = refl;
      kind = refl;
      asked = c;
      all = f.all;
      line = rw (← e) (fit, sym t ∙ sym g.0, l);
      nobody = λ r. let k = g.0 in absurd (cc);
      none = λ r. let k = g.0 in absurd (cc);
      byob = λ r. let k = g.0 in absurd (cc);
      more = λ r n m. let k = g.1 in let o : a.slots.queue ≡ [] = g.2 m in rw (← e, o) (omega arith);
      one = λ r m. let k = g.1 in rw (← e) (omega arith);
      empty = λ r. rw (← e) (fit_empty d fit (sym t));
    }

renounced : (E : List ℕ) (a : Acts) (ds : List Descriptor) → ds ≡ a.slots.descriptors → Fine E a → a.slots.stream.close_requested ≡ false → Renounced E a.slots.stream.reader a.slots.reader_kind (renounce a ds)
renounced E a [] e f c =
    let g : Good (reads a.slots.stream.reader a.slots.reader_kind) [] a.slots.queue (requests_of a.slots) = rw (← e) at f.good in
    record {
      readable = f.readable;
      reader = refl;
      kind = refl;
      asked = c;
      all = f.all;
      line = rw (← e) tt;
      nobody = λ r. sym e;
      none = g;
      byob = λ r. rw (← e) (omega arith);
      more = λ r n. absurd (n (sym e));
      one = λ r m. rw (← e) (omega arith);
      empty = λ r. rw (← e) refl;
    }
renounced E a (d ∷ ds) e f c =
    let g : Good (reads a.slots.stream.reader a.slots.reader_kind) (d ∷ ds) a.slots.queue (requests_of a.slots) = rw (← e) at f.good in
    rw (← e) (rw e (renounced_by E a d ds d.room_kind e refl f c g.2 g.0 g.1))

-- requests are served from the queue

pub record Same (a z : Acts) : Type 0 where
  pub state : z.slots.stream.state ≡ a.slots.stream.state
  pub reader : z.slots.stream.reader ≡ a.slots.stream.reader
  pub kind : z.slots.reader_kind ≡ a.slots.reader_kind
  pub requests : z.slots.stream.requests ≡ a.slots.stream.requests
  pub descriptors : z.slots.descriptors ≡ a.slots.descriptors
  pub queue : z.slots.queue ≡ a.slots.queue
  pub asked : z.slots.stream.close_requested ≡ a.slots.stream.close_requested
  pub given : given z.out.effects ≡ given a.out.effects

pub same_acts : (a : Acts) → Same a a
same_acts a = record { state = refl; reader = refl; kind = refl; requests = refl; descriptors = refl; queue = refl; asked = refl; given = refl }

pub pull_same : (me : StreamId) (a : Acts) → Same a (call_pull_if_needed me a)
unfolding call_pull_if_needed
pull_same me a =
    either (Same a) (should_call_pull a.slots) (in_stream (readable.call_pull me) a) a
    (λ c. either (λ (b : readable.Acts). Same a (record { slots = record a.slots { stream = b.slots }; out = b.out })) a.slots.stream.pulling _ _
    (λ p. record { state = refl; reader = refl; kind = refl; requests = refl; descriptors = refl; queue = refl; asked = refl; given = refl })
    (λ p. record { state = refl; reader = refl; kind = refl; requests = refl; descriptors = refl; queue = refl; asked = refl; given = rw (given_last, append-nil) refl }))
    (λ c. same_acts a)

record Serving (E : List ℕ) (ds : List Descriptor) (o : Option PromiseId) (κ : ReaderKind) (a : Acts) : Type 0 where
  readable : a.slots.stream.state ≡ Readable
  reader : a.slots.stream.reader ≡ o
  kind : a.slots.reader_kind ≡ κ
  asked : a.slots.stream.close_requested ≡ false
  descriptors : a.slots.descriptors ≡ ds
  all : E ≡ given a.out.effects ++ joined a.slots.queue

record Served (E : List ℕ) (ds : List Descriptor) (o : Option PromiseId) (κ : ReaderKind) (n m : ℕ) (z : Acts) : Type 0 where
  serving : Serving E ds o κ z
  done : requests_of z.slots ≢ 0 → z.slots.queue ≡ []
  count : n ≤ requests_of z.slots + m

pub both_false : (c d : Bool) → c && d ≡ true → d ≡ false → ⊥
both_false true d e f = cc
both_false false d e f = cc

pub drain_same : (me : StreamId) (a : Acts) → a.slots.stream.close_requested ≡ false → Same a (handle_queue_drain me a)
unfolding handle_queue_drain
drain_same me a c =
    either (Same a) (is_empty a.slots.queue && a.slots.stream.close_requested) (stream_close me a) (call_pull_if_needed me a)
    (λ t. absurd (both_false (is_empty a.slots.queue) a.slots.stream.close_requested t c)) (λ t. pull_same me a)

served_by : (me : StreamId) (E : List ℕ) (ds : List Descriptor) (o : Option PromiseId) (κ : ReaderKind) (q : ReadRequest) (qs : List ReadRequest) (a : Acts) (queue : List (List ℕ)) → queue ≡ a.slots.queue → (q ∷ qs) ≡ a.slots.stream.requests → Serving E ds o κ a
    → ((c : Acts) → qs ≡ c.slots.stream.requests → Serving E ds o κ c → Served E ds o κ (length qs) (length c.slots.queue) (process_requests me qs c))
    → Served E ds o κ (length (q ∷ qs)) (length queue)
    (elim queue [ [] ↦ a | b ∷ bs ↦ process_requests me qs (fill_read_request me q (with_slots (record a.slots { stream = record a.slots.stream { requests = qs } }) a) (b ∷ bs)) ])
served_by me E ds o κ q qs a [] e f s next = record { serving = s; done = λ n. sym e; count = rw (← f) (omega arith) }
served_by me E ds o κ q qs a (b ∷ bs) e f s next =
    let c : Acts = record a { slots = record a.slots { stream = record a.slots.stream { requests = qs }; queue = bs } } in
    let d : Acts = handle_queue_drain me c in
    let k : Same c d = drain_same me c s.asked in
    let z : Acts = causing (ChunkSteps me q (Bytes b)) d in
    let w : Served E ds o κ (length qs) (length z.slots.queue) (process_requests me qs z) =
    next z (sym k.requests)
    (record {
      readable = k.state ∙ s.readable;
      reader = k.reader ∙ s.reader;
      kind = k.kind ∙ s.kind;
      asked = k.asked ∙ s.asked;
      descriptors = k.descriptors ∙ s.descriptors;
      all = let t = s.all in rw (given_last, k.given, k.queue, append_assoc, s.all, ← e) refl;
    }) in
    record { serving = w.serving; done = w.done; count = let n : length z.slots.queue ≡ length bs = ap length k.queue in let m = w.count in omega arith }

served : (me : StreamId) (E : List ℕ) (ds : List Descriptor) (o : Option PromiseId) (κ : ReaderKind) (qs : List ReadRequest) (a : Acts) → qs ≡ a.slots.stream.requests → Serving E ds o κ a
    → Served E ds o κ (length qs) (length a.slots.queue) (process_requests me qs a)
served me E ds o κ [] a e s = record { serving = s; done = λ n. absurd (n (rw (← e) refl)); count = omega arith }
served me E ds o κ (q ∷ qs) a e s = served_by me E ds o κ q qs a a.slots.queue refl e s (served me E ds o κ qs)

-- an enqueue is accepted

pub not_asked : (c d : Bool) → not c && d ≡ true → c ≡ false
not_asked true d e = cc
not_asked false d e = refl

alone : (ds : List Descriptor) (q : List (List ℕ)) (n : ℕ) (r : RoomKind) → r ≡ ForDefault → length ds ≤ 1 → Line ForDefault ds → n ≡ 0 → Good r ds q n
alone [] q n r e h l z = λ f. z
alone (d ∷ ds) q n r e h l z = rw e (l.0, l.2, rw l.1 (refl, omega arith, λ m. absurd (m z)))

into_empty : (E b : List ℕ) (z : Acts) → z.slots.stream.state ≡ Readable → E ≡ given z.out.effects ++ kept z.slots → length z.slots.descriptors ≤ 1 → Line ForDefault z.slots.descriptors → reads z.slots.stream.reader z.slots.reader_kind ≡ ForDefault → requests_of z.slots ≡ 0 → Fine (E ++ b) (append b z)
into_empty E b z s all one line r n =
    record { readable = s; all = at_end E (given z.out.effects) (first_filled z.slots.descriptors) z.slots.queue b all; good = alone z.slots.descriptors (append_bytes b z.slots.queue) (requests_of z.slots) (reads z.slots.stream.reader z.slots.reader_kind) r one line n }

tight : (ds : List Descriptor) (n m k : ℕ) → (ds ≢ [] → n ≢ 0 → length ds + m ≤ suc n) → (n ≡ 0 → length ds ≤ 1) → n ≤ k + m → length ds ≤ suc k
tight [] n m k f g h = omega arith
tight (d ∷ ds) zero m k f g h = let i = g refl in omega arith
tight (d ∷ ds) (suc n) m k f g h = let i = f (λ e. cc) (λ e. omega arith) in omega arith

pub rest_good : (r : RoomKind) (ds : List Descriptor) (n : ℕ) → r ≡ ForDefault → Line r ds → length ds ≤ suc (suc n) → Good r (rest_of ds) [] n
rest_good r [] n e l h = λ f. absurd (cc)
rest_good r (d ∷ []) n e l h = λ f. absurd (cc)
rest_good r (d ∷ x ∷ ds) n e l h = let t : x.room_kind ≡ ForDefault = l.2.0.room_kind ∙ e in (l.2.0.fit, l.2.1, rw t (e, omega arith, λ m. refl))

pub rest_filled : (r : RoomKind) (ds : List Descriptor) → Line r ds → first_filled (rest_of ds) ≡ []
rest_filled r [] l = refl
rest_filled r (d ∷ ds) l = later_filled r ds l.2

handed_out : (E g b f : List ℕ) (q : List (List ℕ)) → q ≡ [] → f ≡ [] → E ≡ g ++ joined q → E ++ b ≡ (g ++ b) ++ (f ++ joined q)
handed_out E g b f q e h k = rw (k, h, e, append-nil, append-nil) refl

accept_default_by : (me : StreamId) (E b : List ℕ) (o : Option PromiseId) (κ : ReaderKind) (z c : Acts) (qs : List ReadRequest) → reads o κ ≡ ForDefault → Renounced E o κ z → Served E z.slots.descriptors o κ (requests_of z.slots) (length z.slots.queue) c → qs ≡ c.slots.stream.requests
    → Fine (E ++ b) (accept_for me b c qs)
accept_default_by me E b o κ z c [] r k w e =
    let t : length z.slots.descriptors ≤ suc (requests_of c.slots) = tight z.slots.descriptors (requests_of z.slots) (length z.slots.queue) (requests_of c.slots) (k.more r) (k.one r) w.count in
    let n : requests_of c.slots ≡ 0 = rw (← e) refl in
    into_empty E b c w.serving.readable (rw (w.serving.descriptors, k.empty r) w.serving.all) (rw (w.serving.descriptors) (omega arith)) (rw (w.serving.descriptors, ← r) k.line) (rw (w.serving.reader, w.serving.kind) r) n
accept_default_by me E b o κ z c (q ∷ qs) r k w e =
    let t : length z.slots.descriptors ≤ suc (requests_of c.slots) = tight z.slots.descriptors (requests_of z.slots) (length z.slots.queue) (requests_of c.slots) (k.more r) (k.one r) w.count in
    let n : requests_of c.slots ≡ suc (length qs) = rw (← e) refl in
    let empty : c.slots.queue ≡ [] = w.done (λ m. omega arith) in
    record {
      readable = w.serving.readable;
      all = rw given_last (handed_out E (given c.out.effects) b (first_filled (rest_of c.slots.descriptors)) c.slots.queue empty (rw (w.serving.descriptors) (rest_filled (reads o κ) z.slots.descriptors k.line)) w.serving.all);
      good = rw (w.serving.reader, w.serving.kind, w.serving.descriptors, empty) (rest_good (reads o κ) z.slots.descriptors (length qs) r k.line (omega arith));
    }

pub default_reads : (o : Option PromiseId) (κ : ReaderKind) → is_some o && not (is_byob κ) ≡ true → reads o κ ≡ ForDefault
default_reads None κ e = cc
default_reads (Some p) Default e = refl
default_reads (Some p) Byob e = cc

pub byob_reads : (o : Option PromiseId) (κ : ReaderKind) → is_some o && is_byob κ ≡ true → reads o κ ≡ ForByob
byob_reads None κ e = cc
byob_reads (Some p) Default e = cc
byob_reads (Some p) Byob e = refl

pub nobody_reads : (o : Option PromiseId) (κ : ReaderKind) → is_some o && not (is_byob κ) ≡ false → is_some o && is_byob κ ≡ false → reads o κ ≡ ForNobody
nobody_reads None κ e f = refl
nobody_reads (Some p) Default e f = cc
nobody_reads (Some p) Byob e f = cc

accepted : (me : StreamId) (E b : List ℕ) (o : Option PromiseId) (κ : ReaderKind) (z : Acts) → Renounced E o κ z → Fine (E ++ b) (accept me b z)
accepted me E b o κ z k =
    let c : Acts = process_requests me z.slots.stream.requests z in
    either (Fine (E ++ b)) (has_default_reader z.slots) (accept_default me b z) (if has_byob_reader z.slots then process_and_commit me (append b z) else append b z)
    (λ i.
    let d : reads o κ ≡ ForDefault = rw (k.reader, k.kind) at (default_reads z.slots.stream.reader z.slots.reader_kind i) in
    accept_default_by me E b o κ z c c.slots.stream.requests d k
    (served me E z.slots.descriptors o κ z.slots.stream.requests z refl (record { readable = k.readable; reader = k.reader; kind = k.kind; asked = k.asked; descriptors = refl; all = rw (k.empty d) at k.all }))
    refl)
    (λ i. either (Fine (E ++ b)) (has_byob_reader z.slots) (process_and_commit me (append b z)) (append b z)
    (λ j.
    let d : reads o κ ≡ ForByob = rw (k.reader, k.kind) at (byob_reads z.slots.stream.reader z.slots.reader_kind j) in
    processed_fine me (E ++ b) (append b z)
    (appended_ranged E b z (record { readable = k.readable; all = k.all; line = rw (k.reader, k.kind) k.line; enough = k.byob d; none = rw (k.reader, k.kind) k.none })))
    (λ j.
    let d : reads o κ ≡ ForNobody = rw (k.reader, k.kind) at (nobody_reads z.slots.stream.reader z.slots.reader_kind i j) in
    let n : z.slots.descriptors ≡ [] = k.nobody d in
    record { readable = k.readable; all = at_end E (given z.out.effects) (first_filled z.slots.descriptors) z.slots.queue b k.all; good = rw n (λ r. k.none d) }))

pub enqueued : (me : StreamId) (E b : List ℕ) (a : Acts) → Fine E a → can_take a.slots ≡ true → Fine (E ++ b) (controller_enqueue me b a)
unfolding controller_enqueue
enqueued me E b a f c =
    let z : Acts = renounce a a.slots.descriptors in
    let w : Fine (E ++ b) (call_pull_if_needed me (accept me b z)) = pulled me (E ++ b) (accept me b z)
    (accepted me E b a.slots.stream.reader a.slots.reader_kind z (renounced E a a.slots.descriptors refl f (not_asked a.slots.stream.close_requested (readable.is_readable a.slots.stream.state) c))) in
    either (Fine (E ++ b)) (can_take a.slots) (call_pull_if_needed me (accept me b z)) a (λ i. w) (λ i. absurd (cc))
