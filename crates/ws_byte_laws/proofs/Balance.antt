-- What has gone through a byte stream and what is kept, after each operation.
use Rattle.std.proofs.Common.{◌≡◌, ◌≢◌, ◌⊎◌, inl, inr, ℕ, Bool, true, false, List, [], ◌∷◌, ◌++◌, length, refl, sym, ap, ◌∙◌, append_assoc, append-nil, not, ◌&&◌, ◌||◌, if◌then◌else◌}
use Rattle.ws_steps.specs.Bytes.{Slots, Acts, set_up, may_respond, in_stream, is_closed, cancel_by, stream_cancel, cancel_if_readable}
use Rattle.ws_steps.specs.Descriptors.{Descriptor}
use Rattle.ws_steps.specs.Queues.{is_empty}
use Rattle.ws_steps.specs.Promises.{Table}
use Rattle.ws_steps.specs.ByteHistory.{first_filled, kept, ByteFlow, no_bytes, bytes_then, entered_into, entered_by, cancels, responds, closes_with_descriptor}
use Rattle.ws_steps.specs.Operations.{byte_readable_operation, byte_operation}
use Rattle.ws_steps.specs.declared.readable.ReadableState.{ReadableState}
use Rattle.ws_steps.specs.declared.readable.ReadableState.TheVariants.{Readable, Closed, Errored}
use Rattle.ws_steps.specs.declared.byte.ByteOperation.{ByteOperation}
use Rattle.ws_steps.specs.declared.readable.ReadableOperation.{ReadableOperation}
use Rattle.ws_value.specs.declared.ids.StreamId.{StreamId}
use Rattle.ws_value.specs.declared.ids.PromiseId.{PromiseId}
use Rattle.ws_value.specs.declared.value.Plain.{Plain}
use Rattle.ws_laws.proofs.Tables.{either}
use Rattle.ws_byte_laws.proofs.Given.{given, starting}
use Rattle.ws_byte_laws.proofs.Fine.{readable_not}
use Rattle.ws_byte_laws.proofs.Leaving.{cancel_closed}
use Rattle.ws_byte_laws.proofs.Law.{Law, readable_of, decide, both_left, both_right, unreadable, operation_law, bytes_law}
use Rattle.ws_steps.specs.Readable as readable
use Rattle.ws_laws.proofs.Lists.{append_none}
use Rattle.ws_steps.specs.ByteLaws.{IsLawfulByteStream}
use Rattle.ws_steps.specs.declared.byte.ByteOperation.TheVariants as own
use Rattle.ws_steps.specs.declared.readable.ReadableOperation.TheVariants as names
use Rattle.ws_byte_laws.specs.Descriptors.{Held}

-- what entered was given, is kept or was dropped
pub record Balanced (h : ByteFlow) (x : Slots) : Type 0 where
  pub dropped : List ℕ
  pub all : h.entered ≡ h.given ++ (kept x ++ dropped)
  pub live : x.stream.state ≡ Readable → dropped ≡ []
  pub whole : h.cancelled ≡ false → h.left ≡ false → x.stream.state ≡ Closed → kept x ++ dropped ≡ []
  pub closing : h.cancelled ≡ false → h.answered ≡ false → x.stream.state ≡ Closed → dropped ≡ []
  pub ended : h.cancelled ≡ true → (x.stream.state ≡ Closed) × (kept x ≡ [])
  pub held : Held x

pub or_left : (b c : Bool) → b || c ≡ false → b ≡ false
or_left true c e = cc
or_left false c e = refl

pub or_right : (b c : Bool) → b || c ≡ false → c ≡ false
or_right true c e = cc
or_right false c e = e

-- what was dropped before is dropped behind what is lost now
balanced_all : (E G K D n g k l : List ℕ) → (n ≡ []) ⊎ (D ≡ []) → E ≡ G ++ (K ++ D) → K ++ n ≡ g ++ (k ++ l) → E ++ n ≡ (G ++ g) ++ (k ++ (l ++ D))
balanced_all E G K D n g k l (inl e) a b =
    let c : K ≡ g ++ (k ++ l) = sym (append-nil K) ∙ (rw e at b) in
    rw (e, a, c, append-nil) (simp append_assoc)
balanced_all E G K D n g k l (inr e) a b =
    rw (a, e) (simp (append_assoc, append-nil) (ap (λ z. G ++ z) b))

pub and_true : (c : Bool) → c && true ≡ false → c ≡ false
and_true true e = cc
and_true false e = refl

none_by : (ds : List Descriptor) → not (is_empty ds) ≡ false → first_filled ds ≡ []
none_by [] e = refl
none_by (d ∷ ds) e = cc

no_descriptor : (x y : Slots) → closes_with_descriptor x y ≡ false → x.stream.state ≡ Readable → y.stream.state ≡ Closed → first_filled y.descriptors ≡ []
no_descriptor x y e r c = none_by y.descriptors (rw (r, c) at e)

-- where it was closed before, nothing was kept
closed_whole : (c w : Bool) (n : List ℕ) (x : Slots) (a : Acts) (h : ByteFlow) (l : Law c w n x a) (b : Balanced h x) → n ≡ [] → h.cancelled ≡ false → h.left ≡ false → a.slots.stream.state ≡ Closed
    → (state : ReadableState) → x.stream.state ≡ state → x.stream.state ≢ Readable → kept a.slots ++ (l.lost ++ b.dropped) ≡ []
closed_whole c w n x a h l b e f g i Readable s r = absurd (r s)
closed_whole c w n x a h l b e f g i Closed s r =
    let v : (kept x ≡ []) × (b.dropped ≡ []) = append_none (kept x) b.dropped (b.whole f g s) in
    let k : given a.out.effects ++ (kept a.slots ++ l.lost) ≡ [] = sym l.all ∙ rw (e, append-nil) (v.0) in
    let m : (given a.out.effects ≡ []) × (kept a.slots ++ l.lost ≡ []) = append_none (given a.out.effects) (kept a.slots ++ l.lost) k in
    rw (v.1, append-nil) (m.1)
closed_whole c w n x a h l b e f g i Errored s r = let m : a.slots.stream.state ≡ Errored = (l.errored s).0 in absurd (cc)

closed_lost : (c w : Bool) (n : List ℕ) (x : Slots) (a : Acts) (h : ByteFlow) (l : Law c w n x a) (b : Balanced h x) → h.cancelled ≡ false → h.answered || (w && is_closed x.stream.state) ≡ false → a.slots.stream.state ≡ Closed
    → (state : ReadableState) → x.stream.state ≡ state → x.stream.state ≢ Readable → l.lost ++ b.dropped ≡ []
closed_lost c w n x a h l b f g i Readable s r = absurd (r s)
closed_lost c w n x a h l b f g i Closed s r =
    let k : w && true ≡ false = rw s at (or_right h.answered (w && is_closed x.stream.state) g) in
    rw (l.unlost (and_true w k) s, b.closing f (or_left h.answered _ g) s) refl
closed_lost c w n x a h l b f g i Errored s r = let m : a.slots.stream.state ≡ Errored = (l.errored s).0 in absurd (cc)

e_cases : (b c : Bool) → b || c ≡ true → (b ≡ true) ⊎ (c ≡ true)
e_cases true c e = inl refl
e_cases false c e = inr e

ends_now : (c w : Bool) (n : List ℕ) (x : Slots) (a : Acts) (h : ByteFlow) (l : Law c w n x a) (b : Balanced h x) → (c ≡ true → x.stream.state ≡ Readable → (a.slots.stream.state ≡ Closed) × (kept a.slots ≡ []))
    → (h.cancelled ≡ true) ⊎ (c && readable.is_readable x.stream.state ≡ true) → x.stream.state ≡ Readable → (a.slots.stream.state ≡ Closed) × (kept a.slots ≡ [])
ends_now c w n x a h l b z (inl f) r = let k = (b.ended f).0 in absurd (cc)
ends_now c w n x a h l b z (inr f) r = z (both_left c (readable.is_readable x.stream.state) f) r

ends_before : (c w : Bool) (n : List ℕ) (x : Slots) (a : Acts) (h : ByteFlow) (l : Law c w n x a) (b : Balanced h x) → n ≡ []
    → (h.cancelled ≡ true) ⊎ (c && readable.is_readable x.stream.state ≡ true) → x.stream.state ≢ Readable → (a.slots.stream.state ≡ Closed) × (kept a.slots ≡ [])
ends_before c w n x a h l b e (inl f) r =
    let k : given a.out.effects ++ (kept a.slots ++ l.lost) ≡ [] = sym l.all ∙ rw (e, append-nil) ((b.ended f).1) in
    (l.closed (b.ended f).0, (append_none (kept a.slots) l.lost (append_none (given a.out.effects) (kept a.slots ++ l.lost) k).1).0)
ends_before c w n x a h l b e (inr f) r = absurd (r (readable_of x.stream.state (both_right c (readable.is_readable x.stream.state) f)))

-- what goes through by an operation, where it gives at once
abbrev pub flow_of : Bool → Bool → List ℕ → Slots → Acts → ByteFlow
flow_of cancels answers entered x a =
    record {
      entered = entered;
      given = given a.out.effects;
      cancelled = cancels && readable.is_readable x.stream.state;
      left = closes_with_descriptor x a.slots;
      answered = answers && is_closed x.stream.state;
    }

law_balanced : (c w : Bool) (n : List ℕ) (x : Slots) (a : Acts) (h : ByteFlow) → (c ≡ true → x.stream.state ≡ Readable → (a.slots.stream.state ≡ Closed) × (kept a.slots ≡ [])) → (x.stream.state ≢ Readable → n ≡ []) → Law c w n x a → Balanced h x → (x.stream.state ≡ Readable) ⊎ (x.stream.state ≢ Readable) → Balanced (bytes_then h (flow_of c w n x a)) a.slots
law_balanced c w n x a h z e l b (inl r) =
    let d : b.dropped ≡ [] = b.live r in
    record {
      dropped = l.lost ++ b.dropped;
      all = balanced_all h.entered h.given (kept x) b.dropped n (given a.out.effects) (kept a.slots) l.lost (inr d) b.all l.all;
      live = λ i. rw (d, append-nil) (l.live i).1;
      whole = λ f g i.
          let k : c && true ≡ false = rw r at (or_right h.cancelled (c && readable.is_readable x.stream.state) f) in
          let m : l.lost ≡ [] = l.whole (and_true c k) r i in
          let o : first_filled a.slots.descriptors ≡ [] = no_descriptor x a.slots (or_right h.left (closes_with_descriptor x a.slots) g) r i in
          let q : a.slots.queue ≡ [] = (l.held.closed i).0 in
          rw (o, q, m, d) refl;
      closing = λ f g i.
          let k : c && true ≡ false = rw r at (or_right h.cancelled (c && readable.is_readable x.stream.state) f) in
          rw (l.whole (and_true c k) r i, d) refl;
      ended = λ f. ends_now c w n x a h l b z (e_cases h.cancelled (c && readable.is_readable x.stream.state) f) r;
      held = l.held;
    }
law_balanced c w n x a h z e l b (inr r) =
    record {
      dropped = l.lost ++ b.dropped;
      all = balanced_all h.entered h.given (kept x) b.dropped n (given a.out.effects) (kept a.slots) l.lost (inl (e r)) b.all l.all;
      live = λ i. absurd (r (l.live i).0);
      whole = λ f g i. closed_whole c w n x a h l b (e r) (or_left h.cancelled _ f) (or_left h.left _ g) i x.stream.state refl r;
      closing = λ f g i. closed_lost c w n x a h l b (or_left h.cancelled _ f) g i x.stream.state refl r;
      ended = λ f. ends_before c w n x a h l b (e r) (e_cases h.cancelled (c && readable.is_readable x.stream.state) f) r;
      held = l.held;
    }

take_none : (c : Bool) (b : List ℕ) → (if c && false then b else []) ≡ []
take_none true b = refl
take_none false b = refl

unreadable_take : (state : ReadableState) (c : Bool) (b : List ℕ) → state ≢ Readable → (if not c && readable.is_readable state then b else []) ≡ []
unreadable_take state c b n = rw (unreadable state n) (take_none (not c) b)

pub entered_unreadable : (op : ByteOperation) (x : Slots) → x.stream.state ≢ Readable → entered_by op x ≡ []
entered_unreadable (own.Enqueue b) x n = unreadable_take x.stream.state x.stream.close_requested b n
entered_unreadable (own.Respond b) x n = rw (unreadable x.stream.state n) (take_none (may_respond (length b) x) (entered_into x.descriptors b))
entered_unreadable _ x n = refl

cancel_by_ends : (me : StreamId) (r : Plain) (p : PromiseId) (x : Slots) (t : Table) (state : ReadableState) → state ≡ Readable
    → let a : Acts = cancel_by me r p (in_stream readable.disturb (starting x t)) state in (a.slots.stream.state ≡ Closed) × (kept a.slots ≡ [])
cancel_by_ends me r p x t Readable e = ((cancel_closed me (in_stream readable.disturb (starting x t))).state, refl)
cancel_by_ends me r p x t Closed e = absurd (cc)
cancel_by_ends me r p x t Errored e = absurd (cc)

-- a cancel closes, and nothing is kept
cancel_ends : (me : StreamId) (op : ReadableOperation) (x : Slots) (t : Table) → cancels op ≡ true → x.stream.state ≡ Readable
    → let a : Acts = byte_readable_operation me op (starting x t) in (a.slots.stream.state ≡ Closed) × (kept a.slots ≡ [])
unfolding stream_cancel cancel_if_readable
cancel_ends me (names.Cancel r p) x t c e = cancel_by_ends me r p x t x.stream.state e
cancel_ends me (names.CancelIfReadable r p) x t c e =
    either (λ (a : Acts). (a.slots.stream.state ≡ Closed) × (kept a.slots ≡ [])) (readable.is_readable x.stream.state) (stream_cancel me r p (starting x t)) _
    (λ k. cancel_by_ends me r p x t x.stream.state e) (λ k. absurd (readable_not x.stream.state e k))
cancel_ends me op x t c e = absurd (cc)

pub operation_balanced : (me : StreamId) (op : ReadableOperation) (t : Table) (h : ByteFlow) (x : Slots) → Balanced h x
    → let a : Acts = byte_readable_operation me op (starting x t) in Balanced (bytes_then h (flow_of (cancels op) false [] x a)) a.slots
operation_balanced me op t h x b = law_balanced (cancels op) false [] x _ h (cancel_ends me op x t) (λ n. refl) (operation_law me op x t b.held) b (decide x.stream.state)

pub controller_balanced : (me : StreamId) (op : ByteOperation) (t : Table) (h : ByteFlow) (x : Slots) → Balanced h x
    → let a : Acts = byte_operation me op (starting x t) in Balanced (bytes_then h (flow_of false (responds op) (entered_by op x) x a)) a.slots
controller_balanced me op t h x b = law_balanced false (responds op) (entered_by op x) x _ h (λ f. absurd (cc)) (entered_unreadable op x) (bytes_law me op x t b.held) b (decide x.stream.state)

pub new_balanced : (mark auto : ℕ) → Balanced no_bytes (set_up mark auto)
new_balanced mark auto =
    record {
      dropped = [];
      all = refl;
      live = λ e. refl;
      whole = λ f g e. refl;
      closing = λ f g e. refl;
      ended = λ f. absurd (cc);
      held = record { readable = λ e f. refl; closed = λ e. absurd (cc); errored = λ e. absurd (cc) };
    }

pub lawful : (h : ByteFlow) (x : Slots) → Balanced h x → IsLawfulByteStream h x
lawful h x b =
    record {
      front = (kept x ++ b.dropped, sym b.all);
      readable = λ e. (b.all ∙ rw (b.live e, append-nil) refl);
      closed = λ e. (b.dropped, append_assoc h.given (kept x) b.dropped ∙ sym b.all);
      whole = λ f g e. sym (b.all ∙ rw (b.whole f g e, append-nil) refl);
    }
