-- The order of a byte stream over every run.
use Rattle.std.proofs.Common.{◌≡◌, ◌⊎◌, inl, inr, ℕ, Bool, true, false, List, [], ◌++◌, refl, sym, ◌∙◌, append_assoc, append-nil, ◌||◌}
use Rattle.ws_steps.specs.Promises.{Table}
use Rattle.ws_steps.specs.ByteHistory.{ByteFlow, no_bytes, bytes_then, entered_by, cancels, responds, shared_bytes, own_bytes, run_bytes}
use Rattle.ws_steps.specs.Operations.{byte_readable_operation, byte_operation}
use Rattle.ws_steps.specs.declared.byte.ByteOperation.{ByteOperation}
use Rattle.ws_steps.specs.declared.readable.ReadableOperation.{ReadableOperation}
use Rattle.ws_value.specs.declared.ids.StreamId.{StreamId}
use Rattle.ws_byte_laws.proofs.Given.{given, starting}
use Rattle.ws_byte_laws.proofs.OnByte.{Kept}
use Rattle.ws_byte_laws.proofs.Balance.{Balanced, flow_of, operation_balanced, controller_balanced, new_balanced, lawful}
use Rattle.ws_byte_laws.proofs.Gifts.{nothing_given}
use Rattle.ws_byte_laws.proofs.OnByte.{IsByteLaw, same_bytes, Fresh, run-kept}
use Rattle.ws_steps.specs.Bytes as byte
use Rattle.ws_steps.specs.Slots as realm
use Rattle.ws_steps.specs.Slots.{has_byte, byte_at, empty}
use Rattle.ws_steps.specs.Run.{Entry, run}
use Rattle.ws_steps.specs.ByteLaws.{EachByteStreamIsLawful}
use Rattle.ws_byte_laws.specs.Keeping.{EachClosedByteStreamKeeps}
use Rattle.ws_laws.proofs.ReadableDoes.{is_taking}

-- the flow with what is still to be given
abbrev pub with_pending : List ℕ → ByteFlow → ByteFlow
with_pending ps h = record h { given = h.given ++ ps }

abbrev pub Ordered : ByteFlow → byte.Slots → List ℕ → Type 0
Ordered h x ps = Balanced (with_pending ps h) x

-- what an operation gives stands before all that is still to be given, of which there is none, or it gives nothing
moved : (G P D : List ℕ) → (P ≡ []) ⊎ (D ≡ []) → (G ++ P) ++ D ≡ (G ++ []) ++ (D ++ P)
moved G P D (inl p) = rw p (simp append-nil)
moved G P D (inr d) = rw d (simp append-nil)

moved_flow : (h f g : ByteFlow) (ps D : List ℕ) → f.given ≡ D → g ≡ record f { given = [] } → (ps ≡ []) ⊎ (D ≡ []) → bytes_then (with_pending ps h) f ≡ with_pending (D ++ ps) (bytes_then h g)
moved_flow h f g ps D e same n = rw same (λ k. record {
  entered = h.entered ++ f.entered;
  given = given k;
  cancelled = h.cancelled || f.cancelled;
  left = h.left || f.left;
  answered = h.answered || f.answered;
})
  where
    given : (h.given ++ ps) ++ f.given ≡ (h.given ++ []) ++ (D ++ ps)
    given = rw e (moved h.given ps D n)

-- whether an operation is a read
decided : (op : ReadableOperation) (t : Bool) → t ≡ is_taking op → (t ≡ true) ⊎ (is_taking op ≡ false)
decided op true e = inl refl
decided op false e = inr (sym e)

either_none : (i : StreamId) (op : ReadableOperation) (t : Table) (x : byte.Slots) (ps : List ℕ) → (is_taking op ≡ true → ps ≡ []) → (is_taking op ≡ true) ⊎ (is_taking op ≡ false)
    → (ps ≡ []) ⊎ (given (byte_readable_operation i op (starting x t)).out.effects ≡ [])
either_none i op t x ps c (inl e) = inl (c e)
either_none i op t x ps c (inr e) = inr (nothing_given i op x t e)

taking : (op : ReadableOperation) (t : Bool) → t ≡ is_taking op → (is_taking op ≡ true) ⊎ (is_taking op ≡ false)
taking op true e = inl (sym e)
taking op false e = inr (sym e)

module _ (i : StreamId) where
  operation_keeps : (op : ReadableOperation) (t : Table) (h : ByteFlow) (x : byte.Slots) (ps : List ℕ) → (is_taking op ≡ true → ps ≡ []) → Ordered h x ps
      → let a : byte.Acts = byte_readable_operation i op (starting x t) in Ordered (bytes_then h (shared_bytes op x a.slots)) a.slots (given a.out.effects ++ ps)
  operation_keeps op t h x ps c k =
      let a : byte.Acts = byte_readable_operation i op (starting x t) in
      let same : bytes_then (with_pending ps h) (flow_of (cancels op) false [] x a) ≡ with_pending (given a.out.effects ++ ps) (bytes_then h (shared_bytes op x a.slots)) =
      moved_flow h (flow_of (cancels op) false [] x a) (shared_bytes op x a.slots) ps (given a.out.effects) refl refl (either_none i op t x ps c (taking op (is_taking op) refl)) in
      rw same at (operation_balanced i op t (with_pending ps h) x k)

  controller_keeps : (op : ByteOperation) (t : Table) (h : ByteFlow) (x : byte.Slots) → Ordered h x []
      → let a : byte.Acts = byte_operation i op (starting x t) in Ordered (bytes_then h (own_bytes op x a.slots)) a.slots (given a.out.effects)
  controller_keeps op t h x k =
      let a : byte.Acts = byte_operation i op (starting x t) in
      let f : ByteFlow = flow_of false (responds op) (entered_by op x) x a in
      let same : bytes_then (with_pending [] h) f ≡ with_pending (given a.out.effects ++ []) (bytes_then h (own_bytes op x a.slots)) =
      moved_flow h f (own_bytes op x a.slots) [] (given a.out.effects) refl refl (inl refl) in
      let all : Ordered (bytes_then h (own_bytes op x a.slots)) a.slots (given a.out.effects ++ []) = rw same at (controller_balanced i op t (with_pending [] h) x k) in
      rw (append-nil (given a.out.effects)) at all

  gift_keeps : (b : List ℕ) (h : ByteFlow) (x : byte.Slots) (ps : List ℕ) → Ordered h x (b ++ ps) → Ordered (bytes_then h (record no_bytes { given = b })) x ps
  gift_keeps b h x ps k =
      let n : bytes_then h no_bytes ≡ h = same_bytes h in
      let same : with_pending (b ++ ps) h ≡ with_pending ps (bytes_then h (record no_bytes { given = b })) = λ j. record {
        entered = sym (append-nil h.entered) j;
        given = sym (append_assoc h.given b ps) j;
        cancelled = (sym n j).cancelled;
        left = (sym n j).left;
        answered = (sym n j).answered;
      } in
      rw same at k

  pub law : IsByteLaw i Ordered
  law = record { operation = operation_keeps; controller = controller_keeps; gift = gift_keeps }

  made : (mark auto : ℕ) (h : ByteFlow) → Fresh h → Ordered h (byte.set_up mark auto) []
  made mark auto h f =
      let b = (new_balanced mark auto).held in
      record {
        dropped = [];
        all = rw (f.entered, f.given) refl;
        live = λ e. refl;
        whole = λ c l e. refl;
        closing = λ c n e. refl;
        ended = λ c. let g = f.cancelled in absurd (cc);
        held = b;
      }

  abbrev pub Keeps : ByteFlow → realm.Slots → Type 0
  Keeps h s = Kept i Ordered h s.streams []

  pub ordered-run : (xs : List Entry) → Keeps (run_bytes i xs empty) (run xs empty)
  ordered-run xs = run-kept i Ordered law made xs

-- between steps nothing is still to be given
pub between : (h : ByteFlow) (x : byte.Slots) → Ordered h x [] → Balanced h x
between h x k = let same : with_pending [] h ≡ h = λ j. record h { given = append-nil h.given j } in rw same at k

pub each_byte_stream_is_lawful : EachByteStreamIsLawful
each_byte_stream_is_lawful entries i is =
    let s : realm.Slots = run entries empty in
    lawful (run_bytes i entries empty) (byte_at i s) (between (run_bytes i entries empty) (byte_at i s) ((ordered-run i entries).there is))

pub each_closed_byte_stream_keeps : EachClosedByteStreamKeeps
each_closed_byte_stream_keeps entries i is c f g =
    let s : realm.Slots = run entries empty in
    let b : Balanced (run_bytes i entries empty) (byte_at i s) = between (run_bytes i entries empty) (byte_at i s) ((ordered-run i entries).there is) in
    b.all ∙ rw (b.closing f g c, append-nil) refl
