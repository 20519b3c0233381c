-- Descriptors are processed and committed; bytes are enqueued and responded.
use Rattle.std.proofs.Common.{◌≡◌, ◌≢◌, ◌<◌, ◌≤◌, ℕ, ◌-◌, List, [], ◌∷◌, ◌++◌, length, drop, refl, sym, append_assoc, arith, length-drop}
use Rattle.ws_steps.specs.Bytes.{Acts, append, commit_all, put_processed, processed_of, process_and_commit}
use Rattle.ws_steps.specs.Descriptors.{Descriptor, Processed}
use Rattle.ws_steps.specs.Queues.{append_bytes}
use Rattle.ws_steps.specs.ByteHistory.{joined, first_filled, kept}
use Rattle.ws_steps.specs.declared.readable.ReadableState.TheVariants.{Readable}
use Rattle.ws_steps.specs.declared.byte.RoomKind.{RoomKind}
use Rattle.ws_steps.specs.declared.byte.RoomKind.TheVariants.{ForDefault, ForByob, ForNobody}
use Rattle.ws_value.specs.declared.ids.StreamId.{StreamId}
use Rattle.ws_byte_laws.proofs.Cutting.{joined_bytes}
use Rattle.ws_byte_laws.proofs.Filling.{Line, filled, handed, Done, processed}
use Rattle.ws_byte_laws.proofs.Given.{given}
use Rattle.ws_byte_laws.proofs.Fine.{Fine, Committed, committed}
use Rattle.ws_byte_laws.specs.Descriptors.{First, Good, requests_of, reads}

-- descriptors that may be processed: a request waits for each
pub record Ranged (E : List ℕ) (a : Acts) : Type 0 where
  pub readable : a.slots.stream.state ≡ Readable
  pub all : E ≡ given a.out.effects ++ kept a.slots
  pub line : Line (reads a.slots.stream.reader a.slots.reader_kind) a.slots.descriptors
  pub enough : length a.slots.descriptors ≤ requests_of a.slots
  pub none : reads a.slots.stream.reader a.slots.reader_kind ≡ ForNobody → requests_of a.slots ≡ 0

pub first_by : (t r : RoomKind) (filled : List ℕ) (k : ℕ) (q : List (List ℕ)) (n : ℕ) → t ≡ r → q ≡ [] → k < n → (r ≡ ForNobody → n ≡ 0) → First t r filled k q n
first_by ForNobody r filled k q n e f h z = let w = z (sym e) in absurd (omega arith)
first_by ForByob r filled k q n e f h z = (sym e, f, h)
first_by ForDefault r filled k q n e f h z = (sym e, omega arith, λ m. f)

pub good_line : (r : RoomKind) (ds : List Descriptor) (q : List (List ℕ)) (n : ℕ) → Line r ds → (ds ≢ [] → q ≡ []) → length ds ≤ n → (r ≡ ForNobody → n ≡ 0) → Good r ds q n
good_line r [] q n l c h z = z
good_line r (d ∷ ds) q n l c h z = (l.0, l.2, first_by d.room_kind r d.filled (length ds) q n l.1 (c (λ e. cc)) (omega arith) z)

no_more : (n k m : ℕ) → n ≡ 0 → m ≡ n - k → m ≡ 0
no_more n k m e f = omega arith

processed_all : (E g f w h : List ℕ) → E ≡ g ++ f → f ≡ h ++ w → E ≡ (g ++ h) ++ w
processed_all E g f w h e k = rw (e, k, append_assoc) refl

pub processed_fine : (me : StreamId) (E : List ℕ) (a : Acts) → Ranged E a → Fine E (process_and_commit me a)
processed_fine me E a k =
    let r : RoomKind = reads a.slots.stream.reader a.slots.reader_kind in
    let x : Processed = processed_of a in
    let p : Done r a.slots.descriptors a.slots.queue x = processed r a.slots.descriptors a.slots.queue k.line in
    let b : Acts = put_processed x a in
    let enough : length x.ready ≤ requests_of a.slots = (let n = p.count in let m = k.enough in omega arith) in
    let z : Acts = commit_all me x.ready b in
    let c : Committed x.ready b z = committed me x.ready b enough in
    let left : length (drop (length x.ready) a.slots.stream.requests) ≡ requests_of a.slots - length x.ready = length-drop (length x.ready) a.slots.stream.requests in
    record {
      readable = rw c.slots k.readable;
      all = rw (c.slots, c.bytes) (processed_all E (given a.out.effects) (kept a.slots) (first_filled x.waiting ++ joined x.queue) (handed x.ready) k.all p.bytes);
      good = rw c.slots (good_line r x.waiting x.queue (length (drop (length x.ready) a.slots.stream.requests)) p.line p.clear (let n = p.count in let m = k.enough in omega arith) (λ e. no_more _ _ _ (k.none e) left));
    }

-- bytes at the end of the queue
pub at_end : (E g f : List ℕ) (q : List (List ℕ)) (b : List ℕ) → E ≡ g ++ (f ++ joined q) → E ++ b ≡ g ++ (f ++ joined (append_bytes b q))
at_end E g f q b e = rw (e, joined_bytes, append_assoc, append_assoc) refl

pub appended_ranged : (E b : List ℕ) (a : Acts) → Ranged E a → Ranged (E ++ b) (append b a)
appended_ranged E b a k =
    record { readable = k.readable; all = at_end E (given a.out.effects) (first_filled a.slots.descriptors) a.slots.queue b k.all; line = k.line; enough = k.enough; none = k.none }

-- filled bytes before a queue are filled bytes behind it, where one of them is empty
pub swapped : (filled : List ℕ) (q : List (List ℕ)) → (filled ≢ [] → q ≡ []) → filled ++ joined q ≡ joined (append_bytes filled q)
swapped [] q h = refl
swapped (x ∷ b) q h = let e : q ≡ [] = h (λ e. cc) in rw e refl
