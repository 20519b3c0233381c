-- What an operation of a byte stream finds where it is performed: a reader comes where there is none, a read by a default reader finds that reader, and
-- one into a room finds a BYOB reader, whose requests stand one to one with the rooms.
use Rattle.std.proofs.Common.{◌≡◌, ◌≢◌, ℕ, Bool, true, false, not, ◌&&◌, List, [], ◌∷◌, Option, Some, is_some, slice_get, refl, sym, ap, ◌∙◌, subst, arith}
use Rattle.ws_value.specs.declared.ids.{StreamId.{StreamId}}
use Rattle.ws_steps.specs.declared.byte.{ByteOperation.{ByteOperation}, ReaderKind.TheVariants.{Default, Byob}}
use Rattle.ws_steps.specs.declared.byte.ByteOperation.TheVariants as own
use Rattle.ws_steps.specs.declared.effects.Effect.{Effect}
use Rattle.ws_steps.specs.declared.effects.Effect.TheVariants.{Readable as OnReadable, Byte}
use Rattle.ws_steps.specs.declared.readable.{ReadRequest.{ReadRequest}, ReadableOperation.{ReadableOperation}, ReadableState.TheVariants.{Readable}}
use Rattle.ws_steps.specs.declared.readable.ReadableOperation.TheVariants as names
use Rattle.ws_steps.specs.Bytes as byte
use Rattle.ws_steps.specs.Bytes.{has_default_reader, is_byob}
use Rattle.ws_steps.specs.Descriptors.{Descriptor}
use Rattle.ws_steps.specs.Slots.{Slots, ByteStream, has_byte, byte_at}
use Rattle.ws_laws.proofs.Tables.{byte_there}
use Rattle.ws_byte_laws.specs.Descriptors.{Held}
use Rattle.ws_pipe_laws.specs.locks.Locks.{Reading, has_lock, is_locked}
use Rattle.ws_pipe_laws.proofs.locks.Asking.{read-locked, has-locked, asks-meant}
use Rattle.ws_pipe_laws.proofs.locks.ByteReaders.{look}
use Rattle.ws_pipe_laws.proofs.locks.ReaderKinds.{defaults, byobs, holders-split, HasKind, byte_look, KindHeld}
use Rattle.ws_pipe_laws.proofs.locks.Sources.{Known}
use Rattle.ws_room_read_laws.proofs.Pairs.{behind, Pairs}
use Rattle.ws_room_read_laws.proofs.Fair.{Even}
use Rattle.ws_answer_laws.proofs.Asking.{Finds}
use Rattle.ws_answer_laws.proofs.InOrder.{IsOwnFree}
use Rattle.ws_answer_laws.proofs.Lawful.{IsByobs}

-- no request is looked at by what it weighs
abbrev pub no_weight : ReadRequest → ℕ
no_weight r = 0

abbrev pub IsEven : byte.Slots → Type 0
IsEven x = Even no_weight 0 0 0 x

-- no read of a default reader waits at a stream that has ended
abbrev pub HasEnded : byte.Slots → Type 0
HasEnded x = has_default_reader x ≡ true → x.stream.state ≢ Readable → x.stream.requests ≡ []

default_by : (x : byte.Slots) → is_some x.stream.reader ≡ true → x.reader_kind ≡ Default → has_default_reader x ≡ true
default_by x l k = rw (l, k) refl

byob_by : (x : byte.Slots) → x.reader_kind ≡ Byob → has_default_reader x ≡ false
byob_by x k = by (is_some x.stream.reader) (rw k refl)
  where
    by : (l : Bool) → not (is_byob x.reader_kind) ≡ false → l && not (is_byob x.reader_kind) ≡ false
    by true e = e
    by false e = refl

no_pairs : (rs : List ReadRequest) (ds : List Descriptor) → ds ≡ [] → Pairs no_weight 0 0 0 rs (behind ds) → rs ≡ []
no_pairs rs (d ∷ ds) e p = absurd (cc)
no_pairs [] [] e p = refl
no_pairs (r ∷ rs) [] e p = absurd p

module _ (i : StreamId) (s : Slots) (there : has_byte i s ≡ true) where
  here : slice_get s.streams i.0 ≡ Some (ByteStream (byte_at i s))
  here = byte_there (slice_get s.streams i.0) there

  kind-at : (e : Effect) (es : List Effect) → Known s (e ∷ es) → HasKind (look (byte_at i s)) (byobs i s) (defaults i s)
  kind-at e es k = subst (λ (o : Option _). KindHeld o (byobs i s) (defaults i s)) (ap byte_look here) (k.kinds i).kind

  locked-at : is_locked Reading i s ≡ true → is_some (byte_at i s).stream.reader ≡ true
  locked-at l = sym (ap (has_lock Reading) here) ∙ l

  read-default : (q : ReadRequest) (es : List Effect) → Known s (OnReadable i (names.Read q) ∷ es) → has_default_reader (byte_at i s) ≡ true
  read-default q es k =
      let l : is_some (byte_at i s).stream.reader ≡ true = locked-at (read-locked s i (names.Read q) es k.locked.first (k.locked.each Reading i) k.asks q refl) in
      default_by (byte_at i s) l ((kind-at (OnReadable i (names.Read q)) es k).default l k.asks.0)

  pub finds : (op : ReadableOperation) (es : List Effect) → Known s (OnReadable i op ∷ es) → IsEven (byte_at i s) → HasEnded (byte_at i s) → Finds op (byte_at i s)
  finds (names.InitializeReader p) es k even ended = even.none
  finds (names.Read q) es k even ended =
      (asks-meant s (OnReadable i (names.Read q)) es k.locked.first (k.locked.each Reading) k.kinds k.asks there, ended (read-default q es k))
  finds op es k even ended = tt

  into-byob : (room : List ℕ) (element minimum : ℕ) (q : ReadRequest) (es : List Effect) → Known s (Byte i (own.PullInto room element minimum q) ∷ es) → has_default_reader (byte_at i s) ≡ false
  into-byob room element minimum q es k =
      let e : Effect = Byte i (own.PullInto room element minimum q) in
      let some = k.asks.some in
      let split = holders-split i s in
      let l : is_some (byte_at i s).stream.reader ≡ true = locked-at (has-locked i s e es tt tt k.locked.first (k.locked.each Reading i) (omega (arith, some, split))) in
      byob_by (byte_at i s) ((kind-at e es k).byob l some)

  pub own-byobs : (op : ByteOperation) (es : List Effect) → Known s (Byte i op ∷ es) → IsByobs i (byte_at i s).stream.state (byte_at i s).stream.stored_error op (byte_at i s)
  own-byobs (own.PullInto room element minimum q) es k = into-byob room element minimum q es k
  own-byobs op es k = tt

  pub own-finds : (op : ByteOperation) (es : List Effect) → Known s (Byte i op ∷ es) → IsEven (byte_at i s) → Held (byte_at i s) → IsOwnFree op (byte_at i s)
  own-finds (own.InitializeByobReader p) es k even held = even.none
  own-finds (own.PullInto room element minimum q) es k even held =
      let x : byte.Slots = byte_at i s in
      let pairs : Pairs no_weight 0 0 0 x.stream.requests (behind x.descriptors) = even.pairs (into-byob room element minimum q es k) in (
        asks-meant s (Byte i (own.PullInto room element minimum q)) es k.locked.first (k.locked.each Reading) k.kinds k.asks there,
        (λ n. no_pairs x.stream.requests x.descriptors n pairs, λ e. no_pairs x.stream.requests x.descriptors (held.errored e).1 pairs),
      )
  own-finds op es k even held = tt
