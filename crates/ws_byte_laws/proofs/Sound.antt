-- The BYOB request of a readable byte stream, in every run, and what entered (`each_byte_stream_is_sound`, `entered_bytes_were_accepted`).
use Rattle.std.proofs.Common.{◌≡◌, ◌≢◌, ℕ, Bool, true, false, List, [], ◌∷◌, ◌++◌, length, Option, Some, None, nat_eq, slice_get, refl, sym, ap, ◌∙◌, arith}
use Rattle.ws_steps.specs.Descriptors.{Descriptor}
use Rattle.ws_steps.specs.Promises.{Table}
use Rattle.ws_steps.specs.ByteHistory.{run_bytes}
use Rattle.ws_steps.specs.Operations.{byte_readable_operation, byte_operation}
use Rattle.ws_steps.specs.declared.byte.ByteOperation.{ByteOperation}
use Rattle.ws_steps.specs.declared.readable.ReadableOperation.{ReadableOperation}
use Rattle.ws_steps.specs.declared.effects.Effect.{Effect}
use Rattle.ws_value.specs.declared.ids.StreamId.{StreamId}
use Rattle.ws_laws.proofs.Tables.{either}
use Rattle.ws_byte_laws.proofs.Given.{starting}
use Rattle.ws_byte_laws.proofs.Law.{operation_law, bytes_law}
use Rattle.ws_byte_laws.proofs.Balance.{new_balanced}
use Rattle.ws_byte_laws.proofs.Steps.{IsNoByte, row-other, AreBehind, begin-behind}
use Rattle.ws_byte_laws.proofs.Requests.{operation_fits, MayMake, own_fits}
use Rattle.ws_byte_laws.proofs.Making.{IsNoMake, asks, begin-no_make}
use Rattle.ws_byte_laws.proofs.Accepted.{entry_accepted}
use Rattle.ws_steps.specs.Readable as readable
use Rattle.ws_value.specs.declared.ids.RequestId.{RequestId}
use Rattle.ws_steps.specs.declared.byte.ByteOperation.TheVariants as own
use Rattle.ws_steps.specs.declared.{calls.Call.{Call}, calls.Call.TheVariants.{Request}, promises.Job.{Job}}
use Rattle.ws_steps.specs.declared.effects.Effect.TheVariants.{Readable as OnReadable, Byte, Writable}
use Rattle.ws_steps.specs.Bytes as byte
use Rattle.ws_steps.specs.Writable as writable
use Rattle.ws_steps.specs.Slots as realm
use Rattle.ws_steps.specs.Slots.{Stream, ReadableStream, ByteStream, WritableStream, Done, has_byte, byte_at, is_byte_stream, as_byte, empty}
use Rattle.ws_steps.specs.Begun.{Begun, unsupported}
use Rattle.ws_steps.specs.Calls.{begin}
use Rattle.ws_steps.specs.ControllerCalls as controller_calls
use Rattle.ws_steps.specs.Jobs.{job_effects}
use Rattle.ws_steps.specs.Operations.{writable_operation}
use Rattle.ws_steps.specs.Turns.{row}
use Rattle.ws_steps.specs.Run.{Entry, step, run}
use Rattle.ws_steps.specs.Histories.{is_same}
use Rattle.ws_steps.specs.ByteHistory.{accepted_bytes}
use Rattle.ws_steps.specs.ByteLaws.{EnteredBytesWereAccepted}
use Rattle.ws_steps.specs.declared.writable.WritableOperation.{WritableOperation}
use Rattle.ws_laws.proofs.Tables.{same_id, eq_numbers, unequal_numbers, on_byte-same, on_byte-other, on_source-byte, on_source-other, on_writable-look, place_last, place_before}
use Rattle.ws_laws.proofs.Lists.{Each, each-append}
use Rattle.ws_laws.proofs.Apart.{IsApart, row-streams}
use Rattle.ws_laws.proofs.Begin.{begin-makes}
use Rattle.ws_laws.proofs.StaysBytes.{row-byte}
use Rattle.ws_laws.proofs.Walker.{Stays, run-stays}
use Rattle.ws_byte_laws.specs.Descriptors.{Held, Sound, EachByteStreamIsSound}

-- a request is made where there is a descriptor
abbrev pub HasRoom : ByteOperation → byte.Slots → Type 0
HasRoom (own.MakeRequest q) x = x.descriptors ≢ []
HasRoom _ x = Unit {0}

may_make : (op : ByteOperation) (x : byte.Slots) → Held x → HasRoom op x → MayMake op x
may_make (own.MakeRequest q) x h r = (r, λ e. r (h.errored e).1)
may_make (own.InitializeByobReader p) x h r = tt
may_make (own.Enqueue b) x h r = tt
may_make (own.PullInto room element minimum q) x h r = tt
may_make (own.Respond b) x h r = tt

operation_sound : (me : StreamId) (op : ReadableOperation) (x : byte.Slots) (t : Table) → Sound x → Sound (byte_readable_operation me op (starting x t)).slots
operation_sound me op x t k = record { held = (operation_law me op x t k.held).held; backed = operation_fits me op x t k.backed }

own_sound : (me : StreamId) (op : ByteOperation) (x : byte.Slots) (t : Table) → HasRoom op x → Sound x → Sound (byte_operation me op (starting x t)).slots
own_sound me op x t r k = record { held = (bytes_law me op x t k.held).held; backed = own_fits me op x t (may_make op x k.held r) k.backed }

new_sound : (mark auto : ℕ) → Sound (byte.set_up mark auto)
new_sound mark auto = record { held = (new_balanced mark auto).held; backed = record { live = λ r d. refl; dead = λ r. refl } }

module _ (i : StreamId) where
  abbrev pub IsSound : realm.Slots → Type 0
  IsSound s = has_byte i s ≡ true → Sound (byte_at i s)

  -- the first effect, which alone may be an operation of a byte controller
  abbrev May : realm.Slots → Effect → Type 0
  May s (Byte j op) = is_same i j ≡ true → HasRoom op (byte_at i s)
  May s _ = Unit {0}

  abbrev FirstMay : realm.Slots → List Effect → Type 0
  FirstMay s [] = Unit {0}
  FirstMay s (e ∷ es) = May s e × Each IsNoByte es

  no_byte_may : (s : realm.Slots) (e : Effect) → IsNoByte e → May s e
  no_byte_may s (Byte j op) n = absurd n
  no_byte_may s _ n = tt

  none_may : (s : realm.Slots) (es : List Effect) → Each IsNoByte es → FirstMay s es
  none_may s [] n = tt
  none_may s (e ∷ es) n = (no_byte_may s e n.0, n.1)

  abbrev pub All : realm.Slots → List Effect → Type 0
  All s es = IsSound s × FirstMay s es

  by_operation : (j : StreamId) (op : ReadableOperation) (s : realm.Slots) (same : Bool) → same ≡ is_same i j → has_byte i s ≡ true → IsSound s → Sound (byte_at i (row (OnReadable j op) s).slots)
  unfolding row
  by_operation j op s false e is k = rw (ap as_byte (on_source-other op j s i (sym e))) (k is)
  by_operation j op s true e is k =
      let eq : j ≡ i = sym (same_id i j (sym e)) in
      rw (eq, on_source-byte op i s is, on_byte-same (byte_readable_operation i op) i s is) (operation_sound i op (byte_at i s) s.promises (k is))

  by_own : (j : StreamId) (op : ByteOperation) (s : realm.Slots) (same : Bool) → same ≡ is_same i j → has_byte i s ≡ true → May s (Byte j op) → IsSound s → Sound (byte_at i (row (Byte j op) s).slots)
  unfolding row
  by_own j op s false e is m k = rw (ap as_byte (on_byte-other (byte_operation j op) j s i (sym e))) (k is)
  by_own j op s true e is m k =
      let eq : j ≡ i = sym (same_id i j (sym e)) in
      rw (eq, on_byte-same (byte_operation i op) i s is) (own_sound i op (byte_at i s) s.promises (m (sym e)) (k is))

  writable_leaves : (j : StreamId) (op : WritableOperation) (s : realm.Slots) → byte_at i (row (Writable j op) s).slots ≡ byte_at i s
  unfolding row
  writable_leaves j op s = on_writable-look as_byte (λ b c. refl) (writable_operation j op) j s i (is_same i j) refl

  apart : (e : Effect) (s : realm.Slots) → IsApart e → has_byte i s ≡ true → IsSound s → Sound (byte_at i (row e s).slots)
  apart e s a is k = let same : byte_at i (row e s).slots ≡ byte_at i s = ap (λ (xs : List Stream). as_byte (slice_get xs i.0)) (row-streams e s a) in rw same (k is)

  sound_row : (e : Effect) (s : realm.Slots) → May s e → IsSound s → has_byte i s ≡ true → Sound (byte_at i (row e s).slots)
  sound_row (OnReadable j op) s m k is = by_operation j op s (is_same i j) refl is k
  sound_row (Byte j op) s m k is = by_own j op s (is_same i j) refl is m k
  sound_row (Writable j op) s m k is = rw (writable_leaves j op s) (k is)
  sound_row e s m k is = apart e s tt is k

  all_row : (s : realm.Slots) (e : Effect) (es : List Effect) → All s (e ∷ es) → All (row e s).slots ((row e s).caused ++ es)
  all_row s e es k = (λ is. sound_row e s k.1.0 k.0 (sym (row-byte i e s) ∙ is), none_may (row e s).slots ((row e s).caused ++ es) (each-append IsNoByte (row e s).caused es (row-other e s) k.1.1))

  appended : (x : Stream) (streams : List Stream) (here : Bool) → here ≡ nat_eq i.0 (length streams) → (is_byte_stream (slice_get streams i.0) ≡ true → Sound (as_byte (slice_get streams i.0)))
      → (is_byte_stream (Some x) ≡ true → Sound (as_byte (Some x))) → is_byte_stream (slice_get (streams ++ x ∷ []) i.0) ≡ true → Sound (as_byte (slice_get (streams ++ x ∷ []) i.0))
  appended x streams false n k f =
      let before = place_before streams x i.0 (unequal_numbers i.0 (length streams) (sym n)) in rw before k
  appended x streams true e k f =
      let is = eq_numbers i.0 (length streams) (sym e) in
      let now : slice_get (streams ++ x ∷ []) i.0 ≡ Some x = rw is (place_last streams x) in rw now f

  begun_sound : (c : Call) (s : realm.Slots) → IsSound s → IsSound (begin c s).done.slots
  begun_sound c s k = begin-makes IsSound (record {
    promise = λ z k. k;
    locks = λ z ls k. k;
    hosts = λ z hs k. k;
    pipe = λ z source dest prevent signal promise k. k;
    signal = λ z k. k;
    transform = λ z kind writable readable change k. k;
    tee = λ z source first second cancel k. k;
    port = λ z side stream backpressure k. k;
    readable = λ z owner mark size k. appended (ReadableStream (readable.set_up owner mark size)) z.streams (nat_eq i.0 (length z.streams)) refl k (λ c. cc);
    bytes = λ z mark auto k. appended (ByteStream (byte.set_up mark auto)) z.streams (nat_eq i.0 (length z.streams)) refl k (λ c. new_sound mark auto);
    byob_requests = λ z r k. k;
    writable = λ z owner mark size k. appended (WritableStream (writable.set_up owner mark size)) z.streams (nat_eq i.0 (length z.streams)) refl k (λ c. cc);
  }) c s k

  -- what a call begins with

  no_room : (op : ByteOperation) (x : byte.Slots) (j : StreamId) → IsNoMake (Byte j op) → HasRoom op x
  no_room (own.MakeRequest q) x j n = absurd n
  no_room (own.InitializeByobReader p) x j n = tt
  no_room (own.Enqueue b) x j n = tt
  no_room (own.PullInto room element minimum q) x j n = tt
  no_room (own.Respond b) x j n = tt

  no_make_may : (s : realm.Slots) (e : Effect) → IsNoMake e → May s e
  no_make_may s (Byte j op) n = λ same. no_room op (byte_at i s) j n
  no_make_may s _ n = tt

  first_may : (s : realm.Slots) (es : List Effect) → AreBehind es → Each IsNoMake es → FirstMay s es
  first_may s [] b n = tt
  first_may s (e ∷ es) b n = (no_make_may s e n.0, b)

  request_may : (j : StreamId) (s : realm.Slots) (q : Option RequestId) (ds : List Descriptor) → ds ≡ (byte_at j s).descriptors → FirstMay (controller_calls.request_by j s q ds).done.slots (controller_calls.request_by j s q ds).done.caused
  request_may j s q [] e = tt
  request_may j s (Some q) (d ∷ ds) e = tt
  request_may j s None (d ∷ ds) e = (λ same n. let eq : i ≡ j = same_id i j same in let none : d ∷ ds ≡ [] = e ∙ (rw (← eq) n) in cc, tt)

  call_may : (c : Call) (s : realm.Slots) (ask : Bool) → ask ≡ asks c → FirstMay (begin c s).done.slots (begin c s).done.caused
  unfolding begin
  call_may (Request j) s ask e =
      either (λ (b : Begun). FirstMay b.done.slots b.done.caused) (has_byte j s) (controller_calls.request j s) (unsupported s) (λ is. request_may j s (byte_at j s).request (byte_at j s).descriptors refl) (λ isnt. tt)
  call_may c s ask e = first_may (begin c s).done.slots (begin c s).done.caused (begin-behind c s) (begin-no_make c s refl)

  job_none : (job : Job) → Each IsNoByte (job_effects job)
  job_none job = grind arith

  pub stays : Stays All
  stays = record {
    row = all_row;
    call = λ s c k. (begun_sound c s k.0, call_may c s (asks c) refl);
    job = λ s job e k. (k.0, none_may s (job_effects job) (job_none job));
    answered = λ s p k. (k.0, tt);
    older = λ s k. (k.0, tt);
  }

  pub run-sound : (xs : List Entry) (s : realm.Slots) → IsSound s → IsSound (run xs s)
  run-sound xs s k = (run-stays All stays (λ z k. k) xs s (k, tt)).0

  run_accepted : (xs : List Entry) (s : realm.Slots) → IsSound s → (run_bytes i xs s).entered ≡ accepted_bytes i xs s
  run_accepted [] s k = refl
  run_accepted (x ∷ xs) s k = rw (entry_accepted i x s (λ is. (k is).backed), run_accepted xs (step s x) (run-sound (x ∷ []) s k)) refl

pub entered_bytes_were_accepted : EnteredBytesWereAccepted
entered_bytes_were_accepted entries i = run_accepted i entries empty (λ is. cc)

pub each_byte_stream_is_sound : EachByteStreamIsSound
each_byte_stream_is_sound entries i = run-sound i entries empty (λ e. cc)
