-- Each operation of a byte stream keeps what holds of it, and what it causes is fair.
use Rattle.std.proofs.Common.{◌≡◌, ◌≢◌, ◌≤◌, ℕ, zero, suc, ◌+◌, ◌/◌, ◌%◌, Bool, true, false, not, ◌&&◌, ◌||◌, List, [], ◌∷◌, ◌++◌, length, take, drop, Option, Some, None, Ok, Err, refl, sym, ap, ◌∙◌, subst, arith, if◌then◌else◌, is_some}
use Rattle.std.specs.Prelude.{is_none}
use Rattle.ws_value.specs.declared.{ids.PromiseId.{PromiseId}, ids.StreamId.{StreamId}, value.Plain.{Plain}, value.Value.TheVariants.{Plain as PlainValue, Bytes}}
use Rattle.ws_steps.specs.declared.byte.{ByteOperation.{ByteOperation}, ReaderKind.{ReaderKind}, ReaderKind.TheVariants.{Default, Byob}, RoomKind.TheVariants.{ForByob}}
use Rattle.ws_steps.specs.declared.byte.ByteOperation.TheVariants as own
use Rattle.ws_steps.specs.declared.effects.Effect.{Effect}
use Rattle.ws_steps.specs.declared.effects.Effect.TheVariants.{Readable as OnReadable, Byte, ChunkSteps, CloseSteps, CloseStepsWith, ErrorSteps}
use Rattle.ws_steps.specs.declared.readable.{ReadRequest.{ReadRequest}, ReadableOperation.{ReadableOperation}, ReadableState.{ReadableState}, ReadableState.TheVariants.{Readable, Closed, Errored}}
use Rattle.ws_steps.specs.declared.readable.ReadableOperation.TheVariants as names
use Rattle.ws_steps.specs.Bytes.{Slots, Acts, with_slots, causing, in_stream, has_default_reader, has_byob_reader, is_byob, can_take, invalidate_request, controller_error, read_by, default_reader_read, close_by, controller_close, commit_all, drop_first, controller_enqueue, pull_from_queue, pull_first, pull_into, byob_reader_read, is_closed, is_errored, commit_first, respond_closed, respond_first, respond_internal, respond, may_respond, start_settled, pull_ended, pull_settled, cancel_by, stream_cancel, cancel_if_readable, reader_initialize, may_read, may_pull_into, is_least, read, read_into, is_of_tee, if_meant}
use Rattle.ws_steps.specs.Descriptors.{Descriptor, is_for_nobody, rest_of}
use Rattle.ws_steps.specs.Operations.{byte_readable_operation, byte_operation}
use Rattle.ws_steps.specs.Promises.{Table}
use Rattle.ws_steps.specs.Readable as readable
use Rattle.ws_laws.proofs.ByteHands.{sum_of, Weighs, given_read, given_into, byte_readable-hands, byte-hands}
use Rattle.ws_laws.proofs.Tables.{either}
use Rattle.ws_laws.proofs.Truth.{and_left, and_right}
use Rattle.ws_byte_laws.proofs.Given.{starting}
use Rattle.ws_byte_laws.proofs.Law.{meant}
use Rattle.ws_byte_laws.proofs.Leaving.{initialized_by}
use Rattle.ws_pipe_laws.proofs.locks.ByteReaders as readers
use Rattle.ws_room_read_laws.proofs.Pairs.{behind, AllWhole, IsFair, Wants, Pairs, pairs-length, pairs-none, AllGive, Committed, committed}
use Rattle.ws_room_read_laws.proofs.Fair.{no_reader, AreFair, Even, Fair, even-same, causes-fair, pull-fair, error-fair, release-fair, initialize-fair}
use Rattle.ws_room_read_laws.proofs.Readings.{good-fit, enqueue-fair, respond-fair, waits-fair, from_queue-fair, closing-fair, cancel-fair}
use Rattle.ws_byte_laws.specs.Descriptors.{Fit, Held}

-- what an effect weighs by its request
abbrev pub weight : (ReadRequest → ℕ) → Effect → ℕ
weight w (OnReadable j (names.Read r)) = w r
weight w (Byte j (own.PullInto x e m r)) = w r
weight w (ChunkSteps j r v) = w r
weight w (CloseSteps j r) = w r
weight w (CloseStepsWith j r b) = w r
weight w (ErrorSteps j r e) = w r
weight w _ = 0

pub weighs : (i : StreamId) (w : ReadRequest → ℕ) → Weighs i w (weight w)
weighs i w = record { chunk = λ q x. refl; close = λ q. refl; close_with = λ q b. refl; error = λ q e. refl; pull = refl; cancel = λ r p. refl }

none_there : (o : Option PromiseId) → is_none o ≡ true → o ≡ None
none_there None e = refl
none_there (Some p) e = cc

some_there : (o : Option PromiseId) (κ : ReaderKind) → is_some o && not (is_byob κ) ≡ true → o ≡ None → ⊥
some_there None κ e n = cc
some_there (Some p) κ e n = cc

closed_whole : (ds : List Descriptor) (rs : List ReadRequest) (w : ReadRequest → ℕ) (space unit least : ℕ) (me : StreamId) (state : ReadableState) → state ≡ Closed → Pairs w space unit least rs ds → AllWhole ds → AllGive w space unit least me state ds
closed_whole [] rs w space unit least me state e p a = tt
closed_whole (d ∷ ds) [] w space unit least me state e p a = absurd p
closed_whole (d ∷ ds) (r ∷ rs) w space unit least me Closed e p a = (a.0 p.0.room_kind, closed_whole ds rs w space unit least me Closed e p.1 a.1)
closed_whole (d ∷ ds) (r ∷ rs) w space unit least me Readable e p a = absurd (cc)
closed_whole (d ∷ ds) (r ∷ rs) w space unit least me Errored e p a = absurd (cc)

take_all : (n : ℕ) (ds : List Descriptor) → length ds ≡ n → (take n ds ≡ ds) × (drop n ds ≡ [])
take_all zero [] e = (refl, refl)
take_all (suc n) [] e = absurd (omega (arith, e))
take_all zero (d ∷ ds) e = absurd (omega (arith, e))
take_all (suc n) (d ∷ ds) e = let k = take_all n ds (omega (arith, e)) in (rw k.0 refl, k.1)

append_nothing : (ds : List Descriptor) → ds ++ [] ≡ ds
append_nothing [] = refl
append_nothing (d ∷ ds) = rw (append_nothing ds) refl

module _ (w : ReadRequest → ℕ) (space unit least : ℕ) (me : StreamId) where
  abbrev Holds : Acts → Type 0
  Holds a = Fair w space unit least a

  -- what weighs nothing is fair

  light-fair : (e : Effect) → weight w e ≡ 0 → IsFair w space unit least e
  light-fair (OnReadable j (names.Read r)) n = n
  light-fair (Byte j (own.PullInto x e m r)) n = λ o. absurd (omega (arith, o, n))
  light-fair (ChunkSteps j r (Bytes b)) n = λ o. absurd (omega (arith, o, n))
  light-fair (ChunkSteps j r (PlainValue p)) n = tt
  light-fair (CloseStepsWith j r b) n = λ o. absurd (omega (arith, o, n))
  light-fair e n = grind (arith, n)

  pub all-light : (es : List Effect) → sum_of (weight w) es ≤ 0 → AreFair w space unit least es
  all-light [] n = tt
  all-light (e ∷ es) n = (light-fair e (omega (arith, n)), all-light es (omega (arith, n)))

  same-fair : (a b : Acts) → b.slots.stream.reader ≡ a.slots.stream.reader → b.slots.reader_kind ≡ a.slots.reader_kind → b.slots.stream.state ≡ a.slots.stream.state → b.slots.stream.requests ≡ a.slots.stream.requests → b.slots.descriptors ≡ a.slots.descriptors
      → b.out.effects ≡ a.out.effects → Holds a → Holds b
  same-fair a b r k s q d e f = record { even = even-same w space unit least a.slots b.slots r k s q d f.even; effects = rw e f.effects }

  marked-fair : (a : Acts) → Holds a → Holds (with_slots (record a.slots { astray = true }) a)
  marked-fair a f = same-fair a _ refl refl refl refl refl refl f

  -- a default reader of a readable stream: nothing weighs

  default-fair : (a z : Acts) → readers.Same a z → has_default_reader a.slots ≡ true → sum_of w z.slots.stream.requests + sum_of (weight w) z.out.effects ≤ 0 → Holds z
  default-fair a z same d n =
      let is : has_default_reader z.slots ≡ true = ap (λ (l : readers.Look). l.locked && not (is_byob l.kind)) same ∙ d in
      record {
        even = record { default = λ t s. omega (arith, n); pairs = λ t. absurd (cc); closed = λ t. absurd (cc); none = λ t. absurd (some_there z.slots.stream.reader z.slots.reader_kind is t) };
        effects = all-light z.out.effects (omega (arith, n));
      }

  -- what holds before

  module _ (x : Slots) (t : Table) (held : Held x) (even : Even w space unit least x) where
    abbrev pub start : Acts
    start = starting x t

    begun : Holds start
    begun = record { even = even; effects = tt }

    default_readable : (op : ReadableOperation) → readers.IsNoReader me op → readers.IsMeant me op x → given_read w op ≡ 0 → has_default_reader x ≡ true → x.stream.state ≡ Readable → Holds (byte_readable_operation me op start)
    default_readable op n m g d s =
        let h = byte_readable-hands me w (weight w) (weighs me w) op start in
        let z = even.default d s in
        default-fair start (byte_readable_operation me op start) (readers.byte_readable-look me op start n m) d (omega (arith, h, z, g))

    default_byte : (op : ByteOperation) → readers.IsNoByobReader me op → readers.IsMeantBytes me op x → given_into w op ≡ 0 → has_default_reader x ≡ true → x.stream.state ≡ Readable → Holds (byte_operation me op start)
    default_byte op n m g d s =
        let h = byte-hands me w (weight w) (weighs me w) op start in
        let z = even.default d s in
        default-fair start (byte_operation me op start) (readers.byte-look me op start n m) d (omega (arith, h, z, g))

    -- by whether it is readable, and has a default reader
    by : (P : Type 0) (state : ReadableState) (d : Bool) → state ≡ x.stream.state → d ≡ has_default_reader x
        → (has_default_reader x ≡ true → x.stream.state ≡ Readable → P) → (has_default_reader x ≡ false → x.stream.state ≡ Readable → P) → (x.stream.state ≢ Readable → P) → P
    by P Readable true s d f g h = f (sym d) (sym s)
    by P Readable false s d f g h = g (sym d) (sym s)
    by P Closed d s e f g h = h (λ r. absurd (cc))
    by P Errored d s e f g h = h (λ r. absurd (cc))

    not_readable : (state : ReadableState) → state ≢ Readable → readable.is_readable state ≡ false
    not_readable Readable n = absurd (n refl)
    not_readable Closed n = refl
    not_readable Errored n = refl

    refused : x.stream.state ≢ Readable → can_take x ≡ false
    refused n = let e = not_readable x.stream.state n in grind (arith, e)

    initialized-fair : (kind : ReaderKind) (p : PromiseId) → Holds (reader_initialize kind p start)
    unfolding reader_initialize
    initialized-fair kind p =
        meant Holds (is_none x.stream.reader) (initialized_by kind p start) start (λ c. initialize-fair w space unit least me kind p start (none_there x.stream.reader c) begun) (marked-fair start begun)

    read-ended : (q : ReadRequest) (a : Acts) (state : ReadableState) → state ≢ Readable → Holds a → Holds (read_by me q a state)
    read-ended q a Readable n f = absurd (n refl)
    read-ended q a Closed n f = causes-fair w space unit least (CloseSteps me q) a tt f
    read-ended q a Errored n f = causes-fair w space unit least (ErrorSteps me q a.slots.stream.stored_error) a tt f

    cancel-ended : (r : Plain) (p : PromiseId) (a : Acts) (state : ReadableState) → state ≢ Readable → Holds a → Holds (cancel_by me r p a state)
    cancel-ended r p a Readable n f = absurd (n refl)
    cancel-ended r p a Closed n f = same-fair a _ refl refl refl refl refl refl f
    cancel-ended r p a Errored n f = same-fair a _ refl refl refl refl refl refl f

    cancel-live : (r : Plain) (p : PromiseId) (a : Acts) (state : ReadableState) → state ≡ Readable → has_default_reader a.slots ≡ false → Holds a → Holds (cancel_by me r p a state)
    cancel-live r p a Readable s n f = cancel-fair w space unit least me r p a n f
    cancel-live r p a Closed s n f = absurd (cc)
    cancel-live r p a Errored s n f = absurd (cc)

    disturbed : Holds (in_stream readable.disturb start)
    unfolding readable.disturb
    disturbed = same-fair start _ refl refl refl refl refl refl begun

    live-default : (state : ReadableState) → state ≡ Readable → not (readable.is_readable state) || has_default_reader x ≡ true → has_default_reader x ≡ true
    live-default Readable s e = e
    live-default Closed s e = absurd (cc)
    live-default Errored s e = absurd (cc)

    read-fair : (q : ReadRequest) → w q ≡ 0 → Holds (read me q start)
    unfolding read default_reader_read
    read-fair q g =
        either Holds (is_of_tee q) start (if_meant (may_read x) (default_reader_read me q start) start) (λ t. begun)
        (λ t. meant Holds (may_read x) (default_reader_read me q start) start
        (λ c. by (Holds (default_reader_read me q start)) x.stream.state (has_default_reader x) refl refl
        (λ d s. let z = default_readable (names.Read q) tt c g d s in rw (t, c) at z)
        (λ d s. let e = live-default x.stream.state s c in absurd (cc))
        (λ n. read-ended q (in_stream readable.disturb start) x.stream.state n disturbed))
        (marked-fair start begun))

    erring-fair : (e : Plain) (a : Acts) → has_default_reader a.slots ≡ false → Holds a → Holds (controller_error me e a)
    erring-fair e a n f = error-fair w space unit least me e a n f

    error-ended : (e : Plain) → x.stream.state ≢ Readable → Holds (controller_error me e start)
    unfolding controller_error
    error-ended e n = let c = not_readable x.stream.state n in either Holds (readable.is_readable x.stream.state) _ start (λ y. absurd (cc)) (λ y. begun)

    ended-fair : (a : Acts) (again : Bool) → Holds a → Holds (pull_ended me a again)
    ended-fair a false f = f
    ended-fair a true f =
        let b : Acts = with_slots (record a.slots { stream = record a.slots.stream { pull_again = false } }) a in pull-fair w space unit least me b (same-fair a b refl refl refl refl refl refl f)

    pub readable-fair : (op : ReadableOperation) → ((q : ReadRequest) → op ≡ names.Read q → w q ≡ 0) → Holds (byte_readable_operation me op start)
    unfolding controller_close cancel_if_readable stream_cancel readable.disturb start_settled pull_settled
    readable-fair (names.InitializeReader p) g = initialized-fair Default p
    readable-fair names.ReleaseReader g = release-fair w space unit least me start begun
    readable-fair names.Disturb g = disturbed
    readable-fair (names.Read q) g = read-fair q (g q refl)
    readable-fair (names.Cancel r p) g =
        by (Holds (byte_readable_operation me (names.Cancel r p) start)) x.stream.state (has_default_reader x) refl refl
        (λ d s. default_readable (names.Cancel r p) tt tt refl d s)
        (λ d s. cancel-live r p (in_stream readable.disturb start) x.stream.state s d disturbed)
        (λ n. cancel-ended r p (in_stream readable.disturb start) x.stream.state n disturbed)
    readable-fair (names.CancelIfReadable r p) g =
        by (Holds (byte_readable_operation me (names.CancelIfReadable r p) start)) x.stream.state (has_default_reader x) refl refl
        (λ d s. default_readable (names.CancelIfReadable r p) tt tt refl d s)
        (λ d s.
        let e : readable.is_readable x.stream.state ≡ true = ap readable.is_readable s in
        either Holds (readable.is_readable x.stream.state) (stream_cancel me r p start) _ (λ c. cancel-live r p (in_stream readable.disturb start) x.stream.state s d disturbed) (λ c. absurd (cc)))
        (λ n. let c = not_readable x.stream.state n in rw c (same-fair start _ refl refl refl refl refl refl begun))
    readable-fair (names.Enqueue v) g = begun
    readable-fair names.Close g =
        by (Holds (byte_readable_operation me names.Close start)) x.stream.state (has_default_reader x) refl refl
        (λ d s. default_readable names.Close tt tt refl d s)
        (λ d s. either Holds (can_take x) (close_by me start x.queue) start (λ c. closing-fair w space unit least me start x.queue _ _ d (held.readable s) begun) (λ c. begun))
        (λ n. let c = refused n in rw c begun)
    readable-fair (names.Error e) g =
        by (Holds (byte_readable_operation me (names.Error e) start)) x.stream.state (has_default_reader x) refl refl
        (λ d s. default_readable (names.Error e) tt tt refl d s) (λ d s. erring-fair e start d begun) (λ n. error-ended e n)
    readable-fair (names.StartSettled (Ok v)) g =
        let b : Acts = with_slots (record x { stream = record x.stream { started = true } }) start in pull-fair w space unit least me b (same-fair start b refl refl refl refl refl refl begun)
    readable-fair (names.StartSettled (Err e)) g =
        by (Holds (byte_readable_operation me (names.Error e) start)) x.stream.state (has_default_reader x) refl refl
        (λ d s. default_readable (names.Error e) tt tt refl d s) (λ d s. erring-fair e start d begun) (λ n. error-ended e n)
    readable-fair (names.PullSettled (Ok v)) g =
        let b : Acts = with_slots (record x { stream = record x.stream { pulling = false } }) start in ended-fair b x.stream.pull_again (same-fair start b refl refl refl refl refl refl begun)
    readable-fair (names.PullSettled (Err e)) g =
        by (Holds (byte_readable_operation me (names.Error e) start)) x.stream.state (has_default_reader x) refl refl
        (λ d s. default_readable (names.Error e) tt tt refl d s) (λ d s. erring-fair e start d begun) (λ n. error-ended e n)

    enqueued-fair : (b : List ℕ) → Holds (controller_enqueue me b start)
    unfolding controller_enqueue
    enqueued-fair b =
        by (Holds (controller_enqueue me b start)) x.stream.state (has_default_reader x) refl refl
        (λ d s. default_byte (own.Enqueue b) tt tt refl d s)
        (λ d s. enqueue-fair w space unit least me b start d (good-fit _ x.descriptors x.queue _ (held.readable s)) begun)
        (λ n. let c = refused n in rw c begun)

    -- reads into rooms

    whole_of_none : (e : ℕ) → length {A = ℕ} [] % e ≡ 0
    whole_of_none e = grind arith

    neither : (state : ReadableState) → is_errored state ≡ false → is_closed state ≡ false → state ≡ Readable
    neither Readable e c = refl
    neither Closed e c = cc
    neither Errored e c = cc

    first-fair : (d : Descriptor) (q : ReadRequest) (a : Acts) (ds : List Descriptor) → ds ≡ a.slots.descriptors → is_errored a.slots.stream.state ≡ false → a.slots.stream.reader ≢ None → (has_default_reader a.slots ≡ true → a.slots.stream.state ≢ Readable)
        → Fit d → d.filled ≡ [] → d.room_kind ≡ ForByob → Wants w space unit least q d → Holds a → Holds (pull_first me d q a ds)
    first-fair d q a (y ∷ ys) is e some other fit empty kind k f = waits-fair w space unit least me d q a some other (λ s m. rw empty (whole_of_none d.element)) kind k f
    first-fair d q a [] is e some other fit empty kind k f =
        either Holds (is_closed a.slots.stream.state) (causing (CloseStepsWith me q []) a) (pull_from_queue me d q a a.slots.queue)
        (λ c. causes-fair w space unit least (CloseStepsWith me q []) a (λ o. whole_of_none unit) f)
        (λ c. let s = neither a.slots.stream.state e c in from_queue-fair w space unit least me d q a a.slots.queue fit s (decide (has_default_reader a.slots) refl s) some (sym is) kind k f)
      where
        decide : (d : Bool) → d ≡ has_default_reader a.slots → a.slots.stream.state ≡ Readable → has_default_reader a.slots ≡ false
        decide false e s = sym e
        decide true e s = absurd (other (sym e) s)

    not_both : (o : Option PromiseId) (κ : ReaderKind) → is_some o && not (is_byob κ) ≡ true → is_some o && is_byob κ ≡ true → ⊥
    not_both None κ d e = cc
    not_both (Some p) Default d e = cc
    not_both (Some p) Byob d e = cc

    no_default : (state : ReadableState) → state ≡ x.stream.state → not (readable.is_readable state) || has_byob_reader x ≡ true → has_default_reader x ≡ true → x.stream.state ≢ Readable
    no_default Readable s m d r = not_both x.stream.reader x.reader_kind d m
    no_default Closed s m d r = absurd (cc)
    no_default Errored s m d r = absurd (cc)

    fits : (room element minimum : ℕ) → is_least room element minimum ≡ true → Fit (record { filled = []; room = room; minimum = minimum; element = element; room_kind = ForByob })
    fits room element minimum e = record { units = minimum / element; whole = grind arith; short = grind arith; room = grind arith; element = λ k. absurd (cc); minimum = λ k. absurd (cc) }

    into-fair : (room : List ℕ) (element minimum : ℕ) (q : ReadRequest) → x.stream.reader ≢ None → IsFair w space unit least (Byte me (own.PullInto room element minimum q)) → Holds (read_into me (length room) element minimum q start)
    unfolding read_into byob_reader_read pull_into readable.disturb
    into-fair room element minimum q some g =
        let d : Descriptor = record { filled = []; room = length room; minimum = minimum; element = element; room_kind = ForByob } in
        let a : Acts = in_stream readable.disturb start in
        let k : Wants w space unit least q d = record { room_kind = refl; room = λ o. (g o).0; element = λ o. (g o).1; minimum = λ o. (g o).2 } in
        meant Holds (may_pull_into x && is_least (length room) element minimum) (byob_reader_read me d q start) start
        (λ c. either Holds (is_errored x.stream.state) (causing (ErrorSteps me q x.stream.stored_error) a) (pull_first me d q a x.descriptors)
        (λ e. causes-fair w space unit least (ErrorSteps me q x.stream.stored_error) a tt disturbed)
        (λ e. first-fair d q a x.descriptors refl e some (no_default x.stream.state refl (and_left (may_pull_into x) (is_least (length room) element minimum) c)) (fits (length room) element minimum (and_right (may_pull_into x) (is_least (length room) element minimum) c)) refl refl k disturbed))
        (marked-fair start begun)

    -- responses to a closed stream

    record Dropped (d : Descriptor) (ds : List Descriptor) (a b : Acts) : Type 0 where
      descriptors : b.slots.descriptors ≡ behind (d ∷ ds)
      stream : b.slots.stream ≡ a.slots.stream
      kind : b.slots.reader_kind ≡ a.slots.reader_kind
      effects : b.out.effects ≡ a.out.effects

    dropped : (d : Descriptor) (ds : List Descriptor) (a : Acts) → d ∷ ds ≡ a.slots.descriptors → Dropped d ds a (if is_for_nobody d.room_kind then drop_first a else a)
    dropped d ds a is =
        either (Dropped d ds a) (is_for_nobody d.room_kind) (drop_first a) a
        (λ c. record { descriptors = rw c (ap rest_of (sym is)); stream = refl; kind = refl; effects = refl }) (λ c. record { descriptors = rw c (sym is); stream = refl; kind = refl; effects = refl })

    whole-behind : (ds : List Descriptor) → AllWhole ds → AllWhole (behind ds)
    whole-behind [] k = tt
    whole-behind (d ∷ ds) k = either AllWhole (is_for_nobody d.room_kind) ds (d ∷ ds) (λ c. k.1) (λ c. k)

    empty-requests : (rs : List ReadRequest) → Pairs w space unit least rs [] → rs ≡ []
    empty-requests [] p = refl
    empty-requests (r ∷ rs) p = absurd p

    -- all are committed
    all-fair : (b : Acts) → b.slots.stream.state ≡ Closed → Pairs w space unit least b.slots.stream.requests b.slots.descriptors → AllWhole b.slots.descriptors → AreFair w space unit least b.out.effects → Holds (commit_first me (length b.slots.stream.requests) b)
    all-fair b s p k f =
        let n : ℕ = length b.slots.stream.requests in
        let ds : List Descriptor = b.slots.descriptors in
        let all = take_all n ds (pairs-length w space unit least b.slots.stream.requests ds p) in
        let a : Acts = with_slots (record b.slots { descriptors = drop n ds }) b in
        let z : Acts = commit_all me (take n ds) a in
        let q : Pairs w space unit least a.slots.stream.requests (take n ds ++ []) = rw (append_nothing (take n ds), all.0) p in
        let c : Committed w space unit least me [] a z = committed w space unit least me (take n ds) [] a q (rw all.0 (closed_whole ds b.slots.stream.requests w space unit least me b.slots.stream.state s p k)) in
        let none : z.slots.stream.requests ≡ [] = empty-requests z.slots.stream.requests c.pairs in
        let even : Even w space unit least (record a.slots { stream = record a.slots.stream { requests = z.slots.stream.requests } }) =
        record { default = λ d r. absurd (cc); pairs = λ d. rw (none, all.1) tt; closed = λ d r. rw all.1 tt; none = λ r. none } in
        record { even = subst (Even w space unit least) (sym c.same) even; effects = c.effects f }

    responded_closed : (d : Descriptor) (ds : List Descriptor) (a : Acts) → d ∷ ds ≡ a.slots.descriptors → a.slots.stream.state ≡ Closed → Holds a → Holds (respond_closed me d a)
    responded_closed d ds a is s f =
        let b : Acts = if is_for_nobody d.room_kind then drop_first a else a in
        let k : Dropped d ds a b = dropped d ds a is in
        let state : b.slots.stream.state ≡ Closed = ap (λ (z : readable.Slots). z.state) k.stream ∙ s in
        let pairs : has_default_reader b.slots ≡ false → Pairs w space unit least b.slots.stream.requests b.slots.descriptors =
        λ n. subst (λ (ys : List Descriptor). Pairs w space unit least b.slots.stream.requests ys) (sym k.descriptors)
        (subst (λ (z : readable.Slots). Pairs w space unit least z.requests (behind (d ∷ ds))) (sym k.stream)
        (subst (λ (ys : List Descriptor). Pairs w space unit least a.slots.stream.requests (behind ys)) (sym is) (f.even.pairs (rw (k.stream, k.kind) at n)))) in
        let whole : has_default_reader b.slots ≡ false → AllWhole b.slots.descriptors =
        λ n. subst AllWhole (sym k.descriptors) (whole-behind (d ∷ ds) (subst AllWhole (sym is) (f.even.closed (rw (k.stream, k.kind) at n) s))) in
        let none : b.slots.stream.reader ≡ None → b.slots.stream.requests ≡ [] = subst (λ (z : readable.Slots). z.reader ≡ None → z.requests ≡ []) (sym k.stream) f.even.none in
        either Holds (has_byob_reader b.slots) (commit_first me (length b.slots.stream.requests) b) b
        (λ c. let n = other (has_default_reader b.slots) b c refl in all-fair b state (pairs n) (whole n) (rw k.effects f.effects))
        (λ c. record {
          even = record {
            default = λ n r. absurd (cc);
            pairs = λ n. let p = pairs n in let ds_none = gone b n c none p in rw (none (no_reader b.slots.stream.reader b.slots.reader_kind n c), ds_none) tt;
            closed = λ n r. whole n;
            none = none;
          };
          effects = rw k.effects f.effects;
        })
      where
        other : (d : Bool) (b : Acts) → has_byob_reader b.slots ≡ true → has_default_reader b.slots ≡ d → has_default_reader b.slots ≡ false
        other false b c e = e
        other true b c e = absurd (not_both b.slots.stream.reader b.slots.reader_kind e c)

        gone : (b : Acts) → has_default_reader b.slots ≡ false → has_byob_reader b.slots ≡ false → (b.slots.stream.reader ≡ None → b.slots.stream.requests ≡ []) → Pairs w space unit least b.slots.stream.requests b.slots.descriptors → b.slots.descriptors ≡ []
        gone b n c none p = let empty = none (no_reader b.slots.stream.reader b.slots.reader_kind n c) in pairs-none w space unit least b.slots.descriptors (rw empty at p)

    responded-ended : (b : List ℕ) (state : ReadableState) (ds : List Descriptor) → ds ≡ x.descriptors → state ≡ x.stream.state → state ≢ Readable → Holds (respond_first me b (invalidate_request start) ds)
    responded-ended b state [] is s n = same-fair start _ refl refl refl refl refl refl begun
    responded-ended b Readable (d ∷ ds) is s n = absurd (n refl)
    responded-ended b Errored (d ∷ ds) is s n = let e : d ∷ ds ≡ [] = is ∙ (held.errored (sym s)).1 in absurd (cc)
    responded-ended b Closed (d ∷ ds) is s n =
        let a : Acts = invalidate_request start in
        either Holds (is_closed x.stream.state) (respond_closed me d a) _ (λ c. responded_closed d ds a is (sym s) (same-fair start a refl refl refl refl refl refl begun))
        (λ c. let e : is_closed x.stream.state ≡ true = ap is_closed (sym s) in absurd (cc))

    responds-fair : (b : List ℕ) → Holds (respond me b start)
    unfolding respond
    responds-fair b =
        meant Holds (may_respond (length b) x) (respond_internal me b start) start
        (λ c. by (Holds (respond_internal me b start)) x.stream.state (has_default_reader x) refl refl
        (λ d s. let z = default_byte (own.Respond b) tt c refl d s in rw c at z)
        (λ d s. respond-fair w space unit least me b (invalidate_request start) x.descriptors refl s d c (good-fit _ x.descriptors x.queue _ (held.readable s)) (same-fair start _ refl refl refl refl refl refl begun))
        (λ n. responded-ended b x.stream.state x.descriptors refl refl n))
        (marked-fair start begun)

    -- what a read into a room finds
    abbrev pub IsRead : ByteOperation → Type 0
    IsRead (own.PullInto room element minimum q) = x.stream.reader ≢ None
    IsRead _ = Unit {0}

    pub bytes-fair : (op : ByteOperation) → IsRead op → IsFair w space unit least (Byte me op) → Holds (byte_operation me op start)
    bytes-fair (own.InitializeByobReader p) r g = initialized-fair Byob p
    bytes-fair (own.Enqueue b) r g = enqueued-fair b
    bytes-fair (own.PullInto room element minimum q) r g = into-fair room element minimum q r g
    bytes-fair (own.MakeRequest q) r g = same-fair start _ refl refl refl refl refl refl begun
    bytes-fair (own.Respond b) r g = responds-fair b
