-- Bytes that are enqueued and responded, reads, and ends, while a byte stream is readable and has no default reader.
use Rattle.std.proofs.Common.{◌≡◌, ◌≢◌, ◌≤◌, ℕ, zero, suc, ◌+◌, ◌-◌, ◌%◌, Bool, true, false, not, List, [], ◌∷◌, ◌++◌, length, take, drop, None, refl, sym, ap, ◌∙◌, subst, arith, if◌then◌else◌, length-append}
use Rattle.std.specs.Prelude.{nat_lt, is_none}
use Rattle.ws_value.specs.declared.{ids.PromiseId.{PromiseId}, ids.StreamId.{StreamId}, value.Plain.{Plain}, value.Value.TheVariants.{Bytes}}
use Rattle.ws_steps.specs.declared.byte.{RoomKind.{RoomKind}, RoomKind.TheVariants.{ForByob}}
use Rattle.ws_steps.specs.declared.effects.Effect.TheVariants.{CancelAlgorithm, ChunkSteps, ErrorSteps}
use Rattle.ws_steps.specs.declared.readable.{ReadRequest.{ReadRequest}, ReadableState.{ReadableState}, ReadableState.TheVariants.{Readable, Closed, Errored}}
use Rattle.ws_steps.specs.Bytes.{Acts, causing, has_default_reader, has_byob_reader, can_take, call_pull_if_needed, stream_close, invalidate_request, controller_error, handle_queue_drain, append, close_by, commit_all, put_processed, processed_of, process_and_commit, detached_to_queue, renounce, drop_first, accept_default, accept, controller_enqueue, pull_waits, put_queue, pull_filled, pull_from_queue, is_closed, put_first, respond_full, respond_readable, respond_closed, respond_first, close_into, cancel_steps}
use Rattle.ws_steps.specs.Descriptors.{Descriptor, is_for_nobody, rest_of, has_part, Filling, fill_from_queue, Processed, respond_throws}
use Rattle.ws_steps.specs.Effects.{type_error}
use Rattle.ws_steps.specs.Readable as readable
use Rattle.ws_laws.proofs.Lists.{each-append}
use Rattle.ws_laws.proofs.Tables.{either}
use Rattle.ws_laws.proofs.Truth.{and_right}
use Rattle.ws_byte_laws.proofs.Law.{readable_of}
use Rattle.ws_room_read_laws.proofs.Filled.{Fills, IsFull, Alike, alike, Fuller, filling, full-part}
use Rattle.ws_room_read_laws.proofs.Pairs.{behind, AllFit, AllFull, IsWhole, AllWhole, IsFair, Wants, Pairs, wants-alike, pairs-behind, pairs-none, pairs-last, Parted, parted, AllGive, Committed, committed}
use Rattle.ws_room_read_laws.proofs.Fair.{no_reader, AreFair, Even, Fair, even-same, causes-fair, close_all-fair, pull-fair, Shut, shut, close-fair, error-fair, drain-fair}
use Rattle.ws_byte_laws.specs.Descriptors.{Fit, AllLater, Good}

none_left : (xs ys : List Descriptor) → xs ++ ys ≡ [] → ys ≡ []
none_left [] ys e = e
none_left (x ∷ xs) ys e = cc

later-fit : (r : RoomKind) (ds : List Descriptor) → AllLater r ds → AllFit ds
later-fit r [] l = tt
later-fit r (d ∷ ds) l = (l.0.fit, later-fit r ds l.1)

pub good-fit : (r : RoomKind) (ds : List Descriptor) (q : List (List ℕ)) (n : ℕ) → Good r ds q n → AllFit ds
good-fit r [] q n g = tt
good-fit r (d ∷ ds) q n g = (g.0, later-fit r ds g.1)

no_bytes-whole : (b : List ℕ) (e : ℕ) → b ≡ [] → length b % e ≡ 0
no_bytes-whole b e n = rw n (grind arith)

later-whole : (r : RoomKind) (ds : List Descriptor) → AllLater r ds → AllWhole ds
later-whole r [] l = tt
later-whole r (d ∷ ds) l = (λ k. no_bytes-whole d.filled d.element l.0.empty, later-whole r ds l.1)

not-part : (n : ℕ) → nat_lt 0 n ≡ false → n ≡ 0
not-part n e = grind arith

good-whole : (r : RoomKind) (ds : List Descriptor) (q : List (List ℕ)) (n : ℕ) → has_part ds ≡ false → Good r ds q n → AllWhole ds
good-whole r [] q n e g = tt
good-whole r (d ∷ ds) q n e g = (λ k. not-part (length d.filled % d.element) e, later-whole r ds g.1)

alone-behind : (d : Descriptor) → d.room_kind ≡ ForByob → behind (d ∷ []) ≡ d ∷ []
alone-behind d k =
    let n : is_for_nobody d.room_kind ≡ false = ap is_for_nobody k in
    either (λ (ys : List Descriptor). ys ≡ d ∷ []) (is_for_nobody d.room_kind) [] (d ∷ []) (λ c. absurd (cc)) (λ c. refl)

pub behind-last : (x d : Descriptor) (xs : List Descriptor) → behind ((x ∷ xs) ++ d ∷ []) ≡ behind (x ∷ xs) ++ d ∷ []
behind-last x d xs = either (λ (ys : List Descriptor). (if is_for_nobody x.room_kind then xs ++ d ∷ [] else (x ∷ xs) ++ d ∷ []) ≡ ys ++ d ∷ []) (is_for_nobody x.room_kind) xs (x ∷ xs) (λ c. rw c refl) (λ c. rw c refl)

pub whole-last : (ds : List Descriptor) (d : Descriptor) → IsWhole d → AllWhole ds → AllWhole (ds ++ d ∷ [])
whole-last [] d k a = (k, tt)
whole-last (x ∷ ds) d k a = (a.0, whole-last ds d k a.1)

room-for : (n : ℕ) (d : Descriptor) (ds : List Descriptor) (state : ReadableState) → state ≡ Readable → is_none (respond_throws n state (d ∷ ds)) ≡ true → length d.filled + n ≤ d.room
room-for zero d ds Readable s e = cc
room-for (suc n) d ds Readable s e = grind (arith, e)
room-for n d ds Closed s e = absurd (cc)
room-for n d ds Errored s e = absurd (cc)

module _ (w : ReadRequest → ℕ) (space unit least : ℕ) (me : StreamId) where
  abbrev Holds : Acts → Type 0
  Holds a = Fair w space unit least a

  abbrev Paired : List ReadRequest → List Descriptor → Type 0
  Paired rs ds = Pairs w space unit least rs ds

  pairs-empty : (rs : List ReadRequest) → Paired rs [] → rs ≡ []
  pairs-empty [] p = refl
  pairs-empty (r ∷ rs) p = absurd p

  pairs-first : (rs : List ReadRequest) (d y : Descriptor) (ds : List Descriptor) → Alike d y → Paired rs (d ∷ ds) → Paired rs (y ∷ ds)
  pairs-first [] d y ds a p = absurd p
  pairs-first (r ∷ rs) d y ds a p = (wants-alike w space unit least r d y a p.0, p.1)

  all-give : (state : ReadableState) (ds : List Descriptor) → state ≡ Readable → AllFull ds → AllGive w space unit least me state ds
  all-give state [] e f = tt
  all-give Readable (d ∷ ds) e f = (f.0, all-give Readable ds e f.1)
  all-give Closed (d ∷ ds) e f = absurd (cc)
  all-give Errored (d ∷ ds) e f = absurd (cc)

  pub record Lined (a : Acts) : Type 0 where
    pub readable : a.slots.stream.state ≡ Readable
    pub other : has_default_reader a.slots ≡ false
    pub none : a.slots.stream.reader ≡ None → a.slots.stream.requests ≡ []
    pub effects : AreFair w space unit least a.out.effects

  committing-fair : (ready waiting : List Descriptor) (a : Acts) → Lined a → waiting ≡ a.slots.descriptors → Paired a.slots.stream.requests (ready ++ waiting) → AllFull ready → Holds (commit_all me ready a)
  committing-fair ready waiting a l is p f =
      let z : Acts = commit_all me ready a in
      let c : Committed w space unit least me waiting a z = committed w space unit least me ready waiting a p (all-give a.slots.stream.state ready l.readable f) in
      let behind_all : Paired z.slots.stream.requests (behind a.slots.descriptors) = subst (λ (ds : List Descriptor). Paired z.slots.stream.requests (behind ds)) is (rw (pairs-behind w space unit least z.slots.stream.requests waiting c.pairs) c.pairs) in
      let readable = l.readable in
      let other = l.other in
      let even : Even w space unit least (record a.slots { stream = record a.slots.stream { requests = z.slots.stream.requests } }) = record {
        default = λ d. absurd (cc);
        pairs = λ d. behind_all;
        closed = λ d. λ s. absurd (cc);
        none = λ n.
            let empty : Paired [] (ready ++ waiting) = rw (l.none n) at p in
            let gone : waiting ≡ [] = none_left ready waiting (pairs-none w space unit least (ready ++ waiting) empty) in
            pairs-empty z.slots.stream.requests (rw gone at c.pairs);
      } in
      record { even = subst (Even w space unit least) (sym c.same) even; effects = c.effects l.effects }

  process-fair : (a : Acts) → Lined a → Paired a.slots.stream.requests a.slots.descriptors → AllFit a.slots.descriptors → Holds (process_and_commit me a)
  process-fair a l p f =
      let x : Processed = processed_of a in
      let k : Parted w space unit least a.slots.stream.requests x = parted w space unit least a.slots.stream.requests a.slots.descriptors a.slots.queue p f in
      committing-fair x.ready x.waiting (put_processed x a) (record { readable = l.readable; other = l.other; none = l.none; effects = l.effects }) refl k.pairs k.full

  -- bytes are enqueued

  record Renounced (a : Acts) : Type 0 where
    line : Lined a
    pairs : Paired a.slots.stream.requests a.slots.descriptors
    fit : AllFit a.slots.descriptors

  renounced : (a : Acts) (ds : List Descriptor) → ds ≡ a.slots.descriptors → Lined a → Paired a.slots.stream.requests (behind ds) → AllFit ds → Renounced (renounce a ds)
  renounced a [] is l p f = record { line = l; pairs = rw (← is) p; fit = rw (← is) f }
  renounced a (d ∷ ds) is l p f =
      let y : Acts = invalidate_request a in
      either Renounced (is_for_nobody d.room_kind) (detached_to_queue y) y
      (λ c. rw (← is) (record { line = record { readable = l.readable; other = l.other; none = l.none; effects = l.effects }; pairs = rw c at p; fit = f.1 }))
      (λ c. record { line = record { readable = l.readable; other = l.other; none = l.none; effects = l.effects }; pairs = rw (← is) (rw c at p); fit = rw (← is) f })

  lined-fair : (a : Acts) → Lined a → Paired a.slots.stream.requests a.slots.descriptors → Holds a
  lined-fair a l p =
      let readable = l.readable in
      let other = l.other in
      record {
        even = record { default = λ d. absurd (cc); pairs = λ d. rw (pairs-behind w space unit least a.slots.stream.requests a.slots.descriptors p) p; closed = λ d. λ s. absurd (cc); none = l.none };
        effects = l.effects;
      }

  accept-fair : (b : List ℕ) (a : Acts) → Renounced a → Holds (accept me b a)
  accept-fair b a k =
      let l : Lined (append b a) = record { readable = k.line.readable; other = k.line.other; none = k.line.none; effects = k.line.effects } in
      let other = k.line.other in
      either Holds (has_default_reader a.slots) (accept_default me b a) (if has_byob_reader a.slots then process_and_commit me (append b a) else append b a)
      (λ c. absurd (cc))
      (λ c. either Holds (has_byob_reader a.slots) (process_and_commit me (append b a)) (append b a) (λ d. process-fair (append b a) l k.pairs k.fit) (λ d. lined-fair (append b a) l k.pairs))

  pub enqueue-fair : (b : List ℕ) (a : Acts) → has_default_reader a.slots ≡ false → AllFit a.slots.descriptors → Holds a → Holds (controller_enqueue me b a)
  unfolding controller_enqueue
  enqueue-fair b a n f k =
      let y : Acts = renounce a a.slots.descriptors in
      either Holds (can_take a.slots) (call_pull_if_needed me (accept me b y)) a
      (λ c.
      let l : Lined a = record { readable = readable_of a.slots.stream.state (and_right (not a.slots.stream.close_requested) (readable.is_readable a.slots.stream.state) c); other = n; none = k.even.none; effects = k.effects } in
      pull-fair w space unit least me (accept me b y) (accept-fair b y (renounced a a.slots.descriptors refl l (k.even.pairs n) f)))
      (λ c. k)

  -- bytes are responded

  full-fair : (d : Descriptor) (a : Acts) (rs : List ReadRequest) → rs ≡ a.slots.stream.requests → Lined a → Paired rs (d ∷ rest_of a.slots.descriptors) → AllFit (rest_of a.slots.descriptors)
      → IsFull (record d { filled = take (length d.filled - (length d.filled % d.element)) d.filled }) → Holds (respond_full me d a)
  full-fair d a [] is l p f full = absurd p
  full-fair d a (r ∷ rs) is l p f full =
      let kept : ℕ = length d.filled - (length d.filled % d.element) in
      let e : Descriptor = record d { filled = take kept d.filled } in
      let b : Acts = append (drop kept d.filled) (drop_first a) in
      let x : Processed = processed_of b in
      let k : Parted w space unit least rs x = parted w space unit least rs (rest_of a.slots.descriptors) b.slots.queue p.1 f in
      let pairs : Paired (r ∷ rs) (e ∷ (x.ready ++ x.waiting)) = (wants-alike w space unit least r d e (alike d e.filled) p.0, k.pairs) in
      committing-fair (e ∷ x.ready) x.waiting (put_processed x b) (record { readable = l.readable; other = l.other; none = l.none; effects = l.effects }) refl (subst (λ (qs : List ReadRequest). Paired qs ((e ∷ x.ready) ++ x.waiting)) is pairs) (full, k.full)

  respond_readable-fair : (b : List ℕ) (d : Descriptor) (ds : List Descriptor) (a : Acts) → d ∷ ds ≡ a.slots.descriptors → Lined a → Paired a.slots.stream.requests (behind (d ∷ ds)) → Fit d → AllFit ds → length d.filled + length b ≤ d.room
      → Holds (respond_readable me (record d { filled = d.filled ++ b }) a)
  respond_readable-fair b d ds a is l p fit f room =
      let y : Descriptor = record d { filled = d.filled ++ b } in
      let z : Acts = put_first y a in
      let rest : rest_of a.slots.descriptors ≡ ds = ap rest_of (sym is) in
      let m : Lined (detached_to_queue z) = record { readable = l.readable; other = l.other; none = l.none; effects = l.effects } in
      let long = length-append d.filled b in
      let readable = l.readable in
      let other = l.other in
      either Holds (is_for_nobody d.room_kind) (process_and_commit me (detached_to_queue z)) (if nat_lt (length y.filled) d.minimum then z else respond_full me y a)
      (λ c. process-fair (detached_to_queue z) m (rw rest (rw c at p)) (rw rest f))
      (λ c.
      let pairs : Paired a.slots.stream.requests (y ∷ rest_of a.slots.descriptors) = rw rest (pairs-first a.slots.stream.requests d y ds (alike d y.filled) (rw c at p)) in
      either Holds (nat_lt (length y.filled) d.minimum) z (respond_full me y a)
      (λ s. record { even = record { default = λ t. absurd (cc); pairs = λ t. rw c pairs; closed = λ t. λ u. absurd (cc); none = l.none }; effects = l.effects })
      (λ s. full-fair y a a.slots.stream.requests refl l pairs (rw rest f) (full-part d y.filled (grind (arith, s)) (omega (arith, long, room)) fit)))

  pub respond-fair : (b : List ℕ) (a : Acts) (ds : List Descriptor) → ds ≡ a.slots.descriptors → a.slots.stream.state ≡ Readable → has_default_reader a.slots ≡ false → is_none (respond_throws (length b) a.slots.stream.state ds) ≡ true → AllFit ds → Holds a
      → Holds (respond_first me b a ds)
  respond-fair b a [] is s n may f k = k
  respond-fair b a (d ∷ ds) is s n may f k =
      let l : Lined a = record { readable = s; other = n; none = k.even.none; effects = k.effects } in
      let y : Descriptor = record d { filled = d.filled ++ b } in
      let p : Paired a.slots.stream.requests (behind (d ∷ ds)) = subst (λ (xs : List Descriptor). Paired a.slots.stream.requests (behind xs)) (sym is) (k.even.pairs n) in
      let g = pull-fair w space unit least me (respond_readable me y a) (respond_readable-fair b d ds a is l p f.0 f.1 (room-for (length b) d ds a.slots.stream.state s may)) in
      let e : is_closed a.slots.stream.state ≡ false = ap is_closed s in
      either Holds (is_closed a.slots.stream.state) (respond_closed me d a) (call_pull_if_needed me (respond_readable me y a)) (λ c. absurd (cc)) (λ c. g)

  -- reads into rooms

  pub waits-fair : (d : Descriptor) (q : ReadRequest) (a : Acts) → a.slots.stream.reader ≢ None → (has_default_reader a.slots ≡ true → a.slots.stream.state ≢ Readable) → (a.slots.stream.state ≡ Closed → IsWhole d) → d.room_kind ≡ ForByob → Wants w space unit least q d
      → Holds a → Holds (pull_waits d q a)
  waits-fair d q a some other whole kind k f =
      record {
        even = record {
          default = λ t s. absurd (other t s);
          pairs = λ t. last a.slots.descriptors refl (f.even.pairs t);
          closed = λ t s. whole-last a.slots.descriptors d (whole s) (f.even.closed t s);
          none = λ t. absurd (some t);
        };
        effects = f.effects;
      }
    where
      last : (ds : List Descriptor) → ds ≡ a.slots.descriptors → Paired a.slots.stream.requests (behind a.slots.descriptors) → Paired (a.slots.stream.requests ++ q ∷ []) (behind (a.slots.descriptors ++ d ∷ []))
      last [] is p = rw (← is) (rw (alone-behind d kind) (pairs-last w space unit least a.slots.stream.requests [] q d (rw (← is) at p) k))
      last (x ∷ xs) is p = rw (← is) (rw (behind-last x d xs) (pairs-last w space unit least a.slots.stream.requests (behind (x ∷ xs)) q d (rw (← is) at p) k))

  fills-want : (q : ReadRequest) (d y : Descriptor) → Alike d y → Wants w space unit least q d → IsFull y → 1 ≤ w q → Fills space unit least y.filled
  fills-want q d y a k f o = rw (← k.room o, ← k.element o, ← k.minimum o, ← a.room, ← a.element, ← a.minimum) f

  filled-fair : (d : Descriptor) (q : ReadRequest) (a : Acts) (y : Filling) (ready : Bool) → ready ≡ y.ready → Fuller d y → Fit d → a.slots.stream.state ≡ Readable → has_default_reader a.slots ≡ false → a.slots.stream.reader ≢ None → a.slots.descriptors ≡ []
      → d.room_kind ≡ ForByob → Wants w space unit least q d → Holds a → Holds (pull_filled me q a y)
  filled-fair d q a y true is u fit s n some none kind k f =
      let z : Acts = put_queue y.queue a in
      let g : Holds z = record { even = even-same w space unit least a.slots z.slots refl refl refl refl refl f.even; effects = f.effects } in
      rw (← is) (causes-fair w space unit least (ChunkSteps me q (Bytes y.descriptor.filled)) (handle_queue_drain me z) (fills-want q d y.descriptor u.alike k (u.full fit (sym is))) (drain-fair w space unit least me z n none g))
  filled-fair d q a y false is u fit s n some none kind k f =
      let z : Acts = put_queue y.queue a in
      let g : Holds z = record { even = even-same w space unit least a.slots z.slots refl refl refl refl refl f.even; effects = f.effects } in
      let c : Acts = pull_waits y.descriptor q z in
      rw (← is)
      (either Holds a.slots.stream.close_requested (causing (ErrorSteps me q type_error) (controller_error me type_error z)) (call_pull_if_needed me c)
      (λ e. causes-fair w space unit least (ErrorSteps me q type_error) (controller_error me type_error z) tt (error-fair w space unit least me type_error z n g))
      (λ e. pull-fair w space unit least me c (waits-fair y.descriptor q z some (λ t. absurd (cc)) (λ t. absurd (cc)) (u.alike.room_kind ∙ kind) (wants-alike w space unit least q d y.descriptor u.alike k) g)))

  pub from_queue-fair : (d : Descriptor) (q : ReadRequest) (a : Acts) (queue : List (List ℕ)) → Fit d → a.slots.stream.state ≡ Readable → has_default_reader a.slots ≡ false → a.slots.stream.reader ≢ None → a.slots.descriptors ≡ [] → d.room_kind ≡ ForByob
      → Wants w space unit least q d → Holds a → Holds (pull_from_queue me d q a queue)
  from_queue-fair d q a [] fit s n some none kind k f = pull-fair w space unit least me (pull_waits d q a) (waits-fair d q a some (λ t. absurd (cc)) (λ t. absurd (cc)) kind k f)
  from_queue-fair d q a (b ∷ bs) fit s n some none kind k f = let y : Filling = fill_from_queue d (b ∷ bs) in filled-fair d q a y y.ready refl (filling d (b ∷ bs)) fit s n some none kind k f

  -- the ends

  pub closing-fair : (a : Acts) (queue : List (List ℕ)) (r : RoomKind) (m : ℕ) → has_default_reader a.slots ≡ false → Good r a.slots.descriptors a.slots.queue m → Holds a → Holds (close_by me a queue)
  closing-fair a (b ∷ bs) r m n g f = record { even = even-same w space unit least a.slots _ refl refl refl refl refl f.even; effects = f.effects }
  closing-fair a [] r m n g f =
      either Holds (has_part a.slots.descriptors) (controller_error me type_error a) (stream_close me a)
      (λ p. error-fair w space unit least me type_error a n f) (λ p. close-fair w space unit least me a n (good-whole r a.slots.descriptors a.slots.queue m p g) f)

  into-fair : (r : Plain) (p : PromiseId) (a : Acts) → has_default_reader a.slots ≡ false → (a.slots.stream.reader ≡ None → a.slots.stream.requests ≡ []) → AreFair w space unit least a.out.effects → Holds (cancel_steps me r p (close_into me a))
  into-fair r p a n none e =
      either (λ (y : Acts). Holds (cancel_steps me r p y)) (has_byob_reader a.slots) _ a
      (λ c. record {
        even = record { default = λ t s. refl; pairs = λ t. tt; closed = λ t s. tt; none = λ t. refl };
        effects = each-append (IsFair w space unit least) _ (CancelAlgorithm me r p ∷ []) (each-append (IsFair w space unit least) a.out.effects (readable.close_all me a.slots.stream.requests) e (close_all-fair w space unit least me a.slots.stream.requests)) (tt, tt);
      })
      (λ c.
      let empty = none (no_reader a.slots.stream.reader a.slots.reader_kind n c) in
      record {
        even = record { default = λ t. absurd (cc); pairs = λ t. rw empty tt; closed = λ t s. tt; none = λ t. empty };
        effects = each-append (IsFair w space unit least) a.out.effects (CancelAlgorithm me r p ∷ []) e (tt, tt);
      })

  pub cancel-fair : (r : Plain) (p : PromiseId) (a : Acts) → has_default_reader a.slots ≡ false → Holds a → Holds (cancel_steps me r p (close_into me (stream_close me a)))
  cancel-fair r p a n f =
      let s : Shut w space unit least me a (stream_close me a) = shut w space unit least me a n in
      into-fair r p (stream_close me a) (rw s.slots n) (rw s.slots f.even.none) (rw s.effects f.effects)
