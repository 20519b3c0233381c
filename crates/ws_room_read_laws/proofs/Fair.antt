-- What holds of a byte stream at each moment: a default reader of a readable stream has no request of some weight, and the requests of another
-- reader stand for the descriptors. What keeps it, of the parts of operations.
use Rattle.std.proofs.Common.{◌≡◌, ℕ, true, false, not, ◌&&◌, List, [], ◌∷◌, Option, Some, None, refl, sym, ◌∙◌, is_some}
use Rattle.ws_value.specs.declared.{ids.PromiseId.{PromiseId}, ids.StreamId.{StreamId}, value.Plain.{Plain}}
use Rattle.ws_steps.specs.declared.byte.{ReaderKind.{ReaderKind}, ReaderKind.TheVariants.{Default, Byob}}
use Rattle.ws_steps.specs.declared.effects.Effect.{Effect}
use Rattle.ws_steps.specs.declared.effects.Effect.TheVariants.{PullAlgorithm}
use Rattle.ws_steps.specs.declared.readable.{ReadRequest.{ReadRequest}, ReadableState.{ReadableState}, ReadableState.TheVariants.{Readable, Closed, Errored}}
use Rattle.ws_steps.specs.Bytes.{Slots, Acts, causing, in_stream, has_default_reader, has_byob_reader, is_byob, should_call_pull, call_pull_if_needed, close_keeping, close_stream_keeping, stream_close, clear_all, controller_error, handle_queue_drain, reader_release}
use Rattle.ws_steps.specs.Descriptors.{Descriptor, without_reader}
use Rattle.ws_steps.specs.Effects.{type_error}
use Rattle.ws_steps.specs.Queues.{is_empty}
use Rattle.ws_steps.specs.Readable as readable
use Rattle.ws_laws.proofs.ByteHands.{sum_of}
use Rattle.ws_laws.proofs.Lists.{Each, each-append}
use Rattle.ws_laws.proofs.Tables.{either}
use Rattle.ws_byte_laws.proofs.Fine.{of_stream}
use Rattle.ws_byte_laws.proofs.Leaving.{initialized_by, initialized}
use Rattle.ws_room_read_laws.proofs.Pairs.{behind, AllWhole, IsFair, Pairs}

pub no_reader : (o : Option PromiseId) (κ : ReaderKind) → is_some o && not (is_byob κ) ≡ false → is_some o && is_byob κ ≡ false → o ≡ None
no_reader None κ d e = refl
no_reader (Some p) Default d e = cc
no_reader (Some p) Byob d e = cc

pub unread : (o : Option PromiseId) (κ : ReaderKind) → o ≡ None → is_some o && not (is_byob κ) ≡ false
unread None κ e = refl
unread (Some p) κ e = cc

module _ (w : ReadRequest → ℕ) (space unit least : ℕ) where
  -- effects that are all fair
  abbrev pub AreFair : List Effect → Type 0
  AreFair es = Each (IsFair w space unit least) es

  pub record Even (x : Slots) : Type 0 where
    pub default : has_default_reader x ≡ true → x.stream.state ≡ Readable → sum_of w x.stream.requests ≡ 0
    pub pairs : has_default_reader x ≡ false → Pairs w space unit least x.stream.requests (behind x.descriptors)
    pub closed : has_default_reader x ≡ false → x.stream.state ≡ Closed → AllWhole x.descriptors
    pub none : x.stream.reader ≡ None → x.stream.requests ≡ []

  pub record Fair (a : Acts) : Type 0 where
    pub even : Even a.slots
    pub effects : AreFair a.out.effects

  pub even-same : (x y : Slots) → y.stream.reader ≡ x.stream.reader → y.reader_kind ≡ x.reader_kind → y.stream.state ≡ x.stream.state → y.stream.requests ≡ x.stream.requests → y.descriptors ≡ x.descriptors → Even x → Even y
  even-same x y r k s q d e =
      record {
        default = λ n m. rw q (e.default (rw (r, k) at n) (sym s ∙ m));
        pairs = λ n. rw (q, d) (e.pairs (rw (r, k) at n));
        closed = λ n m. rw d (e.closed (rw (r, k) at n) (sym s ∙ m));
        none = λ n. q ∙ e.none (sym r ∙ n);
      }

  pub causes-fair : (f : Effect) (a : Acts) → IsFair w space unit least f → Fair a → Fair (causing f a)
  causes-fair f a n k = record { even = k.even; effects = each-append (IsFair w space unit least) a.out.effects (f ∷ []) k.effects (n, tt) }

  module _ (me : StreamId) where
    pub close_all-fair : (rs : List ReadRequest) → AreFair (readable.close_all me rs)
    close_all-fair [] = tt
    close_all-fair (r ∷ rs) = (tt, close_all-fair rs)

    pub error_all-fair : (e : Plain) (rs : List ReadRequest) → AreFair (readable.error_all me e rs)
    error_all-fair e [] = tt
    error_all-fair e (r ∷ rs) = (tt, error_all-fair e rs)

    pub pull-fair : (a : Acts) → Fair a → Fair (call_pull_if_needed me a)
    unfolding call_pull_if_needed
    pull-fair a f =
        either Fair (should_call_pull a.slots) (in_stream (readable.call_pull me) a) a
        (λ c. either (λ (b : readable.Acts). Fair (record { slots = record a.slots { stream = b.slots }; out = b.out })) a.slots.stream.pulling _ _
        (λ p. record { even = even-same a.slots _ refl refl refl refl refl f.even; effects = f.effects })
        (λ p. record { even = even-same a.slots _ refl refl refl refl refl f.even; effects = each-append (IsFair w space unit least) a.out.effects (PullAlgorithm me ∷ []) f.effects (tt, tt) }))
        (λ c. f)

    -- a close by another reader than a default reader changes the state alone
    pub record Shut (a z : Acts) : Type 0 where
      pub slots : z.slots ≡ record a.slots { stream = record a.slots.stream { state = Closed } }
      pub effects : z.out.effects ≡ a.out.effects

    keeping-shut : (a : Acts) (o : Option PromiseId) → let b : readable.Acts = close_keeping (record { slots = record a.slots.stream { state = Closed }; out = a.out }) o in
        Shut a (record { slots = record a.slots { stream = b.slots }; out = b.out })
    keeping-shut a None = record { slots = refl; effects = refl }
    keeping-shut a (Some p) = record { slots = refl; effects = refl }

    none-shut : (a : Acts) (o : Option PromiseId) → o ≡ None → let b : readable.Acts = readable.close_reader me (record { slots = record a.slots.stream { state = Closed }; out = a.out }) o in
        Shut a (record { slots = record a.slots { stream = b.slots }; out = b.out })
    none-shut a None e = record { slots = refl; effects = refl }
    none-shut a (Some p) e = cc

    pub shut : (a : Acts) → has_default_reader a.slots ≡ false → Shut a (stream_close me a)
    unfolding stream_close readable.stream_close
    shut a n =
        either (Shut a) (has_byob_reader a.slots) (in_stream close_stream_keeping a) (in_stream (readable.stream_close me) a)
        (λ c. keeping-shut a a.slots.stream.reader) (λ c. none-shut a a.slots.stream.reader (no_reader a.slots.stream.reader a.slots.reader_kind n c))

    pub close-fair : (a : Acts) → has_default_reader a.slots ≡ false → AllWhole a.slots.descriptors → Fair a → Fair (stream_close me a)
    close-fair a n whole f =
        let s = shut a n in
        record { even = rw s.slots (record { default = λ d. absurd (cc); pairs = λ d. f.even.pairs n; closed = λ d e. whole; none = f.even.none }); effects = rw s.effects f.effects }

    error-by : (e : Plain) (a : Acts) (o : Option PromiseId) → o ≡ a.slots.stream.reader → has_default_reader a.slots ≡ false → Fair a
        → let b : readable.Acts = readable.error_reader me e (record { slots = record a.slots.stream { state = Errored; stored_error = e }; out = a.out }) o in
        Fair (record { slots = record a.slots { stream = b.slots; request = None; descriptors = []; queue = [] }; out = b.out })
    error-by e a None is n f =
        let empty = f.even.none (sym is) in
        record { even = record { default = λ d. absurd (cc); pairs = λ d. rw empty tt; closed = λ d. λ s. absurd (cc); none = f.even.none }; effects = f.effects }
    error-by e a (Some p) is n f =
        record {
          even = record { default = λ d. absurd (cc); pairs = λ d. tt; closed = λ d. λ s. absurd (cc); none = λ d. refl };
          effects = each-append (IsFair w space unit least) a.out.effects (readable.error_all me e a.slots.stream.requests) f.effects (error_all-fair e a.slots.stream.requests);
        }

    pub error-fair : (e : Plain) (a : Acts) → has_default_reader a.slots ≡ false → Fair a → Fair (controller_error me e a)
    unfolding controller_error readable.stream_error
    error-fair e a n f =
        either Fair (readable.is_readable a.slots.stream.state) (in_stream (readable.stream_error me e) (clear_all a)) a (λ c. error-by e a a.slots.stream.reader refl n f) (λ c. f)

    pub drain-fair : (a : Acts) → has_default_reader a.slots ≡ false → a.slots.descriptors ≡ [] → Fair a → Fair (handle_queue_drain me a)
    unfolding handle_queue_drain
    drain-fair a n d f =
        either Fair (is_empty a.slots.queue && a.slots.stream.close_requested) (stream_close me a) (call_pull_if_needed me a) (λ c. close-fair a n (rw d tt) f) (λ c. pull-fair a f)

    -- a reader goes

    behind-none : (ds : List Descriptor) → behind (without_reader ds) ≡ []
    behind-none [] = refl
    behind-none (d ∷ ds) = refl

    whole-none : (ds : List Descriptor) → AllWhole (without_reader ds)
    whole-none [] = tt
    whole-none (d ∷ ds) = (λ e. absurd (cc), tt)

    released_effects : (p : PromiseId) (a : Acts) (state : ReadableState) → (readable.release_closed p a.out state).effects ≡ a.out.effects
    released_effects p a Readable = refl
    released_effects p a Closed = refl
    released_effects p a Errored = refl

    release-by : (a : Acts) (o : Option PromiseId) → o ≡ a.slots.stream.reader → Fair a
        → let b : readable.Acts = readable.release_by me (of_stream a) o in
        Fair (record { slots = record a.slots { stream = b.slots; descriptors = without_reader a.slots.descriptors }; out = b.out })
    release-by a None is f =
        let empty = f.even.none (sym is) in
        record {
          even = record { default = λ d. let n = unread a.slots.stream.reader a.slots.reader_kind (sym is) in absurd (cc); pairs = λ d. rw (empty, behind-none a.slots.descriptors) tt; closed = λ d s. whole-none a.slots.descriptors; none = f.even.none };
          effects = f.effects;
        }
    release-by a (Some p) is f =
        record {
          even = record { default = λ d. absurd (cc); pairs = λ d. rw (behind-none a.slots.descriptors) tt; closed = λ d s. whole-none a.slots.descriptors; none = λ n. refl };
          effects = each-append (IsFair w space unit least) (readable.release_closed p a.out a.slots.stream.state).effects (readable.error_all me type_error a.slots.stream.requests) (rw (released_effects p a a.slots.stream.state) f.effects) (error_all-fair type_error a.slots.stream.requests);
        }

    pub release-fair : (a : Acts) → Fair a → Fair (reader_release me a)
    unfolding reader_release readable.reader_release
    release-fair a f = release-by a a.slots.stream.reader refl f

    -- a reader comes where there is none

    pub initialize-fair : (kind : ReaderKind) (p : PromiseId) (a : Acts) → a.slots.stream.reader ≡ None → Fair a → Fair (initialized_by kind p a)
    unfolding readable.reader_generic_initialize
    initialize-fair kind p a n f =
        let nd = unread a.slots.stream.reader a.slots.reader_kind n in
        let empty = f.even.none n in
        let k : Pairs w space unit least [] (behind a.slots.descriptors) = rw empty at (f.even.pairs nd) in
        record { even = record { default = λ d s. refl; pairs = λ d. k; closed = λ d s. f.even.closed nd s; none = λ m. refl }; effects = rw (initialized kind p a) f.effects }
