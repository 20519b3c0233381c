-- What reads of a closed byte stream wait for, and what a response hands out to them (`each_closed_room_is_handed_out`).
use Rattle.std.proofs.Common.{◌≡◌, ℕ, zero, suc, ◌%◌, Bool, true, false, not, ◌&&◌, if◌then◌else◌, List, [], ◌∷◌, ◌++◌, length, take, drop, Option, Some, None, refl, sym, ap, ◌∙◌, append_assoc, append-nil, is_some, slice_get, subst, arith}
use Rattle.std.specs.Prelude.{is_none}
use Rattle.ws_value.specs.declared.ids.{PromiseId.{PromiseId}, StreamId.{StreamId}}
use Rattle.ws_steps.specs.declared.byte.ReaderKind.{ReaderKind}
use Rattle.ws_steps.specs.declared.byte.ReaderKind.TheVariants.{Default, Byob}
use Rattle.ws_steps.specs.declared.effects.Effect.{Effect}
use Rattle.ws_steps.specs.declared.effects.Effect.TheVariants.{CloseStepsWith}
use Rattle.ws_steps.specs.declared.readable.{ReadRequest.{ReadRequest}, ReadableState.{ReadableState}, ReadableState.TheVariants.{Closed}}
use Rattle.ws_steps.specs.Bytes.{Acts, Slots, with_slots, with_requests, causing, is_byob, has_default_reader, has_byob_reader, is_closed, call_pull_if_needed, commit_steps, commit_to, commit_all, commit_first, drop_first, invalidate_request, may_respond, if_meant, respond_closed, respond_readable, respond_first, respond_internal, respond}
use Rattle.ws_steps.specs.Descriptors.{Descriptor, is_for_nobody, rest_of, respond_throws}
use Rattle.ws_steps.specs.Promises.{Table}
use Rattle.ws_byte_laws.proofs.Given.{starting}
use Rattle.ws_room_read_laws.specs.HandingOut.{rooms_of, AllWhole, hand_out, IsHandedOut}
use Rattle.ws_room_read_laws.proofs.Pairs.{behind, Pairs, pairs-length}
use Rattle.ws_room_read_laws.proofs.Pairs as rooms
use Rattle.ws_room_read_laws.proofs.Fair.{Even}

-- what commits leave of a closed stream
abbrev handed : StreamId → List ReadRequest → List Descriptor → Acts → Acts
handed me rs ds a = record {
  slots = record a.slots { stream = record a.slots.stream { requests = [] } };
  out = record a.out { effects = a.out.effects ++ hand_out me rs ds };
}

hands : (me : StreamId) (rs : List ReadRequest) (ds : List Descriptor) (a : Acts) → rs ≡ a.slots.stream.requests → a.slots.stream.state ≡ Closed → length ds ≡ length rs → commit_all me ds a ≡ handed me rs ds a
hands me [] [] a e c n = λ k. record {
  slots = record a.slots { stream = record a.slots.stream { requests = sym e k } };
  out = record a.out { effects = sym (append-nil a.out.effects) k };
}
hands me [] (d ∷ ds) a e c n = absurd (omega (arith, n))
hands me (r ∷ rs) [] a e c n = absurd (omega (arith, n))
hands me (r ∷ rs) (d ∷ ds) a e c n =
    let b : Acts = causing (commit_steps me d.filled r a.slots.stream.state) (with_requests rs a) in
    let first : commit_all me (d ∷ ds) a ≡ commit_all me ds b = ap (λ (qs : List ReadRequest). commit_all me ds (commit_to me d.filled a qs)) (sym e) in
    let rest : commit_all me ds b ≡ handed me rs ds b = hands me rs ds b refl c (omega (arith, n)) in
    let effects : b.out.effects ++ hand_out me rs ds ≡ a.out.effects ++ hand_out me (r ∷ rs) (d ∷ ds) =
    ap (λ (state : ReadableState). (a.out.effects ++ commit_steps me d.filled r state ∷ []) ++ hand_out me rs ds) c
    ∙ append_assoc a.out.effects (CloseStepsWith me r d.filled ∷ []) (hand_out me rs ds) in
    first ∙ (rest ∙ ap (λ (es : List Effect). record { slots = record a.slots { stream = record a.slots.stream { requests = [] } }; out = record a.out { effects = es } }) effects)

take_all : (n : ℕ) (ds : List Descriptor) → length ds ≡ n → (take n ds ≡ ds) × (drop n ds ≡ [])
take_all zero [] e = (refl, refl)
take_all (suc n) [] e = absurd (omega (arith, e))
take_all zero (d ∷ ds) e = absurd (omega (arith, e))
take_all (suc n) (d ∷ ds) e = let k = take_all n ds (omega (arith, e)) in (ap (λ ys. d ∷ ys) k.0, k.1)

abbrev emptied : Acts → Acts
emptied a = with_slots (record a.slots { descriptors = [] }) a

-- all descriptors of the stream are committed
all-handed : (me : StreamId) (ds : List Descriptor) (a : Acts) → ds ≡ a.slots.descriptors → a.slots.stream.state ≡ Closed → length ds ≡ length a.slots.stream.requests
    → commit_first me (length a.slots.stream.requests) a ≡ handed me a.slots.stream.requests ds (emptied a)
all-handed me ds a e c n =
    let rs : List ReadRequest = a.slots.stream.requests in
    let t = take_all (length rs) ds n in
    let here : commit_first me (length rs) a ≡ commit_all me (take (length rs) ds) (with_slots (record a.slots { descriptors = drop (length rs) ds }) a) =
    ap (λ (ys : List Descriptor). commit_all me (take (length rs) ys) (with_slots (record a.slots { descriptors = drop (length rs) ys }) a)) (sym e) in
    let all : commit_all me (take (length rs) ds) (with_slots (record a.slots { descriptors = drop (length rs) ds }) a) ≡ commit_all me ds (emptied a) =
    λ k. commit_all me (t.0 k) (with_slots (record a.slots { descriptors = t.1 k }) a) in
    here ∙ (all ∙ hands me rs ds (emptied a) refl c n)

-- the first is dropped where it is for nobody

abbrev commits : StreamId → Acts → Acts
commits me b = if has_byob_reader b.slots then commit_first me (length b.slots.stream.requests) b else b

by_kind : (me : StreamId) (d : Descriptor) (ds : List Descriptor) (a : Acts) (nobody : Bool) → d ∷ ds ≡ a.slots.descriptors → a.slots.stream.state ≡ Closed → has_byob_reader a.slots ≡ true
    → length (if nobody then ds else d ∷ ds) ≡ length a.slots.stream.requests → commits me (if nobody then drop_first a else a) ≡ handed me a.slots.stream.requests (if nobody then ds else d ∷ ds) (emptied a)
by_kind me d ds a true e c r n =
    ap (λ (m : Bool). if m then commit_first me (length a.slots.stream.requests) (drop_first a) else drop_first a) r ∙ all-handed me ds (drop_first a) (ap rest_of e) c n
by_kind me d ds a false e c r n =
    ap (λ (m : Bool). if m then commit_first me (length a.slots.stream.requests) a else a) r ∙ all-handed me (d ∷ ds) a e c n

first-handed : (me : StreamId) (ds : List Descriptor) (a : Acts) → ds ≡ a.slots.descriptors → a.slots.stream.state ≡ Closed → has_byob_reader a.slots ≡ true → length (rooms_of ds) ≡ length a.slots.stream.requests
    → respond_first me [] a ds ≡ handed me a.slots.stream.requests (rooms_of ds) (emptied a)
first-handed me [] a e c r n =
    let same : a ≡ emptied a = λ k. with_slots (record a.slots { descriptors = sym e k }) a in
    same ∙ hands me a.slots.stream.requests [] (emptied a) refl c n
first-handed me (d ∷ ds) a e c r n =
    let closed : respond_first me [] a (d ∷ ds) ≡ respond_closed me d a =
    ap (λ (m : Bool). if m then respond_closed me d a else call_pull_if_needed me (respond_readable me (record d { filled = d.filled ++ [] }) a)) (ap is_closed c) in
    closed ∙ by_kind me d ds a (is_for_nobody d.room_kind) e c r n

pub hands_out : (me : StreamId) (t : Table) (x : Slots) → x.stream.state ≡ Closed → has_byob_reader x ≡ true → length (rooms_of x.descriptors) ≡ length x.stream.requests
    → respond me [] (starting x t) ≡ record {
      slots = record x { stream = record x.stream { requests = [] }; descriptors = []; request = None };
      out = record { promises = t; effects = hand_out me x.stream.requests (rooms_of x.descriptors) };
    }
unfolding respond
hands_out me t x c r n =
    let may : may_respond 0 x ≡ true = ap (λ (state : ReadableState). is_none (respond_throws 0 state x.descriptors)) c in
    let meant : respond me [] (starting x t) ≡ respond_first me [] (invalidate_request (starting x t)) x.descriptors =
    ap (λ (m : Bool). if_meant m (respond_internal me [] (starting x t)) (starting x t)) may in
    meant ∙ first-handed me x.descriptors (invalidate_request (starting x t)) refl c r n

-- what is known of a stream at each moment

same-rooms : (ds : List Descriptor) → rooms_of ds ≡ behind ds
same-rooms [] = refl
same-rooms (d ∷ ds) = refl

no_default : (o : Option PromiseId) (kind : ReaderKind) → is_some o && is_byob kind ≡ true → is_some o && not (is_byob kind) ≡ false
no_default None kind e = cc
no_default (Some p) Default e = cc
no_default (Some p) Byob e = refl

module _ (w : ReadRequest → ℕ) (space unit least : ℕ) where
  whole-rooms : (rs : List ReadRequest) (ds : List Descriptor) → Pairs w space unit least rs ds → rooms.AllWhole ds → AllWhole ds
  whole-rooms [] [] p k = tt
  whole-rooms [] (d ∷ ds) p k = absurd p
  whole-rooms (r ∷ rs) [] p k = absurd p
  whole-rooms (r ∷ rs) (d ∷ ds) p k = (k.0 p.0.room_kind, whole-rooms rs ds p.1 k.1)

  behind-whole : (ds : List Descriptor) → rooms.AllWhole ds → rooms.AllWhole (behind ds)
  behind-whole [] k = tt
  behind-whole (d ∷ ds) k = by (is_for_nobody d.room_kind)
    where
      by : (nobody : Bool) → rooms.AllWhole (if nobody then ds else d ∷ ds)
      by true = k.1
      by false = k

  pub even-handed : (me : StreamId) (x : Slots) → Even w space unit least x → x.stream.state ≡ Closed → has_byob_reader x ≡ true → IsHandedOut me x
  even-handed me x even c r =
      let n = no_default x.stream.reader x.reader_kind r in
      let p : Pairs w space unit least x.stream.requests (behind x.descriptors) = even.pairs n in
      let each : length (rooms_of x.descriptors) ≡ length x.stream.requests = ap length (same-rooms x.descriptors) ∙ pairs-length w space unit least x.stream.requests (behind x.descriptors) p in
      record {
        each = each;
        whole = subst AllWhole (sym (same-rooms x.descriptors)) (whole-rooms x.stream.requests (behind x.descriptors) p (behind-whole x.descriptors (even.closed n c)));
        response = λ t. hands_out me t x c r each;
      }
