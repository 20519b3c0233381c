-- What becomes of a read into a room that wants so many elements at least (`each_read_into_gets_its_least`).
use Rattle.std.proofs.Common.{◌≡◌, ◌⊎◌, inl, inr, ⊎_elim, ℕ, zero, suc, ◌+◌, ◌≤◌, Bool, true, false, nat_eq, List, [], ◌∷◌, ◌++◌, length, All, Some, Option, refl, sym, ap, subst, ◌∙◌, append_assoc, arith}
use Rattle.std.proofs.lemmas.List.Elements.{All-head, All-tail}
use Rattle.ws_value.specs.declared.ids.{LockId.{LockId}, PromiseId.{PromiseId}, StreamId.{StreamId}}
use Rattle.ws_value.specs.declared.value.{Outcome.{Outcome}, Outcome.TheVariants.{Pending, Given}, Value.TheVariants.{Bytes}}
use Rattle.ws_steps.specs.declared.calls.{Call.{Call}, Call.TheVariants.{ReadInto}, Reply.TheVariants.{Promise as Named}}
use Rattle.ws_steps.specs.declared.locks.{Lock.TheVariants.{ByobReader}}
use Rattle.ws_steps.specs.declared.readable.{ReadRequest.{ReadRequest}, ReadRequest.TheVariants.{Promise, Pipe, Tee}}
use Rattle.ws_steps.specs.Bytes as byte
use Rattle.ws_steps.specs.ByteHistory.{run_bytes}
use Rattle.ws_steps.specs.ByteLaws.{FillRoom}
use Rattle.ws_steps.specs.Laws.{HasOutcome}
use Rattle.ws_steps.specs.LockCalls.{has_least}
use Rattle.ws_steps.specs.Promises.{Table, outcome_at}
use Rattle.ws_steps.specs.ReadableHistory.{promises_of}
use Rattle.ws_steps.specs.Run.{Entry, Called, run, reply_to, step}
use Rattle.ws_steps.specs.Slots.{Slots, empty, has_byte, byte_at, lock_at}
use Rattle.ws_laws.proofs.StaysBytes.{run-byte}
use Rattle.ws_laws.proofs.Tables.{is_same-refl, eq_numbers}
use Rattle.ws_promise_laws.proofs.Tokens.{one_if, names, of_request}
use Rattle.ws_room_read_laws.proofs.Whole.{each_room_is_whole}
use Rattle.ws_answer_laws.specs.ByteReads.{ByteReads, run_byte_reads, call_byte_asked, byte_asked_in_step, byte_asked_by_calls, ByteAnswer, Gets, HandedBack, Ends, Fails, Released, Answered, requests_of, if_released, released_of, answer_outcome}
use Rattle.ws_answer_laws.specs.Answering.{weight_of, Allows, AreAnswered}
use Rattle.ws_answer_laws.specs.LeastReads.{IsAmong, HasReason, EachReadIntoGetsItsLeast}
use Rattle.ws_answer_laws.proofs.Answered.{each_byte_read_is_answered}
use Rattle.ws_answer_laws.proofs.Asked.{run-asks}

run-append : (xs ys : List Entry) (s : Slots) → run (xs ++ ys) s ≡ run ys (run xs s)
run-append [] ys s = refl
run-append (x ∷ xs) ys s = run-append xs ys (step s x)

calls-append : (i : StreamId) (xs ys : List Entry) (s : Slots) → byte_asked_by_calls i (xs ++ ys) s ≡ byte_asked_by_calls i xs s ++ byte_asked_by_calls i ys (run xs s)
calls-append i [] ys s = refl
calls-append i (x ∷ xs) ys s =
    ap (λ (ps : List PromiseId). byte_asked_in_step i s x ++ ps) (calls-append i xs ys (step s x))
    ∙ sym (append_assoc (byte_asked_in_step i s x) (byte_asked_by_calls i xs (step s x)) (byte_asked_by_calls i ys (run xs (step s x))))

-- whether this promise is among those
IsIn : PromiseId → List PromiseId → Type 0
IsIn p [] = ⊥
IsIn p (q ∷ qs) = (q ≡ p) ⊎ IsIn p qs

in_last : (p : PromiseId) (ps qs : List PromiseId) → IsIn p qs → IsIn p (ps ++ qs)
unfolding IsIn
in_last p [] qs h = h
in_last p (q ∷ ps) qs h = inr (in_last p ps qs h)

in_first : (p : PromiseId) (qs : List PromiseId) → IsIn p (p ∷ qs)
unfolding IsIn
in_first p qs = inl refl

self : (p : PromiseId) → names p p ≡ 1
self p = grind arith

same_number : (p q : PromiseId) (same : Bool) → same ≡ nat_eq p.0 q.0 → 1 ≤ one_if same → q ≡ p
same_number p q true e n = ap (λ (k : ℕ). record { 0 = k }) (sym (eq_numbers p.0 q.0 (sym e)))
same_number p q false e n = absurd (omega (arith, n))

other_number : (p q : PromiseId) (n : ℕ) → 1 ≤ names p q + n → (q ≡ p) ⊎ (1 ≤ n)
other_number p q n m = by (nat_eq p.0 q.0) refl m
  where
    by : (same : Bool) → same ≡ nat_eq p.0 q.0 → 1 ≤ one_if same + n → (q ≡ p) ⊎ (1 ≤ n)
    by true e m = inl (same_number p q true e (omega arith))
    by false e m = inr (omega (arith, m))

module _ (p : PromiseId) where
  abbrev W : ReadRequest → ℕ
  W r = of_request p r

  weighs : (rs : List ReadRequest) → IsIn p (promises_of rs) → 1 ≤ weight_of W rs
  unfolding IsIn
  weighs [] h = absurd h
  weighs (Promise q ∷ rs) (inl e) = let n = self p in rw e (omega (arith, n))
  weighs (Promise q ∷ rs) (inr h) = let n = weighs rs h in omega (arith, n)
  weighs (Pipe q ∷ rs) h = let n = weighs rs h in omega (arith, n)
  weighs (Tee q ∷ rs) h = let n = weighs rs h in omega (arith, n)

  among : (rs : List ReadRequest) → 1 ≤ weight_of W rs → IsAmong (Promise p) rs
  among [] n = absurd (omega (arith, n))
  among (Promise q ∷ rs) n = ⊎_elim (λ e. inl (ap (λ (z : PromiseId). Promise z) e)) (λ m. inr (among rs m)) (other_number p q (weight_of W rs) n)
  among (Pipe q ∷ rs) n = inr (among rs (omega (arith, n)))
  among (Tee q ∷ rs) n = inr (among rs (omega (arith, n)))

  among_last : (rs qs : List ReadRequest) → IsAmong (Promise p) qs → IsAmong (Promise p) (rs ++ qs)
  among_last [] qs h = h
  among_last (r ∷ rs) qs h = inr (among_last rs qs h)

  module _ (x : byte.Slots) (t : Table) where
    -- how the read was answered
    record Found (gone : List ReadRequest) : Type 0 where
      answer : ByteAnswer
      told : outcome_at t p ≡ Some (answer_outcome answer)
      allowed : Allows x answer
      released : answer ≡ Released → IsAmong (Promise p) gone

    abbrev Told : Answered → Type 0
    Told a = HasOutcome t a.request (answer_outcome a.answer)

    abbrev Allowed : Answered → Type 0
    Allowed a = Allows x a.answer

    later : (rs gone : List ReadRequest) → Found gone → Found (rs ++ gone)
    later rs gone f = record { answer = f.answer; told = f.told; allowed = f.allowed; released = λ e. among_last rs gone (f.released e) }

    first : (a : Answered) (gone : List ReadRequest) → a.request ≡ Promise p → Told a → Allowed a → Found (if_released a.request a.answer ++ gone)
    first a gone e told allowed = record {
      answer = a.answer;
      told = subst (λ (r : ReadRequest). HasOutcome t r (answer_outcome a.answer)) e told;
      allowed = allowed;
      released = λ r. rw r (inl e);
    }

    by_request : (a : Answered) (n : ℕ) (gone : List ReadRequest) (r : ReadRequest) → r ≡ a.request → 1 ≤ W r + n → Told a → Allowed a → (1 ≤ n → Found gone) → Found (if_released a.request a.answer ++ gone)
    by_request a n gone (Promise q) e m told allowed more =
        ⊎_elim (λ (same : q ≡ p). first a gone (sym e ∙ ap (λ (z : PromiseId). Promise z) same) told allowed) (λ k. later (if_released a.request a.answer) gone (more k)) (other_number p q n m)
    by_request a n gone (Pipe q) e m told allowed more = later (if_released a.request a.answer) gone (more (omega (arith, m)))
    by_request a n gone (Tee q) e m told allowed more = later (if_released a.request a.answer) gone (more (omega (arith, m)))

    find : (xs : List Answered) → 1 ≤ weight_of W (requests_of xs) → All Told xs → All Allowed xs → Found (released_of xs)
    find [] n told allowed = absurd (omega (arith, n))
    find (a ∷ xs) n told allowed =
        by_request a (weight_of W (requests_of xs)) (released_of xs) a.request refl n (All-head Told a xs told) (All-head Allowed a xs allowed)
        (λ m. find xs m (All-tail Told a xs told) (All-tail Allowed a xs allowed))

    abbrev Waits : ReadRequest → Type 0
    Waits r = HasOutcome t r Pending

    find_waiting : (rs : List ReadRequest) → 1 ≤ weight_of W rs → All Waits rs → outcome_at t p ≡ Some Pending
    find_waiting [] n w = absurd (omega (arith, n))
    find_waiting (Promise q ∷ rs) n w =
        ⊎_elim (λ (e : q ≡ p). subst (λ (z : PromiseId). outcome_at t z ≡ Some Pending) e (All-head Waits (Promise q) rs w)) (λ m. find_waiting rs m (All-tail Waits (Promise q) rs w)) (other_number p q (weight_of W rs) n)
    find_waiting (Pipe q ∷ rs) n w = find_waiting rs (omega (arith, n)) (All-tail Waits (Pipe q) rs w)
    find_waiting (Tee q ∷ rs) n w = find_waiting rs (omega (arith, n)) (All-tail Waits (Tee q) rs w)

    some_outcome : (o z : Outcome) → ◌≡◌ {A = Option Outcome} (Some o) (Some z) → o ≡ z
    some_outcome o z e = cc

    module _ (room element least : ℕ) (reads : ByteReads) (o : Outcome) (is : outcome_at t p ≡ Some o) (fill : (b : List ℕ) → o ≡ Given (Bytes b) → FillRoom room element least b) where
      abbrev Reason : Outcome → Type 0
      Reason z = HasReason room element least reads x (Promise p) z

      by_answer : (w : ByteAnswer) → o ≡ answer_outcome w → Allows x w → (w ≡ Released → IsAmong (Promise p) reads.released) → Reason (answer_outcome w)
      by_answer (Gets b) e a r = (b, (refl, fill b e))
      by_answer (HandedBack b) e a r = a
      by_answer Ends e a r = a
      by_answer (Fails z) e a r = inl a
      by_answer Released e a r = inr (refl, r refl)

      answered-reason : (gone : List ReadRequest) → gone ≡ reads.released → Found gone → Reason o
      answered-reason gone g f =
          let e : o ≡ answer_outcome f.answer = some_outcome o (answer_outcome f.answer) (sym is ∙ f.told) in
          rw e (by_answer f.answer e f.allowed (λ r. rw (← g) (f.released r)))

      waiting-reason : outcome_at t p ≡ Some Pending → 1 ≤ weight_of W x.stream.requests → Reason o
      waiting-reason w n = let e : o ≡ Pending = some_outcome o Pending (sym is ∙ w) in rw e (among x.stream.requests n)

one_of : (m n : ℕ) → 1 ≤ m + n → (1 ≤ m) ⊎ (1 ≤ n)
one_of zero n e = inr (omega arith)
one_of (suc m) n e = inl (omega arith)

-- the call asks the read
call-asks : (i : StreamId) (l : LockId) (closed p : PromiseId) (room : List ℕ) (element least : ℕ) (after : List Entry) (s : Slots) → let c : Call = ReadInto l room element least in
    has_byte i s ≡ true → lock_at l s ≡ Some (ByobReader (Some i) closed) → has_least (length room) element least ≡ true → reply_to c s ≡ Named p → IsIn p (byte_asked_by_calls i (Called c ∷ after) s)
call-asks i l closed p room element least after s there lock some reply =
    let c : Call = ReadInto l room element least in
    let one : call_byte_asked i c s ≡ p ∷ [] = rw (there, some, lock, reply, is_same-refl i) refl in
    rw one (in_first p (byte_asked_by_calls i after (step s (Called c))))

pub each_read_into_gets_its_least : EachReadIntoGetsItsLeast
each_read_into_gets_its_least before after l i closed p room element least o there lock some reply is =
    let s : Slots = run before empty in
    let c : Call = ReadInto l room element least in
    let entries : List Entry = before ++ Called c ∷ after in
    let z : Slots = run entries empty in
    let same : z ≡ run (Called c ∷ after) s = run-append before (Called c ∷ after) empty in
    let bytes : has_byte i z ≡ true = ap (has_byte i) same ∙ run-byte i (Called c ∷ after) s there in
    let k : AreAnswered (run_bytes i entries empty) (run_byte_reads i entries empty) (byte_at i z) z.promises = each_byte_read_is_answered entries i bytes in
    let calls : byte_asked_by_calls i entries empty ≡ byte_asked_by_calls i before empty ++ byte_asked_by_calls i (Called c ∷ after) s = calls-append i before (Called c ∷ after) empty in
    let asked : IsIn p (promises_of (run_byte_reads i entries empty).asked) =
    subst (IsIn p) (sym (run-asks i entries empty ∙ calls)) (in_last p (byte_asked_by_calls i before empty) (byte_asked_by_calls i (Called c ∷ after) s) (call-asks i l closed p room element least after s there lock some reply)) in
    let fill : (b : List ℕ) → o ≡ Given (Bytes b) → FillRoom (length room) element least b = λ b e.
    each_room_is_whole.given before after l room element least p b reply (ap (λ (y : Slots). outcome_at y.promises p) (sym same) ∙ (is ∙ ap (λ (y : Outcome). Some y) e)) in
    let n = weighs p (run_byte_reads i entries empty).asked asked in
    let m = k.all (W p) in
    ⊎_elim
    (λ (f : 1 ≤ weight_of (W p) (requests_of k.answered)).
    answered-reason p (byte_at i z) z.promises (length room) element least (run_byte_reads i entries empty) o is fill (released_of k.answered) k.released (find p (byte_at i z) z.promises k.answered f k.told k.allowed))
    (λ (f : 1 ≤ weight_of (W p) (byte_at i z).stream.requests).
    waiting-reason p (byte_at i z) z.promises (length room) element least (run_byte_reads i entries empty) o is fill (find_waiting p (byte_at i z) z.promises (byte_at i z).stream.requests f k.waiting) f)
    (one_of (weight_of (W p) (requests_of k.answered)) (weight_of (W p) (byte_at i z).stream.requests) (omega (arith, n, m)))
