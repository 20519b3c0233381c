-- The promises of the writes of a stream: those that ended well are fulfilled, and the others stand in line while the stream lives, and
-- are rejected once it has ended.
use Rattle.std.proofs.Common.{◌≡◌, zero, suc, ◌+◌, Bool, true, false, is_some, List, [], ◌∷◌, ◌++◌, length, get_or, Option, Some, None, Result, Ok, Err, refl, sym, ap, ◌∙◌, arith, append_assoc, append-nil, length-append}
use Rattle.std.proofs.lemmas.List.Elements.{All-append}
use Rattle.ws_value.specs.declared.ids.PromiseId.{PromiseId}
use Rattle.ws_value.specs.declared.ids.StreamId.{StreamId}
use Rattle.ws_value.specs.declared.value.Outcome.TheVariants.{Fulfilled}
use Rattle.ws_value.specs.declared.value.Plain.{Plain}
use Rattle.ws_value.specs.declared.value.Plain.TheVariants.{Undefined}
use Rattle.ws_value.specs.declared.value.Value.{Value}
use Rattle.ws_steps.specs.declared.writable.WritableOperation.{WritableOperation}
use Rattle.ws_steps.specs.declared.writable.WritableOperation.TheVariants as names
use Rattle.ws_steps.specs.Operations.{writable_operation}
use Rattle.ws_steps.specs.Promises.{Table, outcome_at}
use Rattle.ws_steps.specs.Writable as writable
use Rattle.ws_steps.specs.Writable.{Acts, has_ended, write_refusal}
use Rattle.ws_steps.specs.Slots.{Stream, WritableStream, as_writable}
use Rattle.ws_steps.specs.WritableHistory.{Writes, no_writes, writes_then, written_unless, fulfilled_by, operation_writes, promised_by, operation_promised}
use Rattle.ws_steps.specs.Laws.{AllFulfilled, AllRejected}
use Rattle.ws_laws.proofs.Outcomes.{Keeps}
use Rattle.ws_laws.proofs.Truth.{false_true}
use Rattle.ws_writable_laws.proofs.Shape.{core_of}
use Rattle.ws_writable_laws.proofs.Operations.{Alone, not_refused}
use Rattle.ws_write_laws.proofs.Rejecting.{rejected-keeps}
use Rattle.ws_write_laws.proofs.Lines.{flight, line, Ready, Lines, plain-lines, joined, write-lines, start-lines, write_fulfilled-lines, write_fulfils, write_failed-lines, closed-lines, close_failed-lines}

-- of the stream that stands in its place, by the history of its writes and their promises
pub record Lined (h : Writes) (promised : List PromiseId) (place : Option Stream) (t : Table) : Type 0 where
  pub answered : length promised ≡ length h.written
  pub first : List PromiseId
  pub rest : List PromiseId
  pub split : first ++ rest ≡ promised
  pub counted : length first ≡ h.fulfilled
  pub fulfilled : AllFulfilled t first
  pub alive : has_ended (as_writable place).state ≡ false → rest ≡ line (core_of (as_writable place))
  pub spent : has_ended (as_writable place).state ≡ true → is_some (as_writable place).write_in_flight ≡ false
  pub unmade : place ≡ None → rest ≡ []
  pub ended : has_ended (as_writable place).state ≡ true → AllRejected t rest

-- settled promises keep their outcomes

all_keep : (t z : Table) (ps : List PromiseId) → Keeps t z → AllFulfilled t ps → AllFulfilled z ps
all_keep t z ps k a n d h = k.outcome (get_or ps n d) (Fulfilled Undefined) refl (a n d h)

rejected_keep : (t z : Table) (ps : List PromiseId) → Keeps t z → AllRejected t ps → AllRejected z ps
rejected_keep t z ps k a n d h = rejected-keeps t z (get_or ps n d) k (a n d h)

pub lined-later : (h : Writes) (q : List PromiseId) (old new : Option Stream) (t z : Table) → as_writable new ≡ as_writable old → (new ≡ None → old ≡ None) → Keeps t z → Lined h q old t → Lined h q new z
lined-later h q old new t z same there k l = record {
  answered = l.answered;
  first = l.first;
  rest = l.rest;
  split = l.split;
  counted = l.counted;
  fulfilled = all_keep t z l.first k l.fulfilled;
  alive = rw same l.alive;
  spent = rw same l.spent;
  unmade = λ e. l.unmade (there e);
  ended = rw same (λ e. rejected_keep t z l.rest k (l.ended e));
}

-- an operation of the stream

-- what is counted anew
record Counted (h : Writes) (promised first rest : List PromiseId) : Type 0 where
  pub answered : length promised ≡ length h.written
  pub split : first ++ rest ≡ promised
  pub counted : length first ≡ h.fulfilled

some_none : {A : Type 0} {x : A} → ◌≡◌ {A = Option A} (Some x) None → ⊥
some_none e = cc

after_ended : (had : Bool) (rest : List PromiseId) (b : Acts) → Lines had rest b → b.out.promises.astray ≡ false → (had ≡ true → AllRejected b.out.promises rest) → has_ended b.slots.state ≡ true → AllRejected b.out.promises rest
after_ended true rest b l straight was e = was refl
after_ended false rest b l straight was e = l.failed refl e straight

lined-next : (h : Writes) (q first rest : List PromiseId) (had : Bool) (b : Acts) → Counted h q first rest → AllFulfilled b.out.promises first → Lines had rest b → b.out.promises.astray ≡ false → (had ≡ true → AllRejected b.out.promises rest)
    → Lined h q (Some (WritableStream b.slots)) b.out.promises
lined-next h q first rest had b c fulfilled l straight was = let e = after_ended had rest b l straight was in grind arith

-- nothing is written and no write ends well
same_count : (h f : Writes) (q first rest : List PromiseId) → f.written ≡ [] → f.fulfilled ≡ 0 → Counted h q first rest → Counted (writes_then h f) (q ++ []) first rest
same_count h f q first rest w n c = record {
  answered = rw (append-nil q, w, append-nil h.written) c.answered;
  split = rw (append-nil q) c.split;
  counted = let a = c.counted in omega arith;
}

-- no write is left where as many ended well as there are
pub none_left : (first rest promised : List PromiseId) → first ++ rest ≡ promised → length first ≡ length promised → rest ≡ []
none_left first [] promised e n = refl
none_left first (p ∷ rest) promised e n =
    let m : length promised ≡ length first + suc (length rest) = ap length (sym e) ∙ length-append first (p ∷ rest) in
    absurd (omega arith)

all_one : (t : Table) (p : PromiseId) → outcome_at t p ≡ Some (Fulfilled Undefined) → AllFulfilled t (p ∷ [])
all_one t p h zero d n = h
all_one t p h (suc k) d n = absurd (omega arith)

-- what is known where an operation is performed
abbrev pub Knows : Writes → WritableOperation → writable.Slots → Type 0
Knows h (names.StartSettled o) w = (is_some w.write_in_flight ≡ false) × (has_ended w.state ≡ true → w.queue ≡ [])
Knows h (names.WriteSettled o) w = (is_some w.write_in_flight ≡ true) × Alone (record (core_of w) { flying = None; writing = false })
Knows h (names.CloseSettled o) w = (is_some w.write_in_flight ≡ false) × (h.fulfilled ≡ length h.written)
Knows h _ w = Unit {0}

module _ (i : StreamId) (h : Writes) (q : List PromiseId) (a : Acts) (l : Lined h q (Some (WritableStream a.slots)) a.out.promises) where
  abbrev had : Bool
  had = has_ended a.slots.state

  -- what is to be shown of an operation by which this happens
  abbrev Next : Writes → List PromiseId → Acts → Type 0
  Next f ps b = Lined (writes_then h f) (q ++ ps) (Some (WritableStream b.slots)) b.out.promises

  stands : Ready had l.rest (core_of a.slots)
  stands = record { same = refl; line = λ e. sym (l.alive e); spent = l.spent }

  -- the same stand in line, or are rejected
  still : (f : Writes) (b : Acts) → f.written ≡ [] → f.fulfilled ≡ 0 → Keeps a.out.promises b.out.promises → b.out.promises.astray ≡ false → Lines had l.rest b → Next f [] b
  still f b w n k straight ls =
      lined-next (writes_then h f) (q ++ []) l.first l.rest had b
      (same_count h f q l.first l.rest w n (record { answered = l.answered; split = l.split; counted = l.counted })) (all_keep a.out.promises b.out.promises l.first k l.fulfilled) ls straight
      (λ e. rejected_keep a.out.promises b.out.promises l.rest k (l.ended e))

  wrote : (v : Value) (p : PromiseId) (b : Acts) (refusal : Option Plain) → refusal ≡ write_refusal a.slots → Keeps a.out.promises b.out.promises → b.out.promises.astray ≡ false → Lines had (joined l.rest p refusal) b
      → Next (record no_writes { written = written_unless v refusal }) (promised_by (written_unless v refusal) p) b
  wrote v p b (Some e) r k straight ls = still (record no_writes { written = [] }) b refl refl k straight ls
  wrote v p b None r k straight ls =
      let alive : had ≡ false = ap has_ended (not_refused a.slots r).0 in
      lined-next (writes_then h (record no_writes { written = v ∷ [] })) (q ++ p ∷ []) l.first (l.rest ++ p ∷ []) had b
      (record {
        answered = let n = l.answered in omega (arith, length-append q (p ∷ []), length-append h.written (v ∷ []));
        split = sym (append_assoc l.first l.rest (p ∷ [])) ∙ ap (λ (ps : List PromiseId). ps ++ p ∷ []) l.split;
        counted = let n = l.counted in omega arith;
      })
      (all_keep a.out.promises b.out.promises l.first k l.fulfilled) ls straight (λ e. false_true had e alive)

  -- the write in flight, of a stream that lives
  flying : is_some a.slots.write_in_flight ≡ true → had ≡ false
  flying e = by had refl
    where
      by : (b : Bool) → b ≡ had → had ≡ false
      by false f = sym f
      by true f = false_true (is_some a.slots.write_in_flight) e (l.spent (sym f))

  first_in_line : (p : PromiseId) → had ≡ false → a.slots.write_in_flight ≡ Some p → l.rest ≡ p ∷ a.slots.write_requests
  first_in_line p alive e = l.alive alive ∙ ap (λ (x : Option PromiseId). flight x ++ a.slots.write_requests) e

  front : (p : PromiseId) → had ≡ false → a.slots.write_in_flight ≡ Some p → Ready false (p ∷ a.slots.write_requests) (core_of a.slots)
  front p alive e = record { same = alive; line = λ f. ap (λ (x : Option PromiseId). flight x ++ a.slots.write_requests) e; spent = λ f. cc }

  write_ended-lined : (p : PromiseId) (o : Result Plain Plain) → a.slots.write_in_flight ≡ Some p → Alone (record (core_of a.slots) { flying = None; writing = false }) → Keeps a.out.promises (writable.write_settled i o a).out.promises
      → (writable.write_settled i o a).out.promises.astray ≡ false → Next (record no_writes { fulfilled = fulfilled_by o a.slots }) [] (writable.write_settled i o a)
  write_ended-lined p (Ok v) e alone k straight =
      let b : Acts = writable.write_settled i (Ok v) a in
      let alive : had ≡ false = flying (rw e refl) in
      let rest = first_in_line p alive e in
      let one : fulfilled_by (Ok v) a.slots ≡ 1 = rw e refl in
      lined-next (writes_then h (record no_writes { fulfilled = fulfilled_by (Ok v) a.slots })) (q ++ []) (l.first ++ p ∷ []) a.slots.write_requests false b
      (record {
        answered = rw (append-nil q, append-nil h.written) l.answered;
        split = append_assoc l.first (p ∷ []) a.slots.write_requests ∙ (ap (λ (ps : List PromiseId). l.first ++ ps) (sym rest) ∙ (l.split ∙ sym (append-nil q)));
        counted = let n = l.counted in omega (arith, length-append l.first (p ∷ []));
      })
      (All-append (λ p. outcome_at b.out.promises p ≡ Some (Fulfilled Undefined)) l.first (p ∷ []) (all_keep a.out.promises b.out.promises l.first k l.fulfilled) (all_one b.out.promises p (write_fulfils i p v a e straight)))
      (write_fulfilled-lines i a.slots.write_requests p v a e (front p alive e)) straight (λ f. cc)
  write_ended-lined p (Err r) e alone k straight =
      let b : Acts = writable.write_settled i (Err r) a in
      let alive : had ≡ false = flying (rw e refl) in
      still (record no_writes { fulfilled = 0 }) b refl refl k straight
      (rw (alive, first_in_line p alive e) (write_failed-lines i a.slots.write_requests p r a e alone (front p alive e)))

  some_there : (o : Option PromiseId) → is_some o ≡ true → (p : PromiseId) × (o ≡ Some p)
  some_there None e = absurd (cc)
  some_there (Some p) e = (p, refl)

  close-lines : (o : Result Plain Plain) → is_some a.slots.write_in_flight ≡ false → h.fulfilled ≡ length h.written → Lines had l.rest (writable.close_settled i o a)
  close-lines (Ok v) idle whole = closed-lines i had l.rest v a idle (none_left l.first l.rest q l.split (l.counted ∙ (whole ∙ sym l.answered)))
  close-lines (Err e) idle whole = close_failed-lines i had l.rest e a idle stands

  pub operation-lined : (operation : WritableOperation) → Knows h operation a.slots → Keeps a.out.promises (writable_operation i operation a).out.promises → (writable_operation i operation a).out.promises.astray ≡ false
      → Next (operation_writes operation a.slots) (operation_promised operation a.slots) (writable_operation i operation a)
  operation-lined (names.Write v p) n k straight = wrote v p (writable.writer_write i v p a) (write_refusal a.slots) refl k straight (write-lines i had l.rest v p a stands)
  operation-lined (names.StartSettled o) n k straight = still no_writes (writable.start_settled i o a) refl refl k straight (start-lines i had l.rest o a n.0 n.1 stands)
  operation-lined (names.WriteSettled o) n k straight = let p = some_there a.slots.write_in_flight n.0 in write_ended-lined p.0 o p.1 n.1 k straight
  operation-lined (names.CloseSettled o) n k straight = still no_writes (writable.close_settled i o a) refl refl k straight (close-lines o n.0 n.1)
  operation-lined operation n k straight = still _ (writable_operation i operation a) refl refl k straight (plain-lines i operation had l.rest a tt stands)
