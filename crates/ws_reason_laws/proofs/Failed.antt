-- What follows for runs in which no reason came through a transform stream.
use Rattle.std.proofs.Common.{◌≡◌, Bool, true, false, ◌||◌, List, [], ◌∷◌, ◌++◌, Option, Some, Contains, refl, sym, subst, ◌∙◌, arith}
use Rattle.ws_value.specs.declared.ids.PromiseId.{PromiseId}
use Rattle.ws_value.specs.declared.ids.SignalId.{SignalId}
use Rattle.ws_value.specs.declared.ids.StreamId.{StreamId}
use Rattle.ws_value.specs.declared.value.Outcome.TheVariants.{Rejected}
use Rattle.ws_value.specs.declared.value.Plain.{Plain}
use Rattle.ws_steps.specs.declared.calls.Call.{Call}
use Rattle.ws_steps.specs.declared.calls.Call.TheVariants.{Pipe}
use Rattle.ws_steps.specs.declared.calls.Reply.TheVariants.{Promise}
use Rattle.ws_steps.specs.declared.pipes.Prevent.{Prevent}
use Rattle.ws_steps.specs.Cross.{data_clone}
use Rattle.ws_steps.specs.Effects.{type_error}
use Rattle.ws_steps.specs.Promises.{outcome_at}
use Rattle.ws_steps.specs.Run.{Entry, Called, Worked, Heard, run, reply_to}
use Rattle.ws_steps.specs.Slots.{Slots, empty, source_at, writable_at}
use Rattle.ws_reason_laws.specs.Origins.{through, by_ports, origins}
use Rattle.ws_reason_laws.specs.Reasons.{reason_of, given, failure_of, failures, cancel_of, cancels, IsFree, EachReasonWasGiven, EachReasonWasAFailure, EachStoredErrorWasAFailure, BringsNothing, NeedsTee, NeedsPort}
use Rattle.ws_reason_laws.specs.Uncloned.{run_uncloned}
use Rattle.ws_reason_laws.proofs.Among.{same_reason, reason_same, is_among, among_contained, contained_among}
use Rattle.ws_reason_laws.proofs.Brought.{among-append, through-among, none-through, through-erred, erred-among}
use Rattle.ws_reason_laws.proofs.Given.{reason-has-an-origin}
use Rattle.ws_reason_laws.proofs.Stored.{stored-error-has-an-origin}

-- what a run gave

given-call : (r : Plain) (c : Call) → (is_among r (failure_of c) || is_among r (cancel_of c)) ≡ is_among r (reason_of c)
given-call r c = grind arith

given-both : (a b c d e f : Bool) → (a || c) ≡ e → (b || d) ≡ f → ((a || b) || (c || d)) ≡ (e || f)
given-both a b c d e f g h = grind (arith, g, h)

given-run : (r : Plain) (xs : List Entry) → (is_among r (failures xs) || is_among r (cancels xs)) ≡ is_among r (given xs)
given-run r [] = refl
given-run r (Called c ∷ xs) =
    let b = among-append r (failure_of c) (failures xs) in
    let d = among-append r (cancel_of c) (cancels xs) in
    let e = among-append r (reason_of c) (given xs) in
    rw (b, d, e) (given-both (is_among r (failure_of c)) (is_among r (failures xs)) (is_among r (cancel_of c)) (is_among r (cancels xs)) (is_among r (reason_of c)) (is_among r (given xs)) (given-call r c) (given-run r xs))
given-run r (Worked ∷ xs) = given-run r xs
given-run r (Heard ∷ xs) = given-run r xs

module _ (entries : List Entry) (r : Plain) where
  -- no port brought it
  none-ported : NeedsPort r entries → is_among r (by_ports (run_uncloned entries empty)) ≡ false
  none-ported need = by (run_uncloned entries empty) need (same_reason data_clone r) refl
    where
      by : (given : Bool) → (r ≡ data_clone → given ≡ false) → (b : Bool) → same_reason data_clone r ≡ b → is_among r (by_ports given) ≡ false
      by false need b e = refl
      by true need true e = let n = need (sym (reason_same data_clone r e)) in cc
      by true need false e = rw e refl

  -- an origin is a failure, or came through a transform stream
  pub origin-either : NeedsPort r entries → Contains (origins entries) r → (is_among r (failures entries) || is_among r (through entries empty)) ≡ true
  origin-either need c =
      let a = among-append r (failures entries) (through entries empty ++ by_ports (run_uncloned entries empty)) in
      let b = among-append r (through entries empty) (by_ports (run_uncloned entries empty)) in
      let d = none-ported need in
      either_of _ _ _ _ (sym a ∙ contained_among r (origins entries) c) b d
    where
      either_of : (a b c d : Bool) → (a || d) ≡ true → d ≡ (b || c) → c ≡ false → (a || b) ≡ true
      either_of a b c d h e f = grind (arith, h, e, f)

  -- where none did
  none-brought : BringsNothing entries → is_among r (through entries empty) ≡ false
  none-brought n = rw (none-through entries n) refl

  -- where there is no transform stream, what came in is a TypeError
  brought-error : (run entries empty).transforms ≡ [] → is_among r (through entries empty) ≡ true → same_reason type_error r ≡ true
  brought-error n e = erred-among r entries empty (rw (through-erred entries n) at e)

  -- it is a failure, where only one that wasn't brought in is meant
  pub was-failure : (Contains (cancels entries) r → (run entries empty).transforms ≡ []) → (r ≡ type_error → BringsNothing entries) → NeedsPort r entries → Contains (origins entries) r → Contains (failures entries) r
  was-failure but nor need c = by (is_among r (through entries empty)) refl (same_reason type_error r) refl
    where
      by : (b : Bool) → is_among r (through entries empty) ≡ b → (d : Bool) → same_reason type_error r ≡ d → Contains (failures entries) r
      by false e d f = let o = origin-either need c in let h : is_among r (failures entries) ≡ true = grind (arith, o, e) in among_contained r (failures entries) h
      by true e true f = let n = none-brought (nor (sym (reason_same type_error r f))) in cc
      by true e false f =
          let o = through-among r entries empty e in
          let h : is_among r (cancels entries) ≡ true = grind (arith, o, f) in
          let g = brought-error (but (among_contained r (cancels entries) h)) e in
          cc

  pub was-given : (r ≡ type_error → BringsNothing entries) → NeedsPort r entries → Contains (origins entries) r → Contains (given entries) r
  was-given but need c = by (is_among r (through entries empty)) refl (same_reason type_error r) refl
    where
      g : (is_among r (failures entries) || is_among r (cancels entries)) ≡ true → Contains (given entries) r
      g h = among_contained r (given entries) (subst (λ (b : Bool). b ≡ true) (given-run r entries) h)

      by : (b : Bool) → is_among r (through entries empty) ≡ b → (d : Bool) → same_reason type_error r ≡ d → Contains (given entries) r
      by false e d f = let o = origin-either need c in g (grind (arith, o, e))
      by true e false f = let o = through-among r entries empty e in g (grind (arith, o, f))
      by true e true f = let n = none-brought (but (sym (reason_same type_error r f))) in cc

-- between free ends
pub free-origin : (opening xs : List Entry) (i j : StreamId) (prevent : Prevent) (signal : Option SignalId) (q : PromiseId) (r : Plain) → let s : Slots = run opening empty in
    let entries : List Entry = opening ++ Called (Pipe i j prevent signal) ∷ xs in IsFree i j s → reply_to (Pipe i j prevent signal) s ≡ Promise q → NeedsTee r entries
    → outcome_at (run entries empty).promises q ≡ Some (Rejected r) → Contains (origins entries) r
free-origin opening xs i j prevent signal q r free reply need out =
    reason-has-an-origin opening xs i j prevent signal q r
    (record { source = free.source; dest = free.dest; source_unlocked = free.source_unlocked; dest_unlocked = free.dest_unlocked }) reply
    (λ e. record { closing = free.not_closing; closed = free.not_closed }) need out

pub reason-was-a-failure : EachReasonWasAFailure
reason-was-a-failure opening xs i j prevent signal q r free reply but nor need port out =
    was-failure (opening ++ Called (Pipe i j prevent signal) ∷ xs) r but nor port (free-origin opening xs i j prevent signal q r free reply need out)

pub reason-was-given : EachReasonWasGiven
reason-was-given opening xs i j prevent signal q r free reply but need port out =
    was-given (opening ++ Called (Pipe i j prevent signal) ∷ xs) r but port (free-origin opening xs i j prevent signal q r free reply need out)

pub stored-error-was-a-failure : EachStoredErrorWasAFailure
stored-error-was-a-failure = record {
  readable = λ entries i but nor need port e. was-failure entries (source_at i (run entries empty)).stored_error but nor port (stored-error-has-an-origin.readable entries i need e);
  writable = λ entries i but nor need port e. was-failure entries (writable_at i (run entries empty)).stored_error but nor port (stored-error-has-an-origin.writable entries i need e);
}
