-- The promises of writes while a stream is writable or closed (`none_is_rejected_before_a_failure`): those of writes that haven't ended stand in line,
-- and a promise that is yet to be settled is open.
use Rattle.std.proofs.Common.{◌≡◌, ℕ, zero, suc, ◌+◌, ◌≤◌, Bool, true, false, inl, inr, All, List, [], ◌∷◌, ◌++◌, length, Option, Some, None, slice_get, refl, sym, ap, subst, ◌∙◌, arith}
use Rattle.std.proofs.lemmas.List.Elements.{All-nil, All-cons, All-append}
use Rattle.std.specs.Option.{option_map}
use Rattle.ws_value.specs.declared.{ids.PromiseId.{PromiseId}, ids.StreamId.{StreamId}}
use Rattle.ws_value.specs.declared.value.{Outcome.{Outcome}, Outcome.TheVariants.{Fulfilled, Pending, Given, Finished, Rejected}, Plain.TheVariants.{Undefined}}
use Rattle.ws_steps.specs.declared.effects.Effect.{Effect}
use Rattle.ws_steps.specs.declared.writable.WritableState.{WritableState}
use Rattle.ws_steps.specs.declared.writable.WritableState.TheVariants.{Writable, Erroring, Errored, Closed}
use Rattle.ws_steps.specs.Promises as promises
use Rattle.ws_steps.specs.Promises.{Table, entry_at, outcome_at, is_pending, is_open_entry}
use Rattle.ws_steps.specs.Run.{Entry, run}
use Rattle.ws_steps.specs.Slots.{Slots, Stream, WritableStream, empty, writable_at, has_writable, no_writable}
use Rattle.ws_steps.specs.Writable as writable
use Rattle.ws_steps.specs.Writable.{has_ended, is_closed}
use Rattle.ws_steps.specs.WritableHistory.{Writes, run_writes, run_promised}
use Rattle.ws_laws.proofs.Tables.{writable_there, no_writable_there}
use Rattle.ws_laws.proofs.Walker as walker
use Rattle.ws_promise_laws.proofs.Holds.{named}
use Rattle.ws_promise_laws.proofs.Realm.{in_all, in_stream}
use Rattle.ws_promise_laws.proofs.Runs.{Straight, straight-stays, straight-heard, straight-empty, none_goes_astray}
use Rattle.ws_promise_laws.proofs.Streams.{in_list}
use Rattle.ws_promise_laws.proofs.Tokens.{names_any}
use Rattle.ws_writable_laws.proofs.Runs.{resting}
use Rattle.ws_writable_laws.proofs.Shape.{Core, core_of, Told}
use Rattle.ws_write_laws.proofs.Lines.{flight, line}
use Rattle.ws_write_laws.proofs.Lined.{Lined, none_left}
use Rattle.ws_write_laws.proofs.Runs.{Both, no_both, both_then, both_told, is_history, Holds, holds-goes, holds-rests, holds_empty, along_both}
use Rattle.ws_steps.specs.Histories.{in_step, over}
use Rattle.ws_steps.specs.Run.{step, moments_in}
use Rattle.ws_end_laws.specs.ends.PassedAll.{is_failing}
use Rattle.ws_end_laws.specs.successes.Successes.{IsUnrejected, NoneIsRejectedBeforeAFailure}

-- what is to be settled is open

in_all-at : (f : Stream → ℕ) (xs : List Stream) (n : ℕ) (x : Stream) → slice_get xs n ≡ Some x → f x ≤ in_all f xs
in_all-at f [] n x e = cc
in_all-at f (y ∷ xs) zero x e = let is : y ≡ x = cc in rw is (omega arith)
in_all-at f (y ∷ xs) (suc n) x e = let k = in_all-at f xs n x e in omega arith

in_flight : (d : PromiseId) (o : Option PromiseId) → in_list d (flight o) ≤ names_any d o
in_flight d None = omega arith
in_flight d (Some p) = omega arith

in_list-append : (d : PromiseId) (xs ys : List PromiseId) → in_list d (xs ++ ys) ≡ in_list d xs + in_list d ys
in_list-append d [] ys = omega arith
in_list-append d (x ∷ xs) ys = let k = in_list-append d xs ys in omega (arith, k)

pub open-now : (o : Option promises.Entry) → is_open_entry o ≡ true → option_map (λ (e : promises.Entry). e.outcome) o ≡ Some Pending
open-now None e = absurd (cc)
open-now (Some x) e = by x.outcome refl
  where
    by : (o : Outcome) → x.outcome ≡ o → ◌≡◌ {A = Option Outcome} (Some x.outcome) (Some Pending)
    by Pending f = ap (λ (o : Outcome). Some o) f
    by (Fulfilled v) f = absurd (grind (arith, e, f))
    by (Given v) f = absurd (grind (arith, e, f))
    by (Finished v) f = absurd (grind (arith, e, f))
    by (Rejected v) f = absurd (grind (arith, e, f))

pub line-open : (i : StreamId) (d : PromiseId) (s : Slots) (es : List Effect) → Straight s es → has_writable i s ≡ true → 1 ≤ in_list d (line (core_of (writable_at i s))) → is_open_entry (entry_at s.promises d) ≡ true
line-open i d s es k h n =
    let x : writable.Slots = writable_at i s in
    let there = writable_there (slice_get s.streams i.0) h in
    let few = in_all-at (in_stream d) s.streams i.0 (WritableStream x) there in
    let both = in_list-append d (flight x.write_in_flight) x.write_requests in
    let fly = in_flight d x.write_in_flight in
    let o = k.sound.holds.once d in grind arith

pub all-open : (t : Table) (ds : List PromiseId) → ((d : PromiseId) → 1 ≤ in_list d ds → is_open_entry (entry_at t d) ≡ true) → All (IsUnrejected t) ds
all-open t [] f = All-nil (IsUnrejected t)
all-open t (d ∷ ds) f =
    let one = named d in
    All-cons (IsUnrejected t) d ds (inl (open-now (entry_at t d) (f d (omega (arith, one))))) (all-open t ds (λ e n. f e (omega (arith, n))))

pub all-map : (P Q : PromiseId → Type 0) (ds : List PromiseId) → ((d : PromiseId) → P d → Q d) → All P ds → All Q ds
all-map P Q ds f a = λ n d h. f _ (a n d h)

pub run-straight : (entries : List Entry) → Straight (run entries empty) []
run-straight entries = walker.run-stays Straight straight-stays straight-heard entries empty straight-empty

-- what is known of the writes of a stream

over_both : (i : StreamId) (xs : List Entry) (s : Slots) → over no_both both_then (in_step no_both both_then (both_told i)) xs s ≡ record { writes = run_writes i xs s; promised = run_promised i xs s }
over_both i [] s = refl
over_both i (x ∷ xs) s = rw (along_both i (moments_in s x), over_both i xs (step s x)) refl

pub run-lined : (entries : List Entry) (i : StreamId) → let h : Both = record { writes = run_writes i entries empty; promised = run_promised i entries empty } in Holds i h (run entries empty) []
run-lined entries i = subst (λ (f : Both). Holds i f (run entries empty) []) (over_both i entries empty) (walker.run-holds no_both both_then is_history (both_told i) (Holds i) (holds-goes i) (holds-rests i) entries empty (holds_empty i))

closed_all : (h : Writes) (d : _) (c : Core) → is_closed c.state ≡ true → Told h d c → h.fulfilled ≡ length h.written
closed_all h d c e t = grind (arith, e, t)

module _ (entries : List Entry) (i : StreamId) where
  abbrev s : Slots
  s = run entries empty

  k : Holds i (record { writes = run_writes i entries empty; promised = run_promised i entries empty }) s []
  k = run-lined entries i

  l : Lined (run_writes i entries empty) (run_promised i entries empty) (slice_get s.streams i.0) s.promises
  l = k.lined (none_goes_astray entries)

  fulfilled-first : All (IsUnrejected s.promises) l.first
  fulfilled-first = all-map (λ d. outcome_at s.promises d ≡ Some (Fulfilled Undefined)) (IsUnrejected s.promises) l.first (λ d e. inr e) l.fulfilled

  with_rest : All (IsUnrejected s.promises) l.rest → All (IsUnrejected s.promises) (run_promised i entries empty)
  with_rest r = subst (All (IsUnrejected s.promises)) l.split (All-append (IsUnrejected s.promises) l.first l.rest fulfilled-first r)

  no-rest : l.rest ≡ [] → All (IsUnrejected s.promises) l.rest
  no-rest e = subst (All (IsUnrejected s.promises)) (sym e) (All-nil (IsUnrejected s.promises))

  by_state : (state : WritableState) → (writable_at i s).state ≡ state → is_failing state ≡ false → All (IsUnrejected s.promises) l.rest
  by_state Writable e n = alive (has_writable i s) refl
    where
      lining : l.rest ≡ line (core_of (writable_at i s))
      lining = l.alive (ap has_ended e)

      alive : (b : Bool) → has_writable i s ≡ b → All (IsUnrejected s.promises) l.rest
      alive true h = subst (All (IsUnrejected s.promises)) (sym lining) (all-open s.promises (line (core_of (writable_at i s))) (λ d m. line-open i d s [] (run-straight entries) h m))
      alive false h =
          let none : writable_at i s ≡ no_writable = no_writable_there (slice_get s.streams i.0) h in
          let f : no_writable.state ≡ Writable = subst (λ (w : writable.Slots). w.state ≡ Writable) none e in absurd (cc)
  by_state Closed e n =
      let all : (run_writes i entries empty).fulfilled ≡ length (run_writes i entries empty).written = closed_all _ _ (core_of (writable_at i s)) (ap is_closed e) (resting i (run_writes i entries empty) s k.kept).told in
      no-rest (none_left l.first l.rest (run_promised i entries empty) l.split (l.counted ∙ (all ∙ sym l.answered)))
  by_state Erroring e n = absurd (cc)
  by_state Errored e n = absurd (cc)

pub none_is_rejected_before_a_failure : NoneIsRejectedBeforeAFailure
none_is_rejected_before_a_failure entries i n = with_rest entries i (by_state entries i (writable_at i (run entries empty)).state refl n)
