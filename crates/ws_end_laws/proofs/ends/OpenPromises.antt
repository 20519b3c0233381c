-- The promise of a pipe that isn't over is pending: it stands there to be settled.
use Rattle.std.proofs.Common.{◌≡◌, ℕ, zero, suc, ◌≤◌, Bool, true, false, not, if◌then◌else◌, List, [], ◌∷◌, Option, Some, None, slice_get, refl, ap, arith}
use Rattle.std.specs.Option.{option_map}
use Rattle.ws_value.specs.declared.{ids.PipeId.{PipeId}, ids.PromiseId.{PromiseId}}
use Rattle.ws_value.specs.declared.value.{Outcome.{Outcome}, Outcome.TheVariants.{Pending, Fulfilled, Given, Finished, Rejected}}
use Rattle.ws_steps.specs.declared.pipes.{Phase.{Phase}, Phase.TheVariants.{Flowing, Waiting, Acting, Over}}
use Rattle.ws_steps.specs.Pipes as pipe
use Rattle.ws_steps.specs.Promises as promises
use Rattle.ws_steps.specs.Promises.{Table, live, outcome_at, is_pending, is_open_entry}
use Rattle.ws_steps.specs.Run.{Entry, run}
use Rattle.ws_steps.specs.Slots.{Slots, empty}
use Rattle.ws_pipe_laws.specs.pipes.PipeHistory.{is_over}
use Rattle.ws_promise_laws.proofs.Holds.{named, shut, place_at}
use Rattle.ws_promise_laws.proofs.Realm.{Sound, in_pipes, firm_in}
use Rattle.ws_promise_laws.proofs.Runs.{run-sound}
use Rattle.ws_promise_laws.proofs.Streams.{in_pipe}
use Rattle.ws_promise_laws.proofs.Tokens.{one_if}

some_pipe : (p q : pipe.Slots) → ◌≡◌ {A = Option pipe.Slots} (Some p) (Some q) → p ≡ q
some_pipe p q e = cc

-- what stands in one pipe stands in all
pub in_pipes-few : (d : PromiseId) (ps : List pipe.Slots) (n : ℕ) (x : pipe.Slots) → slice_get ps n ≡ Some x → in_pipe d x ≤ in_pipes d ps
in_pipes-few d [] n x e = cc
in_pipes-few d (y ∷ ps) zero x e = rw (some_pipe y x e) (omega arith)
in_pipes-few d (y ∷ ps) (suc n) x e = let h = in_pipes-few d ps n x e in omega (arith, h)

-- the pipe's own promise stands in it until it is over
own-stands : (x : pipe.Slots) (phase : Phase) → phase ≡ x.phase → is_over phase ≡ false → 1 ≤ in_pipe x.promise x
own-stands x Flowing e n = let one = named x.promise in rw (← e) (omega (arith, one))
own-stands x Waiting e n = let one = named x.promise in rw (← e) (omega (arith, one))
own-stands x Acting e n = let one = named x.promise in rw (← e) (omega (arith, one))
own-stands x Over e n = cc

-- a promise that is open is pending

pending-is : (o : Outcome) → is_pending o ≡ true → o ≡ Pending
pending-is Pending e = refl
pending-is (Fulfilled v) e = cc
pending-is (Given v) e = cc
pending-is (Finished v) e = cc
pending-is (Rejected r) e = cc

open-pending : (x : Option promises.Entry) → is_open_entry x ≡ true → option_map (λ (e : promises.Entry). e.outcome) x ≡ Some Pending
open-pending None e = cc
open-pending (Some x) e = ap Some (pending-is x.outcome (left (is_pending x.outcome) x.follows e))
  where
    left : (b c : Bool) → (if b then not c else false) ≡ true → b ≡ true
    left b c e = grind arith

none_shut : (b : Bool) → one_if (not b) ≤ 0 → b ≡ true
none_shut true n = refl
none_shut false n = let m : 1 ≤ 0 = n in absurd (omega arith)

-- a promise that stands anywhere is pending
pub open-of : (d : PromiseId) (s : Slots) → Sound (λ x. 0) s → 1 ≤ firm_in d s → outcome_at s.promises d ≡ Some Pending
open-of d s k n =
    let h = k.holds.once d in
    let none : shut d s.promises ≤ 0 = omega (arith, h, n) in
    open-pending (live (place_at s.promises d)) (none_shut (is_open_entry (live (place_at s.promises d))) none)

pub stands-open : (d : PromiseId) (s : Slots) → Sound (λ x. 0) s → 1 ≤ in_pipes d s.pipes → outcome_at s.promises d ≡ Some Pending
stands-open d s k n = open-of d s k (omega (arith, n))

-- in every run
pub pipe-open : (entries : List Entry) (p : PipeId) (x : pipe.Slots) → slice_get (run entries empty).pipes p.0 ≡ Some x → is_over x.phase ≡ false
    → outcome_at (run entries empty).promises x.promise ≡ Some Pending
pipe-open entries p x e n =
    let a = own-stands x x.phase refl n in
    let b = in_pipes-few x.promise (run entries empty).pipes p.0 x e in
    stands-open x.promise (run entries empty) (run-sound entries) (omega (arith, a, b))
