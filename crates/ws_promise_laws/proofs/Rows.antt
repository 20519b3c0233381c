-- Each effect settles and resolves open promises alone.
use Rattle.std.proofs.Common.{◌≡◌, ℕ, ◌+◌, ◌≤◌, List, [], ◌∷◌, ◌++◌, Option, Some, None, Result, Err, arith, length, refl, false, slice_get}
use Rattle.ws_value.specs.declared.ids.PipeId.{PipeId}
use Rattle.ws_value.specs.declared.ids.PromiseId.{PromiseId}
use Rattle.ws_value.specs.declared.ids.SignalId.{SignalId}
use Rattle.ws_value.specs.declared.ids.StreamId.{StreamId}
use Rattle.ws_value.specs.declared.value.Outcome.{Outcome}
use Rattle.ws_value.specs.declared.value.Outcome.TheVariants.{Given, Finished}
use Rattle.ws_value.specs.declared.value.Plain.{Plain}
use Rattle.ws_value.specs.declared.value.Plain.TheVariants.{Undefined}
use Rattle.ws_value.specs.declared.value.Value.{Value}
use Rattle.ws_value.specs.declared.value.Value.TheVariants.{Plain as PlainValue, Bytes}
use Rattle.ws_steps.specs.declared.{calls.Event.TheVariants.{Host as HostCalled}, calls.HostCall.{HostCall}, calls.StartBy.{StartBy}, calls.StartBy.TheVariants.{Now, Later}}
use Rattle.ws_steps.specs.declared.effects.Effect.{Effect}
use Rattle.ws_steps.specs.declared.effects.Effect.TheVariants.{Readable, Writable, Pipe, Signal, Transform, Tee, Port, StartAlgorithm, PullAlgorithm, CancelAlgorithm, WriteAlgorithm, CloseAlgorithm, AbortAlgorithm, ChunkSteps, CloseSteps, ErrorSteps, Give, Settle, Queue, CallHost}
use Rattle.ws_steps.specs.declared.{effects.Gift.{Gift}, effects.Gift.TheVariants.{This, Fresh}, effects.Owner.{Owner}, effects.Owner.TheVariants.{Host, HalfOf, BranchOf, EndOf}, effects.Use.{Use}}
use Rattle.ws_steps.specs.declared.{effects.Use.TheVariants.{React, Resolve}, promises.Step.{Step}}
use Rattle.ws_steps.specs.declared.{promises.Step.TheVariants.{ReadablePull, ReturnUndefined, WritableClose, WritableAbort}, readable.ReadRequest.{ReadRequest}, readable.ReadRequest.TheVariants.{Promise, Pipe as PipeRequest, Tee as TeeRequest}, pipes.SignalOperation.{SignalOperation}}
use Rattle.ws_steps.specs.Promises.{Table, next_id, fresh, fresh_settled, settle, answer, tell, use_this, use_gift, queue_micro, is_pending}
use Rattle.ws_steps.specs.Operations.{signal_operation}
use Rattle.ws_steps.specs.Pipes as pipe
use Rattle.ws_steps.specs.Pipes.{abort_all}
use Rattle.ws_steps.specs.Slots.{Slots, on_signal_at, with_promises, owner_at, writable_at}
use Rattle.ws_steps.specs.Turns.{row, chunk_steps, close_steps, error_steps, call_host, start_algorithm, pull_algorithm, cancel_algorithm, write_algorithm, close_algorithm, abort_algorithm}
use Rattle.ws_promise_laws.proofs.Following.{holds-follow}
use Rattle.ws_promise_laws.proofs.Holds.{Holds, holds-less}
use Rattle.ws_promise_laws.proofs.Piping.{PipeExpects}
use Rattle.ws_promise_laws.proofs.Settling.{holds-fresh, holds-fresh_settled}
use Rattle.ws_promise_laws.proofs.Reacting.{holds-react, holds-told, holds-micro}
use Rattle.ws_promise_laws.proofs.Realm.{Sound, Leaves, sound-less, in_hosts, firm_in, loosely_in, on_source-sound, on_byte-sound, on_writable-sound, on_pipe-sound, on_transform-sound, on_tee-sound, on_port-sound}
use Rattle.ws_promise_laws.proofs.Settling.{holds-settle, holds-answer}
use Rattle.ws_promise_laws.proofs.Tokens.{names, of_request, of_use, of_effect, in_effects, in_step}
use Rattle.ws_promise_laws.proofs.WritableAsks.{Expects}
use Rattle.ws_steps.specs.Turns.{close_steps_with}
use Rattle.ws_steps.specs.declared.effects.Effect.TheVariants.{Byte, CloseStepsWith}

-- what is to be known before an effect
abbrev pub Expected : Effect → Slots → Type 0
Expected (Writable i operation) s = Expects operation (writable_at i s)
Expected (Pipe p operation) s = PipeExpects operation (slice_get s.pipes p.0)
Expected _ s = Unit {0}

-- the promises alone change

pub sound-promises : (f g : PromiseId → ℕ) (s : Slots) (t : Table)
    → ((h : PromiseId → ℕ) → Holds (λ x. f x + h x) (loosely_in s) s.promises → Holds (λ x. g x + h x) (loosely_in s) t) → Sound f s → Sound g (with_promises t s)
sound-promises f g s t n k = record { holds = n (λ x. firm_in x s) k.holds; calm = k.calm }

settle-sound : (f : PromiseId → ℕ) (p : PromiseId) (o : Result Plain Plain) (s : Slots) → Sound (λ x. f x + names x p) s → Sound (λ x. f x + 0) (with_promises (settle p o s.promises) s)
settle-sound f p o s k =
    sound-promises (λ x. f x + names x p) (λ x. f x + 0) s (settle p o s.promises)
    (λ h k. holds-settle (λ x. (f x + names x p) + h x) (loosely_in s) (λ x. (f x + 0) + h x) (loosely_in s) p o s.promises k (λ x. omega arith) (λ x. omega arith)) k

answer-sound : (f : PromiseId → ℕ) (p : PromiseId) (o : Outcome) (s : Slots) → is_pending o ≡ false → Sound (λ x. f x + names x p) s → Sound (λ x. f x + 0) (with_promises (answer p o s.promises) s)
answer-sound f p o s n k =
    sound-promises (λ x. f x + names x p) (λ x. f x + 0) s (answer p o s.promises)
    (λ h k. holds-answer (λ x. (f x + names x p) + h x) (loosely_in s) (λ x. (f x + 0) + h x) (loosely_in s) p o s.promises n k (λ x. omega arith) (λ x. omega arith)) k

-- a promise that an algorithm gives

holds-use : (f l g : PromiseId → ℕ) (p : PromiseId) (t : Table) (u : Use) → Holds f l t → ((x : PromiseId) → g x + of_use x u ≤ f x) → Holds g l (use_this p t u)
holds-use f l g p t (React step derived) k n = holds-react f l g p step derived t k n
holds-use f l g p t (Resolve q) k n = holds-follow f l g q p t k n

holds-gift : (f l g : PromiseId → ℕ) (gift : Gift) (u : Use) (t : Table) → Holds f l t → ((x : PromiseId) → g x + of_use x u ≤ f x) → Holds g l (use_gift gift u t)
unfolding use_gift
holds-gift f l g (This p) u t k n = holds-use f l g p t u k n
holds-gift f l g (Fresh o) u t k n =
    holds-use f l g (next_id t) (fresh_settled o t) u (holds-fresh_settled f l f l o t k (λ x. omega arith) (λ x. omega arith)) n

-- a call of a host's algorithm makes a promise, which the host settles

in_hosts-append : (x : PromiseId) (hs : List (Option PromiseId)) (p : PromiseId) → in_hosts x (hs ++ Some p ∷ []) ≡ in_hosts x hs + names x p
in_hosts-append x [] p = omega arith
in_hosts-append x (h ∷ hs) p = let n = in_hosts-append x hs p in omega arith

call_host-sound : (f : PromiseId → ℕ) (call : HostCall) (u : Use) (s : Slots) → Sound (λ x. f x + of_use x u) s → Sound (λ x. f x + 0) (call_host call u s)
unfolding call_host
call_host-sound f call u s k =
    let p : PromiseId = next_id s.promises in
    let e = HostCalled (record { 0 = length s.hosts }) call in
    let g : PromiseId → ℕ = λ x. ((f x + of_use x u) + firm_in x s) + names x p in
    let made : Holds g (loosely_in s) (fresh s.promises) =
    holds-fresh (λ x. (f x + of_use x u) + firm_in x s) (loosely_in s) g (loosely_in s) s.promises k.holds (λ x. omega arith) (λ x. omega arith) in
    record {
      holds =
          holds-use g (loosely_in s) _ p (tell e (fresh s.promises)) u (holds-told g (loosely_in s) _ (fresh s.promises) made)
          (λ x. let n = in_hosts-append x s.hosts p in omega arith);
      calm = k.calm;
    }

-- what the algorithms cause, by whose they are

pulls : (x : PromiseId) (i : StreamId) (u : Use) (owner : Owner) → in_effects x (pull_algorithm i u owner) ≡ of_use x u + 0
pulls x i u Host = refl
pulls x i u (HalfOf t) = refl
pulls x i u (BranchOf t half) = omega arith
pulls x i u (EndOf c) = omega arith

cancels : (x : PromiseId) (i : StreamId) (r : Plain) (u : Use) (owner : Owner) → in_effects x (cancel_algorithm i r u owner) ≡ of_use x u + 0
cancels x i r u Host = refl
cancels x i r u (HalfOf t) = refl
cancels x i r u (BranchOf t half) = refl
cancels x i r u (EndOf c) = refl

hands_on : (x : PromiseId) (i : StreamId) (owner : Owner) → in_effects x (write_algorithm i owner) ≡ 0
hands_on x i Host = refl
hands_on x i (HalfOf t) = refl
hands_on x i (BranchOf t half) = refl
hands_on x i (EndOf c) = refl

closes : (x : PromiseId) (i : StreamId) (u : Use) (owner : Owner) → in_effects x (close_algorithm i u owner) ≡ of_use x u + 0
closes x i u Host = refl
closes x i u (HalfOf t) = refl
closes x i u (BranchOf t half) = refl
closes x i u (EndOf c) = refl

aborts : (x : PromiseId) (i : StreamId) (r : Plain) (u : Use) (owner : Owner) → in_effects x (abort_algorithm i r u owner) ≡ of_use x u + 0
aborts x i r u Host = refl
aborts x i r u (HalfOf t) = refl
aborts x i r u (BranchOf t half) = refl
aborts x i r u (EndOf c) = refl

started-sound : (f : PromiseId → ℕ) (i : StreamId) (step : Step) (s : Slots) (start : StartBy) → Sound (λ x. f x + of_effect x (StartAlgorithm i step start)) s → Leaves f (start_algorithm i step s start)
started-sound f i step s Now k = sound-less (λ x. f x + in_step x step) (λ x. f x + ((in_step x step + 0) + 0)) s (λ x. omega arith) k
started-sound f i step s Later k =
    let p : PromiseId = next_id s.promises in
    sound-promises (λ x. f x + in_step x step) (λ x. f x + (names x p + ((in_step x step + 0) + 0))) s (fresh s.promises)
    (λ h k. holds-fresh (λ x. (f x + in_step x step) + h x) (loosely_in s) (λ x. (f x + (names x p + ((in_step x step + 0) + 0))) + h x) (loosely_in s) s.promises k (λ x. omega arith) (λ x. omega arith)) k

-- signals

in_aborts : (x : PromiseId) (r : Plain) (ps : List PipeId) → in_effects x (abort_all r ps) ≡ 0
in_aborts x r [] = refl
in_aborts x r (p ∷ ps) = let n = in_aborts x r ps in omega (arith, n)

in_signal : (x : PromiseId) (operation : SignalOperation) (y : pipe.Signal) → in_effects x (signal_operation operation y).effects ≡ 0
in_signal x operation y = grind (arith, in_aborts)

signal-sound : (f : PromiseId → ℕ) (a : SignalId) (operation : SignalOperation) (s : Slots) (o : Option pipe.Signal) → Sound (λ x. f x + 0) s → Leaves f (on_signal_at (signal_operation operation) a s o)
signal-sound f a operation s None k = k
signal-sound f a operation s (Some y) k = record {
  holds =
      holds-less (λ x. (f x + 0) + firm_in x s) (loosely_in s) _ (loosely_in s) s.promises k.holds
      (λ x. let n = in_signal x operation y in omega (arith, n)) (λ x. let n = in_signal x operation y in omega (arith, n));
  calm = k.calm;
}

-- the steps of a read request

chunk-sound : (f : PromiseId → ℕ) (v : Value) (s : Slots) (request : ReadRequest) → Sound (λ x. f x + of_request x request) s → Leaves f (chunk_steps v s request)
chunk-sound f v s (Promise p) k = answer-sound f p (Given v) s refl k
chunk-sound f v s (PipeRequest p) k = k
chunk-sound f v s (TeeRequest t) k = k

close-sound : (f : PromiseId → ℕ) (s : Slots) (request : ReadRequest) → Sound (λ x. f x + of_request x request) s → Leaves f (close_steps s request)
close-sound f s (Promise p) k = answer-sound f p (Finished (PlainValue Undefined)) s refl k
close-sound f s (PipeRequest p) k = k
close-sound f s (TeeRequest t) k = k

close_with-sound : (f : PromiseId → ℕ) (b : List ℕ) (s : Slots) (request : ReadRequest) → Sound (λ x. f x + of_request x request) s → Leaves f (close_steps_with b s request)
close_with-sound f b s (Promise p) k = answer-sound f p (Finished (Bytes b)) s refl k
close_with-sound f b s (PipeRequest p) k = k
close_with-sound f b s (TeeRequest t) k = k

error-sound : (f : PromiseId → ℕ) (e : Plain) (s : Slots) (request : ReadRequest) → Sound (λ x. f x + of_request x request) s → Leaves f (error_steps e s request)
error-sound f e s (Promise p) k = settle-sound f p (Err e) s k
error-sound f e s (PipeRequest p) k = k
error-sound f e s (TeeRequest t) k = k

pub row-sound : (f : PromiseId → ℕ) (e : Effect) (s : Slots) → Expected e s → Sound (λ x. f x + of_effect x e) s → Leaves f (row e s)
unfolding row
row-sound f (Readable i operation) s e k = on_source-sound f i operation s k
row-sound f (Byte i operation) s e k = on_byte-sound f i operation s k
row-sound f (Writable i operation) s e k = on_writable-sound f i operation s e k
row-sound f (Pipe p operation) s e k = on_pipe-sound f p operation s (slice_get s.pipes p.0) refl e k
row-sound f (Signal a operation) s e k = signal-sound f a operation s (slice_get s.signals a.0) k
row-sound f (Transform t operation) s e k = on_transform-sound f t operation s (slice_get s.transforms t.0) refl k
row-sound f (Tee t operation) s e k = on_tee-sound f t operation s (slice_get s.tees t.0) refl k
row-sound f (Port c operation) s e k = on_port-sound f c operation s (slice_get s.ports c.0) refl k
row-sound f (StartAlgorithm i step start) s e k = started-sound f i step s start k
row-sound f (PullAlgorithm i) s e k = sound-less (λ x. f x + 0) _ s (λ x. let n = pulls x i (React (ReadablePull i) None) (owner_at i s) in omega arith) k
row-sound f (CancelAlgorithm i r p) s e k = sound-less (λ x. f x + names x p) _ s (λ x. let n = cancels x i r (React ReturnUndefined (Some p)) (owner_at i s) in omega arith) k
row-sound f (WriteAlgorithm i) s e k = sound-less (λ x. f x + 0) _ s (λ x. let n = hands_on x i (owner_at i s) in omega arith) k
row-sound f (CloseAlgorithm i) s e k = sound-less (λ x. f x + 0) _ s (λ x. let n = closes x i (React (WritableClose i) None) (owner_at i s) in omega arith) k
row-sound f (AbortAlgorithm i r p) s e k = sound-less (λ x. f x + names x p) _ s (λ x. let n = aborts x i r (React (WritableAbort i p) None) (owner_at i s) in omega arith) k
row-sound f (ChunkSteps i request v) s e k = chunk-sound f v s request k
row-sound f (CloseSteps i request) s e k = close-sound f s request k
row-sound f (CloseStepsWith i request b) s e k = close_with-sound f b s request k
row-sound f (ErrorSteps i request r) s e k = error-sound f r s request k
row-sound f (Give gift u) s e k =
    sound-promises (λ x. f x + of_use x u) (λ x. f x + 0) s (use_gift gift u s.promises)
    (λ h k. holds-gift (λ x. (f x + of_use x u) + h x) (loosely_in s) (λ x. (f x + 0) + h x) gift u s.promises k (λ x. omega arith)) k
row-sound f (Settle p o) s e k = settle-sound f p o s k
row-sound f (Queue m) s e k = sound-promises (λ x. f x + 0) (λ x. f x + 0) s (queue_micro m s.promises) (λ h k. holds-micro (λ x. (f x + 0) + h x) (loosely_in s) m s.promises k) k
row-sound f (CallHost call u) s e k = call_host-sound f call u s k
