-- How often a promise stands in the slots of a stream and of a pipe, and what an operation on one is to keep.
use Rattle.std.proofs.Common.{◌≡◌, ℕ, ◌+◌, Bool, true, false, not, ◌&&◌, is_some, List, [], ◌∷◌, Option, Some, None}
use Rattle.ws_value.specs.declared.ids.PromiseId.{PromiseId}
use Rattle.ws_steps.specs.declared.{pipes.Phase.{Phase}, pipes.Phase.TheVariants.{Flowing, Waiting, Acting, Over}, readable.ReadRequest.{ReadRequest}, writable.PendingAbort.{PendingAbort}, writable.Writer.{Writer}}
use Rattle.ws_steps.specs.Pipes as pipe
use Rattle.ws_steps.specs.Readable as readable
use Rattle.ws_steps.specs.Tee as tee
use Rattle.ws_steps.specs.Cross as cross
use Rattle.ws_steps.specs.Transform as transform
use Rattle.ws_steps.specs.Writable as writable
use Rattle.ws_promise_laws.proofs.Tokens.{names, names_any, of_request, in_effects}
use Rattle.ws_promise_laws.proofs.Holds.{Holds, when}

-- readable streams

abbrev pub in_requests : PromiseId → List ReadRequest → ℕ
in_requests x [] = 0
in_requests x (r ∷ rs) = of_request x r + in_requests x rs

-- the reader's closed promise is to be settled while the stream is readable; and so are the promises of the reads that wait
abbrev pub in_readable : PromiseId → readable.Slots → ℕ
in_readable x r = when (readable.is_readable r.state) (names_any x r.reader) + in_requests x r.requests

-- what an operation on a readable stream keeps, where promises stand so often outside the stream and its effects
abbrev pub Reads : (f l : PromiseId → ℕ) → readable.Acts → Type 0
Reads f l a = Holds (λ x. f x + (in_readable x a.slots + in_effects x a.out.effects)) l a.out.promises

-- writable streams

abbrev pub of_closed : PromiseId → Option Writer → ℕ
of_closed x None = 0
of_closed x (Some w) = names x w.closed

abbrev pub of_ready : PromiseId → Option Writer → ℕ
of_ready x None = 0
of_ready x (Some w) = names x w.ready

abbrev pub of_abort : PromiseId → Option PendingAbort → ℕ
of_abort x None = 0
of_abort x (Some abort) = names x abort.promise

abbrev pub in_list : PromiseId → List PromiseId → ℕ
in_list x [] = 0
in_list x (p ∷ ps) = names x p + in_list x ps

-- whether the writer's closed promise is to be settled
abbrev pub is_alive : writable.Slots → Bool
is_alive w = not (writable.has_ended w.state)

-- whether the writer's ready promise is to be settled
abbrev pub is_awaited : writable.Slots → Bool
is_awaited w = (w.backpressure && writable.is_writable w.state) && not (writable.is_closing w)

-- the promises of writes, a close and an abort
abbrev pub in_asked : PromiseId → writable.Slots → ℕ
in_asked x w =
    in_list x w.write_requests + (names_any x w.write_in_flight + (names_any x w.close_request + (names_any x w.close_in_flight + of_abort x w.pending_abort)))

-- those, and the writer's promises where they are to be settled
abbrev pub in_writable : PromiseId → writable.Slots → ℕ
in_writable x w = in_asked x w + (when (is_alive w) (of_closed x w.writer) + when (is_awaited w) (of_ready x w.writer))

-- the writer's promises that are to be settled only if they haven't been
abbrev pub loose_in : PromiseId → writable.Slots → ℕ
loose_in x w = when (not (is_alive w)) (of_closed x w.writer) + when (not (is_awaited w)) (of_ready x w.writer)

-- a stream that has ended closes no more
abbrev pub Calm : writable.Slots → Type 0
Calm w = writable.has_ended w.state ≡ true → is_some w.close_in_flight ≡ false

-- what an operation on a writable stream keeps, where promises stand so often outside the stream and its effects
pub record Writes (f l : PromiseId → ℕ) (a : writable.Acts) : Type 0 where
  pub holds : Holds (λ x. f x + (in_writable x a.slots + in_effects x a.out.effects)) (λ x. l x + loose_in x a.slots) a.out.promises
  pub calm : Calm a.slots

-- pipes

-- whether a pipe goes on
abbrev pub goes_on : Phase → Bool
goes_on Flowing = true
goes_on Waiting = true
goes_on Acting = true
goes_on Over = false

-- the promise of a pipe is to be settled until it is over, and that of all that its action waits for until it is told
abbrev pub in_pipe : PromiseId → pipe.Slots → ℕ
in_pipe x s = when (goes_on s.phase) (names x s.promise) + names_any x s.whole

-- what an operation on a pipe keeps, where promises stand so often outside the pipe and its effects
abbrev pub Pipes : (f l : PromiseId → ℕ) → pipe.Acts → Type 0
Pipes f l a = Holds (λ x. f x + (in_pipe x a.slots + in_effects x a.out.effects)) l a.out.promises

-- transform streams

-- the change promise is to be settled; the finish promise stands in the reaction that settles it
abbrev pub in_transform : PromiseId → transform.Slots → ℕ
in_transform x s = names x s.change

-- what an operation on a transform stream keeps, where promises stand so often outside it and its effects
abbrev pub Transforms : (f l : PromiseId → ℕ) → transform.Acts → Type 0
Transforms f l a = Holds (λ x. f x + (in_transform x a.slots + in_effects x a.out.effects)) l a.out.promises

-- tees

-- the cancel promise is to be settled until it is settled or resolved
abbrev pub in_tee : PromiseId → tee.Slots → ℕ
in_tee x s = when (not s.answered) (names x s.cancel)

-- what an operation on a tee keeps, where promises stand so often outside it and its effects
abbrev pub Tees : (f l : PromiseId → ℕ) → tee.Acts → Type 0
Tees f l a = Holds (λ x. f x + (in_tee x a.slots + in_effects x a.out.effects)) l a.out.promises

-- ports

-- the backpressure promise is to be settled
abbrev pub in_port : PromiseId → cross.Slots → ℕ
in_port x s = names_any x s.backpressure

-- what an operation on a port keeps, where promises stand so often outside it and its effects
abbrev pub Ports : (f l : PromiseId → ℕ) → cross.Acts → Type 0
Ports f l a = Holds (λ x. f x + (in_port x a.slots + in_effects x a.out.effects)) l a.out.promises
