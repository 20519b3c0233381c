-- What an operation of a readable stream takes.
use Rattle.std.proofs.Common.{◌≡◌, ◌≤◌, ℕ, ◌+◌, true, false, List, [], ◌∷◌, ◌++◌, Ok, Err, refl, ap, arith}
use Rattle.ws_value.specs.declared.ids.StreamId.{StreamId}
use Rattle.ws_value.specs.declared.value.Plain.{Plain}
use Rattle.ws_value.specs.declared.value.Plain.TheVariants.{Undefined}
use Rattle.ws_steps.specs.declared.{effects.Effect.{Effect}, effects.Effect.TheVariants.{ChunkSteps, CancelAlgorithm}, queue.Queued.{Queued}}
use Rattle.ws_value.specs.declared.ids.PromiseId.{PromiseId}
use Rattle.ws_value.specs.declared.value.Value.{Value}
use Rattle.ws_steps.specs.declared.{readable.ReadRequest.{ReadRequest}, readable.ReadRequest.TheVariants.{Promise, Pipe as PipeRequest, Tee as TeeRequest}, readable.ReadableOperation.{ReadableOperation}}
use Rattle.ws_steps.specs.declared.readable.ReadableOperation.TheVariants as names
use Rattle.ws_steps.specs.declared.{readable.ReadableState.{ReadableState}, readable.ReadableState.TheVariants.{Readable, Closed, Errored}}
use Rattle.ws_steps.specs.Operations.{readable_operation}
use Rattle.ws_steps.specs.Readable.{Acts, close_all, error_all, waiting, call_pull_if_needed, accept_for, accept, controller_enqueue, stream_close, stream_error, close_if_empty, controller_close, controller_error, after_take, pull_from, pull_steps, read_by, default_reader_read, reader_generic_initialize, disturb, cancel_readable_by, cancel_if_readable, start_settled, pull_settled, cancel_steps, cancel_by, stream_cancel, reader_release}
use Rattle.ws_steps.specs.Places.{Prices, price, each, steps_price, prices_of, readable_price, table_size}
use Rattle.ws_room_laws.proofs.Tables.{settle-size}

pub prices-append : (π : Prices) (xs ys : List Effect) → prices_of π (xs ++ ys) ≡ prices_of π xs + prices_of π ys
prices-append π [] ys = omega arith
prices-append π (x ∷ xs) ys = let h = prices-append π xs ys in omega (arith, h)

pub each-append : {A : Type 0} (c : ℕ) (xs ys : List A) → each c (xs ++ ys) ≡ each c xs + each c ys
each-append c [] ys = omega arith
each-append c (x ∷ xs) ys = let h = each-append c xs ys in omega (arith, h)

pub prices-close : (π : Prices) (me : StreamId) (rs : List ReadRequest) → prices_of π (close_all me rs) ≡ each (steps_price π) rs
prices-close π me [] = refl
prices-close π me (r ∷ rs) = let h = prices-close π me rs in omega (arith, h)

pub prices-error : (π : Prices) (me : StreamId) (e : Plain) (rs : List ReadRequest) → prices_of π (error_all me e rs) ≡ each (steps_price π) rs
prices-error π me e [] = refl
prices-error π me e (r ∷ rs) = let h = prices-error π me e rs in omega (arith, h)

-- what is held, where an entry of the queue counts q and one of the requests r
abbrev pub readable_holds : Prices → ℕ → ℕ → Acts → ℕ
readable_holds π q r a =
    prices_of π a.out.effects + each (steps_price π) a.slots.requests + each q a.slots.queue + each r a.slots.requests + table_size π a.out.promises

module _ (π : Prices) (q r : ℕ) (me : StreamId) where
  -- b holds at most n more than a
  abbrev Takes : ℕ → Acts → Acts → Type 0
  Takes n a b = readable_holds π q r b ≤ readable_holds π q r a + n

  pull-takes : (a : Acts) → Takes (price π 3 1 1 1 1 0 0) a (call_pull_if_needed me a)
  unfolding call_pull_if_needed
  pull-takes a = grind (arith, prices-append)

  close-takes : (a : Acts) → Takes 0 a (stream_close me a)
  unfolding stream_close
  close-takes a = grind (arith, prices-append, prices-close, settle-size)

  error-takes : (e : Plain) (a : Acts) → Takes 0 a (stream_error me e a)
  unfolding stream_error
  error-takes e a = grind (arith, prices-append, prices-error, settle-size)

  erring-takes : (e : Plain) (a : Acts) → Takes 0 a (controller_error me e a)
  unfolding controller_error
  erring-takes e a = let h = error-takes e (record a { slots = record a.slots { queue = [] } }) in grind (arith, h)

  accept-takes : (v : Value) (a : Acts) (rs : List ReadRequest) → rs ≡ waiting a.slots → q ≤ π.queued → Takes (price π 0 0 0 0 0 1 0) a (accept_for me v a rs)
  accept-takes v a rs is l = grind (arith, is, prices-append, each-append, l)

  enqueue-takes : (v : Value) (a : Acts) → q ≤ π.queued → Takes (price π 3 1 1 1 1 1 0) a (controller_enqueue me v a)
  unfolding controller_enqueue accept
  enqueue-takes v a l =
      let h = accept-takes v a (waiting a.slots) refl l in
      let g = pull-takes (accept me v a) in grind (arith, h, g)

  closing-takes : (a : Acts) → Takes 0 a (controller_close me a)
  unfolding controller_close close_if_empty
  closing-takes a = let h = close-takes (record a { slots = record a.slots { close_requested = true } }) in grind (arith, h)

  after-takes : (a : Acts) → Takes (price π 3 1 1 1 1 0 0) a (after_take me a)
  unfolding after_take
  after-takes a = let h = close-takes a in let g = pull-takes a in grind (arith, h, g)

  -- c pays for the place of the request
  from-takes : (c : ℕ) (request : ReadRequest) (a : Acts) (queue : List (Queued Value)) → queue ≡ a.slots.queue → r ≤ c → Takes (price π 5 1 2 1 1 0 0 + c) a (pull_from me request a queue)
  from-takes c request a [] is m =
      let b : Acts = record a { slots = record a.slots { requests = a.slots.requests ++ request ∷ [] } } in
      let h = pull-takes b in
      let e = each-append r a.slots.requests (request ∷ []) in
      let f = each-append (steps_price π) a.slots.requests (request ∷ []) in omega (arith, h, e, f, m)
  from-takes c request a (x ∷ xs) is m =
      let b : Acts = record a { slots = record a.slots { queue = xs } } in
      let h = after-takes b in
      let e = ap (each q) is in
      let f = prices-append π (after_take me b).out.effects (ChunkSteps me request x.value ∷ []) in omega (arith, h, e, f)

  read-takes : (c : ℕ) (request : ReadRequest) (a : Acts) (state : ReadableState) → r ≤ c → Takes (price π 5 1 2 1 1 0 0 + c) a (read_by me request a state)
  unfolding pull_steps
  read-takes c request a Readable m = from-takes c request a a.slots.queue refl m
  read-takes c request a Closed m = grind (arith, prices-append)
  read-takes c request a Errored m = grind (arith, prices-append)

  initialize-takes : (closed : PromiseId) (a : Acts) → Takes 0 a (reader_generic_initialize closed a)
  unfolding reader_generic_initialize
  initialize-takes closed a = grind (arith, settle-size)

  release-takes : (a : Acts) → Takes 0 a (reader_release me a)
  unfolding reader_release
  release-takes a = grind (arith, prices-append, prices-error, settle-size)

  cancel-takes : (e : Plain) (p : PromiseId) (a : Acts) (state : ReadableState) → Takes (price π 4 2 2 1 1 0 0) a (cancel_by me e p a state)
  unfolding cancel_steps
  cancel-takes e p a state =
      let h = close-takes a in
      let f = prices-append π (stream_close me a).out.effects (CancelAlgorithm me e p ∷ []) in grind (arith, h, f, settle-size)

  cancel_readable-takes : (e : Plain) (p : PromiseId) (a : Acts) (state : ReadableState) → Takes (price π 4 2 2 1 1 0 0) a (cancel_readable_by me e p a state)
  unfolding stream_cancel
  cancel_readable-takes e p a Readable = let h = cancel-takes e p (record a { slots = record a.slots { disturbed = true } }) a.slots.state in omega (arith, h)
  cancel_readable-takes e p a Closed = let h = settle-size π p (Ok Undefined) a.out.promises in omega (arith, h)
  cancel_readable-takes e p a Errored = let h = settle-size π p (Ok Undefined) a.out.promises in omega (arith, h)

pub readable-takes : (π : Prices) (q r : ℕ) (me : StreamId) (operation : ReadableOperation) (a : Acts) → q ≤ π.queued → r ≤ π.request → r ≤ π.reads me →
    readable_holds π q r (readable_operation me operation a) + π.turn ≤ readable_holds π q r a + readable_price π me operation
unfolding disturb default_reader_read cancel_if_readable start_settled pull_settled stream_cancel
readable-takes π q r me (names.InitializeReader closed) a l m w = let h = initialize-takes π q r me closed a in omega (arith, h)
readable-takes π q r me names.ReleaseReader a l m w = let h = release-takes π q r me a in omega (arith, h)
readable-takes π q r me names.Disturb a l m w = omega arith
readable-takes π q r me (names.Read (Promise p)) a l m w = let h = read-takes π q r me π.request (Promise p) (record a { slots = record a.slots { disturbed = true } }) a.slots.state m in omega (arith, h)
readable-takes π q r me (names.Read (PipeRequest p)) a l m w = let h = read-takes π q r me π.request (PipeRequest p) (record a { slots = record a.slots { disturbed = true } }) a.slots.state m in omega (arith, h)
readable-takes π q r me (names.Read (TeeRequest t)) a l m w = let h = read-takes π q r me (π.reads me) (TeeRequest t) (record a { slots = record a.slots { disturbed = true } }) a.slots.state w in omega (arith, h)
readable-takes π q r me (names.Cancel e p) a l m w = let h = cancel-takes π q r me e p (record a { slots = record a.slots { disturbed = true } }) a.slots.state in omega (arith, h)
readable-takes π q r me (names.CancelIfReadable e p) a l m w = let h = cancel_readable-takes π q r me e p a a.slots.state in omega (arith, h)
readable-takes π q r me (names.Enqueue v) a l m w = let h = enqueue-takes π q r me v a l in omega (arith, h)
readable-takes π q r me names.Close a l m w = let h = closing-takes π q r me a in omega (arith, h)
readable-takes π q r me (names.Error e) a l m w = let h = erring-takes π q r me e a in omega (arith, h)
readable-takes π q r me (names.StartSettled (Ok v)) a l m w = let h = pull-takes π q r me (record a { slots = record a.slots { started = true } }) in omega (arith, h)
readable-takes π q r me (names.StartSettled (Err e)) a l m w = let h = erring-takes π q r me e a in omega (arith, h)
readable-takes π q r me (names.PullSettled (Ok v)) a l m w =
    let h = pull-takes π q r me (record a { slots = record a.slots { pulling = false; pull_again = false } }) in grind (arith, h)
readable-takes π q r me (names.PullSettled (Err e)) a l m w = let h = erring-takes π q r me e a in omega (arith, h)
