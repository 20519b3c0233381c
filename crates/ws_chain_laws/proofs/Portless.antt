-- The realm of a chain without the end of a port has none, since no call that opens such a chain makes a port, nor does one of a node.
use Rattle.std.proofs.Common.{◌≡◌, ℕ, zero, suc, Bool, true, false, List, [], ◌∷◌, ◌++◌, map, Option, Some, None, ◌∙◌, refl, ap, arith}
use Rattle.ws_steps.specs.declared.calls.Call.{Call}
use Rattle.ws_steps.specs.declared.calls.Call.TheVariants.{MakeReadable, MakeBytes, MakeWritable, MakeTransform, MakeSignal, Pipe, Settle, Enqueue, Finish, Fail, Trigger, Deliver}
use Rattle.ws_steps.specs.declared.calls.Reply.{Reply}
use Rattle.ws_steps.specs.declared.calls.Reply.TheVariants.{Promise}
use Rattle.ws_steps.specs.declared.effects.Effect.{Effect}
use Rattle.ws_steps.specs.declared.promises.Job.{Job}
use Rattle.ws_steps.specs.Cross as cross
use Rattle.ws_steps.specs.Calls.{begin, named}
use Rattle.ws_steps.specs.Jobs.{job_begun, begin_job}
use Rattle.ws_steps.specs.Promises.{next_job}
use Rattle.ws_steps.specs.Run.{Entry, Called, Worked, Heard, run, step}
use Rattle.ws_steps.specs.Slots.{Slots, Done, empty}
use Rattle.ws_steps.specs.Turns.{performed, row}
use Rattle.ws_laws.proofs.Ended.{port_shape, row-port_shapes}
use Rattle.ws_room_laws.proofs.Turns.{performed-kept}
use Rattle.ws_chain_laws.specs.Chain.{Origin, FromChunks, FromBytes, FromPort, Target, ToSink, ToPort, is_ported}
use Rattle.ws_chain_laws.specs.Opening.{transforms, streams, signals, signal_of, piping, pipes_from, opening}
use Rattle.ws_chain_laws.specs.Outcomes.{past_of}
use Rattle.ws_chain_laws.specs.Runs.{IsNodes, AreNodes}

abbrev pub IsPortless : Call → Type 0
IsPortless (MakeReadable mark size start) = Unit {0}
IsPortless (MakeBytes mark auto start) = Unit {0}
IsPortless (MakeWritable mark size start) = Unit {0}
IsPortless (MakeTransform kind m n start) = Unit {0}
IsPortless MakeSignal = Unit {0}
IsPortless (Pipe source dest prevent signal) = Unit {0}
IsPortless (Settle h answer) = Unit {0}
IsPortless (Enqueue i v) = Unit {0}
IsPortless (Finish i) = Unit {0}
IsPortless (Fail i reason) = Unit {0}
IsPortless (Trigger a reason) = Unit {0}
IsPortless (Deliver c m) = Unit {0}
IsPortless _ = ⊥

abbrev pub ArePortless : List Entry → Type 0
ArePortless [] = Unit {0}
ArePortless (Called c ∷ xs) = IsPortless c × ArePortless xs
ArePortless (Worked ∷ xs) = ArePortless xs
ArePortless (Heard ∷ xs) = ArePortless xs

call-ports : (c : Call) (s : Slots) → IsPortless c → (begin c s).done.slots.ports ≡ s.ports
unfolding begin
call-ports (MakeReadable mark size start) s n = grind arith
call-ports (MakeBytes mark auto start) s n = grind arith
call-ports (MakeWritable mark size start) s n = grind arith
call-ports (MakeTransform kind m k start) s n = grind arith
call-ports MakeSignal s n = grind arith
call-ports (Pipe source dest prevent signal) s n = grind arith
call-ports (Settle h answer) s n = grind arith
call-ports (Enqueue i v) s n = grind arith
call-ports (Finish i) s n = grind arith
call-ports (Fail i reason) s n = grind arith
call-ports (Trigger a reason) s n = grind arith
call-ports (Deliver c m) s n = grind arith
call-ports _ s n = absurd n

no-shape : (xs : List cross.Slots) → map port_shape xs ≡ [] → xs ≡ []
no-shape [] e = refl
no-shape (x ∷ xs) e = cc

row-portless : (e : Effect) (s : Slots) → s.ports ≡ [] → (row e s).slots.ports ≡ []
row-portless e s k = no-shape (row e s).slots.ports (row-port_shapes e s ∙ ap (map port_shape) k)

performed-portless : (d : Done) → d.slots.ports ≡ [] → (performed d).ports ≡ []
performed-portless d k = performed-kept (λ ms s es. s.ports ≡ []) (λ ms s e es h. row-portless e s h) d k

named-ports : (reply : Reply) (s : Slots) → (named reply s).ports ≡ s.ports
named-ports (Promise p) s = refl
named-ports _ s = refl

begun-ports : (s : Slots) (o : Option Job) → s.ports ≡ [] → (job_begun s o).slots.ports ≡ []
begun-ports s None h = h
begun-ports s (Some job) h = h

worked-portless : (s : Slots) → s.ports ≡ [] → (step s Worked).ports ≡ []
unfolding begin_job
worked-portless s h = performed-portless (job_begun s (next_job s.promises)) (begun-ports s (next_job s.promises) h)

pub run-portless : (xs : List Entry) (s : Slots) → ArePortless xs → s.ports ≡ [] → (run xs s).ports ≡ []
run-portless [] s a h = h
run-portless (Called c ∷ xs) s a h =
    run-portless xs (step s (Called c)) a.1 (named-ports (begin c s).reply (performed (begin c s).done) ∙ performed-portless (begin c s).done (call-ports c s a.0 ∙ h))
run-portless (Worked ∷ xs) s a h = run-portless xs (step s Worked) a (worked-portless s h)
run-portless (Heard ∷ xs) s a h = run-portless xs (step s Heard) a h

portless-append : (xs ys : List Entry) → ArePortless xs → ArePortless ys → ArePortless (xs ++ ys)
portless-append [] ys a b = b
portless-append (Called c ∷ xs) ys a b = (a.0, portless-append xs ys a.1 b)
portless-append (Worked ∷ xs) ys a b = portless-append xs ys a b
portless-append (Heard ∷ xs) ys a b = portless-append xs ys a b

-- the opening of a chain

transforms-portless : (n : ℕ) → ArePortless (transforms n)
transforms-portless zero = tt
transforms-portless (suc n) = (tt, transforms-portless n)

signals-portless : (b : Bool) → ArePortless (signals b)
signals-portless false = tt
signals-portless true = (tt, tt)

pipes-portless : (k n : ℕ) → ArePortless (pipes_from k n)
pipes-portless k zero = tt
pipes-portless k (suc n) = (tt, pipes-portless (suc k) n)

streams-portless : (origin : Origin) (target : Target) (n : ℕ) → is_ported origin target ≡ false → ArePortless (streams origin target n)
streams-portless FromChunks ToSink n e = (tt, portless-append (transforms n) _ (transforms-portless n) (tt, tt))
streams-portless FromBytes ToSink n e = (tt, portless-append (transforms n) _ (transforms-portless n) (tt, tt))
streams-portless FromPort target n e = cc
streams-portless FromChunks ToPort n e = cc
streams-portless FromBytes ToPort n e = cc

opening-portless : (origin : Origin) (target : Target) (n : ℕ) (signalled : Bool) → is_ported origin target ≡ false → ArePortless (opening origin target n signalled)
opening-portless origin target n signalled e =
    portless-append (streams origin target n) (signals signalled ++ pipes_from 0 n) (streams-portless origin target n e)
    (portless-append (signals signalled) (pipes_from 0 n) (signals-portless signalled) (pipes-portless 0 n))

-- and calls of a node

nodes-portless : (c : Call) → IsNodes c → IsPortless c
nodes-portless (Settle h answer) is = tt
nodes-portless (Enqueue i v) is = tt
nodes-portless (Finish i) is = tt
nodes-portless (Fail i reason) is = tt
nodes-portless (Trigger a reason) is = tt
nodes-portless (Deliver c m) is = tt
nodes-portless _ is = absurd is

are-portless : (xs : List Entry) → AreNodes xs → ArePortless xs
are-portless [] a = tt
are-portless (Called c ∷ xs) a = (nodes-portless c a.0, are-portless xs a.1)
are-portless (Worked ∷ xs) a = are-portless xs a
are-portless (Heard ∷ xs) a = are-portless xs a

pub past-portless : (origin : Origin) (target : Target) (n : ℕ) (signalled : Bool) (xs : List Entry) → is_ported origin target ≡ false → AreNodes xs
    → (run (past_of origin target n signalled xs) empty).ports ≡ []
past-portless origin target n signalled xs e a =
    run-portless (past_of origin target n signalled xs) empty
    (portless-append (opening origin target n signalled) (Called (piping (signal_of signalled) n) ∷ xs) (opening-portless origin target n signalled e) (tt, are-portless xs a)) refl
