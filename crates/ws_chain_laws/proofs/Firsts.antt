-- Of the streams of a chain only the source may be a byte stream.
use Rattle.ws_value.specs.declared.ids.SignalId.{SignalId}
use Rattle.std.proofs.Common.{◌≡◌, ℕ, zero, suc, ◌+◌, nat_lt, Bool, true, false, List, [], ◌∷◌, ◌++◌, length, Option, Some, None, slice_get, refl, sym, ap, subst, ◌∙◌, arith}
use Rattle.ws_steps.specs.declared.calls.Call.{Call}
use Rattle.ws_steps.specs.declared.calls.Call.TheVariants.{MakeTransform, MakeSignal, Enqueue, Finish, Fail, Trigger, Deliver, Settle}
use Rattle.ws_steps.specs.declared.calls.Reply.{Reply}
use Rattle.ws_steps.specs.declared.calls.Reply.TheVariants.{Promise}
use Rattle.ws_steps.specs.declared.promises.Job.{Job}
use Rattle.ws_steps.specs.Calls.{begin, named}
use Rattle.ws_steps.specs.Jobs.{job_begun, begin_job}
use Rattle.ws_steps.specs.Promises.{next_job}
use Rattle.ws_steps.specs.Run.{Called, run, after_call, after_job}
use Rattle.ws_steps.specs.Slots.{Slots, Stream, Done, empty, most_streams, is_byte_stream}
use Rattle.ws_steps.specs.Turns.{performed}
use Rattle.ws_laws.proofs.StaysBytes.{row-byte}
use Rattle.ws_room_laws.proofs.Turns.{performed-kept}
use Rattle.ws_steps.specs.declared.calls.Reply.TheVariants.{TooMany}
use Rattle.ws_steps.specs.declared.calls.StartBy.TheVariants.{Now}
use Rattle.ws_steps.specs.declared.port.Side.TheVariants.{Writable as WritableSide}
use Rattle.ws_steps.specs.declared.readable.SizeBy.TheVariants.{Count}
use Rattle.ws_steps.specs.declared.transform.Kind.TheVariants.{Host as HostKind}
use Rattle.ws_steps.specs.Begun.{Begun, replies}
use Rattle.ws_steps.specs.MakingCalls.{make_transform, make_writable}
use Rattle.ws_steps.specs.PipeCalls.{open_end}
use Rattle.ws_laws.proofs.Tables.{either}
use Rattle.ws_chain_laws.specs.Chain.{Origin, FromChunks, FromBytes, FromPort, Target, ToSink, ToPort}
use Rattle.ws_chain_laws.specs.Opening.{source_call, sink_call, transforms, streams, signals, signal_of, piping, pipes_from, opened, chained}
use Rattle.ws_chain_laws.specs.Runs.{IsNodes}
use Rattle.ws_chain_laws.proofs.Pairs.{run-append}

-- none behind the first is
abbrev pub OnlyFirst : List Stream → Type 0
OnlyFirst xs = (n : ℕ) → is_byte_stream (slice_get xs (suc n)) ≡ false

append-none : (xs : List Stream) (y : Stream) (n : ℕ) → is_byte_stream (slice_get xs n) ≡ false → is_byte_stream (Some y) ≡ false → is_byte_stream (slice_get (xs ++ y ∷ []) n) ≡ false
append-none [] y zero e f = f
append-none [] y (suc n) e f = refl
append-none (x ∷ xs) y zero e f = e
append-none (x ∷ xs) y (suc n) e f = append-none xs y n e f

pub first-append : (xs : List Stream) (y : Stream) → is_byte_stream (Some y) ≡ false → OnlyFirst xs → OnlyFirst (xs ++ y ∷ [])
first-append xs y e f = λ n. append-none xs y (suc n) (f n) e

performed-first : (d : Done) → OnlyFirst d.slots.streams → OnlyFirst (performed d).streams
performed-first d f = performed-kept (λ ms s es. OnlyFirst s.streams) (λ ms s e es h. λ n. row-byte (record { 0 = suc n }) e s ∙ h n) d f

named-first : (reply : Reply) (s : Slots) → OnlyFirst s.streams → OnlyFirst (named reply s).streams
named-first (Promise q) s f = f
named-first _ s f = f

-- a call that begins so keeps it
pub called-first : (c : Call) (s : Slots) → OnlyFirst (begin c s).done.slots.streams → OnlyFirst (after_call c s).streams
called-first c s f = named-first (begin c s).reply (performed (begin c s).done) (performed-first (begin c s).done f)

begun-first : (s : Slots) (o : Option Job) → OnlyFirst s.streams → OnlyFirst (job_begun s o).slots.streams
begun-first s None f = f
begun-first s (Some job) f = f

pub worked-first : (s : Slots) → OnlyFirst s.streams → OnlyFirst (after_job s).streams
unfolding begin_job
worked-first s f = performed-first (job_begun s (next_job s.promises)) (begun-first s (next_job s.promises) f)

-- and so does a call of a node, which makes no stream
pub nodes-streams : (c : Call) (s : Slots) → IsNodes c → (begin c s).done.slots.streams ≡ s.streams
unfolding begin
nodes-streams (Settle h answer) s is = grind arith
nodes-streams (Enqueue i v) s is = grind arith
nodes-streams (Finish i) s is = grind arith
nodes-streams (Fail i reason) s is = grind arith
nodes-streams (Trigger a reason) s is = grind arith
nodes-streams (Deliver c m) s is = grind arith
nodes-streams _ s is = absurd is

-- the calls that open a chain

source-first : (origin : Origin) → OnlyFirst (after_call (source_call origin) empty).streams
unfolding begin
source-first FromChunks = called-first (source_call FromChunks) empty (λ n. refl)
source-first FromBytes = called-first (source_call FromBytes) empty (λ n. refl)
source-first FromPort = called-first (source_call FromPort) empty (λ n. refl)

transform-first : (s : Slots) → OnlyFirst s.streams → OnlyFirst (begin (MakeTransform HostKind 1 0 Now) s).done.slots.streams
unfolding begin
transform-first s f =
    either (λ (b : Begun). OnlyFirst b.done.slots.streams) (nat_lt (length s.streams + 1) most_streams) (make_transform HostKind 1 0 Now (record { 0 = length s.streams }) (record { 0 = length s.streams + 1 }) s)
    (replies TooMany s) (λ e. first-append _ _ refl (first-append s.streams _ refl f)) (λ e. f)

sink-first : (target : Target) (s : Slots) → OnlyFirst s.streams → OnlyFirst (begin (sink_call target) s).done.slots.streams
unfolding begin
sink-first ToSink s f =
    either (λ (b : Begun). OnlyFirst b.done.slots.streams) (nat_lt (length s.streams) most_streams) (make_writable 1 Count Now (record { 0 = length s.streams }) s) (replies TooMany s) (λ e. first-append s.streams _ refl f) (λ e. f)
sink-first ToPort s f =
    either (λ (b : Begun). OnlyFirst b.done.slots.streams) (nat_lt (length s.streams) most_streams) (open_end WritableSide (record { 0 = length s.streams }) s) (replies TooMany s) (λ e. first-append s.streams _ refl f) (λ e. f)

piping-streams : (signal : Option SignalId) (k : ℕ) (s : Slots) → (begin (piping signal k) s).done.slots.streams ≡ s.streams
unfolding begin
piping-streams None k s = grind arith
piping-streams (Some a) k s = grind arith

piping-first : (signal : Option SignalId) (k : ℕ) (s : Slots) → OnlyFirst s.streams → OnlyFirst (after_call (piping signal k) s).streams
piping-first signal k s f = let e = piping-streams signal k s in called-first (piping signal k) s (rw e f)

transforms-first : (n : ℕ) (s : Slots) → OnlyFirst s.streams → OnlyFirst (run (transforms n) s).streams
transforms-first zero s f = f
transforms-first (suc n) s f = transforms-first n _ (called-first (MakeTransform HostKind 1 0 Now) s (transform-first s f))

signals-first : (b : Bool) (s : Slots) → OnlyFirst s.streams → OnlyFirst (run (signals b) s).streams
unfolding begin
signals-first false s f = f
signals-first true s f = called-first MakeSignal s f

pipes-first : (k n : ℕ) (s : Slots) → OnlyFirst s.streams → OnlyFirst (run (pipes_from k n) s).streams
pipes-first k zero s f = f
pipes-first k (suc n) s f = pipes-first (suc k) n _ (piping-first None k s f)

pub chained-first : (origin : Origin) (target : Target) (n : ℕ) (signalled : Bool) → OnlyFirst (chained origin target n signalled).streams
chained-first origin target n signalled =
    let a : Slots = run (transforms n) (after_call (source_call origin) empty) in
    let b : Slots = after_call (sink_call target) a in
    let made : run (streams origin target n) empty ≡ b = run-append (transforms n) (Called (sink_call target) ∷ []) (after_call (source_call origin) empty) in
    let first : OnlyFirst b.streams = called-first (sink_call target) a (sink-first target a (transforms-first n _ (source-first origin))) in
    let all : opened origin target n signalled ≡ run (pipes_from 0 n) (run (signals signalled) b) =
    run-append (streams origin target n) (signals signalled ++ pipes_from 0 n) empty ∙ (run-append (signals signalled) (pipes_from 0 n) _ ∙ ap (λ (s : Slots). run (pipes_from 0 n) (run (signals signalled) s)) made) in
    piping-first (signal_of signalled) n _ (subst (λ (s : Slots). OnlyFirst s.streams) (sym all) (pipes-first 0 n _ (signals-first signalled b first)))
