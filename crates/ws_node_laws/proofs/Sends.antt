-- What the two ports of a node post, from its opening on.
use Rattle.std.proofs.Common.{◌≡◌, ℕ, zero, suc, ◌+◌, ◌≤◌, nat_eq, Bool, true, false, ◌&&◌, if◌then◌else◌, List, [], ◌∷◌, ◌++◌, map, Some, slice_get, refl, sym, ap, subst, ◌∙◌, arith}
use Rattle.std.specs.Prelude.{is_some}
use Rattle.ws_value.specs.declared.ids.PortId.{PortId}
use Rattle.ws_value.specs.declared.value.Message.{Message}
use Rattle.ws_steps.specs.declared.calls.Call.{Call}
use Rattle.ws_steps.specs.declared.calls.Call.TheVariants.{Deliver}
use Rattle.ws_steps.specs.declared.effects.Owner.{Owner}
use Rattle.ws_steps.specs.declared.effects.Owner.TheVariants.{EndOf}
use Rattle.ws_steps.specs.declared.port.Side.TheVariants.{Readable as ReadableSide, Writable as WritableSide}
use Rattle.ws_steps.specs.Cross as cross
use Rattle.ws_steps.specs.Histories.{run_events}
use Rattle.ws_steps.specs.PortHistory.{is_same_port, run_taken, taken_by, asks_in}
use Rattle.ws_steps.specs.Run.{Entry, Called, Worked, Heard, step, run}
use Rattle.ws_steps.specs.Slots.{Slots, Stream, ReadableStream, ByteStream, WritableStream, empty, has_port, port_at, as_port, is_live, owner_at, owner_of, is_writable_stream}
use Rattle.ws_laws.proofs.Ended.{Ended, PortShape, port_shape, run-ended}
use Rattle.ws_laws.proofs.Shapes.{WritableOf, stream_shape}
use Rattle.ws_tee_port_laws.proofs.ports.Ends.{each_readable_end_posts, each_writable_end_posts}
use Rattle.ws_chain_laws.specs.Chain.{Origin, FromChunks, FromBytes, FromPort, Target, ToSink, ToPort, source_of, dest_of, source_port, sink_port}
use Rattle.ws_chain_laws.specs.Opening.{source_call, sink_call, transforms, signals, signal_of, piping, pipes_from, opening, chained}
use Rattle.ws_chain_laws.proofs.Links.{link-at, takes-at}
use Rattle.ws_chain_laws.proofs.Runs.{each_node_goes}
use Rattle.ws_node_laws.specs.Messages.{message_by, delivered_to}
use Rattle.ws_node_laws.specs.Sends.{EachNodeSendsDown, EachNodeSendsUp}
use Rattle.ws_node_laws.proofs.Asking.{shape-here, run-append}

-- calls that deliver nothing

abbrev Opens : List Entry → Type 0
Opens [] = Unit {0}
Opens (Called c ∷ xs) = ((d : PortId) → message_by d c ≡ []) × Opens xs
Opens (Worked ∷ xs) = ⊥
Opens (Heard ∷ xs) = ⊥

opens-append : (xs ys : List Entry) → Opens xs → Opens ys → Opens (xs ++ ys)
opens-append [] ys a b = b
opens-append (Called c ∷ xs) ys a b = (a.0, opens-append xs ys a.1 b)
opens-append (Worked ∷ xs) ys a b = absurd a
opens-append (Heard ∷ xs) ys a b = absurd a

source-opens : (o : Origin) (d : PortId) → message_by d (source_call o) ≡ []
source-opens FromChunks d = refl
source-opens FromBytes d = refl
source-opens FromPort d = refl

sink-opens : (t : Target) (d : PortId) → message_by d (sink_call t) ≡ []
sink-opens ToSink d = refl
sink-opens ToPort d = refl

transforms-open : (n : ℕ) → Opens (transforms n)
transforms-open zero = tt
transforms-open (suc n) = (λ d. refl, transforms-open n)

pipes-open : (k n : ℕ) → Opens (pipes_from k n)
pipes-open k zero = tt
pipes-open k (suc n) = (λ d. refl, pipes-open (suc k) n)

signals-open : (b : Bool) → Opens (signals b)
signals-open false = tt
signals-open true = (λ d. refl, tt)

all-open : (o : Origin) (t : Target) (n : ℕ) (b : Bool) → Opens (opening o t n b)
all-open o t n b =
    (λ d. source-opens o d, opens-append (transforms n ++ Called (sink_call t) ∷ []) (signals b ++ pipes_from 0 n) (opens-append (transforms n) (Called (sink_call t) ∷ []) (transforms-open n) (λ d. sink-opens t d, tt)) (opens-append (signals b) (pipes_from 0 n) (signals-open b) (pipes-open 0 n)))

-- of them nothing is heard, and nothing taken

open-events : (ys xs : List Entry) (s : Slots) → Opens ys → run_events (ys ++ xs) s ≡ run_events xs (run ys s)
open-events [] xs s o = refl
open-events (Called c ∷ ys) xs s o = open-events ys xs (step s (Called c)) o.1
open-events (Worked ∷ ys) xs s o = absurd o
open-events (Heard ∷ ys) xs s o = absurd o

asks-append : (xs ys : List Message) → asks_in (xs ++ ys) ≡ asks_in xs + asks_in ys
asks-append [] ys = omega arith
asks-append (x ∷ xs) ys = let h = asks-append xs ys in omega (arith, h)

call-less : (d : PortId) (c : Call) (s : Slots) → asks_in (taken_by d c s) ≤ asks_in (message_by d c)
call-less d (Deliver e m) s = by (is_same_port d e) (is_live d s)
  where
    by : (a b : Bool) → asks_in (if a && b then m ∷ [] else []) ≤ asks_in (if a then m ∷ [] else [])
    by true true = omega arith
    by true false = omega arith
    by false b = omega arith
call-less d c s = omega arith

taken-less : (d : PortId) (xs : List Entry) (s : Slots) → asks_in (run_taken d xs s) ≤ asks_in (delivered_to d xs)
taken-less d [] s = omega arith
taken-less d (Called c ∷ xs) s =
    let h = taken-less d xs (step s (Called c)) in
    let k = call-less d c s in
    let a = asks-append (taken_by d c s) (run_taken d xs (step s (Called c))) in
    let b = asks-append (message_by d c) (delivered_to d xs) in
    omega (arith, h, k, a, b)
taken-less d (Worked ∷ xs) s = taken-less d xs (step s Worked)
taken-less d (Heard ∷ xs) s = taken-less d xs (step s Heard)

open-delivers : (d : PortId) (ys xs : List Entry) → Opens ys → delivered_to d (ys ++ xs) ≡ delivered_to d xs
open-delivers d [] xs o = refl
open-delivers d (Called c ∷ ys) xs o = ap (λ ms. ms ++ delivered_to d (ys ++ xs)) (o.0 d) ∙ open-delivers d ys xs o.1
open-delivers d (Worked ∷ ys) xs o = absurd o
open-delivers d (Heard ∷ ys) xs o = absurd o

-- the whole run

abbrev begun : Origin → Target → ℕ → Bool → List Entry
begun o t n b = opening o t n b ++ Called (piping (signal_of b) n) ∷ []

begun-opens : (o : Origin) (t : Target) (n : ℕ) (b : Bool) → Opens (begun o t n b)
begun-opens o t n b = opens-append (opening o t n b) (Called (piping (signal_of b) n) ∷ []) (all-open o t n b) (λ d. refl, tt)

begun-runs : (o : Origin) (t : Target) (n : ℕ) (b : Bool) → run (begun o t n b) empty ≡ chained o t n b
begun-runs o t n b = run-append (opening o t n b) (Called (piping (signal_of b) n) ∷ []) empty

-- ports that are there

port-there : (ps : List cross.Slots) (n : ℕ) (y : PortShape) → slice_get (map port_shape ps) n ≡ Some y → (is_some (slice_get ps n) ≡ true) × (port_shape (as_port (slice_get ps n)) ≡ y)
port-there [] n y e = cc
port-there (p ∷ ps) zero y e = (refl, cc)
port-there (p ∷ ps) (suc n) y e = port-there ps n y e

sink-shape : (xs : List Stream) (n : ℕ) (o : Owner) → is_writable_stream (slice_get xs n) ≡ true → owner_of (slice_get xs n) ≡ o → slice_get (map stream_shape xs) n ≡ Some (WritableOf o)
sink-shape [] n o h e = cc
sink-shape (ReadableStream r ∷ xs) zero o h e = cc
sink-shape (ByteStream b ∷ xs) zero o h e = cc
sink-shape (WritableStream w ∷ xs) zero o h e = ap (λ q. Some (WritableOf q)) e
sink-shape (x ∷ xs) (suc n) o h e = sink-shape xs n o h e

same_self : (n : ℕ) → nat_eq n n ≡ true
same_self n = grind arith

pub each_node_sends_down : EachNodeSendsDown
each_node_sends_down origin n signalled xs few a =
    let c = sink_port origin in
    let g = each_node_goes origin ToPort n signalled xs few a in
    let all = begun origin ToPort n signalled ++ xs in
    let z : Slots = run xs (chained origin ToPort n signalled) in
    let is : run all empty ≡ z = run-append (begun origin ToPort n signalled) xs empty ∙ ap (run xs) (begun-runs origin ToPort n signalled) in
    let link = (link-at origin ToPort n z g.chain n (omega arith)).link in
    let self = same_self n in
    let own : owner_at (dest_of n) z ≡ EndOf c = takes-at origin ToPort n z g.chain n (omega arith) ∙ rw self refl in
    let shape = sink-shape z.streams (dest_of n).0 (EndOf c) link.sink own in
    let ended : Ended z = subst (λ (s : Slots). Ended s) is (run-ended all) in
    let port = port-there z.ports c.0 _ (ended.end (dest_of n) c WritableSide shape) in
    let p = each_writable_end_posts all c (subst (λ (s : Slots). has_port c s ≡ true) (sym is) port.0) (subst (λ (s : Slots). (port_at c s).side ≡ WritableSide) (sym is) (ap (λ (y : PortShape). y.side) port.1)) in
    let events : run_events all empty ≡ run_events xs (chained origin ToPort n signalled) = open-events (begun origin ToPort n signalled) xs empty (begun-opens origin ToPort n signalled) ∙ ap (run_events xs) (begun-runs origin ToPort n signalled) in
    let less = taken-less c all empty in
    let came = ap asks_in (open-delivers c (begun origin ToPort n signalled) xs (begun-opens origin ToPort n signalled)) in
    let credit = p.credit in
    record {
      credit = rw (← events) (omega (arith, credit, less, came));
      kinds = rw (← events) p.posts;
      last = rw (← events) p.last;
    }

pub each_node_sends_up : EachNodeSendsUp
each_node_sends_up target n signalled xs few a =
    let c = source_port in
    let g = each_node_goes FromPort target n signalled xs few a in
    let all = begun FromPort target n signalled ++ xs in
    let z : Slots = run xs (chained FromPort target n signalled) in
    let is : run all empty ≡ z = run-append (begun FromPort target n signalled) xs empty ∙ ap (run xs) (begun-runs FromPort target n signalled) in
    let first = link-at FromPort target n z g.chain 0 (omega arith) in
    let shape = shape-here c (source_of 0) z first.link.source first.gives in
    let ended : Ended z = subst (λ (s : Slots). Ended s) is (run-ended all) in
    let port = port-there z.ports c.0 _ (ended.end (source_of 0) c ReadableSide shape) in
    let p = each_readable_end_posts all c (subst (λ (s : Slots). has_port c s ≡ true) (sym is) port.0) (subst (λ (s : Slots). (port_at c s).side ≡ ReadableSide) (sym is) (ap (λ (y : PortShape). y.side) port.1)) in
    let events : run_events all empty ≡ run_events xs (chained FromPort target n signalled) = open-events (begun FromPort target n signalled) xs empty (begun-opens FromPort target n signalled) ∙ ap (run_events xs) (begun-runs FromPort target n signalled) in
    record { kinds = rw (← events) p.posts; last = rw (← events) p.last }
