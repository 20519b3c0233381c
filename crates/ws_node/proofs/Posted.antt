-- What the ports of a node posted, by its opening and its calls since: the opening posts, delivers and takes nothing.
use Rattle.std.proofs.Common.{◌≡◌, ℕ, zero, suc, ◌+◌, ◌*◌, ◌≤◌, Bool, true, false, if◌then◌else◌, List, [], ◌∷◌, ◌++◌, length, All, Option, refl, sym, ap, subst, ◌∙◌, append-nil, append_assoc, length-append, arith}
use Rattle.std.proofs.lemmas.List.Elements.{All-nil, All-cons, All-head, All-tail}
use Rattle.ws_value.specs.declared.ids.PortId.{PortId}
use Rattle.ws_value.specs.declared.ids.StreamId.{StreamId}
use Rattle.ws_value.specs.declared.value.Message.{Message}
use Rattle.ws_value.specs.declared.value.Message.TheVariants.{Pull, Chunk, Close, Error}
use Rattle.ws_value.specs.declared.value.Value.{Value}
use Rattle.ws_value.specs.declared.value.Value.TheVariants.{Plain as PlainValue, Bytes}
use Rattle.ws_steps.specs.declared.calls.Call.{Call}
use Rattle.ws_steps.specs.declared.calls.Call.TheVariants.{Enqueue, Finish, Fail, Trigger, Deliver, Settle, Terminate}
use Rattle.ws_steps.specs.declared.calls.Event.{Event}
use Rattle.ws_steps.specs.declared.promises.Job.{Job}
use Rattle.ws_steps.specs.Histories.{is_same, run_events}
use Rattle.ws_steps.specs.PortHistory.{is_same_port, posted_in, chunk_in, chunks_in, ends_last, goes_down}
use Rattle.ws_steps.specs.Promises.{next_job}
use Rattle.ws_steps.specs.Run.{Entry, Called, Worked, Heard, step, run}
use Rattle.ws_steps.specs.Slots.{Slots, empty, most_streams}
use Rattle.ws_flow.specs.Told.{Mark, Open, Closed, Broken, Lost, Told, told, goes_on, then_told, IsShortOf}
use Rattle.ws_flow.proofs.Told.{before_of_short, before_front}
use Rattle.ws_link_laws.specs.Link.{Giver, OfSource, OfByteSource, OfHalf, OfEnd, silence, lets_in, delivered, enters}
use Rattle.ws_tee_port_laws.proofs.ports.Told.{posted-append}
use Rattle.ws_chain_laws.specs.Chain.{Origin, FromChunks, FromBytes, FromPort, Target, ToSink, ToPort, behind_at, source_of, giver, call_enters, sink_port}
use Rattle.ws_chain_laws.specs.Laws.{next_enters}
use Rattle.ws_chain_laws.specs.Opening.{source_call, sink_call, transforms, signals, signal_of, piping, pipes_from, opening, chained}
use Rattle.ws_chain_laws.specs.Outcomes.{past_of}
use Rattle.ws_chain_laws.specs.Runs.{IsNodes, AreNodes, brought_to, heard_from}
use Rattle.ws_chain_laws.proofs.Begins.{run-append}
use Rattle.ws_chain_laws.proofs.Runs.{each_node_goes}
use Rattle.ws_node_laws.specs.Covered.{brought, run_brought}
use Rattle.ws_node_laws.specs.Edges.{is_bytes, goes_down_edge}
use Rattle.ws_node_laws.specs.Messages.{row_told, taken_events, message_by, delivered_to}
use Rattle.ws_node_laws.proofs.Messages.{each_chain_tells_by_posts}
use Rattle.ws_clone_laws.proofs.Told.{events-split}
use Rattle.ws_node.specs.Fair.{BringsFair, AllBringFair}
use Rattle.ws_node.specs.Messages.{is_fair, is_fair_chunk}
use Rattle.ws_node.specs.Ran.{IsOwn, IsOwnEntry}
use Rattle.ws_node.proofs.Firsts.{chunks-append}

-- calls that deliver nothing

abbrev pub DeliversNone : Call → Type 0
DeliversNone (Deliver c m) = ⊥
DeliversNone _ = Unit {0}

abbrev pub Opens : List Entry → Type 0
Opens [] = Unit {0}
Opens (Called c ∷ xs) = DeliversNone c × Opens xs
Opens (Worked ∷ xs) = ⊥
Opens (Heard ∷ xs) = ⊥

opens-append : (xs ys : List Entry) → Opens xs → Opens ys → Opens (xs ++ ys)
opens-append [] ys a b = b
opens-append (Called c ∷ xs) ys a b = (a.0, opens-append xs ys a.1 b)
opens-append (Worked ∷ xs) ys a b = absurd a
opens-append (Heard ∷ xs) ys a b = absurd a

source-opens : (o : Origin) → DeliversNone (source_call o)
source-opens FromChunks = tt
source-opens FromBytes = tt
source-opens FromPort = tt

sink-opens : (t : Target) → DeliversNone (sink_call t)
sink-opens ToSink = tt
sink-opens ToPort = tt

transforms-open : (n : ℕ) → Opens (transforms n)
transforms-open zero = tt
transforms-open (suc n) = (tt, transforms-open n)

pipes-open : (k n : ℕ) → Opens (pipes_from k n)
pipes-open k zero = tt
pipes-open k (suc n) = (tt, pipes-open (suc k) n)

signals-open : (b : Bool) → Opens (signals b)
signals-open false = tt
signals-open true = (tt, tt)

opening-opens : (o : Origin) (t : Target) (n : ℕ) (b : Bool) → Opens (opening o t n b)
opening-opens o t n b =
    (source-opens o, opens-append (transforms n ++ Called (sink_call t) ∷ []) (signals b ++ pipes_from 0 n) (opens-append (transforms n) (Called (sink_call t) ∷ []) (transforms-open n) (sink-opens t, tt)) (opens-append (signals b) (pipes_from 0 n) (signals-open b) (pipes-open 0 n)))

quiet-call : (d : PortId) (c : Call) → DeliversNone c → message_by d c ≡ []
quiet-call d (Deliver c m) o = absurd o
quiet-call d _ o = refl

opens-taken : (ys xs : List Entry) (s : Slots) → Opens ys → taken_events (ys ++ xs) s ≡ taken_events xs (run ys s)
opens-taken [] xs s o = refl
opens-taken (Called c ∷ ys) xs s o = opens-taken ys xs (step s (Called c)) o.1
opens-taken (Worked ∷ ys) xs s o = absurd o
opens-taken (Heard ∷ ys) xs s o = absurd o

opens-events : (ys xs : List Entry) (s : Slots) → Opens ys → run_events (ys ++ xs) s ≡ run_events xs (run ys s)
opens-events [] xs s o = refl
opens-events (Called c ∷ ys) xs s o = opens-events ys xs (step s (Called c)) o.1
opens-events (Worked ∷ ys) xs s o = absurd o
opens-events (Heard ∷ ys) xs s o = absurd o

opens-delivered : (d : PortId) (ys xs : List Entry) → Opens ys → delivered_to d (ys ++ xs) ≡ delivered_to d xs
opens-delivered d [] xs o = refl
opens-delivered d (Called c ∷ ys) xs o = ap (λ ms. ms ++ delivered_to d (ys ++ xs)) (quiet-call d c o.0) ∙ opens-delivered d ys xs o.1
opens-delivered d (Worked ∷ ys) xs o = absurd o
opens-delivered d (Heard ∷ ys) xs o = absurd o

opens-fair : (ys xs : List Entry) → Opens ys → AllBringFair (ys ++ xs) → AllBringFair xs
opens-fair [] xs o a = a
opens-fair (Called c ∷ ys) xs o a = opens-fair ys xs o.1 a.1
opens-fair (Worked ∷ ys) xs o a = absurd o
opens-fair (Heard ∷ ys) xs o a = absurd o

-- what a delivery in such a run splits

pub record SplitsAfter (ys xs before after : List Entry) (x : Entry) : Type 0 where
  pub first : List Entry
  pub before_is : before ≡ ys ++ first
  pub xs_is : xs ≡ first ++ x ∷ after

opens-here : (y : Entry) (ys : List Entry) (c : PortId) (m : Message) → Opens (y ∷ ys) → y ≡ Called (Deliver c m) → ⊥
opens-here y ys c m o e = (subst (λ (x : Entry). Opens (x ∷ ys)) e o).0

opens-splits : (ys xs before after : List Entry) (c : PortId) (m : Message) → Opens ys → ys ++ xs ≡ before ++ Called (Deliver c m) ∷ after → SplitsAfter ys xs before after (Called (Deliver c m))
opens-splits [] xs before after c m o e = record { first = before; before_is = refl; xs_is = e }
opens-splits (y ∷ ys) xs [] after c m o e = absurd (opens-here y ys c m o cc)
opens-splits (Worked ∷ ys) xs (z ∷ before) after c m o e = absurd o
opens-splits (Heard ∷ ys) xs (z ∷ before) after c m o e = absurd o
opens-splits (Called y ∷ ys) xs (z ∷ before) after c m o e =
    let k = opens-splits ys xs before after c m o.1 cc in
    let b = k.before_is in
    record { first = k.first; before_is = cc; xs_is = k.xs_is }

-- the calls since the opening

own-node : (n : ℕ) (c : Call) → IsOwn n c → IsNodes c
own-node n (Settle h answer) is = tt
own-node n (Enqueue i v) is = tt
own-node n (Finish i) is = tt
own-node n (Fail i reason) is = (is.0, is.2)
own-node n (Trigger a reason) is = tt
own-node n (Deliver c m) is = tt
own-node n _ is = absurd is

pub own-nodes : (n : ℕ) (xs : List Entry) → All (IsOwnEntry n) xs → AreNodes xs
own-nodes n [] a = tt
own-nodes n (Called c ∷ xs) a = (own-node n c (All-head (IsOwnEntry n) (Called c) xs a), own-nodes n xs (All-tail (IsOwnEntry n) (Called c) xs a))
own-nodes n (Worked ∷ xs) a = own-nodes n xs (All-tail (IsOwnEntry n) Worked xs a)
own-nodes n (Heard ∷ xs) a = own-nodes n xs (All-tail (IsOwnEntry n) Heard xs a)

-- from the opening on

abbrev begun : Origin → Target → ℕ → Bool → List Entry
begun o t n b = opening o t n b ++ Called (piping (signal_of b) n) ∷ []

begun-opens : (o : Origin) (t : Target) (n : ℕ) (b : Bool) → Opens (begun o t n b)
begun-opens o t n b = opens-append (opening o t n b) (Called (piping (signal_of b) n) ∷ []) (opening-opens o t n b) (tt, tt)

pub begun-runs : (o : Origin) (t : Target) (n : ℕ) (b : Bool) → run (begun o t n b) empty ≡ chained o t n b
begun-runs o t n b = run-append (opening o t n b) (Called (piping (signal_of b) n) ∷ []) empty

past-is : (o : Origin) (t : Target) (n : ℕ) (b : Bool) (xs : List Entry) → past_of o t n b xs ≡ begun o t n b ++ xs
past-is o t n b xs = sym (append_assoc (opening o t n b) (Called (piping (signal_of b) n) ∷ []) xs)

pub past-taken : (o : Origin) (t : Target) (n : ℕ) (b : Bool) (xs : List Entry) → taken_events (past_of o t n b xs) empty ≡ taken_events xs (chained o t n b)
past-taken o t n b xs = ap (λ ys. taken_events ys empty) (past-is o t n b xs) ∙ (opens-taken (begun o t n b) xs empty (begun-opens o t n b) ∙ ap (taken_events xs) (begun-runs o t n b))

pub past-events : (o : Origin) (t : Target) (n : ℕ) (b : Bool) (xs : List Entry) → run_events (past_of o t n b xs) empty ≡ run_events xs (chained o t n b)
past-events o t n b xs = ap (λ ys. run_events ys empty) (past-is o t n b xs) ∙ (opens-events (begun o t n b) xs empty (begun-opens o t n b) ∙ ap (run_events xs) (begun-runs o t n b))

pub past-delivered : (d : PortId) (o : Origin) (t : Target) (n : ℕ) (b : Bool) (xs : List Entry) → delivered_to d (past_of o t n b xs) ≡ delivered_to d xs
past-delivered d o t n b xs = ap (delivered_to d) (past-is o t n b xs) ∙ opens-delivered d (begun o t n b) xs (begun-opens o t n b)

pub past-fair : (o : Origin) (t : Target) (n : ℕ) (b : Bool) (xs : List Entry) → AllBringFair (past_of o t n b xs) → AllBringFair xs
past-fair o t n b xs a = opens-fair (begun o t n b) xs (begun-opens o t n b) (subst AllBringFair (past-is o t n b xs) a)

-- the entries before a delivery are an opening and calls since
pub record SplitsPast (o : Origin) (t : Target) (n : ℕ) (b : Bool) (xs before after : List Entry) (x : Entry) : Type 0 where
  pub first : List Entry
  pub before_is : before ≡ past_of o t n b first
  pub xs_is : xs ≡ first ++ x ∷ after

pub past-splits : (o : Origin) (t : Target) (n : ℕ) (b : Bool) (xs before after : List Entry) (c : PortId) (m : Message) → past_of o t n b xs ≡ before ++ Called (Deliver c m) ∷ after
    → SplitsPast o t n b xs before after (Called (Deliver c m))
past-splits o t n b xs before after c m e =
    let k = opens-splits (begun o t n b) xs before after c m (begun-opens o t n b) (sym (past-is o t n b xs) ∙ e) in
    record { first = k.first; before_is = k.before_is ∙ sym (past-is o t n b k.first); xs_is = k.xs_is }

-- of what a port posted the node has heard a first part

pub record HeardFirst (c : PortId) (heard posted : List Message) : Type 0 where
  pub rest : List Message
  pub is : posted ≡ heard ++ rest

pub past-heard : (c : PortId) (o : Origin) (t : Target) (n : ℕ) (b : Bool) (xs : List Entry)
    → HeardFirst c (posted_in c (taken_events (past_of o t n b xs) empty)) (posted_in c (run_events xs (chained o t n b)))
past-heard c o t n b xs =
    let s : Slots = chained o t n b in
    let later : List Event = (run xs s).promises.events in
    let e : posted_in c (run_events xs s) ≡ posted_in c (taken_events xs s) ++ posted_in c later = ap (posted_in c) (events-split xs s) ∙ posted-append c (taken_events xs s) later in
    record { rest = posted_in c later; is = e ∙ ap (λ es. posted_in c es ++ posted_in c later) (sym (past-taken o t n b xs)) }

-- chunks

pub brought-is : (c : PortId) (xs : List Entry) → run_brought c xs ≡ length (chunks_in (delivered_to c xs))
brought-is c [] = refl
brought-is c (Called call ∷ xs) =
    let h = brought-is c xs in
    let a = ap length (chunks-append (message_by c call) (delivered_to c xs)) in
    let l = length-append (chunks_in (message_by c call)) (chunks_in (delivered_to c xs)) in
    let f = one-brought c call in
    omega (arith, h, a, l, f)
  where
    if-brought : (b : Bool) (m : Message) → (if b then length (chunk_in m) else 0) ≡ length (chunks_in (if b then m ∷ [] else []))
    if-brought true m = ap length (sym (append-nil (chunk_in m)))
    if-brought false m = refl

    one-brought : (c : PortId) (call : Call) → brought c call ≡ length (chunks_in (message_by c call))
    one-brought c (Deliver d m) = if-brought (is_same_port c d) m
    one-brought c _ = refl
brought-is c (Worked ∷ xs) = let h = brought-is c xs in omega (arith, h)
brought-is c (Heard ∷ xs) = let h = brought-is c xs in omega (arith, h)

-- each chunk that lies on a link of a node is bytes

abbrev pub AllBytes : List Value → Type 0
AllBytes [] = Unit {0}
AllBytes (v ∷ vs) = (is_bytes v ≡ true) × AllBytes vs

bytes-append : (xs ys : List Value) → AllBytes xs → AllBytes ys → AllBytes (xs ++ ys)
bytes-append [] ys a b = b
bytes-append (x ∷ xs) ys a b = (a.0, bytes-append xs ys a.1 b)

bytes-left : (xs ys : List Value) → AllBytes (xs ++ ys) → AllBytes xs
bytes-left [] ys a = tt
bytes-left (x ∷ xs) ys a = (a.0, bytes-left xs ys a.1)

bytes-goes : (xs : List Value) (m : Mark) (y : Told Value) → AllBytes xs → AllBytes y.items → AllBytes (goes_on xs m y).items
bytes-goes xs Open y a b = bytes-append xs y.items a b
bytes-goes xs Closed y a b = a
bytes-goes xs Broken y a b = a
bytes-goes xs Lost y a b = a

bytes-then : (x y : Told Value) → AllBytes x.items → AllBytes y.items → AllBytes (then_told x y).items
bytes-then x y a b = bytes-goes x.items x.mark y a b

bytes-first : (x y : Told Value) → AllBytes (then_told x y).items → AllBytes x.items
bytes-first x y a = by x.mark a
  where
    by : (m : Mark) → AllBytes (goes_on x.items m y).items → AllBytes x.items
    by Open a = bytes-left x.items y.items a
    by Closed a = a
    by Broken a = a
    by Lost a = a

bytes-short : (x y : Told Value) → IsShortOf x y → AllBytes y.items → AllBytes x.items
bytes-short x y s a = let f = before_front x y (before_of_short x y s) in bytes-left x.items f.0 (subst AllBytes f.1 a)

bytes-if : (b : Bool) (x : Told Value) → AllBytes x.items → AllBytes (if b then x else silence).items
bytes-if true x a = a
bytes-if false x a = tt

bytes-lets : (g : Giver) (v : Value) → is_bytes v ≡ true → AllBytes (lets_in g v).items
bytes-lets OfSource v h = (h, tt)
bytes-lets OfByteSource (PlainValue v) h = tt
bytes-lets OfByteSource (Bytes []) h = tt
bytes-lets OfByteSource (Bytes (n ∷ ns)) h = (h, tt)
bytes-lets (OfHalf t) v h = (h, tt)
bytes-lets (OfEnd c) v h = tt

fair-bytes : (v : Value) → is_fair_chunk v ≡ true → is_bytes v ≡ true
fair-bytes (Bytes b) h = refl
fair-bytes (PlainValue v) h = cc

bytes-delivered : (m : Message) → is_fair m ≡ true → AllBytes (delivered m).items
bytes-delivered Pull h = tt
bytes-delivered (Chunk v) h = (fair-bytes v h, tt)
bytes-delivered Close h = tt
bytes-delivered (Error r) h = tt

bytes-enters : (g : Giver) (i : StreamId) (c : Call) → BringsFair c → AllBytes (enters g i c).items
bytes-enters g i (Enqueue k v) h = bytes-if (is_same i k) (lets_in g v) (bytes-lets g v h)
bytes-enters OfSource i (Finish k) h = bytes-if (is_same i k) (told [] Closed) tt
bytes-enters OfByteSource i (Finish k) h = bytes-if (is_same i k) (told [] Closed) tt
bytes-enters (OfHalf t) i (Terminate k) h = bytes-if (is_same i k) (told [] Closed) tt
bytes-enters (OfEnd c) i (Deliver d m) h = bytes-if (is_same_port c d) (delivered m) (bytes-delivered m h)
bytes-enters g i c h = grind arith

bytes-next : (k : ℕ) (o : Option Job) → AllBytes (next_enters k o).items
bytes-next k o = grind arith

bytes-brought : (o : Origin) (k : ℕ) (xs : List Entry) (s : Slots) → AllBringFair xs → AllBytes (brought_to o k xs s).items
bytes-brought o k [] s a = tt
bytes-brought o k (Called c ∷ xs) s a =
    bytes-then (call_enters o k c) (brought_to o k xs (step s (Called c))) (bytes-enters (giver o k) (source_of k) c a.0) (bytes-brought o k xs (step s (Called c)) a.1)
bytes-brought o k (Worked ∷ xs) s a = bytes-then (next_enters k (next_job s.promises)) (brought_to o k xs (step s Worked)) (bytes-next k (next_job s.promises)) (bytes-brought o k xs (step s Worked) a)
bytes-brought o k (Heard ∷ xs) s a = bytes-brought o k xs (step s Heard) a

-- a legal row tells each of its chunks

row-items : (ms : List Message) → ends_last ms ≡ true → (row_told ms).items ≡ chunks_in ms
row-items [] h = refl
row-items (Pull ∷ ms) h = row-items ms h
row-items (Chunk v ∷ ms) h = ap (λ vs. v ∷ vs) (row-items ms h)
row-items (Close ∷ []) h = refl
row-items (Close ∷ m ∷ ms) h = cc
row-items (Error r ∷ []) h = refl
row-items (Error r ∷ m ∷ ms) h = cc

abbrev downs : Message → Type 0
downs m = goes_down m ≡ true

abbrev edge_downs : Message → Type 0
edge_downs m = goes_down_edge m ≡ true

edge-kinds : (ms : List Message) → All downs ms → AllBytes (chunks_in ms) → All edge_downs ms
edge-kinds [] a b = All-nil edge_downs
edge-kinds (Pull ∷ ms) a b = let no : goes_down Pull ≡ true = All-head downs Pull ms a in cc
edge-kinds (Chunk v ∷ ms) a b = All-cons edge_downs (Chunk v) ms b.0 (edge-kinds ms (All-tail downs (Chunk v) ms a) b.1)
edge-kinds (Close ∷ ms) a b = All-cons edge_downs Close ms refl (edge-kinds ms (All-tail downs Close ms a) b)
edge-kinds (Error r ∷ ms) a b = All-cons edge_downs (Error r) ms refl (edge-kinds ms (All-tail downs (Error r) ms a) b)

-- what the node has heard of that the port of the edge below posted

pub heard-bytes : (o : Origin) (n : ℕ) (b : Bool) (xs : List Entry) → 2 * n + 2 ≤ most_streams → AreNodes xs → AllBringFair xs → let heard : List Message = posted_in (sink_port o) (taken_events xs (chained o ToPort n b)) in
    ends_last heard ≡ true → All downs heard → All edge_downs heard
heard-bytes o n b xs few nodes fair last kinds =
    let s : Slots = chained o ToPort n b in
    let heard : List Message = posted_in (sink_port o) (taken_events xs s) in
    let short = (each_node_goes o ToPort n b xs few nodes).short n (omega arith) in
    let all : AllBytes (heard_from o ToPort n n xs s).items =
    bytes-first (heard_from o ToPort n n xs s) (behind_at n (run xs s))
    (bytes-short (then_told (heard_from o ToPort n n xs s) (behind_at n (run xs s))) (brought_to o n xs s) short (bytes-brought o n xs s fair)) in
    let told-so : AllBytes (row_told heard).items = subst (λ (t : Told Value). AllBytes t.items) (each_chain_tells_by_posts o n xs s) all in
    edge-kinds heard kinds (subst AllBytes (row-items heard last) told-so)
