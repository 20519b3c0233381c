-- Values that can be cloned, in what is told of a link.
use Rattle.std.proofs.Common.{◌≡◌, ℕ, Bool, true, false, ◌||◌, if◌then◌else◌, List, [], ◌∷◌, ◌++◌, Option, Some, None, refl, sym, ap, subst, ◌∙◌, append_assoc, arith}
use Rattle.std.specs.Prelude.{is_some}
use Rattle.ws_value.specs.declared.ids.PortId.{PortId}
use Rattle.ws_value.specs.declared.ids.PromiseId.{PromiseId}
use Rattle.ws_value.specs.declared.ids.StreamId.{StreamId}
use Rattle.ws_value.specs.declared.value.Message.{Message}
use Rattle.ws_value.specs.declared.value.Message.TheVariants.{Pull, Chunk as ChunkMessage, Close, Error}
use Rattle.ws_value.specs.declared.value.Value.{Value}
use Rattle.ws_value.specs.declared.value.Value.TheVariants.{Plain as PlainValue, Bytes}
use Rattle.ws_value.specs.Values.{is_value_cloneable}
use Rattle.ws_steps.specs.declared.calls.Call.{Call}
use Rattle.ws_steps.specs.declared.calls.Call.TheVariants.{Enqueue, Finish, Deliver, Terminate}
use Rattle.ws_steps.specs.declared.calls.Event.{Event}
use Rattle.ws_steps.specs.declared.calls.Event.TheVariants.{Host as HostEvent, Post}
use Rattle.ws_steps.specs.declared.calls.HostCall.{HostCall}
use Rattle.ws_steps.specs.declared.promises.Job.{Job}
use Rattle.ws_steps.specs.declared.queue.Queued.{Queued}
use Rattle.ws_steps.specs.declared.writable.WritableState.{WritableState}
use Rattle.ws_steps.specs.declared.writable.WritableState.TheVariants.{Writable, Erroring, Errored, Closed as WritableClosed}
use Rattle.ws_steps.specs.declared.writable.WriteRecord.{WriteRecord}
use Rattle.ws_steps.specs.declared.writable.WriteRecord.TheVariants.{Chunk, InFlight, CloseMark}
use Rattle.ws_steps.specs.Cross.{clones_first}
use Rattle.ws_steps.specs.Histories.{is_same, run_events, taken_in_step}
use Rattle.ws_steps.specs.PortHistory.{is_same_port, posted_by, posted_in}
use Rattle.ws_steps.specs.Promises.{next_job}
use Rattle.ws_steps.specs.Queues.{first_value}
use Rattle.ws_steps.specs.Run.{Entry, Called, Worked, Heard, step, run}
use Rattle.ws_steps.specs.Slots.{Slots}
use Rattle.ws_steps.specs.Writable as writable
use Rattle.ws_steps.specs.WritableHistory.{todo}
use Rattle.ws_flow.specs.Told.{Mark, Open, Closed, Broken, Lost, Told, told, goes_on, then_told, IsShortOf}
use Rattle.ws_flow.proofs.Told.{then_assoc, then_empty, before_of_short, before_front}
use Rattle.ws_link_laws.specs.Link as link
use Rattle.ws_link_laws.specs.Link.{Ear, OfPort, Giver, OfSource, OfByteSource, OfHalf, OfEnd, silence, lets_in, is_end, delivered, enters, heard_of, heard_post, unheard, todo_of, before_todo, sink_by, in_sink}
use Rattle.ws_link_laws.specs.Sound.{Closing, FitsIn, SinkFits}
use Rattle.ws_tee_port_laws.specs.ports.Ended.{is_close, has_close}
use Rattle.ws_tee_port_laws.specs.ports.Sending.{can_be_sent}
use Rattle.ws_chain_laws.specs.Chain.{Origin, source_of, giver, call_enters}
use Rattle.ws_chain_laws.specs.Laws.{next_enters}
use Rattle.ws_chain_laws.specs.Runs.{brought_to}
use Rattle.ws_node_laws.specs.Messages.{row_told, taken_events}
use Rattle.ws_clone_laws.specs.Cloning.{BringsClones, AllBringClones}

abbrev pub Cl : List Value → Type 0
Cl [] = Unit {0}
Cl (v ∷ vs) = (is_value_cloneable v ≡ true) × Cl vs

cl-append : (xs ys : List Value) → Cl xs → Cl ys → Cl (xs ++ ys)
cl-append [] ys a b = b
cl-append (x ∷ xs) ys a b = (a.0, cl-append xs ys a.1 b)

pub cl-left : (xs ys : List Value) → Cl (xs ++ ys) → Cl xs
cl-left [] ys a = tt
cl-left (x ∷ xs) ys a = (a.0, cl-left xs ys a.1)

pub cl-right : (xs ys : List Value) → Cl (xs ++ ys) → Cl ys
cl-right [] ys a = a
cl-right (x ∷ xs) ys a = cl-right xs ys a.1

cl-goes : (xs : List Value) (m : Mark) (y : Told Value) → Cl xs → Cl y.items → Cl (goes_on xs m y).items
cl-goes xs Open y a b = cl-append xs y.items a b
cl-goes xs Closed y a b = a
cl-goes xs Broken y a b = a
cl-goes xs Lost y a b = a

cl-then : (x y : Told Value) → Cl x.items → Cl y.items → Cl (then_told x y).items
cl-then x y a b = cl-goes x.items x.mark y a b

-- the first of two
pub cl-first : (x y : Told Value) → Cl (then_told x y).items → Cl x.items
cl-first x y a = by x.mark a
  where
    by : (m : Mark) → Cl (goes_on x.items m y).items → Cl x.items
    by Open a = cl-left x.items y.items a
    by Closed a = a
    by Broken a = a
    by Lost a = a

-- the second of two, where more may come after the first
pub cl-second : (x y : Told Value) → x.mark ≡ Open → Cl (then_told x y).items → Cl y.items
cl-second x y e a = cl-right x.items y.items (subst (λ (m : Mark). Cl (goes_on x.items m y).items) e a)

pub cl-short : (x y : Told Value) → IsShortOf x y → Cl y.items → Cl x.items
cl-short x y s a = let f = before_front x y (before_of_short x y s) in cl-left x.items f.0 (subst Cl f.1 a)

-- what enters

cl-if : (b : Bool) (x : Told Value) → Cl x.items → Cl (if b then x else silence).items
cl-if true x a = a
cl-if false x a = tt

lets-cl : (g : Giver) (v : Value) → is_value_cloneable v ≡ true → Cl (lets_in g v).items
lets-cl OfSource v h = (h, tt)
lets-cl OfByteSource (PlainValue v) h = tt
lets-cl OfByteSource (Bytes []) h = tt
lets-cl OfByteSource (Bytes (n ∷ ns)) h = (h, tt)
lets-cl (OfHalf t) v h = (h, tt)
lets-cl (OfEnd c) v h = tt

delivered-cl : (m : Message) → can_be_sent m ≡ true → Cl (delivered m).items
delivered-cl Pull h = tt
delivered-cl (ChunkMessage v) h = (h, tt)
delivered-cl Close h = tt
delivered-cl (Error r) h = tt

enters-cl : (g : Giver) (i : StreamId) (c : Call) → BringsClones c → Cl (enters g i c).items
enters-cl g i (Enqueue k v) h = cl-if (is_same i k) (lets_in g v) (lets-cl g v h)
enters-cl OfSource i (Finish k) h = cl-if (is_same i k) (told [] Closed) tt
enters-cl OfByteSource i (Finish k) h = cl-if (is_same i k) (told [] Closed) tt
enters-cl (OfHalf t) i (Terminate k) h = cl-if (is_same i k) (told [] Closed) tt
enters-cl (OfEnd c) i (Deliver d m) h = cl-if (is_same_port c d) (delivered m) (delivered-cl m h)
enters-cl g i c h = grind arith

next-cl : (k : ℕ) (o : Option Job) → Cl (next_enters k o).items
next-cl k o = grind arith

pub brought-cl : (origin : Origin) (k : ℕ) (xs : List Entry) (s : Slots) → AllBringClones xs → Cl (brought_to origin k xs s).items
brought-cl origin k [] s a = tt
brought-cl origin k (Called c ∷ xs) s a = cl-then (call_enters origin k c) (brought_to origin k xs (step s (Called c))) (enters-cl (giver origin k) (source_of k) c a.0) (brought-cl origin k xs (step s (Called c)) a.1)
brought-cl origin k (Worked ∷ xs) s a = cl-then (next_enters k (next_job s.promises)) (brought_to origin k xs (step s Worked)) (next-cl k (next_job s.promises)) (brought-cl origin k xs (step s Worked) a)
brought-cl origin k (Heard ∷ xs) s a = brought-cl origin k xs (step s Heard) a

-- where no close was posted, more may come

pub open-told : (ms : List Message) → has_close ms ≡ false → (row_told ms).mark ≡ Open
open-told [] h = refl
open-told (Pull ∷ ms) h = open-told ms h
open-told (ChunkMessage v ∷ ms) h = open-told ms h
open-told (Close ∷ ms) h = cc
open-told (Error r ∷ ms) h = open-told ms h

pub close-left : (xs ys : List Message) → has_close (xs ++ ys) ≡ false → has_close xs ≡ false
close-left [] ys h = refl
close-left (x ∷ xs) ys h = by (is_close x) (close-left xs ys) h
  where
    by : (b : Bool) → (has_close (xs ++ ys) ≡ false → has_close xs ≡ false) → (b || has_close (xs ++ ys)) ≡ false → (b || has_close xs) ≡ false
    by true f h = cc
    by false f h = f h

pub close-right : (xs ys : List Message) → has_close (xs ++ ys) ≡ false → has_close ys ≡ false
close-right [] ys h = h
close-right (x ∷ xs) ys h = by (is_close x) (close-right xs ys) h
  where
    by : (b : Bool) → (has_close (xs ++ ys) ≡ false → has_close ys ≡ false) → (b || has_close (xs ++ ys)) ≡ false → has_close ys ≡ false
    by true f h = cc
    by false f h = f h

row-append : (xs ys : List Message) → row_told (xs ++ ys) ≡ then_told (row_told xs) (row_told ys)
row-append [] ys = refl
row-append (x ∷ xs) ys = ap (then_told (heard_post x)) (row-append xs ys) ∙ sym (then_assoc (heard_post x) (row_told xs) (row_told ys))

heard-posted : (c : PortId) (e : Event) → heard_of (OfPort c) e ≡ row_told (posted_by c e)
heard-posted c (Post d m) = by (is_same_port c d)
  where
    by : (b : Bool) → (if b then heard_post m else silence) ≡ row_told (if b then m ∷ [] else [])
    by true = sym (then_empty (heard_post m))
    by false = refl
heard-posted c (HostEvent id call) = none call
  where
    none : (call : HostCall) → link.heard_call (OfPort c) call ≡ silence
    none call = grind (arith)
heard-posted c e = refl

pub unheard-told : (c : PortId) (es : List Event) → unheard (OfPort c) es ≡ row_told (posted_in c es)
unheard-told c [] = refl
unheard-told c (e ∷ es) =
    ap (λ (t : Told Value). then_told t (unheard (OfPort c) es)) (heard-posted c e) ∙ (ap (then_told (row_told (posted_by c e))) (unheard-told c es) ∙ sym (row-append (posted_by c e) (posted_in c es)))

pub events-split : (xs : List Entry) (s : Slots) → run_events xs s ≡ taken_events xs s ++ (run xs s).promises.events
events-split [] s = refl
events-split (x ∷ xs) s = ap (λ (es : List Event). taken_in_step s x ++ es) (events-split xs (step s x)) ∙ sym (append_assoc (taken_in_step s x) (taken_events xs (step s x)) (run xs (step s x)).promises.events)

-- the first record

first-cl : (qs : List (Queued WriteRecord)) → Cl (todo_of qs).items → clones_first (first_value qs) ≡ true
first-cl [] a = refl
first-cl (q ∷ qs) a = by q.value a
  where
    by : (r : WriteRecord) → Cl (before_todo r (todo_of qs)).items → clones_first (Some r) ≡ true
    by (Chunk v) a = a.0
    by InFlight a = refl
    by CloseMark a = refl

none-first : (qs : List (Queued WriteRecord)) → qs ≡ [] → clones_first (first_value qs) ≡ true
none-first qs e = rw e refl

pub sink-cl : (w : writable.Slots) → SinkFits w → Cl (in_sink w).items → clones_first (first_value w.queue) ≡ true
sink-cl w f a = by w.state f a
  where
    flies : (o : Option PromiseId) → Closing o w.queue w.close_request → Cl (sink_by Writable (is_some o) (todo_of w.queue)).items → clones_first (first_value w.queue) ≡ true
    flies None c a = first-cl w.queue a
    flies (Some p) c a = none-first w.queue c.0

    erring : (o : Option PromiseId) → Closing o w.queue w.close_request → Cl (sink_by Erroring (is_some o) (todo_of w.queue)).items → clones_first (first_value w.queue) ≡ true
    erring None c a = first-cl w.queue a
    erring (Some p) c a = none-first w.queue c.0

    by : (state : WritableState) → FitsIn state w → Cl (sink_by state (is_some w.close_in_flight) (todo_of w.queue)).items → clones_first (first_value w.queue) ≡ true
    by Writable f a = flies w.close_in_flight f.closing a
    by Erroring f a = erring w.close_in_flight f.closing a
    by Errored f a = none-first w.queue f.1
    by WritableClosed f a = none-first w.queue f.1

pub ended-first : (w : writable.Slots) → SinkFits w → writable.has_ended w.state ≡ true → clones_first (first_value w.queue) ≡ true
ended-first w f e = by w.state f e
  where
    by : (state : WritableState) → FitsIn state w → writable.has_ended state ≡ true → clones_first (first_value w.queue) ≡ true
    by Writable f e = cc
    by Erroring f e = cc
    by Errored f e = none-first w.queue f.1
    by WritableClosed f e = none-first w.queue f.1

pub todo-first : (qs : List (Queued WriteRecord)) → todo qs ≡ [] → clones_first (first_value qs) ≡ true
todo-first [] h = refl
todo-first (q ∷ qs) h = by q.value h
  where
    by : (r : WriteRecord) → todo (record { value = r; size = q.size } ∷ qs) ≡ [] → clones_first (Some r) ≡ true
    by (Chunk v) h = cc
    by InFlight h = refl
    by CloseMark h = refl
