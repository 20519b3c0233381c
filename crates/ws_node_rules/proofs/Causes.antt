-- Each error that a node gave down has a reason that came to it or has its cause in it, or tells of want of memory. An error that came up justifies none:
-- once one came, those that the port of the edge below posts are for failures before it.
use Rattle.std.proofs.Common.{◌≡◌, ℕ, zero, suc, ◌≤◌, nat_eq, Bool, true, List, [], ◌∷◌, ◌++◌, map, All, Contains, Option, Some, None, slice_get, refl, sym, ap, subst, ◌∙◌, append_assoc, arith}
use Rattle.std.specs.Prelude.{is_some}
use Rattle.std.proofs.lemmas.List.Elements.{All-nil, All-cons, All-append, All-contains}
use Rattle.ws_value.specs.declared.fault.Fault.TheVariants.{NoMemory}
use Rattle.ws_value.specs.declared.ids.PortId.{PortId}
use Rattle.ws_value.specs.declared.value.Message.{Message}
use Rattle.ws_value.specs.declared.value.Message.TheVariants.{Pull, Chunk, Close, Error}
use Rattle.ws_value.specs.declared.value.Plain.{Plain}
use Rattle.ws_value.specs.declared.value.Plain.TheVariants.{Fault as FaultReason}
use Rattle.ws_edge.specs.Edge.{AtEdge, given}
use Rattle.ws_steps.specs.declared.calls.Answer.{Answer}
use Rattle.ws_steps.specs.declared.calls.Answer.TheVariants.{Ok as AnswerOk, Fail as AnswerFail}
use Rattle.ws_steps.specs.declared.calls.Call.{Call}
use Rattle.ws_steps.specs.declared.calls.Call.TheVariants.{Enqueue, Finish, Fail, Trigger, Deliver, Settle}
use Rattle.ws_steps.specs.declared.effects.Owner.{Owner}
use Rattle.ws_steps.specs.declared.effects.Owner.TheVariants.{EndOf}
use Rattle.ws_steps.specs.declared.port.Side.TheVariants.{Writable as WritableSide}
use Rattle.ws_steps.specs.Cross as cross
use Rattle.ws_steps.specs.Cross.{data_clone}
use Rattle.ws_steps.specs.Histories.{run_events}
use Rattle.ws_steps.specs.PortHistory.{posted_in}
use Rattle.ws_steps.specs.Run.{Entry, Called, Worked, Heard, run}
use Rattle.ws_steps.specs.Slots.{Slots, Stream, ReadableStream, ByteStream, WritableStream, empty, has_port, port_at, as_port, owner_at, owner_of, is_writable_stream}
use Rattle.ws_laws.proofs.Ended.{Ended, PortShape, port_shape, run-ended}
use Rattle.ws_laws.proofs.Shapes.{WritableOf, stream_shape}
use Rattle.ws_reason_laws.specs.Reasons.{failure_of, failures}
use Rattle.ws_chain_laws.specs.Chain.{Origin, Target, ToSink, ToPort, dest_of, sink_port}
use Rattle.ws_chain_laws.specs.Opening.{chained, opening, piping, signal_of}
use Rattle.ws_chain_laws.specs.Outcomes.{past_of}
use Rattle.ws_chain_laws.specs.Runs.{IsNodes, AreNodes}
use Rattle.ws_chain_laws.proofs.Begins.{run-append}
use Rattle.ws_chain_laws.proofs.Links.{link-at, takes-at}
use Rattle.ws_chain_laws.proofs.Outcomes.{past-fails}
use Rattle.ws_chain_laws.proofs.Runs.{each_node_goes}
use Rattle.ws_clone_laws.proofs.Nodes.{each_node_clones, each_node_error_is_older}
use Rattle.ws_joined_laws.specs.Reasons.{reasons_in}
use Rattle.ws_node_laws.specs.Messages.{taken_events}
use Rattle.ws_realm.specs.declared.realm.Why.{Why}
use Rattle.ws_realm.specs.declared.realm.Why.TheVariants as why
use Rattle.ws_node.specs.declared.node.Node.{Node}
use Rattle.ws_node.specs.Fair.{IsFairAnswer, BringsFair, AllBringFair}
use Rattle.ws_node.specs.Messages.{is_fair, is_fair_reason}
use Rattle.ws_node.specs.Node.{given_at, sent_at, waiting_at}
use Rattle.ws_node.specs.Past.{FeedsAs, IsCause, AreCaused, AllCaused, UntilError, IsGiven, Whole, FirstPart, WithLast, EndHas}
use Rattle.ws_node.specs.Rules.{IsSentFor, Caused, Wanting, HasCauses, EachErrorHasItsCause, EachNodeSendsDown}
use Rattle.ws_node.specs.Shape.{Shape, count_in}
use Rattle.ws_node.proofs.Fairly.{fair-clones}
use Rattle.ws_node.proofs.Firsts.{all-left, reasons-append, all-reasons}
use Rattle.ws_node.proofs.Legal.{Rests, driven-rests, few-streams, each_node_is_legal}
use Rattle.ws_node.proofs.Posted.{own-nodes, past-events, past-fair, past-heard, past-splits}

-- the failures of a node are fair, and so none is a DataCloneError

abbrev fair_reasons : Plain → Type 0
fair_reasons r = is_fair_reason r ≡ true

delivers-fair : (m : Message) → is_fair m ≡ true → All fair_reasons (failure_of (Deliver (record { 0 = 0 }) m))
delivers-fair Pull h = All-nil fair_reasons
delivers-fair (Chunk v) h = All-nil fair_reasons
delivers-fair Close h = All-nil fair_reasons
delivers-fair (Error r) h = All-cons fair_reasons r [] h (All-nil fair_reasons)

settles-fair : (x : Answer) → IsFairAnswer x → All fair_reasons (failure_of (Settle (record { 0 = 0 }) x))
settles-fair AnswerOk h = All-nil fair_reasons
settles-fair (AnswerFail r) h = All-cons fair_reasons r [] h (All-nil fair_reasons)

call-fair : (c : Call) → IsNodes c → BringsFair c → All fair_reasons (failure_of c)
call-fair (Settle h answer) is f = settles-fair answer f
call-fair (Enqueue i v) is f = All-nil fair_reasons
call-fair (Finish i) is f = All-nil fair_reasons
call-fair (Fail i reason) is f = All-cons fair_reasons reason [] f (All-nil fair_reasons)
call-fair (Trigger a reason) is f = All-cons fair_reasons reason [] f (All-nil fair_reasons)
call-fair (Deliver c m) is f = delivers-fair m f
call-fair _ is f = absurd is

failures-fair : (xs : List Entry) → AreNodes xs → AllBringFair xs → All fair_reasons (failures xs)
failures-fair [] nodes f = All-nil fair_reasons
failures-fair (Called c ∷ xs) nodes f = All-append fair_reasons (failure_of c) (failures xs) (call-fair c nodes.0 f.0) (failures-fair xs nodes.1 f.1)
failures-fair (Worked ∷ xs) nodes f = failures-fair xs nodes f
failures-fair (Heard ∷ xs) nodes f = failures-fair xs nodes f

none-clones : (xs : List Entry) → AreNodes xs → AllBringFair xs → Contains (failures xs) data_clone → ⊥
none-clones xs nodes f c = let no : is_fair_reason data_clone ≡ true = All-contains fair_reasons (failures xs) data_clone (failures-fair xs nodes f) c in cc

-- the port of the edge below is there, and has a writable end

port-there : (ps : List cross.Slots) (n : ℕ) (y : PortShape) → slice_get (map port_shape ps) n ≡ Some y → (is_some (slice_get ps n) ≡ true) × (port_shape (as_port (slice_get ps n)) ≡ y)
port-there [] n y e = cc
port-there (p ∷ ps) zero y e = (refl, cc)
port-there (p ∷ ps) (suc n) y e = port-there ps n y e

sink-shape : (xs : List Stream) (n : ℕ) (o : Owner) → is_writable_stream (slice_get xs n) ≡ true → owner_of (slice_get xs n) ≡ o → slice_get (map stream_shape xs) n ≡ Some (WritableOf o)
sink-shape [] n o h e = cc
sink-shape (ReadableStream r ∷ xs) zero o h e = cc
sink-shape (ByteStream b ∷ xs) zero o h e = cc
sink-shape (WritableStream w ∷ xs) zero o h e = ap (λ q. Some (WritableOf q)) e
sink-shape (x ∷ xs) (suc n) o h e = sink-shape xs n o h e

same_self : (n : ℕ) → nat_eq n n ≡ true
same_self n = grind arith

record HasSinkPort (o : Origin) (s : Slots) : Type 0 where
  there : has_port (sink_port o) s ≡ true
  side : (port_at (sink_port o) s).side ≡ WritableSide

sink-there : (o : Origin) (n : ℕ) (b : Bool) (xs : List Entry) → n ≤ 16 → AreNodes xs → HasSinkPort o (run (past_of o ToPort n b xs) empty)
sink-there o n b xs few nodes =
    let c = sink_port o in
    let g = each_node_goes o ToPort n b xs (few-streams n few) nodes in
    let all : List Entry = past_of o ToPort n b xs in
    let z : Slots = run xs (chained o ToPort n b) in
    let is : run all empty ≡ z = run-append (opening o ToPort n b) (Called (piping (signal_of b) n) ∷ xs) empty in
    let link = (link-at o ToPort n z g.chain n (omega arith)).link in
    let self = same_self n in
    let own : owner_at (dest_of n) z ≡ EndOf c = takes-at o ToPort n z g.chain n (omega arith) ∙ rw self refl in
    let shape = sink-shape z.streams (dest_of n).0 (EndOf c) link.sink own in
    let ended : Ended z = subst (λ (s : Slots). Ended s) is (run-ended all) in
    let port = port-there z.ports c.0 _ (ended.end (dest_of n) c WritableSide shape) in
    subst (HasSinkPort o) (sym is) (record { there = port.0; side = ap (λ (y : PortShape). y.side) port.1 })

nodes-first : (xs ys : List Entry) → AreNodes (xs ++ ys) → AreNodes xs
nodes-first [] ys a = tt
nodes-first (Called c ∷ xs) ys a = (a.0, nodes-first xs ys a.1)
nodes-first (Worked ∷ xs) ys a = nodes-first xs ys a
nodes-first (Heard ∷ xs) ys a = nodes-first xs ys a

-- the reason of an error that the port of the edge below posted

module _ (o : Origin) (n : ℕ) (b : Bool) (few : n ≤ 16) where
  abbrev all-of : List Entry → List Entry
  all-of xs = past_of o ToPort n b xs

  abbrev Posts : List Entry → Plain → List Message → List Message → Type 0
  Posts xs r before after = posted_in (sink_port o) (run_events (all-of xs) empty) ≡ before ++ Error r ∷ after

  heard-posts : (xs : List Entry) (r : Plain) (before after : List Message) → (e : posted_in (sink_port o) (taken_events (all-of xs) empty) ≡ before ++ Error r ∷ after)
      → Posts xs r before (after ++ (past-heard (sink_port o) o ToPort n b xs).rest)
  heard-posts xs r before after e =
      let c = sink_port o in
      let h = past-heard c o ToPort n b xs in
      ap (posted_in c) (past-events o ToPort n b xs) ∙ (h.is ∙ (ap (λ ms. ms ++ h.rest) e ∙ append_assoc before (Error r ∷ after) h.rest))

  was-failure : (xs : List Entry) → AreNodes xs → AllBringFair xs → (r : Plain) (before after : List Message) → Posts xs r before after → Contains (failures xs) r
  was-failure xs nodes fair r before after e = (each_node_clones o ToPort n b xs (few-streams n few) nodes (fair-clones xs fair)).posted (sink_port o) r before after e

  was-before : (pre rest : List Entry) (up : Plain) → let xs : List Entry = pre ++ Called (Deliver (sink_port o) (Error up)) ∷ rest in
      AreNodes xs → AllBringFair xs → (r : Plain) (before after : List Message) → Posts xs r before after → Contains (failures pre) r
  was-before pre rest up nodes fair r before after e =
      let xs : List Entry = pre ++ Called (Deliver (sink_port o) (Error up)) ∷ rest in
      let port = sink-there o n b pre few (nodes-first pre (Called (Deliver (sink_port o) (Error up)) ∷ rest) nodes) in
      each_node_error_is_older o ToPort n b pre rest (sink_port o) up r before after (few-streams n few) nodes (fair-clones xs fair) (none-clones xs nodes fair) port.there port.side e

  -- so it has its cause

  cause-all : (node : Node) (xs : List Entry) → AreNodes xs → AllBringFair xs → All (IsCause node) (failures (all-of xs)) → (r : Plain) (before after : List Message)
      → posted_in (sink_port o) (taken_events (all-of xs) empty) ≡ before ++ Error r ∷ after → IsCause node r
  cause-all node xs nodes fair all r before after e =
      All-contains (IsCause node) (failures xs) r (subst (All (IsCause node)) (past-fails o ToPort n b xs) all) (was-failure xs nodes fair r before _ (heard-posts xs r before after e))

  cause-until : (node : Node) (xs : List Entry) → AreNodes xs → AllBringFair xs → (first later : List Entry) (up : Plain) → all-of xs ≡ first ++ Called (Deliver (sink_port o) (Error up)) ∷ later
      → All (IsCause node) (failures first) → (r : Plain) (before after : List Message) → posted_in (sink_port o) (taken_events (all-of xs) empty) ≡ before ++ Error r ∷ after → IsCause node r
  cause-until node xs nodes fair first later up is all r before after e =
      let k = past-splits o ToPort n b xs first later (sink_port o) (Error up) is in
      let rest : List Message = (past-heard (sink_port o) o ToPort n b xs).rest in
      let posts = heard-posts xs r before after e in
      let c = was-before k.first later up (subst AreNodes k.xs_is nodes) (subst AllBringFair k.xs_is fair) r before (after ++ rest) (subst (λ ys. Posts ys r before (after ++ rest)) k.xs_is posts) in
      All-contains (IsCause node) (failures k.first) r (subst (All (IsCause node)) (past-fails o ToPort n b k.first) (subst (λ ys. All (IsCause node) (failures ys)) k.before_is all)) c

  cause-by : (shape : Shape) (past : List Entry) (node : Node) (xs : List Entry) → shape.origin ≡ o → past ≡ all-of xs → AreNodes xs → AllBringFair xs → AreCaused shape past node
      → (r : Plain) (before after : List Message) → posted_in (sink_port o) (taken_events past empty) ≡ before ++ Error r ∷ after → IsCause node r
  cause-by shape past node xs is-o is nodes fair (AllCaused all) r before after e =
      cause-all node xs nodes fair (subst (λ ys. All (IsCause node) (failures ys)) is all) r before after (subst (λ ys. posted_in (sink_port o) (taken_events ys empty) ≡ before ++ Error r ∷ after) is e)
  cause-by shape past node xs is-o is nodes fair (UntilError t first later up split all) r before after e =
      cause-until node xs nodes fair first later up (sym is ∙ (split ∙ ap (λ (q : Origin). first ++ Called (Deliver (sink_port q) (Error up)) ∷ later) is-o)) all r before after
      (subst (λ ys. posted_in (sink_port o) (taken_events ys empty) ≡ before ++ Error r ∷ after) is e)

  fair-by : (past xs : List Entry) → past ≡ all-of xs → AreNodes xs → AllBringFair xs → (r : Plain) (before after : List Message)
      → posted_in (sink_port o) (taken_events past empty) ≡ before ++ Error r ∷ after → fair_reasons r
  fair-by past xs is nodes fair r before after e =
      All-contains fair_reasons (failures xs) r (failures-fair xs nodes fair)
      (was-failure xs nodes fair r before _ (heard-posts xs r before after (subst (λ ys. posted_in (sink_port o) (taken_events ys empty) ≡ before ++ Error r ∷ after) is e)))

-- of those that were given

given-reasons : (P : Plain → Type 0) (posted ms : List Message) (stopped : Option Why) → (stopped ≡ Some why.NoMemory → P (FaultReason NoMemory)) → All P (reasons_in posted) → IsGiven posted ms stopped → All P (reasons_in ms)
given-reasons P posted ms stopped last a (Whole e) = subst (λ ys. All P (reasons_in ys)) (sym e) a
given-reasons P posted ms stopped last a (FirstPart s rest e) = all-left P (reasons_in ms) (reasons_in rest) (subst (All P) (ap reasons_in e ∙ reasons-append ms rest) a)
given-reasons P posted ms stopped last a (WithLast s first rest e none is) =
    let error : Message = Error (FaultReason NoMemory) in
    let before = all-left P (reasons_in first) (reasons_in rest) (subst (All P) (ap reasons_in e ∙ reasons-append first rest) a) in
    subst (All P) (sym (ap reasons_in is ∙ reasons-append first (error ∷ [])))
    (All-append P (reasons_in first) (FaultReason NoMemory ∷ []) before (All-cons P (FaultReason NoMemory) [] (last s) (All-nil P)))

reasons-at : (P : Plain → Type 0) (port : PortId) (past : List Entry) (stopped : Option Why) (o : Option AtEdge) → (stopped ≡ Some why.NoMemory → P (FaultReason NoMemory)) → EndHas port past stopped o
    → All P (reasons_in (posted_in port (taken_events past empty))) → All P (reasons_in (given_at o))
reasons-at P port past stopped None last h a = All-nil P
reasons-at P port past stopped (Some e) last h a = given-reasons P (posted_in port (taken_events past empty)) (given e) stopped last a h.given

sent-for : (n : Node) → n.core.stopped ≡ Some why.NoMemory → IsSentFor n (FaultReason NoMemory)
sent-for n s = Wanting refl s

pub rests-caused : (shape : Shape) (past : List Entry) (n : Node) → Rests shape past n → AreCaused shape past n → HasCauses n
rests-caused shape past n r caused = by shape.target refl r.into
  where
    by : (t : Target) → shape.target ≡ t → FeedsAs t n.exit → HasCauses n
    by ToSink e f = record {
      causes = subst (λ (o : Option AtEdge). All (IsSentFor n) (reasons_in (given_at o))) (sym f.1) (All-nil (IsSentFor n));
      fair = subst (λ (o : Option AtEdge). All fair_reasons (reasons_in (given_at o))) (sym f.1) (All-nil fair_reasons);
    }
    by ToPort e f =
        let o = shape.origin in
        let m = count_in shape in
        let b = shape.aborted in
        let c = sink_port o in
        let k = r.opened in
        let is : past ≡ past_of o ToPort m b k.since = k.is ∙ ap (λ t. past_of o t m b k.since) e in
        let nodes = own-nodes m k.since k.own in
        let fair = past-fair o ToPort m b k.since (subst AllBringFair is r.fair) in
        let posted : List Message = posted_in c (taken_events past empty) in
        let ends = r.ends in
        record {
          causes = reasons-at (IsSentFor n) c past n.core.stopped n.exit.below (sent-for n) ends.below
              (all-reasons (IsSentFor n) posted (λ x before after q. Caused (cause-by o m b r.few shape past n k.since refl is nodes fair caused x before after q)));
          fair = reasons-at fair_reasons c past n.core.stopped n.exit.below (λ s. refl) ends.below
              (all-reasons fair_reasons posted (λ x before after q. fair-by o m b r.few past k.since is nodes fair x before after q));
        }

pub each_error_has_its_cause : EachErrorHasItsCause
each_error_has_its_cause n d = rests-caused d.shape d.past n (driven-rests n d) d.since.led.failed

-- what it posted of that

pub each_node_sends_down : EachNodeSendsDown
each_node_sends_down n d feeds =
    let legal = (each_node_is_legal n d).posted_down in
    let causes = (each_error_has_its_cause n d).causes in
    let all : All (IsSentFor n) (reasons_in (sent_at n.exit.below) ++ reasons_in (waiting_at n.exit.below)) = subst (All (IsSentFor n)) (reasons-append (sent_at n.exit.below) (waiting_at n.exit.below)) causes in
    record { kinds = legal.kinds; last = legal.last; causes = all-left (IsSentFor n) (reasons_in (sent_at n.exit.below)) (reasons_in (waiting_at n.exit.below)) all }
