-- The reasons in a node of a pipeline (`each_node_clones`, `each_node_error_is_older`).
use Rattle.std.proofs.Common.{◌≡◌, ℕ, zero, suc, ◌+◌, ◌*◌, ◌≤◌, ◌<◌, Bool, true, false, ◌||◌, List, [], ◌∷◌, ◌++◌, Some, None, Contains, slice_get, refl, sym, ap, subst, ◌∙◌, append_assoc, arith}
use Rattle.ws_value.specs.declared.ids.PipeId.{PipeId}
use Rattle.ws_value.specs.declared.ids.PortId.{PortId}
use Rattle.ws_value.specs.declared.ids.PromiseId.{PromiseId}
use Rattle.ws_value.specs.declared.ids.StreamId.{StreamId}
use Rattle.ws_value.specs.declared.value.Message.{Message}
use Rattle.ws_value.specs.declared.value.Message.TheVariants.{Pull as PullMessage, Chunk as ChunkMessage, Close as CloseMessage, Error as ErrorMessage}
use Rattle.ws_value.specs.declared.value.Outcome.TheVariants.{Rejected}
use Rattle.ws_value.specs.declared.value.Plain.{Plain}
use Rattle.ws_value.specs.declared.value.Plain.TheVariants.{Pair}
use Rattle.ws_value.specs.Values.{is_cloneable}
use Rattle.ws_steps.specs.declared.calls.Answer.TheVariants.{Ok as AnswerOk, Fail as AnswerFail}
use Rattle.ws_steps.specs.declared.calls.Call.{Call}
use Rattle.ws_steps.specs.declared.calls.Call.TheVariants.{Enqueue, Finish, Fail, Trigger, Deliver, Settle}
use Rattle.ws_steps.specs.declared.readable.ReadableState.TheVariants.{Errored}
use Rattle.ws_steps.specs.Begun.{Begun}
use Rattle.ws_steps.specs.Calls.{begin}
use Rattle.ws_steps.specs.Cross as cross
use Rattle.ws_steps.specs.Cross.{data_clone}
use Rattle.ws_steps.specs.Histories.{run_events}
use Rattle.ws_steps.specs.PipeCalls as pipe_calls
use Rattle.ws_steps.specs.PortHistory.{posted_in}
use Rattle.ws_steps.specs.Promises.{outcome_at}
use Rattle.ws_steps.specs.Run.{Entry, Called, Worked, Heard, run}
use Rattle.ws_steps.specs.Slots.{Slots, empty, most_streams, source_at, writable_at, clones_at}
use Rattle.ws_steps.specs.Writable.{is_erroring, is_errored}
use Rattle.ws_reason_laws.specs.Origins.{origins}
use Rattle.ws_reason_laws.specs.Reasons.{failure_of, failures, NeedsTee, NeedsPort}
use Rattle.ws_reason_laws.proofs.Among.{is_among, among_contained, contained_among, same_reason, reason_same, good_among, all-good}
use Rattle.ws_reason_laws.proofs.Answers.{bad-append}
use Rattle.ws_reason_laws.proofs.Given.{whole-empty, begin-is, promise-is, known_rejected}
use Rattle.ws_reason_laws.proofs.Begins.{own-known}
use Rattle.ws_reason_laws.proofs.Known.{Badness, Known, class, teed_at, teed-at}
use Rattle.ws_reason_laws.proofs.Quiet.{origin-failed}
use Rattle.ws_reason_laws.proofs.Rows.{stream-there, source-good, dest-good}
use Rattle.ws_reason_laws.proofs.Stored.{errored-bad, erroring-bad}
use Rattle.ws_reason_laws.proofs.Weights.{Class, bad_of}
use Rattle.ws_posted_laws.proofs.Posted.{bad_in, among-bad}
use Rattle.ws_posted_laws.proofs.Older.{each_posted_error_is_older}
use Rattle.ws_wire_laws.specs.Wire.{Joint}
use Rattle.ws_wire_laws.specs.Segments.{wiring, nothing_made}
use Rattle.ws_chain_laws.proofs.Wirings.{gives_at, hears_at}
use Rattle.ws_chain_laws.specs.Chain.{Origin, FromChunks, FromBytes, FromPort, Target, ToSink, ToPort, source_of, dest_of, link_of}
use Rattle.ws_chain_laws.specs.Opening.{one_segment, nothing_prevented, signal_of, piping, opening, opened, chained}
use Rattle.ws_chain_laws.specs.Outcomes.{past_of, last_promise}
use Rattle.ws_chain_laws.specs.Runs.{IsNodes, AreNodes}
use Rattle.ws_chain_laws.proofs.Begins.{run-append, one-link, each_chain_begins}
use Rattle.ws_chain_laws.proofs.Outcomes.{past-fails, past-none, unlocked}
use Rattle.ws_chain_laws.proofs.Runs.{each_node_goes}
use Rattle.ws_clone_laws.specs.Cloning.{BringsClones, AllBringClones, EachNodeClones, EachNodeErrorIsOlder}
use Rattle.ws_clone_laws.proofs.Ends.{node-ours, all-is, all-events, ports-at, source-clones, sink-clones}
use Rattle.ws_reason_laws.specs.Origins.{through, through_of}
use Rattle.ws_reason_laws.proofs.Brought.{through-append}
use Rattle.ws_chain_laws.proofs.Begins as begins
use Rattle.ws_clone_laws.proofs.Opening.{PipesNone, plain-fine, piping-fine, opening-fine}
use Rattle.ws_clone_laws.proofs.Walk.{bad, Held, FineEntry, AllFine, begun-held, run-held, run-posts}

-- the reasons of failures can be cloned

abbrev Each_clones : List Plain → Type 0
Each_clones [] = Unit {0}
Each_clones (r ∷ rs) = (is_cloneable r ≡ true) × Each_clones rs

clones-append : (xs ys : List Plain) → Each_clones xs → Each_clones ys → Each_clones (xs ++ ys)
clones-append [] ys a b = b
clones-append (x ∷ xs) ys a b = (a.0, clones-append xs ys a.1 b)

call-clones : (c : Call) → BringsClones c → IsNodes c → Each_clones (failure_of c)
call-clones (Settle h AnswerOk) b n = tt
call-clones (Settle h (AnswerFail r)) b n = (b, tt)
call-clones (Enqueue i v) b n = tt
call-clones (Finish i) b n = tt
call-clones (Fail i r) b n = (b, tt)
call-clones (Trigger a r) b n = (b, tt)
call-clones (Deliver c PullMessage) b n = tt
call-clones (Deliver c (ChunkMessage v)) b n = tt
call-clones (Deliver c CloseMessage) b n = tt
call-clones (Deliver c (ErrorMessage r)) b n = (b, tt)
call-clones _ b n = absurd n

failures-clone : (xs : List Entry) → AreNodes xs → AllBringClones xs → Each_clones (failures xs)
failures-clone [] a b = tt
failures-clone (Called c ∷ xs) a b = clones-append (failure_of c) (failures xs) (call-clones c b.0 a.0) (failures-clone xs a.1 b.1)
failures-clone (Worked ∷ xs) a b = failures-clone xs a b
failures-clone (Heard ∷ xs) a b = failures-clone xs a b

among-clones : (rs : List Plain) → Each_clones rs → (r : Plain) → is_among r rs ≡ true → is_cloneable r ≡ true
among-clones [] a r e = cc
among-clones (s ∷ rs) a r e = by (same_reason s r) refl (among-clones rs a.1 r) e
  where
    by : (b : Bool) → same_reason s r ≡ b → (is_among r rs ≡ true → is_cloneable r ≡ true) → (b || is_among r rs) ≡ true → is_cloneable r ≡ true
    by true h f e = subst (λ (x : Plain). is_cloneable x ≡ true) (reason_same s r h) a.0
    by false h f e = f e

nodes-append : (xs : List Entry) (x : Entry) (ys : List Entry) → AreNodes xs → AreNodes (x ∷ ys) → AreNodes (xs ++ x ∷ [])
nodes-append [] (Called c) ys a b = (b.0, tt)
nodes-append [] Worked ys a b = tt
nodes-append [] Heard ys a b = tt
nodes-append (Called c ∷ xs) x ys a b = (a.0, nodes-append xs x ys a.1 b)
nodes-append (Worked ∷ xs) x ys a b = nodes-append xs x ys a b
nodes-append (Heard ∷ xs) x ys a b = nodes-append xs x ys a b

brings-append : (xs : List Entry) (x : Entry) (ys : List Entry) → AllBringClones xs → AllBringClones (x ∷ ys) → AllBringClones (xs ++ x ∷ [])
brings-append [] (Called c) ys a b = (b.0, tt)
brings-append [] Worked ys a b = tt
brings-append [] Heard ys a b = tt
brings-append (Called c ∷ xs) x ys a b = (a.0, brings-append xs x ys a.1 b)
brings-append (Worked ∷ xs) x ys a b = brings-append xs x ys a b
brings-append (Heard ∷ xs) x ys a b = brings-append xs x ys a b

-- between steps the first chunk for each port can be cloned

none-below : (m : ℕ) → m < 0 → ⊥
none-below m h = omega (arith, h)

pub first-clones : (origin : Origin) (target : Target) (n : ℕ) (signalled : Bool) (xs : List Entry) → 2 * n + 2 ≤ most_streams → AreNodes xs → AllBringClones xs
    → (m : ℕ) (x : cross.Slots) → slice_get (run xs (chained origin target n signalled)).ports m ≡ Some x → clones_at x (run xs (chained origin target n signalled)) ≡ true
first-clones FromChunks ToSink n signalled xs few a b m x at = let h = ports-at FromChunks ToSink n signalled xs few a m x at in absurd (omega (arith, h))
first-clones FromBytes ToSink n signalled xs few a b m x at = let h = ports-at FromBytes ToSink n signalled xs few a m x at in absurd (omega (arith, h))
first-clones FromPort ToSink n signalled xs few a b zero x at = source-clones ToSink n signalled xs few a x at
first-clones FromPort ToSink n signalled xs few a b (suc m) x at = let h = ports-at FromPort ToSink n signalled xs few a (suc m) x at in absurd (omega (arith, h))
first-clones FromChunks ToPort n signalled xs few a b zero x at = sink-clones FromChunks n signalled xs few a b x at
first-clones FromChunks ToPort n signalled xs few a b (suc m) x at = let h = ports-at FromChunks ToPort n signalled xs few a (suc m) x at in absurd (omega (arith, h))
first-clones FromBytes ToPort n signalled xs few a b zero x at = sink-clones FromBytes n signalled xs few a b x at
first-clones FromBytes ToPort n signalled xs few a b (suc m) x at = let h = ports-at FromBytes ToPort n signalled xs few a (suc m) x at in absurd (omega (arith, h))
first-clones FromPort ToPort n signalled xs few a b zero x at = source-clones ToPort n signalled xs few a x at
first-clones FromPort ToPort n signalled xs few a b (suc zero) x at = sink-clones FromPort n signalled xs few a b x at
first-clones FromPort ToPort n signalled xs few a b (suc (suc m)) x at = let h = ports-at FromPort ToPort n signalled xs few a (suc (suc m)) x at in absurd (omega (arith, h))

last-none : (xs ys : List Plain) → xs ++ (ys ++ []) ≡ [] → ys ≡ []
last-none [] [] e = refl
last-none [] (y ∷ ys) e = cc
last-none (x ∷ xs) ys e = cc

nodes-pipes : (c : Call) → IsNodes c → PipesNone c
nodes-pipes (Settle h answer) n = tt
nodes-pipes (Enqueue i v) n = tt
nodes-pipes (Finish i) n = tt
nodes-pipes (Fail i reason) n = tt
nodes-pipes (Trigger a reason) n = tt
nodes-pipes (Deliver c m) n = tt
nodes-pipes _ n = absurd n

module _ (origin : Origin) (target : Target) (n : ℕ) (signalled : Bool) (xs : List Entry) (few : 2 * n + 2 ≤ most_streams) (nodes : AreNodes xs) (brings : AllBringClones xs) where
  abbrev rs : List Plain
  rs = failures xs

  clone : (r : Plain) → is_among r rs ≡ true → is_cloneable r ≡ true
  clone = among-clones (failures xs) (failures-clone xs nodes brings)

  abbrev b : Badness
  b = bad rs clone

  abbrev me : PipeId
  me = link_of n

  abbrev first : Slots
  first = opened origin target n signalled

  abbrev start : Slots
  start = chained origin target n signalled

  abbrev past : List Entry
  past = past_of origin target n signalled xs

  abbrev z : Slots
  z = run xs start

  abbrev q : PromiseId
  q = last_promise origin target n signalled

  good-failures : bad_of b.of (failures xs) ≡ 0
  good-failures = all-good rs

  -- of the opening

  held-empty : Held rs clone me None empty []
  held-empty = let w = whole-empty b me in record { moment = w.moment; known = w.known; teeless = refl; agenda = tt; opens = w.opens; halves = w.halves; ended = w.ended; erring = w.erring; posted = λ c. refl }

  held-opened : Held rs clone me None first []
  held-opened = run-held rs clone me None (opening origin target n signalled) empty (opening-fine rs clone me origin target n signalled few) held-empty

  held-chained : Held rs clone me (Some q.0) start []
  held-chained =
      let c = each_chain_begins origin target n signalled few in
      let ws : List Joint = wiring (one_segment origin target n) nothing_made in
      let free = unlocked origin target n signalled xs few in
      let is : begin (piping (signal_of signalled) n) first ≡ pipe_calls.pipe_to (source_of n) (dest_of n) nothing_prevented (signal_of signalled) first = begin-is (source_of n) (dest_of n) nothing_prevented (signal_of signalled) first q free c.last in
      let number = promise-is (source_of n) (dest_of n) nothing_prevented (signal_of signalled) first q is c.last in
      let known : Known b me (Some q.0) (begin (piping (signal_of signalled) n) first).done.slots (begin (piping (signal_of signalled) n) first).done.caused =
      subst (λ (d : Begun). Known b me (Some q.0) d.done.slots d.done.caused) (sym is) (own-known b me None first held-opened.known (source_of n) (dest_of n) nothing_prevented (signal_of signalled) q.0 (sym c.number) number) in
      begun-held rs clone me None (Some q.0) (piping (signal_of signalled) n) first (piping-fine rs clone me (gives_at ws) (hears_at ws) n (begins.count signalled) n (opening origin target n signalled) first refl (begins.ready-s (one_segment origin target n) n signalled (one-link origin target n) few) (omega arith) (signal_of signalled) (begins.there (one_segment origin target n) n signalled (one-link origin target n) few)) known held-opened

  -- and of the node

  nodes-fine : (pre ys : List Entry) → AreNodes pre → AllBringClones pre → AreNodes ys → AllBringClones ys → bad_of b.of (failures ys) ≡ 0 → AllFine rs clone me ys (run pre start)
  nodes-fine pre [] a e c d h = tt
  nodes-fine pre (x ∷ ys) a e c d h = (
    one x c h,
    subst (λ (s : Slots). AllFine rs clone me ys s) (run-append pre (x ∷ []) start)
        (nodes-fine (pre ++ x ∷ []) ys (nodes-append pre x ys a c) (brings-append pre x ys e d) (later x c) (after x d) (rest x h)),
  )
    where
      one : (x : Entry) → AreNodes (x ∷ ys) → bad_of b.of (failures (x ∷ ys)) ≡ 0 → FineEntry rs clone me (run pre start) x
      one (Called call) c h =
          let k = bad-append b.of (failure_of call) (failures ys) in
          let t = (each_node_goes origin target n signalled (pre ++ Called call ∷ []) few (nodes-append pre (Called call) ys a c)).quiet in
          let quiet : through_of call (run pre start) ≡ [] = last-none (through pre start) (through_of call (run pre start)) (sym (through-append pre (Called call ∷ []) start) ∙ t) in
          plain-fine rs clone me (past_of origin target n signalled pre) call (run pre start) (all-is origin target n signalled pre few a) (node-ours call c.0) (nodes-pipes call c.0) (omega (arith, h, k)) quiet
      one Worked c h = λ p y at. first-clones origin target n signalled pre few a e p.0 y at
      one Heard c h = tt

      later : (x : Entry) → AreNodes (x ∷ ys) → AreNodes ys
      later (Called call) c = c.1
      later Worked c = c
      later Heard c = c

      after : (x : Entry) → AllBringClones (x ∷ ys) → AllBringClones ys
      after (Called call) c = c.1
      after Worked c = c
      after Heard c = c

      rest : (x : Entry) → bad_of b.of (failures (x ∷ ys)) ≡ 0 → bad_of b.of (failures ys) ≡ 0
      rest (Called call) h = let k = bad-append b.of (failure_of call) (failures ys) in omega (arith, h, k)
      rest Worked h = h
      rest Heard h = h

  fine : AllFine rs clone me xs start
  fine = nodes-fine [] xs tt tt nodes brings good-failures

  held : Held rs clone me (Some q.0) z []
  held = run-held rs clone me (Some q.0) xs start fine held-chained

  -- what isn't bad is the reason of a failure

  is-failure : (r : Plain) → b.of r ≡ 0 → Contains (failures xs) r
  is-failure r h = among_contained r (failures xs) (good_among rs r h)

  same : run past empty ≡ z
  same = all-is origin target n signalled xs few nodes

  held-past : Held rs clone me (Some q.0) (run past empty) []
  held-past = subst (λ (s : Slots). Held rs clone me (Some q.0) s []) (sym same) held

  was-rejected : (r : Plain) → outcome_at (run past empty).promises q ≡ Some (Rejected r) → Contains (failures xs) r
  was-rejected r out = is-failure r (known_rejected b me q (run past empty) r held-past.known out)

  readable-stored : (i : StreamId) → let s : Slots = run past empty in (source_at i s).state ≡ Errored → Contains (failures xs) (source_at i s).stored_error
  readable-stored i e =
      let s : Slots = run past empty in
      let k : Known b me (Some q.0) s [] = held-past.known in
      let g = k.good k.hands (teed_at s) (λ i h. refl) (teed-at s) in
      let c : Class = class b me k.hands (teed_at s) in
      let h = source-good c i.0 (slice_get s.streams i.0) (stream-there c s.streams i.0 (omega (arith, g))) in
      let r : Plain = (source_at i s).stored_error in
      is-failure r (errored-bad (source_at i s).state (b.of r) e h)

  writable-stored : (i : StreamId) → let s : Slots = run past empty in (is_erroring (writable_at i s).state || is_errored (writable_at i s).state) ≡ true → Contains (failures xs) (writable_at i s).stored_error
  writable-stored i e =
      let s : Slots = run past empty in
      let k : Known b me (Some q.0) s [] = held-past.known in
      let g = k.good k.hands (teed_at s) (λ i h. refl) (teed-at s) in
      let c : Class = class b me k.hands (teed_at s) in
      let h = dest-good c i.0 (slice_get s.streams i.0) (stream-there c s.streams i.0 (omega (arith, g))) in
      let r : Plain = (writable_at i s).stored_error in
      is-failure r (erroring-bad (writable_at i s).state (b.of r) _ e h)

  post-good : (c : PortId) (r : Plain) (before after : List Message) → posted_in c (run_events past empty) ≡ before ++ ErrorMessage r ∷ after → b.of r ≡ 0
  post-good c r before after e =
      let h = run-posts rs clone me (Some q.0) c xs start fine held-chained in
      let f : posted_in c (run_events xs start) ≡ before ++ ErrorMessage r ∷ after = ap (posted_in c) (sym (all-events origin target n signalled xs few nodes)) ∙ e in
      among-bad b.of before r after (subst (λ (ms : List Message). bad_in b.of ms ≡ 0) f h)

  was-posted : (c : PortId) (r : Plain) (before after : List Message) → posted_in c (run_events past empty) ≡ before ++ ErrorMessage r ∷ after → Contains (failures xs) r
  was-posted c r before after e = is-failure r (post-good c r before after e)

pub each_node_clones : EachNodeClones
each_node_clones origin target n signalled xs few nodes brings = record {
  rejected = λ r out. was-rejected origin target n signalled xs few nodes brings r out;
  readable = λ i e. readable-stored origin target n signalled xs few nodes brings i e;
  writable = λ i e. writable-stored origin target n signalled xs few nodes brings i e;
  posted = λ c r before after e. was-posted origin target n signalled xs few nodes brings c r before after e;
}

-- and of one before the first error that came up

nodes-first : (xs ys : List Entry) → AreNodes (xs ++ ys) → AreNodes xs
nodes-first [] ys a = tt
nodes-first (Called c ∷ xs) ys a = (a.0, nodes-first xs ys a.1)
nodes-first (Worked ∷ xs) ys a = nodes-first xs ys a
nodes-first (Heard ∷ xs) ys a = nodes-first xs ys a

-- the reason of a failure is no pair
plain-one : (r : Plain) (rs : List Plain) → Each_clones rs → Contains rs r → (entries : List Entry) → NeedsTee r entries
plain-one r rs a c entries t is = let e : is_cloneable (Pair t) ≡ true = ap is_cloneable (sym is) ∙ among-clones rs a r (contained_among r rs c) in cc

pub each_node_error_is_older : EachNodeErrorIsOlder
each_node_error_is_older origin target n signalled pre rest c up r before after few nodes brings none there side e =
    let xs : List Entry = pre ++ Called (Deliver c (ErrorMessage up)) ∷ rest in
    let past : List Entry = past_of origin target n signalled pre in
    let among = (each_node_clones origin target n signalled xs few nodes brings).posted c r before after e in
    let same : past_of origin target n signalled xs ≡ past ++ Called (Deliver c (ErrorMessage up)) ∷ rest =
    sym (append_assoc (opening origin target n signalled) (Called (piping (signal_of signalled) n) ∷ pre) (Called (Deliver c (ErrorMessage up)) ∷ rest)) in
    let posts : posted_in c (run_events (past ++ Called (Deliver c (ErrorMessage up)) ∷ rest) empty) ≡ before ++ ErrorMessage r ∷ after = ap (λ ys. posted_in c (run_events ys empty)) (sym same) ∙ e in
    let older : Contains (origins past) r = each_posted_error_is_older past rest c up r before after (plain-one r (failures xs) (failures-clone xs nodes brings) among past) there side posts in
    let quiet = past-none origin target n signalled pre few (each_node_goes origin target n signalled pre few (nodes-first pre _ nodes)).quiet in
    let port : NeedsPort r past = λ d. absurd (none (subst (λ (x : Plain). Contains (failures xs) x) d among)) in
    subst (λ (ps : List Plain). Contains ps r) (past-fails origin target n signalled pre) (origin-failed past r quiet port older)
