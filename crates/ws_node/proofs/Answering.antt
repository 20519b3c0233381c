-- What a node does as its sink is written and closed, and what it settles at once.
use Rattle.std.proofs.Common.{◌≡◌, ◌<◌, ◌≢◌, ◌+◌, ◌-◌, ◌≤◌, ◌==◌, ℕ, zero, suc, true, false, List, [], ◌∷◌, ◌++◌, length, Option, Some, None, refl, sym, ap, ◌∙◌, subst, append-nil, length-append, arith}
use Rattle.std.specs.Prelude.{slice_get}
use Rattle.std.proofs.lemmas.List.{length-map}
use Rattle.std.proofs.lemmas.List.Elements.{All-nil, All-cons}
use Rattle.ws_value.specs.declared.fault.Fault.TheVariants.{Abort as AbortFault}
use Rattle.ws_value.specs.declared.ids.HostId.{HostId}
use Rattle.ws_value.specs.declared.ids.StreamId.{StreamId}
use Rattle.ws_value.specs.declared.value.Plain.TheVariants.{Fault as FaultReason}
use Rattle.ws_value.specs.declared.value.Value.{Value}
use Rattle.ws_value.specs.declared.value.Value.TheVariants.{Bytes}
use Rattle.ws_node.specs.Shape.{Shape, count_in, enters_in, hears_in}
use Rattle.ws_flow.specs.Parts.{Goes}
use Rattle.ws_flow.specs.Stages.{machines}
use Rattle.ws_flow.specs.Told.{bytes_of, Open as MayCome, Closed, Lost, Told, told, then_told, IsShortOf}
use Rattle.ws_flow.proofs.Steps.{goes_rests}
use Rattle.ws_flow.proofs.Told.{short_trans, before_front, before_of_short}
use Rattle.ws_io.specs.Faults.{Rose}
use Rattle.ws_io.specs.Feed.{Feed}
use Rattle.ws_io.specs.Gain.{Gains, KeepsTold, Becomes, Got}
use Rattle.ws_io.specs.Moment.{Moment}
use Rattle.ws_io.proofs.Flow.{KeepsTold-same}
use Rattle.ws_joined_laws.specs.Ends.{StopsIn}
use Rattle.ws_stages.specs.State.{State}
use Rattle.ws_steps.specs.declared.calls.Answer.TheVariants.{Ok as AnswerOk, Fail as AnswerFail}
use Rattle.ws_steps.specs.declared.calls.Call.TheVariants.{Settle}
use Rattle.ws_steps.specs.declared.calls.Event.{Event}
use Rattle.ws_steps.specs.declared.calls.Event.TheVariants.{Host}
use Rattle.ws_steps.specs.declared.calls.HostCall.{HostCall}
use Rattle.ws_steps.specs.declared.calls.HostCall.TheVariants.{Pull, Write, Close, Flush}
use Rattle.ws_steps.specs.Run.{Entry, Heard}
use Rattle.ws_chain_laws.specs.Chain.{Target, behind_at}
use Rattle.ws_chain_laws.specs.Nodes.{by_sink, only_at}
use Rattle.ws_chain_laws.proofs.Nodes.{each_event_is_heard_at_one_link, each_nodes_call_brings}
use Rattle.ws_end_laws.specs.hosts.HostCalls.{IsItsCall, called}
use Rattle.ws_link_laws.specs.Link.{silence}
use Rattle.ws_realm.specs.Seen.{SeenRealm}
use Rattle.ws_node.specs.declared.node.Abort.{Abort}
use Rattle.ws_node.specs.declared.node.Node.{Node}
use Rattle.ws_node.specs.declared.node.Output.{Output}
use Rattle.ws_node.specs.declared.node.Output.TheVariants as output
use Rattle.ws_node.specs.Moves.{Asks, with_realm, Shown, shut, fault_of, Fails, fails, settles, triggers, nearer, draws_near, draws_by, had_by, written, Untouched, Writes, WroteAll, WroteLess, WroteNone, Reached, Finishes, FinishedWell, FinishedBadly, FinishedNot, Settles, is_writable}
use Rattle.ws_node.specs.Messages.{is_fair_reason}
use Rattle.ws_node.specs.Node.{coming, feeds_edge, in_bytes, is_edge, is_reached, lies_in, lying, nothing_yet, parts, stages_in, works_in}
use Rattle.ws_node.proofs.Staged.{same-length}
use Rattle.ws_node.specs.Past.{IsCause, OneAtMost, Own, ArePushed, HasOne, Led, Since, is_shut, may_have}
use Rattle.ws_node.specs.Went.{AbortGoes, OutputGoes}
use Rattle.ws_node.proofs.Called.{may-settle}
use Rattle.ws_node.proofs.Entries.{called-longer}
use Rattle.ws_node.proofs.Changes.{led-abort, led-ahead, led-asked, led-output}
use Rattle.ws_node.proofs.Going.{abort-same, going-stays, went-quietly, went-rests}
use Rattle.ws_node.proofs.Handled.{Handled, shows}
use Rattle.ws_node.proofs.Handing.{lies_to, unheard-lies, one-heard}
use Rattle.ws_node.proofs.Ones.{all-more}
use Rattle.ws_node.proofs.Putting.{AfterQuiet, asks-quietly, quiet-then, settle-quiet}
use Rattle.ws_node.proofs.Sinking.{count-works, abort-less, abort-nearer, heard-out, nearer_by, one-stages, open-fails, output-alone, shut-kind, shut-shut, shut-stays, signal-same, stops-here, sunk, to-sink}
use Rattle.ws_node.proofs.Quiet.{IsNoPost, stays-as, ends-as}
use Rattle.ws_node.proofs.Since.{AfterEvent, MayAsk, own-failed}
use Rattle.ws_node.proofs.Unheard.{at-there}

-- how an open output goes on, and one that was shut

pub output-open : (o : Output) (gain : List ℕ) (old new : Moment) → o ≡ output.Open → new.write_faults ≡ old.write_faults → KeepsTold old.finished new.finished
    → OutputGoes o o gain MayCome old new
output-open output.Open gain old new e calm kept = (refl, calm, kept)
output-open output.Finished gain old new e calm kept = absurd (cc)
output-open output.Failed gain old new e calm kept = absurd (cc)
output-open output.Aborted gain old new e calm kept = absurd (cc)
output-open output.Edge gain old new e calm kept = absurd (cc)

pub output-fails : (o : Output) (gain : List ℕ) (old new : Moment) → o ≡ output.Open → Rose old.write_faults new.write_faults → KeepsTold old.finished new.finished
    → OutputGoes o (shut o) gain Lost old new
output-fails output.Open gain old new e rose kept = (refl, rose, kept)
output-fails output.Finished gain old new e rose kept = absurd (cc)
output-fails output.Failed gain old new e rose kept = absurd (cc)
output-fails output.Aborted gain old new e rose kept = absurd (cc)
output-fails output.Edge gain old new e rose kept = absurd (cc)

output-finishes : (o : Output) (old new : Moment) → o ≡ output.Open → new.write_faults ≡ old.write_faults → Becomes old.finished new.finished → OutputGoes o output.Finished [] Closed old new
output-finishes output.Open old new e calm done = (refl, calm, done)
output-finishes output.Finished old new e calm done = absurd (cc)
output-finishes output.Failed old new e calm done = absurd (cc)
output-finishes output.Aborted old new e calm done = absurd (cc)
output-finishes output.Edge old new e calm done = absurd (cc)

output-aborts : (o : Output) (old : Moment) → o ≡ output.Open → OutputGoes o output.Aborted [] Lost old old
output-aborts output.Open old e = (refl, refl, KeepsTold-same old.finished)
output-aborts output.Finished old e = absurd (cc)
output-aborts output.Failed old e = absurd (cc)
output-aborts output.Aborted old e = absurd (cc)
output-aborts output.Edge old e = absurd (cc)

writable-open : (o : Output) → is_writable o ≡ true → o ≡ output.Open
writable-open output.Open e = refl
writable-open output.Finished e = absurd (cc)
writable-open output.Failed e = absurd (cc)
writable-open output.Aborted e = absurd (cc)
writable-open output.Edge e = absurd (cc)

-- without stages and an edge the output may be written
may-write : (o : Output) (abort : Option Abort) → feeds_edge o ≡ false → may_have [] o abort ≡ true → is_writable o ≡ true
may-write output.Open abort not_edge h = refl
may-write output.Finished abort not_edge h = absurd (cc)
may-write output.Failed abort not_edge h = absurd (cc)
may-write output.Aborted abort not_edge h = absurd (cc)
may-write output.Edge abort not_edge h = absurd (cc)

had-less : (ws : List State) (count ahead : ℕ) → had_by ws count ahead ≤ ahead
had-less [] count ahead = omega arith
had-less (w ∷ ws) count ahead = omega arith

had-counts : (ws : List State) (count ahead : ℕ) → ws ≡ [] → ahead ≤ count + had_by ws count ahead
had-counts [] count ahead e = omega arith
had-counts (w ∷ ws) count ahead e = absurd (cc)

-- why an output fails
pub caused : (n : Node) → feeds_edge n.exit.output ≡ false → n.exit.output ≢ output.Open → (n.exit.output ≡ output.Aborted → is_reached n.exit.abort ≡ true) → IsCause n (FaultReason (fault_of n.exit.output))
caused n not_edge closed reached = by n.exit.output refl where
  by : (o : Output) → n.exit.output ≡ o → IsCause n (FaultReason (fault_of o))
  by output.Open e = absurd (closed e)
  by output.Finished e = Own (ap (λ (x : Output). is_shut x) e)
  by output.Failed e = Own (ap (λ (x : Output). is_shut x) e)
  by output.Aborted e = Own (reached e)
  by output.Edge e = absurd (let f : feeds_edge n.exit.output ≡ true = ap (λ (x : Output). feeds_edge x) e in cc)

fair-fault : (o : Output) → is_fair_reason (FaultReason (fault_of o)) ≡ true
fair-fault output.Open = refl
fair-fault output.Finished = refl
fair-fault output.Failed = refl
fair-fault output.Aborted = refl
fair-fault output.Edge = refl

-- the abort comes nearer by so many bytes, and where it is reached its signal is triggered

data Drawn (n c : Node) : Type 0 where
  Same : c ≡ n → Drawn n c
  Triggered : (y : Abort) → is_reached n.exit.abort ≡ true → Asks (triggers y) n c → Drawn n c

drawn-near : (y : Abort) (count l : ℕ) (n c : Node) → y.left - count ≡ l → draws_near (nearer count y) l n c → Drawn (record n { exit = record n.exit { abort = Some (nearer count y) } }) c
drawn-near y count zero n c e d = Triggered (nearer count y) (ap (λ (z : ℕ). z == 0) e) d
drawn-near y count (suc l) n c e d = Same d

drawn : (count : ℕ) (x : Option Abort) (n c : Node) → n.exit.abort ≡ x → draws_by count x n c → Drawn (record n { exit = record n.exit { abort = nearer_by count x } }) c
drawn count None n c e d = Same (d ∙ ap (λ (z : Option Abort). record n { exit = record n.exit { abort = z } }) e)
drawn count (Some y) n c e d = drawn-near y count (y.left - count) n c refl d

trigger-quiet : (shape : Shape) (y : Abort) (k : ℕ) → enters_in shape k (triggers y) ≡ silence
trigger-quiet shape y k = (each_nodes_call_brings shape.origin k).trigger y.signal (FaultReason AbortFault)

may-trigger : (shape : Shape) (past : List Entry) (n : Node) (y : Abort) → is_reached n.exit.abort ≡ true → MayAsk shape past n (triggers y)
may-trigger shape past n y reached =
    record {
      is_own = tt;
      clones = refl;
      failed = own-failed shape n (triggers y) (All-cons (IsCause n) (FaultReason AbortFault) [] (Own reached) (All-nil (IsCause n)));
      closes = λ id e c. absurd (cc);
      flushes = λ id i e c first last w at. absurd (cc);
    }

module _ (shape : Shape) (past : List Entry) (id : HostId) (call : HostCall) (is : slice_get (called past) id.0 ≡ Some call) where
  -- a call is settled well; and badly, with a cause
  well : (n b : Node) → Led shape past n → (call ≡ Close n.exit.sink → feeds_edge n.exit.output ≡ false → n.exit.output ≡ output.Finished) → ((s : StreamId) → call ≡ Flush s → ⊥) → Asks (settles id) n b → AfterQuiet shape past n b
  well n b led close flush asks =
      asks-quietly shape past n b (settles id) tt (settle-quiet shape id AnswerOk) led (may-settle shape past n id call is AnswerOk (All-nil (IsCause n)) tt (λ c x feeds. close c feeds) (λ s f. absurd (flush s f))) asks

  badly : (n b : Node) → feeds_edge n.exit.output ≡ false → Led shape past n → n.exit.output ≢ output.Open → (n.exit.output ≡ output.Aborted → is_reached n.exit.abort ≡ true) → Asks (fails id (fault_of n.exit.output)) n b → AfterQuiet shape past n b
  badly n b not_edge led closed reached asks =
      let x = AnswerFail (FaultReason (fault_of n.exit.output)) in
      asks-quietly shape past n b (Settle id x) tt (settle-quiet shape id x) led
      (may-settle shape past n id call is x (All-cons (IsCause n) (FaultReason (fault_of n.exit.output)) [] (caused n not_edge closed reached) (All-nil (IsCause n))) (fair-fault n.exit.output) (λ c e feeds. absurd (cc)) (λ s f e. absurd (cc))) asks

module _ (rf : ℕ) (feed : Option Feed) (p q : Got) (shape : Shape) (past : List Entry) (a : Node) (realm : SeenRealm) (id : HostId) (b : Node) (old new : Shown) (since : Since shape past a)
    (goes : a.core.stopped ≡ None) where
  abbrev was : Node
  was = with_realm realm a

  abbrev further : List Entry
  further = past ++ Heard ∷ []

  -- of the sink, to which the last link goes
  module _ (not_edge : feeds_edge a.exit.output ≡ false) (sink_link : ℕ) (is_last : sink_link ≡ count_in shape) where
    module _ (call : HostCall) (t : Told Value) (event : AfterEvent shape past a realm (Host id call))
        (heard : (k : ℕ) → k ≤ count_in shape → hears_in shape k (Host id call) ≡ only_at sink_link t k) where
      -- once the output isn't open, nothing is said of what is behind the host without stages
      one-shut : (k : ℕ) (x : Option Abort) (o : Output) (after : AfterQuiet shape further (record was { entrance = record was.entrance { ahead = k }; exit = record was.exit { abort = x; output = o } }) b) → feeds_edge o ≡ false → o ≢ output.Open → k ≡ a.entrance.ahead → HasOne b
      one-shut k x o after no_edge closed same = by a.core.stages.items refl where
        b-stages : b.core.stages.items ≡ a.core.stages.items
        b-stages = ap (λ (n : Node). n.core.stages.items) after.only.is

        by : (ws : List State) → a.core.stages.items ≡ ws → HasOne b
        by [] e = λ fed h.
            let o_is : b.exit.output ≡ o = ap (λ (n : Node). n.exit.output) after.only.is in
            let f : may_have [] b.exit.output b.exit.abort ≡ true = subst (λ (s : List State). may_have s b.exit.output b.exit.abort ≡ true) (b-stages ∙ e) h in
            let g : is_writable b.exit.output ≡ true = may-write b.exit.output b.exit.abort (ap (λ (z : Output). feeds_edge z) o_is ∙ no_edge) f in
            absurd (closed (sym o_is ∙ writable-open b.exit.output g))
        by (u ∷ us) e =
            one-stages shape past a realm since goes sink_link is_last id call t event heard b u us e (b-stages ∙ e) (ap (λ (n : Node). n.entrance.ahead) after.only.is ∙ same)
            (ap (λ (n : Node). n.entrance.input) after.only.is) (λ n o. after.one n o)

      lost-out : (x : Told (List ℕ)) → IsShortOf (told [] Lost) (lies_to x a sink_link)
      lost-out x = ((lies_to x a sink_link).items, refl)

      -- what was asked of an output that takes no more is lost
      refused : a.exit.output ≢ output.Open → Untouched old new p q → Fails id was b → Handled shape a b (shows rf feed old) (shows rf feed new) p q
      refused shut_already untouched asks =
          let o = shut a.exit.output in
          let same = shut-stays a.exit.output shut_already in
          let led = led-output shape further was o (ap (λ (z : Output). feeds_edge z) same) (λ h. same) (λ e. since.led.aborts (sym same ∙ e)) event.led in
          let after = badly shape further id call event.its (record was { exit = record was.exit { output = o } }) b (shut-kind a.exit.output not_edge) led (shut-shut a.exit.output) (λ e. since.led.aborts (sym same ∙ e)) asks in
          rw untouched.shown
          (sunk shape past a realm since goes sink_link is_last id call t event heard b a.entrance.ahead a.exit.abort o after (told [] Lost) lost-out not_edge rf feed old old p q [] Lost untouched.gained ([], refl) (λ e. omega arith)
          (subst (λ (z : Output). OutputGoes a.exit.output z [] Lost (shows rf feed old) (shows rf feed old)) (sym same) (output-alone a.exit.output [] Lost (shows rf feed old) not_edge shut_already refl))
          (abort-same a.exit.abort [] o) (λ some. absurd (omega arith)) (one-shut a.entrance.ahead a.exit.abort o after (shut-kind a.exit.output not_edge) (shut-shut a.exit.output) refl) (λ e f. absurd (shut_already e)))

      -- it fails as it is asked for this, of which some was written
      broken : (went : Told (List ℕ)) (gain : List ℕ) → a.exit.output ≡ output.Open → Gains p q gain → Rose old.faults new.faults → KeepsTold old.finished new.finished → Fails id was b
          → ((x : Told (List ℕ)) → IsShortOf (then_told went (lies_to x was sink_link)) (lies_to x a sink_link)) → IsShortOf (told gain Lost) (bytes_of went)
          → (a.core.stages.items ≡ [] → a.entrance.ahead ≤ length gain + a.entrance.ahead) → AbortGoes a.exit.abort a.exit.abort went.items gain (shut a.exit.output)
          → (0 < length gain → StopsIn (length gain) went.items gain) → Handled shape a b (shows rf feed old) (shows rf feed new) p q
      broken went gain is gained rose kept asks there written ahead abort last =
          let o = shut a.exit.output in
          let led = led-output shape further was o (shut-kind a.exit.output not_edge ∙ sym not_edge) (λ h. absurd (h is)) (λ e. absurd (let f = open-fails a.exit.output is in cc)) event.led in
          let after = badly shape further id call event.its (record was { exit = record was.exit { output = o } }) b (shut-kind a.exit.output not_edge) led (shut-shut a.exit.output) (λ e. absurd (let f = open-fails a.exit.output is in cc)) asks in
          sunk shape past a realm since goes sink_link is_last id call t event heard b a.entrance.ahead a.exit.abort o after went there not_edge rf feed old new p q gain Lost gained written ahead
          (output-fails a.exit.output gain (shows rf feed old) (shows rf feed new) is rose kept) abort last (one-shut a.entrance.ahead a.exit.abort o after (shut-kind a.exit.output not_edge) (shut-shut a.exit.output) refl)
          (λ e f. absurd (let k : output.Failed ≡ output.Finished = sym (open-fails a.exit.output is) ∙ f in cc))

    -- what the sink of the last link is told
    by-sink : (t : Told Value) (k : ℕ) → only_at (count_in shape) (by_sink shape.target t) k ≡ only_at sink_link t k
    by-sink t k =
        ap (λ (target : Target). only_at (count_in shape) (by_sink target t) k) (to-sink shape.target a.exit since.led.is_of.into not_edge).0 ∙ ap (λ (n : ℕ). only_at n t k) (sym is_last)

    heard-write : (v : Value) (k : ℕ) → k ≤ count_in shape → hears_in shape k (Host id (Write a.exit.sink v)) ≡ only_at sink_link (told (v ∷ []) MayCome) k
    heard-write v k less =
        subst (λ (s : StreamId). hears_in shape k (Host id (Write s v)) ≡ only_at sink_link (told (v ∷ []) MayCome) k) (sym since.led.is_of.sink)
        ((each_event_is_heard_at_one_link shape.origin shape.target (count_in shape) k less).write id v ∙ by-sink (told (v ∷ []) MayCome) k)

    heard-close : (k : ℕ) → k ≤ count_in shape → hears_in shape k (Host id (Close a.exit.sink)) ≡ only_at sink_link (told [] Closed) k
    heard-close k less =
        subst (λ (s : StreamId). hears_in shape k (Host id (Close s)) ≡ only_at sink_link (told [] Closed) k) (sym since.led.is_of.sink)
        ((each_event_is_heard_at_one_link shape.origin shape.target (count_in shape) k less).close id ∙ by-sink (told [] Closed) k)

    module _ (piece : List ℕ) (event : AfterEvent shape past a realm (Host id (Write a.exit.sink (Bytes piece)))) where
      abbrev call : HostCall
      call = Write a.exit.sink (Bytes piece)

      abbrev one_told : Told Value
      one_told = told (Bytes piece ∷ []) MayCome

      heard : (k : ℕ) → k ≤ count_in shape → hears_in shape k (Host id call) ≡ only_at sink_link one_told k
      heard = heard-write (Bytes piece)

      out : (x : Told (List ℕ)) → IsShortOf (then_told (told (piece ∷ []) MayCome) (lies_to x was sink_link)) (lies_to x a sink_link)
      out = heard-out shape past a realm since goes sink_link is_last id call one_told event heard

      -- it was written first, and then nothing more comes
      out-lost : (x : Told (List ℕ)) → IsShortOf (then_told (told (piece ∷ []) Lost) (lies_to x was sink_link)) (lies_to x a sink_link)
      out-lost x =
          let n = sink_link in
          let f = before_front (then_told (told (piece ∷ []) MayCome) (lies_to x was n)) (lies_to x a n) (before_of_short _ _ (out x)) in
          ((lies_to x was n).items ++ f.0, f.1)

      abbrev left : ℕ
      left = had_by a.core.stages.items (length piece) a.entrance.ahead

      abbrev abort_left : Option Abort
      abort_left = nearer_by (length piece) a.exit.abort

      one-written : (after : AfterQuiet shape further (record was { entrance = record was.entrance { ahead = left }; exit = record was.exit { abort = abort_left } }) b) → a.exit.output ≡ output.Open → is_reached a.exit.abort ≡ false → HasOne b
      one-written after is near = by a.core.stages.items refl where
        b-stages : b.core.stages.items ≡ a.core.stages.items
        b-stages = ap (λ (n : Node). n.core.stages.items) after.only.is

        by : (ws : List State) → a.core.stages.items ≡ ws → HasOne b
        by [] e = λ fed h.
            let none : sink_link ≡ 0 = is_last ∙ sym (count-works shape past a realm since goes) ∙ (let f : length (works_in a.core) ≡ length a.core.stages.items = length-map a.core.stages.items (λ (w : State). w.work) in let g : length a.core.stages.items ≡ 0 = ap length e in omega arith) in
            let may : may_have a.core.stages.items a.exit.output a.exit.abort ≡ true = rw (e, is, near) refl in
            let fed_so : is_edge a.entrance.input ≡ false = ap (λ (n : Node). is_edge n.entrance.input) (sym after.only.is) ∙ fed in
            let it : hears_in shape 0 (Host id call) ≡ one_told = heard 0 (omega arith) ∙ (ap (λ (n : ℕ). only_at n one_told 0) none ∙ at-there 0 one_told) in
            let left_over = one-heard a.entrance.ahead (Bytes piece) (behind_at 0 realm.slots) (behind_at 0 a.core.realm.slots)
            (subst (λ (t : Told Value). IsShortOf (then_told t (behind_at 0 realm.slots)) (behind_at 0 a.core.realm.slots)) it (event.short 0 (omega arith))) (since.one fed_so may) in
            after.one b.entrance.ahead (subst (OneAtMost b.entrance.ahead) (sym left_over.0) tt)
        by (u ∷ us) e =
            one-stages shape past a realm since goes sink_link is_last id call one_told event heard b u us e (b-stages ∙ e)
            (ap (λ (n : Node). n.entrance.ahead) after.only.is ∙ ap (λ (ws : List State). had_by ws (length piece) a.entrance.ahead) e) (ap (λ (n : Node). n.entrance.input) after.only.is) (λ n o. after.one n o)

      after-drawn : (c : Node) → Led shape further (record was { entrance = record was.entrance { ahead = left }; exit = record was.exit { abort = abort_left } }) → Drawn (record was { entrance = record was.entrance { ahead = left }; exit = record was.exit { abort = abort_left } }) c → Asks (settles id) c b
          → AfterQuiet shape further (record was { entrance = record was.entrance { ahead = left }; exit = record was.exit { abort = abort_left } }) b
      after-drawn c led (Same e) asks =
          well shape further id call event.its (record was { entrance = record was.entrance { ahead = left }; exit = record was.exit { abort = abort_left } }) b led (λ f feeds. absurd (cc)) (λ s f. cc) (subst (λ (n : Node). Asks (settles id) n b) e asks)
      after-drawn c led (Triggered y reached trigger) asks =
          let n : Node = record was { entrance = record was.entrance { ahead = left }; exit = record was.exit { abort = abort_left } } in
          let first = asks-quietly shape further n c (triggers y) tt (trigger-quiet shape y) led (may-trigger shape further n y reached) trigger in
          quiet-then shape further n c b first
          (well shape (further ++ first.more) id call (called-longer further first.more id call event.its) c b first.led (λ f feeds. absurd (cc)) (λ s f. cc) asks)

      pub wrote : Writes id piece was b old new p q → Handled shape a b (shows rf feed old) (shows rf feed new) p q
      wrote (WroteAll is near gained calm kept c draws asks) =
          let m : Node = record was { entrance = record was.entrance { ahead = left } } in
          let led = led-abort shape further m abort_left (signal-same (length piece) a.exit.abort) (λ r. absurd (let f : true ≡ false = sym r ∙ near in cc))
          (led-ahead shape further was left (had-less a.core.stages.items (length piece) a.entrance.ahead) event.led) in
          let after = after-drawn c led (drawn (length piece) a.exit.abort m c refl draws) asks in
          sunk shape past a realm since goes sink_link is_last id call one_told event heard b left abort_left a.exit.output after (told (piece ∷ []) MayCome) out not_edge rf feed old new p q piece MayCome gained (append-nil piece, refl)
          (had-counts a.core.stages.items (length piece) a.entrance.ahead) (output-open a.exit.output piece (shows rf feed old) (shows rf feed new) is calm kept)
          (abort-nearer a.exit.abort piece a.exit.output near) (λ some. stops-here (length piece) piece piece some (omega arith) some) (one-written after is near)
          (λ e f. absurd (let k : output.Open ≡ output.Finished = sym e ∙ f in cc))
      wrote (WroteLess is near gain rest e gained rose kept asks) =
          let few : length gain ≤ length piece = let m : length piece ≡ length gain + length rest = ap length e ∙ length-append gain rest in omega arith in
          broken call one_told event heard (told (piece ∷ []) Lost) gain is gained rose kept asks out-lost (rest, append-nil piece ∙ e) (λ n. omega arith)
          (abort-less a.exit.abort piece gain (shut a.exit.output) (open-fails a.exit.output is) near few) (λ some. stops-here (length gain) piece gain some few some)
      wrote (WroteNone closed untouched asks) = refused call one_told event heard closed untouched asks
      wrote (Reached is reached untouched asks) =
          let n : Node = record was { exit = record was.exit { output = output.Aborted } } in
          let led = led-output shape further was output.Aborted (sym not_edge) (λ h. absurd (h is)) (λ e. reached) event.led in
          let after = badly shape further id call event.its n b refl led (λ e. cc) (λ e. reached) asks in
          rw untouched.shown
          (sunk shape past a realm since goes sink_link is_last id call one_told event heard b a.entrance.ahead a.exit.abort output.Aborted after (told [] Lost) (lost-out call one_told event heard) not_edge rf feed old old p q [] Lost untouched.gained ([], refl)
          (λ e. omega arith) (output-aborts a.exit.output (shows rf feed old) is) (abort-same a.exit.abort [] output.Aborted) (λ some. absurd (omega arith)) (one-shut call one_told event heard a.entrance.ahead a.exit.abort output.Aborted after refl (λ e. cc) refl) (λ e f. absurd (cc)))

    -- the sink is closed
    module _ (event : AfterEvent shape past a realm (Host id (Close a.exit.sink))) where
      pub closed : Finishes id was b old new p q → Handled shape a b (shows rf feed old) (shows rf feed new) p q
      closed (FinishedWell is gained emptied calm done asks) =
          let call = Close a.exit.sink in
          let led = led-output shape further was output.Finished (sym not_edge) (λ h. absurd (h is)) (λ e. absurd (cc)) event.led in
          let after = well shape further id call event.its (record was { exit = record was.exit { output = output.Finished } }) b led (λ e feeds. refl) (λ s f. cc) asks in
          sunk shape past a realm since goes sink_link is_last id call (told [] Closed) event heard-close b a.entrance.ahead a.exit.abort output.Finished after (told [] Closed)
          (heard-out shape past a realm since goes sink_link is_last id call (told [] Closed) event heard-close) not_edge rf feed old new p q [] Closed gained (refl, refl)
          (λ e. omega arith) (output-finishes a.exit.output (shows rf feed old) (shows rf feed new) is calm done) (abort-same a.exit.abort [] output.Finished) (λ some. absurd (omega arith))
          (one-shut call (told [] Closed) event heard-close a.entrance.ahead a.exit.abort output.Finished after refl (λ e. cc) refl) (λ e f. emptied)
      closed (FinishedBadly is gained rose kept asks) =
          let call = Close a.exit.sink in
          broken call (told [] Closed) event heard-close (told [] Lost) [] is gained rose kept asks (lost-out call (told [] Closed) event heard-close) ([], refl) (λ n. omega arith)
          (abort-same a.exit.abort [] (shut a.exit.output)) (λ some. absurd (omega arith))
      closed (FinishedNot shut_already untouched asks) = refused (Close a.exit.sink) (told [] Closed) event heard-close shut_already untouched asks

  -- of nothing whose bytes lie in the node
  module _ (e : Event) (event : AfterEvent shape past a realm e) (no_post : IsNoPost e) (quiet : (k : ℕ) → k ≤ count_in shape → in_bytes (hears_in shape k e) ≡ nothing_yet) (one : HasOne was) where
    unheard : (k : ℕ) → k ≤ count_in shape → IsShortOf (lies_in was k) (lies_in a k)
    unheard k less = unheard-lies shape past a realm e event goes (coming a k) k less (quiet k less)

    -- nothing is answered
    pub noted : b ≡ was → Untouched old new p q → Handled shape a b (shows rf feed old) (shows rf feed new) p q
    noted same untouched =
        rw (untouched.shown, same)
        (record {
          past = further;
          led = event.led;
          pushes = λ h. subst (λ (n : ℕ). ArePushed n a.core.stages.items) (sym event.age) (since.pushes goes);
          one = one;
          ends = event.ends no_post since.ends;
          went = went-rests shape a was (shows rf feed old) p q untouched.gained (going-stays a was goes) since.led.is_of.stages (record { realm = realm; stopped = a.core.stopped; is = refl }) unheard;
        })

    rest-goes : Goes (machines (stages_in a.core)) nothing_yet (parts a) (lying a) (parts was) (lying was)
    rest-goes =
        goes_rests (machines (stages_in a.core)) 0 (works_in a.core) (lies_in a) (lies_in was) (same-length a.core.stages.items)
        (λ j p less. unheard j (let f = count-works shape past a realm since goes in omega arith))

    -- a pull waits
    pub pulled : (i : StreamId) → e ≡ Host id (Pull i) → b ≡ record was { entrance = record was.entrance { asked = Some id } } → Untouched old new p q → Handled shape a b (shows rf feed old) (shows rf feed new) p q
    pulled i is same untouched =
        let n : Node = record was { entrance = record was.entrance { asked = Some id } } in
        rw (untouched.shown, same)
        (record {
          past = further;
          led = led-asked shape further was id (i, subst (λ x. IsItsCall (called further) x) is event.its) event.led;
          pushes = λ h. subst (λ (k : ℕ). ArePushed k a.core.stages.items) (sym event.age) (since.pushes goes);
          one = one;
          ends = ends-as shape further was n refl refl (stays-as was.core.stopped) (event.ends no_post since.ends);
          went = went-quietly a n (shows rf feed old) p q untouched.gained (going-stays a n goes)
              (record { taken = refl; ahead = λ h. refl; input = refl; output = refl; abort = refl; stages = refl; source = refl; sink = refl; most = refl; pipe = refl; pipes = refl; first = refl; above = refl; below = refl; broken = refl }) rest-goes;
        })

    -- it is settled at once
    pub settled : (call : HostCall) → e ≡ Host id call → (call ≡ Close a.exit.sink → feeds_edge a.exit.output ≡ false → ⊥) → ((s : StreamId) → call ≡ Flush s → ⊥) → Settles id was b old new p q
        → Handled shape a b (shows rf feed old) (shows rf feed new) p q
    settled call is other flush (asks, untouched) =
        let its : slice_get (called further) id.0 ≡ Some call = subst (λ x. IsItsCall (called further) x) is event.its in
        let after = well shape further id call its was b event.led (λ c feeds. absurd (other c feeds)) flush asks in
        let b-is : b ≡ record a { core = record a.core { realm = after.only.realm; stopped = after.only.stopped } } = after.only.is in
        rw untouched.shown
        (record {
          past = further ++ after.more;
          led = after.led;
          pushes = λ h.
              let f = after.older h in
              let g = event.age in
              subst (ArePushed b.core.realm.slots.age) (sym (ap (λ (n : Node). n.core.stages.items) b-is)) (all-more a.core.realm.slots.age b.core.realm.slots.age a.core.stages.items (omega arith) (since.pushes goes));
          ends = after.ends (event.ends no_post since.ends);
          one = λ fed h.
              subst (λ (k : ℕ). OneAtMost k (behind_at 0 b.core.realm.slots).items) (sym (ap (λ (n : Node). n.entrance.ahead) b-is))
              (after.one a.entrance.ahead (one (ap (λ (n : Node). is_edge n.entrance.input) (sym b-is) ∙ fed) (subst (λ (n : Node). may_have n.core.stages.items n.exit.output n.exit.abort ≡ true) b-is h)));
          went = went-rests shape a b (shows rf feed old) p q untouched.gained (going-stays a b goes) since.led.is_of.stages (record { realm = after.only.realm; stopped = after.only.stopped; is = b-is })
              (λ k less. subst (λ (z : Told (List ℕ)). IsShortOf (lies_to z b k) (lies_in a k)) (sym (ap (λ (n : Node). coming n k) b-is))
              (short_trans _ _ _ (after.lies (coming a k) k less) (unheard k less)));
        })
