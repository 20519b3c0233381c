-- One step of a readable stream.
use Rattle.std.proofs.Common.{◌≡◌, ◌≢◌, false, List, [], ◌∷◌, ◌++◌, length, refl, sym, append-nil, arith}
use Rattle.ws_value.specs.declared.ids.StreamId.{StreamId}
use Rattle.ws_value.specs.declared.value.Value.{Value}
use Rattle.ws_steps.specs.declared.{readable.ReadableState.{ReadableState}, readable.ReadableState.TheVariants.{Readable, Closed, Errored}}
use Rattle.ws_steps.specs.Readable as readable
use Rattle.ws_steps.specs.Slots.{Slots, empty, has_byte, readable_at}
use Rattle.ws_laws.proofs.StaysBytes.{no-byte-before}
use Rattle.ws_steps.specs.Run.{step, run}
use Rattle.ws_steps.specs.ReadableHistory.{Flow, flow_then, values, step_flow, run_flow}
use Rattle.ws_steps.specs.Laws.{EachReadableStep}
use Rattle.ws_laws.proofs.Lists.{append_none}
use Rattle.ws_readable_laws.proofs.Runs.{Keeps, between, run-orderly, step-kept, run-kept}
use Rattle.ws_readable_laws.proofs.Ended.{entry_ended}
use Rattle.ws_laws.proofs.Halves.{run-halved, halved-empty}

-- a step is told from what is queued
abbrev queued_before : readable.Slots → Flow
queued_before r = record { entered = values r.queue; given = []; cancelled = false; asked = length r.requests }

from_queued : (i : StreamId) (s : Slots) (h : Flow) → has_byte i s ≡ false → Keeps i h s → Keeps i (queued_before (readable_at i s)) s
from_queued i s h kind k =
    let b = (k.held kind).held.balanced in
    record {
      unmade = λ c f. refl;
      held = λ c. record {
        held = record {
          dropped = [];
          balanced = record { all = sym (append-nil (values (readable_at i s).queue)); live = λ f. refl; whole = λ c f. refl; gone = b.gone; fit = b.fit; asked = omega arith };
        };
        clear = tt;
      };
    }

no_state : (s : ReadableState) → s ≢ Readable → readable.is_readable s ≡ false
no_state Readable n = absurd (n refl)
no_state Closed n = refl
no_state Errored n = refl

drops_none : (G Q D E : List Value) → E ≡ G ++ (Q ++ D) → D ≡ [] → E ≡ G ++ Q
drops_none G Q D E e d = rw (d, append-nil) at e

none_of : (G R Q E : List Value) → Q ++ E ≡ G ++ R → Q ≡ [] → E ≡ [] → G ≡ []
none_of G R Q E e q n = (append_none G R (rw (q, n) at (sym e))).0

pub each_readable_step : EachReadableStep
each_readable_step entries x i later =
    let s : Slots = run entries empty in
    let kind : has_byte i s ≡ false = no-byte-before i (x ∷ []) s later in
    let r : readable.Slots = readable_at i s in
    let z : readable.Slots = readable_at i (step s x) in
    let f : Flow = step_flow i s x in
    let k = run-kept i entries in
    let h = between (flow_then (queued_before r) f) z ((step-kept i (queued_before r) s x (run-orderly i entries) (from_queued i s (run_flow i entries empty) kind k)).held later) in
    let b = h.balanced in
    record {
      readable = λ g e. drops_none f.given (values z.queue) h.dropped (values r.queue ++ f.entered) b.all (b.live e);
      closed = λ g c e. drops_none f.given (values z.queue) h.dropped (values r.queue ++ f.entered) b.all (b.whole c e);
      front = (values z.queue ++ h.dropped, sym b.all);
      ended = λ n.
          let none = entry_ended i x s (run-halved entries empty halved-empty) n in
          (none, none_of f.given (values z.queue ++ h.dropped) (values r.queue) f.entered b.all ((k.held kind).held.balanced.gone (no_state r.state n)) none);
    }
