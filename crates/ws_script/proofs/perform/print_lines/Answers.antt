use Rattle.std.proofs.Common.{◌≡◌, ◌≤◌, ◌+◌, suc, length, refl, ap, ap₂, arith, rules, Fits, w32}
use Rattle.std.proofs.lemmas.Result.{err_from_is_err_and}
use Rattle.ws_steps.specs.Run.{heard}
use Rattle.ws_steps.specs.Slots.{Slots}
use Rattle.ws_realm.proofs.Working.{task-age}
use Rattle.ws_script.specs.Printed.{after_line, line_text, lines_text, script_text}
use Rattle.ws_script.proofs.Flushing.{SoFar-start, SoFar-then, SoFar-stop, SoFar-end, SoFar-end_stop, Stops-at_once, on_ok_both, if_err_weaker, first_line, no_line}
use Rattle.ws_script.proofs.perform.print_lines.Goals as goal

pub returns-in_default-clause-err : goal.returns-in_default-clause-err
returns-in_default-clause-err g c =
    Stops-at_once (record { faults = g.K.Sink.faults c.args.output.now; finished = g.K.Sink.finished c.args.output.now })
    (g.K.Sink.got c.args.output.now) (script_text c.args.lines.items)

pub loop-line-init : goal.loop-line-init
loop-line-init g c = record {
  printed =
      SoFar-start (record { faults = g.K.Sink.faults c.args.output.now; finished = g.K.Sink.finished c.args.output.now })
      (g.K.Sink.got c.args.output.now) (script_text c.args.lines.items) c.new-text.result.items (lines_text c.from-waiting.result.items c.in-Ok.realm.slots)
      c.new-text.ensures.items (ap₂ lines_text c.from-waiting.ensures.0 c.in-Ok.ensures);
  room =
      let new : c.in-Ok.realm.slots.age ≡ 0 = ap (λ (s : Slots). s.age) c.in-Ok.ensures in
      let all : length c.from-waiting.result.items ≡ length c.args.lines.items = ap length c.from-waiting.ensures.0 in
      let few = c.requires in
      omega arith;
}

pub print_line-requires : goal.print_line-requires
print_line-requires g c =
    let popped : length c.loop-line.waiting.items ≡ suc (length c.pop_front.new.self.items) = ap length c.in-Some.ensures.items in
    let room = c.loop-line.invariant.room in
    let fits : Fits w32 c.in-Some.line.jobs = search rules in
    omega arith

pub loop-line-preserved : goal.loop-line-preserved
loop-line-preserved g c = record {
  printed =
      SoFar-then
      (record { faults = g.K.Sink.faults c.args.output.now; finished = g.K.Sink.finished c.args.output.now })
      (record { faults = g.K.Sink.faults c.loop-line.output; finished = g.K.Sink.finished c.loop-line.output })
      (record { faults = g.K.Sink.faults c.print_line.new.output; finished = g.K.Sink.finished c.print_line.new.output })
      (g.K.Sink.got c.args.output.now) (g.K.Sink.got c.loop-line.output) (g.K.Sink.got c.print_line.new.output)
      (script_text c.args.lines.items) c.loop-line.text.items c.print_line.new.text.items
      (lines_text c.loop-line.waiting.items c.loop-line.realm.slots) (line_text c.in-Some.line c.loop-line.realm.slots)
      (lines_text c.pop_front.new.self.items c.print_line.new.realm.slots)
      c.loop-line.invariant.printed
      (first_line c.loop-line.waiting.items c.pop_front.new.self.items c.in-Some.line c.loop-line.realm.slots c.print_line.new.realm.slots c.in-Some.ensures.items c.in_ok-print_line.ensures.slots)
      c.in_ok-print_line.ensures.ok;
  room =
      let popped : length c.loop-line.waiting.items ≡ suc (length c.pop_front.new.self.items) = ap length c.in-Some.ensures.items in
      let task = task-age c.in-Some.line.jobs c.in-Some.line.call c.loop-line.realm.slots in
      let aged : c.print_line.new.realm.slots.age ≤ c.loop-line.realm.slots.age + 1 + c.in-Some.line.jobs = rw (c.in_ok-print_line.ensures.slots) task in
      let room = c.loop-line.invariant.room in
      let fits : Fits w32 c.in-Some.line.jobs = search rules in
      omega arith;
}

pub returns-in_err-print_line-clause-err : goal.returns-in_err-print_line-clause-err
returns-in_err-print_line-clause-err g c =
    let p = err_from_is_err_and c.from_residual.result c.from_residual.ensures.1 in
    rw (p.1, p.2)
    (SoFar-stop c.in_err-print_line.field-0.0
    (record { faults = g.K.Sink.faults c.args.output.now; finished = g.K.Sink.finished c.args.output.now })
    (record { faults = g.K.Sink.faults c.loop-line.output; finished = g.K.Sink.finished c.loop-line.output })
    (record { faults = g.K.Sink.faults c.print_line.new.output; finished = g.K.Sink.finished c.print_line.new.output })
    (g.K.Sink.got c.args.output.now) (g.K.Sink.got c.loop-line.output) (g.K.Sink.got c.print_line.new.output)
    (script_text c.args.lines.items) c.loop-line.text.items
    (lines_text c.loop-line.waiting.items c.loop-line.realm.slots) (line_text c.in-Some.line c.loop-line.realm.slots)
    (lines_text c.pop_front.new.self.items (heard (after_line c.in-Some.line c.loop-line.realm.slots)))
    c.loop-line.invariant.printed
    (first_line c.loop-line.waiting.items c.pop_front.new.self.items c.in-Some.line c.loop-line.realm.slots (heard (after_line c.in-Some.line c.loop-line.realm.slots)) c.in-Some.ensures.items refl)
    c.in_err-print_line.ensures.err)

pub returns-clause-ok : goal.returns-clause-ok
returns-clause-ok g c =
    on_ok_both c.flush.result _ _ _
    (λ on empty. SoFar-end
    (record { faults = g.K.Sink.faults c.args.output.now; finished = g.K.Sink.finished c.args.output.now })
    (record { faults = g.K.Sink.faults c.loop-line.output; finished = g.K.Sink.finished c.loop-line.output })
    (record { faults = g.K.Sink.faults c.flush.new.output; finished = g.K.Sink.finished c.flush.new.output })
    (g.K.Sink.got c.args.output.now) (g.K.Sink.got c.loop-line.output) (g.K.Sink.got c.flush.new.output)
    (script_text c.args.lines.items) c.loop-line.text.items (lines_text c.loop-line.waiting.items c.loop-line.realm.slots) c.flush.new.text.items
    c.loop-line.invariant.printed
    (no_line c.loop-line.waiting.items c.pop_front.new.self.items c.loop-line.realm.slots c.pop_front.result c.pop_front.ensures.items c.in_default-pop_front.is c.pop_front.ensures.rest)
    on empty)
    c.flush.ensures.ok c.flush.ensures.empty

pub returns-clause-err : goal.returns-clause-err
returns-clause-err g c =
    if_err_weaker c.flush.result _ _
    (λ status stop. SoFar-end_stop status
    (record { faults = g.K.Sink.faults c.args.output.now; finished = g.K.Sink.finished c.args.output.now })
    (record { faults = g.K.Sink.faults c.loop-line.output; finished = g.K.Sink.finished c.loop-line.output })
    (record { faults = g.K.Sink.faults c.flush.new.output; finished = g.K.Sink.finished c.flush.new.output })
    (g.K.Sink.got c.args.output.now) (g.K.Sink.got c.loop-line.output) (g.K.Sink.got c.flush.new.output)
    (script_text c.args.lines.items) c.loop-line.text.items (lines_text c.loop-line.waiting.items c.loop-line.realm.slots)
    c.loop-line.invariant.printed
    (no_line c.loop-line.waiting.items c.pop_front.new.self.items c.loop-line.realm.slots c.pop_front.result c.pop_front.ensures.items c.in_default-pop_front.is c.pop_front.ensures.rest)
    stop)
    c.flush.ensures.err
