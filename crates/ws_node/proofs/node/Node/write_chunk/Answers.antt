use Rattle.std.proofs.Common.{◌≡◌, ◌-◌, ℕ, length, sym, ap, subst, ◌∙◌}
use Rattle.std.specs.Prelude.{◌==◌}
use Rattle.ws_node.specs.declared.node.Entrance.{Entrance}
use Rattle.ws_node.specs.declared.node.Node.{Node}
use Rattle.ws_node.specs.Moves.{WroteAll, WroteLess, WroteNone, Reached, DrawsNear, written}
use Rattle.ws_node.proofs.Asking.{is_open, isn't_open, untouched, gains-all, had-none, had-some}
use Rattle.ws_node.proofs.node.Node.write_chunk.Goals.{then-is_empty, else-is_empty}
use Rattle.ws_node.proofs.node.Node.write_chunk.Goals as goal

pub returns-then-not-is_open : goal.returns-then-not-is_open
returns-then-not-is_open g c =
    WroteNone (isn't_open c.args.self.now.exit.output c.is_open.result c.is_open.ensures c.if-not-is_open.true) (untouched _ (g.K.Sink.got c.args.output.now)) c.fail_output.ensures

pub returns-then-is_reached : goal.returns-then-is_reached
returns-then-is_reached g c =
    Reached (is_open c.args.self.now.exit.output c.is_open.result c.is_open.ensures c.if-not-is_open.false) (sym c.is_reached.ensures ∙ c.if-is_reached.true)
    (untouched _ (g.K.Sink.got c.args.output.now)) c.fail_output-then-is_reached.ensures

pub returns-after-is_empty : goal.returns-after-is_empty
returns-after-is_empty g c =
    let w = c.in-Ok.ensures in
    let n : Node = c.args.self.now in
    let empty : c.is_empty.result ≡ (length n.core.stages.items == 0) = c.is_empty.ensures ∙ ap (λ k. k == 0) n.core.stages.ok.0 in
    let had : c.if-is_empty.self ≡ written (length c.args.chunk.now) n = elim c.if-is_empty.branch [
      | then-is_empty v ↦
          v.self-is
          ∙ ap (λ (e : Entrance). record n { entrance = e })
          (v.had.ensures ∙ ap (λ (k : ℕ). record n.entrance { ahead = k })
          (ap (λ k. n.entrance.ahead - k) v.len.ensures ∙ sym (had-none n.core.stages.items c.is_empty.result (length c.args.chunk.now) n.entrance.ahead empty v.if-is_empty.true).1))
      | else-is_empty v ↦ v.self-is ∙ ap (λ k. record n { entrance = record n.entrance { ahead = k } }) (sym (had-some n.core.stages.items c.is_empty.result (length c.args.chunk.now) n.entrance.ahead empty v.if-is_empty.false))
    ] in
    WroteAll (is_open n.exit.output c.is_open.result c.is_open.ensures c.if-not-is_open.false) (sym c.is_reached.ensures ∙ c.if-is_reached.false)
    (gains-all _ _ c.args.chunk.now w.bytes.gain w.bytes.rest (sym c.as_slice.ensures ∙ w.bytes.first) w.bytes.all w.bytes.gained) w.cause.answered w.finished c.draw_near.new.self
    (subst (λ (a : Node). DrawsNear (length c.args.chunk.now) a c.draw_near.new.self) had
    (subst (λ (k : ℕ). DrawsNear k c.if-is_empty.self c.draw_near.new.self) c.len-in-Ok.ensures c.draw_near.ensures)) c.settle.ensures

pub returns-in-Err : goal.returns-in-Err
returns-in-Err g c =
    let w = c.in-Err.ensures in
    WroteLess (is_open c.args.self.now.exit.output c.is_open.result c.is_open.ensures c.if-not-is_open.false) (sym c.is_reached.ensures ∙ c.if-is_reached.false) w.bytes.gain w.bytes.rest
    (sym c.as_slice.ensures ∙ w.bytes.first) w.bytes.gained w.cause.failed w.finished c.fail_output-in-Err.ensures
