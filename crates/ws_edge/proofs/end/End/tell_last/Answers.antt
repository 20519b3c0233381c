use Rattle.std.proofs.Common.{◌≡◌, ◌+◌, ◌++◌, ◌∷◌, [], true, length, sym, ap, ◌∙◌, ◌||◌, arith, length-append}
use Rattle.ws_value.specs.declared.value.Message.TheVariants.{Error}
use Rattle.ws_edge.proofs.Ends.{counted-more}
use Rattle.ws_edge.proofs.Marked.{marked-more}
use Rattle.ws_edge.proofs.end.End.tell_last.Goals as goal

pub invariant_of-self : goal.invariant_of-self
invariant_of-self c =
    let was = c.self.invariant in
    let f = was.0.fewer c.if-self.false in
    let waiting = c.self.inside.waiting.items in
    let more = c.push_back_reserved.ensures.items in
    let long : length c.push_back_reserved.new.self.items ≡ length waiting + 1 = ap length more ∙ length-append waiting (Error c.args.reason ∷ []) in (
      counted-more c.self.inside.to.sent waiting _ (Error c.args.reason) c.self.inside.count _ _ _ c.self.inside.ended true was.0 more (sym (ap (λ b. b || true) c.if-self.false)) f (λ no. absurd (cc)),
      marked-more c.self.inside.marks c.self.inside.to.sent (length waiting) (length c.push_back_reserved.new.self.items) c.self.inside.ended true was.1 long c.if-self.false (λ no. absurd (cc)),
    )
