use Rattle.std.proofs.Common.{◌≤◌, ◌+◌, length, ap, ◌∙◌, sym, subst}
use Rattle.ws_port.specs.declared.rule.Outgoing.{Outgoing}
use Rattle.ws_port.proofs.Rests.{emptied_next, emptied_last}
use Rattle.ws_port.proofs.meeting.emptied.Goals as goal

pub messages-preserved : goal.messages-preserved
messages-preserved c = let inv = c.messages.invariant in let whole = c.take_at.ensures.whole inv.can.1 in
    let bound = subst (λ (o : Outgoing). length o.sent ≤ length c.messages.seat.me.0.incoming.received + 8) inv.can.2 whole.0 in
    let within = subst (λ (o : Outgoing). length c.take_at.new.seat.me.0.incoming.received ≤ length o.sent) inv.can.2 whole.1 in record {
      table = (c.take_at.ensures.table ∙ inv.table.0, ap (λ z. z.words) c.take_at.ensures.table ∙ inv.table.1, ap (λ z. z.slots) c.take_at.ensures.table ∙ inv.table.2);
      can = (c.take_at.ensures.seat, c.take_at.ensures.parts.0 ∙ inv.can.1, c.take_at.ensures.parts.1 ∙ inv.can.2);
      so_far = emptied_next _ _ _ _ _ _ c.in-Some.m inv.so_far c.in-Some.ensures.taken bound within;
    }

pub returns-in-None : goal.returns-in-None
returns-in-None c = let inv = c.messages.invariant in let all = ap (λ (o : Outgoing). o.sent) (sym inv.can.2) ∙ c.in-None.ensures.all inv.can.1 in
    let r = emptied_last _ _ _ _ _ inv.so_far (all ∙ c.in-None.ensures.untaken) in record { rest = r.0; count = r.1; places = r.2 }
