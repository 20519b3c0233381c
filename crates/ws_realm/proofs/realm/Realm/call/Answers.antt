use Rattle.std.proofs.Common.{◌≡◌, sym, ◌∙◌, ap}
use Rattle.ws_steps.specs.declared.calls.Reply.TheVariants.{Throws}
use Rattle.ws_steps.specs.Run.{after_call, reply_to}
use Rattle.ws_laws.proofs.Throws.{each_throw_changes_nothing}
use Rattle.ws_realm.specs.Seen.{SeenRealm}
use Rattle.ws_tables.specs.View.{slots_of}
use Rattle.ws_realm.proofs.realm.Realm.call.Goals as goal

pub returns-clause-throws : goal.returns-clause-throws
returns-clause-throws c = λ t calm h.
    let throws : c.perform_call.result ≡ Throws t = cc in
    let seen : slots_of c.self.inside.tables ≡ c.args.self.now.slots = ap (λ (r : SeenRealm). r.slots) c.self.view_is ∙ c.prepare.ensures.slots in
    c.perform_call.ensures.slots
    ∙ (ap (after_call c.args.call) seen
    ∙ each_throw_changes_nothing c.args.call c.args.self.now.slots t calm (sym (c.perform_call.ensures.reply ∙ ap (reply_to c.args.call) seen) ∙ throws))
