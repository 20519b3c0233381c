use Rattle.std.proofs.Common.{◌∙◌, ap}
use Rattle.ws_promise.specs.Seen.{Seen}
use Rattle.ws_slots.specs.View.{all_waiting}
use Rattle.ws_alike.specs.Alike.{kept_in}
use Rattle.ws_slots.proofs.KeptLemmas.{kept-shown}
use Rattle.ws_promise.proofs.promises.Promises.kept.Goals as goal

pub returns : goal.returns
returns c =
    let a = c.self.inside in
    c.count_kept.ensures ∙ (kept-shown 0 a.slots.items (all_waiting a.slots.items a.waiting.items) ∙ ap (λ (v : Seen). kept_in v.table.entries) c.self.view_is)
