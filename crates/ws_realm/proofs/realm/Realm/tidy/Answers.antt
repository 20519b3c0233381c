use Rattle.std.proofs.Common.{◌≡◌, ◌∙◌, ap, sym, subst}
use Rattle.ws_alike.specs.Alike.{EachKeptIsNeeded, trim}
use Rattle.ws_alike.proofs.Running.{trim-alike}
use Rattle.ws_alike.proofs.Tidying.{trim-keeps_needed}
use Rattle.ws_tables.specs.View.{slots_of}
use Rattle.ws_realm.specs.Seen.{SeenRealm}
use Rattle.ws_realm.proofs.Resting.{places-still, ready-still, rests-still, trim-less, trim-long}
use Rattle.ws_realm.proofs.realm.Realm.tidy.Goals as goal

pub invariant_of-self : goal.invariant_of-self
invariant_of-self c =
    let t = c.self.inside.tables in
    let s = slots_of t in
    let was = c.self.invariant in
    rw c.tidy.ensures (
      rests-still t (trim s).promises (trim-long s) was.0,
      was.1,
      λ ready. let h = was.2 ready in (ready-still t (trim s).promises (trim-less s) h.0, h.1),
      λ some. places-still c.self.inside.places t (trim s).promises (trim-less s) (was.3 some),
    )

pub returns-clause-alike : goal.returns-clause-alike
returns-clause-alike c =
    let s = c.args.self.now.slots in
    let left : slots_of c.tidy.new.self ≡ trim s = ap slots_of c.tidy.ensures ∙ ap (λ (r : SeenRealm). trim r.slots) c.self.view_is in
    sym (ap trim left ∙ trim-alike s)

pub returns-clause-needed : goal.returns-clause-needed
returns-clause-needed c =
    let s = c.args.self.now.slots in
    let left : slots_of c.tidy.new.self ≡ trim s = ap slots_of c.tidy.ensures ∙ ap (λ (r : SeenRealm). trim r.slots) c.self.view_is in
    subst EachKeptIsNeeded (sym left) (trim-keeps_needed s)
