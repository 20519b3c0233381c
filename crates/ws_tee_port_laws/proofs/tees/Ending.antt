-- What each tee hands to its branches, in every run (`each_tee_hands_to_both`): the closed promise of its reader tells the end of its source.
use Rattle.ws_value.specs.declared.ids.TeeId.{TeeId}
use Rattle.ws_steps.specs.TeeLaws.{EachTeeHandsToBoth}
use Rattle.ws_tee_port_laws.proofs.tees.Both.{each_tee_hands_to_both_where}
use Rattle.ws_tee_port_laws.proofs.tees.Ends.{rejected}
use Rattle.ws_tee_port_laws.proofs.tees.Held.{Hears, hears-stays, hears-heard, hears-empty, nothing-held}
use Rattle.ws_tee_port_laws.proofs.tees.Opening.{IsEnding}

ending : (t : TeeId) → IsEnding t (Hears t)
ending t = record {
  goes = hears-stays t;
  rests = hears-heard t;
  begins = hears-empty t;
  rejected = λ s r d x k e now. (rejected t s r d x k.ends e now, nothing-held t s r d x k e now);
}

pub each_tee_hands_to_both : EachTeeHandsToBoth
each_tee_hands_to_both = each_tee_hands_to_both_where Hears ending
