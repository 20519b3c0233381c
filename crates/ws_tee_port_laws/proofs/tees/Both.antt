-- Each branch of a tee that isn't cancelled gets all that the source gave, but for the chunk that the tee holds: where the closed promise of the
-- tee's reader tells the end of its source.
use Rattle.std.proofs.Common.{◌≡◌, true, false, ◌||◌, is_some, List, [], ◌++◌, Option, Some, None, slice_get, refl, sym, ap, ◌∙◌, append-nil}
use Rattle.ws_value.specs.declared.ids.{StreamId.{StreamId}, TeeId.{TeeId}}
use Rattle.ws_value.specs.declared.value.{Plain.{Plain}, Value.{Value}}
use Rattle.ws_steps.specs.declared.effects.Effect.{Effect}
use Rattle.ws_steps.specs.declared.tee.{Half.{Half}, Half.TheVariants.{First, Second}}
use Rattle.ws_steps.specs.Laws.{IsPrefixOf}
use Rattle.ws_steps.specs.ReadableHistory.{run_flow}
use Rattle.ws_steps.specs.Run.{Entry, run}
use Rattle.ws_steps.specs.Slots.{Slots, empty, as_tee}
use Rattle.ws_steps.specs.Tee as tee
use Rattle.ws_steps.specs.Tee.{reason_of}
use Rattle.ws_steps.specs.TeeHistory.{run_teed}
use Rattle.ws_steps.specs.TeeLaws.{IsHanded, IsTeed, EachTeeHandsToBoth}
use Rattle.ws_laws.proofs.Shapes.{branch_of, tee_shape}
use Rattle.ws_tee_port_laws.proofs.tees.Given.{given-on}
use Rattle.ws_tee_port_laws.proofs.tees.Handed.{run_handed}
use Rattle.ws_tee_port_laws.proofs.tees.Hands.{Front, Live, Shut, Left}
use Rattle.ws_tee_port_laws.proofs.tees.Losing.{Opens, losing}
use Rattle.ws_tee_port_laws.proofs.tees.Opening.{IsEnding}
use Rattle.ws_tee_port_laws.proofs.tees.Parts.{over-handed, over-entered}
use Rattle.ws_tee_port_laws.proofs.tees.Reasons.{lost}
use Rattle.ws_tee_port_laws.proofs.tees.Runs.{run_went, run-front}

module _ (E : TeeId → Slots → List Effect → Type 0) (ending : (t : TeeId) → IsEnding t (E t)) (entries : List Entry) (t : TeeId) where
  abbrev Now : Slots
  Now = run entries empty

  module _ (half : Half) (b : StreamId) (x : tee.Slots) where
    abbrev IsFront : Type 0
    IsFront = Front (lost t half b) t half b (run_went t half b (lost t half b) (Opens t half b (E t) (ending t)) (losing t half b (E t) (ending t)) entries empty) Now [] x

    whole : IsFront → (reason_of half x ≡ None) → (run_flow b entries empty).entered ≡ run_handed t entries empty
    whole (Live k) n = sym (over-entered t b entries empty) ∙ (sym (append-nil _) ∙ (k ∙ over-handed t b entries empty))
    whole (Shut p c m) n = let wrong : false ≡ true = sym (ap (λ (o : Option Plain). is_some o || false) n) ∙ m in cc
    whole (Left p r m) n = let wrong : false ≡ true = sym (ap (λ (o : Option Plain). is_some o) n) ∙ r in cc

    part : IsFront → IsPrefixOf (run_flow b entries empty).entered (run_handed t entries empty)
    part (Live k) = ([], append-nil _ ∙ (sym (over-entered t b entries empty) ∙ (sym (append-nil _) ∙ (k ∙ over-handed t b entries empty))))
    part (Shut p c m) = (p.0, sym (ap (λ (vs : List Value). vs ++ p.0) (over-entered t b entries empty)) ∙ (p.1 ∙ over-handed t b entries empty))
    part (Left p r m) = (p.0, sym (ap (λ (vs : List Value). vs ++ p.0) (over-entered t b entries empty)) ∙ (p.1 ∙ over-handed t b entries empty))

    handed-by : (o : Option Plain) → reason_of half x ≡ o → IsFront → IsHanded o (run_handed t entries empty) (run_flow b entries empty).entered
    handed-by None e f = whole f e
    handed-by (Some r) e f = part f

  handed-to : (half : Half) (x : tee.Slots) → slice_get Now.tees t.0 ≡ Some x
      → IsHanded (reason_of half x) (run_handed t entries empty) (run_flow (branch_of half (tee_shape x)) entries empty).entered
  handed-to half x at =
      let b : StreamId = branch_of half (tee_shape x) in
      handed-by half b x (reason_of half x) refl (run-front t half b (lost t half b) (Opens t half b (E t) (ending t)) (losing t half b (E t) (ending t)) entries x at refl)

  handed-both : (o : Option tee.Slots) → slice_get Now.tees t.0 ≡ o → is_some o ≡ true
      → IsTeed (run_teed t entries empty) (run_flow (as_tee o).branch1 entries empty) (run_flow (as_tee o).branch2 entries empty) (as_tee o)
  handed-both None at is = cc
  handed-both (Some x) at is = record { handed = run_handed t entries empty; given = given-on t entries x at; first = handed-to First x at; second = handed-to Second x at }

-- where it does for each tee
pub each_tee_hands_to_both_where : (E : TeeId → Slots → List Effect → Type 0) → ((t : TeeId) → IsEnding t (E t)) → EachTeeHandsToBoth
each_tee_hands_to_both_where E ending entries t is = handed-both E ending entries t (slice_get (run entries empty).tees t.0) refl is
