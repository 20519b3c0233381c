-- What each branch of a tee gets (`each_branch_gets_a_first_part`).
use Rattle.std.proofs.Common.{◌≡◌, true, is_some, List, [], ◌∷◌, ◌++◌, Option, Some, None, slice_get, refl, sym, ap, ◌∙◌, append-nil}
use Rattle.ws_value.specs.declared.ids.StreamId.{StreamId}
use Rattle.ws_value.specs.declared.ids.TeeId.{TeeId}
use Rattle.ws_value.specs.declared.value.Value.{Value}
use Rattle.ws_steps.specs.declared.tee.Half.{Half}
use Rattle.ws_steps.specs.declared.tee.Half.TheVariants.{First, Second}
use Rattle.ws_steps.specs.Histories.{along, in_step, over}
use Rattle.ws_steps.specs.Laws.{IsPrefixOf}
use Rattle.ws_steps.specs.ReadableHistory.{no_flow, flow_then, effect_flow, run_flow}
use Rattle.ws_steps.specs.Run.{Entry, step, run}
use Rattle.ws_steps.specs.Slots.{Slots, empty, as_tee}
use Rattle.ws_steps.specs.Tee as tee
use Rattle.ws_steps.specs.TeeHistory.{run_teed}
use Rattle.ws_steps.specs.Turns.{Moment}
use Rattle.ws_steps.specs.Run.{moments_in}
use Rattle.ws_laws.proofs.Shapes.{branch_of, tee_shape}
use Rattle.ws_tee_port_laws.specs.tees.Parts.{GetsParts, EachBranchGetsAFirstPart}
use Rattle.ws_tee_port_laws.proofs.tees.Given.{given-on}
use Rattle.ws_tee_port_laws.proofs.tees.Handed.{handed_by, run_handed}
use Rattle.ws_tee_port_laws.proofs.tees.Hands.{none_went, went_then, told, Front, Live, Shut, Left}
use Rattle.ws_tee_port_laws.proofs.tees.Runs.{IsLost, run_went, run-front}

-- two histories that are told together

module _ (t : TeeId) (b : StreamId) where
  along-handed : (ms : List Moment) → (along none_went went_then (told t b) ms).handed ≡ along [] (λ f g. f ++ g) (handed_by t) ms
  along-handed [] = refl
  along-handed (m ∷ ms) = ap (λ (vs : List Value). handed_by t m.effect m.found ++ vs) (along-handed ms)

  along-entered : (ms : List Moment) → (along none_went went_then (told t b) ms).entered ≡ (along no_flow flow_then (effect_flow b) ms).entered
  along-entered [] = refl
  along-entered (m ∷ ms) = ap (λ (vs : List Value). (effect_flow b m.effect m.found).entered ++ vs) (along-entered ms)

  pub over-handed : (xs : List Entry) (s : Slots) → (over none_went went_then (λ z x. in_step none_went went_then (told t b) z x) xs s).handed ≡ run_handed t xs s
  over-handed [] s = refl
  over-handed (x ∷ xs) s =
      ap (λ (vs : List Value). vs ++ (over none_went went_then (λ z x. in_step none_went went_then (told t b) z x) xs (step s x)).handed) (along-handed (moments_in s x))
      ∙ ap (λ (vs : List Value). in_step [] (λ f g. f ++ g) (handed_by t) s x ++ vs) (over-handed xs (step s x))

  pub over-entered : (xs : List Entry) (s : Slots) → (over none_went went_then (λ z x. in_step none_went went_then (told t b) z x) xs s).entered ≡ (run_flow b xs s).entered
  over-entered [] s = refl
  over-entered (x ∷ xs) s =
      ap (λ (vs : List Value). vs ++ (over none_went went_then (λ z x. in_step none_went went_then (told t b) z x) xs (step s x)).entered) (along-entered (moments_in s x))
      ∙ ap (λ (vs : List Value). (in_step no_flow flow_then (effect_flow b) s x).entered ++ vs) (over-entered xs (step s x))

-- whatever a branch is lost for
any_lost : (t : TeeId) (half : Half) (b : StreamId) → IsLost t half b (λ x es. true) (λ s es. Unit {0})
any_lost t half b = record {
  goes = record { row = λ s e es k. tt; call = λ s c k. tt; job = λ s job e k. tt; answered = λ s p k. tt; older = λ s k. tt };
  rests = λ s k. tt;
  begins = tt;
  more = λ x es l. refl;
  stays = λ s e es x y k halved one at is now l. refl;
  refused = λ s v es x k halved one followed at is no. refl;
}

module _ (entries : List Entry) (t : TeeId) where
  abbrev Now : Slots
  Now = run entries empty

  front-part : (half : Half) (b : StreamId) (x : tee.Slots) → Front (λ x es. true) t half b (run_went t half b (λ x es. true) (λ s es. Unit {0}) (any_lost t half b) entries empty) Now [] x
      → IsPrefixOf (run_flow b entries empty).entered (run_handed t entries empty)
  front-part half b x (Live k) = ([], append-nil _ ∙ (sym (over-entered t b entries empty) ∙ (sym (append-nil _) ∙ (k ∙ over-handed t b entries empty))))
  front-part half b x (Shut p c m) = (p.0, sym (ap (λ (vs : List Value). vs ++ p.0) (over-entered t b entries empty)) ∙ (p.1 ∙ over-handed t b entries empty))
  front-part half b x (Left p r n) = (p.0, sym (ap (λ (vs : List Value). vs ++ p.0) (over-entered t b entries empty)) ∙ (p.1 ∙ over-handed t b entries empty))

  part : (half : Half) (x : tee.Slots) → slice_get Now.tees t.0 ≡ Some x → IsPrefixOf (run_flow (branch_of half (tee_shape x)) entries empty).entered (run_handed t entries empty)
  part half x at =
      let b : StreamId = branch_of half (tee_shape x) in
      front-part half b x (run-front t half b (λ x es. true) (λ s es. Unit {0}) (any_lost t half b) entries x at refl)

  parts : (o : Option tee.Slots) → slice_get Now.tees t.0 ≡ o → is_some o ≡ true
      → GetsParts (run_teed t entries empty) (run_flow (as_tee o).branch1 entries empty) (run_flow (as_tee o).branch2 entries empty) (as_tee o)
  parts None at is = cc
  parts (Some x) at is = record { handed = run_handed t entries empty; given = given-on t entries x at; first = part First x at; second = part Second x at }

pub each_branch_gets_a_first_part : EachBranchGetsAFirstPart
each_branch_gets_a_first_part entries t is = parts entries t (slice_get (run entries empty).tees t.0) refl is
