use Rattle.std.proofs.Common.{◌≡◌, ◌∙◌, true, sym, ap, arith}
use Rattle.ws_steps.specs.Run.{is_idle}
use Rattle.ws_steps.specs.Slots.{Slots, Done}
use Rattle.ws_laws.proofs.Ages.{begin_job-age}
use Rattle.ws_tables.specs.Room.{Places}
use Rattle.ws_tables.specs.View.{slots_of}
use Rattle.ws_calls.proofs.Beginning.{job-begins}
use Rattle.ws_tables.proofs.Places.{kept_same}
use Rattle.ws_begin_job.proofs.Idle.{idle-begins, not-false}
use Rattle.ws_calls.proofs.perform.perform_uncommon_job.Goals as goal

idle : (c : goal.Then-not-begin_job) → is_idle (slots_of c.args.tables.now) ≡ true
idle c = not-false (is_idle (slots_of c.args.tables.now)) (sym c.if-not-begin_job.true ∙ c.begin_job.ensures.worked)

pub returns-then-not-begin_job-clause-slots : goal.returns-then-not-begin_job-clause-slots
returns-then-not-begin_job-clause-slots c =
    let old = slots_of c.args.tables.now in
    rw (idle c) (c.begin_job.ensures.begins.slots ∙ ap (λ (d : Done). d.slots) (idle-begins old (idle c)))

pub returns-then-not-begin_job-clause-resting : goal.returns-then-not-begin_job-clause-resting
returns-then-not-begin_job-clause-resting c =
    let did = c.begin_job.ensures.begins in
    let rest = c.requires.resting in
    record {
      caused = did.caused ∙ ap (λ (d : Done). d.caused) (idle-begins (slots_of c.args.tables.now) (idle c));
      others = ap (λ v. v.items) did.others ∙ rest.others;
      under_way = ap (λ (p : Places). p.under_way.items) did.places ∙ rest.under_way;
      kept = kept_same c.args.tables.now c.begin_job.new.tables (did.slots ∙ ap (λ (d : Done). d.slots) (idle-begins (slots_of c.args.tables.now) (idle c))) did.records rest.kept;
    }

pub returns-then-not-begin_job-clause-age : goal.returns-then-not-begin_job-clause-age
returns-then-not-begin_job-clause-age c =
    let same = ap (λ (s : Slots). s.age) c.begin_job.ensures.begins.slots ∙ begin_job-age (slots_of c.args.tables.now) in
    omega (arith, same)

pub perform_effects-requires-clause-room : goal.perform_effects-requires-clause-room
perform_effects-requires-clause-room c = (job-begins c.args.tables.now c.begin_job.new.tables c.requires.ready c.requires.resting c.begin_job.ensures.begins).room

pub perform_effects-requires-clause-turns : goal.perform_effects-requires-clause-turns
perform_effects-requires-clause-turns c = (job-begins c.args.tables.now c.begin_job.new.tables c.requires.ready c.requires.resting c.begin_job.ensures.begins).turns

pub perform_effects-requires-clause-kept : goal.perform_effects-requires-clause-kept
perform_effects-requires-clause-kept c = (job-begins c.args.tables.now c.begin_job.new.tables c.requires.ready c.requires.resting c.begin_job.ensures.begins).kept

pub overflow_add-tables : goal.overflow_add-tables
overflow_add-tables c =
    let begun = ap (λ (s : Slots). s.age) c.begin_job.ensures.begins.slots ∙ begin_job-age (slots_of c.args.tables.now) in
    let performed = c.perform_effects.ensures.age in
    omega (arith, begun, performed, c.requires.young)

pub returns-clause-age : goal.returns-clause-age
returns-clause-age c =
    let begun = ap (λ (s : Slots). s.age) c.begin_job.ensures.begins.slots ∙ begin_job-age (slots_of c.args.tables.now) in
    let performed = c.perform_effects.ensures.age in
    omega (arith, begun, performed)
