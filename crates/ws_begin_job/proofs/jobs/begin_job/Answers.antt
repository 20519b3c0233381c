use Rattle.std.proofs.Common.{◌≡◌, ◌∙◌, None, sym, ap, refl}
use Rattle.ws_steps.specs.Promises.{next_job}
use Rattle.ws_steps.specs.Slots.{Done}
use Rattle.ws_tables.specs.View.{slots_of}
use Rattle.ws_begin_job.proofs.Idle.{begins-none}
use Rattle.ws_begin_job.proofs.jobs.begin_job.Goals as goal

pub returns-in-None-clause-begins : goal.returns-in-None-clause-begins
returns-in-None-clause-begins c =
    let old = c.args.tables.now in
    let none : next_job old.promises.table ≡ None = sym (rw c.in-None.is at c.first_job.ensures) in
    let begun = begins-none (slots_of old) none in
    record {
      slots = ap (λ (d : Done). d.slots) (sym begun);
      caused = c.requires.quiet ∙ ap (λ (d : Done). d.caused) (sym begun);
      others = refl;
      places = refl;
      records = record { streams = refl; grown = refl; waiting = refl; pipes = refl; signals = refl; full = refl; aborts = refl; tees = refl; uncopied = refl };
    }
