use Rattle.std.proofs.Common.{◌≡◌, ◌∙◌, ◌||◌, ◌+◌, true, false, nat_lt, drop, Some, None, refl, sym, ap}
use Rattle.std.specs.Prelude.{slice_get}
use Rattle.std.specs.Option.{option_copied}
use Rattle.ws_steps.specs.declared.promises.Job.{Job}
use Rattle.ws_alike.specs.Named.{in_all}
use Rattle.ws_alike.specs.Named.{in_job}
use Rattle.ws_jobs.proofs.NameLemmas.{all-drop, all-past}
use Rattle.ws_jobs.proofs.jobs.others_name.Goals as goal

pub returns-in_default : goal.returns-in_default
returns-in_default c =
    let none : slice_get c.args.jobs.now.items c.loop-i.i ≡ None = sym c.get.ensures ∙ ap (λ o. option_copied {T = Job} o) c.in_default.is in
    sym (c.loop-i.invariant.looked ∙ all-past (in_job c.args.p) c.loop-i.i c.args.jobs.now.items none)

pub returns-then-job_names : goal.returns-then-job_names
returns-then-job_names c =
    let some : slice_get c.args.jobs.now.items c.loop-i.i ≡ Some c.in-Some.job.now = sym c.get.ensures ∙ ap (λ o. option_copied {T = Job} o) c.in-Some.is in
    let here : nat_lt 0 (in_job c.args.p c.in-Some.job.now) ≡ true = sym c.job_names.ensures ∙ c.if-job_names.true in
    sym (c.loop-i.invariant.looked ∙ (all-drop (in_job c.args.p) c.loop-i.i c.args.jobs.now.items c.in-Some.job.now some ∙ ap (λ b. b || nat_lt 0 (in_all (in_job c.args.p) (drop (c.loop-i.i + 1) c.args.jobs.now.items))) here))

pub loop-i-preserved : goal.loop-i-preserved
loop-i-preserved c =
    let some : slice_get c.args.jobs.now.items c.loop-i.i ≡ Some c.in-Some.job.now = sym c.get.ensures ∙ ap (λ o. option_copied {T = Job} o) c.in-Some.is in
    let here : nat_lt 0 (in_job c.args.p c.in-Some.job.now) ≡ false = sym c.job_names.ensures ∙ c.if-job_names.false in
    record {
      looked = c.loop-i.invariant.looked ∙ (all-drop (in_job c.args.p) c.loop-i.i c.args.jobs.now.items c.in-Some.job.now some ∙ ap (λ b. b || nat_lt 0 (in_all (in_job c.args.p) (drop (c.loop-i.i + 1) c.args.jobs.now.items))) here);
    }
