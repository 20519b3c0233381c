use Rattle.std.proofs.Common.{◌≡◌, ◌∙◌, ◌||◌, ◌+◌, true, false, nat_lt, drop, Some, None, refl, sym, ap}
use Rattle.std.specs.Prelude.{slice_get}
use Rattle.std.specs.Option.{option_copied}
use Rattle.ws_jobs.specs.declared.short.Short.{Short}
use Rattle.ws_alike.specs.Named.{in_all}
use Rattle.ws_jobs.specs.Queue.{in_short}
use Rattle.ws_jobs.proofs.NameLemmas.{all-drop, all-past}
use Rattle.ws_jobs.proofs.jobs.shorts_name.Goals as goal

pub returns-in_default : goal.returns-in_default
returns-in_default c =
    let none : slice_get c.args.shorts.now.items c.loop-i.i ≡ None = sym c.get.ensures ∙ ap (λ o. option_copied {T = Short} o) c.in_default.is in
    sym (c.loop-i.invariant.looked ∙ all-past (in_short c.args.p) c.loop-i.i c.args.shorts.now.items none)

pub returns-then-short_job_names : goal.returns-then-short_job_names
returns-then-short_job_names c =
    let some : slice_get c.args.shorts.now.items c.loop-i.i ≡ Some c.in-Some.short.now = sym c.get.ensures ∙ ap (λ o. option_copied {T = Short} o) c.in-Some.is in
    let here : nat_lt 0 (in_short c.args.p c.in-Some.short.now) ≡ true = sym c.short_job_names.ensures ∙ c.if-short_job_names.true in
    sym (c.loop-i.invariant.looked ∙ (all-drop (in_short c.args.p) c.loop-i.i c.args.shorts.now.items c.in-Some.short.now some ∙ ap (λ b. b || nat_lt 0 (in_all (in_short c.args.p) (drop (c.loop-i.i + 1) c.args.shorts.now.items))) here))

pub loop-i-preserved : goal.loop-i-preserved
loop-i-preserved c =
    let some : slice_get c.args.shorts.now.items c.loop-i.i ≡ Some c.in-Some.short.now = sym c.get.ensures ∙ ap (λ o. option_copied {T = Short} o) c.in-Some.is in
    let here : nat_lt 0 (in_short c.args.p c.in-Some.short.now) ≡ false = sym c.short_job_names.ensures ∙ c.if-short_job_names.false in
    record {
      looked = c.loop-i.invariant.looked ∙ (all-drop (in_short c.args.p) c.loop-i.i c.args.shorts.now.items c.in-Some.short.now some ∙ ap (λ b. b || nat_lt 0 (in_all (in_short c.args.p) (drop (c.loop-i.i + 1) c.args.shorts.now.items))) here);
    }
