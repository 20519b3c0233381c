use Rattle.std.proofs.Common.{◌≡◌, ◌-◌, ◌+◌, suc, sym, ap, ◌∙◌, arith}
use Rattle.ws_steps.specs.Run.{work}
use Rattle.ws_realm.proofs.Working.{is-busy, work-job, work-more, job-age}
use Rattle.ws_realm.proofs.realm.Realm.work.Goals as goal

pub loop-done-preserved : goal.loop-done-preserved
loop-done-preserved c =
    let before = c.loop-done.self.slots in
    let after = c.job.new.self.slots in
    let was = c.loop-done.invariant in
    let left = c.in_ok-job.ensures.slots in
    let busy = is-busy before (λ none. c.if-queued-eq0.false (c.queued.ensures ∙ none)) in
    record {
      slots = sym (work-job (c.args.most - c.loop-done._done) (c.args.most - (c.loop-done._done + 1)) before after (omega arith) busy left) ∙ was.slots;
      done =
          let one : suc c.loop-done._done ≡ c.loop-done._done + 1 = omega arith in
          work-more c.loop-done._done c.args.self.now.slots before after was.done busy left ∙ ap (λ n. work n c.args.self.now.slots) one;
      age = let one = job-age before after busy left in let so_far = was.age in omega (arith, one, so_far);
      untouched = λ none. absurd (omega (arith, none));
    }
