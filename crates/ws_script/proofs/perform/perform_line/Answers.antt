use Rattle.std.proofs.Common.{◌≤◌, ◌+◌, Err, ap, arith}
use Rattle.ws_realm.proofs.Working.{task-age}
use Rattle.ws_script.proofs.perform.perform_line.Goals as goal

pub want_of_memory-requires-in-Err-work : goal.want_of_memory-requires-in-Err-work
want_of_memory-requires-in-Err-work c = λ spent.
    let called : c.call.new.self.slots.age ≤ c.args.realm.now.slots.age + 1 + 0 = rw (c.in-Ok.ensures.slots) (task-age 0 c.in_ok-call.call c.args.realm.now.slots) in
    let room = c.requires in
    c.in-Err-work.ensures.early (omega arith) (ap Err spent)
