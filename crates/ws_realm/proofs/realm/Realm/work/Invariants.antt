use Rattle.std.proofs.Common.{◌≡◌, ◌+◌, ◌-◌}
use Rattle.ws_steps.specs.Run.{work}
use Rattle.ws_realm.proofs.realm.Realm.work.Given as goal

-- so many jobs were performed, and the others are left
abbrev pub invariant-loop-done : goal.invariant-loop-done
invariant-loop-done l = record {
  slots : work (l.most - l._done) l.self.slots ≡ work l.most l.fn.self.slots;
  done : l.self.slots ≡ work l._done l.fn.self.slots;
  age : l.self.slots.age ≡ l.fn.self.slots.age + l._done;
  untouched : l._done ≡ 0 → l.self ≡ l.fn.self;
}
