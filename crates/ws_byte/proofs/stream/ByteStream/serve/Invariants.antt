use Rattle.std.proofs.Common.{◌≡◌, ◌+◌, ◌*◌, ◌≤◌, length, true, false}
use Rattle.std.specs.Prelude.{cond}
use Rattle.ws_promise.specs.Seen.{HasEffectRoom, Seen}
use Rattle.ws_byte.specs.Seen.{acts_of, serving}
use Rattle.ws_byte.proofs.stream.ByteStream.serve.Given as goal

-- those that wait are served behind those that were
abbrev pub invariant-loop-going : goal.invariant-loop-going
invariant-loop-going l = record {
  row : (p : Seen) → serving l.me l.going (acts_of l.self p l.fx) ≡ serving l.me true (acts_of l.fn.self p l.fn.fx);
  open_yet : l.self.slots.stream.close_requested ≡ false;
  effects : HasEffectRoom (2 * length l.self.slots.stream.requests) l.fx;
  room : l.self.room ≡ l.fn.self.room;
  spares : l.self.spares ≡ l.fn.self.spares;
  effect_room : l.fx.capacity ≡ l.fn.fx.capacity;
  caused : length l.fx.effects + 2 * length l.self.slots.stream.requests ≤ length l.fn.fx.effects + 2 * length l.fn.self.slots.stream.requests;
  places : length l.self.slots.queue + length l.self.slots.descriptors ≤ length l.fn.self.slots.queue + length l.fn.self.slots.descriptors;
}

abbrev pub decreases-loop-going : goal.decreases-loop-going
decreases-loop-going l = length l.self.slots.stream.requests + cond l.going 1 0
