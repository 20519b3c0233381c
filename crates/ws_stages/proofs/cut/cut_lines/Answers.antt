use Rattle.std.proofs.Common.{◌≡◌, ℕ, ◌+◌, [], length, take, drop, sym, ap, ◌∙◌, arith, refl}
use Rattle.std.proofs.lemmas.List.{take_all, length-drop}
use Rattle.ws_flow.specs.declared.plan.Ending.TheVariants.{Bad}
use Rattle.ws_flow.specs.Machines.{Kept}
use Rattle.ws_flow.specs.Stages.{line_byte}
use Rattle.ws_stages.specs.Cuts.{kept_of}
use Rattle.ws_stages.proofs.Feeds.{after_keep, after_line, at_end, at_too_long}
use Rattle.ws_stages.proofs.cut.cut_lines.Goals as goal

pub returns-then-at-left-clause-seen : goal.returns-then-at-left-clause-seen
returns-then-at-left-clause-seen c =
    let most = c.args.stage.now.0 in
    let left = c.loop-left.left.now in
    at_end (line_byte most) (kept_of c.keep.new.self) c.keep.new.self.chunks.items (drop (length left) left) c.keep.new.self.ending
    (c.in_ok-keep.ensures.ending ∙ c.loop-left.invariant.fine) (grind (arith, length-drop (length left) left))
    ∙ after_keep most (kept_of c.loop-left.cut) (kept_of c.keep.new.self) c.loop-left.cut.chunks.items c.keep.new.self.chunks.items left left (drop (length left) left) (length left)
    (λ i lt. c.before_feed-at.ensures.plain i (grind (arith, c.if-at-left.true, lt))) (omega arith) (grind (arith, c.if-at-left.true, c.before_feed-at.ensures.most, c.saturating_sub-room.ensures, c.len.ensures))
    (sym (take_all (length left) left (omega arith))) refl c.in_ok-keep.ensures.kept c.in_ok-keep.ensures.chunks
    ∙ c.loop-left.invariant.seen

pub returns-then-left-at-ne10-clause-seen : goal.returns-then-left-at-ne10-clause-seen
returns-then-left-at-ne10-clause-seen c =
    let seen-is = c.in_ok-keep_too_long.ensures.seen in
    at_too_long c.args.stage.now.0 (kept_of c.loop-left.cut) (kept_of c.keep_too_long.new.self) c.loop-left.cut.chunks.items c.keep_too_long.new.self.chunks.items
    c.loop-left.left.now (take c.before_feed-at.result c.loop-left.left.now) c.before_feed-at.result c.keep_too_long.new.self.ending
    c.before_feed-at.ensures.plain (grind (arith, c.if-at-left.false, c.before_feed-at.ensures.within)) (grind (arith, c.before_feed-at.ensures.most, c.saturating_sub-room.ensures, c.len.ensures))
    (λ lt below. c.before_feed-at.ensures.stops lt (grind (arith, below, c.saturating_sub-room.ensures, c.len.ensures)))
    c.if-left-at-ne10.true refl (ap (λ q. q.kept) seen-is) (ap (λ q. q.chunks) seen-is) (ap (λ q. q.ending) seen-is ∙ ap (λ q. Bad 1 q.kept.bytes) (sym seen-is))
    ∙ c.loop-left.invariant.seen

pub overflow_add-at : goal.overflow_add-at
overflow_add-at c = omega (arith, c.if-at-left.false, c.before_feed-at.ensures.within, c.loop-left.invariant.short)

pub loop-left-preserved : goal.loop-left-preserved
loop-left-preserved c =
    let e = c.in_ok-close_behind.ensures in
    record {
      fine = e.ending ∙ c.loop-left.invariant.fine;
      seen =
          after_line c.args.stage.now.0 (kept_of c.loop-left.cut) (kept_of c.close_behind.new.self) c.loop-left.cut.chunks.items c.close_behind.new.self.chunks.items
          c.loop-left.left.now c.split_at.result.0.now c.split_at.result.1.now c.before_feed-at.result
          c.before_feed-at.ensures.plain (grind (arith, c.if-at-left.false, c.before_feed-at.ensures.within)) (grind (arith, c.before_feed-at.ensures.most, c.saturating_sub-room.ensures, c.len.ensures))
          c.if-left-at-ne10.false c.split_at.ensures.front c.split_at.ensures.back
          (closed (kept_of c.loop-left.cut) (kept_of c.close_behind.new.self) (length c.split_at.result.0.now) e.rest e.bytes e.count) e.chunks
          ∙ c.loop-left.invariant.seen;
      stage = c.loop-left.invariant.stage;
      count = e.count ∙ c.loop-left.invariant.count;
      short =
          let l = c.loop-left.invariant.short in
          let y = c.split_at.ensures.back_len in
          omega (arith, l, y);
      bytes =
          let b = e.bytes in
          let l = c.loop-left.invariant.bytes in
          let y = c.split_at.ensures.back_len in
          let z = c.split_at.ensures.front_len in
          omega (arith, b, l, y, z);
    } where
      closed : (k j : Kept) (n : ℕ) → j.rest ≡ [] → j.bytes ≡ k.bytes + n → j.chunks ≡ k.chunks → j ≡ record k { rest = []; bytes = k.bytes + n }
      closed k j n r b c = grind (arith, r, b, c)
