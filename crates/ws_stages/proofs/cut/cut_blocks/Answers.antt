use Rattle.std.proofs.Common.{sym, ap, ◌∙◌, arith}
use Rattle.ws_flow.specs.Machines.{each_byte}
use Rattle.ws_flow.specs.Stages.{block_byte}
use Rattle.ws_stages.specs.Cuts.{kept_of, seen, with_chunks}
use Rattle.ws_stages.proofs.Feeds.{after_some, after_byte, at_end, block_fine}
use Rattle.ws_stages.proofs.cut.cut_blocks.Goals as goal

pub returns-in_default-clause-seen : goal.returns-in_default-clause-seen
returns-in_default-clause-seen c =
    let left-over =
    after_some c.args.stage.now.0 (kept_of c.loop-left.cut) (kept_of c.keep.new.self) c.loop-left.cut.chunks.items c.keep.new.self.chunks.items
    c.loop-left.left.now c.split_at.result.0.now c.split_at.result.1.now c.min.result
    (grind (arith, c.min.ensures, c.saturating_sub-room.ensures, c.saturating_sub.ensures, c.len.ensures))
    c.split_at.ensures.front c.split_at.ensures.back c.in_ok-keep.ensures.kept c.in_ok-keep.ensures.chunks
    ∙ c.loop-left.invariant.seen in
    at_end (block_byte c.args.stage.now.0) (kept_of c.keep.new.self) c.keep.new.self.chunks.items c.split_at.result.1.now c.keep.new.self.ending
    (c.in_ok-keep.ensures.ending ∙ c.loop-left.invariant.fine) c.in_default.ensures.cases
    ∙ left-over

pub loop-left-preserved : goal.loop-left-preserved
loop-left-preserved c =
    let left-over =
    after_some c.args.stage.now.0 (kept_of c.loop-left.cut) (kept_of c.keep.new.self) c.loop-left.cut.chunks.items c.keep.new.self.chunks.items
    c.loop-left.left.now c.split_at.result.0.now c.split_at.result.1.now c.min.result
    (grind (arith, c.min.ensures, c.saturating_sub-room.ensures, c.saturating_sub.ensures, c.len.ensures))
    c.split_at.ensures.front c.split_at.ensures.back c.in_ok-keep.ensures.kept c.in_ok-keep.ensures.chunks
    ∙ c.loop-left.invariant.seen in
    let fine = ap (λ q. q.ending) c.in_ok-step.ensures.seen ∙ block_fine c.args.stage.now.0 (kept_of c.keep.new.self) c.in-Some.byte.now in
    record {
      fine = fine;
      seen =
          after_byte (block_byte c.args.stage.now.0) (kept_of c.keep.new.self) c.keep.new.self.chunks.items c.in-Some.byte.now c.in-Some.after.now (seen c.step.new.cut)
          c.in_ok-step.ensures.seen fine
          ∙ ap (λ q. with_chunks c.keep.new.self.chunks.items (each_byte (block_byte c.args.stage.now.0) (kept_of c.keep.new.self) q)) (sym c.in-Some.ensures.cases.0)
          ∙ left-over;
      stage = c.loop-left.invariant.stage;
      count = c.in_ok-step.ensures.count ∙ (ap (λ q. q.chunks) c.in_ok-keep.ensures.kept ∙ c.loop-left.invariant.count);
      bytes =
          let a = c.in_ok-step.ensures.bytes in
          let b = ap (λ q. q.bytes) c.in_ok-keep.ensures.kept in
          let l = c.loop-left.invariant.bytes in
          let x = c.in-Some.ensures.cases.1 in
          let y = c.split_at.ensures.back_len in
          let z = c.split_at.ensures.front_len in
          omega (arith, a, b, l, x, y, z);
    }
