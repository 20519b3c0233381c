use Rattle.std.proofs.Common.{◌≡◌, ◌≤◌, ◌-◌, length}
use Rattle.ws_io.specs.Feed.{Fed}
use Rattle.ws_script.specs.Reading.{most_of_a_text}
use Rattle.ws_script.proofs.read.read_text.Given as goal

abbrev pub invariant-reads : goal.invariant-reads
invariant-reads g l = record {
  moved : Fed (g.S.Source.feed l.fn.input) (g.S.Source.feed l.input) l.text.items;
  bound : length l.text.items ≤ most_of_a_text;
  calm : g.S.Source.faults l.input ≡ g.S.Source.faults l.fn.input;
}

abbrev pub decreases-reads : goal.decreases-reads
decreases-reads g l = most_of_a_text - length l.text.items
