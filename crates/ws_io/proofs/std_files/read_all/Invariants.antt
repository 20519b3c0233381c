use Rattle.std.proofs.Common.{◌≤◌, length}
use Rattle.ws_io.specs.Files.{load_limit}
use Rattle.ws_io.proofs.std_files.read_all.Given as goal

abbrev pub invariant-loop : goal.invariant-loop
invariant-loop g l = length l.bytes.items ≤ load_limit
