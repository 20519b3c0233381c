use Rattle.std.proofs.Common.{◌≡◌, drop}
use Rattle.ws_io.specs.Files.{text_at}
use Rattle.ws_io.specs.MemFiles.{pairs}
use Rattle.ws_io.proofs.mem_files.find.Given as goal

abbrev pub invariant-loop-entry : goal.invariant-loop-entry
invariant-loop-entry l = text_at (pairs l.entries) l.name ≡ text_at (pairs (drop l.entry-index l.entries)) l.name
