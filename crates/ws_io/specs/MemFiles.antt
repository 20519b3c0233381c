use Rattle.std.specs.Prelude.{ℕ, List, map}
use Rattle.ws_io.specs.declared.mem_files.Entry.{Entry}

abbrev pub pairs : List Entry → List (List ℕ × List ℕ)
pairs entries = map (λ e. (e.name, e.text)) entries
