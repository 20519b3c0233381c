-- The text of a trace: two lines for each edge, with the messages that went down and up, and how many of them were taken.
use Rattle.std.specs.Prelude.{ℕ, ◌+◌, List, [], ◌∷◌, ◌++◌, codes}
use Rattle.ws_io.specs.Notes.{numbered}
use Rattle.ws_edge.specs.declared.mark.Mark.{Mark}
use Rattle.ws_edge.specs.declared.mark.Mark.TheVariants.{Pull, Chunk, Close, Error}
use Rattle.ws_runner.specs.declared.trace.EdgeTrace.{EdgeTrace}

-- a message: a chunk by its length
abbrev pub mark_text : Mark → List ℕ
mark_text Pull = codes " pull"
mark_text (Chunk n) = numbered (codes " c") n
mark_text Close = codes " close"
mark_text Error = codes " error"

abbrev pub marks_text : List Mark → List ℕ
marks_text [] = []
marks_text (m ∷ ms) = mark_text m ++ marks_text ms

-- the line of one way of the edge of this number
abbrev pub line_text : ℕ → List ℕ → List Mark → ℕ → List ℕ
line_text number way sent taken =
    numbered (codes "edge ") number ++ (way ++ (marks_text sent ++ (numbered (codes " taken ") taken ++ codes "\n")))

abbrev pub edge_text : ℕ → EdgeTrace → List ℕ
edge_text number edge =
    line_text number (codes " down") edge.down.items edge.down_taken ++ line_text number (codes " up") edge.up.items edge.up_taken

-- the edges from this number on
abbrev pub edges_text : ℕ → List EdgeTrace → List ℕ
edges_text number [] = []
edges_text number (e ∷ es) = edge_text number e ++ edges_text (number + 1) es

abbrev pub trace_text : List EdgeTrace → List ℕ
trace_text edges = edges_text 1 edges
