-- How many chunks the readable end of a port that is the source of a link asks for.
use Rattle.std.specs.Prelude.{◌≡◌, ℕ, ◌+◌, ◌*◌, ◌≤◌, Bool, true, not, if◌then◌else◌, List, [], ◌∷◌, length}
use Rattle.ws_value.specs.declared.ids.PipeId.{PipeId}
use Rattle.ws_value.specs.declared.ids.PortId.{PortId}
use Rattle.ws_value.specs.declared.ids.StreamId.{StreamId}
use Rattle.ws_steps.specs.declared.calls.Call.{Call}
use Rattle.ws_steps.specs.declared.calls.Call.TheVariants.{Deliver}
use Rattle.ws_steps.specs.declared.promises.Step.{Step}
use Rattle.ws_steps.specs.declared.promises.Step.TheVariants.{ReadableStart}
use Rattle.ws_steps.specs.Histories.{is_same, run_events}
use Rattle.ws_steps.specs.PortHistory.{is_same_port, posted_in, chunk_in}
use Rattle.ws_steps.specs.Run.{Entry, Called, Worked, Heard, run}
use Rattle.ws_steps.specs.Slots.{Slots, empty, most_streams, readable_at, has_source}
use Rattle.ws_pipe_laws.specs.pipes.PipeReads.{one_if}
use Rattle.ws_pipe_laws.specs.pipes.PipeWrites.{outstanding}
use Rattle.ws_link_laws.specs.Laws.{all_leave}
use Rattle.ws_link_laws.specs.Link.{OfEnd, giver_at}
use Rattle.ws_link_laws.specs.Sound.{IsLink}
use Rattle.ws_chain_laws.specs.Chain.{Target, FromPort, source_port}
use Rattle.ws_chain_laws.specs.Opening.{chained}
use Rattle.ws_chain_laws.specs.Runs.{AreNodes}
use Rattle.ws_node_laws.specs.Asks.{pulls_in, may_ask}

-- the reaction to the start algorithm of stream i
abbrev pub starting : StreamId → Step → ℕ
starting i (ReadableStart j) = one_if (is_same i j)
starting i _ = 0

-- stream i is the readable end of port c: its mark is 0, it pulls again only while it pulls, and it starts once
pub record IsAsking (i : StreamId) (c : PortId) (s : Slots) : Type 0 where
  pub end : giver_at i s ≡ OfEnd c
  pub mark : (readable_at i s).hwm ≡ 0
  pub again : (readable_at i s).pull_again ≡ true → (readable_at i s).pulling ≡ true
  pub starts : outstanding (starting i) s.promises ≤ one_if (not (readable_at i s).started)

-- how many chunks a call delivers to a port, entangled or not
abbrev pub brought : PortId → Call → ℕ
brought c (Deliver d m) = if is_same_port c d then length (chunk_in m) else 0
brought c _ = 0

abbrev pub entry_brought : PortId → Entry → ℕ
entry_brought c (Called call) = brought c call
entry_brought c Worked = 0
entry_brought c Heard = 0

abbrev pub run_brought : PortId → List Entry → ℕ
run_brought c [] = 0
run_brought c (x ∷ xs) = entry_brought c x + run_brought c xs

pub record AsksInTurn (i : StreamId) (c : PortId) (s : Slots) (entries : List Entry) : Type 0 where
  pub asking : IsAsking i c (run entries s)
  -- the pulls that it posted, with those that it may post before one more chunk comes, are no more than those before, and one for each chunk
  pub pulls : pulls_in (posted_in c (run_events entries s)) + may_ask (readable_at i (run entries s))
      ≤ pulls_in (posted_in c s.promises.events) + may_ask (readable_at i s) + run_brought c entries

abbrev pub EachEndAsksInTurn : Type 0
EachEndAsksInTurn =
    (i j : StreamId) (p : PipeId) (c : PortId) (s : Slots) (entries : List Entry) → IsLink i j p s → IsAsking i c s → all_leave i j entries ≡ true → AsksInTurn i c s entries

abbrev pub EachEndStaysAsking : Type 0
EachEndStaysAsking =
    (i : StreamId) (c : PortId) (before entries : List Entry) → has_source i (run before empty) ≡ true → IsAsking i c (run before empty) → IsAsking i c (run entries (run before empty))

abbrev pub EachNodeAsksInTurn : Type 0
EachNodeAsksInTurn =
    (target : Target) (n : ℕ) (signalled : Bool) (entries : List Entry) → 2 * n + 2 ≤ most_streams → AreNodes entries
    → pulls_in (posted_in source_port (run_events entries (chained FromPort target n signalled))) ≤ run_brought source_port entries + 1
