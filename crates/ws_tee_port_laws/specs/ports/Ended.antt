-- Where a close went by a port.
use Rattle.std.specs.Prelude.{◌≡◌, ◌<◌, Bool, true, false, ◌||◌, List, [], ◌∷◌}
use Rattle.ws_value.specs.declared.ids.PortId.{PortId}
use Rattle.ws_value.specs.declared.value.Message.{Message}
use Rattle.ws_value.specs.declared.value.Message.TheVariants.{Pull, Chunk, Close, Error}
use Rattle.ws_steps.specs.declared.port.Side.TheVariants.{Readable as ReadableSide, Writable as WritableSide}
use Rattle.ws_steps.specs.declared.readable.ReadableState.TheVariants.{Closed}
use Rattle.ws_steps.specs.Cross as cross
use Rattle.ws_steps.specs.Histories.{run_events}
use Rattle.ws_steps.specs.PortHistory.{posted_in, run_taken, chunks_in}
use Rattle.ws_steps.specs.Readable as readable
use Rattle.ws_steps.specs.ReadableHistory.{Flow, run_flow}
use Rattle.ws_steps.specs.Run.{Entry, run}
use Rattle.ws_steps.specs.Slots.{Slots, empty, has_port, port_at, readable_at}
use Rattle.ws_steps.specs.WritableHistory.{Writes, run_writes}

abbrev pub is_close : Message → Bool
is_close Pull = false
is_close (Chunk v) = false
is_close Close = true
is_close (Error r) = false

-- whether a close is among them
abbrev pub has_close : List Message → Bool
has_close [] = false
has_close (m ∷ ms) = is_close m || has_close ms

-- a port with a writable end, by what it posted, and its stream
pub record PostsCloseLast (posted : List Message) (h : Writes) : Type 0 where
  pub closes : has_close posted ≡ true → 0 < h.closes
  pub written : has_close posted ≡ true → chunks_in posted ≡ h.written

abbrev pub EachWritableEndPostsCloseLast : Type 0
EachWritableEndPostsCloseLast =
    (entries : List Entry) (c : PortId) → let s : Slots = run entries empty in let x : cross.Slots = port_at c s in
    has_port c s ≡ true → x.side ≡ WritableSide → PostsCloseLast (posted_in c (run_events entries empty)) (run_writes x.stream entries empty)

-- a port with a readable end, by what was delivered to it, and its stream
pub record ClosesByMessage (taken : List Message) (f : Flow) (r : readable.Slots) : Type 0 where
  pub requested : r.close_requested ≡ true → has_close taken ≡ true
  pub closed : f.cancelled ≡ false → r.state ≡ Closed → has_close taken ≡ true

abbrev pub EachReadableEndClosesByMessage : Type 0
EachReadableEndClosesByMessage =
    (entries : List Entry) (c : PortId) → let s : Slots = run entries empty in let x : cross.Slots = port_at c s in
    has_port c s ≡ true → x.side ≡ ReadableSide → ClosesByMessage (run_taken c entries empty) (run_flow x.stream entries empty) (readable_at x.stream s)
