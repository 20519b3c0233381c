-- Laws of ports over every run. What they say of ports and of their streams they say between steps.
use Rattle.std.specs.Prelude.{◌≡◌, ◌+◌, ◌≤◌, true, not, ◌||◌, List, length, All}
use Rattle.ws_value.specs.declared.ids.PortId.{PortId}
use Rattle.ws_value.specs.declared.value.Message.{Message}
use Rattle.ws_steps.specs.declared.effects.Owner.TheVariants.{EndOf}
use Rattle.ws_steps.specs.declared.port.Side.TheVariants.{Readable as ReadableSide, Writable as WritableSide}
use Rattle.ws_steps.specs.declared.readable.ReadableState.TheVariants.{Readable}
use Rattle.ws_steps.specs.Cross as cross
use Rattle.ws_steps.specs.Readable as readable
use Rattle.ws_steps.specs.Writable as writable
use Rattle.ws_steps.specs.Slots.{Slots, empty, has_port, has_readable, has_writable, owner_at, port_at, readable_at, writable_at}
use Rattle.ws_steps.specs.Run.{Entry, run, step}
use Rattle.ws_steps.specs.Histories.{run_events}
use Rattle.ws_steps.specs.ReadableHistory.{Flow, run_flow}
use Rattle.ws_steps.specs.WritableHistory.{Writes, run_writes}
use Rattle.ws_steps.specs.PortHistory.{posted_in, run_taken, chunks_in, asks_in, has_end, ends_last, goes_up, goes_down}
use Rattle.ws_steps.specs.Laws.{IsLawfulReadable, IsLawfulWritable}

-- a readable end of a port, by what was delivered, what it posted, and its stream
pub record IsReadableEnd (taken posted : List Message) (f : Flow) (r : readable.Slots) (x : cross.Slots) : Type 0 where
  pub lawful : IsLawfulReadable f r
  pub entered : f.entered ≡ chunks_in taken
  pub posts : All (λ m. goes_up m ≡ true) posted
  pub last : ends_last posted ≡ true
  pub live : x.live ≡ not (has_end taken || has_end posted)
  pub readable : x.live ≡ true → r.state ≡ Readable

-- a writable end of a port, by what was delivered, what it posted, and its stream
pub record IsWritableEnd (taken posted : List Message) (h : Writes) (w : writable.Slots) (x : cross.Slots) : Type 0 where
  pub lawful : IsLawfulWritable h w
  pub acted : h.acted ≡ chunks_in posted
  pub credit : length (chunks_in posted) ≤ asks_in taken
  pub posts : All (λ m. goes_down m ≡ true) posted
  pub last : ends_last posted ≡ true
  pub live : x.live ≡ not (has_end posted)

abbrev pub EachReadableEndIsLawful : Type 0
EachReadableEndIsLawful =
    (entries : List Entry) (c : PortId) → let s : Slots = run entries empty in let x : cross.Slots = port_at c s in
    has_port c s ≡ true → x.side ≡ ReadableSide
    → (has_readable x.stream s ≡ true) × ((owner_at x.stream s ≡ EndOf c)
    × IsReadableEnd (run_taken c entries empty) (posted_in c (run_events entries empty)) (run_flow x.stream entries empty) (readable_at x.stream s) x)

abbrev pub EachWritableEndIsLawful : Type 0
EachWritableEndIsLawful =
    (entries : List Entry) (c : PortId) → let s : Slots = run entries empty in let x : cross.Slots = port_at c s in
    has_port c s ≡ true → x.side ≡ WritableSide
    → (has_writable x.stream s ≡ true) × ((owner_at x.stream s ≡ EndOf c)
    × IsWritableEnd (run_taken c entries empty) (posted_in c (run_events entries empty)) (run_writes x.stream entries empty) (writable_at x.stream s) x)

abbrev pub EachStepPostsOnce : Type 0
EachStepPostsOnce =
    (entries : List Entry) (x : Entry) (c : PortId) → let s : Slots = run entries empty in
    length (posted_in c (step s x).promises.events) ≤ length (posted_in c s.promises.events) + 1
