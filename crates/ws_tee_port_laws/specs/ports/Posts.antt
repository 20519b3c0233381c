-- What a port posts, and when it is entangled, in every run. What these laws say of ports they say between steps.
use Rattle.std.specs.Prelude.{◌≡◌, ◌≤◌, true, not, ◌||◌, List, length, All}
use Rattle.ws_value.specs.declared.ids.PortId.{PortId}
use Rattle.ws_value.specs.declared.value.Message.{Message}
use Rattle.ws_steps.specs.declared.port.Side.TheVariants.{Readable as ReadableSide, Writable as WritableSide}
use Rattle.ws_steps.specs.Cross as cross
use Rattle.ws_steps.specs.Slots.{Slots, empty, has_port, port_at}
use Rattle.ws_steps.specs.Run.{Entry, run}
use Rattle.ws_steps.specs.Histories.{run_events}
use Rattle.ws_steps.specs.PortHistory.{posted_in, run_taken, chunks_in, asks_in, has_end, ends_last, goes_up, goes_down}

-- a port with a readable end
pub record PostsUp (taken posted : List Message) (x : cross.Slots) : Type 0 where
  pub posts : All (λ m. goes_up m ≡ true) posted
  pub last : ends_last posted ≡ true
  pub live : x.live ≡ not (has_end taken || has_end posted)

-- a port with a writable end
pub record PostsDown (taken posted : List Message) (x : cross.Slots) : Type 0 where
  pub credit : length (chunks_in posted) ≤ asks_in taken
  pub posts : All (λ m. goes_down m ≡ true) posted
  pub last : ends_last posted ≡ true
  pub live : x.live ≡ not (has_end posted)

abbrev pub EachReadableEndPosts : Type 0
EachReadableEndPosts =
    (entries : List Entry) (c : PortId) → let s : Slots = run entries empty in let x : cross.Slots = port_at c s in
    has_port c s ≡ true → x.side ≡ ReadableSide → PostsUp (run_taken c entries empty) (posted_in c (run_events entries empty)) x

abbrev pub EachWritableEndPosts : Type 0
EachWritableEndPosts =
    (entries : List Entry) (c : PortId) → let s : Slots = run entries empty in let x : cross.Slots = port_at c s in
    has_port c s ≡ true → x.side ≡ WritableSide → PostsDown (run_taken c entries empty) (posted_in c (run_events entries empty)) x
