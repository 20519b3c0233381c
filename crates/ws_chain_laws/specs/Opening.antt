-- How a realm with the links of segments is opened: of each segment the source, its transform streams and the sink are made, perhaps a signal, and then
-- the pipes, in order, of which the last one has the signal. A chain is one segment.
use Rattle.std.specs.Prelude.{ℕ, zero, suc, ◌+◌, ◌*◌, ◌≤◌, ◌≡◌, Bool, true, false, is_some, List, [], ◌∷◌, ◌++◌, length, Option, Some, None}
use Rattle.ws_value.specs.declared.ids.PortId.{PortId}
use Rattle.ws_value.specs.declared.ids.PromiseId.{PromiseId}
use Rattle.ws_value.specs.declared.ids.SignalId.{SignalId}
use Rattle.ws_steps.specs.declared.calls.Call.{Call}
use Rattle.ws_steps.specs.declared.calls.Call.TheVariants.{MakeSignal, Pipe}
use Rattle.ws_steps.specs.declared.calls.Reply.TheVariants.{Promise}
use Rattle.ws_steps.specs.declared.pipes.Prevent.{Prevent}
use Rattle.ws_steps.specs.declared.writable.WritableState.TheVariants.{Writable}
use Rattle.ws_steps.specs.PortHistory.{posted_in}
use Rattle.ws_steps.specs.Promises.{rank_at}
use Rattle.ws_steps.specs.Run.{Entry, Called, run, reply_to, after_call}
use Rattle.ws_steps.specs.Slots.{Slots, empty, most_streams, writable_at, pipe_at}
use Rattle.ws_steps.specs.Writable.{is_closing}
use Rattle.ws_link_laws.specs.Link.{silence}
use Rattle.ws_wire_laws.specs.Wire.{Each, IsWired, behind_on}
use Rattle.ws_wire_laws.specs.Segments.{Segment, wiring, nothing_made, behind_segments, streams_of}
pub use Rattle.ws_wire_laws.specs.Segments.{source_call, sink_call, transforms}
use Rattle.ws_chain_laws.specs.Chain.{Origin, Target, source_of, dest_of, link_of, behind_at, IsChain}

-- the one segment of a chain
abbrev pub one_segment : Origin → Target → ℕ → List Segment
one_segment origin target n = record { origin = origin; count = n; target = target } ∷ []

abbrev pub streams : Origin → Target → ℕ → List Entry
streams origin target n = streams_of (one_segment origin target n)

-- a signal, where there is one
abbrev pub signals : Bool → List Entry
signals false = []
signals true = Called MakeSignal ∷ []

abbrev pub signal_of : Bool → Option SignalId
signal_of false = None
signal_of true = Some (record { 0 = 0 })

abbrev pub nothing_prevented : Prevent
nothing_prevented = record { close = false; abort = false; cancel = false }

-- the pipe of link k
abbrev pub piping : Option SignalId → ℕ → Call
piping signal k = Pipe (source_of k) (dest_of k) nothing_prevented signal

-- so many pipes from link k on, without a signal
abbrev pub pipes_from : ℕ → ℕ → List Entry
pipes_from k zero = []
pipes_from k (suc n) = Called (piping None k) ∷ pipes_from (suc k) n

-- all before the pipes
abbrev pub making_of : List Segment → Bool → List Entry
making_of xs signalled = streams_of xs ++ signals signalled

abbrev pub made_of : List Segment → Bool → Slots
made_of xs signalled = run (making_of xs signalled) empty

-- all before the last pipe, that of link n
abbrev pub opening_of : List Segment → ℕ → Bool → List Entry
opening_of xs n signalled = streams_of xs ++ (signals signalled ++ pipes_from 0 n)

abbrev pub opened_of : List Segment → ℕ → Bool → Slots
opened_of xs n signalled = run (opening_of xs n signalled) empty

abbrev pub wired_of : List Segment → ℕ → Bool → Slots
wired_of xs n signalled = after_call (piping (signal_of signalled) n) (opened_of xs n signalled)

-- and of a chain

abbrev pub making : Origin → Target → ℕ → Bool → List Entry
making origin target n signalled = making_of (one_segment origin target n) signalled

abbrev pub made : Origin → Target → ℕ → Bool → Slots
made origin target n signalled = made_of (one_segment origin target n) signalled

abbrev pub opening : Origin → Target → ℕ → Bool → List Entry
opening origin target n signalled = opening_of (one_segment origin target n) n signalled

abbrev pub opened : Origin → Target → ℕ → Bool → Slots
opened origin target n signalled = opened_of (one_segment origin target n) n signalled

abbrev pub chained : Origin → Target → ℕ → Bool → Slots
chained origin target n signalled = wired_of (one_segment origin target n) n signalled

-- the promise of pipe k
abbrev pub promise_of : ℕ → Slots → PromiseId
promise_of k s = (pipe_at (link_of k) s).promise

-- so many pipes from link k on are answered the promises that they have in z
abbrev pub AreAnswered : ℕ → ℕ → Slots → Slots → Type 0
AreAnswered k zero s z = Unit {0}
AreAnswered k (suc n) s z = (reply_to (piping None k) s ≡ Promise (promise_of k z)) × AreAnswered (suc k) n (after_call (piping None k) s) z

-- The realm of the opening of segments, of which link n is the last, is wired, nothing lies behind the host, and no port posted. Each pipe was answered
-- its promise, which is watched. The last one has the number n, and its destination was writable and not closing as it was made
pub record BeginsWiring (xs : List Segment) (n : ℕ) (signalled : Bool) : Type 0 where
  pub wired : IsWired (wiring xs nothing_made) (wired_of xs n signalled)
  pub none : Each (λ x. behind_on x (wired_of xs n signalled) ≡ silence) (wiring xs nothing_made)
  pub unposted : (c : PortId) → posted_in c (wired_of xs n signalled).promises.events ≡ []
  pub number : length (opened_of xs n signalled).pipes ≡ n
  pub answered : AreAnswered 0 n (made_of xs signalled) (wired_of xs n signalled)
  pub last : reply_to (piping (signal_of signalled) n) (opened_of xs n signalled) ≡ Promise (promise_of n (wired_of xs n signalled))
  pub watched : (k : ℕ) → k ≤ n → is_some (rank_at (wired_of xs n signalled).promises (promise_of k (wired_of xs n signalled))) ≡ true
  pub writable : (writable_at (dest_of n) (opened_of xs n signalled)).state ≡ Writable
  pub not_closing : is_closing (writable_at (dest_of n) (opened_of xs n signalled)) ≡ false

abbrev pub EachWiringBegins : Type 0
EachWiringBegins = (xs : List Segment) (n : ℕ) (signalled : Bool) → (behind_segments xs nothing_made).link ≡ suc n → 2 * n + 2 ≤ most_streams → BeginsWiring xs n signalled

-- The realm of the opening is a chain, nothing lies behind the host, and no port posted. Each pipe was answered its promise, which is watched. The last one has
-- the number n, and the sink was writable and not closing as it was made
pub record BeginsChain (origin : Origin) (target : Target) (n : ℕ) (signalled : Bool) : Type 0 where
  pub chain : IsChain origin target n (chained origin target n signalled)
  pub none : (k : ℕ) → k ≤ n → behind_at k (chained origin target n signalled) ≡ silence
  pub unposted : (c : PortId) → posted_in c (chained origin target n signalled).promises.events ≡ []
  pub number : length (opened origin target n signalled).pipes ≡ n
  pub answered : AreAnswered 0 n (made origin target n signalled) (chained origin target n signalled)
  pub last : reply_to (piping (signal_of signalled) n) (opened origin target n signalled) ≡ Promise (promise_of n (chained origin target n signalled))
  pub watched : (k : ℕ) → k ≤ n → is_some (rank_at (chained origin target n signalled).promises (promise_of k (chained origin target n signalled))) ≡ true
  pub writable : (writable_at (dest_of n) (opened origin target n signalled)).state ≡ Writable
  pub not_closing : is_closing (writable_at (dest_of n) (opened origin target n signalled)) ≡ false

abbrev pub EachChainBegins : Type 0
EachChainBegins = (origin : Origin) (target : Target) (n : ℕ) (signalled : Bool) → 2 * n + 2 ≤ most_streams → BeginsChain origin target n signalled
