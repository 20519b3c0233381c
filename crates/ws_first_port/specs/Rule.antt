-- The rule of a row: what was sent is what was received, and then what the queue holds, which is eight messages at most.
use Rattle.std.specs.Prelude.{◌≡◌, ℕ, Bool, true, false, List, [], ◌++◌, ◌≤◌, length}
use mathlib.Core.Option.{some}
use lib.ListN.{get_elem?}
use Rattle.ws_value.specs.declared.value.Message.{Message}
use Rattle.ws_first_port.specs.declared.rule.Log.{Log}

abbrev pub log : Bool → Bool → List Message → List Message → Log
log sends takes sent received = record { sends = sends; takes = takes; sent = sent; received = received }

abbrev pub sender_part : Log → Log
sender_part v = log true false v.sent []

abbrev pub receiver_part : Log → Log
receiver_part v = log false true [] v.received

abbrev pub both_parts : Log → Log → Log
both_parts v w = log true true v.sent w.received

-- a view that was spent
abbrev pub no_part : Log
no_part = log false false [] []

-- a pass with the sender's part is the sender's, and knows what was sent; the same for the receiver
abbrev pub Fits : ℕ → ℕ → List Message → List Message → ℕ → Log → Type 0
Fits sender receiver sent received pass v = (v.sends ≡ true → (pass ≡ sender) × (v.sent ≡ sent)) × (v.takes ≡ true → (pass ≡ receiver) × (v.received ≡ received))

pub record Relayed (items : List Message) (views : List Log) : Type 0 where
  pub sender : ℕ
  pub receiver : ℕ
  pub sent : List Message
  pub received : List Message
  pub in_order : sent ≡ received ++ items
  pub few : length items ≤ 8
  pub fits : (pass : ℕ) (v : Log) → get_elem? views pass ≡ some v → Fits sender receiver sent received pass v
