-- What a node does as it hears of an event.
use Rattle.std.specs.Prelude.{◌≡◌}
use Rattle.ws_value.specs.declared.ids.HostId.{HostId}
use Rattle.ws_steps.specs.declared.calls.Event.{Event}
use Rattle.ws_steps.specs.declared.calls.Event.TheVariants.{Host, Settled, Signal, Post}
use Rattle.ws_steps.specs.declared.calls.HostCall.{HostCall}
use Rattle.ws_node.specs.declared.node.Node.{Node}
use Rattle.ws_node.specs.Edges.{Waits}
use Rattle.ws_node.specs.Moves.{Answers, MayAnswer, Shown, Untouched}
use Rattle.ws_io.specs.Gain.{Got}

-- an event is a call of the host, tells of a message that waits then, or of what it needs no answer to
abbrev pub MayHear : Node → Event → Type 0
MayHear n event = (id : HostId) (call : HostCall) → event ≡ Host id call → MayAnswer n call

abbrev pub Hears : Event → Node → Node → Shown → Shown → Got → Got → Type 0
Hears (Host id call) a b old new got got' = Answers id call a b old new got got'
Hears (Settled p) a b old new got got' = (b ≡ a) × Untouched old new got got'
Hears (Signal i reason) a b old new got got' = (b ≡ a) × Untouched old new got got'
Hears (Post c m) a b old new got got' = Waits c m a b × Untouched old new got got'
