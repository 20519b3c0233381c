-- Segments whose streams are made, computed: each link has the ends that its segment says.
use Rattle.std.proofs.Common.{◌≡◌, List, [], ◌∷◌, refl, length}
use Rattle.ws_steps.specs.Calls.{begin}
use Rattle.ws_steps.specs.Jobs.{begin_job}
use Rattle.ws_steps.specs.Run.{run}
use Rattle.ws_steps.specs.Slots.{Slots, empty}
use Rattle.ws_steps.specs.Promises.{fresh, settle, answer, react, follow, queue_micro, unfollow, use_gift, after_next_job, watch}
use Rattle.ws_steps.specs.Turns.{call_host, row, turns, performed}
use Rattle.ws_link_laws.specs.Link.{giver_at, ear_at}
use Rattle.ws_wire_laws.specs.Wire.{Joint}
use Rattle.ws_wire_laws.specs.Segments.{Segment, FromBytes, FromPort, ToSink, ToPort, wiring, streams_of, hub, nothing_made}

abbrev AreSo : List Joint → Slots → Type 0
AreSo [] s = Unit {0}
AreSo (x ∷ xs) s = (giver_at x.from s ≡ x.gives) × (ear_at x.into s ≡ x.hears) × AreSo xs s

links : length (wiring (hub 2) nothing_made) ≡ 3
links = refl

hub-is : AreSo (wiring (hub 2) nothing_made) (run (streams_of (hub 2)) empty)
unfolding fresh settle answer react follow queue_micro unfollow use_gift after_next_job watch call_host row turns performed begin_job begin
hub-is = (refl, refl, (refl, refl, (refl, refl, tt)))

-- two segments with stages in one realm
abbrev two : List Segment
two = record { origin = FromPort; count = 2; target = ToPort } ∷ record { origin = FromBytes; count = 1; target = ToSink } ∷ []

two-is : AreSo (wiring two nothing_made) (run (streams_of two) empty)
unfolding fresh settle answer react follow queue_micro unfollow use_gift after_next_job watch call_host row turns performed begin_job begin
two-is = (refl, refl, (refl, refl, (refl, refl, (refl, refl, (refl, refl, tt)))))
