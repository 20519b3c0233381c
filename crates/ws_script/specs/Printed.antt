-- What a script prints: for each of its tasks the reply, the events in order, and whether a job is still queued.
use Rattle.std.specs.Prelude.{ℕ, not, List, [], ◌∷◌, ◌++◌, Option, Some, None}
use Rattle.ws_value.specs.declared.ids.TeeId.{TeeId}
use Rattle.ws_value.specs.declared.value.Plain.{Plain}
use Rattle.ws_steps.specs.declared.calls.Event.{Event}
use Rattle.ws_steps.specs.declared.calls.Event.TheVariants.{Host, Settled, Signal, Post}
use Rattle.ws_steps.specs.declared.calls.Reply.{Reply}
use Rattle.ws_steps.specs.declared.calls.Reply.TheVariants.{Promise}
use Rattle.ws_steps.specs.Promises.{rank_at}
use Rattle.ws_steps.specs.Run.{reply_to, task, heard, is_idle}
use Rattle.ws_steps.specs.Slots.{Slots, empty, pair_at}
use Rattle.ws_realm.specs.Seen.{outcome_named}
use Rattle.ws_grammar.specs.declared.line.Line.{Line}
use Rattle.ws_print.specs.Values.{tee_in}
use Rattle.ws_print.specs.Events.{reply_line, host_text, settled_text, signal_text, post_text, again_text, tee_in_call, tee_in_outcome}

-- the name's number of the promise that a reply names
abbrev pub rank_named : Reply → Slots → Option ℕ
rank_named (Promise p) s = rank_at s.promises p
rank_named _ s = None

-- the two reasons that a tee keeps, where an event tells these
abbrev pub pair_named : Slots → Option TeeId → Option (Plain × Plain)
pair_named s None = None
pair_named s (Some t) = pair_at t s

-- the line of an event. A promise that settled is printed with its outcome, and a pair with its reasons: these don't change any more. No message has a pair
abbrev pub event_text : Slots → Event → List ℕ
event_text s (Host id call) = host_text (pair_named s (tee_in_call call)) id call
event_text s (Settled p) =
    settled_text (pair_named s (tee_in_outcome (outcome_named p s))) (rank_at s.promises p) (outcome_named p s)
event_text s (Signal stream reason) = signal_text (pair_named s (tee_in reason)) stream reason
event_text s (Post port message) = post_text port message

abbrev pub events_text : Slots → List Event → List ℕ
events_text s [] = []
events_text s (event ∷ events) = event_text s event ++ events_text s events

-- the lines of one task, of which these slots are what it left: the reply with its line's number, the events that the host
-- hasn't heard of, and `again` where a job is still queued
abbrev pub step_text : ℕ → Reply → Slots → List ℕ
step_text number reply s =
    reply_line number (rank_named reply s) reply ++ (events_text s s.promises.events ++ again_text (not (is_idle s)))

-- what the task of a line leaves: its call, and jobs until none is queued or the line's number of them is performed
abbrev pub after_line : Line → Slots → Slots
after_line line s = task line.jobs line.call s

-- the printed text of one line's task
abbrev pub line_text : Line → Slots → List ℕ
line_text line s = step_text line.number (reply_to line.call s) (after_line line s)

-- the printed text of the tasks of these lines, one after another
abbrev pub lines_text : List Line → Slots → List ℕ
lines_text [] s = []
lines_text (line ∷ lines) s = line_text line s ++ lines_text lines (heard (after_line line s))

-- the text that a script with these lines prints, in a new realm
abbrev pub script_text : List Line → List ℕ
script_text lines = lines_text lines empty
