-- The calls of lines, of which the code keeps the length of a room in place of the room.
use Rattle.ws_steps.specs.declared.calls.Call.{Call}
use Rattle.ws_grammar.specs.declared.spelled.Spelling.{Spelling}
use Rattle.ws_grammar.specs.declared.spelled.Spelling.TheVariants.{Whole, ReadInto}
use Rattle.ws_grammar.specs.Calls.{read_into}

-- the call that is meant
abbrev pub call_spelled : Spelling → Call
call_spelled (Whole call) = call
call_spelled (ReadInto lock len element least) = read_into lock len element least
