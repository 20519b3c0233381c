-- The messages of a port: `pull`, `chunk V`, `close` and `error R`.
use Rattle.std.specs.Prelude.{ℕ, if◌then◌else◌, List, Option, Some, None, option_map, codes}
use Rattle.std.specs.Str.{bytes_eq}
use Rattle.ws_value.specs.declared.value.Message.{Message}
use Rattle.ws_value.specs.declared.value.Message.TheVariants.{Pull, Chunk, Close, Error}
use Rattle.ws_grammar.specs.Values.{reason_of, value_of}

-- a message of one word
abbrev pub message_alone : List ℕ → Option Message
message_alone word =
    if bytes_eq word (codes "pull") then Some Pull
    else if bytes_eq word (codes "close") then Some Close
    else None

-- a message of a word and what it carries
abbrev pub message_with : List ℕ → List ℕ → Option Message
message_with word carried =
    if bytes_eq word (codes "chunk") then option_map Chunk (value_of carried)
    else if bytes_eq word (codes "error") then option_map Error (reason_of carried)
    else None
