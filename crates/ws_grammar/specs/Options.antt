-- The options of a pipe: each is given at most once, in any order.
use Rattle.std.specs.Prelude.{ℕ, true, false, not, take, drop, if◌then◌else◌, List, [], ◌∷◌, Option, Some, None, option_map, codes}
use Rattle.std.specs.Bool.{then_some}
use Rattle.std.specs.Option.{is_some, option_and_then}
use Rattle.std.specs.Str.{bytes_eq}
use Rattle.ws_value.specs.declared.ids.SignalId.{SignalId}
use Rattle.ws_grammar.specs.declared.options.PipeOptions.{PipeOptions}
use Rattle.ws_grammar.specs.Values.{signal_named}

-- a pipe without options
abbrev pub no_options : PipeOptions
no_options = record { prevent = record { close = false; abort = false; cancel = false }; signal = None }

-- `prevent-close`, where it wasn't given before
abbrev pub with_prevent_close : PipeOptions → Option PipeOptions
with_prevent_close given =
    then_some (not given.prevent.close) (record given { prevent = record (given.prevent) { close = true } })

-- `prevent-abort`, where it wasn't given before
abbrev pub with_prevent_abort : PipeOptions → Option PipeOptions
with_prevent_abort given =
    then_some (not given.prevent.abort) (record given { prevent = record (given.prevent) { abort = true } })

-- `prevent-cancel`, where it wasn't given before
abbrev pub with_prevent_cancel : PipeOptions → Option PipeOptions
with_prevent_cancel given =
    then_some (not given.prevent.cancel) (record given { prevent = record (given.prevent) { cancel = true } })

-- the signal that an option names: `signal=` and its name
abbrev pub signal_option : List ℕ → Option SignalId
signal_option word = if bytes_eq (take 7 word) (codes "signal=") then signal_named (drop 7 word) else None

-- a signal, where none was given before
abbrev pub with_signal : PipeOptions → Option SignalId → Option PipeOptions
with_signal given signal =
    if is_some given.signal then None else option_map (λ a. record given { signal = Some a }) signal

-- an option beside those that were given before
abbrev pub with_option : PipeOptions → List ℕ → Option PipeOptions
with_option given word =
    if bytes_eq word (codes "prevent-close") then with_prevent_close given
    else if bytes_eq word (codes "prevent-abort") then with_prevent_abort given
    else if bytes_eq word (codes "prevent-cancel") then with_prevent_cancel given
    else with_signal given (signal_option word)

-- options beside those that were given before
abbrev pub options_after : PipeOptions → List (List ℕ) → Option PipeOptions
options_after given [] = Some given
options_after given (word ∷ words) = option_and_then (λ more. options_after more words) (with_option given word)

-- the options that words spell
abbrev pub options_of : List (List ℕ) → Option PipeOptions
options_of words = options_after no_options words
