use Rattle.std.proofs.Common.{◌≡◌, drop, map}
use Rattle.ws_grammar.specs.Options.{options_after, options_of}
use Rattle.ws_grammar.proofs.options.options_of.Given as goal

abbrev pub invariant-loop-word : goal.invariant-loop-word
invariant-loop-word l =
    options_after l.options (map (λ word. word.now) (drop l.word-index l.words)) ≡ options_of (map (λ word. word.now) l.words)
