-- What the words of each form perform.
use Rattle.std.proofs.Common.{◌≡◌, inl, inr, ℕ, List, [], Option, Some, None, drop, refl, ap, ◌∙◌}
use Rattle.ws_io.specs.Gain.{Got}
use Rattle.ws_io.specs.Arguments.{IsTold}
use Rattle.ws_io.specs.Moment.{Moment}
use Rattle.ws_io.specs.declared.status.Status.{Status}
use Rattle.ws_io.specs.declared.status.Status.TheVariants.{Usage}
use Rattle.ws_runner.specs.declared.trace.EdgeTrace.{EdgeTrace}
use Rattle.ws_cli.specs.Check.{Shelf}
use Rattle.ws_cli.specs.Commands.{AreWords, Performs}
use Rattle.ws_cli.specs.Words.{IsRun, IsScript, NamesNoFile}

-- other words
pub Performs-nothing : {F S K : Type 0} (words : List (List ℕ)) (status : Status) (edges : List EdgeTrace) (files : F) (input : S) (output : K)
    (shelf : Shelf) (old new : Moment) (p q : Got)
    → status ≡ Usage → edges ≡ [] → (IsRun words → ⊥) → (IsScript words → ⊥) → NamesNoFile words
    → Performs words status edges files files input input output output shelf shelf old new p q
Performs-nothing words status edges files input output shelf old new p q is none no_run no_script no_file =
    record {
      usage = λ u. ((λ either. elim either [ inl r ↦ no_run r | inr s ↦ no_script s ]), no_file);
      other_words = λ two file. is;
      untouched = λ u. (refl, refl);
      unloaded = λ file. refl;
      untraced = λ no. none;
      run = λ r. absurd (no_run r);
      complete = λ r. absurd (no_run r);
      run_of = λ name of. absurd (no_file.1 name of);
      trace_of = λ name of. absurd (no_file.2 name of);
      script = λ s. absurd (no_script s);
      script_complete = λ s. absurd (no_script s);
      script_outside = λ s. absurd (no_script s);
      script_too_long = λ s. absurd (no_script s);
      check = λ name named. absurd (no_file.0 name named);
      check_unread = λ name named. absurd (no_file.0 name named);
      gen = λ count seed name asked. absurd (no_file.3 count seed name asked);
      gen_unread = λ count seed name asked. absurd (no_file.3 count seed name asked);
    }

-- the words after the program's name, where the arguments are told
pub are_words : (told : Option (List (List ℕ))) (all words : List (List ℕ)) → IsTold told all → words ≡ drop 1 all → AreWords told words
are_words None all words had is = tt
are_words (Some arguments) all words had is = (is ∙ ap (drop 1) had.0, had.1)
