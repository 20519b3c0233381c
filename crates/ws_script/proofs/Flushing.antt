-- What waits to be written, and what is printed behind it.
use Rattle.std.proofs.Common.{◌≡◌, ℕ, List, [], ◌∷◌, ◌++◌, length, drop, refl, sym, ◌∙◌, ap, subst, append_assoc, append-nil, arith}
use Rattle.std.specs.Prelude.{Option, None, Result, Ok, Err, OnOk, IfErr, option_to_list}
use Rattle.ws_grammar.specs.declared.line.Line.{Line}
use Rattle.ws_steps.specs.Run.{heard}
use Rattle.ws_steps.specs.Slots.{Slots}
use Rattle.ws_script.specs.Printed.{after_line, line_text, lines_text}
use Rattle.ws_io.specs.Emptied.{LeavesNothing}
use Rattle.ws_io.specs.Gain.{Gains, Got, KeepsTold}
use Rattle.ws_io.specs.declared.status.Status.{Status}
use Rattle.ws_io.specs.declared.status.Status.TheVariants.{WriteFault, NoMemory}
use Rattle.ws_io.specs.Faults.{Rose}
use Rattle.ws_io.proofs.Flow.{Gains-nothing, Gains-then, KeepsTold-same, KeepsTold-then}
use Rattle.ws_script.specs.Printing.{Told, PrintsOn, PrintsSoFar, IsStop, StopsPrinting}

-- nothing is written yet
pub Prints-nothing : (told : Told) (p : Got) (text : List ℕ) → PrintsOn told told p p text text
Prints-nothing told p text =
    record {
      printed = record { gain = []; gained = Gains-nothing p; first = refl; finish_kept = KeepsTold-same told.finished };
      calm = refl;
    }

-- what is printed behind the text isn't written either
pub Stops-before : (status : Status) (old new : Told) (p q : Got) (text more : List ℕ)
    → StopsPrinting status old new p q text → StopsPrinting status old new p q (text ++ more)
Stops-before status old new p q text more s =
    record {
      rest = s.rest ++ more;
      printed = record {
        gain = s.printed.gain;
        gained = s.printed.gained;
        first = ap (λ (xs : List ℕ). xs ++ more) s.printed.first ∙ append_assoc s.printed.gain s.rest more;
        finish_kept = s.printed.finish_kept;
      };
      cause = s.cause;
    }

-- two steps after each other: the second has what the first left waiting, and more behind it
pub Prints-then : (a b c : Told) (p q r : Got) (text waiting more rest : List ℕ)
    → PrintsOn a b p q text waiting → PrintsOn b c q r (waiting ++ more) rest → PrintsOn a c p r (text ++ more) rest
Prints-then a b c p q r text waiting more rest x y =
    record {
      printed = record {
        gain = x.printed.gain ++ y.printed.gain;
        gained = Gains-then p q r x.printed.gain y.printed.gain x.printed.gained y.printed.gained;
        first =
            ap (λ (xs : List ℕ). xs ++ more) x.printed.first
            ∙ (append_assoc x.printed.gain waiting more
            ∙ (ap (λ (xs : List ℕ). x.printed.gain ++ xs) y.printed.first ∙ sym (append_assoc x.printed.gain y.printed.gain rest)));
        finish_kept = KeepsTold-then a.finished b.finished c.finished x.printed.finish_kept y.printed.finish_kept;
      };
      calm = y.calm ∙ x.calm;
    }

-- a stop's cause, seen from an earlier moment with the same count
cause_before : (status : Status) (a b c : Told) → b.faults ≡ a.faults → IsStop status b c → IsStop status a c
cause_before WriteFault a b c calm cause = let P : ℕ → Type 0 = λ n. Rose n c.faults in let same = calm in rw (sym same) cause
cause_before NoMemory a b c calm cause = tt
cause_before _ a b c calm cause = absurd cause

pub Stops-then : (status : Status) (a b c : Told) (p q r : Got) (text waiting more : List ℕ)
    → PrintsOn a b p q text waiting → StopsPrinting status b c q r (waiting ++ more) → StopsPrinting status a c p r (text ++ more)
Stops-then status a b c p q r text waiting more x y =
    record {
      rest = y.rest;
      printed = record {
        gain = x.printed.gain ++ y.printed.gain;
        gained = Gains-then p q r x.printed.gain y.printed.gain x.printed.gained y.printed.gained;
        first =
            ap (λ (xs : List ℕ). xs ++ more) x.printed.first
            ∙ (append_assoc x.printed.gain waiting more
            ∙ (ap (λ (xs : List ℕ). x.printed.gain ++ xs) y.printed.first ∙ sym (append_assoc x.printed.gain y.printed.gain y.rest)));
        finish_kept = KeepsTold-then a.finished b.finished c.finished x.printed.finish_kept y.printed.finish_kept;
      };
      cause = cause_before status a b c x.calm y.cause;
    }

-- nothing more is printed
pub Stops-later : (status : Status) (a b c : Told) (p q r : Got) (text waiting : List ℕ)
    → PrintsOn a b p q text waiting → StopsPrinting status b c q r [] → StopsPrinting status a c p r text
Stops-later status a b c p q r text waiting x y =
    subst (λ (xs : List ℕ). StopsPrinting status a c p r xs) (append-nil text)
    (Stops-then status a b c p q r text waiting [] x
    (subst (λ (xs : List ℕ). StopsPrinting status b c q r xs) (sym (append-nil waiting)) (Stops-before status b c q r [] waiting y)))

-- all was printed, but the output couldn't be finished
pub Stops-unfinished : (a b c : Told) (p q r : Got) (text : List ℕ) → PrintsOn a b p q text [] → Gains q r [] → KeepsTold b.finished c.finished → Rose b.faults c.faults
    → StopsPrinting WriteFault a c p r text
Stops-unfinished a b c p q r text x gained kept rose =
    Stops-later WriteFault a b c p q r text [] x
    (record { rest = []; printed = record { gain = []; gained = gained; first = refl; finish_kept = kept }; cause = rose })

-- a write has failed then, or memory was wanting
pub Stops-leave : (status : Status) (a b : Told) (p q : Got) (text : List ℕ) → StopsPrinting status a b p q text → LeavesNothing status q
Stops-leave WriteFault a b p q text s = tt
Stops-leave NoMemory a b p q text s = tt
Stops-leave _ a b p q text s = absurd s.cause

-- nothing is printed yet
pub SoFar-start : (told : Told) (p : Got) (script waiting rest : List ℕ) → waiting ≡ [] → rest ≡ script → PrintsSoFar told told p p script waiting rest
SoFar-start told p script waiting rest none all =
    rw (none, all) (record { printed = []; split = refl; on = Prints-nothing told p [] })

-- one more part of the script's text is printed
pub SoFar-then : (a b c : Told) (p q r : Got) (script waiting waiting' rest more rest' : List ℕ)
    → PrintsSoFar a b p q script waiting rest → rest ≡ more ++ rest' → PrintsOn b c q r (waiting ++ more) waiting'
    → PrintsSoFar a c p r script waiting' rest'
SoFar-then a b c p q r script waiting waiting' rest more rest' s cut on =
    record {
      printed = s.printed ++ more;
      split = s.split ∙ (ap (λ (xs : List ℕ). s.printed ++ xs) cut ∙ sym (append_assoc s.printed more rest'));
      on = Prints-then a b c p q r s.printed waiting more waiting' s.on on;
    }

-- printing stops within a part of the script's text
pub SoFar-stop : (status : Status) (a b c : Told) (p q r : Got) (script waiting rest more rest' : List ℕ)
    → PrintsSoFar a b p q script waiting rest → rest ≡ more ++ rest' → StopsPrinting status b c q r (waiting ++ more)
    → StopsPrinting status a c p r script
SoFar-stop status a b c p q r script waiting rest more rest' s cut stop =
    let split : script ≡ (s.printed ++ more) ++ rest' = s.split ∙ (ap (λ (xs : List ℕ). s.printed ++ xs) cut ∙ sym (append_assoc s.printed more rest')) in
    subst (λ (text : List ℕ). StopsPrinting status a c p r text) (sym split)
    (Stops-before status a c p r (s.printed ++ more) rest' (Stops-then status a b c p q r s.printed waiting more s.on stop))

-- all is printed, and what waits is written
pub SoFar-end : (a b c : Told) (p q r : Got) (script waiting rest waiting' : List ℕ)
    → PrintsSoFar a b p q script waiting rest → rest ≡ [] → PrintsOn b c q r waiting waiting' → waiting' ≡ []
    → PrintsOn a c p r script []
SoFar-end a b c p q r script waiting rest waiting' s none on empty =
    let P : List ℕ → List ℕ → Type 0 = λ text left. PrintsOn a c p r text left in
    let whole : s.printed ++ [] ≡ script = ap (λ (xs : List ℕ). s.printed ++ xs) (sym none) ∙ sym s.split in
    subst (λ (left : List ℕ). P script left) empty
    (subst (λ (text : List ℕ). P text waiting') whole
    (Prints-then a b c p q r s.printed waiting [] waiting' s.on (subst (λ (text : List ℕ). PrintsOn b c q r text waiting') (sym (append-nil waiting)) on)))

pub SoFar-end_stop : (status : Status) (a b c : Told) (p q r : Got) (script waiting rest : List ℕ)
    → PrintsSoFar a b p q script waiting rest → rest ≡ [] → StopsPrinting status b c q r waiting
    → StopsPrinting status a c p r script
SoFar-end_stop status a b c p q r script waiting rest s none stop =
    SoFar-stop status a b c p q r script waiting rest [] [] s none
    (subst (λ (text : List ℕ). StopsPrinting status b c q r text) (sym (append-nil waiting)) stop)

-- nothing was written when printing stopped
pub Stops-at_once : (told : Told) (p : Got) (text : List ℕ) → StopsPrinting NoMemory told told p p text
Stops-at_once told p text =
    record {
      rest = text;
      printed = record { gain = []; gained = Gains-nothing p; first = refl; finish_kept = KeepsTold-same told.finished };
      cause = tt;
    }

pub on_ok_both : {T E : Type 0} (r : Result T E) (P Q R : Type 0) → (P → Q → R) → OnOk r P → OnOk r Q → OnOk r R
on_ok_both (Ok x) P Q R f p q = f p q
on_ok_both (Err e) P Q R f p q = tt

-- the first line that waits, and the others
pub first_line : (lines lines' : List Line) (line : Line) (s z : Slots) → lines ≡ line ∷ [] ++ lines' → z ≡ heard (after_line line s)
    → lines_text lines s ≡ line_text line s ++ lines_text lines' z
first_line lines lines' line s z popped left = rw (popped, left) refl

pub no_line : (lines lines' : List Line) (s : Slots) (first : Option Line) → lines ≡ option_to_list first ++ lines' → first ≡ None → lines' ≡ drop 1 lines → lines_text lines s ≡ []
no_line [] lines' s first popped none rest = refl
no_line (line ∷ lines) lines' s first popped none rest =
    let same : line ∷ lines ≡ lines' = popped ∙ ap (λ (f : Option Line). option_to_list f ++ lines') none in
    absurd (omega (arith, ap length same, ap length rest))

pub if_err_weaker : {T E : Type 0} (r : Result T E) (P Q : E → Type 0) → ((e : E) → P e → Q e) → IfErr r P → IfErr r Q
if_err_weaker (Ok x) P Q f h = tt
if_err_weaker (Err e) P Q f h = f e h
