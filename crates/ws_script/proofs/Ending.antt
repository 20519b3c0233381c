-- How a script ends by how its text was read and its lines were performed, and what its ends exclude.
use Rattle.std.proofs.Common.{◌≡◌, ◌+◌, ◌<◌, ◌≤◌, ◌⊎◌, inl, inr, ℕ, List, [], ◌++◌, length, refl, sym, ◌∙◌, ap, append-nil, length-append, arith}
use Rattle.std.specs.Prelude.{Option, Some, None, Ok, Err}
use Rattle.ws_io.specs.Gain.{Got}
use Rattle.ws_io.specs.Faults.{Calm}
use Rattle.ws_io.specs.Feed.{Feed, Fed, HasLeft, IsEmpty}
use Rattle.ws_io.specs.Moment.{Moment, moment}
use Rattle.ws_io.proofs.Flow.{Gains-nothing, KeepsTold-same}
use Rattle.ws_io.specs.declared.status.Status.{Status}
use Rattle.ws_io.specs.declared.status.Status.TheVariants.{Done, ReadFault, WriteFault, NoMemory, Script}
use Rattle.ws_grammar.specs.declared.line.Line.{Line}
use Rattle.ws_grammar.specs.Lines.{lines, most_bytes}
use Rattle.ws_script.specs.Ends.{ReadWhole, ScriptEnds}
use Rattle.ws_script.specs.Printed.{script_text}
use Rattle.ws_script.specs.Printing.{Told, Performs}
use Rattle.ws_script.specs.Reading.{ReadsText, StopsReading}

-- a text that isn't too long was read whole
whole : (before after : Option Feed) (count count' : ℕ) (text : List ℕ) (told told' : Told) → length text ≤ most_bytes
    → ReadsText before after count count' text
    → ReadWhole (moment count before told.faults told.finished) (moment count' after told'.faults told'.finished) text
whole before after count count' text told told' short r =
    record { ended = (r.end short).0; emptied = (r.end short).1; calm = r.calm; short = short }

pub Ends-performed : (status : Status) (before after : Option Feed) (count count' : ℕ) (text : List ℕ) (found : List Line) (told told' : Told) (p q : Got)
    → ReadsText before after count count' text → length text ≤ most_bytes → lines text ≡ Ok found
    → Performs status (script_text found) told told' p q
    → ScriptEnds status (moment count before told.faults told.finished) (moment count' after told'.faults told'.finished) p q
Ends-performed Done before after count count' text found told told' p q r short accepted done =
    record {
      taken = text;
      gain = script_text found;
      fed = r.moved;
      gained = done.gained;
      bound = r.bound;
      allowed = record {
        read = whole before after count count' text told told' short r;
        found = found;
        accepted = accepted;
        whole = refl;
        no_fault = record { read = r.calm; write = done.calm };
        finished = done.finished;
      };
      finish_kept = tt;
    }
Ends-performed WriteFault before after count count' text found told told' p q r short accepted stopped =
    record {
      taken = text;
      gain = stopped.printed.gain;
      fed = r.moved;
      gained = stopped.printed.gained;
      bound = r.bound;
      allowed = (
        stopped.cause,
        record {
          read = whole before after count count' text told told' short r;
          found = found;
          accepted = accepted;
          rest = stopped.rest;
          first = stopped.printed.first;
        },
      );
      finish_kept = stopped.printed.finish_kept;
    }
Ends-performed NoMemory before after count count' text found told told' p q r short accepted stopped =
    record {
      taken = text;
      gain = stopped.printed.gain;
      fed = r.moved;
      gained = stopped.printed.gained;
      bound = r.bound;
      allowed = inr (record {
        read = whole before after count count' text told told' short r;
        found = found;
        accepted = accepted;
        rest = stopped.rest;
        first = stopped.printed.first;
      });
      finish_kept = stopped.printed.finish_kept;
    }
Ends-performed _ before after count count' text found told told' p q r short accepted stopped = absurd stopped.cause

-- the script is refused, and nothing is written
pub Ends-bad_line : (n : ℕ) (before after : Option Feed) (count count' : ℕ) (text : List ℕ) (told : Told) (p : Got)
    → ReadsText before after count count' text → length text ≤ most_bytes → lines text ≡ Err n
    → ScriptEnds (Script n) (moment count before told.faults told.finished) (moment count' after told.faults told.finished) p p
Ends-bad_line n before after count count' text told p r short refused =
    record {
      taken = text;
      gain = [];
      fed = r.moved;
      gained = Gains-nothing p;
      bound = r.bound;
      allowed = (
        inl (record { read = whole before after count count' text told told short r; refused = refused }),
        record { nothing = refl; calm = refl },
      );
      finish_kept = KeepsTold-same told.finished;
    }

pub Ends-too_long : (before after : Option Feed) (count count' : ℕ) (text : List ℕ) (told : Told) (p : Got)
    → ReadsText before after count count' text → most_bytes < length text
    → ScriptEnds (Script 0) (moment count before told.faults told.finished) (moment count' after told.faults told.finished) p p
Ends-too_long before after count count' text told p r long =
    record {
      taken = text;
      gain = [];
      fed = r.moved;
      gained = Gains-nothing p;
      bound = r.bound;
      allowed = (inr (record { at_none = refl; long = long; calm = r.calm }), record { nothing = refl; calm = refl });
      finish_kept = KeepsTold-same told.finished;
    }

pub Ends-wanting : (before after : Option Feed) (count count' : ℕ) (text : List ℕ) (told : Told) (p : Got)
    → ReadsText before after count count' text
    → ScriptEnds NoMemory (moment count before told.faults told.finished) (moment count' after told.faults told.finished) p p
Ends-wanting before after count count' text told p r =
    record {
      taken = text;
      gain = [];
      fed = r.moved;
      gained = Gains-nothing p;
      bound = r.bound;
      allowed = inl (record { nothing = refl; calm = refl });
      finish_kept = KeepsTold-same told.finished;
    }

-- the text wasn't read
pub Ends-unread : (status : Status) (most : ℕ) (before after : Option Feed) (count count' : ℕ) (told : Told) (p : Got)
    → StopsReading status most before after count count' → most ≡ most_bytes + 1
    → ScriptEnds status (moment count before told.faults told.finished) (moment count' after told.faults told.finished) p p
Ends-unread ReadFault most before after count count' told p stopped same =
    record {
      taken = stopped.taken;
      gain = [];
      fed = stopped.moved;
      gained = Gains-nothing p;
      bound = let bound = stopped.bound in omega arith;
      allowed = (stopped.cause, record { nothing = refl; calm = refl });
      finish_kept = KeepsTold-same told.finished;
    }
Ends-unread NoMemory most before after count count' told p stopped same =
    record {
      taken = stopped.taken;
      gain = [];
      fed = stopped.moved;
      gained = Gains-nothing p;
      bound = let bound = stopped.bound in omega arith;
      allowed = inl (record { nothing = refl; calm = refl });
      finish_kept = KeepsTold-same told.finished;
    }
Ends-unread _ most before after count count' told p stopped same = absurd stopped.cause

-- what was taken of an input that has nothing left is all that it had
all_taken : (before after : Option Feed) (text taken : List ℕ) → HasLeft before text → Fed before after taken → IsEmpty after → taken ≡ text
all_taken None after text taken has fed empty = absurd has
all_taken (Some f) None text taken has fed empty = absurd fed
all_taken (Some f) (Some g) text taken has fed empty =
    sym (sym has ∙ (fed.left ∙ (ap (λ (xs : List ℕ). taken ++ xs) empty ∙ append-nil taken)))

-- no more is taken than the input had
some_taken : (before after : Option Feed) (text taken : List ℕ) → HasLeft before text → Fed before after taken → length taken ≤ length text
some_taken None after text taken has fed = absurd has
some_taken (Some f) None text taken has fed = absurd fed
some_taken (Some f) (Some g) text taken has fed =
    omega (arith, ap length (sym has ∙ fed.left), length-append taken g.left)

not_both : (text : List ℕ) (found : List Line) (n : ℕ) → lines text ≡ Ok found → lines text ≡ Err n → ⊥
not_both text found n a b = let e = sym a ∙ b in cc

same_line : (text : List ℕ) (m n : ℕ) → lines text ≡ Err m → lines text ≡ Err n → m ≡ n
same_line text m n a b = let e = sym a ∙ b in cc

pub Complete : (status : Status) (old new : Moment) (p q : Got) → ScriptEnds status old new p q
    → (text : List ℕ) (found : List Line) → HasLeft old.feed text → length text ≤ most_bytes → lines text ≡ Ok found
    → Calm old.read_faults new.read_faults → Calm old.write_faults new.write_faults
    → (status ≡ Done) ⊎ (status ≡ NoMemory)
Complete Done old new p q e text found has short accepted read write = inl refl
Complete NoMemory old new p q e text found has short accepted read write = inr refl
Complete ReadFault old new p q e text found has short accepted read write = let rose = e.allowed.0 in absurd (omega arith)
Complete WriteFault old new p q e text found has short accepted read write = let rose = e.allowed.0 in absurd (omega arith)
Complete (Script n) old new p q e text found has short accepted read write =
    elim e.allowed.0 [
      | inl bad ↦ absurd (not_both e.taken found n (ap lines (all_taken old.feed new.feed text e.taken has e.fed bad.read.emptied) ∙ accepted) bad.refused)
      | inr long ↦ let taken = some_taken old.feed new.feed text e.taken has e.fed in let more = long.long in absurd (omega arith)
    ]
Complete _ old new p q e text found has short accepted read write = absurd e.allowed

pub Outside : (status : Status) (old new : Moment) (p q : Got) → ScriptEnds status old new p q
    → (text : List ℕ) (n : ℕ) → HasLeft old.feed text → length text ≤ most_bytes → lines text ≡ Err n
    → Calm old.read_faults new.read_faults
    → (status ≡ Script n) ⊎ (status ≡ NoMemory)
Outside Done old new p q e text n has short refused read =
    absurd (not_both e.taken e.allowed.found n e.allowed.accepted (ap lines (all_taken old.feed new.feed text e.taken has e.fed e.allowed.read.emptied) ∙ refused))
Outside NoMemory old new p q e text n has short refused read = inr refl
Outside ReadFault old new p q e text n has short refused read = let rose = e.allowed.0 in absurd (omega arith)
Outside WriteFault old new p q e text n has short refused read =
    let w = e.allowed.1 in
    absurd (not_both e.taken w.found n w.accepted (ap lines (all_taken old.feed new.feed text e.taken has e.fed w.read.emptied) ∙ refused))
Outside (Script m) old new p q e text n has short refused read =
    elim e.allowed.0 [
      | inl bad ↦ inl (ap Script (same_line e.taken m n bad.refused (ap lines (all_taken old.feed new.feed text e.taken has e.fed bad.read.emptied) ∙ refused)))
      | inr long ↦ let taken = some_taken old.feed new.feed text e.taken has e.fed in let more = long.long in absurd (omega arith)
    ]
Outside _ old new p q e text n has short refused read = absurd e.allowed

-- an input that is too long isn't read whole
not_whole : (old new : Moment) (text taken : List ℕ) → HasLeft old.feed text → Fed old.feed new.feed taken → most_bytes < length text → ReadWhole old new taken → ⊥
not_whole old new text taken has fed long w =
    let short = w.short in omega (arith, ap length (all_taken old.feed new.feed text taken has fed w.emptied))

pub TooLong : (status : Status) (old new : Moment) (p q : Got) → ScriptEnds status old new p q
    → (text : List ℕ) → HasLeft old.feed text → most_bytes < length text
    → Calm old.read_faults new.read_faults
    → (status ≡ Script 0) ⊎ (status ≡ NoMemory)
TooLong Done old new p q e text has long read = absurd (not_whole old new text e.taken has e.fed long e.allowed.read)
TooLong NoMemory old new p q e text has long read = inr refl
TooLong ReadFault old new p q e text has long read = let rose = e.allowed.0 in absurd (omega arith)
TooLong WriteFault old new p q e text has long read = absurd (not_whole old new text e.taken has e.fed long e.allowed.1.read)
TooLong (Script n) old new p q e text has long read =
    elim e.allowed.0 [
      | inl bad ↦ absurd (not_whole old new text e.taken has e.fed long bad.read)
      | inr more ↦ inl (ap Script more.at_none)
    ]
TooLong _ old new p q e text has long read = absurd e.allowed
