-- What the ends of a check exclude.
use Rattle.std.proofs.Common.{◌≡◌, ◌⊎◌, inl, inr, ℕ, true, false, List, [], refl, sym, ◌∙◌, ap, subst, append-nil, arith}
use Rattle.std.proofs.lemmas.Bool.{false≢true}
use Rattle.std.specs.Prelude.{Result, Ok, Err, is_err}
use Rattle.ws_io.specs.Faults.{Calm, HasCause, Rose}
use Rattle.ws_io.specs.Gain.{Becomes, Gains, KeepsTold, Got}
use Rattle.ws_io.specs.Written.{WroteFirst}
use Rattle.ws_io.proofs.Flow.{Becomes-then, Gains-nothing, Gains-still, KeepsTold-same, KeepsTold-then}
use Rattle.ws_io.specs.Files.{LoadsTold}
use Rattle.ws_io.specs.Memory.{one_more}
use Rattle.ws_io.specs.declared.status.Status.{Status}
use Rattle.ws_io.specs.declared.status.Status.TheVariants.{Done, WriteFault, NoMemory, LoadFault, Plan}
use Rattle.ws_plan.specs.Reading.{Planned, reading}
use Rattle.ws_flow.specs.declared.plan.Plan.{Plan as PlanOf}
use Rattle.ws_flow.specs.declared.refusal.Refusal.{Refusal}
use Rattle.ws_flow.specs.Refusals.{refusal_number}
use Rattle.ws_plan.specs.Answers.{planned_as}
use Rattle.ws_plan.specs.PlanText.{check_text}
use Rattle.ws_script.specs.Printing.{Told, Performs, PrintsAll, StopsPrinting}
use Rattle.ws_cli.specs.Check.{Shelf, HasText, LacksText, IsFirstRefusal, CheckEnds, ChecksText, PerformsCheck}
use Rattle.ws_cli.specs.Planned.{Loads}
use Rattle.ws_cli.proofs.Loading.{long_reading, not_both_read, number_told, told_none, told_not_long, told_text}
use Rattle.ws_cli.proofs.Telling.{wrote_all}

first_refusal : (n : ℕ) (name text : List ℕ) (files files' : Shelf) (old new : Told) (p q : Got) → CheckEnds (Plan n) name files files' old new p q
    → HasText files name text → IsFirstRefusal n text
first_refusal n name text files files' old new p q e has =
    elim e [
      | inl long ↦ long_reading n name text files files' has long
      | inr bad ↦ subst (λ (t : List ℕ). IsFirstRefusal n t) (told_text files.texts name text bad.text has bad.loaded) bad.checks
    ]

Complete : (status : Status) (name : List ℕ) (files files' : Shelf) (old new : Told) (p q : Got) → CheckEnds status name files files' old new p q
    → (text : List ℕ) (plan : Planned) → HasText files name text → reading text ≡ Ok plan
    → Calm files.faults files'.faults → Calm old.faults new.faults → (status ≡ Done) ⊎ (status ≡ NoMemory)
Complete Done name files files' old new p q e text plan has accepted load write = inl refl
Complete NoMemory name files files' old new p q e text plan has accepted load write = inr refl
Complete LoadFault name files files' old new p q e text plan has accepted load write = let rose = e in absurd (omega arith)
Complete WriteFault name files files' old new p q e text plan has accepted load write = let rose = e.checks.prints.cause in absurd (omega arith)
Complete (Plan n) name files files' old new p q e text plan has accepted load write =
    let first = first_refusal n name text files files' old new p q e has in absurd (not_both_read (reading text) plan first.cause accepted first.refused)
Complete _ name files files' old new p q e text plan has accepted load write = absurd e.checks

Refused : (status : Status) (name : List ℕ) (files files' : Shelf) (old new : Told) (p q : Got) → CheckEnds status name files files' old new p q
    → (text : List ℕ) (cause : Refusal) → HasText files name text → reading text ≡ Err cause
    → Calm files.faults files'.faults → (status ≡ Plan (refusal_number cause)) ⊎ (status ≡ NoMemory)
Refused Done name files files' old new p q e text cause has refused load =
    absurd (not_both_read (reading e.text) _ cause e.checks.accepted (ap reading (told_text files.texts name text e.text has e.loaded) ∙ refused))
Refused NoMemory name files files' old new p q e text cause has refused load = inr refl
Refused LoadFault name files files' old new p q e text cause has refused load = let rose = e in absurd (omega arith)
Refused WriteFault name files files' old new p q e text cause has refused load =
    absurd (not_both_read (reading e.text) _ cause e.checks.accepted (ap reading (told_text files.texts name text e.text has e.loaded) ∙ refused))
Refused (Plan n) name files files' old new p q e text cause has refused load =
    inl (ap Plan (number_told n text cause (first_refusal n name text files files' old new p q e has) refused))
Refused _ name files files' old new p q e text cause has refused load = absurd e.checks

Missing : (status : Status) (name : List ℕ) (files files' : Shelf) (old new : Told) (p q : Got) → CheckEnds status name files files' old new p q
    → LacksText files name → (status ≡ LoadFault) ⊎ (status ≡ NoMemory)
Missing NoMemory name files files' old new p q e lacks = inr refl
Missing LoadFault name files files' old new p q e lacks = inl refl
Missing (Plan n) name files files' old new p q e lacks =
    elim e [
      | inl long ↦ absurd (told_not_long files.texts name lacks long.long)
      | inr bad ↦ absurd (told_none files.texts name bad.text lacks bad.loaded)
    ]
Missing Done name files files' old new p q e lacks = absurd (told_none files.texts name e.text lacks e.loaded)
Missing WriteFault name files files' old new p q e lacks = absurd (told_none files.texts name e.text lacks e.loaded)
Missing _ name files files' old new p q e lacks = absurd e.checks

pub Performs-check : {K : Type 0} (status : Status) (name : List ℕ) (output output' : K) (files files' : Shelf) (old new : Told) (p q : Got)
    → files'.loads ≡ one_more files.loads → CheckEnds status name files files' old new p q → ((status ≡ Done → ⊥) → (status ≡ WriteFault → ⊥) → output' ≡ output)
    → PerformsCheck status name output output' files files' old new p q
Performs-check status name output output' files files' old new p q once ends unwritten =
    record {
      once = once;
      ends = ends;
      unwritten = unwritten;
      complete = Complete status name files files' old new p q ends;
      refused = Refused status name files files' old new p q ends;
      missing = Missing status name files files' old new p q ends;
    }

-- how a text was written, or not
pub Stops-at_once : (told : Told) (p : Got) (text : List ℕ) → StopsPrinting NoMemory told told p p text
Stops-at_once told p text =
    record {
      rest = text;
      printed = record { gain = []; gained = Gains-nothing p; first = refl; finish_kept = KeepsTold-same told.finished };
      cause = tt;
    }

pub Stops-writing : {E : Type 0} (r : Result (Unit {0}) E) (old new : Told) (p q : Got) (text piece : List ℕ) → piece ≡ text → is_err r ≡ true
    → WroteFirst p q r piece → KeepsTold old.finished new.finished → HasCause old.faults new.faults r
    → StopsPrinting WriteFault old new p q text
Stops-writing (Ok u) old new p q text piece same err wrote kept cause = absurd (false≢true err)
Stops-writing (Err e) old new p q text piece same err wrote kept cause =
    record {
      rest = wrote.rest;
      printed = record { gain = wrote.gain; gained = wrote.gained; first = sym same ∙ wrote.first; finish_kept = kept };
      cause = cause.failed;
    }

-- all of it was written: then the output was finished, or couldn't be
all_written : {E : Type 0} (r : Result (Unit {0}) E) (p q t : Got) (text piece : List ℕ) → piece ≡ text → is_err r ≡ false
    → WroteFirst p q r piece → Gains q t [] → Gains p t text
all_written (Err e) p q t text piece same ok wrote gained = cc
all_written (Ok u) p q t text piece same ok wrote gained =
    subst (λ (xs : List ℕ). Gains p t xs) same (Gains-still p q t piece (wrote_all p q (Ok u) piece wrote) gained)

without_fault : {E : Type 0} (r : Result (Unit {0}) E) (before now : ℕ) → is_err r ≡ false → HasCause before now r → now ≡ before
without_fault (Err e) before now ok cause = cc
without_fault (Ok u) before now ok cause = cause.answered

pub Prints-finished : {E : Type 0} (r : Result (Unit {0}) E) (a b c : Told) (p q t : Got) (text piece : List ℕ) → piece ≡ text → is_err r ≡ false
    → WroteFirst p q r piece → KeepsTold a.finished b.finished → HasCause a.faults b.faults r
    → Gains q t [] → Becomes b.finished c.finished → c.faults ≡ b.faults → PrintsAll a c p t text
Prints-finished r a b c p q t text piece same ok wrote kept cause gained ends calm =
    record {
      gained = all_written r p q t text piece same ok wrote gained;
      calm = calm ∙ without_fault r a.faults b.faults ok cause;
      finished = Becomes-then a.finished b.finished c.finished kept ends;
    }

pub Stops-finishing : {E : Type 0} (r : Result (Unit {0}) E) (a b c : Told) (p q t : Got) (text piece : List ℕ) → piece ≡ text → is_err r ≡ false
    → WroteFirst p q r piece → KeepsTold a.finished b.finished → HasCause a.faults b.faults r
    → Gains q t [] → KeepsTold b.finished c.finished → Rose b.faults c.faults → StopsPrinting WriteFault a c p t text
Stops-finishing r a b c p q t text piece same ok wrote kept cause gained ends rose =
    record {
      rest = [];
      printed = record {
        gain = text;
        gained = all_written r p q t text piece same ok wrote gained;
        first = sym (append-nil text);
        finish_kept = KeepsTold-then a.finished b.finished c.finished kept ends;
      };
      cause = let before = without_fault r a.faults b.faults ok cause in subst (λ (n : ℕ). Rose n c.faults) before rose;
    }

pub Checks-printed : (status : Status) (text : List ℕ) (plan : PlanOf) (old new : Told) (p q : Got)
    → reading text ≡ Ok (planned_as plan) → Performs status (check_text plan) old new p q → ChecksText status text old new p q
Checks-printed Done text plan old new p q accepted prints = record { plan = plan; accepted = accepted; prints = prints }
Checks-printed WriteFault text plan old new p q accepted prints = record { plan = plan; accepted = accepted; prints = prints }
Checks-printed NoMemory text plan old new p q accepted prints = tt
Checks-printed _ text plan old new p q accepted prints = absurd prints.cause

pub Ends-checked : (status : Status) (name text : List ℕ) (files files' : Shelf) (old new : Told) (p q : Got)
    → LoadsTold files.texts name (Ok text) → files'.faults ≡ files.faults → ChecksText status text old new p q
    → CheckEnds status name files files' old new p q
Ends-checked NoMemory name text files files' old new p q loaded calm checks = calm
Ends-checked LoadFault name text files files' old new p q loaded calm checks = absurd checks
Ends-checked (Plan n) name text files files' old new p q loaded calm checks =
    inr (record { text = text; loaded = loaded; calm = calm; checks = checks })
Ends-checked _ name text files files' old new p q loaded calm checks =
    record { text = text; loaded = loaded; calm = calm; checks = checks }

-- the file has no plan
pub Ends-unread : (status : Status) (name : List ℕ) (files files' : Shelf) (told : Told) (p : Got) → Loads (Err status) name files files'
    → CheckEnds status name files files' told told p p
Ends-unread NoMemory name files files' told p e = e
Ends-unread LoadFault name files files' told p e = e
Ends-unread (Plan n) name files files' told p e =
    elim e [
      | inl long ↦ inl long
      | inr bad ↦ inr (record { text = bad.text; loaded = bad.loaded; calm = bad.calm; checks = bad.read })
    ]
Ends-unread _ name files files' told p e = absurd e.read

-- what isn't written is as it was
pub Unwritten : {K : Type 0} (status : Status) (text : List ℕ) (output output' : K) (old new : Told) (p q : Got) → Performs status text old new p q
    → (status ≡ NoMemory → output' ≡ output) → (status ≡ Done → ⊥) → (status ≡ WriteFault → ⊥) → output' ≡ output
Unwritten Done text output output' old new p q does kept not_done not_failed = absurd (not_done refl)
Unwritten WriteFault text output output' old new p q does kept not_done not_failed = absurd (not_failed refl)
Unwritten NoMemory text output output' old new p q does kept not_done not_failed = kept refl
Unwritten _ text output output' old new p q does kept not_done not_failed = absurd does.cause
