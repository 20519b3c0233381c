-- What the load of a plan says of a file whose text is told.
use Rattle.std.proofs.Common.{◌≡◌, ◌<◌, ◌⊎◌, inl, inr, ℕ, true, false, List, length, refl, sym, ◌∙◌, ap, subst, arith, if◌then◌else◌}
use Rattle.std.proofs.lemmas.Bool.{lt-ltb}
use Rattle.std.specs.Prelude.{Option, Some, None, Bool, Result, Ok, Err, nat_lt}
use Rattle.ws_io.specs.Faults.{Calm}
use Rattle.ws_io.specs.Files.{Loads as LoadsText, LoadsTold, load_limit}
use Rattle.ws_io.specs.declared.files.LoadRefused.TheVariants.{TooLong}
use Rattle.ws_io.specs.declared.status.Status.{Status}
use Rattle.ws_io.specs.declared.status.Status.TheVariants.{LoadFault, NoMemory, Plan as PlanIs}
use Rattle.ws_flow.specs.declared.plan.Plan.{Plan}
use Rattle.ws_flow.specs.declared.refusal.Refusal.{Refusal}
use Rattle.ws_flow.specs.declared.refusal.Refusal.TheVariants.{FileTooLong}
use Rattle.ws_flow.specs.Plans.{refusal, refusal_of}
use Rattle.ws_flow.specs.Refusals.{refusal_number}
use Rattle.ws_plan.specs.Answers.{planned_as}
use Rattle.ws_plan.specs.Keys.{◌>>=◌}
use Rattle.ws_plan.specs.Reading.{Planned, accepted, most_of_a_file, planned, reading, table_in, unless_refused}
use Rattle.ws_cli.specs.Check.{Shelf, HasText, IsFirstRefusal, IsTooLong, LacksText, OfName}
use Rattle.ws_cli.specs.Planned.{Loads}

-- a loaded text is the one that is told
loaded_text : (found : Option (List ℕ)) (text text' : List ℕ) → found ≡ Some text → LoadsText found (Ok text') → text' ≡ text
loaded_text None text text' has loaded = absurd loaded
loaded_text (Some t) text text' has loaded = let same : t ≡ text = cc in loaded.0 ∙ same

pub told_text : (texts : Option (List ℕ → Option (List ℕ))) (name text text' : List ℕ) → OfName texts name (Some text) → LoadsTold texts name (Ok text') → text' ≡ text
told_text None name text text' has loaded = absurd has
told_text (Some texts) name text text' has loaded = loaded_text (texts name) text text' has loaded

long_text : (found : Option (List ℕ)) (text : List ℕ) → found ≡ Some text → LoadsText found (Err TooLong) → load_limit < length text
long_text None text has loaded = absurd loaded
long_text (Some t) text has loaded = let same : t ≡ text = cc in let P : List ℕ → Type 0 = λ xs. load_limit < length xs in subst P same loaded

told_long : (texts : Option (List ℕ → Option (List ℕ))) (name text : List ℕ) → OfName texts name (Some text) → LoadsTold texts name (Err TooLong) → load_limit < length text
told_long None name text has loaded = absurd has
told_long (Some texts) name text has loaded = long_text (texts name) text has loaded

no_text : (found : Option (List ℕ)) (text : List ℕ) → found ≡ None → LoadsText found (Ok text) → ⊥
no_text None text lacks loaded = loaded
no_text (Some t) text lacks loaded = cc

pub told_none : (texts : Option (List ℕ → Option (List ℕ))) (name text : List ℕ) → OfName texts name None → LoadsTold texts name (Ok text) → ⊥
told_none None name text lacks loaded = lacks
told_none (Some texts) name text lacks loaded = no_text (texts name) text lacks loaded

no_long : (found : Option (List ℕ)) → found ≡ None → LoadsText found (Err TooLong) → ⊥
no_long None lacks loaded = loaded
no_long (Some t) lacks loaded = cc

pub told_not_long : (texts : Option (List ℕ → Option (List ℕ))) (name : List ℕ) → OfName texts name None → LoadsTold texts name (Err TooLong) → ⊥
told_not_long None name lacks loaded = lacks
told_not_long (Some texts) name lacks loaded = no_long (texts name) lacks loaded

-- a text that is too long is refused for that
too_long : (text : List ℕ) → load_limit < length text → reading text ≡ Err FileTooLong
too_long text long = let is : nat_lt 1048576 (length text) ≡ true = lt-ltb 1048576 (length text) long in rw is refl

pub long_reading : (n : ℕ) (name text : List ℕ) (files files' : Shelf) → HasText files name text → IsTooLong n name files files' → IsFirstRefusal n text
long_reading n name text files files' has long =
    record { cause = FileTooLong; refused = too_long text (told_long files.texts name text has long.long); number = long.number }

same_cause : (r : Result Planned Refusal) (c d : Refusal) → r ≡ Err c → r ≡ Err d → c ≡ d
same_cause r c d a b = cc

pub number_told : (n : ℕ) (text : List ℕ) (cause : Refusal) → IsFirstRefusal n text → reading text ≡ Err cause → n ≡ refusal_number cause
number_told n text cause first refused = first.number ∙ ap refusal_number (same_cause (reading text) first.cause cause first.refused refused)

pub same_planned : (r : Result Planned Refusal) (p q : Planned) → r ≡ Ok p → r ≡ Ok q → p ≡ q
same_planned r p q a b = cc

pub not_both_read : (r : Result Planned Refusal) (p : Planned) (cause : Refusal) → r ≡ Ok p → r ≡ Err cause → ⊥
not_both_read r p cause a b = cc

-- a text of a plan is that of an accepted one
bound_ok : {A B : Type 0} (r : Result A Refusal) (f : A → Result B Refusal) (q : B) → (r >>= f) ≡ Ok q → (x : A) × (f x ≡ Ok q)
bound_ok (Ok x) f q h = (x, h)
bound_ok (Err cause) f q h = cc

unless_ok : (p q : Planned) (o : Option Refusal) → unless_refused p o ≡ Ok q → (p ≡ q) × (o ≡ None)
unless_ok p q None h = (cc, refl)
unless_ok p q (Some cause) h = cc

abbrev refusal_in : Planned → Option Refusal
refusal_in p = refusal_of p.workers p.abort_after p.max_input p.stages

accepted_ok : (p q : Planned) → accepted p ≡ Ok q → refusal_in q ≡ None
accepted_ok p q h = let (same, none) = unless_ok p q (refusal_in p) h in ap refusal_in (sym same) ∙ none

branch_ok : (long : Bool) (r : Result Planned Refusal) (q : Planned) → (if long then Err FileTooLong else r) ≡ Ok q → r ≡ Ok q
branch_ok true r q h = cc
branch_ok false r q h = h

read_ok : (text : List ℕ) (q : Planned) → reading text ≡ Ok q → refusal_in q ≡ None
read_ok text q h =
    let all = branch_ok (nat_lt most_of_a_file (length text)) (table_in text >>= λ ms. (planned ms >>= accepted)) q h in
    let (ms, two) = bound_ok (table_in text) (λ ms. (planned ms >>= accepted)) q all in
    let (p, last) = bound_ok (planned ms) accepted q two in
    accepted_ok p q last

pub accepted_read : (text : List ℕ) (plan : Plan) → reading text ≡ Ok (planned_as plan) → refusal plan ≡ None
accepted_read text plan h = read_ok text (planned_as plan) h

pub accepted_file : (plan : Plan) (name : List ℕ) (files files' : Shelf) → Loads (Ok plan) name files files' → refusal plan ≡ None
accepted_file plan name files files' r = accepted_read r.text plan r.read

-- the plan of a file whose text is told
pub same_plan : (plan : Plan) (name text : List ℕ) (files files' : Shelf) (p : Planned) → Loads (Ok plan) name files files'
    → HasText files name text → reading text ≡ Ok p → planned_as plan ≡ p
same_plan plan name text files files' p r has accepted =
    same_planned (reading text) (planned_as plan) p (ap reading (sym (told_text files.texts name text r.text has r.loaded)) ∙ r.read) accepted

pub no_plan : (plan : Plan) (name text : List ℕ) (files files' : Shelf) (cause : Refusal) → Loads (Ok plan) name files files'
    → HasText files name text → reading text ≡ Err cause → ⊥
no_plan plan name text files files' cause r has refused =
    not_both_read (reading text) (planned_as plan) cause (ap reading (sym (told_text files.texts name text r.text has r.loaded)) ∙ r.read) refused

pub no_file : (plan : Plan) (name : List ℕ) (files files' : Shelf) → Loads (Ok plan) name files files' → LacksText files name → ⊥
no_file plan name files files' r lacks = told_none files.texts name r.text lacks r.loaded

-- the status of a command that has no plan
plan_number : (n : ℕ) (name text : List ℕ) (files files' : Shelf) → Loads (Err (PlanIs n)) name files files' → HasText files name text → IsFirstRefusal n text
plan_number n name text files files' e has =
    elim e [
      | inl long ↦ long_reading n name text files files' has long
      | inr bad ↦ subst (λ (t : List ℕ). IsFirstRefusal n t) (told_text files.texts name text bad.text has bad.loaded) bad.read
    ]

pub Accepted-none : (status : Status) (name text : List ℕ) (files files' : Shelf) (p : Planned) → Loads (Err status) name files files'
    → HasText files name text → reading text ≡ Ok p → Calm files.faults files'.faults → status ≡ NoMemory
Accepted-none NoMemory name text files files' p e has accepted calm = refl
Accepted-none LoadFault name text files files' p e has accepted calm = let rose = e in absurd (omega arith)
Accepted-none (PlanIs n) name text files files' p e has accepted calm =
    let first = plan_number n name text files files' e has in absurd (not_both_read (reading text) p first.cause accepted first.refused)
Accepted-none _ name text files files' p e has accepted calm = absurd e.read

pub Refused-none : (status : Status) (name text : List ℕ) (files files' : Shelf) (cause : Refusal) → Loads (Err status) name files files'
    → HasText files name text → reading text ≡ Err cause → Calm files.faults files'.faults → (status ≡ PlanIs (refusal_number cause)) ⊎ (status ≡ NoMemory)
Refused-none NoMemory name text files files' cause e has refused calm = inr refl
Refused-none LoadFault name text files files' cause e has refused calm = let rose = e in absurd (omega arith)
Refused-none (PlanIs n) name text files files' cause e has refused calm =
    inl (ap PlanIs (number_told n text cause (plan_number n name text files files' e has) refused))
Refused-none _ name text files files' cause e has refused calm = absurd e.read

pub Missing-none : (status : Status) (name : List ℕ) (files files' : Shelf) → Loads (Err status) name files files'
    → LacksText files name → (status ≡ LoadFault) ⊎ (status ≡ NoMemory)
Missing-none NoMemory name files files' e lacks = inr refl
Missing-none LoadFault name files files' e lacks = inl refl
Missing-none (PlanIs n) name files files' e lacks =
    elim e [
      | inl long ↦ absurd (told_not_long files.texts name lacks long.long)
      | inr bad ↦ absurd (told_none files.texts name bad.text lacks bad.loaded)
    ]
Missing-none _ name files files' e lacks = absurd e.read
