-- What the host hears of close algorithms (`closes_were_heard`).
use Rattle.std.proofs.Common.{◌≡◌, ℕ, ◌+◌, zero, suc, arith, length-append, List, [], ◌∷◌, ◌++◌, length, refl, sym, ap, ◌∙◌, zero-add}
use Rattle.ws_value.specs.declared.ids.StreamId.{StreamId}
use Rattle.ws_value.specs.declared.value.Plain.TheVariants.{Undefined}
use Rattle.ws_value.specs.declared.value.Value.{Value}
use Rattle.ws_value.specs.declared.value.Value.TheVariants.{Plain as PlainValue}
use Rattle.ws_steps.specs.declared.calls.Event.{Event}
use Rattle.ws_steps.specs.Slots.{empty}
use Rattle.ws_steps.specs.Histories.{run_events}
use Rattle.ws_steps.specs.WritableHistory.{run_writes, heard_closes}
use Rattle.ws_steps.specs.Laws.{ClosesWereHeard}
use Rattle.ws_laws.proofs.Halves.{halved-empty}
use Rattle.ws_laws.proofs.Ended.{ended-empty}
use Rattle.ws_writable_laws.proofs.Hears.{Ear, of_events}
use Rattle.ws_writable_laws.proofs.Heard.{run-heard}

-- a mark for each close
abbrev marks : ℕ → List Value
marks zero = []
marks (suc n) = PlainValue Undefined ∷ marks n

marks-append : (m n : ℕ) → marks (m + n) ≡ marks m ++ marks n
marks-append zero n = ap marks (zero-add n)
marks-append (suc m) n = let e : suc m + n ≡ suc (m + n) = omega arith in rw e (ap (λ vs. PlainValue Undefined ∷ vs) (marks-append m n))

length-marks : (n : ℕ) → length (marks n) ≡ n
length-marks zero = refl
length-marks (suc n) = let m = length-marks n in omega arith

hears_closes : Ear
hears_closes = record { write = λ v. []; close = marks 1; history = λ h. marks h.closes; none = refl; after = λ f g. marks-append f.closes g.closes; acts = λ v. refl; closes = refl; quiet = λ operation w u. grind arith }

closes-heard : (i : StreamId) (es : List Event) → length (of_events i hears_closes es) ≡ heard_closes i es
unfolding hears_closes
closes-heard i [] = refl
closes-heard i (e ∷ es) = let c = closes-heard i es in grind (arith, length-append, length-marks)

pub closes_were_heard : ClosesWereHeard
unfolding hears_closes
closes_were_heard entries i = λ host.
    sym (length-marks (run_writes i entries empty).closes) ∙ (sym (ap length (run-heard i hears_closes entries empty (halved-empty, ended-empty) host)) ∙ closes-heard i (run_events entries empty))
