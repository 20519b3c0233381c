-- What is told of the reads of byte stream i beside a run: what goes through the stream, what is asked of it, how its operations answered reads, and
-- the steps of requests that were performed.
use Rattle.std.proofs.Common.{◌≡◌, ◌⊎◌, inl, inr, ℕ, Bool, true, false, ◌||◌, if◌then◌else◌, List, [], ◌∷◌, ◌++◌, map, All, refl, sym, ap, ◌∙◌, append_assoc, append-nil}
use Rattle.std.proofs.lemmas.List.Elements.{All-nil, All-cons, All-head, All-tail}
use Rattle.ws_value.specs.declared.ids.StreamId.{StreamId}
use Rattle.ws_value.specs.declared.value.{Outcome.{Outcome}, Outcome.TheVariants.{Given, Finished, Rejected}, Plain.{Plain}, Plain.TheVariants.{Undefined}, Value.TheVariants.{Plain as PlainValue, Bytes}}
use Rattle.ws_steps.specs.declared.byte.ByteOperation.{ByteOperation}
use Rattle.ws_steps.specs.declared.effects.Effect.{Effect}
use Rattle.ws_steps.specs.declared.effects.Effect.TheVariants.{Readable, Byte, ChunkSteps, CloseSteps, CloseStepsWith, ErrorSteps}
use Rattle.ws_steps.specs.declared.readable.{ReadRequest.{ReadRequest}, ReadableOperation.{ReadableOperation}, ReadableOperation.TheVariants.{ReleaseReader}, ReadableState.{ReadableState}}
use Rattle.ws_steps.specs.Bytes as byte
use Rattle.ws_steps.specs.ByteHistory.{ByteFlow, no_bytes, bytes_then, shared_bytes, own_bytes, effect_bytes, run_bytes, value_bytes}
use Rattle.ws_steps.specs.Histories.{is_same, along, in_step, over}
use Rattle.ws_steps.specs.Operations.{byte_readable_operation, byte_operation}
use Rattle.ws_steps.specs.Run.{Entry, step, moments_in}
use Rattle.ws_steps.specs.Slots.{Slots, has_byte, byte_at}
use Rattle.ws_steps.specs.Turns.{Moment, row}
use Rattle.ws_laws.proofs.Lists.{Each}
use Rattle.ws_laws.proofs.Tables.{is_same-refl, byte_acts}
use Rattle.ws_laws.proofs.Walker.{IsHistory}
use Rattle.ws_byte_laws.proofs.OnByte as flows
use Rattle.ws_answer_laws.specs.ByteReads.{ByteReads, no_reads, reads_then, effect_byte_reads, run_byte_reads, ByteAnswer, Gets, HandedBack, Ends, Fails, Released, Answered, requests_of, bytes_got, all_bytes, released_of, answer_outcome, in_line, overtakers, if_released, shared_reads}
use Rattle.ws_answer_laws.specs.Answering.{Allows}
use Rattle.ws_answer_laws.proofs.Lines.{answered}
use Rattle.ws_answer_laws.proofs.Lawful.{IsLawful}

-- a request, with the outcome that its steps tell
pub record Done : Type 0 where
  pub request : ReadRequest
  pub outcome : Outcome

abbrev pub done_of : Answered → Done
done_of a = record { request = a.request; outcome = answer_outcome a.answer }

-- by an effect that is the steps of a request of stream i
abbrev pub effect_done : StreamId → Effect → List Done
effect_done i (ChunkSteps j request v) = if is_same i j then record { request = request; outcome = Given v } ∷ [] else []
effect_done i (CloseSteps j request) = if is_same i j then record { request = request; outcome = Finished (PlainValue Undefined) } ∷ [] else []
effect_done i (CloseStepsWith j request b) = if is_same i j then record { request = request; outcome = Finished (Bytes b) } ∷ [] else []
effect_done i (ErrorSteps j request e) = if is_same i j then record { request = request; outcome = Rejected e } ∷ [] else []
effect_done i _ = []

-- those that stand on the agenda
abbrev pub to_come : StreamId → List Effect → List Done
to_come i [] = []
to_come i (e ∷ es) = effect_done i e ++ to_come i es

pub come-append : (i : StreamId) (xs ys : List Effect) → to_come i (xs ++ ys) ≡ to_come i xs ++ to_come i ys
come-append i [] ys = refl
come-append i (x ∷ xs) ys = ap (λ (ds : List Done). effect_done i x ++ ds) (come-append i xs ys) ∙ sym (append_assoc (effect_done i x) (to_come i xs) (to_come i ys))

-- how an effect answers a request; the error steps of a reader that goes tell that it was released
abbrev failed : Bool → Plain → ByteAnswer
failed gone e = if gone then Released else Fails e

abbrev pub answer_by : Bool → Effect → List Answered
answer_by gone (ChunkSteps j request v) = record { request = request; answer = Gets (value_bytes v); overtook = false } ∷ []
answer_by gone (CloseSteps j request) = record { request = request; answer = Ends; overtook = false } ∷ []
answer_by gone (CloseStepsWith j request b) = record { request = request; answer = HandedBack b; overtook = false } ∷ []
answer_by gone (ErrorSteps j request e) = record { request = request; answer = failed gone e; overtook = false } ∷ []
answer_by gone _ = []

abbrev pub answers : Bool → List Effect → List Answered
answers gone [] = []
answers gone (e ∷ es) = answer_by gone e ++ answers gone es

pub answers-requests : (gone : Bool) (es : List Effect) → requests_of (answers gone es) ≡ answered es
answers-requests gone [] = refl
answers-requests gone (ChunkSteps j q v ∷ es) = ap (λ (rs : List ReadRequest). q ∷ rs) (answers-requests gone es)
answers-requests gone (CloseSteps j q ∷ es) = ap (λ (rs : List ReadRequest). q ∷ rs) (answers-requests gone es)
answers-requests gone (CloseStepsWith j q b ∷ es) = ap (λ (rs : List ReadRequest). q ∷ rs) (answers-requests gone es)
answers-requests gone (ErrorSteps j q e ∷ es) = ap (λ (rs : List ReadRequest). q ∷ rs) (answers-requests gone es)
answers-requests gone (e ∷ es) = answers-requests gone es

one-stays : (e : Effect) (more : List Answered) → released_of more ≡ [] → released_of (answer_by false e ++ more) ≡ []
one-stays (ChunkSteps j q v) more n = n
one-stays (CloseSteps j q) more n = n
one-stays (CloseStepsWith j q b) more n = n
one-stays (ErrorSteps j q e) more n = n
one-stays e more n = n

pub answers-stay : (es : List Effect) → released_of (answers false es) ≡ []
answers-stay [] = refl
answers-stay (e ∷ es) = one-stays e (answers false es) (answers-stay es)

-- steps that are lawful are told as they are answered
one-done : (me : StreamId) (state : ReadableState) (x : Plain) (e : Effect) → IsLawful me state x e → map done_of (answer_by false e) ≡ effect_done me e
one-done me state x (ChunkSteps j q (Bytes b)) l = rw (← l, is_same-refl) refl
one-done me state x (ChunkSteps j q (PlainValue r)) l = absurd l
one-done me state x (CloseSteps j q) l = rw (← l.0, is_same-refl) refl
one-done me state x (CloseStepsWith j q b) l = rw (← l.0, is_same-refl) refl
one-done me state x (ErrorSteps j q r) l = rw (← l.0, is_same-refl) refl
one-done me state x e l = refl

pub done-append : (xs ys : List Answered) → map done_of (xs ++ ys) ≡ map done_of xs ++ map done_of ys
done-append [] ys = refl
done-append (x ∷ xs) ys = ap (λ (ds : List Done). done_of x ∷ ds) (done-append xs ys)

pub answers-done : (me : StreamId) (state : ReadableState) (x : Plain) (es : List Effect) → Each (IsLawful me state x) es → map done_of (answers false es) ≡ to_come me es
answers-done me state x [] l = refl
answers-done me state x (e ∷ es) l = done-append (answer_by false e) (answers false es) ∙ (rw (one-done me state x e l.0, answers-done me state x es l.1) refl)

abbrev pub AllAllowed : byte.Slots → List Answered → Type 0
AllAllowed x xs = All (λ a. Allows x a.answer) xs

one-allowed : (me : StreamId) (x : byte.Slots) (e : Effect) (more : List Answered) → IsLawful me x.stream.state x.stream.stored_error e → AllAllowed x more → AllAllowed x (answer_by false e ++ more)
one-allowed me x (ChunkSteps j q v) more k all = All-cons (λ a. Allows x a.answer) (record { request = q; answer = Gets (value_bytes v); overtook = false }) more tt all
one-allowed me x (CloseSteps j q) more k all = All-cons (λ a. Allows x a.answer) (record { request = q; answer = Ends; overtook = false }) more k.1 all
one-allowed me x (CloseStepsWith j q b) more k all = All-cons (λ a. Allows x a.answer) (record { request = q; answer = HandedBack b; overtook = false }) more k.1 all
one-allowed me x (ErrorSteps j q r) more k all = All-cons (λ a. Allows x a.answer) (record { request = q; answer = Fails r; overtook = false }) more k.1 all
one-allowed me x e more k all = all

pub answers-allowed : (me : StreamId) (x : byte.Slots) (es : List Effect) → Each (IsLawful me x.stream.state x.stream.stored_error) es → AllAllowed x (answers false es)
answers-allowed me x [] l = All-nil (λ a. Allows x a.answer)
answers-allowed me x (e ∷ es) l = one-allowed me x e (answers false es) l.0 (answers-allowed me x es l.1)

-- where an operation is a read that overtakes, it answers that read last

abbrev pub mark_last : List Answered → List Answered
mark_last [] = []
mark_last (x ∷ []) = record x { overtook = true } ∷ []
mark_last (x ∷ y ∷ ys) = x ∷ mark_last (y ∷ ys)

abbrev pub mark : List ReadRequest → List Answered → List Answered
mark [] xs = xs
mark (q ∷ qs) xs = mark_last xs

last-done : (xs : List Answered) → map done_of (mark_last xs) ≡ map done_of xs
last-done [] = refl
last-done (x ∷ []) = refl
last-done (x ∷ y ∷ ys) = ap (λ (ds : List Done). done_of x ∷ ds) (last-done (y ∷ ys))

pub mark-done : (qs : List ReadRequest) (xs : List Answered) → map done_of (mark qs xs) ≡ map done_of xs
mark-done [] xs = refl
mark-done (q ∷ qs) xs = last-done xs

last-requests : (xs : List Answered) → requests_of (mark_last xs) ≡ requests_of xs
last-requests [] = refl
last-requests (x ∷ []) = refl
last-requests (x ∷ y ∷ ys) = ap (λ (rs : List ReadRequest). x.request ∷ rs) (last-requests (y ∷ ys))

pub mark-requests : (qs : List ReadRequest) (xs : List Answered) → requests_of (mark qs xs) ≡ requests_of xs
mark-requests [] xs = refl
mark-requests (q ∷ qs) xs = last-requests xs

last-released : (xs : List Answered) → released_of (mark_last xs) ≡ released_of xs
last-released [] = refl
last-released (x ∷ []) = refl
last-released (x ∷ y ∷ ys) = ap (λ (rs : List ReadRequest). if_released x.request x.answer ++ rs) (last-released (y ∷ ys))

pub mark-released : (qs : List ReadRequest) (xs : List Answered) → released_of (mark qs xs) ≡ released_of xs
mark-released [] xs = refl
mark-released (q ∷ qs) xs = last-released xs

module _ (z : byte.Slots) where
  abbrev IsAllowed : Answered → Type 0
  IsAllowed a = Allows z a.answer

  last-allowed : (xs : List Answered) → AllAllowed z xs → AllAllowed z (mark_last xs)
  last-allowed [] a = a
  last-allowed (x ∷ []) a = All-cons IsAllowed (record x { overtook = true }) [] (All-head IsAllowed x [] a) (All-nil IsAllowed)
  last-allowed (x ∷ y ∷ ys) a = All-cons IsAllowed x (mark_last (y ∷ ys)) (All-head IsAllowed x (y ∷ ys) a) (last-allowed (y ∷ ys) (All-tail IsAllowed x (y ∷ ys) a))

  pub mark-allowed : (qs : List ReadRequest) (xs : List Answered) → AllAllowed z xs → AllAllowed z (mark qs xs)
  mark-allowed [] xs a = a
  mark-allowed (q ∷ qs) xs a = last-allowed xs a

-- none overtook
abbrev Unmarked : List Answered → Type 0
Unmarked [] = Unit {0}
Unmarked (x ∷ xs) = (x.overtook ≡ false) × Unmarked xs

one-unmarked : (gone : Bool) (e : Effect) (more : List Answered) → Unmarked more → Unmarked (answer_by gone e ++ more)
one-unmarked gone (ChunkSteps j q v) more u = (refl, u)
one-unmarked gone (CloseSteps j q) more u = (refl, u)
one-unmarked gone (CloseStepsWith j q b) more u = (refl, u)
one-unmarked gone (ErrorSteps j q e) more u = (refl, u)
one-unmarked gone e more u = u

answers-unmarked : (gone : Bool) (es : List Effect) → Unmarked (answers gone es)
answers-unmarked gone [] = tt
answers-unmarked gone (e ∷ es) = one-unmarked gone e (answers gone es) (answers-unmarked gone es)

unmarked-line : (xs : List Answered) → Unmarked xs → in_line xs ≡ xs
unmarked-line [] u = refl
unmarked-line (x ∷ xs) u = rw (u.0, unmarked-line xs u.1) refl

unmarked-none : (xs : List Answered) → Unmarked xs → overtakers xs ≡ []
unmarked-none [] u = refl
unmarked-none (x ∷ xs) u = rw (u.0, unmarked-none xs u.1) refl

-- the last of these is marked
record Marks (q : ReadRequest) (first : List ReadRequest) (xs : List Answered) : Type 0 where
  lined : requests_of (in_line (mark_last xs)) ≡ first
  overtook : requests_of (overtakers (mark_last xs)) ≡ q ∷ []

marks-last : (q : ReadRequest) (first : List ReadRequest) (xs : List Answered) → Unmarked xs → requests_of xs ≡ first ++ q ∷ [] → Marks q first xs
marks-last q [] [] u e = absurd (cc)
marks-last q (r ∷ rs) [] u e = absurd (cc)
marks-last q [] (x ∷ []) u e = record { lined = refl; overtook = e }
marks-last q (r ∷ []) (x ∷ []) u e = absurd (cc)
marks-last q (r ∷ s ∷ rs) (x ∷ []) u e = absurd (cc)
marks-last q [] (x ∷ y ∷ ys) u e = absurd (cc)
marks-last q (r ∷ rs) (x ∷ y ∷ ys) u e =
    let head : x.request ≡ r = cc in
    let tail : requests_of (y ∷ ys) ≡ rs ++ q ∷ [] = cc in
    let k : Marks q rs (y ∷ ys) = marks-last q rs (y ∷ ys) u.1 tail in
    record { lined = rw (u.0, head) (ap (λ (zs : List ReadRequest). r ∷ zs) k.lined); overtook = rw u.0 k.overtook }

-- what is in line of the answers of an operation, and what overtook
pub record Marked (first over : List ReadRequest) (xs : List Answered) : Type 0 where
  pub lined : requests_of (in_line xs) ≡ first
  pub overtook : requests_of (overtakers xs) ≡ over

pub answers-marked : (gone : Bool) (es : List Effect) (first over : List ReadRequest) → answered es ≡ first ++ over → (over ≡ []) ⊎ ((q : ReadRequest) × (over ≡ q ∷ [])) → Marked first over (mark over (answers gone es))
answers-marked gone es first over e (inl n) =
    let xs : List Answered = answers gone es in
    let u : Unmarked xs = answers-unmarked gone es in
    let all : requests_of xs ≡ first = answers-requests gone es ∙ (e ∙ (ap (λ (rs : List ReadRequest). first ++ rs) n ∙ append-nil first)) in
    rw n (record { lined = rw (unmarked-line xs u) all; overtook = rw (unmarked-none xs u) refl })
answers-marked gone es first over e (inr n) =
    let xs : List Answered = answers gone es in
    let k : Marks n.0 first xs = marks-last n.0 first xs (answers-unmarked gone es) (answers-requests gone es ∙ (e ∙ ap (λ (rs : List ReadRequest). first ++ rs) n.1)) in
    rw n.1 (record { lined = k.lined; overtook = k.overtook })

-- the bytes of these steps
abbrev pub outcome_bytes : Outcome → List ℕ
outcome_bytes (Given v) = value_bytes v
outcome_bytes (Finished v) = value_bytes v
outcome_bytes _ = []

abbrev pub bytes_of : List Done → List ℕ
bytes_of [] = []
bytes_of (d ∷ ds) = outcome_bytes d.outcome ++ bytes_of ds

pub bytes_of-append : (ds es : List Done) → bytes_of (ds ++ es) ≡ bytes_of ds ++ bytes_of es
bytes_of-append [] es = refl
bytes_of-append (d ∷ ds) es = ap (λ (b : List ℕ). outcome_bytes d.outcome ++ b) (bytes_of-append ds es) ∙ sym (append_assoc (outcome_bytes d.outcome) (bytes_of ds) (bytes_of es))

one-bytes : (w : ByteAnswer) (b c : List ℕ) → b ≡ c → outcome_bytes (answer_outcome w) ++ b ≡ bytes_got w ++ c
one-bytes (Gets d) b c e = ap (λ (x : List ℕ). d ++ x) e
one-bytes (HandedBack d) b c e = ap (λ (x : List ℕ). d ++ x) e
one-bytes Ends b c e = e
one-bytes (Fails r) b c e = e
one-bytes Released b c e = e

pub answers-bytes : (xs : List Answered) → bytes_of (map done_of xs) ≡ all_bytes xs
answers-bytes [] = refl
answers-bytes (a ∷ xs) = one-bytes a.answer (bytes_of (map done_of xs)) (all_bytes xs) (answers-bytes xs)

-- what goes through the stream is told by these steps
if_bytes : (same : Bool) (d : Done) → bytes_of (if same then d ∷ [] else []) ≡ (if same then record no_bytes { given = outcome_bytes d.outcome } else no_bytes).given
if_bytes true d = append-nil (outcome_bytes d.outcome)
if_bytes false d = refl

if_none : (same : Bool) (f : ByteFlow) → f.given ≡ [] → (if same then f else no_bytes).given ≡ []
if_none true f n = n
if_none false f n = refl

pub no_steps : (same : Bool) (d : Done) → outcome_bytes d.outcome ≡ [] → [] ≡ bytes_of (if same then d ∷ [] else [])
no_steps true d n = rw n refl
no_steps false d n = refl

pub effect-given : (i : StreamId) (e : Effect) (s : Slots) → (effect_bytes i e s).given ≡ bytes_of (effect_done i e)
effect-given i (Readable j op) s = if_none (is_same i j) (shared_bytes op (byte_at j s) (byte_at j (row (Readable j op) s).slots)) refl
effect-given i (Byte j op) s = if_none (is_same i j) (own_bytes op (byte_at j s) (byte_at j (row (Byte j op) s).slots)) refl
effect-given i (ChunkSteps j q v) s = sym (if_bytes (is_same i j) (record { request = q; outcome = Given v }))
effect-given i (CloseStepsWith j q b) s = sym (if_bytes (is_same i j) (record { request = q; outcome = Finished (Bytes b) }))
effect-given i (CloseSteps j q) s = no_steps (is_same i j) (record { request = q; outcome = Finished (PlainValue Undefined) }) refl
effect-given i (ErrorSteps j q e) s = no_steps (is_same i j) (record { request = q; outcome = Rejected e }) refl
effect-given i _ s = refl

-- the history

pub record Told : Type 0 where
  pub flow : ByteFlow
  pub reads : ByteReads
  pub decided : List Answered
  pub done : List Done

abbrev pub no_told : Told
no_told = record { flow = no_bytes; reads = no_reads; decided = []; done = [] }

abbrev pub told_then : Told → Told → Told
told_then f g = record { flow = bytes_then f.flow g.flow; reads = reads_then f.reads g.reads; decided = f.decided ++ g.decided; done = f.done ++ g.done }

abbrev pub is_release : ReadableOperation → Bool
is_release ReleaseReader = true
is_release _ = false

-- the answers of an operation of the stream
abbrev pub shared_decided : StreamId → ReadableOperation → Slots → List Answered
shared_decided i op s =
    if has_byte i s then mark (shared_reads op (byte_at i s)).overtaking (answers (is_release op) (byte_readable_operation i op (byte_acts i s)).out.effects) else []

abbrev pub own_decided : StreamId → ByteOperation → Slots → List Answered
own_decided i op s = if has_byte i s then answers false (byte_operation i op (byte_acts i s)).out.effects else []

abbrev pub effect_decided : StreamId → Effect → Slots → List Answered
effect_decided i (Readable j op) s = if is_same i j then shared_decided j op s else []
effect_decided i (Byte j op) s = if is_same i j then own_decided j op s else []
effect_decided i _ s = []

abbrev pub told : StreamId → Effect → Slots → Told
told i e s = record { flow = effect_bytes i e s; reads = effect_byte_reads i e s; decided = effect_decided i e s; done = effect_done i e }

-- the steps of requests in a run, and the answers of its operations
abbrev pub step_done : StreamId → Slots → Entry → List Done
step_done i s x = in_step [] ◌++◌ (λ e s. effect_done i e) s x

abbrev pub run_done : StreamId → List Entry → Slots → List Done
run_done i xs s = over [] ◌++◌ (step_done i) xs s

abbrev pub step_decided : StreamId → Slots → Entry → List Answered
step_decided i s x = in_step [] ◌++◌ (effect_decided i) s x

abbrev pub run_decided : StreamId → List Entry → Slots → List Answered
run_decided i xs s = over [] ◌++◌ (step_decided i) xs s

along-parts : (i : StreamId) (ms : List Moment) → along no_told told_then (told i) ms
    ≡ record { flow = along no_bytes bytes_then (effect_bytes i) ms; reads = along no_reads reads_then (effect_byte_reads i) ms; decided = along [] ◌++◌ (effect_decided i) ms; done = along [] ◌++◌ (λ e s. effect_done i e) ms }
along-parts i [] = refl
along-parts i (m ∷ ms) = ap (told_then (told i m.effect m.found)) (along-parts i ms)

pub over-parts : (i : StreamId) (xs : List Entry) (s : Slots) → over no_told told_then (in_step no_told told_then (told i)) xs s ≡ record { flow = run_bytes i xs s; reads = run_byte_reads i xs s; decided = run_decided i xs s; done = run_done i xs s }
over-parts i [] s = refl
over-parts i (x ∷ xs) s = rw (along-parts i (moments_in s x), over-parts i xs (step s x)) refl

or_none : (b : Bool) → b || false ≡ b
or_none true = refl
or_none false = refl

or_assoc : (a b c : Bool) → (a || b) || c ≡ a || (b || c)
or_assoc true b c = refl
or_assoc false b c = refl

pub same_reads : (f : ByteReads) → reads_then f no_reads ≡ f
same_reads f = λ k. record { asked = append-nil f.asked k; lined = append-nil f.lined k; overtaking = append-nil f.overtaking k; released = append-nil f.released k; spilled = or_none f.spilled k }

pub reads-assoc : (f g h : ByteReads) → reads_then (reads_then f g) h ≡ reads_then f (reads_then g h)
reads-assoc f g h = λ k. record {
  asked = append_assoc f.asked g.asked h.asked k;
  lined = append_assoc f.lined g.lined h.lined k;
  overtaking = append_assoc f.overtaking g.overtaking h.overtaking k;
  released = append_assoc f.released g.released h.released k;
  spilled = or_assoc f.spilled g.spilled h.spilled k;
}

pub is_history : IsHistory no_told told_then
is_history = record {
  left = λ h. refl;
  right = λ h k. record { flow = flows.is_history.right h.flow k; reads = same_reads h.reads k; decided = append-nil h.decided k; done = append-nil h.done k };
  assoc = λ f g h k. record { flow = flows.is_history.assoc f.flow g.flow h.flow k; reads = reads-assoc f.reads g.reads h.reads k; decided = append_assoc f.decided g.decided h.decided k; done = append_assoc f.done g.done h.done k };
}
