-- What is seen of the agenda: the operations of a readable stream, the steps of its read requests, by which these are answered, and the
-- operations of pipes that may cause an operation.
use Rattle.std.proofs.Common.{◌≡◌, ◌⊎◌, inl, inr, ⊎_elim, List, [], ◌∷◌, ◌++◌, map, if◌then◌else◌, refl, sym, ap, ◌∙◌, append-nil, append_assoc}
use Rattle.ws_value.specs.declared.ids.StreamId.{StreamId}
use Rattle.ws_value.specs.declared.value.{Outcome.{Outcome}, Outcome.TheVariants.{Given, Finished, Rejected}, Plain.{Plain}, Plain.TheVariants.{Undefined}, Value.{Value}, Value.TheVariants.{Plain as PlainValue}}
use Rattle.ws_steps.specs.declared.{effects.Effect.{Effect}, effects.Effect.TheVariants.{Readable, Pipe, Signal, ChunkSteps, CloseSteps, ErrorSteps}, readable.ReadRequest.{ReadRequest}}
use Rattle.ws_steps.specs.declared.readable.ReadableOperation.{ReadableOperation}
use Rattle.ws_steps.specs.declared.{pipes.PipeOperation.{PipeOperation}, pipes.PipeOperation.TheVariants.{KeepChunk, ReadEnded, PartSettled, NoParts, Abort}, pipes.SignalOperation.{SignalOperation}, pipes.SignalOperation.TheVariants.{Trigger}}
use Rattle.ws_steps.specs.Effects.{Out, cause, cause_all}
use Rattle.ws_steps.specs.Histories.{is_same}
use Rattle.ws_steps.specs.Readable.{close_all, error_all}
use Rattle.ws_steps.specs.ReadableHistory.{ReadAnswer, Ends, Answered}
use Rattle.ws_steps.specs.Laws.{read_outcome}
use Rattle.ws_laws.proofs.OnReadable.{all_seen, all_seen-append}
use Rattle.ws_laws.proofs.Tables.{is_same-refl}

-- a request, with the outcome that its steps tell
pub record Done : Type 0 where
  pub request : ReadRequest
  pub outcome : Outcome

abbrev pub done_of : Plain → Answered → Done
done_of e a = record { request = a.request; outcome = read_outcome e a.answer }

-- by an effect that is the steps of a request of stream i
abbrev pub effect_done : StreamId → Effect → List Done
effect_done i (ChunkSteps j request v) = if is_same i j then record { request = request; outcome = Given v } ∷ [] else []
effect_done i (CloseSteps j request) = if is_same i j then record { request = request; outcome = Finished (PlainValue Undefined) } ∷ [] else []
effect_done i (ErrorSteps j request e) = if is_same i j then record { request = request; outcome = Rejected e } ∷ [] else []
effect_done i _ = []

-- an operation that stands, the steps of a request, the abort of a pipe or a signal that aborts pipes, or another operation of a pipe
pub data Mark : Type 0 where
  Stands : ReadableOperation → Mark
  Steps : Done → Mark
  Aborts : Mark
  Looks : Mark

-- some operations of a pipe cause nothing
abbrev pub pipe_mark : PipeOperation → List Mark
pipe_mark (KeepChunk v) = []
pipe_mark ReadEnded = []
pipe_mark (PartSettled o) = []
pipe_mark NoParts = []
pipe_mark (Abort r) = Aborts ∷ []
pipe_mark _ = Looks ∷ []

abbrev pub signal_mark : SignalOperation → List Mark
signal_mark (Trigger r) = Aborts ∷ []
signal_mark _ = []

abbrev pub marks : StreamId → Effect → List Mark
marks i (Readable j operation) = if is_same i j then Stands operation ∷ [] else []
marks i (Pipe p operation) = pipe_mark operation
marks i (Signal a operation) = signal_mark operation
marks i e = map Steps (effect_done i e)

-- the steps that are still to be performed
abbrev pub pending : List Mark → List Done
pending [] = []
pending (Stands operation ∷ ms) = pending ms
pending (Steps d ∷ ms) = d ∷ pending ms
pending (Aborts ∷ ms) = pending ms
pending (Looks ∷ ms) = pending ms

pub pending-append : (ms ns : List Mark) → pending (ms ++ ns) ≡ pending ms ++ pending ns
pending-append [] ns = refl
pending-append (Stands operation ∷ ms) ns = pending-append ms ns
pending-append (Aborts ∷ ms) ns = pending-append ms ns
pending-append (Looks ∷ ms) ns = pending-append ms ns
pending-append (Steps d ∷ ms) ns = ap (λ (ds : List Done). d ∷ ds) (pending-append ms ns)

-- those that an operation of stream i has caused so far
abbrev pub shown : StreamId → Out → List Done
shown i x = pending (all_seen (marks i) x.effects)

pub shown-all : (i : StreamId) (es : List Effect) (x : Out) → shown i (cause_all es x) ≡ shown i x ++ pending (all_seen (marks i) es)
shown-all i es x = ap pending (all_seen-append (marks i) x.effects es) ∙ pending-append (all_seen (marks i) x.effects) (all_seen (marks i) es)

pub shown-cause : (i : StreamId) (e : Effect) (x : Out) → shown i (cause e x) ≡ shown i x ++ pending (marks i e)
shown-cause i e x = shown-all i (e ∷ []) x ∙ ap (λ (ms : List Mark). shown i x ++ pending ms) (append-nil (marks i e))

pub shown-chunk : (i : StreamId) (r : ReadRequest) (v : Value) (x : Out) → shown i (cause (ChunkSteps i r v) x) ≡ shown i x ++ record { request = r; outcome = Given v } ∷ []
shown-chunk i r v x = rw (shown-cause, is_same-refl) refl

pub shown-close : (i : StreamId) (r : ReadRequest) (x : Out) → shown i (cause (CloseSteps i r) x) ≡ shown i x ++ record { request = r; outcome = Finished (PlainValue Undefined) } ∷ []
shown-close i r x = rw (shown-cause, is_same-refl) refl

pub shown-error : (i : StreamId) (r : ReadRequest) (e : Plain) (x : Out) → shown i (cause (ErrorSteps i r e) x) ≡ shown i x ++ record { request = r; outcome = Rejected e } ∷ []
shown-error i r e x = rw (shown-cause, is_same-refl) refl

-- all these requests are answered so
abbrev pub with_answer : ReadAnswer → List ReadRequest → List Answered
with_answer w [] = []
with_answer w (r ∷ rs) = record { request = r; answer = w } ∷ with_answer w rs

pub close_all-shown : (i : StreamId) (e : Plain) (rs : List ReadRequest) → pending (all_seen (marks i) (close_all i rs)) ≡ map (done_of e) (with_answer Ends rs)
close_all-shown i e [] = refl
close_all-shown i e (r ∷ rs) = rw is_same-refl (ap (λ (ds : List Done). record { request = r; outcome = Finished (PlainValue Undefined) } ∷ ds) (close_all-shown i e rs))

pub error_all-shown : (i : StreamId) (e f : Plain) (w : ReadAnswer) (rs : List ReadRequest) → read_outcome f w ≡ Rejected e → pending (all_seen (marks i) (error_all i e rs)) ≡ map (done_of f) (with_answer w rs)
error_all-shown i e f w [] h = refl
error_all-shown i e f w (r ∷ rs) h = rw (is_same-refl, h) (ap (λ (ds : List Done). record { request = r; outcome = Rejected e } ∷ ds) (error_all-shown i e f w rs h))

-- the chunks of these steps
abbrev pub given_by : Outcome → List Value
given_by (Given v) = v ∷ []
given_by _ = []

abbrev pub given_of : List Done → List Value
given_of [] = []
given_of (d ∷ ds) = given_by d.outcome ++ given_of ds

pub given_of-append : (ds es : List Done) → given_of (ds ++ es) ≡ given_of ds ++ given_of es
given_of-append [] es = refl
given_of-append (d ∷ ds) es = ap (λ (vs : List Value). given_by d.outcome ++ vs) (given_of-append ds es) ∙ sym (append_assoc (given_by d.outcome) (given_of ds) (given_of es))

-- whether these steps are among those
abbrev pub IsIn : Done → List Done → Type 0
IsIn d [] = ⊥
IsIn d (e ∷ es) = (e ≡ d) ⊎ IsIn d es

pub in_first : (d : Done) (ds es : List Done) → IsIn d ds → IsIn d (ds ++ es)
in_first d [] es h = absurd h
in_first d (x ∷ xs) es (inl e) = inl e
in_first d (x ∷ xs) es (inr h) = inr (in_first d xs es h)

pub in_last : (d : Done) (ds es : List Done) → IsIn d es → IsIn d (ds ++ es)
in_last d [] es h = h
in_last d (x ∷ xs) es h = inr (in_last d xs es h)

pub in_either : (d : Done) (ds es : List Done) → IsIn d (ds ++ es) → IsIn d ds ⊎ IsIn d es
in_either d [] es h = inr h
in_either d (x ∷ xs) es (inl e) = inl (inl e)
in_either d (x ∷ xs) es (inr h) = ⊎_elim (λ a. inl (inr a)) (λ b. inr b) (in_either d xs es h)

-- more stand in the midst
pub in_midst : (d : Done) (ds es fs : List Done) → IsIn d (ds ++ fs) → IsIn d (ds ++ (es ++ fs))
in_midst d ds es fs h = ⊎_elim (λ a. in_first d ds (es ++ fs) a) (λ b. in_last d ds (es ++ fs) (in_last d es fs b)) (in_either d ds fs h)
