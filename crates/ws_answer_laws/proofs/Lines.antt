-- The requests that the effects of an operation answer, in order, and then those that wait.
use Rattle.std.proofs.Common.{◌≡◌, List, [], ◌∷◌, ◌++◌, refl, sym, ap, ◌∙◌, append_assoc, append-nil}
use Rattle.ws_value.specs.declared.{ids.StreamId.{StreamId}, value.Plain.{Plain}}
use Rattle.ws_steps.specs.declared.effects.Effect.{Effect}
use Rattle.ws_steps.specs.declared.effects.Effect.TheVariants.{ChunkSteps, CloseSteps, CloseStepsWith, ErrorSteps}
use Rattle.ws_steps.specs.declared.readable.{ReadRequest.{ReadRequest}}
use Rattle.ws_steps.specs.Bytes.{Acts, with_requests, causing, wait}
use Rattle.ws_steps.specs.Readable as readable

-- the request of which an effect performs steps
abbrev pub answered_by : Effect → List ReadRequest
answered_by (ChunkSteps j q v) = q ∷ []
answered_by (CloseSteps j q) = q ∷ []
answered_by (CloseStepsWith j q b) = q ∷ []
answered_by (ErrorSteps j q e) = q ∷ []
answered_by _ = []

abbrev pub answered : List Effect → List ReadRequest
answered [] = []
answered (e ∷ es) = answered_by e ++ answered es

-- those that are answered, and then those that wait
abbrev pub line : Acts → List ReadRequest
line a = answered a.out.effects ++ a.slots.stream.requests

pub answered-append : (xs ys : List Effect) → answered (xs ++ ys) ≡ answered xs ++ answered ys
answered-append [] ys = refl
answered-append (x ∷ xs) ys = ap (λ (rs : List ReadRequest). answered_by x ++ rs) (answered-append xs ys) ∙ sym (append_assoc (answered_by x) (answered xs) (answered ys))

pub answered-closes : (me : StreamId) (qs : List ReadRequest) → answered (readable.close_all me qs) ≡ qs
answered-closes me [] = refl
answered-closes me (q ∷ qs) = ap (λ (rs : List ReadRequest). q ∷ rs) (answered-closes me qs)

pub answered-errors : (me : StreamId) (e : Plain) (qs : List ReadRequest) → answered (readable.error_all me e qs) ≡ qs
answered-errors me e [] = refl
answered-errors me e (q ∷ qs) = ap (λ (rs : List ReadRequest). q ∷ rs) (answered-errors me e qs)

-- all are answered
pub all-answered : (effects more : List Effect) (qs : List ReadRequest) → answered more ≡ qs → answered (effects ++ more) ++ [] ≡ answered effects ++ qs
all-answered effects more qs n = append-nil (answered (effects ++ more)) ∙ (answered-append effects more ∙ ap (λ (rs : List ReadRequest). answered effects ++ rs) n)

-- none is
pub none-answered : (effects : List Effect) (e : Effect) → answered_by e ≡ [] → answered (effects ++ e ∷ []) ≡ answered effects
none-answered effects e n =
    answered-append effects (e ∷ []) ∙ (ap (λ (rs : List ReadRequest). answered effects ++ (rs ++ [])) n ∙ append-nil (answered effects))

-- one is
pub one-answered : (effects : List Effect) (e : Effect) (q : ReadRequest) → answered_by e ≡ q ∷ [] → answered (effects ++ e ∷ []) ≡ answered effects ++ q ∷ []
one-answered effects e q n = answered-append effects (e ∷ []) ∙ ap (λ (rs : List ReadRequest). answered effects ++ (rs ++ [])) n

-- a request is answered last, and the others of these are answered and wait
pub record Overtakes (q : ReadRequest) (before : List ReadRequest) (a : Acts) : Type 0 where
  pub first : List ReadRequest
  pub answers : answered a.out.effects ≡ first ++ q ∷ []
  pub lined : first ++ a.slots.stream.requests ≡ before

abbrev pub Keeps : Acts → Acts → Type 0
Keeps a b = line b ≡ line a

pub quiet : (e : Effect) (a : Acts) → answered_by e ≡ [] → Keeps a (causing e a)
quiet e a n = ap (λ (rs : List ReadRequest). rs ++ a.slots.stream.requests) (none-answered a.out.effects e n)

-- the first of the requests is answered
pub gives : (e : Effect) (q : ReadRequest) (qs : List ReadRequest) (a : Acts) → answered_by e ≡ q ∷ [] → a.slots.stream.requests ≡ q ∷ qs → Keeps a (causing e (with_requests qs a))
gives e q qs a n r =
    ap (λ (rs : List ReadRequest). rs ++ qs) (one-answered a.out.effects e q n)
    ∙ (append_assoc (answered a.out.effects) (q ∷ []) qs ∙ ap (λ (rs : List ReadRequest). answered a.out.effects ++ rs) (sym r))

-- a request that is asked is answered at once, where none waits
pub asks : (e : Effect) (q : ReadRequest) (a : Acts) → answered_by e ≡ q ∷ [] → a.slots.stream.requests ≡ [] → line (causing e a) ≡ line a ++ q ∷ []
asks e q a n r =
    ap (λ (rs : List ReadRequest). rs ++ a.slots.stream.requests) (one-answered a.out.effects e q n)
    ∙ (ap (λ (rs : List ReadRequest). (answered a.out.effects ++ q ∷ []) ++ rs) r
    ∙ (append-nil (answered a.out.effects ++ q ∷ [])
    ∙ (ap (λ (rs : List ReadRequest). rs ++ q ∷ []) (sym (append-nil (answered a.out.effects)))
    ∙ ap (λ (rs : List ReadRequest). (answered a.out.effects ++ rs) ++ q ∷ []) (sym r))))

-- it waits
pub waits : (q : ReadRequest) (a : Acts) → line (wait q a) ≡ line a ++ q ∷ []
waits q a = sym (append_assoc (answered a.out.effects) a.slots.stream.requests (q ∷ []))
