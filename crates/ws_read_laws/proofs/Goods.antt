-- Effects that may be caused before others: operations of the stream by which no reader comes or goes, and no steps of its requests.
use Rattle.std.proofs.Common.{◌≡◌, ℕ, ◌≤◌, Bool, true, false, if◌then◌else◌, map, List, [], ◌∷◌, ◌++◌, refl, ap, ◌∙◌, append_assoc, arith}
use Rattle.ws_value.specs.declared.ids.StreamId.{StreamId}
use Rattle.ws_value.specs.declared.value.{Outcome.TheVariants.{Given, Finished, Rejected}, Plain.TheVariants.{Undefined}, Value.TheVariants.{Plain as PlainValue}}
use Rattle.ws_steps.specs.declared.effects.Effect.{Effect}
use Rattle.ws_steps.specs.declared.effects.Effect.TheVariants.{Readable as OnReadable, Pipe as OnPipe, Signal as OnSignal, ChunkSteps, CloseSteps, ErrorSteps}
use Rattle.ws_steps.specs.declared.pipes.PipeOperation.{PipeOperation}
use Rattle.ws_steps.specs.declared.pipes.SignalOperation.{SignalOperation}
use Rattle.ws_steps.specs.declared.readable.ReadableOperation.{ReadableOperation}
use Rattle.ws_steps.specs.declared.readable.ReadableOperation.TheVariants.{InitializeReader, ReleaseReader}
use Rattle.ws_steps.specs.Histories.{is_same}
use Rattle.ws_steps.specs.Queues.{is_empty}
use Rattle.ws_laws.proofs.Lists.{Each}
use Rattle.ws_laws.proofs.OnReadable.{all_seen}
use Rattle.ws_laws.proofs.Order.{Calm}
use Rattle.ws_laws.proofs.ReadableDoes.{is_taking}
use Rattle.ws_promise_laws.proofs.Tokens.{one_if}
use Rattle.ws_read_laws.proofs.First.{IsNoInit}
use Rattle.ws_read_laws.proofs.Holding.{Clear}
use Rattle.ws_read_laws.proofs.Line.{Finds, has_after}
use Rattle.ws_read_laws.proofs.Marks.{Done, given_by, Mark, Stands, Steps, Aborts, Looks, pipe_mark, signal_mark, marks, pending, given_of}

module _ (i : StreamId) where
  -- where no steps stand that give a chunk, none is still to be given

  pipe_pending : (operation : PipeOperation) (ms : List Mark) → pending (pipe_mark operation ++ ms) ≡ pending ms
  pipe_pending operation ms = grind arith

  signal_pending : (operation : SignalOperation) (ms : List Mark) → pending (signal_mark operation ++ ms) ≡ pending ms
  signal_pending operation ms = grind arith

  stands_pending : (operation : ReadableOperation) (same : Bool) (ms : List Mark) → pending ((if same then Stands operation ∷ [] else []) ++ ms) ≡ pending ms
  stands_pending operation true ms = refl
  stands_pending operation false ms = refl

  -- steps that give no chunk
  one_given : (d : Done) → given_by d.outcome ≡ [] → (same : Bool) (ms : List Mark) → given_of (pending (map Steps (if same then d ∷ [] else []) ++ ms)) ≡ given_of (pending ms)
  one_given d n true ms = rw n refl
  one_given d n false ms = refl

  pub calm_given : (es : List Effect) → Calm i es → given_of (pending (all_seen (marks i) es)) ≡ []
  calm_given [] c = refl
  calm_given (OnReadable j operation ∷ es) c = ap given_of (stands_pending operation (is_same i j) (all_seen (marks i) es)) ∙ calm_given es c.1
  calm_given (OnPipe p operation ∷ es) c = ap given_of (pipe_pending operation (all_seen (marks i) es)) ∙ calm_given es c.1
  calm_given (OnSignal a operation ∷ es) c = ap given_of (signal_pending operation (all_seen (marks i) es)) ∙ calm_given es c.1
  calm_given (ChunkSteps j request v ∷ es) c = rw c.0 (calm_given es c.1)
  calm_given (CloseSteps j request ∷ es) c = one_given (record { request = request; outcome = Finished (PlainValue Undefined) }) refl (is_same i j) (all_seen (marks i) es) ∙ calm_given es c.1
  calm_given (ErrorSteps j request r ∷ es) c = one_given (record { request = request; outcome = Rejected r }) refl (is_same i j) (all_seen (marks i) es) ∙ calm_given es c.1
  calm_given (e ∷ es) c = calm_given es c.1

  -- where no reader is to come and somebody has the stream, there is one

  abbrev NoInits : List Mark → Type 0
  NoInits [] = Unit {0}
  NoInits (Stands (InitializeReader closed) ∷ ms) = ⊥
  NoInits (m ∷ ms) = NoInits ms

  stands_no : (j : StreamId) (operation : ReadableOperation) (same : Bool) (ms : List Mark) → IsNoInit (OnReadable j operation) → NoInits ms → NoInits ((if same then Stands operation ∷ [] else []) ++ ms)
  stands_no j operation true ms n k = grind (arith, n, k)
  stands_no j operation false ms n k = k

  pipe_no : (operation : PipeOperation) (ms : List Mark) → NoInits ms → NoInits (pipe_mark operation ++ ms)
  pipe_no operation ms k = grind (arith, k)

  signal_no : (operation : SignalOperation) (ms : List Mark) → NoInits ms → NoInits (signal_mark operation ++ ms)
  signal_no operation ms k = grind (arith, k)

  steps_no : (d : Done) (same : Bool) (ms : List Mark) → NoInits ms → NoInits (map Steps (if same then d ∷ [] else []) ++ ms)
  steps_no d true ms k = k
  steps_no d false ms k = k

  pub no_inits : (es : List Effect) → Each IsNoInit es → NoInits (all_seen (marks i) es)
  no_inits [] n = tt
  no_inits (OnReadable j operation ∷ es) n = stands_no j operation (is_same i j) (all_seen (marks i) es) n.0 (no_inits es n.1)
  no_inits (OnPipe p operation ∷ es) n = pipe_no operation (all_seen (marks i) es) (no_inits es n.1)
  no_inits (OnSignal a operation ∷ es) n = signal_no operation (all_seen (marks i) es) (no_inits es n.1)
  no_inits (ChunkSteps j request v ∷ es) n = steps_no (record { request = request; outcome = Given v }) (is_same i j) (all_seen (marks i) es) (no_inits es n.1)
  no_inits (CloseSteps j request ∷ es) n = steps_no (record { request = request; outcome = Finished (PlainValue Undefined) }) (is_same i j) (all_seen (marks i) es) (no_inits es n.1)
  no_inits (ErrorSteps j request r ∷ es) n = steps_no (record { request = request; outcome = Rejected r }) (is_same i j) (all_seen (marks i) es) (no_inits es n.1)
  no_inits (e ∷ es) n = no_inits es n.1

  some_reader : (n : ℕ) (locked : Bool) → 1 ≤ n → n ≤ one_if locked → locked ≡ true
  some_reader n true a b = refl
  some_reader n false a b = absurd (omega (arith, a, b))

  pub reader_there : (n : ℕ) (locked : Bool) (ms : List Mark) → NoInits ms → 1 ≤ n → Clear n locked ms → locked ≡ true
  reader_there n locked [] k a c = some_reader n locked a c
  reader_there n locked (Stands (InitializeReader closed) ∷ ms) k a c = absurd k
  reader_there n locked (Stands ReleaseReader ∷ ms) k a c = let wrong : false ≡ true = reader_there n false ms k a c.1.1 in cc
  reader_there n locked (Stands operation ∷ ms) k a c = reader_there n locked ms k a c.1.1
  reader_there n locked (Steps d ∷ ms) k a c = reader_there n locked ms k a c
  reader_there n locked (Aborts ∷ ms) k a c = reader_there n locked ms k a c.1
  reader_there n locked (Looks ∷ ms) k a c = some_reader n locked a c.1

  module _ (n : ℕ) (locked : Bool) (ms : List Mark) where
    pub record IsGood (operation : ReadableOperation) : Type 0 where
      pub finds : (alone : Bool) → Finds operation locked alone
      pub stays : has_after operation locked ≡ locked
      pub gives : is_taking operation ≡ true → given_of (pending ms) ≡ []

    abbrev pub Good : Effect → Type 0
    Good (OnReadable j operation) = is_same i j ≡ true → IsGood operation
    Good (OnPipe p operation) = ⊥
    Good (OnSignal a operation) = ⊥
    Good (ChunkSteps j request v) = ⊥
    Good (CloseSteps j request) = ⊥
    Good (ErrorSteps j request e) = ⊥
    Good _ = Unit {0}

    pub good_pending : (es : List Effect) → Each Good es → pending (all_seen (marks i) es ++ ms) ≡ pending ms
    good_pending [] g = refl
    good_pending (OnReadable j operation ∷ es) g =
        ap pending (append_assoc (marks i (OnReadable j operation)) (all_seen (marks i) es) ms)
        ∙ (stands_pending operation (is_same i j) (all_seen (marks i) es ++ ms) ∙ good_pending es g.1)
    good_pending (OnPipe p operation ∷ es) g = absurd (g.0)
    good_pending (OnSignal a operation ∷ es) g = absurd (g.0)
    good_pending (ChunkSteps j request v ∷ es) g = absurd (g.0)
    good_pending (CloseSteps j request ∷ es) g = absurd (g.0)
    good_pending (ErrorSteps j request e ∷ es) g = absurd (g.0)
    good_pending (e ∷ es) g = good_pending es g.1

    one_clear : (operation : ReadableOperation) (same : Bool) (ns : List Mark) → (same ≡ true → IsGood operation) → pending ns ≡ pending ms → Clear n locked ns
        → Clear n locked ((if same then Stands operation ∷ [] else []) ++ ns)
    one_clear operation true ns g e c =
        let good = g refl in
        (good.finds (is_empty ns), ((λ t. ap given_of e ∙ good.gives t), rw good.stays c))
    one_clear operation false ns g e c = c

    pub good_clear : (es : List Effect) → Each Good es → Clear n locked ms → Clear n locked (all_seen (marks i) es ++ ms)
    good_clear [] g c = c
    good_clear (OnReadable j operation ∷ es) g c =
        rw (append_assoc (marks i (OnReadable j operation)) (all_seen (marks i) es) ms)
        (one_clear operation (is_same i j) (all_seen (marks i) es ++ ms) g.0 (good_pending es g.1) (good_clear es g.1 c))
    good_clear (OnPipe p operation ∷ es) g c = absurd (g.0)
    good_clear (OnSignal a operation ∷ es) g c = absurd (g.0)
    good_clear (ChunkSteps j request v ∷ es) g c = absurd (g.0)
    good_clear (CloseSteps j request ∷ es) g c = absurd (g.0)
    good_clear (ErrorSteps j request e ∷ es) g c = absurd (g.0)
    good_clear (e ∷ es) g c = good_clear es g.1 c
