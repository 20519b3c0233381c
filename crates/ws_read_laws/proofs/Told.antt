-- The reads of a readable stream at each moment: what is asked, the steps of requests that are performed and that are still to be, and
-- what each operation of the stream, and the steps of its requests, keep.
use Rattle.std.proofs.Common.{◌≡◌, ◌⊎◌, inl, inr, ⊎_elim, if◌then◌else◌, ℕ, ◌+◌, Bool, true, false, is_some, List, [], ◌∷◌, ◌++◌, refl, sym, ap, ◌∙◌, append_assoc, append-nil, arith}
use Rattle.std.proofs.lemmas.List.Elements.{All-nil}
use Rattle.ws_value.specs.declared.{ids.StreamId.{StreamId}}
use Rattle.ws_value.specs.declared.value.{Value.{Value}}
use Rattle.ws_steps.specs.declared.{effects.Effect.{Effect}, effects.Effect.TheVariants.{Readable, ChunkSteps, CloseSteps, ErrorSteps}, effects.Owner.{Owner}}
use Rattle.ws_steps.specs.declared.{readable.ReadRequest.{ReadRequest}, readable.ReadableOperation.{ReadableOperation}, readable.ReadableOperation.TheVariants.{InitializeReader, ReleaseReader}}
use Rattle.ws_steps.specs.declared.{readable.SizeBy.{SizeBy}}
use Rattle.ws_steps.specs.Effects.{Out}
use Rattle.ws_steps.specs.Histories.{along, in_step, over}
use Rattle.ws_steps.specs.Operations.{readable_operation}
use Rattle.ws_steps.specs.Queues.{is_empty}
use Rattle.ws_steps.specs.Readable as readable
use Rattle.ws_steps.specs.Slots.{Slots, has_readable, readable_at, no_readable}
use Rattle.ws_steps.specs.Turns.{Moment}
use Rattle.ws_steps.specs.Run.{Entry, step, moments_in}
use Rattle.ws_steps.specs.ReadableHistory.{Flow, no_flow, flow_then, operation_flow, effect_flow, run_flow, Reads, no_reads, reads_then, operation_reads, effect_reads, run_reads, Answered, requests_of}
use Rattle.ws_steps.specs.Laws.{Allows}
use Rattle.ws_laws.proofs.OnReadable.{Holders, holders, AreSteps, all_seen, all_seen-append}
use Rattle.ws_laws.proofs.ReadableDoes.{readable-does, is_taking, ends-do}
use Rattle.ws_laws.proofs.Tables.{is_same-refl, readable_acts}
use Rattle.ws_laws.proofs.Walker.{IsHistory}
use Rattle.ws_read_laws.proofs.Holding.{readers, sources, teeing, holding_few, owners, Clear, Gives}
use Rattle.ws_readable_laws.proofs.Runs as flows
use Rattle.ws_read_laws.proofs.Marks.{Done, effect_done, Mark, Stands, Steps, Aborts, Looks, marks, pending, pending-append, shown, shown-cause, shown-close, shown-error, given_by, given_of, given_of-append, IsIn, in_first, in_last, in_either, in_midst}
use Rattle.ws_read_laws.proofs.Line.{Line, same_reads, has_after, operation-line, operation-reader}
use Rattle.ws_steps.specs.Histories.{is_same}

-- what goes through the stream, what is asked of it, how its operations answered requests, and the steps of requests that are performed
pub record Told : Type 0 where
  pub flow : Flow
  pub reads : Reads
  pub decided : List Done
  pub done : List Done

abbrev pub no_told : Told
no_told = record { flow = no_flow; reads = no_reads; decided = []; done = [] }

abbrev pub told_then : Told → Told → Told
told_then f g =
    record { flow = flow_then f.flow g.flow; reads = reads_then f.reads g.reads; decided = f.decided ++ g.decided; done = f.done ++ g.done }

-- the steps that an operation of the stream causes
abbrev pub operation_decided : StreamId → ReadableOperation → Slots → List Done
operation_decided i operation s = if has_readable i s then shown i (readable_operation i operation (readable_acts i s)).out else []

abbrev pub effect_decided : StreamId → Effect → Slots → List Done
effect_decided i (Readable j operation) s = if is_same i j then operation_decided i operation s else []
effect_decided i _ s = []

abbrev pub told : StreamId → Effect → Slots → Told
told i e s = record { flow = effect_flow i e s; reads = effect_reads i e s; decided = effect_decided i e s; done = effect_done i e }

-- the steps of requests in a run
abbrev pub step_done : StreamId → Slots → Entry → List Done
step_done i s x = in_step [] ◌++◌ (λ e s. effect_done i e) s x

abbrev pub run_done : StreamId → List Entry → Slots → List Done
run_done i xs s = over [] ◌++◌ (step_done i) xs s

-- and those that operations decided on
abbrev pub step_decided : StreamId → Slots → Entry → List Done
step_decided i s x = in_step [] ◌++◌ (effect_decided i) s x

abbrev pub run_decided : StreamId → List Entry → Slots → List Done
run_decided i xs s = over [] ◌++◌ (step_decided i) xs s

along-parts : (i : StreamId) (ms : List Moment) → along no_told told_then (told i) ms
    ≡ record { flow = along no_flow flow_then (effect_flow i) ms; reads = along no_reads reads_then (effect_reads i) ms; decided = along [] ◌++◌ (effect_decided i) ms; done = along [] ◌++◌ (λ e s. effect_done i e) ms }
along-parts i [] = refl
along-parts i (m ∷ ms) = ap (told_then (told i m.effect m.found)) (along-parts i ms)

pub over-parts : (i : StreamId) (xs : List Entry) (s : Slots) → over no_told told_then (in_step no_told told_then (told i)) xs s ≡ record { flow = run_flow i xs s; reads = run_reads i xs s; decided = run_decided i xs s; done = run_done i xs s }
over-parts i [] s = refl
over-parts i (x ∷ xs) s = rw (along-parts i (moments_in s x), over-parts i xs (step s x)) refl

reads-left : (h : Reads) → reads_then no_reads h ≡ h
reads-left h = refl

pub reads-assoc : (f g h : Reads) → reads_then (reads_then f g) h ≡ reads_then f (reads_then g h)
reads-assoc f g h = λ i. record { asked = append_assoc f.asked g.asked h.asked i; released = append_assoc f.released g.released h.released i }

pub is_history : IsHistory no_told told_then
is_history = record {
  left = λ h k. record { flow = flows.is_history.left h.flow k; reads = h.reads; decided = h.decided; done = h.done };
  right = λ h k. record { flow = flows.is_history.right h.flow k; reads = same_reads h.reads k; decided = append-nil h.decided k; done = append-nil h.done k };
  assoc = λ f g h k. record { flow = flows.is_history.assoc f.flow g.flow h.flow k; reads = reads-assoc f.reads g.reads h.reads k; decided = append_assoc f.decided g.decided h.decided k; done = append_assoc f.done g.done h.done k };
}

-- All that operations decided on was performed or is still to be, and its chunks in this order
pub record Held (i : StreamId) (h : Told) (o : Holders) (r : readable.Slots) (ms : List Mark) : Type 0 where
  pub line : Line h.reads h.decided r.state r.stored_error r.reader r.requests r.queue
  pub given : given_of h.done ≡ h.flow.given
  pub covers : (d : Done) → IsIn d h.decided → IsIn d (h.done ++ pending ms)
  pub chunks : given_of (h.done ++ pending ms) ≡ given_of h.decided
  pub clear : Clear (owners i o) (is_some r.reader) ms

-- where there is none, no reader, no pipe and no tee has it, and nothing was asked of it
pub record Unmade (i : StreamId) (h : Told) (o : Holders) : Type 0 where
  pub free : readers i o.locks + (sources i o.pipes + teeing i o.tees) ≡ 0
  pub unasked : h.reads.asked ≡ []

-- an operation

-- the steps of requests alone
abbrev OnlySteps : List Mark → Type 0
OnlySteps [] = Unit {0}
OnlySteps (Stands operation ∷ ms) = ⊥
OnlySteps (Steps d ∷ ms) = OnlySteps ms
OnlySteps (Aborts ∷ ms) = ⊥
OnlySteps (Looks ∷ ms) = ⊥

only-append : (ms ns : List Mark) → OnlySteps ms → OnlySteps ns → OnlySteps (ms ++ ns)
only-append [] ns a b = b
only-append (Stands operation ∷ ms) ns a b = absurd a
only-append (Aborts ∷ ms) ns a b = absurd a
only-append (Looks ∷ ms) ns a b = absurd a
only-append (Steps d ∷ ms) ns a b = only-append ms ns a b

only-clear : (n : ℕ) (locked : Bool) (ms ns : List Mark) → OnlySteps ms → Clear n locked ns → Clear n locked (ms ++ ns)
only-clear n locked [] ns a c = c
only-clear n locked (Stands operation ∷ ms) ns a c = absurd a
only-clear n locked (Aborts ∷ ms) ns a c = absurd a
only-clear n locked (Looks ∷ ms) ns a c = absurd a
only-clear n locked (Steps d ∷ ms) ns a c = only-clear n locked ms ns a c

module _ (i : StreamId) where
  only-steps : (operation : ReadableOperation) (s : Slots) → OnlySteps (all_seen (marks i) (readable_operation i operation (readable_acts i s)).out.effects)
  only-steps operation s =
      readable-does (λ (x : Out). OnlySteps (all_seen (marks i) x.effects)) i (record {
        settle = λ x p o h. h;
        pull = λ x h. more x _ tt h;
        cancel = λ x r p h. more x _ tt h;
        chunk = λ x r v h. more x (ChunkSteps i r v) (rw (is_same-refl i) tt) h;
        close = λ x r h. more x (CloseSteps i r) (rw (is_same-refl i) tt) h;
        error = λ x r e h. more x (ErrorSteps i r e) (rw (is_same-refl i) tt) h;
      }) operation (readable_acts i s) tt
    where
      more : (x : Out) (e : Effect) → OnlySteps (marks i e) → OnlySteps (all_seen (marks i) x.effects) → OnlySteps (all_seen (marks i) (x.effects ++ e ∷ []))
      more x e o h = rw (all_seen-append, append-nil (marks i e)) (only-append (all_seen (marks i) x.effects) (marks i e) h o)

  -- one that isn't to take gives none
  no-chunks : (operation : ReadableOperation) (s : Slots) → is_taking operation ≡ false → given_of (shown i (readable_operation i operation (readable_acts i s)).out) ≡ []
  no-chunks operation s n =
      ends-do (λ (x : Out). given_of (shown i x) ≡ []) i (record {
        settle = λ x p o h. h;
        pull = λ x h. rw (shown-cause, append-nil) h;
        cancel = λ x r p h. rw (shown-cause, append-nil) h;
        close = λ x r h. rw (shown-close, given_of-append, h) refl;
        error = λ x r e h. rw (shown-error, given_of-append, h) refl;
      }) operation (readable_acts i s) n refl

  -- its chunks stand before none that are still to be given
  gives-first : (ds ps es : List Done) → (given_of es ≡ []) ⊎ (given_of ps ≡ []) → given_of (ds ++ (es ++ ps)) ≡ given_of (ds ++ ps) ++ given_of es
  gives-first ds ps es (inl n) = rw (given_of-append ds (es ++ ps), given_of-append es ps, given_of-append ds ps, n) (sym (append-nil (given_of ds ++ given_of ps)))
  gives-first ds ps es (inr n) = rw (given_of-append ds (es ++ ps), given_of-append es ps, given_of-append ds ps, n, append-nil (given_of es), append-nil (given_of ds)) refl

  by-taking : (operation : ReadableOperation) (s : Slots) (ms : List Mark) (takes : Bool) → takes ≡ is_taking operation → Gives operation ms
      → (given_of (shown i (readable_operation i operation (readable_acts i s)).out) ≡ []) ⊎ (given_of (pending ms) ≡ [])
  by-taking operation s ms true e g = inr (g (sym e))
  by-taking operation s ms false e g = inl (no-chunks operation s (sym e))

  pub operation-held : (operation : ReadableOperation) (s : Slots) (h : Told) (ms : List Mark) → has_readable i s ≡ true → Held i h (holders s) (readable_at i s) (Stands operation ∷ ms)
      → let a : readable.Acts = readable_operation i operation (readable_acts i s) in
      Held i (told_then h (record { flow = operation_flow operation (readable_at i s); reads = operation_reads operation (readable_at i s); decided = shown i a.out; done = [] })) (holders s) a.slots
      (all_seen (marks i) a.out.effects ++ ms)
  operation-held operation s h ms there k =
      let r : readable.Slots = readable_at i s in
      let a : readable.Acts = readable_operation i operation (readable_acts i s) in
      let es : List Done = shown i a.out in
      let before : Line h.reads (h.decided ++ []) r.state r.stored_error r.reader r.requests r.queue = rw (append-nil h.decided) k.line in
      record {
        line = operation-line i operation (is_empty ms) h.reads h.decided (readable_acts i s) k.clear.0 before;
        given = rw (append-nil h.done, flows.no_gives operation r, append-nil h.flow.given) k.given;
        covers = λ d is.
            rw (append-nil h.done, pending-append (all_seen (marks i) a.out.effects) ms)
            (⊎_elim (λ old. in_midst d h.done es (pending ms) (k.covers d old)) (λ new. in_last d h.done (es ++ pending ms) (in_first d es (pending ms) new)) (in_either d h.decided es is));
        chunks =
            rw (append-nil h.done, pending-append (all_seen (marks i) a.out.effects) ms)
            (gives-first h.done (pending ms) es (by-taking operation s ms (is_taking operation) refl k.clear.1.0)
            ∙ (ap (λ (vs : List Value). vs ++ given_of es) k.chunks ∙ sym (given_of-append h.decided es)));
        clear = rw (operation-reader i operation (readable_acts i s)) (only-clear (owners i (holders s)) (has_after operation (is_some r.reader)) (all_seen (marks i) a.out.effects) ms (only-steps operation s) k.clear.1.1);
      }

  -- there is no such stream
  pub absent-held : (operation : ReadableOperation) (h : Told) (o : Holders) (ms : List Mark) → Held i h o no_readable (Stands operation ∷ ms) → Held i h o no_readable ms
  absent-held (InitializeReader closed) h o ms k = let none = k.clear.0 in cc
  absent-held ReleaseReader h o [] k = record { line = k.line; given = k.given; covers = k.covers; chunks = k.chunks; clear = let n = k.clear.1.1 in omega arith }
  absent-held ReleaseReader h o (m ∷ ms) k = let none = k.clear.0 in cc
  absent-held operation h o ms k = record { line = k.line; given = k.given; covers = k.covers; chunks = k.chunks; clear = k.clear.1.1 }

  -- the steps of a request

  performed-held : (d : Done) (f : Flow) (h : Told) (o : Holders) (r : readable.Slots) (ms : List Mark) → f.given ≡ given_by d.outcome → Held i h o r (Steps d ∷ ms)
      → Held i (told_then h (record { flow = f; reads = no_reads; decided = []; done = d ∷ [] })) o r ms
  performed-held d f h o r ms g k = record {
    line = rw (append-nil h.decided, same_reads h.reads) k.line;
    covers = λ e is. rw (append_assoc h.done (d ∷ []) (pending ms)) (k.covers e (rw (append-nil h.decided) at is));
    chunks = rw (append_assoc h.done (d ∷ []) (pending ms), append-nil h.decided) k.chunks;
    given = given_of-append h.done (d ∷ []) ∙ (rw (append-nil (given_by d.outcome), k.given, g) refl);
    clear = k.clear;
  }

  pub steps-held : (e : Effect) → AreSteps i e → (s : Slots) (h : Told) (o : Holders) (r : readable.Slots) (ms : List Mark) → Held i h o r (marks i e ++ ms) → Held i (told_then h (told i e s)) o r ms
  steps-held (ChunkSteps j request v) same s h o r ms k = rw same (performed-held _ (record no_flow { given = v ∷ [] }) h o r ms refl (rw same at k))
  steps-held (CloseSteps j request) same s h o r ms k = rw same (performed-held _ no_flow h o r ms refl (rw same at k))
  steps-held (ErrorSteps j request e) same s h o r ms k = rw same (performed-held _ no_flow h o r ms refl (rw same at k))
  steps-held _ same s h o r ms k = absurd same

  pub steps-unmade : (e : Effect) → AreSteps i e → (s : Slots) (h : Told) (o : Holders) → Unmade i h o → Unmade i (told_then h (told i e s)) o
  steps-unmade (ChunkSteps j request v) same s h o u = record { free = u.free; unasked = append-nil h.reads.asked ∙ u.unasked }
  steps-unmade (CloseSteps j request) same s h o u = record { free = u.free; unasked = append-nil h.reads.asked ∙ u.unasked }
  steps-unmade (ErrorSteps j request e) same s h o u = record { free = u.free; unasked = append-nil h.reads.asked ∙ u.unasked }
  steps-unmade _ same s h o u = absurd same

  -- a new stream

  none_answered : (xs : List Answered) (rs : List ReadRequest) → requests_of xs ++ rs ≡ [] → xs ≡ []
  none_answered [] rs e = refl
  none_answered (x ∷ xs) rs e = cc

  pub made-held : (owner : Owner) (hwm : ℕ) (size : SizeBy) (h : Told) (o : Holders) → Unmade i h o → Held i h o no_readable [] → Held i h o (readable.set_up owner hwm size) []
  made-held owner hwm size h o u k =
      let none : k.line.answered ≡ [] = none_answered k.line.answered [] (k.line.order ∙ u.unasked) in
      record {
        line = record {
          answered = [];
          order = sym u.unasked;
          told = rw none at k.line.told;
          allowed = All-nil (λ a. Allows (readable.set_up owner hwm size).state a.answer);
          released = rw none at k.line.released;
          waits = record { ended = λ e. refl; served = λ e. refl; locked = λ e. refl };
        };
        given = k.given;
        covers = k.covers;
        chunks = k.chunks;
        clear = let n = u.free in let m = holding_few i o.pipes in omega (arith, n, m);
      }
