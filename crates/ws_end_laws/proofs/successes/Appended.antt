-- The writes of a pipe are appended to its destination, unless that fails, whatever the pipe isn't to do.
use Rattle.std.proofs.Common.{◌≡◌, ℕ, Bool, true, false, ◌||◌, is_some, nat_eq, List, [], ◌∷◌, ◌++◌, length, Option, Some, None, slice_get, refl, sym, ap, subst, ◌∙◌, arith, append_assoc, append-nil, if◌then◌else◌}
use Rattle.ws_value.specs.declared.{ids.PipeId.{PipeId}, ids.PromiseId.{PromiseId}, ids.StreamId.{StreamId}}
use Rattle.ws_value.specs.declared.value.{Plain.{Plain}, Value.{Value}}
use Rattle.ws_steps.specs.declared.calls.{Call.{Call}, Reply.{Reply}, Reply.TheVariants.{Promise}}
use Rattle.ws_steps.specs.declared.effects.Effect.{Effect}
use Rattle.ws_steps.specs.declared.effects.Effect.TheVariants.{Writable, Pipe}
use Rattle.ws_steps.specs.declared.pipes.{Phase.{Phase}, Phase.TheVariants.{Flowing, Waiting, Acting, Over}, PipeOperation.TheVariants.{WriteChunk}}
use Rattle.ws_steps.specs.declared.promises.Job.{Job}
use Rattle.ws_steps.specs.declared.writable.WritableOperation.TheVariants.{Write}
use Rattle.ws_steps.specs.Operations.{pipe_operation}
use Rattle.ws_steps.specs.Pipes as pipe
use Rattle.ws_steps.specs.Pipes.{write_chunk, write_held, write_in}
use Rattle.ws_steps.specs.Promises.{Table, next_id, next_job}
use Rattle.ws_steps.specs.Slots.{Slots, Stream, Done, nothing, empty, as_writable, as_pipe, pipe_at, ends_at, put_pipe, on_pipe_at, writable_at}
use Rattle.ws_steps.specs.Turns.{row, moments, performed}
use Rattle.ws_steps.specs.Jobs.{job_begun, begin_job}
use Rattle.ws_steps.specs.Calls.{begin, named}
use Rattle.ws_steps.specs.Run.{Entry, Called, Worked, Heard, run, step, older}
use Rattle.ws_steps.specs.Writable as writable
use Rattle.ws_steps.specs.Writable.{is_closed, is_closing, is_errored, is_erroring, write_refusal}
use Rattle.ws_steps.specs.Histories.{along, in_step}
use Rattle.ws_steps.specs.WritableHistory.{written_unless, promised_by, effect_promised}
use Rattle.ws_laws.proofs.Apart.{row-streams}
use Rattle.ws_laws.proofs.Tables.{is_same-refl, eq_numbers}
use Rattle.ws_laws.proofs.Walker.{IsHistory, performed-goes, nothing-told}
use Rattle.ws_promise_laws.proofs.Runs.{Straight}
use Rattle.ws_pipe_laws.specs.pipes.PipeHistory.{is_live, held_promise, operation_promises, effect_promises}
use Rattle.ws_pipe_laws.specs.pipes.PipeMoves.{starting}
use Rattle.ws_end_laws.proofs.hosts.Called.{place-grows, place-last}
use Rattle.ws_end_laws.proofs.hosts.Staying.{Open}
use Rattle.ws_end_laws.proofs.hosts.Doomed.{Doomed, row-doomed}
use Rattle.ws_end_laws.proofs.hosts.PipedRows.{same_first}
use Rattle.ws_end_laws.proofs.hosts.PipedRuns.{SamePlace, call-same}
use Rattle.ws_end_laws.proofs.successes.Steady.{Steady, row-steady, call-steady, begun-steady, SteadyAfter}
use Rattle.ws_end_laws.proofs.hosts.Places.{self}

-- these promises are among those

abbrev pub AllIn : List PromiseId → List PromiseId → Type 0
AllIn [] qs = Unit {0}
AllIn (d ∷ ds) qs = ((n : ℕ) × (slice_get qs n ≡ Some d)) × AllIn ds qs

all_in-grow : (ds qs more : List PromiseId) → AllIn ds qs → AllIn ds (qs ++ more)
all_in-grow [] qs more a = tt
all_in-grow (d ∷ ds) qs more a = ((a.0.0, place-grows qs more a.0.0 d a.0.1), all_in-grow ds qs more a.1)

all_in-append : (ds es qs : List PromiseId) → AllIn ds qs → AllIn es qs → AllIn (ds ++ es) qs
all_in-append [] es qs a b = b
all_in-append (d ∷ ds) es qs a b = (a.0, all_in-append ds es qs a.1 b)

-- the promises of the writes that the pipe made, and of those that were appended to the stream
pub record Writings : Type 0 where
  pub made : List PromiseId
  pub promised : List PromiseId

abbrev pub no_writings : Writings
no_writings = record { made = []; promised = [] }

abbrev pub writings_then : Writings → Writings → Writings
writings_then f g = record { made = f.made ++ g.made; promised = f.promised ++ g.promised }

pub writings-history : IsHistory no_writings writings_then
writings-history = record {
  left = λ f. refl;
  right = λ f k. record { made = append-nil f.made k; promised = append-nil f.promised k };
  assoc = λ f g h k. record { made = append_assoc f.made g.made h.made k; promised = append_assoc f.promised g.promised h.promised k };
}

module _ (p : PipeId) (i : StreamId) where
  abbrev pub effect_writings : Effect → Slots → Writings
  effect_writings e s = record { made = effect_promises p e s; promised = effect_promised i e s }

  -- the destination has failed; or each write of the pipe was appended to it; or all but the last were, which is about to be
  pub data Writing (h : Writings) (s : Slots) (es : List Effect) : Type 0 where
    Failed : Doomed (writable_at i s) → Writing h s es
    Passed : AllIn h.made h.promised → Writing h s es
    About : (v : Value) (d : PromiseId) (ms : List PromiseId) (rest : List Effect) → es ≡ Writable i (Write v d) ∷ rest → h.made ≡ ms ++ d ∷ [] → AllIn ms h.promised → Open (writable_at i s) → Writing h s es

  abbrev Next : Writings → Slots → Effect → List Effect → Type 0
  Next h s e es = Writing (writings_then h (effect_writings e s)) (row e s).slots ((row e s).caused ++ es)

  -- nothing is made
  passed-on : (h : Writings) (s : Slots) (e : Effect) (es : List Effect) → effect_promises p e s ≡ [] → AllIn h.made h.promised → Next h s e es
  passed-on h s e es none a =
      Passed (subst (λ (ds : List PromiseId). AllIn ds (h.promised ++ effect_promised i e s)) (sym (append-nil h.made) ∙ ap (λ (ds : List PromiseId). h.made ++ ds) (sym none)) (all_in-grow h.made h.promised (effect_promised i e s) a))

  -- the pipe writes

  abbrev writes : Effect
  writes = Pipe p WriteChunk

  own_made : (s : Slots) (x : pipe.Slots) → slice_get s.pipes p.0 ≡ Some x → effect_promises p writes s ≡ held_promise x.phase x.held (next_id s.promises)
  own_made s x e =
      ap (λ (b : Bool). if b then operation_promises WriteChunk (pipe_at p s) (next_id s.promises) else []) (self p)
      ∙ ap (λ (y : pipe.Slots). held_promise y.phase y.held (next_id s.promises)) (ap as_pipe e)

  -- what it causes first, where it holds a chunk and may write
  first_write : (x : pipe.Slots) (t : Table) (v : Value) (phase : Phase) → is_live phase ≡ true → (more : List Effect) × ((write_in p v (starting x t) phase).out.effects ≡ Writable x.dest (Write v (next_id t)) ∷ more)
  first_write x t v Flowing l = (_, refl)
  first_write x t v Waiting l = (_, refl)
  first_write x t v Acting l = absurd (cc)
  first_write x t v Over l = absurd (cc)

  without : pipe.Slots → pipe.Slots
  without x = record x { held = None; reading = false }

  causes_first : (s : Slots) (x : pipe.Slots) (v : Value) → slice_get s.pipes p.0 ≡ Some x → x.held ≡ Some v → is_live x.phase ≡ true → (more : List Effect) × ((row writes s).caused ≡ Writable x.dest (Write v (next_id s.promises)) ∷ more)
  unfolding row write_chunk without
  causes_first s x v e f l =
      let a : pipe.Acts = starting x s.promises in
      let same : row writes s ≡ put_pipe p s (pipe_operation p (ends_at x s) WriteChunk a) = ap (on_pipe_at (λ ends. pipe_operation p ends WriteChunk) p s) e in
      let first = first_write (without x) s.promises v x.phase l in
      (first.0, ap (λ (d : Done). d.caused) same ∙ (ap (λ (o : Option Value). (write_held p a o).out.effects) f ∙ first.1))

  none_held : (phase : Phase) (d : PromiseId) → held_promise phase None d ≡ []
  none_held phase d = grind arith

  not_live : (phase : Phase) (o : Option Value) (d : PromiseId) → is_live phase ≡ false → held_promise phase o d ≡ []
  not_live phase o d l = grind arith

  live_held : (phase : Phase) (v : Value) (d : PromiseId) → is_live phase ≡ true → held_promise phase (Some v) d ≡ d ∷ []
  live_held phase v d l = grind arith

  module _ (h : Writings) (s : Slots) (es : List Effect) (k : Steady p i s (writes ∷ es)) (a : AllIn h.made h.promised) where
    abbrev x : pipe.Slots
    x = k.x

    own-made : effect_promises p writes s ≡ held_promise x.phase x.held (next_id s.promises)
    own-made = own_made s x k.there

    same_stream : writable_at i (row writes s).slots ≡ writable_at i s
    same_stream = ap (λ (xs : List Stream). as_writable (slice_get xs i.0)) (row-streams writes s tt)

    by_held : (b : Bool) (o : Option Value) → is_live x.phase ≡ b → x.held ≡ o → Next h s writes es
    by_held b None l e = passed-on h s writes es (own-made ∙ (ap (λ (o : Option Value). held_promise x.phase o (next_id s.promises)) e ∙ none_held x.phase (next_id s.promises))) a
    by_held false (Some v) l e = passed-on h s writes es (own-made ∙ not_live x.phase x.held (next_id s.promises) l) a
    by_held true (Some v) l e =
        let d : PromiseId = next_id s.promises in
        let first = causes_first s x v k.there e l in
        let one : effect_promises p writes s ≡ d ∷ [] = own-made ∙ (ap (λ (o : Option Value). held_promise x.phase o d) e ∙ live_held x.phase v d l) in
        let open_now : Open (writable_at i s) = (k.live l).0 in
        About v d h.made (first.0 ++ es) (ap (λ (ds : List Effect). ds ++ es) first.1 ∙ ap (λ (j : StreamId). Writable j (Write v d) ∷ (first.0 ++ es)) k.dest)
        (ap (λ (ds : List PromiseId). h.made ++ ds) one) (all_in-grow h.made h.promised (effect_promised i writes s) a) (subst Open (sym same_stream) open_now)

    own-writing : Next h s writes es
    own-writing = by_held (is_live x.phase) x.held refl refl

  -- the write is appended, unless the destination has failed

  refused_open : (w : writable.Slots) (r : Plain) → write_refusal w ≡ Some r → Open w → Doomed w
  refused_open w r e o = record { failed = by w e o.closing o.closed; flight = idle w.close_request w.close_in_flight o.closing }
    where
      idle : (a b : Option PromiseId) → is_some a || is_some b ≡ false → is_some b ≡ false
      idle a b e = grind arith

      by : (w : writable.Slots) → write_refusal w ≡ Some r → is_closing w ≡ false → is_closed w.state ≡ false → is_erroring w.state || is_errored w.state ≡ true
      by w e c d = grind arith

  append_one : (h : Writings) (ms : List PromiseId) (d : PromiseId) → h.made ≡ ms ++ d ∷ [] → AllIn ms h.promised → AllIn h.made (h.promised ++ d ∷ [])
  append_one h ms d e a =
      subst (λ (ds : List PromiseId). AllIn ds (h.promised ++ d ∷ [])) (sym e)
      (all_in-append ms (d ∷ []) (h.promised ++ d ∷ []) (all_in-grow ms h.promised (d ∷ []) a) ((length h.promised, place-last h.promised d), tt))

  about-next : (h : Writings) (s : Slots) (es : List Effect) (v : Value) (d : PromiseId) (ms : List PromiseId) → Straight s (Writable i (Write v d) ∷ es) → h.made ≡ ms ++ d ∷ [] → AllIn ms h.promised → Open (writable_at i s) → Next h s (Writable i (Write v d)) es
  about-next h s es v d ms k e a o = by (write_refusal (writable_at i s)) refl
    where
      by : (refusal : Option Plain) → write_refusal (writable_at i s) ≡ refusal → Next h s (Writable i (Write v d)) es
      by (Some r) f = Failed (row-doomed i s (Writable i (Write v d)) es k (refused_open (writable_at i s) r f o))
      by None f =
          let one : effect_promised i (Writable i (Write v d)) s ≡ d ∷ [] =
          ap (λ (b : Bool). if b then promised_by (written_unless v (write_refusal (writable_at i s))) d else []) (is_same-refl i) ∙ ap (λ (r : Option Plain). promised_by (written_unless v r) d) f in
          Passed (subst (λ (ds : List PromiseId). AllIn ds (h.promised ++ effect_promised i (Writable i (Write v d)) s)) (sym (append-nil h.made))
          (subst (λ (ds : List PromiseId). AllIn h.made (h.promised ++ ds)) (sym one) (append_one h ms d e a)))

  -- each effect

  pipe-writing : (h : Writings) (s : Slots) (q : PipeId) (es : List Effect) (same : Bool) → nat_eq p.0 q.0 ≡ same → Steady p i s (Pipe q WriteChunk ∷ es) → AllIn h.made h.promised → Next h s (Pipe q WriteChunk) es
  pipe-writing h s q es false n k a = passed-on h s (Pipe q WriteChunk) es (ap (λ (b : Bool). if b then operation_promises WriteChunk (pipe_at q s) (next_id s.promises) else []) n) a
  pipe-writing h s q es true n k a =
      subst (λ (r : PipeId). Steady p i s (Pipe r WriteChunk ∷ es) → Next h s (Pipe r WriteChunk) es) (ap (λ (n : ℕ). record { 0 = n }) (eq_numbers p.0 q.0 n)) (λ k. own-writing h s es k a) k

  neither : (b : Bool) → ◌≡◌ {A = List PromiseId} (if b then [] else []) []
  neither true = refl
  neither false = refl

  passed-next : (h : Writings) (s : Slots) (e : Effect) (es : List Effect) → Steady p i s (e ∷ es) → AllIn h.made h.promised → Next h s e es
  passed-next h s (Pipe q WriteChunk) es k a = pipe-writing h s q es (nat_eq p.0 q.0) refl k a
  passed-next h s (Pipe q operation) es k a = passed-on h s (Pipe q operation) es (neither (nat_eq p.0 q.0)) a
  passed-next h s e es k a = passed-on h s e es refl a

  pub row-writing : (h : Writings) (s : Slots) (e : Effect) (es : List Effect) → Steady p i s (e ∷ es) → Writing h s (e ∷ es) → Next h s e es
  row-writing h s e es k (Failed d) = Failed (row-doomed i s e es k.straight d)
  row-writing h s e es k (Passed a) = passed-next h s e es k a
  row-writing h s e es k (About v d ms rest f g a o) =
      let same = same_first p i e (Writable i (Write v d)) es rest f in
      subst (λ (c : Effect). Straight s (c ∷ es) → Next h s c es) (sym same.0) (λ k. about-next h s es v d ms k g a o) k.straight

  -- steps

  abbrev Both : Writings → Slots → List Effect → Type 0
  Both h s es = Steady p i s es × Writing h s es

  row-both : (h : Writings) (s : Slots) (e : Effect) (es : List Effect) → Both h s (e ∷ es) → Both (writings_then h (effect_writings e s)) (row e s).slots ((row e s).caused ++ es)
  row-both h s e es k = (row-steady p i s e es k.0, row-writing h s e es k.0 k.1)

  done-writing : (h : Writings) (d : Done) → Both h d.slots d.caused → Writing (writings_then h (along no_writings writings_then effect_writings (moments d))) (performed d) []
  done-writing h d k = (performed-goes no_writings writings_then writings-history effect_writings Both row-both h d k).1

  -- between steps
  pub same-writing : (h : Writings) (s z : Slots) (cs : List Effect) → SamePlace i s z → Writing h s [] → Writing h z cs
  same-writing h s z cs e (Failed d) = Failed (subst (λ (o : Option Stream). Doomed (as_writable o)) (sym e) d)
  same-writing h s z cs e (Passed a) = Passed a
  same-writing h s z cs e (About v d ms rest f g a o) = absurd (cc)

  named-writing : (h : Writings) (reply : Reply) (s : Slots) → Writing h s [] → Writing h (named reply s) []
  named-writing h (Promise q) s w = same-writing h s (named (Promise q) s) [] refl w
  named-writing h _ s w = w

  abbrev pub step_writings : Slots → Entry → Writings
  step_writings s x = in_step no_writings writings_then effect_writings s x

  pub called-writing : (h : Writings) (c : Call) (s : Slots) → Both h (begin c s).done.slots (begin c s).done.caused → Writing (writings_then h (step_writings s (Called c))) (step s (Called c)) []
  called-writing h c s k =
      let z : Slots = performed (begin c s).done in
      same-writing _ (named (begin c s).reply z) (older (named (begin c s).reply z)) [] refl (named-writing _ (begin c s).reply z (done-writing h (begin c s).done k))

  begun-writing : (job : Option Job) (h : Writings) (s : Slots) → Writing h s [] → Writing h (job_begun s job).slots (job_begun s job).caused
  begun-writing None h s w = w
  begun-writing (Some job) h s w = same-writing h s (job_begun s (Some job)).slots (job_begun s (Some job)).caused refl w

  worked-writing : (h : Writings) (s : Slots) → Steady p i s [] → Writing h s [] → Writing (writings_then h (step_writings s Worked)) (step s Worked) []
  unfolding begin_job
  worked-writing h s k w =
      let d : Done = begin_job s in
      same-writing _ (performed d) (older (performed d)) [] refl (done-writing h d (begun-steady p i (next_job s.promises) s refl k, begun-writing (next_job s.promises) h s w))

  resting : (h : Writings) (s z : Slots) → SamePlace i s z → Writing h s [] → Writing (writings_then h (along no_writings writings_then effect_writings (moments (nothing s)))) z []
  resting h s z e w = rw (nothing-told no_writings writings_then writings-history effect_writings s, writings-history.right h) (same-writing h s z [] e w)

  pub step-writing : (h : Writings) (xs : List Entry) (x : Entry) → let s : Slots = run xs empty in SteadyAfter p i xs → Writing h s [] → Writing (writings_then h (step_writings s x)) (step s x) []
  step-writing h xs (Called c) k w =
      let s : Slots = run xs empty in
      called-writing h c s (call-steady p i xs c k, same-writing h s (begin c s).done.slots (begin c s).done.caused (call-same p i c s k.stands) w)
  step-writing h xs Worked k w = worked-writing h (run xs empty) k w
  step-writing h xs Heard k w = let s : Slots = run xs empty in resting h s (step s Heard) refl w
