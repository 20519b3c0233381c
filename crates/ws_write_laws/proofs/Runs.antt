-- The promises of the writes that ended, and those of the others, over every run (`each_write_is_settled`).
use Rattle.std.proofs.Common.{◌≡◌, nat_eq, Bool, true, false, is_some, List, [], ◌∷◌, ◌++◌, length, Option, Some, None, slice_get, refl, sym, ap, subst, ◌∙◌, arith, append-nil, append_assoc}
use Rattle.ws_value.specs.declared.ids.PromiseId.{PromiseId}
use Rattle.ws_value.specs.declared.ids.StreamId.{StreamId}
use Rattle.ws_steps.specs.declared.{calls.Call.{Call}, effects.Effect.{Effect}, effects.Effect.TheVariants.{Writable}}
use Rattle.ws_steps.specs.declared.writable.WritableOperation.{WritableOperation}
use Rattle.ws_steps.specs.declared.writable.WritableOperation.TheVariants as names
use Rattle.ws_steps.specs.Operations.{writable_operation}
use Rattle.ws_steps.specs.Promises.{Table, fresh, after_next_job, watch}
use Rattle.ws_steps.specs.Readable as readable
use Rattle.ws_steps.specs.Writable as writable
use Rattle.ws_steps.specs.Writable.{Acts, has_ended}
use Rattle.ws_steps.specs.Slots.{Slots, Stream, ReadableStream, WritableStream, nothing, empty, with_promises, on_writable, put_writable, has_writable, writable_at, as_writable, no_writable}
use Rattle.ws_steps.specs.Turns.{row, Moment}
use Rattle.ws_steps.specs.MakingCalls.{add_stream}
use Rattle.ws_steps.specs.Calls.{begin}
use Rattle.ws_steps.specs.Run.{Entry, after_event, step, run, moments_in}
use Rattle.ws_steps.specs.Histories.{is_same, along, in_step, over}
use Rattle.ws_steps.specs.WritableHistory.{Writes, no_writes, writes_then, operation_writes, effect_writes, step_writes, run_writes, operation_promised, effect_promised, step_promised, run_promised}
use Rattle.ws_steps.specs.Laws.{AllFulfilled, EachWriteIsSettled}
use Rattle.ws_laws.proofs.Begin.{begin-makes}
use Rattle.ws_laws.proofs.Outcomes.{Keeps, keeps-entries, keeps-same, keeps-then, keeps-fresh, keeps-settle, keeps-tell, keeps-next, keeps-watch}
use Rattle.ws_laws.proofs.Rows.{row-changes}
use Rattle.ws_laws.proofs.Stays.{keeps-changes}
use Rattle.ws_laws.proofs.Tables.{is_same-refl, eq_numbers, unequal_numbers, place_last, place_before, no_stream, writable_there, no_writable_there, writable_acts, on_writable-same}
use Rattle.ws_laws.proofs.Walker as walker
use Rattle.ws_laws.proofs.Walker.{IsHistory, GoesUntold, RestsUntold}
use Rattle.ws_laws.proofs.WritableDoes.{writable-does}
use Rattle.ws_writable_laws.proofs.Shape.{core_of}
use Rattle.ws_writable_laws.proofs.Operations.{writes-nothing, same_once}
use Rattle.ws_writable_laws.proofs.Agenda.{Kept, found, idle, Elsewhere, row-leaves, elsewhere_told, same_or, row-kept}
use Rattle.ws_writable_laws.proofs.Runs.{goes, rests, none_made, resting, writes-assoc, nothing-writes}
use Rattle.ws_promise_laws.proofs.Runs.{none_goes_astray}
use Rattle.ws_laws.proofs.Straight.{straight_before}
use Rattle.ws_write_laws.proofs.Lines.{line}
use Rattle.ws_write_laws.proofs.Lined.{Lined, lined-later, Knows, operation-lined, none_left}
use Rattle.ws_steps.specs.Slots.{ByteStream}
use Rattle.ws_steps.specs.Bytes as byte

-- what is known where an operation stands at the front of the agenda
knows : (i : StreamId) (h : Writes) (operation : WritableOperation) (es : List Effect) (s : Slots) → Kept i h s (Writable i operation ∷ es) → Knows h operation (writable_at i s)
knows i h (names.StartSettled o) es s k = let f = found i (names.StartSettled o) h es s (λ u. u) k in let one = same_once i in (grind arith, f.shape.ended)
knows i h (names.WriteSettled o) es s k = let f = found i (names.WriteSettled o) h es s (λ u. u) k in let one = same_once i in (grind arith, grind arith)
knows i h (names.CloseSettled o) es s k = let f = found i (names.CloseSettled o) h es s (λ u. u) k in let one = same_once i in (grind arith, grind arith)
knows i h _ es s k = tt

-- the history of the writes, and that of their promises
pub record Both : Type 0 where
  pub writes : Writes
  pub promised : List PromiseId

abbrev pub no_both : Both
no_both = record { writes = no_writes; promised = [] }

abbrev pub both_then : Both → Both → Both
both_then f g = record { writes = writes_then f.writes g.writes; promised = f.promised ++ g.promised }

abbrev pub both_told : StreamId → Effect → Slots → Both
both_told i e s = record { writes = effect_writes i e s; promised = effect_promised i e s }

pub is_history : IsHistory no_both both_then
is_history = record {
  left = λ f k. record { writes = nothing-writes f.writes k; promised = f.promised };
  right = λ f k. record { writes = writes-nothing f.writes k; promised = append-nil f.promised k };
  assoc = λ f g h k. record { writes = writes-assoc f.writes g.writes h.writes k; promised = append_assoc f.promised g.promised h.promised k };
}

pub along_both : (i : StreamId) (ms : List Moment) → along no_both both_then (both_told i) ms ≡ record { writes = along no_writes writes_then (effect_writes i) ms; promised = along [] ◌++◌ (effect_promised i) ms }
along_both i [] = refl
along_both i (m ∷ ms) = ap (both_then (both_told i m.effect m.found)) (along_both i ms)

-- at each moment, where nothing went astray so far
pub record Holds (i : StreamId) (h : Both) (s : Slots) (es : List Effect) : Type 0 where
  pub kept : Kept i h.writes s es
  pub lined : s.promises.astray ≡ false → Lined h.writes h.promised (slice_get s.streams i.0) s.promises

-- effects

row-keeps : (e : Effect) (s : Slots) → Keeps s.promises (row e s).slots.promises
row-keeps e s = row-changes (Keeps s.promises) (keeps-changes s.promises) e s (keeps-same s.promises)

nothing_promised : (i : StreamId) (e : Effect) (s : Slots) → Elsewhere i e → effect_promised i e s ≡ []
nothing_promised i (Writable j operation) s x = rw x refl
nothing_promised i _ s x = refl

-- nothing is written and no write ends well
lined-same : (h f : Writes) (q : List PromiseId) (place : Option Stream) (t : Table) → f.written ≡ [] → f.fulfilled ≡ 0 → Lined h q place t → Lined (writes_then h f) (q ++ []) place t
lined-same h f q place t w n l = grind (arith, append-nil)

elsewhere-lined : (i : StreamId) (h : Both) (s : Slots) (e : Effect) → Elsewhere i e → Lined h.writes h.promised (slice_get s.streams i.0) s.promises
    → Lined (writes_then h.writes (effect_writes i e s)) (h.promised ++ effect_promised i e s) (slice_get (row e s).slots.streams i.0) (row e s).slots.promises
elsewhere-lined i h s e x l =
    let r = row-leaves i e s x in
    let z : Slots = (row e s).slots in
    rw (nothing_promised i e s x) (lined-same h.writes (effect_writes i e s) h.promised (slice_get z.streams i.0) z.promises
    (ap (λ (f : Writes). f.written) (elsewhere_told i e s x)) (ap (λ (f : Writes). f.fulfilled) (elsewhere_told i e s x))
    (lined-later h.writes h.promised (slice_get s.streams i.0) (slice_get z.streams i.0) s.promises z.promises r.place r.there (row-keeps e s) l))

operation-keeps : (i : StreamId) (operation : WritableOperation) (a : Acts) → Keeps a.out.promises (writable_operation i operation a).out.promises
operation-keeps i operation a =
    writable-does (λ x. Keeps a.out.promises x.promises) i
    (record {
      settle = λ x p o k. keeps-then a.out.promises x.promises _ k (keeps-settle p o x.promises);
      fresh = λ x k. keeps-then a.out.promises x.promises _ k (keeps-fresh x.promises);
      tell = λ x r k. keeps-then a.out.promises x.promises _ k (keeps-tell _ x.promises);
      write = λ x k. k;
      close = λ x k. k;
      abort = λ x r p k. k;
      hand_on = λ x v k. k;
      take = λ x v t d k. k;
      post = λ x v c d k. k;
    }) operation a (keeps-same a.out.promises)

own-lined : (i : StreamId) (h : Both) (s : Slots) (operation : WritableOperation) (there : Bool) → there ≡ has_writable i s → Knows h.writes operation (writable_at i s)
    → (on_writable (writable_operation i operation) i s).slots.promises.astray ≡ false → Lined h.writes h.promised (slice_get s.streams i.0) s.promises
    → Lined (writes_then h.writes (operation_writes operation (writable_at i s))) (h.promised ++ operation_promised operation (writable_at i s))
    (slice_get (on_writable (writable_operation i operation) i s).slots.streams i.0) (on_writable (writable_operation i operation) i s).slots.promises
own-lined i h s operation true e n straight l =
    let op : Acts → Acts = writable_operation i operation in
    let a : Acts = writable_acts i s in
    let same : on_writable op i s ≡ put_writable i s (op a) = rw (← e) refl in
    let before : Lined h.writes h.promised (Some (WritableStream (writable_at i s))) s.promises = rw (writable_there (slice_get s.streams i.0) (sym e)) at l in
    let after = on_writable-same op i s (sym e) in
    rw (after, same) (operation-lined i h.writes h.promised a before operation n (operation-keeps i operation a) (rw same at straight))
own-lined i h s operation false e n straight l =
    let none : writable_at i s ≡ no_writable = no_writable_there (slice_get s.streams i.0) (sym e) in
    let same : on_writable (writable_operation i operation) i s ≡ nothing s = rw (← e) refl in
    let told : operation_writes operation (writable_at i s) ≡ no_writes = ap (operation_writes operation) none ∙ idle operation in
    let promised : operation_promised operation (writable_at i s) ≡ [] = ap (operation_promised operation) none ∙ unpromised operation in
    rw (same, promised) (lined-same h.writes (operation_writes operation (writable_at i s)) h.promised (slice_get s.streams i.0) s.promises (ap (λ (f : Writes). f.written) told) (ap (λ (f : Writes). f.fulfilled) told) l)
  where
    unpromised : (operation : WritableOperation) → operation_promised operation no_writable ≡ []
    unpromised (names.Write v p) = refl
    unpromised _ = refl

-- what is to be shown of an effect
abbrev Next : StreamId → Both → Slots → Effect → Type 0
Next i h s e =
    (es : List Effect) → Holds i h s (e ∷ es) → (row e s).slots.promises.astray ≡ false
    → Lined (writes_then h.writes (effect_writes i e s)) (h.promised ++ effect_promised i e s) (slice_get (row e s).slots.streams i.0) (row e s).slots.promises

other-next : (i : StreamId) (h : Both) (s : Slots) (e : Effect) → Elsewhere i e → Next i h s e
other-next i h s e x es k straight = elsewhere-lined i h s e x (k.lined (straight_before s.promises (row e s).slots.promises (row-keeps e s) straight))

own-next : (i : StreamId) (h : Both) (s : Slots) (operation : WritableOperation) → Next i h s (Writable i operation)
unfolding row
own-next i h s operation es k straight =
    let before = k.lined (straight_before s.promises (row (Writable i operation) s).slots.promises (row-keeps (Writable i operation) s) straight) in
    rw (is_same-refl i) (own-lined i h s operation (has_writable i s) refl (knows i h.writes operation es s k.kept) straight before)

effect-next : (i : StreamId) (h : Both) (s : Slots) (e : Effect) → Next i h s e
effect-next i h s (Writable j operation) =
    same_or (λ l. Next i h s (Writable l operation)) i j (is_same i j) refl (other-next i h s (Writable j operation)) (own-next i h s operation)
effect-next i h s e = other-next i h s e tt

row-holds : (i : StreamId) (h : Both) (s : Slots) (e : Effect) (es : List Effect) → Holds i h s (e ∷ es) → Holds i (both_then h (both_told i e s)) (row e s).slots ((row e s).caused ++ es)
row-holds i h s e es k = record { kept = row-kept i h.writes s e es k.kept; lined = effect-next i h s e es k }

-- calls

-- the promises of the writes stand so, where nothing went astray so far
abbrev LinedIn : StreamId → Both → Slots → Type 0
LinedIn i h s = s.promises.astray ≡ false → Lined h.writes h.promised (slice_get s.streams i.0) s.promises

-- only promises change
changed : (i : StreamId) (h : Both) (s : Slots) (t : Table) → Keeps s.promises t → LinedIn i h s → LinedIn i h (with_promises t s)
changed i h s t k l straight = lined-later h.writes h.promised (slice_get s.streams i.0) (slice_get s.streams i.0) s.promises t refl (λ n. n) k (l (straight_before s.promises t k straight))

added_other : (i : StreamId) (h : Both) (s : Slots) (y : Stream) → nat_eq i.0 (length s.streams) ≡ false → LinedIn i h s → LinedIn i h (add_stream y s)
added_other i h s y n l straight = rw (place_before s.streams y i.0 (unequal_numbers i.0 (length s.streams) n)) (l straight)

-- nothing has happened of a stream that isn't made yet
added_here : (i : StreamId) (h : Both) (s : Slots) (y : Stream) → nat_eq i.0 (length s.streams) ≡ true → line (core_of (as_writable (Some y))) ≡ [] → is_some (as_writable (Some y)).write_in_flight ≡ false
    → LinedIn i h s → LinedIn i h (add_stream y s)
added_here i h s y e none quiet l straight =
    let at_end : i.0 ≡ length s.streams = eq_numbers i.0 (length s.streams) e in
    let before : Lined h.writes h.promised None s.promises = rw (no_stream i s.streams at_end) at (l straight) in
    let after : slice_get (add_stream y s).streams i.0 ≡ Some y = rw at_end (place_last s.streams y) in
    rw after (record {
      answered = before.answered;
      first = before.first;
      rest = before.rest;
      split = before.split;
      counted = before.counted;
      fulfilled = before.fulfilled;
      alive = λ g. before.unmade refl ∙ sym none;
      spent = λ g. quiet;
      unmade = λ g. cc;
      ended = λ g. before.ended refl;
    })

added : (i : StreamId) (h : Both) (s : Slots) (y : Stream) → line (core_of (as_writable (Some y))) ≡ [] → is_some (as_writable (Some y)).write_in_flight ≡ false → LinedIn i h s → LinedIn i h (add_stream y s)
added i h s y none idle l = by (nat_eq i.0 (length s.streams)) refl
  where
    by : (b : Bool) → b ≡ nat_eq i.0 (length s.streams) → LinedIn i h (add_stream y s)
    by false e = added_other i h s y (sym e) l
    by true e = added_here i h s y (sym e) none idle l

call-lined : (i : StreamId) (h : Both) (c : Call) (s : Slots) → LinedIn i h s → LinedIn i h (begin c s).done.slots
call-lined i h c s l =
    begin-makes (LinedIn i h) (record {
      promise = λ z m. changed i h z (fresh z.promises) (keeps-fresh z.promises) m;
      locks = λ z locks m. m;
      hosts = λ z hosts m. m;
      pipe = λ z source dest prevent signal promise m. m;
      signal = λ z m. m;
      transform = λ z kind half other change m. m;
      tee = λ z source first second cancel m. m;
      port = λ z side stream backpressure m. m;
      bytes = λ z mark auto m. added i h z (ByteStream (byte.set_up mark auto)) refl refl m;
      byob_requests = λ z hosts m. m;
      readable = λ z owner mark size m. added i h z (ReadableStream (readable.set_up owner mark size)) refl refl m;
      writable = λ z owner mark size m. added i h z (WritableStream (writable.set_up owner mark size)) refl refl m;
    }) c s l

pub holds-goes : (i : StreamId) → GoesUntold both_then (both_told i) (Holds i)
holds-goes i = record {
  row = row-holds i;
  call = λ h s c k. record { kept = (goes i).call h.writes s c k.kept; lined = call-lined i h c s k.lined };
  job = λ h s job e k. record { kept = (goes i).job h.writes s job e k.kept; lined = changed i h s (after_next_job s.promises) (keeps-next s.promises) k.lined };
  answered = λ h s p k. record { kept = (goes i).answered h.writes s p k.kept; lined = changed i h s (watch p s.promises) (keeps-watch p s.promises) k.lined };
  older = λ h s k. record { kept = (goes i).older h.writes s k.kept; lined = k.lined };
}

-- steps and runs

pub holds-rests : (i : StreamId) → RestsUntold (Holds i)
holds-rests i = record {
  heard = λ h s k. record { kept = (rests i).heard h.writes s k.kept; lined = changed i h s (after_event s).promises (keeps-entries s.promises _ refl (λ m. m)) k.lined };
}

abbrev both_in : StreamId → Slots → Entry → Both
both_in i s x = record { writes = step_writes i s x; promised = step_promised i s x }

in_step_both : (i : StreamId) (s : Slots) (x : Entry) → in_step no_both both_then (both_told i) s x ≡ both_in i s x
in_step_both i s x = along_both i (moments_in s x)

over_both : (i : StreamId) (xs : List Entry) (s : Slots) → over no_both both_then (in_step no_both both_then (both_told i)) xs s ≡ record { writes = run_writes i xs s; promised = run_promised i xs s }
over_both i [] s = refl
over_both i (x ∷ xs) s = rw (in_step_both i s x, over_both i xs (step s x)) refl

pub holds_empty : (i : StreamId) → Holds i no_both empty []
holds_empty i = record {
  kept = none_made i;
  lined = λ straight. record {
    answered = refl;
    first = [];
    rest = [];
    split = refl;
    counted = refl;
    fulfilled = λ n d g. absurd (omega arith);
    alive = λ e. cc;
    spent = λ e. refl;
    unmade = λ e. refl;
    ended = λ e n d g. absurd (omega arith);
  };
}

-- where the close algorithm was performed, as many are fulfilled as there are
all_fulfilled : (h : Writes) (q : List PromiseId) (place : Option Stream) (t : Table) (l : Lined h q place t) → h.fulfilled ≡ length h.written → AllFulfilled t q
all_fulfilled h q place t l e =
    let none : l.rest ≡ [] = none_left l.first l.rest q l.split (l.counted ∙ (e ∙ sym l.answered)) in
    let all : l.first ≡ q = sym (append-nil l.first) ∙ (ap (λ ps. l.first ++ ps) (sym none) ∙ l.split) in
    subst (λ (ps : List PromiseId). AllFulfilled t ps) all l.fulfilled

pub each_write_is_settled : EachWriteIsSettled
each_write_is_settled entries i =
    let s : Slots = run entries empty in
    let h : Writes = run_writes i entries empty in
    let q : List PromiseId = run_promised i entries empty in
    let k : Holds i (record { writes = h; promised = q }) s [] =
    subst (λ (f : Both). Holds i f s []) (over_both i entries empty) (walker.run-holds no_both both_then is_history (both_told i) (Holds i) (holds-goes i) (holds-rests i) entries empty (holds_empty i)) in
    let l = k.lined (none_goes_astray entries) in
    record {
      answered = l.answered;
      first = l.first;
      rest = l.rest;
      split = l.split;
      counted = l.counted;
      fulfilled = l.fulfilled;
      whole = λ z. all_fulfilled h q (slice_get s.streams i.0) s.promises l ((resting i h s k.kept).told.fulfilled z);
      ended = l.ended;
    }
