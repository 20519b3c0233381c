-- What the writable half of a transform stream handed on, and with what its transform algorithm was performed (`each_acted_is_transformed`).
use Rattle.std.proofs.Common.{◌≡◌, ⊎_elim, ℕ, zero, suc, ◌+◌, false, List, [], ◌∷◌, ◌++◌, length, map, Option, Some, None, slice_get, refl, sym, ap, ◌∙◌, arith, append_assoc, append-nil}
use Rattle.ws_value.specs.declared.ids.{StreamId.{StreamId}}
use Rattle.ws_value.specs.declared.value.Value.{Value}
use Rattle.ws_steps.specs.declared.calls.{Call.{Call}, StartBy.{StartBy}}
use Rattle.ws_steps.specs.declared.effects.{Effect.{Effect}, Owner.TheVariants.{HalfOf, BranchOf}}
use Rattle.ws_steps.specs.declared.effects.Effect.TheVariants.{Writable as OnWritable, Transform as OnTransform, CloseAlgorithm}
use Rattle.ws_steps.specs.declared.readable.SizeBy.TheVariants.{Count}
use Rattle.ws_steps.specs.declared.transform.{Kind.{Kind}, TransformId.{TransformId}}
use Rattle.ws_steps.specs.declared.transform.TransformOperation.TheVariants as names
use Rattle.ws_steps.specs.MakingCalls as making_calls
use Rattle.ws_steps.specs.PipeCalls as pipe_calls
use Rattle.ws_steps.specs.Begun.{Begun}
use Rattle.ws_steps.specs.MakingCalls.{add_stream}
use Rattle.ws_steps.specs.Calls.{begin}
use Rattle.ws_steps.specs.Histories.{is_same}
use Rattle.ws_steps.specs.Jobs.{job_effects}
use Rattle.ws_steps.specs.Promises.{next_id, after_next_job}
use Rattle.ws_steps.specs.Readable as readable
use Rattle.ws_steps.specs.Run.{Entry, run}
use Rattle.ws_steps.specs.Slots.{Slots, Stream, ReadableStream, WritableStream, empty, no_writable, has_writable, writable_at, is_writable_stream, with_promises}
use Rattle.ws_steps.specs.Transform as transform
use Rattle.ws_steps.specs.Turns.{row}
use Rattle.ws_steps.specs.Writable as writable
use Rattle.ws_steps.specs.WritableHistory.{Writes, no_writes, writes_then, operation_writes, effect_writes, run_writes}
use Rattle.ws_laws.proofs.EachCall.{each_call}
use Rattle.ws_laws.proofs.Ended.{ended-empty}
use Rattle.ws_laws.proofs.Halves.{get-either, halved-empty}
use Rattle.ws_laws.proofs.Shapes.{TransformShape, transform_shapes, transform_shape, map-there, row-transform_shapes}
use Rattle.ws_laws.proofs.Tables.{either, same_id, eq_numbers, no_stream, no_writable_there}
use Rattle.ws_laws.proofs.Walker as walker
use Rattle.ws_laws.proofs.Walker.{GoesUntold, RestsUntold}
use Rattle.ws_writable_laws.proofs.Agenda.{idle}
use Rattle.ws_transform_laws.specs.TransformHistory.{is_same_transform, effect_transformed, run_transformed}
use Rattle.ws_transform_laws.specs.TransformLaws.{EachActedIsTransformed}
use Rattle.ws_transform_laws.proofs.Acted.{Linked, pending_of, pending, pending-append, pending-told, plain-pending, row-even}
use Rattle.ws_transform_laws.proofs.Halving.{map-from}
use Rattle.ws_transform_laws.proofs.Lawful.{row-has}
use Rattle.ws_transform_laws.proofs.Prompt.{Placed, Prompted, prompted-stays, call-plain, job-plain}
use Rattle.ws_transform_laws.proofs.Told.{Both, neither, both_then, are_both, over-map}
use Rattle.ws_value.specs.declared.ids.TeeId.{TeeId}
use Rattle.ws_steps.specs.declared.tee.Half.{Half}
use Rattle.ws_steps.specs.declared.tee.Half.TheVariants.{First, Second}
use Rattle.ws_steps.specs.declared.port.Side.{Side}
use Rattle.ws_steps.specs.declared.port.Side.TheVariants.{Writable as WritableSide}
use Rattle.ws_steps.specs.declared.port.Side.TheVariants.{Readable as ReadableSide}

-- lists that grow

shape-more : (ts us : List transform.Slots) (k : ℕ) (x : TransformShape) → slice_get (map transform_shape ts) k ≡ Some x → slice_get (map transform_shape (ts ++ us)) k ≡ Some x
shape-more [] us k x e = cc
shape-more (y ∷ ys) us zero x e = e
shape-more (y ∷ ys) us (suc k) x e = shape-more ys us k x e

shape-past : (ts : List transform.Slots) → slice_get (map transform_shape ts) (length ts) ≡ None
shape-past [] = refl
shape-past (x ∷ xs) = shape-past xs

-- what wasn't there after wasn't there before
none-before : (ts us : List transform.Slots) (k : ℕ) → slice_get (map transform_shape (ts ++ us)) k ≡ None → slice_get (map transform_shape ts) k ≡ None
none-before [] us k e = refl
none-before (y ∷ ys) us zero e = cc
none-before (y ∷ ys) us (suc k) e = none-before ys us k e

has-before : (xs ys : List Stream) (k : ℕ) → is_writable_stream (slice_get (xs ++ ys) k) ≡ false → is_writable_stream (slice_get xs k) ≡ false
has-before [] ys k e = refl
has-before (x ∷ xs) ys zero e = e
has-before (x ∷ xs) ys (suc k) e = has-before xs ys k e

past-both : (xs : List Stream) (y : Stream) → slice_get xs (length xs) ≡ None
past-both [] y = refl
past-both (x ∷ xs) y = past-both xs y

module _ (i : StreamId) (t : TransformId) where
  abbrev told : Effect → Slots → Both
  told e s = record { one = (effect_writes i e s).acted; two = effect_transformed t e s }

  -- what was handed on was transformed, or is about to be; and nothing was before the streams are there
  pub record Even (h : Both) (s : Slots) (es : List Effect) : Type 0 where
    pub linked : Linked i t s → h.one ≡ h.two ++ pending t es
    pub unacted : has_writable i s ≡ false → h.one ≡ []
    pub unmade : slice_get (transform_shapes s) t.0 ≡ None → h.two ≡ []

  pub record Acts (h : Both) (s : Slots) (es : List Effect) : Type 0 where
    pub prompted : Prompted s es
    pub even : Even h s es

  absent-acted : (e : Effect) (s : Slots) → has_writable i s ≡ false → (effect_writes i e s).acted ≡ []
  absent-acted (OnWritable j operation) s none =
      either (λ (h : Writes). h.acted ≡ []) (is_same i j) (operation_writes operation (writable_at j s)) no_writes
      (λ e.
      let is : i ≡ j = same_id i j e in
      let absent : writable_at j s ≡ no_writable = no_writable_there (slice_get s.streams j.0) (rw is at none) in
      ap (λ (h : Writes). h.acted) (ap (operation_writes operation) absent ∙ idle operation)) (λ e. refl)
  absent-acted (CloseAlgorithm j) s none = either (λ (h : Writes). h.acted ≡ []) (is_same i j) (record no_writes { closes = 1 }) no_writes (λ e. refl) (λ e. refl)
  absent-acted _ s none = refl

  absent-transformed : (e : Effect) (s : Slots) → Placed s e → slice_get (transform_shapes s) t.0 ≡ None → effect_transformed t e s ≡ []
  absent-transformed (OnTransform u (names.TransformChunk v d)) s p none =
      either (λ (vs : List Value). vs ≡ []) (is_same_transform t u) (v ∷ []) []
      (λ e.
      let is : t.0 ≡ u.0 = eq_numbers t.0 u.0 e in
      let both : ◌≡◌ {A = Option TransformShape} None (Some p.0) = sym none ∙ (ap (slice_get (transform_shapes s)) is ∙ p.1) in cc) (λ e. refl)
  absent-transformed _ s p none = refl

  lists : (one two a p c es : List Value) → one ≡ two ++ (p ++ es) → es ≡ [] → a ≡ c → one ++ a ≡ (two ++ p) ++ (c ++ es)
  lists one two a p c es e f g = grind (arith, append_assoc, append-nil, e, f, g)

  row-acts : (h : Both) (s : Slots) (e : Effect) (es : List Effect) → Acts h s (e ∷ es) → Even (both_then h (told e s)) (row e s).slots ((row e s).caused ++ es)
  row-acts h s e es g =
      let p = g.prompted.prompt in
      let shapes = row-transform_shapes e s in
      record {
        linked = λ l.
            let m : Linked i t s = (l.0, (rw shapes at l.1.0, l.1.1)) in
            let told_as = pending-told t e s in
            let more = pending-append t (row e s).caused es in
            rw (told_as, more) (lists h.one h.two (effect_writes i e s).acted (pending_of t e) (pending t (row e s).caused) (pending t es) (g.even.linked m) (plain-pending t es p.1) (row-even i t s e g.prompted.halved m p.0));
        unacted = λ none. let no : has_writable i s ≡ false = sym (row-has i e s) ∙ none in rw (g.even.unacted no, absent-acted e s no) refl;
        unmade = λ none. let no : slice_get (transform_shapes s) t.0 ≡ None = rw shapes at none in rw (g.even.unmade no, absent-transformed e s p.0 no) refl;
      }

  -- calls

  -- nothing is pending
  abbrev Rest : Both → Slots → Type 0
  Rest h s = Even h s []

  added : (h : Both) (s : Slots) (y : Stream) → Rest h s → Rest h (add_stream y s)
  added h s y k = record { linked = k.linked; unacted = λ none. k.unacted (has-before s.streams (y ∷ []) i.0 none); unmade = k.unmade }

  abbrev One : TransformId → ℕ → Stream
  One me m = WritableStream (writable.set_up (HalfOf me) m Count)

  abbrev Two : TransformId → ℕ → Stream
  Two me n = ReadableStream (readable.set_up (HalfOf me) n Count)

  made : (h : Both) (s : Slots) (kind : Kind) (m n : ℕ) (start : StartBy) → Rest h s → Rest h (making_calls.make_transform kind m n start (record { 0 = length s.streams }) (record { 0 = length s.streams + 1 }) s).done.slots
  made h s kind m n start k =
      let me : TransformId = record { 0 = length s.transforms } in
      let x : transform.Slots = transform.set_up kind (record { 0 = length s.streams }) (record { 0 = length s.streams + 1 }) (next_id s.promises) in
      record {
        linked = λ l.
            let y = map-from transform_shape (s.transforms ++ x ∷ []) t.0 l.0 l.1.0 in
            ⊎_elim
            (λ old. k.linked (l.0, (map-there transform_shape s.transforms t.0 y.0 old ∙ ap (λ (z : TransformShape). Some z) y.1.1, l.1.1)))
            (λ new.
            let at : record { 0 = length s.streams } ≡ i = ap (λ (z : transform.Slots). z.writable) new.1 ∙ (ap (λ (z : TransformShape). z.writable) y.1.1 ∙ l.1.1) in
            let none : has_writable i s ≡ false = ap is_writable_stream (no_stream i s.streams (ap (λ (z : StreamId). z.0) (sym at))) in
            let absent : slice_get (transform_shapes s) t.0 ≡ None = rw new.0 (shape-past s.transforms) in
            rw (k.unacted none, k.unmade absent) refl)
            (get-either s.transforms x t.0 y.0 y.1.0);
        unacted = λ none. k.unacted (has-before s.streams (One me m ∷ []) i.0 (has-before (s.streams ++ One me m ∷ []) (Two me n ∷ []) i.0 none));
        unmade = λ none. k.unmade (none-before s.transforms (x ∷ []) t.0 none);
      }

  abbrev Branch : TeeId → Half → Stream
  Branch me half = ReadableStream (readable.set_up (BranchOf me half) 1 Count)

  teed : (h : Both) (s : Slots) (j : StreamId) → Rest h s → Rest h (making_calls.make_tee j (record { 0 = length s.streams }) (record { 0 = length s.streams + 1 }) s).done.slots
  teed h s j k =
      let me : TeeId = record { 0 = length s.tees } in
      record {
        linked = k.linked;
        unacted = λ none. k.unacted (has-before s.streams (Branch me First ∷ []) i.0 (has-before (s.streams ++ Branch me First ∷ []) (Branch me Second ∷ []) i.0 none));
        unmade = k.unmade;
      }

  plain-even : (h : Both) (s : Slots) (es : List Effect) → pending t es ≡ [] → Rest h s → Even h s es
  plain-even h s es none k = record { linked = λ l. rw none (k.linked l); unacted = k.unacted; unmade = k.unmade }

  same-even : (h : Both) (s z : Slots) → z.streams ≡ s.streams → z.transforms ≡ s.transforms → Rest h s → Rest h z
  same-even h s z e f k = record {
    linked = λ l. k.linked (l.0, (rw f at l.1.0, l.1.1));
    unacted = λ none. k.unacted (rw e at none);
    unmade = λ none. k.unmade (rw f at none);
  }

  ported : (h : Both) (s : Slots) (side : Side) (j : StreamId) → Rest h s → Rest h (pipe_calls.add_port j s side)
  ported h s ReadableSide j k = record { linked = k.linked; unacted = λ none. k.unacted (has-before s.streams (pipe_calls.end_of (record { 0 = length s.ports }) ReadableSide ∷ []) i.0 none); unmade = k.unmade }
  ported h s WritableSide j k = record { linked = k.linked; unacted = λ none. k.unacted (has-before s.streams (pipe_calls.end_of (record { 0 = length s.ports }) WritableSide ∷ []) i.0 none); unmade = k.unmade }

  call-even : (h : Both) (s : Slots) (c : Call) → Rest h s → Rest h (begin c s).done.slots
  call-even h s c k = each_call (λ (b : Begun). Rest h b.done.slots) c s (record {
    unchanged = λ reply. k;
    rejected = λ fault. same-even h s _ refl refl k;
    make_readable = λ mark size start. added h s _ k;
    make_writable = λ mark size start. added h s _ k;
    make_transform = λ kind m n start. made h s kind m n start k;
    get_byob = λ j is e. same-even h s _ refl refl k;
    release_byob = λ l closed j e. same-even h s _ refl refl k;
    read_into = λ l j closed room element least e f. same-even h s _ refl refl k;
    enqueue_bytes = λ j b e is some can. k;
    finish_bytes = λ j e is can. k;
    make_request = λ j reply is. same-even h s _ refl refl k;
    respond = λ r j b e is can. k;
    make_bytes = λ mark auto start. added h s _ k;
    get_reader = λ j e. same-even h s _ refl refl k;
    make_tee = λ j c there e untied. teed h s j k;
    get_writer = λ j e. same-even h s _ refl refl k;
    release_reader = λ l closed j e. same-even h s _ refl refl k;
    release_writer = λ l j w e f. same-even h s _ refl refl k;
    cancel = λ reason j. same-even h s _ refl refl k;
    read = λ l j closed e f. same-even h s _ refl refl k;
    write = λ l v j e. same-even h s _ refl refl k;
    close = λ j. same-even h s _ refl refl k;
    abort = λ reason j e. same-even h s _ refl refl k;
    enqueue = λ j v e w can. k;
    enqueue_half = λ j u v e w can. k;
    finish = λ j. k;
    fail_readable = λ j reason. k;
    fail_writable = λ j reason. k;
    fail_half = λ u reason. k;
    terminate = λ u. k;
    pipe = λ source dest prevent signal e f l m. same-even h s _ refl refl k;
    make_signal = same-even h s _ refl refl k;
    open_end = λ side. ported h s side (record { 0 = length s.streams }) k;
    send_readable = λ j there free. same-even h (pipe_calls.add_port (record { 0 = length s.streams }) s WritableSide) _ refl refl (ported h s WritableSide (record { 0 = length s.streams }) k);
    send_writable = λ j there free. same-even h (pipe_calls.add_port (record { 0 = length s.streams }) s ReadableSide) _ refl refl (ported h s ReadableSide (record { 0 = length s.streams }) k);
    deliver = λ p m e is. k;
    trigger = λ a reason. k;
    settle = λ a answer p e. same-even h s _ refl refl k;
  })

  acting : GoesUntold both_then told Acts
  acting = record {
    row = λ h s e es g. record { prompted = prompted-stays.row s e es g.prompted; even = row-acts h s e es g };
    call = λ h s c g. record {
      prompted = prompted-stays.call s c g.prompted;
      even = plain-even h (begin c s).done.slots (begin c s).done.caused (plain-pending t (begin c s).done.caused (call-plain c s)) (call-even h s c g.even);
    };
    job = λ h s job e g. record {
      prompted = prompted-stays.job s job e g.prompted;
      even = plain-even h (with_promises (after_next_job s.promises) s) (job_effects job) (plain-pending t (job_effects job) (job-plain job)) (same-even h s _ refl refl g.even);
    };
    answered = λ h s p g. record { prompted = prompted-stays.answered s p g.prompted; even = same-even h s _ refl refl g.even };
    older = λ h s g. record { prompted = prompted-stays.older s g.prompted; even = same-even h s _ refl refl g.even };
  }

  acting-rests : RestsUntold Acts
  acting-rests = record { heard = λ h s g. record { prompted = record { halved = g.prompted.halved; ended = g.prompted.ended; prompt = tt }; even = same-even h s _ refl refl g.even } }

  none-acts : Acts neither empty []
  none-acts = record { prompted = record { halved = halved-empty; ended = ended-empty; prompt = tt }; even = record { linked = λ l. refl; unacted = λ none. refl; unmade = λ none. refl } }

  run-acts : (entries : List Entry) → Linked i t (run entries empty) → (run_writes i entries empty).acted ≡ run_transformed t entries empty
  run-acts entries l =
      let k = walker.run-holds neither both_then are_both told Acts acting acting-rests entries empty none-acts in
      let one = over-map neither both_then [] ◌++◌ (λ (h : Both). h.one) refl (λ a b. refl) told entries empty in
      let two = over-map neither both_then [] ◌++◌ (λ (h : Both). h.two) refl (λ a b. refl) told entries empty in
      let acted = over-map no_writes writes_then [] ◌++◌ (λ (h : Writes). h.acted) refl (λ a b. refl) (effect_writes i) entries empty in
      acted ∙ (sym one ∙ (k.even.linked l ∙ (append-nil _ ∙ two)))

pub each_acted_is_transformed : EachActedIsTransformed
each_acted_is_transformed entries t x is = run-acts x.writable t entries (transform_shape x, (map-there transform_shape (run entries empty).transforms t.0 x is, refl))
