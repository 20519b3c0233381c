-- What the writable half of a transform stream of the host handed on, by the events that call its transform algorithm (`transforms_were_heard`).
use Rattle.std.proofs.Common.{◌≡◌, ◌⊎◌, inl, inr, ⊎_elim, ℕ, zero, suc, ◌+◌, List, [], ◌∷◌, ◌++◌, length, map, Option, Some, None, slice_get, refl, sym, ap, ◌∙◌, arith, append_assoc, append-nil}
use Rattle.ws_value.specs.declared.ids.{StreamId.{StreamId}}
use Rattle.ws_value.specs.declared.value.Value.{Value}
use Rattle.ws_steps.specs.declared.calls.{Call.{Call}, Event.{Event}, HostCall.{HostCall}, HostCall.TheVariants.{Transform as HostTransform}, StartBy.{StartBy}}
use Rattle.ws_steps.specs.declared.effects.{Effect.{Effect}, Owner.TheVariants.{HalfOf, BranchOf}, Use.{Use}}
use Rattle.ws_steps.specs.declared.effects.Effect.TheVariants.{Transform as OnTransform, CallHost}
use Rattle.ws_steps.specs.declared.readable.SizeBy.TheVariants.{Count}
use Rattle.ws_steps.specs.declared.transform.{Kind.{Kind}, TransformId.{TransformId}}
use Rattle.ws_steps.specs.declared.transform.TransformOperation.TheVariants as names
use Rattle.ws_steps.specs.MakingCalls as making_calls
use Rattle.ws_steps.specs.PipeCalls as pipe_calls
use Rattle.ws_steps.specs.Begun.{Begun}
use Rattle.ws_steps.specs.MakingCalls.{add_stream}
use Rattle.ws_steps.specs.Calls.{begin}
use Rattle.ws_steps.specs.Histories.{is_same, along, in_step, over, taken_event, taken_in_step, run_events}
use Rattle.ws_steps.specs.Jobs.{job_effects}
use Rattle.ws_steps.specs.Promises.{next_id, after_next_job}
use Rattle.ws_steps.specs.Readable as readable
use Rattle.ws_steps.specs.Run.{Entry, run, step, later_events, moments_in}
use Rattle.ws_steps.specs.Slots.{Slots, Stream, ReadableStream, WritableStream, empty, with_promises}
use Rattle.ws_steps.specs.Transform as transform
use Rattle.ws_steps.specs.Turns.{Moment, row, call_host}
use Rattle.ws_steps.specs.Writable as writable
use Rattle.ws_laws.proofs.Begin.{begin-makes}
use Rattle.ws_laws.proofs.EachCall.{each_call}
use Rattle.ws_laws.proofs.Ended.{ended-empty}
use Rattle.ws_laws.proofs.Halves.{get-either, halved-empty}
use Rattle.ws_laws.proofs.Shapes.{StreamShape, ReadableOf, stream_shape, TransformShape, stream_shapes, transform_shapes, transform_shape, map-there, row-stream_shapes, row-transform_shapes}
use Rattle.ws_laws.proofs.Tables.{either, same_id, eq_numbers}
use Rattle.ws_laws.proofs.Walker as walker
use Rattle.ws_laws.proofs.Walker.{Goes, Rests}
use Rattle.ws_transform_laws.specs.TransformHistory.{is_same_transform, effect_transformed, run_transformed, heard_transform, heard_transforms}
use Rattle.ws_transform_laws.specs.TransformLaws.{TransformsWereHeard}
use Rattle.ws_transform_laws.proofs.Calling.{Hosted, calling_of, calling, calling-append, plain-calling, row-calls}
use Rattle.ws_transform_laws.proofs.Halving.{map-from}
use Rattle.ws_transform_laws.proofs.Hearing.{IsCall, hear, heard, events-append, fresh-heard, next-heard, watch-heard, host-heard, row-heard}
use Rattle.ws_transform_laws.proofs.Prompt.{Placed, Prompted, prompted-stays, call-plain, job-plain}
use Rattle.ws_transform_laws.proofs.Told.{Both, neither, both_then, are_both}
use Rattle.ws_transform_laws.proofs.Transformed.{each_acted_is_transformed}
use Rattle.ws_value.specs.declared.ids.TeeId.{TeeId}
use Rattle.ws_steps.specs.declared.tee.Half.TheVariants.{First, Second}
use Rattle.ws_steps.specs.declared.port.Side.{Side}
use Rattle.ws_steps.specs.declared.port.Side.TheVariants.{Writable as WritableSide}
use Rattle.ws_steps.specs.declared.port.Side.TheVariants.{Readable as ReadableSide}

-- lists that grow

none-before : {X Y : Type 0} (f : X → Y) (xs ys : List X) (k : ℕ) → slice_get (map f (xs ++ ys)) k ≡ None → slice_get (map f xs) k ≡ None
none-before f [] ys k e = refl
none-before f (x ∷ xs) ys zero e = cc
none-before f (x ∷ xs) ys (suc k) e = none-before f xs ys k e

past : {X Y : Type 0} (f : X → Y) (xs : List X) (k : ℕ) → slice_get (map f xs) (length xs + k) ≡ None
past f [] k = refl
past f (x ∷ xs) k = let e : suc (length xs) + k ≡ suc (length xs + k) = omega arith in rw e (past f xs k)

module _ (t : TransformId) (r : StreamId) where
  abbrev told : Effect → Slots → Both
  told e s = record { one = effect_transformed t e s; two = [] }

  abbrev said : Slots → Entry → Both
  said s x = record { one = []; two = heard_transforms r (taken_in_step s x) }

  -- what was transformed the host took, hasn't taken yet, or is about to hear of; and there was nothing before the streams are there
  pub record Tells (h : Both) (s : Slots) (es : List Effect) : Type 0 where
    pub hosted : Hosted t r s → h.one ≡ (h.two ++ heard r s.promises) ++ calling r es
    pub unmade : slice_get (transform_shapes s) t.0 ≡ None → h.one ≡ []
    pub unheard : slice_get (stream_shapes s) r.0 ≡ None → h.two ++ heard r s.promises ≡ []

  pub record Known (h : Both) (s : Slots) (es : List Effect) : Type 0 where
    pub prompted : Prompted s es
    pub tells : Tells h s es

  absent-transformed : (e : Effect) (s : Slots) → Placed s e → slice_get (transform_shapes s) t.0 ≡ None → effect_transformed t e s ≡ []
  absent-transformed (OnTransform u (names.TransformChunk v d)) s p none =
      either (λ (vs : List Value). vs ≡ []) (is_same_transform t u) (v ∷ []) []
      (λ e.
      let is : t.0 ≡ u.0 = eq_numbers t.0 u.0 e in
      let both : ◌≡◌ {A = Option TransformShape} None (Some p.0) = sym none ∙ (ap (slice_get (transform_shapes s)) is ∙ p.1) in cc) (λ e. refl)
  absent-transformed _ s p none = refl

  -- each effect

  abbrev Next : Both → Slots → Effect → List Effect → Type 0
  Next h s e es = Tells (both_then h (told e s)) (row e s).slots ((row e s).caused ++ es)

  absent-hear : (call : HostCall) (u : Use) (s : Slots) → Placed s (CallHost call u) → slice_get (stream_shapes s) r.0 ≡ None → hear r call ≡ []
  absent-hear (HostTransform j v) u s p none =
      either (λ (vs : List Value). vs ≡ []) (is_same r j) (v ∷ []) []
      (λ e.
      let is : r ≡ j = same_id r j e in
      let both : ◌≡◌ {A = Option StreamShape} None (Some (ReadableOf (HalfOf p.0))) = sym none ∙ (ap (λ (k : StreamId). slice_get (stream_shapes s) k.0) is ∙ p.1) in cc) (λ e. refl)
  absent-hear _ u s p none = refl

  call-lists : (one two hs c es : List Value) → one ≡ (two ++ hs) ++ (c ++ es) → es ≡ [] → one ++ [] ≡ ((two ++ []) ++ (hs ++ c)) ++ es
  call-lists one two hs c es e f = grind (arith, append_assoc, append-nil, e, f)

  call-tells : (h : Both) (s : Slots) (call : HostCall) (u : Use) (es : List Effect) → Known h s (CallHost call u ∷ es) → Next h s (CallHost call u) es
  unfolding row call_host
  call-tells h s call u es k =
      let events = host-heard r call u s in
      record {
        hosted = λ m. rw events (call-lists h.one h.two (heard r s.promises) (hear r call) (calling r es) (k.tells.hosted m) (plain-calling r es k.prompted.prompt.1));
        unmade = λ none. rw (k.tells.unmade none) refl;
        unheard = λ none.
            let a = k.tells.unheard none in let b = absent-hear call u s k.prompted.prompt.0 none in rw (events, b) (grind (arith, append-nil, a));
      }

  other-lists : (one two hs p ce c es : List Value) → one ≡ (two ++ hs) ++ (ce ++ es) → ce ≡ [] → es ≡ [] → p ≡ c → one ++ p ≡ ((two ++ []) ++ hs) ++ (c ++ es)
  other-lists one two hs p ce c es e g f m = grind (arith, append_assoc, append-nil, e, f, g, m)

  not-calling : (e : Effect) → (IsCall e → ⊥) → calling_of r e ≡ []
  not-calling (CallHost call u) n = absurd (n tt)
  not-calling _ n = refl

  other-tells : (h : Both) (s : Slots) (e : Effect) (es : List Effect) → (IsCall e → ⊥) → Known h s (e ∷ es) → Next h s e es
  other-tells h s e es n k =
      let events = row-heard r e s n in
      let shapes = row-transform_shapes e s in
      let streams = row-stream_shapes e s in
      let p = k.prompted.prompt in
      record {
        hosted = λ m.
            let m' : Hosted t r s = (m.0, (rw shapes at m.1.0, m.1.1)) in
            let more = calling-append r (row e s).caused es in
            rw (events, more) (other-lists h.one h.two (heard r s.promises) (effect_transformed t e s) (calling_of r e) (calling r (row e s).caused) (calling r es) (k.tells.hosted m') (not-calling e n) (plain-calling r es p.1) (row-calls t r e s k.prompted.halved m' p.0));
        unmade = λ none. let no : slice_get (transform_shapes s) t.0 ≡ None = rw shapes at none in rw (k.tells.unmade no, absent-transformed e s p.0 no) refl;
        unheard = λ none. let no : slice_get (stream_shapes s) r.0 ≡ None = rw streams at none in let a = k.tells.unheard no in rw events (grind (arith, append-nil, a));
      }

  row-tells : (h : Both) (s : Slots) (e : Effect) (es : List Effect) → Known h s (e ∷ es) → Next h s e es
  row-tells h s (CallHost call u) es k = call-tells h s call u es k
  row-tells h s e es k = other-tells h s e es (λ u. u) k

  -- calls

  -- what is there was there, or is new
  record Grown (s z : Slots) : Type 0 where
    hosted : Hosted t r z → Hosted t r s ⊎ ((slice_get (transform_shapes s) t.0 ≡ None) × (slice_get (stream_shapes s) r.0 ≡ None))
    transforms : slice_get (transform_shapes z) t.0 ≡ None → slice_get (transform_shapes s) t.0 ≡ None
    streams : slice_get (stream_shapes z) r.0 ≡ None → slice_get (stream_shapes s) r.0 ≡ None

  same-grown : (s z : Slots) → z.streams ≡ s.streams → z.transforms ≡ s.transforms → Grown s z
  same-grown s z e f = record {
    hosted = λ m. inl (m.0, (rw f at m.1.0, m.1.1));
    transforms = λ none. rw f at none;
    streams = λ none. rw e at none;
  }

  added-grown : (s : Slots) (y : Stream) → Grown s (add_stream y s)
  added-grown s y = record { hosted = λ m. inl m; transforms = λ none. none; streams = λ none. none-before stream_shape s.streams (y ∷ []) r.0 none }

  made-grown : (s : Slots) (kind : Kind) (m n : ℕ) (start : StartBy) → Grown s (making_calls.make_transform kind m n start (record { 0 = length s.streams }) (record { 0 = length s.streams + 1 }) s).done.slots
  made-grown s kind m n start =
      let me : TransformId = record { 0 = length s.transforms } in
      let w : Stream = WritableStream (writable.set_up (HalfOf me) m Count) in
      let y : Stream = ReadableStream (readable.set_up (HalfOf me) n Count) in
      let x : transform.Slots = transform.set_up kind (record { 0 = length s.streams }) (record { 0 = length s.streams + 1 }) (next_id s.promises) in
      record {
        hosted = λ h.
            let z = map-from transform_shape (s.transforms ++ x ∷ []) t.0 h.0 h.1.0 in
            ⊎_elim
            (λ old. inl (h.0, (map-there transform_shape s.transforms t.0 z.0 old ∙ ap (λ (k : TransformShape). Some k) z.1.1, h.1.1)))
            (λ new.
            let at : record { 0 = length s.streams + 1 } ≡ r = ap (λ (k : transform.Slots). k.readable) new.1 ∙ (ap (λ (k : TransformShape). k.readable) z.1.1 ∙ h.1.1.0) in
            let number : r.0 ≡ length s.streams + 1 = ap (λ (k : StreamId). k.0) (sym at) in
            let me' : t.0 ≡ length s.transforms + 0 = new.0 ∙ (omega arith) in
            inr (rw me' (past transform_shape s.transforms 0), rw number (past stream_shape s.streams 1)))
            (get-either s.transforms x t.0 z.0 z.1.0);
        transforms = λ none. none-before transform_shape s.transforms (x ∷ []) t.0 none;
        streams = λ none. none-before stream_shape s.streams (w ∷ []) r.0 (none-before stream_shape (s.streams ++ w ∷ []) (y ∷ []) r.0 none);
      }

  teed-grown : (s : Slots) (j : StreamId) → Grown s (making_calls.make_tee j (record { 0 = length s.streams }) (record { 0 = length s.streams + 1 }) s).done.slots
  teed-grown s j =
      let me : TeeId = record { 0 = length s.tees } in
      let first : Stream = ReadableStream (readable.set_up (BranchOf me First) 1 Count) in
      let second : Stream = ReadableStream (readable.set_up (BranchOf me Second) 1 Count) in
      record {
        hosted = λ m. inl m;
        transforms = λ none. none;
        streams = λ none. none-before stream_shape s.streams (first ∷ []) r.0 (none-before stream_shape (s.streams ++ first ∷ []) (second ∷ []) r.0 none);
      }

  ported-grown : (s : Slots) (side : Side) (i : StreamId) → Grown s (pipe_calls.add_port i s side)
  ported-grown s ReadableSide i = record { hosted = λ m. inl m; transforms = λ none. none; streams = λ none. none-before stream_shape s.streams (pipe_calls.end_of (record { 0 = length s.ports }) ReadableSide ∷ []) r.0 none }
  ported-grown s WritableSide i = record { hosted = λ m. inl m; transforms = λ none. none; streams = λ none. none-before stream_shape s.streams (pipe_calls.end_of (record { 0 = length s.ports }) WritableSide ∷ []) r.0 none }

  grown-on : (s a z : Slots) → z.streams ≡ a.streams → z.transforms ≡ a.transforms → Grown s a → Grown s z
  grown-on s a z e f g = record {
    hosted = λ m. g.hosted (m.0, (rw f at m.1.0, m.1.1));
    transforms = λ none. g.transforms (rw f at none);
    streams = λ none. g.streams (rw e at none);
  }

  call-grown : (s : Slots) (c : Call) → Grown s (begin c s).done.slots
  call-grown s c = each_call (λ (b : Begun). Grown s b.done.slots) c s (record {
    unchanged = λ reply. same-grown s s refl refl;
    rejected = λ fault. same-grown s _ refl refl;
    make_readable = λ mark size start. added-grown s _;
    make_writable = λ mark size start. added-grown s _;
    make_transform = λ kind m n start. made-grown s kind m n start;
    get_byob = λ j is e. same-grown s _ refl refl;
    release_byob = λ l closed j e. same-grown s _ refl refl;
    read_into = λ l j closed room element least e f. same-grown s _ refl refl;
    enqueue_bytes = λ j b e is some can. same-grown s s refl refl;
    finish_bytes = λ j e is can. same-grown s s refl refl;
    make_request = λ j reply is. same-grown s _ refl refl;
    respond = λ r j b e is can. same-grown s s refl refl;
    make_bytes = λ mark auto start. added-grown s _;
    get_reader = λ j e. same-grown s _ refl refl;
    make_tee = λ j c there e untied. teed-grown s j;
    get_writer = λ j e. same-grown s _ refl refl;
    release_reader = λ l closed j e. same-grown s _ refl refl;
    release_writer = λ l j w e f. same-grown s _ refl refl;
    cancel = λ reason j. same-grown s _ refl refl;
    read = λ l j closed e f. same-grown s _ refl refl;
    write = λ l v j e. same-grown s _ refl refl;
    close = λ j. same-grown s _ refl refl;
    abort = λ reason j e. same-grown s _ refl refl;
    enqueue = λ j v e w can. same-grown s s refl refl;
    enqueue_half = λ j u v e w can. same-grown s s refl refl;
    finish = λ j. same-grown s s refl refl;
    fail_readable = λ j reason. same-grown s s refl refl;
    fail_writable = λ j reason. same-grown s s refl refl;
    fail_half = λ u reason. same-grown s s refl refl;
    terminate = λ u. same-grown s s refl refl;
    pipe = λ source dest prevent signal e f l m. same-grown s _ refl refl;
    make_signal = same-grown s _ refl refl;
    open_end = λ side. ported-grown s side (record { 0 = length s.streams });
    send_readable = λ j there free. grown-on s (pipe_calls.add_port (record { 0 = length s.streams }) s WritableSide) _ refl refl (ported-grown s WritableSide (record { 0 = length s.streams }));
    send_writable = λ j there free. grown-on s (pipe_calls.add_port (record { 0 = length s.streams }) s ReadableSide) _ refl refl (ported-grown s ReadableSide (record { 0 = length s.streams }));
    deliver = λ p m e is. same-grown s s refl refl;
    trigger = λ a reason. same-grown s s refl refl;
    settle = λ a answer p e. same-grown s _ refl refl;
  })

  call-heard : (s : Slots) (c : Call) → heard r (begin c s).done.slots.promises ≡ heard r s.promises
  call-heard s c = begin-makes (λ z. heard r z.promises ≡ heard r s.promises) (record {
    promise = λ z k. fresh-heard r z.promises ∙ k;
    locks = λ z ls k. k;
    hosts = λ z hs k. k;
    pipe = λ z source dest prevent signal promise k. k;
    signal = λ z k. k;
    transform = λ z kind w y change k. k;
    tee = λ z source first second cancel k. k;
    port = λ z side stream backpressure k. k;
    bytes = λ z mark auto k. k;
    byob_requests = λ z hs k. k;
    readable = λ z o mark size k. k;
    writable = λ z o mark size k. k;
  }) c s refl

  new-lists : (one two hs : List Value) → one ≡ [] → two ++ hs ≡ [] → one ≡ (two ++ hs) ++ []
  new-lists one two hs e f = grind (arith, append-nil, e, f)

  grown-tells : (h : Both) (s z : Slots) (es : List Effect) → Grown s z → heard r z.promises ≡ heard r s.promises → calling r es ≡ [] → Tells h s [] → Tells h z es
  grown-tells h s z es g same none k = record {
    hosted = λ m. ⊎_elim (λ old. rw (same, none) (k.hosted old)) (λ new. rw (same, none) (new-lists h.one h.two (heard r s.promises) (k.unmade new.0) (k.unheard new.1))) (g.hosted m);
    unmade = λ absent. k.unmade (g.transforms absent);
    unheard = λ absent. rw same (k.unheard (g.streams absent));
  }

  -- nothing is said but where the host takes an event
  unsaid : (h : Both) (s : Slots) (es : List Effect) → Known h s es → Known (both_then h neither) s es
  unsaid h s es k = rw (are_both.right h) k

  knows : Goes both_then told said Known
  knows = record {
    row = λ h s e es k. record { prompted = prompted-stays.row s e es k.prompted; tells = row-tells h s e es k };
    call = λ h s c k. unsaid h (begin c s).done.slots (begin c s).done.caused (record {
      prompted = prompted-stays.call s c k.prompted;
      tells = grown-tells h s (begin c s).done.slots (begin c s).done.caused (call-grown s c) (call-heard s c) (plain-calling r (begin c s).done.caused (call-plain c s)) k.tells;
    });
    job = λ h s job e k. unsaid h (with_promises (after_next_job s.promises) s) (job_effects job) (record {
      prompted = prompted-stays.job s job e k.prompted;
      tells = grown-tells h s (with_promises (after_next_job s.promises) s) (job_effects job) (same-grown s _ refl refl) (next-heard r s.promises) (plain-calling r (job_effects job) (job-plain job)) k.tells;
    });
    idle = λ h s e k. unsaid h s [] k;
    answered = λ h s p k. record { prompted = prompted-stays.answered s p k.prompted; tells = grown-tells h s _ [] (same-grown s _ refl refl) (watch-heard r p s.promises) refl k.tells };
    older = λ h s k. record { prompted = prompted-stays.older s k.prompted; tells = grown-tells h s _ [] (same-grown s _ refl refl) refl refl k.tells };
  }

  -- the host takes an event

  taken-first : (es : List Event) → heard_transforms r (taken_event es) ++ heard_transforms r (later_events es) ≡ heard_transforms r es
  taken-first [] = refl
  taken-first (e ∷ es) = rw (append-nil (heard_transform r e)) refl

  takes : (two : List Value) (es : List Event) → (two ++ heard_transforms r (taken_event es)) ++ heard_transforms r (later_events es) ≡ two ++ heard_transforms r es
  takes two es = append_assoc two (heard_transforms r (taken_event es)) (heard_transforms r (later_events es)) ∙ ap (λ vs. two ++ vs) (taken-first es)

  knows-rests : Rests both_then said Known
  knows-rests = record {
    heard = λ h s k.
        let same = takes h.two s.promises.events in
        record {
          prompted = record { halved = k.prompted.halved; ended = k.prompted.ended; prompt = tt };
          tells = record {
            hosted = λ m. rw (append-nil h.one, same) (k.tells.hosted m);
            unmade = λ none. rw (append-nil h.one) (k.tells.unmade none);
            unheard = λ none. rw same (k.tells.unheard none);
          };
        };
  }

  -- runs

  abbrev happens : Slots → Entry → Both
  happens s x = both_then (said s x) (in_step neither both_then told s x)

  one-told : (ms : List Moment) → (along neither both_then told ms).one ≡ along [] ◌++◌ (effect_transformed t) ms
  one-told [] = refl
  one-told (m ∷ ms) = ap (λ vs. effect_transformed t m.effect m.found ++ vs) (one-told ms)

  two-told : (ms : List Moment) → (along neither both_then told ms).two ≡ []
  two-told [] = refl
  two-told (m ∷ ms) = two-told ms

  run-one : (xs : List Entry) (s : Slots) → (over neither both_then happens xs s).one ≡ run_transformed t xs s
  run-one [] s = refl
  run-one (x ∷ xs) s = rw (one-told (moments_in s x), run-one xs (step s x)) refl

  run-two : (xs : List Entry) (s : Slots) → (over neither both_then happens xs s).two ++ heard r (run xs s).promises ≡ heard_transforms r (run_events xs s)
  run-two [] s = refl
  run-two (x ∷ xs) s =
      let a = events-append r (taken_in_step s x) (run_events xs (step s x)) in
      let b = run-two xs (step s x) in
      let c = two-told (moments_in s x) in
      rw (a, c, ← b) (grind (arith, append_assoc, append-nil))

  none-known : Known neither empty []
  none-known = record { prompted = record { halved = halved-empty; ended = ended-empty; prompt = tt }; tells = record { hosted = λ m. refl; unmade = λ none. refl; unheard = λ none. refl } }

  pub run-tells : (entries : List Entry) → Hosted t r (run entries empty) → run_transformed t entries empty ≡ heard_transforms r (run_events entries empty)
  run-tells entries m =
      let k = walker.run-goes neither both_then are_both told said Known knows knows-rests entries neither empty none-known in
      sym (run-one entries empty) ∙ (k.tells.hosted m ∙ (append-nil _ ∙ run-two entries empty))

pub transforms_were_heard : TransformsWereHeard
transforms_were_heard entries t x is host =
    each_acted_is_transformed entries t x is ∙ run-tells t x.readable entries (transform_shape x, (map-there transform_shape (run entries empty).transforms t.0 x is, (refl, host)))
