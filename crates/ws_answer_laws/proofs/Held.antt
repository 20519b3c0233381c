-- What holds of the reads of a byte stream at each moment, and how each operation of the stream and the steps of its requests keep it.
use Rattle.std.proofs.Common.{◌≡◌, ◌≢◌, ◌⊎◌, inl, inr, ⊎_elim, ℕ, ◌+◌, Bool, true, false, not, ◌&&◌, if◌then◌else◌, List, [], ◌∷◌, ◌++◌, map, Option, Some, None, is_some, refl, sym, ap, subst, ◌∙◌, append_assoc, append-nil, arith}
use Rattle.std.proofs.lemmas.List.Elements.{All-nil, All-cons, All-append, All-weaker}
use Rattle.ws_value.specs.declared.{ids.PromiseId.{PromiseId}, ids.StreamId.{StreamId}, value.Plain.{Plain}, value.Value.TheVariants.{Plain as PlainValue, Bytes}}
use Rattle.ws_steps.specs.declared.byte.ByteOperation.{ByteOperation}
use Rattle.ws_steps.specs.declared.byte.ByteOperation.TheVariants as own
use Rattle.ws_steps.specs.declared.effects.Effect.{Effect}
use Rattle.ws_steps.specs.declared.effects.Effect.TheVariants.{ChunkSteps, CloseSteps, CloseStepsWith, ErrorSteps}
use Rattle.ws_steps.specs.declared.readable.{ReadRequest.{ReadRequest}, ReadableOperation.{ReadableOperation}, ReadableState.{ReadableState}, ReadableState.TheVariants.{Readable, Closed, Errored}}
use Rattle.ws_steps.specs.declared.readable.ReadableOperation.TheVariants as names
use Rattle.ws_steps.specs.Bytes.{Slots, Acts, has_default_reader, is_byob, is_of_tee, reader_release, release_steps}
use Rattle.ws_steps.specs.ByteHistory.{ByteFlow}
use Rattle.ws_steps.specs.Effects.{Out, type_error}
use Rattle.ws_steps.specs.Operations.{byte_readable_operation, byte_operation}
use Rattle.ws_steps.specs.Promises.{Table}
use Rattle.ws_steps.specs.Readable as readable
use Rattle.ws_laws.proofs.Lists.{Each, append_none}
use Rattle.ws_laws.proofs.ReadableDoes.{is_taking}
use Rattle.ws_laws.proofs.Truth.{nor_left, nor_right}
use Rattle.ws_laws.proofs.Tables.{is_same-refl}
use Rattle.ws_byte_laws.specs.Descriptors as sound
use Rattle.ws_byte_laws.proofs.Given.{given_by, given, starting}
use Rattle.ws_byte_laws.proofs.Gifts.{nothing_given}
use Rattle.ws_answer_laws.specs.ByteReads.{ByteReads, no_reads, one_asked, overtakes, shared_reads, spills, own_reads, ByteAnswer, Gets, HandedBack, Ends, Fails, Released, Answered, requests_of, in_line, overtakers, released_of}
use Rattle.ws_answer_laws.specs.Answering.{weight_of, Allows}
use Rattle.ws_answer_laws.proofs.Asking.{weight-append, Asked, Finds, shared-asked, own-asked, none-overtakes}
use Rattle.ws_answer_laws.proofs.InOrder.{IsOwnFree}
use Rattle.ws_answer_laws.proofs.Lines.{answered}
use Rattle.ws_answer_laws.proofs.Lawful.{IsLawful, Fine, IsNoRelease, operation-fine, IsByobs, own-fine}
use Rattle.ws_answer_laws.proofs.Tidy.{Tidy, live_default, shared-tidy, own-tidy}
use Rattle.ws_answer_laws.proofs.Told.{Done, done_of, effect_done, to_come, answers, answers-requests, answers-stay, answers-done, AllAllowed, answers-allowed, bytes_of, bytes_of-append, done-append, Told, told_then, is_release, mark, mark-done, mark-requests, mark-released, mark-allowed, Marked, answers-marked}

-- whether these steps are among those
abbrev pub IsIn : Done → List Done → Type 0
IsIn d [] = ⊥
IsIn d (e ∷ es) = (e ≡ d) ⊎ IsIn d es

in_first : (d : Done) (ds es : List Done) → IsIn d ds → IsIn d (ds ++ es)
in_first d [] es h = absurd h
in_first d (x ∷ xs) es (inl e) = inl e
in_first d (x ∷ xs) es (inr h) = inr (in_first d xs es h)

in_last : (d : Done) (ds es : List Done) → IsIn d es → IsIn d (ds ++ es)
in_last d [] es h = h
in_last d (x ∷ xs) es h = inr (in_last d xs es h)

in_either : (d : Done) (ds es : List Done) → IsIn d (ds ++ es) → IsIn d ds ⊎ IsIn d es
in_either d [] es h = inr h
in_either d (x ∷ xs) es (inl e) = inl (inl e)
in_either d (x ∷ xs) es (inr h) = ⊎_elim (λ a. inl (inr a)) (λ b. inr b) (in_either d xs es h)

-- more stand in the midst
in_midst : (d : Done) (ds es fs : List Done) → IsIn d (ds ++ fs) → IsIn d (ds ++ (es ++ fs))
in_midst d ds es fs h = ⊎_elim (λ a. in_first d ds (es ++ fs) a) (λ b. in_last d ds (es ++ fs) (in_last d es fs b)) (in_either d ds fs h)

-- All that operations decided on was performed or is still to be, and its bytes in this order
pub record Held (h : Told) (x : Slots) (ps : List Done) : Type 0 where
  pub all : (w : ReadRequest → ℕ) → weight_of w (requests_of h.decided) + weight_of w x.stream.requests ≡ weight_of w h.reads.asked
  pub lined : requests_of (in_line h.decided) ++ x.stream.requests ≡ h.reads.lined
  pub overtook : requests_of (overtakers h.decided) ≡ h.reads.overtaking
  pub in_turn : h.reads.overtaking ≡ [] → requests_of h.decided ++ x.stream.requests ≡ h.reads.asked
  pub calm : h.reads.spilled ≡ false → (h.reads.overtaking ≡ []) × Tidy x
  pub released : released_of h.decided ≡ h.reads.released
  pub allowed : AllAllowed x h.decided
  pub ended : has_default_reader x ≡ true → x.stream.state ≢ Readable → x.stream.requests ≡ []
  pub covers : (d : Done) → IsIn d (map done_of h.decided) → IsIn d (h.done ++ ps)
  pub bytes : bytes_of (h.done ++ ps) ≡ bytes_of (map done_of h.decided)

requests_of-append : (xs ys : List Answered) → requests_of (xs ++ ys) ≡ requests_of xs ++ requests_of ys
requests_of-append [] ys = refl
requests_of-append (x ∷ xs) ys = ap (λ (rs : List ReadRequest). x.request ∷ rs) (requests_of-append xs ys)

released_of-append : (xs ys : List Answered) → released_of (xs ++ ys) ≡ released_of xs ++ released_of ys
released_of-append [] ys = refl
released_of-append (x ∷ xs) ys = by x.answer (released_of-append xs ys)
  where
    by : (w : ByteAnswer) → released_of (xs ++ ys) ≡ released_of xs ++ released_of ys
        → released_of (record x { answer = w } ∷ (xs ++ ys)) ≡ released_of (record x { answer = w } ∷ xs) ++ released_of ys
    by (Gets b) e = e
    by (HandedBack b) e = e
    by Ends e = e
    by (Fails r) e = e
    by Released e = ap (λ (rs : List ReadRequest). x.request ∷ rs) e

line-append : (xs ys : List Answered) → in_line (xs ++ ys) ≡ in_line xs ++ in_line ys
line-append [] ys = refl
line-append (x ∷ xs) ys = by x.overtook (line-append xs ys)
  where
    by : (c : Bool) → in_line (xs ++ ys) ≡ in_line xs ++ in_line ys → (if c then in_line (xs ++ ys) else x ∷ in_line (xs ++ ys)) ≡ (if c then in_line xs else x ∷ in_line xs) ++ in_line ys
    by true e = e
    by false e = ap (λ (zs : List Answered). x ∷ zs) e

overtakers-append : (xs ys : List Answered) → overtakers (xs ++ ys) ≡ overtakers xs ++ overtakers ys
overtakers-append [] ys = refl
overtakers-append (x ∷ xs) ys = by x.overtook (overtakers-append xs ys)
  where
    by : (c : Bool) → overtakers (xs ++ ys) ≡ overtakers xs ++ overtakers ys → (if c then x ∷ overtakers (xs ++ ys) else overtakers (xs ++ ys)) ≡ (if c then x ∷ overtakers xs else overtakers xs) ++ overtakers ys
    by true e = ap (λ (zs : List Answered). x ∷ zs) e
    by false e = e

-- what was allowed stays allowed
Stays : Slots → Slots → Type 0
Stays x y = x.stream.state ≢ Readable → (y.stream.state ≡ x.stream.state) × (y.stream.stored_error ≡ x.stream.stored_error)

closed_not : (state : ReadableState) → state ≡ Closed → state ≢ Readable
closed_not state e f = cc

errored_not : (state : ReadableState) → state ≡ Errored → state ≢ Readable
errored_not state e f = cc

allowed_later : (x y : Slots) (w : ByteAnswer) → Stays x y → Allows x w → Allows y w
unfolding Stays
allowed_later x y (Gets b) s k = tt
allowed_later x y (HandedBack b) s k = (s (closed_not x.stream.state k)).0 ∙ k
allowed_later x y Ends s k = (s (closed_not x.stream.state k)).0 ∙ k
allowed_later x y (Fails e) s k = let z = s (errored_not x.stream.state k.0) in (z.0 ∙ k.0, k.1 ∙ sym z.1)
allowed_later x y Released s k = tt

-- what an operation decides on, of which so much is still to come
record Decides (r : ByteReads) (x : Slots) (a : Acts) (xs : List Answered) (ds : List Done) : Type 0 where
  asked : Asked r x a
  requests : requests_of xs ≡ answered a.out.effects
  marked : Marked asked.first r.overtaking xs
  calm : Tidy x → r.spilled ≡ false → (r.overtaking ≡ []) × Tidy a.slots
  done : map done_of xs ≡ ds
  released : released_of xs ≡ r.released
  allowed : AllAllowed a.slots xs
  stays : Stays x a.slots
  ended : has_default_reader a.slots ≡ true → a.slots.stream.state ≢ Readable → a.slots.stream.requests ≡ []

-- its bytes stand before none that are still to be given
gives_first : (ds ps es : List Done) → (bytes_of ps ≡ []) ⊎ (bytes_of es ≡ []) → bytes_of (ds ++ (es ++ ps)) ≡ bytes_of (ds ++ ps) ++ bytes_of es
gives_first ds ps es (inl n) = rw (bytes_of-append ds (es ++ ps), bytes_of-append es ps, bytes_of-append ds ps, n) (simp append-nil)
gives_first ds ps es (inr n) = rw (bytes_of-append ds (es ++ ps), bytes_of-append es ps, bytes_of-append ds ps, n) (simp append-nil)

decided-held : (r : ByteReads) (f : ByteFlow) (h : Told) (x : Slots) (a : Acts) (xs : List Answered) (ds ps : List Done) → Decides r x a xs ds → (bytes_of ps ≡ []) ⊎ (bytes_of ds ≡ []) → Held h x ps
    → Held (told_then h (record { flow = f; reads = r; decided = xs; done = [] })) a.slots (ds ++ ps)
decided-held r f h x a xs ds ps k n old = record {
  all = λ w.
      let m = old.all w in
      let l = k.asked.all w in
      let p = weight-append w (answered a.out.effects) a.slots.stream.requests in
      let q = ap (weight_of w) (requests_of-append h.decided xs) in
      let c = weight-append w (requests_of h.decided) (requests_of xs) in
      let s = ap (weight_of w) k.requests in
      let t = weight-append w h.reads.asked r.asked in omega (arith, m, l, p, q, c, s, t);
  lined =
      rw (
        line-append h.decided xs,
        requests_of-append (in_line h.decided) (in_line xs),
        k.marked.lined,
        append_assoc (requests_of (in_line h.decided)) k.asked.first a.slots.stream.requests,
        k.asked.lined,
        ← append_assoc (requests_of (in_line h.decided)) x.stream.requests r.lined,
        old.lined,
      ) refl;
  overtook = rw (overtakers-append h.decided xs, requests_of-append (overtakers h.decided) (overtakers xs), old.overtook, k.marked.overtook) refl;
  in_turn = λ o.
      let none = append_none h.reads.overtaking r.overtaking o in
      let here : requests_of xs ++ a.slots.stream.requests ≡ x.stream.requests ++ r.asked = ap (λ (rs : List ReadRequest). rs ++ a.slots.stream.requests) k.requests ∙ k.asked.in_turn none.1 in
      let before : requests_of h.decided ++ x.stream.requests ≡ h.reads.asked = old.in_turn none.0 in
      rw (requests_of-append h.decided xs, append_assoc (requests_of h.decided) (requests_of xs) a.slots.stream.requests, here, ← append_assoc (requests_of h.decided) x.stream.requests r.asked, before) refl;
  calm = λ o.
      let before = old.calm (nor_left h.reads.spilled r.spilled o) in
      let now = k.calm before.1 (nor_right h.reads.spilled r.spilled o) in (rw (before.0, now.0) refl, now.1);
  released = rw (released_of-append h.decided xs, old.released, k.released) refl;
  allowed =
      All-append (λ z. Allows a.slots z.answer) h.decided xs
      (All-weaker (λ z. Allows x z.answer) (λ z. Allows a.slots z.answer) (λ z b. allowed_later x a.slots z.answer k.stays b) h.decided old.allowed) k.allowed;
  ended = k.ended;
  covers = λ d is.
      let two : IsIn d (map done_of h.decided ++ ds) = rw (done-append h.decided xs, k.done) at is in
      rw (append-nil h.done)
      (⊎_elim (λ e. in_midst d h.done ds ps (old.covers d e)) (λ e. in_last d h.done (ds ++ ps) (in_first d ds ps e)) (in_either d (map done_of h.decided) ds two));
  bytes =
      rw (append-nil h.done, done-append h.decided xs, k.done, bytes_of-append (map done_of h.decided) ds)
      (gives_first h.done ps ds n ∙ ap (λ (b : List ℕ). b ++ bytes_of ds) old.bytes);
}

-- what stood first was performed
pub performed-held : (ds : List Done) (f : ByteFlow) (h : Told) (x : Slots) (ps : List Done) → Held h x (ds ++ ps) → Held (told_then h (record { flow = f; reads = no_reads; decided = []; done = ds })) x ps
performed-held ds f h x ps k = record {
  all = λ w. rw (append-nil h.decided, append-nil h.reads.asked) (k.all w);
  lined = rw (append-nil h.decided, append-nil h.reads.lined) k.lined;
  overtook = rw (append-nil h.decided, append-nil h.reads.overtaking) k.overtook;
  in_turn = λ o. rw (append-nil h.decided, append-nil h.reads.asked) (k.in_turn (append_none h.reads.overtaking [] o).0);
  calm = λ o. let c = k.calm (nor_left h.reads.spilled false o) in (rw (c.0) refl, c.1);
  released = rw (append-nil h.decided, append-nil h.reads.released) k.released;
  allowed = rw (append-nil h.decided) k.allowed;
  ended = k.ended;
  covers = λ d is. rw (append_assoc h.done ds ps) (k.covers d (rw (append-nil h.decided) at is));
  bytes = rw (append_assoc h.done ds ps, append-nil h.decided) k.bytes;
}

-- what lawful steps give
one-given : (me : StreamId) (state : ReadableState) (r : Plain) (e : Effect) (more : List Done) (b : List ℕ) → IsLawful me state r e → bytes_of more ≡ b → bytes_of (effect_done me e ++ more) ≡ given_by e ++ b
one-given me state r (ChunkSteps j q (Bytes c)) more b l n = rw (← l, is_same-refl) (ap (λ (d : List ℕ). c ++ d) n)
one-given me state r (ChunkSteps j q (PlainValue v)) more b l n = absurd l
one-given me state r (CloseSteps j q) more b l n = rw (← l.0, is_same-refl) n
one-given me state r (CloseStepsWith j q c) more b l n = rw (← l.0, is_same-refl) (ap (λ (d : List ℕ). c ++ d) n)
one-given me state r (ErrorSteps j q e) more b l n = rw (← l.0, is_same-refl) n
one-given me state r e more b l n = n

lawful-given : (me : StreamId) (state : ReadableState) (r : Plain) (es : List Effect) → Each (IsLawful me state r) es → bytes_of (to_come me es) ≡ given es
lawful-given me state r [] l = refl
lawful-given me state r (e ∷ es) l = one-given me state r e (to_come me es) (given es) l.0 (lawful-given me state r es l.1)

-- the requests of a reader that goes
abbrev all_released : List ReadRequest → List Answered
all_released [] = []
all_released (q ∷ qs) = record { request = q; answer = Released; overtook = false } ∷ all_released qs

module _ (me : StreamId) where
  released-answers : (qs : List ReadRequest) → answers true (readable.error_all me type_error qs) ≡ all_released qs
  released-answers [] = refl
  released-answers (q ∷ qs) = ap (λ (xs : List Answered). record { request = q; answer = Released; overtook = false } ∷ xs) (released-answers qs)

  released-done : (qs : List ReadRequest) → map done_of (all_released qs) ≡ to_come me (readable.error_all me type_error qs)
  released-done [] = refl
  released-done (q ∷ qs) = rw is_same-refl (ap (λ (ds : List Done). done_of (record { request = q; answer = Released; overtook = false }) ∷ ds) (released-done qs))

  released-all : (qs : List ReadRequest) → released_of (all_released qs) ≡ qs
  released-all [] = refl
  released-all (q ∷ qs) = ap (λ (rs : List ReadRequest). q ∷ rs) (released-all qs)

  released-allowed : (x : Slots) (qs : List ReadRequest) → AllAllowed x (all_released qs)
  released-allowed x [] = All-nil (λ a. Allows x a.answer)
  released-allowed x (q ∷ qs) = All-cons (λ a. Allows x a.answer) (record { request = q; answer = Released; overtook = false }) (all_released qs) tt (released-allowed x qs)

  released-bytes : (qs : List ReadRequest) → bytes_of (to_come me (readable.error_all me type_error qs)) ≡ []
  released-bytes [] = refl
  released-bytes (q ∷ qs) = rw is_same-refl (released-bytes qs)

  -- how the release of a reader leaves a stream
  record Goes (x : Slots) (a : Acts) : Type 0 where
    effects : a.out.effects ≡ readable.error_all me type_error (readable.waiting x.stream)
    state : a.slots.stream.state ≡ x.stream.state
    error : a.slots.stream.stored_error ≡ x.stream.stored_error
    reader : is_some a.slots.stream.reader ≡ false

  goes_closed : (c : PromiseId) (out : Out) (state : ReadableState) → (readable.release_closed c out state).effects ≡ out.effects
  goes_closed c out Readable = refl
  goes_closed c out Closed = refl
  goes_closed c out Errored = refl

  goes_by : (x : Slots) (t : Table) (o : Option PromiseId) → o ≡ x.stream.reader → let b : readable.Acts = readable.release_by me (record { slots = x.stream; out = (starting x t).out }) o in
      Goes x (record { slots = record (release_steps (starting x t)).slots { stream = b.slots }; out = b.out })
  goes_by x t None e = record { effects = rw (← e) refl; state = refl; error = refl; reader = rw (← e) refl }
  goes_by x t (Some c) e = record { effects = rw (← e, goes_closed c (starting x t).out x.stream.state) refl; state = refl; error = refl; reader = refl }

  goes : (x : Slots) (t : Table) → Goes x (reader_release me (starting x t))
  unfolding reader_release readable.reader_release
  goes x t = goes_by x t x.stream.reader refl

  none_has : (o : Option PromiseId) (c : Bool) → is_some o ≡ false → is_some o && c ≡ true → ⊥
  none_has None c e d = cc
  none_has (Some p) c e d = cc

  release-decides : (x : Slots) (t : Table) → let a : Acts = byte_readable_operation me names.ReleaseReader (starting x t) in
      Decides (record no_reads { released = readable.waiting x.stream }) x a (answers true a.out.effects) (to_come me a.out.effects)
  unfolding Stays
  release-decides x t =
      let a : Acts = byte_readable_operation me names.ReleaseReader (starting x t) in
      let g : Goes x a = goes x t in
      let qs : List ReadRequest = readable.waiting x.stream in
      let k : Asked (record no_reads { released = qs }) x a = shared-asked me x t names.ReleaseReader tt in
      record {
        asked = k;
        requests = answers-requests true a.out.effects;
        marked = answers-marked true a.out.effects k.first [] k.answers (inl refl);
        calm = λ c n. (refl, shared-tidy me names.ReleaseReader (starting x t) tt c);
        done = rw (g.effects, released-answers) (released-done qs);
        released = rw (g.effects, released-answers) (released-all qs);
        allowed = rw (g.effects, released-answers) (released-allowed a.slots qs);
        stays = λ n. (g.state, g.error);
        ended = λ d n. absurd (none_has a.slots.stream.reader (not (is_byob a.slots.reader_kind)) g.reader d);
      }

  started : (h : Told) (x : Slots) (t : Table) (ps : List Done) → Held h x ps → Fine me x.stream.state x.stream.stored_error (starting x t)
  started h x t ps k = record { steps = tt; ended = k.ended; stays = λ n. (refl, refl) }

  -- at most one read overtakes
  abbrev IsOne : List ReadRequest → Type 0
  IsOne over = (over ≡ []) ⊎ ((q : ReadRequest) × (over ≡ q ∷ []))

  fine-decides : (r : ByteReads) (x : Slots) (a : Acts) → Asked r x a → IsOne r.overtaking → r.released ≡ [] → (Tidy x → r.spilled ≡ false → (r.overtaking ≡ []) × Tidy a.slots) → Fine me x.stream.state x.stream.stored_error a
      → Decides r x a (mark r.overtaking (answers false a.out.effects)) (to_come me a.out.effects)
  unfolding Stays
  fine-decides r x a k one n calm f =
      let xs : List Answered = answers false a.out.effects in
      record {
        asked = k;
        requests = mark-requests r.overtaking xs ∙ answers-requests false a.out.effects;
        marked = answers-marked false a.out.effects k.first r.overtaking k.answers one;
        calm = calm;
        done = mark-done r.overtaking xs ∙ answers-done me a.slots.stream.state a.slots.stream.stored_error a.out.effects f.steps;
        released = mark-released r.overtaking xs ∙ (answers-stay a.out.effects ∙ sym n);
        allowed = mark-allowed a.slots r.overtaking xs (answers-allowed me a.slots a.out.effects f.steps);
        stays = f.stays;
        ended = f.ended;
      }

  taking : (op : ReadableOperation) (c : Bool) → c ≡ is_taking op → (is_taking op ≡ true) ⊎ (is_taking op ≡ false)
  taking op true e = inl (sym e)
  taking op false e = inr (sym e)

  -- an operation that isn't to take gives nothing
  or_nothing : (op : ReadableOperation) (x : Slots) (t : Table) (ps : List Done) → (is_taking op ≡ true → bytes_of ps ≡ []) → bytes_of (to_come me (byte_readable_operation me op (starting x t)).out.effects) ≡ given (byte_readable_operation me op (starting x t)).out.effects
      → (bytes_of ps ≡ []) ⊎ (bytes_of (to_come me (byte_readable_operation me op (starting x t)).out.effects) ≡ [])
  or_nothing op x t ps c e = ⊎_elim (λ y. inl (c y)) (λ y. inr (e ∙ nothing_given me op x t y)) (taking op (is_taking op) refl)

  fine-held : (op : ReadableOperation) (t : Table) (f : ByteFlow) (h : Told) (x : Slots) (ps : List Done) → IsNoRelease me x.stream.state x.stream.stored_error op → IsOne (shared_reads op x).overtaking → (shared_reads op x).released ≡ []
      → (Tidy x → (shared_reads op x).overtaking ≡ []) → Finds op x → (is_taking op ≡ true → bytes_of ps ≡ []) → Held h x ps
      → let a : Acts = byte_readable_operation me op (starting x t) in
      Held (told_then h (record { flow = f; reads = shared_reads op x; decided = mark (shared_reads op x).overtaking (answers false a.out.effects); done = [] })) a.slots (to_come me a.out.effects ++ ps)
  fine-held op t f h x ps n one gone over finds c k =
      let a : Acts = byte_readable_operation me op (starting x t) in
      let fine : Fine me x.stream.state x.stream.stored_error a = operation-fine me x.stream.state x.stream.stored_error op (starting x t) n (started h x t ps k) in
      decided-held (shared_reads op x) f h x a (mark (shared_reads op x).overtaking (answers false a.out.effects)) (to_come me a.out.effects) ps
      (fine-decides (shared_reads op x) x a (shared-asked me x t op finds) one gone (λ calm n. (over calm, shared-tidy me op (starting x t) finds calm)) fine)
      (or_nothing op x t ps c (lawful-given me a.slots.stream.state a.slots.stream.stored_error a.out.effects fine.steps)) k

  read_one : (q : ReadRequest) (over tee : Bool) → let r : ByteReads = if tee then no_reads else one_asked q over in IsOne r.overtaking × (r.released ≡ [])
  read_one q over true = (inl refl, refl)
  read_one q true false = (inr (q, refl), refl)
  read_one q false false = (inl refl, refl)

  pub operation-held : (op : ReadableOperation) (t : Table) (f : ByteFlow) (h : Told) (x : Slots) (ps : List Done) → Finds op x → (is_taking op ≡ true → bytes_of ps ≡ []) → Held h x ps
      → let a : Acts = byte_readable_operation me op (starting x t) in
      Held (told_then h (record { flow = f; reads = shared_reads op x; decided = mark (shared_reads op x).overtaking (answers (is_release op) a.out.effects); done = [] })) a.slots (to_come me a.out.effects ++ ps)
  operation-held names.ReleaseReader t f h x ps finds c k =
      let a : Acts = byte_readable_operation me names.ReleaseReader (starting x t) in
      decided-held (record no_reads { released = readable.waiting x.stream }) f h x a (answers true a.out.effects) (to_come me a.out.effects) ps (release-decides x t)
      (inr (rw (goes x t).effects (released-bytes (readable.waiting x.stream)))) k
  operation-held (names.Read q) t f h x ps finds c k =
      let one = read_one q (overtakes x) (is_of_tee q) in
      fine-held (names.Read q) t f h x ps tt one.0 one.1
      (λ calm. none-overtakes q x (λ r. calm (live_default x.stream.state (has_default_reader x) finds.0 r) r) (overtakes x) (is_of_tee q) refl) finds c k
  operation-held op t f h x ps finds c k = fine-held op t f h x ps tt (inl refl) refl (λ calm. refl) finds c k

  own_one : (op : ByteOperation) (x : Slots) → ((own_reads op x).overtaking ≡ []) × ((own_reads op x).released ≡ [])
  own_one (own.PullInto room element minimum q) x = (refl, refl)
  own_one op x = (refl, refl)

  own_spills : (op : ByteOperation) (x : Slots) → (own_reads op x).spilled ≡ spills op x
  own_spills (own.PullInto room element minimum q) x = refl
  own_spills op x = refl

  pub own-held : (op : ByteOperation) (t : Table) (f : ByteFlow) (h : Told) (x : Slots) (ps : List Done) → IsOwnFree op x → IsByobs me x.stream.state x.stream.stored_error op x → sound.Held x → bytes_of ps ≡ [] → Held h x ps
      → let a : Acts = byte_operation me op (starting x t) in
      Held (told_then h (record { flow = f; reads = own_reads op x; decided = answers false a.out.effects; done = [] })) a.slots (to_come me a.out.effects ++ ps)
  own-held op t f h x ps free byobs held n k =
      let a : Acts = byte_operation me op (starting x t) in
      let fine : Fine me x.stream.state x.stream.stored_error a = own-fine me x.stream.state x.stream.stored_error op (starting x t) byobs (started h x t ps k) in
      let one = own_one op x in
      let marks : mark (own_reads op x).overtaking (answers false a.out.effects) ≡ answers false a.out.effects = rw one.0 refl in
      subst (λ (xs : List Answered). Held (told_then h (record { flow = f; reads = own_reads op x; decided = xs; done = [] })) a.slots (to_come me a.out.effects ++ ps)) marks
      (decided-held (own_reads op x) f h x a (mark (own_reads op x).overtaking (answers false a.out.effects)) (to_come me a.out.effects) ps
      (fine-decides (own_reads op x) x a (own-asked me x t op free) (inl one.0) one.1
      (λ calm n. (one.0, own-tidy me op (starting x t) free byobs held (λ m. (fine.stays m).0) (sym (own_spills op x) ∙ n) calm)) fine) (inl n) k)
