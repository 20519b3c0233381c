-- The calls of an opening and of a node fail nothing by a TypeError: a pipe is made onto a new stream, and nobody asks anything of the ends of a pipe.
use Rattle.std.proofs.Common.{◌≡◌, ℕ, zero, suc, ◌+◌, ◌*◌, ◌≤◌, Bool, true, false, List, [], ◌∷◌, ◌++◌, Option, Some, None, slice_get, refl, sym, ap, subst, ◌∙◌, arith}
use Rattle.ws_value.specs.declared.ids.PipeId.{PipeId}
use Rattle.ws_value.specs.declared.ids.SignalId.{SignalId}
use Rattle.ws_value.specs.declared.ids.StreamId.{StreamId}
use Rattle.ws_value.specs.declared.value.Plain.{Plain}
use Rattle.ws_steps.specs.declared.calls.Call.{Call}
use Rattle.ws_steps.specs.declared.calls.Call.TheVariants.{MakeReadable, MakeBytes, MakeWritable, MakeTransform, Enqueue, Finish, Fail, Pipe, MakeSignal, Trigger, Open, Deliver, Settle}
use Rattle.ws_steps.specs.declared.pipes.Prevent.{Prevent}
use Rattle.ws_steps.specs.declared.transform.Kind.TheVariants.{Host as HostKind}
use Rattle.ws_steps.specs.Calls.{begin}
use Rattle.ws_steps.specs.Pipes as pipe
use Rattle.ws_steps.specs.Run.{Entry, Called, Worked, Heard, step, run, after_call}
use Rattle.ws_steps.specs.Slots.{Slots, empty, most_streams}
use Rattle.ws_link_laws.specs.Sound.{IsThere}
use Rattle.ws_pipe_laws.specs.locks.LockLaws.{all_spare}
use Rattle.ws_reason_laws.specs.Origins.{through_of}
use Rattle.ws_reason_laws.specs.Reasons.{failure_of, erred_by}
use Rattle.ws_reason_laws.proofs.Asking.{goes}
use Rattle.ws_reason_laws.proofs.Newly.{made-opens}
use Rattle.ws_reason_laws.proofs.Opening.{NewOpens}
use Rattle.ws_reason_laws.proofs.Runs.{spared}
use Rattle.ws_reason_laws.proofs.Weights.{bad_of, minds}
use Rattle.ws_wire_laws.specs.Wire.{Joint}
use Rattle.ws_wire_laws.specs.Segments.{wiring, nothing_made}
use Rattle.ws_chain_laws.specs.Chain.{Origin, FromChunks, FromBytes, FromPort, Target, ToSink, ToPort, source_of, dest_of}
use Rattle.ws_chain_laws.specs.Opening.{one_segment, nothing_prevented, piping, pipes_from, transforms, streams, signals, source_call, sink_call, opening, made, making}
use Rattle.ws_chain_laws.proofs.Begins as begins
use Rattle.ws_chain_laws.proofs.Begins.{run-append, young-sink, chain-ready}
use Rattle.ws_chain_laws.proofs.Readied.{Ready}
use Rattle.ws_chain_laws.proofs.Ready.{is-begun, ready-pipe}
use Rattle.ws_chain_laws.proofs.Wirings.{gives_at, hears_at}
use Rattle.ws_link_laws.specs.Link.{Ear, Giver}
use Rattle.ws_clone_laws.proofs.Walk.{IsOurs, bad, FineCall, AllFine}
use Rattle.ws_clone_laws.proofs.Ends.{AllOurs, streams-ours, signals-ours}
use Rattle.ws_reason_laws.proofs.Among.{is_among}
use Rattle.ws_value.specs.Values.{is_cloneable}

some_none : (x : pipe.Slots) → ◌≡◌ {A = Option pipe.Slots} (Some x) None → ⊥
some_none x e = cc

-- a call that makes no pipe
abbrev pub PipesNone : Call → Type 0
PipesNone (Pipe i j prevent signal) = ⊥
PipesNone _ = Unit {0}

ours-pipes : (c : Call) (s : Slots) → IsOurs c → PipesNone c → (begin c s).done.slots.pipes ≡ s.pipes
unfolding begin
ours-pipes (MakeReadable mark size start) s o n = grind arith
ours-pipes (MakeBytes mark auto start) s o n = grind arith
ours-pipes (MakeWritable mark size start) s o n = grind arith
ours-pipes (MakeTransform HostKind m l start) s o n = grind arith
ours-pipes MakeSignal s o n = grind arith
ours-pipes (Open side) s o n = grind arith
ours-pipes (Pipe i j prevent signal) s o n = absurd n
ours-pipes (Enqueue i v) s o n = grind arith
ours-pipes (Finish i) s o n = grind arith
ours-pipes (Fail i reason) s o n = grind arith
ours-pipes (Trigger a reason) s o n = grind arith
ours-pipes (Deliver c m) s o n = grind arith
ours-pipes (Settle h answer) s o n = grind arith
ours-pipes _ s o n = absurd o

none-new : (mind : StreamId → Prevent → Bool) (p : PipeId) (c : Call) (s : Slots) → IsOurs c → PipesNone c → NewOpens mind p c s
none-new mind p c s o n x none there m g = absurd (some_none x (sym there ∙ (ap (λ (xs : List pipe.Slots). slice_get xs p.0) (ours-pipes c s o n) ∙ none)))

erred-part : (f : Plain → ℕ) (c : Call) (s : Slots) → IsOurs c → through_of c s ≡ [] → bad_of f (erred_by c s) ≡ 0
erred-part f (Finish i) s o h = ap (bad_of f) h
erred-part f (MakeReadable mark size start) s o h = refl
erred-part f (MakeBytes mark auto start) s o h = refl
erred-part f (MakeWritable mark size start) s o h = refl
erred-part f (MakeTransform HostKind m l start) s o h = refl
erred-part f MakeSignal s o h = refl
erred-part f (Open side) s o h = refl
erred-part f (Pipe i j prevent signal) s o h = refl
erred-part f (Enqueue i v) s o h = refl
erred-part f (Fail i reason) s o h = refl
erred-part f (Trigger a reason) s o h = refl
erred-part f (Deliver c m) s o h = refl
erred-part f (Settle k answer) s o h = refl
erred-part f _ s o h = absurd o

module _ (rs : List Plain) (clone : (r : Plain) → is_among r rs ≡ true → is_cloneable r ≡ true) (me : PipeId) where
  -- after any run
  pub plain-fine : (pre : List Entry) (c : Call) (s : Slots) → run pre empty ≡ s → IsOurs c → PipesNone c → bad_of (bad rs clone).of (failure_of c) ≡ 0 → through_of c s ≡ [] → FineCall rs clone me s c
  plain-fine pre c s is o n good quiet = record {
    ours = o;
    good = good;
    erred = erred-part (bad rs clone).of c s o quiet;
    spares = subst (λ (z : Slots). (p : PipeId) (x : pipe.Slots) → slice_get z.pipes p.0 ≡ Some x → goes x.phase ≡ true → all_spare x.source x.dest (begin c z).done.caused ≡ true) is (λ p x e g. spared pre p c x e g);
    opens = λ p. none-new (minds (bad rs clone).of (bad rs clone).half me p) p c s o n;
  }

  -- a pipe of the opening
  pub piping-fine : (g : ℕ → Giver) (h : ℕ → Ear) (n c j : ℕ) (pre : List Entry) (s : Slots) → run pre empty ≡ s → (ready : Ready g h n c j s) → j ≤ n → (signal : Option SignalId) → IsThere signal s
      → FineCall rs clone me s (piping signal j)
  piping-fine g h n c j pre s is ready l signal there =
      let b = is-begun g h n c j s ready l signal there in
      let f = ready.free j (omega arith) l in
      let y = young-sink g h n c j j s ready (omega arith) l in
      record {
        ours = tt;
        good = refl;
        erred = refl;
        spares = subst (λ (z : Slots). (p : PipeId) (x : pipe.Slots) → slice_get z.pipes p.0 ≡ Some x → goes x.phase ≡ true → all_spare x.source x.dest (begin (piping signal j) z).done.caused ≡ true) is (λ p x e o. spared pre p (piping signal j) x e o);
        opens = λ p. rw b (λ x none there m o. made-opens (minds (bad rs clone).of (bad rs clone).half me p) p s (source_of j) (dest_of j) nothing_prevented signal (λ m. record { closing = rw (f.close_request, f.close_in_flight) refl; closed = rw y.state refl }) x none there m o);
      }

  pipes-fine : (g : ℕ → Giver) (h : ℕ → Ear) (n c j m : ℕ) (pre : List Entry) (s : Slots) → run pre empty ≡ s → Ready g h n c j s → j + m ≤ n → AllFine rs clone me (pipes_from j m) s
  pipes-fine g h n c j zero pre s is ready l = tt
  pipes-fine g h n c j (suc m) pre s is ready l = (
    piping-fine g h n c j pre s is ready (omega (arith, l)) None tt,
    pipes-fine g h n c (suc j) m (pre ++ Called (piping None j) ∷ []) (after_call (piping None j) s) (run-append pre (Called (piping None j) ∷ []) empty ∙ ap (after_call (piping None j)) is)
        (ready-pipe g h n c j s ready (omega (arith, l)) None tt) (omega (arith, l)),
  )

  fine-append : (xs ys : List Entry) (s : Slots) → AllFine rs clone me xs s → AllFine rs clone me ys (run xs s) → AllFine rs clone me (xs ++ ys) s
  fine-append [] ys s a b = b
  fine-append (x ∷ xs) ys s a b = (a.0, fine-append xs ys (step s x) a.1 b)

  abbrev AllPlain : List Entry → Type 0
  AllPlain [] = Unit {0}
  AllPlain (Called c ∷ xs) = (PipesNone c × ((s : Slots) → through_of c s ≡ [])) × AllPlain xs
  AllPlain (Worked ∷ xs) = ⊥
  AllPlain (Heard ∷ xs) = ⊥

  plains-append : (xs ys : List Entry) → AllPlain xs → AllPlain ys → AllPlain (xs ++ ys)
  plains-append [] ys a b = b
  plains-append (Called c ∷ xs) ys a b = (a.0, plains-append xs ys a.1 b)
  plains-append (Worked ∷ xs) ys a b = absurd a
  plains-append (Heard ∷ xs) ys a b = absurd a

  plains-fine : (pre xs : List Entry) (s : Slots) → run pre empty ≡ s → AllOurs xs → AllPlain xs → AllFine rs clone me xs s
  plains-fine pre [] s is o a = tt
  plains-fine pre (Called c ∷ xs) s is o a = (
    plain-fine pre c s is o.0.0 a.0.0 (ap (bad_of (bad rs clone).of) o.0.1) (a.0.1 s),
    plains-fine (pre ++ Called c ∷ []) xs (step s (Called c)) (run-append pre (Called c ∷ []) empty ∙ ap (λ (z : Slots). step z (Called c)) is) o.1 a.1,
  )
  plains-fine pre (Worked ∷ xs) s is o a = absurd a
  plains-fine pre (Heard ∷ xs) s is o a = absurd a

  source-plain : (o : Origin) → AllPlain (Called (source_call o) ∷ [])
  source-plain FromChunks = ((tt, λ s. refl), tt)
  source-plain FromBytes = ((tt, λ s. refl), tt)
  source-plain FromPort = ((tt, λ s. refl), tt)

  sink-plain : (t : Target) → AllPlain (Called (sink_call t) ∷ [])
  sink-plain ToSink = ((tt, λ s. refl), tt)
  sink-plain ToPort = ((tt, λ s. refl), tt)

  transforms-plain : (n : ℕ) → AllPlain (transforms n)
  transforms-plain zero = tt
  transforms-plain (suc n) = ((tt, λ s. refl), transforms-plain n)

  signals-plain : (b : Bool) → AllPlain (signals b)
  signals-plain false = tt
  signals-plain true = ((tt, λ s. refl), tt)

  streams-plain : (o : Origin) (t : Target) (n : ℕ) → AllPlain (streams o t n)
  streams-plain o t n = ((source-plain o).0, plains-append (transforms n) (Called (sink_call t) ∷ []) (transforms-plain n) (sink-plain t))

  pub opening-fine : (o : Origin) (t : Target) (n : ℕ) (b : Bool) → 2 * n + 2 ≤ most_streams → AllFine rs clone me (opening o t n b) empty
  opening-fine o t n b few =
      let first = plains-fine [] (streams o t n) empty refl (streams-ours o t n) (streams-plain o t n) in
      let second = plains-fine (streams o t n) (signals b) (run (streams o t n) empty) refl (signals-ours b) (signals-plain b) in
      let is : run (signals b) (run (streams o t n) empty) ≡ made o t n b = sym (run-append (streams o t n) (signals b) empty) in
      let ws : List Joint = wiring (one_segment o t n) nothing_made in
      let third = pipes-fine (gives_at ws) (hears_at ws) n (begins.count b) 0 n (making o t n b) (made o t n b) refl (chain-ready o t n b few) (omega arith) in
      fine-append (streams o t n) (signals b ++ pipes_from 0 n) empty first
      (fine-append (signals b) (pipes_from 0 n) (run (streams o t n) empty) second (subst (λ (z : Slots). AllFine rs clone me (pipes_from 0 n) z) (sym is) third))
