-- When a port with a writable end posts a close (`each_writable_end_posts_close_last`).
use Rattle.std.specs.Prelude.{is_some}
use Rattle.std.proofs.Common.{◌≡◌, ◌<◌, ℕ, ◌⊎◌, inl, inr, ⊎_elim, Bool, true, false, ◌||◌, if◌then◌else◌, List, [], ◌∷◌, ◌++◌, Option, Some, None, slice_get, refl, sym, ap, ◌∙◌, append-nil, append_assoc, arith}
use Rattle.ws_value.specs.declared.ids.{PortId.{PortId}, PromiseId.{PromiseId}, StreamId.{StreamId}, PipeId.{PipeId}, TeeId.{TeeId}}
use Rattle.ws_value.specs.declared.value.Message.{Message}
use Rattle.ws_value.specs.declared.value.Message.TheVariants.{Pull as PullMessage, Chunk as ChunkMessage, Error as ErrorMessage}
use Rattle.ws_value.specs.Values.{is_cloneable}
use Rattle.ws_steps.specs.declared.calls.Call.{Call}
use Rattle.ws_steps.specs.declared.effects.{Effect.{Effect}, Owner.{Owner}, Owner.TheVariants.{Host, HalfOf, BranchOf, EndOf}, Use.{Use}}
use Rattle.ws_steps.specs.declared.effects.Effect.TheVariants.{Pipe as OnPipe, Transform as OnTransform, Tee as OnTee, Port as OnPort, CloseAlgorithm}
use Rattle.ws_steps.specs.declared.port.PortOperation.{PortOperation}
use Rattle.ws_steps.specs.declared.port.PortOperation.TheVariants as ports
use Rattle.ws_steps.specs.declared.port.{Side.{Side}, Side.TheVariants.{Readable as ReadableSide, Writable as WritableSide}}
use Rattle.ws_steps.specs.Calls.{begin}
use Rattle.ws_steps.specs.Cross as cross
use Rattle.ws_steps.specs.Cross.{data_clone}
use Rattle.ws_steps.specs.Histories as histories
use Rattle.ws_steps.specs.Histories.{is_same, along, over, run_events, taken_event}
use Rattle.ws_steps.specs.Jobs.{job_effects}
use Rattle.ws_steps.specs.PortHistory.{is_same_port, posted_in}
use Rattle.ws_steps.specs.Promises.{after_next_job}
use Rattle.ws_steps.specs.Run.{Entry, Called, run, step, later_events, moments_in}
use Rattle.ws_steps.specs.Slots.{Slots, Done, empty, owner_at, as_port, clones_at, with_promises}
use Rattle.ws_steps.specs.Turns.{Moment, row, close_algorithm}
use Rattle.ws_steps.specs.WritableHistory.{Writes, no_writes, writes_then, effect_writes, run_writes}
use Rattle.ws_laws.proofs.Ended.{PortShape, port_shape, port_shapes, HasEnd, Ended, row-port_shapes}
use Rattle.ws_laws.proofs.Lists.{Each, each-append, each-map}
use Rattle.ws_laws.proofs.PipeDoes.{PipeCauses}
use Rattle.ws_laws.proofs.PortDoes.{PortCauses}
use Rattle.ws_laws.proofs.Causes.{Causes, row-causes}
use Rattle.ws_laws.proofs.Shapes.{map-there}
use Rattle.ws_laws.proofs.Tables.{is_same-refl, eq_numbers}
use Rattle.ws_laws.proofs.TeeDoes.{TeeCauses}
use Rattle.ws_laws.proofs.TransformDoes.{TransformCauses}
use Rattle.ws_laws.proofs.Walker as walker
use Rattle.ws_laws.proofs.Walker.{Goes, Rests}
use Rattle.ws_writable_laws.proofs.Runs.{is_history}
use Rattle.ws_tee_port_laws.specs.ports.Ended.{has_close, is_close, EachWritableEndPostsCloseLast}
use Rattle.ws_tee_port_laws.proofs.ports.ActedPlaces.{Mine}
use Rattle.ws_tee_port_laws.proofs.ports.ActedRuns.{Deeds, nothing_done, then_done, done-history, told, happened}
use Rattle.ws_tee_port_laws.proofs.ports.Ends.{heard-said}
use Rattle.ws_tee_port_laws.proofs.ports.Fitting.{IsBegun, call-begun, job-begun, fitting-empty, owned-shape}
use Rattle.ws_tee_port_laws.proofs.ports.Once.{row-leaves, row-mine, no-mine, by-port}
use Rattle.ws_tee_port_laws.proofs.ports.Posting.{given, given_first, is_same_port-refl}
use Rattle.ws_tee_port_laws.proofs.ports.PostingRuns.{Past, nothing_past, then_past, past-history, said, all_posted, Whole, posting-goes, posting-rests, PortsNow, call-ports, split-events}
use Rattle.ws_tee_port_laws.proofs.ports.Told.{posted, posted-append, call-events, next-events, watch-posted}
use Rattle.ws_tee_port_laws.proofs.ports.WritableEnds.{each_writable_end_is_lawful}
use Rattle.ws_laws.proofs.Halves.{get-stays}

-- no close that is to be posted
abbrev IsNoClose : Effect → Type 0
IsNoClose (OnPort d (ports.Close u)) = ⊥
IsNoClose _ = Unit {0}

abbrev IsPlain : Effect → Type 0
IsPlain (CloseAlgorithm k) = ⊥
IsPlain _ = Unit {0}

pipe-none : (p : PipeId) (source dest : StreamId) (e : Effect) → PipeCauses p source dest e → IsNoClose e
pipe-none p source dest e k = grind (arith, k)

tee-none : (t : TeeId) (source first second : StreamId) (e : Effect) → TeeCauses t source first second e → IsNoClose e
tee-none t source first second e k = grind (arith, k)

transform-none : (t : _) (w r : StreamId) (e : Effect) → TransformCauses t w r e → IsNoClose e
transform-none t w r e k = grind (arith, k)

port-none : (d : PortId) (stream : StreamId) (e : Effect) → PortCauses d stream e → IsNoClose e
port-none d stream e k = grind (arith, k)

causes : (e : Effect) → IsPlain e → Causes IsNoClose e
causes (OnPipe p operation) n = λ source dest e k. pipe-none p source dest e k
causes (OnTransform t operation) n = λ w r e k. transform-none t w r e k
causes (OnTee t operation) n = λ source first second e k. tee-none t source first second e k
causes (OnPort d operation) n = λ stream e k. port-none d stream e k
causes e n = grind (arith, n)

begun-none : (e : Effect) → IsBegun e → IsNoClose e
begun-none e b = grind (arith, b)

-- messages

close-more : (ms ns : List Message) → has_close (ms ++ ns) ≡ has_close ms || has_close ns
close-more [] ns = refl
close-more (m ∷ ms) ns = let h = close-more ms ns in grind (arith, h)

abbrev IsClose : PortOperation → Type 0
IsClose (ports.Close u) = Unit {0}
IsClose _ = ⊥

single : (b : Bool) (m : Message) → is_close m ≡ false → has_close (if b then m ∷ [] else []) ≡ false
single true m e = rw e refl
single false m e = refl

no-close : (clones : Bool) (operation : PortOperation) (x : cross.Slots) → (IsClose operation → ⊥) → has_close (given clones operation x) ≡ false
no-close clones ports.Pull x n = single x.live PullMessage refl
no-close clones (ports.Leave r u) x n = single x.live (ErrorMessage (if is_cloneable r then r else data_clone)) refl
no-close clones (ports.Write u) x n = refl
no-close clones (ports.WriteGoesOn p) x n = by x.backpressure clones
  where
    by : (o : Option PromiseId) (b : Bool) → has_close (given_first b x o) ≡ false
    by None true = refl
    by None false = single x.live (ErrorMessage data_clone) refl
    by (Some p) b = refl
no-close clones (ports.PostChunk v p) x n = single x.live (ChunkMessage v) refl
no-close clones (ports.Close u) x n = absurd (n tt)
no-close clones (ports.Deliver m) x n = refl
no-close clones ports.Unblock x n = refl

close_or : (operation : PortOperation) → IsClose operation ⊎ (IsClose operation → ⊥)
close_or (ports.Close u) = inl tt
close_or operation = inr (λ l. grind (arith, l))

either-close : (a b : Bool) → a || b ≡ true → (a ≡ true) ⊎ (b ≡ true)
either-close true b e = inl refl
either-close false b e = inr e

more-closes : (w g : Writes) → 0 < w.closes → 0 < (writes_then w g).closes
more-closes w g k = omega (arith, k)

module _ (c : PortId) (i : StreamId) where
  -- a close that is to be posted
  abbrev Calm : Writes → Effect → Type 0
  Calm w (OnPort d (ports.Close u)) = is_same_port c d ≡ true → 0 < w.closes
  Calm w _ = Unit {0}

  none-calm : (w : Writes) (e : Effect) → IsNoClose e → Calm w e
  none-calm w e n = grind (arith, n)

  more-calm : (w g : Writes) (e : Effect) → Calm w e → Calm (writes_then w g) e
  more-calm w g (OnPort d (ports.Close u)) k = λ same. more-closes w g (k same)
  more-calm w g e k = grind (arith, k)

  -- a stream that performs the algorithms of the port is this one
  owner-mine : (s : Slots) → Ended s → Mine c i s → (k : StreamId) (d : PortId) → EndOf d ≡ owner_at k s → is_same_port c d ≡ true → is_same i k ≡ true
  owner-mine s h mine k d own same =
      let is : c ≡ d = ap (λ (n : ℕ). record { 0 = n }) (eq_numbers c.0 d.0 same) in
      let one : owner_at k s ≡ EndOf c = sym own ∙ ap EndOf (sym is) in
      ⊎_elim (λ r. same_stream ReadableSide (h.end k c ReadableSide r)) (λ w. same_stream WritableSide (h.end k c WritableSide w)) (owned-shape c s.streams k.0 one)
    where
      same_stream : (side : Side) → HasEnd (port_shapes s) c side k → is_same i k ≡ true
      same_stream side e =
          let both : ◌≡◌ {A = Option PortShape} (Some (record { side = WritableSide; stream = i })) (Some (record { side = side; stream = k })) = sym mine ∙ e in
          let one : record { side = WritableSide; stream = i } ≡ record { side = side; stream = k } = some_shape _ _ both in
          let ik : i ≡ k = ap (λ (x : PortShape). x.stream) one in rw (← ik) (is_same-refl i)
        where
          some_shape : (x y : PortShape) → ◌≡◌ {A = Option PortShape} (Some x) (Some y) → x ≡ y
          some_shape x y e = cc

  counted : (w : Writes) (s : Slots) (k : StreamId) → is_same i k ≡ true → 0 < (writes_then w (effect_writes i (CloseAlgorithm k) s)).closes
  counted w s k same = rw same (omega arith)

  close-calm : (w : Writes) (s : Slots) → Ended s → Mine c i s → (k : StreamId) (u : Use) (o : Owner) → o ≡ owner_at k s → Each (Calm (writes_then w (effect_writes i (CloseAlgorithm k) s))) (close_algorithm k u o)
  close-calm w s h mine k u Host e = (tt, tt)
  close-calm w s h mine k u (HalfOf t) e = (tt, tt)
  close-calm w s h mine k u (BranchOf t half) e = (tt, tt)
  close-calm w s h mine k u (EndOf d) e = (λ same. counted w s k (owner-mine s h mine k d e same), tt)

  plain-calm : (w : Writes) (s : Slots) (e : Effect) → IsPlain e → Each (Calm w) (row e s).caused
  plain-calm w s e n = each-map IsNoClose (Calm w) (none-calm w) (row e s).caused (row-causes IsNoClose e s (causes e n))

  row-calm : (w : Writes) (s : Slots) → Ended s → Mine c i s → (e : Effect) → Each (Calm (writes_then w (effect_writes i e s))) (row e s).caused
  unfolding row
  row-calm w s h mine (CloseAlgorithm k) = close-calm w s h mine k _ (owner_at k s) refl
  row-calm w s h mine e = plain-calm (writes_then w (effect_writes i e s)) s e tt

  abbrev Ends : List Message → Writes → Type 0
  Ends ms w = has_close ms ≡ true → 0 < w.closes

  pub record Closing (h : Deeds) (s : Slots) (es : List Effect) : Type 0 where
    pub posting : Whole c h.past s es
    pub calm : Mine c i s → Each (Calm h.writes) es
    pub closed : Mine c i s → Ends (all_posted c h.past s) h.writes

  same-ends : (h : Deeds) (g : Writes) (s z : Slots) → posted c z.promises ≡ posted c s.promises → Ends (all_posted c h.past s) h.writes → Ends (all_posted c (then_past h.past nothing_past) z) (writes_then h.writes g)
  same-ends h g s z e k = rw (append-nil h.past.heard, e) (λ n. more-closes h.writes g (k n))

  closes-so : (s : Slots) (w : Writes) (operation : PortOperation) → Calm w (OnPort c operation) → IsClose operation → 0 < w.closes
  closes-so s w (ports.Close u) m l = m (is_same_port-refl c)
  closes-so s w operation m l = absurd l

  own-ends : (h : Deeds) (s : Slots) (operation : PortOperation) → Calm h.writes (OnPort c operation) → Ends (all_posted c h.past s) h.writes
      → Ends (all_posted c (then_past h.past nothing_past) (row (OnPort c operation) s).slots) (writes_then h.writes no_writes)
  own-ends h s operation m k = by (slice_get s.ports c.0) refl
    where
      z : Slots
      z = (row (OnPort c operation) s).slots

      by : (o : Option cross.Slots) → slice_get s.ports c.0 ≡ o → Ends (all_posted c (then_past h.past nothing_past) z) (writes_then h.writes no_writes)
      by None is = same-ends h no_writes s z (ap (λ (d : Done). posted c d.slots.promises) (no-mine c operation s is)) k
      by (Some x) is = λ g.
          more-closes h.writes no_writes (⊎_elim (λ l. closes-so s h.writes operation m l) (λ n. rested n g) (close_or operation))
        where
          rested : (IsClose operation → ⊥) → has_close (all_posted c (then_past h.past nothing_past) z) ≡ true → 0 < h.writes.closes
          rested n g =
              let r = row-mine c operation s x is in
              let none : has_close (given (clones_at x s) operation x) ≡ false = no-close (clones_at x s) operation x n in
              let all_ : all_posted c (then_past h.past nothing_past) z ≡ all_posted c h.past s ++ given (clones_at x s) operation x = rw (append-nil h.past.heard, r.told) (sym (append_assoc h.past.heard (posted c s.promises) (given (clones_at x s) operation x))) in
              let more : has_close (all_posted c h.past s) || has_close (given (clones_at x s) operation x) ≡ true = sym (close-more (all_posted c h.past s) (given (clones_at x s) operation x)) ∙ (ap has_close (sym all_) ∙ g) in
              ⊎_elim (λ a. k a) (λ b. let no : false ≡ true = sym none ∙ b in cc) (either-close _ _ more)

  row-ends : (h : Deeds) (s : Slots) (e : Effect) → Calm h.writes e → Ends (all_posted c h.past s) h.writes → Ends (all_posted c (then_past h.past nothing_past) (row e s).slots) (writes_then h.writes (effect_writes i e s))
  row-ends h s (OnPort d operation) m k =
      by-port c (λ q. Calm h.writes (OnPort q operation) → Ends (all_posted c (then_past h.past nothing_past) (row (OnPort q operation) s).slots) (writes_then h.writes no_writes)) d
      (λ n l. same-ends h no_writes s (row (OnPort d operation) s).slots (row-leaves c (OnPort d operation) s n).0 k) (λ l. own-ends h s operation l k) m
  row-ends h s e m k = same-ends h (effect_writes i e s) s (row e s).slots (row-leaves c e s tt).0 k

  -- calls

  call-ends : (h : Deeds) (call : Call) (s : Slots) → Whole c h.past s [] → (Mine c i s → Ends (all_posted c h.past s) h.writes) → Mine c i (begin call s).done.slots
      → Ends (all_posted c (then_past h.past (said c s (Called call))) (begin call s).done.slots) (writes_then h.writes no_writes)
  call-ends h call s w k mine = by (slice_get s.ports c.0) refl (call-ports call s)
    where
      z : Slots
      z = (begin call s).done.slots

      posts : all_posted c (then_past h.past (said c s (Called call))) z ≡ all_posted c h.past s
      posts = rw (append-nil h.past.heard) (ap (λ (ms : List Message). h.past.heard ++ ms) (ap (posted_in c) (call-events call s)))

      was : slice_get z.ports c.0 ≡ slice_get s.ports c.0 → (x : cross.Slots) → slice_get s.ports c.0 ≡ Some x → Ends (all_posted c (then_past h.past (said c s (Called call))) z) (writes_then h.writes no_writes)
      was same x at =
          let before : Mine c i s = map-there port_shape s.ports c.0 x at ∙ (sym (map-there port_shape z.ports c.0 x (same ∙ at)) ∙ mine) in
          λ g. more-closes h.writes no_writes (k before (ap has_close (sym posts) ∙ g))

      by : (o : Option cross.Slots) → slice_get s.ports c.0 ≡ o → PortsNow s z → Ends (all_posted c (then_past h.past (said c s (Called call))) z) (writes_then h.writes no_writes)
      by None at p = λ g.
          let held : (h.past.taken ≡ []) × (all_posted c h.past s ≡ []) = rw at at w.1 in
          let no : false ≡ true = ap has_close (sym (posts ∙ held.1)) ∙ g in cc
      by (Some x) at (inl e) = was (ap (λ (xs : List cross.Slots). slice_get xs c.0) e) x at
      by (Some x) at (inr (v, (e, new))) =
          was (ap (λ (xs : List cross.Slots). slice_get xs c.0) e ∙ (get-stays s.ports (v ∷ []) c.0 x at ∙ sym at)) x at

  calm-begun : (w : Writes) (es : List Effect) → Each IsBegun es → Each (Calm w) es
  calm-begun w es b = each-map IsBegun (Calm w) (λ e n. none-calm w e (begun-none e n)) es b

  closing-goes : Goes then_done (told c i) (happened c i) Closing
  closing-goes = record {
    row = λ h s e es a. record {
      posting = (posting-goes c).row h.past s e es a.posting;
      calm = λ mine. let k = row-back s e mine in each-append (Calm (writes_then h.writes (effect_writes i e s))) (row e s).caused es (row-calm h.writes s a.posting.0.0 k e) (each-map (Calm h.writes) (Calm (writes_then h.writes (effect_writes i e s))) (more-calm h.writes (effect_writes i e s)) es (a.calm k).1);
      closed = λ mine. let k = row-back s e mine in row-ends h s e (a.calm k).0 (a.closed k);
    };
    call = λ h s call a. record {
      posting = (posting-goes c).call h.past s call a.posting;
      calm = λ mine. calm-begun (writes_then h.writes no_writes) (begin call s).done.caused (call-begun call s);
      closed = λ mine. call-ends h call s a.posting a.closed mine;
    };
    job = λ h s job e a. record {
      posting = (posting-goes c).job h.past s job e a.posting;
      calm = λ mine. calm-begun (writes_then h.writes no_writes) (job_effects job) (job-begun job);
      closed = λ mine. same-ends h no_writes s (with_promises (after_next_job s.promises) s) (ap (posted_in c) (next-events s.promises)) (a.closed mine);
    };
    idle = λ h s e a. rw (done-history.right h) a;
    answered = λ h s p a. record { posting = (posting-goes c).answered h.past s p a.posting; calm = λ mine. tt; closed = λ mine. rw (watch-posted c p s.promises) (a.closed mine) };
    older = λ h s a. record { posting = (posting-goes c).older h.past s a.posting; calm = λ mine. tt; closed = λ mine. a.closed mine };
  }
    where
      row-back : (s : Slots) (e : Effect) → Mine c i (row e s).slots → Mine c i s
      row-back s e m = ap (λ (ps : List PortShape). slice_get ps c.0) (sym (row-port_shapes e s)) ∙ m

  closing-rests : Rests then_done (happened c i) Closing
  closing-rests = record {
    heard = λ h s a. record {
      posting = (posting-rests c).heard h.past s a.posting;
      calm = λ mine. tt;
      closed = λ mine. rw (append_assoc h.past.heard (posted_in c (taken_event s.promises.events)) (posted_in c (later_events s.promises.events)), split-events c s.promises.events) (λ n. more-closes h.writes no_writes (a.closed mine n));
    };
  }

  -- over a run

  abbrev told_in : Slots → Entry → Deeds
  told_in = walker.happens nothing_done then_done done-history (told c i) (happened c i) Closing closing-goes

  along-writes : (ms : List Moment) → (along nothing_done then_done (told c i) ms).writes ≡ along no_writes writes_then (effect_writes i) ms
  along-writes [] = refl
  along-writes (m ∷ ms) = ap (λ (w : Writes). writes_then (effect_writes i m.effect m.found) w) (along-writes ms)

  along-past : (ms : List Moment) → (along nothing_done then_done (told c i) ms).past ≡ nothing_past
  along-past [] = refl
  along-past (m ∷ ms) = rw (along-past ms) refl

  run-acts : (xs : List Entry) (s : Slots) → (over nothing_done then_done told_in xs s).writes ≡ run_writes i xs s
  run-acts [] s = refl
  run-acts (x ∷ xs) s =
      let one : (told_in s x).writes ≡ along no_writes writes_then (effect_writes i) (moments_in s x) = is_history.left _ ∙ along-writes (moments_in s x) in
      ap (λ (w : Writes). writes_then w (over nothing_done then_done told_in xs (step s x)).writes) one ∙ ap (λ (w : Writes). writes_then (along no_writes writes_then (effect_writes i) (moments_in s x)) w) (run-acts xs (step s x))

  run-heards : (xs : List Entry) (s : Slots) → (over nothing_done then_done told_in xs s).past.heard ++ posted c (run xs s).promises ≡ posted_in c (run_events xs s)
  run-heards [] s = refl
  run-heards (x ∷ xs) s =
      let rest = over nothing_done then_done told_in xs (step s x) in
      let one : (told_in s x).past ≡ said c s x = ap (λ (p : Past). then_past (said c s x) p) (along-past (moments_in s x)) ∙ past-history.right (said c s x) in
      let heard : (told_in s x).past.heard ≡ posted_in c (histories.taken_in_step s x) = ap (λ (p : Past). p.heard) one ∙ heard-said c s x in
      ap (λ (ms : List Message). (ms ++ rest.past.heard) ++ posted c (run xs (step s x)).promises) heard
      ∙ (append_assoc (posted_in c (histories.taken_in_step s x)) rest.past.heard (posted c (run xs (step s x)).promises)
      ∙ (ap (λ (ms : List Message). posted_in c (histories.taken_in_step s x) ++ ms) (run-heards xs (step s x)) ∙ sym (posted-append c (histories.taken_in_step s x) (run_events xs (step s x)))))

  pub run-closing : (entries : List Entry) → Mine c i (run entries empty) → has_close (posted_in c (run_events entries empty)) ≡ true → 0 < (run_writes i entries empty).closes
  run-closing entries mine e =
      let a : Closing (then_done nothing_done (over nothing_done then_done told_in entries empty)) (run entries empty) [] =
      walker.run-goes nothing_done then_done done-history (told c i) (happened c i) Closing closing-goes closing-rests entries nothing_done empty
      (record { posting = (fitting-empty, (refl, refl)); calm = λ n. tt; closed = λ n. let no : None ≡ Some (record { side = WritableSide; stream = i }) = n in cc }) in
      let n = a.closed mine (ap has_close (run-heards entries empty) ∙ e) in
      let m = ap (λ (w : Writes). w.closes) (run-acts entries empty) in omega (arith, n, m)

pub each_writable_end_posts_close_last : EachWritableEndPostsCloseLast
each_writable_end_posts_close_last entries c h side =
    let l = (each_writable_end_is_lawful entries c h side).1.1 in
    let closes = by (slice_get (run entries empty).ports c.0) refl h side in
    record { closes = closes; written = λ e. sym l.acted ∙ l.lawful.whole (closes e) }
  where
    s : Slots
    s = run entries empty

    ms : List Message
    ms = posted_in c (run_events entries empty)

    by : (o : Option cross.Slots) → slice_get s.ports c.0 ≡ o → is_some o ≡ true → (as_port o).side ≡ WritableSide → has_close ms ≡ true → 0 < (run_writes (as_port o).stream entries empty).closes
    by None at there side = cc
    by (Some x) at there side = run-closing c x.stream entries (map-there port_shape s.ports c.0 x at ∙ ap (λ (q : PortShape). Some q) (λ n. record { side = side n; stream = x.stream }))
