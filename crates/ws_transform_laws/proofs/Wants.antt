-- What is wanted as a chunk is transformed, step by step (`each_chunk_is_wanted`, `each_chunk_is_read`).
use Rattle.std.proofs.Common.{◌≡◌, inl, inr, ℕ, Bool, true, false, ◌&&◌, if◌then◌else◌, nat_eq, not, ◌||◌, nat_lt, map, List, [], ◌∷◌, ◌++◌, Option, Some, None, slice_get, refl, sym, subst, ap, ◌∙◌, arith, append_assoc, append-nil}
use Rattle.ws_value.specs.declared.{ids.StreamId.{StreamId}, value.Value.{Value}}
use Rattle.ws_steps.specs.declared.calls.{Call.{Call}, Reply.{Reply}, Reply.TheVariants.{Promise}}
use Rattle.ws_steps.specs.declared.effects.{Effect.{Effect}}
use Rattle.ws_steps.specs.declared.effects.Effect.TheVariants.{Writable as OnWritable, Transform as OnTransform}
use Rattle.ws_steps.specs.declared.promises.Job.{Job}
use Rattle.ws_steps.specs.declared.transform.{TransformId.{TransformId}}
use Rattle.ws_steps.specs.declared.transform.TransformOperation.TheVariants as names
use Rattle.ws_steps.specs.Calls.{begin, named}
use Rattle.ws_steps.specs.Histories.{along}
use Rattle.ws_steps.specs.Jobs.{job_begun, begin_job}
use Rattle.ws_steps.specs.Promises.{next_job}
use Rattle.ws_steps.specs.Queues.{is_empty, total_of}
use Rattle.ws_steps.specs.Readable as readable
use Rattle.ws_steps.specs.Readable.{can_close_or_enqueue, waiting}
use Rattle.ws_steps.specs.ReadableHistory.{Reads, no_reads, reads_then, effect_reads, run_reads, step_reads}
use Rattle.ws_steps.specs.Run.{Entry, Called, Worked, Heard, run, step, moments_in}
use Rattle.ws_steps.specs.Slots.{Slots, Done, empty, as_transform, readable_at, transform_at}
use Rattle.ws_steps.specs.Transform as transform
use Rattle.ws_steps.specs.Turns.{Moment, moments, row, performed}
use Rattle.ws_laws.proofs.Shapes.{transform_shapes, transform_shape, map-there, row-transform_shapes}
use Rattle.ws_laws.proofs.Walker as walker
use Rattle.ws_transform_laws.specs.TransformHistory.{is_same_transform, is_changed, goes_on_pressed, effect_unwanted, effect_unread, step_unwanted, wants_none}
use Rattle.ws_transform_laws.specs.TransformLaws.{EachChunkIsWanted, EachChunkIsRead}
use Rattle.ws_transform_laws.proofs.Backpressure.{pressed}
use Rattle.ws_transform_laws.proofs.Seen.{Seen, nothing_seen, seen_then, are_seen, none-both, told}
use Rattle.ws_transform_laws.proofs.Due.{due_of, Ready, not-due-ready, ready-append, call-due, job-ready, SinksOf, row-due}
use Rattle.ws_transform_laws.proofs.Entering.{Reads as IsRead}
use Rattle.ws_transform_laws.proofs.Shutting.{readable-stays}
use Rattle.ws_transform_laws.proofs.Telling.{unwanted, Fits, Fronts, Enters, Starts, IsStarting, Opens, calm-tells}
use Rattle.ws_transform_laws.proofs.Told.{along-map}
use Rattle.ws_transform_laws.proofs.Wanted.{Known, read-there}
use Rattle.ws_transform_laws.proofs.WantedRuns.{goes, rests, none-known, at-rest, are_reads}

module _ (t : TransformId) (r : StreamId) where
  -- while a chunk is about to be transformed the readable half wants one, and so it was
  record Steps (h : Seen) (s : Slots) (es : List Effect) : Type 0 where
    known : Known t r h.reads s es
    ready : h.reads.released ≡ [] → IsRead t r s → Ready t (unwanted t r s ≡ false) es
    seen : h.reads.released ≡ [] → IsRead t r s → h.unwanted ≡ []

  -- a write that needs not wait finds that one is wanted
  sinks : (s : Slots) (e : Effect) (es : List Effect) → Fits t r s (e ∷ es) → SinksOf t e s (unwanted t r s ≡ false)
  sinks s (OnTransform u (names.SinkWrite w)) es f = λ same free. by (unwanted t r s) refl free f
    where
      by : (b : Bool) → b ≡ unwanted t r s → pressed t s ≡ false → Fits t r s (OnTransform u (names.SinkWrite w) ∷ es) → unwanted t r s ≡ false
      by false n free g = sym n
      by true n free (Fronts (inl k) claim) =
          let no : pressed t s ≡ true = (claim (calm-tells t r s (OnTransform u (names.SinkWrite w) ∷ es) k)).0 (sym n) in cc
      by true n free (Fronts (inr (inl k)) claim) = absurd k.0
      by true n free (Fronts (inr (inr k)) claim) = absurd k.0
      by true n free (Enters v rest eq k) = cc
      by true n free (Starts d p rest eq st none k claim) = let is : d ≡ OnTransform u (names.SinkWrite w) = cc in absurd (subst (IsStarting t r) is st)
      by true n free (Opens p rest eq none k claim) = cc
  sinks s _ es f = tt

  -- what is due leaves the readable half as it is
  same-ready : (s : Slots) (e : Effect) → readable_at r (row e s).slots ≡ readable_at r s → Ready t (unwanted t r s ≡ false) (row e s).caused → Ready t (unwanted t r (row e s).slots ≡ false) (row e s).caused
  same-ready s e same k = subst (λ (x : readable.Slots). Ready t (wants_none x ≡ false) (row e s).caused) (sym same) k

  caused-ready : (s : Slots) (e : Effect) → Ready t (unwanted t r s ≡ false) (row e s).caused → Ready t (unwanted t r (row e s).slots ≡ false) (row e s).caused
  caused-ready s (OnTransform u operation) k = same-ready s (OnTransform u operation) (readable-stays r (OnTransform u operation) s (λ o is. cc)) k
  caused-ready s (OnWritable j operation) k = same-ready s (OnWritable j operation) (readable-stays r (OnWritable j operation) s (λ o is. cc)) k
  caused-ready s e k = row-due t (unwanted t r (row e s).slots ≡ false) e s (λ d. absurd (cc)) tt

  row-ready : (s : Slots) (e : Effect) (es : List Effect) → Fits t r s (e ∷ es) → Ready t (unwanted t r s ≡ false) (e ∷ es) → Ready t (unwanted t r (row e s).slots ≡ false) ((row e s).caused ++ es)
  row-ready s e es f k =
      ready-append t (unwanted t r (row e s).slots ≡ false) (row e s).caused es (caused-ready s e (row-due t (unwanted t r s ≡ false) e s k.0 (sinks s e es f))) k.1

  unwanted-none : (same none : Bool) (v : Value) → (same ≡ true → none ≡ false) → (if same && none then v ∷ [] else []) ≡ []
  unwanted-none false none v k = refl
  unwanted-none true none v k = rw (k refl) refl

  row-seen : (s : Slots) (e : Effect) → IsRead t r s → (due_of t e ≡ true → unwanted t r s ≡ false) → effect_unwanted t e s ≡ []
  row-seen s (OnTransform u (names.TransformChunk v d)) m k =
      let x = read-there t r s m in
      let at : (transform_at t s).readable ≡ r = ap (λ (o : Option transform.Slots). (as_transform o).readable) x.1.0 ∙ x.1.1 in
      rw at (unwanted-none (is_same_transform t u) (unwanted t r s) v k)
  row-seen s _ m k = refl

  row-steps : (h : Seen) (s : Slots) (e : Effect) (es : List Effect) → Steps h s (e ∷ es) → Steps (seen_then h (told t r e s)) (row e s).slots ((row e s).caused ++ es)
  row-steps h s e es k =
      let shapes = row-transform_shapes e s in
      let before : IsRead t r (row e s).slots → IsRead t r s = λ m. (m.0, (rw shapes at m.1.0, m.1.1)) in
      record {
        known = (goes t r).row h.reads s e es k.known;
        ready = λ rel m. let rels = none-both h.reads.released (effect_reads r e s).released rel in row-ready s e es (k.known.fits rels.0 (before m)) (k.ready rels.0 (before m));
        seen = λ rel m. let rels = none-both h.reads.released (effect_reads r e s).released rel in rw (k.seen rels.0 (before m), row-seen s e (before m) (k.ready rels.0 (before m)).0) refl;
      }

  -- what was read before a step
  abbrev since : Reads → Seen
  since h = record { reads = h; unwanted = [] }

  -- from what a step begins with
  done-seen : (h : Reads) (d : Done) → Steps (since h) d.slots d.caused → h.released ≡ [] → (along no_reads reads_then (effect_reads r) (moments d)).released ≡ [] → IsRead t r (performed d) → along [] ◌++◌ (effect_unwanted t) (moments d) ≡ []
  done-seen h d k old now m =
      let ends = walker.performed-goes nothing_seen seen_then are_seen (told t r) Steps row-steps (since h) d k in
      let reads = along-map nothing_seen seen_then no_reads reads_then (λ (x : Seen). x.reads) refl (λ a b. refl) (told t r) (moments d) in
      let two = along-map nothing_seen seen_then [] ◌++◌ (λ (x : Seen). x.unwanted) refl (λ a b. refl) (told t r) (moments d) in
      let none : (along nothing_seen seen_then (told t r) (moments d)).reads.released ≡ [] = ap (λ (x : Reads). x.released) reads ∙ now in
      sym two ∙ ends.seen (rw (old, none) refl) m

  named-transforms : (reply : Reply) (s : Slots) → (named reply s).transforms ≡ s.transforms
  named-transforms (Promise p) s = refl
  named-transforms _ s = refl

  call-seen : (h : Reads) (s : Slots) (c : Call) → Known t r h s [] → h.released ≡ [] → (step_reads r s (Called c)).released ≡ [] → IsRead t r (step s (Called c)) → step_unwanted t s (Called c) ≡ []
  call-seen h s c k old now m =
      let d : Done = (begin c s).done in
      let same : (step s (Called c)).transforms ≡ (performed d).transforms = named-transforms (begin c s).reply (performed d) in
      let there : slice_get (transform_shapes (performed d)) t.0 ≡ Some m.0 = ap (λ (ts : List transform.Slots). slice_get (map transform_shape ts) t.0) (sym same) ∙ m.1.0 in
      done-seen h d (record { known = (goes t r).call h s c k; ready = λ rel l. not-due-ready t (unwanted t r d.slots ≡ false) d.caused (call-due t c s); seen = λ rel l. refl }) old now (m.0, (there, m.1.1))

  calm : (a b : Bool) → a && b ≡ false → a ≡ true → b ≡ false
  calm true b e f = e
  calm false b e f = cc

  wanted : (n b : Bool) → (n ≡ true → b ≡ true) → b ≡ false → n ≡ false
  wanted false b k e = refl
  wanted true b k e = let yes = k refl in cc

  job-begun : (h : Reads) (s : Slots) (o : Option Job) → next_job s.promises ≡ o → Known t r h s [] → h.released ≡ [] → is_changed t o && pressed t s ≡ false → Steps (since h) (job_begun s o).slots (job_begun s o).caused
  job-begun h s None e k old free = record { known = k; ready = λ rel l. tt; seen = λ rel l. refl }
  job-begun h s (Some job) e k old free = record {
    known = (goes t r).job h s job e k;
    ready = λ rel l. job-ready t (unwanted t r s ≡ false) job (λ is. wanted (unwanted t r s) (pressed t s) (at-rest t r s (k.fits old l)) (calm (is_changed t (Some job)) (pressed t s) free is));
    seen = λ rel l. refl;
  }

  work-seen : (h : Reads) (s : Slots) → Known t r h s [] → h.released ≡ [] → (step_reads r s Worked).released ≡ [] → IsRead t r (step s Worked) → goes_on_pressed t s Worked ≡ false → step_unwanted t s Worked ≡ []
  unfolding begin_job
  work-seen h s k old now m free = done-seen h (begin_job s) (job-begun h s (next_job s.promises) refl k old free) old now m

  step-seen : (h : Reads) (s : Slots) (x : Entry) → Known t r h s [] → h.released ≡ [] → (step_reads r s x).released ≡ [] → IsRead t r (step s x) → goes_on_pressed t s x ≡ false → step_unwanted t s x ≡ []
  step-seen h s (Called c) k old now m free = call-seen h s c k old now m
  step-seen h s Worked k old now m free = work-seen h s k old now m free
  step-seen h s Heard k old now m free = walker.nothing-told [] ◌++◌ (record { left = λ xs. refl; right = append-nil; assoc = append_assoc }) (effect_unwanted t) s

pub each_chunk_is_wanted : EachChunkIsWanted
each_chunk_is_wanted entries x t y is old now free =
    let s : Slots = run entries empty in
    let r : StreamId = y.readable in
    let k = walker.run-holds no_reads reads_then are_reads (effect_reads r) (Known t r) (goes t r) (rests t r) entries empty (none-known t r) in
    let m : IsRead t r (step s x) = (transform_shape y, (map-there transform_shape (step s x).transforms t.0 y is, refl)) in
    step-seen t r (run_reads r entries empty) s x k old now m free

unread : (same can none zero_ small : Bool) (v : Value) → (zero_ ≡ true → small ≡ false) → (if same && (can && not (not none || small)) then v ∷ [] else []) ≡ [] → (if same && (can && (zero_ && none)) then v ∷ [] else []) ≡ []
unread same can none zero_ small v k e = grind (arith, k, e)

zero-none : (n m : ℕ) → nat_eq m 0 ≡ true → nat_lt n m ≡ false
zero-none n m e = grind arith

effect-unread : (t : TransformId) (e : Effect) (s : Slots) → effect_unwanted t e s ≡ [] → effect_unread t e s ≡ []
effect-unread t (OnTransform u (names.TransformChunk v d)) s e =
    let r : readable.Slots = readable_at (transform_at t s).readable s in
    unread (is_same_transform t u) (can_close_or_enqueue r) (is_empty (waiting r)) (nat_eq r.hwm 0) (nat_lt (total_of r.queue) r.hwm) v (zero-none (total_of r.queue) r.hwm) e
effect-unread t _ s e = refl

along-unread : (t : TransformId) (ms : List Moment) → along [] ◌++◌ (effect_unwanted t) ms ≡ [] → along [] ◌++◌ (effect_unread t) ms ≡ []
along-unread t [] e = refl
along-unread t (m ∷ ms) e =
    let both = none-both (effect_unwanted t m.effect m.found) (along [] ◌++◌ (effect_unwanted t) ms) e in
    rw (effect-unread t m.effect m.found both.0, along-unread t ms both.1) refl

pub each_chunk_is_read : EachChunkIsRead
each_chunk_is_read entries x t y is old now free = along-unread t (moments_in (run entries empty) x) (each_chunk_is_wanted entries x t y is old now free)
