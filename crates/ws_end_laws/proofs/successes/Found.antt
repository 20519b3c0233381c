-- The writes of a pipe whose destination hadn't failed at the moment at which it began its action, or ended without one.
use Rattle.std.proofs.Common.{◌≡◌, ◌⊎◌, inl, inr, ℕ, Bool, true, false, not, ◌&&◌, nat_eq, if◌then◌else◌, All, get_or, List, [], ◌∷◌, ◌++◌, length, Option, Some, None, slice_get, refl, sym, ap, subst, ◌∙◌, arith, append_assoc, append-nil}
use Rattle.std.proofs.lemmas.List.Elements.{All-append}
use Rattle.ws_value.specs.declared.{ids.PipeId.{PipeId}, ids.PromiseId.{PromiseId}, ids.StreamId.{StreamId}}
use Rattle.ws_value.specs.declared.value.{Outcome.TheVariants.{Fulfilled}, Plain.TheVariants.{Undefined}, Value.{Value}}
use Rattle.ws_steps.specs.declared.calls.{Call.{Call}, Reply.{Reply}, Reply.TheVariants.{Promise}}
use Rattle.ws_steps.specs.declared.effects.{Effect.{Effect}, Effect.TheVariants.{Pipe, Writable}}
use Rattle.ws_steps.specs.declared.promises.Job.{Job}
use Rattle.ws_steps.specs.declared.writable.{WritableOperation.TheVariants.{Write}, WritableState.{WritableState}}
use Rattle.ws_steps.specs.declared.writable.WritableState.TheVariants as states
use Rattle.ws_steps.specs.Calls.{begin, named}
use Rattle.ws_steps.specs.Histories.{along, in_step, over}
use Rattle.ws_steps.specs.Jobs.{job_begun, job_effects, begin_job}
use Rattle.ws_steps.specs.Laws.{AllFulfilled}
use Rattle.ws_steps.specs.Pipes as pipe
use Rattle.ws_steps.specs.Promises.{Table, next_id, next_job, after_next_job, outcome_at, entry_at, is_open_entry, is_pending_at, watch}
use Rattle.ws_steps.specs.Run.{Entry, Called, Worked, Heard, run, step, older, after_event}
use Rattle.ws_steps.specs.Slots.{Slots, Stream, Done, nothing, empty, as_pipe, as_writable, pipe_at, with_promises, writable_at, has_writable}
use Rattle.ws_steps.specs.Turns.{Moment, row, moments, performed}
use Rattle.ws_steps.specs.Writable as writable
use Rattle.ws_steps.specs.Writable.{has_ended, is_closed, is_closing, is_writable}
use Rattle.ws_laws.proofs.Apart.{row-streams}
use Rattle.ws_laws.proofs.Outcomes.{Keeps, keeps-same, keeps-next, keeps-watch, keeps-entries}
use Rattle.ws_laws.proofs.Tables.{eq_numbers}
use Rattle.ws_laws.proofs.Truth.{false_true, and_left, and_right, not_false}
use Rattle.ws_laws.proofs.Walker.{IsHistory, performed-goes, nothing-told}
use Rattle.ws_promise_laws.proofs.Holds.{named as named_once}
use Rattle.ws_promise_laws.proofs.Runs.{Straight, straight-stays}
use Rattle.ws_pipe_laws.specs.pipes.PipeHistory.{is_live, effect_moment, effect_promises, operation_promises, promises_made, run_moments}
use Rattle.ws_pipe_laws.specs.pipes.PipeWrites.{AllMoments, AllSettled}
use Rattle.ws_pipe_laws.proofs.writes.Orderly.{moment, moments_history}
use Rattle.ws_write_laws.proofs.Lined.{Lined}
use Rattle.ws_write_laws.proofs.Lines.{line}
use Rattle.ws_writable_laws.proofs.Shape.{core_of}
use Rattle.ws_write_laws.proofs.Runs.{Both, no_both, both_then, both_told, is_history, Holds, holds-goes, holds-rests}
use Rattle.ws_end_laws.specs.ends.PassedAll.{is_failing}
use Rattle.ws_end_laws.proofs.hosts.Acts.{NotOf}
use Rattle.ws_end_laws.proofs.hosts.Doomed.{Doomed}
use Rattle.ws_end_laws.proofs.hosts.PipedRuns.{run-last}
use Rattle.ws_end_laws.proofs.successes.Appended.{AllIn, Writings, no_writings, writings_then, writings-history, effect_writings}
use Rattle.ws_end_laws.specs.successes.Successes.{IsUnrejected, FindsItUnfailing}
use Rattle.ws_end_laws.proofs.successes.Appended.{Writing, Failed, Passed, About, row-writing, same-writing}
use Rattle.ws_pipe_laws.proofs.writes.Settled as settling
use Rattle.ws_pipe_laws.proofs.writes.Settled.{all_settled, one_more, run-settled}
use Rattle.ws_end_laws.proofs.successes.Steady.{Steady, row-steady, last-locked, call-steady, job-steady, named-steady, older-steady, heard-steady}
use Rattle.ws_end_laws.proofs.successes.Successes.{settled-all, all-among, not_doomed}
use Rattle.ws_end_laws.proofs.successes.Unrejected.{line-open, all-open, all-map, run-lined, run-straight}
use Rattle.ws_end_laws.proofs.successes.Hearing.{call-keeps, keeps-row}
use Rattle.ws_end_laws.specs.successes.Successes.{EachWriteOfAPipeThatFoundNoFailureSucceeded}
use Rattle.ws_end_laws.proofs.hosts.PipedRuns.{call-there, call-same}
use Rattle.ws_end_laws.proofs.hosts.Called.{place-last}
use Rattle.ws_end_laws.proofs.hosts.Ended.{writable_open}
use Rattle.ws_end_laws.proofs.hosts.Making.{New}
use Rattle.ws_end_laws.proofs.hosts.Origins.{pipe-origin}
use Rattle.ws_end_laws.proofs.hosts.Made.{run-unmade, over_made}
use Rattle.ws_end_laws.proofs.hosts.UnreadRuns.{none-made}
use Rattle.ws_end_laws.specs.hosts.HostLaws.{next_pipe}
use Rattle.ws_pipe_laws.proofs.locks.Runs.{Locked, locked-stays, run-locked}
use Rattle.ws_end_laws.proofs.wrote.Fronts.{over-append}
use Rattle.ws_pipe_laws.specs.pipes.PipeHistory.{step_moments}
use Rattle.ws_steps.specs.Run.{moments_in}
use Rattle.ws_steps.specs.WritableHistory.{run_writes, run_promised}
use Rattle.std.proofs.lemmas.List.Elements.{All-nil}
use Rattle.ws_end_laws.proofs.successes.Wrote.{none_promised}
use Rattle.ws_end_laws.proofs.hosts.Places.{other_there}

some_pipe : (x y : pipe.Slots) → ◌≡◌ {A = Option pipe.Slots} (Some x) (Some y) → x ≡ y
some_pipe x y e = cc

all-keep : (t z : Table) (ds : List PromiseId) → Keeps t z → AllFulfilled t ds → AllFulfilled z ds
all-keep t z ds k a = λ n d h. k.outcome (get_or ds n d) (Fulfilled Undefined) refl (a n d h)

all-init : (P : Moment → Type 0) (ms : List Moment) (m : Moment) → AllMoments P (ms ++ m ∷ []) → AllMoments P ms × P m
all-init P [] m a = (tt, a.0)
all-init P (x ∷ ms) m a = let k = all-init P ms m a.1 in ((a.0, k.0), k.1)

settled-last : (t : Table) (ds : List PromiseId) (d : PromiseId) → AllSettled t (ds ++ d ∷ []) → is_pending_at d t ≡ false
settled-last t [] d a = a.0
settled-last t (c ∷ ds) d a = settled-last t ds d a.1

open_pending : (t : Table) (d : PromiseId) → is_open_entry (entry_at t d) ≡ true → is_pending_at d t ≡ true
open_pending t d e = grind (arith, e)

-- a stream that is open and hasn't failed is writable
writable_now : (state : WritableState) → is_failing state ≡ false → is_closed state ≡ false → state ≡ states.Writable
writable_now states.Writable n c = refl
writable_now states.Erroring n c = absurd (cc)
writable_now states.Errored n c = absurd (cc)
writable_now states.Closed n c = absurd (cc)

lined-unrejected : (i : StreamId) (s : Slots) (es : List Effect) (h : Both) → Straight s es → has_writable i s ≡ true → (writable_at i s).state ≡ states.Writable → Lined h.writes h.promised (slice_get s.streams i.0) s.promises
    → All (IsUnrejected s.promises) h.promised
lined-unrejected i s es h k there e l =
    let lining : l.rest ≡ line (core_of (writable_at i s)) = l.alive (ap has_ended e) in
    let rest : All (IsUnrejected s.promises) l.rest = subst (All (IsUnrejected s.promises)) (sym lining) (all-open s.promises (line (core_of (writable_at i s))) (λ d m. line-open i d s es k there m)) in
    let first : All (IsUnrejected s.promises) l.first = all-map (λ d. outcome_at s.promises d ≡ Some (Fulfilled Undefined)) (IsUnrejected s.promises) l.first (λ d f. inr f) l.fulfilled in
    subst (All (IsUnrejected s.promises)) l.split (All-append (IsUnrejected s.promises) l.first l.rest first rest)

-- the promise of a write that is about to be made is open
about_open : (i : StreamId) (s : Slots) (v : Value) (d : PromiseId) (rest : List Effect) → Straight s (Writable i (Write v d) ∷ rest) → is_open_entry (entry_at s.promises d) ≡ true
about_open i s v d rest k = let o = k.sound.holds.once d in let n = named_once d in grind arith

pub record Tale : Type 0 where
  pub moments : List Moment
  pub writings : Writings
  pub both : Both

abbrev pub no_tale : Tale
no_tale = record { moments = []; writings = no_writings; both = no_both }

abbrev pub tale_then : Tale → Tale → Tale
tale_then f g = record { moments = f.moments ++ g.moments; writings = writings_then f.writings g.writings; both = both_then f.both g.both }

tale-history : IsHistory no_tale tale_then
tale-history = record {
  left = λ h k. record { moments = moments_history.left h.moments k; writings = writings-history.left h.writings k; both = is_history.left h.both k };
  right = λ h k. record { moments = moments_history.right h.moments k; writings = writings-history.right h.writings k; both = is_history.right h.both k };
  assoc = λ f g h k. record { moments = moments_history.assoc f.moments g.moments h.moments k; writings = writings-history.assoc f.writings g.writings h.writings k; both = is_history.assoc f.both g.both h.both k };
}

module _ (p : PipeId) (i : StreamId) where
  abbrev pub told : Effect → Slots → Tale
  told e s = record { moments = effect_moment e s; writings = effect_writings p i e s; both = both_told i e s }

  pub record Finding (h : Tale) (s : Slots) (es : List Effect) : Type 0 where
    pub steady : Steady p i s es
    pub writing : Writing p i h.writings s es
    pub settled : settling.Is p h.moments s es
    pub holds : Holds i h.both s es
    pub made : h.writings.made ≡ promises_made p h.moments
    pub promised : h.writings.promised ≡ h.both.promised
    pub late : is_live steady.x.phase ≡ false → AllMoments (FindsItUnfailing p) h.moments → AllFulfilled s.promises (promises_made p h.moments)

  -- one that isn't live makes no write
  late-none : (e : Effect) (s : Slots) (x : pipe.Slots) → slice_get s.pipes p.0 ≡ Some x → is_live x.phase ≡ false → effect_promises p e s ≡ []
  late-none (Pipe q operation) s x e l = by (nat_eq p.0 q.0) refl
    where
      by : (b : Bool) → nat_eq p.0 q.0 ≡ b → (if b then operation_promises operation (pipe_at q s) (next_id s.promises) else []) ≡ []
      by false n = refl
      by true n =
          let is : p ≡ q = ap (λ (n : ℕ). record { 0 = n }) (eq_numbers p.0 q.0 n) in
          let at : pipe_at q s ≡ x = subst (λ (r : PipeId). pipe_at r s ≡ x) is (ap as_pipe e) in
          ap (λ (y : pipe.Slots). operation_promises operation y (next_id s.promises)) at ∙ none_promised p operation x (next_id s.promises) l
  late-none e s x f l = refl

  -- where it leaves off being live

  module _ (h : Tale) (z : Slots) (fs : List Effect) (k : Steady p i z fs) (w : Writing p i h.writings z fs) (g : settling.Is p h.moments z fs) (o : Holds i h.both z fs) (made : h.writings.made ≡ promises_made p h.moments)
      (promised : h.writings.promised ≡ h.both.promised) (late : is_live k.x.phase ≡ false) (state : (writable_at i z).state ≡ states.Writable) where
    undoomed : {A : Type 0} → Doomed (writable_at i z) → A
    undoomed d = not_doomed (writable_at i z).state (ap is_failing state) d.failed

    none-left : k.x.unsettled ≡ 0
    none-left = by (k.late late)
      where
        by : (k.x.unsettled ≡ 0) ⊎ Doomed (writable_at i z) → k.x.unsettled ≡ 0
        by (inl u) = u
        by (inr d) = undoomed d

    all-settled : AllSettled z.promises (promises_made p h.moments)
    all-settled = let o = g.1.1.1 p in all_settled p (promises_made p h.moments) z.promises fs (rw (k.there, none-left) at o) g.1.0

    among : Writing p i h.writings z fs → AllIn h.writings.made h.writings.promised
    among (Failed d) = undoomed d
    among (Passed a) = a
    among (About v d ms rest e f a open_) =
        let q : is_open_entry (entry_at z.promises d) ≡ true = about_open i z v d rest (subst (Straight z) e k.straight) in
        let n : is_pending_at d z.promises ≡ false = settled-last z.promises ms d (subst (AllSettled z.promises) (sym made ∙ f) all-settled) in
        false_true (is_pending_at d z.promises) (open_pending z.promises d q) n

    unrejected : All (IsUnrejected z.promises) h.both.promised
    unrejected = lined-unrejected i z fs h.both k.straight k.stands state (o.lined k.straight.sound.holds.straight)

    all-fulfilled : AllFulfilled z.promises (promises_made p h.moments)
    all-fulfilled =
        let a : AllIn (promises_made p h.moments) h.both.promised = subst (λ (ds : List PromiseId). AllIn ds h.both.promised) made (subst (AllIn h.writings.made) promised (among w)) in
        settled-all z.promises (promises_made p h.moments) all-settled (all-among (IsUnrejected z.promises) (promises_made p h.moments) h.both.promised a unrejected)

  -- an effect after which it isn't live

  module _ (h : Tale) (s : Slots) (e : Effect) (es : List Effect) (k : Finding h s (e ∷ es)) where
    abbrev z : Slots
    z = (row e s).slots

    abbrev fs : List Effect
    fs = (row e s).caused ++ es

    abbrev g : Tale
    g = tale_then h (told e s)

    abbrev steady : Steady p i z fs
    steady = row-steady p i s e es k.steady

    writing : Writing p i g.writings z fs
    writing = row-writing p i h.writings s e es k.steady k.writing

    settled : settling.Is p g.moments z fs
    settled = (settling.goes p).row h.moments s e es k.settled

    holds : Holds i g.both z fs
    holds = (holds-goes i).row h.both s e es k.holds

    made : g.writings.made ≡ promises_made p g.moments
    made = ap (λ (ds : List PromiseId). ds ++ effect_promises p e s) k.made ∙ sym (one_more p h.moments e s)

    promised : g.writings.promised ≡ g.both.promised
    promised = ap (λ (ds : List PromiseId). ds ++ (both_told i e s).promised) k.promised

    before-late : is_live k.steady.x.phase ≡ false → AllMoments (FindsItUnfailing p) g.moments → AllFulfilled z.promises (promises_made p g.moments)
    before-late l a =
        let was = k.late l (all-init (FindsItUnfailing p) h.moments (moment e s) a).0 in
        let same : promises_made p g.moments ≡ promises_made p h.moments = one_more p h.moments e s ∙ (ap (λ (ds : List PromiseId). promises_made p h.moments ++ ds) (late-none e s k.steady.x k.steady.there l) ∙ append-nil (promises_made p h.moments)) in
        subst (AllFulfilled z.promises) (sym same) (all-keep s.promises z.promises (promises_made p h.moments) (keeps-row e s) was)

    -- the destination is as it was
    now-late : writable_at i z ≡ writable_at i s → is_live k.steady.x.phase ≡ true → is_live steady.x.phase ≡ false → AllMoments (FindsItUnfailing p) g.moments → AllFulfilled z.promises (promises_made p g.moments)
    now-late same l late a =
        let found : FindsItUnfailing p (moment e s) = (all-init (FindsItUnfailing p) h.moments (moment e s) a).1 in
        let at : pipe_at p s ≡ k.steady.x = ap as_pipe k.steady.there in
        let then_ : pipe_at p z ≡ steady.x = ap as_pipe steady.there in
        let n : is_failing (writable_at (pipe_at p s).dest s).state ≡ false = found (ap (λ (y : pipe.Slots). is_live y.phase) at ∙ l) (ap (λ (y : pipe.Slots). is_live y.phase) then_ ∙ late) in
        let m : is_failing (writable_at i s).state ≡ false = subst (λ (j : StreamId). is_failing (writable_at j s).state ≡ false) (ap (λ (y : pipe.Slots). y.dest) at ∙ k.steady.dest) n in
        let state : (writable_at i z).state ≡ states.Writable = ap (λ (w : writable.Slots). w.state) same ∙ writable_now (writable_at i s).state m ((k.steady.live l).0.closed) in
        all-fulfilled g z fs steady writing settled holds made promised late state

  gone : (h : Tale) (s : Slots) (e : Effect) (es : List Effect) (k : Finding h s (e ∷ es)) → NotOf p e → is_live k.steady.x.phase ≡ true → is_live (row-steady p i s e es k.steady).x.phase ≡ false → ⊥
  gone h s e es k n l late =
      let is : k.steady.x ≡ (row-steady p i s e es k.steady).x = some_pipe k.steady.x (row-steady p i s e es k.steady).x (sym k.steady.there ∙ (sym (other_there p e s n) ∙ (row-steady p i s e es k.steady).there)) in
      false_true (is_live k.steady.x.phase) l (ap (λ (y : pipe.Slots). is_live y.phase) is ∙ late)

  row-now : (h : Tale) (s : Slots) (e : Effect) (es : List Effect) (k : Finding h s (e ∷ es)) → is_live k.steady.x.phase ≡ true → is_live (row-steady p i s e es k.steady).x.phase ≡ false
      → AllMoments (FindsItUnfailing p) (h.moments ++ effect_moment e s) → AllFulfilled (row e s).slots.promises (promises_made p (h.moments ++ effect_moment e s))
  row-now h s (Pipe q operation) es k l late a = now-late h s (Pipe q operation) es k (ap (λ (xs : List Stream). as_writable (slice_get xs i.0)) (row-streams (Pipe q operation) s tt)) l late a
  row-now h s e es k l late a = absurd (gone h s e es k tt l late)

  pub row-finding : (h : Tale) (s : Slots) (e : Effect) (es : List Effect) → Finding h s (e ∷ es) → Finding (tale_then h (told e s)) (row e s).slots ((row e s).caused ++ es)
  row-finding h s e es k = record {
    steady = steady h s e es k;
    writing = writing h s e es k;
    settled = settled h s e es k;
    holds = holds h s e es k;
    made = made h s e es k;
    promised = promised h s e es k;
    late = λ late a. by late a (is_live k.steady.x.phase) refl;
  }
    where
      by : is_live (row-steady p i s e es k.steady).x.phase ≡ false → AllMoments (FindsItUnfailing p) (h.moments ++ effect_moment e s) → (b : Bool) → is_live k.steady.x.phase ≡ b
          → AllFulfilled (row e s).slots.promises (promises_made p (h.moments ++ effect_moment e s))
      by late a true l = row-now h s e es k l late a
      by late a false l = before-late h s e es k l a

  -- where no effect was performed
  begins-finding : (h : Tale) (s z : Slots) (cs : List Effect) (k : Finding h s []) → Steady p i z cs → slice_get z.pipes p.0 ≡ Some k.steady.x → Writing p i h.writings z cs → settling.Is p h.moments z cs → Holds i h.both z cs → Keeps s.promises z.promises → Finding h z cs
  begins-finding h s z cs k st there w g o keeps =
      let is : st.x ≡ k.steady.x = some_pipe st.x k.steady.x (sym st.there ∙ there) in
      record {
        steady = st;
        writing = w;
        settled = g;
        holds = o;
        made = k.made;
        promised = k.promised;
        late = λ l a. all-keep s.promises z.promises (promises_made p h.moments) keeps (k.late (sym (ap (λ (y : pipe.Slots). is_live y.phase) is) ∙ l) a);
      }

  done-finding : (h : Tale) (d : Done) → Finding h d.slots d.caused → Finding (tale_then h (along no_tale tale_then told (moments d))) (performed d) []
  done-finding h d k = performed-goes no_tale tale_then tale-history told Finding row-finding h d k

  named-finding : (h : Tale) (reply : Reply) (s : Slots) → Finding h s [] → Finding h (named reply s) []
  named-finding h (Promise q) s k =
      begins-finding h s (with_promises (watch q s.promises) s) [] k (named-steady p i (Promise q) s k.steady) k.steady.there (same-writing p i h.writings s (with_promises (watch q s.promises) s) [] refl k.writing)
      ((settling.goes p).answered h.moments s q k.settled) ((holds-goes i).answered h.both s q k.holds) (keeps-watch q s.promises)
  named-finding h _ s k = k

  older-finding : (h : Tale) (s : Slots) → Finding h s [] → Finding h (older s) []
  older-finding h s k =
      begins-finding h s (older s) [] k (older-steady p i s k.steady) k.steady.there (same-writing p i h.writings s (older s) [] refl k.writing) ((settling.goes p).older h.moments s k.settled) ((holds-goes i).older h.both s k.holds) (keeps-same s.promises)

  heard-finding : (h : Tale) (s : Slots) → Locked (after_event s) [] → Finding h s [] → Finding h (after_event s) []
  heard-finding h s l k =
      begins-finding h s (after_event s) [] k (heard-steady p i s l k.steady) k.steady.there (same-writing p i h.writings s (after_event s) [] refl k.writing) ((settling.rests p).heard h.moments s k.settled) ((holds-rests i).heard h.both s k.holds)
      (keeps-entries s.promises (after_event s).promises refl (λ m. m))

  begun-finding : (job : Option Job) (h : Tale) (s : Slots) → job ≡ next_job s.promises → Finding h s [] → Finding h (job_begun s job).slots (job_begun s job).caused
  begun-finding None h s e k = k
  begun-finding (Some job) h s e k =
      let z : Slots = with_promises (after_next_job s.promises) s in
      begins-finding h s z (job_effects job) k (job-steady p i s job (sym e) k.steady) k.steady.there (same-writing p i h.writings s z (job_effects job) refl k.writing) ((settling.goes p).job h.moments s job (sym e) k.settled) ((holds-goes i).job h.both s job (sym e) k.holds)
      (keeps-next s.promises)

  abbrev tale_in : Slots → Entry → Tale
  tale_in s x = in_step no_tale tale_then told s x

  called-finding : (h : Tale) (c : Call) (s : Slots) → Finding h (begin c s).done.slots (begin c s).done.caused → Finding (tale_then h (tale_in s (Called c))) (step s (Called c)) []
  called-finding h c s k = older-finding _ _ (named-finding _ (begin c s).reply (performed (begin c s).done) (done-finding h (begin c s).done k))

  worked-finding : (h : Tale) (s : Slots) → Finding h s [] → Finding (tale_then h (tale_in s Worked)) (step s Worked) []
  unfolding begin_job
  worked-finding h s k = older-finding _ _ (done-finding h (begin_job s) (begun-finding (next_job s.promises) h s refl k))

  resting : (h : Tale) (s z : Slots) → Finding h z [] → Finding (tale_then h (along no_tale tale_then told (moments (nothing s)))) z []
  resting h s z k = rw (nothing-told no_tale tale_then tale-history told s, tale-history.right h) k

  step-finding : (h : Tale) (xs : List Entry) (x : Entry) → let s : Slots = run xs empty in Finding h s [] → Finding (tale_then h (tale_in s x)) (step s x) []
  step-finding h xs (Called c) k =
      let s : Slots = run xs empty in
      called-finding h c s
      (begins-finding h s (begin c s).done.slots (begin c s).done.caused k (call-steady p i xs c k.steady) (call-there p i k.steady.x c s k.steady.there)
      (same-writing p i h.writings s (begin c s).done.slots (begin c s).done.caused (call-same p i c s k.steady.stands) k.writing) ((settling.goes p).call h.moments s c k.settled) ((holds-goes i).call h.both s c k.holds) (call-keeps c s))
  step-finding h xs Worked k = worked-finding h (run xs empty) k
  step-finding h xs Heard k = let s : Slots = run xs empty in resting h s (after_event s) (heard-finding h s (last-locked p i xs Heard) k)

  abbrev tales : List Entry → Slots → Tale
  tales xs s = over no_tale tale_then tale_in xs s

  pub rest-finding : (ys xs : List Entry) (h : Tale) → Finding h (run xs empty) [] → Finding (tale_then h (tales ys (run xs empty))) (run (xs ++ ys) empty) []
  rest-finding [] xs h k = subst (λ (es : List Entry). Finding (tale_then h no_tale) (run es empty) []) (sym (append-nil xs)) (subst (λ (g : Tale). Finding g (run xs empty) []) (sym (tale-history.right h)) k)
  rest-finding (y ∷ ys) xs h k =
      let s : Slots = run xs empty in
      let same : run (xs ++ y ∷ []) empty ≡ step s y = run-last xs y empty in
      let one : Finding (tale_then h (tale_in s y)) (run (xs ++ y ∷ []) empty) [] = subst (λ (z : Slots). Finding (tale_then h (tale_in s y)) z []) (sym same) (step-finding h xs y k) in
      let all = rest-finding ys (xs ++ y ∷ []) (tale_then h (tale_in s y)) one in
      let moved : Finding (tale_then (tale_then h (tale_in s y)) (tales ys (step s y))) (run ((xs ++ y ∷ []) ++ ys) empty) [] =
      subst (λ (z : Slots). Finding (tale_then (tale_then h (tale_in s y)) (tales ys z)) (run ((xs ++ y ∷ []) ++ ys) empty) []) same all in
      subst (λ (es : List Entry). Finding (tale_then h (tales (y ∷ ys) s)) (run es empty) []) (append_assoc xs (y ∷ []) ys)
      (subst (λ (g : Tale). Finding g (run ((xs ++ y ∷ []) ++ ys) empty) []) (tale-history.assoc h (tale_in s y) (tales ys (step s y))) moved)

  along_moments : (ms : List Moment) → (along no_tale tale_then told ms).moments ≡ along [] ◌++◌ effect_moment ms
  along_moments [] = refl
  along_moments (m ∷ ms) = ap (λ (ns : List Moment). m ∷ ns) (along_moments ms)

  over_moments : (xs : List Entry) (s : Slots) → (tales xs s).moments ≡ run_moments xs s
  over_moments [] s = refl
  over_moments (x ∷ xs) s = ap (λ (ms : List Moment). ms ++ (tales xs (step s x)).moments) (along_moments (moments_in s x)) ∙ ap (λ (ms : List Moment). step_moments s x ++ ms) (over_moments xs (step s x))

past : (ps : List pipe.Slots) → slice_get ps (length ps) ≡ None
past [] = refl
past (x ∷ ps) = past ps

none-fulfilled : (t : Table) (ds : List PromiseId) → ds ≡ [] → AllFulfilled t ds
none-fulfilled t ds e = subst (AllFulfilled t) (sym e) (All-nil (λ d. outcome_at t d ≡ Some (Fulfilled Undefined)))

-- a run in which a call makes a pipe
module _ (before after : List Entry) (c : Call) (new : New (run before empty) (begin c (run before empty))) where
  abbrev s : Slots
  s = run before empty

  abbrev opened : Slots
  opened = (begin c s).done.slots

  abbrev whole : List Entry
  whole = before ++ Called c ∷ after

  abbrev p : PipeId
  p = next_pipe before

  abbrev y : pipe.Slots
  y = new.slots

  there-now : slice_get opened.pipes p.0 ≡ Some y
  there-now = ap (λ (ps : List pipe.Slots). slice_get ps p.0) new.made ∙ place-last s.pipes y

  abbrev first : Tale
  first = record {
    moments = run_moments before empty;
    writings = record { made = promises_made p (run_moments before empty); promised = run_promised y.dest before empty };
    both = record { writes = run_writes y.dest before empty; promised = run_promised y.dest before empty };
  }

  none-yet : promises_made p (run_moments before empty) ≡ []
  none-yet = sym (over_made p before empty) ∙ run-unmade p before (past s.pipes)

  module _ (f : is_writable (writable_at y.dest opened).state && not (is_closing (writable_at y.dest opened)) ≡ true) where
    begun : Steady p y.dest opened (begin c s).done.caused
    begun = record {
      x = y;
      there = there-now;
      dest = refl;
      straight = straight-stays.call s c (run-straight before);
      locked = locked-stays.call s c (run-locked before);
      stands = new.stands;
      live = λ l. (
        record {
          closing = not_false (is_closing (writable_at y.dest opened)) (and_right (is_writable (writable_at y.dest opened).state) (not (is_closing (writable_at y.dest opened))) f);
          closed = writable_open (writable_at y.dest opened).state (and_left (is_writable (writable_at y.dest opened).state) (not (is_closing (writable_at y.dest opened))) f);
        },
        new.calm,
      );
      late = λ l. false_true (is_live y.phase) (ap is_live new.flows) l;
    }

    first-finding : Finding p y.dest first opened (begin c s).done.caused
    first-finding = record {
      steady = begun;
      writing = Passed (subst (λ (ds : List PromiseId). AllIn ds (run_promised y.dest before empty)) (sym none-yet) tt);
      settled = (settling.goes p).call (run_moments before empty) s c (run-settled before p);
      holds = (holds-goes y.dest).call first.both s c (run-lined before y.dest);
      made = refl;
      promised = refl;
      late = λ l. false_true (is_live begun.x.phase) (ap is_live (ap (λ (x : pipe.Slots). x.phase) (some_pipe begun.x y (sym begun.there ∙ there-now)) ∙ new.flows)) l;
    }

    abbrev last : Tale
    last = tale_then (tale_then first (tale_in p y.dest s (Called c))) (tales p y.dest after (run (before ++ Called c ∷ []) empty))

    all-finding : Finding p y.dest last (run whole empty) []
    all-finding =
        let one : Finding p y.dest (tale_then first (tale_in p y.dest s (Called c))) (run (before ++ Called c ∷ []) empty) [] =
        subst (λ (q : Slots). Finding p y.dest (tale_then first (tale_in p y.dest s (Called c))) q []) (sym (run-last before (Called c) empty)) (called-finding p y.dest first c s first-finding) in
        subst (λ (es : List Entry). Finding p y.dest last (run es empty) []) (append_assoc before (Called c ∷ []) after) (rest-finding p y.dest after (before ++ Called c ∷ []) (tale_then first (tale_in p y.dest s (Called c))) one)

    last-moments : last.moments ≡ run_moments whole empty
    last-moments =
        ap (λ (ms : List Moment). (run_moments before empty ++ ms) ++ (tales p y.dest after (run (before ++ Called c ∷ []) empty)).moments) (along_moments p y.dest (moments_in s (Called c)))
        ∙ (ap (λ (ms : List Moment). (run_moments before empty ++ step_moments s (Called c)) ++ ms) (over_moments p y.dest after (run (before ++ Called c ∷ []) empty) ∙ ap (run_moments after) (run-last before (Called c) empty))
        ∙ (append_assoc (run_moments before empty) (step_moments s (Called c)) (run_moments after (step s (Called c)))
        ∙ sym (over-append [] ◌++◌ moments_history step_moments before (Called c ∷ after) empty)))

    open-succeeded : (x : pipe.Slots) → slice_get (run whole empty).pipes p.0 ≡ Some x → is_live x.phase ≡ false → AllMoments (FindsItUnfailing p) (run_moments whole empty) → AllFulfilled (run whole empty).promises (promises_made p (run_moments whole empty))
    open-succeeded x e l a =
        let k = all-finding in
        let is : k.steady.x ≡ x = some_pipe k.steady.x x (sym k.steady.there ∙ e) in
        subst (λ (ms : List Moment). AllFulfilled (run whole empty).promises (promises_made p ms)) last-moments
        (k.late (ap (λ (x : pipe.Slots). is_live x.phase) is ∙ l) (subst (AllMoments (FindsItUnfailing p)) (sym last-moments) a))

  made-succeeded : (x : pipe.Slots) → slice_get (run whole empty).pipes p.0 ≡ Some x → is_live x.phase ≡ false → AllMoments (FindsItUnfailing p) (run_moments whole empty) → AllFulfilled (run whole empty).promises (promises_made p (run_moments whole empty))
  made-succeeded x e l a = by (is_writable (writable_at y.dest opened).state && not (is_closing (writable_at y.dest opened))) refl
    where
      by : (b : Bool) → is_writable (writable_at y.dest opened).state && not (is_closing (writable_at y.dest opened)) ≡ b → AllFulfilled (run whole empty).promises (promises_made p (run_moments whole empty))
      by true f = open-succeeded f x e l a
      by false f =
          none-fulfilled (run whole empty).promises (promises_made p (run_moments whole empty))
          (sym (over_made p whole empty) ∙ none-made p y.dest before after c (run-unmade p before (past s.pipes)) new.stands f (record { slots = y; there = there-now; dest = refl; idle = new.idle }))

pub each_write_of_a_pipe_that_found_no_failure_succeeded : EachWriteOfAPipeThatFoundNoFailureSucceeded
each_write_of_a_pipe_that_found_no_failure_succeeded entries p x e l a =
    let o = pipe-origin entries p x e in
    let whole : List Entry = o.before ++ Called o.call ∷ o.after in
    let is : p ≡ next_pipe o.before = ap (λ (n : ℕ). record { 0 = n }) o.number in
    subst (λ (es : List Entry). slice_get (run es empty).pipes p.0 ≡ Some x → AllMoments (FindsItUnfailing p) (run_moments es empty) → AllFulfilled (run es empty).promises (promises_made p (run_moments es empty))) (sym o.split)
    (subst (λ (q : PipeId). slice_get (run whole empty).pipes q.0 ≡ Some x → AllMoments (FindsItUnfailing q) (run_moments whole empty) → AllFulfilled (run whole empty).promises (promises_made q (run_moments whole empty))) (sym is)
    (λ f g. made-succeeded o.before o.after o.call o.new x f l g)) e a
