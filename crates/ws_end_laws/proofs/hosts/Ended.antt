-- The destination of a pipe without preventClose that ended without an error (`each_fulfilled_pipe_closed_its_destination`).
use Rattle.std.proofs.Common.{◌≡◌, ℕ, zero, suc, ◌≤◌, Bool, true, false, ◌||◌, is_some, List, [], ◌∷◌, ◌++◌, length, Option, Some, None, Result, Ok, Err, slice_get, refl, sym, ap, subst, ◌∙◌, arith, append_assoc, inl, inr}
use Rattle.ws_value.specs.declared.{ids.PipeId.{PipeId}, ids.PromiseId.{PromiseId}, ids.SignalId.{SignalId}, ids.StreamId.{StreamId}}
use Rattle.ws_value.specs.declared.value.Plain.{Plain}
use Rattle.ws_steps.specs.declared.calls.{Call.{Call}, Call.TheVariants.{Pipe as PipeCall}}
use Rattle.ws_steps.specs.declared.pipes.{Prevent.{Prevent}}
use Rattle.ws_steps.specs.declared.promises.{Job.{Job}, Job.TheVariants.{Reaction as ReactionJob, Follow, Settle, Micro as MicroJob}, Reaction.{Reaction}, Reaction.TheVariants.{Perform, Adopt}, Step.{Step}}
use Rattle.ws_steps.specs.declared.writable.WritableState.{WritableState}
use Rattle.ws_steps.specs.declared.writable.WritableState.TheVariants.{Closed}
use Rattle.ws_steps.specs.Calls.{begin}
use Rattle.ws_steps.specs.Histories.{along, over}
use Rattle.ws_steps.specs.Pipes as pipe
use Rattle.ws_steps.specs.Pipes.{is_flowing}
use Rattle.ws_steps.specs.Promises.{Entry as PromiseEntry, Table, live}
use Rattle.ws_steps.specs.Run.{Entry, Called, run, step, moments_in}
use Rattle.ws_steps.specs.Slots.{Slots, Stream, empty, as_writable, as_pipe, pipe_at, no_writable, has_writable, writable_at}
use Rattle.ws_steps.specs.Turns.{Moment}
use Rattle.ws_steps.specs.Writable as writable
use Rattle.ws_steps.specs.Writable.{is_closed, is_closing, is_writable}
use Rattle.ws_laws.proofs.Tables.{no_writable_there}
use Rattle.ws_laws.proofs.Walker.{run-stays}
use Rattle.ws_promise_laws.proofs.Runs.{Straight, straight-stays, straight-heard, straight-empty}
use Rattle.ws_pipe_laws.specs.pipes.PipeHistory.{is_acting, Course, no_course, course_then, effect_course, run_course}
use Rattle.ws_pipe_laws.specs.pipes.PipeMoves.{MakesPipes, MakesNone, MakesOne, SendsReadable, SendsWritable}
use Rattle.ws_pipe_laws.specs.pipes.PipeReads.{IsCourseAt, one_if}
use Rattle.ws_pipe_laws.specs.pipes.PipeWrites.{in_reactions, in_entries, in_jobs, outstanding, of_action}
use Rattle.ws_pipe_laws.proofs.pipes.Courses.{each_pipe_has_a_course}
use Rattle.ws_pipe_laws.proofs.pipes.Made.{each_pipe_begins_flowing}
use Rattle.ws_pipe_laws.proofs.writes.Owed.{each_pipe_is_owed}
use Rattle.ws_pipe_laws.proofs.locks.Runs.{locked-stays, run-locked}
use Rattle.ws_end_laws.specs.hosts.HostLaws.{MakesAPipe, next_pipe, with_pipe, EachFulfilledPipeClosedItsDestination}
use Rattle.ws_end_laws.proofs.hosts.Called.{place-last}
use Rattle.ws_end_laws.proofs.hosts.Reactions.{any_marked, entry_marked, JobFits, JobsFit, Good}
use Rattle.ws_end_laws.proofs.hosts.Closing.{is_closed_in, closed_in}
use Rattle.ws_end_laws.proofs.hosts.Staying.{Open}
use Rattle.ws_end_laws.proofs.hosts.Acts.{acts_on, call-fits}
use Rattle.ws_end_laws.proofs.hosts.Piped.{Source, Told, Calm}
use Rattle.ws_end_laws.proofs.hosts.PipedRows.{EndWell, effect_ends, Piped}
use Rattle.ws_end_laws.proofs.hosts.PipedRuns.{call-same, call-good, called-piped, step_ends, ends, PipedAfter, next-piped, rest-piped}
use Rattle.ws_end_laws.proofs.hosts.Closed.{close-was-settled}
use Rattle.ws_end_laws.proofs.hosts.Making.{New, Adds, call-adds}

-- each promise that is to be settled is open, over every run
run-straight : (entries : List Entry) → Straight (run entries empty) []
run-straight entries = run-stays Straight straight-stays straight-heard entries empty straight-empty

-- before a pipe is made, nothing reacts to its action

same_step : (p : PipeId) (step : Step) → of_action p step ≡ one_if (acts_on p step)
same_step p step = grind arith

module _ (p : PipeId) where
  none_in : (rs : List Reaction) → in_reactions (of_action p) rs ≤ 0 → any_marked (acts_on p) rs ≡ false
  none_in [] n = refl
  none_in (Perform step derived ∷ rs) n = let e = same_step p step in let rest = none_in rs (omega arith) in by (acts_on p step) refl rest
    where
      by : (b : Bool) → acts_on p step ≡ b → any_marked (acts_on p) rs ≡ false → acts_on p step || any_marked (acts_on p) rs ≡ false
      by true f r = let e = same_step p step in let g : one_if (acts_on p step) ≡ 1 = ap one_if f in absurd (omega arith)
      by false f r = rw f r
  none_in (Adopt q ∷ rs) n = none_in rs n

  none_at : (es : List (Option PromiseEntry)) (k : ℕ) → in_entries (of_action p) es ≤ 0 → entry_marked (acts_on p) (live (slice_get es k)) ≡ false
  none_at [] k n = refl
  none_at (None ∷ es) zero n = refl
  none_at (Some e ∷ es) zero n = none_in e.reactions (omega arith)
  none_at (e ∷ es) (suc k) n = none_at es k (omega arith)

  jobs_fit : (W : Type 0) (js : List Job) → in_jobs (of_action p) js ≤ 0 → JobsFit (acts_on p) W js
  jobs_fit W [] n = tt
  jobs_fit W (ReactionJob step o derived ∷ js) n = let e = same_step p step in (one o, jobs_fit W js (omega arith))
    where
      one : (o : Result Plain Plain) → JobFits (acts_on p) W (ReactionJob step o derived)
      one (Ok v) = λ m. let e = same_step p step in let g : one_if (acts_on p step) ≡ 1 = ap one_if m in absurd (omega arith)
      one (Err r) = tt
  jobs_fit W (Follow q r ∷ js) n = (tt, jobs_fit W js n)
  jobs_fit W (Settle q o ∷ js) n = (tt, jobs_fit W js n)
  jobs_fit W (MicroJob m ∷ js) n = (tt, jobs_fit W js n)

  none-good : (P : PromiseId → Type 0) (W : Type 0) (t : Table) → outstanding (of_action p) t ≤ 0 → Good (acts_on p) P W t
  none-good P W t n = record {
    registered = λ q m. let f = none_at t.entries q.0 (omega arith) in absurd (cc);
    queued = jobs_fit W t.jobs (omega arith);
  }

  unmade-good : (P : PromiseId → Type 0) (W : Type 0) (entries : List Entry) → let s : Slots = run entries empty in slice_get s.pipes p.0 ≡ None → Good (acts_on p) P W s.promises
  unmade-good P W entries e =
      let s : Slots = run entries empty in
      let o = (each_pipe_is_owed entries p).action in
      let at : one_if (is_acting (pipe_at p s).phase) ≡ 0 = ap (λ (o : Option pipe.Slots). one_if (is_acting (as_pipe o).phase)) e in
      none-good P W s.promises (omega arith)

-- the ends of a pipe over a run are those of its course

along_ends : (p : PipeId) (ms : List Moment) → (along no_course course_then (effect_course p) ms).ended ≡ along [] ◌++◌ (effect_ends p) ms
along_ends p [] = refl
along_ends p (m ∷ ms) = ap (λ (es : List (Option Plain)). effect_ends p m.effect m.found ++ es) (along_ends p ms)

over_ends : (p : PipeId) (i : StreamId) (xs : List Entry) (s : Slots) → (run_course p xs s).ended ≡ over [] ◌++◌ (step_ends p i) xs s
over_ends p i [] s = refl
over_ends p i (x ∷ xs) s =
    ap (λ (es : List (Option Plain)). es ++ (run_course p xs (step s x)).ended) (along_ends p (moments_in s x))
    ∙ ap (λ (es : List (Option Plain)). along [] ◌++◌ (effect_ends p) (moments_in s x) ++ es) (over_ends p i xs (step s x))

past : (ps : List pipe.Slots) → slice_get ps (length ps) ≡ None
past [] = refl
past (x ∷ ps) = past ps

pub writable_open : (state : WritableState) → is_writable state ≡ true → is_closed state ≡ false
writable_open state e = grind arith

writable_there : (i : StreamId) (s : Slots) → is_writable (writable_at i s).state ≡ true → has_writable i s ≡ true
writable_there i s e = by (has_writable i s) refl
  where
    by : (b : Bool) → has_writable i s ≡ b → b ≡ true
    by true f = refl
    by false f =
        let none : writable_at i s ≡ no_writable = no_writable_there (slice_get s.streams i.0) f in
        let g : false ≡ true = subst (λ (w : writable.Slots). is_writable w.state ≡ true) none e in absurd (cc)

pub state_closed : (o : Option Stream) → is_closed_in o ≡ true → (as_writable o).state ≡ Closed
state_closed o e = grind arith

not_both : (o : Option Stream) → is_closed_in o ≡ true → is_closed (as_writable o).state ≡ false → ⊥
not_both o e f = grind arith

-- A call after these entries that makes a pipe, which closes its destination; and the destination is writable and not closing as the call has begun
pub record Makes (before : List Entry) (c : Call) : Type 0 where
  pub new : New (run before empty) (begin c (run before empty))
  pub closes : new.slots.prevent.close ≡ false
  pub open_now : Open (writable_at new.slots.dest (begin c (run before empty)).done.slots)

module _ (before : List Entry) (c : Call) (m : Makes before c) where
  abbrev s : Slots
  s = run before empty

  abbrev z : Slots
  z = (begin c s).done.slots

  abbrev p : PipeId
  p = next_pipe before

  abbrev y : pipe.Slots
  y = m.new.slots

  pub not_made : slice_get s.pipes p.0 ≡ None
  not_made = past s.pipes

  no_ends : ends p y.dest before ≡ []
  no_ends = sym (over_ends p y.dest before empty) ∙ ap (λ (k : Course). k.ended) (subst (IsCourseAt (run_course p before empty)) not_made (each_pipe_has_a_course before p))

  pub begun : Piped p y.dest [] z (begin c s).done.caused
  begun = record {
    x = y;
    there = ap (λ (ps : List pipe.Slots). slice_get ps p.0) m.new.made ∙ place-last s.pipes y;
    dest = refl;
    closes = m.closes;
    straight = straight-stays.call s c (run-straight before);
    locked = locked-stays.call s c (run-locked before);
    stands = m.new.stands;
    started = λ f. absurd (not_both (slice_get z.streams y.dest.0) f m.open_now.closed);
    live = λ f. (m.open_now, m.new.calm);
    plain = λ f. let g : true ≡ false = sym (ap is_flowing m.new.flows) ∙ f in absurd (cc);
    table = call-good p y.dest (Source p y.dest y z) (Told p y.dest y z) c s (unmade-good p (Source p y.dest y z) (Told p y.dest y z) before not_made);
    shape = Calm (call-fits p (Told p y.dest y z) c s);
    ended = tt;
  }

  pub made_after : PipedAfter p y.dest (before ++ Called c ∷ [])
  made_after =
      next-piped p y.dest before (Called c)
      (subst (λ (h : List (Option Plain)). Piped p y.dest (h ++ step_ends p y.dest s (Called c)) (step s (Called c)) []) (sym no_ends) (called-piped p y.dest [] c s begun))

  -- it goes on to the end of the run
  pub piped : (after : List Entry) → PipedAfter p y.dest (before ++ Called c ∷ after)
  piped after =
      subst (PipedAfter p y.dest) (append_assoc before (Called c ∷ []) after)
      (rest-piped p y.dest after (before ++ Called c ∷ []) made_after)

-- such a pipe that ended without an error has a destination that is closed
pub fulfilled-closed : (before after : List Entry) (c : Call) (m : Makes before c) → let entries : List Entry = before ++ Called c ∷ after in
    (run_course (next_pipe before) entries empty).ended ≡ None ∷ [] → closed_in m.new.slots.dest (run entries empty) ≡ true
fulfilled-closed before after c m e =
    let entries : List Entry = before ++ Called c ∷ after in
    let dest : StreamId = m.new.slots.dest in
    let k = piped before c m after in
    let h : ends (next_pipe before) dest entries ≡ None ∷ [] = sym (over_ends (next_pipe before) dest entries empty) ∙ e in
    let f : EndWell (closed_in dest (run entries empty) ≡ true) (None ∷ []) = subst (EndWell (closed_in dest (run entries empty) ≡ true)) h k.ended in
    f.0 refl

-- a pipeTo makes such a pipe

module _ (before : List Entry) (source dest : StreamId) (prevent : Prevent) (signal : Option SignalId) (m : MakesAPipe before source dest prevent signal) where
  abbrev old : Slots
  old = run before empty

  abbrev c : Call
  c = PipeCall source dest prevent signal

  abbrev after : Slots
  after = (begin c old).done.slots

  abbrev number : PipeId
  number = next_pipe before

  stands : has_writable dest old ≡ true
  stands = writable_there dest old m.writable

  open_now : Open (writable_at dest after)
  open_now =
      subst Open (sym (ap as_writable (call-same number dest c old stands))) (record { closing = m.not_closing; closed = writable_open (writable_at dest old).state m.writable })

  some_there : slice_get old.pipes number.0 ≡ slice_get after.pipes number.0 → ⊥
  some_there e = let n : is_some (slice_get after.pipes number.0) ≡ false = ap is_some (sym e ∙ past old.pipes) in let t = m.made in cc

  same_call : (from to : StreamId) (not_to : Prevent) (by : Option SignalId) → c ≡ PipeCall from to not_to by → (to ≡ dest) × (not_to ≡ prevent)
  same_call from to not_to by e = (cc, cc)

  some_pipe : (x w : pipe.Slots) → ◌≡◌ {A = Option pipe.Slots} (Some x) (Some w) → x ≡ w
  some_pipe x w e = cc

  -- the pipe is that of the call
  same_new : (x w : pipe.Slots) → after.pipes ≡ old.pipes ++ x ∷ [] → after.pipes ≡ old.pipes ++ w ∷ [] → x ≡ w
  same_new x w e f = some_pipe x w (sym (place-last old.pipes x) ∙ (ap (λ (ps : List pipe.Slots). slice_get ps number.0) (sym e ∙ f) ∙ place-last old.pipes w))

  is_its : (n : New old (begin c old)) → (n.slots.dest ≡ dest) × (n.slots.prevent ≡ prevent)
  is_its n = by (each_pipe_begins_flowing c old)
    where
      by : MakesPipes c old (begin c old) → (n.slots.dest ≡ dest) × (n.slots.prevent ≡ prevent)
      by (MakesNone e) = absurd (some_there (ap (λ (ps : List pipe.Slots). slice_get ps number.0) (sym e)))
      by (MakesOne from to not_to on w e f k) =
          let same = same_call from to not_to on e in
          let is = same_new n.slots w n.made f in
          (ap (λ (x : pipe.Slots). x.dest) is ∙ (k.dest ∙ same.0), ap (λ (x : pipe.Slots). x.prevent) is ∙ (k.prevent ∙ same.1))
      by (SendsReadable i w e has f k) = absurd (cc)
      by (SendsWritable i w e isnt has f k) = absurd (cc)

  made : (k : Makes before c) × (k.new.slots.dest ≡ dest)
  made = by (call-adds c old)
    where
      by : Adds old (begin c old) → (k : Makes before c) × (k.new.slots.dest ≡ dest)
      by (inl e) = absurd (some_there (ap (λ (ps : List pipe.Slots). slice_get ps number.0) (sym e)))
      by (inr n) =
          let is = is_its n in (
            record {
              new = n;
              closes = ap (λ (q : Prevent). q.close) is.1 ∙ m.closes;
              open_now = subst (λ (j : StreamId). Open (writable_at j after)) (sym is.0) open_now;
            },
            is.0,
          )

pub each_fulfilled_pipe_closed_its_destination : EachFulfilledPipeClosedItsDestination
each_fulfilled_pipe_closed_its_destination before after source dest prevent signal m e =
    let entries : List Entry = with_pipe before source dest prevent signal after in
    let k = made before source dest prevent signal m in
    let closed : closed_in dest (run entries empty) ≡ true = subst (λ (j : StreamId). closed_in j (run entries empty) ≡ true) k.1 (fulfilled-closed before after (PipeCall source dest prevent signal) k.0 e) in
    record { closed = state_closed (slice_get (run entries empty).streams dest.0) closed; settled = λ host. close-was-settled entries dest host closed }
