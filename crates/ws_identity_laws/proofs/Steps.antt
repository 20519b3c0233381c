-- A call, a job and the taking of an event keep a link of any ends.
use Rattle.std.proofs.Common.{◌≡◌, true, List, [], ◌∷◌, ◌++◌, Option, Some, None, slice_get, refl, sym, ap, ◌∙◌, arith}
use Rattle.ws_value.specs.declared.ids.PipeId.{PipeId}
use Rattle.ws_value.specs.declared.ids.PromiseId.{PromiseId}
use Rattle.ws_value.specs.declared.ids.StreamId.{StreamId}
use Rattle.ws_value.specs.declared.value.Value.{Value}
use Rattle.ws_steps.specs.declared.calls.Call.{Call}
use Rattle.ws_steps.specs.declared.calls.Reply.{Reply}
use Rattle.ws_steps.specs.declared.calls.Reply.TheVariants.{Promise}
use Rattle.ws_steps.specs.declared.effects.Effect.{Effect}
use Rattle.ws_steps.specs.declared.locks.Lock.{Lock}
use Rattle.ws_steps.specs.declared.promises.Job.{Job}
use Rattle.ws_steps.specs.Calls.{begin, named}
use Rattle.ws_steps.specs.Histories.{along}
use Rattle.ws_steps.specs.Jobs.{job_effects, job_begun, begin_job}
use Rattle.ws_steps.specs.Promises.{next_job, after_next_job, watch}
use Rattle.ws_steps.specs.Run.{Entry, Called, Worked, Heard, step, older, after_call, after_job, after_event}
use Rattle.ws_steps.specs.Slots.{Slots, Done, with_promises, pipe_at, as_pipe, as_writable, owner_at, owner_of}
use Rattle.ws_steps.specs.Turns.{row, performed, moments}
use Rattle.ws_flow.specs.Told.{Told, then_told, IsShortOf}
use Rattle.ws_flow.proofs.Told.{then_assoc, then_empty, short_refl, short_trans, short_same, short_as, short_left, short_right}
use Rattle.ws_laws.proofs.Lists.{Each, each-map}
use Rattle.ws_laws.proofs.Apart.{row-locks}
use Rattle.ws_laws.proofs.Tables.{writable_there}
use Rattle.ws_laws.proofs.Walker.{IsHistory, performed-goes, nothing-told}
use Rattle.ws_pipe_laws.proofs.pipes.AtSource.{all_off}
use Rattle.ws_pipe_laws.proofs.pipes.PassingRuns.{call-none, job-none, call-is}
use Rattle.ws_transform_laws.proofs.Halving.{going}
use Rattle.ws_transform_laws.proofs.PortHalving.{port-going}
use Rattle.ws_transform_laws.proofs.Told.{along-map}
use Rattle.ws_link_laws.specs.Link.{silence, lies, leaves, giver_at, enters}
use Rattle.ws_link_laws.specs.Sound.{IsReached, all_spare}
use Rattle.ws_link_laws.proofs.Outer.{IsOuter, outer-inner, outer-last, outer-writes, outer-chunks, Begins}
use Rattle.ws_link_laws.proofs.Calls.{call-begins, call-untied}
use Rattle.ws_link_laws.proofs.Hosts.{reached-halved, reached-ended, sink-owner}
use Rattle.ws_link_laws.proofs.Pipes.{rank}
use Rattle.ws_link_laws.proofs.Standing.{IsInner, IsNotLast, state-same}
use Rattle.ws_link_laws.proofs.Steps.{reached-step, reached-going, reached-few, reached-is, elsewhere-is, append_ends, Grown, call-grown, source_there, grown-source, grown-state, job-inner, job-writes, job-chunks, job-ends}
use Rattle.ws_link_laws.proofs.Telling.{tells, IsSilent, silent-all, writes, chunks}
use Rattle.ws_identity_laws.specs.Ends.{IsAnyLink}
use Rattle.ws_identity_laws.specs.Passing.{effect_acts, step_acts, effect_takes, step_takes}
use Rattle.ws_identity_laws.proofs.Standing.{Stands, lies_on}
use Rattle.ws_identity_laws.proofs.Turns.{row-turned}
use Rattle.ws_transform_laws.proofs.Sunk.{AreSunk, run-sunk, sink-owned}

-- between steps, a link is what holds at each moment, with nothing on the agenda

pub reached-sunk : (s : Slots) → IsReached s → AreSunk s
reached-sunk s (xs, e) = rw e (run-sunk xs)

pub link-stands : (i j : StreamId) (p : PipeId) (s : Slots) → IsAnyLink i j p s → Stands i j p s []
link-stands i j p s l =
    let g = reached-going s j l.reached in
    let n = l.elsewhere in
    let m = elsewhere-is p i.0 s.streams in
    record {
      state = record {
        source = l.source;
        bare = l.bare;
        sink = l.sink;
        there = l.there;
        from = l.from;
        into = l.into;
        apart = l.apart;
        source_fits = l.source_fits;
        sink_fits = l.sink_fits;
        closes = l.closes;
      };
      history = g.0;
      going = g.1.0;
      porting = g.1.1;
      few = reached-few s p l.reached;
      only = omega (arith, n, m);
      inner = tt;
      ends = tt;
      untied = l.untied;
      sunk = sink-owned j s (reached-sunk s l.reached) l.sink;
    }

pub stands-link : (i j : StreamId) (p : PipeId) (s : Slots) → IsReached s → all_spare i j s.locks ≡ true → Stands i j p s [] → IsAnyLink i j p s
stands-link i j p s r a h =
    let n = h.only in
    let m = elsewhere-is p i.0 s.streams in
    record {
      reached = r;
      source = h.state.source;
      bare = h.state.bare;
      sink = h.state.sink;
      there = h.state.there;
      from = h.state.from;
      into = h.state.into;
      apart = h.state.apart;
      untied = h.untied;
      locks = a;
      elsewhere = omega (arith, n, m);
      source_fits = h.state.source_fits;
      sink_fits = h.state.sink_fits;
      closes = h.state.closes;
    }

-- what its ends do, side by side

pub record Sides : Type 0 where
  pub acts : Told Value
  pub takes : Told Value

abbrev pub none : Sides
none = record { acts = silence; takes = silence }

abbrev pub then_sides : Sides → Sides → Sides
then_sides f g = record { acts = then_told f.acts g.acts; takes = then_told f.takes g.takes }

are_sides : IsHistory none then_sides
are_sides = record {
  left = λ h. refl;
  right = λ h k. record { acts = then_empty h.acts k; takes = then_empty h.takes k };
  assoc = λ f g h k. record { acts = then_assoc f.acts g.acts h.acts k; takes = then_assoc f.takes g.takes h.takes k };
}

abbrev sides_told : StreamId → StreamId → Effect → Slots → Sides
sides_told i j e s = record { acts = effect_acts j e s; takes = effect_takes i e s }

-- effects that are performed, from what lies on the link

pub record From (i j : StreamId) (p : PipeId) (t : Told Value) (locks : List Lock) (h : Sides) (s : Slots) (es : List Effect) : Type 0 where
  pub stands : Stands i j p s es
  pub short : IsShortOf (then_told h.acts (lies_on i j p s es)) (then_told t h.takes)
  pub same : s.locks ≡ locks

more : (A a L2 L t K k : Told Value) → IsShortOf (then_told a L2) (then_told L k) → IsShortOf (then_told A L) (then_told t K) → IsShortOf (then_told (then_told A a) L2) (then_told t (then_told K k))
more A a L2 L t K k one two =
    short_same (then_told (then_told A a) L2) (then_told A (then_told a L2)) _ (then_assoc A a L2)
    (short_trans (then_told A (then_told a L2)) (then_told A (then_told L k)) _ (short_left A (then_told a L2) (then_told L k) one)
    (short_same (then_told A (then_told L k)) (then_told (then_told A L) k) _ (sym (then_assoc A L k))
    (short_as (then_told (then_told A L) k) (then_told (then_told t K) k) _ (then_assoc t K k) (short_right (then_told A L) (then_told t K) k two))))

row-from : (i j : StreamId) (p : PipeId) (t : Told Value) (locks : List Lock) (h : Sides) (s : Slots) (e : Effect) (es : List Effect) → From i j p t locks h s (e ∷ es)
    → From i j p t locks (then_sides h (sides_told i j e s)) (row e s).slots ((row e s).caused ++ es)
row-from i j p t locks h s e es k =
    let n = row-turned i j p s e es k.stands in
    record {
      stands = n.stands;
      short = more h.acts (effect_acts j e s) (lies_on i j p (row e s).slots ((row e s).caused ++ es)) (lies_on i j p s (e ∷ es)) t h.takes (effect_takes i e s) n.short k.short;
      same = row-locks e s ∙ k.same;
    }

-- what its ends do as effects are performed
abbrev pub performed_sides : StreamId → StreamId → Done → Sides
performed_sides i j d = record { acts = along silence then_told (effect_acts j) (moments d); takes = along silence then_told (effect_takes i) (moments d) }

sides-are : (i j : StreamId) (d : Done) → along none then_sides (sides_told i j) (moments d) ≡ performed_sides i j d
sides-are i j d = λ k. record {
  acts = along-map none then_sides silence then_told (λ (h : Sides). h.acts) refl (λ a b. refl) (sides_told i j) (moments d) k;
  takes = along-map none then_sides silence then_told (λ (h : Sides). h.takes) refl (λ a b. refl) (sides_told i j) (moments d) k;
}

pub performed-from : (i j : StreamId) (p : PipeId) (t : Told Value) (locks : List Lock) (d : Done) → From i j p t locks none d.slots d.caused → From i j p t locks (performed_sides i j d) (performed d) []
performed-from i j p t locks d k = rw (sides-are i j d) at (performed-goes none then_sides are_sides (sides_told i j) (From i j p t locks) (row-from i j p t locks) none d k)

-- it grows older, and a promise is watched

pub older-from : (i j : StreamId) (p : PipeId) (t : Told Value) (locks : List Lock) (h : Sides) (s : Slots) → From i j p t locks h s [] → From i j p t locks h (older s) []
older-from i j p t locks h s k = record {
  stands = record {
    state = state-same i j p s (older s) refl refl k.stands.state;
    history = k.stands.history;
    going = λ t. (going j t).older k.stands.history s (k.stands.going t);
    porting = λ c. (port-going j c).older k.stands.history s (k.stands.porting c);
    few = k.stands.few;
    only = k.stands.only;
    inner = tt;
    ends = tt;
    untied = k.stands.untied;
    sunk = k.stands.sunk;
  };
  short = k.short;
  same = k.same;
}

watched-from : (i j : StreamId) (p : PipeId) (t : Told Value) (locks : List Lock) (h : Sides) (s : Slots) (q : PromiseId) → From i j p t locks h s [] → From i j p t locks h (with_promises (watch q s.promises) s) []
watched-from i j p t locks h s q k = record {
  stands = record {
    state = state-same i j p s (with_promises (watch q s.promises) s) refl refl k.stands.state;
    history = k.stands.history;
    going = λ t. (going j t).answered k.stands.history s q (k.stands.going t);
    porting = λ c. (port-going j c).answered k.stands.history s q (k.stands.porting c);
    few = k.stands.few;
    only = k.stands.only;
    inner = tt;
    ends = tt;
    untied = k.stands.untied;
    sunk = k.stands.sunk;
  };
  short = k.short;
  same = k.same;
}

pub named-from : (i j : StreamId) (p : PipeId) (t : Told Value) (locks : List Lock) (h : Sides) (reply : Reply) (s : Slots) → From i j p t locks h s [] → From i j p t locks h (named reply s) []
named-from i j p t locks h (Promise q) s k = watched-from i j p t locks h s q k
named-from i j p t locks h _ s k = k

pub from-link : (i j : StreamId) (p : PipeId) (t : Told Value) (locks : List Lock) (h : Sides) (z : Slots) → IsReached z → all_spare i j locks ≡ true → From i j p t locks h z [] → IsAnyLink i j p z × IsShortOf (then_told h.acts (lies i j p z)) (then_told t h.takes)
from-link i j p t locks h z r a k = (stands-link i j p z r (rw k.same a) k.stands, k.short)

-- a link over one entry
abbrev pub Keeps : StreamId → StreamId → PipeId → Slots → Entry → Type 0
Keeps i j p s x = IsAnyLink i j p (step s x) × IsShortOf (then_told (step_acts j s x) (lies i j p (step s x))) (then_told (lies i j p s) (step_takes i s x))

-- jobs

begun-from : (i j : StreamId) (p : PipeId) (s : Slots) (o : Option Job) → o ≡ next_job s.promises → Stands i j p s [] → From i j p (lies i j p s) s.locks none (job_begun s o).slots (job_begun s o).caused
begun-from i j p s None e h = record { stands = h; short = rw (then_empty (lies i j p s)) (short_refl (lies i j p s)); same = refl }
begun-from i j p s (Some job) e h =
    let z : Slots = with_promises (after_next_job s.promises) s in
    let none_ = job-none p job in
    let only = h.only in
    let o = all_off p i (job_effects job) in
    record {
      stands = record {
        state = state-same i j p s z refl refl h.state;
        history = h.history;
        going = λ t. (going j t).job h.history s job (sym e) (h.going t);
        porting = λ c. (port-going j c).job h.history s job (sym e) (h.porting c);
        few = let few = h.few in omega (arith, few, none_);
        only = omega (arith, only, none_, o);
        inner = job-inner i j p (rank (pipe_at p s).phase) job;
        ends = job-ends j p job;
        untied = h.untied;
        sunk = h.sunk;
      };
      short =
          rw (silent-all (writes j) (job_effects job) (job-writes j job), silent-all (chunks p) (job_effects job) (job-chunks p job), then_empty (lies i j p s)) (short_refl (lies i j p s));
      same = refl;
    }

pub link-worked : (i j : StreamId) (p : PipeId) (s : Slots) → IsAnyLink i j p s → Keeps i j p s Worked
unfolding begin_job
link-worked i j p s l =
    let h = link-stands i j p s l in
    let d : Done = job_begun s (next_job s.promises) in
    from-link i j p (lies i j p s) s.locks (performed_sides i j d) (after_job s) (reached-step s Worked l.reached) l.locks
    (older-from i j p (lies i j p s) s.locks (performed_sides i j d) (performed d) (performed-from i j p (lies i j p s) s.locks d (begun-from i j p s (next_job s.promises) refl h)))

-- calls

link-grown : (i j : StreamId) (p : PipeId) (s : Slots) → Stands i j p s [] → Grown i j p s s
link-grown i j p s h = record {
  source = source_there (slice_get s.streams i.0) h.state.source;
  sink = writable_there (slice_get s.streams j.0) h.state.sink;
  there = h.state.there;
  only = let w = h.only in omega (arith, w);
}

module _ (i j : StreamId) (p : PipeId) (s : Slots) (c : Call) (l : IsAnyLink i j p s) (leave : leaves i j c ≡ true) where
  abbrev pub d : Done
  d = (begin c s).done

  abbrev pub t : Told Value
  t = lies i j p s

  before : Stands i j p s []
  before = link-stands i j p s l

  begins : Begins i j p s (enters (giver_at i s) i c) (begin c s)
  begins = call-begins i j p s l.source l.sink (reached-halved s l.reached) (reached-ended s l.reached) l.locks l.apart c leave

  grown : Grown i j p s d.slots
  grown = call-grown i j p c s s (link-grown i j p s before)

  begun-inner : Each (IsInner i j p (rank (pipe_at p d.slots).phase)) d.caused
  begun-inner = each-map (IsOuter i j) (IsInner i j p (rank (pipe_at p d.slots).phase)) (outer-inner i j p (rank (pipe_at p d.slots).phase)) d.caused begins.outer

  begun-last : Each (IsNotLast p) d.caused
  begun-last = each-map (IsOuter i j) (IsNotLast p) (outer-last p i j) d.caused begins.outer

  begun-writes : tells (writes j) d.caused ≡ silence
  begun-writes = silent-all (writes j) d.caused (each-map (IsOuter i j) (IsSilent (writes j)) (outer-writes i j) d.caused begins.outer)

  begun-chunks : tells (chunks p) d.caused ≡ silence
  begun-chunks = silent-all (chunks p) d.caused (each-map (IsOuter i j) (IsSilent (chunks p)) (outer-chunks p i j) d.caused begins.outer)

  same-sink : owner_at j d.slots ≡ owner_at j s
  same-sink = ap owner_of grown.sink ∙ sym (sink-owner j s l.sink)

  begun-stands : Stands i j p d.slots d.caused
  begun-stands =
      let r = reached-is s p l.reached in
      let few = (call-is p r.0 s c r.1).0 in
      let w = grown.only in
      let none_ = call-none p c s in
      let o = all_off p i d.caused in
      record {
        state = grown-state i j p s d.slots grown begins.apart before.state;
        history = before.history;
        going = λ t. (going j t).call before.history s c (before.going t);
        porting = λ q. (port-going j q).call before.history s c (before.porting q);
        few = few;
        only = omega (arith, w, none_, o);
        inner = begun-inner;
        ends = append_ends j p d.caused begun-last;
        untied = call-untied i j c s leave l.untied;
        sunk = rw same-sink before.sunk;
      }

  begun-told : lies_on i j p d.slots d.caused ≡ t
  begun-told = rw (begun-writes, begun-chunks, ap as_pipe grown.there, grown-source i j p s d.slots grown l.source, ap as_writable grown.sink) refl

  begun : From i j p t d.slots.locks none d.slots d.caused
  begun = record { stands = begun-stands; short = rw (begun-told, then_empty t) (short_refl t); same = refl }

  called : Keeps i j p s (Called c)
  called =
      let h : Sides = performed_sides i j d in
      let z : Slots = named (begin c s).reply (performed d) in
      from-link i j p t d.slots.locks h (after_call c s) (reached-step s (Called c) l.reached) begins.locks
      (older-from i j p t d.slots.locks h z (named-from i j p t d.slots.locks h (begin c s).reply (performed d) (performed-from i j p t d.slots.locks d begun)))

-- a call that leaves the link alone keeps it
pub link-called : (i j : StreamId) (p : PipeId) (s : Slots) (c : Call) → IsAnyLink i j p s → leaves i j c ≡ true → Keeps i j p s (Called c)
link-called i j p s c l leave = called i j p s c l leave

-- what the host does between steps

quiet-link : (i j : StreamId) (p : PipeId) (s z : Slots) → IsReached z → z.streams ≡ s.streams → z.tees ≡ s.tees → z.pipes ≡ s.pipes → z.locks ≡ s.locks → IsAnyLink i j p s → IsAnyLink i j p z
quiet-link i j p s z r e t f g l = record {
  reached = r;
  source = rw e l.source;
  bare = rw e l.bare;
  sink = rw e l.sink;
  there = rw f l.there;
  from = rw f l.from;
  into = rw f l.into;
  apart = rw f l.apart;
  untied = rw t l.untied;
  locks = rw g l.locks;
  elsewhere = rw e l.elsewhere;
  source_fits = rw e l.source_fits;
  sink_fits = rw e l.sink_fits;
  closes = rw (e, f) l.closes;
}

-- the taking of an event keeps it, and nothing passes
pub link-heard : (i j : StreamId) (p : PipeId) (s : Slots) → IsAnyLink i j p s → Keeps i j p s Heard
link-heard i j p s l =
    let a = nothing-told silence then_told told_is (effect_acts j) s in
    let b = nothing-told silence then_told told_is (effect_takes i) s in
    (quiet-link i j p s (after_event s) (reached-step s Heard l.reached) refl refl refl refl l, rw (a, b, then_empty (lies i j p s)) (short_refl (lies i j p s)))
  where
    told_is : IsHistory {H = Told Value} silence then_told
    told_is = record { left = λ h. refl; right = then_empty; assoc = then_assoc }
