-- What each port posts in a run, and when it is entangled.
use Rattle.std.proofs.Common.{◌≡◌, Bool, true, false, not, ◌||◌, List, [], ◌∷◌, ◌++◌, Option, Some, None, slice_get, refl, sym, ap, append_assoc, arith}
use Rattle.std.specs.Prelude.{is_some}
use Rattle.ws_value.specs.declared.ids.PortId.{PortId}
use Rattle.ws_steps.specs.Cross as cross
use Rattle.ws_steps.specs.Histories.{along, in_step, over, taken_event, run_events}
use Rattle.ws_steps.specs.Histories as histories
use Rattle.ws_steps.specs.PortHistory.{posted_in, run_taken, taken_in_step}
use Rattle.ws_steps.specs.Run.{Entry, Called, Worked, Heard, run, step}
use Rattle.ws_steps.specs.Slots.{Slots, empty, has_port, port_at, as_port}
use Rattle.ws_steps.specs.Turns.{Moment}
use Rattle.ws_laws.proofs.Walker as walker
use Rattle.ws_tee_port_laws.specs.ports.Posts.{EachReadableEndPosts, EachWritableEndPosts}
use Rattle.ws_tee_port_laws.proofs.ports.Fitting.{fitting-empty}
use Rattle.ws_tee_port_laws.proofs.ports.Posting.{Posts}
use Rattle.ws_tee_port_laws.proofs.ports.PostingRuns.{Past, nothing_past, then_past, past-history, untold_past, said, Held, Whole, posting-goes, posting-rests}
use Rattle.ws_tee_port_laws.proofs.ports.Told.{posted, posted-append}

module _ (c : PortId) where
  abbrev happened : Slots → Entry → Past
  happened = walker.happens nothing_past then_past past-history untold_past (said c) (Whole c) (posting-goes c)

  quiet-along : (ms : List Moment) → along nothing_past then_past untold_past ms ≡ nothing_past
  quiet-along [] = refl
  quiet-along (m ∷ ms) = rw (quiet-along ms) refl

  happened-said : (s : Slots) (x : Entry) → happened s x ≡ said c s x
  happened-said s x = rw (quiet-along _) (past-history.right (said c s x))

  taken-said : (s : Slots) (x : Entry) → (said c s x).taken ≡ taken_in_step c s x
  taken-said s (Called call) = refl
  taken-said s Worked = refl
  taken-said s Heard = refl

  pub heard-said : (s : Slots) (x : Entry) → (said c s x).heard ≡ posted_in c (histories.taken_in_step s x)
  heard-said s (Called call) = refl
  heard-said s Worked = refl
  heard-said s Heard = refl

  run-taken : (xs : List Entry) (s : Slots) → (over nothing_past then_past happened xs s).taken ≡ run_taken c xs s
  run-taken [] s = refl
  run-taken (x ∷ xs) s = rw (ap (λ (p : Past). p.taken) (happened-said s x), taken-said s x, run-taken xs (step s x)) refl

  pub run-heard : (xs : List Entry) (s : Slots) → (over nothing_past then_past happened xs s).heard ++ posted c (run xs s).promises ≡ posted_in c (run_events xs s)
  run-heard [] s = refl
  run-heard (x ∷ xs) s =
      let rest = over nothing_past then_past happened xs (step s x) in
      rw (ap (λ (p : Past). p.heard) (happened-said s x), heard-said s x, append_assoc (posted_in c (histories.taken_in_step s x)) rest.heard (posted c (run xs (step s x)).promises), run-heard xs (step s x))
      (sym (posted-append c (histories.taken_in_step s x) (run_events xs (step s x))))

  pub run-posts : (entries : List Entry) → Held c (record { taken = run_taken c entries empty; heard = [] }) (posted_in c (run_events entries empty)) (slice_get (run entries empty).ports c.0) []
  run-posts entries =
      let k = (walker.run-goes nothing_past then_past past-history untold_past (said c) (Whole c) (posting-goes c) (posting-rests c) entries nothing_past empty (fitting-empty, (refl, refl))).1 in
      let h : Past = over nothing_past then_past happened entries empty in
      of_held h (slice_get (run entries empty).ports c.0) (run-taken entries empty) (run-heard entries empty) k
    where
      of_held : (h : Past) (o : Option cross.Slots) → h.taken ≡ run_taken c entries empty → h.heard ++ posted c (run entries empty).promises ≡ posted_in c (run_events entries empty)
          → Held c h (h.heard ++ posted c (run entries empty).promises) o [] → Held c (record { taken = run_taken c entries empty; heard = [] }) (posted_in c (run_events entries empty)) o []
      of_held h None t p k = rw (← t, ← p) k
      of_held h (Some x) t p k = rw (← t, ← p) k

  -- the port that is there
  pub at-port : (entries : List Entry) → has_port c (run entries empty) ≡ true → Posts c (run_taken c entries empty) (posted_in c (run_events entries empty)) (port_at c (run entries empty)) []
  at-port entries h = by (slice_get (run entries empty).ports c.0) h (run-posts entries)
    where
      by : (o : Option cross.Slots) → is_some o ≡ true → Held c (record { taken = run_taken c entries empty; heard = [] }) (posted_in c (run_events entries empty)) o []
          → Posts c (run_taken c entries empty) (posted_in c (run_events entries empty)) (as_port o) []
      by None e k = cc
      by (Some x) e k = k

live-is : (l t p : Bool) → (l ≡ true → p ≡ false) → (l ≡ false → t || p ≡ true) → (l ≡ true → t ≡ false) → l ≡ not (t || p)
live-is true t p a b d = let e = a refl in let f = d refl in rw (e, f) refl
live-is false t p a b d = rw (b refl) refl

pub each_readable_end_posts : EachReadableEndPosts
each_readable_end_posts entries c h side =
    let k = at-port c entries h in
    record {
      posts = rw side at k.posts;
      last = k.last;
      live = live-is _ _ _ k.going (λ e. rw side at (k.shut e)) (λ e. rw side at (k.come e));
    }

pub each_writable_end_posts : EachWritableEndPosts
each_writable_end_posts entries c h side =
    let k = at-port c entries h in
    record {
      credit = let n = k.credit side in omega (arith, n);
      posts = rw side at k.posts;
      last = k.last;
      live = live-is _ false _ k.going (λ e. rw side at (k.shut e)) (λ e. refl);
    }
