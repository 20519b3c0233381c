-- A link of any ends over any run that leaves it alone.
use Rattle.std.proofs.Common.{◌≡◌, true, List, [], ◌∷◌, sym}
use Rattle.ws_value.specs.declared.ids.PipeId.{PipeId}
use Rattle.ws_value.specs.declared.ids.StreamId.{StreamId}
use Rattle.ws_value.specs.declared.value.Value.{Value}
use Rattle.ws_steps.specs.Run.{Entry, Called, Worked, Heard, step, run}
use Rattle.ws_steps.specs.Slots.{Slots}
use Rattle.ws_flow.specs.Told.{Told, then_told, IsShortOf}
use Rattle.ws_flow.proofs.Told.{then_assoc, then_empty, short_refl, short_trans, short_same, short_as, short_left, short_right}
use Rattle.ws_laws.proofs.Truth.{and_left, and_right}
use Rattle.ws_link_laws.specs.Laws.{entry_leaves, all_leave}
use Rattle.ws_link_laws.specs.Link.{lies}
use Rattle.ws_identity_laws.specs.Ends.{IsAnyLink}
use Rattle.ws_identity_laws.specs.Laws.{PassesLink, EachLinkPasses, EachLinkIsAny}
use Rattle.ws_identity_laws.specs.Passing.{step_acts, run_acts, step_takes, run_takes}
use Rattle.ws_identity_laws.proofs.Steps.{Keeps, link-called, link-worked, link-heard}

-- one stretch after another
pub joined : (h H b B B0 e E : Told Value) → IsShortOf (then_told h B0) (then_told B e) → IsShortOf (then_told H b) (then_told B0 E) → IsShortOf (then_told (then_told h H) b) (then_told B (then_told e E))
joined h H b B B0 e E f g =
    short_same (then_told (then_told h H) b) (then_told h (then_told H b)) _ (then_assoc h H b)
    (short_trans (then_told h (then_told H b)) (then_told h (then_told B0 E)) _ (short_left h (then_told H b) (then_told B0 E) g)
    (short_same (then_told h (then_told B0 E)) (then_told (then_told h B0) E) _ (sym (then_assoc h B0 E))
    (short_as (then_told (then_told h B0) E) (then_told (then_told B e) E) _ (then_assoc B e E) (short_right (then_told h B0) (then_told B e) E f))))

module _ (i j : StreamId) (p : PipeId) where
  entry-keeps : (s : Slots) (x : Entry) → IsAnyLink i j p s → entry_leaves i j x ≡ true → Keeps i j p s x
  entry-keeps s (Called c) l e = link-called i j p s c l e
  entry-keeps s Worked l e = link-worked i j p s l
  entry-keeps s Heard l e = link-heard i j p s l

  pub run-keeps : (entries : List Entry) (s : Slots) → IsAnyLink i j p s → all_leave i j entries ≡ true → PassesLink i j p s entries
  run-keeps [] s l e = record { link = l; short = short_as (lies i j p s) (lies i j p s) _ (sym (then_empty (lies i j p s))) (short_refl (lies i j p s)) }
  run-keeps (x ∷ xs) s l e =
      let one = entry-keeps s x l (and_left (entry_leaves i j x) (all_leave i j xs) e) in
      let rest = run-keeps xs (step s x) one.0 (and_right (entry_leaves i j x) (all_leave i j xs) e) in
      record {
        link = rest.link;
        short = joined (step_acts j s x) (run_acts j xs (step s x)) (lies i j p (run (x ∷ xs) s)) (lies i j p s) (lies i j p (step s x)) (step_takes i s x) (run_takes i xs (step s x)) one.1 rest.short;
      }

pub each_link_passes : EachLinkPasses
each_link_passes i j p s entries l e = run-keeps i j p entries s l e

pub each_link_is_any : EachLinkIsAny
each_link_is_any i j p s l = record {
  reached = l.reached;
  source = l.source;
  sink = l.sink;
  there = l.there;
  from = l.from;
  into = l.into;
  apart = l.apart;
  untied = l.untied;
  locks = l.locks;
  bare = l.bare;
  elsewhere = l.elsewhere;
  source_fits = l.source_fits;
  sink_fits = l.sink_fits;
  closes = l.closes;
}
