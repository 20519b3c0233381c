-- A link over any run that leaves it alone.
use Rattle.std.proofs.Common.{◌≡◌, true, List, [], ◌∷◌, Option, Some, None, refl, sym}
use Rattle.ws_value.specs.declared.ids.PipeId.{PipeId}
use Rattle.ws_value.specs.declared.ids.StreamId.{StreamId}
use Rattle.ws_value.specs.declared.value.Value.{Value}
use Rattle.ws_steps.specs.declared.calls.Event.{Event}
use Rattle.ws_steps.specs.Run.{Entry, Called, Worked, Heard, step, run, after_event, first_event}
use Rattle.ws_steps.specs.Slots.{Slots}
use Rattle.ws_flow.specs.Told.{Told, then_told, IsShortOf}
use Rattle.ws_flow.proofs.Told.{then_assoc, then_empty, short_refl, short_trans, short_same, short_as, short_left, short_right}
use Rattle.ws_laws.proofs.Truth.{and_left, and_right}
use Rattle.ws_link_laws.specs.Link.{ear_at, behind, heard_of}
use Rattle.ws_link_laws.specs.Laws.{entry_leaves, all_leave, first_heard, entry_heard, run_heard, entry_enters, run_enters, KeepsLink, EachLinkKeeps}
use Rattle.ws_link_laws.specs.Sound.{IsLink}
use Rattle.ws_link_laws.proofs.Steps.{link-called, link-worked, link-heard, link-unheard}

module _ (i j : StreamId) (p : PipeId) where
  -- one entry

  abbrev Keeps : Slots → Entry → Type 0
  Keeps s x = IsLink i j p (step s x) × IsShortOf (then_told (entry_heard j s x) (behind i j p (step s x))) (then_told (behind i j p s) (entry_enters i s x))

  heard-keeps : (s : Slots) → IsLink i j p s → (o : Option Event) → first_event s.promises.events ≡ o → Keeps s Heard
  heard-keeps s l (Some e) f =
      let h = link-heard i j p s e f l in
      (h.0, short_as _ (behind i j p s) _ (sym (then_empty (behind i j p s))) (short_same _ (then_told (heard_of (ear_at j s) e) (behind i j p (after_event s))) _ (by s.promises.events f) h.1))
    where
      by : (events : List Event) → first_event events ≡ Some e → then_told (first_heard (ear_at j s) events) (behind i j p (after_event s)) ≡ then_told (heard_of (ear_at j s) e) (behind i j p (after_event s))
      by [] g = cc
      by (x ∷ xs) g = let is : x ≡ e = cc in rw is refl
  heard-keeps s l None f =
      let h = link-unheard i j p s f l in
      (h.0, short_as _ (behind i j p s) _ (sym (then_empty (behind i j p s))) (by s.promises.events f))
    where
      by : (events : List Event) → first_event events ≡ None → IsShortOf (then_told (first_heard (ear_at j s) events) (behind i j p (after_event s))) (behind i j p s)
      by [] g = let h = link-unheard i j p s f l in short_same (behind i j p (after_event s)) (behind i j p s) (behind i j p s) h.1 (short_refl (behind i j p s))
      by (x ∷ xs) g = cc

  pub entry-keeps : (s : Slots) (x : Entry) → IsLink i j p s → entry_leaves i j x ≡ true → Keeps s x
  entry-keeps s (Called c) l e = link-called i j p s c l e
  entry-keeps s Worked l e = link-worked i j p s l
  entry-keeps s Heard l e = heard-keeps s l (first_event s.promises.events) refl

  -- one after another

  joined : (h H b B B0 e E : Told Value) → IsShortOf (then_told h B0) (then_told B e) → IsShortOf (then_told H b) (then_told B0 E) → IsShortOf (then_told (then_told h H) b) (then_told B (then_told e E))
  joined h H b B B0 e E f g =
      short_same (then_told (then_told h H) b) (then_told h (then_told H b)) _ (then_assoc h H b)
      (short_trans (then_told h (then_told H b)) (then_told h (then_told B0 E)) _ (short_left h (then_told H b) (then_told B0 E) g)
      (short_same (then_told h (then_told B0 E)) (then_told (then_told h B0) E) _ (sym (then_assoc h B0 E))
      (short_as (then_told (then_told h B0) E) (then_told (then_told B e) E) _ (then_assoc B e E) (short_right (then_told h B0) (then_told B e) E f))))

  run-keeps : (entries : List Entry) (s : Slots) → IsLink i j p s → all_leave i j entries ≡ true → KeepsLink i j p s entries
  run-keeps [] s l e = record { link = l; short = short_as (behind i j p s) (behind i j p s) _ (sym (then_empty (behind i j p s))) (short_refl (behind i j p s)) }
  run-keeps (x ∷ xs) s l e =
      let one = entry-keeps s x l (and_left (entry_leaves i j x) (all_leave i j xs) e) in
      let rest = run-keeps xs (step s x) one.0 (and_right (entry_leaves i j x) (all_leave i j xs) e) in
      record {
        link = rest.link;
        short = joined (entry_heard j s x) (run_heard j xs (step s x)) (behind i j p (run (x ∷ xs) s)) (behind i j p s) (behind i j p (step s x)) (entry_enters i s x) (run_enters i xs (step s x)) one.1 rest.short;
      }

pub each_link_keeps : EachLinkKeeps
each_link_keeps i j p s entries l e = run-keeps i j p entries s l e
