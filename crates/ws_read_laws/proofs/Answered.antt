-- What reads get, over every run.
use Rattle.std.proofs.Common.{◌≡◌, inl, inr, List, [], ◌∷◌, map, All, refl, sym, ap, subst, ◌∙◌, append-nil}
use Rattle.std.proofs.lemmas.List.Elements.{All-nil, All-cons, All-head, All-tail, All-same}
use Rattle.ws_value.specs.declared.{ids.PromiseId.{PromiseId}}
use Rattle.ws_value.specs.declared.value.{Plain.{Plain}}
use Rattle.ws_steps.specs.Laws.{read_outcome, HasOutcome, RiseFrom, EachReadIsAnswered}
use Rattle.ws_steps.specs.Promises.{Table}
use Rattle.ws_steps.specs.ReadableHistory.{ReadAnswer, Gets, Ends, Fails, Released, Answered, chunk_got, chunks_got}
use Rattle.ws_steps.specs.Readable as readable
use Rattle.ws_steps.specs.Run.{run}
use Rattle.ws_steps.specs.Slots.{Slots, empty, readable_at}
use Rattle.ws_promise_laws.proofs.Runs.{none_goes_astray}
use Rattle.ws_read_laws.proofs.Marks.{Done, done_of, given_by, given_of, IsIn}
use Rattle.ws_read_laws.proofs.Told.{run_done, run_decided}
use Rattle.ws_read_laws.proofs.Runs.{run-now}
use Rattle.ws_read_laws.proofs.Outcomes.{run-told}
use Rattle.ws_read_laws.proofs.Waiting.{run-waiting}
use Rattle.ws_read_laws.proofs.Asked.{run-asks}
use Rattle.ws_read_laws.proofs.Rising.{run-rises}

gives : (e : Plain) (answer : ReadAnswer) → given_by (read_outcome e answer) ≡ chunk_got answer
gives e (Gets v) = refl
gives e Ends = refl
gives e Fails = refl
gives e Released = refl

all-give : (e : Plain) (xs : List Answered) → given_of (map (done_of e) xs) ≡ chunks_got xs
all-give e [] = refl
all-give e (x ∷ xs) = rw (gives e x.answer, all-give e xs) refl

module _ (t : Table) (e : Plain) where
  abbrev IsDone : Done → Type 0
  IsDone d = HasOutcome t d.request d.outcome

  abbrev IsTold : Answered → Type 0
  IsTold a = HasOutcome t a.request (read_outcome e a.answer)

  -- what holds of all steps that were performed holds of all that were decided on
  in-all : (d : Done) (ds : List Done) → IsIn d ds → All IsDone ds → IsDone d
  in-all d [] is a = absurd is
  in-all d (x ∷ xs) (inl e) a = subst IsDone e (All-head IsDone x xs a)
  in-all d (x ∷ xs) (inr h) a = in-all d xs h (All-tail IsDone x xs a)

  covered : (ds es : List Done) → ((d : Done) → IsIn d ds → IsIn d es) → All IsDone es → All IsDone ds
  covered [] es c a = All-nil IsDone
  covered (x ∷ xs) es c a = All-cons IsDone x xs (in-all x es (c x (inl refl)) a) (covered xs es (λ d h. c d (inr h)) a)

  all-told : (xs : List Answered) → All IsDone (map (done_of e) xs) → All IsTold xs
  all-told [] a = All-nil IsTold
  all-told (x ∷ xs) a = All-cons IsTold x xs (All-head IsDone (done_of e x) (map (done_of e) xs) a) (all-told xs (All-tail IsDone (done_of e x) (map (done_of e) xs) a))

pub each_read_is_answered : EachReadIsAnswered
each_read_is_answered entries i kind =
    let s : Slots = run entries empty in
    let r : readable.Slots = readable_at i s in
    let k = (run-now i entries).held kind in
    let told : map (done_of r.stored_error) k.line.answered ≡ run_decided i entries empty = k.line.told in
    let covers : (d : Done) → IsIn d (run_decided i entries empty) → IsIn d (run_done i entries empty) = λ d is. rw (append-nil (run_done i entries empty)) at (k.covers d is) in
    let chunks : given_of (run_done i entries empty) ≡ given_of (run_decided i entries empty) = rw (append-nil (run_done i entries empty)) at k.chunks in
    record {
      answered = k.line.answered;
      order = k.line.order;
      told =
          all-told s.promises r.stored_error k.line.answered
          (All-same (IsDone s.promises r.stored_error) (map (done_of r.stored_error) k.line.answered) (run_decided i entries empty) told
          (covered s.promises r.stored_error (run_decided i entries empty) (run_done i entries empty) covers (run-told i entries empty (none_goes_astray entries))));
      waiting = run-waiting entries i;
      given = sym (all-give r.stored_error k.line.answered) ∙ (ap given_of told ∙ (sym chunks ∙ k.given));
      released = k.line.released;
      allowed = k.line.allowed;
      ended = k.line.waits.ended;
      served = k.line.waits.served;
      own = subst (λ (ps : List PromiseId). RiseFrom 0 ps) (sym (run-asks i entries empty)) (run-rises i entries empty);
    }
