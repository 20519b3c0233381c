-- Which read of a byte stream gets which bytes (`each_byte_read_is_answered`).
use Rattle.std.proofs.Common.{◌≡◌, ◌≢◌, ℕ, false, inl, inr, List, [], ◌∷◌, map, All, refl, sym, subst, ◌∙◌, append-nil}
use Rattle.std.proofs.lemmas.List.Elements.{All-nil, All-cons, All-head, All-tail}
use Rattle.ws_value.specs.declared.{ids.PromiseId.{PromiseId}}
use Rattle.ws_steps.specs.declared.readable.{ReadableState.{ReadableState}, ReadableState.TheVariants.{Readable, Closed, Errored}}
use Rattle.ws_steps.specs.ByteHistory.{run_bytes}
use Rattle.ws_steps.specs.ByteLaws.{AreFirstOf}
use Rattle.ws_steps.specs.Readable as readable
use Rattle.ws_steps.specs.Laws.{HasOutcome, RiseFrom}
use Rattle.ws_steps.specs.Promises.{Table}
use Rattle.ws_steps.specs.Run.{run}
use Rattle.ws_steps.specs.Slots.{Slots, byte_at, empty}
use Rattle.ws_byte_laws.proofs.Runs.{each_byte_stream_is_lawful}
use Rattle.ws_promise_laws.proofs.Runs.{none_goes_astray}
use Rattle.ws_answer_laws.specs.ByteReads.{Answered, answer_outcome, all_bytes}
use Rattle.ws_answer_laws.specs.Answering.{EachByteReadIsAnswered}
use Rattle.ws_answer_laws.proofs.Asked.{run-asks}
use Rattle.ws_answer_laws.proofs.Held.{IsIn}
use Rattle.ws_answer_laws.proofs.Outcomes.{run-told}
use Rattle.ws_answer_laws.proofs.Rising.{run-rises}
use Rattle.ws_answer_laws.proofs.Runs.{run-now}
use Rattle.ws_answer_laws.proofs.Told.{Done, done_of, bytes_of, answers-bytes, run_decided, run_done}
use Rattle.ws_answer_laws.proofs.Waiting.{run-waiting}

module _ (t : Table) where
  abbrev IsDone : Done → Type 0
  IsDone d = HasOutcome t d.request d.outcome

  abbrev IsTold : Answered → Type 0
  IsTold a = HasOutcome t a.request (answer_outcome a.answer)

  -- what holds of all steps that were performed holds of all that were decided on
  in-all : (d : Done) (ds : List Done) → IsIn d ds → All IsDone ds → IsDone d
  in-all d [] is a = absurd is
  in-all d (x ∷ xs) (inl e) a = subst IsDone e (All-head IsDone x xs a)
  in-all d (x ∷ xs) (inr h) a = in-all d xs h (All-tail IsDone x xs a)

  covered : (xs : List Answered) (ds : List Done) → ((d : Done) → IsIn d (map done_of xs) → IsIn d ds) → All IsDone ds → All IsTold xs
  covered [] ds c a = All-nil IsTold
  covered (x ∷ xs) ds c a = All-cons IsTold x xs (in-all (done_of x) ds (c (done_of x) (inl refl)) a) (covered xs ds (λ d h. c d (inr h)) a)

not_readable : (state : ReadableState) → readable.is_readable state ≡ false → state ≢ Readable
not_readable Readable e n = cc
not_readable Closed e n = cc
not_readable Errored e n = cc

pub each_byte_read_is_answered : EachByteReadIsAnswered
each_byte_read_is_answered entries i is =
    let s : Slots = run entries empty in
    let n = run-now i entries in
    let k = n.held is in
    let done : List Done = run_done i entries empty in
    let covers : (d : Done) → IsIn d (map done_of (run_decided i entries empty)) → IsIn d done = λ d h. rw (append-nil done) at (k.covers d h) in
    let bytes : bytes_of done ≡ bytes_of (map done_of (run_decided i entries empty)) = rw (append-nil done) at k.bytes in
    record {
      answered = run_decided i entries empty;
      given = sym (answers-bytes (run_decided i entries empty)) ∙ (sym bytes ∙ n.same);
      all = k.all;
      order = k.lined;
      overtook = k.overtook;
      in_turn = k.in_turn;
      unspilled = λ n. (k.calm n).0;
      told = covered s.promises (run_decided i entries empty) done covers (run-told i entries empty (none_goes_astray entries));
      waiting = run-waiting entries i;
      released = k.released;
      allowed = k.allowed;
      ended = λ d r. k.ended d (not_readable (byte_at i s).stream.state r);
      served = λ n. (k.calm n).1;
      front =
          let given : all_bytes (run_decided i entries empty) ≡ (run_bytes i entries empty).given = sym (answers-bytes (run_decided i entries empty)) ∙ (sym bytes ∙ n.same) in
          subst (λ (b : List ℕ). AreFirstOf b (run_bytes i entries empty).entered) (sym given) (each_byte_stream_is_lawful entries i is).front;
      own = subst (λ (ps : List PromiseId). RiseFrom 0 ps) (sym (run-asks i entries empty)) (run-rises i entries empty);
    }
