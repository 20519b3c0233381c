-- The runs of two nodes that `Worked` has, to their ends: one is complete at the place of its abort, the other ends for its bad stage.
use Rattle.std.proofs.Common.{◌≡◌, ℕ, ◌≤◌, List, pos, true, false, [], ◌∷◌, length, Some, None, refl, arith}
use Rattle.std.specs.Prelude.{codes, Contains}
use Rattle.std.proofs.lemmas.List.Elements.{All-nil, All-cons, All-head, All-contains_itself}
use Rattle.ws_value.specs.declared.value.Message.TheVariants.{Error}
use Rattle.ws_flow.specs.declared.plan.Stage.TheVariants.{Hex, Unhex}
use Rattle.ws_flow.specs.Told.{Open, Closed, Told, told}
use Rattle.ws_io.specs.Moment.{Moment, moment}
use Rattle.ws_io.specs.declared.status.Status.TheVariants.{Done, Stage}
use Rattle.ws_joined_laws.specs.Condition.{has_only_bytes, ChainedIf}
use Rattle.ws_joined_laws.specs.Ends.{IsBad}
use Rattle.ws_joined_laws.specs.Finished.{CausesIf, NodesTell}
use Rattle.ws_joined_laws.specs.Joined.{Node}
use Rattle.ws_joined_laws.specs.Reasons.{HasCause}
use Rattle.ws_joined_laws.specs.RunEnds.{Pipeline, FindsSo, EndsSo, Complete, Rejected}
use Rattle.ws_joined_laws.proofs.RunEnds.{each-run-tells-its-end}
use Rattle.ws_joined_laws.proofs.Worked.{finds, letters, reads, writes, writes-keeps, all-owed, wrong, reason, fails, hears, fails-keeps, hears-keeps, own, passed, finishing, failing}

-- the letters come out in hexadecimal digits, and four bytes are the abort

abbrev digits : Told ℕ
digits = told (codes "6162") Closed

abbrev pipeline : Pipeline
pipeline = record { stages = Hex ∷ []; most = 2; abort_after = Some (pos 4) }

abbrev at-first : Moment
at-first = moment 0 (Some (record { taken = []; left = codes "ab"; ended = false })) 0 (Some false)

abbrev at-last : Moment
at-last = moment 0 (Some (record { taken = codes "ab"; left = []; ended = true })) 0 (Some true)

abbrev FoundFine : Node → Type 0
FoundFine = FindsSo pipeline at-first at-last (codes "ab") (codes "6162")

reads-found : FoundFine (record { member = reads; finds = finds 0 })
reads-found = record { read = λ e. absurd (cc); many = λ e. absurd (cc); write = λ e. absurd (cc); abort = λ e. absurd (cc) }

writes-found : FoundFine (record { member = writes; finds = finds 0 })
writes-found = record { read = λ e. absurd (cc); many = λ e. absurd (cc); write = λ e. absurd (cc); abort = λ e. absurd (cc) }

letters-nodes : NodesTell (Some (pos 4)) letters finishing digits []
letters-nodes = record {
  range = record { range = refl; hex = omega arith; few = omega arith };
  known = refl;
  chained = all-owed;
  counted = (refl, (refl, tt));
  caused =
      All-cons (CausesIf []) (record { member = reads; finds = finds 0 }) (record { member = writes; finds = finds 0 } ∷ []) (λ a b. All-nil (HasCause (finds 0) [] []))
      (All-cons (CausesIf []) (record { member = writes; finds = finds 0 }) [] (λ a b. All-nil (HasCause (finds 0) writes.parts [])) (All-nil (CausesIf [])));
  ends = record {
    before = record { member = reads; finds = finds 0 } ∷ [];
    tail = record { member = writes; finds = finds 0 };
    whole = refl;
    near = λ a b. record {
      keeps = writes-keeps;
      pieces = tt;
      stops = λ some. record { before = []; chunk = codes "6162"; after = []; split = refl; from = omega arith; to = omega arith; fewer = omega arith };
    };
  };
}

letters-end : EndsSo Done pipeline at-first at-last (codes "ab") (codes "6162") Closed
letters-end =
    each-run-tells-its-end Done pipeline at-first at-last letters finishing digits []
    (record {
      stages = refl;
      nodes = letters-nodes;
      head = record { fed = record { taken = refl; left = refl }; read = record { ended = refl; emptied = refl; calm = refl }; bound = omega arith; within = λ e. omega arith };
      tail = record { finished = λ e. (refl, refl); unfinished = λ e. absurd (e refl) };
      ahead_by = λ e. absurd (cc);
      found =
          All-cons FoundFine (record { member = reads; finds = finds 0 }) (record { member = writes; finds = finds 0 } ∷ []) reads-found
          (All-cons FoundFine (record { member = writes; finds = finds 0 }) [] writes-found (All-nil FoundFine));
    })
    (Complete refl refl)

-- the first node's stage is bad, and the second hears of it

abbrev bad-pipeline : Pipeline
bad-pipeline = record { stages = Unhex ∷ []; most = 2; abort_after = None }

abbrev bad-first : Moment
bad-first = moment 0 (Some (record { taken = []; left = codes "0g1"; ended = false })) 0 (Some false)

abbrev bad-last : Moment
bad-last = moment 0 (Some (record { taken = codes "0g"; left = codes "1"; ended = false })) 0 (Some false)

abbrev FoundBad : Node → Type 0
FoundBad = FindsSo bad-pipeline bad-first bad-last (codes "0g") []

fails-found : FoundBad (record { member = fails; finds = finds 0 })
fails-found = record { read = λ e. absurd (cc); many = λ e. absurd (cc); write = λ e. absurd (cc); abort = λ e. absurd (cc) }

hears-found : FoundBad (record { member = hears; finds = finds 1 })
hears-found = record { read = λ e. absurd (cc); many = λ e. absurd (cc); write = λ e. absurd (cc); abort = λ e. absurd (cc) }

bad-owed : ChainedIf wrong (fails ∷ hears ∷ []) (told [] Open)
bad-owed = (
  record {
    from = refl;
    keeps = fails-keeps;
    pieces = All-cons (λ c. length c ≤ 4096) (codes "0g") [] (omega arith) (All-nil (λ c. length c ≤ 4096));
    bytes = All-cons (λ m. has_only_bytes m ≡ true) (Error reason) [] refl (All-nil (λ m. has_only_bytes m ≡ true));
  },
  (Error reason ∷ [], [], refl, refl, (λ bytes short. (hears-keeps, tt)), refl),
)

bad-nodes : NodesTell None wrong failing (told [] Open) (reason ∷ [])
bad-nodes = record {
  range = record { range = refl; hex = omega arith; few = omega arith };
  known = refl;
  chained = bad-owed;
  counted = (refl, (refl, tt));
  caused =
      All-cons (CausesIf (reason ∷ [])) (record { member = fails; finds = finds 0 }) (record { member = hears; finds = finds 1 } ∷ [])
      (λ a b. All-cons (HasCause (finds 0) fails.parts []) reason [] own (All-nil (HasCause (finds 0) fails.parts [])))
      (All-cons (CausesIf (reason ∷ [])) (record { member = hears; finds = finds 1 }) []
      (λ a b. All-cons (HasCause (finds 1) [] (reason ∷ [])) reason [] passed (All-nil (HasCause (finds 1) [] (reason ∷ [])))) (All-nil (CausesIf (reason ∷ []))));
  ends = record {
    before = record { member = fails; finds = finds 0 } ∷ [];
    tail = record { member = hears; finds = finds 1 };
    whole = refl;
    near = λ a b. record { keeps = hears-keeps; pieces = tt; stops = tt };
  };
}

bad-end : EndsSo (Stage 1 2 1) bad-pipeline bad-first bad-last (codes "0g") [] Open
bad-end =
    each-run-tells-its-end (Stage 1 2 1) bad-pipeline bad-first bad-last wrong failing (told [] Open) (reason ∷ [])
    (record {
      stages = refl;
      nodes = bad-nodes;
      head = record { fed = record { taken = refl; left = refl }; read = tt; bound = omega arith; within = λ e. absurd (cc) };
      tail = record { finished = λ e. absurd (cc); unfinished = λ e. refl };
      ahead_by = λ e. absurd (cc);
      found =
          All-cons FoundBad (record { member = fails; finds = finds 0 }) (record { member = hears; finds = finds 1 } ∷ []) fails-found
          (All-cons FoundBad (record { member = hears; finds = finds 1 }) [] hears-found (All-nil FoundBad));
    })
    (Rejected reason (λ e. absurd (cc)) (All-head (Contains (reason ∷ [])) reason [] (All-contains_itself (reason ∷ []))) refl)

-- so it is the stage of the bytes that were taken
bad-stage : IsBad (Unhex ∷ []) 1 2 1 Open (codes "0g")
bad-stage = bad-end.allowed
