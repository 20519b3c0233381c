-- Two nodes at work: the laws' premises are met by a run that finishes, and by one in which a stage of the first node is bad and its reason goes
-- through the second.
use Rattle.std.proofs.Common.{◌≡◌, ℕ, ◌≤◌, true, false, List, [], ◌∷◌, length, refl, arith}
use Rattle.std.specs.Prelude.{codes}
use Rattle.std.proofs.lemmas.List.Elements.{All-nil, All-cons, All-head}
use Rattle.hex.specs.Hex.{encode_with}
use Rattle.ws_value.specs.declared.fault.Fault.TheVariants.{Stage as StageFault}
use Rattle.ws_value.specs.declared.value.Message.{Message}
use Rattle.ws_value.specs.declared.value.Message.TheVariants.{Chunk, Close, Error}
use Rattle.ws_value.specs.declared.value.Plain.{Plain}
use Rattle.ws_value.specs.declared.value.Plain.TheVariants.{Fault as FaultReason}
use Rattle.ws_value.specs.declared.value.Value.TheVariants.{Bytes}
use Rattle.ws_flow.specs.declared.plan.Ending.TheVariants.{Fine, Bad}
use Rattle.ws_flow.specs.declared.plan.Stage.TheVariants.{Hex, Unhex}
use Rattle.ws_flow.specs.Chains.{Host, Row, Member, Keeps}
use Rattle.ws_flow.specs.Parts.{Over, Flows, nothing_told}
use Rattle.ws_flow.specs.Stages.{machines}
use Rattle.ws_flow.specs.Told.{Open, Closed, Lost, Told, told, then_told}
use Rattle.ws_joined_laws.specs.Condition.{has_only_bytes, ChainedIf}
use Rattle.ws_joined_laws.specs.Reasons.{Finds, HasCause, Passed, Own}
use Rattle.ws_joined_laws.specs.Joined.{Node, IsJoined, IsWhole, EndsBadly, RejectsFor}
use Rattle.ws_joined_laws.proofs.Condition.{each_condition_is_met}
use Rattle.ws_joined_laws.proofs.Joined.{ends}

-- a node that finds nothing
abbrev pub finds : ℕ → Finds
finds k = record { before = k; read_failed = false; too_much = false; write_failed = false; abort_reached = false; memory_wanting = false }

-- the first node has no stages, the second writes text in hexadecimal digits

abbrev pub letters : Told ℕ
letters = told (codes "ab") Closed

abbrev sent : List Message
sent = Chunk (Bytes (codes "ab")) ∷ Close ∷ []

abbrev pub reads : Member
reads = record { stages = []; from = Host letters; parts = []; behind = nothing_told; to = Row sent }

abbrev pub writes : Member
writes = record { stages = Hex ∷ []; from = Row sent; parts = record { work = Over Fine; before = nothing_told } ∷ []; behind = nothing_told; to = Host (told (codes "6162") Closed) }

abbrev reads-keeps : Keeps reads
reads-keeps = record { came = told (codes "ab" ∷ []) Closed; went = told (codes "ab" ∷ []) Closed; is_came = refl; is_went = refl; flows = (refl, refl) }

pub writes-flows : Flows (machines writes.stages) (told (codes "ab" ∷ []) Closed) writes.parts (then_told (told (codes "6162" ∷ []) Closed) writes.behind)
unfolding encode_with
writes-flows = (told (codes "ab" ∷ []) Closed, refl, (refl, refl), (refl, refl))

abbrev pub writes-keeps : Keeps writes
writes-keeps = record { came = told (codes "ab" ∷ []) Closed; went = told (codes "6162" ∷ []) Closed; is_came = refl; is_went = (refl, refl); flows = writes-flows }

-- so each keeps its flow, as each owes it
pub all-owed : ChainedIf letters (reads ∷ writes ∷ []) (told (codes "6162") Closed)
all-owed = (
  record {
    from = refl;
    keeps = reads-keeps;
    pieces = All-cons (λ c. length c ≤ 4096) (codes "ab") [] (omega arith) (All-nil (λ c. length c ≤ 4096));
    bytes =
        All-cons (λ m. has_only_bytes m ≡ true) (Chunk (Bytes (codes "ab"))) (Close ∷ []) refl
        (All-cons (λ m. has_only_bytes m ≡ true) Close [] refl (All-nil (λ m. has_only_bytes m ≡ true)));
  },
  (sent, [], refl, refl, (λ bytes short. (writes-keeps, tt)), refl),
)

abbrev pub finishing : List Node
finishing = record { member = reads; finds = finds 0 } ∷ record { member = writes; finds = finds 0 } ∷ []

finished : IsJoined letters finishing (told (codes "6162") Closed) []
finished = record {
  chained = each_condition_is_met letters (reads ∷ writes ∷ []) (told (codes "6162") Closed) (record { range = refl; hex = omega arith; few = omega arith }) all-owed;
  known = refl;
  counted = (refl, (refl, tt));
  caused = (All-nil (HasCause (finds 0) [] []), (All-nil (HasCause (finds 0) writes.parts []), tt));
}

-- all is there
whole : IsWhole letters finishing (told (codes "6162") Closed)
whole = (ends letters finishing (told (codes "6162") Closed) [] finished).finished refl

-- the first node reads hexadecimal digits, and met a byte that is none: it sends the error of stage 1 to the second, which has no stages

abbrev pub wrong : Told ℕ
wrong = told (codes "0g") Open

abbrev pub reason : Plain
reason = FaultReason (StageFault 1 2 1)

abbrev pub fails : Member
fails = record { stages = Unhex ∷ []; from = Host wrong; parts = record { work = Over (Bad 2 1); before = nothing_told } ∷ []; behind = nothing_told; to = Row (Error reason ∷ []) }

abbrev pub hears : Member
hears = record { stages = []; from = Row (Error reason ∷ []); parts = []; behind = nothing_told; to = Host (told [] Open) }

abbrev pub fails-keeps : Keeps fails
fails-keeps = record { came = told (codes "0g" ∷ []) Open; went = told [] Lost; is_came = refl; is_went = refl; flows = (told (codes "0g" ∷ []) Lost, refl, ([], refl), ([], refl)) }

abbrev pub hears-keeps : Keeps hears
hears-keeps = record { came = told [] Lost; went = told [] Lost; is_came = refl; is_went = ([], refl); flows = ([], refl) }

abbrev pub failing : List Node
failing = record { member = fails; finds = finds 0 } ∷ record { member = hears; finds = finds 1 } ∷ []

pub own : HasCause (finds 0) fails.parts [] reason
own = Own (record { from = omega arith; bad = refl })

pub passed : HasCause (finds 1) [] (reason ∷ []) reason
passed = Passed [] [] refl

failed : IsJoined wrong failing (told [] Open) (reason ∷ [])
failed = record {
  chained = (refl, fails-keeps, (Error reason ∷ [], [], refl, refl, hears-keeps, refl));
  known = refl;
  counted = (refl, (refl, tt));
  caused = (
    All-cons (HasCause (finds 0) fails.parts []) reason [] own (All-nil (HasCause (finds 0) fails.parts [])),
    (All-cons (HasCause (finds 1) [] (reason ∷ [])) reason [] passed (All-nil (HasCause (finds 1) [] (reason ∷ []))), tt),
  );
}

-- the pipe of the second is rejected for that stage, which ends so over what was read
for-stage : EndsBadly wrong failing 1 2 1
for-stage = All-head (RejectsFor wrong failing) reason [] (ends wrong failing (told [] Open) (reason ∷ []) failed).causes
