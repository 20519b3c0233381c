-- What a run of a plan of a file comes to.
use Rattle.std.proofs.Common.{◌≡◌, ◌+◌, ◌-◌, ◌<◌, ◌≤◌, ◌⊎◌, inl, inr, ℕ, ℤ, nat_abs, Bool, true, false, List, [], ◌++◌, length, length-append, append-nil, refl, sym, ◌∙◌, ap, subst, map, arith}
use Rattle.std.specs.List.{concat}
use Rattle.std.specs.Prelude.{Option, Some, None, Ok, Err}
use Rattle.ws_io.specs.Gain.{Got}
use Rattle.ws_io.specs.Faults.{Calm}
use Rattle.ws_io.specs.Feed.{Feed, Fed, HasLeft, IsEmpty}
use Rattle.ws_io.specs.Memory.{one_more}
use Rattle.ws_io.specs.Moment.{Moment}
use Rattle.ws_io.specs.declared.status.Status.{Status}
use Rattle.ws_io.specs.declared.status.Status.TheVariants.{Done, Stage, ReadFault, WriteFault, Aborted, NoMemory, TooMuch}
use Rattle.ws_flow.specs.declared.plan.Ending.TheVariants.{Bad}
use Rattle.ws_flow.specs.declared.plan.Plan.{Plan}
use Rattle.ws_flow.specs.declared.plan.Stage.{Stage as StageOf}
use Rattle.ws_flow.specs.Machines.{all_through, ending, some_chunk}
use Rattle.ws_flow.specs.Plans.{as_one, reach, refusal, sees_known_chunks, stages_of}
use Rattle.ws_flow.specs.Stages.{machines}
use Rattle.ws_flow.specs.Told.{bytes_of, Mark, Open, Closed, Broken, Lost, Told, told, IsBefore, IsFront}
use Rattle.ws_flow.proofs.Cutting.{joined_append, some_joined, same_cut}
use Rattle.ws_flow.proofs.Endings.{ending_stays}
use Rattle.ws_flow.proofs.Headline.{bytes_before}
use Rattle.ws_flow.proofs.Lengths.{accepted}
use Rattle.ws_flow.proofs.Through.{all_before}
use Rattle.ws_flow.proofs.Told.{before_front, front_trans}
use Rattle.ws_plan.specs.Answers.{planned_as}
use Rattle.ws_plan.specs.Reading.{Planned}
use Rattle.ws_node.specs.Ends.{Allows, Ends, IsAborted, ReadAs, ending_of, out_of}
use Rattle.ws_runner.specs.declared.trace.EdgeTrace.{EdgeTrace}
use Rattle.ws_runner.specs.Trace.{HasEdges}
use Rattle.ws_cli.specs.Check.{Shelf}
use Rattle.ws_cli.specs.Planned.{Loads, IsFineFor, IsUnaborted, PerformsRun, Ran, HadNone}
use Rattle.ws_cli.proofs.Copying.{fine_not_bad, not_both}
use Rattle.ws_cli.proofs.Loading.{Accepted-none, Missing-none, Refused-none, accepted_file, no_file, no_plan, same_plan}

-- what was taken is a first part of what the input had, and all of it where it was read to its end
pub front_taken : (old new : Option Feed) (taken bytes : List ℕ) → HasLeft old bytes → Fed old new taken → IsFront taken bytes
front_taken None new taken bytes has fed = absurd has
front_taken (Some f) None taken bytes has fed = absurd fed
front_taken (Some f) (Some g) taken bytes has fed = (g.left, sym has ∙ fed.left)

pub all_taken : (old new : Option Feed) (taken bytes : List ℕ) → HasLeft old bytes → Fed old new taken → IsEmpty new → bytes ≡ taken
all_taken None new taken bytes has fed none = absurd has
all_taken (Some f) None taken bytes has fed none = absurd fed
all_taken (Some f) (Some g) taken bytes has fed none =
    sym has ∙ fed.left ∙ ap (λ (xs : List ℕ). taken ++ xs) none ∙ append-nil taken

pub read_before : (m : Mark) (old new : Moment) (taken bytes : List ℕ) → HasLeft old.feed bytes → Fed old.feed new.feed taken → ReadAs m old new
    → IsBefore (told taken m) (told bytes Closed)
read_before Open old new taken bytes has fed read = front_taken old.feed new.feed taken bytes has fed
read_before Broken old new taken bytes has fed read = elim read [ ]
read_before Lost old new taken bytes has fed read = front_taken old.feed new.feed taken bytes has fed
read_before Closed old new taken bytes has fed read = (all_taken old.feed new.feed taken bytes has fed read.emptied, refl)

-- the same bytes, cut so that these come first
pub record CutAfter (taken bytes : List ℕ) (m : Mark) : Type 0 where
  pub cut : Told (List ℕ)
  pub before : IsBefore (as_one taken m) cut
  pub same : bytes_of cut ≡ bytes_of (as_one bytes Closed)

cut_front : (taken bytes rest : List ℕ) → bytes ≡ taken ++ rest
    → bytes_of (told (some_chunk taken ++ some_chunk rest) Closed) ≡ bytes_of (as_one bytes Closed)
cut_front taken bytes rest e =
    ap (λ (xs : List ℕ). told xs Closed)
    (joined_append (some_chunk taken) (some_chunk rest) ∙ ap (λ (xs : List ℕ). xs ++ concat (some_chunk rest)) (some_joined taken)
    ∙ ap (λ (xs : List ℕ). taken ++ xs) (some_joined rest) ∙ sym e ∙ sym (some_joined bytes))

cut_after : (taken bytes : List ℕ) (m : Mark) → IsBefore (told taken m) (told bytes Closed) → CutAfter taken bytes m
cut_after taken bytes Open (rest, e) =
    record { cut = told (some_chunk taken ++ some_chunk rest) Closed; before = (some_chunk rest, refl); same = cut_front taken bytes rest e }
cut_after taken bytes Broken (e, broken) = absurd (cc)
cut_after taken bytes Lost (rest, e) =
    record { cut = told (some_chunk taken ++ some_chunk rest) Closed; before = (some_chunk rest, refl); same = cut_front taken bytes rest e }
cut_after taken bytes Closed (e, closed) =
    record { cut = as_one bytes Closed; before = (ap some_chunk e, refl); same = refl }

-- a bad ending over what was taken is that over all
pub bad_stays : (ss : List StageOf) (j : ℕ) (taken bytes : List ℕ) (m : Mark) (code place : ℕ) → sees_known_chunks false ss ≡ true
    → IsBefore (told taken m) (told bytes Closed) → ending (machines ss) j (as_one taken m) ≡ Bad code place
    → ending (machines ss) j (as_one bytes Closed) ≡ Bad code place
bad_stays ss j taken bytes m code place known before bad =
    let c = cut_after taken bytes m before in
    sym ((same_cut ss c.cut (as_one bytes Closed) known c.same).endings j)
    ∙ ending_stays (machines ss) j (as_one taken m) c.cut (Bad code place) c.before bad (λ fine. cc)

-- what comes out of what was taken is a first part of what comes out of all
pub out_front : (ss : List StageOf) (taken bytes : List ℕ) (m : Mark) → sees_known_chunks false ss ≡ true
    → IsBefore (told taken m) (told bytes Closed)
    → IsFront (bytes_of (reach ss taken m)).items (bytes_of (reach ss bytes Closed)).items
out_front ss taken bytes m known before =
    let c = cut_after taken bytes m before in
    before_front (bytes_of (reach ss taken m)) (bytes_of (reach ss bytes Closed))
    (subst (λ (t : Told ℕ). IsBefore (bytes_of (reach ss taken m)) t) (same_cut ss c.cut (as_one bytes Closed) known c.same).bytes
    (bytes_before (reach ss taken m) (all_through (machines ss) c.cut) (all_before (machines ss) (as_one taken m) c.cut c.before)))

-- a plan that is read as another takes what that takes
pub Fine-for-same : (plan other : Plan) (bytes : List ℕ) → planned_as plan ≡ planned_as other → IsFineFor other bytes → IsFineFor plan bytes
Fine-for-same plan other bytes same f =
    let stages : stages_of plan ≡ stages_of other = ap (λ (p : Planned). map (λ s. s.stage) p.stages) same in
    let most : plan.max_input ≡ other.max_input = ap (λ (p : Planned). p.max_input) same in
    record {
      within = subst (λ (z : ℤ). length bytes ≤ nat_abs z) (sym most) f.within;
      fine = λ j. ap (λ (ss : List StageOf). ending (machines ss) j (as_one bytes Closed)) stages ∙ f.fine j;
    }

pub Unaborted-same : (plan other : Plan) (bytes : List ℕ) → planned_as plan ≡ planned_as other
    → IsUnaborted other.abort_after (length (out_of other bytes Closed).items) → IsUnaborted plan.abort_after (length (out_of plan bytes Closed).items)
Unaborted-same plan other bytes same u =
    let abort : plan.abort_after ≡ other.abort_after = ap (λ (p : Planned). p.abort_after) same in
    let out : length (out_of plan bytes Closed).items ≡ length (out_of other bytes Closed).items =
    ap (λ (p : Planned). length (bytes_of (reach (map (λ s. s.stage) p.stages) bytes Closed)).items) same in
    subst (λ (o : Option ℤ). IsUnaborted o (length (out_of plan bytes Closed).items)) (sym abort)
    (subst (λ (n : ℕ). IsUnaborted other.abort_after n) (sym out) u)

pub front_length : (xs ys : List ℕ) → IsFront xs ys → length xs ≤ length ys
front_length xs ys (rest, e) = let l : length ys ≡ length xs + length rest = ap length e ∙ length-append xs rest in omega arith

-- where nothing fails, an input that the plan takes whole is read to its end, or the run is aborted, or memory can't be had
Whole-by : (status : Status) (plan : Plan) (m : Mark) (old new : Moment) (taken gain bytes : List ℕ) → Allows status plan m old new taken gain
    → sees_known_chunks false (stages_of plan) ≡ true → IsBefore (told taken m) (told bytes Closed) → IsFront taken bytes → IsFineFor plan bytes
    → Calm old.read_faults new.read_faults → Calm old.write_faults new.write_faults
    → (status ≡ Done) ⊎ (status ≡ Aborted) ⊎ (status ≡ NoMemory)
Whole-by Done plan m old new taken gain bytes a known before front f read write = inl refl
Whole-by Aborted plan m old new taken gain bytes a known before front f read write = inr (inl refl)
Whole-by NoMemory plan m old new taken gain bytes a known before front f read write = inr (inr refl)
Whole-by ReadFault plan m old new taken gain bytes a known before front f read write = absurd (not_both old.read_faults new.read_faults read a.1)
Whole-by WriteFault plan m old new taken gain bytes a known before front f read write = absurd (not_both old.write_faults new.write_faults write a)
Whole-by TooMuch plan m old new taken gain bytes a known before front f read write =
    let more : nat_abs plan.max_input < length taken = a in
    let short = front_length taken bytes front in
    let within = f.within in
    absurd (omega arith)
Whole-by (Stage index code place) plan m old new taken gain bytes a known before front f read write =
    absurd (fine_not_bad (ending_of plan (index - 1) bytes Closed) code place (f.fine (index - 1))
    (bad_stays (stages_of plan) (index - 1) taken bytes m code place known before a.bad))
Whole-by _ plan m old new taken gain bytes a known before front f read write = absurd a

Whole : (status : Status) (plan : Plan) (old new : Moment) (p q : Got) (bytes : List ℕ) → Ends status plan old new p q
    → refusal plan ≡ None → HasLeft old.feed bytes → IsFineFor plan bytes
    → Calm old.read_faults new.read_faults → Calm old.write_faults new.write_faults
    → (status ≡ Done) ⊎ (status ≡ Aborted) ⊎ (status ≡ NoMemory)
Whole status plan old new p q bytes e ok has f read write =
    Whole-by status plan e.mark old new e.taken e.gain bytes e.allowed (accepted plan ok).known
    (read_before e.mark old new e.taken bytes has e.fed e.read) (front_taken old.feed new.feed e.taken bytes has e.fed) f read write

-- and it isn't aborted where too little comes out
pub not_aborted : (after : Option ℤ) (gain : List ℕ) (n : ℕ) → IsAborted after gain → IsUnaborted after n → length gain ≤ n → ⊥
not_aborted None gain n a u within = a
not_aborted (Some after) gain n a u within =
    let reached : nat_abs after ≤ length gain = a in let short : n < nat_abs after = u in omega arith

Unaborted-by : (status : Status) (plan : Plan) (old new : Moment) (p q : Got) (bytes : List ℕ) → Ends status plan old new p q
    → refusal plan ≡ None → HasLeft old.feed bytes → IsUnaborted plan.abort_after (length (out_of plan bytes Closed).items)
    → (status ≡ Done) ⊎ (status ≡ Aborted) ⊎ (status ≡ NoMemory) → (status ≡ Done) ⊎ (status ≡ NoMemory)
Unaborted-by Done plan old new p q bytes e ok has u three = inl refl
Unaborted-by NoMemory plan old new p q bytes e ok has u three = inr refl
Unaborted-by Aborted plan old new p q bytes e ok has u three =
    let front = out_front (stages_of plan) e.taken bytes e.mark (accepted plan ok).known (read_before e.mark old new e.taken bytes has e.fed e.read) in
    let gained = front_trans e.gain (out_of plan e.taken e.mark).items (out_of plan bytes Closed).items e.first front in
    absurd (not_aborted plan.abort_after e.gain (length (out_of plan bytes Closed).items) e.allowed u (front_length e.gain (out_of plan bytes Closed).items gained))
Unaborted-by _ plan old new p q bytes e ok has u three = elim three [ inl is ↦ cc | inr two ↦ elim two [ inl is ↦ cc | inr is ↦ cc ] ]

-- a run of the plan of the file, and a file without a plan
pub Performs-ran : {S K : Type 0} (status : Status) (edges : List EdgeTrace) (trace : Bool) (name : List ℕ) (input input' : S) (output output' : K)
    (files files' : Shelf) (old new : Moment) (p q : Got) (plan : Plan) → files'.loads ≡ one_more files.loads
    → Loads (Ok plan) name files files' → (e : Ends status plan old new p q) → HasEdges edges plan trace status e.taken e.gain
    → PerformsRun status edges trace name input input' output output' files files' old new p q
Performs-ran status edges trace name input input' output output' files files' old new p q plan once loads e has_edges =
    let ok = accepted_file plan name files files' loads in
    record {
      once = once;
      ends = Ran plan loads e has_edges;
      complete = λ text other bytes has is left fine load read write.
          let same = same_plan plan name text files files' (planned_as other) loads has is in
          Whole status plan old new p q bytes e ok left (Fine-for-same plan other bytes same fine) read write;
      unaborted = λ text other bytes has is left fine few load read write.
          let same = same_plan plan name text files files' (planned_as other) loads has is in
          Unaborted-by status plan old new p q bytes e ok left (Unaborted-same plan other bytes same few)
          (Whole status plan old new p q bytes e ok left (Fine-for-same plan other bytes same fine) read write);
      refused = λ text cause has is load. absurd (no_plan plan name text files files' cause loads has is);
      missing = λ lacks. absurd (no_file plan name files files' loads lacks);
    }

pub Performs-unread : {S K : Type 0} (status : Status) (edges : List EdgeTrace) (trace : Bool) (name : List ℕ) (input : S) (output : K)
    (files files' : Shelf) (now : Moment) (p : Got) → files'.loads ≡ one_more files.loads → Loads (Err status) name files files' → edges ≡ []
    → PerformsRun status edges trace name input input output output files files' now now p p
Performs-unread status edges trace name input output files files' now p once loads none =
    record {
      once = once;
      ends = HadNone loads none refl refl;
      complete = λ text other bytes has is left fine load read write.
          inr (inr (Accepted-none status name text files files' (planned_as other) loads has is load));
      unaborted = λ text other bytes has is left fine few load read write.
          inr (Accepted-none status name text files files' (planned_as other) loads has is load);
      refused = λ text cause has is load. Refused-none status name text files files' cause loads has is load;
      missing = λ lacks. Missing-none status name files files' loads lacks;
    }
