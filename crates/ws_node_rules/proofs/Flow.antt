-- How what went out of a node stands to what came into it.
use Rattle.std.proofs.Common.{◌≡◌, ◌≢◌, ◌-◌, ◌<◌, ℕ, suc, ℤ, true, false, List, [], ◌∷◌, ◌++◌, length, map, nat_abs, Option, Some, None, refl, sym, ap, ◌∙◌, subst, arith}
use Rattle.std.specs.List.{All, concat, filter}
use Rattle.std.proofs.lemmas.List.Elements.{All-head, All-tail}
use Rattle.ws_flow.specs.declared.plan.Placed.{Placed}
use Rattle.ws_joined_laws.specs.Condition.{AreInRange}
use Rattle.ws_joined_laws.specs.Ends.{StopsIn}
use Rattle.ws_joined_laws.proofs.Lengths.{held-below, read-bounds}
use Rattle.ws_flow.specs.declared.plan.Ending.TheVariants.{Fine, Bad}
use Rattle.ws_flow.specs.declared.plan.Ending.{Ending}
use Rattle.ws_flow.specs.declared.plan.Plan.{Plan}
use Rattle.ws_flow.specs.declared.plan.Stage.{Stage}
use Rattle.ws_flow.specs.Parts.{Over, Part, Goes, Flows, fresh, found, said}
use Rattle.ws_flow.specs.Plans.{as_one, reach, sees_known_chunks, stages_of}
use Rattle.ws_flow.specs.Stages.{machines}
use Rattle.ws_flow.specs.Steps.{parts_at}
use Rattle.ws_flow.specs.Told.{bytes_of, Mark, Open as MayCome, Closed, Told, told, then_told, IsBefore}
use Rattle.ws_flow.proofs.Lengths.{accepted}
use Rattle.ws_io.specs.Moment.{Moment}
use Rattle.ws_stages.specs.State.{State}
use Rattle.ws_node.specs.declared.node.Abort.{Abort}
use Rattle.ws_node.specs.declared.node.Node.{Node}
use Rattle.ws_node.specs.declared.node.Output.{Output}
use Rattle.ws_node.specs.declared.node.Output.TheVariants as output
use Rattle.ws_node.specs.Ends.{out_of, ending_of, IsBad}
use Rattle.ws_node.specs.Node.{lies_in, lying, nothing_yet, parts, stages_in}
use Rattle.ws_node.specs.Opening.{abort_of}
use Rattle.ws_node.specs.Past.{EndedAs, IsNew}
use Rattle.ws_node.specs.Shares.{is_in, shared, whole_of}
use Rattle.ws_node.specs.declared.making.Share.TheVariants as share
use Rattle.ws_node.specs.Went.{OutputGoes, AbortGoes}
use Rattle.ws_node_rules.proofs.Alone.{got-before, found-bad, closed-whole}
use Rattle.ws_node_rules.proofs.AtEnd.{found_late, fine_before}
use Rattle.ws_flow.specs.Machines.{some_chunk, all_through, EndsWell}
use Rattle.ws_flow.proofs.Chain.{flows_before, flows_whole}
use Rattle.ws_flow.proofs.Told.{before_then, before_trans, before_of_short}
use Rattle.ws_node_rules.specs.Flow.{HasGone, IsWhole, KeepsFlow, StopsAt}
use Rattle.ws_node.proofs.Going.{held-is}

-- what a node found by its number, where a stage ended so
found-ended : (k : ℕ) (before : List State) (w : State) (after : List State) (x : ℕ → Told (List ℕ)) (e : Ending) → w.work ≡ Over e
    → found (parts_at k (map (λ (s : State). s.work) (before ++ w ∷ after)) x) (length before) ≡ e
found-ended k [] w after x e over = ap said over
found-ended k (b ∷ before) w after x e over = found-ended (suc k) before w after x e over

few-near : (after : ℤ) (x y : Option Abort) (chunks : List (List ℕ)) (gain : List ℕ) (o : Output) → x ≡ abort_of (Some after) → AbortGoes x y chunks gain o → 0 < length gain
    → StopsIn (nat_abs after) chunks gain
few-near after (Some x) (Some y) chunks gain o e (same, near) some =
    let left : x.left ≡ nat_abs after = cc in
    subst (λ k. StopsIn k chunks gain) left (near.last some)
few-near after None y chunks gain o e g some = absurd (cc)
few-near after (Some x) None chunks gain o e g some = absurd g

near-by : (plan : Plan) (after : ℤ) (x y : Option Abort) (chunks : List (List ℕ)) (gain : List ℕ) (o : Output) → plan.abort_after ≡ Some after → x ≡ abort_of plan.abort_after
    → AbortGoes x y chunks gain o → 0 < length gain → StopsIn (nat_abs after) chunks gain
near-by plan after x y chunks gain o e f g some = few-near after x y chunks gain o (f ∙ ap abort_of e) g some

-- and the chunk of the last byte is short, as all are that went out

among : (P : List ℕ → Type 0) (before after : List (List ℕ)) (c : List ℕ) → All P (before ++ c ∷ after) → P c
among P [] after c h = All-head P c after h
among P (b ∷ before) after c h = among P before after c (All-tail P b (before ++ c ∷ after) h)

stops-short : (left : ℕ) (chunks : List (List ℕ)) (gain : List ℕ) → All (λ c. length c < 33554432) chunks → StopsIn left chunks gain → StopsAt left chunks gain
stops-short left chunks gain h at =
    let short = among (λ c. length c < 33554432) at.before at.after at.chunk (subst (All (λ c. length c < 33554432)) at.split h) in
    record { before = at.before; chunk = at.chunk; after = at.after; split = at.split; from = at.from; to = at.to; fewer = at.fewer; short = omega arith }

-- the one node of a plan has all its stages
all-in : (ps : List Placed) → filter (is_in share.All) ps ≡ ps
all-in [] = refl
all-in (p ∷ ps) = ap (λ q. p ∷ q) (all-in ps)

pub whole-stages : (plan : Plan) → shared share.All plan.stages.items ≡ stages_of plan
whole-stages plan = ap (λ (ps : List Placed). map (λ p. p.stage) ps) (all-in plan.stages.items)

finished-closed : (a b : Output) (gain : List ℕ) (m : Mark) (m₀ m₁ : Moment) → a ≡ output.Open → b ≡ output.Finished → OutputGoes a b gain m m₀ m₁ → m ≡ Closed
finished-closed output.Open output.Finished gain m m₀ m₁ e f h = h.0
finished-closed output.Open output.Open gain m m₀ m₁ e f h = absurd (cc)
finished-closed output.Open output.Failed gain m m₀ m₁ e f h = absurd (cc)
finished-closed output.Open output.Aborted gain m m₀ m₁ e f h = absurd (cc)
finished-closed output.Finished b gain m m₀ m₁ e f h = absurd (cc)
finished-closed output.Failed b gain m m₀ m₁ e f h = absurd (cc)
finished-closed output.Aborted b gain m m₀ m₁ e f h = absurd (cc)
finished-closed output.Edge b gain m m₀ m₁ e f h = absurd (cc)
finished-closed output.Open output.Edge gain m m₀ m₁ e f h = absurd (cc)

module _ (plan : Plan) (n : Node) (m₀ m₁ : Moment) (read went : Told (List ℕ)) (gain : List ℕ) (out : Mark) (h : HasGone plan n m₀ m₁ read went gain out) where
  abbrev a : Node
  a = h.from

  abbrev new : IsNew (whole_of plan) 0 plan.abort_after a
  new = h.is_new

  abbrev pub taken : List ℕ
  taken = concat read.items

  abbrev pub got : Told ℕ
  got = told gain out

  -- all that was read, as it flowed
  flows : Flows (machines (stages_of plan)) read (parts n) (then_told went (lying n))
  flows =
      let below : a.exit.below ≡ None = new.is_of.into.1 in
      let stages : stages_in a.core ≡ stages_of plan = new.is_of.stages ∙ whole-stages plan in
      let fresh_is : parts a ≡ fresh (machines (stages_of plan)) = new.parts ∙ ap (λ (ss : List Stage). fresh (machines ss)) (whole-stages plan) in
      let none : lying a ≡ nothing_yet = sym (held-is a below) ∙ new.held in
      subst (λ (o : Told (List ℕ)). Goes (machines (stages_of plan)) read (fresh (machines (stages_of plan))) o (parts n) (then_told went (lying n))) none
      (subst (λ (ps : List Part). Goes (machines (stages_of plan)) read ps (lying a) (parts n) (then_told went (lying n))) fresh_is
      (subst (λ (ss : List Stage). Goes (machines ss) read (parts a) (lying a) (parts n) (then_told went (lying n))) stages h.goes))

  known : sees_known_chunks false (stages_of plan) ≡ true
  known = (accepted plan h.accepted).known

  -- each chunk that went out is short
  short : All (λ c. length c < 33554432) went.items
  short =
      let is = accepted plan h.accepted in
      let range : AreInRange (stages_of plan) = record { few = is.stages; range = is.range; hex = is.hex } in
      (held-below 4096 33554432 (stages_of plan) read (parts n) went (lying n) read-bounds range h.short flows).sent

  written : IsBefore got (bytes_of went)
  written = before_of_short got (bytes_of went) h.written

  pub before : IsBefore got (out_of plan taken read.mark)
  before = got-before (stages_of plan) read went (lying n) (parts n) got known flows written

  -- an output that was finished has all
  pub closed : out ≡ Closed → (bytes_of (reach (stages_of plan) taken read.mark) ≡ got) × EndsWell (machines (stages_of plan)) (as_one taken read.mark)
  closed e = closed-whole (stages_of plan) read went (lying n) (parts n) got known flows written e

  bad-by : (index code place j : ℕ) → index ≡ suc j → ending_of plan j taken read.mark ≡ Bad code place → IsBad plan index code place read.mark taken
  bad-by index code place j e bad =
      let same : index - 1 ≡ j = omega arith in
      record {
        numbered = omega arith;
        bad = subst (λ k. ending_of plan k taken read.mark ≡ Bad code place) (sym same) bad;
        early = λ f. found_late (machines (stages_of plan)) j (some_chunk taken) read.mark (Bad code place) bad
            (subst (λ k. ending_of plan k taken MayCome ≢ Bad code place) same f);
        at_end = λ f.
            let r = fine_before (stages_of plan) j (told (some_chunk taken) read.mark) code place bad f in
            (r.0, λ i less. subst (λ (m : Mark). ending_of plan i taken m ≡ Fine) r.0 (r.1 i (omega arith)));
      }

  pub bad : (index code place : ℕ) → EndedAs index code place n.core.stages.items → IsBad plan index code place read.mark taken
  bad index code place e =
      let numbered = e.numbered in
      bad-by index code place (length e.before) (omega arith)
      (found-bad (stages_of plan) read went (lying n) (parts n) got known flows written (length e.before) code place
      (ap (λ (ws : List State). found (parts_at 0 (map (λ (s : State). s.work) ws) (lies_in n)) (length e.before)) e.whole
      ∙ found-ended 0 e.before e.state e.after (lies_in n) (Bad code place) e.over))

  is-whole : out ≡ Closed → (read.mark ≡ Closed) × IsWhole plan taken gain
  is-whole e =
      let c = closed e in
      let ended = c.1.closed in (
        ended,
        record {
          ends_well = subst (λ (m : Mark). EndsWell (machines (stages_of plan)) (as_one taken m)) ended c.1;
          all = subst (λ (m : Mark). out_of plan taken m ≡ told gain m) ended (c.0 ∙ ap (λ m. told gain m) (e ∙ sym ended));
        },
      )

  pub keeps-flow : KeepsFlow plan n read went gain out
  keeps-flow =
      let ms = machines (stages_of plan) in
      record {
        first = before_trans went (then_told went (lying n)) (all_through ms read) (before_then went (lying n)) (flows_before ms read (parts n) (then_told went (lying n)) flows);
        gained = before;
        whole = flows_whole ms read (parts n) (then_told went (lying n)) flows;
        finished = λ e. is-whole (finished-closed a.exit.output n.exit.output gain out m₀ m₁ new.output e h.output);
        near = λ after e some. stops-short (nat_abs after) went.items gain short (near-by plan after a.exit.abort n.exit.abort went.items gain n.exit.output e new.abort h.abort some);
        bad = bad;
      }
