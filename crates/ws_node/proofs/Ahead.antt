-- How far a node that reads the input and sends it on is ahead: what it posted is a first part of what it read, and each piece that it read is short.
use Rattle.std.proofs.Common.{◌≡◌, ℕ, ◌+◌, ◌*◌, ◌≤◌, Bool, true, false, if◌then◌else◌, List, [], ◌∷◌, ◌++◌, length, map, All, refl, sym, ap, subst, ◌∙◌, append-nil, append_assoc, length-append, arith}
use Rattle.std.specs.List.{concat}
use Rattle.std.proofs.lemmas.List.Elements.{All-head, All-tail}
use Rattle.ws_value.specs.declared.value.Message.{Message}
use Rattle.ws_value.specs.declared.value.Message.TheVariants.{Pull, Chunk, Close, Error}
use Rattle.ws_value.specs.declared.value.Value.TheVariants.{Plain as PlainValue, Bytes}
use Rattle.ws_flow.specs.declared.plan.Stage.{Stage as PlanStage}
use Rattle.ws_flow.specs.Parts.{Flows}
use Rattle.ws_flow.specs.Stages.{machines}
use Rattle.ws_flow.specs.Steps.{parts_at}
use Rattle.ws_flow.specs.Told.{Mark, Open, Closed, Broken, Lost, Told, goes_on, then_told, IsFront, IsShortOf}
use Rattle.ws_flow.proofs.Told.{before_of_short, before_front}
use Rattle.ws_stages.specs.State.{State}
use Rattle.ws_steps.specs.PortHistory.{chunks_in}
use Rattle.ws_node_laws.specs.Edges.{goes_down_edge}
use Rattle.ws_node.specs.declared.node.Node.{Node}
use Rattle.ws_node.specs.Near.{IsHead}
use Rattle.ws_node.specs.Node.{held, is_edge, lies_in, parts, sent_at, stages_in}
use Rattle.ws_node.specs.Past.{Driven, IsFed}
use Rattle.ws_node.specs.Rules.{EachHeadReadsLittleAhead, EachJoinedHeadReadsLittleAhead, ReadsNear, pieces_in}
use Rattle.ws_node.proofs.Between.{each_edge_keeps_rules}
use Rattle.ws_node.proofs.Legal.{each_node_is_legal}
use Rattle.ws_node.proofs.Pieces.{told-pieces}

concat-append : (xs ys : List (List ℕ)) → length (concat (xs ++ ys)) ≡ length (concat xs) + length (concat ys)
concat-append [] ys = omega arith
concat-append (x ∷ xs) ys =
    let h = concat-append xs ys in
    let a = length-append x (concat (xs ++ ys)) in
    let b = length-append x (concat xs) in
    omega (arith, h, a, b)

abbrev Short : List ℕ → Type 0
Short c = length c ≤ 4096

short-bytes : (xs : List (List ℕ)) → All Short xs → length (concat xs) ≤ 4096 * length xs
short-bytes [] a = omega arith
short-bytes (x ∷ xs) a =
    let h = short-bytes xs (All-tail Short x xs a) in
    let k = All-head Short x xs a in
    let l = length-append x (concat xs) in
    omega (arith, h, k, l)

all-right : (xs ys : List (List ℕ)) → All Short (xs ++ ys) → All Short ys
all-right [] ys h = h
all-right (x ∷ xs) ys h = all-right xs ys (All-tail Short x (xs ++ ys) h)

-- the first of two tells a first part
first-front : (x y : Told (List ℕ)) → IsFront x.items (then_told x y).items
first-front x y = by x.mark
  where
    by : (m : Mark) → IsFront x.items (goes_on x.items m y).items
    by Open = (y.items, refl)
    by Closed = ([], sym (append-nil x.items))
    by Broken = ([], sym (append-nil x.items))
    by Lost = ([], sym (append-nil x.items))

front-then : (xs ys zs : List (List ℕ)) → IsFront xs ys → IsFront ys zs → IsFront xs zs
front-then xs ys zs f g = (f.0 ++ g.0, g.1 ∙ (ap (λ qs. qs ++ g.0) f.1 ∙ append_assoc xs f.0 g.0))

-- without stages what went out and what is held is a first part of what came in
bare-flows : (n : Node) (ss : List PlanStage) (came out : Told (List ℕ)) → stages_in n.core ≡ ss → n.core.stages.items ≡ [] → Flows (machines ss) came (parts n) out → IsShortOf out came
bare-flows n ss came out e bare f =
    subst (λ (ws : List State). Flows (machines (map (λ w. w.stage) ws)) came (parts_at 0 (map (λ w. w.work) ws) (lies_in n)) out) bare
    (subst (λ qs. Flows (machines qs) came (parts n) out) (sym e) f)

-- a piece of the input is short
all-short : (b : Bool) (cs : List (List ℕ)) → b ≡ false → All (λ c. length c ≤ (if b then 33554431 else 4096)) cs → All Short cs
all-short false cs e a = a
all-short true cs e a = absurd (cc)

module _ (n : Node) (d : Driven n) (head : IsHead n) where
  abbrev sent : List Message
  sent = sent_at n.exit.below

  fed : IsFed d.shape.stages n
  fed = d.since.fed

  went : fed.went.items ≡ pieces_in sent
  went =
      let legal = (each_node_is_legal n d).posted_down in
      ap (λ (t : Told (List ℕ)). t.items) (fed.went_by head.into) ∙ told-pieces sent legal.kinds legal.last

  front : IsFront fed.went.items fed.came.items
  front =
      let out : Told (List ℕ) = then_told fed.went (held n) in
      front-then fed.went.items out.items fed.came.items (first-front fed.went (held n))
      (before_front out fed.came (before_of_short out fed.came (bare-flows n d.shape.stages fed.came out d.since.led.is_of.stages head.bare fed.flows)))

  near : ReadsNear n
  near =
      let pieces : fed.came.items ≡ pieces_in sent ++ front.0 = front.1 ∙ ap (λ cs. cs ++ front.0) went in
      let short = all-short (is_edge n.entrance.input) fed.came.items head.from fed.short in
      let rest = short-bytes front.0 (all-right (pieces_in sent) front.0 (subst (All Short) pieces short)) in
      let counted = fed.counted head.from in
      let bytes = ap (λ cs. length (concat cs)) pieces ∙ concat-append (pieces_in sent) front.0 in
      let many = ap length pieces ∙ length-append (pieces_in sent) front.0 in
      let few = (fed.near head).pulled in
      record { part = omega (arith, counted, bytes); near = omega (arith, rest, counted, bytes, many, few) }

pub each_head_reads_little_ahead : EachHeadReadsLittleAhead
each_head_reads_little_ahead n d head = near n d head

-- a chunk of bytes is one piece
abbrev downs : Message → Type 0
downs m = goes_down_edge m ≡ true

as-many-pieces : (ms : List Message) → All downs ms → length (pieces_in ms) ≡ length (chunks_in ms)
as-many-pieces [] h = refl
as-many-pieces (Pull ∷ ms) h = as-many-pieces ms (All-tail downs Pull ms h)
as-many-pieces (Close ∷ ms) h = as-many-pieces ms (All-tail downs Close ms h)
as-many-pieces (Error r ∷ ms) h = as-many-pieces ms (All-tail downs (Error r) ms h)
as-many-pieces (Chunk (Bytes v) ∷ ms) h = let k = as-many-pieces ms (All-tail downs (Chunk (Bytes v)) ms h) in omega (arith, k)
as-many-pieces (Chunk (PlainValue v) ∷ ms) h = let no : goes_down_edge (Chunk (PlainValue v)) ≡ true = All-head downs (Chunk (PlainValue v)) ms h in absurd (cc)

pub each_joined_head_reads_little_ahead : EachJoinedHeadReadsLittleAhead
each_joined_head_reads_little_ahead upper lower above below head met =
    let ahead = (each_head_reads_little_ahead upper above head).near in
    let few = (each_edge_keeps_rules upper lower above below met).few.pulled in
    let many = as-many-pieces (sent_at upper.exit.below) (each_node_is_legal upper above).posted_down.kinds in
    omega (arith, ahead, few, many)
