-- The chunks that a node gave the edge below are pieces of what its stages made, and none is too long for the next node's stages.
use Rattle.std.proofs.Common.{◌≡◌, ℕ, ◌<◌, ◌≤◌, Bool, true, false, if◌then◌else◌, List, [], ◌∷◌, ◌++◌, length, All, Option, refl, sym, ap, subst, ◌∙◌, arith}
use Rattle.std.proofs.lemmas.List.Elements.{All-nil, All-head, All-tail, All-weaker}
use Rattle.ws_value.specs.declared.value.Message.{Message}
use Rattle.ws_value.specs.declared.value.Message.TheVariants.{Pull, Chunk, Close, Error}
use Rattle.ws_value.specs.declared.value.Value.{Value}
use Rattle.ws_value.specs.declared.value.Value.TheVariants.{Plain as PlainValue, Bytes}
use Rattle.ws_edge.specs.Edge.{AtEdge}
use Rattle.ws_flow.specs.Parts.{Flows}
use Rattle.ws_flow.specs.Rows.{told_by}
use Rattle.ws_flow.specs.Stages.{machines}
use Rattle.ws_flow.specs.Told.{Mark, Open, Closed, Broken, Lost, Told, goes_on, then_told}
use Rattle.ws_flow.proofs.Ends.{told_append}
use Rattle.ws_flow.proofs.Told.{then_assoc}
use Rattle.ws_steps.specs.PortHistory.{chunks_in, ends_last}
use Rattle.ws_chain_laws.specs.Chain.{Target, ToSink, ToPort}
use Rattle.ws_joined_laws.proofs.Lengths.{fed-below}
use Rattle.ws_node_laws.specs.Edges.{goes_down_edge}
use Rattle.ws_node_laws.specs.Messages.{chunks_of}
use Rattle.ws_node.specs.declared.node.Node.{Node}
use Rattle.ws_node.specs.Node.{given_at, held, is_edge, lying, parts, sent_at, waiting_at}
use Rattle.ws_node.specs.Past.{FeedsAs}
use Rattle.ws_node.specs.Rules.{pieces_in, EachGivenChunkIsShort}
use Rattle.ws_node.proofs.Firsts.{all-left, chunks-append}
use Rattle.ws_node.proofs.Legal.{each_node_is_legal}

of-append : (xs ys : List Value) → chunks_of (xs ++ ys) ≡ chunks_of xs ++ chunks_of ys
of-append [] ys = refl
of-append (Bytes b ∷ xs) ys = ap (λ cs. b ∷ cs) (of-append xs ys)
of-append (PlainValue v ∷ xs) ys = of-append xs ys

pub pieces-append : (xs ys : List Message) → pieces_in (xs ++ ys) ≡ pieces_in xs ++ pieces_in ys
pieces-append xs ys = ap chunks_of (chunks-append xs ys) ∙ of-append (chunks_in xs) (chunks_in ys)

abbrev downs : Message → Type 0
downs m = goes_down_edge m ≡ true

-- a legal row tells its pieces
pub told-pieces : (ms : List Message) → All downs ms → ends_last ms ≡ true → (told_by ms).items ≡ pieces_in ms
told-pieces [] a e = refl
told-pieces (Pull ∷ ms) a e = let no : goes_down_edge Pull ≡ true = All-head downs Pull ms a in cc
told-pieces (Chunk (Bytes b) ∷ ms) a e = ap (λ cs. b ∷ cs) (told-pieces ms (All-tail downs (Chunk (Bytes b)) ms a) e)
told-pieces (Chunk (PlainValue v) ∷ ms) a e = let no : goes_down_edge (Chunk (PlainValue v)) ≡ true = All-head downs (Chunk (PlainValue v)) ms a in cc
told-pieces (Close ∷ []) a e = refl
told-pieces (Close ∷ m ∷ ms) a e = cc
told-pieces (Error r ∷ []) a e = refl
told-pieces (Error r ∷ m ∷ ms) a e = cc

pub first-items : (P : List ℕ → Type 0) (x y : Told (List ℕ)) → All P (then_told x y).items → All P x.items
first-items P x y a = by x.mark a
  where
    by : (m : Mark) → All P (goes_on x.items m y).items → All P x.items
    by Open a = all-left P x.items y.items a
    by Closed a = a
    by Broken a = a
    by Lost a = a

-- what went out and what is held begin with what was given
pub held-is-given : (n : Node) (went : Told (List ℕ)) → went ≡ told_by (sent_at n.exit.below) → then_told went (held n) ≡ then_told (told_by (given_at n.exit.below)) (lying n)
held-is-given n went e =
    let sent : List Message = sent_at n.exit.below in
    let waiting : List Message = waiting_at n.exit.below in
    ap (λ (t : Told (List ℕ)). then_told t (held n)) e
    ∙ (sym (then_assoc (told_by sent) (told_by waiting) (lying n)) ∙ ap (λ (t : Told (List ℕ)). then_told t (lying n)) (sym (told_append sent waiting)))

-- no chunk that came in is too long
came-short : (b : Bool) (cs : List (List ℕ)) → All (λ c. length c ≤ (if b then 33554431 else 4096)) cs → All (λ c. length c < 33554432) cs
came-short true cs a = All-weaker (λ c. length c ≤ 33554431) (λ c. length c < 33554432) (λ c l. omega (arith, l)) cs a
came-short false cs a = All-weaker (λ c. length c ≤ 4096) (λ c. length c < 33554432) (λ c l. omega (arith, l)) cs a

abbrev IsBelow : List ℕ → Type 0
IsBelow c = length c < 4294967296

pub each_given_chunk_is_short : EachGivenChunkIsShort
each_given_chunk_is_short n d = by d.shape.target d.since.led.is_of.into
  where
    by : (t : Target) → FeedsAs t n.exit → All IsBelow (pieces_in (given_at n.exit.below))
    by ToSink f = subst (λ (o : Option AtEdge). All IsBelow (pieces_in (given_at o))) (sym f.1) (All-nil IsBelow)
    by ToPort f =
        let fed = d.since.fed in
        let fit = d.since.led.is_of.fit in
        let given : List Message = given_at n.exit.below in
        let legal = (each_node_is_legal n d).down in
        let came = came-short (is_edge n.entrance.input) fed.came.items fed.short in
        let flows : Flows (machines d.shape.stages) fed.came (parts n) (then_told (told_by given) (lying n)) =
        subst (λ (t : Told (List ℕ)). Flows (machines d.shape.stages) fed.came (parts n) t) (held-is-given n fed.went (fed.went_by f.0)) fed.flows in
        let below = fed-below d.shape.stages fed.came (parts n) (told_by given) (lying n) (record { range = fit.range; hex = fit.hex; few = fit.few }) came flows in
        subst (All IsBelow) (told-pieces given legal.kinds legal.last) below.sent
