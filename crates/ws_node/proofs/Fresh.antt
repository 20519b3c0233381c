-- A node as it is made, by what its realm was opened with.
use Rattle.std.proofs.Common.{◌≡◌, ℕ, nat_abs, Bool, true, false, if◌then◌else◌, Option, Some, None, refl, sym, ap, ◌∙◌, subst}
use Rattle.std.specs.Prelude.{is_some}
use Rattle.ws_edge.specs.Edge.{AtEdge}
use Rattle.ws_flow.specs.declared.plan.Plan.{Plan}
use Rattle.ws_steps.specs.Run.{run}
use Rattle.ws_steps.specs.Slots.{empty}
use Rattle.ws_chain_laws.specs.Chain.{source_of}
use Rattle.ws_realm.specs.Seen.{SeenRealm}
use Rattle.ws_node.specs.declared.making.Opened.{Opened}
use Rattle.ws_node.specs.declared.making.Share.{Share}
use Rattle.ws_node.specs.declared.node.Entrance.{Entrance}
use Rattle.ws_node.specs.declared.node.Exit.{Exit}
use Rattle.ws_node.specs.declared.node.Input.{Input}
use Rattle.ws_node.specs.declared.node.Input.TheVariants as input
use Rattle.ws_node.specs.declared.node.Node.{Node}
use Rattle.ws_node.specs.declared.node.Output.{Output}
use Rattle.ws_node.specs.declared.node.Output.TheVariants as output
use Rattle.ws_node.specs.Node.{is_edge, feeds_edge}
use Rattle.ws_node.specs.Opening.{IsOpened, opening_by}
use Rattle.ws_node.specs.Past.{FeedsAs, IsFedAs, IsFresh, IsUnused}
use Rattle.ws_node.specs.Shape.{is_from_edge, is_to_edge}
use Rattle.ws_node.specs.Shares.{abort_in, origin_by, shape_with, target_by}

-- by whether there is an end

pub edge-input : (o : Option AtEdge) (b : Bool) (i : Input) → b ≡ is_some o → b ≡ true → i ≡ input.Edge → i ≡ (if is_some o then input.Edge else input.Open)
edge-input (Some e) b i f g h = h
edge-input None b i f g h = absurd (cc)

pub open-input : (o : Option AtEdge) (b : Bool) (i : Input) → b ≡ is_some o → b ≡ false → i ≡ input.Open → i ≡ (if is_some o then input.Edge else input.Open)
open-input (Some e) b i f g h = absurd (cc)
open-input None b i f g h = h

pub edge-output : (o : Option AtEdge) (b : Bool) (i : Output) → b ≡ is_some o → b ≡ true → i ≡ output.Edge → i ≡ (if is_some o then output.Edge else output.Open)
edge-output (Some e) b i f g h = h
edge-output None b i f g h = absurd (cc)

pub open-output : (o : Option AtEdge) (b : Bool) (i : Output) → b ≡ is_some o → b ≡ false → i ≡ output.Open → i ≡ (if is_some o then output.Edge else output.Open)
open-output (Some e) b i f g h = absurd (cc)
open-output None b i f g h = h

from-edge : (b : Bool) → is_from_edge (origin_by b) ≡ b
from-edge true = refl
from-edge false = refl

to-edge : (b : Bool) → is_to_edge (target_by b) ≡ b
to-edge true = refl
to-edge false = refl

fed-by : (o : Option AtEdge) (e : Entrance) → e.above ≡ o → e.input ≡ (if is_some o then input.Edge else input.Open) → IsFedAs (origin_by (is_some o)) e
fed-by None e a i = (ap is_edge i, a)
fed-by (Some x) e a i = (ap is_edge i, ap is_some a)

feeds-by : (o : Option AtEdge) (x : Exit) → x.below ≡ o → x.output ≡ (if is_some o then output.Edge else output.Open) → FeedsAs (target_by (is_some o)) x
feeds-by None x a i = (ap feeds_edge i, a)
feeds-by (Some e) x a i = (ap feeds_edge i, ap is_some a)

module _ (plan : Plan) (share : Share) (first : ℕ) (above below : Option AtEdge) (x y : Bool) (realm : SeenRealm) (opened : Opened) (most : ℕ) (i : Input) (o : Output)
    (same_above : x ≡ is_some above) (same_below : y ≡ is_some below) where
  abbrev made : Node
  made = record {
    core = record { realm = realm; stages = opened.stages; first = first; pipes_before = opened.pipes_before; pipe = opened.pipe; stopped = None };
    entrance = record { source = source_of 0; most = most; taken = 0; ahead = 0; asked = None; input = i; above = above };
    exit = record { sink = opened.sink; abort = opened.abort; output = o; below = below; broken = false };
  }

  pub fresh-by : IsOpened (shape_with plan share x y) (abort_in plan y) opened → realm.slots ≡ run (opening_by (shape_with plan share x y)) empty
      → most ≡ nat_abs plan.max_input → i ≡ (if is_some above then input.Edge else input.Open) → o ≡ (if is_some below then output.Edge else output.Open)
      → IsUnused above → IsUnused below → IsFresh (shape_with plan share (is_some above) (is_some below)) first (abort_in plan (is_some below)) made
  fresh-by was slots limit in_is out_is unused_above unused_below =
      let h : IsOpened (shape_with plan share (is_some above) (is_some below)) (abort_in plan (is_some below)) opened =
      subst (λ (z : Bool). IsOpened (shape_with plan share z (is_some below)) (abort_in plan (is_some below)) opened) same_above
      (subst (λ (z : Bool). IsOpened (shape_with plan share x z) (abort_in plan z) opened) same_below was) in
      let s : realm.slots ≡ run (opening_by (shape_with plan share (is_some above) (is_some below))) empty =
      subst (λ (z : Bool). realm.slots ≡ run (opening_by (shape_with plan share z (is_some below))) empty) same_above
      (subst (λ (z : Bool). realm.slots ≡ run (opening_by (shape_with plan share x z)) empty) same_below slots) in
      record {
        slots = s;
        stages = h.stages;
        first_is = refl;
        source = refl;
        sink = h.sink;
        answered = h.pipe;
        before_answered = h.pipes;
        abort = h.abort;
        most = limit;
        taken = refl;
        ahead = refl;
        asked = refl;
        from = fed-by above made.entrance refl in_is;
        into = feeds-by below made.exit refl out_is;
        input = in_is ∙ ap (λ (z : Bool). if z then input.Edge else input.Open) (sym (from-edge (is_some above)));
        output = out_is ∙ ap (λ (z : Bool). if z then output.Edge else output.Open) (sym (to-edge (is_some below)));
        above = unused_above;
        below = unused_below;
        stopped = refl;
      }
