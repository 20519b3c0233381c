-- What came into a node, and then came, by its input or over an edge.
use Rattle.std.proofs.Common.{◌≡◌, ◌<◌, ◌≤◌, ◌+◌, ℕ, Bool, true, false, List, [], ◌∷◌, ◌++◌, Option, Some, None, length, refl, sym, ap, ◌∙◌, subst, append-nil, append_assoc, length-append, arith}
use Rattle.std.specs.List.{concat, All}
use Rattle.std.proofs.lemmas.List.Elements.{All-nil, All-append, All-weaker}
use Rattle.std.specs.Prelude.{if◌then◌else◌}
use Rattle.ws_value.specs.declared.value.Message.{Message}
use Rattle.ws_value.specs.declared.value.Plain.{Plain}
use Rattle.ws_edge.specs.Edge.{AtEdge}
use Rattle.ws_flow.specs.Told.{Mark, Open as MayCome, Closed, Broken, Lost, Told, goes_on, then_told}
use Rattle.ws_flow.proofs.Cutting.{joined_append}
use Rattle.ws_flow.proofs.Ends.{told_append}
use Rattle.ws_flow.proofs.Told.{then_empty}
use Rattle.ws_flow.specs.Rows.{told_by}
use Rattle.ws_joined_laws.specs.Reasons.{reasons_in}
use Rattle.ws_io.proofs.Flow.{Fed-nothing, Fed-then}
use Rattle.ws_io.specs.Feed.{Fed, Feed, IsEmpty, IsEnded, KeepsEnd}
use Rattle.ws_io.specs.Moment.{Moment}
use Rattle.ws_node.specs.declared.node.Entrance.{Entrance}
use Rattle.ws_node.specs.declared.node.Input.{Input}
use Rattle.ws_node.specs.declared.node.Input.TheVariants as input
use Rattle.ws_node.specs.Messages.{fairly}
use Rattle.ws_node.specs.Node.{is_edge, nothing_yet, received_at, rows_at, sent_at}
use Rattle.ws_node.specs.Past.{CameBy, most_of_piece}
use Rattle.ws_node.specs.Went.{ByEdge, ByInput, ComesIn, EdgeGoes, EndGrows, FromGoes, InputGoes, TakesOn, edge_after}
use Rattle.ws_node.proofs.Fair.{fairly-append}
use Rattle.ws_node.proofs.Firsts.{reasons-append}

-- nothing is read

pub KeepsEnd-same : (f : Option Feed) → KeepsEnd f f
KeepsEnd-same None = tt
KeepsEnd-same (Some f) = refl

KeepsEnd-then : (f g h : Option Feed) → KeepsEnd f g → KeepsEnd g h → KeepsEnd f h
KeepsEnd-then None None None p q = tt
KeepsEnd-then None None (Some h) p q = absurd q
KeepsEnd-then None (Some g) h p q = absurd p
KeepsEnd-then (Some f) None h p q = absurd p
KeepsEnd-then (Some f) (Some g) None p q = absurd q
KeepsEnd-then (Some f) (Some g) (Some h) p q = q ∙ p

input-still : (a : Input) (m₀ m₁ : Moment) → m₁.feed ≡ m₀.feed → m₁.read_faults ≡ m₀.read_faults → is_edge a ≡ false → InputGoes a a nothing_yet m₀ m₁
input-still input.Open m₀ m₁ f g e = (refl, g, subst (λ q. KeepsEnd m₀.feed q) (sym f) (KeepsEnd-same m₀.feed))
input-still input.Ended m₀ m₁ f g e = (refl, refl, f, g)
input-still input.Failed m₀ m₁ f g e = (refl, refl, f, g)
input-still input.TooLong m₀ m₁ f g e = (refl, refl, f, g)
input-still input.Edge m₀ m₁ f g e = absurd (cc)
input-still (input.Broken r) m₀ m₁ f g e = absurd (cc)

pub input-same : (a : Input) (m : Moment) → is_edge a ≡ false → InputGoes a a nothing_yet m m
input-same a m e = input-still a m m refl refl e

-- what is read stays what is read

pub input-kind : (a b : Input) (x : Told (List ℕ)) (m₀ m₁ : Moment) → InputGoes a b x m₀ m₁ → (is_edge a ≡ false) × (is_edge b ≡ false)
input-kind input.Open input.Open x m₀ m₁ g = (refl, refl)
input-kind input.Open input.Ended x m₀ m₁ g = (refl, refl)
input-kind input.Open input.Failed x m₀ m₁ g = (refl, refl)
input-kind input.Open input.TooLong x m₀ m₁ g = (refl, refl)
input-kind input.Open input.Edge x m₀ m₁ g = absurd g
input-kind input.Open (input.Broken r) x m₀ m₁ g = absurd g
input-kind input.Ended b x m₀ m₁ g = (refl, ap (λ (i : Input). is_edge i) g.0)
input-kind input.Failed b x m₀ m₁ g = (refl, ap (λ (i : Input). is_edge i) g.0)
input-kind input.TooLong b x m₀ m₁ g = (refl, ap (λ (i : Input). is_edge i) g.0)
input-kind input.Edge b x m₀ m₁ g = absurd g
input-kind (input.Broken r) b x m₀ m₁ g = absurd g

-- what was read, and then what was read, is all that was
record ReadsThen (a c : Input) (x y : Told (List ℕ)) (m₀ m₂ : Moment) : Type 0 where
  goes : InputGoes a c (then_told x y) m₀ m₂
  joined : concat (then_told x y).items ≡ concat x.items ++ concat y.items

closed_then : (x y : Told (List ℕ)) → x.mark ≡ Closed → y ≡ nothing_yet → (then_told x y ≡ x) × (concat (then_told x y).items ≡ concat x.items ++ concat y.items)
closed_then x y m n = grind (arith, append-nil)

lost_then : (x y : Told (List ℕ)) → x.mark ≡ Lost → y ≡ nothing_yet → (then_told x y ≡ x) × (concat (then_told x y).items ≡ concat x.items ++ concat y.items)
lost_then x y m n = grind (arith, append-nil)

open_then : (x y : Told (List ℕ)) → x.mark ≡ MayCome → ((then_told x y).mark ≡ y.mark) × (concat (then_told x y).items ≡ concat x.items ++ concat y.items)
open_then x y m = grind (arith, joined_append)

pub nothing_then : (x y : Told (List ℕ)) → x ≡ nothing_yet → y ≡ nothing_yet → (then_told x y ≡ nothing_yet) × (concat (then_told x y).items ≡ concat x.items ++ concat y.items)
nothing_then x y m n = grind arith

input-then : (a b c : Input) (x y : Told (List ℕ)) (m₀ m₁ m₂ : Moment) → InputGoes a b x m₀ m₁ → InputGoes b c y m₁ m₂ → ReadsThen a c x y m₀ m₂
input-then input.Open input.Open input.Open x y m₀ m₁ m₂ (e, f, k) (g, h, l) =
    let t = open_then x y e in record { goes = (t.0 ∙ g, h ∙ f, KeepsEnd-then m₀.feed m₁.feed m₂.feed k l); joined = t.1 }
input-then input.Open input.Open input.Ended x y m₀ m₁ m₂ (e, f, k) (g, h, i, j) = let t = open_then x y e in record { goes = (t.0 ∙ g, h ∙ f, i, j); joined = t.1 }
input-then input.Open input.Open input.Failed x y m₀ m₁ m₂ (e, f, k) (g, h, l) =
    let t = open_then x y e in record { goes = (t.0 ∙ g, rw (← f) h, KeepsEnd-then m₀.feed m₁.feed m₂.feed k l); joined = t.1 }
input-then input.Open input.Open input.TooLong x y m₀ m₁ m₂ (e, f, k) (g, h, l) =
    let t = open_then x y e in record { goes = (t.0 ∙ g, h ∙ f, KeepsEnd-then m₀.feed m₁.feed m₂.feed k l); joined = t.1 }
input-then input.Open input.Ended c x y m₀ m₁ m₂ (e, f, g, h) (i, j, k, l) =
    let t = closed_then x y e j in
    rw i (record { goes = (ap (λ q. q.mark) t.0 ∙ e, l ∙ f, subst (λ q. IsEnded q) (sym k) g, subst (λ q. IsEmpty q) (sym k) h); joined = t.1 })
input-then input.Open input.Failed c x y m₀ m₁ m₂ (e, f, h) (i, j, k, l) =
    let t = lost_then x y e j in rw i (record { goes = (ap (λ q. q.mark) t.0 ∙ e, rw l f, subst (λ q. KeepsEnd m₀.feed q) (sym k) h); joined = t.1 })
input-then input.Open input.TooLong c x y m₀ m₁ m₂ (e, f, h) (i, j, k, l) =
    let t = lost_then x y e j in rw i (record { goes = (ap (λ q. q.mark) t.0 ∙ e, l ∙ f, subst (λ q. KeepsEnd m₀.feed q) (sym k) h); joined = t.1 })
input-then input.Ended input.Ended c x y m₀ m₁ m₂ (e, f, g, h) (i, j, k, l) = let t = nothing_then x y f j in record { goes = (i, t.0, k ∙ g, l ∙ h); joined = t.1 }
input-then input.Failed input.Failed c x y m₀ m₁ m₂ (e, f, g, h) (i, j, k, l) = let t = nothing_then x y f j in record { goes = (i, t.0, k ∙ g, l ∙ h); joined = t.1 }
input-then input.TooLong input.TooLong c x y m₀ m₁ m₂ (e, f, g, h) (i, j, k, l) = let t = nothing_then x y f j in record { goes = (i, t.0, k ∙ g, l ∙ h); joined = t.1 }
input-then input.Open input.Open input.Edge x y m₀ m₁ m₂ first second = absurd second
input-then input.Open input.Open (input.Broken r) x y m₀ m₁ m₂ first second = absurd second
input-then input.Open input.Edge c x y m₀ m₁ m₂ first second = absurd first
input-then input.Open (input.Broken r) c x y m₀ m₁ m₂ first second = absurd first
input-then input.Edge b c x y m₀ m₁ m₂ first second = absurd first
input-then (input.Broken r) b c x y m₀ m₁ m₂ first second = absurd first
input-then input.Ended input.Edge c x y m₀ m₁ m₂ first second = absurd second
input-then input.Failed input.Edge c x y m₀ m₁ m₂ first second = absurd second
input-then input.TooLong input.Edge c x y m₀ m₁ m₂ first second = absurd second
input-then input.Ended (input.Broken r) c x y m₀ m₁ m₂ first second = absurd second
input-then input.Failed (input.Broken r) c x y m₀ m₁ m₂ first second = absurd second
input-then input.TooLong (input.Broken r) c x y m₀ m₁ m₂ first second = absurd second
input-then input.Ended input.Open c x y m₀ m₁ m₂ first second = let e = first.0 in absurd (cc)
input-then input.Ended input.Failed c x y m₀ m₁ m₂ first second = let e = first.0 in absurd (cc)
input-then input.Ended input.TooLong c x y m₀ m₁ m₂ first second = let e = first.0 in absurd (cc)
input-then input.Failed input.Open c x y m₀ m₁ m₂ first second = let e = first.0 in absurd (cc)
input-then input.Failed input.Ended c x y m₀ m₁ m₂ first second = let e = first.0 in absurd (cc)
input-then input.Failed input.TooLong c x y m₀ m₁ m₂ first second = let e = first.0 in absurd (cc)
input-then input.TooLong input.Open c x y m₀ m₁ m₂ first second = let e = first.0 in absurd (cc)
input-then input.TooLong input.Ended c x y m₀ m₁ m₂ first second = let e = first.0 in absurd (cc)
input-then input.TooLong input.Failed c x y m₀ m₁ m₂ first second = let e = first.0 in absurd (cc)

-- the pieces that were read

short-pieces : (most : ℕ) (x y : Told (List ℕ)) → All (λ c. length c ≤ most) x.items → All (λ c. length c ≤ most) y.items → All (λ c. length c ≤ most) (then_told x y).items
short-pieces most x y a b = by x.items x.mark a where
  by : (xs : List (List ℕ)) (m : Mark) → All (λ c. length c ≤ most) xs → All (λ c. length c ≤ most) (goes_on xs m y).items
  by xs MayCome a = All-append (λ c. length c ≤ most) xs y.items a b
  by xs Closed a = a
  by xs Broken a = a
  by xs Lost a = a

fewer-pieces : (x y : Told (List ℕ)) → All (λ c. length c < 33554432) x.items → All (λ c. length c < 33554432) y.items → All (λ c. length c < 33554432) (then_told x y).items
fewer-pieces x y a b = by x.items x.mark a where
  by : (xs : List (List ℕ)) (m : Mark) → All (λ c. length c < 33554432) xs → All (λ c. length c < 33554432) (goes_on xs m y).items
  by xs MayCome a = All-append (λ c. length c < 33554432) xs y.items a b
  by xs Closed a = a
  by xs Broken a = a
  by xs Lost a = a

pub from-then : (a b c : Entrance) (x y : Told (List ℕ)) (m₀ m₁ m₂ : Moment) → FromGoes a b m₀ m₁ x → FromGoes b c m₁ m₂ y → FromGoes a c m₀ m₂ (then_told x y)
from-then a b c x y m₀ m₁ m₂ first second =
    let reads = input-then a.input b.input c.input x y m₀ m₁ m₂ first.input second.input in
    let counted = first.counted in
    let counted₂ = second.counted in
    let some : length (concat (then_told x y).items) ≡ length (concat x.items) + length (concat y.items) = ap length reads.joined ∙ length-append (concat x.items) (concat y.items) in
    record {
      fed = rw reads.joined (Fed-then m₀.feed m₁.feed m₂.feed (concat x.items) (concat y.items) first.fed second.fed);
      short = short-pieces 4096 x y first.short second.short;
      counted = omega arith;
      input = reads.goes;
      source = second.source ∙ first.source;
      most = second.most ∙ first.most;
      above = second.above ∙ first.above;
    }

-- at the end of an edge

pub ends-same : (a b : Option AtEdge) → b ≡ a → EndGrows a b [] []
ends-same a b e =
    record { rows = ap rows_at e; received = ap received_at e ∙ sym (append-nil (received_at a)); sent = ap sent_at e ∙ sym (append-nil (sent_at a)) }

pub ends-then : (a b c : Option AtEdge) (t p u q : List Message) → EndGrows a b t p → EndGrows b c u q → EndGrows a c (t ++ u) (p ++ q)
ends-then a b c t p u q first second =
    record {
      rows = second.rows ∙ first.rows;
      received = second.received ∙ (ap (λ (ms : List Message). ms ++ u) first.received ∙ append_assoc (received_at a) t u);
      sent = second.sent ∙ (ap (λ (ms : List Message). ms ++ q) first.sent ∙ append_assoc (sent_at a) p q);
    }

pub told-fairly : (t u : List Message) → told_by (fairly (t ++ u)) ≡ then_told (told_by (fairly t)) (told_by (fairly u))
told-fairly t u = ap told_by (fairly-append t u) ∙ told_append (fairly t) (fairly u)

edge-then : (a b c : Input) (t u : List Message) → EdgeGoes a b t → EdgeGoes b c u → EdgeGoes a c (t ++ u)
edge-then input.Edge b c t u first second = subst (λ (rs : List Plain). c ≡ edge_after rs) (sym (reasons-append t u)) (by (reasons_in t) first) where
  by : (rs : List Plain) → b ≡ edge_after rs → c ≡ edge_after (rs ++ reasons_in u)
  by [] e = subst (λ (i : Input). EdgeGoes i c u) e second
  by (r ∷ rs) e = subst (λ (i : Input). EdgeGoes i c u) e second
edge-then (input.Broken r) b c t u first second = subst (λ (i : Input). EdgeGoes i c u) first second
edge-then input.Open b c t u first second = absurd first
edge-then input.Ended b c t u first second = absurd first
edge-then input.Failed b c t u first second = absurd first
edge-then input.TooLong b c t u first second = absurd first

broken-edge : (rs : List Plain) → is_edge (edge_after rs) ≡ true
broken-edge [] = refl
broken-edge (r ∷ rs) = refl

edge-kind : (a b : Input) (t : List Message) → EdgeGoes a b t → is_edge b ≡ true
edge-kind input.Edge b t e = ap (λ (i : Input). is_edge i) e ∙ broken-edge (reasons_in t)
edge-kind (input.Broken r) b t e = ap (λ (i : Input). is_edge i) e
edge-kind input.Open b t e = absurd e
edge-kind input.Ended b t e = absurd e
edge-kind input.Failed b t e = absurd e
edge-kind input.TooLong b t e = absurd e

pub told-then : (x y v w : Told (List ℕ)) → x ≡ v → y ≡ w → then_told x y ≡ then_told v w
told-then x y v w e f = rw (e, f) refl

takes-then : (a b c : Entrance) (x y : Told (List ℕ)) (m₀ m₁ m₂ : Moment) → TakesOn a b m₀ m₁ x → TakesOn b c m₁ m₂ y → TakesOn a c m₀ m₂ (then_told x y)
takes-then a b c x y m₀ m₁ m₂ first second =
    record {
      taken = first.taken ++ second.taken;
      posted = first.posted ++ second.posted;
      end = ends-then a.above b.above c.above first.taken first.posted second.taken second.posted first.end second.end;
      came_is = told-then x y _ _ first.came_is second.came_is ∙ sym (told-fairly first.taken second.taken);
      short = fewer-pieces x y first.short second.short;
      goes =
          subst (EdgeGoes a.input c.input) (sym (fairly-append first.taken second.taken))
          (edge-then a.input b.input c.input (fairly first.taken) (fairly second.taken) first.goes second.goes);
      unread = (second.unread.0 ∙ first.unread.0, second.unread.1 ∙ first.unread.1);
      counted = second.counted ∙ first.counted;
      source = second.source ∙ first.source;
      most = second.most ∙ first.most;
    }

-- a node is fed, and feeds, as it did

pub came-kind : (a b : Entrance) (x : Told (List ℕ)) (m₀ m₁ : Moment) → ComesIn a b m₀ m₁ x → is_edge b.input ≡ is_edge a.input
came-kind a b x m₀ m₁ (ByInput e from) = let k = input-kind a.input b.input x m₀ m₁ from.input in k.1 ∙ sym k.0
came-kind a b x m₀ m₁ (ByEdge e on) = edge-kind a.input b.input (fairly on.taken) on.goes ∙ sym e

pub comes-then : (a b c : Entrance) (x y : Told (List ℕ)) (m₀ m₁ m₂ : Moment) → ComesIn a b m₀ m₁ x → ComesIn b c m₁ m₂ y → ComesIn a c m₀ m₂ (then_told x y)
comes-then a b c x y m₀ m₁ m₂ (ByInput e first) (ByInput f second) = ByInput e (from-then a b c x y m₀ m₁ m₂ first second)
comes-then a b c x y m₀ m₁ m₂ (ByEdge e first) (ByEdge f second) = ByEdge e (takes-then a b c x y m₀ m₁ m₂ first second)
comes-then a b c x y m₀ m₁ m₂ (ByInput e first) (ByEdge f second) = absurd (let k : is_edge b.input ≡ false = (input-kind a.input b.input x m₀ m₁ first.input).1 in cc)
comes-then a b c x y m₀ m₁ m₂ (ByEdge e first) (ByInput f second) = absurd (let k : is_edge b.input ≡ true = edge-kind a.input b.input (fairly first.taken) first.goes in cc)

-- of the input, all that was read
pub read-then : (a b c : Entrance) (x y : Told (List ℕ)) (m₀ m₁ m₂ : Moment) → ComesIn a b m₀ m₁ x → ComesIn b c m₁ m₂ y → is_edge a.input ≡ false
    → concat (then_told x y).items ≡ concat x.items ++ concat y.items
read-then a b c x y m₀ m₁ m₂ (ByInput e first) (ByInput f second) not_edge = (input-then a.input b.input c.input x y m₀ m₁ m₂ first.input second.input).joined
read-then a b c x y m₀ m₁ m₂ (ByEdge e first) second not_edge = absurd (cc)
read-then a b c x y m₀ m₁ m₂ (ByInput e first) (ByEdge f second) not_edge = absurd (let k : is_edge b.input ≡ false = (input-kind a.input b.input x m₀ m₁ first.input).1 in cc)

-- nothing came in and nothing went out

pub comes-still : (a b : Entrance) (m₀ m₁ : Moment) → m₁.feed ≡ m₀.feed → m₁.read_faults ≡ m₀.read_faults → b.taken ≡ a.taken → b.input ≡ a.input → b.source ≡ a.source → b.most ≡ a.most → b.above ≡ a.above
    → ComesIn a b m₀ m₁ nothing_yet
comes-still a b m₀ m₁ feed calm taken same source most above = by (is_edge a.input) refl where
  by : (t : Bool) → is_edge a.input ≡ t → ComesIn a b m₀ m₁ nothing_yet
  by false e =
      ByInput e
      (record {
        fed = subst (λ q. Fed m₀.feed q []) (sym feed) (Fed-nothing m₀.feed);
        short = All-nil (λ c. length c ≤ 4096);
        counted = omega arith;
        input = subst (λ x. InputGoes a.input x nothing_yet m₀ m₁) (sym same) (input-still a.input m₀ m₁ feed calm e);
        source = source;
        most = most;
        above = above;
      })
  by true e =
      ByEdge e
      (record {
        taken = [];
        posted = [];
        end = ends-same a.above b.above above;
        came_is = refl;
        short = All-nil (λ c. length c < 33554432);
        goes = subst (λ x. EdgeGoes a.input x []) (sym same) (edge-same a.input e);
        unread = (feed, calm);
        counted = taken;
        source = source;
        most = most;
      })
    where
      edge-same : (i : Input) → is_edge i ≡ true → EdgeGoes i i []
      edge-same input.Edge e = refl
      edge-same (input.Broken r) e = refl
      edge-same input.Open e = absurd (cc)
      edge-same input.Ended e = absurd (cc)
      edge-same input.Failed e = absurd (cc)
      edge-same input.TooLong e = absurd (cc)

pub comes-quietly : (a b : Entrance) (m : Moment) → b.taken ≡ a.taken → b.input ≡ a.input → b.source ≡ a.source → b.most ≡ a.most → b.above ≡ a.above → ComesIn a b m m nothing_yet
comes-quietly a b m taken same source most above = comes-still a b m m refl refl taken same source most above

-- the flow since a node was made goes on

pub fed-came : (a b : Entrance) (m₀ m₁ : Moment) (x y : Told (List ℕ)) → ComesIn a b m₀ m₁ y → CameBy a x → CameBy b (then_told x y)
fed-came a b m₀ m₁ x y (ByInput e from) came now = absurd (let k : is_edge b.input ≡ false = (input-kind a.input b.input y m₀ m₁ from.input).1 in cc)
fed-came a b m₀ m₁ x y (ByEdge e on) came now =
    told-then x y _ _ (came e) on.came_is ∙ (sym (told-fairly (received_at a.above) on.taken) ∙ ap (λ (ms : List Message). told_by (fairly ms)) (sym on.end.received))

pub fed-short : (a b : Entrance) (m₀ m₁ : Moment) (x y : Told (List ℕ)) → ComesIn a b m₀ m₁ y → All (λ c. length c ≤ most_of_piece a.input) x.items → All (λ c. length c ≤ most_of_piece b.input) (then_told x y).items
fed-short a b m₀ m₁ x y comes was =
    let most : most_of_piece a.input ≡ most_of_piece b.input = ap (λ (t : Bool). if t then 33554431 else 4096) (sym (came-kind a b y m₀ m₁ comes)) in
    subst (λ (k : ℕ). All (λ c. length c ≤ k) (then_told x y).items) most (short-pieces (most_of_piece a.input) x y was (came comes)) where
      as_most : (cs : List (List ℕ)) → All (λ c. length c < 33554432) cs → All (λ c. length c ≤ 33554431) cs
      as_most cs h = All-weaker (λ c. length c < 33554432) (λ c. length c ≤ 33554431) (λ c l. omega (arith, l)) cs h

      came : ComesIn a b m₀ m₁ y → All (λ c. length c ≤ most_of_piece a.input) y.items
      came (ByInput e from) = subst (λ (t : Bool). All (λ c. length c ≤ (if t then 33554431 else 4096)) y.items) (sym e) from.short
      came (ByEdge e on) = subst (λ (t : Bool). All (λ c. length c ≤ (if t then 33554431 else 4096)) y.items) (sym e) (as_most y.items on.short)

-- what came in since is counted

stays-joined : (x y : Told (List ℕ)) → y ≡ nothing_yet → concat (then_told x y).items ≡ concat x.items ++ concat y.items
stays-joined x y e =
    ap (λ (t : Told (List ℕ)). concat (then_told x t).items) e
    ∙ (ap (λ (t : Told (List ℕ)). concat t.items) (then_empty x) ∙ (sym (append-nil (concat x.items)) ∙ ap (λ (t : Told (List ℕ)). concat x.items ++ concat t.items) (sym e)))

reads-joined : (i j : Input) (x y : Told (List ℕ)) (m₀ m₁ : Moment) → InputGoes i j y m₀ m₁ → (i ≡ input.Open → x.mark ≡ MayCome) → concat (then_told x y).items ≡ concat x.items ++ concat y.items
reads-joined input.Open j x y m₀ m₁ h may = (open_then x y (may refl)).1
reads-joined input.Ended j x y m₀ m₁ h may = stays-joined x y h.1
reads-joined input.Failed j x y m₀ m₁ h may = stays-joined x y h.1
reads-joined input.TooLong j x y m₀ m₁ h may = stays-joined x y h.1
reads-joined input.Edge j x y m₀ m₁ h may = absurd h
reads-joined (input.Broken r) j x y m₀ m₁ h may = absurd h

pub fed-counted : (a b : Entrance) (m₀ m₁ : Moment) (x y : Told (List ℕ)) → ComesIn a b m₀ m₁ y → (a.input ≡ input.Open → x.mark ≡ MayCome) → (is_edge a.input ≡ false → a.taken ≡ length (concat x.items))
    → is_edge b.input ≡ false → b.taken ≡ length (concat (then_told x y).items)
fed-counted a b m₀ m₁ x y (ByInput e from) may was now =
    let joined = reads-joined a.input b.input x y m₀ m₁ from.input may in
    let before = was e in
    let counted = from.counted in
    let long = ap length joined ∙ length-append (concat x.items) (concat y.items) in
    omega (arith, before, counted, long)
fed-counted a b m₀ m₁ x y (ByEdge e on) may was now = absurd (let k : is_edge b.input ≡ true = edge-kind a.input b.input (fairly on.taken) on.goes in cc)

-- an input that may be read was before, and of what came no end was told
reads-on : (i j : Input) (y : Told (List ℕ)) (m₀ m₁ : Moment) → InputGoes i j y m₀ m₁ → j ≡ input.Open → (i ≡ input.Open) × (y.mark ≡ MayCome)
reads-on input.Open input.Open y m₀ m₁ h e = (refl, h.0)
reads-on input.Open input.Ended y m₀ m₁ h e = absurd (cc)
reads-on input.Open input.Failed y m₀ m₁ h e = absurd (cc)
reads-on input.Open input.TooLong y m₀ m₁ h e = absurd (cc)
reads-on input.Open input.Edge y m₀ m₁ h e = absurd h
reads-on input.Open (input.Broken r) y m₀ m₁ h e = absurd h
reads-on input.Ended j y m₀ m₁ h e = absurd (let f : input.Ended ≡ input.Open = sym h.0 ∙ e in cc)
reads-on input.Failed j y m₀ m₁ h e = absurd (let f : input.Failed ≡ input.Open = sym h.0 ∙ e in cc)
reads-on input.TooLong j y m₀ m₁ h e = absurd (let f : input.TooLong ≡ input.Open = sym h.0 ∙ e in cc)
reads-on input.Edge j y m₀ m₁ h e = absurd h
reads-on (input.Broken r) j y m₀ m₁ h e = absurd h

pub fed-reads : (a b : Entrance) (m₀ m₁ : Moment) (x y : Told (List ℕ)) → ComesIn a b m₀ m₁ y → (a.input ≡ input.Open → x.mark ≡ MayCome) → b.input ≡ input.Open → (then_told x y).mark ≡ MayCome
fed-reads a b m₀ m₁ x y (ByInput e from) may now = let o = reads-on a.input b.input y m₀ m₁ from.input now in (open_then x y (may o.0)).0 ∙ o.1
fed-reads a b m₀ m₁ x y (ByEdge e on) may now =
    absurd (let k : is_edge b.input ≡ true = edge-kind a.input b.input (fairly on.taken) on.goes in let f : is_edge b.input ≡ false = ap is_edge now in cc)
