-- Where the output was finished, each edge ended with a close, all that was sent over it was received, and that is what the stages before it make of what was
-- read.
use Rattle.std.proofs.Common.{◌≡◌, ◌≤◌, ℕ, ℤ, Bool, true, false, Option, List, [], ◌∷◌, ◌++◌, length, refl, sym, ap, ◌∙◌, subst, append-nil, length-append, arith}
use Rattle.std.specs.Prelude.{if◌then◌else◌}
use Rattle.std.specs.List.{concat}
use Rattle.ws_value.specs.declared.fault.Fault.TheVariants.{TypeError}
use Rattle.ws_value.specs.declared.value.Message.{Message}
use Rattle.ws_value.specs.declared.value.Message.TheVariants.{Pull, Chunk, Close, Error}
use Rattle.ws_value.specs.declared.value.Plain.{Plain}
use Rattle.ws_value.specs.declared.value.Plain.TheVariants.{Fault as FaultReason}
use Rattle.ws_value.specs.declared.value.Value.TheVariants.{Plain as PlainValue, Bytes}
use Rattle.ws_flow.specs.declared.plan.Stage.{Stage}
use Rattle.ws_flow.specs.Machines.{Machine, all_through, through}
use Rattle.ws_flow.specs.Parts.{Part, Flows}
use Rattle.ws_flow.specs.Rows.{told_by}
use Rattle.ws_flow.specs.Stages.{machines}
use Rattle.ws_flow.specs.Told.{bytes_of, Mark, Open as MayCome, Closed, Broken, Lost, Told, told, then_told, goes_on, Begins, IsBefore, IsFront}
use Rattle.ws_flow.proofs.Chain.{flows_before}
use Rattle.ws_flow.proofs.Endings.{closed_all}
use Rattle.ws_flow.proofs.Members.{machines-append}
use Rattle.ws_flow.proofs.Told.{before_trans, before_then}
use Rattle.ws_steps.specs.PortHistory.{ends_last}
use Rattle.ws_steps.specs.Queues.{is_empty}
use Rattle.ws_node.specs.Messages.{fairly, is_fair}
use Rattle.ws_node.proofs.Passing.{Between, Inside, IsFrontOf, PassOn, Starts, Stops}

-- What is told

same_by : {A : Type 0} (xs : List A) (m : Mark) (y : Told A) → Begins xs m y → m ≡ Closed → told xs m ≡ y
same_by xs MayCome y h c = grind arith
same_by xs Broken y h c = grind arith
same_by xs Lost y h c = grind arith
same_by xs Closed y (a, b) c = grind arith

closed_by : {A : Type 0} (xs : List A) (m : Mark) (y : Told A) → m ≡ Closed → goes_on xs m y ≡ told xs m
closed_by xs MayCome y c = grind arith
closed_by xs Broken y c = grind arith
closed_by xs Lost y c = grind arith
closed_by xs Closed y c = refl

-- what came out closed: it is all that comes out of what came in, and that closed
record IsAll (ms : List Machine) (came went : Told (List ℕ)) : Type 0 where
  pub all : went ≡ all_through ms came
  pub closed : came.mark ≡ Closed

all-of : (ms : List Machine) (came : Told (List ℕ)) (ps : List Part) (went behind : Told (List ℕ)) → Flows ms came ps (then_told went behind) → went.mark ≡ Closed → IsAll ms came went
all-of ms came ps went behind f c =
    let same = closed_by went.items went.mark behind c in
    let before = subst (λ x. IsBefore x (all_through ms came)) same (flows_before ms came ps (then_told went behind) f) in
    let all = same_by went.items went.mark (all_through ms came) before c in
    record { all = all; closed = (closed_all ms came (sym (ap (λ (x : Told (List ℕ)). x.mark) all) ∙ c)).closed }

all-append : (xs ys : List Machine) (x : Told (List ℕ)) → all_through (xs ++ ys) x ≡ all_through ys (all_through xs x)
all-append [] ys x = refl
all-append (m ∷ xs) ys x = all-append xs ys (through m m.start x)

-- what is told of a row that closed, where each message was taken fairly: each is as it was sent

open-mark : (x : List ℕ) (y : Told (List ℕ)) → (then_told (told (x ∷ []) MayCome) y).mark ≡ y.mark
open-mark x y = refl

fair-chunk : (t : Bool) (b : List ℕ) (r : Plain) (ns : List Message) → (told_by ((if t then Chunk (Bytes b) else Error r) ∷ ns)).mark ≡ Closed
    → (((if t then Chunk (Bytes b) else Error r) ∷ ns) ≡ Chunk (Bytes b) ∷ ns) × ((told_by ns).mark ≡ Closed)
fair-chunk true b r ns c = (refl, c)
fair-chunk false b r ns c = absurd (cc)

fair-error : (t : Bool) (r s : Plain) (ns : List Message) → (told_by ((if t then Error r else Error s) ∷ ns)).mark ≡ Closed → ⊥
fair-error true r s ns c = cc
fair-error false r s ns c = cc

abbrev unfair : Plain
unfair = FaultReason TypeError

closed-fair : (ms : List Message) → (told_by (fairly ms)).mark ≡ Closed → told_by (fairly ms) ≡ told_by ms
closed-fair [] c = refl
closed-fair (Pull ∷ ms) c = closed-fair ms c
closed-fair (Chunk (PlainValue v) ∷ ms) c = absurd (cc)
closed-fair (Chunk (Bytes b) ∷ ms) c =
    let f = fair-chunk (is_fair (Chunk (Bytes b))) b unfair (fairly ms) c in
    ap told_by f.0 ∙ ap (λ x. then_told (told (b ∷ []) MayCome) x) (closed-fair ms f.1)
closed-fair (Close ∷ ms) c = refl
closed-fair (Error r ∷ ms) c = absurd (fair-error (is_fair (Error r)) r unfair (fairly ms) c)

-- nothing is left behind a close

none-behind : (xs ys : List Message) → is_empty (xs ++ ys) ≡ true → ys ≡ []
none-behind [] [] e = refl
none-behind [] (y ∷ ys) e = absurd (cc)
none-behind (x ∷ xs) ys e = absurd (cc)

none-left : (xs ys : List Message) → ends_last (xs ++ ys) ≡ true → (told_by xs).mark ≡ Closed → ys ≡ []
none-left [] ys l c = absurd (cc)
none-left (Pull ∷ xs) ys l c = none-left xs ys l c
none-left (Chunk v ∷ xs) ys l c = none-left xs ys l c
none-left (Close ∷ xs) ys l c = none-behind xs ys l
none-left (Error r ∷ xs) ys l c = absurd (cc)

-- One edge

-- all was received
record IsOver (sent received : List Message) : Type 0 where
  pub all : received ≡ sent
  pub closed : (told_by sent).mark ≡ Closed

is-over : (sent received : List Message) → ends_last sent ≡ true → IsFrontOf received sent → (told_by received).mark ≡ Closed → IsOver sent received
is-over sent received l (rest, e) c =
    let none = none-left received rest (subst (λ ms. ends_last ms ≡ true) e l) c in
    let same : sent ≡ received = e ∙ ap (λ q. received ++ q) none ∙ append-nil received in
    record { all = sym same; closed = subst (λ ms. (told_by ms).mark ≡ Closed) (sym same) c }

over-fair : (sent received : List Message) → ends_last sent ≡ true → IsFrontOf received sent → (told_by (fairly received)).mark ≡ Closed → IsOver sent received
over-fair sent received l f c = is-over sent received l f (sym (ap (λ (x : Told (List ℕ)). x.mark) (closed-fair received c)) ∙ c)

bytes-closed : (got : Told ℕ) (went : Told (List ℕ)) → IsBefore got (bytes_of went) → got.mark ≡ Closed → went.mark ≡ Closed
bytes-closed got went b c = sym (ap (λ (x : Told ℕ). x.mark) (same_by got.items got.mark (bytes_of went) b c)) ∙ c

-- The edges of a run, from one on, whose stages are these: what was sent is what they make of what was read
pub record IsAt (ss : List Stage) (read : Told (List ℕ)) (sent received : List Message) : Type 0 where
  pub told : told_by sent ≡ all_through (machines ss) read
  pub all : received ≡ sent
  pub closed : (told_by sent).mark ≡ Closed
  pub last : ends_last sent ≡ true

abbrev pub AllAt : List Stage → Told (List ℕ) → List Message → List Between → List Message → Type 0
AllAt ss read sent [] received = IsAt ss read sent received
AllAt ss read sent (b ∷ bs) received = IsAt ss read sent b.received × AllAt (ss ++ b.inside.stages) read b.sent bs received

module _ (after : Option ℤ) (t : Inside) (received : List Message) (got : Told ℕ) (reasons : List Plain) (stops : Stops after t received got reasons) (c : got.mark ≡ Closed) where
  -- from the last edge back
  over : (sent : List Message) (bs : List Between) → ends_last sent ≡ true → PassOn sent bs received → (told_by sent).mark ≡ Closed
  over sent [] l f =
      let all = all-of (machines t.stages) (told_by (fairly received)) t.parts stops.went t.behind stops.flows (bytes-closed got stops.went stops.written c) in
      (over-fair sent received l f all.closed).closed
  over sent (b ∷ bs) l (f, p, on) =
      let next = over b.sent bs p.sends.last on in
      let all = all-of (machines b.inside.stages) (told_by (fairly b.received)) b.inside.parts (told_by b.sent) b.inside.behind p.flows next in
      (over-fair sent b.received l f all.closed).closed

  at-one : (ss : List Stage) (read : Told (List ℕ)) (sent taken : List Message) → told_by sent ≡ all_through (machines ss) read → ends_last sent ≡ true → IsOver sent taken → IsAt ss read sent taken
  at-one ss read sent taken e l o = record { told = e; all = o.all; closed = o.closed; last = l }

  along : (ss : List Stage) (read : Told (List ℕ)) (sent : List Message) (bs : List Between) → told_by sent ≡ all_through (machines ss) read → ends_last sent ≡ true
      → PassOn sent bs received → AllAt ss read sent bs received
  along ss read sent [] e l f =
      let all = all-of (machines t.stages) (told_by (fairly received)) t.parts stops.went t.behind stops.flows (bytes-closed got stops.went stops.written c) in
      at-one ss read sent received e l (over-fair sent received l f all.closed)
  along ss read sent (b ∷ bs) e l (f, p, on) =
      let next = over b.sent bs p.sends.last on in
      let all = all-of (machines b.inside.stages) (told_by (fairly b.received)) b.inside.parts (told_by b.sent) b.inside.behind p.flows next in
      let o = over-fair sent b.received l f all.closed in
      let came : told_by (fairly b.received) ≡ all_through (machines ss) read = closed-fair b.received all.closed ∙ ap told_by o.all ∙ e in
      let sends : told_by b.sent ≡ all_through (machines (ss ++ b.inside.stages)) read =
      all.all ∙ ap (λ x. all_through (machines b.inside.stages) x) came ∙ sym (all-append (machines ss) (machines b.inside.stages) read)
      ∙ ap (λ q. all_through q read) (sym (machines-append ss b.inside.stages)) in
      (at-one ss read sent b.received e l o, along (ss ++ b.inside.stages) read b.sent bs sends p.sends.last on)

  pub all-at : (read : Told (List ℕ)) (i : Inside) (sent : List Message) (bs : List Between) → Starts read i sent → PassOn sent bs received → AllAt i.stages read sent bs received
  all-at read i sent bs starts on =
      let closed = over sent bs starts.sends.last on in
      let all = all-of (machines i.stages) read i.parts (told_by sent) i.behind starts.flows closed in
      along i.stages read sent bs all.all starts.sends.last on

  pub read-closed : (read : Told (List ℕ)) (i : Inside) (sent : List Message) (bs : List Between) → Starts read i sent → PassOn sent bs received → read.mark ≡ Closed
  read-closed read i sent bs starts on =
      let closed = over sent bs starts.sends.last on in
      (all-of (machines i.stages) read i.parts (told_by sent) i.behind starts.flows closed).closed

-- Always

front-by : {A : Type 0} (xs : List A) (m : Mark) (y : Told A) → Begins xs m y → IsFront xs y.items
front-by xs MayCome y h = h
front-by xs Lost y h = h
front-by xs Broken y (a, b) = ([], a ∙ sym (append-nil xs))
front-by xs Closed y (a, b) = ([], a ∙ sym (append-nil xs))

front-short : (xs ys : List ℕ) → IsFront xs ys → length xs ≤ length ys
front-short xs ys (rest, e) = let n = ap length e in let k = length-append xs rest in omega (arith, n, k)

concat-front : (xs rest : List (List ℕ)) → length (concat xs) ≤ length (concat (xs ++ rest))
concat-front [] rest = omega arith
concat-front (x ∷ xs) rest =
    let h = concat-front xs rest in let a = length-append x (concat xs) in let b = length-append x (concat (xs ++ rest)) in omega (arith, h, a, b)

concat-short : (xs ys : List (List ℕ)) → IsFront xs ys → length (concat xs) ≤ length (concat ys)
concat-short xs ys (rest, e) = subst (λ q. length (concat xs) ≤ length (concat q)) (sym e) (concat-front xs rest)

-- no more comes out of a node without stages than came in
no-more : (x : Told (List ℕ)) (ps : List Part) (went behind : Told (List ℕ)) → Flows [] x ps (then_told went behind) → length (concat went.items) ≤ length (concat x.items)
no-more x ps went behind f =
    let b = before_trans went (then_told went behind) x (before_then went behind) (flows_before [] x ps (then_told went behind) f) in
    concat-short went.items x.items (front-by went.items went.mark x b)

-- no more was sent over the first edge than was read
pub at-most : (read : Told (List ℕ)) (i : Inside) (sent : List Message) → i.stages ≡ [] → Starts read i sent → length (concat (told_by sent).items) ≤ length (concat read.items)
at-most read i sent e s = no-more read i.parts (told_by sent) i.behind (subst (λ ss. Flows (machines ss) read i.parts (then_told (told_by sent) i.behind)) e s.flows)

-- and no more was written than was received from the last one
pub at-least : (after : Option ℤ) (i : Inside) (received : List Message) (got : Told ℕ) (reasons : List Plain) → i.stages ≡ [] → Stops after i received got reasons
    → length got.items ≤ length (concat (told_by (fairly received)).items)
at-least after i received got reasons e s =
    let some = no-more (told_by (fairly received)) i.parts s.went i.behind (subst (λ ss. Flows (machines ss) (told_by (fairly received)) i.parts (then_told s.went i.behind)) e s.flows) in
    let written = front-short got.items (concat s.went.items) (front-by got.items got.mark (bytes_of s.went) s.written) in
    omega (arith, some, written)
