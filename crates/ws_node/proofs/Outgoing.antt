-- What went out of a node, and then went, to its output or over an edge.
use Rattle.std.proofs.Common.{◌≡◌, ◌≢◌, ◌<◌, ◌+◌, ℕ, Bool, true, false, List, [], ◌∷◌, ◌++◌, Option, Some, None, length, refl, sym, ap, ◌∙◌, subst, append-nil, append_assoc, length-append, arith}
use Rattle.std.specs.List.{concat}
use Rattle.ws_flow.specs.Told.{bytes_of, Mark, Open as MayCome, Closed, Broken, Lost, Told, told, goes_on, then_told, IsShortOf}
use Rattle.ws_flow.proofs.Cutting.{joined_append, bytes_then}
use Rattle.ws_flow.proofs.Ends.{told_append}
use Rattle.ws_flow.specs.Rows.{told_by}
use Rattle.ws_joined_laws.specs.Ends.{StopsIn}
use Rattle.ws_flow.proofs.Told.{short_trans, short_same, short_as, short_left, short_right}
use Rattle.ws_io.proofs.Flow.{Gains-then, IsEmptied-kept, KeepsTold-same, KeepsTold-then, Becomes-then}
use Rattle.ws_io.specs.Gain.{Gains, KeepsTold, Becomes, Got, IsEmptied}
use Rattle.ws_io.specs.Moment.{Moment}
use Rattle.ws_node.specs.declared.node.Abort.{Abort}
use Rattle.ws_node.specs.declared.node.Exit.{Exit}
use Rattle.ws_node.specs.declared.node.Output.{Output}
use Rattle.ws_node.specs.declared.node.Output.TheVariants as output
use Rattle.ws_node.specs.Node.{feeds_edge, nothing_yet, sent_at}
use Rattle.ws_node.specs.Past.{WentBy}
use Rattle.ws_node.specs.Went.{AbortGoes, ComesNear, EndsShort, GoesOut, LeftAlone, OutputGoes, PostsOn, ToEdge, ToGoes, ToOutput}
use Rattle.ws_node.proofs.StillOpen.{was-open, still-open}
use Rattle.ws_node.proofs.Incoming.{ends-same, ends-then, told-then}

output-still : (a : Output) (m₀ m₁ : Moment) → m₁.write_faults ≡ m₀.write_faults → m₁.finished ≡ m₀.finished → feeds_edge a ≡ false → OutputGoes a a [] MayCome m₀ m₁
output-still output.Open m₀ m₁ f g e = (refl, f, subst (λ q. KeepsTold m₀.finished q) (sym g) (KeepsTold-same m₀.finished))
output-still output.Finished m₀ m₁ f g e = (refl, record { none = refl; calm = f; finished = g })
output-still output.Failed m₀ m₁ f g e = (refl, record { none = refl; calm = f; finished = g })
output-still output.Aborted m₀ m₁ f g e = (refl, record { none = refl; calm = f; finished = g })
output-still output.Edge m₀ m₁ f g e = absurd (cc)

pub output-same : (a : Output) (m : Moment) → feeds_edge a ≡ false → OutputGoes a a [] MayCome m m
output-same a m e = output-still a m m refl refl e

pub output-kind : (a b : Output) (g : List ℕ) (o : Mark) (m₀ m₁ : Moment) → OutputGoes a b g o m₀ m₁ → (feeds_edge a ≡ false) × (feeds_edge b ≡ false)
output-kind output.Open output.Open g o m₀ m₁ h = (refl, refl)
output-kind output.Open output.Finished g o m₀ m₁ h = (refl, refl)
output-kind output.Open output.Failed g o m₀ m₁ h = (refl, refl)
output-kind output.Open output.Aborted g o m₀ m₁ h = (refl, refl)
output-kind output.Open output.Edge g o m₀ m₁ h = absurd h
output-kind output.Finished b g o m₀ m₁ h = (refl, ap (λ (x : Output). feeds_edge x) h.0)
output-kind output.Failed b g o m₀ m₁ h = (refl, ap (λ (x : Output). feeds_edge x) h.0)
output-kind output.Aborted b g o m₀ m₁ h = (refl, ap (λ (x : Output). feeds_edge x) h.0)
output-kind output.Edge b g o m₀ m₁ h = absurd h

abbrev pub mark_then : Mark → Mark → Mark
mark_then MayCome n = n
mark_then Closed n = Closed
mark_then Broken n = Broken
mark_then Lost n = Lost

-- what was written, and then what was written, is all that was
record WritesThen (a c : Output) (g h : List ℕ) (o n : Mark) (m₀ m₂ : Moment) : Type 0 where
  goes : OutputGoes a c (g ++ h) (mark_then o n) m₀ m₂
  joined : told (g ++ h) (mark_then o n) ≡ then_told (told g o) (told h n)

joined_by : (g h : List ℕ) (o n : Mark) → (o ≢ MayCome → h ≡ []) → told (g ++ h) (mark_then o n) ≡ then_told (told g o) (told h n)
joined_by g h MayCome n f = refl
joined_by g h Closed n f = let e : h ≡ [] = f (λ q. cc) in ap (λ q. told q Closed) (ap (λ q. g ++ q) e ∙ append-nil g)
joined_by g h Broken n f = let e : h ≡ [] = f (λ q. cc) in ap (λ q. told q Broken) (ap (λ q. g ++ q) e ∙ append-nil g)
joined_by g h Lost n f = let e : h ≡ [] = f (λ q. cc) in ap (λ q. told q Lost) (ap (λ q. g ++ q) e ∙ append-nil g)

then_open : (o n : Mark) → o ≡ MayCome → mark_then o n ≡ n
then_open o n e = rw e refl

then_closed : (o n : Mark) → o ≡ Closed → mark_then o n ≡ Closed
then_closed o n e = rw e refl

then_lost : (o n : Mark) → o ≡ Lost → mark_then o n ≡ Lost
then_lost o n e = rw e refl

pub nothing_more : (g h : List ℕ) → g ≡ [] → h ≡ [] → g ++ h ≡ []
nothing_more g h e f = rw (e, f) refl

shut-then : (a b c : Output) (g h : List ℕ) (o n : Mark) (m₀ m₁ m₂ : Moment) → a ≢ output.Open → b ≡ a → LeftAlone g m₀ m₁ → OutputGoes b c h n m₁ m₂
    → WritesThen a c g h o n m₀ m₂
shut-then output.Open b c g h o n m₀ m₁ m₂ w e k second = absurd (w refl)
shut-then output.Finished output.Finished c g h o n m₀ m₁ m₂ w e k (i, l) =
    record {
      goes = (i, record { none = nothing_more g h k.none l.none; calm = l.calm ∙ k.calm; finished = l.finished ∙ k.finished });
      joined = joined_by g h o n (λ q. l.none);
    }
shut-then output.Failed output.Failed c g h o n m₀ m₁ m₂ w e k (i, l) =
    record {
      goes = (i, record { none = nothing_more g h k.none l.none; calm = l.calm ∙ k.calm; finished = l.finished ∙ k.finished });
      joined = joined_by g h o n (λ q. l.none);
    }
shut-then output.Aborted output.Aborted c g h o n m₀ m₁ m₂ w e k (i, l) =
    record {
      goes = (i, record { none = nothing_more g h k.none l.none; calm = l.calm ∙ k.calm; finished = l.finished ∙ k.finished });
      joined = joined_by g h o n (λ q. l.none);
    }
shut-then output.Edge b c g h o n m₀ m₁ m₂ w e k second = absurd (subst (λ (x : Output). OutputGoes x c h n m₁ m₂) e second)
shut-then output.Finished output.Edge c g h o n m₀ m₁ m₂ w e k second = absurd second
shut-then output.Failed output.Edge c g h o n m₀ m₁ m₂ w e k second = absurd second
shut-then output.Aborted output.Edge c g h o n m₀ m₁ m₂ w e k second = absurd second
shut-then output.Finished output.Open c g h o n m₀ m₁ m₂ w e k second = absurd (cc)
shut-then output.Finished output.Failed c g h o n m₀ m₁ m₂ w e k second = absurd (cc)
shut-then output.Finished output.Aborted c g h o n m₀ m₁ m₂ w e k second = absurd (cc)
shut-then output.Failed output.Open c g h o n m₀ m₁ m₂ w e k second = absurd (cc)
shut-then output.Failed output.Finished c g h o n m₀ m₁ m₂ w e k second = absurd (cc)
shut-then output.Failed output.Aborted c g h o n m₀ m₁ m₂ w e k second = absurd (cc)
shut-then output.Aborted output.Open c g h o n m₀ m₁ m₂ w e k second = absurd (cc)
shut-then output.Aborted output.Finished c g h o n m₀ m₁ m₂ w e k second = absurd (cc)
shut-then output.Aborted output.Failed c g h o n m₀ m₁ m₂ w e k second = absurd (cc)

output-then : (a b c : Output) (g h : List ℕ) (o n : Mark) (m₀ m₁ m₂ : Moment) → OutputGoes a b g o m₀ m₁ → OutputGoes b c h n m₁ m₂ → WritesThen a c g h o n m₀ m₂
output-then output.Open output.Open output.Open g h o n m₀ m₁ m₂ (e, f, k) (i, j, l) =
    record { goes = (then_open o n e ∙ i, j ∙ f, KeepsTold-then m₀.finished m₁.finished m₂.finished k l); joined = joined_by g h o n (λ q. absurd (q e)) }
output-then output.Open output.Open output.Finished g h o n m₀ m₁ m₂ (e, f, k) (i, j, l) =
    record { goes = (then_open o n e ∙ i, j ∙ f, Becomes-then m₀.finished m₁.finished m₂.finished k l); joined = joined_by g h o n (λ q. absurd (q e)) }
output-then output.Open output.Open output.Failed g h o n m₀ m₁ m₂ (e, f, k) (i, j, l) =
    record { goes = (then_open o n e ∙ i, rw (← f) j, KeepsTold-then m₀.finished m₁.finished m₂.finished k l); joined = joined_by g h o n (λ q. absurd (q e)) }
output-then output.Open output.Open output.Aborted g h o n m₀ m₁ m₂ (e, f, k) (i, j, l) =
    record { goes = (then_open o n e ∙ i, j ∙ f, KeepsTold-then m₀.finished m₁.finished m₂.finished k l); joined = joined_by g h o n (λ q. absurd (q e)) }
output-then output.Open output.Finished c g h o n m₀ m₁ m₂ (e, f, k) (i, l) =
    rw i (record { goes = (then_closed o n e, l.calm ∙ f, subst (λ q. Becomes m₀.finished q) (sym l.finished) k); joined = joined_by g h o n (λ q. l.none) })
output-then output.Open output.Failed c g h o n m₀ m₁ m₂ (e, f, k) (i, l) =
    rw i (record { goes = (then_lost o n e, rw l.calm f, subst (λ q. KeepsTold m₀.finished q) (sym l.finished) k); joined = joined_by g h o n (λ q. l.none) })
output-then output.Open output.Aborted c g h o n m₀ m₁ m₂ (e, f, k) (i, l) =
    rw i (record { goes = (then_lost o n e, l.calm ∙ f, subst (λ q. KeepsTold m₀.finished q) (sym l.finished) k); joined = joined_by g h o n (λ q. l.none) })
output-then output.Open output.Open output.Edge g h o n m₀ m₁ m₂ first second = absurd second
output-then output.Open output.Edge c g h o n m₀ m₁ m₂ first second = absurd first
output-then output.Edge b c g h o n m₀ m₁ m₂ first second = absurd first
output-then output.Finished b c g h o n m₀ m₁ m₂ (e, k) second =
    shut-then output.Finished b c g h o n m₀ m₁ m₂ (λ w. cc) e k second
output-then output.Failed b c g h o n m₀ m₁ m₂ (e, k) second =
    shut-then output.Failed b c g h o n m₀ m₁ m₂ (λ w. cc) e k second
output-then output.Aborted b c g h o n m₀ m₁ m₂ (e, k) second =
    shut-then output.Aborted b c g h o n m₀ m₁ m₂ (λ w. cc) e k second

-- how near the abort came

near-same : (left : ℕ) (chunks : List (List ℕ)) (o : Output) → ComesNear left left chunks [] o
near-same left chunks o = record { counted = omega arith; exact = λ e f. omega arith; last = λ e. absurd (omega arith) }

pub abort-same : (a : Option Abort) (chunks : List (List ℕ)) (o : Output) → AbortGoes a a chunks [] o
abort-same None chunks o = tt
abort-same (Some x) chunks o = (refl, near-same x.left chunks o)

-- an output that failed stays so, and gains nothing
failed-stays : (b c : Output) (h : List ℕ) (n : Mark) (m₁ m₂ : Moment) → OutputGoes b c h n m₁ m₂ → b ≡ output.Failed → (c ≡ output.Failed) × (h ≡ [])
failed-stays output.Failed c h n m₁ m₂ (i, l) e = (i, l.none)
failed-stays output.Open c h n m₁ m₂ g e = absurd (cc)
failed-stays output.Finished c h n m₁ m₂ g e = absurd (cc)
failed-stays output.Aborted c h n m₁ m₂ g e = absurd (cc)
failed-stays output.Edge c h n m₁ m₂ g e = absurd (cc)

-- bytes go on only behind what was written whole
pub opened : (b c : Output) (h : List ℕ) (n : Mark) (m₁ m₂ : Moment) → OutputGoes b c h n m₁ m₂ → 0 < length h → b ≡ output.Open
opened output.Open c h n m₁ m₂ g some = refl
opened output.Finished c h n m₁ m₂ (i, l) some = absurd (let none = ap length l.none in omega arith)
opened output.Failed c h n m₁ m₂ (i, l) some = absurd (let none = ap length l.none in omega arith)
opened output.Aborted c h n m₁ m₂ (i, l) some = absurd (let none = ap length l.none in omega arith)
opened output.Edge c h n m₁ m₂ g some = absurd g

wrote-all : (a b c : Output) (g h : List ℕ) (o n : Mark) (x : Told (List ℕ)) (m₀ m₁ m₂ : Moment) → OutputGoes a b g o m₀ m₁ → OutputGoes b c h n m₁ m₂
    → IsShortOf (told g o) (bytes_of x) → 0 < length h → (concat x.items ≡ g) × (x.mark ≡ MayCome)
wrote-all a b c g h o n x m₀ m₁ m₂ first second written some =
    let was = was-open a b g o m₀ m₁ first (opened b c h n m₁ m₂ second some) in
    subst (λ m. IsShortOf (told g m) (bytes_of x)) was.1 written

more-behind : (x y : Told (List ℕ)) → (more : List (List ℕ)) × ((then_told x y).items ≡ x.items ++ more)
more-behind x y = by x.items x.mark where
  by : (xs : List (List ℕ)) (m : Mark) → (more : List (List ℕ)) × ((goes_on xs m y).items ≡ xs ++ more)
  by xs MayCome = (y.items, refl)
  by xs Closed = ([], sym (append-nil xs))
  by xs Broken = ([], sym (append-nil xs))
  by xs Lost = ([], sym (append-nil xs))

pub open_items : (x y : Told (List ℕ)) → x.mark ≡ MayCome → (then_told x y).items ≡ x.items ++ y.items
open_items x y e = grind arith

-- what stands before and behind
stops-first : (l : ℕ) (x y : Told (List ℕ)) (g : List ℕ) → StopsIn l x.items g → StopsIn l (then_told x y).items g
stops-first l x y g at =
    let more = more-behind x y in
    record {
      before = at.before;
      chunk = at.chunk;
      after = at.after ++ more.0;
      split = more.1 ∙ (ap (λ q. q ++ more.0) at.split ∙ append_assoc at.before (at.chunk ∷ at.after) more.0);
      from = at.from;
      to = at.to;
      fewer = at.fewer;
    }

stops-behind : (l l' : ℕ) (x y : Told (List ℕ)) (g h : List ℕ) → x.mark ≡ MayCome → concat x.items ≡ g → length g + l' ≡ l → StopsIn l' y.items h
    → StopsIn l (then_told x y).items (g ++ h)
stops-behind l l' x y g h mark whole exact at =
    let from = at.from in
    let to = at.to in
    let fewer = at.fewer in
    let long = length-append g h in
    let all : length (concat (x.items ++ at.before)) ≡ length g + length (concat at.before) =
    ap length (joined_append x.items at.before) ∙ (length-append (concat x.items) (concat at.before) ∙ ap (λ q. length q + length (concat at.before)) whole) in
    record {
      before = x.items ++ at.before;
      chunk = at.chunk;
      after = at.after;
      split = open_items x y mark ∙ (ap (λ q. x.items ++ q) at.split ∙ sym (append_assoc x.items at.before (at.chunk ∷ at.after)));
      from = omega arith;
      to = omega arith;
      fewer = omega arith;
    }

-- so of the chunk that holds the last byte

short-first : (x y : Told (List ℕ)) (g : List ℕ) → EndsShort x.items g → EndsShort (then_told x y).items g
short-first x y g at =
    let more = more-behind x y in
    record {
      before = at.before;
      chunk = at.chunk;
      after = at.after ++ more.0;
      split = more.1 ∙ (ap (λ q. q ++ more.0) at.split ∙ append_assoc at.before (at.chunk ∷ at.after) more.0);
      from = at.from;
      to = at.to;
      short = at.short;
    }

short-behind : (x y : Told (List ℕ)) (g h : List ℕ) → x.mark ≡ MayCome → concat x.items ≡ g → EndsShort y.items h → EndsShort (then_told x y).items (g ++ h)
short-behind x y g h mark whole at =
    let from = at.from in
    let to = at.to in
    let long = length-append g h in
    let all : length (concat (x.items ++ at.before)) ≡ length g + length (concat at.before) =
    ap length (joined_append x.items at.before) ∙ (length-append (concat x.items) (concat at.before) ∙ ap (λ q. length q + length (concat at.before)) whole) in
    record {
      before = x.items ++ at.before;
      chunk = at.chunk;
      after = at.after;
      split = open_items x y mark ∙ (ap (λ q. x.items ++ q) at.split ∙ sym (append_assoc x.items at.before (at.chunk ∷ at.after)));
      from = omega arith;
      to = omega arith;
      short = at.short;
    }

pub short-then : (x y : Told (List ℕ)) (g h : List ℕ) → (0 < length h → (concat x.items ≡ g) × (x.mark ≡ MayCome)) → (0 < length g → EndsShort x.items g) → (0 < length h → EndsShort y.items h)
    → 0 < length (g ++ h) → EndsShort (then_told x y).items (g ++ h)
short-then x y g [] whole first second some =
    subst (EndsShort (then_told x y).items) (sym (append-nil g)) (short-first x y g (first (subst (λ q. 0 < length q) (append-nil g) some)))
short-then x y g (z ∷ h) whole first second some = let all = whole (omega arith) in short-behind x y g (z ∷ h) all.1 all.0 (second (omega arith))

near-last : (l l' l'' : ℕ) (x y : Told (List ℕ)) (g h : List ℕ) (b c : Output) → (b ≡ output.Failed → (c ≡ output.Failed) × (h ≡ []))
    → (0 < length h → (concat x.items ≡ g) × (x.mark ≡ MayCome)) → ComesNear l l' x.items g b → ComesNear l' l'' y.items h c → 0 < length (g ++ h)
    → StopsIn l (then_told x y).items (g ++ h)
near-last l l' l'' x y g [] b c stays whole first second some =
    subst (StopsIn l (then_told x y).items) (sym (append-nil g)) (stops-first l x y g (first.last (subst (λ q. 0 < length q) (append-nil g) some)))
near-last l l' l'' x y g (z ∷ h) b c stays whole first second some =
    let at = second.last (omega arith) in
    let fewer = at.fewer in
    let exact : length g + l' ≡ l = first.exact (λ e. let none = (stays e).1 in cc) (omega arith) in
    let all = whole (omega arith) in
    stops-behind l l' x y g (z ∷ h) all.1 all.0 exact at

near-then : (l l' l'' : ℕ) (x y : Told (List ℕ)) (g h : List ℕ) (b c : Output) → (b ≡ output.Failed → (c ≡ output.Failed) × (h ≡ []))
    → (0 < length h → (concat x.items ≡ g) × (x.mark ≡ MayCome)) → ComesNear l l' x.items g b → ComesNear l' l'' y.items h c
    → ComesNear l l'' (then_told x y).items (g ++ h) c
near-then l l' l'' x y g h b c stays whole first second =
    let long = length-append g h in
    let counted = first.counted in
    let counted₂ = second.counted in
    record {
      counted = omega arith;
      exact = λ e f.
          let exact₂ = second.exact e f in
          let exact = first.exact (λ q. e (stays q).0) (omega arith) in
          omega arith;
      last = near-last l l' l'' x y g h b c stays whole first second;
    }

abort-then : (x y z : Option Abort) (v w : Told (List ℕ)) (g h : List ℕ) (b c : Output) → (b ≡ output.Failed → (c ≡ output.Failed) × (h ≡ []))
    → (0 < length h → (concat v.items ≡ g) × (v.mark ≡ MayCome)) → AbortGoes x y v.items g b → AbortGoes y z w.items h c
    → AbortGoes x z (then_told v w).items (g ++ h) c
abort-then None None None v w g h b c stays whole first second = tt
abort-then None None (Some z) v w g h b c stays whole first second = absurd second
abort-then None (Some y) z v w g h b c stays whole first second = absurd first
abort-then (Some x) None z v w g h b c stays whole first second = absurd first
abort-then (Some x) (Some y) None v w g h b c stays whole first second = absurd second
abort-then (Some x) (Some y) (Some z) v w g h b c stays whole (e, first) (f, second) =
    (f ∙ e, near-then x.left y.left z.left v w g h b c stays whole first second)

posts-then : (a b c : Exit) (x y : Told (List ℕ)) (g h : List ℕ) (o n : Mark) (m₀ m₁ m₂ : Moment) (p q r : Got) → PostsOn a b m₀ m₁ p q x g o → PostsOn b c m₁ m₂ q r y h n
    → PostsOn a c m₀ m₂ p r (then_told x y) (g ++ h) (mark_then o n)
posts-then a b c x y g h o n m₀ m₁ m₂ p q r first second =
    record {
      taken = first.taken ++ second.taken;
      posted = first.posted ++ second.posted;
      end = ends-then a.below b.below c.below first.taken first.posted second.taken second.posted first.end second.end;
      went_is = told-then x y _ _ first.went_is second.went_is ∙ sym (told_append first.posted second.posted);
      gained = Gains-then p q r g h first.gained second.gained;
      output = second.output ∙ first.output;
      may_come = then_open o n first.may_come ∙ second.may_come;
      alone =
          record {
            none = nothing_more g h first.alone.none second.alone.none;
            calm = second.alone.calm ∙ first.alone.calm;
            finished = second.alone.finished ∙ first.alone.finished;
          };
      abort = second.abort ∙ first.abort;
      sink = second.sink ∙ first.sink;
    }

pub went-kind : (a b : Exit) (x : Told (List ℕ)) (g : List ℕ) (o : Mark) (m₀ m₁ : Moment) (p q : Got) → GoesOut a b m₀ m₁ p q x g o → feeds_edge b.output ≡ feeds_edge a.output
went-kind a b x g o m₀ m₁ p q (ToOutput e to) = let k = output-kind a.output b.output g o m₀ m₁ to.output in k.1 ∙ sym k.0
went-kind a b x g o m₀ m₁ p q (ToEdge e on) = ap (λ (z : Output). feeds_edge z) on.output

-- what was written of an output by then, and then was finished
emptied-then : (a b c : Output) (g h : List ℕ) (o n : Mark) (m₀ m₁ m₂ : Moment) (q r : Got) → OutputGoes b c h n m₁ m₂ → (a ≡ output.Open → b ≡ output.Finished → IsEmptied q)
    → (b ≡ output.Open → c ≡ output.Finished → IsEmptied r) → Gains q r h → a ≡ output.Open → c ≡ output.Finished → IsEmptied r
emptied-then a output.Open c g h o n m₀ m₁ m₂ q r goes first second gained e f = second refl f
emptied-then a output.Finished c g h o n m₀ m₁ m₂ q r (same, l) first second gained e f =
    IsEmptied-kept q r (subst (λ (xs : List ℕ). Gains q r xs) l.none gained) (first e refl)
emptied-then a output.Failed c g h o n m₀ m₁ m₂ q r (same, l) first second gained e f = absurd (let k : output.Failed ≡ output.Finished = sym same ∙ f in cc)
emptied-then a output.Aborted c g h o n m₀ m₁ m₂ q r (same, l) first second gained e f = absurd (let k : output.Aborted ≡ output.Finished = sym same ∙ f in cc)
emptied-then a output.Edge c g h o n m₀ m₁ m₂ q r goes first second gained e f = absurd goes

pub into-then : (a b c : Exit) (x y : Told (List ℕ)) (g h : List ℕ) (o n : Mark) (m₀ m₁ m₂ : Moment) (p q r : Got) → ToGoes a b m₀ m₁ p q x g o → ToGoes b c m₁ m₂ q r y h n
    → ToGoes a c m₀ m₂ p r (then_told x y) (g ++ h) (mark_then o n)
into-then a b c x y g h o n m₀ m₁ m₂ p q r first second =
    let writes = output-then a.output b.output c.output g h o n m₀ m₁ m₂ first.output second.output in
    record {
      gained = Gains-then p q r g h first.gained second.gained;
      written =
          short_same _ _ _ writes.joined
          (short_as _ _ _ (sym (bytes_then x y))
          (short_trans _ _ _ (short_right (told g o) (bytes_of x) (told h n) first.written) (short_left (bytes_of x) (told h n) (bytes_of y) second.written)));
      output = writes.goes;
      abort =
          abort-then a.abort b.abort c.abort x y g h b.output c.output (failed-stays b.output c.output h n m₁ m₂ second.output)
          (wrote-all a.output b.output c.output g h o n x m₀ m₁ m₂ first.output second.output first.written) first.abort second.abort;
      emptied = emptied-then a.output b.output c.output g h o n m₀ m₁ m₂ q r second.output first.emptied second.emptied second.gained;
      sink = second.sink ∙ first.sink;
      below = second.below ∙ first.below;
    }

pub outs-then : (a b c : Exit) (x y : Told (List ℕ)) (g h : List ℕ) (o n : Mark) (m₀ m₁ m₂ : Moment) (p q r : Got) → GoesOut a b m₀ m₁ p q x g o → GoesOut b c m₁ m₂ q r y h n
    → GoesOut a c m₀ m₂ p r (then_told x y) (g ++ h) (mark_then o n)
outs-then a b c x y g h o n m₀ m₁ m₂ p q r (ToOutput e first) (ToOutput f second) = ToOutput e (into-then a b c x y g h o n m₀ m₁ m₂ p q r first second)
outs-then a b c x y g h o n m₀ m₁ m₂ p q r (ToEdge e first) (ToEdge f second) = ToEdge e (posts-then a b c x y g h o n m₀ m₁ m₂ p q r first second)
outs-then a b c x y g h o n m₀ m₁ m₂ p q r (ToOutput e first) (ToEdge f second) = absurd (let k : feeds_edge b.output ≡ false = (output-kind a.output b.output g o m₀ m₁ first.output).1 in cc)
outs-then a b c x y g h o n m₀ m₁ m₂ p q r (ToEdge e first) (ToOutput f second) = absurd (let k : feeds_edge b.output ≡ feeds_edge a.output = ap (λ (z : Output). feeds_edge z) first.output in cc)

-- where more was written, all that went out before was
pub outs-whole : (a b c : Exit) (x y : Told (List ℕ)) (g h : List ℕ) (o n : Mark) (m₀ m₁ m₂ : Moment) (p q r : Got) → GoesOut a b m₀ m₁ p q x g o → GoesOut b c m₁ m₂ q r y h n
    → 0 < length h → (concat x.items ≡ g) × (x.mark ≡ MayCome)
outs-whole a b c x y g h o n m₀ m₁ m₂ p q r (ToOutput e first) (ToOutput f second) some = wrote-all a.output b.output c.output g h o n x m₀ m₁ m₂ first.output second.output first.written some
outs-whole a b c x y g h o n m₀ m₁ m₂ p q r (ToOutput e first) (ToEdge f second) some = absurd (let none = ap length second.alone.none in omega arith)
outs-whole a b c x y g h o n m₀ m₁ m₂ p q r (ToEdge e first) (ToEdge f second) some = absurd (let none = ap length second.alone.none in omega arith)
outs-whole a b c x y g h o n m₀ m₁ m₂ p q r (ToEdge e first) (ToOutput f second) some = absurd (let k : feeds_edge b.output ≡ feeds_edge a.output = ap (λ (z : Output). feeds_edge z) first.output in cc)

pub goes-still : (a b : Exit) (m₀ m₁ : Moment) (p q : Got) → m₁.write_faults ≡ m₀.write_faults → m₁.finished ≡ m₀.finished → Gains p q [] → b.output ≡ a.output → b.abort ≡ a.abort → b.sink ≡ a.sink
    → b.below ≡ a.below → GoesOut a b m₀ m₁ p q nothing_yet [] MayCome
goes-still a b m₀ m₁ p q calm finished gained same abort sink below = by (feeds_edge a.output) refl where
  by : (t : Bool) → feeds_edge a.output ≡ t → GoesOut a b m₀ m₁ p q nothing_yet [] MayCome
  by false e =
      ToOutput e
      (record {
        gained = gained;
        written = (refl, refl);
        output = subst (λ x. OutputGoes a.output x [] MayCome m₀ m₁) (sym same) (output-still a.output m₀ m₁ calm finished e);
        abort = subst (λ x. AbortGoes a.abort x [] [] b.output) (sym abort) (abort-same a.abort [] b.output);
        emptied = λ e f. absurd (let g : output.Open ≡ output.Finished = sym e ∙ (sym same ∙ f) in cc);
        sink = sink;
        below = below;
      })
  by true e =
      ToEdge e
      (record {
        taken = [];
        posted = [];
        end = ends-same a.below b.below below;
        went_is = refl;
        gained = gained;
        output = same;
        may_come = refl;
        alone = record { none = refl; calm = calm; finished = finished };
        abort = abort;
        sink = sink;
      })

pub goes-quietly : (a b : Exit) (m : Moment) (p q : Got) → Gains p q [] → b.output ≡ a.output → b.abort ≡ a.abort → b.sink ≡ a.sink → b.below ≡ a.below
    → GoesOut a b m m p q nothing_yet [] MayCome
goes-quietly a b m p q gained same abort sink below = goes-still a b m m p q refl refl gained same abort sink below

pub fed-went-by : (a b : Exit) (m₀ m₁ : Moment) (p q : Got) (x y : Told (List ℕ)) (g : List ℕ) (o : Mark) → GoesOut a b m₀ m₁ p q y g o → WentBy a x → WentBy b (then_told x y)
fed-went-by a b m₀ m₁ p q x y g o (ToOutput e to) went now = absurd (let k : feeds_edge b.output ≡ false = (output-kind a.output b.output g o m₀ m₁ to.output).1 in cc)
fed-went-by a b m₀ m₁ p q x y g o (ToEdge e on) went now =
    told-then x y _ _ (went e) on.went_is ∙ (sym (told_append (sent_at a.below) on.posted) ∙ ap told_by (sym on.end.sent))

pub fed-open : (a b : Exit) (m₀ m₁ : Moment) (p q : Got) (x y : Told (List ℕ)) (g : List ℕ) (o : Mark) → GoesOut a b m₀ m₁ p q y g o → (a.output ≡ output.Open → x.mark ≡ MayCome)
    → b.output ≡ output.Open → (then_told x y).mark ≡ MayCome
fed-open a b m₀ m₁ p q x y g o (ToOutput e to) was now = still-open a.output b.output g o x y m₀ m₁ to.output to.written was now
fed-open a b m₀ m₁ p q x y g o (ToEdge e on) was now =
    absurd (let f : feeds_edge a.output ≡ false = ap (λ (z : Output). feeds_edge z) (sym on.output ∙ now) in cc)
