-- Cutting doesn't matter.
use Rattle.std.proofs.Common.{◌≡◌, ℕ, zero, suc, true, false, ◌&&◌, List, [], ◌∷◌, ◌++◌, refl, sym, ap, ◌∙◌, append_assoc, append-nil}
use Rattle.ws_flow.specs.Machines.{Kept, Pushed, Machine, mark_of, piece, at_end, more, through, or_else, end_verdict, verdict, all_through, ending, pushed, added, each_byte, Packing, AsCut, One, SomeBytes, some_chunk, packed, byte_machine, Form, OfBytes, OfChunks, machine_of}
use Rattle.ws_flow.specs.Plans.{may_see, is_known, sees_known_chunks}
use Rattle.ws_flow.specs.Stages.{form, machines}
use Rattle.ws_flow.specs.Told.{bytes_of, Mark, Open, Closed, Broken, Lost, Told, told, goes_on, then_told}
use Rattle.ws_flow.proofs.Told.{then_assoc}
use Rattle.ws_flow.specs.declared.plan.Ending.TheVariants.{Fine, Bad}
use Rattle.ws_flow.specs.declared.plan.Ending.{Ending}
use Rattle.ws_flow.specs.declared.plan.Stage.{Stage}
use Rattle.std.specs.List.{concat}

pub joined_append : (a b : List (List ℕ)) → concat (a ++ b) ≡ concat a ++ concat b
joined_append [] b = refl
joined_append (c ∷ cs) b = ap (λ q. c ++ q) (joined_append cs b) ∙ sym (append_assoc c (concat cs) (concat b))

bytes_by : (xs : List (List ℕ)) (m : Mark) (y : Told (List ℕ)) → bytes_of (goes_on xs m y) ≡ goes_on (concat xs) m (bytes_of y)
bytes_by xs Open y = ap (λ q. told q y.mark) (joined_append xs y.items)
bytes_by xs Closed y = refl
bytes_by xs Broken y = refl
bytes_by xs Lost y = refl

pub bytes_then : (x y : Told (List ℕ)) → bytes_of (then_told x y) ≡ then_told (bytes_of x) (bytes_of y)
bytes_then x y = bytes_by x.items x.mark y

pub some_joined : (c : List ℕ) → concat (some_chunk c) ≡ c
some_joined [] = refl
some_joined (b ∷ bs) = append-nil (b ∷ bs)

packed_joined : (w : Packing) (cs : List (List ℕ)) → concat (packed w cs) ≡ concat cs
packed_joined AsCut cs = refl
packed_joined One cs = append-nil (concat cs)
packed_joined SomeBytes cs = some_joined (concat cs)

-- the bytes one after another
added_fine : (cs : List (List ℕ)) (ds : List (List ℕ)) (e : Ending) (k : Kept) (r : Pushed) → added (cs ++ ds) e k r ≡ record { kept = (added ds e k r).kept; chunks = cs ++ (added ds e k r).chunks; ending = (added ds e k r).ending }
added_fine cs ds Fine k r = ap (λ q. pushed r.kept q r.ending) (append_assoc cs ds r.chunks)
added_fine cs ds (Bad c p) k r = refl

each_step : (f : Kept → ℕ → Pushed) (cs : List (List ℕ)) (e : Ending) (k : Kept) (q : Pushed) (b : List ℕ) → added cs e k (added q.chunks q.ending q.kept (each_byte f q.kept b)) ≡ added (added cs e k q).chunks (added cs e k q).ending (added cs e k q).kept (each_byte f (added cs e k q).kept b)
each_step f cs Fine k q b = sym (added_fine cs q.chunks q.ending q.kept (each_byte f q.kept b))
each_step f cs (Bad c p) k q b = refl

pub each_append : (f : Kept → ℕ → Pushed) (k : Kept) (a b : List ℕ) → each_byte f k (a ++ b) ≡ added (each_byte f k a).chunks (each_byte f k a).ending (each_byte f k a).kept (each_byte f (each_byte f k a).kept b)
each_append f k [] b = refl
each_append f k (x ∷ a) b =
    ap (λ r. added (f k x).chunks (f k x).ending (f k x).kept r) (each_append f (f k x).kept a b)
    ∙ each_step f (f k x).chunks (f k x).ending (f k x).kept (each_byte f (f k x).kept a) b

-- over all the bytes at once: as cut
whole_cut : (m : Machine) (cs : List (List ℕ)) (a : Ending) (k : Kept) (q : Pushed) (e : Mark) → then_told (told cs (mark_of a)) (then_told (piece q) (at_end m q.kept e)) ≡ then_told (piece (added cs a k q)) (at_end m (added cs a k q).kept e)
whole_cut m cs Fine k q e = sym (then_assoc (told cs Open) (piece q) (at_end m q.kept e))
whole_cut m cs (Bad c p) k q e = refl

at_end_cut : (m : Machine) (k : Kept) (e : Mark) → at_end m k e ≡ then_told (told [] Open) (at_end m k e)
at_end_cut m k e = refl

pub more_cut : (f : Kept → ℕ → Pushed) (g : Kept → Pushed) (k : Kept) (cs : List (List ℕ)) (e : Mark) →
    more (byte_machine AsCut f g) k cs e ≡ then_told (piece (each_byte f k (concat cs))) (at_end (byte_machine AsCut f g) (each_byte f k (concat cs)).kept e)
more_cut f g k [] e = refl
more_cut f g k (c ∷ cs) e =
    let m = byte_machine AsCut f g in
    let p = each_byte f k c in
    ap (λ q. then_told (piece p) q) (more_cut f g p.kept cs e)
    ∙ whole_cut m p.chunks p.ending p.kept (each_byte f p.kept (concat cs)) e
    ∙ ap (λ q. then_told (piece q) (at_end m q.kept e)) (sym (each_append f k c (concat cs)))

-- and however packed, in bytes
abbrev bytes_piece : Pushed → Told ℕ
bytes_piece p = told (concat p.chunks) (mark_of p.ending)

whole_bytes : (m : Machine) (cs : List (List ℕ)) (a : Ending) (k : Kept) (q : Pushed) (e : Mark) → then_told (told (concat cs) (mark_of a)) (then_told (bytes_piece q) (bytes_of (at_end m q.kept e))) ≡ then_told (bytes_piece (added cs a k q)) (bytes_of (at_end m (added cs a k q).kept e))
whole_bytes m cs Fine k q e = sym (then_assoc (told (concat cs) Open) (bytes_piece q) (bytes_of (at_end m q.kept e))) ∙ ap (λ xs. then_told (told xs (mark_of q.ending)) (bytes_of (at_end m q.kept e))) (sym (joined_append cs q.chunks))
whole_bytes m cs (Bad c p) k q e = refl

pub more_bytes : (w : Packing) (f : Kept → ℕ → Pushed) (g : Kept → Pushed) (k : Kept) (cs : List (List ℕ)) (e : Mark) →
    bytes_of (more (byte_machine w f g) k cs e) ≡ then_told (bytes_piece (each_byte f k (concat cs))) (bytes_of (at_end (byte_machine w f g) (each_byte f k (concat cs)).kept e))
more_bytes w f g k [] e = refl
more_bytes w f g k (c ∷ cs) e =
    let m = byte_machine w f g in
    let p = each_byte f k c in
    bytes_then (told (packed w p.chunks) (mark_of p.ending)) (more m p.kept cs e)
    ∙ ap (λ q. then_told (told q (mark_of p.ending)) (bytes_of (more m p.kept cs e))) (packed_joined w p.chunks)
    ∙ ap (λ q. then_told (bytes_piece p) q) (more_bytes w f g p.kept cs e)
    ∙ whole_bytes m p.chunks p.ending p.kept (each_byte f p.kept (concat cs)) e
    ∙ ap (λ q. then_told (bytes_piece q) (bytes_of (at_end m q.kept e))) (sym (each_append f k c (concat cs)))

whole_verdict : (m : Machine) (cs : List (List ℕ)) (a : Ending) (k : Kept) (q : Pushed) (e : Mark) → or_else a (or_else q.ending (end_verdict m q.kept e)) ≡ or_else (added cs a k q).ending (end_verdict m (added cs a k q).kept e)
whole_verdict m cs Fine k q e = refl
whole_verdict m cs (Bad c p) k q e = refl

pub verdict_bytes : (w : Packing) (f : Kept → ℕ → Pushed) (g : Kept → Pushed) (k : Kept) (cs : List (List ℕ)) (e : Mark) →
    verdict (byte_machine w f g) k cs e ≡ or_else (each_byte f k (concat cs)).ending (end_verdict (byte_machine w f g) (each_byte f k (concat cs)).kept e)
verdict_bytes w f g k [] e = refl
verdict_bytes w f g k (c ∷ cs) e =
    let m = byte_machine w f g in
    let p = each_byte f k c in
    ap (λ q. or_else p.ending q) (verdict_bytes w f g p.kept cs e)
    ∙ whole_verdict m p.chunks p.ending p.kept (each_byte f p.kept (concat cs)) e
    ∙ ap (λ q. or_else q.ending (end_verdict m q.kept e)) (sym (each_append f k c (concat cs)))

-- two cuttings of the same bytes
through_cut : (f : Kept → ℕ → Pushed) (g : Kept → Pushed) (k : Kept) (x y : Told (List ℕ)) → bytes_of x ≡ bytes_of y → through (byte_machine AsCut f g) k x ≡ through (byte_machine AsCut f g) k y
through_cut f g k x y h = more_cut f g k x.items x.mark ∙ ap (λ q. then_told (piece (each_byte f k q.items)) (at_end (byte_machine AsCut f g) (each_byte f k q.items).kept q.mark)) h ∙ sym (more_cut f g k y.items y.mark)

through_bytes : (w : Packing) (f : Kept → ℕ → Pushed) (g : Kept → Pushed) (k : Kept) (x y : Told (List ℕ)) → bytes_of x ≡ bytes_of y → bytes_of (through (byte_machine w f g) k x) ≡ bytes_of (through (byte_machine w f g) k y)
through_bytes w f g k x y h = more_bytes w f g k x.items x.mark ∙ ap (λ q. then_told (bytes_piece (each_byte f k q.items)) (bytes_of (at_end (byte_machine w f g) (each_byte f k q.items).kept q.mark))) h ∙ sym (more_bytes w f g k y.items y.mark)

verdict_cut : (w : Packing) (f : Kept → ℕ → Pushed) (g : Kept → Pushed) (k : Kept) (x y : Told (List ℕ)) → bytes_of x ≡ bytes_of y → verdict (byte_machine w f g) k x.items x.mark ≡ verdict (byte_machine w f g) k y.items y.mark
verdict_cut w f g k x y h = verdict_bytes w f g k x.items x.mark ∙ ap (λ q. or_else (each_byte f k q.items).ending (end_verdict (byte_machine w f g) (each_byte f k q.items).kept q.mark)) h ∙ sym (verdict_bytes w f g k y.items y.mark)

-- what is the same for a plan that is allowed: its bytes, its mark and its endings
pub record Same (ms : List Machine) (x y : Told (List ℕ)) : Type 0 where
  pub bytes : bytes_of (all_through ms x) ≡ bytes_of (all_through ms y)
  pub endings : (j : ℕ) → ending ms j x ≡ ending ms j y

same_all : (ms : List Machine) (x y : Told (List ℕ)) → x ≡ y → Same ms x y
same_all ms x y h = record { bytes = ap (λ q. bytes_of (all_through ms q)) h; endings = λ j. ap (λ q. ending ms j q) h }

same_then : (m : Machine) (ms : List Machine) (x y : Told (List ℕ)) → verdict m m.start x.items x.mark ≡ verdict m m.start y.items y.mark → Same ms (through m m.start x) (through m m.start y) → Same (m ∷ ms) x y
same_then m ms x y v r = record { bytes = r.bytes; endings = λ j. each j } where
  each : (j : ℕ) → ending (m ∷ ms) j x ≡ ending (m ∷ ms) j y
  each zero = v
  each (suc i) = r.endings i

cut_stage : (f : Kept → ℕ → Pushed) (g : Kept → Pushed) (ms : List Machine) (x y : Told (List ℕ)) → bytes_of x ≡ bytes_of y → Same (byte_machine AsCut f g ∷ ms) x y
cut_stage f g ms x y h = let m = byte_machine AsCut f g in same_then m ms x y (verdict_cut AsCut f g m.start x y h) (same_all ms (through m m.start x) (through m m.start y) (through_cut f g m.start x y h))

bytes_stage : (w : Packing) (f : Kept → ℕ → Pushed) (g : Kept → Pushed) (ms : List Machine) (x y : Told (List ℕ)) → bytes_of x ≡ bytes_of y → ((u v : Told (List ℕ)) → bytes_of u ≡ bytes_of v → Same ms u v) → Same (byte_machine w f g ∷ ms) x y
bytes_stage w f g ms x y h r = let m = byte_machine w f g in same_then m ms x y (verdict_cut w f g m.start x y h) (r (through m m.start x) (through m m.start y) (through_bytes w f g m.start x y h))

-- Cutting doesn't matter where no stage sees chunks that depend on it.
by_form : (f : Form) (ss : List Stage) (x y : Told (List ℕ)) → (may_see false f && sees_known_chunks (is_known false f) ss) ≡ true → bytes_of x ≡ bytes_of y →
    ((u v : Told (List ℕ)) → sees_known_chunks false ss ≡ true → bytes_of u ≡ bytes_of v → Same (machines ss) u v) → Same (machine_of f ∷ machines ss) x y
by_form (OfBytes AsCut f g) ss x y a h r = cut_stage f g (machines ss) x y h
by_form (OfBytes One f g) ss x y a h r = bytes_stage One f g (machines ss) x y h (λ u v. r u v a)
by_form (OfBytes SomeBytes f g) ss x y a h r = bytes_stage SomeBytes f g (machines ss) x y h (λ u v. r u v a)
by_form (OfChunks f) ss x y a h r = cc

pub same_cut : (ss : List Stage) (x y : Told (List ℕ)) → sees_known_chunks false ss ≡ true → bytes_of x ≡ bytes_of y → Same (machines ss) x y
same_cut [] x y a h = record { bytes = h; endings = λ j. refl }
same_cut (s ∷ ss) x y a h = by_form (form s) ss x y a h (λ u v. same_cut ss u v)
