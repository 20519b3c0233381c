-- The stage at a place, and what becomes of the list as it is asked.
use Rattle.std.proofs.Common.{◌≡◌, ◌+◌, ◌-◌, ◌*◌, ◌<◌, ℕ, zero, suc, List, [], ◌∷◌, ◌++◌, length, take, drop, Some, None, Bool, true, false, refl, sym, ap, subst, ◌∙◌, arith}
use Rattle.std.specs.Prelude.{slice_get, slice_set, get_or, Result, Ok, Err, IfOk, OnOk, OnErr}
use Rattle.std.specs.Vec.{with_item}
use Rattle.std.specs.declared.vec.Vec.{Vec}
use Rattle.std.proofs.Math.Nat.{ℕ_set}
use Rattle.std.proofs.Math.ListN.{length-set}
use Rattle.std.proofs.lemmas.List.{set-get_or}
use Rattle.std.proofs.lemmas.Option.{slice_get_read}
use Rattle.ws_value.specs.declared.ids.HostId.{HostId}
use Rattle.ws_value.specs.declared.ids.StreamId.{StreamId}
use Rattle.ws_value.specs.declared.memory.NoMemory.{NoMemory}
use Rattle.ws_flow.specs.declared.plan.Ending.TheVariants.{Fine}
use Rattle.ws_flow.specs.Stages.{machine}
use Rattle.ws_stages.specs.declared.work.Pushed.{Pushed}
use Rattle.ws_stages.specs.Answers.{Answers as StageAnswers, Flushed}
use Rattle.ws_stages.specs.State.{State, IsLive, is_live, kept_in}
use Rattle.ws_flow.specs.Parts.{AtWork, Live, Over}
use Rattle.ws_chain_laws.specs.Chain.{source_of}
use Rattle.ws_node.specs.declared.node.Entrance.{Entrance}
use Rattle.ws_node.specs.declared.node.Node.{Node}
use Rattle.ws_node.specs.Moves.{IsAt, NoneThere, HasStages, had_behind, PutsOut, Transforms, PushedOne, NoRoomToPush, Flushes, FlushedOne, NoRoomToFlush}

parted : {A : Type 0} (xs : List A) (n : ℕ) (x : A) → slice_get xs n ≡ Some x → xs ≡ take n xs ++ x ∷ drop (suc n) xs
parted [] n x e = absurd (cc)
parted (y ∷ xs) zero x e = cc
parted (y ∷ xs) (suc n) x e = ap (λ q. y ∷ q) (parted xs n x e)

many-before : {A : Type 0} (xs : List A) (n : ℕ) (x : A) → slice_get xs n ≡ Some x → length (take n xs) ≡ n
many-before [] n x e = absurd (cc)
many-before (y ∷ xs) zero x e = refl
many-before (y ∷ xs) (suc n) x e = ap suc (many-before xs n x e)

pub set-parted : {A : Type 0} (xs : List A) (n : ℕ) (x y : A) → slice_get xs n ≡ Some x → slice_set xs n y ≡ take n xs ++ y ∷ drop (suc n) xs
set-parted [] n x y e = absurd (cc)
set-parted (z ∷ xs) zero x y e = refl
set-parted (z ∷ xs) (suc n) x y e = ap (λ q. z ∷ q) (set-parted xs n x y e)

pub at-place : (i : StreamId) (stages : List State) (n : ℕ) (w : State) → i ≡ source_of (suc n) → slice_get stages n ≡ Some w
    → IsAt i stages (take n stages) w (drop (suc n) stages)
at-place i stages n w e f = record { whole = parted stages n w f; place = e ∙ ap (λ k. source_of (suc k)) (sym (many-before stages n w f)) }

-- no stage is at another place
seam : {A : Type 0} (xs ys : List A) (x : A) → slice_get (xs ++ x ∷ ys) (length xs) ≡ Some x
seam [] ys x = refl
seam (y ∷ xs) ys x = seam xs ys x

one-place : (i : StreamId) (m n : ℕ) → i ≡ source_of (suc m) → i ≡ source_of (suc n) → m ≡ n
one-place i m n e f = let g : 2 * suc m ≡ 2 * suc n = ap (λ (j : StreamId). j.0) (sym e ∙ f) in omega arith

pub none-there : (i : StreamId) (stages : List State) (n : ℕ) → i ≡ source_of (suc n) → slice_get stages n ≡ None → NoneThere i stages
none-there i stages n e f = λ before after w at.
    let g : length before ≡ n = one-place i (length before) n at.place e in
    let h : slice_get stages n ≡ Some w = subst (λ (k : ℕ). slice_get stages k ≡ Some w) g (ap (λ (q : List State). slice_get q (length before)) at.whole ∙ seam before after w) in
    cc

pub none-numbered : (i : StreamId) (stages : List State) → ((k : ℕ) → i ≡ source_of (suc k) → ⊥) → NoneThere i stages
none-numbered i stages h = λ before after w at. h (length before) at.place

-- the first stage has no other before it

pub had-first : (stages : List State) (n count : ℕ) (a : Node) → n ≡ 0 → had_behind (take n stages) count a ≡ record a { entrance = record a.entrance { ahead = a.entrance.ahead - count } }
had-first stages n count a e = ap (λ (k : ℕ). had_behind (take k stages) count a) e

pub had-later : (stages : List State) (n count : ℕ) (w : State) (a : Node) → (n ≡ 0 → ⊥) → slice_get stages n ≡ Some w → had_behind (take n stages) count a ≡ a
had-later [] n count w a e f = absurd (cc)
had-later (x ∷ xs) zero count w a e f = absurd (e refl)
had-later (x ∷ xs) (suc n) count w a e f = refl

pub live-so : (w : AtWork) (t : Bool) → t ≡ is_live w → t ≡ true → IsLive w
live-so (Live k) t e f = tt
live-so (Over ending) t e f = absurd (cc)

pub live-not : (w : AtWork) (t : Bool) → t ≡ is_live w → t ≡ false → IsLive w → ⊥
live-not (Live k) t e f = absurd (cc)
live-not (Over ending) t e f = λ h. h

-- by an index that is within
slice_of : {A : Type 0} (xs : List A) (n : ℕ) (x : A) → n < length xs → x ≡ get_or xs n x → slice_get xs n ≡ Some x
slice_of xs n x within e = slice_get_read xs (length xs) n x refl within e

pub at-item : (i : StreamId) (stages : List State) (n : ℕ) (w : State) → i ≡ source_of (suc n) → n < length stages → w ≡ get_or stages n w
    → IsAt i stages (take n stages) w (drop (suc n) stages)
at-item i stages n w e within same = at-place i stages n w e (slice_of stages n w within same)

pub at-first : (i : StreamId) (stages : List State) (n : ℕ) (w : State) → i ≡ source_of (suc n) → n ≡ 0 → n < length stages → w ≡ get_or stages n w
    → IsAt i stages [] w (drop 1 stages)
at-first i stages n w e none within same = subst (λ (k : ℕ). IsAt i stages (take k stages) w (drop (suc k) stages)) none (at-item i stages n w e within same)

-- a list with one of its own elements put in its place is that list
same-vec : {X Z : Type 0} (v : Vec X Z) (i : ℕ) (w : X) → slice_set v.items i w ≡ v.items → with_item v i w ≡ v
same-vec v i w e =
    subst (λ ys. (l : v.len ≡ length ys) → record { ptr = v.ptr; len = v.len; cap = v.cap; alloc = v.alloc; items = ys; ok = (l, v.ok.1); small = v.small } ≡ v) (sym e)
    (λ l. ap (λ (q : v.len ≡ length v.items). record { ptr = v.ptr; len = v.len; cap = v.cap; alloc = v.alloc; items = v.items; ok = (q, v.ok.1); small = v.small }) (ℕ_set v.len (length v.items) l v.ok.0))
    (v.ok.0 ∙ sym (length-set v.items i w))

-- how much a node is ahead, once the stage of this number had so many bytes
pub data Had (n count : ℕ) (before now : Entrance) : Type 0 where
  FirstHad : n ≡ 0 → now ≡ record before { ahead = before.ahead - count } → Had n count before now
  OtherHad : (n ≡ 0 → ⊥) → now ≡ before → Had n count before now

pub had-is : (stages : List State) (n count : ℕ) (e : Entrance) (a : Node) → n < length stages → Had n count a.entrance e → record a { entrance = e } ≡ had_behind (take n stages) count a
had-is stages n count e a within (FirstHad z f) = ap (λ (m : Entrance). record a { entrance = m }) f ∙ sym (had-first stages n count a z)
had-is [] n count e a within (OtherHad z f) = absurd (omega arith)
had-is (x ∷ xs) zero count e a within (OtherHad z f) = absurd (z refl)
had-is (x ∷ xs) (suc n) count e a within (OtherHad z f) = ap (λ (m : Entrance). record a { entrance = m }) f

-- what became of a stage that was asked

module _ (a : Node) (n : ℕ) (w v : State) (within : n < length a.core.stages.items) (same : w ≡ get_or a.core.stages.items n w) where
  pub has-pushed : (count : ℕ) (e : Entrance) → Had n count a.entrance e
      → HasStages (take n a.core.stages.items ++ v ∷ drop (suc n) a.core.stages.items) (had_behind (take n a.core.stages.items) count a) (record a { core = record a.core { stages = with_item a.core.stages n v }; entrance = e })
  has-pushed count e had =
      record {
        is = ap (λ (m : Node). record m { core = record m.core { stages = with_item a.core.stages n v } }) (had-is a.core.stages.items n count e a within had);
        items = set-parted a.core.stages.items n w v (slice_of a.core.stages.items n w within same);
      }

  pub has-flushed : HasStages (take n a.core.stages.items ++ v ∷ drop (suc n) a.core.stages.items) a (record a { core = record a.core { stages = with_item a.core.stages n v } })
  has-flushed = record { is = refl; items = set-parted a.core.stages.items n w v (slice_of a.core.stages.items n w within same) }

-- one that wasn't stays
pub unasked : (a : Node) (n : ℕ) (w : State) → w ≡ get_or a.core.stages.items n w → record a { core = record a.core { stages = with_item a.core.stages n w } } ≡ a
unasked a n w same = ap (λ s. record a { core = record a.core { stages = s } }) (same-vec a.core.stages n w (ap (slice_set a.core.stages.items n) same ∙ set-get_or a.core.stages.items n w))

pub pushed-by : (id : HostId) (i : StreamId) (piece : List ℕ) (a b c : Node) (before after : List State) (w v : State) (r : Result Pushed NoMemory) → IsAt i a.core.stages.items before w after → IsLive w.work
    → IfOk r (λ p. StageAnswers p v.work ((machine w.stage).push (kept_in w.work) piece)) → OnErr r (v.work ≡ Over Fine) → v.stage ≡ w.stage → OnOk r (v.pushes ≡ w.pushes + 1)
    → HasStages (before ++ v ∷ after) (had_behind before (length piece) a) c → PutsOut id i r c b → Transforms id i piece a b
pushed-by id i piece a b c before after w v (Ok p) at live answers wanting stage count has puts = PushedOne before after w v p at live answers stage count c has puts
pushed-by id i piece a b c before after w v (Err e) at live answers wanting stage count has puts = NoRoomToPush before after w v at live stage wanting c has puts

pub flushed-by : (id : HostId) (i : StreamId) (a b c : Node) (before after : List State) (w v : State) (r : Result Pushed NoMemory) → IsAt i a.core.stages.items before w after → IsLive w.work
    → IfOk r (λ p. Flushed p v.work ((machine w.stage).flush (kept_in w.work))) → OnErr r (v.work ≡ Over Fine) → v.stage ≡ w.stage → v.pushes ≡ w.pushes
    → HasStages (before ++ v ∷ after) a c → PutsOut id i r c b → Flushes id i a b
flushed-by id i a b c before after w v (Ok p) at live answers wanting stage count has puts = FlushedOne before after w v p at live answers stage count c has puts
flushed-by id i a b c before after w v (Err e) at live answers wanting stage count has puts = NoRoomToFlush before after w v at live stage wanting c has puts
