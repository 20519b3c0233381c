-- What an operation does to the slots of one record, of any kind, and to what it leaves outside it.
use Rattle.std.proofs.Common.{◌≡◌, ◌∙◌, ◌+◌, ◌≤◌, List, length, Option, Result, refl, ap, arith}
use Rattle.ws_value.specs.declared.ids.PromiseId.{PromiseId}
use Rattle.ws_value.specs.declared.value.Plain.{Plain}
use Rattle.ws_steps.specs.declared.effects.Effect.{Effect}
use Rattle.ws_steps.specs.declared.promises.Micro.{Micro}
use Rattle.ws_steps.specs.Effects.{Out, cause_all, settling}
use Rattle.ws_steps.specs.Promises.{Entry, Table, next_id, fresh, queue_micro}
use Rattle.ws_alike.specs.Named.{one, in_effects, in_effect}
use Rattle.ws_alike.specs.Blind.{Kind, LeavesAlone, changed, outside, view_of}
use Rattle.ws_alike.proofs.Tables.{length-settle, length-fresh, fresh-blind, next-blind, micro-blind}
use Rattle.ws_alike.proofs.Names.{in_table-fresh, in_table-micro, in_table-settle}
use Rattle.ws_alike.proofs.Steps.{Fits, then-blind, settling-alone, next-apart}
use Rattle.ws_alike.proofs.Lists.{all-append}

-- what is put together is found again
pub record Lawful (A S : Type 0) (kind : Kind A S) : Type 0 where
  pub put_slots : (s : S) (out : Out) → kind.slots (kind.put s out) ≡ s
  pub put_out : (s : S) (out : Out) → kind.out (kind.put s out) ≡ out

-- the slots are written, and what is outside
pub writes : {A S : Type 0} {kind : Kind A S} (law : Lawful A S kind) (p : PromiseId) (h : S → S) (f : Out → Out) (a : A)
    → ((x : Option Entry) → f (changed p x (kind.out a)) ≡ changed p x (f (kind.out a)))
    → kind.names p (h (kind.slots a)) + outside p (f (kind.out a)) ≡ 0
    → length (kind.out a).promises.entries ≤ length (f (kind.out a)).promises.entries
    → LeavesAlone A (view_of kind) p (λ b. kind.put (h (kind.slots b)) (f (kind.out b))) a
writes {kind = kind} law p h f a same none more = record {
  blind = λ x. simp (law.put_slots, law.put_out) (ap (λ out. kind.put (h (kind.slots a)) out) (same x));
  unnamed = simp (law.put_slots, law.put_out) none;
  more = simp (law.put_slots, law.put_out) more;
}

-- the slots alone are written
pub quiet : {A S : Type 0} {kind : Kind A S} (law : Lawful A S kind) (p : PromiseId) (h : S → S) (a : A) → Fits A (view_of kind) p a → kind.names p (h (kind.slots a)) ≤ kind.names p (kind.slots a)
    → LeavesAlone A (view_of kind) p (λ b. kind.put (h (kind.slots b)) (kind.out b)) a
quiet {kind = kind} law p h a fits less = writes law p h (λ out. out) a (λ x. refl) (omega (arith, fits.none, less)) (omega arith)

-- the slots are written, and then
pub after-quiet : {A S : Type 0} {kind : Kind A S} (law : Lawful A S kind) (p : PromiseId) (h : S → S) (g : A → A) (a : A) → Fits A (view_of kind) p a → kind.names p (h (kind.slots a)) ≤ kind.names p (kind.slots a)
    → (Fits A (view_of kind) p (kind.put (h (kind.slots a)) (kind.out a)) → LeavesAlone A (view_of kind) p g (kind.put (h (kind.slots a)) (kind.out a)))
    → LeavesAlone A (view_of kind) p (λ b. g (kind.put (h (kind.slots b)) (kind.out b))) a
after-quiet {kind = kind} law p h g a fits less k = then-blind p (λ b. kind.put (h (kind.slots b)) (kind.out b)) g a (quiet law p h a fits less) k fits

-- effects are caused that don't name p
pub causes : {A S : Type 0} {kind : Kind A S} (law : Lawful A S kind) (p : PromiseId) (es : List Effect) (a : A) → Fits A (view_of kind) p a → in_effects p es ≡ 0
    → LeavesAlone A (view_of kind) p (λ b. kind.put (kind.slots b) (cause_all es (kind.out b))) a
causes {kind = kind} law p es a fits n =
    let app = all-append (in_effect p) (kind.out a).effects es in
    writes law p (λ s. s) (cause_all es) a (λ x. refl) (omega (arith, app, n, fits.none)) (omega arith)

-- a promise other than p is settled
pub settles : {A S : Type 0} {kind : Kind A S} (law : Lawful A S kind) (p q : PromiseId) (o : Result Plain Plain) (a : A) → one p q ≡ 0 → Fits A (view_of kind) p a
    → LeavesAlone A (view_of kind) p (λ b. kind.put (kind.slots b) (settling q o (kind.out b))) a
settles {kind = kind} law p q o a n fits =
    let t = in_table-settle p q o (kind.out a).promises in
    writes law p (λ s. s) (settling q o) a (λ x. settling-alone p q o x (kind.out a) fits.made n) (omega (arith, t, fits.none)) (rw (length-settle q o (kind.out a).promises) (omega arith))

length-micro : (m : Micro) (t : Table) → length t.entries ≤ length (queue_micro m t).entries
unfolding queue_micro
length-micro m t = omega arith

-- a microtask is queued
pub queues : {A S : Type 0} {kind : Kind A S} (law : Lawful A S kind) (p : PromiseId) (m : Micro) (a : A) → Fits A (view_of kind) p a
    → LeavesAlone A (view_of kind) p (λ b. kind.put (kind.slots b) (record (kind.out b) { promises = queue_micro m (kind.out b).promises })) a
queues {kind = kind} law p m a fits =
    let t = in_table-micro p m (kind.out a).promises in
    let f : Out → Out = λ out. record out { promises = queue_micro m out.promises } in
    writes law p (λ s. s) f a (λ x. ap (λ (t : Table). record (kind.out a) { promises = t }) (micro-blind p m x (kind.out a).promises fits.made)) (omega (arith, t, fits.none)) (length-micro m (kind.out a).promises)

-- something is done with a new promise
abbrev pub made : {A S : Type 0} → Kind A S → A → A
made kind a = kind.put (kind.slots a) (record (kind.out a) { promises = fresh (kind.out a).promises })

made-alone : {A S : Type 0} {kind : Kind A S} (law : Lawful A S kind) (p : PromiseId) (a : A) → Fits A (view_of kind) p a → LeavesAlone A (view_of kind) p (made kind) a
made-alone {kind = kind} law p a fits =
    let l = length-fresh (kind.out a).promises in
    let n = in_table-fresh p (kind.out a).promises in
    let f : Out → Out = λ out. record out { promises = fresh out.promises } in
    writes law p (λ s. s) f a (λ x. ap (λ (t : Table). record (kind.out a) { promises = t }) (fresh-blind p x (kind.out a).promises fits.made)) (omega (arith, n, fits.none)) (omega (arith, l))

pub freshly : {A S : Type 0} {kind : Kind A S} (law : Lawful A S kind) (p : PromiseId) (op : PromiseId → A → A) (a : A) → Fits A (view_of kind) p a
    → ((q : PromiseId) → one p q ≡ 0 → Fits A (view_of kind) p (made kind a) → LeavesAlone A (view_of kind) p (op q) (made kind a))
    → LeavesAlone A (view_of kind) p (λ b. op (next_id (kind.out b).promises) (made kind b)) a
freshly {A = A} {kind = kind} law p op a fits k =
    let q : PromiseId = next_id (kind.out a).promises in
    let new = made-alone law p a fits in
    let m = k q (next-apart p (kind.out a).promises fits.made) (record { made = omega (arith, fits.made, new.more); none = new.unnamed }) in
    let change : Option Entry → A → A = (view_of kind).change p in
    let next : (x : Option Entry) → next_id (kind.out (change x a)).promises ≡ q = λ x. ap (λ (out : Out). next_id out.promises) (law.put_out (kind.slots a) (changed p x (kind.out a))) ∙ next-blind p x (kind.out a).promises in
    record {
      blind = λ x. ap (λ n. op n (made kind (change x a))) (next x) ∙ (ap (op q) (new.blind x) ∙ m.blind x);
      unnamed = m.unnamed;
      more = omega (arith, new.more, m.more);
    }
