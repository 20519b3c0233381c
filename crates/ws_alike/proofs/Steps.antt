-- One operation after another, by a test, or none: each leaves a promise alone that isn't named.
use Rattle.std.proofs.Common.{◌≡◌, ◌∙◌, ◌<◌, Bool, true, false, if◌then◌else◌, length, Option, Some, Result, refl, ap, arith}
use Rattle.ws_value.specs.declared.ids.PromiseId.{PromiseId}
use Rattle.ws_value.specs.declared.value.Plain.{Plain}
use Rattle.ws_steps.specs.Effects.{Out, settling}
use Rattle.ws_steps.specs.Promises.{Entry, Table, next_id}
use Rattle.ws_alike.specs.Named.{one, in_option}
use Rattle.ws_alike.specs.Blind.{LeavesAlone, View, changed}
use Rattle.ws_alike.proofs.Tables.{apart, settle-blind}

-- p has a number that was given, and isn't named
pub record Fits (A : Type 0) (view : View A) (p : PromiseId) (a : A) : Type 0 where
  pub made : p.0 < view.promises a
  pub none : view.names p a ≡ 0

pub then-blind : {A : Type 0} {view : View A} (p : PromiseId) (f g : A → A) (a : A)
    → LeavesAlone A view p f a → (Fits A view p (f a) → LeavesAlone A view p g (f a)) → Fits A view p a → LeavesAlone A view p (λ b. g (f b)) a
then-blind {view = view} p f g a k after fits =
    let next : Fits _ view p (f a) = record { made = omega (arith, fits.made, k.more); none = k.unnamed } in
    let m = after next in
    record { blind = λ x. ap g (k.blind x) ∙ m.blind x; unnamed = m.unnamed; more = omega (arith, k.more, m.more) }

pub stays : {A : Type 0} {view : View A} (p : PromiseId) (a : A) → Fits A view p a → LeavesAlone A view p (λ b. b) a
stays p a fits = record { blind = λ x. refl; unnamed = fits.none; more = omega arith }

pub by-test : {A : Type 0} {view : View A} (p : PromiseId) (f g : A → A) (c : Bool) (a : A)
    → LeavesAlone A view p f a → LeavesAlone A view p g a → LeavesAlone A view p (λ b. if c then f b else g b) a
by-test p f g true a k m = k
by-test p f g false a k m = m

-- a promise other than p is settled
pub settling-alone : (p q : PromiseId) (o : Result Plain Plain) (x : Option Entry) (out : Out) → p.0 < length out.promises.entries → one p q ≡ 0 → settling q o (changed p x out) ≡ changed p x (settling q o out)
settling-alone p q o x out m n = ap (λ t. record out { promises = t }) (settle-blind p q o (apart p q n) x out.promises m)

-- a new promise isn't p
one-apart : (p q : PromiseId) → p.0 < q.0 → one p q ≡ 0
one-apart p q h = grind (arith, h)

pub next-apart : (p : PromiseId) (t : Table) → p.0 < length t.entries → one p (next_id t) ≡ 0
next-apart p t h = one-apart p (next_id t) h

pub named-none : (p q : PromiseId) (o : Option PromiseId) → o ≡ Some q → in_option p o ≡ one p q
named-none p q o h = ap (in_option p) h
