-- How often the jobs of the queue name a promise.
use Rattle.std.proofs.Common.{◌≡◌, ◌∙◌, ℕ, ◌+◌, suc, zero, Bool, true, false, ◌||◌, nat_lt, List, [], ◌∷◌, drop, length, Option, Some, None, refl, sym, ap, arith}
use Rattle.std.specs.Prelude.{slice_get}
use Rattle.ws_value.specs.declared.ids.PromiseId.{PromiseId}
use Rattle.ws_steps.specs.declared.promises.Job.{Job}
use Rattle.ws_alike.specs.Named.{in_all, in_job, in_jobs}
use Rattle.ws_alike.proofs.Tests.{either}
use Rattle.ws_jobs.specs.declared.short.Short.{Short}
use Rattle.ws_jobs.specs.Shorts.{job_in}
use Rattle.ws_jobs.specs.Queue.{in_maybe, in_short, jobs_after, jobs_of, one_where_whole, wholes}

after-names : (p : PromiseId) (o : Option Job) (f : List Job → List Job) (n m : ℕ) (os : List Job) → one_where_whole o + n ≡ length os
    → ((xs : List Job) → n ≡ length xs → in_jobs p (f xs) ≡ m + in_jobs p xs) → in_jobs p (jobs_after o f os) ≡ (in_maybe p o + m) + in_jobs p os
after-names p (Some k) f n m os e h = let r = h os (omega (arith, e)) in omega (arith, r)
after-names p None f n m [] e h = absurd (omega (arith, e))
after-names p None f n m (o ∷ os) e h = let r = h os (omega (arith, e)) in omega (arith, r)

no-names : (p : PromiseId) (os : List Job) → 0 ≡ length os → 0 ≡ in_jobs p os
no-names p [] e = refl
no-names p (o ∷ os) e = absurd (omega (arith, e))

-- by short forms, and by those that stand whole
jobs-names : (p : PromiseId) (ss : List Short) (os : List Job) → wholes ss ≡ length os → in_jobs p (jobs_of ss os) ≡ in_all (in_short p) ss + in_jobs p os
jobs-names p [] os e = let n = no-names p os e in omega (arith, n)
jobs-names p (s ∷ ss) os e = after-names p (job_in s) (jobs_of ss) (wholes ss) (in_all (in_short p) ss) os e (λ xs w. jobs-names p ss xs w)

pub names-shown : (p : PromiseId) (ss : List Short) (os js : List Job) → jobs_of ss os ≡ js → wholes ss ≡ length os
    → (x y : Bool) → x ≡ nat_lt 0 (in_all (in_short p) ss) → y ≡ nat_lt 0 (in_jobs p os) → (x || y) ≡ nat_lt 0 (in_jobs p js)
names-shown p ss os js e w x y f g =
    rw (f, g) (sym (ap (λ n. nat_lt 0 n) (ap (in_jobs p) (sym e) ∙ jobs-names p ss os w) ∙ either (in_all (in_short p) ss) (in_jobs p os)))

-- looking at one after another

module _ {X : Type 0} where
  all-next : (f : X → ℕ) (i : ℕ) (xs : List X) (x : X) → slice_get xs i ≡ Some x → nat_lt 0 (in_all f (drop i xs)) ≡ (nat_lt 0 (f x) || nat_lt 0 (in_all f (drop (suc i) xs)))
  all-next f i [] x g = cc
  all-next f zero (y ∷ xs) x g =
      let is : y ≡ x = cc in
      either (f y) (in_all f xs) ∙ ap (λ (z : X). nat_lt 0 (f z) || nat_lt 0 (in_all f xs)) is
  all-next f (suc i) (y ∷ xs) x g = all-next f i xs x g

  pub all-drop : (f : X → ℕ) (i : ℕ) (xs : List X) (x : X) → slice_get xs i ≡ Some x → nat_lt 0 (in_all f (drop i xs)) ≡ (nat_lt 0 (f x) || nat_lt 0 (in_all f (drop (i + 1) xs)))
  all-drop f i xs x g =
      let one : suc i ≡ i + 1 = omega arith in
      all-next f i xs x g ∙ ap (λ n. nat_lt 0 (f x) || nat_lt 0 (in_all f (drop n xs))) one

  drop-nil : (i : ℕ) → drop {A = X} i [] ≡ []
  drop-nil zero = refl
  drop-nil (suc i) = refl

  pub all-past : (f : X → ℕ) (i : ℕ) (xs : List X) → slice_get xs i ≡ None → nat_lt 0 (in_all f (drop i xs)) ≡ false
  all-past f i [] g = ap (λ (ys : List X). nat_lt 0 (in_all f ys)) (drop-nil i)
  all-past f zero (y ∷ xs) g = cc
  all-past f (suc i) (y ∷ xs) g = all-past f i xs g
