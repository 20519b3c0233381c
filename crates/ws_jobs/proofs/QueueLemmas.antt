-- How the queue changes with its short forms and with the jobs that stand whole.
use Rattle.std.proofs.Common.{◌≡◌, ◌∙◌, ℕ, ◌+◌, ◌≤◌, suc, List, [], ◌∷◌, ◌++◌, length, drop, Option, Some, None, refl, sym, ap, arith}
use Rattle.std.specs.Prelude.{IsSome, slice_get}
use Rattle.ws_steps.specs.declared.promises.Job.{Job}
use Rattle.ws_jobs.specs.declared.short.Short.{Short}
use Rattle.ws_jobs.specs.declared.short.Short.TheVariants.{Whole, Pulled, Wrote, PipeReady, PipeWrote, Changed, Transformed, Adopt, PipeWrite, Follow}
use Rattle.ws_jobs.specs.Shorts.{job_in}
use Rattle.ws_jobs.specs.Queue.{jobs_after, jobs_of, one_where_whole, wholes}

after-same : (o : Option Job) (f g : List Job → List Job) (os : List Job) (j : Job) → ((xs : List Job) → f xs ≡ g xs ++ j ∷ []) → jobs_after o f os ≡ jobs_after o g os ++ j ∷ []
after-same (Some k) f g os j h = ap (λ xs. k ∷ xs) (h os)
after-same None f g [] j h = h []
after-same None f g (o ∷ os) j h = ap (λ xs. o ∷ xs) (h os)

-- a short form at the end
pub jobs-short : (ss : List Short) (os : List Job) (s : Short) (j : Job) → job_in s ≡ Some j → jobs_of (ss ++ s ∷ []) os ≡ jobs_of ss os ++ j ∷ []
jobs-short [] os s j e = rw e refl
jobs-short (x ∷ ss) os s j e = after-same (job_in x) (jobs_of (ss ++ s ∷ [])) (jobs_of ss) os j (λ xs. jobs-short ss xs s j e)

after-whole : (o : Option Job) (f g : List Job → List Job) (n : ℕ) (os : List Job) (j : Job) → one_where_whole o + n ≡ length os → ((xs : List Job) → n ≡ length xs → f (xs ++ j ∷ []) ≡ g xs ++ j ∷ []) → jobs_after o f (os ++ j ∷ []) ≡ jobs_after o g os ++ j ∷ []
after-whole (Some k) f g n os j e h = ap (λ xs. k ∷ xs) (h os (omega (arith, e)))
after-whole None f g n [] j e h = absurd (omega (arith, e))
after-whole None f g n (o ∷ os) j e h = ap (λ xs. o ∷ xs) (h os (omega (arith, e)))

-- a job at the end that stands whole
pub jobs-whole : (ss : List Short) (os : List Job) (s : Short) (j : Job) → wholes ss ≡ length os → job_in s ≡ None → jobs_of (ss ++ s ∷ []) (os ++ j ∷ []) ≡ jobs_of ss os ++ j ∷ []
jobs-whole [] [] s j w e = rw e refl
jobs-whole [] (o ∷ os) s j w e = absurd (omega (arith, w))
jobs-whole (x ∷ ss) os s j w e = after-whole (job_in x) (jobs_of (ss ++ s ∷ [])) (jobs_of ss) (wholes ss) os j w (λ xs v. jobs-whole ss xs s j v e)

pub wholes-end : (ss : List Short) (s : Short) → wholes (ss ++ s ∷ []) ≡ wholes ss + one_where_whole (job_in s)
wholes-end [] s = omega arith
wholes-end (x ∷ ss) s = let rest = wholes-end ss s in omega (arith, rest)

one-most : (o : Option Job) → one_where_whole o ≤ 1
one-most None = omega arith
one-most (Some j) = omega arith

pub wholes-most : (ss : List Short) → wholes ss ≤ length ss
wholes-most [] = omega arith
wholes-most (x ∷ ss) = let rest = wholes-most ss in let one = one-most (job_in x) in omega (arith, rest, one)

length-after : (o : Option Job) (f : List Job → List Job) (n m : ℕ) (os : List Job) → one_where_whole o + n ≡ length os → ((xs : List Job) → n ≡ length xs → length (f xs) ≡ m) → length (jobs_after o f os) ≡ suc m
length-after (Some k) f n m os e h = ap suc (h os (omega (arith, e)))
length-after None f n m [] e h = absurd (omega (arith, e))
length-after None f n m (o ∷ os) e h = ap suc (h os (omega (arith, e)))

-- there are as many jobs as short forms
pub length-jobs : (ss : List Short) (os : List Job) → wholes ss ≡ length os → length (jobs_of ss os) ≡ length ss
length-jobs [] os e = refl
length-jobs (x ∷ ss) os e = length-after (job_in x) (jobs_of ss) (wholes ss) (length ss) os e (λ xs v. length-jobs ss xs v)

-- what is shown, where these are the short forms

pub shown-length : (ss : List Short) (os js : List Job) → wholes ss ≡ length os → jobs_of ss os ≡ js → length js ≡ length ss
shown-length ss os js w e = sym (ap length e) ∙ length-jobs ss os w

none-first : (ss : List Short) (os : List Job) → slice_get ss 0 ≡ None → slice_get (jobs_of ss os) 0 ≡ None
none-first [] os e = refl
none-first (s ∷ ss) os e = cc

pub first-none : (ss : List Short) (os js : List Job) → jobs_of ss os ≡ js → slice_get ss 0 ≡ None → slice_get js 0 ≡ None
first-none ss os js e g = rw (← e) (none-first ss os g)

short-first : (ss : List Short) (os : List Job) (s : Short) (j : Job) → slice_get ss 0 ≡ Some s → job_in s ≡ Some j → slice_get (jobs_of ss os) 0 ≡ Some j
short-first [] os s j g e = cc
short-first (x ∷ ss) os s j g e = let is : x ≡ s = cc in rw (is, e) refl

pub first-short : (ss : List Short) (os js : List Job) (s : Short) (j : Job) → jobs_of ss os ≡ js → slice_get ss 0 ≡ Some s → job_in s ≡ Some j → slice_get js 0 ≡ Some j
first-short ss os js s j e g i = rw (← e) (short-first ss os s j g i)

whole-after : (o : Option Job) (f : List Job → List Job) (n : ℕ) (os : List Job) → one_where_whole o + n ≡ length os → o ≡ None → slice_get (jobs_after o f os) 0 ≡ slice_get os 0
whole-after (Some k) f n os w e = cc
whole-after None f n [] w e = absurd (omega (arith, w))
whole-after None f n (o ∷ os) w e = refl

whole-first : (ss : List Short) (os : List Job) (s : Short) → wholes ss ≡ length os → slice_get ss 0 ≡ Some s → job_in s ≡ None → slice_get (jobs_of ss os) 0 ≡ slice_get os 0
whole-first [] os s w g e = cc
whole-first (x ∷ ss) os s w g e = let is : x ≡ s = cc in whole-after (job_in x) (jobs_of ss) (wholes ss) os w (rw is e)

pub first-whole : (ss : List Short) (os js : List Job) (s : Short) → jobs_of ss os ≡ js → wholes ss ≡ length os → slice_get ss 0 ≡ Some s → job_in s ≡ None → slice_get js 0 ≡ slice_get os 0
first-whole ss os js s e w g i = rw (← e) (whole-first ss os s w g i)

-- the first job is dropped

dropped-short : (ss : List Short) (os : List Job) (s : Short) (j : Job) → slice_get ss 0 ≡ Some s → job_in s ≡ Some j → jobs_of (drop 1 ss) os ≡ drop 1 (jobs_of ss os)
dropped-short [] os s j g e = cc
dropped-short (x ∷ ss) os s j g e = let is : x ≡ s = cc in rw (is, e) refl

pub drop-short : (ss : List Short) (os js : List Job) (s : Short) (j : Job) → jobs_of ss os ≡ js → slice_get ss 0 ≡ Some s → job_in s ≡ Some j → jobs_of (drop 1 ss) os ≡ drop 1 js
drop-short ss os js s j e g i = rw (← e) (dropped-short ss os s j g i)

whole-dropped : (o : Option Job) (f : List Job → List Job) (n : ℕ) (os : List Job) → one_where_whole o + n ≡ length os → o ≡ None → f (drop 1 os) ≡ drop 1 (jobs_after o f os)
whole-dropped (Some k) f n os w e = cc
whole-dropped None f n [] w e = absurd (omega (arith, w))
whole-dropped None f n (o ∷ os) w e = refl

dropped-whole : (ss : List Short) (os : List Job) (s : Short) → wholes ss ≡ length os → slice_get ss 0 ≡ Some s → job_in s ≡ None → jobs_of (drop 1 ss) (drop 1 os) ≡ drop 1 (jobs_of ss os)
dropped-whole [] os s w g e = cc
dropped-whole (x ∷ ss) os s w g e = let is : x ≡ s = cc in whole-dropped (job_in x) (jobs_of ss) (wholes ss) os w (rw is e)

pub drop-whole : (ss : List Short) (os js : List Job) (s : Short) → jobs_of ss os ≡ js → wholes ss ≡ length os → slice_get ss 0 ≡ Some s → job_in s ≡ None → jobs_of (drop 1 ss) (drop 1 os) ≡ drop 1 js
drop-whole ss os js s e w g i = rw (← e) (dropped-whole ss os s w g i)

-- one short form less

pub wholes-drop_short : (ss : List Short) (s : Short) (j : Job) → slice_get ss 0 ≡ Some s → job_in s ≡ Some j → wholes (drop 1 ss) ≡ wholes ss
wholes-drop_short [] s j g e = cc
wholes-drop_short (x ∷ ss) s j g e = let is : x ≡ s = cc in rw (is, e) (omega arith)

pub wholes-drop_whole : (ss : List Short) (s : Short) → slice_get ss 0 ≡ Some s → job_in s ≡ None → wholes (drop 1 ss) + 1 ≡ wholes ss
wholes-drop_whole [] s g e = cc
wholes-drop_whole (x ∷ ss) s g e = let is : x ≡ s = cc in rw (is, e) (omega arith)

-- the invariant, where the first job is dropped

pub drop-short_length : (ss : List Short) → length (drop 1 ss) ≤ length ss
drop-short_length [] = omega arith
drop-short_length (x ∷ ss) = omega arith

pub some-none : (o : Option Job) → IsSome o → one_where_whole o ≡ 0
some-none None h = cc
some-none (Some j) h = refl

pub none-whole : (s : Short) → job_in s ≡ None → s ≡ Whole
none-whole Whole e = refl
none-whole (Pulled i) e = cc
none-whole (Wrote i) e = cc
none-whole (PipeReady n) e = cc
none-whole (PipeWrote n) e = cc
none-whole (Changed t n) e = cc
none-whole (Transformed t n) e = cc
none-whole (Adopt n) e = cc
none-whole (PipeWrite n) e = cc
none-whole (Follow p q) e = cc

pub first-of : (ss : List Short) (os js : List Job) (s : Short) (o : Option Job) → jobs_of ss os ≡ js → slice_get ss 0 ≡ Some s → job_in s ≡ o → (o ≡ None → ⊥) → slice_get js 0 ≡ o
first-of ss os js s None e g i h = absurd (h refl)
first-of ss os js s (Some j) e g i h = first-short ss os js s j e g i
