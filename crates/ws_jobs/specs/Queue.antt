-- How short forms, and the jobs that stand whole, stand for the queue of jobs.
use Rattle.std.specs.Prelude.{ℕ, ◌+◌, List, [], ◌∷◌, Option, Some, None}
use Rattle.ws_value.specs.declared.ids.PromiseId.{PromiseId}
use Rattle.ws_steps.specs.declared.promises.Job.{Job}
use Rattle.ws_alike.specs.Named.{in_job}
use Rattle.ws_jobs.specs.declared.short.Short.{Short}
use Rattle.ws_jobs.specs.Shorts.{job_in}

-- a job before those of a queue without its first: where there is no short form, it is the first of those that stand whole
abbrev pub jobs_after : Option Job → (List Job → List Job) → List Job → List Job
jobs_after (Some job) rest os = job ∷ rest os
jobs_after None rest [] = rest []
jobs_after None rest (o ∷ os) = o ∷ rest os

abbrev pub jobs_of : List Short → List Job → List Job
jobs_of [] os = []
jobs_of (s ∷ ss) os = jobs_after (job_in s) (jobs_of ss) os

-- 1 where it stands whole
abbrev pub one_where_whole : Option Job → ℕ
one_where_whole None = 1
one_where_whole (Some job) = 0

abbrev pub wholes : List Short → ℕ
wholes [] = 0
wholes (s ∷ ss) = one_where_whole (job_in s) + wholes ss

-- how often a promise is named by the job of a short form
abbrev pub in_maybe : PromiseId → Option Job → ℕ
in_maybe p None = 0
in_maybe p (Some job) = in_job p job

abbrev pub in_short : PromiseId → Short → ℕ
in_short p s = in_maybe p (job_in s)
