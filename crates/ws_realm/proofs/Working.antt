-- Jobs one after another.
use Rattle.std.proofs.Common.{◌≡◌, ◌≢◌, ◌∙◌, ◌≤◌, ◌+◌, ℕ, Bool, true, false, zero, suc, List, [], ◌∷◌, length, refl, sym, subst, arith}
use Rattle.std.specs.Prelude.{if◌then◌else◌}
use Rattle.ws_steps.specs.declared.calls.Call.{Call}
use Rattle.ws_steps.specs.declared.promises.Job.{Job}
use Rattle.ws_steps.specs.Queues.{is_empty}
use Rattle.ws_steps.specs.Run.{work, task, is_idle, after_call, after_job}
use Rattle.ws_steps.specs.Slots.{Slots}
use Rattle.ws_laws.proofs.Ages.{called-age, worked-age}
use Rattle.ws_laws.proofs.Tables.{either}

none-queued : (js : List Job) → length js ≡ 0 → is_empty js ≡ true
none-queued [] none = refl
none-queued (job ∷ jobs) none = absurd (omega arith)

some-queued : (js : List Job) → length js ≢ 0 → is_empty js ≡ false
some-queued [] some = absurd (some refl)
some-queued (job ∷ jobs) some = refl

pub is-idle : (s : Slots) → length s.promises.jobs ≡ 0 → is_idle s ≡ true
is-idle s none = none-queued s.promises.jobs none

pub is-busy : (s : Slots) → length s.promises.jobs ≢ 0 → is_idle s ≡ false
is-busy s some = some-queued s.promises.jobs some

-- where no job is queued, none is performed
pub work-idle : (n : ℕ) (s : Slots) → is_idle s ≡ true → work n s ≡ s
work-idle zero s idle = refl
work-idle (suc n) s idle = rw idle refl

-- where one is queued, it is performed, and then the others
pub work-job : (m n : ℕ) (s z : Slots) → m ≡ suc n → is_idle s ≡ false → z ≡ (if is_idle s then s else after_job s) → work m s ≡ work n z
work-job m n s z one busy left = rw (one, left, busy) refl

more-by : (idle : Bool) (n : ℕ) (s z x : Slots) → is_idle s ≡ idle → z ≡ work (suc n) s → is_idle z ≡ false
    → (z ≡ work n (after_job s) → x ≡ work (suc n) (after_job s)) → x ≡ work (suc (suc n)) s
more-by true n s z x is done busy more =
    let same : z ≡ s = done ∙ work-idle (suc n) s is in
    let no : true ≡ false = sym is ∙ (subst (λ y. is_idle y ≡ false) same busy) in
    cc
more-by false n s z x is done busy more = more (done ∙ rw is refl) ∙ rw is refl

-- after so many jobs, one more is performed
pub work-more : (n : ℕ) (s z x : Slots) → z ≡ work n s → is_idle z ≡ false → x ≡ (if is_idle z then z else after_job z) → x ≡ work (suc n) s
work-more zero s z x done busy left = left ∙ rw (done) refl
work-more (suc n) s z x done busy left = more-by (is_idle s) n s z x refl done busy (λ later. work-more n (after_job s) z x later busy left)

-- how old a realm is

pub job-age : (s z : Slots) → is_idle s ≡ false → z ≡ (if is_idle s then s else after_job s) → z.age ≡ s.age + 1
job-age s z busy left = rw (left, busy) (worked-age s)

work-age : (n : ℕ) (s : Slots) → (work n s).age ≤ s.age + n
work-age zero s = omega arith
work-age (suc n) s =
    either (λ (x : Slots). x.age ≤ s.age + suc n) (is_idle s) s (work n (after_job s)) (λ e. omega arith)
    (λ e. let others = work-age n (after_job s) in let older = worked-age s in omega arith)

pub task-age : (n : ℕ) (call : Call) (s : Slots) → (task n call s).age ≤ s.age + 1 + n
task-age n call s = let jobs = work-age n (after_call call s) in let older = called-age call s in omega arith
