-- What stands at a key, by what the library's calls answer.
use Rattle.std.proofs.Common.{◌≡◌, ℕ, ℤ, Bool, true, false, if◌then◌else◌, List, [], ◌∷◌, ◌++◌, Option, Some, None, Result, Ok, Err, refl, sym, ap, ◌∙◌, append_assoc}
use Rattle.std.specs.Prelude.{is_some}
use Rattle.std.proofs.lemmas.Bool.{false≢true, true≢false}
use Rattle.toml.specs.Data.{Data, string, integer, float, boolean, datetime, array, table, Items, item, Members, as_integer as integer_of, as_str as text_of, as_array as array_of, as_table as members_of}
use Rattle.ws_flow.specs.declared.plan.Placed.{Placed}
use Rattle.ws_flow.specs.declared.refusal.Refusal.{Refusal}
use Rattle.ws_flow.specs.declared.refusal.Refusal.TheVariants.{NotToml, WrongKey}
use Rattle.ws_plan.specs.Keys.{as_integer, as_text, as_tables, are_tables, ◌>>=◌}
use Rattle.ws_plan.specs.Reading.{Planned, table_of, placed_of, placed_in, all_placed, unless_refused}
use Rattle.ws_stages.specs.Checks.{answer_of}

pub is_integer : (d : Data) (o : Option ℤ) → o ≡ integer_of d → is_some o ≡ true → as_integer (Some d) ≡ Ok o
is_integer (integer w) o h some = ap Ok (sym h)
is_integer (string s) o h some = absurd (false≢true (sym (ap is_some h) ∙ some))
is_integer (float x) o h some = absurd (false≢true (sym (ap is_some h) ∙ some))
is_integer (boolean b) o h some = absurd (false≢true (sym (ap is_some h) ∙ some))
is_integer (datetime t) o h some = absurd (false≢true (sym (ap is_some h) ∙ some))
is_integer (array ds) o h some = absurd (false≢true (sym (ap is_some h) ∙ some))
is_integer (table ms) o h some = absurd (false≢true (sym (ap is_some h) ∙ some))

pub no_integer : (d : Data) (o : Option ℤ) → o ≡ integer_of d → is_some o ≡ false → as_integer (Some d) ≡ Err WrongKey
no_integer (integer w) o h none = absurd (true≢false (sym (ap is_some h) ∙ none))
no_integer (string s) o h none = refl
no_integer (float x) o h none = refl
no_integer (boolean b) o h none = refl
no_integer (datetime t) o h none = refl
no_integer (array ds) o h none = refl
no_integer (table ms) o h none = refl

pub is_text : (d : Data) (s : List ℕ) → Some s ≡ text_of d → as_text (Some d) ≡ Ok (Some s)
is_text (string w) s h = ap Ok (sym h)
is_text (integer w) s h = cc
is_text (float x) s h = cc
is_text (boolean b) s h = cc
is_text (datetime t) s h = cc
is_text (array ds) s h = cc
is_text (table ms) s h = cc

pub no_text : (d : Data) → None ≡ text_of d → as_text (Some d) ≡ Err WrongKey
no_text (string w) h = cc
no_text (integer w) h = refl
no_text (float x) h = refl
no_text (boolean b) h = refl
no_text (datetime t) h = refl
no_text (array ds) h = refl
no_text (table ms) h = refl

pub is_array : (d : Data) (ds : Items) → Some ds ≡ array_of d → are_tables ds ≡ true → as_tables (Some d) ≡ Ok ds
is_array (array es) ds h are = let same : ds ≡ es = cc in rw (← same, are) refl
is_array (integer w) ds h are = cc
is_array (string s) ds h are = cc
is_array (float x) ds h are = cc
is_array (boolean b) ds h are = cc
is_array (datetime t) ds h are = cc
is_array (table ms) ds h are = cc

pub other_array : (d : Data) (ds : Items) → Some ds ≡ array_of d → are_tables ds ≡ false → as_tables (Some d) ≡ Err WrongKey
other_array (array es) ds h are = let same : ds ≡ es = cc in rw (← same, are) refl
other_array (integer w) ds h are = cc
other_array (string s) ds h are = cc
other_array (float x) ds h are = cc
other_array (boolean b) ds h are = cc
other_array (datetime t) ds h are = cc
other_array (table ms) ds h are = cc

pub no_array : (d : Data) → None ≡ array_of d → as_tables (Some d) ≡ Err WrongKey
no_array (array es) h = cc
no_array (integer w) h = refl
no_array (string s) h = refl
no_array (float x) h = refl
no_array (boolean b) h = refl
no_array (datetime t) h = refl
no_array (table ms) h = refl

pub is_table : (d : Data) (ms : Members) (before : ℤ) → Some ms ≡ members_of d → placed_of before d ≡ placed_in before ms
is_table (table ns) ms before h = let same : ns ≡ ms = cc in ap (placed_in before) same
is_table (array es) ms before h = cc
is_table (integer w) ms before h = cc
is_table (string s) ms before h = cc
is_table (float x) ms before h = cc
is_table (boolean b) ms before h = cc
is_table (datetime t) ms before h = cc

pub no_table : (d : Data) (before : ℤ) → None ≡ members_of d → placed_of before d ≡ Err WrongKey
no_table (table ns) before h = cc
no_table (array es) before h = refl
no_table (integer w) before h = refl
no_table (string s) before h = refl
no_table (float x) before h = refl
no_table (boolean b) before h = refl
no_table (datetime t) before h = refl

-- the stages so far, and those that are left
pub stages_begin : (r : Result (List Placed) Refusal) → r ≡ (r >>= λ ps. Ok ([] ++ ps))
stages_begin (Ok ps) = refl
stages_begin (Err cause) = refl

stages_more : (p : Placed) (done : List Placed) (r : Result (List Placed) Refusal) → ((r >>= λ ps. Ok (p ∷ ps)) >>= λ ps. Ok (done ++ ps)) ≡ (r >>= λ ps. Ok ((done ++ p ∷ []) ++ ps))
stages_more p done (Ok ps) = ap Ok (sym (append_assoc done (p ∷ []) ps))
stages_more p done (Err cause) = refl

pub stages_then : (before : ℤ) (d : Data) (ds : Items) (p : Placed) (done : List Placed) → placed_of before d ≡ Ok p
    → (all_placed before (item d ds) >>= λ ps. Ok (done ++ ps)) ≡ (all_placed p.worker ds >>= λ ps. Ok ((done ++ p ∷ []) ++ ps))
stages_then before d ds p done h = ap (λ (r : Result Placed Refusal). (r >>= λ q. (all_placed q.worker ds >>= λ ps. Ok (q ∷ ps))) >>= λ ps. Ok (done ++ ps)) h ∙ stages_more p done (all_placed p.worker ds)

pub stages_stop : (before : ℤ) (d : Data) (ds : Items) (cause : Refusal) (done : List Placed) → placed_of before d ≡ Err cause
    → (all_placed before (item d ds) >>= λ ps. Ok (done ++ ps)) ≡ Err cause
stages_stop before d ds cause done h = ap (λ (r : Result Placed Refusal). (r >>= λ q. (all_placed q.worker ds >>= λ ps. Ok (q ∷ ps))) >>= λ ps. Ok (done ++ ps)) h

-- the table of a text
pub table_found : (utf8 : Bool) (o : Option Members) (ms : Members) → utf8 ≡ true → o ≡ Some ms → (if utf8 then table_of o else Err NotToml) ≡ Ok ms
table_found true o ms u h = ap table_of h
table_found false o ms u h = cc

pub table_lacking : (utf8 : Bool) (o : Option Members) → (utf8 ≡ true → o ≡ None) → (if utf8 then table_of o else Err NotToml) ≡ Err NotToml
table_lacking true o h = ap table_of (h refl)
table_lacking false o h = refl

-- what a check refuses isn't accepted
pub refused_for : (p : Planned) (o : Option Refusal) (cause : Refusal) → Err cause ≡ answer_of o → unless_refused p o ≡ Err cause
refused_for p None cause h = cc
refused_for p (Some first) cause h = cc
