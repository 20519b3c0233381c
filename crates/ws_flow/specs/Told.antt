-- What was told so far on one way: a list, and whether more may come.
use Rattle.std.specs.Prelude.{◌≡◌, ℕ, List, ◌++◌}
use Rattle.std.specs.List.{concat}

pub data Mark : Type 0 where
  -- more may come
  Open : Mark
  -- it was all, and it ended well
  Closed : Mark
  -- nothing more comes and nothing is missing, but it didn't end well
  Broken : Mark
  -- nothing more comes, and something may be missing
  Lost : Mark

pub record Told (A : Type 0) : Type 0 where
  pub items : List A
  pub mark : Mark

abbrev pub told : {A : Type 0} → List A → Mark → Told A
told xs m = record { items = xs; mark = m }

-- first x, then y: nothing follows what isn't open
abbrev pub goes_on : {A : Type 0} → List A → Mark → Told A → Told A
goes_on xs Open y = record { items = xs ++ y.items; mark = y.mark }
goes_on xs Closed y = record { items = xs; mark = Closed }
goes_on xs Broken y = record { items = xs; mark = Broken }
goes_on xs Lost y = record { items = xs; mark = Lost }

abbrev pub then_told : {A : Type 0} → Told A → Told A → Told A
then_told x y = goes_on x.items x.mark y

-- a first part, which may be all
abbrev pub IsFront : {A : Type 0} → List A → List A → Type 0
IsFront {A} xs ys = (rest : List A) × (ys ≡ xs ++ rest)

-- x is y, or was cut short of it and says so
abbrev pub CutShort : {A : Type 0} → List A → Mark → Told A → Type 0
CutShort xs Open y = (y.items ≡ xs) × (y.mark ≡ Open)
CutShort xs Closed y = (y.items ≡ xs) × (y.mark ≡ Closed)
CutShort xs Broken y = (y.items ≡ xs) × (y.mark ≡ Broken)
CutShort xs Lost y = IsFront xs y.items

abbrev pub IsShortOf : {A : Type 0} → Told A → Told A → Type 0
IsShortOf x y = CutShort x.items x.mark y

-- x was told before y, or instead of it: a first part, and all of it where it closed or broke off
abbrev pub Begins : {A : Type 0} → List A → Mark → Told A → Type 0
Begins xs Closed y = (y.items ≡ xs) × (y.mark ≡ Closed)
Begins xs Broken y = (y.items ≡ xs) × (y.mark ≡ Broken)
Begins xs Open y = IsFront xs y.items
Begins xs Lost y = IsFront xs y.items

abbrev pub IsBefore : {A : Type 0} → Told A → Told A → Type 0
IsBefore x y = Begins x.items x.mark y

-- the bytes that were told
abbrev pub bytes_of : Told (List ℕ) → Told ℕ
bytes_of x = told (concat x.items) x.mark
