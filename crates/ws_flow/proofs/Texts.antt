-- A stage that gives a text for each byte, by the byte's place, and a chunk for each chunk.
use Rattle.std.proofs.Common.{◌≡◌, ℕ, suc, ◌+◌, ◌≤◌, List, [], ◌∷◌, ◌++◌, length, add-zero, refl, sym, ap, ◌∙◌, subst, arith}
use Rattle.std.specs.List.{concat}
use Rattle.ws_flow.specs.declared.plan.Ending.TheVariants.{Fine}
use Rattle.ws_flow.specs.Told.{Mark, Open, Closed, Broken, Lost, Told, told, then_told}
use Rattle.ws_flow.specs.Machines.{Kept, Pushed, mark_of, more, through, or_else, verdict, pushed, nothing_kept, one_byte, each_byte, One, byte_machine, no_more}
use Rattle.ws_flow.proofs.Short.{EachShort}
use Rattle.ws_flow.proofs.Kind.{NeverLate}

-- the step of one byte
abbrev pub text_byte : (ℕ → ℕ → List ℕ) → Kept → ℕ → Pushed
text_byte t k b = pushed (one_byte k) (t k.bytes b ∷ []) Fine

-- `t y b` comes of the byte b at the place y; so `text y` of the bytes from there on, joined, and `texts y` of the chunks
pub record AreTexts (t : ℕ → ℕ → List ℕ) (text : ℕ → List ℕ → List ℕ) (texts : ℕ → List (List ℕ) → List (List ℕ)) : Type 0 where
  pub no_byte : (y : ℕ) → text y [] ≡ []
  pub byte : (y b : ℕ) (bs : List ℕ) → text y (b ∷ bs) ≡ t y b ++ text (y + 1) bs
  pub no_chunk : (y : ℕ) → texts y [] ≡ []
  pub chunk : (y : ℕ) (c : List ℕ) (cs : List (List ℕ)) → texts y (c ∷ cs) ≡ text y c ∷ texts (y + length c) cs

pub text_bytes : {t : ℕ → ℕ → List ℕ} {text : ℕ → List ℕ → List ℕ} {texts : ℕ → List (List ℕ) → List (List ℕ)} → AreTexts t text texts → (rest : List ℕ) (y n : ℕ) (c : List ℕ) →
    (concat (each_byte (text_byte t) (record { rest = rest; bytes = y; chunks = n }) c).chunks ≡ text y c) × ((each_byte (text_byte t) (record { rest = rest; bytes = y; chunks = n }) c).ending ≡ Fine) × ((each_byte (text_byte t) (record { rest = rest; bytes = y; chunks = n }) c).kept ≡ record { rest = rest; bytes = y + length c; chunks = n })
text_bytes {t} {text} {texts} are rest y n [] = (sym (are.no_byte y), refl, ap (λ q. record { rest = rest; bytes = q; chunks = n }) (sym (add-zero y)))
text_bytes {t} {text} {texts} are rest y n (b ∷ c) =
    let r = text_bytes are rest (y + 1) n c in
    (ap (λ q. t y b ++ q) r.0 ∙ sym (are.byte y b c), r.1, r.2 ∙ ap (λ q. record { rest = rest; bytes = q; chunks = n }) (one_on y (length c))) where
      one_on : (y l : ℕ) → y + 1 + l ≡ y + suc l
      one_on y l = omega arith

texts_through : {t : ℕ → ℕ → List ℕ} {text : ℕ → List ℕ → List ℕ} {texts : ℕ → List (List ℕ) → List (List ℕ)} → AreTexts t text texts → (y n : ℕ) (cs : List (List ℕ)) (e : Mark) →
    (more (byte_machine One (text_byte t) no_more) (record { rest = []; bytes = y; chunks = n }) cs e ≡ told (texts y cs) e) × (verdict (byte_machine One (text_byte t) no_more) (record { rest = []; bytes = y; chunks = n }) cs e ≡ Fine)
texts_through {t} {text} {texts} are y n [] Open = (ap (λ q. told q Open) (sym (are.no_chunk y)), refl)
texts_through {t} {text} {texts} are y n [] Closed = (ap (λ q. told q Closed) (sym (are.no_chunk y)), refl)
texts_through {t} {text} {texts} are y n [] Broken = (ap (λ q. told q Broken) (sym (are.no_chunk y)), refl)
texts_through {t} {text} {texts} are y n [] Lost = (ap (λ q. told q Lost) (sym (are.no_chunk y)), refl)
texts_through {t} {text} {texts} are y n (c ∷ cs) e =
    let p = each_byte (text_byte t) (record { rest = []; bytes = y; chunks = n }) c in
    let b = text_bytes are [] y n c in
    let r = texts_through are (y + length c) n cs e in
    let m = byte_machine One (text_byte t) no_more in (
      ap (λ q. then_told (told (concat p.chunks ∷ []) (mark_of q)) (more m p.kept cs e)) b.1
          ∙ ap (λ q. then_told (told (q ∷ []) Open) (more m p.kept cs e)) b.0
          ∙ ap (λ q. then_told (told (text y c ∷ []) Open) (more m q cs e)) b.2
          ∙ ap (λ q. then_told (told (text y c ∷ []) Open) q) r.0
          ∙ ap (λ q. told q e) (sym (are.chunk y c cs)),
      ap (λ q. or_else q (verdict m p.kept cs e)) b.1 ∙ ap (λ q. verdict m q cs e) b.2 ∙ r.1,
    )

-- so these chunks come out, and it is always fine
pub texts_told : {t : ℕ → ℕ → List ℕ} {text : ℕ → List ℕ → List ℕ} {texts : ℕ → List (List ℕ) → List (List ℕ)} → AreTexts t text texts → (x : Told (List ℕ)) →
    (through (byte_machine One (text_byte t) no_more) nothing_kept x ≡ told (texts 0 x.items) x.mark) × (verdict (byte_machine One (text_byte t) no_more) nothing_kept x.items x.mark ≡ Fine)
texts_told are x = texts_through are 0 0 x.items x.mark

pub text_late : {t : ℕ → ℕ → List ℕ} {text : ℕ → List ℕ → List ℕ} {texts : ℕ → List (List ℕ) → List (List ℕ)} → AreTexts t text texts → NeverLate (text_byte t)
text_late are k b code place e = grind arith

-- chunks of at most n bytes give chunks of at most m
pub texts_short : {t : ℕ → ℕ → List ℕ} {text : ℕ → List ℕ → List ℕ} {texts : ℕ → List (List ℕ) → List (List ℕ)} → AreTexts t text texts → (n m : ℕ) →
    ((y : ℕ) (c : List ℕ) → length c ≤ n → length (text y c) ≤ m) → (y : ℕ) (cs : List (List ℕ)) → EachShort n cs → EachShort m (texts y cs)
texts_short {t} {text} {texts} are n m f y [] h = subst (λ q. EachShort m q) (sym (are.no_chunk y)) tt
texts_short {t} {text} {texts} are n m f y (c ∷ cs) (l, h) = subst (λ q. EachShort m q) (sym (are.chunk y c cs)) (f y c l, texts_short are n m f (y + length c) cs h)
