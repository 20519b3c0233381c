-- What a stage hands on as one chunk.
use Rattle.std.proofs.Common.{◌≡◌, ℕ, ◌+◌, List, [], ◌∷◌, ◌++◌, length, sym, ap, ◌∙◌}
use Rattle.std.specs.List.{concat}
use Rattle.ws_flow.specs.declared.plan.Ending.{Ending}
use Rattle.ws_flow.specs.declared.plan.Ending.TheVariants.{Fine}
use Rattle.ws_flow.specs.Machines.{Kept, Pushed, pushed, each_byte, byte_push, some_chunk, One, SomeBytes}
use Rattle.ws_flow.proofs.Texts.{AreTexts, text_byte, text_bytes}
use Rattle.ws_stages.specs.declared.cut.Cut.{Cut}
use Rattle.ws_stages.specs.Cuts.{CanTake, handing, kept_of, with_text}

-- where nothing came out before, and all was fine
handing_is : (cut : Cut) (n : ℕ) (chunk text : List ℕ) → CanTake cut n → chunk ≡ text → handing cut n chunk ≡ pushed (record (kept_of cut) { bytes = cut.bytes + n }) (text ∷ []) Fine
handing_is cut n chunk text room e =
    let k = record (kept_of cut) { bytes = cut.bytes + n } in
    ap (λ q. pushed k (q ++ chunk ∷ []) cut.ending) room.chunks ∙ ap (λ q. pushed k (q ∷ []) cut.ending) e ∙ ap (λ q. pushed k (text ∷ []) q) room.fine

-- bytes that were all fine, with what came of them
one_push : (f : Kept → ℕ → Pushed) (k j : Kept) (c text : List ℕ) → (concat (each_byte f k c).chunks ≡ text) × ((each_byte f k c).ending ≡ Fine) × ((each_byte f k c).kept ≡ j) →
    pushed j (text ∷ []) Fine ≡ byte_push One f k c
one_push f k j c text b =
    let p = each_byte f k c in
    ap (λ q. pushed q (text ∷ []) Fine) (sym b.2) ∙ ap (λ t. pushed p.kept (t ∷ []) Fine) (sym b.0) ∙ ap (λ z. pushed p.kept (concat p.chunks ∷ []) z) (sym b.1)

-- a text of each byte
pub texts_push : {t : ℕ → ℕ → List ℕ} {text : ℕ → List ℕ → List ℕ} {texts : ℕ → List (List ℕ) → List (List ℕ)} → AreTexts t text texts → (cut : Cut) (bs chunk : List ℕ) → CanTake cut (length bs) → chunk ≡ text cut.bytes bs →
    handing cut (length bs) chunk ≡ byte_push One (text_byte t) (kept_of cut) bs
texts_push {t} {text} {texts} are cut bs chunk room e =
    handing_is cut (length bs) chunk (text cut.bytes bs) room e
    ∙ one_push (text_byte t) (kept_of cut) (record (kept_of cut) { bytes = cut.bytes + length bs }) bs (text cut.bytes bs) (text_bytes are cut.rest.items cut.bytes cut.count bs)

-- and where they may be bad
pub some_push : (f : Kept → ℕ → Pushed) (k j : Kept) (c text : List ℕ) (e : Ending) → pushed j (text ∷ []) e ≡ with_text [] (each_byte f k c) → pushed j (some_chunk text) e ≡ byte_push SomeBytes f k c
some_push f k j c text e h =
    ap (λ q. pushed j (some_chunk q) e) (text_is text (concat (each_byte f k c).chunks) (ap (λ q. q.chunks) h))
    ∙ ap (λ q. pushed q.kept (some_chunk (concat (each_byte f k c).chunks)) q.ending) h where
      text_is : (a b : List ℕ) → a ∷ [] ≡ b ∷ [] → a ≡ b
      text_is a b h = cc
