-- What is shown of each kind of stage; and here of those that give a chunk for each chunk.
use Rattle.std.proofs.Common.{◌≡◌, inl, ℕ, zero, suc, ◌+◌, ◌*◌, ◌/◌, ◌%◌, ◌<◌, ◌≤◌, pos, nat_abs, Bool, true, false, nat_eq, List, [], ◌∷◌, ◌++◌, length, map, get_or, decimal, bit_xor, length-append, refl, sym, ap, ◌∙◌, subst, arith}
use Rattle.std.specs.Prelude.{if◌then◌else◌, codes}
use Rattle.std.specs.List.{concat, All}
use Rattle.std.specs.Fmt.{digits, digits_onto, digit_glyph}
use Rattle.std.proofs.lemmas.List.Elements.{All-head, All-tail}
use Rattle.hex.specs.Hex.{encode_lower, encode_with, lower_digits}
use Rattle.hex.proofs.HexLemmas.{length-encode_with}
use Rattle.ws_flow.specs.declared.plan.Ending.TheVariants.{Fine}
use Rattle.ws_flow.specs.declared.plan.Stage.{Stage}
use Rattle.ws_flow.specs.declared.plan.Stage.TheVariants.{Lines, Fixed, Hex, Unhex, Mask, Number, Frame, Unframe}
use Rattle.ws_flow.specs.Told.{Mark, Open, Closed, Broken, Lost, told, then_told, bytes_of}
use Rattle.ws_flow.specs.Machines.{more, through, verdict, nothing_kept, chunk_machine}
use Rattle.ws_flow.specs.Stages.{hex_byte, masked, each_masked, mask_byte, number_push, each_numbered, framed, frame_push, machine, EachTextReadsBack, EachFrameReadsBack, EachMaskTwiceIsNone, EachPairUndoes}
use Rattle.ws_flow.specs.Plans.{reach}
use Rattle.ws_flow.specs.Laws.{EachOutputIsTold}
use lib.Bits.{xor_self, xor_zero_r, xor_assoc}
use Rattle.ws_flow.proofs.Whole.{each_is_all}
use Rattle.ws_flow.proofs.Short.{EachShort, map_short, through_by}
use Rattle.ws_flow.proofs.Kind.{each_never_late, IsKind}
use Rattle.ws_flow.proofs.Texts.{AreTexts, texts_told, text_late, texts_short}
use Rattle.ws_flow.proofs.Lines.{lines}
use Rattle.ws_flow.proofs.Blocks.{fixed}
use Rattle.ws_flow.proofs.Digits.{unhex, unhex_of_hex}
use Rattle.ws_flow.proofs.Frames.{unframe, unframe_of_frame}

-- `mask`

pub mask_texts : (key : List ℕ) → AreTexts (λ y b. bit_xor b (get_or key (y % length key) 0) ∷ []) (masked key) (each_masked key)
mask_texts key = record { no_byte = λ y. refl; byte = λ y b bs. refl; no_chunk = λ y. refl; chunk = λ y c cs. refl }

-- twice masked is not masked
xor_twice : (b k : ℕ) → bit_xor (bit_xor b k) k ≡ b
xor_twice b k = xor_assoc b k k ∙ ap (λ q. bit_xor b q) (xor_self k) ∙ xor_zero_r b

masked_twice : (key : List ℕ) (place : ℕ) (bs : List ℕ) → masked key place (masked key place bs) ≡ bs
masked_twice key place [] = refl
masked_twice key place (b ∷ bs) =
    ap (λ q. q ∷ masked key (place + 1) (masked key (place + 1) bs)) (xor_twice b (get_or key (place % length key) 0)) ∙ ap (λ q. b ∷ q) (masked_twice key (place + 1) bs)

pub length-masked : (key : List ℕ) (place : ℕ) (bs : List ℕ) → length (masked key place bs) ≡ length bs
length-masked key place [] = refl
length-masked key place (b ∷ bs) = ap suc (length-masked key (place + 1) bs)

pub each_masked_twice : (key : List ℕ) (place : ℕ) (cs : List (List ℕ)) → each_masked key place (each_masked key place cs) ≡ cs
each_masked_twice key place [] = refl
each_masked_twice key place (c ∷ cs) =
    ap (λ q. q ∷ each_masked key (place + length (masked key place c)) (each_masked key (place + length c) cs)) (masked_twice key place c)
    ∙ ap (λ q. c ∷ each_masked key (place + q) (each_masked key (place + length c) cs)) (length-masked key place c)
    ∙ ap (λ q. c ∷ q) (each_masked_twice key (place + length c) cs)

mask : (key : List ℕ) → IsKind (Mask key)
mask key = record {
  told = texts_told (mask_texts key);
  late = each_never_late (mask_byte key) (text_late (mask_texts key));
  fits = λ n l. tt;
  longest = λ n. n;
  short = λ n x r h. through_by (Mask key) (each_masked key 0) n x (texts_told (mask_texts key)) (texts_short (mask_texts key) n n (λ y c l. subst (λ q. q ≤ n) (sym (length-masked key y c)) l) 0 x.items h);
  grows = λ n r. inl (omega arith);
}

masked_text : bytes_of (reach (Mask (1 ∷ 2 ∷ []) ∷ []) (codes "abc") Closed) ≡ told (96 ∷ 96 ∷ 98 ∷ []) Closed
masked_text = refl

-- `hex`

pub hex_texts : AreTexts (λ y b. encode_lower (b ∷ [])) (λ y bs. encode_lower bs) (λ y cs. map encode_lower cs)
unfolding encode_with
hex_texts = record { no_byte = λ y. refl; byte = λ y b bs. refl; no_chunk = λ y. refl; chunk = λ y c cs. refl }

hex : IsKind Hex
hex = record {
  told = texts_told hex_texts;
  late = each_never_late hex_byte (text_late hex_texts);
  fits = λ n l. tt;
  longest = λ n. 2 * n;
  short = λ n x r h. through_by Hex (map encode_lower) (2 * n) x (texts_told hex_texts) (texts_short hex_texts n (2 * n) (λ y c l. let e = length-encode_with lower_digits c in omega arith) 0 x.items h);
  grows = λ n r. omega arith;
}

text_in_hex : bytes_of (reach (Hex ∷ []) (codes "abc") Closed) ≡ told (codes "616263") Closed
unfolding encode_with
text_in_hex = refl

-- `number`

number_through : (y n : ℕ) (cs : List (List ℕ)) (e : Mark) →
    (more (chunk_machine number_push) (record { rest = []; bytes = y; chunks = n }) cs e ≡ told (each_numbered (n + 1) cs) e) × (verdict (chunk_machine number_push) (record { rest = []; bytes = y; chunks = n }) cs e ≡ Fine)
number_through y n [] Open = (refl, refl)
number_through y n [] Closed = (refl, refl)
number_through y n [] Lost = (refl, refl)
number_through y n [] Broken = (refl, refl)
number_through y n (c ∷ cs) e =
    let r = number_through y (n + 1) cs e in
    (ap (λ q. then_told (told ((decimal (n + 1) ++ 32 ∷ c) ∷ []) Open) q) r.0, r.1)

onto_long : (k base : ℕ) (u : Bool) (n : ℕ) (acc : List ℕ) → length (digits_onto k base u n acc) ≤ k + length acc
onto_long zero base u n acc = omega arith
onto_long (suc k) base u n acc = by (nat_eq (n / base) 0) (onto_long k base u (n / base) (digit_glyph u (n % base) ∷ acc)) where
  by : (v : Bool) → length (digits_onto k base u (n / base) (digit_glyph u (n % base) ∷ acc)) ≤ k + suc (length acc) → length (if v then digit_glyph u (n % base) ∷ acc else digits_onto k base u (n / base) (digit_glyph u (n % base) ∷ acc)) ≤ suc k + length acc
  by true h = omega arith
  by false h = omega arith

decimal_short : (n : ℕ) → length (decimal n) ≤ 64
unfolding digits
decimal_short n = let h = onto_long 64 10 false n [] in omega arith

numbered_short : (b n : ℕ) (cs : List (List ℕ)) → EachShort b cs → EachShort (b + 65) (each_numbered n cs)
numbered_short b n [] g = tt
numbered_short b n (c ∷ cs) (l, g) = (let e = length-append (decimal n) (32 ∷ c) in let d = decimal_short n in omega arith, numbered_short b (n + 1) cs g)

number : IsKind Number
number = record {
  told = λ x. number_through 0 0 x.items x.mark;
  late = λ k c code place e. grind arith;
  fits = λ n l. tt;
  longest = λ n. n + 65;
  short = λ n x r h. through_by Number (each_numbered 1) (n + 65) x (λ x. number_through 0 0 x.items x.mark) (numbered_short n 1 x.items h);
  grows = λ n r. inl (omega arith);
}

numbered : bytes_of (reach (Lines (pos 3) ∷ Number ∷ []) (codes "aaa\nend") Closed) ≡ told (codes "1 aaa\n2 end") Closed
unfolding digits
numbered = refl

-- `frame`

frame_through : (y n : ℕ) (cs : List (List ℕ)) (e : Mark) →
    (more (chunk_machine frame_push) (record { rest = []; bytes = y; chunks = n }) cs e ≡ told (map framed cs) e) × (verdict (chunk_machine frame_push) (record { rest = []; bytes = y; chunks = n }) cs e ≡ Fine)
frame_through y n [] Open = (refl, refl)
frame_through y n [] Closed = (refl, refl)
frame_through y n [] Lost = (refl, refl)
frame_through y n [] Broken = (refl, refl)
frame_through y n (c ∷ cs) e =
    let r = frame_through y (n + 1) cs e in
    (ap (λ q. then_told (told (framed c ∷ []) Open) q) r.0, r.1)

frame : IsKind Frame
frame = record {
  told = λ x. frame_through 0 0 x.items x.mark;
  late = λ k c code place e. grind arith;
  fits = λ n l. omega arith;
  longest = λ n. n + 4;
  short = λ n x r h. through_by Frame (map framed) (n + 4) x (λ x. frame_through 0 0 x.items x.mark) (map_short framed n (n + 4) (λ c l. omega arith) x.items h);
  grows = λ n r. inl (omega arith);
}

-- of each

pub kind : (s : Stage) → IsKind s
kind (Lines most) = lines most
kind (Fixed n) = fixed n
kind Hex = hex
kind Unhex = unhex
kind (Mask key) = mask key
kind Number = number
kind Frame = frame
kind (Unframe most) = unframe most

pub outputs_told : EachOutputIsTold
outputs_told s = (kind s).told

-- those that undo another

text_reads_back : EachTextReadsBack
text_reads_back x h =
    let e = hex.told x in
    let r = unhex_of_hex x.items x.mark (each_is_all (λ b. b < 256) (concat x.items) h) in
    (ap (λ q. bytes_of (through (machine Unhex) nothing_kept q)) e.0 ∙ r.0, ap (λ q. verdict (machine Unhex) nothing_kept q.items q.mark) e.0 ∙ r.1)

each_short : (most : ℕ) (cs : List (List ℕ)) → All (λ c. length c ≤ most) cs → EachShort most cs
each_short most [] h = tt
each_short most (c ∷ cs) h = (All-head (λ c. length c ≤ most) c cs h, each_short most cs (All-tail (λ c. length c ≤ most) c cs h))

frame_reads_back : EachFrameReadsBack
frame_reads_back most x w h =
    let e = frame.told x in
    let r = unframe_of_frame (nat_abs most) x.items x.mark w (each_short (nat_abs most) x.items h) in
    (ap (λ q. through (machine (Unframe most)) nothing_kept q) e.0 ∙ r.0, ap (λ q. verdict (machine (Unframe most)) nothing_kept q.items q.mark) e.0 ∙ r.1)

mask_twice : EachMaskTwiceIsNone
mask_twice key x =
    ap (λ q. through (machine (Mask key)) nothing_kept q) ((mask key).told x).0 ∙ ((mask key).told (told (each_masked key 0 x.items) x.mark)).0 ∙ ap (λ q. told q x.mark) (each_masked_twice key 0 x.items)

pub pairs_undo : EachPairUndoes
pairs_undo = record { unhex = text_reads_back; unframe = frame_reads_back; mask = mask_twice }
