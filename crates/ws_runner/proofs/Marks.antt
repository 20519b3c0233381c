-- The marks of messages tell what the messages do: their kinds, how many there are of each, and the bytes of the chunks.
use Rattle.std.proofs.Common.{◌≡◌, ◌+◌, ◌≤◌, ℕ, suc, Bool, true, false, List, [], ◌∷◌, ◌++◌, length, take, refl, sym, ap, ◌∙◌, length-append, arith}
use Rattle.std.specs.Prelude.{All, if◌then◌else◌}
use Rattle.std.specs.List.{concat}
use Rattle.std.proofs.Math.Seq.{take-append_seam}
use Rattle.std.proofs.lemmas.List.Elements.{All-head, All-tail}
use Rattle.ws_value.specs.declared.value.Message.{Message}
use Rattle.ws_value.specs.declared.value.Message.TheVariants.{Pull, Chunk, Close, Error}
use Rattle.ws_value.specs.declared.fault.Fault.TheVariants.{TypeError}
use Rattle.ws_value.specs.declared.value.Plain.{Plain}
use Rattle.ws_value.specs.declared.value.Plain.TheVariants.{Fault as FaultReason}
use Rattle.ws_value.specs.declared.value.Value.TheVariants.{Plain as PlainValue, Bytes}
use Rattle.ws_edge.specs.Marks.{mark_of, marks_of}
use Rattle.ws_flow.specs.Rows.{told_by}
use Rattle.ws_flow.specs.Told.{Closed}
use Rattle.ws_steps.specs.PortHistory.{asks_in, chunks_in, ends_last, goes_up}
use Rattle.ws_steps.specs.Queues.{is_empty}
use Rattle.ws_node.specs.Messages.{fairly, is_fair}
use Rattle.ws_node_laws.specs.Asks.{pulls_in}
use Rattle.ws_node_laws.specs.Edges.{goes_down_edge}
use Rattle.ws_runner.specs.Trace as trace

-- how many there are

pub marks-length : (ms : List Message) → length (marks_of ms) ≡ length ms
marks-length [] = refl
marks-length (m ∷ ms) = ap suc (marks-length ms)

pub marks-append : (xs ys : List Message) → marks_of (xs ++ ys) ≡ marks_of xs ++ marks_of ys
marks-append [] ys = refl
marks-append (x ∷ xs) ys = ap (λ q. mark_of x ∷ q) (marks-append xs ys)

-- the marks of a first part are the first marks
pub marks-front : (xs ys : List Message) → take (length xs) (marks_of (xs ++ ys)) ≡ marks_of xs
marks-front xs ys =
    ap (λ n. take n (marks_of (xs ++ ys))) (sym (marks-length xs)) ∙ ap (λ q. take (length (marks_of xs)) q) (marks-append xs ys)
    ∙ take-append_seam (marks_of xs) (marks_of ys)

none-marks : (ms : List Message) → is_empty ms ≡ true → trace.is_none (marks_of ms) ≡ true
none-marks [] e = refl
none-marks (m ∷ ms) e = absurd (cc)

pub down-marks : (ms : List Message) → All (λ m. goes_down_edge m ≡ true) ms → ends_last ms ≡ true → trace.goes_down (marks_of ms) ≡ true
down-marks [] k l = refl
down-marks (Pull ∷ ms) k l = absurd (let h = All-head (λ m. goes_down_edge m ≡ true) Pull ms k in cc)
down-marks (Chunk (PlainValue v) ∷ ms) k l = absurd (let h = All-head (λ m. goes_down_edge m ≡ true) (Chunk (PlainValue v)) ms k in cc)
down-marks (Chunk (Bytes b) ∷ ms) k l = down-marks ms (All-tail (λ m. goes_down_edge m ≡ true) (Chunk (Bytes b)) ms k) l
down-marks (Close ∷ ms) k l = none-marks ms l
down-marks (Error r ∷ ms) k l = none-marks ms l

pub up-marks : (ms : List Message) → All (λ m. goes_up m ≡ true) ms → ends_last ms ≡ true → trace.goes_up (marks_of ms) ≡ true
up-marks [] k l = refl
up-marks (Pull ∷ ms) k l = up-marks ms (All-tail (λ m. goes_up m ≡ true) Pull ms k) l
up-marks (Chunk v ∷ ms) k l = absurd (let h = All-head (λ m. goes_up m ≡ true) (Chunk v) ms k in cc)
up-marks (Close ∷ ms) k l = absurd (let h = All-head (λ m. goes_up m ≡ true) Close ms k in cc)
up-marks (Error r ∷ ms) k l = none-marks ms l

pub chunks-marks : (ms : List Message) → trace.chunks_in (marks_of ms) ≡ length (chunks_in ms)
chunks-marks [] = refl
chunks-marks (Pull ∷ ms) = chunks-marks ms
chunks-marks (Chunk (PlainValue v) ∷ ms) = let h = chunks-marks ms in omega (arith, h)
chunks-marks (Chunk (Bytes b) ∷ ms) = let h = chunks-marks ms in omega (arith, h)
chunks-marks (Close ∷ ms) = chunks-marks ms
chunks-marks (Error r ∷ ms) = chunks-marks ms

pub pulls-marks : (ms : List Message) → trace.pulls_in (marks_of ms) ≡ pulls_in ms
pulls-marks [] = refl
pulls-marks (Pull ∷ ms) = let h = pulls-marks ms in omega (arith, h)
pulls-marks (Chunk (PlainValue v) ∷ ms) = let h = pulls-marks ms in omega (arith, h)
pulls-marks (Chunk (Bytes b) ∷ ms) = let h = pulls-marks ms in omega (arith, h)
pulls-marks (Close ∷ ms) = let h = pulls-marks ms in omega (arith, h)
pulls-marks (Error r ∷ ms) = let h = pulls-marks ms in omega (arith, h)

pub asks-marks : (ms : List Message) → trace.pulls_in (marks_of ms) + trace.errors_in (marks_of ms) ≡ asks_in ms
asks-marks [] = omega arith
asks-marks (Pull ∷ ms) = let h = asks-marks ms in omega (arith, h)
asks-marks (Chunk (PlainValue v) ∷ ms) = let h = asks-marks ms in omega (arith, h)
asks-marks (Chunk (Bytes b) ∷ ms) = let h = asks-marks ms in omega (arith, h)
asks-marks (Close ∷ ms) = let h = asks-marks ms in omega (arith, h)
asks-marks (Error r ∷ ms) = let h = asks-marks ms in omega (arith, h)

-- the bytes of the chunks are those that a row told, where nothing follows its end

none-bytes : (ms : List Message) → is_empty ms ≡ true → trace.bytes_in (marks_of ms) ≡ 0
none-bytes [] e = refl
none-bytes (m ∷ ms) e = absurd (cc)

pub bytes-marks : (ms : List Message) → ends_last ms ≡ true → trace.bytes_in (marks_of ms) ≡ length (concat (told_by ms).items)
bytes-marks [] l = refl
bytes-marks (Pull ∷ ms) l = bytes-marks ms l
bytes-marks (Chunk (PlainValue v) ∷ ms) l = let h = bytes-marks ms l in omega (arith, h)
bytes-marks (Chunk (Bytes b) ∷ ms) l = let h = bytes-marks ms l in let e = length-append b (concat (told_by ms).items) in omega (arith, h, e)
bytes-marks (Close ∷ ms) l = none-bytes ms l
bytes-marks (Error r ∷ ms) l = none-bytes ms l

-- no more than these are told, also where a message is taken for an error

abbrev unfair : Plain
unfair = FaultReason TypeError

fair-chunk : (t : Bool) (b : List ℕ) (r : Plain) (ns : List Message) (k : ℕ) → length (concat (told_by ns).items) ≤ k
    → length (concat (told_by ((if t then Chunk (Bytes b) else Error r) ∷ ns)).items) ≤ length b + k
fair-chunk true b r ns k h = let e = length-append b (concat (told_by ns).items) in omega (arith, e, h)
fair-chunk false b r ns k h = omega arith

fair-error : (t : Bool) (r s : Plain) (ns : List Message) (k : ℕ) → length (concat (told_by ((if t then Error r else Error s) ∷ ns)).items) ≤ k
fair-error true r s ns k = omega arith
fair-error false r s ns k = omega arith

pub bytes-fair : (ms : List Message) → length (concat (told_by (fairly ms)).items) ≤ trace.bytes_in (marks_of ms)
bytes-fair [] = omega arith
bytes-fair (Pull ∷ ms) = bytes-fair ms
bytes-fair (Chunk (PlainValue v) ∷ ms) = omega arith
bytes-fair (Chunk (Bytes b) ∷ ms) = fair-chunk (is_fair (Chunk (Bytes b))) b unfair (fairly ms) (trace.bytes_in (marks_of ms)) (bytes-fair ms)
bytes-fair (Close ∷ ms) = omega arith
bytes-fair (Error r ∷ ms) = fair-error (is_fair (Error r)) r unfair (fairly ms) (trace.bytes_in (marks_of ms))

-- where it ended with a close, so do the marks
pub close-marks : (ms : List Message) → ends_last ms ≡ true → (told_by ms).mark ≡ Closed → trace.ends_with_close (marks_of ms) ≡ true
close-marks [] l c = absurd (cc)
close-marks (Pull ∷ ms) l c = close-marks ms l c
close-marks (Chunk (PlainValue v) ∷ ms) l c = close-marks ms l c
close-marks (Chunk (Bytes b) ∷ ms) l c = close-marks ms l c
close-marks (Close ∷ ms) l c = none-marks ms l
close-marks (Error r ∷ ms) l c = absurd (cc)
