-- Messages as they go down an edge between nodes of a run: each is taken as it stands.
use Rattle.std.proofs.Common.{◌≡◌, ℕ, ◌<◌, Bool, true, false, List, [], ◌∷◌, ◌++◌, length, refl, ap, ◌∙◌, subst, arith}
use Rattle.std.specs.Prelude.{All, nat_lt, if◌then◌else◌}
use Rattle.std.proofs.lemmas.List.Elements.{All-nil, All-cons, All-head, All-tail}
use Rattle.ws_value.specs.declared.fault.Fault.TheVariants as fault
use Rattle.ws_value.specs.declared.value.Message.{Message}
use Rattle.ws_value.specs.declared.value.Message.TheVariants.{Pull, Chunk, Close, Error}
use Rattle.ws_value.specs.declared.value.Plain.{Plain}
use Rattle.ws_value.specs.declared.value.Plain.TheVariants.{Undefined, Number, Fault as FaultReason, Pair, Local}
use Rattle.ws_value.specs.declared.value.Value.TheVariants.{Plain as PlainValue, Bytes}
use Rattle.ws_flow.specs.Chains.{Row}
use Rattle.ws_flow.specs.Parts.{Part}
use Rattle.ws_flow.specs.Rows.{told_by}
use Rattle.ws_joined_laws.specs.Condition.{has_only_bytes, AreBytes, AreShort}
use Rattle.ws_joined_laws.specs.Reasons.{reasons_in, Finds, HasCause, Passed, Own, IsOwn}
use Rattle.ws_steps.specs.PortHistory.{ends_last}
use Rattle.ws_steps.specs.Queues.{is_empty}
use Rattle.ws_node_laws.specs.Edges.{goes_down_edge}
use Rattle.ws_node.specs.Messages.{is_fair, is_fair_reason, as_fair, fairly}
use Rattle.ws_node.proofs.Firsts.{reasons-append}

abbrev pub IsFairReason : Plain → Type 0
IsFairReason r = is_fair_reason r ≡ true

-- a row of which all was sent by a node of a run, or a first part of it
pub record IsFairRow (ms : List Message) : Type 0 where
  pub kinds : All (λ m. goes_down_edge m ≡ true) ms
  pub last : ends_last ms ≡ true
  pub fair : All IsFairReason (reasons_in ms)

-- lists

pub front-all : {A : Type 0} (P : A → Type 0) (xs ys : List A) → All P (xs ++ ys) → All P xs
front-all P [] ys a = All-nil P
front-all P (x ∷ xs) ys a = All-cons P x xs (All-head P x (xs ++ ys) a) (front-all P xs ys (All-tail P x (xs ++ ys) a))

pub at-all : {A : Type 0} (P : A → Type 0) (xs : List A) (y : A) (zs : List A) → All P (xs ++ y ∷ zs) → P y
at-all P [] y zs a = All-head P y zs a
at-all P (x ∷ xs) y zs a = at-all P xs y zs (All-tail P x (xs ++ y ∷ zs) a)

pub each-all : {A : Type 0} (P Q : A → Type 0) → ((x : A) → P x → Q x) → (xs : List A) → All P xs → All Q xs
each-all P Q f [] a = All-nil Q
each-all P Q f (x ∷ xs) a = All-cons Q x xs (f x (All-head P x xs a)) (each-all P Q f xs (All-tail P x xs a))

front-empty : (xs ys : List Message) → is_empty (xs ++ ys) ≡ true → is_empty xs ≡ true
front-empty [] ys e = refl
front-empty (x ∷ xs) ys e = e

front-last : (xs ys : List Message) → ends_last (xs ++ ys) ≡ true → ends_last xs ≡ true
front-last [] ys e = refl
front-last (Pull ∷ xs) ys e = front-last xs ys e
front-last (Chunk v ∷ xs) ys e = front-last xs ys e
front-last (Close ∷ xs) ys e = front-empty xs ys e
front-last (Error r ∷ xs) ys e = front-empty xs ys e

pub front-fair : (ms received rest : List Message) → ms ≡ received ++ rest → IsFairRow ms → IsFairRow received
front-fair ms received rest e h = record {
  kinds = front-all (λ m. goes_down_edge m ≡ true) received rest (subst (λ q. All (λ m. goes_down_edge m ≡ true) q) e h.kinds);
  last = front-last received rest (subst (λ q. ends_last q ≡ true) e h.last);
  fair = front-all IsFairReason (reasons_in received) (reasons_in rest) (subst (λ q. All IsFairReason q) (ap reasons_in e ∙ reasons-append received rest) h.fair);
}

-- a fair row is taken as it stands

short-fair : (b : List ℕ) → length b < 33554432 → nat_lt (length b) 33554432 ≡ true
short-fair b h = grind arith

kept : (m : Message) → is_fair m ≡ true → as_fair m ≡ m
kept m e = ap (λ (b : Bool). if b then m else Error (FaultReason fault.TypeError)) e

none-behind : (ms : List Message) → is_empty ms ≡ true → fairly ms ≡ ms
none-behind [] e = refl
none-behind (m ∷ ms) e = absurd (cc)

both : (m : Message) (ms : List Message) → as_fair m ≡ m → fairly ms ≡ ms → fairly (m ∷ ms) ≡ m ∷ ms
both m ms e f = ap (λ q. q ∷ fairly ms) e ∙ ap (λ q. m ∷ q) f

pub fairly-same : (ms : List Message) → IsFairRow ms → AreShort (Row ms) → fairly ms ≡ ms
fairly-same [] h s = refl
fairly-same (Pull ∷ ms) h s = absurd (let e = All-head (λ m. goes_down_edge m ≡ true) Pull ms h.kinds in cc)
fairly-same (Chunk (PlainValue v) ∷ ms) h s = absurd (let e = All-head (λ m. goes_down_edge m ≡ true) (Chunk (PlainValue v)) ms h.kinds in cc)
fairly-same (Chunk (Bytes b) ∷ ms) h s =
    both (Chunk (Bytes b)) ms (kept (Chunk (Bytes b)) (short-fair b (All-head (λ c. length c < 33554432) b (told_by ms).items s)))
    (fairly-same ms (record { kinds = All-tail (λ m. goes_down_edge m ≡ true) (Chunk (Bytes b)) ms h.kinds; last = h.last; fair = h.fair })
    (All-tail (λ c. length c < 33554432) b (told_by ms).items s))
fairly-same (Close ∷ ms) h s = both Close ms (kept Close refl) (none-behind ms h.last)
fairly-same (Error r ∷ ms) h s =
    both (Error r) ms (kept (Error r) (All-head IsFairReason r (reasons_in ms) h.fair)) (none-behind ms h.last)

-- the reasons of what is taken fairly

one-fair : (m : Message) (b : Bool) (ms : List Message) → is_fair m ≡ b → All IsFairReason (reasons_in ms)
    → All IsFairReason (reasons_in ((if b then m else Error (FaultReason fault.TypeError)) ∷ ms))
one-fair m false ms e a = All-cons IsFairReason (FaultReason fault.TypeError) (reasons_in ms) refl a
one-fair Pull true ms e a = a
one-fair (Chunk v) true ms e a = a
one-fair Close true ms e a = a
one-fair (Error r) true ms e a = All-cons IsFairReason r (reasons_in ms) e a

pub all-fair : (ms : List Message) → All IsFairReason (reasons_in (fairly ms))
all-fair [] = All-nil IsFairReason
all-fair (m ∷ ms) = one-fair m (is_fair m) (fairly ms) refl (all-fair ms)

own-fair : (f : Finds) (ps : List Part) (r : Plain) → IsOwn f ps r → IsFairReason r
own-fair f ps (FaultReason fault.Read) o = refl
own-fair f ps (FaultReason fault.Write) o = refl
own-fair f ps (FaultReason fault.TooMuch) o = refl
own-fair f ps (FaultReason (fault.Stage index code place)) o = refl
own-fair f ps (FaultReason fault.Abort) o = refl
own-fair f ps (FaultReason fault.NoMemory) o = refl
own-fair f ps (FaultReason fault.TypeError) o = refl
own-fair f ps (FaultReason fault.RangeError) o = refl
own-fair f ps (FaultReason fault.DataClone) o = absurd o
own-fair f ps (FaultReason (fault.User k)) o = refl
own-fair f ps Undefined o = absurd o
own-fair f ps (Number k) o = absurd o
own-fair f ps (Pair t) o = absurd o
own-fair f ps (Local k) o = absurd o

pub cause-fair : (f : Finds) (ps : List Part) (came : List Plain) (r : Plain) → All IsFairReason came → HasCause f ps came r → IsFairReason r
cause-fair f ps came r a (Passed before after e) = at-all IsFairReason before r after (subst (λ q. All IsFairReason q) e a)
cause-fair f ps came r a (Own o) = own-fair f ps r o

-- so is what a node sends whose reasons have their causes
pub sent-fair : (f : Finds) (ps : List Part) (received sent : List Message) → All (λ m. goes_down_edge m ≡ true) sent → ends_last sent ≡ true
    → All (HasCause f ps (reasons_in (fairly received))) (reasons_in sent) → IsFairRow sent
sent-fair f ps received sent k l c = record {
  kinds = k;
  last = l;
  fair = each-all (HasCause f ps (reasons_in (fairly received))) IsFairReason (λ r h. cause-fair f ps (reasons_in (fairly received)) r (all-fair received) h) (reasons_in sent) c;
}

-- and all of it is bytes

only-bytes : (m : Message) → goes_down_edge m ≡ true → has_only_bytes m ≡ true
only-bytes Pull e = refl
only-bytes (Chunk (PlainValue v)) e = absurd (cc)
only-bytes (Chunk (Bytes b)) e = refl
only-bytes Close e = refl
only-bytes (Error r) e = refl

pub fair-bytes : (ms : List Message) → IsFairRow ms → AreBytes (Row ms)
fair-bytes ms h = each-all (λ m. goes_down_edge m ≡ true) (λ m. has_only_bytes m ≡ true) only-bytes ms h.kinds
