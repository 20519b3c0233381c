-- What each operation of a byte stream does to its reads: those that it answers, and those that wait then, are those that waited and the one that is
-- asked, in this order but where that one overtakes another.
use Rattle.std.proofs.Common.{◌≡◌, ◌≢◌, ℕ, ◌+◌, Bool, true, false, not, ◌&&◌, if◌then◌else◌, List, [], ◌∷◌, ◌++◌, None, refl, sym, ap, ◌∙◌, append-nil, arith}
use Rattle.ws_value.specs.declared.ids.StreamId.{StreamId}
use Rattle.ws_steps.specs.declared.byte.ByteOperation.{ByteOperation}
use Rattle.ws_steps.specs.declared.byte.ByteOperation.TheVariants as own
use Rattle.ws_steps.specs.declared.readable.{ReadRequest.{ReadRequest}, ReadableOperation.{ReadableOperation}, ReadableState.{ReadableState}, ReadableState.TheVariants.{Readable, Closed, Errored}}
use Rattle.ws_steps.specs.declared.readable.ReadableOperation.TheVariants as names
use Rattle.ws_steps.specs.Bytes.{Acts, Slots, is_of_tee, may_read, read}
use Rattle.ws_steps.specs.Operations.{byte_readable_operation, byte_operation}
use Rattle.ws_steps.specs.Promises.{Table}
use Rattle.ws_steps.specs.Queues.{is_empty}
use Rattle.ws_steps.specs.Readable as readable
use Rattle.ws_byte_laws.proofs.Given.{starting}
use Rattle.ws_answer_laws.specs.ByteReads.{ByteReads, no_reads, overtakes, one_asked, shared_reads, own_reads}
use Rattle.ws_answer_laws.specs.Answering.{weight_of}
use Rattle.ws_answer_laws.proofs.InOrder.{IsOwnFree, operation-asks, own-asks, read-overtakes}
use Rattle.ws_answer_laws.proofs.Lines.{answered, line, Overtakes}

pub weight-append : (w : ReadRequest → ℕ) (xs ys : List ReadRequest) → weight_of w (xs ++ ys) ≡ weight_of w xs + weight_of w ys
weight-append w [] ys = omega arith
weight-append w (x ∷ xs) ys = let n = weight-append w xs ys in omega (arith, n)

-- from x an operation, which asks these, has led to a
pub record Asked (r : ByteReads) (x : Slots) (a : Acts) : Type 0 where
  pub first : List ReadRequest
  pub answers : answered a.out.effects ≡ first ++ r.overtaking
  pub lined : first ++ a.slots.stream.requests ≡ x.stream.requests ++ r.lined
  pub in_turn : r.overtaking ≡ [] → line a ≡ x.stream.requests ++ r.asked
  pub all : (w : ReadRequest → ℕ) → weight_of w (line a) ≡ weight_of w x.stream.requests + weight_of w r.asked

in_order : (r : ByteReads) (x : Slots) (a : Acts) → r.overtaking ≡ [] → r.lined ≡ r.asked → line a ≡ x.stream.requests ++ r.asked → Asked r x a
in_order r x a n l e = record {
  first = answered a.out.effects;
  answers = rw n (sym (append-nil (answered a.out.effects)));
  lined = rw l e;
  in_turn = λ o. e;
  all = λ w. ap (weight_of w) e ∙ weight-append w x.stream.requests r.asked;
}

overtaking : (q : ReadRequest) (x : Slots) (a : Acts) → Overtakes q x.stream.requests a → Asked (one_asked q true) x a
overtaking q x a k = record {
  first = k.first;
  answers = k.answers;
  lined = k.lined ∙ sym (append-nil x.stream.requests);
  in_turn = λ o. absurd (cc);
  all = λ w.
      let b = ap (weight_of w) k.answers in
      let c = ap (weight_of w) k.lined in
      let d = weight-append w k.first a.slots.stream.requests in
      let e = weight-append w k.first (q ∷ []) in
      let f = weight-append w (answered a.out.effects) a.slots.stream.requests in omega (arith, b, c, d, e, f);
}

-- what a reader that comes, and a read by a default reader, find
abbrev pub Finds : ReadableOperation → Slots → Type 0
Finds (names.InitializeReader p) x = x.stream.reader ≡ None → x.stream.requests ≡ []
Finds (names.Read q) x = (may_read x ≡ true) × (x.stream.state ≢ Readable → x.stream.requests ≡ [])
Finds _ x = Unit {0}

none_of : {A : Type 0} (xs : List A) → is_empty xs ≡ true → xs ≡ []
none_of [] e = refl
none_of (x ∷ xs) e = cc

overtakes_not : (state : ReadableState) (bs : List (List ℕ)) (rs : List ReadRequest) → readable.is_readable state && (not (is_empty bs) && not (is_empty rs)) ≡ false → state ≡ Readable → bs ≢ [] → rs ≡ []
overtakes_not Readable [] rs e s n = absurd (n refl)
overtakes_not Readable (b ∷ bs) [] e s n = refl
overtakes_not Readable (b ∷ bs) (r ∷ rs) e s n = absurd (cc)
overtakes_not Closed bs rs e s n = absurd (cc)
overtakes_not Errored bs rs e s n = absurd (cc)

overtakes_is : (state : ReadableState) (bs : List (List ℕ)) (rs : List ReadRequest) → readable.is_readable state && (not (is_empty bs) && not (is_empty rs)) ≡ true → (state ≡ Readable) × (bs ≢ [])
overtakes_is Readable [] rs e = absurd (cc)
overtakes_is Readable (b ∷ bs) rs e = (refl, λ n. cc)
overtakes_is Closed bs rs e = absurd (cc)
overtakes_is Errored bs rs e = absurd (cc)

module _ (me : StreamId) (x : Slots) (t : Table) where
  abbrev after : ReadableOperation → Acts
  after op = byte_readable_operation me op (starting x t)

  unread : (q : ReadRequest) → is_of_tee q ≡ true → line (after (names.Read q)) ≡ x.stream.requests ++ []
  unfolding read
  unread q e = rw e (sym (append-nil x.stream.requests))

  one-read : (q : ReadRequest) (over : Bool) → over ≡ overtakes x → is_of_tee q ≡ false → Finds (names.Read q) x → Asked (one_asked q over) x (after (names.Read q))
  one-read q true o e f =
      let k = overtakes_is x.stream.state x.queue x.stream.requests (sym o) in
      overtaking q x (after (names.Read q)) (read-overtakes me q (starting x t) e f.0 k.0 k.1)
  one-read q false o e f =
      in_order (one_asked q false) x (after (names.Read q)) refl refl
      (operation-asks me x t (names.Read q) (e, (f.0, (overtakes_not x.stream.state x.queue x.stream.requests (sym o), f.1))))

  read-asked : (q : ReadRequest) (tee : Bool) → tee ≡ is_of_tee q → Finds (names.Read q) x → Asked (if tee then no_reads else one_asked q (overtakes x)) x (after (names.Read q))
  read-asked q true e f = in_order no_reads x (after (names.Read q)) refl refl (unread q (sym e))
  read-asked q false e f = one-read q (overtakes x) refl (sym e) f

  -- other operations ask none
  none-asked : (op : ReadableOperation) (r : ByteReads) → r.overtaking ≡ [] → r.lined ≡ [] → r.asked ≡ [] → line (after op) ≡ x.stream.requests ++ [] → Asked r x (after op)
  none-asked op r n l a e = in_order r x (after op) n (l ∙ sym a) (rw a e)

  pub shared-asked : (op : ReadableOperation) → Finds op x → Asked (shared_reads op x) x (after op)
  shared-asked (names.Read q) f = read-asked q (is_of_tee q) refl f
  shared-asked (names.InitializeReader p) f = none-asked (names.InitializeReader p) no_reads refl refl refl (operation-asks me x t (names.InitializeReader p) f)
  shared-asked op f = none-asked op (shared_reads op x) refl refl refl (operation-asks me x t op tt)

  pub own-asked : (op : ByteOperation) → IsOwnFree op x → Asked (own_reads op x) x (byte_operation me op (starting x t))
  own-asked (own.PullInto room element minimum q) f =
      in_order (one_asked q false) x (byte_operation me (own.PullInto room element minimum q) (starting x t)) refl refl (own-asks me x t (own.PullInto room element minimum q) f)
  own-asked (own.InitializeByobReader p) f = in_order no_reads x (byte_operation me (own.InitializeByobReader p) (starting x t)) refl refl (own-asks me x t (own.InitializeByobReader p) f)
  own-asked op f = in_order (own_reads op x) x (byte_operation me op (starting x t)) refl refl (own-asks me x t op tt)

-- where a read that waits waits beside an empty queue, none overtakes
overtakes_some : (state : ReadableState) (bs : List (List ℕ)) (rs : List ReadRequest) → readable.is_readable state && (not (is_empty bs) && not (is_empty rs)) ≡ true → rs ≡ [] → ⊥
overtakes_some Readable [] rs e n = cc
overtakes_some Readable (b ∷ bs) [] e n = cc
overtakes_some Readable (b ∷ bs) (r ∷ rs) e n = cc
overtakes_some Closed bs rs e n = cc
overtakes_some Errored bs rs e n = cc

pub none-overtakes : (q : ReadRequest) (x : Slots) → (x.stream.state ≡ Readable → x.queue ≢ [] → x.stream.requests ≡ []) → (over tee : Bool) → over ≡ overtakes x → (if tee then no_reads else one_asked q over).overtaking ≡ []
none-overtakes q x n over true e = refl
none-overtakes q x n false false e = refl
none-overtakes q x n true false e =
    let k = overtakes_is x.stream.state x.queue x.stream.requests (sym e) in
    absurd (overtakes_some x.stream.state x.queue x.stream.requests (sym e) (n k.0 k.1))
