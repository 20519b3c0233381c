-- What comes out of a stage is enqueued behind it, and what was asked of the host is settled.
use Rattle.std.proofs.Common.{◌≡◌, ◌≢◌, ◌≤◌, ◌<◌, ℕ, suc, nat_eq, true, false, List, [], ◌∷◌, ◌++◌, Some, None, refl, sym, ap, ◌∙◌, subst, append-nil, append_assoc, arith}
use Rattle.std.proofs.lemmas.List.Elements.{All-nil}
use Rattle.ws_value.specs.declared.ids.HostId.{HostId}
use Rattle.ws_value.specs.declared.value.Value.{Value}
use Rattle.ws_value.specs.declared.value.Value.TheVariants.{Bytes}
use Rattle.ws_node.specs.Shape.{Shape, count_in, enters_in}
use Rattle.ws_flow.specs.Told.{Open, Told, told, then_told, IsShortOf}
use Rattle.ws_flow.proofs.Told.{then_empty, short_refl, short_trans}
use Rattle.ws_steps.specs.declared.calls.Answer.{Answer}
use Rattle.ws_steps.specs.declared.calls.Call.{Call}
use Rattle.ws_steps.specs.declared.calls.Call.TheVariants.{Settle}
use Rattle.ws_steps.specs.Run.{Entry}
use Rattle.ws_chain_laws.specs.Chain.{source_of, behind_at}
use Rattle.ws_chain_laws.specs.Nodes.{only_at}
use Rattle.ws_chain_laws.proofs.Nodes.{each_nodes_call_brings}
use Rattle.ws_link_laws.specs.Link.{silence}
use Rattle.ws_node.specs.declared.node.Node.{Node}
use Rattle.ws_node.specs.Moves.{Asks, Performed, Refused, Enqueues, NoPiece, NotTaken, OneTaken, enqueues}
use Rattle.ws_node.specs.Node.{in_bytes}
use Rattle.ws_node.specs.Past.{EndsHave, IsCause, OneAtMost, Led}
use Rattle.ws_node.proofs.Quiet.{IsNoMessage}
use Rattle.ws_node.proofs.Since.{OnlyRealm, only-then, MayAsk, own-failed, since-asks, dropped}
use Rattle.ws_node.proofs.Handing.{lies_to}
use Rattle.ws_node.proofs.Unheard.{alike, unlike}

pub only-refl : (a : Node) → OnlyRealm a a
only-refl a = record { realm = a.core.realm; stopped = a.core.stopped; is = refl }

-- a realm that goes on after a call went on before
pub asked-before : (c : Call) (a b : Node) → Asks c a b → b.core.stopped ≡ None → a.core.stopped ≡ None
asked-before c a b (Performed realm slots young goes is) e = goes
asked-before c a b (Refused why stops is) e = absurd (let f : Some why ≡ None = sym (ap (λ (n : Node). n.core.stopped) is) ∙ e in cc)

-- a call that brings nothing, as a settling

pub record AfterQuiet (shape : Shape) (past : List Entry) (a b : Node) : Type 0 where
  pub more : List Entry
  pub led : Led shape (past ++ more) b
  pub only : OnlyRealm a b
  pub lies : (t : Told (List ℕ)) (k : ℕ) → k ≤ count_in shape → IsShortOf (lies_to t b k) (lies_to t a k)
  pub one : (m : ℕ) → OneAtMost m (behind_at 0 a.core.realm.slots).items → OneAtMost m (behind_at 0 b.core.realm.slots).items
  pub before : b.core.stopped ≡ None → a.core.stopped ≡ None
  pub older : b.core.stopped ≡ None → a.core.realm.slots.age < b.core.realm.slots.age
  pub ends : EndsHave shape past a → EndsHave shape (past ++ more) b

pub asks-quietly : (shape : Shape) (past : List Entry) (a b : Node) (c : Call) → IsNoMessage c → ((k : ℕ) → enters_in shape k c ≡ silence) → Led shape past a → MayAsk shape past a c → Asks c a b → AfterQuiet shape past a b
asks-quietly shape past a b c unsent quiet led may asks =
    let after = since-asks shape past a b c led may asks in
    record {
      more = after.more;
      led = after.led;
      only = after.only;
      lies = λ t k less. subst (λ (q : Told Value). IsShortOf (lies_to t b k) (lies_to (then_told (in_bytes q) t) a k)) (quiet k) (after.short (λ j. t) k less);
      one = λ m o. after.one m
          (subst (λ (q : Told Value). OneAtMost m (then_told (behind_at 0 a.core.realm.slots) q).items) (sym (quiet 0))
          (subst (λ (q : Told Value). OneAtMost m q.items) (sym (then_empty (behind_at 0 a.core.realm.slots))) o));
      before = asked-before c a b asks;
      older = λ e. let f = after.older e in omega arith;
      ends = after.ends unsent;
    }

pub quiet-then : (shape : Shape) (past : List Entry) (a b c : Node) → (first : AfterQuiet shape past a b) → AfterQuiet shape (past ++ first.more) b c → AfterQuiet shape past a c
quiet-then shape past a b c first second =
    record {
      more = first.more ++ second.more;
      led = subst (λ q. Led shape q c) (append_assoc past first.more second.more) second.led;
      only = only-then a b c first.only second.only;
      lies = λ t k less. short_trans _ _ _ (second.lies t k less) (first.lies t k less);
      one = λ m o. second.one m (first.one m o);
      before = λ e. first.before (second.before e);
      older = λ e. let f = first.older (second.before e) in let g = second.older e in omega arith;
      ends = λ h. subst (λ q. EndsHave shape q c) (append_assoc past first.more second.more) (second.ends (first.ends h));
    }

pub settle-quiet : (shape : Shape) (id : HostId) (x : Answer) (k : ℕ) → enters_in shape k (Settle id x) ≡ silence
settle-quiet shape id x k = (each_nodes_call_brings shape.origin k).settle id x

-- chunks that are put out into a link behind the first

pub record AfterPuts (shape : Shape) (past : List Entry) (m : ℕ) (chunks : List (List ℕ)) (a b : Node) : Type 0 where
  pub more : List Entry
  pub led : Led shape (past ++ more) b
  pub only : OnlyRealm a b
  pub there : (t : Told (List ℕ)) → IsShortOf (lies_to t b (suc m)) (lies_to (then_told (told chunks Open) t) a (suc m))
  pub elsewhere : (t : Told (List ℕ)) (k : ℕ) → k ≤ count_in shape → k ≢ suc m → IsShortOf (lies_to t b k) (lies_to t a k)
  pub one : (q : ℕ) → OneAtMost q (behind_at 0 a.core.realm.slots).items → OneAtMost q (behind_at 0 b.core.realm.slots).items
  pub older : b.core.stopped ≡ None → a.core.realm.slots.age ≤ b.core.realm.slots.age
  pub ends : EndsHave shape past a → EndsHave shape (past ++ more) b

module _ (shape : Shape) (m : ℕ) (less : suc m ≤ count_in shape) where
  may-enqueue : (past : List Entry) (a : Node) (piece : List ℕ) → MayAsk shape past a (enqueues (source_of (suc m)) piece)
  may-enqueue past a piece = record { is_own = tt; clones = refl; failed = own-failed shape a (enqueues (source_of (suc m)) piece) (All-nil (IsCause a)); closes = λ id e c. absurd (cc); flushes = λ id i e c first last w at. absurd (cc) }

  brings : (piece : List ℕ) (k : ℕ) → enters_in shape k (enqueues (source_of (suc m)) piece) ≡ only_at (suc m) (told (Bytes piece ∷ []) Open) k
  brings piece k = (each_nodes_call_brings shape.origin k).enqueue (suc m) (Bytes piece)

  brings-there : (piece : List ℕ) → enters_in shape (suc m) (enqueues (source_of (suc m)) piece) ≡ told (Bytes piece ∷ []) Open
  brings-there piece = brings piece (suc m) ∙ (let e : nat_eq (suc m) (suc m) ≡ true = alike (suc m) in rw e refl)

  brings-elsewhere : (piece : List ℕ) (k : ℕ) → k ≢ suc m → enters_in shape k (enqueues (source_of (suc m)) piece) ≡ silence
  brings-elsewhere piece k other = brings piece k ∙ (let e : nat_eq k (suc m) ≡ false = unlike k (suc m) other in rw e refl)

  not_first : 0 ≢ suc m
  not_first e = omega arith

  -- one chunk
  record AfterOne (past : List Entry) (piece : List ℕ) (a b : Node) : Type 0 where
    more : List Entry
    led : Led shape (past ++ more) b
    only : OnlyRealm a b
    there : (t : Told (List ℕ)) → IsShortOf (lies_to t b (suc m)) (lies_to (then_told (told (piece ∷ []) Open) t) a (suc m))
    elsewhere : (t : Told (List ℕ)) (k : ℕ) → k ≤ count_in shape → k ≢ suc m → IsShortOf (lies_to t b k) (lies_to t a k)
    one : (q : ℕ) → OneAtMost q (behind_at 0 a.core.realm.slots).items → OneAtMost q (behind_at 0 b.core.realm.slots).items
    older : b.core.stopped ≡ None → b.core.realm.slots.age ≡ suc a.core.realm.slots.age
    ends : EndsHave shape past a → EndsHave shape (past ++ more) b

  puts-one : (past : List Entry) (piece : List ℕ) (a b : Node) → Led shape past a → Asks (enqueues (source_of (suc m)) piece) a b → AfterOne past piece a b
  puts-one past piece a b led asks =
      let after = since-asks shape past a b (enqueues (source_of (suc m)) piece) led (may-enqueue past a piece) asks in
      record {
        more = after.more;
        led = after.led;
        only = after.only;
        there = λ t. subst (λ (q : Told Value). IsShortOf (lies_to t b (suc m)) (lies_to (then_told (in_bytes q) t) a (suc m))) (brings-there piece) (after.short (λ j. t) (suc m) less);
        elsewhere = λ t k l other. subst (λ (q : Told Value). IsShortOf (lies_to t b k) (lies_to (then_told (in_bytes q) t) a k)) (brings-elsewhere piece k other) (after.short (λ j. t) k l);
        one = λ q o. after.one q
            (subst (λ (v : Told Value). OneAtMost q (then_told (behind_at 0 a.core.realm.slots) v).items) (sym (brings-elsewhere piece 0 not_first))
            (subst (λ (v : Told Value). OneAtMost q v.items) (sym (then_empty (behind_at 0 a.core.realm.slots))) o));
        older = after.older;
        ends = after.ends tt;
      }

  pub puts : (past : List Entry) (chunks : List (List ℕ)) (a b : Node) → Led shape past a → Enqueues (source_of (suc m)) chunks a b → AfterPuts shape past m chunks a b
  puts past chunks a b led (NoPiece n) =
      record {
        more = [];
        led = subst (λ q. Led shape q a) (sym (append-nil past)) led;
        only = only-refl a;
        there = λ t. short_refl (lies_to t a (suc m));
        elsewhere = λ t k l other. short_refl (lies_to t a k);
        one = λ q o. o;
        older = λ e. omega arith;
        ends = λ h. subst (λ q. EndsHave shape q a) (sym (append-nil past)) h;
      }
  puts past chunks a b led (NotTaken piece rest x y asks not_done) =
      let first = puts-one past piece a b led asks in
      record {
        more = first.more;
        led = first.led;
        only = first.only;
        there = λ t. dropped shape past a b m piece less led asks not_done (λ j. t) (λ j. then_told (told (piece ∷ rest) Open) t);
        elsewhere = first.elsewhere;
        one = first.one;
        older = λ e. let f = first.older e in omega arith;
        ends = first.ends;
      }
  puts past chunks a b led (OneTaken piece rest x y c asks done after) =
      let first = puts-one past piece a c led asks in
      let next = puts (past ++ first.more) rest c b first.led after in
      record {
        more = first.more ++ next.more;
        led = subst (λ q. Led shape q b) (append_assoc past first.more next.more) next.led;
        only = only-then a c b first.only next.only;
        there = λ t. short_trans _ _ _ (next.there t) (first.there (then_told (told rest Open) t));
        elsewhere = λ t k l other. short_trans _ _ _ (next.elsewhere t k l other) (first.elsewhere t k l other);
        one = λ q o. next.one q (first.one q o);
        older = λ e. let f = first.older done.goes_on in let g = next.older e in omega arith;
        ends = λ h. subst (λ q. EndsHave shape q b) (append_assoc past first.more next.more) (next.ends (first.ends h));
      }
