-- What a node does as it reads its input.
use Rattle.std.proofs.Common.{◌≡◌, ◌+◌, ◌-◌, ◌≤◌, ◌<◌, ℕ, zero, suc, Bool, true, false, List, [], ◌∷◌, ◌++◌, length, Option, Some, None, Result, Ok, Err, refl, sym, ap, ◌∙◌, subst, append-nil, arith}
use Rattle.std.specs.List.{concat, All}
use Rattle.std.specs.Prelude.{min, nat_eq, nat_lt, slice_get}
use Rattle.std.proofs.lemmas.Bool.Decides.{nat_tests}
use Rattle.std.proofs.lemmas.List.Elements.{All-nil, All-cons}
use Rattle.ws_value.specs.declared.fault.Fault.TheVariants.{Read as ReadFault, TooMuch}
use Rattle.ws_value.specs.declared.ids.HostId.{HostId}
use Rattle.ws_value.specs.declared.ids.StreamId.{StreamId}
use Rattle.ws_value.specs.declared.value.Plain.TheVariants.{Fault as FaultReason}
use Rattle.ws_value.specs.declared.value.Value.{Value}
use Rattle.ws_value.specs.declared.value.Value.TheVariants.{Bytes, Plain as PlainValue}
use Rattle.ws_node.specs.Shape.{Shape, count_in, enters_in}
use Rattle.ws_flow.specs.Parts.{AtWork, Goes}
use Rattle.ws_flow.specs.Stages.{machines}
use Rattle.ws_flow.specs.Steps.{parts_at, behind_of}
use Rattle.ws_flow.specs.Told.{Mark, Open as MayCome, Closed, Broken, Lost, Told, told, goes_on, then_told, IsShortOf}
use Rattle.ws_flow.proofs.Steps.{goes_enters, goes_rests}
use Rattle.ws_flow.proofs.Told.{short_trans, short_as, short_left, then_empty}
use Rattle.ws_io.specs.Gain.{Got}
use Rattle.ws_io.specs.Faults.{Rose}
use Rattle.ws_io.specs.Feed.{Feed, Fed, KeepsEnd}
use Rattle.ws_io.specs.Moment.{Moment, moment}
use Rattle.ws_io.specs.declared.outside.Failed.{Failed}
use Rattle.ws_io.proofs.Flow.{Gains-nothing, IsEmpty-kept}
use Rattle.ws_stages.specs.State.{State}
use Rattle.ws_steps.specs.declared.calls.Answer.TheVariants.{Ok as AnswerOk}
use Rattle.ws_steps.specs.declared.calls.Call.{Call}
use Rattle.ws_steps.specs.declared.calls.Call.TheVariants.{Enqueue, Finish, Fail}
use Rattle.ws_steps.specs.declared.calls.HostCall.{HostCall}
use Rattle.ws_steps.specs.declared.calls.HostCall.TheVariants.{Pull}
use Rattle.ws_steps.specs.Run.{Entry}
use Rattle.ws_end_laws.specs.hosts.HostCalls.{called, settles_well}
use Rattle.ws_link_laws.specs.Link.{lets_in, silence}
use Rattle.ws_chain_laws.specs.Chain.{Origin, FromBytes, FromChunks, FromPort, giver, source_of, behind_at}
use Rattle.ws_chain_laws.specs.Nodes.{finishes, only_at}
use Rattle.ws_chain_laws.proofs.Nodes.{each_nodes_call_brings}
use Rattle.ws_realm.specs.declared.realm.Why.{Why}
use Rattle.ws_realm.specs.declared.realm.Why.TheVariants.{NoMemory}
use Rattle.ws_node.specs.declared.node.Entrance.{Entrance}
use Rattle.ws_node.specs.declared.node.Input.{Input}
use Rattle.ws_node.specs.declared.node.Input.TheVariants as input
use Rattle.ws_node.specs.declared.node.Node.{Node}
use Rattle.ws_node.specs.Host.{GivesPiece, IsPiece}
use Rattle.ws_node.specs.Moves.{Asks, Performed, Refused, settles, takes_bytes, Takes, Reads, ReadNot, Wanted, ReadOnce}
use Rattle.ws_node.specs.Node.{in_bytes, is_edge, lost_by, coming, coming_behind, lying_by, lies, lies_in, lying, nothing_yet, parts, stages_in, works_in}
use Rattle.ws_node.specs.Past.{EndsHave, IsCause, IsFedAs, IsPull, Counts, ArePushed, OneAtMost, Own, may_have, Led, Since}
use Rattle.ws_node.proofs.Credit.{rests-credit}
use Rattle.ws_node.proofs.Legal.{since-rests}
use Rattle.ws_node.proofs.Nearing.{near-read}
use Rattle.ws_node.specs.Went.{ByInput, InputGoes}
use Rattle.ws_node.proofs.Changes.{answering, led-input, led-unasked, led-stopped}
use Rattle.ws_node.proofs.Entries.{called-longer}
use Rattle.ws_node.proofs.Going.{SameCounts, as-many, goes-still, held-goes, works-count, going-acts, going-stays, went-quietly, went-same, only-same}
use Rattle.ws_node.proofs.Handled.{Handled}
use Rattle.ws_node.proofs.Quiet.{IsNoMessage, stays-as, stays-going, ends-as}
use Rattle.ws_node.proofs.Since.{OnlyRealm, only-then, MayAsk, own-failed, since-asks}

-- where all that was read was had, nothing is behind the host
none-behind : (n : ℕ) (vs : List Value) → n ≡ 0 → OneAtMost n vs → vs ≡ []
none-behind n [] e o = refl
none-behind n (v ∷ vs) e o = absurd (one_of_none n v vs e o)
  where
    one_of_none : (n : ℕ) (v : Value) (vs : List Value) → n ≡ 0 → OneAtMost n (v ∷ vs) → ⊥
    one_of_none n (Bytes piece) vs e (f, g, h) = omega arith
    one_of_none n (PlainValue r) vs e h = h

-- what comes in where nothing lies

one-comes-by : (m : ℕ) (piece : List ℕ) (items : List Value) (k : Mark) → items ≡ [] → length piece ≡ m → 0 < m → OneAtMost m (goes_on items k (told (Bytes piece ∷ []) MayCome)).items
one-comes-by m piece [] MayCome e long some = (refl, long, some)
one-comes-by m piece [] Closed e long some = tt
one-comes-by m piece [] Broken e long some = tt
one-comes-by m piece [] Lost e long some = tt
one-comes-by m piece (v ∷ vs) k e long some = absurd (cc)

one-closes-by : (m : ℕ) (items : List Value) (k j : Mark) → items ≡ [] → OneAtMost m (goes_on items k (told [] j)).items
one-closes-by m [] MayCome j e = tt
one-closes-by m [] Closed j e = tt
one-closes-by m [] Broken j e = tt
one-closes-by m [] Lost j e = tt
one-closes-by m (v ∷ vs) k j e = absurd (cc)

one-closes : (m : ℕ) (x : Told Value) (j : Mark) → x.items ≡ [] → OneAtMost m (then_told x (told [] j)).items
one-closes m x j none = one-closes-by m x.items x.mark j none

one-comes : (m : ℕ) (piece : List ℕ) (x : Told Value) → x.items ≡ [] → length piece ≡ m → 0 < m → OneAtMost m (then_told x (told (Bytes piece ∷ []) MayCome)).items
one-comes m piece x none long some = one-comes-by m piece x.items x.mark none long some

-- the settling of a pull is neither that of a close nor of a flush

id_of : (id i : HostId) (a b : Call) → a ≡ settles id → b ≡ settles_well i → a ≡ b → id ≡ i
id_of id i a b e f g = grind arith

other-call : (calls : List HostCall) (id i : HostId) (a b : HostCall) → id ≡ i → slice_get calls id.0 ≡ Some a → slice_get calls i.0 ≡ Some b → a ≡ b
other-call calls id i a b e f g = grind arith

pull-may : (shape : Shape) (past : List Entry) (n : Node) (id : HostId) (i : StreamId) → slice_get (called past) id.0 ≡ Some (Pull i) → MayAsk shape past n (settles id)
pull-may shape past n id i pull =
    record {
      is_own = tt;
      clones = tt;
      failed = own-failed shape n (settles id) (All-nil (IsCause n));
      closes = λ j e close feeds. let f = other-call (called past) id j _ _ (id_of id j _ _ refl refl e) pull close in absurd (cc);
      flushes = λ j k e flush first last w at. let f = other-call (called past) id j _ _ (id_of id j _ _ refl refl e) pull flush in absurd (cc);
    }

-- the call that hands on what was read, and then the settling of the pull

record Both (shape : Shape) (past : List Entry) (c : Call) (n b : Node) : Type 0 where
  pub more : List Entry
  pub led : Led shape more b
  pub only : OnlyRealm n b
  pub short : (d : ℕ → Told (List ℕ)) (k : ℕ) → k ≤ count_in shape → IsShortOf (lies d b k) (lies (λ j. then_told (in_bytes (enters_in shape j c)) (d j)) n k)
  pub one : (m : ℕ) → OneAtMost m (then_told (behind_at 0 n.core.realm.slots) (enters_in shape 0 c)).items → OneAtMost m (behind_at 0 b.core.realm.slots).items
  pub older : b.core.stopped ≡ None → n.core.realm.slots.age ≤ b.core.realm.slots.age
  pub ends : EndsHave shape past n → EndsHave shape more b

going-on : (c : Call) (a b : Node) → Asks c a b → b.core.stopped ≡ None → a.core.stopped ≡ None
going-on c a b (Performed realm slots young goes is) e = goes
going-on c a b (Refused why stops is) e = let f : b.core.stopped ≡ Some why = ap (λ (n : Node). n.core.stopped) is in absurd (cc)

-- the settling brings nothing
settled-short : (shape : Shape) (mid b : Node) (id : HostId) (d : ℕ → Told (List ℕ)) (k : ℕ)
    → IsShortOf (lies d b k) (lies (λ j. then_told (in_bytes (enters_in shape j (settles id))) (d j)) mid k) → IsShortOf (lies d b k) (lies d mid k)
settled-short shape mid b id d k h =
    subst (λ (t : Told Value). IsShortOf (lies d b k) (lies (λ j. then_told (in_bytes t) (d j)) mid k)) ((each_nodes_call_brings shape.origin k).settle id AnswerOk) h

settled-one : (shape : Shape) (x : Told Value) (c : Call) (m : ℕ) → enters_in shape 0 c ≡ silence → OneAtMost m x.items → OneAtMost m (then_told x (enters_in shape 0 c)).items
settled-one shape x c m e o = subst (λ (q : Told Value). OneAtMost m q.items) (sym (ap (λ q. then_told x q) e ∙ then_empty x)) o

both : (shape : Shape) (past : List Entry) (n mid b : Node) (c : Call) (id : HostId) (i : StreamId) → IsNoMessage c → slice_get (called past) id.0 ≡ Some (Pull i) → Led shape past n
    → MayAsk shape past n c → Asks c n mid → Asks (settles id) mid b → Both shape past c n b
both shape past n mid b c id i unsent pull led may asks settles_it =
    let first = since-asks shape past n mid c led may asks in
    let second = since-asks shape (past ++ first.more) mid b (settles id) first.led (pull-may shape (past ++ first.more) mid id i (called-longer past first.more id (Pull i) pull)) settles_it in
    record {
      more = (past ++ first.more) ++ second.more;
      led = second.led;
      only = only-then n mid b first.only second.only;
      short = λ d k less. short_trans _ _ _ (settled-short shape mid b id d k (second.short d k less)) (first.short d k less);
      one = λ m o. second.one m (settled-one shape (behind_at 0 mid.core.realm.slots) (settles id) m ((each_nodes_call_brings shape.origin 0).settle id AnswerOk) (first.one m o));
      older = λ going.
          let one = second.older going in
          let other = first.older (going-on (settles id) mid b settles_it going) in
          omega arith;
      ends = λ h. second.ends tt (first.ends unsent h);
    }

-- what a read brings to the link that comes from the source: the end of the input, or bytes

finish-at : (shape : Shape) (i : StreamId) → shape.origin ≡ FromBytes → i ≡ source_of 0 → (k : ℕ) → enters_in shape k (Finish i) ≡ only_at 0 (told [] Closed) k
finish-at shape i from is k =
    subst (λ (j : StreamId). enters_in shape k (Finish j) ≡ only_at 0 (told [] Closed) k) (sym is)
    ((each_nodes_call_brings shape.origin k).finish ∙ ap (λ (o : Origin). only_at 0 (finishes o) k) from)

bytes-at : (shape : Shape) (i : StreamId) → shape.origin ≡ FromBytes → i ≡ source_of 0 → (x : ℕ) (rest : List ℕ) (k : ℕ)
    → enters_in shape k (Enqueue i (Bytes (x ∷ rest))) ≡ only_at 0 (told (Bytes (x ∷ rest) ∷ []) MayCome) k
bytes-at shape i from is x rest k =
    subst (λ (j : StreamId). enters_in shape k (Enqueue j (Bytes (x ∷ rest))) ≡ only_at 0 (told (Bytes (x ∷ rest) ∷ []) MayCome) k) (sym is)
    ((each_nodes_call_brings shape.origin k).enqueue 0 (Bytes (x ∷ rest)) ∙ ap (λ (o : Origin). only_at 0 (lets_in (giver o 0) (Bytes (x ∷ rest))) k) from)

-- what a read is to the node

not-first : (t : Told Value) (j : ℕ) → only_at 0 t (suc j) ≡ silence
not-first t j = let other : nat_eq (suc j) 0 ≡ false = grind (arith, nat_tests) in rw other refl

-- a node whose input may be read is fed by it
not-edge : (i : Input) → i ≡ input.Open → is_edge i ≡ false
not-edge i e = ap (λ (x : Input). is_edge x) e

from-bytes : (o : Origin) (e : Entrance) → IsFedAs o e → is_edge e.input ≡ false → o ≡ FromBytes
from-bytes FromBytes e h unsent = refl
from-bytes FromPort e h unsent = absurd (let f = h.0 in cc)
from-bytes FromChunks e h unsent = absurd h

pushed-on : (m n : ℕ) (ws : List State) → m ≤ n → ArePushed m ws → ArePushed n ws
pushed-on m n ws less h k d within = let few = h k d within in omega arith

-- what lies at each place, where this call brings what was read, or nothing at all, to the first
enters-at : (shape : Shape) (a : Node) (i : Input) (c : Call) (read : Told (List ℕ)) (d : ℕ → Told (List ℕ)) (b : Node) → a.core.stopped ≡ None → a.entrance.input ≡ input.Open
    → IsShortOf (then_told (in_bytes (enters_in shape 0 c)) (d 0)) read
    → IsShortOf (lies d b 0) (lying_by a.core.stopped (then_told (in_bytes (behind_at 0 a.core.realm.slots)) (then_told (in_bytes (enters_in shape 0 c)) (d 0))))
    → IsShortOf (lies d b 0) (then_told (lies_in a 0) read)
enters-at shape a i c read d b goes was_open came h =
    let x : Told (List ℕ) = in_bytes (behind_at 0 a.core.realm.slots) in
    let y : Told (List ℕ) = then_told (in_bytes (enters_in shape 0 c)) (d 0) in
    let lay : lies_in a 0 ≡ x = ap (λ (w : Option Why). lying_by w (then_told x (lost_by a.entrance.input))) goes ∙ (ap (λ (i : Input). then_told x (lost_by i)) was_open ∙ then_empty x) in
    short_trans (lies d b 0) (then_told x y) (then_told (lies_in a 0) read)
    (subst (λ (w : Option Why). IsShortOf (lies d b 0) (lying_by w (then_told x y))) goes h)
    (short_as _ _ _ (ap (λ q. then_told q read) (sym lay)) (short_left x y read came))

passes-at : (shape : Shape) (a : Node) (c : Call) (j : ℕ) (d : ℕ → Told (List ℕ)) (b : Node) → d (suc j) ≡ coming_behind j a.core.stages.items → enters_in shape (suc j) c ≡ silence
    → IsShortOf (lies d b (suc j)) (lying_by a.core.stopped (then_told (in_bytes (behind_at (suc j) a.core.realm.slots)) (then_told (in_bytes (enters_in shape (suc j) c)) (d (suc j)))))
    → IsShortOf (lies d b (suc j)) (lies_in a (suc j))
passes-at shape a c j d b same silent h =
    subst (λ (q : Told (List ℕ)). IsShortOf (lies d b (suc j)) (lying_by a.core.stopped (then_told (in_bytes (behind_at (suc j) a.core.realm.slots)) q)))
    (ap (λ (q : Told Value). then_told (in_bytes q) (d (suc j))) silent ∙ same) h

-- what came in lies before the first stage, or what came of it
reads-goes : (shape : Shape) (a b : Node) (read : Told (List ℕ)) → stages_in a.core ≡ shape.stages → works_in b.core ≡ works_in a.core → IsShortOf (lies_in b 0) (then_told (lies_in a 0) read)
    → ((j : ℕ) → suc j ≤ count_in shape → IsShortOf (lies_in b (suc j)) (lies_in a (suc j)))
    → Goes (machines (stages_in a.core)) read (parts a) (lying a) (parts b) (lying b)
reads-goes shape a b read stages works first others =
    subst (λ (ws : List AtWork). Goes (machines (stages_in a.core)) read (parts a) (lying a) (parts_at 0 ws (lies_in b)) (behind_of 0 ws (lies_in b))) (sym works)
    (goes_enters (machines (stages_in a.core)) 0 (works_in a.core) (lies_in a) (lies_in b) read (as-many a) first other) where
      other : (j : ℕ) → 0 < j → j ≤ 0 + length (works_in a.core) → IsShortOf (lies_in b j) (lies_in a j)
      other zero more less = absurd (omega arith)
      other (suc j) more less = others j (let l = works-count shape a stages in omega arith)

module _ (wf : ℕ) (finished : Option Bool) (p : Got) (shape : Shape) (past : List Entry) (a b : Node) (old new : Option Feed) (before now : ℕ) (s : Since shape past a) where
  abbrev m₀ : Moment
  m₀ = moment before old wf finished

  abbrev m₁ : Moment
  m₁ = moment now new wf finished

  module _ (goes : a.core.stopped ≡ None) (written : a.entrance.ahead ≡ 0) (whole : a.exit.broken ≡ false) (was_open : a.entrance.input ≡ input.Open) (id : HostId) (asked : a.entrance.asked ≡ Some id) (want : ℕ) (most : want ≤ 4096)
      (limit : want ≤ (a.entrance.most - a.entrance.taken) + 1) where
    -- the pull that waited is one
    is_pull : (i : StreamId) × (slice_get (called past) id.0 ≡ Some (Pull i))
    is_pull = subst (IsPull past) asked s.led.asked

    none : may_have a.core.stages.items a.exit.output a.exit.abort ≡ true → (behind_at 0 a.core.realm.slots).items ≡ []
    none may = none-behind a.entrance.ahead (behind_at 0 a.core.realm.slots).items written (s.one (not-edge a.entrance.input was_open) may)

    bytes : shape.origin ≡ FromBytes
    bytes = from-bytes shape.origin a.entrance s.led.is_of.from (not-edge a.entrance.input was_open)

    few : a.entrance.taken ≤ a.entrance.most
    few = s.led.counts.within (λ e. let f = was_open in cc)

    -- what was read came in by this call
    took : (taken ahead : ℕ) (i : Input) (c : Call) (mid : Node) (read : Told (List ℕ)) → is_edge i ≡ false → IsNoMessage c → Counts a.entrance.most taken ahead i → MayAsk shape past (answering taken ahead i a) c
        → Asks c (answering taken ahead i a) mid → Asks (settles id) mid b → ((j : ℕ) → enters_in shape (suc j) c ≡ silence)
        → IsShortOf (then_told (in_bytes (enters_in shape 0 c)) (lost_by i)) read
        → ((behind_at 0 a.core.realm.slots).items ≡ [] → OneAtMost ahead (then_told (behind_at 0 a.core.realm.slots) (enters_in shape 0 c)).items)
        → Fed old new (concat read.items) → All (λ c. length c ≤ 4096) read.items → taken ≡ a.entrance.taken + length (concat read.items) → length (concat read.items) ≤ ahead → length read.items ≤ min ahead 1
        → InputGoes a.entrance.input i read m₀ m₁ → Handled shape a b m₀ m₁ p p
    took taken ahead i c mid read no_edge unsent counts may asks settles_it silent came one fed short counted had few_read goes_in =
        let n : Node = answering taken ahead i a in
        let h = both shape past n mid b c id is_pull.0 unsent is_pull.1 (led-input shape past a taken ahead i was_open no_edge counts s.led) may asks settles_it in
        let same : SameCounts n b = only-same n b h.only in
        let items : b.core.stages.items ≡ a.core.stages.items = ap (λ (q : Node). q.core.stages.items) h.only.is in
        let ahead_is : b.entrance.ahead ≡ ahead = ap (λ (q : Node). q.entrance.ahead) h.only.is in
        let taken_is : b.entrance.taken ≡ taken = same.taken in
        let input_is : b.entrance.input ≡ i = same.input in
        let coming_is : (j : ℕ) → coming b (suc j) ≡ coming_behind j a.core.stages.items = λ j. ap (λ ws. coming_behind j ws) items in
        let first : IsShortOf (lies_in b 0) (then_told (lies_in a 0) read) =
        enters-at shape a i c read (coming b) b goes was_open (subst (λ q. IsShortOf (then_told (in_bytes (enters_in shape 0 c)) (lost_by q)) read) (sym input_is) came)
        (h.short (coming b) 0 (omega arith)) in
        record {
          past = h.more;
          led = h.led;
          pushes = λ going. subst (λ ws. ArePushed b.core.realm.slots.age ws) (sym items) (pushed-on a.core.realm.slots.age b.core.realm.slots.age a.core.stages.items (h.older going) (s.pushes goes));
          ends = h.ends (ends-as shape past a n refl refl (stays-as a.core.stopped) s.ends);
          one = λ fed_so may_be. subst (λ q. OneAtMost q (behind_at 0 b.core.realm.slots).items) (sym ahead_is)
              (h.one ahead (one (none (subst (λ (q : Node). may_have q.core.stages.items q.exit.output q.exit.abort ≡ true) h.only.is may_be))));
          went = record {
            read = read;
            went = nothing_yet;
            gain = [];
            out = MayCome;
            core = record {
              moves = (
                record {
                  stages = same.stages;
                  goes = held-goes a b read same.below
                      (reads-goes shape a b read s.led.is_of.stages (ap (λ (q : Node). works_in q.core) h.only.is) first
                      (λ j less. passes-at shape a c j (coming b) b (coming_is j) (silent j) (h.short (coming b) (suc j) less)));
                },
                tt,
              );
              pipe = same.pipe;
              pipes = same.pipes;
              first = same.first;
            };
            from = ByInput (not-edge a.entrance.input was_open)
                (record {
                  fed = fed;
                  short = short;
                  counted = taken_is ∙ counted;
                  input = subst (λ q. InputGoes a.entrance.input q read m₀ m₁) (sym input_is) goes_in;
                  source = same.source;
                  most = same.most;
                  above = same.above;
                });
            into = goes-still a.exit b.exit m₀ m₁ p p refl refl (Gains-nothing p) same.output same.abort same.sink same.below;
            ahead = λ e by to. omega arith;
            near = λ head pieces is.
                near-read a b pieces (length read.items) goes written whole same.below same.broken (let e = ahead_is in omega (arith, e, few_read)) (rests-credit shape past a (since-rests shape past a s)).chunks is;
            short = λ was some. absurd (omega arith);
            stays = going-acts a b m₀ m₁ read [] goes;
          };
        }

    -- the end of the input
    ended : (c : Node) → IsPiece old new before now want [] → Asks (Finish a.entrance.source) (answering a.entrance.taken a.entrance.ahead input.Ended a) c → Asks (settles id) c b → Handled shape a b m₀ m₁ p p
    ended c piece asks settles_it =
        let counts = s.led.counts in
        let limited = counts.limited in
        let bound = counts.bound in
        let room = counts.piece in
        let fewer = few in
        took a.entrance.taken a.entrance.ahead input.Ended (Finish a.entrance.source) c (told [] Closed) refl tt
        (record { limited = omega arith; bound = omega arith; within = λ e. fewer; beyond = λ e. absurd (cc); piece = omega arith; failed = λ e. absurd (cc) })
        (record { is_own = (0, omega arith, s.led.is_of.source); clones = tt; failed = own-failed shape (answering a.entrance.taken a.entrance.ahead input.Ended a) (Finish a.entrance.source) (All-nil (IsCause (answering a.entrance.taken a.entrance.ahead input.Ended a))); closes = λ i e. absurd (cc); flushes = λ i j e. absurd (cc) })
        asks settles_it (λ j. finish-at shape a.entrance.source bytes s.led.is_of.source (suc j) ∙ not-first (told [] Closed) j)
        (subst (λ (t : Told Value). IsShortOf (then_told (in_bytes t) (lost_by input.Ended)) (told [] Closed)) (sym (finish-at shape a.entrance.source bytes s.led.is_of.source 0)) (refl, refl))
        (λ e. subst (λ q. OneAtMost a.entrance.ahead (then_told (behind_at 0 a.core.realm.slots) q).items) (sym (finish-at shape a.entrance.source bytes s.led.is_of.source 0)) (one-closes a.entrance.ahead (behind_at 0 a.core.realm.slots) Closed e))
        piece.moved (All-nil (λ c. length c ≤ 4096)) (omega arith) (omega arith) (omega arith)
        (rw was_open (refl, piece.calm, (piece.end refl).1, IsEmpty-kept old new [] (piece.end refl).0 piece.moved))

    -- a failed read
    failed : (c : Node) → Fed old new [] → KeepsEnd old new → Rose before now → Asks (Fail a.entrance.source (FaultReason ReadFault)) (answering a.entrance.taken a.entrance.ahead input.Failed a) c → Asks (settles id) c b
        → Handled shape a b m₀ m₁ p p
    failed c fed kept rose asks settles_it =
        let counts = s.led.counts in
        let limited = counts.limited in
        let bound = counts.bound in
        let room = counts.piece in
        let fewer = few in
        let n : Node = answering a.entrance.taken a.entrance.ahead input.Failed a in
        took a.entrance.taken a.entrance.ahead input.Failed (Fail a.entrance.source (FaultReason ReadFault)) c (told [] Lost) refl tt
        (record { limited = omega arith; bound = omega arith; within = λ e. fewer; beyond = λ e. absurd (cc); piece = omega arith; failed = λ e. written })
        (record { is_own = (0, omega arith, s.led.is_of.source); clones = refl; failed = own-failed shape n (Fail a.entrance.source (FaultReason ReadFault)) (All-cons (IsCause n) (FaultReason ReadFault) [] (Own refl) (All-nil (IsCause n))); closes = λ i e. absurd (cc); flushes = λ i j e. absurd (cc) })
        asks settles_it (λ j. (each_nodes_call_brings shape.origin (suc j)).fail a.entrance.source (FaultReason ReadFault))
        (subst (λ (t : Told Value). IsShortOf (then_told (in_bytes t) (lost_by input.Failed)) (told [] Lost)) (sym ((each_nodes_call_brings shape.origin 0).fail a.entrance.source (FaultReason ReadFault))) ([], refl))
        (λ e. subst (λ q. OneAtMost a.entrance.ahead (then_told (behind_at 0 a.core.realm.slots) q).items) (sym ((each_nodes_call_brings shape.origin 0).fail a.entrance.source (FaultReason ReadFault)))
        (one-closes a.entrance.ahead (behind_at 0 a.core.realm.slots) MayCome e))
        fed (All-nil (λ c. length c ≤ 4096)) (omega arith) (omega arith) (omega arith) (rw was_open (refl, rose, kept))

    -- bytes
    module _ (x : ℕ) (rest : List ℕ) (piece : IsPiece old new before now want (x ∷ rest)) where
      joined : concat ((x ∷ rest) ∷ []) ≡ x ∷ rest
      joined = append-nil (x ∷ rest)

      count : length (concat ((x ∷ rest) ∷ [])) ≡ length (x ∷ rest)
      count = ap length joined

      fed_all : Fed old new (concat ((x ∷ rest) ∷ []))
      fed_all = subst (Fed old new) (sym joined) piece.moved

      one_short : All (λ c. length c ≤ 4096) ((x ∷ rest) ∷ [])
      one_short = All-cons (λ c. length c ≤ 4096) (x ∷ rest) [] (let long = piece.short in omega arith) (All-nil (λ c. length c ≤ 4096))

      too_many : (c : Node) → a.entrance.most < a.entrance.taken + length (x ∷ rest) → Asks (Fail a.entrance.source (FaultReason TooMuch)) (answering (a.entrance.taken + length (x ∷ rest)) (length (x ∷ rest)) input.TooLong a) c
          → Asks (settles id) c b → Handled shape a b m₀ m₁ p p
      too_many c more asks settles_it =
          let counts = s.led.counts in
          let limited = counts.limited in
          let short = piece.short in
          let fewer = few in
          let counted = count in
          let n : Node = answering (a.entrance.taken + length (x ∷ rest)) (length (x ∷ rest)) input.TooLong a in
          took (a.entrance.taken + length (x ∷ rest)) (length (x ∷ rest)) input.TooLong (Fail a.entrance.source (FaultReason TooMuch)) c (told ((x ∷ rest) ∷ []) Lost) refl tt
          (record { limited = omega arith; bound = omega arith; within = λ e. absurd (e refl); beyond = λ e. more; piece = omega arith; failed = λ e. absurd (cc) })
          (record { is_own = (0, omega arith, s.led.is_of.source); clones = refl; failed = own-failed shape n (Fail a.entrance.source (FaultReason TooMuch)) (All-cons (IsCause n) (FaultReason TooMuch) [] (Own refl) (All-nil (IsCause n))); closes = λ i e. absurd (cc); flushes = λ i j e. absurd (cc) })
          asks settles_it (λ j. (each_nodes_call_brings shape.origin (suc j)).fail a.entrance.source (FaultReason TooMuch))
          (subst (λ (t : Told Value). IsShortOf (then_told (in_bytes t) (lost_by input.TooLong)) (told ((x ∷ rest) ∷ []) Lost)) (sym ((each_nodes_call_brings shape.origin 0).fail a.entrance.source (FaultReason TooMuch)))
          ((x ∷ rest) ∷ [], refl))
          (λ e. subst (λ q. OneAtMost (length (x ∷ rest)) (then_told (behind_at 0 a.core.realm.slots) q).items) (sym ((each_nodes_call_brings shape.origin 0).fail a.entrance.source (FaultReason TooMuch)))
          (one-closes (length (x ∷ rest)) (behind_at 0 a.core.realm.slots) MayCome e))
          fed_all one_short (omega arith) (omega arith) (omega arith) (rw was_open (refl, piece.calm, piece.before_end (omega arith)))

      some : (c : Node) → a.entrance.taken + length (x ∷ rest) ≤ a.entrance.most → Asks (Enqueue a.entrance.source (Bytes (x ∷ rest))) (answering (a.entrance.taken + length (x ∷ rest)) (length (x ∷ rest)) a.entrance.input a) c
          → Asks (settles id) c b → Handled shape a b m₀ m₁ p p
      some c within asks settles_it =
          let counts = s.led.counts in
          let limited = counts.limited in
          let short = piece.short in
          let counted = count in
          took (a.entrance.taken + length (x ∷ rest)) (length (x ∷ rest)) a.entrance.input (Enqueue a.entrance.source (Bytes (x ∷ rest))) c (told ((x ∷ rest) ∷ []) MayCome) (not-edge a.entrance.input was_open) tt
          (record { limited = omega arith; bound = omega arith; within = λ e. within; beyond = λ e. let f = was_open in absurd (cc); piece = omega arith; failed = λ e. let f = was_open in absurd (cc) })
          (record { is_own = tt; clones = refl; failed = own-failed shape (answering (a.entrance.taken + length (x ∷ rest)) (length (x ∷ rest)) a.entrance.input a) (Enqueue a.entrance.source (Bytes (x ∷ rest))) (All-nil (IsCause (answering (a.entrance.taken + length (x ∷ rest)) (length (x ∷ rest)) a.entrance.input a))); closes = λ i e. absurd (cc); flushes = λ i j e. absurd (cc) })
          asks settles_it (λ j. bytes-at shape a.entrance.source bytes s.led.is_of.source x rest (suc j) ∙ not-first (told (Bytes (x ∷ rest) ∷ []) MayCome) j)
          (subst (λ (i : Input). IsShortOf (then_told (in_bytes (enters_in shape 0 (Enqueue a.entrance.source (Bytes (x ∷ rest))))) (lost_by i)) (told ((x ∷ rest) ∷ []) MayCome)) (sym was_open)
          (subst (λ (t : Told Value). IsShortOf (then_told (in_bytes t) nothing_yet) (told ((x ∷ rest) ∷ []) MayCome)) (sym (bytes-at shape a.entrance.source bytes s.led.is_of.source x rest 0)) (refl, refl)))
          (λ e. subst (λ q. OneAtMost (length (x ∷ rest)) (then_told (behind_at 0 a.core.realm.slots) q).items) (sym (bytes-at shape a.entrance.source bytes s.led.is_of.source x rest 0))
          (one-comes (length (x ∷ rest)) (x ∷ rest) (behind_at 0 a.core.realm.slots) e refl (omega arith)))
          fed_all one_short (omega arith) (omega arith) (omega arith)
          (subst (λ (i : Input). InputGoes i i (told ((x ∷ rest) ∷ []) MayCome) m₀ m₁) (sym was_open) (refl, piece.calm, piece.before_end (omega arith)))

      taken_by : (c : Node) (t : Bool) → nat_lt a.entrance.most (a.entrance.taken + length (x ∷ rest)) ≡ t → takes_bytes (x ∷ rest) (record a { entrance = record a.entrance { asked = None } }) c t → Asks (settles id) c b
          → Handled shape a b m₀ m₁ p p
      taken_by c true e asks settles_it = too_many c (grind (arith, nat_tests)) asks settles_it
      taken_by c false e asks settles_it = some c (grind (arith, nat_tests)) asks settles_it

    once : (piece : Result (List ℕ) Failed) (c : Node) → GivesPiece old new before now want piece → Takes piece (record a { entrance = record a.entrance { asked = None } }) c → Asks (settles id) c b
        → Handled shape a b m₀ m₁ p p
    once (Ok []) c gives takes settles_it = ended c gives takes settles_it
    once (Ok (x ∷ rest)) c gives takes settles_it = taken_by x rest gives c (nat_lt a.entrance.most (a.entrance.taken + length (x ∷ rest))) refl takes settles_it
    once (Err failure) c gives takes settles_it = failed c gives.moved gives.before_end gives.rose takes settles_it

-- there was no memory for a read
wanted : (shape : Shape) (past : List Entry) (a : Node) (m : Moment) (p : Got) → Since shape past a → a.core.stopped ≡ None
    → Handled shape a (record a { core = record a.core { stopped = Some NoMemory }; entrance = record a.entrance { asked = None } }) m m p p
wanted shape past a m p s goes =
    let b : Node = record a { core = record a.core { stopped = Some NoMemory }; entrance = record a.entrance { asked = None } } in
    record {
      past = past;
      led = led-stopped shape past (record a { entrance = record a.entrance { asked = None } }) NoMemory (λ e. absurd (cc)) (led-unasked shape past a s.led);
      pushes = λ e. absurd (cc);
      one = s.one;
      ends = ends-as shape past a b refl refl (stays-going a.core.stopped (Some NoMemory) goes) s.ends;
      went = went-quietly a b m p p (Gains-nothing p) (going-stays a b goes)
          (record { taken = refl; ahead = λ e. refl; input = refl; output = refl; abort = refl; stages = refl; source = refl; sink = refl; most = refl; pipe = refl; pipes = refl; first = refl; above = refl; below = refl; broken = refl })
          (goes_rests (machines (stages_in a.core)) 0 (works_in a.core) (lies_in a) (lies_in b) (as-many a) (λ j h k. ((lies_in a j).items, refl)));
    }

-- a node reads its input, or doesn't
pub reads : (wf : ℕ) (finished : Option Bool) (p : Got) (shape : Shape) (past : List Entry) (a b : Node) (old new : Option Feed) (before now : ℕ) → Since shape past a
    → Reads a b old new before now → Handled shape a b (moment before old wf finished) (moment now new wf finished) p p
reads wf finished p shape past a b old new before now s (ReadNot none same unread) =
    rw (same, unread.feed, unread.calm) (record { past = past; led = s.led; pushes = s.pushes; one = s.one; ends = s.ends; went = went-same a (moment before old wf finished) p })
reads wf finished p shape past a b old new before now s (Wanted goes unread id asked same) =
    rw (same, unread.feed, unread.calm) (wanted shape past a (moment before old wf finished) p s goes)
reads wf finished p shape past a b old new before now s (ReadOnce goes written whole was_open id asked want most limit piece gives c takes settles_it) =
    once wf finished p shape past a b old new before now s goes written whole was_open id asked want most limit piece c gives takes settles_it
