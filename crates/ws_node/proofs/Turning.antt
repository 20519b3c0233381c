-- A turn of a node: it posts, takes a message at each end, and goes on; and what it answers.
use Rattle.std.proofs.Common.{◌≡◌, ◌+◌, ◌≤◌, ◌<◌, Bool, true, false, ◌||◌, ◌&&◌, if◌then◌else◌, is_some, List, [], ◌∷◌, ◌++◌, length, Option, Some, None, refl, sym, ap, ◌∙◌, subst, length-append, arith}
use Rattle.ws_value.specs.declared.ids.PortId.{PortId}
use Rattle.ws_value.specs.declared.value.Message.{Message}
use Rattle.ws_edge.specs.Edge.{AtEdge, FindsFull, FindsNone}
use Rattle.ws_io.specs.Gain.{Got, straight}
use Rattle.ws_io.specs.Moment.{Moment, moment}
use Rattle.ws_port.specs.Ends.{Posted, Taken}
use Rattle.ws_steps.specs.declared.calls.Call.{Call}
use Rattle.ws_steps.specs.Queues.{is_empty}
use Rattle.ws_steps.specs.Run.{Entry, Worked as JobWorked, Heard, is_idle, run}
use Rattle.ws_steps.specs.Slots.{is_live}
use Rattle.ws_alike.specs.Alike.{trim}
use Rattle.ws_chain_laws.specs.Chain.{source_port}
use Rattle.ws_realm.specs.declared.realm.Why.TheVariants as why
use Rattle.ws_node.specs.declared.node.Core.{Core}
use Rattle.ws_node.specs.declared.node.Entrance.{Entrance}
use Rattle.ws_node.specs.declared.node.Exit.{Exit}
use Rattle.ws_node.specs.declared.node.Node.{Node}
use Rattle.ws_node.specs.declared.turn.Turn.TheVariants.{Ended, Worked}
use Rattle.ws_node.specs.Edges.{posts_at, PostsBoth, TellsBoth, NoneHeld, NoEnd, HasStopped, NotLive, TakesAbove, NotAbove, NoMore, NoneAbove, TookAbove, TakesBelow, NotBelow, NoneBelow, TookBelow, takes_more}
use Rattle.ws_node.specs.Moves.{Asks, Performed, Refused}
use Rattle.ws_node.specs.Node.{is_busy, is_over, port_below, received_at, sent_at}
use Rattle.ws_node.specs.Past.{Driven}
use Rattle.ws_node.specs.Turns.{GivesHeard, PostsHeard, GoesBy, IsBegun, JobFirst, EventFirst, SameEnds, TookOne, PostedOne, IsQuietEnd, AreQuiet, AreTold, HasDone, SentAbove, SentBelow, Begun, Turned}
use Rattle.ws_node.specs.Went.{ComesIn, ByInput, ByEdge, GoesOut, ToOutput, ToEdge, Went}
use Rattle.ws_node.proofs.Giving.{gives-post, gives-then, posts-give, takes-above-give, takes-below-give, tells-give}
use Rattle.ws_node.proofs.Going.{Stays, went-then}
use Rattle.ws_node.proofs.Handled.{Handled, since-handled, driven-handled}
use Rattle.ws_node.proofs.Posting.{posts}
use Rattle.ws_node.proofs.Telling.{told-end}
use Rattle.ws_node.proofs.Taking.{takes-above, takes-below}

-- What a turn does first
pub record Begins (a b t u : Node) (posted up down : Bool) : Type 0 where
  pub driven : Driven a
  pub goes : a.core.stopped ≡ None
  pub post : PostsBoth posted a b
  pub above : TakesAbove up b t
  pub below : TakesBelow down t u

module _ (a b t u : Node) (posted up down : Bool) (s : Begins a b t u posted up down) where
  module _ (m : Moment) (p : Got) where
    first : Handled s.driven.shape a b m m p p
    first = let d = s.driven in posts d.shape d.past a b posted m p s.goes d.since s.post

    second : Handled s.driven.shape b t m m p p
    second = let d = s.driven in takes-above d.shape first.past b t up m p (since-handled d.shape d.past a b m m p p d.since first) s.above

    third : Handled s.driven.shape t u m m p p
    third =
        let d = s.driven in
        takes-below d.shape second.past t u down m p (since-handled d.shape first.past b t m m p p (since-handled d.shape d.past a b m m p p d.since first) second) s.below

    pub begins-driven-at : Driven u
    begins-driven-at =
        let d = s.driven in
        driven-handled d.shape second.past t u m m p p (since-handled d.shape first.past b t m m p p (since-handled d.shape d.past a b m m p p d.since first) second) third

    pub begins-went : Went a u m m p p
    begins-went = went-then a t u m m m p p p (went-then a b t m m m p p p first.went second.went) third.went

  pub begins-driven : Driven u
  begins-driven = begins-driven-at (moment 0 None 0 None) (straight (λ xs. Unit {0}))

  begins-stay : (x y : Node) (m : Moment) (p : Got) → Went x y m m p p → Stays x y
  begins-stay x y m p w why e = (w.stays why e).same

  pub begins-give : GivesHeard a u
  begins-give =
      let m : Moment = moment 0 None 0 None in
      let p : Got = straight (λ xs. Unit {0}) in
      gives-then a t u (begins-stay t u m p (third m p).went)
      (gives-then a b t (begins-stay b t m p (second m p).went) (posts-give posted a b s.post) (takes-above-give up b t s.above)) (takes-below-give down t u s.below)

  -- and then it goes on
  pub turn-goes : (d : Node) (m n : Moment) (p q : Got) → Went u d m n p q → Went a d m n p q
  turn-goes d m n p q on = went-then a u d m m n p p q (begins-went m p) on

  turn-gives : (d : Node) (m n : Moment) (p q : Got) → Went u d m n p q → GivesHeard u d → GivesHeard a d
  turn-gives d m n p q on gives = gives-then a u d (λ why e. (on.stays why e).same) begins-give gives

  pub turn-posts : (d : Node) (m n : Moment) (p q : Got) → Went u d m n p q → GivesHeard u d → PostsHeard a d
  turn-posts d m n p q on gives = gives-post a d m n p q (turn-goes d m n p q on) (turn-gives d m n p q on gives)

  -- or finds no memory, and tells its neighbours so
  pub told-posts : (d e : Node) (m n : Moment) (p q : Got) → Went u d m n p q → GivesHeard u d → d.core.stopped ≡ Some why.NoMemory → TellsBoth d e → Went a e m n p q → PostsHeard a e
  told-posts d e m n p q on gives full tells whole = gives-post a e m n p q whole (tells-give a d e full (turn-gives d m n p q on gives) tells)

  pub told-all : (d e : Node) (m n : Moment) (p q : Got) → Went u d m n p q → GivesHeard u d → TellsBoth d e → AreTold a e
  told-all d e m n p q on gives tells =
      let g = turn-gives d m n p q on gives in
      record {
        above = told-end _ d.core.stopped tells.posts.above a.entrance.above d.entrance.above tells.mid.entrance.above e.entrance.above g.above tells.tells_above tells.posts.posts_above;
        below = told-end _ d.core.stopped tells.posts.below a.exit.below d.exit.below tells.mid.exit.below e.exit.below g.below tells.tells_below tells.posts.posts_below;
      }

  posted-went : (m n : Moment) (p q : Got) (d : Node) → Went u d m n p q → Went b d m n p q
  posted-went m n p q d on = went-then b u d m m n p p q (went-then b t u m m m p p p (second m p).went (third m p).went) on

  took-went : (m n : Moment) (p q : Got) (d : Node) → Went u d m n p q → Went t d m n p q
  took-went m n p q d on = went-then t u d m m n p p q (third m p).went on

-- What was taken and posted stays

more-by : (xs ys zs : List Message) → ys ≡ xs ++ zs → length xs ≤ length ys
more-by xs ys zs e = omega (arith, ap length e, length-append xs zs)

up-sent : (x y : Node) (m n : Moment) (p q : Got) → Went x y m n p q → length (sent_at x.entrance.above) ≤ length (sent_at y.entrance.above)
up-sent x y m n p q w = by w.from where
  by : ComesIn x.entrance y.entrance m n w.read → length (sent_at x.entrance.above) ≤ length (sent_at y.entrance.above)
  by (ByInput e on) = let f = ap (λ o. length (sent_at o)) on.above in omega arith
  by (ByEdge e on) = more-by (sent_at x.entrance.above) (sent_at y.entrance.above) on.posted on.end.sent

up-received : (x y : Node) (m n : Moment) (p q : Got) → Went x y m n p q → length (received_at x.entrance.above) ≤ length (received_at y.entrance.above)
up-received x y m n p q w = by w.from where
  by : ComesIn x.entrance y.entrance m n w.read → length (received_at x.entrance.above) ≤ length (received_at y.entrance.above)
  by (ByInput e on) = let f = ap (λ o. length (received_at o)) on.above in omega arith
  by (ByEdge e on) = more-by (received_at x.entrance.above) (received_at y.entrance.above) on.taken on.end.received

down-sent : (x y : Node) (m n : Moment) (p q : Got) → Went x y m n p q → length (sent_at x.exit.below) ≤ length (sent_at y.exit.below)
down-sent x y m n p q w = by w.into where
  by : GoesOut x.exit y.exit m n p q w.went w.gain w.out → length (sent_at x.exit.below) ≤ length (sent_at y.exit.below)
  by (ToOutput e on) = let f = ap (λ o. length (sent_at o)) on.below in omega arith
  by (ToEdge e on) = more-by (sent_at x.exit.below) (sent_at y.exit.below) on.posted on.end.sent

down-received : (x y : Node) (m n : Moment) (p q : Got) → Went x y m n p q → length (received_at x.exit.below) ≤ length (received_at y.exit.below)
down-received x y m n p q w = by w.into where
  by : GoesOut x.exit y.exit m n p q w.went w.gain w.out → length (received_at x.exit.below) ≤ length (received_at y.exit.below)
  by (ToOutput e on) = let f = ap (λ o. length (received_at o)) on.below in omega arith
  by (ToEdge e on) = more-by (received_at x.exit.below) (received_at y.exit.below) on.taken on.end.received

-- What was done

posts-more : (o q : Option AtEdge) → posts_at true o q → length (sent_at o) < length (sent_at q)
posts-more None q h = absurd (let e : true ≡ false = h.1 in cc)
posts-more (Some e) (Some f) h = h.some refl
posts-more (Some e) None h = absurd h

one-more : (xs ys : List Message) (m : Message) → ys ≡ xs ++ m ∷ [] → length xs < length ys
one-more xs ys m e = omega (arith, ap length e, length-append xs (m ∷ []))

asks-ends : (c : Call) (n b : Node) → Asks c n b → (b.entrance ≡ n.entrance) × (b.exit ≡ n.exit)
asks-ends c n b (Performed realm slots young goes is) = (ap (λ (x : Node). x.entrance) is, ap (λ (x : Node). x.exit) is)
asks-ends c n b (Refused why stops is) = (ap (λ (x : Node). x.entrance) is, ap (λ (x : Node). x.exit) is)

took-more-up : (b t : Node) → TakesAbove true b t → length (received_at b.entrance.above) < length (received_at t.entrance.above)
took-more-up b t (NotAbove e held same) = absurd (cc)
took-more-up b t (NoMore e more same) = absurd (cc)
took-more-up b t (NoneAbove e goes x f is none same) = absurd (cc)
took-more-up b t (TookAbove e goes more m x f is took brings) =
    one-more (received_at b.entrance.above) (received_at t.entrance.above) m
    (ap (λ (z : Entrance). received_at z.above) (asks-ends _ _ t brings).0 ∙ (took.received ∙ ap (λ (o : Option AtEdge). received_at o ++ m ∷ []) (sym is)))

took-more-down : (t u : Node) → TakesBelow true t u → length (received_at t.exit.below) < length (received_at u.exit.below)
took-more-down t u (NotBelow e held same) = absurd (cc)
took-more-down t u (NoneBelow e goes x f is none same) = absurd (cc)
took-more-down t u (TookBelow e goes m x f is took asks) =
    one-more (received_at t.exit.below) (received_at u.exit.below) m
    (ap (λ (z : Exit). received_at z.below) (asks-ends _ _ u asks).1 ∙ (took.received ∙ ap (λ (o : Option AtEdge). received_at o ++ m ∷ []) (sym is)))

-- where nothing was taken, the realm is as it was, and so is the other end

kept-above : (b t : Node) → TakesAbove false b t → (t.core ≡ b.core) × (t.exit ≡ b.exit)
kept-above b t (NotAbove e held same) = (ap (λ (n : Node). n.core) same, ap (λ (n : Node). n.exit) same)
kept-above b t (NoMore e more same) = (ap (λ (n : Node). n.core) same, ap (λ (n : Node). n.exit) same)
kept-above b t (NoneAbove e goes x f is none same) = (ap (λ (n : Node). n.core) same, ap (λ (n : Node). n.exit) same)
kept-above b t (TookAbove e goes more m x f is took brings) = absurd (cc)

kept-below : (t u : Node) → TakesBelow false t u → (u.core ≡ t.core) × (u.entrance ≡ t.entrance)
kept-below t u (NotBelow e held same) = (ap (λ (n : Node). n.core) same, ap (λ (n : Node). n.entrance) same)
kept-below t u (NoneBelow e goes x f is none same) = (ap (λ (n : Node). n.core) same, ap (λ (n : Node). n.entrance) same)
kept-below t u (TookBelow e goes m x f is took asks) = absurd (cc)

goes-as : (x : Entry) (a u d : Node) → u.core ≡ a.core → GoesBy x u d → GoesBy x a d
goes-as x a u d e goes = record { rest = goes.rest; slots = goes.slots ∙ ap (λ (c : Core). trim (run (x ∷ goes.rest) c.realm.slots)) e }

begun-as : (a u d : Node) → u.core ≡ a.core → IsBegun u d → IsBegun a d
begun-as a u d e (JobFirst idle goes) =
    JobFirst (subst (λ (c : Core). is_idle c.realm.slots ≡ false) e idle) (goes-as JobWorked a u d e goes)
begun-as a u d e (EventFirst none goes) =
    EventFirst (subst (λ (c : Core). is_empty c.realm.slots.promises.events ≡ false) e none) (goes-as Heard a u d e goes)

module _ (a b t u : Node) (posted : Bool) (d : Node) (m n : Moment) (p q : Got) (on : Went u d m n p q) where
  -- a message was posted
  done-posted : (up down : Bool) → Begins a b t u true up down → HasDone a d
  done-posted up down s = by s.post.above s.post.below s.post.posted_is s.post.posts_above s.post.posts_below where
    whole : Went b d m n p q
    whole = posted-went a b t u true up down s m n p q d on

    by : (x y : Bool) → true ≡ (x || y) → posts_at x a.entrance.above b.entrance.above → posts_at y a.exit.below b.exit.below → HasDone a d
    by true y e h k =
        let some = posts-more a.entrance.above b.entrance.above h in
        let more = up-sent b d m n p q whole in
        SentAbove (PostedOne (omega arith))
    by false true e h k =
        let some = posts-more a.exit.below b.exit.below k in
        let more = down-sent b d m n p q whole in
        SentBelow (PostedOne (omega arith))
    by false false e h k = absurd (cc)

  -- one was taken
  done-above : (down : Bool) → Begins a b t u posted true down → HasDone a d
  done-above down s =
      let some = took-more-up b t s.above in
      let more = up-received t d m n p q (took-went a b t u posted true down s m n p q d on) in
      let before = up-received a b m m p p (first a b t u posted true down s m p).went in
      SentAbove (TookOne (omega arith))

  done-below : (up : Bool) → Begins a b t u posted up true → HasDone a d
  done-below up s =
      let some = took-more-down t u s.below in
      let more = down-received u d m n p q on in
      let before = down-received a b m m p p (first a b t u posted up true s m p).went in
      let between = down-received b t m m p p (second a b t u posted up true s m p).went in
      SentBelow (TookOne (omega arith))

  -- or what waited was begun with
  done-begun : Begins a b t u posted false false → IsBegun u d → HasDone a d
  done-begun s h =
      Begun (begun-as a u d ((kept-below t u s.below).0 ∙ ((kept-above b t s.above).0 ∙ ap (λ (n : Node). n.core) s.post.is)) h)

pub done : (a b t u : Node) (posted up down busy : Bool) (d : Node) (m n : Moment) (p q : Got) → Went u d m n p q → Begins a b t u posted up down → busy ≡ is_busy u.core
    → (is_busy u.core ≡ true → IsBegun u d) → (((posted || up) || down) || busy) ≡ true → HasDone a d
done a b t u true up down busy d m n p q on s is begun some = done-posted a b t u true d m n p q on up down s
done a b t u false true down busy d m n p q on s is begun some = done-above a b t u false d m n p q on down s
done a b t u false false true busy d m n p q on s is begun some = done-below a b t u false d m n p q on false s
done a b t u false false false busy d m n p q on s is begun some = done-begun a b t u false d m n p q on s (begun (sym is ∙ some))

-- A turn that ends once something was posted

module _ (a b : Node) (driven : Driven a) (goes : a.core.stopped ≡ None) (post : PostsBoth true a b) where
  module _ (m : Moment) (p : Got) where
    only : Handled driven.shape a b m m p p
    only = posts driven.shape driven.past a b true m p goes driven.since post

    pub posted-only-went : Went a b m m p p
    posted-only-went = only.went

  pub posted-only-driven : Driven b
  posted-only-driven =
      let m : Moment = moment 0 None 0 None in
      let p : Got = straight (λ xs. Unit {0}) in
      driven-handled driven.shape driven.past a b m m p p driven.since (only m p)

  pub posted-only-gives : PostsHeard a b
  posted-only-gives =
      let m : Moment = moment 0 None 0 None in
      let p : Got = straight (λ xs. Unit {0}) in
      gives-post a b m m p p (posted-only-went m p) (posts-give true a b post)

  pub posted-only-goes : b.core.stopped ≡ None
  posted-only-goes = ap (λ (n : Node). n.core.stopped) post.is ∙ goes

  pub posted-only-done : HasDone a b
  posted-only-done = by post.above post.below post.posted_is post.posts_above post.posts_below where
    by : (x y : Bool) → true ≡ (x || y) → posts_at x a.entrance.above b.entrance.above → posts_at y a.exit.below b.exit.below → HasDone a b
    by true y e h k = SentAbove (PostedOne (posts-more a.entrance.above b.entrance.above h))
    by false true e h k = SentBelow (PostedOne (posts-more a.exit.below b.exit.below k))
    by false false e h k = absurd (cc)

  -- how it ended
  pub posted-only-turn : (over : Bool) → over ≡ is_over b → Turned (if over then Ended else Worked) a b
  posted-only-turn true e = (posted-only-goes, sym e)
  posted-only-turn false e = (posted-only-goes, sym e, posted-only-done)

-- where nothing was done

-- a look at an end where its port is held, and what waits there as it was
data Looked (held : Bool) (q r : Option AtEdge) : Type 0 where
  Without : q ≡ None → r ≡ None → Looked held q r
  With : (x y : AtEdge) → q ≡ Some x → r ≡ Some y → y.to ≡ x.to → y.waiting ≡ x.waiting → (held ≡ true → FindsNone x.from y.from) → Looked held q r

quiet-without : (held : Bool) (o : Option AtEdge) → posts_at false o None → IsQuietEnd held o None
quiet-without held None h = tt
quiet-without held (Some e) h = absurd h

quiet-with : (held : Bool) (o : Option AtEdge) (x y : AtEdge) → posts_at false o (Some x) → y.to ≡ x.to → y.waiting ≡ x.waiting → (held ≡ true → FindsNone x.from y.from) → IsQuietEnd held o (Some y)
quiet-with held None x y h to waiting look = absurd (let e : Some x ≡ None = h.0 in cc)
quiet-with held (Some e) x y h to waiting look = (
  λ on. subst (λ (z : Taken). FindsNone z y.from) h.from (look on),
  λ waits. subst (λ (z : Posted). FindsFull e.to z) (sym to) (h.full (sym (ap is_empty waiting) ∙ waits)),
)

quiet : (held : Bool) (o q r : Option AtEdge) → posts_at false o q → Looked held q r → IsQuietEnd held o r
quiet held o q r h (Without e f) = subst (λ z. IsQuietEnd held o z) (sym f) (quiet-without held o (subst (λ z. posts_at false o z) e h))
quiet held o q r h (With x y e f to waiting look) =
    subst (λ z. IsQuietEnd held o z) (sym f) (quiet-with held o x y (subst (λ z. posts_at false o z) e h) to waiting look)

-- an end that wasn't looked at, since its port isn't held
same-end : (held : Bool) (q r : Option AtEdge) → r ≡ q → (held ≡ true → (x : AtEdge) → q ≡ Some x → ⊥) → Looked held q r
same-end held None r e never = Without refl e
same-end held (Some x) r e never = With x x refl e refl refl (λ on. absurd (never on x refl))

none-held : (port : PortId) (b : Node) (o : Option AtEdge) (more : Bool) → b.core.stopped ≡ None → NoneHeld port b o → (is_live port b.core.realm.slots && more) ≡ true → (x : AtEdge) → o ≡ Some x → ⊥
none-held port b o more goes (NoEnd e) on x f = absurd (cc)
none-held port b o more goes (HasStopped h) on x f = absurd (h goes)
none-held port b o more goes (NotLive e) on x f = absurd (let g : (false && more) ≡ true = subst (λ z. (z && more) ≡ true) e on in cc)

no-more : (live more : Bool) → more ≡ false → (live && more) ≡ true → ⊥
no-more true more e on = cc
no-more false more e on = cc

looks-above : (b t : Node) → b.core.stopped ≡ None → TakesAbove false b t → Looked (is_live source_port b.core.realm.slots && takes_more b.entrance.input) b.entrance.above t.entrance.above
looks-above b t goes (NotAbove e held same) =
    same-end _ b.entrance.above t.entrance.above (ap (λ (n : Node). n.entrance.above) same) (none-held source_port b b.entrance.above (takes_more b.entrance.input) goes held)
looks-above b t goes (NoMore e more same) =
    same-end _ b.entrance.above t.entrance.above (ap (λ (n : Node). n.entrance.above) same)
    (λ on x f. no-more (is_live source_port b.core.realm.slots) (takes_more b.entrance.input) more on)
looks-above b t goes (NoneAbove e going x f is none same) = With x f is (ap (λ (n : Node). n.entrance.above) same) none.to none.waiting (λ on. none.looked)
looks-above b t goes (TookAbove e going more m x f is took brings) = absurd (cc)

and-true : (b : Bool) → b ≡ true → (b && true) ≡ true
and-true b e = rw e refl

looks-below : (b t : Node) → b.core.stopped ≡ None → TakesBelow false b t → Looked (is_live (port_below b.entrance) b.core.realm.slots) b.exit.below t.exit.below
looks-below b t goes (NotBelow e held same) =
    same-end _ b.exit.below t.exit.below (ap (λ (n : Node). n.exit.below) same)
    (λ on. none-held (port_below b.entrance) b b.exit.below true goes held (and-true (is_live (port_below b.entrance) b.core.realm.slots) on))
looks-below b t goes (NoneBelow e going x f is none same) = With x f is (ap (λ (n : Node). n.exit.below) same) none.to none.waiting (λ on. none.looked)
looks-below b t goes (TookBelow e going m x f is took asks) = absurd (cc)

-- the port of the edge below is the same where it is the same end
same-some : (o q : Option AtEdge) → posts_at false o q → is_some q ≡ is_some o
same-some None q h = ap is_some h.0
same-some (Some e) (Some f) h = refl
same-some (Some e) None h = absurd h

some-looked : (held : Bool) (q r : Option AtEdge) → Looked held q r → is_some r ≡ is_some q
some-looked held q r (Without e f) = ap is_some f ∙ sym (ap is_some e)
some-looked held q r (With x y e f to waiting look) = ap is_some f ∙ sym (ap is_some e)

port-same : (x y : Entrance) → is_some y.above ≡ is_some x.above → port_below y ≡ port_below x
port-same x y e = ap (λ (z : Bool). let c : PortId = (if z then record { 0 = 1 } else record { 0 = 0 }) in c) e

false-posted : (x y : Bool) → false ≡ (x || y) → (x ≡ false) × (y ≡ false)
false-posted false false e = (refl, refl)
false-posted false true e = absurd (cc)
false-posted true y e = absurd (cc)

module _ (a b t u d : Node) (s : Begins a b t u false false false) (rest : SameEnds u d) where
  none-posted : (s.post.above ≡ false) × (s.post.below ≡ false)
  none-posted = false-posted s.post.above s.post.below s.post.posted_is

  core-b : b.core ≡ a.core
  core-b = ap (λ (n : Node). n.core) s.post.is

  core-t : t.core ≡ a.core
  core-t = (kept-above b t s.above).0 ∙ core-b

  pub core-u : u.core ≡ a.core
  core-u = (kept-below t u s.below).0 ∙ core-t

  going-b : b.core.stopped ≡ None
  going-b = ap (λ (c : Core). c.stopped) core-b ∙ s.goes

  going-t : t.core.stopped ≡ None
  going-t = ap (λ (c : Core). c.stopped) core-t ∙ s.goes

  posts-up : posts_at false a.entrance.above b.entrance.above
  posts-up = subst (λ z. posts_at z a.entrance.above b.entrance.above) none-posted.0 s.post.posts_above

  posts-down : posts_at false a.exit.below b.exit.below
  posts-down = subst (λ z. posts_at z a.exit.below b.exit.below) none-posted.1 s.post.posts_below

  look-up : Looked (is_live source_port b.core.realm.slots && takes_more b.entrance.input) b.entrance.above t.entrance.above
  look-up = looks-above b t going-b s.above

  input-b : b.entrance.input ≡ a.entrance.input
  input-b = ap (λ (n : Node). n.entrance.input) s.post.is

  held-up : (is_live source_port b.core.realm.slots && takes_more b.entrance.input) ≡ (is_live source_port a.core.realm.slots && takes_more a.entrance.input)
  held-up = ap (λ (c : Core). is_live source_port c.realm.slots && takes_more b.entrance.input) core-b ∙ ap (λ i. is_live source_port a.core.realm.slots && takes_more i) input-b

  above-d : d.entrance.above ≡ t.entrance.above
  above-d = rest.above ∙ ap (λ (x : Entrance). x.above) (kept-below t u s.below).1

  below-t : t.exit.below ≡ b.exit.below
  below-t = ap (λ (x : Exit). x.below) (kept-above b t s.above).1

  port-t : port_below t.entrance ≡ port_below a.entrance
  port-t = port-same a.entrance t.entrance (some-looked _ b.entrance.above t.entrance.above look-up ∙ same-some a.entrance.above b.entrance.above posts-up)

  held-down : is_live (port_below t.entrance) t.core.realm.slots ≡ is_live (port_below a.entrance) a.core.realm.slots
  held-down = ap (λ (c : Core). is_live (port_below t.entrance) c.realm.slots) core-t ∙ ap (λ z. is_live z a.core.realm.slots) port-t

  pub are-quiet : AreQuiet a d
  are-quiet = record {
    above = subst (λ o. IsQuietEnd (is_live source_port a.core.realm.slots && takes_more a.entrance.input) a.entrance.above o) (sym above-d)
        (quiet _ a.entrance.above b.entrance.above t.entrance.above posts-up (subst (λ h. Looked h b.entrance.above t.entrance.above) held-up look-up));
    below = subst (λ o. IsQuietEnd (is_live (port_below a.entrance) a.core.realm.slots) a.exit.below o) (sym rest.below)
        (quiet _ a.exit.below b.exit.below u.exit.below posts-down
        (subst (λ o. Looked (is_live (port_below a.entrance) a.core.realm.slots) o u.exit.below) below-t
        (subst (λ h. Looked h t.exit.below u.exit.below) held-down (looks-below t u going-t s.below))));
  }

pub idle : (a b t u d : Node) (posted up down busy : Bool) → Begins a b t u posted up down → busy ≡ is_busy u.core → (is_busy u.core ≡ false → SameEnds u d)
    → (((posted || up) || down) || busy) ≡ false → (is_busy a.core ≡ false) × AreQuiet a d
idle a b t u d true up down busy s is same none = absurd (cc)
idle a b t u d false true down busy s is same none = absurd (cc)
idle a b t u d false false true busy s is same none = absurd (cc)
idle a b t u d false false false busy s is same none =
    let calm : is_busy u.core ≡ false = sym is ∙ none in
    let rest = same calm in
    (sym (ap is_busy (core-u a b t u d s rest)) ∙ calm, are-quiet a b t u d s rest)
