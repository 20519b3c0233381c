-- What a port posts, over every run: of its kinds, nothing after a close or an error, and chunks no more than were asked for; and when it is
-- entangled.
use Rattle.std.proofs.Common.{◌≡◌, ℕ, ◌+◌, ◌≤◌, Bool, true, false, ◌&&◌, ◌||◌, if◌then◌else◌, List, [], ◌∷◌, ◌++◌, length, Option, Some, None, refl, sym, ap, ◌∙◌, append-nil, append_assoc, arith}
use Rattle.ws_steps.specs.declared.effects.Effect.TheVariants.{Readable}
use Rattle.ws_steps.specs.declared.effects.Gift.TheVariants.{This}
use Rattle.std.proofs.Common.{Err}
use Rattle.ws_steps.specs.Promises.{next_id}
use Rattle.ws_steps.specs.declared.effects.Effect.TheVariants.{Give}
use Rattle.std.proofs.Common.{length-append}
use Rattle.std.proofs.Common.{not}
use Rattle.ws_tee_port_laws.proofs.ports.Told.{settle-posted}
use Rattle.ws_tee_port_laws.proofs.ports.Told.{fresh-events}
use Rattle.std.specs.Prelude.{All}
use Rattle.std.proofs.lemmas.List.Elements.{All-push}
use Rattle.ws_value.specs.declared.ids.PortId.{PortId}
use Rattle.ws_value.specs.declared.ids.PromiseId.{PromiseId}
use Rattle.ws_value.specs.declared.value.Message.{Message}
use Rattle.ws_value.specs.declared.value.Message.TheVariants.{Pull as PullMessage, Chunk as ChunkMessage, Close as CloseMessage, Error as ErrorMessage}
use Rattle.ws_value.specs.declared.value.Plain.{Plain}
use Rattle.ws_value.specs.Values.{is_cloneable}
use Rattle.ws_steps.specs.declared.calls.Event.TheVariants.{Post}
use Rattle.ws_steps.specs.declared.effects.Effect.{Effect}
use Rattle.ws_steps.specs.declared.effects.Effect.TheVariants.{Writable, Port}
use Rattle.ws_steps.specs.declared.effects.Gift.TheVariants.{Fresh}
use Rattle.ws_steps.specs.declared.effects.Use.{Use}
use Rattle.ws_steps.specs.declared.effects.Use.TheVariants.{Resolve}
use Rattle.ws_value.specs.declared.value.Value.{Value}
use Rattle.ws_steps.specs.declared.port.PortOperation.{PortOperation}
use Rattle.ws_steps.specs.declared.port.PortOperation.TheVariants as ports
use Rattle.ws_steps.specs.declared.port.Side.{Side}
use Rattle.ws_steps.specs.declared.port.Side.TheVariants.{Readable as ReadableSide, Writable as WritableSide}
use Rattle.ws_steps.specs.declared.transform.Taker.TheVariants.{ToPort}
use Rattle.ws_steps.specs.declared.writable.WritableOperation.TheVariants as writes
use Rattle.ws_steps.specs.Cross as cross
use Rattle.ws_steps.specs.Cross.{Acts, post, post_or_fail, data_clone}
use Rattle.ws_steps.specs.Operations.{port_operation}
use Rattle.ws_steps.specs.PortHistory.{is_same_port, posted_in, chunk_in, chunks_in, is_asking, asks_in, is_end, has_end, ends_last, goes_up, goes_down}
use Rattle.ws_steps.specs.Promises.{Table, tell}
use Rattle.ws_laws.proofs.Lists.{Each}
use Rattle.ws_laws.proofs.Tables.{either}
use Rattle.ws_laws.proofs.Truth.{false_true}
use Rattle.ws_steps.specs.declared.readable.ReadableOperation.TheVariants as reads
use Rattle.ws_tee_port_laws.proofs.ports.Told.{posted, posted-append}

-- lists of messages with one more

pub has_end-more : (ms : List Message) (m : Message) → has_end (ms ++ m ∷ []) ≡ has_end ms || is_end m
has_end-more [] m = grind arith
has_end-more (n ∷ ms) m = let h = has_end-more ms m in grind (arith, h)

pub ends_last-more : (ms : List Message) (m : Message) → has_end ms ≡ false → ends_last ms ≡ true → ends_last (ms ++ m ∷ []) ≡ true
ends_last-more [] m n l = grind arith
ends_last-more (PullMessage ∷ ms) m n l = ends_last-more ms m n l
ends_last-more (ChunkMessage v ∷ ms) m n l = ends_last-more ms m n l
ends_last-more (CloseMessage ∷ ms) m n l = cc
ends_last-more (ErrorMessage r ∷ ms) m n l = cc

pub chunks-more : (ms : List Message) (m : Message) → chunks_in (ms ++ m ∷ []) ≡ chunks_in ms ++ chunk_in m
chunks-more [] m = append-nil (chunk_in m)
chunks-more (n ∷ ms) m = ap (λ vs. chunk_in n ++ vs) (chunks-more ms m) ∙ sym (append_assoc (chunk_in n) (chunks_in ms) (chunk_in m))

pub asks-more : (ms : List Message) (m : Message) → asks_in (ms ++ m ∷ []) ≡ asks_in ms + is_asking m
asks-more [] m = omega arith
asks-more (n ∷ ms) m = let h = asks-more ms m in omega arith

abbrev pub goes : Side → Message → Bool
goes ReadableSide m = goes_up m
goes WritableSide m = goes_down m

-- what stands on the agenda for a port

abbrev pub total : (Effect → ℕ) → List Effect → ℕ
total f [] = 0
total f (e ∷ es) = f e + total f es

pub total-append : (f : Effect → ℕ) (xs ys : List Effect) → total f (xs ++ ys) ≡ total f xs + total f ys
total-append f [] ys = omega arith
total-append f (x ∷ xs) ys = let h = total-append f xs ys in omega arith

abbrev pub some_of : (Effect → Bool) → List Effect → Bool
some_of f [] = false
some_of f (e ∷ es) = f e || some_of f es

pub some_of-append : (f : Effect → Bool) (xs ys : List Effect) → some_of f (xs ++ ys) ≡ some_of f xs || some_of f ys
some_of-append f [] ys = refl
some_of-append f (x ∷ xs) ys = let h = some_of-append f xs ys in grind (arith, h)

-- a chunk that is to be posted by it
abbrev pub chunks_of : PortId → Effect → ℕ
chunks_of c (Writable i (writes.HandOn (ToPort d p))) = if is_same_port c d then 1 else 0
chunks_of c (Port d (ports.PostChunk v p)) = if is_same_port c d then 1 else 0
chunks_of c _ = 0

-- an end of its backpressure
abbrev pub asks_of : PortId → Bool → Effect → ℕ
asks_of c live (Port d ports.Unblock) = if is_same_port c d then 1 else 0
asks_of c live (Port d (ports.Deliver m)) = if is_same_port c d && live then is_asking m else 0
asks_of c live _ = 0

-- a close or an error that comes
abbrev pub is_due : PortId → Effect → Bool
is_due c (Port d (ports.Deliver m)) = is_same_port c d && is_end m
is_due c _ = false

abbrev pub none_of : Option PromiseId → ℕ
none_of None = 1
none_of (Some p) = 0

-- what was taken ends it, where its end is readable
abbrev pub ended_by : Side → List Message → Bool
ended_by ReadableSide ms = has_end ms
ended_by WritableSide ms = false

-- what comes is to end it, where its end is readable
abbrev pub due_by : Side → Bool → Bool
due_by ReadableSide b = b
due_by WritableSide b = false

-- the chunks that it may yet post of what it took
abbrev pub weight : PortId → cross.Slots → List Effect → ℕ
weight c x es = none_of x.backpressure + total (chunks_of c) es + total (asks_of c x.live) es

-- at a moment: what a port took and posted, the port, and the effects that still stand
pub record Posts (c : PortId) (taken ms : List Message) (x : cross.Slots) (es : List Effect) : Type 0 where
  pub posts : All (λ m. goes x.side m ≡ true) ms
  pub last : ends_last ms ≡ true
  pub going : x.live ≡ true → has_end ms ≡ false
  pub shut : x.live ≡ false → ended_by x.side taken || has_end ms ≡ true
  pub come : x.live ≡ true → ended_by x.side taken ≡ due_by x.side (some_of (is_due c) es)
  pub credit : x.side ≡ WritableSide → length (chunks_in ms) + weight c x es ≤ asks_in taken

pub is_same_port-refl : (c : PortId) → is_same_port c c ≡ true
is_same_port-refl c = grind arith

-- what an operation of a port posts

abbrev pub given_first : Bool → cross.Slots → Option PromiseId → List Message
given_first clones x None = if clones then [] else if x.live then ErrorMessage data_clone ∷ [] else []
given_first clones x (Some p) = []

abbrev pub given : Bool → PortOperation → cross.Slots → List Message
given clones ports.Pull x = if x.live then PullMessage ∷ [] else []
given clones (ports.Leave r u) x = if x.live then ErrorMessage (if is_cloneable r then r else data_clone) ∷ [] else []
given clones (ports.Write u) x = []
given clones (ports.WriteGoesOn d) x = given_first clones x x.backpressure
given clones (ports.PostChunk v d) x = if x.live then ChunkMessage v ∷ [] else []
given clones (ports.Close u) x = if x.live then CloseMessage ∷ [] else []
given clones (ports.Deliver m) x = []
given clones ports.Unblock x = []

module _ (c : PortId) where
  told-more : (t : Table) (m : Message) → posted c (tell (Post c m) t) ≡ posted c t ++ m ∷ []
  told-more t m = posted-append c t.events (Post c m ∷ []) ∙ (let h = is_same_port-refl c in rw h (ap (λ ms. posted c t ++ ms) refl))

  post-more : (m : Message) (a : Acts) → posted c (post c m a).out.promises ≡ posted c a.out.promises ++ (if a.slots.live then m ∷ [] else [])
  post-more m a = let h = told-more a.out.promises m in let n = append-nil (posted c a.out.promises) in grind (arith, h, n)

  fail-more : (r : Plain) (a : Acts) (clones : Bool) → posted c (post_or_fail c (ErrorMessage r) a clones).out.promises
      ≡ posted c a.out.promises ++ (if a.slots.live then ErrorMessage (if clones then r else data_clone) ∷ [] else [])
  fail-more r a true = post-more (ErrorMessage r) a
  fail-more r a false = post-more (ErrorMessage data_clone) a

  hand-more : (d : PromiseId) (a : Acts) (clones : Bool) → posted c (cross.hand_on c d a clones).out.promises
      ≡ posted c a.out.promises ++ (if clones then [] else if a.slots.live then ErrorMessage data_clone ∷ [] else [])
  hand-more d a true = sym (append-nil (posted c a.out.promises))
  hand-more d a false = post-more (ErrorMessage data_clone) a

  go-more : (clones : Bool) (d : PromiseId) (a : Acts) (p : Option PromiseId) → posted c (cross.go_on c clones d a p).out.promises
      ≡ posted c a.out.promises ++ given_first clones a.slots p
  go-more clones d a None = hand-more d (cross.hold_back a) clones ∙ ap (λ ms. ms ++ given_first clones a.slots None) (ap (posted_in c) (fresh-events a.out.promises))
  go-more clones d a (Some p) = sym (append-nil (posted c a.out.promises))

  unblock-more : (a : Acts) (p : Option PromiseId) → posted c (cross.unblock_by a p).out.promises ≡ posted c a.out.promises ++ []
  unblock-more a None = sym (append-nil (posted c a.out.promises))
  unblock-more a (Some p) = settle-posted c p cross.done a.out.promises ∙ sym (append-nil (posted c a.out.promises))

  deliver-more : (m : Message) (a : Acts) (side : Side) → posted c (cross.deliver_to c m a side).out.promises ≡ posted c a.out.promises ++ []
  unfolding cross.unblock
  deliver-more PullMessage a ReadableSide = sym (append-nil (posted c a.out.promises))
  deliver-more (ChunkMessage v) a ReadableSide = sym (append-nil (posted c a.out.promises))
  deliver-more CloseMessage a ReadableSide = sym (append-nil (posted c a.out.promises))
  deliver-more (ErrorMessage r) a ReadableSide = sym (append-nil (posted c a.out.promises))
  deliver-more PullMessage a WritableSide = unblock-more a a.slots.backpressure
  deliver-more (ChunkMessage v) a WritableSide = sym (append-nil (posted c a.out.promises))
  deliver-more CloseMessage a WritableSide = sym (append-nil (posted c a.out.promises))
  deliver-more (ErrorMessage r) a WritableSide = sym (append-nil (posted c a.out.promises))

  pub given-more : (clones : Bool) (operation : PortOperation) (a : Acts) → posted c (port_operation c clones operation a).out.promises
      ≡ posted c a.out.promises ++ given clones operation a.slots
  unfolding cross.pull cross.leave cross.close cross.write cross.write_goes_on cross.post_chunk cross.unblock cross.deliver
  given-more clones ports.Pull a = post-more PullMessage a
  given-more clones (ports.Leave r u) a = fail-more r a (is_cloneable r)
  given-more clones (ports.Write u) a = ap (posted_in c) (fresh-events a.out.promises) ∙ sym (append-nil (posted c a.out.promises))
  given-more clones (ports.WriteGoesOn d) a = go-more clones d a a.slots.backpressure
  given-more clones (ports.PostChunk v d) a = post-more (ChunkMessage v) a
  given-more clones (ports.Close u) a = post-more CloseMessage a
  given-more clones (ports.Deliver m) a =
      either (λ (z : Acts). posted c z.out.promises ≡ posted c a.out.promises ++ []) a.slots.live (cross.deliver_to c m a a.slots.side) a
      (λ e. deliver-more m a a.slots.side) (λ e. sym (append-nil (posted c a.out.promises)))
  given-more clones ports.Unblock a = unblock-more a a.slots.backpressure

module _ (c : PortId) (taken ms : List Message) (x y : cross.Slots) (es fs : List Effect) (p : Posts c taken ms x es) (side : y.side ≡ x.side) where
  -- nothing is posted
  pub calm : y.live ≡ x.live → (x.live ≡ true → due_by x.side (some_of (is_due c) fs) ≡ due_by x.side (some_of (is_due c) es)) → (x.side ≡ WritableSide → weight c y fs ≤ weight c x es) → Posts c taken ms y fs
  calm live due few = record {
    posts = rw side p.posts;
    last = p.last;
    going = λ e. p.going (sym live ∙ e);
    shut = λ e. rw side (p.shut (sym live ∙ e));
    come = λ e. rw side (p.come (sym live ∙ e) ∙ sym (due (sym live ∙ e)));
    credit = λ e. let w = few (sym side ∙ e) in let h = p.credit (sym side ∙ e) in omega (arith, w, h);
  }

  -- it isn't entangled any more
  parts : y.live ≡ false → ended_by x.side taken || has_end ms ≡ true → (x.side ≡ WritableSide → weight c y fs ≤ weight c x es) → Posts c taken ms y fs
  parts live ended few = record {
    posts = rw side p.posts;
    last = p.last;
    going = λ e. cc;
    shut = λ e. rw side ended;
    come = λ e. cc;
    credit = λ e. let w = few (sym side ∙ e) in let h = p.credit (sym side ∙ e) in omega (arith, w, h);
  }

  -- a message is posted
  gives : (m : Message) → x.live ≡ true → goes x.side m ≡ true → y.live ≡ not (is_end m) → due_by x.side (some_of (is_due c) fs) ≡ due_by x.side (some_of (is_due c) es)
      → (x.side ≡ WritableSide → length (chunk_in m) + weight c y fs ≤ weight c x es) → Posts c taken (ms ++ m ∷ []) y fs
  gives m is goes_so live due few = record {
    posts = rw side (All-push (λ m. goes x.side m ≡ true) ms m p.posts goes_so);
    last = ends_last-more ms m (p.going is) p.last;
    going = λ e. let h = has_end-more ms m in let n = p.going is in grind (arith, h, n);
    shut = λ e. let h = has_end-more ms m in grind (arith, h);
    come = λ e. rw side (p.come is ∙ sym due);
    credit = λ e. let w = few (sym side ∙ e) in let h = p.credit (sym side ∙ e) in
        let n = ap length (chunks-more ms m) ∙ length-append (chunks_in ms) (chunk_in m) in omega (arith, w, h, n);
  }

-- something is done with a promise
abbrev IsGive : Effect → Type 0
IsGive (Give gift u) = Unit {0}
IsGive _ = ⊥

-- what an operation of port c leaves and causes
module _ (c : PortId) (x : cross.Slots) (t : Table) where
  abbrev pub port_acts : Acts
  port_acts = record { slots = x; out = record { promises = t; effects = [] } }

  pub record Does (b : Acts) (y : cross.Slots) (fs : List Effect) : Type 0 where
    pub slots : b.slots ≡ y
    pub effects : b.out.effects ≡ fs

  abbrev pub dead : cross.Slots
  dead = record x { live = false }

  pub post-does : (m : Message) → Does (post c m port_acts) x []
  post-does m = record { slots = grind arith; effects = grind arith }

  fail-does : (m : Message) (clones : Bool) → Does (post_or_fail c m port_acts clones) x []
  fail-does m true = post-does m
  fail-does m false = post-does (ErrorMessage data_clone)

  pub leave-does : (r : Plain) (u : Use) → Does (cross.leave c r u port_acts) dead (Give (Fresh (cross.posted (is_cloneable r))) u ∷ [])
  unfolding cross.leave
  leave-does r u = let h = fail-does (ErrorMessage r) (is_cloneable r) in let a = h.slots in let b = h.effects in record { slots = grind (arith, a); effects = grind (arith, b) }

  pub close-does : (u : Use) → Does (cross.close c u port_acts) dead (Give (Fresh cross.done) u ∷ [])
  unfolding cross.close
  close-does u = let h = post-does CloseMessage in let a = h.slots in let b = h.effects in record { slots = grind (arith, a); effects = grind (arith, b) }

  pub chunk-does : (v : Value) (d : PromiseId) → Does (cross.post_chunk c v d port_acts) x (Give (Fresh cross.done) (Resolve d) ∷ [])
  unfolding cross.post_chunk
  chunk-does v d = let h = post-does (ChunkMessage v) in let a = h.slots in let b = h.effects in record { slots = grind (arith, a); effects = grind (arith, b) }

asks-less : (c : PortId) (l : Bool) (es : List Effect) → total (asks_of c false) es ≤ total (asks_of c l) es
asks-less c l [] = omega arith
asks-less c l (e ∷ es) = let h = asks-less c l es in let n = one e in omega arith
  where
    one : (e : Effect) → asks_of c false e ≤ asks_of c l e
    one e = grind arith

-- what an operation needs of the side of its port
abbrev pub Suits : cross.Slots → PortOperation → Type 0
Suits x ports.Pull = x.side ≡ ReadableSide
Suits x (ports.PostChunk v d) = x.side ≡ WritableSide
Suits x (ports.Close u) = x.side ≡ WritableSide
Suits x operation = Unit {0}

-- an operation of port c
module _ (c : PortId) (taken ms : List Message) (x : cross.Slots) (es : List Effect) where
  abbrev Goes : PortOperation → cross.Slots → List Effect → List Message → Type 0
  Goes operation y fs given = Posts c taken ms x (Port c operation ∷ es) → Posts c taken (ms ++ given) y (fs ++ es)

  abbrev Due : List Effect → Bool
  Due fs = due_by x.side (some_of (is_due c) fs)

  -- a post, where it is entangled
  post-goes : (operation : PortOperation) (m : Message) (y : cross.Slots) (fs : List Effect) → y.side ≡ x.side → goes x.side m ≡ true → (x.live ≡ true → y.live ≡ not (is_end m))
      → (x.live ≡ false → y.live ≡ false) → Due (fs ++ es) ≡ Due (Port c operation ∷ es)
      → (x.side ≡ WritableSide → length (chunk_in m) + weight c y (fs ++ es) ≤ weight c x (Port c operation ∷ es)) → Goes operation y fs (if x.live then m ∷ [] else [])
  post-goes operation m y fs side goes_so live dead due few p = by x.live refl
    where
      by : (l : Bool) → l ≡ x.live → Posts c taken (ms ++ (if l then m ∷ [] else [])) y (fs ++ es)
      by true e = gives c taken ms x y (Port c operation ∷ es) (fs ++ es) p side m (sym e) goes_so (live (sym e)) due few
      by false e =
          rw (append-nil ms) (calm c taken ms x y (Port c operation ∷ es) (fs ++ es) p side (dead (sym e) ∙ e) (λ k. due) (λ w. let n = few w in omega (arith, n)))

  -- nothing is posted
  calm-goes : (operation : PortOperation) (y : cross.Slots) (fs : List Effect) → y.side ≡ x.side → y.live ≡ x.live → (x.live ≡ true → Due (fs ++ es) ≡ Due (Port c operation ∷ es))
      → (x.side ≡ WritableSide → weight c y (fs ++ es) ≤ weight c x (Port c operation ∷ es)) → Goes operation y fs []
  calm-goes operation y fs side live due few p = rw (append-nil ms) (calm c taken ms x y (Port c operation ∷ es) (fs ++ es) p side live due few)

  abbrev pub gone : cross.Slots
  gone = record x { live = false }

  both-go : (r : Plain) → goes x.side (ErrorMessage r) ≡ true
  both-go r = by x.side
    where
      by : (side : Side) → goes side (ErrorMessage r) ≡ true
      by ReadableSide = refl
      by WritableSide = refl

  pull-goes : x.side ≡ ReadableSide → Goes ports.Pull x [] (if x.live then PullMessage ∷ [] else [])
  pull-goes is = post-goes ports.Pull PullMessage x [] refl (rw is refl) (λ e. e) (λ e. e) refl (λ w. let n : ReadableSide ≡ WritableSide = sym is ∙ w in cc)

  leave-goes : (r e : Plain) (u : Use) (gift : _) → Goes (ports.Leave r u) gone (Give gift u ∷ []) (if x.live then ErrorMessage e ∷ [] else [])
  leave-goes r e u gift =
      post-goes (ports.Leave r u) (ErrorMessage e) gone (Give gift u ∷ []) refl (both-go e) (λ e. refl) (λ e. refl) refl (λ w. let h = asks-less c x.live es in omega arith)

  close-goes : (u : Use) (gift : _) → x.side ≡ WritableSide → Goes (ports.Close u) gone (Give gift u ∷ []) (if x.live then CloseMessage ∷ [] else [])
  close-goes u gift is =
      post-goes (ports.Close u) CloseMessage gone (Give gift u ∷ []) refl (rw is refl) (λ e. refl) (λ e. refl) refl (λ w. let h = asks-less c x.live es in omega arith)

  chunk-goes : (v : Value) (d : PromiseId) (gift : _) → x.side ≡ WritableSide → Goes (ports.PostChunk v d) x (Give gift (Resolve d) ∷ []) (if x.live then ChunkMessage v ∷ [] else [])
  chunk-goes v d gift is =
      post-goes (ports.PostChunk v d) (ChunkMessage v) x (Give gift (Resolve d) ∷ []) refl (rw is refl) (λ e. e) (λ e. e) refl
      (λ w. let h = is_same_port-refl c in rw h (omega arith))

  -- what is left after it, and what it caused
  abbrev Ends : PortOperation → Acts → List Message → Type 0
  Ends operation b given = Posts c taken ms x (Port c operation ∷ es) → Posts c taken (ms ++ given) b.slots (b.out.effects ++ es)

  ends : (operation : PortOperation) (t : Table) (b : Acts) (y : cross.Slots) (fs : List Effect) (given : List Message) → Does c x t b y fs → Goes operation y fs given → Ends operation b given
  ends operation t b y fs given d g p = rw (d.slots, d.effects) (g p)

  module _ (t : Table) where
    abbrev Acted : Acts
    Acted = port_acts c x t

    wait-calm : (operation : PortOperation) (d : PromiseId) (more : List Effect) (o : Option PromiseId) → is_due c (Port c operation) ≡ false → Each IsGive more → Goes operation x (cross.wait_for o c d ∷ more) []
    wait-calm operation d more o n g =
        calm-goes operation x (cross.wait_for o c d ∷ more) refl refl (λ e. wait-due o) (λ w. wait-few o)
      where
        gives-due : (fs : List Effect) → Each IsGive fs → some_of (is_due c) (fs ++ es) ≡ some_of (is_due c) es
        gives-due [] g = refl
        gives-due (Give gift u ∷ fs) g = gives-due fs g.1
        gives-due (f ∷ fs) g = absurd g.0

        gives-chunks : (fs : List Effect) → Each IsGive fs → total (chunks_of c) (fs ++ es) ≡ total (chunks_of c) es
        gives-chunks [] g = refl
        gives-chunks (Give gift u ∷ fs) g = let h = gives-chunks fs g.1 in omega arith
        gives-chunks (f ∷ fs) g = absurd g.0

        gives-asks : (fs : List Effect) → Each IsGive fs → total (asks_of c x.live) (fs ++ es) ≡ total (asks_of c x.live) es
        gives-asks [] g = refl
        gives-asks (Give gift u ∷ fs) g = let h = gives-asks fs g.1 in omega arith
        gives-asks (f ∷ fs) g = absurd g.0

        wait-due : (o : Option PromiseId) → Due ((cross.wait_for o c d ∷ more) ++ es) ≡ Due (Port c operation ∷ es)
        wait-due None = rw (n, gives-due more g) refl
        wait-due (Some p) = rw (n, gives-due more g) refl

        wait-few : (o : Option PromiseId) → weight c x ((cross.wait_for o c d ∷ more) ++ es) ≤ weight c x (Port c operation ∷ es)
        wait-few None = let h = gives-chunks more g in let k = gives-asks more g in omega arith
        wait-few (Some p) = let h = gives-chunks more g in let k = gives-asks more g in omega arith

    write-ends : (u : Use) → Ends (ports.Write u) (cross.write c u Acted) []
    unfolding cross.write
    write-ends u p = wait-calm (ports.Write u) (next_id t) (Give (This (next_id t)) u ∷ []) x.backpressure refl (tt, tt) p

    abbrev held_back : cross.Slots
    held_back = record x { backpressure = Some (next_id t) }

    hand-goes : (d : PromiseId) → x.backpressure ≡ None → Goes (ports.WriteGoesOn d) held_back (Writable x.stream (writes.HandOn (ToPort c d)) ∷ []) []
    hand-goes d n =
        calm-goes (ports.WriteGoesOn d) held_back (Writable x.stream (writes.HandOn (ToPort c d)) ∷ []) refl refl (λ e. refl)
        (λ w. let h = is_same_port-refl c in let k = ap none_of n in rw h (omega (arith, k)))

    fail-goes : (d : PromiseId) (gift : _) → x.backpressure ≡ None
        → Goes (ports.WriteGoesOn d) (record held_back { live = false }) (Give gift (Resolve d) ∷ []) (if x.live then ErrorMessage data_clone ∷ [] else [])
    fail-goes d gift n =
        post-goes (ports.WriteGoesOn d) (ErrorMessage data_clone) (record held_back { live = false }) (Give gift (Resolve d) ∷ []) refl (both-go data_clone) (λ e. refl) (λ e. refl) refl
        (λ w. let h = asks-less c x.live es in let k = ap none_of n in omega (arith, h, k))

    fail-does_so : (d : PromiseId) → (b : Acts) → b ≡ cross.hand_on c d (cross.hold_back Acted) false → Does c x t b (record held_back { live = false }) (Give (Fresh (Err data_clone)) (Resolve d) ∷ [])
    fail-does_so d b e = rw e (record { slots = grind arith; effects = grind arith })

    go-ends : (clones : Bool) (d : PromiseId) (o : Option PromiseId) → o ≡ x.backpressure → Ends (ports.WriteGoesOn d) (cross.go_on c clones d Acted o) (given_first clones x o)
    go-ends true d None n = hand-goes d (sym n)
    go-ends false d None n = ends (ports.WriteGoesOn d) t _ _ _ _ (fail-does_so d _ refl) (fail-goes d (Fresh (Err data_clone)) (sym n))
    go-ends clones d (Some p) n = wait-calm (ports.WriteGoesOn d) d [] (Some p) refl tt

    unblock-ends : (o : Option PromiseId) → o ≡ x.backpressure → Ends ports.Unblock (cross.unblock_by Acted o) []
    unblock-ends None n =
        calm-goes ports.Unblock x [] refl refl (λ e. refl) (λ w. omega arith)
    unblock-ends (Some q) n =
        calm-goes ports.Unblock (record x { backpressure = None }) [] refl refl (λ e. refl)
        (λ w. let h = is_same_port-refl c in let k = ap none_of n in rw h (omega (arith, k)))

    pulled-ends : (o : Option PromiseId) → o ≡ x.backpressure → x.live ≡ true → Ends (ports.Deliver PullMessage) (cross.unblock_by Acted o) []
    pulled-ends None n l =
        calm-goes (ports.Deliver PullMessage) x [] refl refl (λ e. rw (is_same_port-refl c) refl) (λ w. omega arith)
    pulled-ends (Some q) n l =
        calm-goes (ports.Deliver PullMessage) (record x { backpressure = None }) [] refl refl (λ e. rw (is_same_port-refl c) refl)
        (λ w. let k = ap none_of n in let one : asks_of c x.live (Port c (ports.Deliver PullMessage)) ≡ 1 = rw (is_same_port-refl c, l) refl in omega (arith, k, one))

    abbrev Delivers : Message → Side → Type 0
    Delivers m side = side ≡ x.side → x.live ≡ true → Ends (ports.Deliver m) (cross.deliver_to c m Acted side) []

    -- what comes ends it
    parts-goes : (m : Message) (fs : List Effect) → is_end m ≡ true → x.side ≡ ReadableSide → x.live ≡ true → Goes (ports.Deliver m) gone fs []
    parts-goes m fs e side l p =
        let all : some_of (is_due c) (Port c (ports.Deliver m) ∷ es) ≡ true = rw (is_same_port-refl c, e) refl in
        let was : ended_by x.side taken ≡ true = p.come l ∙ (ap (due_by x.side) all ∙ rw side refl) in
        rw (append-nil ms) (parts c taken ms x gone (Port c (ports.Deliver m) ∷ es) (fs ++ es) p refl refl (rw was refl)
        (λ w. let n : ReadableSide ≡ WritableSide = sym side ∙ w in cc))

    -- and what doesn't, of a readable end
    up-goes : (m : Message) (fs : List Effect) → is_end m ≡ false → some_of (is_due c) (fs ++ es) ≡ some_of (is_due c) es → x.side ≡ ReadableSide → Goes (ports.Deliver m) x fs []
    up-goes m fs e same side =
        calm-goes (ports.Deliver m) x fs refl refl (λ l. rw (is_same_port-refl c, e, same) refl) (λ w. let n : ReadableSide ≡ WritableSide = sym side ∙ w in cc)

    -- and of a writable one
    down-goes : (m : Message) (fs : List Effect) → (weight c x (fs ++ es) ≤ weight c x (Port c (ports.Deliver m) ∷ es)) → x.side ≡ WritableSide → Goes (ports.Deliver m) x fs []
    down-goes m fs few side = calm-goes (ports.Deliver m) x fs refl refl (λ l. rw side refl) (λ w. few)

    deliver-ends : (m : Message) (side : Side) → Delivers m side
    unfolding cross.unblock
    deliver-ends PullMessage ReadableSide e l = up-goes PullMessage [] refl refl (sym e)
    deliver-ends (ChunkMessage v) ReadableSide e l = up-goes (ChunkMessage v) (Readable x.stream (reads.Enqueue v) ∷ []) refl refl (sym e)
    deliver-ends CloseMessage ReadableSide e l = parts-goes CloseMessage (Readable x.stream reads.Close ∷ []) refl (sym e) l
    deliver-ends (ErrorMessage r) ReadableSide e l = parts-goes (ErrorMessage r) (Readable x.stream (reads.Error r) ∷ []) refl (sym e) l
    deliver-ends PullMessage WritableSide e l = pulled-ends x.backpressure refl l
    deliver-ends (ChunkMessage v) WritableSide e l = down-goes (ChunkMessage v) [] (omega arith) (sym e)
    deliver-ends CloseMessage WritableSide e l = down-goes CloseMessage [] (omega arith) (sym e)
    deliver-ends (ErrorMessage r) WritableSide e l =
        down-goes (ErrorMessage r) (Writable x.stream (writes.ErrorIfNeeded r) ∷ Port c ports.Unblock ∷ [])
        (let none : asks_of c x.live (Port c ports.Unblock) ≡ 1 = rw (is_same_port-refl c) refl in
        let one : asks_of c x.live (Port c (ports.Deliver (ErrorMessage r))) ≡ 1 = rw (is_same_port-refl c, l) refl in omega (arith, none, one)) (sym e)

    -- a port that isn't entangled takes nothing
    dropped : (m : Message) → x.live ≡ false → Ends (ports.Deliver m) Acted []
    dropped m n = calm-goes (ports.Deliver m) x [] refl refl (λ l. false_true x.live l n) (λ w. omega arith)

    pub port-ends : (clones : Bool) (operation : PortOperation) → Suits x operation → Ends operation (port_operation c clones operation Acted) (given clones operation x)
    unfolding cross.pull cross.write_goes_on cross.unblock cross.deliver
    port-ends clones ports.Pull f = ends ports.Pull t _ _ _ _ (post-does c x t PullMessage) (pull-goes f)
    port-ends clones (ports.Leave r u) f = ends (ports.Leave r u) t _ _ _ _ (leave-does c x t r u) (leave-goes r _ u _)
    port-ends clones (ports.Write u) f = write-ends u
    port-ends clones (ports.WriteGoesOn d) f = go-ends clones d x.backpressure refl
    port-ends clones (ports.PostChunk v d) f = ends (ports.PostChunk v d) t _ _ _ _ (chunk-does c x t v d) (chunk-goes v d _ f)
    port-ends clones (ports.Close u) f = ends (ports.Close u) t _ _ _ _ (close-does c x t u) (close-goes u _ f)
    port-ends clones (ports.Deliver m) f =
        either (λ (b : Acts). Ends (ports.Deliver m) b []) x.live (cross.deliver_to c m Acted x.side) Acted (λ l. deliver-ends m x.side refl l) (λ n. dropped m n)
    port-ends clones ports.Unblock f = unblock-ends x.backpressure refl
