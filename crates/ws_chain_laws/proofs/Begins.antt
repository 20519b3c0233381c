-- What the calls that open a realm lead to (`each_wiring_begins`), and those of one segment (`each_chain_begins`).
use Rattle.std.proofs.Common.{◌≡◌, ℕ, zero, suc, ◌+◌, ◌*◌, ◌≤◌, ◌||◌, Bool, true, false, is_some, List, [], ◌∷◌, ◌++◌, length, Option, Some, None, slice_get, refl, sym, ap, subst, ◌∙◌, arith}
use Rattle.ws_value.specs.declared.ids.PromiseId.{PromiseId}
use Rattle.ws_value.specs.declared.ids.SignalId.{SignalId}
use Rattle.ws_steps.specs.declared.calls.Call.{Call}
use Rattle.ws_steps.specs.declared.calls.Reply.TheVariants.{Promise}
use Rattle.ws_steps.specs.Begun.{Begun}
use Rattle.ws_steps.specs.Calls.{begin}
use Rattle.ws_steps.specs.Pipes as pipe
use Rattle.ws_steps.specs.Promises.{next_id, fresh, rank_at}
use Rattle.ws_steps.specs.Run.{Entry, Called, step, run, reply_to, after_call}
use Rattle.ws_steps.specs.Slots.{Slots, Stream, ReadableStream, ByteStream, WritableStream, empty, most_streams, is_readable_stream, is_byte_stream, as_source, source_at, writable_at, pipe_at, as_pipe}
use Rattle.ws_laws.proofs.Tables.{writable_there}
use Rattle.ws_laws.proofs.Watched.{named-stays}
use Rattle.ws_promise_laws.proofs.Names.{run-names}
use Rattle.ws_pipe_laws.proofs.pipes.Kept.{each_pipe_stays}
use Rattle.ws_link_laws.specs.Room.{HasRoom}
use Rattle.ws_link_laws.specs.Sound.{IsLink, IsThere}
use Rattle.ws_link_laws.proofs.Steps.{the_stream, stream_at, source_there}
use Rattle.ws_link_laws.specs.Link.{Ear, Giver, silence, ear_at}
use Rattle.ws_wire_laws.specs.Wire.{Joint, IsJoint, behind_on}
use Rattle.ws_wire_laws.specs.Segments.{Segment, behind_segments, wiring, nothing_made, streams_of}
use Rattle.ws_wire_laws.proofs.Keeps.{each-front, each_part_is_wired}
use Rattle.ws_chain_laws.specs.Chain.{Origin, Target, source_of, dest_of, link_of, behind_at, links_of}
use Rattle.ws_chain_laws.specs.Opening.{one_segment, signals, signal_of, nothing_prevented, piping, pipes_from, making_of, made_of, opening_of, opened_of, wired_of, made, chained, promise_of, AreAnswered, BeginsWiring, EachWiringBegins, EachChainBegins}
use Rattle.ws_chain_laws.proofs.Links.{each-at}
use Rattle.ws_chain_laws.proofs.Lists.{all-get, get-last, split, rise}
pub use Rattle.ws_chain_laws.proofs.Pairs.{run-append}
use Rattle.ws_chain_laws.proofs.Ready as ready
use Rattle.ws_chain_laws.proofs.Ready.{ready-pairs, ready-signal, ready-pipe}
use Rattle.ws_chain_laws.proofs.Readied.{Ready}
use Rattle.ws_chain_laws.proofs.Wirings.{segment-link, all-made, each-numbered, gives_at, hears_at, wiring-follows, wiring-length}
use Rattle.ws_chain_laws.proofs.Young.{YoungStream, YoungSource, YoungSink, YoungPipe}

-- how a young source is seen
young-of : (o : Option Stream) → is_readable_stream o || is_byte_stream o ≡ true → YoungStream (the_stream o) → YoungSource (as_source o)
young-of None e y = cc
young-of (Some (ReadableStream r)) e y = y
young-of (Some (ByteStream b)) e y = y
young-of (Some (WritableStream w)) e y = cc

-- a young link: nothing is behind the host, and there is room

module _ (g : ℕ → Giver) (h : ℕ → Ear) (n c j k : ℕ) (s : Slots) (r : Ready g h n c j s) (less : suc k ≤ j) where
  link : IsLink (source_of k) (dest_of k) (link_of k) s
  link = r.links k less

  source-young : YoungSource (source_at (source_of k) s)
  source-young =
      young-of (slice_get s.streams (source_of k).0) link.source
      (all-get YoungStream s.streams (source_of k).0 (stream_at (source_of k) s) r.young.streams (source_there (slice_get s.streams (source_of k).0) link.source))

  sink-young : YoungSink (writable_at (dest_of k) s)
  sink-young = all-get YoungStream s.streams (dest_of k).0 (WritableStream (writable_at (dest_of k) s)) r.young.streams (writable_there (slice_get s.streams (dest_of k).0) link.sink)

  pipe-young : YoungPipe (pipe_at (link_of k) s)
  pipe-young = all-get YoungPipe s.pipes k (pipe_at (link_of k) s) r.young.pipes link.there

  young-room : HasRoom (dest_of k) (link_of k) s
  young-room = record { mark = sink-young.mark; size = sink-young.size; sized = rw sink-young.queue tt; room = rw (sink-young.queue, pipe-young.reading) (omega arith) }

  young-behind : behind_at k s ≡ silence
  young-behind =
      rw (
        r.young.quiet (ear_at (dest_of k) s),
        sink-young.state,
        sink-young.flight,
        sink-young.queue,
        pipe-young.phase,
        pipe-young.held,
        source-young.state,
        source-young.request,
        source-young.queue,
      ) refl

-- a sink that isn't piped yet
pub young-sink : (g : ℕ → Giver) (h : ℕ → Ear) (n c j k : ℕ) (s : Slots) → Ready g h n c j s → j ≤ k → k ≤ n → YoungSink (writable_at (dest_of k) s)
young-sink g h n c j k s r a l =
    let f = r.free k a l in
    all-get YoungStream s.streams (dest_of k).0 (WritableStream (writable_at (dest_of k) s)) r.young.streams (writable_there (slice_get s.streams (dest_of k).0) f.sink)

-- the promise of a pipe

pub promise-stays : (k : ℕ) (s : Slots) (xs : List Entry) (x : pipe.Slots) → slice_get s.pipes k ≡ Some x → promise_of k (run xs s) ≡ promise_of k s
promise-stays k s xs x e =
    let t = (each_pipe_stays (link_of k) s).in_run xs x e in
    ap (λ (o : Option pipe.Slots). (as_pipe o).promise) t.there ∙ (t.same.promise ∙ sym (ap (λ (o : Option pipe.Slots). (as_pipe o).promise) e))

pipe-answers : (g : ℕ → Giver) (h : ℕ → Ear) (n c j : ℕ) (s : Slots) → Ready g h n c j s → j ≤ n → (signal : Option SignalId) → IsThere signal s → reply_to (piping signal j) s ≡ Promise (promise_of j (after_call (piping signal j) s))
pipe-answers g h n c j s r l signal there =
    let is = ready.is-begun g h n c j s r l signal there in
    let p : PromiseId = next_id (fresh (fresh (fresh s.promises))) in
    let y : pipe.Slots = pipe.set_up (source_of j) (dest_of j) nothing_prevented signal p in
    let e = r.young.piped in
    let new : slice_get (begin (piping signal j) s).done.slots.pipes j ≡ Some y = rw is (subst (λ (m : ℕ). slice_get (s.pipes ++ y ∷ []) m ≡ Some y) e (get-last s.pipes y)) in
    let t = (each_pipe_stays (link_of j) s).in_call (piping signal j) y new in
    let told : promise_of j (after_call (piping signal j) s) ≡ p = ap (λ (o : Option pipe.Slots). (as_pipe o).promise) t.there ∙ t.same.promise in
    ap (λ (b : Begun). b.reply) is ∙ ap Promise (sym told)

-- the pipes but the last

pipes-ready : (g : ℕ → Giver) (h : ℕ → Ear) (n c j m : ℕ) (s : Slots) → Ready g h n c j s → j + m ≤ n → Ready g h n c (j + m) (run (pipes_from j m) s)
pipes-ready g h n c j zero s r l = let e : j + 0 ≡ j = omega arith in subst (λ (x : ℕ). Ready g h n c x s) (sym e) r
pipes-ready g h n c j (suc m) s r l =
    let e : j + suc m ≡ suc j + m = omega arith in
    subst (λ (x : ℕ). Ready g h n c x (run (pipes_from j (suc m)) s)) (sym e) (pipes-ready g h n c (suc j) m (after_call (piping None j) s) (ready-pipe g h n c j s r (omega (arith, l)) None tt) (omega (arith, l)))

pipes-answered : (g : ℕ → Giver) (h : ℕ → Ear) (n c j m : ℕ) (s : Slots) → Ready g h n c j s → j + m ≤ n → (xs : List Entry) → AreAnswered j m s (run xs (run (pipes_from j m) s))
pipes-answered g h n c j zero s r l xs = tt
pipes-answered g h n c j (suc m) s r l xs =
    let z : Slots = after_call (piping None j) s in
    let next : Ready g h n c (suc j) z = ready-pipe g h n c j s r (omega (arith, l)) None tt in
    let link : IsLink (source_of j) (dest_of j) (link_of j) z = next.links j (omega arith) in
    let stays = promise-stays j z (pipes_from (suc j) m ++ xs) (pipe_at (link_of j) z) link.there in
    let same : promise_of j (run xs (run (pipes_from (suc j) m) z)) ≡ promise_of j z = ap (promise_of j) (sym (run-append (pipes_from (suc j) m) xs z)) ∙ stays in
    (pipe-answers g h n c j s r (omega (arith, l)) None tt ∙ ap Promise (sym same), pipes-answered g h n c (suc j) m z next (omega (arith, l)) xs)

-- what a reply named stays watched

pub watched-run : (xs : List Entry) (p : PromiseId) (s : Slots) → is_some (rank_at s.promises p) ≡ true → is_some (rank_at (run xs s).promises p) ≡ true
watched-run [] p s h = h
watched-run (x ∷ xs) p s h = watched-run xs p (step s x) (named-stays s x p h)

abbrev IsWatched : ℕ → Slots → Type 0
IsWatched k s = is_some (rank_at s.promises (promise_of k s)) ≡ true

-- pipe j, which this call makes
pipe-watched : (g : ℕ → Giver) (h : ℕ → Ear) (n c j : ℕ) (before : List Entry) → Ready g h n c j (run before empty) → j ≤ n → (signal : Option SignalId) → IsThere signal (run before empty) → (xs : List Entry) → IsWatched j (run xs (after_call (piping signal j) (run before empty)))
pipe-watched g h n c j before r l signal there xs =
    let z : Slots = after_call (piping signal j) (run before empty) in
    let link : IsLink (source_of j) (dest_of j) (link_of j) z = (ready-pipe g h n c j (run before empty) r l signal there).links j (omega arith) in
    let named = run-names before (piping signal j) (promise_of j z) (pipe-answers g h n c j (run before empty) r l signal there) in
    let same = promise-stays j z xs (pipe_at (link_of j) z) link.there in
    subst (λ (q : PromiseId). is_some (rank_at (run xs z).promises q) ≡ true) (sym same) (watched-run xs (promise_of j z) z named)

-- and those after it
pipes-watched : (g : ℕ → Giver) (h : ℕ → Ear) (n c j m : ℕ) (before : List Entry) → Ready g h n c j (run before empty) → j + m ≤ n → (xs : List Entry) → (k : ℕ) → j ≤ k → suc k ≤ j + m → IsWatched k (run xs (run (pipes_from j m) (run before empty)))
pipes-watched g h n c j zero before r l xs k a b = absurd (omega (arith, a, b))
pipes-watched g h n c j (suc m) before r l xs k a b =
    let c₁ : Call = piping None j in
    let z : Slots = after_call c₁ (run before empty) in
    let rest = pipes_from (suc j) m in
    let first : IsWatched j (run xs (run rest z)) = subst (λ (s : Slots). IsWatched j s) (run-append rest xs z) (pipe-watched g h n c j before r (omega (arith, l)) None tt (rest ++ xs)) in
    let to : run (before ++ Called c₁ ∷ []) empty ≡ z = run-append before (Called c₁ ∷ []) empty in
    let next : Ready g h n c (suc j) (run (before ++ Called c₁ ∷ []) empty) = subst (λ (s : Slots). Ready g h n c (suc j) s) (sym to) (ready-pipe g h n c j (run before empty) r (omega (arith, l)) None tt) in
    rise (λ (i : ℕ). IsWatched i (run xs (run rest z))) j k a first
    (λ above. subst (λ (s : Slots). IsWatched k (run xs (run rest s))) to (pipes-watched g h n c (suc j) m (before ++ Called c₁ ∷ []) next (omega (arith, l)) xs k above (omega (arith, b))))

-- all of it

abbrev pub count : Bool → ℕ
count false = 0
count true = 1

streams-ready : (xs : List Segment) (n : ℕ) → (behind_segments xs nothing_made).link ≡ suc n → 2 * n + 2 ≤ most_streams
    → let ws : List Joint = wiring xs nothing_made in Ready (gives_at ws) (hears_at ws) n 0 0 (run (streams_of xs) empty)
streams-ready [] n links few = absurd (omega (arith, links))
streams-ready (x ∷ xs) n links few =
    let ws : List Joint = wiring (x ∷ xs) nothing_made in
    ready-pairs (gives_at ws) (hears_at ws) (behind_segments (x ∷ xs) nothing_made) n (run (streams_of (x ∷ xs)) empty)
    (all-made (gives_at ws) (hears_at ws) x xs (wiring-follows (x ∷ xs)) (omega (arith, links, few))) links

pub made-ready : (xs : List Segment) (n : ℕ) (signalled : Bool) → (behind_segments xs nothing_made).link ≡ suc n → 2 * n + 2 ≤ most_streams
    → let ws : List Joint = wiring xs nothing_made in Ready (gives_at ws) (hears_at ws) n (count signalled) 0 (made_of xs signalled)
made-ready xs n false links few =
    let ws : List Joint = wiring xs nothing_made in
    subst (λ (s : Slots). Ready (gives_at ws) (hears_at ws) n 0 0 s) (sym (run-append (streams_of xs) [] empty)) (streams-ready xs n links few)
made-ready xs n true links few =
    let ws : List Joint = wiring xs nothing_made in
    subst (λ (s : Slots). Ready (gives_at ws) (hears_at ws) n 1 0 s) (sym (run-append (streams_of xs) (signals true) empty))
    (ready-signal (gives_at ws) (hears_at ws) n (run (streams_of xs) empty) (streams-ready xs n links few))

pub opened-is : (xs : List Segment) (n : ℕ) (signalled : Bool) → opened_of xs n signalled ≡ run (pipes_from 0 n) (made_of xs signalled)
opened-is xs n signalled =
    run-append (streams_of xs) (signals signalled ++ pipes_from 0 n) empty
    ∙ (run-append (signals signalled) (pipes_from 0 n) (run (streams_of xs) empty) ∙ ap (run (pipes_from 0 n)) (sym (run-append (streams_of xs) (signals signalled) empty)))

first-there : {A : Type 0} (xs : List A) → length xs ≡ 1 → is_some (slice_get xs 0) ≡ true
first-there [] e = cc
first-there (x ∷ xs) e = refl

-- all pipes are made

module _ (xs : List Segment) (n : ℕ) (signalled : Bool) (links : (behind_segments xs nothing_made).link ≡ suc n) (few : 2 * n + 2 ≤ most_streams) where
  abbrev ws : List Joint
  ws = wiring xs nothing_made

  abbrev g : ℕ → Giver
  g = gives_at ws

  abbrev h : ℕ → Ear
  h = hears_at ws

  abbrev s : Slots
  s = opened_of xs n signalled

  abbrev z : Slots
  z = wired_of xs n signalled

  made-s : Ready g h n (count signalled) 0 (made_of xs signalled)
  made-s = made-ready xs n signalled links few

  piped-s : Ready g h n (count signalled) n (run (pipes_from 0 n) (made_of xs signalled))
  piped-s =
      let e : 0 + n ≡ n = omega arith in
      subst (λ (m : ℕ). Ready g h n (count signalled) m (run (pipes_from 0 n) (made_of xs signalled))) e (pipes-ready g h n (count signalled) 0 n (made_of xs signalled) made-s (omega arith))

  pub ready-s : Ready g h n (count signalled) n s
  ready-s = subst (λ (x : Slots). Ready g h n (count signalled) n x) (sym (opened-is xs n signalled)) piped-s

  pub there : IsThere (signal_of signalled) s
  there = by signalled (ready-s.young.count)
    where
      by : (b : Bool) → length s.signals ≡ count b → IsThere (signal_of b) s
      by false e = tt
      by true e = first-there s.signals e

  ready-z : Ready g h n (count signalled) (suc n) z
  ready-z = ready-pipe g h n (count signalled) n s ready-s (omega arith) (signal_of signalled) there

  last : reply_to (piping (signal_of signalled) n) s ≡ Promise (promise_of n z)
  last = pipe-answers g h n (count signalled) n s ready-s (omega arith) (signal_of signalled) there

  sink : YoungSink (writable_at (dest_of n) s)
  sink = young-sink g h n (count signalled) n n s ready-s (omega arith) (omega arith)

  others : (k : ℕ) → suc k ≤ n → IsWatched k z
  others k below =
      let to : run (pipes_from 0 n) (run (making_of xs signalled) empty) ≡ s = sym (opened-is xs n signalled) in
      subst (λ (x : Slots). IsWatched k (after_call (piping (signal_of signalled) n) x)) to
      (pipes-watched g h n (count signalled) 0 n (making_of xs signalled) made-s (omega arith) (Called (piping (signal_of signalled) n) ∷ []) k (omega arith) (omega (arith, below)))

  pub wiring-begins : BeginsWiring xs n signalled
  wiring-begins =
      let size : 0 + length ws ≡ (behind_segments xs nothing_made).link = wiring-length xs nothing_made in
      let below : (k : ℕ) → suc k ≤ 0 + length ws → k ≤ n = λ k l. omega (arith, l, size, links) in
      record {
        wired = each-numbered g h (λ x. IsJoint x z) ws 0 (wiring-follows xs)
            (λ k a b.
            let l = below k b in record {
              link = ready-z.links k (omega (arith, l));
              room = young-room g h n (count signalled) (suc n) k z ready-z (omega (arith, l));
              gives = ready-z.gives k l;
              hears = ready-z.hears k l;
            });
        none = each-numbered g h (λ x. behind_on x z ≡ silence) ws 0 (wiring-follows xs)
            (λ k a b. let l = below k b in young-behind g h n (count signalled) (suc n) k z ready-z (omega (arith, l)));
        unposted = ready-z.young.unposted;
        number = ready-s.young.piped;
        answered =
            subst (λ (x : Slots). AreAnswered 0 n (made_of xs signalled) (after_call (piping (signal_of signalled) n) x)) (sym (opened-is xs n signalled))
            (pipes-answered g h n (count signalled) 0 n (made_of xs signalled) made-s (omega arith) (Called (piping (signal_of signalled) n) ∷ []));
        last = last;
        watched = λ k l. split (λ (i : ℕ). IsWatched i z) n k l (pipe-watched g h n (count signalled) n (opening_of xs n signalled) ready-s (omega arith) (signal_of signalled) there []) (λ below. others k below);
        writable = sink.state;
        not_closing = let f = ready-s.free n (omega arith) (omega arith) in rw (f.close_request, f.close_in_flight) refl;
      }

pub each_wiring_begins : EachWiringBegins
each_wiring_begins xs n signalled links few = wiring-begins xs n signalled links few

-- a chain is one segment

pub one-link : (origin : Origin) (target : Target) (n : ℕ) → (behind_segments (one_segment origin target n) nothing_made).link ≡ suc n
one-link origin target n = let e = segment-link (record { origin = origin; count = n; target = target }) nothing_made in omega (arith, e)

pub chain-ready : (origin : Origin) (target : Target) (n : ℕ) (signalled : Bool) → 2 * n + 2 ≤ most_streams
    → let ws : List Joint = wiring (one_segment origin target n) nothing_made in Ready (gives_at ws) (hears_at ws) n (count signalled) 0 (made origin target n signalled)
chain-ready origin target n signalled few = made-ready (one_segment origin target n) n signalled (one-link origin target n) few

pub each_chain_begins : EachChainBegins
each_chain_begins origin target n signalled few =
    let b = each_wiring_begins (one_segment origin target n) n signalled (one-link origin target n) few in
    let z : Slots = chained origin target n signalled in
    let none = each-front (λ x. behind_on x z ≡ silence) (links_of origin target n) [] b.none in
    record {
      chain = ((each_part_is_wired (links_of origin target n) [] z).both b.wired).0;
      none = λ k l. each-at origin target (λ x. behind_on x z ≡ silence) n none k l;
      unposted = b.unposted;
      number = b.number;
      answered = b.answered;
      last = b.last;
      watched = b.watched;
      writable = b.writable;
      not_closing = b.not_closing;
    }
