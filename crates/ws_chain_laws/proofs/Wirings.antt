-- The streams of segments are made, and give the links that their numbers say.
use Rattle.std.proofs.Common.{◌≡◌, ℕ, zero, suc, ◌+◌, ◌*◌, ◌≤◌, List, [], ◌∷◌, ◌++◌, length, refl, sym, ap, subst, ◌∙◌, arith}
use Rattle.ws_steps.specs.Calls.{begin}
use Rattle.ws_steps.specs.Jobs.{begin_job}
use Rattle.ws_steps.specs.Promises.{fresh, settle, answer, react, follow, unfollow, use_gift, queue_micro, after_next_job, watch}
use Rattle.ws_steps.specs.Run.{Entry, Called, run, after_call}
use Rattle.ws_steps.specs.Slots.{Slots, empty, most_streams}
use Rattle.ws_steps.specs.Turns.{row, turns, call_host, performed}
use Rattle.ws_steps.specs.declared.calls.StartBy.TheVariants.{Now}
use Rattle.ws_steps.specs.declared.readable.SizeBy.TheVariants.{Count}
use Rattle.ws_link_laws.specs.Link.{Ear, OfSink, Giver, OfSource, OfHalf, giver_at}
use Rattle.ws_link_laws.proofs.Pipelines.{opened-source, opened-bytes}
use Rattle.ws_wire_laws.specs.Wire.{Joint, Each}
use Rattle.ws_wire_laws.specs.Segments.{Segment, Origin, FromChunks, FromBytes, FromPort, Target, Next, given_by, after_origin, along, after_stage, behind_stages, behind_segment, behind_segments, wiring, nothing_made, source_call, sink_call, transforms, streams_of}
use Rattle.ws_chain_laws.specs.Chain.{source_of, dest_of}
use Rattle.ws_chain_laws.proofs.Outlets.{opened-end}
use Rattle.ws_chain_laws.proofs.Pairs.{run-append, Pairs, Half}
use Rattle.ws_chain_laws.proofs.Sources.{source-link, half-source}
use Rattle.ws_chain_laws.proofs.Stages.{half-stage}
use Rattle.ws_chain_laws.proofs.Targets.{target-link, pairs-target}

-- link l, by what chunks come to it and what the host hears of it

abbrev pub numbered : (ℕ → Giver) → (ℕ → Ear) → ℕ → Joint
numbered g h l = record { from = source_of l; into = dest_of l; pipe = record { 0 = l }; gives = g l; hears = h l }

-- these are links from number l on
abbrev pub Follows : (ℕ → Giver) → (ℕ → Ear) → ℕ → List Joint → Type 0
Follows g h l [] = Unit {0}
Follows g h l (x ∷ xs) = (x ≡ numbered g h l) × Follows g h (suc l) xs

-- how far the numbers of links go

stages-link : (m : ℕ) (target : Target) (n : Next) → (behind_stages m target n).link ≡ n.link + (m + 1)
stages-link zero target n = let e = target-link target n in omega (arith, e)
stages-link (suc m) target n = let e = stages-link m target (after_stage n) in omega (arith, e)

pub segment-link : (x : Segment) (n : Next) → (behind_segment x n).link ≡ n.link + (x.count + 1)
segment-link x n = let a = stages-link x.count x.target (after_origin x.origin n) in let b = source-link x.origin n in omega (arith, a, b)

segments-link : (xs : List Segment) (n : Next) → n.link ≤ (behind_segments xs n).link
segments-link [] n = omega arith
segments-link (x ∷ xs) n = let a = segment-link x n in let b = segments-link xs (behind_segment x n) in omega (arith, a, b)

module _ (g : ℕ → Giver) (h : ℕ → Ear) where
  head-gives : (gv : Giver) (m : ℕ) (target : Target) (n : Next) (rest : List Joint) (l : ℕ) → Follows g h l (along gv m target n ++ rest) → g l ≡ gv
  head-gives gv zero target n rest l w = sym (ap (λ (x : Joint). x.gives) w.0)
  head-gives gv (suc m) target n rest l w = sym (ap (λ (x : Joint). x.gives) w.0)

  -- the transform streams and the sink of a segment, behind its source
  stages-made : (gv : Giver) (m : ℕ) (target : Target) (n : Next) (s : Slots) (rest : List Joint) → Half g h n s → Follows g h n.link (along gv m target n ++ rest)
      → 2 * (behind_stages m target n).link ≤ most_streams
      → Pairs g h (behind_stages m target n) (run (transforms m ++ Called (sink_call target) ∷ []) s) × Follows g h (behind_stages m target n).link rest
  stages-made gv zero target n s rest d w few =
      let e = target-link target n in (
        pairs-target g h target n s d (omega (arith, e, few)) (sym (ap (λ (x : Joint). x.hears) w.0)),
        subst (λ (l : ℕ). Follows g h l rest) (sym e) w.1,
      )
  stages-made gv (suc m) target n s rest d w few =
      let e = stages-link m target (after_stage n) in
      let next = OfHalf (record { 0 = n.transform }) in
      let gives : g (suc n.link) ≡ next = head-gives next m target (after_stage n) rest (suc n.link) w.1 in
      stages-made next m target (after_stage n) _ rest (half-stage g h n s d (omega (arith, e, few)) gives (sym (ap (λ (x : Joint). x.hears) w.0))) w.1 few

  behind-sink : (ts ys : List Entry) (c : Entry) (s : Slots) → run (ts ++ c ∷ ys) s ≡ run ys (run (ts ++ c ∷ []) s)
  behind-sink ts ys c s = run-append ts (c ∷ ys) s ∙ ap (run ys) (sym (run-append ts (c ∷ []) s))

  -- a segment whose source was made
  segment-made : (x : Segment) (n : Next) (s : Slots) (rest : List Joint) → Half g h (after_origin x.origin n) s → Follows g h n.link (along (given_by x.origin n.port) x.count x.target (after_origin x.origin n) ++ rest)
      → 2 * (behind_segment x n).link ≤ most_streams
      → Pairs g h (behind_segment x n) (run (transforms x.count ++ Called (sink_call x.target) ∷ []) s) × Follows g h (behind_segment x n).link rest
  segment-made x n s rest d w few =
      stages-made (given_by x.origin n.port) x.count x.target (after_origin x.origin n) s rest d
      (subst (λ (l : ℕ). Follows g h l (along (given_by x.origin n.port) x.count x.target (after_origin x.origin n) ++ rest)) (sym (source-link x.origin n)) w) few

  segments-made : (xs : List Segment) (n : Next) (s : Slots) → Pairs g h n s → 1 ≤ n.link → Follows g h n.link (wiring xs n) → 2 * (behind_segments xs n).link ≤ most_streams
      → Pairs g h (behind_segments xs n) (run (streams_of xs) s)
  segments-made [] n s p some w few = p
  segments-made (x ∷ xs) n s p some w few =
      let a = segment-link x n in
      let b = segments-link xs (behind_segment x n) in
      let rest : List Joint = wiring xs (behind_segment x n) in
      let gives : g n.link ≡ given_by x.origin n.port = head-gives (given_by x.origin n.port) x.count x.target (after_origin x.origin n) rest n.link w in
      let z : Slots = after_call (source_call x.origin) s in
      let one = segment-made x n z rest (half-source g h x.origin n s p some (omega (arith, a, b, few)) gives) w (omega (arith, b, few)) in
      subst (λ (y : Slots). Pairs g h (behind_segments xs (behind_segment x n)) y) (sym (behind-sink (transforms x.count) (streams_of xs) (Called (sink_call x.target)) z))
      (segments-made xs (behind_segment x n) _ one.0 (omega (arith, a)) one.1 few)

  -- the first source of all

  abbrev first : Origin → Slots
  first origin = after_call (source_call origin) empty

  first-half : (origin : Origin) → g 0 ≡ given_by origin 0 → Half g h (after_origin origin nothing_made) (first origin)
  unfolding fresh settle answer react follow unfollow use_gift queue_micro after_next_job watch call_host row turns performed begin_job begin
  first-half FromChunks e = record {
    opened = opened-source 0 Count Now;
    streams = refl;
    transforms = refl;
    ports = refl;
    free = λ k l. absurd (omega (arith, l));
    gives = λ k l. by k l;
    hears = λ k l. absurd (omega (arith, l));
    young = record { streams = (record { state = refl; queue = refl; request = refl }, tt); pipes = tt; signals = tt; count = refl; piped = refl; quiet = λ w. refl; unposted = λ d. refl };
  }
    where
      by : (k : ℕ) → k ≤ 0 → giver_at (source_of k) (first FromChunks) ≡ g k
      by zero l = sym e
      by (suc k) l = absurd (omega (arith, l))
  first-half FromBytes e = record {
    opened = opened-bytes 0 Now;
    streams = refl;
    transforms = refl;
    ports = refl;
    free = λ k l. absurd (omega (arith, l));
    gives = λ k l. by k l;
    hears = λ k l. absurd (omega (arith, l));
    young = record { streams = (record { state = refl; queue = refl; request = refl }, tt); pipes = tt; signals = tt; count = refl; piped = refl; quiet = λ w. refl; unposted = λ d. refl };
  }
    where
      by : (k : ℕ) → k ≤ 0 → giver_at (source_of k) (first FromBytes) ≡ g k
      by zero l = sym e
      by (suc k) l = absurd (omega (arith, l))
  first-half FromPort e = record {
    opened = opened-end;
    streams = refl;
    transforms = refl;
    ports = refl;
    free = λ k l. absurd (omega (arith, l));
    gives = λ k l. by k l;
    hears = λ k l. absurd (omega (arith, l));
    young = record { streams = (record { state = refl; queue = refl; request = refl }, tt); pipes = tt; signals = tt; count = refl; piped = refl; quiet = λ w. refl; unposted = λ d. refl };
  }
    where
      by : (k : ℕ) → k ≤ 0 → giver_at (source_of k) (first FromPort) ≡ g k
      by zero l = sym e
      by (suc k) l = absurd (omega (arith, l))

  -- all streams of segments, from nothing
  pub all-made : (x : Segment) (xs : List Segment) → Follows g h 0 (wiring (x ∷ xs) nothing_made) → 2 * (behind_segments (x ∷ xs) nothing_made).link ≤ most_streams
      → Pairs g h (behind_segments (x ∷ xs) nothing_made) (run (streams_of (x ∷ xs)) empty)
  all-made x xs w few =
      let a = segment-link x nothing_made in
      let b = segments-link xs (behind_segment x nothing_made) in
      let rest : List Joint = wiring xs (behind_segment x nothing_made) in
      let gives : g 0 ≡ given_by x.origin 0 = head-gives (given_by x.origin 0) x.count x.target (after_origin x.origin nothing_made) rest 0 w in
      let one = segment-made x nothing_made (first x.origin) rest (first-half x.origin gives) w (omega (arith, b, few)) in
      subst (λ (y : Slots). Pairs g h (behind_segments xs (behind_segment x nothing_made)) y) (sym (behind-sink (transforms x.count) (streams_of xs) (Called (sink_call x.target)) (first x.origin)))
      (segments-made xs (behind_segment x nothing_made) _ one.0 (omega (arith, a)) one.1 few)

  -- what is so of each number is so of each link
  pub each-numbered : (P : Joint → Type 0) (xs : List Joint) (l : ℕ) → Follows g h l xs → ((k : ℕ) → l ≤ k → suc k ≤ l + length xs → P (numbered g h k)) → Each P xs
  each-numbered P [] l w f = tt
  each-numbered P (x ∷ xs) l w f = (subst P (sym w.0) (f l (omega arith) (omega arith)), each-numbered P xs (suc l) w.1 (λ k a b. f k (omega (arith, a)) (omega (arith, b))))

-- by the list itself

abbrev pub gives_at : List Joint → ℕ → Giver
gives_at [] k = OfSource
gives_at (x ∷ xs) zero = x.gives
gives_at (x ∷ xs) (suc k) = gives_at xs k

abbrev pub hears_at : List Joint → ℕ → Ear
hears_at [] k = OfSink (dest_of k)
hears_at (x ∷ xs) zero = x.hears
hears_at (x ∷ xs) (suc k) = hears_at xs k

-- its numbers rise from l on
abbrev Numbers : ℕ → List Joint → Type 0
Numbers l [] = Unit {0}
Numbers l (x ∷ xs) = (x ≡ record { from = source_of l; into = dest_of l; pipe = record { 0 = l }; gives = x.gives; hears = x.hears }) × Numbers (suc l) xs

along-numbers : (gv : Giver) (m : ℕ) (target : Target) (n : Next) (rest : List Joint) → Numbers (behind_stages m target n).link rest → Numbers n.link (along gv m target n ++ rest)
along-numbers gv zero target n rest w = (refl, subst (λ (l : ℕ). Numbers l rest) (target-link target n) w)
along-numbers gv (suc m) target n rest w = (refl, along-numbers _ m target (after_stage n) rest w)

wiring-numbers : (xs : List Segment) (n : Next) → Numbers n.link (wiring xs n)
wiring-numbers [] n = tt
wiring-numbers (x ∷ xs) n =
    let rest : List Joint = wiring xs (behind_segment x n) in
    subst (λ (l : ℕ). Numbers l (along (given_by x.origin n.port) x.count x.target (after_origin x.origin n) ++ rest)) (source-link x.origin n)
    (along-numbers (given_by x.origin n.port) x.count x.target (after_origin x.origin n) rest (wiring-numbers xs (behind_segment x n)))

follows-of : (g : ℕ → Giver) (h : ℕ → Ear) (xs : List Joint) (l : ℕ) → Numbers l xs → ((k : ℕ) → g (l + k) ≡ gives_at xs k) → ((k : ℕ) → h (l + k) ≡ hears_at xs k) → Follows g h l xs
follows-of g h [] l w a b = tt
follows-of g h (x ∷ xs) l w a b =
    let zeroth : l + 0 ≡ l = omega arith in
    let gives : g l ≡ x.gives = subst (λ (q : ℕ). g q ≡ x.gives) zeroth (a 0) in
    let hears : h l ≡ x.hears = subst (λ (q : ℕ). h q ≡ x.hears) zeroth (b 0) in
    let is : record { from = source_of l; into = dest_of l; pipe = record { 0 = l }; gives = x.gives; hears = x.hears } ≡ numbered g h l =
    ap (λ (v : Giver). record { from = source_of l; into = dest_of l; pipe = record { 0 = l }; gives = v; hears = x.hears }) (sym gives)
    ∙ ap (λ (w : Ear). record { from = source_of l; into = dest_of l; pipe = record { 0 = l }; gives = g l; hears = w }) (sym hears) in (
      w.0 ∙ is,
      follows-of g h xs (suc l) w.1
          (λ k. let e : l + suc k ≡ suc l + k = omega arith in subst (λ (q : ℕ). g q ≡ gives_at xs k) e (a (suc k)))
          (λ k. let e : l + suc k ≡ suc l + k = omega arith in subst (λ (q : ℕ). h q ≡ hears_at xs k) e (b (suc k))),
    )

-- so the links of segments are those that their numbers say
pub wiring-follows : (xs : List Segment) → let ws : List Joint = wiring xs nothing_made in Follows (gives_at ws) (hears_at ws) 0 ws
wiring-follows xs =
    let ws : List Joint = wiring xs nothing_made in
    follows-of (gives_at ws) (hears_at ws) ws 0 (wiring-numbers xs nothing_made) (λ k. let e : 0 + k ≡ k = omega arith in ap (gives_at ws) e)
    (λ k. let e : 0 + k ≡ k = omega arith in ap (hears_at ws) e)

along-length : (gv : Giver) (m : ℕ) (target : Target) (n : Next) (rest : List Joint) → n.link + length (along gv m target n ++ rest) ≡ (behind_stages m target n).link + length rest
along-length gv zero target n rest = let e = target-link target n in omega (arith, e)
along-length gv (suc m) target n rest = let e = along-length (OfHalf (record { 0 = n.transform })) m target (after_stage n) rest in omega (arith, e)

pub wiring-length : (xs : List Segment) (n : Next) → n.link + length (wiring xs n) ≡ (behind_segments xs n).link
wiring-length [] n = omega arith
wiring-length (x ∷ xs) n =
    let a = along-length (given_by x.origin n.port) x.count x.target (after_origin x.origin n) (wiring xs (behind_segment x n)) in
    let b = source-link x.origin n in
    let c = wiring-length xs (behind_segment x n) in
    omega (arith, a, b, c)
