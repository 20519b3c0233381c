-- A node of which nothing failed (`each_sound_node_is_whole`).
use Rattle.std.proofs.Common.{◌≡◌, ◌≢◌, ℕ, zero, suc, ◌+◌, ◌≤◌, false, List, [], ◌∷◌, length, map, Option, None, refl, sym, ap, subst, ◌∙◌, arith}
use Rattle.ws_flow.specs.declared.plan.Ending.TheVariants.{Fine, Bad}
use Rattle.ws_flow.specs.declared.plan.Plan.{Plan}
use Rattle.ws_flow.specs.Parts.{AtWork, Live, Over, nothing_told, residual}
use Rattle.ws_flow.specs.Plans.{stages_of}
use Rattle.ws_flow.specs.Stages.{machines}
use Rattle.ws_flow.specs.Steps.{before_work, coming_from, parts_at}
use Rattle.ws_flow.specs.Told.{bytes_of, Mark, Open as MayCome, Closed, Broken, Lost, Told, then_told, CutShort}
use Rattle.ws_flow.proofs.Steps.{behind_at as behind_is}
use Rattle.ws_flow.proofs.Unlost.{AreWhole, LiesWhole, still-unlost, then-unlost}
use Rattle.ws_io.specs.Moment.{Moment}
use Rattle.ws_stages.specs.State.{State}
use Rattle.ws_steps.specs.declared.readable.ReadableState.TheVariants.{Errored as ReadableErrored}
use Rattle.ws_steps.specs.Run.{run}
use Rattle.ws_steps.specs.Slots.{Slots, empty, pipe_at, source_at, writable_at}
use Rattle.ws_alike.specs.Alike.{Alike}
use Rattle.ws_end_laws.specs.ends.PassedAll.{is_failing}
use Rattle.ws_chain_laws.specs.Chain.{source_of, dest_of, link_of, behind_at}
use Rattle.ws_chain_laws.specs.Sound.{IsSound}
use Rattle.ws_chain_laws.proofs.Links.{link-at}
use Rattle.ws_chain_laws.proofs.Sound.{each_sound_link_is_whole}
use Rattle.ws_realm.specs.declared.realm.Why.{Why}
use Rattle.ws_node.specs.declared.node.Node.{Node}
use Rattle.ws_node.specs.declared.node.Output.{Output}
use Rattle.ws_node.specs.declared.node.Output.TheVariants as output
use Rattle.ws_node_rules.specs.Flow.{HasGone}
use Rattle.ws_node.specs.Node.{coming, coming_behind, in_bytes, lies_in, lying, lying_by, parts, works_in}
use Rattle.ws_node.specs.Past.{Driven}
use Rattle.ws_node.specs.Shape.{count_in}
use Rattle.ws_node_rules.specs.Sound.{IsSoundNode, EachSoundNodeIsWhole}
use Rattle.ws_node.specs.Went.{OutputGoes}
use Rattle.ws_node_rules.proofs.Flow.{keeps-flow}
use Rattle.ws_node_rules.proofs.Unprevented.{closes-all}

-- what a stage leaves behind it

coming-unlost : (w : AtWork) → (coming_from w).mark ≢ Lost
coming-unlost (Live k) = λ e. grind arith
coming-unlost (Over Fine) = λ e. grind arith
coming-unlost (Over (Bad c p)) = λ e. grind arith

behind-unlost : (k : ℕ) (ws : List State) → (coming_behind k ws).mark ≢ Lost
behind-unlost k [] = λ e. grind arith
behind-unlost zero (w ∷ ws) = coming-unlost w.work
behind-unlost (suc k) (w ∷ ws) = behind-unlost k ws

-- what went out while the output may be written, or once it was finished

short-mark : (gain : List ℕ) (out : Mark) (y : Told ℕ) → out ≢ Lost → CutShort gain out y → y.mark ≡ out
short-mark gain MayCome y n h = h.1
short-mark gain Closed y n h = h.1
short-mark gain Broken y n h = h.1
short-mark gain Lost y n h = absurd (n refl)

out-unlost : (a b : Output) (gain : List ℕ) (out : Mark) (m₀ m₁ : Moment) → a ≡ output.Open → b ≢ output.Failed → b ≢ output.Aborted → OutputGoes a b gain out m₀ m₁ → out ≢ Lost
out-unlost output.Open output.Open gain out m₀ m₁ e f g h = λ l. let k = h.0 in grind arith
out-unlost output.Open output.Finished gain out m₀ m₁ e f g h = λ l. let k = h.0 in grind arith
out-unlost output.Open output.Failed gain out m₀ m₁ e f g h = absurd (f refl)
out-unlost output.Open output.Aborted gain out m₀ m₁ e f g h = absurd (g refl)
out-unlost output.Finished b gain out m₀ m₁ e f g h = absurd (cc)
out-unlost output.Failed b gain out m₀ m₁ e f g h = absurd (cc)
out-unlost output.Aborted b gain out m₀ m₁ e f g h = absurd (cc)
out-unlost output.Edge b gain out m₀ m₁ e f g h = absurd (cc)
out-unlost output.Open output.Edge gain out m₀ m₁ e f g h = absurd h

module _ (n : Node) (driven : Driven n) (sound : IsSoundNode n) where
  abbrev count : ℕ
  count = length n.core.stages.items

  length-map : {A : Type 0} {B : Type 0} (f : A → B) (xs : List A) → length (map f xs) ≡ length xs
  length-map f [] = refl
  length-map f (x ∷ xs) = ap suc (length-map f xs)

  few : count ≡ count_in driven.shape
  few = sym (length-map (λ (w : State). w.stage) n.core.stages.items) ∙ ap length driven.since.led.is_of.stages

  abbrev s : Slots
  s = n.core.realm.slots

  -- that to which its past led
  abbrev z : Slots
  z = run driven.past empty

  alike : Alike s z
  alike = driven.since.led.ran.slots

  -- no pipe prevents the close, since none did as the realm was opened
  link-sound : (k : ℕ) → k ≤ count → IsSound (source_of k) (dest_of k) (link_of k) z
  link-sound k l =
      let same = few in
      let led = driven.since.led in
      let u = sound.links k l in
      record {
        source = subst (λ (q : Slots). (source_at (source_of k) q).state ≢ ReadableErrored) alike u.source;
        sink = subst (λ (q : Slots). is_failing (writable_at (dest_of k) q).state ≡ false) alike u.sink;
        closes = subst (λ (q : Slots). (pipe_at (link_of k) q).prevent.close ≡ false) alike (closes-all driven.shape driven.past s led.ran led.is_of.fit k (omega arith));
        error = subst (λ (q : Slots). (pipe_at (link_of k) q).error ≡ None) alike u.error;
      }

  behind-whole : (k : ℕ) → k ≤ count → (behind_at k s).mark ≢ Lost
  behind-whole k l =
      let same = few in
      let joint = link-at driven.shape.origin driven.shape.target (count_in driven.shape) z driven.since.led.ran.wired k (omega arith) in
      let whole = each_sound_link_is_whole (source_of k) (dest_of k) (link_of k) z joint.link (link-sound k l) in
      subst (λ (q : Slots). (behind_at k q).mark ≢ Lost) (sym alike) whole

  coming-whole : (k : ℕ) → (coming n k).mark ≢ Lost
  coming-whole zero = λ e. let same = sound.input in grind arith
  coming-whole (suc k) = behind-unlost k n.core.stages.items

  lies-whole : (k : ℕ) → k ≤ count → (lies_in n k).mark ≢ Lost
  lies-whole k l =
      subst (λ (why : Option Why). (lying_by why (then_told (in_bytes (behind_at k n.core.realm.slots)) (coming n k))).mark ≢ Lost) (sym sound.going)
      (then-unlost (in_bytes (behind_at k n.core.realm.slots)) (coming n k) (behind-whole k l) (coming-whole k))

  lies-before : (w : AtWork) (x : Told (List ℕ)) → x.mark ≢ Lost → LiesWhole w (before_work w x).mark
  lies-before (Live k) x h = h
  lies-before (Over e) x h = tt

  are-whole : (k : ℕ) (ws : List AtWork) (x : ℕ → Told (List ℕ)) → ((j : ℕ) → k ≤ j → j ≤ k + length ws → (x j).mark ≢ Lost) → AreWhole (parts_at k ws x)
  are-whole k [] x h = tt
  are-whole k (w ∷ ws) x h = (lies-before w (x k) (h k (omega arith) (omega arith)), are-whole (suc k) ws x (λ j a b. h j (omega arith) (omega arith)))

  works-count : length (works_in n.core) ≡ count
  works-count = length-map (λ (w : State). w.work) n.core.stages.items

  parts-whole : AreWhole (parts n)
  parts-whole = are-whole 0 (works_in n.core) (lies_in n) (λ j a b. let same = works-count in lies-whole j (omega arith))

  lying-whole : (lying n).mark ≢ Lost
  lying-whole = subst (λ (x : Told (List ℕ)). x.mark ≢ Lost) (sym (behind_is 0 (works_in n.core) (lies_in n))) (let same = works-count in lies-whole (0 + length (works_in n.core)) (omega arith))

  module _ (plan : Plan) (m₀ m₁ : Moment) (read went : Told (List ℕ)) (gain : List ℕ) (out : Mark) (gone : HasGone plan n m₀ m₁ read went gain out) where
    out-whole : out ≢ Lost
    out-whole = out-unlost gone.from.exit.output n.exit.output gain out m₀ m₁ gone.is_new.output sound.output_unfailed sound.output_unaborted gone.output

    went-whole : went.mark ≢ Lost
    went-whole = subst (λ (m : Mark). m ≢ Lost) (sym (short-mark gain out (bytes_of went) out-whole gone.written)) out-whole

    none-lost : (then_told (then_told went (lying n)) (residual (machines (stages_of plan)) (parts n))).mark ≢ Lost
    none-lost =
        then-unlost (then_told went (lying n)) (residual (machines (stages_of plan)) (parts n)) (then-unlost went (lying n) went-whole lying-whole)
        (still-unlost (machines (stages_of plan)) (parts n) nothing_told parts-whole (λ e. grind arith))

pub each_sound_node_is_whole : EachSoundNodeIsWhole
each_sound_node_is_whole plan n m₀ m₁ read went gain out gone driven sound =
    (keeps-flow plan n m₀ m₁ read went gain out gone).whole (none-lost n driven sound plan m₀ m₁ read went gain out gone)
