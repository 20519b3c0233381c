-- A node writes what its output held back.
use Rattle.std.proofs.Common.{◌≡◌, ℕ, true, List, [], ◌∷◌, Option, None, refl, sym, ap, subst, ◌∙◌, arith}
use Rattle.ws_flow.specs.Stages.{machines}
use Rattle.ws_flow.specs.Told.{Mark, Open as MayCome, Lost}
use Rattle.ws_flow.proofs.Steps.{goes_rests}
use Rattle.ws_flow.proofs.Told.{short_refl}
use Rattle.ws_io.specs.Feed.{Feed}
use Rattle.ws_io.specs.Faults.{Rose}
use Rattle.ws_io.specs.Gain.{Gains, Got, KeepsTold}
use Rattle.ws_stages.specs.State.{State}
use Rattle.ws_steps.specs.Run.{Entry}
use Rattle.ws_node.specs.declared.node.Abort.{Abort}
use Rattle.ws_node.specs.declared.node.Node.{Node}
use Rattle.ws_node.specs.declared.node.Output.{Output}
use Rattle.ws_node.specs.declared.node.Output.TheVariants as output
use Rattle.ws_node.specs.Moves.{Empties, LeftHeld, NotWritten, Shown, WroteHeld}
use Rattle.ws_node.specs.Node.{feeds_edge, lies_in, nothing_yet, stages_in, works_in}
use Rattle.ws_node.specs.Past.{Since, may_have}
use Rattle.ws_node.specs.Shape.{Shape}
use Rattle.ws_node.specs.Went.{GoesOut, OutputGoes, ToOutput, Went}
use Rattle.ws_node.proofs.Acting.{Acts, acts-is}
use Rattle.ws_node.proofs.Answering.{output-fails, output-open}
use Rattle.ws_node.proofs.Changes.{led-output}
use Rattle.ws_node.proofs.Going.{Stays, abort-same, as-many, comes-still, going-acts, going-stays, held-goes, went-untouched}
use Rattle.ws_node.proofs.Handled.{Handled, shows}
use Rattle.ws_node.proofs.Nearing.{near-same}
use Rattle.ws_node.proofs.Quiet.{ends-as, stays-as}
use Rattle.ws_node.proofs.Sinking.{open-fails}

-- the node with such an output
abbrev with_output : Output → Node → Node
with_output o a = record a { exit = record a.exit { output = o } }

may-less : (ws : List State) (o : Output) (abort : Option Abort) → may_have ws output.Failed abort ≡ true → may_have ws o abort ≡ true
may-less [] o abort h = absurd (cc)
may-less (w ∷ ws) o abort h = h

module _ (rf : ℕ) (feed : Option Feed) (p q : Got) (a : Node) (old new : Shown) where
  -- what lies in it stays
  went-writes : (o : Output) (out : Mark) → a.core.stopped ≡ None → GoesOut a.exit (record a.exit { output = o }) (shows rf feed old) (shows rf feed new) p q nothing_yet [] out
      → Went a (with_output o a) (shows rf feed old) (shows rf feed new) p q
  went-writes o out goes into =
      let b = with_output o a in
      record {
        read = nothing_yet;
        went = nothing_yet;
        gain = [];
        out = out;
        core = record {
          moves = (
            record {
              stages = refl;
              goes = held-goes a b nothing_yet refl
                  (goes_rests (machines (stages_in a.core)) 0 (works_in a.core) (lies_in a) (lies_in a) (as-many a) (λ j h k. short_refl (lies_in a j)));
            },
            tt,
          );
          pipe = refl;
          pipes = refl;
          first = refl;
        };
        from = comes-still a.entrance a.entrance (shows rf feed old) (shows rf feed new) refl refl refl refl refl refl refl;
        into = into;
        ahead = λ none by to. omega arith;
        near = λ head pieces is. near-same a b pieces (λ h. h) refl refl refl refl is;
        short = λ fed some. absurd (omega arith);
        stays = going-acts a b (shows rf feed old) (shows rf feed new) nothing_yet [] goes;
      }

  module _ (shape : Shape) (past : List Entry) (b : Node) (since : Since shape past a) where
    written : a.core.stopped ≡ None → a.exit.output ≡ output.Open → Gains p q [] → new.faults ≡ old.faults → KeepsTold old.finished new.finished
        → Handled shape a a (shows rf feed old) (shows rf feed new) p q
    written goes is gained calm kept =
        record {
          past = past;
          led = since.led;
          pushes = since.pushes;
          one = since.one;
          ends = since.ends;
          went = went-writes a.exit.output MayCome goes
              (ToOutput (ap (λ (o : Output). feeds_edge o) is)
              (record {
                gained = gained;
                written = (refl, refl);
                output = output-open a.exit.output [] (shows rf feed old) (shows rf feed new) is calm kept;
                abort = abort-same a.exit.abort [] a.exit.output;
                emptied = λ e f. absurd (let g : output.Open ≡ output.Finished = sym e ∙ f in cc);
                sink = refl;
                below = refl;
              }));
        }

    failed : a.core.stopped ≡ None → a.exit.output ≡ output.Open → Gains p q [] → Rose old.faults new.faults → KeepsTold old.finished new.finished
        → Handled shape a (with_output output.Failed a) (shows rf feed old) (shows rf feed new) p q
    failed goes is gained rose kept =
        record {
          past = past;
          led = led-output shape past a output.Failed (sym (ap (λ (o : Output). feeds_edge o) is)) (λ h. absurd (h is)) (λ e. absurd (cc)) since.led;
          pushes = since.pushes;
          one = λ fed h. since.one fed (may-less a.core.stages.items a.exit.output a.exit.abort h);
          ends = ends-as shape past a (with_output output.Failed a) refl refl (stays-as a.core.stopped) since.ends;
          went = went-writes output.Failed Lost goes
              (ToOutput (ap (λ (o : Output). feeds_edge o) is)
              (record {
                gained = gained;
                written = ([], refl);
                output = subst (λ (o : Output). OutputGoes a.exit.output o [] Lost (shows rf feed old) (shows rf feed new)) (open-fails a.exit.output is)
                    (output-fails a.exit.output [] (shows rf feed old) (shows rf feed new) is rose kept);
                abort = abort-same a.exit.abort [] output.Failed;
                emptied = λ e f. absurd (cc);
                sink = refl;
                below = refl;
              }));
        }

    pub empties : Empties a b old new p q → Handled shape a b (shows rf feed old) (shows rf feed new) p q
    empties (LeftHeld same untouched) =
        rw (untouched.shown, same)
        (record {
          past = past;
          led = since.led;
          pushes = since.pushes;
          one = since.one;
          ends = since.ends;
          went = went-untouched a (shows rf feed old) p q untouched.gained;
        })
    empties (WroteHeld goes is same gained emptied calm kept) =
        subst (λ (n : Node). Handled shape a n (shows rf feed old) (shows rf feed new) p q) (sym same) (written goes is gained calm kept)
    empties (NotWritten goes is same gained rose kept) =
        subst (λ (n : Node). Handled shape a n (shows rf feed old) (shows rf feed new) p q) (sym same) (failed goes is gained rose kept)

pub empties-stay : (a b : Node) (old new : Shown) (p q : Got) → Empties a b old new p q → Stays a b
empties-stay a b old new p q (LeftHeld same untouched) = λ why e. same
empties-stay a b old new p q (WroteHeld goes is same gained emptied calm kept) = going-stays a b goes
empties-stay a b old new p q (NotWritten goes is same gained rose kept) = going-stays a b goes

pub empties-acts : (a b : Node) (old new : Shown) (p q : Got) → Empties a b old new p q → Acts a b
empties-acts a b old new p q (LeftHeld same untouched) = acts-is a b a same refl refl refl
empties-acts a b old new p q (WroteHeld goes is same gained emptied calm kept) = acts-is a b a same refl refl refl
empties-acts a b old new p q (NotWritten goes is same gained rose kept) = acts-is a b (with_output output.Failed a) same refl refl refl

-- how it is fed and what it feeds stays
pub empties-kind : (a b : Node) (old new : Shown) (p q : Got) → Empties a b old new p q → (b.entrance ≡ a.entrance) × (feeds_edge b.exit.output ≡ feeds_edge a.exit.output)
empties-kind a b old new p q (LeftHeld same untouched) = (ap (λ (n : Node). n.entrance) same, ap (λ (n : Node). feeds_edge n.exit.output) same)
empties-kind a b old new p q (WroteHeld goes is same gained emptied calm kept) = (ap (λ (n : Node). n.entrance) same, ap (λ (n : Node). feeds_edge n.exit.output) same)
empties-kind a b old new p q (NotWritten goes is same gained rose kept) =
    (ap (λ (n : Node). n.entrance) same, ap (λ (n : Node). feeds_edge n.exit.output) same ∙ sym (ap (λ (o : Output). feeds_edge o) is))
