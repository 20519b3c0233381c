-- What is settled in each step of a run (`none_goes_astray`).
use Rattle.ws_value.specs.declared.ids.StreamId.{StreamId}
use Rattle.ws_steps.specs.declared.effects.Effect.TheVariants.{Writable, Pipe}
use Rattle.ws_steps.specs.declared.pipes.PipeOperation.TheVariants.{Look, LookReady, KeepChunk, ReadEnded, WriteChunk, GoOn, WriteEnded, Abort as AbortPipe, ActionSettled, PartSettled, NoParts}
use Rattle.ws_steps.specs.declared.writable.WritableOperation.TheVariants.{SetUpWriter, ReleaseWriter, Write, Close, ClosePropagating, Abort, AbortIfWritable, ErrorIfNeeded, HandOn, StartSettled, WriteSettled, CloseSettled, AbortSettled}
use Rattle.ws_steps.specs.WritableHistory.{Writes as History, no_writes, writes_then, effect_writes}
use Rattle.ws_writable_laws.proofs.Agenda.{Kept}
use Rattle.ws_writable_laws.proofs.Expects.{write-expects, start-expects, write_settled-expects, close_settled-expects, abort_settled-expects}
use Rattle.ws_writable_laws.proofs.Runs.{goes, rests, none_made}
use Rattle.std.proofs.Common.{◌+◌, List, [], ◌∷◌, ◌++◌, refl, arith}
use Rattle.ws_steps.specs.declared.effects.Effect.{Effect}
use Rattle.ws_steps.specs.Promises.{watch}
use Rattle.ws_steps.specs.Slots.{Slots, empty}
use Rattle.ws_steps.specs.Turns.{row}
use Rattle.ws_steps.specs.Run.{Entry, run, after_event}
use Rattle.ws_steps.specs.Laws.{NoneGoesAstray}
use Rattle.ws_laws.proofs.Walker.{Stays, run-stays}
use Rattle.ws_laws.proofs.Weights.{weigh}
use Rattle.ws_promise_laws.proofs.Acting.{EachWaits, waits-stays, waits-heard, none-waits, waits-expects}
use Rattle.ws_promise_laws.proofs.Begins.{begin-sound, job-sound}
use Rattle.ws_promise_laws.proofs.Reacting.{holds-watch, holds-told}
use Rattle.ws_promise_laws.proofs.Realm.{Sound, sound-less, firm_in, loosely_in}
use Rattle.ws_promise_laws.proofs.Rows.{Expected, row-sound, sound-promises}
use Rattle.ws_promise_laws.proofs.Tokens.{of_effect, in_effects, in_effects-append}

sound_empty : Sound (λ x. 0) empty
unfolding weigh
sound_empty = record { holds = record { straight = refl; once = λ x. omega arith; led = λ p. omega arith }; calm = λ i e. refl }

-- what is known of each pipe and of each writable stream, and that each promise stands at most once in all, effects too, and then is open
pub record Straight (s : Slots) (es : List Effect) : Type 0 where
  pub waits : EachWaits s es
  pub known : (i : StreamId) → (h : History) × Kept i h s es
  pub sound : Sound (λ x. in_effects x es) s

-- what is known tells what an effect expects
expected : (s : Slots) (e : Effect) (es : List Effect) → EachWaits s (e ∷ es) → ((i : StreamId) → (h : History) × Kept i h s (e ∷ es)) → Expected e s
expected s (Writable i (Write v p)) es w k = write-expects i (k i).0 es s v p (k i).1
expected s (Writable i (StartSettled o)) es w k = start-expects i (k i).0 es s o (k i).1
expected s (Writable i (WriteSettled o)) es w k = write_settled-expects i (k i).0 es s o (k i).1
expected s (Writable i (CloseSettled o)) es w k = close_settled-expects i (k i).0 es s o (k i).1
expected s (Writable i (AbortSettled p o)) es w k = abort_settled-expects i (k i).0 es s p o (k i).1
expected s (Writable i (SetUpWriter v)) es w k = tt
expected s (Writable i ReleaseWriter) es w k = tt
expected s (Writable i (Abort r p)) es w k = tt
expected s (Writable i (ErrorIfNeeded r)) es w k = tt
expected s (Writable i (HandOn taker)) es w k = tt
expected s (Writable i (Close p)) es w k = tt
expected s (Writable i (ClosePropagating p)) es w k = tt
expected s (Writable i (AbortIfWritable r p)) es w k = tt
expected s (Pipe p (ActionSettled o)) es w k = waits-expects p o s es (w p)
expected s (Pipe p Look) es w k = tt
expected s (Pipe p LookReady) es w k = tt
expected s (Pipe p (KeepChunk v)) es w k = tt
expected s (Pipe p ReadEnded) es w k = tt
expected s (Pipe p WriteChunk) es w k = tt
expected s (Pipe p GoOn) es w k = tt
expected s (Pipe p WriteEnded) es w k = tt
expected s (Pipe p (AbortPipe r)) es w k = tt
expected s (Pipe p (PartSettled o)) es w k = tt
expected s (Pipe p NoParts) es w k = tt
expected s _ es w k = tt

row-straight : (s : Slots) (e : Effect) (es : List Effect) → Straight s (e ∷ es) → Straight (row e s).slots ((row e s).caused ++ es)
row-straight s e es k = record {
  waits = waits-stays.row s e es k.waits;
  known = λ i. (writes_then (k.known i).0 (effect_writes i e s), (goes i).row (k.known i).0 s e es (k.known i).1);
  sound =
      sound-less (λ x. in_effects x es + in_effects x (row e s).caused) (λ x. in_effects x ((row e s).caused ++ es)) (row e s).slots
      (λ x. let n = in_effects-append x (row e s).caused es in omega arith)
      (row-sound (λ x. in_effects x es) e s (expected s e es k.waits k.known)
      (sound-less (λ x. of_effect x e + in_effects x es) (λ x. in_effects x es + of_effect x e) s (λ x. omega arith) k.sound));
}

pub straight-stays : Stays Straight
straight-stays = record {
  row = row-straight;
  call = λ s c k. record { waits = waits-stays.call s c k.waits; known = λ i. ((k.known i).0, (goes i).call (k.known i).0 s c (k.known i).1); sound = begin-sound c s k.sound };
  job = λ s job e k. record { waits = waits-stays.job s job e k.waits; known = λ i. ((k.known i).0, (goes i).job (k.known i).0 s job e (k.known i).1); sound = job-sound s job e k.sound };
  answered = λ s p k. record {
    waits = waits-stays.answered s p k.waits;
    known = λ i. ((k.known i).0, (goes i).answered (k.known i).0 s p (k.known i).1);
    sound = sound-promises (λ x. 0) (λ x. 0) s (watch p s.promises) (λ h l. holds-watch (λ x. 0 + h x) (loosely_in s) p s.promises l) k.sound;
  };
  older = λ s k. record {
    waits = k.waits;
    known = λ i. ((k.known i).0, (goes i).older (k.known i).0 s (k.known i).1);
    sound = record { holds = k.sound.holds; calm = k.sound.calm };
  };
}

-- the host hears of what happened
pub straight-heard : (s : Slots) → Straight s [] → Straight (after_event s) []
straight-heard s k = record {
  waits = waits-heard s k.waits;
  known = λ i. ((k.known i).0, (rests i).heard (k.known i).0 s (k.known i).1);
  sound = record { holds = holds-told (λ x. 0 + firm_in x s) (loosely_in s) _ s.promises k.sound.holds; calm = k.sound.calm };
}

pub straight-empty : Straight empty []
straight-empty = record { waits = none-waits; known = λ i. (no_writes, none_made i); sound = sound_empty }

run-straight : (entries : List Entry) → Straight (run entries empty) []
run-straight entries = run-stays Straight straight-stays straight-heard entries empty straight-empty

pub run-sound : (entries : List Entry) → Sound (λ x. 0) (run entries empty)
run-sound entries = (run-straight entries).sound

pub none_goes_astray : NoneGoesAstray
none_goes_astray entries = (run-straight entries).sound.holds.straight
