-- An effect is performed, before those that wait.
use Rattle.std.proofs.Common.{◌≡◌, ◌∙◌, ◌<◌, ◌≤◌, ℕ, List, [], ◌∷◌, ◌++◌, None, refl, sym, ap, subst, arith}
use Rattle.std.specs.Prelude.{length, reverse, vec_len}
use Rattle.std.proofs.lemmas.List.{length-reverse}
use Rattle.ws_value.specs.declared.ids.PipeId.{PipeId}
use Rattle.ws_value.specs.declared.ids.StreamId.{StreamId}
use Rattle.ws_steps.specs.declared.transform.TransformId.{TransformId}
use Rattle.ws_value.specs.declared.value.Value.{Value}
use Rattle.ws_steps.specs.declared.effects.Effect.{Effect}
use Rattle.ws_steps.specs.declared.effects.Effect.TheVariants.{PullAlgorithm, WriteAlgorithm, ChunkSteps, Transform, Writable, Pipe}
use Rattle.ws_steps.specs.declared.effects.Owner.TheVariants.{Host, HalfOf}
use Rattle.ws_steps.specs.declared.effects.Use.TheVariants.{React}
use Rattle.ws_steps.specs.declared.pipes.PipeOperation.TheVariants.{KeepChunk}
use Rattle.ws_steps.specs.declared.promises.Step.TheVariants.{ReadablePull, WritableWrite}
use Rattle.ws_steps.specs.declared.readable.ReadRequest.TheVariants.{Pipe as PipeRequest}
use Rattle.ws_steps.specs.declared.transform.Taker.TheVariants.{ToHost}
use Rattle.ws_steps.specs.declared.transform.TransformOperation.TheVariants.{SinkWrite, SourcePull}
use Rattle.ws_steps.specs.declared.writable.WritableOperation.TheVariants.{HandOn}
use Rattle.ws_steps.specs.Places.{measure}
use Rattle.ws_steps.specs.Slots.{Slots, owner_at}
use Rattle.ws_steps.specs.Turns.{row}
use Rattle.ws_room_laws.proofs.Rows.{measure-fall}
use Rattle.ws_room_laws.proofs.Turns.{performed_next}
use Rattle.ws_tables.specs.View.{slots_of}
use Rattle.ws_tables.specs.Room.{AreEnough, HasRoomForAll, IsKept}
use Rattle.ws_performing.specs.Performing.{GoesOn, Performs, effects_of}
use Rattle.ws_tables.specs.declared.tables.Tables.{Tables}
use Rattle.ws_performing.proofs.Turns.{next-room, next-turns, put-fits}

-- one effect is caused
abbrev causing : Effect → Tables → Tables
causing e t = record t { caused = record t.caused { effects = e ∷ [] } }

waiting-first : (rest : List Effect) (t : Tables) → rest ≡ reverse t.others.items → vec_len t.others ≡ length rest
waiting-first rest t is = t.others.ok.0 ∙ (sym (length-reverse t.others.items) ∙ ap length (sym is))

-- an effect is performed
pub goes : (e : Effect) (t t' : Tables) → HasRoomForAll (e ∷ reverse t.others.items) t → IsKept t → Performs e t t' → IsKept t' → GoesOn e t t'
goes e t t' room kept did kept' =
    let rest : List Effect = reverse t.others.items in
    let s : Slots = slots_of t in
    let left : effects_of t' ≡ (row e s).caused ++ rest = ap (λ es. es ++ reverse t'.others.items) did.caused ∙ ap (λ v. (row e s).caused ++ reverse v.items) did.others in
    let others : t'.caused.effects ++ rest ≡ effects_of t' = ap (λ v. t'.caused.effects ++ reverse v.items) (sym did.others) in
    record {
      slots = rw (left, did.slots) (sym (performed_next s e rest));
      fewer =
          let falls = measure-fall e rest s in
          let after = ap (measure (slots_of t')) left ∙ ap (λ (z : Slots). measure z ((row e s).caused ++ rest)) did.slots in
          omega (arith, falls, after);
      room = subst (λ es. HasRoomForAll es t') others (next-room e rest t t' room kept did kept');
      turns = λ n enough. subst (λ es. AreEnough n es t') others (next-turns e rest t t' n enough kept did kept');
      fits = put-fits e rest t t' room kept did (waiting-first rest t refl);
      others = did.others;
      kept = kept';
    }

-- effects that cause another one alone and do nothing else

pub pull-is : (i : StreamId) (t : Tables) (n : TransformId) → t.caused.effects ≡ [] → owner_at i (slots_of t) ≡ HalfOf n
    → Performs (PullAlgorithm i) t (causing (Transform n (SourcePull (React (ReadablePull i) None))) t)
unfolding row
pull-is i t n quiet own =
    record {
      slots = refl;
      caused = rw own refl;
      others = refl;
      places = refl;
      lists = refl;
      rooms = λ none m h. h;
      grown = omega arith;
      members = refl;
      full = omega arith;
    }

pub write-is : (i : StreamId) (t : Tables) (n : TransformId) → t.caused.effects ≡ [] → owner_at i (slots_of t) ≡ HalfOf n
    → Performs (WriteAlgorithm i) t (causing (Transform n (SinkWrite (React (WritableWrite i) None))) t)
unfolding row
write-is i t n quiet own =
    record {
      slots = refl;
      caused = rw own refl;
      others = refl;
      places = refl;
      lists = refl;
      rooms = λ none m h. h;
      grown = omega arith;
      members = refl;
      full = omega arith;
    }

pub hand-is : (i : StreamId) (t : Tables) → owner_at i (slots_of t) ≡ Host → Performs (WriteAlgorithm i) t (causing (Writable i (HandOn ToHost)) t)
unfolding row
hand-is i t own =
    record {
      slots = refl;
      caused = rw own refl;
      others = refl;
      places = refl;
      lists = refl;
      rooms = λ none m h. h;
      grown = omega arith;
      members = refl;
      full = omega arith;
    }

pub keep-is : (i : StreamId) (p : PipeId) (chunk : Value) (t : Tables) → Performs (ChunkSteps i (PipeRequest p) chunk) t (causing (Pipe p (KeepChunk chunk)) t)
unfolding row
keep-is i p chunk t =
    record {
      slots = refl;
      caused = refl;
      others = refl;
      places = refl;
      lists = refl;
      rooms = λ none m h. h;
      grown = omega arith;
      members = refl;
      full = omega arith;
    }
