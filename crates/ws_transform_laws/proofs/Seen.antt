-- What is read of a readable half, and what is transformed where it wants no chunk, told side by side.
use Rattle.std.proofs.Common.{◌≡◌, List, [], ◌∷◌, ◌++◌, refl, append_assoc, append-nil}
use Rattle.ws_value.specs.declared.{ids.StreamId.{StreamId}, value.Value.{Value}}
use Rattle.ws_steps.specs.declared.effects.Effect.{Effect}
use Rattle.ws_steps.specs.declared.transform.TransformId.{TransformId}
use Rattle.ws_steps.specs.ReadableHistory.{Reads, no_reads, reads_then, effect_reads}
use Rattle.ws_steps.specs.Slots.{Slots}
use Rattle.ws_laws.proofs.Walker.{IsHistory}
use Rattle.ws_transform_laws.specs.TransformHistory.{effect_unwanted}

pub record Seen : Type 0 where
  pub reads : Reads
  pub unwanted : List Value

abbrev pub nothing_seen : Seen
nothing_seen = record { reads = no_reads; unwanted = [] }

abbrev pub seen_then : Seen → Seen → Seen
seen_then f g = record { reads = reads_then f.reads g.reads; unwanted = f.unwanted ++ g.unwanted }

seen-nothing : (h : Seen) → seen_then h nothing_seen ≡ h
seen-nothing h = λ k. record { reads = record { asked = append-nil h.reads.asked k; released = append-nil h.reads.released k }; unwanted = append-nil h.unwanted k }

seen-assoc : (f g h : Seen) → seen_then (seen_then f g) h ≡ seen_then f (seen_then g h)
seen-assoc f g h = λ k. record {
  reads = record { asked = append_assoc f.reads.asked g.reads.asked h.reads.asked k; released = append_assoc f.reads.released g.reads.released h.reads.released k };
  unwanted = append_assoc f.unwanted g.unwanted h.unwanted k;
}

pub are_seen : IsHistory nothing_seen seen_then
are_seen = record { left = λ h. refl; right = seen-nothing; assoc = seen-assoc }

pub none-both : {A : Type 0} (xs ys : List A) → xs ++ ys ≡ [] → (xs ≡ []) × (ys ≡ [])
none-both [] ys e = (refl, e)
none-both (x ∷ xs) ys e = cc

abbrev pub told : TransformId → StreamId → Effect → Slots → Seen
told t r e s = record { reads = effect_reads r e s; unwanted = effect_unwanted t e s }
