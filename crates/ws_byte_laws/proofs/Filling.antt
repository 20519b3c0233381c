-- Filling descriptors from the queue.
use Rattle.std.proofs.Common.{◌≡◌, ◌≢◌, ◌<◌, ℕ, ◌+◌, ◌-◌, ◌%◌, Bool, true, false, List, [], ◌∷◌, ◌++◌, length, refl, ◌∙◌, append_assoc, arith, length-append, if◌then◌else◌, nat_le, min}
use Rattle.ws_steps.specs.Descriptors.{Descriptor, Filling, fill_with, fill_from_queue, Processed, also_ready, process_descriptors}
use Rattle.ws_steps.specs.Queues.{total_bytes, front_bytes, after_bytes}
use Rattle.ws_steps.specs.ByteHistory.{joined, first_filled}
use Rattle.ws_steps.specs.declared.byte.RoomKind.{RoomKind}
use Rattle.ws_byte_laws.proofs.Cutting.{cut_joined, after_all, length_front, aligned}
use Rattle.ws_byte_laws.specs.Descriptors.{Fit, AllLater}

-- descriptors of which only the first may have filled bytes
abbrev pub Line : RoomKind → List Descriptor → Type 0
Line r [] = Unit {0}
Line r (d ∷ ds) = Fit d × (d.room_kind ≡ r) × AllLater r ds

pub line_of : (r : RoomKind) (ds : List Descriptor) → AllLater r ds → Line r ds
line_of r [] l = tt
line_of r (d ∷ ds) l = (l.0.fit, l.0.room_kind, l.1)

pub later_filled : (r : RoomKind) (ds : List Descriptor) → AllLater r ds → first_filled ds ≡ []
later_filled r [] l = refl
later_filled r (d ∷ ds) l = l.0.empty

-- how a descriptor was filled
pub record Filled (d : Descriptor) (q : List (List ℕ)) (f : Filling) : Type 0 where
  pub bytes : d.filled ++ joined q ≡ f.descriptor.filled ++ joined f.queue
  pub fit : Fit d → f.ready ≡ false → Fit f.descriptor
  pub empty : Fit d → f.ready ≡ false → f.queue ≡ []
  pub room_kind : f.descriptor.room_kind ≡ d.room_kind

moved : (n : ℕ) (filled : List ℕ) (q : List (List ℕ)) → filled ++ joined q ≡ (filled ++ front_bytes n q) ++ joined (after_bytes n q)
moved n filled q = rw (append_assoc, cut_joined) refl

still_fits : (d : Descriptor) (q : List (List ℕ)) (m a : ℕ) → m ≡ min (total_bytes q) (d.room - length d.filled) → a ≡ (length d.filled + m) - ((length d.filled + m) % d.element) → nat_le d.minimum a ≡ false → Fit d → length d.filled + m < d.minimum
still_fits d q m a em ea e f = grind (arith, aligned (length d.filled + m) d.element f.units d.minimum f.whole)

filled_by : (d : Descriptor) (q : List (List ℕ)) (m a : ℕ) (c : Bool) → m ≡ min (total_bytes q) (d.room - length d.filled) → a ≡ (length d.filled + m) - ((length d.filled + m) % d.element) → nat_le d.minimum a ≡ c
    → Filled d q (if c then fill_with (a - length d.filled) true d q else fill_with m false d q)
filled_by d q m a true em ea e = record { bytes = moved (a - length d.filled) d.filled q; fit = λ f e. absurd (cc); empty = λ f e. absurd (cc); room_kind = refl }
filled_by d q m a false em ea e =
    record {
      bytes = moved m d.filled q;
      fit = λ f r. let s = still_fits d q m a em ea e f in record { units = f.units; whole = f.whole; short = omega (arith, length-append d.filled (front_bytes m q), length_front m q); room = f.room; element = f.element; minimum = f.minimum };
      empty = λ f r. let s = still_fits d q m a em ea e f in let g = f.room in after_all m q (omega arith);
      room_kind = refl;
    }

pub filled : (d : Descriptor) (q : List (List ℕ)) → Filled d q (fill_from_queue d q)
filled d q = filled_by d q _ _ _ refl refl refl

-- the filled bytes of descriptors, in order
abbrev pub handed : List Descriptor → List ℕ
handed [] = []
handed (d ∷ ds) = d.filled ++ handed ds

-- how descriptors were processed
pub record Done (r : RoomKind) (ds : List Descriptor) (q : List (List ℕ)) (x : Processed) : Type 0 where
  pub count : length x.ready + length x.waiting ≡ length ds
  pub bytes : first_filled ds ++ joined q ≡ handed x.ready ++ (first_filled x.waiting ++ joined x.queue)
  pub clear : x.waiting ≢ [] → x.queue ≡ []
  pub line : Line r x.waiting

processed_by : (r : RoomKind) (d : Descriptor) (ds : List Descriptor) (q : List (List ℕ)) (f : Filling) (c : Bool) → f.ready ≡ c → Filled d q f → Line r (d ∷ ds) → Done r ds f.queue (process_descriptors ds f.queue)
    → Done r (d ∷ ds) q (elim c [ true ↦ also_ready f.descriptor (process_descriptors ds f.queue) | false ↦ record { ready = []; waiting = f.descriptor ∷ ds; queue = f.queue } ])
processed_by r d ds q f true e k l p =
    record {
      count = let c = p.count in omega arith;
      bytes = let b = p.bytes in let n : first_filled ds ≡ [] = later_filled r ds l.2 in let g = k.bytes in rw (k.bytes, append_assoc, ← p.bytes, n) refl;
      clear = p.clear;
      line = p.line;
    }
processed_by r d ds q f false e k l p =
    record {
      count = omega arith;
      bytes = k.bytes;
      clear = λ n. k.empty l.0 e;
      line = (k.fit l.0 e, k.room_kind ∙ l.1, l.2);
    }

pub processed : (r : RoomKind) (ds : List Descriptor) (q : List (List ℕ)) → Line r ds → Done r ds q (process_descriptors ds q)
processed r [] q l = record { count = refl; bytes = refl; clear = λ n. absurd (n refl); line = tt }
processed r (d ∷ ds) [] l = record { count = omega arith; bytes = refl; clear = λ n. refl; line = l }
processed r (d ∷ ds) (b ∷ bs) l =
    let f : Filling = fill_from_queue d (b ∷ bs) in
    processed_by r d ds (b ∷ bs) f f.ready refl (filled d (b ∷ bs)) l (processed r ds f.queue (line_of r ds l.2))
