-- The requests of a BYOB reader and the descriptors that they wait for stand in the same order: what commits give to requests of some weight.
use Rattle.std.proofs.Common.{◌≡◌, ◌≤◌, ℕ, ◌%◌, Bool, true, false, List, [], ◌∷◌, ◌++◌, length, refl, sym, ◌∙◌, arith, if◌then◌else◌}
use Rattle.ws_value.specs.declared.ids.StreamId.{StreamId}
use Rattle.ws_value.specs.declared.value.Value.TheVariants.{Bytes}
use Rattle.ws_steps.specs.declared.byte.{ByteOperation.TheVariants.{PullInto}, RoomKind.TheVariants.{ForByob}}
use Rattle.ws_steps.specs.declared.effects.Effect.{Effect}
use Rattle.ws_steps.specs.declared.effects.Effect.TheVariants.{Readable as OnReadable, Byte, ChunkSteps, CloseStepsWith}
use Rattle.ws_steps.specs.declared.readable.{ReadRequest.{ReadRequest}, ReadableOperation.TheVariants.{Read}, ReadableState.{ReadableState}, ReadableState.TheVariants.{Readable, Closed, Errored}}
use Rattle.ws_steps.specs.Bytes.{Acts, causing, with_requests, commit_steps, commit_to, commit_all}
use Rattle.ws_steps.specs.Descriptors.{Descriptor, is_for_nobody, Filling, fill_from_queue, Processed, also_ready, process_descriptors}
use Rattle.ws_laws.proofs.Lists.{Each, each-append}
use Rattle.ws_room_read_laws.proofs.Filled.{Fills, IsFull, Alike, Fuller, filling}
use Rattle.ws_byte_laws.specs.Descriptors.{Fit}

-- all descriptors but a first one that is for nobody
abbrev pub behind : List Descriptor → List Descriptor
behind [] = []
behind (d ∷ ds) = if is_for_nobody d.room_kind then ds else d ∷ ds

abbrev pub AllFit : List Descriptor → Type 0
AllFit [] = Unit {0}
AllFit (d ∷ ds) = Fit d × AllFit ds

abbrev pub AllFull : List Descriptor → Type 0
AllFull [] = Unit {0}
AllFull (d ∷ ds) = IsFull d × AllFull ds

-- what a room for a BYOB reader has is whole elements
abbrev pub IsWhole : Descriptor → Type 0
IsWhole d = d.room_kind ≡ ForByob → length d.filled % d.element ≡ 0

abbrev pub AllWhole : List Descriptor → Type 0
AllWhole [] = Unit {0}
AllWhole (d ∷ ds) = IsWhole d × AllWhole ds

module _ (w : ReadRequest → ℕ) (space unit least : ℕ) where
  -- an effect gives a request that has a weight what fills the room, and asks no stream for it but with this room
  abbrev pub IsFair : Effect → Type 0
  IsFair (OnReadable j (Read r)) = w r ≡ 0
  IsFair (Byte j (PullInto x e m r)) = 1 ≤ w r → (length x ≡ space) × (e ≡ unit) × (m ≡ least)
  IsFair (ChunkSteps j r (Bytes b)) = 1 ≤ w r → Fills space unit least b
  IsFair (CloseStepsWith j r b) = 1 ≤ w r → length b % unit ≡ 0
  IsFair _ = Unit {0}

  -- a descriptor for a request
  pub record Wants (r : ReadRequest) (d : Descriptor) : Type 0 where
    pub room_kind : d.room_kind ≡ ForByob
    pub room : 1 ≤ w r → d.room ≡ space
    pub element : 1 ≤ w r → d.element ≡ unit
    pub minimum : 1 ≤ w r → d.minimum ≡ least

  abbrev pub Pairs : List ReadRequest → List Descriptor → Type 0
  Pairs [] [] = Unit {0}
  Pairs [] (d ∷ ds) = ⊥
  Pairs (r ∷ rs) [] = ⊥
  Pairs (r ∷ rs) (d ∷ ds) = Wants r d × Pairs rs ds

  pub wants-alike : (r : ReadRequest) (d f : Descriptor) → Alike d f → Wants r d → Wants r f
  wants-alike r d f a k =
      record { room_kind = a.room_kind ∙ k.room_kind; room = λ o. a.room ∙ k.room o; element = λ o. a.element ∙ k.element o; minimum = λ o. a.minimum ∙ k.minimum o }

  pub pairs-behind : (rs : List ReadRequest) (ds : List Descriptor) → Pairs rs ds → behind ds ≡ ds
  pairs-behind rs [] p = refl
  pairs-behind [] (d ∷ ds) p = absurd p
  pairs-behind (r ∷ rs) (d ∷ ds) p = rw p.0.room_kind refl

  pub pairs-none : (ds : List Descriptor) → Pairs [] ds → ds ≡ []
  pairs-none [] p = refl
  pairs-none (d ∷ ds) p = absurd p

  pub pairs-length : (rs : List ReadRequest) (ds : List Descriptor) → Pairs rs ds → length ds ≡ length rs
  pairs-length [] [] p = refl
  pairs-length [] (d ∷ ds) p = absurd p
  pairs-length (r ∷ rs) [] p = absurd p
  pairs-length (r ∷ rs) (d ∷ ds) p = let n = pairs-length rs ds p.1 in omega (arith, n)

  pub pairs-last : (rs : List ReadRequest) (ds : List Descriptor) (r : ReadRequest) (d : Descriptor) → Pairs rs ds → Wants r d → Pairs (rs ++ r ∷ []) (ds ++ d ∷ [])
  pairs-last [] [] r d p k = (k, tt)
  pairs-last [] (y ∷ ds) r d p k = absurd p
  pairs-last (x ∷ rs) [] r d p k = absurd p
  pairs-last (x ∷ rs) (y ∷ ds) r d p k = (p.0, pairs-last rs ds r d p.1 k)

  -- the descriptors that are ready come first, and are full
  pub record Parted (rs : List ReadRequest) (x : Processed) : Type 0 where
    pub pairs : Pairs rs (x.ready ++ x.waiting)
    pub full : AllFull x.ready

  part-by : (r : ReadRequest) (rs : List ReadRequest) (d : Descriptor) (ds : List Descriptor) (f : Filling) (c : Bool) → c ≡ f.ready → Fuller d f → Pairs (r ∷ rs) (d ∷ ds) → Fit d → Parted rs (process_descriptors ds f.queue)
      → Parted (r ∷ rs) (elim c [ true ↦ also_ready f.descriptor (process_descriptors ds f.queue) | false ↦ record { ready = []; waiting = f.descriptor ∷ ds; queue = f.queue } ])
  part-by r rs d ds f true e k p fit more = record { pairs = (wants-alike r d f.descriptor k.alike p.0, more.pairs); full = (k.full fit (sym e), more.full) }
  part-by r rs d ds f false e k p fit more = record { pairs = (wants-alike r d f.descriptor k.alike p.0, p.1); full = tt }

  pub parted : (rs : List ReadRequest) (ds : List Descriptor) (q : List (List ℕ)) → Pairs rs ds → AllFit ds → Parted rs (process_descriptors ds q)
  parted rs [] q p f = record { pairs = p; full = tt }
  parted [] (d ∷ ds) q p f = absurd p
  parted (r ∷ rs) (d ∷ ds) [] p f = record { pairs = p; full = tt }
  parted (r ∷ rs) (d ∷ ds) (b ∷ bs) p f =
      let y : Filling = fill_from_queue d (b ∷ bs) in
      part-by r rs d ds y y.ready refl (filling d (b ∷ bs)) p f.0 (parted rs ds y.queue p.1 f.1)

  module _ (me : StreamId) where
    -- what a descriptor gives when it is committed in this state
    abbrev pub Gives : ReadableState → Descriptor → Type 0
    Gives Readable d = IsFull d
    Gives Closed d = length d.filled % d.element ≡ 0
    Gives Errored d = IsFull d

    abbrev pub AllGive : ReadableState → List Descriptor → Type 0
    AllGive state [] = Unit {0}
    AllGive state (d ∷ ds) = Gives state d × AllGive state ds

    fills-want : (r : ReadRequest) (d : Descriptor) → Wants r d → IsFull d → 1 ≤ w r → Fills space unit least d.filled
    fills-want r d k f o = rw (← k.room o, ← k.element o, ← k.minimum o) f

    commit-fair : (r : ReadRequest) (d : Descriptor) (state : ReadableState) → Wants r d → Gives state d → IsFair (commit_steps me d.filled r state)
    commit-fair r d Readable k g = fills-want r d k g
    commit-fair r d Closed k g = λ o. rw (← k.element o) g
    commit-fair r d Errored k g = fills-want r d k g

    -- what commits leave
    pub record Committed (rest : List Descriptor) (a z : Acts) : Type 0 where
      pub pairs : Pairs z.slots.stream.requests rest
      pub effects : Each IsFair a.out.effects → Each IsFair z.out.effects
      pub same : z.slots ≡ record a.slots { stream = record a.slots.stream { requests = z.slots.stream.requests } }

    committed-by : (d : Descriptor) (ds rest : List Descriptor) (a : Acts) (rs : List ReadRequest) → rs ≡ a.slots.stream.requests → Pairs rs (d ∷ (ds ++ rest)) → Gives a.slots.stream.state d
        → ((b : Acts) → b.slots.stream.state ≡ a.slots.stream.state → Pairs b.slots.stream.requests (ds ++ rest) → Committed rest b (commit_all me ds b))
        → Committed rest a (commit_all me ds (commit_to me d.filled a rs))
    committed-by d ds rest a [] is p g more = absurd p
    committed-by d ds rest a (r ∷ rs) is p g more =
        let b : Acts = causing (commit_steps me d.filled r a.slots.stream.state) (with_requests rs a) in
        let k : Committed rest b (commit_all me ds b) = more b refl p.1 in
        record {
          pairs = k.pairs;
          effects = λ e. k.effects (each-append IsFair a.out.effects (commit_steps me d.filled r a.slots.stream.state ∷ []) e (commit-fair r d a.slots.stream.state p.0 g, tt));
          same = k.same;
        }

    pub committed : (ds rest : List Descriptor) (a : Acts) → Pairs a.slots.stream.requests (ds ++ rest) → AllGive a.slots.stream.state ds → Committed rest a (commit_all me ds a)
    committed [] rest a p g = record { pairs = p; effects = λ e. e; same = refl }
    committed (d ∷ ds) rest a p g =
        committed-by d ds rest a a.slots.stream.requests refl p g.0 (λ b s q. committed ds rest b q (rw s g.1))
