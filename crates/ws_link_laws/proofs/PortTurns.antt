-- What an operation of a port leaves of a link: of the port at the end of the destination, of the one at the end of the source, or of another.
use Rattle.ws_steps.specs.Histories.{is_same}
use Rattle.ws_steps.specs.declared.effects.Owner.{Owner}
use Rattle.ws_steps.specs.declared.effects.Owner.TheVariants.{Host, HalfOf, BranchOf, EndOf}
use Rattle.ws_steps.specs.Slots.{owner_at, has_byte}
use Rattle.ws_link_laws.specs.Link.{ear_by, giver_by}
use Rattle.ws_link_laws.proofs.PortShut.{shut-at}
use Rattle.ws_transform_laws.proofs.PortLive.{PortLiving, lives-at}
use Rattle.ws_link_laws.proofs.TransformTurns.{default-source}
use Rattle.ws_steps.specs.Slots.{readable_at}
use Rattle.ws_link_laws.proofs.Ahead.{Ahead}
use Rattle.std.proofs.Common.{◌≡◌, ◌≢◌, ℕ, Bool, true, false, List, [], ◌∷◌, Option, Some, None, slice_get, refl, sym, ap, subst, ◌∙◌, arith}
use Rattle.ws_value.specs.declared.ids.PipeId.{PipeId}
use Rattle.ws_value.specs.declared.ids.PortId.{PortId}
use Rattle.ws_value.specs.declared.ids.PromiseId.{PromiseId}
use Rattle.ws_value.specs.declared.ids.StreamId.{StreamId}
use Rattle.ws_value.specs.declared.value.Message.{Message}
use Rattle.ws_value.specs.declared.value.Message.TheVariants.{Pull as PullMessage, Chunk as ChunkMessage, Close as CloseMessage, Error as ErrorMessage}
use Rattle.ws_value.specs.declared.value.Value.{Value}
use Rattle.ws_steps.specs.declared.calls.Event.TheVariants.{Post}
use Rattle.ws_steps.specs.declared.effects.Effect.{Effect}
use Rattle.ws_steps.specs.declared.effects.Effect.TheVariants.{Transform as OnTransform, Port as OnPort, CallHost}
use Rattle.ws_steps.specs.declared.effects.Use.{Use}
use Rattle.ws_steps.specs.declared.port.PortOperation.{PortOperation}
use Rattle.ws_steps.specs.declared.port.PortOperation.TheVariants as names
use Rattle.ws_steps.specs.declared.port.Side.{Side}
use Rattle.ws_steps.specs.declared.port.Side.TheVariants.{Readable as ReadableSide, Writable as WritableSide}
use Rattle.ws_steps.specs.Cross as cross
use Rattle.ws_steps.specs.Cross.{Acts, deliver, deliver_to, post, post_chunk, close, causing, done, posting}
use Rattle.ws_steps.specs.Operations.{port_operation}
use Rattle.ws_steps.specs.Readable as readable
use Rattle.ws_steps.specs.Readable.{can_close_or_enqueue}
use Rattle.ws_steps.specs.Slots.{Slots, found, clones_at, on_port_at, source_at}
use Rattle.ws_steps.specs.Turns.{row}
use Rattle.ws_flow.specs.Told.{Open, Closed, Told, told, then_told, IsShortOf}
use Rattle.ws_flow.proofs.Told.{short_refl}
use Rattle.ws_laws.proofs.Lists.{Each, each-map}
use Rattle.ws_laws.proofs.PortDoes.{PortCauses, port-causes}
use Rattle.ws_laws.proofs.Tables.{either, is_same-refl}
use Rattle.ws_transform_laws.proofs.Branches.{port-caused}
use Rattle.ws_link_laws.specs.Link.{Ear, OfPort, Giver, OfEnd, is_port, is_end, silence, in_source, ear_at, giver_at, heard_of, unheard, delivered}
use Rattle.ws_link_laws.proofs.Late.{flushes}
use Rattle.ws_link_laws.proofs.Ahead.{posted-silent}
use Rattle.ws_link_laws.proofs.Hosts.{Hosts, sink-there, hosts-source}
use Rattle.ws_link_laws.proofs.AtEnds.{port-nowhere, end-nowhere, AtGiver, OwnGiver, OtherGiver, at-giver, AtPort, OwnPort, OtherPort, at-port}
use Rattle.ws_link_laws.proofs.Standing.{IsInner, IsNotLast}
use Rattle.ws_link_laws.proofs.Telling.{if_same, tells, IsSilent, silent-all, hands, writes, chunks, coming}
use Rattle.ws_link_laws.proofs.Unheard.{unheard-last, posts-unheard, row-unheard}
use Rattle.ws_link_laws.proofs.Ahead.{Ahead}

-- what a port causes

port-hands : (w : Ear) (c : PortId) (stream : StreamId) (e : Effect) → PortCauses c stream e → IsSilent (hands w) e
port-hands w c stream (CallHost call u) k = absurd k
port-hands w c stream (OnTransform t operation) k = absurd k
port-hands w c stream (OnPort d names.Unblock) k = refl
port-hands w c stream (OnPort d operation) k = absurd k
port-hands w c stream _ k = refl

pub port-writes : (j : StreamId) (c : PortId) (stream : StreamId) (e : Effect) → PortCauses c stream e → IsSilent (writes j) e
port-writes j c stream e k = grind (arith, k, if_same)

pub port-chunks : (p : PipeId) (c : PortId) (stream : StreamId) (e : Effect) → PortCauses c stream e → IsSilent (chunks p) e
port-chunks p c stream e k = grind (arith, k)

pub port-inner : (i j : StreamId) (p : PipeId) (n : ℕ) (c : PortId) (stream : StreamId) (e : Effect) → PortCauses c stream e → IsInner i j p n e
port-inner i j p n c stream e k = grind (arith, k)

pub port-last : (p : PipeId) (c : PortId) (stream : StreamId) (e : Effect) → PortCauses c stream e → IsNotLast p e
port-last p c stream e k = grind (arith, k)

port-coming : (g : Giver) (i : StreamId) (c : PortId) (stream : StreamId) (e : Effect) → is_same i stream ≡ false → PortCauses c stream e → IsSilent (coming g i) e
port-coming g i c stream e n k = grind (arith, n, k)

-- what enters a source in its place: the same, or nothing does, since the source takes nothing
pub data Lets (o : Giver) (i : StreamId) (r : readable.Slots) (e : Effect) (cs : List Effect) : Type 0 where
  AsAsked : tells (coming o i) cs ≡ coming o i e → Lets o i r e cs
  IsShut : can_close_or_enqueue r ≡ false → tells (coming o i) cs ≡ silence → Lets o i r e cs

source-shut : (r : readable.Slots) → can_close_or_enqueue r ≡ false → (in_source r).mark ≢ Open
source-shut r e = grind (arith, e)

shut_all : (x y : Told Value) → x.mark ≢ Open → then_told x y ≡ x
shut_all x y n = grind (arith, n)

pub port-short : (o : Giver) (i : StreamId) (r : readable.Slots) (e : Effect) (cs : List Effect) (M : Told Value) → Lets o i r e cs → IsShortOf (then_told (in_source r) (then_told (tells (coming o i) cs) M)) (then_told (in_source r) (then_told (coming o i e) M))
port-short o i r e cs M (AsAsked is) = rw is (short_refl _)
port-short o i r e cs M (IsShut none quiet) = rw (quiet, shut_all (in_source r) M (source-shut r none), shut_all (in_source r) (then_told (coming o i e) M) (source-shut r none)) (short_refl (in_source r))

-- what the host hears of in the place of an operation: the same; or the close, where nothing stood, at the end of a destination that closes
pub data Posts (w : Ear) (e : Effect) (s z : Slots) : Type 0 where
  SameEvents : unheard w z.promises.events ≡ unheard w s.promises.events → hands w e ≡ silence → Posts w e s z
  TheChunk : (v : Value) → unheard w z.promises.events ≡ then_told (unheard w s.promises.events) (told (v ∷ []) Open) → hands w e ≡ told (v ∷ []) Open → Posts w e s z
  TheClose : flushes w e ≡ true → unheard w z.promises.events ≡ then_told (unheard w s.promises.events) (told [] Closed) → hands w e ≡ silence → Posts w e s z

pub record Outside (i j : StreamId) (p : PipeId) (n : ℕ) (s : Slots) (e : Effect) (z : Slots) (cs : List Effect) : Type 0 where
  pub posts : Posts (ear_at j s) e s z
  pub hands : tells (hands (ear_at j s)) cs ≡ silence
  pub lets : Lets (giver_at i s) i (source_at i s) e cs
  pub writes : tells (writes j) cs ≡ silence
  pub chunks : tells (chunks p) cs ≡ silence
  pub inner : Each (IsInner i j p n) cs
  pub last : Each (IsNotLast p) cs

abbrev IsPost : PortOperation → Type 0
IsPost (names.PostChunk v d) = Unit {0}
IsPost _ = ⊥

abbrev pub IsDelivery : PortOperation → Type 0
IsDelivery (names.Deliver m) = Unit {0}
IsDelivery _ = ⊥

other-hands : (w : Ear) (c : PortId) (operation : PortOperation) → is_port w c ≡ false → hands w (OnPort c operation) ≡ silence
other-hands w c (names.PostChunk v d) n = posted-silent w c v n
other-hands w c _ n = refl

other-comes : (g : Giver) (i : StreamId) (c : PortId) (operation : PortOperation) → is_end g c ≡ false → coming g i (OnPort c operation) ≡ silence
other-comes g i c (names.Deliver m) n = rw n refl
other-comes g i c _ n = refl

port_same : (c : PortId) → is_port (OfPort c) c ≡ true
port_same c = grind arith

end_same : (c : PortId) → is_end (OfEnd c) c ≡ true
end_same c = grind arith

-- a message is posted, where the port is entangled

live-posts : (w : Ear) (c : PortId) (m : Message) (s : Slots) (x : cross.Slots) → x.live ≡ true → unheard w (post c m (record { slots = x; out = found s })).out.promises.events ≡ then_told (unheard w s.promises.events) (heard_of w (Post c m))
live-posts w c m s x live = rw live (unheard-last w s.promises.events (Post c m))

dead-posts : (w : Ear) (c : PortId) (m : Message) (s : Slots) (x : cross.Slots) → x.live ≡ false → unheard w (post c m (record { slots = x; out = found s })).out.promises.events ≡ unheard w s.promises.events
dead-posts w c m s x dead = rw dead refl

-- other operations than the delivery of a message bring nothing

module _ (g : Giver) (i : StreamId) (c : PortId) where
  posts-coming : (m : Message) (a : Acts) → a.out.effects ≡ [] → Each (IsSilent (coming g i)) (post c m a).out.effects
  posts-coming m a none = either (λ (b : Acts). Each (IsSilent (coming g i)) b.out.effects) a.slots.live (posting c m a) a (λ e. rw none tt) (λ e. rw none tt)

  pub quiet-coming : (clones : Bool) (operation : PortOperation) (a : Acts) → (IsDelivery operation → ⊥) → a.out.effects ≡ [] → Each (IsSilent (coming g i)) (port_operation c clones operation a).out.effects
  unfolding cross.pull cross.leave cross.close cross.write cross.write_goes_on cross.post_chunk cross.unblock
  quiet-coming clones (names.Deliver m) a n none = absurd (n tt)
  quiet-coming clones operation a n none = grind (arith, none, posts-coming)

module _ (w : Ear) (c : PortId) (s : Slots) (x : cross.Slots) (there : slice_get s.ports c.0 ≡ Some x) (is : w ≡ OfPort c) where
  self : is_port w c ≡ true
  self = rw is (port_same c)

  posts-chunk : (v : Value) (d : PromiseId) → x.live ≡ true → Posts w (OnPort c (names.PostChunk v d)) s (row (OnPort c (names.PostChunk v d)) s).slots
  unfolding row cross.post_chunk
  posts-chunk v d live = TheChunk v (rw there (live-posts w c (ChunkMessage v) s x live ∙ rw self refl)) (rw self refl)

  posts-close : (u : Use) → Posts w (OnPort c (names.Close u)) s (row (OnPort c (names.Close u)) s).slots
  unfolding row cross.close
  posts-close u = by x.live refl
    where
      by : (live : Bool) → live ≡ x.live → Posts w (OnPort c (names.Close u)) s (on_port_at (λ clones. port_operation c clones (names.Close u)) c s (slice_get s.ports c.0)).slots
      by true e = TheClose self (rw there (live-posts w c CloseMessage s x (sym e) ∙ rw self refl)) refl
      by false e = SameEvents (rw there (dead-posts w c CloseMessage s x (sym e))) refl

  own-posts : (operation : PortOperation) → (IsPost operation → x.live ≡ true) → Posts w (OnPort c operation) s (row (OnPort c operation) s).slots
  unfolding row
  own-posts names.Pull k = SameEvents (posts-unheard w c names.Pull s (slice_get s.ports c.0) (if_same (is_port w c))) refl
  own-posts (names.Leave r u) k = SameEvents (posts-unheard w c (names.Leave r u) s (slice_get s.ports c.0) (λ e. if_same (is_port w c))) refl
  own-posts (names.Write u) k = SameEvents (posts-unheard w c (names.Write u) s (slice_get s.ports c.0) tt) refl
  own-posts (names.WriteGoesOn d) k = SameEvents (posts-unheard w c (names.WriteGoesOn d) s (slice_get s.ports c.0) (λ e. if_same (is_port w c))) refl
  own-posts (names.PostChunk v d) k = posts-chunk v d (k tt)
  own-posts (names.Close u) k = posts-close u
  own-posts (names.Deliver m) k = SameEvents (posts-unheard w c (names.Deliver m) s (slice_get s.ports c.0) tt) refl
  own-posts names.Unblock k = SameEvents (posts-unheard w c names.Unblock s (slice_get s.ports c.0) tt) refl

module _ (g : Giver) (i : StreamId) (r : readable.Slots) (c : PortId) (s : Slots) (x : cross.Slots) (is : g ≡ OfEnd c) (at : x.stream ≡ i) (side : x.side ≡ ReadableSide) (shuts : x.live ≡ false → can_close_or_enqueue r ≡ false) where
  ends : is_end g c ≡ true
  ends = rw is (end_same c)

  abbrev a : Acts
  a = record { slots = x; out = found s }

  delivers : (m : Message) → tells (coming g i) (deliver_to c m a ReadableSide).out.effects ≡ delivered m
  delivers PullMessage = refl
  delivers (ChunkMessage v) = let same = is_same-refl i in rw (at, same, is) refl
  delivers CloseMessage = let same = is_same-refl i in rw (at, same) refl
  delivers (ErrorMessage e) = let same = is_same-refl i in rw (at, same) refl

  asked : (m : Message) → coming g i (OnPort c (names.Deliver m)) ≡ delivered m
  asked m = rw ends refl

  delivers_at : (m : Message) (t : Side) → t ≡ ReadableSide → tells (coming g i) (deliver_to c m a t).out.effects ≡ delivered m
  delivers_at m ReadableSide e = delivers m
  delivers_at m WritableSide e = cc

  own-lets : (operation : PortOperation) → Lets g i r (OnPort c operation) (port_operation c (clones_at x s) operation a).out.effects
  unfolding deliver
  own-lets (names.Deliver m) =
      either (λ (b : Acts). Lets g i r (OnPort c (names.Deliver m)) b.out.effects) x.live (deliver_to c m a x.side) a (λ e. AsAsked (delivers_at m x.side side ∙ sym (asked m))) (λ e. IsShut (shuts e) refl)
  own-lets names.Pull = AsAsked (silent-all (coming g i) _ (quiet-coming g i c (clones_at x s) names.Pull a (λ n. n) refl))
  own-lets (names.Leave e u) = AsAsked (silent-all (coming g i) _ (quiet-coming g i c (clones_at x s) (names.Leave e u) a (λ n. n) refl))
  own-lets (names.Write u) = AsAsked (silent-all (coming g i) _ (quiet-coming g i c (clones_at x s) (names.Write u) a (λ n. n) refl))
  own-lets (names.WriteGoesOn d) = AsAsked (silent-all (coming g i) _ (quiet-coming g i c (clones_at x s) (names.WriteGoesOn d) a (λ n. n) refl))
  own-lets (names.PostChunk v d) = AsAsked (silent-all (coming g i) _ (quiet-coming g i c (clones_at x s) (names.PostChunk v d) a (λ n. n) refl))
  own-lets (names.Close u) = AsAsked (silent-all (coming g i) _ (quiet-coming g i c (clones_at x s) (names.Close u) a (λ n. n) refl))
  own-lets names.Unblock = AsAsked (silent-all (coming g i) _ (quiet-coming g i c (clones_at x s) names.Unblock a (λ n. n) refl))

-- a chunk that is handed on finds the port of the destination entangled, and the source takes nothing once its port isn't
pub record Entangled (i j : StreamId) (s : Slots) (e : Effect) : Type 0 where
  pub lives : (c : PortId) (x : cross.Slots) (v : Value) (d : PromiseId) → e ≡ OnPort c (names.PostChunk v d) → ear_at j s ≡ OfPort c → slice_get s.ports c.0 ≡ Some x → x.live ≡ true
  pub shuts : (c : PortId) (x : cross.Slots) → giver_at i s ≡ OfEnd c → slice_get s.ports c.0 ≡ Some x → x.side ≡ ReadableSide → x.stream ≡ i → x.live ≡ false → can_close_or_enqueue (source_at i s) ≡ false

module _ (i j : StreamId) (s : Slots) (h : Hosts i j s) (c : PortId) (operation : PortOperation) (k : Entangled i j s (OnPort c operation)) where
  abbrev e : Effect
  e = OnPort c operation

  posts-at : (o : Option cross.Slots) → slice_get s.ports c.0 ≡ o → Posts (ear_at j s) e s (row e s).slots
  posts-at None none = let n = port-nowhere i j s c h none in SameEvents (row-unheard (ear_at j s) e s n) (other-hands (ear_at j s) c operation n)
  posts-at (Some x) there = by (at-port i j s c x h there)
    where
      live : ear_at j s ≡ OfPort c → (o : PortOperation) → o ≡ operation → IsPost o → x.live ≡ true
      live is (names.PostChunk v d) f m = k.lives c x v d (ap (λ (q : PortOperation). OnPort c q) (sym f)) is there
      live is _ f m = absurd m

      by : AtPort j (ear_at j s) c x → Posts (ear_at j s) e s (row e s).slots
      by (OwnPort is at side) = own-posts (ear_at j s) c s x there is operation (live is operation refl)
      by (OtherPort n far) = SameEvents (row-unheard (ear_at j s) e s n) (other-hands (ear_at j s) c operation n)

  lets-at : (o : Option cross.Slots) → slice_get s.ports c.0 ≡ o → Lets (giver_at i s) i (source_at i s) e (on_port_at (λ clones. port_operation c clones operation) c s o).caused
  lets-at None none = AsAsked (sym (other-comes (giver_at i s) i c operation (end-nowhere i s c (hosts-source i j s h) none)))
  lets-at (Some x) there = by (at-giver i s c x (hosts-source i j s h) there)
    where
      cs : List Effect
      cs = (port_operation c (clones_at x s) operation (record { slots = x; out = found s })).out.effects

      by : AtGiver i (giver_at i s) c x → Lets (giver_at i s) i (source_at i s) e cs
      by (OwnGiver is at side) = own-lets (giver_at i s) i (source_at i s) c s x is at side (k.shuts c x is there side at) operation
      by (OtherGiver n far) =
          AsAsked (silent-all (coming (giver_at i s) i) cs (each-map (PortCauses c x.stream) (IsSilent (coming (giver_at i s) i)) (λ u m. port-coming (giver_at i s) i c x.stream u far m) cs (port-causes c (clones_at x s) operation (record { slots = x; out = found s }) tt).1.1)
          ∙ sym (other-comes (giver_at i s) i c operation n))

  pub port-outside : (p : PipeId) (n : ℕ) → Outside i j p n s e (row e s).slots (row e s).caused
  unfolding row
  port-outside p n = record {
    posts = posts-at (slice_get s.ports c.0) refl;
    hands = silent-all (hands (ear_at j s)) _ (port-caused (IsSilent (hands (ear_at j s))) c operation s (λ x at u m. port-hands (ear_at j s) c x.stream u m));
    lets = lets-at (slice_get s.ports c.0) refl;
    writes = silent-all (writes j) _ (port-caused (IsSilent (writes j)) c operation s (λ x at u m. port-writes j c x.stream u m));
    chunks = silent-all (chunks p) _ (port-caused (IsSilent (chunks p)) c operation s (λ x at u m. port-chunks p c x.stream u m));
    inner = port-caused (IsInner i j p n) c operation s (λ x at u m. port-inner i j p n c x.stream u m);
    last = port-caused (IsNotLast p) c operation s (λ x at u m. port-last p c x.stream u m);
  }

ear-owner : (j : StreamId) (s : Slots) (o : Owner) (c : PortId) → ear_by j s o ≡ OfPort c → o ≡ EndOf c
ear-owner j s Host c e = cc
ear-owner j s (HalfOf t) c e = cc
ear-owner j s (BranchOf t half) c e = cc
ear-owner j s (EndOf d) c e = cc

giver-default : (b : Bool) (o : Owner) (c : PortId) → giver_by b o ≡ OfEnd c → b ≡ false
giver-default true o c e = cc
giver-default false o c e = refl

pub entangled : (i j : StreamId) (s : Slots) (d : PortId) (operation : PortOperation) (es : List Effect) → Ahead i j s (OnPort d operation ∷ es) → Entangled i j s (OnPort d operation)
entangled i j s d operation es a = record {
  lives = λ c x v p is w there. lives-at j c a.history s v p es x (subst (λ (e : Effect). PortLiving j c a.history s (e ∷ es)) is (a.living c)) (ear-owner j s (owner_at j s) c w) (sink-there i j s a.hosts) there;
  shuts = λ c x g there side stream dead.
      let same : source_at i s ≡ readable_at i s = default-source (slice_get s.streams i.0) (giver-default (has_byte i s) (owner_at i s) c g) in
      ap can_close_or_enqueue same ∙ shut-at i c s d operation es (a.shutting c) x there side stream dead;
}
