-- What enters a link as a call begins: chunks and bytes, the end of a source, a message at a port.
use Rattle.std.proofs.Common.{◌≡◌, ◌≢◌, ◌⊎◌, inl, inr, ℕ, zero, suc, Bool, true, false, not, ◌&&◌, ◌||◌, nat_eq, if◌then◌else◌, List, [], ◌∷◌, Option, Some, slice_get, refl, sym, ap, ◌∙◌, arith, subst}
use Rattle.ws_value.specs.declared.ids.PipeId.{PipeId}
use Rattle.ws_value.specs.declared.ids.StreamId.{StreamId}
use Rattle.ws_value.specs.declared.value.Value.{Value}
use Rattle.ws_value.specs.declared.value.Value.TheVariants.{Plain as PlainValue, Bytes}
use Rattle.ws_steps.specs.declared.byte.ByteOperation.TheVariants.{Enqueue as EnqueueBytes}
use Rattle.ws_steps.specs.declared.calls.Call.TheVariants.{Enqueue, Finish, Terminate, Open, Deliver}
use Rattle.ws_steps.specs.declared.calls.Reply.{Reply}
use Rattle.ws_steps.specs.declared.calls.Reply.TheVariants.{Done as ReplyDone, Throws}
use Rattle.ws_steps.specs.declared.calls.Thrown.TheVariants.{TypeError, Unsupported}
use Rattle.ws_steps.specs.declared.effects.Effect.{Effect}
use Rattle.ws_steps.specs.declared.effects.Effect.TheVariants.{Readable as OnReadable, Byte as OnByte, Transform as OnTransform}
use Rattle.ws_steps.specs.declared.effects.Owner.{Owner}
use Rattle.ws_steps.specs.declared.effects.Owner.TheVariants.{Host, HalfOf, BranchOf, EndOf}
use Rattle.ws_steps.specs.declared.readable.ReadableOperation.TheVariants.{Enqueue as EnqueueChunk, Close as CloseReadable}
use Rattle.ws_steps.specs.declared.transform.TransformId.{TransformId}
use Rattle.ws_steps.specs.declared.transform.TransformOperation.TheVariants.{Enqueue as EnqueueByTransform, Terminate as TerminateTransform}
use Rattle.ws_steps.specs.Begun as replying
use Rattle.ws_steps.specs.ControllerCalls as controller_calls
use Rattle.ws_steps.specs.Begun.{Begun}
use Rattle.ws_steps.specs.Bytes as byte
use Rattle.ws_steps.specs.Histories.{is_same}
use Rattle.ws_steps.specs.Pipes as pipe
use Rattle.ws_steps.specs.Queues.{is_empty}
use Rattle.ws_steps.specs.Readable as readable
use Rattle.ws_steps.specs.Readable.{can_close_or_enqueue}
use Rattle.ws_steps.specs.Slots.{Slots, Stream, is_readable_stream, is_byte_stream, causes, has_readable, has_byte, has_source, has_writable, owner_at, readable_at, byte_at, source_at, as_source, writable_at, pipe_at}
use Rattle.ws_flow.specs.Told.{Open, Closed as Ended, Told, told, then_told}
use Rattle.ws_flow.proofs.Told.{then_empty, short_refl}
use Rattle.ws_laws.proofs.Halves.{Halved}
use Rattle.ws_laws.proofs.Tables.{either, eq_numbers, is_same-refl, same_id, readable_there, byte_there}
use Rattle.ws_link_laws.specs.Link.{Giver, OfSource, OfByteSource, OfHalf, OfEnd, delivered, silence, in_sink, in_source, in_pipe, ear_at, unheard, behind, giver_by, giver_at, lets_in, enters}
use Rattle.ws_link_laws.specs.Entering.{chunk_in, bytes_in}
use Rattle.ws_link_laws.specs.Sound.{all_spare, AreApart, IsHosts}
use Rattle.ws_link_laws.proofs.Telling.{is_of, if_same, coming}
use Rattle.ws_link_laws.proofs.Hosts.{source-owner, half-giver, one-readable, readable-shape}
use Rattle.ws_link_laws.proofs.Sinks.{shut}
use Rattle.ws_link_laws.proofs.SourceTurns.{is_default}
use Rattle.ws_value.specs.declared.ids.TeeId.{TeeId}
use Rattle.ws_value.specs.declared.ids.PortId.{PortId}
use Rattle.ws_steps.specs.Cross as cross
use Rattle.ws_steps.specs.declared.tee.Half.{Half}
use Rattle.ws_laws.proofs.Ended.{Ended as AreEnds, PortShape, port_shape}
use Rattle.ws_steps.specs.declared.calls.Call.TheVariants.{Open, Deliver}
use Rattle.ws_steps.specs.declared.port.PortOperation.TheVariants.{Deliver as DeliverMessage}
use Rattle.ws_steps.specs.PortHistory.{is_same_port}
use Rattle.ws_value.specs.declared.value.Message.{Message}
use Rattle.ws_steps.specs.declared.effects.Effect.TheVariants.{Port as OnPort}
use Rattle.std.proofs.Common.{map}
use Rattle.ws_steps.specs.Slots.{has_port}
use Rattle.std.proofs.Common.{is_some}
use Rattle.ws_steps.specs.declared.port.Side.TheVariants.{Readable as ReadableSide}
use Rattle.ws_link_laws.proofs.Outer.{IsOuter, Begins}

-- a stream isn't of both kinds, and one that is there is of one

neither : (a b : Bool) → a ≡ false → b ≡ false → a || b ≡ true → ⊥
neither a b e f g = grind (arith, e, f, g)

no_default : (o : Option Stream) → is_byte_stream o ≡ true → is_readable_stream o ≡ false
no_default o e = grind (arith, e)

-- a port that is at an end is there

no-port : (ps : List cross.Slots) (n : ℕ) (x : PortShape) → slice_get (map port_shape ps) n ≡ Some x → is_some (slice_get ps n) ≡ false → ⊥
no-port [] n x e h = cc
no-port (y ∷ ys) zero x e h = cc
no-port (y ∷ ys) (suc n) x e h = no-port ys n x e h

end-giver : (b : Bool) (o : Owner) (c : PortId) → giver_by b o ≡ OfEnd c → (b ≡ false) × (o ≡ EndOf c)
end-giver true o c e = cc
end-giver false Host c e = cc
end-giver false (HalfOf u) c e = cc
end-giver false (BranchOf u half) c e = cc
end-giver false (EndOf d) c e = (refl, cc)

-- where the source takes nothing, what is behind the host has come to an end

then_shut : (x y : Told Value) → y.mark ≢ Open → (then_told x y).mark ≢ Open
then_shut x y n = grind (arith, n)

pub source_shut : (r : readable.Slots) → can_close_or_enqueue r ≡ false → (in_source r).mark ≢ Open
source_shut r e = grind (arith, e)

pipe_shut : (x : pipe.Slots) (y : Told Value) → y.mark ≢ Open → (in_pipe x y).mark ≢ Open
pipe_shut x y n = grind (arith, n)

behind-shut : (i j : StreamId) (p : PipeId) (s : Slots) → can_close_or_enqueue (source_at i s) ≡ false → (behind i j p s).mark ≢ Open
behind-shut i j p s e =
    then_shut (unheard (ear_at j s) s.promises.events) _ (then_shut (in_sink (writable_at j s)) _ (pipe_shut (pipe_at p s) (in_source (source_at i s)) (source_shut (source_at i s) e)))

module _ (i j : StreamId) (p : PipeId) (s : Slots) (here : has_source i s ≡ true) (sink : has_writable j s ≡ true) (halved : Halved s) (ended : AreEnds s) (locks : all_spare i j s.locks ≡ true) (apart : AreApart i j p s.pipes) where
  -- what enters

  pub refused : (t : Told Value) (reply : Reply) → (t ≡ silence) ⊎ ((behind i j p s).mark ≢ Open) → Begins i j p s t (replying.replies reply s)
  refused t reply (inl e) = rw e (record { locks = locks; apart = apart; heard = λ w. refl; outer = tt; comes = λ own. short_refl _ })
  refused t reply (inr n) =
      record { locks = locks; apart = apart; heard = λ w. refl; outer = tt; comes = λ own. rw (then_empty (behind i j p s)) (shut (behind i j p s) (behind i j p s) t n (short_refl (behind i j p s))) }

  unsupported : (t : Told Value) → (IsHosts s (owner_at i s) → t ≡ silence) → Begins i j p s t (replying.unsupported s)
  unsupported t none =
      record { locks = locks; apart = apart; heard = λ w. refl; outer = tt; comes = λ own. rw (none own, then_empty (behind i j p s)) (short_refl (behind i j p s)) }

  branch-elsewhere : (k : StreamId) (a : TeeId) (half : Half) → IsHosts s (owner_at i s) → owner_at k s ≡ BranchOf a half → is_same i k ≡ false
  branch-elsewhere k a half own owner = by (is_same i k) refl
    where
      by : (same : Bool) → same ≡ is_same i k → is_same i k ≡ false
      by false n = sym n
      by true n = absurd (subst (λ (o : Owner). IsHosts s o) (ap (λ (x : StreamId). owner_at x s) (same_id i k (sym n)) ∙ owner) own)

  -- at another stream nothing enters; and at the source something does, or it has come to an end
  enters-or : (k : StreamId) (t : Told Value) → (is_same i k ≡ false → t ≡ silence) → (i ≡ k → (t ≡ silence) ⊎ ((behind i j p s).mark ≢ Open)) → (t ≡ silence) ⊎ ((behind i j p s).mark ≢ Open)
  enters-or k t elsewhere f = by (is_same i k) refl
    where
      by : (same : Bool) → same ≡ is_same i k → (t ≡ silence) ⊎ ((behind i j p s).mark ≢ Open)
      by false n = inl (elsewhere (sym n))
      by true n = f (same_id i k (sym n))

  -- where nothing can enter stream k
  full : (k : StreamId) (t : Told Value) → (is_same i k ≡ false → t ≡ silence) → can_close_or_enqueue (source_at k s) ≡ false → (t ≡ silence) ⊎ ((behind i j p s).mark ≢ Open)
  full k t elsewhere e = enters-or k t elsewhere (λ is. inr (behind-shut i j p s (rw is e)))

  pub brings : (t : Told Value) (reply : Reply) (e : Effect) → IsOuter i j e → coming (giver_at i s) i e ≡ t → Begins i j p s t (replying.begun reply (causes (e ∷ []) s))
  brings t reply e o c = record { locks = locks; apart = apart; heard = λ w. refl; outer = (o, tt); comes = λ own. rw (then_empty (coming (giver_at i s) i e), c) (short_refl (then_told (behind i j p s) t)) }

  -- what enters is told by what the source is, where that is stream k

  own-or : (k : StreamId) (t : Giver → Told Value) (u : Told Value) (g : Giver) → (i ≡ k → giver_at i s ≡ g) → (is_same i k ≡ false → t (giver_at i s) ≡ u) → t g ≡ u → t (giver_at i s) ≡ u
  own-or k t u g own elsewhere h = by (is_same i k) refl
    where
      by : (same : Bool) → same ≡ is_same i k → t (giver_at i s) ≡ u
      by false n = elsewhere (sym n)
      by true n = rw (own (same_id i k (sym n))) h

  default-is : (k : StreamId) (o : Owner) → has_byte k s ≡ false → owner_at k s ≡ o → i ≡ k → giver_at i s ≡ giver_by false o
  default-is k o none owner is = rw (is, none, owner) refl

  bytes-is : (k : StreamId) → has_byte k s ≡ true → i ≡ k → giver_at i s ≡ OfByteSource
  bytes-is k there is = rw (is, there) refl

  -- a stream with a default controller, by whose it is

  default-full : (k : StreamId) → has_readable k s ≡ true → can_close_or_enqueue (readable_at k s) ≡ false → can_close_or_enqueue (source_at k s) ≡ false
  default-full k there e = rw (ap as_source (readable_there (slice_get s.streams k.0) there)) e

  for_owner : (k : StreamId) (t : Told Value) (operation : Slots → Owner → Begun) → has_byte k s ≡ false → (is_same i k ≡ false → t ≡ silence) → ((o : Owner) → has_readable k s ≡ true → owner_at k s ≡ o → Begins i j p s t (operation s o))
      → Begins i j p s t (replying.for_readable k (λ z. operation z (readable_at k z).owner) s)
  for_owner k t operation none elsewhere f =
      either (Begins i j p s t) (has_readable k s) (operation s (readable_at k s).owner) (replying.unsupported s)
      (λ there. f (readable_at k s).owner there (source-owner k s there))
      (λ absent. refused t (Throws Unsupported) (enters-or k t elsewhere (λ is. let there : has_source k s ≡ true = rw is at here in absurd (neither (has_readable k s) (has_byte k s) absent none there))))

  -- the readable half of a transform stream is one
  half-is : (k : StreamId) (a : TransformId) → has_readable k s ≡ true → has_byte k s ≡ false → owner_at k s ≡ HalfOf a → is_of (giver_at i s) a ≡ is_same i k
  half-is k a there none owner = by (is_same i k) refl
    where
      by_giver : (g : Giver) → g ≡ giver_at i s → is_same i k ≡ false → (b : Bool) → b ≡ is_of g a → is_of g a ≡ false
      by_giver OfSource e n b f = refl
      by_giver OfByteSource e n b f = refl
      by_giver (OfEnd c) e n b f = refl
      by_giver (OfHalf u) e n false f = sym f
      by_giver (OfHalf u) e n true f =
          let is : u ≡ a = ap (λ (m : ℕ). record { 0 = m }) (eq_numbers u.0 a.0 (sym f)) in
          let own = half-giver (has_byte i s) (owner_at i s) u (sym e) in
          let one : i ≡ k = one-readable i k a s halved (is_default (slice_get s.streams i.0) here own.0) there (own.1 ∙ ap HalfOf is) owner in
          let same : is_same i k ≡ true = rw one (is_same-refl k) in cc

      by : (same : Bool) → same ≡ is_same i k → is_of (giver_at i s) a ≡ is_same i k
      by false n = by_giver (giver_at i s) refl (sym n) (is_of (giver_at i s) a) refl ∙ n
      by true n =
          let mine : giver_at i s ≡ OfHalf a = default-is k (HalfOf a) none owner (same_id i k (sym n)) in
          let self : nat_eq a.0 a.0 ≡ true = grind arith in
          rw (mine, self) n

  chunk-comes : (k : StreamId) (v : Value) → has_byte k s ≡ false → owner_at k s ≡ Host → coming (giver_at i s) i (OnReadable k (EnqueueChunk v)) ≡ enters (giver_at i s) i (Enqueue k v)
  chunk-comes k v none owner = by (is_same i k) refl
    where
      by : (same : Bool) → same ≡ is_same i k → (if is_same i k then chunk_in (giver_at i s) v else silence) ≡ (if is_same i k then lets_in (giver_at i s) v else silence)
      by false n = rw (← n) refl
      by true n = let own = default-is k Host none owner (same_id i k (sym n)) in rw (← n, own) refl

  half-comes : (k : StreamId) (v : Value) (a : TransformId) → has_readable k s ≡ true → has_byte k s ≡ false → owner_at k s ≡ HalfOf a → coming (giver_at i s) i (OnTransform a (EnqueueByTransform v)) ≡ enters (giver_at i s) i (Enqueue k v)
  half-comes k v a there none owner = by (is_same i k) refl
    where
      by : (same : Bool) → same ≡ is_same i k → (if is_of (giver_at i s) a then told (v ∷ []) Open else silence) ≡ (if is_same i k then lets_in (giver_at i s) v else silence)
      by false n = let h = half-is k a there none owner in rw (h, ← n) refl
      by true n =
          let h = half-is k a there none owner in
          let own = default-is k (HalfOf a) none owner (same_id i k (sym n)) in
          rw (h, ← n, own) refl

  enqueue-elsewhere : (k : StreamId) (v : Value) (g : Giver) → is_same i k ≡ false → enters g i (Enqueue k v) ≡ silence
  enqueue-elsewhere k v g d = rw d refl

  enqueues : (k : StreamId) (v : Value) → has_byte k s ≡ false → (o : Owner) → has_readable k s ≡ true → owner_at k s ≡ o → Begins i j p s (enters (giver_at i s) i (Enqueue k v)) (controller_calls.enqueue_by v k s o)
  enqueues k v none Host there owner =
      let t : Told Value = enters (giver_at i s) i (Enqueue k v) in
      either (Begins i j p s t) (can_close_or_enqueue (readable_at k s)) _ _
      (λ e. brings t ReplyDone (OnReadable k (EnqueueChunk v)) tt (chunk-comes k v none owner))
      (λ e. refused t (Throws TypeError) (full k t (enqueue-elsewhere k v (giver_at i s)) (default-full k there e)))
  enqueues k v none (HalfOf a) there owner =
      let t : Told Value = enters (giver_at i s) i (Enqueue k v) in
      either (Begins i j p s t) (can_close_or_enqueue (readable_at k s)) _ _
      (λ e. brings t ReplyDone (OnTransform a (EnqueueByTransform v)) tt (half-comes k v a there none owner))
      (λ e. refused t (Throws TypeError) (full k t (enqueue-elsewhere k v (giver_at i s)) (default-full k there e)))
  enqueues k v none (BranchOf a half) there owner =
      unsupported (enters (giver_at i s) i (Enqueue k v)) (λ own. enqueue-elsewhere k v (giver_at i s) (branch-elsewhere k a half own owner))
  enqueues k v none (EndOf c) there owner =
      refused (enters (giver_at i s) i (Enqueue k v)) (Throws Unsupported)
      (inl (own-or k (λ g. enters g i (Enqueue k v)) silence (OfEnd c) (default-is k (EndOf c) none owner) (enqueue-elsewhere k v (giver_at i s)) (if_same (is_same i k))))

  -- bytes are enqueued into a byte stream

  none-enters : (k : StreamId) (v : Value) → has_byte k s ≡ true → lets_in OfByteSource v ≡ silence → enters (giver_at i s) i (Enqueue k v) ≡ silence
  none-enters k v there none = own-or k (λ g. enters g i (Enqueue k v)) silence OfByteSource (bytes-is k there) (enqueue-elsewhere k v (giver_at i s)) (rw (none, if_same (is_same i k)) refl)

  bytes-come : (k : StreamId) (b : List ℕ) → has_byte k s ≡ true → coming (giver_at i s) i (OnByte k (EnqueueBytes b)) ≡ enters (giver_at i s) i (Enqueue k (Bytes b))
  bytes-come k b there = by (is_same i k) refl
    where
      by : (same : Bool) → same ≡ is_same i k → (if is_same i k then bytes_in (giver_at i s) b else silence) ≡ (if is_same i k then lets_in (giver_at i s) (Bytes b) else silence)
      by false n = rw (← n) refl
      by true n = let own = bytes-is k there (same_id i k (sym n)) in rw (← n, own) refl

  bytes-full : (k : StreamId) → has_byte k s ≡ true → byte.can_take (byte_at k s) ≡ false → can_close_or_enqueue (source_at k s) ≡ false
  bytes-full k there e = rw (ap as_source (byte_there (slice_get s.streams k.0) there)) e

  bytes-refused : (k : StreamId) (b : List ℕ) → has_byte k s ≡ true → not (is_empty b) && byte.can_take (byte_at k s) ≡ false → (enters (giver_at i s) i (Enqueue k (Bytes b)) ≡ silence) ⊎ ((behind i j p s).mark ≢ Open)
  bytes-refused k [] there e = inl (none-enters k (Bytes []) there refl)
  bytes-refused k (n ∷ ns) there e = full k (enters (giver_at i s) i (Enqueue k (Bytes (n ∷ ns)))) (enqueue-elsewhere k (Bytes (n ∷ ns)) (giver_at i s)) (bytes-full k there e)

  enqueues_bytes : (k : StreamId) (v : Value) → has_byte k s ≡ true → Begins i j p s (enters (giver_at i s) i (Enqueue k v)) (controller_calls.enqueue_bytes k s v)
  enqueues_bytes k (PlainValue v) there = refused (enters (giver_at i s) i (Enqueue k (PlainValue v))) (Throws TypeError) (inl (none-enters k (PlainValue v) there refl))
  enqueues_bytes k (Bytes b) there =
      let t : Told Value = enters (giver_at i s) i (Enqueue k (Bytes b)) in
      either (Begins i j p s t) (not (is_empty b) && byte.can_take (byte_at k s)) _ _
      (λ e. brings t ReplyDone (OnByte k (EnqueueBytes b)) (some (is_empty b) (byte.can_take (byte_at k s)) e) (bytes-come k b there))
      (λ e. refused t (Throws TypeError) (bytes-refused k b there e))
    where
      some : (x y : Bool) → not x && y ≡ true → x ≡ false
      some true y e = cc
      some false y e = refl

  -- the host finishes a source of its own, and terminates a transform stream

  finish-elsewhere : (k : StreamId) (g : Giver) → is_same i k ≡ false → enters g i (Finish k) ≡ silence
  finish-elsewhere k OfSource d = rw d refl
  finish-elsewhere k OfByteSource d = rw d refl
  finish-elsewhere k (OfHalf a) d = refl
  finish-elsewhere k (OfEnd c) d = refl

  terminate-elsewhere : (k : StreamId) (g : Giver) → is_same i k ≡ false → enters g i (Terminate k) ≡ silence
  terminate-elsewhere k OfSource d = refl
  terminate-elsewhere k OfByteSource d = refl
  terminate-elsewhere k (OfHalf a) d = rw d refl
  terminate-elsewhere k (OfEnd c) d = refl

  end-comes : (k : StreamId) (g : Giver) → (i ≡ k → giver_at i s ≡ g) → enters g i (Finish k) ≡ (if is_same i k then told [] Ended else silence) → enters (giver_at i s) i (Finish k) ≡ coming (giver_at i s) i (OnReadable k CloseReadable)
  end-comes k g own e = own-or k (λ o. enters o i (Finish k)) (if is_same i k then told [] Ended else silence) g own (λ d. finish-elsewhere k (giver_at i s) d ∙ rw d refl) e

  finishes : (k : StreamId) → has_byte k s ≡ false → (o : Owner) → has_readable k s ≡ true → owner_at k s ≡ o → Begins i j p s (enters (giver_at i s) i (Finish k)) (controller_calls.finish_by k s o)
  finishes k none Host there owner =
      let t : Told Value = enters (giver_at i s) i (Finish k) in
      either (Begins i j p s t) (can_close_or_enqueue (readable_at k s)) _ _ (λ e. brings t ReplyDone (OnReadable k CloseReadable) tt (sym (end-comes k OfSource (default-is k Host none owner) refl)))
      (λ e. refused t (Throws TypeError) (full k t (finish-elsewhere k (giver_at i s)) (default-full k there e)))
  finishes k none (HalfOf a) there owner =
      refused (enters (giver_at i s) i (Finish k)) (Throws Unsupported) (inl (own-or k (λ g. enters g i (Finish k)) silence (OfHalf a) (default-is k (HalfOf a) none owner) (finish-elsewhere k (giver_at i s)) refl))
  finishes k none (BranchOf a half) there owner = unsupported (enters (giver_at i s) i (Finish k)) (λ own. finish-elsewhere k (giver_at i s) (branch-elsewhere k a half own owner))
  finishes k none (EndOf c) there owner =
      refused (enters (giver_at i s) i (Finish k)) (Throws Unsupported) (inl (own-or k (λ g. enters g i (Finish k)) silence (OfEnd c) (default-is k (EndOf c) none owner) (finish-elsewhere k (giver_at i s)) refl))

  finishes_bytes : (k : StreamId) → has_byte k s ≡ true → Begins i j p s (enters (giver_at i s) i (Finish k)) (controller_calls.finish_bytes k s)
  finishes_bytes k there =
      let t : Told Value = enters (giver_at i s) i (Finish k) in
      either (Begins i j p s t) (byte.can_take (byte_at k s)) _ _
      (λ e. brings t (controller_calls.close_reply (byte_at k s)) (OnReadable k CloseReadable) tt (sym (end-comes k OfByteSource (bytes-is k there) refl)))
      (λ e. refused t (Throws TypeError) (full k t (finish-elsewhere k (giver_at i s)) (bytes-full k there e)))

  terminates : (k : StreamId) → has_byte k s ≡ false → (o : Owner) → has_readable k s ≡ true → owner_at k s ≡ o → Begins i j p s (enters (giver_at i s) i (Terminate k)) (controller_calls.terminate_by s o)
  terminates k none Host there owner =
      refused (enters (giver_at i s) i (Terminate k)) (Throws Unsupported) (inl (own-or k (λ g. enters g i (Terminate k)) silence OfSource (default-is k Host none owner) (terminate-elsewhere k (giver_at i s)) refl))
  terminates k none (HalfOf a) there owner =
      let same : enters (giver_at i s) i (Terminate k) ≡ (if is_same i k then told [] Ended else silence) =
      own-or k (λ g. enters g i (Terminate k)) (if is_same i k then told [] Ended else silence) (OfHalf a) (default-is k (HalfOf a) none owner) (λ d. terminate-elsewhere k (giver_at i s) d ∙ rw d refl) refl in
      brings (enters (giver_at i s) i (Terminate k)) ReplyDone (OnTransform a TerminateTransform) tt (rw (half-is k a there none owner) (sym same))
  terminates k none (BranchOf a half) there owner = unsupported (enters (giver_at i s) i (Terminate k)) (λ own. terminate-elsewhere k (giver_at i s) (branch-elsewhere k a half own owner))
  terminates k none (EndOf c) there owner =
      refused (enters (giver_at i s) i (Terminate k)) (Throws Unsupported) (inl (own-or k (λ g. enters g i (Terminate k)) silence (OfEnd c) (default-is k (EndOf c) none owner) (terminate-elsewhere k (giver_at i s)) refl))

  -- a byte stream isn't terminated
  pub terminate_call : (k : StreamId) → Begins i j p s (enters (giver_at i s) i (Terminate k)) (replying.for_readable k (controller_calls.terminate k) s)
  terminate_call k = by (has_byte k s) refl
    where
      by : (b : Bool) → b ≡ has_byte k s → Begins i j p s (enters (giver_at i s) i (Terminate k)) (replying.for_readable k (controller_calls.terminate k) s)
      by false e = for_owner k (enters (giver_at i s) i (Terminate k)) controller_calls.terminate_by (sym e) (terminate-elsewhere k (giver_at i s)) (terminates k (sym e))
      by true e =
          rw (no_default (slice_get s.streams k.0) (sym e))
          (refused (enters (giver_at i s) i (Terminate k)) (Throws Unsupported) (inl (own-or k (λ g. enters g i (Terminate k)) silence OfByteSource (bytes-is k (sym e)) (terminate-elsewhere k (giver_at i s)) refl)))

  pub enqueue_call : (k : StreamId) (v : Value) → Begins i j p s (enters (giver_at i s) i (Enqueue k v)) (controller_calls.enqueue_call k v s)
  enqueue_call k v =
      either (Begins i j p s (enters (giver_at i s) i (Enqueue k v))) (has_byte k s) (controller_calls.enqueue_bytes k s v) _ (enqueues_bytes k v)
      (λ none. for_owner k (enters (giver_at i s) i (Enqueue k v)) (controller_calls.enqueue_by v k) none (enqueue-elsewhere k v (giver_at i s)) (enqueues k v none))

  pub finish_call : (k : StreamId) → Begins i j p s (enters (giver_at i s) i (Finish k)) (controller_calls.finish_call k s)
  finish_call k =
      either (Begins i j p s (enters (giver_at i s) i (Finish k))) (has_byte k s) (controller_calls.finish_bytes k s) _ (finishes_bytes k)
      (λ none. for_owner k (enters (giver_at i s) i (Finish k)) (controller_calls.finish_by k) none (finish-elsewhere k (giver_at i s)) (finishes k none))

  pub deliver-comes : (c : PortId) (m : Message) (g : Giver) → coming g i (OnPort c (DeliverMessage m)) ≡ enters g i (Deliver c m)
  deliver-comes c m OfSource = refl
  deliver-comes c m OfByteSource = refl
  deliver-comes c m (OfHalf a) = refl
  deliver-comes c m (OfEnd d) = refl

  -- the port of the source is there
  pub deliver-nowhere : (c : PortId) (m : Message) → has_port c s ≡ false → enters (giver_at i s) i (Deliver c m) ≡ silence
  deliver-nowhere c m none = by (giver_at i s) refl
    where
      by_same : (d : PortId) → giver_at i s ≡ OfEnd d → (b : Bool) → b ≡ is_same_port d c → (if b then delivered m else silence) ≡ silence
      by_same d f false n = refl
      by_same d f true n =
          let is : d ≡ c = ap (λ (x : ℕ). record { 0 = x }) (eq_numbers d.0 c.0 (sym n)) in
          let own = end-giver (has_byte i s) (owner_at i s) d f in
          let at = ended.end i d ReadableSide (readable-shape i s (is_default (slice_get s.streams i.0) here own.0) ∙ rw own.1 refl) in
          absurd (no-port s.ports c.0 _ (rw is at at) none)

      by : (g : Giver) → giver_at i s ≡ g → enters g i (Deliver c m) ≡ silence
      by OfSource f = refl
      by OfByteSource f = refl
      by (OfHalf a) f = refl
      by (OfEnd d) f = by_same d f (is_same_port d c) refl
