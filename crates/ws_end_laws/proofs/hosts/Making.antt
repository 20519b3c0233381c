-- A call that makes a pipe, by a pipeTo or by the sending of a stream: the pipe flows and reads nothing yet, its destination stands there, and the
-- call doesn't close that.
use Rattle.std.proofs.Common.{◌≡◌, true, false, [], ◌∷◌, ◌++◌, length, Option, Some, None, ◌⊎◌, inl, inr, slice_get, refl, ap, ◌∙◌}
use Rattle.ws_value.specs.declared.{ids.PipeId.{PipeId}, ids.PromiseId.{PromiseId}, ids.SignalId.{SignalId}, ids.StreamId.{StreamId}}
use Rattle.ws_value.specs.declared.value.Plain.{Plain}
use Rattle.ws_steps.specs.declared.calls.Call.{Call}
use Rattle.ws_steps.specs.declared.pipes.{Phase.TheVariants.{Flowing}, Prevent.{Prevent}}
use Rattle.ws_steps.specs.declared.port.Side.{Side}
use Rattle.ws_steps.specs.declared.port.Side.TheVariants.{Readable as ReadableSide, Writable as WritableSide}
use Rattle.ws_steps.specs.Begun.{Begun}
use Rattle.ws_steps.specs.PipeCalls.{pipe_begins, pipe_to, add_port, end_of, no_prevent, sent_by, send_readable, send_writable, reason_of}
use Rattle.ws_steps.specs.Calls.{begin}
use Rattle.ws_steps.specs.Pipes as pipe
use Rattle.ws_steps.specs.Slots.{Slots, Stream, has_writable, is_writable_stream}
use Rattle.ws_laws.proofs.EachCall.{each_call}
use Rattle.ws_laws.proofs.Lists.{Each}
use Rattle.ws_laws.proofs.Tables.{place_last}
use Rattle.ws_pipe_laws.proofs.locks.Begins.{writable-stays}
use Rattle.ws_end_laws.proofs.hosts.Dests.{NoClose}

pub record New (s : Slots) (b : Begun) : Type 0 where
  pub slots : pipe.Slots
  pub made : b.done.slots.pipes ≡ s.pipes ++ slots ∷ []
  pub idle : slots.reading ≡ false
  pub flows : slots.phase ≡ Flowing
  pub stands : has_writable slots.dest b.done.slots ≡ true
  pub calm : Each (NoClose slots.dest) b.done.caused

begins-close : (i : StreamId) (me : PipeId) (a b : PromiseId) (signal : Option SignalId) (reason : Option Plain) → Each (NoClose i) (pipe_begins me a b signal reason)
begins-close i me a b signal (Some r) = (tt, tt)
begins-close i me a b None None = (tt, (tt, (tt, tt)))
begins-close i me a b (Some c) None = (tt, (tt, (tt, (tt, tt))))

to-new : (source dest : StreamId) (prevent : Prevent) (signal : Option SignalId) (s : Slots) → has_writable dest s ≡ true → New s (pipe_to source dest prevent signal s)
to-new source dest prevent signal s there = record {
  slots = pipe.set_up source dest prevent signal _;
  made = refl;
  idle = refl;
  flows = refl;
  stands = there;
  calm = (tt, (tt, (tt, begins-close dest _ _ _ signal (reason_of signal s))));
}

sent-new : (source dest : StreamId) (side : Side) (s : Slots) → let me : StreamId = record { 0 = length s.streams } in has_writable dest (add_port me s side) ≡ true
    → New s (sent_by me side s (pipe_to source dest no_prevent None (add_port me s side)))
sent-new source dest ReadableSide s there = record {
  slots = pipe.set_up source dest no_prevent None _;
  made = refl;
  idle = refl;
  flows = refl;
  stands = there;
  calm = (tt, (tt, (tt, (tt, (tt, (tt, (tt, tt)))))));
}
sent-new source dest WritableSide s there = record {
  slots = pipe.set_up source dest no_prevent None _;
  made = refl;
  idle = refl;
  flows = refl;
  stands = there;
  calm = (tt, (tt, (tt, (tt, (tt, (tt, (tt, tt)))))));
}

send-readable : (source : StreamId) (s : Slots) → New s (send_readable source (record { 0 = length s.streams }) s)
send-readable source s =
    let w : Stream = end_of (record { 0 = length s.ports }) WritableSide in
    sent-new source (record { 0 = length s.streams }) WritableSide s (ap is_writable_stream (place_last s.streams w))

send-writable : (dest : StreamId) (s : Slots) → has_writable dest s ≡ true → New s (send_writable dest (record { 0 = length s.streams }) s)
send-writable dest s there =
    let r : Stream = end_of (record { 0 = length s.ports }) ReadableSide in
    sent-new (record { 0 = length s.streams }) dest ReadableSide s (ap is_writable_stream (writable-stays (slice_get s.streams dest.0) s.streams r dest.0 refl there) ∙ there)

abbrev pub Adds : Slots → Begun → Type 0
Adds s b = (b.done.slots.pipes ≡ s.pipes) ⊎ New s b

opened : (side : Side) (s : Slots) (i : StreamId) → (add_port i s side).pipes ≡ s.pipes
opened ReadableSide s i = refl
opened WritableSide s i = refl

-- no other call makes one
pub call-adds : (c : Call) (s : Slots) → Adds s (begin c s)
call-adds c s = each_call (Adds s) c s (record {
  unchanged = λ reply. inl refl;
  rejected = λ fault. inl refl;
  make_readable = λ mark size start. inl refl;
  make_bytes = λ mark auto start. inl refl;
  get_byob = λ i is e. inl refl;
  release_byob = λ l closed i e. inl refl;
  read_into = λ l i closed room element least e h. inl refl;
  enqueue_bytes = λ i b e is some can. inl refl;
  finish_bytes = λ i e is can. inl refl;
  make_request = λ i reply is. inl refl;
  respond = λ q i b e is can. inl refl;
  make_writable = λ mark size start. inl refl;
  make_transform = λ kind m n start. inl refl;
  make_tee = λ i e is free untied. inl refl;
  get_reader = λ i e. inl refl;
  get_writer = λ i e. inl refl;
  release_reader = λ l closed i e. inl refl;
  release_writer = λ l i w e f. inl refl;
  cancel = λ reason i. inl refl;
  read = λ l i closed e h. inl refl;
  write = λ l v i e. inl refl;
  close = λ i. inl refl;
  abort = λ reason i e. inl refl;
  enqueue = λ i v e o can. inl refl;
  enqueue_half = λ i t v e o can. inl refl;
  finish = λ i. inl refl;
  fail_readable = λ i reason. inl refl;
  fail_writable = λ i reason. inl refl;
  fail_half = λ t reason. inl refl;
  terminate = λ t. inl refl;
  pipe = λ source dest prevent signal e f l m. inr (to-new source dest prevent signal s f);
  make_signal = inl refl;
  open_end = λ side. inl (opened side s (record { 0 = length s.streams }));
  send_readable = λ i there free. inr (send-readable i s);
  send_writable = λ i there free. inr (send-writable i s there);
  deliver = λ p m e is. inl refl;
  trigger = λ a reason. inl refl;
  settle = λ h answer p e. inl refl;
})
