-- What a call that throws changes (`each_throw_changes_nothing`).
use Rattle.std.proofs.Common.{◌≡◌, false, [], ◌∷◌, refl, ◌∙◌, ap}
use Rattle.ws_value.specs.declared.ids.StreamId.{StreamId}
use Rattle.ws_steps.specs.declared.{calls.Call.{Call}, calls.Call.TheVariants.{Finish}, calls.Reply.{Reply}, calls.Reply.TheVariants.{Done as ReplyDone, Throws}, effects.Effect.TheVariants.{Readable}, readable.ReadableOperation.TheVariants.{Close}, calls.Thrown.{Thrown}}
use Rattle.ws_steps.specs.Slots.{Slots, Done, nothing, causes, byte_at}
use Rattle.ws_steps.specs.Turns.{performed}
use Rattle.ws_steps.specs.Begun.{Begun, begun}
use Rattle.ws_steps.specs.ControllerCalls.{close_reply}
use Rattle.ws_steps.specs.Calls.{begin, named}
use Rattle.ws_steps.specs.Run.{older}
use Rattle.ws_steps.specs.Laws.{errs, EachThrowChangesNothing}
use Rattle.ws_room_laws.proofs.Turns.{performed_none}
use Rattle.ws_laws.proofs.EachCall.{each_call}

-- where it throws, it does nothing
abbrev Idle : Slots → Begun → Type 0
Idle s b = (t : Thrown) → b.reply ≡ Throws t → b.done ≡ nothing s

-- the close of a byte stream that doesn't err is done
close-done : (s : Slots) (i : StreamId) → errs (Finish i) s ≡ false → Idle s (begun (close_reply (byte_at i s)) (causes (Readable i Close ∷ []) s))
close-done s i calm t h = let same : close_reply (byte_at i s) ≡ ReplyDone = rw calm refl in cc

throws_nothing : (c : Call) (s : Slots) → errs c s ≡ false → Idle s (begin c s)
throws_nothing c s calm = each_call (Idle s) c s (record {
  unchanged = λ reply t h. refl;
  rejected = λ fault t h. cc;
  make_readable = λ mark size start t h. cc;
  make_bytes = λ mark auto start t h. cc;
  get_byob = λ i is e t h. cc;
  release_byob = λ l closed i e t h. cc;
  read_into = λ l i closed room element least e f t h. cc;
  enqueue_bytes = λ i b e is some can t h. cc;
  finish_bytes = λ i e is can t h. close-done s i (rw e at calm) t h;
  make_request = λ i reply is t h. cc;
  respond = λ q i b e is can t h. cc;
  make_writable = λ mark size start t h. cc;
  make_transform = λ kind m n start t h. cc;
  make_tee = λ i e is free untied t h. cc;
  get_reader = λ i e t h. cc;
  get_writer = λ i e t h. cc;
  release_reader = λ l closed i e t h. cc;
  release_writer = λ l i w e f t h. cc;
  cancel = λ reason i t h. cc;
  read = λ l i closed e f t h. cc;
  write = λ l v i e t h. cc;
  close = λ i t h. cc;
  abort = λ reason i e t h. cc;
  enqueue = λ i v e o can t h. cc;
  finish = λ i t h. cc;
  enqueue_half = λ i a v e o can t h. cc;
  fail_half = λ a reason t h. cc;
  terminate = λ a t h. cc;
  fail_readable = λ i reason t h. cc;
  fail_writable = λ i reason t h. cc;
  pipe = λ source dest prevent signal e f l m t h. cc;
  make_signal = λ t h. cc;
  open_end = λ side t h. cc;
  send_readable = λ i there free t h. cc;
  send_writable = λ i there free t h. cc;
  deliver = λ p m e is t h. cc;
  trigger = λ a reason t h. cc;
  settle = λ a answer p e t h. cc;
})

pub each_throw_changes_nothing : EachThrowChangesNothing
each_throw_changes_nothing c s t calm h =
    ap (λ (r : Reply). older (named r (performed (begin c s).done))) h
    ∙ (ap (λ (d : Done). older (performed d)) (throws_nothing c s calm t h) ∙ ap older (performed_none s))
