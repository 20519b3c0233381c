-- What a row tells by its messages.
use Rattle.std.proofs.Common.{◌≡◌, ℕ, nat_eq, Bool, true, false, if◌then◌else◌, List, [], ◌∷◌, ◌++◌, Option, Some, None, refl, sym, ap, ◌∙◌, arith}
use Rattle.ws_value.specs.declared.ids.PortId.{PortId}
use Rattle.ws_value.specs.declared.value.Message.{Message}
use Rattle.ws_value.specs.declared.value.Message.TheVariants.{Pull, Chunk, Close, Error}
use Rattle.ws_value.specs.declared.value.Value.{Value}
use Rattle.ws_value.specs.declared.value.Value.TheVariants.{Plain, Bytes}
use Rattle.ws_steps.specs.declared.calls.Call.{Call}
use Rattle.ws_steps.specs.declared.calls.Call.TheVariants.{Deliver, Enqueue}
use Rattle.ws_steps.specs.declared.calls.Event.{Event}
use Rattle.ws_steps.specs.declared.calls.Event.TheVariants.{Post, Host as HostEvent}
use Rattle.ws_steps.specs.declared.calls.HostCall.{HostCall}
use Rattle.ws_steps.specs.declared.promises.Job.{Job}
use Rattle.ws_steps.specs.Promises.{next_job}
use Rattle.ws_steps.specs.Histories.{taken_event}
use Rattle.ws_steps.specs.PortHistory.{is_same_port, posted_by, posted_in}
use Rattle.ws_steps.specs.Run.{Called, Worked, Heard, step, first_event}
use Rattle.ws_flow.specs.Told.{Told, Open, told, then_told}
use Rattle.ws_flow.proofs.Told.{then_assoc, then_empty}
use Rattle.ws_link_laws.specs.Link as link
use Rattle.ws_link_laws.specs.Link.{OfPort, silence, heard_post, heard_of}
use Rattle.ws_tee_port_laws.proofs.ports.Told.{posted-append}
use Rattle.ws_chain_laws.specs.Chain.{Origin, FromPort, ToPort, source_port, sink_port, call_enters}
use Rattle.ws_chain_laws.specs.Laws.{next_enters, next_heard}
use Rattle.ws_chain_laws.specs.Runs.{brought_to, heard_from}
use Rattle.ws_node_laws.specs.Messages.{row_told, taken_events, message_by, delivered_to, IsFedByPort, EachChainTellsByPosts, EachChainIsBroughtByMessages, in_bytes, lost_behind, EachRowIsTold}

row-append : (xs ys : List Message) → row_told (xs ++ ys) ≡ then_told (row_told xs) (row_told ys)
row-append [] ys = refl
row-append (x ∷ xs) ys = ap (then_told (heard_post x)) (row-append xs ys) ∙ sym (then_assoc (heard_post x) (row_told xs) (row_told ys))

same_self : (n : ℕ) → nat_eq n n ≡ true
same_self n = grind arith

heard-posted : (c : PortId) (e : Event) → heard_of (OfPort c) e ≡ row_told (posted_by c e)
heard-posted c (Post d m) = by (is_same_port c d)
  where
    by : (b : Bool) → (if b then heard_post m else silence) ≡ row_told (if b then m ∷ [] else [])
    by true = sym (then_empty (heard_post m))
    by false = refl
heard-posted c (HostEvent id call) = none call
  where
    none : (call : HostCall) → link.heard_call (OfPort c) call ≡ silence
    none call = grind (arith)
heard-posted c e = refl

next-posted : (origin : Origin) (n : ℕ) (es : List Event) → next_heard origin ToPort n n (first_event es) ≡ row_told (posted_in (sink_port origin) (taken_event es))
next-posted origin n [] = refl
next-posted origin n (e ∷ es) =
    let s = same_self n in
    let h = heard-posted (sink_port origin) e in
    let a : row_told (posted_in (sink_port origin) (e ∷ [])) ≡ then_told (row_told (posted_by (sink_port origin) e)) silence = row-append (posted_by (sink_port origin) e) [] in
    let f : row_told (posted_in (sink_port origin) (e ∷ [])) ≡ row_told (posted_by (sink_port origin) e) = a ∙ then_empty (row_told (posted_by (sink_port origin) e)) in
    rw s (h ∙ sym f)

pub each_chain_tells_by_posts : EachChainTellsByPosts
each_chain_tells_by_posts origin n [] s = refl
each_chain_tells_by_posts origin n (Called c ∷ xs) s = each_chain_tells_by_posts origin n xs (step s (Called c))
each_chain_tells_by_posts origin n (Worked ∷ xs) s = each_chain_tells_by_posts origin n xs (step s Worked)
each_chain_tells_by_posts origin n (Heard ∷ xs) s =
    let c = sink_port origin in
    let h = each_chain_tells_by_posts origin n xs (step s Heard) in
    let f = next-posted origin n s.promises.events in
    let a = ap row_told (posted-append c (taken_event s.promises.events) (taken_events xs (step s Heard))) in
    let b = row-append (posted_in c (taken_event s.promises.events)) (posted_in c (taken_events xs (step s Heard))) in
    ap (λ (t : Told Value). then_told t (heard_from origin ToPort n n xs (step s Heard))) f
    ∙ (ap (then_told (row_told (posted_in c (taken_event s.promises.events)))) h ∙ sym (a ∙ b))

call-brings : (c : Call) → IsFedByPort c → call_enters FromPort 0 c ≡ row_told (message_by source_port c)
call-brings (Enqueue k v) f = rw f refl
call-brings (Deliver d m) f = by (is_same_port source_port d)
  where
    same : (m : Message) → (x : Told Value) → x ≡ heard_post m → x ≡ then_told (heard_post m) silence
    same m x e = e ∙ sym (then_empty (heard_post m))

    by : (b : Bool) → (if b then link.delivered m else silence) ≡ row_told (if b then m ∷ [] else [])
    by true = same m (link.delivered m) (alike m)
      where
        alike : (m : Message) → link.delivered m ≡ heard_post m
        alike Pull = refl
        alike (Chunk v) = refl
        alike Close = refl
        alike (Error r) = refl
    by false = refl
call-brings c f = refl

none-enters : (o : Option Job) → next_enters 0 o ≡ silence
none-enters None = refl
none-enters (Some job) = refl

pub each_chain_is_brought_by_messages : EachChainIsBroughtByMessages
each_chain_is_brought_by_messages [] s a = refl
each_chain_is_brought_by_messages (Called c ∷ xs) s a =
    let h = each_chain_is_brought_by_messages xs (step s (Called c)) a.1 in
    let f = call-brings c a.0 in
    let b = row-append (message_by source_port c) (delivered_to source_port xs) in
    ap (λ (t : Told Value). then_told t (brought_to FromPort 0 xs (step s (Called c)))) f ∙ (ap (then_told (row_told (message_by source_port c))) h ∙ sym b)
each_chain_is_brought_by_messages (Worked ∷ xs) s a = ap (λ (t : Told Value). then_told t (brought_to FromPort 0 xs (step s Worked))) (none-enters (next_job s.promises)) ∙ each_chain_is_brought_by_messages xs (step s Worked) a
each_chain_is_brought_by_messages (Heard ∷ xs) s a = each_chain_is_brought_by_messages xs (step s Heard) a

pub each_row_is_told : EachRowIsTold
each_row_is_told [] a e = refl
each_row_is_told (Pull ∷ ms) a e = each_row_is_told ms a e
each_row_is_told (Chunk (Bytes b) ∷ ms) a e =
    ap (then_told (told (b ∷ []) Open)) (each_row_is_told ms a e) ∙ sym (then_assoc (told (b ∷ []) Open) (in_bytes (row_told ms)) (lost_behind ms))
each_row_is_told (Chunk (Plain v) ∷ ms) a e = cc
each_row_is_told (Close ∷ ms) a e = refl
each_row_is_told (Error r ∷ []) a e = refl
each_row_is_told (Error r ∷ m ∷ ms) a e = cc
