-- A source that takes no more chunks: nothing comes behind what lies on its link.
use Rattle.std.proofs.Common.{◌≡◌, ◌≢◌, ◌⊎◌, inl, inr, ℕ, true, List, [], ◌∷◌, Option, sym, ap, subst, ◌∙◌}
use Rattle.ws_value.specs.declared.ids.StreamId.{StreamId}
use Rattle.ws_value.specs.declared.value.Value.{Value}
use Rattle.ws_flow.specs.Told.{Open as MayCome, Told}
use Rattle.ws_steps.specs.declared.calls.Call.TheVariants.{Enqueue}
use Rattle.ws_steps.specs.declared.calls.Reply.TheVariants.{Done}
use Rattle.ws_steps.specs.declared.transform.TransformId.{TransformId}
use Rattle.ws_steps.specs.declared.pipes.Phase.{Phase}
use Rattle.ws_steps.specs.declared.pipes.Phase.TheVariants.{Flowing, Waiting, Acting, Over}
use Rattle.ws_steps.specs.Run.{Entry, run, reply_to}
use Rattle.ws_steps.specs.Slots.{Slots, empty, has_source, source_at, writable_at, pipe_at, owner_at}
use Rattle.ws_alike.specs.Alike.{Alike}
use Rattle.ws_alike.proofs.Called.{call-alike}
use Rattle.ws_link_laws.specs.Link.{Giver, OfHalf, giver_at, lets_in, silence, piped_by, in_source, in_pipe, in_sink, unheard, ear_at, lies}
use Rattle.ws_link_laws.specs.Sound.{IsHosts}
use Rattle.ws_link_laws.proofs.Entering.{each_enqueue_lets_in}
use Rattle.ws_chain_laws.specs.Chain.{source_of, dest_of, link_of, behind_at}
use Rattle.ws_node.proofs.Bytes.{mark-behind}

-- into a half, what isn't let in is no chunk that it wouldn't take, so what lies in it has come to an end
half-shut : (o : Giver) (t : TransformId) (v : Value) (m : Told Value) → o ≡ OfHalf t → (lets_in o v ≡ silence) ⊎ (m.mark ≢ MayCome) → m.mark ≢ MayCome
half-shut o t v m gives (inr shut) = shut
half-shut o t v m gives (inl none) = λ e. let no : ◌≡◌ {A = List Value} (v ∷ []) [] = ap (λ (x : Told Value). x.items) (sym (ap (λ (g : Giver). lets_in g v) gives) ∙ none) in cc

-- an enqueue into a half is done where it takes chunks
pub enqueue-shut : (i : StreamId) (t : TransformId) (v : Value) (past : List Entry) (s : Slots) → Alike s (run past empty) → has_source i (run past empty) ≡ true → IsHosts (run past empty) (owner_at i (run past empty))
    → giver_at i (run past empty) ≡ OfHalf t → reply_to (Enqueue i v) s ≢ Done → (in_source (source_at i s)).mark ≢ MayCome
enqueue-shut i t v past s alike there hosts gives refused =
    let none = (each_enqueue_lets_in past i v there hosts).throws (λ e. refused ((call-alike (Enqueue i v) s (run past empty) alike).0 ∙ e)) in
    subst (λ (z : Slots). (in_source (source_at i z)).mark ≢ MayCome) (sym alike) (half-shut (giver_at i (run past empty)) t v (in_source (source_at i (run past empty))) gives none.1)

piped-mark : (phase : Phase) (held : Option Value) (t : Told Value) → t.mark ≢ MayCome → (piped_by phase held t).mark ≢ MayCome
piped-mark Flowing held t h = h
piped-mark Waiting held t h = h
piped-mark Acting held t h = λ e. cc
piped-mark Over held t h = λ e. cc

pub behind-mark : (k : ℕ) (s : Slots) → (in_source (source_at (source_of k) s)).mark ≢ MayCome → (behind_at k s).mark ≢ MayCome
behind-mark k s h =
    mark-behind (unheard (ear_at (dest_of k) s) s.promises.events) (lies (source_of k) (dest_of k) (link_of k) s)
    (mark-behind (in_sink (writable_at (dest_of k) s)) (in_pipe (pipe_at (link_of k) s) (in_source (source_at (source_of k) s)))
    (piped-mark (pipe_at (link_of k) s).phase (pipe_at (link_of k) s).held (in_source (source_at (source_of k) s)) h))
