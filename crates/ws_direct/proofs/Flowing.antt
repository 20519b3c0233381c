-- An operation of a pipe is performed, and what it causes is told.
use Rattle.std.proofs.Common.{◌≡◌, ◌≤◌, ◌∙◌, Bool, true, List, [], ◌∷◌, length, map, Option, None, Some, refl, sym, ap, subst, arith}
use Rattle.std.specs.Prelude.{slice_get, slice_set, vec_len}
use Rattle.ws_value.specs.declared.ids.PipeId.{PipeId}
use Rattle.ws_value.specs.declared.ids.PromiseId.{PromiseId}
use Rattle.ws_value.specs.declared.ids.StreamId.{StreamId}
use Rattle.ws_value.specs.declared.value.Plain.{Plain}
use Rattle.ws_value.specs.declared.value.Value.{Value}
use Rattle.ws_promise.specs.Seen.{Seen, SeenAgenda}
use Rattle.ws_pipe.proofs.Counts.{counted_by}
use Rattle.ws_pipe.specs.Seen.{acts_of, going, is_next, look_of, open_ends, writing}
use Rattle.ws_pipe.specs.declared.direct.PipeLook.{PipeLook}
use Rattle.ws_pipe.specs.declared.direct.PipeNext.{PipeNext}
use Rattle.ws_pipe.specs.declared.direct.PipeNext.TheVariants.{Nothing, Read as ReadNext, Wait as WaitNext}
use Rattle.ws_steps.specs.declared.effects.Effect.{Effect}
use Rattle.ws_steps.specs.declared.effects.Effect.TheVariants.{Pipe, Readable, Writable}
use Rattle.ws_steps.specs.declared.pipes.Ends.{Ends}
use Rattle.ws_steps.specs.declared.promises.Step.TheVariants.{PipeReady, PipeWrote}
use Rattle.ws_steps.specs.declared.readable.ReadRequest.TheVariants.{Pipe as PipeRequest}
use Rattle.ws_steps.specs.declared.readable.ReadableOperation.TheVariants.{Read}
use Rattle.ws_steps.specs.declared.writable.WritableOperation.TheVariants.{Write}
use Rattle.ws_steps.specs.declared.pipes.PipeOperation.{PipeOperation}
use Rattle.ws_steps.specs.Operations.{pipe_operation}
use Rattle.ws_steps.specs.declared.pipes.PipeOperation.TheVariants.{KeepChunk, WriteChunk, GoOn}
use Rattle.ws_steps.specs.Pipes as pipe
use Rattle.ws_steps.specs.Pipes.{keep_chunk}
use Rattle.ws_steps.specs.Promises.{Table, queue_micro}
use Rattle.ws_steps.specs.Places.{own_pipe, promises_alone, tees_keep, requests_alone}
use Rattle.ws_steps.specs.Slots.{Slots, Done, found, ends_at, put_pipe}
use Rattle.ws_steps.specs.Turns.{row}
use Rattle.ws_tables.specs.View.{slots_of, tee_of}
use Rattle.ws_tables.specs.Room.{places_of, HasFew, AreSourced, IsKept}
use Rattle.ws_tables.specs.declared.tables.Tables.{Tables}
use Rattle.ws_tables.proofs.Counts.{row-more, row-few, row-sourced, counted-put}
use Rattle.ws_performing.specs.Performing.{Performs}
use Rattle.ws_performing.proofs.Records.{PipeTook, pipe-row, pipe-took}
use Rattle.ws_direct.specs.Directly.{AreOpen, Reaches, looks_told}
use Rattle.ws_direct.proofs.Reaching.{causing, by}

-- a pipe was put in its place: y is the record afterwards, and seen are the promises
pub record PutPipe (p : PipeId) (old z : Tables) (y : pipe.Slots) (seen : Seen) : Type 0 where
  pub slots : slots_of z ≡ record (slots_of old) { pipes = slice_set old.pipes.items p.0 y; promises = seen.table }
  pub pipes : z.pipes.items ≡ slice_set old.pipes.items p.0 y
  pub others : z.others ≡ old.others
  pub places : places_of z ≡ record (places_of old) { promises = seen.room }
  pub streams : z.streams ≡ old.streams
  pub grown : z.grown ≡ old.grown
  pub waiting : z.waiting ≡ old.waiting
  pub signals : z.signals ≡ old.signals
  pub full : z.full ≡ old.full
  pub aborts : z.aborts ≡ old.aborts
  pub tees : z.tees ≡ old.tees
  pub uncopied : z.uncopied ≡ old.uncopied

module _ (p : PipeId) (operation : PipeOperation) (old z : Tables) (x y : pipe.Slots) (seen : Seen) (es : List Effect)
    (at : slice_get old.pipes.items p.0 ≡ Some x)
    (did : record { slots = y; out = record { promises = seen.table; effects = es } } ≡ pipe_operation p (ends_at x (slots_of old)) operation (record { slots = x; out = found (slots_of old) }))
    (room : seen.room ≡ old.promises.room) (small : y.unsettled ≤ length seen.table.entries) (put : PutPipe p old z y seen) where
  left : row (Pipe p operation) (slots_of old) ≡ put_pipe p (slots_of old) (record { slots = y; out = record { promises = seen.table; effects = es } })
  left = pipe-row p operation (slots_of old) x (record { slots = y; out = record { promises = seen.table; effects = es } }) at did

  performs : Performs (Pipe p operation) old (causing es z)
  performs =
      let took = subst (λ (a : pipe.Acts). PipeTook operation a.out.effects) (sym did)
      (pipe-took p (ends_at x (slots_of old)) operation (record { slots = x; out = found (slots_of old) }) refl) in
      record {
        slots = put.slots ∙ ap (λ (d : Done). d.slots) (sym left);
        caused = ap (λ (d : Done). d.caused) (sym left);
        others = put.others;
        places = put.places ∙ rw room refl;
        lists = rw (put.streams) refl;
        rooms = λ none. rw (put.streams) (λ n h. h);
        grown =
            let q = took.queued in let r = took.requested in
            let g = ap vec_len put.grown in
            let o = ap (λ v. tees_keep requests_alone (map tee_of v.items)) put.tees in
            omega (arith, q, r, g, o);
        members = rw (put.signals) refl;
        full = let m = took.members in let l = ap vec_len put.full in omega (arith, m, l);
      }

  kept : IsKept old → IsKept z
  kept was = record {
    waiting = rw (put.waiting, put.streams) was.waiting;
    covered = rw (put.grown, put.streams) was.covered;
    aborts = rw (put.aborts, put.signals) was.aborts;
    members = rw (put.full, put.signals) was.members;
    copied = rw (put.uncopied, put.tees) was.copied;
    sourced = subst AreSourced (sym performs.slots) (row-sourced (Pipe p operation) (slots_of old) was.sourced);
    counted =
        rw (put.pipes, ap (λ (s : Slots). s.promises) put.slots)
        (counted-put (length old.promises.table.entries) (length seen.table.entries) old.pipes.items p.0 y (row-more (Pipe p operation) (slots_of old) _ left) was.counted small);
    few = subst HasFew (sym performs.slots) (row-few (Pipe p operation) (slots_of old) was.few);
  }

  pub pipe-on : IsKept old → Reaches (Pipe p operation ∷ []) old es z
  pipe-on was = by (Pipe p operation) es old z was performs (kept was)

keeps-unsettled : (p : PipeId) (v : Value) (a : pipe.Acts) → (pipe.keep_chunk p v a).slots.unsettled ≡ a.slots.unsettled
unfolding keep_chunk
keeps-unsettled p v a = refl

keeps-entries : (p : PipeId) (v : Value) (a : pipe.Acts) → (pipe.keep_chunk p v a).out.promises.entries ≡ a.out.promises.entries
unfolding keep_chunk queue_micro
keeps-entries p v a = refl

-- a pipe keeps the chunk that it read
pub chunk-kept : (p : PipeId) (v : Value) (old z : Tables) (x y : pipe.Slots) (seen : Seen) → slice_get old.pipes.items p.0 ≡ Some x
    → record { slots = y; out = record { promises = seen.table; effects = [] } } ≡ pipe.keep_chunk p v (record { slots = x; out = record { promises = old.promises.table; effects = [] } })
    → seen.room ≡ old.promises.room → PutPipe p old z y seen → IsKept old → Reaches (Pipe p (KeepChunk v) ∷ []) old [] z
chunk-kept p v old z x y seen at did room put kept =
    let a : pipe.Acts = record { slots = x; out = record { promises = old.promises.table; effects = [] } } in
    let was = kept.counted p.0 x at in
    let same : y.unsettled ≡ x.unsettled = ap (λ (b : pipe.Acts). b.slots.unsettled) did ∙ keeps-unsettled p v a in
    let many : length seen.table.entries ≡ length old.promises.table.entries = ap (λ (b : pipe.Acts). length b.out.promises.entries) did ∙ ap length (keeps-entries p v a) in
    pipe-on p (KeepChunk v) old z x y seen [] at did room (omega (arith, was, same, many)) put kept

-- a pipe looks at its two ends

look-own : (look : PipeLook) → own_pipe promises_alone (look_of look) ≡ 3
look-own look = grind arith

pub look-room : (look : PipeLook) → 3 ≤ own_pipe promises_alone (look_of look)
look-room look = let h = look-own look in omega (arith, h)

look-told : (p : PipeId) (next : PipeNext) (s : pipe.Slots) (t : Table) (es : List Effect) → (is_next next ≡ true → es ≡ [])
    → record { slots = s; out = record { promises = t; effects = looks_told p es next } } ≡ going p next (record { slots = s; out = record { promises = t; effects = es } })
look-told p Nothing s t es quiet = refl
look-told p (ReadNext source) s t es quiet = rw (quiet refl) refl
look-told p (WaitNext ready) s t es quiet = rw (quiet refl) refl

pub look-on : (p : PipeId) (operation : PipeOperation) (old z : Tables) (x y : pipe.Slots) (seen : Seen) (fx : SeenAgenda) (ends : Ends) (next : PipeNext) → slice_get old.pipes.items p.0 ≡ Some x
    → ends ≡ ends_at x (slots_of old) → old.caused.effects ≡ []
    → pipe_operation p ends operation (record { slots = x; out = record { promises = old.promises.table; effects = old.caused.effects } })
    ≡ going p next (record { slots = y; out = record { promises = seen.table; effects = fx.effects } })
    → (is_next next ≡ true → fx ≡ old.caused) → seen.room ≡ old.promises.room → PutPipe p old z y seen → IsKept old
    → Reaches (Pipe p operation ∷ []) old (looks_told p fx.effects next) z
look-on p operation old z x y seen fx ends next at here quiet acted same room put kept =
    let a : pipe.Acts = record { slots = x; out = record { promises = old.promises.table; effects = [] } } in
    let did = look-told p next y seen.table fx.effects (λ holds. ap (λ (b : SeenAgenda). b.effects) (same holds) ∙ quiet)
    ∙ (sym acted
    ∙ (ap (λ (es : List Effect). pipe_operation p ends operation (record { slots = x; out = record { promises = old.promises.table; effects = es } })) quiet
    ∙ ap (λ (e : Ends). pipe_operation p e operation a) here)) in
    pipe-on p operation old z x y seen (looks_told p fx.effects next) at did room
    (counted_by p (ends_at x (slots_of old)) operation a (record { slots = y; out = record { promises = seen.table; effects = looks_told p fx.effects next } }) did (kept.counted p.0 x at)) put kept

opened : (ends : Ends) (wants : Bool) (ready : Option PromiseId) → AreOpen wants ready ends → open_ends ends.source_error ends.dest_error wants ready ends.dest_abort ≡ ends
opened ends wants ready are = rw (← are.source, ← are.dest, ← are.closing, ← are.wanting, ← are.readied) refl

-- a pipe looks at its two ends, which go on
pub look-open : (p : PipeId) (look : PipeLook) (old z : Tables) (x y : pipe.Slots) (wants : Bool) (ready : Option PromiseId) (next : PipeNext) → slice_get old.pipes.items p.0 ≡ Some x
    → AreOpen wants ready (ends_at x (slots_of old)) → old.caused.effects ≡ []
    → ((me : PipeId) (source_error dest_error : Plain) (abort : Option PromiseId) (seen : Seen) (fx : SeenAgenda) → pipe_operation me (open_ends source_error dest_error wants ready abort) (look_of look) (acts_of x seen fx) ≡ going me next (acts_of y seen fx))
    → PutPipe p old z y old.promises → IsKept old → Reaches (Pipe p (look_of look) ∷ []) old (looks_told p old.caused.effects next) z
look-open p look old z x y wants ready next at are quiet acts put kept =
    let ends = ends_at x (slots_of old) in
    look-on p (look_of look) old z x y old.promises old.caused (open_ends ends.source_error ends.dest_error wants ready ends.dest_abort) next at (opened ends wants ready are) quiet
    (acts p ends.source_error ends.dest_error ends.dest_abort old.promises old.caused) (λ yes. refl) refl put kept

-- a pipe writes the chunk that it holds

abbrev pub writes_told : PipeId → StreamId → Option (Value × PromiseId) → List Effect
writes_told p dest None = []
writes_told p dest (Some (v, d)) = Writable dest (Write v d) ∷ pipe.reacts d (PipeWrote p) ∷ Pipe p GoOn ∷ []

write-told : (p : PipeId) (written : Option (Value × PromiseId)) (s : pipe.Slots) (t : Table) (dest : StreamId) → dest ≡ s.dest
    → record { slots = s; out = record { promises = t; effects = writes_told p dest written } } ≡ writing p written (record { slots = s; out = record { promises = t; effects = [] } })
write-told p None s t dest is = refl
write-told p (Some (v, d)) s t dest is = rw is refl

pub written-on : (p : PipeId) (old z : Tables) (x y : pipe.Slots) (seen : Seen) (written : Option (Value × PromiseId)) (dest : StreamId) → slice_get old.pipes.items p.0 ≡ Some x → dest ≡ y.dest
    → pipe.write_chunk p (record { slots = x; out = record { promises = old.promises.table; effects = [] } }) ≡ writing p written (record { slots = y; out = record { promises = seen.table; effects = [] } })
    → seen.room ≡ old.promises.room → PutPipe p old z y seen → IsKept old → Reaches (Pipe p WriteChunk ∷ []) old (writes_told p dest written) z
written-on p old z x y seen written dest at is acted room put kept =
    let a : pipe.Acts = record { slots = x; out = record { promises = old.promises.table; effects = [] } } in
    let did = write-told p written y seen.table dest is ∙ sym acted in
    pipe-on p WriteChunk old z x y seen (writes_told p dest written) at did room
    (counted_by p (ends_at x (slots_of old)) WriteChunk a (record { slots = y; out = record { promises = seen.table; effects = writes_told p dest written } }) did (kept.counted p.0 x at)) put kept
