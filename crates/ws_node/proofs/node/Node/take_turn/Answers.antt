use Rattle.std.proofs.Common.{◌≡◌, ◌||◌, false, true, Some, refl, ap, subst, sym, ◌∙◌, arith}
use Rattle.ws_node.specs.declared.node.Node.{Node}
use Rattle.ws_node.specs.Edges.{PostsBoth}
use Rattle.ws_node.specs.Turns.{Turned}
use Rattle.ws_realm.specs.declared.realm.Why.TheVariants.{NoMemory}
use Rattle.ws_io.specs.Moment.{moment}
use Rattle.ws_node.proofs.Giving.{posts-nothing}
use Rattle.ws_node.proofs.Going.{went-same, went-then}
use Rattle.ws_node.proofs.Telling.{tells}
use Rattle.ws_node.proofs.Turning.{begins-driven, begins-went, done, idle, posted-only-driven, posted-only-gives, posted-only-turn, posted-only-went, told-all, told-posts, turn-posts}
use Rattle.ws_node.proofs.node.Node.take_turn.Goals as goal

pub returns-in-Some-NoMemory-clause-went : goal.returns-in-Some-NoMemory-clause-went
returns-in-Some-NoMemory-clause-went g c =
    went-same c.args.self.now (moment (g.S.Source.faults c.args.input.now) (g.S.Source.feed c.args.input.now) (g.K.Sink.faults c.args.output.now) (g.K.Sink.finished c.args.output.now)) (g.K.Sink.got c.args.output.now)

pub returns-in-Some-Spent-clause-went : goal.returns-in-Some-Spent-clause-went
returns-in-Some-Spent-clause-went g c =
    went-same c.args.self.now (moment (g.S.Source.faults c.args.input.now) (g.S.Source.feed c.args.input.now) (g.K.Sink.faults c.args.output.now) (g.K.Sink.finished c.args.output.now)) (g.K.Sink.got c.args.output.now)

pub returns-then-posted-clause-driven : goal.returns-then-posted-clause-driven
returns-then-posted-clause-driven g c =
    posted-only-driven c.args.self.now c.post-posted.new.self c.requires c.in-None.is (subst (λ posted. PostsBoth posted c.args.self.now c.post-posted.new.self) c.if-posted.true c.post-posted.ensures)

pub returns-then-posted-clause-went : goal.returns-then-posted-clause-went
returns-then-posted-clause-went g c =
    posted-only-went c.args.self.now c.post-posted.new.self c.requires c.in-None.is (subst (λ posted. PostsBoth posted c.args.self.now c.post-posted.new.self) c.if-posted.true c.post-posted.ensures)
    (moment (g.S.Source.faults c.args.input.now) (g.S.Source.feed c.args.input.now) (g.K.Sink.faults c.args.output.now) (g.K.Sink.finished c.args.output.now)) (g.K.Sink.got c.args.output.now)

pub returns-then-posted-clause-turn : goal.returns-then-posted-clause-turn
returns-then-posted-clause-turn g c =
    subst (λ turn. Turned turn c.args.self.now c.post-posted.new.self) (sym c.ended_or_worked.ensures)
    (posted-only-turn c.args.self.now c.post-posted.new.self c.requires c.in-None.is (subst (λ posted. PostsBoth posted c.args.self.now c.post-posted.new.self) c.if-posted.true c.post-posted.ensures) _ refl)

pub returns-then-posted-clause-posts : goal.returns-then-posted-clause-posts
returns-then-posted-clause-posts g c =
    posted-only-gives c.args.self.now c.post-posted.new.self c.requires c.in-None.is (subst (λ posted. PostsBoth posted c.args.self.now c.post-posted.new.self) c.if-posted.true c.post-posted.ensures)

pub go_on-requires : goal.go_on-requires
go_on-requires g c =
    begins-driven c.args.self.now c.post-posted.new.self c.take_above-above.new.self c.take_below-below.new.self c.post-posted.result c.take_above-above.result c.take_below-below.result
    (record { driven = c.requires; goes = c.in-None.is; post = c.post-posted.ensures; above = c.take_above-above.ensures; below = c.take_below-below.ensures })

pub returns-in-Some-Spent-stopped-clause-went : goal.returns-in-Some-Spent-stopped-clause-went
returns-in-Some-Spent-stopped-clause-went g c =
    went-then c.args.self.now c.take_below-below.new.self c.go_on.new.self _ _ _ _ _ _
    (begins-went c.args.self.now c.post-posted.new.self c.take_above-above.new.self c.take_below-below.new.self c.post-posted.result c.take_above-above.result c.take_below-below.result
    (record { driven = c.requires; goes = c.in-None.is; post = c.post-posted.ensures; above = c.take_above-above.ensures; below = c.take_below-below.ensures })
    (moment (g.S.Source.faults c.args.input.now) (g.S.Source.feed c.args.input.now) (g.K.Sink.faults c.args.output.now) (g.K.Sink.finished c.args.output.now)) (g.K.Sink.got c.args.output.now))
    c.go_on.ensures.went

pub returns-then-is_over-clause-went : goal.returns-then-is_over-clause-went
returns-then-is_over-clause-went g c =
    went-then c.args.self.now c.take_below-below.new.self c.go_on.new.self _ _ _ _ _ _
    (begins-went c.args.self.now c.post-posted.new.self c.take_above-above.new.self c.take_below-below.new.self c.post-posted.result c.take_above-above.result c.take_below-below.result
    (record { driven = c.requires; goes = c.in-None.is; post = c.post-posted.ensures; above = c.take_above-above.ensures; below = c.take_below-below.ensures })
    (moment (g.S.Source.faults c.args.input.now) (g.S.Source.feed c.args.input.now) (g.K.Sink.faults c.args.output.now) (g.K.Sink.finished c.args.output.now)) (g.K.Sink.got c.args.output.now))
    c.go_on.ensures.went

pub returns-then-some-clause-went : goal.returns-then-some-clause-went
returns-then-some-clause-went g c =
    went-then c.args.self.now c.take_below-below.new.self c.go_on.new.self _ _ _ _ _ _
    (begins-went c.args.self.now c.post-posted.new.self c.take_above-above.new.self c.take_below-below.new.self c.post-posted.result c.take_above-above.result c.take_below-below.result
    (record { driven = c.requires; goes = c.in-None.is; post = c.post-posted.ensures; above = c.take_above-above.ensures; below = c.take_below-below.ensures })
    (moment (g.S.Source.faults c.args.input.now) (g.S.Source.feed c.args.input.now) (g.K.Sink.faults c.args.output.now) (g.K.Sink.finished c.args.output.now)) (g.K.Sink.got c.args.output.now))
    c.go_on.ensures.went

pub returns-else-some-clause-went : goal.returns-else-some-clause-went
returns-else-some-clause-went g c =
    went-then c.args.self.now c.take_below-below.new.self c.go_on.new.self _ _ _ _ _ _
    (begins-went c.args.self.now c.post-posted.new.self c.take_above-above.new.self c.take_below-below.new.self c.post-posted.result c.take_above-above.result c.take_below-below.result
    (record { driven = c.requires; goes = c.in-None.is; post = c.post-posted.ensures; above = c.take_above-above.ensures; below = c.take_below-below.ensures })
    (moment (g.S.Source.faults c.args.input.now) (g.S.Source.feed c.args.input.now) (g.K.Sink.faults c.args.output.now) (g.K.Sink.finished c.args.output.now)) (g.K.Sink.got c.args.output.now))
    c.go_on.ensures.went

pub returns-in-Some-NoMemory-stopped-clause-driven : goal.returns-in-Some-NoMemory-stopped-clause-driven
returns-in-Some-NoMemory-stopped-clause-driven g c =
    (tells c.args.self.now c.go_on.new.self c.tell.new.self
    (moment (g.S.Source.faults c.args.input.now) (g.S.Source.feed c.args.input.now) (g.K.Sink.faults c.args.output.now) (g.K.Sink.finished c.args.output.now))
    (moment (g.S.Source.faults c.go_on.new.input) (g.S.Source.feed c.go_on.new.input) (g.K.Sink.faults c.go_on.new.output) (g.K.Sink.finished c.go_on.new.output))
    (g.K.Sink.got c.args.output.now) (g.K.Sink.got c.go_on.new.output) c.requires c.in-None.is
    (went-then c.args.self.now c.take_below-below.new.self c.go_on.new.self _ _ _ _ _ _
    (begins-went c.args.self.now c.post-posted.new.self c.take_above-above.new.self c.take_below-below.new.self c.post-posted.result c.take_above-above.result c.take_below-below.result
    (record { driven = c.requires; goes = c.in-None.is; post = c.post-posted.ensures; above = c.take_above-above.ensures; below = c.take_below-below.ensures })
    (moment (g.S.Source.faults c.args.input.now) (g.S.Source.feed c.args.input.now) (g.K.Sink.faults c.args.output.now) (g.K.Sink.finished c.args.output.now)) (g.K.Sink.got c.args.output.now))
    c.go_on.ensures.went)
    c.go_on.ensures.driven (let full : c.go_on.new.self.core.stopped ≡ Some NoMemory = first_of (grind (arith, c.in-Some-NoMemory-stopped.is, c.in-Some-NoMemory-stopped.field-0-is), search (arith, c.in-Some-NoMemory-stopped.is, c.in-Some-NoMemory-stopped.field-0-is)) in full) c.tell.ensures).driven

pub returns-in-Some-NoMemory-stopped-clause-went : goal.returns-in-Some-NoMemory-stopped-clause-went
returns-in-Some-NoMemory-stopped-clause-went g c =
    (tells c.args.self.now c.go_on.new.self c.tell.new.self
    (moment (g.S.Source.faults c.args.input.now) (g.S.Source.feed c.args.input.now) (g.K.Sink.faults c.args.output.now) (g.K.Sink.finished c.args.output.now))
    (moment (g.S.Source.faults c.go_on.new.input) (g.S.Source.feed c.go_on.new.input) (g.K.Sink.faults c.go_on.new.output) (g.K.Sink.finished c.go_on.new.output))
    (g.K.Sink.got c.args.output.now) (g.K.Sink.got c.go_on.new.output) c.requires c.in-None.is
    (went-then c.args.self.now c.take_below-below.new.self c.go_on.new.self _ _ _ _ _ _
    (begins-went c.args.self.now c.post-posted.new.self c.take_above-above.new.self c.take_below-below.new.self c.post-posted.result c.take_above-above.result c.take_below-below.result
    (record { driven = c.requires; goes = c.in-None.is; post = c.post-posted.ensures; above = c.take_above-above.ensures; below = c.take_below-below.ensures })
    (moment (g.S.Source.faults c.args.input.now) (g.S.Source.feed c.args.input.now) (g.K.Sink.faults c.args.output.now) (g.K.Sink.finished c.args.output.now)) (g.K.Sink.got c.args.output.now))
    c.go_on.ensures.went)
    c.go_on.ensures.driven (let full : c.go_on.new.self.core.stopped ≡ Some NoMemory = first_of (grind (arith, c.in-Some-NoMemory-stopped.is, c.in-Some-NoMemory-stopped.field-0-is), search (arith, c.in-Some-NoMemory-stopped.is, c.in-Some-NoMemory-stopped.field-0-is)) in full) c.tell.ensures).went

pub returns-then-some-clause-turn : goal.returns-then-some-clause-turn
returns-then-some-clause-turn g c = (
  c.in-None-stopped.is,
  sym c.is_over.ensures ∙ c.if-is_over.false,
  done c.args.self.now c.post-posted.new.self c.take_above-above.new.self c.take_below-below.new.self c.post-posted.result c.take_above-above.result c.take_below-below.result c.is_busy-busy.result c.go_on.new.self
      (moment (g.S.Source.faults c.args.input.now) (g.S.Source.feed c.args.input.now) (g.K.Sink.faults c.args.output.now) (g.K.Sink.finished c.args.output.now))
      (moment (g.S.Source.faults c.go_on.new.input) (g.S.Source.feed c.go_on.new.input) (g.K.Sink.faults c.go_on.new.output) (g.K.Sink.finished c.go_on.new.output))
      (g.K.Sink.got c.args.output.now) (g.K.Sink.got c.go_on.new.output) c.go_on.ensures.went
      (record { driven = c.requires; goes = c.in-None.is; post = c.post-posted.ensures; above = c.take_above-above.ensures; below = c.take_below-below.ensures })
      c.is_busy-busy.ensures (λ busy. c.go_on.ensures.begun busy c.in-None-stopped.is)
      (ap (λ posted. ((posted || c.take_above-above.result) || c.take_below-below.result) || c.is_busy-busy.result) c.if-posted.false ∙ c.if-some.true),
)

pub returns-else-some-clause-turn : goal.returns-else-some-clause-turn
returns-else-some-clause-turn g c =
    let h = idle c.args.self.now c.post-posted.new.self c.take_above-above.new.self c.take_below-below.new.self c.go_on.new.self c.post-posted.result c.take_above-above.result c.take_below-below.result c.is_busy-busy.result
    (record { driven = c.requires; goes = c.in-None.is; post = c.post-posted.ensures; above = c.take_above-above.ensures; below = c.take_below-below.ensures })
    c.is_busy-busy.ensures c.go_on.ensures.idle
    (ap (λ posted. ((posted || c.take_above-above.result) || c.take_below-below.result) || c.is_busy-busy.result) c.if-posted.false ∙ c.if-some.false) in
    (c.in-None-stopped.is, sym c.is_over.ensures ∙ c.if-is_over.false, h.0, h.1)

pub returns-in-Some-NoMemory-clause-posts : goal.returns-in-Some-NoMemory-clause-posts
returns-in-Some-NoMemory-clause-posts g c = posts-nothing c.args.self.now

pub returns-in-Some-Spent-clause-posts : goal.returns-in-Some-Spent-clause-posts
returns-in-Some-Spent-clause-posts g c = posts-nothing c.args.self.now

pub returns-in-Some-Spent-stopped-clause-posts : goal.returns-in-Some-Spent-stopped-clause-posts
returns-in-Some-Spent-stopped-clause-posts g c =
    turn-posts c.args.self.now c.post-posted.new.self c.take_above-above.new.self c.take_below-below.new.self c.post-posted.result c.take_above-above.result c.take_below-below.result
    (record { driven = c.requires; goes = c.in-None.is; post = c.post-posted.ensures; above = c.take_above-above.ensures; below = c.take_below-below.ensures })
    c.go_on.new.self
    (moment (g.S.Source.faults c.args.input.now) (g.S.Source.feed c.args.input.now) (g.K.Sink.faults c.args.output.now) (g.K.Sink.finished c.args.output.now))
    (moment (g.S.Source.faults c.go_on.new.input) (g.S.Source.feed c.go_on.new.input) (g.K.Sink.faults c.go_on.new.output) (g.K.Sink.finished c.go_on.new.output))
    (g.K.Sink.got c.args.output.now) (g.K.Sink.got c.go_on.new.output) c.go_on.ensures.went c.go_on.ensures.gives

pub returns-then-is_over-clause-posts : goal.returns-then-is_over-clause-posts
returns-then-is_over-clause-posts g c =
    turn-posts c.args.self.now c.post-posted.new.self c.take_above-above.new.self c.take_below-below.new.self c.post-posted.result c.take_above-above.result c.take_below-below.result
    (record { driven = c.requires; goes = c.in-None.is; post = c.post-posted.ensures; above = c.take_above-above.ensures; below = c.take_below-below.ensures })
    c.go_on.new.self
    (moment (g.S.Source.faults c.args.input.now) (g.S.Source.feed c.args.input.now) (g.K.Sink.faults c.args.output.now) (g.K.Sink.finished c.args.output.now))
    (moment (g.S.Source.faults c.go_on.new.input) (g.S.Source.feed c.go_on.new.input) (g.K.Sink.faults c.go_on.new.output) (g.K.Sink.finished c.go_on.new.output))
    (g.K.Sink.got c.args.output.now) (g.K.Sink.got c.go_on.new.output) c.go_on.ensures.went c.go_on.ensures.gives

pub returns-then-some-clause-posts : goal.returns-then-some-clause-posts
returns-then-some-clause-posts g c =
    turn-posts c.args.self.now c.post-posted.new.self c.take_above-above.new.self c.take_below-below.new.self c.post-posted.result c.take_above-above.result c.take_below-below.result
    (record { driven = c.requires; goes = c.in-None.is; post = c.post-posted.ensures; above = c.take_above-above.ensures; below = c.take_below-below.ensures })
    c.go_on.new.self
    (moment (g.S.Source.faults c.args.input.now) (g.S.Source.feed c.args.input.now) (g.K.Sink.faults c.args.output.now) (g.K.Sink.finished c.args.output.now))
    (moment (g.S.Source.faults c.go_on.new.input) (g.S.Source.feed c.go_on.new.input) (g.K.Sink.faults c.go_on.new.output) (g.K.Sink.finished c.go_on.new.output))
    (g.K.Sink.got c.args.output.now) (g.K.Sink.got c.go_on.new.output) c.go_on.ensures.went c.go_on.ensures.gives

pub returns-else-some-clause-posts : goal.returns-else-some-clause-posts
returns-else-some-clause-posts g c =
    turn-posts c.args.self.now c.post-posted.new.self c.take_above-above.new.self c.take_below-below.new.self c.post-posted.result c.take_above-above.result c.take_below-below.result
    (record { driven = c.requires; goes = c.in-None.is; post = c.post-posted.ensures; above = c.take_above-above.ensures; below = c.take_below-below.ensures })
    c.go_on.new.self
    (moment (g.S.Source.faults c.args.input.now) (g.S.Source.feed c.args.input.now) (g.K.Sink.faults c.args.output.now) (g.K.Sink.finished c.args.output.now))
    (moment (g.S.Source.faults c.go_on.new.input) (g.S.Source.feed c.go_on.new.input) (g.K.Sink.faults c.go_on.new.output) (g.K.Sink.finished c.go_on.new.output))
    (g.K.Sink.got c.args.output.now) (g.K.Sink.got c.go_on.new.output) c.go_on.ensures.went c.go_on.ensures.gives

pub returns-in-Some-NoMemory-stopped-clause-posts : goal.returns-in-Some-NoMemory-stopped-clause-posts
returns-in-Some-NoMemory-stopped-clause-posts g c =
    told-posts c.args.self.now c.post-posted.new.self c.take_above-above.new.self c.take_below-below.new.self c.post-posted.result c.take_above-above.result c.take_below-below.result
    (record { driven = c.requires; goes = c.in-None.is; post = c.post-posted.ensures; above = c.take_above-above.ensures; below = c.take_below-below.ensures })
    c.go_on.new.self c.tell.new.self
    (moment (g.S.Source.faults c.args.input.now) (g.S.Source.feed c.args.input.now) (g.K.Sink.faults c.args.output.now) (g.K.Sink.finished c.args.output.now))
    (moment (g.S.Source.faults c.go_on.new.input) (g.S.Source.feed c.go_on.new.input) (g.K.Sink.faults c.go_on.new.output) (g.K.Sink.finished c.go_on.new.output))
    (g.K.Sink.got c.args.output.now) (g.K.Sink.got c.go_on.new.output) c.go_on.ensures.went c.go_on.ensures.gives (let full : c.go_on.new.self.core.stopped ≡ Some NoMemory = first_of (grind (arith, c.in-Some-NoMemory-stopped.is, c.in-Some-NoMemory-stopped.field-0-is), search (arith, c.in-Some-NoMemory-stopped.is, c.in-Some-NoMemory-stopped.field-0-is)) in full) c.tell.ensures
    (tells c.args.self.now c.go_on.new.self c.tell.new.self
    (moment (g.S.Source.faults c.args.input.now) (g.S.Source.feed c.args.input.now) (g.K.Sink.faults c.args.output.now) (g.K.Sink.finished c.args.output.now))
    (moment (g.S.Source.faults c.go_on.new.input) (g.S.Source.feed c.go_on.new.input) (g.K.Sink.faults c.go_on.new.output) (g.K.Sink.finished c.go_on.new.output))
    (g.K.Sink.got c.args.output.now) (g.K.Sink.got c.go_on.new.output) c.requires c.in-None.is
    (went-then c.args.self.now c.take_below-below.new.self c.go_on.new.self _ _ _ _ _ _
    (begins-went c.args.self.now c.post-posted.new.self c.take_above-above.new.self c.take_below-below.new.self c.post-posted.result c.take_above-above.result c.take_below-below.result
    (record { driven = c.requires; goes = c.in-None.is; post = c.post-posted.ensures; above = c.take_above-above.ensures; below = c.take_below-below.ensures })
    (moment (g.S.Source.faults c.args.input.now) (g.S.Source.feed c.args.input.now) (g.K.Sink.faults c.args.output.now) (g.K.Sink.finished c.args.output.now)) (g.K.Sink.got c.args.output.now))
    c.go_on.ensures.went)
    c.go_on.ensures.driven (let full : c.go_on.new.self.core.stopped ≡ Some NoMemory = first_of (grind (arith, c.in-Some-NoMemory-stopped.is, c.in-Some-NoMemory-stopped.field-0-is), search (arith, c.in-Some-NoMemory-stopped.is, c.in-Some-NoMemory-stopped.field-0-is)) in full) c.tell.ensures).went

pub returns-in-Some-NoMemory-stopped-clause-turn : goal.returns-in-Some-NoMemory-stopped-clause-turn
returns-in-Some-NoMemory-stopped-clause-turn g c =
    let full : c.go_on.new.self.core.stopped ≡ Some NoMemory = first_of (grind (arith, c.in-Some-NoMemory-stopped.is, c.in-Some-NoMemory-stopped.field-0-is), search (arith, c.in-Some-NoMemory-stopped.is, c.in-Some-NoMemory-stopped.field-0-is)) in (
      ap (λ (n : Node). n.core.stopped) c.tell.ensures.posts.is ∙ (ap (λ (n : Node). n.core.stopped) c.tell.ensures.is ∙ full),
      λ goes.
          told-all c.args.self.now c.post-posted.new.self c.take_above-above.new.self c.take_below-below.new.self c.post-posted.result c.take_above-above.result c.take_below-below.result
          (record { driven = c.requires; goes = c.in-None.is; post = c.post-posted.ensures; above = c.take_above-above.ensures; below = c.take_below-below.ensures })
          c.go_on.new.self c.tell.new.self
          (moment (g.S.Source.faults c.args.input.now) (g.S.Source.feed c.args.input.now) (g.K.Sink.faults c.args.output.now) (g.K.Sink.finished c.args.output.now))
          (moment (g.S.Source.faults c.go_on.new.input) (g.S.Source.feed c.go_on.new.input) (g.K.Sink.faults c.go_on.new.output) (g.K.Sink.finished c.go_on.new.output))
          (g.K.Sink.got c.args.output.now) (g.K.Sink.got c.go_on.new.output) c.go_on.ensures.went c.go_on.ensures.gives c.tell.ensures,
    )
