use Rattle.std.proofs.Common.{◌≡◌, [], ◌∷◌, None, ap, arith, subst}
use Rattle.ws_pipe.specs.Seen.{is_next, look_of}
use Rattle.ws_steps.specs.declared.effects.Effect.TheVariants.{Give, Pipe, Readable}
use Rattle.ws_steps.specs.declared.effects.Gift.TheVariants.{This}
use Rattle.ws_steps.specs.declared.effects.Use.TheVariants.{React}
use Rattle.ws_steps.specs.declared.promises.Step.TheVariants.{PipeReady}
use Rattle.ws_steps.specs.declared.readable.ReadRequest.TheVariants.{Pipe as PipeRequest}
use Rattle.ws_steps.specs.declared.readable.ReadableOperation.TheVariants.{Read}
use Rattle.ws_performing.proofs.Records.{pipe-absent}
use Rattle.ws_direct.proofs.Reaching.{next-ready, nothing-done, then}
use Rattle.ws_direct.specs.Directly.{Reaches, looks_told}
use Rattle.ws_direct.proofs.pipes.look.Goals as goal

pub returns-then-len-p : goal.returns-then-len-p
returns-then-len-p c = nothing-done _ c.args.tables.now c.requires (pipe-absent c.args.p (look_of c.args.look) c.args.tables.now (omega (arith, c.args.tables.now.pipes.ok.0)) c.requires.quiet)

pub read-requires : goal.read-requires
read-requires c =
    next-ready (Pipe c.args.p (look_of c.args.look)) (Readable c.in-Read.source (Read (PipeRequest c.args.p))) [] c.args.tables.now _ c.requires.room
    (subst (λ n. Reaches (Pipe c.args.p (look_of c.args.look) ∷ []) c.args.tables.now (looks_told c.args.p c.look_at_ends.new.tables.caused.effects n) c.look_at_ends.new.tables) c.in-Read.is c.look_at_ends.ensures.told)
    (c.look_at_ends.ensures.quiet (ap is_next c.in-Read.is))

pub returns-in-Read : goal.returns-in-Read
returns-in-Read c =
    then _ (Readable c.in-Read.source (Read (PipeRequest c.args.p)) ∷ []) _ c.args.tables.now _ _
    (subst (λ n. Reaches (Pipe c.args.p (look_of c.args.look) ∷ []) c.args.tables.now (looks_told c.args.p c.look_at_ends.new.tables.caused.effects n) c.look_at_ends.new.tables) c.in-Read.is c.look_at_ends.ensures.told)
    c.read.ensures

pub react-requires-clause-ready : goal.react-requires-clause-ready
react-requires-clause-ready c =
    next-ready (Pipe c.args.p (look_of c.args.look)) (Give (This c.in-Wait.ready) (React (PipeReady c.args.p) None)) [] c.args.tables.now _ c.requires.room
    (subst (λ n. Reaches (Pipe c.args.p (look_of c.args.look) ∷ []) c.args.tables.now (looks_told c.args.p c.look_at_ends.new.tables.caused.effects n) c.look_at_ends.new.tables) c.in-Wait.is c.look_at_ends.ensures.told)
    (c.look_at_ends.ensures.quiet (ap is_next c.in-Wait.is))

pub returns-in-Wait : goal.returns-in-Wait
returns-in-Wait c =
    then _ (Give (This c.in-Wait.ready) (React (PipeReady c.args.p) None) ∷ []) _ c.args.tables.now _ _
    (subst (λ n. Reaches (Pipe c.args.p (look_of c.args.look) ∷ []) c.args.tables.now (looks_told c.args.p c.look_at_ends.new.tables.caused.effects n) c.look_at_ends.new.tables) c.in-Wait.is c.look_at_ends.ensures.told)
    c.react.ensures.performed

pub returns-in-Nothing : goal.returns-in-Nothing
returns-in-Nothing c =
    subst (λ n. Reaches (Pipe c.args.p (look_of c.args.look) ∷ []) c.args.tables.now (looks_told c.args.p c.look_at_ends.new.tables.caused.effects n) c.look_at_ends.new.tables) c.in-Nothing.is c.look_at_ends.ensures.told
