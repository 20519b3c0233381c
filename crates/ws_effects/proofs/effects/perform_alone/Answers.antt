use Rattle.ws_steps.specs.declared.effects.Effect.TheVariants.{Transform, Port, StartAlgorithm, ChunkSteps, CloseSteps, CloseStepsWith, ErrorSteps, CallHost}
use Rattle.ws_tables.specs.View.{slots_of}
use Rattle.ws_tables.proofs.Counts.{gift-more, settle-more, micro-more}
use Rattle.ws_performing.proofs.Kept.{kept_by}
use Rattle.ws_tables.proofs.Places.{kept_promises}
use Rattle.ws_effects.proofs.effects.perform_alone.Goals as goal

pub returns-in-StartAlgorithm-clause-kept : goal.returns-in-StartAlgorithm-clause-kept
returns-in-StartAlgorithm-clause-kept c =
    let e = c.start_algorithm.ensures in
    kept_by (StartAlgorithm c.in-StartAlgorithm.i c.in-StartAlgorithm.step c.in-StartAlgorithm.start) c.args.tables.now c.start_algorithm.new.tables e.performs e.records c.requires.kept

pub returns-in-Transform-clause-kept : goal.returns-in-Transform-clause-kept
returns-in-Transform-clause-kept c =
    let e = c.perform_transform.ensures in
    kept_by (Transform c.in-Transform.t c.in-Transform.operation) c.args.tables.now c.perform_transform.new.tables e.performs e.records c.requires.kept

pub returns-in-Port-clause-kept : goal.returns-in-Port-clause-kept
returns-in-Port-clause-kept c =
    let e = c.take_port.ensures in
    kept_by (Port c.in-Port.c c.in-Port.operation) c.args.tables.now c.take_port.new.tables e.performs e.records c.requires.kept

pub returns-in-ChunkSteps-clause-kept : goal.returns-in-ChunkSteps-clause-kept
returns-in-ChunkSteps-clause-kept c =
    let e = c.chunk_steps.ensures in
    kept_by (ChunkSteps c.in-ChunkSteps.i c.in-ChunkSteps.request c.in-ChunkSteps.chunk) c.args.tables.now c.chunk_steps.new.tables e.performs e.records c.requires.kept

pub returns-in-CloseSteps-clause-kept : goal.returns-in-CloseSteps-clause-kept
returns-in-CloseSteps-clause-kept c =
    let e = c.close_steps.ensures in
    kept_by (CloseSteps c.in-CloseSteps.i c.in-CloseSteps.request) c.args.tables.now c.close_steps.new.tables e.performs e.records c.requires.kept

pub returns-in-CloseStepsWith-clause-kept : goal.returns-in-CloseStepsWith-clause-kept
returns-in-CloseStepsWith-clause-kept c =
    let e = c.close_steps_with.ensures in
    kept_by (CloseStepsWith c.in-CloseStepsWith.i c.in-CloseStepsWith.request c.in-CloseStepsWith.chunk) c.args.tables.now c.close_steps_with.new.tables e.performs e.records c.requires.kept

pub returns-in-ErrorSteps-clause-kept : goal.returns-in-ErrorSteps-clause-kept
returns-in-ErrorSteps-clause-kept c =
    let e = c.error_steps.ensures in
    kept_by (ErrorSteps c.in-ErrorSteps.i c.in-ErrorSteps.request c.in-ErrorSteps.e) c.args.tables.now c.error_steps.new.tables e.performs e.records c.requires.kept

pub returns-in-Give-clause-kept : goal.returns-in-Give-clause-kept
returns-in-Give-clause-kept c =
    kept_promises c.args.tables.now c.use_gift.new.self (rw c.use_gift.ensures (gift-more c.in-Give.gift c.in-Give.u (slots_of c.args.tables.now))) c.requires.kept

pub returns-in-Settle-clause-kept : goal.returns-in-Settle-clause-kept
returns-in-Settle-clause-kept c =
    kept_promises c.args.tables.now c.settle.new.self (rw c.settle.ensures (settle-more c.in-Settle.promise c.in-Settle.outcome (slots_of c.args.tables.now))) c.requires.kept

pub returns-in-Queue-clause-kept : goal.returns-in-Queue-clause-kept
returns-in-Queue-clause-kept c =
    kept_promises c.args.tables.now c.micro.new.self (rw c.micro.ensures (micro-more c.in-Queue.micro (slots_of c.args.tables.now))) c.requires.kept

pub returns-in-CallHost-clause-kept : goal.returns-in-CallHost-clause-kept
returns-in-CallHost-clause-kept c =
    let e = c.call_host.ensures in
    kept_by (CallHost c.in-CallHost.call c.in-CallHost.u) c.args.tables.now c.call_host.new.tables e.performs e.records c.requires.kept
