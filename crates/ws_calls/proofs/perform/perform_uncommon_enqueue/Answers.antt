use Rattle.std.proofs.Common.{◌∙◌, ◌+◌, ap, arith}
use Rattle.ws_steps.specs.Slots.{Slots}
use Rattle.ws_steps.specs.declared.calls.Call.TheVariants.{Enqueue}
use Rattle.ws_laws.proofs.Ages.{begin-age}
use Rattle.ws_calls.proofs.Beginning.{call-begins}
use Rattle.ws_calls.proofs.perform.perform_uncommon_enqueue.Goals as goal

pub perform_effects-requires-clause-room : goal.perform_effects-requires-clause-room
perform_effects-requires-clause-room c = (call-begins (Enqueue c.args.i c.args.chunk) c.enqueue-reply.result c.args.tables.now c.enqueue-reply.new.tables c.requires.ready c.requires.resting c.enqueue-reply.ensures).room

pub perform_effects-requires-clause-turns : goal.perform_effects-requires-clause-turns
perform_effects-requires-clause-turns c = (call-begins (Enqueue c.args.i c.args.chunk) c.enqueue-reply.result c.args.tables.now c.enqueue-reply.new.tables c.requires.ready c.requires.resting c.enqueue-reply.ensures).turns

pub perform_effects-requires-clause-kept : goal.perform_effects-requires-clause-kept
perform_effects-requires-clause-kept c = (call-begins (Enqueue c.args.i c.args.chunk) c.enqueue-reply.result c.args.tables.now c.enqueue-reply.new.tables c.requires.ready c.requires.resting c.enqueue-reply.ensures).kept

pub overflow_add-tables : goal.overflow_add-tables
overflow_add-tables c =
    let begun = ap (λ (s : Slots). s.age) c.enqueue-reply.ensures.slots ∙ begin-age (Enqueue c.args.i c.args.chunk) _ in
    let performed = c.perform_effects.ensures.age in
    let named = c.name.ensures.rest.age in
    omega (arith, begun, performed, named, c.requires.young)

pub returns-clause-age : goal.returns-clause-age
returns-clause-age c =
    ap (λ n. n + 1) (c.name.ensures.rest.age ∙ (c.perform_effects.ensures.age ∙ (ap (λ (s : Slots). s.age) c.enqueue-reply.ensures.slots ∙ begin-age (Enqueue c.args.i c.args.chunk) _)))
