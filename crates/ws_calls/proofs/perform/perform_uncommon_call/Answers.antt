use Rattle.std.proofs.Common.{◌∙◌, ◌+◌, ap, arith}
use Rattle.std.proofs.lemmas.List.{length-map}
use Rattle.ws_steps.specs.Slots.{Slots}
use Rattle.ws_tables.specs.View.{stream_of, tee_of}
use Rattle.ws_laws.proofs.Ages.{begin-age}
use Rattle.ws_calls.proofs.Beginning.{call-begins}
use Rattle.ws_calls.proofs.perform.perform_uncommon_call.Goals as goal

pub begin-reply-requires-clause-room : goal.begin-reply-requires-clause-room
begin-reply-requires-clause-room c =
    let ready = c.requires.prepared in
    let t = c.args.tables.now in
    let few = c.requires.resting.kept.few in
    let many = length-map t.streams.items stream_of in
    let tees = length-map t.tees.items tee_of in
    record {
      streams = ready.streams;
      grown = let h = ready.ready.grown in omega (arith, h);
      tees = ready.tees;
      few_tees = let g = few.1 in omega (arith, g, many, tees, t.tees.ok.0, t.streams.ok.0);
      ports = ready.ports;
      transforms = ready.transforms;
      few = let f = few.0 in omega (arith, f, many, t.transforms.ok.0, t.streams.ok.0);
      pipes = ready.pipes;
      signals = ready.signals;
      byob_requests = ready.byob_requests;
      full = ready.ready.full;
    }

pub perform_effects-requires-clause-room : goal.perform_effects-requires-clause-room
perform_effects-requires-clause-room c = (call-begins c.args.call c.begin-reply.result c.args.tables.now c.begin-reply.new.tables c.requires.prepared.ready c.requires.resting c.begin-reply.ensures).room

pub perform_effects-requires-clause-turns : goal.perform_effects-requires-clause-turns
perform_effects-requires-clause-turns c = (call-begins c.args.call c.begin-reply.result c.args.tables.now c.begin-reply.new.tables c.requires.prepared.ready c.requires.resting c.begin-reply.ensures).turns

pub perform_effects-requires-clause-kept : goal.perform_effects-requires-clause-kept
perform_effects-requires-clause-kept c = (call-begins c.args.call c.begin-reply.result c.args.tables.now c.begin-reply.new.tables c.requires.prepared.ready c.requires.resting c.begin-reply.ensures).kept

pub overflow_add-tables : goal.overflow_add-tables
overflow_add-tables c =
    let begun = ap (λ (s : Slots). s.age) c.begin-reply.ensures.slots ∙ begin-age c.args.call _ in
    let performed = c.perform_effects.ensures.age in
    let named = c.name.ensures.rest.age in
    omega (arith, begun, performed, named, c.requires.young)

pub returns-clause-age : goal.returns-clause-age
returns-clause-age c =
    ap (λ n. n + 1) (c.name.ensures.rest.age ∙ (c.perform_effects.ensures.age ∙ (ap (λ (s : Slots). s.age) c.begin-reply.ensures.slots ∙ begin-age c.args.call _)))
