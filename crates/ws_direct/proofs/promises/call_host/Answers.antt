use Rattle.std.proofs.Common.{◌∙◌, sym, subst, ap}
use Rattle.ws_promise.specs.Seen.{HasJobRoom, HasPromiseRoom}
use Rattle.ws_jobs.specs.Shorts.{reaction_in}
use Rattle.ws_direct.proofs.Steps.{call-room, called-is, called-so, step-some}
use Rattle.ws_direct.proofs.promises.call_host.Goals as goal

pub tell-requires : goal.tell-requires
tell-requires c = (call-room c.args.call (reaction_in c.args.short) c.args.tables.now c.requires.steps c.requires.ready).events

pub fresh_waiting-promise-requires : goal.fresh_waiting-promise-requires
fresh_waiting-promise-requires c =
    let room = call-room c.args.call (reaction_in c.args.short) c.args.tables.now c.requires.steps c.requires.ready in
    record {
      promises = subst (HasPromiseRoom 1) (sym c.tell.ensures) room.promises;
      jobs = subst (HasJobRoom 1) (sym c.tell.ensures) room.jobs;
      waits = step-some (reaction_in c.args.short) c.requires.steps;
    }

pub push-requires : goal.push-requires
push-requires c = (call-room c.args.call (reaction_in c.args.short) c.args.tables.now c.requires.steps c.requires.ready).hosts

pub returns : goal.returns
returns c =
    let old = c.args.tables.now in
    called-so c.len.result c.args.call (reaction_in c.args.short) old _ c.requires.steps c.len.ensures.is
    (λ r is.
    ap (λ hosts. record old { promises = c.fresh_waiting-promise.new.self; hosts = hosts }) c.push.ensures
    ∙ called-is c.len.result c.args.call r old c.tell.new.self c.fresh_waiting-promise.new.self c.fresh_waiting-promise.result c.tell.ensures c.fresh_waiting-promise.ensures.id
    (c.fresh_waiting-promise.ensures.table r is))
    c.requires.ready
