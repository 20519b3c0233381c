use Rattle.std.proofs.Common.{ap}
use Rattle.ws_hosts.specs.Hosts.{SeenHosts}
use Rattle.ws_hosts.proofs.HostLemmas.{none-open, some-open}
use Rattle.ws_hosts.proofs.hosts.Hosts.open_from.Goals as goal

pub returns-clause-some : goal.returns-clause-some
returns-clause-some c =
    let a = c.self.inside in
    some-open a.open.next c.args.h a.open.kept c.args.self.now.items c.kept_from.result (ap (λ (v : SeenHosts). v.items) c.self.view_is) c.kept_from.ensures.some

pub returns-clause-none : goal.returns-clause-none
returns-clause-none c =
    let a = c.self.inside in
    none-open a.open.next c.args.h a.open.kept c.args.self.now.items c.kept_from.result (ap (λ (v : SeenHosts). v.items) c.self.view_is) c.kept_from.ensures.none
