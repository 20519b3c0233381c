use Rattle.std.proofs.Common.{sym, ◌∙◌, inl, inr, arith}
use Rattle.std.proofs.lemmas.Bool.{cases_lt}
use Rattle.std.proofs.lemmas.Option.{slice_get_within}
use Rattle.ws_alike.specs.Named.{in_option}
use Rattle.ws_hosts.proofs.HostLemmas.{all-none, all-some, more-named, none-named, settled-none}
use Rattle.ws_hosts.proofs.hosts.Hosts.names.Goals as goal

pub returns-then-option_names : goal.returns-then-option_names
returns-then-option_names c =
    more-named _ _ (all-some (in_option c.args.p) c.args.self.now.items c.in-Some.h c.promise.result c.promise.ensures) (sym c.if-option_names.true ∙ c.option_names.ensures)

pub returns : goal.returns
returns c =
    none-named _ (all-none (in_option c.args.p) c.args.self.now.items (λ i o g.
    elim (cases_lt i c.loop-h.at) [
      | inl a ↦ c.loop-h.invariant.looked i o a g
      | inr a ↦ settled-none c.args.p c.args.self.now.items i o g (c.in_default.ensures.none i (omega (arith, a)) (slice_get_within c.args.self.now.items i o g))
    ]))
