-- The stream at a writable end of a port, over every run.
use Rattle.ws_value.specs.declared.ids.StreamId.{StreamId}
use Rattle.std.proofs.Common.{◌≡◌, true, Option, Some, None, slice_get, refl, sym}
use Rattle.std.specs.Prelude.{is_some}
use Rattle.ws_steps.specs.declared.effects.Owner.TheVariants.{EndOf}
use Rattle.ws_steps.specs.declared.port.Side.TheVariants.{Writable as WritableSide}
use Rattle.ws_steps.specs.Cross as cross
use Rattle.ws_steps.specs.Histories.{run_events}
use Rattle.ws_steps.specs.PortHistory.{posted_in, run_taken}
use Rattle.ws_steps.specs.PortLaws.{IsWritableEnd, EachWritableEndIsLawful}
use Rattle.ws_steps.specs.Run.{run}
use Rattle.ws_steps.specs.Slots.{Slots, empty, has_writable, owner_at, writable_at, as_port}
use Rattle.ws_steps.specs.WritableHistory.{run_writes}
use Rattle.ws_laws.proofs.Ended.{run-ended}
use Rattle.ws_transform_laws.proofs.PortLawful.{each_end_is_lawful}
use Rattle.ws_transform_laws.proofs.PortSteps.{each_end_step}
use Rattle.ws_transform_laws.proofs.PortLive.{PortLiving, port-living, port-living-rests, none-port-living, lives-at}
use Rattle.ws_tee_port_laws.specs.ports.Posts.{PostsDown}
use Rattle.ws_tee_port_laws.specs.ports.WritableEnds.{EachWritableEndStep}
use Rattle.ws_tee_port_laws.proofs.ports.Ends.{each_writable_end_posts}
use Rattle.ws_tee_port_laws.proofs.ports.ActedPlaces.{mine-writable, mine-owner}
use Rattle.ws_tee_port_laws.proofs.ports.ActedRuns.{IsEnd, end-mine, run-acted}

pub each_writable_end_is_lawful : EachWritableEndIsLawful
each_writable_end_is_lawful entries c h side = by (slice_get (run entries empty).ports c.0) refl h side (each_writable_end_posts entries c h side)
  where
    s : Slots
    s = run entries empty

    by : (o : Option cross.Slots) → o ≡ slice_get s.ports c.0 → is_some o ≡ true → (as_port o).side ≡ WritableSide → let x : cross.Slots = as_port o in
        PostsDown (run_taken c entries empty) (posted_in c (run_events entries empty)) x
        → (has_writable x.stream s ≡ true) × ((owner_at x.stream s ≡ EndOf c)
        × IsWritableEnd (run_taken c entries empty) (posted_in c (run_events entries empty)) (run_writes x.stream entries empty) (writable_at x.stream s) x)
    by None e there side p = cc
    by (Some x) e there side p =
        let i : StreamId = x.stream in
        let end : IsEnd c i s x = record { there = sym e; side = side; stream = refl } in
        let mine = end-mine c i s x end in
        let owner = mine-owner c i s (run-ended entries) mine in (
          mine-writable c i s (run-ended entries) mine,
          (
            owner,
            record {
              lawful = each_end_is_lawful entries i c owner;
              acted = run-acted c i (PortLiving i c) (port-living i c) (port-living-rests i c) (none-port-living i c) (λ k z v p es y living own there at. lives-at i c k z v p es y living own there at) entries x end;
              credit = p.credit;
              posts = p.posts;
              last = p.last;
              live = p.live;
            },
          ),
        )

pub each_writable_end_step : EachWritableEndStep
each_writable_end_step entries x i c owner = each_end_step entries x i c owner
