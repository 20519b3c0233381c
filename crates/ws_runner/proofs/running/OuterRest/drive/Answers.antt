use Rattle.std.proofs.Common.{List, refl, subst, sym}
use Rattle.ws_node.specs.Nodes.{Each}
use Rattle.ws_runner.specs.Place.{IsPlaceOf, Moves}
use Rattle.ws_runner.specs.declared.place.Place.{Place}
use Rattle.ws_runner.proofs.Places.{each-length, left-in, still-places}
use Rattle.ws_runner.proofs.running.OuterRest.drive.Goals as goal

pub returns : goal.returns
returns g c =
    λ xs at. let moves = subst (λ (ps : List Place). Each Moves ps c.drive_rest-self.new.places) c.as_mut_slice.ensures.value c.drive_rest-self.ensures.places in
    let now = still-places xs c.args.places.items c.drive_rest-self.new.places at moves in
    let all = left-in c.drive_rest-self.new.places c.args.places.items _ (each-length Moves _ _ moves) c.args.places.ok.0 in (
      refl,
      refl,
      refl,
      record {
        went = record {
          head = c.drive_rest-self.ensures.head;
          middles = c.join_all.ensures xs (subst (λ (ps : List Place). Each IsPlaceOf xs ps) (sym all) now);
          tail = c.drive_rest-self.ensures.tail;
        };
        status_is = c.drive_rest-self.ensures.status;
      },
    )
