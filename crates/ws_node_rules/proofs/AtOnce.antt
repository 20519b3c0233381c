-- A run that ends before anything was read, for want of memory.
use Rattle.std.proofs.Common.{ℤ, [], Option, Some, None, inl, refl, arith}
use Rattle.ws_flow.specs.declared.plan.Plan.{Plan}
use Rattle.ws_flow.specs.Told.{Open}
use Rattle.ws_io.specs.Gain.{Got}
use Rattle.ws_io.specs.Moment.{Moment}
use Rattle.ws_io.specs.declared.status.Status.TheVariants.{NoMemory}
use Rattle.ws_io.proofs.Flow.{Gains-nothing, Fed-nothing, KeepsTold-same}
use Rattle.ws_node.specs.Ends.{Ends, IsWithinAbort, out_of}

none-within : (abort : Option ℤ) → IsWithinAbort abort []
none-within None = tt
none-within (Some after) = omega arith

pub ends-at_once : (plan : Plan) (m : Moment) (p : Got) → Ends NoMemory plan m m p p
ends-at_once plan m p =
    record {
      taken = [];
      gain = [];
      mark = Open;
      fed = Fed-nothing m.feed;
      read = tt;
      gained = Gains-nothing p;
      first = ((out_of plan [] Open).items, refl);
      bound = omega arith;
      ahead_by = λ e. omega arith;
      abort = none-within plan.abort_after;
      allowed = tt;
      finish_kept = KeepsTold-same m.finished;
      later = inl refl;
      emptied = λ e. absurd (cc);
    }
