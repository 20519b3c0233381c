use Rattle.ws_byte_laws.proofs.Closing.{each_throwing_close_errs}
use Rattle.ws_byte_laws.proofs.each_throwing_close_errs.Goals as goal

pub returns : goal.returns
returns c = each_throwing_close_errs
