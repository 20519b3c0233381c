use Rattle.ws_answer_laws.proofs.Answered.{each_byte_read_is_answered}
use Rattle.ws_answer_laws.proofs.each_byte_read_is_answered.Goals as goal

pub returns : goal.returns
returns c = each_byte_read_is_answered
