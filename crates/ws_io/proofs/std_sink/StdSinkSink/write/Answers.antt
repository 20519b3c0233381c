use Rattle.ws_io.proofs.Telling.{tells-nothing}
use Rattle.ws_io.proofs.std_sink.StdSinkSink.write.Goals as goal

pub returns-clause-bytes : goal.returns-clause-bytes
returns-clause-bytes g c = tells-nothing c.counted.result c.write_again-answer.result c.args.piece.now c.counted.ensures.answer c.write_again-answer.ensures.within c.write_again-answer.ensures.some
