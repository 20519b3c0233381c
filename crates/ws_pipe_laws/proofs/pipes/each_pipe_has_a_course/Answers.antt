use Rattle.ws_pipe_laws.proofs.pipes.each_pipe_has_a_course.Goals as goal
use Rattle.ws_pipe_laws.proofs.pipes.Courses as courses

pub returns : goal.returns
returns c = courses.each_pipe_has_a_course
