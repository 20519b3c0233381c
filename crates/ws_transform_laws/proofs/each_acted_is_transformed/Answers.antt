use Rattle.ws_transform_laws.proofs.each_acted_is_transformed.Goals as goal
use Rattle.ws_transform_laws.proofs.Transformed as transformed

pub returns : goal.returns
returns c = transformed.each_acted_is_transformed
