use mathlib.Core.Path.{◌∙◌, ap}
use Rattle.exported.specs.Exported.{exported_graph}
use Rattle.gateway.proofs.gateway_validation.Goals as goal

pub returns : goal.returns
returns c = c.exported_graph.ensures ∙ ap exported_graph c.validate_graph-a.ensures
