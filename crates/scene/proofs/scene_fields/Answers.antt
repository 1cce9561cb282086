use native.Mathlib.Omega.{arith}
use Rattle.std.proofs.lemmas.Grind.{common_steps}
use borrow.Author.Rules.{rules}
use Rattle.parser.proofs.Laws.{ended_first}
use Rattle.scene.specs.Scene.{scene_fields}
use Rattle.scene.proofs.Scenes.{few, first_shaped, fields_met, others_default, left_read, left_ended}
use Rattle.scene.proofs.scene_fields.Goals as goal

pub positions-requires-clause-by_index : goal.positions-requires-clause-by_index
positions-requires-clause-by_index c = first_shaped (search rules) c.drc_count.ensures.small c.requires

pub returns : goal.returns
unfolding scene_fields
returns c = record { met = ended_first _ c.drc_count.ensures.met (search rules); most = tt; others = tt }

pub returns-2 : goal.returns-2
returns-2 c = record {
  met = left_ended c.positions.new.shapes c.positions.result (fields_met (search rules) c.drc_count.ensures.small c.requires c.drc_count.ensures.met c.positions.ensures) (search rules);
  most = tt;
  others = tt;
}

pub returns-3 : goal.returns-3
returns-3 c = record {
  met = left_read c.positions.new.shapes c.positions.result (fields_met (search rules) c.drc_count.ensures.small c.requires c.drc_count.ensures.met c.positions.ensures) (search rules) (grind (arith, common_steps));
  most = few (search rules) c.drc_count.ensures.small;
  others = others_default (search rules) c.drc_count.ensures.small c.requires _ (grind (arith, common_steps));
}
