use borrow.Author.Rules.{rules}
use Rattle.parser.proofs.Entered.{as_entry}
use Rattle.parser.proofs.Laws.{first_unit, ended_first}
use Rattle.scene.proofs.entered.Goals as goal

pub returns : goal.returns
returns c = record { took = record { met = ended_first _ (as_entry _ _ _ tt c.entry.ensures) (search rules); most = tt; others = tt }; deepest = tt }

pub returns-2 : goal.returns-2
returns-2 c =
    let graph = c.scene_graph.ensures in
    record {
      took = record { met = first_unit _ (as_entry _ _ _ tt c.entry.ensures) (search rules) graph.took.met; most = graph.took.most; others = graph.took.others };
      deepest = graph.deepest;
    }
