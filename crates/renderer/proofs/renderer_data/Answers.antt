use mathlib.Core.Path.{refl}
use native.Mathlib.Omega.{arith}
use native.Mathlib.Nat.{lt_of_le_of_lt}
use borrow.Author.Rules.{rules}
use borrow.Author.Tests.{lt-leb}
use Rattle.rules.specs.Block.{data_parameters}
use Rattle.parser.proofs.Laws.{readings, questions, first, demand_broken}
use Rattle.parser.proofs.Steps.{ends_now}
use Rattle.renderer.specs.Renderer.{parameter, each_parameter, renderer_data}
use Rattle.renderer.proofs.renderer_data.Goals as goal

pub returns : goal.returns
unfolding renderer_data
returns c = search readings depth 14

pub returns-then-count-gt-PARAMETERS : goal.returns-then-count-gt-PARAMETERS
unfolding renderer_data
returns-then-count-gt-PARAMETERS c =
    let too_many = lt-leb _ 128 (lt_of_le_of_lt (omega arith) c.if-count-gt-PARAMETERS.true) in
    first _ c.escaped.ensures.met (search rules) (demand_broken _ _ too_many (ends_now refl))

pub returns-2 : goal.returns-2
unfolding renderer_data each_parameter
returns-2 c =
    let each = c.each.ensures (λ i. parameter (data_parameters c.args.g i)) (λ i h p r q k. search rules) in
    search (readings, questions) depth 14
