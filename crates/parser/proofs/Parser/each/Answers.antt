use borrow.Author.Rules.{rules}
use Rattle.parser.proofs.Fold.{fold_more, fold_ended, fold_none}
use Rattle.parser.proofs.Parser.each.Goals as goal

pub returns-in-Err : goal.returns-in-Err
returns-in-Err g c = λ rule h. fold_ended _ _ _ _ (c.loop-i.invariant rule h) c.loop-i-test.true (h _ c.loop-i-test.true _ _ _ c.f.ensures) (search rules)

pub loop-i-preserved : goal.loop-i-preserved
loop-i-preserved g c = λ rule h. fold_more _ _ _ _ (c.loop-i.invariant rule h) c.loop-i-test.true (h _ c.loop-i-test.true _ _ _ c.f.ensures) (search rules)

pub returns : goal.returns
returns g c = λ rule h. fold_none _ _ _ _ (c.loop-i.invariant rule h) c.loop-i-test.false
