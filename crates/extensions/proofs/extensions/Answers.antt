use borrow.Author.Rules.{rules}
use Rattle.extensions.proofs.Loops.{extension_more, extension_last, extension_ended, extensions_over}
use Rattle.extensions.proofs.extensions.Goals as goal

pub returns-in-loop-i : goal.returns-in-loop-i
returns-in-loop-i c = extension_ended _ _ c.loop-i.invariant c.loop-i-test.true c.extension.ensures (search rules)

pub returns-then-not-more : goal.returns-then-not-more
returns-then-not-more c =
    extension_last _ _ c.loop-i.invariant c.loop-i-test.true c.extension.ensures (search rules) c.if-not-more.true

pub loop-i-preserved : goal.loop-i-preserved
loop-i-preserved c =
    extension_more _ _ c.loop-i.invariant c.loop-i-test.true c.extension.ensures (search rules) c.if-not-more.false

pub returns : goal.returns
returns c = extensions_over _ _ c.loop-i.invariant c.loop-i-test.false
