use Rattle.parser.proofs.Loops.{byte_more, byte_last, byte_ended, byte_none}
use Rattle.parser.proofs.Left.{left_all}
use Rattle.parser.proofs.Parser.label_bytes.Goals as goal

pub loop-n-init : goal.loop-n-init
loop-n-init c = left_all

pub returns-in-Err : goal.returns-in-Err
returns-in-Err c = byte_ended _ c.loop-n.invariant c.loop-n-test.true c.read.ensures.met c.in-Err.is

pub returns-then-value-eq0 : goal.returns-then-value-eq0
returns-then-value-eq0 c = byte_last _ c.loop-n.invariant c.loop-n-test.true c.read.ensures.met c.in-Ok.is c.if-value-eq0.true

pub loop-n-preserved : goal.loop-n-preserved
loop-n-preserved c = byte_more _ c.loop-n.invariant c.loop-n-test.true c.read.ensures.met c.in-Ok.is c.if-value-eq0.false

pub returns : goal.returns
returns c = byte_none _ c.loop-n.invariant c.loop-n-test.false
