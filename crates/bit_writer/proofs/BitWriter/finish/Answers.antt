use Prim.Native.Nat.{◌+◌, ◌-◌}
use mathlib.Core.Path.{◌≡◌, refl}
use native.Mathlib.Omega.{arith}
use lib.Pow.{shl_exact, shl_lt}
use Rattle.bit_writer.proofs.Writes.{finished, none_waits}
use Rattle.bit_writer.proofs.BitWriter.finish.Goals as goal

pub overflow_cast-self : goal.overflow_cast-self
overflow_cast-self c =
    let few = c.args.self.now.held_few in
    let eight : c.args.self.now.held + (8 - c.args.self.now.held) ≡ 8 = omega arith in
    let small = c.args.self.now.waiting_small in
    let byte = rw eight at (shl_lt c.args.self.now.held (8 - c.args.self.now.held) small) in
    rw (shl_exact c.args.self.now.held (8 - c.args.self.now.held) 64 small (omega arith)) (omega arith)

pub returns-then-self-gt0 : goal.returns-then-self-gt0
returns-then-self-gt0 c = finished c.if-self-gt0.true c.requires refl refl refl refl refl

pub returns-else-self-gt0 : goal.returns-else-self-gt0
returns-else-self-gt0 c = none_waits _ (omega arith)
