use Prim.Native.Nat.{◌*◌, ◌%◌, ◌^◌}
use mathlib.Core.Path.{◌≡◌, ◌∙◌}
use native.Mathlib.Omega.{arith}
use native.Mathlib.Nat.{one-mul}
use lib.Pow.{shl_exact, pow_mono}
use Rattle.code_tables.proofs.symbols.Goals as goal

pub returns : goal.returns
returns c =
    let exact = shl_exact {a = 1} 1 c.args.width 64 (omega arith) (omega arith) in
    let same : 1 * 2 ^ c.args.width % 2 ^ 64 ≡ 2 ^ c.args.width = exact ∙ one-mul _ in
    (same, rw same (pow_mono c.requires))
