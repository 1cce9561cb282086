use Prim.Native.Nat.{◌<◌, ◌+◌, ◌-◌, ◌*◌, ◌^◌}
use mathlib.Core.Path.{◌≡◌}
use Rattle.bits.specs.Words.{swapped}
use Rattle.bits.proofs.swapped.Given as goal

-- the bytes that are swapped, with those that are left swapped behind them, are the word swapped
abbrev pub invariant-loop : goal.invariant-loop
invariant-loop l =
    (l.swapped < 2 ^ (8 * l.counter)) × (l.swapped * 2 ^ (8 * (8 - l.counter)) + swapped (8 - l.counter) l.rest ≡ swapped 8 l.word)
