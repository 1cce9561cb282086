-- A reading goes forward, and stays in its window and in the bytes.
use Rattle.std.specs.Prelude.{ℕ, ◌*◌, ◌≤◌, length}
use Rattle.rules.specs.Reading.{Reading, Input}

pub record Stays {A : Type 0} (i : Input) (p : ℕ) (x : Reading A) : Type 0 where
  pub forward : p ≤ x.position
  pub window : x.position ≤ x.end
  pub bytes : x.end ≤ 8 * length i.bytes
