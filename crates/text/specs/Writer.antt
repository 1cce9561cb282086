-- Text written into lent bytes: what is asked of the room, and what is promised.
use Rattle.std.specs.Prelude.{ℕ, ◌+◌, ◌≤◌, ◌≡◌, List, length}
use Rattle.std.specs.Borrow.{MutBor}
use Rattle.text.specs.declared.Writer.{Writer}
use Rattle.text.specs.Text.{Put}

-- there is room for a text
abbrev pub Fits : List ℕ → Writer → Type 0
Fits text w = w.written + length text ≤ length w.out.now

-- a text put after what was written before, in the same bytes
pub record Wrote (text : List ℕ) (p q : Writer) : Type 0 where
  pub lent : q.out.ghost_name ≡ p.out.ghost_name
  pub put : Put p.out.now p.written text q.written q.out.now

-- the lent bytes, of which none are written
pub record Lent (out : MutBor (List ℕ)) (w : Writer) : Type 0 where
  pub lent : w.out.ghost_name ≡ out.ghost_name
  pub bytes : w.out.now ≡ out.now
  pub written : w.written ≡ 0
