use Prim.Native.Nat.{ℕ, ◌+◌, ◌-◌, ◌*◌, ◌<◌, ◌≤◌}
use mathlib.Core.Path.{◌≡◌, refl}
use borrow.Author.Rules.{rules}
use borrow.Author.Tests.{eq-eqb, ne_eqb, le-leb, lt-leb}
use Rattle.std.specs.Prelude as std
use Rattle.std.specs.Prelude.{eqb, Ok, Err}
use Rattle.rules.specs.declared.reason.Reason.{Reason}
use Rattle.rules.specs.declared.reason.Reason.TheVariants.{CompressionBytes}
use Rattle.rules.specs.Rule.{Rule, refused, ◌>>=◌, ◌>>◌, position, set_end}
use Rattle.rules.specs.Derived.{demand}
use Rattle.parser.specs.declared.Parser.{Parser}
use Rattle.parser.specs.Met.{Met}
use Rattle.parser.proofs.Laws.{first_unit, ended_first, position_is, remaining_is, end_is, demand_kept, demand_broken}
use Rattle.parser.proofs.Steps.{ends_now}
use Rattle.parser.proofs.Forward.{met_forward}
use Rattle.compression.specs.Compression.{contents, metadata_compression}
use Rattle.compression.proofs.metadata_compression.Goals as goal

-- what is asked after the window's contents, and the whole window
abbrev used_up : ℕ → ℕ → Rule (Unit {0})
used_up end previous = do
  p ← position
  demand (eqb p end) (refused 19)
  set_end previous

abbrev window : ℕ → ℕ → ℕ → ℕ → Rule (Unit {0})
window kind start width previous = do
  set_end (start + width)
  contents kind start width
  used_up (start + width) previous

module _ (kind size start previous : ℕ) {p : Parser} (s : start ≡ p.position) (e : previous ≡ p.end) where
  too_long : previous - start < size * 8 → Met (metadata_compression kind size) p (Err CompressionBytes) p
  unfolding metadata_compression
  too_long h =
      let left : previous - start ≡ p.end - p.position = rw (s, e) in
      position_is _ s (remaining_is _ left (demand_broken _ _ (lt-leb _ _ h) (ends_now refl)))

  within : {b : std.Result (Unit {0}) Reason} {u : Parser} → size * 8 ≤ previous - start → Met (window kind start (size * 8) previous) p b u →
      Met (metadata_compression kind size) p b u
  unfolding metadata_compression
  within h m =
      let left : previous - start ≡ p.end - p.position = rw (s, e) in
      position_is _ s (remaining_is _ left (demand_kept _ _ (le-leb _ _ h) (end_is _ e m)))

module _ (end previous : ℕ) {x : ℕ} {p : Parser} (s : x ≡ p.position) where
  left_over : (x ≡ end → ⊥) → Met (used_up end previous) p (Err CompressionBytes) p
  left_over h = position_is _ s (demand_broken _ _ (ne_eqb _ _ h) (ends_now refl))

  put_back : {b : std.Result (Unit {0}) Reason} {u : Parser} → x ≡ end → Met (set_end previous) p b u → Met (used_up end previous) p b u
  put_back h m = position_is _ s (demand_kept _ _ (eq-eqb _ _ h) m)

pub returns-then-previous-start : goal.returns-then-previous-start
returns-then-previous-start c = too_long _ _ _ _ c.position-start.ensures c.end-previous.ensures c.if-previous-start.true

pub returns : goal.returns
returns c =
    within _ _ _ _ c.position-start.ensures c.end-previous.ensures c.if-previous-start.false (ended_first _ c.set_end.ensures (search rules))

pub contents-requires : goal.contents-requires
contents-requires c = rw c.position-start.ensures (met_forward c.set_end.ensures)

pub returns-2 : goal.returns-2
returns-2 c =
    within _ _ _ _ c.position-start.ensures c.end-previous.ensures c.if-previous-start.false (first_unit _ c.set_end.ensures (search rules) (ended_first _ c.contents.ensures (search rules)))

pub returns-then-position-end : goal.returns-then-position-end
returns-then-position-end c =
    let over = left_over _ _ c.position.ensures c.if-position-end.true in
    within _ _ _ _ c.position-start.ensures c.end-previous.ensures c.if-previous-start.false (first_unit _ c.set_end.ensures (search rules) (first_unit _ c.contents.ensures (search rules) over))

pub returns-3 : goal.returns-3
returns-3 c =
    let back = put_back _ _ c.position.ensures c.if-position-end.false c.set_end-2.ensures in
    within _ _ _ _ c.position-start.ensures c.end-previous.ensures c.if-previous-start.false (first_unit _ c.set_end.ensures (search rules) (first_unit _ c.contents.ensures (search rules) back))
