use mathlib.Core.Path.{sym}
use native.Mathlib.Omega.{arith}
use borrow.Author.Rules.{rules}
use Rattle.ranks.proofs.Ranks.{rank_computed, parent_ends, parent_fits, parent_ended}
use Rattle.ranks.proofs.Walks.{known_more}
use Rattle.ranks.proofs.rank.Goals as goal

pub returns-then-known-place-gt0-clause-rank : goal.returns-then-known-place-gt0-clause-rank
returns-then-known-place-gt0-clause-rank c = sym (rank_computed _ (c.requires.known.ranks _ c.requires.declared c.if-known-place-gt0.true))

pub returns-clause-rank : goal.returns-clause-rank
returns-clause-rank c = parent_ended _ c.requires.declared c.climb.ensures (search rules)

pub overflow_add-rank : goal.overflow_add-rank
overflow_add-rank c = record { fits = parent_fits _ c.requires.declared c.climb.ensures (omega arith) (search rules) }

pub overflow_cast-known : goal.overflow_cast-known
overflow_cast-known c = record { fits = parent_fits _ c.requires.declared c.climb.ensures c.requires.known.few (search rules) }

pub returns-2-clause-rank : goal.returns-2-clause-rank
returns-2-clause-rank c = sym (rank_computed _ (parent_ends _ c.requires.declared c.climb.ensures (search rules)))

pub returns-2-clause-known : goal.returns-2-clause-known
returns-2-clause-known c = known_more _ c.mark.ensures c.requires.declared (parent_ends _ c.requires.declared c.climb.ensures (search rules))
