-- The kinds of renderer parameters that are a few numbers and flags each. Their names begin with the word `q`.
use Rattle.std.specs.Prelude.{ℕ, ◌+◌, ◌*◌, [], ◌∷◌, Bool, eqb}
use Rattle.rules.specs.Name.{third, fourth}
use Rattle.rules.specs.Leaf as leaf
use Rattle.rules.specs.Rule.{Rule, done, ◌>>=◌, ◌>>◌, pick}
use Rattle.rules.specs.Derived.{take, flag, passive_values, drc_count, repeat}
use Rattle.common_resources.specs.Common.{number, number_if, number_unless, values}

-- kind 1, with `legacy_spread`
unfoldable pub legacy_spread : ℕ → Rule (Unit {0})
legacy_spread q = do
  height ← flag (q + leaf.height_present)
  values (q + leaf.renderer_values) (9 ∷ 8 ∷ [])
  pick height (number (q + leaf.height_encoded) 6) (done tt)

-- and without: the width, and two or three numbers of it
unfoldable pub spread_width : ℕ → Rule ℕ
spread_width q = do
  flag (q + leaf.range_dynamic)
  v ← take (q + leaf.precision_encoded) 4
  done (v * 2 + 6)

unfoldable pub spread_values : ℕ → ℕ → Rule (Unit {0})
spread_values q width = do
  three ← flag (q + leaf.third_dimension)
  take (q + leaf.range_encoded) 4
  pick three (values (q + leaf.renderer_values) (width ∷ width ∷ width ∷ [])) (values (q + leaf.renderer_values) (width ∷ width ∷ []))

unfoldable pub spread : ℕ → Rule (Unit {0})
spread q = do
  legacy ← flag (q + leaf.legacy_spread)
  pick legacy
      (legacy_spread q)
      (do
        width ← spread_width q
        spread_values q width)

-- kinds 6, 14 and 21
unfoldable pub encoded_flag : ℕ → Rule (Unit {0})
encoded_flag q = do
  flag (q + leaf.encoded)
  done tt

-- kind 7: one region, whose names begin with `r`; the loop over them; all of it
unfoldable pub region : ℕ → Bool → Rule (Unit {0})
region r cartesian = do
  predefined ← flag (r + leaf.region_predefined)
  pick predefined
      (number (r + leaf.region_index) 4)
      (pick cartesian
      (passive_values (r + leaf.region_encoded) fourth (8 ∷ 8 ∷ 8 ∷ 8 ∷ 8 ∷ 8 ∷ []))
      (passive_values (r + leaf.region_encoded) fourth (9 ∷ 9 ∷ 8 ∷ 8 ∷ [])))

unfoldable pub each_region : ℕ → Bool → ℕ → Rule (Unit {0})
each_region q cartesian n = repeat (λ j. region (q + third * j) cartesian) n

unfoldable pub regions : ℕ → Rule (Unit {0})
regions q = do
  cartesian ← flag (q + leaf.cartesian)
  n ← drc_count (q + leaf.count) 4 5
  each_region q cartesian n

unfoldable pub regions_unless_all : ℕ → Rule (Unit {0})
regions_unless_all q = do
  there ← flag (q + leaf.present)
  pick there
      (do
        all ← flag (q + leaf.all)
        pick all (done tt) (regions q))
      (done tt)

-- kind 10: present only if its type is 1
unfoldable pub encoded_if_one : ℕ → Rule (Unit {0})
encoded_if_one q = do
  kind ← take (q + leaf.type) 3
  pick (eqb kind 1) (number_if (q + leaf.present) (q + leaf.encoded) 7) (done tt)

-- kind 12: a flag of its own comes first
unfoldable pub flag_and_encoded : ℕ → Rule (Unit {0})
flag_and_encoded q = do
  flag (q + leaf.flag)
  number_if (q + leaf.present) (q + leaf.encoded) 9

-- kind 17: a region as in kind 7, with two widths more if it is not cartesian
unfoldable pub single_region : ℕ → Rule (Unit {0})
single_region q = do
  predefined ← flag (q + leaf.predefined)
  pick predefined
      (number (q + leaf.index) 4)
      (do
        cartesian ← flag (q + leaf.cartesian)
        pick cartesian (values (q + leaf.renderer_values) (8 ∷ 8 ∷ 8 ∷ 8 ∷ 8 ∷ 8 ∷ [])) (values (q + leaf.renderer_values) (9 ∷ 9 ∷ 8 ∷ 8 ∷ 8 ∷ 8 ∷ [])))

unfoldable pub single_region_if_present : ℕ → Rule (Unit {0})
single_region_if_present q = do
  there ← flag (q + leaf.present)
  pick there (single_region q) (done tt)

-- kind 19: the order is read unless it is the default
unfoldable pub order_and_encoded : ℕ → Rule (Unit {0})
order_and_encoded q = do
  number_unless (q + leaf.default) (q + leaf.order) 4
  number (q + leaf.encoded) 8

-- kind 24: present unless its type is 0
unfoldable pub encoded_unless_zero : ℕ → Rule (Unit {0})
encoded_unless_zero q = do
  kind ← take (q + leaf.type) 2
  pick (eqb kind 0) (done tt) (number_if (q + leaf.present) (q + leaf.encoded) 16)
