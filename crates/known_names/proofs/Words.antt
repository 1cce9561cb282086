-- Which words are known: those of a block and a leaf that stands in it, with indices in their range.
use Prim.Native.Nat.{ℕ, ◌+◌, ◌*◌, ◌<◌, ◌≤◌, min}
use mathlib.Core.Path.{◌≡◌, refl}
use mathlib.Core.List.{List, [], ◌∷◌}
use mathlib.Core.Bool.{Bool, true, false, ◌&&◌}
use native.Mathlib.Omega.{arith}
use borrow.Author.Tests.{ltb-true, leb-true, eqb-true, eq-eqb, le-leb}
use lib.Dec.{ltb, leb, eqb}
use Rattle.rules.specs.Name.{third, fourth, prefix, named}
use Rattle.rules.specs.Block as block
use Rattle.rules.specs.Rule.{pick}
use Rattle.rules.specs.Derived.{among}
use Rattle.rules.proofs.Laws.{never, both}
use Rattle.text.specs.Text.{ascii}
use Rattle.text.specs.Table.{row}
use Rattle.name_table.specs.Table.{blocks, leaves}
use Rattle.name_row.specs.Row.{greatest_first, greatest_second, in_range, stands_in}
use Rattle.name_words.specs.NameText.{known}
use Rattle.numbers.proofs.Distinct.{has_words}
use Rattle.laws.proofs.Names.{parts_back}
use Rattle.laws.proofs.Named.{names}
use Rattle.known_names.specs.Known.{Known}

-- a test that all numbers of a list meet, and so each of them
abbrev pub all : (ℕ → Bool) → List ℕ → Bool
all test [] = true
all test (n ∷ ns) = test n && all test ns

one : (test : ℕ → Bool) (n : ℕ) (ns : List ℕ) → among n ns ≡ true → all test ns ≡ true → test n ≡ true
one test n [] h a = never h refl
one test n (m ∷ ns) h a = by (eqb n m) refl (λ e. one test n ns (rw e at h) (both (test m) a).1)
  where
    by : (t : Bool) → eqb n m ≡ t → (eqb n m ≡ false → test n ≡ true) → test n ≡ true
    by true e k = rw (eqb-true n m e) (both (test m) a).0
    by false e k = k e

-- How many values each index has in the table, as far as a word has room for it: of the two indices of a block, and of
-- those of a leaf, the third having none unless the leaf stands in all of the blocks.
unfoldable pub firsts : ℕ → ℕ
unfolding row blocks ascii
firsts block = min (greatest_first (row blocks block) + 1) 8192

unfoldable pub seconds : ℕ → ℕ
unfolding row blocks ascii
seconds block = min (greatest_second (row blocks block) + 1) 8192

unfoldable pub thirds : List ℕ → ℕ → ℕ
unfolding row leaves ascii stands_in
thirds bs leaf = pick (ltb leaf 256 && all (λ b. stands_in (row leaves leaf) b) bs) (min (greatest_first (row leaves leaf) + 1) 8192) 0

unfoldable pub fourths : ℕ → ℕ
unfolding row leaves ascii
fourths leaf = min (greatest_second (row leaves leaf) + 1) 8192

-- The word `start` is the prefix of a block, with indices in their range.
record Prefix (block start : ℕ) : Type 0 where
  i : ℕ
  j : ℕ
  block_small : block < 16
  first_small : i < firsts block
  second_small : j < seconds block
  word : start ≡ prefix block i j

-- The word `p` is the prefix of one of the blocks `bs` with one of `n` values in the third index: with `n` 1, the prefix.
pub record Begun (bs : List ℕ) (n p : ℕ) : Type 0 where
  block : ℕ
  start : ℕ
  index : ℕ
  one_of : among block bs ≡ true
  is_prefix : Prefix block start
  below : index < n
  word : p ≡ start + third * index

-- a word by its parts
known_named : (leaf block i j k m : ℕ) → leaf < 256 → block < 16 → stands_in (row leaves leaf) block ≡ true → i < firsts block → j < seconds block →
    k < min (greatest_first (row leaves leaf) + 1) 8192 → m < fourths leaf → known (named (prefix block i j) leaf k m) ≡ true
unfolding known in_range firsts seconds fourths
known_named leaf block i j k m a b s c d e f =
    let back = parts_back leaf block i j k m a b (omega arith) (omega arith) (omega arith) (omega arith) in
    let within : (n g : ℕ) → n < min (g + 1) 8192 → leb n g ≡ true = λ n g h. le-leb n g (omega arith) in
    rw (back.leaf_back, back.block_back, back.first_back, back.second_back, back.third_back, back.fourth_back, s, within _ _ c, within _ _ d, within _ _ e, within _ _ f)

-- what is below a number or else below 0 is below the number
some : (t : Bool) (k n : ℕ) → k < pick t n 0 → (t ≡ true) × (k < n)
some true k n h = (refl, h)
some false k n h = absurd (omega arith)

-- a word by what it begins with
known_word : {bs : List ℕ} {n p : ℕ} (leaf m w : ℕ) → Begun bs n p → n ≤ thirds bs leaf → m < fourths leaf → w ≡ p + leaf + fourth * m → Known w
unfolding thirds
known_word {bs} leaf m w b h f e =
    let x = b.is_prefix in
    let few : b.index < thirds bs leaf = omega (arith, b.below) in
    let t = some _ b.index _ few in
    let s = both (ltb leaf 256) t.0 in
    let here = one (λ c. stands_in (row leaves leaf) c) b.block bs b.one_of s.1 in
    let q : w ≡ named (prefix b.block x.i x.j) leaf b.index m = omega (arith, b.word, x.word) in
    record {
      is_known = rw q
          (known_named leaf b.block x.i x.j b.index m (ltb-true leaf 256 s.0) x.block_small here x.first_small x.second_small t.1 f);
    }

-- a prefix with a third index
pub begun_third : {bs : List ℕ} {n : ℕ} (p j : ℕ) → Begun bs 1 p → j < n → Begun bs n (p + third * j)
begun_third p j b h =
    record {
      block = b.block;
      start = b.start;
      index = j;
      one_of = b.one_of;
      is_prefix = b.is_prefix;
      below = h;
      word = omega (arith, b.word, b.below);
    }

-- A leaf, with the third index of the prefix or one of its own, and perhaps a fourth. The tests are computed, with
-- `thirds` and `fourths` unfolded.
module _ {bs : List ℕ} {n : ℕ} (p leaf : ℕ) where
  pub known_leaf : Begun bs n p → leb n (thirds bs leaf) ≡ true → Known (p + leaf)
  unfolding fourths
  known_leaf b h = known_word leaf 0 _ b (leb-true _ _ h) (omega arith) (omega arith)

  pub known_fourth : {o : ℕ} (m : ℕ) → Begun bs n p → m < o → leb n (thirds bs leaf) ≡ true → leb o (fourths leaf) ≡ true → Known (p + leaf + fourth * m)
  known_fourth {o} m b l h f = known_word leaf m _ b (leb-true _ _ h) (omega (arith, leb-true o (fourths leaf) f)) refl

  pub known_fourth_one : Begun bs n p → leb n (thirds bs leaf) ≡ true → leb 2 (fourths leaf) ≡ true → Known (p + leaf + fourth)
  known_fourth_one b h f = known_word leaf 1 _ b (leb-true _ _ h) (leb-true _ _ f) refl

  -- a leaf further on by `more`, as those of a resource are
  pub known_further : (more : ℕ) → Begun bs n p → leb n (thirds bs (more + leaf)) ≡ true → Known (p + more + leaf)
  unfolding fourths
  known_further more b h = known_word (more + leaf) 0 _ b (leb-true _ _ h) (omega arith) (omega arith)

  pub known_third : (j : ℕ) → Begun bs 1 p → j < n → leb n (thirds bs leaf) ≡ true → Known (p + leaf + third * j)
  unfolding fourths
  known_third j b l h = known_word leaf 0 _ (begun_third p j b l) (leb-true _ _ h) (omega arith) (omega arith)

  pub known_third_fourth : {o : ℕ} (j m : ℕ) → Begun bs 1 p → j < n → m < o → leb n (thirds bs leaf) ≡ true → leb o (fourths leaf) ≡ true →
      Known (p + leaf + third * j + fourth * m)
  known_third_fourth {o} j m b l k h f = known_word leaf m _ (begun_third p j b l) (leb-true _ _ h) (omega (arith, leb-true o (fourths leaf) f)) (omega arith)

-- what begins with one of some blocks begins with one of more
pub begun_among : {bs : List ℕ} {n p : ℕ} (cs : List ℕ) → Begun bs n p → all (λ b. among b cs) bs ≡ true → Begun cs n p
begun_among {bs} cs b h =
    record {
      block = b.block;
      start = b.start;
      index = b.index;
      one_of = one (λ c. among c cs) b.block bs b.one_of h;
      is_prefix = b.is_prefix;
      below = b.below;
      word = b.word;
    }

-- what the names of each block begin with, its indices being in their range
begun : (b i j p : ℕ) → b < 16 → i < firsts b → j < seconds b → p ≡ prefix b i j → Begun (b ∷ []) 1 p
begun b i j p h f s e =
    record {
      block = b;
      start = p;
      index = 0;
      one_of = rw (eq-eqb b b refl);
      is_prefix = record { i = i; j = j; block_small = h; first_small = f; second_small = s; word = e };
      below = omega arith;
      word = omega arith;
    }

begun_plain : (b p : ℕ) → b < 16 → p ≡ prefix b 0 0 → Begun (b ∷ []) 1 p
unfolding firsts seconds
begun_plain b p h e = begun b 0 0 p h (omega arith) (omega arith) e

begun_first : (b i p : ℕ) → b < 16 → i < firsts b → p ≡ prefix b i 0 → Begun (b ∷ []) 1 p
unfolding seconds
begun_first b i p h f e = begun b i 0 p h f (omega arith) e

pub begun_scene_graph : Begun (1 ∷ []) 1 block.scene_graph
begun_scene_graph = begun_plain 1 _ (omega arith) refl

pub begun_positions : (i : ℕ) → i < firsts 2 → Begun (2 ∷ []) 1 (block.positions i)
begun_positions i h = begun_first 2 i _ (omega arith) h (omega arith)

pub begun_metadata : Begun (3 ∷ []) 1 block.metadata
begun_metadata = begun_plain 3 _ (omega arith) refl

pub begun_compression : Begun (4 ∷ []) 1 block.compression
begun_compression = begun_plain 4 _ (omega arith) refl

pub begun_tables : (i : ℕ) → i < firsts 5 → Begun (5 ∷ []) 1 (block.tables i)
begun_tables i h = begun_first 5 i _ (omega arith) h (omega arith)

pub begun_parameters : (i : ℕ) → i < firsts 6 → Begun (6 ∷ []) 1 (block.parameters i)
begun_parameters i h = begun_first 6 i _ (omega arith) h (omega arith)

pub begun_groups : (i : ℕ) → i < firsts 7 → Begun (7 ∷ []) 1 (block.groups i)
begun_groups i h = begun_first 7 i _ (omega arith) h (omega arith)

pub begun_group_data : (i : ℕ) → i < firsts 8 → Begun (8 ∷ []) 1 (block.group_data i)
begun_group_data i h = begun_first 8 i _ (omega arith) h (omega arith)

pub begun_data_parameters : (i j : ℕ) → i < firsts 9 → j < seconds 9 → Begun (9 ∷ []) 1 (block.data_parameters i j)
begun_data_parameters i j h l = begun 9 i j _ (omega arith) h l (omega arith)

-- For `search`: names that are known, of rules and of words, and numbers that have words.
pub ruleset known_names =
    (names, has_words, known_leaf, known_third, known_fourth, known_fourth_one, known_third_fourth, known_further, begun_third, begun_among)
