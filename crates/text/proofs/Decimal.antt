-- A number's decimal digits: those of its tenth and the last one, how many they are, and the number had back from them.
use mathlib.Core.Path.{◌≡◌, refl, sym, ap, ◌∙◌}
use mathlib.Core.Bool.{Bool, true, false}
use mathlib.Core.List.{List, [], ◌∷◌, ◌++◌}
use Prim.Native.Nat.{ℕ, zero, suc, ◌+◌, ◌-◌, ◌*◌, ◌/◌, ◌%◌, ◌^◌, ◌≤◌, ◌<◌}
use native.Mathlib.Nat.{pow-suc, pow-le-pow_right}
use native.Mathlib.Omega.{arith}
use borrow.Author.Tests.{ltb-true, ltb-false, lt-ltb, le-ltb, le-leb}
use lib.Dec.{ltb, lit<}
use lib.ListN.{length, length-append}
use Rattle.rules.specs.Rule.{pick}
use Rattle.rules.proofs.Pick.{by_pick}
use Rattle.text.specs.Text.{digit, decimal_within, decimal, is_digit, value_after}

-- 10 to the power of one more
more : (k : ℕ) → (10 ^ suc k ≡ 10 * 10 ^ k) × (1 ≤ 10 ^ k)
more k =
    let e = pow-suc 10 k in
    let one : 10 ^ 0 ≤ 10 ^ k = pow-le-pow_right {n = 10} (lit< tt) {i = 0} (omega arith) in
    (omega arith, one)

-- nothing stands before a digit alone
alone : (n : ℕ) (l m : List ℕ) → n < 10 → pick (ltb n 10) [] l ≡ pick (ltb n 10) [] m
alone n l m h = rw (lt-ltb n 10 h) refl

-- a limit on the digits that is one larger than needed makes no difference
spare : (k n : ℕ) → n < 10 ^ suc k → decimal_within (suc (suc k)) n ≡ decimal_within (suc k) n
unfolding decimal_within
spare zero n h = ap (λ (l : List ℕ). l ++ (digit (n % 10) ∷ [])) (alone n (decimal_within 1 (n / 10)) [] h)
spare (suc k) n h =
    let p = more (suc k) in
    ap (λ (l : List ℕ). pick (ltb n 10) [] l ++ (digit (n % 10) ∷ [])) (spare k (n / 10) (omega arith))

-- a digit alone, and a digit after those of a tenth
pub decimal_few : (n : ℕ) → n < 10 → decimal n ≡ digit n ∷ []
unfolding decimal decimal_within
decimal_few n h = let e : n % 10 ≡ n = omega arith in rw (lt-ltb n 10 h, e) refl

pub decimal_more : (n : ℕ) → 10 ≤ n → n < 2 ^ 64 → decimal n ≡ decimal (n / 10) ++ (digit (n % 10) ∷ [])
unfolding decimal decimal_within
decimal_more n some h =
    ap (λ (b : Bool). pick b [] (decimal_within 19 (n / 10)) ++ (digit (n % 10) ∷ [])) (le-ltb n 10 some)
    ∙ ap (λ (l : List ℕ). l ++ (digit (n % 10) ∷ [])) (sym (spare 18 (n / 10) (omega arith)))

-- in one: the last digit, and what stands before it
abbrev pub tens : ℕ → List ℕ
tens n = pick (ltb n 10) [] (decimal (n / 10))

pub decimal_last : (n : ℕ) → n < 2 ^ 64 → decimal n ≡ tens n ++ (digit (n % 10) ∷ [])
decimal_last n h = go (ltb n 10) refl
  where
    go : (b : Bool) → ltb n 10 ≡ b → decimal n ≡ pick b [] (decimal (n / 10)) ++ (digit (n % 10) ∷ [])
    go true e = let few = ltb-true n 10 e in let same : n % 10 ≡ n = omega arith in rw same (decimal_few n few)
    go false e = decimal_more n (let some = ltb-false n 10 e in omega arith) h

-- a number below 10 to the power of `k` has at most `k` digits, at least one
before : (b : Bool) (l : List ℕ) (n k : ℕ) → ltb n 10 ≡ b → n < 10 ^ suc k → ((j : ℕ) → k ≡ suc j → length l ≤ k) → length (pick b [] l) ≤ k
before true l n k e h again = omega arith
before false l n zero e h again = let z = ltb-false n 10 e in let y : n < 10 = h in absurd (omega arith)
before false l n (suc k) e h again = again k refl

short : (f k n : ℕ) → n < 10 ^ suc k → length (decimal_within f n) ≤ suc k
unfolding decimal_within
short zero k n h = omega arith
short (suc f) k n h =
    let tens = decimal_within f (n / 10) in
    let fewer = before (ltb n 10) tens n k refl h (λ j e. rw e (short f j (n / 10) (let p = more (suc j) in let z : n < 10 ^ suc (suc j) = rw e at h in omega arith))) in
    rw (length-append (pick (ltb n 10) [] tens) (digit (n % 10) ∷ [])) (omega arith)

pub decimal_short : (k n : ℕ) → n < 10 ^ suc k → length (decimal n) ≤ suc k
unfolding decimal
decimal_short k n h = short 20 k n h

-- no number has more than 20
most : (f n : ℕ) → length (decimal_within f n) ≤ f
unfolding decimal_within
most zero n = omega arith
most (suc f) n =
    let tens = decimal_within f (n / 10) in
    let fewer = by_pick (λ l. length l ≤ f) (ltb n 10) [] tens (λ _. omega arith) (λ _. most f (n / 10)) in
    rw (length-append (pick (ltb n 10) [] tens) (digit (n % 10) ∷ [])) (omega arith)

pub decimal_most : (n : ℕ) → length (decimal n) ≤ 20
unfolding decimal
decimal_most n = most 20 n

-- the number is had back from its digits: no two numbers of 64 bits have the same
value_last : (v d : ℕ) (ds : List ℕ) → value_after v (ds ++ (d ∷ [])) ≡ 10 * value_after v ds + (d - 48)
unfolding value_after
value_last v d [] = refl
value_last v d (e ∷ ds) = value_last (10 * v + (e - 48)) d ds

value_within : (f n : ℕ) → n < 10 ^ f → value_after 0 (decimal_within f n) ≡ n
unfolding decimal_within value_after
value_within zero n h = omega arith
value_within (suc f) n h =
    let p = more f in
    rw (value_last 0 (digit (n % 10)) (pick (ltb n 10) [] (decimal_within f (n / 10))))
    (let e = front (ltb n 10) refl (value_within f (n / 10) (omega arith)) in omega arith)
  where
    front : (b : Bool) → ltb n 10 ≡ b → value_after 0 (decimal_within f (n / 10)) ≡ n / 10 → value_after 0 (pick b [] (decimal_within f (n / 10))) ≡ n / 10
    front true e again = let z = ltb-true n 10 e in omega arith
    front false e again = again

pub decimal_value : (n : ℕ) → n < 2 ^ 64 → value_after 0 (decimal n) ≡ n
unfolding decimal
decimal_value n h = value_within 20 n (omega arith)

pub decimal_once : (m n : ℕ) → m < 2 ^ 64 → n < 2 ^ 64 → decimal m ≡ decimal n → m ≡ n
decimal_once m n h k e = sym (decimal_value m h) ∙ ap (value_after 0) e ∙ decimal_value n k

-- each of them is a digit
abbrev pub Digits : List ℕ → Type 0
Digits [] = Unit {0}
Digits (c ∷ cs) = (is_digit c ≡ true) × Digits cs

digits_and : (a b : List ℕ) → Digits a → Digits b → Digits (a ++ b)
digits_and [] b p q = q
digits_and (c ∷ a) b p q = (p.0, digits_and a b p.1 q)

digits_within : (f n : ℕ) → Digits (decimal_within f n)
unfolding decimal_within
digits_within zero n = tt
digits_within (suc f) n = digits_and (pick (ltb n 10) [] (decimal_within f (n / 10))) _ (front (ltb n 10) (digits_within f (n / 10))) (one, tt)
  where
    front : (b : Bool) → Digits (decimal_within f (n / 10)) → Digits (pick b [] (decimal_within f (n / 10)))
    front true again = tt
    front false again = again

    one : is_digit (digit (n % 10)) ≡ true
    one = rw (le-leb 48 (digit (n % 10)) (omega arith), le-leb (digit (n % 10)) 57 (omega arith))

pub decimal_digits : (n : ℕ) → Digits (decimal n)
unfolding decimal
decimal_digits n = digits_within 20 n
