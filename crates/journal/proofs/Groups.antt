-- The groups of a number, one after the other, and how many there are.
-- Assumes nothing.
use mathlib.Core.Path.{◌≡◌, refl, sym, ◌∙◌, ap}
use mathlib.Core.Bool.{true}
use mathlib.Core.List.{List, [], ◌∷◌}
use Prim.Native.Nat.{ℕ, zero, suc, ◌+◌, ◌/◌, ◌%◌, ◌^◌, ◌<◌, ◌≤◌}
use native.Mathlib.Nat.{pow-suc}
use native.Mathlib.Omega.{arith}
use borrow.Author.Tests.{lt-ltb, le-ltb}
use lib.Dec.{ltb}
use lib.ListN.{length}
use Rattle.common.specs.Choice.{choose}
use Rattle.common.proofs.Cases.{yes, no, chosen}
use Rattle.journal.specs.Texts.{groups_up_to, groups_of}

-- the groups of a number that has at most k + 1 of them are the same with more allowed
enough : (k n : ℕ) → n < 128 ^ suc k → groups_up_to (suc (suc k)) n ≡ groups_up_to (suc k) n
unfolding groups_up_to
enough zero n h =
    let p : ltb n 128 ≡ true = lt-ltb n 128 h in
    sym (yes _ _ _ _ p refl) ∙ yes _ _ _ _ p refl
enough (suc k) n h =
    let q : n / 128 < 128 ^ suc k = omega (arith, pow-suc 128 (suc k)) in
    ap (λ (l : List ℕ). choose (ltb n 128) (n ∷ []) ((128 + n % 128) ∷ l)) (enough k (n / 128) q)

pub in_short : (k n : ℕ) → n < 128 → groups_up_to (suc k) n ≡ n ∷ []
unfolding groups_up_to
in_short k n h = sym (yes _ _ _ _ (lt-ltb n 128 h) refl)

pub in_long : (k n : ℕ) → 128 ≤ n → groups_up_to (suc k) n ≡ (128 + n % 128) ∷ groups_up_to k (n / 128)
unfolding groups_up_to
in_long k n h = sym (no _ _ _ _ (le-ltb n 128 h) refl)

pub short : (n : ℕ) → n < 128 → groups_of n ≡ n ∷ []
unfolding groups_of
short n h = in_short 4 n h

pub long : (n : ℕ) → 128 ≤ n → n < 4294967296 → groups_of n ≡ (128 + n % 128) ∷ groups_of (n / 128)
unfolding groups_of
long n h l = in_long 4 n h ∙ ap (λ (d : List ℕ). (128 + n % 128) ∷ d) (sym (enough 3 (n / 128) (omega arith)))

some_in : (k n : ℕ) → 0 < length (groups_up_to (suc k) n)
unfolding groups_up_to
some_in k n =
    chosen (λ (l : List ℕ). 0 < length l) (ltb n 128) (n ∷ []) ((128 + n % 128) ∷ groups_up_to k (n / 128)) (λ _. omega arith) (λ _. omega arith)

pub some_group : (n : ℕ) → 0 < length (groups_of n)
unfolding groups_of
some_group n = some_in 4 n

-- how many
module _ (n : ℕ) where
  longer : 128 ≤ n → n < 4294967296 → length (groups_of n) ≡ 1 + length (groups_of (n / 128))
  longer h l = ap length (long n h l) ∙ omega arith

  pub size_1 : n < 128 → 1 ≡ length (groups_of n)
  size_1 h = sym (ap length (short n h))

pub size_2 : (n : ℕ) → 128 ≤ n → n < 16384 → 2 ≡ length (groups_of n)
size_2 n h l = omega (arith, longer n h (omega arith), size_1 (n / 128) (omega arith))

pub size_3 : (n : ℕ) → 16384 ≤ n → n < 2097152 → 3 ≡ length (groups_of n)
size_3 n h l = omega (arith, longer n (omega arith) (omega arith), size_2 (n / 128) (omega arith) (omega arith))

pub size_4 : (n : ℕ) → 2097152 ≤ n → n < 268435456 → 4 ≡ length (groups_of n)
size_4 n h l = omega (arith, longer n (omega arith) (omega arith), size_3 (n / 128) (omega arith) (omega arith))

pub size_5 : (n : ℕ) → 268435456 ≤ n → n < 4294967296 → 5 ≡ length (groups_of n)
size_5 n h l = omega (arith, longer n (omega arith) (omega arith), size_4 (n / 128) (omega arith) (omega arith))

pub ruleset sizes = (size_1, size_2, size_3, size_4, size_5)
