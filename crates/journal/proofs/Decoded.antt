-- A number that is read group by group.
-- Assumes nothing.
use mathlib.Core.Path.{◌≡◌, refl, sym, ◌∙◌, ap, subst}
use mathlib.Core.List.{List, [], ◌∷◌}
use Prim.Native.Nat.{ℕ, zero, suc, ◌+◌, ◌-◌, ◌*◌, ◌%◌, ◌^◌, ◌<◌, ◌≤◌}
use native.Mathlib.Nat.{pow-suc, pow-le-pow_right}
use native.Mathlib.Omega.{arith}
use borrow.Author.Tests.{lt-ltb, le-ltb, ltb-true, eq-eqb, ne_eqb}
use lib.Dec.{ltb, eqb}
use lib.ListN.{length}
use Rattle.std.specs.Prelude.{Option, None, Some, IfSome}
use Rattle.std.proofs.lemmas.Option.{none-some}
use Rattle.common.specs.Choice.{choose}
use Rattle.common.proofs.Cases.{yes, no, chosen}
use Rattle.journal.specs.declared.Number.{Number}
use Rattle.journal.specs.Reading.{group_before, decoded_up_to, if_small, first_number}

pub none_before : (b : ℕ) → group_before b None ≡ None
unfolding group_before
none_before b = refl

-- one group more
module _ (b : ℕ) (r : Number) where
  pub more_none : r.value ≡ 0 → None ≡ group_before b (Some r)
  unfolding group_before
  more_none h = yes _ _ _ _ (eq-eqb r.value 0 h) refl

  pub more_some : (r.value ≡ 0 → ⊥) → Some (record { value = b % 128 + 128 * r.value; count = r.count + 1 }) ≡ group_before b (Some r)
  unfolding group_before
  more_some h = no _ _ _ _ (ne_eqb r.value 0 h) refl

-- what each way through `groups` answers
pub no_groups : (bs : List ℕ) {k : ℕ} → k ≡ 0 → None ≡ decoded_up_to k bs
unfolding decoded_up_to
no_groups bs e = rw e

pub no_bytes : (k : ℕ) (bs : List ℕ) → length bs ≡ 0 → None ≡ decoded_up_to k bs
unfolding decoded_up_to
no_bytes zero bs e = refl
no_bytes (suc k) [] e = refl
no_bytes (suc k) (b ∷ bs) e = absurd (omega arith)

decode_at : (k b : ℕ) (bs : List ℕ) → 0 < k
    → decoded_up_to k (b ∷ bs) ≡ choose (ltb b 128) (Some (record { value = b; count = 1 })) (group_before b (decoded_up_to (k - 1) bs))
unfolding decoded_up_to
decode_at zero b bs p = absurd (omega arith)
decode_at (suc k) b bs p = let e : suc k - 1 ≡ k = omega arith in rw e

module _ (k b : ℕ) (bs : List ℕ) (p : k ≡ 0 → ⊥) where
  pub last_group : b < 128 → Some (record { value = b; count = 1 }) ≡ decoded_up_to k (b ∷ bs)
  last_group l = yes _ _ _ _ (lt-ltb b 128 l) refl ∙ sym (decode_at k b bs (omega arith))

  pub first_group : {x : Option Number} → x ≡ decoded_up_to (k - 1) bs → 128 ≤ b → group_before b x ≡ decoded_up_to k (b ∷ bs)
  first_group e l = ap (group_before b) e ∙ no _ _ _ _ (le-ltb b 128 l) refl ∙ sym (decode_at k b bs (omega arith))

-- how large, and how long
pub record Fine (k : ℕ) (bs : List ℕ) (r : Number) : Type 0 where
  pub small : r.value < 128 ^ k
  pub few : r.count ≤ k
  pub inside : r.count ≤ length bs
  pub some : 0 < r.count

more_fine : (k b : ℕ) (bs : List ℕ) (o : Option Number) → IfSome o (Fine k bs) → IfSome (group_before b o) (Fine (suc k) (b ∷ bs))
unfolding group_before
more_fine k b bs None g = tt
more_fine k b bs (Some r) g =
    let e : 128 ^ suc k ≡ 128 ^ k * 128 = pow-suc 128 k in
    chosen (λ (o : Option Number). IfSome o (Fine (suc k) (b ∷ bs))) (eqb r.value 0) None (Some (record { value = b % 128 + 128 * r.value; count = r.count + 1 }))
    (λ _. tt)
    (λ _. record { small = omega (arith, g.small, e); few = omega (arith, g.few); inside = omega (arith, g.inside); some = omega arith })

pub fine : (k : ℕ) (bs : List ℕ) → IfSome (decoded_up_to k bs) (Fine k bs)
unfolding decoded_up_to
fine zero bs = tt
fine (suc k) [] = tt
fine (suc k) (b ∷ bs) =
    let e : 128 ^ suc k ≡ 128 ^ k * 128 = pow-suc 128 k in
    let z : 0 ≤ k = omega arith in
    let p : 128 ^ 0 ≤ 128 ^ k = pow-le-pow_right (omega arith) z in
    chosen (λ (o : Option Number). IfSome o (Fine (suc k) (b ∷ bs))) (ltb b 128) (Some (record { value = b; count = 1 })) (group_before b (decoded_up_to k bs))
    (λ t. record { small = omega (arith, p, e, ltb-true b 128 t); few = omega arith; inside = omega arith; some = omega arith })
    (λ _. more_fine k b bs (decoded_up_to k bs) (fine k bs))

pub more_fits : (k : ℕ) (bs : List ℕ) {r : Number} → Some r ≡ decoded_up_to k bs → k ≤ 4 → (r.value < 268435456) × (r.count < 5)
more_fits k bs {r} e h =
    let g : Fine k bs r = subst (λ (o : Option Number). IfSome o (Fine k bs)) (sym e) (fine k bs) in
    let p : 128 ^ k ≤ 128 ^ 4 = pow-le-pow_right (omega arith) h in (omega (arith, g.small, p), omega (arith, g.few))

-- below 2^32
pub record IsNumber (bs : List ℕ) (n : Number) : Type 0 where
  pub small : n.value < 4294967296
  pub some : 0 < n.count
  pub inside : n.count ≤ length bs

small_number : (bs : List ℕ) (o : Option Number) → IfSome o (Fine 5 bs) → IfSome (if_small o) (IsNumber bs)
small_number bs None g = tt
small_number bs (Some r) g =
    chosen (λ (o : Option Number). IfSome o (IsNumber bs)) (ltb r.value 4294967296) (Some r) None
    (λ t. record { small = ltb-true _ _ t; some = g.some; inside = g.inside })
    (λ _. tt)

small_is : (o : Option Number) {n : Number} → if_small o ≡ Some n → o ≡ Some n
small_is None e = e
small_is (Some r) {n} e =
    chosen (λ (o : Option Number). o ≡ Some n → Some r ≡ Some n) (ltb r.value 4294967296) (Some r) None (λ _ p. p) (λ _ p. absurd (none-some n p)) e

module _ (bs : List ℕ) where
  pub no_number : None ≡ decoded_up_to 5 bs → None ≡ first_number bs
  unfolding first_number
  no_number e = ap if_small e

  pub numbered : {n : Number} → Some n ≡ decoded_up_to 5 bs → n.value < 4294967296 → Some n ≡ first_number bs
  unfolding first_number
  numbered {n} e h = yes _ _ _ _ (lt-ltb n.value 4294967296 h) refl ∙ ap if_small e

  pub too_large : {n : Number} → Some n ≡ decoded_up_to 5 bs → 4294967296 ≤ n.value → None ≡ first_number bs
  unfolding first_number
  too_large {n} e h = no _ _ _ _ (le-ltb n.value 4294967296 h) refl ∙ ap if_small e

  pub is_number : {n : Number} → Some n ≡ first_number bs → IsNumber bs n
  unfolding first_number
  is_number e = subst (λ (o : Option Number). IfSome o (IsNumber bs)) (sym e) (small_number bs (decoded_up_to 5 bs) (fine 5 bs))

  pub decoded_is : {n : Number} → first_number bs ≡ Some n → decoded_up_to 5 bs ≡ Some n
  unfolding first_number
  decoded_is e = small_is (decoded_up_to 5 bs) e

pub ruleset before = (more_none, more_some)

pub ruleset firsts = (no_number, numbered, too_large, is_number)
