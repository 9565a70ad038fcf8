-- An organ's mark after a list of its ticks is what the list says: set by the last tick beyond the limit, unless one since cleared it.
-- Assumes nothing.
use Prim.Native.Nat.{ℕ, ◌*◌, ◌<◌}
use native.Mathlib.Omega.{arith}
use mathlib.Core.Path.{◌≡◌, refl, sym, ap, ◌∙◌, subst}
use mathlib.Core.Bool.{Bool, true, false, true≢false, false≢true}
use mathlib.Core.List.{List, [], ◌∷◌}
use mathlib.Core.Logic.{◌⊎◌, inl, inr, ⊎_elim, ◌↔◌}
use borrow.Author.Tests.{ltb-true, ltb-false}
use lib.Dec.{ltb}
use Rattle.common.proofs.Joined.{split}
use Rattle.organ.specs.declared.Organ.{Organ}
use Rattle.organ.specs.declared.OrganInput.{OrganInput}
use Rattle.organ.specs.declared.Side.{Side}
use Rattle.organ.specs.declared.Side.TheVariants.{Over, Under}
use Rattle.std.specs.Prelude.{Option, None, Some, is_some}
use Rattle.std.specs.Option.{unwrap_or}
use Rattle.organ.specs.Organs.{over_of, under_of, marked_of, mark_by, organ_of}
use Rattle.organ.specs.Runs as organs
use Rattle.organ_limits.proofs.Facts.{over_marked, over_cleared, over_kept, under_marked, under_cleared, under_kept}
use Rattle.claim.specs.Runs.{run_of, after_of}
use Rattle.history.specs.Memories.{Beyond, Returned, Marks, Leaves, MarkedLast}
use Rattle.history.proofs.Kept.{remembers_from_none}

-- what a tick brings, whatever the organ was: the list of the inputs themselves
abbrev itself : Organ → OrganInput → OrganInput
itself o x = x

-- the three places of a value against its limit
pub record Placed (was mark : Bool) (beyond returned : Type 0) : Type 0 where
  pub marks : beyond → mark ≡ true
  pub clears : returned → mark ≡ false
  pub keeps : (beyond → ⊥) → (returned → ⊥) → mark ≡ was

over_placed : (was : Bool) (v l : ℕ) → Placed was (over_of was v l) (l < v) (20 * v < 19 * l)
over_placed was v l =
    record {
      marks = over_marked was v l;
      clears = over_cleared was v l;
      keeps = λ n m. over_kept was v l (omega arith) (omega arith);
    }

under_placed : (was : Bool) (v l : ℕ) → Placed was (under_of was v l) (v < l) (21 * l < 20 * v)
under_placed was v l =
    record {
      marks = under_marked was v l;
      clears = under_cleared was v l;
      keeps = λ n m. under_kept was v l (omega arith) (omega arith);
    }

placed : (was : Bool) (side : Side) (v l : ℕ) → Placed was (marked_of was side v l) (Beyond side v l) (Returned side v l)
placed was Over v l = over_placed was v l
placed was Under v l = under_placed was v l

-- decided: a value is beyond its limit or not
beyond_or_not : (a b : ℕ) → (a < b) ⊎ (a < b → ⊥)
beyond_or_not a b = ⊎_elim (λ p. inl (ltb-true a b p)) (λ p. inr (λ q. let z = ltb-false a b p in omega arith)) (split (ltb a b))

decided : (side : Side) (v l : ℕ) → Beyond side v l ⊎ (Beyond side v l → ⊥)
decided Over v l = beyond_or_not l v
decided Under v l = beyond_or_not v l

module _ {was mark : Bool} {beyond returned : Type 0} (k : Placed was mark beyond returned) (d : beyond ⊎ (beyond → ⊥)) where
  placed_forth : mark ≡ true → beyond ⊎ ((was ≡ true) × (returned → ⊥))
  placed_forth e =
      ⊎_elim (λ p. inl p)
      (λ n.
      let m : returned → ⊥ = λ q. true≢false (sym e ∙ k.clears q) in
      inr (sym (k.keeps n m) ∙ e, m))
      d

  placed_back : beyond ⊎ ((was ≡ true) × (returned → ⊥)) → mark ≡ true
  placed_back (inl p) = k.marks p
  placed_back (inr q) = ⊎_elim (λ p. k.marks p) (λ n. k.keeps n q.1 ∙ q.0) d

same_value : {a b : ℕ} → Some a ≡ Some b → a ≡ b
same_value e = ap (λ (q : Option ℕ). unwrap_or q 0) e

module _ (o : Organ) (x : OrganInput) where
  abbrev Steps : Type 0
  Steps = ((organ_of o x).marked ≡ true) ↔ (Marks x ⊎ ((o.marked ≡ true) × Leaves x))

  mark_is : (v : Option ℕ) → x.value ≡ v → (organ_of o x).marked ≡ mark_by o.marked x.side v x.limit
  unfolding organ_of
  mark_is v e = ap (λ (q : Option ℕ). mark_by o.marked x.side q x.limit) e

  no_value : {n : ℕ} → x.value ≡ None → x.value ≡ Some n → ⊥
  no_value e f = false≢true (ap (λ (q : Option ℕ). is_some q) (sym e ∙ f))

  dead : x.value ≡ None → Steps
  dead e = (
    λ q. absurd (false≢true (sym (mark_is None e) ∙ q)),
    λ q. absurd (⊎_elim (λ m. no_value e m.live) (λ m. no_value e m.1.live) q),
  )

  live : (v : ℕ) → x.value ≡ Some v → Steps
  live v e =
      let k = placed o.marked x.side v x.limit in
      let d = decided x.side v x.limit in (
        λ q.
            ⊎_elim (λ p. inl (record { value = v; live = e; beyond = p }))
            (λ p. inr (p.0, record { value = v; live = e; not_returned = p.1 }))
            (placed_forth k d (sym (mark_is (Some v) e) ∙ q)),
        λ q.
            mark_is (Some v) e
            ∙ placed_back k d
            (⊎_elim (λ m. inl (subst (λ (n : ℕ). Beyond x.side n x.limit) (same_value (sym m.live ∙ e)) m.beyond))
            (λ m. inr (m.0, subst (λ (n : ℕ). Returned x.side n x.limit → ⊥) (same_value (sym m.1.live ∙ e)) m.1.not_returned)) q),
      )

  mark_step : Steps
  mark_step = by_value x.value refl
    where
      by_value : (v : Option ℕ) → x.value ≡ v → Steps
      by_value None e = dead e
      by_value (Some v) e = live v e

-- a run over an organ's inputs shows the inputs themselves, and ends where the organ's own run does
shows_them : (o : Organ) (xs : List OrganInput) → run_of organ_of itself o xs ≡ xs
shows_them o [] = refl
shows_them o (x ∷ xs) = ap (λ (l : List OrganInput). x ∷ l) (shows_them (organ_of o x) xs)

ends_there : (o : Organ) (xs : List OrganInput) → after_of organ_of o xs ≡ organs.run_of o xs
unfolding organs.run_of
ends_there o [] = refl
ends_there o (x ∷ xs) = ends_there (organ_of o x) xs

pub marked_last : (o : Organ) (xs : List OrganInput) → o.marked ≡ false → ((organs.run_of o xs).marked ≡ true) ↔ MarkedLast xs
marked_last o xs e =
    subst (λ (q : Organ). (q.marked ≡ true) ↔ MarkedLast xs) (ends_there o xs)
    (subst (λ (l : List OrganInput). ((after_of organ_of o xs).marked ≡ true) ↔ MarkedLast l) (shows_them o xs)
    (remembers_from_none organ_of itself (λ _. Unit {0}) (λ _ _ _. tt) (λ q. q.marked ≡ true) Marks Leaves (λ q x _. mark_step q x) o xs tt
    (λ b. true≢false (sym b ∙ e))))
