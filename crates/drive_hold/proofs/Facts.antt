-- How long a command is held without a switching contact, for every T4: it is on for T4 ticks, its first included, where nothing ends it
-- before. On the T4th tick after its first an automatic one ends as 'long', a manual one as an operation.
-- Assumes nothing.
use mathlib.Core.Path.{◌≡◌, refl, sym, ap, ◌∙◌}
use mathlib.Core.Bool.{Bool, true, false}
use mathlib.Core.List.{List, [], ◌∷◌}
use Prim.Native.Nat.{ℕ, ◌+◌, ◌<◌}
use native.Mathlib.Omega.{arith}
use borrow.Author.Tests.{lt-ltb, le-ltb}
use lib.ListN.{length}
use Rattle.common.specs.Choice.{choose}
use Rattle.common.proofs.Cases.{yes, no}
use Rattle.ways.specs.declared.Direction.{Direction}
use Rattle.fault.specs.declared.Fault.TheVariants.{Long}
use Rattle.drive.specs.declared.Drive.{Drive}
use Rattle.drive.specs.declared.Drive.TheVariants.{Asked}
use Rattle.drive_follow.specs.declared.Followed.{Followed}
use Rattle.drive_hold.specs.declared.Holding.{Holding}
use Rattle.std.specs.Prelude.{Some}
use Rattle.drive_follow.specs.Follow.{unmoved_of, faulty_of}
use Rattle.drive_hold.specs.Hold.{released_of, ends_of, automatic_of, manual_of, held_of, held_from, hold_of}

-- the drive after a row of ticks
abbrev pub after : Drive → List Holding → Drive
after d [] = d
after d (x ∷ xs) = after (hold_of d x).drive xs

-- a command of a direction and mode, under T4
module _ (d : Direction) (automatic : Bool) (t4 : ℕ) where
  -- a tick that does not end it before T4: no local drive; for an automatic command not in band, on the other side, manual or blocked
  pub record Keeps (x : Holding) : Type 0 where
    pub attended : x.local ≡ false
    pub limit : x.t4 ≡ t4
    pub free : automatic ≡ true → ends_of d x ≡ false

  abbrev pub All : List Holding → Type 0
  All [] = Unit {0}
  All (x ∷ xs) = Keeps x × All xs

  module _ (n : ℕ) (x : Holding) (k : Keeps x) where
    attended : held_of d n automatic x ≡ hold_of (Asked d n automatic) x
    unfolding hold_of held_from
    attended = no _ _ _ _ k.attended refl

    -- below T4 the command is a tick older
    older : n + 1 < t4 → (b : Bool) → automatic ≡ b → unmoved_of (Asked d (n + 1) b) ≡ choose b (automatic_of d n x) (manual_of d n x)
    unfolding automatic_of manual_of
    older h true e = yes _ _ _ _ refl (no _ _ _ _ (k.free e) (yes _ _ _ _ (rw k.limit (lt-ltb _ _ h)) refl))
    older h false e = no _ _ _ _ refl (yes _ _ _ _ (rw k.limit (lt-ltb _ _ h)) refl)

    pub stays : n + 1 < t4 → hold_of (Asked d n automatic) x ≡ unmoved_of (Asked d (n + 1) automatic)
    stays h = sym (older h automatic refl ∙ attended)

    -- on its T4th tick it ends
    late_automatic : n + 1 ≡ t4 → automatic ≡ true → faulty_of (Some Long) ≡ automatic_of d n x
    unfolding automatic_of
    late_automatic h e = no _ _ _ _ (k.free e) (no _ _ _ _ (rw k.limit (le-ltb (n + 1) t4 (omega arith))) refl)

    late_manual : n + 1 ≡ t4 → released_of ≡ manual_of d n x
    unfolding manual_of
    late_manual h = no _ _ _ _ (rw k.limit (le-ltb (n + 1) t4 (omega arith))) refl

    over : n + 1 ≡ t4 → (b : Bool) → automatic ≡ b → choose b (faulty_of (Some Long)) released_of ≡ choose b (automatic_of d n x) (manual_of d n x)
    unfolding choose
    over h true e = late_automatic h e
    over h false e = late_manual h

    pub ends : n + 1 ≡ t4 → hold_of (Asked d n automatic) x ≡ choose automatic (faulty_of (Some Long)) released_of
    ends h = sym (over h automatic refl ∙ attended)

  -- after fewer than T4 ticks it is held, and as old as they are many
  pub held_from_lem : (n : ℕ) (xs : List Holding) → All xs → n + length xs < t4 → after (Asked d n automatic) xs ≡ Asked d (n + length xs) automatic
  held_from_lem n [] a h = ap (λ (m : ℕ). Asked d m automatic) (omega arith)
  held_from_lem n (x ∷ xs) a h =
      ap (λ (o : Followed). after o.drive xs) (stays n x a.0 (omega arith)) ∙ held_from_lem (n + 1) xs a.1 (omega arith)
      ∙ ap (λ (m : ℕ). Asked d m automatic) (omega arith)

  pub held : (xs : List Holding) → All xs → length xs < t4 → after (Asked d 0 automatic) xs ≡ Asked d (length xs) automatic
  held xs a h = held_from_lem 0 xs a (omega arith) ∙ ap (λ (m : ℕ). Asked d m automatic) (omega arith)

  -- and the T4th tick after its first ends it
  pub ends_at_t4 : (xs : List Holding) (x : Holding) → All xs → Keeps x → length xs + 1 ≡ t4
      → hold_of (after (Asked d 0 automatic) xs) x ≡ choose automatic (faulty_of (Some Long)) released_of
  ends_at_t4 xs x a k h = ap (λ (s : Drive). hold_of s x) (held xs a (omega arith)) ∙ ends (length xs) x k h
