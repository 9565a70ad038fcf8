-- What holds of every decision: a wait that runs is below its delay, with no command and the drive at rest; a command begins only
-- with the drive at rest, and against no block of its mode or direction.
-- Assumes nothing.
use mathlib.Core.Path.{◌≡◌, refl, sym, ap, ◌∙◌}
use mathlib.Core.Bool.{Bool, true, false, not, ◌&&◌, ◌||◌}
use mathlib.Core.List.{List}
use Prim.Native.Nat.{ℕ, ◌<◌}
use native.Mathlib.Omega.{arith}
use borrow.Author.Tests.{leb-false}
use Rattle.common.specs.Choice.{choose}
use Rattle.common.proofs.Cases.{yes, no, chosen}
use Rattle.common.proofs.Joined.{or_left, or_right}
use Rattle.ways.specs.declared.Direction.{Direction}
use Rattle.ways.specs.declared.Direction.TheVariants.{Raise, Lower}
use Rattle.std.specs.Prelude.{Option, None, Some}
use Rattle.ways.specs.Ways.{raises, lowers}
use Rattle.blocks.specs.Blocked.{opposed_of}
use Rattle.command.specs.declared.Wait.{Wait}
use Rattle.command.specs.declared.Situation.{Situation}
use Rattle.command.specs.declared.Decided.{Decided}
use Rattle.command.specs.Idling.{idle_of, waits_for}
use Rattle.command_automatic.specs.Automatic.{commanded_of, waited_of, delay_of, wait_on_of, toward_of, sided_of}
use Rattle.command_manual.specs.Manual.{sought_of, granted_of, manual_of}
use Rattle.command_deciding.specs.Deciding.{decided_of}

-- the block of the mode
abbrev pub mode_blocked : Situation → Bool
mode_blocked x = choose x.automatic x.blocks.automatic x.blocks.manual

pub record Waits (s : List ℕ) (x : Situation) (o : Decided) (d : Direction) (n : ℕ) : Type 0 where
  pub command : o.command ≡ None
  pub resting : x.resting ≡ true
  pub early : n < delay_of s d x.far x.repeat
  pub automatic : x.automatic ≡ true
  pub side : x.side ≡ Some d
  pub mode : x.blocks.automatic ≡ false
  pub direction : opposed_of x.blocks d ≡ false

pub record Begun (x : Situation) (d : Direction) : Type 0 where
  pub resting : x.resting ≡ true
  pub mode : mode_blocked x ≡ false
  pub direction : opposed_of x.blocks d ≡ false

pub record Sound (s : List ℕ) (x : Situation) (o : Decided) : Type 0 where
  pub waits : (d : Direction) (n : ℕ) → o.wait ≡ waits_for d n → Waits s x o d n
  pub begins : (d : Direction) → o.command ≡ Some d → Begun x d

-- tests joined
not_both : (u v a b c : Bool) → u ≡ true → v ≡ false → (u && not a && not b || v && not a && not c) ≡ true → (a ≡ false) × (b ≡ false)
not_both true false true b c p q e = let z : ◌≡◌ {A = Bool} false true = e in (sym z, cc)
not_both true false false true c p q e = let z : ◌≡◌ {A = Bool} false true = e in (refl, sym z)
not_both true false false false c p q e = (refl, refl)
not_both true true a b c p q e = let z : ◌≡◌ {A = Bool} true false = q in (cc, cc)
not_both false v a b c p q e = let z : ◌≡◌ {A = Bool} false true = p in (cc, cc)

other_not : (u v a b c : Bool) → u ≡ false → v ≡ true → (u && not a && not b || v && not a && not c) ≡ true → (a ≡ false) × (c ≡ false)
other_not false true true b c p q e = let z : ◌≡◌ {A = Bool} false true = e in (sym z, cc)
other_not false true false b true p q e = let z : ◌≡◌ {A = Bool} false true = e in (refl, sym z)
other_not false true false b false p q e = (refl, refl)
other_not false false a b c p q e = let z : ◌≡◌ {A = Bool} false true = q in (cc, cc)
other_not true v a b c p q e = let z : ◌≡◌ {A = Bool} true false = p in (cc, cc)

module _ (s : List ℕ) (x : Situation) where
  abbrev Good : Decided → Type 0
  Good o = Sound s x o

  idle_good : Good idle_of
  idle_good =
      record {
        waits = λ d n e. absurd (let z : ◌≡◌ {A = ℕ} 0 1 = cc in omega arith);
        begins = λ d e. absurd (let z : ◌≡◌ {A = ℕ} 0 1 = cc in omega arith);
      }

  same_to : (d e : Direction) → Some d ≡ Some e → d ≡ e
  same_to d e p = cc

  same_wait : (v w : Wait) → Some v ≡ Some w → v ≡ w
  same_wait v w p = cc

  commanded_good : (d : Direction) → Begun x d → Good (commanded_of d)
  commanded_good d b =
      record {
        waits = λ e n q. absurd (let z : ◌≡◌ {A = ℕ} 0 1 = cc in omega arith);
        begins = λ e q. rw (← same_to d e q) b;
      }

  waiting_good : (d : Direction) (n : ℕ) → x.resting ≡ true → x.automatic ≡ true → x.side ≡ Some d → (x.blocks.automatic || opposed_of x.blocks d) ≡ false
      → n < delay_of s d x.far x.repeat → Good (record { command = None; wait = waits_for d n })
  waiting_good d n r a w f l =
      record {
        waits = λ e k q.
            let v = same_wait _ _ q in
            let p = ap (λ (w : Wait). w.direction) v in
            let m = ap (λ (w : Wait). w.ticks) v in
            record {
              command = refl;
              resting = r;
              early = rw (← p, ← m) l;
              automatic = a;
              side = rw (← p) w;
              mode = or_left _ _ f;
              direction = rw (← p) (or_right x.blocks.automatic _ f);
            };
        begins = λ e q. absurd (let z : ◌≡◌ {A = ℕ} 0 1 = cc in omega arith);
      }

  toward_good : x.resting ≡ true → x.automatic ≡ true → (d : Direction) → x.side ≡ Some d → Good (toward_of s x d)
  unfolding toward_of wait_on_of
  toward_good r a d w =
      chosen Good _ _ _ (λ p. idle_good)
      (λ p.
      chosen Good _ _ _
      (λ q. commanded_good d (record { resting = r; mode = sym (yes _ _ _ _ a (sym (or_left _ _ p))); direction = or_right x.blocks.automatic _ p }))
      (λ q. waiting_good d _ r a w p (leb-false _ _ q)))

  sided_good : x.resting ≡ true → x.automatic ≡ true → (w : Option Direction) → x.side ≡ w → Good (sided_of s x w)
  unfolding sided_of
  sided_good r a None e = idle_good
  sided_good r a (Some d) e = toward_good r a d e

  pressed_good : x.resting ≡ true → x.automatic ≡ false → (w : Option Direction)
      → (raises w && not x.blocks.manual && not x.blocks.raise || lowers w && not x.blocks.manual && not x.blocks.lower) ≡ true
      → Good (record { command = w; wait = None })
  pressed_good r a None p = let z : ◌≡◌ {A = Bool} false true = p in idle_good
  pressed_good r a (Some Raise) p =
      let b = not_both true false _ _ x.blocks.lower refl refl p in
      commanded_good Raise (record { resting = r; mode = sym (no _ _ _ _ a (sym b.0)); direction = b.1 })
  pressed_good r a (Some Lower) p =
      let b = other_not false true _ x.blocks.raise _ refl refl p in
      commanded_good Lower (record { resting = r; mode = sym (no _ _ _ _ a (sym b.0)); direction = b.1 })

  manual_good : x.resting ≡ true → x.automatic ≡ false → Good (manual_of x)
  unfolding manual_of granted_of
  manual_good r a = chosen Good _ _ _ (λ p. pressed_good r a (sought_of x) p) (λ p. idle_good)

  pub decided_sound : Sound s x (decided_of s x)
  unfolding decided_of
  decided_sound =
      chosen Good _ _ _
      (λ r. chosen Good _ _ _ (λ a. sided_good r a x.side refl) (λ a. manual_good r a))
      (λ r. idle_good)

  -- an unblocked deviation in automatic mode, the drive at rest: one tick more of the wait
  pub decided_waits : (d : Direction) → x.resting ≡ true → x.automatic ≡ true → x.side ≡ Some d → x.blocks.automatic ≡ false → opposed_of x.blocks d ≡ false
      → wait_on_of d (waited_of d x.wait) (delay_of s d x.far x.repeat) ≡ decided_of s x
  unfolding decided_of sided_of toward_of
  decided_waits d r a w f g =
      yes _ _ _ _ r (yes _ _ _ _ a (rw w (no _ _ _ _ (ap (λ (b : Bool). b || opposed_of x.blocks d) f ∙ g) refl)))

  -- a drive that does not rest: nothing
  pub decided_idle : x.resting ≡ false → idle_of ≡ decided_of s x
  unfolding decided_of
  decided_idle r = no _ _ _ _ r refl
