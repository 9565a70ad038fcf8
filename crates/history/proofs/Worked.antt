-- Worked lists: T2 is in force, each of the three ends it, and a tick on which U is missing does not.
-- Assumes nothing.
use mathlib.Core.Path.{◌≡◌, refl}
use mathlib.Core.Bool.{true}
use mathlib.Core.List.{List, [], ◌∷◌, ◌++◌, map}
use Prim.Native.Nat.{ℕ}
use lib.Ieee.{of_bits}
use lib.ListN.{replicate}
use Rattle.ways.specs.declared.Direction.TheVariants.{Raise}
use Rattle.std.specs.Prelude.{Some}
use Rattle.input.specs.declared.Input.{Input}
use Rattle.claim.specs.Claim.{output}
use Rattle.claim.specs.Scenes.{varied_sheet, brought}
use Rattle.record.specs.declared.Regulator.{Regulator}
use Rattle.record.specs.Whole.{regulator_of}
use Rattle.record_starting.specs.Starting.{fresh_of}
use Rattle.rules.specs.Lists.{ticks_from}
use Rattle.rules.proofs.Opened.{opened}

-- T1 is 23 ticks, T2 25. The last automatic command was a raise, and it has ended.
abbrev repeating : Regulator
repeating =
    let m = (fresh_of varied_sheet).state in
    regulator_of varied_sheet
    (record {
      organs = m.organs;
      drive = m.drive;
      latch = m.latch;
      memory = record { wait = m.memory.wait; repeat = Some Raise; keys = m.memory.keys; remembered = m.memory.remembered };
      wear = m.wear;
    })

-- 98 V, low; 100 V, in band; 101 V, high; no number; 98 V in manual mode
abbrev low : Input
low = brought 0x42C4_0000 0x4001

abbrev in_band : Input
in_band = brought 0x42C8_0000 0x4001

abbrev high : Input
high = brought 0x42CA_0000 0x4001

abbrev missing : Input
missing = brought 0x7FC0_0000 0x4001

abbrev manual : Input
manual = brought 0x42C4_0000 0x0001

-- the command on which tick: raise, output 0, on each tick of a list
abbrev raises : List Input → List ℕ
raises is = map (λ t. output 0 t) (ticks_from true repeating is)

-- the first `n` ticks without a command, and then one with it
abbrev on_tick : ℕ → List ℕ
on_tick n = replicate n 0 ++ (1 ∷ [])

pub record Ended : Type 0 where
  pub in_force_lem : raises (replicate 25 low) ≡ on_tick 24
  pub by_band : raises (in_band ∷ replicate 23 low) ≡ on_tick 23
  pub by_other_side : raises (high ∷ replicate 23 low) ≡ on_tick 23
  pub by_manual : raises (manual ∷ replicate 23 low) ≡ on_tick 23
  pub not_by_missing : raises (missing ∷ replicate 25 low) ≡ on_tick 25

pub ended : Ended
unfolding of_bits opened
ended = record { in_force_lem = refl; by_band = refl; by_other_side = refl; by_manual = refl; not_by_missing = refl }
