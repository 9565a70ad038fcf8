-- Rule 8 of 01. Definitions only.
use Rattle.std.specs.Prelude.{ℕ, List, Option}
use Rattle.input.specs.declared.Contacts.{Contacts}
use Rattle.busbar_level.specs.Levels.{is_missing}
use Rattle.fault.specs.declared.Fault.{Fault}
use Rattle.fault.specs.Latches.{is_fault}
use Rattle.blocks.specs.declared.Blocks.{Blocks}
use Rattle.blocks.specs.Blocked.{blocks_of}
use Rattle.acting_judging.specs.declared.Finding.{Finding}

-- rule 8, with a fault, on what the rules before have found
unfoldable pub blocked_of : List ℕ → Contacts → Option Fault → Finding → Blocks
blocked_of s c f x =
    blocks_of s c
    (record { fault = is_fault f; section = x.section; u_missing = is_missing x.level; trips = x.trips; tap = x.tap })
