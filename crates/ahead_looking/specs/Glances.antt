-- The look, tick after tick, over whatever it is that a tick leaves. Definitions only.
use Rattle.std.specs.Prelude.{ℕ, zero, suc, ◌+◌, Bool, Option, None, Some}
use Rattle.ways.specs.declared.Direction.{Direction}
use Rattle.record.specs.declared.Regulator.{Regulator}
use Rattle.record.specs.declared.State.{State}
use Rattle.claim.specs.Claim.{rest_after}
use Rattle.rules.specs.declared.Ticked.{Ticked}
use Rattle.rules.specs.Ticks.{outputs_in, all_off}
use Rattle.ahead.specs.declared.Outlook.{Outlook}
use Rattle.ahead.specs.Looking.{way_begun}
use Rattle.ahead_looking.specs.declared.Glance.{Glance}

-- of a record's tick: its outputs and its state
abbrev pub glance_of : Ticked Regulator → Glance State
glance_of t = record { outputs = outputs_in t.reply; next = t.next.state }

-- what stands after a tick: no command yet
abbrev pub passed_by : {N : Type 0} → Glance N → Outlook N
passed_by g = record { begun = None; outputs = g.outputs; next = g.next }

-- tick k, with the command that it begins; where it begins none, what comes later
unfoldable pub begun_or : {N : Type 0} → ℕ → Glance N → Option Direction → Outlook N → Outlook N
begun_or k g None later = later
begun_or k g (Some d) later = record { begun = Some (record { tick = k; direction = d }); outputs = g.outputs; next = g.next }

-- n ticks more, after k of them and what these left
unfoldable pub outlook_on : {N : Type 0} → (N → Glance N) → ℕ → Bool → Outlook N → ℕ → Outlook N
outlook_on tick k rest last zero = last
outlook_on tick k rest last (suc n) =
    let g = tick last.next in
    begun_or (k + 1) g (way_begun rest g.outputs) (outlook_on tick (k + 1) (rest_after g.outputs) (passed_by g) n)

abbrev pub outlook_by : {N : Type 0} → (N → Glance N) → Bool → N → ℕ → Outlook N
outlook_by tick rest first n = outlook_on tick 0 rest (record { begun = None; outputs = all_off; next = first }) n
