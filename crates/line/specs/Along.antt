-- The voltage U along the line's impedance (02, ticket 3). Definitions only.
use Rattle.std.specs.Prelude.{ℕ, ◌+◌, ◌*◌, Option, None, Some, List, leb, ℤ, pos, nat_abs, ◌+ℤ◌, ◌-ℤ◌, ◌*ℤ◌}
use Rattle.std.specs.Int.Signed.{quot_z}
use Rattle.common.specs.Choice.{choose}
use Rattle.slots.specs.Slots.{slot, resistance, reactance}
use Rattle.measure.specs.declared.Channel.TheVariants.{Voltage}
use Rattle.measure.specs.Readings.{limit_of}
use Rattle.phasor.specs.declared.Phasors.{Phasors}
use Rattle.phasor.specs.declared.Vector.{Vector}
use Rattle.phasor.specs.Pairs.{vector_of}
use Rattle.root.specs.Roots.{root_of}
use Rattle.line_current.specs.Pair.{current_of}

-- R and X: "0–400,000 with 1 A", and with 5 A less; no taken sheet has more
abbrev pub most_impedance : ℕ
most_impedance = 400000

-- the products of a drop's part together, in µV
abbrev pub most_product : ℕ
most_product = 320000000000

-- a drop's part, and a part of what remains, in mV
abbrev pub most_drop : ℕ
most_drop = 554256320

abbrev pub most_remains : ℕ
most_remains = 554456320

-- "times 1,732,051, divided once by 1,000,000,000, toward zero"
unfoldable pub scaled_of : ℤ → ℤ
scaled_of z = quot_z (z *ℤ pos 1732051) (pos 1000000000)

-- "The drop's parts are R × I_re − X × I_im and R × I_im + X × I_re"
unfoldable pub drop_re : ℕ → ℕ → ℤ → ℤ → ℤ
drop_re r x re im = scaled_of (pos r *ℤ re -ℤ pos x *ℤ im)

unfoldable pub drop_im : ℕ → ℕ → ℤ → ℤ → ℤ
drop_im r x re im = scaled_of (pos r *ℤ im +ℤ pos x *ℤ re)

-- "what remains": U_AB, part by part, less the drop of the current
unfoldable pub remains_of : ℕ → ℕ → Option Vector → Option Vector → Option Vector
remains_of r x None i = None
remains_of r x (Some u) None = None
remains_of r x (Some u) (Some i) = Some (record { re = u.re -ℤ drop_re r x i.re i.im; im = u.im -ℤ drop_im r x i.re i.im })

-- "the sum of the squares"
unfoldable pub squares_of : ℤ → ℤ → ℕ
squares_of re im = nat_abs re * nat_abs re + nat_abs im * nat_abs im

-- "U is the largest whole number whose square is not above the sum of the squares of what remains"
unfoldable pub magnitude_of : Option Vector → Option ℤ
magnitude_of None = None
magnitude_of (Some v) = Some (pos (root_of (squares_of v.re v.im)))

-- an impedance that no taken sheet has is missing
unfoldable pub far_end_of : List ℕ → Option Vector → Option Vector → Option ℤ
far_end_of s u i =
    choose (leb (slot s resistance) most_impedance)
    (choose (leb (slot s reactance) most_impedance) (magnitude_of (remains_of (slot s resistance) (slot s reactance) u i)) None)
    None

-- "U is missing if a needed part is missing or Held": U_AB's pair and those of the currents that slot 4 names are needed
unfoldable pub along_of : List ℕ → Phasors → Option ℤ
along_of s p = far_end_of s (vector_of (limit_of Voltage) p.u_ab) (current_of s p)
