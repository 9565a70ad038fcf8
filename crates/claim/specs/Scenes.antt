-- Sheets and ticks of worked lists and of worked values. Definitions only.
use Rattle.std.specs.Prelude.{ℕ, List, [], ◌∷◌}
use Rattle.std.specs.Float.{binary32}
use Rattle.std.specs.Float.Ieee.{of_bits}
use Rattle.measure.specs.declared.Reading.TheVariants.{Good, Invalid}
use Rattle.phasor.specs.declared.Phasors.{Phasors}
use Rattle.input.specs.declared.Input.{Input}

-- a sheet that is taken, in service: U_supp is 100 V, dU 2 V, U_set5 110 V; no compensation, no tap, no wear count. Of the organs, U_AB
-- under U_set2 is on if `under` is 1; the voltage organs then block manual, and not automatic. The drive has no switching contact if
-- `kind` is 1.
abbrev pub sheet_of : (kind under uSet2 t1 t2 t3 t4 t5 t6 : ℕ) → List ℕ
sheet_of kind under uSet2 t1 t2 t3 t4 t5 t6 =
    -- in service; 1 A; no load current needed; no compensation; its current; tap from nothing
    1 ∷ 0 ∷ 0 ∷ 0 ∷ 0 ∷ 0
    -- organs on; current, voltage organs; no end tap block, pulse, no wear count, organs block manual
    ∷ 0 ∷ 0 ∷ 0 ∷ 0 ∷ under ∷ 0 ∷ 0 ∷ 0 ∷ under ∷ 0 ∷ 0 ∷ 0 ∷ under
    -- U_supp 1–4, dU, U_comp
    ∷ 100000 ∷ 100000 ∷ 100000 ∷ 100000 ∷ 2000 ∷ 5100
    -- I_set1–3, U_set1–5
    ∷ 1000 ∷ 1000 ∷ 100 ∷ 120000 ∷ uSet2 ∷ 10000 ∷ 5000 ∷ 110000
    -- T1–T6, T7, T8, T9–T15
    ∷ t1 ∷ t2 ∷ t3 ∷ t4 ∷ t5 ∷ t6 ∷ 0 ∷ 20 ∷ 0 ∷ 0 ∷ 0 ∷ 0 ∷ 0 ∷ 0 ∷ 0
    -- N_pos, N_R, N_L, N_start, N_max, sliding taps, the kind of drive, R, X, the ratings
    ∷ 20 ∷ 40 ∷ 1 ∷ 0 ∷ 500000 ∷ 0 ∷ 0 ∷ 0 ∷ 0 ∷ 0 ∷ 0 ∷ 0 ∷ 0 ∷ 0 ∷ 0 ∷ kind ∷ 0 ∷ 0 ∷ 1250 ∷ 1250 ∷ []

-- T1 to T5 are 20 ticks, T6 is 0
abbrev pub plain_sheet : List ℕ
plain_sheet = sheet_of 0 0 90000 20 20 20 20 20 0

-- T1 to T5 are all different, T2 is the longest of the delays; at 98 V an organ trips and blocks manual
abbrev pub varied_by : (t6 : ℕ) → List ℕ
varied_by t6 = sheet_of 0 1 99000 23 25 21 24 22 t6

-- and T6 is another
abbrev pub varied_sheet : List ℕ
varied_sheet = varied_by 3

-- the same for a drive without a switching contact, with T1 the longest of the delays
abbrev pub held_sheet : List ℕ
held_sheet = sheet_of 1 1 99000 25 23 21 24 22 3

-- no part of a pair is there
abbrev pub no_phasors : Phasors
no_phasors =
    record { u_ab = record { re = Invalid; im = Invalid }; i_bus = record { re = Invalid; im = Invalid }; i_coupler = record { re = Invalid; im = Invalid } }

-- a tick with a Good U_AB by its bits, all else Invalid; `contacts` as given
abbrev pub brought : ℕ → ℕ → Input
brought bits contacts =
    record {
      u_ab = Good (of_bits binary32 bits);
      u0 = Invalid;
      u2 = Invalid;
      i_high = Invalid;
      i_bus = Invalid;
      i_coupler = Invalid;
      phasors = no_phasors;
      contacts = contacts;
      bcd = 0;
      sensor = 0;
    }

-- 98 V, low, with bits 0 (breaker closed) and 14 (automatic)
abbrev pub low_open : Input
low_open = brought 0x42C4_0000 0x4001
