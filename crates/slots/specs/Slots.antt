-- The paper's slots of the setting sheet, by name. A run of slots has the name of its first. The code has the same names.
use Rattle.std.specs.Prelude.{ℕ, Bool, List, eqb, get_or}

-- the number at a slot
abbrev pub slot : List ℕ → ℕ → ℕ
slot s i = get_or s i 0

-- how many slots there are
abbrev pub slots : ℕ
slots = 68

abbrev pub in_service : ℕ
in_service = 0

-- 0 for 1 A, 1 for 5 A
abbrev pub module_kind : ℕ
module_kind = 1

abbrev pub section_needs_current : ℕ
section_needs_current = 2

abbrev pub compensation : ℕ
compensation = 3

abbrev pub compensation_current : ℕ
compensation_current = 4

abbrev pub tap_source : ℕ
tap_source = 5

-- seven: organs 6 to 12
abbrev pub organs_on : ℕ
organs_on = 6

abbrev pub current_organs : ℕ
current_organs = 13

abbrev pub voltage_organs : ℕ
voltage_organs = 14

abbrev pub end_tap_block : ℕ
end_tap_block = 15

abbrev pub supply_trip : ℕ
supply_trip = 16

abbrev pub wear_count : ℕ
wear_count = 17

abbrev pub organs_block_manual : ℕ
organs_block_manual = 18

-- four: U_supp 1 to 4
abbrev pub u_supp : ℕ
u_supp = 19

abbrev pub d_u : ℕ
d_u = 23

abbrev pub u_comp : ℕ
u_comp = 24

-- seven: I_set1 to 3, U_set1 to 4
abbrev pub organ_limits : ℕ
organ_limits = 25

abbrev pub i_set1 : ℕ
i_set1 = 25

abbrev pub i_set2 : ℕ
i_set2 = 26

abbrev pub i_set3 : ℕ
i_set3 = 27

abbrev pub u_set5 : ℕ
u_set5 = 32

abbrev pub t1 : ℕ
t1 = 33

abbrev pub t2 : ℕ
t2 = 34

abbrev pub t3 : ℕ
t3 = 35

abbrev pub t4 : ℕ
t4 = 36

abbrev pub t5 : ℕ
t5 = 37

abbrev pub t6 : ℕ
t6 = 38

abbrev pub t7 : ℕ
t7 = 39

abbrev pub t8 : ℕ
t8 = 40

-- seven: T9 to T15
abbrev pub organ_delays : ℕ
organ_delays = 41

abbrev pub n_pos : ℕ
n_pos = 48

abbrev pub n_r : ℕ
n_r = 49

abbrev pub n_l : ℕ
n_l = 50

abbrev pub n_start : ℕ
n_start = 51

abbrev pub n_max : ℕ
n_max = 52

-- ten
abbrev pub sliding_taps : ℕ
sliding_taps = 53

-- 02, ticket 2: "slot 63 .. chooses continuous regulation", for a drive without a switching contact
abbrev pub continuous : ℕ
continuous = 63

-- 02, ticket 3: "Slots 64 and 65 are R and X in mΩ", of the line
abbrev pub resistance : ℕ
resistance = 64

abbrev pub reactance : ℕ
reactance = 65

-- 02, ticket 5: "Slots 66 and 67 are the transformer's and the breaker's primary rating", in A; CT is the current transformer
abbrev pub ct_rating : ℕ
ct_rating = 66

abbrev pub breaker_rating : ℕ
breaker_rating = 67

abbrev pub is_continuous : List ℕ → Bool
is_continuous s = eqb (slot s continuous) 1
