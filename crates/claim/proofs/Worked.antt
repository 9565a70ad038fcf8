-- Lists that the rules give (`rules/proofs/Worked.antt`), what demand 3 says of them, and that its bounds are reached.
-- Assumes nothing.
use Prim.Native.Nat.{ℕ}
use native.Mathlib.Omega.{arith}
use mathlib.Core.Path.{◌≡◌, refl}
use mathlib.Core.Bool.{true, false}
use mathlib.Core.List.{List, [], ◌∷◌, ◌++◌}
use lib.Dec.{lit<, lit≤}
use lib.ListN.{replicate}
use Rattle.common.specs.Choice.{choose}
use Rattle.input.specs.Brought.{bit_of}
use Rattle.ways.specs.declared.Direction.{Direction}
use Rattle.ways.specs.declared.Direction.TheVariants.{Raise, Lower}
use Rattle.claim.specs.Claim.{Tick, Opening, All, Some, Begins, Command, Lasting, Waiting, BeganAtZero, longest, output, mode_field, block_field, Serves, Kept, closed}
use Rattle.claim.specs.Scenes.{sheet_of, varied_by, varied_sheet, held_sheet}
use Rattle.claim.proofs.Lists.{all_join, all_last, all_same}
use Rattle.claim.proofs.Ticks.{shows, tick_on, open_to, closed_to, in_band, waits, commands, served_row_lem, held_to, held, held_long, held_band, reset_contact, begins_shown, open_lasts, moves_lasts, open_waits, held_waits, is_open, band_not, ends_not, long_not, all_served, serves, exactly_to}

-- ---- the lists

-- on a record that holds these waits; on the fresh one; on one that holds a wait of 10 ticks to the low side; on one outside its limits
abbrev pub opening_with : (low_wait high_wait : ℕ) → Opening
opening_with low_wait high_wait = record { within = true; settings = varied_sheet; low_wait = low_wait; high_wait = high_wait }

abbrev pub fresh_opening : Opening
fresh_opening = opening_with 0 0

abbrev pub waiting_opening : Opening
waiting_opening = opening_with 10 0

-- without a switching contact
abbrev pub held_opening : Opening
held_opening = record { within = true; settings = held_sheet; low_wait = 0; high_wait = 0 }

abbrev pub outside_opening : Opening
outside_opening = record { within = false; settings = varied_sheet; low_wait = 0; high_wait = 0 }

-- after a served command T2 is in force
abbrev pub row_t2 : List ℕ → Direction → List Tick
row_t2 sheet d = replicate 24 (waits sheet d 25) ++ (commands sheet d 25 ∷ [])

-- two ticks in band, a row under T1, a served command, a row under T2
abbrev pub served_list : Direction → ℕ → ℕ → List Tick
served_list d before hold =
    in_band ∷ in_band ∷ (replicate 22 (waits varied_sheet d 23) ++ (commands varied_sheet d 23 ∷ served_row_lem varied_sheet d before hold (row_t2 varied_sheet d)))

-- a served command to a side at once, that closes its contact as late and holds it as long as it may, and a row under T2
abbrev pub bound_row : Direction → List Tick
bound_row d = served_row_lem varied_sheet d 21 24 (row_t2 varied_sheet d)

abbrev pub bound_list : Direction → List Tick
bound_list d = commands varied_sheet d 23 ∷ bound_row d

-- with T6 1, a command at once, that closes its contact at once and for one tick
abbrev pub brief_row : List Tick
brief_row = served_row_lem (varied_by 1) Lower 0 1 (waits (varied_by 1) Lower 25 ∷ [])

abbrev pub brief_list : List Tick
brief_list = commands (varied_by 1) Lower 23 ∷ brief_row

-- a row to the high side, above U_set5
abbrev pub high_list : List Tick
high_list = replicate 20 (waits varied_sheet Lower 21) ++ (commands varied_sheet Lower 21 ∷ [])

-- a row to the low side, where 10 ticks were waited before
abbrev pub waiting_list : List Tick
waiting_list = replicate 12 (waits varied_sheet Raise 23) ++ (commands varied_sheet Raise 23 ∷ [])

-- three refused ticks
abbrev pub outside_list : List Tick
outside_list = replicate 3 (tick_on true 23 23 (open_to Raise) 4 (shows []))

-- without a switching contact, bit 1 set throughout. A row under T1, the longest delay, and the command held up to the T4th tick after
-- its first. There it ends as 'long', and after reset comes a row under T1 again, not under T2; or it ends in band on that very tick.
abbrev pub held_row : ℕ → List Tick
held_row contacts = replicate 24 (held_to Raise true 25 contacts 0 0) ++ (held_to Raise true 25 contacts 1 1 ∷ [])

abbrev pub held_first : List Tick
held_first = held_row (closed_to Raise) ++ (replicate 23 held ++ (held_long ∷ []))

abbrev pub held_list : List Tick
held_list = held_first ++ held_row reset_contact

abbrev pub held_band_list : List Tick
held_band_list = held_row (closed_to Raise) ++ (replicate 23 held ++ (held_band ∷ []))

-- a row to the high side, above U_set5
abbrev pub held_high : (on moving : ℕ) → Tick
held_high on moving = held_to Lower true 21 (closed_to Lower) on moving

abbrev pub held_high_list : List Tick
held_high_list = replicate 20 (held_high 0 0) ++ (held_high 1 1 ∷ [])

-- ---- a row after ticks that are no waiting ticks: the command begins on the tick numbered T1

pub after_band : (d : Direction) (before hold : ℕ) → Kept fresh_opening (served_list d before hold) → Begins d (commands varied_sheet d 23)
after_band d before hold k =
    (exactly_to fresh_opening (in_band ∷ in_band ∷ []) (served_row_lem varied_sheet d before hold (row_t2 varied_sheet d)) d (band_not d) varied_sheet 23 23 (open_to d)
    (open_waits varied_sheet refl d 23) 22 1 1 k).1 refl

-- ---- a row under T2, the longest delay, after a served command that closes its contact before the T5th tick, and holds it for more than
-- T6 and less than T4 ticks

module _ (d : Direction) where
  -- all that stands before that row
  abbrev first_part : ℕ → ℕ → List Tick
  first_part before hold = in_band ∷ in_band ∷ (replicate 22 (waits varied_sheet d 23) ++ (commands varied_sheet d 23 ∷ served_row_lem varied_sheet d before hold []))

  pub under_t2 : Kept fresh_opening (served_list d 4 5) → Begins d (commands varied_sheet d 25)
  under_t2 k =
      (exactly_to fresh_opening (first_part 4 5) [] d (ends_not d varied_sheet) varied_sheet 25 23 (open_to d) (open_waits varied_sheet refl d 25) 24 1 1 k).1 refl

  pub at_the_latest : Kept fresh_opening (served_list d 4 5) → Some (Begins d) (row_t2 varied_sheet d)
  at_the_latest k =
      k.latest d (first_part 4 5) (replicate 24 (waits varied_sheet d 25)) (commands varied_sheet d 25) [] refl
      (all_same (Waiting d) 24 (waits varied_sheet d 25) (open_waits varied_sheet refl d 25 0 0)) (open_waits varied_sheet refl d 25 1 1) refl

-- ---- a second command on the very bound, T5 + T4 + T2 = 71 ticks after the first, and none between

module _ (d : Direction) where
  all_t2 : (P : Tick → Type 0) → P (waits varied_sheet d 25) → P (commands varied_sheet d 25) → All P (row_t2 varied_sheet d)
  all_t2 P p q = all_join P (replicate 24 (waits varied_sheet d 25)) (commands varied_sheet d 25 ∷ []) (all_same P 24 (waits varied_sheet d 25) p) (q, tt)

  lasts : All (Lasting d) (bound_row d)
  lasts =
      all_served varied_sheet d 21 24 (row_t2 varied_sheet d) (Lasting d) (open_lasts varied_sheet refl d false 25 1 1) (moves_lasts varied_sheet refl d)
      (open_lasts varied_sheet refl d false 25 0 0) (all_t2 (Lasting d) (open_lasts varied_sheet refl d true 25 0 0) (open_lasts varied_sheet refl d true 25 1 1))

  bound_serves : Serves varied_sheet (bound_row d)
  bound_serves =
      serves varied_sheet d 21 24 (row_t2 varied_sheet d) (all_t2 (λ t. closed t ≡ false) (is_open d varied_sheet true 25 0 0) (is_open d varied_sheet true 25 1 1))
      (lit< tt) (lit< tt) (lit≤ tt) (lit≤ tt)

  pub again : (l h : ℕ) → Kept (opening_with l h) (bound_list d) → Some Command (bound_row d)
  again l h k =
      k.again d [] (commands varied_sheet d 23) (bound_row d) [] refl refl (begins_shown varied_sheet d 23 23 (open_to d) 1) refl (λ none. (lasts, bound_serves))

-- ---- with T6 1 a hold of one tick serves a command

pub brief_serves : Serves (varied_by 1) brief_row
brief_serves =
    serves (varied_by 1) Lower 0 1 (waits (varied_by 1) Lower 25 ∷ []) (is_open Lower (varied_by 1) true 25 0 0, tt) (lit< tt) (lit< tt) (lit≤ tt) (lit≤ tt)

-- ---- a row to the high side under T3, that opens the list on a record with a wait to the other side

pub under_t3 : Kept waiting_opening high_list → Begins Lower (commands varied_sheet Lower 21)
under_t3 k = (exactly_to waiting_opening [] [] Lower refl varied_sheet 21 23 (open_to Lower) (open_waits varied_sheet refl Lower 21) 20 1 1 k).1 refl

-- ---- a row from a record that holds a wait to its side did not begin at zero: 13 ticks are enough, and they are unblocked

pub not_at_zero : BeganAtZero Raise waiting_opening [] → ⊥
not_at_zero e = omega arith

pub unblocked : Kept waiting_opening waiting_list → (output 13 (commands varied_sheet Raise 23) ≡ 0) × (output 15 (commands varied_sheet Raise 23) ≡ 0)
unfolding choose
unblocked k =
    all_last (λ t. Begins Raise t → (output (mode_field t.contacts) t ≡ 0) × (output (block_field Raise) t ≡ 0))
    (replicate 12 (waits varied_sheet Raise 23)) (commands varied_sheet Raise 23) (k.unblocked Raise) (begins_shown varied_sheet Raise 23 23 (open_to Raise) 1)

-- ---- without a switching contact: rows with bit 1 set, the first on its bound, the longest delay; after 'long' and reset; above U_set5

pub held_latest : Kept held_opening held_list → Some (Begins Raise) (held_row (closed_to Raise))
held_latest k =
    let low : ℕ → ℕ → Tick = held_to Raise true 25 (closed_to Raise) in
    k.latest Raise [] (replicate 24 (low 0 0)) (low 1 1) (replicate 23 held ++ (held_long ∷ held_row reset_contact)) refl
    (all_same (Waiting Raise) 24 (low 0 0) (held_waits Raise 25 (closed_to Raise) 0 0 refl refl)) (held_waits Raise 25 (closed_to Raise) 1 1 refl refl) refl

module _ (d : Direction) (delay contacts : ℕ) (p : bit_of contacts 13 ≡ false) (q : bit_of contacts 14 ≡ true) where
  whatever_bit_1 : (on moving : ℕ) → Waiting d (held_to d true delay contacts on moving)
  whatever_bit_1 on moving = held_waits d delay contacts on moving p q

pub held_exactly : Kept held_opening held_list → Begins Raise (held_to Raise true 25 (closed_to Raise) 1 1)
held_exactly k =
    (exactly_to held_opening [] (replicate 23 held ++ (held_long ∷ held_row reset_contact)) Raise refl held_sheet 25 25 (closed_to Raise)
    (whatever_bit_1 Raise 25 (closed_to Raise) refl refl) 24 1 1 k).1 refl

pub held_again : Kept held_opening held_list → Begins Raise (held_to Raise true 25 reset_contact 1 1)
held_again k =
    (exactly_to held_opening held_first [] Raise long_not held_sheet 25 25 reset_contact (whatever_bit_1 Raise 25 reset_contact refl refl) 24 1 1 k).1 refl

pub held_under_t3 : Kept held_opening held_high_list → Begins Lower (held_high 1 1)
held_under_t3 k =
    (exactly_to held_opening [] [] Lower refl held_sheet 21 25 (closed_to Lower) (whatever_bit_1 Lower 21 (closed_to Lower) refl refl) 20 1 1 k).1 refl

-- ---- a list that is refused from end to end

pub refused : Kept outside_opening outside_list → All (λ t. t.refusal ≡ 4) outside_list
unfolding choose
refused k = k.refused

-- ---- the longest of T1, T2 and T3, whichever it is

pub longest_is : (longest (sheet_of 0 0 90000 23 22 21 20 20 0) ≡ 23) × (longest (sheet_of 0 0 90000 21 23 22 20 20 0) ≡ 23)
    × (longest (sheet_of 0 0 90000 22 21 23 20 20 0) ≡ 23)
longest_is = (refl, refl, refl)
