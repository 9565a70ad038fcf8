-- What the check of a list answers: the paper's table of refusals, with 5 of 02, ticket 2.
use Rattle.std.specs.Prelude.{ℕ, Bool, not, ◌&&◌, ◌||◌, List, [], ◌∷◌, leb, ltb, eqb, length, replicate, Result, Ok, Err, is_ok}
use Rattle.common.specs.Choice.{choose}
use Rattle.slots.specs.Slots.{slot, slots, tap_source, n_pos, n_r, n_l, continuous, is_continuous}
use Rattle.sheet_ranges.specs.Ranges.{first_out_of_range}
use Rattle.sheet.specs.declared.Refusal.{Refusal}
use Rattle.sheet.specs.declared.Refusal.TheVariants.{WrongLength, OutOfRange, TapOrder, CountedTap}

-- the paper's number of a refusal
abbrev pub refusal_number : Refusal → ℕ
refusal_number WrongLength = 1
refusal_number (OutOfRange i) = 2
refusal_number (TapOrder i) = 3
refusal_number CountedTap = 5

-- the slot that the paper returns with it
abbrev pub refusal_slot : Refusal → ℕ
refusal_slot WrongLength = 0
refusal_slot (OutOfRange i) = i
refusal_slot (TapOrder i) = i
refusal_slot CountedTap = continuous

-- the paper's number of an answer, 0 for a list that is taken
abbrev pub number_of : {A : Type 0} → Result A Refusal → ℕ
number_of (Ok a) = 0
number_of (Err e) = refusal_number e

-- the slot that the paper returns with it
abbrev pub slot_of : {A : Type 0} → Result A Refusal → ℕ
slot_of (Ok a) = 0
slot_of (Err e) = refusal_slot e

abbrev pub is_taken : {A : Type 0} → Result A Refusal → Bool
is_taken a = is_ok a

-- the causes, as the paper's table has them
-- 'list not 63 long'; 02, ticket 5: 'the sheet is 68 long'
abbrev pub wrong_length : List ℕ → Bool
wrong_length s = not (eqb (length s) slots)

-- 'a slot out of range'
abbrev pub out_of_range : List ℕ → Bool
out_of_range s = ltb (first_out_of_range s) slots

-- 'N_R ≤ N_L'
abbrev pub ends_crossed : List ℕ → Bool
ends_crossed s = leb (slot s n_r) (slot s n_l)

-- 'N_pos outside N_L–N_R'
abbrev pub pos_outside : List ℕ → Bool
pos_outside s = not (leb (slot s n_l) (slot s n_pos) && leb (slot s n_pos) (slot s n_r))

-- 02, ticket 2: 'slot 63 is 1 and slot 5 is 3 or 4'
abbrev pub counted_tap : List ℕ → Bool
counted_tap s = is_continuous s && (eqb (slot s tap_source) 3 || eqb (slot s tap_source) 4)

-- a cause, and what is answered to it
pub record Row (A : Type 0) : Type 0 where
  pub cause : Bool
  pub reply : A

abbrev to : {A : Type 0} → Bool → A → Row A
to b a = record { cause = b; reply = a }

-- 'they are tested in this order': the reply to the first cause that holds, else `none`
abbrev pub first_of : {A : Type 0} → List (Row A) → A → A
first_of [] none = none
first_of (r ∷ rs) none = choose r.cause r.reply (first_of rs none)

-- the answer to a list of the right length
unfoldable pub judge_of : List ℕ → Result (Unit {0}) Refusal
judge_of s =
    first_of
    (to (out_of_range s) (Err (OutOfRange (first_out_of_range s))) ∷
    to (ends_crossed s) (Err (TapOrder n_r)) ∷
    to (pos_outside s) (Err (TapOrder n_pos)) ∷
    to (counted_tap s) (Err CountedTap) ∷
    [])
    (Ok tt)

-- whether it is taken
unfoldable pub passes_of : List ℕ → Bool
passes_of s = is_taken (judge_of s)

-- the answer to any list
unfoldable pub answer_of : List ℕ → Result (Unit {0}) Refusal
answer_of s = first_of (to (wrong_length s) (Err WrongLength) ∷ []) (judge_of s)

abbrev pub zeros : List ℕ
zeros = replicate slots 0

-- an answer, with the list where it is taken
abbrev pub sheet_with : Result (Unit {0}) Refusal → List ℕ → Result (List ℕ) Refusal
sheet_with (Ok u) s = Ok s
sheet_with (Err e) s = Err e

unfoldable pub sheet_of : List ℕ → Result (List ℕ) Refusal
sheet_of s = sheet_with (answer_of s) s

-- the list where it is taken, else zeros
abbrev pub settings_of : Result (List ℕ) Refusal → List ℕ
settings_of (Ok s) = s
settings_of (Err e) = zeros

-- what is returned, in the paper's numbers
pub record Reply : Type 0 where
  pub number : ℕ
  pub slot : ℕ
  pub settings : List ℕ

-- a sheet by its number and slot, with its settings
abbrev pub reply_of : Result (List ℕ) Refusal → Reply
reply_of r = record { number = number_of r; slot = slot_of r; settings = settings_of r }

abbrev reply : ℕ → ℕ → List ℕ → Reply
reply n i s = record { number = n; slot = i; settings = s }

-- the paper's table: cause, number, slot, zeros; and the list itself where there is no cause
unfoldable pub returned_of : List ℕ → Reply
returned_of s =
    first_of
    (to (wrong_length s) (reply 1 0 zeros) ∷
    to (out_of_range s) (reply 2 (first_out_of_range s) zeros) ∷
    to (ends_crossed s) (reply 3 49 zeros) ∷
    to (pos_outside s) (reply 3 48 zeros) ∷
    to (counted_tap s) (reply 5 63 zeros) ∷
    [])
    (reply 0 0 s)
