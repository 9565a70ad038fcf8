-- The rules of a journal, number by number (02, ticket 9). Definitions only.
use Rattle.std.specs.Prelude.{ℕ, suc, Bool, true, false, not, ◌&&◌, ◌||◌, List, [], ◌∷◌, Option, None, Some, Result, Ok, Err, ⊤, eqb, ltb, leb, get_or, set, replicate}
use Rattle.common.specs.Choice.{choose}
use Rattle.acting_accounting.specs.Accounting.{most_operations}
use Rattle.showing.specs.Showing.{field_count}
use Rattle.journal.specs.declared.Progress.{Progress}
use Rattle.journal.specs.declared.Turn.{Turn}
use Rattle.journal.specs.declared.Turn.TheVariants.{Stamp, Field, Value}
use Rattle.journal.specs.Stamps.{is_later}

-- before the first number: no stamp yet, each field's value "at first 0"
unfoldable pub journal_start : Progress
journal_start = record { turn = Stamp; stamp = None; same = false; field = 0; last = replicate field_count 0 }

-- the fields whose values may be above 1, and the highest tap that a sheet takes
abbrev pub tap_field : ℕ
tap_field = 3

abbrev pub operations_field : ℕ
operations_field = 25

abbrev pub highest_tap : ℕ
highest_tap = 40

-- "values at most 1, but 40 for field 3 and 999,999 for field 25"
unfoldable pub highest_value : ℕ → ℕ
highest_value f = choose (eqb f tap_field) highest_tap (choose (eqb f operations_field) most_operations 1)

-- "its field's last one"
abbrev pub last_value : Progress → ℕ
last_value s = get_or s.last s.field 0

-- whether a stamp is the last one
abbrev pub is_last : Option ℕ → ℕ → Bool
is_last None n = false
is_last (Some a) n = eqb n a

-- "Neighbouring records have equal or later stamps"
abbrev pub may_follow : Option ℕ → ℕ → Bool
may_follow None n = true
may_follow (Some a) n = eqb n a || is_later a n

-- what stands before the next number, where this one keeps the rules
unfoldable pub judged_stamp : Progress → ℕ → Option Progress
judged_stamp s n =
    choose (may_follow s.stamp n) (Some (record { turn = Field; stamp = Some n; same = is_last s.stamp n; field = s.field; last = s.last })) None

-- "with equal stamps the field rises"; "Fields are 0–27"
unfoldable pub judged_field : Progress → ℕ → Option Progress
judged_field s n =
    choose (ltb n field_count && (not s.same || ltb s.field n))
    (Some (record { turn = Value; stamp = s.stamp; same = s.same; field = n; last = s.last }))
    None

-- "A value differs from its field's last one"
unfoldable pub judged_value : Progress → ℕ → Option Progress
judged_value s n =
    choose (leb n (highest_value s.field) && not (eqb n (last_value s)))
    (Some (record { turn = Stamp; stamp = s.stamp; same = s.same; field = s.field; last = set s.last s.field n }))
    None

-- "stamp, field, new value", one after the other
abbrev pub judged_at : Turn → Progress → ℕ → Option Progress
judged_at Stamp s n = judged_stamp s n
judged_at Field s n = judged_field s n
judged_at Value s n = judged_value s n

unfoldable pub judged_number : Progress → ℕ → Option Progress
judged_number s n = judged_at s.turn s n

-- whether a change has ended
abbrev pub has_ended : Turn → Bool
has_ended Stamp = true
has_ended Field = false
has_ended Value = false

-- a number before the list
abbrev pub one_later : Result ⊤ ℕ → Result ⊤ ℕ
one_later (Ok u) = Ok u
one_later (Err i) = Err (suc i)

-- the list breaks off at a number that breaks a rule, and else goes on
abbrev pub checked_by : Option Progress → (Progress → Result ⊤ ℕ) → Result ⊤ ℕ
checked_by None rest = Err 0
checked_by (Some next) rest = one_later (rest next)

-- whether the numbers of a list keep the rules and a record ends with them; if not, "the broken number's place in the list, from 0", or the
-- list's length if it is missing
unfoldable pub checked_from : Progress → List ℕ → Result ⊤ ℕ
checked_from s [] = choose (has_ended s.turn) (Ok tt) (Err 0)
checked_from s (n ∷ ns) = checked_by (judged_number s n) (λ (next : Progress). checked_from next ns)
