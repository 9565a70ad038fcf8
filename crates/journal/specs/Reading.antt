-- What reading a text gives (02, ticket 9). Definitions only.
use Rattle.std.specs.Prelude.{ℕ, zero, suc, ◌+◌, ◌*◌, ◌%◌, Bool, false, ◌&&◌, List, [], ◌∷◌, ◌++◌, Option, None, Some, Result, Ok, Err, eqb, ltb, length, drop}
use Rattle.common.specs.Choice.{choose}
use Rattle.journal.specs.declared.Progress.{Progress}
use Rattle.journal.specs.Rules.{journal_start, judged_number, has_ended}
use Rattle.journal.specs.declared.Number.{Number}
use Rattle.journal.specs.declared.Refused.{Refused}
use Rattle.journal.specs.declared.Refused.TheVariants.{TooShort, Broken}
use Rattle.journal.specs.declared.NumbersRead.{NumbersRead}

-- a group before the rest of its number: none where the rest is none, or is 0, "needless"
unfoldable pub group_before : ℕ → Option Number → Option Number
group_before b None = None
group_before b (Some r) = choose (eqb r.value 0) None (Some (record { value = b % 128 + 128 * r.value; count = r.count + 1 }))

-- the number of at most k groups at the front of a text, with its count of bytes
unfoldable pub decoded_up_to : ℕ → List ℕ → Option Number
decoded_up_to zero bs = None
decoded_up_to (suc k) [] = None
decoded_up_to (suc k) (b ∷ bs) = choose (ltb b 128) (Some (record { value = b; count = 1 })) (group_before b (decoded_up_to k bs))

-- "each is an unsigned number below 4,294,967,296"
abbrev pub if_small : Option Number → Option Number
if_small None = None
if_small (Some n) = choose (ltb n.value 4294967296) (Some n) None

unfoldable pub first_number : List ℕ → Option Number
first_number bs = if_small (decoded_up_to 5 bs)

-- the numbers before the first broken one, where that begins, or the text's length if it is missing, and whether the text is a whole journal
pub record Prefix : Type 0 where
  pub numbers : List ℕ
  pub stop : ℕ
  pub whole : Bool

-- no number is read: it is a whole journal only where nothing is left and a change has ended
abbrev pub none_read : Progress → List ℕ → Prefix
none_read s bs = record { numbers = []; stop = 0; whole = eqb (length bs) 0 && has_ended s.turn }

-- a number is read, and then others
abbrev pub number_then : Number → Prefix → Prefix
number_then n t = record { numbers = n.value ∷ t.numbers; stop = n.count + t.stop; whole = t.whole }

-- a number that breaks a rule is not read, and what stands before it is no whole journal
abbrev pub kept_by : Option Progress → (Progress → Prefix) → Prefix
kept_by None rest = record { numbers = []; stop = 0; whole = false }
kept_by (Some next) rest = rest next

abbrev pub read_by : Option Number → Prefix → (Number → Prefix) → Prefix
read_by None none rest = none
read_by (Some n) none rest = rest n

-- of at most k numbers, each judged by what stands before it
unfoldable pub prefix_up_to : ℕ → Progress → List ℕ → Prefix
prefix_up_to zero s bs = none_read s bs
prefix_up_to (suc k) s bs =
    read_by (first_number bs) (none_read s bs)
    (λ (n : Number). kept_by (judged_number s n.value) (λ (next : Progress). number_then n (prefix_up_to k next (drop n.count bs))))

-- no number is shorter than a byte
unfoldable pub prefix_from : Progress → List ℕ → Prefix
prefix_from s bs = prefix_up_to (length bs) s bs

-- the same but for the numbers themselves: how many there are in a whole journal, or where another text breaks off
abbrev pub extent_by : Prefix → Result ℕ Refused
extent_by p = choose p.whole (Ok (length p.numbers)) (Err (Broken p.stop))

abbrev pub extent_of : List ℕ → Result ℕ Refused
extent_of bs = extent_by (prefix_from journal_start bs)

-- "8 when a journal breaks a rule, with the offset of the first byte of the first broken number, or the length if that number is missing";
-- "7 when .. a reader's lent list" is shorter "than its numbers"; "8 is tested before 7"
unfoldable pub reader_answer : List ℕ → ℕ → NumbersRead
reader_answer bs room =
    choose (prefix_from journal_start bs).whole
    (choose (ltb room (length (prefix_from journal_start bs).numbers)) (record { refusal = 7; offset = 0; count = 0 })
    (record { refusal = 0; offset = 0; count = length (prefix_from journal_start bs).numbers }))
    (record { refusal = 8; offset = (prefix_from journal_start bs).stop; count = 0 })

-- a count of numbers or a refusal, in the numbers of the answer
abbrev pub numbers_read : Result ℕ Refused → NumbersRead
numbers_read (Ok count) = record { refusal = 0; offset = 0; count = count }
numbers_read (Err TooShort) = record { refusal = 7; offset = 0; count = 0 }
numbers_read (Err (Broken i)) = record { refusal = 8; offset = i; count = 0 }

-- the numbers at the list's front, and behind them what stood there
abbrev pub list_filled : List ℕ → List ℕ → List ℕ
list_filled bs old = (prefix_from journal_start bs).numbers ++ drop (length (prefix_from journal_start bs).numbers) old

-- the lent list afterwards; "neither writes anything"
unfoldable pub list_after : List ℕ → List ℕ → List ℕ
list_after bs old = choose (prefix_from journal_start bs).whole (choose (ltb (length old) (length (prefix_from journal_start bs).numbers)) old (list_filled bs old)) old
