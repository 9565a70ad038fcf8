-- The text of a list of numbers, and what writing it gives (02, ticket 9). Definitions only.
use Rattle.std.specs.Prelude.{ℕ, zero, suc, ◌+◌, ◌/◌, ◌%◌, List, [], ◌∷◌, ◌++◌, Result, Ok, Err, ⊤, is_ok, ltb, leb, length, drop}
use Rattle.common.specs.Choice.{choose}
use Rattle.journal.specs.Rules.{journal_start, checked_from}
use Rattle.journal.specs.declared.Refused.{Refused}
use Rattle.journal.specs.declared.Refused.TheVariants.{TooShort, Broken}
use Rattle.journal.specs.declared.TextWritten.{TextWritten}

-- at most k groups
unfoldable pub groups_up_to : ℕ → ℕ → List ℕ
groups_up_to zero n = []
groups_up_to (suc k) n = choose (ltb n 128) (n ∷ []) ((128 + n % 128) ∷ groups_up_to k (n / 128))

-- "groups of seven bits, least first, bit 7 set on all but the last group, no needless last group of 0": five hold a number below 2^35
unfoldable pub groups_of : ℕ → List ℕ
groups_of n = groups_up_to 5 n

-- the numbers one after the other
unfoldable pub journal_text : List ℕ → List ℕ
journal_text [] = []
journal_text (n ∷ ns) = groups_of n ++ journal_text ns

-- the answer by what the check of the list gave
abbrev pub answer_by : Result ⊤ ℕ → ℕ → ℕ → TextWritten
answer_by (Ok u) size room = choose (leb size room) (record { refusal = 0; place = 0; length = size }) (record { refusal = 7; place = 0; length = 0 })
answer_by (Err i) size room = record { refusal = 8; place = i; length = 0 }

-- the answer with so many bytes of room: "7 when the lent buffer is shorter than the text"; 8 "with the broken number's place in the list, from 0";
-- "8 is tested before 7"
unfoldable pub writer_answer : List ℕ → ℕ → TextWritten
writer_answer ns room = answer_by (checked_from journal_start ns) (length (journal_text ns)) room

-- a text's length or a refusal, in the numbers of the answer
abbrev pub text_written : Result ℕ Refused → TextWritten
text_written (Ok size) = record { refusal = 0; place = 0; length = size }
text_written (Err TooShort) = record { refusal = 7; place = 0; length = 0 }
text_written (Err (Broken i)) = record { refusal = 8; place = i; length = 0 }

-- the lent buffer afterwards: the text and the bytes after it, or as it was: "neither writes anything"
unfoldable pub buffer_after : List ℕ → List ℕ → List ℕ
buffer_after ns old =
    choose (is_ok (checked_from journal_start ns)) (choose (leb (length (journal_text ns)) (length old)) (journal_text ns ++ drop (length (journal_text ns)) old) old) old
