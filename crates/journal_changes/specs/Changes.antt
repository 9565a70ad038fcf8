-- What a tick, and a run of ticks, adds to a journal (02, ticket 9). Definitions only.
use Rattle.std.specs.Prelude.{ℕ, zero, suc, ◌+◌, ◌≤◌, ◌≡◌, true, List, [], ◌∷◌, ◌++◌, ◌⊎◌, eqb, leb, length, drop, set}
use Rattle.common.specs.Choice.{choose}
use Rattle.showing.specs.Showing.{field_count}
use Rattle.journal.specs.Stamps.{stamp_after}
use Rattle.journal_bounds.specs.Bounds.{bounded_from}
use Rattle.journal_changes.specs.declared.ChangesAdded.{ChangesAdded}

-- "each change of an output field: stamp, field, new value"; none where the output is what it was
unfoldable pub change_of : ℕ → ℕ → ℕ → ℕ → List ℕ
change_of stamp f b n = choose (eqb n b) [] (stamp ∷ f ∷ n ∷ [])

-- of the outputs before and now, from the field f on
unfoldable pub changes_from : ℕ → ℕ → List ℕ → List ℕ → List ℕ
changes_from stamp f [] now = []
changes_from stamp f (b ∷ before) [] = []
changes_from stamp f (b ∷ before) (n ∷ now) = change_of stamp f b n ++ changes_from stamp (f + 1) before now

-- of a run: each tick's outputs are compared with those of the tick before. "The stamp counts ticks from the number that the caller gives the
-- first one; the stamp runs through 4,294,967,295 back to 0".
unfoldable pub journal_from : ℕ → List ℕ → List (List ℕ) → List ℕ
journal_from stamp before [] = []
journal_from stamp before (now ∷ later) = changes_from stamp 0 before now ++ journal_from (stamp_after stamp 1) now later

-- ---- what the recorder gives

-- with so much room: how many numbers the tick adds, and the next tick's stamp; 7 where they do not fit
unfoldable pub recorder_answer : ℕ → List ℕ → List ℕ → ℕ → ChangesAdded
recorder_answer stamp before now room =
    choose (leb (length (changes_from stamp 0 before now)) room)
    (record { refusal = 0; count = length (changes_from stamp 0 before now); stamp = stamp_after stamp 1 })
    (record { refusal = 7; count = 0; stamp = stamp })

-- the lent list afterwards: what the tick adds at its front, and behind that what stood there; with 7 as it was
unfoldable pub list_recorded : ℕ → List ℕ → List ℕ → List ℕ → List ℕ
list_recorded stamp before now old =
    choose (leb (length (changes_from stamp 0 before now)) (length old))
    (changes_from stamp 0 before now ++ drop (length (changes_from stamp 0 before now)) old) old

-- ---- the runs that are written

-- "Runs with more ticks than that between neighbouring changes are left out". The last change was d ticks ago.
abbrev pub Close : ℕ → List ℕ → List (List ℕ) → Type 0
Close d before [] = Unit {0}
Close d before (now ∷ later) = ((now ≡ before) × Close (d + 1) now later) ⊎ ((now ≡ before → ⊥) × (d ≤ 2147483647) × Close 1 now later)

-- before the first change any time may pass
abbrev pub CloseFrom : List ℕ → List (List ℕ) → Type 0
CloseFrom before [] = Unit {0}
CloseFrom before (now ∷ later) = ((now ≡ before) × CloseFrom now later) ⊎ ((now ≡ before → ⊥) × Close 1 now later)

-- each tick has its fields, each within its bound
abbrev pub Outputs : List (List ℕ) → Type 0
Outputs [] = Unit {0}
Outputs (now ∷ later) = (length now ≡ field_count) × (bounded_from 0 now ≡ true) × Outputs later

-- ---- a journal played forward

-- the outputs on a tick, and what is left of the journal
pub record Point : Type 0 where
  pub outputs : List ℕ
  pub rest : List ℕ

-- the records at the front that have this stamp
unfoldable pub at_stamp : ℕ → List ℕ → List ℕ → Point
at_stamp stamp outputs [] = record { outputs = outputs; rest = [] }
at_stamp stamp outputs (s ∷ []) = record { outputs = outputs; rest = s ∷ [] }
at_stamp stamp outputs (s ∷ (f ∷ [])) = record { outputs = outputs; rest = s ∷ f ∷ [] }
at_stamp stamp outputs (s ∷ (f ∷ (v ∷ more))) =
    choose (eqb s stamp) (at_stamp stamp (set outputs f v) more) (record { outputs = outputs; rest = s ∷ f ∷ v ∷ more })

-- the outputs of n ticks from a stamp on
unfoldable pub played_from : ℕ → ℕ → List ℕ → List ℕ → List (List ℕ)
played_from zero stamp outputs journal = []
played_from (suc n) stamp outputs journal =
    (at_stamp stamp outputs journal).outputs ∷ played_from n (stamp_after stamp 1) (at_stamp stamp outputs journal).outputs (at_stamp stamp outputs journal).rest
