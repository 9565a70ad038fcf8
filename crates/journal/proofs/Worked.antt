-- Worked journals, computed.
-- Assumes nothing.
use mathlib.Core.Path.{◌≡◌, refl}
use mathlib.Core.List.{[], ◌∷◌}
use Rattle.common.specs.Choice.{choose}
use Rattle.journal.specs.Texts.{groups_up_to, groups_of, journal_text}

texts : journal_text (0 ∷ 127 ∷ 128 ∷ 300 ∷ 4294967295 ∷ []) ≡ 0 ∷ 127 ∷ 128 ∷ 1 ∷ 172 ∷ 2 ∷ 255 ∷ 255 ∷ 255 ∷ 255 ∷ 15 ∷ []
unfolding journal_text groups_of groups_up_to choose
texts = refl
