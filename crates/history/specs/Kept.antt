-- A memory over a list: some of its ticks set it, and it lasts while each one after keeps it. Definitions only.
use Rattle.std.specs.Prelude.{◌≡◌, List, [], ◌∷◌, ◌++◌}

-- each of a list
abbrev pub Each : {T : Type 0} → (T → Type 0) → List T → Type 0
Each P [] = Unit {0}
Each P (t ∷ ts) = P t × Each P ts

-- a tick of the list set it, and each one since kept it
pub record SetAndKept (T : Type 0) (Sets Keeps : T → Type 0) (l : List T) : Type 0 where
  pub before : List T
  pub tick : T
  pub since : List T
  pub whole : l ≡ before ++ (tick ∷ since)
  pub sets : Sets tick
  pub kept : Each Keeps since
