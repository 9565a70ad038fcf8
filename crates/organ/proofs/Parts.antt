-- The two parts of a stepped organ, and both arrays from their places.
-- Assumes nothing.
use mathlib.Core.Path.{◌≡◌}
use mathlib.Core.Bool.{Bool}
use mathlib.Core.List.{List}
use Rattle.common.specs.Places.{zip}
use Rattle.common.proofs.Done.{done_on, done_all}
use Rattle.organ.specs.declared.Organ.{Organ}
use Rattle.organ.specs.declared.OrganInput.{OrganInput}
use Rattle.organ.specs.declared.Stepped.{Stepped}
use Rattle.organ.specs.declared.Organs.{Organs}
use Rattle.organ.specs.Organs.{organ_of, trip_of, stepped_of, all_stepped_of}

pub its_organ : (s : Stepped) (o : Organ) (x : OrganInput) → s ≡ stepped_of o x → s.organ ≡ organ_of o x
its_organ s o x p = cc

pub its_trip : (s : Stepped) (o : Organ) (x : OrganInput) → s ≡ stepped_of o x → s.trip ≡ trip_of o x
its_trip s o x p = cc

pub all_made : (os next : List Organ) (trips : List Bool) (xs : List OrganInput) → next ≡ zip organ_of os xs → trips ≡ zip trip_of os xs
    → ◌≡◌ {A = Organs} (record { organs = next; trips = trips }) (all_stepped_of os xs)
all_made os next trips xs p q = cc

pub ruleset stepping = (done_on, done_all, its_organ, its_trip, all_made)
