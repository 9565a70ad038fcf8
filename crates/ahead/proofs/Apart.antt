-- An answer tells which result it is: no two results of a look at a record have the same one.
-- Assumes nothing.
use native.Mathlib.Omega.{arith}
use mathlib.Core.Path.{◌≡◌, refl, sym, ap}
use Rattle.std.specs.Prelude.{Option, None, Some, Result, Ok, Err}
use Rattle.ways.specs.declared.Direction.{Direction}
use Rattle.record.specs.declared.Regulator.{Regulator}
use Rattle.ahead.specs.declared.FirstCommand.{FirstCommand}
use Rattle.ahead.specs.declared.Outlook.{Outlook}
use Rattle.ahead.specs.declared.Refusal.{Refusal}
use Rattle.ahead.specs.declared.Refusal.TheVariants.{Record, Horizon}
use Rattle.ahead.specs.Looking.{Answer, number_of, tick_of_begun, way_of_begun, answer_of}
use Rattle.ahead.proofs.Begun.{no_way}

to_apart : (d e : Direction) → Some d ≡ Some e → d ≡ e
to_apart d e h = cc

begun_apart : (a b : Option FirstCommand) → tick_of_begun a ≡ tick_of_begun b → way_of_begun a ≡ way_of_begun b → a ≡ b
begun_apart None None t w = refl
begun_apart None (Some b) t w = absurd (no_way b.direction w)
begun_apart (Some a) None t w = absurd (no_way a.direction (sym w))
begun_apart (Some a) (Some b) t w = let e = to_apart a.direction b.direction w in λ j. Some (record { tick = t j; direction = e j })

refusal_apart : (e f : Refusal) → number_of e ≡ number_of f → e ≡ f
refusal_apart Record Record h = refl
refusal_apart Record Horizon h = absurd (omega arith)
refusal_apart Horizon Record h = absurd (omega arith)
refusal_apart Horizon Horizon h = refl

is_refused : (e : Refusal) → number_of e ≡ 0 → ⊥
is_refused Record h = omega arith
is_refused Horizon h = omega arith

pub apart : (r : Regulator) (x y : Result (Outlook Regulator) Refusal) → answer_of r x ≡ answer_of r y → x ≡ y
apart r (Ok o) (Ok p) h =
    let b = begun_apart o.begun p.begun (ap (λ (a : Answer). a.tick) h) (ap (λ (a : Answer). a.way) h) in
    λ j. Ok (record { begun = b j; outputs = (h j).outputs; next = (h j).next })
apart r (Ok o) (Err e) h = absurd (is_refused e (sym (ap (λ (a : Answer). a.refusal) h)))
apart r (Err e) (Ok o) h = absurd (is_refused e (ap (λ (a : Answer). a.refusal) h))
apart r (Err e) (Err f) h = ap (λ (x : Refusal). Err x) (refusal_apart e f (ap (λ (a : Answer). a.refusal) h))
