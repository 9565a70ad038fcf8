-- The outcomes of the second step's two comparisons, with the limit of the channel that the number passed for.
-- Assumes nothing.
use mathlib.Core.Path.{◌≡◌, ap, ◌∙◌}
use mathlib.Core.Bool.{Bool, true, false}
use Prim.Native.Nat.{ℕ}
use lib.IntN.{pos}
use borrow.Author.Rules.{rules}
use lib.Ieee.{Float, binary32, of_bits, of_int, le}
use Rattle.measure.specs.Exact.{thousandths}
use Rattle.measure.specs.Readings.{limit_of, converted_of}
use Rattle.measure.specs.declared.Channel.{Channel}
use Rattle.std.specs.Prelude.{Some, None}
use Rattle.measure.proofs.Laws.{converted_whole, converted_above, converted_below}
use Rattle.measure_front.specs.declared.Passed.{Passed}

module _ (p : Passed) (c : Channel) (told : c ≡ p.channel) (x : Float) (n : ℕ) (is : n ≡ limit_of c) (above : Bool) (first : le (of_bits binary32 0) x ≡ above) where
  own : n ≡ limit_of p.channel
  own = is ∙ ap limit_of told

  pub second_whole : (t : ℕ) → above ≡ true → le x (of_int binary32 (pos n)) ≡ true → t ≡ thousandths x → Some t ≡ converted_of (limit_of p.channel) x
  second_whole = converted_whole p.channel x n own above first

  pub second_above : above ≡ true → le x (of_int binary32 (pos n)) ≡ false → None ≡ converted_of (limit_of p.channel) x
  second_above = converted_above p.channel x n own above first

  pub second_below : above ≡ false → None ≡ converted_of (limit_of p.channel) x
  second_below = converted_below p.channel x n own above first

pub ruleset second = (second_whole, second_above, second_below, rules)
