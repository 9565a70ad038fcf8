-- Each case has its numbers and is given back by them; numbers that are some case's are those of the case that they give.
-- Assumes nothing.
use mathlib.Core.Path.{◌≡◌}
use mathlib.Core.Bool.{true, ◌&&◌}
use Rattle.common.proofs.Joined.{and_left, and_right}
use Rattle.keys.specs.declared.Keys.{Keys}
use Rattle.coding_keys.specs.declared.KeyImage.{KeyImage}
use Rattle.coding_flag.specs.Numbers.{is_bit}
use Rattle.coding_keys.specs.Numbers.{key_image, keys_of, are_keys}
use Rattle.coding_flag.proofs.Cases.{bit_back, bit_is, bit_same}

pub keys_back : (k : Keys) → keys_of (key_image k) ≡ k
unfolding key_image keys_of
keys_back k =
    rw (
      bit_back k.panel.raise,
      bit_back k.panel.lower,
      bit_back k.dispatcher.raise,
      bit_back k.dispatcher.lower,
      bit_back k.remote,
    )

pub keys_are : (k : Keys) → are_keys (key_image k) ≡ true
unfolding key_image
keys_are k =
    rw (
      bit_is k.panel.raise,
      bit_is k.panel.lower,
      bit_is k.dispatcher.raise,
      bit_is k.dispatcher.lower,
      bit_is k.remote,
    )

pub keys_same : (m : KeyImage) → are_keys m ≡ true → key_image (keys_of m) ≡ m
unfolding key_image keys_of
keys_same m p =
    let raise = is_bit m.raise_button in
    let lower = is_bit m.lower_button in
    let far-raise = is_bit m.remote_raise in
    let far-lower = is_bit m.remote_lower in
    let remote = is_bit m.remote in
    let pairs : (raise && lower && (far-raise && far-lower)) ≡ true = and_left _ remote p in
    let panel : (raise && lower) ≡ true = and_left _ (far-raise && far-lower) pairs in
    let dispatcher : (far-raise && far-lower) ≡ true = and_right (raise && lower) _ pairs in
    rw (
      bit_same _ (and_left raise lower panel),
      bit_same _ (and_right raise lower panel),
      bit_same _ (and_left far-raise far-lower dispatcher),
      bit_same _ (and_right far-raise far-lower dispatcher),
      bit_same _ (and_right (raise && lower && (far-raise && far-lower)) remote p),
    )
