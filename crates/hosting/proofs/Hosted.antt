-- What a tick of an image promises.
-- Assumes nothing.
use mathlib.Core.Path.{◌≡◌, refl, sym, ap, ◌∙◌, subst}
use mathlib.Core.Bool.{Bool, true, false, false≢true}
use mathlib.Core.List.{List, ◌∷◌}
use Prim.Native.Nat.{ℕ}
use Rattle.common.specs.Choice.{choose}
use Rattle.common.proofs.Cases.{no, chosen}
use lib.ListN.{length}
use Rattle.record.specs.declared.Regulator.{Regulator}
use Rattle.record_limits.specs.Limits.{within_of}
use Rattle.claim.specs.Claim.{Kept}
use Rattle.record.specs.declared.State.{State}
use Rattle.record.specs.Whole.{regulator_of}
use Rattle.input.specs.declared.Input.{Input}
use Rattle.rules.specs.declared.Ticked.{Ticked}
use Rattle.rules.specs.Ticks.{refusal_in, outputs_in, refused_of, tick_of, stepped_of}
use Rattle.rules.proofs.Next.{tick_lasting}
use Rattle.rules.proofs.Steps.{accepted_is, settings_kept}
use Rattle.image.specs.declared.Numbers.{Numbers}
use Rattle.image.specs.declared.Image.{Image}
use Rattle.image_input.specs.declared.Brought.{Brought}
use Rattle.image.specs.Images.{numbers_of, is_state, state_of, numbers_in, image_with, image_of, FromImage, record_of}
use Rattle.image.proofs.Whole.{taken_same}
use Rattle.image_input.specs.Bringing.{input_of}
use Rattle.hosting.specs.declared.Advanced.{Advanced}
use Rattle.hosting.specs.declared.ImageTicked.{ImageTicked}
use Rattle.hosting.specs.Hosting.{ticked_image, advanced_of, refused_image, is_accepted, image_tick_of, besides_of, whole_of}
use Rattle.hosting.specs.Lists.{image_list_from, image_opening}
use Rattle.hosting.proofs.Lists.{accepted_of, ticked_of, kept_on, none_accepted, none_ticked, none_kept}

-- ---- the clauses of a tick that got m and b and gave t

abbrev pub Lists : Image → Brought → ImageTicked → Type 0
Lists m b t = (later : List Brought) → Kept (image_opening m) (image_list_from m b t later)

abbrev pub Promised : Image → Brought → ImageTicked → Type 0
Promised m b t =
    (t ≡ image_tick_of m b)
    × ((t.refusal ≡ choose (is_accepted m) 0 4)
    × ((is_accepted m ≡ false → t ≡ refused_image m) × ((is_accepted t.next ≡ is_accepted m) × Lists m b t)))

-- on the image of a record, by what is known of the record's tick
module _ (r : Regulator) (b : Brought) where
  outside_image : within_of r ≡ false → ticked_image (tick_of r (input_of b)) ≡ refused_image (image_of r)
  unfolding ticked_image refused_image refused_of tick_of
  outside_image h = sym (ap ticked_image (no (refused_of r) _ _ _ h refl))

  image_promised : Promised (image_of r) b (image_tick_of (image_of r) b)
  unfolding ticked_image
  image_promised = (
    refl,
    (
      rw (ticked_of r b, accepted_of r) (accepted_is r (input_of b)),
      (
        (λ n. ticked_of r b ∙ outside_image (sym (accepted_of r) ∙ n)),
        (
          rw (ticked_of r b, accepted_of r) (accepted_of (tick_of r (input_of b)).next ∙ tick_lasting r (input_of b)),
          (λ later. kept_on r (b ∷ later)),
        ),
      ),
    ),
  )

-- on any other image
none_promised : (m : Image) (b : Brought) → (record_of m).taken ≡ false → Promised m b (image_tick_of m b)
unfolding refused_image
none_promised m b none = (
  refl,
  (
    no _ _ _ _ (none_accepted m none) (ap (λ (t : ImageTicked). t.refusal) (none_ticked m none b)),
    (
      (λ n. none_ticked m none b),
      (ap (λ (t : ImageTicked). is_accepted t.next) (none_ticked m none b), (λ later. none_kept m none (b ∷ later))),
    ),
  ),
)

either_promised : (m : Image) (b : Brought) (taken : Bool) → (record_of m).taken ≡ taken → (taken ≡ true → image_of (record_of m).state ≡ m)
    → Promised m b (image_tick_of m b)
either_promised m b true p same =
    subst (λ (q : Image). Promised q b (image_tick_of q b)) (same refl) (image_promised (record_of m).state b)
either_promised m b false p same = none_promised m b p

-- the image's arrays of organs have their lengths by their type
pub hosted : (m : Image) (b : Brought) {n : Numbers} {t : ImageTicked} → n ≡ numbers_in m → length n.organ_marks ≡ 7
    → length n.organ_counts ≡ 7
    → t ≡ image_tick_of m b
    → Promised m b t
hosted m b e h k u =
    subst (Promised m b) (sym u)
    (either_promised m b _ refl (taken_same m (subst (λ (q : Numbers). length q.organ_marks ≡ length q.organ_counts) e (h ∙ sym k))))

-- ---- over plain values, as the functions ask it

module _ (s : List ℕ) (b : Brought) where
  pub run_made : (m : State) {i : Input} {x : Ticked State} {k : ℕ} {o : List ℕ} {n : Numbers}
      → i ≡ input_of b
      → x ≡ stepped_of (tick_of (regulator_of s m) i)
      → k ≡ refusal_in x.reply
      → o ≡ outputs_in x.reply
      → n ≡ numbers_of x.next
      → ◌≡◌ {A = Advanced} (record { refusal = k; outputs = record { fields = o }; numbers = n }) (besides_of (advanced_of (regulator_of s m) b))
  unfolding advanced_of ticked_image image_of
  run_made m p q v w u = rw (v, w, u, q, p) refl

  module _ (n : Numbers) {t : Advanced} {is : Bool} (e : is ≡ is_state n) where
    pub state_advanced : is ≡ true → {m : State} → m ≡ state_of n → t ≡ besides_of (advanced_of (regulator_of s m) b)
        → t ≡ besides_of (image_tick_of (image_with s n) b)
    unfolding image_tick_of record_of choose
    state_advanced y p u = rw (sym e ∙ y, ← p) u

    pub none_advanced : is ≡ false → t ≡ besides_of (refused_image (image_with s n)) → t ≡ besides_of (image_tick_of (image_with s n) b)
    unfolding image_tick_of record_of choose
    none_advanced y u = rw (sym e ∙ y) u

-- no tick changes the settings
record_settings : (m : Image) → (record_of m).taken ≡ true → (record_of m).state.settings ≡ m.settings
unfolding record_of
record_settings m =
    chosen (λ (x : FromImage). x.taken ≡ true → x.state.settings ≡ m.settings) _ _ _ (λ _ _. refl) (λ _ p. absurd (false≢true p))

image_settings : (m : Image) (b : Brought) → (image_tick_of m b).next.settings ≡ m.settings
unfolding image_tick_of advanced_of ticked_image image_of refused_image
image_settings m b =
    chosen (λ (t : ImageTicked). t.next.settings ≡ m.settings) _ _ _
    (λ p. settings_kept (record_of m).state (input_of b) ∙ record_settings m p)
    (λ _. refl)

-- a step of the image's numbers, with its settings put back, is its tick
pub image_made : (m : Image) (b : Brought) {n : Numbers} {x : Advanced} {t : ImageTicked} → n ≡ numbers_in m
    → x ≡ besides_of (image_tick_of (image_with m.settings n) b)
    → t ≡ whole_of m.settings x
    → t ≡ image_tick_of m b
image_made m b p q u =
    rw (u, q, p) (ap (λ (s : List ℕ). whole_of s (besides_of (image_tick_of m b))) (sym (image_settings m b)))
