-- What a look ahead from an image promises.
-- Assumes nothing.
use Prim.Native.Nat.{ℕ, zero, suc}
use native.Mathlib.Omega.{arith}
use mathlib.Core.Path.{◌≡◌, refl, sym, ap, ◌∙◌, subst}
use mathlib.Core.Bool.{Bool, true, false}
use mathlib.Core.List.{List}
use lib.ListN.{length}
use Rattle.common.specs.Choice.{choose}
use Rattle.common.proofs.Cases.{yes, no}
use Rattle.common.proofs.Joined.{and_left, and_right}
use lib.Dec.{eqb}
use Rattle.std.specs.Prelude.{Result, Ok, Err}
use Rattle.record.specs.declared.Regulator.{Regulator}
use Rattle.record.specs.declared.State.{State}
use Rattle.record.specs.Whole.{regulator_of}
use Rattle.record_limits.specs.Limits.{within_of}
use Rattle.claim.specs.Runs.{At}
use Rattle.rules.specs.Ticks.{all_off, tick_of}
use Rattle.rules.specs.Lists.{left_by, starts_on}
use Rattle.ahead.specs.declared.Outlook.{Outlook}
use Rattle.ahead.specs.declared.Refusal.{Refusal}
use Rattle.ahead.specs.declared.Refusal.TheVariants.{Record, Horizon}
use Rattle.ahead.specs.Looking.{Answer, as_given, outlook_from, is_horizon, ahead_of}
use Rattle.ahead.specs.Words.{after_ticks, ticks_run}
use Rattle.ahead.proofs.Laws.{look_is, refusal_is, given_back_lem, lasting, stands}
use Rattle.ahead_looking.specs.declared.Glance.{Glance}
use Rattle.ahead_looking.specs.Glances.{outlook_by}
use Rattle.ahead_looking.proofs.Looks.{mapped, glance_mapped, maps, waiting, record_tick, told, looked_over}
use Rattle.image.specs.declared.Numbers.{Numbers}
use Rattle.image.specs.declared.Image.{Image}
use Rattle.image.specs.Images.{numbers_of, numbers_in, image_with, image_of, record_of}
use Rattle.image.proofs.Whole.{back, taken_same}
use Rattle.image_input.specs.declared.Brought.{Brought}
use Rattle.image_input.specs.Bringing.{input_of}
use Rattle.hosting.specs.declared.Advanced.{Advanced}
use Rattle.hosting.specs.Hosting.{ticked_image, is_accepted, image_tick_of, besides_of}
use Rattle.hosting.specs.Lists.{image_rests}
use Rattle.hosting.proofs.Hosted.{hosted}
use Rattle.hosting.proofs.Lists.{accepted_of, ticked_of, rest_of, none_accepted}
use Rattle.hosting.specs.declared.ImageTicked.{ImageTicked}
use Rattle.hosting_ahead.specs.declared.ImageOutlook.{ImageOutlook}
use Rattle.hosting_ahead.specs.Outlooks.{in_numbers, sight_of, outlook_image, image_answer_of, given_back, image_ahead_of, image_after, image_ticks_run}

-- ---- the clauses of a look that got m, b and n and gave o

abbrev pub Promised : Image → Brought → ℕ → ImageOutlook → Type 0
Promised m b n o =
    (o ≡ image_ahead_of m b n)
    × ((o.refusal ≡ choose (is_accepted m) (choose (is_horizon n) 0 6) 4)
    × (((o.refusal ≡ 0 → ⊥) → o ≡ given_back o.refusal m) × ((is_accepted o.next ≡ is_accepted m) × (o.refusal ≡ 0 → o.next ≡ image_after m b (image_ticks_run n o)))))

-- on the image of a record
module _ (r : Regulator) (b : Brought) where
  step_of : (q : Regulator) → (image_tick_of (image_of q) b).next ≡ image_of (tick_of q (input_of b)).next
  unfolding ticked_image
  step_of q = ap (λ (t : ImageTicked). t.next) (ticked_of q b)

  after_of_lem : (a : At Regulator) (n : ℕ) → image_after (image_of a.got) b n ≡ image_of (after_ticks a (input_of b) n).got
  after_of_lem a zero = refl
  after_of_lem a (suc n) = ap (λ (q : Image). image_after q b n) (step_of a.got) ∙ after_of_lem (left_by a (input_of b)) n

  module _ (n : ℕ) where
    abbrev o : Answer
    o = ahead_of r (input_of b) n

    ahead_of_lem : image_ahead_of (image_of r) b n ≡ outlook_image o
    unfolding image_ahead_of choose
    ahead_of_lem = rw (back r)

    as_given_lem : (o.refusal ≡ 0 → ⊥) → o ≡ as_given o.refusal r
    as_given_lem q = let e = given_back_lem r (input_of b) n q in e ∙ ap (λ (k : ℕ). as_given k r) (sym (ap (λ (p : Answer). p.refusal) e))

    calls : o.refusal ≡ 0 → image_of o.next ≡ image_after (image_of r) b (ticks_run n o)
    calls e = ap image_of (stands r (input_of b) n e) ∙ sym (after_of_lem (starts_on r) (ticks_run n o))

    outlook_promised : Promised (image_of r) b n (outlook_image o)
    unfolding outlook_image
    outlook_promised = (
      sym ahead_of_lem,
      (
        refusal_is r (input_of b) n ∙ ap (λ (w : Bool). choose w (choose (is_horizon n) 0 6) 4) (sym (accepted_of r)),
        (
          (λ q. ap outlook_image (as_given_lem q)),
          (accepted_of o.next ∙ lasting r (input_of b) n ∙ sym (accepted_of r), calls),
        ),
      ),
    )

    image_promised : Promised (image_of r) b n (image_ahead_of (image_of r) b n)
    image_promised = subst (Promised (image_of r) b n) (sym ahead_of_lem) outlook_promised

-- on any other image
module _ (m : Image) (b : Brought) (n : ℕ) (none : (record_of m).taken ≡ false) where
  none_ahead : image_ahead_of m b n ≡ given_back 4 m
  unfolding image_ahead_of
  none_ahead = sym (no _ _ _ _ none refl)

  given : Promised m b n (given_back 4 m)
  given = (sym none_ahead, (no _ _ _ _ (none_accepted m none) refl, ((λ q. refl), (refl, λ e. absurd (omega arith)))))

  none_promised : Promised m b n (image_ahead_of m b n)
  none_promised = subst (Promised m b n) (sym none_ahead) given

either_promised : (m : Image) (b : Brought) (n : ℕ) (taken : Bool) → (record_of m).taken ≡ taken → (taken ≡ true → image_of (record_of m).state ≡ m)
    → Promised m b n (image_ahead_of m b n)
either_promised m b n true p same = subst (λ (q : Image). Promised q b n (image_ahead_of q b n)) (same refl) (image_promised (record_of m).state b n)
either_promised m b n false p same = none_promised m b n p

-- the image's arrays of organs have their lengths by their type
pub promised : (m : Image) (b : Brought) (k : ℕ) {n : Numbers} {o : ImageOutlook} → n ≡ numbers_in m → length n.organ_marks ≡ 7
    → length n.organ_counts ≡ 7
    → o ≡ image_ahead_of m b k
    → Promised m b k o
promised m b k e h l u =
    subst (Promised m b k) (sym u)
    (either_promised m b k _ refl (taken_same m (subst (λ (q : Numbers). length q.organ_marks ≡ length q.organ_counts) e (h ∙ sym l))))

-- ---- the look

module _ (s : List ℕ) (b : Brought) where
  abbrev pub numbers_tick : Numbers → Glance Numbers
  numbers_tick n = sight_of (besides_of (image_tick_of (image_with s n) b))

  -- a tick of the numbers is that of the state
  tick_is : (m : State) → numbers_tick (numbers_of m) ≡ glance_mapped numbers_of (record_tick s (input_of b) m)
  unfolding image_of ticked_image
  tick_is m = ap (λ (t : ImageTicked). sight_of (besides_of t)) (ticked_of (regulator_of s m) b)

  numbers_looked : (m : State) (rest : Bool) (k : ℕ) → outlook_by numbers_tick rest (numbers_of m) k ≡ mapped numbers_of (outlook_by (record_tick s (input_of b)) rest m k)
  numbers_looked m rest k = maps numbers_of (record_tick s (input_of b)) numbers_tick tick_is k 0 rest (waiting all_off m)

  told_image : (o : Outlook State) → in_numbers s (mapped numbers_of o) ≡ outlook_image (told s (input_of b) o)
  unfolding outlook_image image_of
  told_image o = refl

module _ (b : Brought) (k : ℕ) where
  abbrev Looked : Image → Type 0
  Looked m =
      in_numbers m.settings (outlook_by (numbers_tick m.settings b) (image_rests m) (numbers_in m) k) ≡ outlook_image (outlook_from (starts_on (record_of m).state) (input_of b) k)

  looked_of : (r : Regulator) → within_of r ≡ true → Looked (image_of r)
  unfolding image_of
  looked_of r h =
      rw (back r)
      (ap (in_numbers r.settings) (numbers_looked r.settings b r.state (image_rests (image_of r)) k)
      ∙ told_image r.settings b (outlook_by (record_tick r.settings (input_of b)) (image_rests (image_of r)) r.state k)
      ∙ ap outlook_image (looked_over r (input_of b) k h (image_rests (image_of r)) (rest_of r _ refl)))

  looked_at : (m : Image) → length m.organ_marks ≡ length m.organ_counts → is_accepted m ≡ true → Looked m
  unfolding is_accepted
  looked_at m h a = subst Looked (taken_same m h (and_left (record_of m).taken _ a)) (looked_of (record_of m).state (and_right (record_of m).taken _ a))

-- ---- over plain values, as the function asks it

module _ (m : Image) (b : Brought) (k : ℕ) {n : Numbers} (p : n ≡ numbers_in m) (h : length n.organ_marks ≡ 7) (l : length n.organ_counts ≡ 7) where
  -- what is promised holds of the definition itself
  holds : Promised m b k (image_ahead_of m b k)
  holds = promised m b k p h l refl

  look_taken : is_accepted m ≡ true → is_horizon k ≡ true → image_ahead_of m b k ≡ outlook_image (outlook_from (starts_on (record_of m).state) (input_of b) k)
  unfolding image_ahead_of is_accepted
  look_taken a f =
      sym (yes _ _ _ _ (and_left (record_of m).taken _ a) refl) ∙ ap outlook_image (look_is (record_of m).state (input_of b) k (and_right (record_of m).taken _ a) f)

  -- a tick tells whether the image is accepted
  module _ {x : Advanced} (e : x ≡ besides_of (image_tick_of (image_with m.settings n) b)) where
    tried : x.refusal ≡ choose (is_accepted m) 0 4
    tried = ap (λ (y : Advanced). y.refusal) (e ∙ ap (λ (q : Numbers). besides_of (image_tick_of (image_with m.settings q) b)) p) ∙ (hosted m b p h l refl).1.0

    not_accepted : (a : Bool) → is_accepted m ≡ a → x.refusal ≡ 4 → a ≡ false
    not_accepted true w y = let z : x.refusal ≡ 0 = tried ∙ sym (yes _ _ _ _ w refl) in absurd (omega arith)
    not_accepted false w y = refl

    is_accepted_lem : (a : Bool) → is_accepted m ≡ a → (x.refusal ≡ 4 → ⊥) → a ≡ true
    is_accepted_lem true w y = refl
    is_accepted_lem false w y = absurd (y (tried ∙ sym (no _ _ _ _ w refl)))

    accepted : (x.refusal ≡ 4 → ⊥) → is_accepted m ≡ true
    accepted y = is_accepted_lem (is_accepted m) refl y

    module _ {o : Result (Outlook Numbers) Refusal} where
      pub four_made : x.refusal ≡ 4 → o ≡ Err Record → image_answer_of m o ≡ image_ahead_of m b k
      four_made y u =
          let r : (image_ahead_of m b k).refusal ≡ 4 = holds.1.0 ∙ sym (no _ _ _ _ (not_accepted (is_accepted m) refl y) refl) in
          ap (image_answer_of m) u ∙ sym (holds.1.1.0 (λ z. let v : ◌≡◌ {A = ℕ} 0 4 = sym z ∙ r in omega arith) ∙ ap (λ (j : ℕ). given_back j m) r)

      module _ {c : Bool} (v : c ≡ is_horizon k) where
        pub six_made : (x.refusal ≡ 4 → ⊥) → c ≡ false → o ≡ Err Horizon → image_answer_of m o ≡ image_ahead_of m b k
        six_made y f u =
            let r : (image_ahead_of m b k).refusal ≡ 6 = holds.1.0 ∙ sym (yes _ _ _ _ (accepted y) (no _ _ _ _ (sym v ∙ f) refl)) in
            ap (image_answer_of m) u ∙ sym (holds.1.1.0 (λ z. let w : ◌≡◌ {A = ℕ} 0 6 = sym z ∙ r in omega arith) ∙ ap (λ (j : ℕ). given_back j m) r)

        pub looked_made : (x.refusal ≡ 4 → ⊥) → c ≡ true → {u : Outlook Numbers} → u ≡ outlook_by (numbers_tick m.settings b) (eqb n.drive.kind 0) n k
            → o ≡ Ok u → image_answer_of m o ≡ image_ahead_of m b k
        looked_made y f {u} t z =
            let same : length m.organ_marks ≡ length m.organ_counts = subst (λ (q : Numbers). length q.organ_marks ≡ length q.organ_counts) p (h ∙ sym l) in
            ap (image_answer_of m) z
            ∙ ap (in_numbers m.settings) (t ∙ ap (λ (q : Numbers). outlook_by (numbers_tick m.settings b) (eqb q.drive.kind 0) q k) p)
            ∙ looked_at b k m same (accepted y)
            ∙ sym (look_taken (accepted y) (sym v ∙ f))
