-- A memory that each step sets, keeps or drops is, after any list, what the list says of it.
-- Assumes nothing.
use mathlib.Core.Path.{◌≡◌, refl, sym, ap, subst}
use mathlib.Core.List.{List, [], ◌∷◌, ◌++◌, tail-eq_of_cons-eq, head-eq_of_cons-eq, cons≢nil}
use mathlib.Core.Logic.{◌⊎◌, inl, inr, ⊎_elim, ◌↔◌}
use Rattle.claim.specs.Runs.{run_of, after_of}
use Rattle.history.specs.Kept.{Each, SetAndKept}

module _ {T : Type 0} (Sets Keeps : T → Type 0) where
  -- no tick of the empty list set it
  pub nothing : SetAndKept T Sets Keeps [] → ⊥
  nothing k = go k.before k.whole
    where
      go : (b : List T) → [] ≡ b ++ (k.tick ∷ k.since) → ⊥
      go [] e = cons≢nil (sym e)
      go (t ∷ b) e = cons≢nil (sym e)

  pub earlier : (t : T) (ts : List T) → SetAndKept T Sets Keeps ts → SetAndKept T Sets Keeps (t ∷ ts)
  earlier t ts k =
      record { before = t ∷ k.before; tick = k.tick; since = k.since; whole = ap (λ (l : List T). t ∷ l) k.whole; sets = k.sets; kept = k.kept }

  pub first : (t : T) (ts : List T) → Sets t → Each Keeps ts → SetAndKept T Sets Keeps (t ∷ ts)
  first t ts p k = record { before = []; tick = t; since = ts; whole = refl; sets = p; kept = k }

  pub later : (t : T) (ts : List T) → SetAndKept T Sets Keeps (t ∷ ts) → SetAndKept T Sets Keeps ts ⊎ (Sets t × Each Keeps ts)
  later t ts k = go k.before k.whole
    where
      go : (b : List T) → t ∷ ts ≡ b ++ (k.tick ∷ k.since) → SetAndKept T Sets Keeps ts ⊎ (Sets t × Each Keeps ts)
      go [] e = inr (subst Sets (sym (head-eq_of_cons-eq e)) k.sets, subst (Each Keeps) (sym (tail-eq_of_cons-eq e)) k.kept)
      go (u ∷ b) e = inl (record { before = b; tick = k.tick; since = k.since; whole = tail-eq_of_cons-eq e; sets = k.sets; kept = k.kept })

-- `Has` is the memory, `step` what a step does to it, `Holds` what holds all along
module _ {S I T : Type 0} (next : S → I → S) (seen : S → I → T) (Holds : S → Type 0) (holds : (s : S) (i : I) → Holds s → Holds (next s i))
    (Has : S → Type 0) (Sets Keeps : T → Type 0)
    (step : (s : S) (i : I) → Holds s → Has (next s i) ↔ (Sets (seen s i) ⊎ (Has s × Keeps (seen s i)))) where
  -- the list set it and kept it, or it was there before and the whole list kept it
  pub remembers : (s : S) (is : List I) → Holds s
      → Has (after_of next s is) ↔ (SetAndKept T Sets Keeps (run_of next seen s is) ⊎ (Has s × Each Keeps (run_of next seen s is)))
  remembers s [] h = (λ p. inr (p, tt), λ q. ⊎_elim (λ k. absurd (nothing Sets Keeps k)) (λ k. k.0) q)
  remembers s (i ∷ is) h =
      let g = remembers (next s i) is (holds s i h) in
      let f = step s i h in (
        λ p.
            ⊎_elim (λ k. inl (earlier Sets Keeps _ _ k))
            (λ k. ⊎_elim (λ a. inl (first Sets Keeps _ _ a k.1)) (λ a. inr (a.0, (a.1, k.1))) (f.0 k.0))
            (g.0 p),
        λ q.
            g.1
            (⊎_elim (λ k. ⊎_elim (λ a. inl a) (λ a. inr (f.1 (inl a.0), a.1)) (later Sets Keeps _ _ k))
            (λ k. inr (f.1 (inr (k.0, k.1.0)), k.1.1)) q),
      )

  -- where it was not there before, the list alone
  pub remembers_from_none : (s : S) (is : List I) → Holds s → (Has s → ⊥) → Has (after_of next s is) ↔ SetAndKept T Sets Keeps (run_of next seen s is)
  remembers_from_none s is h n =
      let g = remembers s is h in (λ p. ⊎_elim (λ k. k) (λ k. absurd (n k.0)) (g.0 p), λ k. g.1 (inl k))
